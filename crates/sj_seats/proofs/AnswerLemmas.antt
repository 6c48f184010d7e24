-- What an answer with an entry, or with none, or an error says.
use Rattle.std.proofs.Common.{◌≡◌, Option, Some, None, Result, Ok, Err, IfOk, OnErr, OnOk}
use Rattle.std.specs.Prelude.{IfNone, IfSome}

-- where each answer has none
pub none_done : {T E : Type 0} (r : Result (Option T) E) (P : T → Type 0) → IfOk r (λ o. o ≡ None) → IfOk r (λ o. IfSome o P)
none_done (Err e) P none = tt
none_done (Ok None) P none = tt
none_done (Ok (Some x)) P none = absurd (cc none)

-- what holds of all answers
pub if_none : {T E : Type 0} (r : Result (Option T) E) (P : Type 0) → P → IfOk r (λ o. IfNone o P)
if_none (Err e) P h = tt
if_none (Ok None) P h = h
if_none (Ok (Some x)) P h = tt

pub if_error : {T E : Type 0} (r : Result T E) (P : Type 0) → P → OnErr r P
if_error (Err e) P h = h
if_error (Ok x) P h = tt

-- what holds where there is an answer
pub ok_none : {T E : Type 0} (r : Result (Option T) E) (P Q : Type 0) → OnOk r P → (P → Q) → IfOk r (λ o. IfNone o Q)
ok_none (Err e) P Q h f = tt
ok_none (Ok None) P Q h f = f h
ok_none (Ok (Some x)) P Q h f = tt

-- what follows from an answer with an entry, from one with none, and from an error
pub done_so : {T E : Type 0} (r : Result (Option T) E) (P Q : T → Type 0) → ((x : T) → P x → Q x) → IfOk r (λ o. IfSome o P) → IfOk r (λ o. IfSome o Q)
done_so (Err e) P Q f h = tt
done_so (Ok None) P Q f h = tt
done_so (Ok (Some x)) P Q f h = f x h

pub none_so : {T E : Type 0} (r : Result (Option T) E) (P Q : Type 0) → (P → Q) → IfOk r (λ o. IfNone o P) → IfOk r (λ o. IfNone o Q)
none_so (Err e) P Q f h = tt
none_so (Ok None) P Q f h = f h
none_so (Ok (Some x)) P Q f h = tt

pub error_so : {T E : Type 0} (r : Result T E) (P Q : Type 0) → (P → Q) → OnErr r P → OnErr r Q
error_so (Err e) P Q f h = f h
error_so (Ok x) P Q f h = tt

-- what follows from two facts of an answer with an entry
pub done_both : {T E : Type 0} (r : Result (Option T) E) (P Q S : T → Type 0) → ((x : T) → P x → Q x → S x) → IfOk r (λ o. IfSome o P) → IfOk r (λ o. IfSome o Q) → IfOk r (λ o. IfSome o S)
done_both (Err e) P Q S f h k = tt
done_both (Ok None) P Q S f h k = tt
done_both (Ok (Some x)) P Q S f h k = f x h k
