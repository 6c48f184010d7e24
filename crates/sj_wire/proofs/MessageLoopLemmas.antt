-- Reading messages one after the other, as a loop does.
use Rattle.std.proofs.Common.{◌≡◌, ℕ, suc, ◌-◌, ◌+◌, ◌≤◌, ◌<◌, List, [], ◌∷◌, ◌++◌, Some, None, refl, sym, ap, ◌∙◌, append_assoc, arith}
use Rattle.std.proofs.lemmas.List.{append-nil}
use Rattle.sj_base.specs.declared.Msg.{Msg}
use Rattle.sj_wire.specs.declared.refusal.WireRefusal.{WireRefusal}
use Rattle.sj_wire.specs.declared.refusal.WireRefusal.TheVariants as refusals
use Rattle.sj_wire.specs.Reading.{◌>>=◌, Field, message_at, messages_at}
use Rattle.sj_wire.specs.Reads.{Fails}

-- what was read before, and what is still read
abbrev pub with_front : List Msg → Field (List Msg) → Field (List Msg)
with_front front read = read >>= λ x. Some (front ++ x.0, x.1)

regroup : (front : List Msg) (m : Msg) (read : Field (List Msg)) → with_front front (read >>= λ x. Some (m ∷ x.0, x.1)) ≡ with_front (front ++ m ∷ []) read
regroup front m (Some x) = ap (λ (ms : List Msg). Some (ms, x.1)) (simp append_assoc)
regroup front m None = refl

-- one more message is read
pub goes_on : (front : List Msg) (count i : ℕ) (bytes : List ℕ) (m : Msg) (after : List ℕ) (total : Field (List Msg)) → i < count → message_at bytes ≡ Some (m, after)
    → with_front front (messages_at (count - i) bytes) ≡ total → with_front (front ++ m ∷ []) (messages_at (count - (i + 1)) after) ≡ total
unfolding messages_at
goes_on front count i bytes m after total lt h so_far =
    let k : count - i ≡ suc (count - (i + 1)) = omega arith in
    let one : with_front front (messages_at (count - i) bytes) ≡ with_front (front ++ m ∷ []) (messages_at (count - (i + 1)) after) = rw (k, h) (regroup front m (messages_at (count - (i + 1)) after)) in
    sym one ∙ so_far

-- a message isn't read
pub ends : (e : WireRefusal) (front : List Msg) (count i : ℕ) (bytes : List ℕ) (total : Field (List Msg)) → i < count → Fails e (message_at bytes)
    → with_front front (messages_at (count - i) bytes) ≡ total → Fails e total
unfolding messages_at
ends refusals.NoMemory front count i bytes total lt h so_far = tt
ends refusals.Length front count i bytes total lt h so_far = h
ends refusals.Version front count i bytes total lt h so_far = h
ends refusals.Kind front count i bytes total lt h so_far = h
ends refusals.Value front count i bytes total lt h so_far =
    let k : count - i ≡ suc (count - (i + 1)) = omega arith in
    let one : with_front front (messages_at (count - i) bytes) ≡ None = rw (k, h) refl in
    sym so_far ∙ one

-- all are read
pub is_done : (front : List Msg) (count i : ℕ) (bytes : List ℕ) (total : Field (List Msg)) → count ≤ i → with_front front (messages_at (count - i) bytes) ≡ total → total ≡ Some (front, bytes)
unfolding messages_at
is_done front count i bytes total le so_far =
    let k : count - i ≡ 0 = omega arith in
    let one : with_front front (messages_at (count - i) bytes) ≡ Some (front, bytes) = rw k (ap (λ (ms : List Msg). Some (ms, bytes)) (append-nil front)) in
    sym so_far ∙ one
