-- Texts that are put together part by part, and may be cut short.
use Rattle.std.proofs.Common.{◌≡◌, ℕ, ◌+◌, ◌<◌, List, [], ◌∷◌, ◌++◌, length, drop, get_or, Result, Ok, Err, OnOk, OnErr, refl, ap, sym, ◌∙◌, append_assoc, append-nil}
use Rattle.std.proofs.lemmas.List.{drop_more}
use Rattle.sj_text.specs.Cut.{IsCutShort}

-- nothing was put
pub cut_at_once : (old whole new : List ℕ) → new ≡ old → IsCutShort old whole new
cut_at_once old whole new e = record { some = []; rest = whole; appended = e ∙ sym (append-nil old); begins = refl }

pub whole_is : (old a b new : List ℕ) → a ≡ b → IsCutShort old a new → IsCutShort old b new
whole_is old a b new e c = record { some = c.some; rest = c.rest; appended = c.appended; begins = sym e ∙ c.begins }

-- cut short in the first part
pub cut_in_first : (old a b new : List ℕ) → IsCutShort old a new → IsCutShort old (a ++ b) new
cut_in_first old a b new c = record { some = c.some; rest = c.rest ++ b; appended = c.appended; begins = ap (λ xs. xs ++ b) c.begins ∙ append_assoc c.some c.rest b }

-- cut short after the first part
pub cut_behind : (old a b mid new : List ℕ) → mid ≡ old ++ a → IsCutShort mid b new → IsCutShort old (a ++ b) new
cut_behind old a b mid new e c = record {
  some = a ++ c.some;
  rest = c.rest;
  appended = c.appended ∙ ap (λ xs. xs ++ c.some) e ∙ append_assoc old a c.some;
  begins = ap (λ xs. a ++ xs) c.begins ∙ sym (append_assoc a c.some c.rest);
}

-- one part, and then another
pub put_both : (old a b mid new : List ℕ) → mid ≡ old ++ a → new ≡ mid ++ b → new ≡ old ++ (a ++ b)
put_both old a b mid new e f = f ∙ ap (λ xs. xs ++ b) e ∙ append_assoc old a b

module _ {X E : Type 0} where
  pub on_err : (r : Result X E) (P : Type 0) → P → OnErr r P
  on_err (Ok x) P p = tt
  on_err (Err e) P p = p

  pub ok_whole : (old a b new : List ℕ) (r : Result X E) → a ≡ b → OnOk r (new ≡ old ++ a) → OnOk r (new ≡ old ++ b)
  ok_whole old a b new (Ok x) e h = h ∙ ap (λ xs. old ++ xs) e
  ok_whole old a b new (Err x) e h = tt

  pub err_whole : (old a b new : List ℕ) (r : Result X E) → a ≡ b → OnErr r (IsCutShort old a new) → OnErr r (IsCutShort old b new)
  err_whole old a b new (Ok x) e h = tt
  err_whole old a b new (Err x) e h = whole_is old a b new e h

  -- the last part was put after the others, or is cut short, or nothing of it was put
  pub ok_behind : (old a b mid new : List ℕ) (r : Result X E) → mid ≡ old ++ a → OnOk r (new ≡ mid ++ b) → OnOk r (new ≡ old ++ (a ++ b))
  ok_behind old a b mid new (Ok x) e h = put_both old a b mid new e h
  ok_behind old a b mid new (Err x) e h = tt

  pub err_behind : (old a b mid new : List ℕ) (r : Result X E) → mid ≡ old ++ a → OnErr r (IsCutShort mid b new) → OnErr r (IsCutShort old (a ++ b) new)
  err_behind old a b mid new (Ok x) e h = tt
  err_behind old a b mid new (Err x) e h = cut_behind old a b mid new e h

  pub err_at_once : (old whole new : List ℕ) (r : Result X E) → OnErr r (new ≡ old) → OnErr r (IsCutShort old whole new)
  err_at_once old whole new (Ok x) h = tt
  err_at_once old whole new (Err x) h = cut_at_once old whole new h

-- the old text, and then the whole but for what is ahead
pub record StillTo (old whole ahead now : List ℕ) : Type 0 where
  pub some : List ℕ
  pub appended : now ≡ old ++ some
  pub begins : whole ≡ some ++ ahead

pub none_yet : (old whole : List ℕ) → StillTo old whole whole old
none_yet old whole = record { some = []; appended = sym (append-nil old); begins = refl }

pub one_more : (old whole bytes ahead now new : List ℕ) → StillTo old whole (bytes ++ ahead) now → new ≡ now ++ bytes → StillTo old whole ahead new
one_more old whole bytes ahead now new s e = record {
  some = s.some ++ bytes;
  appended = e ∙ ap (λ xs. xs ++ bytes) s.appended ∙ append_assoc old s.some bytes;
  begins = s.begins ∙ sym (append_assoc s.some bytes ahead);
}

pub ahead_is : (old whole a b now : List ℕ) → a ≡ b → StillTo old whole a now → StillTo old whole b now
ahead_is old whole a b now e s = record { some = s.some; appended = s.appended; begins = s.begins ∙ ap (λ xs. s.some ++ xs) e }

-- what is ahead was cut short, or only its first part was begun, or nothing of it was put
pub cut_ahead : (old whole ahead now new : List ℕ) → StillTo old whole ahead now → IsCutShort now ahead new → IsCutShort old whole new
cut_ahead old whole ahead now new s c = whole_is old (s.some ++ ahead) whole new (sym s.begins) (cut_behind old s.some ahead now new s.appended c)

pub cut_within : (old whole bytes ahead now new : List ℕ) → StillTo old whole (bytes ++ ahead) now → IsCutShort now bytes new → IsCutShort old whole new
cut_within old whole bytes ahead now new s c = cut_ahead old whole (bytes ++ ahead) now new s (cut_in_first now bytes ahead new c)

pub cut_here : (old whole ahead now new : List ℕ) → StillTo old whole ahead now → new ≡ now → IsCutShort old whole new
cut_here old whole ahead now new s e = cut_ahead old whole ahead now new s (cut_at_once now ahead new e)

module _ {X E : Type 0} where
  -- all that was ahead was put, or it was cut short
  pub finish_ok : (old whole bytes now new : List ℕ) (r : Result X E) → StillTo old whole bytes now → OnOk r (new ≡ now ++ bytes) → OnOk r (new ≡ old ++ whole)
  finish_ok old whole bytes now new (Ok x) s e = put_both old s.some bytes now new s.appended e ∙ ap (λ xs. old ++ xs) (sym s.begins)
  finish_ok old whole bytes now new (Err x) s e = tt

  pub finish_cut : (old whole bytes now new : List ℕ) (r : Result X E) → StillTo old whole bytes now → OnErr r (IsCutShort now bytes new) → OnErr r (IsCutShort old whole new)
  finish_cut old whole bytes now new (Ok x) s c = tt
  finish_cut old whole bytes now new (Err x) s c = cut_ahead old whole bytes now new s c

-- a list from its element of that number on
pub open_by : {X : Type 0} (n : ℕ) (xs : List X) (x : X) → n < length xs → x ≡ get_or xs n x → drop n xs ≡ x ∷ drop (n + 1) xs
open_by n xs x h e = drop_more xs n x h ∙ ap (λ y. y ∷ drop (n + 1) xs) (sym e)

pub ruleset cuts = (cut_at_once, cut_in_first, cut_behind, put_both, ok_behind, err_behind, err_at_once, none_yet, cut_here)
