-- Sessions that statements open, as they are gathered.
use Rattle.std.proofs.Common.{◌≡◌, ◌∙◌, ℕ, ◌+◌, ◌<◌, ◌≤◌, ◌==◌, nat_lt, Bool, true, false, if◌then◌else◌, List, [], ◌∷◌, ◌++◌, map, filter, length, get_or, drop, suc, zero, refl, ap, sym, arith}
use Rattle.std.proofs.lemmas.Bool.Decides.{nat_tests}
use Rattle.std.proofs.lemmas.List.{append_assoc, append-nil}
use Rattle.sj_acceptance.specs.Openings.{OpeningAt}
use Rattle.sj_lang.specs.FileAt.{FileAt, PartyAt, body_named, number_of_name, party_named, party_names}
use Rattle.sj_lang.specs.Place.{Place}
use Rattle.sj_seat_laws.specs.Calls.{MayOpen}
use Rattle.sj_seat_laws.specs.SeatedStart.{may_open, openings_by}
use Rattle.sj_seat.specs.Opened.{found_of, statement_of}
use Rattle.sj_seat.specs.declared.openings.Found.{Found}

mapped : {X Y : Type 0} (f : X → Y) (xs ys : List X) → map f (xs ++ ys) ≡ (map f xs ++ map f ys)
mapped f [] ys = refl
mapped f (x ∷ xs) ys = ap (λ zs. f x ∷ zs) (mapped f xs ys)

pub found_of-append : (xs ys : List Found) → found_of (xs ++ ys) ≡ (found_of xs ++ found_of ys)
found_of-append xs ys = mapped statement_of xs ys

pub ruleset gathers = (found_of-append, append_assoc, append-nil)

-- a party's number by its name
pub number_so : (qs : List PartyAt) (n : ℕ) → party_named qs n ≡ number_of_name (party_names qs) n
number_so [] n = refl
number_so (q ∷ qs) n = ap (λ (k : ℕ). if q.name == n then 0 else 1 + k) (number_so qs n)

-- the first one, and the rest
first_by : (b : Bool) (m : MayOpen) (ms : List MayOpen) → (if b then m ∷ ms else ms) ≡ ((if b then m ∷ [] else []) ++ ms)
first_by true m ms = refl
first_by false m ms = refl

pub openings_next : (file : FileAt) (o : OpeningAt) (os : List OpeningAt) → openings_by file (o ∷ os) ≡ (openings_by file (o ∷ []) ++ openings_by file os)
openings_next file o os = first_by (nat_lt (may_open file o).party (length file.parties)) (may_open file o) (openings_by file os)

-- ---- a statement whose other party is there, and one whose isn't

kept_if : (b : Bool) (m : MayOpen) → b ≡ true → (if b then m ∷ [] else []) ≡ m ∷ []
kept_if true m h = refl
kept_if false m h = absurd (cc h)

left_if : (b : Bool) (m : MayOpen) → b ≡ false → (if b then m ∷ [] else []) ≡ []
left_if true m h = absurd (cc h)
left_if false m h = refl

module _ (file : FileAt) (o : OpeningAt) (k : ℕ) (number : k ≡ party_named file.parties o.party) where
  by_number : number_of_name (party_names file.parties) o.party ≡ k
  by_number = sym (number ∙ number_so file.parties o.party)

  pub added : (p : Place) → p ≡ body_named file.protocols o.protocol → nat_lt k (length file.parties) ≡ true
      → record { party = k; protocol = o.protocol; place = p } ∷ [] ≡ openings_by file (o ∷ [])
  added p place there =
      (λ i. record { party = sym by_number i; protocol = o.protocol; place = place i } ∷ [])
      ∙ sym (kept_if (nat_lt (may_open file o).party (length file.parties)) (may_open file o) (ap (λ n. nat_lt n (length file.parties)) by_number ∙ there))

  pub not_added : nat_lt k (length file.parties) ≡ false → [] ≡ openings_by file (o ∷ [])
  not_added gone = sym (left_if (nat_lt (may_open file o).party (length file.parties)) (may_open file o) (ap (λ n. nat_lt n (length file.parties)) by_number ∙ gone))

pub is_below : (k n : ℕ) → k < n → nat_lt k n ≡ true
is_below k n lt = grind (arith, nat_tests)

pub isnt_below : (k n : ℕ) → n ≤ k → nat_lt k n ≡ false
isnt_below k n ge = grind (arith, nat_tests)
