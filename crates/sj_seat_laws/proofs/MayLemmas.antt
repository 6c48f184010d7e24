-- What a party may open at the start is what the file's statements open.
use Rattle.std.proofs.Common.{◌≡◌, ℕ, suc, ◌<◌, ◌==◌, nat_lt, Bool, true, false, ◌&&◌, cond, List, [], ◌∷◌, length, slice_get, Option, Some, None, refl, ap, sym, ◌∙◌, arith}
use Rattle.std.specs.List.{Contains}
use Rattle.std.proofs.lemmas.Bool.{and_parts, eqb-true, ltb-true}
use Rattle.sj_lang.specs.FileAt.{FileAt, PartyAt, body_named, number_of_name, party_names}
use Rattle.sj_lang.specs.Place.{Place}
use Rattle.sj_acceptance.specs.Openings.{OpeningAt, accepts_of, requests_of}
use Rattle.sj_seat_laws.specs.Calls.{place_opened}
use Rattle.sj_seat_laws.specs.SeatedStart.{may_open, openings_by, openings_of}
use Rattle.sj_seat_laws.proofs.SeatedLemmas.{MayOpenSo}

contains_first : {X : Type 0} (x : X) (xs : List X) → Contains (x ∷ xs) x
contains_first x xs = (0, omega arith, refl)

contains_later : {X : Type 0} (x y : X) (xs : List X) → Contains xs y → Contains (x ∷ xs) y
contains_later x y xs c = (suc c.0, omega (arith, c.1), c.2)

-- the statement of a session that may be opened
record FoundIn (file : FileAt) (os : List OpeningAt) (q n : ℕ) (place : Place) : Type 0 where
  opening : OpeningAt
  in_it : Contains os opening
  protocol : opening.protocol ≡ n
  party : number_of_name (party_names file.parties) opening.party ≡ q
  there : q < length file.parties
  body : place ≡ body_named file.protocols n

module _ (file : FileAt) where
  opens_here : (o : OpeningAt) (os : List OpeningAt) (q n : ℕ) (place : Place) → nat_lt (may_open file o).party (length file.parties) ≡ true → (((may_open file o).party == q) && (o.protocol == n)) ≡ true
      → Some (may_open file o).place ≡ Some place → FoundIn file (o ∷ os) q n place
  opens_here o os q n place low same h =
      let parts = and_parts ((may_open file o).party == q) (o.protocol == n) same in
      let party : (may_open file o).party ≡ q = eqb-true (may_open file o).party q parts.0 in
      let protocol : o.protocol ≡ n = eqb-true o.protocol n parts.1 in
      let it : (may_open file o).place ≡ place = cc in
      record {
        opening = o;
        in_it = contains_first o os;
        protocol = protocol;
        party = party;
        there = omega (arith, party, ltb-true (may_open file o).party (length file.parties) low);
        body = sym it ∙ ap (body_named file.protocols) protocol;
      }

  found_in : (os : List OpeningAt) (q n : ℕ) (place : Place) → place_opened (openings_by file os) q n ≡ Some place → FoundIn file os q n place
  found_in [] q n place h = cc
  found_in (o ∷ os) q n place h = by (nat_lt (may_open file o).party (length file.parties)) refl h (found_in os q n place)
    where
      later : FoundIn file os q n place → FoundIn file (o ∷ os) q n place
      later f = record { opening = f.opening; in_it = contains_later o f.opening os f.in_it; protocol = f.protocol; party = f.party; there = f.there; body = f.body }

      here : nat_lt (may_open file o).party (length file.parties) ≡ true → (b : Bool) → (((may_open file o).party == q) && (o.protocol == n)) ≡ b
          → cond b (Some (may_open file o).place) (place_opened (openings_by file os) q n) ≡ Some place → (place_opened (openings_by file os) q n ≡ Some place → FoundIn file os q n place) → FoundIn file (o ∷ os) q n place
      here low true same k rest = opens_here o os q n place low same k
      here low false other k rest = later (rest k)

      by : (b : Bool) → nat_lt (may_open file o).party (length file.parties) ≡ b → place_opened (cond b (may_open file o ∷ openings_by file os) (openings_by file os)) q n ≡ Some place
          → (place_opened (openings_by file os) q n ≡ Some place → FoundIn file os q n place) → FoundIn file (o ∷ os) q n place
      by true low k rest = here low (((may_open file o).party == q) && (o.protocol == n)) refl k rest
      by false low k rest = later (rest k)

  start_may : (p : ℕ) (o : Option PartyAt) → slice_get file.parties p ≡ o → MayOpenSo file p (openings_of file o)
  start_may p None at = record { requests = λ q n place h. cc; accepts = λ q n place h. cc }
  start_may p (Some b) at = record {
    requests = λ q n place h.
        let f = found_in (requests_of b.code) q n place h in
        record { body = f.body; there = f.there; name = f.opening.party; so = (b, at, f.opening, f.in_it, f.protocol, refl); to_it = f.party };
    accepts = λ q n place h.
        let f = found_in (accepts_of b.code) q n place h in
        record { body = f.body; there = f.there; name = f.opening.party; so = (b, at, f.opening, f.in_it, f.protocol, refl); to_it = f.party };
  }

-- the party of that number may open what its statements open
pub may_open_so : (file : FileAt) (p : ℕ) → MayOpenSo file p (openings_of file (slice_get file.parties p))
may_open_so file p = start_may file p (slice_get file.parties p) refl
