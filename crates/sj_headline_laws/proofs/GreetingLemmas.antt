-- The file in which one number is sent is accepted.
use Rattle.std.proofs.Common.{◌≡◌, ◌≢◌, ℕ, zero, suc, ◌<◌, ◌≤◌, ◌==◌, ◌++◌, Bool, true, false, cond, refl, List, [], ◌∷◌, Some, None, pos, slice_get, slice_index_or, AllPairs, ap, sym, ◌∙◌, subst, inl, inr, arith}
use Rattle.std.proofs.lemmas.Bool.{cases_eq, eq-eqb, ne_eqb, eqb-true}
use Rattle.sj_lang.specs.declared.party.Scalar.TheVariants as kinds
use Rattle.sj_lang.specs.Place.{Place, done}
use Rattle.sj_lang.specs.ItemCount.{item_count}
use Rattle.sj_lang.specs.Term as terms
use Rattle.sj_lang.specs.Code.{send, take_value, close}
use Rattle.sj_lang.specs.FileAt.{PartyAt, ConnectAt}
use Rattle.sj_acceptance.specs.Environment.{put}
use Rattle.sj_acceptance.specs.Labels.{NamesOnce}
use Rattle.sj_acceptance.specs.Accepted.{places_from, IsConnection, EndsWell, OpeningsMeet, IsAccepted}
use Rattle.std.specs.List.{Contains, All}
use Rattle.sj_headline_laws.proofs.SampleLemmas.{pair_apart, both_hold, none_in}
use Rattle.sj_acceptance.specs.Openings.{OpeningAt, requests_of}
use Rattle.sj_semantics_laws.specs.Samples.{greeting, party, protocol, sends_int, takes_int}

one_of_two : (b c : Bool) (x y : ℕ × Place) → (b ≡ true → c ≡ true → ⊥) → AllPairs (λ e f. e.0 ≢ f.0) (cond b (x ∷ []) [] ++ cond c (y ∷ []) [] ++ [])
one_of_two true true x y not_both = absurd (not_both refl refl)
one_of_two true false x y not_both = λ i j d lt le. absurd (omega arith)
one_of_two false true x y not_both = λ i j d lt le. absurd (omega arith)
one_of_two false false x y not_both = λ i j d lt le. absurd (omega arith)

greeting_ends_once : (p : ℕ) → AllPairs (λ b c. b.0 ≢ c.0) (places_from greeting p greeting.connects)
greeting_ends_once p = one_of_two (0 == p) (1 == p) (3, sends_int) (5, takes_int) (λ e f. absurd (omega (arith, eqb-true 0 p e, eqb-true 1 p f)))

greeting_connects : (k : ℕ) (d : ConnectAt) → k < 1 → IsConnection greeting (slice_index_or greeting.connects k d)
greeting_connects zero d lt = record {
  one = sends_int;
  other = takes_int;
  first = record { party = omega arith; protocol = refl };
  second = record { party = omega arith; protocol = refl };
  meet = (refl, refl, tt);
}
greeting_connects (suc k) d lt = absurd (omega arith)

no_end_left : {X : Type 0} (n x : ℕ) (p q : X) → put (put (λ m. cond (x == m) (Some p) None) x (Some q)) x None n ≡ None
no_end_left n x p q =
    elim (cases_eq n x) [
      | inl it ↦ ap (λ t. cond t None (cond t (Some q) (cond (x == n) (Some p) None))) (eq-eqb n x it)
      | inr other ↦ ap (λ t. cond t None (cond t (Some q) (cond (x == n) (Some p) None))) (ne_eqb n x other) ∙ ap (λ t. cond t (Some p) None) (ne_eqb x n (λ e. other (sym e)))
    ]

greeting_bodies : (p : ℕ) (q : PartyAt) → slice_get greeting.parties p ≡ Some q → EndsWell greeting p q
greeting_bodies zero q h = subst (EndsWell greeting 0) (let it : party 2 (send 3 (terms.int (pos 5)) ∷ close 3 ∷ []) ≡ q = cc in it) (record {
  last = _;
  follows = (_, record { kind = kinds.Int; rest = done; there = refl; typed = refl; leaves = refl }, (_, record { there = refl; leaves = refl }, refl));
  no_end = λ n. no_end_left n 3 sends_int done;
})
greeting_bodies (suc zero) q h = subst (EndsWell greeting 1) (let it : party 4 (take_value 5 6 kinds.Int ∷ close 5 ∷ []) ≡ q = cc in it) (record {
  last = _;
  follows = (_, record { rest = done; there = refl; free = record { no_end = refl; no_other = λ j e. cc }; leaves = refl }, (_, record { there = refl; leaves = refl }, refl));
  no_end = λ n. no_end_left n 5 takes_int done;
})
greeting_bodies (suc (suc p)) q h = cc

abbrev sender : PartyAt
sender = party 2 (send 3 (terms.int (pos 5)) ∷ close 3 ∷ [])

abbrev taker : PartyAt
taker = party 4 (take_value 5 6 kinds.Int ∷ close 5 ∷ [])

-- nobody opens a session
no_openings : (a b : PartyAt) → requests_of a.code ≡ [] → OpeningsMeet greeting a b
no_openings a b none = record { meet = λ r c asks takes to from. absurd (none_in r (subst (λ (rs : List OpeningAt). Contains rs r) none asks)) }

pub greeting_is_accepted : IsAccepted greeting
greeting_is_accepted = record {
  within = record { protocols = omega arith; items = both_hold (λ p. item_count p.body ≤ 1024) (protocol 0 sends_int) (protocol 1 takes_int) (omega arith) (omega arith); parties = omega arith; connects = omega arith };
  protocols_once = pair_apart (λ p q. p.name ≢ q.name) (protocol 0 sends_int) (protocol 1 takes_int) (λ e. absurd (omega (arith, e)));
  labels_once = both_hold (λ p. NamesOnce p.body) (protocol 0 sends_int) (protocol 1 takes_int) (tt, tt) (tt, tt);
  parties_once = pair_apart (λ p q. p.name ≢ q.name) sender taker (λ e. absurd (omega (arith, e)));
  ends_once = greeting_ends_once;
  connections = greeting_connects;
  bodies = greeting_bodies;
  openings = both_hold (λ a. All (λ b. OpeningsMeet greeting a b) greeting.parties) sender taker
      (both_hold (OpeningsMeet greeting sender) sender taker (no_openings sender sender refl) (no_openings sender taker refl))
      (both_hold (OpeningsMeet greeting taker) sender taker (no_openings taker sender refl) (no_openings taker taker refl));
}
