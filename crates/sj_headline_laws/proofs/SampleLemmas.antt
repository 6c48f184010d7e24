-- The file in which one session is requested and accepted is an accepted file.
use Rattle.std.proofs.Common.{◌≡◌, ◌≢◌, ℕ, zero, suc, ◌<◌, ◌≤◌, ◌==◌, [], ◌∷◌, Bool, true, false, cond, refl, Some, None, pos, slice_get, slice_index_or, AllPairs, All, subst, arith}
use Rattle.std.specs.List.{Contains}
use Rattle.sj_lang.specs.declared.party.Scalar.TheVariants as kinds
use Rattle.sj_lang.specs.Place.{Place, done}
use Rattle.sj_lang.specs.Meet.{Meets}
use Rattle.sj_lang.specs.ItemCount.{item_count}
use Rattle.sj_lang.specs.Term as terms
use Rattle.sj_lang.specs.Code.{send, take_value, close, request, accept}
use Rattle.sj_lang.specs.FileAt.{PartyAt, body_named}
use Rattle.sj_acceptance.specs.Labels.{NamesOnce}
use Rattle.sj_acceptance.specs.Openings.{OpeningAt, requests_of, accepts_of}
use Rattle.sj_acceptance.specs.Accepted.{EndsWell, OpeningsMeet, IsAccepted}
use Rattle.sj_semantics_laws.specs.Samples.{party, protocol, sends_int, takes_int}
use Rattle.sj_semantics_laws.specs.OpeningSamples.{accepted}

-- ---- lists of two

pub pair_apart : {X : Type 0} (R : X → X → Type 0) (x y : X) → R x y → AllPairs R (x ∷ y ∷ [])
pair_apart R x y r zero zero d lt le = absurd (omega arith)
pair_apart R x y r zero (suc zero) d lt le = r
pair_apart R x y r zero (suc (suc j)) d lt le = absurd (omega arith)
pair_apart R x y r (suc i) zero d lt le = absurd (omega arith)
pair_apart R x y r (suc i) (suc zero) d lt le = absurd (omega arith)
pair_apart R x y r (suc i) (suc (suc j)) d lt le = absurd (omega arith)

pub both_hold : {X : Type 0} (P : X → Type 0) (x y : X) → P x → P y → All P (x ∷ y ∷ [])
both_hold P x y p q zero d lt = p
both_hold P x y p q (suc zero) d lt = q
both_hold P x y p q (suc (suc k)) d lt = absurd (omega arith)

pub none_in : {X : Type 0} (x : X) → Contains [] x → ⊥
none_in x c = absurd (omega (arith, c.1))

one_in : {X : Type 0} (x y : X) → Contains (x ∷ []) y → x ≡ y
one_in x y c = by c.0 c.1 c.2
  where
    by : (k : ℕ) → k < 1 → slice_index_or (x ∷ []) k y ≡ y → x ≡ y
    by zero lt e = e
    by (suc k) lt e = absurd (omega arith)

-- ---- the file

abbrev requester : PartyAt
requester = party 2 (request 3 0 4 ∷ send 3 (terms.int (pos 5)) ∷ close 3 ∷ [])

abbrev accepter : PartyAt
accepter = party 4 (accept 5 1 2 ∷ take_value 5 6 kinds.Int ∷ close 5 ∷ [])

-- an end that began, moved and was closed
no_end_left : (t : Bool) (p q : Place) → cond t None (cond t (Some q) (cond t (Some p) None)) ≡ None
no_end_left true p q = refl
no_end_left false p q = refl

bodies : (p : ℕ) (q : PartyAt) → slice_get accepted.parties p ≡ Some q → EndsWell accepted p q
bodies zero q h = subst (EndsWell accepted 0) (let it : requester ≡ q = cc in it) (record {
  last = _;
  follows = (
    _,
    record { place = sends_int; unused = record { no_end = refl; no_variable = refl }; exists = refl; party = (1, omega arith, refl); leaves = refl },
    (_, record { kind = kinds.Int; rest = done; there = refl; typed = refl; leaves = refl }, (_, record { there = refl; leaves = refl }, refl)),
  );
  no_end = λ n. no_end_left (n == 3) sends_int done;
})
bodies (suc zero) q h = subst (EndsWell accepted 1) (let it : accepter ≡ q = cc in it) (record {
  last = _;
  follows = (
    _,
    record { place = takes_int; unused = record { no_end = refl; no_variable = refl }; exists = refl; party = (0, omega arith, refl); leaves = refl },
    (_, record { rest = done; there = refl; free = record { no_end = refl; no_other = λ j e. cc }; leaves = refl }, (_, record { there = refl; leaves = refl }, refl)),
  );
  no_end = λ n. no_end_left (n == 5) takes_int done;
})
bodies (suc (suc p)) q h = cc

-- the request meets the accept
meet : (r c : OpeningAt) → Contains (requests_of requester.code) r → Contains (accepts_of accepter.code) c → Meets (body_named accepted.protocols r.protocol) (body_named accepted.protocols c.protocol)
meet r c asks takes =
    subst (λ (t : OpeningAt). Meets (body_named accepted.protocols t.protocol) (body_named accepted.protocols c.protocol)) (one_in _ r asks)
    (subst (λ (t : OpeningAt). Meets sends_int (body_named accepted.protocols t.protocol)) (one_in _ c takes) (refl, refl, tt))

pub opening_is_accepted : IsAccepted accepted
opening_is_accepted = record {
  within = record { protocols = omega arith; items = both_hold (λ p. item_count p.body ≤ 1024) (protocol 0 sends_int) (protocol 1 takes_int) (omega arith) (omega arith); parties = omega arith; connects = omega arith };
  protocols_once = pair_apart (λ p q. p.name ≢ q.name) (protocol 0 sends_int) (protocol 1 takes_int) (λ e. absurd (omega (arith, e)));
  labels_once = both_hold (λ p. NamesOnce p.body) (protocol 0 sends_int) (protocol 1 takes_int) (tt, tt) (tt, tt);
  parties_once = pair_apart (λ p q. p.name ≢ q.name) requester accepter (λ e. absurd (omega (arith, e)));
  ends_once = λ p i j d lt le. absurd (omega arith);
  connections = λ k d lt. absurd (omega arith);
  bodies = bodies;
  openings = both_hold (λ a. All (λ b. OpeningsMeet accepted a b) accepted.parties) requester accepter
      (both_hold (OpeningsMeet accepted requester) requester accepter
      (record { meet = λ r c asks takes to from. absurd (none_in c takes) }) (record { meet = λ r c asks takes to from. meet r c asks takes }))
      (both_hold (OpeningsMeet accepted accepter) requester accepter
      (record { meet = λ r c asks takes to from. absurd (none_in r asks) }) (record { meet = λ r c asks takes to from. absurd (none_in r asks) }));
}
