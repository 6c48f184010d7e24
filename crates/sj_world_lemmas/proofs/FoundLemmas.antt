-- Where the front frame of a lane stands in its session.
use Rattle.std.proofs.Common.{◌≡◌, ℕ, ◌+◌, List, [], ◌∷◌, ◌++◌, refl, sym, ◌∙◌, arith, append-nil}
use Rattle.std.specs.Prelude.{Bool, true, false, ◌&&◌, ◌==◌, if◌then◌else◌, Option}
use Rattle.std.specs.List.{filter}
use Rattle.std.proofs.lemmas.Bool.{eqb-true, ne_eqb}
use Rattle.sj_base.specs.declared.EndId.{EndId}
use Rattle.sj_rules.specs.Record.{EndAt, BodyAt, Claim, Give}
use Rattle.sj_rules.specs.Frames.{FrameAt}
use Rattle.sj_rules.specs.World.{WorldAt}
use Rattle.sj_rules.specs.Seat.{Seat, claimed, signalled, given, source_for, taker_of, coming_of, side_of}
use Rattle.sj_rules.specs.Shown.{Shows, bodies, goes_to, is_claim, is_give, is_lane, old_in, live_in, claims_in, gives_in}
use Rattle.sj_world_lemmas.proofs.LaneLemmas.{both_true}

-- in the live stream, or under the number of a Signalled end
pub data Found {P : Type 0} (o seat : Seat P) (old live : List (BodyAt P)) (q at c : ℕ) (b : BodyAt P) : Type 0 where
  in_live : (left : List (BodyAt P)) → q ≡ source_for o seat → at ≡ taker_of seat → c ≡ coming_of seat → live ≡ b ∷ left → Found o seat old live q at c b
  in_old : (a t : ℕ) (e : EndAt P) (ds left : List (BodyAt P)) → seat ≡ signalled a t e ds → q ≡ e.peer → at ≡ a → c ≡ e.conn → old ≡ b ∷ left → Found o seat old live q at c b

-- a lane that isn't empty
lane_true : (p q from to c n : ℕ) → (is_lane p q from to && (c == n)) ≡ true → (p ≡ from) × (q ≡ to) × (c ≡ n)
lane_true p q from to c n e =
    let k : (is_lane p q from to ≡ true) × ((c == n) ≡ true) = both_true (is_lane p q from to) (c == n) e in
    let l : ((p == from) ≡ true) × ((q == to) ≡ true) = both_true (p == from) (q == to) k.0 in
    (eqb-true p from l.0, eqb-true q to l.1, eqb-true c n k.1)

-- in the live stream
live_found : {P : Type 0} → (o seat : Seat P) (old live : List (BodyAt P)) (q at c : ℕ) (b : BodyAt P) (more : List (BodyAt P)) →
    b ∷ more ≡ (if is_lane q at (source_for o seat) (taker_of seat) && (c == coming_of seat) then live else []) → Found o seat old live q at c b
live_found {P} o seat old live q at c b more e = by (is_lane q at (source_for o seat) (taker_of seat) && (c == coming_of seat)) refl e
  where
    by : (k : Bool) → (is_lane q at (source_for o seat) (taker_of seat) && (c == coming_of seat)) ≡ k → b ∷ more ≡ (if k then live else []) → Found o seat old live q at c b
    by true i l = let j : (q ≡ source_for o seat) × (at ≡ taker_of seat) × (c ≡ coming_of seat) = lane_true q at (source_for o seat) (taker_of seat) c (coming_of seat) i in in_live more j.0 j.1 j.2 (sym l)
    by false i l = absurd (cc l)

-- by the seat of the end
found_in : {P : Type 0} → (o : Seat P) (id : EndId) (place : P) (seat : Seat P) (old live : List (BodyAt P)) (q at c : ℕ) (b : BodyAt P) (more : List (BodyAt P)) →
    b ∷ more ≡ old_in seat old q at c ++ live_in o (side_of id place seat old live) q at c → Found o seat old live q at c b
found_in {P} o id place (signalled a t e ds) old live q at c b more i = by (is_lane q at e.peer a && (c == e.conn)) refl i
  where
    late : (m : Bool) → c ≡ e.conn → (m && (c == e.conn + 1)) ≡ false
    late true i = let n : (c == e.conn + 1) ≡ false = ne_eqb c (e.conn + 1) (λ j. omega (arith, i, j)) in rw n refl
    late false i = refl

    by : (k : Bool) → (is_lane q at e.peer a && (c == e.conn)) ≡ k →
        b ∷ more ≡ (if k then old else []) ++ (if is_lane q at (source_for o (signalled a t e ds)) t && (c == e.conn + 1) then live else []) → Found o (signalled a t e ds) old live q at c b
    by true i l =
        let j : (q ≡ e.peer) × (at ≡ a) × (c ≡ e.conn) = lane_true q at e.peer a c e.conn i in
        let n : (is_lane q at (source_for o (signalled a t e ds)) t && (c == e.conn + 1)) ≡ false = late (is_lane q at (source_for o (signalled a t e ds)) t) j.2 in
        in_old a t e ds more refl j.0 j.1 j.2 (sym (append-nil old) ∙ sym (rw n at l))
    by false i l = live_found o (signalled a t e ds) old live q at c b more l
found_in o id place seat old live q at c b more i = live_found o seat old live q at c b more i

module _ {P Q : Type 0} (w : WorldAt P Q) (o : Seat P) (id : EndId) (place : P) (seat : Seat P) (old live : List (BodyAt P)) (shows : Shows w o (side_of id place seat old live))
    (q at : ℕ) (f : FrameAt P) (rest : List (FrameAt P)) (front : w.lanes q at ≡ f ∷ rest) where
  -- what passes a test is the first to pass
  first_shown : (test : BodyAt P → Bool) (shown : List (BodyAt P)) → test f.body ≡ true → filter test (bodies (w.lanes q at)) ≡ shown → f.body ∷ filter test (bodies rest) ≡ shown
  first_shown test shown passes s = rw (front, passes) at s

  -- where the first frame that goes to an end stands
  pub found : (c : ℕ) → goes_to id c f.body ≡ true → Found o seat old live q at c f.body
  found c goes = found_in o id place seat old live q at c f.body (filter (goes_to id c) (bodies rest))
      (first_shown (goes_to id c) (old_in seat old q at c ++ live_in o (side_of id place seat old live) q at c) goes (shows.frames q at c))

  -- a Claim comes to a claimed end
  pub claim_found : is_claim id f.body ≡ true → (b : ℕ) × (u : ℕ) × (e : EndAt P) × (seat ≡ claimed b u e) × (q ≡ u) × (at ≡ b)
  claim_found passes = by seat refl (first_shown (is_claim id) (claims_in id seat q at) passes (shows.claims q at))
    where
      lane : (b u : ℕ) (k : Bool) (e : EndAt P) → seat ≡ claimed b u e → is_lane q at u b ≡ k → f.body ∷ filter (is_claim id) (bodies rest) ≡ (if k then Claim id ∷ [] else []) →
          (b : ℕ) × (u : ℕ) × (e : EndAt P) × (seat ≡ claimed b u e) × (q ≡ u) × (at ≡ b)
      lane b u true e i j l = let m : ((q == u) ≡ true) × ((at == b) ≡ true) = both_true (q == u) (at == b) j in (b, u, e, i, eqb-true q u m.0, eqb-true at b m.1)
      lane b u false e i j l = absurd (cc l)

      by : (z : Seat P) → seat ≡ z → f.body ∷ filter (is_claim id) (bodies rest) ≡ claims_in id z q at → (b : ℕ) × (u : ℕ) × (e : EndAt P) × (seat ≡ claimed b u e) × (q ≡ u) × (at ≡ b)
      by (claimed b u e) i l = lane b u (is_lane q at u b) e i refl l
      by z i l = absurd (cc l)

  -- a Give comes to an end that is given
  pub give_found : is_give id f.body ≡ true → (b : ℕ) × (u : ℕ) × (e : EndAt P) × (resend : Option ℕ) × (ds : List (BodyAt P)) × (seat ≡ given b u e resend ds) × (q ≡ b) × (at ≡ u) × (f.body ≡ Give e resend)
  give_found passes = by seat refl (first_shown (is_give id) (gives_in seat q at) passes (shows.gives q at))
    where
      lane : (b u : ℕ) (k : Bool) (e : EndAt P) (resend : Option ℕ) (ds : List (BodyAt P)) → seat ≡ given b u e resend ds → is_lane q at b u ≡ k → f.body ∷ filter (is_give id) (bodies rest) ≡ (if k then Give e resend ∷ [] else []) →
          (b : ℕ) × (u : ℕ) × (e : EndAt P) × (resend : Option ℕ) × (ds : List (BodyAt P)) × (seat ≡ given b u e resend ds) × (q ≡ b) × (at ≡ u) × (f.body ≡ Give e resend)
      lane b u true e resend ds i j l = let m : ((q == b) ≡ true) × ((at == u) ≡ true) = both_true (q == b) (at == u) j in (b, u, e, resend, ds, i, eqb-true q b m.0, eqb-true at u m.1, cc l)
      lane b u false e resend ds i j l = absurd (cc l)

      by : (z : Seat P) → seat ≡ z → f.body ∷ filter (is_give id) (bodies rest) ≡ gives_in z q at →
          (b : ℕ) × (u : ℕ) × (e : EndAt P) × (resend : Option ℕ) × (ds : List (BodyAt P)) × (seat ≡ given b u e resend ds) × (q ≡ b) × (at ≡ u) × (f.body ≡ Give e resend)
      by (given b u e resend ds) i l = lane b u (is_lane q at b u) e resend ds i refl l
      by z i l = absurd (cc l)
