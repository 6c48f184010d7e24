-- The three new rules on the reading. An Open that is delivered leaves it as it is, clocks aside; a
-- request makes two Held ends there; an accept gives a place.
use Rattle.std.proofs.Common.{◌≡◌, ℕ, List, [], ◌∷◌, ◌++◌, refl, sym, ap, subst, ◌∙◌, append-nil, append_assoc}
use Rattle.std.specs.Prelude.{Bool, true, false, not, ◌&&◌, ◌||◌, ◌==◌, if◌then◌else◌, map, Option, Some}
use Rattle.std.proofs.lemmas.Bool.{eqb-true, eq-eqb}
use Rattle.sj_base.specs.declared.EndId.{EndId}
use Rattle.sj_rules.specs.Record.{Open, Mail, HeldAt, MainAt, Held, is_same_end, offered_end, requested_end}
use Rattle.sj_rules.specs.Opened.{opener_of, new_held, is_open_of, opened_in, opens, without}
use Rattle.sj_rules.specs.Frames.{FrameAt, frames_for}
use Rattle.sj_rules.specs.Node.{Play, NodeAt, with_main, with_offers, quietly, open_session, held_at}
use Rattle.sj_rules.specs.World.{WorldAt, after_event, with_lane}
use Rattle.sj_rules.specs.Shown.{bodies}
use Rattle.sj_rules.specs.Reading.{is_opening, without_opens, reading}
use Rattle.sj_opened_lemmas.proofs.NodeReadLemmas.{same_is}
use Rattle.sj_opened_lemmas.proofs.LaneReadLemmas.{append_opened, append_without}

-- two worlds are the same, clocks of parties aside
pub record IsSameButClocks {P Q : Type 0} (v w : WorldAt P Q) : Type 0 where
  pub mains : (p : ℕ) (e : EndId) → (v.nodes p).main e ≡ (w.nodes p).main e
  pub olds : (p : ℕ) (e : EndId) → (v.nodes p).old e ≡ (w.nodes p).old e
  pub programs : (p : ℕ) → (v.nodes p).program ≡ (w.nodes p).program
  pub requests : (p : ℕ) → (v.nodes p).requests ≡ (w.nodes p).requests
  pub offers : (p q : ℕ) → (v.nodes p).offers q ≡ (w.nodes p).offers q
  pub lanes : (from to : ℕ) → v.lanes from to ≡ w.lanes from to

-- laws of or
or_false : (b : Bool) → (b || false) ≡ b
or_false true = refl
or_false false = refl

or_true : (b : Bool) → (b || true) ≡ true
or_true true = refl
or_true false = refl

or_or : (a b c : Bool) → (a || (b || c)) ≡ ((a || b) || c)
or_or true b c = refl
or_or false b c = refl

-- an end that is read: from an Open, or as it is
abbrev pub read_end : {P : Type 0} → (blank : P) → Bool → EndId → Option (MainAt P) → Option (MainAt P)
read_end blank opening e r = if opening then Some (Held (new_held e blank (opener_of e.sess))) else r

module _ {P Q : Type 0} (blank : P) (w : WorldAt P Q) (q p : ℕ) (clock c : ℕ) (rest : List (FrameAt P)) (sess : ℕ) (front : w.lanes q p ≡ record { clock = c; body = Open sess } ∷ rest) (opener : opener_of sess ≡ q) where
  -- the party once the Open came
  abbrev pub node_opened : NodeAt P Q
  node_opened = with_offers q ((w.nodes p).offers q ++ sess ∷ []) (with_main (offered_end sess) (Some (Held (new_held (offered_end sess) blank q))) (w.nodes p))

  -- the world then
  abbrev pub world_opened : WorldAt P Q
  world_opened = after_event w p clock (with_lane q p rest w.lanes) (quietly node_opened)

  -- no frame is posted
  pub opened_lane : (from to : ℕ) → world_opened.lanes from to ≡ with_lane q p rest w.lanes from to
  opened_lane from to = by (from == p)
    where
      by : (b : Bool) → (if b then with_lane q p rest w.lanes from to ++ [] else with_lane q p rest w.lanes from to) ≡ with_lane q p rest w.lanes from to
      by true = append-nil (with_lane q p rest w.lanes from to)
      by false = refl

  -- in the lane of the Open
  in_lane : (from to : ℕ) → ((from == q) && (to == p)) ≡ true → (from ≡ q) × (to ≡ p)
  in_lane from to e = by (from == q) (to == p) refl refl e
    where
      by : (a b : Bool) → (from == q) ≡ a → (to == p) ≡ b → (a && b) ≡ true → (from ≡ q) × (to ≡ p)
      by true true i j k = (eqb-true from q i, eqb-true to p j)
      by true false i j k = absurd (cc k)
      by false b i j k = absurd (cc k)

  lane_was : (from to : ℕ) → ((from == q) && (to == p)) ≡ true → w.lanes from to ≡ record { clock = c; body = Open sess } ∷ rest
  lane_was from to e = let i : (from ≡ q) × (to ≡ p) = in_lane from to e in rw (i.0, i.1) front

  -- the records read so are the same
  opened_mains : (k : ℕ) (e : EndId) → ((reading blank world_opened).nodes k).main e ≡ ((reading blank w).nodes k).main e
  opened_mains k e =
      ap (λ l. read_end blank (opens e (bodies l)) e ((world_opened.nodes k).main e)) (opened_lane (opener_of e.sess) k)
      ∙ by (k == p) ((opener_of e.sess == q) && (k == p)) (is_same_end e (offered_end sess)) refl refl refl
    where
      -- whatever the rest holds, the end is Held so
      held_so : (b : Bool) → e ≡ offered_end sess → read_end blank b e (Some (Held (new_held (offered_end sess) blank q))) ≡ Some (Held (new_held e blank (opener_of e.sess)))
      held_so true i = refl
      held_so false i = rw (i, opener) refl

      by : (at : Bool) (there : Bool) (own : Bool) → (k == p) ≡ at → ((opener_of e.sess == q) && (k == p)) ≡ there → is_same_end e (offered_end sess) ≡ own →
          read_end blank (opens e (bodies (if there then rest else w.lanes (opener_of e.sess) k))) e
          ((if at then record node_opened { clock = clock } else w.nodes k).main e)
          ≡ read_end blank (opens e (bodies (w.lanes (opener_of e.sess) k))) e ((w.nodes k).main e)
      by true true true i j o =
          let was : opens e (bodies (w.lanes (opener_of e.sess) k)) ≡ true = ap (λ l. opens e (bodies l)) (lane_was (opener_of e.sess) k j) ∙ rw o refl in
          rw (was, o) (held_so (opens e (bodies rest)) (same_is e (offered_end sess) o))
      by true true false i j o =
          let was : opens e (bodies (w.lanes (opener_of e.sess) k)) ≡ opens e (bodies rest) = ap (λ l. opens e (bodies l)) (lane_was (opener_of e.sess) k j) ∙ rw o refl in
          let at : k ≡ p = eqb-true k p i in
          rw (was, o, at) refl
      by true false true i j o =
          let id : e ≡ offered_end sess = same_is e (offered_end sess) o in
          let from : opener_of e.sess ≡ q = ap (λ d. opener_of d.sess) id ∙ opener in
          let lane : ((opener_of e.sess == q) && (k == p)) ≡ true = rw (eq-eqb (opener_of e.sess) q from, i) refl in
          absurd (cc (lane, j))
      by true false false i j o = let at : k ≡ p = eqb-true k p i in rw (o, at) refl
      by false true own i j o = let at : (opener_of e.sess ≡ q) × (k ≡ p) = in_lane (opener_of e.sess) k j in absurd (cc (i, eq-eqb k p at.1))
      by false false own i j o = refl

  opened_offers : (k r : ℕ) → ((reading blank world_opened).nodes k).offers r ≡ ((reading blank w).nodes k).offers r
  opened_offers k r =
      ap (λ l. (world_opened.nodes k).offers r ++ opened_in (bodies l)) (opened_lane r k) ∙ by (k == p) (r == q) refl refl
    where
      by : (at own : Bool) → (k == p) ≡ at → (r == q) ≡ own →
          (if at then record node_opened { clock = clock } else w.nodes k).offers r ++ opened_in (bodies (if own && at then rest else w.lanes r k)) ≡ (w.nodes k).offers r ++ opened_in (bodies (w.lanes r k))
      by true true i j =
          let here : k ≡ p = eqb-true k p i in
          let from : r ≡ q = eqb-true r q j in
          rw (j, here, from, front) (append_assoc ((w.nodes p).offers q) (sess ∷ []) (opened_in (bodies rest)))
      by true false i j = let here : k ≡ p = eqb-true k p i in rw (j, here) refl
      by false true i j = refl
      by false false i j = refl

  -- an Open that is delivered leaves the reading as it is, clocks aside
  pub open_leaves : IsSameButClocks (reading blank world_opened) (reading blank w)
  open_leaves = record {
    mains = opened_mains;
    olds = λ k e. by_old k e (k == p) refl;
    programs = λ k. by_program k (k == p) refl;
    requests = λ k. by_requests k (k == p) refl;
    offers = opened_offers;
    lanes = λ from to. ap without_opens (opened_lane from to) ∙ by_lane from to ((from == q) && (to == p)) refl;
  }
    where
      by_old : (k : ℕ) (e : EndId) (b : Bool) → (k == p) ≡ b → (if b then record node_opened { clock = clock } else w.nodes k).old e ≡ (w.nodes k).old e
      by_old k e true i = let here : k ≡ p = eqb-true k p i in rw here refl
      by_old k e false i = refl

      by_program : (k : ℕ) (b : Bool) → (k == p) ≡ b → (if b then record node_opened { clock = clock } else w.nodes k).program ≡ (w.nodes k).program
      by_program k true i = let here : k ≡ p = eqb-true k p i in rw here refl
      by_program k false i = refl

      by_requests : (k : ℕ) (b : Bool) → (k == p) ≡ b → (if b then record node_opened { clock = clock } else w.nodes k).requests ≡ (w.nodes k).requests
      by_requests k true i = let here : k ≡ p = eqb-true k p i in rw here refl
      by_requests k false i = refl

      by_lane : (from to : ℕ) (b : Bool) → ((from == q) && (to == p)) ≡ b → without_opens (if b then rest else w.lanes from to) ≡ without_opens (w.lanes from to)
      by_lane from to true i = sym (ap without_opens (lane_was from to i))
      by_lane from to false i = refl

module _ {P Q : Type 0} (blank : P) (play : Play P Q) (w : WorldAt P Q) (p : ℕ) (clock : ℕ) (place : P) (to sess : ℕ) (opener : opener_of sess ≡ p) where
  -- the world after a request
  abbrev pub world_requested : WorldAt P Q
  world_requested = after_event w p clock w.lanes (open_session play (w.nodes p) place to sess)

  -- the frame that goes to that party, or none
  open_to : (y : ℕ) → frames_for {P = P} y clock (record { party = to; body = Open sess } ∷ []) ≡ (if y == to then record { clock = clock; body = Open sess } ∷ [] else [])
  open_to y = by (y == to)
    where
      by : (b : Bool) → map {B = FrameAt P} (λ (m : Mail P). record { clock = clock; body = m.body }) (if b then record { party = to; body = Open sess } ∷ [] else []) ≡ (if b then record { clock = clock; body = Open sess } ∷ [] else [])
      by true = refl
      by false = refl

  -- the lanes then
  pub requested_lane : (x y : ℕ) → world_requested.lanes x y ≡ (if (x == p) && (y == to) then w.lanes x y ++ record { clock = clock; body = Open sess } ∷ [] else w.lanes x y)
  requested_lane x y = by (x == p) ∙ at (x == p) (y == to)
    where
      by : (b : Bool) → (if b then w.lanes x y ++ frames_for y clock (record { party = to; body = Open sess } ∷ []) else w.lanes x y) ≡ (if b then w.lanes x y ++ (if y == to then record { clock = clock; body = Open sess } ∷ [] else []) else w.lanes x y)
      by true = ap (λ l. w.lanes x y ++ l) (open_to y)
      by false = refl

      at : (a b : Bool) → (if a then w.lanes x y ++ (if b then record { clock = clock; body = Open sess } ∷ [] else []) else w.lanes x y) ≡ (if a && b then w.lanes x y ++ record { clock = clock; body = Open sess } ∷ [] else w.lanes x y)
      at true true = refl
      at true false = append-nil (w.lanes x y)
      at false b = refl

  -- an Open after others
  pub opens_last : (e : EndId) (bs : List (FrameAt P)) → opens e (bodies (bs ++ record { clock = clock; body = Open sess } ∷ [])) ≡ (opens e (bodies bs) || is_same_end e (offered_end sess))
  opens_last e [] = or_false (is_same_end e (offered_end sess))
  opens_last e (b ∷ bs) = ap (λ z. is_open_of e b.body || z) (opens_last e bs) ∙ or_or (is_open_of e b.body) (opens e (bodies bs)) (is_same_end e (offered_end sess))

  -- the ends read so: the two of the new session are Held, and all others are as before
  pub requested_mains : (k : ℕ) (e : EndId) → ((reading blank world_requested).nodes k).main e
      ≡ (if (k == to) && is_same_end e (offered_end sess) then Some (Held (new_held (offered_end sess) blank p))
      else if (k == p) && is_same_end e (requested_end sess) && not (is_opening w k e) then Some (Held (new_held (requested_end sess) place to))
      else ((reading blank w).nodes k).main e)
  requested_mains k e =
      ap (λ l. read_end blank (opens e (bodies l)) e ((world_requested.nodes k).main e)) (requested_lane (opener_of e.sess) k)
      ∙ by (opener_of e.sess == p) (k == to) (is_same_end e (offered_end sess)) refl refl refl
    where
      new_is : e ≡ offered_end sess → Some (Held (new_held e blank (opener_of e.sess))) ≡ Some (Held (new_held (offered_end sess) blank p))
      new_is i = rw (i, opener) refl

      here : (a b own : Bool) → (k == p) ≡ a → is_opening w k e ≡ b → is_same_end e (requested_end sess) ≡ own →
          read_end blank b e ((if a then record (open_session play (w.nodes p) place to sess).state { clock = clock } else w.nodes k).main e)
          ≡ (if a && own && not b then Some (Held (new_held (requested_end sess) place to)) else read_end blank b e ((w.nodes k).main e))
      here true true true i j o = refl
      here true true false i j o = refl
      here true false true i j o = rw o refl
      here true false false i j o = let at : k ≡ p = eqb-true k p i in rw (o, at) refl
      here false b own i j o = refl

      by : (f t own : Bool) → (opener_of e.sess == p) ≡ f → (k == to) ≡ t → is_same_end e (offered_end sess) ≡ own →
          read_end blank (opens e (bodies (if f && t then w.lanes (opener_of e.sess) k ++ record { clock = clock; body = Open sess } ∷ [] else w.lanes (opener_of e.sess) k))) e ((world_requested.nodes k).main e)
          ≡ (if t && own then Some (Held (new_held (offered_end sess) blank p))
          else if (k == p) && is_same_end e (requested_end sess) && not (is_opening w k e) then Some (Held (new_held (requested_end sess) place to))
          else ((reading blank w).nodes k).main e)
      by true true true i j o =
          let all : opens e (bodies (w.lanes (opener_of e.sess) k ++ record { clock = clock; body = Open sess } ∷ [])) ≡ true = opens_last e (w.lanes (opener_of e.sess) k) ∙ rw o (or_true (is_opening w k e)) in
          rw all (new_is (same_is e (offered_end sess) o))
      by true true false i j o =
          let all : opens e (bodies (w.lanes (opener_of e.sess) k ++ record { clock = clock; body = Open sess } ∷ [])) ≡ is_opening w k e = opens_last e (w.lanes (opener_of e.sess) k) ∙ rw o (or_false (is_opening w k e)) in
          rw all (here (k == p) (is_opening w k e) (is_same_end e (requested_end sess)) refl refl refl)
      by true false own i j o = here (k == p) (is_opening w k e) (is_same_end e (requested_end sess)) refl refl refl
      by false t true i j o =
          let from : opener_of e.sess ≡ p = ap (λ d. opener_of d.sess) (same_is e (offered_end sess) o) ∙ opener in
          absurd (cc (eq-eqb (opener_of e.sess) p from, i))
      by false true false i j o = here (k == p) (is_opening w k e) (is_same_end e (requested_end sess)) refl refl refl
      by false false false i j o = here (k == p) (is_opening w k e) (is_same_end e (requested_end sess)) refl refl refl

  -- no lane read so changes
  pub requested_lanes : (x y : ℕ) → (reading blank world_requested).lanes x y ≡ (reading blank w).lanes x y
  requested_lanes x y = ap without_opens (requested_lane x y) ∙ by ((x == p) && (y == to))
    where
      by : (b : Bool) → without_opens (if b then w.lanes x y ++ record { clock = clock; body = Open sess } ∷ [] else w.lanes x y) ≡ without_opens (w.lanes x y)
      by true = append_without (w.lanes x y) (record { clock = clock; body = Open sess } ∷ []) ∙ append-nil (without_opens (w.lanes x y))
      by false = refl

  -- the session is offered after the others
  pub requested_offers : (k r : ℕ) → ((reading blank world_requested).nodes k).offers r ≡ (if (r == p) && (k == to) then ((reading blank w).nodes k).offers r ++ sess ∷ [] else ((reading blank w).nodes k).offers r)
  requested_offers k r =
      ap (λ l. (world_requested.nodes k).offers r ++ opened_in (bodies l)) (requested_lane r k) ∙ by (k == p) refl ((r == p) && (k == to))
    where
      at : (z : Bool) → (w.nodes k).offers r ++ opened_in (bodies (if z then w.lanes r k ++ record { clock = clock; body = Open sess } ∷ [] else w.lanes r k))
          ≡ (if z then ((reading blank w).nodes k).offers r ++ sess ∷ [] else ((reading blank w).nodes k).offers r)
      at true = ap (λ l. (w.nodes k).offers r ++ l) (append_opened (w.lanes r k) (record { clock = clock; body = Open sess } ∷ [])) ∙ sym (append_assoc ((w.nodes k).offers r) (opened_in (bodies (w.lanes r k))) (sess ∷ []))
      at false = refl

      by : (b : Bool) → (k == p) ≡ b → (z : Bool) →
          (if b then record (open_session play (w.nodes p) place to sess).state { clock = clock } else w.nodes k).offers r ++ opened_in (bodies (if z then w.lanes r k ++ record { clock = clock; body = Open sess } ∷ [] else w.lanes r k))
          ≡ (if z then ((reading blank w).nodes k).offers r ++ sess ∷ [] else ((reading blank w).nodes k).offers r)
      by true i z = let here : k ≡ p = eqb-true k p i in subst (λ n. (w.nodes n).offers r ++ opened_in (bodies (if z then w.lanes r k ++ record { clock = clock; body = Open sess } ∷ [] else w.lanes r k)) ≡ (if z then ((reading blank w).nodes k).offers r ++ sess ∷ [] else ((reading blank w).nodes k).offers r)) here (at z)
      by false i z = at z

module _ {P Q : Type 0} (blank : P) (w : WorldAt P Q) (p : ℕ) (clock : ℕ) (place : P) (from sess : ℕ) (g : Q) (h : HeldAt P) (there : is_opening w p (offered_end sess) ≡ false) where
  -- the world after an accept
  abbrev pub world_accepted : WorldAt P Q
  world_accepted = after_event w p clock w.lanes
      (quietly (with_offers from (without sess ((w.nodes p).offers from)) (with_main (offered_end sess) (Some (Held (held_at place h))) (record (w.nodes p) { program = g }))))

  -- no frame is posted
  pub accepted_lane : (x y : ℕ) → world_accepted.lanes x y ≡ w.lanes x y
  accepted_lane x y = by (x == p)
    where
      by : (b : Bool) → (if b then w.lanes x y ++ [] else w.lanes x y) ≡ w.lanes x y
      by true = append-nil (w.lanes x y)
      by false = refl

  -- the end gets its place, and all others are read as before
  pub accepted_mains : (k : ℕ) (e : EndId) → ((reading blank world_accepted).nodes k).main e
      ≡ (if (k == p) && is_same_end e (offered_end sess) then Some (Held (held_at place h)) else ((reading blank w).nodes k).main e)
  accepted_mains k e =
      ap (λ l. read_end blank (opens e (bodies l)) e ((world_accepted.nodes k).main e)) (accepted_lane (opener_of e.sess) k) ∙ by (k == p) (is_same_end e (offered_end sess)) refl refl
    where
      by : (a own : Bool) → (k == p) ≡ a → is_same_end e (offered_end sess) ≡ own →
          read_end blank (is_opening w k e) e ((if a then record (with_offers from (without sess ((w.nodes p).offers from)) (with_main (offered_end sess) (Some (Held (held_at place h))) (record (w.nodes p) { program = g }))) { clock = clock } else w.nodes k).main e)
          ≡ (if a && own then Some (Held (held_at place h)) else ((reading blank w).nodes k).main e)
      by true true i o =
          let at : k ≡ p = eqb-true k p i in
          let closed : is_opening w k e ≡ false = ap (λ n. is_opening w n e) at ∙ ap (λ d. is_opening w p d) (same_is e (offered_end sess) o) ∙ there in
          rw (closed, o) refl
      by true false i o = let at : k ≡ p = eqb-true k p i in rw (o, at) refl
      by false own i o = refl

  -- no lane read so changes
  pub accepted_lanes : (x y : ℕ) → (reading blank world_accepted).lanes x y ≡ (reading blank w).lanes x y
  accepted_lanes x y = ap without_opens (accepted_lane x y)

  -- the session is offered no more
  pub accepted_offers : (k r : ℕ) → ((reading blank world_accepted).nodes k).offers r
      ≡ (if (k == p) && (r == from) then without sess ((w.nodes p).offers from) ++ opened_in (bodies (w.lanes from p)) else ((reading blank w).nodes k).offers r)
  accepted_offers k r = ap (λ l. (world_accepted.nodes k).offers r ++ opened_in (bodies l)) (accepted_lane r k) ∙ by (k == p) (r == from) refl refl
    where
      by : (a b : Bool) → (k == p) ≡ a → (r == from) ≡ b →
          (if a then record (with_offers from (without sess ((w.nodes p).offers from)) (with_main (offered_end sess) (Some (Held (held_at place h))) (record (w.nodes p) { program = g }))) { clock = clock } else w.nodes k).offers r ++ opened_in (bodies (w.lanes r k))
          ≡ (if a && b then without sess ((w.nodes p).offers from) ++ opened_in (bodies (w.lanes from p)) else ((reading blank w).nodes k).offers r)
      by true true i j = let at : k ≡ p = eqb-true k p i in let of : r ≡ from = eqb-true r from j in rw (j, at, of) refl
      by true false i j = let at : k ≡ p = eqb-true k p i in rw (j, at) refl
      by false b i j = refl
