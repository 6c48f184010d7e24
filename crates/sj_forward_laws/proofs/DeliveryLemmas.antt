-- A delivery keeps the invariant, and the front frame of a lane always fits.
use Rattle.std.proofs.Common.{◌≡◌, ℕ, zero, suc, ◌<◌, ◌≤◌, List, [], ◌∷◌, ◌++◌, refl, sym, subst, ap, ◌∙◌, arith, inl, inr}
use Rattle.std.specs.Prelude.{Bool, true, false, map, ◌⊎◌, slice_get, Some, None}
use Rattle.std.specs.List.{AllByRecursion}
use Rattle.std.proofs.lemmas.Bool.{cases_lt}
use Rattle.sj_base.specs.declared.EndId.{EndId}
use Rattle.sj_base.specs.declared.Msg.{Msg}
use Rattle.sj_rules.specs.Record.{other_end}
use Rattle.sj_rules.specs.PlainSide.{PlainSide, PlainAt}
use Rattle.sj_rules.specs.PlainChanges.{waits_of}
use Rattle.sj_forward_rules.specs.Record.{SentAt, StateAt, Held, Parked, Passing, Closed, FrameAt, In, Out, Claim, Open, stored, session_opened}
use Rattle.sj_forward_rules.specs.World.{WorldAt, with_lane}
use Rattle.sj_forward_laws.specs.Roads.{inward, claiming, IsOnRoad, messages_in}
use Rattle.sj_forward_laws.specs.Pipe.{traffic, from_last, from_first, in_part, out_part, pipe}
use Rattle.sj_forward_laws.specs.Kept.{Seat, in_use, on_its_way, at_its_end, in_open, OpensFit, IsLeft, IsLast, IsKept}
use Rattle.sj_forward_laws.proofs.RoadLemmas.{pop_here}
use Rattle.sj_forward_laws.proofs.OpensLemmas.{IsNoOpen}
use Rattle.sj_forward_laws.proofs.MovedLemmas.{IsAlike, IsMoved}
use Rattle.sj_forward_laws.proofs.InLemmas.{Arrives, IsNoPassing, came, in_arrives}
use Rattle.sj_forward_laws.proofs.ClaimLemmas.{claim_arrives}
use Rattle.sj_forward_laws.proofs.OutLemmas.{out_arrives}

-- ---- the last record of an end

-- whether an end is in an Open
abbrev pub is_in_open : Seat → Bool
is_in_open in_use = false
is_in_open (on_its_way e n) = false
is_in_open at_its_end = false
is_in_open in_open = true

-- another seat
pub no_open : (s : Seat) → is_in_open s ≡ false → s ≡ in_open → ⊥
no_open s not is = let bad : true ≡ false = sym (ap is_in_open is) ∙ not in cc bad

module _ {P : Type 0} (IsOver : P → Type 0) (x : PlainSide P) (waits : List Msg) (top : ℕ) where
  pub last_no_passing : (seat : Seat) (st : StateAt) → IsLast IsOver x waits top seat st → IsNoPassing st
  last_no_passing seat (Held ms) last = tt
  last_no_passing seat (Parked ms) last = tt
  last_no_passing seat Closed last = tt
  last_no_passing in_use (Passing p) last = absurd last
  last_no_passing (on_its_way e n) (Passing p) last = absurd last
  last_no_passing at_its_end (Passing p) last = absurd last
  last_no_passing in_open (Passing p) last = absurd last

  pub closed_last : (seat : Seat) → (seat ≡ in_open → ⊥) → IsLast IsOver x waits top seat Closed → waits ≡ []
  closed_last in_use not_open last = absurd last
  closed_last (on_its_way e n) not_open last = absurd last
  closed_last at_its_end not_open last = last.1
  closed_last in_open not_open last = absurd (not_open refl)

  open_top : (seat : Seat) (st : StateAt) → seat ≡ in_open → IsLast IsOver x waits top seat st → top ≡ 0
  open_top in_open Closed is last = last.1
  open_top in_open (Held ms) is last = absurd last
  open_top in_open (Parked ms) is last = absurd last
  open_top in_open (Passing p) is last = absurd last
  open_top in_use st is last = absurd (no_open in_use refl is)
  open_top (on_its_way e n) st is last = absurd (no_open (on_its_way e n) refl is)
  open_top at_its_end st is last = absurd (no_open at_its_end refl is)

  held_last : (seat : Seat) (ms ns : List SentAt) → IsLast IsOver x waits top seat (Held ms) → IsLast IsOver x waits top seat (Held ns)
  held_last in_use ms ns last = last
  held_last (on_its_way e n) ms ns last = last
  held_last at_its_end ms ns last = last
  held_last in_open ms ns last = last

  parked_last : (seat : Seat) (ms ns : List SentAt) → IsLast IsOver x waits top seat (Parked ms) → IsLast IsOver x waits top seat (Parked ns)
  parked_last in_use ms ns last = last
  parked_last (on_its_way e n) ms ns last = last
  parked_last at_its_end ms ns last = last
  parked_last in_open ms ns last = last

  pub alike_last : (seat : Seat) (st st' : StateAt) → IsAlike st st' → IsLast IsOver x waits top seat st → IsLast IsOver x waits top seat st'
  alike_last seat (Held ms) (Held ns) alike last = held_last seat ms ns last
  alike_last seat (Parked ms) (Parked ns) alike last = parked_last seat ms ns last
  alike_last seat Closed Closed alike last = last
  alike_last seat (Passing p) st' alike last = absurd (last_no_passing seat (Passing p) last)
  alike_last seat (Held ms) (Parked ns) alike last = absurd alike
  alike_last seat (Held ms) (Passing p) alike last = absurd alike
  alike_last seat (Held ms) Closed alike last = absurd alike
  alike_last seat (Parked ms) (Held ns) alike last = absurd alike
  alike_last seat (Parked ms) (Passing p) alike last = absurd alike
  alike_last seat (Parked ms) Closed alike last = absurd alike
  alike_last seat Closed (Held ns) alike last = absurd alike
  alike_last seat Closed (Parked ns) alike last = absurd alike
  alike_last seat Closed (Passing p) alike last = absurd alike

-- ---- where nothing is on its way

pub nil_of_map : {X Y : Type 0} (f : X → Y) (xs : List X) → map f xs ≡ [] → xs ≡ []
nil_of_map f [] e = refl
nil_of_map f (x ∷ xs) e = absurd (cc e)

pub nil_front : {X : Type 0} (xs ys : List X) → xs ++ ys ≡ [] → xs ≡ []
nil_front [] ys e = refl
nil_front (x ∷ xs) ys e = absurd (cc e)

pub nil_back : {X : Type 0} (xs ys : List X) → xs ++ ys ≡ [] → ys ≡ []
nil_back [] ys e = e
nil_back (x ∷ xs) ys e = absurd (cc e)

pub nil_last : (part : ℕ → List SentAt) (t : ℕ) → from_last part t ≡ [] → part t ≡ []
nil_last part zero e = e
nil_last part (suc k) e = nil_front (part (suc k)) (from_last part k) e

module _ {P Q : Type 0} (IsOver : P → Type 0) (binds : Q → EndId → Bool) (parties : ℕ) (w : WorldAt Q) (plain : PlainAt P Q)
    (kept : IsKept IsOver binds parties w plain) where
  -- nothing is at the last record of an end for which nothing waits
  pub nothing_here : (e : EndId) → e.side < 2 → waits_of plain e ≡ [] → in_part w.lanes kept.chains kept.states e (kept.chains.top e) ≡ []
  nothing_here e low none =
      let all : pipe w.lanes kept.chains kept.states e ≡ [] =
      nil_of_map (λ m. m.msg) (pipe w.lanes kept.chains kept.states e) (kept.waits e low ∙ none) in
      nil_last (in_part w.lanes kept.chains kept.states e) (kept.chains.top e)
      (nil_front (from_last (in_part w.lanes kept.chains kept.states e) (kept.chains.top e))
      (from_first (out_part w.lanes kept.chains kept.states (other_end e)) (kept.chains.top (other_end e))) all)

  module _ (q p : ℕ) where
    -- no message comes to a closed record
    not_closed : (e : EndId) (h : ℕ) (m : SentAt) (rest : List FrameAt) → w.lanes q p ≡ In e h m ∷ rest → kept.states e h ≡ Closed → ⊥
    not_closed e h m rest front is = by (cases_lt h (kept.chains.top e))
      where
        on : IsOnRoad kept.chains q p (In e h m)
        on = (subst (λ l. AllByRecursion (IsOnRoad kept.chains q p) l) front (kept.joined.lanes q p)).0

        -- an Open stands before all messages
        first : (s : Seat) → s ≡ in_open → h ≡ 0 → OpensFit s e.sess (traffic w.lanes kept.chains (inward e 0)) → ⊥
        first in_open i z fit =
            let it : traffic w.lanes kept.chains (inward e h) ≡ In e h m ∷ traffic (with_lane q p rest w.lanes) kept.chains (inward e h) =
            pop_here kept.chains w.lanes q p (In e h m) rest front on in
            let here : traffic w.lanes kept.chains (inward e 0) ≡ In e h m ∷ traffic (with_lane q p rest w.lanes) kept.chains (inward e h) =
            ap (λ (k : ℕ). traffic w.lanes kept.chains (inward e k)) (sym z) ∙ it in
            let open_is : In e h m ≡ Open e.sess = cc (here, fit.1) in
            let bad : None ≡ Some e.sess = ap session_opened open_is in
            cc bad
        first in_use i z fit = no_open in_use refl i
        first (on_its_way d n) i z fit = no_open (on_its_way d n) refl i
        first at_its_end i z fit = no_open at_its_end refl i

        came_first : kept.seats e ≡ in_open → ⊥
        came_first i =
            let top : kept.chains.top e ≡ 0 =
            open_top IsOver (plain.sides e) (waits_of plain e) (kept.chains.top e) (kept.seats e) (kept.states e (kept.chains.top e)) i
            (kept.last e on.there.0) in
            first (kept.seats e) i (omega (arith, top, on.there.1)) (kept.opens e on.there.0)

        by : (h < kept.chains.top e) ⊎ (kept.chains.top e ≤ h) → ⊥
        by (inl lt) =
            subst (λ s. IsLeft e h (kept.chains.at e (suc h)) (traffic w.lanes kept.chains (claiming e h)) s) is (kept.joined.left e h on.there.0 lt)
        by (inr le) =
            let i : kept.chains.top e ≡ h = omega (arith, le, on.there.1) in
            let closed : kept.states e (kept.chains.top e) ≡ Closed = ap (λ (x : ℕ). kept.states e x) i ∙ is in
            let none : waits_of plain e ≡ [] =
            closed_last IsOver (plain.sides e) (waits_of plain e) (kept.chains.top e) (kept.seats e) came_first
            (subst (λ s. IsLast IsOver (plain.sides e) (waits_of plain e) (kept.chains.top e) (kept.seats e) s) closed (kept.last e on.there.0)) in
            let part : in_part w.lanes kept.chains kept.states e h ≡ [] =
            subst (λ (x : ℕ). in_part w.lanes kept.chains kept.states e x ≡ []) i (nothing_here e on.there.0 none) in
            let there : messages_in (traffic w.lanes kept.chains (inward e h)) ≡ [] =
            nil_back (stored (kept.states e h)) (messages_in (traffic w.lanes kept.chains (inward e h))) part in
            let one = came w kept.chains kept.states kept.joined q p e h m rest front in
            cc (there, one)

    -- the front frame fits, if it is no Open
    pub front_arrives : (f : FrameAt) (rest : List FrameAt) → IsNoOpen f → w.lanes q p ≡ f ∷ rest → Arrives w kept.chains kept.states q p f rest
    front_arrives (In e h m) rest none front =
        let on : IsOnRoad kept.chains q p (In e h m) = (subst (λ l. AllByRecursion (IsOnRoad kept.chains q p) l) front (kept.joined.lanes q p)).0 in
        in_arrives w kept.chains kept.states kept.joined q p e h m rest front (not_closed e h m rest front)
        (last_no_passing IsOver (plain.sides e) (waits_of plain e) (kept.chains.top e) (kept.seats e) (kept.states e (kept.chains.top e))
        (kept.last e on.there.0))
    front_arrives (Out e h m) rest none front = out_arrives w kept.chains kept.states kept.joined q p e m rest h front
    front_arrives (Claim e h) rest none front = claim_arrives w kept.chains kept.states kept.joined q p e h rest front
    front_arrives (Open sess) rest none front = absurd (cc none)

  -- what a delivery keeps
  pub moved_kept : (v : WorldAt Q) → IsMoved w v kept.chains kept.states → IsKept IsOver binds parties v plain
  moved_kept v moved = record {
    chains = kept.chains;
    states = moved.after;
    seats = kept.seats;
    joined = moved.joined;
    below = kept.below;
    opens = λ e low. moved.opens e (kept.seats e) (kept.opens e low);
    last = λ e low. alike_last IsOver (plain.sides e) (waits_of plain e) (kept.chains.top e) (kept.seats e) (kept.states e (kept.chains.top e))
        (moved.after e (kept.chains.top e)) (moved.lasts e low) (kept.last e low);
    waits = λ e low. ap (λ l. map (λ m. m.msg) l) (moved.pipes e low) ∙ kept.waits e low;
    names = λ e n m low is. kept.names e n m low (ap (λ l. slice_get l n) (sym (moved.pipes e low)) ∙ is);
    programs = λ k. moved.programs k ∙ kept.programs k;
    uses = λ e low seat. moved.uses (kept.chains.at e (kept.chains.top e)) e ∙ kept.uses e low seat;
    bound = kept.bound;
  }
