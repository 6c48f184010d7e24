-- Why a worker that stopped, and not out of memory, at a fault or at what doesn't fit, has nothing
-- to do, and what its lanes show of it.
use Rattle.std.proofs.Common.{◌≡◌, ◌⊎◌, ◌∙◌, ℕ, zero, suc, ◌<◌, max, List, [], ◌∷◌, map, length, Option, Some, None, inl, inr, refl, sym, ap, subst, arith}
use Rattle.sj_lang.specs.Place.{Place, done}
use Rattle.sj_lang.specs.FileAt.{FileAt}
use Rattle.sj_table.specs.Spots.{place_in}
use Rattle.sj_rules.specs.Frames.{FrameAt}
use Rattle.sj_rules.specs.Halts.{halt_of}
use Rattle.sj_rules.specs.Node.{acts}
use Rattle.sj_rules.specs.NodeRun.{told_frames}
use Rattle.sj_rules.specs.Party.{play_of}
use Rattle.sj_joined_lemmas.proofs.WorkLemmas.{shown}
use Rattle.sj_lane.specs.declared.lane.OutLane.{Ghosts as OutLane}
use Rattle.sj_lane.specs.declared.lane.InLane.{Ghosts as InLane}
use Rattle.sj_node.specs.declared.node.Node.{Node}
use Rattle.sj_node.specs.declared.refusal.Halt.{Halt}
use Rattle.sj_node.specs.declared.refusal.Halt.TheVariants as halts
use Rattle.sj_node.specs.Halts.{stop_by}
use Rattle.sj_node.specs.Node as nodes
use Rattle.sj_node.specs.Node.{clock_of, node_at, offers_of, outbox_of, requests_of, spot_node, steps_of}
use Rattle.sj_node.specs.Reading.{IsFinished, IsIdle, parties_of}
use Rattle.sj_core.proofs.HaltLemmas.{halted}
use Rattle.sj_work.specs.declared.worker.Stop.{Stop}
use Rattle.sj_work.specs.declared.worker.Stop.TheVariants as stops
use Rattle.sj_work.specs.declared.worker.Worker.{Worker}
use Rattle.sj_work.specs.Causes.{Cause}
use Rattle.sj_work.specs.Counts.{OnLane, RoseBy}
use Rattle.sj_work.specs.Laned.{laned}
use Rattle.sj_work.specs.Views.{in_of, node_of, out_of, stop_of}
use Rattle.sj_work.specs.Went.{InVain, OutVain}
use Rattle.sj_work.specs.Worked.{Turned}
use Rattle.sj_rules.specs.Limits.{clock_end}
use Rattle.sj_run.specs.Shown.{IsWaiting, LinksAt}
use Rattle.sj_run.proofs.ShownLemmas.{IsAtRest}
use Rattle.sj_run.proofs.CauseLemmas.{HasCause, has_cause}
use Rattle.sj_run.proofs.WaitLemmas.{waits_not}

-- a lane that is there after the call was there before
on_lane : {L : Type 0} (count : L → ℕ) (R : ℕ → ℕ → Type 0) (a b : Option L) (y : L) → OnLane count R a b → b ≡ Some y → (x : L) × (a ≡ Some x) × R (count x) (count y)
on_lane count R None None y r is = absurd (cc is)
on_lane count R None (Some b) y r is = absurd r
on_lane count R (Some a) None y r is = absurd r
on_lane count R (Some a) (Some b) y r is = let same : b ≡ y = cc is in (a, refl, subst (λ z. R (count a) (count z)) same r)

-- an idle node has ended or waits
idle_cause : (o : Option Halt) → IsIdle o → (o ≡ Some halts.Ended) ⊎ (o ≡ Some halts.Waits)
idle_cause None h = absurd h
idle_cause (Some halts.Ended) h = inl refl
idle_cause (Some halts.Waits) h = inr refl
idle_cause (Some halts.AtLimit) h = absurd h
idle_cause (Some halts.Unfit) h = absurd h
idle_cause (Some halts.NoMemory) h = absurd h

-- so many looks in vain are some, or none was asked for
some_vain : (looks vain : ℕ) → RoseBy looks 0 vain → (0 < vain) ⊎ (looks ≡ 0)
some_vain zero vain rose = inr refl
some_vain (suc k) vain rose = inl (omega (arith, rose))

-- and one look at least is some
one_vain : (looks vain : ℕ) → RoseBy (max looks 1) 0 vain → 0 < vain
one_vain looks vain rose = omega (arith, rose)

-- a node that has ended or is at its limit doesn't wait by the rules of its file
module _ (file : FileAt) (p : ℕ) (n : Node) where
  stopped_still : (h : Halt) → nodes.node_halt n ≡ Some h → acts (play_of file) p (node_at n) ≡ None
  stopped_still h is = halted (place_in n.table) (length file.parties) file.protocols p (spot_node n) h is

  stopped_halted : (h : Halt) → nodes.node_halt n ≡ Some h → HasCause (halt_of (play_of file) (node_at n))
  stopped_halted h is = has_cause (place_in n.table) file.protocols (spot_node n) h (length file.parties) is

  not_waiting : (h : Halt) → (h ≡ halts.Waits → ⊥) → nodes.node_halt n ≡ Some h → IsWaiting (halt_of (play_of file) (node_at n)) → ⊥
  not_waiting h other is = waits_not (place_in n.table) file.protocols (spot_node n) h other (length file.parties) is

  has_ended : IsFinished n → nodes.node_halt n ≡ Some halts.Ended
  has_ended f = ap (stop_by (spot_node n).main (requests_of n) (offers_of n) (steps_of n)) f.ended

ended_waits : halts.Ended ≡ halts.Waits → ⊥
ended_waits e = cc e

limit_waits : halts.AtLimit ≡ halts.Waits → ⊥
limit_waits e = cc e

module _ {O I : Type 0} (outward : OutLane O) (inward : InLane I) (file : FileAt) (looks p : ℕ) (old w : Worker O I) (links : LinksAt)
    (parties : parties_of (node_of w) ≡ length file.parties)
    (outs : (q : ℕ) → q < length file.parties → (o : O) × (out_of w q ≡ Some o) × (outward.vain o ≡ links.vain_out p q))
    (ins : (q : ℕ) → q < length file.parties → (i : I) × (in_of w q ≡ Some i) × (inward.vain i ≡ links.vain_in q p))
    (out_fresh : (q : ℕ) (o : O) → out_of old q ≡ Some o → outward.vain o ≡ 0) (in_fresh : (q : ℕ) (i : I) → in_of old q ≡ Some i → inward.vain i ≡ 0)
    (turned : Turned outward inward looks old w) where
  -- the calls in vain on a lane to a party, where something waits for it
  out_rose : (k q : ℕ) → q < length file.parties → OutVain outward.vain k old w → (outbox_of (node_of w) q ≡ [] → ⊥) → RoseBy k 0 (links.vain_out p q)
  out_rose k q lt vain waits =
      let o = outs q lt in
      let a = on_lane outward.vain (RoseBy k) (out_of old q) (out_of w q) o.0 (vain q (omega (arith, lt, parties)) waits) o.1 in
      subst (λ v. RoseBy k 0 v) o.2 (subst (λ v. RoseBy k v (outward.vain o.0)) (out_fresh q a.0 a.1) a.2)

  in_rose : (k q : ℕ) → q < length file.parties → InVain inward.vain k old w → RoseBy k 0 (links.vain_in q p)
  in_rose k q lt vain =
      let i = ins q lt in
      let a = on_lane inward.vain (RoseBy k) (in_of old q) (in_of w q) i.0 (vain q (omega (arith, lt, parties))) i.1 in
      subst (λ v. RoseBy k 0 v) i.2 (subst (λ v. RoseBy k v (inward.vain i.0)) (in_fresh q a.0 a.1) a.2)

  -- an outbox is empty, or what waits there is tried so often
  box_or : (k q : ℕ) → q < length file.parties → OutVain outward.vain k old w → (box : List (FrameAt Place)) → outbox_of (node_of w) q ≡ box
      → (told_frames done (outbox_of (node_of w) q) ≡ []) ⊎ RoseBy k 0 (links.vain_out p q)
  box_or k q lt vain [] is = inl (ap (told_frames done) is)
  box_or k q lt vain (f ∷ fs) is = inr (out_rose k q lt vain (λ e. let no : f ∷ fs ≡ [] = sym is ∙ e in cc no))

  idle_box : (q : ℕ) → q < length file.parties → OutVain outward.vain looks old w
      → (told_frames done (outbox_of (node_of w) q) ≡ []) ⊎ ((0 < links.vain_out p q) ⊎ (looks ≡ 0))
  idle_box q lt vain = elim (box_or looks q lt vain (outbox_of (node_of w) q) refl) [ inl none ↦ inl none | inr rose ↦ inr (some_vain looks (links.vain_out p q) rose) ]

  limit_box : (q : ℕ) → q < length file.parties → OutVain outward.vain (max looks 1) old w
      → (told_frames done (outbox_of (node_of w) q) ≡ []) ⊎ ((0 < links.vain_out p q) ⊎ (looks ≡ 0))
  limit_box q lt vain = elim (box_or (max looks 1) q lt vain (outbox_of (node_of w) q) refl) [ inl none ↦ inl none | inr rose ↦ inr (inl (one_vain looks (links.vain_out p q) rose)) ]

  module _ (stops_there : stop_of w ≡ None → ⊥) (remembers : stop_of w ≡ Some stops.NoMemory → ⊥) (faultless : stop_of w ≡ Some stops.Fault → ⊥) (fits : stop_of w ≡ Some stops.Unfit → ⊥)
      (low : clock_of (node_of w) < clock_end) where
    rest_by : (s : Option Stop) → stop_of w ≡ s → Cause outward inward s looks turned.lost old w
        → IsAtRest file looks p (shown outward.pushed outward.same inward.popped inward.same (laned w)) (λ q. links.vain_out p q) (λ q. links.vain_in q p)
    rest_by None is c = absurd (stops_there is)
    rest_by (Some stops.NoMemory) is c = absurd (remembers is)
    rest_by (Some stops.Fault) is c = absurd (faultless is)
    rest_by (Some stops.Unfit) is c = absurd (fits is)
    rest_by (Some stops.ClockEnd) is c = absurd (omega (arith, low, c))
    rest_by (Some stops.Finished) is c = record {
      still = stopped_still file p (node_of w) halts.Ended (has_ended file p (node_of w) c);
      halted = stopped_halted file p (node_of w) halts.Ended (has_ended file p (node_of w) c);
      emptied = λ q lt. inl (ap (λ fs. told_frames done (map (Rattle.sj_rules.specs.Mapped.frame_with (place_in (node_of w).table)) fs)) (c.outs q));
      looked = λ q lt waits. absurd (not_waiting file p (node_of w) halts.Ended ended_waits (has_ended file p (node_of w) c) waits);
    }
    rest_by (Some stops.Idle) is c = record {
      still =
          elim (idle_cause (nodes.node_halt (node_of w)) c.idle) [
            | inl e ↦ stopped_still file p (node_of w) halts.Ended e
            | inr e ↦ stopped_still file p (node_of w) halts.Waits e
          ];
      halted =
          elim (idle_cause (nodes.node_halt (node_of w)) c.idle) [
            | inl e ↦ stopped_halted file p (node_of w) halts.Ended e
            | inr e ↦ stopped_halted file p (node_of w) halts.Waits e
          ];
      emptied = λ q lt. idle_box q lt c.outs;
      looked = λ q lt waits. in_rose looks q lt c.ins;
    }
    rest_by (Some stops.AtLimit) is c = record {
      still = stopped_still file p (node_of w) halts.AtLimit c.limit;
      halted = stopped_halted file p (node_of w) halts.AtLimit c.limit;
      emptied = λ q lt. limit_box q lt c.outs;
      looked = λ q lt waits. absurd (not_waiting file p (node_of w) halts.AtLimit limit_waits c.limit waits);
    }

    -- a worker that stopped so is at rest
    pub is_at_rest : IsAtRest file looks p (shown outward.pushed outward.same inward.popped inward.same (laned w)) (λ q. links.vain_out p q) (λ q. links.vain_in q p)
    is_at_rest = rest_by (stop_of w) refl turned.cause
