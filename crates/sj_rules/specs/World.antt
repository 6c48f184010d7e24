-- All parties and the lanes between them, their steps and their runs.
use Rattle.std.specs.Prelude.{◌≡◌, ℕ, ◌+◌, max, ◌&&◌, ◌==◌, if◌then◌else◌, List, [], ◌∷◌, ◌++◌, Option, Some, None, option_map}
use Rattle.sj_rules.specs.Record.{Mail}
use Rattle.sj_rules.specs.Frames.{FrameAt, frames_for}
use Rattle.sj_rules.specs.Rows.{Worked, IsPick}
use Rattle.sj_rules.specs.Node.{Play, NodeAt, arrives, acts}

-- a node for each party, and a lane for each ordered pair of parties, one with itself too
pub record WorldAt (P Q : Type 0) : Type 0 where
  pub nodes : ℕ → NodeAt P Q
  pub lanes : (from to : ℕ) → List (FrameAt P)

-- an act of a party, or a delivery to it of the front frame of the lane from another
pub data Event : Type 0 where
  Act : Event
  Deliver : (from : ℕ) → Event

-- the node of p is that from now on
abbrev pub with_node : {P Q : Type 0} → ℕ → NodeAt P Q → (ℕ → NodeAt P Q) → ℕ → NodeAt P Q
with_node p n nodes = λ q. if q == p then n else nodes q

-- each post is at the end of its lane, with that clock
abbrev pub lanes_with : {P : Type 0} → ℕ → (clock : ℕ) → List (Mail P) → (ℕ → ℕ → List (FrameAt P)) → ℕ → ℕ → List (FrameAt P)
lanes_with p clock posts lanes = λ from to. if from == p then lanes from to ++ frames_for to clock posts else lanes from to

-- the lane from q to p is that list from now on
abbrev pub with_lane : {P : Type 0} → ℕ → ℕ → List (FrameAt P) → (ℕ → ℕ → List (FrameAt P)) → ℕ → ℕ → List (FrameAt P)
with_lane q p lane lanes = λ from to. if (from == q) && (to == p) then lane else lanes from to

-- p has what the rule left, at that clock, and what it posted is in the lanes
abbrev pub after_event : {P Q : Type 0} → WorldAt P Q → ℕ → (clock : ℕ) → (ℕ → ℕ → List (FrameAt P)) → Worked P (NodeAt P Q) → WorldAt P Q
after_event w p clock lanes done = record {
  nodes = with_node p (record done.state { clock = clock }) w.nodes;
  lanes = lanes_with p clock done.posts lanes;
}

-- the first of these frames comes from q to p
abbrev pub delivery_of : {P Q : Type 0} → Play P Q → (ℕ → ℕ → ℕ) → WorldAt P Q → (p q : ℕ) → List (FrameAt P) → Option (WorldAt P Q)
delivery_of play pick w p q [] = None
delivery_of play pick w p q (f ∷ rest) =
    option_map
    (after_event w p (max (w.nodes p).clock f.clock + 1) (with_lane q p rest w.lanes))
    (arrives play.blank play.parties pick (w.nodes p) q f)

-- the world after an event at p; None where it is illegal
abbrev pub happens : {P Q : Type 0} → Play P Q → (ℕ → ℕ → ℕ) → WorldAt P Q → (p : ℕ) → Event → Option (WorldAt P Q)
happens play pick w p Act = option_map (after_event w p ((w.nodes p).clock + 1) w.lanes) (acts play p (w.nodes p))
happens play pick w p (Deliver q) = delivery_of play pick w p q (w.lanes q p)

-- a step with some choice of bases
abbrev pub IsStep : {P Q : Type 0} → Play P Q → WorldAt P Q → (p : ℕ) → Event → WorldAt P Q → Type 0
IsStep play w p event v = (pick : ℕ → ℕ → ℕ) × IsPick pick × (happens play pick w p event ≡ Some v)

-- an event and its party
pub record Turn : Type 0 where
  pub party : ℕ
  pub event : Event

-- the turns lead from the one world to the other
abbrev pub Run : {P Q : Type 0} → Play P Q → WorldAt P Q → List Turn → WorldAt P Q → Type 0
Run play w [] v = w ≡ v
Run {P} {Q} play w (t ∷ ts) v = (mid : WorldAt P Q) × IsStep play w t.party t.event mid × Run play mid ts v
