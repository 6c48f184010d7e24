-- What it is to carry a frame from one node to another by hand.
use Rattle.std.specs.Prelude.{◌≡◌, ◌⊎◌, ℕ, ◌+◌, ◌≤◌, max, Bool, true, false, List, [], ◌∷◌, None}
use Rattle.sj_end.specs.declared.note.Event.TheVariants as events
use Rattle.sj_end.specs.Views.{note_at}
use Rattle.sj_node.specs.declared.node.Node.{Node}
use Rattle.sj_node.specs.Node.{Does, clock_of, delivery}
use Rattle.sj_node.specs.Outs.{waiting_in}
use Rattle.sj_node.specs.Reading.{outs_of, party_of}
use Rattle.sj_rules.specs.Frames.{FrameAt}
use Rattle.sj_rules.specs.Limits.{clock_end}
use Rattle.sj_table.specs.declared.table.Spot.{Spot}

-- the first frame that the one has for the other fits no row there
pub record FitsNone (from to : Node) : Type 0 where
  pub frame : FrameAt Spot
  pub rest : List (FrameAt Spot)
  pub first : waiting_in (outs_of from) (party_of to) ≡ frame ∷ rest
  pub none : delivery to (party_of from) frame ≡ None

-- what waits at the node for each party is as it was
abbrev pub WaitsAsBefore : (old new : Node) → Type 0
WaitsAsBefore old new = (q : ℕ) → waiting_in (outs_of new) q ≡ waiting_in (outs_of old) q

module _ (from to from_after to_after : Node) where
  -- the first frame that the one had for the other left it, and was delivered there
  pub record Carries : Type 0 where
    pub frame : FrameAt Spot
    pub first : waiting_in (outs_of from) (party_of to) ≡ frame ∷ waiting_in (outs_of from_after) (party_of to)
    pub others : (q : ℕ) → (q ≡ party_of to → ⊥) → waiting_in (outs_of from_after) q ≡ waiting_in (outs_of from) q
    pub does : Does to (delivery to (party_of from) frame) (max (clock_of to) frame.clock + 1) (events.Deliver (party_of from)) (note_at frame.body) to_after

  -- there was none, or no event can follow at the other; nothing changed
  pub record CarriesNone : Type 0 where
    pub none : (waiting_in (outs_of from) (party_of to) ≡ []) ⊎ (clock_end ≤ clock_of to)
    pub waits : WaitsAsBefore from from_after
    pub rests : to_after ≡ to

  -- whether there was one
  abbrev pub HasCarried : Bool → Type 0
  HasCarried true = Carries
  HasCarried false = CarriesNone
