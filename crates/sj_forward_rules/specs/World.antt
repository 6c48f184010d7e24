-- All parties and the lanes between them, their steps and their runs.
use Rattle.std.specs.Prelude.{◌<◌, ◌≡◌, ℕ, ◌==◌, ◌&&◌, if◌then◌else◌}
use Rattle.std.specs.Prelude.{List, [], ◌∷◌, ◌++◌, filter, map, Option, Some, None, option_map}
use Rattle.sj_rules.specs.Play.{Play}
use Rattle.sj_rules.specs.World.{Event, Act, Deliver, Turn}
use Rattle.sj_forward_rules.specs.Record.{FrameAt, Mail}
use Rattle.sj_forward_rules.specs.Node.{NodeAt, Worked}
use Rattle.sj_forward_rules.specs.Arrivals.{comes}
use Rattle.sj_forward_rules.specs.Acts.{acts}

-- what is in the lanes
abbrev pub Lanes : Type 0
Lanes = (from to : ℕ) → List FrameAt

-- a node for each party, and a lane for each ordered pair of parties, one with itself too
pub record WorldAt (Q : Type 0) : Type 0 where
  pub nodes : ℕ → NodeAt Q
  pub lanes : Lanes

-- the frames of the posts that go to that party, in order
abbrev pub frames_for : ℕ → List Mail → List FrameAt
frames_for to posts = map (λ m. m.frame) (filter (λ m. to == m.party) posts)

-- each post is at the end of its lane
abbrev pub lanes_with : ℕ → List Mail → Lanes → Lanes
lanes_with p posts lanes = λ from to. if from == p then lanes from to ++ frames_for to posts else lanes from to

-- the lane from q to p is that list from now on
abbrev pub with_lane : ℕ → ℕ → List FrameAt → Lanes → Lanes
with_lane q p lane lanes = λ from to. if (from == q) && (to == p) then lane else lanes from to

-- p has what the rule left, and what it posted is in the lanes
abbrev pub after_event : {Q : Type 0} → WorldAt Q → ℕ → Lanes → Worked Q → WorldAt Q
after_event w p lanes done = record {
  nodes = λ q. if q == p then done.node else w.nodes q;
  lanes = lanes_with p done.posts lanes;
}

-- the first of these frames comes from q to p
abbrev pub delivery_of : {Q : Type 0} → WorldAt Q → (p q : ℕ) → List FrameAt → Option (WorldAt Q)
delivery_of w p q [] = None
delivery_of w p q (f ∷ rest) = option_map (after_event w p (with_lane q p rest w.lanes)) (comes (w.nodes p) q f)

-- the world after an event at p; None where it is illegal
abbrev pub happens : {P Q : Type 0} → Play P Q → WorldAt Q → (p : ℕ) → Event → Option (WorldAt Q)
happens play w p Act = option_map (after_event w p w.lanes) (acts play p (w.nodes p))
happens play w p (Deliver q) = delivery_of w p q (w.lanes q p)

-- the turns lead from the one world to the other
abbrev pub Run : {P Q : Type 0} → Play P Q → WorldAt Q → List Turn → WorldAt Q → Type 0
Run play w [] v = w ≡ v
Run {P} {Q} play w (t ∷ ts) v = (mid : WorldAt Q) × (happens play w t.party t.event ≡ Some mid) × Run play mid ts v

-- among n parties nothing is in a lane, and none can act
pub record IsQuietAmong {P Q : Type 0} (play : Play P Q) (n : ℕ) (w : WorldAt Q) : Type 0 where
  pub empty : (from to : ℕ) → from < n → to < n → w.lanes from to ≡ []
  pub still : (p : ℕ) → p < n → acts play p (w.nodes p) ≡ None
