-- What a party has for the others, and what its steps post to them.
use Rattle.std.specs.Prelude.{◌≡◌, ℕ, ◌<◌, List, [], ◌∷◌, ◌++◌, length, map, get_or}
use Rattle.sj_end.specs.declared.note.Entry.{Entry}
use Rattle.sj_engine.specs.Lanes.{pushed_on}
use Rattle.sj_engine.specs.declared.out_lane.ByteOut.{ByteOut}
use Rattle.sj_lang.specs.Place.{Place, done}
use Rattle.sj_node.specs.declared.node.Node.{Node}
use Rattle.sj_node.specs.Node.{outbox_of}
use Rattle.sj_node.specs.Reading.{TakesOut, parties_of, party_of}
use Rattle.sj_rules.specs.Frames.{FrameAt}
use Rattle.sj_rules.specs.NodeRun.{StepAt, posted_to, told_frames}

-- the frames on the lane to that party
abbrev pub frames_on : List ByteOut → ℕ → List (FrameAt Place)
frames_on outs q = get_or (map pushed_on outs) q []

-- what waits at a node for that party, as lanes report it
abbrev pub waits_for : Node → ℕ → List (FrameAt Place)
waits_for n q = told_frames done (outbox_of n q)

-- what a party has for another one: what is on the lane to it, and then what waits for the lane
abbrev pub has_for : List ByteOut → Node → ℕ → List (FrameAt Place)
has_for outs n q = frames_on outs q ++ waits_for n q

-- for each other party it has what it had, and then what the steps post to it
abbrev pub Posts : (party : ℕ) → List (StepAt Place) → (before after : ℕ → List (FrameAt Place)) → Type 0
Posts party steps before after = (q : ℕ) → (q ≡ party → ⊥) → after q ≡ before q ++ posted_to done q steps

-- it has nothing for any other party of the file
abbrev pub HasNone : List ByteOut → Node → Type 0
HasNone outs n = (q : ℕ) → q < parties_of n → (q ≡ party_of n → ⊥) → has_for outs n q ≡ []

-- what waited for that party went to its lane, as far as it doesn't wait any more
pub record GoesTo (to : ℕ) (lane : ByteOut) (n : Node) (later : ByteOut) (m : Node) : Type 0 where
  pub all : pushed_on later ++ waits_for m to ≡ pushed_on lane ++ waits_for n to
  pub others : (q : ℕ) → (q ≡ to → ⊥) → waits_for m q ≡ waits_for n q
  pub node : TakesOut n m

-- there is a lane to each party of the file, and nothing waits for one
pub record IsOut (outs : List ByteOut) (n : Node) : Type 0 where
  pub lanes : length outs ≡ parties_of n
  pub none : (q : ℕ) → q < parties_of n → waits_for n q ≡ []

-- what waited went to the lanes, and all that it has for others it has still
pub record GoesOut (outs : List ByteOut) (n : Node) (later : List ByteOut) (m : Node) : Type 0 where
  pub same : (q : ℕ) → (q ≡ party_of n → ⊥) → has_for later m q ≡ has_for outs n q
  pub out : IsOut later m

-- a list of frames for each party of the file. What it has for others than the party itself is what the steps post to them
pub record AreFrames (parties party : ℕ) (steps : List (StepAt Place)) (frames : List (List (FrameAt Place))) : Type 0 where
  pub count : length frames ≡ parties
  pub each : (q : ℕ) → q < parties → (q ≡ party → ⊥) → get_or frames q [] ≡ posted_to done q steps

-- no lane has a frame
abbrev pub AreClear : List ByteOut → Type 0
AreClear outs = (q : ℕ) → frames_on outs q ≡ []

-- the lanes are cleared where something was noted, which then has what they had
abbrev pub HandsOver : List Entry → (outs later : List ByteOut) → Type 0
HandsOver [] outs later = later ≡ outs
HandsOver (e ∷ es) outs later = AreClear later
