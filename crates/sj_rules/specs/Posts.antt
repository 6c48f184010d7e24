-- What the events of lines post.
use Rattle.std.specs.Prelude.{ℕ, ◌==◌, if◌then◌else◌, ◌++◌, List, [], ◌∷◌, Option, Some, None}
use Rattle.sj_rules.specs.Record.{Mail}
use Rattle.sj_rules.specs.Rows.{Worked}
use Rattle.sj_rules.specs.Node.{Play, NodeAt, acts, arrives}
use Rattle.sj_rules.specs.Frames.{FrameAt, frames_for}
use Rattle.sj_rules.specs.World.{WorldAt, Event, Act, Deliver, happens}
use Rattle.sj_rules.specs.Log.{LineAt}

-- what the rules do at p, and what that posts
abbrev pub front_done : {P Q : Type 0} → Play P Q → (ℕ → ℕ → ℕ) → NodeAt P Q → (origin : ℕ) → List (FrameAt P) → Option (Worked P (NodeAt P Q))
front_done play pick n origin [] = None
front_done play pick n origin (f ∷ rest) = arrives play.blank play.parties pick n origin f

-- of an act, or of the first frame of the lane
abbrev pub event_done : {P Q : Type 0} → Play P Q → (ℕ → ℕ → ℕ) → WorldAt P Q → (p : ℕ) → Event → Option (Worked P (NodeAt P Q))
event_done play pick w p Act = acts play p (w.nodes p)
event_done play pick w p (Deliver q) = front_done play pick (w.nodes p) q (w.lanes q p)

-- nothing where no row fits
abbrev pub posts_of : {P Q : Type 0} → Option (Worked P (NodeAt P Q)) → List (Mail P)
posts_of None = []
posts_of (Some done) = done.posts

-- the frames that the line's event posts from p to q
abbrev pub line_posts : {P Q : Type 0} → Play P Q → (ℕ → ℕ → ℕ) → WorldAt P Q → LineAt → (p q : ℕ) → List (FrameAt P)
line_posts play pick w l p q =
    if p == l.party then frames_for q l.entry.clock (posts_of (event_done play pick w l.party l.entry.event)) else []

-- what comes from that world on, where there is one
abbrev pub from_there : {P Q : Type 0} → (WorldAt P Q → List (FrameAt P)) → Option (WorldAt P Q) → List (FrameAt P)
from_there f None = []
from_there f (Some w) = f w

-- the frames that the lines' events post from p to q, in order
abbrev pub all_posts : {P Q : Type 0} → Play P Q → (ℕ → ℕ → ℕ) → (p q : ℕ) → List LineAt → WorldAt P Q → List (FrameAt P)
all_posts play pick p q [] w = []
all_posts play pick p q (l ∷ ls) w =
    line_posts play pick w l p q ++ from_there (all_posts play pick p q ls) (happens play pick w l.party l.entry.event)
