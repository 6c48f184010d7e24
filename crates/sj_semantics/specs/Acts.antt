-- The acts of a run, and what they sent and took.
use Rattle.std.specs.Prelude.{ℕ, List, [], ◌∷◌, ◌++◌, option_map, unwrap_or, if◌then◌else◌}
use Rattle.sj_base.specs.declared.EndId.{EndId}
use Rattle.sj_semantics.specs.declared.Passed.{Passed}
use Rattle.sj_semantics.specs.Ends.{is_end}
use Rattle.sj_semantics.specs.Uses.{Use, sends, takes, delegates, begins}
use Rattle.sj_semantics.specs.World.{World, change_of, changed_world}

-- who acted, and what that did to which ends
pub record ActAt : Type 0 where
  pub by : ℕ
  pub uses : List (EndId × Use)

-- the acts of these parties from that world, one after another, as long as each can act
abbrev pub acts_from : World → List ℕ → List ActAt
acts_from w [] = []
acts_from w (p ∷ ps) =
    unwrap_or (option_map (λ c. record { by = p; uses = c.uses } ∷ acts_from (changed_world w p c) ps) (change_of w p)) []

-- what f finds in the uses of the end, with the party that used it
abbrev pub uses_on : EndId → (ℕ → Use → List Passed) → ℕ → List (EndId × Use) → List Passed
uses_on e f p [] = []
uses_on e f p (u ∷ us) = (if is_end e u.0 then f p u.1 else []) ++ uses_on e f p us

-- what f finds in all acts on the end, in their order
abbrev pub acts_on : EndId → (ℕ → Use → List Passed) → List ActAt → List Passed
acts_on e f [] = []
acts_on e f (a ∷ as') = uses_on e f a.by a.uses ++ acts_on e f as'

-- the message that was sent, with its sender
abbrev pub sent_by : ℕ → Use → List Passed
sent_by p (sends m) = record { msg = m; by = p } ∷ []
sent_by p (takes m) = []
sent_by p delegates = []
sent_by p (begins place) = []

-- the message that was taken, with its taker
abbrev pub taken_by : ℕ → Use → List Passed
taken_by p (takes m) = record { msg = m; by = p } ∷ []
taken_by p (sends m) = []
taken_by p delegates = []
taken_by p (begins place) = []

-- the messages of all sends on the end, each with its sender
abbrev pub sent_on : EndId → List ActAt → List Passed
sent_on e acts = acts_on e sent_by acts

-- the messages of all takes on the end, each with its taker
abbrev pub taken_on : EndId → List ActAt → List Passed
taken_on e acts = acts_on e taken_by acts
