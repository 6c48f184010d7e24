-- What links that report show of the lines that the parties logged by themselves, and so where
-- these end in a history.
use Rattle.std.specs.Prelude.{◌≡◌, ◌⊎◌, ℕ, ◌<◌, max, ⊤, List, map, length, Option, Some, None}
use mathlib.Core.List.{IsPrefix}
use Rattle.sj_lang.specs.Place.{Place, done}
use Rattle.sj_lang.specs.FileAt.{FileAt}
use Rattle.sj_semantics.specs.Program.{Program}
use Rattle.sj_rules.specs.Frames.{FrameAt}
use Rattle.sj_rules.specs.Halts.{Halt, halt_of, at_end, worn, awaits, delegated_enough, no_message, requested_enough, no_offer}
use Rattle.sj_rules.specs.Log.{LineAt, body_note, notes_from, part_of}
use Rattle.sj_rules.specs.Node.{acts}
use Rattle.sj_rules.specs.NodeRun.{told_frames}
use Rattle.sj_rules.specs.Party.{play_of}
use Rattle.sj_rules.specs.Posts.{all_posts}
use Rattle.sj_rules.specs.Start.{core_start}
use Rattle.sj_rules.specs.World.{WorldAt}
use Rattle.sj_work.specs.Counts.{RoseBy}

-- what links keep from `back` on, by the party that pushes and the one that pops: the frames
-- pushed, those popped, and the calls in vain of both lanes
pub record LinksAt : Type 0 where
  pub sent : ℕ → ℕ → List (FrameAt Place)
  pub got : ℕ → ℕ → List (FrameAt Place)
  pub vain_out : ℕ → ℕ → ℕ
  pub vain_in : ℕ → ℕ → ℕ

-- what links of that kind keep
abbrev pub keeps_of : {L : Type 0} → (sent got : L → ℕ → ℕ → List (FrameAt Place)) → (vain_out vain_in : L → ℕ → ℕ → ℕ) → L → LinksAt
keeps_of sent got vain_out vain_in links = record { sent = sent links; got = got links; vain_out = vain_out links; vain_in = vain_in links }

-- the cause is that a message, an end or an offer isn't there yet
abbrev pub IsWaiting : Option Halt → Type 0
IsWaiting (Some (awaits e)) = ⊤
IsWaiting (Some (no_message e)) = ⊤
IsWaiting (Some (no_offer from)) = ⊤
IsWaiting (Some at_end) = ⊥
IsWaiting (Some worn) = ⊥
IsWaiting (Some (delegated_enough e)) = ⊥
IsWaiting (Some requested_enough) = ⊥
IsWaiting None = ⊥

-- the frames that the lines' events post from p to q, as lanes report them
abbrev pub posted_frames : FileAt → (p q : ℕ) → List LineAt → List (FrameAt Place)
posted_frames file p q lines = told_frames done (all_posts (play_of file) max p q lines (core_start file))

-- these links show those lines, which lead to that core world
pub record IsShown (file : FileAt) (looks : ℕ) (links : LinksAt) (lines : List LineAt) (core : WorldAt Place Program) : Type 0 where
  -- the entries at q of frames from p are those of the frames that q popped from p
  pub popped : (p q : ℕ) → p < length file.parties → q < length file.parties
      → notes_from p (part_of q lines) ≡ map (λ f. body_note f.body) (links.got p q)
  -- what p pushed to q is a prefix of what the events at p post to q
  pub pushed : (p q : ℕ) → p < length file.parties → q < length file.parties → IsPrefix (links.sent p q) (posted_frames file p q lines)
  -- and all of it, unless a push was in vain, or no look was asked for
  pub all : (p q : ℕ) → p < length file.parties → q < length file.parties
      → (links.sent p q ≡ posted_frames file p q lines) ⊎ ((0 < links.vain_out p q) ⊎ (looks ≡ 0))
  -- nobody can act there, each for one of the causes; that an end is nowhere at the party is none
  pub still : (p : ℕ) → p < length file.parties → acts (play_of file) p (core.nodes p) ≡ None
  pub halted : (p : ℕ) → p < length file.parties → (cause : Halt) × (halt_of (play_of file) (core.nodes p) ≡ Some cause)
  -- who waits there has looked into each lane to it so often in vain
  pub looked : (p q : ℕ) → p < length file.parties → q < length file.parties → IsWaiting (halt_of (play_of file) (core.nodes q))
      → RoseBy looks 0 (links.vain_in p q)
