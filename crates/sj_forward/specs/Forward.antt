-- A forwarding world as callers see it.
use Rattle.std.specs.Prelude.{◌≡◌, ℕ, List, ◌∷◌, ◌++◌, length, Some}
use Rattle.sj_lang.specs.FileAt.{FileAt}
use Rattle.sj_plain.specs.declared.plain.Plain.{Plain}
use Rattle.sj_plain.specs.Plain as plain
use Rattle.sj_plain.specs.Plain.{acts_of, world_at}
use Rattle.sj_rules.specs.Events.{acts_in}
use Rattle.sj_rules.specs.Party.{play_of}
use Rattle.sj_rules.specs.World.{Deliver, Turn}
use Rattle.sj_semantics.specs.Program.{Program}
use Rattle.sj_semantics.specs.Run.{IsRun, end_of}
use Rattle.sj_forward.specs.declared.forward.ForwardWorld.{ForwardWorld}
use Rattle.sj_forward.specs.ForwarderWorld.{forwarders_in, world_in}
use Rattle.sj_forward_rules.specs.Drain.{IsDrained, passed_in}
use Rattle.sj_forward_rules.specs.Record.{FrameAt}
use Rattle.sj_forward_rules.specs.Start.{IsForwardRun, forward_start}
use Rattle.sj_forward_rules.specs.World.{WorldAt, happens}

-- the plain world that its acts have reached
abbrev pub plain_of : ForwardWorld → Plain
plain_of w = w.plain

-- the file that it is of, without its tables of words
abbrev pub kept_file : ForwardWorld → FileAt
kept_file w = plain.kept_file w.plain

-- the parties and the lanes
abbrev pub forward_at : ForwardWorld → WorldAt Program
forward_at w = world_in w

-- how many frames were delivered
abbrev pub passed_of : ForwardWorld → ℕ
passed_of w = w.passed

-- how many parties there are
abbrev pub party_count : ForwardWorld → ℕ
party_count w = length (forwarders_in w)

-- some turns lead from the start of the file to it. Their acts are a plain run, which ends in its
-- plain world; so many of them are deliveries; and the front frame of each lane fits
pub record IsForwarded (w : ForwardWorld) : Type 0 where
  pub turns : List Turn
  pub run : IsForwardRun (kept_file w) turns (forward_at w)
  pub acts : acts_of (plain_of w) ≡ acts_in turns
  pub plain_run : IsRun (kept_file w) (acts_in turns) (world_at (plain_of w))
  pub passed : passed_of w ≡ passed_in turns
  pub fits : (p q : ℕ) (f : FrameAt) (rest : List FrameAt) → (forward_at w).lanes q p ≡ f ∷ rest
      → (v : WorldAt Program) × (happens (play_of (kept_file w)) (forward_at w) p (Deliver q) ≡ Some v)

-- it is drained from the start of that file. Its plain world is the end of the file, and it has
-- delivered as many frames as the turns of the rounds are deliveries
pub record IsDrainedOf (file : FileAt) (w : ForwardWorld) : Type 0 where
  pub turns : List Turn
  pub drained : IsDrained (play_of file) (length file.parties) (forward_start file) turns (forward_at w)
  pub passed : passed_of w ≡ passed_in turns
  pub end : world_at (plain_of w) ≡ end_of file

-- nothing that contracts see has changed
pub record StaysAt (old new : ForwardWorld) : Type 0 where
  pub world : forward_at new ≡ forward_at old
  pub plain_world : world_at (plain_of new) ≡ world_at (plain_of old)
  pub acts : acts_of (plain_of new) ≡ acts_of (plain_of old)
  pub passed : passed_of new ≡ passed_of old
