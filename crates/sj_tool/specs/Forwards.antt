-- What `run --forward` prints of a file.
use Rattle.std.specs.Prelude.{◌≡◌, ℕ, List, [], ◌∷◌, ◌++◌, codes, decimal, length}
use Rattle.sj_lang.specs.FileAt.{FileAt}
use Rattle.sj_headline_laws.specs.Headline.{IsHeadline}
use Rattle.sj_forward_rules.specs.Drain.{IsDrained, passed_in}
use Rattle.sj_forward_rules.specs.Start.{forward_start}
use Rattle.sj_forward_rules.specs.World.{WorldAt}
use Rattle.sj_rules.specs.Events.{acts_in}
use Rattle.sj_rules.specs.Party.{play_of}
use Rattle.sj_rules.specs.World.{Turn}
use Rattle.sj_semantics.specs.declared.Verdict.{Verdict}
use Rattle.sj_semantics.specs.Program.{Program}
use Rattle.sj_semantics.specs.Run.{end_of}
use Rattle.sj_semantics.specs.State.{verdict_of}
use Rattle.sj_semantics.specs.Transcript.{line_of, transcript_of}

-- how many frames were delivered
abbrev pub passed_line : ℕ → List ℕ
passed_line n = line_of (codes "passed" ∷ decimal n ∷ [])

-- the transcript of the file's end, and after it how many frames were delivered. The turns are
-- those of the rounds by which forwarding drains the file from its start, and their acts are a run
-- with the headline, which leads to that end
pub record IsForwardText (file : FileAt) (text : List ℕ) : Type 0 where
  pub turns : List Turn
  pub last : WorldAt Program
  pub drained : IsDrained (play_of file) (length file.parties) (forward_start file) turns last
  pub headline : IsHeadline file (acts_in turns) (end_of file)
  pub printed : text ≡ transcript_of file (end_of file) ++ passed_line (passed_in turns)

-- the file ends with that verdict, and that is printed
abbrev pub HasForwarded : FileAt → Verdict → List ℕ → Type 0
HasForwarded file verdict text = (verdict ≡ verdict_of (end_of file)) × IsForwardText file text
