-- What `talk` prints of a file and of the lines after it.
use Rattle.std.specs.Prelude.{◌≡◌, ◌<◌, ℕ, List, length}
use Rattle.sj_lang.specs.FileAt.{FileAt}
use Rattle.sj_semantics.specs.declared.Verdict.{Verdict}
use Rattle.sj_talk.specs.Output.{talk_end, talk_text}
use Rattle.sj_talk.specs.TalkWorld.{talk_start}

-- the party is there, and the lines are played in its place: how the talk ends, and what is printed
pub record HasTalked (party : ℕ) (file : FileAt) (lines : List ℕ) (verdict : Verdict) (text : List ℕ) : Type 0 where
  pub there : party < length file.parties
  pub end : verdict ≡ talk_end (talk_start file party) lines
  pub printed : text ≡ talk_text (talk_start file party) lines
