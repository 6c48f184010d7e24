-- What a run did so far, and where its parties are.
use Rattle.std.specs.Prelude.{◌≡◌, ℕ, ◌+◌, max, Bool, true, false, List, [], ◌∷◌, ◌++◌, codes, map, Option, Some, None, if◌then◌else◌}
use Rattle.std.specs.List.{list_any}
use Rattle.sj_lang.specs.FileAt.{FileAt, PartyAt}
use Rattle.sj_lang.specs.Place.{Place}
use Rattle.sj_plain.specs.SharedFile.{without_words}
use Rattle.sj_rules.specs.Events.{acts_in}
use Rattle.sj_rules.specs.History.{IsFirstMisfit, IsHistory, turn_of}
use Rattle.sj_rules.specs.Log.{LineAt}
use Rattle.sj_rules.specs.World.{WorldAt}
use Rattle.sj_semantics.specs.Program.{Program}
use Rattle.sj_semantics.specs.Run.{IsRun}
use Rattle.sj_semantics.specs.State.{opened_in, state_of_program, states_of, verdict_of}
use Rattle.sj_semantics.specs.Transcript.{line_of, opened_lines, session_lines, verdict_word}
use Rattle.sj_semantics.specs.World.{World}
use Rattle.sj_semantics.specs.declared.State.{State}
use Rattle.sj_semantics.specs.declared.State.TheVariants as states
use Rattle.sj_semantics.specs.declared.Verdict.{Verdict}
use Rattle.sj_join.specs.Places.{place_line}
use Rattle.sj_join.specs.declared.now.Now.{Now}

-- who acts in these lines, in order
abbrev pub actors : List LineAt → List ℕ
actors lines = acts_in (map turn_of lines)

-- where each party is, from party p on
abbrev pub place_lines : FileAt → World → ℕ → List PartyAt → List Program → List ℕ
place_lines file w p (q ∷ qs) (g ∷ gs) = place_line file p g.steps (state_of_program w p g) ++ place_lines file w (p + 1) qs gs
place_lines file w p _ _ = []

-- it can act
abbrev pub is_ready : State → Bool
is_ready states.Ready = true
is_ready _ = false

-- how the run ended, where no party can act
abbrev pub ending_of : World → Option Verdict
ending_of w = if list_any is_ready (states_of w) then None else Some (verdict_of w)

abbrev pub ending_line : Option Verdict → List ℕ
ending_line None = codes "running\n"
ending_line (Some verdict) = line_of (verdict_word verdict ∷ [])

-- the sessions and what was sent on them, as in a transcript; then where each party is, and how the run ended
abbrev pub now_text : FileAt → World → List ℕ
now_text file w =
    session_lines file 0 file.connects w.sessions ++ opened_lines file w.sessions (opened_in w)
    ++ place_lines file w 0 file.parties w.parties ++ ending_line (ending_of w)

-- the lines are a history of the file, their acts lead to a world from its start on, and this is said of that world
pub record IsNow (file : FileAt) (lines : List LineAt) (now : Now) : Type 0 where
  pub core : WorldAt Place Program
  pub history : IsHistory max file lines core
  pub world : World
  pub led : IsRun (without_words file) (actors lines) world
  pub verdict : now.verdict ≡ ending_of world
  pub text : now.text.items ≡ now_text file world

-- they are none: one of them isn't the line that is due there
pub record IsNoHistory (file : FileAt) (lines : List LineAt) : Type 0 where
  pub number : ℕ
  pub logged : LineAt
  pub other : Option LineAt
  pub first : IsFirstMisfit max file lines number logged other

-- what is answered of a log
abbrev pub IsNowIf : FileAt → List LineAt → Option Now → Type 0
IsNowIf file lines (Some now) = IsNow file lines now
IsNowIf file lines None = IsNoHistory file lines
