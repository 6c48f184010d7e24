-- The lines of sessions that were opened, by what the history reports of their ends.
use Rattle.std.specs.Prelude.{ℕ, List, [], ◌∷◌, ◌++◌, slice_get, option_map, unwrap_or}
use Rattle.sj_base.specs.declared.EndId.{EndId}
use Rattle.sj_lang.specs.FileAt.{FileAt}
use Rattle.sj_print.specs.Parts.{stand_lines}
use Rattle.sj_seat_told_laws.specs.SeatsOpened.{opened_ends_line}
use Rattle.sj_seat_told_laws.specs.SeatsStands.{verdict_with}
use Rattle.sj_semantics.specs.Transcript.{line_of, sent_lines, verdict_word}
use Rattle.sj_semantics.specs.declared.Opened.{Opened}
use Rattle.sj_semantics.specs.declared.Passed.{Passed}
use Rattle.sj_told.specs.Told.{slot_of}
use Rattle.sj_told.specs.declared.told.Stand.{Stand}
use Rattle.sj_told.specs.declared.told.ToldEnd.{ToldEnd}

-- what the end sent, and who took it; nothing of an end that the list lacks
abbrev pub sent_at : List ToldEnd → ℕ → List Passed
sent_at ends k = unwrap_or (option_map (λ x. x.sent.items) (slice_get ends k)) []

abbrev pub takers_at : List ToldEnd → ℕ → List ℕ
takers_at ends k = unwrap_or (option_map (λ x. x.takers.items) (slice_get ends k)) []

-- its messages
abbrev pub told_end_lines : FileAt → List ToldEnd → EndId → List ℕ
told_end_lines file ends e = sent_lines file e.sess e.side 0 (sent_at ends (slot_of e)) (takers_at ends (slot_of e))

-- one session, and what was sent on its ends
abbrev pub told_session_lines : FileAt → List ToldEnd → Opened → List ℕ
told_session_lines file ends o =
    opened_ends_line file o ++ told_end_lines file ends (record { sess = o.sess; side = 0 }) ++ told_end_lines file ends (record { sess = o.sess; side = 1 })

-- all of them
abbrev pub told_sessions_lines : FileAt → List ToldEnd → List Opened → List ℕ
told_sessions_lines file ends [] = []
told_sessions_lines file ends (o ∷ os) = told_session_lines file ends o ++ told_sessions_lines file ends os

-- all but the sessions of connections: those that were opened, the parties and the verdict
abbrev pub rest_text : FileAt → List ToldEnd → List Opened → List Stand → List ℕ
rest_text file ends os stands = told_sessions_lines file ends os ++ stand_lines file stands ++ line_of (verdict_word (verdict_with stands os) ∷ [])
