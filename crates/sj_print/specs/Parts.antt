-- The parts of a transcript: a session with what was sent on it, a message, and a party.
use Rattle.std.specs.Prelude.{◌≡◌, ℕ, List, [], ◌∷◌, ◌++◌, Option, codes, decimal, map}
use Rattle.std.specs.Option.{option_to_list}
use Rattle.sj_base.specs.declared.EndId.{EndId}
use Rattle.sj_lang.specs.FileAt.{FileAt, ConnectAt}
use Rattle.sj_told.specs.declared.told.Stand.{Stand}
use Rattle.sj_told.specs.declared.told.ToldEnd.{ToldEnd}
use Rattle.sj_told.specs.Standing.{standing_lines}
use Rattle.sj_told.specs.Told.{verdict_by}
use Rattle.sj_semantics.specs.declared.Opened.{Opened}
use Rattle.sj_semantics.specs.declared.Passed.{Passed}
use Rattle.sj_semantics.specs.declared.State.{State}
use Rattle.sj_semantics.specs.Ends.{Session, end_at}
use Rattle.sj_semantics.specs.Lines.{line_of, word_at, name_of, end_text, message_words}
use Rattle.sj_semantics.specs.Transcript.{taker_text, session_line, session_lines, sent_lines, opened_line, end_lines, state_words, verdict_word}
use Rattle.sj_semantics.specs.World.{World}

-- the session's line, and those of the messages that each of its ends sent
abbrev pub session_part : FileAt → List Session → ℕ → ConnectAt → List ℕ
session_part file zs s c =
    let first = end_at zs (record { sess = s; side = 0 }) in let second = end_at zs (record { sess = s; side = 1 }) in
    session_line file s c ++ sent_lines file s 0 0 first.sent second.takers ++ sent_lines file s 1 0 second.sent first.takers

-- the same, as it is reported of these two ends
abbrev pub told_part : FileAt → ℕ → ConnectAt → (first second : ToldEnd) → List ℕ
told_part file s c first second =
    session_line file s c ++ sent_lines file s 0 0 first.sent.items first.takers.items ++ sent_lines file s 1 0 second.sent.items second.takers.items

-- the line of a session that was opened, and those of the messages that each of its ends sent
abbrev pub opened_part : FileAt → List Session → Opened → List ℕ
opened_part file zs o =
    opened_line file o ++ end_lines file zs (record { sess = o.sess; side = 0 }) ++ end_lines file zs (record { sess = o.sess; side = 1 })

-- the line of the message of that number, with who took it
abbrev pub passed_part : FileAt → EndId → ℕ → Option ℕ → Passed → List ℕ
passed_part file e n taker x =
    line_of (end_text e.sess e.side ∷ decimal n ∷ name_of file x.by ∷ taker_text file (option_to_list taker) ∷ message_words file x.msg)

-- the line of a party of that name
abbrev pub party_part : FileAt → ℕ → ℕ → State → List ℕ
party_part file name steps state = line_of (codes "party" ∷ word_at file.words name ∷ state_words file steps state)

-- the lines of the file's parties that stand so
abbrev pub stand_lines : FileAt → List Stand → List ℕ
stand_lines file stands = standing_lines file file.parties (map (λ s. s.steps) stands) (map (λ s. s.state) stands)

-- the sessions of the file's connections, those lines, and the verdict by them
abbrev pub standing_text : FileAt → World → List Stand → List ℕ
standing_text file w stands =
    session_lines file 0 file.connects w.sessions ++ stand_lines file stands ++ line_of (verdict_word (verdict_by stands) ∷ [])

-- the text is what it was, and something after it
pub record IsPutAfter (old new : List ℕ) : Type 0 where
  pub put : List ℕ
  pub appended : new ≡ old ++ put
