-- The text of a settled world.
use Rattle.std.specs.Prelude.{ℕ, ◌+◌, List, [], ◌∷◌, ◌++◌, Option, Some, None, decimal, codes}
use Rattle.sj_semantics.specs.declared.Passed.{Passed}
use Rattle.sj_semantics.specs.declared.State.{State}
use Rattle.sj_base.specs.declared.EndId.{EndId}
use Rattle.sj_semantics.specs.declared.Opened.{Opened}
use Rattle.sj_semantics.specs.declared.State.TheVariants as states
use Rattle.sj_semantics.specs.declared.Limit.{Limit}
use Rattle.sj_semantics.specs.declared.Limit.TheVariants as limits
use Rattle.sj_semantics.specs.declared.Verdict.{Verdict}
use Rattle.sj_semantics.specs.declared.Verdict.TheVariants as verdicts
use Rattle.sj_lang.specs.FileAt.{FileAt, PartyAt, ConnectAt}
use Rattle.sj_semantics.specs.Program.{Program}
use Rattle.sj_semantics.specs.World.{World}
use Rattle.sj_semantics.specs.Ends.{Session, end_at, other_end}
use Rattle.sj_semantics.specs.State.{state_of_program, opened_in, verdict_of}
pub use Rattle.sj_semantics.specs.Lines.{line_of, word_at, name_of, end_text, int_text, message_words}

-- the first of these takers, or `-` where nobody took the message
abbrev pub taker_text : FileAt → List ℕ → List ℕ
taker_text file [] = codes "-"
taker_text file (q ∷ qs) = name_of file q

-- the takers of the messages after the first
abbrev pub tail_of : List ℕ → List ℕ
tail_of [] = []
tail_of (q ∷ qs) = qs

-- the messages of an end, from number n on, with those who took them
abbrev pub sent_lines : FileAt → ℕ → ℕ → ℕ → List Passed → List ℕ → List ℕ
sent_lines file s d n [] takers = []
sent_lines file s d n (x ∷ xs) takers =
    line_of (end_text s d ∷ decimal n ∷ name_of file x.by ∷ taker_text file takers ∷ message_words file x.msg)
    ++ sent_lines file s d (n + 1) xs (tail_of takers)

-- the connection's two parties and ends
abbrev pub session_line : FileAt → ℕ → ConnectAt → List ℕ
session_line file s c =
    line_of (codes "session" ∷ decimal s ∷ word_at file.words c.first.party ∷ word_at file.words c.first.name
    ∷ word_at file.words c.second.party ∷ word_at file.words c.second.name ∷ [])

-- the sessions of connections, from number s on
abbrev pub session_lines : FileAt → ℕ → List ConnectAt → List Session → List ℕ
session_lines file s (c ∷ cs) (z ∷ zs) =
    session_line file s c ++ sent_lines file s 0 0 z.first.sent z.second.takers
    ++ sent_lines file s 1 0 z.second.sent z.first.takers ++ session_lines file (s + 1) cs zs
session_lines file s _ _ = []

-- the name in the accept, or `-` where there was none
abbrev pub accepted_text : FileAt → Option ℕ → List ℕ
accepted_text file None = codes "-"
accepted_text file (Some y) = word_at file.words y

-- who opened the session, and to whom
abbrev pub opened_line : FileAt → Opened → List ℕ
opened_line file o =
    line_of (codes "session" ∷ decimal o.sess ∷ name_of file o.from ∷ word_at file.words o.first ∷ name_of file o.to ∷ accepted_text file o.second ∷ [])

-- what was sent on the end
abbrev pub end_lines : FileAt → List Session → EndId → List ℕ
end_lines file zs e = sent_lines file e.sess e.side 0 (end_at zs e).sent (end_at zs (other_end e)).takers

-- the sessions that were opened
abbrev pub opened_lines : FileAt → List Session → List Opened → List ℕ
opened_lines file zs [] = []
opened_lines file zs (o ∷ os) =
    opened_line file o ++ end_lines file zs (record { sess = o.sess; side = 0 }) ++ end_lines file zs (record { sess = o.sess; side = 1 }) ++ opened_lines file zs os

-- the limit, after the steps; that of the steps themselves has no words
abbrev pub limit_words : Limit → List (List ℕ)
limit_words limits.Steps = []
limit_words (limits.Hops e) = end_text e.sess e.side ∷ []
limit_words limits.Requests = codes "request" ∷ []

-- a ready party has no line, since no party is ready in a settled world
abbrev pub state_words : FileAt → ℕ → State → List (List ℕ)
state_words file steps states.Ended = codes "ended" ∷ decimal steps ∷ []
state_words file steps (states.Waits e) = codes "waits" ∷ decimal steps ∷ end_text e.sess e.side ∷ []
state_words file steps (states.WaitsOpen q) = codes "waits" ∷ decimal steps ∷ codes "from" ∷ name_of file q ∷ []
state_words file steps (states.AtLimit l) = codes "limit" ∷ decimal steps ∷ limit_words l
state_words file steps states.Ready = []

-- how each party stands, from party p on
abbrev pub party_lines : FileAt → World → ℕ → List PartyAt → List Program → List ℕ
party_lines file w p (q ∷ qs) (g ∷ gs) =
    line_of (codes "party" ∷ word_at file.words q.name ∷ state_words file g.steps (state_of_program w p g)) ++ party_lines file w (p + 1) qs gs
party_lines file w p _ _ = []

-- the last line's word
abbrev pub verdict_word : Verdict → List ℕ
verdict_word verdicts.Done = codes "done"
verdict_word verdicts.Blocked = codes "blocked"
verdict_word verdicts.Long = codes "long"

-- connections, sessions that were opened, parties, verdict
unfoldable pub transcript_of : FileAt → World → List ℕ
transcript_of file w =
    session_lines file 0 file.connects w.sessions ++ opened_lines file w.sessions (opened_in w)
    ++ party_lines file w 0 file.parties w.parties ++ line_of (verdict_word (verdict_of w) ∷ [])
