-- What is answered to a line.
use Rattle.std.specs.Prelude.{ℕ, ◌==◌, Bool, true, false, if◌then◌else◌, List, [], ◌∷◌, ◌++◌, codes, decimal}
use Rattle.sj_base.specs.declared.Msg.{Msg}
use Rattle.sj_lang.specs.FileAt.{FileAt}
use Rattle.sj_semantics.specs.Lines.{line_of, message_words}
use Rattle.sj_talk.specs.Names.{with_texts}
use Rattle.sj_work.specs.declared.worker.Stop.{Stop}
use Rattle.sj_work.specs.declared.worker.Stop.TheVariants as stops
use Rattle.sj_seat_lines.specs.declared.replies.Reply.{Reply}
use Rattle.sj_seat_lines.specs.declared.replies.Reply.TheVariants as replies

-- what is answered, apart from how it lies in memory
pub data ReplyAt : Type 0 where
  fine : ReplyAt
  took : List ℕ → Msg → ReplyAt
  took_end : List ℕ → Msg → List ℕ → ReplyAt
  opened : List ℕ → ReplyAt
  ready : Bool → ReplyAt
  refused : ℕ → ReplyAt
  waiting : ReplyAt
  stopped : Stop → ReplyAt
  no_memory : ReplyAt

abbrev pub reply_at : Reply → ReplyAt
reply_at replies.Fine = fine
reply_at (replies.Took x m) = took x.now m
reply_at (replies.TookEnd x m y) = took_end x.now m y.now
reply_at (replies.Opened x) = opened x.now
reply_at (replies.Ready b) = ready b
reply_at (replies.Refused rule) = refused rule
reply_at replies.Waiting = waiting
reply_at (replies.Stopped stop) = stopped stop
reply_at replies.NoMemory = no_memory

-- the rule of a session that the party doesn't open; it comes after those of a talk
abbrev pub not_opened : ℕ
not_opened = 8

-- the rule in words
abbrev pub rule_words : ℕ → List ℕ
rule_words n =
    if n == 1 then codes "it has none of the forms of a line"
    else (if n == 2 then codes "an end isn't held"
    else (if n == 3 then codes "the place of the end begins otherwise"
    else (if n == 4 then codes "the end can't be sent there, or the name is in use"
    else (if n == 5 then codes "what is sent is of another kind"
    else (if n == 6 then codes "at a limit" else codes "no such session may be opened")))))

-- why nothing is done any more
abbrev pub why : Stop → List ℕ
why stops.Finished = codes "it has ended"
why stops.Idle = codes "nothing comes"
why stops.AtLimit = codes "at a limit"
why stops.ClockEnd = codes "the clock is at its end"
why stops.NoMemory = codes "out of memory"
why stops.Fault = codes "a link has a fault"
why stops.Unfit = codes "a link brought what doesn't fit"

-- the words of the answer to line number n, in a run with these texts
abbrev pub reply_words : FileAt → List (List ℕ) → ℕ → ReplyAt → List (List ℕ)
reply_words file texts n fine = codes "fine" ∷ []
reply_words file texts n (took x m) = codes "took" ∷ x ∷ message_words (with_texts file texts) m
reply_words file texts n (took_end x m y) = codes "took" ∷ x ∷ (message_words (with_texts file texts) m ++ y ∷ [])
reply_words file texts n (opened x) = codes "opened" ∷ x ∷ []
reply_words file texts n (ready true) = codes "ready" ∷ []
reply_words file texts n (ready false) = codes "not" ∷ codes "ready" ∷ []
reply_words file texts n (refused rule) = codes "refused" ∷ decimal n ∷ (71 ∷ decimal rule) ∷ rule_words rule ∷ []
reply_words file texts n waiting = codes "waiting" ∷ []
reply_words file texts n (stopped stop) = codes "stopped" ∷ why stop ∷ []
reply_words file texts n no_memory = codes "stopped" ∷ codes "out of memory" ∷ []

-- the line that answers it
abbrev pub reply_line : FileAt → List (List ℕ) → ℕ → ReplyAt → List ℕ
reply_line file texts n r = line_of (reply_words file texts n r)
