-- The line of an event in a log, and the text of a whole log.
use Rattle.std.specs.Prelude.{ℕ, List, [], ◌∷◌, ◌++◌, Option, Some, None, decimal, codes}
use Rattle.sj_base.specs.declared.EndId.{EndId}
use Rattle.sj_lang.specs.FileAt.{FileAt}
use Rattle.sj_rules.specs.Log.{NoteAt, LineAt, Local, Sent, Took, Shut, Carry, Fin, Claim, Signal, Ack, Give, Request, Accept, Open}
use Rattle.sj_rules.specs.World.{Event, Act, Deliver}
use Rattle.sj_semantics.specs.Lines.{line_of, name_of, end_text, message_words}

-- an end as session, dot and side
abbrev pub end_word : EndId → List ℕ
end_word e = end_text e.sess e.side

-- the message from which on is resent, or `-` where nothing is
abbrev pub resend_word : Option ℕ → List ℕ
resend_word None = codes "-"
resend_word (Some n) = decimal n

-- what was done on an end, or what the frame said to one. A Claim, an Ack and a Give name the end
-- that moves. A session that is opened at run time is named by its number, with the party to which,
-- or by which, it was opened
abbrev pub note_words : FileAt → NoteAt → List (List ℕ)
note_words file Local = codes "local" ∷ []
note_words file (Sent end msg) = codes "send" ∷ end_word end ∷ message_words file msg
note_words file (Took end msg) = codes "take" ∷ end_word end ∷ message_words file msg
note_words file (Shut end) = codes "close" ∷ end_word end ∷ []
note_words file (Carry to conn number taken msg) =
    codes "carry" ∷ end_word to ∷ decimal conn ∷ decimal number ∷ decimal taken ∷ message_words file msg
note_words file (Fin to conn number) = codes "fin" ∷ end_word to ∷ decimal conn ∷ decimal number ∷ []
note_words file (Claim of) = codes "claim" ∷ end_word of ∷ []
note_words file (Signal to conn party taken) =
    codes "signal" ∷ end_word to ∷ decimal conn ∷ name_of file party ∷ decimal taken ∷ []
note_words file (Ack of conn) = codes "ack" ∷ end_word of ∷ decimal conn ∷ []
note_words file (Give of conn peer sent taken base resend) =
    codes "give" ∷ end_word of ∷ decimal conn ∷ name_of file peer ∷ decimal sent ∷ decimal taken ∷ decimal base ∷ resend_word resend ∷ []
note_words file (Request sess to) = codes "request" ∷ decimal sess ∷ name_of file to ∷ []
note_words file (Accept sess from) = codes "accept" ∷ decimal sess ∷ name_of file from ∷ []
note_words file (Open sess) = codes "open" ∷ decimal sess ∷ []

-- the party from which a frame came
abbrev pub origin_words : FileAt → Event → List (List ℕ)
origin_words file Act = []
origin_words file (Deliver from) = codes "from" ∷ name_of file from ∷ []

-- when and where it happened, and from where the frame came
abbrev pub head_words : FileAt → LineAt → List (List ℕ)
head_words file l = decimal l.entry.clock ∷ name_of file l.party ∷ origin_words file l.entry.event

-- the line of an event
abbrev pub log_line : FileAt → LineAt → List ℕ
log_line file l = line_of (head_words file l ++ note_words file l.entry.note)

-- a log: its lines, one after the other
abbrev pub log_text : FileAt → List LineAt → List ℕ
log_text file [] = []
log_text file (l ∷ ls) = log_line file l ++ log_text file ls
