-- What an accepted line does, and what is said of a line.
use Rattle.std.specs.Prelude.{◌≡◌, ◌⊎◌, ℕ, ◌+◌, false, List, [], ◌∷◌, ◌++◌, Option, Some, None, unwrap_or}
use Rattle.sj_base.specs.declared.EndId.{EndId}
use Rattle.sj_base.specs.declared.Msg.{Msg}
use Rattle.sj_base.specs.declared.Msg.TheVariants as msgs
use Rattle.sj_semantics.specs.Uses.{Use, after_uses, delegates, sends, takes}
use Rattle.sj_semantics.specs.World.{World, begun_by, session_message}
use Rattle.sj_talk.specs.Forms as forms
use Rattle.sj_talk.specs.Forms.{FormAt, form_of}
use Rattle.sj_talk.specs.Names.{Ends, ends_without, label_number, message_of, texts_with}
use Rattle.sj_talk.specs.Rules.{carried_next, end_under, head_under, place_under, refusal_of}
use Rattle.sj_talk.specs.TalkWorld.{OnlyOthers, TalkWorld, others_acted, with_table}
use Rattle.sj_talk.specs.declared.said.Said.{Said}
use Rattle.sj_talk.specs.declared.said.Said.TheVariants as said

-- the message that is taken, where one is there
abbrev pub message_next : TalkWorld → List ℕ → Msg
message_next t x = unwrap_or (head_under t x) (msgs.More false)

-- what the line does to which ends
abbrev pub uses_of : TalkWorld → FormAt → List (EndId × Use)
uses_of t (forms.send x v) = (end_under t x, sends (message_of t.file v)) ∷ []
uses_of t (forms.select x l) = (end_under t x, sends (msgs.Label (unwrap_or (label_number t.file l) 0))) ∷ []
uses_of t (forms.turn x more) = (end_under t x, sends (msgs.More more)) ∷ []
uses_of t (forms.delegate x y) = (end_under t y, delegates) ∷ (end_under t x, sends (session_message (end_under t y) t.party)) ∷ []
uses_of t (forms.take x) = (end_under t x, takes (message_next t x)) ∷ []
-- an end that is taken begins at the place that is carried
uses_of t (forms.take_end x y) = (end_under t x, takes (message_next t x)) ∷ begun_by (carried_next (place_under t x)) (message_next t x)
uses_of t (forms.close x) = []

-- the end that the message names, under the name
abbrev pub bound_by : List ℕ → Msg → Ends
bound_by y (msgs.Sess s d k) = (y, record { sess = s; side = d }) ∷ []
bound_by y _ = []

-- the ends after the line
abbrev pub ends_after : TalkWorld → FormAt → Ends
ends_after t (forms.delegate x y) = ends_without t.ends y
ends_after t (forms.take_end x y) = t.ends ++ bound_by y (message_next t x)
ends_after t (forms.close x) = ends_without t.ends x
ends_after t _ = t.ends

-- the texts after the line
abbrev pub texts_after : TalkWorld → FormAt → List (List ℕ)
texts_after t (forms.send x v) = texts_with t.file v
texts_after t _ = t.file.texts

-- the world in which the party used the ends so
abbrev pub world_after_uses : ℕ → List (EndId × Use) → World → World
world_after_uses p us w = record { protocols = w.protocols; parties = w.parties; sessions = after_uses p us w.sessions; requests = w.requests }

-- the talk world in which a line used ends so, and left these ends
abbrev pub used_by : TalkWorld → List (EndId × Use) → Ends → TalkWorld
used_by t us ends = record { file = t.file; party = t.party; world = world_after_uses t.party us t.world; ends = ends; lines = t.lines + 1 }

-- the talk world after a line that is accepted
abbrev pub after_form : TalkWorld → FormAt → TalkWorld
after_form t f = with_table (used_by t (uses_of t f) (ends_after t f)) (texts_after t f)

-- what is said of a line that is accepted
abbrev pub answer_to : TalkWorld → FormAt → Said
answer_to t (forms.take x) = said.Took (message_next t x)
answer_to t (forms.take_end x y) = said.Took (message_next t x)
answer_to t _ = said.Fine

-- ---- whichever line it is

abbrev pub said_by_rule : TalkWorld → Option FormAt → Option ℕ → Said
said_by_rule t o (Some n) = said.Refused n
said_by_rule t None None = said.Fine
said_by_rule t (Some f) None = answer_to t f

abbrev pub after_by_rule : TalkWorld → Option FormAt → Option ℕ → TalkWorld
after_by_rule t o (Some n) = t
after_by_rule t None None = t
after_by_rule t (Some f) None = after_form t f

-- what is said of the line in that world
abbrev pub said_of : TalkWorld → List ℕ → Said
said_of t line = said_by_rule t (form_of line) (refusal_of t (form_of line))

-- the world that the line leaves: a refused line leaves it as it was
abbrev pub after_line : TalkWorld → List ℕ → TalkWorld
after_line t line = after_by_rule t (form_of line) (refusal_of t (form_of line))

-- ---- out of memory

-- the text of the line stands in the table, and nothing else of the line is done; a refused line has none
abbrev pub with_text_of : TalkWorld → List ℕ → TalkWorld
with_text_of t line = with_table t (after_line t line).file.texts

-- the line isn't done: some acts of the others are, or all of them are and its text stands in the table
abbrev pub IsUnsaid : TalkWorld → List ℕ → TalkWorld → Type 0
IsUnsaid t line u = OnlyOthers t u ⊎ (u ≡ with_text_of (others_acted t) line)
