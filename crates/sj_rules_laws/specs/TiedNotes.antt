-- The lines of a history beside the plain run of its acts. Each act's note is that of the plain
-- step, so the notes report what was sent on each end and taken on it, and by whom.
use Rattle.std.specs.Prelude.{◌≡◌, ℕ, List, [], ◌∷◌, ◌++◌, length, Option, Some, None, option_map, option_and_then, if◌then◌else◌, ⊤}
use Rattle.sj_base.specs.declared.EndId.{EndId}
use Rattle.sj_semantics.specs.declared.Passed.{Passed}
use Rattle.sj_semantics.specs.declared.Want.{Want}
use Rattle.sj_semantics.specs.declared.Want.TheVariants as wants
use Rattle.sj_semantics.specs.Ends.{is_end, next_for}
use Rattle.sj_semantics.specs.Requests.{first_offer, opened_number}
use Rattle.sj_semantics.specs.World.{World, act_of, session_message}
use Rattle.sj_headline_laws.specs.Headline.{next_step}
use Rattle.sj_rules.specs.Log.{Accept, Ack, Carry, Claim, Fin, Give, LineAt, Local, NoteAt, Open, Request, Sent, Shut, Signal, Took}
use Rattle.sj_rules.specs.World.{Act, Deliver, Event}

-- ---- each line

-- the note of that step of the party, where it can do it in this world
abbrev pub note_of : World → ℕ → Want → Option NoteAt
note_of w p wants.Ended = None
note_of w p wants.Local = Some Local
note_of w p (wants.Send e m) = Some (Sent e m)
note_of w p (wants.Delegate e y) = Some (Sent e (session_message y p))
note_of w p (wants.Take e a) = option_map (λ x. Took e x.msg) (next_for w.sessions e)
note_of w p (wants.Close e) = Some (Shut e)
note_of w p (wants.Request n q) = Some (Request (opened_number p (length (w.requests p))) q)
note_of w p (wants.Accept n q) = option_map (λ k. Accept (opened_number q k) q) (first_offer p (w.requests q))

-- the note reports a frame
abbrev pub IsOfFrame : NoteAt → Type 0
IsOfFrame Local = ⊥
IsOfFrame (Sent e m) = ⊥
IsOfFrame (Took e m) = ⊥
IsOfFrame (Shut e) = ⊥
IsOfFrame (Request sess to) = ⊥
IsOfFrame (Accept sess from) = ⊥
IsOfFrame (Carry to conn number taken msg) = ⊤
IsOfFrame (Fin to conn number) = ⊤
IsOfFrame (Claim of) = ⊤
IsOfFrame (Signal to conn party taken) = ⊤
IsOfFrame (Ack of conn) = ⊤
IsOfFrame (Give of conn peer sent taken base resend) = ⊤
IsOfFrame (Open sess) = ⊤

-- a line of that event in this plain world, and what holds from the next one on. An act is the
-- party's plain act, and its note that of the plain step. At a delivery nothing happens there, and
-- the note reports the frame
abbrev pub TiesLine : (World → Type 0) → World → LineAt → Event → Type 0
TiesLine Onward w l Act =
    (v : World) × (act_of w l.party ≡ Some v) × (option_and_then (note_of w l.party) (next_step w l.party) ≡ Some l.entry.note) × Onward v
TiesLine Onward w l (Deliver q) = IsOfFrame l.entry.note × Onward w

-- each line is tied so to the plain run of the acts, from that plain world on
abbrev pub AreTied : World → List LineAt → Type 0
AreTied w [] = ⊤
AreTied w (l ∷ ls) = TiesLine (λ v. AreTied v ls) w l l.entry.event

-- ---- what they report

-- the message of a Sent note on the end, with the party of its line
abbrev pub sent_told : EndId → ℕ → NoteAt → List Passed
sent_told e p (Sent f m) = if is_end e f then record { msg = m; by = p } ∷ [] else []
sent_told e p _ = []

-- the message of a Took note on the end, with the party of its line
abbrev pub taken_told : EndId → ℕ → NoteAt → List Passed
taken_told e p (Took f m) = if is_end e f then record { msg = m; by = p } ∷ [] else []
taken_told e p _ = []

-- what f finds in the notes of all lines, in order
abbrev pub told_in : (ℕ → NoteAt → List Passed) → List LineAt → List Passed
told_in f [] = []
told_in f (l ∷ ls) = f l.party l.entry.note ++ told_in f ls
