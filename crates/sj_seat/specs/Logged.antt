-- The last act that a worker's log reports, and the message that was taken by it.
use Rattle.std.specs.Prelude.{◌≡◌, ℕ, ⊤, List, [], ◌∷◌, Option, Some, None}
use Rattle.sj_base.specs.declared.EndId.{EndId}
use Rattle.sj_base.specs.declared.Msg.{Msg}
use Rattle.sj_base.specs.declared.Msg.TheVariants as msgs
use Rattle.sj_rules.specs.Log as logs
use Rattle.sj_rules.specs.Log.{EntryAt, NoteAt, Took}
use Rattle.sj_rules.specs.Record.{offered_end, requested_end}
use Rattle.sj_rules.specs.World.{Event, Act, Deliver}
use Rattle.sj_seat_laws.specs.Calls.{Call, takes}
use Rattle.sj_work.specs.Laned.{laned}
use Rattle.sj_work.specs.declared.worker.Worker.{Worker}
use Rattle.sj_seat.specs.declared.wish.OpenWish.{OpenWish}
use Rattle.sj_seat.specs.declared.wish.OpenWish.TheVariants.{Request, Accept}

-- the note, where the event is an act
abbrev pub note_if_act : Event → NoteAt → Option NoteAt
note_if_act Act note = Some note
note_if_act (Deliver q) note = None

-- the later one, where there is one
abbrev pub later_of : Option NoteAt → Option NoteAt → Option NoteAt
later_of None old = old
later_of (Some note) old = Some note

-- what is noted of the last act, if any
abbrev pub last_act : List EntryAt → Option NoteAt
last_act [] = None
last_act (e ∷ es) = later_of (last_act es) (note_if_act e.event e.note)

-- the end that a message names, if any
abbrev pub end_named : Msg → Option EndId
end_named (msgs.Sess s d k) = Some (record { sess = s; side = d })
end_named _ = None

-- what is noted where the session of that number is opened, and the end of it that its party gets
abbrev pub opening_note : OpenWish → (sess : ℕ) → NoteAt
opening_note (Request q n) s = logs.Request s q
opening_note (Accept q n) s = logs.Accept s q

abbrev pub opening_end : OpenWish → (sess : ℕ) → EndId
opening_end (Request q n) s = requested_end s
opening_end (Accept q n) s = offered_end s

module _ {O I : Type 0} where
  -- the last act at the worker took that message on the end
  abbrev pub TookLast : Worker O I → EndId → Msg → Type 0
  TookLast w e m = last_act (laned w).log ≡ Some (Took e m)

  -- the last act at the worker took a message on the carrier, and that is the end that it names, if any
  pub record TookEnd (w : Worker O I) (carrier : EndId) (e : Option EndId) : Type 0 where
    pub msg : Msg
    pub took : TookLast w carrier msg
    pub end : e ≡ end_named msg

  -- what a call took is the message of the last act, on the end of the call
  abbrev pub TellsTaken : Worker O I → Call → Option Msg → Type 0
  TellsTaken w (takes e) (Some m) = TookLast w e m
  TellsTaken w _ _ = ⊤

  -- the last act at the worker opened the session of that end, which is the party's own
  pub record OpenedLast (w : Worker O I) (wish : OpenWish) (e : EndId) : Type 0 where
    pub note : last_act (laned w).log ≡ Some (opening_note wish e.sess)
    pub end : e ≡ opening_end wish e.sess
