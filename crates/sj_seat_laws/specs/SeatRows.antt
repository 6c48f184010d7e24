-- What a node does for a call, whatever its program is, and what a log reports of calls.
use Rattle.std.specs.Prelude.{ℕ, true, false, Option, Some, None}
use Rattle.sj_base.specs.declared.Msg.TheVariants as msgs
use Rattle.sj_lang.specs.After.{after_place}
use Rattle.sj_lang.specs.Dual.{dual_of}
use Rattle.sj_lang.specs.ItemCount.{is_done}
use Rattle.sj_lang.specs.Place.{Place, done}
use Rattle.sj_rules.specs.Log.{Accept, NoteAt, Request, Sent, Shut, Took}
use Rattle.sj_rules.specs.Node.{NodeAt, Play, Want, act_by, ended}
use Rattle.sj_rules.specs.Rows.{Worked}
use Rattle.sj_seat_laws.specs.Calls.{Call, accepts, closes, delegates, requests, sends, takes}

-- the node with another program
abbrev pub with_player : {P Q R : Type 0} → R → NodeAt P Q → NodeAt P R
with_player g n = record { program = g; clock = n.clock; requests = n.requests; offers = n.offers; main = n.main; old = n.old }

-- the same of what a row leaves
abbrev pub worked_player : {P Q R : Type 0} → R → Worked P (NodeAt P Q) → Worked P (NodeAt P R)
worked_player g w = record { state = with_player g w.state; posts = w.posts }

-- places as they are, and a program that isn't asked and stays
abbrev pub silent : {Q : Type 0} → (parties : ℕ) → Play Place Q
silent parties = record {
  next = after_place;
  is_over = is_done;
  blank = done;
  dual = dual_of;
  wants = λ g. ended;
  goes = λ g m. g;
  opened = λ g e. g;
  fits = λ g m. true;
  is_worn = λ g. false;
  parties = parties;
}

-- the node after that step, where a row fits; its program stays
abbrev pub call_act : {Q : Type 0} → (parties party : ℕ) → NodeAt Place Q → Want Place → Option (Worked Place (NodeAt Place Q))
call_act parties party n want = act_by (silent parties) party n want

-- the call that the note of an act reports. It names no protocol: a session that the call opens is
-- of that one
abbrev pub call_told : (protocol : ℕ) → NoteAt → Option Call
call_told n (Sent e (msgs.Sess s d k)) = Some (delegates e (record { sess = s; side = d }))
call_told n (Sent e m) = Some (sends e m)
call_told n (Took e m) = Some (takes e)
call_told n (Shut e) = Some (closes e)
call_told n (Request s q) = Some (requests q n)
call_told n (Accept s q) = Some (accepts q n)
call_told n _ = None
