-- What a call took, by the last act of the log.
use Rattle.std.proofs.Common.{◌≡◌, ◌∙◌, ◌+◌, [], ◌∷◌, ◌++◌, Option, Some, None, Result, Ok, Err, IfOk, OnOk, ap, sym}
use Rattle.std.proofs.lemmas.List.{map-append}
use Rattle.sj_base.specs.declared.EndId.{EndId}
use Rattle.sj_base.specs.declared.Msg.{Msg}
use Rattle.sj_end.specs.declared.note.Entry.{Entry}
use Rattle.sj_end.specs.declared.note.Event.TheVariants as events
use Rattle.sj_end.specs.declared.note.Note.{Note}
use Rattle.sj_end.specs.Lines.{entry_at, note_seen}
use Rattle.sj_node.specs.declared.refusal.Halt.{Halt}
use Rattle.sj_node.specs.declared.seats.Call.{Call}
use Rattle.sj_node.specs.declared.seats.Call.TheVariants as seats
use Rattle.sj_node.specs.Calls.{call_of}
use Rattle.sj_node.specs.Node.{Does, clock_of, log_of, next_head, took_if}
use Rattle.sj_node.specs.Seats.{IsCalled, call_note, head_taken, want_at}
use Rattle.sj_node.proofs.SeatLemmas.{call_done}
use Rattle.sj_rules.specs.Log.{Took}
use Rattle.sj_seat_laws.specs.Calls as calls
use Rattle.sj_work.specs.Laned.{entries_of, laned}
use Rattle.sj_work.specs.declared.worker.Worker.{Worker}
use Rattle.sj_seat.specs.Asked.{asked}
use Rattle.sj_seat.specs.Logged.{TellsTaken, last_act}
use Rattle.sj_seat.proofs.LastLemmas.{last_later}

module _ {O I : Type 0} (a b : Worker O I) where
  -- an act that is noted last
  pub noted_last : (note : Note) → log_of b.node ≡ log_of a.node ++ record { clock = clock_of a.node + 1; event = events.Act; note = note } ∷ [] → last_act (laned b).log ≡ Some (note_seen note)
  noted_last note log =
      let entry : Entry = record { clock = clock_of a.node + 1; event = events.Act; note = note } in
      ap last_act (ap entries_of log ∙ map-append entry_at (log_of a.node) (entry ∷ [])) ∙ last_later (entries_of (log_of a.node)) (entry_at entry ∷ [])

  took_so : (e : EndId) (o : Option Msg) (m : Msg) → Some m ≡ o → note_seen (took_if e o) ≡ Took e m
  took_so e o m is = sym (ap (λ r. note_seen (took_if e r)) is)

  taken_so : (call : Call) (o : Option Msg) → o ≡ head_taken a.node call → IsCalled a.node call b.node → TellsTaken b (asked call) o
  taken_so (seats.Send e m) o is x = tt
  taken_so (seats.Delegate c e) o is x = tt
  taken_so (seats.Close e) o is x = tt
  taken_so (seats.Take e spot) None is x = tt
  taken_so (seats.Take e spot) (Some m) is x = noted_last (took_if e (next_head a.node e)) x.did.log ∙ ap Some (took_so e (next_head a.node e) m is)

  -- whatever the node answers
  pub tells_taken : (call : Call) (r : Result (Option Msg) Halt) → OnOk r (Does a.node (call_of a.node (want_at a.node call)) (clock_of a.node + 1) events.Act (call_note a.node call) b.node)
      → IfOk r (λ m. m ≡ head_taken a.node call) → IfOk r (TellsTaken b (asked call))
  tells_taken call (Err halt) did taken = tt
  tells_taken call (Ok m) did taken = taken_so call m taken (call_done a.node b.node call did)

-- the same where the last act stayed the last one
pub tells_still : {O I : Type 0} (a b : Worker O I) (c : calls.Call) (o : Option Msg) → last_act (laned b).log ≡ last_act (laned a).log → TellsTaken a c o → TellsTaken b c o
tells_still a b (calls.takes e) (Some m) same told = same ∙ told
tells_still a b (calls.takes e) None same told = tt
tells_still a b (calls.sends e m) o same told = tt
tells_still a b (calls.delegates c e) o same told = tt
tells_still a b (calls.closes e) o same told = tt
tells_still a b (calls.requests q n) o same told = tt
tells_still a b (calls.accepts q n) o same told = tt
