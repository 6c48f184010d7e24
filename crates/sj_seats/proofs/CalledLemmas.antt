-- What a node did of a call, and what its code holds then, as its answer says.
use Rattle.std.proofs.Common.{◌≡◌, ℕ, ◌+◌, ◌<◌, [], ◌∷◌, ◌++◌, length, Option, Some, None, refl, ap, sym, ◌∙◌, length-append, arith}
use Rattle.std.specs.Prelude.{is_some}
use Rattle.sj_base.specs.declared.Msg.{Msg}
use Rattle.sj_end.specs.declared.note.Entry.{Entry}
use Rattle.sj_end.specs.declared.note.Event.{Event}
use Rattle.sj_end.specs.declared.note.Event.TheVariants as events
use Rattle.sj_end.specs.declared.note.Note.{Note}
use Rattle.sj_lang.specs.Place.{Place}
use Rattle.sj_node.specs.declared.node.Node.{Node}
use Rattle.sj_node.specs.declared.seats.Call as seats
use Rattle.sj_node.specs.Calls.{call_of}
use Rattle.sj_node.specs.Node.{Does, clock_of, log_of}
use Rattle.sj_node.specs.Reading.{TakesEntry}
use Rattle.sj_node.specs.Seats.{call_note, head_taken, is_take, want_at}
use Rattle.sj_node.proofs.SeatLemmas.{call_done}
use Rattle.sj_rules.specs.Node.{NodeAt}
use Rattle.sj_rules.specs.Rows.{Worked}
use Rattle.sj_seat.specs.Asked.{IsGuarded, asked}
use Rattle.sj_seat.specs.Holding.{ends_at}
use Rattle.sj_seat.specs.Opened.{openings_at}
use Rattle.sj_seat_laws.specs.Guards.{ends_after}
use Rattle.sj_semantics.specs.Program.{Program}
use Rattle.sj_table.specs.declared.table.Table.{Table}
use Rattle.sj_seats.specs.Calling.{Calls}
use Rattle.sj_seats.specs.declared.played.Chair.{Chair}

-- what it did is in its log
pub logged : (old new : Node) (row : Option (Worked Place (NodeAt Place Program))) (clock : ℕ) (event : Event) (note : Note) → Does old row clock event note new → 0 < length (log_of new)
logged old new None clock event note does = absurd does
logged old new (Some left) clock event note did =
    let own : Entry = record { clock = clock; event = event; note = note } in
    let is = ap length did.log in
    omega (arith, is, length-append (log_of old) (own ∷ []))

-- what a call did that a node answers with what it takes
pub calls_so : (t : Table) (old mid new : Node) (before after : Chair) (call : seats.Call) (e : Entry) (got : Option Msg) → IsGuarded t (openings_at t before.may) (ends_at t before.ends.items) before.calls call
    → Does old (call_of old (want_at old call)) (clock_of old + 1) events.Act (call_note old call) mid → got ≡ head_taken old call → is_some got ≡ is_take call
    → TakesEntry mid new → log_of mid ≡ log_of new ++ e ∷ []
    → ends_at t after.ends.items ≡ ends_after (ends_at t before.ends.items) (asked call) got → after.calls ≡ before.calls + 1 → after.may ≡ before.may
    → Calls t old before (asked call) e new after
calls_so t old mid new before after call e got guarded does is takes took entry ends calls may = record {
  mid = mid;
  done = call;
  guarded = guarded;
  called = call_done old mid call does;
  heads = ap is_some (sym is) ∙ takes;
  took = took;
  entry = entry;
  is = refl;
  ends = ends ∙ ap (ends_after (ends_at t before.ends.items) (asked call)) is;
  calls = calls;
  may = may;
}
