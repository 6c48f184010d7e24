-- A session that the node opened is a step of the play in which its code opens it.
use Rattle.std.proofs.Common.{◌≡◌, ℕ, ◌+◌, ◌∷◌, length, Some, Result, Ok, Err, IfOk, OnOk, refl, ap, sym, ◌∙◌, subst}
use Rattle.sj_base.specs.declared.EndId.{EndId}
use Rattle.sj_core.proofs.TakenLemmas.{entry_is}
use Rattle.sj_end.specs.Lines.{note_seen}
use Rattle.sj_end.specs.declared.note.Entry.{Entry}
use Rattle.sj_end.specs.declared.note.Event.TheVariants as events
use Rattle.sj_end.specs.declared.note.Note.{Note}
use Rattle.sj_lang.specs.Place.{Place}
use Rattle.sj_node.specs.declared.node.Node.{Node}
use Rattle.sj_node.specs.Calls.{call_of}
use Rattle.sj_node.specs.Node.{Does, clock_of, node_at}
use Rattle.sj_node.specs.declared.refusal.Halt.{Halt}
use Rattle.sj_node.proofs.SeatLemmas.{row_done}
use Rattle.sj_rules.specs.Log.{NoteAt}
use Rattle.sj_rules.specs.Node.{act_by}
use Rattle.sj_seat.specs.Holding.{ends_at}
use Rattle.sj_seat.specs.Opened.{openings_at}
use Rattle.sj_seat_laws.specs.Calls.{SeatedAt}
use Rattle.sj_seat_laws.specs.SeatRows.{call_told, silent}
use Rattle.sj_table.specs.Spots.{place_in}
use Rattle.sj_table.specs.declared.table.Table.{Table}
use Rattle.sj_seats.specs.Core.{seat_by}
use Rattle.sj_seats.specs.declared.played.Chair.{Chair}
use Rattle.sj_seat.specs.Asked.{want_opening}
use Rattle.sj_seat.specs.Logged.{opening_end, opening_note}
use Rattle.sj_seat.specs.NodeOpening.{Opens, note_opening}
use Rattle.sj_seat.specs.Wishes.{open_wished}
use Rattle.sj_seat.specs.declared.wish.OpenWish.{OpenWish}
use Rattle.sj_seat.specs.declared.wish.OpenWish.TheVariants.{Request, Accept}
use Rattle.sj_seat_laws.specs.Guards as guards
use Rattle.sj_seats.specs.Calling.{OpensOne, OpensSo, protocol_asked}
use Rattle.sj_seats.specs.Calls.{end_in}
use Rattle.sj_seats.proofs.MakingLemmas.{Makes, StepsTo}
use Rattle.sj_seat.proofs.SessionLemmas.{end_told, note_told, opening_noted, opening_row}
use Rattle.sj_seat.proofs.CalledLemmas.{stepped}
use Rattle.sj_seat.proofs.DoneLemmas.{few_so}

-- what a node answers that it opened
pub open_so : (old new : Node) (wish : OpenWish) (place : Place) (r : Result EndId Halt) → OnOk r (Does old (call_of old (want_opening place wish)) (clock_of old + 1) events.Act (note_opening old wish) new) → IfOk r (Opens old wish) → IfOk r (OpensSo old wish place new)
open_so old new wish place (Err h) did opens = tt
open_so old new wish place (Ok e) did opens = record {
  opens = opens;
  called = row_done old new (want_opening place wish) (note_opening old wish) (λ left row. opening_noted old wish place e opens) did;
}

-- its note tells the session that was opened as that protocol
opening_tells : (n : Node) (wish : OpenWish) (end : EndId) (opened : EndId → ℕ) → Opens n wish end → opened end ≡ protocol_asked wish → call_told (opened (end_in (note_seen (note_opening n wish)))) (note_seen (note_opening n wish)) ≡ Some (open_wished wish)
opening_tells n wish end opened opens same = ap (λ (note : NoteAt). call_told (opened (end_in note)) note) (note_told n wish end opens) ∙ by wish (ap opened (sym (end_told n wish end opens)) ∙ same)
  where
    by : (w : OpenWish) → opened (opening_end w end.sess) ≡ protocol_asked w → call_told (opened (end_in (opening_note w end.sess))) (opening_note w end.sess) ≡ Some (open_wished w)
    by (Request q m) is = ap (λ (k : ℕ). Some (open_wished (Request q k))) is
    by (Accept q m) is = ap (λ (k : ℕ). Some (open_wished (Accept q k))) is

end_is : (wish : OpenWish) (sess : ℕ) → opening_end wish sess ≡ end_in (opening_note wish sess)
end_is (Request q m) sess = refl
end_is (Accept q m) sess = refl

-- where it was noted so, the end is that of the session which the note names
pub opened_so : (t : Table) (opened : EndId → ℕ) (old new : Node) (before after : Chair) (wish : OpenWish) (e : Entry) (note : Note) → (x : OpensOne t old before wish e new after) → note_seen e.note ≡ note_seen note → protocol_asked wish ≡ opened (end_in (note_seen note))
    → opened x.end ≡ protocol_asked wish
opened_so t opened old new before after wish e note x same told =
    let is = entry_is old x.mid new x.opened.called.left (clock_of old + 1) events.Act (note_opening old wish) e x.opened.called.did x.took x.entry in
    ap opened (end_told old wish x.end x.opened.opens ∙ end_is wish x.end.sess ∙ ap end_in (sym (note_told old wish x.end x.opened.opens) ∙ ap (λ (f : Entry). note_seen f.note) (sym is) ∙ same)) ∙ sym told

-- the session that may be opened is, as the step of that call
pub open_makes : (t : Table) (opened : EndId → ℕ) (old new : Node) (before after : Chair) (wish : OpenWish) (e : Entry) → (x : OpensOne t old before wish e new after) → opened x.end ≡ protocol_asked wish → Makes t opened old before (open_wished wish) e new after
open_makes t opened old new before after wish e x same =
    let os = openings_at t before.may in
    let bs = ends_at t before.ends.items in
    let note = note_opening old wish in
    let place = place_in t x.spot in
    let want = want_opening place wish in
    record {
      mid = x.mid;
      left = x.opened.called.left;
      note = note;
      did = x.opened.called.did;
      took = x.took;
      entry = x.entry;
      tells = opening_tells old wish x.end opened x.opened.opens same;
      steps = λ file p parties party rest.
          let s : SeatedAt = seat_by t (open_wished wish ∷ rest) before in
          let then_is : guards.opened s x.end ≡ seat_by t rest after = λ i. record { ends = sym x.ends i; steps = sym x.calls i; calls = rest; may = openings_at t (sym x.may i) } in
          let row : act_by (silent (length file.parties)) old.party (node_at old) want ≡ Some x.opened.called.left = (λ i. act_by (silent (sym parties i)) old.party (node_at old) want) ∙ x.opened.called.row in
          subst (λ (q : ℕ). StepsTo file q s old (note_seen note) x.opened.called.left (seat_by t rest after)) party
          (subst (λ (u : SeatedAt). StepsTo file old.party s old (note_seen note) x.opened.called.left u) then_is
          (stepped file old.party s (node_at old) want (guards.opened s x.end) x.opened.called.left (note_seen note)
          (sym x.guarded.want) (few_so before.calls x.guarded.few)
          (opening_row file s old wish place x.end x.opened.called.left x.opened.opens row) x.opened.called.note));
    }
