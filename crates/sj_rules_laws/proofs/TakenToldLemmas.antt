-- The Took notes of an end report what the plain run's acts took on it.
use Rattle.std.proofs.Common.{◌≡◌, ℕ, nat_lt, true, cond, List, [], ◌∷◌, ◌++◌, map, length, Some, option_map, refl, ap, sym, ◌∙◌}
use Rattle.sj_base.specs.declared.EndId.{EndId}
use Rattle.sj_lang.specs.FileAt.{body_named}
use Rattle.sj_semantics.specs.declared.Passed.{Passed}
use Rattle.sj_semantics.specs.declared.Want.{Want}
use Rattle.sj_semantics.specs.declared.Want.TheVariants as wants
use Rattle.sj_semantics.specs.Acts.{acts_from, taken_by, taken_on, uses_on}
use Rattle.sj_semantics.specs.Ends.{end_at, is_end, limit_of_hops, next_for}
use Rattle.sj_semantics.specs.Program.{Program}
use Rattle.sj_semantics.specs.Requests.{first_offer, limit_of_requests, opened_number}
use Rattle.sj_semantics.specs.Steps.{closed_of, local_of, sent_of}
use Rattle.sj_semantics.specs.Uses.{delegates, sends}
use Rattle.sj_semantics.specs.World.{World, Change, change_by, change_by_accepting, change_by_opening, change_by_taking, plain_change, session_message}
use Rattle.sj_rules.specs.Events.{acts_in}
use Rattle.sj_rules.specs.History.{turn_of}
use Rattle.sj_rules.specs.Log.{Accept, Ack, Carry, Claim, Fin, Give, LineAt, Local, NoteAt, Open, Request, Sent, Shut, Signal, Took}
use Rattle.sj_rules_laws.specs.TiedNotes.{AreTied, IsOfFrame, note_of, taken_told, told_in}
use Rattle.sj_rules_laws.proofs.ToldLemmas.{Agree, accepting_nothing, begun_at_nothing, by_noted, by_option, by_test, lines_told, opening_nothing, same_note, skip, told_passed}

module _ (e : EndId) where
  taken_frames : (p : ℕ) (note : NoteAt) → IsOfFrame note → taken_told e p note ≡ []
  taken_frames p (Carry to conn number taken msg) h = refl
  taken_frames p (Fin to conn number) h = refl
  taken_frames p (Claim of) h = refl
  taken_frames p (Signal to conn party taken) h = refl
  taken_frames p (Ack of conn) h = refl
  taken_frames p (Give of conn peer sent taken base resend) h = refl
  taken_frames p (Open sess) h = refl
  taken_frames p Local h = absurd h
  taken_frames p (Sent f m) h = absurd h
  taken_frames p (Took f m) h = absurd h
  taken_frames p (Shut f) h = absurd h
  taken_frames p (Request sess to) h = absurd h
  taken_frames p (Accept sess from) h = absurd h

  taken_acts : (w : World) (p : ℕ) (h : Program) (want : Want) (c : Change) (note : NoteAt) → change_by w p h want ≡ Some c → note_of w p want ≡ Some note → taken_told e p note ≡ uses_on e taken_by p c.uses
  taken_acts w p h wants.Ended c note made noted = cc
  taken_acts w p h wants.Local c note made noted =
      by_test (Agree e taken_told taken_by p note) true (plain_change (local_of h) []) c (ap (taken_told e p) (sym (same_note Local note noted))) made
  taken_acts w p h (wants.Send f m) c note made noted =
      by_test (Agree e taken_told taken_by p note) true (plain_change (sent_of h) ((f, sends m) ∷ [])) c
      (ap (taken_told e p) (sym (same_note (Sent f m) note noted)) ∙ sym (skip (is_end e f) [])) made
  taken_acts w p h (wants.Delegate f y) c note made noted =
      by_test (Agree e taken_told taken_by p note) (nat_lt (end_at w.sessions y).hops limit_of_hops) (plain_change (sent_of h) ((y, delegates) ∷ (f, sends (session_message y p)) ∷ [])) c
      (ap (taken_told e p) (sym (same_note (Sent f (session_message y p)) note noted)) ∙ sym (skip (is_end e y) (cond (is_end e f) [] [] ++ []) ∙ skip (is_end e f) [])) made
  taken_acts w p h (wants.Take f a) c note made noted =
      by_option (change_by_taking w.protocols h f a) (Agree e taken_told taken_by p note) (next_for w.sessions f) c
      (λ x next. ap (taken_told e p) (sym (same_note (Took f x.msg) note (sym (ap (option_map (λ (y : Passed). Took f y.msg)) next) ∙ noted)))
      ∙ told_passed e f (record { msg = x.msg; by = p })
      ∙ ap (λ (ys : List Passed). cond (is_end e f) (record { msg = x.msg; by = p } ∷ []) [] ++ ys) (sym (begun_at_nothing e p taken_by (λ place. refl) w.protocols a x.msg))) made
  taken_acts w p h (wants.Close f) c note made noted =
      by_test (Agree e taken_told taken_by p note) true (plain_change (closed_of h) []) c (ap (taken_told e p) (sym (same_note (Shut f) note noted))) made
  taken_acts w p h (wants.Request n q) c note made noted =
      by_test (Agree e taken_told taken_by p note) (nat_lt (length (w.requests p)) limit_of_requests) (change_by_opening h (opened_number p (length (w.requests p))) (body_named w.protocols n) q) c
      (ap (taken_told e p) (sym (same_note (Request (opened_number p (length (w.requests p))) q) note noted))
      ∙ sym (opening_nothing e p taken_by (λ place. refl) h (opened_number p (length (w.requests p))) (body_named w.protocols n) q)) made
  taken_acts w p h (wants.Accept n q) c note made noted =
      by_option (change_by_accepting h q (body_named w.protocols n)) (Agree e taken_told taken_by p note) (first_offer p (w.requests q)) c
      (λ k first. by_noted e (taken_told e) (λ (i : ℕ). Accept (opened_number q i) q) p (first_offer p (w.requests q)) note [] (λ i. refl) noted
      ∙ sym (accepting_nothing e p taken_by (λ place. refl) h q (body_named w.protocols n) k)) made

  pub tied_taken : (lines : List LineAt) (w : World) → AreTied w lines → told_in (taken_told e) lines ≡ taken_on e (acts_from w (acts_in (map turn_of lines)))
  tied_taken lines w tied = lines_told e (taken_told e) taken_by (record { frames = taken_frames; acts = taken_acts }) lines w tied
