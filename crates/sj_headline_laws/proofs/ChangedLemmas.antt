-- What each change does to a sound world.
use Rattle.std.proofs.Common.{◌≡◌, ℕ, nat_lt, true, cond, List, [], ◌∷◌, length, slice_get, Option, Some, None, option_map, refl, ap, sym, ◌∙◌}
use Rattle.std.proofs.lemmas.Bool.{ltb-true}
use Rattle.sj_base.specs.declared.EndId.{EndId}
use Rattle.sj_lang.specs.FileAt.{FileAt, ProtocolAt, body_named, party_names}
use Rattle.sj_semantics.specs.declared.Awaits.{Awaits}
use Rattle.sj_semantics.specs.declared.Want.{Want}
use Rattle.sj_semantics.specs.declared.Want.TheVariants as wants
use Rattle.sj_semantics.specs.declared.Passed.{Passed}
use Rattle.sj_semantics.specs.Program.{Program}
use Rattle.sj_semantics.specs.Requests.{limit_of_requests, opened_number, first_offer}
use Rattle.sj_semantics.specs.Wants.{want_of}
use Rattle.sj_semantics.specs.Steps.{local_of, sent_of, closed_of}
use Rattle.sj_semantics.specs.World.{World, Change, plain_change, session_message, change_by_taking, change_by_opening, change_by_accepting, change_by}
use Rattle.sj_semantics.specs.Ends.{end_at, next_for, limit_of_hops}
use Rattle.sj_semantics.specs.Uses.{sends, delegates}
use Rattle.sj_semantics_laws.proofs.ChangeLemmas.{Rests}
use Rattle.sj_headline_laws.proofs.TypedLemmas.{StepFits}
use Rattle.sj_headline_laws.proofs.WorldLemmas.{Sound, fits_want}
use Rattle.sj_headline_laws.proofs.ChangesLemmas.{Changes, cond_changes, local_changes, close_changes, send_changes, delegate_changes, take_changes}
use Rattle.sj_headline_laws.proofs.OpeningChangesLemmas.{request_changes, accept_changes}

module _ (file : FileAt) (w : World) (p : ℕ) (g : Program) (sound : Sound file w) (there : slice_get w.parties p ≡ Some g) where
  abbrev ps : List ProtocolAt
  ps = file.protocols

  abbrev names : List ℕ
  names = party_names file.parties

  taking_changes : (e : EndId) (a : Awaits) (d : Change) → want_of g ≡ Some (wants.Take e a) → StepFits ps names w.sessions g (wants.Take e a) → (o : Option Passed) → next_for w.sessions e ≡ o
      → option_map (change_by_taking ps g e a) o ≡ Some d → Changes file w p g d
  taking_changes e a d it fit None n h = cc
  taking_changes e a d it fit (Some x) n h = cond_changes file w p g true (change_by_taking ps g e a x) d (λ t. take_changes file w p g sound there e a x n it fit) h

  accepting_changes : (n q : ℕ) (d : Change) → want_of g ≡ Some (wants.Accept n q) → StepFits ps names w.sessions g (wants.Accept n q) → (o : Option ℕ) → first_offer p (w.requests q) ≡ o
      → option_map (change_by_accepting g q (body_named ps n)) o ≡ Some d → Changes file w p g d
  accepting_changes n q d it fit None f h = cc
  accepting_changes n q d it fit (Some k) f h = cond_changes file w p g true (change_by_accepting g q (body_named ps n) k) d (λ t. accept_changes file w p g sound there n q k f it fit) h

  by_changes : (want : Want) → want_of g ≡ Some want → StepFits ps names w.sessions g want → (d : Change) → change_by w p g want ≡ Some d → Changes file w p g d
  by_changes wants.Ended it fit d h = cc
  by_changes wants.Local it fit d h = cond_changes file w p g true (plain_change (local_of g) []) d (λ t. local_changes file w p g sound there fit) h
  by_changes (wants.Send e m) it fit d h = cond_changes file w p g true (plain_change (sent_of g) ((e, sends m) ∷ [])) d (λ t. send_changes file w p g sound there e m it fit) h
  by_changes (wants.Delegate e y) it fit d h =
      cond_changes file w p g (nat_lt (end_at w.sessions y).hops limit_of_hops) (plain_change (sent_of g) ((y, delegates) ∷ (e, sends (session_message y p)) ∷ [])) d (λ t. delegate_changes file w p g sound there e y it fit) h
  by_changes (wants.Take e a) it fit d h =
      taking_changes e a d it fit (next_for w.sessions e) refl (ap (λ (qs : List ProtocolAt). option_map (change_by_taking qs g e a) (next_for w.sessions e)) (sym sound.protocols) ∙ h)
  by_changes (wants.Close e) it fit d h = cond_changes file w p g true (plain_change (closed_of g) []) d (λ t. close_changes file w p g sound there fit.1) h
  by_changes (wants.Request n q) it fit d h =
      cond_changes file w p g (nat_lt (length (w.requests p)) limit_of_requests) (change_by_opening g (opened_number p (length (w.requests p))) (body_named ps n) q) d
      (λ t. request_changes file w p g sound there n q (ltb-true (length (w.requests p)) limit_of_requests t) it fit)
      (ap (λ (qs : List ProtocolAt). cond (nat_lt (length (w.requests p)) limit_of_requests) (Some (change_by_opening g (opened_number p (length (w.requests p))) (body_named qs n) q)) None) (sym sound.protocols) ∙ h)
  by_changes (wants.Accept n q) it fit d h =
      accepting_changes n q d it fit (first_offer p (w.requests q)) refl (ap (λ (qs : List ProtocolAt). option_map (change_by_accepting g q (body_named qs n)) (first_offer p (w.requests q))) (sym sound.protocols) ∙ h)

  pub change_changes : (c : Change) → Rests w p g c → Changes file w p g c
  change_changes c r = by_changes r.want r.wants_it (fits_want ps names w.sessions g r.want (sound.programs p g there) r.wants_it) c r.by_it
