-- The next step of each party of a run of an accepted file fits what the rules see of the plain
-- world.
use Rattle.std.proofs.Common.{◌≡◌, ◌↔◌, ℕ, ◌<◌, true, false, List, [], map, length, drop, slice_get, Option, Some, None, option_map, refl, ap, sym, ◌∙◌, subst, arith}
use Rattle.std.proofs.lemmas.Bool.{false_from_ne_true, both_ways}
use Rattle.sj_base.specs.declared.EndId.{EndId}
use Rattle.sj_base.specs.declared.Msg.{Msg}
use Rattle.sj_base.specs.declared.Msg.TheVariants as msgs
use Rattle.sj_lang.specs.declared.proto.Way.TheVariants.{Out, Into}
use Rattle.sj_lang.specs.Place.{Place, done}
use Rattle.sj_lang.specs.After.{after_place}
use Rattle.sj_lang.specs.FileAt.{FileAt, ProtocolAt, PartyAt, named, party_names}
use Rattle.sj_semantics.specs.declared.Want.{Want}
use Rattle.sj_semantics.specs.declared.Want.TheVariants as wants
use Rattle.sj_semantics.specs.declared.Awaits.{Awaits}
use Rattle.sj_semantics.specs.declared.Passed.{Passed}
use Rattle.sj_semantics.specs.Balanced.{LeadsTaker}
use Rattle.sj_semantics.specs.Ends.{Session, EndAt, end_at, next_for, is_end}
use Rattle.sj_semantics.specs.Ends as semantics
use Rattle.sj_semantics.specs.Program.{Program, ends_without}
use Rattle.sj_semantics.specs.Wants.{want_of}
use Rattle.sj_semantics.specs.World.{World, session_message}
use Rattle.sj_semantics_laws.proofs.BoundLemmas.{is_end-self, want_bound}
use Rattle.sj_headline_laws.proofs.LeadLemmas.{Ahead, coming, for_sender}
use Rattle.sj_lang.specs.Meet.{Meets}
use Rattle.sj_lang.proofs.HeadLemmas.{send_answered}
use Rattle.sj_lang.proofs.MeetLemmas.{meets_back}
use Rattle.std.proofs.lemmas.List.{length-map}
use Rattle.sj_semantics.specs.Requests.{Requests}
use Rattle.sj_semantics_laws.specs.Bound.{IsBound}
use Rattle.sj_semantics_laws.specs.Unshared.{names_end}
use Rattle.sj_headline_laws.proofs.TouchedLemmas.{side, pair_of}
use Rattle.sj_headline_laws.proofs.WorldLemmas.{Sound, fits_want}
use Rattle.sj_headline_laws.proofs.UnnamedLemmas.{names_apart, named_apart, bindings_once}
use Rattle.sj_headline_laws.proofs.LocatedLemmas.{ends_go}
use Rattle.sj_headline_laws.proofs.AcceptedLemmas.{next_fits}
use Rattle.sj_headline_laws.proofs.FittingLemmas.{next_has_a_place}
use Rattle.sj_rules.specs.Record.{other_end, is_same_end, offered_end}
use Rattle.sj_rules.specs.PlainSide.{PlainSide, untaken_of}
use Rattle.sj_rules.specs.Party.{place_awaited, want_for, after_step, IsDone, play_for, binds}
use Rattle.sj_rules.specs.Plain.{is_offered_end, side_at, plain_side, plain_at}
use Rattle.sj_rules.specs.Binding.{BindsSame, BindsWithout, NamesOther}
use Rattle.sj_rules.specs.Premises.{FitsSend, FitsDelegate, FitsHead, FitsTake, FitsClose, FitsRequest, FitsAccept, FitsStep}
use Rattle.sj_rules_laws.proofs.SideLemmas.{other_end_is, other_side_below, same_end_is, side_below, drop-map}
use Rattle.sj_rules_laws.proofs.NamesLemmas.{name_binds, binds_without, binds_in}
use Rattle.sj_rules_laws.proofs.TookLemmas.{binds_same, binds_taken, binds_opened}
use Rattle.sj_rules_laws.proofs.ProperLemmas.{Size, AreProper, IsProper, sends_no_end}
use Rattle.sj_rules_laws.proofs.WantLemmas.{takes_named, opens_there}
use Rattle.sj_rules_laws.proofs.ActLemmas.{waiting_is_next}
use Rattle.sj_lang.specs.declared.proto.Way.{Way}
use Rattle.sj_lang.specs.ItemCount.{is_done}
use Rattle.sj_headline_laws.proofs.DoneLemmas.{untaken_by as nothing_waits, nothing_at_done}

-- ---- places

pub next_at_side : (all : Requests) (zs : List Session) (e : EndId) (way : Way) (m : Msg) (next : Place) → e.side < 2
    → after_place (end_at zs e).place way m ≡ Some next → after_place (plain_side all zs e).place way m ≡ Some next
next_at_side all zs e way m next lt h = ap (λ (x : PlainSide Place). after_place x.place way m) (side_below all zs e lt) ∙ h

-- what waits, by the sessions
pub untaken_is : (w : World) (e : EndId) → e.side < 2
    → untaken_of ((plain_at w).sides (other_end e)) ((plain_at w).sides e) ≡ map (λ x. x.msg) (coming (end_at w.sessions e) (end_at w.sessions (semantics.other_end e)))
untaken_is w e lt =
    let taker : EndAt = end_at w.sessions e in
    let giver : EndAt = end_at w.sessions (semantics.other_end e) in
    ap (λ (x : PlainSide Place). drop x.taken (plain_side w.requests w.sessions (other_end e)).sent) (side_below w.requests w.sessions e lt)
    ∙ ap (λ (x : PlainSide Place). drop (length taker.takers) x.sent) (side_below w.requests w.sessions (other_end e) (other_side_below e) ∙ ap (λ (f : EndId). side_at (is_offered_end w.requests (other_end e)) (end_at w.sessions f)) (other_end_is e))
    ∙ drop-map (λ (x : Passed). x.msg) (length taker.takers) giver.sent

pub is_done_there : (p : Place) → p ≡ done → is_done p ≡ true
is_done_there p h = ap is_done h

-- ---- the step of a party

module _ (file : FileAt) (n : Size) (w : World) (p : ℕ) (g : Program) (sound : Sound file w) (proper : IsProper n w) (there : slice_get w.parties p ≡ Some g) where
  abbrev ps : List ProtocolAt
  ps = file.protocols

  abbrev names : List ℕ
  names = party_names file.parties

  own_proper : AreProper n g.ends
  own_proper = proper.names p g there

  -- the program after a step that takes nothing
  after_is : (want : Want) → want_of g ≡ Some want → (play_for n.parties ps).goes g None ≡ after_step g (Some want)
  after_is want it = ap (after_step g) it

  same_by : (want : Want) → want_of g ≡ Some want → (after_step g (Some want)).ends ≡ g.ends → BindsSame binds g ((play_for n.parties ps).goes g None)
  same_by want it h = subst (λ (new : Program). BindsSame binds g new) (sym (after_is want it)) (binds_same g (after_step g (Some want)) h)

  -- without the name of that end
  without_by : (want : Want) (y : EndId) (x : ℕ) → want_of g ≡ Some want → named g.ends x ≡ Some y → (after_step g (Some want)).ends ≡ ends_without g.ends x → BindsWithout binds g ((play_for n.parties ps).goes g None) y
  without_by want y x it is_named h =
      subst (λ (new : Program). BindsWithout binds g new y) (sym (after_is want it))
      (subst (λ (ends : List (ℕ × EndId)). (f : EndId) → (binds_in ends f ≡ true) ↔ ((binds g f ≡ true) × (is_same_end f y ≡ false))) (sym h)
      (binds_without g.ends x y (bindings_once w p g y sound.unshared there) is_named))

  -- where a message is sent, the other end's place isn't empty
  pub goes_on_by : (e : EndId) (m : Msg) (next : Place) → after_place (end_at w.sessions e).place Out m ≡ Some next → (plain_side w.requests w.sessions (other_end e)).place ≡ done → ⊥
  goes_on_by e m next h over =
      let a : EndAt = end_at w.sessions e in
      let b : EndAt = end_at w.sessions (semantics.other_end e) in
      let b_over : b.place ≡ done = ap (λ (f : EndId). (end_at w.sessions f).place) (sym (other_end_is e)) ∙ ap (λ (x : PlainSide Place). x.place) (sym (side_below w.requests w.sessions (other_end e) (other_side_below e))) ∙ over in
      clash a b b_over (for_sender w.sessions a b next m h (pair_of w.sessions w.sessions e sound.pairs).even) h
    where
      clash : (a b : EndAt) → b.place ≡ done → Ahead w.sessions b a → after_place a.place Out m ≡ Some next → ⊥
      clash a b b_over t go =
          let none = nothing_at_done w.sessions b.place (map (λ x. x.msg) (coming b a)) a.place b_over t.leads in
          let both : LeadsTaker w.sessions b.place [] a.place = subst (λ (ms : List Msg). LeadsTaker w.sessions b.place ms a.place) none t.leads in
          let q : (q : Place) × (after_place b.place Into m ≡ Some q) × Meets next q = send_answered a.place b.place next m (meets_back b.place a.place both) go in
          let stuck : None ≡ Some q.0 = sym (ap (λ z. after_place z Into m) b_over) ∙ q.1 in
          cc

  send_fits : (e : EndId) (m : Msg) → want_of g ≡ Some (wants.Send e m) → FitsSend IsDone (play_for n.parties ps) binds (plain_at w) g e m
  send_fits e m it =
      let fit = fits_want ps names w.sessions g (wants.Send e m) (sound.programs p g there) it in
      record {
        bound = name_binds g.ends fit.name e fit.is_named;
        place = fit.next;
        after = next_at_side w.requests w.sessions e Out m fit.next (own_proper.below fit.name e fit.is_named).0 fit.after;
        goes_on = goes_on_by e m fit.next fit.after;
        no_end = sends_no_end g e m it;
        names = same_by (wants.Send e m) it (ends_go g (wants.Send e m) it);
      }

  apart_by : (e y : EndId) (x z : ℕ) → named g.ends x ≡ Some e → named g.ends z ≡ Some y → (z ≡ x → ⊥) → is_same_end e y ≡ false
  apart_by e y x z hx hz ne =
      false_from_ne_true (is_same_end e y) (λ t.
      both_ways (is_end e y) (names_apart g.ends x z e y (bindings_once w p g e sound.unshared there) hx hz ne)
      (subst (λ (f : EndId). is_end e f ≡ true) (same_end_is e y t) (is_end-self e)))

  delegate_fits : (e y : EndId) → want_of g ≡ Some (wants.Delegate e y) → FitsDelegate IsDone (play_for n.parties ps) binds (plain_at w) p g e y
  delegate_fits e y it =
      let fit = fits_want ps names w.sessions g (wants.Delegate e y) (sound.programs p g there) it in
      let go = ends_go g (wants.Delegate e y) it in
      let at : after_place (end_at w.sessions e).place Out (session_message y p) ≡ Some fit.next = ap (λ (q : Place). after_place q Out (session_message y p)) fit.carries in
      record {
        bound = name_binds g.ends fit.name e fit.is_named;
        handed = name_binds g.ends fit.sent_name y fit.sent_named;
        apart = apart_by e y fit.name fit.sent_name fit.is_named fit.sent_named fit.two_names;
        place = fit.next;
        after = next_at_side w.requests w.sessions e Out (session_message y p) fit.next (own_proper.below fit.name e fit.is_named).0 at;
        goes_on = goes_on_by e (session_message y p) fit.next at;
        names = without_by (wants.Delegate e y) y go.0 it go.1 go.2;
      }

  -- a session message names another end than the one on which it is taken
  other_named : (e : EndId) (x : Passed) (m : Msg) → IsBound e g.ends → next_for w.sessions e ≡ Some x → x.msg ≡ m → NamesOther e m
  other_named e x (msgs.Sess s d k) b next is =
      false_from_ne_true (is_same_end e (side s d)) (λ t.
      both_ways (is_end (side s d) e)
      (named_apart w p g (side s d) e e x sound.unshared there b next (ap (names_end (side s d)) is ∙ is_end-self (side s d)))
      (subst (λ (f : EndId). is_end f e ≡ true) (same_end_is e (side s d) t) (is_end-self e)))
  other_named e x (msgs.Int i) b next is = tt
  other_named e x (msgs.Bool i) b next is = tt
  other_named e x (msgs.Text i) b next is = tt
  other_named e x (msgs.Label i) b next is = tt
  other_named e x (msgs.More i) b next is = tt

  head_fits : (e : EndId) (a : Awaits) (x : Passed) → e.side < 2 → want_of g ≡ Some (wants.Take e a) → next_for w.sessions e ≡ Some x → FitsHead (play_for n.parties ps) binds (plain_at w) g e (place_awaited ps a) x.msg
  head_fits e a x lt it next =
      let t = next_has_a_place file w sound e x next in
      let can = next_fits file w p g e a x sound there it next in
      record {
        fits = can;
        place = t.0;
        after = next_at_side w.requests w.sessions e Into x.msg t.0 lt t.1;
        other = other_named e x x.msg (want_bound g (wants.Take e a) it) next refl;
        names = binds_taken ps names w.sessions g (sound.programs p g there) x.msg can;
      }

  take_fits : (e : EndId) (a : Awaits) → want_of g ≡ Some (wants.Take e a) → FitsTake (play_for n.parties ps) binds (plain_at w) g e (place_awaited ps a)
  take_fits e a it =
      let b = takes_named g e a it in
      let lt = (own_proper.below b.name e b.is_named).0 in
      record { bound = name_binds g.ends b.name e b.is_named; head = λ m h. by m (next_for w.sessions e) refl lt (sym (waiting_is_next w e lt) ∙ h) }
    where
      by : (m : Msg) (o : Option Passed) → next_for w.sessions e ≡ o → e.side < 2 → option_map (λ x. x.msg) o ≡ Some m → FitsHead (play_for n.parties ps) binds (plain_at w) g e (place_awaited ps a) m
      by m None next lt h = cc
      by m (Some x) next lt h = let it' : x.msg ≡ m = cc in subst (FitsHead (play_for n.parties ps) binds (plain_at w) g e (place_awaited ps a)) it' (head_fits e a x lt it next)

  close_fits : (e : EndId) → want_of g ≡ Some (wants.Close e) → FitsClose IsDone (play_for n.parties ps) binds (plain_at w) g e
  close_fits e it =
      let fit = fits_want ps names w.sessions g (wants.Close e) (sound.programs p g there) it in
      let go = ends_go g (wants.Close e) it in
      let lt = (own_proper.below go.0 e go.1).0 in
      let over : (plain_side w.requests w.sessions e).place ≡ done = ap (λ (x : PlainSide Place). x.place) (side_below w.requests w.sessions e lt) ∙ fit.0 in
      record {
        bound = name_binds g.ends go.0 e go.1;
        over = over;
        is_over = is_done_there (plain_side w.requests w.sessions e).place over;
        nothing_waits = untaken_is w e lt ∙ nothing_waits w.sessions (end_at w.sessions e) (end_at w.sessions (semantics.other_end e)) fit.0 (pair_of w.sessions w.sessions e sound.pairs).even;
        names = without_by (wants.Close e) e go.0 it go.1 go.2;
      }

  -- a request is to a party of the file, and binds an end that was bound nowhere
  request_fits : (q to : ℕ) → want_of g ≡ Some (wants.Request q to) → FitsRequest (play_for n.parties ps) binds (plain_at w) p g to
  request_fits q to it =
      let f = sound.programs p g there in
      let fit = fits_want ps names w.sessions g (wants.Request q to) f it in
      let known : to < length names = opens_there ps names g f.env (wants.Request q to) (sound.peers p g there) f.does it in
      let many : length names ≡ length file.parties = length-map file.parties (λ (x : PartyAt). x.name) in
      (omega (arith, known, many, sound.many, proper.many), binds_opened g _ fit.unused)

  accept_fits : (q from : ℕ) → want_of g ≡ Some (wants.Accept q from) → FitsAccept (play_for n.parties ps) binds (plain_at w) p g from
  accept_fits q from it sess later first = binds_opened g (offered_end sess) (fits_want ps names w.sessions g (wants.Accept q from) (sound.programs p g there) it).unused

  pub step_fits : (want : Want) → want_of g ≡ Some want → FitsStep IsDone (play_for n.parties ps) binds (plain_at w) p g (want_for ps want)
  step_fits wants.Ended it = tt
  step_fits wants.Local it = same_by wants.Local it refl
  step_fits (wants.Send e m) it = send_fits e m it
  step_fits (wants.Delegate e y) it = delegate_fits e y it
  step_fits (wants.Take e a) it = take_fits e a it
  step_fits (wants.Close e) it = close_fits e it
  step_fits (wants.Request q to) it = request_fits q to it
  step_fits (wants.Accept q from) it = accept_fits q from it
