-- The note of a core act is that of the plain step.
use Rattle.std.proofs.Common.{◌≡◌, ℕ, ◌+◌, ◌<◌, List, [], ◌∷◌, ◌++◌, length, slice_get, unwrap_or, Option, Some, None, option_map, option_and_then, refl, ap, sym, ◌∙◌, subst, arith}
use Rattle.std.specs.Prelude.{Contains}
use Rattle.std.proofs.lemmas.List.Elements.{Contains-append_left}
use Rattle.sj_base.specs.declared.EndId.{EndId}
use Rattle.sj_base.specs.declared.Msg.{Msg}
use Rattle.sj_lang.specs.Place.{Place, done}
use Rattle.sj_lang.specs.FileAt.{FileAt, body_named}
use Rattle.sj_semantics.specs.declared.Awaits.{Awaits}
use Rattle.sj_semantics.specs.declared.Passed.{Passed}
use Rattle.sj_semantics.specs.declared.Want.{Want}
use Rattle.sj_semantics.specs.declared.Want.TheVariants as wants
use Rattle.sj_semantics.specs.Ends.{next_for}
use Rattle.sj_semantics.specs.Program.{Program}
use Rattle.sj_semantics.specs.Requests.{accepted_as, first_offer, opened_number}
use Rattle.sj_semantics.specs.Uses.{altered_list}
use Rattle.sj_semantics.specs.Wants.{want_of}
use Rattle.sj_semantics.specs.World.{World, Change, act_of, change_by, change_by_accepting}
use Rattle.sj_semantics_laws.proofs.ChangeLemmas.{rests_on}
use Rattle.sj_semantics_laws.proofs.CommuteLemmas.{doing_of}
use Rattle.sj_headline_laws.specs.Headline.{next_step}
use Rattle.sj_rules.specs.Log as notes
use Rattle.sj_rules.specs.Log.{NoteAt, act_note, head_note, take_note}
use Rattle.sj_rules.specs.Linked.{waiting_at}
use Rattle.sj_rules.specs.Node.{NodeAt}
use Rattle.sj_rules.specs.Opened.{opened_in, smallest, smallest_from}
use Rattle.sj_rules.specs.Party.{IsDone, binds, nobody, play_of, want_for, want_or_ended}
use Rattle.sj_rules.specs.Plain.{offered_from, plain_at}
use Rattle.sj_rules.specs.Premises.{FitsStep, IsLawful}
use Rattle.sj_rules.specs.Reading.{AreRising, IsOpenKept}
use Rattle.sj_rules.specs.Record.{Closed, Expected, Held, HeldAt, MainAt}
use Rattle.sj_rules.specs.Shown.{bodies}
use Rattle.sj_rules.specs.World.{WorldAt}
use Rattle.sj_opened_lemmas.proofs.AcceptKeepLemmas.{first_smallest}
use Rattle.sj_rules_laws.proofs.ActLemmas.{waiting_is_next}
use Rattle.sj_rules_laws.proofs.KeptLemmas.{open_untaken}
use Rattle.sj_rules_laws.proofs.OfferSeenLemmas.{first_offered}
use Rattle.sj_rules_laws.specs.TiedNotes.{note_of}

-- what is next, by its message
next_with : (o : Option Passed) (m : Msg) → option_map (λ x. x.msg) o ≡ Some m → (x : Passed) × (o ≡ Some x) × (x.msg ≡ m)
next_with None m h = cc
next_with (Some x) m h = (x, refl, cc)

map_some : {X Y : Type 0} (f : X → Y) (o : Option X) (y : Y) → option_map f o ≡ Some y → (x : X) × (o ≡ Some x) × (Some (f x) ≡ Some y)
map_some f None y h = cc
map_some f (Some x) y h = (x, refl, h)

-- the smallest of numbers of which these come first, where all rise
smallest_of_front : (ns rest : List ℕ) (s : ℕ) (later : List ℕ) → ns ++ rest ≡ s ∷ later → AreRising (s ∷ later) → (n : ℕ) → smallest ns ≡ Some n → n ≡ s
smallest_of_front [] rest s later all rising n h = cc
smallest_of_front (m ∷ ns) rest s later all rising n h =
    let first : m ≡ s = cc in
    let others : ns ++ rest ≡ later = cc in
    let it : smallest_from m ns ≡ n = cc in
    sym it ∙ first_smallest m ns (λ k c. subst (λ (i : ℕ). i < k) (sym first) (rising.0 k (subst (λ (l : List ℕ). Contains l k) others (Contains-append_left ns rest k c)))) ∙ first

module _ (file : FileAt) (core : WorldAt Place Program) (w : World) (kept : IsOpenKept IsDone binds done core (plain_at w)) (lawful : IsLawful IsDone (play_of file) binds (length file.parties) (plain_at w)) (p : ℕ) where
  abbrev n : NodeAt Place Program
  n = core.nodes p

  -- a take: what is untaken at a Held record is a prefix of what waits
  take_noted : (e : EndId) (a : Awaits) (note : NoteAt) → e.side < 2 → take_note e (n.main e) ≡ Some note → note_of w p (wants.Take e a) ≡ Some note
  take_noted e a note low h = by_main (n.main e) refl h
    where
      by_head : (record_of : HeldAt Place) (ms : List Msg) → n.main e ≡ Some (Held record_of) → record_of.untaken ≡ ms → head_note e ms ≡ Some note → note_of w p (wants.Take e a) ≡ Some note
      by_head k [] there is t = cc
      by_head k (m ∷ rest) there is t =
          let front = open_untaken IsDone binds done core (plain_at w) kept p e k low there in
          let waits : waiting_at (plain_at w) e 0 ≡ Some m = ap (λ l. slice_get l 0) (front.all ∙ ap (λ l. l ++ front.rest) is) in
          let x = next_with (next_for w.sessions e) m (sym (waiting_is_next w e low) ∙ waits) in
          ap (option_map (λ (y : Passed). notes.Took e y.msg)) x.1 ∙ ap (λ (k : Msg). Some (notes.Took e k)) x.2 ∙ t

      by_main : (o : Option (MainAt Place)) → n.main e ≡ o → take_note e o ≡ Some note → note_of w p (wants.Take e a) ≡ Some note
      by_main None there t = cc
      by_main (Some (Held k)) there t = by_head k k.untaken there refl t
      by_main (Some (Closed c)) there t = cc
      by_main (Some (Expected keeper q deferred)) there t = cc

  -- an accept: the first of what is offered there is the first of what was opened
  accept_noted : (q from k : ℕ) (note : NoteAt) → first_offer p (w.requests from) ≡ Some k → option_map (λ sess. notes.Accept sess from) (smallest (n.offers from)) ≡ Some note → note_of w p (wants.Accept q from) ≡ Some note
  accept_noted q from k note first h =
      let s = map_some (λ sess. notes.Accept sess from) (smallest (n.offers from)) note h in
      let later : List ℕ = offered_from p from 0 (altered_list (w.requests from) k (accepted_as 0)) in
      let all : offered_from p from 0 (w.requests from) ≡ opened_number from (0 + k) ∷ later = first_offered p from 0 (w.requests from) k 0 first in
      let same : s.0 ≡ opened_number from (0 + k) =
      smallest_of_front (n.offers from) (opened_in (bodies (core.lanes from p))) (opened_number from (0 + k)) later (kept.offers from p ∙ all) (subst AreRising all (kept.rising from p)) s.0 s.1 in
      let number : 0 + k ≡ k = omega arith in
      ap (option_map (λ i. notes.Accept (opened_number from i) from)) first
      ∙ ap (λ (i : ℕ). Some (notes.Accept (opened_number from i) from)) (sym number)
      ∙ ap (λ (i : ℕ). Some (notes.Accept i from)) (sym same) ∙ s.2

  module _ (g : Program) (c : Change) where
    by_noted : (want : Want) → FitsStep IsDone (play_of file) binds (plain_at w) p ((plain_at w).programs p) (want_for file.protocols want) → change_by w p g want ≡ Some c → (note : NoteAt)
        → act_note p n (want_for file.protocols want) ≡ Some note → note_of w p want ≡ Some note
    by_noted wants.Ended fit made note h = h
    by_noted wants.Local fit made note h = h
    by_noted (wants.Send e m) fit made note h = h
    by_noted (wants.Delegate e y) fit made note h = h
    by_noted (wants.Take e a) fit made note h = take_noted e a note (lawful.proper p e fit.bound).0 h
    by_noted (wants.Close e) fit made note h = h
    by_noted (wants.Request q to) fit made note h = ap (λ (k : ℕ). Some (notes.Request (opened_number p k) to)) (sym (kept.requests p)) ∙ h
    by_noted (wants.Accept q from) fit made note h =
        let k = map_some (change_by_accepting g from (body_named w.protocols q)) (first_offer p (w.requests from)) c made in
        accept_noted q from k.0 note k.1 h

  -- the note that the core has for its act is that of the plain step
  pub act_noted : (v : World) (note : NoteAt) → act_of w p ≡ Some v → act_note p n ((play_of file).wants n.program) ≡ Some note → option_and_then (note_of w p) (next_step w p) ≡ Some note
  act_noted v note acted h =
      let a = doing_of w p v acted in
      let r = rests_on w p a.program a.change a.made in
      let program : (plain_at w).programs p ≡ a.program = ap (λ (o : Option Program). unwrap_or o nobody) a.there in
      let wants_it : (play_of file).wants ((plain_at w).programs p) ≡ want_for file.protocols r.want =
      ap (λ (x : Program). want_or_ended file.protocols (want_of x)) program ∙ ap (want_or_ended file.protocols) r.wants_it in
      let noted : act_note p n (want_for file.protocols r.want) ≡ Some note =
      ap (act_note p n) (sym (ap (λ (x : Program). (play_of file).wants x) (kept.kept.programs p) ∙ wants_it)) ∙ h in
      let fit = subst (FitsStep IsDone (play_of file) binds (plain_at w) p ((plain_at w).programs p)) wants_it (lawful.steps p) in
      ap (option_and_then (note_of w p)) (ap (option_and_then want_of) a.there ∙ r.wants_it)
      ∙ by_noted a.program a.change r.want fit r.by_it note noted
