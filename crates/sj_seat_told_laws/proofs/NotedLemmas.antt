-- The note of a core act is that of the plain step, in any play.
use Rattle.std.proofs.Common.{◌≡◌, ℕ, ◌<◌, Bool, List, [], ◌∷◌, ◌++◌, slice_get, Option, Some, None, option_map, refl, ap, sym, ◌∙◌, subst}
use Rattle.std.specs.Prelude.{Contains}
use Rattle.std.proofs.lemmas.List.Elements.{Contains-append_left}
use Rattle.sj_base.specs.declared.EndId.{EndId}
use Rattle.sj_base.specs.declared.Msg.{Msg}
use Rattle.sj_rules.specs.Linked.{waiting_at}
use Rattle.sj_rules.specs.Log as notes
use Rattle.sj_rules.specs.Log.{NoteAt, act_note, head_note, take_note}
use Rattle.sj_rules.specs.Node as wanted
use Rattle.sj_rules.specs.Node.{NodeAt, Play, Want}
use Rattle.sj_rules.specs.Opened.{opened_in, opened_number, smallest, smallest_from}
use Rattle.sj_rules.specs.PlainSide.{PlainAt}
use Rattle.sj_rules.specs.Premises.{FitsStep, IsLawful}
use Rattle.sj_rules.specs.Reading.{AreRising, IsOpenKept}
use Rattle.sj_rules.specs.Record.{Closed, Expected, Held, HeldAt, MainAt}
use Rattle.sj_rules.specs.Shown.{bodies}
use Rattle.sj_rules.specs.World.{WorldAt}
use Rattle.sj_opened_lemmas.proofs.AcceptKeepLemmas.{first_smallest}
use Rattle.sj_rules_laws.proofs.KeptLemmas.{open_untaken}
use Rattle.sj_seat_told_laws.specs.PlainNotes.{plain_note, step_note}

-- the smallest of numbers, where they and these rise together, is the first of all
smallest_of_front : (ns rest all : List ℕ) → ns ++ rest ≡ all → AreRising all → (n : ℕ) → smallest ns ≡ Some n → slice_get all 0 ≡ Some n
smallest_of_front [] rest all is rising n h = cc
smallest_of_front (m ∷ ns) rest [] is rising n h = absurd (cc is)
smallest_of_front (m ∷ ns) rest (s ∷ later) is rising n h =
    let first : m ≡ s = cc in
    let others : ns ++ rest ≡ later = cc in
    let it : smallest_from m ns ≡ n = cc in
    let same : s ≡ n = sym first ∙ sym (first_smallest m ns (λ k c. subst (λ (i : ℕ). i < k) (sym first) (rising.0 k (subst (λ (l : List ℕ). Contains l k) others (Contains-append_left ns rest k c))))) ∙ it in
    ap Some same

-- an option's note, of a value that is there
noted_of : {X : Type 0} (noted : X → NoteAt) (o : Option X) (y : X) (note : NoteAt) → o ≡ Some y → noted y ≡ note → option_map noted o ≡ Some note
noted_of noted o y note there same = ap (option_map noted) there ∙ ap Some same

module _ {P Q : Type 0} (IsOver : P → Type 0) (play : Play P Q) (binds : Q → EndId → Bool) (core : WorldAt P Q) (plain : PlainAt P Q) (kept : IsOpenKept IsOver binds play.blank core plain) (lawful : IsLawful IsOver play binds play.parties plain) (p : ℕ) where
  abbrev n : NodeAt P Q
  n = core.nodes p

  -- a take: what is untaken at a Held record is a prefix of what waits
  take_noted : (e : EndId) (note : NoteAt) → e.side < 2 → take_note e (n.main e) ≡ Some note → option_map (λ m. notes.Took e m) (waiting_at plain e 0) ≡ Some note
  take_noted e note low h = by_main (n.main e) refl h
    where
      by_head : (k : HeldAt P) (ms : List Msg) → n.main e ≡ Some (Held k) → k.untaken ≡ ms → head_note e ms ≡ Some note → option_map (λ m. notes.Took e m) (waiting_at plain e 0) ≡ Some note
      by_head k [] there is t = cc
      by_head k (m ∷ rest) there is t =
          let front = open_untaken IsOver binds play.blank core plain kept p e k low there in
          ap (option_map (λ (x : Msg). notes.Took e x)) (ap (λ l. slice_get l 0) (front.all ∙ ap (λ l. l ++ front.rest) is)) ∙ t

      by_main : (o : Option (MainAt P)) → n.main e ≡ o → take_note e o ≡ Some note → option_map (λ m. notes.Took e m) (waiting_at plain e 0) ≡ Some note
      by_main None there t = cc
      by_main (Some (Held k)) there t = by_head k k.untaken there refl t
      by_main (Some (Closed c)) there t = cc
      by_main (Some (Expected keeper q deferred)) there t = cc

  -- an accept: the smallest of what is offered there is the first of what was opened
  accept_noted : (from : ℕ) (note : NoteAt) (o : Option ℕ) → smallest (n.offers from) ≡ o → option_map (λ sess. notes.Accept sess from) o ≡ Some note
      → option_map (λ sess. notes.Accept sess from) (slice_get (plain.offers from p) 0) ≡ Some note
  accept_noted from note None is h = cc
  accept_noted from note (Some s) is h =
      ap (option_map (λ (i : ℕ). notes.Accept i from)) (smallest_of_front (n.offers from) (opened_in (bodies (core.lanes from p))) (plain.offers from p) (kept.offers from p) (kept.rising from p) s is) ∙ h

  want_noted : (want : Want P) → FitsStep IsOver play binds plain p (plain.programs p) want → (note : NoteAt) → act_note p n want ≡ Some note → plain_note plain p want ≡ Some note
  want_noted wanted.ended fit note h = h
  want_noted wanted.local fit note h = h
  want_noted (wanted.sends e m) fit note h = h
  want_noted (wanted.delegates c e) fit note h = h
  want_noted (wanted.takes e place) fit note h = take_noted e note (lawful.proper p e fit.bound).0 h
  want_noted (wanted.closes e) fit note h = h
  want_noted (wanted.requests place to) fit note h = ap (λ (k : ℕ). Some (notes.Request (opened_number p k) to)) (sym (kept.requests p)) ∙ h
  want_noted (wanted.accepts place from) fit note h = accept_noted from note (smallest (n.offers from)) refl h

  -- the note that the core has for its act is that of the plain step
  pub act_is_noted : (note : NoteAt) → act_note p n (play.wants n.program) ≡ Some note → step_note play plain p ≡ Some note
  act_is_noted note h = want_noted (play.wants (plain.programs p)) (lawful.steps p) note (ap (λ (g : Q). act_note p n (play.wants g)) (sym (kept.kept.programs p)) ∙ h)
