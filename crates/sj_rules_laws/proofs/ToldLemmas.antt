-- What tied lines report of an end is what the plain run's acts sent on it, and took.
use Rattle.std.proofs.Common.{◌≡◌, ℕ, Bool, true, false, cond, List, [], ◌∷◌, ◌++◌, map, slice_get, unwrap_or, Option, Some, None, option_map, option_and_then, append-nil, refl, ap, sym, ◌∙◌, subst}
use Rattle.sj_base.specs.declared.EndId.{EndId}
use Rattle.sj_base.specs.declared.Msg.{Msg}
use Rattle.sj_base.specs.declared.Msg.TheVariants as msgs
use Rattle.sj_lang.specs.Dual.{dual_of}
use Rattle.sj_lang.specs.FileAt.{ProtocolAt, body_named}
use Rattle.sj_lang.specs.Place.{Place}
use Rattle.sj_semantics.specs.declared.Awaits.{Awaits}
use Rattle.sj_semantics.specs.declared.Awaits.TheVariants as awaits
use Rattle.sj_semantics.specs.declared.Passed.{Passed}
use Rattle.sj_semantics.specs.declared.Want.{Want}
use Rattle.sj_semantics.specs.Acts.{acts_from, acts_on, uses_on}
use Rattle.sj_semantics.specs.Ends.{is_end}
use Rattle.sj_semantics.specs.Program.{Program}
use Rattle.sj_semantics.specs.Requests.{opened_number}
use Rattle.sj_semantics.specs.Uses.{Use, begins}
use Rattle.sj_semantics.specs.Wants.{want_of}
use Rattle.sj_semantics.specs.World.{World, Change, begun_at, begun_by, change_by, change_by_accepting, change_by_opening, change_of, change_of_program, changed_world}
use Rattle.sj_semantics_laws.proofs.ChangeLemmas.{rests_on}
use Rattle.sj_headline_laws.specs.Headline.{next_step}
use Rattle.sj_rules.specs.Events.{acts_in}
use Rattle.sj_rules.specs.History.{turn_of}
use Rattle.sj_rules.specs.Log.{LineAt, NoteAt}
use Rattle.sj_rules.specs.World.{Act, Deliver, Event}
use Rattle.sj_rules_laws.specs.TiedNotes.{AreTied, IsOfFrame, TiesLine, note_of, told_in}

pub skip : (b : Bool) (ys : List Passed) → cond b [] [] ++ ys ≡ ys
skip true ys = refl
skip false ys = refl

-- ---- any way to report

-- f reports of an act's note what g finds in its uses of the end, and nothing of a frame's
pub record IsToldBy (e : EndId) (f : ℕ → NoteAt → List Passed) (g : ℕ → Use → List Passed) : Type 0 where
  pub frames : (p : ℕ) (note : NoteAt) → IsOfFrame note → f p note ≡ []
  pub acts : (w : World) (p : ℕ) (h : Program) (want : Want) (c : Change) (note : NoteAt) → change_by w p h want ≡ Some c → note_of w p want ≡ Some note → f p note ≡ uses_on e g p c.uses

some_note : (w : World) (p : ℕ) (want : Want) (o : Option Want) (note : NoteAt) → o ≡ Some want → option_and_then (note_of w p) o ≡ Some note → note_of w p want ≡ Some note
some_note w p want o note is h = sym (ap (option_and_then (note_of w p)) is) ∙ h

module _ (e : EndId) (f : ℕ → NoteAt → List Passed) (g : ℕ → Use → List Passed) (told : IsToldBy e f g) where
  act_told : (w : World) (p : ℕ) (c : Change) (note : NoteAt) → change_of w p ≡ Some c → option_and_then (note_of w p) (next_step w p) ≡ Some note → f p note ≡ uses_on e g p c.uses
  act_told w p c note changed noted = by (slice_get w.parties p) refl changed
    where
      by : (o : Option Program) → slice_get w.parties p ≡ o → option_and_then (change_of_program w p) o ≡ Some c → f p note ≡ uses_on e g p c.uses
      by None there k = cc
      by (Some h) there k =
          let r = rests_on w p h c k in
          told.acts w p h r.want c note r.by_it (some_note w p r.want (next_step w p) note (ap (option_and_then want_of) there ∙ r.wants_it) noted)

  line_told : (w : World) (l : LineAt) (event : Event) (ls : List LineAt) → ((v : World) → AreTied v ls → told_in f ls ≡ acts_on e g (acts_from v (acts_in (map turn_of ls)))) → TiesLine (λ v. AreTied v ls) w l event
      → f l.party l.entry.note ++ told_in f ls ≡ acts_on e g (acts_from w (acts_in (record { party = l.party; event = event } ∷ map turn_of ls)))
  line_told w l (Deliver q) ls onward tied = ap (λ (xs : List Passed). xs ++ told_in f ls) (told.frames l.party l.entry.note tied.0) ∙ onward w tied.1
  line_told w l Act ls onward tied = by (change_of w l.party) refl tied.1
    where
      ps : List ℕ
      ps = acts_in (map turn_of ls)

      by : (o : Option Change) → change_of w l.party ≡ o → option_map (changed_world w l.party) o ≡ Some tied.0
          → f l.party l.entry.note ++ told_in f ls ≡ acts_on e g (unwrap_or (option_map (λ c. record { by = l.party; uses = c.uses } ∷ acts_from (changed_world w l.party c) (acts_in (map turn_of ls))) (change_of w l.party)) [])
      by None changed h = cc
      by (Some c) changed h =
          let same : changed_world w l.party c ≡ tied.0 = cc in
          let rest = onward tied.0 tied.3 in
          ap (λ (xs : List Passed). xs ++ told_in f ls) (act_told w l.party c l.entry.note changed tied.2)
          ∙ ap (λ (ys : List Passed). uses_on e g l.party c.uses ++ ys) (rest ∙ ap (λ (v : World). acts_on e g (acts_from v (acts_in (map turn_of ls)))) (sym same))
          ∙ sym (ap (λ (o : Option Change). acts_on e g (unwrap_or (option_map (λ c. record { by = l.party; uses = c.uses } ∷ acts_from (changed_world w l.party c) (acts_in (map turn_of ls))) o) [])) changed)

  pub lines_told : (lines : List LineAt) (w : World) → AreTied w lines → told_in f lines ≡ acts_on e g (acts_from w (acts_in (map turn_of lines)))
  lines_told [] w tied = refl
  lines_told (l ∷ ls) w tied = line_told w l l.entry.event ls (λ v t. lines_told ls v t) tied

-- ---- what is sent, and what is taken

module _ (e : EndId) (p : ℕ) (g : ℕ → Use → List Passed) (none : (place : Place) → g p (begins place) ≡ []) where
  begin_nothing : (f : EndId) (place : Place) (us : List (EndId × Use)) → uses_on e g p us ≡ [] → uses_on e g p ((f, begins place) ∷ us) ≡ []
  begin_nothing f place us rest = ap (λ (xs : List Passed). cond (is_end e f) xs [] ++ uses_on e g p us) (none place) ∙ skip (is_end e f) (uses_on e g p us) ∙ rest

  begun_nothing : (place : Place) (m : Msg) → uses_on e g p (begun_by place m) ≡ []
  begun_nothing place (msgs.Sess s d k) = begin_nothing (record { sess = s; side = d }) place [] refl
  begun_nothing place (msgs.Int i) = refl
  begun_nothing place (msgs.Bool i) = refl
  begun_nothing place (msgs.Text i) = refl
  begun_nothing place (msgs.Label i) = refl
  begun_nothing place (msgs.More i) = refl

  pub begun_at_nothing : (ps : List ProtocolAt) (a : Awaits) (m : Msg) → uses_on e g p (begun_at ps a m) ≡ []
  begun_at_nothing ps (awaits.Session q) m = begun_nothing (body_named ps q) m
  begun_at_nothing ps (awaits.Value k) m = refl
  begun_at_nothing ps awaits.OneOf m = refl
  begun_at_nothing ps awaits.MoreOrStop m = refl

  pub opening_nothing : (h : Program) (s : ℕ) (place : Place) (q : ℕ) → uses_on e g p (change_by_opening h s place q).uses ≡ []
  opening_nothing h s place q =
      begin_nothing (record { sess = s; side = 0 }) place ((record { sess = s; side = 1 }, begins (dual_of place)) ∷ []) (begin_nothing (record { sess = s; side = 1 }) (dual_of place) [] refl)

  pub accepting_nothing : (h : Program) (q : ℕ) (place : Place) (k : ℕ) → uses_on e g p (change_by_accepting h q place k).uses ≡ []
  accepting_nothing h q place k = begin_nothing (record { sess = opened_number q k; side = 1 }) place [] refl

-- the change, where an option gives it
pub by_option : {X : Type 0} (made : X → Change) (P : Change → Type 0) (o : Option X) (c : Change) → ((x : X) → o ≡ Some x → P (made x)) → option_map made o ≡ Some c → P c
by_option made P None c each h = cc
by_option made P (Some x) c each h = subst P (let it : made x ≡ c = cc in it) (each x refl)

pub by_test : (P : Change → Type 0) (b : Bool) (d c : Change) → P d → cond b (Some d) None ≡ Some c → P c
by_test P true d c holds h = subst P (let it : d ≡ c = cc in it) holds
by_test P false d c holds h = cc

pub same_note : (k l : NoteAt) → ◌≡◌ {A = Option NoteAt} (Some k) (Some l) → k ≡ l
same_note k l h = cc

module _ (e : EndId) where
  abbrev pub Agree : (EndId → ℕ → NoteAt → List Passed) → (ℕ → Use → List Passed) → ℕ → NoteAt → Change → Type 0
  Agree f g p note c = f e p note ≡ uses_on e g p c.uses

  -- of the notes that an option gives
  pub by_noted : {X : Type 0} (f : ℕ → NoteAt → List Passed) (noted : X → NoteAt) (p : ℕ) (o : Option X) (note : NoteAt) (xs : List Passed) → ((x : X) → f p (noted x) ≡ xs) → option_map noted o ≡ Some note → f p note ≡ xs
  by_noted f noted p None note xs each h = cc
  by_noted f noted p (Some x) note xs each h = ap (f p) (sym (same_note (noted x) note h)) ∙ each x

  pub told_passed : (f : EndId) (x : Passed) → cond (is_end e f) (x ∷ []) [] ≡ cond (is_end e f) (x ∷ []) [] ++ []
  told_passed f x = sym (append-nil (cond (is_end e f) (x ∷ []) []))
