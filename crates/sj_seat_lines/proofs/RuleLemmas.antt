-- What a line says is refused by the rule that refuses it in a talk that sees the same: delegations, and all forms.
use Rattle.std.proofs.Common.{if◌then◌else◌, ◌≡◌, ℕ, Bool, true, false, not, ◌||◌, List, [], ◌∷◌, Option, Some, None, is_none, option_and_then, refl, ap, sym, ◌∙◌}
use Rattle.std.specs.Str.{bytes_eq}
use Rattle.std.proofs.lemmas.Slice.Eq.{bytes_eq-Decides}
use Rattle.sj_base.specs.declared.EndId.{EndId}
use Rattle.sj_lang.specs.ItemCount as items
use Rattle.sj_lang.specs.Place.{Place}
use Rattle.sj_lang.specs.Words.{first_index}
use Rattle.sj_rules.specs.Record.{is_same_end}
use Rattle.sj_seat.specs.Fronts as seats
use Rattle.sj_seat.specs.declared.refusal.SeatRefusal.TheVariants as refusals
use Rattle.sj_seat.specs.declared.wish.Wish.TheVariants.{Delegate}
use Rattle.sj_seat_laws.specs.Calls.{place_held}
use Rattle.sj_seat_laws.specs.Guards.{may_carry}
use Rattle.sj_talk.specs.Forms as forms
use Rattle.sj_talk.specs.Forms.{FormAt}
use Rattle.sj_talk.specs.Names.{end_named, label_if, label_number}
use Rattle.sj_talk.specs.Rules.{at_limit, begins_otherwise, carried_next, first_rule, head_under, is_done, is_full, is_worn, not_bound, refusal_of, sends_end, wrong_end, wrong_kind}
use Rattle.sj_lang.specs.MeetTests.{stands_for}
use Rattle.sj_talk.specs.TalkWorld.{TalkWorld}
use Rattle.sj_world_lemmas.proofs.EventLemmas.{same_end}
use Rattle.sj_world_lemmas.proofs.LinkLemmas.{same_is}
use Rattle.sj_seat_lines.specs.Rules.{SeesAlike, Seen, last_rule, rule_of_line, rule_of_step, rule_or}
use Rattle.sj_seat_lines.specs.Steps.{at_end, by_label, step_of}
use Rattle.sj_seat_lines.specs.declared.steps.Step.TheVariants.{Call}
use Rattle.sj_seat_lines.proofs.SendLemmas.{or_none, seat_rule}
use Rattle.sj_seat_lines.proofs.TakeLemmas.{delegate_same}
use Rattle.sj_seat_lines.proofs.FormLemmas.{Held, at, close_by, end_by, full_is, held_at, place_by, select_by, send_by, take_by, turn_by}

module _ (s : Seen) (t : TalkWorld) (alike : SeesAlike s t) where
  -- ---- delegate

  abbrev pub worn_if : Bool → Option ℕ
  worn_if worn = if worn then Some at_limit else None

  abbrev pub delegate_rule : Option Place → Option Place → Bool → Bool → Option ℕ
  delegate_rule q own same full =
      seat_rule ((refusals.NotHeld, is_none q || is_none own) ∷ (refusals.BeginsOtherwise, not (seats.sends_end (at q))) ∷ (refusals.WrongEnd, same || items.is_done (at own))
      ∷ (refusals.WrongKind, not (may_carry (at q) (at own))) ∷ (refusals.AtLimit, full) ∷ [])

  delegate_by : (same worn : Bool) (o r : Option EndId) → Held s t alike o → Held s t alike r → ((c e : EndId) → o ≡ Some c → r ≡ Some e → same ≡ is_same_end c e)
      → first_rule ((not_bound, is_none o || is_none r) ∷ (begins_otherwise, not (sends_end (place_by s t alike o))) ∷ (wrong_end, same || is_done (place_by s t alike r))
      ∷ (wrong_kind, not (stands_for (place_by s t alike r) (carried_next (place_by s t alike o)))) ∷ (at_limit, is_full t || worn) ∷ [])
      ≡ rule_or (rule_of_step s (at_end o (λ c. at_end r (λ e. Call (Delegate c e))))) (worn_if worn)
  delegate_by same worn None r held own one = refl
  delegate_by same worn (Some c) None held own one = refl
  delegate_by same worn (Some c) (Some e) held own one =
      delegate_same (place_by s t alike (Some c)) (place_by s t alike (Some e)) same (is_full t) worn
      ∙ ap (λ q. rule_or (delegate_rule q (Some (place_by s t alike (Some e))) same (is_full t)) (worn_if worn)) (sym (held c refl))
      ∙ ap (λ q. rule_or (delegate_rule (place_held s.ends c) q same (is_full t)) (worn_if worn)) (sym (own e refl))
      ∙ ap (λ b. rule_or (delegate_rule (place_held s.ends c) (place_held s.ends e) b (is_full t)) (worn_if worn)) (one c e refl refl)
      ∙ ap (λ full. rule_or (delegate_rule (place_held s.ends c) (place_held s.ends e) (is_same_end c e) full) (worn_if worn)) (full_is s t alike)

  -- names are one exactly where their ends are
  name_is : (x y : List ℕ) (c e : EndId) → end_named t.ends x ≡ Some c → end_named t.ends y ≡ Some e → bytes_eq x y ≡ is_same_end c e
  name_is x y c e of_x of_y = by (bytes_eq x y) refl (is_same_end c e) refl
    where
      by : (b : Bool) → bytes_eq x y ≡ b → (d : Bool) → is_same_end c e ≡ d → b ≡ d
      by true is true so = refl
      by false is false so = refl
      by true is false so =
          let one : x ≡ y = (bytes_eq-Decides x y).0 is in
          let both : Some c ≡ Some e = sym of_x ∙ ap (end_named t.ends) one ∙ of_y in
          let here : c ≡ e = cc in
          sym (sym so ∙ (ap (is_same_end c) (sym here) ∙ same_end c))
      by false is true so =
          let here : c ≡ e = same_is c e so in
          sym is ∙ alike.once x y c of_x (of_y ∙ ap Some (sym here))

  -- ---- each form

  by_step : (f : FormAt) → rule_of_step s (step_of s.file s.texts t.ends s.ends f) ≡ rule_of_line s f
  by_step f = ap (λ ns. rule_of_step s (step_of s.file s.texts ns s.ends f)) (sym alike.names)

  alone : (f : FormAt) (r : Option ℕ) → r ≡ rule_of_step s (step_of s.file s.texts t.ends s.ends f) → r ≡ rule_or (rule_of_line s f) None
  alone f r is = is ∙ by_step f ∙ sym (or_none (rule_of_line s f))

  before : (f : FormAt) (r last : Option ℕ) → r ≡ rule_or (rule_of_step s (step_of s.file s.texts t.ends s.ends f)) last → r ≡ rule_or (rule_of_line s f) last
  before f r last is = is ∙ ap (λ o. rule_or o last) (by_step f)

  label_is : (l : List ℕ) → label_number t.file l ≡ label_number s.file l
  label_is l = ap (λ ws. option_and_then label_if (first_index l ws)) (sym alike.words)

  pub as_in_a_talk : (f : FormAt) → refusal_of t (Some f) ≡ rule_or (rule_of_line s f) (last_rule t f)
  as_in_a_talk (forms.send x v) = alone (forms.send x v) (refusal_of t (Some (forms.send x v))) (send_by s t alike v (end_named t.ends x) (held_at s t alike x))
  as_in_a_talk (forms.select x l) =
      alone (forms.select x l) (refusal_of t (Some (forms.select x l)))
      (select_by s t alike (label_number t.file l) (end_named t.ends x) (held_at s t alike x)
      ∙ ap (λ k. rule_of_step s (at_end (end_named t.ends x) (λ e. by_label (at (place_held s.ends e)) k e))) (label_is l))
  as_in_a_talk (forms.turn x more) = alone (forms.turn x more) (refusal_of t (Some (forms.turn x more))) (turn_by s t alike more (end_named t.ends x) (held_at s t alike x))
  as_in_a_talk (forms.delegate x y) =
      before (forms.delegate x y) (refusal_of t (Some (forms.delegate x y))) (last_rule t (forms.delegate x y))
      (delegate_by (bytes_eq x y) (is_worn t y) (end_named t.ends x) (end_named t.ends y) (held_at s t alike x) (held_at s t alike y) (name_is x y))
  as_in_a_talk (forms.take x) =
      before (forms.take x) (refusal_of t (Some (forms.take x))) (last_rule t (forms.take x)) (take_by s t alike (is_none (head_under t x)) (end_named t.ends x) (held_at s t alike x))
  as_in_a_talk (forms.take_end x y) =
      before (forms.take_end x y) (refusal_of t (Some (forms.take_end x y))) (last_rule t (forms.take_end x y))
      (end_by s t alike (is_none (head_under t x)) (end_named t.ends y) (end_named t.ends x) (held_at s t alike x))
  as_in_a_talk (forms.close x) = alone (forms.close x) (refusal_of t (Some (forms.close x))) (close_by s t alike (end_named t.ends x) (held_at s t alike x))
