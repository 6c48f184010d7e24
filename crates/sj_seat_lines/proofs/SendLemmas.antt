-- What a line says is refused by a talk's rules: each form's tests come to the same.
use Rattle.std.proofs.Common.{if◌then◌else◌, ◌≡◌, ℕ, Bool, true, false, not, ◌&&◌, nat_lt, List, [], ◌∷◌, Option, Some, None, is_some, option_and_then, refl, ap, sym, ◌∙◌}
use Rattle.sj_base.specs.declared.Msg.TheVariants as msgs
use Rattle.sj_lang.specs.After.{at_label}
use Rattle.sj_lang.specs.Place.{Place, boolean, choice, done, int, message, repeat, session, text}
use Rattle.sj_lang.specs.declared.proto.Way.TheVariants.{Into, Out}
use Rattle.sj_seat.specs.Fronts as seats
use Rattle.sj_seat.specs.Rules.{Tests, first_refusal, names_text}
use Rattle.sj_seat.specs.declared.refusal.SeatRefusal.TheVariants as refusals
use Rattle.sj_seat_laws.specs.Guards.{may_send}
use Rattle.sj_talk.specs.Forms as forms
use Rattle.sj_talk.specs.Forms.{ValueAt}
use Rattle.sj_talk.specs.Names.{number_in}
use Rattle.sj_talk.specs.Rules.{at_limit, begins_otherwise, first_rule, is_next, offers, selects, sends_value, turns, wrong_kind}
use Rattle.sj_seat_lines.specs.Rules.{rule_of, rule_or}
use Rattle.sj_seat_lines.specs.Steps.{message_at}

abbrev pub seat_rule : Tests → Option ℕ
seat_rule ts = option_and_then rule_of (first_refusal ts)

-- where nothing but the limit is left
send_if : (full : Bool) → first_rule ((at_limit, full) ∷ []) ≡ seat_rule ((refusals.AtLimit, full) ∷ [])
send_if true = refl
send_if false = refl

pub or_none : (r : Option ℕ) → rule_or r None ≡ r
or_none None = refl
or_none (Some n) = refl

-- ---- send

module _ (texts : List (List ℕ)) (known : ℕ) (all : (x : List ℕ) → nat_lt (number_in texts x) known ≡ true) where
  pub send_same : (p : Place) (v : ValueAt) (full : Bool) → first_rule ((begins_otherwise, not (sends_value p)) ∷ (wrong_kind, not (is_next p v)) ∷ (at_limit, full) ∷ [])
      ≡ seat_rule ((refusals.BeginsOtherwise, not (seats.begins_with p (message_at texts p v))) ∷ (refusals.WrongKind, not (may_send p (message_at texts p v) && names_text known (message_at texts p v))) ∷ (refusals.AtLimit, full) ∷ [])
  send_same done (forms.number n) full = refl
  send_same done (forms.truth b) full = refl
  send_same done (forms.text x) full = refl
  send_same (message Out int next) (forms.number n) full = send_if full
  send_same (message Out int next) (forms.truth b) full = refl
  send_same (message Out int next) (forms.text x) full = refl
  send_same (message Out boolean next) (forms.number n) full = refl
  send_same (message Out boolean next) (forms.truth b) full = send_if full
  send_same (message Out boolean next) (forms.text x) full = refl
  send_same (message Out text next) (forms.number n) full = refl
  send_same (message Out text next) (forms.truth b) full = refl
  send_same (message Out text next) (forms.text x) full = send_if full ∙ ap (λ (b : Bool). seat_rule ((refusals.BeginsOtherwise, false) ∷ (refusals.WrongKind, not b) ∷ (refusals.AtLimit, full) ∷ [])) (sym (all x))
  send_same (message Out (session k) next) (forms.number n) full = refl
  send_same (message Out (session k) next) (forms.truth b) full = refl
  send_same (message Out (session k) next) (forms.text x) full = refl
  send_same (message Into k next) (forms.number n) full = refl
  send_same (message Into k next) (forms.truth b) full = refl
  send_same (message Into k next) (forms.text x) full = refl
  send_same (choice Out arms next) (forms.number n) full = refl
  send_same (choice Out arms next) (forms.truth b) full = refl
  send_same (choice Out arms next) (forms.text x) full = refl
  send_same (choice Into arms next) (forms.number n) full = refl
  send_same (choice Into arms next) (forms.truth b) full = refl
  send_same (choice Into arms next) (forms.text x) full = refl
  send_same (repeat Out body next) (forms.number n) full = refl
  send_same (repeat Out body next) (forms.truth b) full = refl
  send_same (repeat Out body next) (forms.text x) full = refl
  send_same (repeat Into body next) (forms.number n) full = refl
  send_same (repeat Into body next) (forms.truth b) full = refl
  send_same (repeat Into body next) (forms.text x) full = refl

-- ---- more and stop

pub turn_same : (known : ℕ) (p : Place) (more full : Bool) → first_rule ((begins_otherwise, not (turns p)) ∷ (at_limit, full) ∷ [])
    ≡ seat_rule ((refusals.BeginsOtherwise, not (seats.begins_with p (msgs.More more))) ∷ (refusals.WrongKind, not (may_send p (msgs.More more) && names_text known (msgs.More more))) ∷ (refusals.AtLimit, full) ∷ [])
turn_same known done more full = refl
turn_same known (message Out k next) more full = refl
turn_same known (message Into k next) more full = refl
turn_same known (choice Out arms next) more full = refl
turn_same known (choice Into arms next) more full = refl
turn_same known (repeat Out body next) more full = send_if full
turn_same known (repeat Into body next) more full = refl

-- ---- select

label_if : (o : Bool) (full : Bool) → first_rule ((wrong_kind, not o) ∷ (at_limit, full) ∷ []) ≡ seat_rule ((refusals.WrongKind, not (o && true)) ∷ (refusals.AtLimit, full) ∷ [])
label_if true full = send_if full
label_if false full = refl

pub label_same : (known : ℕ) (p : Place) (l : ℕ) (full : Bool) → first_rule ((begins_otherwise, not (selects p)) ∷ (wrong_kind, not (offers p (Some l))) ∷ (at_limit, full) ∷ [])
    ≡ seat_rule ((refusals.BeginsOtherwise, not (seats.begins_with p (msgs.Label l))) ∷ (refusals.WrongKind, not (may_send p (msgs.Label l) && names_text known (msgs.Label l))) ∷ (refusals.AtLimit, full) ∷ [])
label_same known done l full = refl
label_same known (message Out k next) l full = refl
label_same known (message Into k next) l full = refl
label_same known (choice Out arms next) l full = label_if (is_some (at_label l arms)) full
label_same known (choice Into arms next) l full = refl
label_same known (repeat Out body next) l full = refl
label_same known (repeat Into body next) l full = refl

pub no_label_same : (p : Place) (full : Bool) → first_rule ((begins_otherwise, not (selects p)) ∷ (wrong_kind, not (offers p None)) ∷ (at_limit, full) ∷ []) ≡ Some (if selects p then wrong_kind else begins_otherwise)
no_label_same done full = refl
no_label_same (message w k next) full = refl
no_label_same (choice Out arms next) full = refl
no_label_same (choice Into arms next) full = refl
no_label_same (repeat w body next) full = refl
