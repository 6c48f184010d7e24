-- What the guard's answer says of a session that may be opened.
use Rattle.std.proofs.Common.{◌≡◌, ℕ, Bool, true, false, not, nat_le, Option, Some, None, refl, ap, sym, if◌then◌else◌}
use Rattle.std.specs.Prelude.{is_some}
use Rattle.sj_lang.specs.Place.{Place}
use Rattle.sj_rules.specs.Limits.{limit_of_steps}
use Rattle.sj_seat.specs.Rules.{first_refusal, open_tests}
use Rattle.sj_seat.specs.declared.refusal.SeatRefusal.{SeatRefusal}
use Rattle.sj_seat.specs.declared.refusal.SeatRefusal.TheVariants as refusals
use Rattle.sj_seat_lines.specs.Opens.{is_not_opened}

-- no rule applies
pub opened_there : (calls : ℕ) (o : Option Place) → first_refusal (open_tests calls o) ≡ None → true ≡ is_some o
opened_there calls None e = cc
opened_there calls (Some p) e = refl

at_limit_is : (full : Bool) (r : SeatRefusal) → (if full then Some refusals.AtLimit else None) ≡ Some r → not (is_not_opened r) ≡ true
at_limit_is true r e = let same : refusals.AtLimit ≡ r = cc in ap (λ (s : SeatRefusal). not (is_not_opened s)) (sym same)
at_limit_is false r e = absurd (cc)

-- it is the first rule that applies
pub opened_not : (calls : ℕ) (o : Option Place) (r : SeatRefusal) → first_refusal (open_tests calls o) ≡ Some r → not (is_not_opened r) ≡ is_some o
opened_not calls None r e = let same : refusals.NotOpened ≡ r = cc in ap (λ (s : SeatRefusal). not (is_not_opened s)) (sym same)
opened_not calls (Some p) r e = at_limit_is (nat_le limit_of_steps calls) r e

pub ruleset opening = (opened_there, opened_not)
