-- The same of takes, closes and delegations.
use Rattle.std.proofs.Common.{if◌then◌else◌, ◌≡◌, Bool, true, false, not, ◌&&◌, ◌||◌, [], ◌∷◌, Some, None, refl, ap, sym, ◌∙◌}
use Rattle.sj_lang.specs.ItemCount as items
use Rattle.sj_lang.specs.MeetTests.{stands_for}
use Rattle.sj_lang.specs.Place.{Place, boolean, choice, done, int, message, repeat, session, text}
use Rattle.sj_lang.specs.declared.proto.Way.TheVariants.{Into, Out}
use Rattle.sj_seat.specs.Fronts as seats
use Rattle.sj_seat.specs.declared.refusal.SeatRefusal.TheVariants as refusals
use Rattle.sj_seat_laws.specs.Guards.{may_carry}
use Rattle.sj_talk.specs.Rules.{at_limit, begins_otherwise, carried_next, first_rule, is_done, nothing_there, sends_end, takes_end, takes_no_end, wrong_end, wrong_kind}
use Rattle.sj_seat_lines.specs.Rules.{rule_or}
use Rattle.sj_seat_lines.proofs.SendLemmas.{seat_rule}

-- ---- take

-- the limit comes before a message that isn't there
take_if : (full none : Bool) → first_rule ((at_limit, full) ∷ (nothing_there, none) ∷ []) ≡ rule_or (seat_rule ((refusals.AtLimit, full) ∷ [])) (if none then Some nothing_there else None)
take_if true none = refl
take_if false true = refl
take_if false false = refl

pub take_same : (p : Place) (full none : Bool) → first_rule ((begins_otherwise, not (takes_no_end p)) ∷ (at_limit, full) ∷ (nothing_there, none) ∷ [])
    ≡ rule_or (seat_rule ((refusals.BeginsOtherwise, not (seats.takes_no_end p)) ∷ (refusals.AtLimit, full) ∷ [])) (if none then Some nothing_there else None)
take_same done full none = refl
take_same (message Out k next) full none = refl
take_same (message Into int next) full none = take_if full none
take_same (message Into boolean next) full none = take_if full none
take_same (message Into text next) full none = take_if full none
take_same (message Into (session k) next) full none = refl
take_same (choice Out arms next) full none = refl
take_same (choice Into arms next) full none = take_if full none
take_same (repeat Out body next) full none = refl
take_same (repeat Into body next) full none = take_if full none

-- of an end whose name isn't in use
pub take_end_same : (p : Place) (full none : Bool) → first_rule ((begins_otherwise, not (takes_end p)) ∷ (wrong_end, false) ∷ (at_limit, full) ∷ (nothing_there, none) ∷ [])
    ≡ rule_or (seat_rule ((refusals.BeginsOtherwise, not (seats.takes_end p)) ∷ (refusals.AtLimit, full) ∷ [])) (if none then Some nothing_there else None)
take_end_same done full none = refl
take_end_same (message Out k next) full none = refl
take_end_same (message Into int next) full none = refl
take_end_same (message Into boolean next) full none = refl
take_end_same (message Into text next) full none = refl
take_end_same (message Into (session k) next) full none = take_if full none
take_end_same (choice w arms next) full none = refl
take_end_same (repeat w body next) full none = refl

-- of an end whose name is in use
pub used_same : (p : Place) (full none : Bool) → (takes_end p ≡ true) → first_rule ((begins_otherwise, not (takes_end p)) ∷ (wrong_end, true) ∷ (at_limit, full) ∷ (nothing_there, none) ∷ []) ≡ Some wrong_end
used_same p full none is = ap (λ (b : Bool). first_rule ((begins_otherwise, not b) ∷ (wrong_end, true) ∷ (at_limit, full) ∷ (nothing_there, none) ∷ [])) is

pub not_used_same : (p : Place) (full none : Bool) → (takes_end p ≡ false) → first_rule ((begins_otherwise, not (takes_end p)) ∷ (wrong_end, true) ∷ (at_limit, full) ∷ (nothing_there, none) ∷ [])
    ≡ rule_or (seat_rule ((refusals.BeginsOtherwise, not (takes_end p)) ∷ (refusals.AtLimit, full) ∷ [])) (if none then Some nothing_there else None)
not_used_same p full none is =
    ap (λ (b : Bool). first_rule ((begins_otherwise, not b) ∷ (wrong_end, true) ∷ (at_limit, full) ∷ (nothing_there, none) ∷ [])) is
    ∙ sym (ap (λ (b : Bool). rule_or (seat_rule ((refusals.BeginsOtherwise, not b) ∷ (refusals.AtLimit, full) ∷ [])) (if none then Some nothing_there else None)) is)

pub takes_end_alike : (p : Place) → takes_end p ≡ seats.takes_end p
takes_end_alike done = refl
takes_end_alike (message Out k next) = refl
takes_end_alike (message Into int next) = refl
takes_end_alike (message Into boolean next) = refl
takes_end_alike (message Into text next) = refl
takes_end_alike (message Into (session k) next) = refl
takes_end_alike (choice w arms next) = refl
takes_end_alike (repeat w body next) = refl

-- ---- close

close_if : (full : Bool) → first_rule ((at_limit, full) ∷ []) ≡ seat_rule ((refusals.AtLimit, full) ∷ [])
close_if true = refl
close_if false = refl

pub close_same : (p : Place) (full : Bool) → first_rule ((begins_otherwise, not (is_done p)) ∷ (at_limit, full) ∷ []) ≡ seat_rule ((refusals.BeginsOtherwise, not (items.is_done p)) ∷ (refusals.AtLimit, full) ∷ [])
close_same done full = close_if full
close_same (message w k next) full = refl
close_same (choice w arms next) full = refl
close_same (repeat w body next) full = refl

-- ---- delegate

worn_if : (full worn : Bool) → first_rule ((at_limit, full || worn) ∷ []) ≡ rule_or (seat_rule ((refusals.AtLimit, full) ∷ [])) (if worn then Some at_limit else None)
worn_if true worn = refl
worn_if false true = refl
worn_if false false = refl

-- the sent end's place is empty, or not
own_same : (same empty fits full worn : Bool) → first_rule ((wrong_end, same || empty) ∷ (wrong_kind, not fits) ∷ (at_limit, full || worn) ∷ [])
    ≡ rule_or (seat_rule ((refusals.WrongEnd, same || empty) ∷ (refusals.WrongKind, not (not empty && fits)) ∷ (refusals.AtLimit, full) ∷ [])) (if worn then Some at_limit else None)
own_same true empty fits full worn = refl
own_same false true fits full worn = refl
own_same false false true full worn = worn_if full worn
own_same false false false full worn = refl

done_alike : (p : Place) → is_done p ≡ items.is_done p
done_alike done = refl
done_alike (message w k next) = refl
done_alike (choice w arms next) = refl
done_alike (repeat w body next) = refl

pub delegate_same : (p own : Place) (same full worn : Bool)
    → first_rule ((begins_otherwise, not (sends_end p)) ∷ (wrong_end, same || is_done own) ∷ (wrong_kind, not (stands_for own (carried_next p))) ∷ (at_limit, full || worn) ∷ [])
    ≡ rule_or (seat_rule ((refusals.BeginsOtherwise, not (seats.sends_end p)) ∷ (refusals.WrongEnd, same || items.is_done own) ∷ (refusals.WrongKind, not (may_carry p own)) ∷ (refusals.AtLimit, full) ∷ []))
    (if worn then Some at_limit else None)
delegate_same done own same full worn = refl
delegate_same (message Out int next) own same full worn = refl
delegate_same (message Out boolean next) own same full worn = refl
delegate_same (message Out text next) own same full worn = refl
delegate_same (message Out (session k) next) own same full worn =
    ap (λ (b : Bool). first_rule ((wrong_end, same || b) ∷ (wrong_kind, not (stands_for own k)) ∷ (at_limit, full || worn) ∷ [])) (done_alike own)
    ∙ own_same same (items.is_done own) (stands_for own k) full worn
delegate_same (message Into k next) own same full worn = refl
delegate_same (choice w arms next) own same full worn = refl
delegate_same (repeat w body next) own same full worn = refl
