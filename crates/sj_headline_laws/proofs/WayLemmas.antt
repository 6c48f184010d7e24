-- No place sends and takes at once.
use Rattle.std.proofs.Common.{◌≡◌, Bool, true, false, cond, Option, Some, None, refl}
use Rattle.sj_base.specs.declared.Msg.{Msg}
use Rattle.sj_lang.specs.declared.proto.Way.{Way}
use Rattle.sj_lang.specs.declared.proto.Way.TheVariants.{Out, Into}
use Rattle.sj_lang.specs.Place.{Place, done, message, choice, repeat}
use Rattle.sj_lang.specs.After.{is_same_way, after_message, goes, after_place}

two_ways : (w : Way) → is_same_way w Out ≡ true → is_same_way w Into ≡ true → ⊥
two_ways Out o i = cc
two_ways Into o i = cc

goes_two_ways : (p : Place) → goes p Out ≡ true → goes p Into ≡ true → ⊥
goes_two_ways done o i = cc
goes_two_ways (message w k rest) o i = two_ways w o i
goes_two_ways (choice w arms rest) o i = two_ways w o i
goes_two_ways (repeat w body rest) o i = two_ways w o i

goes_if : (b : Bool) (o : Option Place) (q : Place) → cond b o None ≡ Some q → b ≡ true
goes_if true o q h = refl
goes_if false o q h = cc

pub not_both_ways : (p q r : Place) (m n : Msg) → after_place p Out m ≡ Some q → after_place p Into n ≡ Some r → ⊥
not_both_ways p q r m n h k = goes_two_ways p (goes_if (goes p Out) (after_message p m) q h) (goes_if (goes p Into) (after_message p n) r k)
