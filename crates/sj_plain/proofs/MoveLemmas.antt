-- Items put before others.
use Rattle.std.proofs.Common.{◌≡◌, ◌+◌, List, [], ◌∷◌, length, refl, arith}
use Rattle.sj_lang.specs.declared.proto.Item.{Item}
use Rattle.sj_lang.specs.declared.proto.Item.TheVariants.{Send, Recv, Select, Branch, OutLoop, InLoop}
use Rattle.sj_lang.specs.View.{place_of}
use Rattle.sj_lang.proofs.ArmLemmas.{arm_count-choices_of, arm_rest-choices_of}
use Rattle.sj_lang.proofs.PlaceLemmas.{place_of-append}
use Rattle.sj_plain.specs.Moves.{place_length}

place_length-followed : (i : Item) (is : List Item) → place_length (place_of (i ∷ is)) ≡ 1 + place_length (place_of is)
place_length-followed (Send k) is = refl
place_length-followed (Recv k) is = refl
place_length-followed (Select arms) is = refl
place_length-followed (Branch arms) is = refl
place_length-followed (OutLoop body) is = refl
place_length-followed (InLoop body) is = refl

pub place_length-place_of : (is : List Item) → place_length (place_of is) ≡ length is
place_length-place_of [] = refl
place_length-place_of (i ∷ is) = omega (arith, place_length-followed i is, place_length-place_of is)

pub ruleset moves = (arm_count-choices_of, arm_rest-choices_of, place_length-place_of, place_of-append)
