-- Labels of a place, item by item.
use Rattle.std.proofs.Common.{◌≡◌, Bool, true, false, ◌&&◌, refl, ap}
use Rattle.sj_lang.specs.declared.proto.Item.{Item}
use Rattle.sj_lang.specs.declared.proto.Item.TheVariants.{Send, Recv, Select, Branch, OutLoop, InLoop}
use Rattle.sj_lang.specs.Place.{Place, done}
use Rattle.sj_lang.specs.View.{followed}
use Rattle.sj_lang.proofs.WithinLemmas as sizes
use Rattle.sj_acceptance.specs.LabelTests.{names_once}

and_true : (b : Bool) → b ≡ (b && true)
and_true true = refl
and_true false = refl

pub names_once-followed : (i : Item) (rest : Place) → names_once (followed i rest) ≡ (names_once (followed i done) && names_once rest)
names_once-followed (Send k) rest = ap (λ b. b && names_once rest) (and_true _)
names_once-followed (Recv k) rest = ap (λ b. b && names_once rest) (and_true _)
names_once-followed (Select a) rest = ap (λ b. b && names_once rest) (and_true _)
names_once-followed (Branch a) rest = ap (λ b. b && names_once rest) (and_true _)
names_once-followed (OutLoop b) rest = ap (λ b. b && names_once rest) (and_true _)
names_once-followed (InLoop b) rest = ap (λ b. b && names_once rest) (and_true _)

pub ruleset once = (names_once-followed, sizes.item_within, sizes.arm_within)
