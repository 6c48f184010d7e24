-- Items of a place, one by one.
use Rattle.std.proofs.Common.{◌≡◌, ◌+◌, arith}
use Rattle.sj_lang.specs.declared.proto.Item.{Item}
use Rattle.sj_lang.specs.declared.proto.Item.TheVariants.{Send, Recv, Select, Branch, OutLoop, InLoop}
use Rattle.sj_lang.specs.Place.{Place, done}
use Rattle.sj_lang.specs.View.{followed}
use Rattle.sj_lang.specs.ItemCount.{item_count}
use Rattle.sj_lang.proofs.WithinLemmas as sizes

pub item_count-followed : (i : Item) (rest : Place) → item_count (followed i rest) ≡ item_count (followed i done) + item_count rest
item_count-followed (Send k) rest = omega arith
item_count-followed (Recv k) rest = omega arith
item_count-followed (Select a) rest = omega arith
item_count-followed (Branch a) rest = omega arith
item_count-followed (OutLoop b) rest = omega arith
item_count-followed (InLoop b) rest = omega arith

pub ruleset counts = (item_count-followed, sizes.item_within, sizes.arm_within)
