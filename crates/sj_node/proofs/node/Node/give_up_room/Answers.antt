use Rattle.std.proofs.Common.{map, refl, ap}
use Rattle.sj_rules.specs.Mapped.{frame_with}
use Rattle.sj_table.specs.Spots.{place_in}
use Rattle.sj_node.proofs.node.Node.give_up_room.Goals as goal

pub returns-clause-stays : goal.returns-clause-stays
returns-clause-stays c = record {
  node = refl;
  posts = λ q. ap (map (frame_with (place_in c.args.self.now.table))) (c.free_room.ensures.same q);
  log = refl;
  table = refl;
  party = refl;
  parties = refl;
  connects = refl;
}
