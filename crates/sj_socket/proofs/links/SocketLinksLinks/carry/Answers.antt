use Rattle.std.proofs.Common.{None, length, sym}
use Rattle.sj_socket.proofs.KeptLemmas.{all_carried, none_fell, same_lists, still_joined, still_square}
use Rattle.sj_lane.proofs.EachLemmas.{each2_length}
use Rattle.sj_socket.specs.Kept.{LanesKept}
use Rattle.sj_socket.proofs.OwnLemmas.{all_moved, on_ok}
use Rattle.sj_socket.proofs.links.SocketLinksLinks.carry.Goals as goal

pub returns-clause-square : goal.returns-clause-square
returns-clause-square g c = still_square c.args.lanes.now c.carry_all.new.lanes c.carry_all.ensures.kept c.requires.square

pub returns-clause-lists : goal.returns-clause-lists
returns-clause-lists g c = same_lists c.args.lanes.now c.carry_all.new.lanes c.carry_all.ensures.kept None

pub returns-clause-faults : goal.returns-clause-faults
returns-clause-faults g c = none_fell c.args.lanes.now c.carry_all.new.lanes c.carry_all.ensures.kept

pub returns-clause-joined : goal.returns-clause-joined
returns-clause-joined g c = still_joined c.args.lanes.now c.carry_all.new.lanes c.carry_all.ensures.kept c.requires.joined

pub returns-clause-carried : goal.returns-clause-carried
returns-clause-carried g c = all_carried c.args.lanes.now c.carry_all.new.lanes c.carry_all.ensures.kept

pub returns-clause-own : goal.returns-clause-own
returns-clause-own g c = λ p lt. c.carry_all.ensures.own p

pub returns-clause-moved : goal.returns-clause-moved
returns-clause-moved g c =
    let L = c.args.lanes.now in let M = c.carry_all.new.lanes in let kept = c.carry_all.ensures.kept in
    on_ok c.carry_all.result
    (λ moved. all_moved M (still_square L M kept c.requires.square) (still_joined L M kept c.requires.joined) moved (length L) (sym (each2_length LanesKept L M kept)))
    c.carry_all.ensures.moved
