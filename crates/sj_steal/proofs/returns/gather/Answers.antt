use Rattle.std.proofs.Common.{◌≡◌, ◌++◌, length, ap, length-append, flat_map, arith}
use Rattle.std.proofs.lemmas.List.Sorted.{length_permutation}
use Rattle.sj_steal.specs.Members.{done_by}
use Rattle.sj_steal.proofs.BackLemmas.{flat_less, moves_last}
use Rattle.sj_steal.proofs.returns.gather.Goals as goal

pub pour-requires-after_bounds : goal.pour-requires-after_bounds
pour-requires-after_bounds g c κs within =
    let m = c.in-Some.member in
    let last = flat_less done_by c.loop-member.members.items c.pop.new.self.items m c.in-Some.ensures.items in
    let many : length (flat_map done_by c.loop-member.members.items) ≡ length (flat_map done_by c.pop.new.self.items ++ done_by m) = ap length last in
    let parts = length-append (flat_map done_by c.pop.new.self.items) (done_by m) in
    let room = c.loop-member.invariant.0 in
    omega arith

pub loop-member-preserved : goal.loop-member-preserved
loop-member-preserved g c =
    let i = c.loop-member.invariant in
    let m = c.in-Some.member in
    let into = c.loop-member.into.items in
    let last = flat_less done_by c.loop-member.members.items c.pop.new.self.items m c.in-Some.ensures.items in
    let many : length (flat_map done_by c.loop-member.members.items) ≡ length (flat_map done_by c.pop.new.self.items ++ done_by m) = ap length last in
    let parts = length-append (flat_map done_by c.pop.new.self.items) (done_by m) in
    let moved = length_permutation (into ++ done_by m) c.pour.new.into.items c.pour.ensures.items in
    let both = length-append into (done_by m) in
    let room = i.0 in
    let same = c.pour.ensures.capacity in (
      omega (arith, c.loop-member.into.ok.0, c.pour.new.into.ok.0),
      moves_last _ into c.pour.new.into.items (flat_map done_by c.loop-member.members.items) (flat_map done_by c.pop.new.self.items)
          (done_by m) i.1 last c.pour.ensures.items,
    )
