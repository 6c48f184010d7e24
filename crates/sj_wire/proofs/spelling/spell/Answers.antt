use Rattle.std.proofs.Common.{◌≡◌, ◌++◌, arith, length, ap}
use Rattle.sj_end.specs.Views.{frame_at}
use Rattle.sj_wire.specs.Spelling.{number, inside}
use Rattle.sj_wire.proofs.SealLemmas.{sizes, sealed, two}
use Rattle.sj_wire.proofs.spelling.spell.Goals as goal

pub put_length-requires : goal.put_length-requires
put_length-requires c =
    let f = frame_at c.args.frame.now in
    let is : c.put_inside.new.out.items ≡ number 4 0 ++ inside f = two _ _ c.new-out.ensures.items c.in_ok-put_u32.ensures c.in_ok-put_inside.ensures in
    let s = sizes f c.put_inside.new.out.items c.requires is in
    let same = ap length c.deref_mut.ensures.value in
    record { least = omega (arith, s.0, same); most = omega (arith, s.1, same) }

pub returns : goal.returns
returns c =
    let f = frame_at c.args.frame.now in
    let is : c.put_inside.new.out.items ≡ number 4 0 ++ inside f = two _ _ c.new-out.ensures.items c.in_ok-put_u32.ensures c.in_ok-put_inside.ensures in
    sealed f c.put_inside.new.out.items c.deref_mut.result.now c.put_length.new.bytes c.put_inside.new.out.len is c.deref_mut.ensures.value c.deref_mut.ensures.len c.put_length.ensures
