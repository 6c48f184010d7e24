use Rattle.std.proofs.Common.{subst, sym}
use Rattle.sj_acceptance.specs.Accepted.{IsAccepted}
use Rattle.sj_forest.specs.Shape.{IsShapeOf}
use Rattle.sj_plain.specs.Plain.{acts_of, kept_file, world_at}
use Rattle.sj_forest.proofs.EndingLemmas.{isnt_blocked}
use Rattle.sj_forest.proofs.ends.finish_forest.Goals as goal

pub unreachable-requires : goal.unreachable-requires
unreachable-requires c =
    let plain = c.finish.new.self in
    isnt_blocked c.args.shape.now (kept_file plain) (acts_of plain) (world_at plain)
    (subst IsAccepted (sym c.in_default.ensures.kept) c.requires.accepted)
    (subst (IsShapeOf c.args.shape.now) (sym c.in_default.ensures.kept) c.requires.shape)
    c.in_default.ensures.run c.in_default.ensures.settled (sym c.in-Blocked.ensures)
