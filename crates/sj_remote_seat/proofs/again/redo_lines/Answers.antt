use Rattle.std.proofs.Common.{List, ap, refl, sym, subst}
use Rattle.sj_rules.specs.Log.{EntryAt}
use Rattle.sj_work.specs.Laned.{entries_of}
use Rattle.sj_remote_seat.specs.Steps.{stays}
use Rattle.sj_remote_seat.specs.Turns.{Sat, has_of}
use Rattle.sj_remote_seat.proofs.CaughtLemmas.{sat_more}
use Rattle.sj_remote_seat.proofs.SatLemmas.{sat_still, still_itself}
use Rattle.sj_remote_seat.proofs.StepsLemmas.{steps_then}
use Rattle.sj_remote_seat.proofs.again.redo_lines.Goals as goal

pub loop-line-init : goal.loop-line-init
loop-line-init g c =
    let a = c.args.seat in
    record { sat = subst (λ (l : List EntryAt). Sat a a l) (ap entries_of (sym c.new-made.ensures.items)) (sat_still a a (has_of a) (has_of a) (still_itself a) (λ q other. refl)); none = c.requires; steps = stays }

pub loop-line-preserved : goal.loop-line-preserved
loop-line-preserved g c = record {
  sat = sat_more c.args.seat c.loop-line.going c.in_ok-next.next c.loop-line.made.items _ c.push.new.self.items c.in_ok-push.ensures.items c.loop-line.invariant.sat c.in_ok-next.ensures.sat;
  none = c.in_ok-next.ensures.none;
  steps = steps_then g.C.Code.step c.loop-line.invariant.steps c.in_ok-next.ensures.steps;
}
