use Rattle.std.proofs.Common.{◌+◌, ◌-◌, ◌/◌, None, arith}
use Rattle.sj_semantics.specs.declared.Opened.{Opened}
use Rattle.sj_plain.proofs.OpenedLemmas.{before_fits}
use Rattle.sj_plain.proofs.SearchLemmas.{high_is_past, low_is_before}
use Rattle.sj_plain.proofs.sessions.before.Goals as goal

-- what is read where nothing is there
abbrev nothing : Opened
nothing = record { sess = 0; from = 0; first = 0; to = 0; second = None }

pub loop-low-init : goal.loop-low-init
loop-low-init c = record {
  within = omega arith;
  above = omega arith;
  below = omega (arith, before_fits c.args.opened.now c.args.party);
}

pub loop-low-preserved-then-from-party : goal.loop-low-preserved-then-from-party
loop-low-preserved-then-from-party c = record {
  within = c.loop-low.invariant.within;
  above =
      omega (
        arith,
        low_is_before c.args.opened.now c.requires.order.1.parties c.args.party (c.loop-low.low + (c.loop-low.high - c.loop-low.low) / 2) nothing c.requires.order.1.ordered (omega (arith, c.loop-low-test.true, c.loop-low.invariant.within)) (omega (arith, c.if-from-party.true, c.from.ensures)),
      );
  below = c.loop-low.invariant.below;
}

pub loop-low-preserved : goal.loop-low-preserved
loop-low-preserved c = record {
  within = omega (arith, c.loop-low-test.true, c.loop-low.invariant.within);
  above = c.loop-low.invariant.above;
  below =
      high_is_past c.args.opened.now c.requires.order.1.parties c.args.party (c.loop-low.low + (c.loop-low.high - c.loop-low.low) / 2) nothing c.requires.order.1.ordered (omega (arith, c.loop-low-test.true, c.loop-low.invariant.within)) (omega (arith, c.if-from-party.false, c.from.ensures));
}
