use Rattle.std.proofs.Common.{arith}
use Rattle.sj_plain.specs.Opened.{world_with}
use Rattle.sj_plain.specs.Stepping.{sessions_at}
use Rattle.sj_plain.proofs.SteppingLemmas.{stands_at_limit, stands_so}
use Rattle.sj_plain.proofs.progress.state_wanting.Goals as goal

pub returns-then-steps-lt-MAX_STEPS : goal.returns-then-steps-lt-MAX_STEPS
returns-then-steps-lt-MAX_STEPS c = λ t ps gs.
    stands_so (world_with ps gs (sessions_at t c.args.sessions.now) c.args.opened.now) c.args.party c.args.steps c.args.want.now c.state_by.result c.in_default.not-Ended (omega arith) (c.state_by.ensures t ps gs)

pub returns-else-steps-lt-MAX_STEPS : goal.returns-else-steps-lt-MAX_STEPS
returns-else-steps-lt-MAX_STEPS c = λ t ps gs.
    stands_at_limit (world_with ps gs (sessions_at t c.args.sessions.now) c.args.opened.now) c.args.party c.args.steps c.args.want.now c.in_default.not-Ended (omega arith)
