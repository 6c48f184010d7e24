use Rattle.std.proofs.Common.{◌≡◌, Some, arith, ap, ◌∙◌}
use Rattle.sj_semantics.specs.declared.Want.TheVariants.{Take}
use Rattle.sj_semantics.specs.Fitting.{fits_todo}
use Rattle.sj_semantics.specs.Wants.{want_of}
use Rattle.sj_machine.specs.Sound.{program_at}
use Rattle.sj_machine.proofs.FrameLemmas.{frame_there}
use Rattle.sj_semantics.proofs.FittingLemmas.{fits_by_statement}
use Rattle.sj_machine.proofs.FitLemmas.{take_wanted}
use Rattle.sj_machine.proofs.StepLemmas.{step_makes}
use Rattle.sj_machine.proofs.machine.Machine.fits.Goals as goal

pub index-requires : goal.index-requires
index-requires c = let h = frame_there c.self.inside.nodes.items c.self.inside.stack.0 c.in-Some.ensures.some.0 c.in-Some.frame c.in-Some.ensures.some.1 c.self.invariant.fits in omega arith

abbrev wanted : (c : goal.After-fits_at) → want_of (program_at c.args.self.now) ≡ Some (Take c.in-Take.end c.in-Take.awaits)
wanted c = take_wanted (want_of (program_at c.args.self.now)) c.in-Take.end c.in-Take.awaits c.in-Take.ensures

pub returns-in-Some-clause-fits : goal.returns-in-Some-clause-fits
returns-in-Some-clause-fits c =
    step_makes c.self.inside.nodes.items c.self.inside.stack.0 c.in-Some.ensures.some.0 c.in-Some.frame c.index.result.now c.in-Some.ensures.some.1 c.self.invariant.back c.self.invariant.fits c.index.ensures
    c.fits_at.result (λ todo. fits_todo todo c.args.msg.now) (λ rest. c.fits_at.ensures _ rest)
    ∙ ap (λ m. fits_todo (program_at m).todo c.args.msg.now) c.self.view_is
    ∙ fits_by_statement (program_at c.args.self.now) c.args.msg.now c.in-Take.end c.in-Take.awaits (wanted c)

pub returns-in-Some-clause-takes : goal.returns-in-Some-clause-takes
returns-in-Some-clause-takes c = λ takes. (c.in-Take.end, (c.in-Take.awaits, wanted c))
