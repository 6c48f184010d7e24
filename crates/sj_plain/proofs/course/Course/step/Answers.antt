use Rattle.std.proofs.Common.{◌∙◌, ◌∷◌, ◌++◌, [], ap, arith, refl}
use Rattle.std.proofs.lemmas.List.{length-map}
use Rattle.std.proofs.lemmas.Result.{err_from_is_err_and}
use Rattle.sj_machine.specs.Sound.{program_at}
use Rattle.sj_plain.proofs.CourseLemmas.{by_act, stays, world_acts, world_same}
use Rattle.sj_plain.proofs.course.Course.step.Goals as goal

pub returns-in_err-step-clause-err : goal.returns-in_err-step-clause-err
returns-in_err-step-clause-err c =
    let p = err_from_is_err_and c.from_residual-in_err-step.result c.from_residual-in_err-step.ensures.1 in
    rw (p.1)
    (world_same c.args.self.now.kept.protocols.items c.args.self.now.table c.args.self.now.machines.items c.step.new.sessions.items c.args.self.now.sessions.items c.step.new.opened.items c.args.self.now.opened.items c.args.party c.index_mut-machine.result.now c.step.new.machine
    (omega (arith, c.requires.there, length-map c.args.self.now.machines.items program_at)) c.index_mut-machine.ensures.value c.in_err-step.ensures.err c.in_err-step.ensures.sessions c.in_err-step.ensures.opened)

pub returns-in_err-step-clause-on : goal.returns-in_err-step-clause-on
returns-in_err-step-clause-on c =
    stays _ _
    (world_same c.args.self.now.kept.protocols.items c.args.self.now.table c.args.self.now.machines.items c.step.new.sessions.items c.args.self.now.sessions.items c.step.new.opened.items c.args.self.now.opened.items c.args.party c.index_mut-machine.result.now c.step.new.machine
    (omega (arith, c.requires.there, length-map c.args.self.now.machines.items program_at)) c.index_mut-machine.ensures.value c.in_err-step.ensures.err c.in_err-step.ensures.sessions c.in_err-step.ensures.opened)
    c.in_ok-reserve.ensures.items refl

pub returns-clause-ok : goal.returns-clause-ok
returns-clause-ok c =
    world_acts c.args.self.now.kept.protocols.items c.args.self.now.table c.args.self.now.starts c.args.self.now.machines.items c.step.new.sessions.items c.args.self.now.sessions.items c.step.new.opened.items c.args.self.now.opened.items c.args.party c.index_mut-machine.result.now c.step.new.machine
    (omega (arith, c.requires.there, length-map c.args.self.now.machines.items program_at)) c.index_mut-machine.ensures.value c.in_ok-step.ensures.ok

pub returns-clause-on : goal.returns-clause-on
returns-clause-on c =
    by_act _ _ c.args.party
    (world_acts c.args.self.now.kept.protocols.items c.args.self.now.table c.args.self.now.starts c.args.self.now.machines.items c.step.new.sessions.items c.args.self.now.sessions.items c.step.new.opened.items c.args.self.now.opened.items c.args.party c.index_mut-machine.result.now c.step.new.machine
    (omega (arith, c.requires.there, length-map c.args.self.now.machines.items program_at)) c.index_mut-machine.ensures.value c.in_ok-step.ensures.ok)
    (c.push_reserved.ensures.items ∙ ap (λ t. t ++ c.args.party ∷ []) c.in_ok-reserve.ensures.items) refl
