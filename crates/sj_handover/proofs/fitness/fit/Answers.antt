use Rattle.std.proofs.Common.{◌++◌, ◌∷◌, [], arith, length-append}
use Rattle.sj_handover.proofs.FitLemmas.{false_weaker, true_both, true_weaker}
use Rattle.sj_handover.proofs.fitness.fit.Goals as goal

pub returns-in-Carry-clause-ok : goal.returns-in-Carry-clause-ok
returns-in-Carry-clause-ok c =
    rw (c.in-Carry.is) (true_both c.fit_carry.result
    (λ row count p ms long. record { more = ms ++ c.in-Carry.msg ∷ []; sent = []; row = row p c.in-Carry.to c.in-Carry.msg ms long; long = omega (arith, count, long, length-append ms (c.in-Carry.msg ∷ [])) })
    c.fit_carry.ensures.ok c.fit_carry.ensures.count)

pub returns-in-Carry-clause-unfit : goal.returns-in-Carry-clause-unfit
returns-in-Carry-clause-unfit c = rw (c.in-Carry.is) (false_weaker c.fit_carry.result (λ none p ms long. none p c.in-Carry.to c.in-Carry.msg ms long) c.fit_carry.ensures.unfit)

pub returns-in-Fin-clause-ok : goal.returns-in-Fin-clause-ok
returns-in-Fin-clause-ok c = rw (c.in-Fin.is) (true_weaker c.fit_fin.result (λ fits p ms long. fits p c.in-Fin.to ms long) c.fit_fin.ensures.ok)

pub returns-in-Fin-clause-unfit : goal.returns-in-Fin-clause-unfit
returns-in-Fin-clause-unfit c = rw (c.in-Fin.is) (false_weaker c.fit_fin.result (λ none p ms long. none p c.in-Fin.to ms long) c.fit_fin.ensures.unfit)

pub returns-in-Signal-clause-ok : goal.returns-in-Signal-clause-ok
returns-in-Signal-clause-ok c =
    rw (c.in-Signal.is) (true_weaker c.fit_signal.result (λ row p ms long. record { more = ms; sent = _; row = row p c.in-Signal.to ms; long = long }) c.fit_signal.ensures.ok)

pub returns-in-Signal-clause-unfit : goal.returns-in-Signal-clause-unfit
returns-in-Signal-clause-unfit c = rw (c.in-Signal.is) (false_weaker c.fit_signal.result (λ none p ms long. none p c.in-Signal.to ms) c.fit_signal.ensures.unfit)
