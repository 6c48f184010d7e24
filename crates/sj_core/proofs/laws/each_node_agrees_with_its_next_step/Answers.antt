use Rattle.sj_core.proofs.AgreeLemmas.{run_agrees, run_fits, world_agrees}
use Rattle.sj_core.proofs.ReachedLemmas.{led}
use Rattle.sj_core.proofs.laws.each_node_agrees_with_its_next_step.Goals as goal

pub returns-clause-run : goal.returns-clause-run
returns-clause-run c = λ file turns core p n accepted run own free. run_agrees file turns core p n accepted run own free

pub returns-clause-fits : goal.returns-clause-fits
returns-clause-fits c = λ file turns core p n accepted run own free. run_fits file turns core p n accepted run own free

pub returns-clause-world : goal.returns-clause-world
returns-clause-world c = λ w p n reached there free. world_agrees w (led w reached) p n there free
