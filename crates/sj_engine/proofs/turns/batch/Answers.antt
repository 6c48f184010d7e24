use Rattle.std.proofs.Common.{refl}
use Rattle.sj_engine.proofs.BatchLemmas.{worked_batch, worked_sent}
use Rattle.sj_engine.proofs.turns.batch.Goals as goal

pub returns-clause-batch : goal.returns-clause-batch
returns-clause-batch g c = worked_batch _ _ (λ o. refl) (λ i. refl) refl refl refl c.args.worker.now c.work.new.worker c.work.ensures.worked

pub returns-clause-sent : goal.returns-clause-sent
returns-clause-sent g c = worked_sent _ _ (λ o. refl) c.work.result c.args.worker.now c.work.new.worker c.work.ensures.worked c.work.ensures.stop
