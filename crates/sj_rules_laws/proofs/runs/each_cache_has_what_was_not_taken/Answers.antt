use Rattle.sj_rules_laws.proofs.CacheLemmas.{run_caches_fit, run_bases_are_taken}
use Rattle.sj_rules_laws.proofs.runs.each_cache_has_what_was_not_taken.Goals as goal

pub returns-clause-plain : goal.returns-clause-plain
returns-clause-plain c = λ file turns core accepted run. run_caches_fit file accepted turns core run

pub returns-clause-counts : goal.returns-clause-counts
returns-clause-counts c = λ file turns core e at there k l accepted run low has others. run_bases_are_taken file accepted turns core run e at there k l low has others
