use Rattle.sj_lang.specs.Term.{var}
use Rattle.sj_explain.proofs.CountLemmas.{later}
use Rattle.sj_explain.proofs.counts.+find.Goals as goal

-- src/counts.rt:70:1
pub returns-else-entry-name : goal.returns-else-entry-name
returns-else-entry-name t c = later c.args.entries.now c.in-Some.rest.now c.in-Some.entry.now (var c.args.name) c.find.result c.in-Some.ensures.cases.0 c.find.ensures
