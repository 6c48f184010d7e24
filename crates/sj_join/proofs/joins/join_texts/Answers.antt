use Rattle.std.proofs.Common.{map}
use Rattle.sj_lang.specs.FileView.{file_of}
use Rattle.sj_join.proofs.JoinLemmas.{few_logs, in_order}
use Rattle.sj_join.proofs.joins.join_texts.Goals as goal

pub join_logs-requires-clause-parties : goal.join_logs-requires-clause-parties
join_logs-requires-clause-parties c = few_logs (file_of c.args.file.now) c.args.texts.now c.in_ok-logs.logs.items c.in_ok-logs.ensures.logs c.requires.few

pub join_logs-requires-clause-order : goal.join_logs-requires-clause-order
join_logs-requires-clause-order c = in_order (file_of c.args.file.now) 0 (map (λ t. t.items) c.args.texts.now) c.in_ok-logs.logs.items c.in_ok-logs.ensures.logs
