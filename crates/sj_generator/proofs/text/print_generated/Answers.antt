use Rattle.std.proofs.Common.{◌++◌}
use Rattle.sj_text.proofs.CutLemmas.{err_behind}
use Rattle.sj_generator.specs.Generated.{protocols, group, connections, of_each}
use Rattle.sj_generator.proofs.text.print_generated.Goals as goal

pub returns-clause-err : goal.returns-clause-err
returns-clause-err c =
    let mid = c.put_protocols.new.text.items in let next = c.put_groups.new.text.items in let new = c.put_all_connections.new.text.items in let r = c.put_all_connections.result in
    let groups = of_each (group c.args.n) in
    err_behind c.args.text.now.items protocols (groups ++ of_each connections) mid new r c.in_ok-put_protocols.ensures.ok
    (err_behind mid groups (of_each connections) next new r c.in_ok-put_groups.ensures.ok c.put_all_connections.ensures.err)
