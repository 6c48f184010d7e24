use Rattle.std.proofs.Common.{ap, ◌∙◌, arith, length, ◌<◌}
use Rattle.std.specs.FinMap as map
use Rattle.sj_check.proofs.TableLemmas.{kinds_in-set}
use Rattle.sj_check.proofs.variables.Variables.put.Goals as goal

pub returns : goal.returns
returns c =
    let room : c.args.name < length c.grow.new.table.items = omega (arith, c.in_ok-grow.ensures.room) in
    kinds_in-set c.self.inside.table.items c.grow.new.table.items c.args.name c.byte_of.result c.args.kind c.byte_of.ensures room c.in_ok-grow.ensures.kept
    ∙ ap (λ m. map.insert m c.args.name c.args.kind) c.self.view_is
