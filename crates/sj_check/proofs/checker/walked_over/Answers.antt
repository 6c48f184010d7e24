use Rattle.std.proofs.Common.{◌≡◌, ◌<◌, List, map, ap, sym, subst}
use Rattle.sj_lang.specs.FileAt.{ProtocolAt}
use Rattle.sj_lang.specs.FileView.{file_of, protocol_of}
use Rattle.sj_table.specs.Nodes.{nodes_of}
use Rattle.sj_table.proofs.CountLemmas.{few_nodes}
use Rattle.sj_check.proofs.checker.walked_over.Goals as goal

pub compile-requires : goal.compile-requires
compile-requires c =
    let ps : map protocol_of c.deref.result.now ≡ map protocol_of c.args.file.now.protocols.items = ap (map protocol_of) c.deref.ensures.value in
    record { few = subst (λ (ps : List ProtocolAt). nodes_of ps < 4294967295) (sym ps) (few_nodes (file_of c.args.file.now).protocols c.requires.protocols c.requires.items) }
