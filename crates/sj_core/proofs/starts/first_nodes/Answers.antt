use Rattle.std.proofs.Common.{◌≡◌, ap, sym, ◌∙◌, ◌+◌, length, subst, arith}
use Rattle.std.proofs.lemmas.List.{length-map}
use Rattle.sj_check.specs.Held.{file_in}
use Rattle.sj_lang.specs.FileView.{file_of, party_of}
use Rattle.sj_core.proofs.FirstLemmas.{all_first, one_more}
use Rattle.sj_core.specs.Nodes.{AreBegun}
use Rattle.sj_core.proofs.starts.first_nodes.Goals as goal

pub loop-party-preserved : goal.loop-party-preserved
loop-party-preserved c =
    let file = file_of (file_in c.args.accepted.now) in
    subst (AreBegun file c.table-table.result.now (c.loop-party.party + 1)) (sym c.in_ok-push.ensures.items)
    (one_more file c.table-table.result.now c.loop-party.party c.loop-party.nodes.items c.in_ok-node.node c.loop-party.invariant c.in_ok-node.ensures.begins (c.in_ok-node.ensures.table ∙ c.in_ok-own.ensures))

pub returns : goal.returns
returns c =
    let file = file_of (file_in c.args.accepted.now) in
    let all : c.loop-party.party ≡ length file.parties =
    omega (arith, length-map (file_in c.args.accepted.now).parties.items party_of, c.len-parties.ensures, ap (λ f. length f.parties.items) c.file.ensures.value) in
    all_first file c.table-table.result.now c.loop-party.nodes.items (subst (λ k. AreBegun file c.table-table.result.now k c.loop-party.nodes.items) all c.loop-party.invariant) c.table-table.ensures
