use Rattle.std.proofs.Common.{◌+◌, drop}
use Rattle.std.specs.Prelude.{map}
use Rattle.sj_text.proofs.CutLemmas.{ahead_is, cut_within, on_err}
use Rattle.sj_lang.specs.FileView.{party_of}
use Rattle.sj_party.specs.CanonicalExpression.{spelling_of}
use Rattle.sj_party.specs.CanonicalFile.{party_text, parties_text}
use Rattle.sj_party.proofs.PrintedFile.{parties_step}
use Rattle.sj_party.proofs.printing.put_parties.Goals as goal

pub returns-in_err-put_party-clause-err : goal.returns-in_err-put_party-clause-err
returns-in_err-put_party-clause-err c =
    let names = spelling_of c.args.names.now in
    let qs = c.args.parties.now in
    let i = c.loop-party.party-index in
    let x = c.party-item.result in
    let old = c.args.text.now.items in
    let whole = parties_text names (map party_of qs) in
    on_err c.from_residual.result _
    (cut_within old whole (party_text names (party_of x)) (parties_text names (map party_of (drop (i + 1) qs))) c.loop-party.text.items c.put_party.new.text.items
    (ahead_is old whole (parties_text names (map party_of (drop i qs))) _ c.loop-party.text.items (parties_step names i qs x c.loop-party-test.true c.party-item.is) c.loop-party.invariant) c.in_err-put_party.ensures.err)
