use Rattle.std.proofs.Common.{◌≡◌, List, ◌+◌, ◌∙◌, ap, drop, sym}
use Rattle.sj_lang.specs.CodeView.{code_of}
use Rattle.sj_lang.specs.declared.file.Party.{Party}
use Rattle.sj_forest.proofs.OpeningLemmas.{in_code, in_parties, parties_split, told_later, told_now}
use Rattle.sj_forest.proofs.openings.first_opening.Goals as goal

pub returns-in-Some : goal.returns-in-Some
returns-in-Some c =
    let ps = c.deref-party-items.result.now in
    let i = c.loop-party.party-index in
    let all_now : in_parties (drop i ps) ≡ in_parties c.args.file.now.parties.items = ap (λ (qs : List Party). in_parties (drop i qs)) c.deref-party-items.ensures.value ∙ c.loop-party.invariant in
    told_now (in_parties c.args.file.now.parties.items) (in_parties (drop i ps)) (in_code (code_of c.deref.result.now)) (in_parties (drop (i + 1) ps)) c.in-Some.line all_now
    (parties_split ps i c.party-item.result c.deref.result.now c.loop-party-test.true c.party-item.is c.deref.ensures.value) c.in-Some.ensures

pub loop-party-preserved : goal.loop-party-preserved
loop-party-preserved c =
    let ps = c.deref-party-items.result.now in
    let i = c.loop-party.party-index in
    let all_now : in_parties (drop i ps) ≡ in_parties c.args.file.now.parties.items = ap (λ (qs : List Party). in_parties (drop i qs)) c.deref-party-items.ensures.value ∙ c.loop-party.invariant in
    ap (λ (qs : List Party). in_parties (drop (i + 1) qs)) (sym c.deref-party-items.ensures.value)
    ∙ told_later (in_parties c.args.file.now.parties.items) (in_parties (drop i ps)) (in_code (code_of c.deref.result.now)) (in_parties (drop (i + 1) ps)) all_now
    (parties_split ps i c.party-item.result c.deref.result.now c.loop-party-test.true c.party-item.is c.deref.ensures.value) c.in-None.ensures
