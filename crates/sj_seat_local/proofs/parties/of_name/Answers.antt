use Rattle.std.proofs.Common.{◌∙◌, ◌<◌, arith, length, get_or, slice_get, sym}
use Rattle.std.proofs.lemmas.List.{length-map}
use Rattle.sj_lang.specs.FileView.{file_of, party_of}
use Rattle.sj_seat_local.specs.Parties.{IsNameOf}
use Rattle.sj_seat_local.proofs.PartyLemmas.{name_here, name_within, none_more, none_past, word_is, word_isnt}
use Rattle.sj_seat_local.proofs.parties.of_name.Goals as goal

pub returns-then-is_name-clause-some : goal.returns-then-is_name-clause-some
returns-then-is_name-clause-some c =
    let p = c.loop-party.party in
    let few : p < length c.args.file.now.parties.items = omega (arith, c.loop-party-test.true, c.count_of-party-end.ensures, length-map c.args.file.now.parties.items party_of) in
    let here = name_here c.args.file.now p c.index.result.now few (c.index.ensures ∙ (λ i. get_or c.args.file.now.parties.items (c.from.ensures i) c.index.result.now)) in
    (here ∙ word_is c.args.word.now (slice_get c.args.file.now.names.words c.index.result.now.name) (sym c.is_name.ensures ∙ c.if-is_name.true), c.loop-party.invariant)

pub loop-party-preserved : goal.loop-party-preserved
loop-party-preserved c =
    let p = c.loop-party.party in
    let few : p < length c.args.file.now.parties.items = omega (arith, c.loop-party-test.true, c.count_of-party-end.ensures, length-map c.args.file.now.parties.items party_of) in
    let here = name_here c.args.file.now p c.index.result.now few (c.index.ensures ∙ (λ i. get_or c.args.file.now.parties.items (c.from.ensures i) c.index.result.now)) in
    let other = word_isnt c.args.word.now (slice_get c.args.file.now.names.words c.index.result.now.name) (sym c.is_name.ensures ∙ c.if-is_name.false) in
    none_more (IsNameOf (file_of c.args.file.now) c.args.word.now) p c.loop-party.invariant (λ is. other (sym here ∙ is))

pub returns-clause-none : goal.returns-clause-none
returns-clause-none c =
    let file = file_of c.args.file.now in
    none_past file (IsNameOf file c.args.word.now) (name_within file c.args.word.now) (λ p lt. c.loop-party.invariant p (omega (arith, lt, c.count_of-party-end.ensures, c.loop-party-test.false)))
