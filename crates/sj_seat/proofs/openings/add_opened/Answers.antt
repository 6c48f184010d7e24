use Rattle.std.proofs.Common.{◌≡◌, ◌∙◌, ◌∷◌, ◌++◌, [], nat_lt, true, false, length, map, ap, append-nil, arith, sym}
use Rattle.std.proofs.lemmas.List.{length-map, map-append}
use Rattle.sj_lang.specs.FileAt.{party_named}
use Rattle.sj_lang.specs.FileView.{file_of, party_of}
use Rattle.sj_seat.specs.Opened.{opened_at, opening_at, statement_of}
use Rattle.sj_seat.proofs.OpeningLemmas.{added, is_below, isnt_below, not_added}
use Rattle.sj_seat.proofs.openings.add_opened.Goals as goal

pub returns-in_ok-push : goal.returns-in_ok-push
returns-in_ok-push c =
    let t = c.args.table.now in
    let found = c.args.found in
    let file = c.args.file.now in
    let old = c.args.all.now.items in
    let k = c.narrow.result in
    let number : k ≡ party_named (map party_of file.parties.items) found.party = c.narrow.ensures ∙ c.party_of_name-number.ensures ∙ ap (λ qs. party_named (map party_of qs) found.party) c.deref.ensures.value in
    let there : nat_lt k (length (map party_of file.parties.items)) ≡ true =
    is_below k (length (map party_of file.parties.items)) (omega (arith, c.if-number-len.true, c.narrow.ensures, length-map file.parties.items party_of)) in
    ap (opened_at t) c.in_ok-push.ensures.items
    ∙ map-append (opening_at t) old (record { party = k; protocol = found.protocol; place = c.start.result } ∷ [])
    ∙ ap (λ ms. opened_at t old ++ ms) (added (file_of file) (statement_of found) k number _ (c.start.ensures.place ∙ c.requires.starts found.protocol) there)

pub returns-else-number-len : goal.returns-else-number-len
returns-else-number-len c =
    let t = c.args.table.now in
    let found = c.args.found in
    let file = c.args.file.now in
    let old = c.args.all.now.items in
    let k = c.party_of_name-number.result in
    let number : k ≡ party_named (map party_of file.parties.items) found.party = c.party_of_name-number.ensures ∙ ap (λ qs. party_named (map party_of qs) found.party) c.deref.ensures.value in
    let gone : nat_lt k (length (map party_of file.parties.items)) ≡ false =
    isnt_below k (length (map party_of file.parties.items)) (omega (arith, c.if-number-len.false, length-map file.parties.items party_of)) in
    sym (append-nil (opened_at t old)) ∙ ap (λ ms. opened_at t old ++ ms) (not_added (file_of file) (statement_of found) k number gone)
