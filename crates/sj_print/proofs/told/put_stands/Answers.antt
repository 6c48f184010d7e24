use Rattle.std.proofs.Common.{◌≡◌, ◌<◌, ◌≤◌, ap, arith, drop, get_or, length, map}
use Rattle.std.proofs.lemmas.Grind.{common_steps}
use Rattle.std.proofs.lemmas.List.{drop_all}
use Rattle.sj_lang.specs.FileView.{file_of, party_of}
use Rattle.sj_text.proofs.CutLemmas.{none_yet, on_err}
use Rattle.sj_told.specs.Standing.{standing_lines}
use Rattle.sj_print.specs.Parts.{stand_lines}
use Rattle.sj_print.proofs.PartLemmas.{length-map}
use Rattle.sj_print.proofs.ToldLemmas.{all_put, cut_stand, put_stand}
use Rattle.sj_print.proofs.told.put_stands.Goals as goal

pub loop-i-init : goal.loop-i-init
loop-i-init c = none_yet c.args.text.now.items (stand_lines (file_of c.args.file.now) c.args.stands.now)

pub loop-i-preserved : goal.loop-i-preserved
loop-i-preserved c =
    let file = file_of c.args.file.now in let qs = c.args.file.now.parties.items in let stands = c.args.stands.now in
    let i = c.loop-i.i in let x = c.index.result.now in let old = c.args.text.now.items in let whole = stand_lines file stands in
    let within : i < length qs = omega (arith, c.loop-i-test.true, c.len-i-end.ensures, c.args.file.now.parties.ok.0) in
    let told : i < length stands = omega (arith, within, c.requires, length-map party_of qs) in
    let there : get_or qs i x ≡ x = grind (arith, common_steps) in
    put_stand file stands qs i x _ old whole c.loop-i.text.items c.put_party.new.text.items told within there c.loop-i.invariant c.in_ok-put_party.ensures.ok

pub returns-in_err-put_party-clause-err : goal.returns-in_err-put_party-clause-err
returns-in_err-put_party-clause-err c =
    let file = file_of c.args.file.now in let qs = c.args.file.now.parties.items in let stands = c.args.stands.now in
    let i = c.loop-i.i in let x = c.index.result.now in let old = c.args.text.now.items in let whole = stand_lines file stands in
    let within : i < length qs = omega (arith, c.loop-i-test.true, c.len-i-end.ensures, c.args.file.now.parties.ok.0) in
    let told : i < length stands = omega (arith, within, c.requires, length-map party_of qs) in
    let there : get_or qs i x ≡ x = grind (arith, common_steps) in
    on_err c.from_residual.result _ (cut_stand file stands qs i x _ old whole c.loop-i.text.items c.put_party.new.text.items told within there c.loop-i.invariant c.in_err-put_party.ensures.err)

pub returns-clause-ok : goal.returns-clause-ok
returns-clause-ok c =
    let file = file_of c.args.file.now in let qs = c.args.file.now.parties.items in let stands = c.args.stands.now in
    let over : length qs ≤ c.loop-i.i = omega (arith, c.loop-i-test.false, c.len-i-end.ensures, c.args.file.now.parties.ok.0) in
    all_put c.args.text.now.items (stand_lines file stands) _ c.loop-i.text.items c.loop-i.invariant
    (ap (λ xs. standing_lines file xs (drop c.loop-i.i (map (λ s. s.steps) stands)) (drop c.loop-i.i (map (λ s. s.state) stands))) (drop_all c.loop-i.i (map party_of qs) (omega (arith, over, length-map party_of qs))))
