use Rattle.std.proofs.Common.{arith, subst, sym}
use Rattle.sj_lang.specs.FileView.{file_of}
use Rattle.sj_talk.specs.Moves.{GoesOn}
use Rattle.sj_talk.specs.Talk.{talk_of}
use Rattle.sj_talk.specs.Words.{lines_in}
use Rattle.sj_text.proofs.CutLemmas.{on_err}
use Rattle.sj_talk.proofs.BreakLemmas.{breaks, goes_broken, goes_by_talk, stops_at_end, stops_in_line, stops_in_text, stops_in_verdict}
use Rattle.sj_talk.proofs.OutputLemmas.{all_said, no_lines, said_on, text_told, verdict_told}
use Rattle.sj_talk.proofs.output.talk_lines.Goals as goal

pub loop-left-preserved : goal.loop-left-preserved
loop-left-preserved c = record {
  few = omega (arith, c.loop-left.invariant.few, c.behind-rest.ensures.shorter);
  so_far =
      said_on _ (talk_of c.loop-left.talk) (talk_of c.line.new.self) c.loop-left.number c.in_ok-said.said (file_of c.file.result.now) _ _ c.loop-left.left.now c.behind-rest.result.now _ c.loop-left.text.items
      c.put_said.new.text.items c.loop-left.invariant.so_far c.behind-rest.ensures.lines c.in_ok-said.ensures.ok c.in_ok-said.ensures.said c.file.ensures c.in_ok-put_said.ensures.ok;
}

pub returns-clause-verdict : goal.returns-clause-verdict
returns-clause-verdict c =
    let t = talk_of c.args.talk.now in
    let v = talk_of c.finish.new.self in
    let none = no_lines c.loop-left.left.now c.is_empty.result c.is_empty.ensures c.loop-left-test.false in
    verdict_told t v c.args.lines.now c.in_ok-verdict.verdict c.in_ok-verdict.ensures.verdict (all_said t _ v _ c.args.lines.now _ _ _ c.loop-left.invariant.so_far none c.in_ok-verdict.ensures.ok)

pub returns-clause-ok : goal.returns-clause-ok
returns-clause-ok c =
    let none = no_lines c.loop-left.left.now c.is_empty.result c.is_empty.ensures c.loop-left-test.false in
    all_said (talk_of c.args.talk.now) _ (talk_of c.finish.new.self) _ c.args.lines.now _ _ _ c.loop-left.invariant.so_far none c.in_ok-verdict.ensures.ok

pub returns-clause-text : goal.returns-clause-text
returns-clause-text c =
    let t = talk_of c.args.talk.now in
    let v = talk_of c.finish.new.self in
    let none = no_lines c.loop-left.left.now c.is_empty.result c.is_empty.ensures c.loop-left-test.false in
    let told = verdict_told t v c.args.lines.now c.in_ok-verdict.verdict c.in_ok-verdict.ensures.verdict (all_said t _ v _ c.args.lines.now _ _ _ c.loop-left.invariant.so_far none c.in_ok-verdict.ensures.ok) in
    text_told t _ _ c.args.lines.now _ _ _ c.print_verdict.new.text.items c.in_ok-verdict.verdict c.loop-left.invariant.so_far none told c.in_ok-print_verdict.ensures.ok

pub returns-clause-on : goal.returns-clause-on
returns-clause-on c =
    let t = talk_of c.args.talk.now in
    let none = no_lines c.loop-left.left.now c.is_empty.result c.is_empty.ensures c.loop-left-test.false in
    let played = all_said t _ (talk_of c.finish.new.self) _ c.args.lines.now _ _ _ c.loop-left.invariant.so_far none c.in_ok-verdict.ensures.ok in
    subst (GoesOn t) (sym played) (goes_by_talk t (lines_in c.args.lines.now))

pub returns-in_err-said-clause-err : goal.returns-in_err-said-clause-err
returns-in_err-said-clause-err c =
    let u = talk_of c.loop-left.talk in
    on_err c.from_residual.result _
    (breaks _ u _ _ _ _ _ _ _ c.loop-left.invariant.so_far (stops_in_line u _ _ c.loop-left.left.now c.behind-rest.result.now _ c.loop-left.text.items c.behind-rest.ensures.lines c.in_err-said.ensures.err))

pub returns-in_err-said-clause-on : goal.returns-in_err-said-clause-on
returns-in_err-said-clause-on c =
    let u = talk_of c.loop-left.talk in
    goes_broken (talk_of c.args.talk.now) _ c.args.lines.now c.args.text.now.items _
    (breaks _ u _ _ _ _ _ _ _ c.loop-left.invariant.so_far (stops_in_line u _ _ c.loop-left.left.now c.behind-rest.result.now _ c.loop-left.text.items c.behind-rest.ensures.lines c.in_err-said.ensures.err))

pub returns-in_err-put_said-clause-err : goal.returns-in_err-put_said-clause-err
returns-in_err-put_said-clause-err c =
    let u = talk_of c.loop-left.talk in
    let v = talk_of c.line.new.self in
    on_err c.from_residual-in_err-put_said.result _
    (breaks _ u v _ _ _ _ _ _ c.loop-left.invariant.so_far
    (stops_in_text u v _ c.in_ok-said.said (file_of c.file.result.now) c.loop-left.left.now c.behind-rest.result.now _ c.loop-left.text.items c.put_said.new.text.items c.behind-rest.ensures.lines c.in_ok-said.ensures.ok
    c.in_ok-said.ensures.said c.file.ensures c.in_err-put_said.ensures.err))

pub returns-in_err-put_said-clause-on : goal.returns-in_err-put_said-clause-on
returns-in_err-put_said-clause-on c =
    let u = talk_of c.loop-left.talk in
    let v = talk_of c.line.new.self in
    goes_broken (talk_of c.args.talk.now) _ c.args.lines.now c.args.text.now.items _
    (breaks _ u v _ _ _ _ _ _ c.loop-left.invariant.so_far
    (stops_in_text u v _ c.in_ok-said.said (file_of c.file.result.now) c.loop-left.left.now c.behind-rest.result.now _ c.loop-left.text.items c.put_said.new.text.items c.behind-rest.ensures.lines c.in_ok-said.ensures.ok
    c.in_ok-said.ensures.said c.file.ensures c.in_err-put_said.ensures.err))

pub returns-in_err-verdict-clause-err : goal.returns-in_err-verdict-clause-err
returns-in_err-verdict-clause-err c =
    let u = talk_of c.loop-left.talk in
    let none = no_lines c.loop-left.left.now c.is_empty.result c.is_empty.ensures c.loop-left-test.false in
    on_err c.from_residual-in_err-verdict.result _
    (breaks _ u _ _ _ _ _ _ _ c.loop-left.invariant.so_far (stops_at_end u _ _ c.loop-left.left.now c.loop-left.text.items none c.in_err-verdict.ensures.err))

pub returns-in_err-verdict-clause-on : goal.returns-in_err-verdict-clause-on
returns-in_err-verdict-clause-on c =
    let u = talk_of c.loop-left.talk in
    let none = no_lines c.loop-left.left.now c.is_empty.result c.is_empty.ensures c.loop-left-test.false in
    goes_broken (talk_of c.args.talk.now) _ c.args.lines.now c.args.text.now.items _
    (breaks _ u _ _ _ _ _ _ _ c.loop-left.invariant.so_far (stops_at_end u _ _ c.loop-left.left.now c.loop-left.text.items none c.in_err-verdict.ensures.err))

pub returns-in_err-print_verdict-clause-err : goal.returns-in_err-print_verdict-clause-err
returns-in_err-print_verdict-clause-err c =
    let u = talk_of c.loop-left.talk in
    let v = talk_of c.finish.new.self in
    let none = no_lines c.loop-left.left.now c.is_empty.result c.is_empty.ensures c.loop-left-test.false in
    on_err c.from_residual-in_err-print_verdict.result _
    (breaks _ u v _ _ _ _ _ _ c.loop-left.invariant.so_far
    (stops_in_verdict u v _ c.loop-left.left.now c.loop-left.text.items c.print_verdict.new.text.items c.in_ok-verdict.verdict none c.in_ok-verdict.ensures.ok c.in_ok-verdict.ensures.verdict c.in_err-print_verdict.ensures.err))

pub returns-in_err-print_verdict-clause-on : goal.returns-in_err-print_verdict-clause-on
returns-in_err-print_verdict-clause-on c =
    let u = talk_of c.loop-left.talk in
    let v = talk_of c.finish.new.self in
    let none = no_lines c.loop-left.left.now c.is_empty.result c.is_empty.ensures c.loop-left-test.false in
    goes_broken (talk_of c.args.talk.now) _ c.args.lines.now c.args.text.now.items _
    (breaks _ u v _ _ _ _ _ _ c.loop-left.invariant.so_far
    (stops_in_verdict u v _ c.loop-left.left.now c.loop-left.text.items c.print_verdict.new.text.items c.in_ok-verdict.verdict none c.in_ok-verdict.ensures.ok c.in_ok-verdict.ensures.verdict c.in_err-print_verdict.ensures.err))
