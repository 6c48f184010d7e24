use Rattle.std.proofs.Common.{arith, map}
use Rattle.sj_end.specs.Lines.{line_at}
use Rattle.sj_lang.specs.FileView.{file_of}
use Rattle.sj_print.specs.LogLine.{log_text}
use Rattle.sj_text.proofs.CutLemmas.{none_yet, on_err}
use Rattle.sj_seat_replay.proofs.LineLemmas.{all_lines, cut_next, put_next}
use Rattle.sj_seat_replay.proofs.history.put_lines.Goals as goal

pub loop-line-init : goal.loop-line-init
loop-line-init c = none_yet c.args.text.now.items (log_text (file_of c.args.file.now) (map line_at c.args.lines.now))

pub loop-line-preserved : goal.loop-line-preserved
loop-line-preserved c =
    put_next (file_of c.args.file.now) c.args.lines.now c.loop-line.line-index c.args.text.now.items c.loop-line.text.items c.print_line.new.text.items _ c.loop-line-test.true c.loop-line.invariant
    c.in_ok-print_line.ensures.ok

pub returns-in_err-print_line-clause-part : goal.returns-in_err-print_line-clause-part
returns-in_err-print_line-clause-part c =
    on_err c.from_residual.result _
    (cut_next (file_of c.args.file.now) c.args.lines.now c.loop-line.line-index c.args.text.now.items c.loop-line.text.items c.print_line.new.text.items _ c.loop-line-test.true c.loop-line.invariant
    c.in_err-print_line.ensures.err)

pub returns-clause-all : goal.returns-clause-all
returns-clause-all c =
    all_lines (file_of c.args.file.now) c.args.lines.now c.loop-line.line-index c.args.text.now.items c.loop-line.text.items c.loop-line.text.items (omega (arith, c.loop-line-test.false)) c.loop-line.invariant
