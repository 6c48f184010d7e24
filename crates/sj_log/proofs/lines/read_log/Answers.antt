use Rattle.std.proofs.Common.{◌∙◌, ap, sym, map, Some, arith}
use Rattle.sj_lang.specs.FileView.{file_of}
use Rattle.sj_end.specs.Lines.{line_at}
use Rattle.sj_log.specs.LogText.{fault_of}
use Rattle.sj_log.proofs.LogLemmas.{behind, last_line, left_is_shorter, broken, goes_on}
use Rattle.sj_log.proofs.lines.read_log.Goals as goal

pub returns-then-end-left-clause-fault : goal.returns-then-end-left-clause-fault
returns-then-end-left-clause-fault c =
    let at = c.first_at-end.ensures.first in let long = c.if-end-left.true in
    ap fault_of (c.loop-left.invariant.so_far ∙ ap (behind (map line_at c.loop-left.lines.items)) (last_line c.args.version (file_of c.args.file.now) c.loop-left.number c.loop-left.left.now c.loop-left-test.true (omega arith)))
    ∙ ap (λ n. Some (n, c.loop-left.number)) (sym c.number_of.ensures)

pub returns-in-Err-clause-fault : goal.returns-in-Err-clause-fault
returns-in-Err-clause-fault c =
    let at = c.first_at-end.ensures.first in let short = c.if-end-left.false in let within = c.first_at-end.ensures.within in
    ap fault_of (broken c.args.version (file_of c.args.file.now) c.loop-left.number c.first_at-end.result c.loop-left.left.now at (omega arith)
    c.loop-left.lines.items _ c.loop-left.invariant.so_far c.line.result c.line.ensures c.in-Err.rule c.in-Err.is)
    ∙ ap (λ n. Some (n, c.loop-left.number)) (sym c.number_of-in-Err.ensures)

pub loop-left-preserved : goal.loop-left-preserved
loop-left-preserved c =
    let at = c.first_at-end.ensures.first in let short = c.if-end-left.false in let within = c.first_at-end.ensures.within in
    record {
      short = left_is_shorter c.args.version (file_of c.args.file.now) c.loop-left.number c.first_at-end.result c.loop-left.left.now at (omega arith) c.loop-left.invariant.short;
      so_far = goes_on c.args.version (file_of c.args.file.now) c.loop-left.number c.first_at-end.result c.loop-left.left.now at (omega arith)
          c.loop-left.lines.items _ c.loop-left.invariant.so_far c.line.result c.line.ensures c.in-Ok.line _ c.in-Ok.is c.in_ok-push-in-Ok.ensures.items;
    }
