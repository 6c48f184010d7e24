use Rattle.std.proofs.Common.{◌++◌, arith}
use Rattle.sj_end.specs.Lines.{line_at}
use Rattle.sj_lang.specs.FileView.{file_of}
use Rattle.sj_print.specs.LogLine.{head_words, note_words}
use Rattle.sj_tool.proofs.EntryLemmas.{line_popped}
use Rattle.sj_tool.proofs.entries.put_entry.Goals as goal

pub returns : goal.returns
returns c =
    let file = file_of c.args.file.now in
    let line = line_at c.args.line.now in
    line_popped c.args.text.now.items c.print_line.new.text.items c.pop.new.self.items (head_words file line ++ note_words file line.entry.note) c.pop.result
    c.in_ok-print_line.ensures.ok c.pop.ensures.items (λ some. c.pop.ensures.variant.1 (omega (arith, some, c.print_line.new.text.ok)))
