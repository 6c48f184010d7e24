use Rattle.std.proofs.Common.{◌≡◌, ◌+◌, ◌<◌, ◌∙◌, sym, get_or, drop, length, ap, arith}
use Rattle.std.proofs.lemmas.List.{drop-drop}
use Rattle.sj_grammar.specs.Lexis.{next_of, in_comment}
use Rattle.sj_proto.proofs.ScanLemmas.{open_at, comment_is, some_begins}
use Rattle.sj_proto.proofs.scan.find.Goals as goal

pub loop-i-preserved : goal.loop-i-preserved
loop-i-preserved c =
    let xs = c.args.bytes.now in
    let i = c.loop-i.i in
    let e = open_at xs i c.loop-i-test.true in
    let second : i + 1 < length xs = some_begins 47 xs (i + 1) c.if-is_there.ensures in
    let was : next_of (drop i xs) ≡ next_of (drop c.args.at xs) = rw c.if-in_comment.false at c.loop-i.invariant.same in
    let two : i + 2 ≡ (i + 1) + 1 = omega arith in
    record {
      later = omega (arith, c.loop-i.invariant.later);
      within = omega arith;
      same = ap (λ k. in_comment (drop k xs)) two ∙ ap in_comment (sym (drop-drop 1 (i + 1) xs))
          ∙ sym (comment_is (get_or xs i 0) (drop (i + 1) xs) c.if-is_blank_byte.ensures c.if-b-ne47.false c.if-is_there.ensures)
          ∙ ap next_of (sym e) ∙ was;
    }
