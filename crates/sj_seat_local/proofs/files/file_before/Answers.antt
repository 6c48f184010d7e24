use Rattle.std.proofs.Common.{◌≡◌, ◌∙◌, ◌≤◌, ◌+◌, ℕ, List, [], ◌∷◌, ◌++◌, arith, length, refl, subst, sym}
use Rattle.sj_lang.specs.Limits.{file_limit}
use Rattle.sj_seat_lines.specs.Reading.{Reads, newline, reader_at}
use Rattle.sj_seat_local.specs.Before.{talk_line}
use Rattle.sj_seat_local.proofs.BeforeLemmas.{IsSoFar, large_comes, line_comes, line_is, line_isnt, longer, no_talk_comes, put_same, so_far_none, talk_comes}
use Rattle.sj_seat_local.proofs.files.file_before.Goals as goal

pub loop-init : goal.loop-init
loop-init g c =
    let old = (reader_at g.S.Source.left g.S.Source.faults c.args.lines.now).left in
    let none : c.new-bytes.result.items ≡ [] = c.new-bytes.ensures.items in
    record {
      so_far = subst (λ xs. IsSoFar old xs old) (sym none) (so_far_none old);
      faults = refl;
      some = omega arith;
      few = subst (λ (xs : List ℕ). length xs ≤ file_limit) (sym none) (omega arith);
    }

pub returns-then-is : goal.returns-then-is
returns-then-is g c =
    let at = reader_at g.S.Source.left g.S.Source.faults in
    let read = subst (λ n. Reads (file_limit + 1) (at c.loop.lines) n (at c.next.new.self)) c.in-Line.is c.in_ok-line.ensures.read in
    let same = sym c.deref.ensures.value ∙ line_is c.deref.result.now talk_line c.is.result c.is.ensures c.if-is.true in (
      talk_comes (file_limit + 1) (omega arith) c.loop.bytes.items c.in-Line.line.items (at c.args.lines.now).left (at c.loop.lines).left (at c.next.new.self).left c.loop.invariant.so_far read.0 same,
      c.loop.invariant.few,
    )

pub returns-then-len-gt-MOST_BYTES : goal.returns-then-len-gt-MOST_BYTES
returns-then-len-gt-MOST_BYTES g c =
    let at = reader_at g.S.Source.left g.S.Source.faults in
    let read = subst (λ n. Reads (file_limit + 1) (at c.loop.lines) n (at c.next.new.self)) c.in-Line.is c.in_ok-line.ensures.read in
    let put : c.put_line.new.bytes.items ≡ c.loop.bytes.items ++ (c.in-Line.line.items ++ newline ∷ []) = put_same c.loop.bytes.items c.in-Line.line.items c.deref-in-Line.result.now c.put_line.new.bytes.items c.in_ok-put_line-in-Line.ensures c.deref-in-Line.ensures.value in
    large_comes (file_limit + 1) (omega arith) c.loop.bytes.items c.in-Line.line.items c.put_line.new.bytes.items (at c.args.lines.now).left (at c.loop.lines).left (at c.next.new.self).left c.loop.invariant.so_far read.0
    (λ is. line_isnt c.deref.result.now talk_line c.is.result c.is.ensures c.if-is.false (c.deref.ensures.value ∙ is)) put (omega (arith, c.if-len-gt-MOST_BYTES.true, c.len.ensures))

pub returns-in-End : goal.returns-in-End
returns-in-End g c =
    let at = reader_at g.S.Source.left g.S.Source.faults in
    let read = subst (λ n. Reads (file_limit + 1) (at c.loop.lines) n (at c.next.new.self)) c.in-End.is c.in_ok-line.ensures.read in
    no_talk_comes c.loop.bytes.items (at c.args.lines.now).left (at c.loop.lines).left c.loop.invariant.so_far read.0

pub loop-preserved : goal.loop-preserved
loop-preserved g c =
    let at = reader_at g.S.Source.left g.S.Source.faults in
    let read = subst (λ n. Reads (file_limit + 1) (at c.loop.lines) n (at c.next.new.self)) c.in-Line.is c.in_ok-line.ensures.read in
    let put : c.put_line.new.bytes.items ≡ c.loop.bytes.items ++ (c.in-Line.line.items ++ newline ∷ []) = put_same c.loop.bytes.items c.in-Line.line.items c.deref-in-Line.result.now c.put_line.new.bytes.items c.in_ok-put_line-in-Line.ensures c.deref-in-Line.ensures.value in
    record {
      so_far = line_comes (file_limit + 1) (omega arith) c.loop.bytes.items c.in-Line.line.items c.put_line.new.bytes.items (at c.args.lines.now).left (at c.loop.lines).left (at c.next.new.self).left c.loop.invariant.so_far read.0
          (λ is. line_isnt c.deref.result.now talk_line c.is.result c.is.ensures c.if-is.false (c.deref.ensures.value ∙ is)) put (omega (arith, c.if-len-gt-MOST_BYTES.false, c.len.ensures));
      faults = read.1 ∙ c.loop.invariant.faults;
      some = longer c.loop.bytes.items c.in-Line.line.items c.put_line.new.bytes.items c.loop.counter put c.loop.invariant.some;
      few = omega (arith, c.if-len-gt-MOST_BYTES.false, c.len.ensures);
    }
