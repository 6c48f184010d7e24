use Rattle.std.proofs.Common.{◌≤◌, ◌∙◌, ℕ, List, ap, subst, sym, length}
use Rattle.std.specs.Prelude.{◌==◌}
use Rattle.std.proofs.lemmas.Bool.{ne_eqb}
use Rattle.sj_seat_lines.specs.Reading.{Brings, left_of, newline, reader_at}
use Rattle.sj_seat_lines.proofs.LineLemmas.{IsBegun, IsSoFar, at_end, at_newline, begun_on, one_more, with_byte_within}
use Rattle.sj_seat_lines.proofs.reader.LineReader.next.Goals as goal

pub returns-then-byte-eq10-clause-read : goal.returns-then-byte-eq10-clause-read
returns-then-byte-eq10-clause-read g c =
    let left = left_of g.S.Source.left in
    let at = reader_at g.S.Source.left g.S.Source.faults in
    let brought = subst (λ b. Brings b (at c.loop.self) (at c.next_byte.new.self)) c.in-Is.is c.in_ok-byte.ensures.read in (
      at_newline c.args.most c.loop.line.items c.loop.invariant.within c.loop.begun c.in-Is.byte (ap (λ b. b == newline) c.if-byte-eq10.true) (left c.args.self.now) (left c.loop.self) (left c.next_byte.new.self) brought.0 c.loop.invariant.begun c.loop.invariant.so_far,
      brought.1 ∙ c.loop.invariant.faults,
    )

pub loop-preserved : goal.loop-preserved
loop-preserved g c =
    let left = left_of g.S.Source.left in
    let at = reader_at g.S.Source.left g.S.Source.faults in
    let brought = subst (λ b. Brings b (at c.loop.self) (at c.next_byte.new.self)) c.in-Is.is c.in_ok-byte.ensures.read in
    record {
      within = subst (λ xs. length xs ≤ c.args.most) (sym {A = List ℕ} c.in_ok-put_byte-in-Is.ensures) (with_byte_within c.args.most c.in-Is.byte c.loop.line.items c.loop.invariant.within);
      so_far = subst (λ xs. IsSoFar c.args.most (left c.args.self.now) xs (left c.next_byte.new.self)) (sym {A = List ℕ} c.in_ok-put_byte-in-Is.ensures)
          (one_more c.args.most c.in-Is.byte c.loop.line.items (ne_eqb c.in-Is.byte newline c.if-byte-eq10.false) (left c.args.self.now) (left c.loop.self) (left c.next_byte.new.self) brought.0 c.loop.invariant.so_far);
      begun = begun_on c.loop.begun c.in-Is.byte (left c.args.self.now) (left c.loop.self) (left c.next_byte.new.self) brought.0 c.loop.invariant.begun;
      faults = brought.1 ∙ c.loop.invariant.faults;
    }

pub returns-in-End-clause-read : goal.returns-in-End-clause-read
returns-in-End-clause-read g c =
    let left = left_of g.S.Source.left in
    let at = reader_at g.S.Source.left g.S.Source.faults in
    let brought = subst (λ b. Brings b (at c.loop.self) (at c.next_byte.new.self)) c.in-End.is c.in_ok-byte.ensures.read in (
      at_end c.args.most c.loop.line.items c.loop.invariant.within (left c.args.self.now) (left c.loop.self) (left c.next_byte.new.self) brought.0 brought.1
          (subst (λ b. IsBegun b (left c.args.self.now) (left c.loop.self)) c.if-begun.true c.loop.invariant.begun) c.loop.invariant.so_far,
      brought.2 ∙ c.loop.invariant.faults,
    )
