use Rattle.std.proofs.Common.{◌+◌, ap, subst, sym}
use Rattle.sj_seat_lines.specs.Forms.{most_line}
use Rattle.sj_seat_lines.specs.Lines.{lines_at}
use Rattle.sj_seat_lines.specs.Party.{party_at, seat_at}
use Rattle.sj_seat_lines.specs.Reading.{IsNextLine}
use Rattle.sj_seat_lines.proofs.GoLemmas.{answered_ok}
use Rattle.sj_seat_lines.proofs.lines.Lines.read.Goals as goal

pub returns : goal.returns
returns g c =
    let at = lines_at g.S.Source.left g.K.Sink.written in
    let read = subst (λ line. IsNextLine (most_line + 1) (at c.args.self.now).left line (at c.next_line.new.self).left) (sym c.deref.ensures.value) c.in_ok-line.ensures.line in
    answered_ok (seat_at c.args.seat) (at c.args.self.now) (at c.next_line.new.self) c.deref.result.now read
    (ap party_at c.next_line.ensures.party) (ap g.K.Sink.written c.next_line.ensures.sink)
    (at c.answer.new.self) c.answer.result c.answer.ensures.lines c.answer.ensures.asks
