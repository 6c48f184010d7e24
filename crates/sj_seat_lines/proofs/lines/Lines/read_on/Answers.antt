use Rattle.std.proofs.Common.{ℕ, List, Option, Some, None, option_map, subst}
use Rattle.sj_seat.specs.declared.ask.Ask.{Ask}
use Rattle.sj_seat_lines.specs.Lines.{IsAnswered, goes, lines_at, stays}
use Rattle.sj_seat_lines.specs.Party.{ask_at, seat_at}
use Rattle.sj_seat_lines.proofs.lines.Lines.read_on.Goals as goal

pub loop-init : goal.loop-init
loop-init g c = stays

pub returns-in-Some : goal.returns-in-Some
returns-in-Some g c =
    let at = lines_at g.S.Source.left g.K.Sink.written in
    let read = subst (λ (a : Option Ask). (line : List ℕ) × IsAnswered (seat_at c.args.seat) (at c.loop.self) line (option_map ask_at a) (at c.read.new.self)) c.in-Some.is c.in_ok-ask.ensures in
    goes (at c.loop.self) (at c.read.new.self) read.0 (Some (ask_at c.in-Some.ask)) c.loop.invariant read.1

pub loop-preserved : goal.loop-preserved
loop-preserved g c =
    let at = lines_at g.S.Source.left g.K.Sink.written in
    let read = subst (λ (a : Option Ask). (line : List ℕ) × IsAnswered (seat_at c.args.seat) (at c.loop.self) line (option_map ask_at a) (at c.read.new.self)) c.in-None.is c.in_ok-ask.ensures in
    goes (at c.loop.self) (at c.read.new.self) read.0 None c.loop.invariant read.1
