use Rattle.std.proofs.Common.{ap, subst}
use Rattle.sj_seat_lines.specs.Reading.{ReaderAt, reader_at}
use Rattle.sj_seat_local.specs.Before.{BeginsWith, ReadsBefore}
use Rattle.sj_seat_local.specs.Seated.{has_text}
use Rattle.sj_seat_local.proofs.BeforeLemmas.{begins_with}
use Rattle.sj_seat_local.proofs.SeatedLemmas.{source_seated}
use Rattle.sj_seat_local.proofs.local.seat_local.Goals as goal

pub returns-in-Ok-File-clause-comes : goal.returns-in-Ok-File-clause-comes
returns-in-Ok-File-clause-comes g c =
    let at = reader_at g.S.Source.left g.S.Source.faults in
    let text = c.in-Ok-File.bytes.items in
    let read = subst (λ b. ReadsBefore (at c.new-lines.result) b (at c.file_before.new.lines)) c.in-Ok-File.field-0-is c.in-Ok-File.ensures in
    let begins = begins_with (at c.new-lines.result).left text (at c.file_before.new.lines).left read.0 in
    has_text text (subst (λ o. BeginsWith o text) (ap (λ (r : ReaderAt). r.left) c.new-lines.ensures) begins) c.seat_file.ensures

pub returns-in-Ok-File-clause-played : goal.returns-in-Ok-File-clause-played
returns-in-Ok-File-clause-played g c =
    source_seated g.K.Sink.written (g.K.Sink.written c.args.out) (g.S.Source.left c.args.src) c.args.party.now c.seat_file.result (returns-in-Ok-File-clause-comes g c)
