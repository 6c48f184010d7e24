use Rattle.sj_lang.specs.FileView.{file_of}
use Rattle.sj_log.proofs.EventLemmas.{parts_read}
use Rattle.sj_log.proofs.lines.line.Goals as goal

pub returns : goal.returns
returns c =
    let file = file_of c.args.file.now in
    let o = c.of-fields.ensures in
    let w = c.next.ensures.word in let r = c.next.ensures.rest in let k = c.clock-clock.ensures in
    let v = c.next-2.ensures.word in let q = c.next-2.ensures.rest in let p = c.party-party.ensures in let e = c.event-event.ensures in
    let b = c.together.ensures in let d = c.together-2.ensures in let l = c.with_clock.ensures in
    let read = parts_read c.args.version file c.args.bytes.now c.clock-clock.result c.party-party.result c.event-event.result (cc) (cc) (cc) in cc
