use Rattle.sj_lang.specs.FileView.{file_of}
use Rattle.sj_log.proofs.EventLemmas.{delivery_read}
use Rattle.sj_log.proofs.lines.event.Goals as goal

pub returns-then-is : goal.returns-then-is
returns-then-is c =
    let file = file_of c.args.file.now in let ws = c.args.fields.now in
    let w = c.next-word.ensures.word in let r = c.next-word.ensures.rest in let t = c.is.ensures in let yes = c.if-is.true in
    let v = c.next.ensures.word in let q = c.next.ensures.rest in let p = c.party-from.ensures in let f = c.frame-said.ensures in
    let b = c.together.ensures in let d = c.delivery.ensures in
    let read = delivery_read c.args.version file ws c.party-from.result c.frame-said.result (cc) (cc) (cc) in cc
