use Rattle.std.proofs.Common.{◌∙◌, arith, map}
use Rattle.std.proofs.lemmas.List.{length-map}
use Rattle.sj_lang.specs.FileView.{protocol_of}
use Rattle.sj_machine.specs.Sound.{program_at}
use Rattle.sj_plain.specs.Opened.{world_with}
use Rattle.sj_plain.specs.Stepping.{sessions_at}
use Rattle.sj_semantics.specs.State.{state_wanting}
use Rattle.sj_plain.proofs.CourseLemmas.{stands_by_want}
use Rattle.sj_plain.proofs.course.Course.state_by.Goals as goal

pub returns : goal.returns
returns c =
    let ps = map protocol_of c.args.self.now.kept.protocols.items in
    let gs = map program_at c.args.self.now.machines.items in
    c.state_wanting.ensures c.args.self.now.table ps gs
    ∙ (λ i. state_wanting (world_with ps gs (sessions_at c.args.self.now.table (c.deref.ensures.value i)) (c.deref-2.ensures.value i)) c.args.party (c.steps.ensures i) c.args.want.now)
    ∙ stands_by_want c.args.self.now.kept.protocols.items c.args.self.now.table c.args.self.now.machines.items c.args.self.now.sessions.items c.args.self.now.opened.items c.args.party c.index-machine.result.now c.args.want.now
    (omega (arith, c.requires.there, length-map c.args.self.now.machines.items program_at)) c.index-machine.ensures c.requires.wants
