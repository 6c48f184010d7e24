use Rattle.std.proofs.Common.{◌∙◌, ap}
use Rattle.sj_node.specs.Play.{next_want}
use Rattle.sj_node.specs.declared.refusal.Halt.TheVariants as halts
use Rattle.sj_work.proofs.LaneLaws.{laws}
use Rattle.sj_seat.proofs.CountLemmas.{counted_alone}
use Rattle.sj_seat.proofs.DoneLemmas.{call_keeps, done_call, refused_call}
use Rattle.sj_seat.proofs.CauseLemmas.{err_stays, held_up_so, no_row_so}
use Rattle.sj_seat.proofs.TakenLemmas.{tells_taken}
use Rattle.sj_seat.proofs.deeds.do_call.Goals as goal

pub returns : goal.returns
returns g c =
    let ol = g.met.O.OutLane g.world.𝓛 g.world.𝓜 g.world.𝓡 (λ s x. x, λ x. x, λ x. x, λ x. x) in
    let il = g.met.I.InLane g.world.𝓛 g.world.𝓜 g.world.𝓡 (λ s x. x, λ x. x, λ x. x, λ x. x) in
    let k = laws g.O.OutLane g.I.InLane ol.same_itself ol.same_later il.same_itself il.same_later in
    let a = c.args.worker.now in
    let b = c.call.new.self in
    let h = c.call.ensures in
    record {
      keeps = call_keeps a.node b.node c.args.call c.call.result h.ok h.err;
      idle = ap next_want h.program ∙ c.requires.idle;
      ok = λ file s parties wants few. done_call k a b h.lanes c.args.call file s parties wants few c.call.result h.ok h.taken h.takes;
      err = λ file s parties. refused_call k a b h.lanes file s c.call.result h.err;
      taken = h.taken;
      takes = h.takes;
      tells = tells_taken a b c.args.call c.call.result h.ok h.taken;
      stays = h.err;
      counts = counted_alone k a b h.lanes h.stop;
      stop = h.stop;
      waits = λ is. held_up_so a.node b.node c.args.call (err_stays c.call.result halts.Waits is h.err) halts.Waits (h.waits is);
      at_limit = λ is. held_up_so a.node b.node c.args.call (err_stays c.call.result halts.AtLimit is h.err) halts.AtLimit (h.at_limit is);
      unfit = λ is. no_row_so a.node b.node c.args.call (err_stays c.call.result halts.Unfit is h.err) (h.unfit is);
      ended = h.ended;
    }
