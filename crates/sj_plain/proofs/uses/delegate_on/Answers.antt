use Rattle.std.proofs.Common.{◌∙◌, ap, arith}
use Rattle.sj_semantics.specs.Ends.{end_at}
use Rattle.sj_semantics.specs.Uses.{altered_list, delegates, end_after, on_side, sends}
use Rattle.sj_semantics.specs.World.{session_message}
use Rattle.sj_plain.specs.Stepping.{reached, sessions_at}
use Rattle.sj_plain.proofs.ReachLemmas.{altered_both, end_at-reached, still_there, taken_back}
use Rattle.sj_plain.proofs.UseLemmas.{handed_first, hops_alike, hops_stay}
use Rattle.sj_plain.proofs.uses.delegate_on.Goals as goal

pub returns-in-Err-clause-err : goal.returns-in-Err-clause-err
returns-in-Err-clause-err c =
    taken_back c.args.table.now c.args.sessions.now.items c.reach_both.new.sessions.items c.send_there.new.sessions.items c.truncate.new.self.items c.len-before.result (omega (arith, c.len-before.ensures)) c.truncate.ensures.items
    c.in_ok-reach_both.ensures.front c.in-Err.ensures.err

pub hand_on-requires-clause-there : goal.hand_on-requires-clause-there
hand_on-requires-clause-there c =
    still_there c.args.table.now c.reach_both.new.sessions.items c.send_there.new.sessions.items c.args.carrier.sess c.args.end.sess (on_side c.args.carrier.side (end_after c.args.party (sends (session_message c.args.end c.args.party)))) c.in_default.ensures.ok c.in_ok-reach_both.ensures.first

pub hand_on-requires-clause-few : goal.hand_on-requires-clause-few
hand_on-requires-clause-few c = λ t.
    omega (
      arith,
      hops_alike t c.args.table.now c.send_there.new.sessions.items c.args.end,
      c.requires,
      ap (λ zs. (end_at zs c.args.end).hops) c.in_default.ensures.ok,
      hops_stay c.args.party c.args.carrier c.args.end (session_message c.args.end c.args.party) (sessions_at c.args.table.now c.reach_both.new.sessions.items),
      ap (λ zs. (end_at zs c.args.end).hops) c.in_ok-reach_both.ensures.ok,
      ap (λ t. t.hops) (end_at-reached (reached (sessions_at c.args.table.now c.args.sessions.now.items) c.args.end.sess) c.args.carrier.sess c.args.end),
      ap (λ t. t.hops) (end_at-reached (sessions_at c.args.table.now c.args.sessions.now.items) c.args.end.sess c.args.end),
    )

pub returns-clause-ok : goal.returns-clause-ok
returns-clause-ok c =
    let carrier = on_side c.args.carrier.side (end_after c.args.party (sends (session_message c.args.end c.args.party))) in
    let end = on_side c.args.end.side (end_after c.args.party delegates) in
    c.hand_on.ensures c.args.table.now c.args.party
    ∙ ap (λ zs. altered_list zs c.args.end.sess end) c.in_default.ensures.ok
    ∙ handed_first c.args.party c.args.carrier c.args.end (session_message c.args.end c.args.party) (sessions_at c.args.table.now c.reach_both.new.sessions.items)
    ∙ ap (λ zs. altered_list (altered_list zs c.args.end.sess end) c.args.carrier.sess carrier) c.in_ok-reach_both.ensures.ok
    ∙ altered_both (sessions_at c.args.table.now c.args.sessions.now.items) c.args.end.sess c.args.carrier.sess end carrier
