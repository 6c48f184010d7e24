use Rattle.std.proofs.Common.{◌≡◌, ◌<◌, arith, length, refl, subst, sym}
use Rattle.sj_lane.specs.declared.lane.Lanes.{Lanes}
use Rattle.sj_lane.proofs.EachLemmas.{each2_length, each2_refl}
use Rattle.sj_socket.specs.Kept.{LanesKept}
use Rattle.sj_socket.specs.Own.{own_all}
use Rattle.sj_socket.specs.Streams.{TcpIn, TcpOut}
use Rattle.sj_socket.proofs.KeptLemmas.{lanes_itself, party_put}
use Rattle.sj_socket.proofs.OwnLemmas.{all_put, moved_more}
use Rattle.sj_socket.proofs.carries.carry_all.Goals as goal

pub loop-party-init : goal.loop-party-init
loop-party-init c = record { kept = each2_refl LanesKept lanes_itself c.args.lanes.now; own = λ p. refl; moved = λ p lt. absurd (omega (arith, lt)) }

pub bounds-lanes-party : goal.bounds-lanes-party
bounds-lanes-party c =
    let n = each2_length LanesKept c.args.lanes.now c.loop-party.lanes c.loop-party.invariant.kept in let lt = c.loop-party-test.true in
    omega (arith, n, lt)

pub loop-party-preserved : goal.loop-party-preserved
loop-party-preserved c =
    let kept = c.loop-party.invariant.kept in
    let n = each2_length LanesKept c.args.lanes.now c.loop-party.lanes kept in let go = c.loop-party-test.true in
    let lt : c.loop-party.party < length c.loop-party.lanes = omega (arith, n, go) in
    let is = c.index-lanes-party.is in
    record {
      kept = party_put c.args.lanes.now c.loop-party.lanes c.loop-party.party c.index-lanes-party.result c.carry_from.new.own kept lt is
          (subst (λ (l : Lanes TcpOut TcpIn). LanesKept l c.carry_from.new.own) (sym is) c.carry_from.ensures.kept);
      own = all_put c.args.lanes.now c.loop-party.lanes c.loop-party.party c.index-lanes-party.result c.carry_from.new.own lt is
          (subst (λ (l : Lanes TcpOut TcpIn). own_all c.carry_from.new.own c.loop-party.party ≡ own_all l c.loop-party.party) (sym is) c.carry_from.ensures.own)
          c.loop-party.invariant.own;
      moved = moved_more c.loop-party.lanes c.loop-party.party c.carry_from.new.own lt c.in_ok-carry_from.ensures.moved c.loop-party.invariant.moved;
    }

pub returns-in_err-carry_from-clause-kept : goal.returns-in_err-carry_from-clause-kept
returns-in_err-carry_from-clause-kept c =
    let kept = c.loop-party.invariant.kept in
    let n = each2_length LanesKept c.args.lanes.now c.loop-party.lanes kept in let go = c.loop-party-test.true in
    party_put c.args.lanes.now c.loop-party.lanes c.loop-party.party c.index-lanes-party.result c.carry_from.new.own kept (omega (arith, n, go)) c.index-lanes-party.is
    (subst (λ (l : Lanes TcpOut TcpIn). LanesKept l c.carry_from.new.own) (sym c.index-lanes-party.is) c.carry_from.ensures.kept)

pub returns-in_err-carry_from-clause-own : goal.returns-in_err-carry_from-clause-own
returns-in_err-carry_from-clause-own c =
    let n = each2_length LanesKept c.args.lanes.now c.loop-party.lanes c.loop-party.invariant.kept in let go = c.loop-party-test.true in
    all_put c.args.lanes.now c.loop-party.lanes c.loop-party.party c.index-lanes-party.result c.carry_from.new.own (omega (arith, n, go)) c.index-lanes-party.is
    (subst (λ (l : Lanes TcpOut TcpIn). own_all c.carry_from.new.own c.loop-party.party ≡ own_all l c.loop-party.party) (sym c.index-lanes-party.is) c.carry_from.ensures.own)
    c.loop-party.invariant.own
