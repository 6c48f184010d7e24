use Rattle.std.proofs.Common.{◌≡◌, ◌∙◌, List, length, map, ap, refl, sym, subst, arith}
use Rattle.std.specs.Prelude.{reverse}
use Rattle.std.proofs.Math.ListN.{set}
use Rattle.std.proofs.lemmas.List.{length-set}
use Rattle.std.proofs.lemmas.Option.{slice_get_read}
use Rattle.sj_end.specs.declared.note.Line.{Line}
use Rattle.sj_rules.specs.Log.{IsJoined}
use Rattle.sj_core.specs.Views.{entry_at, line_at}
use Rattle.sj_core.specs.Given.{given_log}
use Rattle.sj_core.specs.Tails.{first_clock, last_clocks}
use Rattle.sj_core.proofs.GivenLemmas.{giving_begins, giving_ends}
use Rattle.sj_core.proofs.LastLemmas.{clocks_set, counted, given_next, last_within, length-last_clocks}
use Rattle.sj_core.proofs.joins.join_logs.Goals as goal

pub loop-party-init : goal.loop-party-init
loop-party-init c =
    let none = c.in_ok-lines.ensures.items in
    let room = c.in_ok-lines.ensures.room in
    record {
      giving = rw none (giving_begins (given_log c.args.logs.items) c.requires.order);
      clocks = c.in_ok-clocks.ensures ∙ ap last_clocks c.deref-2.ensures.value;
      room = let same = c.deref.ensures.value in rw (none, sym same) (omega (arith, room));
      few = c.requires.parties;
    }

pub last_party-requires : goal.last_party-requires
last_party-requires c =
    let same : c.deref-in-loop-party.result.now ≡ last_clocks c.loop-party.left.items = c.deref-in-loop-party.ensures.value ∙ c.loop-party.invariant.clocks in
    omega (arith, ap length same, length-last_clocks c.loop-party.left.items, c.loop-party.invariant.few)

pub push_reserved-requires : goal.push_reserved-requires
push_reserved-requires c =
    let left = c.loop-party.left.items in
    let last = c.in-Some.ensures.some left (c.deref-in-loop-party.ensures.value ∙ c.loop-party.invariant.clocks) in
    let there = slice_get_read left (length left) c.in-Some.party c.index_mut-log.result.now refl (last_within left c.in-Some.party last) c.index_mut-log.ensures.value in
    let fewer = counted left c.in-Some.party last c.index_mut-log.result.now there c.in-Some-take_last.entry c.take_last.new.log c.in-Some-take_last.ensures.some in
    let room = c.loop-party.invariant.room in
    let same = c.loop-party.lines.ok in
    omega (arith, fewer, room, same)

pub loop-party-smaller : goal.loop-party-smaller
loop-party-smaller c =
    let left = c.loop-party.left.items in
    let last = c.in-Some.ensures.some left (c.deref-in-loop-party.ensures.value ∙ c.loop-party.invariant.clocks) in
    let there = slice_get_read left (length left) c.in-Some.party c.index_mut-log.result.now refl (last_within left c.in-Some.party last) c.index_mut-log.ensures.value in
    let fewer = counted left c.in-Some.party last c.index_mut-log.result.now there c.in-Some-take_last.entry c.take_last.new.log c.in-Some-take_last.ensures.some in
    omega (arith, fewer)

pub loop-party-preserved : goal.loop-party-preserved
loop-party-preserved c =
    let kept = c.loop-party.invariant in
    let left = c.loop-party.left.items in
    let last = c.in-Some.ensures.some left (c.deref-in-loop-party.ensures.value ∙ c.loop-party.invariant.clocks) in
    let there = slice_get_read left (length left) c.in-Some.party c.index_mut-log.result.now refl (last_within left c.in-Some.party last) c.index_mut-log.ensures.value in
    let fewer = counted left c.in-Some.party last c.index_mut-log.result.now there c.in-Some-take_last.entry c.take_last.new.log c.in-Some-take_last.ensures.some in
    record {
      giving = rw c.push_reserved.ensures.items
          (given_next left c.in-Some.party last c.index_mut-log.result.now there c.in-Some-take_last.entry c.take_last.new.log c.in-Some-take_last.ensures.some
          (given_log c.args.logs.items) c.loop-party.lines.items kept.giving);
      clocks = ap (λ o. set c.loop-party.clocks.items c.in-Some.party o) (c.last_clock.ensures ∙ ap (λ es. first_clock (reverse (map entry_at es))) c.deref-in-Some.ensures.value)
          ∙ ap (λ cs. set cs c.in-Some.party (first_clock (reverse (map entry_at c.take_last.new.log.items)))) kept.clocks
          ∙ sym (clocks_set left c.in-Some.party c.take_last.new.log);
      room = let same = c.loop-party.lines.ok in let now = c.push_reserved.new.self.ok in omega (arith, fewer, same, now, kept.room, c.push_reserved.ensures.len, c.push_reserved.ensures.capacity);
      few = let same = length-set left c.in-Some.party c.take_last.new.log in omega (arith, same, kept.few);
    }

pub returns : goal.returns
returns c =
    subst (λ (ls : List Line). IsJoined (given_log c.args.logs.items) (map line_at ls)) (sym c.reverse.ensures.items)
    (giving_ends (given_log c.args.logs.items) (given_log c.loop-party.left.items) (map line_at (reverse c.loop-party.lines.items)) c.loop-party.invariant.giving
    (c.in_default.ensures.none c.loop-party.left.items (c.deref-in-loop-party.ensures.value ∙ c.loop-party.invariant.clocks)))
