use Rattle.std.proofs.Common.{◌≡◌, map, true}
use Rattle.sj_join.proofs.RangeLemmas.{next_text, up_to_next}
use Rattle.sj_join.specs.Texts.{has_all, text_by}
use Rattle.sj_streams.specs.Views.{came_view}
use Rattle.sj_join.proofs.texts.texts_of.Goals as goal

pub loop-party-preserved : goal.loop-party-preserved
loop-party-preserved c = record {
  texts =
      next_text (text_by (map came_view c.args.came.now)) c.loop-party.party c.loop-party.texts.items c.push.new.self.items c.in_ok-text_of.field-0
      c.loop-party.invariant.texts c.in_ok-text_of.ensures.lines c.in_ok-push.ensures.items;
  all = up_to_next (λ p. has_all (map came_view c.args.came.now) p ≡ true) c.loop-party.party c.loop-party.invariant.all c.in_ok-text_of.ensures.all;
}
