use Rattle.std.proofs.Common.{◌∙◌, arith, subst}
use Rattle.sj_check.specs.Held.{file_in as held}
use Rattle.sj_lang.specs.FileAt.{FileAt}
use Rattle.sj_lang.specs.FileView.{file_of}
use Rattle.sj_plain.specs.Plain.{acts_of, world_at}
use Rattle.sj_plain.specs.SharedFile.{without_words}
use Rattle.sj_semantics.specs.Run.{IsRun}
use Rattle.sj_semantics.specs.World.{start_of}
use Rattle.sj_join.proofs.ActedLemmas.{acts_all, acts_next, stuck}
use Rattle.sj_join.proofs.now.acted.Goals as goal

pub loop-line-preserved : goal.loop-line-preserved
loop-line-preserved c = record {
  kept = c.act_again.ensures.kept ∙ c.loop-line.invariant.kept;
  run = c.act_again.ensures.run;
  acts =
      acts_next c.args.lines.now c.loop-line.line-index _ c.loop-line-test.true (acts_of c.loop-line.plain) (acts_of c.act_again.new.plain) c.loop-line.invariant.acts
      (c.in_ok-act_again.ensures.acts c.if-not-branch.false);
}

pub returns-clause-acts : goal.returns-clause-acts
returns-clause-acts c = acts_all c.args.lines.now c.loop-line.line-index (omega (arith, c.loop-line-test.false)) (acts_of c.loop-line.plain) c.loop-line.invariant.acts

pub returns-then-not-branch-clause-none : goal.returns-then-not-branch-clause-none
returns-then-not-branch-clause-none c = λ none w all.
    let file = without_words (file_of (held c.args.accepted.now)) in
    let plain = c.loop-line.plain in
    let before = c.loop-line.invariant in
    stuck (start_of file) (world_at plain) w c.args.lines.now c.loop-line.line-index _ (acts_of plain) c.loop-line-test.true
    (subst (λ (f : FileAt). IsRun f (acts_of plain) (world_at plain)) before.kept before.run) before.acts (c.in_ok-act_again.ensures.none c.if-not-branch.true) all
