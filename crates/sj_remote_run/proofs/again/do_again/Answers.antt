use Rattle.std.proofs.Common.{◌≡◌, ◌<◌, ◌∙◌, ℕ, length, map, rules, subst}
use Rattle.sj_engine.specs.Lanes.{pushed_on}
use Rattle.sj_remote_run.proofs.PostLemmas.{are_frames, clear_none, waits_entry, written_clear}
use Rattle.sj_remote_run.proofs.again.do_again.Goals as goal

pub returns-clause-again : goal.returns-clause-again
returns-clause-again c =
    let went = c.in_ok-redo_lines.ensures.went in
    record {
      node = c.redo_lines.new.node;
      went = went.went;
      posts = map pushed_on c.redo_lines.new.lanes.outs.items;
      spelt = search rules;
      taken = c.take_log-entries.ensures.rest;
      empty = c.take_log-entries.ensures.none;
      frames = are_frames c.args.lanes.now.outs.items c.redo_lines.new.lanes.outs.items c.args.node.now c.redo_lines.new.node went.went.steps c.requires went.posts c.in_ok-redo_lines.ensures.out went.went.parties;
    }

pub returns-clause-none : goal.returns-clause-none
returns-clause-none c =
    let out = c.in_ok-redo_lines.ensures.out in
    let taken = c.take_log-entries.ensures.rest in
    let long : length c.clear.new.outs ≡ c.redo_lines.new.lanes.outs.len = search rules in
    clear_none _ c.take_log-entries.new.self (written_clear c.redo_lines.new.lanes.outs.len c.clear.new.outs _ long c.clear.ensures.clear)
    (λ q less. waits_entry c.redo_lines.new.node c.take_log-entries.new.self taken q ∙ out.none q (subst (λ (k : ℕ). q < k) taken.parties less))
