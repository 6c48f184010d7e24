use Rattle.std.proofs.Common.{◌∙◌, List, arith, subst, sym}
use Rattle.sj_acceptance.specs.Accepted.{IsAccepted}
use Rattle.sj_acceptance_laws.proofs.FileLaws.{accepted_from}
use Rattle.sj_check.specs.Held.{file_in}
use Rattle.sj_check.specs.declared.accepted.Accepted.{Accepted}
use Rattle.sj_core.proofs.EndLemmas.{kept_history, quiet_ends}
use Rattle.sj_core.specs.World.{history_of, kept_file, party_count, world_at}
use Rattle.sj_lang.specs.FileView.{file_of}
use Rattle.sj_rules.specs.Log.{LineAt}
use Rattle.sj_run.specs.Workers.{AreLoggedOver}
use Rattle.uses.proofs.RunLemmas.{drains, few_are, first_are, many_seen, quiet_kept}
use Rattle.uses.proofs.runs.run_file.Goals as goal

-- the file of an accepted one keeps the static rules
is_accepted : (a : Accepted) → IsAccepted (file_of (file_in a))
is_accepted a = accepted_from (file_of (file_in a)) a.within a.accepted

pub returns-clause-history : goal.returns-clause-history
returns-clause-history g c =
    let d = c.drain.new.self in
    kept_history (file_of (file_in c.args.accepted.now)) (kept_file d) (history_of d) (world_at d) (c.drain.ensures.kept ∙ c.in_ok-world.ensures.kept) c.drain.ensures.run

pub returns-clause-quiet : goal.returns-clause-quiet
returns-clause-quiet g c =
    let d = c.drain.new.self in
    quiet_kept (file_of (file_in c.args.accepted.now)) (kept_file d) (party_count d) (world_at d) (c.drain.ensures.kept ∙ c.in_ok-world.ensures.kept) c.drain.ensures.parties c.in_ok-drain.ensures.quiet

pub returns-clause-end : goal.returns-clause-end
returns-clause-end g c =
    let d = c.drain.new.self in
    let file = file_of (file_in c.args.accepted.now) in
    let kept = c.drain.ensures.kept ∙ c.in_ok-world.ensures.kept in
    quiet_ends file (is_accepted c.args.accepted.now) (history_of d) (world_at d)
    (kept_history file (kept_file d) (history_of d) (world_at d) kept c.drain.ensures.run)
    (quiet_kept file (kept_file d) (party_count d) (world_at d) kept c.drain.ensures.parties c.in_ok-drain.ensures.quiet)

pub returns-clause-counts : goal.returns-clause-counts
returns-clause-counts g c =
    let d = c.drain.new.self in
    let by = c.in_ok-drain.ensures.drained in
    let few = few_are c.history-by_links.result.now (history_of c.in_ok-world.world) (history_of d) by.lines c.history-by_links.ensures by.listed in
    let all = many_seen c.history-in_all.result.now (history_of d) c.history-in_all.ensures in
    omega (arith, few, all)

pub returns-clause-logged : goal.returns-clause-logged
returns-clause-logged g c =
    let by = c.in_ok-drain.ensures.drained in
    subst (λ (xs : List LineAt). AreLoggedOver g.L.Out.OutLane g.L.In.InLane g.L.Links.joined (file_of (file_in c.args.accepted.now)) 1000 (g.L.Links.tells c.args.links.now) xs)
    (sym (first_are c.history-by_links.result.now (history_of c.in_ok-world.world) (history_of c.drain.new.self) by.lines c.history-by_links.ensures by.listed)) c.in_ok-world.ensures.logged

pub returns-clause-drained : goal.returns-clause-drained
returns-clause-drained g c =
    let w = c.in_ok-world.world in
    let d = c.drain.new.self in
    let by = c.in_ok-drain.ensures.drained in
    drains c.history-by_links.result.now (history_of w) (history_of d) by.lines c.history-by_links.ensures by.listed (file_of (file_in c.args.accepted.now)) (kept_file w) (party_count w) (world_at w) (world_at d)
    c.in_ok-world.ensures.kept c.in_ok-world.ensures.parties c.in_ok-world.ensures.run by.by
