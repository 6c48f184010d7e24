use Rattle.std.proofs.Common.{ℕ, subst, sym}
use Rattle.sj_check.specs.Held.{file_in}
use Rattle.sj_core.specs.World.{history_of, kept_file, party_count, world_at}
use Rattle.sj_lang.specs.FileView.{file_of}
use Rattle.sj_run.specs.Shown.{IsShown, keeps_of}
use Rattle.sj_run.specs.Workers.{AreLoggedOver}
use Rattle.sj_run.proofs.OverLemmas.{logged_so}
use Rattle.sj_tool.proofs.DrainedLemmas.{drained_ran}
use Rattle.sj_tool.proofs.runs.drain_world.Goals as goal

pub returns-clause-over : goal.returns-clause-over
returns-clause-over g c task log runs looks =
    let first = c.in-Ok.world in
    let last = c.drain.new.self in
    let begins = c.in-Ok.ensures in
    let d = c.in_ok-drain.ensures in
    record {
      has =
          drained_ran (file_of (file_in c.args.accepted.now)) (kept_file first) (kept_file last) begins.kept c.drain.ensures.kept (party_count first) (party_count last) (world_at first) (world_at last)
          (history_of first) d.drained.lines (history_of last) _ task runs log begins.parties c.drain.ensures.parties d.drained.listed begins.run
          (logged_so g.L.Out.OutLane g.L.In.InLane g.L.Links.joined (file_of (file_in c.args.accepted.now)) c.args.looks (g.L.Links.tells c.args.links.now) (history_of first) begins.logged)
          (λ tells. subst (λ (n : ℕ). IsShown (file_of (file_in c.args.accepted.now)) n (keeps_of g.L.Links.sent g.L.Links.got g.L.Links.vain_out g.L.Links.vain_in c.run_parties.new.links) (history_of first) (world_at first)) (sym looks) (begins.shown tells))
          c.drain.ensures.run d.drained.by d.quiet;
      logged =
          subst (λ (n : ℕ). AreLoggedOver g.L.Out.OutLane g.L.In.InLane g.L.Links.joined (file_of (file_in c.args.accepted.now)) n (g.L.Links.tells c.args.links.now) (history_of first)) (sym looks) begins.logged;
    }
