use Rattle.std.proofs.Common.{◌≡◌, map, rules}
use Rattle.sj_node.specs.Reading.{party_of}
use Rattle.sj_streams.specs.Views.{came_view}
use Rattle.sj_remote_run.specs.Asked.{IsUntaken}
use Rattle.sj_remote_run.specs.Turns.{node_in}
use Rattle.sj_remote_run.proofs.CauseLemmas.{err_as, inside_untaken, own_at}
use Rattle.sj_remote_run.proofs.turns.take_all.Goals as goal

pub returns-in_err-name-clause-refused : goal.returns-in_err-name-clause-refused
returns-in_err-name-clause-refused c =
    let party = party_of (node_in c.args.player.now) in
    let all = map came_view c.args.all.now in
    let e = c.in_err-name.field-0.0 in
    err_as _ e (IsUntaken party all) c.from_residual.ensures.1 (inside_untaken party all e c.in_err-name.ensures.refused)

pub returns-then-own-clause-refused : goal.returns-then-own-clause-refused
returns-then-own-clause-refused c =
    let party = party_of (node_in c.args.player.now) in
    let own : c.one-item.result.stream ≡ party = search rules in
    own_at party c.args.all.now c.loop-one.one-index c.one-item.result c.loop-one-test.true c.one-item.is own

pub returns-in_err-take_frames-clause-refused : goal.returns-in_err-take_frames-clause-refused
returns-in_err-take_frames-clause-refused c =
    let party = party_of (node_in c.args.player.now) in
    let all = map came_view c.args.all.now in
    let e = c.in_err-take_frames.field-0.0 in
    err_as _ e (IsUntaken party all) c.from_residual-in_err-take_frames.ensures.1 (inside_untaken party all e c.in_err-take_frames.ensures.refused)
