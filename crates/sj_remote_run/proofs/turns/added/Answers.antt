use Rattle.std.proofs.Common.{[], ◌∷◌, sym, subst}
use Rattle.sj_resp.specs.Token.{Bulk}
use Rattle.sj_remote_run.specs.Refused.{IsNotAdded, IsUnanswered}
use Rattle.sj_remote_run.proofs.RefusedLemmas.{not_added}
use Rattle.sj_remote_run.proofs.TalkedLemmas.{name_whole, talked_one, talks_none}
use Rattle.sj_remote_run.proofs.turns.added.Goals as goal

pub returns-then-is_empty-clause-talked : goal.returns-then-is_empty-clause-talked
returns-then-is_empty-clause-talked g c = talks_none g.S.Source.left g.S.Source.faults g.K.Sink.faults c.args.conn.now

pub returns-in-Ok-clause-talked : goal.returns-in-Ok-clause-talked
returns-in-Ok-clause-talked g c =
    let named = c.in-Ok.ensures.ok in (
      1,
      talked_one g.S.Source.left g.S.Source.faults g.K.Sink.faults c.args.conn.now c.added.new.self (Bulk named.0 ∷ []) named.1 (name_whole named.0)
          c.in-Ok.ensures.later c.in-Ok.ensures.sink,
    )

pub returns-in-Err-clause-refused : goal.returns-in-Err-clause-refused
returns-in-Err-clause-refused g c =
    subst (IsUnanswered g.S.Source.left g.S.Source.faults g.S.Source.has_ended g.K.Sink.faults c.args.conn.now c.added.new.self IsNotAdded) (sym c.talk_means.ensures)
    (not_added g.S.Source.left g.S.Source.faults g.S.Source.has_ended g.K.Sink.faults c.args.conn.now c.added.new.self c.in-Err.e c.in-Err.ensures.refused)
