use Rattle.std.proofs.Common.{sym, subst}
use Rattle.sj_streams.specs.Answers.{well_at}
use Rattle.sj_streams.specs.Words.{tokens_at}
use Rattle.sj_join.proofs.CauseLemmas.{misread_is_none}
use Rattle.sj_join.specs.Causes.{IsNoEntry, IsUnanswered}
use Rattle.sj_join.proofs.talk.sign_in.Goals as goal

pub returns-clause-refused : goal.returns-clause-refused
returns-clause-refused g c =
    subst (IsUnanswered g.S.Source.left g.S.Source.faults g.S.Source.has_ended g.K.Sink.faults c.args.conn.now c.ask.new.conn IsNoEntry) (sym c.misread_means.ensures)
    (misread_is_none g.S.Source.left g.S.Source.faults g.S.Source.has_ended g.K.Sink.faults IsNoEntry c.args.conn.now c.ask.new.conn
    (tokens_at c.in-Ok.tokens.items) c.in-Ok.ensures.replied (well_at (tokens_at c.in-Ok.tokens.items)) (λ none. (c.in-Ok.ensures.well, none)) c.in-Err-read_well.e c.in-Err-read_well.ensures)
