use Rattle.std.proofs.Common.{sym, subst}
use Rattle.sj_streams.specs.Answers.{number_at}
use Rattle.sj_streams.specs.Words.{tokens_at}
use Rattle.sj_join.proofs.CauseLemmas.{misread_is_none}
use Rattle.sj_join.specs.Causes.{IsNoCount, IsUnanswered}
use Rattle.sj_join.proofs.talk.drop_run.Goals as goal

pub returns-clause-refused : goal.returns-clause-refused
returns-clause-refused g c =
    subst (IsUnanswered g.S.Source.left g.S.Source.faults g.S.Source.has_ended g.K.Sink.faults c.args.conn.now c.ask.new.conn IsNoCount) (sym c.misread_means.ensures)
    (misread_is_none g.S.Source.left g.S.Source.faults g.S.Source.has_ended g.K.Sink.faults IsNoCount c.args.conn.now c.ask.new.conn
    (tokens_at c.in_ok-tokens.tokens.items) c.in_ok-tokens.ensures.replied (number_at (tokens_at c.in_ok-tokens.tokens.items)) (λ none. (c.in_ok-tokens.ensures.well, none)) c.in-Err.e c.in-Err.ensures)
