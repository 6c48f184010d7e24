use Rattle.std.proofs.Common.{refl, sym, ◌∙◌}
use Rattle.sj_resp.specs.Front.{front_of}
use Rattle.sj_remote.proofs.ReplyLemmas.{err_is, never_lost, no_reply_cause}
use Rattle.sj_remote.proofs.conn.Conn.gather.Goals as goal

pub returns-in-Err : goal.returns-in-Err
returns-in-Err g c = record {
  took = c.in-Err.ensures.took;
  whole = tt;
  no_reply = λ is. no_reply_cause c.in-Err.e (front_of c.gather.new.decoder) c.in-Err.ensures.refused (sym c.refusal_for.ensures ∙ err_is is);
  lost = λ is. never_lost c.in-Err.e (sym c.refusal_for.ensures ∙ err_is is);
  short = c.in-Err.ensures.short;
  source = refl;
  sink = refl;
}
