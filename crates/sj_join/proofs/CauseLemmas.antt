-- Replies of another shape.
use Rattle.std.proofs.Common.{◌≡◌, ℕ, List, Option, inr, sym, ◌∙◌}
use Rattle.sj_remote.specs.Conn.{Replied}
use Rattle.sj_remote.specs.declared.conn.Conn.{Conn}
use Rattle.sj_remote.specs.declared.talk_refusal.TalkRefusal.TheVariants as talks
use Rattle.sj_resp.specs.Token.{TokenAt}
use Rattle.sj_streams.specs.Reading.{Read, Good, Bad, Fails}
use Rattle.sj_streams.specs.declared.misread.Misread.{Misread}
use Rattle.sj_streams.specs.declared.misread.Misread.TheVariants as misreads
use Rattle.sj_join.specs.Causes.{IsNone, IsUnanswered}
use Rattle.sj_join.specs.Refusals.{refusal_of_misread}
use Rattle.sj_join.specs.declared.refusal.JoinRefusal.{JoinRefusal}
use Rattle.sj_join.specs.declared.refusal.JoinRefusal.TheVariants as joins

bad_is_none : {A : Type 0} (read : Read A) (e : Misread) → read ≡ Bad e → IsNone read
bad_is_none read e bad x rest good = let both : Bad e ≡ Good x rest = sym bad ∙ good in cc

-- a reply came that has nothing of the form that was asked for
module _ {S K A : Type 0} (left : S → Option (List ℕ)) (faults : S → ℕ) (has_ended : S → Type 0) (unwritten : K → ℕ) (Says : JoinRefusal → List TokenAt → Type 0)
    (old new : Conn S K) (tokens : List TokenAt) (replied : Replied left old new tokens) (read : Read A) (says : IsNone read → Says (joins.Talk talks.NoReply) tokens) where
  none_came : (e : Misread) → read ≡ Bad e → IsUnanswered left faults has_ended unwritten old new Says (joins.Talk talks.NoReply)
  none_came e bad = inr (record { tokens = tokens; replied = replied; means = says (bad_is_none read e bad) })

  pub misread_is_none : (e : Misread) → Fails e read → IsUnanswered left faults has_ended unwritten old new Says (refusal_of_misread e)
  misread_is_none misreads.NoMemory fails = tt
  misread_is_none misreads.Shape fails = none_came misreads.Shape fails
  misread_is_none misreads.Key fails = none_came misreads.Key fails
  misread_is_none misreads.Gap fails = none_came misreads.Gap fails
