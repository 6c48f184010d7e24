-- Replies that refuse what was asked.
use Rattle.std.proofs.Common.{◌≡◌, ℕ, List, Option, inl, inr, sym, ◌∙◌}
use Rattle.sj_remote.specs.Conn.{Replied}
use Rattle.sj_remote.specs.Talks.{Heard, IsNoAdd, IsNoRead, IsUnmet}
use Rattle.sj_remote.specs.declared.conn.Conn.{Conn}
use Rattle.sj_remote.specs.declared.talk_refusal.TalkRefusal.{TalkRefusal}
use Rattle.sj_remote.specs.declared.talk_refusal.TalkRefusal.TheVariants as talks
use Rattle.sj_resp.specs.Token.{TokenAt}
use Rattle.sj_streams.specs.Gathering.{IsReply}
use Rattle.sj_streams.specs.Reading.{Read, Good, Bad, Fails}
use Rattle.sj_streams.specs.declared.answers.Refusal.{Refusal}
use Rattle.sj_streams.specs.declared.answers.Refusal.TheVariants as refusals
use Rattle.sj_streams.specs.declared.misread.Misread.{Misread}
use Rattle.sj_streams.specs.declared.misread.Misread.TheVariants as misreads
use Rattle.sj_remote_run.specs.Causes.{misread_means, password_means, refusal_means, talk_means}
use Rattle.sj_remote_run.specs.Refused.{IsError, IsErrorFor, IsNoEntry, IsNoFile, IsNoShare, IsNone, IsNotAdded, IsNotRead, IsUnanswered}
use Rattle.sj_remote_run.specs.declared.refusal.PlayRefusal.{PlayRefusal}
use Rattle.sj_remote_run.specs.declared.refusal.PlayRefusal.TheVariants as plays

bad_is_none : {A : Type 0} (read : Read A) (e : Misread) → read ≡ Bad e → IsNone read
bad_is_none read e bad x rest good = let both : Bad e ≡ Good x rest = sym bad ∙ good in cc

module _ {S K : Type 0} (left : S → Option (List ℕ)) (faults : S → ℕ) (has_ended : S → Type 0) (unwritten : K → ℕ) (Says : PlayRefusal → List TokenAt → Type 0)
    (old new : Conn S K) (tokens : List TokenAt) (replied : Replied left old new tokens) (whole : IsReply tokens) where
  heard : (e : PlayRefusal) → Says e tokens → Heard left old new (Says e)
  heard e means = record { tokens = tokens; replied = replied; whole = whole; means = means }

  -- it has nothing of the form that was asked for
  module _ {A : Type 0} (read : Read A) (says : IsNone read → Says plays.NoReply tokens) where
    none_came : (e : Misread) → read ≡ Bad e → IsUnanswered left faults has_ended unwritten old new Says plays.NoReply
    none_came e bad = inr (heard plays.NoReply (says (bad_is_none read e bad)))

    pub misread_is_none : (e : Misread) → Fails e read → IsUnanswered left faults has_ended unwritten old new Says (misread_means e)
    misread_is_none misreads.NoMemory fails = tt
    misread_is_none misreads.Shape fails = none_came misreads.Shape fails
    misread_is_none misreads.Key fails = none_came misreads.Key fails
    misread_is_none misreads.Gap fails = none_came misreads.Gap fails

  -- it is an error
  pub error_came : (says : (e : PlayRefusal) → IsErrorFor e tokens → Says e tokens) → (r : Refusal) → IsError r tokens → IsUnanswered left faults has_ended unwritten old new Says (refusal_means r)
  error_came says refusals.Late is = heard plays.Overtaken (says plays.Overtaken is)
  error_came says refusals.Password is = heard plays.Password (says plays.Password is)
  error_came says refusals.Full is = heard plays.Server (says plays.Server (inl is))
  error_came says refusals.Away is = heard plays.NoServer (says plays.NoServer is)
  error_came says refusals.Other is = heard plays.Server (says plays.Server (inr is))

-- it is an error to a password
module _ {S K : Type 0} (left : S → Option (List ℕ)) (faults : S → ℕ) (has_ended : S → Type 0) (unwritten : K → ℕ)
    (old new : Conn S K) (tokens : List TokenAt) (replied : Replied left old new tokens) (whole : IsReply tokens) where
  other : (r : Refusal) → IsError r tokens → (r ≡ refusals.Away → ⊥) → Heard left old new (IsNoEntry plays.Password)
  other r is not_away = record { tokens = tokens; replied = replied; whole = whole; means = (r, is, not_away) }

  pub no_entry : (r : Refusal) → IsError r tokens → IsUnanswered left faults has_ended unwritten old new IsNoEntry (password_means r)
  no_entry refusals.Late is = other refusals.Late is (λ same. absurd cc)
  no_entry refusals.Password is = other refusals.Password is (λ same. absurd cc)
  no_entry refusals.Full is = other refusals.Full is (λ same. absurd cc)
  no_entry refusals.Away is = record { tokens = tokens; replied = replied; whole = whole; means = is }
  no_entry refusals.Other is = other refusals.Other is (λ same. absurd cc)

-- an error says so to the file, and to the question for it
pub share_error : (tokens : List TokenAt) (e : PlayRefusal) → IsErrorFor e tokens → IsNoShare e tokens
share_error tokens plays.NoServer is = is
share_error tokens plays.Password is = is
share_error tokens plays.OtherFile is = is
share_error tokens plays.Overtaken is = is
share_error tokens plays.Server is = is
share_error tokens plays.NoReply is = absurd is
share_error tokens plays.NoFrame is = is
share_error tokens plays.Unfit is = is
share_error tokens plays.LogFault is = is
share_error tokens plays.TooLong is = is
share_error tokens plays.Lost is = is
share_error tokens plays.NoMemory is = is

pub file_error : (text : List ℕ) (tokens : List TokenAt) (e : PlayRefusal) → IsErrorFor e tokens → IsNoFile text e tokens
file_error text tokens plays.NoServer is = is
file_error text tokens plays.Password is = is
file_error text tokens plays.OtherFile is = absurd is
file_error text tokens plays.Overtaken is = is
file_error text tokens plays.Server is = is
file_error text tokens plays.NoReply is = absurd is
file_error text tokens plays.NoFrame is = is
file_error text tokens plays.Unfit is = is
file_error text tokens plays.LogFault is = is
file_error text tokens plays.TooLong is = is
file_error text tokens plays.Lost is = is
file_error text tokens plays.NoMemory is = is

-- and to an entry that is added, and to a read
add_error : (tokens : List TokenAt) (e : PlayRefusal) → IsErrorFor e tokens → IsNotAdded e tokens
add_error tokens plays.NoServer is = is
add_error tokens plays.Password is = is
add_error tokens plays.OtherFile is = is
add_error tokens plays.Overtaken is = is
add_error tokens plays.Server is = is
add_error tokens plays.NoReply is = absurd is
add_error tokens plays.NoFrame is = is
add_error tokens plays.Unfit is = is
add_error tokens plays.LogFault is = is
add_error tokens plays.TooLong is = is
add_error tokens plays.Lost is = is
add_error tokens plays.NoMemory is = is

read_error : (keys : List (List ℕ)) (seen : List ℕ) (party : ℕ) (tokens : List TokenAt) (e : PlayRefusal) → IsErrorFor e tokens → IsNotRead keys seen party e tokens
read_error keys seen party tokens plays.NoServer is = is
read_error keys seen party tokens plays.Password is = is
read_error keys seen party tokens plays.OtherFile is = is
read_error keys seen party tokens plays.Overtaken is = inl is
read_error keys seen party tokens plays.Server is = is
read_error keys seen party tokens plays.NoReply is = absurd is
read_error keys seen party tokens plays.NoFrame is = absurd is
read_error keys seen party tokens plays.Unfit is = is
read_error keys seen party tokens plays.LogFault is = is
read_error keys seen party tokens plays.TooLong is = is
read_error keys seen party tokens plays.Lost is = is
read_error keys seen party tokens plays.NoMemory is = is

module _ {S K : Type 0} (left : S → Option (List ℕ)) (faults : S → ℕ) (has_ended : S → Type 0) (unwritten : K → ℕ) (old new : Conn S K) where
  -- an entry wasn't added
  pub not_added : (r : TalkRefusal) → IsUnmet left faults has_ended old new IsNoAdd r → IsUnanswered left faults has_ended unwritten old new IsNotAdded (talk_means r)
  not_added talks.Lost why = inr why
  not_added talks.NoReply why = why
  not_added talks.Gap why = absurd why.means
  not_added (talks.Refused r) why =
      error_came left faults has_ended unwritten IsNotAdded old new why.tokens why.replied why.whole (add_error why.tokens) r why.means
  not_added talks.NoMemory why = tt

  -- nothing came of streams
  pub not_read : (keys : List (List ℕ)) (seen : List ℕ) (party : ℕ) (r : TalkRefusal) → IsUnmet left faults has_ended old new (IsNoRead keys seen) r
      → IsUnanswered left faults has_ended unwritten old new (IsNotRead keys seen party) (talk_means r)
  not_read keys seen party talks.Lost why = inr why
  not_read keys seen party talks.NoReply why = why
  not_read keys seen party talks.Gap why = record { tokens = why.tokens; replied = why.replied; whole = why.whole; means = why.means }
  not_read keys seen party (talks.Refused r) why =
      error_came left faults has_ended unwritten (IsNotRead keys seen party) old new why.tokens why.replied why.whole (read_error keys seen party why.tokens) r why.means
  not_read keys seen party talks.NoMemory why = tt
