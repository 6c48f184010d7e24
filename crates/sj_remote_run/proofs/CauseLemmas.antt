-- Causes of refusals, after the replies that came.
use Rattle.std.proofs.Common.{◌≡◌, ℕ, zero, suc, ◌+◌, ◌<◌, ◌≤◌, List, [], ◌∷◌, Option, Result, Ok, Err, get_or, length, map, inl, inr, sym, ap, subst, ◌∙◌, arith}
use Rattle.std.specs.Result.{IfErr, IsErrAnd}
use Rattle.sj_base.specs.Stream.{Rose}
use Rattle.sj_remote.specs.Conn.{sink_of}
use Rattle.sj_remote.specs.Talks.{IsAnswer}
use Rattle.sj_remote.specs.declared.conn.Conn.{Conn}
use Rattle.sj_resp.specs.Token.{TokenAt}
use Rattle.sj_streams.specs.Reading.{CameAt}
use Rattle.sj_streams.specs.Views.{came_view}
use Rattle.sj_streams.specs.declared.replies.Came.{Came}
use Rattle.sj_remote_run.specs.Asked.{IsCause, IsPlayCause, IsInPlay, IsInside, IsOfFile, IsOfStreams, IsUntaken, StopsAt, Talked}
use Rattle.sj_remote_run.specs.Refused.{HasOwn, IsNoAnswer, IsUnanswered, QuestionAt, ToAdd, ToGet, ToRead, ToShare, ToSign}
use Rattle.sj_remote_run.specs.declared.refusal.PlayRefusal.{PlayRefusal}
use Rattle.sj_remote_run.specs.declared.refusal.PlayRefusal.TheVariants as plays
use Rattle.sj_remote_run.proofs.TalkedLemmas.{talked_both}

-- one of those that came is of the own stream
pub own_at : (party : ℕ) (all : List Came) (i : ℕ) (x : Came) → i < length all → x ≡ get_or all i x → x.stream ≡ party → HasOwn party (map came_view all)
own_at party [] i x less is own = absurd (omega (arith, less))
own_at party (c ∷ cs) zero x less is own = inl (ap (λ (y : Came). y.stream) (sym is) ∙ own)
own_at party (c ∷ cs) (suc i) x less is own = inr (own_at party cs i x (omega (arith, less)) is own)

-- the error is that one
pub err_as : {X : Type 0} (r : Result X PlayRefusal) (e : PlayRefusal) (P : PlayRefusal → Type 0) → IsErrAnd r (λ d. d ≡ e) → P e → IfErr r P
err_as (Ok x) e P same p = absurd same
err_as (Err d) e P same p = subst P (sym same) p

-- it is no answer of the server
pub inside_untaken : (party : ℕ) (cs : List CameAt) (e : PlayRefusal) → IsInside e → IsUntaken party cs e
inside_untaken party cs plays.NoServer is = is
inside_untaken party cs plays.Password is = is
inside_untaken party cs plays.OtherFile is = is
inside_untaken party cs plays.Overtaken is = absurd is
inside_untaken party cs plays.Server is = is
inside_untaken party cs plays.NoReply is = is
inside_untaken party cs plays.NoFrame is = is
inside_untaken party cs plays.Unfit is = is
inside_untaken party cs plays.LogFault is = is
inside_untaken party cs plays.TooLong is = is
inside_untaken party cs plays.Lost is = is
inside_untaken party cs plays.NoMemory is = is

-- questions of a part are questions of the whole
pub streams_then : (n : ℕ) (ks keys : List (List ℕ)) (p party : ℕ) → ks ≡ keys → p ≡ party → (q : QuestionAt) (k : ℕ) → IsOfStreams ks p q k → IsOfStreams keys party q (n + k)
streams_then n ks keys p party same who ToSign k is = is
streams_then n ks keys p party same who ToShare k is = is
streams_then n ks keys p party same who (ToGet t) k is = is
streams_then n ks keys p party same who ToAdd k is = tt
streams_then n ks keys p party same who (ToRead these seen own) k is = (is.0 ∙ same, is.1 ∙ who)

module _ (signs : ℕ) (text : List ℕ) (keys : List (List ℕ)) (party : ℕ) where
  pub file_then : (t : List ℕ) → t ≡ text → (q : QuestionAt) (k : ℕ) → IsOfFile t q k → IsInPlay signs text keys party q (signs + k)
  file_then t same ToSign k is = absurd is
  file_then t same ToShare k is = omega (arith, is)
  file_then t same (ToGet u) k is = let one = is.1 in (is.0 ∙ same, omega (arith, one))
  file_then t same ToAdd k is = absurd is
  file_then t same (ToRead these seen own) k is = absurd is

  pub play_then : (n : ℕ) → signs + 2 ≤ n → (ks : List (List ℕ)) (p : ℕ) → ks ≡ keys → p ≡ party → (q : QuestionAt) (k : ℕ) → IsOfStreams ks p q k → IsInPlay signs text keys party q (n + k)
  play_then n long ks p same who ToSign k is = absurd is
  play_then n long ks p same who ToShare k is = absurd is
  play_then n long ks p same who (ToGet t) k is = absurd is
  play_then n long ks p same who ToAdd k is = omega (arith, long)
  play_then n long ks p same who (ToRead these seen own) k is = (is.0 ∙ same, is.1 ∙ who, omega (arith, long))

-- no answer of the server says that a frame fits no row
fits : (q : QuestionAt) (tokens : List TokenAt) → IsNoAnswer q plays.Unfit tokens → ⊥
fits ToSign tokens is = is
fits ToShare tokens is = is
fits (ToGet text) tokens is = is
fits ToAdd tokens is = is
fits (ToRead keys seen party) tokens is = is

module _ {S K : Type 0} (left : S → Option (List ℕ)) (faults : S → ℕ) (has_ended : S → Type 0) (unwritten : K → ℕ) where
  module _ (IsNext : QuestionAt → ℕ → Type 0) where
    -- what is no answer of the server says nothing
    pub inside_cause : (a c : Conn S K) (e : PlayRefusal) → IsInside e → IsCause left faults has_ended unwritten IsNext a c e
    inside_cause a c plays.NoServer is = absurd is
    inside_cause a c plays.Password is = absurd is
    inside_cause a c plays.OtherFile is = absurd is
    inside_cause a c plays.Overtaken is = absurd is
    inside_cause a c plays.Server is = absurd is
    inside_cause a c plays.NoReply is = absurd is
    inside_cause a c plays.NoFrame is = tt
    inside_cause a c plays.Unfit is = absurd is
    inside_cause a c plays.LogFault is = tt
    inside_cause a c plays.TooLong is = tt
    inside_cause a c plays.Lost is = absurd is
    inside_cause a c plays.NoMemory is = tt

    module _ (n : ℕ) (a b c : Conn S K) (t : Talked left faults unwritten n a b) where
      stop : (q : QuestionAt) → IsNext q n → (e : PlayRefusal) → IsUnanswered left faults has_ended unwritten b c (IsNoAnswer q) e → StopsAt left faults has_ended unwritten IsNext e a c
      stop q next e why = record { mid = b; count = n; talked = t; question = q; next = next; why = why }

      -- a question wasn't answered
      pub unanswered_cause : (q : QuestionAt) → IsNext q n → (e : PlayRefusal) → IsUnanswered left faults has_ended unwritten b c (IsNoAnswer q) e → IsCause left faults has_ended unwritten IsNext a c e
      unanswered_cause q next plays.NoServer why = stop q next plays.NoServer why
      unanswered_cause q next plays.Password why = stop q next plays.Password why
      unanswered_cause q next plays.OtherFile why = stop q next plays.OtherFile why
      unanswered_cause q next plays.Overtaken why = stop q next plays.Overtaken why
      unanswered_cause q next plays.Server why = stop q next plays.Server why
      unanswered_cause q next plays.NoReply why = stop q next plays.NoReply why
      unanswered_cause q next plays.NoFrame why = tt
      unanswered_cause q next plays.Unfit why = absurd (fits q why.tokens why.means)
      unanswered_cause q next plays.LogFault why = tt
      unanswered_cause q next plays.TooLong why = tt
      unanswered_cause q next plays.Lost why = stop q next plays.Lost why
      unanswered_cause q next plays.NoMemory why = tt

      -- a command wasn't written
      pub unwritten_cause : (q : QuestionAt) → IsNext q n → (e : PlayRefusal) → e ≡ plays.Lost → Rose (unwritten (sink_of b)) (unwritten (sink_of c)) → IsCause left faults has_ended unwritten IsNext a c e
      unwritten_cause q next e is rose = subst (λ (x : PlayRefusal). IsCause left faults has_ended unwritten IsNext a c x) (sym is) (stop q next plays.Lost (inl rose))

      -- what came wasn't taken
      pub untaken_cause : (keys : List (List ℕ)) (seen : List ℕ) (party : ℕ) (came : List Came) → IsNext (ToRead keys seen party) n → IsAnswer left b c keys seen came
          → (e : PlayRefusal) → IsUntaken party (map came_view came) e → IsCause left faults has_ended unwritten IsNext a c e
      untaken_cause keys seen party came next answer plays.NoServer is = absurd is
      untaken_cause keys seen party came next answer plays.Password is = absurd is
      untaken_cause keys seen party came next answer plays.OtherFile is = absurd is
      untaken_cause keys seen party came next answer plays.Overtaken is =
          stop (ToRead keys seen party) next plays.Overtaken (record { tokens = answer.tokens; replied = answer.replied; whole = answer.whole; means = inr (map came_view came, answer.read, is) })
      untaken_cause keys seen party came next answer plays.Server is = absurd is
      untaken_cause keys seen party came next answer plays.NoReply is = absurd is
      untaken_cause keys seen party came next answer plays.NoFrame is = tt
      untaken_cause keys seen party came next answer plays.Unfit is = absurd is
      untaken_cause keys seen party came next answer plays.LogFault is = tt
      untaken_cause keys seen party came next answer plays.TooLong is = tt
      untaken_cause keys seen party came next answer plays.Lost is = absurd is
      untaken_cause keys seen party came next answer plays.NoMemory is = tt

  -- the same cause after some replies
  module _ (IsNext IsThen : QuestionAt → ℕ → Type 0) (n : ℕ) (a b c : Conn S K) (t : Talked left faults unwritten n a b) (then_is : (q : QuestionAt) (k : ℕ) → IsNext q k → IsThen q (n + k)) where
    later : (e : PlayRefusal) → StopsAt left faults has_ended unwritten IsNext e b c → StopsAt left faults has_ended unwritten IsThen e a c
    later e s = record {
      mid = s.mid;
      count = n + s.count;
      talked = talked_both left faults unwritten n s.count a b s.mid t s.talked;
      question = s.question;
      next = then_is s.question s.count s.next;
      why = s.why;
    }

    pub cause_later : (e : PlayRefusal) → IsCause left faults has_ended unwritten IsNext b c e → IsCause left faults has_ended unwritten IsThen a c e
    cause_later plays.NoServer s = later plays.NoServer s
    cause_later plays.Password s = later plays.Password s
    cause_later plays.OtherFile s = later plays.OtherFile s
    cause_later plays.Overtaken s = later plays.Overtaken s
    cause_later plays.Server s = later plays.Server s
    cause_later plays.NoReply s = later plays.NoReply s
    cause_later plays.NoFrame s = tt
    cause_later plays.Unfit s = s
    cause_later plays.LogFault s = tt
    cause_later plays.TooLong s = tt
    cause_later plays.Lost s = later plays.Lost s
    cause_later plays.NoMemory s = tt

  -- the same of a party that is played
  module _ (IsNext : QuestionAt → ℕ → Type 0) (Stuck : Type 0) (a c : Conn S K) where
    pub cause_play : (e : PlayRefusal) → IsCause left faults has_ended unwritten IsNext a c e → IsPlayCause left faults has_ended unwritten IsNext Stuck a c e
    cause_play plays.NoServer s = s
    cause_play plays.Password s = s
    cause_play plays.OtherFile s = s
    cause_play plays.Overtaken s = s
    cause_play plays.Server s = s
    cause_play plays.NoReply s = s
    cause_play plays.NoFrame s = s
    cause_play plays.Unfit s = absurd s
    cause_play plays.LogFault s = s
    cause_play plays.TooLong s = s
    cause_play plays.Lost s = s
    cause_play plays.NoMemory s = s
