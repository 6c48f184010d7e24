-- Tokens that come of bytes, piece by piece.
use Rattle.std.proofs.Common.{◌≡◌, ℕ, ◌+◌, ◌^◌, ◌-◌, min, List, [], ◌∷◌, ◌++◌, Option, Some, None, Result, Err, refl, sym, ap, subst, ◌∙◌, append_assoc, append-nil}
use Rattle.sj_base.specs.Stream.{put_before}
use Rattle.sj_resp.specs.Command.{AreRead}
use Rattle.sj_resp.specs.Front.{Front, Refused}
use Rattle.sj_resp.specs.Reads.{IsRefused}
use Rattle.sj_resp.specs.Token.{TokenAt}
use Rattle.sj_resp.specs.declared.refusal.RespRefusal.{RespRefusal}
use Rattle.sj_resp.specs.declared.refusal.RespRefusal.TheVariants as refusals
use Rattle.sj_resp.proofs.StayLemmas.{whole_stays}
use Rattle.sj_streams.specs.Gathering.{AreDue, IsReply, Took, due_after, due_in, parts_of, tokens_in}
use Rattle.sj_streams.specs.declared.reply.Reply.{Reply}
use Rattle.sj_remote.specs.declared.refusal.ConnRefusal.TheVariants as conns
use Rattle.sj_remote.specs.Conn.{conn_refusal, Hears, Replied, heard, source_of}
use Rattle.sj_remote.specs.declared.conn.Conn.{Conn}

-- tokens that were read are read whatever bytes follow
pub read_stays : (ts : List TokenAt) (bytes rest more : List ℕ) → AreRead ts bytes rest → AreRead ts (bytes ++ more) (rest ++ more)
read_stays [] bytes rest more same = ap (λ (l : List ℕ). l ++ more) same
read_stays (t ∷ ts) bytes rest more r = (r.0 ++ more, whole_stays bytes more r.0 t r.1, read_stays ts r.0 rest more r.2)

-- some tokens and then others
pub read_both : (ts us : List TokenAt) (bytes mid rest : List ℕ) → AreRead ts bytes mid → AreRead us mid rest → AreRead (ts ++ us) bytes rest
read_both [] us bytes mid rest same r = subst (λ (l : List ℕ). AreRead us l rest) (sym same) r
read_both (t ∷ ts) us bytes mid rest r s = (r.0, r.1, read_both ts us r.0 mid rest r.2 s)

before_both : (a b : List ℕ) (rest : Option (List ℕ)) → put_before a (put_before b rest) ≡ put_before (a ++ b) rest
before_both a b None = refl
before_both a b (Some rest) = ap Some (sym (append_assoc a b rest))

-- why there is no reply
pub no_reply_cause : (e : RespRefusal) (front : Front) → IsRefused e front → conn_refusal e ≡ conns.NoReply → (w : RespRefusal) × (front ≡ Refused w)
no_reply_cause refusals.NoMemory front h is = absurd cc
no_reply_cause refusals.Kind front h is = (refusals.Kind, h)
no_reply_cause refusals.Long front h is = (refusals.Long, h)
no_reply_cause refusals.Line front h is = (refusals.Line, h)
no_reply_cause refusals.Number front h is = (refusals.Number, h)
no_reply_cause refusals.End front h is = (refusals.End, h)

pub never_lost : (e : RespRefusal) → conn_refusal e ≡ conns.Lost → ⊥
never_lost refusals.NoMemory is = absurd cc
never_lost refusals.Kind is = absurd cc
never_lost refusals.Long is = absurd cc
never_lost refusals.Line is = absurd cc
never_lost refusals.Number is = absurd cc
never_lost refusals.End is = absurd cc

due_both : (n : ℕ) (ts us : List TokenAt) → due_after n (ts ++ us) ≡ due_after (due_after n ts) us
unfolding due_after
due_both n [] us = refl
due_both n (t ∷ ts) us = due_both (min (n - 1 + parts_of t) (2 ^ 64 - 1)) ts us

pub due_none : due_after 1 [] ≡ 1
unfolding due_after
due_none = refl

all_due : (n : ℕ) (ts us : List TokenAt) → AreDue n ts → AreDue (due_after n ts) us → AreDue n (ts ++ us)
unfolding due_after AreDue
all_due n [] us some more = more
all_due n (t ∷ ts) us some more = (some.0, all_due (min (n - 1 + parts_of t) (2 ^ 64 - 1)) ts us some.1 more)

pub none_due : AreDue 1 []
unfolding AreDue
none_due = tt

module _ {S K : Type 0} (left : S → Option (List ℕ)) where
  -- nothing came
  pub none_replied : (c : Conn S K) → Replied left c c []
  none_replied c = record { bytes = []; came = still (left (source_of c)); read = append-nil (heard c) }
    where
      still : (o : Option (List ℕ)) → o ≡ put_before [] o
      still None = refl
      still (Some l) = refl

  -- tokens were taken of what is unused
  pub replied_more : (old mid new : Conn S K) (ts us : List TokenAt) → Replied left old mid ts → source_of new ≡ source_of mid → AreRead us (heard mid) (heard new) → Replied left old new (ts ++ us)
  replied_more old mid new ts us r same read = record {
    bytes = r.bytes;
    came = r.came ∙ ap (λ (s : S). put_before r.bytes (left s)) (sym same);
    read = read_both ts us (heard old ++ r.bytes) (heard mid) (heard new) r.read read;
  }

  -- more bytes came
  pub replied_hears : (old mid new : Conn S K) (ts : List TokenAt) → Replied left old mid ts → Hears left mid new → Replied left old new ts
  replied_hears old mid new ts r h = record {
    bytes = r.bytes ++ h.bytes;
    came = r.came ∙ ap (put_before r.bytes) h.came ∙ before_both r.bytes h.bytes (left (source_of new));
    read = subst (λ (l : List ℕ). AreRead ts l (heard new)) (append_assoc (heard old) r.bytes h.bytes)
        (subst (λ (l : List ℕ). AreRead ts ((heard old ++ r.bytes) ++ h.bytes) l) (sym h.fed) (read_stays ts (heard old ++ r.bytes) (heard mid) h.bytes r.read));
  }

  -- tokens were taken for a reply
  pub record Gathered (old new : Conn S K) (r : Reply) : Type 0 where
    pub replied : Replied left old new (tokens_in r)
    pub due : due_in r ≡ due_after 1 (tokens_in r)
    pub needed : AreDue 1 (tokens_in r)

  pub gathered : (old mid new : Conn S K) (r s : Reply) → Gathered old mid r → source_of new ≡ source_of mid → Took r s (heard mid) (heard new) → Gathered old new s
  gathered old mid new r s g same took = record {
    replied = subst (λ (ts : List TokenAt). Replied left old new ts) (sym took.after) (replied_more old mid new (tokens_in r) took.tokens g.replied same took.read);
    due = took.due ∙ ap (λ n. due_after n took.tokens) g.due ∙ sym (due_both 1 (tokens_in r) took.tokens) ∙ ap (due_after 1) (sym took.after);
    needed = subst (λ (ts : List TokenAt). AreDue 1 ts) (sym took.after)
        (all_due 1 (tokens_in r) took.tokens g.needed (subst (λ (n : ℕ). AreDue n took.tokens) g.due took.needed));
  }

  pub gathered_hears : (old mid new : Conn S K) (r : Reply) → Gathered old mid r → Hears left mid new → Gathered old new r
  gathered_hears old mid new r g h = record { replied = replied_hears old mid new (tokens_in r) g.replied h; due = g.due; needed = g.needed }

  -- they are a reply where nothing is still to come
  pub whole_reply : (old new : Conn S K) (r : Reply) (tokens : List TokenAt) → Gathered old new r → due_in r ≡ 0 → tokens ≡ tokens_in r → IsReply tokens
  whole_reply old new r tokens g none same = subst (λ (ts : List TokenAt). IsReply ts) (sym same) (record { whole = sym g.due ∙ none; needed = g.needed })

pub err_is : {T E : Type 0} {x y : E} → ◌≡◌ {A = Result T E} (Err x) (Err y) → x ≡ y
err_is e = cc
