-- Replies that came one after another.
use Rattle.std.proofs.Common.{◌≡◌, ℕ, ◌+◌, ◌≤◌, List, [], ◌∷◌, ◌++◌, Option, Some, None, length, refl, sym, ap, subst, ◌∙◌, append_assoc, append-nil, arith}
use Rattle.std.proofs.lemmas.List.{length-append}
use Rattle.std.proofs.lemmas.List.Concat.{flat_map-append}
use Rattle.std.specs.List.{AllByRecursion}
use Rattle.sj_base.specs.Stream.{put_before}
use Rattle.sj_remote.specs.Conn.{Replied, heard, sink_of, source_of}
use Rattle.sj_remote.specs.declared.conn.Conn.{Conn}
use Rattle.sj_remote.proofs.ReplyLemmas.{read_both, read_stays}
use Rattle.sj_resp.specs.Command.{AreRead}
use Rattle.sj_resp.specs.Token.{TokenAt, Bulk}
use Rattle.sj_streams.specs.Gathering.{AreDue, IsReply, due_after}
use Rattle.sj_remote_run.specs.Asked.{Talked, Talks, tokens_of}

-- a name alone is a reply
pub name_whole : (name : List ℕ) → IsReply (Bulk name ∷ [])
unfolding due_after AreDue
name_whole name = record { whole = refl; needed = (omega arith, tt) }

still : (o : Option (List ℕ)) → o ≡ put_before [] o
still None = refl
still (Some l) = refl

before_both : (a b : List ℕ) (rest : Option (List ℕ)) → put_before a (put_before b rest) ≡ put_before (a ++ b) rest
before_both a b None = refl
before_both a b (Some rest) = ap Some (sym (append_assoc a b rest))

all_both : (rs ss : List (List TokenAt)) → AllByRecursion IsReply rs → AllByRecursion IsReply ss → AllByRecursion IsReply (rs ++ ss)
all_both [] ss all others = others
all_both (r ∷ rs) ss all others = (all.0, all_both rs ss all.1 others)

module _ {S K : Type 0} (left : S → Option (List ℕ)) (faults : S → ℕ) (unwritten : K → ℕ) where
  -- something was written
  pub talked_none : (old new : Conn S K) → source_of new ≡ source_of old → heard new ≡ heard old → unwritten (sink_of old) ≤ unwritten (sink_of new) → Talked left faults unwritten 0 old new
  talked_none old new source bytes sink =
      let same = ap faults source in
      record {
        replies = [];
        many = refl;
        replied = record {
          bytes = [];
          came = still (left (source_of old)) ∙ ap (λ (s : S). put_before [] (left s)) (sym source);
          read = append-nil (heard old) ∙ sym bytes;
        };
        whole = tt;
        reads = omega (arith, same);
        writes = sink;
      }

  -- a reply came
  pub talked_one : (old new : Conn S K) (tokens : List TokenAt) → Replied left old new tokens → IsReply tokens → faults (source_of old) ≤ faults (source_of new) → sink_of new ≡ sink_of old
      → Talked left faults unwritten 1 old new
  talked_one old new tokens replied whole later sink =
      let same = ap unwritten sink in
      record {
        replies = tokens ∷ [];
        many = refl;
        replied = subst (λ (ts : List TokenAt). Replied left old new ts) (sym (append-nil tokens)) replied;
        whole = (whole, tt);
        reads = later;
        writes = omega (arith, same);
      }

  replied_both : (a b c : Conn S K) (ts us : List TokenAt) → Replied left a b ts → Replied left b c us → Replied left a c (ts ++ us)
  replied_both a b c ts us r s = record {
    bytes = r.bytes ++ s.bytes;
    came = r.came ∙ ap (put_before r.bytes) s.came ∙ before_both r.bytes s.bytes (left (source_of c));
    read = read_both ts us (heard a ++ (r.bytes ++ s.bytes)) (heard b ++ s.bytes) (heard c)
        (subst (λ (l : List ℕ). AreRead ts l (heard b ++ s.bytes)) (append_assoc (heard a) r.bytes s.bytes) (read_stays ts (heard a ++ r.bytes) (heard b) s.bytes r.read))
        s.read;
  }

  -- some replies and then others
  pub talked_both : (n k : ℕ) (a b c : Conn S K) → Talked left faults unwritten n a b → Talked left faults unwritten k b c → Talked left faults unwritten (n + k) a c
  talked_both n k a b c s t =
      let reads_a = s.reads in
      let reads_b = t.reads in
      let writes_a = s.writes in
      let writes_b = t.writes in
      record {
        replies = s.replies ++ t.replies;
        many = length-append s.replies t.replies ∙ ap (λ (m : ℕ). m + length t.replies) s.many ∙ ap (λ (m : ℕ). n + m) t.many;
        replied = subst (λ (ts : List TokenAt). Replied left a c ts) (sym (flat_map-append (λ (r : List TokenAt). r) s.replies t.replies))
            (replied_both a b c (tokens_of s.replies) (tokens_of t.replies) s.replied t.replied);
        whole = all_both s.replies t.replies s.whole t.whole;
        reads = omega (arith, reads_a, reads_b);
        writes = omega (arith, writes_a, writes_b);
      }

  pub talks_both : (a b c : Conn S K) → Talks left faults unwritten a b → Talks left faults unwritten b c → Talks left faults unwritten a c
  talks_both a b c s t = (s.0 + t.0, talked_both s.0 t.0 a b c s.1 t.1)

  -- nothing happened
  pub talked_here : (a : Conn S K) → Talked left faults unwritten 0 a a
  talked_here a = talked_none a a refl refl (omega arith)

  pub talks_none : (a : Conn S K) → Talks left faults unwritten a a
  talks_none a = (0, talked_here a)

  -- one more reply
  pub talked_sent : (a b c : Conn S K) → Talked left faults unwritten 0 a b → Talked left faults unwritten 1 b c → Talked left faults unwritten 1 a c
  talked_sent a b c s t = subst (λ (n : ℕ). Talked left faults unwritten n a c) (omega arith) (talked_both 0 1 a b c s t)
