-- Where the frames come in that the sender of an end sends to its peer.
use Rattle.std.proofs.Common.{◌≡◌, ℕ, ◌+◌, List, [], ◌++◌, refl, sym, subst, ◌∙◌, append-nil}
use Rattle.std.specs.Prelude.{Bool, true, false, ◌&&◌, ◌==◌, if◌then◌else◌}
use Rattle.std.specs.List.{filter}
use Rattle.sj_base.specs.declared.EndId.{EndId}
use Rattle.sj_rules.specs.Record.{EndAt, BodyAt, Mail}
use Rattle.sj_rules.specs.World.{WorldAt}
use Rattle.sj_rules.specs.Seat.{Seat, signalled, gone, source_for, taker_of, coming_of, conn_of, peer_of, sender_of, side_of}
use Rattle.sj_rules.specs.Shown.{Shows, goes_to}
use Rattle.sj_rules.specs.Numbers.{Pace, level, ahead, behind, Cause, by_ack, by_signal, NumbersFit, IsSignalledTo}
use Rattle.sj_world_lemmas.proofs.LaneLemmas.{sent_to}
use Rattle.sj_world_lemmas.proofs.PopLemmas.{IsStream}
use Rattle.sj_world_lemmas.proofs.PostLemmas.{with_posts, posted_live, posted_both, AreMails}
use Rattle.sj_world_lemmas.proofs.InstallLemmas.{old_after, live_after}
use Rattle.sj_world_lemmas.proofs.SwapLemmas.{IsThere}

-- the numbers of two ends that are there
pub numbers_level : {P : Type 0} → (s r : Seat P) → IsThere s → IsThere r → NumbersFit level s r → (conn_of s ≡ conn_of r) × (peer_of s ≡ sender_of r) × (peer_of r ≡ sender_of s)
numbers_level gone r i j n = absurd i
numbers_level s gone i j n = absurd j
numbers_level s r i j n = n

-- s lags
pub numbers_behind : {P : Type 0} → (c : Cause) (s r : Seat P) → IsThere s → IsThere r → NumbersFit (behind c) s r → (conn_of r ≡ conn_of s + 1) × IsSignalledTo (peer_of r) s
numbers_behind c gone r i j n = absurd i
numbers_behind c s gone i j n = absurd j
numbers_behind by_ack s r i j n = (n.0, n.1)
numbers_behind by_signal s r i j n = n

-- s is ahead
pub numbers_ahead : {P : Type 0} → (c : Cause) (s r : Seat P) → IsThere s → IsThere r → NumbersFit (ahead c) s r → (conn_of s ≡ conn_of r + 1) × IsSignalledTo (peer_of s) r
numbers_ahead c gone r i j n = absurd i
numbers_ahead c s gone i j n = absurd j
numbers_ahead by_ack s r i j n = (n.0, n.1)
numbers_ahead by_signal s r i j n = n

-- nothing under the other number
add_nothing : {A : Type 0} → (k l : Bool) (more : List A) → (if k then more else []) ≡ (if k then more else []) ++ (if l then [] else [])
add_nothing k true more = sym (append-nil (if k then more else []))
add_nothing k false more = sym (append-nil (if k then more else []))

module _ {P Q : Type 0} (w : WorldAt P Q) (at clock : ℕ) (posts : List (Mail P)) (o : Seat P) (sid : EndId) (place : P) (so sl more : List (BodyAt P)) (r : Seat P)
    (streams : AreMails IsStream posts)
    (sent : (to c : ℕ) → filter (goes_to sid c) (sent_to to posts) ≡ (if (to == peer_of r) && (c == conn_of r) then more else [])) where
  -- what is sent, by another spelling of the key
  sent_at : (party conn : ℕ) → peer_of r ≡ party → conn_of r ≡ conn → (to c : ℕ) → filter (goes_to sid c) (sent_to to posts) ≡ (if (to == party) && (c == conn) then more else [])
  sent_at party conn p n to c = sent to c ∙ rw (p, n) refl

  -- level, and the end isn't Signalled; or lagging
  to_live : (s : Seat P) → source_for o s ≡ at → peer_of r ≡ taker_of s → conn_of r ≡ coming_of s → Shows w o (side_of sid place s so sl) →
      Shows (with_posts w at clock posts) o (side_of sid place s so (sl ++ more))
  to_live s from p n v = posted_live w at clock posts o (side_of sid place s so sl) more from streams (sent_at (taker_of s) (coming_of s) p n) v

  -- level, and the end is Signalled
  to_old : (a t : ℕ) (e : EndAt P) (ds : List (BodyAt P)) → source_for o (signalled a t e ds) ≡ at → e.peer ≡ at → peer_of r ≡ a → conn_of r ≡ e.conn → Shows w o (side_of sid place (signalled a t e ds) so sl) →
      Shows (with_posts w at clock posts) o (side_of sid place (signalled a t e ds) (so ++ more) sl)
  to_old a t e ds from peer p n v =
      subst (λ l. Shows (with_posts w at clock posts) o (side_of sid place (signalled a t e ds) (so ++ more) l)) (append-nil sl)
      (posted_both w at clock posts o sid place a t e ds so sl more [] from peer streams
      (λ to c. sent_at a e.conn p n to c ∙ add_nothing ((to == a) && (c == e.conn)) ((to == t) && (c == e.conn + 1)) more) v)

  -- the frames come in by the pace
  pub posted_by_pace : (pace : Pace) (s : Seat P) → NumbersFit pace s r → IsThere s → IsThere r → ((party : ℕ) → IsSignalledTo party r → ⊥) → sender_of r ≡ at → source_for o s ≡ at →
      Shows w o (side_of sid place s so sl) → Shows (with_posts w at clock posts) o (side_of sid place s (old_after pace s so more) (live_after pace s sl more))
  posted_by_pace level (signalled a t e ds) n i j never sends from v =
      let k : (e.conn ≡ conn_of r) × (e.peer ≡ sender_of r) × (peer_of r ≡ a) = numbers_level (signalled a t e ds) r i j n in
      to_old a t e ds from (k.1 ∙ sends) k.2 (sym k.0) v
  posted_by_pace level gone n i j never sends from v = absurd i
  posted_by_pace level s n i j never sends from v =
      let k : (conn_of s ≡ conn_of r) × (peer_of s ≡ sender_of r) × (peer_of r ≡ sender_of s) = numbers_level s r i j n in
      to_live s from k.2 (sym k.0) v
  posted_by_pace (behind c) (signalled a t e ds) n i j never sends from v =
      let k : (conn_of r ≡ e.conn + 1) × (peer_of r ≡ t) = numbers_behind c (signalled a t e ds) r i j n in
      to_live (signalled a t e ds) from k.1 k.0 v
  posted_by_pace (behind c) s n i j never sends from v =
      let k : (conn_of r ≡ conn_of s + 1) × IsSignalledTo (peer_of r) s = numbers_behind c s r i j n in
      absurd k.1
  posted_by_pace (ahead c) s n i j never sends from v =
      let k : (conn_of s ≡ conn_of r + 1) × IsSignalledTo (peer_of s) r = numbers_ahead c s r i j n in
      absurd (never (peer_of s) k.1)
