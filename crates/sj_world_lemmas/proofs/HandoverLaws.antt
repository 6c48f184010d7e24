-- The session laws of Signals that pass, and of Gives; and all laws that deliveries need.
use Rattle.std.proofs.Common.{◌≡◌, ℕ, ◌<◌, ◌+◌, List, [], ◌∷◌, ◌++◌}
use Rattle.std.specs.Prelude.{Option, Some, ◌⊎◌}
use Rattle.sj_base.specs.declared.EndId.{EndId}
use Rattle.sj_base.specs.declared.Msg.{Msg}
use Rattle.sj_rules.specs.Record.{EndAt, BodyAt, Fin, Signal, Ack, Mail, HeldAt, other_end}
use Rattle.sj_rules.specs.Rows.{with_last, passive_closed, Worked, resent_posts, numbered_carries, cached_from, mails_of, trimmed_end, end_with_peer, passive, install}
use Rattle.sj_rules.specs.Seat.{Seat, held, parked, claimed, signalled, given, closed, Side, source_for, side_of}
use Rattle.sj_rules.specs.PlainSide.{PlainSide}
use Rattle.sj_rules.specs.Numbers.{Pace, level, behind, by_ack, IsSignalledTo, IsNotGiven}
use Rattle.sj_rules.specs.Invariant.{IsSound}
use Rattle.sj_world_lemmas.proofs.InstallLemmas.{again_from}
use Rattle.sj_world_lemmas.proofs.SessionLaws.{AckAtOld, ClaimAtClaimed, DefersAtGiven, DefersAtSignalled, LiveIsDeferrable, PlainAtClaimed, PlainAtClosed, PlainAtHeld, PlainAtOld, PlainAtParked, SignalAtOld, with_more}

-- what the passive row sends again, and what it leaves
abbrev pub resends : {P : Type 0} → (ℕ → ℕ → ℕ) → EndId → EndAt P → (p k : ℕ) → List (BodyAt P)
resends pick sid e p k = numbered_carries sid (e.conn + 1) e.taken k (cached_from (trimmed_end pick (end_with_peer e p) k) k)

-- what the passive row leaves and sends
abbrev pub passed : {P : Type 0} → (ℕ → ℕ → ℕ) → EndAt P → (p k : ℕ) → Worked P (EndAt P)
passed pick e p k = record {
  state = trimmed_end pick (end_with_peer e p) k;
  posts = record { party = e.peer; body = Ack (other_end e.id) e.conn } ∷ resent_posts (trimmed_end pick (end_with_peer e p) k) k;
}

-- the Signalled end that gets its Ack, and all that waits
abbrev pub acked_side : {P : Type 0} → EndId → P → (a t : ℕ) → EndAt P → (ds so sl more : List (BodyAt P)) → Side P
acked_side sid ps a t es ds so sl more = side_of sid ps (signalled a t es ds) (so ++ Ack sid es.conn ∷ []) (sl ++ more)

-- a Signal at an end that isn't Signalled: s, which is, gets the Ack under its number, and all that
-- waits under the next one
module _ {P : Type 0} (IsOver : P → Type 0) (pick : ℕ → ℕ → ℕ) (x y : PlainSide P) (sid id : EndId) (ps place : P) (a t : ℕ) (es : EndAt P) (ds so sl : List (BodyAt P)) where
  -- at a Held end
  abbrev pub SignalAtHeld : Type 0
  SignalAtHeld = (b : ℕ) (h : HeldAt P) (ro rest : List (BodyAt P)) (d : EndId) (c p k : ℕ) →
      IsSound IsOver level x y (side_of sid ps (signalled a t es ds) so sl) (side_of id place (held b h) ro (Signal d c p k ∷ rest)) →
      (passive pick h.end h.end.peer c p k ≡ Some (passed pick h.end p k))
      × IsSound IsOver (behind by_ack) x y (acked_side sid ps a t es ds so sl (resends pick sid h.end p k)) (side_of id place (held b (record h { end = trimmed_end pick (end_with_peer h.end p) k })) ro rest)

  -- at a Parked end
  abbrev pub SignalAtParked : Type 0
  SignalAtParked = (b : ℕ) (e : EndAt P) (ro rest : List (BodyAt P)) (d : EndId) (c p k : ℕ) →
      IsSound IsOver level x y (side_of sid ps (signalled a t es ds) so sl) (side_of id place (parked b e) ro (Signal d c p k ∷ rest)) →
      (passive pick e e.peer c p k ≡ Some (passed pick e p k))
      × IsSound IsOver (behind by_ack) x y (acked_side sid ps a t es ds so sl (resends pick sid e p k)) (side_of id place (parked b (trimmed_end pick (end_with_peer e p) k)) ro rest)

  -- at a claimed end
  abbrev pub SignalAtClaimed : Type 0
  SignalAtClaimed = (b u : ℕ) (e : EndAt P) (ro rest : List (BodyAt P)) (d : EndId) (c p k : ℕ) →
      IsSound IsOver level x y (side_of sid ps (signalled a t es ds) so sl) (side_of id place (claimed b u e) ro (Signal d c p k ∷ rest)) →
      (passive pick e e.peer c p k ≡ Some (passed pick e p k))
      × IsSound IsOver (behind by_ack) x y (acked_side sid ps a t es ds so sl (resends pick sid e p k)) (side_of id place (claimed b u (trimmed_end pick (end_with_peer e p) k)) ro rest)

  -- at a Closed end
  abbrev pub SignalAtClosed : Type 0
  SignalAtClosed = (b : ℕ) (e : EndAt P) (ro rest : List (BodyAt P)) (d : EndId) (c p k : ℕ) →
      IsSound IsOver level x y (side_of sid ps (signalled a t es ds) so sl) (side_of id place (closed b e) ro (Signal d c p k ∷ rest)) →
      (passive_closed pick e e.peer c p k ≡ Some (with_last (record { party = p; body = Fin (other_end e.id) (e.conn + 1) e.sent } ∷ []) (passed pick e p k)))
      × IsSound IsOver (behind by_ack) x y (acked_side sid ps a t es ds so sl (resends pick sid e p k ++ Fin sid (e.conn + 1) e.sent ∷ [])) (side_of id place (closed b (trimmed_end pick (end_with_peer e p) k)) ro rest)

-- a Give: the end is Held, its cache goes out again where the Give says so, and what was deferred
-- is worked off
module _ {P : Type 0} (IsOver : P → Type 0) (pick : ℕ → ℕ → ℕ) (x y : PlainSide P) (s : Side P) (id : EndId) (place : P) where
  -- no Signal was deferred
  abbrev pub InstallsQuietly : Pace → (u : ℕ) → EndAt P → Option ℕ → (ro rl : List (BodyAt P)) → HeldAt P → List (Mail P) → Type 0
  InstallsQuietly pace u e resend ro rl g posts =
      (((g.end.conn ≡ e.conn) × (g.end.peer ≡ e.peer)) ⊎ (rl ≡ [])) × (posts ≡ mails_of e.peer (again_from s.id e resend))
      × IsSound IsOver pace x y (with_more pace s (again_from s.id e resend)) (side_of id place (held u g) ro rl)

  -- a Signal was deferred, as the last: the end passes it at once
  abbrev pub InstallsPassing : (u : ℕ) → EndAt P → Option ℕ → (ro rl : List (BodyAt P)) → HeldAt P → List (Mail P) → Type 0
  InstallsPassing u e resend ro rl g posts =
      (a : ℕ) × (t : ℕ) × (es : EndAt P) × (ds : List (BodyAt P)) × (p : ℕ) × (k : ℕ) × (ms : List Msg) × (s.seat ≡ signalled a t es ds)
      × (p ≡ t) × (rl ≡ []) × (posts ≡ mails_of e.peer (again_from s.id e resend ++ Ack s.id e.conn ∷ []) ++ mails_of p (numbered_carries s.id (e.conn + 1) g.end.taken k ms))
      × IsSound IsOver (behind by_ack) x y (side_of s.id s.place (signalled a t es ds) (s.old ++ (again_from s.id e resend ++ Ack s.id e.conn ∷ [])) (s.live ++ numbered_carries s.id (e.conn + 1) g.end.taken k ms)) (side_of id place (held u g) ro rl)

  -- one of the two
  abbrev pub GiveAtGiven : Type 0
  GiveAtGiven = (pace : Pace) (b u : ℕ) (e : EndAt P) (resend : Option ℕ) (dr ro rl : List (BodyAt P)) → IsSound IsOver pace x y s (side_of id place (given b u e resend dr) ro rl) →
      (g : HeldAt P) × (posts : List (Mail P))
      × (install pick place (mails_of (source_for s.seat (given b u e resend dr)) dr) e resend ≡ Some (record { state = g; posts = posts }))
      × (InstallsQuietly pace u e resend ro rl g posts ⊎ (pace ≡ level) × InstallsPassing u e resend ro rl g posts)

-- an end that isn't Signalled gets a Signal only from one that is
module _ {P : Type 0} (IsOver : P → Type 0) (pick : ℕ → ℕ → ℕ) (x y : PlainSide P) (s : Side P) (id : EndId) (place : P) where
  -- that one is Signalled
  abbrev pub SignalSender : Type 0
  SignalSender = (seat : Seat P) (ro rest : List (BodyAt P)) (d : EndId) (c p k : ℕ) → ((party : ℕ) → IsSignalledTo party seat → ⊥) → IsNotGiven seat →
      IsSound IsOver level x y s (side_of id place seat ro (Signal d c p k ∷ rest)) →
      (a : ℕ) × (t : ℕ) × (es : EndAt P) × (ds : List (BodyAt P)) × (s.seat ≡ signalled a t es ds)

-- what deliveries need
pub record DeliveryLaws {P : Type 0} (IsOver : P → Type 0) (pick : ℕ → ℕ → ℕ) (x y : PlainSide P) : Type 0 where
  pub plain_held : (s : Side P) (id : EndId) (place : P) → PlainAtHeld IsOver pick x y s id place
  pub plain_parked : (s : Side P) (id : EndId) (place : P) → PlainAtParked IsOver pick x y s id place
  pub plain_claimed : (s : Side P) (id : EndId) (place : P) → PlainAtClaimed IsOver pick x y s id place
  pub plain_old : (s : Side P) (id : EndId) (place : P) → PlainAtOld IsOver pick x y s id place
  pub plain_closed : (s : Side P) (id : EndId) (place : P) → PlainAtClosed IsOver pick x y s id place
  pub defers_signalled : (s : Side P) (id : EndId) (place : P) → DefersAtSignalled IsOver pick x y s id place
  pub defers_given : (s : Side P) (id : EndId) (place : P) → DefersAtGiven IsOver pick x y s id place
  pub live_deferrable : (s : Side P) (id : EndId) (place : P) → LiveIsDeferrable IsOver pick x y s id place
  pub signal_old : (s : Side P) (id : EndId) (place : P) → SignalAtOld IsOver pick x y s id place
  pub ack_old : (s : Side P) (id : EndId) (place : P) → AckAtOld IsOver pick x y s id place
  pub claim : (s : Side P) (id : EndId) (place : P) → id.side < 2 → ClaimAtClaimed IsOver pick x y s id place
  pub signal_sender : (s : Side P) (id : EndId) (place : P) → SignalSender IsOver pick x y s id place
  pub signal_held : (sid id : EndId) (ps place : P) (a t : ℕ) (es : EndAt P) (ds so sl : List (BodyAt P)) → SignalAtHeld IsOver pick x y sid id ps place a t es ds so sl
  pub signal_parked : (sid id : EndId) (ps place : P) (a t : ℕ) (es : EndAt P) (ds so sl : List (BodyAt P)) → SignalAtParked IsOver pick x y sid id ps place a t es ds so sl
  pub signal_claimed : (sid id : EndId) (ps place : P) (a t : ℕ) (es : EndAt P) (ds so sl : List (BodyAt P)) → SignalAtClaimed IsOver pick x y sid id ps place a t es ds so sl
  pub signal_closed : (sid id : EndId) (ps place : P) (a t : ℕ) (es : EndAt P) (ds so sl : List (BodyAt P)) → SignalAtClosed IsOver pick x y sid id ps place a t es ds so sl
  pub give : (s : Side P) (id : EndId) (place : P) → GiveAtGiven IsOver pick x y s id place
