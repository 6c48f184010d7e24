-- The front frame of a lane that goes to an end is delivered, whatever seats the ends are in.
use Rattle.std.proofs.Common.{◌≡◌, ℕ, ◌<◌, List, [], ◌∷◌, refl, sym, ap, subst, ◌∙◌, inl, inr}
use Rattle.std.specs.Prelude.{◌⊎◌, Some, None}
use Rattle.sj_base.specs.declared.EndId.{EndId}
use Rattle.sj_rules.specs.Record.{EndAt, BodyAt, Carry, Fin, Claim, Signal, Ack, Give, Open, HeldAt, other_end}
use Rattle.sj_rules.specs.Node.{Play}
use Rattle.sj_rules.specs.Frames.{FrameAt}
use Rattle.sj_rules.specs.World.{WorldAt}
use Rattle.sj_rules.specs.Seat.{Seat, held, parked, claimed, signalled, given, closed, gone, Side, source_for, taker_of, coming_of, peer_of, side_of}
use Rattle.sj_rules.specs.Shown.{Shows}
use Rattle.sj_rules.specs.PlainSide.{PlainSide}
use Rattle.sj_rules.specs.Numbers.{Pace, level, ahead, behind, NumbersFit, IsSignalledTo, IsNotGiven}
use Rattle.sj_rules.specs.Invariant.{IsSound}
use Rattle.sj_rules.specs.Coming.{Comes}
use Rattle.sj_rules.specs.Linked.{subject_of}
use Rattle.sj_world_lemmas.proofs.PopLemmas.{IsStream}
use Rattle.sj_world_lemmas.proofs.PaceLemmas.{numbers_ahead}
use Rattle.sj_world_lemmas.proofs.SwapLemmas.{IsThere, source_is_peer}
use Rattle.sj_world_lemmas.proofs.HandoverLaws.{DeliveryLaws}
use Rattle.sj_world_lemmas.proofs.SessionLaws.{IsPlainBody, IsDeferrable, SoundWith}
use Rattle.sj_world_lemmas.proofs.EventLemmas.{number_of, Delivered}
use Rattle.sj_world_lemmas.proofs.DeferringLemmas.{defers_at_signalled, defers_at_given}
use Rattle.sj_world_lemmas.proofs.PlainAtLemmas.{plain_at_held, plain_at_parked, plain_at_claimed}
use Rattle.sj_world_lemmas.proofs.GoneLemmas.{plain_at_closed}
use Rattle.sj_world_lemmas.proofs.LeaveLemmas.{plain_at_old}
use Rattle.sj_world_lemmas.proofs.CrossedLemmas.{signal_at_old, ack_at_old}
use Rattle.sj_world_lemmas.proofs.PassAtLemmas.{signal_at_held, signal_at_parked, signal_at_claimed, signal_at_closed}

-- frames come to an end that isn't Signalled only while the numbers are equal
pub live_level : {P : Type 0} → (pace : Pace) (id : EndId) (x y : PlainSide P) (s r : Seat P) (f : BodyAt P) (left : List (BodyAt P)) → IsThere r → ((party : ℕ) → IsSignalledTo party r → ⊥) →
    NumbersFit pace s r → Comes pace id x y s r (f ∷ left) → pace ≡ level
live_level level id x y s r f left i never n c = refl
live_level (ahead k) id x y gone r f left i never n c = n.0
live_level (ahead k) id x y s gone f left i never n c = absurd i
live_level (ahead k) id x y s r f left i never n c = absurd (never (peer_of s) (numbers_ahead k s r tt i n).1)
live_level (behind k) id x y s r f left i never n c = absurd (cc c.0)

-- nothing comes to an end that is gone
pub gone_empty : {P : Type 0} → (pace : Pace) (id : EndId) (x y : PlainSide P) (s : Seat P) (live : List (BodyAt P)) → Comes pace id x y s gone live → live ≡ []
gone_empty (behind k) id x y s live c = c.0
gone_empty level id x y (given a t e None ds) live c = c.1
gone_empty level id x y (given a t e (Some k) ds) live c = c.0
gone_empty level id x y s live c = c
gone_empty (ahead j) id x y (given a t e None ds) live c = c.1
gone_empty (ahead j) id x y (given a t e (Some k) ds) live c = c.0
gone_empty (ahead j) id x y s live c = c

-- a Carry or Fin, or a Signal
kind_of : {P : Type 0} → (b : BodyAt P) → IsDeferrable b → IsPlainBody b ⊎ ((d : EndId) × (c : ℕ) × (p : ℕ) × (k : ℕ) × (b ≡ Signal d c p k))
kind_of (Carry to conn number taken msg) i = inl tt
kind_of (Fin to conn number) i = inl tt
kind_of (Claim of) i = absurd i
kind_of (Signal to conn party taken) i = inr (to, conn, party, taken, refl)
kind_of (Ack of conn) i = absurd i
kind_of (Give e resend) i = absurd i
kind_of (Open sess) i = absurd i

-- a frame of an old number
old_kind : {P : Type 0} → (b : BodyAt P) → IsStream b → IsPlainBody b ⊎ ((d : EndId) × (c : ℕ) × (p : ℕ) × (k : ℕ) × (b ≡ Signal d c p k)) ⊎ ((d : EndId) × (c : ℕ) × (b ≡ Ack d c))
old_kind (Carry to conn number taken msg) i = inl tt
old_kind (Fin to conn number) i = inl tt
old_kind (Claim of) i = absurd i
old_kind (Signal to conn party taken) i = inr (inl (to, conn, party, taken, refl))
old_kind (Ack of conn) i = inr (inr (of, conn, refl))
old_kind (Give e resend) i = absurd i
old_kind (Open sess) i = absurd i

-- the Signal, with the name and number of the end
signal_is : {P : Type 0} → (b : BodyAt P) (id : EndId) (n : ℕ) (d : EndId) (c p k : ℕ) → subject_of b ≡ id → number_of b ≡ n → b ≡ Signal d c p k → b ≡ Signal id n p k
signal_is {P} b id n d c p k about number e =
    let i : d ≡ id = sym (ap subject_of e) ∙ about in
    let j : c ≡ n = sym (ap number_of e) ∙ number in
    e ∙ rw (i, j) refl

-- the Ack, with the name and number of the end
ack_is : {P : Type 0} → (b : BodyAt P) (id : EndId) (n : ℕ) (d : EndId) (c : ℕ) → subject_of b ≡ id → number_of b ≡ n → b ≡ Ack d c → b ≡ Ack id n
ack_is {P} b id n d c about number e =
    let i : d ≡ id = sym (ap subject_of e) ∙ about in
    let j : c ≡ n = sym (ap number_of e) ∙ number in
    e ∙ rw (i, j) refl

module _ {P Q : Type 0} (IsOver : P → Type 0) (play : Play P Q) (pick : ℕ → ℕ → ℕ) (w : WorldAt P Q) (f : FrameAt P) (rest : List (FrameAt P))
    (id : EndId) (low : id.side < 2) (about : subject_of f.body ≡ id) (stream : IsStream f.body)
    (x y : PlainSide P) (laws : DeliveryLaws IsOver pick x y) (s : Side P) (place : P) (old left : List (BodyAt P)) where
  -- a Signal, by the row of a seat
  by_signal_row : (seat : Seat P) (b : ℕ) → ((party : ℕ) → IsSignalledTo party seat → ⊥) → IsNotGiven seat → w.lanes (source_for s.seat seat) b ≡ f ∷ rest → number_of f.body ≡ coming_of seat →
      Shows w s.seat (side_of id place seat old (f.body ∷ left)) → Shows w seat s → SoundWith IsOver pick x y s id place level seat old (f.body ∷ left) →
      (d : EndId) (c p k : ℕ) → f.body ≡ Signal d c p k →
      ((a t : ℕ) (es : EndAt P) (ds : List (BodyAt P)) → w.lanes a b ≡ record { clock = f.clock; body = Signal id (coming_of seat) p k } ∷ rest →
      Shows w (signalled a t es ds) (side_of id place seat old (Signal id (coming_of seat) p k ∷ left)) →
      Shows w seat (side_of (other_end id) s.place (signalled a t es ds) s.old s.live) →
      IsSound IsOver level x y (side_of (other_end id) s.place (signalled a t es ds) s.old s.live) (side_of id place seat old (Signal id (coming_of seat) p k ∷ left)) →
      Delivered IsOver play pick w a b id x y (signalled a t es ds) seat) →
      Delivered IsOver play pick w (source_for s.seat seat) b id x y s.seat seat
  by_signal_row seat b never plain front number shows shown sound d c p k e row =
      let n : ℕ = coming_of seat in
      let body_is : f.body ≡ Signal id n p k = signal_is f.body id n d c p k about number e in
      let sound1 : SoundWith IsOver pick x y s id place level seat old (Signal id n p k ∷ left) = subst (λ z. SoundWith IsOver pick x y s id place level seat old (z ∷ left)) body_is sound in
      let sender : (a : ℕ) × (t : ℕ) × (es : EndAt P) × (ds : List (BodyAt P)) × (s.seat ≡ signalled a t es ds) = laws.signal_sender s id place seat old left id n p k never plain sound1 in
      let seat_is : s.seat ≡ signalled sender.0 sender.1 sender.2 sender.3 = sender.4 in
      let s0 : Side P = side_of (other_end id) s.place (signalled sender.0 sender.1 sender.2 sender.3) s.old s.live in
      let side_is : s ≡ s0 = ap (λ i. side_of i s.place s.seat s.old s.live) sound.others ∙ ap (λ z. side_of (other_end id) s.place z s.old s.live) seat_is in
      let front1 : w.lanes (source_for s.seat seat) b ≡ record { clock = f.clock; body = Signal id n p k } ∷ rest = subst (λ z. w.lanes (source_for s.seat seat) b ≡ record { clock = f.clock; body = z } ∷ rest) body_is front in
      let shows1 : Shows w s.seat (side_of id place seat old (Signal id n p k ∷ left)) = subst (λ z. Shows w s.seat (side_of id place seat old (z ∷ left))) body_is shows in
      subst (λ z. Delivered IsOver play pick w (source_for z seat) b id x y z seat) (sym seat_is)
      (row sender.0 sender.1 sender.2 sender.3
      (subst (λ z. w.lanes (source_for z seat) b ≡ record { clock = f.clock; body = Signal id n p k } ∷ rest) seat_is front1)
      (subst (λ z. Shows w z (side_of id place seat old (Signal id n p k ∷ left))) seat_is shows1)
      (subst (λ z. Shows w seat z) side_is shown)
      (subst (λ z. IsSound IsOver level x y z (side_of id place seat old (Signal id n p k ∷ left))) side_is sound1))

  -- at a Held end
  at_held_end : (b : ℕ) (h : HeldAt P) → w.lanes (source_for s.seat (held b h)) b ≡ f ∷ rest → number_of f.body ≡ h.end.conn →
      Shows w s.seat (side_of id place (held b h) old (f.body ∷ left)) → Shows w (held b h) s → SoundWith IsOver pick x y s id place level (held b h) old (f.body ∷ left) →
      Delivered IsOver play pick w (source_for s.seat (held b h)) b id x y s.seat (held b h)
  at_held_end b h front number shows shown sound = by (kind_of f.body defers)
    where
      defers : IsDeferrable f.body
      defers = laws.live_deferrable s id place level (held b h) old left f.body sound

      by : IsPlainBody f.body ⊎ ((d : EndId) × (c : ℕ) × (p : ℕ) × (k : ℕ) × (f.body ≡ Signal d c p k)) → Delivered IsOver play pick w (source_for s.seat (held b h)) b id x y s.seat (held b h)
      by (inl plain) = plain_at_held IsOver play pick w f rest id low about x y s place old left b h (laws.plain_held s id place) front plain defers number (source_is_peer s.seat (held b h) tt sound.numbers) shows shown sound
      by (inr l) = by_signal_row (held b h) b (λ party i. i) tt front number shows shown sound l.0 l.1 l.2 l.3 l.4
          (λ a t es ds fr sh so sd. signal_at_held IsOver play pick w rest id low x y s.place place a t b f.clock es ds s.old s.live old left l.2 l.3 h (laws.signal_held (other_end id) id s.place place a t es ds s.old s.live) fr sh so sd)

  -- at a Parked end
  at_parked_end : (b : ℕ) (e : EndAt P) → w.lanes (source_for s.seat (parked b e)) b ≡ f ∷ rest → number_of f.body ≡ e.conn →
      Shows w s.seat (side_of id place (parked b e) old (f.body ∷ left)) → Shows w (parked b e) s → SoundWith IsOver pick x y s id place level (parked b e) old (f.body ∷ left) →
      Delivered IsOver play pick w (source_for s.seat (parked b e)) b id x y s.seat (parked b e)
  at_parked_end b e front number shows shown sound = by (kind_of f.body (laws.live_deferrable s id place level (parked b e) old left f.body sound))
    where
      by : IsPlainBody f.body ⊎ ((d : EndId) × (c : ℕ) × (p : ℕ) × (k : ℕ) × (f.body ≡ Signal d c p k)) → Delivered IsOver play pick w (source_for s.seat (parked b e)) b id x y s.seat (parked b e)
      by (inl plain) = plain_at_parked IsOver play pick w f rest id low about x y s place old left b e (laws.plain_parked s id place) front plain stream number (source_is_peer s.seat (parked b e) tt sound.numbers) shows shown sound
      by (inr l) = by_signal_row (parked b e) b (λ party i. i) tt front number shows shown sound l.0 l.1 l.2 l.3 l.4
          (λ a t es ds fr sh so sd. signal_at_parked IsOver play pick w rest id low x y s.place place a t b f.clock es ds s.old s.live old left l.2 l.3 e (laws.signal_parked (other_end id) id s.place place a t es ds s.old s.live) fr sh so sd)

  -- at a claimed end
  at_claimed_end : (b u : ℕ) (e : EndAt P) → w.lanes (source_for s.seat (claimed b u e)) b ≡ f ∷ rest → number_of f.body ≡ e.conn →
      Shows w s.seat (side_of id place (claimed b u e) old (f.body ∷ left)) → Shows w (claimed b u e) s → SoundWith IsOver pick x y s id place level (claimed b u e) old (f.body ∷ left) →
      Delivered IsOver play pick w (source_for s.seat (claimed b u e)) b id x y s.seat (claimed b u e)
  at_claimed_end b u e front number shows shown sound = by (kind_of f.body (laws.live_deferrable s id place level (claimed b u e) old left f.body sound))
    where
      by : IsPlainBody f.body ⊎ ((d : EndId) × (c : ℕ) × (p : ℕ) × (k : ℕ) × (f.body ≡ Signal d c p k)) → Delivered IsOver play pick w (source_for s.seat (claimed b u e)) b id x y s.seat (claimed b u e)
      by (inl plain) = plain_at_claimed IsOver play pick w f rest id low about x y s place old left b u e (laws.plain_claimed s id place) front plain stream number (source_is_peer s.seat (claimed b u e) tt sound.numbers) shows shown sound
      by (inr l) = by_signal_row (claimed b u e) b (λ party i. i) tt front number shows shown sound l.0 l.1 l.2 l.3 l.4
          (λ a t es ds fr sh so sd. signal_at_claimed IsOver play pick w rest id low x y s.place place a t b f.clock es ds s.old s.live old left l.2 l.3 u e (laws.signal_claimed (other_end id) id s.place place a t es ds s.old s.live) fr sh so sd)

  -- at a Closed end
  at_closed_end : (b : ℕ) (e : EndAt P) → w.lanes (source_for s.seat (closed b e)) b ≡ f ∷ rest → number_of f.body ≡ e.conn →
      Shows w s.seat (side_of id place (closed b e) old (f.body ∷ left)) → Shows w (closed b e) s → SoundWith IsOver pick x y s id place level (closed b e) old (f.body ∷ left) →
      Delivered IsOver play pick w (source_for s.seat (closed b e)) b id x y s.seat (closed b e)
  at_closed_end b e front number shows shown sound = by (kind_of f.body (laws.live_deferrable s id place level (closed b e) old left f.body sound))
    where
      by : IsPlainBody f.body ⊎ ((d : EndId) × (c : ℕ) × (p : ℕ) × (k : ℕ) × (f.body ≡ Signal d c p k)) → Delivered IsOver play pick w (source_for s.seat (closed b e)) b id x y s.seat (closed b e)
      by (inl plain) = plain_at_closed IsOver play pick w f rest id low about x y s place old left b e (laws.plain_closed s id place) front plain stream number (source_is_peer s.seat (closed b e) tt sound.numbers) shows shown sound
      by (inr l) = by_signal_row (closed b e) b (λ party i. i) tt front number shows shown sound l.0 l.1 l.2 l.3 l.4
          (λ a t es ds fr sh so sd. signal_at_closed IsOver play pick w rest id low x y s.place place a t b f.clock es ds s.old s.live old left l.2 l.3 e (laws.signal_closed (other_end id) id s.place place a t es ds s.old s.live) fr sh so sd)

  -- a frame of the live stream
  pub live_delivered : (pace : Pace) (seat : Seat P) → w.lanes (source_for s.seat seat) (taker_of seat) ≡ f ∷ rest → number_of f.body ≡ coming_of seat →
      Shows w s.seat (side_of id place seat old (f.body ∷ left)) → Shows w seat s → SoundWith IsOver pick x y s id place pace seat old (f.body ∷ left) →
      Delivered IsOver play pick w (source_for s.seat seat) (taker_of seat) id x y s.seat seat
  live_delivered pace (held b h) front number shows shown sound =
      at_held_end b h front number shows shown (subst (λ z. SoundWith IsOver pick x y s id place z (held b h) old (f.body ∷ left)) (live_level pace id x y s.seat (held b h) f.body left tt (λ party i. i) sound.numbers sound.there.comes) sound)
  live_delivered pace (parked b e) front number shows shown sound =
      at_parked_end b e front number shows shown (subst (λ z. SoundWith IsOver pick x y s id place z (parked b e) old (f.body ∷ left)) (live_level pace id x y s.seat (parked b e) f.body left tt (λ party i. i) sound.numbers sound.there.comes) sound)
  live_delivered pace (claimed b u e) front number shows shown sound =
      at_claimed_end b u e front number shows shown (subst (λ z. SoundWith IsOver pick x y s id place z (claimed b u e) old (f.body ∷ left)) (live_level pace id x y s.seat (claimed b u e) f.body left tt (λ party i. i) sound.numbers sound.there.comes) sound)
  live_delivered pace (signalled b u e ds) front number shows shown sound =
      defers_at_signalled IsOver play pick w f rest id low about x y s place old left pace b u e ds (laws.defers_signalled s id place) front number shows shown sound
  live_delivered pace (given b u e resend ds) front number shows shown sound =
      defers_at_given IsOver play pick w f rest id low about x y s place old left pace b u e resend ds (laws.defers_given s id place) front number shows shown sound
  live_delivered pace (closed b e) front number shows shown sound =
      at_closed_end b e front number shows shown (subst (λ z. SoundWith IsOver pick x y s id place z (closed b e) old (f.body ∷ left)) (live_level pace id x y s.seat (closed b e) f.body left tt (λ party i. i) sound.numbers sound.there.comes) sound)
  live_delivered pace gone front number shows shown sound = absurd (cc (gone_empty pace id x y s.seat (f.body ∷ left) sound.there.comes))

  -- a frame under the number of a Signalled end
  pub old_delivered : (pace : Pace) (b u : ℕ) (e : EndAt P) (ds live : List (BodyAt P)) → w.lanes e.peer b ≡ f ∷ rest → number_of f.body ≡ e.conn →
      Shows w s.seat (side_of id place (signalled b u e ds) (f.body ∷ left) live) → Shows w (signalled b u e ds) s → SoundWith IsOver pick x y s id place pace (signalled b u e ds) (f.body ∷ left) live →
      Delivered IsOver play pick w e.peer b id x y s.seat (signalled b u e ds)
  old_delivered pace b u e ds live front number shows shown sound = by (old_kind f.body stream)
    where
      at_body : (body : BodyAt P) → f.body ≡ body → (w.lanes e.peer b ≡ record { clock = f.clock; body = body } ∷ rest)
          × Shows w s.seat (side_of id place (signalled b u e ds) (body ∷ left) live) × SoundWith IsOver pick x y s id place pace (signalled b u e ds) (body ∷ left) live
      at_body body i = (
        subst (λ z. w.lanes e.peer b ≡ record { clock = f.clock; body = z } ∷ rest) i front,
        subst (λ z. Shows w s.seat (side_of id place (signalled b u e ds) (z ∷ left) live)) i shows,
        subst (λ z. SoundWith IsOver pick x y s id place pace (signalled b u e ds) (z ∷ left) live) i sound,
      )

      by : IsPlainBody f.body ⊎ ((d : EndId) × (c : ℕ) × (p : ℕ) × (k : ℕ) × (f.body ≡ Signal d c p k)) ⊎ ((d : EndId) × (c : ℕ) × (f.body ≡ Ack d c)) → Delivered IsOver play pick w e.peer b id x y s.seat (signalled b u e ds)
      by (inl plain) = plain_at_old IsOver play pick w f rest id low about x y s place left live pace b u e ds front stream number shows shown sound (laws.plain_old s id place) plain
      by (inr (inl l)) =
          let m : (w.lanes e.peer b ≡ record { clock = f.clock; body = Signal id e.conn l.2 l.3 } ∷ rest) × Shows w s.seat (side_of id place (signalled b u e ds) (Signal id e.conn l.2 l.3 ∷ left) live)
          × SoundWith IsOver pick x y s id place pace (signalled b u e ds) (Signal id e.conn l.2 l.3 ∷ left) live = at_body (Signal id e.conn l.2 l.3) (signal_is f.body id e.conn l.0 l.1 l.2 l.3 about number l.4) in
          signal_at_old IsOver play pick w f.clock rest id low x y s place left live pace b u e ds shown l.2 l.3 (laws.signal_old s id place) m.0 m.1 m.2
      by (inr (inr l)) =
          let m : (w.lanes e.peer b ≡ record { clock = f.clock; body = Ack id e.conn } ∷ rest) × Shows w s.seat (side_of id place (signalled b u e ds) (Ack id e.conn ∷ left) live)
          × SoundWith IsOver pick x y s id place pace (signalled b u e ds) (Ack id e.conn ∷ left) live = at_body (Ack id e.conn) (ack_is f.body id e.conn l.0 l.1 about number l.2) in
          ack_at_old IsOver play pick w f.clock rest id low x y s place left live pace b u e ds shown (laws.ack_old s id place) m.0 m.1 m.2
