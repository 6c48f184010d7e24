-- The front frame of a lane always fits a row, and the world is kept by it.
use Rattle.std.proofs.Common.{◌≡◌, ℕ, ◌<◌, List, [], ◌∷◌, refl, sym, ap, subst, ◌∙◌, arith, inl, inr}
use Rattle.std.specs.Prelude.{◌⊎◌, false, Option}
use Rattle.std.specs.List.{AllByRecursion}
use Rattle.std.proofs.lemmas.Bool.{eq-eqb}
use Rattle.sj_base.specs.declared.EndId.{EndId}
use Rattle.sj_rules.specs.Record.{EndAt, BodyAt, Carry, Fin, Claim, Signal, Ack, Give, Open, other_end}
use Rattle.sj_rules.specs.Opened.{is_open}
use Rattle.sj_rules.specs.Node.{Play}
use Rattle.sj_rules.specs.Frames.{FrameAt}
use Rattle.sj_rules.specs.World.{WorldAt}
use Rattle.sj_rules.specs.Seat.{Seat, claimed, signalled, given, Side, source_for, taker_of, side_of}
use Rattle.sj_rules.specs.Shown.{Shows, bodies}
use Rattle.sj_rules.specs.PlainSide.{PlainSide}
use Rattle.sj_rules.specs.Numbers.{Pace}
use Rattle.sj_rules.specs.Invariant.{IsSound}
use Rattle.sj_rules.specs.Linked.{subject_of, Sessions}
use Rattle.sj_world_lemmas.proofs.PopLemmas.{IsStream}
use Rattle.sj_world_lemmas.proofs.SwapLemmas.{other_other}
use Rattle.sj_world_lemmas.proofs.OutcomeLemmas.{sound_at}
use Rattle.sj_world_lemmas.proofs.HandoverLaws.{DeliveryLaws}
use Rattle.sj_world_lemmas.proofs.SessionLaws.{SoundWith}
use Rattle.sj_world_lemmas.proofs.EventLemmas.{number_of, goes_under, same_end, Delivered}
use Rattle.sj_world_lemmas.proofs.FoundLemmas.{Found, in_live, in_old, found, claim_found, give_found}
use Rattle.sj_world_lemmas.proofs.DispatchLemmas.{live_delivered, old_delivered}
use Rattle.sj_world_lemmas.proofs.ClaimLemmas.{claim_comes_to}
use Rattle.sj_world_lemmas.proofs.GiveLemmas.{give_comes_to}

-- a frame of a stream, a Claim or a Give, where it is no Open
body_kind : {P : Type 0} → (b : BodyAt P) → is_open b ≡ false → IsStream b ⊎ ((d : EndId) × (b ≡ Claim d)) ⊎ ((e : EndAt P) × (resend : Option ℕ) × (b ≡ Give e resend))
body_kind (Carry to conn number taken msg) o = inl tt
body_kind (Fin to conn number) o = inl tt
body_kind (Claim of) o = inr (inl (of, refl))
body_kind (Signal to conn party taken) o = inl tt
body_kind (Ack of conn) o = inl tt
body_kind (Give e resend) o = inr (inr (e, resend, refl))
body_kind (Open sess) o = absurd (cc o)

module _ {P Q : Type 0} (IsOver : P → Type 0) (play : Play P Q) (pick : ℕ → ℕ → ℕ) (w : WorldAt P Q) (q at : ℕ) (f : FrameAt P) (rest : List (FrameAt P)) (front : w.lanes q at ≡ f ∷ rest)
    (id : EndId) (low : id.side < 2) (about : subject_of f.body ≡ id)
    (x y : PlainSide P) (laws : DeliveryLaws IsOver pick x y) (s : Side P) (place : P) (seat : Seat P) (old live : List (BodyAt P)) (pace : Pace)
    (shows : Shows w s.seat (side_of id place seat old live)) (shown : Shows w seat s) (sound : SoundWith IsOver pick x y s id place pace seat old live) where
  -- a frame of a stream
  stream_delivered : IsStream f.body → Delivered IsOver play pick w q at id x y s.seat seat
  stream_delivered stream = by (found w s.seat id place seat old live shows q at f rest front (number_of f.body) (rw (← about) (goes_under f.body stream (number_of f.body) ∙ eq-eqb (number_of f.body) (number_of f.body) refl)))
    where
      by : Found s.seat seat old live q at (number_of f.body) f.body → Delivered IsOver play pick w q at id x y s.seat seat
      by (in_live left qi ai ci li) =
          let front1 : w.lanes (source_for s.seat seat) (taker_of seat) ≡ f ∷ rest = subst (λ (z : ℕ). w.lanes (source_for s.seat seat) z ≡ f ∷ rest) ai (subst (λ (z : ℕ). w.lanes z at ≡ f ∷ rest) qi front) in
          subst (λ (z : ℕ). Delivered IsOver play pick w z at id x y s.seat seat) (sym qi)
          (subst (λ (z : ℕ). Delivered IsOver play pick w (source_for s.seat seat) z id x y s.seat seat) (sym ai)
          (live_delivered IsOver play pick w f rest id low about stream x y laws s place old left pace seat front1 ci
          (subst (λ z. Shows w s.seat (side_of id place seat old z)) li shows) shown (subst (λ z. SoundWith IsOver pick x y s id place pace seat old z) li sound)))
      by (in_old a t e ds left si qi ai ci li) =
          let front1 : w.lanes e.peer a ≡ f ∷ rest = subst (λ (z : ℕ). w.lanes e.peer z ≡ f ∷ rest) ai (subst (λ (z : ℕ). w.lanes z at ≡ f ∷ rest) qi front) in
          subst (λ (z : ℕ). Delivered IsOver play pick w z at id x y s.seat seat) (sym qi)
          (subst (λ (z : ℕ). Delivered IsOver play pick w e.peer z id x y s.seat seat) (sym ai)
          (subst (λ z. Delivered IsOver play pick w e.peer a id x y s.seat z) (sym si)
          (old_delivered IsOver play pick w f rest id low about stream x y laws s place [] left pace a t e ds live front1 ci
          (subst (λ z. Shows w s.seat (side_of id place (signalled a t e ds) z live)) li (subst (λ z. Shows w s.seat (side_of id place z old live)) si shows))
          (subst (λ z. Shows w z s) si shown)
          (subst (λ z. SoundWith IsOver pick x y s id place pace (signalled a t e ds) z live) li (subst (λ z. SoundWith IsOver pick x y s id place pace z old live) si sound)))))

  -- a Claim, where it was found
  claim_at : (k u : ℕ) (e : EndAt P) → seat ≡ claimed k u e → q ≡ u → at ≡ k → f.body ≡ Claim id → Delivered IsOver play pick w q at id x y s.seat seat
  claim_at k u e si qi ai b =
      let front1 : w.lanes u k ≡ record { clock = f.clock; body = Claim id } ∷ rest =
      subst (λ z. w.lanes u k ≡ record { clock = f.clock; body = z } ∷ rest) b (subst (λ (z : ℕ). w.lanes u z ≡ f ∷ rest) ai (subst (λ (z : ℕ). w.lanes z at ≡ f ∷ rest) qi front)) in
      subst (λ (z : ℕ). Delivered IsOver play pick w z at id x y s.seat seat) (sym qi)
      (subst (λ (z : ℕ). Delivered IsOver play pick w u z id x y s.seat seat) (sym ai)
      (subst (λ z. Delivered IsOver play pick w u k id x y s.seat z) (sym si)
      (claim_comes_to IsOver play pick w f.clock rest id low x y s place old live pace k u e front1
      (subst (λ z. Shows w s.seat (side_of id place z old live)) si shows) (subst (λ z. Shows w z s) si shown)
      (subst (λ z. SoundWith IsOver pick x y s id place pace z old live) si sound) (laws.claim s id place low))))

  -- a Claim
  claim_delivered : (d : EndId) → f.body ≡ Claim d → Delivered IsOver play pick w q at id x y s.seat seat
  claim_delivered d b =
      let own : d ≡ id = sym (ap subject_of b) ∙ about in
      let b1 : f.body ≡ Claim id = b ∙ ap (λ i. Claim i) own in
      let l : (k : ℕ) × (u : ℕ) × (e : EndAt P) × (seat ≡ claimed k u e) × (q ≡ u) × (at ≡ k) = claim_found w s.seat id place seat old live shows q at f rest front (rw b1 (same_end id)) in
      claim_at l.0 l.1 l.2 l.3 l.4 l.5 b1

  -- a Give, where it was found
  give_at : (k u : ℕ) (e : EndAt P) (resend : Option ℕ) (ds : List (BodyAt P)) → seat ≡ given k u e resend ds → q ≡ k → at ≡ u → f.body ≡ Give e resend → Delivered IsOver play pick w q at id x y s.seat seat
  give_at k u e resend ds si qi ai b =
      let front1 : w.lanes k u ≡ record { clock = f.clock; body = Give e resend } ∷ rest =
      subst (λ z. w.lanes k u ≡ record { clock = f.clock; body = z } ∷ rest) b (subst (λ (z : ℕ). w.lanes k z ≡ f ∷ rest) ai (subst (λ (z : ℕ). w.lanes z at ≡ f ∷ rest) qi front)) in
      subst (λ (z : ℕ). Delivered IsOver play pick w z at id x y s.seat seat) (sym qi)
      (subst (λ (z : ℕ). Delivered IsOver play pick w k z id x y s.seat seat) (sym ai)
      (subst (λ z. Delivered IsOver play pick w k u id x y s.seat z) (sym si)
      (give_comes_to IsOver play pick w f.clock rest id low x y s place old live pace k u e resend ds front1
      (subst (λ z. Shows w s.seat (side_of id place z old live)) si shows) (subst (λ z. Shows w z s) si shown)
      (subst (λ z. SoundWith IsOver pick x y s id place pace z old live) si sound) (laws.give s id place))))

  -- a Give
  give_delivered : (g : EndAt P) (r : Option ℕ) → f.body ≡ Give g r → Delivered IsOver play pick w q at id x y s.seat seat
  give_delivered g r b =
      let own : g.id ≡ id = sym (ap subject_of b) ∙ about in
      let l : (k : ℕ) × (u : ℕ) × (e : EndAt P) × (resend : Option ℕ) × (ds : List (BodyAt P)) × (seat ≡ given k u e resend ds) × (q ≡ k) × (at ≡ u) × (f.body ≡ Give e resend) =
      give_found w s.seat id place seat old live shows q at f rest front (rw (b, own) (same_end id)) in
      give_at l.0 l.1 l.2 l.3 l.4 l.5 l.6 l.7 l.8

  -- whatever the frame is
  pub frame_delivered : is_open f.body ≡ false → Delivered IsOver play pick w q at id x y s.seat seat
  frame_delivered o = by (body_kind f.body o)
    where
      by : IsStream f.body ⊎ ((d : EndId) × (f.body ≡ Claim d)) ⊎ ((e : EndAt P) × (resend : Option ℕ) × (f.body ≡ Give e resend)) → Delivered IsOver play pick w q at id x y s.seat seat
      by (inl stream) = stream_delivered stream
      by (inr (inl l)) = claim_delivered l.0 l.1
      by (inr (inr l)) = give_delivered l.0 l.1 l.2

-- the front frame is about an end
pub front_side : {P : Type 0} → (fs : List (FrameAt P)) (f : FrameAt P) (rest : List (FrameAt P)) → fs ≡ f ∷ rest → AllByRecursion (λ b. (subject_of b).side < 2) (bodies fs) → (subject_of f.body).side < 2
front_side [] f rest e a = absurd (cc e)
front_side (g ∷ gs) f rest e a = let i : g ≡ f = cc e in rw i at a.0

-- the front frame of a lane fits a row
pub front_fits : {P Q : Type 0} → (IsOver : P → Type 0) (play : Play P Q) (pick : ℕ → ℕ → ℕ) (w : WorldAt P Q) (knows : EndId → PlainSide P) (before : Sessions IsOver w knows) →
    ((e : EndId) → e.side < 2 → DeliveryLaws IsOver pick (knows (other_end e)) (knows e)) →
    (q at : ℕ) (f : FrameAt P) (rest : List (FrameAt P)) → w.lanes q at ≡ f ∷ rest → is_open f.body ≡ false →
    ((subject_of f.body).side < 2) × Delivered IsOver play pick w q at (subject_of f.body) (knows (other_end (subject_of f.body))) (knows (subject_of f.body)) (before.sides (other_end (subject_of f.body))).seat (before.sides (subject_of f.body)).seat
front_fits {P} IsOver play pick w knows before laws q at f rest front plain =
    let id : EndId = subject_of f.body in
    let low : id.side < 2 = front_side (w.lanes q at) f rest front (before.proper q at) in
    let r : Side P = before.sides id in
    let s : Side P = before.sides (other_end id) in
    let sound : (pace : Pace) × IsSound IsOver pace (knows (other_end id)) (knows id) s r = sound_at IsOver w knows before id low in
    let shown : Shows w r.seat s = subst (λ d. Shows w (before.sides d).seat s) (other_other id low) (before.shows (other_end id) (omega arith)) in (
      low,
      frame_delivered IsOver play pick w q at f rest front id low refl (knows (other_end id)) (knows id) (laws id low) s r.place r.seat r.old r.live sound.0
          (subst (λ i. Shows w s.seat (side_of i r.place r.seat r.old r.live)) (before.ids id) (before.shows id low)) shown
          (subst (λ i. IsSound IsOver sound.0 (knows (other_end id)) (knows id) s (side_of i r.place r.seat r.old r.live)) (before.ids id) sound.1) plain,
    )
