-- The session laws that the world's level needs: an event of a session fits its row, and the
-- session stays sound.
use Rattle.std.proofs.Common.{◌≡◌, ℕ, List, [], ◌∷◌, ◌++◌}
use Rattle.std.specs.Prelude.{⊤, Option, Some, None}
use Rattle.sj_base.specs.declared.EndId.{EndId}
use Rattle.sj_rules.specs.Record.{EndAt, BodyAt, Carry, Fin, Claim, Signal, Ack, Give, Open, HeldAt}
use Rattle.sj_rules.specs.Rows.{trimmed_end, end_with_peer, crossing_body, acked_body, at_held}
use Rattle.sj_rules.specs.Seat.{Seat, held, parked, claimed, signalled, given, closed, gone, Side, side_of}
use Rattle.sj_rules.specs.PlainSide.{PlainSide}
use Rattle.sj_rules.specs.Numbers.{Pace, level}
use Rattle.sj_rules.specs.Invariant.{IsSound}
use Rattle.sj_world_lemmas.proofs.InstallLemmas.{old_after, live_after}

-- a Carry or a Fin
abbrev pub IsPlainBody : {P : Type 0} → BodyAt P → Type 0
IsPlainBody (Carry to conn number taken msg) = ⊤
IsPlainBody (Fin to conn number) = ⊤
IsPlainBody (Claim of) = ⊥
IsPlainBody (Signal to conn party taken) = ⊥
IsPlainBody (Ack of conn) = ⊥
IsPlainBody (Give e resend) = ⊥
IsPlainBody (Open sess) = ⊥

-- what is deferred
abbrev pub IsDeferrable : {P : Type 0} → BodyAt P → Type 0
IsDeferrable (Carry to conn number taken msg) = ⊤
IsDeferrable (Fin to conn number) = ⊤
IsDeferrable (Signal to conn party taken) = ⊤
IsDeferrable (Claim of) = ⊥
IsDeferrable (Ack of conn) = ⊥
IsDeferrable (Give e resend) = ⊥
IsDeferrable (Open sess) = ⊥

module _ {P : Type 0} (IsOver : P → Type 0) (pick : ℕ → ℕ → ℕ) (x y : PlainSide P) (s : Side P) (id : EndId) (place : P) where
  -- the session with the end in that seat
  abbrev pub SoundWith : Pace → Seat P → (old live : List (BodyAt P)) → Type 0
  SoundWith pace seat old live = IsSound IsOver pace x y s (side_of id place seat old live)

  -- a Carry or Fin at a Held end
  abbrev pub PlainAtHeld : Type 0
  PlainAtHeld = (b : ℕ) (h : HeldAt P) (ro rest : List (BodyAt P)) (f : BodyAt P) → IsPlainBody f → SoundWith level (held b h) ro (f ∷ rest) →
      (g : HeldAt P) × (g.end.conn ≡ h.end.conn) × (g.end.peer ≡ h.end.peer) × (at_held pick h h.end.peer f ≡ Some (record { state = g; posts = [] })) × SoundWith level (held b g) ro rest

  -- a Carry or Fin that is dropped
  abbrev pub PlainAtParked : Type 0
  PlainAtParked = (b : ℕ) (e : EndAt P) (ro rest : List (BodyAt P)) (f : BodyAt P) → IsPlainBody f → SoundWith level (parked b e) ro (f ∷ rest) → SoundWith level (parked b e) ro rest

  -- the same where the end is claimed
  abbrev pub PlainAtClaimed : Type 0
  PlainAtClaimed = (b u : ℕ) (e : EndAt P) (ro rest : List (BodyAt P)) (f : BodyAt P) → IsPlainBody f → SoundWith level (claimed b u e) ro (f ∷ rest) → SoundWith level (claimed b u e) ro rest

  -- under the number of a Signalled end
  abbrev pub PlainAtOld : Type 0
  PlainAtOld = (pace : Pace) (b u : ℕ) (e : EndAt P) (ds rest rl : List (BodyAt P)) (f : BodyAt P) → IsPlainBody f →
      SoundWith pace (signalled b u e ds) (f ∷ rest) rl → SoundWith pace (signalled b u e ds) rest rl

  -- a Fin at a Closed end: the end is gone. No Carry comes there
  abbrev pub PlainAtClosed : Type 0
  PlainAtClosed = (b : ℕ) (e : EndAt P) (ro rest : List (BodyAt P)) (f : BodyAt P) → IsPlainBody f → SoundWith level (closed b e) ro (f ∷ rest) →
      (c : ℕ) × (f ≡ Fin id c e.taken) × (rest ≡ []) × (c ≡ e.conn) × SoundWith level gone ro []

  -- what is deferred
  abbrev pub DefersAtSignalled : Type 0
  DefersAtSignalled = (pace : Pace) (b u : ℕ) (e : EndAt P) (ds ro rest : List (BodyAt P)) (f : BodyAt P) →
      SoundWith pace (signalled b u e ds) ro (f ∷ rest) → IsDeferrable f × SoundWith pace (signalled b u e (ds ++ f ∷ [])) ro rest

  -- at the taker of a Give
  abbrev pub DefersAtGiven : Type 0
  DefersAtGiven = (pace : Pace) (b u : ℕ) (e : EndAt P) (resend : Option ℕ) (ds ro rest : List (BodyAt P)) (f : BodyAt P) →
      SoundWith pace (given b u e resend ds) ro (f ∷ rest) → IsDeferrable f × SoundWith pace (given b u e resend (ds ++ f ∷ [])) ro rest

  -- only what is deferred, elsewhere too; and nothing comes to an end that is gone
  abbrev pub LiveIsDeferrable : Type 0
  LiveIsDeferrable = (pace : Pace) (seat : Seat P) (ro rest : List (BodyAt P)) (f : BodyAt P) → SoundWith pace seat ro (f ∷ rest) → IsDeferrable f

  -- a Signal or an Ack under the number of a Signalled end: it goes as a Give
  abbrev pub SignalAtOld : Type 0
  SignalAtOld = (pace : Pace) (b u : ℕ) (e : EndAt P) (ds rest rl : List (BodyAt P)) (c p k : ℕ) → SoundWith pace (signalled b u e ds) (Signal id c p k ∷ rest) rl →
      (pace' : Pace) × (rest ≡ []) × (crossing_body pick e e.peer c p k ≡ Some (Give (trimmed_end pick (end_with_peer e p) k) (Some k)))
      × SoundWith pace' (given b u (trimmed_end pick (end_with_peer e p) k) (Some k) ds) [] rl

  -- an Ack there
  abbrev pub AckAtOld : Type 0
  AckAtOld = (pace : Pace) (b u : ℕ) (e : EndAt P) (ds rest rl : List (BodyAt P)) (c : ℕ) → SoundWith pace (signalled b u e ds) (Ack id c ∷ rest) rl →
      (pace' : Pace) × (rest ≡ []) × (acked_body e e.peer c ≡ Some (Give (end_with_peer e e.peer) None))
      × SoundWith pace' (given b u (end_with_peer e e.peer) None ds) [] rl

-- frames more that come to an end from the sender of the other, by their pace
abbrev pub with_more : {P : Type 0} → Pace → Side P → List (BodyAt P) → Side P
with_more pace s more = record s { old = old_after pace s.seat s.old more; live = live_after pace s.seat s.live more }

module _ {P : Type 0} (IsOver : P → Type 0) (pick : ℕ → ℕ → ℕ) (x y : PlainSide P) (s : Side P) (id : EndId) (place : P) where
  -- a Claim: the end is Signalled, and its Signal goes out
  abbrev pub ClaimAtClaimed : Type 0
  ClaimAtClaimed = (pace : Pace) (b u : ℕ) (e : EndAt P) (ro rl : List (BodyAt P)) → IsSound IsOver pace x y s (side_of id place (claimed b u e) ro rl) →
      IsSound IsOver pace x y (with_more pace s (Signal s.id e.conn u e.taken ∷ [])) (side_of id place (signalled b u e []) rl [])
