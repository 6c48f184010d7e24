-- The invariant of the whole world: each session is sound, and session messages name the ends that
-- are Parked.
use Rattle.std.specs.Prelude.{◌≡◌, ◌↔◌, ℕ, ◌<◌, Bool, true, false, List, slice_get, Option, Some, None}
use Rattle.std.specs.List.{AllByRecursion}
use Rattle.sj_base.specs.declared.EndId.{EndId}
use Rattle.sj_base.specs.declared.Msg.{Msg}
use Rattle.sj_base.specs.declared.Msg.TheVariants as msgs
use Rattle.sj_rules.specs.Record.{BodyAt, Carry, Fin, Claim, Signal, Ack, Give, Open, other_end, offered_end}
use Rattle.sj_rules.specs.Frames.{FrameAt}
use Rattle.sj_rules.specs.World.{WorldAt}
use Rattle.sj_rules.specs.Seat.{Seat, held, parked, claimed, signalled, given, closed, gone, Side}
use Rattle.sj_rules.specs.Shown.{Shows, bodies}
use Rattle.sj_rules.specs.PlainSide.{PlainAt, PlainSide, untaken_of}
use Rattle.sj_rules.specs.Numbers.{Pace}
use Rattle.sj_rules.specs.Invariant.{IsSound}

-- the party that uses an end, or awaits it
abbrev pub user_of : {P : Type 0} → Seat P → Option ℕ
user_of (held at h) = Some at
user_of (claimed at to e) = Some to
user_of (signalled at to e deferred) = Some to
user_of (given at to e resend deferred) = Some to
user_of (parked at e) = None
user_of (closed at e) = None
user_of gone = None

-- nobody has taken the session message of this end
abbrev pub IsParkedAt : {P : Type 0} → (keeper : ℕ) → Seat P → Type 0
IsParkedAt keeper (parked at e) = at ≡ keeper
IsParkedAt keeper (held at h) = ⊥
IsParkedAt keeper (claimed at to e) = ⊥
IsParkedAt keeper (signalled at to e deferred) = ⊥
IsParkedAt keeper (given at to e resend deferred) = ⊥
IsParkedAt keeper (closed at e) = ⊥
IsParkedAt keeper gone = ⊥

-- the message that waits for an end at that place
abbrev pub waiting_at : {P Q : Type 0} → PlainAt P Q → EndId → ℕ → Option Msg
waiting_at plain e n = slice_get (untaken_of (plain.sides (other_end e)) (plain.sides e)) n

-- the two halves of the link, and that no end is named twice
pub record IsLinked {P Q : Type 0} (plain : PlainAt P Q) (seats : EndId → Seat P) : Type 0 where
  pub parks : (e : EndId) (n sess side keeper : ℕ) → e.side < 2 → waiting_at plain e n ≡ Some (msgs.Sess sess side keeper) →
      (side < 2) × IsParkedAt keeper (seats (record { sess = sess; side = side }))
  pub named : (d : EndId) (keeper : ℕ) → d.side < 2 → IsParkedAt keeper (seats d) →
      (e : EndId) × (n : ℕ) × (e.side < 2) × (waiting_at plain e n ≡ Some (msgs.Sess d.sess d.side keeper))
  pub once : (e f : EndId) (m n sess side keeper other : ℕ) → e.side < 2 → f.side < 2 →
      waiting_at plain e m ≡ Some (msgs.Sess sess side keeper) →
      waiting_at plain f n ≡ Some (msgs.Sess sess side other) → (e ≡ f) × (m ≡ n)

-- the end that a body speaks of
abbrev pub subject_of : {P : Type 0} → BodyAt P → EndId
subject_of (Carry to conn number taken msg) = to
subject_of (Fin to conn number) = to
subject_of (Claim of) = of
subject_of (Signal to conn party taken) = to
subject_of (Ack of conn) = of
subject_of (Give e resend) = e.id
subject_of (Open sess) = offered_end sess

-- the end of that session and side
abbrev pub end_named : ℕ → ℕ → EndId
end_named sess side = record { sess = sess; side = side }

-- all frames are about ends
abbrev pub AreProper : {P : Type 0} → (ℕ → ℕ → List (FrameAt P)) → Type 0
AreProper lanes = (p q : ℕ) → AllByRecursion (λ b. (subject_of b).side < 2) (bodies (lanes p q))

-- each session is sound, and the world shows it; `knows` is what the plain world knows of each end.
-- Sessions that the file doesn't have count as gone, with nothing sent
pub record Sessions {P Q : Type 0} (IsOver : P → Type 0) (w : WorldAt P Q) (knows : EndId → PlainSide P) : Type 0 where
  pub sides : EndId → Side P
  pub pace : ℕ → Pace
  pub ids : (e : EndId) → (sides e).id ≡ e
  pub shows : (e : EndId) → e.side < 2 → Shows w (sides (other_end e)).seat (sides e)
  pub proper : AreProper w.lanes
  pub sound : (sess : ℕ) → IsSound IsOver (pace sess) (knows (end_named sess 0)) (knows (end_named sess 1)) (sides (end_named sess 0)) (sides (end_named sess 1))

-- the invariant
pub record IsKept {P Q : Type 0} (IsOver : P → Type 0) (binds : Q → EndId → Bool) (w : WorldAt P Q) (plain : PlainAt P Q) : Type 0 where
  pub sessions : Sessions IsOver w plain.sides
  pub linked : IsLinked plain (λ e. (sessions.sides e).seat)
  pub programs : (p : ℕ) → (w.nodes p).program ≡ plain.programs p
  -- an offered end is bound nowhere, but in use all the same
  pub bound : (p : ℕ) (e : EndId) → e.side < 2 → (plain.sides e).offered ≡ false → (binds (plain.programs p) e ≡ true) ↔ (user_of (sessions.sides e).seat ≡ Some p)
