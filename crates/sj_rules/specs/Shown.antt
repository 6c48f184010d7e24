-- Records and lanes: what a world shows of an end that is in some seat.
use Rattle.std.specs.Prelude.{◌≡◌, ℕ, Bool, false, ◌&&◌, ◌==◌, if◌then◌else◌, List, [], ◌∷◌, ◌++◌, map, filter, Option, Some, None}
use Rattle.sj_base.specs.declared.EndId.{EndId}
use Rattle.sj_rules.specs.Record.{BodyAt, Carry, Fin, Claim, Signal, Ack, Give, Open, MainAt, Held, Closed, Expected, OldAt, Parked, Signalled, is_same_end}
use Rattle.sj_rules.specs.Frames.{FrameAt}
use Rattle.sj_rules.specs.World.{WorldAt}
use Rattle.sj_rules.specs.Seat.{Seat, held, parked, claimed, signalled, given, closed, gone, Side, coming_of, taker_of, source_for}
use Rattle.sj_rules.specs.Worked.{mails_of}

-- what a party's tables show of the end; `from` sent what is deferred
abbrev pub main_shown : {P : Type 0} → (from : ℕ) → P → Seat P → ℕ → Option (MainAt P)
main_shown from place (held at h) p = if p == at then Some (Held h) else None
main_shown from place (parked at e) p = None
main_shown from place (claimed at to e) p = if p == to then Some (Expected at place []) else None
main_shown from place (signalled at to e deferred) p = if p == to then Some (Expected at place (mails_of from deferred)) else None
main_shown from place (given at to e resend deferred) p = if p == to then Some (Expected at place (mails_of from deferred)) else None
main_shown from place (closed at e) p = if p == at then Some (Closed e) else None
main_shown from place gone p = None

-- the old record that a party shows of the end
abbrev pub old_shown : {P : Type 0} → Seat P → ℕ → Option (OldAt P)
old_shown (parked at e) p = if p == at then Some (Parked e) else None
old_shown (claimed at to e) p = if p == at then Some (Parked e) else None
old_shown (signalled at to e deferred) p = if p == at then Some (Signalled e to) else None
old_shown (held at h) p = None
old_shown (given at to e resend deferred) p = None
old_shown (closed at e) p = None
old_shown gone p = None

-- the frames of a lane that go to the end under that number, its Claims, and its Gives
abbrev pub goes_to : {P : Type 0} → EndId → ℕ → BodyAt P → Bool
goes_to e c (Carry to conn number taken msg) = is_same_end to e && (c == conn)
goes_to e c (Fin to conn number) = is_same_end to e && (c == conn)
goes_to e c (Signal to conn party taken) = is_same_end to e && (c == conn)
goes_to e c (Ack of conn) = is_same_end of e && (c == conn)
goes_to e c (Claim of) = false
goes_to e c (Give end resend) = false
goes_to e c (Open sess) = false

-- it is a Claim of that end
abbrev pub is_claim : {P : Type 0} → EndId → BodyAt P → Bool
is_claim e (Claim of) = is_same_end of e
is_claim e (Carry to conn number taken msg) = false
is_claim e (Fin to conn number) = false
is_claim e (Signal to conn party taken) = false
is_claim e (Ack of conn) = false
is_claim e (Give end resend) = false
is_claim e (Open sess) = false

-- it is the Give of that end
abbrev pub is_give : {P : Type 0} → EndId → BodyAt P → Bool
is_give e (Give end resend) = is_same_end end.id e
is_give e (Claim of) = false
is_give e (Carry to conn number taken msg) = false
is_give e (Fin to conn number) = false
is_give e (Signal to conn party taken) = false
is_give e (Ack of conn) = false
is_give e (Open sess) = false

-- what frames say
abbrev pub bodies : {P : Type 0} → List (FrameAt P) → List (BodyAt P)
bodies frames = map (λ f. f.body) frames

-- it is the lane between these two
abbrev pub is_lane : (p q from to : ℕ) → Bool
is_lane p q from to = (p == from) && (q == to)

-- what the lane from p to q shows of the end under number c
abbrev pub old_in : {P : Type 0} → Seat P → (old : List (BodyAt P)) → (p q c : ℕ) → List (BodyAt P)
old_in (signalled at to e deferred) old p q c = if is_lane p q e.peer at && (c == e.conn) then old else []
old_in (held at h) old p q c = []
old_in (parked at e) old p q c = []
old_in (claimed at to e) old p q c = []
old_in (given at to e resend deferred) old p q c = []
old_in (closed at e) old p q c = []
old_in gone old p q c = []

-- under its coming number
abbrev pub live_in : {P : Type 0} → Seat P → Side P → (p q c : ℕ) → List (BodyAt P)
live_in other r p q c = if is_lane p q (source_for other r.seat) (taker_of r.seat) && (c == coming_of r.seat) then r.live else []

-- the Claim of an end that was taken and not yet Signalled
abbrev pub claims_in : {P : Type 0} → EndId → Seat P → (p q : ℕ) → List (BodyAt P)
claims_in id (claimed at to e) p q = if is_lane p q to at then Claim id ∷ [] else []
claims_in id _ p q = []

-- the Give of an end that is in one
abbrev pub gives_in : {P : Type 0} → Seat P → (p q : ℕ) → List (BodyAt P)
gives_in (given at to e resend deferred) p q = if is_lane p q at to then Give e resend ∷ [] else []
gives_in _ p q = []

-- the world shows this of the end r, where the other end has that seat
pub record Shows {P Q : Type 0} (w : WorldAt P Q) (other : Seat P) (r : Side P) : Type 0 where
  pub mains : (p : ℕ) → (w.nodes p).main r.id ≡ main_shown (source_for other r.seat) r.place r.seat p
  pub olds : (p : ℕ) → (w.nodes p).old r.id ≡ old_shown r.seat p
  pub frames : (p q c : ℕ) → filter (goes_to r.id c) (bodies (w.lanes p q)) ≡ old_in r.seat r.old p q c ++ live_in other r p q c
  pub claims : (p q : ℕ) → filter (is_claim r.id) (bodies (w.lanes p q)) ≡ claims_in r.id r.seat p q
  pub gives : (p q : ℕ) → filter (is_give r.id) (bodies (w.lanes p q)) ≡ gives_in r.seat p q
