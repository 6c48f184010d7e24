-- The invariant of a forwarding world beside its plain world.
use Rattle.std.specs.Prelude.{suc, Option, None, ◌⊎◌, ⊤, Bool, ◌≡◌, ℕ, ◌+◌, ◌<◌, ◌≤◌, true, List, [], ◌∷◌, ◌++◌, map, slice_get, Some}
use Rattle.std.specs.List.{AllByRecursion}
use Rattle.sj_base.specs.declared.EndId.{EndId}
use Rattle.sj_base.specs.declared.Msg.{Msg}
use Rattle.sj_base.specs.declared.Msg.TheVariants as msgs
use Rattle.sj_rules.specs.Opened.{opened_number, is_opened_by}
use Rattle.sj_rules.specs.Reading.{IsUnopened}
use Rattle.sj_rules.specs.Record.{offered_end}
use Rattle.sj_rules.specs.PlainSide.{PlainAt, PlainSide}
use Rattle.sj_rules.specs.PlainChanges.{waits_of}
use Rattle.sj_forward_rules.specs.Record.{RecordAt, SentAt, StateAt, Held, Parked, Passing, Closed, FrameAt, Claim, Open, opened_in}
use Rattle.sj_forward_rules.specs.Node.{HasRecord}
use Rattle.sj_forward_rules.specs.World.{WorldAt}
use Rattle.sj_forward_laws.specs.Roads.{Chains, inward, claiming, behind_of, IsOnRoad}
use Rattle.sj_forward_laws.specs.Pipe.{traffic, pipe}

-- an end is in use; or its session message is that one, of those for that end; or it is closed; or
-- its Open is on its way
pub data Seat : Type 0 where
  in_use : Seat
  on_its_way : EndId → (number : ℕ) → Seat
  at_its_end : Seat
  in_open : Seat

-- a record that isn't the last one: it passes on to the next one, or waits for that one's Claim
abbrev pub IsLeft : EndId → (hop next : ℕ) → List FrameAt → StateAt → Type 0
IsLeft e h next claims (Held ms) = ⊥
IsLeft e h next claims (Parked ms) = claims ≡ Claim e h ∷ []
IsLeft e h next claims (Passing p) = (p ≡ next) × (claims ≡ [])
IsLeft e h next claims Closed = ⊥

-- the last record of an end, by its seat; an end that is in an Open has none yet, and counts as
-- closed
abbrev pub IsLast : {P : Type 0} → (IsOver : P → Type 0) → PlainSide P → (waits : List Msg) → (top : ℕ) → Seat → StateAt → Type 0
IsLast IsOver x waits top in_use (Held ms) = x.hops ≡ top
IsLast IsOver x waits top (on_its_way e n) (Parked ms) = x.hops ≡ suc top
IsLast IsOver x waits top at_its_end Closed = IsOver x.place × (waits ≡ [])
IsLast IsOver x waits top in_open Closed = (x.hops ≡ 0) × (top ≡ 0)
IsLast IsOver x waits top in_use (Parked ms) = ⊥
IsLast IsOver x waits top in_use (Passing p) = ⊥
IsLast IsOver x waits top in_use Closed = ⊥
IsLast IsOver x waits top (on_its_way e n) (Held ms) = ⊥
IsLast IsOver x waits top (on_its_way e n) (Passing p) = ⊥
IsLast IsOver x waits top (on_its_way e n) Closed = ⊥
IsLast IsOver x waits top at_its_end (Held ms) = ⊥
IsLast IsOver x waits top at_its_end (Parked ms) = ⊥
IsLast IsOver x waits top at_its_end (Passing p) = ⊥
IsLast IsOver x waits top in_open (Held ms) = ⊥
IsLast IsOver x waits top in_open (Parked ms) = ⊥
IsLast IsOver x waits top in_open (Passing p) = ⊥

-- what goes to the first record of an end: to one in an Open that Open, and then messages alone; to
-- others messages alone
abbrev pub OpensFit : Seat → (sess : ℕ) → List FrameAt → Type 0
OpensFit in_use sess fs = opened_in fs ≡ []
OpensFit (on_its_way e n) sess fs = opened_in fs ≡ []
OpensFit at_its_end sess fs = opened_in fs ≡ []
OpensFit in_open sess fs = (rest : List FrameAt) × (fs ≡ Open sess ∷ rest) × (opened_in rest ≡ [])

-- what a message that is that one, of those for the end, names is on its way in it
pub record IsNamed (c : Chains) (seats : EndId → Seat) (e : EndId) (number : ℕ) (d : EndId) (keeper hop : ℕ) : Type 0 where
  pub below : d.side < 2
  pub seat : seats d ≡ on_its_way e number
  pub keeper_is : c.at d (c.top d) ≡ keeper
  pub hop_is : c.top d ≡ hop

abbrev pub NamesFit : Chains → (EndId → Seat) → EndId → (number : ℕ) → Msg → (hop : ℕ) → Type 0
NamesFit c seats e n (msgs.Sess sess side keeper) hop = IsNamed c seats e n (record { sess = sess; side = side }) keeper hop
NamesFit c seats e n (msgs.Int x) hop = ⊤
NamesFit c seats e n (msgs.Bool x) hop = ⊤
NamesFit c seats e n (msgs.Text x) hop = ⊤
NamesFit c seats e n (msgs.Label x) hop = ⊤
NamesFit c seats e n (msgs.More x) hop = ⊤

-- what a party has of a record; of a closed one maybe nothing, where the file doesn't have the end
abbrev pub IsRecorded : Option RecordAt → (behind : ℕ) → StateAt → Type 0
IsRecorded o behind (Held ms) = o ≡ Some (record { behind = behind; state = Held ms })
IsRecorded o behind (Parked ms) = o ≡ Some (record { behind = behind; state = Parked ms })
IsRecorded o behind (Passing p) = o ≡ Some (record { behind = behind; state = Passing p })
IsRecorded o behind Closed = (o ≡ None) ⊎ (o ≡ Some (record { behind = behind; state = Closed }))

-- the party's record of that hop lies on the chain of the end
abbrev pub IsInChain : Chains → EndId → (hop party : ℕ) → Type 0
IsInChain c e h p = (h ≤ c.top e) × (c.at e h ≡ p)

-- the lanes and the records: each record of a chain is as its state says, and there is no other. An
-- end that the file doesn't have counts as closed
pub record IsJoined {Q : Type 0} (w : WorldAt Q) (c : Chains) (states : EndId → ℕ → StateAt) : Type 0 where
  pub records : (e : EndId) (h : ℕ) → e.side < 2 → h ≤ c.top e →
      IsRecorded ((w.nodes (c.at e h)).records e h) (behind_of c e h) (states e h)
  pub there : (e : EndId) (h : ℕ) → e.side < 2 → 0 < h → h ≤ c.top e → HasRecord (w.nodes (c.at e h)) e h
  pub alone : (e : EndId) (h p : ℕ) (r : RecordAt) → e.side < 2 → (w.nodes p).records e h ≡ Some r → IsInChain c e h p
  pub left : (e : EndId) (h : ℕ) → e.side < 2 → h < c.top e →
      IsLeft e h (c.at e (suc h)) (traffic w.lanes c (claiming e h)) (states e h)
  pub lanes : (from to : ℕ) → AllByRecursion (IsOnRoad c from to) (w.lanes from to)

-- the records, lanes and seats beside the plain world
pub record IsKept {P Q : Type 0} (IsOver : P → Type 0) (binds : Q → EndId → Bool) (parties : ℕ) (w : WorldAt Q) (plain : PlainAt P Q) : Type 0 where
  pub chains : Chains
  pub states : EndId → ℕ → StateAt
  pub seats : EndId → Seat
  pub joined : IsJoined w chains states
  pub below : 0 < parties → (e : EndId) (h : ℕ) → chains.at e h < parties
  pub opens : (e : EndId) → e.side < 2 → OpensFit (seats e) e.sess (traffic w.lanes chains (inward e 0))
  pub last : (e : EndId) → e.side < 2 →
      IsLast IsOver (plain.sides e) (waits_of plain e) (chains.top e) (seats e) (states e (chains.top e))
  pub waits : (e : EndId) → e.side < 2 → map (λ m. m.msg) (pipe w.lanes chains states e) ≡ waits_of plain e
  pub names : (e : EndId) (n : ℕ) (m : SentAt) → e.side < 2 → slice_get (pipe w.lanes chains states e) n ≡ Some m →
      NamesFit chains seats e ((plain.sides e).taken + n) m.msg m.hop
  pub programs : (p : ℕ) → (w.nodes p).program ≡ plain.programs p
  pub uses : (e : EndId) → e.side < 2 → seats e ≡ in_use → (w.nodes (chains.at e (chains.top e))).uses e ≡ Some (chains.top e)
  pub bound : (p : ℕ) (e : EndId) → binds (plain.programs p) e ≡ true → (e.side < 2) × (seats e ≡ in_use) × (chains.at e (chains.top e) ≡ p)

-- ---- sessions that are opened

-- a record that is Held
abbrev pub IsHeldRecord : Option RecordAt → Type 0
IsHeldRecord o = (behind : ℕ) × (ms : List SentAt) × (o ≡ Some (record { behind = behind; state = Held ms }))

-- each number is below those that follow
abbrev pub AreRising : List ℕ → Type 0
AreRising [] = ⊤
AreRising (n ∷ ns) = AllByRecursion (λ m. n < m) ns × AreRising ns

-- the session is one that the party opened, and wasn't accepted
pub record IsOffer {P Q : Type 0} (plain : PlainAt P Q) (from sess : ℕ) : Type 0 where
  pub opener : is_opened_by from sess ≡ true
  pub below : sess < opened_number from (plain.requests from)
  pub offered : (plain.sides (offered_end sess)).offered ≡ true

-- the invariant, and what is open between parties
pub record IsOpenKept {P Q : Type 0} (IsOver : P → Type 0) (binds : Q → EndId → Bool) (parties : ℕ) (w : WorldAt Q) (plain : PlainAt P Q) : Type 0
  where
    pub kept : IsKept IsOver binds parties w plain
    pub requests : (p : ℕ) → (w.nodes p).requests ≡ plain.requests p
    -- what is offered, and then what is in Opens, is what was opened and not accepted, in order of
    -- number
    pub offers : (from p : ℕ) → (w.nodes p).offers from ++ opened_in (w.lanes from p) ≡ plain.offers from p
    pub rising : (from p : ℕ) → AreRising (plain.offers from p)
    pub opened : (from p : ℕ) → AllByRecursion (IsOffer plain from) (plain.offers from p)
    -- an offered end is Held where it is offered
    pub held : (from p : ℕ) → AllByRecursion (λ s. IsHeldRecord ((w.nodes p).records (offered_end s) 0)) ((w.nodes p).offers from)
    -- and where its Open goes there is no record yet
    pub bare : (from p : ℕ) → AllByRecursion (λ s. (w.nodes p).records (offered_end s) 0 ≡ None) (opened_in (w.lanes from p))
    -- nobody has a record of an end of a session that wasn't opened
    pub unopened : (s : ℕ) → IsUnopened plain s → (p : ℕ) (e : EndId) → e.sess ≡ s → e.side < 2 → (w.nodes p).records e 0 ≡ None
