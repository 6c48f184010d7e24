-- The events that a drain does: rounds of all parties, until one has no event.
use Rattle.std.specs.Prelude.{◌≡◌, ◌≢◌, ℕ, ◌+◌, List, [], ◌∷◌, ◌++◌, Some, None}
use Rattle.sj_rules.specs.Drain.{turn, numbers_from}
use Rattle.sj_rules.specs.Play.{Play}
use Rattle.sj_rules.specs.World.{Event, Act, Deliver, Turn}
use Rattle.sj_forward_rules.specs.Acts.{acts}
use Rattle.sj_forward_rules.specs.World.{WorldAt, happens}

module _ {P Q : Type 0} (play : Play P Q) where
  -- the party takes the frames of the lane from q, until that is empty
  abbrev pub Empties : (p q : ℕ) → WorldAt Q → List Turn → WorldAt Q → Type 0
  Empties p q w [] v = (w.lanes q p ≡ []) × (w ≡ v)
  Empties p q w (t ∷ ts) v =
      (t ≡ turn p (Deliver q)) × ((mid : WorldAt Q) × ((happens play w p (Deliver q) ≡ Some mid) × Empties p q mid ts v))

  -- of each of these lanes, one after another
  abbrev pub EmptiesEach : (p : ℕ) → List ℕ → WorldAt Q → List Turn → WorldAt Q → Type 0
  EmptiesEach p [] w ts v = (ts ≡ []) × (w ≡ v)
  EmptiesEach p (q ∷ qs) w ts v =
      (first : List Turn) × ((rest : List Turn) × ((mid : WorldAt Q)
      × ((ts ≡ first ++ rest) × Empties p q w first mid × EmptiesEach p qs mid rest v)))

  -- it acts until it can't
  abbrev pub ActsOut : (p : ℕ) → WorldAt Q → List Turn → WorldAt Q → Type 0
  ActsOut p w [] v = (acts play p (w.nodes p) ≡ None) × (w ≡ v)
  ActsOut p w (t ∷ ts) v = (t ≡ turn p Act) × ((mid : WorldAt Q) × ((happens play w p Act ≡ Some mid) × ActsOut p mid ts v))

  -- the turn of a party among n
  abbrev pub TakesTurn : (n p : ℕ) → WorldAt Q → List Turn → WorldAt Q → Type 0
  TakesTurn n p w ts v =
      (first : List Turn) × ((rest : List Turn) × ((mid : WorldAt Q)
      × ((ts ≡ first ++ rest) × EmptiesEach p (numbers_from 0 n) w first mid × ActsOut p mid rest v)))

  -- the turns of these parties, one after another
  abbrev pub TakeTurns : (n : ℕ) → List ℕ → WorldAt Q → List Turn → WorldAt Q → Type 0
  TakeTurns n [] w ts v = (ts ≡ []) × (w ≡ v)
  TakeTurns n (p ∷ ps) w ts v =
      (first : List Turn) × ((rest : List Turn) × ((mid : WorldAt Q)
      × ((ts ≡ first ++ rest) × TakesTurn n p w first mid × TakeTurns n ps mid rest v)))

  -- the turns of all parties, in order
  abbrev pub IsRound : (n : ℕ) → WorldAt Q → List Turn → WorldAt Q → Type 0
  IsRound n w ts v = TakeTurns n (numbers_from 0 n) w ts v

  -- these rounds, and then one without an event
  abbrev pub DrainsBy : (n : ℕ) → (rounds : List (List Turn)) → WorldAt Q → List Turn → WorldAt Q → Type 0
  DrainsBy n [] w ts v = (ts ≡ []) × IsRound n w [] v
  DrainsBy n (r ∷ rs) w ts v =
      (rest : List Turn) × ((mid : WorldAt Q) × ((r ≢ []) × (ts ≡ r ++ rest) × IsRound n w r mid × DrainsBy n rs mid rest v))

  -- the events are those of the rounds from the one world, and lead to the other
  abbrev pub IsDrained : (n : ℕ) → WorldAt Q → List Turn → WorldAt Q → Type 0
  IsDrained n w ts v = (rounds : List (List Turn)) × DrainsBy n rounds w ts v

-- ---- deliveries

-- one for each delivery, none for an act
abbrev pub deliveries_by : Event → ℕ
deliveries_by Act = 0
deliveries_by (Deliver q) = 1

-- how many of the turns are deliveries
abbrev pub passed_in : List Turn → ℕ
passed_in [] = 0
passed_in (t ∷ ts) = deliveries_by t.event + passed_in ts
