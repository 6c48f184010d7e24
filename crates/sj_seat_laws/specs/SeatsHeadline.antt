-- What holds of a run in which several parties are played by code of their own, to where nobody can
-- go on.
use Rattle.std.specs.Prelude.{◌≡◌, ◌⊎◌, ℕ, List, length, slice_get, Some, None, ⊤}
use Rattle.sj_base.specs.declared.EndId.{EndId}
use Rattle.sj_lang.specs.FileAt.{FileAt}
use Rattle.sj_lang.specs.Place.{Place}
use Rattle.sj_semantics.specs.declared.Verdict.TheVariants.{Done}
use Rattle.sj_semantics.specs.declared.Want.TheVariants.{Close, Delegate}
use Rattle.sj_semantics.specs.Ends.{end_at}
use Rattle.sj_semantics.specs.State.{verdict_of}
use Rattle.sj_semantics.specs.Uses as uses
use Rattle.sj_semantics.specs.Uses.{Use}
use Rattle.sj_semantics.specs.World.{act_of}
use Rattle.sj_semantics_laws.specs.Runs.{IsBoundAt, IsUntaken}
use Rattle.sj_headline_laws.specs.Begins.{IsBegunIn, IsOnItsWay, IsTakenIn}
use Rattle.sj_headline_laws.specs.Headline.{IsFront, next_step}
use Rattle.sj_rules.specs.Node as wanted
use Rattle.sj_rules.specs.Node.{Want}
use Rattle.sj_seat_laws.specs.Calls.{SeatedAt, place_held}
use Rattle.sj_seat_laws.specs.Guards.{seated_want}
use Rattle.sj_seat_laws.specs.SeatedWorld.{beside}
use Rattle.sj_seat_laws.specs.SeatsStart.{Callers, IsSeatsRun}
use Rattle.sj_seat_laws.specs.SeatsWorld.{SeatsWorld, seat_of}
pub use Rattle.sj_seat_laws.specs.Resting.{HoldsNoOpenEnd, IsResting}
pub use Rattle.sj_seat_laws.specs.SeatsActs.{AtEachMoment, FromEachActOn, OfEachAct, OfEachEnd, TakesWhatFits, uses_of}

-- ---- who has an end

-- the party is played by code, which is so
abbrev pub IsSeatedAs : SeatsWorld → ℕ → (SeatedAt → Type 0) → Type 0
IsSeatedAs t q P = (s : SeatedAt) × (seat_of t.seats q ≡ Some s) × P s

-- the party has a name for the end, or holds it
abbrev pub HasEnd : SeatsWorld → ℕ → EndId → Type 0
HasEnd t q e = IsBoundAt t.world q e ⊎ IsSeatedAs t q (λ s. (place : Place) × (place_held s.ends e ≡ Some place))

-- each end is had by one party at most
abbrev pub HasOneHolderEach : SeatsWorld → Type 0
HasOneHolderEach t = (e : EndId) (q r : ℕ) → HasEnd t q e → HasEnd t r e → q ≡ r

-- nobody has it
abbrev pub IsNowhere : SeatsWorld → EndId → Type 0
IsNowhere t e = (q : ℕ) → HasEnd t q e → ⊥

-- an end that is used is had by the party, unless the use is its beginning
abbrev pub IsOwnUse : SeatsWorld → ℕ → EndId → Use → Type 0
IsOwnUse t q e (uses.sends m) = HasEnd t q e
IsOwnUse t q e (uses.takes m) = HasEnd t q e
IsOwnUse t q e uses.delegates = HasEnd t q e
IsOwnUse t q e (uses.begins place) = ⊤

-- each end that the uses begin nobody has before, and it is on its way only where they take the
-- message that names it
abbrev pub BeginFreeEnds : SeatsWorld → List (EndId × Use) → Type 0
BeginFreeEnds t us = (e : EndId) → IsBegunIn us e → IsNowhere t e × (IsOnItsWay t.world e → IsTakenIn us e)

-- the party has each end that its act uses, unless the use is its beginning; an end that its act
-- begins is free until then
pub record UsesItsOwn (t : SeatsWorld) (q : ℕ) : Type 0 where
  pub own : (n : ℕ) (e : EndId) (u : Use) → slice_get (uses_of t q) n ≡ Some (e, u) → IsOwnUse t q e u
  pub begun : BeginFreeEnds t (uses_of t q)

-- the party's next step closes the end
abbrev pub Closes : SeatsWorld → ℕ → EndId → Type 0
Closes t q e = IsSeatedAs t q (λ s. seated_want s ≡ wanted.closes e) ⊎ ((seat_of t.seats q ≡ None) × (next_step t.world q ≡ Some (Close e)))

-- an end that the party closes is nowhere later
abbrev pub ClosesForGood : SeatsWorld → ℕ → SeatsWorld → Type 0
ClosesForGood t q u = (e : EndId) → Closes t q e → IsNowhere u e

-- the party's next step delegates the end y on the end e
abbrev pub Delegates : SeatsWorld → ℕ → (e y : EndId) → Type 0
Delegates t q e y = IsSeatedAs t q (λ s. seated_want s ≡ wanted.delegates e y) ⊎ ((seat_of t.seats q ≡ None) × (next_step t.world q ≡ Some (Delegate e y)))

-- an end that the party delegates is nowhere later as long as its session message, the next one on
-- the end e, isn't taken
abbrev pub DelegatesAtOnce : SeatsWorld → ℕ → SeatsWorld → Type 0
DelegatesAtOnce t q u = (e y : EndId) → Delegates t q e y → IsUntaken u.world e (length (end_at t.world.sessions e).sent) → IsNowhere u y

-- ---- where all is done

-- each other party has ended, each session that was requested was accepted, and nobody's code holds
-- an end of which anything is ahead
pub record IsAllDone (t : SeatsWorld) : Type 0 where
  pub others : verdict_of t.world ≡ Done
  pub codes : (q : ℕ) (s : SeatedAt) → seat_of t.seats q ≡ Some s → HoldsNoOpenEnd s

-- ---- all of it

pub record IsSeatsHeadline (file : FileAt) (calls : Callers) (acts : List ℕ) (end : SeatsWorld) : Type 0 where
  -- the acts are a run that leads to that world
  pub run : IsSeatsRun file calls acts end
  -- no party that goes by the file can go on there, and each code rests
  pub settled : (q : ℕ) → seat_of end.seats q ≡ None → act_of end.world q ≡ None
  pub resting : (q : ℕ) (s : SeatedAt) → seat_of end.seats q ≡ Some s → IsResting q (beside s end.world)
  -- each end took, in order and once, a prefix of what the successive holders of the other end sent
  pub in_order : OfEachEnd file calls acts IsFront
  -- and all of it where all is done
  pub whole : IsAllDone end → OfEachEnd file calls acts (λ taken sent. taken ≡ sent)
  -- each message that was taken fitted the place that its taker had at that moment
  pub fitting : OfEachAct file calls acts TakesWhatFits
  -- at each moment each end is had by one party at most
  pub one_holder : AtEachMoment file calls acts HasOneHolderEach
  -- each act on an end is done by a party that has it; one that it begins nobody has before
  pub by_holder : OfEachAct file calls acts UsesItsOwn
  -- an end that is closed is nowhere from its close on
  pub gone_once_closed : FromEachActOn file calls acts ClosesForGood
  -- an end that is delegated is nowhere until its session message is taken
  pub nowhere_on_its_way : FromEachActOn file calls acts DelegatesAtOnce
