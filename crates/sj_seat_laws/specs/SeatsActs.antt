-- Moments and acts of a run in which several parties are played by code of their own.
use Rattle.std.specs.Prelude.{◌≡◌, ℕ, List, [], ◌∷◌, ◌++◌, slice_get, Option, Some, None, option_map, unwrap_or}
use Rattle.sj_base.specs.declared.EndId.{EndId}
use Rattle.sj_base.specs.declared.Msg.{Msg}
use Rattle.sj_lang.specs.FileAt.{FileAt}
use Rattle.sj_semantics.specs.Acts.{ActAt, sent_on, taken_on}
use Rattle.sj_semantics.specs.Ends.{other_end}
use Rattle.sj_semantics.specs.Uses as uses
use Rattle.sj_semantics.specs.Uses.{Use}
use Rattle.sj_semantics.specs.World.{Change, change_of}
use Rattle.sj_headline_laws.specs.Headline.{FitsTaker, messages}
use Rattle.sj_seat_laws.specs.Calls.{SeatedAt}
use Rattle.sj_seat_laws.specs.SeatedWorld.{Doing, beside, doing_of}
use Rattle.sj_seat_laws.specs.SeatsStart.{Callers, IsSeatsRun, seats_start}
use Rattle.sj_seat_laws.specs.SeatsWorld.{SeatsWorld, seat_of, seats_act}

-- ---- moments

-- it holds at each moment of the acts
abbrev pub AtEachMoment : FileAt → Callers → List ℕ → (SeatsWorld → Type 0) → Type 0
AtEachMoment file calls acts P = (front rest : List ℕ) (t : SeatsWorld) → acts ≡ front ++ rest → IsSeatsRun file calls front t → P t

-- it holds of each act, in the world in which it is done
abbrev pub OfEachAct : FileAt → Callers → List ℕ → (SeatsWorld → ℕ → Type 0) → Type 0
OfEachAct file calls acts P = (front rest : List ℕ) (q : ℕ) (t : SeatsWorld) → acts ≡ front ++ q ∷ rest → IsSeatsRun file calls front t → P t q

-- it holds of each act at each moment after it
abbrev pub FromEachActOn : FileAt → Callers → List ℕ → (SeatsWorld → ℕ → SeatsWorld → Type 0) → Type 0
FromEachActOn file calls acts P =
    (front between rest : List ℕ) (q : ℕ) (t u : SeatsWorld) → acts ≡ (front ++ q ∷ between) ++ rest → IsSeatsRun file calls front t
    → IsSeatsRun file calls (front ++ q ∷ between) u → P t q u

-- ---- what acts use

abbrev pub uses_of_doing : Option Doing → List (EndId × Use)
uses_of_doing None = []
uses_of_doing (Some d) = d.uses

abbrev pub uses_of_change : Option Change → List (EndId × Use)
uses_of_change None = []
uses_of_change (Some c) = c.uses

-- the ends that the party's next act uses
abbrev pub uses_by : SeatsWorld → ℕ → Option SeatedAt → List (EndId × Use)
uses_by t q None = uses_of_change (change_of t.world q)
uses_by t q (Some s) = uses_of_doing (doing_of q (beside s t.world))

abbrev pub uses_of : SeatsWorld → ℕ → List (EndId × Use)
uses_of t q = uses_by t q (seat_of t.seats q)

-- the acts of these parties, one after another, with what they use
abbrev pub seats_acts : SeatsWorld → List ℕ → List ActAt
seats_acts t [] = []
seats_acts t (q ∷ qs) = unwrap_or (option_map (λ u. record { by = q; uses = uses_of t q } ∷ seats_acts u qs) (seats_act t q)) []

-- it holds of each end: of all that the acts took on it, and all that they sent on the other end of
-- its session
abbrev pub OfEachEnd : FileAt → Callers → List ℕ → (List Msg → List Msg → Type 0) → Type 0
OfEachEnd file calls acts P = (e : EndId) → P (messages (taken_on e (seats_acts (seats_start file calls) acts))) (messages (sent_on (other_end e) (seats_acts (seats_start file calls) acts)))

-- what the act takes fits the place of the end on which it takes it
abbrev pub TakesWhatFits : SeatsWorld → ℕ → Type 0
TakesWhatFits t q = (n : ℕ) (e : EndId) (m : Msg) → slice_get (uses_of t q) n ≡ Some (e, uses.takes m) → FitsTaker t.world.sessions e m
