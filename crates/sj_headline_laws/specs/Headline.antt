-- The headline: what holds of a run of a file to where nobody can go on, part by part.
use Rattle.std.specs.Prelude.{◌≡◌, ℕ, List, ◌∷◌, ◌++◌, map, length, slice_get, Option, Some, option_and_then}
use Rattle.sj_base.specs.declared.EndId.{EndId}
use Rattle.sj_base.specs.declared.Msg.{Msg}
use Rattle.sj_lang.specs.declared.proto.Way.TheVariants.{Into}
use Rattle.sj_lang.specs.After.{after_place}
use Rattle.sj_lang.specs.FileAt.{FileAt}
use Rattle.sj_lang.specs.Place.{Place}
use Rattle.sj_semantics.specs.declared.Passed.{Passed}
use Rattle.sj_semantics.specs.declared.Verdict.TheVariants.{Done}
use Rattle.sj_semantics.specs.declared.Want.{Want}
use Rattle.sj_semantics.specs.declared.Want.TheVariants.{Close, Delegate}
use Rattle.sj_semantics.specs.Acts.{acts_from, sent_on, taken_on}
use Rattle.sj_semantics.specs.Balanced.{FitsNext}
use Rattle.sj_semantics.specs.Ends.{Session, end_at, other_end}
use Rattle.sj_semantics.specs.Program.{Program}
use Rattle.sj_semantics.specs.Run.{IsRun}
use Rattle.sj_semantics.specs.World.{start_of, World, Change, change_of}
use Rattle.sj_semantics.specs.State.{IsSettled, verdict_of}
use Rattle.sj_semantics.specs.Uses.{takes}
use Rattle.sj_semantics.specs.Wants.{want_of}
use Rattle.sj_semantics_laws.specs.Bound.{AreBound, UsesBound}
use Rattle.sj_semantics_laws.specs.Runs.{IsBoundAt, IsBoundNowhere, IsUntaken}
use Rattle.sj_headline_laws.specs.Begins.{BeginFreeEnds}

-- ---- moments

-- it holds at each moment of the acts: they are split into a prefix and a rest, and the
-- prefix leads to that world
abbrev pub AtEachMoment : FileAt → List ℕ → (World → Type 0) → Type 0
AtEachMoment file acts P = (front rest : List ℕ) (w : World) → acts ≡ front ++ rest → IsRun file front w → P w

-- it holds of each act: those before it lead to that world, in which that party acts
abbrev pub OfEachAct : FileAt → List ℕ → (World → ℕ → Type 0) → Type 0
OfEachAct file acts P = (front rest : List ℕ) (p : ℕ) (w : World) → acts ≡ front ++ p ∷ rest → IsRun file front w → P w p

-- it holds of each act at each moment after it: of the world in which that party acts, and of
-- the world at that moment
abbrev pub FromEachActOn : FileAt → List ℕ → (World → ℕ → World → Type 0) → Type 0
FromEachActOn file acts P =
    (front between rest : List ℕ) (p : ℕ) (w v : World) → acts ≡ (front ++ p ∷ between) ++ rest → IsRun file front w
    → IsRun file (front ++ p ∷ between) v → P w p v

-- ---- what was sent and taken

-- the one list is a prefix of the other
abbrev pub IsFront : List Msg → List Msg → Type 0
IsFront xs ys = (rest : List Msg) × (ys ≡ xs ++ rest)

-- the messages without the parties that passed them
abbrev pub messages : List Passed → List Msg
messages xs = map (λ x. x.msg) xs

-- it holds of each end: of all that the acts took on it, and all that they sent on the
-- other end of its session
abbrev pub OfEachEnd : FileAt → List ℕ → (List Msg → List Msg → Type 0) → Type 0
OfEachEnd file acts P =
    (e : EndId) → P (messages (taken_on e (acts_from (start_of file) acts))) (messages (sent_on (other_end e) (acts_from (start_of file) acts)))

-- ---- what an act does

-- the party's next step
abbrev pub next_step : World → ℕ → Option Want
next_step w p = option_and_then want_of (slice_get w.parties p)

-- a place follows the message from the place of the end that takes it, and it is of the
-- kind that stands there. The end that a session message names stands for the carried
-- place, which isn't empty
abbrev pub FitsTaker : List Session → EndId → Msg → Type 0
FitsTaker zs e m = (next : Place) × (after_place (end_at zs e).place Into m ≡ Some next) × FitsNext zs (end_at zs e).place m

-- what the party's act takes fits the end on which it takes it
abbrev pub TakesWhatFits : World → ℕ → Type 0
TakesWhatFits w p =
    (c : Change) (n : ℕ) (e : EndId) (m : Msg) → change_of w p ≡ Some c → slice_get c.uses n ≡ Some (e, takes m) → FitsTaker w.sessions e m

-- each end that the party's step names is bound at it, and so is each end that its act uses, unless
-- the use is its beginning. An end that its act begins is free until then
pub record UsesItsOwn (w : World) (p : ℕ) : Type 0 where
  pub names : (g : Program) (want : Want) → slice_get w.parties p ≡ Some g → want_of g ≡ Some want → AreBound g.ends want
  pub uses : (g : Program) (c : Change) → slice_get w.parties p ≡ Some g → change_of w p ≡ Some c → UsesBound g.ends c.uses
  pub begun : (c : Change) → change_of w p ≡ Some c → BeginFreeEnds w c.uses

-- ---- where ends are bound

-- each end is bound at one party at most
abbrev pub HasOneHolderEach : World → Type 0
HasOneHolderEach w = (e : EndId) (p q : ℕ) → IsBoundAt w p e → IsBoundAt w q e → p ≡ q

-- an end that the party closes is bound nowhere later
abbrev pub ClosesForGood : World → ℕ → World → Type 0
ClosesForGood w p v = (e : EndId) → next_step w p ≡ Some (Close e) → IsBoundNowhere v e

-- an end that the party delegates is bound nowhere later as long as its session message, the next
-- one on the end e, isn't taken
abbrev pub DelegatesAtOnce : World → ℕ → World → Type 0
DelegatesAtOnce w p v = (e y : EndId) → next_step w p ≡ Some (Delegate e y) → IsUntaken v e (length (end_at w.sessions e).sent) → IsBoundNowhere v y

-- ---- the headline

pub record IsHeadline (file : FileAt) (acts : List ℕ) (end : World) : Type 0 where
  -- the acts are a run of the file that leads to that world
  pub run : IsRun file acts end
  -- nobody can go on there
  pub settled : IsSettled end
  -- each end took, in order and once, a prefix of what the successive holders of the other end sent
  pub in_order : OfEachEnd file acts IsFront
  -- and all of it where the verdict is done
  pub whole : verdict_of end ≡ Done → OfEachEnd file acts (λ taken sent. taken ≡ sent)
  -- each message that was taken fitted the place that its taker had at that moment
  pub fitting : OfEachAct file acts TakesWhatFits
  -- at each moment each end is bound at one party at most
  pub one_holder : AtEachMoment file acts HasOneHolderEach
  -- each act on an end is done by a party at which it is bound; one that it
  -- begins nobody has before
  pub by_holder : OfEachAct file acts UsesItsOwn
  -- a closed end is bound nowhere from its close on
  pub gone_once_closed : FromEachActOn file acts ClosesForGood
  -- a delegated end is bound nowhere until its session message is taken
  pub nowhere_on_its_way : FromEachActOn file acts DelegatesAtOnce
