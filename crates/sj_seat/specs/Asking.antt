-- What the code asks for, of every kind: the call that it is, if any, the rules that may refuse it, and
-- what it leaves.
use Rattle.std.specs.Prelude.{◌≡◌, ⊤, List, ◌∷◌, Option, Some, None, IfSome, false, is_some}
use Rattle.sj_base.specs.declared.EndId.{EndId}
use Rattle.sj_base.specs.declared.Msg.{Msg}
use Rattle.sj_lane.specs.declared.lane.OutLane.{Ghosts as OutLane}
use Rattle.sj_lane.specs.declared.lane.InLane.{Ghosts as InLane}
use Rattle.sj_node.specs.Node.{next_head}
use Rattle.sj_seat_laws.specs.Calls.{Call, takes}
use Rattle.sj_seat_laws.specs.Guards.{opened_place, with_opened}
use Rattle.sj_work.specs.Views as works
use Rattle.sj_work.specs.declared.worker.Worker.{Worker}
use Rattle.sj_seat.specs.Logged.{OpenedLast, TookLast}
use Rattle.sj_seat.specs.Ready.{IsAnyRefused, IsReadyRefused, TookFirst, any_rule, first_there, ready_rule}
use Rattle.sj_seat.specs.Views.{ends_of, may_of, node_of}
use Rattle.sj_seat.specs.Went.{IsRefused, Rests, first_open_rule, first_rule}
use Rattle.sj_seat.specs.Wishes.{is_taking, open_wished, wished}
use Rattle.sj_seat.specs.declared.ask.Ask.{Ask}
use Rattle.sj_seat.specs.declared.ask.Ask.TheVariants as asks
use Rattle.sj_seat.specs.declared.ask.Ask.TheVariants.{Step, Open, TakeAny}
use Rattle.sj_seat.specs.declared.ask.Outcome.{Outcome}
use Rattle.sj_seat.specs.declared.ask.Outcome.TheVariants as outcomes
use Rattle.sj_seat.specs.declared.ask.Outcome.TheVariants.{Done, Took, Opened}
use Rattle.sj_seat.specs.declared.guest.Guest.{Guest}
use Rattle.sj_seat.specs.declared.refusal.SeatRefusal.{SeatRefusal}
use Rattle.sj_seat.specs.declared.wish.Wish.{Wish}
use Rattle.sj_seat.specs.declared.wish.Wish.TheVariants.{Take, TakeEnd}

-- what became of a step that took that message, if any
abbrev pub outcome_of : Wish → Option Msg → Outcome
outcome_of (Take e) (Some m) = Took e m
outcome_of (TakeEnd e) (Some m) = Took e m
outcome_of _ _ = Done

-- the calls from then on, where that became of it and the code makes those later
abbrev pub calls_made : Ask → Outcome → List Call → List Call
calls_made (Step wish) o rest = wished wish ∷ rest
calls_made (Open wish) o rest = open_wished wish ∷ rest
calls_made (TakeAny es) (Took e m) rest = takes e ∷ rest
calls_made (TakeAny es) _ rest = rest
calls_made (asks.Ready e) o rest = rest

module _ {O I : Type 0} where
  -- what became of a step is what the last act at the worker did
  abbrev pub TellsStep : Worker O I → Wish → Outcome → Type 0
  TellsStep w (Take e) (Took d m) = (d ≡ e) × TookLast w e m
  TellsStep w (TakeEnd e) (Took d m) = (d ≡ e) × TookLast w e m
  TellsStep w wish Done = is_taking wish ≡ false
  TellsStep w _ _ = ⊥

  -- what became of what was asked for is what the last act at the worker did, or whether a message is
  -- there
  abbrev pub Tells : Worker O I → Ask → Outcome → Type 0
  Tells w (Step wish) o = TellsStep w wish o
  Tells w (Open wish) (Opened e) = OpenedLast w wish e
  Tells w (TakeAny es) (Took e m) = TookLast w e m
  Tells w (asks.Ready e) (outcomes.Ready b) = b ≡ is_some (next_head (works.node_of w) e)
  Tells w _ _ = ⊥

module _ {O I G : Type 0} where
  -- the first rule that applies to what the code asks for
  abbrev pub first_ask_rule : Guest O I G → Ask → Option SeatRefusal
  first_ask_rule g (Step wish) = first_rule g wish
  first_ask_rule g (Open wish) = first_open_rule g wish
  first_ask_rule g (TakeAny es) = any_rule g es.items
  first_ask_rule g (asks.Ready e) = ready_rule g e

  -- the first rule that applies refuses it, and then nothing happens; where none does, it is held up
  abbrev pub IsAskRefused : Ask → SeatRefusal → (old new : Guest O I G) → Type 0
  IsAskRefused (Step wish) r old new = IsRefused (first_rule old wish) r (wished wish) old new
  IsAskRefused (Open wish) r old new = IsRefused (first_open_rule old wish) r (open_wished wish) old new
  IsAskRefused (TakeAny es) r old new = IsAnyRefused (any_rule old es.items) r es.items old new
  IsAskRefused (asks.Ready e) r old new = IsReadyRefused (ready_rule old e) r old new

  -- an end that was opened is held from then on, after the others and at its place; a look leaves what
  -- is held
  abbrev pub Holds : Ask → Outcome → (old new : Guest O I G) → Type 0
  Holds (Open wish) (Opened e) old new = ends_of new ≡ with_opened (ends_of old) e (opened_place (may_of old) (open_wished wish))
  Holds (asks.Ready e) _ old new = Rests old new
  Holds _ _ old new = ⊤

  -- a take from several ends is from the first on which a message is there, at once where one is
  -- there already
  abbrev pub IsFirst : OutLane O → InLane I → Ask → Outcome → (old new : Guest O I G) → Type 0
  IsFirst outward inward (TakeAny es) (Took e m) old new =
      TookFirst outward inward es.items e old new × IfSome (first_there (node_of old) es.items) (λ d. e ≡ d)
  IsFirst outward inward _ _ old new = ⊤
