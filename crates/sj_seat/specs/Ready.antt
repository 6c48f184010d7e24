-- Whether a message is there for an end, on which of several one is, what is taken from the first of
-- them, and why nothing is.
use Rattle.std.specs.Prelude.{◌≡◌, ◌⊎◌, ℕ, ⊤, List, [], ◌∷◌, length, Option, Some, None, is_some, if◌then◌else◌}
use Rattle.sj_base.specs.declared.EndId.{EndId}
use Rattle.sj_lane.specs.declared.lane.OutLane.{Ghosts as OutLane}
use Rattle.sj_lane.specs.declared.lane.InLane.{Ghosts as InLane}
use Rattle.sj_lang.specs.FileAt.{FileAt}
use Rattle.sj_node.specs.Node.{next_head}
use Rattle.sj_node.specs.Reading.{parties_of}
use Rattle.sj_node.specs.declared.node.Node.{Node}
use Rattle.sj_seat_laws.specs.Calls.{Call, Ends, takes}
use Rattle.sj_seat_laws.specs.Guards.{want_of_call}
use Rattle.sj_work.specs.declared.worker.Stop.TheVariants as stops
use Rattle.sj_seat.specs.Rules.{first_refusal, ready_tests, take_tests}
use Rattle.sj_seat.specs.Views.{calls_of, ends_of, may_of, node_of}
use Rattle.sj_seat.specs.Went.{HasNoRow, IsStopped, Went}
use Rattle.sj_seat.specs.declared.guest.Guest.{Guest}
use Rattle.sj_seat.specs.declared.refusal.SeatRefusal.{SeatRefusal}
use Rattle.sj_seat.specs.declared.refusal.SeatRefusal.TheVariants as refusals

-- the first of these ends on which a message is there
abbrev pub first_there : Node → List EndId → Option EndId
first_there n [] = None
first_there n (e ∷ es) = if is_some (next_head n e) then Some e else first_there n es

-- the rule, where one applies, and else the next one
abbrev pub rule_or : Option SeatRefusal → Option SeatRefusal → Option SeatRefusal
rule_or None next = next
rule_or (Some rule) next = Some rule

-- of the first end from which a take is refused by a rule the first rule that applies
abbrev pub first_rule_of : (calls : ℕ) → Ends → List EndId → Option SeatRefusal
first_rule_of calls bs [] = None
first_rule_of calls bs (e ∷ es) = rule_or (first_refusal (take_tests calls bs e)) (first_rule_of calls bs es)

module _ {O I G : Type 0} where
  -- the rule that refuses a look for a message, if it does
  abbrev pub ready_rule : Guest O I G → EndId → Option SeatRefusal
  ready_rule g e = first_refusal (ready_tests (ends_of g) e)

  -- why no look is had that no rule refuses: the worker stopped for good
  abbrev pub IsUnseen : SeatRefusal → Guest O I G → Type 0
  IsUnseen (refusals.Stopped stop) g = IsStopped stop g
  IsUnseen _ g = ⊥

  -- the rule refuses it, and then nothing happens; where it doesn't, the worker stopped
  abbrev pub IsReadyRefused : Option SeatRefusal → SeatRefusal → (old new : Guest O I G) → Type 0
  IsReadyRefused (Some rule) r old new = (r ≡ rule) × (new ≡ old)
  IsReadyRefused None r old new = IsUnseen r new

  -- the same of a guest
  abbrev pub any_rule : Guest O I G → List EndId → Option SeatRefusal
  any_rule g es = first_rule_of (calls_of g) (ends_of g) es

  -- what is there on the end can't be taken: the worker stopped for good, or the rules have no row for that take
  abbrev pub IsCutShort : SeatRefusal → EndId → Guest O I G → Type 0
  IsCutShort (refusals.Stopped stop) e g =
      IsStopped stop g ⊎ ((stop ≡ stops.Unfit) × HasNoRow (node_of g) (want_of_call (may_of g) (ends_of g) (takes e)) (takes e))
  IsCutShort refusals.NoMemory e g = ⊤
  IsCutShort refusals.NotHeld e g = ⊥
  IsCutShort refusals.BeginsOtherwise e g = ⊥
  IsCutShort refusals.WrongEnd e g = ⊥
  IsCutShort refusals.WrongKind e g = ⊥
  IsCutShort refusals.NotOpened e g = ⊥
  IsCutShort refusals.AtLimit e g = ⊥
  IsCutShort refusals.Waiting e g = ⊥

  -- why nothing is taken, by the first end on which a message is there: what is there can't be taken. Where
  -- none is there the take waits, or the worker stopped for good
  abbrev pub IsUntaken : Option EndId → SeatRefusal → Guest O I G → Type 0
  IsUntaken (Some e) r g = IsCutShort r e g
  IsUntaken None refusals.Waiting g = ⊤
  IsUntaken None (refusals.Stopped stop) g = IsStopped stop g
  IsUntaken None _ g = ⊥

  -- why nothing is taken that no rule refuses
  abbrev pub IsNoneTaken : SeatRefusal → List EndId → Guest O I G → Type 0
  IsNoneTaken r es g = IsUntaken (first_there (node_of g) es) r g

  -- the first rule that applies refuses it, and then nothing happens; where none does, nothing is taken
  abbrev pub IsAnyRefused : Option SeatRefusal → SeatRefusal → List EndId → (old new : Guest O I G) → Type 0
  IsAnyRefused (Some rule) r es old new = (r ≡ rule) × (new ≡ old)
  IsAnyRefused None r es old new = IsNoneTaken r es new

  -- the guest waited, called nothing meanwhile, and then took from that end: the first of these on which a message was there
  pub record TookFirst (outward : OutLane O) (inward : InLane I) (es : List EndId) (e : EndId) (old new : Guest O I G) : Type 0 where
    pub before : Guest O I G
    pub waited : (file : FileAt) (rest : List Call) → length file.parties ≡ parties_of (node_of old) → Went outward inward file rest rest old before
    pub first : first_there (node_of before) es ≡ Some e
    pub took : (file : FileAt) (rest : List Call) → length file.parties ≡ parties_of (node_of old) → Went outward inward file (takes e ∷ rest) rest before new
