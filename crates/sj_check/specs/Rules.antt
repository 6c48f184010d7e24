-- The numbers by which answers name the rules.
use Rattle.std.specs.Prelude.{ℕ}
use Rattle.sj_acceptance.specs.Rules as rules
use Rattle.sj_check.specs.declared.rules.CheckRule.{CheckRule}
use Rattle.sj_check.specs.declared.rules.CheckRule.TheVariants.{NoProtocol, NoParty, NameInUse, DoNotMeet, NotThere, OtherAction, OtherKind, NoLabel, ArmsDiffer, TurnDiffers, ClosedEarly, LeftOpen, NotToDelegate, OtherArms, AcceptUnmet}

-- the number of a rule
abbrev pub number_of : CheckRule → ℕ
number_of NoProtocol = rules.no_protocol
number_of NoParty = rules.no_party
number_of NameInUse = rules.name_in_use
number_of DoNotMeet = rules.do_not_meet
number_of NotThere = rules.not_there
number_of OtherAction = rules.other_action
number_of OtherKind = rules.other_kind
number_of NoLabel = rules.no_label
number_of ArmsDiffer = rules.arms_differ
number_of TurnDiffers = rules.turn_differs
number_of ClosedEarly = rules.closed_early
number_of LeftOpen = rules.left_open
number_of NotToDelegate = rules.not_to_delegate
number_of OtherArms = rules.other_arms
number_of AcceptUnmet = rules.accept_unmet
