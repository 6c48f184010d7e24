-- Why a node can't do a step that nothing holds up.
use Rattle.std.specs.Prelude.{◌≡◌, ℕ, Bool, true, false, is_some, Option, Some, None, if◌then◌else◌, ⊤}
use Rattle.sj_base.specs.declared.Msg.{Msg}
use Rattle.sj_base.specs.declared.Msg.TheVariants as msgs
use Rattle.sj_lang.specs.Place.{Place}
use Rattle.sj_lang.specs.declared.proto.Way.{Way}
use Rattle.sj_lang.specs.declared.proto.Way.TheVariants.{Into, Out}
use Rattle.sj_lang.specs.After.{after_place}
use Rattle.sj_lang.specs.ItemCount.{is_done}
use Rattle.sj_semantics.specs.declared.Want.{Want}
use Rattle.sj_semantics.specs.declared.Want.TheVariants as wants
use Rattle.sj_semantics.specs.Fitting.{fits}
use Rattle.sj_machine.specs.Sound.{program_at}
use Rattle.sj_rules.specs.Record.{MainAt, Held, is_same_end, offered_end}
use Rattle.sj_rules.specs.Opened.{smallest}
use Rattle.sj_rules.specs.Node.{is_free}
use Rattle.sj_node.specs.declared.node.Node.{Node}
use Rattle.sj_node.specs.Node.{is_below_count, main_of, next_head, node_at, offers_of, wants_of}
use Rattle.sj_node.specs.Play.{names_known}

-- the next message isn't what the statement can take, or it names no session, side or party of the
-- file. Or it names an end that this party holds, closes or expects; or the step sends on an end
-- with 1,000,000 messages
pub data Misfit : Type 0 where
  unwanted : Misfit
  unknown : Misfit
  taken : Misfit
  full : Misfit

-- of a step that takes, with that next message
abbrev pub misfit_at : Node → Option Msg → Option Misfit
misfit_at n None = None
misfit_at n (Some m) =
    if fits (program_at n.machine) m
    then (if names_known n.connects n.parties m
    then (if is_free (node_at n) m then None else Some taken)
    else Some unknown)
    else Some unwanted

-- of a step that sends on the end with that record
abbrev pub misfit_on : {P : Type 0} → Option (MainAt P) → Option Misfit
misfit_on r = if is_below_count r then None else Some full

abbrev pub misfit_by : Node → Want → Option Misfit
misfit_by n (wants.Send e m) = misfit_on (main_of n e)
misfit_by n (wants.Delegate e y) = misfit_on (main_of n e)
misfit_by n (wants.Take e a) = misfit_at n (next_head n e)
misfit_by n _ = None

-- the first cause that applies to the node's next step
abbrev pub misfit_of : Node → Option Misfit
misfit_of n = misfit_by n (wants_of n)

-- a Held end
abbrev pub is_held : {P : Type 0} → Option (MainAt P) → Bool
is_held (Some (Held h)) = true
is_held _ = false

-- a Held end, whose place lets the message go or come
abbrev pub lets : Way → Msg → Option (MainAt Place) → Bool
lets way m (Some (Held h)) = is_some (after_place h.end.place way m)
lets way m _ = false

-- a Held end, with nothing ahead
abbrev pub is_over : Option (MainAt Place) → Bool
is_over (Some (Held h)) = is_done h.end.place
is_over _ = false

-- the offered end, where one is offered, is held
abbrev pub is_offer_held : Node → Option ℕ → Bool
is_offer_held n None = true
is_offer_held n (Some sess) = is_held ((node_at n).main (offered_end sess))

-- the ends that the step names or accepts are held, and their places let it. They let what it
-- sends, the next message where the statement can take it, or that it closes
abbrev pub Agrees : Node → Want → Type 0
Agrees n wants.Local = ⊤
Agrees n (wants.Send e m) = lets Out m ((node_at n).main e) ≡ true
Agrees n (wants.Delegate e y) =
    (is_same_end e y ≡ false) × (is_held ((node_at n).main y) ≡ true) × (lets Out (msgs.Sess y.sess y.side n.party) ((node_at n).main e) ≡ true)
Agrees n (wants.Take e a) =
    (is_held ((node_at n).main e) ≡ true)
    × ((m : Msg) → next_head n e ≡ Some m → fits (program_at n.machine) m ≡ true → lets Into m ((node_at n).main e) ≡ true)
Agrees n (wants.Close e) = is_over ((node_at n).main e) ≡ true
Agrees n (wants.Request p to) = ⊤
Agrees n (wants.Accept p from) = is_offer_held n (smallest (offers_of n from)) ≡ true
Agrees n wants.Ended = ⊤
