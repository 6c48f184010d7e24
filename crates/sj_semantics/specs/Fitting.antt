-- Which messages a party can take next.
use Rattle.std.specs.Prelude.{ℕ, ◌==◌, ◌&&◌, Bool, true, false, List, ◌∷◌, Option, Some, if◌then◌else◌}
use Rattle.sj_base.specs.declared.Msg.{Msg}
use Rattle.sj_base.specs.declared.Msg.TheVariants as msgs
use Rattle.sj_lang.specs.Code.{Branches, take_value, take_end, inbranch, inwhile, relay, no_branch, branch}
use Rattle.sj_semantics.specs.declared.Want.{Want}
use Rattle.sj_semantics.specs.declared.Want.TheVariants as wants
use Rattle.sj_semantics.specs.Program.{Thing, statement, Program}
use Rattle.sj_semantics.specs.Wants.{want_of}
use Rattle.sj_lang.specs.declared.party.Scalar.{Scalar}
use Rattle.sj_lang.specs.declared.party.Scalar.TheVariants as kinds

-- the message carries a value of that kind
abbrev pub is_of_kind : Scalar → Msg → Bool
is_of_kind kinds.Int (msgs.Int n) = true
is_of_kind kinds.Boolean (msgs.Bool b) = true
is_of_kind kinds.Text (msgs.Text n) = true
is_of_kind _ _ = false

-- an arm has that label
abbrev pub has_label : Branches → ℕ → Bool
has_label no_branch l = false
has_label (branch m code arms) l = if m == l then true else has_label arms l

-- the message is the label of an arm
abbrev pub names_arm : Branches → Msg → Bool
names_arm arms (msgs.Label l) = has_label arms l
names_arm arms _ = false

-- the message says more or stop
abbrev pub is_more : Msg → Bool
is_more (msgs.More b) = true
is_more _ = false

-- the message names an end
abbrev pub is_session : Msg → Bool
is_session (msgs.Sess s d k) = true
is_session _ = false

-- the statement can take the message
abbrev pub fits_todo : List Thing → Msg → Bool
fits_todo (statement (take_value x n k) ∷ rest) m = is_of_kind k m
fits_todo (statement (take_end x y p) ∷ rest) m = is_session m
fits_todo (statement (inbranch x arms) ∷ rest) m = names_arm arms m
fits_todo (statement (inwhile x body) ∷ rest) m = is_more m
fits_todo (statement (relay x y body) ∷ rest) m = is_more m
fits_todo _ m = false

-- the next step takes
abbrev pub is_take : Option Want → Bool
is_take (Some (wants.Take e a)) = true
is_take _ = false

-- the next step takes, and can take the message
abbrev pub fits : Program → Msg → Bool
fits g m = is_take (want_of g) && fits_todo g.todo m
