-- What a place begins with, as far as the rules ask.
use Rattle.std.specs.Prelude.{Bool, true, false}
use Rattle.sj_base.specs.declared.Msg.{Msg}
use Rattle.sj_base.specs.declared.Msg.TheVariants as msgs
use Rattle.sj_lang.specs.Place.{Carried, Place, choice, message, repeat, session}
use Rattle.sj_lang.specs.declared.proto.Way.TheVariants.{Into, Out}

-- no session is carried
abbrev pub is_scalar : Carried → Bool
is_scalar (session kind) = false
is_scalar _ = true

-- it begins with the sending of such a message: a value, a label, or whether a loop turns
abbrev pub begins_with : Place → Msg → Bool
begins_with (message Out k next) (msgs.Int n) = is_scalar k
begins_with (message Out k next) (msgs.Bool b) = is_scalar k
begins_with (message Out k next) (msgs.Text n) = is_scalar k
begins_with (choice Out arms next) (msgs.Label l) = true
begins_with (repeat Out body next) (msgs.More b) = true
begins_with _ _ = false

-- it begins with the sending of an end
abbrev pub sends_end : Place → Bool
sends_end (message Out (session kind) next) = true
sends_end _ = false

-- it begins with the taking of a value, a branching or an inward loop
abbrev pub takes_no_end : Place → Bool
takes_no_end (message Into k next) = is_scalar k
takes_no_end (choice Into arms next) = true
takes_no_end (repeat Into body next) = true
takes_no_end _ = false

-- it begins with the taking of an end
abbrev pub takes_end : Place → Bool
takes_end (message Into (session kind) next) = true
takes_end _ = false
