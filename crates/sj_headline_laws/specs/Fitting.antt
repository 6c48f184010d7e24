-- What a step names, against the places of the ends.
use Rattle.std.specs.Prelude.{◌≡◌, ◌≢◌, List, Some, ⊤}
use Rattle.sj_lang.specs.declared.proto.Way.TheVariants.{Into, Out}
use Rattle.sj_lang.specs.Place.{Choices, Place, choice, done, message, repeat, session}
use Rattle.sj_lang.specs.After.{after_place}
use Rattle.sj_lang.specs.Meet.{StandsFor}
use Rattle.sj_acceptance.specs.Kinds.{carried_by}
use Rattle.sj_semantics.specs.declared.Awaits.{Awaits}
use Rattle.sj_semantics.specs.declared.Awaits.TheVariants as awaits
use Rattle.sj_semantics.specs.declared.Want.{Want}
use Rattle.sj_semantics.specs.declared.Want.TheVariants as wants
use Rattle.sj_semantics.specs.Ends.{Session, end_at}

-- the place begins with what the statement takes: a value of that kind, an end,
-- a label, or more or stop
abbrev pub BeginsTaking : Place → Awaits → Type 0
BeginsTaking place (awaits.Value k) = (next : Place) × (place ≡ message Into (carried_by k) next)
BeginsTaking place (awaits.Session p) = (kind : Place) × (next : Place) × (place ≡ message Into (session kind) next)
BeginsTaking place awaits.OneOf = (arms : Choices) × (next : Place) × (place ≡ choice Into arms next)
BeginsTaking place awaits.MoreOrStop = (body : Place) × (next : Place) × (place ≡ repeat Into body next)

-- a place follows what is sent. An end that is delegated stands for the carried place, and an
-- end that is closed is at its end. A take, also one that waits, stands where its end's place
-- begins with what it takes
abbrev pub FitsPlaces : List Session → Want → Type 0
FitsPlaces zs (wants.Send e m) = (next : Place) × (after_place (end_at zs e).place Out m ≡ Some next)
FitsPlaces zs (wants.Delegate e y) =
    (kind : Place) × (next : Place) × ((end_at zs e).place ≡ message Out (session kind) next) × StandsFor (end_at zs y).place kind × (kind ≢ done)
FitsPlaces zs (wants.Close e) = (end_at zs e).place ≡ done
FitsPlaces zs (wants.Take e a) = BeginsTaking (end_at zs e).place a
FitsPlaces zs (wants.Request p q) = ⊤
FitsPlaces zs (wants.Accept p q) = ⊤
FitsPlaces zs wants.Local = ⊤
FitsPlaces zs wants.Ended = ⊤
