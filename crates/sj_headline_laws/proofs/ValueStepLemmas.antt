-- What messages of values, counts and conditions do.
use Rattle.std.proofs.Common.{◌≡◌, ℕ, zero, suc, Bool, true, List, pos, negsuc, min, Option, Some, option_and_then, refl, sym, subst}
use Rattle.sj_base.specs.declared.Msg.{Msg}
use Rattle.sj_base.specs.declared.Msg.TheVariants as msgs
use Rattle.sj_lang.specs.declared.party.Scalar.{Scalar}
use Rattle.sj_lang.specs.declared.party.Scalar.TheVariants as kinds
use Rattle.sj_lang.specs.declared.proto.Way.TheVariants.{Out, Into}
use Rattle.sj_lang.specs.Place.{Place, message, repeat}
use Rattle.sj_lang.specs.After.{followed_by, after_place}
use Rattle.sj_semantics.specs.declared.Value.{Value}
use Rattle.sj_semantics.specs.declared.Value.TheVariants.{Int, Boolean, Text}
use Rattle.sj_semantics.specs.Value.{message_of, value_of, turns_of, truth_of}
use Rattle.sj_semantics.specs.Fitting.{is_of_kind}
use Rattle.sj_semantics.specs.Wants.{more_turns}
use Rattle.sj_acceptance.specs.Kinds.{carried_by}
use Rattle.sj_semantics.specs.Balanced.{FitsNext}
use Rattle.sj_semantics.specs.Ends.{Session}
use Rattle.sj_headline_laws.proofs.NameLemmas.{IsA, Worth}

pub value_after : (k : Scalar) (v : Value) (rest : Place) → IsA k v → after_place (message Out (carried_by k) rest) Out (message_of v) ≡ Some rest
value_after kinds.Int (Int n) rest h = refl
value_after kinds.Int (Boolean b) rest h = absurd h
value_after kinds.Int (Text n) rest h = absurd h
value_after kinds.Boolean (Int n) rest h = absurd h
value_after kinds.Boolean (Boolean b) rest h = refl
value_after kinds.Boolean (Text n) rest h = absurd h
value_after kinds.Text (Int n) rest h = absurd h
value_after kinds.Text (Boolean b) rest h = absurd h
value_after kinds.Text (Text n) rest h = refl

pub value_fits : (zs : List Session) (k : Scalar) (v : Value) (rest : Place) → IsA k v → FitsNext zs (message Out (carried_by k) rest) (message_of v)
value_fits zs kinds.Int (Int n) rest h = tt
value_fits zs kinds.Int (Boolean b) rest h = absurd h
value_fits zs kinds.Int (Text n) rest h = absurd h
value_fits zs kinds.Boolean (Int n) rest h = absurd h
value_fits zs kinds.Boolean (Boolean b) rest h = tt
value_fits zs kinds.Boolean (Text n) rest h = absurd h
value_fits zs kinds.Text (Int n) rest h = absurd h
value_fits zs kinds.Text (Boolean b) rest h = absurd h
value_fits zs kinds.Text (Text n) rest h = tt

pub record TakesValue (k : Scalar) (m : Msg) (rest next : Place) : Type 0 where
  pub can_take : is_of_kind k m ≡ true
  pub same : rest ≡ next
  pub value : Value
  pub carried : value_of m ≡ Some value
  pub kind : IsA k value

pub takes_value : (k : Scalar) (m : Msg) (rest next : Place) → after_place (message Into (carried_by k) rest) Into m ≡ Some next → TakesValue k m rest next
takes_value kinds.Int (msgs.Int n) rest next h = record { can_take = refl; same = cc; value = Int n; carried = refl; kind = tt }
takes_value kinds.Int (msgs.Bool b) rest next h = cc
takes_value kinds.Int (msgs.Text n) rest next h = cc
takes_value kinds.Int (msgs.Label l) rest next h = cc
takes_value kinds.Int (msgs.More b) rest next h = cc
takes_value kinds.Int (msgs.Sess s d k) rest next h = cc
takes_value kinds.Boolean (msgs.Int n) rest next h = cc
takes_value kinds.Boolean (msgs.Bool b) rest next h = record { can_take = refl; same = cc; value = Boolean b; carried = refl; kind = tt }
takes_value kinds.Boolean (msgs.Text n) rest next h = cc
takes_value kinds.Boolean (msgs.Label l) rest next h = cc
takes_value kinds.Boolean (msgs.More b) rest next h = cc
takes_value kinds.Boolean (msgs.Sess s d k) rest next h = cc
takes_value kinds.Text (msgs.Int n) rest next h = cc
takes_value kinds.Text (msgs.Bool b) rest next h = cc
takes_value kinds.Text (msgs.Text n) rest next h = record { can_take = refl; same = cc; value = Text n; carried = refl; kind = tt }
takes_value kinds.Text (msgs.Label l) rest next h = cc
takes_value kinds.Text (msgs.More b) rest next h = cc
takes_value kinds.Text (msgs.Sess s d k) rest next h = cc

abbrev pub turned_place : Place → Place → ℕ → Place
turned_place inner outer zero = outer
turned_place inner outer (suc n) = followed_by inner (repeat Out inner outer)

pub turned_after : (inner outer : Place) (n : ℕ) → after_place (repeat Out inner outer) Out (more_turns n) ≡ Some (turned_place inner outer n)
turned_after inner outer zero = refl
turned_after inner outer (suc n) = refl

-- the count of a loop
pub record Count (o : Option Value) : Type 0 where
  pub count : ℕ
  pub it_is : option_and_then turns_of o ≡ Some count

pub count_of_value : (v : Value) → IsA kinds.Int v → Count (Some v)
count_of_value (Int (pos n)) h = record { count = min n 1000; it_is = refl }
count_of_value (Int (negsuc n)) h = record { count = 0; it_is = refl }
count_of_value (Boolean b) h = absurd h
count_of_value (Text n) h = absurd h

pub count_of : (o : Option Value) → Worth o kinds.Int → Count o
count_of o w = subst Count (sym w.it_is) (count_of_value w.value w.kind)

pub record Truth (o : Option Value) : Type 0 where
  pub truth : Bool
  pub it_is : option_and_then truth_of o ≡ Some truth

pub truth_of_value : (v : Value) → IsA kinds.Boolean v → Truth (Some v)
truth_of_value (Boolean b) h = record { truth = b; it_is = refl }
truth_of_value (Int n) h = absurd h
truth_of_value (Text n) h = absurd h

pub truth_in : (o : Option Value) → Worth o kinds.Boolean → Truth o
truth_in o w = subst Truth (sym w.it_is) (truth_of_value w.value w.kind)
