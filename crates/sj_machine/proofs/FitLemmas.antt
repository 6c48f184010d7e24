-- A want that counts as a take is one.
use Rattle.std.proofs.Common.{◌≡◌, Option, Some, None, sym, ap}
use Rattle.std.specs.Option.{unwrap_or}
use Rattle.sj_base.specs.declared.EndId.{EndId}
use Rattle.sj_semantics.specs.declared.Awaits.{Awaits}
use Rattle.sj_semantics.specs.declared.Want.{Want}
use Rattle.sj_semantics.specs.declared.Want.TheVariants as wants

pub take_wanted : (o : Option Want) (e : EndId) (a : Awaits) → wants.Take e a ≡ unwrap_or o wants.Ended → o ≡ Some (wants.Take e a)
take_wanted (Some want) e a h = ap Some (sym h)
take_wanted None e a h = cc
