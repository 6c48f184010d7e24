use Rattle.sj_table.specs.Spots.{place_in}
use Rattle.sj_acceptance_laws.proofs.SamenessLemmas.{is_same_place-from}
use Rattle.sj_check.proofs.places.is_spot_of.Goals as goal

pub returns : goal.returns
returns c = is_same_place-from c.is_at.result (place_in c.args.table.now c.args.spot) c.args.place.now c.is_at.ensures
