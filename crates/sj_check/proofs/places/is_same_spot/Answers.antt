use Rattle.sj_table.specs.Spots.{place_in}
use Rattle.sj_acceptance_laws.proofs.SamenessLemmas.{is_same_place-from}
use Rattle.sj_check.proofs.places.is_same_spot.Goals as goal

pub returns : goal.returns
returns c = is_same_place-from c.is_same.result (place_in c.args.table.now c.args.one) (place_in c.args.table.now c.args.other) c.is_same.ensures
