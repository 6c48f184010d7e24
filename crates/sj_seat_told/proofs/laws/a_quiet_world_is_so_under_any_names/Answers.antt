use Rattle.sj_seat_told.proofs.NameLemmas.{quiet_named}
use Rattle.sj_seat_told.proofs.laws.a_quiet_world_is_so_under_any_names.Goals as goal

pub returns : goal.returns
returns c = quiet_named
