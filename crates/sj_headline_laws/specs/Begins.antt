-- Ends that an act begins, of a session that it opens or accepts or that it takes:
-- they are free until then.
use Rattle.std.specs.Prelude.{◌≡◌, ℕ, ◌≤◌, List, slice_get, Some, sum_by, true}
use Rattle.sj_base.specs.declared.EndId.{EndId}
use Rattle.sj_base.specs.declared.Msg.{Msg}
use Rattle.sj_lang.specs.Place.{Place}
use Rattle.sj_semantics.specs.Uses.{Use, begins, takes}
use Rattle.sj_semantics.specs.World.{World}
use Rattle.sj_semantics_laws.specs.Runs.{IsBoundNowhere}
use Rattle.sj_semantics_laws.specs.Unshared.{carried_in, names_end}

-- an untaken message names the end
abbrev pub IsOnItsWay : World → EndId → Type 0
IsOnItsWay w e = 1 ≤ sum_by (carried_in e) w.sessions

-- one of the uses takes a message that names the end
abbrev pub IsTakenIn : List (EndId × Use) → EndId → Type 0
IsTakenIn us e = (n : ℕ) × (f : EndId) × (m : Msg) × (slice_get us n ≡ Some (f, takes m)) × (names_end e m ≡ true)

-- one of the uses is its beginning
abbrev pub IsBegunIn : List (EndId × Use) → EndId → Type 0
IsBegunIn us e = (n : ℕ) × (place : Place) × (slice_get us n ≡ Some (e, begins place))

-- each end that the uses begin is bound nowhere before, and on its way only where they take
-- the message that names it
abbrev pub BeginFreeEnds : World → List (EndId × Use) → Type 0
BeginFreeEnds w us = (e : EndId) → IsBegunIn us e → IsBoundNowhere w e × (IsOnItsWay w e → IsTakenIn us e)
