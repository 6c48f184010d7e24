-- How parties stand where nobody can go on, and several are played by code of their own.
use Rattle.std.specs.Prelude.{◌≡◌, ℕ, nat_lt, Option, Some, None, unwrap_or, if◌then◌else◌}
use Rattle.sj_base.specs.declared.EndId.{EndId}
use Rattle.sj_lang.specs.Place.{Place}
use Rattle.sj_semantics.specs.declared.Limit.TheVariants as limits
use Rattle.sj_semantics.specs.declared.State.{State}
use Rattle.sj_semantics.specs.declared.State.TheVariants as states
use Rattle.sj_semantics.specs.declared.Want.TheVariants as plain
use Rattle.sj_semantics.specs.Program.{limit_of_steps}
use Rattle.sj_semantics.specs.Wants.{want_of}
use Rattle.sj_rules.specs.Node as wanted
use Rattle.sj_rules.specs.Node.{Want}
use Rattle.sj_told.specs.declared.told.Stand.{Stand}
use Rattle.sj_told.specs.Still.{still_state}
use Rattle.sj_seat_laws.specs.Guards.{seated_want}
use Rattle.sj_seat_laws.specs.SeatedPlay.{Player, seated, written}
use Rattle.sj_seat_told_laws.specs.FirstOpen.{first_open}

-- with that call next, which can't be made
abbrev pub still_calling : Want Place → State
still_calling (wanted.takes e place) = states.Waits e
still_calling (wanted.delegates c e) = states.AtLimit (limits.Hops e)
still_calling (wanted.requests place to) = states.AtLimit limits.Requests
still_calling (wanted.accepts place from) = states.WaitsOpen from
still_calling _ = states.Ready

abbrev pub still_holding : EndId → ℕ → Want Place → State
still_holding e steps wanted.ended = states.Waits e
still_holding e steps want = if nat_lt steps limit_of_steps then still_calling want else states.AtLimit limits.Steps

abbrev pub still_by_open : ℕ → Want Place → Option EndId → State
still_by_open steps want None = states.Ended
still_by_open steps want (Some e) = still_holding e steps want

-- a code stands by its ends and calls alone, and a program by its steps and its next one
abbrev pub still_player : Player → State
still_player (written g) = still_state g.steps (unwrap_or (want_of g) plain.Ended)
still_player (seated s) = still_by_open s.steps (seated_want s) (first_open s.ends)

abbrev pub steps_of_player : Player → ℕ
steps_of_player (written g) = g.steps
steps_of_player (seated s) = s.steps

-- the stand is that of the player
pub record IsStandOf (g : Player) (s : Stand) : Type 0 where
  pub steps : s.steps ≡ steps_of_player g
  pub state : s.state ≡ still_player g
