-- How a run begins in which several parties of the file are played by code of their own.
use Rattle.std.specs.Prelude.{◌≡◌, ℕ, ◌+◌, List, [], ◌∷◌, Option, Some, None, option_map}
use Rattle.sj_lang.specs.Place.{Place}
use Rattle.sj_lang.specs.FileAt.{FileAt, PartyAt}
use Rattle.sj_semantics.specs.Program.{Program}
use Rattle.sj_semantics.specs.Requests.{no_requests}
use Rattle.sj_semantics.specs.World.{World, program_of, start_of}
use Rattle.sj_rules.specs.Start.{core_start}
use Rattle.sj_rules.specs.World.{Run, Turn, WorldAt}
use Rattle.sj_seat_laws.specs.Calls.{Call}
use Rattle.sj_seat_laws.specs.SeatedPlay.{Player, seated_play}
use Rattle.sj_seat_laws.specs.SeatedStart.{no_program, played_by, seat_start}
use Rattle.sj_seat_laws.specs.SeatsWorld.{Seats, SeatsWorld, after_seats, player_by, seat_of}

-- what each party's code calls; None for a party that goes by the file
abbrev pub Callers : Type 0
Callers = ℕ → Option (List Call)

-- these parties before their first calls, from that number on
abbrev pub seats_from : FileAt → Callers → ℕ → List PartyAt → Seats
seats_from file calls p [] = []
seats_from file calls p (q ∷ qs) = option_map (seat_start file p) (calls p) ∷ seats_from file calls (p + 1) qs

-- the party's program, or nothing to do where it is played by code
abbrev pub program_beside : FileAt → Option (List Call) → Program → Program
program_beside file None g = g
program_beside file (Some cs) g = no_program file

abbrev pub programs_beside : FileAt → Callers → ℕ → List PartyAt → List Program
programs_beside file calls p [] = []
programs_beside file calls p (q ∷ qs) = program_beside file (calls p) (program_of file p q) ∷ programs_beside file calls (p + 1) qs

-- the start of the file, where these parties have nothing to do
abbrev pub world_beside : FileAt → Callers → World
world_beside file calls = record {
  protocols = file.protocols;
  parties = programs_beside file calls 0 file.parties;
  sessions = (start_of file).sessions;
  requests = no_requests;
}

-- the plain world before any act
abbrev pub seats_start : FileAt → Callers → SeatsWorld
seats_start file calls = record { world = world_beside file calls; seats = seats_from file calls 0 file.parties }

-- these acts lead to that world
abbrev pub IsSeatsRun : FileAt → Callers → List ℕ → SeatsWorld → Type 0
IsSeatsRun file calls acts t = after_seats (seats_start file calls) acts ≡ Some t

-- the core world before any event
abbrev pub seats_core : FileAt → Callers → WorldAt Place Player
seats_core file calls = record {
  nodes = λ q. played_by (player_by (seat_of (seats_start file calls).seats q) ((core_start file).nodes q).program) ((core_start file).nodes q);
  lanes = (core_start file).lanes;
}

-- these events lead from there to that core world, with some choice of bases
abbrev pub IsSeatsCoreRun : FileAt → Callers → List Turn → WorldAt Place Player → Type 0
IsSeatsCoreRun file calls turns core = Run (seated_play file) (seats_core file calls) turns core
