-- The core world of a file before any event.
use Rattle.std.specs.Prelude.{ℕ, zero, suc, ◌==◌, nat_lt, false, if◌then◌else◌, [], slice_get, unwrap_or, Option, Some, None, option_and_then}
use Rattle.sj_base.specs.declared.EndId.{EndId}
use Rattle.sj_lang.specs.Place.{Place}
use Rattle.sj_lang.specs.FileAt.{FileAt, DeclAt, ConnectAt, body_named, party_named}
use Rattle.sj_semantics.specs.Ends.{other_side}
use Rattle.sj_semantics.specs.Program.{Program}
use Rattle.sj_semantics.specs.World.{start_of}
use Rattle.sj_rules.specs.Record.{EndAt, HeldAt, MainAt, Held}
use Rattle.sj_rules.specs.Node.{NodeAt}
use Rattle.sj_rules.specs.World.{WorldAt}
use Rattle.sj_rules.specs.Party.{nobody}

-- what a connection declares of its end of that side
abbrev pub declared_on : ℕ → ConnectAt → DeclAt
declared_on zero c = c.first
declared_on (suc d) c = c.second

-- the end before any event: nothing sent or taken, under number 0, with the other party as its peer
abbrev pub first_end : FileAt → EndId → ConnectAt → EndAt Place
first_end file e c = record {
  id = e;
  place = body_named file.protocols (declared_on e.side c).protocol;
  conn = 0;
  peer = party_named file.parties (declared_on (other_side e.side) c).party;
  sent = 0;
  taken = 0;
  base = 0;
  cache = [];
  hops = 0;
}

-- nothing came
abbrev pub first_held : FileAt → EndId → ConnectAt → HeldAt Place
first_held file e c = record { end = first_end file e c; untaken = []; fin = false }

-- the party holds the end where the connection says so
abbrev pub held_by : FileAt → ℕ → EndId → ConnectAt → Option (MainAt Place)
held_by file p e c = if p == party_named file.parties (declared_on e.side c).party then Some (Held (first_held file e c)) else None

-- the connection of the end, where the file has it
abbrev pub connect_of : FileAt → EndId → Option ConnectAt
connect_of file e = if nat_lt e.side 2 then slice_get file.connects e.sess else None

-- a party's records before any event
abbrev pub first_main : FileAt → ℕ → EndId → Option (MainAt Place)
first_main file p e = option_and_then (held_by file p e) (connect_of file e)

-- a party before any event
abbrev pub first_node : FileAt → ℕ → NodeAt Place Program
first_node file p = record {
  program = unwrap_or (slice_get (start_of file).parties p) nobody;
  clock = 0;
  requests = 0;
  offers = λ from. [];
  main = first_main file p;
  old = λ e. None;
}

-- each party with its program and the ends that connections give it, and nothing in a lane
abbrev pub core_start : FileAt → WorldAt Place Program
core_start file = record { nodes = first_node file; lanes = λ from to. [] }
