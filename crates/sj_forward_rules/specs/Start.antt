-- The forwarding world of a file before any event, and its runs.
use Rattle.std.specs.Prelude.{ℕ, ◌==◌, List, [], Option, Some, None, option_and_then, unwrap_or, if◌then◌else◌, slice_get}
use Rattle.sj_base.specs.declared.EndId.{EndId}
use Rattle.sj_lang.specs.FileAt.{FileAt, ConnectAt, party_named}
use Rattle.sj_semantics.specs.Program.{Program}
use Rattle.sj_semantics.specs.World.{start_of}
use Rattle.sj_rules.specs.Party.{nobody, play_of}
use Rattle.sj_rules.specs.Record.{other_end}
use Rattle.sj_rules.specs.Start.{declared_on, connect_of}
use Rattle.sj_rules.specs.World.{Turn}
use Rattle.sj_forward_rules.specs.Record.{RecordAt, Held}
use Rattle.sj_forward_rules.specs.Node.{NodeAt}
use Rattle.sj_forward_rules.specs.World.{WorldAt, Run}

-- the home of an end: its party of the connection
abbrev pub home_by : FileAt → EndId → ConnectAt → ℕ
home_by file e c = party_named file.parties (declared_on e.side c).party

-- the record of an end at its home
abbrev pub first_record : FileAt → (party : ℕ) → EndId → ConnectAt → Option RecordAt
first_record file p e c = if p == home_by file e c then Some (record { behind = home_by file (other_end e) c; state = Held [] }) else None

-- the end is in use at its home
abbrev pub first_use : FileAt → (party : ℕ) → EndId → ConnectAt → Option ℕ
first_use file p e c = if p == home_by file e c then Some 0 else None

-- a party before any event
abbrev pub first_node : FileAt → ℕ → NodeAt Program
first_node file p = record {
  program = unwrap_or (slice_get (start_of file).parties p) nobody;
  requests = 0;
  offers = λ from. [];
  uses = λ e. option_and_then (first_use file p e) (connect_of file e);
  records = λ e h. if h == 0 then option_and_then (first_record file p e) (connect_of file e) else None;
}

-- each party with its program and the ends that connections give it, and nothing in a lane
abbrev pub forward_start : FileAt → WorldAt Program
forward_start file = record { nodes = first_node file; lanes = λ from to. [] }

-- these turns lead from the start of the file to that world
abbrev pub IsForwardRun : FileAt → List Turn → WorldAt Program → Type 0
IsForwardRun file turns w = Run (play_of file) (forward_start file) turns w
