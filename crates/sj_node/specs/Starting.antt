-- What a party's slots have before any event.
use Rattle.std.specs.Prelude.{◌≡◌, ℕ, ◌+◌, List, [], ◌∷◌, length, map, Option, option_map}
use Rattle.sj_lang.specs.Code.{no_stmt}
use Rattle.sj_lang.specs.FileAt.{FileAt, ConnectAt, PartyAt, body_named, party_names}
use Rattle.sj_lang.specs.Place.{Place}
use Rattle.sj_table.specs.declared.table.Table.{Table}
use Rattle.sj_table.specs.Spots.{place_in, start_in}
use Rattle.sj_semantics.specs.Program.{Program}
use Rattle.sj_semantics.specs.Value.{no_vars}
use Rattle.sj_rules.specs.Mapped.{main_with}
use Rattle.sj_rules.specs.Record.{MainAt}
use Rattle.sj_rules.specs.Start.{first_node, held_by}
use Rattle.sj_node.specs.declared.node.Node.{Node}
use Rattle.sj_node.specs.declared.slots.Main.{Main}
use Rattle.sj_node.specs.Node.{clock_of, log_of, node_at, outbox_of, play_here, connect_count}
use Rattle.sj_node.specs.Play.{play_with}
use Rattle.sj_node.specs.Reading.{parties_of, party_of, table_of}
use Rattle.sj_node.specs.Slots.{main_at}

-- a slot, with the places for which spots stand
abbrev pub slot_at_places : Table → Option Main → Option (MainAt Place)
slot_at_places t slot = option_map (main_with (place_in t)) (option_map main_at slot)

-- the two slots of each connection, the first of them in session n
abbrev pub slots_from : FileAt → (party n : ℕ) → List ConnectAt → List (Option (MainAt Place))
slots_from file p n [] = []
slots_from file p n (c ∷ cs) =
    held_by file p (record { sess = n; side = 0 }) c ∷ held_by file p (record { sess = n; side = 1 }) c ∷ slots_from file p (n + 1) cs

-- the node is that party's before any event, at that clock. Its program and its ends are those of
-- the start, nothing was sent or noted, and it plays by the file's protocols
pub record Begins (file : FileAt) (p time : ℕ) (n : Node) : Type 0 where
  pub node : node_at n ≡ record (first_node file p) { clock = time }
  pub clock : clock_of n ≡ time
  pub boxes : (q : ℕ) → outbox_of n q ≡ []
  pub log : log_of n ≡ []
  pub party : party_of n ≡ p
  pub parties : parties_of n ≡ length file.parties
  pub connects : connect_count n ≡ length file.connects
  pub starts : (q : ℕ) → start_in (table_of n) q ≡ body_named file.protocols q
  pub play : play_here n ≡ play_with (body_named file.protocols) (length file.connects) (length file.parties)

-- the same with another program; with the party's own it is the one above
pub record BeginsWith (file : FileAt) (p time : ℕ) (program : Program) (n : Node) : Type 0 where
  pub node : node_at n ≡ record (first_node file p) { program = program; clock = time }
  pub clock : clock_of n ≡ time
  pub boxes : (q : ℕ) → outbox_of n q ≡ []
  pub log : log_of n ≡ []
  pub party : party_of n ≡ p
  pub parties : parties_of n ≡ length file.parties
  pub connects : connect_count n ≡ length file.connects
  pub starts : (q : ℕ) → start_in (table_of n) q ≡ body_named file.protocols q
  pub play : play_here n ≡ play_with (body_named file.protocols) (length file.connects) (length file.parties)

-- the program of a party that has nothing to do: no step, no end, no variable
abbrev pub nothing_to_do : FileAt → Program
nothing_to_do file = record { todo = []; vars = no_vars; ends = []; steps = 0; peers = party_names file.parties }

-- the parties, none of which has anything to do
abbrev pub idle_parties : List PartyAt → List PartyAt
idle_parties qs = map (λ q. record { line = q.line; name = q.name; code = no_stmt }) qs

-- the file with these parties alone
abbrev pub idle_file : FileAt → FileAt
idle_file file = record { words = []; texts = []; protocols = []; parties = idle_parties file.parties; connects = [] }
