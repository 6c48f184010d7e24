-- What a node does whose steps come from outside, whatever its program is.
use Rattle.std.specs.Prelude.{ℕ, true, false, Bool, Option, None, if◌then◌else◌}
use Rattle.sj_base.specs.declared.EndId.{EndId}
use Rattle.sj_lang.specs.After.{after_place}
use Rattle.sj_lang.specs.Dual.{dual_of}
use Rattle.sj_lang.specs.ItemCount.{is_done}
use Rattle.sj_lang.specs.Place.{Place, done}
use Rattle.sj_machine.specs.Sound.{program_at}
use Rattle.sj_semantics.specs.Program.{Program}
use Rattle.sj_rules.specs.Node as rules
use Rattle.sj_rules.specs.Node.{NodeAt, Play, act_by}
use Rattle.sj_rules.specs.Record.{MainAt}
use Rattle.sj_rules.specs.Rows.{Worked}
use Rattle.sj_node.specs.declared.node.Node.{Node}
use Rattle.sj_node.specs.Node.{is_below_count, node_at}
use Rattle.sj_table.specs.declared.table.Spot.{Spot}
use Rattle.sj_table.specs.Spots.{place_in}

-- places as they are, and a program that isn't asked and stays
abbrev pub silent : (parties : ℕ) → Play Place Program
silent parties = record {
  next = after_place;
  is_over = is_done;
  blank = done;
  dual = dual_of;
  wants = λ g. rules.ended;
  goes = λ g m. g;
  opened = λ g e. g;
  fits = λ g m. true;
  is_worn = λ g. false;
  parties = parties;
}

-- the end on which the step sends, if any, has sent fewer than 1,000,000 messages
abbrev pub has_place_for : (EndId → Option (MainAt Place)) → rules.Want Place → Bool
has_place_for main (rules.sends e m) = is_below_count (main e)
has_place_for main (rules.delegates c e) = is_below_count (main c)
has_place_for main _ = true

-- what the rules make of the node by that step
abbrev pub call_of : Node → rules.Want Place → Option (Worked Place (NodeAt Place Program))
call_of n want = if has_place_for (node_at n).main want then act_by (silent n.parties) n.party (node_at n) want else None

-- the place for which the spot stands there
abbrev pub place_here : Node → Spot → Place
place_here n spot = place_in n.table spot

-- the program, as far as it was done
abbrev pub program_of : Node → Program
program_of n = program_at n.machine
