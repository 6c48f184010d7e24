-- How many nodes a table has, and what appending nodes to others keeps.
use Rattle.std.specs.Prelude.{◌≡◌, ℕ, suc, ◌+◌, ◌-◌, ◌^◌, ◌<◌, ◌≤◌, List, [], ◌∷◌, ◌++◌, length, get_or, slice_set, ⊤}
use Rattle.sj_lang.specs.FileAt.{ProtocolAt}
use Rattle.sj_lang.specs.Place.{Place, Choices, done, message, choice, repeat, no_choice, arm}
use Rattle.sj_lang.specs.declared.proto.Item.{Item}
use Rattle.sj_lang.specs.declared.proto.Item.TheVariants.{OutLoop, InLoop}
use Rattle.sj_table.specs.declared.table.Spot.{Spot}
use Rattle.sj_table.specs.declared.leads.Row.{Row}
use Rattle.sj_table.specs.Table.{IsRow, Leads, places_of}

abbrev mutual
  -- the items of a place that aren't inside a carried kind
  pub node_count : Place → ℕ
  node_count done = 0
  node_count (message w k rest) = 1 + node_count rest
  node_count (choice w arms rest) = 1 + arm_nodes arms + node_count rest
  node_count (repeat w body rest) = 1 + node_count body + node_count rest

  pub arm_nodes : Choices → ℕ
  arm_nodes no_choice = 0
  arm_nodes (arm label p arms) = node_count p + arm_nodes arms

-- nodes have numbers of 32 bits, and node 0 is the empty place
abbrev pub limit_of_nodes : ℕ
limit_of_nodes = 2 ^ 32 - 1

-- those of protocols
abbrev pub nodes_of : List ProtocolAt → ℕ
nodes_of [] = 0
nodes_of (p ∷ ps) = node_count p.body + nodes_of ps

-- each node's next node is before it
abbrev pub AreBack : List Row → Type 0
AreBack rows = (i : ℕ) (s : Row) → i < length rows → s ≡ get_or rows i s → s.next < suc i

-- nodes that others were appended to, which lead to nodes before them, and into their items
pub record Grown (old new : List Row) : Type 0 where
  pub more : List Row
  pub is : new ≡ old ++ more
  pub each : (i : ℕ) (s : Row) → length old ≤ i → i < length new → s ≡ get_or new i s → IsRow (places_of new) (suc i) s

-- a node has one more node in it
pub record Turned (at first : ℕ) (old new : List Row) : Type 0 where
  pub was : Row
  pub is : Row
  pub there : was ≡ get_or old at was
  pub item : is.item ≡ was.item
  pub next : is.next ≡ was.next
  pub inside : is.inside.items ≡ was.inside.items ++ first ∷ []
  pub set : new ≡ slice_set old at is

-- the item is a loop with that body
abbrev pub IsLoop : Item → Place → Type 0
IsLoop (OutLoop body) p = body ≡ p
IsLoop (InLoop body) p = body ≡ p
IsLoop _ p = ⊥

-- each protocol starts at its body, under its name
abbrev pub AreStarts : List Place → List ProtocolAt → List (ℕ × Spot) → Type 0
AreStarts places [] starts = ⊤
AreStarts places (p ∷ ps) [] = ⊥
AreStarts places (p ∷ ps) (s ∷ starts) = (s.0 ≡ p.name) × Leads places s.1.node p.body done × AreStarts places ps starts
