-- What a node does by its own play is an act of its file.
use Rattle.std.proofs.Common.{◌≡◌, ℕ, Bool, true, false, if◌then◌else◌, List, Option, Some, None, ap, sym, ◌∙◌}
use Rattle.sj_lang.specs.Place.{Place}
use Rattle.sj_lang.specs.FileAt.{ProtocolAt, body_named}
use Rattle.sj_semantics.specs.Program.{Program}
use Rattle.sj_table.specs.Spots.{start_in}
use Rattle.sj_rules.specs.Rows.{Worked}
use Rattle.sj_rules.specs.Node.{NodeAt, acts}
use Rattle.sj_rules.specs.Party.{play_for}
use Rattle.sj_node.specs.declared.node.Node.{Node}
use Rattle.sj_node.specs.Node.{act_of, has_room, node_at, connect_count}
use Rattle.sj_node.proofs.PlayLemmas.{acts_less, plays_file}
use Rattle.sj_node.specs.Play.{names_known, next_want, play_with}

-- what comes of a test that was met
if_there : {A : Type 0} → (b : Bool) (x : Option A) (left : A) → (if b then x else None) ≡ Some left → x ≡ Some left
if_there true x left h = h
if_there false x left h = absurd (cc h)

-- what a node does by its own play is an act of its file
pub act_is : (n : Node) (ps : List ProtocolAt) (left : Worked Place (NodeAt Place Program)) → ((q : ℕ) → start_in n.table q ≡ body_named ps q) → act_of n ≡ Some left
    → acts (play_for n.parties ps) n.party (node_at n) ≡ Some left
act_is n ps left same k =
    let there = if_there (has_room (node_at n).main (next_want (node_at n).program)) _ left k in
    let named : start_in n.table ≡ body_named ps = λ i q. same q i in
    acts_less (play_for n.parties ps) (names_known (connect_count n) n.parties) (node_at n) n.party left
    (ap (λ t. acts t n.party (node_at n)) (sym (plays_file ps (connect_count n) n.parties))
    ∙ ap (λ starts. acts (play_with starts (connect_count n) n.parties) n.party (node_at n)) (sym named)
    ∙ there)
