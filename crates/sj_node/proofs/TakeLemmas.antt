-- What a message that can be taken names, and a take that its place doesn't let.
use Rattle.std.proofs.Common.{◌≡◌, ℕ, ◌<◌, Bool, true, false, if◌then◌else◌, List, [], ◌∷◌, Option, Some, None, option_map, refl, ◌∙◌, subst, arith}
use Rattle.std.specs.Prelude.{is_none, is_some, nat_lt, slice_get, ◌&&◌}
use Rattle.std.proofs.lemmas.Bool.Decides.{nat_tests}
use Rattle.sj_base.specs.declared.EndId.{EndId}
use Rattle.sj_base.specs.declared.Msg.{Msg}
use Rattle.sj_base.specs.declared.Msg.TheVariants as msgs
use Rattle.sj_lang.specs.Place.{Place}
use Rattle.sj_lang.specs.declared.proto.Way.TheVariants.{Into}
use Rattle.sj_lang.specs.After.{after_place}
use Rattle.sj_table.specs.declared.table.Spot.{Spot}
use Rattle.sj_table.specs.Spots.{place_in}
use Rattle.sj_semantics.specs.Fitting.{fits}
use Rattle.sj_semantics.proofs.FittingLemmas.{second_of}
use Rattle.sj_machine.specs.Sound.{program_at}
use Rattle.sj_rules.specs.Record.{MainAt, Held, Closed, Expected}
use Rattle.sj_rules.specs.Mapped.{held_with, main_with}
use Rattle.sj_rules.specs.Node as rules
use Rattle.sj_rules.specs.Node.{is_free, take_act, take_from}
use Rattle.sj_rules.proofs.NodeMapLemmas.{none-with}
use Rattle.sj_node.specs.declared.node.Node.{Node}
use Rattle.sj_node.specs.Calls.{call_of, silent}
use Rattle.sj_node.specs.Fitting.{can_take}
use Rattle.sj_node.specs.Node.{main_of, next_head, node_at, takes_in}
use Rattle.sj_node.specs.Play.{is_number, names_known}
use Rattle.sj_node.specs.Taking.{held_head}

-- what it names is there
takes_known : (n : Node) (m : Msg) → takes_in n m ≡ true → names_known n.connects n.parties m ≡ true
takes_known n m h = second_of (fits (program_at n.machine) m) (names_known n.connects n.parties m) h

-- so its end is one of the two
end_known : (number : Bool) (parties d k : ℕ) → ((number && nat_lt d 2) && nat_lt k parties) ≡ true → d < 2
end_known true parties d k h = grind (arith, nat_tests)
end_known false parties d k h = cc

pub takes_end_known : (n : Node) (s d k : ℕ) → takes_in n (msgs.Sess s d k) ≡ true → d < 2
takes_end_known n s d k h = end_known (is_number n.connects n.parties s) n.parties d k (takes_known n (msgs.Sess s d k) h)

nothing : {X Y : Type 0} (b : Bool) (g : X → Y) (o : Option X) → is_some o ≡ false → (if b then option_map g o else None) ≡ None
nothing true g None h = refl
nothing true g (Some x) h = cc
nothing false g o h = refl

not_let_from : (n : Node) (e : EndId) (place : Place) (m : Msg) (r : Option (MainAt Spot)) → held_head r ≡ Some m → can_take n.table m r ≡ false
    → take_act (silent n.parties) (node_at n) e place (option_map (main_with (place_in n.table)) r) ≡ None
not_let_from n e place m None head h = cc
not_let_from n e place m (Some (Closed c)) head h = cc
not_let_from n e place m (Some (Expected keeper q deferred)) head h = cc
not_let_from n e place m (Some (Held held)) head h = go held.untaken head
  where
    go : (ms : List Msg) → slice_get ms 0 ≡ Some m → take_from (silent n.parties) (node_at n) e place (held_with (place_in n.table) held) ms ≡ None
    go [] head = cc
    go (x ∷ rest) head =
        let same : m ≡ x = cc in
        nothing (is_free (node_at n) x) _ (after_place (place_in n.table held.end.place) Into x)
        (subst (λ (t : Msg). is_some (after_place (place_in n.table held.end.place) Into t) ≡ false) same h)

blocked : {X : Type 0} (free : Bool) (o : Option X) → free ≡ false → (if free then o else None) ≡ None
blocked true o h = cc
blocked false o h = refl

not_free_from : (n : Node) (e : EndId) (place : Place) (m : Msg) (r : Option (MainAt Spot)) → held_head r ≡ Some m → is_free (node_at n) m ≡ false
    → take_act (silent n.parties) (node_at n) e place (option_map (main_with (place_in n.table)) r) ≡ None
not_free_from n e place m None head h = cc
not_free_from n e place m (Some (Closed c)) head h = cc
not_free_from n e place m (Some (Expected keeper q deferred)) head h = cc
not_free_from n e place m (Some (Held held)) head h = go held.untaken head
  where
    go : (ms : List Msg) → slice_get ms 0 ≡ Some m → take_from (silent n.parties) (node_at n) e place (held_with (place_in n.table) held) ms ≡ None
    go [] head = cc
    go (x ∷ rest) head =
        let same : m ≡ x = cc in
        blocked (is_free (node_at n) x) _ (subst (λ (t : Msg). is_free (node_at n) t ≡ false) same h)

-- a message that names an end which is there isn't taken
pub not_free : (n : Node) (e : EndId) (place : Place) (s d k : ℕ) → next_head n e ≡ Some (msgs.Sess s d k) → is_none (main_of n (record { sess = s; side = d })) ≡ false
    → call_of n (rules.takes e place) ≡ None
not_free n e place s d k head there =
    not_free_from n e place (msgs.Sess s d k) (main_of n e) head (none-with (main_with (place_in n.table)) (main_of n (record { sess = s; side = d })) ∙ there)

-- a message that the place doesn't let come isn't taken
pub not_let : (n : Node) (e : EndId) (place : Place) (m : Msg) → next_head n e ≡ Some m → can_take n.table m (main_of n e) ≡ false → call_of n (rules.takes e place) ≡ None
not_let n e place m head h = not_let_from n e place m (main_of n e) head h
