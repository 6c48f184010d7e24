-- A node that has ended or is at a limit doesn't wait by the rules.
use Rattle.std.proofs.Common.{◌≡◌, ℕ, Bool, true, false, ◌||◌, not, nat_lt, if◌then◌else◌, Option, Some, None, option_map, unwrap_or, List, refl, ◌∙◌}
use Rattle.sj_base.specs.declared.EndId.{EndId}
use Rattle.sj_lang.specs.Place.{Place}
use Rattle.sj_lang.specs.FileAt.{ProtocolAt}
use Rattle.sj_semantics.specs.declared.Want.{Want}
use Rattle.sj_semantics.specs.declared.Want.TheVariants as wants
use Rattle.sj_semantics.specs.Program.{Program}
use Rattle.sj_semantics.specs.Wants.{want_of}
use Rattle.sj_table.specs.declared.table.Spot.{Spot}
use Rattle.sj_rules.specs.Halts as rules
use Rattle.sj_rules.specs.Halts.{halt_by, halt_if, halt_of, is_at_end, is_delegated_enough, is_empty, is_expected, lacks_message}
use Rattle.sj_rules.specs.Mapped.{main_with, node_with}
use Rattle.sj_rules.specs.Node.{NodeAt}
use Rattle.sj_rules.specs.Party.{play_for, want_for, want_or_ended}
use Rattle.sj_rules.specs.Record.{MainAt, Held, Closed, Expected}
use Rattle.sj_node.specs.declared.refusal.Halt.{Halt}
use Rattle.sj_node.specs.declared.refusal.Halt.TheVariants as halts
use Rattle.sj_node.specs.Halts.{hold_up, names_awaited, stop_by, stop_wanting}
use Rattle.sj_node.specs.Play.{next_want}
use Rattle.sj_run.specs.Shown.{IsWaiting}

-- the node stops with steps left, and doesn't wait: no end that it names is awaited, and that stop
-- is what holds it up
held_back : (low named : Bool) (up : Option Halt) (h : Halt) → (h ≡ halts.Waits → ⊥) → low ≡ true
    → (if low then (if named then Some halts.Waits else up) else Some halts.AtLimit) ≡ Some h → (named ≡ false) × (up ≡ Some h)
held_back true true up h other e k = absurd (other (let w : Some halts.Waits ≡ Some h = k in cc w))
held_back true false up h other e k = (refl, k)
held_back false named up h other e k = absurd (cc e)

-- by the rules it has steps left, and waits for what comes after
below : (low : Bool) (rest : Option rules.Halt) → IsWaiting (halt_if (not low) rules.worn rest) → (low ≡ true) × IsWaiting rest
below true rest w = (refl, w)
below false rest w = absurd w

unless : (b : Bool) (h : rules.Halt) (rest : Option rules.Halt) → b ≡ false → IsWaiting (halt_if b h rest) → IsWaiting rest
unless false h rest is w = w
unless true h rest is w = absurd (cc is)

neither : (a b : Bool) → (a || b) ≡ false → (a ≡ false) × (b ≡ false)
neither false b k = (refl, k)
neither true b k = absurd (cc k)

-- an end that may be delegated no more is no wait
enough : (b : Bool) (e : EndId) → IsWaiting (halt_if b (rules.delegated_enough e) None) → ⊥
enough true e w = w
enough false e w = w

-- nor are too many requests
requested : (b : Bool) → IsWaiting (halt_if b rules.requested_enough None) → ⊥
requested true w = w
requested false w = w

-- what lacks a message, or an offer, waits
lacks : (b : Bool) (h : Halt) → (h ≡ halts.Waits → ⊥) → (if b then Some halts.Waits else None) ≡ Some h → ⊥
lacks true h other k = other (let w : Some halts.Waits ≡ Some h = k in cc w)
lacks false h other k = cc k

module _ (f : Spot → Place) (ps : List ProtocolAt) where
  awaited_is : (r : Option (MainAt Spot)) → is_expected (option_map (main_with f) r) ≡ is_expected r
  awaited_is None = refl
  awaited_is (Some (Held x)) = refl
  awaited_is (Some (Closed x)) = refl
  awaited_is (Some (Expected k to ds)) = refl

  module _ (n : NodeAt Spot Program) (h : Halt) (other : h ≡ halts.Waits → ⊥) where
    -- with no end awaited and that stop, the rules don't wait
    by_want : (want : Want) → names_awaited n.main want ≡ false → hold_up n.main n.requests n.offers want ≡ Some h → IsWaiting (halt_by (node_with f n) (want_for ps want)) → ⊥
    by_want wants.Local named up w = w
    by_want (wants.Send e m) named up w = unless _ (rules.awaits e) None (awaited_is (n.main e) ∙ named) w
    by_want (wants.Delegate e y) named up w =
        let apart = neither (is_expected (n.main e)) (is_expected (n.main y)) named in
        let more = unless _ (rules.awaits e) _ (awaited_is (n.main e) ∙ apart.0) w in
        enough (is_delegated_enough (option_map (main_with f) (n.main y))) y (unless _ (rules.awaits y) _ (awaited_is (n.main y) ∙ apart.1) more)
    by_want (wants.Take e a) named up w = lacks (lacks_message (n.main e)) h other up
    by_want (wants.Close e) named up w = unless _ (rules.awaits e) None (awaited_is (n.main e) ∙ named) w
    by_want (wants.Request q to) named up w = requested (not (nat_lt n.requests 100)) w
    by_want (wants.Accept q from) named up w = lacks (is_empty (n.offers from)) h other up
    by_want wants.Ended named up w = w

    stopped : (want : Want) → stop_wanting n.main n.requests n.offers n.program.steps want ≡ Some h
        → IsWaiting (halt_if (not (nat_lt n.program.steps 10000)) rules.worn (halt_by (node_with f n) (want_for ps want))) → ⊥
    stopped want k w =
        let low = below (nat_lt n.program.steps 10000) _ w in
        let back = held_back (nat_lt n.program.steps 10000) (names_awaited n.main want) (hold_up n.main n.requests n.offers want) h other low.0 k in
        by_want want back.0 back.1 low.1

    by_step : (o : Option Want) → stop_by n.main n.requests n.offers n.program.steps (unwrap_or o wants.Ended) ≡ Some h
        → IsWaiting (halt_if (is_at_end (want_or_ended ps o)) rules.at_end (halt_if (not (nat_lt n.program.steps 10000)) rules.worn (halt_by (node_with f n) (want_or_ended ps o)))) → ⊥
    by_step None k w = w
    by_step (Some wants.Ended) k w = w
    by_step (Some wants.Local) k w = stopped wants.Local k w
    by_step (Some (wants.Send e m)) k w = stopped (wants.Send e m) k w
    by_step (Some (wants.Delegate e y)) k w = stopped (wants.Delegate e y) k w
    by_step (Some (wants.Take e a)) k w = stopped (wants.Take e a) k w
    by_step (Some (wants.Request q to)) k w = stopped (wants.Request q to) k w
    by_step (Some (wants.Accept q from)) k w = stopped (wants.Accept q from) k w
    by_step (Some (wants.Close e)) k w = stopped (wants.Close e) k w

    -- a node that stops for another cause than a wait doesn't wait by the rules
    pub waits_not : (parties : ℕ) → stop_by n.main n.requests n.offers n.program.steps (next_want n.program) ≡ Some h → IsWaiting (halt_of (play_for parties ps) (node_with f n)) → ⊥
    waits_not parties k w = by_step (want_of n.program) k w
