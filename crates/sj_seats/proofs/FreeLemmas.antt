-- Where nothing stops a node, no cause keeps its party from acting by the rules, as in sj_core.
use Rattle.std.proofs.Common.{◌≡◌, Bool, true, false, ◌||◌, not, nat_lt, if◌then◌else◌, Option, Some, None, option_map, unwrap_or, refl, ◌∙◌}
use Rattle.sj_lang.specs.Place.{Place}
use Rattle.sj_lang.specs.FileAt.{FileAt}
use Rattle.sj_semantics.specs.declared.Want.{Want}
use Rattle.sj_semantics.specs.declared.Want.TheVariants as wants
use Rattle.sj_semantics.specs.Program.{Program}
use Rattle.sj_semantics.specs.Wants.{want_of}
use Rattle.sj_table.specs.declared.table.Spot.{Spot}
use Rattle.sj_rules.specs.Halts as rules
use Rattle.sj_rules.specs.Halts.{halt_by, halt_if, halt_of, is_at_end, is_delegated_enough, is_empty, is_expected, lacks_message}
use Rattle.sj_rules.specs.Mapped.{main_with, node_with}
use Rattle.sj_rules.specs.Node.{NodeAt}
use Rattle.sj_rules.specs.Party.{play_of, want_for, want_or_ended}
use Rattle.sj_rules.specs.Record.{MainAt, Held, Closed, Expected}
use Rattle.sj_node.specs.declared.refusal.Halt.{Halt}
use Rattle.sj_node.specs.declared.refusal.Halt.TheVariants as halts
use Rattle.sj_node.specs.Halts.{hold_up, names_awaited, stop_by, stop_wanting}
use Rattle.sj_node.specs.Play.{next_want}

-- what was met on the way to no cause
passed : (low named : Bool) (up : Option Halt) → (if low then (if named then Some halts.Waits else up) else Some halts.AtLimit) ≡ None → (low ≡ true) × (named ≡ false) × (up ≡ None)
passed true false up k = (refl, refl, k)
passed true true up k = absurd (cc k)
passed false named up k = absurd (cc k)

neither : (a b : Bool) → (a || b) ≡ false → (a ≡ false) × (b ≡ false)
neither false b k = (refl, k)
neither true b k = absurd (cc k)

none_if : (b : Bool) (h : Halt) → (if b then Some h else None) ≡ None → b ≡ false
none_if false h k = refl
none_if true h k = absurd (cc k)

few_by : (b : Bool) (h : Halt) → (if b then None else Some h) ≡ None → not b ≡ false
few_by true h k = refl
few_by false h k = absurd (cc k)

-- no cause at all
goes_on : (low : Bool) (rest : Option rules.Halt) → low ≡ true → rest ≡ None → halt_if (not low) rules.worn rest ≡ None
goes_on true rest h k = k
goes_on false rest h k = absurd (cc h)

module _ (f : Spot → Place) where
  awaited_is : (r : Option (MainAt Spot)) → is_expected (option_map (main_with f) r) ≡ is_expected r
  awaited_is None = refl
  awaited_is (Some (Held x)) = refl
  awaited_is (Some (Closed x)) = refl
  awaited_is (Some (Expected k to ds)) = refl

  enough_is : (r : Option (MainAt Spot)) → is_delegated_enough (option_map (main_with f) r) ≡ is_delegated_enough r
  enough_is None = refl
  enough_is (Some (Held x)) = refl
  enough_is (Some (Closed x)) = refl
  enough_is (Some (Expected k to ds)) = refl

  lacks_is : (r : Option (MainAt Spot)) → lacks_message (option_map (main_with f) r) ≡ lacks_message r
  lacks_is None = refl
  lacks_is (Some (Held x)) = refl
  lacks_is (Some (Closed x)) = refl
  lacks_is (Some (Expected k to ds)) = refl

  unhalted_by : (b : Bool) (h : rules.Halt) (rest : Option rules.Halt) → b ≡ false → rest ≡ None → halt_if b h rest ≡ None
  unhalted_by false h rest is k = k
  unhalted_by true h rest is k = absurd (cc is)

module _ (file : FileAt) (f : Spot → Place) (m : NodeAt Spot Program) where
  -- the step, where nothing stops the node
  free_by : (want : Want) → names_awaited m.main want ≡ false → hold_up m.main m.requests m.offers want ≡ None → is_at_end (want_for file.protocols want) ≡ false
      → halt_by (node_with f m) (want_for file.protocols want) ≡ None
  free_by wants.Ended named up k = absurd (cc k)
  free_by wants.Local named up k = refl
  free_by (wants.Send e x) named up k = unhalted_by f _ (rules.awaits e) None (awaited_is f (m.main e) ∙ named) refl
  free_by (wants.Delegate e y) named up k =
      let apart = neither (is_expected (m.main e)) (is_expected (m.main y)) named in
      let few = none_if (is_delegated_enough (m.main y)) halts.AtLimit up in
      unhalted_by f _ (rules.awaits e) _ (awaited_is f (m.main e) ∙ apart.0)
      (unhalted_by f _ (rules.awaits y) _ (awaited_is f (m.main y) ∙ apart.1)
      (unhalted_by f _ (rules.delegated_enough y) None (enough_is f (m.main y) ∙ few) refl))
  free_by (wants.Take e a) named up k =
      let some = none_if (lacks_message (m.main e)) halts.Waits up in
      unhalted_by f _ (rules.awaits e) _ (awaited_is f (m.main e) ∙ named)
      (unhalted_by f _ (rules.no_message e) None (lacks_is f (m.main e) ∙ some) refl)
  free_by (wants.Close e) named up k = unhalted_by f _ (rules.awaits e) None (awaited_is f (m.main e) ∙ named) refl
  free_by (wants.Request q to) named up k = unhalted_by f _ rules.requested_enough None (few_by (nat_lt m.requests 100) halts.AtLimit up) refl
  free_by (wants.Accept q from) named up k = unhalted_by f _ (rules.no_offer from) None (none_if (is_empty (m.offers from)) halts.Waits up) refl

  free_step : (want : Want) → stop_wanting m.main m.requests m.offers m.program.steps want ≡ None → is_at_end (want_for file.protocols want) ≡ false
      → halt_if (not (nat_lt m.program.steps 10000)) rules.worn (halt_by (node_with f m) (want_for file.protocols want)) ≡ None
  free_step want k more =
      let t = passed (nat_lt m.program.steps 10000) (names_awaited m.main want) (hold_up m.main m.requests m.offers want) k in
      goes_on (nat_lt m.program.steps 10000) (halt_by (node_with f m) (want_for file.protocols want)) t.0 (free_by want t.1 t.2 more)

  free_want : (o : Option Want) → stop_by m.main m.requests m.offers m.program.steps (unwrap_or o wants.Ended) ≡ None
      → halt_if (is_at_end (want_or_ended file.protocols o)) rules.at_end (halt_if (not (nat_lt m.program.steps 10000)) rules.worn (halt_by (node_with f m) (want_or_ended file.protocols o))) ≡ None
  free_want None k = absurd (cc k)
  free_want (Some wants.Ended) k = absurd (cc k)
  free_want (Some wants.Local) k = free_step wants.Local k refl
  free_want (Some (wants.Send e x)) k = free_step (wants.Send e x) k refl
  free_want (Some (wants.Delegate e y)) k = free_step (wants.Delegate e y) k refl
  free_want (Some (wants.Take e a)) k = free_step (wants.Take e a) k refl
  free_want (Some (wants.Close e)) k = free_step (wants.Close e) k refl
  free_want (Some (wants.Request q to)) k = free_step (wants.Request q to) k refl
  free_want (Some (wants.Accept q from)) k = free_step (wants.Accept q from) k refl

  pub unhalted : stop_by m.main m.requests m.offers m.program.steps (next_want m.program) ≡ None → halt_of (play_of file) (node_with f m) ≡ None
  unhalted k = free_want (want_of m.program) k
