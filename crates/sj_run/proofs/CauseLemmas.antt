-- A node that stops has a cause by the rules.
use Rattle.std.proofs.Common.{◌≡◌, ◌⊎◌, ℕ, Bool, true, false, ◌||◌, not, nat_lt, if◌then◌else◌, refl, ◌∙◌, inl, inr}
use Rattle.std.proofs.Common.{Option, Some, None, option_map, unwrap_or, List}
use Rattle.sj_lang.specs.Place.{Place}
use Rattle.sj_lang.specs.FileAt.{ProtocolAt}
use Rattle.sj_semantics.specs.declared.Want.{Want}
use Rattle.sj_semantics.specs.declared.Want.TheVariants as wants
use Rattle.sj_semantics.specs.Program.{Program}
use Rattle.sj_semantics.specs.Wants.{want_of}
use Rattle.sj_table.specs.declared.table.Spot.{Spot}
use Rattle.sj_rules.specs.Halts as rules
use Rattle.sj_rules.specs.Halts.{halt_by, halt_if, halt_of, is_at_end, is_delegated_enough, is_empty, is_expected, lacks_message}
use Rattle.sj_rules.specs.Mapped.{main_with, node_with}
use Rattle.sj_rules.specs.Node.{NodeAt}
use Rattle.sj_rules.specs.Party.{play_for, want_for, want_or_ended}
use Rattle.sj_rules.specs.Record.{MainAt, Held, Closed, Expected}
use Rattle.sj_node.specs.declared.refusal.Halt.{Halt}
use Rattle.sj_node.specs.declared.refusal.Halt.TheVariants as halts
use Rattle.sj_node.specs.Halts.{hold_up, names_awaited, stop_by, stop_wanting}
use Rattle.sj_node.specs.Play.{next_want}

-- there is a cause
abbrev pub HasCause : Option rules.Halt → Type 0
HasCause o = (cause : rules.Halt) × (o ≡ Some cause)

cause_if : (b : Bool) (h : rules.Halt) (rest : Option rules.Halt) → (b ≡ true) ⊎ HasCause rest → HasCause (halt_if b h rest)
cause_if true h rest c = (h, refl)
cause_if false h rest (inl e) = absurd (cc e)
cause_if false h rest (inr c) = c

either : (a b : Bool) → (a || b) ≡ true → (a ≡ true) ⊎ (b ≡ true)
either true b k = inl refl
either false b k = inr k

not_so : (b : Bool) (k h : Halt) → (if b then None else Some k) ≡ Some h → not b ≡ true
not_so true k h e = absurd (cc e)
not_so false k h e = refl

so_is : (b : Bool) (k h : Halt) → (if b then Some k else None) ≡ Some h → b ≡ true
so_is true k h e = refl
so_is false k h e = absurd (cc e)

-- where a node stops with steps left, for an awaited end or what holds it up
cause_by : (low named : Bool) (up : Option Halt) (h : Halt) (rest : Option rules.Halt)
    → (if low then (if named then Some halts.Waits else up) else Some halts.AtLimit) ≡ Some h
    → (named ≡ true → HasCause rest) → (up ≡ Some h → HasCause rest) → HasCause (halt_if (not low) rules.worn rest)
cause_by true true up h rest e awaited held = awaited refl
cause_by true false up h rest e awaited held = held e
cause_by false named up h rest e awaited held = (rules.worn, refl)

module _ (f : Spot → Place) (ps : List ProtocolAt) where
  awaited_is : (r : Option (MainAt Spot)) → is_expected (option_map (main_with f) r) ≡ is_expected r
  awaited_is None = refl
  awaited_is (Some (Held x)) = refl
  awaited_is (Some (Closed x)) = refl
  awaited_is (Some (Expected k to ds)) = refl

  enough_is : (r : Option (MainAt Spot)) → is_delegated_enough (option_map (main_with f) r) ≡ is_delegated_enough r
  enough_is None = refl
  enough_is (Some (Held x)) = refl
  enough_is (Some (Closed x)) = refl
  enough_is (Some (Expected k to ds)) = refl

  lacks_is : (r : Option (MainAt Spot)) → lacks_message (option_map (main_with f) r) ≡ lacks_message r
  lacks_is None = refl
  lacks_is (Some (Held x)) = refl
  lacks_is (Some (Closed x)) = refl
  lacks_is (Some (Expected k to ds)) = refl

  module _ (n : NodeAt Spot Program) (h : Halt) where
    -- an awaited end is a cause
    cause_named : (want : Want) → names_awaited n.main want ≡ true → HasCause (halt_by (node_with f n) (want_for ps want))
    cause_named wants.Local k = absurd (cc k)
    cause_named (wants.Send e m) k = cause_if _ (rules.awaits e) None (inl (awaited_is (n.main e) ∙ k))
    cause_named (wants.Delegate e y) k =
        elim (either (is_expected (n.main e)) (is_expected (n.main y)) k) [
          | inl t ↦ cause_if _ (rules.awaits e) _ (inl (awaited_is (n.main e) ∙ t))
          | inr t ↦ cause_if _ (rules.awaits e) _ (inr (cause_if _ (rules.awaits y) _ (inl (awaited_is (n.main y) ∙ t))))
        ]
    cause_named (wants.Take e a) k = cause_if _ (rules.awaits e) _ (inl (awaited_is (n.main e) ∙ k))
    cause_named (wants.Close e) k = cause_if _ (rules.awaits e) None (inl (awaited_is (n.main e) ∙ k))
    cause_named (wants.Request q to) k = absurd (cc k)
    cause_named (wants.Accept q from) k = absurd (cc k)
    cause_named wants.Ended k = absurd (cc k)

    -- and so is what holds a step up
    cause_up : (want : Want) → hold_up n.main n.requests n.offers want ≡ Some h → HasCause (halt_by (node_with f n) (want_for ps want))
    cause_up wants.Local k = absurd (cc k)
    cause_up (wants.Send e m) k = absurd (cc k)
    cause_up (wants.Delegate e y) k =
        let is = enough_is (n.main y) ∙ so_is (is_delegated_enough (n.main y)) halts.AtLimit h k in
        cause_if _ (rules.awaits e) _ (inr (cause_if _ (rules.awaits y) _ (inr (cause_if _ (rules.delegated_enough y) None (inl is)))))
    cause_up (wants.Take e a) k =
        let is = lacks_is (n.main e) ∙ so_is (lacks_message (n.main e)) halts.Waits h k in
        cause_if _ (rules.awaits e) _ (inr (cause_if _ (rules.no_message e) None (inl is)))
    cause_up (wants.Close e) k = absurd (cc k)
    cause_up (wants.Request q to) k = cause_if _ rules.requested_enough None (inl (not_so (nat_lt n.requests 100) halts.AtLimit h k))
    cause_up (wants.Accept q from) k = cause_if _ (rules.no_offer from) None (inl (so_is (is_empty (n.offers from)) halts.Waits h k))
    cause_up wants.Ended k = absurd (cc k)

    cause_of : (want : Want) → stop_wanting n.main n.requests n.offers n.program.steps want ≡ Some h
        → HasCause (halt_if (not (nat_lt n.program.steps 10000)) rules.worn (halt_by (node_with f n) (want_for ps want)))
    cause_of want k =
        cause_by (nat_lt n.program.steps 10000) (names_awaited n.main want) (hold_up n.main n.requests n.offers want) h _ k (cause_named want) (cause_up want)

    cause_step : (o : Option Want) → stop_by n.main n.requests n.offers n.program.steps (unwrap_or o wants.Ended) ≡ Some h
        → HasCause (halt_if (is_at_end (want_or_ended ps o)) rules.at_end
        (halt_if (not (nat_lt n.program.steps 10000)) rules.worn (halt_by (node_with f n) (want_or_ended ps o))))
    cause_step None k = (rules.at_end, refl)
    cause_step (Some wants.Ended) k = (rules.at_end, refl)
    cause_step (Some wants.Local) k = cause_of wants.Local k
    cause_step (Some (wants.Send e m)) k = cause_of (wants.Send e m) k
    cause_step (Some (wants.Delegate e y)) k = cause_of (wants.Delegate e y) k
    cause_step (Some (wants.Take e a)) k = cause_of (wants.Take e a) k
    cause_step (Some (wants.Request q to)) k = cause_of (wants.Request q to) k
    cause_step (Some (wants.Accept q from)) k = cause_of (wants.Accept q from) k
    cause_step (Some (wants.Close e)) k = cause_of (wants.Close e) k

    -- a node that stops has a cause by the rules
    pub has_cause : (parties : ℕ) → stop_by n.main n.requests n.offers n.program.steps (next_want n.program) ≡ Some h
        → HasCause (halt_of (play_for parties ps) (node_with f n))
    has_cause parties k = cause_step (want_of n.program) k
