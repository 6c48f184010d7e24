-- What a node names as the cause why it can't act keeps it from acting by its file.
use Rattle.std.proofs.Common.{◌≡◌, ℕ, ◌+◌, Bool, true, false, ◌||◌, not, nat_lt, if◌then◌else◌, List, [], ◌∷◌, Option, Some, None, option_map, unwrap_or, refl, ap, ◌∙◌, ◌⊎◌, inl, inr}
use Rattle.sj_base.specs.declared.EndId.{EndId}
use Rattle.sj_base.specs.declared.Msg.{Msg}
use Rattle.sj_base.specs.declared.Msg.TheVariants as msgs
use Rattle.sj_lang.specs.Place.{Place}
use Rattle.sj_lang.specs.FileAt.{ProtocolAt}
use Rattle.sj_semantics.specs.declared.Want.{Want}
use Rattle.sj_semantics.specs.declared.Want.TheVariants as wants
use Rattle.sj_semantics.specs.Program.{Program}
use Rattle.sj_semantics.specs.Wants.{want_of}
use Rattle.sj_table.specs.declared.table.Spot.{Spot}
use Rattle.sj_rules.specs.Mapped.{held_with, main_with, node_with}
use Rattle.sj_rules.specs.Opened.{smallest}
use Rattle.sj_rules.specs.Record.{HeldAt, MainAt, Held, Closed, Expected, Parked, is_same_end}
use Rattle.sj_rules.specs.Node.{NodeAt, accept_offered, act_by, acts, close_act, delegate_act, send_act, take_act, take_from, with_main, with_old}
use Rattle.sj_rules.specs.Party.{play_for, want_or_ended}
use Rattle.sj_rules.specs.Halts.{is_delegated_enough, is_empty, is_expected, lacks_message}
use Rattle.sj_node.specs.declared.refusal.Halt.{Halt}
use Rattle.sj_node.specs.declared.refusal.Halt.TheVariants as halts
use Rattle.sj_node.specs.Halts.{hold_up, names_awaited, stop_by}
use Rattle.sj_node.specs.Play.{next_want}

-- the party without the end, which it has parked
abbrev parked_out : NodeAt Place Program → EndId → HeldAt Place → NodeAt Place Program
parked_out n e x = with_main e None (with_old e (Some (Parked (record x.end { hops = x.end.hops + 1 }))) n)

module _ (f : Spot → Place) (parties : ℕ) (ps : List ProtocolAt) (p : ℕ) where
  -- an awaited end is neither sent on, taken from nor closed
  send_awaited : (n : NodeAt Place Program) (e : EndId) (m : Msg) (r : Option (MainAt Spot)) → is_expected r ≡ true → send_act (play_for parties ps) n e m (option_map (main_with f) r) ≡ None
  send_awaited n e m None h = refl
  send_awaited n e m (Some (Held x)) h = absurd (cc h)
  send_awaited n e m (Some (Closed x)) h = refl
  send_awaited n e m (Some (Expected k to ds)) h = refl

  close_awaited : (n : NodeAt Place Program) (e : EndId) (r : Option (MainAt Spot)) → is_expected r ≡ true → close_act (play_for parties ps) n e (option_map (main_with f) r) ≡ None
  close_awaited n e None h = refl
  close_awaited n e (Some (Held x)) h = absurd (cc h)
  close_awaited n e (Some (Closed x)) h = refl
  close_awaited n e (Some (Expected k to ds)) h = refl

  take_awaited : (n : NodeAt Place Program) (e : EndId) (to : Place) (r : Option (MainAt Spot)) → is_expected r ≡ true → take_act (play_for parties ps) n e to (option_map (main_with f) r) ≡ None
  take_awaited n e to None h = refl
  take_awaited n e to (Some (Held x)) h = absurd (cc h)
  take_awaited n e to (Some (Closed x)) h = refl
  take_awaited n e to (Some (Expected k at ds)) h = refl

  from_nothing : (n : NodeAt Place Program) (e : EndId) (to : Place) (h : HeldAt Place) (ms : List Msg) → is_empty ms ≡ true
      → take_from (play_for parties ps) n e to h ms ≡ None
  from_nothing n e to h [] k = refl
  from_nothing n e to h (m ∷ ms) k = absurd (cc k)

  take_nothing : (n : NodeAt Place Program) (e : EndId) (to : Place) (r : Option (MainAt Spot)) → lacks_message r ≡ true → take_act (play_for parties ps) n e to (option_map (main_with f) r) ≡ None
  take_nothing n e to None h = refl
  take_nothing n e to (Some (Held x)) h = from_nothing n e to (held_with f x) x.untaken h
  take_nothing n e to (Some (Closed x)) h = refl
  take_nothing n e to (Some (Expected k at ds)) h = refl

  -- a record that isn't there is no Held one
  none_if : (b : Bool) (r : Option (MainAt Place)) (n : NodeAt Place Program) (e : EndId) (m : Msg) → send_act (play_for parties ps) n e m r ≡ None → send_act (play_for parties ps) n e m (if b then None else r) ≡ None
  none_if true r n e m h = refl
  none_if false r n e m h = h

  if_none : {A : Type 0} → (b : Bool) (x : Option A) → x ≡ None → (if b then x else None) ≡ None
  if_none true x h = h
  if_none false x h = refl

  hand_on_awaited : (n : NodeAt Place Program) (c e : EndId) (r : Option (MainAt Spot)) (o : Option (MainAt Place)) → n.main c ≡ option_map (main_with f) r → is_expected r ≡ true → delegate_act (play_for parties ps) p n c e o ≡ None
  hand_on_awaited n c e r None is h = refl
  hand_on_awaited n c e r (Some (Held x)) is h =
      if_none (nat_lt x.end.hops 100) _
      (let m = msgs.Sess e.sess e.side p in
      none_if (is_same_end c e) (n.main c) (parked_out n e x) c m (ap (send_act (play_for parties ps) (parked_out n e x) c m) is ∙ send_awaited (parked_out n e x) c m r h))
  hand_on_awaited n c e r (Some (Closed x)) is h = refl
  hand_on_awaited n c e r (Some (Expected k at ds)) is h = refl

  handed_awaited : (n : NodeAt Place Program) (c e : EndId) (r : Option (MainAt Spot)) → is_expected r ≡ true → delegate_act (play_for parties ps) p n c e (option_map (main_with f) r) ≡ None
  handed_awaited n c e None h = refl
  handed_awaited n c e (Some (Held x)) h = absurd (cc h)
  handed_awaited n c e (Some (Closed x)) h = refl
  handed_awaited n c e (Some (Expected k at ds)) h = refl

  is_false : (b : Bool) → not b ≡ true → b ≡ false
  is_false true h = absurd (cc h)
  is_false false h = refl

  handed_enough : (n : NodeAt Place Program) (c e : EndId) (r : Option (MainAt Spot)) → is_delegated_enough r ≡ true
      → delegate_act (play_for parties ps) p n c e (option_map (main_with f) r) ≡ None
  handed_enough n c e None h = refl
  handed_enough n c e (Some (Held x)) h = let no : nat_lt x.end.hops 100 ≡ false = is_false (nat_lt x.end.hops 100) h in rw no refl
  handed_enough n c e (Some (Closed x)) h = refl
  handed_enough n c e (Some (Expected k at ds)) h = refl

  -- nothing is accepted where nothing is offered
  nothing_offered : (n : NodeAt Place Program) (place : Place) (from : ℕ) (sessions : List ℕ) → is_empty sessions ≡ true → accept_offered (play_for parties ps) n place from (smallest sessions) ≡ None
  nothing_offered n place from [] h = refl
  nothing_offered n place from (s ∷ ss) h = absurd (cc h)

  -- either of two
  or_true : (a b : Bool) → (a || b) ≡ true → (a ≡ true) ⊎ (b ≡ true)
  or_true true b h = inl refl
  or_true false b h = inr h

  -- a step that names an awaited end
  awaited_none : (n : NodeAt Spot Program) (want : Want) → names_awaited n.main want ≡ true → act_by (play_for parties ps) p (node_with f n) (want_or_ended ps (Some want)) ≡ None
  awaited_none n wants.Local h = absurd (cc h)
  awaited_none n (wants.Send e m) h = send_awaited (node_with f n) e m (n.main e) h
  awaited_none n (wants.Delegate e y) h =
      elim (or_true (is_expected (n.main e)) (is_expected (n.main y)) h) [
        | inl t ↦ hand_on_awaited (node_with f n) e y (n.main e) (option_map (main_with f) (n.main y)) refl t
        | inr t ↦ handed_awaited (node_with f n) e y (n.main y) t
      ]
  awaited_none n (wants.Take e a) h = take_awaited (node_with f n) e _ (n.main e) h
  awaited_none n (wants.Close e) h = close_awaited (node_with f n) e (n.main e) h
  awaited_none n (wants.Request q to) h = absurd (cc h)
  awaited_none n (wants.Accept q from) h = absurd (cc h)
  awaited_none n wants.Ended h = absurd (cc h)

  some_is : {A : Type 0} → (b : Bool) (x y : A) → (if b then Some x else None) ≡ Some y → b ≡ true
  some_is true x y h = refl
  some_is false x y h = absurd (cc h)

  -- what is done where the test fails, and what isn't
  not_so : {A B : Type 0} → (b : Bool) (x y : A) (act : Option B) → (if b then None else Some x) ≡ Some y → (if b then act else None) ≡ None
  not_so true x y act h = absurd (cc h)
  not_so false x y act h = refl

  held_up_none : (n : NodeAt Spot Program) (want : Want) (h : Halt) → hold_up n.main n.requests n.offers want ≡ Some h → act_by (play_for parties ps) p (node_with f n) (want_or_ended ps (Some want)) ≡ None
  held_up_none n wants.Local h k = absurd (cc k)
  held_up_none n (wants.Send e m) h k = absurd (cc k)
  held_up_none n (wants.Delegate e y) h k = handed_enough (node_with f n) e y (n.main y) (some_is (is_delegated_enough (n.main y)) halts.AtLimit h k)
  held_up_none n (wants.Take e a) h k = take_nothing (node_with f n) e _ (n.main e) (some_is (lacks_message (n.main e)) halts.Waits h k)
  held_up_none n (wants.Close e) h k = absurd (cc k)
  held_up_none n (wants.Request q to) h k = not_so (nat_lt n.requests 100) halts.AtLimit h _ k
  held_up_none n (wants.Accept q from) h k = nothing_offered (node_with f n) _ from (n.offers from) (some_is (is_empty (n.offers from)) halts.Waits h k)
  held_up_none n wants.Ended h k = refl

  named_none : (n : NodeAt Spot Program) (want : Want) (h : Halt) (b : Bool) → names_awaited n.main want ≡ b → (if b then Some halts.Waits else hold_up n.main n.requests n.offers want) ≡ Some h → act_by (play_for parties ps) p (node_with f n) (want_or_ended ps (Some want)) ≡ None
  named_none n want h true is k = awaited_none n want is
  named_none n want h false is k = held_up_none n want h k

  steps_none : (n : NodeAt Spot Program) (want : Want) (h : Halt) (b : Bool)
      → (if b then (if names_awaited n.main want then Some halts.Waits else hold_up n.main n.requests n.offers want) else Some halts.AtLimit) ≡ Some h
      → (if not b then None else act_by (play_for parties ps) p (node_with f n) (want_or_ended ps (Some want))) ≡ None
  steps_none n want h true k = named_none n want h (names_awaited n.main want) refl k
  steps_none n want h false k = refl

  ended_none : {A : Type 0} → (b : Bool) (x : Option A) → x ≡ None → (if b then None else x) ≡ None
  ended_none true x h = refl
  ended_none false x h = h

  want_none : (n : NodeAt Spot Program) (o : Option Want) (h : Halt) → stop_by n.main n.requests n.offers n.program.steps (unwrap_or o wants.Ended) ≡ Some h
      → (if not (nat_lt n.program.steps 10000) then None else act_by (play_for parties ps) p (node_with f n) (want_or_ended ps o)) ≡ None
  want_none n None h k = ended_none (not (nat_lt n.program.steps 10000)) None refl
  want_none n (Some wants.Ended) h k = ended_none (not (nat_lt n.program.steps 10000)) None refl
  want_none n (Some wants.Local) h k = steps_none n wants.Local h (nat_lt n.program.steps 10000) k
  want_none n (Some (wants.Send e m)) h k = steps_none n (wants.Send e m) h (nat_lt n.program.steps 10000) k
  want_none n (Some (wants.Delegate e y)) h k = steps_none n (wants.Delegate e y) h (nat_lt n.program.steps 10000) k
  want_none n (Some (wants.Take e a)) h k = steps_none n (wants.Take e a) h (nat_lt n.program.steps 10000) k
  want_none n (Some (wants.Request q to)) h k = steps_none n (wants.Request q to) h (nat_lt n.program.steps 10000) k
  want_none n (Some (wants.Accept q from)) h k = steps_none n (wants.Accept q from) h (nat_lt n.program.steps 10000) k
  want_none n (Some (wants.Close e)) h k = steps_none n (wants.Close e) h (nat_lt n.program.steps 10000) k

  -- where a cause applies there is no act
  pub halted : (n : NodeAt Spot Program) (h : Halt) → stop_by n.main n.requests n.offers n.program.steps (next_want n.program) ≡ Some h → acts (play_for parties ps) p (node_with f n) ≡ None
  halted n h k = want_none n (want_of n.program) h k
