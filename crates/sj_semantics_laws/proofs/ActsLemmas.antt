-- The lists of a world hold what the acts that led there sent and took.
use Rattle.std.proofs.Common.{◌≡◌, ℕ, Bool, cond, List, [], ◌∷◌, ◌++◌, map, slice_get, Some, option_map, option_and_then, unwrap_or, refl, ap, sym, ◌∙◌, inl, inr, append-nil, append_assoc}
use Rattle.std.proofs.lemmas.Bool.{cases_Bool}
use Rattle.std.proofs.lemmas.List.{map-append}
use Rattle.sj_base.specs.declared.EndId.{EndId}
use Rattle.sj_semantics.specs.declared.Passed.{Passed}
use Rattle.sj_semantics.specs.Ends.{EndAt, Session, is_end, end_at}
use Rattle.sj_semantics.specs.Uses.{Use, sends, takes, delegates, begins, end_after, after_uses}
use Rattle.sj_semantics.specs.Program.{Program}
use Rattle.sj_semantics.specs.World.{World, Change, change_of_program, changed_world, act_of}
use Rattle.sj_semantics.specs.Run.{after_acts}
use Rattle.sj_semantics.specs.Acts.{ActAt, acts_from, uses_on, acts_on, sent_by, taken_by, sent_on, taken_on}
use Rattle.sj_semantics_laws.proofs.BoundLemmas.{is_end_sym, is_end_sym_false}
use Rattle.sj_semantics_laws.proofs.EndLemmas.{touched, end_at-touched_other, end_at-touched_same}
use Rattle.sj_semantics_laws.proofs.CommuteLemmas.{doing_of}
use Rattle.sj_semantics_laws.proofs.RunLemmas.{between}

-- ---- the first act of a run

-- the first act's change, and the acts after it
pub record StepOf (w v : World) (p : ℕ) (ps : List ℕ) : Type 0 where
  pub program : Program
  pub there : slice_get w.parties p ≡ Some program
  pub change : Change
  pub made : change_of_program w p program ≡ Some change
  pub acts : acts_from w (p ∷ ps) ≡ record { by = p; uses = change.uses } ∷ acts_from (changed_world w p change) ps
  pub afterwards : after_acts (changed_world w p change) ps ≡ Some v

pub step_of : (w v : World) (p : ℕ) (ps : List ℕ) → after_acts w (p ∷ ps) ≡ Some v → StepOf w v p ps
step_of w v p ps h =
    let m = between (λ x. after_acts x ps) (act_of w p) v h in
    let a = doing_of w p m.world m.before in
    record {
      program = a.program;
      there = a.there;
      change = a.change;
      made = a.made;
      acts = ap (λ o. unwrap_or (option_map (λ (c : Change). record { by = p; uses = c.uses } ∷ acts_from (changed_world w p c) ps) o) []) (ap (option_and_then (change_of_program w p)) a.there ∙ a.made);
      afterwards = ap (λ t. after_acts t ps) a.result ∙ m.afterwards;
    }

-- ---- what a use adds

-- what a use appends to one of the end's lists, where each use of the end does so
abbrev pub Adds : {X : Type 0} → (EndAt → List X) → (ℕ → Use → List X) → Type 0
Adds list by = (p : ℕ) (u : Use) (e : EndAt) → list (end_after p u e) ≡ list e ++ by p u

sends_add : Adds (λ e. e.sent) sent_by
sends_add p (sends m) e = refl
sends_add p (takes m) e = sym (append-nil e.sent)
sends_add p delegates e = sym (append-nil e.sent)
sends_add p (begins place) e = sym (append-nil e.sent)

abbrev takers_by : ℕ → Use → List ℕ
takers_by p u = map (λ x. x.by) (taken_by p u)

takes_add : Adds (λ e. e.takers) takers_by
takes_add p (takes m) e = refl
takes_add p (sends m) e = sym (append-nil e.takers)
takes_add p delegates e = sym (append-nil e.takers)
takes_add p (begins place) e = sym (append-nil e.takers)

-- ---- all uses of an act, and all acts of a run

module _ {X : Type 0} (list : EndAt → List X) (found : ℕ → Use → List Passed) (shown : List Passed → List X)
    (shown-append : (xs ys : List Passed) → shown (xs ++ ys) ≡ shown xs ++ shown ys) (shown-nil : shown [] ≡ [])
    (adds : (p : ℕ) (u : Use) (e : EndAt) → list (end_after p u e) ≡ list e ++ shown (found p u)) where
  use_adds : (p : ℕ) (zs : List Session) (u : EndId × Use) (e : EndId)
      → list (end_at (touched p zs u) e) ≡ list (end_at zs e) ++ shown (cond (is_end e u.0) (found p u.1) [])
  use_adds p zs u e =
      elim (cases_Bool (is_end e u.0)) [
        | inl it ↦
            ap list (end_at-touched_same p zs u e (is_end_sym e u.0 it)) ∙ adds p u.1 (end_at zs e)
            ∙ ap (λ (t : Bool). list (end_at zs e) ++ shown (cond t (found p u.1) [])) (sym it)
        | inr other ↦
            ap list (end_at-touched_other p zs u e (is_end_sym_false e u.0 other))
            ∙ sym (append-nil (list (end_at zs e))) ∙ ap (λ ys. list (end_at zs e) ++ ys) (sym shown-nil)
            ∙ ap (λ (t : Bool). list (end_at zs e) ++ shown (cond t (found p u.1) [])) (sym other)
      ]

  uses_add : (p : ℕ) (us : List (EndId × Use)) (zs : List Session) (e : EndId)
      → list (end_at (after_uses p us zs) e) ≡ list (end_at zs e) ++ shown (uses_on e found p us)
  uses_add p [] zs e = sym (append-nil (list (end_at zs e))) ∙ ap (λ ys. list (end_at zs e) ++ ys) (sym shown-nil)
  uses_add p (u ∷ us) zs e =
      uses_add p us (touched p zs u) e
      ∙ ap (λ ys. ys ++ shown (uses_on e found p us)) (use_adds p zs u e)
      ∙ append_assoc (list (end_at zs e)) (shown (cond (is_end e u.0) (found p u.1) [])) (shown (uses_on e found p us))
      ∙ ap (λ ys. list (end_at zs e) ++ ys) (sym (shown-append (cond (is_end e u.0) (found p u.1) []) (uses_on e found p us)))

  acts_add : (w v : World) (ps : List ℕ) (e : EndId) → after_acts w ps ≡ Some v
      → list (end_at v.sessions e) ≡ list (end_at w.sessions e) ++ shown (acts_on e found (acts_from w ps))
  acts_add w v [] e h =
      let it : w ≡ v = cc in
      ap (λ (t : World). list (end_at t.sessions e)) (sym it) ∙ sym (append-nil (list (end_at w.sessions e))) ∙ ap (λ ys. list (end_at w.sessions e) ++ ys) (sym shown-nil)
  acts_add w v (p ∷ ps) e h =
      let s = step_of w v p ps h in
      acts_add (changed_world w p s.change) v ps e s.afterwards
      ∙ ap (λ ys. ys ++ shown (acts_on e found (acts_from (changed_world w p s.change) ps))) (uses_add p s.change.uses w.sessions e)
      ∙ append_assoc (list (end_at w.sessions e)) (shown (uses_on e found p s.change.uses)) (shown (acts_on e found (acts_from (changed_world w p s.change) ps)))
      ∙ ap (λ ys. list (end_at w.sessions e) ++ ys) (sym (shown-append (uses_on e found p s.change.uses) (acts_on e found (acts_from (changed_world w p s.change) ps))))
      ∙ ap (λ (as' : List ActAt). list (end_at w.sessions e) ++ shown (acts_on e found as')) (sym s.acts)

pub sent_is_of_acts : (w v : World) (ps : List ℕ) (e : EndId) → after_acts w ps ≡ Some v
    → (end_at v.sessions e).sent ≡ (end_at w.sessions e).sent ++ sent_on e (acts_from w ps)
sent_is_of_acts = acts_add (λ e. e.sent) sent_by (λ xs. xs) (λ xs ys. refl) refl sends_add

pub takers_are_of_acts : (w v : World) (ps : List ℕ) (e : EndId) → after_acts w ps ≡ Some v
    → (end_at v.sessions e).takers ≡ (end_at w.sessions e).takers ++ map (λ x. x.by) (taken_on e (acts_from w ps))
takers_are_of_acts = acts_add (λ e. e.takers) taken_by (map (λ x. x.by)) (map-append (λ x. x.by)) refl takes_add

pub takers_after_uses : (p : ℕ) (us : List (EndId × Use)) (zs : List Session) (e : EndId)
    → (end_at (after_uses p us zs) e).takers ≡ (end_at zs e).takers ++ map (λ x. x.by) (uses_on e taken_by p us)
takers_after_uses = uses_add (λ e. e.takers) taken_by (map (λ x. x.by)) (map-append (λ x. x.by)) refl takes_add
