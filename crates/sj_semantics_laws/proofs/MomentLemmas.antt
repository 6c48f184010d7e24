-- What holds in every world of a run, whatever acts come between.
use Rattle.std.proofs.Common.{◌≡◌, ◌≢◌, ℕ, ◌≤◌, List, [], ◌∷◌, ◌++◌, length, slice_get, Some, option_and_then, refl, ap, sym, ◌∙◌, subst, arith, inl, inr}
use Rattle.std.proofs.lemmas.Bool.{cases_eq}
use Rattle.sj_base.specs.declared.EndId.{EndId}
use Rattle.sj_lang.specs.FileAt.{FileAt}
use Rattle.sj_semantics.specs.declared.State.TheVariants as states
use Rattle.sj_semantics.specs.declared.Want.TheVariants as wants
use Rattle.sj_semantics.specs.Program.{Program}
use Rattle.sj_semantics.specs.Run.{IsRun, after_acts}
use Rattle.sj_semantics.specs.World.{start_of, World, act_of}
use Rattle.sj_semantics.specs.State.{state_of}
use Rattle.sj_semantics.specs.Wants.{want_of}
use Rattle.sj_semantics_laws.specs.Runs.{IsBoundAt, IsBoundNowhere, IsNoneOf}
use Rattle.sj_semantics_laws.specs.Unshared.{bindings_of, claims_on, IsToCome, IsUnshared}
use Rattle.sj_semantics_laws.proofs.AlteredLemmas.{one-le-sum_by}
use Rattle.sj_semantics_laws.proofs.CommuteLemmas.{acts_meet}
use Rattle.sj_semantics_laws.proofs.HolderLemmas.{one_holder, closed_nowhere}
use Rattle.sj_semantics_laws.proofs.KeepLemmas.{act_keeps_unshared, claims_on-act, come_before}
use Rattle.sj_semantics_laws.proofs.BoundLemmas.{want_bound}
use Rattle.sj_semantics_laws.specs.Bound.{IsBound}
use Rattle.sj_lang.specs.Limits.{limits}
use Rattle.sj_semantics_laws.proofs.RunLemmas.{between, run_keeps_unshared}
use Rattle.sj_semantics_laws.proofs.StartLemmas.{start_is_unshared}
use Rattle.sj_semantics_laws.proofs.StateLemmas.{act_is_ready, ready_can_act}

pub run_is_unshared : (file : FileAt) (ps : List ℕ) (w : World) → length file.connects ≤ limits.connects → IsRun file ps w → IsUnshared w
run_is_unshared file ps w few run = run_keeps_unshared (start_of file) w ps (start_is_unshared file few) run

-- ---- parts of a run

-- the first acts of a list, and the world between them and the others
pub front_of_acts : (w v : World) (ps qs : List ℕ) → after_acts w (ps ++ qs) ≡ Some v → (u : World) × (after_acts w ps ≡ Some u) × (after_acts u qs ≡ Some v)
front_of_acts w v [] qs h = (w, refl, h)
front_of_acts w v (p ∷ ps) qs h =
    let m = between (λ x. after_acts x (ps ++ qs)) (act_of w p) v h in
    let r = front_of_acts m.world v ps qs m.afterwards in
    (r.0, ap (option_and_then (λ x. after_acts x ps)) m.before ∙ r.1, r.2)

-- acts after acts
pub acts_on_acts : (w u v : World) (ps qs : List ℕ) → after_acts w ps ≡ Some u → after_acts u qs ≡ Some v → after_acts w (ps ++ qs) ≡ Some v
acts_on_acts w u v [] qs h k = subst (λ (t : World). after_acts t qs ≡ Some v) (let it : u ≡ w = cc in it) k
acts_on_acts w u v (p ∷ ps) qs h k =
    let m = between (λ x. after_acts x ps) (act_of w p) u h in
    ap (option_and_then (λ x. after_acts x (ps ++ qs))) m.before ∙ acts_on_acts m.world u v ps qs m.afterwards k

-- a run, and an act after it
pub one_more : (file : FileAt) (ps : List ℕ) (w v : World) (p : ℕ) → IsRun file ps w → act_of w p ≡ Some v → IsRun file (ps ++ p ∷ []) v
one_more file ps w v p run h = acts_on_acts (start_of file) w v ps (p ∷ []) run (ap (option_and_then (λ x. after_acts x [])) h)

-- ---- holders

pub holder_is_one : (w : World) (p q : ℕ) (e : EndId) → IsUnshared w → IsBoundAt w p e → IsBoundAt w q e → p ≡ q
holder_is_one w p q e one b c =
    elim (cases_eq p q) [
      | inl same ↦ same
      | inr other ↦ absurd (one_holder w p q b.0 c.0 e one b.1 c.1 b.2 c.2 other)
    ]

pub unclaimed_nowhere : (w : World) (e : EndId) → claims_on e w ≡ 0 → IsBoundNowhere w e
unclaimed_nowhere w e none = λ p b. omega (arith, none, b.2.some_name, one-le-sum_by (λ (g : Program). bindings_of e g.ends) w.parties p b.0 b.1)

-- acts claim no end that isn't to come
pub claims_on-acts : (w v : World) (ps : List ℕ) (e : EndId) → IsUnshared w → (IsToCome w e → ⊥) → after_acts w ps ≡ Some v → claims_on e v ≤ claims_on e w
claims_on-acts w v [] e one here h = let it : w ≡ v = cc in subst (λ (t : World). claims_on e t ≤ claims_on e w) it (omega arith)
claims_on-acts w v (p ∷ ps) e one here h =
    let m = between (λ x. after_acts x ps) (act_of w p) v h in
    omega (
      arith,
      claims_on-act w m.world p e here m.before,
      claims_on-acts m.world v ps e (act_keeps_unshared w m.world p one m.before) (λ t. here (come_before w m.world p e one m.before t)) m.afterwards,
    )

-- an end that is bound isn't to come
bound_is_here : (w : World) (p : ℕ) (g : Program) (e : EndId) → IsUnshared w → slice_get w.parties p ≡ Some g → IsBound e g.ends → IsToCome w e → ⊥
bound_is_here w p g e one there b t = absurd (omega (arith, one.to_come e t, b.some_name, one-le-sum_by (λ (k : Program). bindings_of e k.ends) w.parties p g there))

pub closed_stays : (file : FileAt) (ps qs : List ℕ) (w v u : World) (p : ℕ) (g : Program) (e : EndId) → length file.connects ≤ limits.connects → IsRun file ps w → slice_get w.parties p ≡ Some g
    → want_of g ≡ Some (wants.Close e) → act_of w p ≡ Some v → after_acts v qs ≡ Some u → claims_on e u ≡ 0
closed_stays file ps qs w v u p g e few run there want h k =
    let one = run_is_unshared file ps w few run in
    let here = bound_is_here w p g e one there (want_bound g (wants.Close e) want) in
    omega (
      arith,
      closed_nowhere w v p g e one there want h,
      claims_on-acts v u qs e (act_keeps_unshared w v p one h) (λ t. here (come_before w v p e one h t)) k,
    )

-- ---- ready parties

pub stays_over_one : (w v : World) (p q : ℕ) → IsUnshared w → p ≢ q → act_of w p ≡ Some v → state_of w q ≡ states.Ready → state_of v q ≡ states.Ready
stays_over_one w v p q one other h ready =
    let u = ready_can_act w q ready in
    let m = acts_meet w v u.0 p q one other h u.1 in
    act_is_ready v m.at_last q m.first_way

pub stays_over_acts : (w v : World) (p : ℕ) (qs : List ℕ) → IsUnshared w → state_of w p ≡ states.Ready → IsNoneOf p qs → after_acts w qs ≡ Some v → state_of v p ≡ states.Ready
stays_over_acts w v p [] one ready others h = subst (λ (t : World). state_of t p ≡ states.Ready) (let it : w ≡ v = cc in it) ready
stays_over_acts w v p (q ∷ qs) one ready others h =
    let m = between (λ x. after_acts x qs) (act_of w q) v h in
    stays_over_acts m.world v p qs (act_keeps_unshared w m.world q one m.before)
    (stays_over_one w m.world q p one (λ e. others.0 (sym e)) m.before ready) others.1 m.afterwards
