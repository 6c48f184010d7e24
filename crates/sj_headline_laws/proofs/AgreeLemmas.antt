-- A program's variables and ends agree with an environment.
use Rattle.std.proofs.Common.{◌≡◌, ℕ, List, Option, Some, None, option_map, refl, ap, sym, ◌∙◌, subst, inl, inr}
use Rattle.std.proofs.lemmas.Bool.{cases_eq}
use Rattle.sj_base.specs.declared.EndId.{EndId}
use Rattle.sj_lang.specs.declared.party.Scalar.{Scalar}
use Rattle.sj_lang.specs.Place.{Place}
use Rattle.sj_semantics.specs.Program.{ends_without, ends_with}
use Rattle.sj_semantics.specs.declared.Value.{Value}
use Rattle.sj_semantics.specs.Value.{with_value, Vars}
use Rattle.sj_lang.specs.FileAt.{named}
use Rattle.sj_acceptance.specs.Environment.{Env, put, at_place, without_end, with_kind}
use Rattle.sj_semantics.specs.Ends.{Session, end_at}
use Rattle.sj_headline_laws.proofs.KnownLemmas.{Forgets}
use Rattle.sj_headline_laws.proofs.NameLemmas.{IsA, Agrees, named-without_same, named-without_other, named-bound_same, named-bound_other, put_same, put_other}

pub agrees_forgetting : (zs : List Session) (ends : List (ℕ × EndId)) (vars : Vars) (env next : Env) → Agrees zs ends vars env → Forgets env next → Agrees zs ends vars next
agrees_forgetting zs ends vars env next a f = record {
  places = λ n. a.places n ∙ sym (f.places n);
  kinds = λ n k h. a.kinds n k (f.kinds n k h);
}

-- the end under a name, where the environment has a place for it
pub record Bound (zs : List Session) (ends : List (ℕ × EndId)) (x : ℕ) (p : Place) : Type 0 where
  pub end : EndId
  pub it_is : named ends x ≡ Some end
  pub at : (end_at zs end).place ≡ p

bound_by : (zs : List Session) (ends : List (ℕ × EndId)) (x : ℕ) (p : Place) (o : Option EndId) → named ends x ≡ o → option_map (λ e. (end_at zs e).place) o ≡ Some p → Bound zs ends x p
bound_by zs ends x p None e h = cc
bound_by zs ends x p (Some f) e h = record { end = f; it_is = e; at = cc }

pub bound_at : (zs : List Session) (ends : List (ℕ × EndId)) (vars : Vars) (env : Env) (x : ℕ) (p : Place) → Agrees zs ends vars env → env.places x ≡ Some p → Bound zs ends x p
bound_at zs ends vars env x p a h = bound_by zs ends x p (named ends x) refl (a.places x ∙ h)

-- the end under x came to the place, and the ends under other names stay
pub record MovesTo (ends : List (ℕ × EndId)) (old new : List Session) (x : ℕ) (p : Place) : Type 0 where
  pub here : (e : EndId) → named ends x ≡ Some e → (end_at new e).place ≡ p
  pub others : (n : ℕ) (e : EndId) → (n ≡ x → ⊥) → named ends n ≡ Some e → (end_at new e).place ≡ (end_at old e).place

moved_by : (old new : List Session) (ends : List (ℕ × EndId)) (n : ℕ) (o : Option EndId) → named ends n ≡ o → ((e : EndId) → named ends n ≡ Some e → (end_at new e).place ≡ (end_at old e).place)
    → option_map (λ e. (end_at new e).place) (named ends n) ≡ option_map (λ e. (end_at old e).place) (named ends n)
moved_by old new ends n None h same = ap (option_map (λ e. (end_at new e).place)) h ∙ sym (ap (option_map (λ e. (end_at old e).place)) h)
moved_by old new ends n (Some e) h same = ap (option_map (λ e. (end_at new e).place)) h ∙ ap Some (same e h) ∙ sym (ap (option_map (λ e. (end_at old e).place)) h)

pub agrees_moved : (old new : List Session) (ends : List (ℕ × EndId)) (vars : Vars) (env : Env) (x : ℕ) (e : EndId) (p : Place) → Agrees old ends vars env → named ends x ≡ Some e → MovesTo ends old new x p → Agrees new ends vars (at_place env x p)
agrees_moved old new ends vars env x e p a named_x m = record {
  places = λ n. elim (cases_eq n x) [
    | inl it ↦ ap (λ t. option_map (λ f. (end_at new f).place) (named ends t)) it ∙ ap (option_map (λ f. (end_at new f).place)) named_x ∙ ap Some (m.here e named_x) ∙ sym (ap (put env.places x (Some p)) it ∙ put_same env.places x (Some p))
    | inr other ↦ moved_by old new ends n (named ends n) refl (λ f h. m.others n f other h) ∙ a.places n ∙ sym (put_other env.places x n (Some p) other)
  ];
  kinds = a.kinds;
}

-- where the ends that have names keep their places, nothing changes
pub agrees_kept : (old new : List Session) (ends : List (ℕ × EndId)) (vars : Vars) (env : Env) → Agrees old ends vars env
    → ((n : ℕ) (e : EndId) → named ends n ≡ Some e → (end_at new e).place ≡ (end_at old e).place) → Agrees new ends vars env
agrees_kept old new ends vars env a kept = record { places = λ n. moved_by old new ends n (named ends n) refl (λ e h. kept n e h) ∙ a.places n; kinds = a.kinds }

pub agrees_without : (zs : List Session) (ends : List (ℕ × EndId)) (vars : Vars) (env : Env) (y : ℕ) → Agrees zs ends vars env → Agrees zs (ends_without ends y) vars (without_end env y)
agrees_without zs ends vars env y a = record {
  places = λ n. elim (cases_eq n y) [
    | inl it ↦ ap (λ t. option_map (λ f. (end_at zs f).place) (named (ends_without ends y) t)) it ∙ ap (option_map (λ f. (end_at zs f).place)) (named-without_same ends y) ∙ sym (ap (put env.places y None) it ∙ put_same env.places y None)
    | inr other ↦ ap (option_map (λ f. (end_at zs f).place)) (named-without_other ends y n other) ∙ a.places n ∙ sym (put_other env.places y n None other)
  ];
  kinds = a.kinds;
}

pub agrees_bound : (zs : List Session) (ends : List (ℕ × EndId)) (vars : Vars) (env : Env) (y : ℕ) (e : EndId) (p : Place) → Agrees zs ends vars env → (end_at zs e).place ≡ p → Agrees zs (ends_with ends y e) vars (at_place env y p)
agrees_bound zs ends vars env y e p a at = record {
  places = λ n. elim (cases_eq n y) [
    | inl it ↦ ap (λ t. option_map (λ f. (end_at zs f).place) (named (ends_with ends y e) t)) it ∙ ap (option_map (λ f. (end_at zs f).place)) (named-bound_same ends y e) ∙ ap Some at ∙ sym (ap (put env.places y (Some p)) it ∙ put_same env.places y (Some p))
    | inr other ↦ ap (option_map (λ f. (end_at zs f).place)) (named-bound_other ends y n e other) ∙ a.places n ∙ sym (put_other env.places y n (Some p) other)
  ];
  kinds = a.kinds;
}

same_kind : (k j : Scalar) (v : Value) → IsA k v → Some k ≡ Some j → IsA j v
same_kind k j v a h = subst (λ (t : Scalar). IsA t v) (let it : k ≡ j = cc in it) a

pub agrees_assigned : (zs : List Session) (ends : List (ℕ × EndId)) (vars : Vars) (env : Env) (n : ℕ) (v : Value) (k : Scalar) → Agrees zs ends vars env → IsA k v → Agrees zs ends (with_value vars n v) (with_kind env n k)
agrees_assigned zs ends vars env n v k a is = record {
  places = a.places;
  kinds = λ m j h. elim (cases_eq m n) [
    | inl it ↦ record { value = v; it_is = ap (with_value vars n v) it ∙ put_same vars n (Some v); kind = same_kind k j v is (sym (put_same env.kinds n (Some k)) ∙ sym (ap (put env.kinds n (Some k)) it) ∙ h) }
    | inr other ↦
        let w = a.kinds m j (sym (put_other env.kinds n m (Some k) other) ∙ h) in
        record { value = w.value; it_is = put_other vars n m (Some v) other ∙ w.it_is; kind = w.kind }
  ];
}
