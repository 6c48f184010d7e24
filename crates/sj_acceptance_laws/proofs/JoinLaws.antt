-- What arms leave together.
use Rattle.std.proofs.Common.{◌≡◌, ℕ, zero, suc, List, [], ◌∷◌, Option, Some, None, true, false, ◌&&◌, cond, map, refl, ap, sym, ◌∙◌, subst}
use Rattle.std.specs.Ordering.{nat_cmp}
use Rattle.std.specs.List.{AllByRecursion, slice_get}
use Rattle.std.specs.FinMap.{FinMap, get, get-retain_keys, nat_cmp-IsAntisymmetric}
use Rattle.sj_lang.specs.declared.party.Scalar.{Scalar}
use Rattle.sj_lang.specs.Place.{Place}
use Rattle.sj_acceptance.specs.Environment.{Env, SameEnds, IsCommon}
use Rattle.sj_acceptance.specs.EnvAt.{EnvAt, env_of}
use Rattle.sj_acceptance.specs.Sameness.{is_same_kind, is_same_ends}
use Rattle.sj_acceptance.specs.Arms.{agree, common, common_of, all_leave, common_env}
use Rattle.sj_acceptance_laws.proofs.FaultLemmas.{both_true}
use Rattle.sj_acceptance_laws.proofs.KindLaws.{same_kind, same_kind_refl}
use Rattle.sj_acceptance_laws.proofs.SamenessLemmas.{is_same_ends-Decides}
use Rattle.sj_acceptance_laws.proofs.SeenLemmas.{same_from_get, same_env}

pub get-common : (a b : FinMap nat_cmp Scalar) (q : ℕ) → get (common a b) q ≡ cond (agree (get a q) (get b q)) (get a q) None
unfolding common
get-common a b q = get-retain_keys a (λ n. agree (get a n) (get b n)) q (λ x e. ap (λ n. agree (get a n) (get b n)) (sym (nat_cmp-IsAntisymmetric q x e)))

agreed : (a b : Option Scalar) (k : Scalar) → cond (agree a b) a None ≡ Some k → (a ≡ Some k) × (b ≡ Some k)
agreed None b k h = absurd (cc)
agreed (Some i) None k h = absurd (cc)
agreed (Some i) (Some j) k h =
    elim (is_same_kind i j) as (λ v. is_same_kind i j ≡ v → cond v (Some i) None ≡ Some k → (Some i ≡ Some k) × (Some j ≡ Some k)) [
      | true ↦ λ e g. (g, ap Some (sym (same_kind i j e)) ∙ g)
      | false ↦ λ e g. absurd (cc)
    ] refl h

agree-both : (a b : Option Scalar) (k : Scalar) → a ≡ Some k → b ≡ Some k → cond (agree a b) a None ≡ Some k
agree-both a b k e f = (λ i. cond (agree (e i) (f i)) (e i) None) ∙ ap (λ v. cond v (Some k) None) (same_kind_refl k)

-- what holds of each of these as they are seen, by index and by recursion
each_at : (P : Env → Type 0) (envs : List EnvAt) → AllByRecursion (λ v. P (env_of v)) envs → (k : ℕ) (last : Env) → slice_get (map env_of envs) k ≡ Some last → P last
each_at P [] h k last e = absurd (cc)
each_at P (v ∷ vs) h zero last e = let same : env_of v ≡ last = cc in subst P same h.0
each_at P (v ∷ vs) h (suc k) last e = each_at P vs h.1 k last e

at_each : (P : Env → Type 0) (envs : List EnvAt) → ((k : ℕ) (last : Env) → slice_get (map env_of envs) k ≡ Some last → P last) → AllByRecursion (λ v. P (env_of v)) envs
at_each P [] h = tt
at_each P (v ∷ vs) h = (h 0 (env_of v) refl, at_each P vs (λ k last e. h (suc k) last e))

-- the variable is known at this kind
abbrev KnownAs : ℕ → Scalar → Env → Type 0
KnownAs n k env = env.kinds n ≡ Some k

known-from : (v : FinMap nat_cmp Scalar) (envs : List EnvAt) (n : ℕ) (k : Scalar) → get (common_of v envs) n ≡ Some k → (get v n ≡ Some k) × AllByRecursion (λ u. KnownAs n k (env_of u)) envs
known-from v [] n k h = (h, tt)
known-from v (env ∷ envs) n k h =
    let p = known-from (common v env.variables) envs n k h in
    let q = agreed (get v n) (get env.variables n) k (sym (get-common v env.variables n) ∙ p.0) in
    (q.0, (q.1, p.1))

known-to : (v : FinMap nat_cmp Scalar) (envs : List EnvAt) (n : ℕ) (k : Scalar) → get v n ≡ Some k → AllByRecursion (λ u. KnownAs n k (env_of u)) envs → get (common_of v envs) n ≡ Some k
known-to v [] n k e h = e
known-to v (env ∷ envs) n k e h = known-to (common v env.variables) envs n k (get-common v env.variables n ∙ agree-both (get v n) (get env.variables n) k e h.0) h.1

leave-from : (ends : FinMap nat_cmp Place) (envs : List EnvAt) → all_leave ends envs ≡ true → AllByRecursion (λ v. (n : ℕ) → get ends n ≡ get v.ends n) envs
leave-from ends [] h = tt
leave-from ends (env ∷ envs) h =
    let p = both_true (is_same_ends ends env.ends) (all_leave ends envs) h in
    ((λ n. ap (λ m. get m n) ((is_same_ends-Decides ends env.ends).0 p.0)), leave-from ends envs p.1)

leave-to : (ends : FinMap nat_cmp Place) (envs : List EnvAt) (f : ℕ → Option Place) → ((n : ℕ) → f n ≡ get ends n) → AllByRecursion (λ v. (n : ℕ) → f n ≡ get v.ends n) envs → all_leave ends envs ≡ true
leave-to ends [] f e h = refl
leave-to ends (env ∷ envs) f e h =
    ap (λ b. b && all_leave ends envs) ((is_same_ends-Decides ends env.ends).1 (same_from_get ends env.ends (λ n. sym (e n) ∙ h.0 n))) ∙ leave-to ends envs f e h.1

-- arms that all leave the same join
pub joins : (env : EnvAt) (envs : List EnvAt) → all_leave env.ends envs ≡ true → IsCommon (map env_of (env ∷ envs)) (env_of (common_env (env ∷ envs)))
joins env envs h = record {
  ends = each_at (λ v. SameEnds v (env_of (common_env (env ∷ envs)))) (env ∷ envs) ((λ n. refl), leave-from env.ends envs h);
  kinds = λ n k. (
    λ e. each_at (KnownAs n k) (env ∷ envs) (known-from env.variables envs n k e),
    λ a. let r = at_each (KnownAs n k) (env ∷ envs) a in known-to env.variables envs n k r.0 r.1,
  );
}

same_some : (o p : Option Scalar) → ((k : Scalar) → o ≡ Some k → p ≡ Some k) → ((k : Scalar) → p ≡ Some k → o ≡ Some k) → o ≡ p
same_some None None h k = refl
same_some None (Some v) h k = k v refl
same_some (Some v) p h k = sym (h v refl)

-- arms that join all leave the same, and leave that
pub joined-is : (env : EnvAt) (envs : List EnvAt) (next : Env) → IsCommon (map env_of (env ∷ envs)) next → (all_leave env.ends envs ≡ true) × (next ≡ env_of (common_env (env ∷ envs)))
joined-is env envs next j =
    let r = at_each (λ v. SameEnds v next) (env ∷ envs) j.ends in
    let kinds : (n : ℕ) → next.kinds n ≡ get (common_of env.variables envs) n = λ n. same_some (next.kinds n) (get (common_of env.variables envs) n)
    (λ k e. let a = at_each (KnownAs n k) (env ∷ envs) ((j.kinds n k).0 e) in known-to env.variables envs n k a.0 a.1)
    (λ k e. (j.kinds n k).1 (each_at (KnownAs n k) (env ∷ envs) (known-from env.variables envs n k e))) in
    (leave-to env.ends envs next.places r.0 r.1, same_env next (env_of (common_env (env ∷ envs))) r.0 kinds)
