-- Changes of the finite maps are changes of the environment that they are seen as.
use Rattle.std.proofs.Common.{◌≡◌, ℕ, Some, None, cond, ap, ◌∙◌}
use Rattle.std.specs.Ordering.{nat_cmp}
use Rattle.std.specs.Cmp.{nat_cmp_total, unsigned_tied}
use Rattle.std.specs.FinMap.{FinMap, get, insert, remove, same_map, get-insert, get-remove, nat_cmp-IsAntisymmetric}
use Rattle.sj_lang.specs.declared.party.Scalar.{Scalar}
use Rattle.sj_lang.specs.Place.{Place}
use Rattle.sj_acceptance.specs.Environment.{Env, put, at_place, without_end, with_kind}
use Rattle.sj_acceptance.specs.EnvAt.{EnvAt, env_of, with_live, without_live, with_known}

pub put_here : {X : Type 0} (m : FinMap nat_cmp X) (k : ℕ) (v : X) (q : ℕ) → get (insert m k v) q ≡ put (λ n. get m n) k (Some v) q
put_here m k v q = get-insert nat_cmp_total m k v q ∙ ap (λ b. cond b (Some v) (get m q)) (unsigned_tied q k)

put_none : {X : Type 0} (m : FinMap nat_cmp X) (k q : ℕ) → get (remove m k) q ≡ put (λ n. get m n) k None q
put_none m k q = get-remove nat_cmp_total m k q ∙ ap (λ b. cond b None (get m q)) (unsigned_tied q k)

pub seen-moved : (env : EnvAt) (x : ℕ) (p : Place) → env_of (with_live env x p) ≡ at_place (env_of env) x p
seen-moved env x p = λ i. record { places = λ n. put_here env.ends x p n i; kinds = λ n. get env.variables n }

pub seen-without : (env : EnvAt) (x : ℕ) → env_of (without_live env x) ≡ without_end (env_of env) x
seen-without env x = λ i. record { places = λ n. put_none env.ends x n i; kinds = λ n. get env.variables n }

pub seen-knowing : (env : EnvAt) (n : ℕ) (k : Scalar) → env_of (with_known env n k) ≡ with_kind (env_of env) n k
seen-knowing env n k = λ i. record { places = λ m. get env.ends m; kinds = λ m. put_here env.variables n k m i }

-- maps that answer alike are one
pub same_from_get : {X : Type 0} (a b : FinMap nat_cmp X) → ((n : ℕ) → get a n ≡ get b n) → a ≡ b
same_from_get a b h = same_map nat_cmp_total nat_cmp-IsAntisymmetric a b h

-- environments that answer alike are one
pub same_env : (e f : Env) → ((n : ℕ) → e.places n ≡ f.places n) → ((n : ℕ) → e.kinds n ≡ f.kinds n) → e ≡ f
same_env e f p k = λ i. record { places = λ n. p n i; kinds = λ n. k n i }
