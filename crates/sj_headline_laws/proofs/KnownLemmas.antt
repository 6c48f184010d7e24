-- A block keeps the variables that are known before it.
use Rattle.std.proofs.Common.{◌≡◌, ℕ, zero, suc, Bool, cond, List, [], ◌∷◌, slice_get, Some, refl, ap, sym, ◌∙◌, subst, inl, inr}
use Rattle.std.proofs.lemmas.Bool.{cases_eq, eq-eqb, ne_eqb}
use Rattle.sj_lang.specs.declared.party.Scalar.{Scalar}
use Rattle.sj_lang.specs.Place.{Place, Choices}
use Rattle.sj_lang.specs.Code.{Code, DeedAt, Branches, no_stmt, stmt_then, at, send, delegate, take_value, take_end, outbranch, inbranch, outwhile, inwhile, relay, if_else, let_be, close, request, accept, no_branch, branch}
use Rattle.sj_lang.specs.FileAt.{ProtocolAt}
use Rattle.sj_acceptance.specs.Environment.{Env, with_kind, IsFreeFor, SameEnds}
use Rattle.sj_acceptance.specs.Follows.{Follows, Does, EachArm}

-- each variable that the one knows, the other knows at the same kind
abbrev pub Knows : Env → Env → Type 0
Knows before after = (n : ℕ) (k : Scalar) → before.kinds n ≡ Some k → after.kinds n ≡ Some k

-- the later environment has the same ends, and knows no variable that the earlier one doesn't
pub record Forgets (before after : Env) : Type 0 where
  pub places : (n : ℕ) → after.places n ≡ before.places n
  pub kinds : (n : ℕ) (k : Scalar) → after.kinds n ≡ Some k → before.kinds n ≡ Some k

pub forgets_none : (env : Env) → Forgets env env
forgets_none env = record { places = λ n. refl; kinds = λ n k h. h }

pub forgets_trans : (a b c : Env) → Forgets a b → Forgets b c → Forgets a c
forgets_trans a b c f g = record { places = λ n. g.places n ∙ f.places n; kinds = λ n k h. f.kinds n k (g.kinds n k h) }

with_kind_knows : (env : Env) (n : ℕ) (k : Scalar) → IsFreeFor env n k → Knows env (with_kind env n k)
with_kind_knows env n k free m j h =
    elim (cases_eq m n) [
      | inl it ↦ ap (λ (t : Bool). cond t (Some k) (env.kinds m)) (eq-eqb m n it) ∙ ap Some (sym (free.no_other j (sym (ap env.kinds it) ∙ h)))
      | inr other ↦ ap (λ (t : Bool). cond t (Some k) (env.kinds m)) (ne_eqb m n other) ∙ h
    ]

-- an environment that is another one with other places
same_kinds : (env mid next : Env) → next ≡ mid → mid.kinds ≡ env.kinds → Knows env next
same_kinds env mid next e same n k h = ap (λ (t : Env). t.kinds n) e ∙ ap (λ f. f n) same ∙ h

of_two : (one other : Env) (k : ℕ) (last : Env) → slice_get (one ∷ other ∷ []) k ≡ Some last → (n : ℕ) (kind : Scalar) → one.kinds n ≡ Some kind → other.kinds n ≡ Some kind → last.kinds n ≡ Some kind
of_two one other zero last h n kind p q = let it : one ≡ last = cc in ap (λ (t : Env). t.kinds n) (sym it) ∙ p
of_two one other (suc zero) last h n kind p q = let it : other ≡ last = cc in ap (λ (t : Env). t.kinds n) (sym it) ∙ q
of_two one other (suc (suc k)) last h n kind p q = cc

of_arm : (env first : Env) (others : List Env) (k : ℕ) (last : Env) → slice_get (first ∷ others) k ≡ Some last → Knows env first → ((j : ℕ) → slice_get others j ≡ Some last → Knows env last) → Knows env last
of_arm env first others zero last h knows later = let it : first ≡ last = cc in subst (λ (t : Env). Knows env t) it knows
of_arm env first others (suc k) last h knows later = later k h

mutual
  pub follows_know : (ps : List ProtocolAt) (parties : List ℕ) (code : Code) (env next : Env) → Follows ps parties code env next → Knows env next
  follows_know ps parties no_stmt env next f = λ n k h. ap (λ (t : Env). t.kinds n) (sym f) ∙ h
  follows_know ps parties (stmt_then (at line deed) code) env next f = λ n k h. follows_know ps parties code f.0 next f.2 n k (does_know ps parties deed env f.0 f.1 n k h)

  does_know : (ps : List ProtocolAt) (parties : List ℕ) (deed : DeedAt) (env next : Env) → Does ps parties deed env next → Knows env next
  does_know ps parties (send x e) env next s = same_kinds env _ next s.leaves refl
  does_know ps parties (delegate x y) env next s = same_kinds env _ next s.leaves refl
  does_know ps parties (take_value x m j) env next s = λ n k h. ap (λ (t : Env). t.kinds n) s.leaves ∙ with_kind_knows env m j s.free n k h
  does_know ps parties (take_end x y p) env next s = same_kinds env _ next s.leaves refl
  does_know ps parties (outbranch x l) env next s = same_kinds env _ next s.leaves refl
  does_know ps parties (inbranch x arms) env next s = λ n kind h. (s.6.kinds n kind).1 (λ k last at_k. arms_know ps parties x s.0 s.1 arms env s.4 s.5 k last at_k n kind h)
  does_know ps parties (outwhile x e body) env next s = same_kinds env _ next s.7 refl
  does_know ps parties (inwhile x body) env next s = same_kinds env _ next s.6 refl
  does_know ps parties (relay x y body) env next s = same_kinds env _ next s.9 refl
  does_know ps parties (if_else e first second) env next s = λ n kind h. (s.5.kinds n kind).1 (λ k last at_k. of_two s.1 s.3 k last at_k n kind (follows_know ps parties first env s.1 s.2 n kind h) (follows_know ps parties second env s.3 s.4 n kind h))
  does_know ps parties (let_be m e) env next s = λ n k h. ap (λ (t : Env). t.kinds n) s.leaves ∙ with_kind_knows env m s.kind s.free n k h
  does_know ps parties (close x) env next s = same_kinds env _ next s.leaves refl
  does_know ps parties (request x p b) env next s = same_kinds env _ next s.leaves refl
  does_know ps parties (accept x p b) env next s = same_kinds env _ next s.leaves refl

  arms_know : (ps : List ProtocolAt) (parties : List ℕ) (x : ℕ) (choices : Choices) (rest : Place) (arms : Branches) (env : Env) (lasts : List Env) → EachArm ps parties x choices rest arms env lasts → (k : ℕ) (last : Env) → slice_get lasts k ≡ Some last → Knows env last
  arms_know ps parties x choices rest no_branch env lasts each k last at_k = let none : slice_get [] k ≡ Some last = sym (ap (λ ls. slice_get ls k) each) ∙ at_k in cc
  arms_know ps parties x choices rest (branch l code arms) env lasts each k last at_k =
      of_arm env each.2 each.4 k last (sym (ap (λ ls. slice_get ls k) each.6) ∙ at_k) (follows_know ps parties code _ each.2 each.3) (λ j h. arms_know ps parties x choices rest arms env each.4 each.5 j last h)

-- after a loop's body that came back to the loop's beginning
pub back_forgets : (ps : List ProtocolAt) (parties : List ℕ) (body : Code) (env inner last : Env) → Follows ps parties body inner last → inner.kinds ≡ env.kinds → SameEnds env last → Forgets last env
back_forgets ps parties body env inner last f same back = record {
  places = λ n. sym (back n);
  kinds = λ n k h. follows_know ps parties body inner last f n k (ap (λ g. g n) same ∙ h);
}
