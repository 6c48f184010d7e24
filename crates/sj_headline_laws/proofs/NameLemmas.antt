-- Values of a kind, and ends under names with one more or one less.
use Rattle.std.proofs.Common.{◌≡◌, ℕ, ◌==◌, Bool, not, cond, List, [], ◌∷◌, ◌++◌, Option, Some, None, option_map, refl, ap, sym, ◌∙◌, inl, inr}
use Rattle.std.specs.Bool.{⊤}
use Rattle.std.proofs.lemmas.Bool.{cases_Bool, eqb-true, eq-eqb, ne_eqb}
use Rattle.sj_base.specs.declared.EndId.{EndId}
use Rattle.sj_lang.specs.declared.party.Scalar.{Scalar}
use Rattle.sj_lang.specs.declared.party.Scalar.TheVariants as kinds
use Rattle.sj_semantics.specs.Program.{ends_without, ends_with}
use Rattle.sj_semantics.specs.declared.Value.{Value}
use Rattle.sj_semantics.specs.declared.Value.TheVariants.{Int, Boolean, Text}
use Rattle.sj_semantics.specs.Value.{Vars}
use Rattle.sj_lang.specs.FileAt.{named}
use Rattle.sj_acceptance.specs.Environment.{Env, put}
use Rattle.sj_semantics.specs.Ends.{Session, end_at}

-- the value is of that kind
abbrev pub IsA : Scalar → Value → Type 0
IsA kinds.Int (Int n) = ⊤
IsA kinds.Boolean (Boolean b) = ⊤
IsA kinds.Text (Text n) = ⊤
IsA _ _ = ⊥

-- a value of that kind
pub record Worth (o : Option Value) (k : Scalar) : Type 0 where
  pub value : Value
  pub it_is : o ≡ Some value
  pub kind : IsA k value

pub record Agrees (zs : List Session) (ends : List (ℕ × EndId)) (vars : Vars) (env : Env) : Type 0 where
  pub places : (n : ℕ) → option_map (λ e. (end_at zs e).place) (named ends n) ≡ env.places n
  pub kinds : (n : ℕ) (k : Scalar) → env.kinds n ≡ Some k → Worth (vars n) k

-- ---- names

pub named-append : {X : Type 0} (bs cs : List (ℕ × X)) (n : ℕ) → named bs n ≡ None → named (bs ++ cs) n ≡ named cs n
named-append [] cs n h = refl
named-append (b ∷ bs) cs n h =
    elim (cases_Bool (b.0 == n)) [
      | inl hit ↦ let found : Some b.1 ≡ None = ap (λ (t : Bool). cond t (Some b.1) (named bs n)) (sym hit) ∙ h in cc
      | inr miss ↦
          let later : named bs n ≡ None = ap (λ (t : Bool). cond t (Some b.1) (named bs n)) (sym miss) ∙ h in
          ap (λ (t : Bool). cond t (Some b.1) (named (bs ++ cs) n)) miss ∙ named-append bs cs n later
    ]

pub named-append_some : {X : Type 0} (bs cs : List (ℕ × X)) (n : ℕ) (x : X) → named bs n ≡ Some x → named (bs ++ cs) n ≡ Some x
named-append_some [] cs n x h = cc
named-append_some (b ∷ bs) cs n x h =
    elim (cases_Bool (b.0 == n)) [
      | inl hit ↦
          let found : Some b.1 ≡ Some x = ap (λ (t : Bool). cond t (Some b.1) (named bs n)) (sym hit) ∙ h in
          ap (λ (t : Bool). cond t (Some b.1) (named (bs ++ cs) n)) hit ∙ found
      | inr miss ↦
          let later : named bs n ≡ Some x = ap (λ (t : Bool). cond t (Some b.1) (named bs n)) (sym miss) ∙ h in
          ap (λ (t : Bool). cond t (Some b.1) (named (bs ++ cs) n)) miss ∙ named-append_some bs cs n x later
    ]

pub named-without_same : (bs : List (ℕ × EndId)) (n : ℕ) → named (ends_without bs n) n ≡ None
named-without_same [] n = refl
named-without_same (b ∷ bs) n =
    elim (cases_Bool (b.0 == n)) [
      | inl hit ↦ ap (λ (t : Bool). named (cond (not t) (b ∷ ends_without bs n) (ends_without bs n)) n) hit ∙ named-without_same bs n
      | inr miss ↦ ap (λ (t : Bool). named (cond (not t) (b ∷ ends_without bs n) (ends_without bs n)) n) miss ∙ ap (λ (t : Bool). cond t (Some b.1) (named (ends_without bs n) n)) miss ∙ named-without_same bs n
    ]

pub named-without_other : (bs : List (ℕ × EndId)) (n m : ℕ) → (m ≡ n → ⊥) → named (ends_without bs n) m ≡ named bs m
named-without_other [] n m ne = refl
named-without_other (b ∷ bs) n m ne =
    elim (cases_Bool (b.0 == n)) [
      | inl hit ↦
          ap (λ (t : Bool). named (cond (not t) (b ∷ ends_without bs n) (ends_without bs n)) m) hit ∙ named-without_other bs n m ne
          ∙ sym (ap (λ (t : Bool). cond t (Some b.1) (named bs m)) (ne_eqb b.0 m (λ e. ne (sym e ∙ eqb-true b.0 n hit))))
      | inr miss ↦ ap (λ (t : Bool). named (cond (not t) (b ∷ ends_without bs n) (ends_without bs n)) m) miss ∙ ap (cond (b.0 == m) (Some b.1)) (named-without_other bs n m ne)
    ]

pub named-bound_same : (bs : List (ℕ × EndId)) (n : ℕ) (x : EndId) → named (ends_with bs n x) n ≡ Some x
named-bound_same bs n x = named-append (ends_without bs n) ((n, x) ∷ []) n (named-without_same bs n) ∙ ap (λ (t : Bool). cond t (Some x) None) (eq-eqb n n refl)

pub named-one_other : (n m : ℕ) (x : EndId) → (m ≡ n → ⊥) → named ((n, x) ∷ []) m ≡ None
named-one_other n m x ne = ap (λ (t : Bool). cond t (Some x) None) (ne_eqb n m (λ e. ne (sym e)))

pub named-bound_by : (bs : List (ℕ × EndId)) (n m : ℕ) (x : EndId) (o : Option EndId) → named (ends_without bs n) m ≡ o → (m ≡ n → ⊥) → named (ends_with bs n x) m ≡ o
named-bound_by bs n m x None h ne = named-append (ends_without bs n) ((n, x) ∷ []) m h ∙ named-one_other n m x ne
named-bound_by bs n m x (Some y) h ne = named-append_some (ends_without bs n) ((n, x) ∷ []) m y h

pub named-bound_other : (bs : List (ℕ × EndId)) (n m : ℕ) (x : EndId) → (m ≡ n → ⊥) → named (ends_with bs n x) m ≡ named bs m
named-bound_other bs n m x ne = named-bound_by bs n m x (named bs m) (named-without_other bs n m ne) ne

pub put_same : {X : Type 0} (f : ℕ → Option X) (n : ℕ) (o : Option X) → put f n o n ≡ o
put_same f n o = ap (λ (t : Bool). cond t o (f n)) (eq-eqb n n refl)

pub put_other : {X : Type 0} (f : ℕ → Option X) (n m : ℕ) (o : Option X) → (m ≡ n → ⊥) → put f n o m ≡ f m
put_other f n m o ne = ap (λ (t : Bool). cond t o (f m)) (ne_eqb m n ne)
