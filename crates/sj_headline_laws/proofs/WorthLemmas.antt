-- An expression of a kind is worth a value of that kind.
use Rattle.std.proofs.Common.{◌≡◌, ℕ, not, Option, Some, option_and_then, refl, ap, sym, ◌∙◌, subst}
use Rattle.sj_lang.specs.declared.party.Op.{Op}
use Rattle.sj_lang.specs.declared.party.Op.TheVariants.{Add, Sub, Mul, Less, LessEq, Equal}
use Rattle.sj_lang.specs.declared.party.Scalar.{Scalar}
use Rattle.sj_lang.specs.declared.party.Scalar.TheVariants as kinds
use Rattle.sj_lang.specs.Term.{Term}
use Rattle.sj_lang.specs.Term as terms
use Rattle.sj_semantics.specs.declared.Value.{Value}
use Rattle.sj_semantics.specs.declared.Value.TheVariants.{Int, Boolean, Text}
use Rattle.sj_semantics.specs.Value.{Vars, result_of, negation_of, worth}
use Rattle.sj_acceptance.specs.Kinds.{HasKind, Takes, given_by}
use Rattle.sj_headline_laws.proofs.NameLemmas.{IsA, Worth}

pub not_worth : (o : Option Value) → Worth o kinds.Boolean → Worth (option_and_then negation_of o) kinds.Boolean
not_worth o w = by w.value w.it_is w.kind
  where
    by : (v : Value) → o ≡ Some v → IsA kinds.Boolean v → Worth (option_and_then negation_of o) kinds.Boolean
    by (Boolean b) h a = record { value = Boolean (not b); it_is = ap (option_and_then negation_of) h; kind = tt }
    by (Int n) h a = absurd a
    by (Text n) h a = absurd a

-- the result of an operator on such values
abbrev pub Results : Op → Scalar → Scalar → Scalar → Type 0
Results op i j k = (a b : Value) → IsA i a → IsA j b → Worth (result_of op a b) k

pub add_results : Results Add kinds.Int kinds.Int kinds.Int
add_results (Int a) (Int b) h k = record { value = _; it_is = refl; kind = tt }
add_results (Int a) (Boolean b) h k = absurd k
add_results (Int a) (Text b) h k = absurd k
add_results (Boolean a) b h k = absurd h
add_results (Text a) b h k = absurd h

pub sub_results : Results Sub kinds.Int kinds.Int kinds.Int
sub_results (Int a) (Int b) h k = record { value = _; it_is = refl; kind = tt }
sub_results (Int a) (Boolean b) h k = absurd k
sub_results (Int a) (Text b) h k = absurd k
sub_results (Boolean a) b h k = absurd h
sub_results (Text a) b h k = absurd h

pub mul_results : Results Mul kinds.Int kinds.Int kinds.Int
mul_results (Int a) (Int b) h k = record { value = _; it_is = refl; kind = tt }
mul_results (Int a) (Boolean b) h k = absurd k
mul_results (Int a) (Text b) h k = absurd k
mul_results (Boolean a) b h k = absurd h
mul_results (Text a) b h k = absurd h

pub less_results : Results Less kinds.Int kinds.Int kinds.Boolean
less_results (Int a) (Int b) h k = record { value = _; it_is = refl; kind = tt }
less_results (Int a) (Boolean b) h k = absurd k
less_results (Int a) (Text b) h k = absurd k
less_results (Boolean a) b h k = absurd h
less_results (Text a) b h k = absurd h

pub less_eq_results : Results LessEq kinds.Int kinds.Int kinds.Boolean
less_eq_results (Int a) (Int b) h k = record { value = _; it_is = refl; kind = tt }
less_eq_results (Int a) (Boolean b) h k = absurd k
less_eq_results (Int a) (Text b) h k = absurd k
less_eq_results (Boolean a) b h k = absurd h
less_eq_results (Text a) b h k = absurd h

pub equal_results : (j : Scalar) → Results Equal j j kinds.Boolean
equal_results kinds.Int (Int a) (Int b) h k = record { value = _; it_is = refl; kind = tt }
equal_results kinds.Int (Int a) (Boolean b) h k = absurd k
equal_results kinds.Int (Int a) (Text b) h k = absurd k
equal_results kinds.Int (Boolean a) b h k = absurd h
equal_results kinds.Int (Text a) b h k = absurd h
equal_results kinds.Boolean (Boolean a) (Boolean b) h k = record { value = _; it_is = refl; kind = tt }
equal_results kinds.Boolean (Boolean a) (Int b) h k = absurd k
equal_results kinds.Boolean (Boolean a) (Text b) h k = absurd k
equal_results kinds.Boolean (Int a) b h k = absurd h
equal_results kinds.Boolean (Text a) b h k = absurd h
equal_results kinds.Text (Text a) (Text b) h k = record { value = _; it_is = refl; kind = tt }
equal_results kinds.Text (Text a) (Int b) h k = absurd k
equal_results kinds.Text (Text a) (Boolean b) h k = absurd k
equal_results kinds.Text (Int a) b h k = absurd h
equal_results kinds.Text (Boolean a) b h k = absurd h

pub int_results : (op : Op) (i j : Scalar) → Results op kinds.Int kinds.Int (given_by op) → (i ≡ kinds.Int) × (j ≡ kinds.Int) → Results op i j (given_by op)
int_results op i j r t = subst (λ (k : Scalar). Results op k j (given_by op)) (sym t.0) (subst (λ (k : Scalar). Results op kinds.Int k (given_by op)) (sym t.1) r)

pub results_of : (op : Op) (i j : Scalar) → Takes op i j → Results op i j (given_by op)
results_of Add i j t = int_results Add i j add_results t
results_of Sub i j t = int_results Sub i j sub_results t
results_of Mul i j t = int_results Mul i j mul_results t
results_of Less i j t = int_results Less i j less_results t
results_of LessEq i j t = int_results LessEq i j less_eq_results t
results_of Equal i j t = subst (λ (k : Scalar). Results Equal i k kinds.Boolean) t (equal_results i)

pub two_worth : (op : Op) (i j k : Scalar) (o q : Option Value) → Results op i j k → Worth o i → Worth q j → Worth (option_and_then (λ a. option_and_then (result_of op a) q) o) k
two_worth op i j k o q results u v =
    let r = results u.value v.value u.kind v.kind in
    record { value = r.value; it_is = ap (option_and_then (λ a. option_and_then (result_of op a) q)) u.it_is ∙ ap (option_and_then (result_of op u.value)) v.it_is ∙ r.it_is; kind = r.kind }

module _ (kinds_of : ℕ → Option Scalar) (vars : Vars) (known : (n : ℕ) (k : Scalar) → kinds_of n ≡ Some k → Worth (vars n) k) where
  pub at_kind : (o : Option Value) (j k : Scalar) → k ≡ j → Worth o j → Worth o k
  at_kind o j k e w = subst (Worth o) (sym e) w

  pub worth_of_kind : (e : Term) (k : Scalar) → HasKind kinds_of e k → Worth (worth vars e) k
  worth_of_kind (terms.int n) k h = at_kind (Some (Int n)) kinds.Int k h (record { value = Int n; it_is = refl; kind = tt })
  worth_of_kind (terms.boolean b) k h = at_kind (Some (Boolean b)) kinds.Boolean k h (record { value = Boolean b; it_is = refl; kind = tt })
  worth_of_kind (terms.text n) k h = at_kind (Some (Text n)) kinds.Text k h (record { value = Text n; it_is = refl; kind = tt })
  worth_of_kind (terms.var n) k h = known n k h
  worth_of_kind (terms.not e) k h = at_kind (worth vars (terms.not e)) kinds.Boolean k h.1 (not_worth (worth vars e) (worth_of_kind e kinds.Boolean h.0))
  worth_of_kind (terms.two op e f) k h =
      at_kind (worth vars (terms.two op e f)) (given_by op) k h.5
      (two_worth op h.0 h.1 (given_by op) (worth vars e) (worth vars f) (results_of op h.0 h.1 h.4) (worth_of_kind e h.0 h.2) (worth_of_kind f h.1 h.3))
