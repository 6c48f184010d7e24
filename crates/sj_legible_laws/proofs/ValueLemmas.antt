-- What an expression is worth is a number of 64 bits, a truth value or a text of the file.
use Rattle.std.proofs.Common.{◌≡◌, ℕ, ◌<◌, ◌≤◌, ◌-◌, ◌==◌, Bool, true, false, cond, pos, negsuc, Option, Some, None, option_and_then, refl, suc, arith}
use Rattle.std.specs.Prelude.{ltb}
use Rattle.std.specs.Int.{cast_signed, w64}
use Rattle.std.proofs.lemmas.Bool.{ltb-true, ltb-false}
use Rattle.sj_base.specs.declared.Msg.TheVariants as msgs
use Rattle.sj_base.specs.declared.Msg.{Msg}
use Rattle.sj_lang.specs.declared.party.Op.{Op}
use Rattle.sj_lang.specs.declared.party.Op.TheVariants.{Add, Sub, Mul, Less, LessEq, Equal}
use Rattle.sj_lang.specs.FileAt.{FileAt}
use Rattle.sj_lang.specs.Term.{Term}
use Rattle.sj_lang.specs.Term as terms
use Rattle.sj_semantics.specs.declared.Value.{Value}
use Rattle.sj_semantics.specs.declared.Value.TheVariants.{Int, Boolean, Text}
use Rattle.sj_semantics.specs.Value.{Vars, with_value, value_of, result_of, negation_of, worth}
use Rattle.sj_semantics.specs.Steps.{assigned_vars}
use Rattle.sj_rules_laws.proofs.WithinRowLemmas.{by_some}
use Rattle.sj_log.specs.Legible.{IsInt, IsMessage}
use Rattle.sj_legible_laws.proofs.CodeParts.{TermTold, ValueTold, VarsTold}

-- bits are read as a number of 64 bits
bits_int : (n : ℕ) → IsInt (cast_signed w64 n)
bits_int n = by (ltb n 9223372036854775808) refl
  where
    by : (b : Bool) → ltb n 9223372036854775808 ≡ b → IsInt (cond b (pos n) (negsuc (18446744073709551616 - suc n)))
    by true is = let low : n < 9223372036854775808 = ltb-true n 9223372036854775808 is in omega (arith, low)
    by false is = let high : 9223372036854775808 ≤ n = ltb-false n 9223372036854775808 is in omega (arith, high)

module _ (file : FileAt) where
  -- numbers wrap at 64 bits
  result_told : (op : Op) (a b v : Value) → result_of op a b ≡ Some v → ValueTold file v
  result_told Add (Int a) (Int b) v h = by_some (ValueTold file) _ v h (bits_int _)
  result_told Add (Int a) (Boolean b) v h = cc
  result_told Add (Int a) (Text b) v h = cc
  result_told Add (Boolean a) b v h = cc
  result_told Add (Text a) b v h = cc
  result_told Sub (Int a) (Int b) v h = by_some (ValueTold file) _ v h (bits_int _)
  result_told Sub (Int a) (Boolean b) v h = cc
  result_told Sub (Int a) (Text b) v h = cc
  result_told Sub (Boolean a) b v h = cc
  result_told Sub (Text a) b v h = cc
  result_told Mul (Int a) (Int b) v h = by_some (ValueTold file) _ v h (bits_int _)
  result_told Mul (Int a) (Boolean b) v h = cc
  result_told Mul (Int a) (Text b) v h = cc
  result_told Mul (Boolean a) b v h = cc
  result_told Mul (Text a) b v h = cc
  result_told Less (Int a) (Int b) v h = by_some (ValueTold file) _ v h tt
  result_told Less (Int a) (Boolean b) v h = cc
  result_told Less (Int a) (Text b) v h = cc
  result_told Less (Boolean a) b v h = cc
  result_told Less (Text a) b v h = cc
  result_told LessEq (Int a) (Int b) v h = by_some (ValueTold file) _ v h tt
  result_told LessEq (Int a) (Boolean b) v h = cc
  result_told LessEq (Int a) (Text b) v h = cc
  result_told LessEq (Boolean a) b v h = cc
  result_told LessEq (Text a) b v h = cc
  result_told Equal (Int a) (Int b) v h = by_some (ValueTold file) _ v h tt
  result_told Equal (Int a) (Boolean b) v h = cc
  result_told Equal (Int a) (Text b) v h = cc
  result_told Equal (Boolean a) (Boolean b) v h = by_some (ValueTold file) _ v h tt
  result_told Equal (Boolean a) (Int b) v h = cc
  result_told Equal (Boolean a) (Text b) v h = cc
  result_told Equal (Text a) (Text b) v h = by_some (ValueTold file) _ v h tt
  result_told Equal (Text a) (Int b) v h = cc
  result_told Equal (Text a) (Boolean b) v h = cc

  negation_told : (a v : Value) → negation_of a ≡ Some v → ValueTold file v
  negation_told (Boolean b) v h = by_some (ValueTold file) _ v h tt
  negation_told (Int n) v h = cc
  negation_told (Text n) v h = cc

  -- what is made of a value that is there
  through : (o : Option Value) (f : Value → Option Value) (v : Value) → ((a : Value) → f a ≡ Some v → ValueTold file v) → option_and_then f o ≡ Some v → ValueTold file v
  through None f v k h = cc
  through (Some a) f v k h = k a h

  pub worth_told : (vars : Vars) (e : Term) (v : Value) → VarsTold file vars → TermTold file e → worth vars e ≡ Some v → ValueTold file v
  worth_told vars (terms.int z) v known told h = by_some (ValueTold file) (Int z) v h told
  worth_told vars (terms.boolean b) v known told h = by_some (ValueTold file) (Boolean b) v h tt
  worth_told vars (terms.text n) v known told h = by_some (ValueTold file) (Text n) v h told
  worth_told vars (terms.var n) v known told h = known n v h
  worth_told vars (terms.not e) v known told h = through (worth vars e) negation_of v (λ a k. negation_told a v k) h
  worth_told vars (terms.two op e f) v known told h =
      through (worth vars e) (λ a. option_and_then (result_of op a) (worth vars f)) v (λ a k. through (worth vars f) (result_of op a) v (λ b t. result_told op a b v t) k) h

  -- a variable gets a value that is legible
  with_told : (vars : Vars) (n : ℕ) (v : Value) → VarsTold file vars → ValueTold file v → VarsTold file (with_value vars n v)
  with_told vars n v known told m x h = by (m == n) h
    where
      by : (b : Bool) → cond b (Some v) (vars m) ≡ Some x → ValueTold file x
      by true k = by_some (ValueTold file) v x k told
      by false k = known m x k

  pub assigned_told : (vars : Vars) (n : ℕ) (o : Option Value) → VarsTold file vars → ((v : Value) → o ≡ Some v → ValueTold file v) → VarsTold file (assigned_vars vars n o)
  assigned_told vars n None known told = known
  assigned_told vars n (Some v) known told = with_told vars n v known (told v refl)

  -- the value that a message carries
  pub carried_told : (m : Msg) (v : Value) → IsMessage file m → value_of m ≡ Some v → ValueTold file v
  carried_told (msgs.Int n) v told h = by_some (ValueTold file) (Int n) v h told
  carried_told (msgs.Bool b) v told h = by_some (ValueTold file) (Boolean b) v h told
  carried_told (msgs.Text n) v told h = by_some (ValueTold file) (Text n) v h told
  carried_told (msgs.Label l) v told h = cc
  carried_told (msgs.More b) v told h = cc
  carried_told (msgs.Sess s d k) v told h = cc
