-- Names and pieces that a file has, as what is due.
use Rattle.std.proofs.Common.{◌≡◌, ℕ, Bool, true, false, IsTrue, List, [], ◌∷◌, length, Some, None, refl, arith}
use Rattle.std.specs.Prelude.{if◌then◌else◌, nat_lt}
use Rattle.std.proofs.lemmas.Bool.{le-ltb}
use Rattle.std.proofs.lemmas.Bool.Decides.{nat_tests}
use Rattle.sj_grammar.specs.declared.tokens.Fault.{Fault}
use Rattle.sj_grammar.specs.declared.tokens.Rule.TheVariants.{P1, P3, P4}
use Rattle.sj_lang.specs.Limits.{Limits, limits}
use Rattle.sj_grammar.specs.Names.{is_name}
use Rattle.sj_grammar.specs.Literals.{is_largest}
use Rattle.sj_grammar.specs.Tables.{IsNamed, entry_of}
use Rattle.sj_grammar.specs.Positions.{At}
use Rattle.sj_grammar.specs.Layers.{goes, rule_of, step}
use Rattle.sj_grammar.specs.FileDues.{Due, name, fixed, file_layer}
use Rattle.sj_grammar.specs.Faults.{Stuck}
use Rattle.sj_grammar.specs.Asked.{but, but_name}
use Rattle.sj_grammar.proofs.StepLemmas.{Runs-cons, Runs-none}
use Rattle.sj_grammar.proofs.StucknessLemmas.{stuck_block}
use Rattle.sj_proto.specs.Parsed.{Gives}
use Rattle.sj_proto.proofs.NameLemmas.{name_not_largest}
use Rattle.sj_proto.proofs.ReadLemmas.{itself}
use Rattle.sj_proto.proofs.RuleLemmas.{Refusing, over_rule, one_rule}

pub fixed_rule : (p : List ℕ) (n : ℕ) (ds : List Due) → is_largest p ≡ false → Refusing (but p) n (fixed p ∷ ds)
fixed_rule p n ds small = one_rule (fixed p) p n ds small (λ s e. rw e refl) refl

pub name_rule : (n : ℕ) (ds : List Due) → Refusing (but_name false) n (name ∷ ds)
name_rule n ds s r e = by_tests (is_largest s) (is_name s) refl refl e
  where
    by_tests : (x y : Bool) → is_largest s ≡ x → is_name s ≡ y → (if x then Some P3 else (if y then (if nat_lt 64 (length s) then Some P4 else None) else Some P1)) ≡ Some r
        → rule_of (step file_layer limits n (name ∷ ds) s) ≡ Some r
    by_tests true true ex ey e = let was : is_largest s ≡ false = name_not_largest s ey in let none : ⊥ = cc in absurd none
    by_tests true false ex ey e = rw (ey, ex) e
    by_tests false true ex ey e = rw ey (over_rule (nat_lt 64 (length s)) n ds r e)
    by_tests false false ex ey e = rw (ey, ex) e

pub name_step : (L : Limits) (word : ℕ → List ℕ) (l n : ℕ) (ds : List Due) → IsNamed L word l → step file_layer L n (name ∷ ds) (word l) ≡ goes n ds
name_step L word l n ds is =
    let t : IsTrue (is_name (word l)) = is.name in
    let named : is_name (word l) ≡ true = grind (arith, nat_tests) in
    rw (named, le-ltb L.name (length (word l)) is.short) refl

-- after a name
pub name_stuck : (a m : At) (l n : ℕ) (ds : List Due) (f : Fault) → Gives a m (λ word. word l ∷ []) (λ word. IsNamed limits word l) → Stuck file_layer limits n m ds f → Stuck file_layer limits n a (name ∷ ds) f
name_stuck a m l n ds f gives st =
    let whole = gives (entry_of m.words) (itself m.words) in
    stuck_block file_layer limits n n a m (entry_of m.words l ∷ []) (name ∷ ds) ds f whole.0
    (Runs-cons file_layer limits n n n (name ∷ ds) ds ds (entry_of m.words l) [] (name_step limits (entry_of m.words) l n ds whole.1) (Runs-none file_layer limits n ds)) st
