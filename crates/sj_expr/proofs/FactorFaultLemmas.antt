-- Faults at the first tokens of a factor.
use Rattle.std.proofs.Common.{◌≡◌, ℕ, ◌≤◌, Bool, true, false, List, [], ◌∷◌, length, Option, Some, None, refl, ap, sym, subst, ◌∙◌}
use Rattle.std.specs.Prelude.{codes, if◌then◌else◌, ◌||◌, nat_le, nat_lt}
use Rattle.std.proofs.lemmas.Bool.{le-leb}
use Rattle.sj_grammar.specs.declared.tokens.Rule.{Rule}
use Rattle.sj_grammar.specs.declared.tokens.Rule.TheVariants.{P1, P4}
use Rattle.sj_grammar.specs.declared.tokens.Fault.{Fault}
use Rattle.sj_lang.specs.Limits.{limits}
use Rattle.sj_grammar.specs.Lexis.{Ahead, at_end, bad, token, next_of}
use Rattle.sj_grammar.specs.Reading.{Reading, before_next, fault_at}
use Rattle.sj_grammar.specs.Names.{is_name}
use Rattle.sj_grammar.specs.Literals.{is_number, is_largest, is_text, inner}
use Rattle.sj_grammar.specs.Positions.{At, at, Takes}
use Rattle.sj_grammar.specs.Faults.{broken}
use Rattle.sj_grammar.specs.Refusals.{StuckInside, fault_next, first_rule}
use Rattle.sj_grammar.specs.Asked.{TakesText, spelled_next, Refuses, refused, but_name}
use Rattle.sj_grammar.specs.ExpressionDues.{factor, after_minus, is_operand, is_long, expression_layer}
use Rattle.sj_grammar.proofs.InsideLemmas.{inside_here, inside_cons}
use Rattle.sj_proto.proofs.ReadLemmas.{took_plain}
use Rattle.sj_expr.specs.Operands.{IsOperandOf}
use Rattle.sj_expr.specs.declared.operands.Operand.{Operand}
use Rattle.sj_expr.specs.declared.operands.Operand.TheVariants as operands
use Rattle.sj_expr.specs.Factors.{but_text}
use Rattle.sj_expr.proofs.TokenLemmas.{number_no_text, name_no_number}
use Rattle.sj_expr.proofs.NumberLemmas.{largest_number}
use Rattle.sj_expr.proofs.RunLemmas.{minus_step}
use Rattle.sj_proto.proofs.NameLemmas.{name_no_text}
use Rattle.sj_expr.proofs.OperandLemmas.{number_operand, text_operand, name_operand, true_operand, false_operand}
use Rattle.sj_expr.proofs.TestLemmas.{bytes_same}

pub is_an_operand : (o : Operand) (s : List ℕ) → IsOperandOf o s → is_operand s ≡ true
is_an_operand (operands.Number v) s h = number_operand s h.number h.other
is_an_operand operands.Text s h = text_operand s h
is_an_operand operands.Name s h = name_operand s h
is_an_operand operands.True s h = subst (λ (x : List ℕ). is_operand x ≡ true) (sym h) true_operand
is_an_operand operands.False s h = subst (λ (x : List ℕ). is_operand x ≡ true) (sym h) false_operand

-- an operand where no more may stand, or a longer one than may
module _ (n o : ℕ) where
  operand_breaks : (x : Ahead) → is_operand (spelled_next x) ≡ true → (nat_le 256 n || is_long limits (spelled_next x)) ≡ true → broken expression_layer limits n (factor o ∷ []) x ≡ Some P4
  operand_breaks at_end t over = let none : ⊥ = cc in absurd none
  operand_breaks (bad r rest) t over = let none : ⊥ = cc in absurd none
  operand_breaks (token what s rest) t over = rw (t, over) refl

  operand_inside : (a : At) (f : Fault) → is_operand (spelled_next (next_of a.text.ahead)) ≡ true → (nat_le 256 n || is_long limits (spelled_next (next_of a.text.ahead))) ≡ true
      → f ≡ fault_at (before_next a.text (next_of a.text.ahead)) P4 → StuckInside expression_layer limits n a (factor o ∷ []) f
  operand_inside a f t over same =
      inside_here expression_layer limits n a (factor o ∷ []) f refl (record { rule = P4; breaks = operand_breaks (next_of a.text.ahead) t over; fault = same })

  pub full_inside : (a : At) (f : Fault) → is_operand (spelled_next (next_of a.text.ahead)) ≡ true → 256 ≤ n → f ≡ fault_at (before_next a.text (next_of a.text.ahead)) P4 → StuckInside expression_layer limits n a (factor o ∷ []) f
  full_inside a f t h same = operand_inside a f t (rw (le-leb 256 n h) refl) same

  long_inside : (a : At) (f : Fault) → is_operand (spelled_next (next_of a.text.ahead)) ≡ true → is_long limits (spelled_next (next_of a.text.ahead)) ≡ true → f ≡ fault_at (before_next a.text (next_of a.text.ahead)) P4
      → StuckInside expression_layer limits n a (factor o ∷ []) f
  long_inside a f t h same = operand_inside a f t (either (nat_le 256 n) (is_long limits (spelled_next (next_of a.text.ahead))) h) same
    where
      either : (x y : Bool) → y ≡ true → (x || y) ≡ true
      either true y e = refl
      either false y e = e

  -- what was refused was a limit
  limit_is : (p : List ℕ → Option Rule) (x : Ahead) (r : Rule) (b : Bool) → is_operand (spelled_next x) ≡ true → is_largest (spelled_next x) ≡ false → p (spelled_next x) ≡ (if b then Some P4 else None) → refused p x ≡ Some r → (b ≡ true) × (r ≡ P4)
  limit_is p at_end r b t small e h = let none : ⊥ = cc in absurd none
  limit_is p (bad l rest) r b t small e h = let none : ⊥ = cc in absurd none
  limit_is p (token what s rest) r b t small e h = by_limit b (sym e ∙ (rw small at h))
    where
      by_limit : (b : Bool) → (if b then Some P4 else None) ≡ Some r → (b ≡ true) × (r ≡ P4)
      by_limit true k = (refl, cc)
      by_limit false k = let none : ⊥ = cc in absurd none

  not_largest : (s : List ℕ) → is_number s ≡ false → is_largest s ≡ false
  not_largest s h = by_test (is_largest s) refl
    where
      by_test : (b : Bool) → is_largest s ≡ b → b ≡ false
      by_test true e =
          let yes : is_number s ≡ true = subst (λ (x : List ℕ). is_number x ≡ true) (sym (bytes_same s (codes "9223372036854775808") e)) largest_number in
          let none : ⊥ = cc in absurd none
      by_test false e = refl

  text_is_no_number : (s : List ℕ) → is_text s ≡ true → is_number s ≡ false
  text_is_no_number s t = by_test (is_number s) refl
    where
      by_test : (b : Bool) → is_number s ≡ b → b ≡ false
      by_test true e = let other = number_no_text s e in let none : ⊥ = cc in absurd none
      by_test false e = refl

  pub text_inside : (a : At) (f : Fault) → is_text (spelled_next (next_of a.text.ahead)) ≡ true → Refuses but_text a.text f → StuckInside expression_layer limits n a (factor o ∷ []) f
  text_inside a f t r =
      let x = next_of a.text.ahead in
      let s = spelled_next x in
      let is = limit_is but_text x r.rule (nat_lt 255 (length (inner s))) (text_operand s t) (not_largest s (text_is_no_number s t)) refl r.refused in
      long_inside a f (text_operand s t) (rw (t, is.0) refl) (r.fault ∙ ap (fault_at (before_next a.text x)) is.1)

  pub name_inside : (a : At) (f : Fault) → is_name (spelled_next (next_of a.text.ahead)) ≡ true → Refuses (but_name false) a.text f → StuckInside expression_layer limits n a (factor o ∷ []) f
  name_inside a f t r =
      let x = next_of a.text.ahead in
      let s = spelled_next x in
      let is = limit_is (but_name false) x r.rule (nat_lt 64 (length s)) (name_operand s t) (not_largest s (name_no_number s t)) (rw t refl) r.refused in
      long_inside a f (name_operand s t) (rw (name_no_text s t, t, is.0) refl) (r.fault ∙ ap (fault_at (before_next a.text x)) is.1)

  -- after a minus
  module _ (r q : Reading) (ws ts : List (List ℕ)) (minus : TakesText r (codes "-") q) where
    pub minus_taken : Takes (at r ws ts) (codes "-") (at q ws ts)
    minus_taken = took_plain r q ws ts (codes "-") refl refl minus

    behind_minus : (f : Fault) (rule : Rule) → broken expression_layer limits n (after_minus ∷ []) (next_of q.ahead) ≡ Some rule → f ≡ fault_at (before_next q (next_of q.ahead)) rule
        → StuckInside expression_layer limits n (at r ws ts) (factor o ∷ []) f
    behind_minus f rule breaks same =
        inside_cons expression_layer limits n n (at r ws ts) (at q ws ts) (codes "-") (factor o ∷ []) (after_minus ∷ []) f minus_taken (minus_step limits n o [])
        (inside_here expression_layer limits n (at q ws ts) (after_minus ∷ []) f refl (record { rule = rule; breaks = breaks; fault = same }))

    no_number_breaks : (x : Ahead) → is_number (spelled_next x) ≡ false → broken expression_layer limits n (after_minus ∷ []) x ≡ Some (first_rule P1 x)
    no_number_breaks at_end h = refl
    no_number_breaks (bad l rest) h = refl
    no_number_breaks (token what s rest) h = rw h refl

    pub no_number_inside : (f : Fault) → is_number (spelled_next (next_of q.ahead)) ≡ false → f ≡ fault_next q P1 (next_of q.ahead) → StuckInside expression_layer limits n (at r ws ts) (factor o ∷ []) f
    no_number_inside f h same = behind_minus f (first_rule P1 (next_of q.ahead)) (no_number_breaks (next_of q.ahead) h) same

    full_breaks : (x : Ahead) → is_number (spelled_next x) ≡ true → 256 ≤ n → broken expression_layer limits n (after_minus ∷ []) x ≡ Some P4
    full_breaks at_end t h = let none : ⊥ = cc in absurd none
    full_breaks (bad l rest) t h = let none : ⊥ = cc in absurd none
    full_breaks (token what s rest) t h = rw (t, le-leb 256 n h) refl

    pub full_number_inside : (f : Fault) → is_number (spelled_next (next_of q.ahead)) ≡ true → 256 ≤ n → f ≡ fault_at (before_next q (next_of q.ahead)) P4 → StuckInside expression_layer limits n (at r ws ts) (factor o ∷ []) f
    full_number_inside f t h same = behind_minus f P4 (full_breaks (next_of q.ahead) t h) same
