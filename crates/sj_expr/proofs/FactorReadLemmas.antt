-- The first tokens of a factor: what was read.
use Rattle.std.proofs.Common.{◌≡◌, ℕ, true, false, List, [], ◌∷◌, refl, sym, subst}
use Rattle.std.specs.Prelude.{codes, pos, neg_ℤ}
use Rattle.std.specs.Str.Parse.{digits_value}
use Rattle.sj_lang.specs.Term as term
use Rattle.sj_lang.specs.Limits.{limits}
use Rattle.sj_grammar.specs.Reading.{Reading}
use Rattle.sj_grammar.specs.Literals.{is_number, is_largest}
use Rattle.sj_grammar.specs.Positions.{Pieces, At, at}
use Rattle.sj_grammar.specs.Asked.{TakesText}
use Rattle.sj_grammar.specs.Expressions as level
use Rattle.sj_proto.proofs.ReadLemmas.{took_plain}
use Rattle.sj_expr.specs.Read.{Reads, ReadsLevel, TextSpelled}
use Rattle.sj_expr.proofs.TokenLemmas.{number_no_name, number_no_text}
use Rattle.sj_expr.proofs.NumberLemmas.{small_number}
use Rattle.sj_expr.proofs.ReadLemmas.{reads_one, reads_cons, reads_as}
use Rattle.sj_expr.proofs.OperandLemmas.{true_no_name, false_no_name}

module _ (o : ℕ) where
  pub minus_reads : (r q u : Reading) (ws ts : List (List ℕ)) (s : List ℕ) → TakesText r (codes "-") q → is_number s ≡ true → TakesText q s u
      → ReadsLevel level.factor o (at r ws ts) (at u ws ts) (term.int (neg_ℤ (pos (digits_value 10 s))))
  minus_reads r q u ws ts s minus t number =
      let of_minus_is = term.int (neg_ℤ (pos (digits_value 10 s))) in
      reads_cons (at r ws ts) (at q ws ts) (at u ws ts) (codes "-") (λ names ps. ps ≡ s ∷ []) (λ names ps. level.Spelt limits names level.factor o of_minus_is ps) (took_plain r q ws ts (codes "-") refl refl minus)
      (λ names ps same. subst (λ (qs : Pieces). level.Spelt limits names level.factor o of_minus_is (codes "-" ∷ qs)) (sym same) (level.of_minus t))
      (reads_one (at q ws ts) (at u ws ts) s (λ names ps. ps ≡ s ∷ []) (took_plain q u ws ts s (number_no_name s t) (number_no_text s t) number) (λ names g. refl))

  -- operands that get no number
  pub number_reads : (r q : Reading) (ws ts : List (List ℕ)) (s : List ℕ) → is_number s ≡ true → is_largest s ≡ false → TakesText r s q → ReadsLevel level.factor o (at r ws ts) (at q ws ts) (term.int (pos (digits_value 10 s)))
  number_reads r q ws ts s t small taken =
      reads_one (at r ws ts) (at q ws ts) s _ (took_plain r q ws ts s (number_no_name s t) (number_no_text s t) taken) (λ names g. level.of_number t (small_number s t small))

  pub true_reads : (r q : Reading) (ws ts : List (List ℕ)) → TakesText r (codes "true") q → ReadsLevel level.factor o (at r ws ts) (at q ws ts) (term.boolean true)
  true_reads r q ws ts taken = reads_one (at r ws ts) (at q ws ts) (codes "true") _ (took_plain r q ws ts (codes "true") true_no_name refl taken) (λ names g. level.of_true)

  pub false_reads : (r q : Reading) (ws ts : List (List ℕ)) → TakesText r (codes "false") q → ReadsLevel level.factor o (at r ws ts) (at q ws ts) (term.boolean false)
  false_reads r q ws ts taken = reads_one (at r ws ts) (at q ws ts) (codes "false") _ (took_plain r q ws ts (codes "false") false_no_name refl taken) (λ names g. level.of_false)

pub text_factor : (o : ℕ) (a b : At) (n : ℕ) → Reads a b (TextSpelled n) → ReadsLevel level.factor o a b (term.text n)
text_factor o a b n r = reads_as a b (TextSpelled n) _ (λ names ps h. subst (λ (qs : Pieces). level.Spelt limits names level.factor o (term.text n) qs) (sym h.1) (level.of_text h.0)) r
