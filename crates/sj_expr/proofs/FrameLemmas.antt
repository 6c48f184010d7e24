-- What waits, and what may follow it.
use Rattle.std.proofs.Common.{◌≡◌, ℕ, ◌≤◌, List, [], ◌∷◌, refl, ap, sym, ◌∙◌, arith}
use Rattle.sj_lang.specs.declared.party.Op.{Op}
use Rattle.sj_grammar.specs.Positions.{Pieces}
use Rattle.sj_grammar.specs.Expressions.{Level}
use Rattle.sj_grammar.specs.Expressions as level
use Rattle.sj_expr.proofs.ShapeLemmas.{Shape, joined, OpenOperand, negation, group, product, addition, comparison, has, moved, Sign, star, plus, compare, close, other, sign_of, Held, settled, up_product, up_addition, up_comparison, by_sum, by_term, closed, whole_of, at_sum, at_term, reading}

-- what a frame binds: the higher, the weaker
abbrev pub rank : List OpenOperand → ℕ
rank [] = 4
rank (negation ∷ k) = 0
rank (group ∷ k) = 4
rank (product l ∷ k) = 1
rank (addition op l ∷ k) = 2
rank (comparison op l ∷ k) = 3

abbrev pub need : Level → ℕ
need level.factor = 0
need level.term = 2
need level.sum = 3
need level.whole = 4

pub settled_free : (s : Shape) (k : List OpenOperand) → 1 ≤ rank k → settled s k ≡ has s k
settled_free s [] h = refl
settled_free s (negation ∷ k) h = absurd (omega arith)
settled_free s (group ∷ k) h = refl
settled_free s (product l ∷ k) h = refl
settled_free s (addition op l ∷ k) h = refl
settled_free s (comparison op l ∷ k) h = refl

pub product_free : (s : Shape) (k : List OpenOperand) → 2 ≤ rank k → up_product s k ≡ (s, k)
product_free s [] h = refl
product_free s (negation ∷ k) h = absurd (omega arith)
product_free s (group ∷ k) h = refl
product_free s (product l ∷ k) h = absurd (omega arith)
product_free s (addition op l ∷ k) h = refl
product_free s (comparison op l ∷ k) h = refl

pub addition_free : (s : Shape) (k : List OpenOperand) → 3 ≤ rank k → up_addition s k ≡ (s, k)
addition_free s [] h = refl
addition_free s (negation ∷ k) h = absurd (omega arith)
addition_free s (group ∷ k) h = refl
addition_free s (product l ∷ k) h = absurd (omega arith)
addition_free s (addition op l ∷ k) h = absurd (omega arith)
addition_free s (comparison op l ∷ k) h = refl

pub comparison_free : (s : Shape) (k : List OpenOperand) → 4 ≤ rank k → up_comparison s k ≡ (s, k)
comparison_free s [] h = refl
comparison_free s (negation ∷ k) h = absurd (omega arith)
comparison_free s (group ∷ k) h = refl
comparison_free s (product l ∷ k) h = absurd (omega arith)
comparison_free s (addition op l ∷ k) h = absurd (omega arith)
comparison_free s (comparison op l ∷ k) h = absurd (omega arith)

-- what may stand after an expression of that level
abbrev pub IsNoStar : Sign → Type 0
IsNoStar star = ⊥
IsNoStar (plus op) = Unit {0}
IsNoStar (compare op) = Unit {0}
IsNoStar close = Unit {0}
IsNoStar other = Unit {0}

abbrev pub IsEnd : Sign → Type 0
IsEnd star = ⊥
IsEnd (plus op) = ⊥
IsEnd (compare op) = ⊥
IsEnd close = Unit {0}
IsEnd other = Unit {0}

abbrev pub First : (Sign → Type 0) → Pieces → Type 0
First P [] = Unit {0}
First P (s ∷ ps) = P (sign_of s)

abbrev pub MayFollow : Level → Pieces → Type 0
MayFollow level.factor x = Unit {0}
MayFollow level.term x = Unit {0}
MayFollow level.sum x = First IsNoStar x
MayFollow level.whole x = First IsEnd x

-- what holds the same is read the same
pub same_term : (s t : Shape) (k m : List OpenOperand) (x : Pieces) → up_product s k ≡ up_product t m → reading (has s k) x ≡ reading (has t m) x
same_term s t k m [] e = ap (λ (h : Held). at_term h []) e
same_term s t k m (c ∷ ps) e = ap (λ (h : Held). moved (by_term (sign_of c) h) (λ next. reading next ps) (at_term h (c ∷ ps))) e

pub behind_sum : (g : Sign) (h j : Held) → IsNoStar g → up_addition h.0 h.1 ≡ up_addition j.0 j.1 → by_term g h ≡ by_term g j
behind_sum star h j n e = absurd n
behind_sum (plus op) h j n e = ap (by_sum (plus op)) e
behind_sum (compare op) h j n e = ap (by_sum (compare op)) e
behind_sum close h j n e = ap (by_sum close) e
behind_sum other h j n e = refl

pub same_sum : (s t : Shape) (k m : List OpenOperand) (x : Pieces) → First IsNoStar x → (up : Held) × (up_product s k ≡ up) × (down : Held) × (up_product t m ≡ down) × (up_addition up.0 up.1 ≡ up_addition down.0 down.1)
    → reading (has s k) x ≡ reading (has t m) x
same_sum s t k m [] n e = ap (λ (h : Held). at_term h []) e.1 ∙ ap (λ (h : Held). at_sum h []) e.4 ∙ sym (ap (λ (h : Held). at_term h []) e.3)
same_sum s t k m (c ∷ ps) n e =
    ap (λ (h : Held). moved (by_term (sign_of c) h) (λ next. reading next ps) (at_term h (c ∷ ps))) e.1
    ∙ (λ i. moved (behind_sum (sign_of c) e.0 e.2 n e.4 i) (λ next. reading next ps) (at_sum (e.4 i) (c ∷ ps)))
    ∙ sym (ap (λ (h : Held). moved (by_term (sign_of c) h) (λ next. reading next ps) (at_term h (c ∷ ps))) e.3)

-- a sum with a comparison before it
pub comparison_moves : (t u : Shape) (op : Op) (k : List OpenOperand) (g : Sign) → 4 ≤ rank k → IsEnd g → by_term g (u, comparison op t ∷ k) ≡ by_term g (up_product (joined op t u) k)
comparison_moves t u op k star h n = absurd n
comparison_moves t u op k (plus o) h n = absurd n
comparison_moves t u op k (compare o) h n = absurd n
comparison_moves t u op k close h n =
    let v = joined op t u in
    sym (ap (λ (j : Held). by_term close j) (product_free v k (omega arith)) ∙ ap (λ (j : Held). by_sum close j) (addition_free v k (omega arith)) ∙ ap (λ (j : Held). closed j.0 j.1) (comparison_free v k h))
comparison_moves t u op k other h n = refl

pub comparison_ends : (t u : Shape) (op : Op) (k : List OpenOperand) (rest : Pieces) → 4 ≤ rank k → at_term (u, comparison op t ∷ k) rest ≡ at_term (up_product (joined op t u) k) rest
comparison_ends t u op k rest h =
    let v = joined op t u in
    sym (ap (λ (j : Held). at_term j rest) (product_free v k (omega arith)) ∙ ap (λ (j : Held). at_sum j rest) (addition_free v k (omega arith)) ∙ ap (λ (j : Held). whole_of j rest) (comparison_free v k h))

pub compared_is : (t u : Shape) (op : Op) (k : List OpenOperand) (x : Pieces) → 4 ≤ rank k → First IsEnd x → reading (has u (comparison op t ∷ k)) x ≡ reading (has (joined op t u) k) x
compared_is t u op k [] h n = comparison_ends t u op k [] h
compared_is t u op k (c ∷ ps) h n = λ i. moved (comparison_moves t u op k (sign_of c) h n i) (λ next. reading next ps) (comparison_ends t u op k (c ∷ ps) h i)

pub no_star : (g : Sign) → IsEnd g → IsNoStar g
no_star star n = n
no_star (plus op) n = absurd n
no_star (compare op) n = absurd n
no_star close n = tt
no_star other n = tt

pub no_star_first : (x : Pieces) → First IsEnd x → First IsNoStar x
no_star_first [] n = tt
no_star_first (c ∷ ps) n = no_star (sign_of c) n
