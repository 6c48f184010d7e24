-- Codes of which one party alone has one.
use Rattle.std.proofs.Common.{◌≡◌, ◌∙◌, ℕ, inl, inr, zero, suc, ◌==◌, ◌+◌, false, List, [], ◌∷◌, ◌++◌, length, length-append, Option, Some, None, refl, sym, ap, subst, arith}
use Rattle.std.proofs.lemmas.Bool.{eq-eqb, ne_eqb, cases_eq}
use mathlib.Core.Path.{fun_ext}
use Rattle.sj_seat_run.specs.Seats.{seats_by}
use Rattle.sj_seat_end.specs.Alone.{AreAlone, AreNobodys, is_party}

-- where there are none at all
none_of : {C : Type 0} (codes : List (Option C)) → codes ≡ [] → (q : ℕ) → seats_by codes q ≡ false
none_of codes none zero = ap (λ cs. seats_by cs zero) none
none_of codes none (suc q) = ap (λ cs. seats_by cs (suc q)) none

pub no_nobodys : {C : Type 0} (codes : List (Option C)) → codes ≡ [] → AreNobodys 0 codes
no_nobodys codes none = record { count = ap length none; none = none_of codes none }

-- one more without a code
none_more : {C : Type 0} (codes : List (Option C)) → ((q : ℕ) → seats_by codes q ≡ false) → (q : ℕ) → seats_by (codes ++ None ∷ []) q ≡ false
none_more [] none zero = refl
none_more [] none (suc q) = refl
none_more (c ∷ cs) none zero = none zero
none_more (c ∷ cs) none (suc q) = none_more cs (λ n. none (suc n)) q

pub nobodys_more : {C : Type 0} (n m : ℕ) (codes more : List (Option C)) → AreNobodys n codes → more ≡ codes ++ None ∷ [] → m ≡ n + 1 → AreNobodys m more
nobodys_more n m codes more are is next =
    subst (λ cs. AreNobodys m cs) (sym is) (record {
      count = length-append codes (None ∷ []) ∙ (let e = are.count in omega (arith, e, next));
      none = none_more codes are.none;
    })

-- numbers after the next are one as their own are
same_next : (q n : ℕ) → (q == n) ≡ (suc q == suc n)
same_next q n =
    elim (cases_eq q n) [
      | inl it ↦ eq-eqb q n it ∙ sym (eq-eqb (suc q) (suc n) (ap suc it))
      | inr other ↦ ne_eqb q n other ∙ sym (ne_eqb (suc q) (suc n) (λ e. other (omega (arith, e))))
    ]

one_after : {C : Type 0} (codes : List (Option C)) (code : C) → ((q : ℕ) → seats_by codes q ≡ false) → (q : ℕ) → seats_by (codes ++ Some code ∷ []) q ≡ (q == length codes)
one_after [] code none zero = refl
one_after [] code none (suc q) = sym (ne_eqb (suc q) 0 (λ e. omega (arith, e)))
one_after (c ∷ cs) code none zero = none zero ∙ sym (ne_eqb 0 (suc (length cs)) (λ e. omega (arith, e)))
one_after (c ∷ cs) code none (suc q) = one_after cs code (λ n. none (suc n)) q ∙ same_next q (length cs)

-- and then that code
pub alone_after : {C : Type 0} (n : ℕ) (codes more : List (Option C)) (code : C) → AreNobodys n codes → more ≡ codes ++ Some code ∷ [] → AreAlone n more
alone_after n codes more code are is q =
    ap (λ cs. seats_by cs q) is ∙ one_after codes code are.none q ∙ ap (λ m. q == m) are.count

-- what is true of parties with a code is true of that party
pub same_seats : {C : Type 0} (party : ℕ) (codes : List (Option C)) → AreAlone party codes → seats_by codes ≡ is_party party
same_seats party codes alone = fun_ext alone
