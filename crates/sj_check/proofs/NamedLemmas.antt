-- Environments that may differ at some names alone.
use Rattle.std.proofs.Common.{◌≡◌, ℕ, List, [], ◌∷◌, ◌++◌, BTreeSet, Option, Some, None, Bool, true, false, ◌==◌, ◌||◌, ◌&&◌, cond, refl, sym, ap, subst, ◌∙◌}
use Rattle.std.specs.Bool.{Decides}
use Rattle.std.proofs.lemmas.Bool.Decides.{Decides-eqb, Decides-and, Decides-like, same_from_decides}
use Rattle.std.specs.Ordering.{nat_cmp, eq_by_cmp}
use Rattle.std.specs.Cmp.{nat_cmp_total, unsigned_tied}
use Rattle.std.specs.List.{list_any}
use Rattle.std.specs.BTreeMap.{is_at}
use Rattle.std.specs.BTreeSet.{contains}
use Rattle.std.specs.FinMap.{FinMap, get, same_map, nat_cmp-IsAntisymmetric}
use Rattle.sj_lang.specs.Code.{Code}
use Rattle.sj_lang.specs.FileAt.{ProtocolAt}
use Rattle.sj_lang.specs.Place.{Place}
use Rattle.sj_acceptance.specs.EnvAt.{EnvAt, with_live}
use Rattle.sj_acceptance.specs.Faults.{first_fault}
use Rattle.sj_acceptance.specs.LabelTests.{is_among}
use Rattle.sj_acceptance.specs.Sameness.{is_same_place, is_same_ends}
use Rattle.sj_acceptance.specs.Tests.{code_tests, after_code}
use Rattle.sj_acceptance_laws.proofs.SamenessLemmas.{is_same_place-Decides, is_same_ends-Decides}
use Rattle.sj_check.specs.Named.{ends_named, SameBeyond, is_same_option, is_same_at}
use Rattle.sj_check.proofs.UnnamedLemmas.{apart-append, apart-cons, code-unnamed}
use Rattle.sj_check.proofs.MapLemmas.{get-insert_other}

-- one more name in the set
pub one-more : (k q : ℕ) (old new rest : Bool) → new ≡ cond (is_at (nat_cmp k) q) true old → (new || rest) ≡ (old || ((k == q) || rest))
one-more k q old new rest h = ap (λ b. b || rest) (h ∙ ap (λ b. cond b true old) (unsigned_tied k q)) ∙ turned (k == q) old
  where
    turned : (b o : Bool) → (cond b true o || rest) ≡ (o || (b || rest))
    turned true true = refl
    turned true false = refl
    turned false true = refl
    turned false false = refl

is_same_option-Decides : (o p : Option Place) → Decides (is_same_option o p) (o ≡ p)
is_same_option-Decides None None = (λ _. refl, λ _. refl)
is_same_option-Decides None (Some q) = (λ e. absurd (cc), λ e. absurd (cc))
is_same_option-Decides (Some p) None = (λ e. absurd (cc), λ e. absurd (cc))
is_same_option-Decides (Some p) (Some q) = Decides-like (is_same_place p q) (ap Some) (λ e. cc) (is_same_place-Decides p q)

both : (x y : Bool) → (x && y) ≡ true → (x ≡ true) × (y ≡ true)
both x y = (Decides-and x y (λ e. e, λ e. e) (λ e. e, λ e. e)).0

module _ (a b : FinMap nat_cmp Place) where
  same_among : (ns : List ℕ) (q : ℕ) → is_same_at ns a b ≡ true → list_any (is_at (nat_cmp q)) ns ≡ true → get a q ≡ get b q
  same_among [] q h m = absurd (cc)
  same_among (n ∷ ns) q h m =
      let parts = both (is_same_option (get a n) (get b n)) (is_same_at ns a b) h in
      elim (eq_by_cmp nat_cmp q n) as (λ t. eq_by_cmp nat_cmp q n ≡ t → (t || list_any (is_at (nat_cmp q)) ns) ≡ true → get a q ≡ get b q) [
        | true ↦ λ t e. subst (λ k. get a k ≡ get b k) (sym ((Decides-eqb q n).0 (sym (unsigned_tied q n) ∙ t))) ((is_same_option-Decides (get a n) (get b n)).0 parts.0)
        | false ↦ λ t e. same_among ns q parts.1 e
      ] refl m

  same_all : a ≡ b → (ns : List ℕ) → is_same_at ns a b ≡ true
  same_all e [] = refl
  same_all e (n ∷ ns) = (Decides-and (is_same_option (get a n) (get b n)) (is_same_at ns a b) (λ t. t, λ t. t) (λ t. t, λ t. t)).1
      ((is_same_option-Decides (get a n) (get b n)).1 (ap (λ m. get m n) e), same_all e ns)

  -- what is the same beyond the names is the same where it is so at the names
  pub same-named : (s : BTreeSet ℕ) → SameBeyond (contains nat_cmp s) a b → is_same_at s.keys a b ≡ is_same_ends a b
  same-named s beyond = same_from_decides (is_same_at s.keys a b) (is_same_ends a b)
      ((λ h. same_map nat_cmp_total nat_cmp-IsAntisymmetric a b (λ q. each h q (contains nat_cmp s q) refl)), λ e. same_all e s.keys) (is_same_ends-Decides a b)
    where
      each : is_same_at s.keys a b ≡ true → (q : ℕ) (t : Bool) → contains nat_cmp s q ≡ t → get a q ≡ get b q
      each h q true e = same_among s.keys q h e
      each h q false e = beyond q e

-- two blocks, begun where all is the same beyond some names
pub blocks-beyond : (ps : List ProtocolAt) (names : List ℕ) (e f a b : EnvAt) (ns : List ℕ) (c d : Code) (xs ys : Code) (s : BTreeSet ℕ) → xs ≡ c → ys ≡ d
    → ((q : ℕ) → contains nat_cmp s q ≡ is_among q (ns ++ ends_named xs ++ ends_named ys))
    → ((q : ℕ) → is_among q ns ≡ false → get e.ends q ≡ get f.ends q)
    → first_fault (code_tests ps names e c) ≡ None → a ≡ after_code ps e c → first_fault (code_tests ps names f d) ≡ None → b ≡ after_code ps f d
    → SameBeyond (contains nat_cmp s) a.ends b.ends
blocks-beyond ps names e f a b ns c d xs ys s ec ed named begun p is r it q out =
    let n = apart-append q (ns ++ ends_named c) (ends_named d) ((λ i. is_among q (ns ++ ends_named (sym ec i) ++ ends_named (sym ed i))) ∙ sym (named q) ∙ out) in
    let m = apart-append q ns (ends_named c) n.0 in
    ap (λ (k : EnvAt). get k.ends q) is ∙ code-unnamed ps names e c q m.1 p ∙ begun q m.0 ∙ sym (code-unnamed ps names f d q n.1 r) ∙ sym (ap (λ (k : EnvAt). get k.ends q) it)

-- where one end or two moved
pub moved-beyond : (env old new : EnvAt) (x : ℕ) (p : Place) → old ≡ env → new ≡ with_live old x p → (q : ℕ) → is_among q (x ∷ []) ≡ false → get env.ends q ≡ get new.ends q
moved-beyond env old new x p e n q h =
    sym (ap (λ (k : EnvAt). get k.ends q) n ∙ get-insert_other old.ends x q p (apart-cons q x [] h).0 ∙ ap (λ (k : EnvAt). get k.ends q) e)

pub both-moved-beyond : (env old mid new : EnvAt) (x y : ℕ) (p r : Place) → old ≡ env → mid ≡ with_live old x p → new ≡ with_live mid y r
    → (q : ℕ) → is_among q (x ∷ y ∷ []) ≡ false → get env.ends q ≡ get new.ends q
both-moved-beyond env old mid new x y p r e m n q h =
    let a = apart-cons q x (y ∷ []) h in
    sym (ap (λ (k : EnvAt). get k.ends q) n ∙ get-insert_other mid.ends y q r (apart-cons q y [] a.1).0
    ∙ ap (λ (k : EnvAt). get k.ends q) m ∙ get-insert_other old.ends x q p a.0 ∙ ap (λ (k : EnvAt). get k.ends q) e)

pub arms-beyond : (env a b : EnvAt) (x : ℕ) (p r : Place) → a ≡ with_live env x p → b ≡ with_live env x r → (q : ℕ) → is_among q (x ∷ []) ≡ false → get a.ends q ≡ get b.ends q
arms-beyond env a b x p r e f q h = sym (moved-beyond env env a x p refl e q h) ∙ moved-beyond env env b x r refl f q h
