-- Where a text is stuck in a factor that opens another.
use Rattle.std.proofs.Common.{◌≡◌, ℕ, suc, ◌+◌, ◌<◌, Bool, true, false, List, [], ◌∷◌, ◌++◌, Some, None, refl, subst}
use Rattle.std.specs.Prelude.{codes, if◌then◌else◌, ◌&&◌, ◌||◌, nat_le}
use Rattle.std.specs.Str.{bytes_eq}
use Rattle.sj_lang.specs.Term.{Term}
use Rattle.sj_grammar.specs.declared.tokens.Rule.{Rule}
use Rattle.sj_grammar.specs.declared.tokens.Rule.TheVariants.{P1, P3, P4}
use Rattle.sj_grammar.specs.declared.tokens.Fault.{Fault}
use Rattle.sj_lang.specs.Limits.{limits}
use Rattle.sj_grammar.specs.Lexis.{Ahead, at_end, bad, token, next_of}
use Rattle.sj_grammar.specs.Literals.{is_largest}
use Rattle.sj_grammar.specs.Positions.{At, Takes}
use Rattle.sj_grammar.specs.Layers.{goes, stops, step, may_end, rule_of}
use Rattle.sj_grammar.specs.Faults.{broken, Halts}
use Rattle.sj_grammar.specs.Asked.{Refuses, refused, but, is_next, spelled_next}
use Rattle.sj_grammar.specs.Expressions.{operand_count}
use Rattle.sj_grammar.specs.ExpressionDues.{ExpressionDue, factor, fixed, expression_at, expression_may_be_none, is_operand, expression_layer}
use Rattle.sj_grammar.proofs.StucknessLemmas.{refuses_halts, halts_skip}
use Rattle.sj_grammar.proofs.InsideLemmas.{inside_here, inside_cons, inside_block}
use Rattle.sj_expr.specs.Factors.{but_outer}
use Rattle.sj_expr.specs.Read.{ReadsWhole, AllPass}
use Rattle.sj_expr.proofs.RunLemmas.{not_step, open_step}
use Rattle.sj_expr.proofs.StuckLemmas.{Inside, before}
use Rattle.sj_expr.proofs.TestLemmas.{bytes_same}

-- at the first token of a factor
pub not_inside : (n o k : ℕ) (a m : At) (f : Fault) → k ≡ suc o → o < 32 → Takes a (codes "not") m → Inside n m (factor k ∷ []) f → Inside n a (factor o ∷ []) f
not_inside n o k a m f e h taken st =
    inside_cons expression_layer limits n n a m (codes "not") (factor o ∷ []) (factor (suc o) ∷ []) f taken (not_step limits n o [] h) (subst (λ (j : ℕ). Inside n m (factor j ∷ []) f) e st)

pub parens_inside : (n o k : ℕ) (a m : At) (f : Fault) → k ≡ suc o → o < 32 → Takes a (codes "(") m → Inside n m (expression_at k) f → Inside n a (factor o ∷ []) f
parens_inside n o k a m f e h taken st =
    inside_cons expression_layer limits n n a m (codes "(") (factor o ∷ []) (expression_at (suc o) ++ fixed (codes ")") ∷ []) f taken (open_step limits n o [] h)
    (subst (λ (j : ℕ). Inside n m (expression_at j ++ fixed (codes ")") ∷ []) f) e (before (fixed (codes ")") ∷ []) n m (expression_at k) f st))

close_rule : (n : ℕ) (s : List ℕ) (r : Rule) → (if is_largest s then Some P3 else but (codes ")") s) ≡ Some r → rule_of (step expression_layer limits n (fixed (codes ")") ∷ []) s) ≡ Some r
close_rule n s r e = by_test (bytes_eq s (codes ")")) refl
  where
    by_test : (b : Bool) → bytes_eq s (codes ")") ≡ b → rule_of (step expression_layer limits n (fixed (codes ")") ∷ []) s) ≡ Some r
    by_test true eb =
        let was : (if is_largest s then Some P3 else None) ≡ Some r = rw eb at e in
        let none : None ≡ Some r = subst (λ (t : List ℕ). (if is_largest t then Some P3 else None) ≡ Some r) (bytes_same s (codes ")") eb) was in
        cc
    by_test false eb = by_largest (is_largest s) refl (rw eb at e)
      where
        by_largest : (c : Bool) → is_largest s ≡ c → (if is_largest s then Some P3 else Some P1) ≡ Some r → rule_of (step expression_layer limits n (fixed (codes ")") ∷ []) s) ≡ Some r
        by_largest true ec h = rw (eb, ec) (rw ec at h)
        by_largest false ec h = rw (eb, ec) (rw ec at h)

skip_left : (n : ℕ) (b : At) (left rest : List ExpressionDue) (f : Fault) → may_end expression_layer left ≡ true → AllPass left (next_of b.text.ahead) → Halts expression_layer limits n b rest f → Halts expression_layer limits n b (left ++ rest) f
skip_left n b [] rest f ends p h = h
skip_left n b (d ∷ ds) rest f ends p h = by_none (λ more. skip_left n b ds rest f more p.1 h) (expression_may_be_none d) refl ends
  where
    by_none : (may_end expression_layer ds ≡ true → Halts expression_layer limits n b (ds ++ rest) f) → (x : Bool) → expression_may_be_none d ≡ x → (x && may_end expression_layer ds) ≡ true → Halts expression_layer limits n b (d ∷ (ds ++ rest)) f
    by_none later true e more = halts_skip expression_layer limits n b d (ds ++ rest) f e p.0 (later more)
    by_none later false e more = let none : ⊥ = cc in absurd none

left_full : (left : List ExpressionDue) (p : List ℕ) → may_end expression_layer left ≡ true → may_end expression_layer (left ++ fixed p ∷ []) ≡ false
left_full [] p e = refl
left_full (d ∷ ds) p e = by_none (left_full ds p) (expression_may_be_none d) e
  where
    by_none : (may_end expression_layer ds ≡ true → may_end expression_layer (ds ++ fixed p ∷ []) ≡ false) → (x : Bool) → (x && may_end expression_layer ds) ≡ true → (x && may_end expression_layer (ds ++ fixed p ∷ [])) ≡ false
    by_none later true more = later more
    by_none later false more = refl

-- without the parenthesis that closes
pub close_inside : (n k o j : ℕ) (a m b : At) (t : Term) (f : Fault) → j ≡ suc o → o < 32 → Takes a (codes "(") m → ReadsWhole n j m b t → k ≡ n + operand_count t → Refuses (but (codes ")")) b.text f → Inside n a (factor o ∷ []) f
close_inside n k o j a m b t f e h taken r count refuses =
    let rest = fixed (codes ")") ∷ [] in
    let halts = skip_left k b r.left rest f r.may_end r.passes (refuses_halts expression_layer limits (but (codes ")")) k b rest f refl (close_rule k) refuses) in
    let there = inside_here expression_layer limits k b (r.left ++ rest) f (left_full r.left (codes ")") r.may_end) halts in
    let inner : Inside n m (expression_at j ++ rest) f =
    inside_block expression_layer limits n (n + operand_count t) m b r.reads.pieces (expression_at j ++ rest) (r.left ++ rest) f r.reads.begins (record { steps = r.leads rest }) (subst (λ (i : ℕ). Inside i b (r.left ++ rest) f) count there) in
    inside_cons expression_layer limits n n a m (codes "(") (factor o ∷ []) (expression_at (suc o) ++ rest) f taken (open_step limits n o [] h) (subst (λ (i : ℕ). Inside n m (expression_at i ++ rest) f) e inner)

-- with a token that begins no factor, or one too deep
pub outer_inside : (n o : ℕ) (a : At) (f : Fault) → is_operand (spelled_next (next_of a.text.ahead)) ≡ false → is_next (codes "-") (next_of a.text.ahead) ≡ false → Refuses (but_outer (nat_le 32 o)) a.text f → Inside n a (factor o ∷ []) f
outer_inside n o a f other no_minus r =
    inside_here expression_layer limits n a (factor o ∷ []) f refl (record { rule = r.rule; breaks = by_next (next_of a.text.ahead) other no_minus r.refused; fault = r.fault })
  where
    at_outer : (s : List ℕ) → is_operand s ≡ false → bytes_eq s (codes "-") ≡ false → (x y : Bool) → bytes_eq s (codes "not") ≡ x → bytes_eq s (codes "(") ≡ y
        → (if is_largest s then Some P3 else (if x || y then (if nat_le 32 o then Some P4 else None) else Some P1)) ≡ Some r.rule → rule_of (step expression_layer limits n (factor o ∷ []) s) ≡ Some r.rule
    at_outer s other no_minus true y ex ey e =
        let deep : (if nat_le 32 o then Some P4 else None) ≡ Some r.rule = subst (λ (t : List ℕ). (if is_largest t then Some P3 else (if nat_le 32 o then Some P4 else None)) ≡ Some r.rule) (bytes_same s (codes "not") ex) e in
        rw (other, no_minus, ex) (by_deep (nat_le 32 o) (factor (suc o) ∷ []) deep)
      where
        by_deep : (b : Bool) (es : List ExpressionDue) → (if b then Some P4 else None) ≡ Some r.rule → rule_of (if b then stops P4 else goes n es) ≡ Some r.rule
        by_deep true es h = h
        by_deep false es h = h
    at_outer s other no_minus false true ex ey e =
        let deep : (if nat_le 32 o then Some P4 else None) ≡ Some r.rule = subst (λ (t : List ℕ). (if is_largest t then Some P3 else (if nat_le 32 o then Some P4 else None)) ≡ Some r.rule) (bytes_same s (codes "(") ey) e in
        rw (other, no_minus, ex, ey) (by_deep (nat_le 32 o) (expression_at (suc o) ++ fixed (codes ")") ∷ []) deep)
      where
        by_deep : (b : Bool) (es : List ExpressionDue) → (if b then Some P4 else None) ≡ Some r.rule → rule_of (if b then stops P4 else goes n es) ≡ Some r.rule
        by_deep true es h = h
        by_deep false es h = h
    at_outer s other no_minus false false ex ey e = rw (other, no_minus, ex, ey) (by_largest (is_largest s) e)
      where
        by_largest : (b : Bool) → (if b then Some P3 else Some P1) ≡ Some r.rule → Some (if b then P3 else P1) ≡ Some r.rule
        by_largest true h = h
        by_largest false h = h

    by_next : (x : Ahead) → is_operand (spelled_next x) ≡ false → is_next (codes "-") x ≡ false → refused (but_outer (nat_le 32 o)) x ≡ Some r.rule → broken expression_layer limits n (factor o ∷ []) x ≡ Some r.rule
    by_next at_end other no_minus e = e
    by_next (bad l rest) other no_minus e = e
    by_next (token what s rest) other no_minus e = at_outer s other no_minus (bytes_eq s (codes "not")) (bytes_eq s (codes "(")) refl refl e
