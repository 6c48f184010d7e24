-- One text is read in one way.
use Rattle.std.proofs.Common.{◌≡◌, ℕ, List, [], ◌∷◌, ◌++◌, Some, refl, ap, sym, subst, ◌∙◌, append-nil, ◌⊎◌, inl, inr}
use Rattle.sj_grammar.specs.declared.tokens.Rule.{Rule}
use Rattle.sj_grammar.specs.declared.tokens.Fault.{Fault}
use Rattle.sj_lang.specs.Limits.{Limits}
use Rattle.sj_grammar.specs.Layers.{Layer, Step, goes, stops, onward, rule_of, step, run}
use Rattle.sj_grammar.specs.Faults.{Halts, Stuck}
use Rattle.sj_grammar.proofs.StepLemmas.{run_split}
use Rattle.sj_grammar.specs.Lexis.{at_end, next_of}
use Rattle.sj_grammar.specs.Positions.{Pieces, At, Takes, Begins, past}

-- one of the two readings goes on from the other
abbrev pub GoesOn : Pieces → At → Pieces → At → Type 0
GoesOn ps b qs d = (rest : Pieces) × (qs ≡ ps ++ rest) × Begins b rest d

pub one_token : (a m k : At) (s t : List ℕ) → Takes a s m → Takes a t k → (s ≡ t) × (m ≡ k)
one_token a m k s t h g =
    let equal : s ≡ t = cc (sym h.token ∙ g.token) in
    let rests : h.rest ≡ g.rest = cc (sym h.token ∙ g.token) in
    (equal, h.there ∙ (λ i. past a (equal i) (rests i)) ∙ sym g.there)

pub compared : (ps qs : Pieces) (a b d : At) → Begins a ps b → Begins a qs d → GoesOn ps b qs d ⊎ GoesOn qs d ps b
compared [] qs a b d h g = inl (qs, refl, subst (λ (x : At). Begins x qs d) h g)
compared (p ∷ ps) [] a b d h g = inr (p ∷ ps, refl, subst (λ (x : At). Begins x (p ∷ ps) b) g h)
compared (p ∷ ps) (q ∷ qs) a b d h g =
    let one = one_token a h.0 g.0 p q h.1 g.1 in
    let other : Begins h.0 qs d = subst (λ (x : At). Begins x qs d) (sym one.1) g.2 in
    by_rest one.0 (compared ps qs h.0 b d h.2 other)
  where
    by_rest : p ≡ q → GoesOn ps b qs d ⊎ GoesOn qs d ps b → GoesOn (p ∷ ps) b (q ∷ qs) d ⊎ GoesOn (q ∷ qs) d (p ∷ ps) b
    by_rest e (inl x) = inl (x.0, (λ i. sym e i ∷ x.1 i), x.2)
    by_rest e (inr x) = inr (x.0, (λ i. e i ∷ x.1 i), x.2)

-- no token is read at the end
pub ends_there : (ps : Pieces) (b d : At) → next_of b.text.ahead ≡ at_end → Begins b ps d → (ps ≡ []) × (b ≡ d)
ends_there [] b d e h = (refl, h)
ends_there (p ∷ ps) b d e h = let next = h.1.token in let none : ⊥ = cc in absurd none

-- a text that is read up to its end is read in one way
pub one_reading : (ps qs : Pieces) (a b d : At) → Begins a ps b → Begins a qs d → next_of b.text.ahead ≡ at_end → next_of d.text.ahead ≡ at_end → (ps ≡ qs) × (b ≡ d)
one_reading [] [] a b d h g eb ed = (refl, sym h ∙ g)
one_reading [] (q ∷ qs) a b d h g eb ed = let x = ends_there (q ∷ qs) a d (ap (λ (y : At). next_of y.text.ahead) h ∙ eb) g in (sym x.0, sym h ∙ x.1)
one_reading (p ∷ ps) [] a b d h g eb ed = let x = ends_there (p ∷ ps) a b (ap (λ (y : At). next_of y.text.ahead) g ∙ ed) h in (x.0, sym x.1 ∙ g)
one_reading (p ∷ ps) (q ∷ qs) a b d h g eb ed =
    let one = one_token a h.0 g.0 p q h.1 g.1 in
    let rest = one_reading ps qs h.0 b d h.2 (subst (λ (x : At). Begins x qs d) (sym one.1) g.2) eb ed in
    ((λ i. one.0 i ∷ rest.0 i), rest.1)

-- where no token goes on from what was read, the fault is what comes next
module _ {D : Type 0} (G : Layer D) (L : Limits) where
  no_step : (t : Step D) (f : ℕ → List D → Step D) (m : ℕ) (es : List D) (r : Rule) → rule_of t ≡ Some r → onward t f ≡ goes m es → ⊥
  no_step (goes k gs) f m es r h e = cc
  no_step (stops q) f m es r h e = cc

  pub halts_at_token : (n : ℕ) (a b : At) (ds : List D) (f : Fault) (s : List ℕ) → Halts G L n a ds f → Takes a s b → (r : Rule) × (rule_of (step G L n ds s) ≡ Some r)
  halts_at_token n a b ds f s h t = (h.rule, rw t.token at h.breaks)

  pub halts_there : (n m : ℕ) (a b : At) (ds es : List D) (qs : Pieces) (f : Fault) → Stuck G L n a ds f → Begins a qs b → run G L n ds qs ≡ goes m es
      → ((s : List ℕ) (c : At) → Takes b s c → (r : Rule) × (rule_of (step G L m es s) ≡ Some r)) → Halts G L m b es f
  halts_there n m a b ds es qs f st here runs none = by_order (compared st.pieces qs a st.there b st.front here)
    where
      at_same : (k : ℕ) (gs : List D) → Halts G L k st.there gs f → st.there ≡ b → goes k gs ≡ goes m es → Halts G L m b es f
      at_same k gs h there e =
          let count : k ≡ m = cc in
          let due : gs ≡ es = cc in
          subst (λ (x : At). Halts G L m x es f) there (subst (λ (xs : List D). Halts G L m st.there xs f) due (subst (λ (j : ℕ). Halts G L j st.there gs f) count h))

      shorter : (rest : Pieces) → qs ≡ st.pieces ++ rest → Begins st.there rest b → Halts G L m b es f
      shorter [] e h = at_same st.count st.dues st.halts h (sym st.fits ∙ ap (run G L n ds) (sym (append-nil st.pieces) ∙ sym e) ∙ runs)
      shorter (u ∷ rest) e h =
          let x = run_split G L st.pieces (u ∷ rest) n m ds es (ap (run G L n ds) (sym e) ∙ runs) in
          let same : goes x.0 x.1 ≡ goes st.count st.dues = sym x.2 ∙ st.fits in
          let count : x.0 ≡ st.count = cc in
          let due : x.1 ≡ st.dues = cc in
          let stop = halts_at_token st.count st.there h.0 st.dues f u st.halts h.1 in
          absurd (no_step (step G L st.count st.dues u) (λ j gs. run G L j gs rest) m es stop.0 stop.1 ((λ i. run G L (sym count i) (sym due i) (u ∷ rest)) ∙ x.3))

      longer : (rest : Pieces) → st.pieces ≡ qs ++ rest → Begins b rest st.there → Halts G L m b es f
      longer [] e h = at_same st.count st.dues st.halts (sym h) (sym st.fits ∙ ap (run G L n ds) (e ∙ append-nil qs) ∙ runs)
      longer (u ∷ rest) e h =
          let x = run_split G L qs (u ∷ rest) n st.count ds st.dues (ap (run G L n ds) (sym e) ∙ st.fits) in
          let same : goes x.0 x.1 ≡ goes m es = sym x.2 ∙ runs in
          let count : x.0 ≡ m = cc in
          let due : x.1 ≡ es = cc in
          let stop = none u h.0 h.1 in
          absurd (no_step (step G L m es u) (λ j gs. run G L j gs rest) st.count st.dues stop.0 stop.1 ((λ i. run G L (sym count i) (sym due i) (u ∷ rest)) ∙ x.3))

      by_order : GoesOn st.pieces st.there qs b ⊎ GoesOn qs b st.pieces st.there → Halts G L m b es f
      by_order (inl x) = shorter x.0 x.1 x.2
      by_order (inr x) = longer x.0 x.1 x.2

  -- two readings that no token goes on from are one
  pub one_end : (n m k : ℕ) (a b d : At) (ds es gs : List D) (ps qs : Pieces) → Begins a ps b → run G L n ds ps ≡ goes m es → Begins a qs d → run G L n ds qs ≡ goes k gs
      → ((s : List ℕ) (c : At) → Takes b s c → (r : Rule) × (rule_of (step G L m es s) ≡ Some r)) → ((s : List ℕ) (c : At) → Takes d s c → (r : Rule) × (rule_of (step G L k gs s) ≡ Some r)) → (ps ≡ qs) × (b ≡ d)
  one_end n m k a b d ds es gs ps qs hp rp hq rq np nq = by_order (compared ps qs a b d hp hq)
    where
      on : (xs ys rest : Pieces) (j i : ℕ) (us vs : List D) (x y : At) → run G L n ds xs ≡ goes j us → ys ≡ xs ++ rest → run G L n ds ys ≡ goes i vs → Begins x rest y
          → ((s : List ℕ) (c : At) → Takes x s c → (r : Rule) × (rule_of (step G L j us s) ≡ Some r)) → (xs ≡ ys) × (x ≡ y)
      on xs ys [] j i us vs x y rx e ry h none = (sym (e ∙ append-nil xs), h)
      on xs ys (u ∷ rest) j i us vs x y rx e ry h none =
          let s = run_split G L xs (u ∷ rest) n i ds vs (ap (run G L n ds) (sym e) ∙ ry) in
          let same : goes s.0 s.1 ≡ goes j us = sym s.2 ∙ rx in
          let count : s.0 ≡ j = cc in
          let due : s.1 ≡ us = cc in
          let stop = none u h.0 h.1 in
          absurd (no_step (step G L j us u) (λ l ws. run G L l ws rest) i vs stop.0 stop.1 ((λ t. run G L (sym count t) (sym due t) (u ∷ rest)) ∙ s.3))

      by_order : GoesOn ps b qs d ⊎ GoesOn qs d ps b → (ps ≡ qs) × (b ≡ d)
      by_order (inl x) = on ps qs x.0 m k es gs b d rp x.1 rq x.2 np
      by_order (inr x) = let back = on qs ps x.0 k m gs es d b rq x.1 rp x.2 nq in (sym back.0, sym back.1)

-- the same tokens lead to the same position
pub one_place : (ps : Pieces) (a b d : At) → Begins a ps b → Begins a ps d → b ≡ d
one_place [] a b d h g = sym h ∙ g
one_place (p ∷ ps) a b d h g =
    let one = one_token a h.0 g.0 p p h.1 g.1 in
    one_place ps h.0 b d h.2 (subst (λ (x : At). Begins x ps d) (sym one.1) g.2)
