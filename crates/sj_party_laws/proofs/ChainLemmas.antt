-- Dues one after another, with what is counted before and after each.
use Rattle.std.proofs.Common.{◌≡◌, ℕ, Bool, true, false, List, [], ◌∷◌, ◌++◌, Option, Some, None, refl, ap, sym, subst, ◌∙◌, append_assoc}
use Rattle.std.specs.Prelude.{if◌then◌else◌, ◌&&◌, map}
use Rattle.sj_lang.specs.Limits.{Limits}
use Rattle.sj_grammar.specs.Layers.{Layer, goes, stops, instead, misfit, step, run, may_end}
use Rattle.sj_grammar.specs.Positions.{Pieces, Piece, spellings}
use Rattle.sj_grammar.proofs.StepLemmas.{onward_goes}
use Rattle.sj_grammar.proofs.SpellingLemmas.{AllHeld}
use Rattle.sj_proto.proofs.LineLemmas.{spellings-append}

-- with so much counted before, the tokens are what is due, one due after another;
-- and then so much is counted
pub data Chain {D T : Type 0} (Spelled : ℕ → D → List T → ℕ → Type 0) : ℕ → List D → List T → ℕ → Type 0 where
  nothing : {n : ℕ} → Chain Spelled n [] [] n
  first : {n k m : ℕ} {d : D} {ds : List D} {a b : List T} → Spelled n d a k → Chain Spelled k ds b m → Chain Spelled n (d ∷ ds) (a ++ b) m

module _ {D T : Type 0} (Spelled : ℕ → D → List T → ℕ → Type 0) where
  -- such a chain
  abbrev pub Chained : ℕ → List D → List T → ℕ → Type 0
  Chained n ds ts m = Chain Spelled n ds ts m

  -- in two parts
  pub record InTwo (n : ℕ) (es ds : List D) (ts : List T) (m : ℕ) : Type 0 where
    pub between : ℕ
    pub front : List T
    pub back : List T
    pub before : Chained n es front between
    pub behind : Chained between ds back m
    pub same : ts ≡ front ++ back

  pub in_two : (es ds : List D) (n m : ℕ) (ts : List T) → Chained n (es ++ ds) ts m → InTwo n es ds ts m
  in_two [] ds n m ts h = record { between = n; front = []; back = ts; before = nothing; behind = h; same = refl }
  in_two (e ∷ es) ds n m _ (first {k} {a} {b} x h) =
      let r = in_two es ds k m b h in
      record { between = r.between; front = a ++ r.front; back = r.back; before = first x r.before; behind = r.behind; same = ap (λ t. a ++ t) r.same ∙ sym (append_assoc a r.front r.back) }

-- tokens that are taken, and what the dues after them are, are what was due before
module _ {D : Type 0} (G : Layer D) (L : Limits) (Spelled : ℕ → D → List Piece → ℕ → Type 0) (Held : List ℕ → Type 0)
    (taken : (n m : ℕ) (d : D) (es : List D) (p : Piece) (ts : List Piece) → Held p.spelled → G.follow d p.spelled ≡ Some es → G.passes L n d p.spelled ≡ false → Chained Spelled (G.counted n d p.spelled) es ts m → Spelled n d (p ∷ ts) m)
    (none : (n : ℕ) (d : D) → G.may_be_none d ≡ true → Spelled n d [] n) where
  -- one token
  one_back : (n k m : ℕ) (ds es : List D) (p : Piece) (ts : List Piece) → Held p.spelled → step G L n ds p.spelled ≡ goes k es → Chained Spelled k es ts m → Chained Spelled n ds (p ∷ ts) m
  one_back n k m [] es p ts held e h = let no : ⊥ = cc in absurd no
  one_back n k m (d ∷ ds) es p ts held e h = by_follow (G.follow d p.spelled) (G.passes L n d p.spelled) (G.may_be_none d) refl refl refl (λ x. one_back n k m ds es p ts held x h) e
    where
      by_follow : (x : Option (List D)) (over b : Bool) → G.follow d p.spelled ≡ x → G.passes L n d p.spelled ≡ over → G.may_be_none d ≡ b → (step G L n ds p.spelled ≡ goes k es → Chained Spelled n ds (p ∷ ts) m)
          → instead x over (G.counted n d p.spelled) ds (if b then step G L n ds p.spelled else stops (misfit p.spelled)) ≡ goes k es → Chained Spelled n (d ∷ ds) (p ∷ ts) m
      by_follow (Some gs) false b ef eo eb later f =
          let count : k ≡ G.counted n d p.spelled = cc in
          let due : es ≡ gs ++ ds = cc in
          let parts = in_two Spelled gs ds (G.counted n d p.spelled) m ts (subst (λ (j : ℕ). Chained Spelled j (gs ++ ds) ts m) count (subst (λ (fs : List D). Chained Spelled k fs ts m) due h)) in
          subst (λ (x : List Piece). Chained Spelled n (d ∷ ds) (p ∷ x) m) (sym parts.same) (first (taken n parts.between d gs p parts.front held ef eo parts.before) parts.behind)
      by_follow (Some gs) true b ef eo eb later f = let no : ⊥ = cc in absurd no
      by_follow None over true ef eo eb later f = first (none n d eb) (later f)
      by_follow None over false ef eo eb later f = let no : ⊥ = cc in absurd no

  -- several
  pub run_back : (ps : List Piece) (n k m : ℕ) (ds es : List D) (ts : List Piece) → AllHeld Held (spellings ps) → run G L n ds (spellings ps) ≡ goes k es → Chained Spelled k es ts m → Chained Spelled n ds (ps ++ ts) m
  run_back [] n k m ds es ts held e h =
      let count : k ≡ n = cc in
      let due : es ≡ ds = cc in
      subst (λ (j : ℕ). Chained Spelled j ds ts m) count (subst (λ (fs : List D). Chained Spelled k fs ts m) due h)
  run_back (p ∷ ps) n k m ds es ts held e h =
      let x = onward_goes G L (step G L n ds p.spelled) (λ j gs. run G L j gs (spellings ps)) k es e in
      one_back n x.0 m ds x.1 p (ps ++ ts) held.0 x.2 (run_back ps x.0 k m x.1 es ts held.1 x.3 h)

  -- dues of which none need be stand for nothing
  pub ends_back : (ds : List D) (n : ℕ) → may_end G ds ≡ true → Chained Spelled n ds [] n
  ends_back [] n e = nothing
  ends_back (d ∷ ds) n e = by_test (G.may_be_none d) refl (ends_back ds n) e
    where
      by_test : (b : Bool) → G.may_be_none d ≡ b → (may_end G ds ≡ true → Chained Spelled n ds [] n) → (b && may_end G ds) ≡ true → Chained Spelled n (d ∷ ds) [] n
      by_test true eb later h = first (none n d eb) (later h)
      by_test false eb later h = let no : ⊥ = cc in absurd no

-- dues that stand for those of a layer below
module _ {D E : Type 0} (P : ℕ → D → Pieces → ℕ → Type 0) (Q : ℕ → E → List Piece → ℕ → Type 0) (up : D → E) (alike : (n m : ℕ) (d : D) (a : List Piece) → Q n (up d) a m → P n d (spellings a) m) where
  pub chained_below : (ds : List D) (n m : ℕ) (ts : List Piece) → Chained Q n (map up ds) ts m → Chained P n ds (spellings ts) m
  chained_below [] n m _ nothing = nothing
  chained_below (d ∷ ds) n m _ (first {k} {a} {b} x h) =
      subst (λ (t : Pieces). Chained P n (d ∷ ds) t m) (sym (spellings-append a b)) (first (alike n k d a x) (chained_below ds k m b h))
