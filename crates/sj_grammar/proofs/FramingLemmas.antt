-- Dues of one layer, with others after them, as dues of another.
use Rattle.std.proofs.Common.{◌≡◌, ℕ, Bool, true, false, List, [], ◌∷◌, ◌++◌, Option, Some, None, refl, ap, sym, subst, ◌∙◌, append_assoc}
use Rattle.std.specs.Prelude.{map, option_map, if◌then◌else◌, ◌&&◌}
use Rattle.sj_grammar.specs.declared.tokens.Rule.{Rule}
use Rattle.sj_grammar.specs.declared.tokens.Fault.{Fault}
use Rattle.sj_lang.specs.Limits.{Limits}
use Rattle.sj_grammar.specs.Lexis.{Ahead, at_end, bad, token, next_of}
use Rattle.sj_grammar.specs.Positions.{Pieces, At}
use Rattle.sj_grammar.specs.Layers.{Layer, Step, goes, stops, misfit, instead, onward, step, run, may_end, rule_of}
use Rattle.sj_grammar.specs.Faults.{broken, Stuck}
use Rattle.sj_grammar.specs.Refusals.{StuckInside}
use Rattle.sj_grammar.proofs.StepLemmas.{onward_goes, or_else, due_behind}
use Rattle.sj_grammar.proofs.EmbeddingLemmas.{IsEmbedded}
use Rattle.std.proofs.lemmas.List.{map-append, map-id}

module _ {D E : Type 0} (G : Layer D) (H : Layer E) (f : D → E) (is : IsEmbedded G H f) (L : Limits) (rest : List E) where
  abbrev pub framed : List D → List E
  framed ds = map f ds ++ rest

  framed-append : (es ds : List D) → map f es ++ framed ds ≡ framed (es ++ ds)
  framed-append es ds = sym (append_assoc (map f es) (map f ds) rest) ∙ ap (λ x. x ++ rest) (sym (map-append f es ds))

  -- a token that the dues take
  pub step_framed : (n m : ℕ) (ds es : List D) (s : List ℕ) → step G L n ds s ≡ goes m es → step H L n (framed ds) s ≡ goes m (framed es)
  step_framed n m [] es s e = let none : ⊥ = cc in absurd none
  step_framed n m (d ∷ ds) es s e =
      rw (is.follows d s, is.nones d, is.counts n d s, is.limits L n d s) (by_follow (step_framed n m ds es s) (G.follow d s) (G.passes L n d s) (G.counted n d s) (G.may_be_none d) e)
    where
      by_follow : (step G L n ds s ≡ goes m es → step H L n (framed ds) s ≡ goes m (framed es)) → (x : Option (List D)) (over : Bool) (k : ℕ) (b : Bool)
          → instead x over k ds (if b then step G L n ds s else stops (misfit s)) ≡ goes m es
          → instead (option_map (map f) x) over k (framed ds) (if b then step H L n (framed ds) s else stops (misfit s)) ≡ goes m (framed es)
      by_follow later (Some gs) true k b h = let none : ⊥ = cc in absurd none
      by_follow later (Some gs) false k b h =
          let counted : k ≡ m = cc in
          let same : gs ++ ds ≡ es = cc in
          ap (goes k) (framed-append gs ds) ∙ (λ i. goes (counted i) (framed (same i)))
      by_follow later None over k true h = later h
      by_follow later None over k false h = let none : ⊥ = cc in absurd none

  pub run_framed : (ps : Pieces) (n m : ℕ) (ds es : List D) → run G L n ds ps ≡ goes m es → run H L n (framed ds) ps ≡ goes m (framed es)
  run_framed [] n m ds es e = let counted : n ≡ m = cc in let same : ds ≡ es = cc in λ i. goes (counted i) (framed (same i))
  run_framed (s ∷ ps) n m ds es e =
      let x = onward_goes G L (step G L n ds s) (λ j gs. run G L j gs ps) m es e in
      ap (λ (t : Step E). onward t (λ j gs. run H L j gs ps)) (step_framed n x.0 ds x.1 s x.2) ∙ run_framed ps x.0 m x.1 es x.3

  -- a token that they don't take, where they may not be none
  pub stop_framed : (n : ℕ) (ds : List D) (s : List ℕ) (r : Rule) → may_end G ds ≡ false → step G L n ds s ≡ stops r → step H L n (framed ds) s ≡ stops r
  stop_framed n [] s r full e = let none : ⊥ = cc in absurd none
  stop_framed n (d ∷ ds) s r full e =
      rw (is.follows d s, is.nones d, is.counts n d s, is.limits L n d s) (by_follow (stop_framed n ds s r) (G.follow d s) (G.passes L n d s) (G.counted n d s) (G.may_be_none d) full e)
    where
      by_follow : (may_end G ds ≡ false → step G L n ds s ≡ stops r → step H L n (framed ds) s ≡ stops r) → (x : Option (List D)) (over : Bool) (k : ℕ) (b : Bool) → (b && may_end G ds) ≡ false
          → instead x over k ds (if b then step G L n ds s else stops (misfit s)) ≡ stops r
          → instead (option_map (map f) x) over k (framed ds) (if b then step H L n (framed ds) s else stops (misfit s)) ≡ stops r
      by_follow later (Some gs) true k b full h = cc
      by_follow later (Some gs) false k b full h = let none : ⊥ = cc in absurd none
      by_follow later None over k true full h = later full h
      by_follow later None over k false full h = cc

  end_framed : (ds : List D) → may_end G ds ≡ false → may_end H (framed ds) ≡ false
  end_framed [] full = let none : ⊥ = cc in absurd none
  end_framed (d ∷ ds) full = rw (is.nones d) (by_none (end_framed ds) (G.may_be_none d) full)
    where
      by_none : (may_end G ds ≡ false → may_end H (framed ds) ≡ false) → (b : Bool) → (b && may_end G ds) ≡ false → (b && may_end H (framed ds)) ≡ false
      by_none later true full = later full
      by_none later false full = refl

  broken_framed : (n : ℕ) (ds : List D) (x : Ahead) (r : Rule) → may_end G ds ≡ false → broken G L n ds x ≡ Some r → broken H L n (framed ds) x ≡ Some r
  broken_framed n ds at_end r full e = rw (end_framed ds full) (rw full at e)
  broken_framed n ds (bad lexical t) r full e = e
  broken_framed n ds (token what s t) r full e = by_step (step G L n ds s) refl e
    where
      by_step : (t : Step D) → step G L n ds s ≡ t → rule_of t ≡ Some r → rule_of (step H L n (framed ds) s) ≡ Some r
      by_step (goes m es) h k = let none : ⊥ = cc in absurd none
      by_step (stops q) h k = ap rule_of (stop_framed n ds s q full h) ∙ k

  -- a text that is stuck inside is stuck whatever is due later
  pub inside_framed : (n : ℕ) (a : At) (ds : List D) (flt : Fault) → StuckInside G L n a ds flt → StuckInside H L n a (framed ds) flt
  inside_framed n a ds flt st = let s = st.stuck in record {
    stuck = record {
      pieces = s.pieces;
      there = s.there;
      count = s.count;
      dues = framed s.dues;
      front = s.front;
      fits = run_framed s.pieces n s.count ds s.dues s.fits;
      halts = record {
        rule = s.halts.rule;
        breaks = broken_framed s.count s.dues (next_of s.there.text.ahead) s.halts.rule st.inside s.halts.breaks;
        fault = s.halts.fault;
      };
    };
    inside = end_framed s.dues st.inside;
  }

  pub stuck_framed : (n : ℕ) (a : At) (ds : List D) (flt : Fault) → StuckInside G L n a ds flt → Stuck H L n a (framed ds) flt
  stuck_framed n a ds flt st = (inside_framed n a ds flt st).stuck

  -- dues that may be none, and don't take the token, leave it to those after them
  pub skip_framed : (n : ℕ) (ds : List D) (s : List ℕ) → may_end G ds ≡ true → due_behind G ds s ≡ None → step H L n (framed ds) s ≡ step H L n rest s
  skip_framed n [] s ends e = refl
  skip_framed n (d ∷ ds) s ends e = rw (is.follows d s, is.nones d) (by_follow (skip_framed n ds s) (G.follow d s) (G.may_be_none d) ends e)
    where
      by_follow : (may_end G ds ≡ true → due_behind G ds s ≡ None → step H L n (framed ds) s ≡ step H L n rest s) → (x : Option (List D)) (b : Bool) → (b && may_end G ds) ≡ true
          → or_else G x ds (if b then due_behind G ds s else None) ≡ None
          → instead (option_map (map f) x) (H.passes L n (f d) s) (H.counted n (f d) s) (framed ds) (if b then step H L n (framed ds) s else stops (misfit s)) ≡ step H L n rest s
      by_follow later (Some gs) b ends h = let none : ⊥ = cc in absurd none
      by_follow later None true ends h = later ends h
      by_follow later None false ends h = let none : ⊥ = cc in absurd none

  pub ends_framed : (ds : List D) → may_end G ds ≡ true → may_end H (framed ds) ≡ may_end H rest
  ends_framed [] ends = refl
  ends_framed (d ∷ ds) ends = rw (is.nones d) (by_none (ends_framed ds) (G.may_be_none d) ends)
    where
      by_none : (may_end G ds ≡ true → may_end H (framed ds) ≡ may_end H rest) → (b : Bool) → (b && may_end G ds) ≡ true → (b && may_end H (framed ds)) ≡ may_end H rest
      by_none later true ends = later ends
      by_none later false ends = let none : ⊥ = cc in absurd none

-- dues of one layer, and others of it after them
module _ {D : Type 0} (G : Layer D) (L : Limits) where
  itself : IsEmbedded G G (λ d. d)
  itself = record {
    follows = λ d s. sym (option_map-id (G.follow d s));
    nones = λ d. refl;
    counts = λ n d s. refl;
    limits = λ M n d s. refl;
  }
    where
      option_map-id : (x : Option (List D)) → option_map (map (λ d. d)) x ≡ x
      option_map-id None = refl
      option_map-id (Some ds) = ap Some (map-id ds)

  pub inside_before : (rest : List D) (n : ℕ) (a : At) (ds : List D) (flt : Fault) → StuckInside G L n a ds flt → StuckInside G L n a (ds ++ rest) flt
  inside_before rest n a ds flt st = subst (λ (es : List D). StuckInside G L n a (es ++ rest) flt) (map-id ds) (inside_framed G G (λ d. d) itself L rest n a ds flt st)

  -- a token that the dues take, and several, whatever is due later
  pub step_before : (n m : ℕ) (ds es rest : List D) (s : List ℕ) → step G L n ds s ≡ goes m es → step G L n (ds ++ rest) s ≡ goes m (es ++ rest)
  step_before n m ds es rest s e =
      ap (λ (xs : List D). step G L n (xs ++ rest) s) (sym (map-id ds)) ∙ step_framed G G (λ d. d) itself L rest n m ds es s e
      ∙ ap (λ (ys : List D). goes m (ys ++ rest)) (map-id es)

  pub run_before : (ps : Pieces) (n m : ℕ) (ds es rest : List D) → run G L n ds ps ≡ goes m es → run G L n (ds ++ rest) ps ≡ goes m (es ++ rest)
  run_before ps n m ds es rest e =
      ap (λ (xs : List D). run G L n (xs ++ rest) ps) (sym (map-id ds)) ∙ run_framed G G (λ d. d) itself L rest ps n m ds es e
      ∙ ap (λ (ys : List D). goes m (ys ++ rest)) (map-id es)
