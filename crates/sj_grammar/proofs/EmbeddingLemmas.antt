-- Dues of one layer as dues of another.
use Rattle.std.proofs.Common.{◌≡◌, ℕ, Bool, true, false, List, [], ◌∷◌, Option, Some, None, refl, ap, sym, ◌∙◌}
use Rattle.std.specs.Prelude.{map, option_map, if◌then◌else◌}
use Rattle.std.proofs.lemmas.List.{map-append}
use Rattle.sj_lang.specs.Limits.{Limits}
use Rattle.sj_grammar.specs.declared.tokens.Fault.{Fault}
use Rattle.sj_grammar.specs.Lexis.{Ahead, at_end, bad, token, next_of}
use Rattle.sj_grammar.specs.Positions.{Pieces, At}
use Rattle.sj_grammar.specs.Faults.{broken, Stuck}
use Rattle.sj_grammar.specs.Layers.{Layer, Step, goes, stops, misfit, instead, onward, rule_of, step, run, may_end}

abbrev pub step_map : {D E : Type 0} → (D → E) → Step D → Step E
step_map f (goes n ds) = goes n (map f ds)
step_map f (stops rule) = stops rule

-- the dues of G do in H what they do in G
pub record IsEmbedded {D E : Type 0} (G : Layer D) (H : Layer E) (f : D → E) : Type 0 where
  pub follows : (d : D) (s : List ℕ) → H.follow (f d) s ≡ option_map (map f) (G.follow d s)
  pub nones : (d : D) → H.may_be_none (f d) ≡ G.may_be_none d
  pub counts : (n : ℕ) (d : D) (s : List ℕ) → H.counted n (f d) s ≡ G.counted n d s
  pub limits : (L : Limits) (n : ℕ) (d : D) (s : List ℕ) → H.passes L n (f d) s ≡ G.passes L n d s

module _ {D E : Type 0} (G : Layer D) (H : Layer E) (f : D → E) (is : IsEmbedded G H f) (L : Limits) where
  pub step_embedded : (n : ℕ) (ds : List D) (s : List ℕ) → step H L n (map f ds) s ≡ step_map f (step G L n ds s)
  step_embedded n [] s = refl
  step_embedded n (d ∷ ds) s =
      rw (is.follows d s, is.nones d, is.counts n d s, is.limits L n d s) (by_follow (step_embedded n ds s) (G.follow d s) (G.passes L n d s) (G.counted n d s) (G.may_be_none d))
    where
      by_follow : step H L n (map f ds) s ≡ step_map f (step G L n ds s) → (x : Option (List D)) (over : Bool) (m : ℕ) (b : Bool)
          → instead (option_map (map f) x) over m (map f ds) (if b then step H L n (map f ds) s else stops (misfit s)) ≡ step_map f (instead x over m ds (if b then step G L n ds s else stops (misfit s)))
      by_follow later (Some es) true m b = refl
      by_follow later (Some es) false m b = ap (goes m) (sym (map-append f es ds))
      by_follow later None over m true = later
      by_follow later None over m false = refl

  pub run_embedded : (ps : Pieces) (n : ℕ) (ds : List D) → run H L n (map f ds) ps ≡ step_map f (run G L n ds ps)
  run_embedded [] n ds = refl
  run_embedded (s ∷ ps) n ds = rw (step_embedded n ds s) (by_step (λ j gs. run_embedded ps j gs) (step G L n ds s))
    where
      by_step : ((j : ℕ) (gs : List D) → run H L j (map f gs) ps ≡ step_map f (run G L j gs ps)) → (t : Step D)
          → onward (step_map f t) (λ j gs. run H L j gs ps) ≡ step_map f (onward t (λ j gs. run G L j gs ps))
      by_step again (goes j gs) = again j gs
      by_step again (stops rule) = refl

pub may_end_embedded : {D E : Type 0} (G : Layer D) (H : Layer E) (f : D → E) → IsEmbedded G H f → (ds : List D) → may_end H (map f ds) ≡ may_end G ds
may_end_embedded G H f is [] = refl
may_end_embedded G H f is (d ∷ ds) = rw (is.nones d, may_end_embedded G H f is ds) refl

-- where a text is stuck in the layer above, it is stuck in its own
module _ {D E : Type 0} (G : Layer D) (H : Layer E) (f : D → E) (is : IsEmbedded G H f) (L : Limits) where
  mapped_goes : (x : Step D) (m : ℕ) (es : List E) → step_map f x ≡ goes m es → (ds : List D) × (x ≡ goes m ds) × (map f ds ≡ es)
  mapped_goes (goes n ds) m es e = let count : n ≡ m = cc in let due : map f ds ≡ es = cc in (ds, ap (λ (k : ℕ). goes k ds) count, due)
  mapped_goes (stops rule) m es e = let none : ⊥ = cc in absurd none

  mapped_rule : (x : Step D) → rule_of (step_map f x) ≡ rule_of x
  mapped_rule (goes n ds) = refl
  mapped_rule (stops rule) = refl

  broken_embedded : (n : ℕ) (ds : List D) (x : Ahead) → broken H L n (map f ds) x ≡ broken G L n ds x
  broken_embedded n ds at_end = rw (may_end_embedded G H f is ds) refl
  broken_embedded n ds (bad rule rest) = refl
  broken_embedded n ds (token what s rest) = rw (step_embedded G H f is L n ds s) (mapped_rule (step G L n ds s))

  pub stuck_embedded : (n : ℕ) (a : At) (ds : List D) (g : Fault) → Stuck H L n a (map f ds) g → Stuck G L n a ds g
  stuck_embedded n a ds g st =
      let x = mapped_goes (run G L n ds st.pieces) st.count st.dues (sym (run_embedded G H f is L st.pieces n ds) ∙ st.fits) in
      record {
        pieces = st.pieces;
        there = st.there;
        count = st.count;
        dues = x.0;
        front = st.front;
        fits = x.1;
        halts = record {
          rule = st.halts.rule;
          breaks = sym (broken_embedded st.count x.0 (next_of st.there.text.ahead)) ∙ ap (λ (es : List E). broken H L st.count es (next_of st.there.text.ahead)) x.2 ∙ st.halts.breaks;
          fault = st.halts.fault;
        };
      }
