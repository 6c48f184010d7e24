-- Where a text is stuck inside what is due.
use Rattle.std.proofs.Common.{◌≡◌, ℕ, false, List, [], ◌∷◌, ◌++◌, refl, ap, ◌∙◌}
use Rattle.sj_grammar.specs.declared.tokens.Fault.{Fault}
use Rattle.sj_lang.specs.Limits.{Limits}
use Rattle.sj_grammar.specs.Positions.{Pieces, At, Takes, Begins}
use Rattle.sj_grammar.specs.Layers.{Layer, Step, goes, onward, step, run, may_end}
use Rattle.sj_grammar.specs.Faults.{Halts}
use Rattle.sj_grammar.specs.Refusals.{StuckInside}
use Rattle.sj_grammar.proofs.StepLemmas.{Runs, Runs-append}
use Rattle.sj_grammar.proofs.StucknessLemmas.{Begins-append}

module _ {D : Type 0} (G : Layer D) (L : Limits) where
  pub inside_here : (n : ℕ) (a : At) (ds : List D) (f : Fault) → may_end G ds ≡ false → Halts G L n a ds f → StuckInside G L n a ds f
  inside_here n a ds f full h = record { stuck = record { pieces = []; there = a; count = n; dues = ds; front = refl; fits = refl; halts = h }; inside = full }

  -- after a token
  pub inside_cons : (n k : ℕ) (a m : At) (s : List ℕ) (ds es : List D) (f : Fault) → Takes a s m → step G L n ds s ≡ goes k es → StuckInside G L k m es f → StuckInside G L n a ds f
  inside_cons n k a m s ds es f t e is = let st = is.stuck in record {
    stuck = record {
      pieces = s ∷ st.pieces;
      there = st.there;
      count = st.count;
      dues = st.dues;
      front = (m, t, st.front);
      fits = ap (λ (x : Step D). onward x (λ j gs. run G L j gs st.pieces)) e ∙ st.fits;
      halts = st.halts;
    };
    inside = is.inside;
  }

  -- after several
  pub inside_block : (n k : ℕ) (a m : At) (ps : Pieces) (ds es : List D) (f : Fault) → Begins a ps m → Runs G L n ds ps k es → StuckInside G L k m es f → StuckInside G L n a ds f
  inside_block n k a m ps ds es f b r is = let st = is.stuck in record {
    stuck = record {
      pieces = ps ++ st.pieces;
      there = st.there;
      count = st.count;
      dues = st.dues;
      front = Begins-append ps st.pieces a m st.there b st.front;
      fits = (Runs-append G L ps st.pieces n k st.count ds es st.dues r (record { steps = st.fits })).steps;
      halts = st.halts;
    };
    inside = is.inside;
  }
