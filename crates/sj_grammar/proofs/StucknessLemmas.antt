-- Where a text is stuck, from where it is stuck further on.
use Rattle.std.proofs.Common.{◌≡◌, ℕ, true, false, List, [], ◌∷◌, ◌++◌, Option, Some, None, refl, ap, sym, subst, ◌∙◌}
use Rattle.std.specs.Prelude.{if◌then◌else◌}
use Rattle.sj_grammar.specs.declared.tokens.Rule.{Rule}
use Rattle.sj_grammar.specs.declared.tokens.Rule.TheVariants.{P3}
use Rattle.sj_grammar.specs.declared.tokens.Fault.{Fault}
use Rattle.sj_grammar.specs.declared.tokens.What.{What}
use Rattle.sj_lang.specs.Limits.{Limits}
use Rattle.sj_grammar.specs.Lexis.{Ahead, at_end, bad, token, next_of}
use Rattle.sj_grammar.specs.Literals.{is_largest}
use Rattle.sj_grammar.specs.Positions.{Pieces, At, Takes, Begins, past}
use Rattle.sj_grammar.specs.Layers.{Layer, Step, goes, stops, onward, rule_of, step, run, may_end}
use Rattle.sj_grammar.specs.Faults.{broken, Halts, Stuck}
use Rattle.sj_grammar.specs.Asked.{Refuses, refused, Passes}
use Rattle.sj_grammar.proofs.StepLemmas.{Runs, Runs-append}

pub Begins-append : (a b : Pieces) (t m r : At) → Begins t a m → Begins m b r → Begins t (a ++ b) r
Begins-append [] b t m r h k = subst (λ (x : At). Begins x b r) (sym h) k
Begins-append (p ∷ a) b t m r h k = (h.0, h.1, Begins-append a b h.0 m r h.2 k)

module _ {D : Type 0} (G : Layer D) (L : Limits) where
  pub halts_stuck : (n : ℕ) (a : At) (ds : List D) (f : Fault) → Halts G L n a ds f → Stuck G L n a ds f
  halts_stuck n a ds f h = record { pieces = []; there = a; count = n; dues = ds; front = refl; fits = refl; halts = h }

  refused_breaks : (p : List ℕ → Option Rule) (n : ℕ) (ds : List D) (rule : Rule) (x : Ahead) → may_end G ds ≡ false
      → ((s : List ℕ) (r : Rule) → (if is_largest s then Some P3 else p s) ≡ Some r → rule_of (step G L n ds s) ≡ Some r) → refused p x ≡ Some rule → broken G L n ds x ≡ Some rule
  refused_breaks p n ds rule at_end full h e = rw full e
  refused_breaks p n ds rule (bad r rest) full h e = e
  refused_breaks p n ds rule (token what s rest) full h e = h s rule e

  -- what a reader refuses is what is due refuses
  pub refuses_halts : (p : List ℕ → Option Rule) (n : ℕ) (a : At) (ds : List D) (f : Fault) → may_end G ds ≡ false
      → ((s : List ℕ) (r : Rule) → (if is_largest s then Some P3 else p s) ≡ Some r → rule_of (step G L n ds s) ≡ Some r) → Refuses p a.text f → Halts G L n a ds f
  refuses_halts p n a ds f full h r = record {
    rule = r.rule;
    breaks = refused_breaks p n ds r.rule (next_of a.text.ahead) full h r.refused;
    fault = r.fault;
  }

  pub refuses_stuck : (p : List ℕ → Option Rule) (n : ℕ) (a : At) (ds : List D) (f : Fault) → may_end G ds ≡ false
      → ((s : List ℕ) (r : Rule) → (if is_largest s then Some P3 else p s) ≡ Some r → rule_of (step G L n ds s) ≡ Some r) → Refuses p a.text f → Stuck G L n a ds f
  refuses_stuck p n a ds f full h r = halts_stuck n a ds f (refuses_halts p n a ds f full h r)

  -- after a token
  pub stuck_cons : (n k : ℕ) (a m : At) (s : List ℕ) (ds es : List D) (f : Fault) → Takes a s m → step G L n ds s ≡ goes k es → Stuck G L k m es f → Stuck G L n a ds f
  stuck_cons n k a m s ds es f t e st = record {
    pieces = s ∷ st.pieces;
    there = st.there;
    count = st.count;
    dues = st.dues;
    front = (m, t, st.front);
    fits = ap (λ (x : Step D). onward x (λ j gs. run G L j gs st.pieces)) e ∙ st.fits;
    halts = st.halts;
  }

  -- after several
  pub stuck_block : (n k : ℕ) (a m : At) (ps : Pieces) (ds es : List D) (f : Fault) → Begins a ps m → Runs G L n ds ps k es → Stuck G L k m es f → Stuck G L n a ds f
  stuck_block n k a m ps ds es f b r st = record {
    pieces = ps ++ st.pieces;
    there = st.there;
    count = st.count;
    dues = st.dues;
    front = Begins-append ps st.pieces a m st.there b st.front;
    fits = (Runs-append G L ps st.pieces n k st.count ds es st.dues r (record { steps = st.fits })).steps;
    halts = st.halts;
  }

  -- other dues that take the next token alike
  pub stuck_by : (n m : ℕ) (a : At) (ds es : List D) (f : Fault) → broken G L m es (next_of a.text.ahead) ≡ broken G L n ds (next_of a.text.ahead)
      → ((what : What) (s rest : List ℕ) → next_of a.text.ahead ≡ token what s rest → step G L m es s ≡ step G L n ds s) → Stuck G L n a ds f → Stuck G L m a es f
  stuck_by n m a ds es f here h st = by_pieces st.pieces st.there st.count st.dues st.front st.fits st.halts
    where
      by_pieces : (ps : Pieces) (b : At) (k : ℕ) (due : List D) → Begins a ps b → run G L n ds ps ≡ goes k due → Halts G L k b due f → Stuck G L m a es f
      by_pieces [] b k due front fits halts =
          let counted : n ≡ k = cc in
          let same : ds ≡ due = cc in
          let was : Halts G L n a ds f = subst (λ (x : At). Halts G L n x ds f) (sym front) (subst (λ (gs : List D). Halts G L n b gs f) (sym same) (subst (λ (j : ℕ). Halts G L j b due f) (sym counted) halts)) in
          halts_stuck m a es f (record { rule = was.rule; breaks = here ∙ was.breaks; fault = was.fault })
      by_pieces (s ∷ ps) b k due front fits halts = record {
        pieces = s ∷ ps;
        there = b;
        count = k;
        dues = due;
        front = front;
        fits = ap (λ (x : Step D). onward x (λ j gs. run G L j gs ps)) (h front.1.what s front.1.rest front.1.token) ∙ fits;
        halts = halts;
      }

  broken_like : (n m : ℕ) (ds es : List D) (x : Ahead) → may_end G es ≡ may_end G ds → ((what : What) (s rest : List ℕ) → x ≡ token what s rest → step G L m es s ≡ step G L n ds s) → broken G L m es x ≡ broken G L n ds x
  broken_like n m ds es at_end ends h = rw ends refl
  broken_like n m ds es (bad rule rest) ends h = refl
  broken_like n m ds es (token what s rest) ends h = ap rule_of (h what s rest refl)

  pub stuck_like : (n m : ℕ) (a : At) (ds es : List D) (f : Fault) → may_end G es ≡ may_end G ds → ((what : What) (s rest : List ℕ) → next_of a.text.ahead ≡ token what s rest → step G L m es s ≡ step G L n ds s)
      → Stuck G L n a ds f → Stuck G L m a es f
  stuck_like n m a ds es f ends h st = stuck_by n m a ds es f (broken_like n m ds es (next_of a.text.ahead) ends h) h st

  passed_token : (d : D) (x : Ahead) (what : What) (s rest : List ℕ) → Passes G d x → x ≡ token what s rest → G.follow d s ≡ None
  passed_token d at_end what s rest p e = cc
  passed_token d (bad r t) what s rest p e = cc
  passed_token d (token w t u) what s rest p e = let same : t ≡ s = cc in subst (λ (v : List ℕ). G.follow d v ≡ None) same p

  pub halts_skip : (n : ℕ) (a : At) (d : D) (ds : List D) (f : Fault) → G.may_be_none d ≡ true → Passes G d (next_of a.text.ahead) → Halts G L n a ds f → Halts G L n a (d ∷ ds) f
  halts_skip n a d ds f none p h = record {
    rule = h.rule;
    breaks = broken_like n n ds (d ∷ ds) (next_of a.text.ahead) (rw none refl) (λ what s rest e. rw (passed_token d (next_of a.text.ahead) what s rest p e, none) refl) ∙ h.breaks;
    fault = h.fault;
  }

  -- nothing stands for a due that may be none
  pub skip : (n : ℕ) (a : At) (d : D) (ds : List D) (f : Fault) → G.may_be_none d ≡ true → Passes G d (next_of a.text.ahead) → Stuck G L n a ds f → Stuck G L n a (d ∷ ds) f
  skip n a d ds f none p st = stuck_like n n a ds (d ∷ ds) f (rw none refl) (λ what s rest e. rw (passed_token d (next_of a.text.ahead) what s rest p e, none) refl) st

  no_fault_at_end : (n : ℕ) (ds : List D) (r : Rule) → may_end G ds ≡ true → broken G L n ds at_end ≡ Some r → ⊥
  no_fault_at_end n ds r e h = let none : None ≡ Some r = rw e at h in cc

  no_both : (x : Step D) (g : ℕ → List D → Step D) (m : ℕ) (es : List D) (r : Rule) → onward x g ≡ goes m es → rule_of x ≡ Some r → ⊥
  no_both (goes j gs) g m es r h e = cc
  no_both (stops q) g m es r h e = cc

  -- a text that is what is due has no fault
  pub clash : (ps qs : Pieces) (n k m : ℕ) (a there b : At) (ds due es : List D) (f : Fault) → Begins a ps there → run G L n ds ps ≡ goes k due → Halts G L k there due f
      → Begins a qs b → run G L n ds qs ≡ goes m es → may_end G es ≡ true → next_of b.text.ahead ≡ at_end → ⊥
  clash [] [] n k m a there b ds due es f fp rp halts fq rq ends whole =
      let same : es ≡ due = cc in
      let place : there ≡ b = sym fp ∙ fq in
      let none : next_of there.text.ahead ≡ at_end = ap (λ (x : At). next_of x.text.ahead) place ∙ whole in
      no_fault_at_end k due halts.rule (ap (may_end G) (sym same) ∙ ends) (rw none at halts.breaks)
  clash [] (s ∷ qs) n k m a there b ds due es f fp rp halts fq rq ends whole =
      let same : ds ≡ due = cc in
      let counted : n ≡ k = cc in
      let next : next_of there.text.ahead ≡ token fq.1.what s fq.1.rest = ap (λ (x : At). next_of x.text.ahead) (sym fp) ∙ fq.1.token in
      let stop : rule_of (step G L k due s) ≡ Some halts.rule = rw next at halts.breaks in
      no_both (step G L n ds s) (λ j gs. run G L j gs qs) m es halts.rule rq ((λ i. rule_of (step G L (counted i) (same i) s)) ∙ stop)
  clash (s ∷ ps) [] n k m a there b ds due es f fp rp halts fq rq ends whole =
      let end : next_of a.text.ahead ≡ at_end = ap (λ (x : At). next_of x.text.ahead) fq ∙ whole in
      let next = fp.1.token in
      cc
  clash (s ∷ ps) (u ∷ qs) n k m a there b ds due es f fp rp halts fq rq ends whole =
      let equal : s ≡ u = cc (sym fp.1.token ∙ fq.1.token) in
      let rests : fp.1.rest ≡ fq.1.rest = cc (sym fp.1.token ∙ fq.1.token) in
      let places : fq.0 ≡ fp.0 = fq.1.there ∙ sym (λ i. past a (equal i) (rests i)) ∙ sym fp.1.there in
      let fq2 : Begins fp.0 qs b = subst (λ (x : At). Begins x qs b) places fq.2 in
      let rq2 : onward (step G L n ds s) (λ j gs. run G L j gs qs) ≡ goes m es = (λ i. onward (step G L n ds (equal i)) (λ j gs. run G L j gs qs)) ∙ rq in
      by_step (λ j gs x y. clash ps qs j k m fp.0 there b gs due es f fp.2 x halts fq2 y ends whole) (step G L n ds s) rp rq2
    where
      by_step : ((j : ℕ) (gs : List D) → run G L j gs ps ≡ goes k due → run G L j gs qs ≡ goes m es → ⊥) → (x : Step D)
          → onward x (λ j gs. run G L j gs ps) ≡ goes k due → onward x (λ j gs. run G L j gs qs) ≡ goes m es → ⊥
      by_step again (goes j gs) h k = again j gs h k
      by_step again (stops r) h k = cc
