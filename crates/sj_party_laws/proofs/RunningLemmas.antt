-- Some tokens are taken, and what comes next breaks a rule,
-- or all are taken to where nothing need be due.
use Rattle.std.proofs.Common.{◌≡◌, ℕ, zero, suc, ◌<◌, Bool, true, false, List, [], ◌∷◌, ◌++◌, length, Some, None, refl, ap, ◌∙◌, ◌⊎◌, inl, inr, arith, length-append}
use Rattle.std.specs.Prelude.{if◌then◌else◌}
use Rattle.sj_grammar.specs.declared.tokens.What.{What}
use Rattle.sj_grammar.specs.declared.tokens.Rule.{Rule}
use Rattle.sj_grammar.specs.declared.tokens.Rule.TheVariants.{P1}
use Rattle.sj_grammar.specs.declared.tokens.Fault.{Fault}
use Rattle.sj_lang.specs.Limits.{Limits}
use Rattle.sj_grammar.specs.Lexis.{Ahead, at_end, bad, token, next_of}
use Rattle.sj_grammar.specs.Reading.{before_next, fault_at}
use Rattle.sj_grammar.specs.Positions.{Pieces, At, Takes, Begins, past}
use Rattle.sj_grammar.specs.Layers.{Layer, Step, goes, stops, onward, step, run, may_end, rule_of}
use Rattle.sj_grammar.specs.Faults.{broken, Stuck}
use Rattle.sj_grammar.proofs.SplitLemmas.{next_split}
use Rattle.sj_grammar.proofs.StucknessLemmas.{halts_stuck, stuck_cons}

module _ {D : Type 0} (G : Layer D) (L : Limits) where
  -- all tokens are taken, and nothing need be due after them
  pub record Whole (n : ℕ) (a : At) (ds : List D) : Type 0 where
    pub pieces : Pieces
    pub there : At
    pub count : ℕ
    pub dues : List D
    pub front : Begins a pieces there
    pub fits : run G L n ds pieces ≡ goes count dues
    pub ends : may_end G dues ≡ true
    pub whole : next_of there.text.ahead ≡ at_end

  -- one of the two ends of a text
  abbrev pub Ends : ℕ → At → List D → Type 0
  Ends n a ds = Whole n a ds ⊎ ((f : Fault) × Stuck G L n a ds f)

  -- at the end, and where a rule is broken
  ends_here : (n : ℕ) (a : At) (ds : List D) → next_of a.text.ahead ≡ at_end → Ends n a ds
  ends_here n a ds next = by_test (may_end G ds) refl
    where
      by_test : (b : Bool) → may_end G ds ≡ b → Ends n a ds
      by_test true e = inl (record { pieces = []; there = a; count = n; dues = ds; front = refl; fits = refl; ends = e; whole = next })
      by_test false e = let f = fault_at (before_next a.text (next_of a.text.ahead)) P1 in
          inr (f, halts_stuck G L n a ds f (record { rule = P1; breaks = ap (broken G L n ds) next ∙ (λ i. if e i then None else Some P1); fault = refl }))

  breaks_here : (n : ℕ) (a : At) (ds : List D) (rule : Rule) → broken G L n ds (next_of a.text.ahead) ≡ Some rule → Ends n a ds
  breaks_here n a ds rule e =
      let f = fault_at (before_next a.text (next_of a.text.ahead)) rule in
      inr (f, halts_stuck G L n a ds f (record { rule = rule; breaks = e; fault = refl }))

  -- after a token
  behind : (n k : ℕ) (a m : At) (s : List ℕ) (ds es : List D) → Takes a s m → step G L n ds s ≡ goes k es → Ends k m es → Ends n a ds
  behind n k a m s ds es t e (inl w) = inl (record {
    pieces = s ∷ w.pieces;
    there = w.there;
    count = w.count;
    dues = w.dues;
    front = (m, t, w.front);
    fits = ap (λ (x : Step D). onward x (λ j gs. run G L j gs w.pieces)) e ∙ w.fits;
    ends = w.ends;
    whole = w.whole;
  })
  behind n k a m s ds es t e (inr x) = inr (x.0, stuck_cons G L n k a m s ds es x.0 t e x.1)

  -- what is ahead after a token is shorter
  shorter : (text : List ℕ) (what : What) (s rest : List ℕ) → next_of text ≡ token what s rest → length rest < length text
  shorter text what s rest e =
      let x = next_split text what s rest e in
      let long : length text ≡ length (x.skipped ++ (s ++ rest)) = ap length x.whole in
      let some = x.some in
      omega (arith, length-append x.skipped (s ++ rest), length-append s rest)

  -- each text comes to one of them
  pub each_ends : (most n : ℕ) (a : At) (ds : List D) → length a.text.ahead < most → Ends n a ds
  each_ends zero n a ds h = absurd (omega arith)
  each_ends (suc most) n a ds h = by_next (λ k m es less. each_ends most k m es less) (next_of a.text.ahead) refl
    where
      by_step : ((k : ℕ) (m : At) (es : List D) → length m.text.ahead < most → Ends k m es) → (what : What) (s rest : List ℕ) → next_of a.text.ahead ≡ token what s rest → (x : Step D) → step G L n ds s ≡ x → Ends n a ds
      by_step later what s rest next (goes k es) e =
          let less = shorter a.text.ahead what s rest next in
          behind n k a (past a s rest) s ds es (record { what = what; rest = rest; token = next; there = refl }) e (later k (past a s rest) es (omega arith))
      by_step later what s rest next (stops rule) e = breaks_here n a ds rule (ap (broken G L n ds) next ∙ ap rule_of e)

      by_next : ((k : ℕ) (m : At) (es : List D) → length m.text.ahead < most → Ends k m es) → (x : Ahead) → next_of a.text.ahead ≡ x → Ends n a ds
      by_next later at_end next = ends_here n a ds next
      by_next later (bad rule rest) next = breaks_here n a ds rule (ap (broken G L n ds) next)
      by_next later (token what s rest) next = by_step later what s rest next (step G L n ds s) refl
