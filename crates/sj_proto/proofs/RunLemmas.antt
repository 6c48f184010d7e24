-- What one piece of a protocol does, as long as no limit is passed.
use Rattle.std.proofs.Common.{◌≡◌, ◌≢◌, ℕ, suc, ◌<◌, true, IsTrue, List, [], ◌∷◌, ◌++◌, drop, length, refl, ap, ◌∙◌, arith}
use Rattle.std.specs.Prelude.{codes}
use Rattle.std.proofs.lemmas.Bool.{lt-leb, le-ltb}
use Rattle.std.proofs.lemmas.Bool.Decides.{nat_tests}
use Rattle.sj_lang.specs.declared.proto.Way.{Way}
use Rattle.sj_lang.specs.declared.proto.Way.TheVariants.{Out, Into}
use Rattle.sj_lang.specs.Place.{Place, Choices, done, message, choice, repeat, no_choice, arm}
use Rattle.sj_lang.specs.Limits.{Limits}
use Rattle.sj_grammar.specs.Names.{is_name}
use Rattle.sj_grammar.specs.Positions.{Pieces}
use Rattle.sj_grammar.specs.Protocols.{way_piece, open_piece, close_piece, dotted, kind_pieces, listed}
use Rattle.sj_grammar.specs.Layers.{Step, goes, onward, step, run}
use Rattle.sj_grammar.specs.ProtocolDues.{ProtocolDue, more, seq, maybe, behind, kind, label, arms, fixed, protocol_layer}
use Rattle.sj_grammar.proofs.StepLemmas.{Runs, Runs-cons}
use Rattle.sj_proto.specs.Left.{due_behind}
use Rattle.sj_proto.proofs.WithinLemmas.{IsLabel}

module _ (L : Limits) where
  abbrev pub Reads : ℕ → List ProtocolDue → Pieces → ℕ → List ProtocolDue → Type 0
  Reads n ds ps m es = Runs protocol_layer L n ds ps m es

  pub way_step : (w : Way) (o n : ℕ) (ds : List ProtocolDue) → n < L.items → step protocol_layer L n (seq o ∷ ds) (way_piece w) ≡ goes (suc n) (behind o w ∷ more o ∷ ds)
  way_step Out o n ds h = rw (lt-leb L.items n h) refl
  way_step Into o n ds h = rw (lt-leb L.items n h) refl

  pub open_step : (w : Way) (o n : ℕ) (ds : List ProtocolDue) → o < L.nesting → step protocol_layer L n (behind o w ∷ ds) (open_piece w) ≡ goes n (kind (suc o) ∷ fixed (close_piece w) ∷ ds)
  open_step Out o n ds h = rw (lt-leb L.nesting o h) refl
  open_step Into o n ds h = rw (lt-leb L.nesting o h) refl

  pub arms_step : (w : Way) (o n : ℕ) (ds : List ProtocolDue) → o < L.nesting
      → step protocol_layer L n (behind o w ∷ ds) (codes "{") ≡ goes n (label 0 ∷ fixed (codes ":") ∷ maybe (suc o) ∷ arms (suc o) 1 ∷ fixed (codes "}") ∷ ds)
  arms_step Out o n ds h = rw (lt-leb L.nesting o h) refl
  arms_step Into o n ds h = rw (lt-leb L.nesting o h) refl

  pub turns_step : (w : Way) (o n : ℕ) (ds : List ProtocolDue) → o < L.nesting
      → step protocol_layer L n (behind o w ∷ ds) (codes "[") ≡ goes n (maybe (suc o) ∷ fixed (codes "]") ∷ fixed (codes "*") ∷ ds)
  turns_step Out o n ds h = rw (lt-leb L.nesting o h) refl
  turns_step Into o n ds h = rw (lt-leb L.nesting o h) refl

  pub label_step : (s : List ℕ) (k n : ℕ) (ds : List ProtocolDue) → k < L.labels → IsLabel L s → step protocol_layer L n (label k ∷ ds) s ≡ goes n ds
  label_step s k n ds room is =
      let name : IsTrue (is_name s) = is.name in
      let named : is_name s ≡ true = grind (arith, nat_tests) in
      rw (named, le-ltb L.name (length s) is.short, lt-leb L.labels k room) refl

  pub close_run : (w : Way) (n : ℕ) (ds : List ProtocolDue) → Reads n (fixed (close_piece w) ∷ ds) (close_piece w ∷ []) n ds
  close_run Out n ds = record { steps = refl }
  close_run Into n ds = record { steps = refl }

  pub close_behind : (w : Way) (o n : ℕ) (ds : List ProtocolDue) → Reads n (more o ∷ fixed (close_piece w) ∷ ds) (close_piece w ∷ []) n ds
  close_behind Out o n ds = record { steps = refl }
  close_behind Into o n ds = record { steps = refl }

  way_run : (w : Way) (o n m : ℕ) (ds fs : List ProtocolDue) (ps : Pieces) → n < L.items → Reads (suc n) (behind o w ∷ more o ∷ ds) ps m fs → Reads n (more o ∷ ds) (codes "." ∷ way_piece w ∷ ps) m fs
  way_run w o n m ds fs ps h r =
      Runs-cons protocol_layer L n n m (more o ∷ ds) (seq o ∷ ds) fs (codes ".") (way_piece w ∷ ps) refl
      (Runs-cons protocol_layer L n (suc n) m (seq o ∷ ds) (behind o w ∷ more o ∷ ds) fs (way_piece w) ps (way_step w o n ds h) r)

  -- after a dot, a way and what opens a bracket
  pub item_run : (w : Way) (o n m : ℕ) (ds es fs : List ProtocolDue) (s : List ℕ) (ps : Pieces) → n < L.items → step protocol_layer L (suc n) (behind o w ∷ more o ∷ ds) s ≡ goes (suc n) es
      → Reads (suc n) es ps m fs → Reads n (more o ∷ ds) (codes "." ∷ way_piece w ∷ s ∷ ps) m fs
  item_run w o n m ds es fs s ps room opens r =
      way_run w o n m ds fs (s ∷ ps) room (Runs-cons protocol_layer L (suc n) (suc n) m (behind o w ∷ more o ∷ ds) es fs s ps opens r)

  -- a due that takes a way as items do
  abbrev pub IsLikeItems : ℕ → ProtocolDue → Type 0
  IsLikeItems o d = (w : Way) (n : ℕ) (ds : List ProtocolDue) → step protocol_layer L n (d ∷ ds) (way_piece w) ≡ step protocol_layer L n (seq o ∷ ds) (way_piece w)

  pub kind_like : (o : ℕ) → IsLikeItems o (kind o)
  kind_like o Out n ds = refl
  kind_like o Into n ds = refl

  pub maybe_like : (o : ℕ) → IsLikeItems o (maybe o)
  maybe_like o Out n ds = refl
  maybe_like o Into n ds = refl

  pub seq_like : (o : ℕ) → IsLikeItems o (seq o)
  seq_like o w n ds = refl

  module _ (word : ℕ → List ℕ) where
    -- items without the dot before the first
    pub without_dot : (o : ℕ) (d : ProtocolDue) (p : Place) (n m : ℕ) (ds es : List ProtocolDue) → IsLikeItems o d → p ≢ done → Reads n (more o ∷ ds) (dotted word p) m es → Reads n (d ∷ ds) (drop 1 (dotted word p)) m es
    without_dot o d done n m ds es like some r = absurd (some refl)
    without_dot o d (message w k rest) n m ds es like some r = record { steps = ap (λ (t : Step ProtocolDue). onward t (λ j gs. run protocol_layer L j gs (open_piece w ∷ (kind_pieces word k ++ close_piece w ∷ dotted word rest)))) (like w n ds) ∙ r.steps }
    without_dot o d (choice w a rest) n m ds es like some r = record { steps = ap (λ (t : Step ProtocolDue). onward t (λ j gs. run protocol_layer L j gs (codes "{" ∷ (drop 1 (listed word a) ++ codes "}" ∷ dotted word rest)))) (like w n ds) ∙ r.steps }
    without_dot o d (repeat w p rest) n m ds es like some r = record { steps = ap (λ (t : Step ProtocolDue). onward t (λ j gs. run protocol_layer L j gs (codes "[" ∷ (drop 1 (dotted word p) ++ codes "]" ∷ codes "*" ∷ dotted word rest)))) (like w n ds) ∙ r.steps }

    -- items, maybe none
    pub maybe_run : (o : ℕ) (p : Place) (n m : ℕ) (ds : List ProtocolDue) → Reads n (more o ∷ ds) (dotted word p) m (more o ∷ ds) → Reads n (maybe o ∷ ds) (drop 1 (dotted word p)) m (due_behind o p ∷ ds)
    maybe_run o done n m ds r = record { steps = let count : n ≡ m = cc (r.steps) in ap (λ (k : ℕ). goes k (maybe o ∷ ds)) count }
    maybe_run o (message w k rest) n m ds r = without_dot o (maybe o) (message w k rest) n m ds (more o ∷ ds) (maybe_like o) (λ e. cc (e)) r
    maybe_run o (choice w a rest) n m ds r = without_dot o (maybe o) (choice w a rest) n m ds (more o ∷ ds) (maybe_like o) (λ e. cc (e)) r
    maybe_run o (repeat w p rest) n m ds r = without_dot o (maybe o) (repeat w p rest) n m ds (more o ∷ ds) (maybe_like o) (λ e. cc (e)) r

    pub bracket_run : (o : ℕ) (p : Place) (n : ℕ) (ds : List ProtocolDue) → Reads n (due_behind o p ∷ fixed (codes "]") ∷ fixed (codes "*") ∷ ds) (codes "]" ∷ codes "*" ∷ []) n ds
    bracket_run o done n ds = record { steps = refl }
    bracket_run o (message w k rest) n ds = record { steps = refl }
    bracket_run o (choice w a rest) n ds = record { steps = refl }
    bracket_run o (repeat w p rest) n ds = record { steps = refl }

    -- after an arm
    pub next_arm : (o : ℕ) (p : Place) (a : Choices) (k n m : ℕ) (ds : List ProtocolDue) → Reads n (arms o k ∷ fixed (codes "}") ∷ ds) (listed word a ++ codes "}" ∷ []) m ds
        → Reads n (due_behind o p ∷ arms o k ∷ fixed (codes "}") ∷ ds) (listed word a ++ codes "}" ∷ []) m ds
    next_arm o done no_choice k n m ds r = record { steps = r.steps }
    next_arm o (message w c rest) no_choice k n m ds r = record { steps = r.steps }
    next_arm o (choice w c rest) no_choice k n m ds r = record { steps = r.steps }
    next_arm o (repeat w c rest) no_choice k n m ds r = record { steps = r.steps }
    next_arm o done (arm l p a) k n m ds r = record { steps = r.steps }
    next_arm o (message w c rest) (arm l p a) k n m ds r = record { steps = r.steps }
    next_arm o (choice w c rest) (arm l p a) k n m ds r = record { steps = r.steps }
    next_arm o (repeat w c rest) (arm l p a) k n m ds r = record { steps = r.steps }
