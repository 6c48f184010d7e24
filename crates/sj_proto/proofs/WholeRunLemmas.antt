-- The pieces of a protocol are what is due, as long as no limit is passed.
use Rattle.std.proofs.Common.{◌≡◌, ◌≢◌, ℕ, suc, ◌+◌, ◌<◌, ◌≤◌, List, [], ◌∷◌, ◌++◌, drop, refl, ap, sym, subst, ◌∙◌, append_assoc, arith}
use Rattle.std.specs.Prelude.{codes, map}
use Rattle.sj_lang.specs.declared.proto.Way.{Way}
use Rattle.sj_lang.specs.Place.{Place, Carried, Choices, done, message, choice, repeat, int, boolean, text, session, no_choice, arm}
use Rattle.sj_lang.specs.ItemCount.{item_count, kind_items, arm_items}
use Rattle.sj_lang.specs.Limits.{Limits}
use Rattle.sj_grammar.specs.Positions.{Pieces}
use Rattle.sj_grammar.specs.Protocols.{close_piece, open_piece, dotted, kind_pieces, listed, body_pieces, IsGiven, IsBody}
use Rattle.sj_grammar.specs.Layers.{goes, run}
use Rattle.sj_grammar.specs.ProtocolDues.{ProtocolDue, body, more, maybe, kind, label, arms, fixed, protocol_layer}
use Rattle.sj_grammar.specs.FileDues.{Due, proto, file_layer}
use Rattle.sj_grammar.proofs.StepLemmas.{Runs, Runs-none, Runs-cons, Runs-append, Runs-seam, Runs-to}
use Rattle.sj_grammar.proofs.EmbeddingLemmas.{IsEmbedded, step_map, run_embedded}
use Rattle.sj_grammar.proofs.FramingLemmas.{run_before}
use Rattle.sj_proto.specs.Left.{due_behind}
use Rattle.sj_proto.proofs.WithinLemmas.{IsLabel, IsWithin, IsWithinKind, AreWithin, given_within, wide, is_wide}
use Rattle.sj_proto.specs.Writable.{IsWritable}
use Rattle.sj_proto.proofs.RunLemmas.{Reads, open_step, arms_step, turns_step, label_step, item_run, close_run, close_behind, kind_like, without_dot, maybe_run, bracket_run, next_arm}

module _ (L : Limits) (word : ℕ → List ℕ) where
  -- an arm and the arms after it, from the runs of both
  arm_run : (o l : ℕ) (p : Place) (a : Choices) (k n m : ℕ) (ds : List ProtocolDue) → k < L.labels → IsLabel L (word l)
      → Reads L n (more o ∷ arms o (suc k) ∷ fixed (codes "}") ∷ ds) (dotted word p) (n + item_count p) (more o ∷ arms o (suc k) ∷ fixed (codes "}") ∷ ds)
      → Reads L (n + item_count p) (arms o (suc k) ∷ fixed (codes "}") ∷ ds) (listed word a ++ codes "}" ∷ []) m ds
      → Reads L n (label k ∷ fixed (codes ":") ∷ maybe o ∷ arms o (suc k) ∷ fixed (codes "}") ∷ ds) (word l ∷ codes ":" ∷ ((drop 1 (dotted word p) ++ listed word a) ++ codes "}" ∷ [])) m ds
  arm_run o l p a k n m ds room named inner rest =
      Runs-cons protocol_layer L n n m _ (fixed (codes ":") ∷ maybe o ∷ arms o (suc k) ∷ fixed (codes "}") ∷ ds) ds (word l) _ (label_step L (word l) k n _ room named)
      (Runs-cons protocol_layer L n n m _ (maybe o ∷ arms o (suc k) ∷ fixed (codes "}") ∷ ds) ds (codes ":") _ refl
      (subst (λ (ps : Pieces). Reads L n (maybe o ∷ arms o (suc k) ∷ fixed (codes "}") ∷ ds) ps m ds) (sym (append_assoc (drop 1 (dotted word p)) (listed word a) (codes "}" ∷ [])))
      (Runs-append protocol_layer L (drop 1 (dotted word p)) (listed word a ++ codes "}" ∷ []) n (n + item_count p) m _ (due_behind o p ∷ arms o (suc k) ∷ fixed (codes "}") ∷ ds) ds
      (maybe_run L word o p n (n + item_count p) (arms o (suc k) ∷ fixed (codes "}") ∷ ds) inner)
      (next_arm L word o p a (suc k) (n + item_count p) m ds rest))))

  mutual
    pub dotted_within : (p : Place) (o n : ℕ) (ds : List ProtocolDue) → IsWithin L word o p → n + item_count p ≤ L.items → Reads L n (more o ∷ ds) (dotted word p) (n + item_count p) (more o ∷ ds)
    dotted_within done o n ds g few = Runs-to protocol_layer L n n (n + 0) (more o ∷ ds) (more o ∷ ds) [] (omega arith) (Runs-none protocol_layer L n (more o ∷ ds))
    dotted_within (message w k rest) o n ds g few =
        item_run L w o n (n + item_count (message w k rest)) ds (kind (suc o) ∷ fixed (close_piece w) ∷ more o ∷ ds) (more o ∷ ds) (open_piece w) _ (omega arith) (open_step L w o (suc n) (more o ∷ ds) g.0)
        (Runs-seam protocol_layer L (kind_pieces word k) (close_piece w) (dotted word rest) (suc n) (suc n + kind_items k) (n + item_count (message w k rest)) _ (more o ∷ ds) (more o ∷ ds)
        (carried_within w k (suc o) (suc n) (more o ∷ ds) g.1 (omega arith))
        (Runs-to protocol_layer L (suc n + kind_items k) (suc n + kind_items k + item_count rest) (n + item_count (message w k rest)) (more o ∷ ds) (more o ∷ ds) (dotted word rest) (omega arith)
        (dotted_within rest o (suc n + kind_items k) ds g.2 (omega arith))))
    dotted_within (choice w a rest) o n ds g few =
        item_run L w o n (n + item_count (choice w a rest)) ds (label 0 ∷ fixed (codes ":") ∷ maybe (suc o) ∷ arms (suc o) 1 ∷ fixed (codes "}") ∷ more o ∷ ds) (more o ∷ ds) (codes "{") _ (omega arith)
        (arms_step L w o (suc n) (more o ∷ ds) g.0)
        (Runs-seam protocol_layer L (drop 1 (listed word a)) (codes "}") (dotted word rest) (suc n) (suc n + arm_items a) (n + item_count (choice w a rest)) _ (more o ∷ ds) (more o ∷ ds)
        (first_arms a (suc o) (suc n) (more o ∷ ds) g.1 g.2 (omega arith))
        (Runs-to protocol_layer L (suc n + arm_items a) (suc n + arm_items a + item_count rest) (n + item_count (choice w a rest)) (more o ∷ ds) (more o ∷ ds) (dotted word rest) (omega arith)
        (dotted_within rest o (suc n + arm_items a) ds g.3 (omega arith))))
    dotted_within (repeat w p rest) o n ds g few =
        item_run L w o n (n + item_count (repeat w p rest)) ds (maybe (suc o) ∷ fixed (codes "]") ∷ fixed (codes "*") ∷ more o ∷ ds) (more o ∷ ds) (codes "[") _ (omega arith) (turns_step L w o (suc n) (more o ∷ ds) g.0)
        (Runs-append protocol_layer L (drop 1 (dotted word p)) (codes "]" ∷ codes "*" ∷ dotted word rest) (suc n) (suc n + item_count p) (n + item_count (repeat w p rest)) _
        (due_behind (suc o) p ∷ fixed (codes "]") ∷ fixed (codes "*") ∷ more o ∷ ds) (more o ∷ ds)
        (maybe_run L word (suc o) p (suc n) (suc n + item_count p) (fixed (codes "]") ∷ fixed (codes "*") ∷ more o ∷ ds) (dotted_within p (suc o) (suc n) (fixed (codes "]") ∷ fixed (codes "*") ∷ more o ∷ ds) g.1 (omega arith)))
        (Runs-append protocol_layer L (codes "]" ∷ codes "*" ∷ []) (dotted word rest) (suc n + item_count p) (suc n + item_count p) (n + item_count (repeat w p rest)) _ (more o ∷ ds) (more o ∷ ds)
        (bracket_run L word (suc o) p (suc n + item_count p) (more o ∷ ds))
        (Runs-to protocol_layer L (suc n + item_count p) (suc n + item_count p + item_count rest) (n + item_count (repeat w p rest)) (more o ∷ ds) (more o ∷ ds) (dotted word rest) (omega arith)
        (dotted_within rest o (suc n + item_count p) ds g.2 (omega arith)))))

    pub carried_within : (w : Way) (k : Carried) (o n : ℕ) (ds : List ProtocolDue) → IsWithinKind L word o k → n + kind_items k ≤ L.items
        → Reads L n (kind o ∷ fixed (close_piece w) ∷ ds) (kind_pieces word k ++ close_piece w ∷ []) (n + kind_items k) ds
    carried_within w int o n ds g few =
        Runs-to protocol_layer L n n (n + 0) _ ds _ (omega arith) (Runs-cons protocol_layer L n n n _ (fixed (close_piece w) ∷ ds) ds (codes "int") (close_piece w ∷ []) refl (close_run L w n ds))
    carried_within w boolean o n ds g few =
        Runs-to protocol_layer L n n (n + 0) _ ds _ (omega arith) (Runs-cons protocol_layer L n n n _ (fixed (close_piece w) ∷ ds) ds (codes "boolean") (close_piece w ∷ []) refl (close_run L w n ds))
    carried_within w text o n ds g few =
        Runs-to protocol_layer L n n (n + 0) _ ds _ (omega arith) (Runs-cons protocol_layer L n n n _ (fixed (close_piece w) ∷ ds) ds (codes "String") (close_piece w ∷ []) refl (close_run L w n ds))
    carried_within w (session p) o n ds g few =
        Runs-append protocol_layer L (drop 1 (dotted word p)) (close_piece w ∷ []) n (n + item_count p) (n + item_count p) _ (more o ∷ fixed (close_piece w) ∷ ds) ds
        (without_dot L word o (kind o) p n (n + item_count p) (fixed (close_piece w) ∷ ds) (more o ∷ fixed (close_piece w) ∷ ds) (kind_like L o) g.0 (dotted_within p o n (fixed (close_piece w) ∷ ds) g.1 few))
        (close_behind L w o (n + item_count p) ds)

    first_arms : (a : Choices) (o n : ℕ) (ds : List ProtocolDue) → a ≢ no_choice → AreWithin L word o 0 a → n + arm_items a ≤ L.items
        → Reads L n (label 0 ∷ fixed (codes ":") ∷ maybe o ∷ arms o 1 ∷ fixed (codes "}") ∷ ds) (drop 1 (listed word a) ++ codes "}" ∷ []) (n + arm_items a) ds
    first_arms no_choice o n ds some g few = absurd (some refl)
    first_arms (arm l p a) o n ds some g few =
        arm_run o l p a 0 n (n + arm_items (arm l p a)) ds g.0 g.1 (dotted_within p o n (arms o (suc 0) ∷ fixed (codes "}") ∷ ds) g.2 (omega arith))
        (Runs-to protocol_layer L (n + item_count p) (n + item_count p + arm_items a) (n + arm_items (arm l p a)) _ ds _ (omega arith) (arms_run a o (suc 0) (n + item_count p) ds g.3 (omega arith)))

    arms_run : (a : Choices) (o k n : ℕ) (ds : List ProtocolDue) → AreWithin L word o k a → n + arm_items a ≤ L.items → Reads L n (arms o k ∷ fixed (codes "}") ∷ ds) (listed word a ++ codes "}" ∷ []) (n + arm_items a) ds
    arms_run no_choice o k n ds g few = record { steps = let e : n ≡ n + 0 = omega arith in ap (λ (j : ℕ). goes j ds) e }
    arms_run (arm l p a) o k n ds g few =
        Runs-cons protocol_layer L n n _ _ (label k ∷ fixed (codes ":") ∷ maybe o ∷ arms o (suc k) ∷ fixed (codes "}") ∷ ds) ds (codes ",") _ refl
        (arm_run o l p a k n (n + arm_items (arm l p a)) ds g.0 g.1 (dotted_within p o n (arms o (suc k) ∷ fixed (codes "}") ∷ ds) g.2 (omega arith))
        (Runs-to protocol_layer L (n + item_count p) (n + item_count p + arm_items a) (n + arm_items (arm l p a)) _ ds _ (omega arith) (arms_run a o (suc k) (n + item_count p) ds g.3 (omega arith))))

  pub dotted_run : (p : Place) (o n : ℕ) (ds : List ProtocolDue) → IsGiven L word o p → n + item_count p ≤ L.items → Reads L n (more o ∷ ds) (dotted word p) (n + item_count p) (more o ∷ ds)
  dotted_run p o n ds g few = dotted_within p o n ds (given_within L word p o g) few

  pub body_within : (p : Place) (n : ℕ) (ds : List ProtocolDue) → IsWithin L word 0 p → item_count p ≤ L.items → Reads L n (body ∷ ds) (body_pieces word p) (item_count p) (more 0 ∷ ds)
  body_within p n ds is few =
      Runs-to protocol_layer L n (0 + item_count p) (item_count p) (body ∷ ds) (more 0 ∷ ds) (body_pieces word p) (omega arith)
      (Runs-cons protocol_layer L n 0 (0 + item_count p) (body ∷ ds) (more 0 ∷ ds) (more 0 ∷ ds) (codes "begin") (dotted word p) refl (dotted_within p 0 0 ds is (omega arith)))

  pub body_run : (p : Place) (n : ℕ) (ds : List ProtocolDue) → IsBody L word p → Reads L n (body ∷ ds) (body_pieces word p) (item_count p) (more 0 ∷ ds)
  body_run p n ds is = body_within p n ds (given_within L word p 0 is.given) is.few

-- dues of a protocol do the same in a file, whatever is due later
pub protocol_in_file : IsEmbedded protocol_layer file_layer proto
protocol_in_file = record { follows = λ d s. refl; nones = λ d. refl; counts = λ n d s. refl; limits = λ L n d s. refl }

pub in_file : (L : Limits) (n m : ℕ) (ds es : List ProtocolDue) (rest : List Due) (ps : Pieces) → Reads L n ds ps m es → Runs file_layer L n (map proto ds ++ rest) ps m (map proto es ++ rest)
in_file L n m ds es rest ps r = record {
  steps = run_before file_layer L ps n m (map proto ds) (map proto es) rest (run_embedded protocol_layer file_layer proto protocol_in_file L ps n ds ∙ ap (step_map proto) r.steps);
}

-- within limits that it doesn't pass a protocol is what is due
pub wide_run : (word : ℕ → List ℕ) (p : Place) → IsWritable word p → run protocol_layer (wide word p) 0 (body ∷ []) (body_pieces word p) ≡ goes (item_count p) (more 0 ∷ [])
wide_run word p h = (body_within (wide word p) word p 0 [] (is_wide word p h) (omega arith)).steps
