-- The pieces that are what is due in a protocol: items, arms and what stands in brackets.
use Rattle.std.proofs.Common.{◌≡◌, ◌≢◌, ℕ, suc, Bool, true, false, IsTrue, List, [], ◌∷◌, ◌++◌, drop, Some, None, refl, ap, sym, subst, ◌∙◌, append_assoc, append-nil, ◌⊎◌, inl, inr}
use Rattle.std.specs.Prelude.{codes, if◌then◌else◌}
use Rattle.std.specs.Str.{bytes_eq}
use Rattle.sj_lang.specs.declared.proto.Way.{Way}
use Rattle.sj_lang.specs.declared.proto.Way.TheVariants.{Out, Into}
use Rattle.sj_lang.specs.Place.{Place, Carried, Choices, done, message, choice, repeat, no_choice, arm}
use Rattle.sj_grammar.specs.Names.{is_name}
use Rattle.sj_grammar.specs.Positions.{Pieces}
use Rattle.sj_grammar.specs.Protocols.{way_piece, open_piece, close_piece, dotted, seq_pieces, body_pieces, kind_pieces, listed}
use Rattle.sj_grammar.specs.ProtocolDues.{ProtocolDue, body, more, seq, maybe, behind, kind, label, arms, fixed, protocol_layer, protocol_follow, item_follow}
use Rattle.sj_grammar.proofs.CompletionLemmas.{Alls}
use Rattle.sj_proto.specs.Writable.{IsWritable, CanBeCarried, AreWritable}
use Rattle.sj_proto.proofs.NameLemmas.{test_is}

module _ (word : ℕ → List ℕ) where
  abbrev IsTail : Way → Pieces → Type 0
  IsTail w a =
      ((k : Carried) × CanBeCarried word k × (a ≡ open_piece w ∷ (kind_pieces word k ++ close_piece w ∷ [])))
      ⊎ (((c : Choices) × (c ≢ no_choice) × AreWritable word c × (a ≡ codes "{" ∷ (drop 1 (listed word c) ++ codes "}" ∷ [])))
      ⊎ ((p : Place) × IsWritable word p × (a ≡ codes "[" ∷ (seq_pieces word p ++ codes "]" ∷ codes "*" ∷ []))))

  -- the pieces are what is due
  abbrev pub Spelled : ProtocolDue → Pieces → Type 0
  Spelled body a = (p : Place) × IsWritable word p × (a ≡ body_pieces word p)
  Spelled (more o) a = (p : Place) × IsWritable word p × (a ≡ dotted word p)
  Spelled (seq o) a = (p : Place) × IsWritable word p × (p ≢ done) × (a ≡ seq_pieces word p)
  Spelled (maybe o) a = (p : Place) × IsWritable word p × (a ≡ seq_pieces word p)
  Spelled (behind o w) a = IsTail w a
  Spelled (kind o) a = (k : Carried) × CanBeCarried word k × (a ≡ kind_pieces word k)
  Spelled (label k) a = (n : ℕ) × IsTrue (is_name (word n)) × (a ≡ word n ∷ [])
  Spelled (arms o k) a = (c : Choices) × AreWritable word c × (a ≡ listed word c)
  Spelled (fixed s) a = a ≡ s ∷ []

  abbrev pub AllSpelled : List ProtocolDue → Pieces → Type 0
  AllSpelled ds ts = Alls protocol_layer Spelled ds ts

  -- an item, and the items after it
  item_of : (w : Way) (a : Pieces) (r : Place) → IsTail w a → IsWritable word r → (p : Place) × IsWritable word p × (p ≢ done) × (way_piece w ∷ (a ++ dotted word r) ≡ seq_pieces word p)
  item_of w a r (inl t) h = (
    message w t.0 r,
    (t.1, h),
    (λ e. cc),
    ap (λ x. way_piece w ∷ (x ++ dotted word r)) t.2 ∙ ap (λ x. way_piece w ∷ open_piece w ∷ x) (append_assoc (kind_pieces word t.0) (close_piece w ∷ []) (dotted word r)),
  )
  item_of w a r (inr (inl t)) h = (
    choice w t.0 r,
    (t.1, t.2, h),
    (λ e. cc),
    ap (λ x. way_piece w ∷ (x ++ dotted word r)) t.3 ∙ ap (λ x. way_piece w ∷ codes "{" ∷ x) (append_assoc (drop 1 (listed word t.0)) (codes "}" ∷ []) (dotted word r)),
  )
  item_of w a r (inr (inr t)) h = (
    repeat w t.0 r,
    (t.1, h),
    (λ e. cc),
    ap (λ x. way_piece w ∷ (x ++ dotted word r)) t.2 ∙ ap (λ x. way_piece w ∷ codes "[" ∷ x) (append_assoc (seq_pieces word t.0) (codes "]" ∷ codes "*" ∷ []) (dotted word r)),
  )

  -- a due that items may be
  abbrev pub TakesItems : ProtocolDue → Type 0
  TakesItems d = (a : Pieces) (p : Place) → IsWritable word p → p ≢ done → a ≡ seq_pieces word p → Spelled d a

  pub from_item : (o : ℕ) (d : ProtocolDue) (es : List ProtocolDue) (s : List ℕ) (ts : Pieces) → TakesItems d → item_follow o s ≡ Some es → AllSpelled es ts → Spelled d (s ∷ ts)
  from_item o d es s ts takes e h = by_tests (bytes_eq s (codes "!")) (bytes_eq s (codes "?")) refl refl e
    where
      at_way : (w : Way) → s ≡ way_piece w → Some (behind o w ∷ more o ∷ []) ≡ Some es → Spelled d (s ∷ ts)
      at_way w same f =
          let due : es ≡ behind o w ∷ more o ∷ [] = cc in
          let g = subst (λ (gs : List ProtocolDue). AllSpelled gs ts) due h in
          let rest = g.3 in
          let item = item_of w g.0 rest.2.0 g.2 rest.2.1 in
          let all : ts ≡ g.0 ++ dotted word rest.2.0 = g.4 ∙ ap (λ x. g.0 ++ x) (rest.4 ∙ ap (λ x. rest.0 ++ x) rest.3 ∙ append-nil rest.0 ∙ rest.2.2) in
          takes (s ∷ ts) item.0 item.1 item.2 ((λ i. same i ∷ all i) ∙ item.3)

      by_tests : (x y : Bool) → bytes_eq s (codes "!") ≡ x → bytes_eq s (codes "?") ≡ y → (if x then Some (behind o Out ∷ more o ∷ []) else (if y then Some (behind o Into ∷ more o ∷ []) else None)) ≡ Some es → Spelled d (s ∷ ts)
      by_tests true y ex ey f = at_way Out (test_is s (codes "!") ex) f
      by_tests false true ex ey f = at_way Into (test_is s (codes "?") ey) f
      by_tests false false ex ey f = let none : ⊥ = cc in absurd none

  -- an arm, and the arms after it
  pub arm_from : (o k : ℕ) (ds : List ProtocolDue) (ts : Pieces) → AllSpelled (label k ∷ fixed (codes ":") ∷ maybe o ∷ arms o (suc k) ∷ ds) ts
      → (l : ℕ) × (p : Place) × (c : Choices) × (b : Pieces) × IsTrue (is_name (word l)) × IsWritable word p × AreWritable word c × AllSpelled ds b × (ts ≡ (word l ∷ codes ":" ∷ (seq_pieces word p ++ listed word c)) ++ b)
  arm_from o k ds ts h =
      let colon = h.3 in
      let items = colon.3 in
      let rest = items.3 in (
        h.2.0,
        items.2.0,
        rest.2.0,
        rest.1,
        h.2.1,
        items.2.1,
        rest.2.1,
        rest.3,
        h.4 ∙ (λ i. h.2.2 i ++ ((colon.4 ∙ (λ j. colon.2 j ++ ((items.4 ∙ (λ m. items.2.2 m ++ ((rest.4 ∙ ap (λ x. x ++ rest.1) rest.2.2) m)) ∙ sym (append_assoc (seq_pieces word items.2.0) (listed word rest.2.0) rest.1)) j))) i)),
      )

  pub from_open : (o : ℕ) (w : Way) (es : List ProtocolDue) (s : List ℕ) (ts : Pieces) → protocol_follow (behind o w) s ≡ Some es → AllSpelled es ts → Spelled (behind o w) (s ∷ ts)
  from_open o w es s ts e h = by_tests (bytes_eq s (open_piece w)) (bytes_eq s (codes "{")) (bytes_eq s (codes "[")) refl refl refl e
    where
      by_tests : (x y z : Bool) → bytes_eq s (open_piece w) ≡ x → bytes_eq s (codes "{") ≡ y → bytes_eq s (codes "[") ≡ z
          → (if x then Some (kind (suc o) ∷ fixed (close_piece w) ∷ []) else (if y then Some (label 0 ∷ fixed (codes ":") ∷ maybe (suc o) ∷ arms (suc o) 1 ∷ fixed (codes "}") ∷ [])
          else (if z then Some (maybe (suc o) ∷ fixed (codes "]") ∷ fixed (codes "*") ∷ []) else None))) ≡ Some es
          → Spelled (behind o w) (s ∷ ts)
      by_tests true y z ex ey ez f =
          let due : es ≡ kind (suc o) ∷ fixed (close_piece w) ∷ [] = cc in
          let g = subst (λ (gs : List ProtocolDue). AllSpelled gs ts) due h in
          let c = g.3 in
          let all : ts ≡ kind_pieces word g.2.0 ++ close_piece w ∷ [] = g.4 ∙ (λ i. g.2.2 i ++ ((c.4 ∙ (λ j. c.2 j ++ c.3 j)) i)) in
          inl (g.2.0, g.2.1, λ i. test_is s (open_piece w) ex i ∷ all i)
      by_tests false true z ex ey ez f =
          let due : es ≡ label 0 ∷ fixed (codes ":") ∷ maybe (suc o) ∷ arms (suc o) 1 ∷ fixed (codes "}") ∷ [] = cc in
          let x = arm_from (suc o) 0 (fixed (codes "}") ∷ []) ts (subst (λ (gs : List ProtocolDue). AllSpelled gs ts) due h) in
          let c = x.7 in
          let first = word x.0 ∷ codes ":" ∷ (seq_pieces word x.1 ++ listed word x.2) in
          let all : ts ≡ first ++ codes "}" ∷ [] = x.8 ∙ ap (λ y. first ++ y) (c.4 ∙ (λ j. c.2 j ++ c.3 j)) in
          inr (inl (arm x.0 x.1 x.2, (λ e. cc), (x.4, x.5, x.6), λ i. test_is s (codes "{") ey i ∷ all i))
      by_tests false false true ex ey ez f =
          let due : es ≡ maybe (suc o) ∷ fixed (codes "]") ∷ fixed (codes "*") ∷ [] = cc in
          let g = subst (λ (gs : List ProtocolDue). AllSpelled gs ts) due h in
          let c = g.3 in
          let star = c.3 in
          let all : ts ≡ seq_pieces word g.2.0 ++ codes "]" ∷ codes "*" ∷ [] = g.4 ∙ (λ i. g.2.2 i ++ ((c.4 ∙ (λ j. c.2 j ++ ((star.4 ∙ (λ m. star.2 m ++ star.3 m)) j))) i)) in
          inr (inr (g.2.0, g.2.1, λ i. test_is s (codes "[") ez i ∷ all i))
      by_tests false false false ex ey ez f = let none : ⊥ = cc in absurd none
