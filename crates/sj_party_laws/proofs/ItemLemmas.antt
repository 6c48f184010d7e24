-- The tokens that are what is due in a protocol, within limits:
-- items, arms and what stands in brackets.
use Rattle.std.proofs.Common.{◌≡◌, ◌≢◌, ℕ, suc, ◌+◌, ◌<◌, ◌≤◌, Bool, true, false, List, [], ◌∷◌, ◌++◌, drop, Some, None, refl, ap, sym, subst, ◌∙◌, append_assoc, append-nil, ◌⊎◌, inl, inr}
use Rattle.std.specs.Prelude.{codes, if◌then◌else◌, ◌||◌}
use Rattle.std.specs.Str.{bytes_eq}
use Rattle.sj_lang.specs.declared.proto.Way.{Way}
use Rattle.sj_lang.specs.declared.proto.Way.TheVariants.{Out, Into}
use Rattle.sj_lang.specs.Place.{Place, Carried, Choices, done, message, choice, repeat, no_choice, arm}
use Rattle.sj_lang.specs.ItemCount.{item_count, kind_items, arm_items}
use Rattle.sj_lang.specs.Limits.{Limits}
use Rattle.sj_grammar.specs.Tables.{IsNamed}
use Rattle.sj_grammar.specs.Positions.{Pieces}
use Rattle.sj_grammar.specs.Protocols.{way_piece, open_piece, close_piece, dotted, seq_pieces, body_pieces, kind_pieces, listed, IsGiven, IsGivenKind, AreGiven}
use Rattle.sj_grammar.specs.ProtocolDues.{ProtocolDue, body, more, seq, maybe, behind, kind, label, arms, fixed, item_follow, is_way}
use Rattle.sj_proto.proofs.NameLemmas.{test_is}
use Rattle.sj_party_laws.proofs.ChainLemmas.{Chained, nothing, first}
use Rattle.sj_party_laws.proofs.CountLemmas.{Counts, counts_one, counts_then}

module _ (L : Limits) (word : ℕ → List ℕ) where
  -- so many items, from n on
  abbrev pub Items : ℕ → ℕ → ℕ → Type 0
  Items n c m = Counts L.items n c m

  -- what stands after a way
  abbrev IsTail : ℕ → Way → ℕ → Pieces → ℕ → Type 0
  IsTail o w n a m =
      ((k : Carried) × IsGivenKind L word (suc o) k × Items n (kind_items k) m × (a ≡ open_piece w ∷ (kind_pieces word k ++ close_piece w ∷ [])))
      ⊎ (((c : Choices) × (c ≢ no_choice) × AreGiven L word (suc o) 0 c × Items n (arm_items c) m × (a ≡ codes "{" ∷ (drop 1 (listed word c) ++ codes "}" ∷ [])))
      ⊎ ((p : Place) × IsGiven L word (suc o) p × Items n (item_count p) m × (a ≡ codes "[" ∷ (seq_pieces word p ++ codes "]" ∷ codes "*" ∷ []))))

  -- the tokens are what is due
  abbrev pub Spelled : ℕ → ProtocolDue → Pieces → ℕ → Type 0
  Spelled n body a m = (p : Place) × IsGiven L word 0 p × (item_count p ≤ L.items) × (a ≡ body_pieces word p)
  Spelled n (more o) a m = (p : Place) × IsGiven L word o p × Items n (item_count p) m × (a ≡ dotted word p)
  Spelled n (seq o) a m = (p : Place) × IsGiven L word o p × (p ≢ done) × Items n (item_count p) m × (a ≡ seq_pieces word p)
  Spelled n (maybe o) a m = (p : Place) × IsGiven L word o p × Items n (item_count p) m × (a ≡ seq_pieces word p)
  Spelled n (behind o w) a m = (o < L.nesting) × IsTail o w n a m
  Spelled n (kind o) a m = (k : Carried) × IsGivenKind L word o k × Items n (kind_items k) m × (a ≡ kind_pieces word k)
  Spelled n (label k) a m = (l : ℕ) × (k < L.labels) × IsNamed L word l × (n ≡ m) × (a ≡ word l ∷ [])
  Spelled n (arms o k) a m = (c : Choices) × AreGiven L word o k c × Items n (arm_items c) m × (a ≡ listed word c)
  Spelled n (fixed s) a m = (n ≡ m) × (a ≡ s ∷ [])

  -- and one after another
  abbrev pub AllSpelled : ℕ → List ProtocolDue → Pieces → ℕ → Type 0
  AllSpelled n ds ts m = Chained Spelled n ds ts m

  -- an item, and the items after it
  record HasItem (o n : ℕ) (a : Pieces) (m : ℕ) : Type 0 where
    pub place : Place
    pub given : IsGiven L word o place
    pub some : place ≢ done
    pub count : Items n (item_count place) m
    pub same : a ≡ seq_pieces word place

  -- the item itself, what it has inside, and what is after it
  counted_item : (n c k d m : ℕ) → n < L.items → Items (suc n) c k → Items k d m → Items n (1 + c + d) m
  counted_item n c k d m h x y = counts_then L.items n (1 + c) k d m (counts_then L.items n 1 (suc n) c k (counts_one L.items n h) x) y

  item_of : (w : Way) (o n k m : ℕ) (a : Pieces) (r : Place) → n < L.items → o < L.nesting → IsTail o w (suc n) a k → IsGiven L word o r → Items k (item_count r) m → HasItem o n (way_piece w ∷ (a ++ dotted word r)) m
  item_of w o n k m a r room deep (inl t) h c = record {
    place = message w t.0 r;
    given = (deep, t.1, h);
    some = λ e. cc;
    count = counted_item n (kind_items t.0) k (item_count r) m room t.2 c;
    same = ap (λ x. way_piece w ∷ (x ++ dotted word r)) t.3 ∙ ap (λ x. way_piece w ∷ open_piece w ∷ x) (append_assoc (kind_pieces word t.0) (close_piece w ∷ []) (dotted word r));
  }
  item_of w o n k m a r room deep (inr (inl t)) h c = record {
    place = choice w t.0 r;
    given = (deep, t.1, t.2, h);
    some = λ e. cc;
    count = counted_item n (arm_items t.0) k (item_count r) m room t.3 c;
    same = ap (λ x. way_piece w ∷ (x ++ dotted word r)) t.4 ∙ ap (λ x. way_piece w ∷ codes "{" ∷ x) (append_assoc (drop 1 (listed word t.0)) (codes "}" ∷ []) (dotted word r));
  }
  item_of w o n k m a r room deep (inr (inr t)) h c = record {
    place = repeat w t.0 r;
    given = (deep, t.1, h);
    some = λ e. cc;
    count = counted_item n (item_count t.0) k (item_count r) m room t.2 c;
    same = ap (λ x. way_piece w ∷ (x ++ dotted word r)) t.3 ∙ ap (λ x. way_piece w ∷ codes "[" ∷ x) (append_assoc (seq_pieces word t.0) (codes "]" ∷ codes "*" ∷ []) (dotted word r));
  }

  -- a due that items may be
  abbrev pub TakesItems : ℕ → ℕ → ProtocolDue → ℕ → Type 0
  TakesItems o n d m = (a : Pieces) (p : Place) → IsGiven L word o p → p ≢ done → Items n (item_count p) m → a ≡ seq_pieces word p → Spelled n d a m

  pub from_item : (o n c m : ℕ) (d : ProtocolDue) (es : List ProtocolDue) (s : List ℕ) (ts : Pieces) → TakesItems o n d m → (is_way s ≡ true → (n < L.items) × (c ≡ suc n)) → item_follow o s ≡ Some es → AllSpelled c es ts m → Spelled n d (s ∷ ts) m
  from_item o n c m d es s ts takes way e h = by_tests (bytes_eq s (codes "!")) (bytes_eq s (codes "?")) refl refl e way
    where
      items : (w : Way) → s ≡ way_piece w → n < L.items → (xs : Pieces) → AllSpelled (suc n) (behind o w ∷ more o ∷ []) xs m → Spelled n d (s ∷ xs) m
      items w same room _ (first {k} {a} t (first {a = b} r nothing)) =
          let item = item_of w o n k m a r.0 room t.0 t.1 r.1 r.2 in
          let all : a ++ (b ++ []) ≡ a ++ dotted word r.0 = ap (λ x. a ++ x) (append-nil b ∙ r.3) in
          takes (s ∷ (a ++ (b ++ []))) item.place item.given item.some item.count ((λ i. same i ∷ all i) ∙ item.same)

      at_way : (w : Way) → s ≡ way_piece w → (n < L.items) × (c ≡ suc n) → Some (behind o w ∷ more o ∷ []) ≡ Some es → Spelled n d (s ∷ ts) m
      at_way w same room f =
          let due : es ≡ behind o w ∷ more o ∷ [] = cc in
          items w same room.0 ts (subst (λ (j : ℕ). AllSpelled j (behind o w ∷ more o ∷ []) ts m) room.1 (subst (λ (gs : List ProtocolDue). AllSpelled c gs ts m) due h))

      by_tests : (x y : Bool) → bytes_eq s (codes "!") ≡ x → bytes_eq s (codes "?") ≡ y → (if x then Some (behind o Out ∷ more o ∷ []) else (if y then Some (behind o Into ∷ more o ∷ []) else None)) ≡ Some es
          → ((x || y) ≡ true → (n < L.items) × (c ≡ suc n)) → Spelled n d (s ∷ ts) m
      by_tests true y ex ey f way = at_way Out (test_is s (codes "!") ex) (way refl) f
      by_tests false true ex ey f way = at_way Into (test_is s (codes "?") ey) (way refl) f
      by_tests false false ex ey f way = let none : ⊥ = cc in absurd none

  -- an arm, and the arms after it
  pub record HasArm (o k n : ℕ) (ds : List ProtocolDue) (ts : Pieces) (m : ℕ) : Type 0 where
    pub choices : Choices
    pub some : choices ≢ no_choice
    pub given : AreGiven L word o k choices
    pub between : ℕ
    pub count : Items n (arm_items choices) between
    pub rest : Pieces
    pub behind : AllSpelled between ds rest m
    pub same : ts ≡ drop 1 (listed word choices) ++ rest
    pub whole : listed word choices ≡ codes "," ∷ drop 1 (listed word choices)

  pub arm_from : (o k n m : ℕ) (ds : List ProtocolDue) (ts : Pieces) → AllSpelled n (label k ∷ fixed (codes ":") ∷ maybe o ∷ arms o (suc k) ∷ ds) ts m → HasArm o k n ds ts m
  arm_from o k n m ds _ (first {k = j} {a} l (first {k = i} {a = b} f (first {k = h} {a = c} p (first {k = g} {a = d} {b = rest} r others)))) =
      let start : n ≡ i = l.3 ∙ f.0 in
      record {
        choices = arm l.0 p.0 r.0;
        some = λ e. cc;
        given = (l.1, l.2, p.1, r.1);
        between = g;
        count = counts_then L.items n (item_count p.0) h (arm_items r.0) g (subst (λ (x : ℕ). Items x (item_count p.0) h) (sym start) p.2) r.2;
        rest = rest;
        behind = others;
        same = (λ t. l.4 t ++ (f.1 t ++ (p.3 t ++ (r.3 t ++ rest)))) ∙ ap (λ x. word l.0 ∷ codes ":" ∷ x) (sym (append_assoc (seq_pieces word p.0) (listed word r.0) rest));
        whole = refl;
      }
