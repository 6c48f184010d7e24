-- One more item, and one more arm.
use Rattle.std.proofs.Common.{◌≡◌, ℕ, suc, ◌+◌, List, [], ◌∷◌, ◌++◌, drop, length, refl, ap, sym, subst, ◌∙◌, append_assoc, append-nil, arith}
use Rattle.std.specs.Prelude.{codes}
use Rattle.sj_lang.specs.declared.proto.Item.{Item}
use Rattle.sj_lang.specs.declared.proto.Item.TheVariants.{Send, Recv, Select, Branch, OutLoop, InLoop}
use Rattle.sj_lang.specs.declared.proto.Arm.{Arm}
use Rattle.sj_lang.specs.Place.{Place, done, no_choice, arm}
use Rattle.sj_lang.specs.View.{followed, place_of, choices_of}
use Rattle.sj_lang.specs.ItemCount.{item_count, arm_items}
use Rattle.sj_lang.specs.Limits.{Limits}
use Rattle.sj_grammar.specs.Positions.{Pieces}
use Rattle.sj_grammar.specs.Protocols.{dotted, listed, seq_pieces, IsGiven, AreGiven}
use Rattle.sj_proto.specs.Items.{item_pieces}

seam : (xs : Pieces) (d : List ℕ) (ys : Pieces) → drop 1 (xs ++ d ∷ []) ++ ys ≡ drop 1 (xs ++ d ∷ ys)
seam [] d ys = refl
seam (x ∷ xs) d ys = append_assoc xs (d ∷ []) ys

longer : (xs : Pieces) (d : List ℕ) (ys more : Pieces) → drop 1 (xs ++ d ∷ ys) ++ more ≡ drop 1 ((xs ++ d ∷ ys) ++ more)
longer [] d ys more = refl
longer (x ∷ xs) d ys more = refl

pub item_count-followed : (i : Item) (rest : Place) → item_count (followed i rest) ≡ item_count (followed i done) + item_count rest
item_count-followed (Send k) rest = omega arith
item_count-followed (Recv k) rest = omega arith
item_count-followed (Select arms) rest = omega arith
item_count-followed (Branch arms) rest = omega arith
item_count-followed (OutLoop body) rest = omega arith
item_count-followed (InLoop body) rest = omega arith

pub item_count-push : (is : List Item) (i : Item) → item_count (place_of (is ++ i ∷ [])) ≡ item_count (place_of is) + item_count (followed i done)
item_count-push [] i = omega arith
item_count-push (j ∷ is) i = omega (arith, item_count-followed j (place_of (is ++ i ∷ [])), item_count-followed j (place_of is), item_count-push is i)

pub arm_items-push : (xs : List Arm) (x : Arm) → arm_items (choices_of (xs ++ x ∷ [])) ≡ arm_items (choices_of xs) + item_count x.rest
arm_items-push [] x = omega arith
arm_items-push (y ∷ xs) x = omega (arith, arm_items-push xs x)

module _ (word : ℕ → List ℕ) where
  -- an item and then the rest
  pub dotted-followed : (i : Item) (rest : Place) → dotted word (followed i rest) ≡ codes "." ∷ (item_pieces word i ++ dotted word rest)
  dotted-followed (Send k) rest = simp append_assoc
  dotted-followed (Recv k) rest = simp append_assoc
  dotted-followed (Select arms) rest = simp append_assoc
  dotted-followed (Branch arms) rest = simp append_assoc
  dotted-followed (OutLoop body) rest = simp append_assoc
  dotted-followed (InLoop body) rest = simp append_assoc

  pub dotted-push : (is : List Item) (i : Item) → dotted word (place_of (is ++ i ∷ [])) ≡ dotted word (place_of is) ++ codes "." ∷ item_pieces word i
  dotted-push [] i = dotted-followed i done ∙ ap (λ ps. codes "." ∷ ps) (append-nil (item_pieces word i))
  dotted-push (j ∷ is) i =
      dotted-followed j (place_of (is ++ i ∷ []))
      ∙ ap (λ ps. codes "." ∷ (item_pieces word j ++ ps)) (dotted-push is i)
      ∙ ap (λ ps. codes "." ∷ ps) (sym (append_assoc (item_pieces word j) (dotted word (place_of is)) (codes "." ∷ item_pieces word i)))
      ∙ sym (ap (λ ps. ps ++ codes "." ∷ item_pieces word i) (dotted-followed j (place_of is)))

  -- after a dot
  pub seq-push : (is : List Item) (i : Item) → drop 1 (dotted word (place_of is) ++ codes "." ∷ []) ++ item_pieces word i ≡ seq_pieces word (place_of (is ++ i ∷ []))
  seq-push is i = seam (dotted word (place_of is)) (codes ".") (item_pieces word i) ∙ sym (ap (drop 1) (dotted-push is i))

  pub seq-push_dot : (is : List Item) (i : Item) (more : Pieces) → seq_pieces word (place_of (is ++ i ∷ [])) ++ more ≡ drop 1 (dotted word (place_of (is ++ i ∷ [])) ++ more)
  seq-push_dot is i more =
      ap (λ ps. drop 1 ps ++ more) (dotted-push is i)
      ∙ longer (dotted word (place_of is)) (codes ".") (item_pieces word i) more
      ∙ sym (ap (λ ps. drop 1 (ps ++ more)) (dotted-push is i))

  abbrev pub arm_pieces : Arm → Pieces
  arm_pieces x = word x.label ∷ codes ":" ∷ seq_pieces word x.rest

  pub listed-push : (xs : List Arm) (x : Arm) → listed word (choices_of (xs ++ x ∷ [])) ≡ listed word (choices_of xs) ++ codes "," ∷ arm_pieces x
  listed-push [] x = ap (λ ps. codes "," ∷ word x.label ∷ codes ":" ∷ ps) (append-nil (seq_pieces word x.rest))
  listed-push (y ∷ xs) x =
      ap (λ ps. codes "," ∷ word y.label ∷ codes ":" ∷ (seq_pieces word y.rest ++ ps)) (listed-push xs x)
      ∙ ap (λ ps. codes "," ∷ word y.label ∷ codes ":" ∷ ps) (sym (append_assoc (seq_pieces word y.rest) (listed word (choices_of xs)) (codes "," ∷ arm_pieces x)))

  pub arms-push : (xs : List Arm) (x : Arm) → drop 1 (listed word (choices_of xs) ++ codes "," ∷ []) ++ arm_pieces x ≡ drop 1 (listed word (choices_of (xs ++ x ∷ [])))
  arms-push xs x = seam (listed word (choices_of xs)) (codes ",") (arm_pieces x) ∙ sym (ap (drop 1) (listed-push xs x))

  pub arms-push_comma : (xs : List Arm) (x : Arm) (more : Pieces) → drop 1 (listed word (choices_of (xs ++ x ∷ []))) ++ more ≡ drop 1 (listed word (choices_of (xs ++ x ∷ [])) ++ more)
  arms-push_comma xs x more =
      ap (λ ps. drop 1 ps ++ more) (listed-push xs x)
      ∙ longer (listed word (choices_of xs)) (codes ",") (arm_pieces x) more
      ∙ sym (ap (λ ps. drop 1 (ps ++ more)) (listed-push xs x))

  module _ (L : Limits) (o : ℕ) where
    IsGiven-followed : (i : Item) (p : Place) → IsGiven L word o (followed i done) → IsGiven L word o p → IsGiven L word o (followed i p)
    IsGiven-followed (Send k) p h g = (h.0, h.1, g)
    IsGiven-followed (Recv k) p h g = (h.0, h.1, g)
    IsGiven-followed (Select arms) p h g = (h.0, h.1, h.2, g)
    IsGiven-followed (Branch arms) p h g = (h.0, h.1, h.2, g)
    IsGiven-followed (OutLoop body) p h g = (h.0, h.1, g)
    IsGiven-followed (InLoop body) p h g = (h.0, h.1, g)

    first_given : (i : Item) (p : Place) → IsGiven L word o (followed i p) → IsGiven L word o (followed i done) × IsGiven L word o p
    first_given (Send k) p h = ((h.0, h.1, tt), h.2)
    first_given (Recv k) p h = ((h.0, h.1, tt), h.2)
    first_given (Select arms) p h = ((h.0, h.1, h.2, tt), h.3)
    first_given (Branch arms) p h = ((h.0, h.1, h.2, tt), h.3)
    first_given (OutLoop body) p h = ((h.0, h.1, tt), h.2)
    first_given (InLoop body) p h = ((h.0, h.1, tt), h.2)

    pub IsGiven-push : (is : List Item) (i : Item) → IsGiven L word o (place_of is) → IsGiven L word o (followed i done) → IsGiven L word o (place_of (is ++ i ∷ []))
    IsGiven-push [] i h g = g
    IsGiven-push (j ∷ is) i h g =
        let parts = first_given j (place_of is) h in
        IsGiven-followed j (place_of (is ++ i ∷ [])) parts.0 (IsGiven-push is i parts.1 g)

    pub AreGiven-push : (xs : List Arm) (x : Arm) (k m : ℕ) → m ≡ k + length xs → AreGiven L word o k (choices_of xs) → AreGiven L word o m (arm x.label x.rest no_choice) → AreGiven L word o k (choices_of (xs ++ x ∷ []))
    AreGiven-push [] x k m e h g = subst (λ (j : ℕ). AreGiven L word o j (arm x.label x.rest no_choice)) (e ∙ omega arith) g
    AreGiven-push (y ∷ xs) x k m e h g = (h.0, h.1, h.2, AreGiven-push xs x (suc k) m (omega arith) h.3 g)
