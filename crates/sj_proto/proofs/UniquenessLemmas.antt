-- The pieces of a protocol are those of no other, whatever follows them.
use Rattle.std.proofs.Common.{◌≡◌, ◌≢◌, ℕ, suc, ◌<◌, List, [], ◌∷◌, ◌++◌, drop, get_or, refl, ap, sym, ◌∙◌, append_assoc, arith, ◌⊎◌, inl, inr}
use Rattle.std.specs.Prelude.{codes}
use Rattle.std.proofs.lemmas.Bool.{cases_order}
use Rattle.sj_lang.specs.Place.{Place, Carried, Choices, done, message, choice, repeat, int, boolean, text, session, no_choice, arm}
use Rattle.sj_lang.specs.Limits.{Limits}
use Rattle.sj_grammar.specs.Tables.{IsNamed}
use Rattle.sj_grammar.specs.Positions.{Pieces}
use Rattle.sj_grammar.specs.Protocols.{close_piece, dotted, kind_pieces, listed, IsGiven, IsGivenKind, AreGiven}
use Rattle.sj_proto.proofs.FirstByteLemmas.{byte, Closes, same_way, way_byte, open_byte, close_closes, bracket, brace}

-- a name has one number
pub one_number : (L : Limits) (word : ℕ → List ℕ) (l m : ℕ) → IsNamed L word l → IsNamed L word m → word l ≡ word m → l ≡ m
one_number L word l m hl hm e = by_order (cases_order l m)
  where
    by_order : (l ≡ m) ⊎ ((l < m) ⊎ (m < l)) → l ≡ m
    by_order (inl h) = h
    by_order (inr (inl h)) = absurd (hm.first l h e)
    by_order (inr (inr h)) = absurd (hl.first m h (sym e))

module _ (word : ℕ → List ℕ) where
  -- arms alone, where there are some
  with_comma : (a b : Choices) (x y : Pieces) → a ≢ no_choice → b ≢ no_choice → drop 1 (listed word a) ++ x ≡ drop 1 (listed word b) ++ y → listed word a ++ x ≡ listed word b ++ y
  with_comma no_choice b x y na nb e = absurd (na refl)
  with_comma (arm l p a) no_choice x y na nb e = absurd (nb refl)
  with_comma (arm l p a) (arm m q b) x y na nb e = ap (λ t. codes "," ∷ t) e

  -- items alone, from items that each have a dot before them
  seqs_from : (p q : Place) (x y : Pieces) → (dotted word p ++ x ≡ dotted word q ++ y → (p ≡ q) × (x ≡ y)) → Closes x → Closes y
      → drop 1 (dotted word p) ++ x ≡ drop 1 (dotted word q) ++ y → (p ≡ q) × (x ≡ y)
  seqs_from done done x y u cx cy e = (refl, e)
  seqs_from done (message w k r) x y u cx cy e = absurd (way_byte w (λ b. cx.1 (ap (byte 0) e ∙ b)) (λ b. cx.2 (ap (byte 0) e ∙ b)))
  seqs_from done (choice w k r) x y u cx cy e = absurd (way_byte w (λ b. cx.1 (ap (byte 0) e ∙ b)) (λ b. cx.2 (ap (byte 0) e ∙ b)))
  seqs_from done (repeat w k r) x y u cx cy e = absurd (way_byte w (λ b. cx.1 (ap (byte 0) e ∙ b)) (λ b. cx.2 (ap (byte 0) e ∙ b)))
  seqs_from (message w k r) done x y u cx cy e = absurd (way_byte w (λ b. cy.1 (sym (ap (byte 0) e) ∙ b)) (λ b. cy.2 (sym (ap (byte 0) e) ∙ b)))
  seqs_from (choice w k r) done x y u cx cy e = absurd (way_byte w (λ b. cy.1 (sym (ap (byte 0) e) ∙ b)) (λ b. cy.2 (sym (ap (byte 0) e) ∙ b)))
  seqs_from (repeat w k r) done x y u cx cy e = absurd (way_byte w (λ b. cy.1 (sym (ap (byte 0) e) ∙ b)) (λ b. cy.2 (sym (ap (byte 0) e) ∙ b)))
  seqs_from (message w k r) (message v l s) x y u cx cy e = u (ap (λ t. codes "." ∷ t) e)
  seqs_from (message w k r) (choice v l s) x y u cx cy e = u (ap (λ t. codes "." ∷ t) e)
  seqs_from (message w k r) (repeat v l s) x y u cx cy e = u (ap (λ t. codes "." ∷ t) e)
  seqs_from (choice w k r) (message v l s) x y u cx cy e = u (ap (λ t. codes "." ∷ t) e)
  seqs_from (choice w k r) (choice v l s) x y u cx cy e = u (ap (λ t. codes "." ∷ t) e)
  seqs_from (choice w k r) (repeat v l s) x y u cx cy e = u (ap (λ t. codes "." ∷ t) e)
  seqs_from (repeat w k r) (message v l s) x y u cx cy e = u (ap (λ t. codes "." ∷ t) e)
  seqs_from (repeat w k r) (choice v l s) x y u cx cy e = u (ap (λ t. codes "." ∷ t) e)
  seqs_from (repeat w k r) (repeat v l s) x y u cx cy e = u (ap (λ t. codes "." ∷ t) e)

  -- a word where an item could stand
  no_item : (first : List ℕ) (x y : Pieces) (q : Place) → q ≢ done → (get_or first 0 0 ≢ 33) → (get_or first 0 0 ≢ 63) → first ∷ x ≡ drop 1 (dotted word q) ++ y → ⊥
  no_item first x y done nd a b e = nd refl
  no_item first x y (message w k r) nd a b e = way_byte w (λ c. a (ap (byte 0) e ∙ c)) (λ c. b (ap (byte 0) e ∙ c))
  no_item first x y (choice w k r) nd a b e = way_byte w (λ c. a (ap (byte 0) e ∙ c)) (λ c. b (ap (byte 0) e ∙ c))
  no_item first x y (repeat w k r) nd a b e = way_byte w (λ c. a (ap (byte 0) e ∙ c)) (λ c. b (ap (byte 0) e ∙ c))

  -- nothing but the arms of the two choices is between
  closes_listed : (a : Choices) (x : Pieces) → Closes x → Closes (listed word a ++ x)
  closes_listed no_choice x c = c
  closes_listed (arm l p a) x c = (λ e. omega (arith, e), λ e. omega (arith, e), λ e. omega (arith, e))

  module _ (L : Limits) where
    mutual
      pub unique : (p q : Place) (o : ℕ) (x y : Pieces) → IsGiven L word o p → IsGiven L word o q → byte 0 x ≢ 46 → byte 0 y ≢ 46 → dotted word p ++ x ≡ dotted word q ++ y → (p ≡ q) × (x ≡ y)
      unique done done o x y hp hq nx ny e = (refl, e)
      unique done (message w k r) o x y hp hq nx ny e = absurd (nx (ap (byte 0) e))
      unique done (choice w k r) o x y hp hq nx ny e = absurd (nx (ap (byte 0) e))
      unique done (repeat w k r) o x y hp hq nx ny e = absurd (nx (ap (byte 0) e))
      unique (message w k r) done o x y hp hq nx ny e = absurd (ny (sym (ap (byte 0) e)))
      unique (choice w k r) done o x y hp hq nx ny e = absurd (ny (sym (ap (byte 0) e)))
      unique (repeat w k r) done o x y hp hq nx ny e = absurd (ny (sym (ap (byte 0) e)))
      unique (message w k r) (choice v l s) o x y hp hq nx ny e = absurd ((open_byte w).0 (ap (byte 2) e))
      unique (message w k r) (repeat v l s) o x y hp hq nx ny e = absurd ((open_byte w).1 (ap (byte 2) e))
      unique (choice w k r) (message v l s) o x y hp hq nx ny e = absurd ((open_byte v).0 (sym (ap (byte 2) e)))
      unique (repeat w k r) (message v l s) o x y hp hq nx ny e = absurd ((open_byte v).1 (sym (ap (byte 2) e)))
      unique (choice w k r) (repeat v l s) o x y hp hq nx ny e = absurd (omega (arith, ap (byte 2) e))
      unique (repeat w k r) (choice v l s) o x y hp hq nx ny e = absurd (omega (arith, ap (byte 2) e))
      unique (message w k r) (message v l s) o x y hp hq nx ny e =
          let ways = same_way w v (ap (λ (ps : Pieces). get_or ps 1 []) e) in
          let inner : kind_pieces word k ++ (close_piece w ∷ dotted word r ++ x) ≡ kind_pieces word l ++ (close_piece v ∷ dotted word s ++ y) =
          sym (append_assoc (kind_pieces word k) (close_piece w ∷ dotted word r) x) ∙ ap (drop 3) e ∙ append_assoc (kind_pieces word l) (close_piece v ∷ dotted word s) y in
          let kinds = unique_kind k l (suc o) (close_piece w ∷ dotted word r ++ x) (close_piece v ∷ dotted word s ++ y) hp.1 hq.1 (close_closes w (dotted word r ++ x)) (close_closes v (dotted word s ++ y)) inner in
          let rest = unique r s o x y hp.2 hq.2 nx ny (ap (drop 1) kinds.1) in
          (λ i. message (ways i) (kinds.0 i) (rest.0 i), rest.1)
      unique (choice w a r) (choice v b s) o x y hp hq nx ny e =
          let ways = same_way w v (ap (λ (ps : Pieces). get_or ps 1 []) e) in
          let inner : drop 1 (listed word a) ++ (codes "}" ∷ dotted word r ++ x) ≡ drop 1 (listed word b) ++ (codes "}" ∷ dotted word s ++ y) =
          sym (append_assoc (drop 1 (listed word a)) (codes "}" ∷ dotted word r) x) ∙ ap (drop 3) e ∙ append_assoc (drop 1 (listed word b)) (codes "}" ∷ dotted word s) y in
          let arms = unique_arms a b (suc o) 0 (codes "}" ∷ dotted word r ++ x) (codes "}" ∷ dotted word s ++ y) hp.2 hq.2 (λ c. omega (arith, c)) (λ c. omega (arith, c)) (brace (dotted word r ++ x)) (brace (dotted word s ++ y)) (with_comma a b (codes "}" ∷ dotted word r ++ x) (codes "}" ∷ dotted word s ++ y) hp.1 hq.1 inner) in
          let rest = unique r s o x y hp.3 hq.3 nx ny (ap (drop 1) arms.1) in
          (λ i. choice (ways i) (arms.0 i) (rest.0 i), rest.1)
      unique (repeat w p r) (repeat v q s) o x y hp hq nx ny e =
          let ways = same_way w v (ap (λ (ps : Pieces). get_or ps 1 []) e) in
          let inner : drop 1 (dotted word p) ++ (codes "]" ∷ codes "*" ∷ dotted word r ++ x) ≡ drop 1 (dotted word q) ++ (codes "]" ∷ codes "*" ∷ dotted word s ++ y) =
          sym (append_assoc (drop 1 (dotted word p)) (codes "]" ∷ codes "*" ∷ dotted word r) x) ∙ ap (drop 3) e ∙ append_assoc (drop 1 (dotted word q)) (codes "]" ∷ codes "*" ∷ dotted word s) y in
          let body = seqs_from p q (codes "]" ∷ codes "*" ∷ dotted word r ++ x) (codes "]" ∷ codes "*" ∷ dotted word s ++ y) (unique p q (suc o) (codes "]" ∷ codes "*" ∷ dotted word r ++ x) (codes "]" ∷ codes "*" ∷ dotted word s ++ y) hp.1 hq.1 (λ c. omega (arith, c)) (λ c. omega (arith, c)))
          (bracket (codes "*" ∷ dotted word r ++ x)) (bracket (codes "*" ∷ dotted word s ++ y)) inner in
          let rest = unique r s o x y hp.2 hq.2 nx ny (ap (drop 2) body.1) in
          (λ i. repeat (ways i) (body.0 i) (rest.0 i), rest.1)

      unique_kind : (k l : Carried) (o : ℕ) (x y : Pieces) → IsGivenKind L word o k → IsGivenKind L word o l → Closes x → Closes y → kind_pieces word k ++ x ≡ kind_pieces word l ++ y → (k ≡ l) × (x ≡ y)
      unique_kind int int o x y hk hl cx cy e = (refl, ap (drop 1) e)
      unique_kind boolean boolean o x y hk hl cx cy e = (refl, ap (drop 1) e)
      unique_kind text text o x y hk hl cx cy e = (refl, ap (drop 1) e)
      unique_kind int boolean o x y hk hl cx cy e = absurd (omega (arith, ap (byte 0) e))
      unique_kind int text o x y hk hl cx cy e = absurd (omega (arith, ap (byte 0) e))
      unique_kind boolean int o x y hk hl cx cy e = absurd (omega (arith, ap (byte 0) e))
      unique_kind boolean text o x y hk hl cx cy e = absurd (omega (arith, ap (byte 0) e))
      unique_kind text int o x y hk hl cx cy e = absurd (omega (arith, ap (byte 0) e))
      unique_kind text boolean o x y hk hl cx cy e = absurd (omega (arith, ap (byte 0) e))
      unique_kind int (session q) o x y hk hl cx cy e = absurd (no_item _ x y q hl.0 (λ c. omega (arith, c)) (λ c. omega (arith, c)) e)
      unique_kind boolean (session q) o x y hk hl cx cy e = absurd (no_item _ x y q hl.0 (λ c. omega (arith, c)) (λ c. omega (arith, c)) e)
      unique_kind text (session q) o x y hk hl cx cy e = absurd (no_item _ x y q hl.0 (λ c. omega (arith, c)) (λ c. omega (arith, c)) e)
      unique_kind (session p) int o x y hk hl cx cy e = absurd (no_item _ y x p hk.0 (λ c. omega (arith, c)) (λ c. omega (arith, c)) (sym e))
      unique_kind (session p) boolean o x y hk hl cx cy e = absurd (no_item _ y x p hk.0 (λ c. omega (arith, c)) (λ c. omega (arith, c)) (sym e))
      unique_kind (session p) text o x y hk hl cx cy e = absurd (no_item _ y x p hk.0 (λ c. omega (arith, c)) (λ c. omega (arith, c)) (sym e))
      unique_kind (session p) (session q) o x y hk hl cx cy e =
          let both = seqs_from p q x y (unique p q o x y hk.1 hl.1 cx.0 cy.0) cx cy e in
          (ap session both.0, both.1)

      unique_arms : (a b : Choices) (o n : ℕ) (x y : Pieces) → AreGiven L word o n a → AreGiven L word o n b → byte 0 x ≢ 44 → byte 0 y ≢ 44 → Closes x → Closes y → listed word a ++ x ≡ listed word b ++ y → (a ≡ b) × (x ≡ y)
      unique_arms no_choice no_choice o n x y ha hb nx ny cx cy e = (refl, e)
      unique_arms no_choice (arm l p b) o n x y ha hb nx ny cx cy e = absurd (nx (ap (byte 0) e))
      unique_arms (arm l p a) no_choice o n x y ha hb nx ny cx cy e = absurd (ny (sym (ap (byte 0) e)))
      unique_arms (arm l p a) (arm m q b) o n x y ha hb nx ny cx cy e =
          let labels = one_number L word l m ha.1 hb.1 (ap (λ (ps : Pieces). get_or ps 1 []) e) in
          let inner : drop 1 (dotted word p) ++ (listed word a ++ x) ≡ drop 1 (dotted word q) ++ (listed word b ++ y) =
          sym (append_assoc (drop 1 (dotted word p)) (listed word a) x) ∙ ap (drop 3) e ∙ append_assoc (drop 1 (dotted word q)) (listed word b) y in
          let ca = closes_listed a x cx in
          let cb = closes_listed b y cy in
          let first = seqs_from p q (listed word a ++ x) (listed word b ++ y) (unique p q o (listed word a ++ x) (listed word b ++ y) ha.2 hb.2 ca.0 cb.0) ca cb inner in
          let rest = unique_arms a b o (suc n) x y ha.3 hb.3 nx ny cx cy first.1 in
          (λ i. arm (labels i) (first.0 i) (rest.0 i), rest.1)
