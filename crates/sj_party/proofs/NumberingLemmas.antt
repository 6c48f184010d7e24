-- A protocol that can be written is one of the grammar within wide limits,
-- once each label has its first number.
use Rattle.std.proofs.Common.{◌≡◌, ◌≢◌, ℕ, suc, ◌<◌, ◌≤◌, List, ◌∷◌, ◌++◌, drop, refl, ap, sym, subst}
use Rattle.std.specs.Prelude.{IsTrue, codes}
use Rattle.sj_lang.specs.Place.{Place, Carried, Choices, done, message, choice, repeat, int, boolean, text, session, no_choice, arm}
use Rattle.sj_lang.specs.ItemCount.{item_count}
use Rattle.sj_grammar.specs.Names.{is_name}
use Rattle.sj_grammar.specs.Tables.{IsNamed}
use Rattle.sj_grammar.specs.Positions.{Pieces}
use Rattle.sj_grammar.specs.Protocols.{way_piece, open_piece, close_piece, dotted, kind_pieces, listed, body_pieces, IsGiven, IsGivenKind, AreGiven, IsBody}
use Rattle.sj_grammar.proofs.SpellingLemmas.{first_of}
use Rattle.sj_proto.specs.Writable.{IsWritable, CanBeCarried, AreWritable}
use Rattle.sj_party.proofs.LimitLemmas.{Widely, widely, widely_two, widely_three, named_widely}

module _ (word : ℕ → List ℕ) where
  -- the same pieces, whatever brackets stand around them
  abbrev Numbered : Place → Type 0
  Numbered p = (q : Place) × (dotted word q ≡ dotted word p) × (p ≢ done → q ≢ done) × ((o : ℕ) → Widely (λ M. IsGiven M word o q))

  abbrev NumberedKind : Carried → Type 0
  NumberedKind k = (j : Carried) × (kind_pieces word j ≡ kind_pieces word k) × ((o : ℕ) → Widely (λ M. IsGivenKind M word o j))

  abbrev NumberedArms : Choices → Type 0
  NumberedArms c = (d : Choices) × (listed word d ≡ listed word c) × (c ≢ no_choice → d ≢ no_choice) × ((o k : ℕ) → Widely (λ M. AreGiven M word o k d))

  -- inside so many brackets there is room for one more
  room : (o : ℕ) → Widely (λ M. o < M.nesting)
  room o = (suc o, λ M w. w.nesting)

  -- each label by its first number
  mutual
    numbered : (p : Place) → IsWritable word p → Numbered p
    numbered done h = (done, refl, (λ f. f), λ o. (0, λ M w. tt))
    numbered (message w k rest) h =
        let x = numbered_kind k h.0 in
        let y = numbered rest h.1 in (
          message w x.0 y.0,
          (λ i. codes "." ∷ way_piece w ∷ open_piece w ∷ (x.1 i ++ close_piece w ∷ y.1 i)),
          (λ f e. cc),
          λ o. widely_three (λ M. o < M.nesting) (λ M. IsGivenKind M word (suc o) x.0) (λ M. IsGiven M word o y.0) (λ M. IsGiven M word o (message w x.0 y.0)) (λ M a b c. (a, b, c)) (room o) (x.2 (suc o)) (y.3 o),
        )
    numbered (choice w c rest) h =
        let x = numbered_arms c h.1 in
        let y = numbered rest h.2 in (
          choice w x.0 y.0,
          (λ i. codes "." ∷ way_piece w ∷ codes "{" ∷ (drop 1 (x.1 i) ++ codes "}" ∷ y.1 i)),
          (λ f e. cc),
          λ o. widely_three (λ M. o < M.nesting) (λ M. AreGiven M word (suc o) 0 x.0) (λ M. IsGiven M word o y.0) (λ M. IsGiven M word o (choice w x.0 y.0)) (λ M a b g. (a, x.2 h.0, b, g)) (room o) (x.3 (suc o) 0) (y.3 o),
        )
    numbered (repeat w p rest) h =
        let x = numbered p h.0 in
        let y = numbered rest h.1 in (
          repeat w x.0 y.0,
          (λ i. codes "." ∷ way_piece w ∷ codes "[" ∷ (drop 1 (x.1 i) ++ codes "]" ∷ codes "*" ∷ y.1 i)),
          (λ f e. cc),
          λ o. widely_three (λ M. o < M.nesting) (λ M. IsGiven M word (suc o) x.0) (λ M. IsGiven M word o y.0) (λ M. IsGiven M word o (repeat w x.0 y.0)) (λ M a b c. (a, b, c)) (room o) (x.3 (suc o)) (y.3 o),
        )

    numbered_kind : (k : Carried) → CanBeCarried word k → NumberedKind k
    numbered_kind int h = (int, refl, λ o. (0, λ M w. tt))
    numbered_kind boolean h = (boolean, refl, λ o. (0, λ M w. tt))
    numbered_kind text h = (text, refl, λ o. (0, λ M w. tt))
    numbered_kind (session p) h =
        let x = numbered p h.1 in
        (session x.0, ap (drop 1) x.1, λ o. widely (λ M. IsGiven M word o x.0) (λ M. IsGivenKind M word o (session x.0)) (λ M a. (x.2 h.0, a)) (x.3 o))

    numbered_arms : (c : Choices) → AreWritable word c → NumberedArms c
    numbered_arms no_choice h = (no_choice, refl, (λ f. f), λ o k. (0, λ M w. tt))
    numbered_arms (arm l p c) h =
        let n = first_of word l in
        let x = numbered p h.1 in
        let y = numbered_arms c h.2 in
        let named = named_widely word n.0 (subst (λ (s : List ℕ). IsTrue (is_name s)) (sym n.1) h.0) n.2 in (
          arm n.0 x.0 y.0,
          (λ i. codes "," ∷ n.1 i ∷ codes ":" ∷ (drop 1 (x.1 i) ++ y.1 i)),
          (λ f e. cc),
          λ o k. widely_three (λ M. (k < M.labels) × IsNamed M word n.0) (λ M. IsGiven M word o x.0) (λ M. AreGiven M word o (suc k) y.0) (λ M. AreGiven M word o k (arm n.0 x.0 y.0)) (λ M a b g. (a.0, a.1, b, g))
              (widely_two (λ M. k < M.labels) (λ M. IsNamed M word n.0) (λ M. (k < M.labels) × IsNamed M word n.0) (λ M a b. (a, b)) (suc k, λ M w. w.labels) named) (x.3 o) (y.3 o (suc k)),
        )

  -- a whole protocol
  pub numbered_body : (p : Place) → IsWritable word p → (q : Place) × (body_pieces word q ≡ body_pieces word p) × Widely (λ M. IsBody M word q)
  numbered_body p h =
      let x = numbered p h in (
        x.0,
        ap (λ (a : Pieces). codes "begin" ∷ a) x.1,
        widely_two (λ M. IsGiven M word 0 x.0) (λ M. item_count x.0 ≤ M.items) (λ M. IsBody M word x.0) (λ M a b. record { given = a; few = b }) (x.3 0) (item_count x.0, λ M w. w.items),
      )
