-- What is due after a token of a statement, and the token,
-- are what was due before it, within limits.
use Rattle.std.proofs.Common.{◌≡◌, ℕ, suc, ◌<◌, ◌≤◌, Bool, true, false, List, [], ◌∷◌, ◌++◌, length, Option, Some, None, refl, sym, subst, ◌⊎◌, inl, inr}
use Rattle.std.specs.Prelude.{codes, if◌then◌else◌, IsTrue, nat_lt}
use Rattle.std.specs.Str.{bytes_eq}
use Rattle.std.proofs.lemmas.Bool.{ltb-false}
use Rattle.sj_lang.specs.declared.party.Scalar.{Scalar}
use Rattle.sj_lang.specs.declared.party.Scalar.TheVariants.{Int, Boolean, Text}
use Rattle.sj_lang.specs.Code.{branch}
use Rattle.sj_lang.specs.Limits.{Limits}
use Rattle.sj_grammar.specs.Names.{is_name}
use Rattle.sj_grammar.specs.Tables.{Spelling, IsNamed}
use Rattle.sj_grammar.specs.Positions.{Piece, plain}
use Rattle.sj_grammar.specs.ExpressionDues.{whole}
use Rattle.sj_grammar.specs.Statements.{scalar_piece, braced}
use Rattle.sj_grammar.specs.Statements as grammar
use Rattle.sj_grammar.specs.FileDues.{Due, stmts, block, branches, awaited, name, fixed, expr, semicolon, file_follow, statement_follow, awaited_follow}
use Rattle.sj_expr.proofs.TestLemmas.{bytes_same}
use Rattle.sj_party.specs.Alike.{AreAlike}
use Rattle.sj_party_laws.proofs.ChainLemmas.{nothing, first}
use Rattle.sj_party_laws.proofs.TermLemmas.{IsKnown}
use Rattle.sj_party_laws.proofs.FilledLemmas.{Spelled, AllSpelled, lines_alike}
use Rattle.sj_party_laws.proofs.StatementLemmas.{Makes, send_made, delegate_made, take_made, outbranch_made, inbranch_made, outwhile_made, inwhile_made, relay_made, if_made, let_made, close_made, request_made, accept_made, lone, statement_then}

-- a token with nothing after it
pub last_alike : (L : Limits) (names : Spelling) (n m : ℕ) (p : Piece) (x : List ℕ) (ts : List Piece) → x ≡ p.spelled → AllSpelled L names n [] ts m → AreAlike (plain x ∷ []) (p ∷ ts)
last_alike L names n m p x _ same nothing = (same, tt, tt)

module _ (L : Limits) (names : Spelling) (n m : ℕ) where
  -- where a test is met these are due; or it is the others'
  chosen : (b : Bool) (ds : List Due) (others : Option (List Due)) (es : List Due) (ts : List Piece) → (if b then Some ds else others) ≡ Some es → AllSpelled L names n es ts m → ((b ≡ true) × AllSpelled L names n ds ts m) ⊎ (others ≡ Some es)
  chosen true ds others es ts e h = let due : es ≡ ds = cc in inl (refl, subst (λ (gs : List Due). AllSpelled L names n gs ts m) due h)
  chosen false ds others es ts e h = inr e

  -- and where there are no others
  pub met : (b : Bool) (ds es : List Due) (ts : List Piece) → (if b then Some ds else None) ≡ Some es → AllSpelled L names n es ts m → (b ≡ true) × AllSpelled L names n ds ts m
  met b ds es ts e h = elim (chosen b ds None es ts e h) [ inl x ↦ x | inr f ↦ let none : ⊥ = cc in absurd none ]

  -- a statement by its first word
  pub statement_back : (o : ℕ) (p : Piece) (es : List Due) (ts : List Piece) → statement_follow o p.spelled ≡ Some es → AllSpelled L names n es ts m → Spelled L names n (stmts o) (p ∷ ts) m
  unfolding statement_follow
  statement_back o p es ts e h =
      by_word (codes "send") (name ∷ expr whole ∷ semicolon ∷ []) _ (λ k. send_made L names o p n k) e
      (λ e. by_word (codes "delegate") (name ∷ name ∷ semicolon ∷ []) _ (λ k. delegate_made L names o p n k) e
      (λ e. by_word (codes "recv") (name ∷ name ∷ awaited ∷ semicolon ∷ []) _ (λ k. take_made L names o p n k) e
      (λ e. by_word (codes "outbranch") (name ∷ name ∷ semicolon ∷ []) _ (λ k. outbranch_made L names o p n k) e
      (λ e. by_word (codes "inbranch") (name ∷ fixed (codes "{") ∷ name ∷ fixed (codes ":") ∷ block o ∷ branches o ∷ fixed (codes "}") ∷ []) _ (λ k. inbranch_made L names o p n k) e
      (λ e. by_word (codes "outwhile") (name ∷ expr whole ∷ block o ∷ []) _ (λ k. outwhile_made L names o p n k) e
      (λ e. by_word (codes "inwhile") (name ∷ block o ∷ []) _ (λ k. inwhile_made L names o p n k) e
      (λ e. by_word (codes "relay") (name ∷ name ∷ block o ∷ []) _ (λ k. relay_made L names o p n k) e
      (λ e. by_word (codes "if") (expr whole ∷ block o ∷ fixed (codes "else") ∷ block o ∷ []) _ (λ k. if_made L names o p n k) e
      (λ e. by_word (codes "let") (name ∷ fixed (codes "=") ∷ expr whole ∷ semicolon ∷ []) _ (λ k. let_made L names o p n k) e
      (λ e. by_word (codes "close") (name ∷ semicolon ∷ []) _ (λ k. close_made L names o p n k) e
      (λ e. by_word (codes "request") (name ∷ name ∷ fixed (codes "to") ∷ name ∷ semicolon ∷ []) _ (λ k. request_made L names o p n k) e
      (λ e. by_word (codes "accept") (name ∷ name ∷ fixed (codes "from") ∷ name ∷ semicolon ∷ []) None (λ k. accept_made L names o p n k) e (λ e. let none : ⊥ = cc in absurd none)))))))))))))
    where
      by_word : (w : List ℕ) (front : List Due) (others : Option (List Due)) → ((k : ℕ) (x : List Piece) → p.spelled ≡ w → AllSpelled L names n front x k → Makes L names o p x) → (if bytes_eq p.spelled w then Some (front ++ stmts o ∷ []) else others) ≡ Some es
          → (others ≡ Some es → Spelled L names n (stmts o) (p ∷ ts) m) → Spelled L names n (stmts o) (p ∷ ts) m
      by_word w front others makes e other =
          elim (chosen (bytes_eq p.spelled w) (front ++ stmts o ∷ []) others es ts e h) [
            | inl x ↦ statement_then L names o p n m front ts (λ k y. makes k y (bytes_same p.spelled w x.0)) x.1
            | inr f ↦ other f
          ]

  -- what a `recv` awaits
  pub awaited_back : (p : Piece) (es : List Due) (ts : List Piece) → awaited_follow p.spelled ≡ Some es → AllSpelled L names n es ts m → Spelled L names n awaited (p ∷ ts) m
  awaited_back p es ts e h = scalar Int _ e (λ e. scalar Boolean _ e (λ e. scalar Text _ e session))
    where
      scalar : (k : Scalar) (others : Option (List Due)) → (if bytes_eq p.spelled (scalar_piece k) then Some [] else others) ≡ Some es → (others ≡ Some es → Spelled L names n awaited (p ∷ ts) m) → Spelled L names n awaited (p ∷ ts) m
      scalar k others e other =
          elim (chosen (bytes_eq p.spelled (scalar_piece k)) [] others es ts e h) [
            | inl x ↦ inl (k, last_alike L names n m p (scalar_piece k) ts (sym (bytes_same p.spelled (scalar_piece k) x.0)) x.1)
            | inr f ↦ other f
          ]

      session : (if bytes_eq p.spelled (codes "session") then Some (name ∷ []) else None) ≡ Some es → Spelled L names n awaited (p ∷ ts) m
      session e =
          let x = met (bytes_eq p.spelled (codes "session")) (name ∷ []) es ts e h in
          let q = lone L names 0 p n m name ts x.1 in
          inr (q.0, q.1, (sym (bytes_same p.spelled (codes "session") x.0), tt, q.2))

  -- a block by its brace
  pub block_back : (o : ℕ) (p : Piece) (es : List Due) (ts : List Piece) → o < L.nesting → file_follow (block o) p.spelled ≡ Some es → AllSpelled L names n es ts m → Spelled L names n (block o) (p ∷ ts) m
  block_back o p es ts deep e h =
      let x = met (bytes_eq p.spelled (codes "{")) (stmts (suc o) ∷ fixed (codes "}") ∷ []) es ts e h in
      closed (bytes_same p.spelled (codes "{") x.0) ts x.1
    where
      closed : p.spelled ≡ codes "{" → (xs : List Piece) → AllSpelled L names n (stmts (suc o) ∷ fixed (codes "}") ∷ []) xs m → Spelled L names n (block o) (p ∷ xs) m
      closed same _ (first {k = k} c (first f nothing)) =
          (c.0, braced c.1, grammar.of_code deep c.2, (sym same, tt, lines_alike L names n m (stmts (suc o) ∷ fixed (codes "}") ∷ []) _ (first {k = k} c (first f nothing))))

  -- a held name has its first number
  pub name_held : (p : Piece) → IsKnown names p.spelled → nat_lt L.name (length p.spelled) ≡ false → is_name p.spelled ≡ true → (x : ℕ) × IsNamed L names.word x × (names.word x ≡ p.spelled)
  name_held p held room t =
      let x = held.name t in
      let named : IsTrue (is_name (names.word x.0)) = subst (λ (s : List ℕ). IsTrue (is_name s)) (sym x.1) t in
      (x.0, record { name = named; short = subst (λ (s : List ℕ). length s ≤ L.name) (sym x.1) (ltb-false L.name (length p.spelled) room); first = x.2 }, x.1)

  -- arms by the label of the first
  pub arms_back : (o : ℕ) (p : Piece) (es : List Due) (ts : List Piece) → IsKnown names p.spelled → nat_lt L.name (length p.spelled) ≡ false → file_follow (branches o) p.spelled ≡ Some es → AllSpelled L names n es ts m → Spelled L names n (branches o) (p ∷ ts) m
  arms_back o p es ts held room e h =
      let x = met (is_name p.spelled) (fixed (codes ":") ∷ block o ∷ branches o ∷ []) es ts e h in
      arm ts x.1 (name_held p held room x.0)
    where
      arm : (xs : List Piece) → AllSpelled L names n (fixed (codes ":") ∷ block o ∷ branches o ∷ []) xs m → (x : ℕ) × IsNamed L names.word x × (names.word x ≡ p.spelled) → Spelled L names n (branches o) (p ∷ xs) m
      arm _ (first {k = i} f (first {k = j} c (first r nothing))) x = (
        branch x.0 c.0 r.0,
        plain (names.word x.0) ∷ plain (codes ":") ∷ (c.1 ++ r.1),
        grammar.one_arm x.1 c.2 r.2,
        (x.2, tt, lines_alike L names n m (fixed (codes ":") ∷ block o ∷ branches o ∷ []) _ (first {k = i} f (first {k = j} c (first r nothing)))),
      )
