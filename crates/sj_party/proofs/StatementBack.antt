-- What is due after a token of a statement, and the token, are what was due before it.
use Rattle.std.proofs.Common.{◌≡◌, ℕ, suc, Bool, true, false, List, [], ◌∷◌, ◌++◌, Option, Some, None, refl, sym, subst, ◌⊎◌, inl, inr}
use Rattle.std.specs.Prelude.{codes, if◌then◌else◌, IsTrue}
use Rattle.std.specs.Str.{bytes_eq}
use Rattle.sj_lang.specs.declared.party.Scalar.{Scalar}
use Rattle.sj_lang.specs.declared.party.Scalar.TheVariants.{Int, Boolean, Text}
use Rattle.sj_lang.specs.Code.{branch}
use Rattle.sj_grammar.specs.Names.{is_name}
use Rattle.sj_grammar.specs.Tables.{Spelling}
use Rattle.sj_grammar.specs.Positions.{Pieces, plain}
use Rattle.sj_grammar.specs.ExpressionDues.{whole}
use Rattle.sj_grammar.specs.Statements.{scalar_piece, braced}
use Rattle.sj_grammar.specs.Statements as grammar
use Rattle.sj_grammar.specs.FileDues.{Due, stmts, block, branches, awaited, name, fixed, expr, semicolon, file_layer, file_follow, statement_follow, awaited_follow}
use Rattle.sj_grammar.proofs.SpellingLemmas.{IsHeld}
use Rattle.sj_grammar.proofs.CompletionLemmas.{lone}
use Rattle.sj_expr.proofs.TestLemmas.{bytes_same}
use Rattle.sj_party.proofs.LimitLemmas.{widely_two, widely_three, named_widely}
use Rattle.sj_party.proofs.DuePieceLemmas.{Named, Spelled, AllSpelled, lines_spelled}
use Rattle.sj_party.proofs.StatementLemmas.{Makes, send_made, delegate_made, take_made, outbranch_made, inbranch_made, outwhile_made, inwhile_made, relay_made, if_made, let_made, close_made, request_made, accept_made, statement_then}

module _ (names : Spelling) where
  -- where a test is met these are due; or it is the others'
  chosen : (b : Bool) (ds : List Due) (others : Option (List Due)) (es : List Due) (ts : Pieces) → (if b then Some ds else others) ≡ Some es → AllSpelled names es ts → ((b ≡ true) × AllSpelled names ds ts) ⊎ (others ≡ Some es)
  chosen true ds others es ts e h = let due : es ≡ ds = cc in inl (refl, subst (λ (gs : List Due). AllSpelled names gs ts) due h)
  chosen false ds others es ts e h = inr e

  -- and where there are no others
  pub met : (b : Bool) (ds es : List Due) (ts : Pieces) → (if b then Some ds else None) ≡ Some es → AllSpelled names es ts → (b ≡ true) × AllSpelled names ds ts
  met b ds es ts e h = elim (chosen b ds None es ts e h) [ inl x ↦ x | inr f ↦ let none : ⊥ = cc in absurd none ]

  -- a statement by its first word
  pub statement_back : (o : ℕ) (s : List ℕ) (es : List Due) (ts : Pieces) → statement_follow o s ≡ Some es → AllSpelled names es ts → Spelled names (stmts o) (s ∷ ts)
  unfolding statement_follow
  statement_back o s es ts e h =
      by_word (codes "send") (name ∷ expr whole ∷ semicolon ∷ []) _ (send_made names o) e
      (λ e. by_word (codes "delegate") (name ∷ name ∷ semicolon ∷ []) _ (delegate_made names o) e
      (λ e. by_word (codes "recv") (name ∷ name ∷ awaited ∷ semicolon ∷ []) _ (take_made names o) e
      (λ e. by_word (codes "outbranch") (name ∷ name ∷ semicolon ∷ []) _ (outbranch_made names o) e
      (λ e. by_word (codes "inbranch") (name ∷ fixed (codes "{") ∷ name ∷ fixed (codes ":") ∷ block o ∷ branches o ∷ fixed (codes "}") ∷ []) _ (inbranch_made names o) e
      (λ e. by_word (codes "outwhile") (name ∷ expr whole ∷ block o ∷ []) _ (outwhile_made names o) e
      (λ e. by_word (codes "inwhile") (name ∷ block o ∷ []) _ (inwhile_made names o) e
      (λ e. by_word (codes "relay") (name ∷ name ∷ block o ∷ []) _ (relay_made names o) e
      (λ e. by_word (codes "if") (expr whole ∷ block o ∷ fixed (codes "else") ∷ block o ∷ []) _ (if_made names o) e
      (λ e. by_word (codes "let") (name ∷ fixed (codes "=") ∷ expr whole ∷ semicolon ∷ []) _ (let_made names o) e
      (λ e. by_word (codes "close") (name ∷ semicolon ∷ []) _ (close_made names o) e
      (λ e. by_word (codes "request") (name ∷ name ∷ fixed (codes "to") ∷ name ∷ semicolon ∷ []) _ (request_made names o) e
      (λ e. by_word (codes "accept") (name ∷ name ∷ fixed (codes "from") ∷ name ∷ semicolon ∷ []) None (accept_made names o) e (λ e. let none : ⊥ = cc in absurd none)))))))))))))
    where
      by_word : (w : List ℕ) (front : List Due) (others : Option (List Due)) → ((x : Pieces) → AllSpelled names front x → Makes names o w x) → (if bytes_eq s w then Some (front ++ stmts o ∷ []) else others) ≡ Some es
          → (others ≡ Some es → Spelled names (stmts o) (s ∷ ts)) → Spelled names (stmts o) (s ∷ ts)
      by_word w front others makes e other =
          elim (chosen (bytes_eq s w) (front ++ stmts o ∷ []) others es ts e h) [ inl x ↦ statement_then names o s w front ts (bytes_same s w x.0) makes x.1 | inr f ↦ other f ]

  -- what a `recv` awaits
  pub awaited_back : (s : List ℕ) (es : List Due) (ts : Pieces) → awaited_follow s ≡ Some es → AllSpelled names es ts → Spelled names awaited (s ∷ ts)
  awaited_back s es ts e h = scalar Int _ e (λ e. scalar Boolean _ e (λ e. scalar Text _ e session))
    where
      scalar : (k : Scalar) (others : Option (List Due)) → (if bytes_eq s (scalar_piece k) then Some [] else others) ≡ Some es → (others ≡ Some es → Spelled names awaited (s ∷ ts)) → Spelled names awaited (s ∷ ts)
      scalar k others e other =
          elim (chosen (bytes_eq s (scalar_piece k)) [] others es ts e h) [ inl x ↦ inl (k, λ i. bytes_same s (scalar_piece k) x.0 i ∷ x.1 i) | inr f ↦ other f ]

      session : (if bytes_eq s (codes "session") then Some (name ∷ []) else None) ≡ Some es → Spelled names awaited (s ∷ ts)
      session e =
          let x = met (bytes_eq s (codes "session")) (name ∷ []) es ts e h in
          let n = lone file_layer (Spelled names) name ts x.1 in
          inr (n.0, n.1, λ i. bytes_same s (codes "session") x.0 i ∷ n.2 i)

  -- a block by its brace
  pub block_back : (o : ℕ) (s : List ℕ) (es : List Due) (ts : Pieces) → file_follow (block o) s ≡ Some es → AllSpelled names es ts → Spelled names (block o) (s ∷ ts)
  block_back o s es ts e h =
      let due = stmts (suc o) ∷ fixed (codes "}") ∷ [] in
      let x = met (bytes_eq s (codes "{")) due es ts e h in
      let c = x.1.2 in
      (c.0, braced c.1, widely_two _ _ _ (λ M a b. grammar.of_code a b) (suc o, λ M w. w.nesting) c.2, λ i. bytes_same s (codes "{") x.0 i ∷ sym (lines_spelled names due ts x.1) i)

  -- a held name has its first number
  pub name_held : (s : List ℕ) → IsHeld names s → is_name s ≡ true → (n : ℕ) × Named names n × (names.word n ≡ s)
  name_held s held t = let n = held.0 in (n.0, named_widely names.word n.0 (subst (λ (x : List ℕ). IsTrue (is_name x)) (sym n.1) t) n.2, n.1)

  -- arms by the label of the first
  pub arms_back : (o : ℕ) (s : List ℕ) (es : List Due) (ts : Pieces) → IsHeld names s → file_follow (branches o) s ≡ Some es → AllSpelled names es ts → Spelled names (branches o) (s ∷ ts)
  arms_back o s es ts held e h =
      let due = fixed (codes ":") ∷ block o ∷ branches o ∷ [] in
      let x = met (is_name s) due es ts e h in
      let n = name_held s held x.0 in
      let c = x.1.3.2 in
      let more = x.1.3.3.2 in (
        branch n.0 c.0 more.0,
        plain (names.word n.0) ∷ plain (codes ":") ∷ (c.1 ++ more.1),
        widely_three _ _ _ _ (λ M a b d. grammar.one_arm a b d) n.1 c.2 more.2,
        λ i. sym n.2 i ∷ sym (lines_spelled names due ts x.1) i,
      )
