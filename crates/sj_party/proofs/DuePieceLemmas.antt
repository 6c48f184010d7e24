-- Pieces that are what is due in a file, within wide limits,
-- and the lines that the grammar has for them.
use Rattle.std.proofs.Common.{◌≡◌, ℕ, true, List, [], ◌∷◌, ◌++◌, All, refl, sym, ◌∙◌, ◌⊎◌, inl, inr}
use Rattle.std.specs.Prelude.{codes}
use Rattle.std.proofs.lemmas.List.Elements.{All-nil}
use Rattle.sj_lang.specs.declared.party.Scalar.{Scalar}
use Rattle.sj_lang.specs.Code.{Code, Branches, no_stmt, no_branch}
use Rattle.sj_lang.specs.FileAt.{ProtocolAt, PartyAt, ConnectAt}
use Rattle.sj_grammar.specs.Tables.{Spelling, IsNamed}
use Rattle.sj_grammar.specs.Positions.{Pieces, Piece, plain, all_plain, spellings}
use Rattle.sj_grammar.specs.Statements.{scalar_piece, IsCode, IsBlock, AreArms}
use Rattle.sj_grammar.specs.Statements as statements
use Rattle.sj_grammar.specs.Files.{protocols_pieces, connects_pieces, IsProtocolDef, IsConnect, AreParties}
use Rattle.sj_grammar.specs.Files as files
use Rattle.sj_grammar.specs.FileDues.{Due, protocols, parties, connects, stmts, block, branches, awaited, name, fixed, proto, expr, file_layer, file_may_be_none}
use Rattle.sj_grammar.proofs.CompletionLemmas.{Alls}
use Rattle.sj_proto.proofs.LineLemmas.{spellings-append, spellings-plain}
use Rattle.sj_proto.proofs.DuePieceLemmas as protocol
use Rattle.sj_proto.proofs.CompletionLemmas as completed
use Rattle.sj_expr.proofs.CompletionLemmas as expression
use Rattle.sj_expr.proofs.FollowLemmas as unfollowed
use Rattle.sj_party.proofs.LimitLemmas.{Widely}

module _ (names : Spelling) where
  -- the number stands for a name
  abbrev pub Named : ℕ → Type 0
  Named n = Widely (λ M. IsNamed M names.word n)

  -- the pieces are what is due
  abbrev pub Spelled : Due → Pieces → Type 0
  Spelled (protocols k) a = (ps : List ProtocolAt) × Widely (λ M. All (IsProtocolDef M names) ps) × (a ≡ spellings (protocols_pieces names.word ps))
  Spelled (parties k) a = (qs : List PartyAt) × (b : List Piece) × Widely (λ M. AreParties M names qs b) × (a ≡ spellings b)
  Spelled (connects k) a = (cs : List ConnectAt) × Widely (λ M. All (IsConnect M names) cs) × (a ≡ spellings (connects_pieces names.word cs))
  Spelled (stmts o) a = (c : Code) × (b : List Piece) × Widely (λ M. IsCode M names o c b) × (a ≡ spellings b)
  Spelled (block o) a = (c : Code) × (b : List Piece) × Widely (λ M. IsBlock M names o c b) × (a ≡ spellings b)
  Spelled (branches o) a = (c : Branches) × (b : List Piece) × Widely (λ M. AreArms M names o c b) × (a ≡ spellings b)
  Spelled awaited a = ((k : Scalar) × (a ≡ scalar_piece k ∷ [])) ⊎ ((p : ℕ) × Named p × (a ≡ codes "session" ∷ names.word p ∷ []))
  Spelled name a = (n : ℕ) × Named n × (a ≡ names.word n ∷ [])
  Spelled (fixed p) a = a ≡ p ∷ []
  Spelled (proto d) a = protocol.Spelled names.word d a
  Spelled (expr d) a = expression.Spelled names d a

  -- and one after another
  abbrev pub AllSpelled : List Due → Pieces → Type 0
  AllSpelled ds ts = Alls file_layer Spelled ds ts

  -- the lines of what a `recv` awaits
  abbrev pub awaited_lines : (a : Pieces) → Spelled awaited a → List Piece
  awaited_lines a (inl x) = plain (scalar_piece x.0) ∷ []
  awaited_lines a (inr x) = plain (codes "session") ∷ plain (names.word x.0) ∷ []

  awaited_spelled : (a : Pieces) (x : Spelled awaited a) → spellings (awaited_lines a x) ≡ a
  awaited_spelled a (inl x) = sym x.1
  awaited_spelled a (inr x) = sym x.2

  -- their lines
  abbrev pub lines_one : (d : Due) (a : Pieces) → Spelled d a → List Piece
  lines_one (protocols k) a x = protocols_pieces names.word x.0
  lines_one (parties k) a x = x.1
  lines_one (connects k) a x = connects_pieces names.word x.0
  lines_one (stmts o) a x = x.1
  lines_one (block o) a x = x.1
  lines_one (branches o) a x = x.1
  lines_one awaited a x = awaited_lines a x
  lines_one name a x = plain (names.word x.0) ∷ []
  lines_one (fixed p) a x = plain p ∷ []
  lines_one (proto d) a x = all_plain a
  lines_one (expr d) a x = all_plain a

  spelled_one : (d : Due) (a : Pieces) (x : Spelled d a) → spellings (lines_one d a x) ≡ a
  spelled_one (protocols k) a x = sym x.2
  spelled_one (parties k) a x = sym x.3
  spelled_one (connects k) a x = sym x.2
  spelled_one (stmts o) a x = sym x.3
  spelled_one (block o) a x = sym x.3
  spelled_one (branches o) a x = sym x.3
  spelled_one awaited a x = awaited_spelled a x
  spelled_one name a x = sym x.2
  spelled_one (fixed p) a x = sym x
  spelled_one (proto d) a x = spellings-plain a
  spelled_one (expr d) a x = spellings-plain a

  -- the lines of dues one after another
  abbrev pub lines_of : (ds : List Due) (ts : Pieces) → AllSpelled ds ts → List Piece
  lines_of [] ts h = []
  lines_of (d ∷ []) ts h = lines_one d h.0 h.2
  lines_of (d ∷ e ∷ ds) ts h = lines_one d h.0 h.2 ++ lines_of (e ∷ ds) h.1 h.3

  pub lines_spelled : (ds : List Due) (ts : Pieces) (h : AllSpelled ds ts) → spellings (lines_of ds ts h) ≡ ts
  lines_spelled [] ts h = sym h
  lines_spelled (d ∷ []) ts h = spelled_one d h.0 h.2 ∙ expression.done names h.4 h.3
  lines_spelled (d ∷ e ∷ ds) ts h =
      let rest = lines_spelled (e ∷ ds) h.1 h.3 in
      let first = spelled_one d h.0 h.2 in
      spellings-append (lines_one d h.0 h.2) (lines_of (e ∷ ds) h.1 h.3) ∙ (λ i. first i ++ rest i) ∙ sym h.4

  -- nothing in the place of what need not be
  pub none_spelled : (d : Due) → file_may_be_none d ≡ true → Spelled d []
  none_spelled (protocols k) e = ([], (0, λ M w. All-nil (IsProtocolDef M names)), refl)
  none_spelled (parties k) e = ([], [], (0, λ M w. files.no_party), refl)
  none_spelled (connects k) e = ([], (0, λ M w. All-nil (IsConnect M names)), refl)
  none_spelled (stmts o) e = (no_stmt, [], (0, λ M w. statements.none), refl)
  none_spelled (block o) e = let no : ⊥ = cc in absurd no
  none_spelled (branches o) e = (no_branch, [], (0, λ M w. statements.no_arm), refl)
  none_spelled awaited e = let no : ⊥ = cc in absurd no
  none_spelled name e = let no : ⊥ = cc in absurd no
  none_spelled (fixed p) e = let no : ⊥ = cc in absurd no
  none_spelled (proto d) e = completed.none_spelled names.word d e
  none_spelled (expr d) e = unfollowed.none_spelled names d e
