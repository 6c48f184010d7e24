-- The tokens that are what is due in a file, within limits,
-- and the pieces that the grammar has for them, on their lines.
use Rattle.std.proofs.Common.{◌≡◌, ℕ, ◌+◌, ◌≤◌, true, List, [], ◌∷◌, ◌++◌, length, All, refl, sym, subst, ◌⊎◌, inl, inr, arith, append-nil}
use Rattle.std.specs.Prelude.{codes}
use Rattle.std.proofs.lemmas.List.Elements.{All-nil}
use Rattle.sj_lang.specs.declared.party.Scalar.{Scalar}
use Rattle.sj_lang.specs.Code.{Code, Branches, no_stmt, no_branch}
use Rattle.sj_lang.specs.FileAt.{ProtocolAt, PartyAt, ConnectAt}
use Rattle.sj_lang.specs.Limits.{Limits}
use Rattle.sj_grammar.specs.Tables.{Spelling, IsNamed}
use Rattle.sj_grammar.specs.Positions.{Pieces, Piece, plain, all_plain, spellings}
use Rattle.sj_grammar.specs.Statements.{scalar_piece, IsCode, IsBlock, AreArms}
use Rattle.sj_grammar.specs.Statements as statements
use Rattle.sj_grammar.specs.Files.{protocols_pieces, connects_pieces, IsProtocolDef, IsConnect, AreParties}
use Rattle.sj_grammar.specs.Files as files
use Rattle.sj_grammar.specs.FileDues.{Due, protocols, parties, connects, stmts, block, branches, awaited, name, fixed, proto, expr, file_may_be_none}
use Rattle.sj_party.specs.Alike.{AreAlike}
use Rattle.sj_party_laws.proofs.ChainLemmas.{Chained, nothing, first}
use Rattle.sj_party_laws.proofs.ItemLemmas as protocol
use Rattle.sj_party_laws.proofs.ProtocolLemmas as items
use Rattle.sj_party_laws.proofs.TermLemmas as expression
use Rattle.sj_party_laws.proofs.FollowLemmas as follow

-- two lists, each of two parts
pub alike_append : (a b c d : List Piece) → AreAlike a c → AreAlike b d → AreAlike (a ++ b) (c ++ d)
alike_append [] b [] d h k = k
alike_append [] b (q ∷ c) d h k = absurd h
alike_append (p ∷ a) b [] d h k = absurd h
alike_append (p ∷ a) b (q ∷ c) d h k = (h.0, h.1, alike_append a b c d h.2 k)

-- pieces on no line
pub alike_plain : (ts : List Piece) → AreAlike (all_plain (spellings ts)) ts
alike_plain [] = tt
alike_plain (p ∷ ts) = (refl, tt, alike_plain ts)

pub alike_of : (a : Pieces) (ts : List Piece) → spellings ts ≡ a → AreAlike (all_plain a) ts
alike_of a ts e = subst (λ (b : Pieces). AreAlike (all_plain b) ts) e (alike_plain ts)

module _ (L : Limits) (names : Spelling) where
  -- the tokens are what is due
  abbrev pub Spelled : ℕ → Due → List Piece → ℕ → Type 0
  Spelled n (protocols k) a m = (ps : List ProtocolAt) × All (IsProtocolDef L names) ps × (k ≤ L.protocols → k + length ps ≤ L.protocols) × AreAlike (protocols_pieces names.word ps) a
  Spelled n (parties k) a m = (qs : List PartyAt) × (b : List Piece) × AreParties L names qs b × (k ≤ L.parties → k + length qs ≤ L.parties) × AreAlike b a
  Spelled n (connects k) a m = (cs : List ConnectAt) × All (IsConnect L names) cs × (k ≤ L.connects → k + length cs ≤ L.connects) × AreAlike (connects_pieces names.word cs) a
  Spelled n (stmts o) a m = (c : Code) × (b : List Piece) × IsCode L names o c b × AreAlike b a
  Spelled n (block o) a m = (c : Code) × (b : List Piece) × IsBlock L names o c b × AreAlike b a
  Spelled n (branches o) a m = (c : Branches) × (b : List Piece) × AreArms L names o c b × AreAlike b a
  Spelled n awaited a m = ((k : Scalar) × AreAlike (plain (scalar_piece k) ∷ []) a) ⊎ ((p : ℕ) × IsNamed L names.word p × AreAlike (plain (codes "session") ∷ plain (names.word p) ∷ []) a)
  Spelled n name a m = (x : ℕ) × IsNamed L names.word x × AreAlike (plain (names.word x) ∷ []) a
  Spelled n (fixed p) a m = AreAlike (plain p ∷ []) a
  Spelled n (proto d) a m = protocol.Spelled L names.word n d (spellings a) m
  Spelled n (expr d) a m = expression.Spelled L names n d (spellings a) m

  -- and one after another
  abbrev pub AllSpelled : ℕ → List Due → List Piece → ℕ → Type 0
  AllSpelled n ds ts m = Chained Spelled n ds ts m

  -- the pieces of what a `recv` awaits
  abbrev pub awaited_lines : (n m : ℕ) (a : List Piece) → Spelled n awaited a m → List Piece
  awaited_lines n m a (inl x) = plain (scalar_piece x.0) ∷ []
  awaited_lines n m a (inr x) = plain (codes "session") ∷ plain (names.word x.0) ∷ []

  awaited_alike : (n m : ℕ) (a : List Piece) (x : Spelled n awaited a m) → AreAlike (awaited_lines n m a x) a
  awaited_alike n m a (inl x) = x.1
  awaited_alike n m a (inr x) = x.2

  -- their pieces
  abbrev pub lines_one : (n m : ℕ) (d : Due) (a : List Piece) → Spelled n d a m → List Piece
  lines_one n m (protocols k) a x = protocols_pieces names.word x.0
  lines_one n m (parties k) a x = x.1
  lines_one n m (connects k) a x = connects_pieces names.word x.0
  lines_one n m (stmts o) a x = x.1
  lines_one n m (block o) a x = x.1
  lines_one n m (branches o) a x = x.1
  lines_one n m awaited a x = awaited_lines n m a x
  lines_one n m name a x = plain (names.word x.0) ∷ []
  lines_one n m (fixed p) a x = plain p ∷ []
  lines_one n m (proto d) a x = all_plain (spellings a)
  lines_one n m (expr d) a x = all_plain (spellings a)

  alike_one : (n m : ℕ) (d : Due) (a : List Piece) (x : Spelled n d a m) → AreAlike (lines_one n m d a x) a
  alike_one n m (protocols k) a x = x.3
  alike_one n m (parties k) a x = x.4
  alike_one n m (connects k) a x = x.3
  alike_one n m (stmts o) a x = x.3
  alike_one n m (block o) a x = x.3
  alike_one n m (branches o) a x = x.3
  alike_one n m awaited a x = awaited_alike n m a x
  alike_one n m name a x = x.2
  alike_one n m (fixed p) a x = x
  alike_one n m (proto d) a x = alike_plain a
  alike_one n m (expr d) a x = alike_plain a

  -- the pieces of dues one after another
  abbrev pub lines_of : (n m : ℕ) (ds : List Due) (ts : List Piece) → AllSpelled n ds ts m → List Piece
  lines_of n m [] _ nothing = []
  lines_of n m (d ∷ []) _ (first {k} {a} x nothing) = lines_one n k d a x
  lines_of n m (d ∷ e ∷ ds) _ (first {k} {a} {b} x r) = lines_one n k d a x ++ lines_of k m (e ∷ ds) b r

  pub lines_alike : (n m : ℕ) (ds : List Due) (ts : List Piece) (h : AllSpelled n ds ts m) → AreAlike (lines_of n m ds ts h) ts
  lines_alike n m [] _ nothing = tt
  lines_alike n m (d ∷ []) _ (first {k} {a} x nothing) = subst (AreAlike (lines_one n k d a x)) (sym (append-nil a)) (alike_one n k d a x)
  lines_alike n m (d ∷ e ∷ ds) _ (first {k} {a} {b} x r) = alike_append (lines_one n k d a x) (lines_of k m (e ∷ ds) b r) a b (alike_one n k d a x) (lines_alike k m (e ∷ ds) b r)

  -- nothing in the place of what need not be
  pub none_spelled : (n : ℕ) (d : Due) → file_may_be_none d ≡ true → Spelled n d [] n
  none_spelled n (protocols k) e = ([], All-nil (IsProtocolDef L names), (λ h. omega arith), tt)
  none_spelled n (parties k) e = ([], [], files.no_party, (λ h. omega arith), tt)
  none_spelled n (connects k) e = ([], All-nil (IsConnect L names), (λ h. omega arith), tt)
  none_spelled n (stmts o) e = (no_stmt, [], statements.none, tt)
  none_spelled n (block o) e = let no : ⊥ = cc in absurd no
  none_spelled n (branches o) e = (no_branch, [], statements.no_arm, tt)
  none_spelled n awaited e = let no : ⊥ = cc in absurd no
  none_spelled n name e = let no : ⊥ = cc in absurd no
  none_spelled n (fixed p) e = let no : ⊥ = cc in absurd no
  none_spelled n (proto d) e = items.none_spelled L names.word n d e
  none_spelled n (expr d) e = follow.none_spelled L names n d e
