-- Statements by the word that they begin with.
use Rattle.std.proofs.Common.{◌≡◌, ℕ, true, false, List, [], ◌∷◌, ◌++◌, refl, ap, sym, subst, ◌∙◌, ◌⊎◌, inl, inr}
use Rattle.std.specs.Prelude.{codes}
use Rattle.sj_lang.specs.declared.party.Scalar.{Scalar}
use Rattle.sj_lang.specs.Term.{Term}
use Rattle.sj_lang.specs.Code.{Code, StmtAt, Branches, at, send, delegate, take_value, take_end, outbranch, inbranch, outwhile, inwhile, relay, if_else, let_be, close, request, accept, branch}
use Rattle.sj_lang.specs.Limits.{Limits}
use Rattle.sj_grammar.specs.Tables.{Spelling, IsNamed}
use Rattle.sj_grammar.specs.Positions.{Pieces, Piece, plain, first_on, all_plain}
use Rattle.sj_grammar.specs.Expressions.{IsExpression}
use Rattle.sj_grammar.specs.Statements.{scalar_piece, called, IsStatement, IsBlock, AreArms}
use Rattle.sj_grammar.specs.Statements as grammar
use Rattle.sj_party.specs.Alike.{AreAlike, is_keyword, EndsCode}
pub use Rattle.sj_party.proofs.WordKindLemmas.{Kind, kind_of, sends, delegates, takes, selects, branches_off, loops_out, loops_in, relays, tests, binds, closes, requests, accepts, other, sends_kind, delegates_kind, takes_kind, selects_kind, branches_off_kind, loops_out_kind, loops_in_kind, relays_kind, tests_kind, binds_kind, closes_kind, requests_kind, accepts_kind}

module _ (L : Limits) (names : Spelling) where
  abbrev pub Named : ℕ → Type 0
  Named n = IsNamed L names.word n

  -- a statement of that kind, and what its pieces are like
  abbrev pub Like : Kind → ℕ → ℕ → StmtAt → List Piece → List Piece → Type 0
  Like sends o l t a y = (x : ℕ) × (u : Term) × (e : Pieces) × Named x × IsExpression L names u e × (at l (send x u) ≡ t) × AreAlike a (called L names x ∷ ((all_plain e ++ plain (codes ";") ∷ []) ++ y))
  Like delegates o l t a y = (x : ℕ) × (n : ℕ) × Named x × Named n × (at l (delegate x n) ≡ t) × AreAlike a (called L names x ∷ called L names n ∷ plain (codes ";") ∷ y)
  Like takes o l t a y =
      ((x : ℕ) × (n : ℕ) × (k : Scalar) × Named x × Named n × (at l (take_value x n k) ≡ t) × AreAlike a (called L names x ∷ called L names n ∷ plain (scalar_piece k) ∷ plain (codes ";") ∷ y))
      ⊎ ((x : ℕ) × (n : ℕ) × (p : ℕ) × Named x × Named n × Named p × (at l (take_end x n p) ≡ t) × AreAlike a (called L names x ∷ called L names n ∷ plain (codes "session") ∷ called L names p ∷ plain (codes ";") ∷ y))
  Like selects o l t a y = (x : ℕ) × (n : ℕ) × Named x × Named n × (at l (outbranch x n) ≡ t) × AreAlike a (called L names x ∷ called L names n ∷ plain (codes ";") ∷ y)
  Like branches_off o l t a y = (x : ℕ) × (b : Branches) × (p : List Piece) × Named x × AreArms L names o b p × (at l (inbranch x b) ≡ t) × AreAlike a (called L names x ∷ plain (codes "{") ∷ ((p ++ plain (codes "}") ∷ []) ++ y))
  Like loops_out o l t a y = (x : ℕ) × (u : Term) × (c : Code) × (e : Pieces) × (p : List Piece) × Named x × IsExpression L names u e × IsBlock L names o c p × (at l (outwhile x u c) ≡ t)
      × AreAlike a (called L names x ∷ ((all_plain e ++ p) ++ y))
  Like loops_in o l t a y = (x : ℕ) × (c : Code) × (p : List Piece) × Named x × IsBlock L names o c p × (at l (inwhile x c) ≡ t) × AreAlike a (called L names x ∷ (p ++ y))
  Like relays o l t a y = (x : ℕ) × (n : ℕ) × (c : Code) × (p : List Piece) × Named x × Named n × IsBlock L names o c p × (at l (relay x n c) ≡ t) × AreAlike a (called L names x ∷ called L names n ∷ (p ++ y))
  Like tests o l t a y = (u : Term) × (c : Code) × (d : Code) × (e : Pieces) × (p : List Piece) × (q : List Piece) × IsExpression L names u e × IsBlock L names o c p × IsBlock L names o d q × (at l (if_else u c d) ≡ t)
      × AreAlike a ((all_plain e ++ (p ++ plain (codes "else") ∷ q)) ++ y)
  Like binds o l t a y = (n : ℕ) × (u : Term) × (e : Pieces) × Named n × IsExpression L names u e × (at l (let_be n u) ≡ t) × AreAlike a (called L names n ∷ plain (codes "=") ∷ ((all_plain e ++ plain (codes ";") ∷ []) ++ y))
  Like closes o l t a y = (x : ℕ) × Named x × (at l (close x) ≡ t) × AreAlike a (called L names x ∷ plain (codes ";") ∷ y)
  Like requests o l t a y = (x : ℕ) × (n : ℕ) × (m : ℕ) × Named x × Named n × Named m × (at l (request x n m) ≡ t) × AreAlike a (called L names x ∷ called L names n ∷ plain (codes "to") ∷ called L names m ∷ plain (codes ";") ∷ y)
  Like accepts o l t a y = (x : ℕ) × (n : ℕ) × (m : ℕ) × Named x × Named n × Named m × (at l (accept x n m) ≡ t) × AreAlike a (called L names x ∷ called L names n ∷ plain (codes "from") ∷ called L names m ∷ plain (codes ";") ∷ y)
  Like other o l t a y = ⊥

  kinds_meet : (s w : List ℕ) (k j : Kind) → kind_of s ≡ k → kind_of w ≡ j → s ≡ w → j ≡ k
  kinds_meet s w k j ek ej same = sym ej ∙ ap kind_of (sym same) ∙ ek

  -- what the statement is whose pieces are like that
  pub likes : (k : Kind) (s : List ℕ) → kind_of s ≡ k → (o l : ℕ) (t : StmtAt) (a b y : List Piece) → IsStatement L names o t b → AreAlike (first_on l s ∷ a) (b ++ y) → Like k o l t a y
  likes k s ek o l t a b y (grammar.of_send {l = j} {x} {t = u} {e} is h) g =
      subst (λ (z : Kind). Like z o l t a y) (kinds_meet s (codes "send") k sends ek sends_kind g.0) ((x, u, e, is, h, (λ i. at (g.1 i) (send x u)), g.2))
  likes k s ek o l t a b y (grammar.of_delegate {l = j} {x} {y = n} is also) g =
      subst (λ (z : Kind). Like z o l t a y) (kinds_meet s (codes "delegate") k delegates ek delegates_kind g.0) ((x, n, is, also, (λ i. at (g.1 i) (delegate x n)), g.2))
  likes k s ek o l t a b y (grammar.of_take {l = j} {x} {n} {k = kind} is also) g =
      subst (λ (z : Kind). Like z o l t a y) (kinds_meet s (codes "recv") k takes ek takes_kind g.0) ((inl (x, n, kind, is, also, (λ i. at (g.1 i) (take_value x n kind)), g.2)))
  likes k s ek o l t a b y (grammar.of_take_end {l = j} {x} {y = n} {p} is also third) g =
      subst (λ (z : Kind). Like z o l t a y) (kinds_meet s (codes "recv") k takes ek takes_kind g.0) ((inr (x, n, p, is, also, third, (λ i. at (g.1 i) (take_end x n p)), g.2)))
  likes k s ek o l t a b y (grammar.of_outbranch {l = j} {x} {m = n} is also) g =
      subst (λ (z : Kind). Like z o l t a y) (kinds_meet s (codes "outbranch") k selects ek selects_kind g.0) ((x, n, is, also, (λ i. at (g.1 i) (outbranch x n)), g.2))
  likes k s ek o l t a b y (grammar.of_inbranch {l = j} {x} {m} {code} {arms} {a = p} is h) g =
      subst (λ (z : Kind). Like z o l t a y) (kinds_meet s (codes "inbranch") k branches_off ek branches_off_kind g.0) ((x, branch m code arms, p, is, h, (λ i. at (g.1 i) (inbranch x (branch m code arms))), g.2))
  likes k s ek o l t a b y (grammar.of_outwhile {l = j} {x} {t = u} {e} {body = c} {a = p} is h d) g =
      subst (λ (z : Kind). Like z o l t a y) (kinds_meet s (codes "outwhile") k loops_out ek loops_out_kind g.0) ((x, u, c, e, p, is, h, d, (λ i. at (g.1 i) (outwhile x u c)), g.2))
  likes k s ek o l t a b y (grammar.of_inwhile {l = j} {x} {body = c} {a = p} is d) g =
      subst (λ (z : Kind). Like z o l t a y) (kinds_meet s (codes "inwhile") k loops_in ek loops_in_kind g.0) ((x, c, p, is, d, (λ i. at (g.1 i) (inwhile x c)), g.2))
  likes k s ek o l t a b y (grammar.of_relay {l = j} {x} {y = n} {body = c} {a = p} is also d) g =
      subst (λ (z : Kind). Like z o l t a y) (kinds_meet s (codes "relay") k relays ek relays_kind g.0) ((x, n, c, p, is, also, d, (λ i. at (g.1 i) (relay x n c)), g.2))
  likes k s ek o l t a b y (grammar.of_if {l = j} {t = u} {e} {yes = c} {no = d} {a = p} {b = q} h f f2) g =
      subst (λ (z : Kind). Like z o l t a y) (kinds_meet s (codes "if") k tests ek tests_kind g.0) ((u, c, d, e, p, q, h, f, f2, (λ i. at (g.1 i) (if_else u c d)), g.2))
  likes k s ek o l t a b y (grammar.of_let {l = j} {n} {t = u} {e} is h) g =
      subst (λ (z : Kind). Like z o l t a y) (kinds_meet s (codes "let") k binds ek binds_kind g.0) ((n, u, e, is, h, (λ i. at (g.1 i) (let_be n u)), g.2))
  likes k s ek o l t a b y (grammar.of_close {l = j} {x} is) g =
      subst (λ (z : Kind). Like z o l t a y) (kinds_meet s (codes "close") k closes ek closes_kind g.0) ((x, is, (λ i. at (g.1 i) (close x)), g.2))
  likes k s ek o l t a b y (grammar.of_request {l = j} {x} {p = n} {b = m} is also third) g =
      subst (λ (z : Kind). Like z o l t a y) (kinds_meet s (codes "request") k requests ek requests_kind g.0) ((x, n, m, is, also, third, (λ i. at (g.1 i) (request x n m)), g.2))
  likes k s ek o l t a b y (grammar.of_accept {l = j} {x} {p = n} {b = m} is also third) g =
      subst (λ (z : Kind). Like z o l t a y) (kinds_meet s (codes "accept") k accepts ek accepts_kind g.0) ((x, n, m, is, also, third, (λ i. at (g.1 i) (accept x n m)), g.2))

  -- a statement begins with its word
  pub begins : {o : ℕ} {t : StmtAt} {b : List Piece} → IsStatement L names o t b → (p : Piece) × (ps : List Piece) × (b ≡ p ∷ ps) × (is_keyword p.spelled ≡ true)
  unfolding is_keyword
  begins (grammar.of_send {l} h g) = (first_on l (codes "send"), _, refl, refl)
  begins (grammar.of_delegate {l} h g) = (first_on l (codes "delegate"), _, refl, refl)
  begins (grammar.of_take {l} h g) = (first_on l (codes "recv"), _, refl, refl)
  begins (grammar.of_take_end {l} h g f) = (first_on l (codes "recv"), _, refl, refl)
  begins (grammar.of_outbranch {l} h g) = (first_on l (codes "outbranch"), _, refl, refl)
  begins (grammar.of_inbranch {l} h g) = (first_on l (codes "inbranch"), _, refl, refl)
  begins (grammar.of_outwhile {l} h g f) = (first_on l (codes "outwhile"), _, refl, refl)
  begins (grammar.of_inwhile {l} h g) = (first_on l (codes "inwhile"), _, refl, refl)
  begins (grammar.of_relay {l} h g f) = (first_on l (codes "relay"), _, refl, refl)
  begins (grammar.of_if {l} h g f) = (first_on l (codes "if"), _, refl, refl)
  begins (grammar.of_let {l} h g) = (first_on l (codes "let"), _, refl, refl)
  begins (grammar.of_close {l} h) = (first_on l (codes "close"), _, refl, refl)
  begins (grammar.of_request {l} h g f) = (first_on l (codes "request"), _, refl, refl)
  begins (grammar.of_accept {l} h g f) = (first_on l (codes "accept"), _, refl, refl)

  -- where none begins there is none
  pub no_statement : {o : ℕ} {t : StmtAt} {b : List Piece} (x y : List Piece) → IsStatement L names o t b → EndsCode x → AreAlike x (b ++ y) → ⊥
  no_statement x y st ends h = let first = begins st in by_pieces x first.0 (first.1 ++ y) first.3 ends (subst (λ (ps : List Piece). AreAlike x (ps ++ y)) first.2 h)
    where
      by_pieces : (x : List Piece) (p : Piece) (ps : List Piece) → is_keyword p.spelled ≡ true → EndsCode x → AreAlike x (p ∷ ps) → ⊥
      by_pieces [] p ps word ends h = h
      by_pieces (q ∷ x) p ps word ends h = let none : is_keyword p.spelled ≡ false = ap is_keyword (sym h.0) ∙ ends in cc
