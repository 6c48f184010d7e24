-- The pieces of statements, blocks and arms are those of no others.
use Rattle.std.proofs.Common.{◌≡◌, ℕ, IsTrue, true, false, List, [], ◌∷◌, ◌++◌, get_or, refl, ap, sym, subst, ◌∙◌, append_assoc, arith, inl, inr}
use Rattle.std.specs.Prelude.{codes}
use Rattle.std.proofs.lemmas.Bool.Decides.{nat_tests}
use Rattle.sj_lang.specs.declared.party.Scalar.{Scalar}
use Rattle.sj_lang.specs.declared.party.Scalar.TheVariants as scalars
use Rattle.sj_lang.specs.Code.{Code, StmtAt, Branches, stmt_then, at, send, delegate, take_value, take_end, outbranch, inbranch, outwhile, inwhile, relay, if_else, let_be, close, request, accept, branch}
use Rattle.sj_lang.specs.Term.{Term}
use Rattle.sj_lang.specs.Limits.{Limits}
use Rattle.sj_grammar.specs.Names.{is_name}
use Rattle.sj_grammar.specs.Tables.{Spelling, IsNamed}
use Rattle.sj_grammar.specs.Positions.{Pieces, Piece, plain, all_plain}
use Rattle.sj_grammar.specs.Expressions.{IsExpression}
use Rattle.sj_grammar.specs.Statements.{scalar_piece, called, IsStatement, IsCode, IsBlock, AreArms}
use Rattle.sj_grammar.specs.Statements as grammar
use Rattle.sj_proto.proofs.UniquenessLemmas.{one_number}
use Rattle.sj_party.specs.Alike.{AreAlike, is_keyword, EndsCode, EndsArms}
use Rattle.sj_party.proofs.AlikeLemmas.{alike_back, regroup, one_ended, one_tested}
use Rattle.sj_party.proofs.KeywordLemmas.{likes, no_statement, sends, delegates, takes, selects, branches_off, loops_out, loops_in, relays, tests, binds, closes, requests, accepts, sends_kind, delegates_kind, takes_kind, selects_kind, branches_off_kind, loops_out_kind, loops_in_kind, relays_kind, tests_kind, binds_kind, closes_kind, requests_kind, accepts_kind}

same_scalar : (k j : Scalar) → scalar_piece k ≡ scalar_piece j → k ≡ j
same_scalar scalars.Int scalars.Int e = refl
same_scalar scalars.Boolean scalars.Boolean e = refl
same_scalar scalars.Text scalars.Text e = refl
same_scalar scalars.Int scalars.Boolean e = absurd (omega (arith, ap (λ (s : List ℕ). get_or s 0 0) e))
same_scalar scalars.Int scalars.Text e = absurd (omega (arith, ap (λ (s : List ℕ). get_or s 0 0) e))
same_scalar scalars.Boolean scalars.Int e = absurd (omega (arith, ap (λ (s : List ℕ). get_or s 0 0) e))
same_scalar scalars.Boolean scalars.Text e = absurd (omega (arith, ap (λ (s : List ℕ). get_or s 0 0) e))
same_scalar scalars.Text scalars.Int e = absurd (omega (arith, ap (λ (s : List ℕ). get_or s 0 0) e))
same_scalar scalars.Text scalars.Boolean e = absurd (omega (arith, ap (λ (s : List ℕ). get_or s 0 0) e))

no_session : (k : Scalar) → scalar_piece k ≡ codes "session" → ⊥
no_session scalars.Int e = omega (arith, ap (λ (s : List ℕ). get_or s 0 0) e)
no_session scalars.Boolean e = omega (arith, ap (λ (s : List ℕ). get_or s 0 0) e)
no_session scalars.Text e = omega (arith, ap (λ (s : List ℕ). get_or s 0 0) e)

pub no_keyword : is_keyword (codes "}") ≡ false
unfolding is_keyword
no_keyword = refl

module _ (L : Limits) (names : Spelling) where
  pub one_name : (x n : ℕ) → IsNamed L names.word x → IsNamed L names.word n → names.word x ≡ names.word n → x ≡ n
  one_name x n is also e = one_number L names.word x n is also e

  no_arm_there : (m : ℕ) (x y : List Piece) → IsNamed L names.word m → EndsArms x → AreAlike x (called L names m ∷ y) → ⊥
  no_arm_there m [] y is ends h = h
  no_arm_there m (q ∷ x) y is ends h =
      let t : IsTrue (is_name (names.word m)) = is.name in
      let named : is_name (names.word m) ≡ true = grind (arith, nat_tests) in
      let none : is_name (names.word m) ≡ false = ap is_name (sym h.0) ∙ ends in
      cc

  -- an expression before a block
  tested : {o : ℕ} {c d : Code} (t u : Term) (e g : Pieces) (p q x y : List Piece) → IsExpression L names t e → IsExpression L names u g → IsBlock L names o c p → IsBlock L names o d q
      → AreAlike ((all_plain e ++ p) ++ x) ((all_plain g ++ q) ++ y) → (t ≡ u) × AreAlike (p ++ x) (q ++ y)
  tested t u e g p q x y is also (grammar.of_code {a} deep c) (grammar.of_code {a = b} deep2 d) h = one_tested L names t u e g (a ++ plain (codes "}") ∷ []) (b ++ plain (codes "}") ∷ []) x y is also h

  if_tested : {o : ℕ} {c d : Code} (t u : Term) (e g : Pieces) (p q v w x y : List Piece) → IsExpression L names t e → IsExpression L names u g → IsBlock L names o c p → IsBlock L names o d q
      → AreAlike ((all_plain e ++ (p ++ plain (codes "else") ∷ v)) ++ x) ((all_plain g ++ (q ++ plain (codes "else") ∷ w)) ++ y) → (t ≡ u) × AreAlike (p ++ plain (codes "else") ∷ (v ++ x)) (q ++ plain (codes "else") ∷ (w ++ y))
  if_tested t u e g p q v w x y is also (grammar.of_code {a} deep c) (grammar.of_code {a = b} deep2 d) h =
      let one = one_tested L names t u e g ((a ++ plain (codes "}") ∷ []) ++ plain (codes "else") ∷ v) ((b ++ plain (codes "}") ∷ []) ++ plain (codes "else") ∷ w) x y is also h in
      (one.0, regroup p (plain (codes "else") ∷ v) x q (plain (codes "else") ∷ w) y one.1)

  mutual
    pub one_code : {o : ℕ} {c d : Code} {a b : List Piece} → IsCode L names o c a → IsCode L names o d b → (x y : List Piece) → EndsCode x → EndsCode y → AreAlike (a ++ x) (b ++ y) → (c ≡ d) × AreAlike x y
    one_code grammar.none grammar.none x y ex ey h = (refl, h)
    one_code grammar.none (grammar.one_more {a = b} {b = f} t d) x y ex ey h = absurd (no_statement L names x (f ++ y) t ex (subst (AreAlike x) (append_assoc b f y) h))
    one_code (grammar.one_more {a} {b = e} s c) grammar.none x y ex ey h = absurd (no_statement L names y (e ++ x) s ey (subst (AreAlike y) (append_assoc a e x) (alike_back ((a ++ e) ++ x) y h)))
    one_code (grammar.one_more {a} {b = e} s c) (grammar.one_more {a = b} {b = f} t d) x y ex ey h =
        let first = one_statement s t (e ++ x) (f ++ y) (regroup a e x b f y h) in
        let rest = one_code c d x y ex ey first.1 in
        ((λ i. stmt_then (first.0 i) (rest.0 i)), rest.1)

    pub one_block : {o : ℕ} {c d : Code} {a b : List Piece} → IsBlock L names o c a → IsBlock L names o d b → (x y : List Piece) → AreAlike (a ++ x) (b ++ y) → (c ≡ d) × AreAlike x y
    one_block (grammar.of_code {a = p} deep c) (grammar.of_code {a = q} also d) x y h =
        let inner = one_code c d (plain (codes "}") ∷ x) (plain (codes "}") ∷ y) no_keyword no_keyword (regroup p (plain (codes "}") ∷ []) x q (plain (codes "}") ∷ []) y h.2) in
        (inner.0, inner.1.2)

    pub one_arms : {o : ℕ} {c d : Branches} {a b : List Piece} → AreArms L names o c a → AreArms L names o d b → (x y : List Piece) → EndsArms x → EndsArms y → AreAlike (a ++ x) (b ++ y) → (c ≡ d) × AreAlike x y
    one_arms grammar.no_arm grammar.no_arm x y ex ey h = (refl, h)
    one_arms grammar.no_arm (grammar.one_arm {m} {a = b} {b = f} is d more) x y ex ey h = absurd (no_arm_there m x (plain (codes ":") ∷ ((b ++ f) ++ y)) is ex h)
    one_arms (grammar.one_arm {m} {a} {b = e} is c more) grammar.no_arm x y ex ey h =
        let rest = plain (codes ":") ∷ ((a ++ e) ++ x) in
        absurd (no_arm_there m y rest is ey (alike_back (called L names m ∷ rest) y h))
    one_arms (grammar.one_arm {m} {a} {b = e} is c more) (grammar.one_arm {m = n} {a = b} {b = f} also d others) x y ex ey h =
        let first = one_block c d (e ++ x) (f ++ y) (regroup a e x b f y h.2.2) in
        let rest = one_arms more others x y ex ey first.1 in
        ((λ i. branch (one_name m n is also h.0 i) (first.0 i) (rest.0 i)), rest.1)

    pub one_statement : {o : ℕ} {s t : StmtAt} {a b : List Piece} → IsStatement L names o s a → IsStatement L names o t b → (x y : List Piece) → AreAlike (a ++ x) (b ++ y) → (s ≡ t) × AreAlike x y
    one_statement {o} {t} {b} (grammar.of_send {l} {x = v} {t = u} {e} is h) st x y g =
        let k = likes L names sends (codes "send") sends_kind o l t (called L names v ∷ ((all_plain e ++ plain (codes ";") ∷ []) ++ x)) b y st g in
        let same = one_name v k.0 is k.3 k.6.0 in
        let rest = one_ended L names u k.1 e k.2 x y h k.4 k.6.2 in
        ((λ i. at l (send (same i) (rest.0 i))) ∙ k.5, rest.1)
    one_statement {o} {t} {b} (grammar.of_delegate {l} {x = v} {y = w} is also) st x y g =
        let k = likes L names delegates (codes "delegate") delegates_kind o l t (called L names v ∷ called L names w ∷ plain (codes ";") ∷ x) b y st g in
        let same = one_name v k.0 is k.2 k.5.0 in
        let second = one_name w k.1 also k.3 k.5.2.0 in
        ((λ i. at l (delegate (same i) (second i))) ∙ k.4, k.5.2.2.2)
    one_statement {o} {t} {b} (grammar.of_take {l} {x = v} {n = w} {k = kind} is also) st x y g = elim (likes L names takes (codes "recv") takes_kind o l t (called L names v ∷ called L names w ∷ plain (scalar_piece kind) ∷ plain (codes ";") ∷ x) b y st g) [
      | inl k ↦ ((λ i. at l (take_value (one_name v k.0 is k.3 k.6.0 i) (one_name w k.1 also k.4 k.6.2.0 i) (same_scalar kind k.2 k.6.2.2.0 i))) ∙ k.5, k.6.2.2.2.2)
      | inr k ↦ absurd (no_session kind k.7.2.2.0)
    ]
    one_statement {o} {t} {b} (grammar.of_take_end {l} {x = v} {y = w} {p} is also third) st x y g = elim (likes L names takes (codes "recv") takes_kind o l t (called L names v ∷ called L names w ∷ plain (codes "session") ∷ called L names p ∷ plain (codes ";") ∷ x) b y st g) [
      | inl k ↦ absurd (no_session k.2 (sym k.6.2.2.0))
      | inr k ↦ ((λ i. at l (take_end (one_name v k.0 is k.3 k.7.0 i) (one_name w k.1 also k.4 k.7.2.0 i) (one_name p k.2 third k.5 k.7.2.2.2.0 i))) ∙ k.6, k.7.2.2.2.2.2)
    ]
    one_statement {o} {t} {b} (grammar.of_outbranch {l} {x = v} {m = w} is also) st x y g =
        let k = likes L names selects (codes "outbranch") selects_kind o l t (called L names v ∷ called L names w ∷ plain (codes ";") ∷ x) b y st g in
        let same = one_name v k.0 is k.2 k.5.0 in
        let second = one_name w k.1 also k.3 k.5.2.0 in
        ((λ i. at l (outbranch (same i) (second i))) ∙ k.4, k.5.2.2.2)
    one_statement {o} {t} {b} (grammar.of_inbranch {l} {x = v} {a = p} is arms) st x y g =
        let k = likes L names branches_off (codes "inbranch") branches_off_kind o l t (called L names v ∷ plain (codes "{") ∷ ((p ++ plain (codes "}") ∷ []) ++ x)) b y st g in
        let same = one_name v k.0 is k.3 k.6.0 in
        let inner = one_arms arms k.4 (plain (codes "}") ∷ x) (plain (codes "}") ∷ y) refl refl (regroup p (plain (codes "}") ∷ []) x k.2 (plain (codes "}") ∷ []) y k.6.2.2) in
        ((λ i. at l (inbranch (same i) (inner.0 i))) ∙ k.5, inner.1.2)
    one_statement {o} {t} {b} (grammar.of_outwhile {l} {x = v} {t = u} {e} {a = p} is h c) st x y g =
        let k = likes L names loops_out (codes "outwhile") loops_out_kind o l t (called L names v ∷ ((all_plain e ++ p) ++ x)) b y st g in
        let same = one_name v k.0 is k.5 k.9.0 in
        let test = tested u k.1 e k.3 p k.4 x y h k.6 c k.7 k.9.2 in
        let inner = one_block c k.7 x y test.1 in
        ((λ i. at l (outwhile (same i) (test.0 i) (inner.0 i))) ∙ k.8, inner.1)
    one_statement {o} {t} {b} (grammar.of_inwhile {l} {x = v} {a = p} is c) st x y g =
        let k = likes L names loops_in (codes "inwhile") loops_in_kind o l t (called L names v ∷ (p ++ x)) b y st g in
        let same = one_name v k.0 is k.3 k.6.0 in
        let inner = one_block c k.4 x y k.6.2 in
        ((λ i. at l (inwhile (same i) (inner.0 i))) ∙ k.5, inner.1)
    one_statement {o} {t} {b} (grammar.of_relay {l} {x = v} {y = w} {a = p} is also c) st x y g =
        let k = likes L names relays (codes "relay") relays_kind o l t (called L names v ∷ called L names w ∷ (p ++ x)) b y st g in
        let same = one_name v k.0 is k.4 k.8.0 in
        let second = one_name w k.1 also k.5 k.8.2.0 in
        let inner = one_block c k.6 x y k.8.2.2 in
        ((λ i. at l (relay (same i) (second i) (inner.0 i))) ∙ k.7, inner.1)
    one_statement {o} {t} {b} (grammar.of_if {l} {t = u} {e} {a = p} {b = q} h c d) st x y g =
        let k = likes L names tests (codes "if") tests_kind o l t ((all_plain e ++ (p ++ plain (codes "else") ∷ q)) ++ x) b y st g in
        let test = if_tested u k.0 e k.3 p k.4 q k.5 x y h k.6 c k.7 k.10 in
        let yes = one_block c k.7 (plain (codes "else") ∷ (q ++ x)) (plain (codes "else") ∷ (k.5 ++ y)) test.1 in
        let no = one_block d k.8 x y yes.1.2 in
        ((λ i. at l (if_else (test.0 i) (yes.0 i) (no.0 i))) ∙ k.9, no.1)
    one_statement {o} {t} {b} (grammar.of_let {l} {n = v} {t = u} {e} is h) st x y g =
        let k = likes L names binds (codes "let") binds_kind o l t (called L names v ∷ plain (codes "=") ∷ ((all_plain e ++ plain (codes ";") ∷ []) ++ x)) b y st g in
        let same = one_name v k.0 is k.3 k.6.0 in
        let rest = one_ended L names u k.1 e k.2 x y h k.4 k.6.2.2 in
        ((λ i. at l (let_be (same i) (rest.0 i))) ∙ k.5, rest.1)
    one_statement {o} {t} {b} (grammar.of_close {l} {x = v} is) st x y g =
        let k = likes L names closes (codes "close") closes_kind o l t (called L names v ∷ plain (codes ";") ∷ x) b y st g in
        ((λ i. at l (close (one_name v k.0 is k.1 k.3.0 i))) ∙ k.2, k.3.2.2)
    one_statement {o} {t} {b} (grammar.of_request {l} {x = v} {p} {b = w} is also third) st x y g =
        let k = likes L names requests (codes "request") requests_kind o l t (called L names v ∷ called L names p ∷ plain (codes "to") ∷ called L names w ∷ plain (codes ";") ∷ x) b y st g in
        let same = one_name v k.0 is k.3 k.7.0 in
        let second = one_name p k.1 also k.4 k.7.2.0 in
        let last = one_name w k.2 third k.5 k.7.2.2.2.0 in
        ((λ i. at l (request (same i) (second i) (last i))) ∙ k.6, k.7.2.2.2.2.2)
    one_statement {o} {t} {b} (grammar.of_accept {l} {x = v} {p} {b = w} is also third) st x y g =
        let k = likes L names accepts (codes "accept") accepts_kind o l t (called L names v ∷ called L names p ∷ plain (codes "from") ∷ called L names w ∷ plain (codes ";") ∷ x) b y st g in
        let same = one_name v k.0 is k.3 k.7.0 in
        let second = one_name p k.1 also k.4 k.7.2.0 in
        let last = one_name w k.2 third k.5 k.7.2.2.2.0 in
        ((λ i. at l (accept (same i) (second i) (last i))) ∙ k.6, k.7.2.2.2.2.2)
