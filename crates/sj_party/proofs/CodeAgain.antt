-- Canonical texts of statements are statements again, equal but for lines.
use Rattle.std.proofs.Common.{ℕ, suc, ◌+◌, List, [], ◌∷◌, ◌++◌, refl, sym, subst, append_assoc}
use Rattle.std.specs.Prelude.{codes}
use Rattle.sj_lang.specs.Code.{Code, StmtAt, Branches, stmt_then, no_stmt, at, inbranch, outwhile, inwhile, relay, if_else, no_branch, branch}
use Rattle.sj_lang.specs.Limits.{Limits}
use Rattle.sj_grammar.specs.Reading.{Reading}
use Rattle.sj_grammar.specs.Tables.{Spelling}
use Rattle.sj_grammar.specs.Positions.{Piece, plain, first_on, all_plain, spellings}
use Rattle.sj_grammar.specs.Expressions.{whole}
use Rattle.sj_grammar.specs.Statements.{braced, IsCode, IsStatement, IsBlock, AreArms}
use Rattle.sj_grammar.specs.Statements as grammar
use Rattle.sj_grammar.proofs.LexingLemmas.{read, name_is_word}
use Rattle.sj_party.specs.CanonicalExpression.{expression_text}
use Rattle.sj_party.specs.CanonicalCode.{spaces, newline, in_block, named_text, pair_text, valued_text, given_text, code_text, stmt_text, arms_text}
use Rattle.sj_party.specs.Unlined.{unlined_code, unlined_branches}
use Rattle.sj_party.proofs.AddAlike.{alike_same, alike_cons}
use Rattle.sj_party.proofs.PrintableLemmas.{expression_pieces}
use Rattle.sj_party.proofs.PieceTextLemmas.{AreBlank, Reaches, joins}
use Rattle.sj_party.proofs.LineLemmas.{Relined, adds_append, blanks_then, expression_again, expression_adds, name_has}
use Rattle.sj_party.proofs.HeadLemmas.{pair_tail, given_tail, pair_has, behind_space, given_has}
use Rattle.sj_party.proofs.OneLinerLemmas.{named_is, pair_is, valued_is, given_is, send_again, let_again, delegate_again, outbranch_again, take_again, take_end_again, close_again, request_again, accept_again}
use Rattle.sj_party.proofs.BranchingLemmas.{ArmsBlock, inbranch_is, Both, unlined_both, block_of, if_free, both_again}
use Rattle.sj_party.proofs.BlockLineLemmas.{StmtAgain, with_block, in_braces, block_free, label_reaches, arm_parts}

module _ (L : Limits) (names : Spelling) where
  abbrev CodeAgain : ℕ → Code → List Piece → Reading → List ℕ → Type 0
  CodeAgain o c a r rest = Relined unlined_code (IsCode L names o) c a r rest

  abbrev BlockAgain : ℕ → Code → List Piece → Reading → List ℕ → Type 0
  BlockAgain o c a r rest = Relined unlined_code (IsBlock L names o) c a r rest

  abbrev ArmsAgain : ℕ → Branches → List Piece → Reading → List ℕ → Type 0
  ArmsAgain o b a r rest = Relined unlined_branches (AreArms L names o) b a r rest

  mutual
    pub code_again : {o : ℕ} {c : Code} {a : List Piece} → IsCode L names o c a → (n : ℕ) (before g rest : List ℕ) → AreBlank g → CodeAgain o c a (read before (g ++ (code_text names n c ++ rest))) rest
    code_again {o} grammar.none n before g rest blank =
        record { value = no_stmt; same = refl; pieces = []; is = grammar.none; adds = alike_same []; reaches = record { before = before; blanks = g; are = blank; lexes = refl } }
    code_again {o} (grammar.one_more {s} {rest = c} {a} {b} h k) n before g rest blank =
        let text = stmt_text names n s in
        let behind = code_text names n c in
        let r = read before (g ++ (text ++ (behind ++ rest))) in
        let first = stmt_again h n before g (behind ++ rest) blank in
        let second = code_again k n first.reaches.before first.reaches.blanks rest first.reaches.are in
        record {
          value = stmt_then first.value second.value;
          same = λ i. stmt_then (first.same i) (second.same i);
          pieces = first.pieces ++ second.pieces;
          is = grammar.one_more first.is second.is;
          adds = adds_append a b first.pieces second.pieces first.adds second.adds;
          reaches = subst (λ (x : List ℕ). Reaches (read before (g ++ x)) (first.pieces ++ second.pieces) rest) (sym (append_assoc text behind rest)) (joins r first.pieces second.pieces behind rest first.reaches second.reaches);
        }

    pub block_again : {o : ℕ} {c : Code} {a : List Piece} → IsBlock L names o c a → (n : ℕ) (before g rest : List ℕ) → AreBlank g → BlockAgain o c a (read before (g ++ (in_block n (code_text names (n + 2) c) ++ rest))) rest
    block_again {o} (grammar.of_code {code} {a} room h) n before g rest blank =
        in_braces unlined_code (IsCode L names (suc o)) (IsBlock L names o) code a n (code_text names (n + 2) code) before g rest blank (λ v b is. grammar.of_code room is) (λ k x all. code_again h (n + 2) k x ((spaces n ++ codes "}") ++ rest) all)

    pub arms_again : {o : ℕ} {b : Branches} {a : List Piece} → AreArms L names o b a → (n : ℕ) (before g rest : List ℕ) → AreBlank g → ArmsAgain o b a (read before (g ++ (arms_text names n b ++ rest))) rest
    arms_again {o} grammar.no_arm n before g rest blank =
        record { value = no_branch; same = refl; pieces = []; is = grammar.no_arm; adds = alike_same []; reaches = record { before = before; blanks = g; are = blank; lexes = refl } }
    arms_again {o} (grammar.one_arm {m} {code} {arms} {a} {b} named h more) n before g rest blank =
        let block = in_block n (code_text names (n + 2) code) in
        let behind = arms_text names n arms in
        let label = plain (names.word m) ∷ plain (codes ":") ∷ [] in
        let head = label_reaches n (names.word m) before g (block ++ (newline ++ (behind ++ rest))) (name_is_word (names.word m) named.name) blank in
        let body = block_again h n head.before head.blanks (newline ++ (behind ++ rest)) head.are in
        let r = read before (g ++ (spaces n ++ (names.word m ++ (codes ":" ++ (block ++ (newline ++ (behind ++ rest))))))) in
        let with_body = joins r label body.pieces block (newline ++ (behind ++ rest)) head body.reaches in
        let lined = blanks_then r (label ++ body.pieces) newline (behind ++ rest) refl with_body in
        let second = arms_again more n lined.before lined.blanks rest lined.are in
        record {
          value = branch m body.value second.value;
          same = λ i. branch m (body.same i) (second.same i);
          pieces = plain (names.word m) ∷ plain (codes ":") ∷ (body.pieces ++ second.pieces);
          is = grammar.one_arm named body.is second.is;
          adds = alike_cons (names.word m) ((codes ":") ∷ spellings (a ++ b)) ((codes ":") ∷ spellings (body.pieces ++ second.pieces)) (alike_cons (codes ":") (spellings (a ++ b)) (spellings (body.pieces ++ second.pieces)) (adds_append a b body.pieces second.pieces body.adds second.adds));
          reaches = subst (λ (x : List ℕ). Reaches (read before (g ++ x)) (plain (names.word m) ∷ plain (codes ":") ∷ (body.pieces ++ second.pieces)) rest) (sym (arm_parts n (names.word m) block behind rest))
              (joins r (label ++ body.pieces) second.pieces behind rest lined second.reaches);
        }

    pub stmt_again : {o : ℕ} {s : StmtAt} {a : List Piece} → IsStatement L names o s a → (n : ℕ) (before g rest : List ℕ) → AreBlank g → StmtAgain L names o s a (read before (g ++ (stmt_text names n s ++ rest))) rest
    stmt_again {o} (grammar.of_send {l} {x} {t} {e} is h) n before g rest blank = send_again L names o n l before g rest blank x t e is h
    stmt_again {o} (grammar.of_delegate {l} {x} {y} is also) n before g rest blank = delegate_again L names o n l before g rest blank x y is also
    stmt_again {o} (grammar.of_take {l} {x} {n = m} {k = d} is also) n before g rest blank = take_again L names o n l before g rest blank x m d is also
    stmt_again {o} (grammar.of_take_end {l} {x} {y} {p} is also third) n before g rest blank = take_end_again L names o n l before g rest blank x y p is also third
    stmt_again {o} (grammar.of_outbranch {l} {x} {m} is also) n before g rest blank = outbranch_again L names o n l before g rest blank x m is also
    stmt_again {o} (grammar.of_let {l} {n = m} {t} {e} is h) n before g rest blank = let_again L names o n l before g rest blank m t e is h
    stmt_again {o} (grammar.of_close {l} {x} is) n before g rest blank = close_again L names o n l before g rest blank x is
    stmt_again {o} (grammar.of_request {l} {x} {p} {b} is also third) n before g rest blank = request_again L names o n l before g rest blank x p b is also third
    stmt_again {o} (grammar.of_accept {l} {x} {p} {b} is also third) n before g rest blank = accept_again L names o n l before g rest blank x p b is also third
    stmt_again {o} (grammar.of_inbranch {l} {x} {m} {code} {arms} {a} is h) n before g rest blank =
        let all = branch m code arms in
        with_block L names unlined_branches (ArmsBlock L names o) all (braced a) o n (codes "inbranch") (named_text names (codes "inbranch ") x) (32 ∷ names.word x) (in_block n (arms_text names (n + 2) all)) (plain (names.word x) ∷ [])
        (first_on l (codes "inbranch") ∷ plain (names.word x) ∷ braced a) (at l (inbranch x all)) (λ k v. at k (inbranch x v)) before g rest refl (λ more. refl) (name_has L names x is) blank (named_is L names (codes "inbranch") x) (block_free n (arms_text names (n + 2) all))
        (λ k y all_blank. in_braces unlined_branches (AreArms L names o) (ArmsBlock L names o) all a n (arms_text names (n + 2) all) k y (newline ++ rest) all_blank (λ v b b_is. (b, refl, b_is)) (λ j z z_blank. arms_again h (n + 2) j z ((spaces n ++ codes "}") ++ (newline ++ rest)) z_blank))
        (λ k v e. λ i. at 0 (inbranch x (e i))) (λ k v d e b. inbranch_is L names o k x m code arms v d is e b) (λ d b. alike_cons (codes "inbranch") ((names.word x) ∷ spellings (braced a)) ((names.word x) ∷ spellings d) (alike_cons (names.word x) (spellings (braced a)) (spellings d) b))
    stmt_again {o} (grammar.of_outwhile {l} {x} {t} {e} {body} {a} is h b) n before g rest blank =
        let ps = all_plain (expression_pieces names whole t) in
        with_block L names unlined_code (IsBlock L names o) body a o n (codes "outwhile") (given_text names (codes "outwhile ") x (codes " ") t) (given_tail L names x (codes " ") t) (block_of L names n body) (plain (names.word x) ∷ ps)
        (first_on l (codes "outwhile") ∷ plain (names.word x) ∷ (all_plain e ++ a)) (at l (outwhile x t body)) (λ k v. at k (outwhile x t v)) before g rest refl (λ more. refl) (given_has L names x t e is h) blank (given_is L names (codes "outwhile") x (codes " ") t) (block_free n (code_text names (n + 2) body))
        (λ k y y_blank. block_again b n k y (newline ++ rest) y_blank) (λ k v same. λ i. at 0 (outwhile x t (same i))) (λ k v d same d_is. grammar.of_outwhile is (expression_again L names t e h) d_is)
        (λ d adds. alike_cons (codes "outwhile") ((names.word x) ∷ spellings (all_plain e ++ a)) ((names.word x) ∷ spellings (ps ++ d)) (alike_cons (names.word x) (spellings (all_plain e ++ a)) (spellings (ps ++ d)) (adds_append (all_plain e) a ps d (expression_adds L names t e h) adds)))
    stmt_again {o} (grammar.of_inwhile {l} {x} {body} {a} is b) n before g rest blank =
        with_block L names unlined_code (IsBlock L names o) body a o n (codes "inwhile") (named_text names (codes "inwhile ") x) (32 ∷ names.word x) (block_of L names n body) (plain (names.word x) ∷ [])
        (first_on l (codes "inwhile") ∷ plain (names.word x) ∷ a) (at l (inwhile x body)) (λ k v. at k (inwhile x v)) before g rest refl (λ more. refl) (name_has L names x is) blank (named_is L names (codes "inwhile") x) (block_free n (code_text names (n + 2) body))
        (λ k y y_blank. block_again b n k y (newline ++ rest) y_blank) (λ k v same. λ i. at 0 (inwhile x (same i))) (λ k v d same d_is. grammar.of_inwhile is d_is) (λ d adds. alike_cons (codes "inwhile") ((names.word x) ∷ spellings a) ((names.word x) ∷ spellings d) (alike_cons (names.word x) (spellings a) (spellings d) adds))
    stmt_again {o} (grammar.of_relay {l} {x} {y = z} {body} {a} is also b) n before g rest blank =
        with_block L names unlined_code (IsBlock L names o) body a o n (codes "relay") (pair_text names (codes "relay ") x z) (pair_tail L names x z) (block_of L names n body) (plain (names.word x) ∷ plain (names.word z) ∷ [])
        (first_on l (codes "relay") ∷ plain (names.word x) ∷ plain (names.word z) ∷ a) (at l (relay x z body)) (λ k v. at k (relay x z v)) before g rest refl (λ more. refl) (pair_has L names x z is also) blank (pair_is L names (codes "relay") x z) (block_free n (code_text names (n + 2) body))
        (λ k y y_blank. block_again b n k y (newline ++ rest) y_blank) (λ k v same. λ i. at 0 (relay x z (same i))) (λ k v d same d_is. grammar.of_relay is also d_is) (λ d adds. alike_cons (codes "relay") ((names.word x) ∷ (names.word z) ∷ spellings a) ((names.word x) ∷ (names.word z) ∷ spellings d) (alike_cons (names.word x) ((names.word z) ∷ spellings a) ((names.word z) ∷ spellings d) (alike_cons (names.word z) (spellings a) (spellings d) adds)))
    stmt_again {o} (grammar.of_if {l} {t} {e} {yes = c} {no = d} {a} {b} h one two) n before g rest blank =
        let ps = all_plain (expression_pieces names whole t) in
        with_block L names (unlined_both L names) (Both L names o) (c, d) (a ++ plain (codes "else") ∷ b) o n (codes "if") (valued_text names (codes "if ") t) (32 ∷ expression_text names whole t) (block_of L names n c ++ (codes " else" ++ block_of L names n d)) ps
        (first_on l (codes "if") ∷ (all_plain e ++ (a ++ plain (codes "else") ∷ b))) (at l (if_else t c d)) (λ k v. at k (if_else t v.0 v.1)) before g rest refl (λ more. refl) (behind_space L names t e h) blank (valued_is L names (codes "if") t)
        (λ more. if_free L names n c d more) (λ k y y_blank. both_again L names o n c d a b (λ j z u z_blank. block_again one n j z u z_blank) (λ j z u z_blank. block_again two n j z u z_blank) k y (newline ++ rest) y_blank)
        (λ k v same. λ i. at 0 (if_else t (same i).0 (same i).1))
        (λ k v q same q_is. subst (λ (x : List Piece). IsStatement L names o (at k (if_else t v.0 v.1)) (first_on k (codes "if") ∷ (ps ++ x))) (sym q_is.2) (grammar.of_if (expression_again L names t e h) q_is.3 q_is.4))
        (λ q adds. alike_cons (codes "if") (spellings (all_plain e ++ (a ++ plain (codes "else") ∷ b))) (spellings (ps ++ q)) (adds_append (all_plain e) (a ++ plain (codes "else") ∷ b) ps q (expression_adds L names t e h) adds))
