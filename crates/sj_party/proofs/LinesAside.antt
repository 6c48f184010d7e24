-- Canonical texts don't rest on lines.
use Rattle.std.proofs.Common.{◌≡◌, ℕ, ◌+◌, List, [], ◌∷◌, ◌++◌, refl, ap, sym, ◌∙◌}
use Rattle.std.specs.Prelude.{codes, map}
use Rattle.sj_lang.specs.Code.{Code, StmtAt, DeedAt, Branches, no_stmt, stmt_then, at, send, delegate, take_value, take_end, outbranch, inbranch, outwhile, inwhile, relay, if_else, let_be, close, request, accept, no_branch, branch}
use Rattle.sj_lang.specs.FileAt.{ProtocolAt, PartyAt, ConnectAt, FileAt}
use Rattle.sj_grammar.specs.Tables.{Spelling}
use Rattle.sj_grammar.specs.Files.{names_of}
use Rattle.sj_party.specs.CanonicalCode.{spaces, newline, in_block, named_text, pair_text, valued_text, given_text, code_text, stmt_text, deed_text, arms_text, arm_text}
use Rattle.sj_party.specs.CanonicalFile.{protocol_line, connect_text, protocols_text, parties_text, connects_text, file_text}
use Rattle.sj_party.specs.Unlined.{unlined_code, unlined_stmt, unlined_deed, unlined_branches, unlined_protocol, unlined_party, unlined_connect, unlined}

module _ (names : Spelling) where
  mutual
    code_same : (n : ℕ) (c : Code) → code_text names n (unlined_code c) ≡ code_text names n c
    code_same n no_stmt = refl
    code_same n (stmt_then s rest) = λ i. stmt_same n s i ++ code_same n rest i

    stmt_same : (n : ℕ) (s : StmtAt) → stmt_text names n (unlined_stmt s) ≡ stmt_text names n s
    stmt_same n (at l a) = λ i. spaces n ++ (deed_same n a i ++ newline)

    deed_same : (n : ℕ) (a : DeedAt) → deed_text names n (unlined_deed a) ≡ deed_text names n a
    deed_same n (send x t) = refl
    deed_same n (delegate x y) = refl
    deed_same n (take_value x v k) = refl
    deed_same n (take_end x y p) = refl
    deed_same n (outbranch x l) = refl
    deed_same n (inbranch x arms) = λ i. named_text names (codes "inbranch ") x ++ in_block n (arms_same (n + 2) arms i)
    deed_same n (outwhile x t body) = λ i. given_text names (codes "outwhile ") x (codes " ") t ++ in_block n (code_same (n + 2) body i)
    deed_same n (inwhile x body) = λ i. named_text names (codes "inwhile ") x ++ in_block n (code_same (n + 2) body i)
    deed_same n (relay x y body) = λ i. pair_text names (codes "relay ") x y ++ in_block n (code_same (n + 2) body i)
    deed_same n (if_else t first second) = λ i. valued_text names (codes "if ") t ++ (in_block n (code_same (n + 2) first i) ++ (codes " else" ++ in_block n (code_same (n + 2) second i)))
    deed_same n (let_be v t) = refl
    deed_same n (close x) = refl
    deed_same n (request x p b) = refl
    deed_same n (accept x p b) = refl

    arms_same : (n : ℕ) (arms : Branches) → arms_text names n (unlined_branches arms) ≡ arms_text names n arms
    arms_same n no_branch = refl
    arms_same n (branch l code arms) = λ i. arm_text names n l (code_same (n + 2) code i) ++ arms_same n arms i

  protocols_same : (ps : List ProtocolAt) → protocols_text names (map unlined_protocol ps) ≡ protocols_text names ps
  protocols_same [] = refl
  protocols_same (p ∷ ps) = ap (λ t. protocol_line (codes "protocol") names.word p.name p.body ++ t) (protocols_same ps)

  parties_same : (qs : List PartyAt) → parties_text names (map unlined_party qs) ≡ parties_text names qs
  parties_same [] = refl
  parties_same (q ∷ qs) = λ i. (named_text names (codes "party ") q.name ++ (in_block 0 (code_same 2 q.code i) ++ newline)) ++ parties_same qs i

  connects_same : (cs : List ConnectAt) → connects_text names (map unlined_connect cs) ≡ connects_text names cs
  connects_same [] = refl
  connects_same (c ∷ cs) = ap (λ t. connect_text names c ++ t) (connects_same cs)

file_same : (f : FileAt) → file_text (unlined f) ≡ file_text f
file_same f = λ i. protocols_same (names_of f) f.protocols i ++ (parties_same (names_of f) f.parties i ++ connects_same (names_of f) f.connects i)

-- files that are equal, lines aside, have one canonical text
pub one_text : (f g : FileAt) → unlined f ≡ unlined g → file_text f ≡ file_text g
one_text f g e = sym (file_same f) ∙ ap file_text e ∙ file_same g
