-- What is due after a token of a file, and the token, are what was due before it.
use Rattle.std.proofs.Common.{◌≡◌, ℕ, suc, List, [], ◌∷◌, ◌++◌, Option, Some, None, refl, ap, sym, subst, ◌∙◌, append_assoc}
use Rattle.std.specs.Prelude.{codes, map, option_map}
use Rattle.std.specs.Str.{bytes_eq}
use Rattle.std.proofs.lemmas.List.Elements.{All-cons}
use Rattle.sj_lang.specs.FileAt.{ProtocolAt, ConnectAt}
use Rattle.sj_grammar.specs.Names.{is_name}
use Rattle.sj_grammar.specs.Tables.{Spelling}
use Rattle.sj_grammar.specs.Positions.{Pieces, Piece, plain, first_on, all_plain, spellings}
use Rattle.sj_grammar.specs.Protocols.{body_pieces}
use Rattle.sj_grammar.specs.ProtocolDues.{body, protocol_layer, protocol_follow}
use Rattle.sj_grammar.specs.ExpressionDues.{expression_layer, expression_follow}
use Rattle.sj_grammar.specs.Statements.{braced}
use Rattle.sj_grammar.specs.Files.{protocols_pieces, IsProtocolDef, IsEnd, IsConnect}
use Rattle.sj_grammar.specs.Files as files
use Rattle.sj_grammar.specs.FileDues.{Due, protocols, parties, connects, stmts, block, branches, awaited, name, fixed, proto, expr, semicolon, file_layer, file_follow}
use Rattle.sj_grammar.proofs.SpellingLemmas.{IsHeld}
use Rattle.sj_grammar.proofs.CompletionLemmas.{alls_below}
use Rattle.sj_proto.proofs.DuePieceLemmas as protocol
use Rattle.sj_proto.proofs.CompletionLemmas as completed
use Rattle.sj_expr.proofs.CompletionLemmas as expression
use Rattle.sj_expr.proofs.FollowLemmas.{unfollow}
use Rattle.sj_expr.proofs.TestLemmas.{bytes_same}
use Rattle.sj_party.proofs.LimitLemmas.{Widely, widely_three}
use Rattle.sj_party.proofs.NumberingLemmas.{numbered_body}
use Rattle.sj_party.proofs.DuePieceLemmas.{Named, Spelled, AllSpelled, lines_spelled}
use Rattle.sj_party.proofs.StatementBack.{met, name_held, statement_back, awaited_back, block_back, arms_back}

-- dues of a layer below
pub mapped : {D : Type 0} (up : D → Due) (x : Option (List D)) (es : List Due) → option_map (map up) x ≡ Some es → (gs : List D) × (x ≡ Some gs) × (es ≡ map up gs)
mapped up (Some gs) es e = (gs, refl, cc)
mapped up None es e = let none : ⊥ = cc in absurd none

module _ (names : Spelling) where
  -- a protocol's items are spelled as what was due in it
  protocols_back : (k : ℕ) (s : List ℕ) (es : List Due) (ts : Pieces) → file_follow (protocols k) s ≡ Some es → AllSpelled names es ts → Spelled names (protocols k) (s ∷ ts)
  protocols_back k s es ts e h =
      let due = name ∷ fixed (codes "{") ∷ proto body ∷ fixed (codes "}") ∷ protocols (suc k) ∷ [] in
      let x = met names (bytes_eq s (codes "protocol")) due es ts e h in
      let n = x.1.2 in
      let a = x.1.3.3.0 in
      let items = x.1.3.3.2 in
      let more = x.1.3.3.3.3.2 in
      let q = numbered_body names.word items.0 items.1 in
      let one : ProtocolAt = record { line = 0; name = n.0; body = q.0 } in
      let behind = protocols_pieces names.word more.0 in
      let again : (all_plain (body_pieces names.word q.0) ++ plain (codes "}") ∷ []) ++ behind ≡ all_plain a ++ plain (codes "}") ∷ behind =
      ap (λ (b : Pieces). (all_plain b ++ plain (codes "}") ∷ []) ++ behind) (q.1 ∙ sym items.2) ∙ append_assoc (all_plain a) (plain (codes "}") ∷ []) behind in (
        one ∷ more.0,
        widely_three _ _ _ _ (λ M b c d. All-cons (IsProtocolDef M names) one more.0 (record { name = b; body = c }) d) n.1 q.2 more.1,
        (λ i. bytes_same s (codes "protocol") x.0 i ∷ sym (lines_spelled names due ts x.1) i)
            ∙ ap (λ (ps : List Piece). spellings (first_on 0 (codes "protocol") ∷ plain (names.word n.0) ∷ plain (codes "{") ∷ ps)) (sym again),
      )

  -- a party's brace ends its statements
  parties_back : (k : ℕ) (s : List ℕ) (es : List Due) (ts : Pieces) → file_follow (parties k) s ≡ Some es → AllSpelled names es ts → Spelled names (parties k) (s ∷ ts)
  parties_back k s es ts e h =
      let due = name ∷ fixed (codes "{") ∷ stmts 0 ∷ fixed (codes "}") ∷ parties (suc k) ∷ [] in
      let x = met names (bytes_eq s (codes "party")) due es ts e h in
      let n = x.1.2 in
      let c = x.1.3.3.2 in
      let more = x.1.3.3.3.3.2 in (
        record { line = 0; name = n.0; code = c.0 } ∷ more.0,
        first_on 0 (codes "party") ∷ plain (names.word n.0) ∷ (braced c.1 ++ more.1),
        widely_three _ _ _ _ (λ M a b d. files.one_party a b d) n.1 c.2 more.2,
        (λ i. bytes_same s (codes "party") x.0 i ∷ sym (lines_spelled names due ts x.1) i)
            ∙ ap (λ (ps : List Piece). spellings (first_on 0 (codes "party") ∷ plain (names.word n.0) ∷ plain (codes "{") ∷ ps)) (sym (append_assoc c.1 (plain (codes "}") ∷ []) more.1)),
      )

  -- the end of a connection
  end_widely : (x y z : ℕ) → Named names x → Named names y → Named names z → Widely (λ M. IsEnd M names (record { party = x; name = y; protocol = z }))
  end_widely x y z a b c = widely_three _ _ _ _ (λ M a b c. record { party = a; name = b; protocol = c }) a b c

  -- a connection by its two ends
  connects_back : (k : ℕ) (s : List ℕ) (es : List Due) (ts : Pieces) → file_follow (connects k) s ≡ Some es → AllSpelled names es ts → Spelled names (connects k) (s ∷ ts)
  connects_back k s es ts e h =
      let due = name ∷ name ∷ name ∷ fixed (codes "to") ∷ name ∷ name ∷ name ∷ semicolon ∷ connects (suc k) ∷ [] in
      let x = met names (bytes_eq s (codes "connect")) due es ts e h in
      let a = x.1 in
      let b = a.3.3.3.3 in
      let more = b.3.3.3.3.2 in
      let one : ConnectAt = record {
        line = 0;
        first = record { party = a.2.0; name = a.3.2.0; protocol = a.3.3.2.0 };
        second = record { party = b.2.0; name = b.3.2.0; protocol = b.3.3.2.0 };
      } in (
        one ∷ more.0,
        widely_three _ _ _ _ (λ M c d f. All-cons (IsConnect M names) one more.0 (record { first = c; second = d }) f)
            (end_widely a.2.0 a.3.2.0 a.3.3.2.0 a.2.1 a.3.2.1 a.3.3.2.1) (end_widely b.2.0 b.3.2.0 b.3.3.2.0 b.2.1 b.3.2.1 b.3.3.2.1) more.1,
        λ i. bytes_same s (codes "connect") x.0 i ∷ sym (lines_spelled names due ts x.1) i,
      )

  -- each due by its token
  pub file_back : (d : Due) (s : List ℕ) (es : List Due) (ts : Pieces) → IsHeld names s → file_follow d s ≡ Some es → AllSpelled names es ts → Spelled names d (s ∷ ts)
  file_back (protocols k) s es ts held e h = protocols_back k s es ts e h
  file_back (parties k) s es ts held e h = parties_back k s es ts e h
  file_back (connects k) s es ts held e h = connects_back k s es ts e h
  file_back (stmts o) s es ts held e h = statement_back names o s es ts e h
  file_back (block o) s es ts held e h = block_back names o s es ts e h
  file_back (branches o) s es ts held e h = arms_back names o s es ts held e h
  file_back awaited s es ts held e h = awaited_back names s es ts e h
  file_back name s es ts held e h =
      let x = met names (is_name s) [] es ts e h in
      let n = name_held names s held x.0 in
      (n.0, n.1, λ i. sym n.2 i ∷ x.1 i)
  file_back (fixed p) s es ts held e h = let x = met names (bytes_eq s p) [] es ts e h in λ i. bytes_same s p x.0 i ∷ x.1 i
  file_back (proto d) s es ts held e h =
      let x = mapped proto (protocol_follow d s) es e in
      completed.spelled_back names.word d s x.0 ts (held.0.0, held.0.1) x.1
      (alls_below protocol_layer file_layer (protocol.Spelled names.word) (Spelled names) proto (λ d a t. t) x.0 ts (subst (λ (gs : List Due). AllSpelled names gs ts) x.2 h))
  file_back (expr d) s es ts held e h =
      let x = mapped expr (expression_follow d s) es e in
      unfollow names d s x.0 ts held x.1
      (alls_below expression_layer file_layer (expression.Spelled names) (Spelled names) expr (λ d a t. t) x.0 ts (subst (λ (gs : List Due). AllSpelled names gs ts) x.2 h))
