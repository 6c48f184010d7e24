-- What is due after a token of a file, and the token, are what was due before it, within limits.
use Rattle.std.proofs.Common.{◌≡◌, ℕ, suc, ◌+◌, ◌≤◌, ◌<◌, false, List, [], ◌∷◌, ◌++◌, length, Some, sym, subst, append_assoc, append-nil, arith}
use Rattle.std.specs.Prelude.{codes}
use Rattle.std.specs.Str.{bytes_eq}
use Rattle.std.proofs.lemmas.Bool.{leb-false}
use Rattle.std.proofs.lemmas.List.Elements.{All-cons}
use Rattle.sj_lang.specs.FileAt.{ProtocolAt, ConnectAt}
use Rattle.sj_lang.specs.Limits.{Limits}
use Rattle.sj_grammar.specs.Names.{is_name}
use Rattle.sj_grammar.specs.Tables.{Spelling}
use Rattle.sj_grammar.specs.Positions.{Piece, plain, first_on, all_plain, spellings}
use Rattle.sj_grammar.specs.Protocols.{body_pieces}
use Rattle.sj_grammar.specs.ProtocolDues.{body, protocol_follow, protocol_counted}
use Rattle.sj_grammar.specs.ExpressionDues.{expression_follow, expression_counted}
use Rattle.sj_grammar.specs.Statements.{braced}
use Rattle.sj_grammar.specs.Files.{protocols_pieces, IsProtocolDef, IsConnect}
use Rattle.sj_grammar.specs.Files as files
use Rattle.sj_grammar.specs.FileDues.{Due, protocols, parties, connects, stmts, block, branches, awaited, name, fixed, proto, expr, semicolon, file_follow, file_counted, file_passes}
use Rattle.sj_expr.proofs.TestLemmas.{bytes_same}
use Rattle.sj_party.specs.Alike.{AreAlike}
use Rattle.sj_party_laws.proofs.ChainLemmas.{nothing, first, chained_below}
use Rattle.sj_party_laws.proofs.ItemLemmas as protocol
use Rattle.sj_party_laws.proofs.ProtocolLemmas as items
use Rattle.sj_party_laws.proofs.TermLemmas.{IsKnown}
use Rattle.sj_party_laws.proofs.TermLemmas as expression
use Rattle.sj_party_laws.proofs.FollowLemmas as follow
use Rattle.sj_party_laws.proofs.FilledLemmas.{Spelled, AllSpelled, lines_alike, alike_append, alike_of}
use Rattle.sj_party_laws.proofs.StatementLemmas.{line_in, on_line}
use Rattle.sj_party_laws.proofs.BlockLemmas.{met, last_alike, name_held, statement_back, awaited_back, block_back, arms_back}
use Rattle.sj_party.proofs.FileBack.{mapped}

-- one more, where there is room for it
one_more : (k most many : ℕ) → k < most → (suc k ≤ most → suc k + many ≤ most) → k ≤ most → k + suc many ≤ most
one_more k most many room few h = let all : suc k + many ≤ most = few (omega arith) in omega arith

module _ (L : Limits) (names : Spelling) (n m : ℕ) (p : Piece) where
  -- a protocol by its first word, on its line
  protocols_back : (k : ℕ) (ts : List Piece) → k < L.protocols → p.spelled ≡ codes "protocol" → AllSpelled L names n (name ∷ fixed (codes "{") ∷ proto body ∷ fixed (codes "}") ∷ protocols (suc k) ∷ []) ts m
      → Spelled L names n (protocols k) (p ∷ ts) m
  protocols_back k _ room same (first {k = k1} {a = a} x (first {k = k2} {a = b} f (first {k = k3} {a = c} i (first {k = k4} {a = d} e (first {a = r} others nothing))))) =
      let one : ProtocolAt = record { line = line_in p.line; name = x.0; body = i.0 } in
      let inside : AreAlike (all_plain (body_pieces names.word i.0)) c = alike_of (body_pieces names.word i.0) c i.3 in
      let behind = protocols_pieces names.word others.0 in
      let rest : AreAlike (plain (codes "}") ∷ behind) (d ++ (r ++ [])) = alike_append (plain (codes "}") ∷ []) behind d (r ++ []) e (subst (AreAlike behind) (sym (append-nil r)) others.3) in
      let tail : AreAlike (all_plain (body_pieces names.word i.0) ++ plain (codes "}") ∷ behind) (c ++ (d ++ (r ++ []))) =
      alike_append (all_plain (body_pieces names.word i.0)) (plain (codes "}") ∷ behind) c (d ++ (r ++ [])) inside rest in
      let all : AreAlike ((all_plain (body_pieces names.word i.0) ++ plain (codes "}") ∷ []) ++ behind) (c ++ (d ++ (r ++ []))) =
      subst (λ (z : List Piece). AreAlike z (c ++ (d ++ (r ++ [])))) (sym (append_assoc (all_plain (body_pieces names.word i.0)) (plain (codes "}") ∷ []) behind)) tail in
      let brace = alike_append (plain (codes "{") ∷ []) ((all_plain (body_pieces names.word i.0) ++ plain (codes "}") ∷ []) ++ behind) b (c ++ (d ++ (r ++ []))) f all in (
        one ∷ others.0,
        All-cons (IsProtocolDef L names) one others.0 (record { name = x.1; body = record { given = i.1; few = i.2 } }) others.1,
        one_more k L.protocols (length others.0) room others.2,
        (
          sym same,
          on_line p.line,
          alike_append (plain (names.word x.0) ∷ []) (plain (codes "{") ∷ ((all_plain (body_pieces names.word i.0) ++ plain (codes "}") ∷ []) ++ behind)) a (b ++ (c ++ (d ++ (r ++ [])))) x.2 brace,
        ),
      )

  -- a party
  parties_back : (k : ℕ) (ts : List Piece) → k < L.parties → p.spelled ≡ codes "party" → AllSpelled L names n (name ∷ fixed (codes "{") ∷ stmts 0 ∷ fixed (codes "}") ∷ parties (suc k) ∷ []) ts m → Spelled L names n (parties k) (p ∷ ts) m
  parties_back k _ room same (first {k = k1} {a = a1} x (first {k = k2} {a = a2} f (first {k = k3} {a = a3} c (first {k = k4} {a = a4} e (first {a = a5} more nothing))))) =
      let due = name ∷ fixed (codes "{") ∷ stmts 0 ∷ fixed (codes "}") ∷ parties (suc k) ∷ [] in
      let lines = lines_alike L names n m due _ (first {k = k1} x (first {k = k2} f (first {k = k3} c (first {k = k4} e (first more nothing))))) in (
        record { line = line_in p.line; name = x.0; code = c.0 } ∷ more.0,
        first_on (line_in p.line) (codes "party") ∷ plain (names.word x.0) ∷ (braced c.1 ++ more.1),
        files.one_party x.1 c.2 more.2,
        one_more k L.parties (length more.0) room more.3,
        (
          sym same,
          on_line p.line,
          subst (λ (z : List Piece). AreAlike (plain (names.word x.0) ∷ plain (codes "{") ∷ z) (a1 ++ (a2 ++ (a3 ++ (a4 ++ (a5 ++ [])))))) (sym (append_assoc c.1 (plain (codes "}") ∷ []) more.1)) lines,
        ),
      )

  -- a connection
  connects_back : (k : ℕ) (ts : List Piece) → k < L.connects → p.spelled ≡ codes "connect" → AllSpelled L names n (name ∷ name ∷ name ∷ fixed (codes "to") ∷ name ∷ name ∷ name ∷ semicolon ∷ connects (suc k) ∷ []) ts m
      → Spelled L names n (connects k) (p ∷ ts) m
  connects_back k _ room same (first {k = k1} a (first {k = k2} b (first {k = k3} c (first {k = k4} f (first {k = k5} x (first {k = k6} y (first {k = k7} z (first {k = k8} e (first more nothing))))))))) =
      let due = name ∷ name ∷ name ∷ fixed (codes "to") ∷ name ∷ name ∷ name ∷ semicolon ∷ connects (suc k) ∷ [] in
      let lines = lines_alike L names n m due _ (first {k = k1} a (first {k = k2} b (first {k = k3} c (first {k = k4} f (first {k = k5} x (first {k = k6} y (first {k = k7} z (first {k = k8} e (first more nothing))))))))) in
      let one : ConnectAt = record { line = line_in p.line; first = record { party = a.0; name = b.0; protocol = c.0 }; second = record { party = x.0; name = y.0; protocol = z.0 } } in (
        one ∷ more.0,
        All-cons (IsConnect L names) one more.0 (record { first = record { party = a.1; name = b.1; protocol = c.1 }; second = record { party = x.1; name = y.1; protocol = z.1 } }) more.1,
        one_more k L.connects (length more.0) room more.2,
        (sym same, on_line p.line, lines),
      )

  -- each due by its token
  pub file_back : (d : Due) (es : List Due) (ts : List Piece) → IsKnown names p.spelled → file_follow d p.spelled ≡ Some es → file_passes L n d p.spelled ≡ false → AllSpelled L names (file_counted n d p.spelled) es ts m → Spelled L names n d (p ∷ ts) m
  file_back (protocols k) es ts held e room h =
      let x = met L names n m (bytes_eq p.spelled (codes "protocol")) (name ∷ fixed (codes "{") ∷ proto body ∷ fixed (codes "}") ∷ protocols (suc k) ∷ []) es ts e h in
      protocols_back k ts (leb-false L.protocols k room) (bytes_same p.spelled (codes "protocol") x.0) x.1
  file_back (parties k) es ts held e room h =
      let x = met L names n m (bytes_eq p.spelled (codes "party")) (name ∷ fixed (codes "{") ∷ stmts 0 ∷ fixed (codes "}") ∷ parties (suc k) ∷ []) es ts e h in
      parties_back k ts (leb-false L.parties k room) (bytes_same p.spelled (codes "party") x.0) x.1
  file_back (connects k) es ts held e room h =
      let x = met L names n m (bytes_eq p.spelled (codes "connect")) (name ∷ name ∷ name ∷ fixed (codes "to") ∷ name ∷ name ∷ name ∷ semicolon ∷ connects (suc k) ∷ []) es ts e h in
      connects_back k ts (leb-false L.connects k room) (bytes_same p.spelled (codes "connect") x.0) x.1
  file_back (stmts o) es ts held e room h = statement_back L names n m o p es ts e h
  file_back (block o) es ts held e room h = block_back L names n m o p es ts (leb-false L.nesting o room) e h
  file_back (branches o) es ts held e room h = arms_back L names n m o p es ts held room e h
  file_back awaited es ts held e room h = awaited_back L names n m p es ts e h
  file_back name es ts held e room h =
      let x = met L names n m (is_name p.spelled) [] es ts e h in
      let q = name_held L names n m p held room x.0 in
      (q.0, q.1, last_alike L names n m p (names.word q.0) ts q.2 x.1)
  file_back (fixed s) es ts held e room h = let x = met L names n m (bytes_eq p.spelled s) [] es ts e h in last_alike L names n m p s ts (sym (bytes_same p.spelled s x.0)) x.1
  file_back (proto d) es ts held e room h =
      let x = mapped proto (protocol_follow d p.spelled) es e in
      let j = protocol_counted n d p.spelled in
      items.spelled_back L names.word n m d p.spelled x.0 (spellings ts) held.name x.1 room
      (chained_below (protocol.Spelled L names.word) (Spelled L names) proto (λ n m d a t. t) x.0 j m ts (subst (λ (gs : List Due). AllSpelled L names j gs ts m) x.2 h))
  file_back (expr d) es ts held e room h =
      let x = mapped expr (expression_follow d p.spelled) es e in
      let j = expression_counted n d p.spelled in
      follow.spelled_back L names n m d p.spelled x.0 (spellings ts) held x.1 room
      (chained_below (expression.Spelled L names) (Spelled L names) expr (λ n m d a t. t) x.0 j m ts (subst (λ (gs : List Due). AllSpelled L names j gs ts m) x.2 h))
