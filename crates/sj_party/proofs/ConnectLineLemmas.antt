-- Canonical lines of connections are connections again, equal but for lines.
use Rattle.std.proofs.Common.{◌≡◌, ℕ, suc, List, [], ◌∷◌, ◌++◌, All, refl, ap, sym, subst, arith, append_assoc}
use Rattle.std.specs.Prelude.{codes, map}
use Rattle.std.proofs.lemmas.List.Elements.{All-cons}
use Rattle.sj_lang.specs.FileAt.{DeclAt, ConnectAt}
use Rattle.sj_grammar.specs.declared.tokens.What.TheVariants.{Symbol}
use Rattle.sj_lang.specs.Limits.{Limits}
use Rattle.sj_grammar.specs.Tables.{Spelling}
use Rattle.sj_grammar.specs.Positions.{Piece, plain}
use Rattle.sj_grammar.specs.Files.{end_pieces, connect_pieces, connects_pieces, IsEnd, IsConnect}
use Rattle.sj_grammar.proofs.LexingLemmas.{read, Any, NoWordByte}
use Rattle.sj_party.specs.CanonicalCode.{named_text, pair_text}
use Rattle.sj_party.specs.CanonicalFile.{end_text, connect_text, connects_text}
use Rattle.sj_party.specs.Unlined.{unlined_connect}
use Rattle.sj_party.proofs.AddAlike.{alike_same}
use Rattle.sj_party.proofs.PieceTextLemmas.{AreBlank, Reaches, HasLines, joins, lines_append, blank_lines, one_line}
use Rattle.sj_party.proofs.ExpressionTextLemmas.{word_lines}
use Rattle.sj_party.proofs.LineLemmas.{Relined, adds_append, headed, name_has}
use Rattle.sj_party.proofs.HeadLemmas.{pair_has, reserved_lines}

module _ (L : Limits) (names : Spelling) where
  end_has : (d : DeclAt) → IsEnd L names d → HasLines NoWordByte (end_text names d) (end_pieces names.word d)
  unfolding named_text pair_text end_text
  end_has d h =
      lines_append NoWordByte NoWordByte ((32 ∷ names.word d.party) ++ (32 ∷ names.word d.name)) (32 ∷ names.word d.protocol) (plain (names.word d.party) ∷ plain (names.word d.name) ∷ []) (plain (names.word d.protocol) ∷ [])
      (pair_has L names d.party d.name h.party h.name) (name_has L names d.protocol h.protocol) (λ rest free. refl)

  end_free : (d : DeclAt) (more : List ℕ) → NoWordByte (end_text names d ++ more)
  unfolding named_text pair_text end_text
  end_free d more = refl

  ends_have : (d e : DeclAt) → IsEnd L names d → IsEnd L names e
      → HasLines Any (end_text names d ++ (codes " to" ++ (end_text names e ++ codes ";\n"))) (end_pieces names.word d ++ plain (codes "to") ∷ (end_pieces names.word e ++ plain (codes ";") ∷ []))
  ends_have d e h k =
      let stop = lines_append Any Any (codes ";") (codes "\n") (plain (codes ";") ∷ []) [] (one_line Any (codes ";") (codes ";") Symbol (λ rest free. refl)) (blank_lines Any (codes "\n") refl) (λ rest free. tt) in
      let last = lines_append NoWordByte Any (end_text names e) (codes ";\n") (end_pieces names.word e) (plain (codes ";") ∷ []) (end_has e k) stop (λ rest free. refl) in
      let to = lines_append NoWordByte Any (codes " to") (end_text names e ++ codes ";\n") (plain (codes "to") ∷ []) (end_pieces names.word e ++ plain (codes ";") ∷ []) (reserved_lines (codes "to") (word_lines (codes "to") refl)) last (λ rest free. to_free e rest) in
      lines_append NoWordByte Any (end_text names d) (codes " to" ++ (end_text names e ++ codes ";\n")) (end_pieces names.word d) (plain (codes "to") ∷ (end_pieces names.word e ++ plain (codes ";") ∷ [])) (end_has d h) to (λ rest free. refl)
    where
      to_free : (e : DeclAt) (rest : List ℕ) → NoWordByte ((end_text names e ++ codes ";\n") ++ rest)
      to_free e rest = subst NoWordByte (sym (append_assoc (end_text names e) (codes ";\n") rest)) (end_free e (codes ";\n" ++ rest))

  both_free : (d e : DeclAt) (more : List ℕ) → NoWordByte ((end_text names d ++ (codes " to" ++ (end_text names e ++ codes ";\n"))) ++ more)
  both_free d e more = subst NoWordByte (sym (append_assoc (end_text names d) (codes " to" ++ (end_text names e ++ codes ";\n")) more)) (end_free d ((codes " to" ++ (end_text names e ++ codes ";\n")) ++ more))

  connect_again : (c : ConnectAt) (before g rest : List ℕ) → IsConnect L names c → AreBlank g
      → (l : ℕ) × Reaches (read before (g ++ (connect_text names c ++ rest))) (connect_pieces names.word (record { line = l; first = c.first; second = c.second })) rest
  connect_again c before g rest is blank =
      headed Any (codes "connect") 0 (end_text names c.first ++ (codes " to" ++ (end_text names c.second ++ codes ";\n"))) (end_pieces names.word c.first ++ plain (codes "to") ∷ (end_pieces names.word c.second ++ plain (codes ";") ∷ []))
      before g rest refl (both_free c.first c.second) (ends_have c.first c.second is.first is.second) blank tt

  abbrev pub AreConnects : List ConnectAt → List Piece → Type 0
  AreConnects cs a = (a ≡ connects_pieces names.word cs) × All (IsConnect L names) cs

  pub connects_again : (cs : List ConnectAt) → All (IsConnect L names) cs → (before g rest : List ℕ) → AreBlank g
      → Relined (map unlined_connect) AreConnects cs (connects_pieces names.word cs) (read before (g ++ (connects_text names cs ++ rest))) rest
  connects_again [] all before g rest blank =
      record { value = []; same = refl; pieces = []; is = (refl, all); adds = alike_same []; reaches = record { before = before; blanks = g; are = blank; lexes = refl } }
  connects_again (c ∷ cs) all before g rest blank =
      let is = all 0 c (omega arith) in
      let line = connect_text names c in
      let behind = connects_text names cs in
      let r = read before (g ++ (line ++ (behind ++ rest))) in
      let first = connect_again c before g (behind ++ rest) is blank in
      let d : ConnectAt = record { line = first.0; first = c.first; second = c.second } in
      let second = connects_again cs (λ k x h. all (suc k) x (omega (arith, h))) first.1.before first.1.blanks rest first.1.are in
      let pieces = connect_pieces names.word d ++ second.pieces in
      record {
        value = d ∷ second.value;
        same = λ i. unlined_connect c ∷ second.same i;
        pieces = pieces;
        is = (ap (λ (a : List Piece). connect_pieces names.word d ++ a) second.is.0, All-cons (IsConnect L names) d second.value (record { first = is.first; second = is.second }) second.is.1);
        adds = adds_append (connect_pieces names.word c) (connects_pieces names.word cs) (connect_pieces names.word d) second.pieces (alike_same _) second.adds;
        reaches = subst (λ (x : List ℕ). Reaches (read before (g ++ x)) pieces rest) (sym (append_assoc line behind rest)) (joins r (connect_pieces names.word d) second.pieces behind rest first.1 second.reaches);
      }
