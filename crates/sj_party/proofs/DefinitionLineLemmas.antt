-- Canonical lines of protocols are protocols again, equal but for lines.
use Rattle.std.proofs.Common.{◌≡◌, ℕ, suc, List, [], ◌∷◌, ◌++◌, All, refl, ap, sym, subst, ◌∙◌, arith, append_assoc}
use Rattle.std.specs.Prelude.{codes, map}
use Rattle.std.proofs.lemmas.List.Elements.{All-cons}
use Rattle.sj_lang.specs.Place.{Place}
use Rattle.sj_lang.specs.FileAt.{ProtocolAt}
use Rattle.sj_grammar.specs.declared.tokens.What.TheVariants.{Symbol}
use Rattle.sj_lang.specs.Limits.{Limits}
use Rattle.sj_grammar.specs.Reading.{Reading, passed}
use Rattle.sj_grammar.specs.Tables.{Spelling, IsNamed}
use Rattle.sj_grammar.specs.Positions.{Pieces, Piece, plain, all_plain}
use Rattle.sj_grammar.specs.Protocols.{dotted, body_pieces, IsBody}
use Rattle.sj_grammar.specs.Canonical.{body_text}
use Rattle.sj_grammar.specs.Statements.{braced}
use Rattle.sj_grammar.specs.Files.{protocol_pieces, protocols_pieces, IsProtocolDef}
use Rattle.sj_grammar.proofs.LexingLemmas.{Lexes, read, Any, NoWordByte, passed_is}
use Rattle.sj_grammar.proofs.CanonicalTextLemmas.{body_has}
use Rattle.sj_grammar.proofs.SplitLemmas.{next_split}
use Rattle.sj_party.specs.CanonicalFile.{protocol_line, protocols_text}
use Rattle.sj_party.specs.Unlined.{unlined_protocol}
use Rattle.sj_party.proofs.AddAlike.{alike_same}
use Rattle.sj_party.proofs.PieceTextLemmas.{AreBlank, LexesOnLines, Reaches, HasLines, joins, lines_append, blank_lines, blank_next, one_line}
use Rattle.sj_party.proofs.LineLemmas.{Relined, adds_append, headed, name_has}

-- blanks before the first token change nothing
passed_blanks : (before g k rest : List ℕ) → passed (read (before ++ g) (k ++ rest)) rest ≡ passed (read before (g ++ (k ++ rest))) rest
passed_blanks before g k rest =
    passed_is (before ++ g) k rest ∙ append_assoc before g k ∙ sym (passed_is before (g ++ k) rest) ∙ ap (λ xs. passed (read before xs) rest) (append_assoc g k rest)

plain_lexes : (ps : Pieces) (r q : Reading) → Lexes r ps q → LexesOnLines r (all_plain ps) q
plain_lexes [] r q h = h
plain_lexes (s ∷ ps) r q h = (h.0, record { taken = h.1; line = tt }, plain_lexes ps h.0 q h.2)

blanks_lexes : (s : List ℕ) (ps : Pieces) (before g t : List ℕ) (q : Reading) → AreBlank g → Lexes (read (before ++ g) t) (s ∷ ps) q → Lexes (read before (g ++ t)) (s ∷ ps) q
blanks_lexes s ps before g t q blank h =
    let rest = h.1.rest in
    let split = next_split t h.1.what s rest h.1.token in
    let k = split.skipped ++ s in
    let whole : t ≡ k ++ rest = split.whole ∙ sym (append_assoc split.skipped s rest) in
    let same : passed (read (before ++ g) t) rest ≡ passed (read before (g ++ t)) rest =
    ap (λ xs. passed (read (before ++ g) xs) rest) whole ∙ passed_blanks before g k rest ∙ ap (λ xs. passed (read before (g ++ xs)) rest) (sym whole) in (
      h.0,
      record { what = h.1.what; rest = rest; token = blank_next g t blank ∙ h.1.token; there = h.1.there ∙ (λ i. read (same i) rest) },
      h.2,
    )

module _ (L : Limits) (names : Spelling) where
  body_lines : (p : Place) → IsBody L names.word p → HasLines NoWordByte (body_text names.word p) (all_plain (body_pieces names.word p))
  body_lines p h = λ before g rest blank free.
      let text = body_text names.word p in
      let end = (before ++ g) ++ text in
      record {
        before = end;
        blanks = [];
        are = refl;
        lexes = plain_lexes (body_pieces names.word p) (read before (g ++ (text ++ rest))) (read end rest)
            (blanks_lexes (codes "begin") (dotted names.word p) before g (text ++ rest) (read end rest) blank (body_has names.word L p h.given (before ++ g) rest free));
      }

  -- after the word that begins the line
  line_lines : (n : ℕ) (p : Place) → IsNamed L names.word n → IsBody L names.word p
      → HasLines Any ((32 ∷ names.word n) ++ (codes " { " ++ (body_text names.word p ++ codes " }\n"))) (plain (names.word n) ∷ braced (all_plain (body_pieces names.word p)))
  line_lines n p named h =
      let body = body_text names.word p in
      let ps = all_plain (body_pieces names.word p) in
      let shut = lines_append Any Any (codes " }") (codes "\n") (plain (codes "}") ∷ []) [] (one_line Any (codes " }") (codes "}") Symbol (λ rest free. refl)) (blank_lines Any (codes "\n") refl) (λ rest free. tt) in
      let closed = lines_append NoWordByte Any body (codes " }\n") ps (plain (codes "}") ∷ []) (body_lines p h) shut (λ rest free. refl) in
      let set = lines_append Any Any (codes " ") (body ++ codes " }\n") [] (ps ++ plain (codes "}") ∷ []) (blank_lines Any (codes " ") refl) closed (λ rest free. tt) in
      let opened = lines_append Any Any (codes " {") (codes " " ++ (body ++ codes " }\n")) (plain (codes "{") ∷ []) (ps ++ plain (codes "}") ∷ []) (one_line Any (codes " {") (codes "{") Symbol (λ rest free. refl)) set (λ rest free. tt) in
      lines_append NoWordByte Any (32 ∷ names.word n) (codes " { " ++ (body ++ codes " }\n")) (plain (names.word n) ∷ []) (braced ps) (name_has L names n named) opened (λ rest free. refl)

  line_again : (p : ProtocolAt) (before g rest : List ℕ) → IsProtocolDef L names p → AreBlank g
      → (l : ℕ) × Reaches (read before (g ++ (protocol_line (codes "protocol") names.word p.name p.body ++ rest))) (protocol_pieces names.word (record { line = l; name = p.name; body = p.body })) rest
  line_again p before g rest is blank =
      headed Any (codes "protocol") 0 ((32 ∷ names.word p.name) ++ (codes " { " ++ (body_text names.word p.body ++ codes " }\n"))) (plain (names.word p.name) ∷ braced (all_plain (body_pieces names.word p.body)))
      before g rest refl (λ more. refl) (line_lines p.name p.body is.name is.body) blank tt

  abbrev pub AreProtocols : List ProtocolAt → List Piece → Type 0
  AreProtocols ps a = (a ≡ protocols_pieces names.word ps) × All (IsProtocolDef L names) ps

  pub protocols_again : (ps : List ProtocolAt) → All (IsProtocolDef L names) ps → (before g rest : List ℕ) → AreBlank g
      → Relined (map unlined_protocol) AreProtocols ps (protocols_pieces names.word ps) (read before (g ++ (protocols_text names ps ++ rest))) rest
  protocols_again [] all before g rest blank =
      record { value = []; same = refl; pieces = []; is = (refl, all); adds = alike_same []; reaches = record { before = before; blanks = g; are = blank; lexes = refl } }
  protocols_again (p ∷ ps) all before g rest blank =
      let is = all 0 p (omega arith) in
      let line = protocol_line (codes "protocol") names.word p.name p.body in
      let behind = protocols_text names ps in
      let r = read before (g ++ (line ++ (behind ++ rest))) in
      let first = line_again p before g (behind ++ rest) is blank in
      let q : ProtocolAt = record { line = first.0; name = p.name; body = p.body } in
      let second = protocols_again ps (λ k d h. all (suc k) d (omega (arith, h))) first.1.before first.1.blanks rest first.1.are in
      let pieces = protocol_pieces names.word q ++ second.pieces in
      record {
        value = q ∷ second.value;
        same = λ i. unlined_protocol p ∷ second.same i;
        pieces = pieces;
        is = (ap (λ (a : List Piece). protocol_pieces names.word q ++ a) second.is.0, All-cons (IsProtocolDef L names) q second.value (record { name = is.name; body = is.body }) second.is.1);
        adds = adds_append (protocol_pieces names.word p) (protocols_pieces names.word ps) (protocol_pieces names.word q) second.pieces (alike_same _) second.adds;
        reaches = subst (λ (x : List ℕ). Reaches (read before (g ++ x)) pieces rest) (sym (append_assoc line behind rest)) (joins r (protocol_pieces names.word q) second.pieces behind rest first.1 second.reaches);
      }
