-- Canonical texts of parties are parties again, equal but for lines.
use Rattle.std.proofs.Common.{◌≡◌, ℕ, List, [], ◌∷◌, ◌++◌, refl, ap, sym, subst, ◌∙◌, append_assoc}
use Rattle.std.specs.Prelude.{codes, map}
use Rattle.sj_lang.specs.Code.{Code}
use Rattle.sj_lang.specs.FileAt.{PartyAt}
use Rattle.sj_lang.specs.Limits.{Limits}
use Rattle.sj_grammar.specs.Tables.{Spelling}
use Rattle.sj_grammar.specs.Positions.{Piece, plain, first_on, spellings}
use Rattle.sj_grammar.specs.Statements.{braced, IsCode}
use Rattle.sj_grammar.specs.Files.{AreParties}
use Rattle.sj_grammar.specs.Files as files
use Rattle.sj_grammar.proofs.LexingLemmas.{read, NoWordByte}
use Rattle.sj_party.specs.CanonicalCode.{spaces, newline, in_block, code_text}
use Rattle.sj_party.specs.CanonicalFile.{parties_text}
use Rattle.sj_party.specs.Unlined.{unlined_code, unlined_party}
use Rattle.sj_party.proofs.AddAlike.{alike_same, alike_cons}
use Rattle.sj_party.proofs.PieceTextLemmas.{AreBlank, Reaches, joins}
use Rattle.sj_party.proofs.LineLemmas.{Relined, adds_append, headed, blanks_then, name_has}
use Rattle.sj_party.proofs.BlockLineLemmas.{in_braces, block_free}
use Rattle.sj_party.proofs.OneLinerLemmas.{named_is}
use Rattle.sj_party.proofs.CodeAgain.{code_again}

party_parts : (w tail block behind rest : List ℕ) → (((w ++ tail) ++ (block ++ newline)) ++ behind) ++ rest ≡ w ++ (tail ++ (block ++ (newline ++ (behind ++ rest))))
party_parts w tail block behind rest =
    append_assoc ((w ++ tail) ++ (block ++ newline)) behind rest ∙ append_assoc (w ++ tail) (block ++ newline) (behind ++ rest) ∙ append_assoc w tail ((block ++ newline) ++ (behind ++ rest)) ∙ ap (λ x. w ++ (tail ++ x)) (append_assoc block newline (behind ++ rest))

module _ (L : Limits) (names : Spelling) where
  abbrev CodeBlock : Code → List Piece → Type 0
  CodeBlock v d = (c : List Piece) × (d ≡ braced c) × IsCode L names 0 v c

  pub parties_again : {qs : List PartyAt} {a : List Piece} → AreParties L names qs a → (before g rest : List ℕ) → AreBlank g → Relined (map unlined_party) (AreParties L names) qs a (read before (g ++ (parties_text names qs ++ rest))) rest
  parties_again files.no_party before g rest blank =
      record { value = []; same = refl; pieces = []; is = files.no_party; adds = alike_same []; reaches = record { before = before; blanks = g; are = blank; lexes = refl } }
  parties_again (files.one_party {l} {n} {code} {a} {qs} {b} is h more) before g rest blank =
      let inner = code_text names 2 code in
      let block = in_block 0 inner in
      let behind = parties_text names qs in
      let after = newline ++ (behind ++ rest) in
      let r = read before (g ++ (codes "party" ++ ((32 ∷ names.word n) ++ (block ++ after)))) in
      let head = headed NoWordByte (codes "party") 0 (32 ∷ names.word n) (plain (names.word n) ∷ []) before g (block ++ after) refl (λ x. refl) (name_has L names n is) blank (block_free 0 inner after) in
      let first = first_on head.0 (codes "party") ∷ plain (names.word n) ∷ [] in
      let body = in_braces unlined_code (IsCode L names 0) CodeBlock code a 0 inner head.1.before head.1.blanks after head.1.are (λ v c c_is. (c, refl, c_is)) (λ k x x_blank. code_again L names h 2 k x ((spaces 0 ++ codes "}") ++ after) x_blank) in
      let with_body = joins r first body.pieces block after head.1 body.reaches in
      let lined = blanks_then r (first ++ body.pieces) newline (behind ++ rest) refl with_body in
      let second = parties_again more lined.before lined.blanks rest lined.are in
      let text = ap (λ x. ((x ++ (block ++ newline)) ++ behind) ++ rest) (named_is L names (codes "party") n) ∙ party_parts (codes "party") (32 ∷ names.word n) block behind rest in
      record {
        value = record { line = head.0; name = n; code = body.value } ∷ second.value;
        same = λ i. record { line = 0; name = n; code = body.same i } ∷ second.same i;
        pieces = first_on head.0 (codes "party") ∷ plain (names.word n) ∷ (body.pieces ++ second.pieces);
        is = subst (λ (c : List Piece). AreParties L names (record { line = head.0; name = n; code = body.value } ∷ second.value) (first_on head.0 (codes "party") ∷ plain (names.word n) ∷ (c ++ second.pieces))) (sym body.is.1) (files.one_party is body.is.2 second.is);
        adds = alike_cons (codes "party") ((names.word n) ∷ spellings (braced a ++ b)) ((names.word n) ∷ spellings (body.pieces ++ second.pieces)) (alike_cons (names.word n) (spellings (braced a ++ b)) (spellings (body.pieces ++ second.pieces)) (adds_append (braced a) b body.pieces second.pieces body.adds second.adds));
        reaches = subst (λ (x : List ℕ). Reaches (read before (g ++ x)) (first_on head.0 (codes "party") ∷ plain (names.word n) ∷ (body.pieces ++ second.pieces)) rest) (sym text) (joins r (first ++ body.pieces) second.pieces behind rest lined second.reaches);
      }
