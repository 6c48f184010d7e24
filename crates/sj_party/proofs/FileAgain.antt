-- The canonical text of a file stands for the file, lines aside.
use Rattle.std.proofs.Common.{◌≡◌, ℕ, ◌≤◌, List, [], ◌++◌, length, refl, ap, sym, subst, ◌∙◌, append_assoc, append-nil}
use Rattle.std.specs.Prelude.{map}
use Rattle.std.proofs.lemmas.List.{length-map}
use Rattle.sj_lang.specs.FileAt.{FileAt}
use Rattle.sj_lang.specs.Limits.{limits}
use Rattle.sj_grammar.specs.Lexis.{next_of, at_end}
use Rattle.sj_grammar.specs.Positions.{Piece, At, at, spellings, start, BeginsOnLines}
use Rattle.sj_grammar.specs.Files.{protocols_pieces, connects_pieces, names_of, IsFile}
use Rattle.sj_grammar.proofs.LexingLemmas.{read}
use Rattle.sj_grammar.proofs.LexedTableLemmas.{words_behind, texts_behind}
use Rattle.sj_party.specs.CanonicalFile.{protocols_text, parties_text, connects_text, file_text}
use Rattle.sj_party.specs.Unlined.{unlined, unlined_protocol, unlined_party, unlined_connect, StandsButLines}
use Rattle.sj_party.proofs.AddAlike.{AddAlike}
use Rattle.sj_party.proofs.PieceTextLemmas.{Reaches, joins, blank_next, lines_begin, tables_made}
use Rattle.sj_party.proofs.LineLemmas.{adds_append}
use Rattle.sj_party.proofs.DefinitionLineLemmas.{protocols_again}
use Rattle.sj_party.proofs.PartyLineLemmas.{parties_again}
use Rattle.sj_party.proofs.ConnectLineLemmas.{connects_again}
use Rattle.sj_party.proofs.OneFile.{one_file}

-- as many, but for lines
as_many : {X : Type 0} (un : X → X) (xs ys : List X) (n : ℕ) → map un xs ≡ map un ys → length ys ≤ n → length xs ≤ n
as_many un xs ys n e h = subst (λ (k : ℕ). k ≤ n) (sym (length-map ys un) ∙ ap length (sym e) ∙ length-map xs un) h

-- a whole text that is read as these pieces
record IsRead (bytes : List ℕ) (ps : List Piece) : Type 0 where
  pub end : At
  pub begins : BeginsOnLines (start bytes [] []) ps end
  pub whole : next_of end.text.ahead ≡ at_end
  pub words : end.words ≡ words_behind [] (spellings ps)
  pub texts : end.texts ≡ texts_behind [] (spellings ps)

is_read : (bytes : List ℕ) (ps : List Piece) → Reaches (read [] bytes) ps [] → IsRead bytes ps
is_read bytes ps h = record {
  end = at (read h.before (h.blanks ++ [])) (words_behind [] (spellings ps)) (texts_behind [] (spellings ps));
  begins = lines_begin ps (read [] bytes) (read h.before (h.blanks ++ [])) [] [] h.lexes;
  whole = blank_next h.blanks [] h.are;
  words = refl;
  texts = refl;
}

pub stands_but_lines : (bytes : List ℕ) (f : FileAt) → IsFile bytes f → StandsButLines (file_text f) f
stands_but_lines bytes f is =
    let names = names_of f in
    let spelled = is.spelled in
    let defs = protocols_text names f.protocols in
    let parties = parties_text names f.parties in
    let connects = connects_text names f.connects in
    let p = protocols_again limits names f.protocols spelled.all_protocols [] [] (parties ++ (connects ++ [])) refl in
    let q = parties_again limits names spelled.all_parties p.reaches.before p.reaches.blanks (connects ++ []) p.reaches.are in
    let bytes_put = defs ++ (parties ++ (connects ++ [])) in
    let first = joins (read [] bytes_put) p.pieces q.pieces parties (connects ++ []) p.reaches q.reaches in
    let c = connects_again limits names f.connects spelled.all_connects first.before first.blanks [] first.are in
    let pieces = (p.pieces ++ q.pieces) ++ c.pieces in
    let all = joins (read [] bytes_put) (p.pieces ++ q.pieces) c.pieces connects [] first c.reaches in
    let done = is_read (file_text f) pieces (subst (λ (x : List ℕ). Reaches (read [] (defs ++ (parties ++ x))) pieces []) (append-nil connects) all) in
    let made = tables_made is.pieces (start bytes [] []) is.end is.begins in
    let adds : AddAlike (spellings is.pieces) (spellings pieces) =
    subst (λ (ps : List Piece). AddAlike (spellings ps) (spellings pieces)) (sym (spelled.same ∙ regrouped (protocols_pieces names.word f.protocols) spelled.parties (connects_pieces names.word f.connects)))
    (adds_append (protocols_pieces names.word f.protocols ++ spelled.parties) (connects_pieces names.word f.connects) (p.pieces ++ q.pieces) c.pieces
    (adds_append (protocols_pieces names.word f.protocols) spelled.parties p.pieces q.pieces p.adds q.adds) c.adds) in
    record {
      file = record { words = f.words; texts = f.texts; protocols = p.value; parties = q.value; connects = c.value };
      same = λ i. record { words = f.words; texts = f.texts; protocols = p.same i; parties = q.same i; connects = c.same i };
      stands = record {
        pieces = pieces;
        spelled = record {
          parties = q.pieces;
          same = sym (regrouped p.pieces q.pieces c.pieces) ∙ (λ i. p.is.0 i ++ (q.pieces ++ c.is.0 i));
          all_protocols = p.is.1;
          all_parties = q.is;
          all_connects = c.is.1;
          few_protocols = as_many unlined_protocol p.value f.protocols limits.protocols p.same spelled.few_protocols;
          few_parties = as_many unlined_party q.value f.parties limits.parties q.same spelled.few_parties;
          few_connects = as_many unlined_connect c.value f.connects limits.connects c.same spelled.few_connects;
        };
        end = done.end;
        begins = done.begins;
        whole = done.whole;
        words = done.words ∙ sym (adds.words []) ∙ sym made.0 ∙ is.words;
        texts = done.texts ∙ sym (adds.texts []) ∙ sym made.1 ∙ is.texts;
      };
    }
  where
    regrouped : (a b c : List Piece) → a ++ (b ++ c) ≡ (a ++ b) ++ c
    regrouped a b c = sym (append_assoc a b c)

-- and for no other
pub but_lines_alone : (bytes : List ℕ) (f g : FileAt) → IsFile bytes f → IsFile (file_text f) g → unlined g ≡ unlined f
but_lines_alone bytes f g is also = let h = stands_but_lines bytes f is in ap unlined (one_file (file_text f) g h.file also h.stands) ∙ h.same
