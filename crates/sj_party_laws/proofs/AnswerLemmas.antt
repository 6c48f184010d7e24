-- A text whose tokens are all taken stands for a file.
use Rattle.std.proofs.Common.{◌≡◌, ℕ, suc, List, [], ◌++◌, length, refl, sym, subst, ap, ◌∙◌, ◌⊎◌, inl, inr, arith, append-nil}
use Rattle.sj_lang.specs.FileAt.{FileAt}
use Rattle.sj_grammar.specs.declared.tokens.Fault.{Fault}
use Rattle.sj_lang.specs.Limits.{Limits, limits}
use Rattle.sj_grammar.specs.Tables.{entry_of}
use Rattle.sj_grammar.specs.Positions.{Pieces, Piece, At, start, spellings}
use Rattle.sj_grammar.specs.Layers.{goes, run}
use Rattle.sj_grammar.specs.Faults.{Stuck}
use Rattle.sj_grammar.specs.Files.{protocols_pieces, connects_pieces, IsSpelled, IsFile}
use Rattle.sj_grammar.specs.FileDues.{Due, file_layer, file_due}
use Rattle.sj_grammar.proofs.SpellingLemmas.{AllHeld}
use Rattle.sj_party.specs.Alike.{AreAlike}
use Rattle.sj_party_laws.proofs.ChainLemmas.{nothing, first, run_back, ends_back}
use Rattle.sj_party_laws.proofs.TermLemmas.{IsKnown}
use Rattle.sj_party_laws.proofs.FilledLemmas.{Spelled, AllSpelled, lines_alike, none_spelled}
use Rattle.sj_party_laws.proofs.FileBackLemmas.{file_back}
use Rattle.sj_party_laws.proofs.TableLemmas.{all_known}
use Rattle.sj_party_laws.proofs.LinedLemmas.{lined, lined_spelled, begins_alike}
use Rattle.sj_party_laws.proofs.RunningLemmas.{Whole, each_ends}
use Rattle.sj_proto.proofs.FrontLemmas.{spelling_at as names_at}

module _ (L : Limits) (there : At) where
  -- a file with the tables of that reader, within the limits, in pieces that are alike
  record Spells (ts : List Piece) : Type 0 where
    pub file : FileAt
    pub pieces : List Piece
    pub spelled : IsSpelled L file pieces
    pub words : there.words ≡ file.words
    pub texts : there.texts ≡ file.texts
    pub alike : AreAlike pieces ts

  -- a file of what is due at its beginning
  file_of : (ts : List Piece) (m : ℕ) → AllSpelled L (names_at there) 0 file_due ts m → Spells ts
  file_of _ m (first {k = i} p (first {k = j} q (first c nothing))) = record {
    file = record { words = there.words; texts = there.texts; protocols = p.0; parties = q.0; connects = c.0 };
    pieces = protocols_pieces (entry_of there.words) p.0 ++ (q.1 ++ connects_pieces (entry_of there.words) c.0);
    spelled = record {
      parties = q.1;
      same = refl;
      all_protocols = p.1;
      all_parties = q.2;
      all_connects = c.1;
      few_protocols = let few = p.2 (omega arith) in omega arith;
      few_parties = let few = q.3 (omega arith) in omega arith;
      few_connects = let few = c.2 (omega arith) in omega arith;
    };
    words = refl;
    texts = refl;
    alike = lines_alike L (names_at there) 0 m file_due _ (first {k = i} p (first {k = j} q (first c nothing)));
  }

  -- tokens that are all taken, and to where nothing need be due
  whole_file : (ts : List Piece) (m : ℕ) (due : List Due) → AllHeld (IsKnown (names_at there)) (spellings ts) → run file_layer L 0 file_due (spellings ts) ≡ goes m due → AllSpelled L (names_at there) m due [] m → Spells ts
  whole_file ts m due held e h =
      let back = run_back file_layer L (Spelled L (names_at there)) (IsKnown (names_at there)) (λ n m d es p ts. file_back L (names_at there) n m p d es ts) (none_spelled L (names_at there)) ts 0 m m file_due due [] held e h in
      file_of ts m (subst (λ (x : List Piece). AllSpelled L (names_at there) 0 file_due x m) (append-nil ts) back)

-- a text stands for a file, or it has a first fault
pub file_or_fault : (bytes : List ℕ) → ((f : FileAt) × IsFile bytes f) ⊎ ((g : Fault) × Stuck file_layer limits 0 (start bytes [] []) file_due g)
file_or_fault bytes = elim (each_ends file_layer limits (suc (length bytes)) 0 (start bytes [] []) file_due (omega arith)) [ inl w ↦ inl (as_file w) | inr x ↦ inr x ]
  where
    as_file : Whole file_layer limits 0 (start bytes [] []) file_due → (f : FileAt) × IsFile bytes f
    as_file w =
        let names = names_at w.there in
        let ts = lined w.pieces (start bytes [] []) w.there w.front in
        let same : spellings ts ≡ w.pieces = lined_spelled w.pieces (start bytes [] []) w.there w.front in
        let held : AllHeld (IsKnown names) (spellings ts) = subst (λ (ps : Pieces). AllHeld (IsKnown names) ps) (sym same) (all_known w.pieces (start bytes [] []) w.there w.front) in
        let ends = ends_back file_layer limits (Spelled limits names) (IsKnown names) (λ n m d es p ts. file_back limits names n m p d es ts) (none_spelled limits names) w.dues w.count w.ends in
        let x = whole_file limits w.there ts w.count w.dues held (ap (run file_layer limits 0 file_due) same ∙ w.fits) ends in (
          x.file,
          record { pieces = x.pieces; spelled = x.spelled; end = w.there; begins = begins_alike w.pieces (start bytes [] []) w.there w.front x.pieces x.alike; whole = w.whole; words = x.words; texts = x.texts },
        )
