-- The protocols at the start of a text: what they are, or their first fault.
use Rattle.std.proofs.Common.{◌≡◌, ℕ, suc, ◌+◌, ◌<◌, ◌≤◌, false, List, [], ◌∷◌, ◌++◌, length, All, refl, ap, sym, subst, ◌∙◌, append_assoc, append-nil, arith}
use Rattle.std.specs.Prelude.{map}
use Rattle.std.proofs.lemmas.List.Elements.{All-push}
use Rattle.std.proofs.lemmas.List.{map_push}
use Rattle.sj_lang.specs.declared.file.ProtocolDef.{ProtocolDef}
use Rattle.sj_lang.specs.FileAt.{ProtocolAt}
use Rattle.sj_lang.specs.FileView.{protocol_of}
use Rattle.sj_lang.specs.ItemCount.{item_count}
use Rattle.sj_grammar.specs.declared.tokens.Fault.{Fault}
use Rattle.sj_lang.specs.Limits.{Limits, limits}
use Rattle.sj_grammar.specs.Lexis.{Ahead, at_end, bad, token, next_of}
use Rattle.sj_grammar.specs.Reading.{before_next, fault_at}
use Rattle.sj_grammar.specs.Tables.{Spelling, entry_of}
use Rattle.sj_grammar.specs.Positions.{Pieces, At, spellings}
use Rattle.sj_grammar.specs.Files.{protocol_pieces, protocols_pieces, IsProtocolDef}
use Rattle.sj_grammar.specs.Layers.{goes}
use Rattle.sj_grammar.specs.FileDues.{Due, protocols, file_layer}
use Rattle.sj_grammar.specs.Faults.{broken, Halts, Stuck}
use Rattle.sj_grammar.specs.Asked.{is_next}
use Rattle.sj_grammar.proofs.StepLemmas.{Runs, Runs-append}
use Rattle.sj_grammar.proofs.StucknessLemmas.{halts_stuck, stuck_block}
use Rattle.sj_proto.specs.Parsed.{GivesOnLines}
use Rattle.sj_proto.specs.Protocols.{IsOther, IsReadable, IsUnreadable}
use Rattle.sj_proto.proofs.ReadLemmas.{itself}
use Rattle.sj_proto.proofs.LineLemmas.{spellings-append, off_lines, Lines-append, Lines-as}
use Rattle.sj_proto.proofs.DefinitionLemmas.{def_run}

-- the spelling that the tables there have
abbrev pub spelling_at : At → Spelling
spelling_at a = record { word = entry_of a.words; text = entry_of a.texts }

pub protocols-push : (word : ℕ → List ℕ) (ps : List ProtocolAt) (p : ProtocolAt) → protocols_pieces word (ps ++ p ∷ []) ≡ protocols_pieces word ps ++ protocol_pieces word p
protocols-push word [] p = append-nil (protocol_pieces word p)
protocols-push word (q ∷ ps) p = ap (λ xs. protocol_pieces word q ++ xs) (protocols-push word ps p) ∙ sym (append_assoc (protocol_pieces word q) (protocols_pieces word ps) (protocol_pieces word p))

-- protocols are what is due
pub protocols_run : (L : Limits) (names : Spelling) (ps : List ProtocolAt) (k n : ℕ) (ds : List Due) → k + length ps ≤ L.protocols → All (IsProtocolDef L names) ps
    → (m : ℕ) × Runs file_layer L n (protocols k ∷ ds) (spellings (protocols_pieces names.word ps)) m (protocols (k + length ps) ∷ ds)
protocols_run L names [] k n ds few all = (n, record { steps = let e : k ≡ k + 0 = omega arith in ap (λ (j : ℕ). goes n (protocols j ∷ ds)) e })
protocols_run L names (p ∷ ps) k n ds few all =
    let first = def_run L names p k n ds (omega arith) (all 0 p (omega arith)) in
    let rest = protocols_run L names ps (suc k) (item_count p.body) ds (omega arith) (λ i d h. all (suc i) d (omega arith)) in
    let count : suc k + length ps ≡ k + suc (length ps) = omega arith in (
      rest.0,
      subst (λ (xs : Pieces). Runs file_layer L n (protocols k ∷ ds) xs rest.0 (protocols (k + suc (length ps)) ∷ ds)) (sym (spellings-append (protocol_pieces names.word p) (protocols_pieces names.word ps)))
          (Runs-append file_layer L (spellings (protocol_pieces names.word p)) (spellings (protocols_pieces names.word ps)) n (item_count p.body) rest.0 (protocols k ∷ ds) (protocols (suc k) ∷ ds) (protocols (k + suc (length ps)) ∷ ds) first
          (subst (λ (j : ℕ). Runs file_layer L (item_count p.body) (protocols (suc k) ∷ ds) (spellings (protocols_pieces names.word ps)) rest.0 (protocols j ∷ ds)) count rest.1)),
    )

-- the protocols so far, and one more
pub defs_more : (a m b : At) (xs : List ProtocolDef) (x : ProtocolDef)
    → GivesOnLines a m (λ names. protocols_pieces names.word (map protocol_of xs)) (λ names. All (IsProtocolDef limits names) (map protocol_of xs))
    → GivesOnLines m b (λ names. protocol_pieces names.word (protocol_of x)) (λ names. IsProtocolDef limits names (protocol_of x))
    → GivesOnLines a b (λ names. protocols_pieces names.word (map protocol_of (xs ++ x ∷ []))) (λ names. All (IsProtocolDef limits names) (map protocol_of (xs ++ x ∷ [])))
defs_more a m b xs x g h =
    Lines-as a b (λ names. protocols_pieces names.word (map protocol_of xs) ++ protocol_pieces names.word (protocol_of x)) (λ names. protocols_pieces names.word (map protocol_of (xs ++ x ∷ [])))
    (λ names. All (IsProtocolDef limits names) (map protocol_of xs) × IsProtocolDef limits names (protocol_of x)) (λ names. All (IsProtocolDef limits names) (map protocol_of (xs ++ x ∷ [])))
    (λ names. sym (protocols-push names.word (map protocol_of xs) (protocol_of x)) ∙ ap (protocols_pieces names.word) (sym (map_push protocol_of xs x)))
    (λ names h. subst (All (IsProtocolDef limits names)) (sym (map_push protocol_of xs x)) (All-push (IsProtocolDef limits names) (map protocol_of xs) (protocol_of x) h.0 h.1))
    (Lines-append a m b (λ names. protocols_pieces names.word (map protocol_of xs)) (λ names. protocol_pieces names.word (protocol_of x)) (λ names. All (IsProtocolDef limits names) (map protocol_of xs)) (λ names. IsProtocolDef limits names (protocol_of x)) g h)

-- after one protocol
pub def_stuck : (a b : At) (p : ProtocolAt) (k n : ℕ) (ds : List Due) (f : Fault) → k < 256 → GivesOnLines a b (λ names. protocol_pieces names.word p) (λ names. IsProtocolDef limits names p)
    → Stuck file_layer limits (item_count p.body) b (protocols (suc k) ∷ ds) f → Stuck file_layer limits n a (protocols k ∷ ds) f
def_stuck a b p k n ds f room gives st =
    let names = spelling_at b in
    let whole = gives names (itself b.words) in
    stuck_block file_layer limits n (item_count p.body) a b (spellings (protocol_pieces names.word p)) (protocols k ∷ ds) (protocols (suc k) ∷ ds) f (off_lines (protocol_pieces names.word p) a b whole.0)
    (def_run limits names p k n ds room whole.1) st

-- what can't be read is a fault, whatever is due
pub unreadable_stuck : (a : At) (n : ℕ) (ds : List Due) (f : Fault) → IsUnreadable a.text (next_of a.text.ahead) f → Stuck file_layer limits n a ds f
unreadable_stuck a n ds f h = halts_stuck file_layer limits n a ds f (by_next (next_of a.text.ahead) refl h)
  where
    by_next : (x : Ahead) → next_of a.text.ahead ≡ x → IsUnreadable a.text x f → Halts file_layer limits n a ds f
    by_next at_end e h = absurd h
    by_next (bad rule rest) e h = record { rule = rule; breaks = ap (broken file_layer limits n ds) e; fault = h ∙ ap (λ y. fault_at (before_next a.text y) rule) (sym e) }
    by_next (token what s rest) e h = absurd h

pub other_next : (x : Ahead) (s : List ℕ) → is_next s x ≡ false → IsReadable x → IsOther s x
other_next at_end s h r = tt
other_next (bad rule rest) s h r = r
other_next (token what t rest) s h r = h
