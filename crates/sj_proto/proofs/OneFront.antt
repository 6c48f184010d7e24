-- At the start of a text stand one list of protocols, or a fault.
use Rattle.std.proofs.Common.{◌≡◌, ℕ, suc, ◌+◌, true, false, List, [], ◌∷◌, ◌++◌, drop, length, get_or, All, Some, None, Result, Ok, Err, refl, ap, sym, subst, ◌∙◌, append_assoc, arith}
use Rattle.std.specs.Prelude.{codes, IsErrAnd}
use Rattle.std.specs.Str.{bytes_eq}
use Rattle.std.proofs.lemmas.Slice.Eq.{bytes_eq-Decides}
use Rattle.sj_lang.specs.FileAt.{ProtocolAt}
use Rattle.sj_grammar.specs.declared.tokens.Fault.{Fault}
use Rattle.sj_grammar.specs.declared.tokens.Rule.{Rule}
use Rattle.sj_grammar.specs.declared.tokens.What.{What}
use Rattle.sj_grammar.specs.declared.refusal.ParseRefusal.{ParseRefusal}
use Rattle.sj_grammar.specs.declared.refusal.ParseRefusal.TheVariants as refusals
use Rattle.sj_lang.specs.Limits.{limits}
use Rattle.sj_grammar.specs.Lexis.{Ahead, at_end, bad, token, next_of}
use Rattle.sj_grammar.specs.Reading.{before_next, fault_at, line_number, passed}
use Rattle.sj_grammar.specs.Tables.{Spelling}
use Rattle.sj_grammar.specs.Positions.{Pieces, Piece, At, Takes, Begins, BeginsOnLines, TakesPiece, past, spellings}
use Rattle.sj_grammar.specs.Protocols.{dotted}
use Rattle.sj_grammar.specs.Files.{protocol_pieces, protocols_pieces, IsProtocolDef}
use Rattle.sj_grammar.specs.Layers.{goes, misfit, rule_of, step}
use Rattle.sj_grammar.specs.FileDues.{Due, protocols, fixed, file_layer}
use Rattle.sj_grammar.specs.Faults.{Halts}
use Rattle.sj_grammar.specs.Refusals.{OnFault}
use Rattle.sj_grammar.proofs.StepLemmas.{Runs, Runs-append, Runs-none, Runs-cons}
use Rattle.sj_grammar.proofs.StucknessLemmas.{Begins-append}
use Rattle.sj_grammar.proofs.ReadingLemmas.{halts_there, one_end, one_place}
use Rattle.sj_grammar.proofs.PositionLemmas.{two_faults}
use Rattle.sj_proto.specs.Protocols.{IsOther, AreProtocols, IsFaultInProtocols, IsOnly}
use Rattle.sj_proto.proofs.ReadLemmas.{itself}
use Rattle.sj_proto.proofs.LineLemmas.{off_lines, spellings-append}
use Rattle.sj_proto.proofs.DefinitionLemmas.{def_spelled}
use Rattle.sj_proto.proofs.FrontLemmas.{spelling_at, protocols_run}
use Rattle.sj_proto.proofs.UniquenessLemmas.{unique, one_number}

abbrev StopsAt : At → ℕ → ℕ → Type 0
StopsAt b k m = (s : List ℕ) (c : At) → Takes b s c → (r : Rule) × (rule_of (step file_layer limits m (protocols k ∷ []) s) ≡ Some r)

is_other : (b : At) (what : What) (s rest : List ℕ) → IsOther (codes "protocol") (next_of b.text.ahead) → next_of b.text.ahead ≡ token what s rest → bytes_eq s (codes "protocol") ≡ false
is_other b what s rest h e = subst (IsOther (codes "protocol")) e h

-- no more of them
no_more : (b : At) (k m : ℕ) → IsOther (codes "protocol") (next_of b.text.ahead) → StopsAt b k m
no_more b k m ends s c t = (misfit s, rw (is_other b t.what s t.rest ends t.token) refl)

-- what was read, lines aside
module _ (a b : At) (ps : List ProtocolAt) (is : AreProtocols a ps b) where
  abbrev names_there : Spelling
  names_there = spelling_at b

  abbrev pieces_there : Pieces
  pieces_there = spellings (protocols_pieces names_there.word ps)

  here : Begins a pieces_there b
  here = off_lines (protocols_pieces names_there.word ps) a b (is.begins names_there (itself b.words))

  runs : (n : ℕ) (ds : List Due) → (m : ℕ) × Runs file_layer limits n (protocols 0 ∷ ds) pieces_there m (protocols (0 + length ps) ∷ ds)
  runs n ds = protocols_run limits names_there ps 0 n ds (omega (arith, is.few)) (is.defined names_there (itself b.words))

  -- what comes next would be the fault
  halts_behind : (f : Fault) → IsFaultInProtocols a f → Halts file_layer limits (runs 0 []).0 b (protocols (0 + length ps) ∷ []) f
  halts_behind f st = halts_there file_layer limits 0 (runs 0 []).0 a b (protocols 0 ∷ []) (protocols (0 + length ps) ∷ []) pieces_there f (st 0 []) here (runs 0 []).1.steps (no_more b (0 + length ps) (runs 0 []).0 is.ends)

  -- and, where it is due, what comes after it
  halts_later : (f : Fault) (what : What) (s rest : List ℕ) → next_of b.text.ahead ≡ token what s rest → IsFaultInProtocols a f → Halts file_layer limits (runs 0 (fixed s ∷ [])).0 (past b s rest) [] f
  halts_later f what s rest e st =
      let r = runs 0 (fixed s ∷ []) in
      let c = past b s rest in
      let k = 0 + length ps in
      let took : Takes b s c = record { what = what; rest = rest; token = e; there = refl } in
      let itself_is : bytes_eq s s ≡ true = (bytes_eq-Decides s s).1 refl in
      let taken : step file_layer limits r.0 (protocols k ∷ fixed s ∷ []) s ≡ goes r.0 [] = rw (is_other b what s rest is.ends e, itself_is) refl in
      halts_there file_layer limits 0 r.0 a c (protocols 0 ∷ fixed s ∷ []) [] (pieces_there ++ s ∷ []) f (st 0 (fixed s ∷ [])) (Begins-append pieces_there (s ∷ []) a b c here (c, took, refl))
      (Runs-append file_layer limits pieces_there (s ∷ []) 0 r.0 r.0 (protocols 0 ∷ fixed s ∷ []) (protocols k ∷ fixed s ∷ []) [] r.1
      (Runs-cons file_layer limits r.0 r.0 r.0 (protocols k ∷ fixed s ∷ []) [] [] s [] taken (Runs-none file_layer limits r.0 []))).steps (λ u d t. (misfit u, refl))

  -- they have no fault
  pub no_fault_in_front : (f : Fault) → IsFaultInProtocols a f → ⊥
  no_fault_in_front f st = by_next (next_of b.text.ahead) refl
    where
      by_next : (x : Ahead) → next_of b.text.ahead ≡ x → ⊥
      by_next at_end e = let none : None ≡ Some (halts_behind f st).rule = rw e at (halts_behind f st).breaks in cc
      by_next (bad rule rest) e = subst (IsOther (codes "protocol")) e is.ends
      by_next (token what s rest) e =
          let h = halts_behind f st in
          let g = halts_later f what s rest e st in
          two_faults b.text what s rest (next_of rest) h.rule g.rule e (ap (λ x. fault_at (before_next b.text x) h.rule) (sym e) ∙ sym h.fault ∙ g.fault)

-- the line of a piece
one_line : (a m k : At) (l j : ℕ) (s : List ℕ) → TakesPiece a (record { spelled = s; line = Some l }) m → TakesPiece a (record { spelled = s; line = Some j }) k → l ≡ j
one_line a m k l j s h g =
    let rests : h.taken.rest ≡ g.taken.rest = cc (sym h.taken.token ∙ g.taken.token) in
    h.line ∙ ap (λ r. line_number (passed a.text (s ++ r))) rests ∙ sym g.line

OnLines-split : (x y : List Piece) (a b : At) → BeginsOnLines a (x ++ y) b → (m : At) × BeginsOnLines a x m × BeginsOnLines m y b
OnLines-split [] y a b h = (a, refl, h)
OnLines-split (p ∷ x) y a b h = let rest = OnLines-split x y h.0 b h.2 in (rest.0, (h.0, h.1, rest.1), rest.2)

-- the spelling of protocols
all_spelled : (word : ℕ → List ℕ) (p : ProtocolAt) (ps : List ProtocolAt)
    → spellings (protocols_pieces word (p ∷ ps)) ≡ codes "protocol" ∷ word p.name ∷ codes "{" ∷ codes "begin" ∷ (dotted word p.body ++ (codes "}" ∷ spellings (protocols_pieces word ps)))
all_spelled word p ps =
    spellings-append (protocol_pieces word p) (protocols_pieces word ps) ∙ ap (λ xs. xs ++ spellings (protocols_pieces word ps)) (def_spelled word p)
    ∙ ap (λ xs. codes "protocol" ∷ word p.name ∷ codes "{" ∷ codes "begin" ∷ xs) (append_assoc (dotted word p.body) (codes "}" ∷ []) (spellings (protocols_pieces word ps)))

module _ (names : Spelling) where
  unique_defs : (ps qs : List ProtocolAt) (a b : At) → All (IsProtocolDef limits names) ps → All (IsProtocolDef limits names) qs → spellings (protocols_pieces names.word ps) ≡ spellings (protocols_pieces names.word qs)
      → BeginsOnLines a (protocols_pieces names.word ps) b → BeginsOnLines a (protocols_pieces names.word qs) b → ps ≡ qs
  unique_defs [] [] a b hp hq e bp bq = refl
  unique_defs [] (q ∷ qs) a b hp hq e bp bq = let none : ⊥ = cc in absurd none
  unique_defs (p ∷ ps) [] a b hp hq e bp bq = let none : ⊥ = cc in absurd none
  unique_defs (p ∷ ps) (q ∷ qs) a b hp hq e bp bq =
      let word = names.word in
      let is = hp 0 p (omega arith) in
      let also = hq 0 q (omega arith) in
      let whole = sym (all_spelled word p ps) ∙ e ∙ all_spelled word q qs in
      let called : p.name ≡ q.name = one_number limits word p.name q.name is.name also.name (ap (λ (xs : Pieces). get_or xs 1 []) whole) in
      let inner = unique word limits p.body q.body 0 (codes "}" ∷ spellings (protocols_pieces word ps)) (codes "}" ∷ spellings (protocols_pieces word qs)) is.body.given also.body.given (λ c. omega (arith, c)) (λ c. omega (arith, c)) (ap (drop 4) whole) in
      let xp = OnLines-split (protocol_pieces word p) (protocols_pieces word ps) a b bp in
      let xq = OnLines-split (protocol_pieces word q) (protocols_pieces word qs) a b bq in
      let line : p.line ≡ q.line = one_line a bp.0 bq.0 p.line q.line (codes "protocol") bp.1 bq.1 in
      let same : p ≡ q = λ i. record { line = line i; name = called i; body = inner.0 i } in
      let there : xp.0 ≡ xq.0 = one_place (spellings (protocol_pieces word p)) a xp.0 xq.0 (off_lines (protocol_pieces word p) a xp.0 xp.1)
      (subst (λ (t : ProtocolAt). Begins a (spellings (protocol_pieces word t)) xq.0) (sym same) (off_lines (protocol_pieces word q) a xq.0 xq.1)) in
      let rest = unique_defs ps qs xp.0 b (λ k d h. hp (suc k) d (omega arith)) (λ k d h. hq (suc k) d (omega arith)) (ap (drop 1) inner.1) xp.2
      (subst (λ (x : At). BeginsOnLines x (protocols_pieces word qs) b) (sym there) xq.2) in
      λ i. same i ∷ rest i

-- and they are one list
pub one_front : (a b d : At) (ps qs : List ProtocolAt) → AreProtocols a ps b → AreProtocols a qs d → (ps ≡ qs) × (b ≡ d)
one_front a b d ps qs is also =
    let rp = runs a b ps is 0 [] in
    let rq = runs a d qs also 0 [] in
    let both = one_end file_layer limits 0 rp.0 rq.0 a b d (protocols 0 ∷ []) (protocols (0 + length ps) ∷ []) (protocols (0 + length qs) ∷ []) (pieces_there a b ps is) (pieces_there a d qs also) (here a b ps is) rp.1.steps
    (here a d qs also) rq.1.steps (no_more b (0 + length ps) rp.0 is.ends) (no_more d (0 + length qs) rq.0 also.ends) in
    let back : AreProtocols a qs b = subst (AreProtocols a qs) (sym both.1) also in
    let names = spelling_at b in
    let spelled : spellings (protocols_pieces names.word ps) ≡ spellings (protocols_pieces names.word qs) = both.0 ∙ ap (λ (x : At). spellings (protocols_pieces (spelling_at x).word qs)) (sym both.1) in
    (unique_defs names ps qs a b (is.defined names (itself b.words)) (back.defined names (itself b.words)) spelled (is.begins names (itself b.words)) (back.begins names (itself b.words)), both.1)

-- so no fault is answered where they stand there
pub refused_no_front : {X : Type 0} (view : X → List ProtocolAt) (a : At) (r : Result X ParseRefusal) (e : ParseRefusal) → IsErrAnd r (λ d. d ≡ e) → OnFault (IsFaultInProtocols a) e → (ps : List ProtocolAt) (b : At)
    → AreProtocols a ps b → IsOnly view r ps
refused_no_front view a (Ok x) e h st ps b is = absurd h
refused_no_front view a (Err d) (refusals.At f) h st ps b is = absurd (no_fault_in_front a b ps is f st)
refused_no_front view a (Err d) refusals.NoMemory h st ps b is = (tt, h)
