-- A text stands for one file.
use Rattle.std.proofs.Common.{◌≡◌, ℕ, suc, false, List, [], ◌∷◌, ◌++◌, drop, All, Option, Some, None, IfSome, refl, ap, sym, subst, ◌∙◌, arith}
use Rattle.std.specs.Prelude.{codes}
use Rattle.std.specs.Str.{bytes_eq}
use Rattle.sj_lang.specs.FileAt.{ProtocolAt, PartyAt, DeclAt, ConnectAt, FileAt}
use Rattle.sj_lang.specs.Limits.{Limits, limits}
use Rattle.sj_grammar.specs.Reading.{passed, line_number}
use Rattle.sj_grammar.specs.Tables.{Spelling, entry_of}
use Rattle.sj_grammar.specs.Positions.{Pieces, Piece, At, BeginsOnLines, plain, all_plain, spellings, start}
use Rattle.sj_grammar.specs.Protocols.{body_pieces}
use Rattle.sj_grammar.specs.Statements.{braced}
use Rattle.sj_grammar.specs.Files.{protocol_pieces, protocols_pieces, connects_pieces, IsProtocolDef, IsEnd, IsConnect, AreParties, names_of, IsFile}
use Rattle.sj_grammar.specs.Files as files
use Rattle.sj_grammar.proofs.ReadingLemmas.{one_token, one_reading}
use Rattle.sj_proto.proofs.LineLemmas.{off_lines, spellings-append, spellings-plain}
use Rattle.sj_proto.proofs.UniquenessLemmas.{unique}
use Rattle.sj_party.specs.Alike.{OnOneLine, AreAlike}
use Rattle.sj_party.proofs.AlikeLemmas.{alike_spelled, regroup, behind_pieces}
use Rattle.sj_party.proofs.UniquenessLemmas.{one_code, one_name, no_keyword}

on_one_line : (x y : Option ℕ) (l k : ℕ) → l ≡ k → IfSome x (λ i. i ≡ l) → IfSome y (λ i. i ≡ k) → OnOneLine x y
on_one_line None y l k e h g = tt
on_one_line (Some i) None l k e h g = tt
on_one_line (Some i) (Some j) l k e h g = h ∙ e ∙ sym g

-- where both are read, pieces that are spelled alike are alike
lines_alike : (ps qs : List Piece) (a b d : At) → BeginsOnLines a ps b → BeginsOnLines a qs d → spellings ps ≡ spellings qs → AreAlike ps qs
lines_alike [] [] a b d h g e = tt
lines_alike [] (q ∷ qs) a b d h g e = cc
lines_alike (p ∷ ps) [] a b d h g e = cc
lines_alike (p ∷ ps) (q ∷ qs) a b d h g e =
    let one = one_token a h.0 g.0 p.spelled q.spelled h.1.taken g.1.taken in
    let rests : h.1.taken.rest ≡ g.1.taken.rest = cc (sym h.1.taken.token ∙ g.1.taken.token) in
    let line : line_number (passed a.text (p.spelled ++ h.1.taken.rest)) ≡ line_number (passed a.text (q.spelled ++ g.1.taken.rest)) = λ i. line_number (passed a.text (one.0 i ++ rests i)) in (
      one.0,
      on_one_line p.line q.line _ _ line h.1.line g.1.line,
      lines_alike ps qs h.0 b d h.2 (subst (λ (x : At). BeginsOnLines x qs d) (sym one.1) g.2) (ap (drop 1) e),
    )

-- the first piece is another
abbrev pub Other : List ℕ → List Piece → Type 0
Other c [] = Unit {0}
Other c (p ∷ ps) = bytes_eq p.spelled c ≡ false

module _ (L : Limits) (names : Spelling) where
  one_body : (p q : ProtocolAt) (x y : List Piece) → IsProtocolDef L names p → IsProtocolDef L names q
      → AreAlike ((all_plain (body_pieces names.word p.body) ++ plain (codes "}") ∷ []) ++ x) ((all_plain (body_pieces names.word q.body) ++ plain (codes "}") ∷ []) ++ y) → (p.body ≡ q.body) × AreAlike x y
  one_body p q x y is also h =
      let word = names.word in
      let apart = regroup (all_plain (body_pieces word p.body)) (plain (codes "}") ∷ []) x (all_plain (body_pieces word q.body)) (plain (codes "}") ∷ []) y h in
      let split : (r : ProtocolAt) (z : List Piece) → spellings (all_plain (body_pieces word r.body) ++ plain (codes "}") ∷ z) ≡ body_pieces word r.body ++ (codes "}" ∷ spellings z) =
      λ r z. spellings-append (all_plain (body_pieces word r.body)) (plain (codes "}") ∷ z) ∙ ap (λ (ps : Pieces). ps ++ (codes "}" ∷ spellings z)) (spellings-plain (body_pieces word r.body)) in
      let spelled = sym (split p x) ∙ alike_spelled (all_plain (body_pieces word p.body) ++ plain (codes "}") ∷ x) (all_plain (body_pieces word q.body) ++ plain (codes "}") ∷ y) apart ∙ split q y in
      let one = unique word L p.body q.body 0 (codes "}" ∷ spellings x) (codes "}" ∷ spellings y) is.body.given also.body.given (λ c. omega (arith, c)) (λ c. omega (arith, c)) (ap (drop 1) spelled) in
      let behind = behind_pieces (body_pieces word p.body) (plain (codes "}") ∷ x) (plain (codes "}") ∷ y)
      (subst (λ (r : _). AreAlike (all_plain (body_pieces word p.body) ++ plain (codes "}") ∷ x) (all_plain (body_pieces word r) ++ plain (codes "}") ∷ y)) (sym one.0) apart) in
      (one.0, behind.2)

  one_protocols : (ps qs : List ProtocolAt) (x y : List Piece) → All (IsProtocolDef L names) ps → All (IsProtocolDef L names) qs → Other (codes "protocol") x → Other (codes "protocol") y
      → AreAlike (protocols_pieces names.word ps ++ x) (protocols_pieces names.word qs ++ y) → (ps ≡ qs) × AreAlike x y
  one_protocols [] [] x y hp hq ox oy h = (refl, h)
  one_protocols [] (q ∷ qs) [] y hp hq ox oy h = absurd h
  one_protocols [] (q ∷ qs) (r ∷ x) y hp hq ox oy h = let none : bytes_eq (codes "protocol") (codes "protocol") ≡ false = ap (λ (s : List ℕ). bytes_eq s (codes "protocol")) (sym h.0) ∙ ox in let no : ⊥ = cc in absurd no
  one_protocols (p ∷ ps) [] x [] hp hq ox oy h = absurd h
  one_protocols (p ∷ ps) [] x (r ∷ y) hp hq ox oy h = let none : bytes_eq (codes "protocol") (codes "protocol") ≡ false = ap (λ (s : List ℕ). bytes_eq s (codes "protocol")) h.0 ∙ oy in let no : ⊥ = cc in absurd no
  one_protocols (p ∷ ps) (q ∷ qs) x y hp hq ox oy h =
      let is = hp 0 p (omega arith) in
      let also = hq 0 q (omega arith) in
      let apart = regroup (protocol_pieces names.word p) (protocols_pieces names.word ps) x (protocol_pieces names.word q) (protocols_pieces names.word qs) y h in
      let called : p.name ≡ q.name = one_name L names p.name q.name is.name also.name apart.2.0 in
      let inner = one_body p q (protocols_pieces names.word ps ++ x) (protocols_pieces names.word qs ++ y) is also apart.2.2.2 in
      let line : p.line ≡ q.line = apart.1 in
      let rest = one_protocols ps qs x y (λ k d e. hp (suc k) d (omega arith)) (λ k d e. hq (suc k) d (omega arith)) ox oy inner.1 in
      ((λ i. record { line = line i; name = called i; body = inner.0 i } ∷ rest.0 i), rest.1)

  one_parties : {ps qs : List PartyAt} {a b : List Piece} → AreParties L names ps a → AreParties L names qs b → (x y : List Piece) → Other (codes "party") x → Other (codes "party") y → AreAlike (a ++ x) (b ++ y) → (ps ≡ qs) × AreAlike x y
  one_parties files.no_party files.no_party x y ox oy h = (refl, h)
  one_parties files.no_party (files.one_party is d more) [] y ox oy h = absurd h
  one_parties files.no_party (files.one_party is d more) (r ∷ x) y ox oy h = let none : bytes_eq (codes "party") (codes "party") ≡ false = ap (λ (s : List ℕ). bytes_eq s (codes "party")) (sym h.0) ∙ ox in let no : ⊥ = cc in absurd no
  one_parties (files.one_party is c more) files.no_party x [] ox oy h = absurd h
  one_parties (files.one_party is c more) files.no_party x (r ∷ y) ox oy h = let none : bytes_eq (codes "party") (codes "party") ≡ false = ap (λ (s : List ℕ). bytes_eq s (codes "party")) h.0 ∙ oy in let no : ⊥ = cc in absurd no
  one_parties (files.one_party {l} {n} {a} {b} is c more) (files.one_party {l = k} {n = m} {a = e} {b = f} also d others) x y ox oy h =
      let called : n ≡ m = one_name L names n m is also h.2.0 in
      let apart = regroup (braced a) b x (braced e) f y h.2.2 in
      let inner = one_code L names c d (plain (codes "}") ∷ (b ++ x)) (plain (codes "}") ∷ (f ++ y)) no_keyword no_keyword (regroup a (plain (codes "}") ∷ []) (b ++ x) e (plain (codes "}") ∷ []) (f ++ y) apart.2) in
      let line : l ≡ k = h.1 in
      let rest = one_parties more others x y ox oy inner.1.2 in
      ((λ i. record { line = line i; name = called i; code = inner.0 i } ∷ rest.0 i), rest.1)

  one_end : (d e : DeclAt) → IsEnd L names d → IsEnd L names e → names.word d.party ≡ names.word e.party → names.word d.name ≡ names.word e.name → names.word d.protocol ≡ names.word e.protocol → d ≡ e
  one_end d e is also x y z = λ i. record { party = one_name L names d.party e.party is.party also.party x i; name = one_name L names d.name e.name is.name also.name y i; protocol = one_name L names d.protocol e.protocol is.protocol also.protocol z i }

  one_connects : (cs ds : List ConnectAt) → All (IsConnect L names) cs → All (IsConnect L names) ds → AreAlike (connects_pieces names.word cs) (connects_pieces names.word ds) → cs ≡ ds
  one_connects [] [] hc hd h = refl
  one_connects [] (d ∷ ds) hc hd h = absurd h
  one_connects (c ∷ cs) [] hc hd h = absurd h
  one_connects (c ∷ cs) (d ∷ ds) hc hd h =
      let is = hc 0 c (omega arith) in
      let also = hd 0 d (omega arith) in
      let line : c.line ≡ d.line = h.1 in
      let g = h.2 in
      let first = one_end c.first d.first is.first also.first g.0 g.2.0 g.2.2.0 in
      let k = g.2.2.2.2 in
      let second = one_end c.second d.second is.second also.second k.0 k.2.0 k.2.2.0 in
      let rest = one_connects cs ds (λ i e f. hc (suc i) e (omega arith)) (λ i e f. hd (suc i) e (omega arith)) k.2.2.2.2 in
      λ i. record { line = line i; first = first i; second = second i } ∷ rest i

  connects_other : (word : List ℕ) (cs : List ConnectAt) → bytes_eq (codes "connect") word ≡ false → Other word (connects_pieces names.word cs)
  connects_other word [] e = tt
  connects_other word (c ∷ cs) e = e

  parties_other : {qs : List PartyAt} {a : List Piece} → AreParties L names qs a → (cs : List ConnectAt) → Other (codes "protocol") (a ++ connects_pieces names.word cs)
  parties_other files.no_party cs = connects_other (codes "protocol") cs refl
  parties_other (files.one_party is c more) cs = refl

  -- the parts of a file
  pub one_contents : (ps qs : List ProtocolAt) (us vs : List PartyAt) (cs ds : List ConnectAt) (x y : List Piece) → All (IsProtocolDef L names) ps → All (IsProtocolDef L names) qs → AreParties L names us x → AreParties L names vs y
      → All (IsConnect L names) cs → All (IsConnect L names) ds
      → AreAlike (protocols_pieces names.word ps ++ (x ++ connects_pieces names.word cs)) (protocols_pieces names.word qs ++ (y ++ connects_pieces names.word ds)) → (ps ≡ qs) × (us ≡ vs) × (cs ≡ ds)
  one_contents ps qs us vs cs ds x y hp hq ha hb hc hd h =
      let first = one_protocols ps qs (x ++ connects_pieces names.word cs) (y ++ connects_pieces names.word ds) hp hq (parties_other ha cs) (parties_other hb ds) h in
      let second = one_parties ha hb (connects_pieces names.word cs) (connects_pieces names.word ds) (connects_other (codes "party") cs refl) (connects_other (codes "party") ds refl) first.1 in
      (first.0, second.0, one_connects cs ds hc hd second.1)

pub one_file : (bytes : List ℕ) (f g : FileAt) → IsFile bytes f → IsFile bytes g → f ≡ g
one_file bytes f g is also =
    let a = start bytes [] [] in
    let both = one_reading (spellings is.pieces) (spellings also.pieces) a is.end also.end (off_lines is.pieces a is.end is.begins) (off_lines also.pieces a also.end also.begins) is.whole also.whole in
    let words : f.words ≡ g.words = sym is.words ∙ ap (λ (x : At). x.words) both.1 ∙ also.words in
    let texts : f.texts ≡ g.texts = sym is.texts ∙ ap (λ (x : At). x.texts) both.1 ∙ also.texts in
    let named : names_of g ≡ names_of f = λ i. record { word = entry_of (sym words i); text = entry_of (sym texts i) } in
    let alike = lines_alike is.pieces also.pieces a is.end also.end is.begins also.begins both.0 in
    let s = is.spelled in
    let t = also.spelled in
    let here : AreAlike (protocols_pieces (entry_of f.words) f.protocols ++ (s.parties ++ connects_pieces (entry_of f.words) f.connects)) also.pieces = subst (λ (ps : List Piece). AreAlike ps also.pieces) s.same alike in
    let there = subst (λ (ws : List (List ℕ)). AreAlike (protocols_pieces (entry_of f.words) f.protocols ++ (s.parties ++ connects_pieces (entry_of f.words) f.connects)) (protocols_pieces (entry_of ws) g.protocols ++ (t.parties ++ connects_pieces (entry_of ws) g.connects))) (sym words)
    (subst (AreAlike (protocols_pieces (entry_of f.words) f.protocols ++ (s.parties ++ connects_pieces (entry_of f.words) f.connects))) t.same here) in
    let one = one_contents limits (names_of f) f.protocols g.protocols f.parties g.parties f.connects g.connects s.parties t.parties s.all_protocols (subst (λ (n : Spelling). All (IsProtocolDef limits n) g.protocols) named t.all_protocols)
    s.all_parties (subst (λ (n : Spelling). AreParties limits n g.parties t.parties) named t.all_parties) s.all_connects (subst (λ (n : Spelling). All (IsConnect limits n) g.connects) named t.all_connects) there in
    λ i. record { words = words i; texts = texts i; protocols = one.0 i; parties = one.1 i; connects = one.2 i }
