-- Pieces on their lines.
use Rattle.std.proofs.Common.{◌≡◌, ℕ, List, [], ◌∷◌, ◌++◌, refl, ap, sym, subst}
use Rattle.sj_grammar.specs.Tables.{Spelling}
use Rattle.sj_grammar.specs.Positions.{Pieces, Piece, At, Begins, TakesPiece, BeginsOnLines, all_plain, spellings}
use Rattle.sj_proto.specs.Parsed.{Gives, GivesOnLines}
use Rattle.sj_proto.proofs.ReadLemmas.{spells_back}

pub spellings-append : (a b : List Piece) → spellings (a ++ b) ≡ spellings a ++ spellings b
spellings-append [] b = refl
spellings-append (p ∷ a) b = ap (λ ps. p.spelled ∷ ps) (spellings-append a b)

pub spellings-plain : (ps : Pieces) → spellings (all_plain ps) ≡ ps
spellings-plain [] = refl
spellings-plain (p ∷ ps) = ap (λ qs. p ∷ qs) (spellings-plain ps)

-- lines aside
pub off_lines : (ps : List Piece) (a b : At) → BeginsOnLines a ps b → Begins a (spellings ps) b
off_lines [] a b h = h
off_lines (p ∷ ps) a b h = (h.0, h.1.taken, off_lines ps h.0 b h.2)

-- where nothing stands on a line
pub on_lines : (ps : Pieces) (a b : At) → Begins a ps b → BeginsOnLines a (all_plain ps) b
on_lines [] a b h = h
on_lines (p ∷ ps) a b h = (h.0, record { taken = h.1; line = tt }, on_lines ps h.0 b h.2)

pub OnLines-append : (a b : List Piece) (t m r : At) → BeginsOnLines t a m → BeginsOnLines m b r → BeginsOnLines t (a ++ b) r
OnLines-append [] b t m r h k = subst (λ (x : At). BeginsOnLines x b r) (sym h) k
OnLines-append (p ∷ a) b t m r h k = (h.0, h.1, OnLines-append a b h.0 m r h.2 k)

pub Lines-cons : (a m b : At) (s : Piece) (p : Spelling → List Piece) (F : Spelling → Type 0) → TakesPiece a s m → GivesOnLines m b p F → GivesOnLines a b (λ names. s ∷ p names) F
Lines-cons a m b s p F t g = λ names spells. let h = g names spells in ((m, t, h.0), h.1)

pub Lines-append : (a m b : At) (p q : Spelling → List Piece) (F G : Spelling → Type 0) → GivesOnLines a m p F → GivesOnLines m b q G → GivesOnLines a b (λ names. p names ++ q names) (λ names. F names × G names)
Lines-append a m b p q F G g h = λ names spells.
    let second = h names spells in
    let first = g names (spells_back names.word (spellings (q names)) m b (off_lines (q names) m b second.0) spells) in
    (OnLines-append (p names) (q names) a m b first.0 second.0, (first.1, second.1))

pub Lines-as : (a b : At) (p q : Spelling → List Piece) (F G : Spelling → Type 0) → ((names : Spelling) → p names ≡ q names) → ((names : Spelling) → F names → G names) → GivesOnLines a b p F → GivesOnLines a b q G
Lines-as a b p q F G same facts g = λ names spells.
    let h = g names spells in
    (subst (λ (ps : List Piece). BeginsOnLines a ps b) (same names) h.0, facts names h.1)

-- what was read, none of it on a line
pub Lines-plain : (a b : At) (p : (ℕ → List ℕ) → Pieces) (F : (ℕ → List ℕ) → Type 0) → Gives a b p F → GivesOnLines a b (λ names. all_plain (p names.word)) (λ names. F names.word)
Lines-plain a b p F g = λ names spells. let h = g names.word spells in (on_lines (p names.word) a b h.0, h.1)

pub lines_one : (a m : At) (s : Piece) → TakesPiece a s m → GivesOnLines a m (λ names. s ∷ []) (λ names. Unit {0})
lines_one a m s t = λ names spells. ((m, t, refl), tt)
