-- The canonical text of a protocol stands for it.
use Rattle.std.proofs.Common.{◌≡◌, ℕ, zero, suc, Bool, true, false, IsTrue, List, [], ◌∷◌, ◌++◌, drop, get_or, refl, subst, append-nil}
use Rattle.std.specs.Prelude.{codes, ◌||◌}
use Rattle.std.specs.Str.{bytes_eq}
use Rattle.std.specs.List.{list_any}
use Rattle.std.proofs.lemmas.Slice.Eq.{bytes_eq-Decides}
use Rattle.sj_lang.specs.declared.proto.Way.{Way}
use Rattle.sj_lang.specs.declared.proto.Way.TheVariants.{Out, Into}
use Rattle.sj_lang.specs.declared.file.Names.{Names}
use Rattle.sj_lang.specs.Place.{Place, Carried, Choices, done, message, choice, repeat, int, boolean, text, session, no_choice, arm}
use Rattle.sj_lang.specs.Limits.{limits}
use Rattle.sj_grammar.specs.Names.{is_name, is_reserved}
use Rattle.sj_grammar.specs.Literals.{is_text}
use Rattle.sj_grammar.specs.Tables.{entry_of, IsNamed}
use Rattle.sj_grammar.specs.Positions.{Pieces, at}
use Rattle.sj_grammar.specs.Protocols.{way_piece, open_piece, close_piece, dotted, kind_pieces, listed, body_pieces, IsGiven, IsGivenKind, AreGiven, IsBody}
use Rattle.sj_grammar.specs.Canonical.{body_text}
use Rattle.sj_grammar.proofs.LexingLemmas.{Lexes, read}
use Rattle.sj_grammar.proofs.LexedTableLemmas.{AllPieces, AllPieces-append, IsOld, old_begins}
use Rattle.sj_grammar.proofs.CanonicalTextLemmas.{body_has}
use Rattle.sj_proto.specs.Protocols.{IsProtocol}
use Rattle.sj_proto.proofs.NameLemmas.{name_no_text}
use Rattle.sj_proto.proofs.ExitLemmas.{no_name_int, no_name_boolean, no_name_String}
use Rattle.sj_proto.proofs.TextLemmas.{one_protocol}

some_true : (x y : Bool) → y ≡ true → (x || y) ≡ true
some_true true y e = refl
some_true false y e = e

-- a name that has a number stands in the table
stands_there : (ws : List (List ℕ)) (n : ℕ) → IsTrue (is_name (get_or ws n [])) → list_any (λ w. bytes_eq w (get_or ws n [])) ws ≡ true
stands_there [] zero h = let none : ⊥ = cc in absurd none
stands_there [] (suc n) h = let none : ⊥ = cc in absurd none
stands_there (w ∷ ws) zero h = let same : bytes_eq w w ≡ true = (bytes_eq-Decides w w).1 refl in rw same refl
stands_there (w ∷ ws) (suc n) h = some_true (bytes_eq w (get_or ws n [])) _ (stands_there ws n h)

module _ (ws : List (List ℕ)) where
  named_old : (n : ℕ) → IsNamed limits (entry_of ws) n → IsOld ws (entry_of ws n)
  named_old n h = let there = stands_there ws n h.name in record { words = rw (h.name, there) refl; text = name_no_text (entry_of ws n) h.name }

  plain_old : (s : List ℕ) → is_name s ≡ false → is_text s ≡ false → IsOld ws s
  plain_old s name plain = record { words = rw name refl; text = plain }

  begin_old : IsOld ws (codes "begin")
  unfolding is_reserved
  begin_old = record { words = refl; text = refl }

  way_old : (w : Way) → IsOld ws (way_piece w)
  way_old Out = plain_old (codes "!") refl refl
  way_old Into = plain_old (codes "?") refl refl

  open_old : (w : Way) → IsOld ws (open_piece w)
  open_old Out = plain_old (codes "<") refl refl
  open_old Into = plain_old (codes "(") refl refl

  close_old : (w : Way) → IsOld ws (close_piece w)
  close_old Out = plain_old (codes ">") refl refl
  close_old Into = plain_old (codes ")") refl refl

  without_first : (ps : Pieces) → AllPieces (IsOld ws) ps → AllPieces (IsOld ws) (drop 1 ps)
  without_first [] h = h
  without_first (s ∷ ps) h = h.1

  mutual
    items_old : (o : ℕ) (p : Place) → IsGiven limits (entry_of ws) o p → AllPieces (IsOld ws) (dotted (entry_of ws) p)
    items_old o done g = tt
    items_old o (message w k r) g = (
      plain_old (codes ".") refl refl,
      (way_old w, (open_old w, AllPieces-append (IsOld ws) (kind_pieces (entry_of ws) k) (close_piece w ∷ dotted (entry_of ws) r) (kind_old (suc o) k g.1) (close_old w, items_old o r g.2))),
    )
    items_old o (choice w a r) g = (
      plain_old (codes ".") refl refl,
      (way_old w, (plain_old (codes "{") refl refl, AllPieces-append (IsOld ws) (drop 1 (listed (entry_of ws) a)) (codes "}" ∷ dotted (entry_of ws) r) (without_first _ (arms_old (suc o) 0 a g.2)) (plain_old (codes "}") refl refl, items_old o r g.3))),
    )
    items_old o (repeat w p r) g = (
      plain_old (codes ".") refl refl,
      (
        way_old w,
        (
          plain_old (codes "[") refl refl,
          AllPieces-append (IsOld ws) (drop 1 (dotted (entry_of ws) p)) (codes "]" ∷ codes "*" ∷ dotted (entry_of ws) r) (without_first _ (items_old (suc o) p g.1))
              (plain_old (codes "]") refl refl, (plain_old (codes "*") refl refl, items_old o r g.2)),
        ),
      ),
    )

    kind_old : (o : ℕ) (k : Carried) → IsGivenKind limits (entry_of ws) o k → AllPieces (IsOld ws) (kind_pieces (entry_of ws) k)
    kind_old o int g = (plain_old (codes "int") no_name_int refl, tt)
    kind_old o boolean g = (plain_old (codes "boolean") no_name_boolean refl, tt)
    kind_old o text g = (plain_old (codes "String") no_name_String refl, tt)
    kind_old o (session p) g = without_first _ (items_old o p g.1)

    arms_old : (o n : ℕ) (a : Choices) → AreGiven limits (entry_of ws) o n a → AllPieces (IsOld ws) (listed (entry_of ws) a)
    arms_old o n no_choice g = tt
    arms_old o n (arm l p a) g = (
      plain_old (codes ",") refl refl,
      (named_old l g.1, (plain_old (codes ":") refl refl, AllPieces-append (IsOld ws) (drop 1 (dotted (entry_of ws) p)) (listed (entry_of ws) a) (without_first _ (items_old o p g.2)) (arms_old o (suc n) a g.3))),
    )

pub stands : (names : Names) (p : Place) → IsBody limits (entry_of names.words) p → IsProtocol (body_text (entry_of names.words) p) names names p
stands names p h =
    let word = entry_of names.words in
    let bytes = body_text word p in
    let lexed : Lexes (read [] (bytes ++ [])) (body_pieces word p) (read bytes []) = body_has word limits p h.given [] [] tt in
    let whole : Lexes (read [] bytes) (body_pieces word p) (read bytes []) = subst (λ (xs : List ℕ). Lexes (read [] xs) (body_pieces word p) (read bytes [])) (append-nil bytes) lexed in
    record {
      end = at (read bytes []) names.words names.texts;
      begins = old_begins (body_pieces word p) (read [] bytes) (read bytes []) names.words names.texts (begin_old names.words, items_old names.words 0 p h.given) whole;
      body = h;
      whole = refl;
      words = refl;
      texts = refl;
    }

-- and for no other
pub read_again : (names new : Names) (p q : Place) → IsBody limits (entry_of names.words) p → IsProtocol (body_text (entry_of names.words) p) names new q → (q ≡ p) × (new ≡ names)
read_again names new p q h is = let both = one_protocol (body_text (entry_of names.words) p) names new names q p is (stands names p h) in both
