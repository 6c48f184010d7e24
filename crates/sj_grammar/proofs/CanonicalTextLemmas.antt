-- The canonical text of a protocol has the pieces of the protocol.
use Rattle.std.proofs.Common.{ℕ, suc, List, [], ◌∷◌, ◌++◌, drop, refl}
use Rattle.std.specs.Prelude.{codes}
use Rattle.sj_lang.specs.declared.proto.Way.{Way}
use Rattle.sj_lang.specs.declared.proto.Way.TheVariants.{Out, Into}
use Rattle.sj_lang.specs.Place.{Place, Carried, Choices, done, message, choice, repeat, int, boolean, text, session, no_choice, arm}
use Rattle.sj_grammar.specs.declared.tokens.What.TheVariants.{Symbol}
use Rattle.sj_lang.specs.Limits.{Limits}
use Rattle.sj_grammar.specs.Positions.{Pieces}
use Rattle.sj_grammar.specs.Protocols.{way_piece, open_piece, close_piece, dotted, kind_pieces, listed, seq_pieces, body_pieces, IsGiven, IsGivenKind, AreGiven}
use Rattle.sj_grammar.specs.Canonical.{gap_before, dotted_text, kind_text, listed_text, seq_text, arms_text, body_text}
use Rattle.sj_grammar.proofs.LexingLemmas.{HasPieces, Any, NoWordByte, NoEqual, one_piece, no_piece, pieces_append, pieces_less, word_piece, word_behind, name_is_word}

way_has : (w : Way) → HasPieces Any (way_piece w) (way_piece w ∷ [])
way_has Out = one_piece Any (codes "!") (codes "!") Symbol (λ rest free. refl)
way_has Into = one_piece Any (codes "?") (codes "?") Symbol (λ rest free. refl)

way_behind : (w : Way) → HasPieces Any (codes " " ++ way_piece w) (way_piece w ∷ [])
way_behind Out = one_piece Any (codes " !") (codes "!") Symbol (λ rest free. refl)
way_behind Into = one_piece Any (codes " ?") (codes "?") Symbol (λ rest free. refl)

open_has : (w : Way) → HasPieces NoEqual (open_piece w) (open_piece w ∷ [])
open_has Out = one_piece NoEqual (codes "<") (codes "<") Symbol (λ rest free. rw free refl)
open_has Into = one_piece NoEqual (codes "(") (codes "(") Symbol (λ rest free. refl)

close_has : (w : Way) → HasPieces Any (close_piece w) (close_piece w ∷ [])
close_has Out = one_piece Any (codes ">") (codes ">") Symbol (λ rest free. refl)
close_has Into = one_piece Any (codes ")") (codes ")") Symbol (λ rest free. refl)

close_free : (w : Way) (t rest : List ℕ) → NoWordByte ((close_piece w ++ t) ++ rest)
close_free Out t rest = refl
close_free Into t rest = refl

-- one text and another, where anything may follow the first
joined : (t u : List ℕ) (ps qs : Pieces) → HasPieces Any t ps → HasPieces Any u qs → HasPieces Any (t ++ u) (ps ++ qs)
joined t u ps qs h k = pieces_append Any Any t u ps qs h k (λ rest free. tt)

-- items alone, after a space, and after a dot
abbrev pub Spelled : List ℕ → Pieces → Type 0
Spelled t ps = HasPieces Any t ps × HasPieces Any (codes " " ++ t) ps × HasPieces Any (codes "." ++ t) (codes "." ∷ ps)

from_way : (w : Way) (t : List ℕ) (ps : Pieces) → HasPieces Any t ps → Spelled (way_piece w ++ t) (way_piece w ∷ ps)
from_way w t ps h =
    let alone = joined (way_piece w) t (way_piece w ∷ []) ps (way_has w) h in (
      alone,
      joined (codes " " ++ way_piece w) t (way_piece w ∷ []) ps (way_behind w) h,
      joined (codes ".") (way_piece w ++ t) (codes "." ∷ []) (way_piece w ∷ ps) (one_piece Any (codes ".") (codes ".") Symbol (λ rest free. refl)) alone,
    )

module _ (word : ℕ → List ℕ) where
  abbrev IsSpelled : Place → Type 0
  IsSpelled p = HasPieces Any (seq_text word p) (seq_pieces word p) × HasPieces Any (gap_before (codes " ") p ++ seq_text word p) (seq_pieces word p) × HasPieces Any (dotted_text word p) (dotted word p)

  -- what a message carries doesn't begin with `=`
  no_equal : (L : Limits) (o : ℕ) (k : Carried) (more rest : List ℕ) → IsGivenKind L word o k → NoEqual ((kind_text word k ++ more) ++ rest)
  no_equal L o int more rest g = refl
  no_equal L o boolean more rest g = refl
  no_equal L o text more rest g = refl
  no_equal L o (session done) more rest g = absurd (g.0 refl)
  no_equal L o (session (message Out k r)) more rest g = refl
  no_equal L o (session (message Into k r)) more rest g = refl
  no_equal L o (session (choice Out a r)) more rest g = refl
  no_equal L o (session (choice Into a r)) more rest g = refl
  no_equal L o (session (repeat Out p r)) more rest g = refl
  no_equal L o (session (repeat Into p r)) more rest g = refl

  message_has : (w : Way) (k : Carried) (r : Place) → ((more rest : List ℕ) → NoEqual ((kind_text word k ++ more) ++ rest)) → HasPieces NoWordByte (kind_text word k) (kind_pieces word k) → HasPieces Any (dotted_text word r) (dotted word r)
      → Spelled (seq_text word (message w k r)) (seq_pieces word (message w k r))
  message_has w k r free kind rest =
      let closed = joined (close_piece w) (dotted_text word r) (close_piece w ∷ []) (dotted word r) (close_has w) rest in
      let behind = pieces_append NoWordByte Any (kind_text word k) (close_piece w ++ dotted_text word r) (kind_pieces word k) (close_piece w ∷ dotted word r) kind closed (λ more end. close_free w (dotted_text word r) more) in
      from_way w (open_piece w ++ (kind_text word k ++ (close_piece w ++ dotted_text word r))) (open_piece w ∷ (kind_pieces word k ++ close_piece w ∷ dotted word r))
      (pieces_append NoEqual Any (open_piece w) (kind_text word k ++ (close_piece w ++ dotted_text word r)) (open_piece w ∷ []) (kind_pieces word k ++ close_piece w ∷ dotted word r) (open_has w) behind
      (λ more end. free (close_piece w ++ dotted_text word r) more))

  choice_has : (w : Way) (a : Choices) (r : Place) → HasPieces Any (arms_text word a) (drop 1 (listed word a)) → HasPieces Any (dotted_text word r) (dotted word r)
      → Spelled (seq_text word (choice w a r)) (seq_pieces word (choice w a r))
  choice_has w a r arms rest =
      let closed = joined (codes "}") (dotted_text word r) (codes "}" ∷ []) (dotted word r) (one_piece Any (codes "}") (codes "}") Symbol (λ more free. refl)) rest in
      let behind = joined (arms_text word a) (codes "}" ++ dotted_text word r) (drop 1 (listed word a)) (codes "}" ∷ dotted word r) arms closed in
      from_way w (codes "{" ++ (arms_text word a ++ (codes "}" ++ dotted_text word r))) (codes "{" ∷ (drop 1 (listed word a) ++ codes "}" ∷ dotted word r))
      (joined (codes "{") (arms_text word a ++ (codes "}" ++ dotted_text word r)) (codes "{" ∷ []) (drop 1 (listed word a) ++ codes "}" ∷ dotted word r) (one_piece Any (codes "{") (codes "{") Symbol (λ more free. refl)) behind)

  loop_has : (w : Way) (p r : Place) → HasPieces Any (seq_text word p) (seq_pieces word p) → HasPieces Any (dotted_text word r) (dotted word r)
      → Spelled (seq_text word (repeat w p r)) (seq_pieces word (repeat w p r))
  loop_has w p r body rest =
      let star = joined (codes "*") (dotted_text word r) (codes "*" ∷ []) (dotted word r) (one_piece Any (codes "*") (codes "*") Symbol (λ more free. refl)) rest in
      let closed = joined (codes "]") (codes "*" ++ dotted_text word r) (codes "]" ∷ []) (codes "*" ∷ dotted word r) (one_piece Any (codes "]") (codes "]") Symbol (λ more free. refl)) star in
      let behind = joined (seq_text word p) (codes "]*" ++ dotted_text word r) (seq_pieces word p) (codes "]" ∷ codes "*" ∷ dotted word r) body closed in
      from_way w (codes "[" ++ (seq_text word p ++ (codes "]*" ++ dotted_text word r))) (codes "[" ∷ (seq_pieces word p ++ codes "]" ∷ codes "*" ∷ dotted word r))
      (joined (codes "[") (seq_text word p ++ (codes "]*" ++ dotted_text word r)) (codes "[" ∷ []) (seq_pieces word p ++ codes "]" ∷ codes "*" ∷ dotted word r) (one_piece Any (codes "[") (codes "[") Symbol (λ more free. refl)) behind)

  -- arms alone, and after a comma and a space
  arm_has : (l : ℕ) (p : Place) (a : Choices) → HasPieces NoWordByte (word l) (word l ∷ []) → HasPieces NoWordByte (codes " " ++ word l) (word l ∷ []) → HasPieces Any (gap_before (codes " ") p ++ seq_text word p) (seq_pieces word p)
      → HasPieces Any (listed_text word a) (listed word a)
      → HasPieces Any (arms_text word (arm l p a)) (drop 1 (listed word (arm l p a))) × HasPieces Any (listed_text word (arm l p a)) (listed word (arm l p a))
  arm_has l p a alone behind items rest =
      let tail = codes ":" ++ (gap_before (codes " ") p ++ seq_text word p) in
      let after = joined (codes ":") (gap_before (codes " ") p ++ seq_text word p) (codes ":" ∷ []) (seq_pieces word p) (one_piece Any (codes ":") (codes ":") Symbol (λ more free. refl)) items in
      let first = pieces_append NoWordByte Any (word l) tail (word l ∷ []) (codes ":" ∷ seq_pieces word p) alone after (λ more end. refl) in
      let other = pieces_append NoWordByte Any (codes " " ++ word l) tail (word l ∷ []) (codes ":" ∷ seq_pieces word p) behind after (λ more end. refl) in (
        joined (word l ++ tail) (listed_text word a) (word l ∷ codes ":" ∷ seq_pieces word p) (listed word a) first rest,
        joined (codes ",") (codes " " ++ ((word l ++ tail) ++ listed_text word a)) (codes "," ∷ []) (word l ∷ codes ":" ∷ (seq_pieces word p ++ listed word a)) (one_piece Any (codes ",") (codes ",") Symbol (λ more free. refl))
            (joined ((codes " " ++ word l) ++ tail) (listed_text word a) (word l ∷ codes ":" ∷ seq_pieces word p) (listed word a) other rest),
      )

  module _ (L : Limits) where
    mutual
      items_have : (o : ℕ) (p : Place) → IsGiven L word o p → IsSpelled p
      items_have o done g = (no_piece Any, no_piece Any, no_piece Any)
      items_have o (message w k r) g = message_has w k r (λ more rest. no_equal L (suc o) k more rest g.1) (kind_has (suc o) k g.1) (items_have o r g.2).2
      items_have o (choice w a r) g = choice_has w a r (arms_have (suc o) 0 a g.2).0 (items_have o r g.3).2
      items_have o (repeat w p r) g = loop_has w p r (items_have (suc o) p g.1).0 (items_have o r g.2).2

      kind_has : (o : ℕ) (k : Carried) → IsGivenKind L word o k → HasPieces NoWordByte (kind_text word k) (kind_pieces word k)
      kind_has o int g = word_piece (codes "int") refl
      kind_has o boolean g = word_piece (codes "boolean") refl
      kind_has o text g = word_piece (codes "String") refl
      kind_has o (session p) g = pieces_less Any NoWordByte (seq_text word p) (seq_pieces word p) (λ rest free. tt) (items_have o p g.1).0

      arms_have : (o n : ℕ) (a : Choices) → AreGiven L word o n a → HasPieces Any (arms_text word a) (drop 1 (listed word a)) × HasPieces Any (listed_text word a) (listed word a)
      arms_have o n no_choice g = (no_piece Any, no_piece Any)
      arms_have o n (arm l p a) g = let named = name_is_word (word l) g.1.name in arm_has l p a (word_piece (word l) named) (word_behind (word l) named) (items_have o p g.2).1 (arms_have o (suc n) a g.3).1

    -- after its `begin` stands a dot, or nothing of the protocol
    begun_free : (p : Place) (rest : List ℕ) → NoWordByte rest → NoWordByte (dotted_text word p ++ rest)
    begun_free done rest free = free
    begun_free (message w k r) rest free = refl
    begun_free (choice w a r) rest free = refl
    begun_free (repeat w p r) rest free = refl

    pub body_has : (p : Place) → IsGiven L word 0 p → HasPieces NoWordByte (body_text word p) (body_pieces word p)
    body_has p g =
        pieces_append NoWordByte NoWordByte (codes "begin") (dotted_text word p) (codes "begin" ∷ []) (dotted word p) (word_piece (codes "begin") refl)
        (pieces_less Any NoWordByte (dotted_text word p) (dotted word p) (λ rest free. tt) (items_have 0 p g).2) (begun_free p)
