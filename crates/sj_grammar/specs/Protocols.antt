-- The grammar of protocols: the pieces that a protocol is written as,
-- and the protocols that the grammar gives.
use Rattle.std.specs.Prelude.{◌≢◌, ℕ, suc, ◌<◌, ◌≤◌, List, [], ◌∷◌, ◌++◌, drop, codes}
use Rattle.sj_lang.specs.declared.proto.Way.{Way}
use Rattle.sj_lang.specs.declared.proto.Way.TheVariants.{Out, Into}
use Rattle.sj_lang.specs.Place.{Place, Carried, Choices, done, message, choice, repeat, int, boolean, text, session, no_choice, arm}
use Rattle.sj_lang.specs.ItemCount.{item_count}
use Rattle.sj_lang.specs.Limits.{Limits}
use Rattle.sj_grammar.specs.Tables.{IsNamed}
use Rattle.sj_grammar.specs.Positions.{Pieces}

abbrev pub way_piece : Way → List ℕ
way_piece Out = codes "!"
way_piece Into = codes "?"

abbrev pub open_piece : Way → List ℕ
open_piece Out = codes "<"
open_piece Into = codes "("

abbrev pub close_piece : Way → List ℕ
close_piece Out = codes ">"
close_piece Into = codes ")"

-- the words, of which labels are numbers
module _ (word : ℕ → List ℕ) where
  abbrev mutual
    -- each item with a dot before it
    pub dotted : Place → Pieces
    dotted done = []
    dotted (message w k rest) = codes "." ∷ way_piece w ∷ open_piece w ∷ (kind_pieces k ++ close_piece w ∷ dotted rest)
    dotted (choice w arms rest) = codes "." ∷ way_piece w ∷ codes "{" ∷ (drop 1 (listed arms) ++ codes "}" ∷ dotted rest)
    dotted (repeat w body rest) = codes "." ∷ way_piece w ∷ codes "[" ∷ (drop 1 (dotted body) ++ codes "]" ∷ codes "*" ∷ dotted rest)

    pub kind_pieces : Carried → Pieces
    kind_pieces int = codes "int" ∷ []
    kind_pieces boolean = codes "boolean" ∷ []
    kind_pieces text = codes "String" ∷ []
    kind_pieces (session p) = drop 1 (dotted p)

    -- each arm with a comma before it
    pub listed : Choices → Pieces
    listed no_choice = []
    listed (arm label p arms) = codes "," ∷ word label ∷ codes ":" ∷ (drop 1 (dotted p) ++ listed arms)

  -- items with dots between them
  abbrev pub seq_pieces : Place → Pieces
  seq_pieces p = drop 1 (dotted p)

  abbrev pub body_pieces : Place → Pieces
  body_pieces p = codes "begin" ∷ dotted p

-- what the grammar gives inside so many brackets, the count of items aside
module _ (L : Limits) (word : ℕ → List ℕ) where
  abbrev mutual
    pub IsGiven : ℕ → Place → Type 0
    IsGiven o done = Unit {0}
    IsGiven o (message w k rest) = (o < L.nesting) × IsGivenKind (suc o) k × IsGiven o rest
    IsGiven o (choice w arms rest) = (o < L.nesting) × (arms ≢ no_choice) × AreGiven (suc o) 0 arms × IsGiven o rest
    IsGiven o (repeat w body rest) = (o < L.nesting) × IsGiven (suc o) body × IsGiven o rest

    pub IsGivenKind : ℕ → Carried → Type 0
    IsGivenKind o int = Unit {0}
    IsGivenKind o boolean = Unit {0}
    IsGivenKind o text = Unit {0}
    IsGivenKind o (session p) = (p ≢ done) × IsGiven o p

    -- so many arms stand before these
    pub AreGiven : ℕ → ℕ → Choices → Type 0
    AreGiven o k no_choice = Unit {0}
    AreGiven o k (arm label p arms) = (k < L.labels) × IsNamed L word label × IsGiven o p × AreGiven o (suc k) arms

-- the protocol is within the limits
pub record IsBody (L : Limits) (word : ℕ → List ℕ) (p : Place) : Type 0 where
  pub given : IsGiven L word 0 p
  pub few : item_count p ≤ L.items
