-- The canonical text of a protocol:
-- of all the texts that have its pieces, the one that printers write.
use Rattle.std.specs.Prelude.{ℕ, List, [], ◌++◌, drop, codes}
use Rattle.sj_lang.specs.Place.{Place, Carried, Choices, done, message, choice, repeat, int, boolean, text, session, no_choice, arm}
use Rattle.sj_grammar.specs.Protocols.{way_piece, open_piece, close_piece}

-- what stands before items, and nothing where there are none
abbrev pub gap_before : List ℕ → Place → List ℕ
gap_before gap done = []
gap_before gap (message w k rest) = gap
gap_before gap (choice w arms rest) = gap
gap_before gap (repeat w body rest) = gap

-- the words, of which labels are numbers
module _ (word : ℕ → List ℕ) where
  abbrev mutual
    -- each item with a dot before it
    pub dotted_text : Place → List ℕ
    dotted_text done = []
    dotted_text (message w k rest) = codes "." ++ (way_piece w ++ (open_piece w ++ (kind_text k ++ (close_piece w ++ dotted_text rest))))
    dotted_text (choice w arms rest) = codes "." ++ (way_piece w ++ (codes "{" ++ (drop 2 (listed_text arms) ++ (codes "}" ++ dotted_text rest))))
    dotted_text (repeat w body rest) = codes "." ++ (way_piece w ++ (codes "[" ++ (drop 1 (dotted_text body) ++ (codes "]*" ++ dotted_text rest))))

    pub kind_text : Carried → List ℕ
    kind_text int = codes "int"
    kind_text boolean = codes "boolean"
    kind_text text = codes "String"
    kind_text (session p) = drop 1 (dotted_text p)

    -- each arm with a comma and a space before it
    pub listed_text : Choices → List ℕ
    listed_text no_choice = []
    listed_text (arm label p arms) = codes ", " ++ ((word label ++ (codes ":" ++ (gap_before (codes " ") p ++ drop 1 (dotted_text p)))) ++ listed_text arms)

  -- items with dots between them
  abbrev pub seq_text : Place → List ℕ
  seq_text p = drop 1 (dotted_text p)

  -- an arm: `L:` where it is empty, and else `L: ` and its items
  abbrev pub arm_text : ℕ → Place → List ℕ
  arm_text label p = word label ++ (codes ":" ++ (gap_before (codes " ") p ++ seq_text p))

  -- arms with commas and spaces between them
  abbrev pub arms_text : Choices → List ℕ
  arms_text arms = drop 2 (listed_text arms)

  -- a protocol from its `begin` on
  abbrev pub body_text : Place → List ℕ
  body_text p = codes "begin" ++ dotted_text p
