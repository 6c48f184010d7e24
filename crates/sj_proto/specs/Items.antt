-- The pieces of one item.
use Rattle.std.specs.Prelude.{ℕ, List}
use Rattle.sj_lang.specs.declared.proto.Item.{Item}
use Rattle.sj_lang.specs.Place.{done}
use Rattle.sj_lang.specs.View.{followed}
use Rattle.sj_grammar.specs.Positions.{Pieces}
use Rattle.sj_grammar.specs.Protocols.{seq_pieces}

abbrev pub item_pieces : (ℕ → List ℕ) → Item → Pieces
item_pieces word i = seq_pieces word (followed i done)
