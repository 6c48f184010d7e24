-- Words of the laws: how pieces are taken as what is due.
use Rattle.std.specs.Prelude.{◌≡◌, ℕ, true, List}
use Rattle.sj_lang.specs.Limits.{Limits}
use Rattle.sj_grammar.specs.Positions.{Pieces, Piece, spellings}
use Rattle.sj_grammar.specs.Layers.{goes, run, may_end}
use Rattle.sj_grammar.specs.FileDues.{Due, file_layer}

-- with so much counted before, the tokens are taken; after them so much is counted,
-- and that is due
abbrev pub Leads : Limits → ℕ → List Due → Pieces → ℕ → List Due → Type 0
Leads L n ds ps m es = run file_layer L n ds ps ≡ goes m es

-- the pieces are taken, and after them that is due, whatever is then counted
pub record LeadsTo (L : Limits) (n : ℕ) (ds : List Due) (a : List Piece) (es : List Due) : Type 0 where
  pub count : ℕ
  pub steps : Leads L n ds (spellings a) count es

-- the pieces are taken, and after them nothing need be due
pub record Completes (L : Limits) (n : ℕ) (ds : List Due) (a : List Piece) : Type 0 where
  pub count : ℕ
  pub dues : List Due
  pub steps : Leads L n ds (spellings a) count dues
  pub ends : may_end file_layer dues ≡ true
