-- What the grammar of protocols can write, limits aside.
use Rattle.std.specs.Prelude.{◌≡◌, ◌≢◌, IsTrue, ℕ, List}
use Rattle.sj_lang.specs.Place.{Place, Carried, Choices, done, message, choice, repeat, int, boolean, text, session, no_choice, arm}
use Rattle.sj_grammar.specs.Names.{is_name}
use Rattle.sj_grammar.specs.Positions.{Pieces}
use Rattle.sj_grammar.specs.Protocols.{body_pieces}

module _ (word : ℕ → List ℕ) where
  abbrev mutual
    pub IsWritable : Place → Type 0
    IsWritable done = Unit {0}
    IsWritable (message w k rest) = CanBeCarried k × IsWritable rest
    IsWritable (choice w arms rest) = (arms ≢ no_choice) × AreWritable arms × IsWritable rest
    IsWritable (repeat w turn rest) = IsWritable turn × IsWritable rest

    pub CanBeCarried : Carried → Type 0
    CanBeCarried int = Unit {0}
    CanBeCarried boolean = Unit {0}
    CanBeCarried text = Unit {0}
    CanBeCarried (session p) = (p ≢ done) × IsWritable p

    pub AreWritable : Choices → Type 0
    AreWritable no_choice = Unit {0}
    AreWritable (arm label p arms) = IsTrue (is_name (word label)) × IsWritable p × AreWritable arms

-- some protocol of the grammar, limits aside, is these pieces
pub record IsSomeProtocol (pieces : Pieces) : Type 0 where
  pub word : ℕ → List ℕ
  pub place : Place
  pub writable : IsWritable word place
  pub same : pieces ≡ body_pieces word place
