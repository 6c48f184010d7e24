-- A drain of a file's core world from its start on.
use Rattle.std.specs.Prelude.{◌≡◌, ℕ, List, length, max}
use Rattle.sj_lang.specs.FileAt.{FileAt}
use Rattle.sj_lang.specs.Place.{Place}
use Rattle.sj_semantics.specs.Program.{Program}
use Rattle.sj_plain.specs.SharedFile.{without_words}
use Rattle.sj_grammar.specs.Files.{IsFile}
use Rattle.sj_rules.specs.History.{IsHistory, IsQuietAmong}
use Rattle.sj_rules.specs.Log.{LineAt}
use Rattle.sj_rules.specs.Party.{play_of}
use Rattle.sj_rules.specs.World.{WorldAt}

-- the text stands for a file that has a history of so many events, after which nothing is left to do
pub record HasEvents (text : List ℕ) (n : ℕ) : Type 0 where
  pub file : FileAt
  pub read : IsFile text file
  pub history : List LineAt
  pub core : WorldAt Place Program
  pub run : IsHistory max (without_words file) history core
  pub quiet : IsQuietAmong (play_of (without_words file)) (length (without_words file).parties) core
  pub size : n ≡ length history
