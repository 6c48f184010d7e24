-- A file with the texts of a run.
use Rattle.std.specs.Prelude.{◌≡◌, ℕ, List}
use Rattle.sj_lang.specs.FileAt.{FileAt}
use Rattle.sj_seat_texts.specs.Once.{IsEachOnce}

-- the same file, but that its texts are these; its words stay where each stands once, as in a file that was read
pub record IsNamedBy (file : FileAt) (texts : List (List ℕ)) (named : FileAt) : Type 0 where
  pub protocols : named.protocols ≡ file.protocols
  pub parties : named.parties ≡ file.parties
  pub connects : named.connects ≡ file.connects
  pub table : named.texts ≡ texts
  pub words : IsEachOnce file.words → named.words ≡ file.words
