-- The names of a run at the server. All have the run's name in braces, so that a cluster keeps them together.
use Rattle.std.specs.Prelude.{ℕ, List, ◌++◌, codes}
use Rattle.std.specs.Fmt.{decimal}

-- the text of the run's file
unfoldable pub file_key_text : (run : List ℕ) → List ℕ
file_key_text run = codes "sj:{" ++ run ++ codes "}:file"

-- the stream of a party
unfoldable pub log_key_text : (run : List ℕ) → (party : ℕ) → List ℕ
log_key_text run party = codes "sj:{" ++ run ++ codes "}:log:" ++ decimal party

-- the name of the n-th entry of a stream
unfoldable pub id_text : ℕ → List ℕ
id_text n = decimal n ++ codes "-0"
