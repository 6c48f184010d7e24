-- How a new process comes to where the party's last one was.
use Rattle.std.specs.Prelude.{◌≡◌, ℕ, List, [], ◌∷◌, length, map, None}
use Rattle.std.specs.List.{flat_map}
use Rattle.sj_lang.specs.FileAt.{FileAt}
use Rattle.sj_node.specs.declared.node.Node.{Node}
use Rattle.sj_node.specs.Starting.{Begins}
use Rattle.sj_resp.specs.Spelling.{command_text}
use Rattle.sj_streams.specs.Commands.{read_words}
use Rattle.sj_streams.specs.Words.{words_at}
use Rattle.sj_streams.specs.declared.replies.Came.{Came}
use Rattle.sj_remote_run.specs.Again.{DidAgain}

-- the entries that came, as their words
abbrev pub entries_in : List Came → List (List (List ℕ))
entries_in all = flat_map (λ c. map (λ e. words_at e.items) c.entries.items) all

abbrev pub entry_count : List Came → ℕ
entry_count all = length (entries_in all)

-- entries are done again, one after another
abbrev pub DidAll : FileAt → (entries : List (List (List ℕ))) → (old new : Node) → Type 0
DidAll file [] old new = new ≡ old
DidAll file (words ∷ others) old new = (mid : Node) × DidAgain file words old mid × DidAll file others mid new

-- so many entries were done again, from the first node on
pub record IsCaughtUp (file : FileAt) (party number : ℕ) (node : Node) : Type 0 where
  pub first : Node
  pub begins : Begins file party 0 first
  pub entries : List (List (List ℕ))
  pub all : DidAll file entries first node
  pub count : number ≡ length entries

-- reads of all streams, each from the numbers that were seen before it
abbrev pub reads_text : (keys : List (List ℕ)) → (asked : List (List ℕ)) → List ℕ
reads_text keys asked = flat_map (λ seen. command_text (read_words 512 None keys seen)) asked
