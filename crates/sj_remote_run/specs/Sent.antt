-- What a party sends to the server, command by command.
use Rattle.std.specs.Prelude.{◌≡◌, ℕ, ◌+◌, List, [], ◌∷◌, get_or, Option, None, Some}
use Rattle.std.specs.List.{flat_map}
use Rattle.sj_lang.specs.FileAt.{FileAt}
use Rattle.sj_lang.specs.Place.{Place}
use Rattle.sj_party.specs.CanonicalFile.{file_text}
use Rattle.sj_remote.specs.Passwords.{auth_words}
use Rattle.sj_resp.specs.Spelling.{command_text}
use Rattle.sj_rules.specs.Node.{NodeAt, Play}
use Rattle.sj_semantics.specs.Program.{Program}
use Rattle.sj_streams.specs.Commands.{add_words, get_words, read_words, share_words}
use Rattle.sj_remote_run.specs.Batches.{BatchAt, IsBatch, words_by}

-- what changes no stream: the password, the file, and reads of all streams
pub data AskAt : Type 0 where
  Signs : (user : Option (List ℕ)) → (password : List ℕ) → AskAt
  Shares : AskAt
  Gets : AskAt
  Reads : (block : Option ℕ) → (seen : List ℕ) → AskAt

-- a password is given where there is one
abbrev pub sign_text : (user password : Option (List ℕ)) → List ℕ
sign_text user None = []
sign_text user (Some password) = command_text (auth_words user password)

pub data CommandAt : Type 0 where
  Asks : AskAt → CommandAt
  Adds : (number : ℕ) → BatchAt → CommandAt

module _ (file : FileAt) (run : List ℕ) (keys : List (List ℕ)) (party : ℕ) where
  abbrev pub ask_words : AskAt → List (List ℕ)
  ask_words (Signs user password) = auth_words user password
  ask_words Shares = share_words run (file_text file)
  ask_words Gets = get_words run
  ask_words (Reads block seen) = read_words 512 block keys seen

  -- a batch goes to the party's own stream
  abbrev pub words_sent : CommandAt → List (List ℕ)
  words_sent (Asks a) = ask_words a
  words_sent (Adds number b) = add_words (get_or keys party []) number (words_by file party b)

  abbrev pub text_sent : List CommandAt → List ℕ
  text_sent cs = flat_map (λ c. command_text (words_sent c)) cs

-- each batch that is added has the number after the last one, and leads on from where the node was
abbrev pub AreSent : Play Place Program → (party last : ℕ) → NodeAt Place Program → List CommandAt → (end : ℕ) → NodeAt Place Program → Type 0
AreSent play party last old [] end new = (end ≡ last) × (new ≡ old)
AreSent play party last old (Asks a ∷ cs) end new = AreSent play party last old cs end new
AreSent play party last old (Adds number b ∷ cs) end new =
    (mid : NodeAt Place Program) × (number ≡ last + 1) × IsBatch play party old mid b × AreSent play party (last + 1) mid cs end new
