-- The streams of a run.
use Rattle.std.specs.Prelude.{ℕ, zero, suc, List, [], ◌∷◌, ◌++◌, Vec}
use Rattle.std.specs.declared.alloc.Global.{Global}
use Rattle.sj_streams.specs.Keys.{log_key_text}
use Rattle.sj_remote.specs.declared.streams.Streams.{Streams}

-- the keys of the streams
abbrev pub keys_of : Streams → List (Vec ℕ Global)
keys_of s = s.keys.items

-- the number of the last entry that was seen of each
abbrev pub seen_of : Streams → List ℕ
seen_of s = s.seen.items

-- the keys of the streams of the parties below that one, in order
unfoldable pub log_keys : (run : List ℕ) → (parties : ℕ) → List (List ℕ)
log_keys run zero = []
log_keys run (suc n) = log_keys run n ++ log_key_text run n ∷ []
