-- Entries of the party's stream, done again.
use Rattle.std.specs.Prelude.{◌≡◌, ℕ, List, [], ◌∷◌}
use Rattle.sj_end.specs.declared.note.Entry.{Entry}
use Rattle.sj_engine.specs.declared.in_lane.ByteIn.{ByteIn}
use Rattle.sj_engine.specs.declared.out_lane.ByteOut.{ByteOut}
use Rattle.sj_lang.specs.FileAt.{FileAt}
use Rattle.sj_lang.specs.Place.{Place}
use Rattle.sj_node.specs.Reading.{party_of}
use Rattle.sj_remote_run.specs.Entries.{entry_words}
use Rattle.sj_rules.specs.Frames.{FrameAt}
use Rattle.sj_seat.specs.Views.{node_of}
use Rattle.sj_seat.specs.declared.guest.Guest.{Guest}
use Rattle.sj_work.specs.Laned.{entries_of}
use Rattle.sj_remote_seat.specs.Turns.{AreHanded, IsClear, Sat, Still}

module _ {G : Type 0} where
  -- an entry with these words was done again: its lines are what was noted, and its frames what the party had for others then, which
  -- had nothing for them before
  pub record DidAgain (file : FileAt) (words : List (List ℕ)) (old new : Guest ByteOut ByteIn G) : Type 0 where
    pub noted : List Entry
    pub clear : IsClear old
    pub mid : Guest ByteOut ByteIn G
    pub sat : Sat old mid (entries_of noted)
    pub posts : List (List (FrameAt Place))
    pub handed : AreHanded mid posts
    pub spelt : words ≡ entry_words file (party_of (node_of old)) noted posts
    pub still : Still mid new

-- entries are done again, one after another
abbrev pub DidAll : {G : Type 0} → FileAt → (entries : List (List (List ℕ))) → (old new : Guest ByteOut ByteIn G) → Type 0
DidAll file [] old new = new ≡ old
DidAll {G} file (words ∷ others) old new = (mid : Guest ByteOut ByteIn G) × DidAgain file words old mid × DidAll file others mid new
