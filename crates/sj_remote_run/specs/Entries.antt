-- A batch as the words of an entry.
use Rattle.std.specs.Prelude.{ℕ, suc, ◌==◌, if◌then◌else◌, List, [], ◌∷◌, ◌++◌, map, codes}
use Rattle.std.specs.Fmt.{decimal}
use Rattle.std.specs.List.{flat_map}
use Rattle.sj_end.specs.Lines.{line_at}
use Rattle.sj_end.specs.declared.note.Entry.{Entry}
use Rattle.sj_lang.specs.FileAt.{FileAt}
use Rattle.sj_lang.specs.Place.{Place}
use Rattle.sj_print.specs.LogLine.{log_text}
use Rattle.sj_rules.specs.Frames.{FrameAt}
use Rattle.sj_wire.specs.Spelling.{spelling}

-- the lines of the party's entries, one after another
abbrev pub lines_text : FileAt → (party : ℕ) → List Entry → List ℕ
lines_text file party entries = log_text file (map (λ e. line_at (record { party = party; entry = e })) entries)

-- the frames for a party, under its number; nothing where there are none
abbrev pub frame_words : (to : ℕ) → List (FrameAt Place) → List (List ℕ)
frame_words to [] = []
frame_words to (f ∷ fs) = decimal to ∷ flat_map spelling (f ∷ fs) ∷ []

-- the same, but nothing for the party that sends
abbrev pub lane_words : (party to : ℕ) → List (FrameAt Place) → List (List ℕ)
lane_words party to fs = if to == party then [] else frame_words to fs

-- the same for each party from that number on
unfoldable pub frames_from : (party to : ℕ) → List (List (FrameAt Place)) → List (List ℕ)
frames_from party to [] = []
frames_from party to (fs ∷ others) = lane_words party to fs ++ frames_from party (suc to) others

-- the words of an entry: the lines, and the frames for each other party
abbrev pub entry_words : FileAt → (party : ℕ) → List Entry → (posts : List (List (FrameAt Place))) → List (List ℕ)
entry_words file party entries posts = codes "e" ∷ lines_text file party entries ∷ frames_from party 0 posts
