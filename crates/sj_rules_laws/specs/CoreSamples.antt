-- Histories that are known: an end is delegated between messages, and both ends are at once.
use Rattle.std.specs.Prelude.{◌≡◌, ℕ, max, List, [], ◌∷◌, length, map, pos, Some, None}
use Rattle.sj_base.specs.declared.EndId.{EndId}
use Rattle.sj_base.specs.declared.Msg.{Msg}
use Rattle.sj_base.specs.declared.Msg.TheVariants as msgs
use Rattle.sj_lang.specs.FileAt.{FileAt}
use Rattle.sj_lang.specs.Place.{Place}
use Rattle.sj_semantics.specs.Program.{Program}
use Rattle.sj_rules.specs.World.{Act, Deliver, WorldAt}
use Rattle.sj_rules.specs.Party.{play_of}
use Rattle.sj_rules.specs.Start.{core_start}
use Rattle.sj_rules.specs.Log.{NoteAt, Sent, Took, Shut, Carry, Fin, Claim, Signal, Ack, Give, LineAt}
use Rattle.sj_rules.specs.History.{IsQuietAmong, replay, whole_caches, turn_of}

abbrev pub end : ℕ → ℕ → EndId
end sess side = record { sess = sess; side = side }

abbrev pub int : ℕ → Msg
int n = msgs.Int (pos n)

-- the line of an act, and of a delivery
abbrev pub does : (clock party : ℕ) → NoteAt → LineAt
does clock party note = record { party = party; entry = record { clock = clock; event = Act; note = note } }

abbrev pub gets : (clock party from : ℕ) → NoteAt → LineAt
gets clock party from note = record { party = party; entry = record { clock = clock; event = Deliver from; note = note } }

-- the events of these lines give them again, with that choice of bases. In the world to which they
-- lead nothing is left to do: no frame is in a lane, and no party can act
abbrev pub IsWholeHistory : (ℕ → ℕ → ℕ) → FileAt → List LineAt → Type 0
IsWholeHistory pick file lines =
    (w : WorldAt Place Program) × (replay (play_of file) pick (map turn_of lines) (core_start file) ≡ Some (record { lines = lines; world = w }))
    × IsQuietAmong (play_of file) (length file.parties) w

-- so it is where caches are kept whole, and where they are trimmed to what is known to be taken
abbrev pub IsLoggedSo : FileAt → List LineAt → Type 0
IsLoggedSo file lines = IsWholeHistory whole_caches file lines × IsWholeHistory max file lines

-- a, b and c; b takes one message and delegates its end to c
abbrev pub delegation_lines : List LineAt
delegation_lines =
    does 1 0 (Sent (end 0 0) (int 1))
    ∷ does 2 0 (Sent (end 0 0) (int 2))
    ∷ does 3 0 (Sent (end 0 0) (int 3))
    ∷ does 4 0 (Shut (end 0 0))
    ∷ gets 2 1 0 (Carry (end 0 1) 0 0 0 (int 1))
    ∷ gets 3 1 0 (Carry (end 0 1) 0 1 0 (int 2))
    ∷ gets 4 1 0 (Carry (end 0 1) 0 2 0 (int 3))
    ∷ gets 5 1 0 (Fin (end 0 1) 0 3)
    ∷ does 6 1 (Took (end 0 1) (int 1))
    ∷ does 7 1 (Sent (end 1 0) (msgs.Sess 0 1 1))
    ∷ does 8 1 (Shut (end 1 0))
    ∷ gets 8 2 1 (Carry (end 1 1) 0 0 0 (msgs.Sess 0 1 1))
    ∷ gets 9 2 1 (Fin (end 1 1) 0 1)
    ∷ does 10 2 (Took (end 1 1) (msgs.Sess 0 1 1))
    ∷ gets 11 1 2 (Claim (end 0 1))
    ∷ gets 12 0 1 (Signal (end 0 0) 0 2 1)
    ∷ gets 13 1 0 (Ack (end 0 1) 0)
    ∷ gets 13 2 0 (Carry (end 0 1) 1 1 0 (int 2))
    ∷ gets 14 2 0 (Carry (end 0 1) 1 2 0 (int 3))
    ∷ gets 15 2 0 (Fin (end 0 1) 1 3)
    ∷ gets 16 2 1 (Give (end 0 1) 1 0 0 1 0 None)
    ∷ does 17 2 (Took (end 0 1) (int 2))
    ∷ does 18 2 (Took (end 0 1) (int 3))
    ∷ does 19 2 (Shut (end 0 1))
    ∷ does 20 2 (Shut (end 1 1))
    ∷ gets 20 0 2 (Fin (end 0 0) 1 0)
    ∷ gets 21 1 2 (Fin (end 1 0) 0 0)
    ∷ []

-- a delegates its end to c and b its to d, and the Signal cross
abbrev pub both_moved_lines : List LineAt
both_moved_lines =
    does 1 0 (Sent (end 0 0) (int 1))
    ∷ does 2 0 (Sent (end 1 0) (msgs.Sess 0 0 0))
    ∷ does 3 0 (Shut (end 1 0))
    ∷ gets 2 1 0 (Carry (end 0 1) 0 0 0 (int 1))
    ∷ does 3 1 (Sent (end 2 0) (msgs.Sess 0 1 1))
    ∷ does 4 1 (Shut (end 2 0))
    ∷ gets 3 2 0 (Carry (end 1 1) 0 0 0 (msgs.Sess 0 0 0))
    ∷ gets 4 2 0 (Fin (end 1 1) 0 1)
    ∷ does 5 2 (Took (end 1 1) (msgs.Sess 0 0 0))
    ∷ gets 4 3 1 (Carry (end 2 1) 0 0 0 (msgs.Sess 0 1 1))
    ∷ gets 5 3 1 (Fin (end 2 1) 0 1)
    ∷ does 6 3 (Took (end 2 1) (msgs.Sess 0 1 1))
    ∷ gets 6 0 2 (Claim (end 0 0))
    ∷ gets 7 1 3 (Claim (end 0 1))
    ∷ gets 8 0 1 (Signal (end 0 0) 0 3 0)
    ∷ gets 8 1 0 (Signal (end 0 1) 0 2 0)
    ∷ gets 9 2 0 (Give (end 0 0) 1 3 1 0 0 (Some 0))
    ∷ does 10 2 (Sent (end 0 0) (int 2))
    ∷ does 11 2 (Shut (end 0 0))
    ∷ does 12 2 (Shut (end 1 1))
    ∷ gets 9 3 1 (Give (end 0 1) 1 2 0 0 0 (Some 0))
    ∷ gets 10 3 2 (Carry (end 0 1) 1 0 0 (int 1))
    ∷ gets 11 3 2 (Carry (end 0 1) 1 1 0 (int 2))
    ∷ gets 12 3 2 (Fin (end 0 1) 1 2)
    ∷ does 13 3 (Took (end 0 1) (int 1))
    ∷ does 14 3 (Took (end 0 1) (int 2))
    ∷ does 15 3 (Shut (end 0 1))
    ∷ does 16 3 (Shut (end 2 1))
    ∷ gets 13 0 2 (Fin (end 1 0) 0 0)
    ∷ gets 17 1 3 (Fin (end 2 0) 0 0)
    ∷ gets 16 2 3 (Fin (end 0 0) 1 0)
    ∷ []
