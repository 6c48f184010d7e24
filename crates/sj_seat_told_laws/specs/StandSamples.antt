-- Transcripts that are known: parties of the greeting are played by code of their own.
use Rattle.std.specs.Prelude.{ℕ, List, [], ◌∷◌, codes, Some}
use Rattle.sj_seat_laws.specs.SeatSamples.{callers, listens}
use Rattle.sj_seat_laws.specs.SeatsStart.{Callers}

-- the transcript where both are played and end
abbrev pub both_text : List ℕ
both_text = codes "session 0 a x b y\n0.0 0 a b int 7\nparty a ended 2\nparty b ended 2\ndone\n"

-- the first party's code calls nothing, and the second one's takes
abbrev pub gone : Callers
gone = callers (Some [] ∷ Some listens ∷ [])

-- its transcript: neither acts
abbrev pub gone_text : List ℕ
gone_text = codes "session 0 a x b y\nparty a waits 0 0.0\nparty b waits 0 0.1\nblocked\n"
