-- The transcript of a run in which several parties are played by code of their own.
use Rattle.std.specs.Prelude.{ℕ, List, [], ◌∷◌, ◌++◌}
use Rattle.sj_lang.specs.FileAt.{FileAt}
use Rattle.sj_semantics.specs.State.{opened_in}
use Rattle.sj_semantics.specs.Transcript.{line_of, session_lines, verdict_word}
use Rattle.sj_told.specs.Standing.{standing_lines}
use Rattle.sj_seat_laws.specs.SeatsWorld.{SeatsWorld}
use Rattle.sj_seat_told_laws.specs.SeatsOpened.{opened_ends_lines}
use Rattle.sj_seat_told_laws.specs.SeatsStands.{seats_states, seats_steps, seats_verdict}

-- connections, sessions that were opened, parties, verdict: as for a file that is played whole, but
-- that the ends of opened sessions are told by session and side, since code has no names for them
unfoldable pub seats_transcript : FileAt → SeatsWorld → List ℕ
seats_transcript file t =
    session_lines file 0 file.connects t.world.sessions ++ opened_ends_lines file t.world.sessions (opened_in t.world)
    ++ standing_lines file file.parties (seats_steps t) (seats_states t) ++ line_of (verdict_word (seats_verdict t) ∷ [])
