-- How the parties stand, and the sessions that were opened, tell the transcript of a run with seats.
use Rattle.std.proofs.Common.{◌≡◌, List, [], ◌∷◌, ◌++◌, map, sym}
use Rattle.sj_lang.specs.FileAt.{FileAt}
use Rattle.sj_semantics.specs.Ends.{Session}
use Rattle.sj_semantics.specs.State.{opened_in}
use Rattle.sj_semantics.specs.Transcript.{line_of, session_lines, verdict_word}
use Rattle.sj_told.specs.declared.told.Stand.{Stand}
use Rattle.sj_told.specs.Standing.{standing_lines}
use Rattle.sj_seat_laws.specs.SeatsWorld.{SeatsWorld}
use Rattle.sj_seat_told_laws.specs.SeatsOpened.{opened_ends_lines, unnamed}
use Rattle.sj_seat_told_laws.specs.SeatsStands.{AreSeatsStands, verdict_with}
use Rattle.sj_seat_told_laws.specs.SeatsTranscript.{seats_transcript}
use Rattle.sj_seat_told_laws.proofs.OpenedLemmas.{unnamed_lines}
use Rattle.sj_seat_told_laws.proofs.VerdictLemmas.{verdict_is}

pub transcript_is : (file : FileAt) (t : SeatsWorld) (stands : List Stand) → AreSeatsStands t stands
    → session_lines file 0 file.connects t.world.sessions ++ opened_ends_lines file t.world.sessions (map unnamed (opened_in t.world))
    ++ standing_lines file file.parties (map (λ s. s.steps) stands) (map (λ s. s.state) stands)
    ++ line_of (verdict_word (verdict_with stands (map unnamed (opened_in t.world))) ∷ []) ≡ seats_transcript file t
unfolding seats_transcript
transcript_is file t stands stand =
    let zs : List Session = t.world.sessions in
    let opened = unnamed_lines file zs (opened_in t.world) in
    let verdict = verdict_is t stands stand in
    λ i. session_lines file 0 file.connects zs ++ opened i ++ standing_lines file file.parties (stand.steps i) (stand.states i) ++ line_of (verdict_word (verdict i) ∷ [])
