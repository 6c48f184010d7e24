use Rattle.sj_seat_told_laws.proofs.TranscriptLemmas.{transcript_is}
use Rattle.sj_seat_told_laws.proofs.laws.stands_tell_the_transcript.Goals as goal

pub returns : goal.returns
returns c = λ file t stands stand. transcript_is file t stands stand
