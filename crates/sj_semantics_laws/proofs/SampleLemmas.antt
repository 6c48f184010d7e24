-- The samples compute.
use Rattle.std.proofs.Common.{◌≡◌, refl}
use Rattle.std.specs.Fmt.{digits}
use Rattle.sj_semantics.specs.declared.Verdict.TheVariants as verdicts
use Rattle.sj_semantics.specs.State.{verdict_of}
use Rattle.sj_semantics.specs.Run.{as_long_as_ready, turn_of_each, rounds, end_of}
use Rattle.sj_semantics.specs.Transcript.{transcript_of}
use Rattle.sj_semantics_laws.specs.Samples.{greeting, greeting_text, wrapping, wrapping_text, silent, silent_text, crossed, crossed_text, turning, turnless_text}
use Rattle.sj_semantics_laws.specs.HandoverSamples.{delegation, delegation_text, returning, returning_text, both_moved, both_moved_text, to_its_peer, to_its_peer_text, to_itself, to_itself_text}
use Rattle.sj_semantics_laws.specs.OpeningSamples.{accepted, accepted_text, unaccepted, unaccepted_text, unrequested, unrequested_text, narrower, narrower_text, standing_in, standing_in_text}
use Rattle.sj_semantics_laws.specs.AgencySamples.{agency, agency_text, refused_text}

pub greeting_ends : transcript_of greeting (end_of greeting) ≡ greeting_text
unfolding transcript_of digits end_of rounds turn_of_each as_long_as_ready
greeting_ends = refl

pub wrapping_ends : transcript_of wrapping (end_of wrapping) ≡ wrapping_text
unfolding transcript_of digits end_of rounds turn_of_each as_long_as_ready
wrapping_ends = refl

pub silent_ends : transcript_of silent (end_of silent) ≡ silent_text
unfolding transcript_of digits end_of rounds turn_of_each as_long_as_ready
silent_ends = refl

pub crossed_ends : transcript_of crossed (end_of crossed) ≡ crossed_text
unfolding transcript_of digits end_of rounds turn_of_each as_long_as_ready
crossed_ends = refl

pub turnless_ends : transcript_of (turning 0) (end_of (turning 0)) ≡ turnless_text
unfolding transcript_of digits end_of rounds turn_of_each as_long_as_ready
turnless_ends = refl

pub delegation_ends : transcript_of delegation (end_of delegation) ≡ delegation_text
unfolding transcript_of digits end_of rounds turn_of_each as_long_as_ready
delegation_ends = refl

pub returning_ends : transcript_of returning (end_of returning) ≡ returning_text
unfolding transcript_of digits end_of rounds turn_of_each as_long_as_ready
returning_ends = refl

pub both_moved_ends : transcript_of both_moved (end_of both_moved) ≡ both_moved_text
unfolding transcript_of digits end_of rounds turn_of_each as_long_as_ready
both_moved_ends = refl

pub to_its_peer_ends : transcript_of to_its_peer (end_of to_its_peer) ≡ to_its_peer_text
unfolding transcript_of digits end_of rounds turn_of_each as_long_as_ready
to_its_peer_ends = refl

pub to_itself_ends : transcript_of to_itself (end_of to_itself) ≡ to_itself_text
unfolding transcript_of digits end_of rounds turn_of_each as_long_as_ready
to_itself_ends = refl

pub agency_ends : transcript_of (agency 400) (end_of (agency 400)) ≡ agency_text
unfolding transcript_of digits end_of rounds turn_of_each as_long_as_ready
agency_ends = refl

pub refused_ends : transcript_of (agency 200) (end_of (agency 200)) ≡ refused_text
unfolding transcript_of digits end_of rounds turn_of_each as_long_as_ready
refused_ends = refl

pub crossed_blocks : verdict_of (end_of crossed) ≡ verdicts.Blocked
unfolding end_of rounds turn_of_each as_long_as_ready
crossed_blocks = refl

pub accepted_ends : transcript_of accepted (end_of accepted) ≡ accepted_text
unfolding transcript_of digits end_of rounds turn_of_each as_long_as_ready
accepted_ends = refl

pub unaccepted_ends : transcript_of unaccepted (end_of unaccepted) ≡ unaccepted_text
unfolding transcript_of digits end_of rounds turn_of_each as_long_as_ready
unaccepted_ends = refl

pub unrequested_ends : transcript_of unrequested (end_of unrequested) ≡ unrequested_text
unfolding transcript_of digits end_of rounds turn_of_each as_long_as_ready
unrequested_ends = refl

pub narrower_ends : transcript_of narrower (end_of narrower) ≡ narrower_text
unfolding transcript_of digits end_of rounds turn_of_each as_long_as_ready
narrower_ends = refl

pub standing_in_ends : transcript_of standing_in (end_of standing_in) ≡ standing_in_text
unfolding transcript_of digits end_of rounds turn_of_each as_long_as_ready
standing_in_ends = refl
