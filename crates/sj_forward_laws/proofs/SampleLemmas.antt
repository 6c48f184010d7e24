-- The counts compute.
use Rattle.std.proofs.Common.{refl}
use Rattle.sj_semantics_laws.specs.HandoverSamples.{delegation, both_moved}
use Rattle.sj_semantics_laws.specs.OpeningSamples.{accepted}
use Rattle.sj_rules_laws.specs.OpeningCoreSamples.{opened_and_moved}
use Rattle.sj_forward_laws.proofs.CountLemmas.{emptied_by, emptied_front, emptied, acted_by, acted_out, both_done, each_emptied, turn_taken}
use Rattle.sj_forward_laws.proofs.CountLemmas.{turns_taken, round_done, drained, drain_of, passes_by}
use Rattle.sj_forward_laws.specs.Samples.{Passes}

pub delegation_passes : Passes delegation 7
unfolding emptied_by emptied_front emptied acted_by acted_out both_done each_emptied turn_taken turns_taken round_done drained drain_of
delegation_passes = passes_by delegation 7 (drain_of delegation) refl

pub both_moved_passes : Passes both_moved 9
unfolding emptied_by emptied_front emptied acted_by acted_out both_done each_emptied turn_taken turns_taken round_done drained drain_of
both_moved_passes = passes_by both_moved 9 (drain_of both_moved) refl

pub accepted_passes : Passes accepted 2
unfolding emptied_by emptied_front emptied acted_by acted_out both_done each_emptied turn_taken turns_taken round_done drained drain_of
accepted_passes = passes_by accepted 2 (drain_of accepted) refl

pub opened_and_moved_passes : Passes opened_and_moved 5
unfolding emptied_by emptied_front emptied acted_by acted_out both_done each_emptied turn_taken turns_taken round_done drained drain_of
opened_and_moved_passes = passes_by opened_and_moved 5 (drain_of opened_and_moved) refl
