-- The histories compute, and so does that nothing is left to do after them.
use Rattle.std.proofs.Common.{refl}
use Rattle.std.specs.Prelude.{max}
use Rattle.sj_semantics_laws.specs.HandoverSamples.{delegation, both_moved}
use Rattle.sj_semantics_laws.specs.OpeningSamples.{accepted, unaccepted}
use Rattle.sj_rules.specs.History.{whole_caches}
use Rattle.sj_rules_laws.specs.OpeningCoreSamples.{accepted_lines, unaccepted_lines, opened_and_moved, opened_and_moved_lines}
use Rattle.sj_rules_laws.specs.CoreSamples.{IsLoggedSo, delegation_lines, both_moved_lines}
use Rattle.sj_rules_laws.specs.MoreCoreSamples.{sends_later, sends_later_lines}
use Rattle.sj_rules_laws.specs.MovedTwiceSamples.{moved_twice, moved_twice_lines}
use Rattle.sj_rules_laws.proofs.WholeHistoryLemmas.{whole_history}

pub delegation_gives : IsLoggedSo delegation delegation_lines
delegation_gives = (whole_history whole_caches delegation delegation_lines refl refl, whole_history max delegation delegation_lines refl refl)

pub both_moved_gives : IsLoggedSo both_moved both_moved_lines
both_moved_gives = (whole_history whole_caches both_moved both_moved_lines refl refl, whole_history max both_moved both_moved_lines refl refl)

pub sends_later_gives : IsLoggedSo sends_later sends_later_lines
sends_later_gives = (whole_history whole_caches sends_later sends_later_lines refl refl, whole_history max sends_later sends_later_lines refl refl)

pub moved_twice_gives : IsLoggedSo moved_twice moved_twice_lines
moved_twice_gives = (whole_history whole_caches moved_twice moved_twice_lines refl refl, whole_history max moved_twice moved_twice_lines refl refl)

pub accepted_gives : IsLoggedSo accepted accepted_lines
accepted_gives = (whole_history whole_caches accepted accepted_lines refl refl, whole_history max accepted accepted_lines refl refl)

pub unaccepted_gives : IsLoggedSo unaccepted unaccepted_lines
unaccepted_gives = (whole_history whole_caches unaccepted unaccepted_lines refl refl, whole_history max unaccepted unaccepted_lines refl refl)

pub opened_and_moved_gives : IsLoggedSo opened_and_moved opened_and_moved_lines
opened_and_moved_gives = (whole_history whole_caches opened_and_moved opened_and_moved_lines refl refl, whole_history max opened_and_moved opened_and_moved_lines refl refl)
