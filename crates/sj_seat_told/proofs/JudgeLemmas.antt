-- The verdict by how the parties stand, where some of the sessions that were opened weren't accepted.
use Rattle.std.proofs.Common.{◌≡◌, Bool, true, false, ◌&&◌, List, refl, ap, sym, ◌∙◌, if◌then◌else◌}
use Rattle.std.specs.List.{list_all, list_any}
use Rattle.sj_seat_told_laws.specs.SeatsStands.{verdict_with}
use Rattle.sj_semantics.specs.State.{has_ended, is_accepted, is_at_limit}
use Rattle.sj_semantics.specs.declared.Opened.{Opened}
use Rattle.sj_semantics.specs.declared.Verdict.{Verdict}
use Rattle.sj_semantics.specs.declared.Verdict.TheVariants as verdicts
use Rattle.sj_told.specs.Told.{verdict_by}
use Rattle.sj_told.specs.declared.told.Stand.{Stand}

-- it is done only where each was accepted
abbrev pub done_with : Verdict → Bool → Verdict
done_with verdicts.Done accepted = if accepted then verdicts.Done else verdicts.Blocked
done_with verdicts.Blocked accepted = verdicts.Blocked
done_with verdicts.Long accepted = verdicts.Long

by_parts : (long ended accepted : Bool) → done_with (if long then verdicts.Long else (if ended then verdicts.Done else verdicts.Blocked)) accepted
    ≡ (if long then verdicts.Long else (if ended && accepted then verdicts.Done else verdicts.Blocked))
by_parts true ended accepted = refl
by_parts false true accepted = refl
by_parts false false accepted = refl

pub judged_so : (stands : List Stand) (os : List Opened) (v : Verdict) → verdict_by stands ≡ v → done_with v (list_all is_accepted os) ≡ verdict_with stands os
judged_so stands os v is =
    ap (λ (x : Verdict). done_with x (list_all is_accepted os)) (sym is) ∙ by_parts (list_any (λ s. is_at_limit s.state) stands) (list_all (λ s. has_ended s.state) stands) (list_all is_accepted os)
