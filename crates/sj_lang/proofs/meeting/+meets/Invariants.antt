use Rattle.std.proofs.Common.{◌≡◌, ◌+◌, ◌*◌, drop}
use Rattle.sj_lang.specs.Place.{done}
use Rattle.sj_lang.specs.PlaceSize.{place_size, choices_size}
use Rattle.sj_lang.specs.View.{place_of, followed}
use Rattle.sj_lang.specs.MeetTests.{seen, meets}
use Rattle.sj_lang.proofs.InStepLemmas.{MeetTo}
use Rattle.sj_lang.proofs.meeting.+meets.Given as goal

-- what is left meets exactly where all does
abbrev pub invariant-meet_items-loop-i : goal.invariant-meet_items-loop-i
invariant-meet_items-loop-i l = meets (seen l.turned (place_of (drop l.i l.a))) (place_of (drop l.i l.b)) ≡ meets (seen l.turned (place_of l.a)) (place_of l.b)

-- the arms of the labels so far meet
abbrev pub invariant-meet_arms-loop-i : goal.invariant-meet_arms-loop-i
invariant-meet_arms-loop-i l = MeetTo l.turned l.a l.b l.i l.labels-inside.arms.items

abbrev pub decreases-meet : goal.decreases-meet
decreases-meet l = 5 * place_size l.a.now + 4

abbrev pub decreases-meet_items : goal.decreases-meet_items
decreases-meet_items l = 5 * place_size (place_of l.a.now) + 3

abbrev pub decreases-meet_item : goal.decreases-meet_item
decreases-meet_item l = 5 * place_size (followed l.a.now done) + 2

abbrev pub decreases-meet_arms : goal.decreases-meet_arms
decreases-meet_arms l = 5 * choices_size l.a.now + 1
