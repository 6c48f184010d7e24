use Rattle.std.proofs.Common.{◌≡◌, drop}
use Rattle.sj_lang.specs.View.{choices_of}
use Rattle.sj_lang.specs.After.{at_label}
use Rattle.sj_lang.proofs.meeting.has_label.Given as goal

-- no arm so far has the label
abbrev pub invariant-loop-arm : goal.invariant-loop-arm
invariant-loop-arm l = at_label l.label (choices_of (drop l.arm-index l.arms)) ≡ at_label l.label (choices_of l.arms)
