use Rattle.std.proofs.Common.{◌+◌, ◌≤◌, length}
use Rattle.sj_talk.specs.Talk.{talk_of}
use Rattle.sj_talk.proofs.OutputLemmas.{SoFar}
use Rattle.sj_talk.proofs.output.talk_lines.Given as goal

abbrev pub invariant-loop-left : goal.invariant-loop-left
invariant-loop-left l = record {
  few : l.number + length l.left ≤ length l.lines;
  so_far : SoFar (talk_of l.fn.talk) l.lines l.fn.text.items l.number (talk_of l.talk) l.left l.text.items;
}

abbrev pub decreases-loop-left : goal.decreases-loop-left
decreases-loop-left l = length l.left
