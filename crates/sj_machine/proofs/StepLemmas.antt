-- A step takes the innermost frame off, and leaves frames in its place.
use Rattle.std.proofs.Common.{◌≡◌, ℕ, ◌+◌, ◌<◌, List, [], ◌∷◌, ◌++◌, length, get_or, sym, ap, ◌∙◌, subst, arith}
use Rattle.sj_semantics.specs.Program.{Thing, block}
use Rattle.sj_machine.specs.declared.arena.CodeNode.{CodeNode}
use Rattle.sj_machine.specs.declared.stack.StackFrame.{StackFrame}
use Rattle.sj_machine.specs.declared.stack.After.{After}
use Rattle.sj_machine.specs.Arena.{deed_in, code_in, codes_of, IsOpBelow, IsBackward}
use Rattle.sj_machine.specs.Frames.{frames_after, thing_at, todo_from, todo_after, LeadsBelow, Fits}
use Rattle.sj_machine.specs.Names.{BindsBelow, AllBindBelow}
use Rattle.sj_machine.proofs.FrameLemmas.{frame_there, popped, top_is, left_is, left_fits, leave_room}

module _ (nodes : List CodeNode) (old fs : List StackFrame) (f : StackFrame) (n : CodeNode) (e : old ≡ fs ++ f ∷ []) (back : IsBackward 0 nodes) (fits : Fits (length nodes) 0 old) (is : n ≡ get_or nodes f.at n) where
  -- what the step makes of what is to do
  pub step_todo : (new : List StackFrame) (after : After) (makes : List Thing → List Thing) → new ≡ fs ++ frames_after f n.next after
      → ((rest : List Thing) → makes (thing_at f.stage (deed_in (codes_of nodes) n.op) ∷ rest) ≡ todo_after (codes_of nodes) (deed_in (codes_of nodes) n.op) after rest)
      → todo_from (codes_of nodes) new [] ≡ makes (todo_from (codes_of nodes) old [])
  step_todo new after makes left todo =
      let p = popped nodes old fs f n e back fits is in
      left_is nodes new fs f n after left p
      ∙ sym (todo (block (code_in (codes_of nodes) n.next) (todo_from (codes_of nodes) fs [])))
      ∙ sym (ap makes (top_is nodes old fs f n e p))

  -- what else it makes, by the first thing to do
  pub step_makes : {X : Type 0} (x : X) (makes : List Thing → X) → ((rest : List Thing) → x ≡ makes (thing_at f.stage (deed_in (codes_of nodes) n.op) ∷ rest)) → x ≡ makes (todo_from (codes_of nodes) old [])
  step_makes x makes by =
      by (block (code_in (codes_of nodes) n.next) (todo_from (codes_of nodes) fs []))
      ∙ sym (ap makes (top_is nodes old fs f n e (popped nodes old fs f n e back fits is)))

  pub step_fits : (new : List StackFrame) (after : After) → new ≡ fs ++ frames_after f n.next after → ((k : ℕ) → IsOpBelow k n.op → LeadsBelow k after) → Fits (length nodes) 0 new
  step_fits new after left below =
      let p = popped nodes old fs f n e back fits is in
      left_fits nodes new fs f n after left p (below f.at p.inside)

  pub step_room : (room now : ℕ) → length nodes < room → now ≡ room → length fs + 1 < now
  step_room room now lt same = subst (λ (t : ℕ). length fs + 1 < t) (sym same) (leave_room nodes fs f n room (popped nodes old fs f n e back fits is) lt)

  pub step_binds : (size : ℕ) → AllBindBelow size nodes → BindsBelow size n.op
  step_binds size named = let h = frame_there nodes old fs f e fits in named f.at n (omega arith) is
