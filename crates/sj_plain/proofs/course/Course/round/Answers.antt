use Rattle.std.proofs.Common.{◌≡◌, ℕ, None, ap, sym, ◌∙◌, arith, length, subst, inl, inr}
use Rattle.std.proofs.lemmas.Bool.{cases_eq, false≢true}
use Rattle.std.proofs.lemmas.List.{length-map}
use Rattle.sj_machine.specs.Sound.{program_at}
use Rattle.sj_semantics.specs.World.{World, act_of}
use Rattle.sj_semantics_laws.proofs.RoundLemmas.{idle_is_settled}
use Rattle.sj_plain.specs.Course.{world_in}
use Rattle.sj_plain.specs.Rounds.{steps_left}
use Rattle.sj_plain.proofs.CourseLemmas.{goes_on}
use Rattle.sj_plain.proofs.FinishingLemmas.{breaks_in_turn, last_turn, next_turn, or_err}
use Rattle.sj_plain.proofs.course.Course.round.Goals as goal
use Rattle.sj_plain.proofs.course.Course.round.Goals.{then-branch, else-branch}

pub returns-in_err-turn-clause-on : goal.returns-in_err-turn-clause-on
returns-in_err-turn-clause-on c = goes_on c.args.self.now c.loop-party.self c.turn.new.self c.loop-party.invariant.on c.turn.ensures.on

pub loop-party-preserved : goal.loop-party-preserved
loop-party-preserved c =
    let h = c.loop-party.invariant in
    let ahead =
    next_turn (length (world_in c.args.self.now).parties) c.loop-party.party c.args.self.now c.loop-party.self c.turn.new.self
    (omega (arith, c.loop-party-test.true, c.len-party-end.ensures, length-map c.args.self.now.machines.items program_at)) h.ahead c.in_ok-turn.ensures.ok in
    elim c.if-branch.branch [
      | then-branch w ↦
          let less = c.in_ok-turn.ensures.busy w.if-branch.true in
          record {
            on = goes_on c.args.self.now c.loop-party.self c.turn.new.self h.on c.turn.ensures.on;
            ordered = c.turn.ensures.ordered;
            count = c.turn.ensures.count ∙ h.count;
            ahead = ahead;
            same = λ e. absurd (false≢true (sym e ∙ w.acted-is));
            less = omega (arith, less, h.less);
            busy = λ _. omega (arith, less, h.less);
            idle = λ e. absurd (false≢true (sym e ∙ w.acted-is));
          }
      | else-branch w ↦
          let same = c.in_ok-turn.ensures.same w.if-branch.false in
          record {
            on = goes_on c.args.self.now c.loop-party.self c.turn.new.self h.on c.turn.ensures.on;
            ordered = c.turn.ensures.ordered;
            count = c.turn.ensures.count ∙ h.count;
            ahead = ahead;
            same = λ e. same ∙ h.same (sym w.acted-is ∙ e);
            less = omega (arith, ap steps_left same, h.less);
            busy = λ e. omega (arith, ap steps_left same, h.busy (sym w.acted-is ∙ e));
            idle = λ e q lt.
                subst (λ (v : World). act_of v q ≡ None) (sym same)
                (elim (cases_eq c.loop-party.party q) [
                  | inl it ↦ subst (λ (t : ℕ). act_of (world_in c.loop-party.self) t ≡ None) it (c.in_ok-turn.ensures.idle w.if-branch.false)
                  | inr other ↦ h.idle (sym w.acted-is ∙ e) q (omega arith)
                ]);
          }
    ]

pub returns-clause-settled : goal.returns-clause-settled
returns-clause-settled c = λ e.
    idle_is_settled (world_in c.loop-party.self) (λ q ge lt.
    c.loop-party.invariant.idle e q
    (omega (arith, lt, c.loop-party.invariant.count, length-map c.args.self.now.machines.items program_at, c.len-party-end.ensures, c.loop-party-test.false)))

pub returns-clause-ok : goal.returns-clause-ok
returns-clause-ok c =
    last_turn (length (world_in c.args.self.now).parties) c.loop-party.party c.args.self.now c.loop-party.self
    (omega (arith, c.len-party-end.ensures, c.loop-party-test.false, length-map c.args.self.now.machines.items program_at)) c.loop-party.invariant.ahead

pub returns-in_err-turn-clause-err : goal.returns-in_err-turn-clause-err
returns-in_err-turn-clause-err c =
    or_err c.from_residual.result
    (breaks_in_turn (length (world_in c.args.self.now).parties) c.loop-party.party c.args.self.now c.loop-party.self c.turn.new.self
    (omega (arith, c.loop-party-test.true, c.len-party-end.ensures, length-map c.args.self.now.machines.items program_at)) c.loop-party.invariant.ahead c.in_err-turn.ensures.err)
