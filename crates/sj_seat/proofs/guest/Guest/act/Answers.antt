use Rattle.std.proofs.Common.{◌≡◌, ◌∷◌, Err, subst, sym}
use Rattle.sj_work.proofs.LaneLaws.{laws}
use Rattle.sj_seat.specs.Asked.{asked}
use Rattle.sj_seat.specs.declared.refusal.SeatRefusal.TheVariants as refusals
use Rattle.sj_seat.proofs.AfterLemmas.{Waited, waited_bounds, waited_err, waited_keeps, waited_more, waited_none, waited_ok, waited_rests, waited_then, waited_vain}
use Rattle.sj_seat.proofs.CountLemmas.{counted_later}
use Rattle.sj_seat.proofs.guest.Guest.act.Goals as goal
use Rattle.sj_seat.proofs.guest.Guest.act.Goals.{then-is_due+else-not-is_waiting, else-is_due}

pub loop-init : goal.loop-init
loop-init g c =
    let ol = g.met.O.OutLane g.world.𝓛 g.world.𝓜 g.world.𝓡 (λ s x. x, λ x. x, λ x. x, λ x. x) in
    let il = g.met.I.InLane g.world.𝓛 g.world.𝓜 g.world.𝓡 (λ s x. x, λ x. x, λ x. x, λ x. x) in
    let k = laws g.O.OutLane g.I.InLane ol.same_itself ol.same_later il.same_itself il.same_later in
    waited_none k c.args.self.now

pub returns-then-not-is_waiting-clause-ok : goal.returns-then-not-is_waiting-clause-ok
returns-then-not-is_waiting-clause-ok g c =
    let ol = g.met.O.OutLane g.world.𝓛 g.world.𝓜 g.world.𝓡 (λ s x. x, λ x. x, λ x. x, λ x. x) in
    let il = g.met.I.InLane g.world.𝓛 g.world.𝓜 g.world.𝓡 (λ s x. x, λ x. x, λ x. x, λ x. x) in
    let k = laws g.O.OutLane g.I.InLane ol.same_itself ol.same_later il.same_itself il.same_later in
    let h = c.attempt-answer.ensures in
    λ file rest parties. waited_ok k c.args.self.now c.loop.self c.attempt-answer.new.self c.attempt-answer.result file (asked c.args.call ∷ rest) rest c.loop.invariant parties (h.ok file rest)

pub returns-then-not-is_waiting-clause-err : goal.returns-then-not-is_waiting-clause-err
returns-then-not-is_waiting-clause-err g c =
    let ol = g.met.O.OutLane g.world.𝓛 g.world.𝓜 g.world.𝓡 (λ s x. x, λ x. x, λ x. x, λ x. x) in
    let il = g.met.I.InLane g.world.𝓛 g.world.𝓜 g.world.𝓡 (λ s x. x, λ x. x, λ x. x, λ x. x) in
    let k = laws g.O.OutLane g.I.InLane ol.same_itself ol.same_later il.same_itself il.same_later in
    let h = c.attempt-answer.ensures in
    λ file rest parties. waited_err k c.args.self.now c.loop.self c.attempt-answer.new.self c.attempt-answer.result file rest rest c.loop.invariant parties (h.err file rest)

pub returns-in-Some-clause-err : goal.returns-in-Some-clause-err
returns-in-Some-clause-err g c =
    let ol = g.met.O.OutLane g.world.𝓛 g.world.𝓜 g.world.𝓡 (λ s x. x, λ x. x, λ x. x, λ x. x) in
    let il = g.met.I.InLane g.world.𝓛 g.world.𝓜 g.world.𝓡 (λ s x. x, λ x. x, λ x. x, λ x. x) in
    let k = laws g.O.OutLane g.I.InLane ol.same_itself ol.same_later il.same_itself il.same_later in
    let a = c.args.self.now in
    let l = c.loop.self in
    let j = c.if-is_due.self in
    let waited : Waited g.O.OutLane g.I.InLane a j = elim c.if-is_due.branch [
      | then-is_due+else-not-is_waiting w ↦
          let r = w.attempt-answer.result in
          let h = w.attempt-answer.ensures in
          let waiting : r ≡ Err refusals.Waiting = w.is_waiting.ensures w.if-not-is_waiting.false in
          let vain = waited_vain k a l w.attempt-answer.new.self r refusals.Waiting waiting c.loop.invariant h.keeps h.rests h.bounds h.counts (h.waits waiting) h.err in
          subst (Waited g.O.OutLane g.I.InLane a) (sym w.self-is) vain
      | else-is_due w ↦ subst (Waited g.O.OutLane g.I.InLane a) (sym w.self-is) c.loop.invariant
    ] in
    λ file rest parties. waited_then k a j c.wait.new.self file rest rest waited parties (c.wait.ensures.went file rest)

pub loop-preserved : goal.loop-preserved
loop-preserved g c =
    let ol = g.met.O.OutLane g.world.𝓛 g.world.𝓜 g.world.𝓡 (λ s x. x, λ x. x, λ x. x, λ x. x) in
    let il = g.met.I.InLane g.world.𝓛 g.world.𝓜 g.world.𝓡 (λ s x. x, λ x. x, λ x. x, λ x. x) in
    let k = laws g.O.OutLane g.I.InLane ol.same_itself ol.same_later il.same_itself il.same_later in
    let a = c.args.self.now in
    let l = c.loop.self in
    let j = c.if-is_due.self in
    let waited : Waited g.O.OutLane g.I.InLane a j = elim c.if-is_due.branch [
      | then-is_due+else-not-is_waiting w ↦
          let r = w.attempt-answer.result in
          let h = w.attempt-answer.ensures in
          let waiting : r ≡ Err refusals.Waiting = w.is_waiting.ensures w.if-not-is_waiting.false in
          let vain = waited_vain k a l w.attempt-answer.new.self r refusals.Waiting waiting c.loop.invariant h.keeps h.rests h.bounds h.counts (h.waits waiting) h.err in
          subst (Waited g.O.OutLane g.I.InLane a) (sym w.self-is) vain
      | else-is_due w ↦ subst (Waited g.O.OutLane g.I.InLane a) (sym w.self-is) c.loop.invariant
    ] in
    let w = c.wait.ensures in
    waited_more k a j c.wait.new.self waited w.keeps w.rests w.bounds w.counts (w.none c.in_default.is) w.went

pub returns-clause-ok : goal.returns-clause-ok
returns-clause-ok g c =
    let ol = g.met.O.OutLane g.world.𝓛 g.world.𝓜 g.world.𝓡 (λ s x. x, λ x. x, λ x. x, λ x. x) in
    let il = g.met.I.InLane g.world.𝓛 g.world.𝓜 g.world.𝓡 (λ s x. x, λ x. x, λ x. x, λ x. x) in
    let k = laws g.O.OutLane g.I.InLane ol.same_itself ol.same_later il.same_itself il.same_later in
    let h = c.attempt.ensures in
    λ file rest parties. waited_ok k c.args.self.now c.loop.self c.attempt.new.self c.attempt.result file (asked c.args.call ∷ rest) rest c.loop.invariant parties (h.ok file rest)

pub returns-clause-err : goal.returns-clause-err
returns-clause-err g c =
    let ol = g.met.O.OutLane g.world.𝓛 g.world.𝓜 g.world.𝓡 (λ s x. x, λ x. x, λ x. x, λ x. x) in
    let il = g.met.I.InLane g.world.𝓛 g.world.𝓜 g.world.𝓡 (λ s x. x, λ x. x, λ x. x, λ x. x) in
    let k = laws g.O.OutLane g.I.InLane ol.same_itself ol.same_later il.same_itself il.same_later in
    let h = c.attempt.ensures in
    λ file rest parties. waited_err k c.args.self.now c.loop.self c.attempt.new.self c.attempt.result file rest rest c.loop.invariant parties (h.err file rest)

pub returns-then-not-is_waiting-clause-counts : goal.returns-then-not-is_waiting-clause-counts
returns-then-not-is_waiting-clause-counts g c =
    let ol = g.met.O.OutLane g.world.𝓛 g.world.𝓜 g.world.𝓡 (λ s x. x, λ x. x, λ x. x, λ x. x) in
    let il = g.met.I.InLane g.world.𝓛 g.world.𝓜 g.world.𝓡 (λ s x. x, λ x. x, λ x. x, λ x. x) in
    let k = laws g.O.OutLane g.I.InLane ol.same_itself ol.same_later il.same_itself il.same_later in
    counted_later k c.args.self.now.worker c.loop.self.worker c.attempt-answer.new.self.worker c.loop.invariant.counts c.attempt-answer.ensures.counts

pub returns-in-Some-clause-counts : goal.returns-in-Some-clause-counts
returns-in-Some-clause-counts g c =
    let ol = g.met.O.OutLane g.world.𝓛 g.world.𝓜 g.world.𝓡 (λ s x. x, λ x. x, λ x. x, λ x. x) in
    let il = g.met.I.InLane g.world.𝓛 g.world.𝓜 g.world.𝓡 (λ s x. x, λ x. x, λ x. x, λ x. x) in
    let k = laws g.O.OutLane g.I.InLane ol.same_itself ol.same_later il.same_itself il.same_later in
    let a = c.args.self.now in
    let l = c.loop.self in
    let j = c.if-is_due.self in
    let waited : Waited g.O.OutLane g.I.InLane a j = elim c.if-is_due.branch [
      | then-is_due+else-not-is_waiting w ↦
          let r = w.attempt-answer.result in
          let h = w.attempt-answer.ensures in
          let waiting : r ≡ Err refusals.Waiting = w.is_waiting.ensures w.if-not-is_waiting.false in
          let vain = waited_vain k a l w.attempt-answer.new.self r refusals.Waiting waiting c.loop.invariant h.keeps h.rests h.bounds h.counts (h.waits waiting) h.err in
          subst (Waited g.O.OutLane g.I.InLane a) (sym w.self-is) vain
      | else-is_due w ↦ subst (Waited g.O.OutLane g.I.InLane a) (sym w.self-is) c.loop.invariant
    ] in
    counted_later k a.worker j.worker c.wait.new.self.worker waited.counts c.wait.ensures.counts

pub returns-clause-counts : goal.returns-clause-counts
returns-clause-counts g c =
    let ol = g.met.O.OutLane g.world.𝓛 g.world.𝓜 g.world.𝓡 (λ s x. x, λ x. x, λ x. x, λ x. x) in
    let il = g.met.I.InLane g.world.𝓛 g.world.𝓜 g.world.𝓡 (λ s x. x, λ x. x, λ x. x, λ x. x) in
    let k = laws g.O.OutLane g.I.InLane ol.same_itself ol.same_later il.same_itself il.same_later in
    counted_later k c.args.self.now.worker c.loop.self.worker c.attempt.new.self.worker c.loop.invariant.counts c.attempt.ensures.counts

pub returns-in-Some-clause-keeps : goal.returns-in-Some-clause-keeps
returns-in-Some-clause-keeps g c =
    let ol = g.met.O.OutLane g.world.𝓛 g.world.𝓜 g.world.𝓡 (λ s x. x, λ x. x, λ x. x, λ x. x) in
    let il = g.met.I.InLane g.world.𝓛 g.world.𝓜 g.world.𝓡 (λ s x. x, λ x. x, λ x. x, λ x. x) in
    let k = laws g.O.OutLane g.I.InLane ol.same_itself ol.same_later il.same_itself il.same_later in
    let a = c.args.self.now in
    let l = c.loop.self in
    let j = c.if-is_due.self in
    let waited : Waited g.O.OutLane g.I.InLane a j = elim c.if-is_due.branch [
      | then-is_due+else-not-is_waiting w ↦
          let r = w.attempt-answer.result in
          let h = w.attempt-answer.ensures in
          let waiting : r ≡ Err refusals.Waiting = w.is_waiting.ensures w.if-not-is_waiting.false in
          let vain = waited_vain k a l w.attempt-answer.new.self r refusals.Waiting waiting c.loop.invariant h.keeps h.rests h.bounds h.counts (h.waits waiting) h.err in
          subst (Waited g.O.OutLane g.I.InLane a) (sym w.self-is) vain
      | else-is_due w ↦ subst (Waited g.O.OutLane g.I.InLane a) (sym w.self-is) c.loop.invariant
    ] in
    waited_keeps k a j c.wait.new.self waited c.wait.ensures.keeps

pub returns-in-Some-clause-bounds : goal.returns-in-Some-clause-bounds
returns-in-Some-clause-bounds g c =
    let ol = g.met.O.OutLane g.world.𝓛 g.world.𝓜 g.world.𝓡 (λ s x. x, λ x. x, λ x. x, λ x. x) in
    let il = g.met.I.InLane g.world.𝓛 g.world.𝓜 g.world.𝓡 (λ s x. x, λ x. x, λ x. x, λ x. x) in
    let k = laws g.O.OutLane g.I.InLane ol.same_itself ol.same_later il.same_itself il.same_later in
    let a = c.args.self.now in
    let l = c.loop.self in
    let j = c.if-is_due.self in
    let waited : Waited g.O.OutLane g.I.InLane a j = elim c.if-is_due.branch [
      | then-is_due+else-not-is_waiting w ↦
          let r = w.attempt-answer.result in
          let h = w.attempt-answer.ensures in
          let waiting : r ≡ Err refusals.Waiting = w.is_waiting.ensures w.if-not-is_waiting.false in
          let vain = waited_vain k a l w.attempt-answer.new.self r refusals.Waiting waiting c.loop.invariant h.keeps h.rests h.bounds h.counts (h.waits waiting) h.err in
          subst (Waited g.O.OutLane g.I.InLane a) (sym w.self-is) vain
      | else-is_due w ↦ subst (Waited g.O.OutLane g.I.InLane a) (sym w.self-is) c.loop.invariant
    ] in
    waited_bounds k a j c.wait.new.self waited c.wait.ensures.bounds

pub returns-in-Some-clause-rests : goal.returns-in-Some-clause-rests
returns-in-Some-clause-rests g c =
    let ol = g.met.O.OutLane g.world.𝓛 g.world.𝓜 g.world.𝓡 (λ s x. x, λ x. x, λ x. x, λ x. x) in
    let il = g.met.I.InLane g.world.𝓛 g.world.𝓜 g.world.𝓡 (λ s x. x, λ x. x, λ x. x, λ x. x) in
    let k = laws g.O.OutLane g.I.InLane ol.same_itself ol.same_later il.same_itself il.same_later in
    let a = c.args.self.now in
    let l = c.loop.self in
    let j = c.if-is_due.self in
    let waited : Waited g.O.OutLane g.I.InLane a j = elim c.if-is_due.branch [
      | then-is_due+else-not-is_waiting w ↦
          let r = w.attempt-answer.result in
          let h = w.attempt-answer.ensures in
          let waiting : r ≡ Err refusals.Waiting = w.is_waiting.ensures w.if-not-is_waiting.false in
          let vain = waited_vain k a l w.attempt-answer.new.self r refusals.Waiting waiting c.loop.invariant h.keeps h.rests h.bounds h.counts (h.waits waiting) h.err in
          subst (Waited g.O.OutLane g.I.InLane a) (sym w.self-is) vain
      | else-is_due w ↦ subst (Waited g.O.OutLane g.I.InLane a) (sym w.self-is) c.loop.invariant
    ] in
    waited_rests k a j c.wait.new.self waited c.wait.ensures.rests

pub returns-then-not-is_waiting-clause-cause : goal.returns-then-not-is_waiting-clause-cause
returns-then-not-is_waiting-clause-cause g c = c.attempt-answer.ensures.cause

pub returns-then-not-is_waiting-clause-takes : goal.returns-then-not-is_waiting-clause-takes
returns-then-not-is_waiting-clause-takes g c = c.attempt-answer.ensures.takes

pub returns-then-not-is_waiting-clause-tells : goal.returns-then-not-is_waiting-clause-tells
returns-then-not-is_waiting-clause-tells g c = c.attempt-answer.ensures.tells

pub returns-then-not-is_waiting-clause-keeps : goal.returns-then-not-is_waiting-clause-keeps
returns-then-not-is_waiting-clause-keeps g c =
    let ol = g.met.O.OutLane g.world.𝓛 g.world.𝓜 g.world.𝓡 (λ s x. x, λ x. x, λ x. x, λ x. x) in
    let il = g.met.I.InLane g.world.𝓛 g.world.𝓜 g.world.𝓡 (λ s x. x, λ x. x, λ x. x, λ x. x) in
    let k = laws g.O.OutLane g.I.InLane ol.same_itself ol.same_later il.same_itself il.same_later in
    waited_keeps k c.args.self.now c.loop.self c.attempt-answer.new.self c.loop.invariant c.attempt-answer.ensures.keeps

pub returns-clause-cause : goal.returns-clause-cause
returns-clause-cause g c = c.attempt.ensures.cause

pub returns-clause-takes : goal.returns-clause-takes
returns-clause-takes g c = c.attempt.ensures.takes

pub returns-clause-tells : goal.returns-clause-tells
returns-clause-tells g c = c.attempt.ensures.tells

pub returns-clause-keeps : goal.returns-clause-keeps
returns-clause-keeps g c =
    let ol = g.met.O.OutLane g.world.𝓛 g.world.𝓜 g.world.𝓡 (λ s x. x, λ x. x, λ x. x, λ x. x) in
    let il = g.met.I.InLane g.world.𝓛 g.world.𝓜 g.world.𝓡 (λ s x. x, λ x. x, λ x. x, λ x. x) in
    let k = laws g.O.OutLane g.I.InLane ol.same_itself ol.same_later il.same_itself il.same_later in
    waited_keeps k c.args.self.now c.loop.self c.attempt.new.self c.loop.invariant c.attempt.ensures.keeps

pub returns-then-not-is_waiting-clause-bounds : goal.returns-then-not-is_waiting-clause-bounds
returns-then-not-is_waiting-clause-bounds g c =
    let ol = g.met.O.OutLane g.world.𝓛 g.world.𝓜 g.world.𝓡 (λ s x. x, λ x. x, λ x. x, λ x. x) in
    let il = g.met.I.InLane g.world.𝓛 g.world.𝓜 g.world.𝓡 (λ s x. x, λ x. x, λ x. x, λ x. x) in
    let k = laws g.O.OutLane g.I.InLane ol.same_itself ol.same_later il.same_itself il.same_later in
    waited_bounds k c.args.self.now c.loop.self c.attempt-answer.new.self c.loop.invariant c.attempt-answer.ensures.bounds

pub returns-clause-bounds : goal.returns-clause-bounds
returns-clause-bounds g c =
    let ol = g.met.O.OutLane g.world.𝓛 g.world.𝓜 g.world.𝓡 (λ s x. x, λ x. x, λ x. x, λ x. x) in
    let il = g.met.I.InLane g.world.𝓛 g.world.𝓜 g.world.𝓡 (λ s x. x, λ x. x, λ x. x, λ x. x) in
    let k = laws g.O.OutLane g.I.InLane ol.same_itself ol.same_later il.same_itself il.same_later in
    waited_bounds k c.args.self.now c.loop.self c.attempt.new.self c.loop.invariant c.attempt.ensures.bounds
