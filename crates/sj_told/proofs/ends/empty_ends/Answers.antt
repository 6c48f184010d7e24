use Rattle.std.proofs.Common.{◌≡◌, ◌+◌, ◌*◌, List, subst, sym, arith}
use Rattle.sj_told.specs.declared.told.ToldEnd.{ToldEnd}
use Rattle.sj_told.specs.Lines.{AreEmpty}
use Rattle.sj_told.proofs.TellLemmas.{none_empty, one_empty}
use Rattle.sj_told.proofs.ends.empty_ends.Goals as goal

pub loop-sess-init : goal.loop-sess-init
loop-sess-init c = subst (λ (xs : List ToldEnd). AreEmpty 0 xs) (sym c.new-ends.ensures.items) none_empty

pub loop-sess-preserved : goal.loop-sess-preserved
loop-sess-preserved c =
    let k = 2 * c.loop-sess.sess in
    let first = subst (λ (xs : List ToldEnd). AreEmpty (k + 1) xs) (sym c.in_ok-push.ensures.items) (one_empty k (k + 1) c.loop-sess.ends.items c.empty_end-first.result (omega arith) c.loop-sess.invariant c.empty_end-first.ensures) in
    subst (λ (xs : List ToldEnd). AreEmpty (2 * (c.loop-sess.sess + 1)) xs) (sym c.in_ok-push-2.ensures.items)
    (one_empty (k + 1) (2 * (c.loop-sess.sess + 1)) c.push.new.self.items c.empty_end-second.result (omega arith) first c.empty_end-second.ensures)

pub returns : goal.returns
returns c =
    let all : c.loop-sess.sess ≡ c.args.connects = omega arith in
    subst (λ n. AreEmpty (2 * n) c.loop-sess.ends.items) all c.loop-sess.invariant
