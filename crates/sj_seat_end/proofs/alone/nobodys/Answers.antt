use Rattle.std.proofs.Common.{◌≡◌, ◌+◌, ℕ, refl, arith, subst}
use Rattle.sj_seat_end.specs.Alone.{AreNobodys}
use Rattle.sj_seat_end.proofs.AloneLemmas.{no_nobodys, nobodys_more}
use Rattle.sj_seat_end.proofs.alone.nobodys.Goals as goal

pub loop-n-init : goal.loop-n-init
loop-n-init g c = no_nobodys _ c.new-codes.ensures.items

pub loop-n-preserved : goal.loop-n-preserved
loop-n-preserved g c = nobodys_more c.loop-n.n (c.loop-n.n + 1) c.loop-n.codes.items _ c.loop-n.invariant c.in_ok-push.ensures.items refl

pub returns : goal.returns
returns g c =
    let all : c.loop-n.n ≡ c.args.count = omega arith in
    subst (λ (n : ℕ). AreNobodys n c.loop-n.codes.items) all c.loop-n.invariant
