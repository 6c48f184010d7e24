use Rattle.std.proofs.Common.{◌≡◌, ℕ, rules, sym, subst}
use Rattle.sj_remote_run.specs.Asked.{Talked, sign_count}
use Rattle.sj_remote_run.proofs.TalkedLemmas.{talked_here}
use Rattle.sj_remote_run.proofs.sharing.sign_in.Goals as goal

pub returns-in_default-clause-talked : goal.returns-in_default-clause-talked
returns-in_default-clause-talked g c =
    let left = g.S.Source.left in
    let faults = g.S.Source.faults in
    let unwritten = g.K.Sink.faults in
    let a = c.args.conn.now in
    let none : sign_count c.args.password ≡ 0 = search rules in
    subst (λ (n : ℕ). Talked left faults unwritten n a a) (sym none) (talked_here left faults unwritten a)
