use Rattle.std.proofs.Common.{◌≡◌, ◌++◌, [], ◌∷◌, length, ap, sym, subst, ◌∙◌, length-append, arith}
use Rattle.std.specs.List.Sorted.{IsPermutation}
use Rattle.std.proofs.lemmas.List.Sorted.{IsPermutation-refl}
use Rattle.sj_steal.proofs.BackLemmas.{moves_last}
use Rattle.sj_steal.proofs.returns.pour.Goals as goal

pub loop-job-preserved : goal.loop-job-preserved
loop-job-preserved g c =
    let i = c.loop-job.invariant in
    let job = c.in-Some.job in
    let into = c.loop-job.into.items in
    let left = length-append c.pop.new.self.items (job ∷ []) in
    let was : length c.loop-job.from.items ≡ length (c.pop.new.self.items ++ job ∷ []) = ap length c.in-Some.ensures.items in
    let room = i.0 in
    let same = c.push_reserved.ensures.capacity in
    let more = c.push_reserved.ensures.len in (
      omega arith,
      same ∙ i.1,
      moves_last _ into c.push_reserved.new.self.items c.loop-job.from.items c.pop.new.self.items (job ∷ []) i.2 c.in-Some.ensures.items
          (subst (IsPermutation (into ++ job ∷ [])) (sym c.push_reserved.ensures.items) (IsPermutation-refl (into ++ job ∷ []))),
    )
