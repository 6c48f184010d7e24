use Rattle.std.proofs.Common.{◌≡◌, ◌∙◌, ap, sym, subst, arith, ◌∷◌, [], ◌++◌, List, ℕ, suc, ◌+◌, ◌<◌, length, max, take, nat_lt, rules, if◌then◌else◌, slice_get}
use Rattle.sj_seat_texts.specs.Once.{IsEachOnce, with_words}
use Rattle.sj_seat_texts.proofs.AddLemmas.{added_next}
use Rattle.sj_seat_texts.proofs.OnceLemmas.{grown, there_within}
use Rattle.sj_seat_texts.proofs.texts.Texts.add_to.Goals as goal
use Rattle.sj_seat_texts.proofs.texts.Texts.add_to.Goals.{in-Some+in_ok-add, in_default}

pub loop-n-preserved : goal.loop-n-preserved
loop-n-preserved c =
    let view = c.self.view_is in
    let same : c.self.inside.all ≡ c.args.self.now = search (rules, view) in
    let n = c.loop-n.n in
    let far = max n (length c.args.table.now) in
    record {
      put = elim c.match-get.branch [
        | in-Some+in_ok-add w ↦
            w.table-is
            ∙ added_next c.args.table.now c.args.self.now n w.in-Some.text.now c.loop-n.table w.add.new.self w.in_ok-add.field-0
            (sym (w.in-Some.ensures ∙ ap (λ (t : List (List ℕ)). slice_get t n) same)) c.loop-n.invariant.put w.in_ok-add.ensures.index w.in_ok-add.ensures.kept
            ∙ ap (λ j. with_words c.args.table.now (take j c.args.self.now)) (let e : suc n ≡ n + 1 = omega arith in e)
        | in_default w ↦
            let within : n < length c.self.inside.all = omega (arith, c.loop-n-test.true, c.self.invariant.all) in
            absurd (there_within c.self.inside.all n within (sym w.in_default.ensures))
      ];
      file = λ more is. elim c.match-get.branch [
        | in-Some+in_ok-add w ↦
            w.table-is
            ∙ grown c.args.self.now (subst IsEachOnce same c.self.invariant.once) far n w.in_ok-add.field-0 w.in-Some.text.now w.add.new.self
            (sym (w.in-Some.ensures ∙ ap (λ (t : List (List ℕ)). slice_get t n) same)) w.in_ok-add.ensures.index (omega arith)
            (w.in_ok-add.ensures.kept ∙ ap (λ (t : List (List ℕ)). if nat_lt w.in_ok-add.field-0 (length t) then t else t ++ w.in-Some.text.now ∷ []) (c.loop-n.invariant.file more is))
            ∙ ap (λ j. take j c.args.self.now) (let e : max (n + 1) far ≡ max (n + 1) (length c.args.table.now) = omega arith in e)
        | in_default w ↦
            let within : n < length c.self.inside.all = omega (arith, c.loop-n-test.true, c.self.invariant.all) in
            absurd (there_within c.self.inside.all n within (sym w.in_default.ensures))
      ];
    }
