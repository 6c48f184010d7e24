use Rattle.std.proofs.Common.{◌≡◌, ◌∙◌, ap, sym, arith, ◌∷◌, [], ◌++◌, List, ℕ, ◌+◌, length, max, take, nat_lt, if◌then◌else◌}
use Rattle.sj_seat_texts.proofs.OnceLemmas.{grown}
use Rattle.sj_seat_texts.proofs.texts.Texts.of.Goals as goal

pub loop-n-preserved : goal.loop-n-preserved
loop-n-preserved c = λ each.
    grown c.args.file.now each c.loop-n.n c.loop-n.n c.in_ok-number.field-0 c.in-Some.text.now c.number.new.self (sym c.in-Some.ensures) c.in_ok-number.ensures.number (omega arith)
    (c.in_ok-number.ensures.kept ∙ ap (λ (t : List (List ℕ)). if nat_lt c.in_ok-number.field-0 (length t) then t else t ++ c.in-Some.text.now ∷ []) (c.loop-n.invariant each))
    ∙ ap (λ j. take j c.args.file.now) (let e : max (c.loop-n.n + 1) c.loop-n.n ≡ c.loop-n.n + 1 = omega arith in e)
