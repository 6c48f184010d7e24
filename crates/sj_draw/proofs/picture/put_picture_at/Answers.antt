use Rattle.std.proofs.Common.{◌≡◌, ◌++◌, ◌∙◌, ℕ, List, Bor, ap, map}
use Rattle.sj_draw.specs.declared.chart.Arrow.{Arrow}
use Rattle.sj_draw.specs.declared.style.TheConstants.{STYLE}
use Rattle.sj_draw.specs.Drawn.{arrows_text, foot_text, head_text, parties_text}
use Rattle.sj_draw.specs.Views.{arrow_at, chart_at}
use Rattle.sj_draw.proofs.TextLemmas.{five_ok}
use Rattle.sj_draw.proofs.picture.put_picture_at.Goals as goal

pub returns : goal.returns
returns c =
    let l = c.args.layout in let f = chart_at c.args.chart.now in let t0 = c.args.text.now.items in
    let t1 = c.put_head.new.text.items in let t2 = c.put.new.text.items in let t3 = c.put_parties.new.text.items in let t4 = c.put_arrows.new.text.items in
    let names = λ (xs : List (Bor (List ℕ))). map (λ (p : Bor (List ℕ)). p.now) xs in
    let ec : t3 ≡ t2 ++ parties_text l f.parties = c.in_ok-put_parties.ensures ∙ ap (λ (xs : List (Bor (List ℕ))). t2 ++ parties_text l (names xs)) c.deref.ensures.value in
    let ed : t4 ≡ t3 ++ arrows_text l.base f.parties 0 f.arrows =
    c.in_ok-put_arrows.ensures ∙ ap (λ (xs : List (Bor (List ℕ))). t3 ++ arrows_text l.base (names xs) 0 (map arrow_at c.deref-3.result.now)) c.deref-2.ensures.value
    ∙ ap (λ (xs : List Arrow). t3 ++ arrows_text l.base f.parties 0 (map arrow_at xs)) c.deref-3.ensures.value in
    five_ok t0 (head_text l) STYLE.now (parties_text l f.parties) (arrows_text l.base f.parties 0 f.arrows) (foot_text l) t1 t2 t3 t4
    c.in_ok-put_head.ensures c.in_ok-put.ensures.ok ec ed c.put_foot.result c.put_foot.new.text.items c.put_foot.ensures
