use Rattle.std.proofs.Common.{◌≡◌, ◌++◌, ◌∙◌, ℕ, List, Bor, OnOk, ap, ap₂, map, subst}
use Rattle.sj_draw.specs.Columns.{letters_of, tip_of, x_of}
use Rattle.sj_draw.specs.Drawn.{between_text, label_text, room_at, room_of, way_text}
use Rattle.sj_draw.specs.Views.{arrow_at}
use Rattle.sj_draw.proofs.TextLemmas.{three_ok}
use Rattle.sj_draw.proofs.arrows.put_arrow.Goals as goal

pub returns : goal.returns
returns c =
    let base = c.args.base in let k = c.args.k in let a = arrow_at c.args.arrow.now in
    let ps = map (λ (n : Bor (List ℕ)). n.now) c.args.names.now in
    let t1 = c.put_between.new.text.items in let t2 = c.put_way.new.text.items in let t3 = c.put_label.new.text.items in
    let start : c.x_of-start.result ≡ x_of base ps a.from = c.x_of-start.ensures.x in
    let tip : c.tip_of-tip.result ≡ tip_of base ps a.from a.to = c.tip_of-tip.ensures.x in
    let room : c.room_of-room.result ≡ room_at base ps a =
    c.room_of-room.ensures ∙ ap (λ (n : ℕ). room_of n a) (c.letters_of.ensures ∙ ap₂ (λ (s p : ℕ). letters_of base s p) start tip) in
    let way : t2 ≡ t1 ++ way_text (x_of base ps a.from) (tip_of base ps a.from a.to) k a =
    c.in_ok-put_way.ensures ∙ ap₂ (λ (s p : ℕ). t1 ++ way_text s p k a) start tip in
    three_ok c.put_label.result c.args.text.now.items (between_text k) (way_text (x_of base ps a.from) (tip_of base ps a.from a.to) k a)
    (label_text (room_at base ps a) a) t1 t2 t3 c.in_ok-put_between.ensures way
    (subst (λ (m : ℕ). OnOk c.put_label.result (t3 ≡ t2 ++ label_text m a)) room c.put_label.ensures)
