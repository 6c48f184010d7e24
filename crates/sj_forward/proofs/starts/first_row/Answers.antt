use Rattle.std.proofs.Common.{List, [], ◌∷◌, ◌++◌, ap, refl, ◌∙◌}
use Rattle.sj_lang.specs.FileView.{connect_of}
use Rattle.sj_forward.specs.declared.slot.Slot.{Slot}
use Rattle.sj_forward.proofs.StartLemmas.{row_first}
use Rattle.sj_forward.proofs.starts.first_row.Goals as goal

pub returns : goal.returns
returns c = λ file sess all.
    let first = c.in_ok-first.first in
    let second = c.in_ok-second.second in
    let connect = connect_of c.args.connect in
    row_first file c.args.party sess connect first second _
    (c.in_ok-push-2.ensures.items ∙ ap (λ (xs : List Slot). xs ++ second ∷ []) (c.in_ok-push.ensures.items ∙ ap (λ (xs : List Slot). xs ++ first ∷ []) c.new-row.ensures.items))
    (c.in_ok-first.ensures file (record { sess = sess; side = 0 }) connect all refl refl) (c.in_ok-second.ensures file (record { sess = sess; side = 1 }) connect all refl refl)
