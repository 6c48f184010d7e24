use Rattle.std.proofs.Common.{◌≡◌, length, take, ap, sym, ◌∙◌}
use Rattle.std.proofs.lemmas.List.{with_items_is}
use Rattle.sj_acceptance.specs.Arms.{common}
use Rattle.sj_check.specs.Table.{kinds_in}
use Rattle.sj_check.proofs.TableLemmas.{at, one_kind, kinds_in-common}
use Rattle.sj_check.proofs.variables.Variables.keep_common.Goals as goal

pub returns : goal.returns
returns c =
    let a = c.self.inside.table.items in
    let b = c.other.inside.table.items in
    let cut : c.deref_mut.result.now ≡ take (length b) a =
    c.deref_mut.ensures.value ∙ c.truncate.ensures.items ∙ ap (λ n. take n a) (c.len.ensures ∙ sym c.deref.ensures.len ∙ ap length c.deref.ensures.value) in
    ap kinds_in (with_items_is c.truncate.new.self c.keep.new.table (c.keep.ensures.len ∙ c.deref_mut.ensures.len))
    ∙ kinds_in-common a b c.keep.new.table (λ q. c.keep.ensures.each q ∙ (λ i. one_kind (at (cut i) q) (at (c.deref.ensures.value i) q)))
    ∙ (λ i. common (c.self.view_is i) (c.other.view_is i))
