use Rattle.std.proofs.Common.{◌==◌, List, map, refl, sym, ap, subst, ◌∙◌, true≢false}
use Rattle.std.specs.List.{list_all}
use Rattle.sj_core.specs.Views.{entry_at}
use Rattle.sj_end.specs.Lines.{line_at}
use Rattle.sj_end.specs.declared.note.Line.{Line}
use Rattle.sj_lang.specs.FileView.{file_of}
use Rattle.sj_rules.specs.Log.{IsRising}
use Rattle.sj_join.proofs.JoinLemmas.{falls_are_disorder, log_reads, others_are_disorder}
use Rattle.sj_join.proofs.logs.log_of.Goals as goal

pub returns-clause-log : goal.returns-clause-log
returns-clause-log c =
    log_reads (file_of c.args.file.now) c.args.party c.args.text.now c.in-Ok.lines.items c.in_ok-entries.entries.items c.in-Ok.ensures.ok
    (ap (list_all (λ l. l.party == c.args.party)) (sym c.deref.ensures.value) ∙ sym c.are_of.ensures ∙ c.if-not-are_of.false)
    (subst (λ (ls : List Line). IsRising 0 (map entry_at (map (λ l. l.entry) ls))) c.deref-2.ensures.value (c.rise.ensures.0 c.if-not-rise.false))
    (c.in_ok-entries.ensures ∙ ap (map (λ l. l.entry)) c.deref-3.ensures.value)

pub returns-then-not-are_of-clause-fault : goal.returns-then-not-are_of-clause-fault
returns-then-not-are_of-clause-fault c = (
  refl,
  (
    map line_at c.in-Ok.lines.items,
    c.in-Ok.ensures.ok,
    others_are_disorder c.args.party c.in-Ok.lines.items (ap (list_all (λ l. l.party == c.args.party)) (sym c.deref.ensures.value) ∙ sym c.are_of.ensures ∙ c.if-not-are_of.true),
  ),
)

pub returns-then-not-rise-clause-fault : goal.returns-then-not-rise-clause-fault
returns-then-not-rise-clause-fault c = (
  refl,
  (
    map line_at c.in-Ok.lines.items,
    c.in-Ok.ensures.ok,
    falls_are_disorder c.args.party c.in-Ok.lines.items
        (subst (λ (ls : List Line). IsRising 0 (map entry_at (map (λ l. l.entry) ls)) → ⊥) c.deref-2.ensures.value (λ rising. true≢false (sym (c.rise.ensures.1 rising) ∙ c.if-not-rise.true))),
  ),
)
