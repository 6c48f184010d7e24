use Rattle.std.proofs.Common.{◌≡◌, ◌++◌, IfOk, List, ℕ, ap, subst, subst₂}
use Rattle.std.specs.Prelude.{codes, map}
use Rattle.sj_check.specs.Held.{file_in}
use Rattle.sj_lang.specs.FileAt.{FileAt}
use Rattle.sj_lang.specs.FileView.{file_of}
use Rattle.sj_semantics.specs.Lines.{name_of}
use Rattle.sj_forest.specs.Shape.{Tells}
use Rattle.sj_tool.specs.ForestTexts.{spaced_line}
use Rattle.sj_tool.proofs.ForestLemmas.{left_answer, opens_answer}
use Rattle.sj_tool.proofs.forests.forest_text.Goals as goal

pub returns-in-Opens : goal.returns-in-Opens
returns-in-Opens c =
    let file : FileAt = file_of (file_in c.args.accepted.now) in
    opens_answer (λ t. t.items) file c.in-Opens.line c.opens_text.result (subst (λ s. Tells file s) c.in-Opens.is c.in_ok-line.ensures.told) c.opens_text.ensures

pub returns-in-Cycle : goal.returns-in-Cycle
returns-in-Cycle c =
    let file : FileAt = file_of (file_in c.args.accepted.now) in
    left_answer (λ t. t.items) file c.in-Cycle.parties.items c.left_text.result (subst (λ s. Tells file s) c.in-Cycle.is c.in_ok-line.ensures.told)
    (subst₂ (λ (f : FileAt) (ns : List ℕ). IfOk c.left_text.result (λ t. t.items ≡ codes "forest no" ++ spaced_line (map (name_of f) ns))) (ap file_of c.file.ensures.value) c.deref.ensures.value
    c.left_text.ensures)
