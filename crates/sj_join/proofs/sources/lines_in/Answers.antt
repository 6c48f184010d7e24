use Rattle.std.proofs.Common.{List, Vec, ℕ, map, ap, subst, ◌∙◌}
use Rattle.std.specs.declared.alloc.Global.{Global}
use Rattle.sj_lang.specs.FileView.{file_of}
use Rattle.sj_streams.specs.Views.{came_view}
use Rattle.sj_streams.specs.declared.replies.Came.{Came}
use Rattle.sj_join.specs.Finding.{NoLines, NoLogs}
use Rattle.sj_join.specs.Joins.{IsNoJoin}
use Rattle.sj_join.specs.Texts.{LackLines, texts_by}
use Rattle.sj_join.proofs.sources.lines_in.Goals as goal

pub returns-in-Err-texts_of-clause-refused : goal.returns-in-Err-texts_of-clause-refused
returns-in-Err-texts_of-clause-refused g c =
    NoLines (map came_view c.in-Ok.came.items) c.in-Ok.ensures.came
    (subst (λ (cs : List Came). LackLines (map came_view cs) c.args.parties c.in-Err-texts_of.e) c.deref.ensures.value c.in-Err-texts_of.ensures.lacks)

pub returns-clause-refused : goal.returns-clause-refused
returns-clause-refused g c =
    NoLogs (map came_view c.in-Ok.came.items) c.in-Ok.ensures.came
    (subst (λ (ts : List (List ℕ)). IsNoJoin (file_of c.args.file.now) ts c.in-Err-join_texts.e)
    (ap (map (λ (t : Vec ℕ Global). t.items)) c.deref-2.ensures.value ∙ c.in-Ok-texts_of.ensures.lines ∙ ap (λ (cs : List Came). texts_by (map came_view cs) c.args.parties) c.deref.ensures.value)
    c.in-Err-join_texts.ensures.fault)
