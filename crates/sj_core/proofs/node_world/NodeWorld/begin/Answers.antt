use Rattle.std.proofs.Common.{◌≡◌, ◌∙◌, List, map, ap, sym, subst}
use Rattle.sj_acceptance.specs.Accepted.{IsAccepted}
use Rattle.sj_check.specs.Held.{file_in as held}
use Rattle.sj_end.specs.declared.note.Line.{Line}
use Rattle.sj_end.specs.Lines.{line_at}
use Rattle.sj_lang.specs.FileAt.{FileAt}
use Rattle.sj_lang.specs.FileView.{file_of}
use Rattle.sj_lang.specs.declared.file.File.{File}
use Rattle.sj_plain.specs.SharedFile.{file_kept, without_words}
use Rattle.sj_rules.specs.Start.{core_start}
use Rattle.sj_core.specs.Nodes.{AreFirst}
use Rattle.sj_core.proofs.BeginLemmas.{begins, reached_first}
use Rattle.sj_core.proofs.FirstLemmas.{core_start_same}
use Rattle.sj_core.proofs.node_world.NodeWorld.begin.Goals as goal

pub returns-clause-file : goal.returns-clause-file
returns-clause-file c = ap (λ (f : File). without_words (file_of f)) c.in_ok-kept.ensures.value

pub returns-clause-reached : goal.returns-clause-reached
returns-clause-reached c =
    let file = file_of (held c.args.accepted.now) in
    let same : file_kept c.in_ok-kept.kept ≡ without_words file = ap (λ (f : File). without_words (file_of f)) c.in_ok-kept.ensures.value in
    let accepted = subst (λ (f : File). IsAccepted (file_of f)) c.in_ok-kept.ensures.value c.in_ok-kept.ensures.accepted in
    reached_first _ (record { file = file; accepted = accepted; same = same }) (subst (λ (f : FileAt). AreFirst f c.in_ok-nodes.nodes.items) (sym same) c.in_ok-nodes.ensures)
    (ap (λ (ls : List Line). map line_at ls) c.new-history.ensures.items)

pub returns-clause-world : goal.returns-clause-world
returns-clause-world c =
    let file = file_of (held c.args.accepted.now) in
    let same : file_kept c.in_ok-kept.kept ≡ without_words file = ap (λ (f : File). without_words (file_of f)) c.in_ok-kept.ensures.value in
    begins (file_kept c.in_ok-kept.kept) c.in_ok-nodes.nodes.items (subst (λ (f : FileAt). AreFirst f c.in_ok-nodes.nodes.items) (sym same) c.in_ok-nodes.ensures)
    ∙ ap core_start same ∙ core_start_same file
