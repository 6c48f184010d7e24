use Rattle.std.proofs.Common.{◌≡◌, ◌∙◌, ap, length, map, sym}
use Rattle.sj_lang.specs.FileAt.{body_named}
use Rattle.sj_lang.specs.FileView.{connect_of, file_of}
use Rattle.sj_check.specs.Held.{file_in as held}
use Rattle.sj_semantics.specs.World.{start_of}
use Rattle.sj_table.specs.Spots.{start_in}
use Rattle.sj_machine.specs.Sound.{program_at}
use Rattle.sj_plain.specs.Ends.{connected_session}
use Rattle.sj_plain.proofs.BeginLemmas.{world_starts}
use Rattle.sj_plain.proofs.OrderLemmas.{none_in_order}
use Rattle.sj_plain.proofs.course.Course.start.Goals as goal

pub returns-clause-world : goal.returns-clause-world
returns-clause-world c =
    let t = c.in_ok-table.table in
    let file = file_of (held c.args.accepted.now) in
    let lent : file_of c.file-file.result.now ≡ file = ap file_of c.file-file.ensures.value in
    world_starts file t _ _ _ _ (ap (λ f. (file_of f).protocols) c.in_ok-kept.ensures.value)
    (λ p. ap (λ u. start_in u p) c.in_ok-table.ensures ∙ c.table.ensures p ∙ ap (λ f. body_named (file_of f).protocols p) (sym c.in_ok-kept.ensures.value))
    (c.in_ok-machines.ensures ∙ ap (λ f. (start_of f).parties) lent)
    (c.in_ok-sessions.ensures ∙ ap (λ cs. map (connected_session t) (map connect_of cs)) c.deref.ensures.value ∙ ap (λ f. map (connected_session t) f.connects) lent) c.new.ensures.items

pub returns-clause-ordered : goal.returns-clause-ordered
returns-clause-ordered c = none_in_order c.new.result.items (length (map program_at c.in_ok-machines.machines.items)) c.new.ensures.items
