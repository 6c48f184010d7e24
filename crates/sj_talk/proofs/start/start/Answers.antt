use Rattle.std.proofs.Common.{◌≡◌, ◌<◌, ◌≤◌, ◌∙◌, ap, arith, length, map, subst, sym}
use Rattle.std.proofs.Math.ListN.{set}
use Rattle.std.proofs.lemmas.List.{length-map}
use Rattle.sj_lang.specs.FileView.{file_of}
use Rattle.sj_lang.specs.Limits.{limits}
use Rattle.sj_lang.specs.declared.file.File.{File}
use Rattle.sj_machine.specs.Sound.{program_at}
use Rattle.sj_semantics.specs.World.{start_of}
use Rattle.sj_plain.specs.Course.{world_in}
use Rattle.sj_plain.specs.Opened.{requests_in}
use Rattle.sj_talk.specs.Names.{connected_ends, spelled}
use Rattle.sj_talk.specs.Play.{ends_at}
use Rattle.sj_talk.specs.TalkWorld.{talk_start}
use Rattle.sj_talk.proofs.StartLemmas.{as_many, one_idle, set_many, set_ordered, talk_begun, world_begun}
use Rattle.sj_talk.proofs.start.start.Goals as goal

pub index_mut-requires : goal.index_mut-requires
index_mut-requires c =
    let file = file_of c.file-file.result.now in
    let course = c.in_ok-course.course in
    let begun : world_in course ≡ start_of file = c.in_ok-course.ensures.world ∙ ap (λ (f : File). start_of (file_of f)) (sym c.file-file.ensures.value) in
    let many : length (map program_at course.machines.items) ≡ length file.parties = as_many file (world_in course) begun in
    let there : c.args.party < length file.parties = subst (λ (f : File). c.args.party < length (file_of f).parties) (sym c.file-file.ensures.value) c.requires in
    omega (arith, many, there, length-map course.machines.items program_at)

pub returns-clause-start : goal.returns-clause-start
returns-clause-start c =
    let file = file_of c.file-file.result.now in
    let course = c.in_ok-course.course in
    let begun : world_in course ≡ start_of file = c.in_ok-course.ensures.world ∙ ap (λ (f : File). start_of (file_of f)) (sym c.file-file.ensures.value) in
    let ms = course.machines.items in
    let p = c.args.party in
    let many : length (map program_at ms) ≡ length file.parties = as_many file (world_in course) begun in
    let there : p < length file.parties = subst (λ (f : File). p < length (file_of f).parties) (sym c.file-file.ensures.value) c.requires in
    let low : p < length ms = omega (arith, many, there, length-map ms program_at) in
    let idle = one_idle file ms p c.in_ok-machine.machine c.index_mut.result.now low c.index_mut.ensures.value c.in_ok-machine.ensures in
    let ends : ends_at c.in_ok-ends.ends.items ≡ connected_ends file p =
    c.in_ok-ends.ensures ∙ ap (spelled file.words) c.deref.ensures.value ∙ ap (spelled file.words) c.in_ok-numbered.ensures in
    talk_begun file _ p _ _ c.in_ok-shown.ensures (world_begun file (world_in course) _ p begun idle) ends
    ∙ ap (λ (f : File). talk_start (file_of f) p) c.file-file.ensures.value

pub returns-clause-played : goal.returns-clause-played
returns-clause-played c =
    let file = file_of c.file-file.result.now in
    let course = c.in_ok-course.course in
    let begun : world_in course ≡ start_of file = c.in_ok-course.ensures.world ∙ ap (λ (f : File). start_of (file_of f)) (sym c.file-file.ensures.value) in
    let ms = course.machines.items in
    let m = c.in_ok-machine.machine in
    let many : length (map program_at ms) ≡ length file.parties = as_many file (world_in course) begun in
    let few : length (map program_at (set ms c.args.party m)) ≤ limits.parties = omega (arith, many, set_many ms c.args.party m, c.file-file.ensures.accepted.within.parties) in
    record {
      few = few;
      ordered = set_ordered ms c.args.party m course.opened.items (requests_in course.opened.items) c.in_ok-course.ensures.ordered;
      lines = omega arith;
    }
