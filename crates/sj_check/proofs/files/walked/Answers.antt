use Rattle.std.proofs.Common.{List, ◌≡◌, sym, subst, ◌∙◌}
use Rattle.sj_lang.specs.FileView.{file_of}
use Rattle.std.proofs.lemmas.Result.{err_from_is_err_and}
use Rattle.std.specs.Prelude.{Result, Ok, Err}
use Rattle.sj_acceptance.specs.Faults.{Test, first_fault}
use Rattle.sj_acceptance.specs.FileTests.{tests_of, opening_tests}
use Rattle.sj_check.specs.declared.refusal.CheckRefusal.{CheckRefusal}
use Rattle.sj_check.specs.Told.{Tells, Judges}
use Rattle.sj_check.proofs.BodyLemmas.{in_bodies, in_openings}
use Rattle.sj_check.proofs.files.walked.Goals as goal

pub returns-in_err-bodies : goal.returns-in_err-bodies
returns-in_err-bodies c = let p = err_from_is_err_and c.from_residual-in_err-bodies.result c.from_residual-in_err-bodies.ensures.1 in rw (p.1, p.2) (in_bodies (file_of c.args.file.now) (rw c.deref.ensures.value at c.in_ok-protocols_apart.ensures.tests) (rw c.deref-2.ensures.value at c.in_ok-parties_apart.ensures.tests)
    (rw (c.deref-3.ensures.value, c.deref-4.ensures.value, c.deref-5.ensures.value) at c.in_ok-connections.ensures) _
    (rw (c.over-protocols.ensures.defs, c.over-protocols.ensures.parties, c.deref-6.ensures.value, c.deref-7.ensures.value, c.deref-8.ensures.value, c.deref-9.ensures.value) at c.in_err-bodies.ensures))

-- tests with one first fault are judged alike
alike : (xs ys : List Test) (r : Result (Unit {0}) CheckRefusal) → first_fault xs ≡ first_fault ys → Judges ys r → Judges xs r
alike xs ys (Ok x) e h = e ∙ h
alike xs ys (Err x) e h = subst (λ f. Tells f x) (sym e) h

pub returns : goal.returns
returns c =
    let f = file_of c.args.file.now in
    alike (tests_of f) (opening_tests f.protocols f.parties f.parties) c.openings_meet.result (in_openings (file_of c.args.file.now) (rw c.deref.ensures.value at c.in_ok-protocols_apart.ensures.tests) (rw c.deref-2.ensures.value at c.in_ok-parties_apart.ensures.tests)
    (rw (c.deref-3.ensures.value, c.deref-4.ensures.value, c.deref-5.ensures.value) at c.in_ok-connections.ensures)
    (rw (c.over-protocols.ensures.defs, c.over-protocols.ensures.parties, c.deref-6.ensures.value, c.deref-7.ensures.value, c.deref-8.ensures.value, c.deref-9.ensures.value) at c.in_ok-bodies.ensures))
    (rw (c.deref-10.ensures.value, c.deref-11.ensures.value) at c.openings_meet.ensures)

pub over-protocols-requires : goal.over-protocols-requires
over-protocols-requires c = rw (c.deref-6.ensures.value) c.requires.starts
