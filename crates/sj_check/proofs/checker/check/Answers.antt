use Rattle.std.proofs.Common.{◌≡◌, ◌≢◌, ℕ, Option, None, refl}
use Rattle.sj_lang.specs.FileView.{file_of}
use Rattle.sj_acceptance_laws.proofs.FileLaws.{accepted_from, accepted_to}
use Rattle.sj_check.specs.declared.refusal.CheckRefusal.{CheckRefusal}
use Rattle.sj_check.specs.declared.refusal.CheckRefusal.TheVariants.{At, NoMemory}
use Rattle.sj_check.specs.Told.{Tells}
use Rattle.sj_check.proofs.checker.check.Goals as goal

-- a refusal that reports a fault is wrong where there is none
faultless : (o : Option (ℕ × ℕ)) (r : CheckRefusal) → Tells o r → r ≢ NoMemory → o ≡ None → ⊥
faultless o (At rule line) told other none = absurd (cc)
faultless o NoMemory told other none = other refl

pub returns-in-Ok-new-clause-accepted : goal.returns-in-Ok-new-clause-accepted
returns-in-Ok-new-clause-accepted c = accepted_from (file_of c.args.file) c.requires c.in-Ok.ensures.ok

pub returns-in-Err-clause-refused : goal.returns-in-Err-clause-refused
returns-in-Err-clause-refused c = λ other accepted. faultless _ c.in-Err.refusal c.in-Err.ensures.fault other (accepted_to (file_of c.args.file) accepted)
