-- What is left, and damaged, over lanes of some kind.
use Rattle.std.proofs.Common.{ℕ, Bool, List}
use Rattle.sj_lang.specs.FileAt.{FileAt}
use Rattle.sj_lane.specs.declared.lane.OutLane.{Ghosts as OutLane}
use Rattle.sj_lane.specs.declared.lane.InLane.{Ghosts as InLane}
use Rattle.sj_rules.specs.Log.{LineAt}
use Rattle.sj_run.specs.declared.refusal.RunRefusal.{RunRefusal}
use Rattle.sj_run.specs.declared.refusal.RunRefusal.TheVariants as refusals
use Rattle.sj_run.specs.Damage.{IsDamagedSo}
use Rattle.sj_run.specs.Logged.{AreLogged}
use Rattle.sj_run.specs.Refusals.{IsDamagedOver}
use Rattle.sj_run.specs.Workers.{AreLoggedOver}
use Rattle.sj_run.proofs.LeftLemmas.{are_logged}

-- it is damage
pub damaged_so : {O I : Type 0} (outward : OutLane O) (inward : InLane I) (joined : O → I → Type 0) (file : FileAt) (looks : ℕ) (tells : Bool)
    (r : RunRefusal) → IsDamagedOver outward inward joined file looks tells r → IsDamagedSo file r
damaged_so outward inward joined file looks tells (refusals.Damaged m) d = d.damage
damaged_so outward inward joined file looks tells refusals.LinkFault d = tt {0}
damaged_so outward inward joined file looks tells refusals.NoMemory d = tt {0}

-- the lines are what the parties logged
pub logged_so : {O I : Type 0} (outward : OutLane O) (inward : InLane I) (joined : O → I → Type 0) (file : FileAt) (looks : ℕ) (tells : Bool)
    (lines : List LineAt) → AreLoggedOver outward inward joined file looks tells lines → AreLogged file lines
logged_so outward inward joined file looks tells lines l = are_logged outward inward joined file looks tells l.workers l.worked lines l.joins
