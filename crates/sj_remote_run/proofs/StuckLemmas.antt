-- A party that stops at a frame that fits no row.
use Rattle.std.proofs.Common.{◌≡◌, ℕ, Bool, List, Option, Result, Err, refl, subst}
use Rattle.std.specs.Result.{IfErr}
use Rattle.sj_remote.specs.declared.conn.Conn.{Conn}
use Rattle.sj_work.specs.declared.worker.Stop.{Stop}
use Rattle.sj_work.specs.declared.worker.Stop.TheVariants as stops
use Rattle.sj_remote_run.specs.Asked.{IsCause, IsInside, IsPlayCause}
use Rattle.sj_remote_run.specs.Refused.{QuestionAt}
use Rattle.sj_remote_run.specs.Stuck.{IsStuck, StopsUnfit}
use Rattle.sj_remote_run.specs.Turns.{outcome_by}
use Rattle.sj_remote_run.specs.declared.outcome.Outcome.{Outcome}
use Rattle.sj_remote_run.specs.declared.player.Player.{Player}
use Rattle.sj_remote_run.specs.declared.refusal.PlayRefusal.{PlayRefusal}
use Rattle.sj_remote_run.specs.declared.refusal.PlayRefusal.TheVariants as plays
use Rattle.sj_remote_run.proofs.CauseLemmas.{inside_cause}

module _ (old : Player) where
  pub inside_stuck : (e : PlayRefusal) → IsInside e → IsStuck old e
  inside_stuck plays.NoServer is = is
  inside_stuck plays.Password is = is
  inside_stuck plays.OtherFile is = is
  inside_stuck plays.Overtaken is = is
  inside_stuck plays.Server is = is
  inside_stuck plays.NoReply is = is
  inside_stuck plays.NoFrame is = is
  inside_stuck plays.Unfit is = absurd is
  inside_stuck plays.LogFault is = is
  inside_stuck plays.TooLong is = is
  inside_stuck plays.Lost is = is
  inside_stuck plays.NoMemory is = is

  -- it stands so by its stop
  pub stop_stuck : (s : Stop) (finished : Bool) (e : PlayRefusal) → outcome_by s finished ≡ Err e → (s ≡ stops.Unfit → StopsUnfit old) → IsStuck old e
  stop_stuck stops.Finished finished e is why = absurd cc
  stop_stuck stops.Idle finished e is why = absurd cc
  stop_stuck stops.AtLimit finished e is why = absurd cc
  stop_stuck stops.ClockEnd finished e is why = absurd cc
  stop_stuck stops.NoMemory finished e is why = subst (λ (r : Result Outcome PlayRefusal). IfErr r (IsStuck old)) is tt
  stop_stuck stops.Fault finished e is why = subst (λ (r : Result Outcome PlayRefusal). IfErr r (IsStuck old)) is tt
  stop_stuck stops.Unfit finished e is why = subst (λ (r : Result Outcome PlayRefusal). IfErr r (IsStuck old)) is (why refl)

module _ {S K : Type 0} (left : S → Option (List ℕ)) (faults : S → ℕ) (has_ended : S → Type 0) (unwritten : K → ℕ) (IsNext : QuestionAt → ℕ → Type 0) where
  pub stuck_cause : (Stuck : Type 0) (old : Player) (a c : Conn S K) (e : PlayRefusal) → IsStuck old e → (StopsUnfit old → Stuck) → IsPlayCause left faults has_ended unwritten IsNext Stuck a c e
  stuck_cause Stuck old a c plays.NoServer is why = inside_cause left faults has_ended unwritten IsNext a c plays.NoServer is
  stuck_cause Stuck old a c plays.Password is why = inside_cause left faults has_ended unwritten IsNext a c plays.Password is
  stuck_cause Stuck old a c plays.OtherFile is why = inside_cause left faults has_ended unwritten IsNext a c plays.OtherFile is
  stuck_cause Stuck old a c plays.Overtaken is why = inside_cause left faults has_ended unwritten IsNext a c plays.Overtaken is
  stuck_cause Stuck old a c plays.Server is why = inside_cause left faults has_ended unwritten IsNext a c plays.Server is
  stuck_cause Stuck old a c plays.NoReply is why = inside_cause left faults has_ended unwritten IsNext a c plays.NoReply is
  stuck_cause Stuck old a c plays.NoFrame is why = inside_cause left faults has_ended unwritten IsNext a c plays.NoFrame is
  stuck_cause Stuck old a c plays.Unfit is why = why is
  stuck_cause Stuck old a c plays.LogFault is why = inside_cause left faults has_ended unwritten IsNext a c plays.LogFault is
  stuck_cause Stuck old a c plays.TooLong is why = inside_cause left faults has_ended unwritten IsNext a c plays.TooLong is
  stuck_cause Stuck old a c plays.Lost is why = inside_cause left faults has_ended unwritten IsNext a c plays.Lost is
  stuck_cause Stuck old a c plays.NoMemory is why = inside_cause left faults has_ended unwritten IsNext a c plays.NoMemory is

  -- after some replies
  module _ (IsThen : QuestionAt → ℕ → Type 0) (Stuck Then : Type 0) (a b c : Conn S K) where
    pub play_later : (e : PlayRefusal) → IsPlayCause left faults has_ended unwritten IsNext Stuck b c e
        → ((d : PlayRefusal) → IsCause left faults has_ended unwritten IsNext b c d → IsCause left faults has_ended unwritten IsThen a c d) → (Stuck → Then) → IsPlayCause left faults has_ended unwritten IsThen Then a c e
    play_later plays.NoServer is later stuck = later plays.NoServer is
    play_later plays.Password is later stuck = later plays.Password is
    play_later plays.OtherFile is later stuck = later plays.OtherFile is
    play_later plays.Overtaken is later stuck = later plays.Overtaken is
    play_later plays.Server is later stuck = later plays.Server is
    play_later plays.NoReply is later stuck = later plays.NoReply is
    play_later plays.NoFrame is later stuck = later plays.NoFrame is
    play_later plays.Unfit is later stuck = stuck is
    play_later plays.LogFault is later stuck = later plays.LogFault is
    play_later plays.TooLong is later stuck = later plays.TooLong is
    play_later plays.Lost is later stuck = later plays.Lost is
    play_later plays.NoMemory is later stuck = later plays.NoMemory is
