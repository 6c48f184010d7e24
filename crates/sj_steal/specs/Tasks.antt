-- Values as tasks of a pool.
use Rattle.std.specs.Prelude.{◌≡◌, ℕ, ◌<◌, List, length, slice_index_or}
use Rattle.sj_steal.specs.Runs.{Each2}
use Rattle.sj_steal.specs.declared.task.Task.{Task}

module _ {W F : Type 0} where
  abbrev pub value_of : Task W F → W
  value_of task = task.value

  -- the task is that call at that value
  abbrev pub IsTaskAt : F → W → Task W F → Type 0
  IsTaskAt call value task = (task.value ≡ value) × (task.call.now ≡ call)

  -- a task for each value, numbered from 0 on
  pub record AreTasks (call : F) (values : List W) (tasks : List (Task W F)) : Type 0 where
    pub each : Each2 (IsTaskAt call) values tasks
    pub numbers : (i : ℕ) (d : Task W F) → i < length tasks → (slice_index_or tasks i d).number ≡ i
