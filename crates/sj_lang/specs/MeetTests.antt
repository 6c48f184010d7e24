-- Tests that compute whether two protocols meet.
use Rattle.std.specs.Prelude.{ℕ, ◌==◌, Bool, true, false, ◌&&◌, Option, Some, None, if◌then◌else◌}
use Rattle.sj_lang.specs.Place.{Place, Choices, done, message, choice, repeat, no_choice, arm}
use Rattle.sj_lang.specs.After.{at_label, is_same_way}
use Rattle.sj_lang.specs.Dual.{other_way, dual_of, dual_choices}
use Rattle.sj_lang.specs.Meet.{selecting}
use Rattle.sj_lang.specs.SamePlace.{is_same_carried}

-- there is such a place, and it passes
abbrev pub passes : (Place → Bool) → Option Place → Bool
passes test None = false
passes test (Some q) = test q

-- each label of the one choice is a label of the other, and that other arm passes
abbrev pub each_label : (ℕ → Place → Bool) → Choices → Choices → Bool
each_label test no_choice others = true
each_label test (arm l p arms) others = passes (test l) (at_label l others) && each_label test arms others

abbrev mutual
  pub meets : Place → Place → Bool
  meets done done = true
  meets (message w k rest) (message v l rest') = is_same_way v (other_way w) && is_same_carried k l && meets rest rest'
  meets (choice w arms rest) (choice v arms' rest') = is_same_way v (other_way w) && each_label (arm_meets arms) (selecting w arms arms') arms' && meets rest rest'
  meets (repeat w body rest) (repeat v body' rest') = is_same_way v (other_way w) && meets body body' && meets rest rest'
  meets _ _ = false

  -- the arm of that label meets the place
  pub arm_meets : Choices → ℕ → Place → Bool
  arm_meets no_choice l q = false
  arm_meets (arm m p arms) l q = if l == m then meets p q else arm_meets arms l q

abbrev pub stands_for : Place → Place → Bool
stands_for t s = meets (dual_of t) s

-- the place, or its dual where it is turned
abbrev pub seen : Bool → Place → Place
seen false p = p
seen true p = dual_of p

abbrev pub arms_seen : Bool → Choices → Choices
arms_seen false arms = arms
arms_seen true arms = dual_choices arms
