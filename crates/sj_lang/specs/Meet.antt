-- When two protocols meet: what the one sends, the other can take. Their
-- choices may differ in width.
use Rattle.std.specs.Prelude.{◌≡◌, ℕ, ◌==◌, true, false, ◌⊎◌, Some, is_some, ⊤}
use Rattle.sj_lang.specs.declared.proto.Way.{Way}
use Rattle.sj_lang.specs.declared.proto.Way.TheVariants.{Out, Into}
use Rattle.sj_lang.specs.Place.{Place, Choices, done, message, choice, repeat, no_choice, arm}
use Rattle.sj_lang.specs.After.{at_label}
use Rattle.sj_lang.specs.Dual.{other_way, dual_of}

-- which of two choices selects, where the first goes that way
abbrev pub selecting : Way → Choices → Choices → Choices
selecting Out arms others = arms
selecting Into arms others = others

-- each label of the one choice is a label of the other, and M holds of the
-- label and of that other arm
abbrev pub EachLabel : (ℕ → Place → Type 0) → Choices → Choices → Type 0
EachLabel M arms others = (l : ℕ) → is_some (at_label l arms) ≡ true → (q : Place) × (at_label l others ≡ Some q) × M l q

abbrev mutual
  -- the items meet in pairs, and the one protocol is as long as the other; what a selection can
  -- choose, a branching offers
  pub Meets : Place → Place → Type 0
  Meets done done = ⊤
  Meets (message w k rest) (message v l rest') = (v ≡ other_way w) × (k ≡ l) × Meets rest rest'
  Meets (choice w arms rest) (choice v arms' rest') = (v ≡ other_way w) × EachLabel (ArmMeets arms) (selecting w arms arms') arms' × Meets rest rest'
  Meets (repeat w body rest) (repeat v body' rest') = (v ≡ other_way w) × Meets body body' × Meets rest rest'
  Meets _ _ = ⊥

  -- the first arm of that label meets the place
  pub ArmMeets : Choices → ℕ → Place → Type 0
  ArmMeets no_choice l q = ⊥
  ArmMeets (arm m p arms) l q = (((l == m) ≡ true) × Meets p q) ⊎ (((l == m) ≡ false) × ArmMeets arms l q)

-- an end at the one place can stand where one at the other is wanted: what meets
-- the one's dual is the other
abbrev pub StandsFor : Place → Place → Type 0
StandsFor t s = Meets (dual_of t) s
