-- What a course does by the acts of some relation between worlds.
use Rattle.std.specs.Prelude.{◌≡◌, ℕ, List, [], ◌∷◌, ◌++◌, Some}
use Rattle.sj_semantics.specs.World.{World, act_of}
use Rattle.sj_plain.specs.declared.course.Course.{Course}
use Rattle.sj_plain.specs.Course.{acts_in, world_in}

-- a relation between two worlds and the acts from the one to the other
abbrev pub Leads : Type 1
Leads = World → List ℕ → World → Type 0

-- nothing that contracts see has changed
pub record Stays (c d : Course) : Type 0 where
  pub world : world_in d ≡ world_in c
  pub listed : acts_in d ≡ acts_in c

-- the party acted once
pub record ActsOnce (c : Course) (p : ℕ) (d : Course) : Type 0 where
  pub act : act_of (world_in c) p ≡ Some (world_in d)
  pub listed : acts_in d ≡ acts_in c ++ p ∷ []

-- it went on by acts of that relation
pub record GoesBy (R : Leads) (c d : Course) : Type 0 where
  pub acts : List ℕ
  pub listed : acts_in d ≡ acts_in c ++ acts
  pub by : R (world_in c) acts (world_in d)

-- it went on by the first acts of that relation
pub record BreaksOff (R : Leads) (c d : Course) : Type 0 where
  pub acts : List ℕ
  pub listed : acts_in d ≡ acts_in c ++ acts
  pub rest : List ℕ
  pub last : World
  pub by : R (world_in c) (acts ++ rest) last

-- it went on by acts; after these, what S leads to is what R leads to from the beginning
pub record Ahead (R S : Leads) (c d : Course) : Type 0 where
  pub acts : List ℕ
  pub listed : acts_in d ≡ acts_in c ++ acts
  pub on : (ps : List ℕ) (v : World) → S (world_in d) ps v → R (world_in c) (acts ++ ps) v
