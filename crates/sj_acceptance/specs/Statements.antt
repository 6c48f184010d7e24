-- What a statement without a block needs, and which environment it leaves.
use Rattle.std.specs.Prelude.{◌≡◌, ◌≢◌, ℕ, List, Contains, Option, Some}
use Rattle.sj_lang.specs.declared.party.Scalar.{Scalar}
use Rattle.sj_lang.specs.declared.proto.Way.TheVariants.{Out, Into}
use Rattle.sj_lang.specs.Place.{Place, Choices, done, message, choice, session}
use Rattle.sj_lang.specs.After.{followed_by, at_label}
use Rattle.sj_lang.specs.Meet.{StandsFor}
use Rattle.sj_lang.specs.Term.{Term}
use Rattle.sj_acceptance.specs.Environment.{Env, at_place, without_end, with_kind, IsFreeFor, IsUnused}
use Rattle.sj_acceptance.specs.Kinds.{carried_by, HasKind}

-- `send x e`
pub record IsSend (env : Env) (x : ℕ) (e : Term) (next : Env) : Type 0 where
  pub kind : Scalar
  pub rest : Place
  pub there : env.places x ≡ Some (message Out (carried_by kind) rest)
  pub typed : HasKind env.kinds e kind
  pub leaves : next ≡ at_place env x rest

-- `delegate x y`
pub record IsDelegate (env : Env) (x y : ℕ) (next : Env) : Type 0 where
  pub place : Place
  pub own : Place
  pub rest : Place
  pub two_names : x ≢ y
  pub there : env.places x ≡ Some (message Out (session place) rest)
  pub sent : env.places y ≡ Some own
  pub stands : StandsFor own place
  pub not_empty : place ≢ done
  pub leaves : next ≡ without_end (at_place env x rest) y

-- `recv x n int`, `recv x n boolean` and `recv x n String`
pub record IsTakeValue (env : Env) (x n : ℕ) (k : Scalar) (next : Env) : Type 0 where
  pub rest : Place
  pub there : env.places x ≡ Some (message Into (carried_by k) rest)
  pub free : IsFreeFor env n k
  pub leaves : next ≡ with_kind (at_place env x rest) n k

-- `recv x y session p`, where p has that body
pub record IsTakeEnd (body : Option Place) (env : Env) (x y : ℕ) (next : Env) : Type 0 where
  pub place : Place
  pub rest : Place
  pub exists : body ≡ Some place
  pub there : env.places x ≡ Some (message Into (session place) rest)
  pub unused : IsUnused env y
  pub leaves : next ≡ at_place (at_place env x rest) y place

-- `request x p to b` and `accept x p from b`, where p has that body and the
-- parties have these names
pub record IsOpening (parties : List ℕ) (body : Option Place) (env : Env) (x b : ℕ) (next : Env) : Type 0 where
  pub place : Place
  pub unused : IsUnused env x
  pub exists : body ≡ Some place
  pub party : Contains parties b
  pub leaves : next ≡ at_place env x place

-- `outbranch x l`
pub record IsSelect (env : Env) (x l : ℕ) (next : Env) : Type 0 where
  pub arms : Choices
  pub rest : Place
  pub arm_place : Place
  pub there : env.places x ≡ Some (choice Out arms rest)
  pub labelled : at_label l arms ≡ Some arm_place
  pub leaves : next ≡ at_place env x (followed_by arm_place rest)

-- `let n = e`
pub record IsLet (env : Env) (n : ℕ) (e : Term) (next : Env) : Type 0 where
  pub kind : Scalar
  pub typed : HasKind env.kinds e kind
  pub free : IsFreeFor env n kind
  pub leaves : next ≡ with_kind env n kind

-- `close x`
pub record IsClose (env : Env) (x : ℕ) (next : Env) : Type 0 where
  pub there : env.places x ≡ Some done
  pub leaves : next ≡ without_end env x
