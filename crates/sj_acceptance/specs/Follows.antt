-- Which environment follows a statement, and which a block.
use Rattle.std.specs.Prelude.{◌≡◌, ℕ, List, [], ◌∷◌, Some}
use Rattle.sj_lang.specs.declared.party.Scalar.TheVariants as kinds
use Rattle.sj_lang.specs.declared.proto.Way.TheVariants.{Out, Into}
use Rattle.sj_lang.specs.Place.{Place, Choices, choice, repeat}
use Rattle.sj_lang.specs.After.{followed_by, at_label}
use Rattle.sj_lang.specs.Code.{Code, DeedAt, Branches, no_stmt, stmt_then, at, send, delegate, take_value, take_end, outbranch, inbranch, outwhile, inwhile, relay, if_else, let_be, close, request, accept, no_branch, branch}
use Rattle.sj_lang.specs.FileAt.{ProtocolAt, protocol_named}
use Rattle.sj_acceptance.specs.Environment.{Env, at_place, SameEnds, IsCommon}
use Rattle.sj_acceptance.specs.Kinds.{HasKind}
use Rattle.sj_acceptance.specs.Labels.{AreItsArms}
use Rattle.sj_acceptance.specs.Statements.{IsSend, IsDelegate, IsTakeValue, IsTakeEnd, IsOpening, IsSelect, IsLet, IsClose}

abbrev mutual
  -- the block leads from the one environment to the other, with these protocols and
  -- with parties of these names
  pub Follows : List ProtocolAt → List ℕ → Code → Env → Env → Type 0
  Follows ps parties no_stmt env next = env ≡ next
  Follows ps parties (stmt_then (at line act) code) env next = (mid : Env) × Does ps parties act env mid × Follows ps parties code mid next

  -- the statement does
  pub Does : List ProtocolAt → List ℕ → DeedAt → Env → Env → Type 0
  Does ps parties (send x e) env next = IsSend env x e next
  Does ps parties (delegate x y) env next = IsDelegate env x y next
  Does ps parties (take_value x n k) env next = IsTakeValue env x n k next
  Does ps parties (take_end x y p) env next = IsTakeEnd (protocol_named ps p) env x y next
  Does ps parties (outbranch x l) env next = IsSelect env x l next
  Does ps parties (inbranch x arms) env next =
      (choices : Choices) × (rest : Place) × (env.places x ≡ Some (choice Into choices rest)) × AreItsArms choices arms
      × (lasts : List Env) × EachArm ps parties x choices rest arms env lasts × IsCommon lasts next
  Does ps parties (outwhile x e body) env next =
      (inner : Place) × (rest : Place) × (env.places x ≡ Some (repeat Out inner rest)) × HasKind env.kinds e kinds.Int
      × (last : Env) × Follows ps parties body (at_place env x (followed_by inner (repeat Out inner rest))) last × SameEnds env last
      × (next ≡ at_place env x rest)
  Does ps parties (inwhile x body) env next =
      (inner : Place) × (rest : Place) × (env.places x ≡ Some (repeat Into inner rest))
      × (last : Env) × Follows ps parties body (at_place env x (followed_by inner (repeat Into inner rest))) last × SameEnds env last
      × (next ≡ at_place env x rest)
  Does ps parties (relay x y body) env next =
      (inner : Place) × (rest : Place) × (inner' : Place) × (rest' : Place)
      × (env.places x ≡ Some (repeat Into inner rest)) × (env.places y ≡ Some (repeat Out inner' rest'))
      × (last : Env)
      × Follows ps parties body (at_place (at_place env x (followed_by inner (repeat Into inner rest))) y (followed_by inner' (repeat Out inner' rest'))) last
      × SameEnds env last × (next ≡ at_place (at_place env x rest) y rest')
  Does ps parties (if_else e first second) env next =
      HasKind env.kinds e kinds.Boolean
      × (one : Env) × Follows ps parties first env one × (other : Env) × Follows ps parties second env other × IsCommon (one ∷ other ∷ []) next
  Does ps parties (let_be n e) env next = IsLet env n e next
  Does ps parties (close x) env next = IsClose env x next
  Does ps parties (request x p b) env next = IsOpening parties (protocol_named ps p) env x b next
  Does ps parties (accept x p b) env next = IsOpening parties (protocol_named ps p) env x b next

  -- each arm leads on from its label's place
  pub EachArm : List ProtocolAt → List ℕ → ℕ → Choices → Place → Branches → Env → List Env → Type 0
  EachArm ps parties x choices rest no_branch env lasts = lasts ≡ []
  EachArm ps parties x choices rest (branch l code arms) env lasts =
      (place : Place) × (at_label l choices ≡ Some place)
      × (last : Env) × Follows ps parties code (at_place env x (followed_by place rest)) last
      × (others : List Env) × EachArm ps parties x choices rest arms env others × (lasts ≡ last ∷ others)
