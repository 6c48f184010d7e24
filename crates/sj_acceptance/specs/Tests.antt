-- What each statement asks, in order, and what it leaves.
use Rattle.std.specs.Prelude.{ℕ, ◌==◌, ◌||◌, not, is_some, unwrap_or, List, [], ◌∷◌, ◌++◌}
use Rattle.std.specs.FinMap as map
use Rattle.sj_lang.specs.declared.proto.Way.TheVariants.{Out, Into}
use Rattle.sj_lang.specs.declared.party.Scalar.TheVariants.{Int, Boolean}
use Rattle.sj_lang.specs.Place.{done}
use Rattle.sj_lang.specs.Term.{Term}
use Rattle.sj_lang.specs.Code.{Code, StmtAt, DeedAt, Branches, no_stmt, stmt_then, at, send, delegate, take_value, take_end, outbranch, inbranch, outwhile, inwhile, relay, if_else, let_be, close, request, accept, no_branch, branch}
use Rattle.sj_lang.specs.FileAt.{ProtocolAt, protocol_named, body_named}
use Rattle.sj_lang.specs.After.{at_label}
use Rattle.sj_lang.specs.ItemCount.{is_done}
use Rattle.sj_acceptance.specs.EnvAt.{EnvAt, with_live, without_live, with_known, is_live, is_known, place_at}
use Rattle.sj_acceptance.specs.Arms.{common, is_one, common_env}
use Rattle.sj_acceptance.specs.Sameness.{is_same_kind, is_same_ends}
use Rattle.sj_acceptance.specs.Faults.{Test}
use Rattle.sj_acceptance.specs.KindTests.{kind_of, term_tests, is_free_for}
use Rattle.sj_acceptance.specs.FirstItem.{is_message, is_choice, is_loop, carried_kind, choices, rest_of, turn_of, arm_place, is_carried_as, is_session, is_session_of, stands_for_carried}
use Rattle.sj_acceptance.specs.Labels.{branch_labels}
use Rattle.sj_acceptance.specs.LabelTests.{are_labels_of, is_among}
use Rattle.sj_acceptance.specs.Rules.{no_protocol, no_party, name_in_use, not_there, other_action, other_kind, no_label, arms_differ, turn_differs, closed_early, not_to_delegate, other_arms}

-- what `if` asks before its arms
abbrev pub condition_tests : ℕ → EnvAt → Term → List Test
condition_tests line env e = term_tests line env.variables e ++ (other_kind, line, is_same_kind (kind_of env.variables e) Boolean) ∷ []

-- what `inbranch` asks before its arms
abbrev pub branching_tests : ℕ → EnvAt → ℕ → Branches → List Test
branching_tests line env x bs =
    (not_there, line, is_live env x) ∷ (other_action, line, is_choice Into (place_at env x))
    ∷ (other_arms, line, are_labels_of (choices (place_at env x)) (branch_labels bs)) ∷ []

-- what `request x p to b` and `accept x p from b` ask
abbrev pub opening_tests : List ProtocolAt → List ℕ → ℕ → EnvAt → ℕ → ℕ → ℕ → List Test
opening_tests ps parties line env x p b =
    (no_protocol, line, is_some (protocol_named ps p)) ∷ (no_party, line, is_among b parties)
    ∷ (name_in_use, line, not (is_live env x || is_known env x)) ∷ []

abbrev mutual
  -- what a block asks, with these protocols and with parties of these names, and what it
  -- leaves as if all had passed
  pub code_tests : List ProtocolAt → List ℕ → EnvAt → Code → List Test
  code_tests ps parties env no_stmt = []
  code_tests ps parties env (stmt_then s code) = stmt_tests ps parties env s ++ code_tests ps parties (after_stmt ps env s) code

  pub after_code : List ProtocolAt → EnvAt → Code → EnvAt
  after_code ps env no_stmt = env
  after_code ps env (stmt_then s code) = after_code ps (after_stmt ps env s) code

  pub stmt_tests : List ProtocolAt → List ℕ → EnvAt → StmtAt → List Test
  stmt_tests ps parties env (at line act) = deed_tests ps parties line env act

  pub after_stmt : List ProtocolAt → EnvAt → StmtAt → EnvAt
  after_stmt ps env (at line act) = after_deed ps env act

  pub deed_tests : List ProtocolAt → List ℕ → ℕ → EnvAt → DeedAt → List Test
  deed_tests ps parties line env (send x e) =
      (not_there, line, is_live env x) ∷ (other_action, line, is_message Out (place_at env x)) ∷ term_tests line env.variables e
      ++ (other_kind, line, is_carried_as (kind_of env.variables e) (carried_kind (place_at env x))) ∷ []
  deed_tests ps parties line env (delegate x y) =
      (not_there, line, is_live env x) ∷ (not_there, line, is_live env y) ∷ (not_to_delegate, line, not (x == y)) ∷ (other_action, line, is_message Out (place_at env x))
      ∷ (other_kind, line, is_session (carried_kind (place_at env x))) ∷ (not_to_delegate, line, not (is_done (place_at env y)))
      ∷ (other_kind, line, stands_for_carried (place_at env y) (carried_kind (place_at env x))) ∷ []
  deed_tests ps parties line env (take_value x n k) =
      (not_there, line, is_live env x) ∷ (other_action, line, is_message Into (place_at env x)) ∷ (other_kind, line, is_carried_as k (carried_kind (place_at env x)))
      ∷ (name_in_use, line, not (is_live env n)) ∷ (other_kind, line, is_free_for (map.get env.variables n) k) ∷ []
  deed_tests ps parties line env (take_end x y p) =
      (not_there, line, is_live env x) ∷ (no_protocol, line, is_some (protocol_named ps p)) ∷ (other_action, line, is_message Into (place_at env x))
      ∷ (other_kind, line, is_session_of (unwrap_or (protocol_named ps p) done) (carried_kind (place_at env x)))
      ∷ (name_in_use, line, not (is_live env y || is_known env y)) ∷ []
  deed_tests ps parties line env (outbranch x l) =
      (not_there, line, is_live env x) ∷ (other_action, line, is_choice Out (place_at env x)) ∷ (no_label, line, is_some (at_label l (choices (place_at env x)))) ∷ []
  deed_tests ps parties line env (inbranch x bs) =
      branching_tests line env x bs ++ branches_tests ps parties env x bs
      ++ (arms_differ, line, is_one (after_branches ps env x bs)) ∷ []
  deed_tests ps parties line env (outwhile x e body) =
      (not_there, line, is_live env x) ∷ (other_action, line, is_loop Out (place_at env x)) ∷ term_tests line env.variables e
      ++ (other_kind, line, is_same_kind (kind_of env.variables e) Int) ∷ code_tests ps parties (with_live env x (turn_of (place_at env x))) body
      ++ (turn_differs, line, is_same_ends env.ends (after_code ps (with_live env x (turn_of (place_at env x))) body).ends) ∷ []
  deed_tests ps parties line env (inwhile x body) =
      (not_there, line, is_live env x) ∷ (other_action, line, is_loop Into (place_at env x)) ∷ code_tests ps parties (with_live env x (turn_of (place_at env x))) body
      ++ (turn_differs, line, is_same_ends env.ends (after_code ps (with_live env x (turn_of (place_at env x))) body).ends) ∷ []
  deed_tests ps parties line env (relay x y body) =
      (not_there, line, is_live env x) ∷ (not_there, line, is_live env y) ∷ (other_action, line, is_loop Into (place_at env x)) ∷ (other_action, line, is_loop Out (place_at env y))
      ∷ code_tests ps parties (with_live (with_live env x (turn_of (place_at env x))) y (turn_of (place_at env y))) body
      ++ (turn_differs, line, is_same_ends env.ends (after_code ps (with_live (with_live env x (turn_of (place_at env x))) y (turn_of (place_at env y))) body).ends) ∷ []
  deed_tests ps parties line env (if_else e first second) =
      condition_tests line env e ++ code_tests ps parties env first
      ++ code_tests ps parties env second ++ (arms_differ, line, is_same_ends (after_code ps env first).ends (after_code ps env second).ends) ∷ []
  deed_tests ps parties line env (let_be n e) =
      term_tests line env.variables e
      ++ (name_in_use, line, not (is_live env n)) ∷ (other_kind, line, is_free_for (map.get env.variables n) (kind_of env.variables e)) ∷ []
  deed_tests ps parties line env (close x) = (not_there, line, is_live env x) ∷ (closed_early, line, is_done (place_at env x)) ∷ []
  deed_tests ps parties line env (request x p b) = opening_tests ps parties line env x p b
  deed_tests ps parties line env (accept x p b) = opening_tests ps parties line env x p b

  pub after_deed : List ProtocolAt → EnvAt → DeedAt → EnvAt
  after_deed ps env (send x e) = with_live env x (rest_of (place_at env x))
  after_deed ps env (delegate x y) = with_live (without_live env y) x (rest_of (place_at env x))
  after_deed ps env (take_value x n k) = with_known (with_live env x (rest_of (place_at env x))) n k
  after_deed ps env (take_end x y p) = with_live (with_live env x (rest_of (place_at env x))) y (unwrap_or (protocol_named ps p) done)
  after_deed ps env (outbranch x l) = with_live env x (arm_place l (place_at env x))
  after_deed ps env (inbranch x bs) = common_env (after_branches ps env x bs)
  after_deed ps env (outwhile x e body) = with_live env x (rest_of (place_at env x))
  after_deed ps env (inwhile x body) = with_live env x (rest_of (place_at env x))
  after_deed ps env (relay x y body) = with_live (with_live env x (rest_of (place_at env x))) y (rest_of (place_at env y))
  after_deed ps env (if_else e first second) =
      record { ends = (after_code ps env first).ends; variables = common (after_code ps env first).variables (after_code ps env second).variables }
  after_deed ps env (let_be n e) = with_known env n (kind_of env.variables e)
  after_deed ps env (close x) = without_live env x
  after_deed ps env (request x p b) = with_live env x (body_named ps p)
  after_deed ps env (accept x p b) = with_live env x (body_named ps p)

  -- the arms in order, each from its own place
  pub branches_tests : List ProtocolAt → List ℕ → EnvAt → ℕ → Branches → List Test
  branches_tests ps parties env x no_branch = []
  branches_tests ps parties env x (branch l code bs) = code_tests ps parties (with_live env x (arm_place l (place_at env x))) code ++ branches_tests ps parties env x bs

  pub after_branches : List ProtocolAt → EnvAt → ℕ → Branches → List EnvAt
  after_branches ps env x no_branch = []
  after_branches ps env x (branch l code bs) = after_code ps (with_live env x (arm_place l (place_at env x))) code ∷ after_branches ps env x bs
