-- Sessions that parties open at run time.
use Rattle.std.specs.Prelude.{ℕ, zero, suc, ◌+◌, ◌*◌, ◌==◌, Bool, ◌&&◌, not, List, [], ◌∷◌, ◌++◌, Option, Some, None, is_some, option_map, if◌then◌else◌}
use Rattle.sj_lang.specs.Limits.{limits}
use Rattle.sj_semantics.specs.declared.Opened.{Opened}
use Rattle.sj_semantics.specs.Uses.{altered_list}

-- a party opens so many sessions at most
abbrev pub limit_of_requests : ℕ
limit_of_requests = 100

-- to which party a session was opened, under which name its requester has its end, and under which
-- name the other one was accepted
pub record Request : Type 0 where
  pub to : ℕ
  pub first : ℕ
  pub second : Option ℕ

-- what each party has requested, in order
abbrev pub Requests : Type 0
Requests = ℕ → List Request

-- nobody has requested anything
abbrev pub no_requests : Requests
no_requests p = []

-- the number of the session that party p opens after k others
abbrev pub opened_number : ℕ → ℕ → ℕ
opened_number p k = limits.connects + limit_of_requests * p + k

-- the request is to that party, which hasn't accepted it
abbrev pub is_offered : ℕ → Request → Bool
is_offered q r = (r.to == q) && not (is_some r.second)

-- of these requests the first that is offered to the party
abbrev pub first_offer : ℕ → List Request → Option ℕ
first_offer q [] = None
first_offer q (r ∷ rs) = if is_offered q r then Some 0 else option_map (λ k. suc k) (first_offer q rs)

-- the request when it has been accepted under that name
abbrev pub accepted_as : ℕ → Request → Request
accepted_as y r = record { to = r.to; first = r.first; second = Some y }

-- what a step does to requests: the party makes one, or it accepts, under a name, another
-- party's one of that number
pub data Opening : Type 0 where
  no_opening : Opening
  requests : Request → Opening
  accepts : ℕ → ℕ → ℕ → Opening

-- those of the one party, after an opening by another
abbrev pub requests_after : ℕ → Opening → ℕ → List Request → List Request
requests_after p no_opening a rs = rs
requests_after p (requests r) a rs = if a == p then rs ++ r ∷ [] else rs
requests_after p (accepts b k y) a rs = if a == b then altered_list rs k (accepted_as y) else rs

-- the requests after the party's opening
abbrev pub after_opening : ℕ → Opening → Requests → Requests
after_opening p o all a = requests_after p o a (all a)

-- ---- as they are reported

-- the sessions that the party opened, from its number k on
abbrev pub opened_by : ℕ → ℕ → List Request → List Opened
opened_by p k [] = []
opened_by p k (r ∷ rs) = record { sess = opened_number p k; from = p; first = r.first; to = r.to; second = r.second } ∷ opened_by p (k + 1) rs

-- those that n parties opened, from party p on
abbrev pub opened_from : Requests → ℕ → ℕ → List Opened
opened_from all zero p = []
opened_from all (suc n) p = opened_by p 0 (all p) ++ opened_from all n (p + 1)
