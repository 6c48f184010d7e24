-- What a program knows after a step: its variables, and the names of its ends.
use Rattle.std.proofs.Common.{ℕ, ◌==◌, Bool, true, false, not, cond, List, [], ◌∷◌}
use Rattle.sj_base.specs.declared.EndId.{EndId}
use Rattle.sj_base.specs.declared.Msg.{Msg}
use Rattle.sj_base.specs.declared.Msg.TheVariants as msgs
use Rattle.sj_lang.specs.FileAt.{FileAt}
use Rattle.sj_lang.specs.Code.{send, delegate, take_value, take_end, outbranch, inbranch, outwhile, inwhile, relay, if_else, let_be, close, request, accept}
use Rattle.sj_semantics.specs.Value.{Vars, value_of, worth}
use Rattle.sj_semantics.specs.Program.{Thing, statement, turns, passing, ends_without, ends_with}
use Rattle.sj_semantics.specs.Steps.{vars_after_local, ends_after_sent, vars_after_took, ends_after_took, ends_after_closed}
use Rattle.sj_joined_lemmas.proofs.LateLemmas.{all_joined}
use Rattle.sj_log.specs.Legible.{IsEnd, IsMessage}
use Rattle.sj_legible_laws.proofs.CodeParts.{ThingsTold, VarsTold, EndsTold}
use Rattle.sj_legible_laws.proofs.ValueLemmas.{worth_told, assigned_told, carried_told}

module _ (file : FileAt) where
  without_told : (ends : List (ℕ × EndId)) (x : ℕ) → EndsTold file ends → EndsTold file (ends_without ends x)
  without_told [] x all = tt
  without_told (b ∷ ends) x all = by (b.0 == x) (without_told ends x all.1)
    where
      by : (t : Bool) → EndsTold file (ends_without ends x) → EndsTold file (cond (not t) (b ∷ ends_without ends x) (ends_without ends x))
      by true later = later
      by false later = (all.0, later)

  pub with_told : (ends : List (ℕ × EndId)) (x : ℕ) (e : EndId) → EndsTold file ends → IsEnd e → EndsTold file (ends_with ends x e)
  with_told ends x e all own = all_joined (λ b. IsEnd b.1) (ends_without ends x) ((x, e) ∷ []) (without_told ends x all) (own, tt)

  pub local_vars : (vars : Vars) (todo : List Thing) → VarsTold file vars → ThingsTold file todo → VarsTold file (vars_after_local vars todo)
  local_vars vars [] known told = known
  local_vars vars (statement (send x e) ∷ rest) known told = known
  local_vars vars (statement (delegate x y) ∷ rest) known told = known
  local_vars vars (statement (take_value x n k) ∷ rest) known told = known
  local_vars vars (statement (take_end x y p) ∷ rest) known told = known
  local_vars vars (statement (outbranch x l) ∷ rest) known told = known
  local_vars vars (statement (inbranch x arms) ∷ rest) known told = known
  local_vars vars (statement (outwhile x e body) ∷ rest) known told = known
  local_vars vars (statement (inwhile x body) ∷ rest) known told = known
  local_vars vars (statement (relay x y body) ∷ rest) known told = known
  local_vars vars (statement (if_else e first second) ∷ rest) known told = known
  local_vars vars (statement (let_be n e) ∷ rest) known told = assigned_told file vars n (worth vars e) known (λ v h. worth_told file vars e v known told.0 h)
  local_vars vars (statement (close x) ∷ rest) known told = known
  local_vars vars (statement (request x p b) ∷ rest) known told = known
  local_vars vars (statement (accept x p b) ∷ rest) known told = known
  local_vars vars (turns x n body ∷ rest) known told = known
  local_vars vars (passing x y more body ∷ rest) known told = known

  pub took_vars : (vars : Vars) (todo : List Thing) (m : Msg) → VarsTold file vars → IsMessage file m → VarsTold file (vars_after_took vars todo m)
  took_vars vars [] m known own = known
  took_vars vars (statement (send x e) ∷ rest) m known own = known
  took_vars vars (statement (delegate x y) ∷ rest) m known own = known
  took_vars vars (statement (take_value x n k) ∷ rest) m known own = assigned_told file vars n (value_of m) known (λ v h. carried_told file m v own h)
  took_vars vars (statement (take_end x y p) ∷ rest) m known own = known
  took_vars vars (statement (outbranch x l) ∷ rest) m known own = known
  took_vars vars (statement (inbranch x arms) ∷ rest) m known own = known
  took_vars vars (statement (outwhile x e body) ∷ rest) m known own = known
  took_vars vars (statement (inwhile x body) ∷ rest) m known own = known
  took_vars vars (statement (relay x y body) ∷ rest) m known own = known
  took_vars vars (statement (if_else e first second) ∷ rest) m known own = known
  took_vars vars (statement (let_be n e) ∷ rest) m known own = known
  took_vars vars (statement (close x) ∷ rest) m known own = known
  took_vars vars (statement (request x p b) ∷ rest) m known own = known
  took_vars vars (statement (accept x p b) ∷ rest) m known own = known
  took_vars vars (turns x n body ∷ rest) m known own = known
  took_vars vars (passing x y more body ∷ rest) m known own = known

  pub sent_ends : (ends : List (ℕ × EndId)) (todo : List Thing) → EndsTold file ends → EndsTold file (ends_after_sent ends todo)
  sent_ends ends [] all = all
  sent_ends ends (statement (send x e) ∷ rest) all = all
  sent_ends ends (statement (delegate x y) ∷ rest) all = without_told ends y all
  sent_ends ends (statement (take_value x n k) ∷ rest) all = all
  sent_ends ends (statement (take_end x y p) ∷ rest) all = all
  sent_ends ends (statement (outbranch x l) ∷ rest) all = all
  sent_ends ends (statement (inbranch x arms) ∷ rest) all = all
  sent_ends ends (statement (outwhile x e body) ∷ rest) all = all
  sent_ends ends (statement (inwhile x body) ∷ rest) all = all
  sent_ends ends (statement (relay x y body) ∷ rest) all = all
  sent_ends ends (statement (if_else e first second) ∷ rest) all = all
  sent_ends ends (statement (let_be n e) ∷ rest) all = all
  sent_ends ends (statement (close x) ∷ rest) all = all
  sent_ends ends (statement (request x p b) ∷ rest) all = all
  sent_ends ends (statement (accept x p b) ∷ rest) all = all
  sent_ends ends (turns x n body ∷ rest) all = all
  sent_ends ends (passing x y more body ∷ rest) all = all

  pub closed_ends : (ends : List (ℕ × EndId)) (todo : List Thing) → EndsTold file ends → EndsTold file (ends_after_closed ends todo)
  closed_ends ends [] all = all
  closed_ends ends (statement (send x e) ∷ rest) all = all
  closed_ends ends (statement (delegate x y) ∷ rest) all = all
  closed_ends ends (statement (take_value x n k) ∷ rest) all = all
  closed_ends ends (statement (take_end x y p) ∷ rest) all = all
  closed_ends ends (statement (outbranch x l) ∷ rest) all = all
  closed_ends ends (statement (inbranch x arms) ∷ rest) all = all
  closed_ends ends (statement (outwhile x e body) ∷ rest) all = all
  closed_ends ends (statement (inwhile x body) ∷ rest) all = all
  closed_ends ends (statement (relay x y body) ∷ rest) all = all
  closed_ends ends (statement (if_else e first second) ∷ rest) all = all
  closed_ends ends (statement (let_be n e) ∷ rest) all = all
  closed_ends ends (statement (close x) ∷ rest) all = without_told ends x all
  closed_ends ends (statement (request x p b) ∷ rest) all = all
  closed_ends ends (statement (accept x p b) ∷ rest) all = all
  closed_ends ends (turns x n body ∷ rest) all = all
  closed_ends ends (passing x y more body ∷ rest) all = all

  taken_end : (ends : List (ℕ × EndId)) (x y p : ℕ) (rest : List Thing) (m : Msg) → EndsTold file ends → IsMessage file m → EndsTold file (ends_after_took ends (statement (take_end x y p) ∷ rest) m)
  taken_end ends x y p rest (msgs.Sess s d k) all own = with_told ends y (record { sess = s; side = d }) all own.0
  taken_end ends x y p rest (msgs.Int n) all own = all
  taken_end ends x y p rest (msgs.Bool b) all own = all
  taken_end ends x y p rest (msgs.Text n) all own = all
  taken_end ends x y p rest (msgs.Label l) all own = all
  taken_end ends x y p rest (msgs.More b) all own = all

  pub took_ends : (ends : List (ℕ × EndId)) (todo : List Thing) (m : Msg) → EndsTold file ends → IsMessage file m → EndsTold file (ends_after_took ends todo m)
  took_ends ends [] m all own = all
  took_ends ends (statement (send x e) ∷ rest) m all own = all
  took_ends ends (statement (delegate x y) ∷ rest) m all own = all
  took_ends ends (statement (take_value x n k) ∷ rest) m all own = all
  took_ends ends (statement (take_end x y p) ∷ rest) m all own = taken_end ends x y p rest m all own
  took_ends ends (statement (outbranch x l) ∷ rest) m all own = all
  took_ends ends (statement (inbranch x arms) ∷ rest) m all own = all
  took_ends ends (statement (outwhile x e body) ∷ rest) m all own = all
  took_ends ends (statement (inwhile x body) ∷ rest) m all own = all
  took_ends ends (statement (relay x y body) ∷ rest) m all own = all
  took_ends ends (statement (if_else e first second) ∷ rest) m all own = all
  took_ends ends (statement (let_be n e) ∷ rest) m all own = all
  took_ends ends (statement (close x) ∷ rest) m all own = all
  took_ends ends (statement (request x p b) ∷ rest) m all own = all
  took_ends ends (statement (accept x p b) ∷ rest) m all own = all
  took_ends ends (turns x n body ∷ rest) m all own = all
  took_ends ends (passing x y more body ∷ rest) m all own = all
