-- Each statement's step fits.
use Rattle.std.proofs.Common.{ℕ, List, [], ◌∷◌, refl}
use Rattle.sj_base.specs.declared.EndId.{EndId}
use Rattle.sj_lang.specs.Code.{DeedAt, send, delegate, take_value, take_end, outbranch, inbranch, outwhile, inwhile, relay, if_else, let_be, close, request, accept}
use Rattle.sj_semantics.specs.declared.Want.TheVariants as wants
use Rattle.sj_lang.specs.FileAt.{ProtocolAt}
use Rattle.sj_semantics.specs.Value.{Vars}
use Rattle.sj_semantics.specs.Program.{Thing, statement, turns, passing, Program}
use Rattle.sj_acceptance.specs.Environment.{Env}
use Rattle.sj_acceptance.specs.Follows.{Does}
use Rattle.sj_semantics.specs.Ends.{Session}
use Rattle.sj_headline_laws.proofs.KnownLemmas.{Forgets}
use Rattle.sj_headline_laws.proofs.NameLemmas.{Agrees}
use Rattle.sj_headline_laws.proofs.TypedLemmas.{DoesTodo, Continues, FitsProgram, StepOf}
use Rattle.sj_headline_laws.proofs.MessageStepLemmas.{send_step, delegate_step, take_value_step, take_end_step}
use Rattle.sj_headline_laws.proofs.FlatStepLemmas.{select_step, close_step, let_step, if_step}
use Rattle.sj_headline_laws.proofs.BranchStepLemmas.{inbranch_step}
use Rattle.sj_headline_laws.proofs.LoopStepLemmas.{outwhile_step, turns_step, inwhile_step}
use Rattle.sj_headline_laws.proofs.OpeningStepLemmas.{request_step, accept_step}
use Rattle.sj_headline_laws.proofs.RelayStepLemmas.{relay_step, passing_step}

going_on : (ps : List ProtocolAt) (parties : List ℕ) (rest : List Thing) (mid next : Env) → Forgets mid next → DoesTodo ps parties rest next → Continues ps parties rest mid
going_on ps parties rest mid next f d = record { next = next; forgets = f; does = d }

deed_step : (ps : List ProtocolAt) (parties : List ℕ) (zs : List Session) (vars : Vars) (ends : List (ℕ × EndId)) (steps : ℕ) (peers : List ℕ) (rest : List Thing) (env : Env) → (a : Agrees zs ends vars env)
    → (deed : DeedAt) (mid : Env) → Does ps parties deed env mid → Continues ps parties rest mid → StepOf ps parties zs (record { todo = statement deed ∷ rest; vars = vars; ends = ends; steps = steps; peers = peers })
deed_step ps parties zs vars ends steps peers rest env a (send x e) mid s c = send_step ps parties zs vars ends steps peers rest env a x e mid s c
deed_step ps parties zs vars ends steps peers rest env a (delegate x y) mid s c = delegate_step ps parties zs vars ends steps peers rest env a x y mid s c
deed_step ps parties zs vars ends steps peers rest env a (take_value x n k) mid s c = take_value_step ps parties zs vars ends steps peers rest env a x n k mid s c
deed_step ps parties zs vars ends steps peers rest env a (take_end x y p) mid s c = take_end_step ps parties zs vars ends steps peers rest env a x y p mid s c
deed_step ps parties zs vars ends steps peers rest env a (outbranch x l) mid s c = select_step ps parties zs vars ends steps peers rest env a x l mid s c
deed_step ps parties zs vars ends steps peers rest env a (inbranch x arms) mid s c = inbranch_step ps parties zs vars ends steps peers rest env a x arms mid s c
deed_step ps parties zs vars ends steps peers rest env a (outwhile x e body) mid s c = outwhile_step ps parties zs vars ends steps peers rest env a x e body mid s c
deed_step ps parties zs vars ends steps peers rest env a (inwhile x body) mid s c = inwhile_step ps parties zs vars ends steps peers rest env a x body mid s c
deed_step ps parties zs vars ends steps peers rest env a (relay x y body) mid s c = relay_step ps parties zs vars ends steps peers rest env a x y body mid s c
deed_step ps parties zs vars ends steps peers rest env a (if_else e first second) mid s c = if_step ps parties zs vars ends steps peers rest env a e first second mid s c
deed_step ps parties zs vars ends steps peers rest env a (let_be n e) mid s c = let_step ps parties zs vars ends steps peers rest env a n e mid s c
deed_step ps parties zs vars ends steps peers rest env a (close x) mid s c = close_step ps parties zs vars ends steps peers rest env a x mid s c
deed_step ps parties zs vars ends steps peers rest env a (request x p b) mid s c = request_step ps parties zs vars ends steps peers rest env a x p b mid s c
deed_step ps parties zs vars ends steps peers rest env a (accept x p b) mid s c = accept_step ps parties zs vars ends steps peers rest env a x p b mid s c

todo_step : (ps : List ProtocolAt) (parties : List ℕ) (zs : List Session) (vars : Vars) (ends : List (ℕ × EndId)) (steps : ℕ) (peers : List ℕ) (env : Env) → (a : Agrees zs ends vars env)
    → (todo : List Thing) → DoesTodo ps parties todo env → StepOf ps parties zs (record { todo = todo; vars = vars; ends = ends; steps = steps; peers = peers })
todo_step ps parties zs vars ends steps peers env a [] d = record { want = wants.Ended; wants_it = refl; step_fits = tt }
todo_step ps parties zs vars ends steps peers env a (statement deed ∷ rest) d = deed_step ps parties zs vars ends steps peers rest env a deed d.0 d.1.0 (going_on ps parties rest d.0 d.1.1.0 d.1.1.1.0 d.1.1.1.1)
todo_step ps parties zs vars ends steps peers env a (turns x n body ∷ rest) d = turns_step ps parties zs vars ends steps peers rest env a x n body d.0 (going_on ps parties rest _ d.1.0 d.1.1.0 d.1.1.1)
todo_step ps parties zs vars ends steps peers env a (passing x y more body ∷ rest) d = passing_step ps parties zs vars ends steps peers rest env a d.0 x y more body d.1.0 (going_on ps parties rest _ d.1.1.0 d.1.1.1.0 d.1.1.1.1)

-- a program that fits has a next step, and the step fits
pub fits_step : (ps : List ProtocolAt) (parties : List ℕ) (zs : List Session) (g : Program) → FitsProgram ps parties zs g → StepOf ps parties zs g
fits_step ps parties zs g f = todo_step ps parties zs g.vars g.ends g.steps g.peers f.env f.agrees g.todo f.does
