-- A program that fits an environment has a next step, and fits one again after it.
use Rattle.std.proofs.Common.{◌≡◌, ◌≢◌, ℕ, Bool, true, cond, List, [], ◌∷◌, Some, None, sym, subst}
use Rattle.std.specs.Bool.{⊤}
use Rattle.sj_base.specs.declared.EndId.{EndId}
use Rattle.sj_base.specs.declared.Msg.{Msg}
use Rattle.sj_base.specs.declared.Msg.TheVariants as msgs
use Rattle.sj_lang.specs.declared.proto.Way.TheVariants.{Out, Into}
use Rattle.sj_lang.specs.Place.{Place, done, message, repeat, session}
use Rattle.sj_lang.specs.After.{followed_by, after_place}
use Rattle.sj_lang.specs.Code.{Code, no_stmt, stmt_then, at}
use Rattle.sj_lang.specs.Meet.{StandsFor}
use Rattle.sj_semantics.specs.declared.Awaits.{Awaits}
use Rattle.sj_semantics.specs.declared.Awaits.TheVariants as awaits
use Rattle.sj_semantics.specs.declared.Want.{Want}
use Rattle.sj_semantics.specs.declared.Want.TheVariants as wants
use Rattle.sj_lang.specs.FileAt.{ProtocolAt, protocol_named, body_named, named}
use Rattle.sj_semantics.specs.Value.{Vars}
use Rattle.sj_semantics.specs.Program.{Thing, statement, turns, passing, Program, block}
use Rattle.sj_semantics.specs.Wants.{want_of}
use Rattle.sj_semantics.specs.Fitting.{fits_todo}
use Rattle.sj_semantics.specs.Steps.{local_of, sent_of, took_of, closed_of, opened_of, name_opened}
use Rattle.sj_acceptance.specs.Environment.{Env, at_place}
use Rattle.sj_acceptance.specs.Follows.{Follows, Does}
use Rattle.sj_semantics.specs.Balanced.{FitsNext}
use Rattle.sj_semantics.specs.Ends.{Session, end_at}
use Rattle.sj_headline_laws.proofs.KnownLemmas.{Forgets, forgets_none}
use Rattle.sj_headline_laws.proofs.NameLemmas.{Agrees}
use Rattle.sj_headline_laws.proofs.AgreeLemmas.{MovesTo, agrees_forgetting}

-- ---- what is left to do leads to no live end

-- an `outwhile` that was entered
pub record IsTurning (ps : List ProtocolAt) (parties : List ℕ) (env : Env) (x : ℕ) (body : Code) : Type 0 where
  pub inner : Place
  pub outer : Place
  pub there : env.places x ≡ Some (repeat Out inner outer)
  pub last : Env
  pub follows : Follows ps parties body (at_place env x (followed_by inner (repeat Out inner outer))) last
  pub back : Forgets last env

-- a `relay` that has taken more or stop, from the environment in which it began
pub record IsPassing (ps : List ProtocolAt) (parties : List ℕ) (base : Env) (x y : ℕ) (more : Bool) (body : Code) (env : Env) : Type 0 where
  pub inner : Place
  pub outer : Place
  pub inner' : Place
  pub outer' : Place
  pub there : base.places x ≡ Some (repeat Into inner outer)
  pub there' : base.places y ≡ Some (repeat Out inner' outer')
  pub last : Env
  pub follows : Follows ps parties body (at_place (at_place base x (followed_by inner (repeat Into inner outer))) y (followed_by inner' (repeat Out inner' outer'))) last
  pub back : Forgets last base
  pub now : env ≡ at_place base x (cond more (followed_by inner (repeat Into inner outer)) outer)

abbrev pub DoesTodo : List ProtocolAt → List ℕ → List Thing → Env → Type 0
DoesTodo ps parties [] env = (n : ℕ) → env.places n ≡ None
DoesTodo ps parties (statement a ∷ rest) env = (mid : Env) × (Does ps parties a env mid × ((next : Env) × (Forgets mid next × DoesTodo ps parties rest next)))
DoesTodo ps parties (turns x n body ∷ rest) env = (t : IsTurning ps parties env x body) × ((next : Env) × (Forgets (at_place env x t.outer) next × DoesTodo ps parties rest next))
DoesTodo ps parties (passing x y more body ∷ rest) env =
    (base : Env) × ((t : IsPassing ps parties base x y more body env) × ((next : Env) × (Forgets (at_place (at_place base x t.outer) y t.outer') next × DoesTodo ps parties rest next)))

-- the same, from an environment that may know more
pub record Continues (ps : List ProtocolAt) (parties : List ℕ) (todo : List Thing) (env : Env) : Type 0 where
  pub next : Env
  pub forgets : Forgets env next
  pub does : DoesTodo ps parties todo next

pub record FitsTodo (ps : List ProtocolAt) (parties : List ℕ) (zs : List Session) (todo : List Thing) (vars : Vars) (ends : List (ℕ × EndId)) : Type 0 where
  pub env : Env
  pub agrees : Agrees zs ends vars env
  pub does : DoesTodo ps parties todo env

abbrev pub FitsProgram : List ProtocolAt → List ℕ → List Session → Program → Type 0
FitsProgram ps parties zs g = FitsTodo ps parties zs g.todo g.vars g.ends

pub continues_fit : (ps : List ProtocolAt) (parties : List ℕ) (zs : List Session) (todo : List Thing) (vars : Vars) (ends : List (ℕ × EndId)) (env : Env) → Agrees zs ends vars env → Continues ps parties todo env → FitsTodo ps parties zs todo vars ends
continues_fit ps parties zs todo vars ends env a c = record { env = c.next; agrees = agrees_forgetting zs ends vars env c.next a c.forgets; does = c.does }

pub block_continues : (ps : List ProtocolAt) (parties : List ℕ) (code : Code) (rest : List Thing) (env last : Env) → Follows ps parties code env last → Continues ps parties rest last → Continues ps parties (block code rest) env
block_continues ps parties no_stmt rest env last f c = subst (Continues ps parties rest) (sym f) c
block_continues ps parties (stmt_then (at line a) code) rest env last f c =
    let d = block_continues ps parties code rest f.0 last f.2 c in
    record { next = env; forgets = forgets_none env; does = (f.0, (f.1, (d.next, (d.forgets, d.does)))) }

-- ---- what fits, by what the next step is

pub record SendFits (ps : List ProtocolAt) (parties : List ℕ) (zs : List Session) (g : Program) (e : EndId) (m : Msg) : Type 0 where
  pub name : ℕ
  pub is_named : named g.ends name ≡ Some e
  pub next : Place
  pub after : after_place (end_at zs e).place Out m ≡ Some next
  pub fits : FitsNext zs (end_at zs e).place m
  pub onward : (new : List Session) → MovesTo g.ends zs new name next → FitsProgram ps parties new (sent_of g)

pub record DelegateFits (ps : List ProtocolAt) (parties : List ℕ) (zs : List Session) (g : Program) (e y : EndId) : Type 0 where
  pub name : ℕ
  pub is_named : named g.ends name ≡ Some e
  pub sent_name : ℕ
  pub sent_named : named g.ends sent_name ≡ Some y
  pub two_names : sent_name ≡ name → ⊥
  pub next : Place
  pub kind : Place
  pub carries : (end_at zs e).place ≡ message Out (session kind) next
  pub stands : StandsFor (end_at zs y).place kind
  pub not_empty : kind ≢ done
  pub onward : (new : List Session) → MovesTo g.ends zs new name next → FitsProgram ps parties new (sent_of g)

-- a statement that takes an end names a protocol for whose body the end stands
abbrev pub StandsForBody : List ProtocolAt → List Session → Awaits → Msg → Type 0
StandsForBody ps zs (awaits.Session p) (msgs.Sess s d k) =
    (body : Place) × (protocol_named ps p ≡ Some body) × StandsFor (end_at zs (record { sess = s; side = d })).place body
StandsForBody ps zs _ _ = ⊤

-- and the end is at that body then
abbrev pub IsAtBody : List ProtocolAt → List Session → Awaits → Msg → Type 0
IsAtBody ps zs (awaits.Session p) (msgs.Sess s d k) = (end_at zs (record { sess = s; side = d })).place ≡ body_named ps p
IsAtBody ps zs _ _ = ⊤

pub record TakeFits (ps : List ProtocolAt) (parties : List ℕ) (zs : List Session) (g : Program) (e : EndId) (a : Awaits) (m : Msg) (next : Place) : Type 0 where
  pub name : ℕ
  pub is_named : named g.ends name ≡ Some e
  pub can_take : fits_todo g.todo m ≡ true
  pub stands : StandsForBody ps zs a m
  pub onward : (new : List Session) → MovesTo g.ends zs new name next → IsAtBody ps new a m → FitsProgram ps parties new (took_of g m)

-- the ends that have names keep their places
abbrev pub KeepsPlaces : List (ℕ × EndId) → List Session → List Session → Type 0
KeepsPlaces ends old new = (n : ℕ) (e : EndId) → named ends n ≡ Some e → (end_at new e).place ≡ (end_at old e).place

pub record OpeningFits (ps : List ProtocolAt) (parties : List ℕ) (zs : List Session) (g : Program) (p : ℕ) : Type 0 where
  pub exists : (body : Place) × (protocol_named ps p ≡ Some body)
  pub unused : named g.ends (name_opened g.todo) ≡ None
  pub onward : (new : List Session) (e : EndId) → KeepsPlaces g.ends zs new → (end_at new e).place ≡ body_named ps p → FitsProgram ps parties new (opened_of g e)

abbrev pub StepFits : List ProtocolAt → List ℕ → List Session → Program → Want → Type 0
StepFits ps parties zs g wants.Local = FitsProgram ps parties zs (local_of g)
StepFits ps parties zs g (wants.Send e m) = SendFits ps parties zs g e m
StepFits ps parties zs g (wants.Delegate e y) = DelegateFits ps parties zs g e y
StepFits ps parties zs g (wants.Take e a) = (m : Msg) (next : Place) → after_place (end_at zs e).place Into m ≡ Some next → FitsNext zs (end_at zs e).place m → TakeFits ps parties zs g e a m next
StepFits ps parties zs g (wants.Close e) = ((end_at zs e).place ≡ done) × FitsProgram ps parties zs (closed_of g)
StepFits ps parties zs g (wants.Request p q) = OpeningFits ps parties zs g p
StepFits ps parties zs g (wants.Accept p q) = OpeningFits ps parties zs g p
StepFits ps parties zs g wants.Ended = ⊤

-- the program isn't stuck, and its next step fits
pub record StepOf (ps : List ProtocolAt) (parties : List ℕ) (zs : List Session) (g : Program) : Type 0 where
  pub want : Want
  pub wants_it : want_of g ≡ Some want
  pub step_fits : StepFits ps parties zs g want
