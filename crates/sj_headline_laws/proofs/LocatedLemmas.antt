-- Where each open end is: bound at a party, or named by a message on its way.
use Rattle.std.proofs.Common.{◌≡◌, ℕ, true, List, [], ◌∷◌, Option, Some, None, option_map, option_and_then, refl, ap, sym, ◌∙◌, subst}
use Rattle.std.specs.Bool.{⊤}
use Rattle.sj_base.specs.declared.EndId.{EndId}
use Rattle.sj_base.specs.declared.Msg.{Msg}
use Rattle.sj_base.specs.declared.Msg.TheVariants as msgs
use Rattle.sj_lang.specs.declared.party.Scalar.{Scalar}
use Rattle.sj_lang.specs.declared.party.Scalar.TheVariants as kinds
use Rattle.sj_lang.specs.Code.{DeedAt, Branches, send, delegate, take_value, take_end, outbranch, inbranch, outwhile, inwhile, relay, if_else, let_be, close, request, accept, no_branch, branch}
use Rattle.sj_semantics.specs.declared.Want.{Want}
use Rattle.sj_semantics.specs.declared.Want.TheVariants as wants
use Rattle.sj_semantics.specs.declared.Awaits.{Awaits}
use Rattle.sj_lang.specs.FileAt.{ProtocolAt, named}
use Rattle.sj_semantics.specs.Value.{Vars, message_of, worth, truth_of, turns_of}
use Rattle.sj_semantics.specs.Fitting.{is_of_kind, names_arm, fits_todo}
use Rattle.sj_acceptance.specs.Environment.{Env}
use Rattle.sj_semantics.specs.Program.{Thing, statement, turns, passing, Program, ends_without}
use Rattle.sj_semantics.specs.Wants.{want_send, want_delegate, want_take, more_turns, want_of_deed, want_of_todo, want_of}
use Rattle.sj_semantics.specs.Steps.{ends_after_sent, ends_after_took, ends_after_closed}
use Rattle.sj_semantics.specs.Ends.{Session, end_at}
use Rattle.sj_headline_laws.proofs.NameLemmas.{Agrees, named-bound_same, named-bound_other}
use Rattle.sj_headline_laws.proofs.TypedLemmas.{DoesTodo}
use Rattle.sj_headline_laws.proofs.TouchedLemmas.{side}

-- what a step does to the names of ends, by what it wants
abbrev pub EndsGo : List (ℕ × EndId) → List Thing → Want → Type 0
EndsGo ends todo (wants.Send e m) = ends_after_sent ends todo ≡ ends
EndsGo ends todo (wants.Delegate e y) = (n : ℕ) × (named ends n ≡ Some y) × (ends_after_sent ends todo ≡ ends_without ends n)
EndsGo ends todo (wants.Close e) = (n : ℕ) × (named ends n ≡ Some e) × (ends_after_closed ends todo ≡ ends_without ends n)
EndsGo ends todo (wants.Request p q) = ⊤
EndsGo ends todo (wants.Accept p q) = ⊤
EndsGo ends todo wants.Ended = todo ≡ []
EndsGo ends todo wants.Local = ⊤
EndsGo ends todo (wants.Take e a) = ⊤

abbrev EndsGoIf : List (ℕ × EndId) → List Thing → Option Want → Type 0
EndsGoIf ends todo None = ⊤
EndsGoIf ends todo (Some want) = EndsGo ends todo want

send_go : (ends : List (ℕ × EndId)) (todo : List Thing) (o : Option EndId) (m : Option Msg) → ends_after_sent ends todo ≡ ends → EndsGoIf ends todo (want_send o m)
send_go ends todo (Some e) (Some m) h = h
send_go ends todo (Some e) None h = tt
send_go ends todo None (Some m) h = tt
send_go ends todo None None h = tt

take_go : (ends : List (ℕ × EndId)) (todo : List Thing) (o : Option EndId) (a : Awaits) → EndsGoIf ends todo (want_take o a)
take_go ends todo (Some e) a = tt
take_go ends todo None a = tt

local_go : {X : Type 0} (ends : List (ℕ × EndId)) (todo : List Thing) (o : Option X) → EndsGoIf ends todo (option_map (λ v. wants.Local) o)
local_go ends todo (Some x) = tt
local_go ends todo None = tt

close_go : (ends : List (ℕ × EndId)) (x : ℕ) (rest : List Thing) (o : Option EndId) → named ends x ≡ o → EndsGoIf ends (statement (close x) ∷ rest) (option_map wants.Close o)
close_go ends x rest (Some e) h = (x, h, refl)
close_go ends x rest None h = tt

delegate_go : (ends : List (ℕ × EndId)) (x y : ℕ) (rest : List Thing) (o q : Option EndId) → named ends y ≡ q → EndsGoIf ends (statement (delegate x y) ∷ rest) (want_delegate o q)
delegate_go ends x y rest (Some e) (Some f) h = (y, h, refl)
delegate_go ends x y rest (Some e) None h = tt
delegate_go ends x y rest None q h = tt

deed_go : (peers : List ℕ) (vars : Vars) (ends : List (ℕ × EndId)) (deed : DeedAt) (rest : List Thing) → EndsGoIf ends (statement deed ∷ rest) (want_of_deed peers vars ends deed)
deed_go peers vars ends (send x v) rest = send_go ends (statement (send x v) ∷ rest) (named ends x) (option_map message_of (worth vars v)) refl
deed_go peers vars ends (delegate x y) rest = delegate_go ends x y rest (named ends x) (named ends y) refl
deed_go peers vars ends (take_value x n k) rest = take_go ends (statement (take_value x n k) ∷ rest) (named ends x) _
deed_go peers vars ends (take_end x y p) rest = take_go ends (statement (take_end x y p) ∷ rest) (named ends x) _
deed_go peers vars ends (outbranch x l) rest = send_go ends (statement (outbranch x l) ∷ rest) (named ends x) (Some (msgs.Label l)) refl
deed_go peers vars ends (inbranch x arms) rest = take_go ends (statement (inbranch x arms) ∷ rest) (named ends x) _
deed_go peers vars ends (outwhile x v body) rest = send_go ends (statement (outwhile x v body) ∷ rest) (named ends x) (option_map more_turns (option_and_then turns_of (worth vars v))) refl
deed_go peers vars ends (inwhile x body) rest = take_go ends (statement (inwhile x body) ∷ rest) (named ends x) _
deed_go peers vars ends (relay x y body) rest = take_go ends (statement (relay x y body) ∷ rest) (named ends x) _
deed_go peers vars ends (if_else v first second) rest = local_go ends (statement (if_else v first second) ∷ rest) (option_and_then truth_of (worth vars v))
deed_go peers vars ends (let_be n v) rest = local_go ends (statement (let_be n v) ∷ rest) (worth vars v)
deed_go peers vars ends (close x) rest = close_go ends x rest (named ends x) refl
deed_go peers vars ends (request x p b) rest = tt
deed_go peers vars ends (accept x p b) rest = tt

todo_go : (peers : List ℕ) (vars : Vars) (ends : List (ℕ × EndId)) (todo : List Thing) → EndsGoIf ends todo (want_of_todo peers vars ends todo)
todo_go peers vars ends [] = refl
todo_go peers vars ends (statement deed ∷ rest) = deed_go peers vars ends deed rest
todo_go peers vars ends (turns x n body ∷ rest) = send_go ends (turns x n body ∷ rest) (named ends x) (Some (more_turns n)) refl
todo_go peers vars ends (passing x y more body ∷ rest) = send_go ends (passing x y more body ∷ rest) (named ends y) (Some (msgs.More more)) refl

pub ends_go : (g : Program) (want : Want) → want_of g ≡ Some want → EndsGo g.ends g.todo want
ends_go g want h = subst (EndsGoIf g.ends g.todo) h (todo_go g.peers g.vars g.ends g.todo)

-- ---- taking keeps names, and binds what was taken

pub named_none : (zs : List Session) (ends : List (ℕ × EndId)) (y : ℕ) (f : EndId) → option_map (λ e. (end_at zs e).place) (named ends y) ≡ None → named ends y ≡ Some f → ⊥
named_none zs ends y f h k = let clash : Some (end_at zs f).place ≡ None = sym (ap (option_map (λ e. (end_at zs e).place)) k) ∙ h in cc

took_end_keeps : (zs : List Session) (ends : List (ℕ × EndId)) (x y p : ℕ) (rest : List Thing) (m : Msg) (n : ℕ) (f : EndId) → option_map (λ e. (end_at zs e).place) (named ends y) ≡ None → named ends n ≡ Some f
    → named (ends_after_took ends (statement (take_end x y p) ∷ rest) m) n ≡ Some f
took_end_keeps zs ends x y p rest (msgs.Sess s d k) n f free h =
    named-bound_other ends y n (side s d) (λ e. named_none zs ends y f free (sym (ap (named ends) e) ∙ h)) ∙ h
took_end_keeps zs ends x y p rest (msgs.Int k) n f free h = h
took_end_keeps zs ends x y p rest (msgs.Bool k) n f free h = h
took_end_keeps zs ends x y p rest (msgs.Text k) n f free h = h
took_end_keeps zs ends x y p rest (msgs.Label k) n f free h = h
took_end_keeps zs ends x y p rest (msgs.More k) n f free h = h

pub took_keeps : (ps : List ProtocolAt) (parties : List ℕ) (zs : List Session) (ends : List (ℕ × EndId)) (vars : Vars) (env : Env) → Agrees zs ends vars env → (todo : List Thing) → DoesTodo ps parties todo env
    → (m : Msg) (n : ℕ) (f : EndId) → named ends n ≡ Some f → named (ends_after_took ends todo m) n ≡ Some f
took_keeps ps parties zs ends vars env a [] d m n f h = h
took_keeps ps parties zs ends vars env a (statement (send x v) ∷ rest) d m n f h = h
took_keeps ps parties zs ends vars env a (statement (delegate x y) ∷ rest) d m n f h = h
took_keeps ps parties zs ends vars env a (statement (take_value x k s) ∷ rest) d m n f h = h
took_keeps ps parties zs ends vars env a (statement (take_end x y p) ∷ rest) d m n f h = took_end_keeps zs ends x y p rest m n f (a.places y ∙ d.1.0.unused.no_end) h
took_keeps ps parties zs ends vars env a (statement (outbranch x l) ∷ rest) d m n f h = h
took_keeps ps parties zs ends vars env a (statement (inbranch x arms) ∷ rest) d m n f h = h
took_keeps ps parties zs ends vars env a (statement (outwhile x v body) ∷ rest) d m n f h = h
took_keeps ps parties zs ends vars env a (statement (inwhile x body) ∷ rest) d m n f h = h
took_keeps ps parties zs ends vars env a (statement (relay x y body) ∷ rest) d m n f h = h
took_keeps ps parties zs ends vars env a (statement (if_else v first second) ∷ rest) d m n f h = h
took_keeps ps parties zs ends vars env a (statement (let_be k v) ∷ rest) d m n f h = h
took_keeps ps parties zs ends vars env a (statement (close x) ∷ rest) d m n f h = h
took_keeps ps parties zs ends vars env a (statement (request x p b) ∷ rest) d m n f h = h
took_keeps ps parties zs ends vars env a (statement (accept x p b) ∷ rest) d m n f h = h
took_keeps ps parties zs ends vars env a (turns x k body ∷ rest) d m n f h = h
took_keeps ps parties zs ends vars env a (passing x y more body ∷ rest) d m n f h = h

-- the end that was taken has a name
pub record Gained (ends : List (ℕ × EndId)) (f : EndId) : Type 0 where
  pub name : ℕ
  pub is_named : named ends name ≡ Some f

pub no_kind : (k : Scalar) (s d j : ℕ) → is_of_kind k (msgs.Sess s d j) ≡ true → ⊥
no_kind kinds.Int s d j h = cc
no_kind kinds.Boolean s d j h = cc
no_kind kinds.Text s d j h = cc

pub no_arm : (arms : Branches) (s d j : ℕ) → names_arm arms (msgs.Sess s d j) ≡ true → ⊥
no_arm no_branch s d j h = cc
no_arm (branch l code arms) s d j h = cc

pub took_gains : (ends : List (ℕ × EndId)) (todo : List Thing) (s d j : ℕ) → fits_todo todo (msgs.Sess s d j) ≡ true → Gained (ends_after_took ends todo (msgs.Sess s d j)) (side s d)
took_gains ends [] s d j h = cc
took_gains ends (statement (send x v) ∷ rest) s d j h = cc
took_gains ends (statement (delegate x y) ∷ rest) s d j h = cc
took_gains ends (statement (take_value x n k) ∷ rest) s d j h = absurd (no_kind k s d j h)
took_gains ends (statement (take_end x y p) ∷ rest) s d j h = record { name = y; is_named = named-bound_same ends y (side s d) }
took_gains ends (statement (outbranch x l) ∷ rest) s d j h = cc
took_gains ends (statement (inbranch x arms) ∷ rest) s d j h = absurd (no_arm arms s d j h)
took_gains ends (statement (outwhile x v body) ∷ rest) s d j h = cc
took_gains ends (statement (inwhile x body) ∷ rest) s d j h = cc
took_gains ends (statement (relay x y body) ∷ rest) s d j h = cc
took_gains ends (statement (if_else v first second) ∷ rest) s d j h = cc
took_gains ends (statement (let_be n v) ∷ rest) s d j h = cc
took_gains ends (statement (close x) ∷ rest) s d j h = cc
took_gains ends (statement (request x p b) ∷ rest) s d j h = cc
took_gains ends (statement (accept x p b) ∷ rest) s d j h = cc
took_gains ends (turns x n body ∷ rest) s d j h = cc
took_gains ends (passing x y more body ∷ rest) s d j h = cc
