-- A step that opens or accepts a session is one of its party's code.
use Rattle.std.proofs.Common.{◌≡◌, ℕ, List, [], ◌∷◌, Option, Some, None, option_map, option_and_then, refl, subst}
use Rattle.std.specs.Bool.{⊤}
use Rattle.sj_base.specs.declared.EndId.{EndId}
use Rattle.sj_base.specs.declared.Msg.{Msg}
use Rattle.sj_base.specs.declared.Msg.TheVariants as msgs
use Rattle.sj_lang.specs.Code.{DeedAt, send, delegate, take_value, take_end, outbranch, inbranch, outwhile, inwhile, relay, if_else, let_be, close, request, accept}
use Rattle.sj_lang.specs.FileAt.{named, number_of_name}
use Rattle.sj_semantics.specs.declared.Awaits.{Awaits}
use Rattle.sj_semantics.specs.declared.Awaits.TheVariants as awaits
use Rattle.sj_semantics.specs.declared.Want.{Want}
use Rattle.sj_semantics.specs.declared.Want.TheVariants as wants
use Rattle.sj_semantics.specs.Value.{Vars, message_of, worth, turns_of, truth_of}
use Rattle.sj_semantics.specs.Program.{Thing, statement, turns, passing, Program}
use Rattle.sj_semantics.specs.Wants.{want_send, want_delegate, want_take, more_turns, want_of_deed, want_of_todo, want_of}
use Rattle.sj_headline_laws.proofs.OriginLemmas.{InDeed, InTodo}

-- R holds of the protocol and the party of each request in the code, and A of those of each accept
module _ (R A : ℕ → ℕ → Type 0) where
  -- a step that opens or accepts is one of the code's
  abbrev OpensSo : List ℕ → Want → Type 0
  OpensSo peers (wants.Request p q) = (b : ℕ) × R p b × (number_of_name peers b ≡ q)
  OpensSo peers (wants.Accept p q) = (b : ℕ) × A p b × (number_of_name peers b ≡ q)
  OpensSo peers _ = ⊤

  abbrev OpensSoIf : List ℕ → Option Want → Type 0
  OpensSoIf peers None = ⊤
  OpensSoIf peers (Some want) = OpensSo peers want

  send_so : (peers : List ℕ) (o : Option EndId) (m : Option Msg) → OpensSoIf peers (want_send o m)
  send_so peers (Some e) (Some m) = tt
  send_so peers (Some e) None = tt
  send_so peers None (Some m) = tt
  send_so peers None None = tt

  delegate_so : (peers : List ℕ) (o r : Option EndId) → OpensSoIf peers (want_delegate o r)
  delegate_so peers (Some e) (Some y) = tt
  delegate_so peers (Some e) None = tt
  delegate_so peers None (Some y) = tt
  delegate_so peers None None = tt

  take_so : (peers : List ℕ) (o : Option EndId) (a : Awaits) → OpensSoIf peers (want_take o a)
  take_so peers (Some e) a = tt
  take_so peers None a = tt

  option_so : {X : Type 0} (peers : List ℕ) (want : X → Want) (o : Option X) → ((x : X) → OpensSo peers (want x)) → OpensSoIf peers (option_map want o)
  option_so peers want (Some x) h = h x
  option_so peers want None h = tt

  deed_so : (peers : List ℕ) (vars : Vars) (ends : List (ℕ × EndId)) (act : DeedAt) → InDeed R A act → OpensSoIf peers (want_of_deed peers vars ends act)
  deed_so peers vars ends (send x e) h = send_so peers (named ends x) (option_map message_of (worth vars e))
  deed_so peers vars ends (delegate x y) h = delegate_so peers (named ends x) (named ends y)
  deed_so peers vars ends (take_value x n k) h = take_so peers (named ends x) (awaits.Value k)
  deed_so peers vars ends (take_end x y p) h = take_so peers (named ends x) (awaits.Session p)
  deed_so peers vars ends (outbranch x l) h = send_so peers (named ends x) (Some (msgs.Label l))
  deed_so peers vars ends (inbranch x arms) h = take_so peers (named ends x) awaits.OneOf
  deed_so peers vars ends (outwhile x e body) h = send_so peers (named ends x) (option_map more_turns (option_and_then turns_of (worth vars e)))
  deed_so peers vars ends (inwhile x body) h = take_so peers (named ends x) awaits.MoreOrStop
  deed_so peers vars ends (relay x y body) h = take_so peers (named ends x) awaits.MoreOrStop
  deed_so peers vars ends (if_else e first second) h = option_so peers (λ b. wants.Local) (option_and_then truth_of (worth vars e)) (λ b. tt)
  deed_so peers vars ends (let_be n e) h = option_so peers (λ v. wants.Local) (worth vars e) (λ v. tt)
  deed_so peers vars ends (close x) h = option_so peers wants.Close (named ends x) (λ e. tt)
  deed_so peers vars ends (request x p b) h = (b, h, refl)
  deed_so peers vars ends (accept x p b) h = (b, h, refl)

  todo_so : (peers : List ℕ) (vars : Vars) (ends : List (ℕ × EndId)) (todo : List Thing) → InTodo R A todo → OpensSoIf peers (want_of_todo peers vars ends todo)
  todo_so peers vars ends [] h = tt
  todo_so peers vars ends (statement act ∷ rest) h = deed_so peers vars ends act h.0
  todo_so peers vars ends (turns x n body ∷ rest) h = send_so peers (named ends x) (Some (more_turns n))
  todo_so peers vars ends (passing x y more body ∷ rest) h = send_so peers (named ends y) (Some (msgs.More more))

  pub want_so : (g : Program) (want : Want) → InTodo R A g.todo → want_of g ≡ Some want → OpensSo g.peers want
  want_so g want h it = subst (OpensSoIf g.peers) it (todo_so g.peers g.vars g.ends g.todo h)
