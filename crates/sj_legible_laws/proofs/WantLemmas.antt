-- What a program that knows only of the file does next names ends, texts and labels of the file.
use Rattle.std.proofs.Common.{◌≡◌, ℕ, zero, suc, ◌==◌, Bool, true, false, cond, List, [], ◌∷◌, Option, Some, None, option_map, option_and_then, refl}
use Rattle.sj_base.specs.declared.EndId.{EndId}
use Rattle.sj_base.specs.declared.Msg.{Msg}
use Rattle.sj_base.specs.declared.Msg.TheVariants as msgs
use Rattle.sj_lang.specs.FileAt.{FileAt, ProtocolAt, named}
use Rattle.sj_lang.specs.Code.{DeedAt, send, delegate, take_value, take_end, outbranch, inbranch, outwhile, inwhile, relay, if_else, let_be, close, request, accept}
use Rattle.sj_semantics.specs.declared.Want.{Want}
use Rattle.sj_semantics.specs.declared.Want.TheVariants as wants
use Rattle.sj_semantics.specs.declared.Awaits.{Awaits}
use Rattle.sj_semantics.specs.declared.Awaits.TheVariants as awaits
use Rattle.sj_semantics.specs.Value.{Vars, message_of, worth, turns_of, truth_of}
use Rattle.sj_semantics.specs.Program.{Thing, statement, turns, passing, Program}
use Rattle.sj_semantics.specs.Wants.{want_send, want_delegate, want_take, more_turns, want_of_deed, want_of_todo, want_of}
use Rattle.sj_rules.specs.Party.{want_or_ended}
use Rattle.sj_rules_laws.proofs.WithinRowLemmas.{by_map, by_some}
use Rattle.sj_log.specs.Legible.{IsEnd, IsMessage}
use Rattle.sj_legible_laws.proofs.LegibleParts.{WantTold}
use Rattle.sj_legible_laws.proofs.CodeParts.{DeedTold, ThingsTold, VarsTold, EndsTold, ProgramTold}
use Rattle.sj_legible_laws.proofs.ValueLemmas.{worth_told}

module _ (file : FileAt) where
  named_told : (ends : List (ℕ × EndId)) (x : ℕ) (e : EndId) → EndsTold file ends → named ends x ≡ Some e → IsEnd e
  named_told [] x e all h = cc
  named_told (b ∷ ends) x e all h = by (b.0 == x) h (named_told ends x e all.1)
    where
      by : (t : Bool) → cond t (Some b.1) (named ends x) ≡ Some e → (named ends x ≡ Some e → IsEnd e) → IsEnd e
      by true k later = by_some IsEnd b.1 e k all.0
      by false k later = later k

  module _ (ps : List ProtocolAt) where
    abbrev Wanted : Option Want → Type 0
    Wanted o = WantTold file (want_or_ended ps o)

    want_send_told : (o : Option EndId) (m : Option Msg) → ((e : EndId) → o ≡ Some e → IsEnd e) → ((k : Msg) → m ≡ Some k → IsMessage file k) → Wanted (want_send o m)
    want_send_told (Some e) (Some m) end msg = (end e refl, msg m refl)
    want_send_told (Some e) None end msg = tt
    want_send_told None (Some m) end msg = tt
    want_send_told None None end msg = tt

    want_delegate_told : (o q : Option EndId) → ((e : EndId) → o ≡ Some e → IsEnd e) → ((e : EndId) → q ≡ Some e → IsEnd e) → Wanted (want_delegate o q)
    want_delegate_told (Some e) (Some y) end other = (end e refl, other y refl)
    want_delegate_told (Some e) None end other = tt
    want_delegate_told None (Some y) end other = tt
    want_delegate_told None None end other = tt

    want_take_told : (o : Option EndId) (a : Awaits) → ((e : EndId) → o ≡ Some e → IsEnd e) → Wanted (want_take o a)
    want_take_told (Some e) a end = end e refl
    want_take_told None a end = tt

    want_local_told : {X : Type 0} (o : Option X) → Wanted (option_map (λ v. wants.Local) o)
    want_local_told (Some v) = tt
    want_local_told None = tt

    want_close_told : (o : Option EndId) → ((e : EndId) → o ≡ Some e → IsEnd e) → Wanted (option_map wants.Close o)
    want_close_told (Some e) end = end e refl
    want_close_told None end = tt

    more_told : (n : ℕ) → IsMessage file (more_turns n)
    more_told zero = tt
    more_told (suc n) = tt

    turns_told : (o : Option ℕ) (k : Msg) → option_map more_turns o ≡ Some k → IsMessage file k
    turns_told o k h = by_map (IsMessage file) more_turns o k h (λ n t. more_told n)

    module _ (peers : List ℕ) (vars : Vars) (ends : List (ℕ × EndId)) (known : VarsTold file vars) (all : EndsTold file ends) where
      own : (x : ℕ) (e : EndId) → named ends x ≡ Some e → IsEnd e
      own x e h = named_told ends x e all h

      deed_wants : (deed : DeedAt) → DeedTold file deed → Wanted (want_of_deed peers vars ends deed)
      deed_wants (send x e) told =
          want_send_told (named ends x) (option_map message_of (worth vars e)) (own x) (λ k h. by_map (IsMessage file) message_of (worth vars e) k h (λ v t. worth_told file vars e v known told t))
      deed_wants (delegate x y) told = want_delegate_told (named ends x) (named ends y) (own x) (own y)
      deed_wants (take_value x n k) told = want_take_told (named ends x) (awaits.Value k) (own x)
      deed_wants (take_end x y p) told = want_take_told (named ends x) (awaits.Session p) (own x)
      deed_wants (outbranch x l) told = want_send_told (named ends x) (Some (msgs.Label l)) (own x) (λ k h. by_some (IsMessage file) (msgs.Label l) k h told)
      deed_wants (inbranch x arms) told = want_take_told (named ends x) awaits.OneOf (own x)
      deed_wants (outwhile x e body) told = want_send_told (named ends x) (option_map more_turns (option_and_then turns_of (worth vars e))) (own x) (turns_told (option_and_then turns_of (worth vars e)))
      deed_wants (inwhile x body) told = want_take_told (named ends x) awaits.MoreOrStop (own x)
      deed_wants (relay x y body) told = want_take_told (named ends x) awaits.MoreOrStop (own x)
      deed_wants (if_else e first second) told = want_local_told (option_and_then truth_of (worth vars e))
      deed_wants (let_be n e) told = want_local_told (worth vars e)
      deed_wants (close x) told = want_close_told (named ends x) (own x)
      deed_wants (request x p b) told = tt
      deed_wants (accept x p b) told = tt

      todo_wants : (todo : List Thing) → ThingsTold file todo → Wanted (want_of_todo peers vars ends todo)
      todo_wants [] told = tt
      todo_wants (statement deed ∷ rest) told = deed_wants deed told.0
      todo_wants (turns x n body ∷ rest) told = want_send_told (named ends x) (Some (more_turns n)) (own x) (λ k h. by_some (IsMessage file) (more_turns n) k h (more_told n))
      todo_wants (passing x y more body ∷ rest) told = want_send_told (named ends y) (Some (msgs.More more)) (own y) (λ k h. by_some (IsMessage file) (msgs.More more) k h tt)

    pub wants_told : (g : Program) → ProgramTold file g → WantTold file (want_or_ended ps (want_of g))
    wants_told g told = todo_wants g.peers g.vars g.ends told.vars told.ends g.todo told.todo
