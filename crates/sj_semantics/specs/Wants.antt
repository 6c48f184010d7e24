-- What a party's next step is.
use Rattle.std.specs.Prelude.{ℕ, zero, suc, true, false, List, [], ◌∷◌, Option, Some, None, option_map, option_and_then}
use Rattle.sj_base.specs.declared.EndId.{EndId}
use Rattle.sj_base.specs.declared.Msg.{Msg}
use Rattle.sj_base.specs.declared.Msg.TheVariants as msgs
use Rattle.sj_lang.specs.Code.{DeedAt, send, delegate, take_value, take_end, outbranch, inbranch, outwhile, inwhile, relay, if_else, let_be, close, request, accept}
use Rattle.sj_lang.specs.FileAt.{named, number_of_name}
use Rattle.sj_semantics.specs.declared.Want.{Want}
use Rattle.sj_semantics.specs.declared.Want.TheVariants as wants
use Rattle.sj_semantics.specs.declared.Awaits.{Awaits}
use Rattle.sj_semantics.specs.declared.Awaits.TheVariants as awaits
use Rattle.sj_semantics.specs.Value.{Vars, message_of, worth, turns_of, truth_of}
use Rattle.sj_semantics.specs.Program.{Thing, statement, turns, passing, Program}

-- a send, where the end and the message are there
abbrev pub want_send : Option EndId → Option Msg → Option Want
want_send (Some e) (Some m) = Some (wants.Send e m)
want_send _ _ = None

-- a delegation, where both ends are there
abbrev pub want_delegate : Option EndId → Option EndId → Option Want
want_delegate (Some e) (Some y) = Some (wants.Delegate e y)
want_delegate _ _ = None

-- a take, where the end is there
abbrev pub want_take : Option EndId → Awaits → Option Want
want_take (Some e) a = Some (wants.Take e a)
want_take None a = None

-- a loop with turns left says more, and one without says stop
abbrev pub more_turns : ℕ → Msg
more_turns zero = msgs.More false
more_turns (suc n) = msgs.More true

-- what a statement does first, where the file's parties have these names
abbrev pub want_of_deed : List ℕ → Vars → List (ℕ × EndId) → DeedAt → Option Want
want_of_deed peers vars ends (send x e) = want_send (named ends x) (option_map message_of (worth vars e))
want_of_deed peers vars ends (delegate x y) = want_delegate (named ends x) (named ends y)
want_of_deed peers vars ends (take_value x n k) = want_take (named ends x) (awaits.Value k)
want_of_deed peers vars ends (take_end x y p) = want_take (named ends x) (awaits.Session p)
want_of_deed peers vars ends (outbranch x l) = want_send (named ends x) (Some (msgs.Label l))
want_of_deed peers vars ends (inbranch x arms) = want_take (named ends x) awaits.OneOf
want_of_deed peers vars ends (outwhile x e body) =
    want_send (named ends x) (option_map more_turns (option_and_then turns_of (worth vars e)))
want_of_deed peers vars ends (inwhile x body) = want_take (named ends x) awaits.MoreOrStop
want_of_deed peers vars ends (relay x y body) = want_take (named ends x) awaits.MoreOrStop
want_of_deed peers vars ends (if_else e first second) = option_map (λ b. wants.Local) (option_and_then truth_of (worth vars e))
want_of_deed peers vars ends (let_be n e) = option_map (λ v. wants.Local) (worth vars e)
want_of_deed peers vars ends (close x) = option_map wants.Close (named ends x)
want_of_deed peers vars ends (request x p b) = Some (wants.Request p (number_of_name peers b))
want_of_deed peers vars ends (accept x p b) = Some (wants.Accept p (number_of_name peers b))

-- what the first thing to do does next
abbrev pub want_of_todo : List ℕ → Vars → List (ℕ × EndId) → List Thing → Option Want
want_of_todo peers vars ends [] = Some wants.Ended
want_of_todo peers vars ends (statement act ∷ rest) = want_of_deed peers vars ends act
want_of_todo peers vars ends (turns x n body ∷ rest) = want_send (named ends x) (Some (more_turns n))
want_of_todo peers vars ends (passing x y more body ∷ rest) = want_send (named ends y) (Some (msgs.More more))

-- the next step; a program that names what it hasn't is stuck, and has none
abbrev pub want_of : Program → Option Want
want_of g = want_of_todo g.peers g.vars g.ends g.todo
