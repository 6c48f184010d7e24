-- What the next step frees: a value that is sent names no end, and a
-- delegated or closed end is freed.
use Rattle.std.proofs.Common.{◌≡◌, ℕ, zero, suc, ◌+◌, ◌≤◌, false, List, [], ◌∷◌, Option, Some, None, option_map, option_and_then, refl, subst}
use Rattle.std.specs.Bool.{⊤}
use Rattle.sj_base.specs.declared.EndId.{EndId}
use Rattle.sj_base.specs.declared.Msg.{Msg}
use Rattle.sj_lang.specs.Code.{DeedAt, send, delegate, take_value, take_end, outbranch, inbranch, outwhile, inwhile, relay, if_else, let_be, close, request, accept}
use Rattle.sj_semantics.specs.declared.Want.{Want}
use Rattle.sj_semantics.specs.declared.Want.TheVariants as wants
use Rattle.sj_semantics.specs.declared.Awaits.{Awaits}
use Rattle.sj_semantics.specs.declared.Value.{Value}
use Rattle.sj_semantics.specs.declared.Value.TheVariants.{Int, Boolean, Text}
use Rattle.sj_semantics.specs.Value.{Vars, message_of, worth, truth_of, turns_of}
use Rattle.sj_lang.specs.FileAt.{named}
use Rattle.sj_semantics.specs.Program.{Program, Thing, statement, turns, passing}
use Rattle.sj_semantics.specs.Wants.{want_send, want_delegate, want_take, more_turns, want_of_deed, want_of_todo, want_of}
use Rattle.sj_semantics.specs.Steps.{ends_after_sent, ends_after_closed}
use Rattle.sj_semantics.specs.Ends.{is_end}
use Rattle.sj_semantics_laws.specs.Unshared.{bindings_of, names_end}
use Rattle.sj_semantics_laws.proofs.ClaimLemmas.{one_if, bindings_of-without}

-- what a step does to the bindings: a value that is sent names no end, and a
-- delegated or closed end is freed
abbrev pub Frees : EndId → List (ℕ × EndId) → List Thing → Want → Type 0
Frees e ends todo (wants.Send f m) = names_end e m ≡ false
Frees e ends todo (wants.Delegate f y) = bindings_of e (ends_after_sent ends todo) + one_if (is_end e y) ≤ bindings_of e ends
Frees e ends todo wants.Local = ⊤
Frees e ends todo (wants.Take f a) = ⊤
Frees e ends todo (wants.Close f) = bindings_of e (ends_after_closed ends todo) + one_if (is_end e f) ≤ bindings_of e ends
Frees e ends todo (wants.Request n q) = ⊤
Frees e ends todo (wants.Accept n q) = ⊤
Frees e ends todo wants.Ended = ⊤

abbrev FreesIf : EndId → List (ℕ × EndId) → List Thing → Option Want → Type 0
FreesIf e ends todo None = ⊤
FreesIf e ends todo (Some want) = Frees e ends todo want

value_names_none : (e : EndId) (v : Value) → names_end e (message_of v) ≡ false
value_names_none e (Int n) = refl
value_names_none e (Boolean b) = refl
value_names_none e (Text n) = refl

turns_name_none : (e : EndId) (n : ℕ) → names_end e (more_turns n) ≡ false
turns_name_none e zero = refl
turns_name_none e (suc n) = refl

send_frees : (e : EndId) (ends : List (ℕ × EndId)) (todo : List Thing) (o : Option EndId) (m : Msg) → names_end e m ≡ false → FreesIf e ends todo (want_send o (Some m))
send_frees e ends todo (Some f) m h = h
send_frees e ends todo None m h = tt

send_value_frees : (e : EndId) (ends : List (ℕ × EndId)) (todo : List Thing) (o : Option EndId) (v : Option Value) → FreesIf e ends todo (want_send o (option_map message_of v))
send_value_frees e ends todo (Some f) (Some v) = value_names_none e v
send_value_frees e ends todo (Some f) None = tt
send_value_frees e ends todo None (Some v) = tt
send_value_frees e ends todo None None = tt

send_turns_frees : (e : EndId) (ends : List (ℕ × EndId)) (todo : List Thing) (o : Option EndId) (v : Option ℕ) → FreesIf e ends todo (want_send o (option_map more_turns v))
send_turns_frees e ends todo (Some f) (Some n) = turns_name_none e n
send_turns_frees e ends todo (Some f) None = tt
send_turns_frees e ends todo None (Some n) = tt
send_turns_frees e ends todo None None = tt

take_frees : (e : EndId) (ends : List (ℕ × EndId)) (todo : List Thing) (o : Option EndId) (a : Awaits) → FreesIf e ends todo (want_take o a)
take_frees e ends todo (Some f) a = tt
take_frees e ends todo None a = tt

local_frees : {X : Type 0} (e : EndId) (ends : List (ℕ × EndId)) (todo : List Thing) (o : Option X) → FreesIf e ends todo (option_map (λ v. wants.Local) o)
local_frees e ends todo (Some x) = tt
local_frees e ends todo None = tt

close_frees : (e : EndId) (ends : List (ℕ × EndId)) (x : ℕ) (rest : List Thing) (o : Option EndId) → named ends x ≡ o → FreesIf e ends (statement (close x) ∷ rest) (option_map wants.Close o)
close_frees e ends x rest (Some f) h = bindings_of-without e ends x f h
close_frees e ends x rest None h = tt

delegate_frees : (e : EndId) (ends : List (ℕ × EndId)) (x y : ℕ) (rest : List Thing) (o q : Option EndId) → named ends y ≡ q → FreesIf e ends (statement (delegate x y) ∷ rest) (want_delegate o q)
delegate_frees e ends x y rest (Some f) (Some g) h = bindings_of-without e ends y g h
delegate_frees e ends x y rest (Some f) None h = tt
delegate_frees e ends x y rest None q h = tt

deed_frees : (e : EndId) (peers : List ℕ) (vars : Vars) (ends : List (ℕ × EndId)) (deed : DeedAt) (rest : List Thing) → FreesIf e ends (statement deed ∷ rest) (want_of_deed peers vars ends deed)
deed_frees e peers vars ends (send x v) rest = send_value_frees e ends (statement (send x v) ∷ rest) (named ends x) (worth vars v)
deed_frees e peers vars ends (delegate x y) rest = delegate_frees e ends x y rest (named ends x) (named ends y) refl
deed_frees e peers vars ends (take_value x n k) rest = take_frees e ends (statement (take_value x n k) ∷ rest) (named ends x) _
deed_frees e peers vars ends (take_end x y p) rest = take_frees e ends (statement (take_end x y p) ∷ rest) (named ends x) _
deed_frees e peers vars ends (outbranch x l) rest = send_frees e ends (statement (outbranch x l) ∷ rest) (named ends x) _ refl
deed_frees e peers vars ends (inbranch x arms) rest = take_frees e ends (statement (inbranch x arms) ∷ rest) (named ends x) _
deed_frees e peers vars ends (outwhile x v body) rest = send_turns_frees e ends (statement (outwhile x v body) ∷ rest) (named ends x) (option_and_then turns_of (worth vars v))
deed_frees e peers vars ends (inwhile x body) rest = take_frees e ends (statement (inwhile x body) ∷ rest) (named ends x) _
deed_frees e peers vars ends (relay x y body) rest = take_frees e ends (statement (relay x y body) ∷ rest) (named ends x) _
deed_frees e peers vars ends (if_else v first second) rest = local_frees e ends (statement (if_else v first second) ∷ rest) (option_and_then truth_of (worth vars v))
deed_frees e peers vars ends (let_be n v) rest = local_frees e ends (statement (let_be n v) ∷ rest) (worth vars v)
deed_frees e peers vars ends (close x) rest = close_frees e ends x rest (named ends x) refl
deed_frees e peers vars ends (request x p b) rest = tt
deed_frees e peers vars ends (accept x p b) rest = tt

todo_frees : (e : EndId) (peers : List ℕ) (vars : Vars) (ends : List (ℕ × EndId)) (todo : List Thing) → FreesIf e ends todo (want_of_todo peers vars ends todo)
todo_frees e peers vars ends [] = tt
todo_frees e peers vars ends (statement deed ∷ rest) = deed_frees e peers vars ends deed rest
todo_frees e peers vars ends (turns x n body ∷ rest) = send_frees e ends (turns x n body ∷ rest) (named ends x) _ (turns_name_none e n)
todo_frees e peers vars ends (passing x y more body ∷ rest) = send_frees e ends (passing x y more body ∷ rest) (named ends y) _ refl

pub want_frees : (e : EndId) (g : Program) (want : Want) → want_of g ≡ Some want → Frees e g.ends g.todo want
want_frees e g want h = subst (FreesIf e g.ends g.todo) h (todo_frees e g.peers g.vars g.ends g.todo)
