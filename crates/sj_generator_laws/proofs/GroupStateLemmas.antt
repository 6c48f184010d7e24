-- What the parties and ends of a group are on their way.
use Rattle.std.proofs.Common.{ℕ, ◌+◌, pos, List, [], ◌∷◌, length}
use Rattle.sj_base.specs.declared.Msg.{Msg}
use Rattle.sj_lang.specs.declared.proto.Way.TheVariants.{Out, Into}
use Rattle.sj_lang.specs.declared.party.Op.TheVariants.{Add}
use Rattle.sj_lang.specs.declared.party.Scalar.TheVariants as scalars
use Rattle.sj_lang.specs.Place.{Place, done, message, repeat, int}
use Rattle.sj_lang.specs.Term as term
use Rattle.sj_lang.specs.Code.{Code, at, send, take_value, let_be, close}
use Rattle.sj_lang.specs.CodeView.{in_order}
use Rattle.sj_semantics.specs.declared.Passed.{Passed}
use Rattle.sj_semantics.specs.Ends.{Session}
use Rattle.sj_semantics.specs.Program.{Thing, statement, Program}
use Rattle.sj_semantics.specs.Value.{Vars, no_vars}
use Rattle.sj_generator_laws.proofs.BehindLemmas.{place, end_behind}

-- the names of the parties
abbrev pub peers : List ℕ
peers = 4 ∷ 7 ∷ 10 ∷ 14 ∷ 15 ∷ 16 ∷ 17 ∷ 18 ∷ 19 ∷ 20 ∷ 21 ∷ 22 ∷ 23 ∷ 24 ∷ 25 ∷ []

-- the first end of the session before any message
abbrev pub sends_numbers : Place
sends_numbers = repeat Out (message Out int done) (message Into int done)

-- one turn of the sender's loop, by the line of the party and the number that it sends
abbrev pub turn : ℕ → ℕ → Code
turn line v = in_order (at (line + 2) (send 5 (term.int (pos v))) ∷ [])

-- one of the adder's, by the line of the group's first party
abbrev pub adding : ℕ → Code
adding line = in_order (at (line + 15) (take_value 9 13 scalars.Int) ∷ at (line + 16) (let_be 12 (term.two Add (term.var 12) (term.var 13))) ∷ [])

-- what each does after its loop
abbrev pub sender_rest : List Thing
sender_rest = statement (take_value 5 6 scalars.Int) ∷ statement (close 5) ∷ []

abbrev pub adder_rest : List Thing
adder_rest = statement (send 9 (term.var 12)) ∷ statement (close 9) ∷ statement (close 11) ∷ []

-- after other sessions: the sender with its end, and the adder with both of its ends
abbrev pub sender_at : List Session → List Thing → ℕ → Program
sender_at bs todo t = record { todo = todo; vars = no_vars; ends = (5, end_behind bs 0 0) ∷ []; steps = t; peers = peers }

abbrev pub adder_at : List Session → List Thing → Vars → ℕ → Program
adder_at bs todo vars t = record { todo = todo; vars = vars; ends = (11, end_behind bs 1 1) ∷ (9, end_behind bs 0 1) ∷ []; steps = t; peers = peers }

-- a party that has ended
abbrev pub ended : Vars → ℕ → Program
ended vars t = record { todo = []; vars = vars; ends = []; steps = t; peers = peers }

-- the session of the loop: the places of its ends, what the sender sent, what the
-- adder sent, and who took each
abbrev pub session_at : Place → Place → List Passed → List Passed → List ℕ → List ℕ → Session
session_at p q sent back takers back_takers = record { first = record { place = p; sent = sent; takers = back_takers; hops = 0 }; second = record { place = q; sent = back; takers = takers; hops = 1 } }

-- what the sender, after other parties, has sent
abbrev pub sending : List Program → Msg → Passed
sending bp m = record { msg = m; by = place bp 0 }

-- the three at their ends, and their sessions
pub record Outcome : Type 0 where
  pub sender_vars : Vars
  pub sender_steps : ℕ
  pub adder_vars : Vars
  pub adder_steps : ℕ
  pub one : Session
  pub other : Session

abbrev pub parties_of : Outcome → List Program → List Program
parties_of o gs = ended o.sender_vars o.sender_steps ∷ ended no_vars 2 ∷ ended o.adder_vars o.adder_steps ∷ gs

abbrev pub sessions_of : Outcome → List Session → List Session
sessions_of o zs = o.one ∷ o.other ∷ zs

abbrev pub sent_in : Session → ℕ
sent_in z = length z.first.sent + length z.second.sent
