-- The run of one group, from the start of its parties to where all three have ended.
use Rattle.std.proofs.Common.{◌≡◌, ℕ, ◌+◌, ◌*◌, ◌<◌, ◌≤◌, min, ℤ, pos, List, [], ◌∷◌, Some, option_map, refl, ap, arith}
use Rattle.sj_base.specs.declared.Msg.TheVariants as msgs
use Rattle.sj_lang.specs.declared.proto.Way.TheVariants.{Out, Into}
use Rattle.sj_lang.specs.declared.party.Scalar.TheVariants as scalars
use Rattle.sj_lang.specs.Place.{done, message, int, session}
use Rattle.sj_lang.specs.Term as term
use Rattle.sj_lang.specs.Code.{take_end, delegate, outwhile, inwhile, let_be, close}
use Rattle.sj_semantics.specs.declared.Awaits.TheVariants as awaits
use Rattle.sj_semantics.specs.declared.Passed.{Passed}
use Rattle.sj_semantics.specs.declared.Value.TheVariants.{Int}
use Rattle.sj_semantics.specs.Ends.{Session}
use Rattle.sj_semantics.specs.Program.{Thing, statement, Program}
use Rattle.sj_semantics.specs.World.{fresh, World, session_message}
use Rattle.sj_semantics.specs.Value.{Vars, no_vars, with_value, message_of}
use Rattle.sj_semantics.specs.Wants.{want_send, more_turns}
use Rattle.sj_semantics_laws.proofs.RunLemmas.{Leads, no_acts, leads_trans}
use Rattle.sj_generator_laws.specs.GeneratedFile.{numbers}
use Rattle.sj_generator_laws.proofs.BehindLemmas.{place, end_behind, behind, local_then, close_then, send_then, take_then, take_end_then, delegate_then}
use Rattle.sj_generator_laws.proofs.GroupStateLemmas.{peers, sends_numbers, turn, adding, sender_rest, adder_rest, sender_at, adder_at, ended, session_at, Outcome, parties_of, sessions_of, sent_in}
use Rattle.sj_generator_laws.proofs.LoopRunLemmas.{looping, looped, loop_runs}

-- the three at their starts, by the line of the first and the number that it
-- sends, after other sessions
abbrev pub first_sender : ℕ → ℕ → List Session → ℕ → Program
first_sender line v bs n = sender_at bs (statement (outwhile 5 (term.int (pos n)) (turn line v)) ∷ sender_rest) 0

abbrev pub first_giver : List Session → Program
first_giver bs = record { todo = statement (delegate 8 9) ∷ statement (close 8) ∷ []; vars = no_vars; ends = (9, end_behind bs 0 1) ∷ (8, end_behind bs 1 0) ∷ []; steps = 0; peers = peers }

abbrev summing : ℕ → List Thing
summing line = statement (let_be 12 (term.int (pos 0))) ∷ statement (inwhile 9 (adding line)) ∷ adder_rest

abbrev pub first_adder : ℕ → List Session → Program
first_adder line bs = record { todo = statement (take_end 11 9 1) ∷ summing line; vars = no_vars; ends = (11, end_behind bs 1 1) ∷ []; steps = 0; peers = peers }

-- their sessions
abbrev pub first_session : Session
first_session = record { first = fresh sends_numbers; second = fresh numbers }

abbrev pub second_session : Session
second_session = record { first = fresh (message Out (session numbers) done); second = fresh (message Into (session numbers) done) }

module _ (line v : ℕ) (bp : List Program) (bs : List Session) (others : List Program) (later : List Session) where
  abbrev handed : Passed
  handed = record { msg = session_message (end_behind bs 0 1) (place bp 1); by = place bp 1 }

  -- the second session once the end was sent, with those who took it
  abbrev given : List ℕ → Session
  given takers = record { first = record { place = done; sent = handed ∷ []; takers = []; hops = 0 }; second = record { place = done; sent = []; takers = takers; hops = 0 } }

  abbrev taken : Session
  taken = given (place bp 2 ∷ [])

  abbrev pub starting : ℕ → World
  starting n = behind bp bs (first_sender line v bs n ∷ first_giver bs ∷ first_adder line bs ∷ others) (first_session ∷ second_session ∷ later)

  -- to the first saying of the loop
  to_loop : (n : ℕ) → Leads (starting n) (looping line v bp bs (ended no_vars 2) others (taken ∷ later) (min n 1000) 1 2 (with_value no_vars 12 (Int (pos 0))) [] [])
  to_loop n =
      let end = looping line v bp bs (ended no_vars 2) others (taken ∷ later) (min n 1000) 1 2 (with_value no_vars 12 (Int (pos 0))) [] [] in
      let a = first_sender line v bs n in
      let c = first_adder line bs in
      let half : Session = record { first = (given []).first; second = second_session.second } in
      let opened = session_at sends_numbers numbers [] [] [] [] in
      let giver : Program = record { todo = statement (close 8) ∷ []; vars = no_vars; ends = (8, end_behind bs 1 0) ∷ []; steps = 1; peers = peers } in
      delegate_then bp bs (a ∷ first_giver bs ∷ c ∷ others) (first_session ∷ second_session ∷ later) 1 (first_giver bs) end refl (omega arith) 1 0 0 1 refl (omega arith)
      (close_then bp bs (a ∷ giver ∷ c ∷ others) (opened ∷ half ∷ later) 1 giver end refl (omega arith) (end_behind bs 1 0) refl
      (take_end_then bp bs (a ∷ ended no_vars 2 ∷ c ∷ others) (opened ∷ half ∷ later) 2 c end refl (omega arith) 1 1 0 1 1 (place bp 1) (place bp 1) refl refl
      (local_then bp bs (a ∷ ended no_vars 2 ∷ adder_at bs (summing line) no_vars 1 ∷ others) (opened ∷ taken ∷ later) 2 (adder_at bs (summing line) no_vars 1) end refl (omega arith) refl
      (send_then bp bs (a ∷ ended no_vars 2 ∷ adder_at bs (statement (inwhile 9 (adding line)) ∷ adder_rest) (with_value no_vars 12 (Int (pos 0))) 2 ∷ others) (opened ∷ taken ∷ later) 0 a end refl
      (omega arith) 0 0 (more_turns (min n 1000)) refl (no_acts end)))))

  -- the sum on its way back
  abbrev summed : ℤ → Passed
  summed total = record { msg = msgs.Int total; by = place bp 2 }

  -- the loop's session at its end
  abbrev whole : ℤ → List Passed → List ℕ → Session
  whole total sent takers = session_at done done sent (summed total ∷ []) takers (place bp 0 ∷ [])

  -- from the point after the loop to the end of all three
  from_loop : (t u : ℕ) (vars : Vars) (total : ℤ) (sent : List Passed) (takers : List ℕ) → vars 12 ≡ Some (Int total) → t < 9000 → u < 9900
      → Leads (looped line v bp bs (ended no_vars 2) others (taken ∷ later) t u vars sent takers)
      (behind bp bs (ended (with_value no_vars 6 (Int total)) (t + 1 + 1) ∷ ended no_vars 2 ∷ ended vars (u + 1 + 1 + 1) ∷ others) (whole total sent takers ∷ taken ∷ later))
  from_loop t u vars total sent takers known few few_too =
      let sum = with_value no_vars 6 (Int total) in
      let end = behind bp bs (ended sum (t + 1 + 1) ∷ ended no_vars 2 ∷ ended vars (u + 1 + 1 + 1) ∷ others) (whole total sent takers ∷ taken ∷ later) in
      let b = ended no_vars 2 in
      let a = sender_at bs sender_rest t in
      let c = adder_at bs adder_rest vars u in
      let closing = adder_at bs (statement (close 9) ∷ statement (close 11) ∷ []) vars (u + 1) in
      let leaving : Program = record { todo = statement (close 11) ∷ []; vars = vars; ends = (11, end_behind bs 1 1) ∷ []; steps = u + 1 + 1; peers = peers } in
      let going : Program = record { todo = statement (close 5) ∷ []; vars = sum; ends = (5, end_behind bs 0 0) ∷ []; steps = t + 1; peers = peers } in
      let zs = whole total sent takers ∷ taken ∷ later in
      send_then bp bs (a ∷ b ∷ c ∷ others) (session_at (message Into int done) (message Out int done) sent [] takers [] ∷ taken ∷ later) 2 c end refl (omega (arith, few_too)) 0 1 (msgs.Int total)
      (ap (λ o. want_send (Some (end_behind bs 0 1)) (option_map message_of o)) known)
      (take_then bp bs (a ∷ b ∷ closing ∷ others) (session_at (message Into int done) done sent (summed total ∷ []) takers [] ∷ taken ∷ later) 0 a end refl (omega (arith, few)) 0 0 (awaits.Value scalars.Int)
      (summed total) refl refl refl
      (close_then bp bs (going ∷ b ∷ closing ∷ others) zs 0 going end refl (omega (arith, few)) (end_behind bs 0 0) refl
      (close_then bp bs (ended sum (t + 1 + 1) ∷ b ∷ closing ∷ others) zs 2 closing end refl (omega (arith, few_too)) (end_behind bs 0 1) refl
      (close_then bp bs (ended sum (t + 1 + 1) ∷ b ∷ leaving ∷ others) zs 2 leaving end refl (omega (arith, few_too)) (end_behind bs 1 1) refl (no_acts end)))))

  pub record IsRun (n : ℕ) : Type 0 where
    pub outcome : Outcome
    pub steps : outcome.sender_steps + outcome.adder_steps ≡ 5 * n + 9
    pub messages : sent_in outcome.one + sent_in outcome.other ≡ 2 * n + 3
    pub leads : Leads (starting n) (behind bp bs (parties_of outcome others) (sessions_of outcome later))

  -- so runs a group whose loop turns n times
  pub group_runs : (n : ℕ) → n ≤ 1000 → IsRun n
  group_runs n le =
      let none = with_value no_vars 12 (Int (pos 0)) in
      let known : none 12 ≡ Some (Int (pos 0)) = refl in
      let b = ended no_vars 2 in
      let l = loop_runs line v bp bs (ended no_vars 2) others (taken ∷ later) (min n 1000) 1 2 none (pos 0) [] [] known refl (omega (arith, le)) (omega (arith, le)) in
      let end = from_loop l.sender_steps l.adder_steps l.vars l.total l.sent l.takers l.known (omega (arith, le, l.sender_is)) (omega (arith, le, l.adder_is)) in
      let outcome : Outcome = record {
        sender_vars = with_value no_vars 6 (Int l.total);
        sender_steps = l.sender_steps + 1 + 1;
        adder_vars = l.vars;
        adder_steps = l.adder_steps + 1 + 1 + 1;
        one = whole l.total l.sent l.takers;
        other = taken;
      } in
      let first = looping line v bp bs b others (taken ∷ later) (min n 1000) 1 2 none [] [] in
      let last = behind bp bs (parties_of outcome others) (sessions_of outcome later) in
      record {
        outcome = outcome;
        steps = omega (arith, le, l.sender_is, l.adder_is);
        messages = omega (arith, le, l.count);
        leads = leads_trans (starting n) first last (to_loop n) (leads_trans first (looped line v bp bs b others (taken ∷ later) l.sender_steps l.adder_steps l.vars l.sent l.takers) last l.leads end);
      }
