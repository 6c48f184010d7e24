-- The loop of a group: the first party sends more and a number, and the third takes both and adds.
use Rattle.std.proofs.Common.{◌≡◌, ℕ, zero, suc, ◌+◌, ◌*◌, ◌<◌, true, false, ℤ, pos, List, [], ◌∷◌, ◌++◌, length, Some, option_map, option_and_then, refl, ap, arith}
use Rattle.std.specs.Int.{int_wrapping_add, w64}
use Rattle.sj_base.specs.declared.Msg.TheVariants as msgs
use Rattle.sj_lang.specs.declared.proto.Way.TheVariants.{Out, Into}
use Rattle.sj_lang.specs.declared.party.Op.TheVariants.{Add}
use Rattle.sj_lang.specs.declared.party.Scalar.TheVariants as scalars
use Rattle.sj_lang.specs.Place.{done, message, int}
use Rattle.sj_lang.specs.Term as term
use Rattle.sj_lang.specs.Code.{send, take_value, inwhile, let_be}
use Rattle.sj_semantics.specs.declared.Awaits.TheVariants as awaits
use Rattle.sj_semantics.specs.declared.Passed.{Passed}
use Rattle.sj_semantics.specs.declared.Value.TheVariants.{Int}
use Rattle.sj_semantics.specs.declared.Want.TheVariants as wants
use Rattle.sj_semantics.specs.Ends.{Session}
use Rattle.sj_semantics.specs.Program.{statement, turns, Program}
use Rattle.sj_semantics.specs.Steps.{assigned_vars, turns_ahead}
use Rattle.sj_semantics.specs.Uses.{place_behind}
use Rattle.sj_semantics.specs.Value.{Vars, worth, with_value, result_of}
use Rattle.sj_semantics.specs.Wants.{more_turns}
use Rattle.sj_semantics.specs.World.{World}
use Rattle.sj_semantics_laws.proofs.RunLemmas.{Leads, no_acts, leads_trans}
use Rattle.sj_generator_laws.specs.GeneratedFile.{numbers}
use Rattle.sj_generator_laws.proofs.BehindLemmas.{place, behind, local_then, send_then, take_then}
use Rattle.sj_generator_laws.proofs.LastLemmas.{slice_get-last, one_more, both_more}
use Rattle.sj_generator_laws.proofs.GroupStateLemmas.{sends_numbers, turn, adding, sender_rest, adder_rest, sender_at, adder_at, session_at, sending}

-- a group by the line of its first party and the number that this one sends, after other parties
-- and sessions and before others, with its second party
module _ (line v : ℕ) (bp : List Program) (bs : List Session) (other : Program) (others : List Program) (later : List Session) where
  -- the sender has said whether it turns once more
  abbrev pub looping : ℕ → ℕ → ℕ → Vars → List Passed → List ℕ → World
  looping n t u vars sent takers =
      behind bp bs (sender_at bs (turns_ahead 5 n (turn line v) sender_rest) t ∷ other ∷ adder_at bs (statement (inwhile 9 (adding line)) ∷ adder_rest) vars u ∷ others)
      (session_at (place_behind sends_numbers Out (more_turns n)) numbers (sent ++ sending bp (more_turns n) ∷ []) [] takers [] ∷ later)

  -- both are after their loops
  abbrev pub looped : ℕ → ℕ → Vars → List Passed → List ℕ → World
  looped t u vars sent takers =
      behind bp bs (sender_at bs sender_rest t ∷ other ∷ adder_at bs adder_rest vars u ∷ others) (session_at (message Into int done) (message Out int done) sent [] takers [] ∷ later)

  pub record Loops (start : World) (t u l : ℕ) : Type 0 where
    pub vars : Vars
    pub total : ℤ
    pub known : vars 12 ≡ Some (Int total)
    pub sender_steps : ℕ
    pub sender_is : sender_steps ≡ t
    pub adder_steps : ℕ
    pub adder_is : adder_steps ≡ u
    pub sent : List Passed
    pub takers : List ℕ
    pub count : length sent ≡ l
    pub leads : Leads start (looped sender_steps adder_steps vars sent takers)

  -- one turn, from one saying to the next
  module _ (m t u : ℕ) (vars : Vars) (total : ℤ) (known : vars 12 ≡ Some (Int total)) (sent : List Passed) (takers : List ℕ) (even : length sent ≡ length takers)
      (few : t < 9000) (few_too : u < 9000) where
    abbrev taken : List ℕ
    taken = (takers ++ place bp 2 ∷ []) ++ place bp 2 ∷ []

    abbrev put : List Passed
    put = (sent ++ sending bp (msgs.More true) ∷ []) ++ sending bp (msgs.Int (pos v)) ∷ []

    abbrev with_number : Vars
    with_number = with_value vars 13 (Int (pos v))

    sum_is : worth with_number (term.two Add (term.var 12) (term.var 13)) ≡ Some (Int (int_wrapping_add w64 total (pos v)))
    sum_is = ap (option_and_then (λ a. option_and_then (result_of Add a) (with_number 13))) known

    abbrev with_sum : Vars
    with_sum = assigned_vars with_number 12 (worth with_number (term.two Add (term.var 12) (term.var 13)))

    sum_known : with_sum 12 ≡ Some (Int (int_wrapping_add w64 total (pos v)))
    sum_known = ap (λ o. assigned_vars with_number 12 o 12) sum_is

    one_turn : Leads (looping (suc m) t u vars sent takers) (looping m (t + 1 + 1) (u + 1 + 1 + 1) with_sum put taken)
    one_turn =
        let end = looping m (t + 1 + 1) (u + 1 + 1 + 1) with_sum put taken in
        let said = sending bp (msgs.More true) in
        let given = sending bp (msgs.Int (pos v)) in
        let again = statement (inwhile 9 (adding line)) ∷ adder_rest in
        let turning = turns 5 m (turn line v) ∷ sender_rest in
        let add = statement (let_be 12 (term.two Add (term.var 12) (term.var 13))) in
        let sender_first = sender_at bs (statement (send 5 (term.int (pos v))) ∷ turning) t in
        let sender_then = sender_at bs turning (t + 1) in
        let adder_first = adder_at bs again vars u in
        let adder_second = adder_at bs (statement (take_value 9 13 scalars.Int) ∷ add ∷ again) vars (u + 1) in
        let adder_third = adder_at bs (add ∷ again) with_number (u + 1 + 1) in
        let adder_last = adder_at bs again with_sum (u + 1 + 1 + 1) in
        let out = message Out int sends_numbers in
        let into = message Into int numbers in
        let sent_one = sent ++ said ∷ [] in
        let taken_one = takers ++ place bp 2 ∷ [] in
        take_then bp bs (sender_first ∷ other ∷ adder_first ∷ others) (session_at out numbers sent_one [] takers [] ∷ later) 2 adder_first end refl (omega (arith, few_too)) 0 1 awaits.MoreOrStop said refl
        (slice_get-last sent takers said even) refl
        (send_then bp bs (sender_first ∷ other ∷ adder_second ∷ others) (session_at out into sent_one [] taken_one [] ∷ later) 0 sender_first end refl (omega (arith, few)) 0 0 (msgs.Int (pos v)) refl
        (take_then bp bs (sender_then ∷ other ∷ adder_second ∷ others) (session_at sends_numbers into put [] taken_one [] ∷ later) 2 adder_second end refl (omega (arith, few_too)) 0 1 (awaits.Value scalars.Int) given refl
        (slice_get-last sent_one taken_one given (both_more sent takers said (place bp 2) even)) refl
        (local_then bp bs (sender_then ∷ other ∷ adder_third ∷ others) (session_at sends_numbers numbers put [] taken [] ∷ later) 2 adder_third end refl (omega (arith, few_too)) (ap (option_map (λ x. wants.Local)) sum_is)
        (send_then bp bs (sender_then ∷ other ∷ adder_last ∷ others) (session_at sends_numbers numbers put [] taken [] ∷ later) 0 sender_then end refl (omega (arith, few)) 0 0 (more_turns m) refl
        (no_acts end)))))

  -- the last saying is taken
  last_turn : (t u : ℕ) (vars : Vars) (sent : List Passed) (takers : List ℕ) → length sent ≡ length takers → u < 9000
      → Leads (looping 0 t u vars sent takers) (looped t (u + 1) vars (sent ++ sending bp (msgs.More false) ∷ []) (takers ++ place bp 2 ∷ []))
  last_turn t u vars sent takers even few =
      let end = looped t (u + 1) vars (sent ++ sending bp (msgs.More false) ∷ []) (takers ++ place bp 2 ∷ []) in
      let said = sending bp (msgs.More false) in
      let adder_first = adder_at bs (statement (inwhile 9 (adding line)) ∷ adder_rest) vars u in
      take_then bp bs (sender_at bs sender_rest t ∷ other ∷ adder_first ∷ others) (session_at (message Into int done) numbers (sent ++ said ∷ []) [] takers [] ∷ later) 2 adder_first end refl (omega (arith, few)) 0 1
      awaits.MoreOrStop said refl (slice_get-last sent takers said even) refl (no_acts end)

  -- all turns
  pub loop_runs : (n t u : ℕ) (vars : Vars) (total : ℤ) (sent : List Passed) (takers : List ℕ) → vars 12 ≡ Some (Int total) → length sent ≡ length takers → t + 2 * n < 9000 → u + 3 * n < 9000
      → Loops (looping n t u vars sent takers) (t + 2 * n) (u + 3 * n + 1) (length sent + 2 * n + 1)
  loop_runs zero t u vars total sent takers known even few few_too = record {
    vars = vars;
    total = total;
    known = known;
    sender_steps = t;
    sender_is = omega arith;
    adder_steps = u + 1;
    adder_is = omega arith;
    sent = sent ++ sending bp (msgs.More false) ∷ [];
    takers = takers ++ place bp 2 ∷ [];
    count = omega (arith, one_more sent (sending bp (msgs.More false)));
    leads = last_turn t u vars sent takers even (omega (arith, few_too));
  }
  loop_runs (suc m) t u vars total sent takers known even few few_too =
      let turned_once = one_turn m t u vars total known sent takers even (omega (arith, few)) (omega (arith, few_too)) in
      let said = sending bp (msgs.More true) in
      let given = sending bp (msgs.Int (pos v)) in
      let next = looping m (t + 1 + 1) (u + 1 + 1 + 1) (with_sum m t u vars total known sent takers even (omega (arith, few)) (omega (arith, few_too))) ((sent ++ said ∷ []) ++ given ∷ []) ((takers ++ place bp 2 ∷ []) ++ place bp 2 ∷ []) in
      let l = loop_runs m (t + 1 + 1) (u + 1 + 1 + 1) (with_sum m t u vars total known sent takers even (omega (arith, few)) (omega (arith, few_too))) (int_wrapping_add w64 total (pos v))
      ((sent ++ said ∷ []) ++ given ∷ []) ((takers ++ place bp 2 ∷ []) ++ place bp 2 ∷ [])
      (sum_known m t u vars total known sent takers even (omega (arith, few)) (omega (arith, few_too)))
      (both_more (sent ++ said ∷ []) (takers ++ place bp 2 ∷ []) given (place bp 2) (both_more sent takers said (place bp 2) even)) (omega (arith, few)) (omega (arith, few_too)) in
      record {
        vars = l.vars;
        total = l.total;
        known = l.known;
        sender_steps = l.sender_steps;
        sender_is = omega (arith, l.sender_is);
        adder_steps = l.adder_steps;
        adder_is = omega (arith, l.adder_is);
        sent = l.sent;
        takers = l.takers;
        count = omega (arith, l.count, one_more sent said, one_more (sent ++ said ∷ []) given);
        leads = leads_trans (looping (suc m) t u vars sent takers) next (looped l.sender_steps l.adder_steps l.vars l.sent l.takers) turned_once l.leads;
      }
