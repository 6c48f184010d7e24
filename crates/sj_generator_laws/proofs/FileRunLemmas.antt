-- The run of the generated file, one group after another, and what is counted at its end.
use Rattle.std.proofs.Common.{◌≡◌, ℕ, ◌+◌, ◌*◌, ◌≤◌, List, [], ◌∷◌, refl, subst, arith}
use Rattle.sj_semantics.specs.declared.Verdict.TheVariants.{Done}
use Rattle.sj_semantics.specs.Ends.{Session}
use Rattle.sj_semantics.specs.Program.{Program}
use Rattle.sj_semantics.specs.Run.{end_of}
use Rattle.sj_semantics.specs.World.{start_of, World}
use Rattle.sj_semantics.specs.State.{verdict_of}
use Rattle.sj_semantics_laws.proofs.FinishLemmas.{end_is_settled, end_is_reached}
use Rattle.sj_semantics_laws.proofs.RunLemmas.{Leads, leads_trans, same_end}
use Rattle.sj_semantics_laws.proofs.StartLemmas.{start_is_unshared}
use Rattle.sj_generator_laws.specs.Counts.{messages_in, steps_in}
use Rattle.sj_semantics.specs.Requests.{no_requests}
use Rattle.sj_generator_laws.specs.GeneratedFile.{generated_file, protocols}
use Rattle.sj_generator_laws.proofs.BehindLemmas.{behind}
use Rattle.sj_generator_laws.proofs.EndedLemmas.{HaveEnded, ended_is_settled}
use Rattle.sj_generator_laws.proofs.CountLemmas.{steps_of, messages_of}
use Rattle.sj_generator_laws.proofs.GroupStateLemmas.{Outcome, parties_of, sessions_of}
use Rattle.sj_generator_laws.proofs.GroupRunLemmas.{first_sender, first_giver, first_adder, first_session, second_session, group_runs}

-- the sessions of a group at the start, and its parties after other sessions
abbrev fresh_two : List Session → List Session
fresh_two zs = first_session ∷ second_session ∷ zs

abbrev fresh_three : ℕ → ℕ → List Session → ℕ → List Program → List Program
fresh_three line v bs n gs = first_sender line v bs n ∷ first_giver bs ∷ first_adder line bs ∷ gs

-- so many groups of sessions
abbrev two : List Session
two = fresh_two []

abbrev four : List Session
four = fresh_two two

abbrev six : List Session
six = fresh_two four

abbrev eight : List Session
eight = fresh_two six

-- the parties of the last groups
abbrev last_three : ℕ → List Program
last_three n = fresh_three 93 5 eight n []

abbrev last_six : ℕ → List Program
last_six n = fresh_three 71 4 six n (last_three n)

abbrev last_nine : ℕ → List Program
last_nine n = fresh_three 49 3 four n (last_six n)

abbrev last_twelve : ℕ → List Program
last_twelve n = fresh_three 27 2 two n (last_nine n)

-- the five groups at their ends
abbrev all_ended : Outcome → Outcome → Outcome → Outcome → Outcome → World
all_ended a b c d e = record {
  protocols = protocols;
  parties = parties_of a (parties_of b (parties_of c (parties_of d (parties_of e []))));
  sessions = sessions_of a (sessions_of b (sessions_of c (sessions_of d (sessions_of e []))));
  requests = no_requests;
}

have_ended : (o : Outcome) (gs : List Program) → HaveEnded gs → HaveEnded (parties_of o gs)
have_ended o gs h = (refl, (refl, (refl, h)))

-- the five outcomes, and the run to where all have ended
record Whole (n : ℕ) : Type 0 where
  pub a : Outcome
  pub b : Outcome
  pub c : Outcome
  pub d : Outcome
  pub e : Outcome
  pub leads : Leads (start_of (generated_file n)) (all_ended a b c d e)
  pub messages : messages_in (all_ended a b c d e) ≡ 10 * n + 15
  pub steps : steps_in (all_ended a b c d e) ≡ 25 * n + 55

whole_run : (n : ℕ) → n ≤ 1000 → Whole n
whole_run n le =
    let one = group_runs 5 1 [] [] (last_twelve n) eight n le in
    let a = one.outcome in
    let other = group_runs 27 2 (parties_of a []) (sessions_of a []) (last_nine n) six n le in
    let b = other.outcome in
    let third = group_runs 49 3 (parties_of a (parties_of b [])) (sessions_of a (sessions_of b [])) (last_six n) four n le in
    let c = third.outcome in
    let fourth = group_runs 71 4 (parties_of a (parties_of b (parties_of c []))) (sessions_of a (sessions_of b (sessions_of c []))) (last_three n) two n le in
    let d = fourth.outcome in
    let last = group_runs 93 5 (parties_of a (parties_of b (parties_of c (parties_of d [])))) (sessions_of a (sessions_of b (sessions_of c (sessions_of d [])))) [] [] n le in
    let e = last.outcome in
    let to_a : World = behind [] [] (parties_of a (last_twelve n)) (sessions_of a eight) in
    let to_b : World = behind [] [] (parties_of a (parties_of b (last_nine n))) (sessions_of a (sessions_of b six)) in
    let to_c : World = behind [] [] (parties_of a (parties_of b (parties_of c (last_six n)))) (sessions_of a (sessions_of b (sessions_of c four))) in
    let to_d : World = behind [] [] (parties_of a (parties_of b (parties_of c (parties_of d (last_three n))))) (sessions_of a (sessions_of b (sessions_of c (sessions_of d two)))) in
    let start = start_of (generated_file n) in
    let end = all_ended a b c d e in
    record {
      a = a;
      b = b;
      c = c;
      d = d;
      e = e;
      leads = leads_trans start to_a end one.leads (leads_trans to_a to_b end other.leads (leads_trans to_b to_c end third.leads (leads_trans to_c to_d end fourth.leads last.leads)));
      messages = omega (
        arith,
        one.messages,
        other.messages,
        third.messages,
        fourth.messages,
        last.messages,
        messages_of a (sessions_of b (sessions_of c (sessions_of d (sessions_of e [])))),
        messages_of b (sessions_of c (sessions_of d (sessions_of e []))),
        messages_of c (sessions_of d (sessions_of e [])),
        messages_of d (sessions_of e []),
        messages_of e [],
      );
      steps = omega (
        arith,
        one.steps,
        other.steps,
        third.steps,
        fourth.steps,
        last.steps,
        steps_of a (parties_of b (parties_of c (parties_of d (parties_of e [])))),
        steps_of b (parties_of c (parties_of d (parties_of e []))),
        steps_of c (parties_of d (parties_of e [])),
        steps_of d (parties_of e []),
        steps_of e [],
      );
    }

pub record EndsSo (n : ℕ) (w : World) : Type 0 where
  pub messages : messages_in w ≡ 10 * n + 15
  pub steps : steps_in w ≡ 25 * n + 55
  pub verdict : verdict_of w ≡ Done

pub file_ends_so : (n : ℕ) → n ≤ 1000 → EndsSo n (end_of (generated_file n))
file_ends_so n le =
    let file = generated_file n in
    let r = whole_run n le in
    let end = all_ended r.a r.b r.c r.d r.e in
    let of_e = parties_of r.e [] in
    let of_d = parties_of r.d of_e in
    let of_c = parties_of r.c of_d in
    let over = have_ended r.a (parties_of r.b of_c) (have_ended r.b of_c (have_ended r.c of_d (have_ended r.d of_e (have_ended r.e [] tt)))) in
    let reached = end_is_reached file in
    let same : end ≡ end_of file = same_end (start_of file) end (end_of file) r.leads.acts reached.acts (start_is_unshared file (omega arith)) r.leads.leads reached.leads (ended_is_settled end over) (end_is_settled file) in
    subst (EndsSo n) same (record { messages = r.messages; steps = r.steps; verdict = refl })
