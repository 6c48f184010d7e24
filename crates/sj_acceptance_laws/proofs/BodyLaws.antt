-- The tests of the parties' bodies.
use Rattle.std.proofs.Common.{◌≡◌, ℕ, zero, suc, List, [], ◌∷◌, ◌++◌, ◌==◌, Option, Some, None, true, false, cond, if◌then◌else◌, refl, ap, sym, ◌∙◌, subst, append_assoc}
use Rattle.std.specs.Ordering.{nat_cmp}
use Rattle.std.specs.List.{slice_get}
use Rattle.std.specs.FinMap.{FinMap, get, insert, empty, get-empty}
use Rattle.std.proofs.lemmas.Bool.Decides.{Decides-eqb, Decides-like, same_from_decides}
use Rattle.sj_lang.specs.Place.{Place}
use Rattle.sj_lang.specs.FileAt.{FileAt, ProtocolAt, PartyAt, ConnectAt, DeclAt, named, party_named, party_names, body_named}
use Rattle.sj_acceptance.specs.Environment.{Env, put}
use Rattle.sj_acceptance.specs.EnvAt.{EnvAt, env_of}
use Rattle.sj_acceptance.specs.Follows.{Follows}
use Rattle.sj_acceptance.specs.Accepted.{place_of_party, places_from, start_env, EndsWell}
use Rattle.sj_acceptance.specs.Faults.{first_fault}
use Rattle.sj_acceptance.specs.Sameness.{is_same_ends}
use Rattle.sj_acceptance.specs.Tests.{code_tests, after_code}
use Rattle.sj_acceptance.specs.FileTests.{with_end_of, ends_of_party, at_start, one_body_tests, body_tests}
use Rattle.sj_acceptance_laws.proofs.FaultLemmas.{first_passes, all_pass, pass_both}
use Rattle.sj_acceptance_laws.proofs.SamenessLemmas.{is_same_ends-Decides}
use Rattle.sj_acceptance_laws.proofs.SeenLemmas.{put_here, same_from_get, same_env}
use Rattle.sj_acceptance_laws.proofs.CodeLaws.{follows_code, passes_code}
use Rattle.sj_acceptance_laws.proofs.PairLemmas.{Pairs}
use Rattle.sj_acceptance_laws.proofs.NameLaws.{OtherParty}
use Rattle.sj_acceptance_laws.proofs.PartyLemmas.{party_is}

eq_turned : (m n : ℕ) → (m == n) ≡ (n == m)
eq_turned m n = same_from_decides (m == n) (n == m) (Decides-eqb m n) (Decides-like (n == m) sym sym (Decides-eqb n m))

named-append : {X : Type 0} (n : ℕ) (b : ℕ × X) (bs : List (ℕ × X)) (f : ℕ → Option X) → named bs n ≡ f n → named (b ∷ bs) n ≡ put f b.0 (Some b.1) n
named-append n b bs f e = ap (λ c. if c then Some b.1 else named bs n) (eq_turned b.0 n) ∙ ap (λ o. if n == b.0 then Some b.1 else o) e

-- where the parties' names are once, the party of that number starts as its name says
module _ (file : FileAt) (p : ℕ) (q : PartyAt) (once : Pairs OtherParty file.parties) (at : slice_get file.parties p ≡ Some q) where
  one_end : (d : DeclAt) (ends : FinMap nat_cmp Place) (es : List (ℕ × Place)) (n : ℕ) → get ends n ≡ named es n → get (with_end_of file.protocols q.name d ends) n ≡ named (place_of_party file p d ++ es) n
  one_end d ends es n h =
      let body = body_named file.protocols d.protocol in
      elim (d.party == q.name) as (λ b. (party_named file.parties d.party == p) ≡ b
      → get (if b then insert ends d.name body else ends) n ≡ named ((if party_named file.parties d.party == p then (d.name, body) ∷ [] else []) ++ es) n) [
        | true ↦ λ e. put_here ends d.name body n ∙ sym (named-append n (d.name, body) es (λ m. get ends m) (sym h)) ∙ ap (λ c. named ((if c then (d.name, body) ∷ [] else []) ++ es) n) (sym e)
        | false ↦ λ e. h ∙ ap (λ c. named ((if c then (d.name, body) ∷ [] else []) ++ es) n) (sym e)
      ] (party_is file.parties p d.party q once at)

  each_end : (cs : List ConnectAt) (n : ℕ) → get (ends_of_party file.protocols q.name cs) n ≡ named (places_from file p cs) n
  each_end [] n = get-empty nat_cmp n
  each_end (c ∷ cs) n =
      one_end c.first (with_end_of file.protocols q.name c.second (ends_of_party file.protocols q.name cs)) (place_of_party file p c.second ++ places_from file p cs) n
      (one_end c.second (ends_of_party file.protocols q.name cs) (places_from file p cs) n (each_end cs n))
      ∙ ap (λ es. named es n) (sym (append_assoc (place_of_party file p c.first) (place_of_party file p c.second) (places_from file p cs)))

  abbrev start : EnvAt
  start = at_start file.protocols file.connects q.name

  seen-start : env_of start ≡ start_env file p
  seen-start = same_env (env_of start) (start_env file p) (λ n. each_end file.connects n) (λ n. get-empty nat_cmp n)

  pub body_from : first_fault (one_body_tests file.protocols (party_names file.parties) file.connects q) ≡ None → EndsWell file p q
  body_from h =
      let a = all_pass (code_tests file.protocols (party_names file.parties) start q.code) _ h in
      let last = after_code file.protocols start q.code in
      let none = (is_same_ends-Decides last.ends empty).0 (first_passes 12 q.line (is_same_ends last.ends empty) [] a.1).0 in
      record {
        last = env_of last;
        follows = subst (λ (v : Env). Follows file.protocols (party_names file.parties) q.code v (env_of last)) seen-start (follows_code file.protocols (party_names file.parties) q.code start a.0);
        no_end = λ n. ap (λ m. get m n) none ∙ get-empty nat_cmp n;
      }

  pub body_to : EndsWell file p q → first_fault (one_body_tests file.protocols (party_names file.parties) file.connects q) ≡ None
  body_to w =
      let last = after_code file.protocols start q.code in
      let a = passes_code file.protocols (party_names file.parties) q.code start w.last (subst (λ (v : Env). Follows file.protocols (party_names file.parties) q.code v w.last) (sym seen-start) w.follows) in
      let none : last.ends ≡ empty = same_from_get last.ends empty (λ n. ap (λ (v : Env). v.places n) (sym a.1) ∙ w.no_end n ∙ sym (get-empty nat_cmp n)) in
      pass_both (code_tests file.protocols (party_names file.parties) start q.code) ((12, q.line, is_same_ends last.ends empty) ∷ []) a.0
      (ap (λ b. cond b None (Some (12, q.line))) ((is_same_ends-Decides last.ends empty).1 none))

-- each body passes exactly where all do
module _ (ps : List ProtocolAt) (names : List ℕ) (cs : List ConnectAt) where
  abbrev EachPasses : List PartyAt → Type 0
  EachPasses parties = (p : ℕ) (q : PartyAt) → slice_get parties p ≡ Some q → first_fault (one_body_tests ps names cs q) ≡ None

  pub each_body : (parties : List PartyAt) → first_fault (body_tests ps names cs parties) ≡ None → EachPasses parties
  each_body [] h p q e = absurd (cc)
  each_body (r ∷ parties) h zero q e = let same : r ≡ q = cc in subst (λ (t : PartyAt). first_fault (one_body_tests ps names cs t) ≡ None) same (all_pass (one_body_tests ps names cs r) (body_tests ps names cs parties) h).0
  each_body (r ∷ parties) h (suc p) q e = each_body parties (all_pass (one_body_tests ps names cs r) (body_tests ps names cs parties) h).1 p q e

  pub all_bodies : (parties : List PartyAt) → EachPasses parties → first_fault (body_tests ps names cs parties) ≡ None
  all_bodies [] h = refl
  all_bodies (r ∷ parties) h = pass_both (one_body_tests ps names cs r) (body_tests ps names cs parties) (h 0 r refl) (all_bodies parties (λ p q e. h (suc p) q e))
