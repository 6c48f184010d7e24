-- The tests of `send`, `let` and `close` all pass exactly where an environment
-- follows, and then that one.
use Rattle.std.proofs.Common.{◌≡◌, ℕ, List, [], ◌∷◌, ◌++◌, Option, Some, None, true, cond, is_some, unwrap_or, refl, ap, sym, ◌∙◌}
use Rattle.std.proofs.Common as common
use Rattle.std.specs.FinMap.{get}
use Rattle.sj_lang.specs.declared.proto.Way.TheVariants.{Out, Into}
use Rattle.sj_lang.specs.Term.{Term}
use Rattle.sj_lang.specs.Place.{Place, done, message, choice, repeat}
use Rattle.sj_lang.specs.Code.{send, close, let_be}
use Rattle.sj_lang.specs.FileAt.{ProtocolAt}
use Rattle.sj_lang.specs.ItemCount.{is_done}
use Rattle.sj_acceptance.specs.Environment.{Env}
use Rattle.sj_acceptance.specs.EnvAt.{EnvAt, env_of, with_live, without_live, with_known}
use Rattle.sj_acceptance.specs.Kinds.{carried_by}
use Rattle.sj_acceptance.specs.Statements.{IsSend, IsClose, IsLet}
use Rattle.sj_acceptance.specs.Faults.{Test, first_fault}
use Rattle.sj_acceptance.specs.KindTests.{kind_of, term_tests, is_free_for}
use Rattle.sj_acceptance.specs.FirstItem.{is_message, carried_kind, rest_of, is_carried_as}
use Rattle.sj_acceptance.specs.Tests.{deed_tests, after_deed}
use Rattle.sj_acceptance_laws.proofs.FaultLemmas.{first_passes, all_pass, pass_both}
use Rattle.sj_acceptance_laws.proofs.KindLaws.{has_kind, kind_passes, carried_is, carried_by-passes, free_kind, free_passes}
use Rattle.sj_acceptance_laws.proofs.SeenLemmas.{seen-moved, seen-without, seen-knowing}

-- no live end of that name
pub no_end : (o : Option Place) → common.not (is_some o) ≡ true → o ≡ None
no_end None h = refl
no_end (Some p) h = absurd (cc)

module _ (ps : List ProtocolAt) (parties : List ℕ) (line : ℕ) (env : EnvAt) (x : ℕ) where
  -- what `send` asks, by the place of its end
  abbrev send_tests : Term → Option Place → List Test
  send_tests e o = (5, line, is_some o) ∷ (6, line, is_message Out (unwrap_or o done)) ∷ term_tests line env.variables e ++ (7, line, is_carried_as (kind_of env.variables e) (carried_kind (unwrap_or o done))) ∷ []

  send_from : (e : Term) (o : Option Place) → get env.ends x ≡ o → first_fault (send_tests e o) ≡ None → IsSend (env_of env) x e (env_of (with_live env x (rest_of (unwrap_or o done))))
  send_from e None g h = absurd (cc)
  send_from e (Some done) g h = absurd (cc)
  send_from e (Some (message Out k rest)) g h =
      let p = all_pass (term_tests line env.variables e) _ h in
      let kind = carried_is (kind_of env.variables e) k (first_passes 7 line _ [] p.1).0 in
      record {
        kind = kind_of env.variables e;
        rest = rest;
        there = g ∙ ap (λ j. Some (message Out j rest)) kind;
        typed = has_kind line env.variables e p.0;
        leaves = seen-moved env x rest;
      }
  send_from e (Some (message Into k rest)) g h = absurd (cc)
  send_from e (Some (choice w arms rest)) g h = absurd (cc)
  send_from e (Some (repeat w body rest)) g h = absurd (cc)

  pub send_follows : (e : Term) → first_fault (deed_tests ps parties line env (send x e)) ≡ None → IsSend (env_of env) x e (env_of (after_deed ps env (send x e)))
  send_follows e h = send_from e (get env.ends x) refl h

  pub send_passes : (e : Term) (next : Env) → IsSend (env_of env) x e next → (first_fault (deed_tests ps parties line env (send x e)) ≡ None) × (next ≡ env_of (after_deed ps env (send x e)))
  send_passes e next d =
      let p = kind_passes line env.variables e d.kind d.typed in
      let last : cond (is_carried_as (kind_of env.variables e) (carried_by d.kind)) None (Some (7, line)) ≡ None =
      ap (λ j. cond (is_carried_as j (carried_by d.kind)) None (Some (7, line))) (sym p.1) ∙ ap (λ b. cond b None (Some (7, line))) (carried_by-passes d.kind) in (
        ap (λ o. first_fault (send_tests e o)) d.there ∙ pass_both (term_tests line env.variables e) _ p.0 last,
        d.leaves ∙ sym (seen-moved env x d.rest) ∙ ap (λ (o : Option Place). env_of (with_live env x (rest_of (unwrap_or o done)))) (sym d.there),
      )

  abbrev close_tests : Option Place → List Test
  close_tests o = (5, line, is_some o) ∷ (11, line, is_done (unwrap_or o done)) ∷ []

  close_from : (o : Option Place) → get env.ends x ≡ o → first_fault (close_tests o) ≡ None → IsClose (env_of env) x (env_of (without_live env x))
  close_from None g h = absurd (cc)
  close_from (Some done) g h = record { there = g; leaves = seen-without env x }
  close_from (Some (message w k rest)) g h = absurd (cc)
  close_from (Some (choice w arms rest)) g h = absurd (cc)
  close_from (Some (repeat w body rest)) g h = absurd (cc)

  pub close_follows : first_fault (deed_tests ps parties line env (close x)) ≡ None → IsClose (env_of env) x (env_of (after_deed ps env (close x)))
  close_follows h = close_from (get env.ends x) refl h

  pub close_passes : (next : Env) → IsClose (env_of env) x next → (first_fault (deed_tests ps parties line env (close x)) ≡ None) × (next ≡ env_of (after_deed ps env (close x)))
  close_passes next d = (ap (λ (o : Option Place). first_fault (close_tests o)) d.there, d.leaves ∙ sym (seen-without env x))

module _ (ps : List ProtocolAt) (parties : List ℕ) (line : ℕ) (env : EnvAt) (n : ℕ) (e : Term) where
  pub let_follows : first_fault (deed_tests ps parties line env (let_be n e)) ≡ None → IsLet (env_of env) n e (env_of (after_deed ps env (let_be n e)))
  let_follows h =
      let p = all_pass (term_tests line env.variables e) _ h in
      let q = first_passes 3 line (common.not (is_some (get env.ends n))) ((7, line, is_free_for (get env.variables n) (kind_of env.variables e)) ∷ []) p.1 in
      let r = first_passes 7 line (is_free_for (get env.variables n) (kind_of env.variables e)) [] q.1 in
      record {
        kind = kind_of env.variables e;
        typed = has_kind line env.variables e p.0;
        free = record { no_end = no_end (get env.ends n) q.0; no_other = free_kind (get env.variables n) _ r.0 };
        leaves = seen-knowing env n (kind_of env.variables e);
      }

  pub let_passes : (next : Env) → IsLet (env_of env) n e next → (first_fault (deed_tests ps parties line env (let_be n e)) ≡ None) × (next ≡ env_of (after_deed ps env (let_be n e)))
  let_passes next d =
      let p = kind_passes line env.variables e d.kind d.typed in
      let free : is_free_for (get env.variables n) (kind_of env.variables e) ≡ true = ap (is_free_for (get env.variables n)) (sym p.1) ∙ free_passes (get env.variables n) d.kind d.free.no_other in (
        pass_both (term_tests line env.variables e) _ p.0
            (ap (λ (o : Option Place). first_fault ((3, line, common.not (is_some o)) ∷ (7, line, is_free_for (get env.variables n) (kind_of env.variables e)) ∷ [])) d.free.no_end
            ∙ ap (λ b. cond b None (Some (7, line))) free),
        d.leaves ∙ sym (seen-knowing env n d.kind) ∙ ap (λ k. env_of (with_known env n k)) p.1,
      )
