-- The tests of the statements that take all pass exactly where an environment
-- follows, and then that one.
use Rattle.std.proofs.Common.{◌≡◌, ℕ, List, [], ◌∷◌, ◌||◌, Option, Some, None, true, cond, is_some, unwrap_or, refl, ap, sym, ◌∙◌}
use Rattle.std.proofs.Common as common
use Rattle.std.specs.FinMap.{get}
use Rattle.sj_lang.specs.declared.proto.Way.TheVariants.{Out, Into}
use Rattle.sj_lang.specs.declared.party.Scalar.{Scalar}
use Rattle.sj_lang.specs.Place.{Place, done, message, choice, repeat, session}
use Rattle.sj_lang.specs.Place as place
use Rattle.sj_lang.specs.Code.{take_value, take_end}
use Rattle.sj_lang.specs.FileAt.{ProtocolAt, protocol_named}
use Rattle.sj_acceptance.specs.Environment.{Env, at_place, with_kind}
use Rattle.sj_acceptance.specs.EnvAt.{EnvAt, env_of, with_live, with_known}
use Rattle.sj_acceptance.specs.Statements.{IsTakeValue, IsTakeEnd}
use Rattle.sj_acceptance.specs.Faults.{Test, first_fault}
use Rattle.sj_acceptance.specs.KindTests.{is_free_for}
use Rattle.sj_acceptance.specs.Sameness.{is_same_place}
use Rattle.sj_acceptance.specs.FirstItem.{is_message, is_session_of, carried_kind, rest_of, is_carried_as}
use Rattle.sj_acceptance.specs.Tests.{deed_tests, after_deed}
use Rattle.sj_acceptance_laws.proofs.FaultLemmas.{first_passes}
use Rattle.sj_acceptance_laws.proofs.KindLaws.{carried_is, carried_by-passes, free_kind, free_passes}
use Rattle.sj_acceptance_laws.proofs.SamenessLemmas.{is_same_place-Decides}
use Rattle.sj_acceptance_laws.proofs.SendLaws.{no_end}
use Rattle.sj_acceptance_laws.proofs.SeenLemmas.{seen-moved, seen-knowing}

-- neither a live end nor a variable
pub unused : (o : Option Place) (v : Option Scalar) → common.not (is_some o || is_some v) ≡ true → (o ≡ None) × (v ≡ None)
unused None None h = (refl, refl)
unused None (Some v) h = absurd (cc)
unused (Some o) v h = absurd (cc)

module _ (ps : List ProtocolAt) (parties : List ℕ) (line : ℕ) (env : EnvAt) (x : ℕ) where
  module _ (n : ℕ) (k : Scalar) where
    abbrev end_rest : List Test
    end_rest = (3, line, common.not (is_some (get env.ends n))) ∷ (7, line, is_free_for (get env.variables n) k) ∷ []

    abbrev take_tests : Option Place → List Test
    take_tests o = (5, line, is_some o) ∷ (6, line, is_message Into (unwrap_or o done)) ∷ (7, line, is_carried_as k (carried_kind (unwrap_or o done))) ∷ end_rest

    took : (rest : Place) → env_of (with_known (with_live env x rest) n k) ≡ with_kind (at_place (env_of env) x rest) n k
    took rest = seen-knowing (with_live env x rest) n k ∙ ap (λ (v : Env). with_kind v n k) (seen-moved env x rest)

    take_from : (o : Option Place) → get env.ends x ≡ o → first_fault (take_tests o) ≡ None → IsTakeValue (env_of env) x n k (env_of (with_known (with_live env x (rest_of (unwrap_or o done))) n k))
    take_from None g h = absurd (cc)
    take_from (Some done) g h = absurd (cc)
    take_from (Some (message Out c rest)) g h = absurd (cc)
    take_from (Some (choice w arms rest)) g h = absurd (cc)
    take_from (Some (repeat w body rest)) g h = absurd (cc)
    take_from (Some (message Into c rest)) g h =
        let p = first_passes 7 line (is_carried_as k c) end_rest h in
        let q = first_passes 3 line (common.not (is_some (get env.ends n))) ((7, line, is_free_for (get env.variables n) k) ∷ []) p.1 in
        let r = first_passes 7 line (is_free_for (get env.variables n) k) [] q.1 in
        record {
          rest = rest;
          there = g ∙ ap (λ j. Some (message Into j rest)) (carried_is k c p.0);
          free = record { no_end = no_end (get env.ends n) q.0; no_other = free_kind (get env.variables n) k r.0 };
          leaves = took rest;
        }

    pub take_follows : first_fault (deed_tests ps parties line env (take_value x n k)) ≡ None → IsTakeValue (env_of env) x n k (env_of (after_deed ps env (take_value x n k)))
    take_follows h = take_from (get env.ends x) refl h

    pub take_passes : (next : Env) → IsTakeValue (env_of env) x n k next → (first_fault (deed_tests ps parties line env (take_value x n k)) ≡ None) × (next ≡ env_of (after_deed ps env (take_value x n k)))
    take_passes next d = (
      ap (λ o. first_fault (take_tests o)) d.there ∙ ap (λ b. cond b (first_fault end_rest) (Some (7, line))) (carried_by-passes k)
          ∙ ap (λ (o : Option Place). first_fault ((3, line, common.not (is_some o)) ∷ (7, line, is_free_for (get env.variables n) k) ∷ [])) d.free.no_end
          ∙ ap (λ b. cond b None (Some (7, line))) (free_passes (get env.variables n) k d.free.no_other),
      d.leaves ∙ sym (took d.rest) ∙ ap (λ (o : Option Place). env_of (with_known (with_live env x (rest_of (unwrap_or o done))) n k)) (sym d.there),
    )

  module _ (y p : ℕ) where
    abbrev get_tests : Option Place → Option Place → List Test
    get_tests o b = (5, line, is_some o) ∷ (1, line, is_some b) ∷ (6, line, is_message Into (unwrap_or o done)) ∷ (7, line, is_session_of (unwrap_or b done) (carried_kind (unwrap_or o done)))
        ∷ (3, line, common.not (is_some (get env.ends y) || is_some (get env.variables y))) ∷ []

    got : (rest body : Place) → env_of (with_live (with_live env x rest) y body) ≡ at_place (at_place (env_of env) x rest) y body
    got rest body = seen-moved (with_live env x rest) y body ∙ ap (λ (v : Env). at_place v y body) (seen-moved env x rest)

    get_from : (o b : Option Place) → get env.ends x ≡ o → protocol_named ps p ≡ b → first_fault (get_tests o b) ≡ None
        → IsTakeEnd (protocol_named ps p) (env_of env) x y (env_of (with_live (with_live env x (rest_of (unwrap_or o done))) y (unwrap_or b done)))
    get_from None b g f h = absurd (cc)
    get_from (Some q) None g f h = absurd (cc)
    get_from (Some done) (Some body) g f h = absurd (cc)
    get_from (Some (choice w arms rest)) (Some body) g f h = absurd (cc)
    get_from (Some (repeat w turn rest)) (Some body) g f h = absurd (cc)
    get_from (Some (message Out c rest)) (Some body) g f h = absurd (cc)
    get_from (Some (message Into place.int rest)) (Some body) g f h = absurd (cc)
    get_from (Some (message Into place.boolean rest)) (Some body) g f h = absurd (cc)
    get_from (Some (message Into place.text rest)) (Some body) g f h = absurd (cc)
    get_from (Some (message Into (session s) rest)) (Some body) g f h =
        let a = first_passes 7 line (is_same_place body s) ((3, line, common.not (is_some (get env.ends y) || is_some (get env.variables y))) ∷ []) h in
        let b = first_passes 3 line (common.not (is_some (get env.ends y) || is_some (get env.variables y))) [] a.1 in
        let free = unused (get env.ends y) (get env.variables y) b.0 in
        record {
          place = body;
          rest = rest;
          exists = f;
          there = g ∙ ap (λ t. Some (message Into (session t) rest)) (sym ((is_same_place-Decides body s).0 a.0));
          unused = record { no_end = free.0; no_variable = free.1 };
          leaves = got rest body;
        }

    pub take_end_follows : first_fault (deed_tests ps parties line env (take_end x y p)) ≡ None → IsTakeEnd (protocol_named ps p) (env_of env) x y (env_of (after_deed ps env (take_end x y p)))
    take_end_follows h = get_from (get env.ends x) (protocol_named ps p) refl refl h

    pub take_end_passes : (next : Env) → IsTakeEnd (protocol_named ps p) (env_of env) x y next → (first_fault (deed_tests ps parties line env (take_end x y p)) ≡ None) × (next ≡ env_of (after_deed ps env (take_end x y p)))
    take_end_passes next d = (
      (λ i. first_fault (get_tests (d.there i) (d.exists i)))
          ∙ ap (λ b. cond b (first_fault ((3, line, common.not (is_some (get env.ends y) || is_some (get env.variables y))) ∷ [])) (Some (7, line))) ((is_same_place-Decides d.place d.place).1 refl)
          ∙ (λ i. cond (common.not (is_some (d.unused.no_end i) || is_some (d.unused.no_variable i))) None (Some (3, line))),
      d.leaves ∙ sym (got d.rest d.place) ∙ (λ i. env_of (with_live (with_live env x (rest_of (unwrap_or (sym d.there i) done))) y (unwrap_or (sym d.exists i) done))),
    )
