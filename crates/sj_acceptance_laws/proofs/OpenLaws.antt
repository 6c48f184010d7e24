-- The tests of `request` and `accept` all pass exactly where an environment
-- follows, and then that one.
use Rattle.std.proofs.Common.{◌≡◌, ℕ, List, [], ◌∷◌, ◌||◌, Option, Some, None, is_some, unwrap_or, refl, sym, ◌∙◌}
use Rattle.std.proofs.Common as common
use Rattle.std.specs.FinMap.{get}
use Rattle.sj_lang.specs.Place.{Place, done}
use Rattle.sj_lang.specs.FileAt.{ProtocolAt, protocol_named, body_named}
use Rattle.sj_acceptance.specs.Environment.{Env}
use Rattle.sj_acceptance.specs.EnvAt.{EnvAt, env_of, with_live}
use Rattle.sj_acceptance.specs.Statements.{IsOpening}
use Rattle.sj_acceptance.specs.Faults.{Test, first_fault}
use Rattle.sj_acceptance.specs.LabelTests.{is_among}
use Rattle.sj_acceptance.specs.Tests.{opening_tests}
use Rattle.sj_acceptance_laws.proofs.FaultLemmas.{first_passes}
use Rattle.sj_acceptance_laws.proofs.LabelLaws.{among_from, among_to}
use Rattle.sj_acceptance_laws.proofs.TakeLaws.{unused}
use Rattle.sj_acceptance_laws.proofs.SeenLemmas.{seen-moved}

module _ (ps : List ProtocolAt) (parties : List ℕ) (line : ℕ) (env : EnvAt) (x p b : ℕ) where
  abbrev name_rest : List Test
  name_rest = (3, line, common.not (is_some (get env.ends x) || is_some (get env.variables x))) ∷ []

  abbrev open_tests : Option Place → List Test
  open_tests o = (1, line, is_some o) ∷ (2, line, is_among b parties) ∷ name_rest

  open_from : (o : Option Place) → protocol_named ps p ≡ o → first_fault (open_tests o) ≡ None → IsOpening parties (protocol_named ps p) (env_of env) x b (env_of (with_live env x (unwrap_or o done)))
  open_from None g h = absurd (cc)
  open_from (Some body) g h =
      let a = first_passes 2 line (is_among b parties) name_rest h in
      let c = first_passes 3 line (common.not (is_some (get env.ends x) || is_some (get env.variables x))) [] a.1 in
      let free = unused (get env.ends x) (get env.variables x) c.0 in
      record {
        place = body;
        unused = record { no_end = free.0; no_variable = free.1 };
        exists = g;
        party = among_from b parties a.0;
        leaves = seen-moved env x body;
      }

  pub opening_follows : first_fault (opening_tests ps parties line env x p b) ≡ None → IsOpening parties (protocol_named ps p) (env_of env) x b (env_of (with_live env x (body_named ps p)))
  opening_follows h = open_from (protocol_named ps p) refl h

  pub opening_passes : (next : Env) → IsOpening parties (protocol_named ps p) (env_of env) x b next
      → (first_fault (opening_tests ps parties line env x p b) ≡ None) × (next ≡ env_of (with_live env x (body_named ps p)))
  opening_passes next d = (
    λ i. first_fault ((1, line, is_some (d.exists i)) ∷ (2, line, among_to b parties d.party i)
        ∷ (3, line, common.not (is_some (d.unused.no_end i) || is_some (d.unused.no_variable i))) ∷ []),
    d.leaves ∙ sym (seen-moved env x d.place) ∙ (λ i. env_of (with_live env x (unwrap_or (sym d.exists i) done))),
  )
