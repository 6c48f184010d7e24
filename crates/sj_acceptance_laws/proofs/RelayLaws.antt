-- The tests of a `relay` all pass exactly where an environment follows it, where its
-- body's do, and then that one.
use Rattle.std.proofs.Common.{◌≡◌, ℕ, List, [], ◌∷◌, ◌++◌, Option, Some, None, cond, is_some, unwrap_or, refl, ap, sym, ◌∙◌, subst}
use Rattle.std.specs.FinMap.{get}
use Rattle.sj_lang.specs.declared.proto.Way.TheVariants.{Out, Into}
use Rattle.sj_lang.specs.Place.{Place, done, message, choice, repeat}
use Rattle.sj_lang.specs.After.{followed_by}
use Rattle.sj_lang.specs.Code.{Code, relay}
use Rattle.sj_lang.specs.FileAt.{ProtocolAt}
use Rattle.sj_acceptance.specs.Environment.{Env, at_place}
use Rattle.sj_acceptance.specs.EnvAt.{EnvAt, env_of, with_live}
use Rattle.sj_acceptance.specs.Follows.{Follows, Does}
use Rattle.sj_acceptance.specs.Faults.{Test, first_fault}
use Rattle.sj_acceptance.specs.Sameness.{is_same_ends}
use Rattle.sj_acceptance.specs.FirstItem.{is_loop, turn_of, rest_of}
use Rattle.sj_acceptance.specs.Tests.{deed_tests, after_deed, code_tests, after_code}
use Rattle.sj_acceptance_laws.proofs.FaultLemmas.{first_passes, all_pass, pass_both}
use Rattle.sj_acceptance_laws.proofs.SeenLemmas.{seen-moved}
use Rattle.sj_acceptance_laws.proofs.LoopLaws.{Leads, Passes, same_ends, ends_same}

module _ (ps : List ProtocolAt) (parties : List ℕ) (line : ℕ) (env : EnvAt) (x y : ℕ) (body : Code) where
  abbrev both_moved : Place → Place → EnvAt
  both_moved p q = with_live (with_live env x p) y q

  seen-both : (p q : Place) → env_of (both_moved p q) ≡ at_place (at_place (env_of env) x p) y q
  seen-both p q = seen-moved (with_live env x p) y q ∙ ap (λ (v : Env). at_place v y q) (seen-moved env x p)

  abbrev begun : Option Place → Option Place → EnvAt
  begun o q = both_moved (turn_of (unwrap_or o done)) (turn_of (unwrap_or q done))

  abbrev relay_tests : Option Place → Option Place → List Test
  relay_tests o q = (5, line, is_some o) ∷ (5, line, is_some q) ∷ (6, line, is_loop Into (unwrap_or o done)) ∷ (6, line, is_loop Out (unwrap_or q done))
      ∷ code_tests ps parties (begun o q) body ++ (10, line, is_same_ends env.ends (after_code ps (begun o q) body).ends) ∷ []

  module _ (leads : Leads ps parties body) where
    relay_from : (o q : Option Place) → get env.ends x ≡ o → get env.ends y ≡ q → first_fault (relay_tests o q) ≡ None
        → Does ps parties (relay x y body) (env_of env) (env_of (both_moved (rest_of (unwrap_or o done)) (rest_of (unwrap_or q done))))
    relay_from None q g f h = absurd (cc)
    relay_from (Some p) None g f h = absurd (cc)
    relay_from (Some done) (Some r) g f h = absurd (cc)
    relay_from (Some (message w k rest)) (Some r) g f h = absurd (cc)
    relay_from (Some (choice w arms rest)) (Some r) g f h = absurd (cc)
    relay_from (Some (repeat Out t rest)) (Some r) g f h = absurd (cc)
    relay_from (Some (repeat Into t rest)) (Some done) g f h = absurd (cc)
    relay_from (Some (repeat Into t rest)) (Some (message w k r)) g f h = absurd (cc)
    relay_from (Some (repeat Into t rest)) (Some (choice w k r)) g f h = absurd (cc)
    relay_from (Some (repeat Into t rest)) (Some (repeat Into u r)) g f h = absurd (cc)
    relay_from (Some (repeat Into t rest)) (Some (repeat Out u r)) g f h =
        let one = followed_by t (repeat Into t rest) in
        let other = followed_by u (repeat Out u r) in
        let last = after_code ps (both_moved one other) body in
        let a = all_pass (code_tests ps parties (both_moved one other) body) _ h in
        let follows : Follows ps parties body (at_place (at_place (env_of env) x one) y other) (env_of last) = subst (λ (v : Env). Follows ps parties body v (env_of last)) (seen-both one other) (leads (both_moved one other) a.0) in
        (t, rest, u, r, g, f, env_of last, follows, same_ends env last (first_passes 10 line _ [] a.1).0, seen-both rest r)

    pub relay_follows : first_fault (deed_tests ps parties line env (relay x y body)) ≡ None → Does ps parties (relay x y body) (env_of env) (env_of (after_deed ps env (relay x y body)))
    relay_follows h = relay_from (get env.ends x) (get env.ends y) refl refl h

  module _ (passes : Passes ps parties body) where
    pub relay_passes : (next : Env) → Does ps parties (relay x y body) (env_of env) next → (first_fault (deed_tests ps parties line env (relay x y body)) ≡ None) × (next ≡ env_of (after_deed ps env (relay x y body)))
    relay_passes next d =
        let one = followed_by d.0 (repeat Into d.0 d.1) in
        let other = followed_by d.2 (repeat Out d.2 d.3) in
        let p = passes (both_moved one other) d.6 (subst (λ (v : Env). Follows ps parties body v d.6) (sym (seen-both one other)) d.7) in
        let same = ends_same env (after_code ps (both_moved one other) body) d.6 p.1 d.8 in (
          (λ i. first_fault (relay_tests (d.4 i) (d.5 i))) ∙ pass_both (code_tests ps parties (both_moved one other) body) _ p.0 (ap (λ b. cond b None (Some (10, line))) same),
          d.9 ∙ sym (seen-both d.1 d.3) ∙ (λ i. env_of (both_moved (rest_of (unwrap_or (sym d.4 i) done)) (rest_of (unwrap_or (sym d.5 i) done)))),
        )
