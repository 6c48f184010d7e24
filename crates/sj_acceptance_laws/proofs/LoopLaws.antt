-- The tests of a loop all pass exactly where an environment follows it, where its
-- body's do, and then that one.
use Rattle.std.proofs.Common.{◌≡◌, ℕ, List, [], ◌∷◌, ◌++◌, Option, Some, None, true, cond, is_some, unwrap_or, refl, ap, sym, ◌∙◌, subst}
use Rattle.std.specs.FinMap.{get}
use Rattle.sj_lang.specs.declared.proto.Way.TheVariants.{Out, Into}
use Rattle.sj_lang.specs.declared.party.Scalar.TheVariants.{Int}
use Rattle.sj_lang.specs.Term.{Term}
use Rattle.sj_lang.specs.Place.{Place, done, message, choice, repeat}
use Rattle.sj_lang.specs.After.{followed_by}
use Rattle.sj_lang.specs.Code.{Code, outwhile, inwhile}
use Rattle.sj_lang.specs.FileAt.{ProtocolAt}
use Rattle.sj_acceptance.specs.Environment.{Env, at_place, SameEnds}
use Rattle.sj_acceptance.specs.EnvAt.{EnvAt, env_of, with_live}
use Rattle.sj_acceptance.specs.Kinds.{HasKind}
use Rattle.sj_acceptance.specs.Follows.{Follows, Does}
use Rattle.sj_acceptance.specs.Faults.{Test, first_fault}
use Rattle.sj_acceptance.specs.KindTests.{kind_of, term_tests}
use Rattle.sj_acceptance.specs.Sameness.{is_same_kind, is_same_ends}
use Rattle.sj_acceptance.specs.FirstItem.{is_loop, turn_of, rest_of}
use Rattle.sj_acceptance.specs.Tests.{deed_tests, after_deed, code_tests, after_code}
use Rattle.sj_acceptance_laws.proofs.FaultLemmas.{first_passes, all_pass, pass_both}
use Rattle.sj_acceptance_laws.proofs.KindLaws.{same_kind, has_kind, kind_passes}
use Rattle.sj_acceptance_laws.proofs.SamenessLemmas.{is_same_ends-Decides}
use Rattle.sj_acceptance_laws.proofs.SeenLemmas.{seen-moved, same_from_get}

-- the test of the ends says whether they are the same
pub same_ends : (old new : EnvAt) → is_same_ends old.ends new.ends ≡ true → SameEnds (env_of old) (env_of new)
same_ends old new h n = ap (λ m. get m n) (sym ((is_same_ends-Decides old.ends new.ends).0 h))

pub ends_same : (old new : EnvAt) (next : Env) → next ≡ env_of new → SameEnds (env_of old) next → is_same_ends old.ends new.ends ≡ true
ends_same old new next e h = (is_same_ends-Decides old.ends new.ends).1 (same_from_get old.ends new.ends (λ n. sym (h n) ∙ ap (λ (v : Env). v.places n) e))

-- what follows a body that begins where it is seen to begin
abbrev pub Leads : List ProtocolAt → List ℕ → Code → Type 0
Leads ps parties body = (v : EnvAt) → first_fault (code_tests ps parties v body) ≡ None → Follows ps parties body (env_of v) (env_of (after_code ps v body))

abbrev pub Passes : List ProtocolAt → List ℕ → Code → Type 0
Passes ps parties body = (v : EnvAt) (next : Env) → Follows ps parties body (env_of v) next → (first_fault (code_tests ps parties v body) ≡ None) × (next ≡ env_of (after_code ps v body))

module _ (ps : List ProtocolAt) (parties : List ℕ) (line : ℕ) (env : EnvAt) (x : ℕ) (body : Code) where
  abbrev loop_tests : Option Place → List Test
  loop_tests o = (5, line, is_some o) ∷ (6, line, is_loop Into (unwrap_or o done)) ∷ code_tests ps parties (with_live env x (turn_of (unwrap_or o done))) body
      ++ (10, line, is_same_ends env.ends (after_code ps (with_live env x (turn_of (unwrap_or o done))) body).ends) ∷ []

  module _ (leads : Leads ps parties body) where
    loop_from : (o : Option Place) → get env.ends x ≡ o → first_fault (loop_tests o) ≡ None → Does ps parties (inwhile x body) (env_of env) (env_of (with_live env x (rest_of (unwrap_or o done))))
    loop_from None g h = absurd (cc)
    loop_from (Some done) g h = absurd (cc)
    loop_from (Some (message w k rest)) g h = absurd (cc)
    loop_from (Some (choice w arms rest)) g h = absurd (cc)
    loop_from (Some (repeat Out turn rest)) g h = absurd (cc)
    loop_from (Some (repeat Into turn rest)) g h =
        let t = followed_by turn (repeat Into turn rest) in
        let start = with_live env x t in
        let p = all_pass (code_tests ps parties start body) _ h in
        let follows : Follows ps parties body (at_place (env_of env) x t) (env_of (after_code ps start body)) = subst (λ (v : Env). Follows ps parties body v (env_of (after_code ps start body))) (seen-moved env x t) (leads start p.0) in
        (turn, rest, g, env_of (after_code ps start body), follows, same_ends env (after_code ps start body) (first_passes 10 line _ [] p.1).0, seen-moved env x rest)

    pub inwhile_follows : first_fault (deed_tests ps parties line env (inwhile x body)) ≡ None → Does ps parties (inwhile x body) (env_of env) (env_of (after_deed ps env (inwhile x body)))
    inwhile_follows h = loop_from (get env.ends x) refl h

  module _ (passes : Passes ps parties body) where
    pub inwhile_passes : (next : Env) → Does ps parties (inwhile x body) (env_of env) next → (first_fault (deed_tests ps parties line env (inwhile x body)) ≡ None) × (next ≡ env_of (after_deed ps env (inwhile x body)))
    inwhile_passes next d =
        let t = followed_by d.0 (repeat Into d.0 d.1) in
        let start = with_live env x t in
        let p = passes start d.3 (subst (λ (v : Env). Follows ps parties body v d.3) (sym (seen-moved env x t)) d.4) in
        let same = ends_same env (after_code ps start body) d.3 p.1 d.5 in (
          ap (λ o. first_fault (loop_tests o)) d.2 ∙ pass_both (code_tests ps parties start body) _ p.0 (ap (λ b. cond b None (Some (10, line))) same),
          d.6 ∙ sym (seen-moved env x d.1) ∙ ap (λ (o : Option Place). env_of (with_live env x (rest_of (unwrap_or o done)))) (sym d.2),
        )

module _ (ps : List ProtocolAt) (parties : List ℕ) (line : ℕ) (env : EnvAt) (x : ℕ) (e : Term) (body : Code) where
  abbrev counted_tests : Option Place → List Test
  counted_tests o = (5, line, is_some o) ∷ (6, line, is_loop Out (unwrap_or o done)) ∷ term_tests line env.variables e
      ++ (7, line, is_same_kind (kind_of env.variables e) Int) ∷ code_tests ps parties (with_live env x (turn_of (unwrap_or o done))) body
      ++ (10, line, is_same_ends env.ends (after_code ps (with_live env x (turn_of (unwrap_or o done))) body).ends) ∷ []

  module _ (leads : Leads ps parties body) where
    counted_from : (o : Option Place) → get env.ends x ≡ o → first_fault (counted_tests o) ≡ None → Does ps parties (outwhile x e body) (env_of env) (env_of (with_live env x (rest_of (unwrap_or o done))))
    counted_from None g h = absurd (cc)
    counted_from (Some done) g h = absurd (cc)
    counted_from (Some (message w k rest)) g h = absurd (cc)
    counted_from (Some (choice w arms rest)) g h = absurd (cc)
    counted_from (Some (repeat Into turn rest)) g h = absurd (cc)
    counted_from (Some (repeat Out turn rest)) g h =
        let t = followed_by turn (repeat Out turn rest) in
        let start = with_live env x t in
        let last = after_code ps start body in
        let a = all_pass (term_tests line env.variables e ++ (7, line, is_same_kind (kind_of env.variables e) Int) ∷ code_tests ps parties start body) _ h in
        let b = all_pass (term_tests line env.variables e) ((7, line, is_same_kind (kind_of env.variables e) Int) ∷ code_tests ps parties start body) a.0 in
        let c = first_passes 7 line (is_same_kind (kind_of env.variables e) Int) (code_tests ps parties start body) b.1 in
        let kind : HasKind (env_of env).kinds e Int = subst (HasKind (env_of env).kinds e) (same_kind (kind_of env.variables e) Int c.0) (has_kind line env.variables e b.0) in
        let follows : Follows ps parties body (at_place (env_of env) x t) (env_of last) = subst (λ (v : Env). Follows ps parties body v (env_of last)) (seen-moved env x t) (leads start c.1) in
        (turn, rest, g, kind, env_of last, follows, same_ends env last (first_passes 10 line _ [] a.1).0, seen-moved env x rest)

    pub outwhile_follows : first_fault (deed_tests ps parties line env (outwhile x e body)) ≡ None → Does ps parties (outwhile x e body) (env_of env) (env_of (after_deed ps env (outwhile x e body)))
    outwhile_follows h = counted_from (get env.ends x) refl h

  module _ (passes : Passes ps parties body) where
    pub outwhile_passes : (next : Env) → Does ps parties (outwhile x e body) (env_of env) next → (first_fault (deed_tests ps parties line env (outwhile x e body)) ≡ None) × (next ≡ env_of (after_deed ps env (outwhile x e body)))
    outwhile_passes next d =
        let t = followed_by d.0 (repeat Out d.0 d.1) in
        let start = with_live env x t in
        let k = kind_passes line env.variables e Int d.3 in
        let p = passes start d.4 (subst (λ (v : Env). Follows ps parties body v d.4) (sym (seen-moved env x t)) d.5) in
        let same = ends_same env (after_code ps start body) d.4 p.1 d.6 in
        let kind : is_same_kind (kind_of env.variables e) Int ≡ true = ap (λ j. is_same_kind j Int) (sym k.1) in (
          ap (λ o. first_fault (counted_tests o)) d.2
              ∙ pass_both (term_tests line env.variables e ++ (7, line, is_same_kind (kind_of env.variables e) Int) ∷ code_tests ps parties start body) _
              (pass_both (term_tests line env.variables e) _ k.0 (ap (λ b. cond b (first_fault (code_tests ps parties start body)) (Some (7, line))) kind ∙ p.0))
              (ap (λ b. cond b None (Some (10, line))) same),
          d.7 ∙ sym (seen-moved env x d.1) ∙ ap (λ (o : Option Place). env_of (with_live env x (rest_of (unwrap_or o done)))) (sym d.2),
        )
