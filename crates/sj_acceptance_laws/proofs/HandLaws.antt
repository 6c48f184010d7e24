-- The tests of `delegate` and `outbranch` all pass exactly where an environment
-- follows, and then that one.
use Rattle.std.proofs.Common.{◌≡◌, ◌≢◌, ℕ, List, [], ◌∷◌, ◌==◌, Option, Some, None, Bool, true, false, cond, is_some, unwrap_or, refl, ap, sym, ◌∙◌}
use Rattle.std.proofs.Common as common
use Rattle.std.specs.FinMap.{get}
use Rattle.std.proofs.lemmas.Bool.Decides.{Decides-eqb}
use Rattle.sj_lang.specs.declared.proto.Way.TheVariants.{Out, Into}
use Rattle.sj_lang.specs.Place.{Place, Choices, done, message, choice, repeat, session}
use Rattle.sj_lang.specs.Place as place
use Rattle.sj_lang.specs.After.{followed_by, at_label}
use Rattle.sj_lang.specs.Code.{outbranch, delegate}
use Rattle.sj_lang.specs.FileAt.{ProtocolAt}
use Rattle.sj_lang.specs.ItemCount.{is_done}
use Rattle.sj_lang.specs.MeetTests.{stands_for}
use Rattle.sj_lang.proofs.MeetTestLemmas.{stands_for-Decides}
use Rattle.sj_acceptance.specs.Environment.{Env, at_place, without_end}
use Rattle.sj_acceptance.specs.EnvAt.{EnvAt, env_of, with_live, without_live}
use Rattle.sj_acceptance.specs.Statements.{IsSelect, IsDelegate}
use Rattle.sj_acceptance.specs.Faults.{Test, first_fault}
use Rattle.sj_acceptance.specs.FirstItem.{is_message, is_choice, is_session, stands_for_carried, carried_kind, choices, rest_of, arm_place}
use Rattle.sj_acceptance.specs.Tests.{deed_tests, after_deed}
use Rattle.sj_acceptance_laws.proofs.FaultLemmas.{first_passes}
use Rattle.sj_acceptance_laws.proofs.StandLemmas.{stands_empty, empty_stands}
use Rattle.sj_acceptance_laws.proofs.SeenLemmas.{seen-moved, seen-without, same_env}

module _ (ps : List ProtocolAt) (parties : List ℕ) (line : ℕ) (env : EnvAt) (x : ℕ) where
  module _ (l : ℕ) where
    abbrev select_tests : Option Place → List Test
    select_tests o = (5, line, is_some o) ∷ (6, line, is_choice Out (unwrap_or o done)) ∷ (8, line, is_some (at_label l (choices (unwrap_or o done)))) ∷ []

    labelled : (arms : Choices) (rest : Place) (o : Option Place) → at_label l arms ≡ o → is_some o ≡ true → get env.ends x ≡ Some (choice Out arms rest)
        → IsSelect (env_of env) x l (env_of (with_live env x (followed_by (unwrap_or o done) rest)))
    labelled arms rest None e h g = absurd (cc)
    labelled arms rest (Some arm) e h g = record { arms = arms; rest = rest; arm_place = arm; there = g; labelled = e; leaves = seen-moved env x (followed_by arm rest) }

    select_from : (o : Option Place) → get env.ends x ≡ o → first_fault (select_tests o) ≡ None → IsSelect (env_of env) x l (env_of (with_live env x (arm_place l (unwrap_or o done))))
    select_from None g h = absurd (cc)
    select_from (Some done) g h = absurd (cc)
    select_from (Some (message w c rest)) g h = absurd (cc)
    select_from (Some (repeat w body rest)) g h = absurd (cc)
    select_from (Some (choice Into arms rest)) g h = absurd (cc)
    select_from (Some (choice Out arms rest)) g h = labelled arms rest (at_label l arms) refl (first_passes 8 line (is_some (at_label l arms)) [] h).0 g

    pub select_follows : first_fault (deed_tests ps parties line env (outbranch x l)) ≡ None → IsSelect (env_of env) x l (env_of (after_deed ps env (outbranch x l)))
    select_follows h = select_from (get env.ends x) refl h

    pub select_passes : (next : Env) → IsSelect (env_of env) x l next → (first_fault (deed_tests ps parties line env (outbranch x l)) ≡ None) × (next ≡ env_of (after_deed ps env (outbranch x l)))
    select_passes next d = (
      ap (λ o. first_fault (select_tests o)) d.there ∙ ap (λ (o : Option Place). cond (is_some o) None (Some (8, line))) d.labelled,
      d.leaves ∙ sym (seen-moved env x (followed_by d.arm_place d.rest)) ∙ ap (λ (o : Option Place). env_of (with_live env x (followed_by (unwrap_or o done) d.rest))) (sym d.labelled)
          ∙ ap (λ (o : Option Place). env_of (with_live env x (arm_place l (unwrap_or o done)))) (sym d.there),
    )

  module _ (y : ℕ) where
    abbrev del_rest : Place → Place → List Test
    del_rest p r = (6, line, is_message Out p) ∷ (7, line, is_session (carried_kind p)) ∷ (13, line, common.not (is_done r)) ∷ (7, line, stands_for_carried r (carried_kind p)) ∷ []

    abbrev del_tests : Option Place → Option Place → List Test
    del_tests o q = (5, line, is_some o) ∷ (5, line, is_some q) ∷ (13, line, common.not (x == y)) ∷ del_rest (unwrap_or o done) (unwrap_or q done)

    -- the two changes are of two names, so their order doesn't matter
    swapped : (n : ℕ) (rest : Place) (o : Option Place) (b c : Bool) → (b ≡ true → c ≡ true → ⊥) → cond b (Some rest) (cond c None o) ≡ cond c None (cond b (Some rest) o)
    swapped n rest o true true h = absurd (h refl refl)
    swapped n rest o true false h = refl
    swapped n rest o false c h = refl

    handed : (rest : Place) → x ≢ y → env_of (with_live (without_live env y) x rest) ≡ without_end (at_place (env_of env) x rest) y
    handed rest a =
        seen-moved (without_live env y) x rest ∙ ap (λ (v : Env). at_place v x rest) (seen-without env y)
        ∙ same_env _ _ (λ n. swapped n rest (get env.ends n) (n == x) (n == y) (λ e f. a (sym ((Decides-eqb n x).0 e) ∙ (Decides-eqb n y).0 f))) (λ n. refl)

    not_done : (r : Place) → common.not (is_done r) ≡ true → r ≢ done
    not_done r h e = let d : is_done r ≡ true = ap is_done e in let f : common.not true ≡ true = ap common.not (sym d) ∙ h in absurd (cc)

    del_inner : (p r : Place) → x ≢ y → get env.ends x ≡ Some p → get env.ends y ≡ Some r → first_fault (del_rest p r) ≡ None → IsDelegate (env_of env) x y (env_of (with_live (without_live env y) x (rest_of p)))
    del_inner done r a g f h = absurd (cc)
    del_inner (choice w arms rest) r a g f h = absurd (cc)
    del_inner (repeat w body rest) r a g f h = absurd (cc)
    del_inner (message Into c rest) r a g f h = absurd (cc)
    del_inner (message Out place.int rest) r a g f h = absurd (cc)
    del_inner (message Out place.boolean rest) r a g f h = absurd (cc)
    del_inner (message Out place.text rest) r a g f h = absurd (cc)
    del_inner (message Out (session s) rest) r a g f h =
        let p = first_passes 13 line (common.not (is_done r)) ((7, line, stands_for r s) ∷ []) h in
        let stands = (stands_for-Decides r s).0 (first_passes 7 line (stands_for r s) [] p.1).0 in
        record {
          place = s;
          own = r;
          rest = rest;
          two_names = a;
          there = g;
          sent = f;
          stands = stands;
          not_empty = λ e. not_done r p.0 (stands_empty r s stands e);
          leaves = handed rest a;
        }

    del_from : (o q : Option Place) → get env.ends x ≡ o → get env.ends y ≡ q → first_fault (del_tests o q) ≡ None → IsDelegate (env_of env) x y (env_of (with_live (without_live env y) x (rest_of (unwrap_or o done))))
    del_from None q g f h = absurd (cc)
    del_from (Some p) None g f h = absurd (cc)
    del_from (Some p) (Some r) g f h =
        let a = first_passes 13 line (common.not (x == y)) (del_rest p r) h in
        del_inner p r (λ e. let s : common.not true ≡ true = ap common.not (sym ((Decides-eqb x y).1 e)) ∙ a.0 in absurd (cc)) g f a.1

    pub delegate_follows : first_fault (deed_tests ps parties line env (delegate x y)) ≡ None → IsDelegate (env_of env) x y (env_of (after_deed ps env (delegate x y)))
    delegate_follows h = del_from (get env.ends x) (get env.ends y) refl refl h

    apart : (b : Bool) → (b ≡ true → ⊥) → common.not b ≡ true
    apart true h = absurd (h refl)
    apart false h = refl

    live : (r : Place) → r ≢ done → common.not (is_done r) ≡ true
    live done h = absurd (h refl)
    live (message w c rest) h = refl
    live (choice w arms rest) h = refl
    live (repeat w body rest) h = refl

    pub delegate_passes : (next : Env) → IsDelegate (env_of env) x y next → (first_fault (deed_tests ps parties line env (delegate x y)) ≡ None) × (next ≡ env_of (after_deed ps env (delegate x y)))
    delegate_passes next d = (
      (λ i. first_fault (del_tests (d.there i) (d.sent i)))
          ∙ ap (λ b. cond b (first_fault (del_rest (message Out (session d.place) d.rest) d.own)) (Some (13, line))) (apart (x == y) (λ e. d.two_names ((Decides-eqb x y).0 e)))
          ∙ ap (λ b. cond b (first_fault ((7, line, stands_for d.own d.place) ∷ [])) (Some (13, line))) (live d.own (λ e. d.not_empty (empty_stands d.own d.place d.stands e)))
          ∙ ap (λ b. cond b None (Some (7, line))) ((stands_for-Decides d.own d.place).1 d.stands),
      d.leaves ∙ sym (handed d.rest d.two_names) ∙ ap (λ (o : Option Place). env_of (with_live (without_live env y) x (rest_of (unwrap_or o done)))) (sym d.there),
    )
