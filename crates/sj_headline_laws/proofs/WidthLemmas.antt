-- The file whose selection is narrower than its branching is accepted.
use Rattle.std.proofs.lemmas.Bool.{cases_Bool, eqb-true}
use Rattle.std.proofs.lemmas.Bool.Decides.{Decides-eqb, Decides-like, same_from_decides}
use Rattle.std.proofs.Common.{◌≡◌, ◌≢◌, ℕ, zero, suc, ◌<◌, ◌≤◌, ◌==◌, ◌++◌, List, [], ◌∷◌, Bool, true, false, cond, refl, Option, Some, None, is_some, pos, slice_get, slice_index_or, AllPairs, inl, inr, ap, sym, ◌∙◌, subst, arith}
use Rattle.std.specs.List.{Contains, All}
use Rattle.sj_lang.specs.declared.proto.Way.TheVariants.{Out, Into}
use Rattle.sj_lang.specs.declared.party.Scalar.TheVariants as kinds
use Rattle.sj_lang.specs.Place.{Place, Choices, done, choice, no_choice, arm}
use Rattle.sj_lang.specs.After.{at_label}
use Rattle.sj_lang.specs.Meet.{EachLabel, ArmMeets}
use Rattle.sj_lang.specs.ItemCount.{item_count}
use Rattle.sj_lang.specs.Term as terms
use Rattle.sj_lang.specs.Code.{Branches, send, take_value, outbranch, inbranch, close, no_branch, branch}
use Rattle.sj_lang.specs.FileAt.{PartyAt, ConnectAt}
use Rattle.sj_acceptance.specs.Environment.{Env, at_place, with_kind, SameEnds, IsCommon}
use Rattle.sj_acceptance.specs.Labels.{NamesOnce, AreItsArms}
use Rattle.sj_acceptance.specs.Openings.{OpeningAt, requests_of}
use Rattle.sj_acceptance.specs.Accepted.{start_env, IsConnection, EndsWell, OpeningsMeet, IsAccepted}
use Rattle.sj_semantics_laws.specs.Samples.{in_a_row, party, protocol, sends_int, takes_int}
use Rattle.sj_semantics_laws.specs.OpeningSamples.{narrower}
use Rattle.sj_headline_laws.proofs.SampleLemmas.{pair_apart, both_hold, none_in}

abbrev one_arm : Choices
one_arm = arm 7 sends_int no_choice

abbrev two_arms : Choices
two_arms = arm 7 takes_int (arm 8 done no_choice)

-- the one label is one of the two
label_met : EachLabel (ArmMeets one_arm) one_arm two_arms
label_met l has =
    elim (cases_Bool (l == 7)) [
      | inl it ↦ (takes_int, ap (λ (b : Bool). cond b (Some takes_int) (at_label l (arm 8 done no_choice))) it, inl (it, (refl, refl, tt)))
      | inr other ↦ let none : false ≡ true = sym (ap (λ (b : Bool). is_some (cond b (Some sends_int) None)) other) ∙ has in cc
    ]

narrower_connects : (k : ℕ) (d : ConnectAt) → k < 1 → IsConnection narrower (slice_index_or narrower.connects k d)
narrower_connects zero d lt = record {
  one = choice Out one_arm done;
  other = choice Into two_arms done;
  first = record { party = omega arith; protocol = refl };
  second = record { party = omega arith; protocol = refl };
  meet = (refl, label_met, tt);
}
narrower_connects (suc k) d lt = absurd (omega arith)

abbrev selects : PartyAt
selects = party 2 (outbranch 3 7 ∷ send 3 (terms.int (pos 5)) ∷ close 3 ∷ [])

abbrev arms : Branches
arms = branch 7 (in_a_row (take_value 5 6 kinds.Int ∷ [])) (branch 8 (in_a_row []) no_branch)

abbrev branches : PartyAt
branches = party 4 (inbranch 5 arms ∷ close 5 ∷ [])

one_of_two : (b c : Bool) (x y : ℕ × Place) → (b ≡ true → c ≡ true → ⊥) → AllPairs (λ e f. e.0 ≢ f.0) (cond b (x ∷ []) [] ++ cond c (y ∷ []) [] ++ [])
one_of_two true true x y not_both = absurd (not_both refl refl)
one_of_two true false x y not_both = λ i j d lt le. absurd (omega arith)
one_of_two false true x y not_both = λ i j d lt le. absurd (omega arith)
one_of_two false false x y not_both = λ i j d lt le. absurd (omega arith)

no_end_left : (t u : Bool) (p q r s : Place) → t ≡ u → cond t None (cond t (Some r) (cond t (Some q) (cond u (Some p) None))) ≡ None
no_end_left true u p q r s e = refl
no_end_left false u p q r s e = ap (λ (b : Bool). cond b (Some p) None) (sym e)

one_end_left : (t u : Bool) (p q : Place) → t ≡ u → cond t None (cond t (Some q) (cond u (Some p) None)) ≡ None
one_end_left true u p q e = refl
one_end_left false u p q e = ap (λ (b : Bool). cond b (Some p) None) (sym e)

turned : (m n : ℕ) → (m == n) ≡ (n == m)
turned m n = same_from_decides (m == n) (n == m) (Decides-eqb m n) (Decides-like (n == m) sym sym (Decides-eqb n m))

-- the labels of the arms are those of the choice
its_arms : AreItsArms two_arms arms
its_arms = record {
  same = λ l. (λ c. c, λ c. c);
  once = pair_apart (λ m n. m ≢ n) 7 8 (λ e. absurd (omega (arith, e)));
  some = λ e. cc;
}

-- what the arms leave, and what is common to them
abbrev before : Env
before = start_env narrower 1

abbrev after_one : Env
after_one = with_kind (at_place (at_place before 5 takes_int) 5 done) 6 kinds.Int

abbrev after_other : Env
after_other = at_place before 5 done

moved_twice : (t : Bool) (o : Option Place) → cond t (Some done) o ≡ cond t (Some done) (cond t (Some takes_int) o)
moved_twice true o = refl
moved_twice false o = refl

common : IsCommon (after_one ∷ after_other ∷ []) after_other
common = record {
  ends = λ k last h. same k last h;
  kinds = λ n kind. (λ e. cc, λ f. f 1 after_other refl);
}
  where
    same : (k : ℕ) (last : Env) → slice_get (after_one ∷ after_other ∷ []) k ≡ Some last → SameEnds last after_other
    same zero last h n = let it : after_one ≡ last = cc in moved_twice (n == 5) (before.places n) ∙ ap (λ (v : Env). v.places n) it
    same (suc zero) last h n = let it : after_other ≡ last = cc in ap (λ (v : Env). v.places n) it
    same (suc (suc k)) last h n = cc

narrower_bodies : (p : ℕ) (q : PartyAt) → slice_get narrower.parties p ≡ Some q → EndsWell narrower p q
narrower_bodies zero q h = subst (EndsWell narrower 0) (let it : selects ≡ q = cc in it) (record {
  last = _;
  follows = (
    _,
    record { arms = one_arm; rest = done; arm_place = sends_int; there = refl; labelled = refl; leaves = refl },
    (_, record { kind = kinds.Int; rest = done; there = refl; typed = refl; leaves = refl }, (_, record { there = refl; leaves = refl }, refl)),
  );
  no_end = λ n. no_end_left (n == 3) (3 == n) (choice Out one_arm done) sends_int done done (turned n 3);
})
narrower_bodies (suc zero) q h = subst (EndsWell narrower 1) (let it : branches ≡ q = cc in it) (record {
  last = _;
  follows = (
    after_other,
    (
      two_arms,
      done,
      refl,
      its_arms,
      after_one ∷ after_other ∷ [],
      (
        takes_int,
        refl,
        after_one,
        (after_one, record { rest = done; there = refl; free = record { no_end = refl; no_other = λ j e. cc }; leaves = refl }, refl),
        after_other ∷ [],
        (done, refl, after_other, refl, [], refl, refl),
        refl,
      ),
      common,
    ),
    (_, record { there = refl; leaves = refl }, refl),
  );
  no_end = λ n. one_end_left (n == 5) (5 == n) (choice Into two_arms done) done (turned n 5);
})
narrower_bodies (suc (suc p)) q h = cc

no_openings : (a b : PartyAt) → requests_of a.code ≡ [] → OpeningsMeet narrower a b
no_openings a b none = record { meet = λ r c asks takes to from. absurd (none_in r (subst (λ (rs : List OpeningAt). Contains rs r) none asks)) }

pub narrower_is_accepted : IsAccepted narrower
narrower_is_accepted = record {
  within = record { protocols = omega arith; items = both_hold (λ p. item_count p.body ≤ 1024) (protocol 0 (choice Out one_arm done)) (protocol 1 (choice Into two_arms done)) (omega arith) (omega arith); parties = omega arith; connects = omega arith };
  protocols_once = pair_apart (λ p q. p.name ≢ q.name) (protocol 0 (choice Out one_arm done)) (protocol 1 (choice Into two_arms done)) (λ e. absurd (omega (arith, e)));
  labels_once = both_hold (λ p. NamesOnce p.body) (protocol 0 (choice Out one_arm done)) (protocol 1 (choice Into two_arms done))
      ((λ i j d lt le. absurd (omega arith)), ((tt, tt), tt), tt)
      (pair_apart (λ m n. m ≢ n) 7 8 (λ e. absurd (omega (arith, e))), ((tt, tt), (tt, tt)), tt);
  parties_once = pair_apart (λ p q. p.name ≢ q.name) selects branches (λ e. absurd (omega (arith, e)));
  ends_once = λ p. one_of_two (0 == p) (1 == p) (3, choice Out one_arm done) (5, choice Into two_arms done) (λ e f. absurd (omega (arith, eqb-true 0 p e, eqb-true 1 p f)));
  connections = narrower_connects;
  bodies = narrower_bodies;
  openings = both_hold (λ a. All (λ b. OpeningsMeet narrower a b) narrower.parties) selects branches
      (both_hold (OpeningsMeet narrower selects) selects branches (no_openings selects selects refl) (no_openings selects branches refl))
      (both_hold (OpeningsMeet narrower branches) selects branches (no_openings branches selects refl) (no_openings branches branches refl));
}
