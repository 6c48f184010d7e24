-- The three parties of a group lead from their connected ends to no live end.
use Rattle.std.proofs.Common.{◌≡◌, ℕ, cond, List, [], ◌∷◌, Option, Some, None, refl, ap, sym, ◌∙◌, inl, inr, arith}
use Rattle.std.proofs.lemmas.Bool.{cases_eq, eq-eqb, ne_eqb}
use Rattle.sj_lang.specs.declared.proto.Way.TheVariants.{Out, Into}
use Rattle.sj_lang.specs.declared.party.Scalar.TheVariants as kinds
use Rattle.sj_lang.specs.Place.{Place, done, message, int, session}
use Rattle.sj_lang.specs.Code.{Code}
use Rattle.sj_lang.specs.FileAt.{named}
use Rattle.sj_lang.proofs.MeetLemmas.{stands_for_itself}
use Rattle.sj_acceptance.specs.Environment.{Env, put, at_place, with_kind}
use Rattle.sj_acceptance.specs.Follows.{Follows}
use Rattle.sj_generator_laws.specs.GeneratedFile as file
use Rattle.sj_generator_laws.specs.GeneratedFile.{numbers}
use Rattle.sj_generator_laws.proofs.GroupStateLemmas.{peers, sends_numbers}

-- ---- maps at a name

-- nothing is there where nothing was at other names
cleared : {X : Type 0} (f : ℕ → Option X) (x n : ℕ) → ((n ≡ x → ⊥) → f n ≡ None) → put f x None n ≡ None
cleared f x n h =
    elim (cases_eq n x) [
      | inl it ↦ ap (λ t. cond t None (f n)) (eq-eqb n x it)
      | inr other ↦ ap (λ t. cond t None (f n)) (ne_eqb n x other) ∙ h other
    ]

-- another name is left as it was
left : {X : Type 0} (f : ℕ → Option X) (x n : ℕ) (o : Option X) → (n ≡ x → ⊥) → put f x o n ≡ f n
left f x n o other = ap (λ t. cond t o (f n)) (ne_eqb n x other)

-- what stood there stands there again
again : {X : Type 0} (f : ℕ → Option X) (x : ℕ) (p q : X) → f x ≡ Some p → (n : ℕ) → put (put f x (Some q)) x (Some p) n ≡ f n
again f x p q h n =
    elim (cases_eq n x) [
      | inl it ↦ ap (λ t. cond t (Some p) (put f x (Some q) n)) (eq-eqb n x it) ∙ sym (ap f it ∙ h)
      | inr other ↦ left (put f x (Some q)) x n (Some p) other ∙ left f x n (Some q) other
    ]

-- a name that isn't the only one
absent : {X : Type 0} (x n : ℕ) (p : X) → (n ≡ x → ⊥) → named ((x, p) ∷ []) n ≡ None
absent x n p other = ap (λ t. cond t (Some p) None) (ne_eqb x n (λ e. other (sym e)))

absent_too : {X : Type 0} (x y n : ℕ) (p q : X) → (n ≡ x → ⊥) → (n ≡ y → ⊥) → named ((x, p) ∷ (y, q) ∷ []) n ≡ None
absent_too x y n p q other apart = ap (λ t. cond t (Some p) (named ((y, q) ∷ []) n)) (ne_eqb x n (λ e. other (sym e))) ∙ absent y n q apart

-- ---- parties

-- the code leads from these ends to none
pub record LeadsToNone (code : Code) (ends : List (ℕ × Place)) : Type 0 where
  pub last : Env
  pub follows : Follows file.protocols peers code (record { places = named ends; kinds = λ n. None }) last
  pub no_end : (n : ℕ) → last.places n ≡ None

pub sender_leads : (line a n number : ℕ) → LeadsToNone (file.sender line a n number).code ((5, sends_numbers) ∷ [])
sender_leads line a n number =
    let start : Env = record { places = named ((5, sends_numbers) ∷ []); kinds = λ m. None } in
    let inner = message Out int done in
    let rest = message Into int done in
    let turning = at_place start 5 (message Out int sends_numbers) in
    let behind = at_place start 5 rest in
    record {
      last = _;
      follows = (
        behind,
        (
          inner,
          rest,
          refl,
          refl,
          at_place turning 5 sends_numbers,
          (_, record { kind = kinds.Int; rest = sends_numbers; there = refl; typed = refl; leaves = refl }, refl),
          again start.places 5 sends_numbers (message Out int sends_numbers) refl,
          refl,
        ),
        (_, record { rest = done; there = refl; free = record { no_end = refl; no_other = λ j e. cc }; leaves = refl }, (_, record { there = refl; leaves = refl }, refl)),
      );
      no_end = λ m. cleared (put behind.places 5 (Some done)) 5 m (λ other. left behind.places 5 m (Some done) other ∙ left start.places 5 m (Some rest) other ∙ absent 5 m sends_numbers other);
    }

-- it delegates its end
abbrev pub hands_on : Place
hands_on = message Out (session numbers) done

pub giver_leads : (line b : ℕ) → LeadsToNone (file.giver line b).code ((9, numbers) ∷ (8, hands_on) ∷ [])
giver_leads line b =
    let start : Env = record { places = named ((9, numbers) ∷ (8, hands_on) ∷ []); kinds = λ m. None } in
    record {
      last = _;
      follows = (
        _,
        record { place = numbers; own = numbers; rest = done; two_names = λ e. absurd (omega (arith, e)); there = refl; sent = refl; stands = stands_for_itself numbers; not_empty = λ e. absurd (cc); leaves = refl },
        (_, record { there = refl; leaves = refl }, refl),
      );
      no_end = λ m. cleared (put (put start.places 8 (Some done)) 9 None) 8 m (λ other. cleared (put start.places 8 (Some done)) 9 m
          (λ apart. left start.places 8 m (Some done) other ∙ absent_too 9 8 m numbers hands_on apart other));
    }

-- it takes the end
abbrev pub takes_over : Place
takes_over = message Into (session numbers) done

pub adder_leads : (line c : ℕ) → LeadsToNone (file.adder line c).code ((11, takes_over) ∷ [])
adder_leads line c =
    let start : Env = record { places = named ((11, takes_over) ∷ []); kinds = λ m. None } in
    let inner = message Into int done in
    let rest = message Out int done in
    let taken = at_place (at_place start 11 done) 9 numbers in
    let known = with_kind taken 12 kinds.Int in
    let turning = at_place known 9 (message Into int numbers) in
    let turned = with_kind (with_kind (at_place turning 9 numbers) 13 kinds.Int) 12 kinds.Int in
    let behind = at_place known 9 rest in
    let summed = at_place behind 9 done in
    record {
      last = _;
      follows = (
        taken,
        record { place = numbers; rest = done; exists = refl; there = refl; unused = record { no_end = refl; no_variable = refl }; leaves = refl },
        (
          known,
          record { kind = kinds.Int; typed = refl; free = record { no_end = refl; no_other = λ j e. cc }; leaves = refl },
          (
            behind,
            (
              inner,
              rest,
              refl,
              turned,
              (
                _,
                record { rest = numbers; there = refl; free = record { no_end = refl; no_other = λ j e. cc }; leaves = refl },
                (_, record { kind = kinds.Int; typed = (kinds.Int, kinds.Int, refl, refl, (refl, refl), refl); free = record { no_end = refl; no_other = λ j e. cc }; leaves = refl }, refl),
              ),
              again known.places 9 numbers (message Into int numbers) refl,
              refl,
            ),
            (
              summed,
              record { kind = kinds.Int; rest = done; there = refl; typed = refl; leaves = refl },
              (_, record { there = refl; leaves = refl }, (_, record { there = refl; leaves = refl }, refl)),
            ),
          ),
        ),
      );
      no_end = λ m. cleared (put summed.places 9 None) 11 m (λ other. cleared summed.places 9 m (λ apart. left behind.places 9 m (Some done) apart ∙ left known.places 9 m (Some rest) apart
          ∙ left (at_place start 11 done).places 9 m (Some numbers) apart ∙ left start.places 11 m (Some done) other ∙ absent 11 m takes_over other));
    }
