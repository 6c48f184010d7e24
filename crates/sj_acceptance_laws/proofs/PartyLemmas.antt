-- The number of a party and its name.
use Rattle.std.proofs.Common.{◌≡◌, ◌≢◌, ℕ, zero, suc, ◌<◌, ◌+◌, List, [], ◌∷◌, ◌==◌, ◌||◌, Some, Bool, true, false, cond, length, refl, ap, sym, ◌∙◌, subst, arith}
use Rattle.std.specs.List.{AllByRecursion, slice_get}
use Rattle.std.proofs.lemmas.Bool.Decides.{Decides-eqb, same_from_decides, Decides-like}
use Rattle.sj_lang.specs.FileAt.{PartyAt, party_named}
use Rattle.sj_acceptance.specs.LabelTests.{is_among}
use Rattle.sj_acceptance.specs.FileTests.{party_names}
use Rattle.sj_acceptance_laws.proofs.PairLemmas.{Pairs}
use Rattle.sj_acceptance_laws.proofs.NameLaws.{OtherParty}

-- the number, by whether the first party is the one
abbrev number : Bool → ℕ → ℕ
number b n = cond b 0 (1 + n)

number_at_zero : (b : Bool) (n : ℕ) → number b n ≡ 0 → b ≡ true
number_at_zero true n e = refl
number_at_zero false n e = absurd (omega arith)

number_past : (b : Bool) (n k : ℕ) → number b n ≡ suc k → (b ≡ false) × (n ≡ k)
number_past true n k e = absurd (omega arith)
number_past false n k e = (refl, omega arith)

-- the party exists exactly where its name is one of the parties'
pub among_parties : (ps : List PartyAt) (n : ℕ) → is_among n (party_names ps) ≡ true → party_named ps n < length ps
among_parties [] n h = absurd (cc)
among_parties (p ∷ ps) n h =
    elim (p.name == n) as (λ b. (b || is_among n (party_names ps)) ≡ true → number b (party_named ps n) < length (p ∷ ps)) [
      | true ↦ λ g. omega arith
      | false ↦ λ g. let r = among_parties ps n g in omega arith
    ] h

pub parties_among : (ps : List PartyAt) (n : ℕ) → party_named ps n < length ps → is_among n (party_names ps) ≡ true
parties_among [] n h = absurd (omega arith)
parties_among (p ∷ ps) n h =
    elim (p.name == n) as (λ b. number b (party_named ps n) < length (p ∷ ps) → (b || is_among n (party_names ps)) ≡ true) [
      | true ↦ λ g. refl
      | false ↦ λ g. parties_among ps n (omega arith)
    ] h

-- two names of one party are one
pub one_name : (ps : List PartyAt) (m n : ℕ) → party_named ps m < length ps → party_named ps m ≡ party_named ps n → m ≡ n
one_name [] m n h e = absurd (omega arith)
one_name (p ∷ ps) m n h e =
    elim (p.name == m) as (λ b. (p.name == m) ≡ b → number b (party_named ps m) < length (p ∷ ps) → number b (party_named ps m) ≡ party_named (p ∷ ps) n → m ≡ n) [
      | true ↦ λ f l g. sym ((Decides-eqb p.name m).0 f) ∙ (Decides-eqb p.name n).0 (number_at_zero (p.name == n) (party_named ps n) (sym g))
      | false ↦ λ f l g.
          let r = number_past (p.name == n) (party_named ps n) (party_named ps m) (sym g ∙ omega arith) in
          one_name ps m n (omega arith) (sym r.1)
    ] refl h e

-- the name of the party of that number
pub name_of : (ps : List PartyAt) (p m : ℕ) (q : PartyAt) → slice_get ps p ≡ Some q → party_named ps m ≡ p → m ≡ q.name
name_of [] p m q s e = absurd (cc)
name_of (r ∷ ps) zero m q s e = let same : r ≡ q = cc in sym ((Decides-eqb r.name m).0 (number_at_zero (r.name == m) (party_named ps m) e)) ∙ ap (λ (t : PartyAt). t.name) same
name_of (r ∷ ps) (suc p) m q s e = name_of ps p m q s (number_past (r.name == m) (party_named ps m) p e).1

other_at : (ps : List PartyAt) (r q : PartyAt) (p : ℕ) → AllByRecursion (OtherParty r) ps → slice_get ps p ≡ Some q → r.name ≢ q.name
other_at [] r q p h s = absurd (cc)
other_at (x ∷ ps) r q zero h s = let same : x ≡ q = cc in subst (λ (t : PartyAt). r.name ≢ t.name) same h.0
other_at (x ∷ ps) r q (suc p) h s = other_at ps r q p h.1 s

-- where names are once, the party of that number is the one of its name
pub number_of : (ps : List PartyAt) (p : ℕ) (q : PartyAt) → Pairs OtherParty ps → slice_get ps p ≡ Some q → party_named ps q.name ≡ p
number_of [] p q h s = absurd (cc)
number_of (r ∷ ps) zero q h s = let same : r ≡ q = cc in ap (λ b. number b (party_named ps q.name)) ((Decides-eqb r.name q.name).1 (ap (λ (t : PartyAt). t.name) same))
number_of (r ∷ ps) (suc p) q h s =
    ap (λ b. number b (party_named ps q.name)) (apart (r.name == q.name) (λ t. other_at ps r q p h.0 s ((Decides-eqb r.name q.name).0 t)))
    ∙ ap (λ n. 1 + n) (number_of ps p q h.1 s) ∙ omega arith
  where
    apart : (b : Bool) → (b ≡ true → ⊥) → b ≡ false
    apart true f = absurd (f refl)
    apart false f = refl

pub party_is : (ps : List PartyAt) (p m : ℕ) (q : PartyAt) → Pairs OtherParty ps → slice_get ps p ≡ Some q → (party_named ps m == p) ≡ (m == q.name)
party_is ps p m q h s =
    same_from_decides (party_named ps m == p) (m == q.name)
    (Decides-like (party_named ps m == p) (name_of ps p m q s) (λ e. ap (party_named ps) e ∙ number_of ps p q h s) (Decides-eqb (party_named ps m) p))
    (Decides-eqb m q.name)
