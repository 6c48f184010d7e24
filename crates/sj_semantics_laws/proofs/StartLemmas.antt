-- At the start of any file no end is shared.
use Rattle.std.proofs.Common.{◌≡◌, ℕ, zero, suc, ◌+◌, ◌≤◌, ◌<◌, ◌==◌, leb, Bool, true, false, cond, List, [], ◌∷◌, ◌++◌, map, sum_by, length, refl, ap, sym, ◌∙◌, arith, inl, inr}
use Rattle.std.proofs.lemmas.Bool.{cases_Bool, eqb-true, and_parts, leb-true, le-leb, false_from_ne_true}
use Rattle.std.proofs.lemmas.List.Sums.{sum_by-cons, sum_by-append}
use Rattle.sj_base.specs.declared.EndId.{EndId}
use Rattle.sj_lang.specs.FileAt.{FileAt, PartyAt, DeclAt, ConnectAt, party_named, end_of_party, ends_from}
use Rattle.sj_semantics.specs.World.{session_of, program_of, programs_from, start_of}
use Rattle.sj_semantics.specs.Ends.{is_end}
use Rattle.sj_semantics_laws.specs.Unshared.{bindings_of, carried_in, claims_on, IsToCome, to_open, to_accept, IsUnshared}
use Rattle.sj_lang.specs.Limits.{limits}
use Rattle.sj_semantics_laws.proofs.ClaimLemmas.{one_if}
use Rattle.sj_semantics_laws.proofs.HolderLemmas.{binds}

-- the party to which the end belongs, of connections whose first is session n
abbrev owner_of : List PartyAt → ℕ → List ConnectAt → EndId → ℕ
owner_of ps n [] e = 0
owner_of ps n (c ∷ cs) e =
    cond (is_end e (record { sess = n; side = 0 })) (party_named ps c.first.party)
    (cond (is_end e (record { sess = n; side = 1 })) (party_named ps c.second.party) (owner_of ps (n + 1) cs e))

pub bindings_of-append : (e : EndId) (as' bs : List (ℕ × EndId)) → bindings_of e (as' ++ bs) ≡ bindings_of e as' + bindings_of e bs
bindings_of-append e as' bs = sum_by-append (λ (c : ℕ × EndId). cond (is_end e c.1) 1 0) as' bs

one_end : (e f : EndId) (x : ℕ) (b : Bool) → bindings_of e (cond b ((x, f) ∷ []) []) ≡ cond b (one_if (is_end e f)) 0
one_end e f x true = omega arith
one_end e f x false = refl

bindings_of-end_of_party : (e f : EndId) (file : FileAt) (p : ℕ) (d : DeclAt) → bindings_of e (end_of_party file p d f) ≡ cond (party_named file.parties d.party == p) (one_if (is_end e f)) 0
bindings_of-end_of_party e f file p d = one_end e f d.name (party_named file.parties d.party == p)

not_end : (b c : Bool) → c ≡ false → cond b (one_if c) 0 ≡ 0
not_end true c h = ap {B = ℕ} one_if h
not_end false c h = refl

pub other_session : (e : EndId) (n d : ℕ) → (e.sess ≡ n → ⊥) → is_end e (record { sess = n; side = d }) ≡ false
other_session e n d ne = false_from_ne_true (is_end e (record { sess = n; side = d })) (λ t. ne (eqb-true e.sess n (and_parts (e.sess == n) _ t).0))

end_session : (e : EndId) (n d : ℕ) → is_end e (record { sess = n; side = d }) ≡ true → e.sess ≡ n
end_session e n d t = eqb-true e.sess n (and_parts (e.sess == n) _ t).0

-- later connections have no earlier end
none_later : (e : EndId) (file : FileAt) (p n : ℕ) (cs : List ConnectAt) → e.sess < n → bindings_of e (ends_from file p n cs) ≡ 0
none_later e file p n [] lt = refl
none_later e file p n (c ∷ cs) lt =
    omega (
      arith,
      bindings_of-append e (end_of_party file p c.first (record { sess = n; side = 0 }) ++ end_of_party file p c.second (record { sess = n; side = 1 })) (ends_from file p (n + 1) cs),
      bindings_of-append e (end_of_party file p c.first (record { sess = n; side = 0 })) (end_of_party file p c.second (record { sess = n; side = 1 })),
      bindings_of-end_of_party e (record { sess = n; side = 0 }) file p c.first,
      bindings_of-end_of_party e (record { sess = n; side = 1 }) file p c.second,
      not_end (party_named file.parties c.first.party == p) (is_end e (record { sess = n; side = 0 })) (other_session e n 0 (λ h. omega arith)),
      not_end (party_named file.parties c.second.party == p) (is_end e (record { sess = n; side = 1 })) (other_session e n 1 (λ h. omega arith)),
      none_later e file p (n + 1) cs (omega arith),
    )

not_both_sides : (e : EndId) (n : ℕ) → is_end e (record { sess = n; side = 0 }) ≡ true → is_end e (record { sess = n; side = 1 }) ≡ false
not_both_sides e n t = false_from_ne_true _ (λ u. two_sides e.side (and_parts (e.sess == n) _ t).1 (and_parts (e.sess == n) _ u).1)
  where
    two_sides : (d : ℕ) → Rattle.sj_semantics.specs.Ends.is_same_side d 0 ≡ true → Rattle.sj_semantics.specs.Ends.is_same_side d 1 ≡ true → ⊥
    two_sides zero t u = cc
    two_sides (suc d) t u = cc

if_it_is : (b c : Bool) → c ≡ true → cond b (one_if c) 0 ≡ one_if b
if_it_is true c h = ap {B = ℕ} one_if h
if_it_is false c h = refl

-- a party's connections bind the end at most once, and only at its owner
owner_binds : (e : EndId) (file : FileAt) (p n : ℕ) (cs : List ConnectAt) → bindings_of e (ends_from file p n cs) ≤ one_if (owner_of file.parties n cs e == p)
owner_binds e file p n [] = omega arith
owner_binds e file p n (c ∷ cs) =
    let first : EndId = record { sess = n; side = 0 } in
    let second : EndId = record { sess = n; side = 1 } in
    let parts : bindings_of e (ends_from file p n (c ∷ cs)) ≡ cond (party_named file.parties c.first.party == p) (one_if (is_end e first)) 0 + cond (party_named file.parties c.second.party == p) (one_if (is_end e second)) 0 + bindings_of e (ends_from file p (n + 1) cs) =
    omega (
      arith,
      bindings_of-append e (end_of_party file p c.first first ++ end_of_party file p c.second second) (ends_from file p (n + 1) cs),
      bindings_of-append e (end_of_party file p c.first first) (end_of_party file p c.second second),
      bindings_of-end_of_party e first file p c.first,
      bindings_of-end_of_party e second file p c.second,
    ) in
    elim (cases_Bool (is_end e first)) [
      | inl it ↦
          omega (
            arith,
            parts,
            if_it_is (party_named file.parties c.first.party == p) (is_end e first) it,
            not_end (party_named file.parties c.second.party == p) (is_end e second) (not_both_sides e n it),
            none_later e file p (n + 1) cs (omega (arith, end_session e n 0 it)),
            ap {B = ℕ} (λ (t : Bool). one_if (cond t (party_named file.parties c.first.party) (cond (is_end e second) (party_named file.parties c.second.party) (owner_of file.parties (n + 1) cs e)) == p)) it,
          )
      | inr not_it ↦
          elim (cases_Bool (is_end e second)) [
            | inl it ↦
                omega (
                  arith,
                  parts,
                  not_end (party_named file.parties c.first.party == p) (is_end e first) not_it,
                  if_it_is (party_named file.parties c.second.party == p) (is_end e second) it,
                  none_later e file p (n + 1) cs (omega (arith, end_session e n 1 it)),
                  ap {B = ℕ} (λ (t : Bool). one_if (cond t (party_named file.parties c.first.party) (cond (is_end e second) (party_named file.parties c.second.party) (owner_of file.parties (n + 1) cs e)) == p)) not_it,
                  ap {B = ℕ} (λ (t : Bool). one_if (cond t (party_named file.parties c.second.party) (owner_of file.parties (n + 1) cs e) == p)) it,
                )
            | inr neither ↦
                omega (
                  arith,
                  parts,
                  not_end (party_named file.parties c.first.party == p) (is_end e first) not_it,
                  not_end (party_named file.parties c.second.party == p) (is_end e second) neither,
                  owner_binds e file p (n + 1) cs,
                  ap {B = ℕ} (λ (t : Bool). one_if (cond t (party_named file.parties c.first.party) (cond (is_end e second) (party_named file.parties c.second.party) (owner_of file.parties (n + 1) cs e)) == p)) not_it,
                  ap {B = ℕ} (λ (t : Bool). one_if (cond t (party_named file.parties c.second.party) (owner_of file.parties (n + 1) cs e) == p)) neither,
                )
          ]
    ]

-- one of the parties from p on is the owner, or none
one_of_them : (o p : ℕ) → one_if (o == p) + one_if (leb (p + 1) o) ≤ one_if (leb p o)
one_of_them o p =
    elim (cases_Bool (leb p o)) [
      | inl le ↦
          elim (cases_Bool (o == p)) [
            | inl it ↦ omega (arith, ap {B = ℕ} one_if le, ap {B = ℕ} one_if it, ap {B = ℕ} one_if (false_from_ne_true (leb (p + 1) o) (λ t. absurd (omega (arith, leb-true (p + 1) o t, eqb-true o p it)))))
            | inr not_it ↦ omega (arith, ap {B = ℕ} one_if le, ap {B = ℕ} one_if not_it, at_most_one (leb (p + 1) o))
          ]
      | inr above ↦
          omega (
            arith,
            ap {B = ℕ} one_if above,
            ap {B = ℕ} one_if (false_from_ne_true (o == p) (λ t. not_below above (eqb-true o p t))),
            ap {B = ℕ} one_if (false_from_ne_true (leb (p + 1) o) (λ t. not_above above (leb-true (p + 1) o t))),
          )
    ]
  where
    at_most_one : (b : Bool) → one_if b ≤ 1
    at_most_one true = omega arith
    at_most_one false = omega arith

    not_below : leb p o ≡ false → o ≡ p → ⊥
    not_below f e = Rattle.std.proofs.lemmas.Bool.true≢false (sym (le-leb p o (omega arith)) ∙ f)

    not_above : leb p o ≡ false → p + 1 ≤ o → ⊥
    not_above f e = Rattle.std.proofs.lemmas.Bool.true≢false (sym (le-leb p o (omega arith)) ∙ f)

programs_bind : (e : EndId) (file : FileAt) (p : ℕ) (qs : List PartyAt) → sum_by (binds e) (programs_from file p qs) ≤ one_if (leb p (owner_of file.parties 0 file.connects e))
programs_bind e file p [] = omega arith
programs_bind e file p (q ∷ qs) =
    omega (
      arith,
      sum_by-cons (binds e) (program_of file p q) (programs_from file (p + 1) qs),
      owner_binds e file p 0 file.connects,
      programs_bind e file (p + 1) qs,
      one_of_them (owner_of file.parties 0 file.connects e) p,
    )

pub nothing_carried : (e : EndId) (file : FileAt) (cs : List ConnectAt) → sum_by (carried_in e) (map (session_of file) cs) ≡ 0
nothing_carried e file [] = refl
nothing_carried e file (c ∷ cs) = omega (arith, sum_by-cons (carried_in e) (session_of file c) (map (session_of file) cs), nothing_carried e file cs)

not_this : (e : EndId) (n d x : ℕ) (b : Bool) → n < e.sess → bindings_of e (cond b ((x, record { sess = n; side = d }) ∷ []) []) ≡ 0
not_this e n d x true lt = omega (arith, ap {B = ℕ} (λ (t : Bool). cond t 1 0) (other_session e n d (λ h. omega (arith, h, lt))))
not_this e n d x false lt = refl

-- connections before number m have no end of a session from m on
none_before : (e : EndId) (file : FileAt) (p n : ℕ) (cs : List ConnectAt) → n + length cs ≤ e.sess → bindings_of e (ends_from file p n cs) ≡ 0
none_before e file p n [] le = refl
none_before e file p n (c ∷ cs) le =
    let first : EndId = record { sess = n; side = 0 } in
    let second : EndId = record { sess = n; side = 1 } in
    omega (
      arith,
      bindings_of-append e (end_of_party file p c.first first ++ end_of_party file p c.second second) (ends_from file p (n + 1) cs),
      bindings_of-append e (end_of_party file p c.first first) (end_of_party file p c.second second),
      not_this e n 0 c.first.name (party_named file.parties c.first.party == p) (omega (arith, le)),
      not_this e n 1 c.second.name (party_named file.parties c.second.party == p) (omega (arith, le)),
      none_before e file p (n + 1) cs (omega (arith, le)),
    )

pub no_program_binds : (e : EndId) (file : FileAt) (p : ℕ) (qs : List PartyAt) → length file.connects ≤ e.sess → sum_by (binds e) (programs_from file p qs) ≡ 0
no_program_binds e file p [] le = refl
no_program_binds e file p (q ∷ qs) le =
    omega (
      arith,
      sum_by-cons (binds e) (program_of file p q) (programs_from file (p + 1) qs),
      none_before e file p 0 file.connects (omega (arith, le)),
      no_program_binds e file (p + 1) qs le,
    )

-- ends that are to come are no connection's
none_to_come : (file : FileAt) (e : EndId) → length file.connects ≤ limits.connects → IsToCome (start_of file) e → claims_on e (start_of file) ≡ 0
none_to_come file e few (to_open p k le lt num) =
    let above : length file.connects ≤ e.sess = omega (arith, num) in
    omega (arith, no_program_binds e file 0 file.parties above, nothing_carried e file file.connects)
none_to_come file e few (to_accept p k r there none num side) = cc

one_if_le : (b : Bool) → one_if b ≤ 1
one_if_le true = omega arith
one_if_le false = omega arith

pub start_is_unshared : (file : FileAt) → length file.connects ≤ limits.connects → IsUnshared (start_of file)
start_is_unshared file few = record {
  once = λ e. omega (arith, programs_bind e file 0 file.parties, nothing_carried e file file.connects, one_if_le (leb 0 (owner_of file.parties 0 file.connects e)));
  to_come = λ e t. none_to_come file e few t;
  few = λ p. omega arith;
}
