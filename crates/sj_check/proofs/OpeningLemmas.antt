-- Requests and accepts as they are gathered, and the tests of what they open.
use Rattle.std.proofs.Common.{◌≡◌, ℕ, ◌+◌, ◌<◌, zero, suc, List, [], ◌∷◌, ◌++◌, map, length, get_or, take, drop, Option, None, Bool, true, false, ◌==◌, ◌&&◌, ◌||◌, not, refl, ap, sym, subst, ◌∙◌, add-one, drop-cons, arith}
use Rattle.std.specs.List.{AllZip}
use Rattle.std.proofs.lemmas.Bool.Decides.{Decides-eqb}
use Rattle.std.proofs.lemmas.List.{append_assoc, append-nil}
use Rattle.sj_lang.specs.FileAt.{ProtocolAt, PartyAt, body_named}
use Rattle.sj_lang.specs.FileView.{party_of}
use Rattle.sj_lang.specs.MeetTests.{meets}
use Rattle.sj_lang.specs.declared.file.Party.{Party}
use Rattle.sj_acceptance.specs.Faults.{Test, first_fault}
use Rattle.sj_acceptance.specs.FileTests.{meets_each, meets_requests, accept_tests, opening_tests}
use Rattle.sj_acceptance.specs.Openings.{OpeningAt}
use Rattle.sj_check.specs.declared.openings.Opening.{Opening}
use Rattle.sj_check.specs.declared.openings.Openings.{Openings}
use Rattle.sj_check.specs.Openings.{AreOf, opening_of, openings_of, is_asked, meets_gathered, each_accept, gathered_tests}
use Rattle.sj_check.specs.Views.{parties_of}
use Rattle.sj_check.specs.declared.refusal.CheckRefusal.{CheckRefusal}
use Rattle.sj_check.specs.Told.{Tells}
use Rattle.sj_check.proofs.FaultLemmas.{behind, Tells-front}

-- ---- lists

pub mapped : {X Y : Type 0} (f : X → Y) (xs ys : List X) → map f (xs ++ ys) ≡ (map f xs ++ map f ys)
mapped f [] ys = refl
mapped f (x ∷ xs) ys = ap (λ zs. f x ∷ zs) (mapped f xs ys)

pub openings_of-append : (xs ys : List Opening) → openings_of (xs ++ ys) ≡ (openings_of xs ++ openings_of ys)
openings_of-append xs ys = mapped opening_of xs ys

pub ruleset gathers = (openings_of-append, append_assoc, append-nil)

zip_push : {A B : Type 0} (R : A → B → Type 0) (xs : List A) (ys : List B) (x : A) (y : B) → AllZip R xs ys → R x y → AllZip R (xs ++ x ∷ []) (ys ++ y ∷ [])
zip_push R [] [] x y h r = (r, tt)
zip_push R [] (_ ∷ _) x y h r = absurd h
zip_push R (_ ∷ _) [] x y h r = absurd h
zip_push R (a ∷ xs) (b ∷ ys) x y h r = (h.0, zip_push R xs ys x y h.1 r)

pub take_next : {X : Type 0} (xs : List X) (i : ℕ) (x : X) → i < length xs → take (suc i) xs ≡ (take i xs ++ get_or xs i x ∷ [])
take_next [] i x lt = absurd (omega arith)
take_next (y ∷ xs) zero x lt = refl
take_next (y ∷ xs) (suc i) x lt = ap (λ zs. y ∷ zs) (take_next xs i x (omega arith))

-- one more party
pub gathered_next : (parties : List Party) (i : ℕ) (p : Party) (all : List Openings) (one : Openings) → i < length parties → p ≡ get_or parties i p
    → AllZip AreOf all (parties_of (take i parties)) → AreOf one (party_of p) → AllZip AreOf (all ++ one ∷ []) (parties_of (take (i + 1) parties))
gathered_next parties i p all one lt there h r =
    rw add-one
    (subst (λ (qs : List PartyAt). AllZip AreOf (all ++ one ∷ []) qs)
    (sym (ap parties_of (take_next parties i p lt) ∙ mapped party_of (take i parties) (get_or parties i p ∷ []) ∙ ap (λ (q : Party). parties_of (take i parties) ++ party_of q ∷ []) (sym there)))
    (zip_push AreOf all (parties_of (take i parties)) one (party_of p) h r))

-- ---- tests

module _ (ps : List ProtocolAt) where
  met_alike : (b : ℕ) (a : OpeningAt) (all : List Openings) (qs : List PartyAt) → AllZip AreOf all qs → meets_gathered ps b a all ≡ meets_requests ps b a qs
  met_alike b a [] [] h = refl
  met_alike b a [] (_ ∷ _) h = absurd h
  met_alike b a (_ ∷ _) [] h = absurd h
  met_alike b a (os ∷ all) (q ∷ qs) h = λ i. (not (h.0.name i == a.party) || h.0.requests ps b a i) && met_alike b a all qs h.1 i

  module _ (all : List Openings) (qs : List PartyAt) (zip : AllZip AreOf all qs) where
    accepts_alike : (b : ℕ) (as' : List OpeningAt) → each_accept ps all b as' ≡ accept_tests ps qs b as'
    accepts_alike b [] = refl
    accepts_alike b (a ∷ as') = λ i. (15, a.line, met_alike b a all qs zip i) ∷ accepts_alike b as' i

    alike : (some : List Openings) (rs : List PartyAt) → AllZip AreOf some rs → gathered_tests ps all some ≡ opening_tests ps qs rs
    alike [] [] h = refl
    alike [] (_ ∷ _) h = absurd h
    alike (_ ∷ _) [] h = absurd h
    alike (os ∷ some) (r ∷ rs) h =
        let own : each_accept ps all os.party (openings_of os.accepts.items) ≡ accept_tests ps qs os.party (openings_of os.accepts.items) = accepts_alike os.party (openings_of os.accepts.items) in
        let same : accept_tests ps qs os.party (openings_of os.accepts.items) ≡ accept_tests ps qs r.name _ = λ i. accept_tests ps qs (h.0.name i) (h.0.accepts i) in
        λ i. (own ∙ same) i ++ alike some rs h.1 i

    -- the tests of what was gathered are those of the parties
    pub tests_alike : gathered_tests ps all all ≡ opening_tests ps qs qs
    tests_alike = alike all qs zip

-- the accepts of one party, and the rest
module _ (ps : List ProtocolAt) (all : List Openings) (i : ℕ) (own : Openings) (lt : i < length all) (there : own ≡ get_or all i own) where
  abbrev accepts : List Test
  accepts = each_accept ps all own.party (openings_of own.accepts.items)

  parts : gathered_tests ps all (drop i all) ≡ (accepts ++ gathered_tests ps all (drop (i + 1) all))
  parts =
      rw add-one
      (ap (λ (os : List Openings). gathered_tests ps all os) (drop-cons all i own lt)
      ∙ ap (λ (o : Openings). each_accept ps all o.party (openings_of o.accepts.items) ++ gathered_tests ps all (drop (suc i) all)) (sym there))

  pub accepts-fault : (o : Option (ℕ × ℕ)) (r : CheckRefusal) → first_fault (gathered_tests ps all (drop i all)) ≡ o → Tells (first_fault (each_accept ps all own.party (openings_of own.accepts.items))) r → Tells o r
  accepts-fault o r from t = subst (λ f. Tells f r) (ap first_fault (sym parts) ∙ from) (Tells-front accepts (gathered_tests ps all (drop (i + 1) all)) r t)

  pub accepts-pass : first_fault (each_accept ps all own.party (openings_of own.accepts.items)) ≡ None → first_fault (gathered_tests ps all (drop (i + 1) all)) ≡ first_fault (gathered_tests ps all (drop i all))
  accepts-pass t = sym (ap first_fault parts ∙ behind accepts (gathered_tests ps all (drop (i + 1) all)) t)

-- ---- requests that stand once

module _ (ps : List ProtocolAt) (b : ℕ) (a : OpeningAt) where
  -- what the accept asks of one request
  abbrev met : ℕ → ℕ → Bool
  met protocol party = not (party == b) || meets (body_named ps protocol) (body_named ps a.protocol)

  both : (x y : Bool) → (x && y) ≡ true → (x ≡ true) × (y ≡ true)
  both true y h = (refl, h)
  both false y h = absurd (cc)

  asked_met : (os : List OpeningAt) (protocol party : ℕ) → is_asked protocol party os ≡ true → meets_each ps b a os ≡ true → met protocol party ≡ true
  asked_met [] protocol party asked all = absurd (cc)
  asked_met (o ∷ os) protocol party asked all =
      let parts = both (met o.protocol o.party) (meets_each ps b a os) all in
      elim ((o.protocol == protocol) && (o.party == party)) as (λ t. ((o.protocol == protocol) && (o.party == party)) ≡ t → (t || is_asked protocol party os) ≡ true → met protocol party ≡ true) [
        | true ↦ λ e _.
            let same = both (o.protocol == protocol) (o.party == party) e in
            subst (λ (n : ℕ). met n party ≡ true) ((Decides-eqb o.protocol protocol).0 same.0) (subst (λ (n : ℕ). met o.protocol n ≡ true) ((Decides-eqb o.party party).0 same.1) parts.0)
        | false ↦ λ e h. asked_met os protocol party h parts.1
      ] refl asked

  skipped : (all one rest : Bool) → (all ≡ true → one ≡ true) → (all && (one && rest)) ≡ (all && rest)
  skipped false one rest h = refl
  skipped true one rest h = ap (λ (t : Bool). t && rest) (h refl)

  and_assoc : (x y z : Bool) → ((x && y) && z) ≡ (x && (y && z))
  and_assoc true y z = refl
  and_assoc false y z = refl

  one_more : (os : List OpeningAt) (o : OpeningAt) (rest : Bool) → (meets_each ps b a (os ++ o ∷ []) && rest) ≡ (meets_each ps b a os && (met o.protocol o.party && rest))
  one_more [] o rest = and_assoc (met o.protocol o.party) true rest
  one_more (x ∷ os) o rest =
      and_assoc (met x.protocol x.party) (meets_each ps b a (os ++ o ∷ [])) rest ∙ ap (λ (t : Bool). met x.protocol x.party && t) (one_more os o rest)
      ∙ sym (and_assoc (met x.protocol x.party) (meets_each ps b a os) (met o.protocol o.party && rest))

  module _ (all : List Opening) (i : ℕ) (o d : Opening) (lt : i < length all) (there : o ≡ get_or all i d) (some : List Opening)
      (from : (meets_each ps b a (openings_of some) && meets_each ps b a (openings_of (drop i all))) ≡ meets_each ps b a (openings_of all)) where
    split : (meets_each ps b a (openings_of some) && (met o.protocol o.party && meets_each ps b a (openings_of (drop (i + 1) all)))) ≡ meets_each ps b a (openings_of all)
    split =
        rw add-one
        (sym (ap (λ (os : List Opening). meets_each ps b a (openings_of some) && meets_each ps b a (openings_of os)) (drop-cons all i d lt)
        ∙ ap (λ (x : Opening). meets_each ps b a (openings_of some) && meets_each ps b a (openings_of (x ∷ drop (suc i) all))) (sym there))
        ∙ from)

    -- it is left out where one of its protocol and its party is kept
    pub left_out : is_asked o.protocol o.party (openings_of some) ≡ true → (meets_each ps b a (openings_of some) && meets_each ps b a (openings_of (drop (i + 1) all))) ≡ meets_each ps b a (openings_of all)
    left_out asked = sym (skipped (meets_each ps b a (openings_of some)) (met o.protocol o.party) _ (asked_met (openings_of some) o.protocol o.party asked)) ∙ split

    pub kept : (more : List Opening) → more ≡ (some ++ o ∷ []) → (meets_each ps b a (openings_of more) && meets_each ps b a (openings_of (drop (i + 1) all))) ≡ meets_each ps b a (openings_of all)
    kept more e =
        ap (λ (os : List OpeningAt). meets_each ps b a os && meets_each ps b a (openings_of (drop (i + 1) all))) (ap openings_of e ∙ openings_of-append some (o ∷ []))
        ∙ one_more (openings_of some) (opening_of o) _ ∙ split
