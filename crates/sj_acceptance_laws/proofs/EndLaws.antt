-- Ends of one party have names of their own exactly where no end is taken twice.
use Rattle.std.proofs.Common.{◌≡◌, ◌≢◌, ℕ, ◌<◌, List, [], ◌∷◌, ◌++◌, ◌==◌, ◌&&◌, ◌||◌, Bool, true, false, if◌then◌else◌, length, refl, ap, sym, ◌∙◌, subst, append_assoc}
use Rattle.std.specs.List.{AllByRecursion, AllPairs}
use Rattle.std.proofs.lemmas.Bool.Decides.{Decides-eqb}
use Rattle.sj_lang.specs.Place.{Place}
use Rattle.sj_lang.specs.FileAt.{FileAt, ConnectAt, DeclAt, party_named, body_named}
use Rattle.sj_acceptance.specs.Accepted.{place_of_party, places_from}
use Rattle.sj_acceptance.specs.FileTests.{is_same_end, is_taken}
use Rattle.sj_acceptance_laws.proofs.PairLemmas.{Pairs, pairs_from_all, all_from_pairs, pairs_split, pairs_with}
use Rattle.sj_acceptance_laws.proofs.PartyLemmas.{one_name}
use Rattle.sj_acceptance_laws.proofs.FaultLemmas.{neither}

-- the ends of connections in order
abbrev pub decls : List ConnectAt → List DeclAt
decls [] = []
decls (c ∷ cs) = c.first ∷ c.second ∷ decls cs

pub decls-append : (cs ds : List ConnectAt) → decls (cs ++ ds) ≡ decls cs ++ decls ds
decls-append [] ds = refl
decls-append (c ∷ cs) ds = ap (λ es. c.first ∷ c.second ∷ es) (decls-append cs ds)

-- two ends that aren't one
abbrev pub OtherEnd : DeclAt → DeclAt → Type 0
OtherEnd d e = is_same_end d e ≡ false

pub free_from : (e : DeclAt) (cs : List ConnectAt) → is_taken e cs ≡ false → AllByRecursion (λ d. OtherEnd d e) (decls cs)
free_from e [] h = tt
free_from e (c ∷ cs) h =
    let a = neither (is_same_end c.first e || is_same_end c.second e) (is_taken e cs) h in
    let b = neither (is_same_end c.first e) (is_same_end c.second e) a.0 in
    (b.0, (b.1, free_from e cs a.1))

pub free_to : (e : DeclAt) (cs : List ConnectAt) → AllByRecursion (λ d. OtherEnd d e) (decls cs) → is_taken e cs ≡ false
free_to e [] h = refl
free_to e (c ∷ cs) h = λ i. h.0 i || h.1.0 i || free_to e cs h.1.1 i

module _ (file : FileAt) where
  abbrev pub number : DeclAt → ℕ
  number d = party_named file.parties d.party

  -- its party exists
  abbrev pub HasParty : DeclAt → Type 0
  HasParty d = number d < length file.parties

  -- in one party, other names
  abbrev pub OtherName : DeclAt → DeclAt → Type 0
  OtherName d e = number d ≡ number e → d.name ≢ e.name

  -- other names alone
  abbrev Other : ℕ × Place → ℕ × Place → Type 0
  Other b c = b.0 ≢ c.0

  -- the places of those ends that are the party's
  abbrev picked : ℕ → List DeclAt → List (ℕ × Place)
  picked p [] = []
  picked p (d ∷ ds) = place_of_party file p d ++ picked p ds

  abbrev one_or_none : Bool → DeclAt → List (ℕ × Place)
  one_or_none b d = if b then (d.name, body_named file.protocols d.protocol) ∷ [] else []

  places_from-picked : (p : ℕ) (cs : List ConnectAt) → places_from file p cs ≡ picked p (decls cs)
  places_from-picked p [] = refl
  places_from-picked p (c ∷ cs) =
      append_assoc (place_of_party file p c.first) (place_of_party file p c.second) (places_from file p cs)
      ∙ ap (λ es. place_of_party file p c.first ++ (place_of_party file p c.second ++ es)) (places_from-picked p cs)

  pick_from : (p n : ℕ) (ds : List DeclAt) → AllByRecursion (λ c. n ≢ c.0) (picked p ds) → AllByRecursion (λ e. p ≡ number e → n ≢ e.name) ds
  pick_from p n [] h = tt
  pick_from p n (d ∷ ds) h =
      elim (number d == p) as (λ b. (number d == p) ≡ b → AllByRecursion (λ c. n ≢ c.0) (one_or_none b d ++ picked p ds) → AllByRecursion (λ e. p ≡ number e → n ≢ e.name) (d ∷ ds)) [
        | true ↦ λ f g. ((λ _. g.0), pick_from p n ds g.1)
        | false ↦ λ f g. ((λ same. let t : (number d == p) ≡ true = (Decides-eqb (number d) p).1 (sym same) in absurd (cc)), pick_from p n ds g)
      ] refl h

  pick_to : (p n : ℕ) (ds : List DeclAt) → AllByRecursion (λ e. p ≡ number e → n ≢ e.name) ds → AllByRecursion (λ c. n ≢ c.0) (picked p ds)
  pick_to p n [] h = tt
  pick_to p n (d ∷ ds) h =
      elim (number d == p) as (λ b. (number d == p) ≡ b → AllByRecursion (λ c. n ≢ c.0) (one_or_none b d ++ picked p ds)) [
        | true ↦ λ f. (h.0 (sym ((Decides-eqb (number d) p).0 f)), pick_to p n ds h.1)
        | false ↦ λ f. pick_to p n ds h.1
      ] refl

  names_from : (ds : List DeclAt) → ((p : ℕ) → Pairs Other (picked p ds)) → Pairs OtherName ds
  names_from [] h = tt
  names_from (d ∷ ds) h =
      let here : Pairs Other (one_or_none true d ++ picked (number d) ds) = subst (λ b. Pairs Other (one_or_none b d ++ picked (number d) ds)) ((Decides-eqb (number d) (number d)).1 refl) (h (number d)) in
      (pick_from (number d) d.name ds here.0, names_from ds (λ p. (pairs_split Other (place_of_party file p d) (picked p ds) (h p)).1))

  names_to : (ds : List DeclAt) → Pairs OtherName ds → (p : ℕ) → Pairs Other (picked p ds)
  names_to [] h p = tt
  names_to (d ∷ ds) h p =
      elim (number d == p) as (λ b. (number d == p) ≡ b → Pairs Other (one_or_none b d ++ picked p ds)) [
        | true ↦ λ f. (pick_to p d.name ds (subst (λ (n : ℕ). AllByRecursion (λ e. n ≡ number e → d.name ≢ e.name) ds) ((Decides-eqb (number d) p).0 f) h.0), names_to ds h.1 p)
        | false ↦ λ f. names_to ds h.1 p
      ] refl

  other_name : (d e : DeclAt) → HasParty d → HasParty e → OtherEnd d e → OtherName d e
  other_name d e h k o same name =
      let party : (d.party == e.party) ≡ true = (Decides-eqb d.party e.party).1 (one_name file.parties d.party e.party h same) in
      let both : (d.party == e.party && (d.name == e.name)) ≡ true = λ i. party i && (Decides-eqb d.name e.name).1 name i in
      absurd (cc)

  other_end : (d e : DeclAt) → HasParty d → HasParty e → OtherName d e → OtherEnd d e
  other_end d e h k o = differ (d.party == e.party) (d.name == e.name) (λ s t. o (ap (party_named file.parties) ((Decides-eqb d.party e.party).0 s)) ((Decides-eqb d.name e.name).0 t))
    where
      differ : (b c : Bool) → (b ≡ true → c ≡ true → ⊥) → (b && c) ≡ false
      differ true true f = absurd (f refl refl)
      differ true false f = refl
      differ false c f = refl

  -- where each end's party exists, names are once in each party exactly where no end is taken twice
  pub names_once_of : (cs : List ConnectAt) → AllByRecursion HasParty (decls cs) → Pairs OtherEnd (decls cs) → (p : ℕ) → AllPairs Other (places_from file p cs)
  names_once_of cs d h p =
      all_from_pairs Other (places_from file p cs)
      (subst (Pairs Other) (sym (places_from-picked p cs)) (names_to (decls cs) (pairs_with HasParty OtherEnd OtherName other_name (decls cs) d h) p))

  pub none_taken : (cs : List ConnectAt) → AllByRecursion HasParty (decls cs) → ((p : ℕ) → AllPairs Other (places_from file p cs)) → Pairs OtherEnd (decls cs)
  none_taken cs d h =
      pairs_with HasParty OtherName OtherEnd other_end (decls cs) d
      (names_from (decls cs) (λ p. subst (Pairs Other) (places_from-picked p cs) (pairs_from_all Other (places_from file p cs) (h p))))
