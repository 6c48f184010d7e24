-- The tests of the names of protocols and of parties.
use Rattle.std.proofs.Common.{◌≡◌, ◌≢◌, ℕ, List, [], ◌∷◌, ◌++◌, ◌==◌, ◌||◌, Some, None, Bool, true, false, cond, map, refl, ap, ◌∙◌}
use Rattle.std.proofs.Common as common
use Rattle.std.specs.List.{AllByRecursion}
use Rattle.std.proofs.lemmas.Bool.Decides.{Decides-eqb}
use Rattle.sj_lang.specs.FileAt.{ProtocolAt, PartyAt}
use Rattle.sj_acceptance.specs.Labels.{NamesOnce}
use Rattle.sj_acceptance.specs.Faults.{first_fault}
use Rattle.sj_acceptance.specs.LabelTests.{is_among, names_once}
use Rattle.sj_acceptance.specs.FileTests.{protocol_names, party_names, protocol_tests, party_tests}
use Rattle.sj_acceptance_laws.proofs.FaultLemmas.{first_passes, not_true, neither}
use Rattle.sj_acceptance_laws.proofs.OnceLaws.{names_once_from, names_once_to}
use Rattle.sj_acceptance_laws.proofs.PairLemmas.{EachNew}

differ : (b : Bool) → (b ≡ true → ⊥) → b ≡ false
differ true f = absurd (f refl)
differ false f = refl

-- a name that is none of these
module _ {X : Type 0} (name : X → ℕ) (n : ℕ) where
  new_from : (xs : List X) → is_among n (map name xs) ≡ false → AllByRecursion (λ x. name x ≢ n) xs
  new_from [] h = tt
  new_from (x ∷ xs) h =
      let e = neither (name x == n) (is_among n (map name xs)) h in
      ((λ same. let t : (name x == n) ≡ true = (Decides-eqb (name x) n).1 same in absurd (cc)), new_from xs e.1)

  new_to : (xs : List X) → AllByRecursion (λ x. name x ≢ n) xs → is_among n (map name xs) ≡ false
  new_to [] h = refl
  new_to (x ∷ xs) h = ap (λ b. b || is_among n (map name xs)) (differ (name x == n) (λ t. h.0 ((Decides-eqb (name x) n).0 t))) ∙ new_to xs h.1

-- two protocols, or parties, of other names
abbrev pub OtherProtocol : ProtocolAt → ProtocolAt → Type 0
OtherProtocol p q = p.name ≢ q.name

abbrev pub OtherParty : PartyAt → PartyAt → Type 0
OtherParty p q = p.name ≢ q.name

pub protocols_from : (earlier ps : List ProtocolAt) → first_fault (protocol_tests earlier ps) ≡ None → EachNew OtherProtocol earlier ps × AllByRecursion (λ p. NamesOnce p.body) ps
protocols_from earlier [] h = (tt, tt)
protocols_from earlier (p ∷ ps) h =
    let a = first_passes 3 p.line (common.not (is_among p.name (protocol_names earlier))) ((3, p.line, names_once p.body) ∷ protocol_tests (earlier ++ p ∷ []) ps) h in
    let b = first_passes 3 p.line (names_once p.body) (protocol_tests (earlier ++ p ∷ []) ps) a.1 in
    let r = protocols_from (earlier ++ p ∷ []) ps b.1 in
    ((new_from (λ q. q.name) p.name earlier (not_true _ a.0), r.0), (names_once_from p.body b.0, r.1))

pub protocols_to : (earlier ps : List ProtocolAt) → EachNew OtherProtocol earlier ps → AllByRecursion (λ p. NamesOnce p.body) ps → first_fault (protocol_tests earlier ps) ≡ None
protocols_to earlier [] h k = refl
protocols_to earlier (p ∷ ps) h k =
    ap (λ b. cond (common.not b) (first_fault ((3, p.line, names_once p.body) ∷ protocol_tests (earlier ++ p ∷ []) ps)) (Some (3, p.line))) (new_to (λ q. q.name) p.name earlier h.0)
    ∙ ap (λ b. cond b (first_fault (protocol_tests (earlier ++ p ∷ []) ps)) (Some (3, p.line))) (names_once_to p.body k.0) ∙ protocols_to (earlier ++ p ∷ []) ps h.1 k.1

pub parties_from : (earlier ps : List PartyAt) → first_fault (party_tests earlier ps) ≡ None → EachNew OtherParty earlier ps
parties_from earlier [] h = tt
parties_from earlier (p ∷ ps) h =
    let a = first_passes 3 p.line (common.not (is_among p.name (party_names earlier))) (party_tests (earlier ++ p ∷ []) ps) h in
    (new_from (λ q. q.name) p.name earlier (not_true _ a.0), parties_from (earlier ++ p ∷ []) ps a.1)

pub parties_to : (earlier ps : List PartyAt) → EachNew OtherParty earlier ps → first_fault (party_tests earlier ps) ≡ None
parties_to earlier [] h = refl
parties_to earlier (p ∷ ps) h =
    ap (λ b. cond (common.not b) (first_fault (party_tests (earlier ++ p ∷ []) ps)) (Some (3, p.line))) (new_to (λ q. q.name) p.name earlier h.0) ∙ parties_to (earlier ++ p ∷ []) ps h.1
