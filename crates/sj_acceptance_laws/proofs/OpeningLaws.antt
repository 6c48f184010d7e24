-- The tests of sessions opened at run time.
use Rattle.std.proofs.Common.{◌≡◌, ℕ, List, [], ◌∷◌, ◌++◌, ◌==◌, ◌&&◌, ◌||◌, Some, None, Bool, true, false, cond, refl, ap, sym, ◌∙◌}
use Rattle.std.proofs.Common as common
use Rattle.std.specs.Bool.{Decides}
use Rattle.std.specs.List.{AllByRecursion, All, Contains}
use Rattle.std.proofs.lemmas.Bool.Decides.{Decides-eqb, Decides-and}
use Rattle.std.proofs.lemmas.List.Elements.{All-from_recursion, recursion_from_All, All-contains, All-contains_itself}
use Rattle.sj_lang.specs.FileAt.{FileAt, ProtocolAt, PartyAt, body_named}
use Rattle.sj_lang.specs.Meet.{Meets}
use Rattle.sj_lang.specs.MeetTests.{meets}
use Rattle.sj_lang.proofs.MeetTestLemmas.{meets-Decides}
use Rattle.sj_acceptance.specs.Accepted.{OpeningsMeet}
use Rattle.sj_acceptance.specs.Faults.{first_fault}
use Rattle.sj_acceptance.specs.Openings.{OpeningAt, requests_of, accepts_of}
use Rattle.sj_acceptance.specs.FileTests.{meets_each, meets_requests, accept_tests, opening_tests}
use Rattle.sj_acceptance_laws.proofs.FaultLemmas.{first_passes, all_pass, pass_both}

-- a test that counts only where another one passes
guarded : (s t : Bool) {A B : Type 0} → Decides s A → Decides t B → Decides (common.not s || t) (A → B)
guarded true t a b = (λ h x. b.0 h, λ f. b.1 (f (a.0 refl)))
guarded false t a b = (λ h x. absurd (let e : false ≡ true = a.1 x in cc), λ f. refl)

-- by recursion and of each element
module _ {X : Type 0} (P : X → Type 0) where
  pub each_in : (xs : List X) → AllByRecursion P xs → (x : X) → Contains xs x → P x
  each_in xs h x c = All-contains P xs x (All-from_recursion P xs h) c

  pub of_each : (xs : List X) → ((x : X) → Contains xs x → P x) → AllByRecursion P xs
  of_each xs f = recursion_from_All P xs (λ k d l. f _ (All-contains_itself xs k d l))

module _ (ps : List ProtocolAt) (b : ℕ) (c : OpeningAt) where
  -- where the request is to the party, what it opens meets what is accepted
  abbrev pub MeetsIt : OpeningAt → Type 0
  MeetsIt r = r.party ≡ b → Meets (body_named ps r.protocol) (body_named ps c.protocol)

  meets_each-Decides : (rs : List OpeningAt) → Decides (meets_each ps b c rs) (AllByRecursion MeetsIt rs)
  meets_each-Decides [] = (λ _. tt, λ _. refl)
  meets_each-Decides (r ∷ rs) =
      let meet = meets (body_named ps r.protocol) (body_named ps c.protocol) in
      Decides-and (common.not (r.party == b) || meet) (meets_each ps b c rs)
      (guarded (r.party == b) meet (Decides-eqb r.party b) (meets-Decides (body_named ps r.protocol) (body_named ps c.protocol))) (meets_each-Decides rs)

  -- where the accept is of that party's, it meets all that the party requests
  abbrev pub MeetsAll : PartyAt → Type 0
  MeetsAll a = a.name ≡ c.party → AllByRecursion MeetsIt (requests_of a.code)

  meets_requests-Decides : (as' : List PartyAt) → Decides (meets_requests ps b c as') (AllByRecursion MeetsAll as')
  meets_requests-Decides [] = (λ _. tt, λ _. refl)
  meets_requests-Decides (a ∷ as') =
      Decides-and (common.not (a.name == c.party) || meets_each ps b c (requests_of a.code)) (meets_requests ps b c as')
      (guarded (a.name == c.party) (meets_each ps b c (requests_of a.code)) (Decides-eqb a.name c.party) (meets_each-Decides (requests_of a.code))) (meets_requests-Decides as')

module _ (ps : List ProtocolAt) (all : List PartyAt) where
  -- what the party of that name accepts so meets what each party requests
  abbrev pub IsMet : ℕ → OpeningAt → Type 0
  IsMet b c = AllByRecursion (MeetsAll ps b c) all

  accepts_from : (b : ℕ) (cs : List OpeningAt) → first_fault (accept_tests ps all b cs) ≡ None → AllByRecursion (IsMet b) cs
  accepts_from b [] h = tt
  accepts_from b (c ∷ cs) h =
      let p = first_passes 15 c.line (meets_requests ps b c all) (accept_tests ps all b cs) h in
      ((meets_requests-Decides ps b c all).0 p.0, accepts_from b cs p.1)

  accepts_to : (b : ℕ) (cs : List OpeningAt) → AllByRecursion (IsMet b) cs → first_fault (accept_tests ps all b cs) ≡ None
  accepts_to b [] h = refl
  accepts_to b (c ∷ cs) h =
      ap (λ t. cond t (first_fault (accept_tests ps all b cs)) (Some (15, c.line))) ((meets_requests-Decides ps b c all).1 h.0) ∙ accepts_to b cs h.1

  abbrev pub AreMet : PartyAt → Type 0
  AreMet b = AllByRecursion (IsMet b.name) (accepts_of b.code)

  openings_from : (bs : List PartyAt) → first_fault (opening_tests ps all bs) ≡ None → AllByRecursion AreMet bs
  openings_from [] h = tt
  openings_from (b ∷ bs) h =
      let p = all_pass (accept_tests ps all b.name (accepts_of b.code)) (opening_tests ps all bs) h in
      (accepts_from b.name (accepts_of b.code) p.0, openings_from bs p.1)

  openings_to : (bs : List PartyAt) → AllByRecursion AreMet bs → first_fault (opening_tests ps all bs) ≡ None
  openings_to [] h = refl
  openings_to (b ∷ bs) h =
      pass_both (accept_tests ps all b.name (accepts_of b.code)) (opening_tests ps all bs) (accepts_to b.name (accepts_of b.code) h.0) (openings_to bs h.1)

module _ (f : FileAt) where
  abbrev Met : PartyAt → PartyAt → OpeningAt → OpeningAt → Type 0
  Met a b r c = r.party ≡ b.name → c.party ≡ a.name → Meets (body_named f.protocols r.protocol) (body_named f.protocols c.protocol)

  pub openings_meet : first_fault (opening_tests f.protocols f.parties f.parties) ≡ None → All (λ a. All (λ b. OpeningsMeet f a b) f.parties) f.parties
  openings_meet h =
      let met = openings_from f.protocols f.parties f.parties h in
      All-from_recursion (λ a. All (λ b. OpeningsMeet f a b) f.parties) f.parties
      (of_each (λ a. All (λ b. OpeningsMeet f a b) f.parties) f.parties (λ a in_a.
      All-from_recursion (λ b. OpeningsMeet f a b) f.parties
      (of_each (λ b. OpeningsMeet f a b) f.parties (λ b in_b. record {
        meet = λ r c in_r in_c to from.
            let one = each_in (AreMet f.protocols f.parties) f.parties met b in_b in
            let two = each_in (IsMet f.protocols f.parties b.name) (accepts_of b.code) one c in_c in
            let three = each_in (MeetsAll f.protocols b.name c) f.parties two a in_a (sym from) in
            each_in (MeetsIt f.protocols b.name c) (requests_of a.code) three r in_r to;
      }))))

  pub openings_pass : All (λ a. All (λ b. OpeningsMeet f a b) f.parties) f.parties → first_fault (opening_tests f.protocols f.parties f.parties) ≡ None
  openings_pass h =
      openings_to f.protocols f.parties f.parties
      (of_each (AreMet f.protocols f.parties) f.parties (λ b in_b.
      of_each (IsMet f.protocols f.parties b.name) (accepts_of b.code) (λ c in_c.
      of_each (MeetsAll f.protocols b.name c) f.parties (λ a in_a from.
      of_each (MeetsIt f.protocols b.name c) (requests_of a.code) (λ r in_r to.
      let one : All (λ d. OpeningsMeet f a d) f.parties = All-contains (λ d. All (λ e. OpeningsMeet f d e) f.parties) f.parties a h in_a in
      let two : OpeningsMeet f a b = All-contains (λ d. OpeningsMeet f a d) f.parties b one in_b in
      two.meet r c in_r in_c to (sym from))))))
