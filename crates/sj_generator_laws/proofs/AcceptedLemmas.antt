-- The generated file is accepted.
use Rattle.std.proofs.Common.{◌≡◌, ℕ, zero, suc, ◌+◌, ◌≤◌, List, [], ◌∷◌, slice_get, Some, None, refl, subst, arith}
use Rattle.std.proofs.lemmas.List.Elements.{All-from_recursion}
use Rattle.sj_lang.specs.FileAt.{FileAt, PartyAt}
use Rattle.sj_lang.specs.ItemCount.{item_count}
use Rattle.sj_lang.specs.SamePlace.{is_same_carried}
use Rattle.sj_acceptance.specs.Accepted.{places_from, IsConnection, EndsWell, IsAccepted}
use Rattle.sj_lang.specs.Limits.{IsWithin, limits}
use Rattle.sj_acceptance.specs.Faults.{first_fault}
use Rattle.sj_acceptance.specs.FileTests.{party_names, protocol_tests, party_tests, connect_tests, opening_tests}
use Rattle.sj_acceptance.specs.Labels.{NamesOnce}
use Rattle.sj_acceptance_laws.proofs.ConnectLaws.{connects_from, have_parties}
use Rattle.sj_acceptance_laws.proofs.EndLaws.{names_once_of}
use Rattle.sj_acceptance_laws.proofs.OpeningLaws.{openings_meet}
use Rattle.sj_acceptance_laws.proofs.NameLaws.{OtherProtocol, OtherParty, protocols_from, parties_from}
use Rattle.sj_acceptance_laws.proofs.PairLemmas.{all_from_pairs, pairs_from_new}
use Rattle.sj_generator_laws.specs.GeneratedFile as file
use Rattle.sj_generator_laws.specs.GeneratedFile.{generated_file}
use Rattle.sj_generator_laws.proofs.BodyLemmas.{LeadsToNone, sender_leads, giver_leads, adder_leads}

-- ---- names and connections

protocols_pass : first_fault (protocol_tests [] (generated_file 0).protocols) ≡ None
protocols_pass = refl

parties_pass : (n : ℕ) → first_fault (party_tests [] (generated_file n).parties) ≡ None
parties_pass n = refl

connects_pass : (n : ℕ) → first_fault (connect_tests (party_names (generated_file n).parties) (generated_file n).protocols [] (generated_file n).connects) ≡ None
unfolding is_same_carried
connects_pass n = refl

openings_pass : (n : ℕ) → first_fault (opening_tests (generated_file n).protocols (generated_file n).parties (generated_file n).parties) ≡ None
openings_pass n = refl

-- ---- bodies

ends_well : (n p : ℕ) (q : PartyAt) → LeadsToNone q.code (places_from (generated_file n) p (generated_file n).connects) → EndsWell (generated_file n) p q
ends_well n p q l = record { last = l.last; follows = l.follows; no_end = l.no_end }

-- each party, by the number of the first
abbrev EachEndsWell : FileAt → ℕ → List PartyAt → Type 0
EachEndsWell file k [] = Unit {0}
EachEndsWell file k (q ∷ qs) = EndsWell file k q × EachEndsWell file (suc k) qs

one_of_each : (file : FileAt) (k i : ℕ) (qs : List PartyAt) (q : PartyAt) → EachEndsWell file k qs → slice_get qs i ≡ Some q → EndsWell file (k + i) q
one_of_each file k i [] q all h = cc
one_of_each file k zero (b ∷ qs) q all h =
    subst (λ (t : ℕ). EndsWell file t q) (let e : k ≡ k + 0 = omega arith in e) (subst (EndsWell file k) (let it : b ≡ q = cc in it) all.0)
one_of_each file k (suc i) (b ∷ qs) q all h =
    subst (λ (t : ℕ). EndsWell file t q) (let e : suc k + i ≡ k + suc i = omega arith in e) (one_of_each file (suc k) i qs q all.1 h)

all_end_well : (n : ℕ) → EachEndsWell (generated_file n) 0 (generated_file n).parties
all_end_well n = (
  ends_well n 0 (file.sender 5 4 n 1) (sender_leads 5 4 n 1),
  (
    ends_well n 1 (file.giver 5 7) (giver_leads 5 7),
    (
      ends_well n 2 (file.adder 5 10) (adder_leads 5 10),
      (
        ends_well n 3 (file.sender 27 14 n 2) (sender_leads 27 14 n 2),
        (
          ends_well n 4 (file.giver 27 15) (giver_leads 27 15),
          (
            ends_well n 5 (file.adder 27 16) (adder_leads 27 16),
            (
              ends_well n 6 (file.sender 49 17 n 3) (sender_leads 49 17 n 3),
              (
                ends_well n 7 (file.giver 49 18) (giver_leads 49 18),
                (
                  ends_well n 8 (file.adder 49 19) (adder_leads 49 19),
                  (
                    ends_well n 9 (file.sender 71 20 n 4) (sender_leads 71 20 n 4),
                    (
                      ends_well n 10 (file.giver 71 21) (giver_leads 71 21),
                      (
                        ends_well n 11 (file.adder 71 22) (adder_leads 71 22),
                        (
                          ends_well n 12 (file.sender 93 23 n 5) (sender_leads 93 23 n 5),
                          (
                            ends_well n 13 (file.giver 93 24) (giver_leads 93 24),
                            (
                              ends_well n 14 (file.adder 93 25) (adder_leads 93 25),
                              tt,
                            ),
                          ),
                        ),
                      ),
                    ),
                  ),
                ),
              ),
            ),
          ),
        ),
      ),
    ),
  ),
)

-- ---- the file

within : (n : ℕ) → IsWithin limits (generated_file n)
within n = record {
  protocols = omega arith;
  items = All-from_recursion (λ p. item_count p.body ≤ 1024) (generated_file n).protocols (omega arith, (omega arith, (omega arith, (omega arith, tt))));
  parties = omega arith;
  connects = omega arith;
}

pub file_is_accepted : (n : ℕ) → IsAccepted (generated_file n)
file_is_accepted n =
    let f = generated_file n in
    let protocols = protocols_from [] f.protocols protocols_pass in
    let parties = pairs_from_new OtherParty [] f.parties tt (parties_from [] f.parties (parties_pass n)) in
    let connects = connects_from f [] f.connects tt (connects_pass n) in
    record {
      within = within n;
      protocols_once = all_from_pairs OtherProtocol f.protocols (pairs_from_new OtherProtocol [] f.protocols tt protocols.0);
      labels_once = All-from_recursion (λ p. NamesOnce p.body) f.protocols protocols.1;
      parties_once = all_from_pairs OtherParty f.parties parties;
      connections = All-from_recursion (IsConnection f) f.connects connects.0;
      ends_once = names_once_of f f.connects (have_parties f f.connects connects.0) connects.1;
      bodies = λ p q h. subst (λ (t : ℕ). EndsWell f t q) (let e : 0 + p ≡ p = omega arith in e) (one_of_each f 0 p f.parties q (all_end_well n) h);
      openings = openings_meet f (openings_pass n);
    }
