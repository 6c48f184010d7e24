-- A file within the limits is accepted exactly where all its tests pass.
use Rattle.std.proofs.Common.{◌≡◌, List, [], ◌++◌, None}
use Rattle.std.proofs.lemmas.List.Elements.{All-from_recursion, recursion_from_All}
use Rattle.sj_lang.specs.FileAt.{FileAt}
use Rattle.sj_acceptance.specs.Labels.{NamesOnce}
use Rattle.sj_acceptance.specs.Accepted.{IsAccepted, IsConnection}
use Rattle.sj_lang.specs.Limits.{IsWithin, limits}
use Rattle.sj_acceptance.specs.Faults.{Test, first_fault}
use Rattle.sj_acceptance.specs.FileTests.{party_names, protocol_tests, party_tests, connect_tests, body_tests, opening_tests, tests_of}
use Rattle.sj_acceptance_laws.proofs.FaultLemmas.{all_pass, pass_both}
use Rattle.sj_acceptance_laws.proofs.PairLemmas.{pairs_from_all, all_from_pairs, pairs_from_new, new_from_pairs}
use Rattle.sj_acceptance_laws.proofs.NameLaws.{OtherProtocol, OtherParty, protocols_from, protocols_to, parties_from, parties_to}
use Rattle.sj_acceptance_laws.proofs.EndLaws.{names_once_of, none_taken}
use Rattle.sj_acceptance_laws.proofs.ConnectLaws.{connects_from, connects_to, have_parties}
use Rattle.sj_acceptance_laws.proofs.BodyLaws.{body_from, body_to, each_body, all_bodies}
use Rattle.sj_acceptance_laws.proofs.OpeningLaws.{openings_meet, openings_pass}

module _ (f : FileAt) where
  abbrev one : List Test
  one = protocol_tests [] f.protocols

  abbrev two : List Test
  two = party_tests [] f.parties

  abbrev three : List Test
  three = connect_tests (party_names f.parties) f.protocols [] f.connects

  abbrev four : List Test
  four = body_tests f.protocols (party_names f.parties) f.connects f.parties

  abbrev five : List Test
  five = opening_tests f.protocols f.parties f.parties

  pub accepted_from : IsWithin limits f → first_fault (tests_of f) ≡ None → IsAccepted f
  accepted_from within h =
      let o = all_pass (one ++ two ++ three ++ four) five h in
      let a = all_pass (one ++ two ++ three) four o.0 in
      let b = all_pass (one ++ two) three a.0 in
      let c = all_pass one two b.0 in
      let protocols = protocols_from [] f.protocols c.0 in
      let parties = pairs_from_new OtherParty [] f.parties tt (parties_from [] f.parties c.1) in
      let connects = connects_from f [] f.connects tt b.1 in
      record {
        within = within;
        protocols_once = all_from_pairs OtherProtocol f.protocols (pairs_from_new OtherProtocol [] f.protocols tt protocols.0);
        labels_once = All-from_recursion (λ p. NamesOnce p.body) f.protocols protocols.1;
        parties_once = all_from_pairs OtherParty f.parties parties;
        connections = All-from_recursion (IsConnection f) f.connects connects.0;
        ends_once = names_once_of f f.connects (have_parties f f.connects connects.0) connects.1;
        bodies = λ p q e. body_from f p q parties e (each_body f.protocols (party_names f.parties) f.connects f.parties a.1 p q e);
        openings = openings_meet f o.1;
      }

  pub accepted_to : IsAccepted f → first_fault (tests_of f) ≡ None
  accepted_to i =
      let parties = pairs_from_all OtherParty f.parties i.parties_once in
      let connects = recursion_from_All (IsConnection f) f.connects i.connections in
      let protocols = new_from_pairs OtherProtocol [] f.protocols (pairs_from_all OtherProtocol f.protocols i.protocols_once) in
      pass_both (one ++ two ++ three ++ four) five
      (pass_both (one ++ two ++ three) four
      (pass_both (one ++ two) three
      (pass_both one two (protocols_to [] f.protocols protocols (recursion_from_All (λ p. NamesOnce p.body) f.protocols i.labels_once))
      (parties_to [] f.parties (new_from_pairs OtherParty [] f.parties parties)))
      (connects_to f [] f.connects connects (none_taken f f.connects (have_parties f f.connects connects) i.ends_once)))
      (all_bodies f.protocols (party_names f.parties) f.connects f.parties (λ p q e. body_to f p q parties e (i.bodies p q e))))
      (openings_pass f i.openings)
