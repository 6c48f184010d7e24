-- The tests of connections.
use Rattle.std.proofs.Common.{◌≡◌, ℕ, List, [], ◌∷◌, ◌++◌, ◌||◌, Option, Some, None, Bool, true, false, cond, is_some, unwrap_or, refl, ap, sym, ◌∙◌, subst, append_assoc}
use Rattle.std.proofs.Common as common
use Rattle.std.specs.List.{AllByRecursion}
use Rattle.sj_lang.specs.Place.{Place, done}
use Rattle.sj_lang.specs.MeetTests.{meets}
use Rattle.sj_lang.proofs.MeetTestLemmas.{meets-Decides}
use Rattle.sj_lang.specs.FileAt.{FileAt, ConnectAt, DeclAt, protocol_named, body_named}
use Rattle.sj_acceptance.specs.Accepted.{IsDeclared, IsConnection}
use Rattle.sj_acceptance.specs.Faults.{Test, first_fault}
use Rattle.sj_acceptance.specs.LabelTests.{is_among}
use Rattle.sj_acceptance.specs.FileTests.{party_names, is_taken, is_same_end, end_tests, connection_tests, connect_tests}
use Rattle.sj_acceptance_laws.proofs.FaultLemmas.{first_passes, all_pass, pass_both, not_true, neither}
use Rattle.sj_acceptance_laws.proofs.PairLemmas.{Pairs, pairs_join, pairs_split, each_along}
use Rattle.sj_acceptance_laws.proofs.PartyLemmas.{among_parties, parties_among}
use Rattle.sj_acceptance_laws.proofs.EndLaws.{decls, decls-append, OtherEnd, HasParty, free_from, free_to}

module _ (file : FileAt) where
  abbrev pub tests_at : List ConnectAt → List ConnectAt → List Test
  tests_at earlier cs = connect_tests (party_names file.parties) file.protocols earlier cs

  there : (o : Option Place) → is_some o ≡ true → o ≡ Some (unwrap_or o done)
  there None h = absurd (cc)
  there (Some p) h = refl

  end_from : (line : ℕ) (taken : Bool) (e : DeclAt) → first_fault (end_tests (party_names file.parties) file.protocols line taken e) ≡ None
      → IsDeclared file e (body_named file.protocols e.protocol) × (taken ≡ false)
  end_from line taken e h =
      let found = is_some (protocol_named file.protocols e.protocol) in
      let a = first_passes 2 line (is_among e.party (party_names file.parties)) ((1, line, found) ∷ (3, line, common.not taken) ∷ []) h in
      let b = first_passes 1 line found ((3, line, common.not taken) ∷ []) a.1 in
      let d = first_passes 3 line (common.not taken) [] b.1 in
      (record { party = among_parties file.parties e.party a.0; protocol = there (protocol_named file.protocols e.protocol) b.0 }, not_true taken d.0)

  end_to : (line : ℕ) (taken : Bool) (e : DeclAt) (p : Place) → IsDeclared file e p → taken ≡ false → first_fault (end_tests (party_names file.parties) file.protocols line taken e) ≡ None
  end_to line taken e p d t = λ i. first_fault ((2, line, parties_among file.parties e.party d.party i) ∷ (1, line, is_some (d.protocol i)) ∷ (3, line, common.not (t i)) ∷ [])

  -- whether the second end is taken, by an earlier one or by the first
  abbrev taken_second : List ConnectAt → ConnectAt → Bool
  taken_second earlier c = is_taken c.second earlier || is_same_end c.first c.second

  abbrev meet_test : ConnectAt → Test
  meet_test c = (4, c.line, meets (body_named file.protocols c.first.protocol) (body_named file.protocols c.second.protocol))

  abbrev ends_of : List ConnectAt → ConnectAt → List Test
  ends_of earlier c =
      end_tests (party_names file.parties) file.protocols c.line (is_taken c.first earlier) c.first
      ++ end_tests (party_names file.parties) file.protocols c.line (taken_second earlier c) c.second

  -- the connection's ends are no earlier ones, and are two
  abbrev IsNew : List ConnectAt → ConnectAt → Type 0
  IsNew earlier c = (is_taken c.first earlier ≡ false) × (taken_second earlier c ≡ false)

  connection_from : (earlier : List ConnectAt) (c : ConnectAt) → first_fault (connection_tests (party_names file.parties) file.protocols earlier c) ≡ None → IsConnection file c × IsNew earlier c
  connection_from earlier c h =
      let a = all_pass (ends_of earlier c) (meet_test c ∷ []) h in
      let b = all_pass (end_tests (party_names file.parties) file.protocols c.line (is_taken c.first earlier) c.first) (end_tests (party_names file.parties) file.protocols c.line (taken_second earlier c) c.second) a.0 in
      let one = end_from c.line (is_taken c.first earlier) c.first b.0 in
      let two = end_from c.line (taken_second earlier c) c.second b.1 in
      let p = body_named file.protocols c.first.protocol in
      let q = body_named file.protocols c.second.protocol in
      let meet = (meets-Decides p q).0 (first_passes 4 c.line (meets p q) [] a.1).0 in
      (record { one = p; other = q; first = one.0; second = two.0; meet = meet }, (one.1, two.1))

  connection_to : (earlier : List ConnectAt) (c : ConnectAt) → IsConnection file c → IsNew earlier c → first_fault (connection_tests (party_names file.parties) file.protocols earlier c) ≡ None
  connection_to earlier c i new =
      pass_both (ends_of earlier c) (meet_test c ∷ [])
      (pass_both (end_tests (party_names file.parties) file.protocols c.line (is_taken c.first earlier) c.first) (end_tests (party_names file.parties) file.protocols c.line (taken_second earlier c) c.second)
      (end_to c.line (is_taken c.first earlier) c.first i.one i.first new.0) (end_to c.line (taken_second earlier c) c.second i.other i.second new.1))
      ((λ j. cond (meets (unwrap_or (i.first.protocol j) done) (unwrap_or (i.second.protocol j) done)) None (Some (4, c.line)))
      ∙ ap (λ b. cond b None (Some (4, c.line))) ((meets-Decides i.one i.other).1 i.meet))

  -- the ends so far, with those of one connection more
  one_more : (earlier : List ConnectAt) (c : ConnectAt) → decls (earlier ++ c ∷ []) ≡ decls earlier ++ (c.first ∷ c.second ∷ [])
  one_more earlier c = decls-append earlier (c ∷ [])

  along : (earlier cs : List ConnectAt) (c : ConnectAt) → decls (earlier ++ c ∷ []) ++ decls cs ≡ decls earlier ++ decls (c ∷ cs)
  along earlier cs c = ap (λ es. es ++ decls cs) (one_more earlier c) ∙ append_assoc (decls earlier) (c.first ∷ c.second ∷ []) (decls cs)

  two_more : (earlier : List ConnectAt) (c : ConnectAt) → Pairs OtherEnd (decls earlier) → IsNew earlier c → Pairs OtherEnd (decls (earlier ++ c ∷ []))
  two_more earlier c h new =
      let second = neither (is_taken c.second earlier) (is_same_end c.first c.second) new.1 in
      subst (Pairs OtherEnd) (sym (one_more earlier c))
      (pairs_join OtherEnd (decls earlier) (c.first ∷ c.second ∷ []) h ((second.1, tt), (tt, tt)) (both (decls earlier) (free_from c.first earlier new.0) (free_from c.second earlier second.0)))
    where
      both : (ds : List DeclAt) → AllByRecursion (λ d. OtherEnd d c.first) ds → AllByRecursion (λ d. OtherEnd d c.second) ds → AllByRecursion (λ d. AllByRecursion (OtherEnd d) (c.first ∷ c.second ∷ [])) ds
      both [] f s = tt
      both (d ∷ ds) f s = ((f.0, (s.0, tt)), both ds f.1 s.1)

  pub connects_from : (earlier cs : List ConnectAt) → Pairs OtherEnd (decls earlier) → first_fault (tests_at earlier cs) ≡ None
      → AllByRecursion (IsConnection file) cs × Pairs OtherEnd (decls earlier ++ decls cs)
  connects_from earlier [] h t = (tt, subst (Pairs OtherEnd) (sym (common.append-nil (decls earlier))) h)
  connects_from earlier (c ∷ cs) h t =
      let a = all_pass (connection_tests (party_names file.parties) file.protocols earlier c) (tests_at (earlier ++ c ∷ []) cs) t in
      let one = connection_from earlier c a.0 in
      let r = connects_from (earlier ++ c ∷ []) cs (two_more earlier c h one.1) a.1 in
      ((one.0, r.0), subst (Pairs OtherEnd) (along earlier cs c) r.1)

  pub connects_to : (earlier cs : List ConnectAt) → AllByRecursion (IsConnection file) cs → Pairs OtherEnd (decls earlier ++ decls cs) → first_fault (tests_at earlier cs) ≡ None
  connects_to earlier [] i h = refl
  connects_to earlier (c ∷ cs) i h =
      let s = pairs_split OtherEnd (decls earlier) (decls (c ∷ cs)) h in
      let first = each_along (λ d. AllByRecursion (OtherEnd d) (decls (c ∷ cs))) (λ d. OtherEnd d c.first) (λ d r. r.0) (decls earlier) s.2 in
      let second = each_along (λ d. AllByRecursion (OtherEnd d) (decls (c ∷ cs))) (λ d. OtherEnd d c.second) (λ d r. r.1.0) (decls earlier) s.2 in
      let apart : taken_second earlier c ≡ false = λ j. free_to c.second earlier second j || s.1.0.0 j in
      pass_both (connection_tests (party_names file.parties) file.protocols earlier c) (tests_at (earlier ++ c ∷ []) cs)
      (connection_to earlier c i.0 (free_to c.first earlier first, apart))
      (connects_to (earlier ++ c ∷ []) cs i.1 (subst (Pairs OtherEnd) (sym (along earlier cs c)) h))

  pub have_parties : (cs : List ConnectAt) → AllByRecursion (IsConnection file) cs → AllByRecursion (HasParty file) (decls cs)
  have_parties [] h = tt
  have_parties (c ∷ cs) h = (h.0.first.party, (h.0.second.party, have_parties cs h.1))
