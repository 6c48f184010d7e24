-- The tests of one connection, and of those after it.
use Rattle.std.proofs.Common.{◌≡◌, ℕ, ◌+◌, ◌<◌, suc, List, [], ◌∷◌, ◌++◌, length, get_or, take, drop, Option, None, ap, sym, subst, ◌∙◌, add-one, drop-cons}
use Rattle.sj_lang.specs.FileAt.{ProtocolAt}
use Rattle.sj_lang.specs.FileView.{connect_of}
use Rattle.sj_lang.specs.declared.file.Connect.{Connect}
use Rattle.sj_acceptance.specs.Faults.{Test, first_fault}
use Rattle.sj_acceptance.specs.FileTests.{connect_tests, connection_tests}
use Rattle.sj_check.specs.Views.{connects_of}
use Rattle.sj_check.specs.Told.{Tells}
use Rattle.sj_check.specs.declared.refusal.CheckRefusal.{CheckRefusal}
use Rattle.sj_check.proofs.FaultLemmas.{behind, Tells-front}
use Rattle.sj_check.proofs.OpeningLemmas.{mapped, take_next}

module _ (names : List ℕ) (ps : List ProtocolAt) (all : List Connect) (i : ℕ) (d : Connect) (h : i < length all) where
  abbrev pub from : List Test
  from = connect_tests names ps (connects_of (take i all)) (connects_of (drop i all))

  abbrev pub here : List Test
  here = connection_tests names ps (connects_of (take i all)) (connect_of (get_or all i d))

  abbrev pub later : List Test
  later = connect_tests names ps (connects_of (take (i + 1) all)) (connects_of (drop (i + 1) all))

  taken : connects_of (take (suc i) all) ≡ (connects_of (take i all) ++ connect_of (get_or all i d) ∷ [])
  taken = ap connects_of (take_next all i d h) ∙ mapped connect_of (take i all) (get_or all i d ∷ [])

  parts : from ≡ (here ++ later)
  parts =
      rw add-one
      (ap (λ cs. connect_tests names ps (connects_of (take i all)) (connects_of cs)) (drop-cons all i d h)
      ∙ ap (λ former. here ++ connect_tests names ps former (connects_of (drop (suc i) all))) (sym taken))

  pub connect-fault : (o : Option (ℕ × ℕ)) (r : CheckRefusal) → first_fault from ≡ o → Tells (first_fault here) r → Tells o r
  connect-fault o r whole t = subst (λ f. Tells f r) (ap first_fault (sym parts) ∙ whole) (Tells-front here later r t)

  pub connect-passes : first_fault here ≡ None → first_fault later ≡ first_fault from
  connect-passes t = sym (ap first_fault parts ∙ behind here later t)
