-- A protocol passes its test exactly where no choice names a label twice.
use Rattle.std.proofs.Common.{◌≡◌, ◌&&◌, true, refl}
use Rattle.sj_lang.specs.Place.{Place, Carried, Choices, done, message, choice, repeat, int, boolean, text, session, no_choice, arm}
use Rattle.sj_acceptance.specs.Labels.{labels_of, NamesOnce, CarriesOnce, EachNamesOnce}
use Rattle.sj_acceptance.specs.LabelTests.{all_differ, names_once, carried_names_once, arms_name_once}
use Rattle.sj_acceptance_laws.proofs.FaultLemmas.{both_true}
use Rattle.sj_acceptance_laws.proofs.LabelLaws.{stand_once_from, stand_once_to}

mutual
  pub names_once_from : (p : Place) → names_once p ≡ true → NamesOnce p
  names_once_from done h = tt
  names_once_from (message w k rest) h = let b = both_true (carried_names_once k) (names_once rest) h in (carries_once_from k b.0, names_once_from rest b.1)
  names_once_from (choice w arms rest) h =
      let a = both_true (all_differ (labels_of arms) && arms_name_once arms) (names_once rest) h in
      let b = both_true (all_differ (labels_of arms)) (arms_name_once arms) a.0 in
      (stand_once_from (labels_of arms) b.0, arms_once_from arms b.1, names_once_from rest a.1)
  names_once_from (repeat w body rest) h = let b = both_true (names_once body) (names_once rest) h in (names_once_from body b.0, names_once_from rest b.1)

  carries_once_from : (k : Carried) → carried_names_once k ≡ true → CarriesOnce k
  carries_once_from int h = tt
  carries_once_from boolean h = tt
  carries_once_from text h = tt
  carries_once_from (session p) h = names_once_from p h

  arms_once_from : (arms : Choices) → arms_name_once arms ≡ true → EachNamesOnce arms
  arms_once_from no_choice h = tt
  arms_once_from (arm l p arms) h = let b = both_true (names_once p) (arms_name_once arms) h in (names_once_from p b.0, arms_once_from arms b.1)

mutual
  pub names_once_to : (p : Place) → NamesOnce p → names_once p ≡ true
  names_once_to done h = refl
  names_once_to (message w k rest) h = λ i. carries_once_to k h.0 i && names_once_to rest h.1 i
  names_once_to (choice w arms rest) h = λ i. stand_once_to (labels_of arms) h.0 i && arms_once_to arms h.1 i && names_once_to rest h.2 i
  names_once_to (repeat w body rest) h = λ i. names_once_to body h.0 i && names_once_to rest h.1 i

  carries_once_to : (k : Carried) → CarriesOnce k → carried_names_once k ≡ true
  carries_once_to int h = refl
  carries_once_to boolean h = refl
  carries_once_to text h = refl
  carries_once_to (session p) h = names_once_to p h

  arms_once_to : (arms : Choices) → EachNamesOnce arms → arms_name_once arms ≡ true
  arms_once_to no_choice h = refl
  arms_once_to (arm l p arms) h = λ i. names_once_to p h.0 i && arms_once_to arms h.1 i
