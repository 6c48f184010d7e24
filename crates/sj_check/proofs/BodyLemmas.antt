-- One body, and the rest.
use Rattle.std.proofs.Common.{◌≡◌, ℕ, ◌+◌, ◌<◌, suc, List, [], ◌++◌, length, get_or, drop, Option, None, ap, sym, ◌∙◌, subst, add-one, drop-cons}
use Rattle.sj_lang.specs.declared.file.Party.{Party}
use Rattle.sj_lang.specs.FileAt.{FileAt, ProtocolAt, ConnectAt}
use Rattle.sj_lang.specs.FileView.{party_of}
use Rattle.sj_acceptance.specs.Faults.{Test, first_fault}
use Rattle.sj_acceptance.specs.FileTests.{one_body_tests, body_tests, protocol_tests, party_tests, connect_tests, opening_tests, party_names, tests_of}
use Rattle.sj_check.specs.declared.refusal.CheckRefusal.{CheckRefusal}
use Rattle.sj_check.specs.Told.{Tells}
use Rattle.sj_check.specs.Views.{parties_of}
use Rattle.sj_check.proofs.FaultLemmas.{behind, Tells-front, Tells-behind}

module _ (ps : List ProtocolAt) (names : List ℕ) (cs : List ConnectAt) (parties : List Party) (i : ℕ) (p : Party) (h : i < length parties) (e : p ≡ get_or parties i p) where
  parts : body_tests ps names cs (parties_of (drop i parties)) ≡ one_body_tests ps names cs (party_of p) ++ body_tests ps names cs (parties_of (drop (i + 1) parties))
  parts =
      rw add-one
      (ap (λ qs. body_tests ps names cs (parties_of qs)) (drop-cons parties i p h)
      ∙ ap (λ q. one_body_tests ps names cs (party_of q) ++ body_tests ps names cs (parties_of (drop (suc i) parties))) (sym e))

  pub body-fault : (o : Option (ℕ × ℕ)) (r : CheckRefusal) → first_fault (body_tests ps names cs (parties_of (drop i parties))) ≡ o → Tells (first_fault (one_body_tests ps names cs (party_of p))) r → Tells o r
  body-fault o r all t = subst (λ f. Tells f r) (ap first_fault (sym parts) ∙ all) (Tells-front (one_body_tests ps names cs (party_of p)) (body_tests ps names cs (parties_of (drop (i + 1) parties))) r t)

  pub body-passes : first_fault (one_body_tests ps names cs (party_of p)) ≡ None → first_fault (body_tests ps names cs (parties_of (drop (i + 1) parties))) ≡ first_fault (body_tests ps names cs (parties_of (drop i parties)))
  body-passes t = sym (ap first_fault parts ∙ behind (one_body_tests ps names cs (party_of p)) (body_tests ps names cs (parties_of (drop (i + 1) parties))) t)

module _ (f : FileAt) where
  -- protocols, parties and connections
  abbrev heads : List Test
  heads = protocol_tests [] f.protocols ++ party_tests [] f.parties ++ connect_tests (party_names f.parties) f.protocols [] f.connects

  abbrev pub bodies : List Test
  bodies = body_tests f.protocols (party_names f.parties) f.connects f.parties

  module _ (a : first_fault (protocol_tests [] f.protocols) ≡ None) (b : first_fault (party_tests [] f.parties) ≡ None)
      (d : first_fault (connect_tests (party_names f.parties) f.protocols [] f.connects) ≡ None) where
    heads_pass : first_fault heads ≡ None
    heads_pass =
        let ps = protocol_tests [] f.protocols in
        let qs = party_tests [] f.parties in
        behind (ps ++ qs) (connect_tests (party_names f.parties) f.protocols [] f.connects) (behind ps qs a ∙ b) ∙ d

    -- the fault is in the bodies
    pub in_bodies : (r : CheckRefusal) → Tells (first_fault bodies) r → Tells (first_fault (tests_of f)) r
    in_bodies r t = Tells-front (heads ++ bodies) (opening_tests f.protocols f.parties f.parties) r (Tells-behind heads bodies r heads_pass t)

    -- after the bodies stand the sessions that are opened
    pub in_openings : first_fault bodies ≡ None → first_fault (tests_of f) ≡ first_fault (opening_tests f.protocols f.parties f.parties)
    in_openings e = behind (heads ++ bodies) (opening_tests f.protocols f.parties f.parties) (behind heads bodies heads_pass ∙ e)
