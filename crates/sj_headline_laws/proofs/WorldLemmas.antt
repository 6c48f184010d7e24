-- Sound worlds: sessions are balanced, programs fit, and what is offered is at the
-- dual of what was requested.
use Rattle.std.proofs.Common.{◌≡◌, ℕ, ◌≤◌, ◌<◌, List, length, slice_get, Some, None, sym, ◌∙◌, subst}
use Rattle.std.specs.List.{Contains}
use Rattle.sj_lang.specs.Dual.{dual_of}
use Rattle.sj_lang.specs.Meet.{Meets}
use Rattle.sj_lang.specs.FileAt.{FileAt, ProtocolAt, PartyAt, body_named, party_names, number_of_name}
use Rattle.sj_acceptance.specs.Openings.{OpeningAt, requests_of, accepts_of}
use Rattle.sj_semantics.specs.declared.Want.{Want}
use Rattle.sj_semantics.specs.Program.{Program}
use Rattle.sj_semantics.specs.Requests.{Request, limit_of_requests, opened_number}
use Rattle.sj_semantics.specs.Wants.{want_of}
use Rattle.sj_semantics.specs.World.{World}
use Rattle.sj_semantics.specs.Ends.{Session, nowhere, end_at}
use Rattle.sj_semantics_laws.specs.Unshared.{IsUnshared}
use Rattle.sj_headline_laws.proofs.TypedLemmas.{FitsProgram, StepFits}
use Rattle.sj_headline_laws.proofs.StepLemmas.{fits_step}
use Rattle.sj_headline_laws.proofs.TouchedLemmas.{side}
use Rattle.sj_headline_laws.proofs.AfterLemmas.{AllPairs}
use Rattle.sj_headline_laws.proofs.OriginLemmas.{InTodo}

-- the party of that number requests a session of the protocol, in its code,
-- from the party of that name
abbrev pub Asks : FileAt → ℕ → ℕ → ℕ → Type 0
Asks file a n b = (q : PartyAt) × (slice_get file.parties a ≡ Some q) × (r : OpeningAt) × Contains (requests_of q.code) r × (r.protocol ≡ n) × (r.party ≡ b)

-- and so it accepts one
abbrev pub Takes : FileAt → ℕ → ℕ → ℕ → Type 0
Takes file b n a = (q : PartyAt) × (slice_get file.parties b ≡ Some q) × (r : OpeningAt) × Contains (accepts_of q.code) r × (r.protocol ≡ n) × (r.party ≡ a)

-- what one party requests from another meets what that one accepts from the first
abbrev pub OpeningsAgree : FileAt → Type 0
OpeningsAgree file =
    (a b n m x y : ℕ) → Asks file a n x → number_of_name (party_names file.parties) x ≡ b → Takes file b m y → number_of_name (party_names file.parties) y ≡ a
    → Meets (body_named file.protocols n) (body_named file.protocols m)

-- the second end of the session is at the dual of what its requester requested
pub record IsOffered (file : FileAt) (zs : List Session) (p k : ℕ) (r : Request) : Type 0 where
  pub protocol : ℕ
  pub party : ℕ
  pub asks : Asks file p protocol party
  pub to_it : number_of_name (party_names file.parties) party ≡ r.to
  pub at : (end_at zs (side (opened_number p k) 1)).place ≡ dual_of (body_named file.protocols protocol)

pub record Sound (file : FileAt) (w : World) : Type 0 where
  pub agree : OpeningsAgree file
  pub unshared : IsUnshared w
  pub protocols : w.protocols ≡ file.protocols
  pub many : length w.parties ≡ length file.parties
  pub pairs : AllPairs w.sessions
  pub programs : (p : ℕ) (g : Program) → slice_get w.parties p ≡ Some g → FitsProgram file.protocols (party_names file.parties) w.sessions g
  pub peers : (p : ℕ) (g : Program) → slice_get w.parties p ≡ Some g → g.peers ≡ party_names file.parties
  pub origins : (p : ℕ) (g : Program) → slice_get w.parties p ≡ Some g → InTodo (Asks file p) (Takes file p) g.todo
  pub unopened : (p k d : ℕ) → length (w.requests p) ≤ k → k < limit_of_requests → end_at w.sessions (side (opened_number p k) d) ≡ nowhere
  pub offered : (p k : ℕ) (r : Request) → slice_get (w.requests p) k ≡ Some r → r.second ≡ None → IsOffered file w.sessions p k r

-- the step of a program that fits, at the want that it has
pub fits_want : (ps : List ProtocolAt) (parties : List ℕ) (zs : List Session) (g : Program) (want : Want) → FitsProgram ps parties zs g → want_of g ≡ Some want → StepFits ps parties zs g want
fits_want ps parties zs g want f h =
    let st = fits_step ps parties zs g f in
    let it : st.want ≡ want = (let both : Some st.want ≡ Some want = sym st.wants_it ∙ h in cc) in
    subst (StepFits ps parties zs g) it st.step_fits
