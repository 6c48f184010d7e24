-- Steps and messages against the places of ends.
use Rattle.std.proofs.Common.{◌≡◌, ℕ, List, slice_get, Some, subst, ap, unwrap_or}
use Rattle.sj_base.specs.declared.EndId.{EndId}
use Rattle.sj_base.specs.declared.Msg.TheVariants as msgs
use Rattle.sj_lang.specs.declared.proto.Way.TheVariants.{Into}
use Rattle.sj_lang.specs.Place.{Place, done}
use Rattle.sj_lang.specs.Meet.{StandsFor}
use Rattle.sj_lang.specs.FileAt.{FileAt, ProtocolAt, protocol_named, party_names}
use Rattle.sj_lang.specs.After.{after_place}
use Rattle.sj_semantics.specs.declared.Want.{Want}
use Rattle.sj_semantics.specs.declared.Want.TheVariants as wants
use Rattle.sj_semantics.specs.declared.Awaits.TheVariants as awaits
use Rattle.sj_semantics.specs.declared.Passed.{Passed}
use Rattle.sj_semantics.specs.Balanced.{FitsNext}
use Rattle.sj_semantics.specs.Program.{Program}
use Rattle.sj_semantics.specs.Requests.{first_offer, opened_number}
use Rattle.sj_semantics.specs.Wants.{want_of}
use Rattle.sj_semantics.specs.Ends.{Session, end_at, other_end, next_for}
use Rattle.sj_semantics.specs.World.{World}
use Rattle.sj_headline_laws.specs.Fitting.{FitsPlaces}
use Rattle.sj_headline_laws.proofs.TypedLemmas.{FitsProgram, StandsForBody, StepFits}
use Rattle.sj_headline_laws.proofs.TakesLemmas.{takes_there}
use Rattle.sj_headline_laws.proofs.LeadLemmas.{pair_taking}
use Rattle.sj_headline_laws.proofs.TouchedLemmas.{side, pair_of}
use Rattle.sj_headline_laws.proofs.WorldLemmas.{Sound, fits_want}
use Rattle.sj_headline_laws.proofs.OpeningChangesLemmas.{offer_stands}

fits_places : (ps : List ProtocolAt) (parties : List ℕ) (zs : List Session) (g : Program) (want : Want) → FitsProgram ps parties zs g → want_of g ≡ Some want → StepFits ps parties zs g want → FitsPlaces zs want
fits_places ps parties zs g (wants.Send e m) f it s = (s.next, s.after)
fits_places ps parties zs g (wants.Delegate e y) f it s = (s.kind, s.next, s.carries, s.stands, s.not_empty)
fits_places ps parties zs g (wants.Close e) f it s = s.0
fits_places ps parties zs g (wants.Take e a) f it s = takes_there ps parties zs g e a f it
fits_places ps parties zs g (wants.Request p q) f it s = tt
fits_places ps parties zs g (wants.Accept p q) f it s = tt
fits_places ps parties zs g wants.Local f it s = tt
fits_places ps parties zs g wants.Ended f it s = tt

module _ (file : FileAt) (w : World) (sound : Sound file w) where
  abbrev names : List ℕ
  names = party_names file.parties

  fitting : (p : ℕ) (g : Program) (want : Want) → slice_get w.parties p ≡ Some g → want_of g ≡ Some want → StepFits file.protocols names w.sessions g want
  fitting p g want there it = fits_want file.protocols names w.sessions g want (sound.programs p g there) it

  pub sound_fits_places : (p : ℕ) (g : Program) (want : Want) → slice_get w.parties p ≡ Some g → want_of g ≡ Some want → FitsPlaces w.sessions want
  sound_fits_places p g want there it = fits_places file.protocols names w.sessions g want (sound.programs p g there) it (fitting p g want there it)

  pub next_has_a_place : (e : EndId) (x : Passed) → next_for w.sessions e ≡ Some x
      → (next : Place) × (after_place (end_at w.sessions e).place Into x.msg ≡ Some next) × FitsNext w.sessions (end_at w.sessions e).place x.msg
  next_has_a_place e x h =
      let t = pair_taking w.sessions (end_at w.sessions e) (end_at w.sessions (other_end e)) x (pair_of w.sessions w.sessions e sound.pairs) h in
      (t.next, t.after, t.fits)

  -- an end that is taken stands for the body of the protocol that the statement names
  pub taken_stands : (p q : ℕ) (g : Program) (e : EndId) (x : Passed) (s d k : ℕ) → slice_get w.parties p ≡ Some g → want_of g ≡ Some (wants.Take e (awaits.Session q)) → next_for w.sessions e ≡ Some x → x.msg ≡ msgs.Sess s d k
      → (body : Place) × (protocol_named file.protocols q ≡ Some body) × StandsFor (end_at w.sessions (side s d)).place body
  taken_stands p q g e x s d k there it next is =
      let n = next_has_a_place e x next in
      let t = fitting p g (wants.Take e (awaits.Session q)) there it x.msg n.0 n.1 n.2 in
      subst (StandsForBody file.protocols w.sessions (awaits.Session q)) is t.stands

  -- and so does one that is accepted
  pub accepted_stands : (p q n k : ℕ) (g : Program) → slice_get w.parties p ≡ Some g → want_of g ≡ Some (wants.Accept n q) → first_offer p (w.requests q) ≡ Some k
      → (body : Place) × (protocol_named file.protocols n ≡ Some body) × StandsFor (end_at w.sessions (side (opened_number q k) 1)).place body
  accepted_stands p q n k g there it first =
      let f = fitting p g (wants.Accept n q) there it in (
        f.exists.0,
        f.exists.1,
        subst (λ (t : Place). StandsFor (end_at w.sessions (side (opened_number q k) 1)).place t) (ap (λ o. unwrap_or o done) f.exists.1) (offer_stands file w p g sound there n q k first it),
      )
