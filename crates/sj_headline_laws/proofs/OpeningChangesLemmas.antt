-- What a change does to a sound world that requests or accepts a session.
use Rattle.std.proofs.Common.{◌≡◌, ℕ, ◌<◌, List, length, slice_get, Some, refl, ap, sym, ◌∙◌, arith, subst}
use Rattle.sj_lang.specs.Place.{Place}
use Rattle.sj_lang.specs.Meet.{Meets, StandsFor}
use Rattle.sj_lang.specs.FileAt.{FileAt, ProtocolAt, body_named, party_names, number_of_name}
use Rattle.sj_lang.proofs.DualLemmas.{dual_of-dual_of}
use Rattle.sj_semantics.specs.declared.Want.TheVariants as wants
use Rattle.sj_semantics.specs.Program.{Program}
use Rattle.sj_semantics.specs.Requests.{limit_of_requests, opened_number, first_offer}
use Rattle.sj_semantics.specs.Wants.{want_of}
use Rattle.sj_semantics.specs.World.{World, change_by_opening, change_by_accepting}
use Rattle.sj_semantics.specs.Ends.{nowhere, end_at}
use Rattle.sj_semantics_laws.specs.Unshared.{IsToCome, to_open, to_accept}
use Rattle.sj_semantics_laws.proofs.ToComeLemmas.{Offer, first_is_offer}
use Rattle.sj_headline_laws.proofs.TypedLemmas.{StepFits}
use Rattle.sj_headline_laws.proofs.TouchedLemmas.{side, other_session_other_end}
use Rattle.sj_headline_laws.proofs.OriginLemmas.{in_rest}
use Rattle.sj_headline_laws.proofs.BegunLemmas.{second_is, after_accepting, after_requesting}
use Rattle.sj_headline_laws.proofs.OpensLemmas.{want_so}
use Rattle.sj_headline_laws.proofs.WorldLemmas.{Asks, Takes, Sound}
use Rattle.sj_headline_laws.proofs.ChangesLemmas.{Changes}

module _ (file : FileAt) (w : World) (p : ℕ) (g : Program) (sound : Sound file w) (there : slice_get w.parties p ≡ Some g) where
  abbrev ps : List ProtocolAt
  ps = file.protocols

  abbrev names : List ℕ
  names = party_names file.parties

  -- the number of the session that the party can request
  abbrev pub coming_number : ℕ
  coming_number = opened_number p (length (w.requests p))

  pub request_changes : (n q : ℕ) → length (w.requests p) < limit_of_requests → want_of g ≡ Some (wants.Request n q) → StepFits ps names w.sessions g (wants.Request n q)
      → Changes file w p g (change_by_opening g coming_number (body_named ps n) q)
  request_changes n q lt it fit =
      let come : (d : ℕ) → IsToCome w (side coming_number d) = λ d. to_open p (length (w.requests p)) (omega arith) lt refl in
      let none : (d : ℕ) → end_at w.sessions (side coming_number d) ≡ nowhere = λ d. sound.unopened p (length (w.requests p)) d (omega arith) lt in
      let so : (b : ℕ) × Asks file p n b × (number_of_name g.peers b ≡ q) = want_so (Asks file p) (Takes file p) g (wants.Request n q) (sound.origins p g there) it in
      record {
        after = after_requesting ps names w p g sound.unshared sound.pairs there n coming_number come none fit;
        origin = in_rest (Asks file p) (Takes file p) g.todo (sound.origins p g there);
        same_peers = refl;
        unused = λ f come other. (other_session_other_end coming_number f.sess 0 f.side other, (other_session_other_end coming_number f.sess 1 f.side other, tt));
        opened = record {
          protocol = n;
          party = so.0;
          asks = so.1;
          to_it = ap (λ peers. number_of_name peers so.0) (sym (sound.peers p g there)) ∙ so.2;
          at = ap (λ t. t.place) (second_is ps names w p g sound.unshared sound.pairs there n coming_number come none);
        };
      }

  -- what is offered stands for what is accepted
  pub offer_stands : (n q k : ℕ) → first_offer p (w.requests q) ≡ Some k → want_of g ≡ Some (wants.Accept n q) → StandsFor (end_at w.sessions (side (opened_number q k) 1)).place (body_named ps n)
  offer_stands n q k first it =
      let off : Offer p k (w.requests q) = first_is_offer p (w.requests q) k first in
      let o = sound.offered q k off.0 off.1 off.3 in
      let so : (b : ℕ) × Takes file p n b × (number_of_name g.peers b ≡ q) = want_so (Asks file p) (Takes file p) g (wants.Accept n q) (sound.origins p g there) it in
      let meet : Meets (body_named ps o.protocol) (body_named ps n) =
      sound.agree q p o.protocol n o.party so.0 o.asks (o.to_it ∙ off.2) so.1 (ap (λ peers. number_of_name peers so.0) (sym (sound.peers p g there)) ∙ so.2) in
      subst (λ (t : Place). StandsFor t (body_named ps n)) (sym o.at) (subst (λ (t : Place). Meets t (body_named ps n)) (sym (dual_of-dual_of (body_named ps o.protocol))) meet)

  pub accept_changes : (n q k : ℕ) → first_offer p (w.requests q) ≡ Some k → want_of g ≡ Some (wants.Accept n q) → StepFits ps names w.sessions g (wants.Accept n q)
      → Changes file w p g (change_by_accepting g q (body_named ps n) k)
  accept_changes n q k first it fit =
      let off : Offer p k (w.requests q) = first_is_offer p (w.requests q) k first in
      record {
        after = after_accepting ps names w p g sound.unshared sound.pairs there n (opened_number q k) (to_accept q k off.0 off.1 off.3 refl refl) (offer_stands n q k first it) fit;
        origin = in_rest (Asks file p) (Takes file p) g.todo (sound.origins p g there);
        same_peers = refl;
        unused = λ f come other. (other, tt);
        opened = tt;
      }
