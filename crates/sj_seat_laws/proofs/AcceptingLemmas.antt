-- An accept by the party leaves its world guarded, and each open end is where it can be.
use Rattle.std.proofs.Common.{◌≡◌, ℕ, ◌+◌, ◌≤◌, true, false, List, [], ◌∷◌, ◌++◌, Some, refl, ap, sym, ◌∙◌, subst, arith, inl, inr}
use Rattle.std.proofs.lemmas.Bool.{cases_Bool}
use Rattle.sj_base.specs.declared.EndId.{EndId}
use Rattle.sj_lang.specs.FileAt.{FileAt, body_named, number_of_name, party_names}
use Rattle.sj_lang.specs.Meet.{Meets, StandsFor}
use Rattle.sj_lang.specs.Place.{Place}
use Rattle.sj_lang.proofs.DualLemmas.{dual_of-dual_of}
use Rattle.sj_semantics.specs.Ends.{Session, end_at, is_end, other_end}
use Rattle.sj_semantics.specs.Requests.{accepts, first_offer, opened_number}
use Rattle.sj_semantics.specs.Uses.{Use, begins}
use Rattle.sj_semantics.specs.World.{World}
use Rattle.sj_semantics_laws.specs.Unshared.{IsToCome, to_accept}
use Rattle.sj_semantics_laws.proofs.BoundLemmas.{is_end_sym_false}
use Rattle.sj_semantics_laws.proofs.ClaimLemmas.{carried-begins, one_if}
use Rattle.sj_semantics_laws.proofs.EndLemmas.{IsUnusedBy, touched}
use Rattle.sj_semantics_laws.proofs.ToComeLemmas.{Offer, first_is_offer}
use Rattle.sj_headline_laws.proofs.BeginPairLemmas.{pair_begins}
use Rattle.sj_headline_laws.proofs.GoesLemmas.{came_from_other, held, offered, on_its_way}
use Rattle.sj_headline_laws.proofs.RequestLemmas.{accept_kept}
use Rattle.sj_headline_laws.proofs.TouchedLemmas.{side}
use Rattle.sj_headline_laws.proofs.UnnamedLemmas.{come_uncarried, pairs_after}
use Rattle.sj_headline_laws.proofs.WhereLemmas.{coming_stays}
use Rattle.sj_headline_laws.proofs.WorldLemmas.{Sound, Takes}
use Rattle.sj_seat_laws.specs.Calls.{Ends}
use Rattle.sj_seat_laws.specs.SeatedWorld.{no_name, world_opened}
use Rattle.sj_seat_laws.proofs.GuardLemmas.{Guarded}
use Rattle.sj_seat_laws.proofs.LocatedLemmas.{AllFound, IsFound}
use Rattle.sj_seat_laws.proofs.OpeningLemmas.{opened_is_guarded}

module _ (file : FileAt) (p : ℕ) (w : World) (sound : Sound file w) (q k : ℕ) (first : first_offer p (w.requests q) ≡ Some k) (n b : ℕ) (takes : Takes file p n b) (to_it : number_of_name (party_names file.parties) b ≡ q) where
  abbrev place : Place
  place = body_named file.protocols n

  abbrev y : EndId
  y = side (opened_number q k) 1

  abbrev us : List (EndId × Use)
  us = (y, begins place) ∷ []

  abbrev pub new_sessions : List Session
  new_sessions = touched p w.sessions (y, begins place)

  offer : Offer p k (w.requests q)
  offer = first_is_offer p (w.requests q) k first

  pub is_coming : IsToCome w y
  is_coming = to_accept q k offer.0 offer.1 offer.3 refl refl

  -- what is offered stands for what is accepted
  offer_stands : StandsFor (end_at w.sessions y).place place
  offer_stands =
      let i = sound.offered q k offer.0 offer.1 offer.3 in
      let meet : Meets (body_named file.protocols i.protocol) place = sound.agree q p i.protocol n i.party b i.asks (i.to_it ∙ offer.2) takes to_it in
      subst (λ (t : Place). StandsFor t place) (sym i.at) (subst (λ (t : Place). Meets t place) (sym (dual_of-dual_of (body_named file.protocols i.protocol))) meet)

  pub accept_unused : (f : EndId) → ((e : EndId) → IsToCome w e → is_end e f ≡ false) → IsUnusedBy f us
  accept_unused f apart = (apart y is_coming, tt)

  pub guards_accept : (bs : Ends) → Guarded file w bs → Guarded file (world_opened p (accepts q k no_name) us w) (bs ++ (y, place) ∷ [])
  guards_accept bs g =
      opened_is_guarded file p w sound (accepts q k no_name) us offer (λ f. omega (arith, carried-begins f p w.sessions y place)) accept_unused (λ f come other. (other, tt))
      (pairs_after p w.sessions y (begins place) (come_uncarried w y sound.unshared is_coming) sound.pairs (λ pair. pair_begins new_sessions (end_at w.sessions y) (end_at w.sessions (other_end y)) p place pair offer_stands))
      tt bs g y place (λ e. refl)

  pub accept_finds : (c l : EndId → ℕ) → AllFound w c → ((f : EndId) → c f + one_if (is_end f y) ≤ l f) → AllFound (world_opened p (accepts q k no_name) us w) l
  accept_finds c l all le f is_open = elim (cases_Bool (is_end f y)) [
    | inl it ↦ inr (omega (arith, le f, ap {B = ℕ} one_if it))
    | inr other ↦ old other (all f (came_from_other p w.sessions y (begins place) f (is_end_sym_false f y other) is_open))
  ]
    where
      old : is_end f y ≡ false → IsFound w c f → IsFound (world_opened p (accepts q k no_name) us w) l f
      old other (inl (held a g at h)) = inl (held a g at h)
      old other (inl (on_its_way e h)) = inl (on_its_way e (coming_stays p w.sessions y (begins place) f e tt h))
      old other (inl (offered i)) = inl (offered (record {
        by = i.by;
        number = i.number;
        request = i.request;
        there = accept_kept p q k no_name i.by i.number (w.requests i.by) i.request
            (λ same number. let clash : false ≡ true = sym other ∙ (λ j. is_end f (side (opened_number (same j) (number j)) 1)) ∙ i.it_is in cc) i.there;
        none = i.none;
        it_is = i.it_is;
      }))
      old other (inr h) = inr (omega (arith, h, le f))
