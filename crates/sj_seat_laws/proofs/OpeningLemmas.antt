-- A session that the party opens leaves its world guarded.
use Rattle.std.proofs.Common.{◌≡◌, ℕ, ◌+◌, ◌≤◌, false, List, [], ◌∷◌, ◌++◌, length, None, sum_by, refl, ap, sym, ◌∙◌, subst, arith, inl, inr}
use Rattle.std.proofs.lemmas.Bool.{cases_Bool}
use Rattle.sj_base.specs.declared.EndId.{EndId}
use Rattle.sj_lang.specs.FileAt.{FileAt, party_names}
use Rattle.sj_lang.specs.Place.{Place}
use Rattle.sj_semantics.specs.Ends.{EndAt, Session, end_at, is_end}
use Rattle.sj_semantics.specs.Requests.{Opening, Request, opened_number}
use Rattle.sj_semantics.specs.Uses.{Use, after_uses}
use Rattle.sj_semantics.specs.World.{Change, World, changed_world}
use Rattle.sj_semantics_laws.specs.Unshared.{IsToCome, IsUnshared, carried_in, claims_on, to_accept, to_open}
use Rattle.sj_semantics_laws.proofs.BoundLemmas.{named_is_bound}
use Rattle.sj_semantics_laws.proofs.ClaimLemmas.{one_if}
use Rattle.sj_semantics_laws.proofs.EndLemmas.{IsUnusedBy, end_at-after_uses_other}
use Rattle.sj_semantics_laws.proofs.ToComeLemmas.{OpeningFits, opened_was_to_come, opens, requests_stay_few, stays_to_come}
use Rattle.sj_headline_laws.proofs.AfterLemmas.{AllPairs}
use Rattle.sj_headline_laws.proofs.ChangesLemmas.{OpensWell}
use Rattle.sj_headline_laws.proofs.OpenedLemmas.{NotOpened, Offers, new, offers_after, open_not_opened, requests_grow, was}
use Rattle.sj_headline_laws.proofs.TouchedLemmas.{side}
use Rattle.sj_headline_laws.proofs.UnnamedLemmas.{come_apart, todo_kept}
use Rattle.sj_headline_laws.proofs.WorldLemmas.{IsOffered, Sound}
use Rattle.sj_rules.specs.Party.{nobody}
use Rattle.sj_seat_laws.specs.Calls.{Ends}
use Rattle.sj_seat_laws.specs.SeatedWorld.{world_opened}
use Rattle.sj_seat_laws.proofs.GuardLemmas.{Guarded}
use Rattle.sj_seat_laws.proofs.HeldLemmas.{holds, holds-push}

-- ---- an opening that makes these uses

module _ (file : FileAt) (p : ℕ) (w : World) (sound : Sound file w) (o : Opening) (us : List (EndId × Use)) (fits : OpeningFits w p o) where
  abbrev zs : List Session
  zs = w.sessions

  abbrev sessions : List Session
  sessions = after_uses p us zs

  abbrev after : World
  after = world_opened p o us w

  -- as the change of a party that does nothing else
  abbrev change : Change
  change = record { program = nobody; uses = us; opening = o }

  come_there : (e : EndId) → IsToCome after e → IsToCome (changed_world w p change) e
  come_there e (to_open q k le lt is) = to_open q k le lt is
  come_there e (to_accept q k r there none is second) = to_accept q k r there none is second

  -- what is to come then was so before, and isn't opened
  pub come_then : (e : EndId) → IsToCome after e → IsToCome w e × (opens e w p o ≡ false)
  come_then e come = stays_to_come w p change e fits sound.unshared.few (come_there e come)

  module _ (less : (f : EndId) → sum_by (carried_in f) sessions ≤ sum_by (carried_in f) zs) where
    unshared_then : IsUnshared after
    unshared_then = record {
      once = λ e. omega (arith, less e, sound.unshared.once e);
      to_come = λ e come. omega (arith, less e, sound.unshared.to_come e (come_then e come).0);
      few = λ a. requests_stay_few w p o a fits (sound.unshared.few a);
    }

    module _ (bound_unused : (f : EndId) → ((e : EndId) → IsToCome w e → is_end e f ≡ false) → IsUnusedBy f us) (come_unused : (e : EndId) → IsToCome w e → NotOpened w p o e → IsUnusedBy e us) (pairs : AllPairs sessions)
        (opens_well : OpensWell file w p sessions o) where
      come_stays : (e : EndId) → IsToCome w e → NotOpened w p o e → end_at sessions e ≡ end_at zs e
      come_stays e come other = end_at-after_uses_other p us zs e (come_unused e come other)

      offered_by : (q k : ℕ) (r : Request) → r.second ≡ None → Offers w p o q k r → IsOffered file sessions q k r
      offered_by q k r none (was old other) =
          let i = sound.offered q k r old none in
          record { protocol = i.protocol; party = i.party; asks = i.asks; to_it = i.to_it; at = ap (λ (x : EndAt). x.place) (come_stays (side (opened_number q k) 1) (to_accept q k r old none refl refl) other) ∙ i.at }
      offered_by q k r none (new is same_party number) =
          let i : IsOffered file sessions p (length (w.requests p)) r = subst (OpensWell file w p sessions) is opens_well in
          subst (λ (n : ℕ). IsOffered file sessions n k r) (sym same_party) (subst (λ (n : ℕ). IsOffered file sessions p n r) (sym number) i)

      pub opened_is_sound : Sound file after
      opened_is_sound = record {
        agree = sound.agree;
        unshared = unshared_then;
        protocols = sound.protocols;
        many = sound.many;
        pairs = pairs;
        programs = λ q h at.
            todo_kept file.protocols (party_names file.parties) zs sessions h.todo h.vars h.ends
            (λ n f hn. ap (λ (x : EndAt). x.place) (end_at-after_uses_other p us zs f (bound_unused f (λ e come. come_apart w q h e f sound.unshared at (named_is_bound h.ends n f hn) come))))
            (sound.programs q h at);
        peers = sound.peers;
        origins = sound.origins;
        unopened = λ q k d le lt.
            let old : length (w.requests q) ≤ k = omega (arith, le, requests_grow p o q (w.requests q)) in
            come_stays (side (opened_number q k) d) (to_open q k old lt refl) (open_not_opened w p o q k d fits sound.unshared.few le lt) ∙ sound.unopened q k d old lt;
        offered = λ q k r at none. offered_by q k r none (offers_after w p o q k r fits sound.unshared.few at none);
      }

      -- the end that is opened is held
      module _ (bs : Ends) (g : Guarded file w bs) (y : EndId) (place : Place) (is : (e : EndId) → opens e w p o ≡ is_end e y) where
        once_then : (e : EndId) → claims_on e after + holds e (bs ++ (y, place) ∷ []) ≤ 1
        once_then e =
            elim (cases_Bool (is_end e y)) [
              | inl it ↦
                  let come = opened_was_to_come w p o e fits (is e ∙ it) in
                  omega (arith, less e, holds-push e bs (y, place), ap {B = ℕ} one_if it, sound.unshared.to_come e come, g.apart e come)
              | inr other ↦ omega (arith, less e, holds-push e bs (y, place), ap {B = ℕ} one_if other, g.once e)
            ]

        pub opened_is_guarded : Guarded file after (bs ++ (y, place) ∷ [])
        opened_is_guarded = record {
          sound = opened_is_sound;
          once = once_then;
          apart = λ e come.
              let before = come_then e come in
              omega (arith, holds-push e bs (y, place), ap {B = ℕ} one_if (sym (is e) ∙ before.1), g.apart e before.0);
        }
