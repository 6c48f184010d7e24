-- An act keeps a world sound.
use Rattle.std.proofs.Common.{◌≡◌, ℕ, ◌≤◌, List, [], ◌∷◌, length, slice_get, Some, None, option_map, refl, ap, sym, ◌∙◌, arith, subst, inl, inr}
use Rattle.std.proofs.lemmas.Bool.{cases_eq}
use Rattle.sj_base.specs.declared.EndId.{EndId}
use Rattle.sj_lang.specs.FileAt.{FileAt, party_names}
use Rattle.sj_semantics.specs.Program.{Program}
use Rattle.sj_semantics.specs.Requests.{Request, opened_number}
use Rattle.sj_semantics.specs.World.{World, changed_world, act_of}
use Rattle.sj_semantics.specs.Ends.{Session, end_at}
use Rattle.sj_semantics.specs.Uses.{Use, altered_list, after_uses}
use Rattle.sj_semantics_laws.specs.Bound.{IsBound}
use Rattle.sj_semantics_laws.specs.Unshared.{IsUnshared, IsToCome, to_open, to_accept}
use Rattle.sj_semantics_laws.proofs.AlteredLemmas.{slice_get-altered, slice_get-altered_other, length-altered}
use Rattle.sj_semantics_laws.proofs.BoundLemmas.{named_is_bound}
use Rattle.sj_semantics_laws.proofs.ChangeLemmas.{Rests, rests_on}
use Rattle.sj_semantics_laws.proofs.CommuteLemmas.{Doing, doing_of}
use Rattle.sj_semantics_laws.proofs.EndLemmas.{IsUnusedBy, end_at-after_uses_other}
use Rattle.sj_semantics_laws.proofs.KeepLemmas.{act_keeps_unshared}
use Rattle.sj_semantics_laws.proofs.MineLemmas.{bound, AllMine, all_mine, ends_apart}
use Rattle.sj_semantics_laws.proofs.ToComeLemmas.{OpeningFits, opening_fits}
use Rattle.sj_headline_laws.proofs.TypedLemmas.{FitsProgram}
use Rattle.sj_headline_laws.proofs.TouchedLemmas.{side}
use Rattle.sj_headline_laws.proofs.UnnamedLemmas.{todo_kept}
use Rattle.sj_headline_laws.proofs.OriginLemmas.{InTodo}
use Rattle.sj_headline_laws.proofs.OpenedLemmas.{NotOpened, requests_grow, open_not_opened, Offers, was, new, offers_after}
use Rattle.sj_headline_laws.proofs.WorldLemmas.{Asks, Takes, IsOffered, Sound}
use Rattle.sj_headline_laws.proofs.ChangesLemmas.{OpensWell, Changes}
use Rattle.sj_headline_laws.proofs.ChangedLemmas.{change_changes}

own_program : (w : World) (p : ℕ) (g c h : Program) → slice_get w.parties p ≡ Some g → slice_get (altered_list w.parties p (λ k. c)) p ≡ Some h → c ≡ h
own_program w p g c h there at = let both : Some c ≡ Some h = sym (slice_get-altered w.parties p (λ k. c) ∙ ap (option_map (λ k. c)) there) ∙ at in cc

-- a fact of each party's program, where it holds of the new one and stays for the others
each_program : (P : ℕ → Program → Type 0) (w : World) (p : ℕ) (g c : Program) → slice_get w.parties p ≡ Some g → P p c → ((q : ℕ) (h : Program) → (p ≡ q → ⊥) → slice_get w.parties q ≡ Some h → P q h)
    → (q : ℕ) (h : Program) → slice_get (altered_list w.parties p (λ k. c)) q ≡ Some h → P q h
each_program P w p g c there own others q h at =
    elim (cases_eq p q) [
      | inl it ↦ subst (λ (n : ℕ). P n h) it (subst (P p) (own_program w p g c h there (ap (slice_get (altered_list w.parties p (λ k. c))) it ∙ at)) own)
      | inr other ↦ others q h other (sym (slice_get-altered_other w.parties p q (λ k. c) other) ∙ at)
    ]

module _ (file : FileAt) (w v : World) (p : ℕ) (sound : Sound file w) (a : Doing w p v) where
  abbrev rests : Rests w p a.program a.change
  rests = rests_on w p a.program a.change a.made

  changes : Changes file w p a.program a.change
  changes = change_changes file w p a.program sound a.there a.change rests

  fits : OpeningFits w p a.change.opening
  fits = opening_fits w p a.program a.change rests

  abbrev sessions : List Session
  sessions = after_uses p a.change.uses w.sessions

  mine_unused : (q : ℕ) (h : Program) (f : EndId) (us : List (EndId × Use)) → (p ≡ q → ⊥) → slice_get w.parties q ≡ Some h → IsBound f h.ends → AllMine w p a.program us → IsUnusedBy f us
  mine_unused q h f [] ne at b mine = tt
  mine_unused q h f (u ∷ us) ne at b mine = (ends_apart w p q a.program h sound.unshared ne a.there at u.0 f mine.0 (bound b), mine_unused q h f us ne at b mine.1)

  -- an end that is to come stays, where it isn't opened
  come_stays : (e : EndId) → IsToCome w e → NotOpened w p a.change.opening e → end_at sessions e ≡ end_at w.sessions e
  come_stays e come other = end_at-after_uses_other p a.change.uses w.sessions e (changes.unused e come other)

  offered_by : (q k : ℕ) (r : Request) → r.second ≡ None → Offers w p a.change.opening q k r → IsOffered file sessions q k r
  offered_by q k r none (was old other) =
      let o = sound.offered q k r old none in
      record { protocol = o.protocol; party = o.party; asks = o.asks; to_it = o.to_it; at = ap (λ t. t.place) (come_stays (side (opened_number q k) 1) (to_accept q k r old none refl refl) other) ∙ o.at }
  offered_by q k r none (new is same_party number) =
      let o : IsOffered file sessions p (length (w.requests p)) r = subst (OpensWell file w p sessions) is changes.opened in
      subst (λ (n : ℕ). IsOffered file sessions n k r) (sym same_party) (subst (λ (n : ℕ). IsOffered file sessions p n r) (sym number) o)

  changed_is_sound : IsUnshared (changed_world w p a.change) → Sound file (changed_world w p a.change)
  changed_is_sound unshared = record {
    agree = sound.agree;
    unshared = unshared;
    protocols = sound.protocols;
    many = length-altered w.parties p (λ g. a.change.program) ∙ sound.many;
    pairs = changes.after.pairs;
    programs = each_program (λ q h. FitsProgram file.protocols (party_names file.parties) sessions h) w p a.program a.change.program a.there changes.after.own (λ q h ne at.
        todo_kept file.protocols (party_names file.parties) w.sessions sessions h.todo h.vars h.ends
        (λ n f hn. ap (λ t. t.place) (end_at-after_uses_other p a.change.uses w.sessions f (mine_unused q h f a.change.uses ne at (named_is_bound h.ends n f hn) (all_mine w p a.program a.change rests))))
        (sound.programs q h at));
    peers = each_program (λ q h. h.peers ≡ party_names file.parties) w p a.program a.change.program a.there (changes.same_peers ∙ sound.peers p a.program a.there) (λ q h ne at. sound.peers q h at);
    origins = each_program (λ q h. InTodo (Asks file q) (Takes file q) h.todo) w p a.program a.change.program a.there changes.origin (λ q h ne at. sound.origins q h at);
    unopened = λ q k d le lt.
        let old : length (w.requests q) ≤ k = omega (arith, le, requests_grow p a.change.opening q (w.requests q)) in
        come_stays (side (opened_number q k) d) (to_open q k old lt refl) (open_not_opened w p a.change.opening q k d fits sound.unshared.few le lt) ∙ sound.unopened q k d old lt;
    offered = λ q k r at none. offered_by q k r none (offers_after w p a.change.opening q k r fits sound.unshared.few at none);
  }

pub act_keeps_sound : (file : FileAt) (w v : World) (p : ℕ) → Sound file w → act_of w p ≡ Some v → Sound file v
act_keeps_sound file w v p sound acted =
    let a = doing_of w p v acted in
    subst (Sound file) a.result (changed_is_sound file w v p sound a (subst IsUnshared (sym a.result) (act_keeps_unshared w v p sound.unshared acted)))
