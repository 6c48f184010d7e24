-- Where each open end goes with an act.
use Rattle.std.proofs.Common.{◌≡◌, ℕ, nat_lt, Bool, true, false, cond, [], ◌∷◌, length, slice_get, Option, Some, None, option_map, refl, ap, sym, ◌∙◌, subst, inl, inr, ◌⊎◌}
use Rattle.std.proofs.lemmas.Bool.{cases_eq}
use Rattle.sj_base.specs.declared.EndId.{EndId}
use Rattle.sj_lang.specs.FileAt.{FileAt, body_named, party_names}
use Rattle.sj_semantics.specs.declared.Awaits.{Awaits}
use Rattle.sj_semantics.specs.declared.Want.{Want}
use Rattle.sj_semantics.specs.declared.Want.TheVariants as wants
use Rattle.sj_semantics.specs.declared.Passed.{Passed}
use Rattle.sj_semantics.specs.Program.{Program}
use Rattle.sj_semantics.specs.Requests.{first_offer, limit_of_requests, opened_number}
use Rattle.sj_semantics.specs.Wants.{want_of}
use Rattle.sj_semantics.specs.Steps.{local_of, sent_of, closed_of}
use Rattle.sj_semantics.specs.World.{World, Change, plain_change, session_message, change_by_taking, change_by_opening, change_by_accepting, change_by, changed_world, act_of}
use Rattle.sj_semantics.specs.Ends.{other_end, end_at, next_for, limit_of_hops}
use Rattle.sj_semantics.specs.Uses.{sends, delegates, after_uses}
use Rattle.sj_semantics_laws.proofs.AlteredLemmas.{slice_get-altered, slice_get-altered_other}
use Rattle.sj_semantics_laws.proofs.ChangeLemmas.{rests_on}
use Rattle.sj_semantics_laws.proofs.CommuteLemmas.{doing_of}
use Rattle.sj_headline_laws.proofs.TypedLemmas.{StepFits}
use Rattle.sj_headline_laws.proofs.LeadLemmas.{pair_taking}
use Rattle.sj_headline_laws.proofs.TouchedLemmas.{pair_of}
use Rattle.sj_headline_laws.proofs.AfterLemmas.{handed_pairs}
use Rattle.sj_headline_laws.proofs.WorldLemmas.{Sound, fits_want}
use Rattle.sj_headline_laws.proofs.LocatedLemmas.{ends_go}
use Rattle.sj_headline_laws.proofs.GoesLemmas.{Held, Offered, IsLocated, held, on_its_way, offered, IsOpen, AllLocated, IsSomewhere, Goes}
use Rattle.sj_headline_laws.proofs.StepGoesLemmas.{local_goes, send_goes, close_goes, delegate_goes, take_goes, accept_goes, request_goes}

cond_goes : (w : World) (p : ℕ) (g : Program) (b : Bool) (c d : Change) → Goes w p g c → cond b (Some c) None ≡ Some d → Goes w p g d
cond_goes w p g true c d k h = subst (Goes w p g) (let it : c ≡ d = cc in it) k
cond_goes w p g false c d k h = cc

module _ (file : FileAt) (w : World) (p : ℕ) (g : Program) (sound : Sound file w) (there : slice_get w.parties p ≡ Some g) where
  taking_goes : (k : EndId) (a : Awaits) (d : Change) → StepFits file.protocols (party_names file.parties) w.sessions g (wants.Take k a) → (o : Option Passed) → next_for w.sessions k ≡ o
      → option_map (change_by_taking w.protocols g k a) o ≡ Some d → Goes w p g d
  taking_goes k a d fit None n h = cc
  taking_goes k a d fit (Some x) n h =
      let t = pair_taking w.sessions (end_at w.sessions k) (end_at w.sessions (other_end k)) x (pair_of w.sessions w.sessions k sound.pairs) n in
      cond_goes w p g true (change_by_taking w.protocols g k a x) d (take_goes file w p g sound there w.protocols k a x n (fit x.msg t.next t.after t.fits).can_take) h

  accepting_goes : (n q : ℕ) (d : Change) → StepFits file.protocols (party_names file.parties) w.sessions g (wants.Accept n q) → (o : Option ℕ) → option_map (change_by_accepting g q (body_named w.protocols n)) o ≡ Some d → Goes w p g d
  accepting_goes n q d fit None h = cc
  accepting_goes n q d fit (Some k) h = cond_goes w p g true (change_by_accepting g q (body_named w.protocols n) k) d (accept_goes file w p g sound there fit.unused q k (body_named w.protocols n)) h

  by_goes : (want : Want) → want_of g ≡ Some want → StepFits file.protocols (party_names file.parties) w.sessions g want → (d : Change) → change_by w p g want ≡ Some d → Goes w p g d
  by_goes wants.Ended it fit d h = cc
  by_goes wants.Local it fit d h = cond_goes w p g true (plain_change (local_of g) []) d (local_goes file w p g sound there) h
  by_goes (wants.Send k m) it fit d h = cond_goes w p g true (plain_change (sent_of g) ((k, sends m) ∷ [])) d (send_goes file w p g sound there k m (ends_go g (wants.Send k m) it)) h
  by_goes (wants.Delegate k y) it fit d h =
      cond_goes w p g (nat_lt (end_at w.sessions y).hops limit_of_hops) (plain_change (sent_of g) ((y, delegates) ∷ (k, sends (session_message y p)) ∷ [])) d
      (delegate_goes file w p g sound there k y (ends_go g (wants.Delegate k y) it)
      (handed_pairs file.protocols (party_names file.parties) w p g sound.unshared sound.pairs there y fit.sent_name fit.sent_named)) h
  by_goes (wants.Take k a) it fit d h = taking_goes k a d fit (next_for w.sessions k) refl h
  by_goes (wants.Close k) it fit d h = cond_goes w p g true (plain_change (closed_of g) []) d (close_goes file w p g sound there k (ends_go g (wants.Close k) it) fit.0) h
  by_goes (wants.Request n q) it fit d h =
      cond_goes w p g (nat_lt (length (w.requests p)) limit_of_requests) (change_by_opening g (opened_number p (length (w.requests p))) (body_named w.protocols n) q) d
      (request_goes file w p g sound there fit.unused q (body_named w.protocols n)) h
  by_goes (wants.Accept n q) it fit d h = accepting_goes n q d fit (first_offer p (w.requests q)) h

-- ---- after an act

module _ (w : World) (p : ℕ) (g : Program) (c : Change) (there : slice_get w.parties p ≡ Some g) (goes : Goes w p g c) where
  held_now : (e : EndId) → Held e c.program.ends → IsLocated (changed_world w p c) e
  held_now e h = held p c.program (slice_get-altered w.parties p (λ k. c.program) ∙ ap (option_map (λ k. c.program)) there) h

  somewhere : (e : EndId) → IsSomewhere c.program.ends (after_uses p c.uses w.sessions) e → IsLocated (changed_world w p c) e
  somewhere e (inl h) = held_now e h
  somewhere e (inr k) = on_its_way k.0 k.1

  held_or_offered : (e : EndId) → Held e c.program.ends ⊎ Offered (changed_world w p c) e → IsLocated (changed_world w p c) e
  held_or_offered e (inl h) = held_now e h
  held_or_offered e (inr o) = offered o

  held_before : (q : ℕ) (h : Program) (e : EndId) → IsOpen (after_uses p c.uses w.sessions) e → slice_get w.parties q ≡ Some h → Held e h.ends → IsLocated (changed_world w p c) e
  held_before q h e is_open at it =
      elim (cases_eq p q) [
        | inl same ↦
            let both : Some g ≡ Some h = sym there ∙ ap (slice_get w.parties) same ∙ at in
            let one : h ≡ g = cc in
            somewhere e (goes.names e is_open (subst (λ (t : Program). Held e t.ends) one it))
        | inr other ↦ held q h (slice_get-altered_other w.parties p q (λ k. c.program) other ∙ at) it
      ]

  was_located : (e : EndId) → IsOpen (after_uses p c.uses w.sessions) e → IsLocated w e → IsLocated (changed_world w p c) e
  was_located e is_open (held q h at it) = held_before q h e is_open at it
  was_located e is_open (on_its_way f k) = somewhere e (goes.comings e f k)
  was_located e is_open (offered o) = held_or_offered e (goes.offers e o)

  located_after : AllLocated w → AllLocated (changed_world w p c)
  located_after all e is_open = by (goes.before e is_open)
    where
      by : IsOpen w.sessions e ⊎ (Held e c.program.ends ⊎ Offered (changed_world w p c) e) → IsLocated (changed_world w p c) e
      by (inl old) = was_located e is_open (all e old)
      by (inr now) = held_or_offered e now

pub act_keeps_located : (file : FileAt) (w v : World) (p : ℕ) → Sound file w → AllLocated w → act_of w p ≡ Some v → AllLocated v
act_keeps_located file w v p sound all acted =
    let a = doing_of w p v acted in
    let r = rests_on w p a.program a.change a.made in
    subst AllLocated a.result
    (located_after w p a.program a.change a.there
    (by_goes file w p a.program sound a.there r.want r.wants_it (fits_want file.protocols (party_names file.parties) w.sessions a.program r.want (sound.programs p a.program a.there) r.wants_it) a.change r.by_it) all)
