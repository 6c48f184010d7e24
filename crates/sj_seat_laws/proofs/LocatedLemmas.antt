-- Where each open end is: bound at another party, on its way, offered, or held by the party. An act
-- of another party leaves it so, and so does a call.
use Rattle.std.proofs.Common.{◌≡◌, ℕ, ◌+◌, ◌≤◌, nat_lt, Bool, true, false, cond, List, [], ◌∷◌, length, slice_get, Option, Some, None, option_map, refl, ap, sym, ◌∙◌, subst, arith, ◌⊎◌, inl, inr}
use Rattle.std.proofs.lemmas.Bool.{both_ways, cases_eq}
use Rattle.sj_base.specs.declared.EndId.{EndId}
use Rattle.sj_base.specs.declared.Msg.{Msg}
use Rattle.sj_base.specs.declared.Msg.TheVariants as msgs
use Rattle.sj_lang.specs.FileAt.{FileAt, body_named, party_names}
use Rattle.sj_lang.specs.Place.{Place, done}
use Rattle.sj_semantics.specs.declared.Awaits.{Awaits}
use Rattle.sj_semantics.specs.declared.Passed.{Passed}
use Rattle.sj_semantics.specs.declared.Want.{Want}
use Rattle.sj_semantics.specs.declared.Want.TheVariants as wants
use Rattle.sj_semantics.specs.Ends.{EndAt, Session, end_at, is_end, limit_of_hops, next_for, other_end}
use Rattle.sj_semantics.specs.Program.{Program}
use Rattle.sj_semantics.specs.Requests.{first_offer, limit_of_requests, opened_number}
use Rattle.sj_semantics.specs.Steps.{closed_of, local_of, sent_of}
use Rattle.sj_semantics.specs.Uses.{Use, after_uses, begins, delegates, sends, takes}
use Rattle.sj_semantics.specs.Wants.{want_of}
use Rattle.sj_semantics.specs.World.{Change, World, act_of, change_by, change_by_accepting, change_by_opening, change_by_taking, changed_world, plain_change, session_message}
use Rattle.sj_semantics_laws.specs.Unshared.{names_end}
use Rattle.sj_semantics_laws.proofs.AlteredLemmas.{slice_get-altered, slice_get-altered_other}
use Rattle.sj_semantics_laws.proofs.BoundLemmas.{is_end_sym_false}
use Rattle.sj_semantics_laws.proofs.ChangeLemmas.{rests_on}
use Rattle.sj_semantics_laws.proofs.ClaimLemmas.{one_if}
use Rattle.sj_semantics_laws.proofs.CommuteLemmas.{doing_of as acts_by}
use Rattle.sj_semantics_laws.proofs.EndLemmas.{touched}
use Rattle.sj_headline_laws.proofs.AfterLemmas.{AllPairs, handed_pairs}
use Rattle.sj_headline_laws.proofs.DoneLemmas.{IsComing, same_end_at}
use Rattle.sj_headline_laws.proofs.GoesLemmas.{Goes, Held, IsLocated, IsOpen, IsSomewhere, Offered, came_from, came_from_other, held, offered, on_its_way}
use Rattle.sj_headline_laws.proofs.LeadLemmas.{pair_hands, pair_taking}
use Rattle.sj_headline_laws.proofs.LocatedLemmas.{ends_go}
use Rattle.sj_headline_laws.proofs.StepGoesLemmas.{accept_goes, close_goes, delegate_goes, local_goes, request_goes, send_goes, take_goes}
use Rattle.sj_headline_laws.proofs.TouchedLemmas.{pair_of, side}
use Rattle.sj_headline_laws.proofs.TypedLemmas.{StepFits}
use Rattle.sj_headline_laws.proofs.UnnamedLemmas.{IsUncarried, pairs_after}
use Rattle.sj_headline_laws.proofs.WhereLemmas.{AfterTake, coming_after_take, coming_stays, sent_comes, still, taken}
use Rattle.sj_headline_laws.proofs.WorldLemmas.{Sound, fits_want}
use Rattle.sj_seat_laws.specs.SeatedWorld.{world_after}

-- the end is where it is in a run by the file alone, or held: k says in how many ways
abbrev pub IsFound : World → (EndId → ℕ) → EndId → Type 0
IsFound w k e = IsLocated w e ⊎ (1 ≤ k e)

abbrev pub AllFound : World → (EndId → ℕ) → Type 0
AllFound w k = (e : EndId) → IsOpen w.sessions e → IsFound w k e

pub found_more : (w : World) (k l : EndId → ℕ) → ((e : EndId) → k e ≤ l e) → AllFound w k → AllFound w l
found_more w k l le all e is_open = by (all e is_open)
  where
    by : IsFound w k e → IsFound w l e
    by (inl h) = inl h
    by (inr h) = inr (omega (arith, h, le e))

-- ---- where each end goes with an act of another party

cond_goes : (w : World) (p : ℕ) (g : Program) (b : Bool) (c d : Change) → Goes w p g c → cond b (Some c) None ≡ Some d → Goes w p g d
cond_goes w p g true c d k h = subst (Goes w p g) (let it : c ≡ d = cc in it) k
cond_goes w p g false c d k h = cc

module _ (file : FileAt) (w : World) (p : ℕ) (g : Program) (sound : Sound file w) (there : slice_get w.parties p ≡ Some g) where
  taking_goes : (k : EndId) (a : Awaits) (d : Change) → StepFits file.protocols (party_names file.parties) w.sessions g (wants.Take k a) → (o : Option Passed) → next_for w.sessions k ≡ o
      → option_map (change_by_taking w.protocols g k a) o ≡ Some d → Goes w p g d
  taking_goes k a d fit None n h = cc
  taking_goes k a d fit (Some x) n h =
      let t = pair_taking w.sessions (end_at w.sessions k) (end_at w.sessions (other_end k)) x (pair_of w.sessions w.sessions k sound.pairs) n in
      cond_goes w p g true (change_by_taking w.protocols g k a x) d (take_goes file w p g sound there w.protocols k a x n (fit x.msg t.next t.after t.fits).can_take) h

  accepting_goes : (n q : ℕ) (d : Change) → StepFits file.protocols (party_names file.parties) w.sessions g (wants.Accept n q) → (o : Option ℕ) → option_map (change_by_accepting g q (body_named w.protocols n)) o ≡ Some d → Goes w p g d
  accepting_goes n q d fit None h = cc
  accepting_goes n q d fit (Some k) h = cond_goes w p g true (change_by_accepting g q (body_named w.protocols n) k) d (accept_goes file w p g sound there fit.unused q k (body_named w.protocols n)) h

  by_goes : (want : Want) → want_of g ≡ Some want → StepFits file.protocols (party_names file.parties) w.sessions g want → (d : Change) → change_by w p g want ≡ Some d → Goes w p g d
  by_goes wants.Ended it fit d h = cc
  by_goes wants.Local it fit d h = cond_goes w p g true (plain_change (local_of g) []) d (local_goes file w p g sound there) h
  by_goes (wants.Send k m) it fit d h = cond_goes w p g true (plain_change (sent_of g) ((k, sends m) ∷ [])) d (send_goes file w p g sound there k m (ends_go g (wants.Send k m) it)) h
  by_goes (wants.Delegate k y) it fit d h =
      cond_goes w p g (nat_lt (end_at w.sessions y).hops limit_of_hops) (plain_change (sent_of g) ((y, delegates) ∷ (k, sends (session_message y p)) ∷ [])) d
      (delegate_goes file w p g sound there k y (ends_go g (wants.Delegate k y) it)
      (handed_pairs file.protocols (party_names file.parties) w p g sound.unshared sound.pairs there y fit.sent_name fit.sent_named)) h
  by_goes (wants.Take k a) it fit d h = taking_goes k a d fit (next_for w.sessions k) refl h
  by_goes (wants.Close k) it fit d h = cond_goes w p g true (plain_change (closed_of g) []) d (close_goes file w p g sound there k (ends_go g (wants.Close k) it) fit.0) h
  by_goes (wants.Request n q) it fit d h =
      cond_goes w p g (nat_lt (length (w.requests p)) limit_of_requests) (change_by_opening g (opened_number p (length (w.requests p))) (body_named w.protocols n) q) d
      (request_goes file w p g sound there fit.unused q (body_named w.protocols n)) h
  by_goes (wants.Accept n q) it fit d h = accepting_goes n q d fit (first_offer p (w.requests q)) h

module _ (w : World) (p : ℕ) (g : Program) (c : Change) (there : slice_get w.parties p ≡ Some g) (goes : Goes w p g c) where
  abbrev after : World
  after = changed_world w p c

  held_now : (e : EndId) → Held e c.program.ends → IsLocated after e
  held_now e h = held p c.program (slice_get-altered w.parties p (λ k. c.program) ∙ ap (option_map (λ k. c.program)) there) h

  somewhere : (e : EndId) → IsSomewhere c.program.ends (after_uses p c.uses w.sessions) e → IsLocated after e
  somewhere e (inl h) = held_now e h
  somewhere e (inr k) = on_its_way k.0 k.1

  held_or_offered : (e : EndId) → Held e c.program.ends ⊎ Offered after e → IsLocated after e
  held_or_offered e (inl h) = held_now e h
  held_or_offered e (inr o) = offered o

  held_before : (q : ℕ) (h : Program) (e : EndId) → IsOpen (after_uses p c.uses w.sessions) e → slice_get w.parties q ≡ Some h → Held e h.ends → IsLocated after e
  held_before q h e is_open at it =
      elim (cases_eq p q) [
        | inl same ↦
            let both : Some g ≡ Some h = sym there ∙ ap (slice_get w.parties) same ∙ at in
            let one : h ≡ g = cc in
            somewhere e (goes.names e is_open (subst (λ (t : Program). Held e t.ends) one it))
        | inr other ↦ held q h (slice_get-altered_other w.parties p q (λ k. c.program) other ∙ at) it
      ]

  was_located : (e : EndId) → IsOpen (after_uses p c.uses w.sessions) e → IsLocated w e → IsLocated after e
  was_located e is_open (held q h at it) = held_before q h e is_open at it
  was_located e is_open (on_its_way f k) = somewhere e (goes.comings e f k)
  was_located e is_open (offered o) = held_or_offered e (goes.offers e o)

  -- what is held stays so
  found_after : (k : EndId → ℕ) → AllFound w k → AllFound after k
  found_after k all e is_open = by (goes.before e is_open)
    where
      was : IsFound w k e → IsFound after k e
      was (inl l) = inl (was_located e is_open l)
      was (inr h) = inr h

      by : IsOpen w.sessions e ⊎ (Held e c.program.ends ⊎ Offered after e) → IsFound after k e
      by (inl old) = was (all e old)
      by (inr now) = inl (held_or_offered e now)

pub act_keeps_found : (file : FileAt) (w v : World) (k : EndId → ℕ) (q : ℕ) → Sound file w → AllFound w k → act_of w q ≡ Some v → AllFound v k
act_keeps_found file w v k q sound all acted =
    let a = acts_by w q v acted in
    let r = rests_on w q a.program a.change a.made in
    subst (λ (u : World). AllFound u k) a.result
    (found_after w q a.program a.change a.there
    (by_goes file w q a.program sound a.there r.want r.wants_it (fits_want file.protocols (party_names file.parties) w.sessions a.program r.want (sound.programs q a.program a.there) r.wants_it) a.change r.by_it) k all)

-- ---- and with a call

-- where each open end is after these uses, by where it was
found_by : (p : ℕ) (w : World) (k l : EndId → ℕ) (us : List (EndId × Use)) → AllFound w k
    → ((e : EndId) → IsOpen (after_uses p us w.sessions) e → IsOpen w.sessions e ⊎ (1 ≤ l e))
    → ((e : EndId) → IsOpen (after_uses p us w.sessions) e → 1 ≤ k e → IsFound (world_after p us w) l e)
    → ((e f : EndId) → IsComing w.sessions e f → IsFound (world_after p us w) l e) → AllFound (world_after p us w) l
found_by p w k l us all before kept comings e is_open = by (before e is_open)
  where
    was : IsFound w k e → IsFound (world_after p us w) l e
    was (inl (held q g at h)) = inl (held q g at h)
    was (inl (on_its_way f c)) = comings e f c
    was (inl (offered o)) = inl (offered (record { by = o.by; number = o.number; request = o.request; there = o.there; none = o.none; it_is = o.it_is }))
    was (inr h) = kept e is_open h

    by : IsOpen w.sessions e ⊎ (1 ≤ l e) → IsFound (world_after p us w) l e
    by (inl old) = was (all e old)
    by (inr now) = inr now

-- from what is held before the call to what is held after it
module _ (p : ℕ) (w : World) (k l : EndId → ℕ) (all : AllFound w k) where
  abbrev zs : List Session
  zs = w.sessions

  pub send_finds : (e : EndId) (m : Msg) → ((f : EndId) → k f ≤ l f) → AllFound (world_after p ((e, sends m) ∷ []) w) l
  send_finds e m le =
      found_by p w k l ((e, sends m) ∷ []) all (λ f is_open. inl (came_from p zs e (sends m) f tt is_open)) (λ f is_open h. inr (omega (arith, h, le f)))
      (λ f g c. inl (on_its_way g (coming_stays p zs e (sends m) f g tt c)))

  pub delegate_finds : (e y : EndId) → IsUncarried zs y → AllPairs zs → ((f : EndId) → is_end f y ≡ false → k f ≤ l f) → AllFound (world_after p ((y, delegates) ∷ (e, sends (session_message y p)) ∷ []) w) l
  delegate_finds e y none pairs le =
      found_by p w k l ((y, delegates) ∷ (e, sends (session_message y p)) ∷ []) all
      (λ f is_open. inl (came_from p zs y delegates f tt (came_from p (touched p zs (y, delegates)) e (sends (session_message y p)) f tt is_open))) (λ f is_open h. goes f (is_end f y) refl h)
      (λ f g c. inl (on_its_way g (coming_stays p (touched p zs (y, delegates)) e (sends (session_message y p)) f g tt (coming_stays p zs y delegates f g tt c))))
    where
      handed : AllPairs (touched p zs (y, delegates))
      handed = pairs_after p zs y delegates none pairs (λ pair. pair_hands (touched p zs (y, delegates)) (end_at zs y) (end_at zs (other_end y)) p pair)

      goes : (f : EndId) (b : Bool) → is_end f y ≡ b → 1 ≤ k f → IsFound (world_after p ((y, delegates) ∷ (e, sends (session_message y p)) ∷ []) w) l f
      goes f true same h =
          inl (on_its_way (other_end e)
          (sent_comes p (touched p zs (y, delegates)) e f (session_message y p) (pair_of (touched p zs (y, delegates)) (touched p zs (y, delegates)) e handed).other_taken same))
      goes f false other h = inr (omega (arith, h, le f other))

  -- a message that names no end is taken
  pub value_finds : (e : EndId) (x : Passed) → next_for zs e ≡ Some x → ((f : EndId) → names_end f x.msg ≡ false) → ((f : EndId) → k f ≤ l f) → AllFound (world_after p ((e, takes x.msg) ∷ []) w) l
  value_finds e x next none le =
      found_by p w k l ((e, takes x.msg) ∷ []) all (λ f is_open. inl (came_from p zs e (takes x.msg) f tt is_open)) (λ f is_open h. inr (omega (arith, h, le f)))
      (λ f g c. after f g (coming_after_take p zs e x f g next c))
    where
      after : (f g : EndId) → AfterTake p zs e x f g → IsFound (world_after p ((e, takes x.msg) ∷ []) w) l f
      after f g (still c) = inl (on_its_way g c)
      after f g (taken names) = absurd (both_ways (names_end f x.msg) (none f) names)

  -- an end is taken
  pub end_finds : (e : EndId) (x : Passed) → next_for zs e ≡ Some x → (s d j : ℕ) (kind : Place) → x.msg ≡ msgs.Sess s d j → ((f : EndId) → k f + one_if (is_end f (side s d)) ≤ l f)
      → AllFound (world_after p ((e, takes x.msg) ∷ (side s d, begins kind) ∷ []) w) l
  end_finds e x next s d j kind is le =
      found_by p w k l ((e, takes x.msg) ∷ (side s d, begins kind) ∷ []) all (λ f is_open. before f (is_end f (side s d)) refl is_open)
      (λ f is_open h. inr (omega (arith, h, le f))) (λ f g c. after f g (coming_after_take p zs e x f g next c))
    where
      now : (f : EndId) → is_end f (side s d) ≡ true → 1 ≤ l f
      now f same = omega (arith, le f, ap {B = ℕ} one_if same)

      before : (f : EndId) (b : Bool) → is_end f (side s d) ≡ b → IsOpen (touched p (touched p zs (e, takes x.msg)) (side s d, begins kind)) f → IsOpen zs f ⊎ (1 ≤ l f)
      before f true same is_open = inr (now f same)
      before f false other is_open =
          inl (came_from p zs e (takes x.msg) f tt (came_from_other p (touched p zs (e, takes x.msg)) (side s d) (begins kind) f (is_end_sym_false f (side s d) other) is_open))

      after : (f g : EndId) → AfterTake p zs e x f g → IsFound (world_after p ((e, takes x.msg) ∷ (side s d, begins kind) ∷ []) w) l f
      after f g (still c) = inl (on_its_way g (coming_stays p (touched p zs (e, takes x.msg)) (side s d) (begins kind) f g tt c))
      after f g (taken names) = inr (now f (sym (ap (names_end f) is) ∙ names))

  -- an end of which nothing is ahead is closed
  pub close_finds : (e : EndId) → (end_at zs e).place ≡ done → ((f : EndId) → is_end f e ≡ false → k f ≤ l f) → AllFound (world_after p [] w) l
  close_finds e over le = found_by p w k l [] all (λ f is_open. inl is_open) (λ f is_open h. inr (kept f is_open h (is_end f e) refl)) (λ f g c. inl (on_its_way g c))
    where
      kept : (f : EndId) → IsOpen zs f → 1 ≤ k f → (b : Bool) → is_end f e ≡ b → 1 ≤ l f
      kept f is_open h true same = absurd (is_open (ap (λ (x : EndAt). x.place) (same_end_at zs f e same) ∙ over))
      kept f is_open h false other = omega (arith, h, le f other)
