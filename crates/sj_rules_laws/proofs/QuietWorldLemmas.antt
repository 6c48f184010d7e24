-- A kept core world with nothing in its lanes, in which no party can act, stands for a settled
-- plain world.
use Rattle.std.proofs.Common.{◌≡◌, ℕ, ◌<◌, Bool, true, cond, List, [], Option, Some, None, option_map, refl, ap, sym, ◌∙◌, subst}
use Rattle.std.specs.Prelude.{is_none}
use Rattle.std.proofs.lemmas.Bool.{eq-eqb, false_from_ne_true, both_ways}
use Rattle.sj_base.specs.declared.EndId.{EndId}
use Rattle.sj_base.specs.declared.Msg.{Msg}
use Rattle.sj_base.specs.declared.Msg.TheVariants as msgs
use Rattle.sj_lang.specs.Place.{Place, done}
use Rattle.sj_lang.specs.FileAt.{FileAt}
use Rattle.sj_acceptance.specs.Accepted.{IsAccepted}
use Rattle.sj_semantics.specs.Program.{Program}
use Rattle.sj_semantics.specs.State.{IsSettled}
use Rattle.sj_semantics.specs.Run.{IsRun}
use Rattle.sj_semantics.specs.World.{World, act_of}
use Rattle.sj_rules.specs.Record.{EndAt, BodyAt, HeldAt, MainAt, Held, other_end, offered_end}
use Rattle.sj_rules.specs.Node.{is_free}
use Rattle.sj_rules.specs.World.{WorldAt}
use Rattle.sj_rules.specs.Seat.{Seat, held, parked, claimed, signalled, given, closed, gone, Side, source_for}
use Rattle.sj_rules.specs.Shown.{Shows, main_shown, bodies}
use Rattle.sj_rules.specs.Opened.{opener_of, opens, opened_in}
use Rattle.sj_rules.specs.Reading.{is_opening, reading, without_opens, IsOpenKept}
use Rattle.sj_opened_lemmas.proofs.DeliverKeepLemmas.{read_none}
use Rattle.std.specs.Prelude.{false, Contains, ◌++◌}
use Rattle.std.proofs.Common.{append-nil}
use Rattle.sj_rules.specs.PlainSide.{PlainSide, PlainAt}
use Rattle.sj_rules.specs.Numbers.{turned, NumbersFit}
use Rattle.sj_rules.specs.Coming.{Comes, AreOld}
use Rattle.sj_rules.specs.Linked.{waiting_at, user_of, IsParkedAt, IsKept, end_named}
use Rattle.sj_rules.specs.Party.{IsDone, play_of, binds}
use Rattle.sj_rules.specs.Plain.{plain_at}
use Rattle.sj_rules.specs.Moves.{plain_act}
use Rattle.sj_rules.specs.HeldStands.{IsWholeAt}
use Rattle.sj_rules.specs.History.{IsQuiescent}
use Rattle.sj_rules_laws.proofs.SideLemmas.{other_side_below}
use Rattle.sj_world_lemmas.proofs.SwapLemmas.{other_other}
use Rattle.sj_rules_laws.proofs.KeptLemmas.{kept_stands}
use Rattle.sj_rules_laws.proofs.QuietLemmas.{nothing_live, nothing_old, no_claim, no_give, IsStill}
use Rattle.sj_rules_laws.proofs.QuietSeatLemmas.{IsLeft, none_signalled, whole_held}
use Rattle.sj_rules_laws.proofs.QuietActLemmas.{no_core_act_no_plain_act}
use Rattle.sj_rules_laws.proofs.LawfulLemmas.{run_is_lawful, run_acts_are_seen}
use Rattle.sj_world_lemmas.proofs.OutcomeLemmas.{sound_at}

module _ {P Q : Type 0} (IsOver : P → Type 0) (binds : Q → EndId → Bool) (w : WorldAt P Q) (plain : PlainAt P Q) (kept : IsKept IsOver binds w plain) where
  pub shows_other : (e : EndId) → e.side < 2 → Shows w (kept.sessions.sides e).seat (kept.sessions.sides (other_end e))
  shows_other e lt =
      subst (λ (d : EndId). Shows w (kept.sessions.sides d).seat (kept.sessions.sides (other_end e))) (other_other e lt) (kept.sessions.shows (other_end e) (other_side_below e))

  pub main_at : (p : ℕ) (e : EndId) → e.side < 2 → (seat : Seat P) → (kept.sessions.sides e).seat ≡ seat
      → (w.nodes p).main e ≡ main_shown (source_for (kept.sessions.sides (other_end e)).seat seat) (kept.sessions.sides e).place seat p
  main_at p e lt seat is =
      ap (w.nodes p).main (sym (kept.sessions.ids e)) ∙ (kept.sessions.shows e lt).mains p
      ∙ ap (λ (s : Seat P). main_shown (source_for (kept.sessions.sides (other_end e)).seat s) (kept.sessions.sides e).place s p) is

  -- an end that is Parked and untaken has no main record
  parked_is_free : (p keeper : ℕ) (e : EndId) → e.side < 2 → (seat : Seat P) → (kept.sessions.sides e).seat ≡ seat → IsParkedAt keeper seat → (w.nodes p).main e ≡ None
  parked_is_free p keeper e lt (parked at k) is parks = main_at p e lt (parked at k) is
  parked_is_free p keeper e lt (held at h) is parks = absurd parks
  parked_is_free p keeper e lt (claimed at to k) is parks = absurd parks
  parked_is_free p keeper e lt (signalled at to k ds) is parks = absurd parks
  parked_is_free p keeper e lt (given at to k resend ds) is parks = absurd parks
  parked_is_free p keeper e lt (closed at k) is parks = absurd parks
  parked_is_free p keeper e lt gone is parks = absurd parks

  pub free_by : (p : ℕ) (e : EndId) → e.side < 2 → (m : Msg) → waiting_at plain e 0 ≡ Some m → is_free (w.nodes p) m ≡ true
  free_by p e lt (msgs.Sess sess side keeper) h =
      let t = kept.linked.parks e 0 sess side keeper lt h in
      ap is_none (parked_is_free p keeper (end_named sess side) t.0 (kept.sessions.sides (end_named sess side)).seat refl t.1)
  free_by p e lt (msgs.Int n) h = refl
  free_by p e lt (msgs.Bool b) h = refl
  free_by p e lt (msgs.Text n) h = refl
  free_by p e lt (msgs.Label n) h = refl
  free_by p e lt (msgs.More b) h = refl

  module _ (empty : (from to : ℕ) → w.lanes from to ≡ []) where
    -- no Claim and no Give is in a lane
    still_by : (other seat : Seat P) (r : Side P) → r.seat ≡ seat → Shows w other r → IsStill seat
    still_by other (held at h) r is shows = tt
    still_by other (parked at e) r is shows = tt
    still_by other (claimed at to e) r is shows = no_claim w empty other r at to e is shows
    still_by other (signalled at to e deferred) r is shows = tt
    still_by other (given at to e resend deferred) r is shows = no_give w empty other r at to e resend deferred is shows
    still_by other (closed at e) r is shows = tt
    still_by other gone r is shows = tt

    still : (e : EndId) → e.side < 2 → IsStill (kept.sessions.sides e).seat
    still e lt = still_by (kept.sessions.sides (other_end e)).seat (kept.sessions.sides e).seat (kept.sessions.sides e) refl (kept.sessions.shows e lt)

    not_signalled : (e : EndId) → e.side < 2 → (at to : ℕ) (k : EndAt P) (ds : List (BodyAt P)) → (kept.sessions.sides e).seat ≡ signalled at to k ds → ⊥
    not_signalled e lt at to k ds is =
        let t = sound_at IsOver w plain.sides kept.sessions e lt in
        let s : Side P = kept.sessions.sides (other_end e) in
        let r : Side P = kept.sessions.sides e in
        let x : PlainSide P = plain.sides (other_end e) in
        let y : PlainSide P = plain.sides e in
        none_signalled s.id r.id x y t.0 s.seat at to k ds r.old s.live s.old
        (still (other_end e) (other_side_below e))
        (subst (NumbersFit t.0 s.seat) is t.1.numbers)
        (subst (λ (seat : Seat P). AreOld t.0 r.id x s.seat seat r.old) is t.1.there.old)
        (nothing_old w empty s.seat r at to k ds is (kept.sessions.shows e lt))
        (subst (λ (seat : Seat P). Comes (turned t.0) s.id y x seat s.seat s.live) is t.1.back.comes)
        (nothing_live w empty r.seat s (shows_other e lt))
        (subst (λ (seat : Seat P). AreOld (turned t.0) s.id y seat s.seat s.old) is t.1.back.old)
        (λ a b d dd there. nothing_old w empty r.seat s a b d dd there (shows_other e lt))

    left_by : (e : EndId) (seat : Seat P) → IsStill seat → ((at to : ℕ) (k : EndAt P) (ds : List (BodyAt P)) → seat ≡ signalled at to k ds → ⊥) → IsLeft seat
    left_by e (held at h) st none = tt
    left_by e (parked at k) st none = tt
    left_by e (claimed at to k) st none = st
    left_by e (signalled at to k ds) st none = none at to k ds refl
    left_by e (given at to k resend ds) st none = st
    left_by e (closed at k) st none = tt
    left_by e gone st none = tt

    -- each end is Held, Parked, Closed or gone
    pub is_left : (e : EndId) → e.side < 2 → IsLeft (kept.sessions.sides e).seat
    is_left e lt = left_by e (kept.sessions.sides e).seat (still e lt) (not_signalled e lt)

    -- an end that a party uses is Held there
    used_is_held : (p : ℕ) (seat : Seat P) → IsLeft seat → user_of seat ≡ Some p → (h : HeldAt P) × (seat ≡ held p h)
    used_is_held p (held at h) left uses = let it : at ≡ p = cc in (h, ap (λ (q : ℕ). held q h) it)
    used_is_held p (parked at k) left uses = cc
    used_is_held p (claimed at to k) left uses = absurd left
    used_is_held p (signalled at to k ds) left uses = absurd left
    used_is_held p (given at to k resend ds) left uses = absurd left
    used_is_held p (closed at k) left uses = cc
    used_is_held p gone left uses = cc

    -- an end that a party binds is Held there with all that waits for it
    pub bound_is_whole : (p : ℕ) (e : EndId) → e.side < 2 → (plain.sides e).offered ≡ false → binds (plain.programs p) e ≡ true → IsWholeAt plain (w.nodes p) e
    bound_is_whole p e lt o b =
        let u = used_is_held p (kept.sessions.sides e).seat (is_left e lt) ((kept.bound p e lt o).0 b) in
        let h : HeldAt P = u.0 in
        let there : (w.nodes p).main e ≡ Some (Held h) = main_at p e lt (held p h) u.1 ∙ ap (λ (t : Bool). cond t (Some (Held h)) None) (eq-eqb p p refl) in
        let stands = kept_stands IsOver binds w plain kept p e h lt o there in
        let t = sound_at IsOver w plain.sides kept.sessions e lt in
        let s : Side P = kept.sessions.sides (other_end e) in
        let r : Side P = kept.sessions.sides e in
        record {
          record_of = h;
          there = there;
          place = stands.place;
          hops = stands.hops;
          waits = whole_held s.id r.id (plain.sides (other_end e)) (plain.sides e) t.0 s.seat p h r.live
              (is_left (other_end e) (other_side_below e))
              (subst (NumbersFit t.0 s.seat) u.1 t.1.numbers)
              (subst (λ (seat : Seat P). Comes t.0 r.id (plain.sides (other_end e)) (plain.sides e) s.seat seat r.live) u.1 t.1.there.comes)
              (nothing_live w empty s.seat r (kept.sessions.shows e lt));
          free = free_by p e lt;
        }

-- ---- with Opens, where the lanes are empty

module _ {P Q : Type 0} (IsOver : P → Type 0) (binds : Q → EndId → Bool) (blank : P) (w : WorldAt P Q) (plain : PlainAt P Q) (kept : IsOpenKept IsOver binds blank w plain) where
  -- what is free in the reading is free
  pub open_free_by : (p : ℕ) (e : EndId) → e.side < 2 → (m : Msg) → waiting_at plain e 0 ≡ Some m → is_free (w.nodes p) m ≡ true
  open_free_by p e lt m h = by m (free_by IsOver binds (reading blank w) plain kept.kept p e lt m h)
    where
      none_is : (o : Option (MainAt P)) → is_none o ≡ true → o ≡ None
      none_is None h = refl
      none_is (Some r) h = absurd (cc h)

      by : (m : Msg) → is_free ((reading blank w).nodes p) m ≡ true → is_free (w.nodes p) m ≡ true
      by (msgs.Sess sess side keeper) f =
          ap is_none (read_none blank (is_opening w p (end_named sess side)) (end_named sess side) ((w.nodes p).main (end_named sess side)) (none_is (((reading blank w).nodes p).main (end_named sess side)) f)).1
      by (msgs.Int n) f = refl
      by (msgs.Bool b) f = refl
      by (msgs.Text n) f = refl
      by (msgs.Label n) f = refl
      by (msgs.More b) f = refl

  module _ (empty : (from to : ℕ) → w.lanes from to ≡ []) where
    -- no end is in an Open, so the reading has the same records
    pub no_opening : (p : ℕ) (e : EndId) → is_opening w p e ≡ false
    no_opening p e = ap (λ l. opens e (bodies l)) (empty (opener_of e.sess) p)

    pub same_main : (p : ℕ) (e : EndId) → ((reading blank w).nodes p).main e ≡ (w.nodes p).main e
    same_main p e = rw (no_opening p e) refl

    pub read_empty : (from to : ℕ) → (reading blank w).lanes from to ≡ []
    read_empty from to = ap without_opens (empty from to)

    pub same_offers : (from p : ℕ) → (w.nodes p).offers from ≡ plain.offers from p
    same_offers from p = sym (append-nil ((w.nodes p).offers from)) ∙ ap (λ l. (w.nodes p).offers from ++ opened_in (bodies l)) (sym (empty from p)) ∙ kept.offers from p

    pub open_bound_is_whole : (p : ℕ) (e : EndId) → e.side < 2 → (plain.sides e).offered ≡ false → binds (plain.programs p) e ≡ true → IsWholeAt plain (w.nodes p) e
    open_bound_is_whole p e lt o b =
        let u = bound_is_whole IsOver binds (reading blank w) plain kept.kept read_empty p e lt o b in
        record { record_of = u.record_of; there = sym (same_main p e) ∙ u.there; place = u.place; hops = u.hops; waits = u.waits; free = open_free_by p e lt }

    pub held_offer : (p from sess : ℕ) → Contains (plain.offers from p) sess → (h : HeldAt P) × ((w.nodes p).main (offered_end sess) ≡ Some (Held h))
    held_offer p from sess c = let h = kept.held from p sess c in (h.0, sym (same_main p (offered_end sess)) ∙ h.1)

-- ---- of a file

no_some : (o : Option World) → ◌≡◌ {A = Option (PlainAt Place Program)} (option_map plain_at o) None → o ≡ None
no_some None h = refl
no_some (Some v) h = cc

pub quiet_is_settled : (file : FileAt) (ps : List ℕ) (w : World) (core : WorldAt Place Program) → IsAccepted file → IsRun file ps w → IsOpenKept IsDone binds done core (plain_at w)
    → IsQuiescent (play_of file) core → IsSettled w
quiet_is_settled file ps w core accepted run kept quiet p =
    let lawful = run_is_lawful file ps w accepted run in
    let none : plain_act (play_of file) (plain_at w) p ≡ None =
    no_core_act_no_plain_act IsDone (play_of file) binds (plain_at w) p (core.nodes p) (kept.kept.programs p)
    (λ e b. open_bound_is_whole IsDone binds done core (plain_at w) kept quiet.empty p e (lawful.proper p e b).0 (false_from_ne_true ((plain_at w).sides e).offered (λ o. both_ways (binds ((plain_at w).programs p) e) (lawful.unbound p e o) b)) b)
    (kept.requests p) (λ from. same_offers IsDone binds done core (plain_at w) kept quiet.empty from p) (λ from. kept.rising from p)
    (λ from sess c. held_offer IsDone binds done core (plain_at w) kept quiet.empty p from sess c)
    (lawful.steps p) (quiet.still p) in
    no_some (act_of w p) (sym (run_acts_are_seen file ps w p accepted run) ∙ none)
