-- A party accepts the first session that is offered: the world stays kept, with the plain accept.
use Rattle.std.proofs.Common.{◌≡◌, ℕ, ◌+◌, ◌<◌, ◌≤◌, List, [], ◌∷◌, ◌++◌, refl, sym, ap, subst, ◌∙◌, arith}
use Rattle.std.specs.Prelude.{Bool, true, false, ◌==◌, ◌&&◌, ◌↔◌, if◌then◌else◌, filter, drop, Contains, Some, None, option_map}
use Rattle.std.proofs.lemmas.Bool.{eqb-true, eq-eqb, ne_eqb}
use Rattle.std.proofs.lemmas.List.Elements.{Contains-append_left}
use Rattle.std.specs.List.{AllByRecursion}
use Rattle.sj_base.specs.declared.EndId.{EndId}
use Rattle.sj_rules.specs.Record.{HeldAt, Held, other_end, is_same_end, offered_end}
use Rattle.sj_rules.specs.Opened.{opened_number, opener_of, opened_in, opens, smallest, smallest_from, without}
use Rattle.sj_rules.specs.Acts.{plain_accepted}
use Rattle.sj_rules.specs.Node.{Play, accepts, held_at, quietly, with_offers, with_main, accept_session, accept_offered, act_by, acts}
use Rattle.sj_rules.specs.World.{WorldAt, Act, happens, after_event}
use Rattle.sj_rules.specs.Seat.{Seat, held, Side, side_of}
use Rattle.sj_rules.specs.Shown.{Shows, bodies, goes_to, is_claim, is_give, is_lane}
use Rattle.sj_rules.specs.PlainSide.{PlainAt}
use Rattle.sj_rules.specs.PlainSteps.{PlainAccept}
use Rattle.sj_rules.specs.Linked.{IsKept, subject_of, user_of}
use Rattle.sj_rules.specs.Reading.{is_opening, reading, OpensLead, AreRising, IsOpenKept, IsUnopened}
use Rattle.sj_world_lemmas.proofs.EventLemmas.{same_end, other_not, apart_from}
use Rattle.sj_world_lemmas.proofs.QuietLemmas.{same_source}
use Rattle.sj_world_lemmas.proofs.OutcomeLemmas.{Outcome, Goes, goes_on}
use Rattle.sj_world_lemmas.proofs.KeptLemmas.{by_session}
use Rattle.sj_world_lemmas.proofs.LinkLemmas.{KeepAlike, links_stay}
use Rattle.sj_world_lemmas.proofs.SeenLemmas.{Here, here_held}
use Rattle.sj_opened_lemmas.proofs.NodeReadLemmas.{same_is}
use Rattle.sj_opened_lemmas.proofs.OpenReadLemmas.{world_accepted, accepted_lane, accepted_lanes, accepted_mains, accepted_offers}
use Rattle.sj_opened_lemmas.proofs.OpenKeepLemmas.{contains_first, opener_is}
use Rattle.sj_opened_lemmas.proofs.OfferLemmas.{contains_later, offered_came}
use Rattle.sj_opened_lemmas.proofs.PlacedLemmas.{placed_sound}

-- a smaller number than all is smaller than the smallest
below_smallest : (n m : ℕ) (ms : List ℕ) → ((k : ℕ) → Contains (m ∷ ms) k → n < k) → n < smallest_from m ms
below_smallest n m [] all = all m (contains_first m [])
below_smallest n m (k ∷ ks) all =
    let a : n < m = all m (contains_first m (k ∷ ks)) in
    let b : n < smallest_from k ks = below_smallest n k ks (λ l c. all l (contains_later m (k ∷ ks) l c)) in
    omega (arith, a, b)

-- the smallest is the first where all others are above it
pub first_smallest : (n : ℕ) (ns : List ℕ) → ((k : ℕ) → Contains ns k → n < k) → smallest_from n ns ≡ n
first_smallest n [] all = refl
first_smallest n (m ∷ ms) all = let b : n < smallest_from m ms = below_smallest n m ms all in omega (arith, b)

-- and taking it away leaves the others
keep_others : (n : ℕ) (ns : List ℕ) → ((k : ℕ) → Contains ns k → n < k) → without n ns ≡ ns
keep_others n [] all = refl
keep_others n (m ∷ ms) all =
    let above : n < m = all m (contains_first m ms) in
    let apart : (m == n) ≡ false = ne_eqb m n (λ e. omega (arith, above, e)) in
    rw apart (ap (λ l. m ∷ l) (keep_others n ms (λ k c. all k (contains_later m ms k c))))

without_first : (n : ℕ) (ns : List ℕ) → ((k : ℕ) → Contains ns k → n < k) → without n (n ∷ ns) ≡ ns
without_first n ns all = rw (eq-eqb n n refl) (keep_others n ns all)

module _ {P Q : Type 0} (IsOver : P → Type 0) (binds : Q → EndId → Bool) (play : Play P Q) (w : WorldAt P Q) (plain plain' : PlainAt P Q) (kept : IsOpenKept IsOver binds play.blank w plain)
    (p : ℕ) (fresh : play.is_worn (plain.programs p) ≡ false) (place : P) (from sess : ℕ) (later : List ℕ) (wants : play.wants (plain.programs p) ≡ accepts place from)
    (facts : PlainAccept IsOver binds play plain plain' p place from sess later) (others : List ℕ) (there : (w.nodes p).offers from ≡ sess ∷ others) where
  abbrev id : EndId
  id = offered_end sess

  -- all later ones are above
  above : (k : ℕ) → Contains later k → sess < k
  above = (subst AreRising facts.first (kept.rising from p)).0

  rest_is : others ++ opened_in (bodies (w.lanes from p)) ≡ later
  rest_is = let e : (sess ∷ others) ++ opened_in (bodies (w.lanes from p)) ≡ sess ∷ later = ap (λ l. l ++ opened_in (bodies (w.lanes from p))) (sym there) ∙ kept.offers from p ∙ facts.first in cc e

  above_others : (k : ℕ) → Contains others k → sess < k
  above_others k c = above k (subst (λ l. Contains l k) rest_is (Contains-append_left others (opened_in (bodies (w.lanes from p))) k c))

  offered_here : Contains (plain.offers from p) sess
  offered_here = subst (λ l. Contains l sess) (sym facts.first) (contains_first sess later)

  opener : opener_of sess ≡ from
  opener = opener_is from sess (kept.openers from p sess offered_here)

  -- its Open has come
  came : is_opening w p id ≡ false
  came = offered_came IsOver binds play.blank w plain kept from p sess (subst (λ l. Contains l sess) (sym there) (contains_first sess others))

  abbrev h : HeldAt P
  h = (kept.held from p sess offered_here).0

  main : (w.nodes p).main id ≡ Some (Held h)
  main = sym (rw came refl) ∙ (kept.held from p sess offered_here).1

  abbrev v : WorldAt P Q
  v = world_accepted play.blank w p ((w.nodes p).clock + 1) place from sess (play.opened (w.nodes p).program id) h came

  -- records of all other ends are as they were
  else_mains : (k : ℕ) (e : EndId) → is_same_end e id ≡ false → ((reading play.blank v).nodes k).main e ≡ ((reading play.blank w).nodes k).main e
  else_mains k e i = accepted_mains play.blank w p ((w.nodes p).clock + 1) place from sess (play.opened (w.nodes p).program id) h came k e ∙ by (k == p)
    where
      by : (b : Bool) → (if b && is_same_end e id then Some (Held (held_at place h)) else ((reading play.blank w).nodes k).main e) ≡ ((reading play.blank w).nodes k).main e
      by true = rw i refl
      by false = refl

  all_olds : (k : ℕ) (e : EndId) → (v.nodes k).old e ≡ (w.nodes k).old e
  all_olds k e = by (k == p) refl
    where
      by : (b : Bool) → (k == p) ≡ b → (if b then record (with_offers from (without sess ((w.nodes p).offers from)) (with_main id (Some (Held (held_at place h))) (record (w.nodes p) { program = play.opened (w.nodes p).program id }))) { clock = (w.nodes p).clock + 1 } else w.nodes k).old e ≡ (w.nodes k).old e
      by true i = let at : k ≡ p = eqb-true k p i in rw at refl
      by false i = refl

  all_lanes : (x y : ℕ) → (reading play.blank v).lanes x y ≡ (reading play.blank w).lanes x y
  all_lanes x y = accepted_lanes play.blank w p ((w.nodes p).clock + 1) place from sess (play.opened (w.nodes p).program id) h came x y

  same_lane : (x y : ℕ) → v.lanes x y ≡ w.lanes x y
  same_lane x y = accepted_lane play.blank w p ((w.nodes p).clock + 1) place from sess (play.opened (w.nodes p).program id) h came x y

  -- another end is shown as before
  else_shows : (o : Seat P) (d : Side P) → is_same_end d.id id ≡ false → Shows (reading play.blank w) o d → Shows (reading play.blank v) o d
  else_shows o d i s = record {
    mains = λ k. else_mains k d.id i ∙ s.mains k;
    olds = λ k. all_olds k d.id ∙ s.olds k;
    frames = λ x y c. ap (λ l. filter (goes_to d.id c) (bodies l)) (all_lanes x y) ∙ s.frames x y c;
    claims = λ x y. ap (λ l. filter (is_claim d.id) (bodies l)) (all_lanes x y) ∙ s.claims x y;
    gives = λ x y. ap (λ l. filter (is_give d.id) (bodies l)) (all_lanes x y) ∙ s.gives x y;
  }

  abbrev s : Side P
  s = kept.kept.sessions.sides (other_end id)

  abbrev r : Side P
  r = kept.kept.sessions.sides id

  here : Here IsOver (reading play.blank w) (plain.sides (other_end id)) (plain.sides id) s r id (held p h)
  here = here_held IsOver (reading play.blank w) plain.sides kept.kept.sessions id (omega arith) p h (kept.held from p sess offered_here).1

  abbrev r1 : Side P
  r1 = side_of id place (held p (held_at place h)) r.old r.live

  -- the end is shown at its place
  here_shows : Shows (reading play.blank v) s.seat r1
  here_shows = record {
    mains = λ k. accepted_mains play.blank w p ((w.nodes p).clock + 1) place from sess (play.opened (w.nodes p).program id) h came k id ∙ by k (k == p) refl;
    olds = λ k. all_olds k id ∙ here.shows.olds k;
    frames = λ x y c. ap (λ l. filter (goes_to id c) (bodies l)) (all_lanes x y) ∙ here.shows.frames x y c
        ∙ ap (λ z. if is_lane x y z p && (c == h.end.conn) then r.live else []) (same_source s.seat (held p h) (held p (held_at place h)) refl);
    claims = λ x y. ap (λ l. filter (is_claim id) (bodies l)) (all_lanes x y) ∙ here.shows.claims x y;
    gives = λ x y. ap (λ l. filter (is_give id) (bodies l)) (all_lanes x y) ∙ here.shows.gives x y;
  }
    where
      by : (k : ℕ) (b : Bool) → (k == p) ≡ b → (if b && is_same_end id id then Some (Held (held_at place h)) else ((reading play.blank w).nodes k).main id) ≡ (if b then Some (Held (held_at place h)) else None)
      by k true i = rw (same_end id) refl
      by k false i = here.shows.mains k ∙ rw i refl

  other_apart : is_same_end s.id id ≡ false
  other_apart = rw (kept.kept.sessions.ids (other_end id)) (other_not id (omega arith))

  outcome : Outcome IsOver (reading play.blank w) (reading play.blank v) id here.pace (plain.sides (other_end id)) (plain_accepted (plain.sides id) place) s r1
  outcome = record {
    name = refl;
    other = kept.kept.sessions.ids (other_end id);
    shows = here_shows;
    shown = else_shows (held p (held_at place h)) s other_apart (record { mains = here.shown.mains; olds = here.shown.olds; frames = here.shown.frames; claims = here.shown.claims; gives = here.shown.gives });
    sound = placed_sound IsOver (plain.sides (other_end id)) (plain.sides id) s.id id p h place here.pace s.place r.place s.seat s.old s.live r.old r.live here.sound;
    apart = λ o d i z. else_shows o d (apart_from d.id id i) z;
    proper = λ proper x y. subst (λ l. AllByRecursion (λ b. (subject_of b).side < 2) (bodies l)) (sym (all_lanes x y)) (proper x y);
  }

  goes : Goes IsOver (reading play.blank w) (reading play.blank v) plain.sides plain'.sides kept.kept.sessions id s r1
  goes = goes_on IsOver (reading play.blank w) (reading play.blank v) plain.sides plain'.sides kept.kept.sessions id here.pace s r1 (omega arith)
      (subst (λ a. Outcome IsOver (reading play.blank w) (reading play.blank v) id here.pace a (plain'.sides id) s r1) (sym (facts.sides (other_end id) (other_not id (omega arith))))
      (subst (λ a. Outcome IsOver (reading play.blank w) (reading play.blank v) id here.pace (plain.sides (other_end id)) a s r1) (sym facts.side) outcome))
      (λ e i. facts.sides e (apart_from e id i))

  -- what was sent and taken is the same
  same_sent : (e : EndId) → (plain'.sides e).sent ≡ (plain.sides e).sent
  same_sent e = by (is_same_end e id) refl
    where
      by : (b : Bool) → is_same_end e id ≡ b → (plain'.sides e).sent ≡ (plain.sides e).sent
      by true i = let o : e ≡ id = same_is e id i in rw o (ap (λ z. z.sent) facts.side)
      by false i = ap (λ z. z.sent) (facts.sides e i)

  same_taken : (e : EndId) → (plain'.sides e).taken ≡ (plain.sides e).taken
  same_taken e = by (is_same_end e id) refl
    where
      by : (b : Bool) → is_same_end e id ≡ b → (plain'.sides e).taken ≡ (plain.sides e).taken
      by true i = let o : e ≡ id = same_is e id i in rw o (ap (λ z. z.taken) facts.side)
      by false i = ap (λ z. z.taken) (facts.sides e i)

  alike : (e : EndId) → e.side < 2 → (user_of (goes.after.sides e).seat ≡ user_of (kept.kept.sessions.sides e).seat) × KeepAlike (kept.kept.sessions.sides e).seat (goes.after.sides e).seat
  alike = by_session (λ e. (user_of (goes.after.sides e).seat ≡ user_of (kept.kept.sessions.sides e).seat) × KeepAlike (kept.kept.sessions.sides e).seat (goes.after.sides e).seat) id (omega arith)
      (rw (goes.here, here.seat_is) (refl, λ keeper. (λ i. i, λ i. i))) (rw goes.there (refl, λ keeper. (λ i. i, λ i. i)))
      (λ e i. rw (goes.away e i) (refl, λ keeper. (λ i. i, λ i. i)))

  -- two parties don't hold one end
  held_once : (k : ℕ) (g : HeldAt P) → ((reading play.blank w).nodes k).main id ≡ Some (Held g) → k ≡ p
  held_once k g i = by (k == p) refl (i', refl)
    where
      i' : Some (Held g) ≡ (if k == p then Some (Held h) else None)
      i' = sym i ∙ here.shows.mains k

      by : (b : Bool) → (k == p) ≡ b → (Some (Held g) ≡ (if k == p then Some (Held h) else None)) × (b ≡ b) → k ≡ p
      by true j z = eqb-true k p j
      by false j z = let e : Some (Held g) ≡ None = z.0 ∙ rw j refl in absurd (cc e)

  -- a session that is still offered is another one
  still : (q k n : ℕ) → Contains (plain'.offers q k) n → Contains (plain.offers q k) n × ((n == sess) ≡ false)
  still q k n c = by ((q == from) && (k == p)) refl
    where
      both : (a b : Bool) → (q == from) ≡ a → (k == p) ≡ b → (a && b) ≡ true → (q ≡ from) × (k ≡ p)
      both true true i j z = (eqb-true q from i, eqb-true k p j)
      both true false i j z = absurd (cc z)
      both false b i j z = absurd (cc z)

      by : (b : Bool) → ((q == from) && (k == p)) ≡ b → Contains (plain.offers q k) n × ((n == sess) ≡ false)
      by true i =
          let at : (q ≡ from) × (k ≡ p) = both (q == from) (k == p) refl refl i in
          let l : Contains later n = subst (λ z. Contains z n) (ap (λ a. plain'.offers a k) at.0 ∙ ap (λ a. plain'.offers from a) at.1 ∙ facts.offers) c in
          (subst (λ z. Contains z n) (sym (ap (λ a. plain.offers a k) at.0 ∙ ap (λ a. plain.offers from a) at.1 ∙ facts.first)) (contains_later sess later n l), ne_eqb n sess (λ e. omega (arith, above n l, e)))
      by false i = let was : Contains (plain.offers q k) n = subst (λ z. Contains z n) (facts.offers_else q k i) c in (was, other was (n == sess) refl)
        where
          other : Contains (plain.offers q k) n → (b : Bool) → (n == sess) ≡ b → (n == sess) ≡ false
          other was false j = j
          other was true j =
              let same : n ≡ sess = eqb-true n sess j in
              let o : q ≡ from = sym (opener_is q n (kept.openers q k n was)) ∙ ap opener_of same ∙ opener in
              let g : (g : HeldAt P) × (((reading play.blank w).nodes k).main (offered_end n) ≡ Some (Held g)) = kept.held q k n was in
              let at : k ≡ p = held_once k g.0 (ap (λ z. ((reading play.blank w).nodes k).main (offered_end z)) (sym same) ∙ g.1) in
              let both : ((q == from) && (k == p)) ≡ true = rw (eq-eqb q from o, eq-eqb k p at) refl in
              absurd (cc (both, i))

  not_it : (n : ℕ) → (n == sess) ≡ false → is_same_end (offered_end n) id ≡ false
  not_it n i = rw i refl

  program_goes : (k : ℕ) → (v.nodes k).program ≡ plain'.programs k
  program_goes k = by (k == p) refl
    where
      by : (b : Bool) → (k == p) ≡ b → (if b then record (with_offers from (without sess ((w.nodes p).offers from)) (with_main id (Some (Held (held_at place h))) (record (w.nodes p) { program = play.opened (w.nodes p).program id }))) { clock = (w.nodes p).clock + 1 } else w.nodes k).program ≡ plain'.programs k
      by true i = let at : k ≡ p = eqb-true k p i in ap (λ z. play.opened z id) (kept.kept.programs p) ∙ sym facts.goes.here ∙ ap plain'.programs (sym at)
      by false i = kept.kept.programs k ∙ sym (facts.goes.away k i)

  same_requests : (k : ℕ) → (v.nodes k).requests ≡ (w.nodes k).requests
  same_requests k = by (k == p) refl
    where
      by : (b : Bool) → (k == p) ≡ b → (if b then record (with_offers from (without sess ((w.nodes p).offers from)) (with_main id (Some (Held (held_at place h))) (record (w.nodes p) { program = play.opened (w.nodes p).program id }))) { clock = (w.nodes p).clock + 1 } else w.nodes k).requests ≡ (w.nodes k).requests
      by true i = let at : k ≡ p = eqb-true k p i in rw at refl
      by false i = refl

  -- what another end is bound to
  binds_is : (k : ℕ) (e : EndId) → e.side < 2 → is_same_end e id ≡ false → binds (plain'.programs k) e ≡ binds (plain.programs k) e
  binds_is k e low apart = by (k == p) refl
    where
      by : (b : Bool) → (k == p) ≡ b → binds (plain'.programs k) e ≡ binds (plain.programs k) e
      by true i = let at : k ≡ p = eqb-true k p i in rw at (facts.goes.binds_else e low apart)
      by false i = ap (λ z. binds z e) (facts.goes.away k i)

  bound_it : (k : ℕ) → (binds (plain'.programs k) id ≡ true) ↔ (user_of (goes.after.sides id).seat ≡ Some k)
  bound_it k = (λ b. user ∙ ap Some (by (k == p) refl b), λ u. let at : p ≡ k = cc (sym user ∙ u) in subst (λ z. binds (plain'.programs z) id ≡ true) at facts.goes.binds_it)
    where
      user : user_of (goes.after.sides id).seat ≡ Some p
      user = ap (λ z. user_of z.seat) goes.here

      by : (b : Bool) → (k == p) ≡ b → binds (plain'.programs k) id ≡ true → p ≡ k
      by true i b = sym (eqb-true k p i)
      by false i b =
          let none : binds (plain.programs k) id ≡ false = kept.unbound k id (omega arith) (kept.offered from p sess offered_here) in
          let was : binds (plain.programs k) id ≡ true = sym (ap (λ z. binds z id) (facts.goes.away k i)) ∙ b in
          absurd (cc (none, was))

  kept_after : IsKept IsOver binds (reading play.blank v) plain'
  kept_after = record {
    sessions = goes.after;
    linked = links_stay plain plain' (λ e. (kept.kept.sessions.sides e).seat) (λ e. (goes.after.sides e).seat) kept.kept.linked
        (λ e low. ap (λ (n : ℕ). drop n (plain'.sides (other_end e)).sent) (same_taken e) ∙ ap (λ l. drop (plain.sides e).taken l) (same_sent (other_end e)))
        (λ e low. (alike e low).1);
    programs = program_goes;
    bound = λ k e low o. by k e low o (is_same_end e id) refl;
  }
    where
      by : (k : ℕ) (e : EndId) → e.side < 2 → (plain'.sides e).offered ≡ false → (b : Bool) → is_same_end e id ≡ b → (binds (plain'.programs k) e ≡ true) ↔ (user_of (goes.after.sides e).seat ≡ Some k)
      by k e low o true i = subst (λ d. (binds (plain'.programs k) d ≡ true) ↔ (user_of (goes.after.sides d).seat ≡ Some k)) (sym (same_is e id i)) (bound_it k)
      by k e low o false i =
          let was : (plain.sides e).offered ≡ false = sym (ap (λ z. z.offered) (facts.sides e i)) ∙ o in (
            λ b. (alike e low).0 ∙ (kept.kept.bound k e low was).0 (sym (binds_is k e low i) ∙ b),
            λ u. binds_is k e low i ∙ (kept.kept.bound k e low was).1 (sym (alike e low).0 ∙ u),
          )

  -- the row
  accepted : acts play p (w.nodes p) ≡ Some (quietly (with_offers from (without sess ((w.nodes p).offers from)) (with_main id (Some (Held (held_at place h))) (record (w.nodes p) { program = play.opened (w.nodes p).program id }))))
  accepted =
      ap (λ g. if play.is_worn g then None else act_by play p (w.nodes p) (play.wants g)) (kept.kept.programs p)
      ∙ ap (λ b. if b then None else act_by play p (w.nodes p) (play.wants (plain.programs p))) fresh
      ∙ ap (act_by play p (w.nodes p)) wants
      ∙ ap (accept_offered play (w.nodes p) place from) (ap smallest there ∙ ap Some (first_smallest sess others above_others))
      ∙ ap (accept_session play (w.nodes p) place from sess) main

  -- the accept fits, and the world stays kept with the plain one
  pub accept_keeps : (pick : ℕ → ℕ → ℕ) → (v : WorldAt P Q) × (happens play pick w p Act ≡ Some v) × IsOpenKept IsOver binds play.blank v plain'
  accept_keeps pick = (
    v,
    ap (option_map (after_event w p ((w.nodes p).clock + 1) w.lanes)) accepted,
    record {
      kept = kept_after;
      requests = λ k. same_requests k ∙ kept.requests k ∙ sym (facts.requests k);
      offers = λ q k. accepted_offers play.blank w p ((w.nodes p).clock + 1) place from sess (play.opened (w.nodes p).program id) h came k q ∙ offers_at q k (k == p) (q == from) refl refl;
      rising = λ q k. rising_at q k ((q == from) && (k == p)) refl;
      openers = λ q k n c. kept.openers q k n (still q k n c).0;
      below = λ q k n c. subst (λ (z : ℕ). n < opened_number q z) (sym (facts.requests q)) (kept.below q k n (still q k n c).0);
      offered = λ q k n c. ap (λ z. z.offered) (facts.sides (offered_end n) (not_it n (still q k n c).1)) ∙ kept.offered q k n (still q k n c).0;
      held = λ q k n c. let g : (g : HeldAt P) × (((reading play.blank w).nodes k).main (offered_end n) ≡ Some (Held g)) = kept.held q k n (still q k n c).0 in (g.0, else_mains k (offered_end n) (not_it n (still q k n c).1) ∙ g.1);
      unbound = λ k e low o. unbound_at k e low o (is_same_end e id) refl;
      lead = λ x y. subst (λ l. OpensLead (bodies l)) (sym (same_lane x y)) (kept.lead x y);
      bare = λ k e i. bare_at k e (sym (ap (λ l. opens e (bodies l)) (same_lane (opener_of e.sess) k)) ∙ i);
      unopened = λ n u k e is low. unopened_at n u k e is low;
    },
  )
    where
      offers_at : (q k : ℕ) (a b : Bool) → (k == p) ≡ a → (q == from) ≡ b → (if a && b then without sess ((w.nodes p).offers from) ++ opened_in (bodies (w.lanes from p)) else ((reading play.blank w).nodes k).offers q) ≡ plain'.offers q k
      offers_at q k true true i j =
          let at : k ≡ p = eqb-true k p i in
          let of : q ≡ from = eqb-true q from j in
          ap (λ l. without sess l ++ opened_in (bodies (w.lanes from p))) there ∙ ap (λ l. l ++ opened_in (bodies (w.lanes from p))) (without_first sess others above_others) ∙ rest_is
          ∙ sym facts.offers ∙ ap (λ a. plain'.offers from a) (sym at) ∙ ap (λ a. plain'.offers a k) (sym of)
      offers_at q k true false i j = kept.offers q k ∙ sym (facts.offers_else q k (rw j refl))
      offers_at q k false b i j = kept.offers q k ∙ sym (facts.offers_else q k (by b j))
        where
          by : (b : Bool) → (q == from) ≡ b → ((q == from) && (k == p)) ≡ false
          by true z = rw (z, i) refl
          by false z = rw z refl

      rising_at : (q k : ℕ) (b : Bool) → ((q == from) && (k == p)) ≡ b → AreRising (plain'.offers q k)
      rising_at q k true i = by (q == from) (k == p) refl refl i
        where
          by : (a b : Bool) → (q == from) ≡ a → (k == p) ≡ b → (a && b) ≡ true → AreRising (plain'.offers q k)
          by true true x y z =
              let e : plain'.offers q k ≡ later = ap (λ a. plain'.offers a k) (eqb-true q from x) ∙ ap (λ a. plain'.offers from a) (eqb-true k p y) ∙ facts.offers in
              subst AreRising (sym e) (subst AreRising facts.first (kept.rising from p)).1
          by true false x y z = absurd (cc z)
          by false b x y z = absurd (cc z)
      rising_at q k false i = subst AreRising (sym (facts.offers_else q k i)) (kept.rising q k)

      unbound_at : (k : ℕ) (e : EndId) → e.side < 2 → (plain'.sides e).offered ≡ true → (b : Bool) → is_same_end e id ≡ b → binds (plain'.programs k) e ≡ false
      unbound_at k e low o true i = let x : (plain'.sides e).offered ≡ false = ap (λ d. (plain'.sides d).offered) (same_is e id i) ∙ ap (λ z. z.offered) facts.side in absurd (cc (x, o))
      unbound_at k e low o false i = binds_is k e low i ∙ kept.unbound k e low (sym (ap (λ z. z.offered) (facts.sides e i)) ∙ o)

      bare_at : (k : ℕ) (e : EndId) → is_opening w k e ≡ true → (v.nodes k).main e ≡ None
      bare_at k e o = by (k == p) (is_same_end e id) refl refl
        where
          by : (a b : Bool) → (k == p) ≡ a → is_same_end e id ≡ b → (if a then record (with_offers from (without sess ((w.nodes p).offers from)) (with_main id (Some (Held (held_at place h))) (record (w.nodes p) { program = play.opened (w.nodes p).program id }))) { clock = (w.nodes p).clock + 1 } else w.nodes k).main e ≡ None
          by true true i j =
              let at : k ≡ p = eqb-true k p i in
              let x : is_opening w p id ≡ true = sym (ap (λ n. is_opening w n e) at ∙ ap (λ d. is_opening w p d) (same_is e id j)) ∙ o in
              absurd (cc (x, came))
          by true false i j = let at : k ≡ p = eqb-true k p i in rw j (sym (ap (λ n. (w.nodes n).main e) at) ∙ kept.bare k e o)
          by false b i j = kept.bare k e o

      unopened_at : (n : ℕ) → IsUnopened plain' n → (k : ℕ) (e : EndId) → e.sess ≡ n → e.side < 2 → (((reading play.blank v).nodes k).main e ≡ None) × ((v.nodes k).old e ≡ None)
      unopened_at n u k e is low = by (is_same_end e id) refl
        where
          was : IsUnopened plain n
          was = (u.0, u.1, subst (λ (z : ℕ). z ≤ u.1) (facts.requests u.0) u.2, u.3, u.4)

          a : (((reading play.blank w).nodes k).main e ≡ None) × ((w.nodes k).old e ≡ None)
          a = kept.unopened n was k e is low

          by : (b : Bool) → is_same_end e id ≡ b → (((reading play.blank v).nodes k).main e ≡ None) × ((v.nodes k).old e ≡ None)
          by true i =
              let o : e ≡ id = same_is e id i in
              let z : ((reading play.blank w).nodes p).main e ≡ None = (kept.unopened n was p e is low).0 in
              let y : ((reading play.blank w).nodes p).main e ≡ Some (Held h) = ap (λ d. ((reading play.blank w).nodes p).main d) o ∙ (kept.held from p sess offered_here).1 in
              absurd (cc (z, y))
          by false i = (else_mains k e i ∙ a.0, all_olds k e ∙ a.1)
