-- A party opens a session: the world stays kept, with the plain request.
use Rattle.std.proofs.Common.{◌≡◌, ℕ, zero, suc, ◌+◌, ◌<◌, ◌≤◌, List, [], ◌∷◌, ◌++◌, refl, sym, ap, subst, ◌∙◌, arith, inl, inr}
use Rattle.std.specs.Prelude.{Bool, true, false, not, ◌⊎◌, ◌==◌, ◌&&◌, ◌||◌, ◌↔◌, nat_lt, nat_le, if◌then◌else◌, filter, get_or, Contains, Some, None, option_map}
use Rattle.std.proofs.lemmas.Bool.{eqb-true, eq-eqb, ne_eqb, le-leb}
use Rattle.std.proofs.lemmas.List.Elements.{Contains-append_cases, Contains-push_cases}
use Rattle.std.specs.List.{AllByRecursion}
use Rattle.sj_base.specs.declared.EndId.{EndId}
use Rattle.sj_rules.specs.Limits.{limit_of_requests, first_opened}
use Rattle.sj_rules.specs.Record.{BodyAt, Carry, Fin, Claim, Signal, Ack, Give, Open, HeldAt, Held, other_end, is_same_end, offered_end, requested_end}
use Rattle.sj_rules.specs.Opened.{opened_number, opener_of, is_opened_by, new_held, is_open, is_open_of, opens}
use Rattle.sj_rules.specs.Acts.{plain_opened}
use Rattle.sj_rules.specs.Frames.{FrameAt}
use Rattle.sj_rules.specs.Node.{Play, requests, open_session, act_by, acts}
use Rattle.sj_rules.specs.World.{WorldAt, Act, happens, after_event}
use Rattle.sj_rules.specs.Seat.{Seat, held, parked, claimed, signalled, given, closed, gone, Side, side_of, source_for}
use Rattle.sj_rules.specs.Shown.{Shows, bodies, goes_to, is_claim, is_give, is_lane, main_shown, old_shown}
use Rattle.sj_rules.specs.Numbers.{level}
use Rattle.sj_rules.specs.PlainSide.{PlainAt, untaken_of}
use Rattle.sj_rules.specs.PlainChanges.{waits_of}
use Rattle.sj_rules.specs.PlainSteps.{PlainRequest}
use Rattle.sj_rules.specs.Invariant.{IsSound}
use Rattle.sj_rules.specs.Linked.{IsKept, subject_of, user_of}
use Rattle.sj_rules.specs.Reading.{is_opening, without_opens, reading, OpensLead, AreRising, IsOpenKept, IsUnopened}
use Rattle.sj_world_lemmas.proofs.EventLemmas.{same_end, other_not}
use Rattle.sj_world_lemmas.proofs.DispatchLemmas.{gone_empty}
use Rattle.sj_world_lemmas.proofs.OutcomeLemmas.{Outcome, Goes, goes_on}
use Rattle.sj_world_lemmas.proofs.KeptLemmas.{by_session}
use Rattle.sj_world_lemmas.proofs.LinkLemmas.{KeepAlike, links_stay}
use Rattle.sj_world_lemmas.proofs.SeenLemmas.{Here, here_at}
use Rattle.sj_opened_lemmas.proofs.NodeReadLemmas.{same_is}
use Rattle.sj_opened_lemmas.proofs.LaneReadLemmas.{behind_opens, front_without}
use Rattle.sj_opened_lemmas.proofs.OpenReadLemmas.{world_requested, requested_lane, requested_lanes, requested_mains, requested_offers, opens_last}
use Rattle.sj_opened_lemmas.proofs.OpenKeepLemmas.{contains_first, opener_is}
use Rattle.sj_opened_lemmas.proofs.DeliverKeepLemmas.{read_none}
use Rattle.sj_opened_lemmas.proofs.OfferLemmas.{contains_later}
use Rattle.sj_opened_lemmas.proofs.PlacedLemmas.{opened_sound}

-- the party that opens a session is its opener
pub opener_of_opened : (p k : ℕ) → k < limit_of_requests → opener_of (opened_number p k) ≡ p
opener_of_opened p k few = omega (arith, few)

-- an end of which no party has a record is gone
pub absent_gone : {P : Type 0} → (from : ℕ) (place : P) (seat : Seat P) → ((k : ℕ) → main_shown from place seat k ≡ None) → ((k : ℕ) → old_shown seat k ≡ None) → seat ≡ gone
absent_gone from place (held at h) m o = let e : main_shown from place (held at h) at ≡ None = m at in absurd (cc (rw (eq-eqb at at refl) at e))
absent_gone from place (parked at e) m o = let i : old_shown (parked at e) at ≡ None = o at in absurd (cc (rw (eq-eqb at at refl) at i))
absent_gone from place (claimed at to e) m o = let i : old_shown (claimed at to e) at ≡ None = o at in absurd (cc (rw (eq-eqb at at refl) at i))
absent_gone from place (signalled at to e ds) m o = let i : old_shown (signalled at to e ds) at ≡ None = o at in absurd (cc (rw (eq-eqb at at refl) at i))
absent_gone from place (given at to e resend ds) m o = let i : main_shown from place (given at to e resend ds) to ≡ None = m to in absurd (cc (rw (eq-eqb to to refl) at i))
absent_gone from place (closed at e) m o = let i : main_shown from place (closed at e) at ≡ None = m at in absurd (cc (rw (eq-eqb at at refl) at i))
absent_gone from place gone m o = refl

-- no frame of the list is about the end
abbrev pub NoneAbout : {P : Type 0} → EndId → List (BodyAt P) → Type 0
NoneAbout id bs = ((c : ℕ) → filter (goes_to id c) bs ≡ []) × (filter (is_claim id) bs ≡ []) × (filter (is_give id) bs ≡ [])

-- a list of which nothing passes a test: neither the first nor the rest
none_passes : {A : Type 0} → (test : A → Bool) (x : A) (xs : List A) → filter test (x ∷ xs) ≡ [] → (test x ≡ false) × (filter test xs ≡ [])
none_passes test x xs e = by (test x) refl e
  where
    by : (b : Bool) → test x ≡ b → (if b then x ∷ filter test xs else filter test xs) ≡ [] → (test x ≡ false) × (filter test xs ≡ [])
    by true i j = absurd (cc j)
    by false i j = (i, j)

-- so the first is about another end
first_about : {P : Type 0} → (id : EndId) (b : BodyAt P) → is_open b ≡ false → ((c : ℕ) → goes_to id c b ≡ false) → is_claim id b ≡ false → is_give id b ≡ false → is_same_end (subject_of b) id ≡ false
first_about id (Carry to conn number taken msg) o g c v = by (is_same_end to id) (g conn)
  where
    by : (k : Bool) → (k && (conn == conn)) ≡ false → k ≡ false
    by true e = let z : (conn == conn) ≡ true = eq-eqb conn conn refl in absurd (cc (z, e))
    by false e = refl
first_about id (Fin to conn number) o g c v = by (is_same_end to id) (g conn)
  where
    by : (k : Bool) → (k && (conn == conn)) ≡ false → k ≡ false
    by true e = let z : (conn == conn) ≡ true = eq-eqb conn conn refl in absurd (cc (z, e))
    by false e = refl
first_about id (Signal to conn party taken) o g c v = by (is_same_end to id) (g conn)
  where
    by : (k : Bool) → (k && (conn == conn)) ≡ false → k ≡ false
    by true e = let z : (conn == conn) ≡ true = eq-eqb conn conn refl in absurd (cc (z, e))
    by false e = refl
first_about id (Ack of conn) o g c v = by (is_same_end of id) (g conn)
  where
    by : (k : Bool) → (k && (conn == conn)) ≡ false → k ≡ false
    by true e = let z : (conn == conn) ≡ true = eq-eqb conn conn refl in absurd (cc (z, e))
    by false e = refl
first_about id (Claim of) o g c v = c
first_about id (Give e resend) o g c v = v
first_about id (Open sess) o g c v = absurd (cc o)

-- both are false
both_false : (a b : Bool) → (a || b) ≡ false → (a ≡ false) × (b ≡ false)
both_false true b e = absurd (cc e)
both_false false b e = (refl, e)

-- an Open that is posted after frames that aren't about its end
pub lead_open : {P : Type 0} → (clock sess : ℕ) (fs : List (FrameAt P)) → NoneAbout (offered_end sess) (bodies (without_opens fs)) → opens (offered_end sess) (bodies fs) ≡ false → OpensLead (bodies fs) →
    OpensLead (bodies (fs ++ record { clock = clock; body = Open sess } ∷ []))
lead_open clock sess [] none shut lead = (refl, tt)
lead_open {P} clock sess (f ∷ fs) none shut lead = by (is_open f.body) refl (λ n c. lead_open clock sess fs n c lead.1)
  where
    id : EndId
    id = offered_end sess

    apart_open : (b : BodyAt P) → is_open b ≡ true → is_open_of id b ≡ false → is_same_end (subject_of b) id ≡ false
    apart_open (Open t) o i = turned (is_same_end (offered_end t) id) refl
      where
        turned : (k : Bool) → is_same_end (offered_end t) id ≡ k → is_same_end (offered_end t) id ≡ false
        turned false j = j
        turned true j = let e : offered_end t ≡ id = same_is (offered_end t) id j in let z : is_same_end id (offered_end t) ≡ true = ap (is_same_end id) e ∙ same_end id in absurd (cc (z, i))
    apart_open (Carry to conn number taken msg) o i = absurd (cc o)
    apart_open (Fin to conn number) o i = absurd (cc o)
    apart_open (Claim of) o i = absurd (cc o)
    apart_open (Signal to conn party taken) o i = absurd (cc o)
    apart_open (Ack of conn) o i = absurd (cc o)
    apart_open (Give e resend) o i = absurd (cc o)

    closed_both : (is_open_of id f.body ≡ false) × (opens id (bodies fs) ≡ false)
    closed_both = both_false (is_open_of id f.body) (opens id (bodies fs)) shut

    goes_on : is_same_end (subject_of f.body) id ≡ false → OpensLead (bodies (fs ++ record { clock = clock; body = Open sess } ∷ [])) → OpensLead (bodies (f ∷ fs ++ record { clock = clock; body = Open sess } ∷ []))
    goes_on apart rest = (behind_opens (subject_of f.body) fs (record { clock = clock; body = Open sess } ∷ []) (rw apart refl) ∙ lead.0, rest)

    by : (k : Bool) → is_open f.body ≡ k → (NoneAbout id (bodies (without_opens fs)) → opens id (bodies fs) ≡ false → OpensLead (bodies (fs ++ record { clock = clock; body = Open sess } ∷ []))) → OpensLead (bodies (f ∷ fs ++ record { clock = clock; body = Open sess } ∷ []))
    by true o rest = goes_on (apart_open f.body o closed_both.0) (rest (rw o at none) closed_both.1)
    by false o rest =
        let all : NoneAbout id (bodies (f ∷ without_opens fs)) = subst (λ l. NoneAbout id (bodies l)) (front_without f fs o) none in
        let apart : is_same_end (subject_of f.body) id ≡ false =
        first_about id f.body o (λ c. (none_passes (goes_to id c) f.body (bodies (without_opens fs)) (all.0 c)).0) (none_passes (is_claim id) f.body (bodies (without_opens fs)) all.1).0 (none_passes (is_give id) f.body (bodies (without_opens fs)) all.2).0 in
        goes_on apart (rest (λ c. (none_passes (goes_to id c) f.body (bodies (without_opens fs)) (all.0 c)).1, (none_passes (is_claim id) f.body (bodies (without_opens fs)) all.1).1, (none_passes (is_give id) f.body (bodies (without_opens fs)) all.2).1) closed_both.1)

-- a list of one number has it alone
only_one : (n m i : ℕ) → i < 1 → get_or (n ∷ []) i m ≡ m → n ≡ m
only_one n m zero j k = k
only_one n m (suc i) j k = absurd (omega (arith, j))

-- a larger number after numbers that rise
pub rising_last : (ns : List ℕ) (n : ℕ) → AreRising ns → ((m : ℕ) → Contains ns m → m < n) → AreRising (ns ++ n ∷ [])
rising_last [] n r below = (λ m c. absurd (omega (arith, c.1)), tt)
rising_last (x ∷ xs) n r below = (λ m c. by m (Contains-append_cases xs (n ∷ []) m c), rising_last xs n r.1 (λ m c. below m (contains_later x xs m c)))
  where
    by : (m : ℕ) → Contains xs m ⊎ Contains (n ∷ []) m → x < m
    by m (inl c) = r.0 m c
    by m (inr c) = subst (λ z. x < z) (only_one n m c.0 c.1 c.2) (below x (contains_first x xs))

module _ {P Q : Type 0} (IsOver : P → Type 0) (binds : Q → EndId → Bool) (play : Play P Q) (w : WorldAt P Q) (plain plain' : PlainAt P Q) (kept : IsOpenKept IsOver binds play.blank w plain)
    (p : ℕ) (fresh : play.is_worn (plain.programs p) ≡ false) (place there : P) (to : ℕ) (wants : play.wants (plain.programs p) ≡ requests place to)
    (facts : PlainRequest IsOver binds play plain plain' p place there to) where
  abbrev sess : ℕ
  sess = opened_number p (plain.requests p)

  abbrev near : EndId
  near = requested_end sess

  abbrev far : EndId
  far = offered_end sess

  opener : opener_of sess ≡ p
  opener = opener_of_opened p (plain.requests p) facts.few

  new_session : IsUnopened plain sess
  new_session = (p, plain.requests p, omega arith, facts.few, refl)

  -- nobody has a record of its ends
  no_main : (k : ℕ) (e : EndId) → e.sess ≡ sess → e.side < 2 → ((reading play.blank w).nodes k).main e ≡ None
  no_main k e is low = (kept.unopened sess new_session k e is low).0

  no_old : (k : ℕ) (e : EndId) → e.sess ≡ sess → e.side < 2 → (w.nodes k).old e ≡ None
  no_old k e is low = (kept.unopened sess new_session k e is low).1

  not_opening : (k : ℕ) (e : EndId) → e.sess ≡ sess → e.side < 2 → is_opening w k e ≡ false
  not_opening k e is low = (read_none play.blank (is_opening w k e) e ((w.nodes k).main e) (no_main k e is low)).0

  -- so they are gone
  seat_gone : (e : EndId) → e.sess ≡ sess → e.side < 2 → (kept.kept.sessions.sides e).seat ≡ gone
  seat_gone e is low =
      let d : Side P = kept.kept.sessions.sides e in
      let o : Seat P = (kept.kept.sessions.sides (other_end e)).seat in
      let name : d.id ≡ e = kept.kept.sessions.ids e in
      absent_gone (source_for o d.seat) d.place d.seat
      (λ k. sym ((kept.kept.sessions.shows e low).mains k) ∙ ap ((reading play.blank w).nodes k).main name ∙ no_main k e is low)
      (λ k. sym ((kept.kept.sessions.shows e low).olds k) ∙ ap (w.nodes k).old name ∙ no_old k e is low)

  here : (e : EndId) → e.sess ≡ sess → e.side < 2 → Here IsOver (reading play.blank w) (plain.sides (other_end e)) (plain.sides e) (kept.kept.sessions.sides (other_end e)) (kept.kept.sessions.sides e) e gone
  here e is low = here_at IsOver (reading play.blank w) plain.sides kept.kept.sessions e low gone (seat_gone e is low)

  -- nothing waits for them, and no frame is about them
  none_waits : (e : EndId) → e.sess ≡ sess → e.side < 2 → waits_of plain e ≡ []
  none_waits e is low = (here e is low).sound.there.fits.1

  none_about : (e : EndId) → e.sess ≡ sess → e.side < 2 → (x y : ℕ) → NoneAbout e (bodies ((reading play.blank w).lanes x y))
  none_about e is low x y =
      let z : Here IsOver (reading play.blank w) (plain.sides (other_end e)) (plain.sides e) (kept.kept.sessions.sides (other_end e)) (kept.kept.sessions.sides e) e gone = here e is low in
      let live : (kept.kept.sessions.sides e).live ≡ [] = gone_empty z.pace e (plain.sides (other_end e)) (plain.sides e) (kept.kept.sessions.sides (other_end e)).seat (kept.kept.sessions.sides e).live z.sound.there.comes in (
        λ c. z.shows.frames x y c ∙ either (is_lane x y (source_for (kept.kept.sessions.sides (other_end e)).seat gone) 0 && (c == 0)) (kept.kept.sessions.sides e).live live,
        z.shows.claims x y,
        z.shows.gives x y,
      )
    where
      either : (b : Bool) (l : List (BodyAt P)) → l ≡ [] → (if b then l else []) ≡ []
      either true l i = i
      either false l i = refl

  -- what counts of a party, and of its own, says
  counted : (w.nodes p).requests ≡ plain.requests p
  counted = kept.requests p

  abbrev clock : ℕ
  clock = (w.nodes p).clock + 1

  abbrev v : WorldAt P Q
  v = world_requested play.blank play w p clock place to sess opener

  mains_are : (k : ℕ) (e : EndId) → ((reading play.blank v).nodes k).main e
      ≡ (if (k == to) && is_same_end e far then Some (Held (new_held far play.blank p))
      else if (k == p) && is_same_end e near && not (is_opening w k e) then Some (Held (new_held near place to))
      else ((reading play.blank w).nodes k).main e)
  mains_are k e = requested_mains play.blank play w p clock place to sess opener k e

  all_lanes : (x y : ℕ) → (reading play.blank v).lanes x y ≡ (reading play.blank w).lanes x y
  all_lanes x y = requested_lanes play.blank play w p clock place to sess opener x y

  all_olds : (k : ℕ) (e : EndId) → (v.nodes k).old e ≡ (w.nodes k).old e
  all_olds k e = by (k == p) refl
    where
      by : (b : Bool) → (k == p) ≡ b → (if b then record (open_session play (w.nodes p) place to sess).state { clock = clock } else w.nodes k).old e ≡ (w.nodes k).old e
      by true i = let at : k ≡ p = eqb-true k p i in rw at refl
      by false i = refl

  -- ends of other sessions
  else_mains : (k : ℕ) (e : EndId) → (e.sess == sess) ≡ false → ((reading play.blank v).nodes k).main e ≡ ((reading play.blank w).nodes k).main e
  else_mains k e i = mains_are k e ∙ by (k == to) (k == p)
    where
      by : (a b : Bool) → (if a && is_same_end e far then Some (Held (new_held far play.blank p)) else if b && is_same_end e near && not (is_opening w k e) then Some (Held (new_held near place to)) else ((reading play.blank w).nodes k).main e)
          ≡ ((reading play.blank w).nodes k).main e
      by true true = rw i refl
      by true false = rw i refl
      by false true = rw i refl
      by false false = refl

  -- the two of this one
  apart_ends : is_same_end far near ≡ false
  apart_ends = other_not near (omega arith)

  apart_back : is_same_end near far ≡ false
  apart_back = other_not far (omega arith)

  far_mains : (k : ℕ) → ((reading play.blank v).nodes k).main far ≡ (if k == to then Some (Held (new_held far play.blank p)) else None)
  far_mains k = mains_are k far ∙ by (k == to) (k == p)
    where
      by : (a b : Bool) → (if a && is_same_end far far then Some (Held (new_held far play.blank p)) else if b && is_same_end far near && not (is_opening w k far) then Some (Held (new_held near place to)) else ((reading play.blank w).nodes k).main far)
          ≡ (if a then Some (Held (new_held far play.blank p)) else None)
      by true b = rw (same_end far) refl
      by false true = rw apart_ends (no_main k far refl (omega arith))
      by false false = no_main k far refl (omega arith)

  near_mains : (k : ℕ) → ((reading play.blank v).nodes k).main near ≡ (if k == p then Some (Held (new_held near place to)) else None)
  near_mains k = mains_are k near ∙ by (k == to) (k == p)
    where
      by : (a b : Bool) → (if a && is_same_end near far then Some (Held (new_held far play.blank p)) else if b && is_same_end near near && not (is_opening w k near) then Some (Held (new_held near place to)) else ((reading play.blank w).nodes k).main near)
          ≡ (if b then Some (Held (new_held near place to)) else None)
      by true true = rw (apart_back, same_end near, not_opening k near refl (omega arith)) refl
      by true false = rw apart_back (no_main k near refl (omega arith))
      by false true = rw (same_end near, not_opening k near refl (omega arith)) refl
      by false false = no_main k near refl (omega arith)

  none_either : (b : Bool) → ◌≡◌ {A = List (BodyAt P)} [] (if b then [] else [])
  none_either true = refl
  none_either false = refl

  -- an end of the session is shown Held at that party
  new_shows : (e : EndId) → e.sess ≡ sess → e.side < 2 → (there_at : P) (at : ℕ) (o : Seat P) (h : HeldAt P) → ((k : ℕ) → ((reading play.blank v).nodes k).main e ≡ (if k == at then Some (Held h) else None)) → Shows (reading play.blank v) o (side_of e there_at (held at h) [] [])
  new_shows e is low there_at at o h mains = record {
    mains = mains;
    olds = λ k. all_olds k e ∙ no_old k e is low;
    frames = λ x y c. ap (λ l. filter (goes_to e c) (bodies l)) (all_lanes x y) ∙ (none_about e is low x y).0 c ∙ none_either (is_lane x y (source_for o (held at h)) at && (c == h.end.conn));
    claims = λ x y. ap (λ l. filter (is_claim e) (bodies l)) (all_lanes x y) ∙ (none_about e is low x y).1;
    gives = λ x y. ap (λ l. filter (is_give e) (bodies l)) (all_lanes x y) ∙ (none_about e is low x y).2;
  }

  abbrev side_near : Side P
  side_near = side_of near place (held p (new_held near place to)) [] []

  abbrev side_far : Side P
  side_far = side_of far there (held to (new_held far play.blank p)) [] []

  outcome : Outcome IsOver (reading play.blank w) (reading play.blank v) far level (plain'.sides near) (plain'.sides far) side_near side_far
  outcome = record {
    name = refl;
    other = refl;
    shows = new_shows far refl (omega arith) there to (held p (new_held near place to)) (new_held far play.blank p) far_mains;
    shown = new_shows near refl (omega arith) place p (held to (new_held far play.blank p)) (new_held near place to) near_mains;
    sound = subst (λ a. IsSound IsOver level a (plain'.sides far) side_near side_far) (sym facts.near) (subst (λ a. IsSound IsOver level (plain_opened place false) a side_near side_far) (sym facts.far) (opened_sound IsOver play.blank place there p to sess));
    apart = λ o d i s. record {
      mains = λ k. else_mains k d.id i ∙ s.mains k;
      olds = λ k. all_olds k d.id ∙ s.olds k;
      frames = λ x y c. ap (λ l. filter (goes_to d.id c) (bodies l)) (all_lanes x y) ∙ s.frames x y c;
      claims = λ x y. ap (λ l. filter (is_claim d.id) (bodies l)) (all_lanes x y) ∙ s.claims x y;
      gives = λ x y. ap (λ l. filter (is_give d.id) (bodies l)) (all_lanes x y) ∙ s.gives x y;
    };
    proper = λ proper x y. subst (λ l. AllByRecursion (λ b. (subject_of b).side < 2) (bodies l)) (sym (all_lanes x y)) (proper x y);
  }

  goes : Goes IsOver (reading play.blank w) (reading play.blank v) plain.sides plain'.sides kept.kept.sessions far side_near side_far
  goes = goes_on IsOver (reading play.blank w) (reading play.blank v) plain.sides plain'.sides kept.kept.sessions far level side_near side_far (omega arith) outcome (λ e i. facts.sides e i)

  waits_same : (e : EndId) → e.side < 2 → waits_of plain' e ≡ waits_of plain e
  waits_same = by_session (λ e. waits_of plain' e ≡ waits_of plain e) far (omega arith)
      (ap (λ z. untaken_of z (plain'.sides far)) facts.near ∙ ap (λ z. untaken_of (plain_opened place false) z) facts.far ∙ sym (none_waits far refl (omega arith)))
      (ap (λ z. untaken_of z (plain'.sides near)) facts.far ∙ ap (λ z. untaken_of (plain_opened there true) z) facts.near ∙ sym (none_waits near refl (omega arith)))
      (λ e i. ap (λ z. untaken_of z (plain'.sides e)) (facts.sides (other_end e) i) ∙ ap (λ z. untaken_of (plain.sides (other_end e)) z) (facts.sides e i))

  keep_alike : (e : EndId) → e.side < 2 → KeepAlike (kept.kept.sessions.sides e).seat (goes.after.sides e).seat
  keep_alike = by_session (λ e. KeepAlike (kept.kept.sessions.sides e).seat (goes.after.sides e).seat) far (omega arith)
      (rw (goes.here, seat_gone far refl (omega arith)) (λ keeper. (λ i. i, λ i. i)))
      (rw (goes.there, seat_gone near refl (omega arith)) (λ keeper. (λ i. i, λ i. i)))
      (λ e i. rw (goes.away e i) (λ keeper. (λ i. i, λ i. i)))

  program_goes : (k : ℕ) → (v.nodes k).program ≡ plain'.programs k
  program_goes k = by (k == p) refl
    where
      by : (b : Bool) → (k == p) ≡ b → (if b then record (open_session play (w.nodes p) place to sess).state { clock = clock } else w.nodes k).program ≡ plain'.programs k
      by true i = let at : k ≡ p = eqb-true k p i in ap (λ z. play.opened z near) (kept.kept.programs p) ∙ sym facts.goes.here ∙ ap plain'.programs (sym at)
      by false i = kept.kept.programs k ∙ sym (facts.goes.away k i)

  -- before, nobody bound an end of the session
  unbound_before : (k : ℕ) (e : EndId) → e.sess ≡ sess → e.side < 2 → binds (plain.programs k) e ≡ false
  unbound_before k e is low = by (plain.sides e).offered refl (binds (plain.programs k) e) refl
    where
      by : (o : Bool) → (plain.sides e).offered ≡ o → (b : Bool) → binds (plain.programs k) e ≡ b → binds (plain.programs k) e ≡ false
      by true i b j = kept.unbound k e low i
      by false i false j = j
      by false i true j =
          let u : user_of (kept.kept.sessions.sides e).seat ≡ Some k = (kept.kept.bound k e low i).0 j in
          let z : None ≡ Some k = sym (ap user_of (seat_gone e is low)) ∙ u in
          absurd (cc z)

  binds_is : (k : ℕ) (e : EndId) → e.side < 2 → is_same_end e near ≡ false → binds (plain'.programs k) e ≡ binds (plain.programs k) e
  binds_is k e low apart = by (k == p) refl
    where
      by : (b : Bool) → (k == p) ≡ b → binds (plain'.programs k) e ≡ binds (plain.programs k) e
      by true i = let at : k ≡ p = eqb-true k p i in rw at (facts.goes.binds_else e low apart)
      by false i = ap (λ z. binds z e) (facts.goes.away k i)

  bound_near : (k : ℕ) → (binds (plain'.programs k) near ≡ true) ↔ (user_of (goes.after.sides near).seat ≡ Some k)
  bound_near k = (λ b. user ∙ ap Some (by (k == p) refl b), λ u. let at : p ≡ k = cc (sym user ∙ u) in subst (λ z. binds (plain'.programs z) near ≡ true) at facts.goes.binds_it)
    where
      user : user_of (goes.after.sides near).seat ≡ Some p
      user = ap (λ z. user_of z.seat) goes.there

      by : (b : Bool) → (k == p) ≡ b → binds (plain'.programs k) near ≡ true → p ≡ k
      by true i b = sym (eqb-true k p i)
      by false i b =
          let was : binds (plain.programs k) near ≡ true = sym (ap (λ z. binds z near) (facts.goes.away k i)) ∙ b in
          let none : binds (plain.programs k) near ≡ false = unbound_before k near refl (omega arith) in
          absurd (cc (was, none))

  bound_else : (k : ℕ) (e : EndId) → (e.sess == sess) ≡ false → (plain'.sides e).offered ≡ false → e.side < 2 → (binds (plain'.programs k) e ≡ true) ↔ (user_of (goes.after.sides e).seat ≡ Some k)
  bound_else k e i o low =
      let was : (plain.sides e).offered ≡ false = sym (ap (λ z. z.offered) (facts.sides e i)) ∙ o in
      let seat : (goes.after.sides e).seat ≡ (kept.kept.sessions.sides e).seat = ap (λ z. z.seat) (goes.away e i) in (
        λ b. ap user_of seat ∙ (kept.kept.bound k e low was).0 (sym (binds_is k e low (rw i refl)) ∙ b),
        λ u. binds_is k e low (rw i refl) ∙ (kept.kept.bound k e low was).1 (sym (ap user_of seat) ∙ u),
      )

  -- low is asked again, since the sessions' split has it no more
  bound_after : (k : ℕ) (e : EndId) → e.side < 2 → (plain'.sides e).offered ≡ false → (binds (plain'.programs k) e ≡ true) ↔ (user_of (goes.after.sides e).seat ≡ Some k)
  bound_after k e low o = by_session (λ d. d.side < 2 → (plain'.sides d).offered ≡ false → (binds (plain'.programs k) d ≡ true) ↔ (user_of (goes.after.sides d).seat ≡ Some k)) far (omega arith)
      (λ l z. let x : (plain'.sides far).offered ≡ true = ap (λ z. z.offered) facts.far in absurd (cc (x, z)))
      (λ l z. bound_near k)
      (λ d i l z. bound_else k d i z l) e low low o

  kept_after : IsKept IsOver binds (reading play.blank v) plain'
  kept_after = record {
    sessions = goes.after;
    linked = links_stay plain plain' (λ e. (kept.kept.sessions.sides e).seat) (λ e. (goes.after.sides e).seat) kept.kept.linked waits_same keep_alike;
    programs = program_goes;
    bound = bound_after;
  }

  -- the row
  requested : acts play p (w.nodes p) ≡ Some (open_session play (w.nodes p) place to sess)
  requested =
      ap (λ g. if play.is_worn g then None else act_by play p (w.nodes p) (play.wants g)) (kept.kept.programs p)
      ∙ ap (λ b. if b then None else act_by play p (w.nodes p) (play.wants (plain.programs p))) fresh
      ∙ ap (act_by play p (w.nodes p)) wants
      ∙ ap (λ (n : ℕ). if nat_lt n limit_of_requests then Some (open_session play (w.nodes p) place to (opened_number p n)) else None) counted
      ∙ ap (λ b. if b then Some (open_session play (w.nodes p) place to sess) else None) few
    where
      few : nat_lt (plain.requests p) limit_of_requests ≡ true
      few = let f : plain.requests p < limit_of_requests = facts.few in le-leb (suc (plain.requests p)) limit_of_requests f

  -- sessions that were opened before have other numbers
  not_it : (from k n : ℕ) → Contains (plain.offers from k) n → (n == sess) ≡ false
  not_it from k n c = ne_eqb n sess (λ e.
      let o : from ≡ p = sym (opener_is from n (kept.openers from k n c)) ∙ ap opener_of e ∙ opener in
      let b : n < opened_number from (plain.requests from) = kept.below from k n c in
      let at : opened_number from (plain.requests from) ≡ sess = ap (λ z. opened_number z (plain.requests z)) o in
      omega (arith, b, at, e))

  here_is : (from q : ℕ) → ((from == p) && (q == to)) ≡ true → (from ≡ p) × (q ≡ to)
  here_is from q e = by (from == p) (q == to) refl refl e
    where
      by : (a b : Bool) → (from == p) ≡ a → (q == to) ≡ b → (a && b) ≡ true → (from ≡ p) × (q ≡ to)
      by true true i j k = (eqb-true from p i, eqb-true q to j)
      by true false i j k = absurd (cc k)
      by false b i j k = absurd (cc k)

  -- what is offered from there to there
  offers_here : (from q : ℕ) → ((from == p) && (q == to)) ≡ true → plain'.offers from q ≡ plain.offers from q ++ sess ∷ []
  offers_here from q e = let i : (from ≡ p) × (q ≡ to) = here_is from q e in rw (i.0, i.1) facts.offers

  -- what is offered now was, or is new
  was_offered : (from q n : ℕ) → Contains (plain'.offers from q) n → Contains (plain.offers from q) n ⊎ ((((from == p) && (q == to)) ≡ true) × (n ≡ sess))
  was_offered from q n c = by ((from == p) && (q == to)) refl
    where
      by : (b : Bool) → ((from == p) && (q == to)) ≡ b → Contains (plain.offers from q) n ⊎ ((((from == p) && (q == to)) ≡ true) × (n ≡ sess))
      by true i = new (Contains-push_cases (plain.offers from q) sess n (subst (λ l. Contains l n) (offers_here from q i) c))
        where
          new : Contains (plain.offers from q) n ⊎ (sess ≡ n) → Contains (plain.offers from q) n ⊎ ((((from == p) && (q == to)) ≡ true) × (n ≡ sess))
          new (inl z) = inl z
          new (inr z) = inr (i, sym z)
      by false i = inl (subst (λ l. Contains l n) (facts.offers_else from q i) c)

  more_requests : (k : ℕ) → plain.requests k ≤ plain'.requests k
  more_requests k = by (k == p) refl
    where
      by : (b : Bool) → (k == p) ≡ b → plain.requests k ≤ plain'.requests k
      by true i = let at : k ≡ p = eqb-true k p i in let c : plain'.requests p ≡ plain.requests p + 1 = facts.counts in rw at (omega (arith, c))
      by false i = let c : plain'.requests k ≡ plain.requests k = facts.counts_else k i in omega (arith, c)

  -- what is still not opened was not
  unopened_before : (n : ℕ) → IsUnopened plain' n → IsUnopened plain n × ((n == sess) ≡ false)
  unopened_before n u = ((u.0, u.1, (let m : plain.requests u.0 ≤ plain'.requests u.0 = more_requests u.0 in omega (arith, m, u.2)), u.3, u.4), ne_eqb n sess (λ e. by e (u.0 == p) refl))
    where
      by : n ≡ sess → (b : Bool) → (u.0 == p) ≡ b → ⊥
      by e true i =
          let at : u.0 ≡ p = eqb-true u.0 p i in
          let c : plain'.requests u.0 ≡ plain.requests p + 1 = ap plain'.requests at ∙ facts.counts in
          let same : opened_number p u.1 ≡ sess = ap (λ z. opened_number z u.1) (sym at) ∙ sym u.4 ∙ e in
          omega (arith, u.2, c, same)
      by e false i =
          let o : u.0 ≡ p = sym (opener_of_opened u.0 u.1 u.3) ∙ ap opener_of (sym u.4 ∙ e) ∙ opener in
          let z : (u.0 == p) ≡ true = eq-eqb u.0 p o in
          cc (z, i)

  offers_at : (from k : ℕ) (b : Bool) → ((from == p) && (k == to)) ≡ b → (if b then ((reading play.blank w).nodes k).offers from ++ sess ∷ [] else ((reading play.blank w).nodes k).offers from) ≡ plain'.offers from k
  offers_at from k true i = ap (λ l. l ++ sess ∷ []) (kept.offers from k) ∙ sym (offers_here from k i)
  offers_at from k false i = kept.offers from k ∙ sym (facts.offers_else from k i)

  requests_at : (k : ℕ) (b : Bool) → (k == p) ≡ b → (if b then record (open_session play (w.nodes p) place to sess).state { clock = clock } else w.nodes k).requests ≡ plain'.requests k
  requests_at k true i = let at : k ≡ p = eqb-true k p i in ap (λ n. n + 1) counted ∙ sym facts.counts ∙ ap plain'.requests (sym at)
  requests_at k false i = kept.requests k ∙ sym (facts.counts_else k i)

  rising_at : (from k : ℕ) (b : Bool) → ((from == p) && (k == to)) ≡ b → AreRising (plain'.offers from k)
  rising_at from k true i =
      subst AreRising (sym (offers_here from k i)) (rising_last (plain.offers from k) sess (kept.rising from k)
      (λ m c. let b : m < opened_number from (plain.requests from) = kept.below from k m c in let at : from ≡ p = (here_is from k i).0 in subst (λ z. m < opened_number z (plain.requests z)) at b))
  rising_at from k false i = subst AreRising (sym (facts.offers_else from k i)) (kept.rising from k)

  openers_at : (from k n : ℕ) → Contains (plain.offers from k) n ⊎ ((((from == p) && (k == to)) ≡ true) × (n ≡ sess)) → is_opened_by from n ≡ true
  openers_at from k n (inl c) = kept.openers from k n c
  openers_at from k n (inr c) =
      let at : from ≡ p = (here_is from k c.0).0 in
      let low : nat_le first_opened n ≡ true = le-leb first_opened n (let e : n ≡ sess = c.1 in omega (arith, e)) in
      let own : (opener_of n == from) ≡ true = eq-eqb (opener_of n) from (ap opener_of c.1 ∙ opener ∙ sym at) in
      rw (low, own) refl

  below_at : (from k n : ℕ) → Contains (plain.offers from k) n ⊎ ((((from == p) && (k == to)) ≡ true) × (n ≡ sess)) → n < opened_number from (plain'.requests from)
  below_at from k n (inl c) = let b : n < opened_number from (plain.requests from) = kept.below from k n c in let m : plain.requests from ≤ plain'.requests from = more_requests from in omega (arith, b, m)
  below_at from k n (inr c) =
      let at : from ≡ p = (here_is from k c.0).0 in
      let r : plain'.requests from ≡ plain.requests p + 1 = ap plain'.requests at ∙ facts.counts in
      let e : n ≡ opened_number from (plain.requests p) = c.1 ∙ ap (λ z. opened_number z (plain.requests p)) (sym at) in
      omega (arith, r, e)

  offered_at : (from k n : ℕ) → Contains (plain.offers from k) n ⊎ ((((from == p) && (k == to)) ≡ true) × (n ≡ sess)) → (plain'.sides (offered_end n)).offered ≡ true
  offered_at from k n (inl c) = ap (λ z. z.offered) (facts.sides (offered_end n) (not_it from k n c)) ∙ kept.offered from k n c
  offered_at from k n (inr c) = ap (λ z. (plain'.sides (offered_end z)).offered) c.1 ∙ ap (λ z. z.offered) facts.far

  held_at_end : (from k n : ℕ) → Contains (plain.offers from k) n ⊎ ((((from == p) && (k == to)) ≡ true) × (n ≡ sess)) → (h : HeldAt P) × (((reading play.blank v).nodes k).main (offered_end n) ≡ Some (Held h))
  held_at_end from k n (inl c) = let h : (h : HeldAt P) × (((reading play.blank w).nodes k).main (offered_end n) ≡ Some (Held h)) = kept.held from k n c in (h.0, else_mains k (offered_end n) (not_it from k n c) ∙ h.1)
  held_at_end from k n (inr c) =
      let at : k ≡ to = (here_is from k c.0).1 in
      let key : (k == to) ≡ true = eq-eqb k to at in
      (new_held far play.blank p, ap (λ z. ((reading play.blank v).nodes k).main (offered_end z)) c.1 ∙ far_mains k ∙ rw key refl)

  unbound_at : (k : ℕ) (e : EndId) → e.side < 2 → (plain'.sides e).offered ≡ true → binds (plain'.programs k) e ≡ false
  unbound_at k e low o = by_session (λ d. d.side < 2 → (plain'.sides d).offered ≡ true → binds (plain'.programs k) d ≡ false) far (omega arith)
      (λ l z. binds_is k far l apart_ends ∙ unbound_before k far refl l)
      (λ l z. let x : (plain'.sides near).offered ≡ false = ap (λ z. z.offered) facts.near in absurd (cc (x, z)))
      (λ d i l z. binds_is k d l (rw i refl) ∙ kept.unbound k d l (sym (ap (λ z. z.offered) (facts.sides d i)) ∙ z)) e low low o

  lead_at : (from q : ℕ) → OpensLead (bodies (v.lanes from q))
  lead_at from q = subst (λ l. OpensLead (bodies l)) (sym (requested_lane play.blank play w p clock place to sess opener from q)) (by ((from == p) && (q == to)) refl)
    where
      by : (b : Bool) → ((from == p) && (q == to)) ≡ b → OpensLead (bodies (if b then w.lanes from q ++ record { clock = clock; body = Open sess } ∷ [] else w.lanes from q))
      by true i =
          let own : opens far (bodies (w.lanes from q)) ≡ false = ap (λ n. opens far (bodies (w.lanes n q))) ((here_is from q i).0 ∙ sym opener) ∙ not_opening q far refl (omega arith) in
          lead_open clock sess (w.lanes from q) (none_about far refl (omega arith) from q) own (kept.lead from q)
      by false i = kept.lead from q

  bare_at : (k : ℕ) (e : EndId) → is_opening v k e ≡ true → (v.nodes k).main e ≡ None
  bare_at k e o = by (e.sess == sess) refl
    where
      opening_is : is_opening v k e ≡ opens e (bodies (if (opener_of e.sess == p) && (k == to) then w.lanes (opener_of e.sess) k ++ record { clock = clock; body = Open sess } ∷ [] else w.lanes (opener_of e.sess) k))
      opening_is = ap (λ l. opens e (bodies l)) (requested_lane play.blank play w p clock place to sess opener (opener_of e.sess) k)

      node_main : is_same_end e near ≡ false → (v.nodes k).main e ≡ (w.nodes k).main e
      node_main apart = at (k == p) refl
        where
          at : (b : Bool) → (k == p) ≡ b → (if b then record (open_session play (w.nodes p) place to sess).state { clock = clock } else w.nodes k).main e ≡ (w.nodes k).main e
          at true i = let n : k ≡ p = eqb-true k p i in rw (apart, n) refl
          at false i = refl

      was : (e.sess == sess) ≡ false → (b : Bool) → opens e (bodies (if b then w.lanes (opener_of e.sess) k ++ record { clock = clock; body = Open sess } ∷ [] else w.lanes (opener_of e.sess) k)) ≡ true → is_opening w k e ≡ true
      was i true j = sym (opens_last play.blank play w p clock place to sess opener e (w.lanes (opener_of e.sess) k) ∙ rw i (or_none (is_opening w k e))) ∙ j
        where
          or_none : (b : Bool) → (b || false) ≡ b
          or_none true = refl
          or_none false = refl
      was i false j = j

      -- no Open names an end of side 0
      of_far : (bs : List (BodyAt P)) → opens e bs ≡ true → e.side ≡ 1
      of_far [] j = absurd (cc j)
      of_far (b ∷ bs) j = opened_far (is_open_of e b) b refl j (λ z. of_far bs z)
        where
          opened_far : (k : Bool) → (b : BodyAt P) → is_open_of e b ≡ k → (is_open_of e b || opens e bs) ≡ true → (opens e bs ≡ true → e.side ≡ 1) → e.side ≡ 1
          opened_far true (Open t) i z later = ap (λ d. d.side) (same_is e (offered_end t) i)
          opened_far true (Carry x conn number taken msg) i z later = absurd (cc i)
          opened_far true (Fin x conn number) i z later = absurd (cc i)
          opened_far true (Claim x) i z later = absurd (cc i)
          opened_far true (Signal x conn party taken) i z later = absurd (cc i)
          opened_far true (Ack x conn) i z later = absurd (cc i)
          opened_far true (Give x resend) i z later = absurd (cc i)
          opened_far false b i z later = later (sym (ap (λ u. u || opens e bs) i) ∙ z)

      by : (b : Bool) → (e.sess == sess) ≡ b → (v.nodes k).main e ≡ None
      by false i = node_main (rw i refl) ∙ kept.bare k e (was i ((opener_of e.sess == p) && (k == to)) (sym opening_is ∙ o))
      by true i =
          let side : e.side ≡ 1 = of_far (bodies (v.lanes (opener_of e.sess) k)) o in
          let apart : is_same_end e near ≡ false = let z : (e.side == 0) ≡ false = ne_eqb e.side 0 (λ n. omega (arith, side, n)) in rw (i, z) refl in
          node_main apart ∙ (read_none play.blank (is_opening w k e) e ((w.nodes k).main e) (no_main k e (eqb-true e.sess sess i) (omega (arith, side)))).1

  -- the request fits, and the world stays kept with the plain one
  pub request_keeps : (pick : ℕ → ℕ → ℕ) → (v : WorldAt P Q) × (happens play pick w p Act ≡ Some v) × IsOpenKept IsOver binds play.blank v plain'
  request_keeps pick = (
    v,
    ap (option_map (after_event w p clock w.lanes)) requested,
    record {
      kept = kept_after;
      requests = λ k. requests_at k (k == p) refl;
      offers = λ from k. requested_offers play.blank play w p clock place to sess opener k from ∙ offers_at from k ((from == p) && (k == to)) refl;
      rising = λ from k. rising_at from k ((from == p) && (k == to)) refl;
      openers = λ from k n c. openers_at from k n (was_offered from k n c);
      below = λ from k n c. below_at from k n (was_offered from k n c);
      offered = λ from k n c. offered_at from k n (was_offered from k n c);
      held = λ from k n c. held_at_end from k n (was_offered from k n c);
      unbound = unbound_at;
      lead = lead_at;
      bare = bare_at;
      unopened = λ n u k e is low.
          let b : IsUnopened plain n × ((n == sess) ≡ false) = unopened_before n u in
          let a : (((reading play.blank w).nodes k).main e ≡ None) × ((w.nodes k).old e ≡ None) = kept.unopened n b.0 k e is low in
          (else_mains k e (ap (λ (z : ℕ). z == sess) is ∙ b.1) ∙ a.0, all_olds k e ∙ a.1);
    },
  )
