-- A kept world with Opens stands for its plain world.
use Rattle.std.proofs.Common.{◌≡◌, ℕ, ◌+◌, ◌<◌, List, [], ◌∷◌, ◌++◌, length, refl, sym, ap, subst, ◌∙◌, arith, inl, inr}
use Rattle.std.specs.Prelude.{Bool, true, false, ◌⊎◌, ◌==◌, ◌&&◌, ◌||◌, if◌then◌else◌, filter, Contains, Option, Some, None}
use Rattle.std.proofs.lemmas.List.Elements.{Contains-append_left, Contains-append_right, Contains-append_cases}
use Rattle.sj_base.specs.declared.EndId.{EndId}
use Rattle.sj_base.specs.declared.Msg.{Msg}
use Rattle.sj_rules.specs.Record.{BodyAt, Carry, Fin, Claim, Signal, Ack, Give, Open, HeldAt, Held, other_end, is_same_end, offered_end}
use Rattle.sj_rules.specs.Opened.{opener_of, new_held, is_open, is_open_of, opens}
use Rattle.sj_rules.specs.Frames.{FrameAt}
use Rattle.sj_rules.specs.World.{WorldAt}
use Rattle.sj_rules.specs.Seat.{Seat, held, parked, claimed, signalled, given, closed, gone, Side}
use Rattle.sj_rules.specs.Shown.{Shows, bodies, goes_to, is_claim, is_give}
use Rattle.sj_rules.specs.PlainSide.{PlainSide, PlainAt, untaken_of}
use Rattle.sj_rules.specs.Numbers.{Pace, NumbersFit, is_over}
use Rattle.sj_rules.specs.Counts.{SeatFits}
use Rattle.sj_rules.specs.Flowing.{carried_under, carries_under, party_of, lane_from, IsFlowing, flowing_at, deferred_of, IsTold, HasSign, IsOwed}
use Rattle.sj_rules.specs.Invariant.{IsSound}
use Rattle.sj_rules.specs.Linked.{subject_of}
use Rattle.sj_rules.specs.Reading.{is_opening, without_opens, reading, OpensLead, IsOpenKept}
use Rattle.sj_rules.specs.StandsFor.{SeatStands, PlaceStands, behind_open, OpeningStands, ThereStands, StandsFor}
use Rattle.sj_world_lemmas.proofs.FlowLemmas.{carries_append}
use Rattle.sj_world_lemmas.proofs.OutcomeLemmas.{sound_at}
use Rattle.sj_world_lemmas.proofs.PromiseLemmas.{flowing_or_owed}
use Rattle.sj_world_lemmas.proofs.StandsLemmas.{first_flows}
use Rattle.sj_world_lemmas.proofs.SeenLemmas.{Here, here_held}
use Rattle.sj_opened_lemmas.proofs.NodeReadLemmas.{same_is}
use Rattle.sj_opened_lemmas.proofs.OfferLemmas.{open_far, open_names, open_is_offer, offered_is_held}

-- a test that no Open passes sees the same with and without them
pub filter_without : {P : Type 0} → (test : BodyAt P → Bool) → ((s : ℕ) → test (Open s) ≡ false) → (fs : List (FrameAt P)) → filter test (bodies fs) ≡ filter test (bodies (without_opens fs))
filter_without test never [] = refl
filter_without {P} test never (f ∷ fs) = by (is_open f.body) refl (filter_without test never fs)
  where
    opened : (b : BodyAt P) → is_open b ≡ true → test b ≡ false
    opened (Open s) o = never s
    opened (Carry to conn number taken msg) o = absurd (cc o)
    opened (Fin to conn number) o = absurd (cc o)
    opened (Claim of) o = absurd (cc o)
    opened (Signal to conn party taken) o = absurd (cc o)
    opened (Ack of conn) o = absurd (cc o)
    opened (Give e resend) o = absurd (cc o)

    by : (k : Bool) → is_open f.body ≡ k → filter test (bodies fs) ≡ filter test (bodies (without_opens fs)) → filter test (bodies (f ∷ fs)) ≡ filter test (bodies (without_opens (f ∷ fs)))
    by true o rest = rw (opened f.body o, o) rest
    by false o rest = rw o (ap (λ l. if test f.body then f.body ∷ l else l) rest)

-- what Carries carry is the same
pub carries_without : {P : Type 0} → (id : EndId) (c : ℕ) (fs : List (FrameAt P)) → carries_under id c (bodies (without_opens fs)) ≡ carries_under id c (bodies fs)
carries_without id c [] = refl
carries_without {P} id c (f ∷ fs) = by (is_open f.body) refl (carries_without id c fs)
  where
    opened : (b : BodyAt P) → is_open b ≡ true → carried_under id c b ≡ None
    opened (Open s) o = refl
    opened (Carry to conn number taken msg) o = absurd (cc o)
    opened (Fin to conn number) o = absurd (cc o)
    opened (Claim of) o = absurd (cc o)
    opened (Signal to conn party taken) o = absurd (cc o)
    opened (Ack of conn) o = absurd (cc o)
    opened (Give e resend) o = absurd (cc o)

    by : (k : Bool) → is_open f.body ≡ k → carries_under id c (bodies (without_opens fs)) ≡ carries_under id c (bodies fs) → carries_under id c (bodies (without_opens (f ∷ fs))) ≡ carries_under id c (bodies (f ∷ fs))
    by true o rest = rw (opened f.body o, o) rest
    by false o rest = rw o (more (carried_under id c f.body) refl)
      where
        more : (m : Option Msg) → carried_under id c f.body ≡ m → carries_under id c (f.body ∷ bodies (without_opens fs)) ≡ carries_under id c (f.body ∷ bodies fs)
        more None i = rw i rest
        more (Some m) i = rw i (ap (λ l. m ∷ l) rest)

-- a frame of the lane without Opens is one of the lane
pub contains_without : {P : Type 0} → (b : BodyAt P) (fs : List (FrameAt P)) → Contains (bodies (without_opens fs)) b → Contains (bodies fs) b
contains_without b [] c = c
contains_without {P} b (f ∷ fs) c = by (is_open f.body) refl (λ k. contains_without b fs k)
  where
    later : Contains (bodies fs) b → Contains (bodies (f ∷ fs)) b
    later k = Contains-append_right (f.body ∷ []) (bodies fs) b k

    either : (Contains (bodies (without_opens fs)) b → Contains (bodies fs) b) → Contains (f.body ∷ []) b ⊎ Contains (bodies (without_opens fs)) b → Contains (bodies (f ∷ fs)) b
    either rest (inl k) = Contains-append_left (f.body ∷ []) (bodies fs) b k
    either rest (inr k) = later (rest k)

    by : (k : Bool) → is_open f.body ≡ k → (Contains (bodies (without_opens fs)) b → Contains (bodies fs) b) → Contains (bodies (f ∷ fs)) b
    by true o rest = later (rest (rw o at c))
    by false o rest = either rest (Contains-append_cases (f.body ∷ []) (bodies (without_opens fs)) b (rw o at c))

-- what is carried to an end in an Open stands after it
pub carries_behind : {P : Type 0} → (e : EndId) (bs : List (BodyAt P)) → OpensLead bs → opens e bs ≡ true → carries_under e 0 (behind_open e bs) ≡ carries_under e 0 bs
carries_behind e [] lead j = absurd (cc j)
carries_behind {P} e (b ∷ bs) lead j = by (is_open_of e b) refl (λ z. carries_behind e bs lead.1 z)
  where
    opened : (b : BodyAt P) → is_open_of e b ≡ true → carried_under e 0 b ≡ None
    opened (Open t) i = refl
    opened (Carry x conn number taken msg) i = absurd (cc i)
    opened (Fin x conn number) i = refl
    opened (Claim x) i = refl
    opened (Signal x conn party taken) i = refl
    opened (Ack x conn) i = refl
    opened (Give x resend) i = refl

    apart : (b : BodyAt P) → opens (subject_of b) bs ≡ false → opens e bs ≡ true → carried_under e 0 b ≡ None
    apart (Open t) i z = refl
    apart (Carry to conn number taken msg) i z = other (is_same_end to e) refl
      where
        other : (k : Bool) → is_same_end to e ≡ k → (if k && (conn == 0) then Some msg else None) ≡ None
        other true s = let same : opens e bs ≡ false = sym (ap (λ d. opens d bs) (same_is to e s)) ∙ i in absurd (cc (same, z))
        other false s = refl
    apart (Fin x conn number) i z = refl
    apart (Claim x) i z = refl
    apart (Signal x conn party taken) i z = refl
    apart (Ack x conn) i z = refl
    apart (Give x resend) i z = refl

    by : (k : Bool) → is_open_of e b ≡ k → (opens e bs ≡ true → carries_under e 0 (behind_open e bs) ≡ carries_under e 0 bs) → carries_under e 0 (behind_open e (b ∷ bs)) ≡ carries_under e 0 (b ∷ bs)
    by true i rest = rw (i, opened b i) refl
    by false i rest = let z : opens e bs ≡ true = sym (ap (λ u. u || opens e bs) i) ∙ j in rw (i, apart b lead.0 z) (rest z)

module _ {P : Type 0} (IsOver : P → Type 0) (pace : Pace) (x y : PlainSide P) (s r : Side P) (sound : IsSound IsOver pace x y s r) where
  over_by : (q : Seat P) → NumbersFit pace q gone → is_over q ≡ true
  over_by gone k = refl
  over_by q k = k.1

  pub ends_by : (seat : Seat P) → SeatFits IsOver r.id x y seat → NumbersFit pace s.seat seat → SeatStands IsOver r.id x y s.seat seat
  ends_by (held at h) fits n = record { agrees = fits.0; base = fits.2 }
  ends_by (parked at e) fits n = record { agrees = fits.0; base = fits.2 }
  ends_by (claimed at to e) fits n = record { agrees = fits.0; base = fits.1 }
  ends_by (signalled at to e ds) fits n = record { agrees = fits.0; base = fits.1 }
  ends_by (given at to e resend ds) fits n = record { agrees = fits.0; base = fits.1 }
  ends_by (closed at e) fits n = record { agrees = fits.0; base = fits.2 }
  ends_by gone fits n = record { over = fits.0; nothing_waits = fits.1; other_over = over_by s.seat n }

  place_by : y.offered ≡ false → (seat : Seat P) → SeatFits IsOver r.id x y seat → PlaceStands r.place y.place seat
  place_by o (held at h) fits = fits.1 o
  place_by o (parked at e) fits = fits.1
  place_by o (claimed at to e) fits = sound.there.place
  place_by o (signalled at to e ds) fits = sound.there.place
  place_by o (given at to e resend ds) fits = sound.there.place
  place_by o (closed at e) fits = fits.1
  place_by o gone fits = sound.there.place

module _ {P Q : Type 0} (blank : P) (w : WorldAt P Q) where
  -- what is shown of an end in no Open
  pub shows_there : (o : Seat P) (d : Side P) → ((p : ℕ) → is_opening w p d.id ≡ false) → Shows (reading blank w) o d → Shows w o d
  shows_there o d none v = record {
    mains = λ k. by k (is_opening w k d.id) (none k) ∙ v.mains k;
    olds = v.olds;
    frames = λ x y c. filter_without (goes_to d.id c) (λ s. refl) (w.lanes x y) ∙ v.frames x y c;
    claims = λ x y. filter_without (is_claim d.id) (λ s. refl) (w.lanes x y) ∙ v.claims x y;
    gives = λ x y. filter_without (is_give d.id) (λ s. refl) (w.lanes x y) ∙ v.gives x y;
  }
    where
      by : (k : ℕ) (b : Bool) → b ≡ false → (w.nodes k).main d.id ≡ (if b then Some (Held (new_held d.id blank (opener_of d.id.sess))) else (w.nodes k).main d.id)
      by k true i = absurd (cc i)
      by k false i = refl

  -- what flows in the world read so flows
  lane_same : (from : Option ℕ) (at : ℕ) (id : EndId) (c : ℕ) → carries_under id c (lane_from (reading blank w) from at) ≡ carries_under id c (lane_from w from at)
  lane_same None at id c = refl
  lane_same (Some q) at id c = carries_without id c (w.lanes q at)

  awaited_same : (from : Option ℕ) (at : ℕ) (id : EndId) (c : ℕ) (ds : List (BodyAt P)) → carries_under id c (ds ++ lane_from w from at) ≡ carries_under id c (ds ++ lane_from (reading blank w) from at)
  awaited_same from at id c ds = carries_append id c ds (lane_from w from at) ∙ ap (λ l. carries_under id c ds ++ l) (sym (lane_same from at id c)) ∙ sym (carries_append id c ds (lane_from (reading blank w) from at))

  flows_there : (s r : Side P) (waiting : List Msg) (seat : Seat P) → flowing_at (reading blank w) s r waiting seat → flowing_at w s r waiting seat
  flows_there s r waiting (held at h) f = ap (λ l. h.untaken ++ l) (sym (carries_without r.id h.end.conn (w.lanes h.end.peer at))) ∙ f
  flows_there s r waiting (signalled at to e ds) f = record { under = f.under; waits = awaited_same (party_of s.seat) to r.id (e.conn + 1) ds ∙ f.waits }
  flows_there s r waiting (given at to e resend ds) f = record { under = f.under; waits = awaited_same (party_of s.seat) to r.id e.conn ds ∙ f.waits }
  flows_there s r waiting (closed at e) f = f
  flows_there s r waiting gone f = f
  flows_there s r waiting (parked at e) f = f
  flows_there s r waiting (claimed at to e) f = f

  told_there : (s : Side P) (taken : ℕ) → IsTold (reading blank w) s taken → IsTold w s taken
  told_there s taken t = (t.0, t.1, by t.2)
    where
      by : Contains (deferred_of s.seat) t.0 ⊎ ((p : ℕ) × (q : ℕ) × Contains (bodies ((reading blank w).lanes p q)) t.0) → Contains (deferred_of s.seat) t.0 ⊎ ((p : ℕ) × (q : ℕ) × Contains (bodies (w.lanes p q)) t.0)
      by (inl k) = inl k
      by (inr k) = inr (k.0, k.1, contains_without t.0 (w.lanes k.0 k.1) k.2)

  owed_there : (s r : Side P) (taken : ℕ) → IsOwed (reading blank w) s r taken → IsOwed w s r taken
  owed_there s r taken o = (by o.0, o.1)
    where
      by : HasSign (reading blank w) s r taken → HasSign w s r taken
      by (inl k) = inl k
      by (inr (inl k)) = inr (inl (told_there s taken k))
      by (inr (inr k)) = inr (inr k)

module _ {P Q : Type 0} (IsOver : P → Type 0) (binds : Q → EndId → Bool) (blank : P) (w : WorldAt P Q) (plain : PlainAt P Q) (kept : IsOpenKept IsOver binds blank w plain) where
  abbrev side : EndId → Side P
  side e = kept.kept.sessions.sides e

  there_stands : (e : EndId) → e.side < 2 → ((p : ℕ) → is_opening w p e ≡ false) → ThereStands IsOver w e (plain.sides (other_end e)) (plain.sides e) (side (other_end e)) (side e)
  there_stands e low none =
      let t : (pace : Pace) × IsSound IsOver pace (plain.sides (other_end e)) (plain.sides e) (side (other_end e)) (side e) = sound_at IsOver (reading blank w) plain.sides kept.kept.sessions e low in
      record {
        shows = shows_there blank w (side (other_end e)).seat (side e) (λ p. ap (λ d. is_opening w p d) (kept.kept.sessions.ids e) ∙ none p) (kept.kept.sessions.shows e low);
        stands = subst (λ (id : EndId). SeatStands IsOver id (plain.sides (other_end e)) (plain.sides e) (side (other_end e)).seat (side e).seat) (kept.kept.sessions.ids e)
            (ends_by IsOver t.0 (plain.sides (other_end e)) (plain.sides e) (side (other_end e)) (side e) t.1 (side e).seat t.1.there.fits t.1.numbers);
        place = λ o. place_by IsOver t.0 (plain.sides (other_end e)) (plain.sides e) (side (other_end e)) (side e) t.1 o (side e).seat t.1.there.fits;
        flows = by (flowing_or_owed IsOver binds (reading blank w) plain kept.kept e low);
      }
    where
      by : IsFlowing (reading blank w) (side (other_end e)) (side e) (untaken_of (plain.sides (other_end e)) (plain.sides e)) ⊎ IsOwed (reading blank w) (side (other_end e)) (side e) (plain.sides e).taken →
          IsFlowing w (side (other_end e)) (side e) (untaken_of (plain.sides (other_end e)) (plain.sides e)) ⊎ IsOwed w (side (other_end e)) (side e) (plain.sides e).taken
      by (inl f) = inl (flows_there blank w (side (other_end e)) (side e) (untaken_of (plain.sides (other_end e)) (plain.sides e)) (side e).seat f)
      by (inr o) = inr (owed_there blank w (side (other_end e)) (side e) (plain.sides e).taken o)

  pub opening_stands : (p : ℕ) (e : EndId) → is_opening w p e ≡ true → OpeningStands blank w p e (plain.sides (other_end e)) (plain.sides e) (side e)
  opening_stands p e o = record {
    seat = here.seat_is;
    offered = ap (λ d. (plain.sides d).offered) named ∙ kept.offered (opener_of e.sess) p e.sess (open_is_offer IsOver binds blank w plain kept (opener_of e.sess) p e o);
    sent = empty (plain.sides e).sent (sym here.sound.there.fits.0.sent);
    taken = sym here.sound.there.fits.0.taken;
    hops = sym here.sound.there.fits.0.hops;
    flows = carries_behind e lane (kept.lead (opener_of e.sess) p) o ∙ sym (carries_without e 0 (w.lanes (opener_of e.sess) p)) ∙ nothing_owed;
  }
    where
      lane : List (BodyAt P)
      lane = bodies (w.lanes (opener_of e.sess) p)

      low : e.side < 2
      low = omega (arith, open_far e lane o)

      named : e ≡ offered_end e.sess
      named = open_names e lane o

      h : HeldAt P
      h = new_held e blank (opener_of e.sess)

      main : ((reading blank w).nodes p).main e ≡ Some (Held h)
      main = rw o refl

      here : Here IsOver (reading blank w) (plain.sides (other_end e)) (plain.sides e) (side (other_end e)) (side e) e (held p h)
      here = here_held IsOver (reading blank w) plain.sides kept.kept.sessions e low p h main

      empty : (l : List Msg) → length l ≡ 0 → l ≡ []
      empty [] i = refl
      empty (m ∷ ms) i = absurd (cc i)

      -- it is under the first number
      nothing_owed : carries_under e 0 (bodies (without_opens (w.lanes (opener_of e.sess) p))) ≡ untaken_of (plain.sides (other_end e)) (plain.sides e)
      nothing_owed =
          let s : Side P = side (other_end e) in
          let r : Side P = side e in
          first_flows (reading blank w) s.id e s.place r.place s.old s.live r.old r.live (plain.sides (other_end e)) (plain.sides e) here.pace s.seat p h refl here.sound.numbers here.sound.there.comes here.sound.there.resend here.shows

  -- a kept world stands for its plain world
  pub open_kept_stands_for : StandsFor IsOver blank w plain
  open_kept_stands_for = record {
    programs = kept.kept.programs;
    requests = kept.requests;
    offers = kept.offers;
    offered_held = offered_is_held IsOver binds blank w plain kept;
    sides = kept.kept.sessions.sides;
    ids = kept.kept.sessions.ids;
    opening = opening_stands;
    ends = there_stands;
  }
