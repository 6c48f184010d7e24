-- A Give that comes: the end is Held, as if what was deferred were still in the lane; and its cache
-- goes out again.
use Rattle.std.proofs.Common.{◌≡◌, ℕ, ◌+◌, ◌-◌, ◌≤◌, List, [], ◌∷◌, ◌++◌, length, drop, refl, sym, ap, arith, ◌∙◌, inl, append-nil}
use Rattle.std.specs.Prelude.{Bool, false, Option, Some, None}
use Rattle.std.proofs.lemmas.List.{drop-drop}
use Rattle.sj_base.specs.declared.EndId.{EndId}
use Rattle.sj_base.specs.declared.Msg.{Msg}
use Rattle.sj_rules.specs.Record.{EndAt, BodyAt, Carry, Fin, Claim, Signal, Ack, Give, Open, HeldAt}
use Rattle.sj_rules.specs.Rows.{numbered_carries, cached_from}
use Rattle.sj_rules.specs.Seat.{Seat, held, parked, claimed, signalled, given, closed, gone, side_of}
use Rattle.sj_rules.specs.PlainSide.{PlainSide, untaken_of, CountsFit}
use Rattle.sj_rules.specs.Counts.{Agrees, ResendFits, SeatFits}
use Rattle.sj_rules.specs.Numbers.{Pace, level, NumbersFit, is_over}
use Rattle.sj_rules.specs.Streams.{AreDropped, ComesWhole, ComesToHeld, ComesLoose, mark_for}
use Rattle.sj_rules.specs.Invariant.{IsSound}
use Rattle.sj_rules.specs.Coming.{Comes, AreOld}
use Rattle.sj_world_lemmas.proofs.SignalLemmas.{numbered_are}

-- the end as it is installed, before the deferred frames
abbrev pub fresh : {P : Type 0} → P → EndAt P → HeldAt P
fresh place e = record { end = record e { place = place }; untaken = []; fin = false }

-- frames that s gets from a Held r: under its own number where it is Signalled and r hasn't gone
-- on, else live
abbrev pub live_after : {P : Type 0} → Pace → Seat P → (live more : List (BodyAt P)) → List (BodyAt P)
live_after level (signalled at to e deferred) live more = live
live_after pace s live more = live ++ more

abbrev pub old_after : {P : Type 0} → Pace → Seat P → (old more : List (BodyAt P)) → List (BodyAt P)
old_after level (signalled at to e deferred) old more = old ++ more
old_after pace s old more = old

-- the cache from there on, as Carries for s
abbrev pub again_from : {P : Type 0} → EndId → EndAt P → Option ℕ → List (BodyAt P)
again_from sid e None = []
again_from sid e (Some k) = numbered_carries sid e.conn e.taken k (cached_from e k)

-- Carries may be dropped
pub numbered_dropped : (P : Type 0) (to : EndId) (conn number taken : ℕ) (over : Bool) (msgs : List Msg) →
    AreDropped {P = P} to conn over (numbered_carries to conn taken number msgs)
numbered_dropped P to conn number taken over [] = tt
numbered_dropped P to conn number taken over (m ∷ ms) = (refl, refl, numbered_dropped P to conn (number + 1) taken over ms)

-- what is in a Give is what was sent, from its resend on
pub given_again : {P : Type 0} → (id : EndId) (e : EndAt P) (y : PlainSide P) (k : ℕ) → Agrees id e y → e.base ≤ k → cached_from e k ≡ drop k y.sent
given_again id e y k a low =
    let sum : e.base + (k - e.base) ≡ k = omega arith in
    ap (λ l. drop (k - e.base) l) a.cache ∙ drop-drop (k - e.base) e.base y.sent ∙ ap (λ n. drop n y.sent) sum

-- more that may be dropped, after Carries
pub dropped_more : {P : Type 0} → (to : EndId) (conn : ℕ) (over : Bool) (bs more : List (BodyAt P)) →
    AreDropped to conn false bs → AreDropped to conn over more → AreDropped to conn over (bs ++ more)
dropped_more to conn over [] more a b = b
dropped_more to conn over (Carry d c n t m ∷ bs) more a b = (a.0, a.1, dropped_more to conn over bs more a.2 b)
dropped_more to conn over (Fin d c n ∷ bs) more a b = absurd (cc a.2)
dropped_more to conn over (Claim d ∷ bs) more a b = absurd a
dropped_more to conn over (Signal d c p k ∷ bs) more a b = absurd a
dropped_more to conn over (Ack d c ∷ bs) more a b = absurd a
dropped_more to conn over (Open d ∷ bs) more a b = absurd a
dropped_more to conn over (Give d r ∷ bs) more a b = absurd a

pub loose_more : {P : Type 0} → (to : EndId) (conn : ℕ) (so more : List (BodyAt P)) →
    ComesLoose to conn false [] so → AreDropped to conn false more → ComesLoose to conn false [] (so ++ more)
loose_more to conn so more l d =
    let e : so ≡ l.dropped = l.split ∙ append-nil l.dropped in
    record {
      dropped = l.dropped ++ more;
      split = ap (λ k. k ++ more) e ∙ sym (append-nil (l.dropped ++ more));
      are = dropped_more to conn false l.dropped more l.are d;
    }

module _ {P : Type 0} (x y : PlainSide P) (sid rid : EndId) (at u : ℕ) (er : EndAt P) (place : P) (dr : List (BodyAt P)) where
  whole_to_held : (s : Seat P) (live : List (BodyAt P)) →
      ComesWhole rid er.conn y.taken er.base x.taken (mark_for rid er.conn x s) (untaken_of x y) (dr ++ live) →
      ComesToHeld rid (fresh place er) (untaken_of x y) y.taken x.taken (is_over s) (mark_for rid er.conn x s) (dr ++ live)
  whole_to_held s live w =
      record { rest = untaken_of x y; all = refl; comes = inl (refl, record { carries = w.carries; split = w.split; are = rw zero_more w.are }) }
    where
      zero_more : y.taken + 0 ≡ y.taken
      zero_more = omega arith

  bare_to_held : (s : Seat P) (live : List (BodyAt P)) → live ≡ [] → dr ≡ [] → dr ++ live ≡ []
  bare_to_held s live a b = rw (b, a)

  -- what comes to r
  pub comes_installed : (resend : Option ℕ) (s : Seat P) (live : List (BodyAt P)) →
      Comes level rid x y s (given at u er resend dr) live → Comes level rid x y s (held u (fresh place er)) (dr ++ live)
  comes_installed resend (held a h) live c = whole_to_held (held a h) live c
  comes_installed resend (parked a e) live c = whole_to_held (parked a e) live c
  comes_installed resend (claimed a t e) live c = whole_to_held (claimed a t e) live c
  comes_installed resend (signalled a t e ds) live c = whole_to_held (signalled a t e ds) live c
  comes_installed resend (given a t e None ds) live c = (tt, whole_to_held (given a t e None ds) live c.1)
  comes_installed resend (given a t e (Some k) ds) live c = (bare_to_held (given a t e (Some k) ds) live c.0 c.1, (refl, refl))
  comes_installed resend (closed a e) live c = whole_to_held (closed a e) live c
  comes_installed resend gone live c = whole_to_held gone live c

  -- what comes to s, where nothing is sent again
  pub back_quietly : (s : Seat P) (sl : List (BodyAt P)) →
      Comes level sid y x (given at u er None dr) s sl → Comes level sid y x (held u (fresh place er)) s sl
  back_quietly (held a h) sl c = c.1
  back_quietly (parked a e) sl c = c.1
  back_quietly (claimed a t e) sl c = c.1
  back_quietly (signalled a t e ds) sl c = c
  back_quietly (given a t e resend ds) sl c = c.1
  back_quietly (closed a e) sl c = c.1
  back_quietly gone sl c = c.1

  -- what comes to s, where the cache goes out again
  module _ (agrees : Agrees rid er y) (k : ℕ) (k_is : k ≡ x.taken) (low : er.base ≤ k) (fewer : x.taken ≤ length y.sent) where
    again_is : again_from sid er (Some k) ≡ numbered_carries sid er.conn y.taken x.taken (drop x.taken y.sent)
    again_is = rw (given_again rid er y k agrees low, agrees.taken, k_is)

    pub whole_again : (conn base : ℕ) (sl : List (BodyAt P)) → conn ≡ er.conn → base ≤ y.taken → sl ≡ [] →
        ComesWhole {P = P} sid conn x.taken base y.taken [] (untaken_of y x) (sl ++ again_from sid er (Some k))
    whole_again conn base sl same lower none = record {
      carries = numbered_carries sid er.conn y.taken x.taken (drop x.taken y.sent);
      split = rw (none, again_is) (sym (append-nil (numbered_carries sid er.conn y.taken x.taken (drop x.taken y.sent))));
      are = rw same (numbered_are P sid er.conn x.taken base y.taken (drop x.taken y.sent) lower);
    }

    loose_again : (conn : ℕ) (sl : List (BodyAt P)) → conn ≡ er.conn → sl ≡ [] →
        ComesLoose sid conn false [] (sl ++ again_from sid er (Some k))
    loose_again conn sl same none = record {
      dropped = numbered_carries sid er.conn y.taken x.taken (drop x.taken y.sent);
      split = rw (none, again_is) (sym (append-nil (numbered_carries sid er.conn y.taken x.taken (drop x.taken y.sent))));
      are = rw same (numbered_dropped P sid er.conn x.taken y.taken false (drop x.taken y.sent));
    }

    back_again_held : (a : ℕ) (h : HeldAt P) (sl : List (BodyAt P)) → h.end.conn ≡ er.conn → h.end.base ≤ y.taken →
        sl ≡ [] → h.untaken ≡ [] → h.fin ≡ false → ComesToHeld sid h (untaken_of y x) x.taken y.taken false [] (sl ++ again_from sid er (Some k))
    back_again_held a h sl same lower none bare fin =
        let w : ComesWhole {P = P} sid h.end.conn x.taken h.end.base y.taken [] (untaken_of y x) (sl ++ again_from sid er (Some k)) =
        whole_again h.end.conn h.end.base sl same lower none in
        let length_is : x.taken + length h.untaken ≡ x.taken = rw bare (omega arith) in
        record {
          rest = untaken_of y x;
          all = rw bare;
          comes = inl (fin, record { carries = w.carries; split = w.split; are = rw length_is w.are });
        }

    back_again : (IsOver : P → Type 0) (s : Seat P) (sl : List (BodyAt P)) →
        NumbersFit level s (given at u er (Some k) dr) → SeatFits IsOver sid y x s →
        Comes level sid y x (given at u er (Some k) dr) s sl →
        Comes level sid y x (held u (fresh place er)) s (live_after level s sl (again_from sid er (Some k)))
    back_again IsOver (held a h) sl n f c = back_again_held a h sl n.0 f.2 c.0 c.1.0 c.1.1
    back_again IsOver (parked a e) sl n f c = loose_again e.conn sl n.0 c.0
    back_again IsOver (claimed a t e) sl n f c = loose_again e.conn sl n.0 c.0
    back_again IsOver (signalled a t e ds) sl n f c = c
    back_again IsOver (given a t e resend ds) sl n f c = rw c.1 (whole_again e.conn e.base sl n.0 f.1 c.0)
    back_again IsOver (closed a e) sl n f c =
        let none : drop x.taken y.sent ≡ [] = f.4 in
        rw (c.0, again_is, none)
    back_again IsOver gone sl n f c = absurd (cc n.1)

  numbers_installed : (resend : Option ℕ) (s : Seat P) → NumbersFit level s (given at u er resend dr) → NumbersFit level s (held u (fresh place er))
  numbers_installed resend (held a h) n = n
  numbers_installed resend (parked a e) n = n
  numbers_installed resend (claimed a t e) n = n
  numbers_installed resend (signalled a t e ds) n = n
  numbers_installed resend (given a t e r ds) n = n
  numbers_installed resend (closed a e) n = n
  numbers_installed resend gone n = absurd (cc n.1)

  old_installed : (resend : Option ℕ) (s : Seat P) (so more : List (BodyAt P)) → AreDropped sid er.conn false more →
      NumbersFit level s (given at u er resend dr) →
      AreOld level sid y (given at u er resend dr) s so → AreOld level sid y (held u (fresh place er)) s (old_after level s so more)
  old_installed resend (held a h) so more d n o = o
  old_installed resend (parked a e) so more d n o = o
  old_installed resend (claimed a t e) so more d n o = o
  old_installed resend (signalled a t e ds) so more d n o = loose_more sid e.conn so more o (rw n.0 d)
  old_installed resend (given a t e r ds) so more d n o = o
  old_installed resend (closed a e) so more d n o = o
  old_installed resend gone so more d n o = o

  back_installed : (IsOver : P → Type 0) (resend : Option ℕ) (s : Seat P) (sl : List (BodyAt P)) →
      Agrees rid er y × (er.base ≤ x.taken) → CountsFit x y → ResendFits x.taken (given at u er resend dr) →
      NumbersFit level s (given at u er resend dr) → SeatFits IsOver sid y x s →
      Comes level sid y x (given at u er resend dr) s sl →
      Comes level sid y x (held u (fresh place er)) s (live_after level s sl (again_from sid er resend))
  back_installed IsOver None s sl a c r n f b = rw (nothing_more s) (back_quietly s sl b)
    where
      nothing_more : (s : Seat P) → live_after level s sl [] ≡ sl
      nothing_more (held d h) = append-nil sl
      nothing_more (parked d e) = append-nil sl
      nothing_more (claimed d t e) = append-nil sl
      nothing_more (signalled d t e ds) = refl
      nothing_more (given d t e q ds) = append-nil sl
      nothing_more (closed d e) = append-nil sl
      nothing_more gone = append-nil sl
  back_installed IsOver (Some k) s sl a c r n f b = back_again a.0 k r.0 (omega (arith, r.0, a.1)) c.fewer IsOver s sl n f b

again_dropped : (P : Type 0) (sid : EndId) (e : EndAt P) (resend : Option ℕ) → AreDropped sid e.conn false (again_from sid e resend)
again_dropped P sid e None = tt
again_dropped P sid e (Some k) = numbered_dropped P sid e.conn k e.taken false (cached_from e k)

-- a Give comes where the numbers are equal: the end is Held, its resend goes out, and what was
-- deferred is still to come
pub installs_level : {P : Type 0} → (IsOver : P → Type 0) (x y : PlainSide P) (counts : CountsFit x y) (sid rid : EndId) (ps pr : P)
    (s : Seat P) (at u : ℕ) (er : EndAt P) (resend : Option ℕ) (dr so sl ro rl : List (BodyAt P)) →
    IsSound IsOver level x y (side_of sid ps s so sl) (side_of rid pr (given at u er resend dr) ro rl) →
    IsSound IsOver level x y
    (side_of sid ps s (old_after level s so (again_from sid er resend)) (live_after level s sl (again_from sid er resend)))
    (side_of rid pr (held u (fresh pr er)) ro (dr ++ rl))
installs_level {P} IsOver x y counts sid rid ps pr s at u er resend dr so sl ro rl sound =
    let fits : Agrees rid er y × (er.base ≤ x.taken) = sound.there.fits in
    record {
      others = sound.others;
      numbers = numbers_installed x y sid rid at u er pr dr resend s sound.numbers;
      hops = sound.hops;
      there = record {
        fits = (record { name = fits.0.name; hops = fits.0.hops; sent = fits.0.sent; taken = fits.0.taken; cache = fits.0.cache }, λ unoffered. sound.there.place, fits.1);
        place = sound.there.place;
        resend = sound.there.resend;
        comes = comes_installed x y sid rid at u er pr dr resend s rl sound.there.comes;
        old = sound.there.old;
      };
      back = record {
        fits = sound.back.fits;
        place = sound.back.place;
        resend = tt;
        comes = back_installed x y sid rid at u er pr dr IsOver resend s sl (fits.0, fits.1) counts sound.back.resend sound.numbers sound.back.fits sound.back.comes;
        old = old_installed x y sid rid at u er pr dr resend s so (again_from sid er resend) (again_dropped P sid er resend) sound.numbers sound.back.old;
      };
    }
