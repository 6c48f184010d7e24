-- A message is taken on a Held end.
use Rattle.std.proofs.Common.{◌≡◌, ℕ, ◌+◌, ◌≤◌, List, [], ◌∷◌, ◌++◌, length, drop, refl, sym, ap, arith, ◌∙◌, inl, inr, append-nil}
use Rattle.std.specs.Prelude.{Bool, true, false, Some, None, ◌⊎◌}
use Rattle.std.proofs.lemmas.List.{drop-drop}
use Rattle.sj_base.specs.declared.EndId.{EndId}
use Rattle.sj_base.specs.declared.Msg.{Msg}
use Rattle.sj_rules.specs.Record.{BodyAt, HeldAt}
use Rattle.sj_rules.specs.Node.{held_behind_take}
use Rattle.sj_rules.specs.Seat.{Seat, held, parked, claimed, signalled, given, closed, gone, side_of}
use Rattle.sj_rules.specs.PlainSide.{PlainSide, untaken_of}
use Rattle.sj_rules.specs.Counts.{Agrees, SeatFits, ResendFits}
use Rattle.sj_rules.specs.Acts.{plain_taken}
use Rattle.sj_rules.specs.Numbers.{Pace, by_ack, by_signal, turned, NumbersFit}
use Rattle.sj_rules.specs.Streams.{AreCarries, ComesWhole, ComesToHeld}
use Rattle.sj_rules.specs.Coming.{Comes, AreOld}
use Rattle.sj_rules.specs.Invariant.{IsSound}
use Rattle.sj_world_lemmas.proofs.AppendLemmas.{Meets, at_level, at_ahead, held_meets}
use Rattle.sj_world_lemmas.proofs.SendLemmas.{numbers_held, hops_held}

-- Carries that report counts up to a number report them up to a larger one
pub carries_to_higher : {P : Type 0} → (to : EndId) (conn number low high higher : ℕ) (msgs : List Msg) (bs : List (BodyAt P)) →
    high ≤ higher → AreCarries to conn number low high msgs bs → AreCarries to conn number low higher msgs bs
carries_to_higher to conn number low high higher [] [] l a = omega (arith, l, a)
carries_to_higher to conn number low high higher (m ∷ ms) (b ∷ bs) l a = (a.0, a.1, a.2, carries_to_higher to conn (number + 1) a.0 high higher ms bs l a.3)
carries_to_higher to conn number low high higher [] (b ∷ bs) l a = absurd a
carries_to_higher to conn number low high higher (m ∷ ms) [] l a = absurd a

-- so is what comes whole
pub whole_to_higher : {P : Type 0} → (to : EndId) (conn number low high higher : ℕ) (mark : List (BodyAt P)) (msgs : List Msg) (frames : List (BodyAt P)) →
    high ≤ higher → ComesWhole to conn number low high mark msgs frames → ComesWhole to conn number low higher mark msgs frames
whole_to_higher to conn number low high higher mark msgs frames l w =
    record { carries = w.carries; split = w.split; are = carries_to_higher to conn number low high higher msgs w.carries l w.are }

-- and what comes to a Held end
pub held_to_higher : {P : Type 0} → (to : EndId) (g : HeldAt P) (waiting : List Msg) (taken high higher : ℕ) (over : Bool) (mark live : List (BodyAt P)) →
    high ≤ higher → ComesToHeld to g waiting taken high over mark live → ComesToHeld to g waiting taken higher over mark live
held_to_higher {P} to g waiting taken high higher over mark live l w = record { rest = w.rest; all = w.all; comes = by w.comes }
  where
    by : (g.fin ≡ false) × ComesWhole to g.end.conn (taken + length g.untaken) g.end.base high mark w.rest live
        ⊎ (g.fin ≡ true) × (over ≡ true) × (live ≡ []) × (w.rest ≡ []) →
        (g.fin ≡ false) × ComesWhole to g.end.conn (taken + length g.untaken) g.end.base higher mark w.rest live
        ⊎ (g.fin ≡ true) × (over ≡ true) × (live ≡ []) × (w.rest ≡ [])
    by (inl k) = inl (k.0, whole_to_higher to g.end.conn (taken + length g.untaken) g.end.base high higher mark w.rest live l k.1)
    by (inr k) = inr k

module _ {P : Type 0} (IsOver : P → Type 0) (x y : PlainSide P) (sid rid : EndId) (a : ℕ) (h : HeldAt P) (m : Msg) (rest : List Msg) (place : P)
    (front : h.untaken ≡ m ∷ rest) where
  -- more is reported to r than before
  fits_taken : (r : Seat P) → SeatFits IsOver rid x y r → SeatFits IsOver rid (plain_taken x place) y r
  fits_taken r f = grind arith

  -- what comes to r, where it is Held
  held_told : (g : HeldAt P) (live : List (BodyAt P)) → ComesToHeld rid g (untaken_of x y) y.taken x.taken false [] live →
      ComesToHeld rid g (untaken_of (plain_taken x place) y) y.taken (x.taken + 1) false [] live
  held_told g live c = held_to_higher rid g (untaken_of x y) y.taken x.taken (x.taken + 1) false [] live (omega arith) c

  -- where it is awaited
  whole_told : (c low : ℕ) (live : List (BodyAt P)) → ComesWhole rid c y.taken low x.taken [] (untaken_of x y) live →
      ComesWhole rid c y.taken low (x.taken + 1) [] (untaken_of (plain_taken x place) y) live
  whole_told c low live w = whole_to_higher rid c y.taken low x.taken (x.taken + 1) [] (untaken_of x y) live (omega arith) w

  -- an end that takes isn't ahead by a Signal
  never_empty : h.untaken ≡ [] → ⊥
  never_empty e = cc (e, front)

  -- what comes to r
  comes_told : (pace : Pace) (r : Seat P) (rl sl : List (BodyAt P)) → Meets pace r → Comes (turned pace) sid y x r (held a h) sl →
      Comes pace rid x y (held a h) r rl → Comes pace rid (plain_taken x place) y (held a (held_behind_take h rest place)) r rl
  comes_told pace r rl sl (at_level (held b g)) k c = held_told g rl c
  comes_told pace r rl sl (at_level (parked b e)) k c = c
  comes_told pace r rl sl (at_level (claimed b u e)) k c = c
  comes_told pace r rl sl (at_level (signalled b u e ds)) k c = c
  comes_told pace r rl sl (at_level (given b u e again ds)) k c = whole_told e.conn e.base (ds ++ rl) c
  comes_told pace r rl sl (at_level (closed b e)) k c = c
  comes_told pace r rl sl (at_level gone) k c = c
  comes_told pace r rl sl (at_ahead by_ack b u e ds) k c = whole_told (e.conn + 1) e.base (ds ++ rl) c
  comes_told pace r rl sl (at_ahead by_signal b u e ds) k c = absurd (never_empty k.1.0)

  -- what comes to r under the number that it leaves
  old_told : (pace : Pace) (r : Seat P) (ro sl : List (BodyAt P)) → NumbersFit pace (held a h) r → Comes (turned pace) sid y x r (held a h) sl →
      AreOld pace rid x (held a h) r ro → AreOld pace rid (plain_taken x place) (held a (held_behind_take h rest place)) r ro
  old_told pace r ro sl n k o = grind arith

  -- r isn't in a Give with a resend
  resend_taken : (pace : Pace) (r : Seat P) (sl : List (BodyAt P)) → NumbersFit pace (held a h) r → Comes (turned pace) sid y x r (held a h) sl →
      ResendFits x.taken r → ResendFits (x.taken + 1) r
  resend_taken pace r sl n k f = grind arith

  -- nothing comes to s under a number that it leaves
  old_kept : (pace : Pace) (r : Seat P) (so : List (BodyAt P)) → AreOld (turned pace) sid y r (held a h) so →
      AreOld (turned pace) sid y r (held a (held_behind_take h rest place)) so
  old_kept pace r so o = grind arith

  -- what waits after the take
  waits_after : (later : List Msg) → untaken_of y x ≡ h.untaken ++ later → untaken_of y (plain_taken x place) ≡ rest ++ later
  waits_after later all =
      let e : untaken_of y x ≡ (m ∷ rest) ++ later = rw front at all in
      sym (drop-drop 1 x.taken y.sent) ∙ ap (λ l. drop 1 l) e

  -- what comes to s, where the numbers are equal
  held_taken : (over : Bool) (mark live : List (BodyAt P)) → ComesToHeld sid h (untaken_of y x) x.taken y.taken over mark live →
      ComesToHeld sid (held_behind_take h rest place) (untaken_of y (plain_taken x place)) (x.taken + 1) y.taken over mark live
  held_taken over mark live c = record { rest = c.rest; all = waits_after c.rest c.all; comes = by c.comes }
    where
      number : x.taken + length h.untaken ≡ x.taken + 1 + length rest
      number = rw front (omega arith)

      by : (h.fin ≡ false) × ComesWhole sid h.end.conn (x.taken + length h.untaken) h.end.base y.taken mark c.rest live
          ⊎ (h.fin ≡ true) × (over ≡ true) × (live ≡ []) × (c.rest ≡ []) →
          (h.fin ≡ false) × ComesWhole sid h.end.conn (x.taken + 1 + length rest) h.end.base y.taken mark c.rest live
          ⊎ (h.fin ≡ true) × (over ≡ true) × (live ≡ []) × (c.rest ≡ [])
      by (inl k) = inl (k.0, rw number at k.1)
      by (inr k) = inr k

  -- what comes to s
  back_taken : (pace : Pace) (r : Seat P) (sl : List (BodyAt P)) → Meets pace r →
      Comes (turned pace) sid y x r (held a h) sl → Comes (turned pace) sid y (plain_taken x place) r (held a (held_behind_take h rest place)) sl
  back_taken pace r sl (at_level (held b g)) c = held_taken false [] sl c
  back_taken pace r sl (at_level (parked b e)) c = held_taken false [] sl c
  back_taken pace r sl (at_level (claimed b u e)) c = held_taken false [] sl c
  back_taken pace r sl (at_level (signalled b u e ds)) c = held_taken false _ sl c
  back_taken pace r sl (at_level (given b u e None ds)) c = (tt, held_taken false [] sl c.1)
  back_taken pace r sl (at_level (given b u e (Some k) ds)) c = absurd (never_empty c.1.0)
  back_taken pace r sl (at_level (closed b e)) c = held_taken true _ sl c
  back_taken pace r sl (at_level gone) c = held_taken true _ sl c
  back_taken pace r sl (at_ahead by_ack b u e ds) c =
      let all : untaken_of y (plain_taken x place) ≡ rest ++ [] = waits_after [] (sym c.1.0 ∙ sym (append-nil h.untaken)) in
      (c.0, (sym (all ∙ append-nil rest), c.1.1))
  back_taken pace r sl (at_ahead by_signal b u e ds) c = absurd (never_empty c.1.0)

-- s takes the first untaken message: its place and count go on
pub takes : {P : Type 0} → (IsOver : P → Type 0) (pace : Pace) (x y : PlainSide P) (sid rid : EndId) (ps pr : P) (a : ℕ) (h : HeldAt P) (r : Seat P)
    (so sl ro rl : List (BodyAt P)) (m : Msg) (rest : List Msg) (place : P) → h.untaken ≡ m ∷ rest →
    IsSound IsOver pace x y (side_of sid ps (held a h) so sl) (side_of rid pr r ro rl) →
    IsSound IsOver pace (plain_taken x place) y (side_of sid place (held a (held_behind_take h rest place)) so sl) (side_of rid pr r ro rl)
takes {P} IsOver pace x y sid rid ps pr a h r so sl ro rl m rest place front sound =
    let fits : Agrees sid h.end x × (x.offered ≡ false → h.end.place ≡ x.place) × (h.end.base ≤ y.taken) = sound.back.fits in
    let met : Meets pace r = held_meets pace a h r sound.numbers in
    record {
      others = sound.others;
      numbers = numbers_held pace a h (held_behind_take h rest place) r refl refl sound.numbers;
      hops = hops_held pace (x.hops + y.hops) a h (held_behind_take h rest place) r refl sound.hops;
      there = record {
        fits = fits_taken IsOver x y sid rid a h m rest place front r sound.there.fits;
        place = sound.there.place;
        resend = tt;
        comes = comes_told IsOver x y sid rid a h m rest place front pace r rl sl met sound.back.comes sound.there.comes;
        old = old_told IsOver x y sid rid a h m rest place front pace r ro sl sound.numbers sound.back.comes sound.there.old;
      };
      back = record {
        fits = (
          record { name = fits.0.name; hops = fits.0.hops; sent = fits.0.sent; taken = ap (λ n. n + 1) fits.0.taken; cache = fits.0.cache },
          λ unoffered. refl,
          fits.2,
        );
        place = refl;
        resend = resend_taken IsOver x y sid rid a h m rest place front pace r sl sound.numbers sound.back.comes sound.back.resend;
        comes = back_taken IsOver x y sid rid a h m rest place front pace r sl met sound.back.comes;
        old = old_kept IsOver x y sid rid a h m rest place front pace r so sound.back.old;
      };
    }
