-- A Held end is closed.
use Rattle.std.proofs.Common.{◌≡◌, ℕ, ◌+◌, ◌≤◌, List, [], ◌∷◌, ◌++◌, length, refl, sym, ap, append_assoc, arith, ◌∙◌, inl, inr}
use Rattle.std.specs.Prelude.{Bool, true, false, Some, None, ◌⊎◌}
use Rattle.sj_base.specs.declared.EndId.{EndId}
use Rattle.sj_base.specs.declared.Msg.{Msg}
use Rattle.sj_rules.specs.Record.{EndAt, BodyAt, Fin, Ack, Signal, HeldAt}
use Rattle.sj_rules.specs.Seat.{Seat, held, parked, claimed, signalled, given, closed, gone, side_of}
use Rattle.sj_rules.specs.PlainSide.{PlainSide, untaken_of}
use Rattle.sj_rules.specs.Counts.{Agrees}
use Rattle.sj_rules.specs.Acts.{fin_of}
use Rattle.sj_rules.specs.Numbers.{Pace, level, by_ack, by_signal, turned, NumbersFit, IsWithinHops}
use Rattle.sj_rules.specs.Streams.{AreCarries, ComesWhole, ComesToHeld}
use Rattle.sj_rules.specs.Coming.{Comes, AreOld}
use Rattle.sj_rules.specs.Invariant.{IsSound}
use Rattle.sj_world_lemmas.proofs.InstallLemmas.{live_after, old_after}
use Rattle.sj_world_lemmas.proofs.AppendLemmas.{Meets, at_level, at_ahead, held_meets, whole_marked, held_marked, dropped_over, dropped_fin}

-- an empty list has an empty rest
nothing_behind : (xs ys : List Msg) → ◌≡◌ {A = List Msg} [] (xs ++ ys) → ys ≡ []
nothing_behind [] ys e = sym e
nothing_behind (x ∷ xs) ys e = absurd (cc e)

-- nothing waits: there is no Carry
nothing_carried : {P : Type 0} → (to : EndId) (conn number low high : ℕ) (msgs : List Msg) (bs : List (BodyAt P)) → msgs ≡ [] →
    AreCarries to conn number low high msgs bs → bs ≡ []
nothing_carried to conn number low high [] [] e a = refl
nothing_carried to conn number low high [] (b ∷ bs) e a = absurd a
nothing_carried to conn number low high (m ∷ ms) bs e a = absurd (cc e)

module _ {P : Type 0} (to : EndId) (h : HeldAt P) (waiting : List Msg) (taken high : ℕ) (over : Bool) (mark live : List (BodyAt P)) where
  -- nothing waits: the mark alone still comes, where no fin was noted
  mark_left : waiting ≡ [] → h.fin ≡ false → ComesToHeld to h waiting taken high over mark live → live ≡ mark
  mark_left none fin w = by w.comes
    where
      by : (h.fin ≡ false) × ComesWhole to h.end.conn (taken + length h.untaken) h.end.base high mark w.rest live
          ⊎ (h.fin ≡ true) × (over ≡ true) × (live ≡ []) × (w.rest ≡ []) → live ≡ mark
      by (inl k) =
          let e : w.rest ≡ [] = nothing_behind h.untaken w.rest (sym none ∙ w.all) in
          let c : k.1.carries ≡ [] = nothing_carried to h.end.conn (taken + length h.untaken) h.end.base high w.rest k.1.carries e k.1.are in
          k.1.split ∙ ap (λ l. l ++ mark) c
      by (inr k) = absurd (cc (k.0, fin))

  -- a noted fin: s is over, and nothing comes
  noted : h.fin ≡ true → ComesToHeld to h waiting taken high over mark live → (over ≡ true) × (live ≡ [])
  noted fin w = by w.comes
    where
      by : (h.fin ≡ false) × ComesWhole to h.end.conn (taken + length h.untaken) h.end.base high mark w.rest live
          ⊎ (h.fin ≡ true) × (over ≡ true) × (live ≡ []) × (w.rest ≡ []) → (over ≡ true) × (live ≡ [])
      by (inl k) = absurd (cc (k.0, fin))
      by (inr k) = (k.1, k.2)

-- the numbers go together as before
numbers_closed : {P : Type 0} → (pace : Pace) (a : ℕ) (h : HeldAt P) (r : Seat P) → NumbersFit pace (held a h) r → NumbersFit pace (closed a h.end) r
numbers_closed pace a h r n = grind arith

-- the hops too
hops_closed : {P : Type 0} → (pace : Pace) (hops a : ℕ) (h : HeldAt P) (r : Seat P) → IsWithinHops pace hops (held a h) r → IsWithinHops pace hops (closed a h.end) r
hops_closed pace hops a h r n = grind arith

module _ {P : Type 0} (x y : PlainSide P) (sid rid : EndId) (a : ℕ) (h : HeldAt P) (sent : h.end.sent ≡ length x.sent) where
  -- the Fin after what is whole
  whole_closed : (c low : ℕ) (ds live : List (BodyAt P)) → h.end.conn ≡ c → ComesWhole rid c y.taken low x.taken [] (untaken_of x y) (ds ++ live) →
      ComesWhole rid c y.taken low x.taken (Fin rid c (length x.sent) ∷ []) (untaken_of x y) (ds ++ (live ++ fin_of rid h.end))
  whole_closed c low ds live same w =
      rw (← append_assoc ds live (fin_of rid h.end), same, sent)
      (whole_marked rid c y.taken low x.taken (untaken_of x y) (ds ++ live) (Fin rid c (length x.sent) ∷ []) w)

  -- what comes to r where the numbers are equal
  level_closed : (r : Seat P) (rl : List (BodyAt P)) → NumbersFit level (held a h) r → Comes level rid x y (held a h) r rl →
      Comes level rid x y (closed a h.end) r (live_after level r rl (fin_of rid h.end))
  level_closed (held b g) rl n c =
      rw (n.0, sent) (held_marked rid g (untaken_of x y) y.taken x.taken rl true (Fin rid g.end.conn (length x.sent) ∷ []) c)
  level_closed (parked b e) rl n c = dropped_fin rid e.conn h.end.conn h.end.sent rl n.0 c
  level_closed (claimed b u e) rl n c = dropped_fin rid e.conn h.end.conn h.end.sent rl n.0 c
  level_closed (signalled b u e ds) rl n c = c
  level_closed (given b u e k ds) rl n c = whole_closed e.conn e.base ds rl n.0 c
  level_closed (closed b e) rl n c = rw (c, n.0, sent)
  level_closed gone rl n c = absurd (cc n.1)

  -- what comes to r
  comes_closed : (pace : Pace) (r : Seat P) (rl : List (BodyAt P)) → Meets pace r → NumbersFit pace (held a h) r → Comes pace rid x y (held a h) r rl →
      Comes pace rid x y (closed a h.end) r (live_after pace r rl (fin_of rid h.end))
  comes_closed pace r rl (at_level s) n c = level_closed s rl n c
  comes_closed pace r rl (at_ahead by_ack b u e ds) n c = whole_closed (e.conn + 1) e.base ds rl n.0 c
  comes_closed pace r rl (at_ahead by_signal b u e ds) n c = whole_closed (e.conn + 1) x.taken ds rl n.0 c

  -- what comes to r under the number that it leaves
  old_closed : (pace : Pace) (r : Seat P) (ro : List (BodyAt P)) → Meets pace r → NumbersFit pace (held a h) r → AreOld pace rid x (held a h) r ro →
      AreOld pace rid x (closed a h.end) r (old_after pace r ro (fin_of rid h.end))
  old_closed pace r ro (at_level (held b g)) n o = o
  old_closed pace r ro (at_level (parked b e)) n o = o
  old_closed pace r ro (at_level (claimed b u e)) n o = o
  old_closed pace r ro (at_level (signalled b u e ds)) n o = dropped_fin rid e.conn h.end.conn h.end.sent ro n.0 o
  old_closed pace r ro (at_level (given b u e k ds)) n o = o
  old_closed pace r ro (at_level (closed b e)) n o = o
  old_closed pace r ro (at_level gone) n o = o
  old_closed pace r ro (at_ahead by_ack b u e ds) n o = dropped_over rid e.conn (Ack rid e.conn ∷ []) ro o
  old_closed pace r ro (at_ahead by_signal b u e ds) n o = dropped_over rid e.conn (Signal rid e.conn a x.taken ∷ []) ro o

  -- what comes to s: the mark of r
  back_closed : (pace : Pace) (r : Seat P) (sl : List (BodyAt P)) → Meets pace r → untaken_of y x ≡ [] → h.fin ≡ false →
      Comes (turned pace) sid y x r (held a h) sl → Comes (turned pace) sid y x r (closed a h.end) sl
  back_closed pace r sl (at_level (held b g)) none fin c = mark_left sid h (untaken_of y x) x.taken y.taken false [] sl none fin c
  back_closed pace r sl (at_level (parked b e)) none fin c = mark_left sid h (untaken_of y x) x.taken y.taken false [] sl none fin c
  back_closed pace r sl (at_level (claimed b u e)) none fin c = mark_left sid h (untaken_of y x) x.taken y.taken false [] sl none fin c
  back_closed pace r sl (at_level (signalled b u e ds)) none fin c = mark_left sid h (untaken_of y x) x.taken y.taken false _ sl none fin c
  back_closed pace r sl (at_level (given b u e None ds)) none fin c = (tt, mark_left sid h (untaken_of y x) x.taken y.taken false [] sl none fin c.1)
  back_closed pace r sl (at_level (given b u e (Some k) ds)) none fin c = (c.0, tt)
  back_closed pace r sl (at_level (closed b e)) none fin c = mark_left sid h (untaken_of y x) x.taken y.taken true _ sl none fin c
  back_closed pace r sl (at_level gone) none fin c = mark_left sid h (untaken_of y x) x.taken y.taken true _ sl none fin c
  back_closed pace r sl (at_ahead c b u e ds) none fin k = (k.0, tt)

  -- nothing comes to s under a number that it leaves
  old_kept : (pace : Pace) (r : Seat P) (so : List (BodyAt P)) → AreOld (turned pace) sid y r (held a h) so → AreOld (turned pace) sid y r (closed a h.end) so
  old_kept pace r so o = grind arith

  -- a fin was noted only of a Closed end
  pub only_closed : (pace : Pace) (r : Seat P) (sl : List (BodyAt P)) → Meets pace r → h.fin ≡ true → NumbersFit pace (held a h) r →
      Comes (turned pace) sid y x r (held a h) sl → (b : ℕ) × (e : EndAt P) × (pace ≡ level) × (r ≡ closed b e) × (sl ≡ [])
  only_closed pace r sl (at_level (held b g)) fin n c = absurd (cc (noted sid h (untaken_of y x) x.taken y.taken false [] sl fin c).0)
  only_closed pace r sl (at_level (parked b e)) fin n c = absurd (cc (noted sid h (untaken_of y x) x.taken y.taken false [] sl fin c).0)
  only_closed pace r sl (at_level (claimed b u e)) fin n c = absurd (cc (noted sid h (untaken_of y x) x.taken y.taken false [] sl fin c).0)
  only_closed pace r sl (at_level (signalled b u e ds)) fin n c = absurd (cc (noted sid h (untaken_of y x) x.taken y.taken false _ sl fin c).0)
  only_closed pace r sl (at_level (given b u e None ds)) fin n c = absurd (cc (noted sid h (untaken_of y x) x.taken y.taken false [] sl fin c.1).0)
  only_closed pace r sl (at_level (given b u e (Some k) ds)) fin n c = absurd (cc (fin, c.1.1))
  only_closed pace r sl (at_level (closed b e)) fin n c = (b, e, refl, refl, (noted sid h (untaken_of y x) x.taken y.taken true _ sl fin c).1)
  only_closed pace r sl (at_level gone) fin n c = absurd (cc n.1)
  only_closed pace r sl (at_ahead by_ack b u e ds) fin n c = absurd (cc (fin, c.1.1))
  only_closed pace r sl (at_ahead by_signal b u e ds) fin n c = absurd (cc (fin, c.1.1))

-- s closes where no fin was noted: it stays as Closed, and its Fin goes to r
pub closes : {P : Type 0} → (IsOver : P → Type 0) (pace : Pace) (x y : PlainSide P) (sid rid : EndId) (ps pr : P) (a : ℕ) (h : HeldAt P) (r : Seat P)
    (so sl ro rl : List (BodyAt P)) → x.offered ≡ false → IsOver x.place → untaken_of y x ≡ [] → h.fin ≡ false →
    IsSound IsOver pace x y (side_of sid ps (held a h) so sl) (side_of rid pr r ro rl) →
    IsSound IsOver pace x y (side_of sid ps (closed a h.end) so sl)
    (side_of rid pr r (old_after pace r ro (fin_of rid h.end)) (live_after pace r rl (fin_of rid h.end)))
closes {P} IsOver pace x y sid rid ps pr a h r so sl ro rl accepted over none fin sound =
    let fits : Agrees sid h.end x × (x.offered ≡ false → h.end.place ≡ x.place) × (h.end.base ≤ y.taken) = sound.back.fits in
    let met : Meets pace r = held_meets pace a h r sound.numbers in
    record {
      others = sound.others;
      numbers = numbers_closed pace a h r sound.numbers;
      hops = hops_closed pace (x.hops + y.hops) a h r sound.hops;
      there = record {
        fits = sound.there.fits;
        place = sound.there.place;
        resend = tt;
        comes = comes_closed x y sid rid a h fits.0.sent pace r rl met sound.numbers sound.there.comes;
        old = old_closed x y sid rid a h fits.0.sent pace r ro met sound.numbers sound.there.old;
      };
      back = record {
        fits = (fits.0, fits.1 accepted, fits.2, over, none);
        place = sound.back.place;
        resend = sound.back.resend;
        comes = back_closed x y sid rid a h fits.0.sent pace r sl met none fin sound.back.comes;
        old = old_kept x y sid rid a h fits.0.sent pace r so sound.back.old;
      };
    }

module _ {P : Type 0} (IsOver : P → Type 0) (x y : PlainSide P) (sid rid : EndId) (ps pr : P) (a : ℕ) (h : HeldAt P) (so sl ro rl : List (BodyAt P))
    (over : IsOver x.place) (none : untaken_of y x ≡ []) where
  -- r is Closed
  closes_last : (b : ℕ) (e : EndAt P) → sl ≡ [] →
      IsSound IsOver level x y (side_of sid ps (held a h) so sl) (side_of rid pr (closed b e) ro rl) →
      IsSound IsOver level x y (side_of sid ps gone so sl) (side_of rid pr (closed b e) ro (rl ++ fin_of rid h.end))
  closes_last b e empty sound =
      let fits : Agrees sid h.end x × (x.offered ≡ false → h.end.place ≡ x.place) × (h.end.base ≤ y.taken) = sound.back.fits in
      let hops : (h.end.conn + 0 + 0 ≤ x.hops + y.hops) × (e.conn + 0 + 0 ≤ x.hops + y.hops) = sound.hops in
      record {
        others = sound.others;
        numbers = (refl, refl);
        hops = (omega arith, hops.1);
        there = record {
          fits = sound.there.fits;
          place = sound.there.place;
          resend = tt;
          comes = level_closed x y sid rid a h fits.0.sent (closed b e) rl sound.numbers sound.there.comes;
          old = sound.there.old;
        };
        back = record { fits = (over, none); place = sound.back.place; resend = tt; comes = empty; old = sound.back.old };
      }

  -- s closes where the fin was noted: it is gone, and its Fin goes to r
  pub closes_noted : (pace : Pace) (r : Seat P) → h.fin ≡ true →
      IsSound IsOver pace x y (side_of sid ps (held a h) so sl) (side_of rid pr r ro rl) →
      IsSound IsOver pace x y (side_of sid ps gone so sl)
      (side_of rid pr r (old_after pace r ro (fin_of rid h.end)) (live_after pace r rl (fin_of rid h.end)))
  closes_noted pace r fin sound =
      let fits : Agrees sid h.end x × (x.offered ≡ false → h.end.place ≡ x.place) × (h.end.base ≤ y.taken) = sound.back.fits in
      let only : (b : ℕ) × (e : EndAt P) × (pace ≡ level) × (r ≡ closed b e) × (sl ≡ []) =
      only_closed x y sid rid a h fits.0.sent pace r sl (held_meets pace a h r sound.numbers) fin sound.numbers sound.back.comes in
      rw (only.2, only.3) (closes_last only.0 only.1 only.4 (rw (only.2, only.3) at sound))
