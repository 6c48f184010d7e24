-- The Claim of an end comes to its keeper: the end is Signalled.
use Rattle.std.proofs.Common.{◌≡◌, ℕ, ◌+◌, ◌≤◌, List, [], ◌∷◌, ◌++◌, append_assoc, arith}
use Rattle.std.specs.Prelude.{false, Some, None}
use Rattle.sj_base.specs.declared.EndId.{EndId}
use Rattle.sj_rules.specs.Record.{EndAt, BodyAt, Signal}
use Rattle.sj_rules.specs.Seat.{Seat, held, parked, claimed, signalled, given, closed, gone, side_of}
use Rattle.sj_rules.specs.PlainSide.{PlainSide, untaken_of}
use Rattle.sj_rules.specs.Counts.{Agrees}
use Rattle.sj_rules.specs.Acts.{signal_to}
use Rattle.sj_rules.specs.Numbers.{Pace, level, by_ack, by_signal, turned, NumbersFit, IsWithinHops}
use Rattle.sj_rules.specs.Streams.{ComesWhole, ComesLoose}
use Rattle.sj_rules.specs.Coming.{Comes, AreOld}
use Rattle.sj_rules.specs.Invariant.{IsSound}
use Rattle.sj_world_lemmas.proofs.InstallLemmas.{live_after, old_after}
use Rattle.sj_world_lemmas.proofs.SignalLemmas.{marked}
use Rattle.sj_world_lemmas.proofs.AppendLemmas.{Meets, at_level, at_ahead, claimed_meets, whole_marked, held_marked}

-- the numbers go together as before
numbers_signalled : {P : Type 0} → (pace : Pace) (a t : ℕ) (d : EndAt P) (r : Seat P) → NumbersFit pace (claimed a t d) r → NumbersFit pace (signalled a t d []) r
numbers_signalled pace a t d r n = grind arith

-- it is still pending
hops_signalled : {P : Type 0} → (pace : Pace) (hops a t : ℕ) (d : EndAt P) (r : Seat P) → IsWithinHops pace hops (claimed a t d) r → IsWithinHops pace hops (signalled a t d []) r
hops_signalled pace hops a t d r w = grind arith

module _ {P : Type 0} (x y : PlainSide P) (sid rid : EndId) (a t : ℕ) (d : EndAt P) (taken : d.taken ≡ x.taken) where
  -- the Signal after what is whole
  whole_signalled : (c low : ℕ) (ds live : List (BodyAt P)) → d.conn ≡ c → ComesWhole rid c y.taken low x.taken [] (untaken_of x y) (ds ++ live) →
      ComesWhole rid c y.taken low x.taken (Signal rid c t x.taken ∷ []) (untaken_of x y) (ds ++ (live ++ signal_to rid d t))
  whole_signalled c low ds live same w =
      rw (← append_assoc ds live (signal_to rid d t), same, taken)
      (whole_marked rid c y.taken low x.taken (untaken_of x y) (ds ++ live) (Signal rid c t x.taken ∷ []) w)

  -- the Signal after what may be dropped
  loose_signalled : (c : ℕ) (live : List (BodyAt P)) → d.conn ≡ c → ComesLoose rid c false [] live →
      ComesLoose rid c false (Signal rid c t x.taken ∷ []) (live ++ signal_to rid d t)
  loose_signalled c live same l = rw (same, taken) (marked rid c false live (Signal rid c t x.taken ∷ []) l)

  -- what comes to r where the numbers are equal
  level_signalled : (r : Seat P) (rl : List (BodyAt P)) → NumbersFit level (claimed a t d) r → Comes level rid x y (claimed a t d) r rl →
      Comes level rid x y (signalled a t d []) r (live_after level r rl (signal_to rid d t))
  level_signalled (held b g) rl n c =
      rw (n.0, taken) (held_marked rid g (untaken_of x y) y.taken x.taken rl false (Signal rid g.end.conn t x.taken ∷ []) c)
  level_signalled (parked b e) rl n c = loose_signalled e.conn rl n.0 c
  level_signalled (claimed b u e) rl n c = loose_signalled e.conn rl n.0 c
  level_signalled (signalled b u e ds) rl n c = c
  level_signalled (given b u e k ds) rl n c = whole_signalled e.conn e.base ds rl n.0 c
  level_signalled (closed b e) rl n c = rw (c, n.0, taken)
  level_signalled gone rl n c = absurd (cc n.1)

  -- what comes to r
  comes_signalled : (pace : Pace) (r : Seat P) (rl : List (BodyAt P)) → Meets pace r → NumbersFit pace (claimed a t d) r → Comes pace rid x y (claimed a t d) r rl →
      Comes pace rid x y (signalled a t d []) r (live_after pace r rl (signal_to rid d t))
  comes_signalled pace r rl (at_level s) n c = level_signalled s rl n c
  comes_signalled pace r rl (at_ahead by_ack b u e ds) n c = whole_signalled (e.conn + 1) e.base ds rl n.0 c
  comes_signalled pace r rl (at_ahead by_signal b u e ds) n c = whole_signalled (e.conn + 1) x.taken ds rl n.0 c

  -- what comes to r under the number that it leaves
  old_signalled : (pace : Pace) (r : Seat P) (ro : List (BodyAt P)) → Meets pace r → NumbersFit pace (claimed a t d) r → AreOld pace rid x (claimed a t d) r ro →
      AreOld pace rid x (signalled a t d []) r (old_after pace r ro (signal_to rid d t))
  old_signalled pace r ro (at_level (held b g)) n o = o
  old_signalled pace r ro (at_level (parked b e)) n o = o
  old_signalled pace r ro (at_level (claimed b u e)) n o = o
  old_signalled pace r ro (at_level (signalled b u e ds)) n o = loose_signalled e.conn ro n.0 o
  old_signalled pace r ro (at_level (given b u e k ds)) n o = o
  old_signalled pace r ro (at_level (closed b e)) n o = o
  old_signalled pace r ro (at_level gone) n o = o
  old_signalled pace r ro (at_ahead by_ack b u e ds) n o = o
  old_signalled pace r ro (at_ahead by_signal b u e ds) n o = o

  -- nothing comes yet under the next number
  back_signalled : (pace : Pace) (r : Seat P) (sl : List (BodyAt P)) → NumbersFit pace (claimed a t d) r →
      Comes (turned pace) sid y x r (claimed a t d) sl → Comes (turned pace) sid y x r (signalled a t d []) []
  back_signalled pace r sl n c = grind arith

  -- what comes under its own number will be dropped
  back_old : (pace : Pace) (r : Seat P) (sl : List (BodyAt P)) → Meets pace r →
      Comes (turned pace) sid y x r (claimed a t d) sl → AreOld (turned pace) sid y r (signalled a t d []) sl
  back_old pace r sl (at_level (held b g)) c = c
  back_old pace r sl (at_level (parked b e)) c = c
  back_old pace r sl (at_level (claimed b u e)) c = c
  back_old pace r sl (at_level (signalled b u e ds)) c = c
  back_old pace r sl (at_level (given b u e None ds)) c = c.1
  back_old pace r sl (at_level (given b u e (Some k) ds)) c = record { dropped = []; split = c.0; are = tt }
  back_old pace r sl (at_level (closed b e)) c = c
  back_old pace r sl (at_level gone) c = c
  back_old pace r sl (at_ahead by_ack b u e ds) c = c.0
  back_old pace r sl (at_ahead by_signal b u e ds) c = c.0

-- s is Signalled: its Signal goes to r, what came under its number is dropped, and under the next
-- one nothing has come
pub signals : {P : Type 0} → (IsOver : P → Type 0) (pace : Pace) (x y : PlainSide P) (sid rid : EndId) (ps pr : P) (a t : ℕ) (d : EndAt P) (r : Seat P)
    (so sl ro rl : List (BodyAt P)) →
    IsSound IsOver pace x y (side_of sid ps (claimed a t d) so sl) (side_of rid pr r ro rl) →
    IsSound IsOver pace x y (side_of sid ps (signalled a t d []) sl [])
    (side_of rid pr r (old_after pace r ro (signal_to rid d t)) (live_after pace r rl (signal_to rid d t)))
signals IsOver pace x y sid rid ps pr a t d r so sl ro rl sound =
    let fits : Agrees sid d x × (d.base ≤ y.taken) = sound.back.fits in
    let met : Meets pace r = claimed_meets pace a t d r sound.numbers in
    record {
      others = sound.others;
      numbers = numbers_signalled pace a t d r sound.numbers;
      hops = hops_signalled pace (x.hops + y.hops) a t d r sound.hops;
      there = record {
        fits = sound.there.fits;
        place = sound.there.place;
        resend = tt;
        comes = comes_signalled x y sid rid a t d fits.0.taken pace r rl met sound.numbers sound.there.comes;
        old = old_signalled x y sid rid a t d fits.0.taken pace r ro met sound.numbers sound.there.old;
      };
      back = record {
        fits = fits;
        place = sound.back.place;
        resend = sound.back.resend;
        comes = back_signalled x y sid rid a t d fits.0.taken pace r sl sound.numbers sound.back.comes;
        old = back_old x y sid rid a t d fits.0.taken pace r sl met sound.back.comes;
      };
    }
