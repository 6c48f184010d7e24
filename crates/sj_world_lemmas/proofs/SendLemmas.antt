-- A message is sent on a Held end.
use Rattle.std.proofs.Common.{◌≡◌, ℕ, ◌+◌, ◌≤◌, List, [], ◌∷◌, ◌++◌, length, refl, sym, ap, append_assoc, arith, ◌∙◌}
use Rattle.std.specs.Prelude.{false}
use Rattle.std.proofs.lemmas.List.{drop-append-le, length-drop, length-append}
use Rattle.sj_base.specs.declared.EndId.{EndId}
use Rattle.sj_base.specs.declared.Msg.{Msg}
use Rattle.sj_rules.specs.Record.{BodyAt, HeldAt}
use Rattle.sj_rules.specs.Node.{held_behind_send}
use Rattle.sj_rules.specs.Seat.{Seat, held, parked, claimed, signalled, given, closed, gone, side_of}
use Rattle.sj_rules.specs.PlainSide.{PlainSide, untaken_of}
use Rattle.sj_rules.specs.Counts.{Agrees, SeatFits}
use Rattle.sj_rules.specs.Acts.{plain_sent, carry_of}
use Rattle.sj_rules.specs.Numbers.{Pace, level, by_ack, by_signal, turned, NumbersFit, IsWithinHops}
use Rattle.sj_rules.specs.Streams.{ComesLoose, ComesWhole}
use Rattle.sj_rules.specs.Coming.{Comes, AreOld}
use Rattle.sj_rules.specs.Invariant.{IsSound}
use Rattle.sj_world_lemmas.proofs.InstallLemmas.{live_after, old_after, loose_more}
use Rattle.sj_world_lemmas.proofs.AppendLemmas.{Meets, at_level, at_ahead, held_meets, whole_more, held_more}

-- the numbers go together as before
pub numbers_held : {P : Type 0} → (pace : Pace) (a : ℕ) (h g : HeldAt P) (r : Seat P) → g.end.conn ≡ h.end.conn → g.end.peer ≡ h.end.peer →
    NumbersFit pace (held a h) r → NumbersFit pace (held a g) r
numbers_held pace a h g r c p n = grind arith

-- the hops too
pub hops_held : {P : Type 0} → (pace : Pace) (hops a : ℕ) (h g : HeldAt P) (r : Seat P) → g.end.conn ≡ h.end.conn →
    IsWithinHops pace hops (held a h) r → IsWithinHops pace hops (held a g) r
hops_held pace hops a h g r c n = grind arith

module _ {P : Type 0} (IsOver : P → Type 0) (x y : PlainSide P) (sid rid : EndId) (a : ℕ) (h : HeldAt P) (m : Msg) (place : P)
    (agrees : Agrees sid h.end x) (few : y.taken ≤ length x.sent) where
  -- what then waits for r
  untaken_more : untaken_of (plain_sent x place m) y ≡ untaken_of x y ++ m ∷ []
  untaken_more = drop-append-le y.taken x.sent (m ∷ []) few

  -- the number of the message is the next one
  number_is : h.end.sent ≡ y.taken + length (untaken_of x y)
  number_is = omega (arith, agrees.sent, few, length-drop y.taken x.sent)

  -- r's record is the same: it isn't over
  fits_sent : (r : Seat P) → ¬ IsOver y.place → SeatFits IsOver rid x y r → SeatFits IsOver rid (plain_sent x place m) y r
  fits_sent r goes_on f = grind arith

  -- the Carry after what is whole
  whole_sent : (c low : ℕ) (ds live : List (BodyAt P)) → h.end.conn ≡ c →
      ComesWhole rid c y.taken low x.taken [] (untaken_of x y) (ds ++ live) →
      ComesWhole rid c y.taken low x.taken [] (untaken_of (plain_sent x place m) y) (ds ++ (live ++ carry_of rid h.end m))
  whole_sent c low ds live same w =
      rw (untaken_more, ← append_assoc ds live (carry_of rid h.end m))
      (whole_more rid c y.taken low x.taken (untaken_of x y) (ds ++ live) m h.end.conn h.end.sent h.end.taken same number_is agrees.taken w)

  -- the Carry after what may be dropped
  loose_sent : (c : ℕ) (live : List (BodyAt P)) → h.end.conn ≡ c → ComesLoose rid c false [] live →
      ComesLoose rid c false [] (live ++ carry_of rid h.end m)
  loose_sent c live same w = loose_more rid c live (carry_of rid h.end m) w (refl, same, tt)

  -- what comes to r where the numbers are equal
  level_sent : (r : Seat P) (rl : List (BodyAt P)) → ¬ IsOver y.place → SeatFits IsOver rid x y r → NumbersFit level (held a h) r →
      Comes level rid x y (held a h) r rl →
      Comes level rid (plain_sent x place m) y (held a (held_behind_send h m place)) r (live_after level r rl (carry_of rid h.end m))
  level_sent (held b g) rl goes_on f n c =
      rw untaken_more (held_more rid g (untaken_of x y) y.taken x.taken rl m h.end.conn h.end.sent h.end.taken n.0 number_is agrees.taken c)
  level_sent (parked b e) rl goes_on f n c = loose_sent e.conn rl n.0 c
  level_sent (claimed b u e) rl goes_on f n c = loose_sent e.conn rl n.0 c
  level_sent (signalled b u e ds) rl goes_on f n c = c
  level_sent (given b u e k ds) rl goes_on f n c = whole_sent e.conn e.base ds rl n.0 c
  level_sent (closed b e) rl goes_on f n c = absurd (goes_on f.3)
  level_sent gone rl goes_on f n c = absurd (goes_on f.0)

  -- what comes to r
  comes_sent : (pace : Pace) (r : Seat P) (rl : List (BodyAt P)) → Meets pace r → ¬ IsOver y.place → SeatFits IsOver rid x y r →
      NumbersFit pace (held a h) r → Comes pace rid x y (held a h) r rl →
      Comes pace rid (plain_sent x place m) y (held a (held_behind_send h m place)) r (live_after pace r rl (carry_of rid h.end m))
  comes_sent pace r rl (at_level s) goes_on f n c = level_sent s rl goes_on f n c
  comes_sent pace r rl (at_ahead by_ack b u e ds) goes_on f n c = whole_sent (e.conn + 1) e.base ds rl n.0 c
  comes_sent pace r rl (at_ahead by_signal b u e ds) goes_on f n c = whole_sent (e.conn + 1) x.taken ds rl n.0 c

  -- what comes to r under the number that it leaves
  old_sent : (pace : Pace) (r : Seat P) (ro : List (BodyAt P)) → Meets pace r → NumbersFit pace (held a h) r →
      AreOld pace rid x (held a h) r ro →
      AreOld pace rid (plain_sent x place m) (held a (held_behind_send h m place)) r (old_after pace r ro (carry_of rid h.end m))
  old_sent pace r ro (at_level (held b g)) n o = o
  old_sent pace r ro (at_level (parked b e)) n o = o
  old_sent pace r ro (at_level (claimed b u e)) n o = o
  old_sent pace r ro (at_level (signalled b u e ds)) n o = loose_sent e.conn ro n.0 o
  old_sent pace r ro (at_level (given b u e k ds)) n o = o
  old_sent pace r ro (at_level (closed b e)) n o = o
  old_sent pace r ro (at_level gone) n o = o
  old_sent pace r ro (at_ahead by_ack b u e ds) n o = o
  old_sent pace r ro (at_ahead by_signal b u e ds) n o = o

  -- what comes to s
  back_sent : (pace : Pace) (r : Seat P) (sl : List (BodyAt P)) → NumbersFit pace (held a h) r →
      Comes (turned pace) sid y x r (held a h) sl → Comes (turned pace) sid y (plain_sent x place m) r (held a (held_behind_send h m place)) sl
  back_sent pace r sl n c = grind arith

  -- nothing comes to s under a number that it leaves
  old_kept : (pace : Pace) (r : Seat P) (so : List (BodyAt P)) → AreOld (turned pace) sid y r (held a h) so →
      AreOld (turned pace) sid y r (held a (held_behind_send h m place)) so
  old_kept pace r so o = grind arith

  -- s's own record
  agrees_sent : h.end.base ≤ y.taken → Agrees sid (held_behind_send h m place).end (plain_sent x place m)
  agrees_sent low = record {
    name = agrees.name;
    hops = agrees.hops;
    sent = ap (λ n. n + 1) agrees.sent ∙ sym (length-append x.sent (m ∷ []));
    taken = agrees.taken;
    cache = ap (λ l. l ++ m ∷ []) agrees.cache ∙ sym (drop-append-le h.end.base x.sent (m ∷ []) (omega (arith, low, few)));
  }

-- s sends the message: its place and cache go on, and a Carry goes to r's stream from it
pub sends : {P : Type 0} → (IsOver : P → Type 0) (pace : Pace) (x y : PlainSide P) (sid rid : EndId) (ps pr : P) (a : ℕ) (h : HeldAt P) (r : Seat P)
    (so sl ro rl : List (BodyAt P)) (m : Msg) (place : P) → ¬ IsOver y.place → y.taken ≤ length x.sent →
    IsSound IsOver pace x y (side_of sid ps (held a h) so sl) (side_of rid pr r ro rl) →
    IsSound IsOver pace (plain_sent x place m) y (side_of sid place (held a (held_behind_send h m place)) so sl)
    (side_of rid pr r (old_after pace r ro (carry_of rid h.end m)) (live_after pace r rl (carry_of rid h.end m)))
sends {P} IsOver pace x y sid rid ps pr a h r so sl ro rl m place goes_on few sound =
    let fits : Agrees sid h.end x × (x.offered ≡ false → h.end.place ≡ x.place) × (h.end.base ≤ y.taken) = sound.back.fits in
    let met : Meets pace r = held_meets pace a h r sound.numbers in
    record {
      others = sound.others;
      numbers = numbers_held pace a h (held_behind_send h m place) r refl refl sound.numbers;
      hops = hops_held pace (x.hops + y.hops) a h (held_behind_send h m place) r refl sound.hops;
      there = record {
        fits = fits_sent IsOver x y sid rid a h m place fits.0 few r goes_on sound.there.fits;
        place = sound.there.place;
        resend = tt;
        comes = comes_sent IsOver x y sid rid a h m place fits.0 few pace r rl met goes_on sound.there.fits sound.numbers sound.there.comes;
        old = old_sent IsOver x y sid rid a h m place fits.0 few pace r ro met sound.numbers sound.there.old;
      };
      back = record {
        fits = (agrees_sent IsOver x y sid rid a h m place fits.0 few fits.2, λ unoffered. refl, fits.2);
        place = refl;
        resend = sound.back.resend;
        comes = back_sent IsOver x y sid rid a h m place fits.0 few pace r sl sound.numbers sound.back.comes;
        old = old_kept IsOver x y sid rid a h m place fits.0 few pace r so sound.back.old;
      };
    }
