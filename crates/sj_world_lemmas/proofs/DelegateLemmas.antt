-- A Held end is parked, and its session message is taken.
use Rattle.std.proofs.Common.{false, Some, None, ◌≡◌, ℕ, ◌+◌, ◌≤◌, List, ap, refl, arith}
use Rattle.sj_base.specs.declared.EndId.{EndId}
use Rattle.sj_rules.specs.Record.{EndAt, BodyAt, HeldAt}
use Rattle.sj_rules.specs.Seat.{Seat, held, parked, claimed, signalled, given, side_of}
use Rattle.sj_rules.specs.PlainSide.{PlainSide}
use Rattle.sj_rules.specs.Counts.{Agrees, SeatFits}
use Rattle.sj_rules.specs.Acts.{plain_parked, plain_placed, parked_end}
use Rattle.sj_rules.specs.Numbers.{Pace, level, ahead, behind, by_ack, by_signal, turned, NumbersFit, IsWithinHops}
use Rattle.sj_rules.specs.Coming.{Comes, AreOld}
use Rattle.sj_rules.specs.Invariant.{IsSound}
use Rattle.sj_world_lemmas.proofs.AppendLemmas.{Meets, at_level, at_ahead, held_meets}
use Rattle.sj_world_lemmas.proofs.SwapLemmas.{swap_numbers}
use Rattle.sj_world_lemmas.proofs.ParkLemmas.{parked_comes}

-- the numbers, the peers and the senders are the same
numbers_parked : {P : Type 0} → (pace : Pace) (a : ℕ) (h : HeldAt P) (r : Seat P) → NumbersFit pace (held a h) r → NumbersFit pace (parked a (parked_end h.end)) r
numbers_parked pace a h r n = grind arith

-- the hops count one more, and so does what is pending
hops_parked : {P : Type 0} → (pace : Pace) (m n a : ℕ) (h : HeldAt P) (r : Seat P) →
    IsWithinHops pace (m + n) (held a h) r → IsWithinHops pace (m + 1 + n) (parked a (parked_end h.end)) r
hops_parked pace m n a h r w = grind arith

module _ {P : Type 0} (IsOver : P → Type 0) (x y : PlainSide P) (sid rid : EndId) (a : ℕ) (h : HeldAt P) where
  -- r's record is the same
  fits_parked : (r : Seat P) → SeatFits IsOver rid x y r → SeatFits IsOver rid (plain_parked x) y r
  fits_parked r f = grind arith

  -- what comes to r is the same
  comes_parked : (pace : Pace) (r : Seat P) (rl : List (BodyAt P)) → NumbersFit pace (held a h) r → Comes pace rid x y (held a h) r rl →
      Comes pace rid (plain_parked x) y (parked a (parked_end h.end)) r rl
  comes_parked pace r rl n c = grind arith

  -- so is what comes to it under the number that it leaves
  old_parked : (pace : Pace) (r : Seat P) (ro : List (BodyAt P)) → NumbersFit pace (held a h) r → AreOld pace rid x (held a h) r ro →
      AreOld pace rid (plain_parked x) (parked a (parked_end h.end)) r ro
  old_parked pace r ro n o = grind arith

  -- what comes to s may be dropped
  back_parked : (pace : Pace) (r : Seat P) (sl : List (BodyAt P)) → Meets pace r → NumbersFit pace (held a h) r →
      Comes (turned pace) sid y x r (held a h) sl → Comes (turned pace) sid y (plain_parked x) r (parked a (parked_end h.end)) sl
  back_parked pace r sl (at_level s) n c =
      parked_comes y x (plain_parked x) rid sid a h (parked_end h.end) refl refl s sl (swap_numbers level (held a h) s n) c
  back_parked pace r sl (at_ahead by_ack b u e ds) n c = (c.0, tt)
  back_parked pace r sl (at_ahead by_signal b u e ds) n c = (c.0, tt)

  -- nothing comes to s under a number that it leaves
  old_kept : (pace : Pace) (r : Seat P) (so : List (BodyAt P)) → AreOld (turned pace) sid y r (held a h) so →
      AreOld (turned pace) sid y r (parked a (parked_end h.end)) so
  old_kept pace r so o = grind arith

-- s is parked: it counts one hop more, and what was untaken is dropped
pub parks : {P : Type 0} → (IsOver : P → Type 0) (pace : Pace) (x y : PlainSide P) (sid rid : EndId) (ps pr : P) (a : ℕ) (h : HeldAt P) (r : Seat P)
    (so sl ro rl : List (BodyAt P)) → x.offered ≡ false →
    IsSound IsOver pace x y (side_of sid ps (held a h) so sl) (side_of rid pr r ro rl) →
    IsSound IsOver pace (plain_parked x) y (side_of sid ps (parked a (parked_end h.end)) so sl) (side_of rid pr r ro rl)
parks IsOver pace x y sid rid ps pr a h r so sl ro rl accepted sound =
    let fits : Agrees sid h.end x × (x.offered ≡ false → h.end.place ≡ x.place) × (h.end.base ≤ y.taken) = sound.back.fits in
    let met : Meets pace r = held_meets pace a h r sound.numbers in
    record {
      others = sound.others;
      numbers = numbers_parked pace a h r sound.numbers;
      hops = hops_parked pace x.hops y.hops a h r sound.hops;
      there = record {
        fits = fits_parked IsOver x y sid rid a h r sound.there.fits;
        place = sound.there.place;
        resend = tt;
        comes = comes_parked IsOver x y sid rid a h pace r rl sound.numbers sound.there.comes;
        old = old_parked IsOver x y sid rid a h pace r ro sound.numbers sound.there.old;
      };
      back = record {
        fits = (
          record { name = fits.0.name; hops = ap (λ n. n + 1) fits.0.hops; sent = fits.0.sent; taken = fits.0.taken; cache = fits.0.cache },
          fits.1 accepted,
          fits.2,
        );
        place = sound.back.place;
        resend = sound.back.resend;
        comes = back_parked IsOver x y sid rid a h pace r sl met sound.numbers sound.back.comes;
        old = old_kept IsOver x y sid rid a h pace r so sound.back.old;
      };
    }

-- a parked end of which another party took the session message is as before
numbers_claimed : {P : Type 0} → (pace : Pace) (a t : ℕ) (e : EndAt P) (r : Seat P) → NumbersFit pace (parked a e) r → NumbersFit pace (claimed a t e) r
numbers_claimed pace a t e r n = grind arith

-- it is still pending
hops_claimed : {P : Type 0} → (pace : Pace) (hops a t : ℕ) (e : EndAt P) (r : Seat P) → IsWithinHops pace hops (parked a e) r → IsWithinHops pace hops (claimed a t e) r
hops_claimed pace hops a t e r w = grind arith

module _ {P : Type 0} (x y : PlainSide P) (sid rid : EndId) (a t : ℕ) (d : EndAt P) where
  -- what comes to r is the same
  comes_claimed : (pace : Pace) (r : Seat P) (rl : List (BodyAt P)) → NumbersFit pace (parked a d) r → Comes pace rid x y (parked a d) r rl →
      Comes pace rid x y (claimed a t d) r rl
  comes_claimed pace r rl n c = grind arith

  -- so is what comes to it under the number that it leaves
  old_claimed : (pace : Pace) (r : Seat P) (ro : List (BodyAt P)) → NumbersFit pace (parked a d) r → AreOld pace rid x (parked a d) r ro →
      AreOld pace rid x (claimed a t d) r ro
  old_claimed pace r ro n o = grind arith

  -- what comes to s is the same
  back_claimed : (pace : Pace) (r : Seat P) (sl : List (BodyAt P)) → NumbersFit pace (parked a d) r →
      Comes (turned pace) sid y x r (parked a d) sl → Comes (turned pace) sid y x r (claimed a t d) sl
  back_claimed pace r sl n c = grind arith

  -- nothing comes to s under a number that it leaves
  old_awaited : (pace : Pace) (r : Seat P) (so : List (BodyAt P)) → AreOld (turned pace) sid y r (parked a d) so → AreOld (turned pace) sid y r (claimed a t d) so
  old_awaited pace r so o = grind arith

-- the session message of s is taken by t, who awaits the end
pub claims : {P : Type 0} → (IsOver : P → Type 0) (pace : Pace) (x y : PlainSide P) (sid rid : EndId) (ps pr : P) (a t : ℕ) (d : EndAt P) (r : Seat P)
    (so sl ro rl : List (BodyAt P)) →
    IsSound IsOver pace x y (side_of sid ps (parked a d) so sl) (side_of rid pr r ro rl) →
    IsSound IsOver pace x y (side_of sid ps (claimed a t d) so sl) (side_of rid pr r ro rl)
claims IsOver pace x y sid rid ps pr a t d r so sl ro rl sound = record {
  others = sound.others;
  numbers = numbers_claimed pace a t d r sound.numbers;
  hops = hops_claimed pace (x.hops + y.hops) a t d r sound.hops;
  there = record {
    fits = sound.there.fits;
    place = sound.there.place;
    resend = tt;
    comes = comes_claimed x y sid rid a t d pace r rl sound.numbers sound.there.comes;
    old = old_claimed x y sid rid a t d pace r ro sound.numbers sound.there.old;
  };
  back = record {
    fits = (sound.back.fits.0, sound.back.fits.2);
    place = sound.back.place;
    resend = sound.back.resend;
    comes = back_claimed x y sid rid a t d pace r sl sound.numbers sound.back.comes;
    old = old_awaited x y sid rid a t d pace r so sound.back.old;
  };
}

module _ {P : Type 0} (IsOver : P → Type 0) (x y : PlainSide P) (sid id : EndId) (b u : ℕ) (e : EndAt P) (place : P) where
  fits_placed : (s : Seat P) → SeatFits IsOver sid y x s → SeatFits IsOver sid (plain_placed y place) x s
  fits_placed s f = f

  comes_placed : (pace : Pace) (s : Seat P) (live : List (BodyAt P)) → Comes pace id x y s (claimed b u e) live → Comes pace id x (plain_placed y place) s (claimed b u e) live
  comes_placed (behind by_ack) s live c = c
  comes_placed (behind by_signal) s live c = c
  comes_placed level (given a t k None ds) live c = c
  comes_placed level (given a t k (Some n) ds) live c = c
  comes_placed level s live c = c
  comes_placed (ahead z) (given a t k None ds) live c = c
  comes_placed (ahead z) (given a t k (Some n) ds) live c = c
  comes_placed (ahead z) s live c = c

  back_placed : (pace : Pace) (s : Seat P) (live : List (BodyAt P)) → Comes pace sid y x (claimed b u e) s live → Comes pace sid (plain_placed y place) x (claimed b u e) s live
  back_placed (behind by_ack) s live c = c
  back_placed (behind by_signal) s live c = c
  back_placed level (signalled a t k ds) live c = c
  back_placed level s live c = c
  back_placed (ahead by_ack) s live c = c
  back_placed (ahead by_signal) s live c = c

  back_old_placed : (pace : Pace) (s : Seat P) (old : List (BodyAt P)) → AreOld pace sid y (claimed b u e) s old → AreOld pace sid (plain_placed y place) (claimed b u e) s old
  back_old_placed (behind c) s old o = o
  back_old_placed level s old o = o
  back_old_placed (ahead by_ack) s old o = o
  back_old_placed (ahead by_signal) s old o = o

  -- an end that is awaited gets the place of its Expected record
  pub claimed_placed : (pace : Pace) (ps pr : P) (s : Seat P) (so sl old live : List (BodyAt P)) → IsSound IsOver pace x y (side_of sid ps s so sl) (side_of id pr (claimed b u e) old live) →
      IsSound IsOver pace x (plain_placed y place) (side_of sid ps s so sl) (side_of id place (claimed b u e) old live)
  claimed_placed pace ps pr s so sl old live sound = record {
    others = sound.others;
    numbers = sound.numbers;
    hops = sound.hops;
    there = record {
      fits = (
        record { name = sound.there.fits.0.name; hops = sound.there.fits.0.hops; sent = sound.there.fits.0.sent; taken = sound.there.fits.0.taken; cache = sound.there.fits.0.cache },
        sound.there.fits.1,
      );
      place = refl;
      resend = sound.there.resend;
      comes = comes_placed pace s live sound.there.comes;
      old = sound.there.old;
    };
    back = record {
      fits = fits_placed s sound.back.fits;
      place = sound.back.place;
      resend = tt;
      comes = back_placed (turned pace) s sl sound.back.comes;
      old = back_old_placed (turned pace) s so sound.back.old;
    };
  }
