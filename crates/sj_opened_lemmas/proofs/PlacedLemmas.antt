-- An offered end gets its place: its session stays sound. And a new session is sound.
use Rattle.std.proofs.Common.{ℕ, ◌+◌, List, [], refl, arith, inl}
use Rattle.std.specs.Prelude.{Bool, true, false, Some, None}
use Rattle.sj_base.specs.declared.EndId.{EndId}
use Rattle.sj_rules.specs.Record.{BodyAt, HeldAt, requested_end, offered_end}
use Rattle.sj_rules.specs.Opened.{new_held}
use Rattle.sj_rules.specs.NodeActs.{held_at}
use Rattle.sj_rules.specs.Acts.{plain_opened, plain_accepted}
use Rattle.sj_rules.specs.Seat.{Seat, held, signalled, given, side_of}
use Rattle.sj_rules.specs.PlainSide.{PlainSide, untaken_of}
use Rattle.sj_rules.specs.Numbers.{Pace, level, ahead, behind, by_ack, by_signal, turned, NumbersFit, IsWithinHops}
use Rattle.sj_rules.specs.Counts.{SeatFits}
use Rattle.sj_rules.specs.Streams.{ComesToHeld}
use Rattle.sj_rules.specs.Coming.{Comes, AreOld}
use Rattle.sj_rules.specs.Invariant.{IsSound}

module _ {P : Type 0} (IsOver : P → Type 0) (x y : PlainSide P) (sid id : EndId) (p : ℕ) (h : HeldAt P) (place : P) where
  numbers_placed : (pace : Pace) (s : Seat P) → NumbersFit pace s (held p h) → NumbersFit pace s (held p (held_at place h))
  numbers_placed pace s n = grind arith

  hops_placed : (pace : Pace) (hops : ℕ) (s : Seat P) → IsWithinHops pace hops s (held p h) → IsWithinHops pace hops s (held p (held_at place h))
  hops_placed level hops s w = w
  hops_placed (ahead c) hops s w = w
  hops_placed (behind c) hops s w = w

  fits_placed : (s : Seat P) → SeatFits IsOver sid y x s → SeatFits IsOver sid (plain_accepted y place) x s
  fits_placed (held a g) f = f
  fits_placed s f = f

  held_placed : (over : Bool) (mark live : List (BodyAt P)) → ComesToHeld id h (untaken_of x y) y.taken x.taken over mark live → ComesToHeld id (held_at place h) (untaken_of x y) y.taken x.taken over mark live
  held_placed over mark live c = record { rest = c.rest; all = c.all; comes = c.comes }

  comes_placed : (pace : Pace) (s : Seat P) (live : List (BodyAt P)) → Comes pace id x y s (held p h) live → Comes pace id x (plain_accepted y place) s (held p (held_at place h)) live
  comes_placed (behind by_ack) s live c = c
  comes_placed (behind by_signal) s live c = c
  comes_placed level (given a t e None ds) live c = (c.0, held_placed _ _ live c.1)
  comes_placed level (given a t e (Some k) ds) live c = c
  comes_placed level s live c = held_placed _ _ live c
  comes_placed (ahead z) (given a t e None ds) live c = (c.0, held_placed _ _ live c.1)
  comes_placed (ahead z) (given a t e (Some k) ds) live c = c
  comes_placed (ahead z) s live c = held_placed _ _ live c

  old_placed : (pace : Pace) (s : Seat P) (old : List (BodyAt P)) → AreOld pace id x s (held p h) old → AreOld pace id x s (held p (held_at place h)) old
  old_placed (behind c) s old o = o
  old_placed level s old o = o
  old_placed (ahead c) s old o = o

  back_placed : (pace : Pace) (s : Seat P) (live : List (BodyAt P)) → Comes pace sid y x (held p h) s live → Comes pace sid (plain_accepted y place) x (held p (held_at place h)) s live
  back_placed (behind by_ack) (held a g) live c = c
  back_placed (behind by_ack) s live c = c
  back_placed (behind by_signal) (held a g) live c = c
  back_placed (behind by_signal) s live c = c
  back_placed level (signalled a t e ds) live c = c
  back_placed level s live c = c
  back_placed (ahead by_ack) (signalled a t e ds) live c = c
  back_placed (ahead by_ack) s live c = c
  back_placed (ahead by_signal) (signalled a t e ds) live c = c
  back_placed (ahead by_signal) s live c = c

  back_old_placed : (pace : Pace) (s : Seat P) (old : List (BodyAt P)) → AreOld pace sid y (held p h) s old → AreOld pace sid (plain_accepted y place) (held p (held_at place h)) s old
  back_old_placed (behind c) s old o = o
  back_old_placed level s old o = o
  back_old_placed (ahead by_ack) s old o = o
  back_old_placed (ahead by_signal) s old o = o

  -- an offered end that gets its place
  pub placed_sound : (pace : Pace) (ps pr : P) (s : Seat P) (so sl old live : List (BodyAt P)) → IsSound IsOver pace x y (side_of sid ps s so sl) (side_of id pr (held p h) old live) →
      IsSound IsOver pace x (plain_accepted y place) (side_of sid ps s so sl) (side_of id place (held p (held_at place h)) old live)
  placed_sound pace ps pr s so sl old live sound = record {
    others = sound.others;
    numbers = numbers_placed pace s sound.numbers;
    hops = hops_placed pace (x.hops + y.hops) s sound.hops;
    there = record {
      fits = (
        record { name = sound.there.fits.0.name; hops = sound.there.fits.0.hops; sent = sound.there.fits.0.sent; taken = sound.there.fits.0.taken; cache = sound.there.fits.0.cache },
        λ unoffered. refl,
        sound.there.fits.2,
      );
      place = refl;
      resend = sound.there.resend;
      comes = comes_placed pace s live sound.there.comes;
      old = old_placed pace s old sound.there.old;
    };
    back = record {
      fits = fits_placed s sound.back.fits;
      place = sound.back.place;
      resend = tt;
      comes = back_placed (turned pace) s sl sound.back.comes;
      old = back_old_placed (turned pace) s so sound.back.old;
    };
  }

-- the two ends of a new session
pub opened_sound : {P : Type 0} → (IsOver : P → Type 0) (blank place there : P) (p to sess : ℕ) →
    IsSound IsOver level (plain_opened place false) (plain_opened there true)
    (side_of (requested_end sess) place (held p (new_held (requested_end sess) place to)) [] []) (side_of (offered_end sess) there (held to (new_held (offered_end sess) blank p)) [] [])
opened_sound IsOver blank place there p to sess = record {
  others = refl;
  numbers = (refl, refl, refl);
  hops = (omega arith, omega arith);
  there = record {
    fits = (record { name = refl; hops = refl; sent = refl; taken = refl; cache = refl }, λ unoffered. absurd (cc unoffered), omega arith);
    place = refl;
    resend = tt;
    comes = record { rest = []; all = refl; comes = inl (refl, record { carries = []; split = refl; are = omega arith }) };
    old = refl;
  };
  back = record {
    fits = (record { name = refl; hops = refl; sent = refl; taken = refl; cache = refl }, λ unoffered. refl, omega arith);
    place = refl;
    resend = tt;
    comes = record { rest = []; all = refl; comes = inl (refl, record { carries = []; split = refl; are = omega arith }) };
    old = refl;
  };
}
