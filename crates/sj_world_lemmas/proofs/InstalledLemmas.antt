-- A Give that comes: `install` whole, at each pace.
use Rattle.std.proofs.Common.{◌≡◌, ℕ, ◌+◌, ◌≤◌, List, [], ◌∷◌, ◌++◌, length, refl, sym, ap, subst, arith, ◌∙◌, inl, inr, append-nil}
use Rattle.std.specs.Prelude.{true, Option, Some, None, ◌⊎◌, nat_le}
use Rattle.std.proofs.lemmas.Bool.{le-leb}
use Rattle.sj_base.specs.declared.EndId.{EndId}
use Rattle.sj_rules.specs.Record.{EndAt, BodyAt, Ack, HeldAt}
use Rattle.sj_rules.specs.Rows.{IsPick, install, resend_fits, resent_at}
use Rattle.sj_rules.specs.Seat.{Seat, held, signalled, given, gone, side_of}
use Rattle.sj_rules.specs.PlainSide.{PlainSide, untaken_of, CountsFit}
use Rattle.sj_rules.specs.Counts.{Agrees, ResendFits}
use Rattle.sj_rules.specs.Numbers.{Pace, level, ahead, behind, by_ack, by_signal, NumbersFit}
use Rattle.sj_rules.specs.Streams.{ComesWhole}
use Rattle.sj_rules.specs.Invariant.{IsSound}
use Rattle.sj_rules.specs.Coming.{Comes}
use Rattle.sj_rules.specs.Worked.{mails_of}
use Rattle.sj_world_lemmas.proofs.InstallLemmas.{fresh, live_after, old_after, again_from, installs_level, whole_again}
use Rattle.sj_world_lemmas.proofs.PassiveLemmas.{passed_again, passes_to}
use Rattle.sj_world_lemmas.proofs.LeadLemmas.{behind_is_signalled}
use Rattle.sj_world_lemmas.proofs.SourceLemmas.{IsSignalled}
use Rattle.sj_world_lemmas.proofs.WorkedLemmas.{held_on, WorkedQuietly, WorkedBySignal, work}

module _ {P : Type 0} (IsOver : P → Type 0) (pick : ℕ → ℕ → ℕ) (x y : PlainSide P) (sid rid : EndId) (ps pr : P) (s : Seat P) (so sl : List (BodyAt P)) (u : ℕ) (ro rl : List (BodyAt P))
    (er : EndAt P) (q : Option ℕ) (dr : List (BodyAt P)) where
  -- the cache goes out again where the Give says so, and nothing else is sent
  pub record InstalledQuietly (pace : Pace) : Type 0 where
    pub end : HeldAt P
    pub row : install pick pr (mails_of er.peer dr) er q ≡ Some (record { state = end; posts = resent_at er q })
    pub sound : IsSound IsOver pace x y (side_of sid ps s (old_after pace s so (again_from sid er q)) (live_after pace s sl (again_from sid er q)))
        (side_of rid pr (held u end) ro rl)

  -- after it an Ack goes out, and the cache again to the new party: the last deferred frame was the
  -- Signal of s
  pub record InstalledBySignal (pace : Pace) : Type 0 where
    pub pace_is : pace ≡ level
    pub at : ℕ
    pub to : ℕ
    pub from : EndAt P
    pub late : List (BodyAt P)
    pub seat_is : s ≡ signalled at to from late
    pub end : HeldAt P
    pub party : ℕ
    pub taken : ℕ
    pub peer_is : end.end.peer ≡ er.peer
    pub row : install pick pr (mails_of er.peer dr) er q ≡ Some (record { state = held_on pick end party taken; posts = resent_at er q ++ (passes_to pick end.end party taken).posts })
    pub sound : IsSound IsOver (behind by_ack) x y
        (side_of sid ps (signalled at to from late) ((so ++ again_from sid er q) ++ Ack sid from.conn ∷ []) (sl ++ passed_again pick sid end.end party taken))
        (side_of rid pr (held u (held_on pick end party taken)) ro rl)

  -- the test of the resend
  resend_passes : (b : ℕ) (t : Option ℕ) → Agrees rid er y → er.base ≤ x.taken → x.taken ≤ length y.sent → ResendFits x.taken (given b u er t dr) → resend_fits er t ≡ true
  resend_passes b None agrees base fewer r = refl
  resend_passes b (Some k) agrees base fewer r =
      let a : nat_le er.base k ≡ true = le-leb er.base k (omega (arith, r.0, base)) in
      let b : nat_le k er.sent ≡ true = le-leb k er.sent (omega (arith, r.0, fewer, agrees.sent)) in
      simp (a, b)

  -- from what was worked off
  quietly_at_level : WorkedQuietly IsOver pick x y sid rid ps pr s (old_after level s so (again_from sid er q)) (live_after level s sl (again_from sid er q)) u ro rl (fresh pr er) dr →
      resend_fits er q ≡ true → InstalledQuietly level
  quietly_at_level w passes = record { end = w.end; row = rw (passes, w.row, append-nil); sound = w.sound }

  -- the same with the Signal of s
  signal_at_level : WorkedBySignal IsOver pick x y sid rid ps pr s (old_after level s so (again_from sid er q)) (live_after level s sl (again_from sid er q)) u ro rl (fresh pr er) dr →
      resend_fits er q ≡ true → InstalledBySignal level
  signal_at_level w passes = record {
    pace_is = refl;
    at = w.at;
    to = w.to;
    from = w.from;
    late = w.late;
    seat_is = w.seat_is;
    end = w.end;
    party = w.party;
    taken = w.taken;
    peer_is = w.peer_is;
    row = rw (passes, w.row);
    sound = rw w.seat_is at w.sound;
  }

-- who lags by a Signal is Signalled
signalled_behind : {P : Type 0} → (s : Seat P) (b u : ℕ) (er : EndAt P) (q : Option ℕ) (dr : List (BodyAt P)) → NumbersFit (behind by_signal) s (given b u er q dr) → IsSignalled s
signalled_behind gone b u er q dr n = absurd (cc n.0)
signalled_behind (signalled a t e ds) b u er q dr n = record { at = a; to = t; end = e; late = ds; is = refl }
signalled_behind s b u er q dr n = absurd n.1

-- the end at its place
placed : {P : Type 0} → (id : EndId) (e : EndAt P) (y : PlainSide P) (place : P) → Agrees id e y → Agrees id (record e { place = place }) y
placed id e y place a = record { name = a.name; hops = a.hops; sent = a.sent; taken = a.taken; cache = a.cache }

module _ {P : Type 0} (IsOver : P → Type 0) (pick : ℕ → ℕ → ℕ) (x y : PlainSide P) (sid rid : EndId) (ps pr : P) (so sl : List (BodyAt P)) (b u : ℕ) (ro rl : List (BodyAt P))
    (er : EndAt P) (dr : List (BodyAt P)) where
  -- what comes to s, which lags
  back_behind : (q : Option ℕ) (a t : ℕ) (es : EndAt P) (ds : List (BodyAt P)) → Agrees rid er y → er.base ≤ x.taken → x.taken ≤ length y.sent →
      ResendFits x.taken (given b u er q dr) → er.conn ≡ es.conn + 1 →
      Comes (ahead by_signal) sid y x (given b u er q dr) (signalled a t es ds) sl →
      Comes (ahead by_signal) sid y x (held u (fresh pr er)) (signalled a t es ds) (sl ++ again_from sid er q)
  back_behind None a t es ds agrees base fewer r conn c =
      let w : ComesWhole {P = P} sid (es.conn + 1) x.taken y.taken y.taken [] (untaken_of y x) (ds ++ sl) = c.1 in
      record { carries = w.carries; split = ap (λ l. ds ++ l) (append-nil sl) ∙ w.split; are = w.are }
  back_behind (Some k) a t es ds agrees base fewer r conn c =
      let w : ComesWhole {P = P} sid (es.conn + 1) x.taken y.taken y.taken [] (untaken_of y x) (sl ++ again_from sid er (Some k)) =
      whole_again x y sid rid u u er pr dr agrees k r.0 (omega (arith, r.0, base)) fewer (es.conn + 1) y.taken sl (sym conn) (omega arith) c.0 in
      let none : ds ≡ [] = c.1 in
      record { carries = w.carries; split = ap (λ l. l ++ (sl ++ again_from sid er (Some k))) none ∙ w.split; are = w.are }

  -- a Give at an end that is ahead by a Signal
  behind_signalled : (q : Option ℕ) (a t : ℕ) (es : EndAt P) (ds : List (BodyAt P)) → CountsFit x y →
      IsSound IsOver (behind by_signal) x y (side_of sid ps (signalled a t es ds) so sl) (side_of rid pr (given b u er q dr) ro rl) →
      InstalledQuietly IsOver pick x y sid rid ps pr (signalled a t es ds) so sl u ro rl er q dr (behind by_signal)
  behind_signalled q a t es ds counts sound =
      let fits : Agrees rid er y × (er.base ≤ x.taken) = sound.there.fits in
      let none : dr ≡ [] = sound.there.comes.1 in
      let passes : resend_fits er q ≡ true =
      resend_passes IsOver pick x y sid rid ps pr (signalled a t es ds) so sl u ro rl er q dr b q fits.0 fits.1 counts.fewer sound.back.resend in
      record {
        end = fresh pr er;
        row = rw (passes, none, append-nil);
        sound = record {
          others = sound.others;
          numbers = sound.numbers;
          hops = sound.hops;
          there = record {
            fits = (placed rid er y pr fits.0, λ unoffered. sound.there.place, fits.1);
            place = sound.there.place;
            resend = tt;
            comes = (sound.there.comes.0, (refl, refl));
            old = sound.there.old;
          };
          back = record {
            fits = sound.back.fits;
            place = sound.back.place;
            resend = tt;
            comes = back_behind q a t es ds fits.0 fits.1 counts.fewer sound.back.resend sound.numbers.0 sound.back.comes;
            old = sound.back.old;
          };
        };
      }

  -- a Give that comes is installed
  pub installs : (picks : IsPick pick) (pace : Pace) (s : Seat P) (q : Option ℕ) → CountsFit x y → y.taken ≤ length x.sent →
      IsSound IsOver pace x y (side_of sid ps s so sl) (side_of rid pr (given b u er q dr) ro rl) →
      InstalledQuietly IsOver pick x y sid rid ps pr s so sl u ro rl er q dr pace
      ⊎ InstalledBySignal IsOver pick x y sid rid ps pr s so sl u ro rl er q dr pace
  installs picks level s q counts fewer sound =
      let fits : Agrees rid er y × (er.base ≤ x.taken) = sound.there.fits in
      let passes : resend_fits er q ≡ true =
      resend_passes IsOver pick x y sid rid ps pr s so sl u ro rl er q dr b q fits.0 fits.1 counts.fewer sound.back.resend in
      by passes (work IsOver pick x y sid rid ps pr s (old_after level s so (again_from sid er q)) (live_after level s sl (again_from sid er q)) u ro rl picks counts fewer dr (fresh pr er)
      (installs_level IsOver x y counts sid rid ps pr s b u er q dr so sl ro rl sound))
    where
      by : resend_fits er q ≡ true →
          WorkedQuietly IsOver pick x y sid rid ps pr s (old_after level s so (again_from sid er q)) (live_after level s sl (again_from sid er q)) u ro rl (fresh pr er) dr
          ⊎ WorkedBySignal IsOver pick x y sid rid ps pr s (old_after level s so (again_from sid er q)) (live_after level s sl (again_from sid er q)) u ro rl (fresh pr er) dr →
          InstalledQuietly IsOver pick x y sid rid ps pr s so sl u ro rl er q dr level
          ⊎ InstalledBySignal IsOver pick x y sid rid ps pr s so sl u ro rl er q dr level
      by passes (inl w) = inl (quietly_at_level IsOver pick x y sid rid ps pr s so sl u ro rl er q dr w passes)
      by passes (inr w) = inr (signal_at_level IsOver pick x y sid rid ps pr s so sl u ro rl er q dr w passes)
  installs picks (ahead z) s q counts fewer sound = absurd (behind_is_signalled z s (given b u er q dr) sound.numbers)
  installs picks (behind by_ack) s q counts fewer sound = absurd sound.there.comes.1
  installs picks (behind by_signal) s q counts fewer sound =
      let from : IsSignalled s = signalled_behind s b u er q dr sound.numbers in
      let same : s ≡ signalled from.at from.to from.end from.late = from.is in
      let here : IsSound IsOver (behind by_signal) x y (side_of sid ps (signalled from.at from.to from.end from.late) so sl) (side_of rid pr (given b u er q dr) ro rl) =
      subst (λ (t : Seat P). IsSound IsOver (behind by_signal) x y (side_of sid ps t so sl) (side_of rid pr (given b u er q dr) ro rl)) same sound in
      inl (subst (λ (t : Seat P). InstalledQuietly IsOver pick x y sid rid ps pr t so sl u ro rl er q dr (behind by_signal)) (sym same)
      (behind_signalled q from.at from.to from.end from.late counts here))
