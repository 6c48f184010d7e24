-- A Fin that comes to a Closed end: its record is gone.
use Rattle.std.proofs.Common.{◌≡◌, ℕ, ◌+◌, ◌-◌, ◌≤◌, List, [], ◌∷◌, length, drop, refl, ap, arith}
use Rattle.std.specs.Prelude.{true, Some, None}
use Rattle.std.proofs.lemmas.Bool.{eq-eqb}
use Rattle.std.proofs.lemmas.List.{length-drop}
use Rattle.sj_base.specs.declared.EndId.{EndId}
use Rattle.sj_rules.specs.Record.{EndAt, BodyAt, Fin, Closed}
use Rattle.sj_rules.specs.Node.{NodeAt, comes, quietly, with_main}
use Rattle.sj_rules.specs.Seat.{Seat, given, closed, gone, conn_of, side_of}
use Rattle.sj_rules.specs.PlainSide.{PlainSide, untaken_of}
use Rattle.sj_rules.specs.Counts.{Agrees}
use Rattle.sj_rules.specs.Numbers.{Pace, level, ahead, behind, NumbersFit, is_over, pending}
use Rattle.sj_rules.specs.Invariant.{IsSound}
use Rattle.sj_rules.specs.Coming.{Comes, AreOld}
use Rattle.sj_rules.specs.Streams.{mark_for}
use Rattle.sj_world_lemmas.proofs.HeldLemmas.{fin_is_mark}
use Rattle.sj_world_lemmas.proofs.LeadLemmas.{behind_is_signalled}

-- a frame that comes to a Closed end is the mark of s
pub mark_comes : {P : Type 0} → (to : EndId) (x y : PlainSide P) (b : ℕ) (e : EndAt P) (s : Seat P) (f : BodyAt P) (rest : List (BodyAt P)) →
    Comes level to x y s (closed b e) (f ∷ rest) → f ∷ rest ≡ mark_for to e.conn x s
mark_comes to x y b e gone f rest c = c
mark_comes to x y b e (given a t g None ds) f rest c = absurd (cc c.1)
mark_comes to x y b e (given a t g (Some k) ds) f rest c = absurd (cc c.0)
mark_comes to x y b e s f rest c = c

-- the row
closed_row : {P Q : Type 0} → (pick : ℕ → ℕ → ℕ) (node : NodeAt P Q) (id : EndId) (e : EndAt P) (c n : ℕ) →
    node.old id ≡ None → node.main id ≡ Some (Closed e) → c ≡ e.conn → n ≡ e.taken →
    comes pick node e.peer (Fin id c n) ≡ Some (quietly (with_main id None node))
closed_row pick node id e c n old main conn number =
    rw (old, main, eq-eqb c e.conn conn, eq-eqb e.peer e.peer refl, eq-eqb n e.taken number)

module _ {P : Type 0} (x y : PlainSide P) (sid rid : EndId) (b : ℕ) (e : EndAt P) where
  -- the numbers
  gone_numbers : (s : Seat P) → is_over s ≡ true → NumbersFit level s gone
  gone_numbers gone over = (refl, refl)
  gone_numbers s over = (refl, over)

  -- nothing comes to r
  gone_comes : (s : Seat P) (rest : List (BodyAt P)) → is_over s ≡ true → rest ≡ [] → Comes level rid x y s gone rest
  gone_comes (closed a g) rest over none = none
  gone_comes gone rest over none = none
  gone_comes s rest over none = absurd (cc over)

  -- what comes to s
  back_gone : (s : Seat P) (sl : List (BodyAt P)) → is_over s ≡ true → Comes level sid y x (closed b e) s sl → Comes level sid y x gone s sl
  back_gone (closed a g) sl over c = c
  back_gone gone sl over c = c
  back_gone s sl over c = absurd (cc over)

  -- and the old stream of s
  old_gone : (s : Seat P) (so : List (BodyAt P)) → is_over s ≡ true → AreOld level sid y (closed b e) s so → AreOld level sid y gone s so
  old_gone (closed a g) so over c = c
  old_gone gone so over c = c
  old_gone s so over c = absurd (cc over)

module _ {P Q : Type 0} (IsOver : P → Type 0) (pick : ℕ → ℕ → ℕ) (node : NodeAt P Q) (x y : PlainSide P) (sid rid : EndId) (ps pr : P) (s : Seat P)
    (so sl : List (BodyAt P)) (b : ℕ) (e : EndAt P) where
  -- both ends are over, and nothing comes any more
  pub fin_closed : (pace : Pace) (ro rest : List (BodyAt P)) (d : EndId) (c n : ℕ) → y.taken ≤ length x.sent →
      node.old rid ≡ None → node.main rid ≡ Some (Closed e) →
      IsSound IsOver pace x y (side_of sid ps s so sl) (side_of rid pr (closed b e) ro (Fin d c n ∷ rest)) →
      (comes pick node e.peer (Fin d c n) ≡ Some (quietly (with_main rid None node)))
      × IsSound IsOver pace x y (side_of sid ps s so sl) (side_of rid pr gone ro rest)
  fin_closed level ro rest d c n fewer old main sound =
      let m : (c ≡ e.conn) × (n ≡ length x.sent) × (is_over s ≡ true) × (rest ≡ []) × (d ≡ rid) =
      fin_is_mark rid e.conn (length x.sent) x.taken s d c n rest (mark_comes rid x y b e s (Fin d c n) rest sound.there.comes) in
      let fits : Agrees rid e y × (e.place ≡ y.place) × (e.base ≤ x.taken) × IsOver y.place × (untaken_of x y ≡ []) = sound.there.fits in
      let long : length (drop y.taken x.sent) ≡ length x.sent - y.taken = length-drop y.taken x.sent in
      let none : length (drop y.taken x.sent) ≡ 0 = ap length fits.4 in
      let hops : (conn_of s + pending s + 0 ≤ x.hops + y.hops) × (e.conn + pending s + 0 ≤ x.hops + y.hops) = sound.hops in (
        rw m.4 (closed_row pick node rid e c n old main m.0 (omega (arith, m.1, long, none, fewer, fits.0.taken))),
        record {
          others = sound.others;
          numbers = gone_numbers x y sid rid b e s m.2;
          hops = (hops.0, omega (arith, hops.1));
          there = record {
            fits = (fits.3, fits.4);
            place = sound.there.place;
            resend = sound.there.resend;
            comes = gone_comes x y sid rid b e s rest m.2 m.3;
            old = sound.there.old;
          };
          back = record {
            fits = sound.back.fits;
            place = sound.back.place;
            resend = tt;
            comes = back_gone x y sid rid b e s sl m.2 sound.back.comes;
            old = old_gone x y sid rid b e s so m.2 sound.back.old;
          };
        },
      )
  fin_closed (ahead z) ro rest d c n fewer old main sound = absurd (behind_is_signalled z s (closed b e) sound.numbers)
  fin_closed (behind z) ro rest d c n fewer old main sound = absurd (cc sound.there.comes.0)
