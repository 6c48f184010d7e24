-- The session laws of Carries, Fins and deferred frames.
use Rattle.std.proofs.Common.{◌≡◌, ℕ, ◌+◌, ◌-◌, ◌≤◌, List, [], ◌∷◌, ◌++◌, length, drop, refl, sym, ap, subst, arith, length-drop}
use Rattle.std.specs.Prelude.{Bool, true, false, Option, Some, None}
use Rattle.sj_base.specs.declared.EndId.{EndId}
use Rattle.sj_base.specs.declared.Msg.{Msg}
use Rattle.sj_rules.specs.Record.{EndAt, BodyAt, Carry, Fin, Signal, MainAt, OldAt, Expected, Parked, Signalled, Closed}
use Rattle.sj_rules.specs.Rows.{IsPick, at_held}
use Rattle.sj_rules.specs.Node.{NodeAt}
use Rattle.sj_rules.specs.Seat.{Seat, held, parked, claimed, signalled, given, closed, gone, Side, source_for}
use Rattle.sj_rules.specs.Shown.{old_shown}
use Rattle.sj_rules.specs.PlainSide.{PlainSide, untaken_of, CountsFit}
use Rattle.sj_rules.specs.Counts.{Agrees}
use Rattle.sj_rules.specs.Numbers.{Pace, level, ahead, behind, NumbersFit, is_over}
use Rattle.sj_rules.specs.Coming.{Comes}
use Rattle.sj_rules.specs.Streams.{AreDropped, signal_of, mark_of}
use Rattle.sj_rules.specs.Worked.{mails_of}
use Rattle.sj_world_lemmas.proofs.CarryLemmas.{carried}
use Rattle.sj_world_lemmas.proofs.HeldLemmas.{carry_held, fin_held, from_sender, fin_is_mark}
use Rattle.sj_world_lemmas.proofs.DropLemmas.{drops_parked, drops_claimed, drops_signalled}
use Rattle.sj_world_lemmas.proofs.ClosedLemmas.{fin_closed, mark_comes}
use Rattle.sj_world_lemmas.proofs.DeferLemmas.{IsUnder, defers_signalled, defers_given, more_to_signalled, more_to_given}
use Rattle.sj_world_lemmas.proofs.SourceLemmas.{IsSignalled, comes_under, signal_at_held, signal_at_parked, signal_at_claimed, signal_at_closed}
use Rattle.sj_world_lemmas.proofs.HandoverLaws.{SignalSender}
use Rattle.sj_world_lemmas.proofs.SessionLaws.{IsDeferrable, SoundWith, PlainAtHeld, PlainAtParked, PlainAtClaimed, PlainAtOld, PlainAtClosed, DefersAtSignalled, DefersAtGiven, LiveIsDeferrable}
use Rattle.sj_world_lemmas.proofs.DispatchLemmas.{gone_empty, live_level}

-- tables with one entry, for rows that no law speaks of
abbrev stub : {P : Type 0} → Option (MainAt P) → Option (OldAt P) → NodeAt P ℕ
stub m o = record { program = 0; clock = 0; requests = 0; offers = λ q. []; main = λ d. m; old = λ d. o }

-- a frame of that number may be deferred
under_deferrable : {P : Type 0} → (id : EndId) (n : ℕ) (f : BodyAt P) → IsUnder id n f → IsDeferrable f
under_deferrable id n (Carry d c k t m) u = tt
under_deferrable id n (Fin d c k) u = tt
under_deferrable id n (Signal d c p k) u = tt
under_deferrable id n f u = absurd u

-- so may a mark
mark_deferrable : {P : Type 0} → (id : EndId) (conn sent taken : ℕ) (s : Seat P) (f : BodyAt P) (rest : List (BodyAt P)) → f ∷ rest ≡ mark_of id conn sent taken s → IsDeferrable f
mark_deferrable {P} id conn sent taken (signalled a t e ds) f rest m = let i : ◌≡◌ {A = BodyAt P} f (Signal id conn t taken) = cc m in subst IsDeferrable (sym i) tt
mark_deferrable {P} id conn sent taken (closed a e) f rest m = let i : ◌≡◌ {A = BodyAt P} f (Fin id conn sent) = cc m in subst IsDeferrable (sym i) tt
mark_deferrable {P} id conn sent taken gone f rest m = let i : ◌≡◌ {A = BodyAt P} f (Fin id conn sent) = cc m in subst IsDeferrable (sym i) tt
mark_deferrable id conn sent taken s f rest m = absurd (cc m)

-- and what comes to be dropped
loose_deferrable : {P : Type 0} → (id : EndId) (conn taken : ℕ) (over : Bool) (s : Seat P) (f : BodyAt P) (rest dropped : List (BodyAt P)) →
    f ∷ rest ≡ dropped ++ signal_of id conn taken s → AreDropped id conn over dropped → IsDeferrable f
loose_deferrable {P} id conn taken over (signalled a t e ds) f rest [] m d = let i : ◌≡◌ {A = BodyAt P} f (Signal id conn t taken) = cc m in subst IsDeferrable (sym i) tt
loose_deferrable id conn taken over s f rest [] m d = absurd (cc m)
loose_deferrable {P} id conn taken over s f rest (Carry g c n t k ∷ bs) m d = let i : ◌≡◌ {A = BodyAt P} f (Carry g c n t k) = cc m in subst IsDeferrable (sym i) tt
loose_deferrable {P} id conn taken over s f rest (Fin g c n ∷ bs) m d = let i : ◌≡◌ {A = BodyAt P} f (Fin g c n) = cc m in subst IsDeferrable (sym i) tt
loose_deferrable id conn taken over s f rest (b ∷ bs) m d = absurd d

module _ {P : Type 0} (IsOver : P → Type 0) (pick : ℕ → ℕ → ℕ) (picks : IsPick pick) (x y : PlainSide P) (counts : CountsFit x y) (back : CountsFit y x) (s : Side P) (id : EndId) (place : P) where
  -- a Carry or Fin at a Held end
  pub plain_held_law : PlainAtHeld IsOver pick x y s id place
  plain_held_law b h ro rest (Carry d c n t m) plain sound =
      let k : (at_held pick h h.end.peer (Carry d c n t m) ≡ Some (record { state = carried pick h t m; posts = [] })) × SoundWith IsOver pick x y s id place level (held b (carried pick h t m)) ro rest =
      carry_held IsOver pick picks x y s.id id s.place place s.seat s.old s.live b h d level ro rest c n t m counts.fewer sound in
      (carried pick h t m, refl, refl, k.0, k.1)
  plain_held_law b h ro rest (Fin d c n) plain sound =
      let k : (at_held pick h h.end.peer (Fin d c n) ≡ Some (record { state = record h { fin = true }; posts = [] })) × SoundWith IsOver pick x y s id place level (held b (record h { fin = true })) ro rest =
      fin_held IsOver pick picks x y s.id id s.place place s.seat s.old s.live b h d level ro rest c n back.fewer sound in
      (record h { fin = true }, refl, refl, k.0, k.1)
  plain_held_law b h ro rest f plain sound = absurd plain

  -- at a Parked end
  pub plain_parked_law : PlainAtParked IsOver pick x y s id place
  plain_parked_law b e ro rest (Carry d c n t m) plain sound = (drops_parked IsOver pick (stub None (Some (Parked e))) x y s.id id s.place place s.seat s.old s.live b e (Carry d c n t m) tt level ro rest refl sound).1
  plain_parked_law b e ro rest (Fin d c n) plain sound = (drops_parked IsOver pick (stub None (Some (Parked e))) x y s.id id s.place place s.seat s.old s.live b e (Fin d c n) tt level ro rest refl sound).1
  plain_parked_law b e ro rest f plain sound = absurd plain

  -- at a claimed end
  pub plain_claimed_law : PlainAtClaimed IsOver pick x y s id place
  plain_claimed_law b u e ro rest (Carry d c n t m) plain sound = (drops_claimed IsOver pick (stub None (Some (Parked e))) x y s.id id s.place place s.seat s.old s.live b e (Carry d c n t m) tt level u ro rest refl sound).1
  plain_claimed_law b u e ro rest (Fin d c n) plain sound = (drops_claimed IsOver pick (stub None (Some (Parked e))) x y s.id id s.place place s.seat s.old s.live b e (Fin d c n) tt level u ro rest refl sound).1
  plain_claimed_law b u e ro rest f plain sound = absurd plain

  -- under the number of a Signalled end
  pub plain_old_law : PlainAtOld IsOver pick x y s id place
  plain_old_law pace b u e ds rest rl (Carry d c n t m) plain sound = (drops_signalled IsOver pick (stub None (Some (Signalled e u))) x y s.id id s.place place s.seat s.old s.live b e (Carry d c n t m) tt pace u ds rest rl refl sound).1
  plain_old_law pace b u e ds rest rl (Fin d c n) plain sound = (drops_signalled IsOver pick (stub None (Some (Signalled e u))) x y s.id id s.place place s.seat s.old s.live b e (Fin d c n) tt pace u ds rest rl refl sound).1
  plain_old_law pace b u e ds rest rl f plain sound = absurd plain

  -- no mark is a Carry
  no_carry_in_mark : (conn sent taken : ℕ) (t : Seat P) (d : EndId) (c n k : ℕ) (m : Msg) (rest : List (BodyAt P)) → Carry d c n k m ∷ rest ≡ mark_of id conn sent taken t → ⊥
  no_carry_in_mark conn sent taken (signalled a u e ds) d c n k m rest i = cc i
  no_carry_in_mark conn sent taken (closed a e) d c n k m rest i = cc i
  no_carry_in_mark conn sent taken gone d c n k m rest i = cc i
  no_carry_in_mark conn sent taken t d c n k m rest i = cc i

  -- at a Closed end
  pub plain_closed_law : PlainAtClosed IsOver pick x y s id place
  plain_closed_law b e ro rest (Carry d c n t m) plain sound =
      absurd (no_carry_in_mark e.conn (length x.sent) x.taken s.seat d c n t m rest (mark_comes id x y b e s.seat (Carry d c n t m) rest sound.there.comes))
  plain_closed_law b e ro rest (Fin d c n) plain sound =
      let m : (c ≡ e.conn) × (n ≡ length x.sent) × (is_over s.seat ≡ true) × (rest ≡ []) × (d ≡ id) =
      fin_is_mark id e.conn (length x.sent) x.taken s.seat d c n rest (mark_comes id x y b e s.seat (Fin d c n) rest sound.there.comes) in
      let fits : Agrees id e y × (e.place ≡ y.place) × (e.base ≤ x.taken) × IsOver y.place × (untaken_of x y ≡ []) = sound.there.fits in
      let long : length (drop y.taken x.sent) ≡ length x.sent - y.taken = length-drop y.taken x.sent in
      let none : length (drop y.taken x.sent) ≡ 0 = ap length fits.4 in
      let number : n ≡ e.taken = omega (arith, long, none, m.1, fits.0.taken, back.fewer) in
      let k : SoundWith IsOver pick x y s id place level gone ro rest =
      (fin_closed IsOver pick (stub (Some (Closed e)) None) x y s.id id s.place place s.seat s.old s.live b e level ro rest d c n back.fewer refl refl sound).1 in
      (c, rw (m.4, number) refl, m.3, m.0, subst (λ l. SoundWith IsOver pick x y s id place level gone ro l) m.3 k)
  plain_closed_law b e ro rest f plain sound = absurd plain

  -- what comes to the taker of a Signalled end
  under_signalled : (pace : Pace) (b u : ℕ) (e : EndAt P) (ds rest : List (BodyAt P)) (f : BodyAt P) → NumbersFit pace s.seat (signalled b u e ds) → Comes pace id x y s.seat (signalled b u e ds) (f ∷ rest) → IsDeferrable f
  under_signalled level b u e ds rest f n c = absurd (cc c.0)
  under_signalled (ahead z) b u e ds rest f n c =
      under_deferrable id (e.conn + 1) f (more_to_signalled IsOver pick (stub {P = P} None None) x y s.id id s.place place s.seat s.old s.live b u e ds f z s.seat rest n c).0
  under_signalled (behind z) b u e ds rest f n c = absurd (cc c.0)

  -- what comes to the taker of a Give
  under_given : (pace : Pace) (b u : ℕ) (e : EndAt P) (resend : Option ℕ) (ds rest : List (BodyAt P)) (f : BodyAt P) → NumbersFit pace s.seat (given b u e resend ds) → Comes pace id x y s.seat (given b u e resend ds) (f ∷ rest) → IsDeferrable f
  under_given pace b u e resend ds rest f n c =
      let even : pace ≡ level = live_level pace id x y s.seat (given b u e resend ds) f rest tt (λ party i. i) n c in
      under_deferrable id e.conn f (more_to_given IsOver pick (stub {P = P} None None) x y s.id id s.place place s.seat s.old s.live b u e ds f resend s.seat rest
      (subst (λ z. NumbersFit z s.seat (given b u e resend ds)) even n) (subst (λ z. Comes z id x y s.seat (given b u e resend ds) (f ∷ rest)) even c)).0

  -- deferred at a Signalled end
  pub defers_signalled_law : DefersAtSignalled IsOver pick x y s id place
  defers_signalled_law pace b u e ds ro rest f sound = (
    under_signalled pace b u e ds rest f sound.numbers sound.there.comes,
    (defers_signalled IsOver pick (stub (Some (Expected b place (mails_of (source_for s.seat (signalled b u e ds)) ds))) (old_shown (signalled b u e ds) u)) x y s.id id s.place place s.seat s.old s.live b u e ds f pace ro rest refl refl sound).1,
  )

  -- deferred at a Give
  pub defers_given_law : DefersAtGiven IsOver pick x y s id place
  defers_given_law pace b u e resend ds ro rest f sound = (
    under_given pace b u e resend ds rest f sound.numbers sound.there.comes,
    (defers_given IsOver pick (stub (Some (Expected b place (mails_of (source_for s.seat (given b u e resend ds)) ds))) None) x y s.id id s.place place s.seat s.old s.live b u e ds f pace resend ro rest refl refl sound).1,
  )

  -- what comes to a Parked end
  loose_live : (t : Seat P) (b : ℕ) (e : EndAt P) (f : BodyAt P) (rest : List (BodyAt P)) → NumbersFit level t (parked b e) → Comes level id x y t (parked b e) (f ∷ rest) → IsDeferrable f
  loose_live gone b e f rest n c = absurd (cc n.1)
  loose_live (given a t g None ds) b e f rest n c = loose_deferrable id e.conn x.taken false (given a t g None ds) f rest c.1.dropped c.1.split c.1.are
  loose_live (given a t g (Some k) ds) b e f rest n c = absurd (cc c.0)
  loose_live t b e f rest n c = loose_deferrable id e.conn x.taken (is_over t) t f rest c.dropped c.split c.are

  -- what comes to a claimed end
  loose_claimed : (t : Seat P) (b u : ℕ) (e : EndAt P) (f : BodyAt P) (rest : List (BodyAt P)) → NumbersFit level t (claimed b u e) → Comes level id x y t (claimed b u e) (f ∷ rest) → IsDeferrable f
  loose_claimed gone b u e f rest n c = absurd (cc n.1)
  loose_claimed (given a t g None ds) b u e f rest n c = loose_deferrable id e.conn x.taken false (given a t g None ds) f rest c.1.dropped c.1.split c.1.are
  loose_claimed (given a t g (Some k) ds) b u e f rest n c = absurd (cc c.0)
  loose_claimed t b u e f rest n c = loose_deferrable id e.conn x.taken (is_over t) t f rest c.dropped c.split c.are

  -- each frame of a live stream may be deferred
  pub live_law : LiveIsDeferrable IsOver pick x y s id place
  live_law pace (held b h) ro rest f sound =
      let even : pace ≡ level = live_level pace id x y s.seat (held b h) f rest tt (λ party i. i) sound.numbers sound.there.comes in
      under_deferrable id h.end.conn f (comes_under id x y s.seat h f rest (from_sender id x y b h s.seat f rest
      (subst (λ z. NumbersFit z s.seat (held b h)) even sound.numbers) (subst (λ z. Comes z id x y s.seat (held b h) (f ∷ rest)) even sound.there.comes)))
  live_law pace (parked b e) ro rest f sound =
      let even : pace ≡ level = live_level pace id x y s.seat (parked b e) f rest tt (λ party i. i) sound.numbers sound.there.comes in
      loose_live s.seat b e f rest (subst (λ z. NumbersFit z s.seat (parked b e)) even sound.numbers) (subst (λ z. Comes z id x y s.seat (parked b e) (f ∷ rest)) even sound.there.comes)
  live_law pace (claimed b u e) ro rest f sound =
      let even : pace ≡ level = live_level pace id x y s.seat (claimed b u e) f rest tt (λ party i. i) sound.numbers sound.there.comes in
      loose_claimed s.seat b u e f rest (subst (λ z. NumbersFit z s.seat (claimed b u e)) even sound.numbers) (subst (λ z. Comes z id x y s.seat (claimed b u e) (f ∷ rest)) even sound.there.comes)
  live_law pace (signalled b u e ds) ro rest f sound = under_signalled pace b u e ds rest f sound.numbers sound.there.comes
  live_law pace (given b u e resend ds) ro rest f sound = under_given pace b u e resend ds rest f sound.numbers sound.there.comes
  live_law pace (closed b e) ro rest f sound =
      let even : pace ≡ level = live_level pace id x y s.seat (closed b e) f rest tt (λ party i. i) sound.numbers sound.there.comes in
      mark_deferrable id e.conn (length x.sent) x.taken s.seat f rest (mark_comes id x y b e s.seat f rest (subst (λ z. Comes z id x y s.seat (closed b e) (f ∷ rest)) even sound.there.comes))
  live_law pace gone ro rest f sound = absurd (cc (gone_empty pace id x y s.seat (f ∷ rest) sound.there.comes))

  -- a Signal comes from a Signalled end
  pub sender_law : SignalSender IsOver pick x y s id place
  sender_law (held b h) ro rest d c p k never plain sound = let l : IsSignalled s.seat = (signal_at_held IsOver x y s.id id s.place place s.old s.live b d c p k ro rest level s.seat h sound).1 in (l.at, l.to, l.end, l.late, l.is)
  sender_law (parked b e) ro rest d c p k never plain sound = let l : IsSignalled s.seat = (signal_at_parked IsOver x y s.id id s.place place s.old s.live b d c p k ro rest level s.seat e sound).1 in (l.at, l.to, l.end, l.late, l.is)
  sender_law (claimed b u e) ro rest d c p k never plain sound = let l : IsSignalled s.seat = (signal_at_claimed IsOver x y s.id id s.place place s.old s.live b d c p k ro rest level s.seat u e sound).1 in (l.at, l.to, l.end, l.late, l.is)
  sender_law (signalled b u e ds) ro rest d c p k never plain sound = absurd (never u refl)
  sender_law (given b u e resend ds) ro rest d c p k never plain sound = absurd plain
  sender_law (closed b e) ro rest d c p k never plain sound = let l : IsSignalled s.seat = (signal_at_closed IsOver x y s.id id s.place place s.old s.live b d c p k ro rest level s.seat e sound).1 in (l.at, l.to, l.end, l.late, l.is)
  sender_law gone ro rest d c p k never plain sound = absurd (cc (gone_empty level id x y s.seat (Signal d c p k ∷ rest) sound.there.comes))
