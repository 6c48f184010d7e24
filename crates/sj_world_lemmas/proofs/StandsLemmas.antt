-- Each direction of a session is flowing, or owed.
use Rattle.std.proofs.Common.{◌≡◌, ℕ, ◌+◌, List, [], ◌∷◌, ◌++◌, length, refl, sym, ap, ◌∙◌, append-nil, inl, inr, arith}
use Rattle.std.specs.Prelude.{Bool, true, false, ◌⊎◌, ◌&&◌, ◌==◌, if◌then◌else◌, Option, Some, None}
use Rattle.std.specs.List.{filter}
use Rattle.std.proofs.lemmas.Bool.{eq-eqb}
use Rattle.sj_base.specs.declared.EndId.{EndId}
use Rattle.sj_rules.specs.Record.{EndAt, BodyAt, Signal, HeldAt}
use Rattle.sj_rules.specs.World.{WorldAt}
use Rattle.sj_rules.specs.Seat.{Seat, held, parked, claimed, signalled, given, closed, gone, taker_of, coming_of, source_for, sender_of, conn_of, side_of}
use Rattle.sj_rules.specs.Shown.{Shows, bodies, goes_to, is_lane, old_in}
use Rattle.sj_rules.specs.PlainSide.{PlainSide, untaken_of}
use Rattle.sj_rules.specs.Flowing.{FlowsDeferred, carries_under, IsFlowing, HasSign, CanResend, IsOwed, IsTold, party_of, lane_from}
use Rattle.sj_rules.specs.Numbers.{Pace, level, ahead, behind, by_ack, by_signal, turned, NumbersFit, IsNotGiven, is_over}
use Rattle.sj_rules.specs.Streams.{ComesWhole, ComesToHeld, mark_for}
use Rattle.sj_rules.specs.Coming.{Comes, AreOld, comes_low}
use Rattle.sj_rules.specs.Invariant.{IsSound}
use Rattle.sj_rules.specs.Counts.{ResendFits, SeatFits}
use Rattle.sj_world_lemmas.proofs.EventLemmas.{and_false}
use Rattle.sj_world_lemmas.proofs.SwapLemmas.{IsThere, source_is_peer}
use Rattle.sj_world_lemmas.proofs.PaceLemmas.{numbers_ahead, numbers_behind}
use Rattle.sj_world_lemmas.proofs.LeaveLemmas.{there_beside}
use Rattle.sj_world_lemmas.proofs.QuietLemmas.{not_next}
use Rattle.sj_world_lemmas.proofs.FlowLemmas.{carries_seen, carries_append, whole_carries, whole_under, held_carries}
use Rattle.sj_world_lemmas.proofs.ToldLemmas.{all_told, live_told, old_told, loose_has, whole_has}

-- a key fits itself
self_key : (p q c : ℕ) → (is_lane p q p q && (c == c)) ≡ true
self_key p q c = simp (eq-eqb p p refl, eq-eqb q q refl, eq-eqb c c refl)

module _ {P Q : Type 0} (w : WorldAt P Q) (sid id : EndId) (ps place : P) (so sl ro rl : List (BodyAt P)) (x y : PlainSide P) where
  -- the direction is flowing, or a sign says that it is owed
  abbrev Stands : Seat P → Seat P → Type 0
  Stands s r = IsFlowing w (side_of sid ps s so sl) (side_of id place r ro rl) (untaken_of x y) ⊎ HasSign w (side_of sid ps s so sl) (side_of id place r ro rl) y.taken

  -- what the lane of the live stream carries
  lane_carries : (s r : Seat P) (p q c : ℕ) (keyed : Bool) → (is_lane p q (source_for s r) (taker_of r) && (c == coming_of r)) ≡ keyed → old_in r ro p q c ≡ [] → Shows w s (side_of id place r ro rl) →
      carries_under id c (bodies (w.lanes p q)) ≡ carries_under id c (if keyed then rl else [])
  lane_carries s r p q c keyed k none v =
      let shown : filter (goes_to id c) (bodies (w.lanes p q)) ≡ (if keyed then rl else []) = v.frames p q c ∙ rw (none, k) refl in
      carries_seen id c (bodies (w.lanes p q)) ∙ ap (carries_under id c) shown

  -- owed by a Signal
  told : (s r : Seat P) → IsTold w (side_of sid ps s so sl) y.taken → Stands s r
  told s r t = inr (inr (inl t))

  -- a Signal that explains why r is ahead reports what r has taken
  explained_told : (s r : Seat P) (b : BodyAt P) → IsThere s → IsThere r → NumbersFit (behind by_signal) s r → AreOld (ahead by_signal) sid y r s so → Shows w r (side_of sid ps s so sl) → IsTold w (side_of sid ps s so sl) y.taken
  explained_told (signalled a t e ds) r b i j n o v = old_told w r sid ps a t e ds so sl v y.taken (Signal sid e.conn (sender_of r) y.taken) (refl, refl) (loose_has sid e.conn (is_over r) (Signal sid e.conn (sender_of r) y.taken) so o)
  explained_told s r b i j n o v = absurd (numbers_behind by_signal s r i j n).1

  -- the Signal of a Signalled end, where the numbers are equal
  signal_told : (b u : ℕ) (e : EndAt P) (ds : List (BodyAt P)) (s : Seat P) → NumbersFit level s (signalled b u e ds) → Comes level sid y x (signalled b u e ds) s sl → AreOld level sid y (signalled b u e ds) s so →
      Shows w (signalled b u e ds) (side_of sid ps s so sl) → IsTold w (side_of sid ps s so sl) y.taken
  signal_told b u e ds (held a h) n c o v = by c.comes
    where
      by : (h.fin ≡ false) × ComesWhole sid h.end.conn (x.taken + length h.untaken) h.end.base y.taken (Signal sid h.end.conn u y.taken ∷ []) c.rest sl ⊎ (h.fin ≡ true) × (false ≡ true) × (sl ≡ []) × (c.rest ≡ []) → IsTold w (side_of sid ps (held a h) so sl) y.taken
      by (inl z) = live_told w (signalled b u e ds) (side_of sid ps (held a h) so sl) v y.taken (Signal sid h.end.conn u y.taken) (refl, refl) (whole_has sid h.end.conn (x.taken + length h.untaken) h.end.base y.taken (Signal sid h.end.conn u y.taken) c.rest sl z.1)
      by (inr z) = absurd (cc z.1)
  signal_told b u e ds (parked a g) n c o v = live_told w (signalled b u e ds) (side_of sid ps (parked a g) so sl) v y.taken (Signal sid g.conn u y.taken) (refl, refl) (loose_has sid g.conn false (Signal sid g.conn u y.taken) sl c)
  signal_told b u e ds (claimed a t g) n c o v = live_told w (signalled b u e ds) (side_of sid ps (claimed a t g) so sl) v y.taken (Signal sid g.conn u y.taken) (refl, refl) (loose_has sid g.conn false (Signal sid g.conn u y.taken) sl c)
  signal_told b u e ds (signalled a t g ks) n c o v = old_told w (signalled b u e ds) sid ps a t g ks so sl v y.taken (Signal sid g.conn u y.taken) (refl, refl) (loose_has sid g.conn false (Signal sid g.conn u y.taken) so o)
  signal_told b u e ds (given a t g q ks) n c o v = all_told w (signalled b u e ds) (side_of sid ps (given a t g q ks) so sl) v y.taken (Signal sid g.conn u y.taken) (refl, refl) (whole_has sid g.conn x.taken g.base y.taken (Signal sid g.conn u y.taken) (untaken_of y x) (ks ++ sl) c)
  signal_told b u e ds (closed a g) n c o v = live_told w (signalled b u e ds) (side_of sid ps (closed a g) so sl) v y.taken (Signal sid g.conn u y.taken) (refl, refl) (rw c (inl refl))
  signal_told b u e ds gone n c o v = absurd (cc n.1)

  -- and where r is ahead by an Ack
  ahead_told : (b u : ℕ) (e : EndAt P) (ds : List (BodyAt P)) (s : Seat P) → IsThere s → NumbersFit (behind by_ack) s (signalled b u e ds) → Comes (ahead by_ack) sid y x (signalled b u e ds) s sl →
      Shows w (signalled b u e ds) (side_of sid ps s so sl) → IsTold w (side_of sid ps s so sl) y.taken
  ahead_told b u e ds (signalled a t g ks) i n c v = all_told w (signalled b u e ds) (side_of sid ps (signalled a t g ks) so sl) v y.taken (Signal sid (g.conn + 1) u y.taken) (refl, refl) (whole_has sid (g.conn + 1) x.taken g.base y.taken (Signal sid (g.conn + 1) u y.taken) (untaken_of y x) (ks ++ sl) c)
  ahead_told b u e ds s i n c v = absurd (numbers_behind by_ack s (signalled b u e ds) i tt n).1

  -- r is Held
  held_flows : (s : Seat P) (b : ℕ) (h : HeldAt P) → NumbersFit level s (held b h) → ComesToHeld id h (untaken_of x y) y.taken x.taken (is_over s) (mark_for id h.end.conn x s) rl → Shows w s (side_of id place (held b h) ro rl) →
      h.untaken ++ carries_under id h.end.conn (bodies (w.lanes h.end.peer b)) ≡ untaken_of x y
  held_flows s b h n c v =
      let from : source_for s (held b h) ≡ h.end.peer = source_is_peer s (held b h) tt n in
      let key : (is_lane h.end.peer b (source_for s (held b h)) b && (h.end.conn == h.end.conn)) ≡ true = rw from (self_key h.end.peer b h.end.conn) in
      ap (λ l. h.untaken ++ l) (lane_carries s (held b h) h.end.peer b h.end.conn true key refl v) ∙ held_carries id h (untaken_of x y) y.taken x.taken (length x.sent) (is_over s) s rl c

  -- a Held end
  held_stands : (pace : Pace) (s : Seat P) (b : ℕ) (h : HeldAt P) → NumbersFit pace s (held b h) → Comes pace id x y s (held b h) rl → ResendFits y.taken s → AreOld (turned pace) sid y (held b h) s so →
      Shows w s (side_of id place (held b h) ro rl) → Shows w (held b h) (side_of sid ps s so sl) → Stands s (held b h)
  held_stands level (given a t e None ds) b h n c f o v u = inl (held_flows (given a t e None ds) b h n c.1 v)
  held_stands level (given a t e (Some k) ds) b h n c f o v u = inr (inr (inr (ap Some f.0)))
  held_stands level s b h n c f o v u = inl (held_flows s b h n c v)
  held_stands (ahead k) gone b h n c f o v u = absurd (cc n.0)
  held_stands (ahead k) s b h n c f o v u = absurd (numbers_ahead k s (held b h) tt tt n).1
  held_stands (behind by_ack) s b h n c f o v u =
      let lives : (k : Bool) → carries_under id h.end.conn (if k then rl else []) ≡ [] = λ k. rw c.0 (nothing k) in
      inl (ap (λ l. h.untaken ++ l) (lane_carries s (held b h) h.end.peer b h.end.conn (is_lane h.end.peer b (source_for s (held b h)) b && (h.end.conn == h.end.conn)) refl refl v
      ∙ lives (is_lane h.end.peer b (source_for s (held b h)) b && (h.end.conn == h.end.conn))) ∙ append-nil h.untaken ∙ c.1.0)
    where
      nothing : (k : Bool) → carries_under {P = P} id h.end.conn (if k then [] else []) ≡ []
      nothing true = refl
      nothing false = refl
  held_stands (behind by_signal) s b h n c f o v u = told s (held b h) (explained_told s (held b h) (Signal sid 0 0 0) (there_beside (behind by_signal) s (held b h) n refl) tt n o u)

  -- a Held end under the first number: no Give resends to it, and nothing is owed
  pub first_flows : (pace : Pace) (s : Seat P) (b : ℕ) (h : HeldAt P) → h.end.conn ≡ 0 → NumbersFit pace s (held b h) → Comes pace id x y s (held b h) rl → ResendFits y.taken s → Shows w s (side_of id place (held b h) ro rl) →
      h.untaken ++ carries_under id h.end.conn (bodies (w.lanes h.end.peer b)) ≡ untaken_of x y
  first_flows level (given a t e None ds) b h first n c f v = held_flows (given a t e None ds) b h n c.1 v
  first_flows level (given a t e (Some k) ds) b h first n c f v = absurd (omega (arith, first, n.0, f.1))
  first_flows level s b h first n c f v = held_flows s b h n c v
  first_flows (ahead k) gone b h first n c f v = absurd (cc n.0)
  first_flows (ahead k) s b h first n c f v = absurd (numbers_ahead k s (held b h) tt tt n).1
  first_flows (behind k) s b h first n c f v =
      let numbers : h.end.conn ≡ conn_of s + 1 = (numbers_behind k s (held b h) (there_beside (behind k) s (held b h) n refl) tt n).0 in
      absurd (omega (arith, first, numbers))

  -- what comes whole to a party that awaits r flows, where the lane carries it
  flows_whole : (s : Seat P) (low c : ℕ) (ds lane : List (BodyAt P)) →
      ComesWhole id c y.taken low x.taken (mark_for id c x s) (untaken_of x y) (ds ++ rl) →
      carries_under id c (ds ++ lane) ≡ carries_under id c (ds ++ rl) → FlowsDeferred id c ds lane (untaken_of x y)
  flows_whole s low c ds lane comes same = record {
    under = whole_under id c y.taken low x.taken (length x.sent) x.taken s (untaken_of x y) ds rl comes;
    waits = same ∙ whole_carries id c y.taken low x.taken (length x.sent) x.taken s (untaken_of x y) (ds ++ rl) comes;
  }

  -- what a lane to a party that awaits r carries
  awaited : (s r : Seat P) (u c : ℕ) (ds : List (BodyAt P)) → IsThere s → IsNotGiven s → u ≡ taker_of r → c ≡ coming_of r → old_in r ro (source_for s r) u c ≡ [] → Shows w s (side_of id place r ro rl) →
      carries_under id c (ds ++ lane_from w (party_of s) u) ≡ carries_under id c (ds ++ rl)
  awaited s r u c ds i g a k none v =
      let lane : carries_under id c (lane_from w (party_of s) u) ≡ carries_under id c rl =
      ap (λ l. carries_under id c l) (lane_is s r u i g) ∙ lane_carries s r (source_for s r) u c true (rw (← a, ← k) (self_key (source_for s r) u c)) none v in
      carries_append id c ds (lane_from w (party_of s) u) ∙ ap (λ l. carries_under id c ds ++ l) lane ∙ sym (carries_append id c ds rl)
    where
      lane_is : (s r : Seat P) (u : ℕ) → IsThere s → IsNotGiven s → lane_from w (party_of s) u ≡ bodies (w.lanes (source_for s r) u)
      lane_is gone r u i g = absurd i
      lane_is (given a t e q ds) r u i g = absurd g
      lane_is s r u i g = refl

  -- r is Signalled
  signalled_stands : (pace : Pace) (s : Seat P) (b u : ℕ) (e : EndAt P) (ds : List (BodyAt P)) → NumbersFit pace s (signalled b u e ds) → Comes pace id x y s (signalled b u e ds) rl → ResendFits y.taken s →
      Comes (turned pace) sid y x (signalled b u e ds) s sl → AreOld (turned pace) sid y (signalled b u e ds) s so →
      Shows w s (side_of id place (signalled b u e ds) ro rl) → Shows w (signalled b u e ds) (side_of sid ps s so sl) → Stands s (signalled b u e ds)
  signalled_stands level s b u e ds n c f back o v z = told s (signalled b u e ds) (signal_told b u e ds s n back o z)
  signalled_stands (ahead k) gone b u e ds n c f back o v z = absurd (cc n.0)
  signalled_stands (ahead k) (given a t g None ks) b u e ds n c f back o v z =
      inl (flows_whole (given a t g None ks) (comes_low (ahead k) e x) (e.conn + 1) ds [] c.1
      (ap (λ l. carries_under id (e.conn + 1) (ds ++ l)) (sym c.0)))
  signalled_stands (ahead k) (given a t g (Some m) ks) b u e ds n c f back o v z = inr (inr (inr (ap Some f.0)))
  signalled_stands (ahead k) s b u e ds n c f back o v z =
      let other = and_false (is_lane (source_for s (signalled b u e ds)) u e.peer b) in
      inl (flows_whole s (comes_low (ahead k) e x) (e.conn + 1) ds (lane_from w (party_of s) u) c
      (awaited s (signalled b u e ds) u (e.conn + 1) ds tt tt refl refl (rw (not_next e.conn, other) refl) v))
  signalled_stands (behind by_ack) s b u e ds n c f back o v z = told s (signalled b u e ds) (ahead_told b u e ds s (there_beside (behind by_ack) s (signalled b u e ds) n refl) n back z)
  signalled_stands (behind by_signal) s b u e ds n c f back o v z = told s (signalled b u e ds) (explained_told s (signalled b u e ds) (Signal sid 0 0 0) (there_beside (behind by_signal) s (signalled b u e ds) n refl) tt n o z)

  -- r is in a Give
  given_stands : (pace : Pace) (s : Seat P) (b u : ℕ) (e : EndAt P) (resend : Option ℕ) (ds : List (BodyAt P)) → NumbersFit pace s (given b u e resend ds) → Comes pace id x y s (given b u e resend ds) rl → ResendFits y.taken s →
      AreOld (turned pace) sid y (given b u e resend ds) s so → Shows w s (side_of id place (given b u e resend ds) ro rl) → Shows w (given b u e resend ds) (side_of sid ps s so sl) → Stands s (given b u e resend ds)
  given_stands level gone b u e resend ds n c f o v z = absurd (cc n.1)
  given_stands level (given a t g None ks) b u e resend ds n c f o v z =
      inl (flows_whole (given a t g None ks) e.base e.conn ds [] c.1 (ap (λ l. carries_under id e.conn (ds ++ l)) (sym c.0)))
  given_stands level (given a t g (Some m) ks) b u e resend ds n c f o v z = inr (inr (inr (ap Some f.0)))
  given_stands level s b u e resend ds n c f o v z =
      inl (flows_whole s e.base e.conn ds (lane_from w (party_of s) u) c (awaited s (given b u e resend ds) u e.conn ds tt tt refl refl refl v))
  given_stands (ahead k) gone b u e resend ds n c f o v z = absurd (cc n.0)
  given_stands (ahead k) s b u e resend ds n c f o v z = absurd (numbers_ahead k s (given b u e resend ds) tt tt n).1
  given_stands (behind by_ack) s b u e resend ds n c f o v z = absurd c.1
  given_stands (behind by_signal) s b u e resend ds n c f o v z = told s (given b u e resend ds) (explained_told s (given b u e resend ds) (Signal sid 0 0 0) (there_beside (behind by_signal) s (given b u e resend ds) n refl) tt n o z)

  -- an end that isn't gone has in its cache what the other one hasn't taken
  can_resend : (IsOver : P → Type 0) (s : Seat P) → IsThere s → SeatFits IsOver sid y x s → CanResend y.taken s
  can_resend IsOver (held a h) i f = f.2
  can_resend IsOver (parked a e) i f = f.2
  can_resend IsOver (claimed a t e) i f = f.1
  can_resend IsOver (signalled a t e ds) i f = f.1
  can_resend IsOver (given a t e q ds) i f = f.1
  can_resend IsOver (closed a e) i f = f.2
  can_resend IsOver gone i f = absurd i

  -- where a sign says so, it is owed
  owed : (s r : Seat P) → Stands s r → CanResend y.taken s → IsFlowing w (side_of sid ps s so sl) (side_of id place r ro rl) (untaken_of x y) ⊎ IsOwed w (side_of sid ps s so sl) (side_of id place r ro rl) y.taken
  owed s r (inl f) can = inl f
  owed s r (inr sign) can = inr (sign, can)

  -- each direction is flowing or owed
  pub stands : (IsOver : P → Type 0) (pace : Pace) (s r : Seat P) → IsSound IsOver pace x y (side_of sid ps s so sl) (side_of id place r ro rl) → Shows w s (side_of id place r ro rl) → Shows w r (side_of sid ps s so sl) →
      IsFlowing w (side_of sid ps s so sl) (side_of id place r ro rl) (untaken_of x y) ⊎ IsOwed w (side_of sid ps s so sl) (side_of id place r ro rl) y.taken
  stands IsOver pace s (held b h) d v z = owed s (held b h) (held_stands pace s b h d.numbers d.there.comes d.there.resend d.back.old v z) (can_resend IsOver s (there_beside pace s (held b h) d.numbers refl) d.back.fits)
  stands IsOver pace s (parked b e) d v z = inr (inl tt, can_resend IsOver s (there_beside pace s (parked b e) d.numbers refl) d.back.fits)
  stands IsOver pace s (claimed b u e) d v z = inr (inl tt, can_resend IsOver s (there_beside pace s (claimed b u e) d.numbers refl) d.back.fits)
  stands IsOver pace s (signalled b u e ds) d v z =
      owed s (signalled b u e ds) (signalled_stands pace s b u e ds d.numbers d.there.comes d.there.resend d.back.comes d.back.old v z) (can_resend IsOver s (there_beside pace s (signalled b u e ds) d.numbers refl) d.back.fits)
  stands IsOver pace s (given b u e resend ds) d v z =
      owed s (given b u e resend ds) (given_stands pace s b u e resend ds d.numbers d.there.comes d.there.resend d.back.old v z) (can_resend IsOver s (there_beside pace s (given b u e resend ds) d.numbers refl) d.back.fits)
  stands IsOver pace s (closed b e) d v z = inl d.there.fits.4
  stands IsOver pace s gone d v z = inl d.there.fits.1
