-- A Carry or a Fin that comes to a Held end, in a sound session.
use Rattle.std.proofs.Common.{◌≡◌, ℕ, ◌+◌, ◌-◌, ◌≤◌, List, [], ◌∷◌, ◌++◌, length, drop, refl, sym, ap, arith, ◌∙◌, inl, inr, append-nil}
use Rattle.std.specs.Prelude.{true, false, Some, None, ◌⊎◌, ◌==◌}
use Rattle.std.proofs.lemmas.Bool.{eq-eqb}
use Rattle.std.proofs.lemmas.List.{length-drop}
use Rattle.sj_base.specs.declared.EndId.{EndId}
use Rattle.sj_base.specs.declared.Msg.{Msg}
use Rattle.sj_rules.specs.Record.{EndAt, BodyAt, Carry, Fin, HeldAt}
use Rattle.sj_rules.specs.Rows.{IsPick, at_held, trimmed_end}
use Rattle.sj_rules.specs.Seat.{Seat, held, given, closed, gone, side_of}
use Rattle.sj_rules.specs.PlainSide.{PlainSide, untaken_of}
use Rattle.sj_rules.specs.Counts.{Agrees, SeatFits}
use Rattle.sj_rules.specs.Numbers.{Pace, level, ahead, behind, NumbersFit, IsWithinHops, is_over}
use Rattle.sj_rules.specs.Streams.{AreCarries, ComesWhole, ComesToHeld, mark_of, mark_for}
use Rattle.sj_rules.specs.Invariant.{IsSound}
use Rattle.sj_rules.specs.Coming.{Comes, AreOld}
use Rattle.sj_world_lemmas.proofs.CarryLemmas.{first_carry, carried, carry_comes}
use Rattle.sj_world_lemmas.proofs.CrossingLemmas.{trim_agrees}
use Rattle.sj_world_lemmas.proofs.LeadLemmas.{behind_is_signalled}

-- what comes to a Held end from an end that is in no Give with a resend
abbrev pub ComesFrom : {P : Type 0} → EndId → (x y : PlainSide P) → Seat P → HeldAt P → List (BodyAt P) → Type 0
ComesFrom to x y s h live = ComesToHeld to h (untaken_of x y) y.taken x.taken (is_over s) (mark_for to h.end.conn x s) live

-- a frame that comes, comes from such an end
pub from_sender : {P : Type 0} → (to : EndId) (x y : PlainSide P) (b : ℕ) (h : HeldAt P) (s : Seat P) (f : BodyAt P) (rest : List (BodyAt P)) →
    NumbersFit level s (held b h) → Comes level to x y s (held b h) (f ∷ rest) → ComesFrom to x y s h (f ∷ rest)
from_sender to x y b h gone f rest n c = absurd (cc n.1)
from_sender to x y b h (given a t e None ds) f rest n c = c.1
from_sender to x y b h (given a t e (Some k) ds) f rest n c = absurd (cc c.0)
from_sender to x y b h s f rest n c = c

-- and back
pub to_receiver : {P : Type 0} → (to : EndId) (x y : PlainSide P) (b : ℕ) (g : HeldAt P) (s : Seat P) (f : BodyAt P) (rest rl : List (BodyAt P)) (h : HeldAt P) →
    NumbersFit level s (held b h) → Comes level to x y s (held b h) (f ∷ rest) → ComesFrom to x y s g rl → Comes level to x y s (held b g) rl
to_receiver to x y b g gone f rest rl h n c w = absurd (cc n.1)
to_receiver to x y b g (given a t e None ds) f rest rl h n c w = (tt, w)
to_receiver to x y b g (given a t e (Some k) ds) f rest rl h n c w = absurd (cc c.0)
to_receiver to x y b g s f rest rl h n c w = w

module _ {P : Type 0} (IsOver : P → Type 0) (x y : PlainSide P) (sid rid : EndId) (ps pr : P) (so sl : List (BodyAt P)) (b : ℕ) (h g : HeldAt P) where
  -- the numbers
  numbers_kept : (s : Seat P) → g.end.conn ≡ h.end.conn → g.end.peer ≡ h.end.peer → NumbersFit level s (held b h) → NumbersFit level s (held b g)
  numbers_kept gone c p n = n
  numbers_kept s c p n = (n.0 ∙ sym c, n.1, p ∙ n.2)

  -- the hops
  hops_kept : (s : Seat P) (hops : ℕ) → g.end.conn ≡ h.end.conn → IsWithinHops level hops s (held b h) → IsWithinHops level hops s (held b g)
  hops_kept s hops c w = (w.0, rw c w.1)

  -- what comes to s
  back_kept : (s : Seat P) (live : List (BodyAt P)) → Comes level sid y x (held b h) s live → Comes level sid y x (held b g) s live
  back_kept gone live c = c
  back_kept s live c = c

  -- and the old stream of s
  old_kept : (s : Seat P) (old : List (BodyAt P)) → AreOld level sid y (held b h) s old → AreOld level sid y (held b g) s old
  old_kept gone old o = o
  old_kept s old o = o

  -- the end has other counts or frames, and the same number and peer
  pub held_changed : (s : Seat P) (ro live rl : List (BodyAt P)) → g.end.conn ≡ h.end.conn → g.end.peer ≡ h.end.peer →
      SeatFits IsOver rid x y (held b g) → Comes level rid x y s (held b g) rl →
      IsSound IsOver level x y (side_of sid ps s so sl) (side_of rid pr (held b h) ro live) →
      IsSound IsOver level x y (side_of sid ps s so sl) (side_of rid pr (held b g) ro rl)
  held_changed s ro live rl conn peer fits comes sound = record {
    others = sound.others;
    numbers = numbers_kept s conn peer sound.numbers;
    hops = hops_kept s (x.hops + y.hops) conn sound.hops;
    there = record { fits = fits; place = sound.there.place; resend = sound.there.resend; comes = comes; old = sound.there.old };
    back = record {
      fits = sound.back.fits;
      place = sound.back.place;
      resend = tt;
      comes = back_kept s sl sound.back.comes;
      old = old_kept s so sound.back.old;
    };
  }

-- what a Carry reports is at most what s took
carry_told : {P : Type 0} → (to : EndId) (x y : PlainSide P) (s : Seat P) (h : HeldAt P) (d : EndId) (c n t : ℕ) (m : Msg) (rest : List (BodyAt P)) →
    ComesFrom to x y s h (Carry d c n t m ∷ rest) → (h.fin ≡ false) × (t ≤ x.taken)
carry_told {P} to x y s h d c n t m rest w = by w.comes
  where
    by : (h.fin ≡ false) × ComesWhole to h.end.conn (y.taken + length h.untaken) h.end.base x.taken (mark_for to h.end.conn x s) w.rest (Carry d c n t m ∷ rest)
        ⊎ (h.fin ≡ true) × (is_over s ≡ true) × (◌≡◌ {A = List (BodyAt P)} (Carry d c n t m ∷ rest) []) × (w.rest ≡ []) → (h.fin ≡ false) × (t ≤ x.taken)
    by (inl p) = (p.0, (first_carry to h.end.conn (y.taken + length h.untaken) h.end.base x s w.rest d c n t m rest p.1).high_is)
    by (inr p) = absurd (cc p.2)

-- a trimmed cache, under the same number and peer
trim_fits : {P : Type 0} → (pick : ℕ → ℕ → ℕ) → IsPick pick → (id : EndId) (e : EndAt P) (y : PlainSide P) (told : ℕ) → Agrees id e y → Agrees id (trimmed_end pick e told) y
trim_fits pick picks id e y told a =
    let t : Agrees id (trimmed_end pick (record e { conn = e.conn + 1; peer = e.peer }) told) y = trim_agrees pick picks id e y e.peer told a in
    record { name = t.name; hops = t.hops; sent = t.sent; taken = t.taken; cache = t.cache }

-- a Fin is the mark, and nothing is left before it
fin_in : {P : Type 0} → (to : EndId) (conn number low high : ℕ) (mark : List (BodyAt P)) (msgs : List Msg) (d : EndId) (c n : ℕ) (rest carries : List (BodyAt P)) →
    Fin d c n ∷ rest ≡ carries ++ mark → AreCarries to conn number low high msgs carries → (Fin d c n ∷ rest ≡ mark) × (msgs ≡ [])
fin_in to conn number low high mark [] d c n rest [] e a = (e, refl)
fin_in to conn number low high mark [] d c n rest (f ∷ fs) e a = absurd a
fin_in to conn number low high mark (m ∷ ms) d c n rest [] e a = absurd a
fin_in to conn number low high mark (m ∷ ms) d c n rest (f ∷ fs) e a = absurd (cc (e, a.2))

-- the Fin of s
pub record LastFin {P : Type 0} (to : EndId) (x y : PlainSide P) (s : Seat P) (h : HeldAt P) (c n : ℕ) (rest : List (BodyAt P)) : Type 0 where
  pub fin : h.fin ≡ false
  pub conn_is : c ≡ h.end.conn
  pub number_is : n ≡ length x.sent
  pub over : is_over s ≡ true
  pub rest_is : rest ≡ []
  pub all : untaken_of x y ≡ h.untaken

-- a Fin that is the mark of s
pub fin_is_mark : {P : Type 0} → (to : EndId) (conn sent taken : ℕ) (s : Seat P) (d : EndId) (c n : ℕ) (rest : List (BodyAt P)) →
    Fin d c n ∷ rest ≡ mark_of to conn sent taken s → (c ≡ conn) × (n ≡ sent) × (is_over s ≡ true) × (rest ≡ []) × (d ≡ to)
fin_is_mark to conn sent taken (closed a g) d c n rest e = (cc e, cc e, refl, cc e, cc e)
fin_is_mark to conn sent taken gone d c n rest e = (cc e, cc e, refl, cc e, cc e)
fin_is_mark to conn sent taken s d c n rest e = absurd (cc e)

-- a Fin that comes is the last frame
last_fin : {P : Type 0} → (to : EndId) (x y : PlainSide P) (s : Seat P) (h : HeldAt P) (d : EndId) (c n : ℕ) (rest : List (BodyAt P)) →
    ComesFrom to x y s h (Fin d c n ∷ rest) → LastFin to x y s h c n rest
last_fin {P} to x y s h d c n rest w = by w.comes
  where
    by : (h.fin ≡ false) × ComesWhole to h.end.conn (y.taken + length h.untaken) h.end.base x.taken (mark_for to h.end.conn x s) w.rest (Fin d c n ∷ rest)
        ⊎ (h.fin ≡ true) × (is_over s ≡ true) × (◌≡◌ {A = List (BodyAt P)} (Fin d c n ∷ rest) []) × (w.rest ≡ []) → LastFin to x y s h c n rest
    by (inl p) =
        let i : (Fin d c n ∷ rest ≡ mark_for to h.end.conn x s) × (w.rest ≡ []) =
        fin_in to h.end.conn (y.taken + length h.untaken) h.end.base x.taken (mark_for to h.end.conn x s) w.rest d c n rest p.1.carries p.1.split p.1.are in
        let k : (c ≡ h.end.conn) × (n ≡ length x.sent) × (is_over s ≡ true) × (rest ≡ []) × (d ≡ to) = fin_is_mark to h.end.conn (length x.sent) x.taken s d c n rest i.0 in
        record { fin = p.0; conn_is = k.0; number_is = k.1; over = k.2; rest_is = k.3; all = w.all ∙ ap (λ l. h.untaken ++ l) i.1 ∙ append-nil h.untaken }
    by (inr p) = absurd (cc p.2)

-- its row
fin_row : {P : Type 0} → (pick : ℕ → ℕ → ℕ) (h : HeldAt P) (d : EndId) (c n : ℕ) → c ≡ h.end.conn → h.fin ≡ false → n ≡ h.end.taken + length h.untaken →
    at_held pick h h.end.peer (Fin d c n) ≡ Some (record { state = record h { fin = true }; posts = [] })
fin_row pick h d c n conn fin number =
    let a : (c == h.end.conn) ≡ true = eq-eqb c h.end.conn conn in
    let b : (h.end.peer == h.end.peer) ≡ true = eq-eqb h.end.peer h.end.peer refl in
    let e : (n == h.end.taken + length h.untaken) ≡ true = eq-eqb n (h.end.taken + length h.untaken) number in
    simp (a, b, fin, e)

module _ {P : Type 0} (IsOver : P → Type 0) (pick : ℕ → ℕ → ℕ) (picks : IsPick pick) (x y : PlainSide P) (sid rid : EndId) (ps pr : P) (s : Seat P)
    (so sl : List (BodyAt P)) (b : ℕ) (h : HeldAt P) (d : EndId) where
  -- a Carry is put after what is untaken
  pub carry_held : (pace : Pace) (ro rest : List (BodyAt P)) (c n t : ℕ) (m : Msg) → x.taken ≤ length y.sent →
      IsSound IsOver pace x y (side_of sid ps s so sl) (side_of rid pr (held b h) ro (Carry d c n t m ∷ rest)) →
      (at_held pick h h.end.peer (Carry d c n t m) ≡ Some (record { state = carried pick h t m; posts = [] }))
      × IsSound IsOver pace x y (side_of sid ps s so sl) (side_of rid pr (held b (carried pick h t m)) ro rest)
  carry_held level ro rest c n t m fewer sound =
      let fits : Agrees rid h.end y × (y.offered ≡ false → h.end.place ≡ y.place) × (h.end.base ≤ x.taken) = sound.there.fits in
      let w : ComesFrom rid x y s h (Carry d c n t m ∷ rest) = from_sender rid x y b h s (Carry d c n t m) rest sound.numbers sound.there.comes in
      let told : (h.fin ≡ false) × (t ≤ x.taken) = carry_told rid x y s h d c n t m rest w in
      let k : (at_held pick h h.end.peer (Carry d c n t m) ≡ Some (record { state = carried pick h t m; posts = [] })) × ComesFrom rid x y s (carried pick h t m) rest =
      carry_comes pick picks rid h x y s d c n t m rest fits.0 fewer w in
      let base : pick h.end.base t ≤ x.taken = omega (arith, (picks h.end.base t).1, told.1, fits.2) in (
        k.0,
        held_changed IsOver x y sid rid ps pr so sl b h (carried pick h t m) s ro (Carry d c n t m ∷ rest) rest refl refl
            (trim_fits pick picks rid h.end y t fits.0, fits.1, base)
            (to_receiver rid x y b (carried pick h t m) s (Carry d c n t m) rest rest h sound.numbers sound.there.comes k.1)
            sound,
      )
  carry_held (ahead z) ro rest c n t m fewer sound = absurd (behind_is_signalled z s (held b h) sound.numbers)
  carry_held (behind z) ro rest c n t m fewer sound = absurd (cc sound.there.comes.0)

  -- a Fin is noted
  pub fin_held : (pace : Pace) (ro rest : List (BodyAt P)) (c n : ℕ) → y.taken ≤ length x.sent →
      IsSound IsOver pace x y (side_of sid ps s so sl) (side_of rid pr (held b h) ro (Fin d c n ∷ rest)) →
      (at_held pick h h.end.peer (Fin d c n) ≡ Some (record { state = record h { fin = true }; posts = [] }))
      × IsSound IsOver pace x y (side_of sid ps s so sl) (side_of rid pr (held b (record h { fin = true })) ro rest)
  fin_held level ro rest c n fewer sound =
      let fits : Agrees rid h.end y × (y.offered ≡ false → h.end.place ≡ y.place) × (h.end.base ≤ x.taken) = sound.there.fits in
      let w : ComesFrom rid x y s h (Fin d c n ∷ rest) = from_sender rid x y b h s (Fin d c n) rest sound.numbers sound.there.comes in
      let l : LastFin rid x y s h c n rest = last_fin rid x y s h d c n rest w in
      let long : length (drop y.taken x.sent) ≡ length x.sent - y.taken = length-drop y.taken x.sent in
      let same : length (drop y.taken x.sent) ≡ length h.untaken = ap length l.all in (
        fin_row pick h d c n l.conn_is l.fin (omega (arith, l.number_is, long, same, fewer, fits.0.taken)),
        held_changed IsOver x y sid rid ps pr so sl b h (record h { fin = true }) s ro (Fin d c n ∷ rest) rest refl refl
            fits
            (to_receiver rid x y b (record h { fin = true }) s (Fin d c n) rest rest h sound.numbers sound.there.comes
            (record { rest = []; all = l.all ∙ sym (append-nil h.untaken); comes = inr (refl, l.over, l.rest_is, refl) }))
            sound,
      )
  fin_held (ahead z) ro rest c n fewer sound = absurd (behind_is_signalled z s (held b h) sound.numbers)
  fin_held (behind z) ro rest c n fewer sound = absurd (cc sound.there.comes.0)
