-- A Carry that comes to a Held end fits its row, and what then still comes is the rest.
use Rattle.std.proofs.Common.{◌≡◌, ℕ, ◌+◌, ◌≤◌, List, [], ◌∷◌, ◌++◌, length, refl, sym, ap, append_assoc, arith, length-append, ◌∙◌, inl, inr}
use Rattle.std.specs.Prelude.{true, false, Some, ◌⊎◌, ◌==◌, nat_le}
use Rattle.std.proofs.lemmas.Bool.{le-leb, eq-eqb}
use Rattle.sj_base.specs.declared.EndId.{EndId}
use Rattle.sj_base.specs.declared.Msg.{Msg}
use Rattle.sj_rules.specs.Record.{BodyAt, Carry, HeldAt}
use Rattle.sj_rules.specs.Rows.{IsPick, at_held, trimmed_end}
use Rattle.sj_rules.specs.Seat.{Seat, held, parked, claimed, signalled, given, closed, gone}
use Rattle.sj_rules.specs.PlainSide.{PlainSide, untaken_of}
use Rattle.sj_rules.specs.Counts.{Agrees}
use Rattle.sj_rules.specs.Streams.{AreCarries, ComesWhole, ComesToHeld, mark_of, mark_for}
use Rattle.sj_rules.specs.Numbers.{is_over}

-- Carries that report counts from a number on report them from a smaller one on
pub carries_from_lower : {P : Type 0} → (to : EndId) (conn number lower low high : ℕ) (msgs : List Msg) (bs : List (BodyAt P)) →
    lower ≤ low → AreCarries to conn number low high msgs bs → AreCarries to conn number lower high msgs bs
carries_from_lower to conn number lower low high [] [] l a = omega arith
carries_from_lower to conn number lower low high (m ∷ ms) (b ∷ bs) l a = (a.0, omega (arith, l, a.1), a.2, a.3)
carries_from_lower to conn number lower low high [] (b ∷ bs) l a = absurd a
carries_from_lower to conn number lower low high (m ∷ ms) [] l a = absurd a

pub carries_within : {P : Type 0} → (to : EndId) (conn number low high : ℕ) (msgs : List Msg) (bs : List (BodyAt P)) →
    AreCarries to conn number low high msgs bs → low ≤ high
carries_within to conn number low high [] [] a = a
carries_within to conn number low high (m ∷ ms) (b ∷ bs) a =
    let h : a.0 ≤ high = carries_within to conn (number + 1) a.0 high ms bs a.3 in
    omega (arith, h, a.1)
carries_within to conn number low high [] (b ∷ bs) a = absurd a
carries_within to conn number low high (m ∷ ms) [] a = absurd a

-- the first of what comes, where it is a Carry
pub record FirstCarry {P : Type 0} (to : EndId) (conn number low : ℕ) (x : PlainSide P) (s : Seat P) (msgs : List Msg)
    (d : EndId) (c n t : ℕ) (m : Msg) (rest : List (BodyAt P)) : Type 0 where
  pub later : List Msg
  pub msgs_are : msgs ≡ m ∷ later
  pub conn_is : c ≡ conn
  pub number_is : n ≡ number
  pub low_is : low ≤ t
  pub high_is : t ≤ x.taken
  pub comes : ComesWhole to conn (number + 1) t x.taken (mark_for to conn x s) later rest

-- no mark is a Carry
mark_is_no_carry : {P : Type 0} → (to : EndId) (conn sent taken : ℕ) (s : Seat P) (d : EndId) (c n t : ℕ) (m : Msg) (rest : List (BodyAt P)) →
    Carry d c n t m ∷ rest ≡ mark_of to conn sent taken s → ⊥
mark_is_no_carry to conn sent taken (held at h) d c n t m rest e = cc
mark_is_no_carry to conn sent taken (parked at p) d c n t m rest e = cc
mark_is_no_carry to conn sent taken (claimed at u p) d c n t m rest e = cc
mark_is_no_carry to conn sent taken (signalled at u p deferred) d c n t m rest e = cc
mark_is_no_carry to conn sent taken (given at u p resend deferred) d c n t m rest e = cc
mark_is_no_carry to conn sent taken (closed at p) d c n t m rest e = cc
mark_is_no_carry to conn sent taken gone d c n t m rest e = cc

first_in : {P : Type 0} → (to : EndId) (conn number low : ℕ) (x : PlainSide P) (s : Seat P) (msgs : List Msg)
    (d : EndId) (c n t : ℕ) (m : Msg) (rest carries : List (BodyAt P)) →
    Carry d c n t m ∷ rest ≡ carries ++ mark_for to conn x s →
    AreCarries to conn number low x.taken msgs carries → FirstCarry to conn number low x s msgs d c n t m rest
first_in to conn number low x s [] d c n t m rest [] e a = absurd (mark_is_no_carry to conn (length x.sent) x.taken s d c n t m rest e)
first_in to conn number low x s [] d c n t m rest (b ∷ bs) e a = absurd a
first_in to conn number low x s (k ∷ ks) d c n t m rest [] e a = absurd a
first_in {P} to conn number low x s (k ∷ ks) d c n t m rest (b ∷ bs) e a =
    let same : ◌≡◌ {A = BodyAt P} (Carry d c n t m) (Carry to conn number a.0 k) = cc (e, a.2) in
    let told : t ≡ a.0 = cc same in
    let within : a.0 ≤ x.taken = carries_within to conn (number + 1) a.0 x.taken ks bs a.3 in
    record {
      later = ks;
      msgs_are = cc same;
      conn_is = cc same;
      number_is = cc same;
      low_is = omega (arith, told, a.1);
      high_is = omega (arith, told, within);
      comes = record { carries = bs; split = cc e; are = rw told a.3 };
    }

pub first_carry : {P : Type 0} → (to : EndId) (conn number low : ℕ) (x : PlainSide P) (s : Seat P) (msgs : List Msg)
    (d : EndId) (c n t : ℕ) (m : Msg) (rest : List (BodyAt P)) →
    ComesWhole to conn number low x.taken (mark_for to conn x s) msgs (Carry d c n t m ∷ rest) → FirstCarry to conn number low x s msgs d c n t m rest
first_carry to conn number low x s msgs d c n t m rest w = first_in to conn number low x s msgs d c n t m rest w.carries w.split w.are

abbrev pub carried : {P : Type 0} → (ℕ → ℕ → ℕ) → HeldAt P → (told : ℕ) → Msg → HeldAt P
carried pick h told msg = record { end = trimmed_end pick h.end told; untaken = h.untaken ++ msg ∷ []; fin = h.fin }

-- its row, where the Carry is the next one
carry_fits : {P : Type 0} → (pick : ℕ → ℕ → ℕ) (h : HeldAt P) (d : EndId) (c n t : ℕ) (m : Msg) →
    c ≡ h.end.conn → h.fin ≡ false → n ≡ h.end.taken + length h.untaken → h.end.base ≤ t → t ≤ h.end.sent →
    at_held pick h h.end.peer (Carry d c n t m) ≡ Some (record { state = carried pick h t m; posts = [] })
carry_fits pick h d c n t m conn fin number low high =
    let a : (c == h.end.conn) ≡ true = eq-eqb c h.end.conn conn in
    let b : (h.end.peer == h.end.peer) ≡ true = eq-eqb h.end.peer h.end.peer refl in
    let e : (n == h.end.taken + length h.untaken) ≡ true = eq-eqb n (h.end.taken + length h.untaken) number in
    let f : nat_le h.end.base t ≡ true = le-leb h.end.base t low in
    let g : nat_le t h.end.sent ≡ true = le-leb t h.end.sent high in
    simp (a, b, fin, e, f, g)

still_comes : {P : Type 0} → (pick : ℕ → ℕ → ℕ) → IsPick pick → (to : EndId) (h : HeldAt P) (x y : PlainSide P) (s : Seat P)
    (msgs : List Msg) (d : EndId) (c n t : ℕ) (m : Msg) (rest : List (BodyAt P)) →
    untaken_of x y ≡ h.untaken ++ msgs → h.fin ≡ false →
    FirstCarry to h.end.conn (y.taken + length h.untaken) h.end.base x s msgs d c n t m rest →
    ComesToHeld to (carried pick h t m) (untaken_of x y) y.taken x.taken (is_over s) (mark_for to h.end.conn x s) rest
still_comes pick picks to h x y s msgs d c n t m rest all fin f =
    let higher : pick h.end.base t ≤ t = omega (arith, (picks h.end.base t).1, f.low_is) in
    let longer : y.taken + length (h.untaken ++ m ∷ []) ≡ y.taken + length h.untaken + 1 = omega (arith, length-append h.untaken (m ∷ [])) in
    record {
      rest = f.later;
      all = all ∙ ap (λ l. h.untaken ++ l) f.msgs_are ∙ sym (append_assoc h.untaken (m ∷ []) f.later);
      comes = inl (
        fin,
        record {
          carries = f.comes.carries;
          split = f.comes.split;
          are = rw longer (carries_from_lower to h.end.conn (y.taken + length h.untaken + 1) (pick h.end.base t) t x.taken f.later f.comes.carries higher f.comes.are);
        },
      );
    }

-- a Carry that comes to a Held end fits, and the rest is what still comes
pub carry_comes : {P : Type 0} → (pick : ℕ → ℕ → ℕ) → IsPick pick → (to : EndId) (h : HeldAt P) (x y : PlainSide P) (s : Seat P)
    (d : EndId) (c n t : ℕ) (m : Msg) (rest : List (BodyAt P)) →
    Agrees to h.end y → x.taken ≤ length y.sent → ComesToHeld to h (untaken_of x y) y.taken x.taken (is_over s) (mark_for to h.end.conn x s) (Carry d c n t m ∷ rest) →
    (at_held pick h h.end.peer (Carry d c n t m) ≡ Some (record { state = carried pick h t m; posts = [] }))
    × ComesToHeld to (carried pick h t m) (untaken_of x y) y.taken x.taken (is_over s) (mark_for to h.end.conn x s) rest
carry_comes {P} pick picks to h x y s d c n t m rest agrees fewer comes = by comes.comes
  where
    by : (h.fin ≡ false) × ComesWhole to h.end.conn (y.taken + length h.untaken) h.end.base x.taken (mark_for to h.end.conn x s) comes.rest (Carry d c n t m ∷ rest)
        ⊎ (h.fin ≡ true) × (is_over s ≡ true) × (◌≡◌ {A = List (BodyAt P)} (Carry d c n t m ∷ rest) []) × (comes.rest ≡ []) →
        (at_held pick h h.end.peer (Carry d c n t m) ≡ Some (record { state = carried pick h t m; posts = [] }))
        × ComesToHeld to (carried pick h t m) (untaken_of x y) y.taken x.taken (is_over s) (mark_for to h.end.conn x s) rest
    by (inl p) =
        let f : FirstCarry to h.end.conn (y.taken + length h.untaken) h.end.base x s comes.rest d c n t m rest =
        first_carry to h.end.conn (y.taken + length h.untaken) h.end.base x s comes.rest d c n t m rest p.1 in (
          carry_fits pick h d c n t m f.conn_is p.0 (omega (arith, f.number_is, agrees.taken)) f.low_is
              (omega (arith, f.high_is, fewer, agrees.sent)),
          still_comes pick picks to h x y s comes.rest d c n t m rest comes.all p.0 f,
        )
    by (inr p) = absurd (cc p.2)
