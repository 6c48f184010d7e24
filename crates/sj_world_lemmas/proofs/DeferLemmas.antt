-- A frame of the coming number at an Expected record is deferred.
use Rattle.std.proofs.Common.{◌≡◌, ℕ, ◌+◌, List, [], ◌∷◌, ◌++◌, length, refl, ap, arith, ◌∙◌, append_assoc}
use Rattle.std.specs.Prelude.{⊤, Bool, true, false, Option, Some, None, ◌==◌, if◌then◌else◌}
use Rattle.std.proofs.lemmas.Bool.{ne_eqb}
use Rattle.std.proofs.lemmas.List.{map-append}
use Rattle.sj_base.specs.declared.EndId.{EndId}
use Rattle.sj_base.specs.declared.Msg.{Msg}
use Rattle.sj_rules.specs.Record.{EndAt, BodyAt, Carry, Fin, Signal, Expected, Signalled}
use Rattle.sj_rules.specs.Node.{NodeAt, comes, quietly, with_main, with_number}
use Rattle.sj_rules.specs.Seat.{Seat, signalled, given, closed, gone, source_for, side_of}
use Rattle.sj_rules.specs.Shown.{old_shown}
use Rattle.sj_rules.specs.PlainSide.{PlainSide, untaken_of}
use Rattle.sj_rules.specs.Numbers.{Pace, level, ahead, behind, Cause, by_ack, by_signal, NumbersFit}
use Rattle.sj_rules.specs.Streams.{AreCarries, ComesWhole, mark_of}
use Rattle.sj_rules.specs.Invariant.{IsSound}
use Rattle.sj_rules.specs.Coming.{Comes, AreOld, comes_low}
use Rattle.sj_rules.specs.Counts.{ResendFits}
use Rattle.sj_rules.specs.Worked.{mails_of}
use Rattle.sj_world_lemmas.proofs.LeadLemmas.{behind_is_signalled}

-- a frame that may be deferred, of that number
abbrev pub IsUnder : {P : Type 0} → EndId → (conn : ℕ) → BodyAt P → Type 0
IsUnder to conn (Carry d c number taken msg) = (d ≡ to) × (c ≡ conn)
IsUnder to conn (Fin d c number) = (d ≡ to) × (c ≡ conn)
IsUnder to conn (Signal d c party taken) = (d ≡ to) × (c ≡ conn)
IsUnder to conn _ = ⊥

-- all of them
abbrev pub AreUnder : {P : Type 0} → EndId → (conn : ℕ) → List (BodyAt P) → Type 0
AreUnder to conn [] = ⊤
AreUnder to conn (b ∷ bs) = IsUnder to conn b × AreUnder to conn bs

-- the mark of s is such a frame
pub mark_under : {P : Type 0} → (to : EndId) (conn sent taken : ℕ) (s : Seat P) → AreUnder to conn (mark_of to conn sent taken s)
mark_under to conn sent taken (signalled a t e ds) = ((refl, refl), tt)
mark_under to conn sent taken (closed a e) = ((refl, refl), tt)
mark_under to conn sent taken gone = ((refl, refl), tt)
mark_under to conn sent taken s = tt

-- so are Carries before it
carries_before : {P : Type 0} → (to : EndId) (conn number low high : ℕ) (msgs : List Msg) (bs mark : List (BodyAt P)) →
    AreCarries to conn number low high msgs bs → AreUnder to conn mark → AreUnder to conn (bs ++ mark)
carries_before to conn number low high [] [] mark a u = u
carries_before to conn number low high [] (b ∷ bs) mark a u = absurd a
carries_before to conn number low high (m ∷ ms) [] mark a u = absurd a
carries_before to conn number low high (m ∷ ms) (b ∷ bs) mark a u =
    rw a.2 ((refl, refl), carries_before to conn (number + 1) a.0 high ms bs mark a.3 u)

-- all that comes from s is of that number
pub whole_under : {P : Type 0} → (to : EndId) (conn number low high sent taken : ℕ) (s : Seat P) (msgs : List Msg) (frames : List (BodyAt P)) →
    ComesWhole to conn number low high (mark_of to conn sent taken s) msgs frames → AreUnder to conn frames
whole_under to conn number low high sent taken s msgs frames w =
    rw w.split (carries_before to conn number low high msgs w.carries (mark_of to conn sent taken s) w.are (mark_under to conn sent taken s))

-- one of them
pub under_at : {P : Type 0} → (to : EndId) (conn : ℕ) (front : List (BodyAt P)) (f : BodyAt P) (rest : List (BodyAt P)) →
    AreUnder to conn (front ++ f ∷ rest) → IsUnder to conn f
under_at to conn [] f rest u = u.0
under_at to conn (b ∷ bs) f rest u = under_at to conn bs f rest u.1

-- the row
defer_row : {P Q : Type 0} → (pick : ℕ → ℕ → ℕ) (node : NodeAt P Q) (id : EndId) (conn keeper from : ℕ) (place : P) (late : List (BodyAt P)) (f : BodyAt P) →
    with_number conn (node.old id) ≡ None → node.main id ≡ Some (Expected keeper place (mails_of from late)) → IsUnder id conn f →
    comes pick node from f ≡ Some (quietly (with_main id (Some (Expected keeper place (mails_of from (late ++ f ∷ [])))) node))
defer_row pick node id conn keeper from place late (Carry d c n t m) old main u = rw (u.0, u.1, old, main, map-append)
defer_row pick node id conn keeper from place late (Fin d c n) old main u = rw (u.0, u.1, old, main, map-append)
defer_row pick node id conn keeper from place late (Signal d c p k) old main u = rw (u.0, u.1, old, main, map-append)
defer_row pick node id conn keeper from place late f old main u = absurd u

-- a party that awaits an end that it itself sent on has an old record of another number
not_this_number : {P : Type 0} → (e : EndAt P) (to : ℕ) (here : Bool) → with_number (e.conn + 1) (if here then Some (Signalled e to) else None) ≡ None
not_this_number e to true =
    let apart : (e.conn == e.conn + 1) ≡ false = ne_eqb e.conn (e.conn + 1) (λ i. omega (arith, i)) in
    rw apart
not_this_number e to false = refl

module _ {P Q : Type 0} (IsOver : P → Type 0) (pick : ℕ → ℕ → ℕ) (node : NodeAt P Q) (x y : PlainSide P) (sid rid : EndId) (ps pr : P) (s : Seat P)
    (so sl : List (BodyAt P)) (b u : ℕ) (er : EndAt P) (dr : List (BodyAt P)) (f : BodyAt P) where
  -- what comes to a Signalled end, one frame deferred
  pub more_to_signalled : (z : Cause) (t : Seat P) (rest : List (BodyAt P)) → NumbersFit (ahead z) t (signalled b u er dr) →
      Comes (ahead z) rid x y t (signalled b u er dr) (f ∷ rest) →
      IsUnder rid (er.conn + 1) f × Comes (ahead z) rid x y t (signalled b u er (dr ++ f ∷ [])) rest
  more_to_signalled z gone rest n c = absurd (cc n.0)
  more_to_signalled z (given a v g None ds) rest n c = absurd (cc c.0)
  more_to_signalled z (given a v g (Some k) ds) rest n c = absurd (cc c.0)
  more_to_signalled z t rest n c = (
    under_at rid (er.conn + 1) dr f rest (whole_under rid (er.conn + 1) y.taken (comes_low (ahead z) er x) x.taken (length x.sent) x.taken t (untaken_of x y) (dr ++ f ∷ rest) c),
    record { carries = c.carries; split = append_assoc dr (f ∷ []) rest ∙ c.split; are = c.are },
  )

  -- the numbers
  numbers_signalled : (z : Cause) (t : Seat P) → NumbersFit (ahead z) t (signalled b u er dr) → NumbersFit (ahead z) t (signalled b u er (dr ++ f ∷ []))
  numbers_signalled z gone n = n
  numbers_signalled by_ack t n = n
  numbers_signalled by_signal t n = n

  -- the old stream of s
  old_signalled : (z : Cause) (t : Seat P) (old : List (BodyAt P)) → AreOld (behind z) sid y (signalled b u er dr) t old → AreOld (behind z) sid y (signalled b u er (dr ++ f ∷ [])) t old
  old_signalled z gone old o = o
  old_signalled z t old o = o

  -- at a taker whose keeper lags: s is ahead already
  pub defers_signalled : (pace : Pace) (ro rest : List (BodyAt P)) →
      node.old rid ≡ old_shown (signalled b u er dr) u → node.main rid ≡ Some (Expected b pr (mails_of (source_for s (signalled b u er dr)) dr)) →
      IsSound IsOver pace x y (side_of sid ps s so sl) (side_of rid pr (signalled b u er dr) ro (f ∷ rest)) →
      (comes pick node (source_for s (signalled b u er dr)) f ≡
      Some (quietly (with_main rid (Some (Expected b pr (mails_of (source_for s (signalled b u er dr)) (dr ++ f ∷ [])))) node)))
      × IsSound IsOver pace x y (side_of sid ps s so sl) (side_of rid pr (signalled b u er (dr ++ f ∷ [])) ro rest)
  defers_signalled (ahead z) ro rest old main sound =
      let m : IsUnder rid (er.conn + 1) f × Comes (ahead z) rid x y s (signalled b u er (dr ++ f ∷ [])) rest = more_to_signalled z s rest sound.numbers sound.there.comes in (
        defer_row pick node rid (er.conn + 1) b (source_for s (signalled b u er dr)) pr dr f (ap (with_number (er.conn + 1)) old ∙ not_this_number er u (u == b)) main m.0,
        record {
          others = sound.others;
          numbers = numbers_signalled z s sound.numbers;
          hops = sound.hops;
          there = record { fits = sound.there.fits; place = sound.there.place; resend = sound.there.resend; comes = m.1; old = sound.there.old };
          back = record {
            fits = sound.back.fits;
            place = sound.back.place;
            resend = tt;
            comes = sound.back.comes;
            old = old_signalled z s so sound.back.old;
          };
        },
      )
  defers_signalled level ro rest old main sound = absurd (cc sound.there.comes.0)
  defers_signalled (behind z) ro rest old main sound = absurd (cc sound.there.comes.0)

  -- what comes to an end in a Give, one frame deferred
  pub more_to_given : (q : Option ℕ) (t : Seat P) (rest : List (BodyAt P)) → NumbersFit level t (given b u er q dr) →
      Comes level rid x y t (given b u er q dr) (f ∷ rest) → IsUnder rid er.conn f × Comes level rid x y t (given b u er q (dr ++ f ∷ [])) rest
  more_to_given q gone rest n c = absurd (cc n.1)
  more_to_given q (given a v g None ds) rest n c = absurd (cc c.0)
  more_to_given q (given a v g (Some k) ds) rest n c = absurd (cc c.0)
  more_to_given q t rest n c = (
    under_at rid er.conn dr f rest (whole_under rid er.conn y.taken er.base x.taken (length x.sent) x.taken t (untaken_of x y) (dr ++ f ∷ rest) c),
    record { carries = c.carries; split = append_assoc dr (f ∷ []) rest ∙ c.split; are = c.are },
  )

  -- the numbers
  numbers_given : (q : Option ℕ) (t : Seat P) → NumbersFit level t (given b u er q dr) → NumbersFit level t (given b u er q (dr ++ f ∷ []))
  numbers_given q gone n = n
  numbers_given q t n = n

  -- what comes to s
  back_given : (q : Option ℕ) (t : Seat P) (live : List (BodyAt P)) → Comes level sid y x (given b u er q dr) t live → Comes level sid y x (given b u er q (dr ++ f ∷ [])) t live
  back_given None gone live c = c
  back_given None t live c = c
  back_given (Some k) gone live c = c
  back_given (Some k) t live c = c

  -- the old stream of s
  old_given : (q : Option ℕ) (t : Seat P) (old : List (BodyAt P)) → AreOld level sid y (given b u er q dr) t old → AreOld level sid y (given b u er q (dr ++ f ∷ [])) t old
  old_given q gone old o = o
  old_given q t old o = o

  -- the resend
  resend_given : (q : Option ℕ) (taken : ℕ) → ResendFits taken (given b u er q dr) → ResendFits taken (given b u er q (dr ++ f ∷ []))
  resend_given None taken r = r
  resend_given (Some k) taken r = r

  -- at one whose Give is on the way
  pub defers_given : (pace : Pace) (q : Option ℕ) (ro rest : List (BodyAt P)) →
      node.old rid ≡ None → node.main rid ≡ Some (Expected b pr (mails_of (source_for s (given b u er q dr)) dr)) →
      IsSound IsOver pace x y (side_of sid ps s so sl) (side_of rid pr (given b u er q dr) ro (f ∷ rest)) →
      (comes pick node (source_for s (given b u er q dr)) f ≡
      Some (quietly (with_main rid (Some (Expected b pr (mails_of (source_for s (given b u er q dr)) (dr ++ f ∷ [])))) node)))
      × IsSound IsOver pace x y (side_of sid ps s so sl) (side_of rid pr (given b u er q (dr ++ f ∷ [])) ro rest)
  defers_given level q ro rest old main sound =
      let m : IsUnder rid er.conn f × Comes level rid x y s (given b u er q (dr ++ f ∷ [])) rest = more_to_given q s rest sound.numbers sound.there.comes in (
        defer_row pick node rid er.conn b (source_for s (given b u er q dr)) pr dr f (ap (with_number er.conn) old) main m.0,
        record {
          others = sound.others;
          numbers = numbers_given q s sound.numbers;
          hops = sound.hops;
          there = record { fits = sound.there.fits; place = sound.there.place; resend = sound.there.resend; comes = m.1; old = sound.there.old };
          back = record {
            fits = sound.back.fits;
            place = sound.back.place;
            resend = resend_given q x.taken sound.back.resend;
            comes = back_given q s sl sound.back.comes;
            old = old_given q s so sound.back.old;
          };
        },
      )
  defers_given (ahead z) q ro rest old main sound = absurd (behind_is_signalled z s (given b u er q dr) sound.numbers)
  defers_given (behind z) q ro rest old main sound = absurd (cc sound.there.comes.0)
