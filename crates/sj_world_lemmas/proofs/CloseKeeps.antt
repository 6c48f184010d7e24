-- A party closes an end: the world stays kept.
use Rattle.std.proofs.Common.{◌≡◌, ℕ, ◌+◌, ◌<◌, List, [], ◌∷◌, refl, sym, ap, subst, ◌∙◌, inl, inr}
use Rattle.std.specs.Prelude.{Bool, true, false, ◌⊎◌, Option, Some, None}
use Rattle.sj_base.specs.declared.EndId.{EndId}
use Rattle.sj_rules.specs.PlainSteps.{PlainClose}
use Rattle.sj_rules.specs.PlainChanges.{waits_of}
use Rattle.sj_rules.specs.Record.{Fin, HeldAt, Held, Closed, Mail, MainAt, other_end, is_same_end}
use Rattle.sj_rules.specs.Node.{Play, NodeAt, closes, with_main}
use Rattle.sj_rules.specs.World.{WorldAt, Act, happens}
use Rattle.sj_rules.specs.Seat.{Seat, held, closed, gone, Side, side_of}
use Rattle.sj_rules.specs.PlainSide.{PlainSide, PlainAt, untaken_of}
use Rattle.sj_rules.specs.Numbers.{Pace, level}
use Rattle.sj_rules.specs.Invariant.{IsSound}
use Rattle.sj_rules.specs.Linked.{IsKept, Sessions, user_of}
use Rattle.sj_world_lemmas.proofs.TableLemmas.{with_tables}
use Rattle.sj_world_lemmas.proofs.PostLemmas.{with_posts}
use Rattle.sj_world_lemmas.proofs.OutcomeLemmas.{Outcome, Goes, goes_on}
use Rattle.sj_world_lemmas.proofs.ActLaws.{ActLaws}
use Rattle.sj_world_lemmas.proofs.SessionLaws.{with_more}
use Rattle.sj_world_lemmas.proofs.EventLemmas.{same_end}
use Rattle.sj_world_lemmas.proofs.KeptLemmas.{by_session}
use Rattle.sj_world_lemmas.proofs.LinkLemmas.{links_stay, KeepAlike, same_is}
use Rattle.sj_world_lemmas.proofs.SeenLemmas.{Here, here_held}
use Rattle.sj_world_lemmas.proofs.WaitLemmas.{kept_by, bound_but, bound_none}
use Rattle.sj_world_lemmas.proofs.ActLemmas.{closes as closes_at, closes_gone}

-- the seats after an event on c, where the other end keeps its seat
pub seats_after : {P Q : Type 0} → (IsOver : P → Type 0) (w v : WorldAt P Q) (knows knows' : EndId → PlainSide P) (before : Sessions IsOver w knows) (c : EndId) (s r : Side P) → c.side < 2 →
    (g : Goes IsOver w v knows knows' before c s r) → s.seat ≡ (before.sides (other_end c)).seat → (e : EndId) → e.side < 2 → is_same_end e c ≡ false → (g.after.sides e).seat ≡ (before.sides e).seat
seats_after IsOver w v knows knows' before c s r low g same =
    by_session (λ e. is_same_end e c ≡ false → (g.after.sides e).seat ≡ (before.sides e).seat) c low
    (λ i. absurd (cc (i, same_end c)))
    (λ i. ap (λ z. z.seat) g.there ∙ same)
    (λ e away i. ap (λ z. z.seat) (g.away e away))

module _ {P Q : Type 0} (IsOver : P → Type 0) (binds : Q → EndId → Bool) (play : Play P Q) (pick : ℕ → ℕ → ℕ) (w : WorldAt P Q) (plain plain' : PlainAt P Q) (kept : IsKept IsOver binds w plain) (p : ℕ)
    (fresh : play.is_worn (plain.programs p) ≡ false) (c : EndId) (h : HeldAt P) (wants : play.wants (plain.programs p) ≡ closes c) (main : (w.nodes p).main c ≡ Some (Held h))
    (facts : PlainClose IsOver binds play plain plain' p c) where
  -- where an end is
  abbrev seat_of : EndId → Seat P
  seat_of e = (kept.sessions.sides e).seat

  -- the tables after the event
  abbrev node : Option (MainAt P) → NodeAt P Q
  node e = with_main c e (record (w.nodes p) { program = play.goes (w.nodes p).program None })

  -- the clock after the event
  abbrev now : ℕ
  now = (w.nodes p).clock + 1

  -- the Fin
  abbrev fin_posts : List (Mail P)
  fin_posts = record { party = h.end.peer; body = Fin (other_end c) h.end.conn h.end.sent } ∷ []

  -- the world after the close
  abbrev after_close : Option (MainAt P) → WorldAt P Q
  after_close e = with_posts (with_tables w p now (node e)) p now fin_posts

  -- the end's seat from now on has no user
  closed_keeps : (e : Option (MainAt P)) (pace : Pace) (s r : Side P) → seat_of c ≡ held p h → s.seat ≡ seat_of (other_end c) → user_of r.seat ≡ None → KeepAlike (held p h) r.seat →
      Outcome IsOver w (after_close e) c pace (plain.sides (other_end c)) (plain.sides c) s r → IsKept IsOver binds (after_close e) plain'
  closed_keeps e pace s r seat_is same none keeps out =
      let v : WorldAt P Q = after_close e in
      let out1 : Outcome IsOver w v c pace (plain'.sides (other_end c)) (plain'.sides c) s r =
      subst (λ a. Outcome IsOver w v c pace a (plain'.sides c) s r) (sym (facts.sides (other_end c))) (subst (λ a. Outcome IsOver w v c pace (plain.sides (other_end c)) a s r) (sym (facts.sides c)) out) in
      let goes : Goes IsOver w v plain.sides plain'.sides kept.sessions c s r = goes_on IsOver w v plain.sides plain'.sides kept.sessions c pace s r facts.below out1 (λ d i. facts.sides d) in
      let seats : (d : EndId) → d.side < 2 → is_same_end d c ≡ false → (goes.after.sides d).seat ≡ seat_of d = seats_after IsOver w v plain.sides plain'.sides kept.sessions c s r facts.below goes same in
      let program : (node e).program ≡ play.goes (plain.programs p) None = ap (λ z. play.goes z None) (kept.programs p) in
      let waits : (d : EndId) → d.side < 2 → waits_of plain' d ≡ waits_of plain d = λ d i. ap (λ z. untaken_of z (plain'.sides d)) (facts.sides (other_end d)) ∙ ap (λ z. untaken_of (plain.sides (other_end d)) z) (facts.sides d) in
      let keep : (d : EndId) → d.side < 2 → KeepAlike (seat_of d) (goes.after.sides d).seat =
      λ d i. keep_at d (goes.after.sides d).seat (is_same_end d c) refl (λ j. subst (λ z. KeepAlike (seat_of z) (goes.after.sides z).seat) (sym (same_is d c j))
      (subst (λ z. KeepAlike z (goes.after.sides c).seat) (sym seat_is) (subst (λ z. KeepAlike (held p h) z.seat) (sym goes.here) keeps))) (seats d i) in
      let user : user_of (seat_of c) ≡ Some p = ap user_of seat_is in
      let none_now : user_of (goes.after.sides c).seat ≡ None = ap (λ z. user_of z.seat) goes.here ∙ none in
      kept_by IsOver binds w v plain plain' kept p now (node e) (play.goes (plain.programs p) None) facts.proceeds program (λ k. refl) goes.after
      (links_stay plain plain' seat_of (λ d. (goes.after.sides d).seat) kept.linked waits keep)
      (bound_but IsOver binds w v plain plain' kept p now (node e) (play.goes (plain.programs p) None) facts.proceeds program (λ k. refl) c (λ d. (goes.after.sides d).seat) facts.binds_else (λ d i j. ap user_of (seats d i j))
      (bound_none IsOver binds w v plain plain' kept p now (node e) (play.goes (plain.programs p) None) facts.proceeds program (λ k. refl) c facts.below user facts.binds_it (goes.after.sides c).seat none_now))
    where
      keep_at : (d : EndId) (seat : Seat P) (k : Bool) → is_same_end d c ≡ k → (is_same_end d c ≡ true → KeepAlike (seat_of d) seat) → (is_same_end d c ≡ false → seat ≡ seat_of d) → KeepAlike (seat_of d) seat
      keep_at d seat true i t f = t i
      keep_at d seat false i t f = subst (λ z. KeepAlike (seat_of d) z) (sym (f i)) (λ keeper. (λ z. z, λ z. z))

  -- the end is closed
  pub close_keeps : ActLaws IsOver (plain.sides (other_end c)) (plain.sides c) → (v : WorldAt P Q) × (happens play pick w p Act ≡ Some v) × IsKept IsOver binds v plain'
  close_keeps laws = by (laws.close s c r.place facts.below here.pace p h r.old r.live facts.accepted facts.is_over facts.all_taken here.sound)
    where
      s : Side P
      s = kept.sessions.sides (other_end c)

      r : Side P
      r = kept.sessions.sides c

      here : Here IsOver w (plain.sides (other_end c)) (plain.sides c) s r c (held p h)
      here = here_held IsOver w plain.sides kept.sessions c facts.below p h main

      fresh1 : play.is_worn (w.nodes p).program ≡ false
      fresh1 = ap play.is_worn (kept.programs p) ∙ fresh

      wants1 : play.wants (w.nodes p).program ≡ closes c
      wants1 = ap play.wants (kept.programs p) ∙ wants

      over : play.is_over h.end.place ≡ true
      over = ap play.is_over (here.sound.there.fits.1 facts.accepted) ∙ facts.over

      by : (h.fin ≡ false) × IsSound IsOver here.pace (plain.sides (other_end c)) (plain.sides c) (with_more here.pace s (Fin s.id h.end.conn h.end.sent ∷ [])) (side_of c r.place (closed p h.end) r.old r.live)
          ⊎ (h.fin ≡ true) × (here.pace ≡ level) × (r.live ≡ []) × IsSound IsOver here.pace (plain.sides (other_end c)) (plain.sides c) (with_more here.pace s (Fin s.id h.end.conn h.end.sent ∷ [])) (side_of c r.place gone r.old []) →
          (v : WorldAt P Q) × (happens play pick w p Act ≡ Some v) × IsKept IsOver binds v plain'
      by (inl l) = (
        after_close (Some (Closed h.end)),
        rw (fresh1, wants1, main, over, l.0, here.sound.there.fits.0.name) refl,
        closed_keeps (Some (Closed h.end)) here.pace (with_more here.pace s (Fin s.id h.end.conn h.end.sent ∷ [])) (side_of c r.place (closed p h.end) r.old r.live) here.seat_is refl refl (λ keeper. (λ z. z, λ z. z))
            (closes_at IsOver w now c facts.below (plain.sides (other_end c)) (plain.sides c) s r.place r.old r.live here.pace p h (record (w.nodes p) { program = play.goes (w.nodes p).program None }) (λ d. refl) (λ d. refl) here.shows here.shown here.sound l.1),
      )
      by (inr l) = (
        after_close None,
        rw (fresh1, wants1, main, over, l.0, here.sound.there.fits.0.name) refl,
        closed_keeps None here.pace (with_more here.pace s (Fin s.id h.end.conn h.end.sent ∷ [])) (side_of c r.place gone r.old []) here.seat_is refl refl (λ keeper. (λ z. z, λ z. z))
            (closes_gone IsOver w now c facts.below (plain.sides (other_end c)) (plain.sides c) s r.place r.old r.live here.pace p h (record (w.nodes p) { program = play.goes (w.nodes p).program None }) (λ d. refl) (λ d. refl) here.shows here.shown here.sound l.1 l.2 l.3),
      )
