-- A party sends or takes a value, closes an end, or does a local step: the world stays kept.
use Rattle.std.proofs.Common.{◌≡◌, ℕ, ◌+◌, ◌<◌, List, [], ◌∷◌, length, ◌≤◌, refl, sym, ap, subst, ◌∙◌, arith}
use Rattle.std.specs.Prelude.{Bool, true, false, Some, None}
use Rattle.sj_lang.specs.declared.proto.Way.TheVariants.{Out, Into}
use Rattle.sj_base.specs.declared.EndId.{EndId}
use Rattle.sj_base.specs.declared.Msg.{Msg}
use Rattle.sj_base.specs.declared.Msg.TheVariants as msgs
use Rattle.sj_rules.specs.PlainChanges.{CountsHold, waits_of}
use Rattle.sj_rules.specs.Binding.{NamesNoEnd}
use Rattle.sj_rules.specs.Acts.{plain_sent, plain_taken}
use Rattle.sj_rules.specs.PlainSteps.{PlainLocal, PlainSend, PlainTake}
use Rattle.sj_rules.specs.Record.{Carry, HeldAt, Held, Mail, other_end}
use Rattle.sj_rules.specs.Node.{Play, NodeAt, local, sends, takes, with_main, held_behind_send, held_behind_take, is_free, work_of_take, quietly}
use Rattle.sj_rules.specs.World.{WorldAt, Act, happens, after_event}
use Rattle.sj_rules.specs.Seat.{Seat, held, Side, side_of}
use Rattle.sj_rules.specs.PlainSide.{PlainAt, untaken_of}
use Rattle.sj_rules.specs.Invariant.{IsSound}
use Rattle.sj_rules.specs.Linked.{Sessions, IsKept}
use Rattle.sj_world_lemmas.proofs.TableLemmas.{with_tables}
use Rattle.sj_world_lemmas.proofs.PostLemmas.{with_posts}
use Rattle.sj_world_lemmas.proofs.OutcomeLemmas.{Outcome, Goes, goes_on}
use Rattle.sj_world_lemmas.proofs.ActLaws.{ActLaws}
use Rattle.sj_world_lemmas.proofs.SessionLaws.{with_more}
use Rattle.sj_world_lemmas.proofs.EventLemmas.{other_not, apart_from, IsAlike}
use Rattle.sj_world_lemmas.proofs.KeptLemmas.{by_session}
use Rattle.sj_world_lemmas.proofs.LinkLemmas.{links_stay, links_grow_value}
use Rattle.sj_world_lemmas.proofs.UnlinkLemmas.{links_shrink_value}
use Rattle.sj_world_lemmas.proofs.SeenLemmas.{seen_sessions, seen_quiet, seen_program, known_sessions, Here, here_held}
use Rattle.sj_world_lemmas.proofs.WaitLemmas.{waits_but_other, waits_but_one, waits_more, waits_less, kept_by, bound_same}
use Rattle.sj_world_lemmas.proofs.ActLemmas.{sends_on, takes_off}

module _ {P Q : Type 0} (IsOver : P → Type 0) (binds : Q → EndId → Bool) (play : Play P Q) (pick : ℕ → ℕ → ℕ) (w : WorldAt P Q) (plain plain' : PlainAt P Q) (kept : IsKept IsOver binds w plain) (p : ℕ)
    (fresh : play.is_worn (plain.programs p) ≡ false) where
  -- where an end is
  abbrev seat_of : EndId → Seat P
  seat_of e = (kept.sessions.sides e).seat

  -- a seat is like itself
  same_alike : (seat : Seat P) → IsAlike seat seat
  same_alike seat = (refl, λ keeper. (λ i. i, λ i. i))

  -- the seats after an act on c are alike
  alike_after : (v : WorldAt P Q) (c : EndId) → c.side < 2 → (s r : Side P) → (g : Goes IsOver w v plain.sides plain'.sides kept.sessions c s r) → IsAlike (seat_of c) r.seat → IsAlike (seat_of (other_end c)) s.seat →
      (e : EndId) → e.side < 2 → IsAlike (seat_of e) (g.after.sides e).seat
  alike_after v c low s r g here there =
      by_session (λ e. IsAlike (seat_of e) (g.after.sides e).seat) c low
      (subst (λ z. IsAlike (seat_of c) z.seat) (sym g.here) here) (subst (λ z. IsAlike (seat_of (other_end c)) z.seat) (sym g.there) there)
      (λ e i. subst (λ z. IsAlike (seat_of e) z.seat) (sym (g.away e i)) (same_alike (seat_of e)))

  -- a value is sent
  pub send_keeps : (c : EndId) (msg : Msg) (next : P) (h : HeldAt P) → ActLaws IsOver (plain.sides (other_end c)) (plain.sides c) → CountsHold plain →
      play.wants (plain.programs p) ≡ sends c msg → (w.nodes p).main c ≡ Some (Held h) → PlainSend IsOver binds play plain plain' p c msg next →
      (v : WorldAt P Q) × (happens play pick w p Act ≡ Some v) × IsKept IsOver binds v plain'
  send_keeps c msg next h laws counts wants main facts =
      let m : NodeAt P Q = record (w.nodes p) { program = play.goes (w.nodes p).program None } in
      let n : NodeAt P Q = with_main c (Some (Held (held_behind_send h msg next))) m in
      let clock : ℕ = (w.nodes p).clock + 1 in
      let s : Side P = kept.sessions.sides (other_end c) in
      let r : Side P = kept.sessions.sides c in
      let here : Here IsOver w (plain.sides (other_end c)) (plain.sides c) s r c (held p h) = here_held IsOver w plain.sides kept.sessions c facts.below p h main in
      let posts : List (Mail P) = record { party = h.end.peer; body = Carry (other_end c) h.end.conn h.end.sent h.end.taken msg } ∷ [] in
      let v : WorldAt P Q = with_posts (with_tables w p clock n) p clock posts in
      let s1 : Side P = with_more here.pace s (Carry s.id h.end.conn h.end.sent h.end.taken msg ∷ []) in
      let r1 : Side P = side_of c next (held p (held_behind_send h msg next)) r.old r.live in
      let out : Outcome IsOver w v c here.pace (plain.sides (other_end c)) (plain_sent (plain.sides c) next msg) s1 r1 =
      sends_on IsOver w clock c facts.below (plain.sides (other_end c)) (plain.sides c) s r.place r.old r.live here.pace p h m (λ d. refl) (λ d. refl) here.shows here.shown here.sound (laws.send s c r.place facts.below) msg next facts.open_there in
      let out1 : Outcome IsOver w v c here.pace (plain'.sides (other_end c)) (plain'.sides c) s1 r1 =
      subst (λ a. Outcome IsOver w v c here.pace a (plain'.sides c) s1 r1) (sym (facts.sides (other_end c) (other_not c facts.below)))
      (subst (λ a. Outcome IsOver w v c here.pace (plain.sides (other_end c)) a s1 r1) (sym facts.side) out) in
      let goes : Goes IsOver w v plain.sides plain'.sides kept.sessions c s1 r1 =
      goes_on IsOver w v plain.sides plain'.sides kept.sessions c here.pace s1 r1 facts.below out1 (λ e i. facts.sides e (apart_from e c i)) in
      let alike : (e : EndId) → e.side < 2 → IsAlike (seat_of e) (goes.after.sides e).seat =
      alike_after v c facts.below s1 r1 goes (subst (λ z. IsAlike z (held p (held_behind_send h msg next))) (sym here.seat_is) (refl, λ keeper. (λ i. i, λ i. i))) (same_alike s.seat) in
      let program : (w.nodes p).program ≡ plain.programs p = kept.programs p in
      let place : play.next h.end.place Out msg ≡ Some next = ap (λ z. play.next z Out msg) (here.sound.there.fits.1 facts.accepted) ∙ facts.fits in
      let fewer : (plain.sides (other_end c)).taken ≤ length (plain.sides c).sent = (counts c facts.below).fewer in
      let side : (other_end c).side < 2 = omega arith in (
        v,
        rw (program, fresh, wants, main, place, here.sound.there.fits.0.name) refl,
        kept_by IsOver binds w v plain plain' kept p clock n (play.goes (plain.programs p) None) facts.proceeds (ap (λ z. play.goes z None) program) (λ k. refl) goes.after
            (links_grow_value plain plain' seat_of (λ e. (goes.after.sides e).seat) kept.linked (other_end c) side msg
            (waits_more plain plain' c facts.below facts.sides msg (ap (λ z. z.sent) facts.side) fewer)
            (waits_but_other plain plain' c facts.below facts.sides (ap (λ z. z.taken) facts.side)) facts.value (λ d i. (alike d i).1))
            (bound_same IsOver binds w v plain plain' kept p clock n (play.goes (plain.programs p) None) facts.proceeds (ap (λ z. play.goes z None) program) (λ k. refl) facts.binds_same (λ e. (goes.after.sides e).seat) (λ e i. (alike e i).0)),
      )

  -- a local step
  pub local_keeps : play.wants (plain.programs p) ≡ local → PlainLocal IsOver binds play plain plain' p → (v : WorldAt P Q) × (happens play pick w p Act ≡ Some v) × IsKept IsOver binds v plain'
  local_keeps wants facts =
      let n : NodeAt P Q = record (w.nodes p) { program = play.goes (w.nodes p).program None } in
      let clock : ℕ = (w.nodes p).clock + 1 in
      let v : WorldAt P Q = with_posts (with_tables w p clock n) p clock [] in
      let program : (w.nodes p).program ≡ plain.programs p = kept.programs p in
      let after : Sessions IsOver v plain'.sides = known_sessions IsOver v plain.sides plain'.sides facts.sides (seen_sessions v w (seen_program w p clock (play.goes (w.nodes p).program None)) IsOver plain.sides kept.sessions) in
      let waits : (e : EndId) → e.side < 2 → waits_of plain' e ≡ waits_of plain e = λ e i. ap (λ z. untaken_of z (plain'.sides e)) (facts.sides (other_end e)) ∙ ap (λ z. untaken_of (plain.sides (other_end e)) z) (facts.sides e) in (
        v,
        rw (program, fresh, wants) refl,
        kept_by IsOver binds w v plain plain' kept p clock n (play.goes (plain.programs p) None) facts.proceeds (ap (λ z. play.goes z None) program) (λ k. refl) after
            (links_stay plain plain' seat_of seat_of kept.linked waits (λ d i keeper. (λ z. z, λ z. z)))
            (bound_same IsOver binds w v plain plain' kept p clock n (play.goes (plain.programs p) None) facts.proceeds (ap (λ z. play.goes z None) program) (λ k. refl) facts.binds_same seat_of (λ e i. refl)),
      )

  -- a value names no end
  value_free : {A B : Type 0} → (n : NodeAt A B) (m : Msg) → NamesNoEnd m → is_free n m ≡ true
  value_free n (msgs.Sess sess side keeper) i = absurd i
  value_free n (msgs.Int k) i = refl
  value_free n (msgs.Bool k) i = refl
  value_free n (msgs.Text k) i = refl
  value_free n (msgs.Label k) i = refl
  value_free n (msgs.More k) i = refl

  -- a value brings nothing
  value_brought : {A B : Type 0} → (place : A) (m : Msg) (n : NodeAt A B) → NamesNoEnd m → work_of_take place m n ≡ quietly n
  value_brought place (msgs.Sess sess side keeper) n i = absurd i
  value_brought place (msgs.Int k) n i = refl
  value_brought place (msgs.Bool k) n i = refl
  value_brought place (msgs.Text k) n i = refl
  value_brought place (msgs.Label k) n i = refl
  value_brought place (msgs.More k) n i = refl

  -- a value is taken
  pub take_keeps : (c : EndId) (place : P) (msg : Msg) (rest : List Msg) (next : P) (h : HeldAt P) → ActLaws IsOver (plain.sides (other_end c)) (plain.sides c) →
      play.wants (plain.programs p) ≡ takes c place → (w.nodes p).main c ≡ Some (Held h) → h.untaken ≡ msg ∷ rest → PlainTake IsOver binds play plain plain' p c msg next →
      (v : WorldAt P Q) × (happens play pick w p Act ≡ Some v) × IsKept IsOver binds v plain'
  take_keeps c place msg rest next h laws wants main waits facts =
      let m : NodeAt P Q = record (w.nodes p) { program = play.goes (w.nodes p).program (Some msg) } in
      let g : HeldAt P = held_behind_take h rest next in
      let n : NodeAt P Q = with_main c (Some (Held g)) m in
      let clock : ℕ = (w.nodes p).clock + 1 in
      let s : Side P = kept.sessions.sides (other_end c) in
      let r : Side P = kept.sessions.sides c in
      let here : Here IsOver w (plain.sides (other_end c)) (plain.sides c) s r c (held p h) = here_held IsOver w plain.sides kept.sessions c facts.below p h main in
      let u : WorldAt P Q = with_tables w p clock n in
      let v : WorldAt P Q = with_posts u p clock [] in
      let r1 : Side P = side_of c next (held p g) r.old r.live in
      let law : (later : List Msg) × (untaken_of (plain.sides (other_end c)) (plain.sides c) ≡ msg ∷ later) × IsSound IsOver here.pace (plain.sides (other_end c)) (plain_taken (plain.sides c) next) s r1 =
      laws.take s c r.place facts.below here.pace p h r.old r.live msg rest next waits here.sound in
      let out : Outcome IsOver w u c here.pace (plain.sides (other_end c)) (plain_taken (plain.sides c) next) s r1 =
      takes_off IsOver w clock c facts.below (plain.sides (other_end c)) (plain.sides c) s r.place r.old r.live here.pace p h m (λ d. refl) (λ d. refl) here.shows here.shown here.sound msg rest next waits law.2 in
      let out1 : Outcome IsOver w u c here.pace (plain'.sides (other_end c)) (plain'.sides c) s r1 =
      subst (λ a. Outcome IsOver w u c here.pace a (plain'.sides c) s r1) (sym (facts.sides (other_end c) (other_not c facts.below)))
      (subst (λ a. Outcome IsOver w u c here.pace (plain.sides (other_end c)) a s r1) (sym facts.side) out) in
      let goes : Goes IsOver w u plain.sides plain'.sides kept.sessions c s r1 =
      goes_on IsOver w u plain.sides plain'.sides kept.sessions c here.pace s r1 facts.below out1 (λ e i. facts.sides e (apart_from e c i)) in
      let alike : (e : EndId) → e.side < 2 → IsAlike (seat_of e) (goes.after.sides e).seat =
      alike_after u c facts.below s r1 goes (subst (λ z. IsAlike z (held p g)) (sym here.seat_is) (refl, λ keeper. (λ i. i, λ i. i))) (same_alike s.seat) in
      let program : (w.nodes p).program ≡ plain.programs p = kept.programs p in
      let fits : play.next h.end.place Into msg ≡ Some next = ap (λ z. play.next z Into msg) (here.sound.there.fits.1 facts.accepted) ∙ facts.fits in
      let fresh1 : play.is_worn (w.nodes p).program ≡ false = ap play.is_worn program ∙ fresh in
      let wants1 : play.wants (w.nodes p).program ≡ takes c place = ap play.wants program ∙ wants in
      let wanted1 : play.fits (w.nodes p).program msg ≡ true = ap (λ z. play.fits z msg) program ∙ facts.wanted in
      let after : Sessions IsOver v plain'.sides = seen_sessions v u (seen_quiet u p clock) IsOver plain'.sides goes.after in (
        v,
        rw (fresh1, wants1, main, waits, wanted1, value_free (w.nodes p) msg facts.value, fits) (ap (λ z. Some (after_event w p clock w.lanes z)) (value_brought place msg n facts.value)),
        kept_by IsOver binds w v plain plain' kept p clock n (play.goes (plain.programs p) (Some msg)) facts.proceeds (ap (λ z. play.goes z (Some msg)) program) (λ k. refl) after
            (links_shrink_value plain plain' seat_of (λ e. (goes.after.sides e).seat) kept.linked c facts.below msg
            (waits_less plain plain' c facts.below facts.sides msg law.0 (ap (λ z. z.taken) facts.side) law.1)
            (waits_but_one plain plain' c facts.below facts.sides (ap (λ z. z.sent) facts.side)) facts.value (λ d i. (alike d i).1))
            (bound_same IsOver binds w v plain plain' kept p clock n (play.goes (plain.programs p) (Some msg)) facts.proceeds (ap (λ z. play.goes z (Some msg)) program) (λ k. refl) facts.binds_same (λ e. (goes.after.sides e).seat) (λ e i. (alike e i).0)),
      )
