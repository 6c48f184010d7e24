-- A party sends an end on: the world stays kept.
use Rattle.std.proofs.Common.{◌≡◌, ℕ, suc, ◌+◌, ◌<◌, ◌≤◌, List, [], ◌∷◌, ◌++◌, length, drop, refl, sym, ap, subst, ◌∙◌, arith}
use Rattle.std.specs.Prelude.{Bool, true, false, if◌then◌else◌, nat_lt, Some, None}
use Rattle.std.proofs.lemmas.Bool.{eq-eqb, le-leb}
use Rattle.sj_base.specs.declared.EndId.{EndId}
use Rattle.sj_lang.specs.declared.proto.Way.TheVariants.{Out}
use Rattle.sj_rules.specs.PlainChanges.{CountsHold, plain_with_hop, waits_of}
use Rattle.sj_rules.specs.Acts.{plain_parked, plain_sent}
use Rattle.sj_rules.specs.PlainSteps.{PlainDelegate}
use Rattle.sj_rules.specs.Record.{EndAt, Carry, HeldAt, Held, Parked, Mail, other_end, is_same_end}
use Rattle.sj_rules.specs.Node.{Play, NodeAt, delegates, with_main, with_old, held_behind_send}
use Rattle.sj_rules.specs.World.{WorldAt, Act, happens}
use Rattle.sj_rules.specs.Seat.{Seat, held, parked, Side, side_of}
use Rattle.sj_rules.specs.PlainSide.{PlainSide, PlainAt}
use Rattle.sj_rules.specs.Linked.{Sessions, IsKept, IsParkedAt, user_of}
use Rattle.sj_world_lemmas.proofs.TableLemmas.{with_tables}
use Rattle.sj_world_lemmas.proofs.PostLemmas.{with_posts}
use Rattle.sj_world_lemmas.proofs.OutcomeLemmas.{Outcome, Goes, goes_on}
use Rattle.sj_world_lemmas.proofs.ActLaws.{ActLaws}
use Rattle.sj_world_lemmas.proofs.SessionLaws.{with_more}
use Rattle.sj_world_lemmas.proofs.EventLemmas.{same_end, other_not, apart_from}
use Rattle.sj_world_lemmas.proofs.LinkLemmas.{links_grow_end, KeepAlike, same_is}
use Rattle.sj_world_lemmas.proofs.SeenLemmas.{Here, here_held, seen_sessions, seen_twice}
use Rattle.sj_world_lemmas.proofs.WaitLemmas.{waits_but_other, waits_more, kept_by, bound_but, bound_none}
use Rattle.sj_world_lemmas.proofs.ActLemmas.{sends_on, parks}
use Rattle.sj_world_lemmas.proofs.CloseKeeps.{seats_after}
use Rattle.sj_semantics.specs.World.{session_message}

module _ {P Q : Type 0} (plain : PlainAt P Q) (d : EndId) where
  -- all other ends are as before
  hopped_else : (e : EndId) → is_same_end e d ≡ false → (plain_with_hop plain d).sides e ≡ plain.sides e
  hopped_else e i = rw i refl

  -- the end itself
  hopped_here : (plain_with_hop plain d).sides d ≡ plain_parked (plain.sides d)
  hopped_here = rw (same_end d) refl

  -- all but the hops is as before
  hopped_by : {A : Type 0} → (read : PlainSide P → A) → read (plain_parked (plain.sides d)) ≡ read (plain.sides d) → (e : EndId) → read ((plain_with_hop plain d).sides e) ≡ read (plain.sides e)
  hopped_by {A} read same e = by (is_same_end e d) refl
    where
      by : (k : Bool) → is_same_end e d ≡ k → read (if k then plain_parked (plain.sides d) else plain.sides e) ≡ read (plain.sides e)
      by true i = same ∙ ap (λ z. read (plain.sides z)) (sym (same_is e d i))
      by false i = refl

  -- the same waits for each end
  hopped_waits : (e : EndId) → waits_of (plain_with_hop plain d) e ≡ waits_of plain e
  hopped_waits e = ap (λ l. drop ((plain_with_hop plain d).sides e).taken l) (hopped_by (λ z. z.sent) refl (other_end e)) ∙ ap (λ (n : ℕ). drop n (plain.sides (other_end e)).sent) (hopped_by (λ z. z.taken) refl e)

module _ {P Q : Type 0} (IsOver : P → Type 0) (binds : Q → EndId → Bool) (play : Play P Q) (pick : ℕ → ℕ → ℕ) (w : WorldAt P Q) (plain plain' : PlainAt P Q) (kept : IsKept IsOver binds w plain) (p : ℕ)
    (fresh : play.is_worn (plain.programs p) ≡ false) (c d : EndId) (next : P) (h g : HeldAt P) (wants : play.wants (plain.programs p) ≡ delegates c d)
    (main : (w.nodes p).main c ≡ Some (Held h)) (main_it : (w.nodes p).main d ≡ Some (Held g))
    (counts : CountsHold plain) (facts : PlainDelegate IsOver binds play plain plain' p c d next) where
  -- where an end is
  abbrev seat_of : EndId → Seat P
  seat_of e = (kept.sessions.sides e).seat

  -- the end as it is parked
  abbrev left : EndAt P
  left = record g.end { hops = g.end.hops + 1 }

  -- the tables after the first step
  abbrev node1 : NodeAt P Q
  node1 = with_main d None (with_old d (Some (Parked left)) (w.nodes p))

  -- the program goes on
  abbrev gone_on : NodeAt P Q
  gone_on = record node1 { program = play.goes (w.nodes p).program None }

  -- the tables after both steps
  abbrev node2 : NodeAt P Q
  node2 = with_main c (Some (Held (held_behind_send h (session_message d p) next))) gone_on

  -- the clock after the event
  abbrev now : ℕ
  now = (w.nodes p).clock + 1

  -- the world between the steps
  abbrev mid : WorldAt P Q
  mid = with_tables w p now node1

  -- the Carry of the session message
  abbrev carry_posts : List (Mail P)
  carry_posts = record { party = h.end.peer; body = Carry (other_end c) h.end.conn h.end.sent h.end.taken (session_message d p) } ∷ []

  -- the world after both steps
  abbrev twice : WorldAt P Q
  twice = with_posts (with_tables mid p now node2) p now carry_posts

  -- the world after the act
  abbrev after_it : WorldAt P Q
  after_it = with_posts (with_tables w p now node2) p now carry_posts

  -- the session of the end that goes or comes
  here_it : Here IsOver w (plain.sides (other_end d)) (plain.sides d) (kept.sessions.sides (other_end d)) (kept.sessions.sides d) d (held p g)
  here_it = here_held IsOver w plain.sides kept.sessions d facts.below_it p g main_it

  -- first the end is parked
  abbrev parked_side : Side P
  parked_side = side_of d (kept.sessions.sides d).place (parked p left) (kept.sessions.sides d).old (kept.sessions.sides d).live

  -- the end is parked
  parks_it : ActLaws IsOver (plain.sides (other_end d)) (plain.sides d) → Goes IsOver w mid plain.sides (plain_with_hop plain d).sides kept.sessions d (kept.sessions.sides (other_end d)) parked_side
  parks_it laws =
      let s : Side P = kept.sessions.sides (other_end d) in
      let r : Side P = kept.sessions.sides d in
      let out : Outcome IsOver w mid d here_it.pace (plain.sides (other_end d)) (plain_parked (plain.sides d)) s parked_side =
      parks IsOver w now d facts.below_it (plain.sides (other_end d)) (plain.sides d) s r.place r.old r.live here_it.pace p g (w.nodes p) (λ e. refl) (λ e. refl) here_it.shows here_it.shown here_it.sound
      (laws.park s d r.place facts.below_it here_it.pace p g r.old r.live facts.accepted_it here_it.sound) in
      goes_on IsOver w mid plain.sides (plain_with_hop plain d).sides kept.sessions d here_it.pace s parked_side facts.below_it
      (subst (λ a. Outcome IsOver w mid d here_it.pace a ((plain_with_hop plain d).sides d) s parked_side) (sym (hopped_else plain d (other_end d) (other_not d facts.below_it)))
      (subst (λ a. Outcome IsOver w mid d here_it.pace (plain.sides (other_end d)) a s parked_side) (sym (hopped_here plain d)) out))
      (λ e i. hopped_else plain d e (apart_from e d i))

  -- then it is sent
  plain_else : (e : EndId) → is_same_end e c ≡ false → plain'.sides e ≡ (plain_with_hop plain d).sides e
  plain_else e i = by (is_same_end e d) refl
    where
      by : (k : Bool) → is_same_end e d ≡ k → plain'.sides e ≡ (if k then plain_parked (plain.sides d) else plain.sides e)
      by true j = ap plain'.sides (same_is e d j) ∙ facts.side_it
      by false j = facts.sides e i j

  -- what the plain world knows of the carrier
  plain_at : plain'.sides c ≡ plain_sent ((plain_with_hop plain d).sides c) next (session_message d p)
  plain_at = facts.side ∙ ap (λ z. plain_sent z next (session_message d p)) (sym (hopped_else plain d c facts.apart))

  -- the carrier is still Held between the steps
  main_mid : (mid.nodes p).main c ≡ Some (Held h)
  main_mid = rw (eq-eqb p p refl, facts.apart) main

  module _ (t : Sessions IsOver mid (plain_with_hop plain d).sides) (laws : ActLaws IsOver ((plain_with_hop plain d).sides (other_end c)) ((plain_with_hop plain d).sides c)) where
    here_on : Here IsOver mid ((plain_with_hop plain d).sides (other_end c)) ((plain_with_hop plain d).sides c) (t.sides (other_end c)) (t.sides c) c (held p h)
    here_on = here_held IsOver mid (plain_with_hop plain d).sides t c facts.below p h main_mid

    abbrev more_side : Side P
    more_side = with_more here_on.pace (t.sides (other_end c)) (Carry (t.sides (other_end c)).id h.end.conn h.end.sent h.end.taken (session_message d p) ∷ [])

    abbrev sent_end : Side P
    sent_end = side_of c next (held p (held_behind_send h (session_message d p) next)) (t.sides c).old (t.sides c).live

    sends_it : Goes IsOver mid twice (plain_with_hop plain d).sides plain'.sides t c more_side sent_end
    sends_it =
        let r : Side P = t.sides c in
        let open_there : IsOver ((plain_with_hop plain d).sides (other_end c)).place → ⊥ = λ o. facts.open_there (subst IsOver (hopped_by plain d (λ z. z.place) refl (other_end c)) o) in
        let mains : (e : EndId) → gone_on.main e ≡ (mid.nodes p).main e = λ e. rw (eq-eqb p p refl) refl in
        let olds : (e : EndId) → gone_on.old e ≡ (mid.nodes p).old e = λ e. rw (eq-eqb p p refl) refl in
        let out : Outcome IsOver mid twice c here_on.pace ((plain_with_hop plain d).sides (other_end c)) (plain_sent ((plain_with_hop plain d).sides c) next (session_message d p)) more_side sent_end =
        sends_on IsOver mid now c facts.below ((plain_with_hop plain d).sides (other_end c)) ((plain_with_hop plain d).sides c) (t.sides (other_end c)) r.place r.old r.live here_on.pace p h gone_on mains olds here_on.shows here_on.shown here_on.sound
        (laws.send (t.sides (other_end c)) c r.place facts.below) (session_message d p) next open_there in
        goes_on IsOver mid twice (plain_with_hop plain d).sides plain'.sides t c here_on.pace more_side sent_end facts.below
        (subst (λ a. Outcome IsOver mid twice c here_on.pace a (plain'.sides c) more_side sent_end) (sym (plain_else (other_end c) (other_not c facts.below)))
        (subst (λ a. Outcome IsOver mid twice c here_on.pace ((plain_with_hop plain d).sides (other_end c)) a more_side sent_end) (sym plain_at) out))
        (λ e i. plain_else e (apart_from e c i))

  -- it wasn't delegated too often
  few_hops : nat_lt g.end.hops 100 ≡ true
  few_hops = let few : g.end.hops < 100 = rw here_it.sound.there.fits.0.hops facts.few in le-leb (suc g.end.hops) 100 few

  -- it is a row of the node
  row_is : play.next h.end.place Out (session_message d p) ≡ Some next → happens play pick w p Act ≡ Some after_it
  row_is fits =
      let fresh1 : play.is_worn (w.nodes p).program ≡ false = ap play.is_worn (kept.programs p) ∙ fresh in
      let wants1 : play.wants (w.nodes p).program ≡ delegates c d = ap play.wants (kept.programs p) ∙ wants in
      let name : h.end.id ≡ c = (here_held IsOver w plain.sides kept.sessions c facts.below p h main).sound.there.fits.0.name in
      rw (fresh1, wants1, main_it, few_hops, facts.apart, main, fits, name) refl

  -- the end is parked, and its message waits
  pub delegate_keeps : ActLaws IsOver (plain.sides (other_end d)) (plain.sides d) → ActLaws IsOver ((plain_with_hop plain d).sides (other_end c)) ((plain_with_hop plain d).sides c) →
      (v : WorldAt P Q) × (happens play pick w p Act ≡ Some v) × IsKept IsOver binds v plain'
  delegate_keeps laws laws_on =
      let goes1 : Goes IsOver w mid plain.sides (plain_with_hop plain d).sides kept.sessions d (kept.sessions.sides (other_end d)) parked_side = parks_it laws in
      let t : Sessions IsOver mid (plain_with_hop plain d).sides = goes1.after in
      let goes2 : Goes IsOver mid twice (plain_with_hop plain d).sides plain'.sides t c (more_side t laws_on) (sent_end t laws_on) = sends_it t laws_on in
      let after : Sessions IsOver after_it plain'.sides = seen_sessions after_it twice (seen_twice w p now now node1 node2 carry_posts) IsOver plain'.sides goes2.after in
      let seat_after : EndId → Seat P = λ e. (goes2.after.sides e).seat in
      -- the carrier is held as before, and all other ends stay but d
      let at_c : seat_after c ≡ held p (held_behind_send h (session_message d p) next) = ap (λ z. z.seat) goes2.here in
      let was_c : seat_of c ≡ held p h = (here_held IsOver w plain.sides kept.sessions c facts.below p h main).seat_is in
      let mid_else : (e : EndId) → e.side < 2 → is_same_end e d ≡ false → (t.sides e).seat ≡ seat_of e = seats_after IsOver w mid plain.sides (plain_with_hop plain d).sides kept.sessions d (kept.sessions.sides (other_end d)) parked_side facts.below_it goes1 refl in
      let on_else : (e : EndId) → e.side < 2 → is_same_end e c ≡ false → seat_after e ≡ (t.sides e).seat = seats_after IsOver mid twice (plain_with_hop plain d).sides plain'.sides t c (more_side t laws_on) (sent_end t laws_on) facts.below goes2 refl in
      let at_d : seat_after d ≡ parked p left = on_else d facts.below_it (apart_sym c d facts.apart) ∙ ap (λ z. z.seat) goes1.here in
      let user : (e : EndId) → e.side < 2 → is_same_end e d ≡ false → user_of (seat_after e) ≡ user_of (seat_of e) =
      λ e i j. by_c (λ e. user_of (seat_after e) ≡ user_of (seat_of e)) e (is_same_end e c) refl (ap user_of at_c ∙ sym (ap user_of was_c)) (λ k. ap user_of (on_else e i k ∙ mid_else e i j)) in
      let keep : (e : EndId) → e.side < 2 → is_same_end e d ≡ false → KeepAlike (seat_of e) (seat_after e) =
      λ e i j. by_c (λ e. KeepAlike (seat_of e) (seat_after e)) e (is_same_end e c) refl
      (subst (λ z. KeepAlike z (seat_after c)) (sym was_c) (subst (λ z. KeepAlike (held p h) z) (sym at_c) (λ keeper. (λ z. z, λ z. z))))
      (λ k. subst (λ z. KeepAlike (seat_of e) z) (sym (on_else e i k ∙ mid_else e i j)) (λ keeper. (λ z. z, λ z. z))) in
      let side : (other_end c).side < 2 = omega arith in
      let fewer : ((plain_with_hop plain d).sides (other_end c)).taken ≤ length ((plain_with_hop plain d).sides c).sent =
      rw (hopped_by plain d (λ z. z.taken) refl (other_end c), hopped_by plain d (λ z. z.sent) refl c) (counts c facts.below).fewer in
      let grows : waits_of plain' (other_end c) ≡ waits_of plain (other_end c) ++ session_message d p ∷ [] =
      waits_more (plain_with_hop plain d) plain' c facts.below plain_else (session_message d p) (ap (λ z. z.sent) plain_at) fewer ∙ ap (λ l. l ++ session_message d p ∷ []) (hopped_waits plain d (other_end c)) in
      let same : (e : EndId) → e.side < 2 → is_same_end e (other_end c) ≡ false → waits_of plain' e ≡ waits_of plain e =
      λ e i j. waits_but_other (plain_with_hop plain d) plain' c facts.below plain_else (ap (λ z. z.taken) plain_at) e i j ∙ hopped_waits plain d e in
      let program : node2.program ≡ play.goes (plain.programs p) None = ap (λ z. play.goes z None) (kept.programs p) in (
        after_it,
        row_is (ap (λ z. play.next z Out (session_message d p)) ((here_held IsOver w plain.sides kept.sessions c facts.below p h main).sound.there.fits.1 facts.accepted) ∙ facts.fits),
        kept_by IsOver binds w after_it plain plain' kept p now node2 (play.goes (plain.programs p) None) facts.proceeds program (λ k. refl) after
            (links_grow_end plain plain' seat_of seat_after kept.linked (other_end c) side (session_message d p) grows same d p refl facts.below_it
            (λ k i. subst (λ z. IsParkedAt k z) here_it.seat_is i) (subst (λ z. IsParkedAt p z) (sym at_d) refl) (λ k i. sym (subst (λ z. IsParkedAt k z) at_d i)) keep)
            (bound_but IsOver binds w after_it plain plain' kept p now node2 (play.goes (plain.programs p) None) facts.proceeds program (λ k. refl) d seat_after facts.binds_else user
            (bound_none IsOver binds w after_it plain plain' kept p now node2 (play.goes (plain.programs p) None) facts.proceeds program (λ k. refl) d facts.below_it (ap user_of here_it.seat_is) facts.binds_it (seat_after d) (ap user_of at_d))),
      )
    where
      apart_sym : (a b : EndId) → is_same_end a b ≡ false → is_same_end b a ≡ false
      apart_sym a b i = by (is_same_end b a) refl
        where
          by : (k : Bool) → is_same_end b a ≡ k → is_same_end b a ≡ false
          by true j = let o : b ≡ a = same_is b a j in let t : is_same_end a b ≡ true = ap (λ z. is_same_end a z) o ∙ same_end a in absurd (cc (t, i))
          by false j = j

      by_c : (Is : EndId → Type 0) (e : EndId) (k : Bool) → is_same_end e c ≡ k → Is c → (is_same_end e c ≡ false → Is e) → Is e
      by_c Is e true i at away = subst Is (sym (same_is e c i)) at
      by_c Is e false i at away = away i
