-- A party's act that opens and accepts no session: the world with Opens stays kept, with the plain
-- act.
use Rattle.std.proofs.Common.{◌≡◌, ℕ, ◌+◌, ◌<◌, ◌≤◌, List, ◌∷◌, ◌++◌, refl, sym, ap, subst, ◌∙◌, arith}
use Rattle.std.specs.Prelude.{Bool, true, false, ◌==◌, if◌then◌else◌, slice_get, Contains, Option, Some, None, option_map}
use Rattle.std.proofs.lemmas.Bool.{eqb-true, eq-eqb}
use Rattle.sj_base.specs.declared.EndId.{EndId}
use Rattle.sj_base.specs.declared.Msg.{Msg}
use Rattle.sj_base.specs.declared.Msg.TheVariants as msgs
use Rattle.sj_rules.specs.Record.{HeldAt, Held, other_end, is_same_end, offered_end}
use Rattle.sj_rules.specs.Opened.{opened_number, opener_of, new_held, opened_in}
use Rattle.sj_rules.specs.Rows.{Worked}
use Rattle.sj_rules.specs.Node.{Play, NodeAt, Want, ended, local, sends, delegates, takes, closes, requests, accepts, acts}
use Rattle.sj_rules.specs.World.{WorldAt, Act, happens, after_event}
use Rattle.sj_rules.specs.Seat.{Seat, held, parked, claimed, signalled, given, closed, gone}
use Rattle.sj_rules.specs.Shown.{bodies, old_shown}
use Rattle.sj_rules.specs.PlainSide.{PlainSide, PlainAt, CountsFit, IsFront}
use Rattle.sj_rules.specs.PlainChanges.{CountsHold, Proceeds, waits_of}
use Rattle.sj_rules.specs.PlainSteps.{NamesEnds, PlainGives, PlainTakes}
use Rattle.sj_rules.specs.Linked.{IsKept, IsParkedAt, end_named}
use Rattle.sj_rules.specs.Reading.{is_opening, reading, AreRising, IsOpenKept}
use Rattle.sj_world_lemmas.proofs.ActLaws.{ActLaws}
use Rattle.sj_world_lemmas.proofs.ActsKeep.{act_keeps}
use Rattle.sj_world_lemmas.proofs.StepLemmas.{OpensNothing, Needs, needs_met}
use Rattle.sj_world_lemmas.proofs.SeenLemmas.{Here, here_held}
use Rattle.sj_world_lemmas.proofs.FlowLemmas.{untaken_front}
use Rattle.sj_opened_lemmas.proofs.NodeReadLemmas.{same_is, WantsNoLate, NamesNoLate}
use Rattle.sj_opened_lemmas.proofs.PostedLemmas.{AreUnopened, PostsNone, OpensNone, acts_none}
use Rattle.sj_opened_lemmas.proofs.LaneReadLemmas.{OpensSame, posted_same}
use Rattle.sj_opened_lemmas.proofs.WorldReadLemmas.{IsReading, late_at, late_held, more_at, not_late, reading_reads, WorldsAgree, act_read}
use Rattle.sj_opened_lemmas.proofs.LeadLemmas.{lead_posted}
use Rattle.sj_opened_lemmas.proofs.OldKeepLemmas.{kept_like}
use Rattle.sj_opened_lemmas.proofs.DeliverKeepLemmas.{read_is, read_none}
use Rattle.sj_opened_lemmas.proofs.OpenStandsLemmas.{opening_stands}
use Rattle.sj_opened_lemmas.proofs.ActApartLemmas.{MsgApart, NamesApart, SameAt, ApartBy, acts_apart}

module _ {P Q : Type 0} (IsOver : P → Type 0) (binds : Q → EndId → Bool) (play : Play P Q) (w : WorldAt P Q) (plain plain' : PlainAt P Q) (kept : IsOpenKept IsOver binds play.blank w plain) (p : ℕ) where
  -- an accepted end is in no Open
  accepted_there : (c : EndId) → (plain.sides c).offered ≡ false → is_opening w p c ≡ false
  accepted_there c i = by (is_opening w p c) refl
    where
      by : (b : Bool) → is_opening w p c ≡ b → is_opening w p c ≡ false
      by false j = j
      by true j = let o : (plain.sides c).offered ≡ true = (opening_stands IsOver binds play.blank w plain kept p c j).offered in absurd (cc (i, o))

  -- nor is one that is parked
  parked_there : (d : EndId) (keeper : ℕ) → d.side < 2 → IsParkedAt keeper (kept.kept.sessions.sides d).seat → is_opening w p d ≡ false
  parked_there d keeper low parks = by (is_opening w p d) refl
    where
      by : (b : Bool) → is_opening w p d ≡ b → is_opening w p d ≡ false
      by false j = j
      by true j =
          let main : ((reading play.blank w).nodes p).main d ≡ Some (Held (new_held d play.blank (opener_of d.sess))) = rw j refl in
          let here : Here IsOver (reading play.blank w) (plain.sides (other_end d)) (plain.sides d) (kept.kept.sessions.sides (other_end d)) (kept.kept.sessions.sides d) d (held p (new_held d play.blank (opener_of d.sess))) =
          here_held IsOver (reading play.blank w) plain.sides kept.kept.sessions d low p (new_held d play.blank (opener_of d.sess)) main in
          absurd (subst (IsParkedAt keeper) here.seat_is parks)

  -- the end that the first untaken message names is parked
  named_parked : (c : EndId) (h : HeldAt P) (rest : List Msg) (sess side keeper : ℕ) → c.side < 2 → (plain.sides c).offered ≡ false → (w.nodes p).main c ≡ Some (Held h) → h.untaken ≡ msgs.Sess sess side keeper ∷ rest →
      (side < 2) × IsParkedAt keeper (kept.kept.sessions.sides (end_named sess side)).seat
  named_parked c h rest sess side keeper low accepted main u =
      let there : is_opening w p c ≡ false = accepted_there c accepted in
      let read : ((reading play.blank w).nodes p).main c ≡ Some (Held h) = rw there main in
      let k : Here IsOver (reading play.blank w) (plain.sides (other_end c)) (plain.sides c) (kept.kept.sessions.sides (other_end c)) (kept.kept.sessions.sides c) c (held p h) = here_held IsOver (reading play.blank w) plain.sides kept.kept.sessions c low p h read in
      let f : IsFront h.untaken (waits_of plain c) = untaken_front k.pace c (plain.sides (other_end c)) (plain.sides c) (kept.kept.sessions.sides (other_end c)).seat p h (kept.kept.sessions.sides c).live k.sound.numbers k.sound.there.comes in
      kept.kept.linked.parks c 0 sess side keeper low (ap (λ l. slice_get l 0) (f.all ∙ ap (λ l. l ++ f.rest) u))

  -- no end that the step names is late
  wants_there : (want : Want P) → OpensNothing want → NamesEnds want → PlainGives IsOver binds play plain p plain' want → WantsNoLate (late_at play.blank w p) (more_at w p) (w.nodes p) want
  wants_there ended o low g = tt
  wants_there local o low g = tt
  wants_there (sends c msg) o low g = not_late play.blank w p c (accepted_there c g.1.accepted)
  wants_there (delegates c d) o low g = (not_late play.blank w p c (accepted_there c g.1.accepted), not_late play.blank w p d (accepted_there d g.1.accepted_it))
  wants_there (takes c place) o low g = (not_late play.blank w p c (accepted_there c accepted), λ h msg rest main u. heads h msg rest main u)
    where
      accepted_by : (m : Msg) (next : P) → PlainTakes IsOver binds play plain p plain' c place m next → (plain.sides c).offered ≡ false
      accepted_by (msgs.Sess sess side keeper) next f = f.accepted
      accepted_by (msgs.Int k) next f = f.accepted
      accepted_by (msgs.Bool k) next f = f.accepted
      accepted_by (msgs.Text k) next f = f.accepted
      accepted_by (msgs.Label k) next f = f.accepted
      accepted_by (msgs.More k) next f = f.accepted

      accepted : (plain.sides c).offered ≡ false
      accepted = accepted_by g.0 g.3.0 g.3.1

      heads : (h : HeldAt P) (msg : Msg) (rest : List Msg) → (w.nodes p).main c ≡ Some (Held h) → h.untaken ≡ msg ∷ rest → NamesNoLate (late_at play.blank w p) msg
      heads h (msgs.Sess sess side keeper) rest main u =
          let z : (side < 2) × IsParkedAt keeper (kept.kept.sessions.sides (end_named sess side)).seat = named_parked c h rest sess side keeper low accepted main u in
          not_late play.blank w p (end_named sess side) (parked_there (end_named sess side) keeper z.0 z.1)
      heads h (msgs.Int k) rest main u = tt
      heads h (msgs.Bool k) rest main u = tt
      heads h (msgs.Text k) rest main u = tt
      heads h (msgs.Label k) rest main u = tt
      heads h (msgs.More k) rest main u = tt
  wants_there (closes c) o low g = not_late play.blank w p c (accepted_there c g.accepted)
  wants_there (requests place to) o low g = absurd o
  wants_there (accepts place from) o low g = absurd o

  opens_none : (want : Want P) → OpensNothing want → OpensNone play want
  opens_none ended o = tt
  opens_none local o = tt
  opens_none (sends c msg) o = tt
  opens_none (delegates c d) o = tt
  opens_none (takes c place) o = tt
  opens_none (closes c) o = tt
  opens_none (requests place to) o = absurd o
  opens_none (accepts place from) o = absurd o

  -- what the plain act says of requests and offers
  proceeds_of : (want : Want P) → OpensNothing want → PlainGives IsOver binds play plain p plain' want → (q : Q) × Proceeds plain plain' p q
  proceeds_of ended o g = absurd g
  proceeds_of local o g = (_, g.proceeds)
  proceeds_of (sends c msg) o g = (_, g.1.proceeds)
  proceeds_of (delegates c d) o g = (_, g.1.proceeds)
  proceeds_of (takes c place) o g = by g.0 g.3.0 g.3.1
    where
      by : (m : Msg) (next : P) → PlainTakes IsOver binds play plain p plain' c place m next → (q : Q) × Proceeds plain plain' p q
      by (msgs.Sess sess side keeper) next f = (_, f.proceeds)
      by (msgs.Int k) next f = (_, f.proceeds)
      by (msgs.Bool k) next f = (_, f.proceeds)
      by (msgs.Text k) next f = (_, f.proceeds)
      by (msgs.Label k) next f = (_, f.proceeds)
      by (msgs.More k) next f = (_, f.proceeds)
  proceeds_of (closes c) o g = (_, g.proceeds)
  proceeds_of (requests place to) o g = absurd o
  proceeds_of (accepts place from) o g = absurd o

  -- an end apart from those in use here, and from those that are parked, isn't named
  names_apart : (e : EndId) → ((c : EndId) (h : HeldAt P) → c.side < 2 → (plain.sides c).offered ≡ false → (w.nodes p).main c ≡ Some (Held h) → is_same_end e c ≡ false) →
      ((d : EndId) (keeper : ℕ) → d.side < 2 → IsParkedAt keeper (kept.kept.sessions.sides d).seat → is_same_end e d ≡ false) →
      (want : Want P) → OpensNothing want → NamesEnds want → Needs (w.nodes p) want → PlainGives IsOver binds play plain p plain' want → NamesApart e (w.nodes p) want
  names_apart e used parks ended o low n g = tt
  names_apart e used parks local o low n g = tt
  names_apart e used parks (sends c msg) o low n g = used c n.0 low g.1.accepted n.1
  names_apart e used parks (delegates c d) o low n g = (used c n.0 low.0 g.1.accepted n.2, used d n.1 low.1 g.1.accepted_it n.3)
  names_apart e used parks (takes c place) o low n g = (used c n.0 low accepted n.3, λ h msg rest main u. heads h msg rest main u)
    where
      accepted_by : (m : Msg) (next : P) → PlainTakes IsOver binds play plain p plain' c place m next → (plain.sides c).offered ≡ false
      accepted_by (msgs.Sess sess side keeper) next f = f.accepted
      accepted_by (msgs.Int k) next f = f.accepted
      accepted_by (msgs.Bool k) next f = f.accepted
      accepted_by (msgs.Text k) next f = f.accepted
      accepted_by (msgs.Label k) next f = f.accepted
      accepted_by (msgs.More k) next f = f.accepted

      accepted : (plain.sides c).offered ≡ false
      accepted = accepted_by g.0 g.3.0 g.3.1

      heads : (h : HeldAt P) (msg : Msg) (rest : List Msg) → (w.nodes p).main c ≡ Some (Held h) → h.untaken ≡ msg ∷ rest → MsgApart e msg
      heads h (msgs.Sess sess side keeper) rest main u =
          let z : (side < 2) × IsParkedAt keeper (kept.kept.sessions.sides (end_named sess side)).seat = named_parked c h rest sess side keeper low accepted main u in
          parks (end_named sess side) keeper z.0 z.1
      heads h (msgs.Int k) rest main u = tt
      heads h (msgs.Bool k) rest main u = tt
      heads h (msgs.Text k) rest main u = tt
      heads h (msgs.Label k) rest main u = tt
      heads h (msgs.More k) rest main u = tt
  names_apart e used parks (closes c) o low n g = used c n.0 low g.accepted n.1
  names_apart e used parks (requests place to) o low n g = absurd o
  names_apart e used parks (accepts place from) o low n g = absurd o

  -- two ends are one, or not
  not_same : (e c : EndId) → (e ≡ c → ⊥) → is_same_end e c ≡ false
  not_same e c no_way = by (is_same_end e c) refl
    where
      by : (b : Bool) → is_same_end e c ≡ b → is_same_end e c ≡ false
      by false i = i
      by true i = absurd (no_way (same_is e c i))

  -- an offered end is apart
  offered_used : (e c : EndId) (h : HeldAt P) → (plain.sides e).offered ≡ true → (plain.sides c).offered ≡ false → is_same_end e c ≡ false
  offered_used e c h o i = not_same e c (λ same. let z : (plain.sides c).offered ≡ true = ap (λ d. (plain.sides d).offered) (sym same) ∙ o in cc (z, i))

  held_not_parked : (e d : EndId) (k keeper : ℕ) (h : HeldAt P) → d.side < 2 → ((reading play.blank w).nodes k).main e ≡ Some (Held h) → IsParkedAt keeper (kept.kept.sessions.sides d).seat → is_same_end e d ≡ false
  held_not_parked e d k keeper h low main parks = not_same e d (λ same.
      let there : ((reading play.blank w).nodes k).main d ≡ Some (Held h) = ap ((reading play.blank w).nodes k).main (sym same) ∙ main in
      let here : Here IsOver (reading play.blank w) (plain.sides (other_end d)) (plain.sides d) (kept.kept.sessions.sides (other_end d)) (kept.kept.sessions.sides d) d (held k h) = here_held IsOver (reading play.blank w) plain.sides kept.kept.sessions d low k h there in
      subst (IsParkedAt keeper) here.seat_is parks)

  -- an end without records is apart
  absent_used : (e c : EndId) (h : HeldAt P) → (w.nodes p).main e ≡ None → (w.nodes p).main c ≡ Some (Held h) → is_same_end e c ≡ false
  absent_used e c h none main = not_same e c (λ same. let z : (w.nodes p).main c ≡ None = ap (w.nodes p).main (sym same) ∙ none in cc (z, main))

  parked_old : (keeper : ℕ) (seat : Seat P) → IsParkedAt keeper seat → old_shown seat keeper ≡ None → ⊥
  parked_old keeper (parked at e) i j = let k : (keeper == at) ≡ true = eq-eqb keeper at (sym i) in cc (rw k at j)
  parked_old keeper (held at h) i j = i
  parked_old keeper (claimed at to e) i j = i
  parked_old keeper (signalled at to e ds) i j = i
  parked_old keeper (given at to e r ds) i j = i
  parked_old keeper (closed at e) i j = i
  parked_old keeper gone i j = i

  absent_parked : (e d : EndId) (keeper : ℕ) → ((k : ℕ) → (w.nodes k).old e ≡ None) → d.side < 2 → IsParkedAt keeper (kept.kept.sessions.sides d).seat → is_same_end e d ≡ false
  absent_parked e d keeper none low parks = not_same e d (λ same.
      parked_old keeper (kept.kept.sessions.sides d).seat parks (sym ((kept.kept.sessions.shows d low).olds keeper) ∙ ap (w.nodes keeper).old (kept.kept.sessions.ids d ∙ sym same) ∙ none keeper))

  module _ (pick : ℕ → ℕ → ℕ) (v : WorldAt P Q) (step : happens play pick w p Act ≡ Some v) (counts : CountsHold plain) (counts' : CountsHold plain')
      (laws : (x y : PlainSide P) → CountsFit x y → CountsFit y x → ActLaws IsOver x y) (old : OpensNothing (play.wants (plain.programs p))) (low : NamesEnds (play.wants (plain.programs p)))
      (gives : PlainGives IsOver binds play plain p plain' (play.wants (plain.programs p))) (unbound : (k : ℕ) (e : EndId) → e.side < 2 → (plain'.sides e).offered ≡ true → binds (plain'.programs k) e ≡ false) where
    abbrev want : Want P
    want = play.wants (plain.programs p)

    program : (w.nodes p).program ≡ plain.programs p
    program = kept.kept.programs p

    needs : Needs (w.nodes p) want
    needs = subst (λ g. Needs (w.nodes p) (play.wants g)) program (needs_met play pick w v p step).1

    proceeds : Proceeds plain plain' p (proceeds_of want old gives).0
    proceeds = (proceeds_of want old gives).1

    done_is : (done : Worked P (NodeAt P Q)) × (acts play p (w.nodes p) ≡ Some done) × (v ≡ after_event w p ((w.nodes p).clock + 1) w.lanes done)
    done_is = by (acts play p (w.nodes p)) refl step
      where
        by : (o : Option (Worked P (NodeAt P Q))) → acts play p (w.nodes p) ≡ o → option_map (after_event w p ((w.nodes p).clock + 1) w.lanes) o ≡ Some v →
            (done : Worked P (NodeAt P Q)) × (acts play p (w.nodes p) ≡ Some done) × (v ≡ after_event w p ((w.nodes p).clock + 1) w.lanes done)
        by None i j = absurd (cc j)
        by (Some done) i j = (done, i, sym (cc j))

    abbrev done : Worked P (NodeAt P Q)
    done = done_is.0

    abbrev clock : ℕ
    clock = (w.nodes p).clock + 1

    abbrev z : WorldAt P Q
    z = after_event w p clock w.lanes done

    none : AreUnopened done.posts
    none = subst PostsNone done_is.1 (acts_none play p (w.nodes p) (subst (λ g. OpensNone play (play.wants g)) (sym program) (opens_none want old)))

    same_at : (e : EndId) → NamesApart e (w.nodes p) want → SameAt e (w.nodes p) done.state
    same_at e i = subst (ApartBy e (w.nodes p)) done_is.1 (acts_apart e play p (w.nodes p) (subst (λ g. NamesApart e (w.nodes p) (play.wants g)) (sym program) i))

    -- an end of no session: for what is said of the party alone
    nobody_same : SameAt (end_named 0 2) (w.nodes p) done.state
    nobody_same = same_at (end_named 0 2) (names_apart (end_named 0 2)
        (λ c h below a m. not_same (end_named 0 2) c (λ i. let s : c.side ≡ 2 = ap (λ d. d.side) (sym i) in omega (arith, s, below)))
        (λ d keeper below k. not_same (end_named 0 2) d (λ i. let s : d.side ≡ 2 = ap (λ d. d.side) (sym i) in omega (arith, s, below))) want old low needs gives)

    offered_same : (k : ℕ) (e : EndId) (h : HeldAt P) → (plain.sides e).offered ≡ true → ((reading play.blank w).nodes k).main e ≡ Some (Held h) → SameAt e (w.nodes p) done.state
    offered_same k e h o main = same_at e (names_apart e (λ c g below a m. offered_used e c g o a) (λ d keeper below parks. held_not_parked e d k keeper h below main parks) want old low needs gives)

    absent_same : (e : EndId) → (w.nodes p).main e ≡ None → ((k : ℕ) → (w.nodes k).old e ≡ None) → SameAt e (w.nodes p) done.state
    absent_same e i j = same_at e (names_apart e (λ c g below a m. absent_used e c g i m) (λ d keeper below parks. absent_parked e d keeper j below parks) want old low needs gives)

    abbrev u : WorldAt P Q
    u = reading play.blank w

    agree : WorldsAgree play.blank (happens play pick u p Act) (Some v)
    agree = subst (λ o. WorldsAgree play.blank (happens play pick u p Act) o) step (act_read play.blank play pick u w (reading_reads play.blank w kept.bare) p
        (subst (λ g. WantsNoLate (late_at play.blank w p) (more_at w p) (w.nodes p) (play.wants g)) (sym program) (wants_there want old low gives))
        (subst (λ g. OpensNone play (play.wants g)) (sym program) (opens_none want old)))

    -- the act on the world read so, which stays kept
    after : (u' : WorldAt P Q) × IsReading play.blank u' v × IsKept IsOver binds u' plain'
    after = by (happens play pick u p Act) refl agree
      where
        by : (o : Option (WorldAt P Q)) → happens play pick u p Act ≡ o → WorldsAgree play.blank o (Some v) → (u' : WorldAt P Q) × IsReading play.blank u' v × IsKept IsOver binds u' plain'
        by None e a = absurd a
        by (Some u') e a = (u', a, act_keeps IsOver binds play pick u plain kept.kept p u' e plain' counts counts' laws old low gives)

    all : OpensSame z.lanes w.lanes
    all = posted_same p clock done.posts w.lanes none

    read : IsReading play.blank after.0 z
    read = subst (λ k. IsReading play.blank after.0 k) done_is.2 after.1

    at_node : {A : Type 0} → (f : NodeAt P Q → A) → ((n : NodeAt P Q) → f (record n { clock = clock }) ≡ f n) → f done.state ≡ f (w.nodes p) → (k : ℕ) → f (z.nodes k) ≡ f (w.nodes k)
    at_node {A} f clocks same k = by (k == p) refl
      where
        by : (b : Bool) → (k == p) ≡ b → f (if b then record done.state { clock = clock } else w.nodes k) ≡ f (w.nodes k)
        by true i = let at : k ≡ p = eqb-true k p i in clocks done.state ∙ same ∙ ap (λ n. f (w.nodes n)) (sym at)
        by false i = refl

    held_at_end : (k : ℕ) (e : EndId) (h : HeldAt P) → (plain.sides e).offered ≡ true → ((reading play.blank w).nodes k).main e ≡ Some (Held h) → ((reading play.blank z).nodes k).main e ≡ Some (Held h)
    held_at_end k e h o main =
        ap (λ b. if b then Some (Held (new_held e play.blank (opener_of e.sess))) else (z.nodes k).main e) (all.opens (opener_of e.sess) k e)
        ∙ ap (λ m. if is_opening w k e then Some (Held (new_held e play.blank (opener_of e.sess))) else m) (at_node (λ n. n.main e) (λ n. refl) (offered_same k e h o main).main k) ∙ main

    absent_at : (k : ℕ) (e : EndId) → ((k : ℕ) → (((reading play.blank w).nodes k).main e ≡ None) × ((w.nodes k).old e ≡ None)) → (((reading play.blank z).nodes k).main e ≡ None) × ((z.nodes k).old e ≡ None)
    absent_at k e a =
        let here : (is_opening w p e ≡ false) × ((w.nodes p).main e ≡ None) = read_none play.blank (is_opening w p e) e ((w.nodes p).main e) (a p).0 in
        let s : SameAt e (w.nodes p) done.state = absent_same e here.1 (λ n. (a n).1) in (
          ap (λ b. if b then Some (Held (new_held e play.blank (opener_of e.sess))) else (z.nodes k).main e) (all.opens (opener_of e.sess) k e)
              ∙ ap (λ m. if is_opening w k e then Some (Held (new_held e play.blank (opener_of e.sess))) else m) (at_node (λ n. n.main e) (λ n. refl) s.main k) ∙ (a k).0,
          at_node (λ n. n.old e) (λ n. refl) s.old k ∙ (a k).1,
        )

    kept_z : IsOpenKept IsOver binds play.blank z plain'
    kept_z = record {
      kept = kept_like IsOver binds (reading play.blank z) after.0 plain' (record {
        mains = λ k e. read_is play.blank (is_opening z k e) e ((z.nodes k).main e) ∙ sym ((read.nodes k).mains e);
        olds = λ k e. sym ((read.nodes k).olds e);
        lanes = λ from to. ap bodies (sym (read.lanes from to));
      }) (λ k. sym (read.nodes k).program) after.2;
      requests = λ k. at_node (λ n. n.requests) (λ n. refl) nobody_same.requests k ∙ kept.requests k ∙ sym (proceeds.requests k);
      offers = λ from k. ap (λ l. (z.nodes k).offers from ++ l) (all.opened from k) ∙ ap (λ l. l ++ opened_in (bodies (w.lanes from k))) (at_node (λ n. n.offers from) (λ n. refl) (nobody_same.offers from) k) ∙ kept.offers from k ∙ sym (proceeds.offers from k);
      rising = λ from k. subst AreRising (sym (proceeds.offers from k)) (kept.rising from k);
      openers = λ from k s c. kept.openers from k s (subst (λ l. Contains l s) (proceeds.offers from k) c);
      below = λ from k s c. subst (λ (n : ℕ). s < opened_number from n) (sym (proceeds.requests from)) (kept.below from k s (subst (λ l. Contains l s) (proceeds.offers from k) c));
      offered = λ from k s c. proceeds.offered (offered_end s) ∙ kept.offered from k s (subst (λ l. Contains l s) (proceeds.offers from k) c);
      held = λ from k s c.
          let d : Contains (plain.offers from k) s = subst (λ l. Contains l s) (proceeds.offers from k) c in
          let h : (h : HeldAt P) × (((reading play.blank w).nodes k).main (offered_end s) ≡ Some (Held h)) = kept.held from k s d in
          (h.0, held_at_end k (offered_end s) h.0 (kept.offered from k s d) h.1);
      unbound = unbound;
      lead = lead_posted p clock done.posts w.lanes none kept.lead;
      bare = λ k e i. (read.nodes k).bare e (new_held e play.blank (opener_of e.sess)) (ap (λ b. late_held play.blank b e) i);
      unopened = λ s n k e is below. absent_at k e (λ m. kept.unopened s (n.0, n.1, subst (λ (r : ℕ). r ≤ n.1) (proceeds.requests n.0) n.2, n.3, n.4) m e is below);
    }

    -- the world stays kept with the plain act
    pub open_act_keeps : IsOpenKept IsOver binds play.blank v plain'
    open_act_keeps = subst (λ k. IsOpenKept IsOver binds play.blank k plain') (sym done_is.2) kept_z
