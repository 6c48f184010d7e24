-- Each event names only parties of the file, keeps all numbers within the limits, and leaves
-- nothing in the lanes of others.
use Rattle.std.proofs.Common.{◌≡◌, ℕ, ◌+◌, ◌<◌, ◌≤◌, ◌==◌, Bool, true, false, ◌&&◌, cond, List, [], ◌∷◌, ◌++◌, map, max, Some, None, refl, ap, sym, ◌∙◌, subst, arith, inl, inr, ◌⊎◌}
use Rattle.std.specs.List.{filter, AllByRecursion}
use Rattle.std.proofs.lemmas.Bool.{false_from_ne_true, both_ways, cases_lt, eqb-true, eq-eqb, ne_eqb, and_parts}
use Rattle.sj_base.specs.declared.EndId.{EndId}
use Rattle.sj_base.specs.declared.Msg.{Msg}
use Rattle.sj_base.specs.declared.Msg.TheVariants as msgs
use Rattle.sj_rules.specs.Record.{EndAt, Mail, HeldAt, Held, Parked, other_end}
use Rattle.sj_rules.specs.Rows.{IsPick, Worked}
use Rattle.sj_rules.specs.Node.{Want, ended, local, sends, delegates, takes, closes, requests, accepts, Play, NodeAt, arrives, acts, act_by}
use Rattle.sj_rules.proofs.ArrivalLemmas.{proper_comes, arrived_proper}
use Rattle.sj_rules.specs.Frames.{FrameAt, frames_for}
use Rattle.sj_rules.specs.World.{WorldAt, Event, Act, Deliver, with_lane, after_event, delivery_of, happens}
use Rattle.sj_rules.specs.PlainSide.{PlainAt}
use Rattle.sj_rules.specs.Linked.{IsParkedAt, waiting_at}
use Rattle.sj_rules.specs.Seat.{Seat, held, parked, claimed, signalled, given, closed, gone}
use Rattle.sj_rules.specs.Shown.{old_shown}
use Rattle.sj_rules.specs.Reading.{reading, IsOpenKept}
use Rattle.sj_rules.specs.Premises.{FitsStep, IsLawful}
use Rattle.sj_rules.specs.Within.{IdWithin, NamedWithin, BodyWithin, MailsWithin, NodeWithin, WorkedWithin, IsWithin}
use Rattle.sj_rules_laws.proofs.WithinRowLemmas.{by_map}
use Rattle.sj_rules_laws.proofs.WithinNodeLemmas.{all_within}
use Rattle.sj_rules_laws.proofs.WithinActLemmas.{StepIsFew, acts_within}
use Rattle.sj_world_lemmas.proofs.SeenLemmas.{here_held}
use Rattle.sj_rules_laws.proofs.KeptLemmas.{held_read, open_kept_stands}
use Rattle.std.specs.Prelude.{length, slice_get}
use Rattle.sj_joined_lemmas.proofs.LateLemmas.{all_joined}

-- ---- lanes

abbrev FramesWithin : {P : Type 0} → ℕ → List (FrameAt P) → Type 0
FramesWithin n fs = AllByRecursion (λ f. BodyWithin n f.body) fs

frames_within : {P : Type 0} → (n to clock : ℕ) (posts : List (Mail P)) → MailsWithin n posts → FramesWithin n (frames_for to clock posts)
frames_within n to clock [] all = tt
frames_within {P} n to clock (m ∷ ms) all = by (to == m.party) (frames_within n to clock ms all.1)
  where
    by : (b : Bool) → FramesWithin n (frames_for to clock ms) → FramesWithin n (map (λ x. record { clock = clock; body = x.body }) (cond b (m ∷ filter (λ x. to == x.party) ms) (filter (λ x. to == x.party) ms)))
    by true later = (all.0.1, later)
    by false later = later

none_for : {P : Type 0} → (n to clock : ℕ) (posts : List (Mail P)) → n ≤ to → MailsWithin n posts → frames_for to clock posts ≡ []
none_for n to clock [] le all = refl
none_for n to clock (m ∷ ms) le all =
    ap (λ (b : Bool). map (λ x. record { clock = clock; body = x.body }) (cond b (m ∷ filter (λ x. to == x.party) ms) (filter (λ x. to == x.party) ms))) (ne_eqb to m.party (λ h. absurd (omega (arith, h, le, all.0.0))))
    ∙ none_for n to clock ms le all.1

-- a Parked record is shown of an end that waits to be taken
parked_shown : {P : Type 0} (s : Seat P) (keeper : ℕ) → IsParkedAt keeper s → (end : EndAt P) × (old_shown s keeper ≡ Some (Parked end))
parked_shown (parked at e) keeper parks = (e, ap (λ (b : Bool). cond b (Some (Parked e)) None) (eq-eqb keeper at (sym parks)))
parked_shown (held at h) keeper parks = absurd parks
parked_shown (claimed at to e) keeper parks = absurd parks
parked_shown (signalled at to e deferred) keeper parks = absurd parks
parked_shown (given at to e resend deferred) keeper parks = absurd parks
parked_shown (closed at e) keeper parks = absurd parks
parked_shown gone keeper parks = absurd parks

module _ {P Q : Type 0} (n : ℕ) where
  -- the world after an event at a party of the file
  event_within : (w : WorldAt P Q) (p clock : ℕ) (lanes : ℕ → ℕ → List (FrameAt P)) (done : Worked P (NodeAt P Q)) → p < n → IsWithin n w
      → ((from to : ℕ) → FramesWithin n (lanes from to)) → ((from to : ℕ) → (n ≤ from) ⊎ (n ≤ to) → lanes from to ≡ []) → WorkedWithin n done → IsWithin n (after_event w p clock lanes done)
  event_within w p clock lanes done lt all frames outside new = record {
    nodes = λ q. node q (q == p);
    frames = λ from to. lane from to (from == p);
    outside = λ from to h. none from to (from == p) refl h;
  }
    where
      node : (q : ℕ) (b : Bool) → NodeWithin n (cond b (record done.state { clock = clock }) (w.nodes q))
      node q true = record {
        mains = new.node.mains;
        olds = new.node.olds;
        main_ids = new.node.main_ids;
        old_ids = new.node.old_ids;
        requests = new.node.requests;
        offers = new.node.offers;
      }
      node q false = all.nodes q

      lane : (from to : ℕ) (b : Bool) → FramesWithin n (cond b (lanes from to ++ frames_for to clock done.posts) (lanes from to))
      lane from to true = all_joined (λ f. BodyWithin n f.body) (lanes from to) (frames_for to clock done.posts) (frames from to) (frames_within n to clock done.posts new.posts)
      lane from to false = frames from to

      none : (from to : ℕ) (b : Bool) → (from == p) ≡ b → (n ≤ from) ⊎ (n ≤ to) → cond b (lanes from to ++ frames_for to clock done.posts) (lanes from to) ≡ []
      none from to true is (inl le) = absurd (omega (arith, eqb-true from p is, le, lt))
      none from to true is (inr le) = ap (λ t. t ++ frames_for to clock done.posts) (outside from to (inr le)) ∙ none_for n to clock done.posts le new.posts
      none from to false is h = outside from to h

  -- a delivery
  delivery_within : (play : Play P Q) (pick : ℕ → ℕ → ℕ) → IsPick pick → (w v : WorldAt P Q) (p q : ℕ) → IsWithin n w → (l : List (FrameAt P)) → w.lanes q p ≡ l → delivery_of play pick w p q l ≡ Some v → IsWithin n v
  delivery_within play pick picks w v p q all [] there h = cc
  delivery_within play pick picks w v p q all (f ∷ rest) there h =
      by_map (IsWithin n) (after_event w p (max (w.nodes p).clock f.clock + 1) (with_lane q p rest w.lanes)) (arrives play.blank play.parties pick (w.nodes p) q f) v h (λ done k.
      let own : FramesWithin n (f ∷ rest) = subst (FramesWithin n) there (all.frames q p) in
      event_within w p (max (w.nodes p).clock f.clock + 1) (with_lane q p rest w.lanes) done (below_to (cases_lt p n)) all
      (λ from to. popped from to ((from == q) && (to == p)) own.1)
      (λ from to past. popped_none from to ((from == q) && (to == p)) refl past)
      (all_within n pick picks (w.nodes p) (all.nodes p) q (below_from (cases_lt q n)) play.blank f.body done own.0 (sym (proper_comes play.blank play.parties pick (w.nodes p) q f (arrived_proper play.blank play.parties pick (w.nodes p) q f done k)) ∙ k)))
    where
      filled : w.lanes q p ≡ [] → ⊥
      filled none = let clash : [] ≡ f ∷ rest = sym none ∙ there in cc

      below_to : (p < n) ⊎ (n ≤ p) → p < n
      below_to (inl lt) = lt
      below_to (inr le) = absurd (filled (all.outside q p (inr le)))

      below_from : (q < n) ⊎ (n ≤ q) → q < n
      below_from (inl lt) = lt
      below_from (inr le) = absurd (filled (all.outside q p (inl le)))

      popped : (from to : ℕ) (b : Bool) → FramesWithin n rest → FramesWithin n (cond b rest (w.lanes from to))
      popped from to true own = own
      popped from to false own = all.frames from to

      popped_none : (from to : ℕ) (b : Bool) → ((from == q) && (to == p)) ≡ b → (n ≤ from) ⊎ (n ≤ to) → cond b rest (w.lanes from to) ≡ []
      popped_none from to true is past = absurd (outside_pop (and_parts (from == q) (to == p) is) past)
        where
          outside_pop : ((from == q) ≡ true) × ((to == p) ≡ true) → (n ≤ from) ⊎ (n ≤ to) → ⊥
          outside_pop parts (inl le) = filled (all.outside q p (inl (omega (arith, eqb-true from q parts.0, le))))
          outside_pop parts (inr le) = filled (all.outside q p (inr (omega (arith, eqb-true to p parts.1, le))))
      popped_none from to false is past = all.outside from to past

  -- ---- acts, where the world is kept and lawful

  module _ (IsOver : P → Type 0) (play : Play P Q) (binds : Q → EndId → Bool) (pick : ℕ → ℕ → ℕ) (picks : IsPick pick) (w : WorldAt P Q) (plain : PlainAt P Q) (opened : IsOpenKept IsOver binds play.blank w plain) (lawful : IsLawful IsOver play binds n plain) (same : play.parties ≡ n) where
    -- an end that waits to be taken is one of which its keeper has a record
    parked_within : (e : EndId) (keeper : ℕ) → e.side < 2 → IsParkedAt keeper (opened.kept.sessions.sides e).seat → NodeWithin n (w.nodes keeper) → IdWithin n e
    parked_within e keeper lt parks all =
        let old = parked_shown (opened.kept.sessions.sides e).seat keeper parks in
        let shown : (w.nodes keeper).old e ≡ old_shown (opened.kept.sessions.sides e).seat keeper =
        subst (λ (d : EndId). (w.nodes keeper).old d ≡ old_shown (opened.kept.sessions.sides e).seat keeper) (opened.kept.sessions.ids e) ((opened.kept.sessions.shows e lt).olds keeper) in
        all.old_ids e (Parked old.0) (shown ∙ old.1)

    named_within : (e : EndId) (msg : Msg) → IsWithin n w → e.side < 2 → waiting_at plain e 0 ≡ Some msg → NamedWithin n msg
    named_within e (msgs.Sess sess side keeper) all lt h =
        let named = opened.kept.linked.parks e 0 sess side keeper lt h in
        ((lawful.keepers e 0 sess side keeper lt h).1, parked_within (record { sess = sess; side = side }) keeper named.0 named.1 (all.nodes keeper))
    named_within e (msgs.Int i) all lt h = tt
    named_within e (msgs.Bool b) all lt h = tt
    named_within e (msgs.Text i) all lt h = tt
    named_within e (msgs.Label i) all lt h = tt
    named_within e (msgs.More b) all lt h = tt

    -- the end from which a party takes is one of side 0 or 1
    takes_below : (p : ℕ) (e : EndId) (place : P) → play.wants (plain.programs p) ≡ takes e place → (e.side < 2) × ((plain.sides e).offered ≡ false)
    takes_below p e place is =
        let fit = subst (FitsStep IsOver play binds plain p (plain.programs p)) is (lawful.steps p) in
        ((lawful.proper p e fit.bound).0, false_from_ne_true (plain.sides e).offered (λ o. both_ways (binds (plain.programs p) e) (lawful.unbound p e o) fit.bound))

    heads_within : IsWithin n w → (p : ℕ) (e : EndId) (place : P) (h : HeldAt P) (msg : Msg) (rest : List Msg) → play.wants (w.nodes p).program ≡ takes e place → (w.nodes p).main e ≡ Some (Held h) → h.untaken ≡ msg ∷ rest → NamedWithin n msg
    heads_within all p e place h msg rest is there head =
        let t = takes_below p e place (sym (ap play.wants (opened.kept.programs p)) ∙ is) in
        let s = open_kept_stands IsOver binds play.blank w plain opened p e h t.0 t.1 there in
        named_within e msg all t.0 (ap (λ xs. slice_get xs 0) (s.waits ∙ ap (λ t. t ++ s.rest) head))

    -- a Held end has sent and taken fewer than 1,000,000 messages
    pub held_few : (p : ℕ) (e : EndId) → e.side < 2 → (h : HeldAt P) → (w.nodes p).main e ≡ Some (Held h) → (h.end.sent < 1000000) × (h.end.taken < 1000000)
    held_few p e lt h there =
        let agrees = (here_held IsOver (reading play.blank w) plain.sides opened.kept.sessions e lt p h (held_read IsOver binds play.blank w plain opened p e h there)).sound.there.fits.0 in
        let sent : h.end.sent ≡ length (plain.sides e).sent = agrees.sent in
        let taken : h.end.taken ≡ (plain.sides e).taken = agrees.taken in
        let own : length (plain.sides e).sent < 1000000 = (lawful.counts e lt).messages in
        let fewer : (plain.sides e).taken ≤ length (plain.sides (other_end e)).sent = (lawful.counts e lt).fewer in
        let others : length (plain.sides (other_end e)).sent < 1000000 = (lawful.counts (other_end e) (omega arith)).messages in
        (omega (arith, sent, own), omega (arith, taken, fewer, others))

    -- so the ends that a step names have
    steps_few : (p : ℕ) (all : NodeWithin n (w.nodes p)) → StepIsFew n play p (w.nodes p) all (play.wants (w.nodes p).program)
    steps_few p all = subst (λ (want : Want P). StepIsFew n play p (w.nodes p) all want) (sym (ap play.wants (opened.kept.programs p))) (by (play.wants (plain.programs p)) (lawful.steps p))
      where
        low : (e : EndId) → binds (plain.programs p) e ≡ true → e.side < 2
        low e bound = (lawful.proper p e bound).0

        by : (want : Want P) → FitsStep IsOver play binds plain p (plain.programs p) want → StepIsFew n play p (w.nodes p) all want
        by ended fit = tt
        by local fit = tt
        by (sends e msg) fit = held_few p e (low e fit.bound)
        by (delegates carrier e) fit = held_few p carrier (low carrier fit.bound)
        by (takes e place) fit = held_few p e (low e fit.bound)
        by (closes e) fit = tt
        by (requests place to) fit = omega (arith, fit.0, same)
        by (accepts place from) fit = tt

    -- a party that acts is one of the file
    acting_below : (p : ℕ) (done : Worked P (NodeAt P Q)) → acts play p (w.nodes p) ≡ Some done → (p < n) ⊎ (n ≤ p) → p < n
    acting_below p done h (inl lt) = lt
    acting_below p done h (inr le) = absurd (by (play.is_worn (w.nodes p).program) h)
      where
        want : play.wants (w.nodes p).program ≡ ended
        want = ap play.wants (opened.kept.programs p) ∙ lawful.idle p le

        by : (b : Bool) → cond b None (act_by play p (w.nodes p) (play.wants (w.nodes p).program)) ≡ Some done → ⊥
        by true k = cc
        by false k = let none : None ≡ Some done = sym (ap (act_by play p (w.nodes p)) want) ∙ k in cc

    pub happens_within : (v : WorldAt P Q) (p : ℕ) (event : Event) → IsWithin n w → happens play pick w p event ≡ Some v → IsWithin n v
    happens_within v p Act all h =
        by_map (IsWithin n) (after_event w p ((w.nodes p).clock + 1) w.lanes) (acts play p (w.nodes p)) v h (λ done k.
        event_within w p ((w.nodes p).clock + 1) w.lanes done (acting_below p done k (cases_lt p n)) all all.frames all.outside
        (acts_within n play p (w.nodes p) (all.nodes p) done (acting_below p done k (cases_lt p n)) (steps_few p (all.nodes p)) (heads_within all p) k))
    happens_within v p (Deliver q) all h = delivery_within play pick picks w v p q all (w.lanes q p) refl h
