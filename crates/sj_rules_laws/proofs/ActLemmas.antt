-- The act of a party in the plain world, and what the rules see of it, are one.
use Rattle.std.proofs.Common.{◌≡◌, ℕ, ◌+◌, ◌<◌, ◌≤◌, ◌==◌, nat_lt, Bool, true, false, not, ◌&&◌, cond, List, [], ◌∷◌, ◌++◌, map, length, drop, slice_get, Option, Some, None, option_map, option_and_then, unwrap_or, refl, ap, sym, ◌∙◌, arith}
use Rattle.std.specs.Bool.{⊤}
use Rattle.std.proofs.lemmas.Bool.{ltb-true, and_parts, eqb-true, and_right}
use Rattle.std.proofs.lemmas.Option.{slice_get-map}
use Rattle.sj_base.specs.declared.EndId.{EndId}
use Rattle.sj_base.specs.declared.Msg.{Msg}
use Rattle.sj_base.specs.declared.Msg.TheVariants as msgs
use Rattle.sj_lang.specs.declared.proto.Way.TheVariants.{Out, Into}
use Rattle.sj_lang.specs.Place.{Place}
use Rattle.sj_lang.specs.Dual.{dual_of}
use Rattle.sj_lang.specs.After.{after_place}
use Rattle.sj_lang.specs.FileAt.{ProtocolAt, body_named}
use Rattle.sj_semantics.specs.declared.Want.{Want}
use Rattle.sj_semantics.specs.declared.Want.TheVariants as wants
use Rattle.sj_semantics.specs.declared.Awaits.{Awaits}
use Rattle.sj_semantics.specs.declared.Awaits.TheVariants as awaits
use Rattle.sj_semantics.specs.declared.Passed.{Passed}
use Rattle.sj_semantics.specs.Ends.{Session, EndAt, end_at, next_for, nowhere}
use Rattle.sj_semantics.specs.Ends as semantics
use Rattle.sj_semantics.specs.Requests.{Request, first_offer, limit_of_requests, opened_number, requests, accepts, after_opening}
use Rattle.sj_semantics.specs.Uses.{Use, sends, takes, delegates, begins, end_after}
use Rattle.sj_semantics.specs.Program.{Program}
use Rattle.sj_semantics.specs.Steps.{local_of, sent_of, took_of, closed_of, opened_of, name_opened}
use Rattle.sj_semantics.specs.Wants.{want_of}
use Rattle.sj_semantics.specs.World.{World, Change, plain_change, session_message, begun_at, change_by_taking, change_by_opening, change_by_accepting, change_by, change_of_program, changed_world, act_of}
use Rattle.sj_semantics_laws.proofs.EndLemmas.{touched, end_at-touched_other}
use Rattle.sj_headline_laws.specs.Fitting.{FitsPlaces}
use Rattle.sj_headline_laws.proofs.UnnamedLemmas.{hands_places}
use Rattle.sj_rules.specs.Record.{other_end, is_same_end, requested_end, offered_end}
use Rattle.sj_rules.specs.Binding.{NamesNoEnd}
use Rattle.sj_rules.specs.PlainSide.{PlainSide, PlainAt}
use Rattle.sj_rules.specs.Linked.{waiting_at}
use Rattle.sj_rules.specs.Party.{nobody, place_awaited, want_for, want_or_ended, after_step, play_for}
use Rattle.sj_rules.specs.Plain.{offered_from, is_offered_end, side_at, plain_side, plain_at}
use Rattle.sj_rules.specs.Acts.{plain_sent, plain_taken, plain_parked, plain_placed, plain_opened, plain_accepted}
use Rattle.sj_rules.specs.Moves.{with_program, with_side, with_opened, plain_goes, plain_sends, plain_delegates, plain_takes, plain_names, plain_takes_head, plain_requests, plain_accepts, plain_act_by, plain_act}
use Rattle.sj_rules_laws.proofs.SideLemmas.{other_end_is, other_side_below, side_below, head-drop}
use Rattle.sj_rules_laws.proofs.OfferSeenLemmas.{none_offered, first_unoffered, requested_offered, requested_else, requested_offers, requested_counts, accept_offered_not, accept_else, accept_first, accept_offers, accept_counts}
use Rattle.sj_rules_laws.proofs.SeenLemmas.{programs_changed, sides_changed, sends_seen, takes_seen, hands_seen, begins_seen, change_seen}

-- the ends that a step names are of sides 0 and 1
abbrev pub NamesSides : Want → Type 0
NamesSides (wants.Send e m) = e.side < 2
NamesSides (wants.Delegate e y) = (e.side < 2) × (y.side < 2)
NamesSides (wants.Take e a) = e.side < 2
NamesSides (wants.Close e) = e.side < 2
NamesSides (wants.Request q to) = ⊤
NamesSides (wants.Accept q from) = ⊤
NamesSides wants.Local = ⊤
NamesSides wants.Ended = ⊤

-- so is the end that a message names
abbrev pub NamesLow : Msg → Type 0
NamesLow (msgs.Sess s d k) = d < 2
NamesLow (msgs.Int n) = ⊤
NamesLow (msgs.Bool b) = ⊤
NamesLow (msgs.Text n) = ⊤
NamesLow (msgs.Label n) = ⊤
NamesLow (msgs.More b) = ⊤

-- only a statement that takes an end takes a session message
abbrev pub NamesAs : Awaits → Msg → Type 0
NamesAs (awaits.Session q) m = NamesLow m
NamesAs (awaits.Value k) m = NamesNoEnd m
NamesAs awaits.OneOf m = NamesNoEnd m
NamesAs awaits.MoreOrStop m = NamesNoEnd m

-- a place follows the next message of an end, and it names an end where the step takes one
pub record HeadFits (zs : List Session) (e : EndId) (a : Awaits) (x : Passed) : Type 0 where
  pub next : Place
  pub after : after_place (end_at zs e).place Into x.msg ≡ Some next
  pub names : NamesAs a x.msg

-- what the step asks of the world: the ends of a session that is opened now are as if they weren't
-- there
abbrev pub FitsWorld : World → (p : ℕ) → Want → Type 0
FitsWorld w p (wants.Take e a) = (x : Passed) → next_for w.sessions e ≡ Some x → HeadFits w.sessions e a x
FitsWorld w p (wants.Request q to) = (d : ℕ) → length (w.requests p) < limit_of_requests → end_at w.sessions (record { sess = opened_number p (length (w.requests p)); side = d }) ≡ nowhere
FitsWorld w p (wants.Accept q from) = length (w.requests from) ≤ limit_of_requests
FitsWorld w p (wants.Send e m) = ⊤
FitsWorld w p (wants.Delegate e y) = ⊤
FitsWorld w p (wants.Close e) = ⊤
FitsWorld w p wants.Local = ⊤
FitsWorld w p wants.Ended = ⊤

-- what waits at the head of an end is its next message
pub waiting_is_next : (w : World) (e : EndId) → e.side < 2 → waiting_at (plain_at w) e 0 ≡ option_map (λ x. x.msg) (next_for w.sessions e)
waiting_is_next w e lt =
    let taker : EndAt = end_at w.sessions e in
    let giver : EndAt = end_at w.sessions (semantics.other_end e) in
    ap (λ (x : PlainSide Place). slice_get (drop x.taken (plain_side w.requests w.sessions (other_end e)).sent) 0) (side_below w.requests w.sessions e lt)
    ∙ ap (λ (x : PlainSide Place). slice_get (drop (length taker.takers) x.sent) 0)
    (side_below w.requests w.sessions (other_end e) (other_side_below e) ∙ ap (λ (f : EndId). side_at (is_offered_end w.requests (other_end e)) (end_at w.sessions f)) (other_end_is e))
    ∙ head-drop (length taker.takers) (map (λ x. x.msg) giver.sent)
    ∙ slice_get-map (λ (x : Passed). x.msg) giver.sent (length taker.takers)

-- ---- messages that name no end

value_named : {P Q : Type 0} → (named : P) (m : Msg) (plain : PlainAt P Q) → NamesNoEnd m → plain_names named m plain ≡ plain
value_named named (msgs.Sess s d k) plain none = absurd none
value_named named (msgs.Int n) plain none = refl
value_named named (msgs.Bool b) plain none = refl
value_named named (msgs.Text n) plain none = refl
value_named named (msgs.Label n) plain none = refl
value_named named (msgs.More b) plain none = refl

begun_none : (ps : List ProtocolAt) (a : Awaits) (m : Msg) → NamesNoEnd m → begun_at ps a m ≡ []
begun_none ps (awaits.Session q) (msgs.Sess s d k) none = absurd none
begun_none ps (awaits.Session q) (msgs.Int n) none = refl
begun_none ps (awaits.Session q) (msgs.Bool b) none = refl
begun_none ps (awaits.Session q) (msgs.Text n) none = refl
begun_none ps (awaits.Session q) (msgs.Label n) none = refl
begun_none ps (awaits.Session q) (msgs.More b) none = refl
begun_none ps (awaits.Value k) m none = refl
begun_none ps awaits.OneOf m none = refl
begun_none ps awaits.MoreOrStop m none = refl

-- two ends of one session
near_or_far : {X : Type 0} → (b c : Bool) (x y z : X) → (b ≡ true → c ≡ true → ⊥) → cond c y (cond b x z) ≡ cond b x (cond c y z)
near_or_far true true x y z apart = absurd (apart refl refl)
near_or_far true false x y z apart = refl
near_or_far false true x y z apart = refl
near_or_far false false x y z apart = refl

two_sides : (d : EndId) (s : ℕ) → is_same_end d (requested_end s) ≡ true → is_same_end d (offered_end s) ≡ true → ⊥
two_sides d s a b =
    let near : d.side ≡ 0 = eqb-true d.side 0 (and_parts (d.sess == s) (d.side == 0) a).1 in
    let far : d.side ≡ 1 = eqb-true d.side 1 (and_parts (d.sess == s) (d.side == 1) b).1 in
    absurd (omega (arith, near, far))

module _ (n : ℕ) (w : World) (p : ℕ) (g : Program) (there : slice_get w.parties p ≡ Some g) where
  abbrev ps : List ProtocolAt
  ps = w.protocols

  own : (plain_at w).programs p ≡ g
  own = ap (λ (o : Option Program). unwrap_or o nobody) there

  goes_on : (want : Want) → want_of g ≡ Some want → (play_for n ps).goes ((plain_at w).programs p) None ≡ after_step g (Some want)
  goes_on want it = ap (λ (x : Program). after_step x (want_of x)) own ∙ ap (after_step g) it

  -- the same with the program that the step leaves
  goes_seen : (c : Program) (taken : Option Msg) → (play_for n ps).goes ((plain_at w).programs p) taken ≡ c → plain_goes (play_for n ps) p taken (plain_at w) ≡ with_program p c (plain_at w)
  goes_seen c taken h = ap (λ (x : Program). with_program p x (plain_at w)) h

  local_seen : (c : Program) → plain_at (changed_world w p (plain_change c [])) ≡ with_program p c (plain_at w)
  local_seen c = change_seen w p g c [] (plain_side w.requests w.sessions) there (λ d. refl)

  send_seen : (c : Program) (e : EndId) (m : Msg) (next : Place) → e.side < 2 → after_place (end_at w.sessions e).place Out m ≡ Some next
      → plain_at (changed_world w p (plain_change c ((e, sends m) ∷ []))) ≡ with_side e (λ x. plain_sent x next m) (with_program p c (plain_at w))
  send_seen c e m next lt h = change_seen w p g c ((e, sends m) ∷ []) _ there (sends_seen w.requests p w.sessions e m next lt h)

  take_seen : (c : Program) (e : EndId) (m : Msg) (next : Place) → e.side < 2 → after_place (end_at w.sessions e).place Into m ≡ Some next
      → plain_at (changed_world w p (plain_change c ((e, takes m) ∷ []))) ≡ with_side e (λ x. plain_taken x next) (with_program p c (plain_at w))
  take_seen c e m next lt h = change_seen w p g c ((e, takes m) ∷ []) _ there (takes_seen w.requests p w.sessions e m next lt h)

  -- an end that is taken begins at its place
  end_seen : (c : Program) (e f : EndId) (m : Msg) (next place : Place) → e.side < 2 → f.side < 2 → after_place (end_at w.sessions e).place Into m ≡ Some next
      → plain_at (changed_world w p (plain_change c ((e, takes m) ∷ (f, begins place) ∷ []))) ≡ with_side f (λ x. plain_placed x place) (with_side e (λ x. plain_taken x next) (with_program p c (plain_at w)))
  end_seen c e f m next place lt lt' h =
      change_seen w p g c ((e, takes m) ∷ (f, begins place) ∷ []) _ there (λ d.
      begins_seen w.requests p (touched p w.sessions (e, takes m)) f place lt' d
      ∙ ap (λ (x : PlainSide Place). cond (is_same_end d f) (plain_placed x place) x) (takes_seen w.requests p w.sessions e m next lt h d))

  value_seen : (c : Program) (e : EndId) (a : Awaits) (m : Msg) (next : Place) → e.side < 2 → after_place (end_at w.sessions e).place Into m ≡ Some next → NamesNoEnd m
      → plain_at (changed_world w p (plain_change c ((e, takes m) ∷ begun_at ps a m))) ≡ plain_names (place_awaited ps a) m (with_side e (λ x. plain_taken x next) (with_program p c (plain_at w)))
  value_seen c e a m next lt h none =
      ap (λ (us : List (EndId × Use)). plain_at (changed_world w p (plain_change c ((e, takes m) ∷ us)))) (begun_none ps a m none)
      ∙ take_seen c e m next lt h ∙ sym (value_named (place_awaited ps a) m (with_side e (λ x. plain_taken x next) (with_program p c (plain_at w))) none)

  taken_seen : (c : Program) (e : EndId) (a : Awaits) (m : Msg) (next : Place) → e.side < 2 → after_place (end_at w.sessions e).place Into m ≡ Some next → NamesAs a m
      → plain_at (changed_world w p (plain_change c ((e, takes m) ∷ begun_at ps a m))) ≡ plain_names (place_awaited ps a) m (with_side e (λ x. plain_taken x next) (with_program p c (plain_at w)))
  taken_seen c e (awaits.Session q) (msgs.Sess s d k) next lt h names = end_seen c e (record { sess = s; side = d }) (msgs.Sess s d k) next (body_named ps q) lt names h
  taken_seen c e (awaits.Session q) (msgs.Int i) next lt h names = value_seen c e (awaits.Session q) (msgs.Int i) next lt h tt
  taken_seen c e (awaits.Session q) (msgs.Bool b) next lt h names = value_seen c e (awaits.Session q) (msgs.Bool b) next lt h tt
  taken_seen c e (awaits.Session q) (msgs.Text i) next lt h names = value_seen c e (awaits.Session q) (msgs.Text i) next lt h tt
  taken_seen c e (awaits.Session q) (msgs.Label i) next lt h names = value_seen c e (awaits.Session q) (msgs.Label i) next lt h tt
  taken_seen c e (awaits.Session q) (msgs.More b) next lt h names = value_seen c e (awaits.Session q) (msgs.More b) next lt h tt
  taken_seen c e (awaits.Value k) m next lt h names = value_seen c e (awaits.Value k) m next lt h names
  taken_seen c e awaits.OneOf m next lt h names = value_seen c e awaits.OneOf m next lt h names
  taken_seen c e awaits.MoreOrStop m next lt h names = value_seen c e awaits.MoreOrStop m next lt h names

  -- ---- by what the step wants

  abbrev ByWant : Want → Type 0
  ByWant want = plain_act_by (play_for n ps) (plain_at w) p (want_for ps want) ≡ option_map plain_at (option_map (changed_world w p) (change_by w p g want))

  local_by : want_of g ≡ Some wants.Local → ByWant wants.Local
  local_by it = ap Some (goes_seen (local_of g) None (goes_on wants.Local it) ∙ sym (local_seen (local_of g)))

  close_by : (e : EndId) → want_of g ≡ Some (wants.Close e) → ByWant (wants.Close e)
  close_by e it = ap Some (goes_seen (closed_of g) None (goes_on (wants.Close e) it) ∙ sym (local_seen (closed_of g)))

  send_by : (e : EndId) (m : Msg) → want_of g ≡ Some (wants.Send e m) → e.side < 2 → FitsPlaces w.sessions (wants.Send e m) → ByWant (wants.Send e m)
  send_by e m it lt fit =
      let at : after_place (plain_side w.requests w.sessions e).place Out m ≡ Some fit.0 = ap (λ (x : PlainSide Place). after_place x.place Out m) (side_below w.requests w.sessions e lt) ∙ fit.1 in
      ap (option_map (λ place. plain_sends (play_for n ps) p e m place (plain_at w))) at
      ∙ ap Some (ap (with_side e (λ x. plain_sent x fit.0 m)) (goes_seen (sent_of g) None (goes_on (wants.Send e m) it)) ∙ sym (send_seen (sent_of g) e m fit.0 lt fit.1))

  delegates_seen : (c : Program) (e y : EndId) (next : Place) → e.side < 2 → y.side < 2
      → after_place (end_at w.sessions e).place Out (session_message y p) ≡ Some next
      → plain_at (changed_world w p (plain_change c ((y, delegates) ∷ (e, sends (session_message y p)) ∷ [])))
      ≡ with_side e (λ x. plain_sent x next (session_message y p)) (with_side y plain_parked (with_program p c (plain_at w)))
  delegates_seen c e y next lt lt' h =
      let mid : List Session = touched p w.sessions (y, delegates) in
      let at : after_place (end_at mid e).place Out (session_message y p) ≡ Some next = ap (λ (q : Place). after_place q Out (session_message y p)) (hands_places p w.sessions y e) ∙ h in
      change_seen w p g c ((y, delegates) ∷ (e, sends (session_message y p)) ∷ []) _ there (λ d.
      sends_seen w.requests p mid e (session_message y p) next lt at d
      ∙ ap (λ (x : PlainSide Place). cond (is_same_end d e) (plain_sent x next (session_message y p)) x) (hands_seen w.requests p w.sessions y lt' d))

  by_test : (b : Bool) (c : Change) (x : PlainAt Place Program) → (b ≡ true → x ≡ plain_at (changed_world w p c))
      → cond b (Some x) None ≡ option_map plain_at (option_map (changed_world w p) (cond b (Some c) None))
  by_test true c x h = ap Some (h refl)
  by_test false c x h = refl

  delegate_by : (e y : EndId) → want_of g ≡ Some (wants.Delegate e y) → e.side < 2 → y.side < 2 → FitsPlaces w.sessions (wants.Delegate e y) → ByWant (wants.Delegate e y)
  delegate_by e y it lt lt' fit =
      let m : Msg = session_message y p in
      let next : Place = fit.1 in
      let at : after_place (end_at w.sessions e).place Out m ≡ Some next = ap (λ (q : Place). after_place q Out m) fit.2 in
      let at_side : after_place (plain_side w.requests w.sessions e).place Out m ≡ Some next = ap (λ (x : PlainSide Place). after_place x.place Out m) (side_below w.requests w.sessions e lt) ∙ at in
      let seen = delegates_seen (sent_of g) e y next lt lt' at in
      let goes = goes_seen (sent_of g) None (goes_on (wants.Delegate e y) it) in
      ap (λ (x : PlainSide Place). cond (nat_lt x.hops 100) (option_map (λ place. plain_delegates (play_for n ps) p e y place (plain_at w)) (after_place (plain_side w.requests w.sessions e).place Out m)) None) (side_below w.requests w.sessions y lt')
      ∙ ap (λ o. cond (nat_lt (end_at w.sessions y).hops 100) (option_map (λ place. plain_delegates (play_for n ps) p e y place (plain_at w)) o) None) at_side
      ∙ by_test (nat_lt (end_at w.sessions y).hops 100) (plain_change (sent_of g) ((y, delegates) ∷ (e, sends m) ∷ []))
      (plain_delegates (play_for n ps) p e y next (plain_at w))
      (λ t. ap (λ (x : PlainAt Place Program). with_side e (λ x. plain_sent x next m) (with_side y plain_parked x)) goes ∙ sym seen)

  take_by : (e : EndId) (a : Awaits) → e.side < 2 → FitsWorld w p (wants.Take e a) → ByWant (wants.Take e a)
  take_by e a lt each = ap (plain_takes_head (play_for n ps) p e (place_awaited ps a) (plain_at w)) (waiting_is_next w e lt) ∙ by_head (next_for w.sessions e) refl
    where
      by_head : (o : Option Passed) → next_for w.sessions e ≡ o
          → plain_takes_head (play_for n ps) p e (place_awaited ps a) (plain_at w) (option_map (λ x. x.msg) o) ≡ option_map plain_at (option_map (changed_world w p) (option_map (change_by_taking ps g e a) o))
      by_head None h = refl
      by_head (Some x) h =
          let t = each x h in
          let at : after_place (plain_side w.requests w.sessions e).place Into x.msg ≡ Some t.next = ap (λ (y : PlainSide Place). after_place y.place Into x.msg) (side_below w.requests w.sessions e lt) ∙ t.after in
          ap (option_map (λ place. plain_names (place_awaited ps a) x.msg (plain_takes (play_for n ps) p e x.msg place (plain_at w)))) at
          ∙ ap Some (ap (λ (z : PlainAt Place Program). plain_names (place_awaited ps a) x.msg (with_side e (λ x. plain_taken x t.next) z)) (goes_seen (took_of g x.msg) (Some x.msg) (ap (λ (y : Program). took_of y x.msg) own))
          ∙ sym (taken_seen (took_of g x.msg) e a x.msg t.next lt t.after t.names))

  -- ---- a request

  module _ (place : Place) (to : ℕ) (few : length (w.requests p) < limit_of_requests)
      (unopened : (d : ℕ) → end_at w.sessions (record { sess = opened_number p (length (w.requests p)); side = d }) ≡ nowhere) where
    abbrev s : ℕ
    s = opened_number p (length (w.requests p))

    abbrev r : Request
    r = record { to = to; first = name_opened g.todo; second = None }

    near_seen : (d : EndId) → plain_side w.requests (touched p w.sessions (requested_end s, begins place)) d ≡ cond (is_same_end d (requested_end s)) (plain_opened place false) (plain_side w.requests w.sessions d)
    near_seen =
        sides_changed w.requests w.requests p w.sessions (requested_end s) (begins place) (λ x. plain_opened place false) (omega arith) (λ d other. refl)
        (ap (λ (b : Bool). side_at b (end_after p (begins place) (end_at w.sessions (requested_end s)))) (first_unoffered w.requests (requested_end s) refl)
        ∙ ap (λ (a : EndAt). side_at false (end_after p (begins place) a)) (unopened 0))

    far_seen : (d : EndId) → plain_side (after_opening p (requests r) w.requests) (touched p (touched p w.sessions (requested_end s, begins place)) (offered_end s, begins (dual_of place))) d
        ≡ cond (is_same_end d (offered_end s)) (plain_opened (dual_of place) true) (plain_side w.requests (touched p w.sessions (requested_end s, begins place)) d)
    far_seen =
        sides_changed w.requests (after_opening p (requests r) w.requests) p (touched p w.sessions (requested_end s, begins place)) (offered_end s) (begins (dual_of place)) (λ x. plain_opened (dual_of place) true) (omega arith)
        (requested_else w.requests p r refl few)
        (ap (λ (b : Bool). side_at b (end_after p (begins (dual_of place)) (end_at (touched p w.sessions (requested_end s, begins place)) (offered_end s)))) (requested_offered w.requests p r refl few)
        ∙ ap (λ (a : EndAt). side_at true (end_after p (begins (dual_of place)) a))
        (end_at-touched_other p w.sessions (requested_end s, begins place) (offered_end s) (and_right (s == s) false refl) ∙ unopened 1))

    request_seen : plain_at (changed_world w p (change_by_opening g s place to)) ≡ plain_requests (play_for n ps) p place to s (plain_at w)
    request_seen =
        let programs : (q : ℕ) → (plain_at (changed_world w p (change_by_opening g s place to))).programs q ≡ cond (q == p) (opened_of ((plain_at w).programs p) (requested_end s)) ((plain_at w).programs q) =
        λ q. programs_changed w.parties p g (opened_of g (requested_end s)) there q ∙ ap (λ (x : Program). cond (q == p) (opened_of x (requested_end s)) ((plain_at w).programs q)) (sym own) in
        let sides : (d : EndId) → (plain_at (changed_world w p (change_by_opening g s place to))).sides d ≡ (plain_requests (play_for n ps) p place to s (plain_at w)).sides d =
        λ d. far_seen d ∙ ap (λ (x : PlainSide Place). cond (is_same_end d (offered_end s)) (plain_opened (dual_of place) true) x) (near_seen d)
        ∙ near_or_far (is_same_end d (requested_end s)) (is_same_end d (offered_end s)) (plain_opened place false) (plain_opened (dual_of place) true) (plain_side w.requests w.sessions d) (two_sides d s) in
        let counts : (q : ℕ) → length (after_opening p (requests r) w.requests q) ≡ cond (q == p) (length (w.requests q) + 1) (length (w.requests q)) = requested_counts w.requests p r refl few in
        let offers : (from q : ℕ) → offered_from q from 0 (after_opening p (requests r) w.requests from)
        ≡ cond ((from == p) && (q == to)) (offered_from to p 0 (w.requests p) ++ s ∷ []) (offered_from q from 0 (w.requests from)) =
        λ from q. requested_offers w.requests p r refl few from q in
        λ i. record { programs = λ q. programs q i; sides = λ d. sides d i; requests = λ q. counts q i; offers = λ from q. offers from q i }

  request_by : (q to : ℕ) → FitsWorld w p (wants.Request q to) → ByWant (wants.Request q to)
  request_by q to fit =
      by_test (nat_lt (length (w.requests p)) limit_of_requests) (change_by_opening g (opened_number p (length (w.requests p))) (body_named ps q) to)
      (plain_requests (play_for n ps) p (body_named ps q) to (opened_number p (length (w.requests p))) (plain_at w))
      (λ t. let few : length (w.requests p) < limit_of_requests = ltb-true (length (w.requests p)) limit_of_requests t in
      sym (request_seen (body_named ps q) to few (λ d. fit d few)))

  -- ---- an accept

  module _ (place : Place) (from k : ℕ) (few : length (w.requests from) ≤ limit_of_requests) (first : first_offer p (w.requests from) ≡ Some k) where
    abbrev y : ℕ
    y = name_opened g.todo

    abbrev taken_up : EndId
    taken_up = offered_end (opened_number from k)

    it_seen : (d : EndId) → plain_side (after_opening p (accepts from k y) w.requests) (touched p w.sessions (taken_up, begins place)) d ≡ cond (is_same_end d taken_up) (plain_accepted (plain_side w.requests w.sessions d) place) (plain_side w.requests w.sessions d)
    it_seen =
        sides_changed w.requests (after_opening p (accepts from k y) w.requests) p w.sessions taken_up (begins place) (λ x. plain_accepted x place) (omega arith)
        (accept_else w.requests p from k y first few)
        (ap (λ (b : Bool). side_at b (end_after p (begins place) (end_at w.sessions taken_up))) (accept_offered_not w.requests p from k y first few))

    accept_seen : Some (plain_at (changed_world w p (change_by_accepting g from place k))) ≡ plain_accepts (play_for n ps) p place from (plain_at w) ((plain_at w).offers from p)
    accept_seen =
        let later : List ℕ = offered_from p from 0 (after_opening p (accepts from k y) w.requests from) in
        let programs : (q : ℕ) → (plain_at (changed_world w p (change_by_accepting g from place k))).programs q ≡ cond (q == p) (opened_of ((plain_at w).programs p) taken_up) ((plain_at w).programs q) =
        λ q. programs_changed w.parties p g (opened_of g taken_up) there q ∙ ap (λ (x : Program). cond (q == p) (opened_of x taken_up) ((plain_at w).programs q)) (sym own) in
        let counts : (q : ℕ) → length (after_opening p (accepts from k y) w.requests q) ≡ length (w.requests q) = accept_counts w.requests p from k y first few in
        let offers : (q t : ℕ) → offered_from t q 0 (after_opening p (accepts from k y) w.requests q) ≡ cond ((q == from) && (t == p)) later (offered_from t q 0 (w.requests q)) = λ q t. accept_offers w.requests p from k y first few q t in
        let made : plain_at (changed_world w p (change_by_accepting g from place k))
        ≡ with_side taken_up (λ x. plain_accepted x place) (with_opened from p later (with_program p (opened_of ((plain_at w).programs p) taken_up) (plain_at w))) =
        λ i. record { programs = λ q. programs q i; sides = λ d. it_seen d i; requests = λ q. counts q i; offers = λ q t. offers q t i } in
        ap Some made ∙ ap (plain_accepts (play_for n ps) p place from (plain_at w)) (sym (accept_first w.requests p from k y first few))

  accept_by : (q from : ℕ) → FitsWorld w p (wants.Accept q from) → ByWant (wants.Accept q from)
  accept_by q from few = by (first_offer p (w.requests from)) refl
    where
      by : (o : Option ℕ) → first_offer p (w.requests from) ≡ o → plain_accepts (play_for n ps) p (body_named ps q) from (plain_at w) ((plain_at w).offers from p)
          ≡ option_map plain_at (option_map (changed_world w p) (option_map (change_by_accepting g from (body_named ps q)) o))
      by None h = ap (plain_accepts (play_for n ps) p (body_named ps q) from (plain_at w)) (none_offered p from 0 (w.requests from) h)
      by (Some k) h = sym (accept_seen (body_named ps q) from k few h)

  by_want : (want : Want) → want_of g ≡ Some want → NamesSides want → FitsPlaces w.sessions want → FitsWorld w p want → ByWant want
  by_want wants.Ended it lt fit each = refl
  by_want wants.Local it lt fit each = local_by it
  by_want (wants.Send e m) it lt fit each = send_by e m it lt fit
  by_want (wants.Delegate e y) it lt fit each = delegate_by e y it lt.0 lt.1 fit
  by_want (wants.Take e a) it lt fit each = take_by e a lt each
  by_want (wants.Close e) it lt fit each = close_by e it
  by_want (wants.Request q to) it lt fit each = request_by q to each
  by_want (wants.Accept q from) it lt fit each = accept_by q from each

  -- ---- the act

  Here : Type 0
  Here = plain_act (play_for n ps) (plain_at w) p ≡ option_map plain_at (act_of w p)

  worn_by : (b : Bool) → nat_lt g.steps 10000 ≡ b → (o : Option Want) → want_of g ≡ o
      → plain_act_by (play_for n ps) (plain_at w) p (want_or_ended ps o) ≡ option_map plain_at (option_map (changed_world w p) (option_and_then (change_by w p g) o))
      → Here
  unfolding Here
  worn_by b steps o it h =
      ap (λ (x : Program). cond (not (nat_lt x.steps 10000)) None (plain_act_by (play_for n ps) (plain_at w) p (want_or_ended ps (want_of x)))) own
      ∙ ap (λ o. cond (not (nat_lt g.steps 10000)) None (plain_act_by (play_for n ps) (plain_at w) p (want_or_ended ps o))) it
      ∙ ap (λ c. cond (not c) None (plain_act_by (play_for n ps) (plain_at w) p (want_or_ended ps o))) steps
      ∙ by b
      ∙ sym (ap (λ q. option_map plain_at (option_map (changed_world w p) (option_and_then (change_of_program w p) q))) there
      ∙ ap (λ q. option_map plain_at (option_map (changed_world w p) (cond (nat_lt g.steps 10000) (option_and_then (change_by w p g) q) None))) it
      ∙ ap (λ c. option_map plain_at (option_map (changed_world w p) (cond c (option_and_then (change_by w p g) o) None))) steps)
    where
      by : (b : Bool) → cond (not b) None (plain_act_by (play_for n ps) (plain_at w) p (want_or_ended ps o)) ≡ option_map plain_at (option_map (changed_world w p) (cond b (option_and_then (change_by w p g) o) None))
      by true = h
      by false = refl

  pub act_seen : ((want : Want) → want_of g ≡ Some want → NamesSides want × FitsPlaces w.sessions want × FitsWorld w p want)
      → plain_act (play_for n ps) (plain_at w) p ≡ option_map plain_at (act_of w p)
  unfolding Here
  act_seen fit = by (want_of g) refl
    where
      by : (o : Option Want) → want_of g ≡ o → plain_act (play_for n ps) (plain_at w) p ≡ option_map plain_at (act_of w p)
      by None it = worn_by (nat_lt g.steps 10000) refl None it refl
      by (Some want) it = let f = fit want it in worn_by (nat_lt g.steps 10000) refl (Some want) it (by_want want it f.0 f.1 f.2)

-- the same of a party that isn't there
pub no_act_seen : (n : ℕ) (ps : List ProtocolAt) (w : World) (p : ℕ) → slice_get w.parties p ≡ None → plain_act (play_for n ps) (plain_at w) p ≡ option_map plain_at (act_of w p)
no_act_seen n ps w p none =
    ap (λ (o : Option Program). cond (not (nat_lt (unwrap_or o nobody).steps 10000)) None (plain_act_by (play_for n ps) (plain_at w) p (want_or_ended ps (want_of (unwrap_or o nobody))))) none
    ∙ sym (ap (λ q. option_map plain_at (option_map (changed_world w p) (option_and_then (change_of_program w p) q))) none)
