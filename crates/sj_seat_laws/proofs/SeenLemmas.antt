-- The act of a party beside others that are played by code, or its call, and what the rules see of
-- it, are one.
use Rattle.std.proofs.Common.{◌≡◌, ℕ, ◌+◌, ◌<◌, ◌≤◌, ◌==◌, nat_lt, Bool, true, false, not, ◌&&◌, cond, List, [], ◌∷◌, ◌++◌, length, Option, Some, None, option_map, refl, ap, sym, ◌∙◌, arith}
use Rattle.std.proofs.lemmas.Bool.{and_parts, eq-eqb, eqb-true, ltb-true}
use Rattle.sj_base.specs.declared.EndId.{EndId}
use Rattle.sj_base.specs.declared.Msg.{Msg}
use Rattle.sj_base.specs.declared.Msg.TheVariants as msgs
use Rattle.sj_lang.specs.declared.proto.Way.TheVariants.{Into, Out}
use Rattle.sj_lang.specs.After.{after_place}
use Rattle.sj_lang.specs.FileAt.{FileAt}
use Rattle.sj_lang.specs.ItemCount.{is_done}
use Rattle.sj_lang.specs.Place.{Place}
use Rattle.sj_semantics.specs.declared.Passed.{Passed}
use Rattle.sj_semantics.specs.Ends.{Session, end_at, next_for, other_end}
use Rattle.sj_semantics.specs.Program.{Program}
use Rattle.sj_semantics.specs.Requests.{Request, accepts, after_opening, first_offer, limit_of_requests, opened_number, requests}
use Rattle.sj_semantics.specs.Uses.{Use, after_uses, begins, delegates, sends, takes}
use Rattle.sj_semantics.specs.World.{World, begun_by, session_message}
use Rattle.sj_semantics_laws.proofs.EndLemmas.{touched}
use Rattle.sj_headline_laws.proofs.FittingLemmas.{next_has_a_place}
use Rattle.sj_headline_laws.proofs.TouchedLemmas.{side}
use Rattle.sj_headline_laws.proofs.UnnamedLemmas.{hands_places}
use Rattle.sj_rules.specs.Acts.{plain_accepted, plain_opened, plain_parked, plain_placed, plain_sent, plain_taken}
use Rattle.sj_rules.specs.Linked.{waiting_at}
use Rattle.sj_rules.specs.Moves.{plain_accepts, plain_act, plain_act_by, plain_delegates, plain_goes, plain_names, plain_requests, plain_sends, plain_takes, plain_takes_head, with_opened, with_program, with_side}
use Rattle.sj_rules.specs.Node.{Play, Want}
use Rattle.sj_rules.specs.Node as wanted
use Rattle.sj_rules.specs.Party.{play_of}
use Rattle.sj_rules.specs.Plain.{offered_from, plain_at, plain_side}
use Rattle.sj_rules.specs.PlainSide.{PlainAt, PlainSide}
use Rattle.sj_rules.specs.Record.{is_same_end, offered_end, requested_end}
use Rattle.sj_rules_laws.proofs.ActLemmas.{waiting_is_next}
use Rattle.sj_rules_laws.proofs.FitsStepLemmas.{next_at_side}
use Rattle.sj_rules_laws.proofs.OfferSeenLemmas.{accept_counts, accept_first, accept_offers, none_offered, requested_counts, requested_offers}
use Rattle.sj_rules_laws.proofs.ProperLemmas.{IsProperMessage, message_in}
use Rattle.sj_rules_laws.proofs.ProperRunLemmas.{size_of}
use Rattle.sj_rules_laws.proofs.SeenLemmas.{begins_seen, hands_seen, sends_seen, takes_seen}
use Rattle.sj_rules_laws.proofs.SideLemmas.{side_below}
use Rattle.sj_seat_laws.specs.Calls as calls
use Rattle.sj_seat_laws.specs.Calls.{Call, Ends, SeatedAt, place_held, place_opened}
use Rattle.sj_seat_laws.specs.Guards.{called, carried_next, may_carry, may_send, may_take, opened, want_of_accept, want_of_calls, want_of_close, want_of_delegate, want_of_request, want_of_send, want_of_take, where_allowed}
use Rattle.sj_seat_laws.specs.SeatedPlay.{Player, player_goes, player_opened, seated, seated_play, written}
use Rattle.sj_seat_laws.specs.SeatedWorld.{SeatedWorld, accepting, after_doing, doing_by, doing_of, no_name, plain_doing, requesting}
use Rattle.sj_seat_laws.proofs.CallLemmas.{carries_out, sends_on}
use Rattle.sj_seat_laws.proofs.OpeningSeenLemmas.{accepted_sides, requested_sides}
use Rattle.sj_seat_laws.proofs.SeatedLemmas.{IsSeat}

-- ---- the others

-- who plays a party beside the others, by its program; this one goes by the file
module _ (file : FileAt) (who : ℕ → Program → Player) (q : ℕ) (goes_by : (g : Program) → who q g ≡ written g) where
  abbrev play : Play Place Player
  play = seated_play file

  abbrev own : Play Place Program
  own = play_of file

  -- a plain world of the file with the others beside it
  abbrev pub lift : PlainAt Place Program → PlainAt Place Player
  lift x = record { programs = λ r. who r (x.programs r); sides = x.sides; requests = x.requests; offers = x.offers }

  here : (x : PlainAt Place Program) → (lift x).programs q ≡ written (x.programs q)
  here x = goes_by (x.programs q)

  one : (r : ℕ) (b : Bool) → (r == q) ≡ b → (g h : Program) → cond b (written h) (who r g) ≡ who r (cond b h g)
  one r true is g h = sym (ap (λ (n : ℕ). who n h) (eqb-true r q is) ∙ goes_by h)
  one r false is g h = refl

  program_lift : (x : PlainAt Place Program) (h : Program) → with_program q (written h) (lift x) ≡ lift (with_program q h x)
  program_lift x h =
      let programs : (r : ℕ) → cond (r == q) (written h) (who r (x.programs r)) ≡ who r (cond (r == q) h (x.programs r)) = λ r. one r (r == q) refl (x.programs r) h in
      λ i. record { programs = λ r. programs r i; sides = x.sides; requests = x.requests; offers = x.offers }

  goes_lift : (x : PlainAt Place Program) (taken : Option Msg) → plain_goes play q taken (lift x) ≡ lift (plain_goes own q taken x)
  goes_lift x taken = ap (λ g. with_program q (player_goes file g taken) (lift x)) (here x) ∙ program_lift x (own.goes (x.programs q) taken)

  names_lift : (named : Place) (m : Msg) (x : PlainAt Place Program) → plain_names named m (lift x) ≡ lift (plain_names named m x)
  names_lift named (msgs.Sess s d k) x = refl
  names_lift named (msgs.Int n) x = refl
  names_lift named (msgs.Bool b) x = refl
  names_lift named (msgs.Text n) x = refl
  names_lift named (msgs.Label n) x = refl
  names_lift named (msgs.More b) x = refl

  module _ (x : PlainAt Place Program) where
    sends_lift : (e : EndId) (m : Msg) (o : Option Place) → option_map (λ place. plain_sends play q e m place (lift x)) o ≡ option_map lift (option_map (λ place. plain_sends own q e m place x) o)
    sends_lift e m None = refl
    sends_lift e m (Some place) = ap (λ y. Some (with_side e (λ z. plain_sent z place m) y)) (goes_lift x None)

    delegates_lift : (c e : EndId) (b : Bool) (o : Option Place) → cond b (option_map (λ place. plain_delegates play q c e place (lift x)) o) None
        ≡ option_map lift (cond b (option_map (λ place. plain_delegates own q c e place x) o) None)
    delegates_lift c e false o = refl
    delegates_lift c e true None = refl
    delegates_lift c e true (Some place) = ap (λ y. Some (with_side c (λ z. plain_sent z place (session_message e q)) (with_side e plain_parked y))) (goes_lift x None)

    taking_lift : (e : EndId) (named : Place) (m : Msg) (o : Option Place) → option_map (λ place. plain_names named m (plain_takes play q e m place (lift x))) o
        ≡ option_map lift (option_map (λ place. plain_names named m (plain_takes own q e m place x)) o)
    taking_lift e named m None = refl
    taking_lift e named m (Some place) =
        ap (λ y. Some (plain_names named m (with_side e (λ z. plain_taken z place) y))) (goes_lift x (Some m)) ∙ ap Some (names_lift named m (plain_takes own q e m place x))

    takes_lift : (e : EndId) (named : Place) (o : Option Msg) → plain_takes_head play q e named (lift x) o ≡ option_map lift (plain_takes_head own q e named x o)
    takes_lift e named None = refl
    takes_lift e named (Some m) = taking_lift e named m (own.next (x.sides e).place Into m)

    abbrev counted : PlainAt Place Program
    counted = record x { requests = λ r. cond (r == q) (x.requests r + 1) (x.requests r) }

    requests_lift : (place : Place) (to sess : ℕ) (b : Bool) → cond b (Some (plain_requests play q place to sess (lift x))) None ≡ option_map lift (cond b (Some (plain_requests own q place to sess x)) None)
    requests_lift place to sess false = refl
    requests_lift place to sess true =
        ap (λ y. Some (with_side (requested_end sess) (λ z. plain_opened place false) (with_side (offered_end sess) (λ z. plain_opened (own.dual place) true)
        (with_opened q to (x.offers q to ++ sess ∷ []) y))))
        (ap (λ g. with_program q (play.opened g (requested_end sess)) (lift counted)) (here x) ∙ program_lift counted (own.opened (x.programs q) (requested_end sess)))

    accepts_lift : (place : Place) (from : ℕ) (l : List ℕ) → plain_accepts play q place from (lift x) l ≡ option_map lift (plain_accepts own q place from x l)
    accepts_lift place from [] = refl
    accepts_lift place from (sess ∷ later) =
        ap (λ y. Some (with_side (offered_end sess) (λ z. plain_accepted z place) (with_opened from q later y)))
        (ap (λ g. with_program q (play.opened g (offered_end sess)) (lift x)) (here x) ∙ program_lift x (own.opened (x.programs q) (offered_end sess)))

    by_lift : (want : Want Place) → plain_act_by play (lift x) q want ≡ option_map lift (plain_act_by own x q want)
    by_lift wanted.ended = refl
    by_lift wanted.local = ap Some (goes_lift x None)
    by_lift (wanted.sends e m) = sends_lift e m (own.next (x.sides e).place Out m)
    by_lift (wanted.delegates c e) = delegates_lift c e (nat_lt (x.sides e).hops 100) (own.next (x.sides c).place Out (session_message e q))
    by_lift (wanted.takes e named) = takes_lift e named (waiting_at x e 0)
    by_lift (wanted.closes e) = ap Some (goes_lift x None)
    by_lift (wanted.requests place to) = requests_lift place to (opened_number q (x.requests q)) (nat_lt (x.requests q) limit_of_requests)
    by_lift (wanted.accepts place from) = accepts_lift place from (x.offers from q)

    worn_lift : (b : Bool) → cond b None (plain_act_by play (lift x) q (own.wants (x.programs q))) ≡ option_map lift (cond b None (plain_act_by own x q (own.wants (x.programs q))))
    worn_lift true = refl
    worn_lift false = by_lift (own.wants (x.programs q))

    pub act_lift : plain_act play (lift x) q ≡ option_map lift (plain_act own x q)
    act_lift = ap (λ g. cond (play.is_worn g) None (plain_act_by play (lift x) q (play.wants g))) (here x) ∙ worn_lift (own.is_worn (x.programs q))

pub map_twice : {X Y Z : Type 0} (f : Y → Z) (g : X → Y) (h : X → Z) → ((x : X) → f (g x) ≡ h x) → (o : Option X) → option_map f (option_map g o) ≡ option_map h o
map_twice f g h same None = refl
map_twice f g h same (Some x) = ap Some (same x)

-- ---- the party that is played by code of its own

-- whoever plays the others
module _ (file : FileAt) (p : ℕ) (t : SeatedWorld) (s : IsSeat file p t) (base : ℕ → Player) where
  abbrev w : World
  w = t.world

  abbrev zs : List Session
  zs = w.sessions

  abbrev bs : Ends
  bs = t.seat.ends

  abbrev mine : Play Place Player
  mine = seated_play file

  abbrev pub seen_beside : SeatedWorld → PlainAt Place Player
  seen_beside u = record {
    programs = λ r. cond (r == p) (seated u.seat) (base r);
    sides = (plain_at u.world).sides;
    requests = (plain_at u.world).requests;
    offers = (plain_at u.world).offers;
  }

  abbrev plain : PlainAt Place Player
  plain = seen_beside t

  itself : plain.programs p ≡ seated t.seat
  itself = ap (λ (b : Bool). cond b (seated t.seat) (base p)) (eq-eqb p p refl)

  one_cond : (b : Bool) (u v x : Player) → cond b u (cond b v x) ≡ cond b u x
  one_cond true u v x = refl
  one_cond false u v x = refl

  -- what the rules see after a call
  used_seen : (taken : Option Msg) (us : List (EndId × Use)) (sides : EndId → PlainSide Place) → ((d : EndId) → plain_side w.requests (after_uses p us zs) d ≡ sides d)
      → record (plain_goes mine p taken plain) { sides = sides } ≡ seen_beside (after_doing p t (plain_doing taken us))
  used_seen taken us sides same =
      let programs : (r : ℕ) → cond (r == p) (player_goes file (plain.programs p) taken) (cond (r == p) (seated t.seat) (base r)) ≡ cond (r == p) (seated (called t.seat taken)) (base r) =
      λ r. one_cond (r == p) (player_goes file (plain.programs p) taken) (seated t.seat) (base r) ∙ ap (λ g. cond (r == p) (player_goes file g taken) (base r)) itself in
      λ i. record { programs = λ r. programs r i; sides = λ d. sym (same d) i; requests = (plain_at w).requests; offers = (plain_at w).offers }

  abbrev Seen : Want Place → Type 0
  Seen want = plain_act_by mine plain p want ≡ option_map (λ d. seen_beside (after_doing p t d)) (doing_by p w want)

  send_seen : (e : EndId) (m : Msg) (q : Place) → place_held bs e ≡ Some q → may_send q m ≡ true → Seen (wanted.sends e m)
  send_seen e m q there can =
      let on = sends_on zs (end_at zs e).place m (ap (λ (x : Place). may_send x m) (s.places e q there) ∙ can) in
      let lt = (s.known e q there).0 in
      ap (option_map (λ place. plain_sends mine p e m place plain)) (next_at_side w.requests zs e Out m on.next lt on.after)
      ∙ ap Some (used_seen None ((e, sends m) ∷ []) _ (sends_seen w.requests p zs e m on.next lt on.after))

  delegate_seen : (c e : EndId) (q own : Place) → place_held bs c ≡ Some q → place_held bs e ≡ Some own → may_carry q own ≡ true → Seen (wanted.delegates c e)
  delegate_seen c e q own there own_there can =
      let m : Msg = session_message e p in
      let o = carries_out (end_at zs c).place own (ap (λ (x : Place). may_carry x own) (s.places c q there) ∙ can) in
      let at : after_place (end_at zs c).place Out m ≡ Some o.next = ap (λ (x : Place). after_place x Out m) o.is in
      let lt = (s.known c q there).0 in
      let low = (s.known e own own_there).0 in
      let mid : List Session = touched p zs (e, delegates) in
      let mid_at : after_place (end_at mid c).place Out m ≡ Some o.next = ap (λ (x : Place). after_place x Out m) (hands_places p zs e c) ∙ at in
      ap (λ (x : PlainSide Place). cond (nat_lt x.hops 100) (option_map (λ place. plain_delegates mine p c e place plain) (mine.next (plain.sides c).place Out m)) None) (side_below w.requests zs e low)
      ∙ ap (λ o. cond (nat_lt (end_at zs e).hops 100) (option_map (λ place. plain_delegates mine p c e place plain) o) None) (next_at_side w.requests zs c Out m o.next lt at)
      ∙ by (nat_lt (end_at zs e).hops 100) (plain_delegates mine p c e o.next plain) (used_seen None ((e, delegates) ∷ (c, sends m) ∷ []) _ (λ d.
      sends_seen w.requests p mid c m o.next lt mid_at d
      ∙ ap (λ (x : PlainSide Place). cond (is_same_end d c) (plain_sent x o.next m) x) (hands_seen w.requests p zs e low d)))
    where
      by : (b : Bool) (x : PlainAt Place Player) → x ≡ seen_beside (after_doing p t (plain_doing None ((e, delegates) ∷ (c, sends (session_message e p)) ∷ [])))
          → cond b (Some x) None ≡ option_map (λ d. seen_beside (after_doing p t d)) (cond b (Some (plain_doing None ((e, delegates) ∷ (c, sends (session_message e p)) ∷ []))) None)
      by true x h = ap Some h
      by false x h = refl

  head_seen : (e : EndId) (named : Place) (next : Place) (m : Msg) → e.side < 2 → after_place (end_at zs e).place Into m ≡ Some next → IsProperMessage (size_of file) m
      → plain_names named m (plain_takes mine p e m next plain) ≡ seen_beside (after_doing p t (plain_doing (Some m) ((e, takes m) ∷ begun_by named m)))
  head_seen e named next (msgs.Sess sess d k) lt at ok =
      let m : Msg = msgs.Sess sess d k in
      used_seen (Some m) ((e, takes m) ∷ (side sess d, begins named) ∷ []) _ (λ f.
      begins_seen w.requests p (touched p zs (e, takes m)) (side sess d) named ok.1 f
      ∙ ap (λ (x : PlainSide Place). cond (is_same_end f (side sess d)) (plain_placed x named) x) (takes_seen w.requests p zs e m next lt at f))
  head_seen e named next (msgs.Int i) lt at ok = used_seen (Some (msgs.Int i)) ((e, takes (msgs.Int i)) ∷ []) _ (takes_seen w.requests p zs e (msgs.Int i) next lt at)
  head_seen e named next (msgs.Bool i) lt at ok = used_seen (Some (msgs.Bool i)) ((e, takes (msgs.Bool i)) ∷ []) _ (takes_seen w.requests p zs e (msgs.Bool i) next lt at)
  head_seen e named next (msgs.Text i) lt at ok = used_seen (Some (msgs.Text i)) ((e, takes (msgs.Text i)) ∷ []) _ (takes_seen w.requests p zs e (msgs.Text i) next lt at)
  head_seen e named next (msgs.Label i) lt at ok = used_seen (Some (msgs.Label i)) ((e, takes (msgs.Label i)) ∷ []) _ (takes_seen w.requests p zs e (msgs.Label i) next lt at)
  head_seen e named next (msgs.More i) lt at ok = used_seen (Some (msgs.More i)) ((e, takes (msgs.More i)) ∷ []) _ (takes_seen w.requests p zs e (msgs.More i) next lt at)

  take_seen : (e : EndId) (q : Place) → place_held bs e ≡ Some q → Seen (wanted.takes e (carried_next q))
  take_seen e q there = ap (plain_takes_head mine p e (carried_next q) plain) (waiting_is_next w e (s.known e q there).0) ∙ by (next_for zs e) refl
    where
      by : (o : Option Passed) → next_for zs e ≡ o → plain_takes_head mine p e (carried_next q) plain (option_map (λ x. x.msg) o)
          ≡ option_map (λ d. seen_beside (after_doing p t d)) (option_map (λ (x : Passed). plain_doing (Some x.msg) ((e, takes x.msg) ∷ begun_by (carried_next q) x.msg)) o)
      by None next = refl
      by (Some x) next =
          let lt = (s.known e q there).0 in
          let has = next_has_a_place file w s.guarded.sound e x next in
          let ok = message_in (size_of file) (end_at zs (other_end e)).sent (length (end_at zs e).takers) x (s.proper.messages (other_end e)) next in
          ap (option_map (λ place. plain_names (carried_next q) x.msg (plain_takes mine p e x.msg place plain))) (next_at_side w.requests zs e Into x.msg has.0 lt has.1)
          ∙ ap Some (head_seen e (carried_next q) has.0 x.msg lt has.1 ok)

  close_seen : (e : EndId) → Seen (wanted.closes e)
  close_seen e = ap Some (used_seen None [] plain.sides (λ d. refl))

  -- what the rules see after a session is opened with that end
  program_seen : (e : EndId) (r : ℕ) → cond (r == p) (player_opened file (plain.programs p) e) (cond (r == p) (seated t.seat) (base r)) ≡ cond (r == p) (seated (opened t.seat e)) (base r)
  program_seen e r = one_cond (r == p) (player_opened file (plain.programs p) e) (seated t.seat) (base r) ∙ ap (λ g. cond (r == p) (player_opened file g e) (base r)) itself

  request_seen : (place : Place) (to : ℕ) → length (w.requests p) < limit_of_requests
      → plain_requests mine p place to (opened_number p (length (w.requests p))) plain ≡ seen_beside (after_doing p t (requesting (opened_number p (length (w.requests p))) place to))
  request_seen place to few =
      let num : ℕ = opened_number p (length (w.requests p)) in
      let r : Request = record { to = to; first = no_name; second = None } in
      let programs = program_seen (requested_end num) in
      let sides = requested_sides w p place to few (λ d. s.guarded.sound.unopened p (length (w.requests p)) d (omega arith) few) in
      let counts = requested_counts w.requests p r refl few in
      let offers : (from q : ℕ) → offered_from q from 0 (after_opening p (requests r) w.requests from) ≡ cond ((from == p) && (q == to)) (offered_from to p 0 (w.requests p) ++ num ∷ []) (offered_from q from 0 (w.requests from)) =
      λ from q. requested_offers w.requests p r refl few from q in
      λ i. record { programs = λ q. programs q i; sides = λ d. sym (sides d) i; requests = λ q. sym (counts q) i; offers = λ from q. sym (offers from q) i }

  request_by : (q : ℕ) (o : Option Place) → Seen (want_of_request q o)
  request_by q None = refl
  request_by q (Some place) = by (nat_lt (length (w.requests p)) limit_of_requests) refl
    where
      by : (b : Bool) → nat_lt (length (w.requests p)) limit_of_requests ≡ b → cond b (Some (plain_requests mine p place q (opened_number p (length (w.requests p))) plain)) None
          ≡ option_map (λ d. seen_beside (after_doing p t d)) (cond b (Some (requesting (opened_number p (length (w.requests p))) place q)) None)
      by true few = ap Some (request_seen place q (ltb-true (length (w.requests p)) limit_of_requests few))
      by false few = refl

  accept_seen : (place : Place) (from k : ℕ) → first_offer p (w.requests from) ≡ Some k → Some (seen_beside (after_doing p t (accepting from place k))) ≡ plain_accepts mine p place from plain (plain.offers from p)
  accept_seen place from k first =
      let few : length (w.requests from) ≤ limit_of_requests = s.guarded.sound.unshared.few from in
      let y : EndId = offered_end (opened_number from k) in
      let later : List ℕ = offered_from p from 0 (after_opening p (accepts from k no_name) w.requests from) in
      let programs = program_seen y in
      let sides = accepted_sides w p place from k few first in
      let counts = accept_counts w.requests p from k no_name first few in
      let offers : (q r : ℕ) → offered_from r q 0 (after_opening p (accepts from k no_name) w.requests q) ≡ cond ((q == from) && (r == p)) later (offered_from r q 0 (w.requests q)) = λ q r. accept_offers w.requests p from k no_name first few q r in
      let made : seen_beside (after_doing p t (accepting from place k)) ≡ with_side y (λ x. plain_accepted x place) (with_opened from p later (with_program p (mine.opened (plain.programs p) y) plain)) =
      λ i. record { programs = λ q. sym (programs q) i; sides = λ d. sides d i; requests = λ q. counts q i; offers = λ q r. offers q r i } in
      ap Some made ∙ ap (plain_accepts mine p place from plain) (sym (accept_first w.requests p from k no_name first few))

  accept_by : (q : ℕ) (o : Option Place) → Seen (want_of_accept q o)
  accept_by q None = refl
  accept_by q (Some place) = by (first_offer p (w.requests q)) refl
    where
      by : (o : Option ℕ) → first_offer p (w.requests q) ≡ o → plain_accepts mine p place q plain (plain.offers q p) ≡ option_map (λ d. seen_beside (after_doing p t d)) (option_map (accepting q place) o)
      by None h = ap (plain_accepts mine p place q plain) (none_offered p q 0 (w.requests q) h)
      by (Some k) h = sym (accept_seen place q k h)

  send_by : (e : EndId) (m : Msg) (o : Option Place) → place_held bs e ≡ o → Seen (want_of_send e m o)
  send_by e m None there = refl
  send_by e m (Some q) there = by (may_send q m) refl
    where
      by : (b : Bool) → may_send q m ≡ b → Seen (where_allowed b (wanted.sends e m))
      by true can = send_seen e m q there can
      by false can = refl

  delegate_by : (c e : EndId) (o r : Option Place) → place_held bs c ≡ o → place_held bs e ≡ r → Seen (want_of_delegate c e o r)
  delegate_by c e None r there own_there = refl
  delegate_by c e (Some q) None there own_there = refl
  delegate_by c e (Some q) (Some r) there own_there = by (not (is_same_end c e) && may_carry q r) refl
    where
      by : (b : Bool) → (not (is_same_end c e) && may_carry q r) ≡ b → Seen (where_allowed b (wanted.delegates c e))
      by true can = delegate_seen c e q r there own_there (and_parts (not (is_same_end c e)) (may_carry q r) can).1
      by false can = refl

  take_by : (e : EndId) (o : Option Place) → place_held bs e ≡ o → Seen (want_of_take e o)
  take_by e None there = refl
  take_by e (Some q) there = by (may_take q)
    where
      by : (b : Bool) → Seen (where_allowed b (wanted.takes e (carried_next q)))
      by true = take_seen e q there
      by false = refl

  close_by : (e : EndId) (o : Option Place) → Seen (want_of_close e o)
  close_by e None = refl
  close_by e (Some q) = by (is_done q)
    where
      by : (b : Bool) → Seen (where_allowed b (wanted.closes e))
      by true = close_seen e
      by false = refl

  calls_seen : (cs : List Call) → Seen (want_of_calls t.seat.may bs cs)
  calls_seen [] = refl
  calls_seen (calls.sends e m ∷ cs) = send_by e m (place_held bs e) refl
  calls_seen (calls.delegates c e ∷ cs) = delegate_by c e (place_held bs c) (place_held bs e) refl refl
  calls_seen (calls.takes e ∷ cs) = take_by e (place_held bs e) refl
  calls_seen (calls.closes e ∷ cs) = close_by e (place_held bs e)
  calls_seen (calls.requests q n ∷ cs) = request_by q (place_opened t.seat.may.requests q n)
  calls_seen (calls.accepts q n ∷ cs) = accept_by q (place_opened t.seat.may.accepts q n)

  worn_seen : (b : Bool) → cond b None (plain_act_by mine plain p (want_of_calls t.seat.may bs t.seat.calls))
      ≡ option_map (λ d. seen_beside (after_doing p t d)) (cond b None (doing_by p w (want_of_calls t.seat.may bs t.seat.calls)))
  worn_seen true = refl
  worn_seen false = calls_seen t.seat.calls

  pub own_seen : plain_act mine plain p ≡ option_map (λ d. seen_beside (after_doing p t d)) (doing_of p t)
  own_seen = ap (λ g. cond (mine.is_worn g) None (plain_act_by mine plain p (mine.wants g))) itself ∙ worn_seen (not (nat_lt t.seat.steps 10000))
