-- An act in the plain world with seats adds what the note of the core's act reports.
use Rattle.std.proofs.Common.{◌≡◌, ℕ, ◌+◌, ◌≤◌, nat_lt, not, Bool, true, false, cond, List, [], ◌∷◌, length, slice_get, unwrap_or, Option, Some, None, option_map, option_and_then, refl, ap, sym, ◌∙◌, subst, arith}
use Rattle.sj_base.specs.declared.EndId.{EndId}
use Rattle.sj_base.specs.declared.Msg.{Msg}
use Rattle.sj_lang.specs.Dual.{dual_of}
use Rattle.sj_lang.specs.FileAt.{FileAt, ProtocolAt, body_named}
use Rattle.sj_lang.specs.Place.{Place}
use Rattle.sj_semantics.specs.declared.Passed.{Passed}
use Rattle.sj_semantics.specs.declared.Want as step_of
use Rattle.sj_semantics.specs.declared.Want.TheVariants as wants
use Rattle.sj_semantics.specs.Ends.{end_at, next_for}
use Rattle.sj_semantics.specs.Program.{Program}
use Rattle.sj_semantics.specs.Requests.{first_offer, limit_of_requests, opened_number}
use Rattle.sj_semantics.specs.Uses as uses
use Rattle.sj_semantics.specs.Uses.{altered_list}
use Rattle.sj_semantics.specs.Wants.{want_of}
use Rattle.sj_semantics.specs.World.{Change, World, act_of, begun_by, change_by, change_by_accepting, session_message}
use Rattle.sj_semantics_laws.proofs.ChangeLemmas.{rests_on}
use Rattle.sj_semantics_laws.proofs.CommuteLemmas as acting
use Rattle.sj_headline_laws.proofs.TouchedLemmas.{side}
use Rattle.sj_rules.specs.Linked.{waiting_at}
use Rattle.sj_rules.specs.Log as notes
use Rattle.sj_rules.specs.Log.{NoteAt}
use Rattle.sj_rules.specs.Node as wanted
use Rattle.sj_rules.specs.Node.{Play, Want}
use Rattle.sj_rules.specs.Opened as rules
use Rattle.sj_rules.specs.Party.{IsDone, nobody, want_for, want_or_ended}
use Rattle.sj_rules.specs.Plain.{offered_from, plain_at}
use Rattle.sj_rules.specs.PlainSide.{PlainAt}
use Rattle.sj_rules.specs.Premises.{FitsStep, IsLawful}
use Rattle.sj_rules_laws.proofs.ActLemmas.{waiting_is_next}
use Rattle.sj_rules_laws.proofs.OfferSeenLemmas.{first_offered}
use Rattle.sj_rules_laws.proofs.ToldLemmas.{same_note}
use Rattle.sj_rules_laws.specs.TiedNotes.{note_of}
use Rattle.sj_seat_laws.specs.Calls.{SeatedAt}
use Rattle.sj_seat_laws.specs.Guards.{seated_want}
use Rattle.sj_seat_laws.specs.SeatedPlay.{Player, player_binds, seated_play, written}
use Rattle.sj_seat_laws.specs.SeatedWorld.{Doing, accepting, after_doing, beside, doing_by, doing_of, plain_doing, requesting, world_opened}
use Rattle.sj_seat_laws.specs.SeatsWorld.{SeatsWorld, all_beside, player_by, seat_of, seats_act, seats_act_by, seats_seen, with_seat}
use Rattle.sj_seat_laws.proofs.UsingLemmas.{worn_doing}
use Rattle.sj_seat_told_laws.specs.PlainNotes.{plain_note, step_note}
use Rattle.sj_seat_told_laws.proofs.AddLemmas.{Adds, Tells, accept_tells, delegate_tells, file_adds, request_tells, send_tells, shut_tells, take_tells, uses_add}
use Rattle.sj_seat_told_laws.proofs.RequestLemmas.{Says, opens_by}

-- the value of an option, where what it maps to is there
map_some : {X Y : Type 0} (f : X → Y) (o : Option X) (y : Y) → option_map f o ≡ Some y → (x : X) × (o ≡ Some x) × (f x ≡ y)
map_some f None y h = cc
map_some f (Some x) y h = let it : f x ≡ y = cc in (x, refl, it)

map_twice : {X Y Z : Type 0} (f : X → Y) (g : Y → Z) (o : Option X) → option_map g (option_map f o) ≡ option_map (λ x. g (f x)) o
map_twice f g None = refl
map_twice f g (Some x) = refl

module _ (file : FileAt) (t : SeatsWorld) (lawful : IsLawful IsDone (seated_play file) player_binds (length file.parties) (seats_seen t)) (few : (a : ℕ) → length (t.world.requests a) ≤ limit_of_requests) (q : ℕ) where
  abbrev w : World
  w = t.world

  abbrev plain : PlainAt Place Player
  plain = seats_seen t

  abbrev play : Play Place Player
  play = seated_play file

  abbrev Fits : Want Place → Type 0
  Fits want = FitsStep IsDone play player_binds plain q (plain.programs q) want

  -- what waits is what is next
  waits_next : (e : EndId) (place : Place) → Fits (wanted.takes e place) → waiting_at plain e 0 ≡ option_map (λ x. x.msg) (next_for w.sessions e)
  waits_next e place fit = waiting_is_next w e (lawful.proper q e fit.bound).0

  -- ---- a party that is played by code

  tells_so : (note other : NoteAt) (d other_do : Doing) → Some other ≡ Some note → Some other_do ≡ Some d → Tells q other other_do.uses → Tells q note d.uses
  tells_so note other d other_do noted made tells =
      let same : other_do ≡ d = cc in
      subst (λ (k : NoteAt). Tells q k d.uses) (same_note other note noted) (subst (λ (x : Doing). Tells q other x.uses) same tells)

  call_tells : (want : Want Place) → Fits want → (d : Doing) (note : NoteAt) → doing_by q w want ≡ Some d → plain_note plain q want ≡ Some note → Tells q note d.uses
  call_tells wanted.ended fit d note made noted = cc
  call_tells wanted.local fit d note made noted = cc
  call_tells (wanted.sends e m) fit d note made noted = tells_so note (notes.Sent e m) d (plain_doing None ((e, uses.sends m) ∷ [])) noted made (send_tells q e m)
  call_tells (wanted.delegates c e) fit d note made noted = by (nat_lt (end_at w.sessions e).hops 100) made
    where
      by : (b : Bool) → cond b (Some (plain_doing None ((e, uses.delegates) ∷ (c, uses.sends (session_message e q)) ∷ []))) None ≡ Some d → Tells q note d.uses
      by true k = tells_so note (notes.Sent c (session_message e q)) d (plain_doing None ((e, uses.delegates) ∷ (c, uses.sends (session_message e q)) ∷ [])) noted k (delegate_tells q c e)
      by false k = cc
  call_tells (wanted.takes e place) fit d note made noted = by (next_for w.sessions e) refl made
    where
      by : (o : Option Passed) → next_for w.sessions e ≡ o → option_map (λ (x : Passed). plain_doing (Some x.msg) ((e, uses.takes x.msg) ∷ begun_by place x.msg)) o ≡ Some d → Tells q note d.uses
      by None next k = cc
      by (Some x) next k =
          let head : Some (notes.Took e x.msg) ≡ Some note = sym (ap (option_map (λ (m : Msg). notes.Took e m)) (waits_next e place fit ∙ ap (option_map (λ (y : Passed). y.msg)) next)) ∙ noted in
          tells_so note (notes.Took e x.msg) d (plain_doing (Some x.msg) ((e, uses.takes x.msg) ∷ begun_by place x.msg)) head k (take_tells q e place x.msg)
  call_tells (wanted.closes e) fit d note made noted = tells_so note (notes.Shut e) d (plain_doing None []) noted made (shut_tells q e)
  call_tells (wanted.requests place to) fit d note made noted = by (nat_lt (length (w.requests q)) limit_of_requests) made
    where
      by : (b : Bool) → cond b (Some (requesting (opened_number q (length (w.requests q))) place to)) None ≡ Some d → Tells q note d.uses
      by true k =
          tells_so note (notes.Request (rules.opened_number q (plain.requests q)) to) d (requesting (opened_number q (length (w.requests q))) place to) noted k
          (request_tells q (rules.opened_number q (plain.requests q)) to (side (opened_number q (length (w.requests q))) 0) (side (opened_number q (length (w.requests q))) 1) place (dual_of place))
      by false k = cc
  call_tells (wanted.accepts place from) fit d note made noted = by (slice_get (plain.offers from q) 0) (first_offer q (w.requests from)) noted made
    where
      by : (s : Option ℕ) (o : Option ℕ) → option_map (λ sess. notes.Accept sess from) s ≡ Some note → option_map (accepting from place) o ≡ Some d → Tells q note d.uses
      by None o m k = cc
      by (Some sess) None m k = cc
      by (Some sess) (Some j) m k = tells_so note (notes.Accept sess from) d (accepting from place j) m k (accept_tells q sess from (side (opened_number from j) 1) place)

  -- and what it does to requests

  silent_so : (note other : NoteAt) (d other_do : Doing) → Some other ≡ Some note → Some other_do ≡ Some d → Says w q other_do.opening other → Says w q d.opening note
  silent_so note other d other_do noted made says =
      let same : other_do ≡ d = cc in
      subst (λ (k : NoteAt). Says w q d.opening k) (same_note other note noted) (subst (λ (x : Doing). Says w q x.opening other) same says)

  -- the first session that is offered
  first_is : (from j : ℕ) → first_offer q (w.requests from) ≡ Some j → slice_get (offered_from q from 0 (w.requests from)) 0 ≡ Some (opened_number from j)
  first_is from j first =
      let number : 0 + j ≡ j = omega arith in
      ap (λ l. slice_get l 0) (first_offered q from 0 (w.requests from) j 0 first) ∙ ap (λ (i : ℕ). Some (opened_number from i)) number

  call_says : (want : Want Place) (d : Doing) (note : NoteAt) → doing_by q w want ≡ Some d → plain_note plain q want ≡ Some note → Says w q d.opening note
  call_says wanted.ended d note made noted = cc
  call_says wanted.local d note made noted = cc
  call_says (wanted.sends e m) d note made noted = silent_so note (notes.Sent e m) d (plain_doing None ((e, uses.sends m) ∷ [])) noted made (λ a. refl, λ s. refl)
  call_says (wanted.delegates c e) d note made noted = by (nat_lt (end_at w.sessions e).hops 100) made
    where
      by : (b : Bool) → cond b (Some (plain_doing None ((e, uses.delegates) ∷ (c, uses.sends (session_message e q)) ∷ []))) None ≡ Some d → Says w q d.opening note
      by true k = silent_so note (notes.Sent c (session_message e q)) d (plain_doing None ((e, uses.delegates) ∷ (c, uses.sends (session_message e q)) ∷ [])) noted k (λ a. refl, λ s. refl)
      by false k = cc
  call_says (wanted.takes e place) d note made noted = by (waiting_at plain e 0) (next_for w.sessions e) noted made
    where
      by : (m : Option Msg) (o : Option Passed) → option_map (λ m. notes.Took e m) m ≡ Some note → option_map (λ (x : Passed). plain_doing (Some x.msg) ((e, uses.takes x.msg) ∷ begun_by place x.msg)) o ≡ Some d → Says w q d.opening note
      by None o h k = cc
      by (Some m) None h k = cc
      by (Some m) (Some x) h k = silent_so note (notes.Took e m) d (plain_doing (Some x.msg) ((e, uses.takes x.msg) ∷ begun_by place x.msg)) h k (λ a. refl, λ s. refl)
  call_says (wanted.closes e) d note made noted = silent_so note (notes.Shut e) d (plain_doing None []) noted made (λ a. refl, λ s. refl)
  call_says (wanted.requests place to) d note made noted = by (nat_lt (length (w.requests q)) limit_of_requests) made
    where
      by : (b : Bool) → cond b (Some (requesting (opened_number q (length (w.requests q))) place to)) None ≡ Some d → Says w q d.opening note
      by true k = silent_so note (notes.Request (rules.opened_number q (plain.requests q)) to) d (requesting (opened_number q (length (w.requests q))) place to) noted k (refl, refl)
      by false k = cc
  call_says (wanted.accepts place from) d note made noted = by (first_offer q (w.requests from)) refl made
    where
      by : (o : Option ℕ) → first_offer q (w.requests from) ≡ o → option_map (accepting from place) o ≡ Some d → Says w q d.opening note
      by None first k = cc
      by (Some j) first k =
          silent_so note (notes.Accept (opened_number from j) from) d (accepting from place j) (sym (ap (option_map (λ (i : ℕ). notes.Accept i from)) (first_is from j first)) ∙ noted) k (refl, first)

  seat_adds : (s : SeatedAt) → seat_of t.seats q ≡ Some s → (v : SeatsWorld) (note : NoteAt) → step_note play plain q ≡ Some note
      → option_map (λ d. with_seat q t.seats (after_doing q (beside s w) d)) (doing_of q (beside s w)) ≡ Some v → Adds w q note v.world
  seat_adds s at v note noted acted =
      let d = map_some (λ d. with_seat q t.seats (after_doing q (beside s w) d)) (doing_of q (beside s w)) v acted in
      let want : play.wants (plain.programs q) ≡ seated_want s = ap (λ o. play.wants (player_by o ((plain_at w).programs q))) at in
      let made = worn_doing q (beside s w) d.0 (not (nat_lt s.steps 10000)) d.1 in
      let of_it : plain_note plain q (seated_want s) ≡ Some note = sym (ap (plain_note plain q) want) ∙ noted in
      let tells = call_tells (seated_want s) (subst Fits want (lawful.steps q)) d.0 note made of_it in
      let after : World = world_opened q d.0.opening d.0.uses w in
      let opens = opens_by w q few after d.0.opening note (λ a. refl) (call_says (seated_want s) d.0 note made of_it) in
      subst (λ (x : SeatsWorld). Adds w q note x.world) d.2 (uses_add w q note d.0.opening d.0.uses tells opens)

  -- ---- a party that goes by the file

  step_noted : (ps : List ProtocolAt) (g : Program) (want : step_of.Want) → Fits (want_for ps want) → (c : Change) → change_by w q g want ≡ Some c → (note : NoteAt) → plain_note plain q (want_for ps want) ≡ Some note → note_of w q want ≡ Some note
  step_noted ps g wants.Ended fit c made note h = h
  step_noted ps g wants.Local fit c made note h = h
  step_noted ps g (wants.Send e m) fit c made note h = h
  step_noted ps g (wants.Delegate e y) fit c made note h = h
  step_noted ps g (wants.Take e a) fit c made note h =
      sym (map_twice (λ (x : Passed). x.msg) (λ (m : Msg). notes.Took e m) (next_for w.sessions e)) ∙ sym (ap (option_map (λ (m : Msg). notes.Took e m)) (waits_next e _ fit)) ∙ h
  step_noted ps g (wants.Close e) fit c made note h = h
  step_noted ps g (wants.Request p to) fit c made note h = h
  step_noted ps g (wants.Accept p from) fit c made note h =
      let k = map_some (change_by_accepting g from (body_named w.protocols p)) (first_offer q (w.requests from)) c made in
      ap (option_map (λ i. notes.Accept (opened_number from i) from)) k.1 ∙ sym (ap (option_map (λ (i : ℕ). notes.Accept i from)) (first_is from k.0 k.1)) ∙ h

  by_file : seat_of t.seats q ≡ None → (v : World) (note : NoteAt) → step_note play plain q ≡ Some note → act_of w q ≡ Some v → Adds w q note v
  by_file at v note noted acted =
      let a = acting.doing_of w q v acted in
      let r = rests_on w q a.program a.change a.made in
      let own : plain.programs q ≡ written a.program = ap (λ o. player_by o ((plain_at w).programs q)) at ∙ ap (λ (o : Option Program). written (unwrap_or o nobody)) a.there in
      let want : play.wants (plain.programs q) ≡ want_for file.protocols r.want = ap play.wants own ∙ ap (want_or_ended file.protocols) r.wants_it in
      let note_is = step_noted file.protocols a.program r.want (subst Fits want (lawful.steps q)) a.change r.by_it note (sym (ap (plain_note plain q) want) ∙ noted) in
      file_adds w v q note few acted (ap (option_and_then (note_of w q)) (ap (option_and_then want_of) a.there ∙ r.wants_it) ∙ note_is)

  -- ---- whoever it is

  adds_by : (o : Option SeatedAt) → seat_of t.seats q ≡ o → (v : SeatsWorld) (note : NoteAt) → step_note play plain q ≡ Some note → seats_act_by t q o ≡ Some v → Adds w q note v.world
  adds_by None at v note noted acted =
      let u = map_some (all_beside t.seats) (act_of w q) v acted in
      subst (λ (x : SeatsWorld). Adds w q note x.world) u.2 (by_file at u.0 note noted u.1)
  adds_by (Some s) at v note noted acted = seat_adds s at v note noted acted

  pub act_adds : (v : SeatsWorld) (note : NoteAt) → step_note play plain q ≡ Some note → seats_act t q ≡ Some v → Adds w q note v.world
  act_adds v note noted acted = adds_by (seat_of t.seats q) refl v note noted acted
