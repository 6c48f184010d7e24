-- Each call of a party that is played by code of its own keeps its world sound, beside what others
-- hold.
use Rattle.std.proofs.Common.{◌≡◌, ◌≢◌, ℕ, ◌+◌, ◌*◌, ◌<◌, ◌≤◌, nat_lt, Bool, true, false, not, ◌&&◌, cond, List, [], ◌∷◌, ◌++◌, length, slice_get, Option, Some, None, option_map, sum_by, refl, ap, sym, ◌∙◌, subst, arith, inr}
use Rattle.std.proofs.lemmas.Bool.{and_parts, false_from_ne_true, both_ways, ltb-true}
use Rattle.std.proofs.lemmas.Option.{slice_get_within}
use Rattle.sj_base.specs.declared.EndId.{EndId}
use Rattle.sj_base.specs.declared.Msg.{Msg}
use Rattle.sj_base.specs.declared.Msg.TheVariants as msgs
use Rattle.sj_lang.specs.declared.proto.Way.{Way}
use Rattle.sj_lang.specs.declared.proto.Way.TheVariants.{Into, Out}
use Rattle.sj_lang.specs.After.{after_place}
use Rattle.sj_lang.specs.Dual.{dual_of}
use Rattle.sj_lang.specs.FileAt.{FileAt, body_named, number_of_name, party_names}
use Rattle.sj_lang.specs.ItemCount.{is_done}
use Rattle.sj_lang.specs.Meet.{StandsFor}
use Rattle.sj_lang.specs.Place.{Place, done, message, session}
use Rattle.sj_semantics.specs.declared.Passed.{Passed}
use Rattle.sj_semantics.specs.Balanced.{FitsNext}
use Rattle.sj_semantics.specs.Ends.{EndAt, Session, end_at, is_end, next_for, other_end}
use Rattle.sj_semantics.specs.Program.{Program}
use Rattle.sj_semantics.specs.Requests.{first_offer, limit_of_requests, opened_number}
use Rattle.sj_semantics.specs.Uses.{Use, after_uses, begins, delegates, end_after, place_behind, sends, takes}
use Rattle.sj_semantics.specs.World.{World, begun_by, session_message}
use Rattle.sj_semantics_laws.specs.Unshared.{IsToCome, names_end}
use Rattle.sj_semantics_laws.proofs.BoundLemmas.{is_end-self, is_end_sym, is_end_sym_false}
use Rattle.sj_semantics_laws.proofs.EndLemmas.{IsUnusedBy, end_at-after_uses_other, end_at-touched_other, end_at-touched_same, touched}
use Rattle.sj_headline_laws.proofs.FittingLemmas.{next_has_a_place}
use Rattle.sj_semantics_laws.proofs.ToComeLemmas.{below_by_get, first_is_offer}
use Rattle.sj_headline_laws.proofs.TouchedLemmas.{side, touched_here}
use Rattle.sj_headline_laws.proofs.UnnamedLemmas.{hands_places, named_carried}
use Rattle.sj_headline_laws.proofs.WorldLemmas.{Asks, Takes}
use Rattle.sj_rules.specs.Binding.{IsSession}
use Rattle.sj_rules.specs.Node as wanted
use Rattle.sj_rules.specs.Record.{is_same_end}
use Rattle.sj_rules_laws.proofs.CountLemmas.{no_hands, no_takes, sent_in, steps_of, touched_hops, touched_sent}
use Rattle.sj_rules_laws.proofs.ProperLemmas.{AreProperMessages, IsProper, IsProperMessage, message_in, no_end_proper, touched_proper}
use Rattle.sj_rules_laws.proofs.ProperRunLemmas.{size_of}
use Rattle.sj_rules_laws.proofs.SideLemmas.{apart_ends, same_end_is, same_end_self}
use Rattle.sj_seat_laws.specs.Calls as calls
use Rattle.sj_seat_laws.specs.Calls.{Call, Ends, Openings, SeatedAt, moved, place_held, place_opened, without_end}
use Rattle.sj_seat_laws.specs.Guards.{carried_next, ends_taken, may_carry, may_send, may_take, want_of_accept, want_of_calls, want_of_close, want_of_delegate, want_of_request, want_of_send, want_of_take, where_allowed, with_carried, with_opened}
use Rattle.sj_seat_laws.specs.SeatedStart.{no_program}
use Rattle.sj_seat_laws.specs.SeatedWorld.{Doing, SeatedWorld, accepting, after_doing, doing_by, doing_of, plain_doing, requesting, seat_by, world_after, world_opened}
use Rattle.sj_seat_laws.proofs.CallLemmas.{carries_out, done_by, names_nothing, sends_on, taken_kind}
use Rattle.sj_seat_laws.proofs.GuardLemmas.{Guarded}
use Rattle.sj_seat_laws.proofs.HeldLemmas.{first_of, held_by_place, holds, holds-moved, holds-push, holds-without_other, place-moved, place-moved_other, place-moved_same, place-push, place-without_other}
use Rattle.sj_seat_laws.proofs.LocatedLemmas.{AllFound, close_finds, delegate_finds, end_finds, send_finds, value_finds}
use Rattle.sj_seat_laws.proofs.AcceptingLemmas.{accept_finds, accept_unused, guards_accept}
use Rattle.sj_seat_laws.proofs.PassLemmas.{guards_delegate, guards_take_end}
use Rattle.sj_seat_laws.proofs.RequestingLemmas.{first_is, guards_request, request_finds, request_unused}
use Rattle.sj_seat_laws.proofs.UseLemmas.{come_apart, guards_close, guards_send, guards_take, uncarried}

-- the ends that are held are at their places
abbrev pub ArePlaced : List Session → Ends → Type 0
ArePlaced zs bs = (e : EndId) (q : Place) → place_held bs e ≡ Some q → (end_at zs e).place ≡ q

-- they are ends of the file's sessions
abbrev pub AreKnown : FileAt → Ends → Type 0
AreKnown file bs = (e : EndId) (q : Place) → place_held bs e ≡ Some q → (e.side < 2) × IsSession (length file.parties) (length file.connects) e.sess

-- the session is one that R says, of the protocol and the party's name, and that party is there
pub record OpensAs (file : FileAt) (R : ℕ → ℕ → Type 0) (q n : ℕ) (place : Place) : Type 0 where
  pub body : place ≡ body_named file.protocols n
  pub there : q < length file.parties
  pub name : ℕ
  pub so : R n name
  pub to_it : number_of_name (party_names file.parties) name ≡ q

-- the party may open what the file's party of that number opens
pub record MayOpenSo (file : FileAt) (p : ℕ) (os : Openings) : Type 0 where
  pub requests : (q n : ℕ) (place : Place) → place_opened os.requests q n ≡ Some place → OpensAs file (Asks file p) q n place
  pub accepts : (q n : ℕ) (place : Place) → place_opened os.accepts q n ≡ Some place → OpensAs file (Takes file p) q n place

-- what holds of the party and its world
pub record IsSeat (file : FileAt) (p : ℕ) (t : SeatedWorld) : Type 0 where
  pub guarded : Guarded file t.world t.seat.ends
  pub idle : slice_get t.world.parties p ≡ Some (no_program file)
  pub places : ArePlaced t.world.sessions t.seat.ends
  pub known : AreKnown file t.seat.ends
  pub proper : IsProper (size_of file) t.world
  pub hops : (e : EndId) → (end_at t.world.sessions e).hops ≤ 100
  pub steps : (q : ℕ) (g : Program) → slice_get t.world.parties q ≡ Some g → g.steps ≤ 10000
  pub calls : t.seat.steps ≤ 10000
  pub may : MayOpenSo file p t.seat.may

-- and of each world of a run after so many acts, where ends are held elsewhere too, and so many calls
-- were made there
pub record IsSeatedBeside (others : EndId → ℕ) (more : ℕ) (file : FileAt) (p n : ℕ) (t : SeatedWorld) : Type 0 where
  pub seat : IsSeat file p t
  pub found : AllFound t.world (λ e. holds e t.seat.ends + others e)
  pub messages : sum_by sent_in t.world.sessions ≤ sum_by steps_of t.world.parties + (t.seat.steps + more)
  pub count : n ≡ sum_by steps_of t.world.parties + (t.seat.steps + more)

-- ---- places after a use

place_of_some : (o : Option Place) (q r : Place) → o ≡ Some q → o ≡ Some r → q ≡ r
place_of_some o q r h k = let both : Some q ≡ Some r = sym h ∙ k in cc

-- what is held after a message was held before
held_before : (bs : Ends) (e : EndId) (way : Way) (m : Msg) (f : EndId) (r : Place) → place_held (moved bs e way m) f ≡ Some r → (q : Place) × (place_held bs f ≡ Some q)
held_before bs e way m f r h = by (place_held bs f) refl (sym (place-moved bs e way m f) ∙ h)
  where
    by : (o : Option Place) → place_held bs f ≡ o → option_map (λ q. cond (is_same_end f e) (place_behind q way m) q) o ≡ Some r → (q : Place) × (place_held bs f ≡ Some q)
    by None k l = cc
    by (Some q) k l = (q, k)

moved_known : (file : FileAt) (bs : Ends) (e : EndId) (way : Way) (m : Msg) → AreKnown file bs → AreKnown file (moved bs e way m)
moved_known file bs e way m all f r h = let b = held_before bs e way m f r h in all f b.0 b.1

moved_placed : (file : FileAt) (p : ℕ) (zs : List Session) (bs : Ends) (e : EndId) (q : Place) (u : Use) (way : Way) (m : Msg) → AreKnown file bs → ArePlaced zs bs → place_held bs e ≡ Some q
    → (end_after p u (end_at zs e)).place ≡ place_behind (end_at zs e).place way m → ArePlaced (touched p zs (e, u)) (moved bs e way m)
moved_placed file p zs bs e q u way m known placed there behind f r h = by (is_same_end f e) refl
  where
    by : (b : Bool) → is_same_end f e ≡ b → (end_at (touched p zs (e, u)) f).place ≡ r
    by true same =
        let it : f ≡ e = same_end_is f e same in
        let is : place_behind q way m ≡ r = place_of_some (place_held (moved bs e way m) e) (place_behind q way m) r (place-moved_same bs e way m q there) (ap (place_held (moved bs e way m)) (sym it) ∙ h) in
        ap (λ (d : EndId). (end_at (touched p zs (e, u)) d).place) it
        ∙ ap (λ (x : EndAt). x.place) (end_at-touched_same p zs (e, u) e (is_end-self e)) ∙ behind
        ∙ ap (λ (x : Place). place_behind x way m) (placed e q there) ∙ is
    by false other =
        let k : place_held bs f ≡ Some r = sym (place-moved_other bs e way m f other) ∙ h in
        ap (λ (x : EndAt). x.place) (end_at-touched_other p zs (e, u) f (apart_ends f e (known f r k).0 (known e q there).0 other)) ∙ placed f r k

-- ---- a call

module _ (others : EndId → ℕ) (more : ℕ) (file : FileAt) (p n : ℕ) (t : SeatedWorld) (s : IsSeatedBeside others more file p n t) (few : t.seat.steps < 10000) where
  abbrev Next : SeatedWorld → Type 0
  Next = IsSeatedBeside others more file p (n + 1)

  abbrev w : World
  w = t.world

  abbrev zs : List Session
  zs = w.sessions

  abbrev bs : Ends
  bs = t.seat.ends

  -- the world after these uses, with these ends and calls
  abbrev behind : List (EndId × Use) → Ends → List Call → SeatedWorld
  behind us es cs = record { world = world_after p us w; seat = record { ends = es; steps = t.seat.steps + 1; calls = cs; may = t.seat.may } }

  below : p < length file.parties
  below = omega (arith, slice_get_within w.parties p (no_program file) s.seat.idle, s.seat.proper.many)

  keeps : (us : List (EndId × Use)) (es : Ends) (cs : List Call) → Guarded file (world_after p us w) es → ArePlaced (after_uses p us zs) es → AreKnown file es → AllFound (world_after p us w) (λ e. holds e es + others e)
      → ((e : EndId) → AreProperMessages (size_of file) (end_at (after_uses p us zs) e).sent) → ((e : EndId) → (end_at (after_uses p us zs) e).hops ≤ 100)
      → sum_by sent_in (after_uses p us zs) ≤ sum_by sent_in zs + 1 → Next (behind us es cs)
  keeps us es cs guarded placed known found messages hops sent = record {
    seat = record {
      guarded = guarded;
      idle = s.seat.idle;
      places = placed;
      known = known;
      proper = record { many = s.seat.proper.many; names = s.seat.proper.names; messages = messages };
      hops = hops;
      steps = s.seat.steps;
      calls = omega (arith, few);
      may = s.seat.may;
    };
    found = found;
    messages = omega (arith, sent, s.messages);
    count = omega (arith, s.count);
  }

  -- ---- a message is sent

  send_keeps : (e : EndId) (m : Msg) (q : Place) (cs : List Call) → place_held bs e ≡ Some q → may_send q m ≡ true → Next (behind ((e, sends m) ∷ []) (moved bs e Out m) cs)
  send_keeps e m q cs there can =
      let on = sends_on zs (end_at zs e).place m (ap (λ (x : Place). may_send x m) (s.seat.places e q there) ∙ can) in
      keeps ((e, sends m) ∷ []) (moved bs e Out m) cs
      (guards_send file p w bs s.seat.guarded e m on.next (held_by_place bs e q there) on.after on.fits (λ f. names_nothing m f on.none))
      (moved_placed file p zs bs e q (sends m) Out m s.seat.known s.seat.places there refl)
      (moved_known file bs e Out m s.seat.known)
      (send_finds p w (λ f. holds f bs + others f) (λ f. holds f (moved bs e Out m) + others f) s.found e m (λ f. omega (arith, holds-moved f bs e Out m)))
      (touched_proper (size_of file) p zs e (sends m) (no_end_proper (size_of file) m on.none) s.seat.proper.messages)
      (touched_hops p zs e (sends m) (no_hands m) s.seat.hops)
      (touched_sent p zs e (sends m))

  -- ---- an end is delegated

  same_behind : (x kind next : Place) (y : EndId) (a b : ℕ) → x ≡ message Out (session kind) next → place_behind x Out (session_message y a) ≡ place_behind x Out (session_message y b)
  same_behind x kind next y a b is = ap (λ (z : Place). place_behind z Out (session_message y a)) is ∙ sym (ap (λ (z : Place). place_behind z Out (session_message y b)) is)

  delegate_keeps : (e y : EndId) (q own : Place) (cs : List Call) → place_held bs e ≡ Some q → place_held bs y ≡ Some own → is_same_end e y ≡ false → may_carry q own ≡ true → (end_at zs y).hops < 100
      → Next (behind ((y, delegates) ∷ (e, sends (session_message y p)) ∷ []) (without_end (moved bs e Out (session_message y 0)) y) cs)
  delegate_keeps e y q own cs there own_there apart can fresh =
      let m : Msg = session_message y p in
      let es : Ends = moved bs e Out (session_message y 0) in
      let mid : List Session = touched p zs (y, delegates) in
      let low = s.seat.known y own own_there in
      let turned : is_same_end y e ≡ false = false_from_ne_true (is_same_end y e) (λ b.
      both_ways (is_same_end e y) apart (subst (λ (x : EndId). is_same_end e x ≡ true) (sym (same_end_is y e b)) (same_end_self e))) in
      let other : is_end e y ≡ false = apart_ends y e low.0 (s.seat.known e q there).0 turned in
      let c = carries_out (end_at zs e).place (end_at zs y).place (ap (λ (x : Place). may_carry x (end_at zs y).place) (s.seat.places e q there) ∙ ap (may_carry q) (s.seat.places y own own_there) ∙ can) in
      let mid_placed : ArePlaced mid bs = λ f r h. hands_places p zs y f ∙ s.seat.places f r h in
      let mid_proper = touched_proper (size_of file) p zs y delegates tt s.seat.proper.messages in
      let mid_hops = touched_hops p zs y delegates (λ h. fresh) s.seat.hops in
      let all_placed : ArePlaced (touched p mid (e, sends m)) es =
      moved_placed file p mid bs e q (sends m) Out (session_message y 0) s.seat.known mid_placed there
      (same_behind (end_at mid e).place c.kind c.next y p 0 (hands_places p zs y e ∙ c.is)) in
      keeps ((y, delegates) ∷ (e, sends m) ∷ []) (without_end es y) cs
      (guards_delegate file p w bs s.seat.guarded e y c.next c.kind own es (λ f. holds-moved f bs e Out (session_message y 0))
      (place-moved_other bs e Out (session_message y 0) y turned ∙ own_there) (held_by_place bs e q there) (held_by_place bs y own own_there) other c.is c.stands c.full)
      (λ f r h. all_placed f r (place-without_other es y f r h).1)
      (λ f r h. moved_known file bs e Out (session_message y 0) s.seat.known f r (place-without_other es y f r h).1)
      (delegate_finds p w (λ f. holds f bs + others f) (λ f. holds f (without_end es y) + others f) s.found e y (uncarried file p w bs s.seat.guarded y (held_by_place bs y own own_there)) s.seat.guarded.sound.pairs
      (λ f far. omega (arith, holds-moved f bs e Out (session_message y 0), holds-without_other f es y far)))
      (touched_proper (size_of file) p mid e (sends m) (low.1, low.0, below) mid_proper)
      (touched_hops p mid e (sends m) (no_hands m) mid_hops)
      (omega (arith, touched_sent p mid e (sends m), touched_sent p zs y delegates))

  -- ---- a message is taken

  module _ (e : EndId) (q : Place) (cs : List Call) (there : place_held bs e ≡ Some q) (x : Passed) (next : next_for zs e ≡ Some x) where
    taken_placed : ArePlaced (touched p zs (e, takes x.msg)) (moved bs e Into x.msg)
    taken_placed = moved_placed file p zs bs e q (takes x.msg) Into x.msg s.seat.known s.seat.places there refl

    value_keeps : ((f : EndId) → names_end f x.msg ≡ false) → Next (behind ((e, takes x.msg) ∷ []) (moved bs e Into x.msg) cs)
    value_keeps none =
        keeps ((e, takes x.msg) ∷ []) (moved bs e Into x.msg) cs
        (guards_take file p w bs s.seat.guarded e x next (held_by_place bs e q there))
        taken_placed
        (moved_known file bs e Into x.msg s.seat.known)
        (value_finds p w (λ f. holds f bs + others f) (λ f. holds f (moved bs e Into x.msg) + others f) s.found e x next none (λ f. omega (arith, holds-moved f bs e Into x.msg)))
        (touched_proper (size_of file) p zs e (takes x.msg) tt s.seat.proper.messages)
        (touched_hops p zs e (takes x.msg) (no_takes x.msg) s.seat.hops)
        (omega (arith, touched_sent p zs e (takes x.msg)))

    module _ (sess d k : ℕ) (is : x.msg ≡ msgs.Sess sess d k) where
      abbrev y : EndId
      y = side sess d

      abbrev kind : Place
      kind = carried_next q

      stands : (kind ≢ done) × StandsFor (end_at zs (side sess d)).place kind
      stands =
          let has = next_has_a_place file w s.seat.guarded.sound e x next in
          taken_kind zs q has.0 sess d k
          (ap (λ (z : Place). after_place z Into (msgs.Sess sess d k)) (sym (s.seat.places e q there)) ∙ ap (after_place (end_at zs e).place Into) (sym is) ∙ has.1)
          (subst (λ (z : Place). FitsNext zs z (msgs.Sess sess d k)) (s.seat.places e q there)
          (subst (λ (m : Msg). FitsNext zs (end_at zs e).place m) is has.2))

      -- an end that is held isn't on its way
      unheld : (f : EndId) (r : Place) → place_held bs f ≡ Some r → is_end y f ≡ false
      unheld f r h =
          false_from_ne_true (is_end y f) (λ b.
          absurd (omega (arith, s.seat.guarded.once f, held_by_place bs f r h, named_carried w f e x next (ap (names_end f) is ∙ is_end_sym y f b))))

      abbrev taken : List Session
      taken = touched p zs (e, takes x.msg)

      abbrev es : Ends
      es = moved bs e Into x.msg ++ (y, kind) ∷ []

      end_placed : ArePlaced (touched p taken (y, begins kind)) es
      end_placed f r h = by (place_held (moved bs e Into x.msg) f) refl (is_same_end y f) refl (sym (place-push (moved bs e Into x.msg) (y, kind) f) ∙ h)
        where
          by : (o : Option Place) → place_held (moved bs e Into x.msg) f ≡ o → (b : Bool) → is_same_end y f ≡ b → first_of o (cond b (Some kind) None) ≡ Some r → (end_at (touched p taken (y, begins kind)) f).place ≡ r
          by (Some v) o b same k =
              let before = held_before bs e Into x.msg f v o in
              let it : v ≡ r = cc in
              ap (λ (z : EndAt). z.place) (end_at-touched_other p taken (y, begins kind) f (unheld f before.0 before.1)) ∙ taken_placed f v o ∙ it
          by None o true same k =
              let it : kind ≡ r = cc in
              ap (λ (z : EndId). (end_at (touched p taken (y, begins kind)) z).place) (sym (same_end_is y f same))
              ∙ ap (λ (z : EndAt). z.place) (end_at-touched_same p taken (y, begins kind) y (is_end-self y)) ∙ it
          by None o false same k = cc

      end_known : AreKnown file es
      end_known f r h = by (place_held (moved bs e Into x.msg) f) refl (is_same_end y f) refl (sym (place-push (moved bs e Into x.msg) (y, kind) f) ∙ h)
        where
          by : (o : Option Place) → place_held (moved bs e Into x.msg) f ≡ o → (b : Bool) → is_same_end y f ≡ b → first_of o (cond b (Some kind) None) ≡ Some r
              → (f.side < 2) × IsSession (length file.parties) (length file.connects) f.sess
          by (Some v) o b same k = moved_known file bs e Into x.msg s.seat.known f v o
          by None o true same k =
              let ok = message_in (size_of file) (end_at zs (other_end e)).sent (length (end_at zs e).takers) x (s.seat.proper.messages (other_end e)) next in
              let good = subst (IsProperMessage (size_of file)) is ok in
              subst (λ (z : EndId). (z.side < 2) × IsSession (length file.parties) (length file.connects) z.sess) (same_end_is y f same) (good.1, good.0)
          by None o false same k = cc

      end_keeps : Next (behind ((e, takes x.msg) ∷ (y, begins kind) ∷ []) es cs)
      end_keeps =
          keeps ((e, takes x.msg) ∷ (y, begins kind) ∷ []) es cs
          (guards_take_end file p w bs s.seat.guarded e x next (held_by_place bs e q there) sess d k kind (moved bs e Into x.msg) (λ f. holds-moved f bs e Into x.msg) is stands.1)
          end_placed
          end_known
          (end_finds p w (λ f. holds f bs + others f) (λ f. holds f es + others f) s.found e x next sess d k kind is
          (λ f. omega (arith, holds-moved f bs e Into x.msg, holds-push f (moved bs e Into x.msg) (y, kind))))
          (touched_proper (size_of file) p taken y (begins kind) tt (touched_proper (size_of file) p zs e (takes x.msg) tt s.seat.proper.messages))
          (touched_hops p taken y (begins kind) (λ h. absurd (cc h)) (touched_hops p zs e (takes x.msg) (no_takes x.msg) s.seat.hops))
          (omega (arith, touched_sent p taken y (begins kind), touched_sent p zs e (takes x.msg)))

    -- whatever it is
    take_keeps : (m : Msg) → x.msg ≡ m → Next (behind ((e, takes m) ∷ begun_by (carried_next q) m) (with_carried (moved bs e Into m) (carried_next q) m) cs)
    take_keeps (msgs.Sess sess d k) is =
        subst (λ (m : Msg). Next (behind ((e, takes m) ∷ (side sess d, begins (carried_next q)) ∷ []) (moved bs e Into m ++ (side sess d, carried_next q) ∷ []) cs)) is (end_keeps sess d k is)
    take_keeps (msgs.Int i) is = subst (λ (m : Msg). Next (behind ((e, takes m) ∷ []) (moved bs e Into m) cs)) is (value_keeps (λ f. ap (names_end f) is))
    take_keeps (msgs.Bool i) is = subst (λ (m : Msg). Next (behind ((e, takes m) ∷ []) (moved bs e Into m) cs)) is (value_keeps (λ f. ap (names_end f) is))
    take_keeps (msgs.Text i) is = subst (λ (m : Msg). Next (behind ((e, takes m) ∷ []) (moved bs e Into m) cs)) is (value_keeps (λ f. ap (names_end f) is))
    take_keeps (msgs.Label i) is = subst (λ (m : Msg). Next (behind ((e, takes m) ∷ []) (moved bs e Into m) cs)) is (value_keeps (λ f. ap (names_end f) is))
    take_keeps (msgs.More i) is = subst (λ (m : Msg). Next (behind ((e, takes m) ∷ []) (moved bs e Into m) cs)) is (value_keeps (λ f. ap (names_end f) is))

  -- ---- an end is closed

  close_keeps : (e : EndId) (q : Place) (cs : List Call) → place_held bs e ≡ Some q → is_done q ≡ true → Next (behind [] (without_end bs e) cs)
  close_keeps e q cs there over =
      keeps [] (without_end bs e) cs (guards_close file p w bs s.seat.guarded e)
      (λ f r h. s.seat.places f r (place-without_other bs e f r h).1)
      (λ f r h. s.seat.known f r (place-without_other bs e f r h).1)
      (close_finds p w (λ f. holds f bs + others f) (λ f. holds f (without_end bs e) + others f) s.found e (s.seat.places e q there ∙ done_by q over) (λ f far. omega (arith, holds-without_other f bs e far)))
      s.seat.proper.messages s.seat.hops (omega arith)

  -- ---- a session is opened

  -- its end is held, at its place
  push_placed : (us : List (EndId × Use)) (y : EndId) (place : Place) → ((f : EndId) (r : Place) → place_held bs f ≡ Some r → IsUnusedBy f us) → (end_at (after_uses p us zs) y).place ≡ place
      → ArePlaced (after_uses p us zs) (bs ++ (y, place) ∷ [])
  push_placed us y place unused at f r h = by (place_held bs f) refl (is_same_end y f) refl (sym (place-push bs (y, place) f) ∙ h)
    where
      by : (o : Option Place) → place_held bs f ≡ o → (b : Bool) → is_same_end y f ≡ b → first_of o (cond b (Some place) None) ≡ Some r → (end_at (after_uses p us zs) f).place ≡ r
      by (Some v) o b same k =
          let it : v ≡ r = cc in
          ap (λ (z : EndAt). z.place) (end_at-after_uses_other p us zs f (unused f v o)) ∙ s.seat.places f v o ∙ it
      by None o true same k =
          let it : place ≡ r = cc in
          ap (λ (z : EndId). (end_at (after_uses p us zs) z).place) (sym (same_end_is y f same)) ∙ at ∙ it
      by None o false same k = cc

  push_known : (y : EndId) (place : Place) → (y.side < 2) × IsSession (length file.parties) (length file.connects) y.sess → AreKnown file (bs ++ (y, place) ∷ [])
  push_known y place good f r h = by (place_held bs f) refl (is_same_end y f) refl (sym (place-push bs (y, place) f) ∙ h)
    where
      by : (o : Option Place) → place_held bs f ≡ o → (b : Bool) → is_same_end y f ≡ b → first_of o (cond b (Some place) None) ≡ Some r → (f.side < 2) × IsSession (length file.parties) (length file.connects) f.sess
      by (Some v) o b same k = s.seat.known f v o
      by None o true same k = subst (λ (z : EndId). (z.side < 2) × IsSession (length file.parties) (length file.connects) z.sess) (same_end_is y f same) good
      by None o false same k = cc

  -- what is to come isn't held
  held_apart : (f : EndId) (r : Place) → place_held bs f ≡ Some r → (e : EndId) → IsToCome w e → is_end e f ≡ false
  held_apart f r h e come = is_end_sym_false f e (come_apart file p w bs s.seat.guarded f e (held_by_place bs f r h) come)

  number_known : (q k : ℕ) → q < length file.parties → k < limit_of_requests → IsSession (length file.parties) (length file.connects) (opened_number q k)
  number_known q k there low =
      let first : 64 ≤ 64 + 100 * q + k = omega arith in
      let last : 64 + 100 * q + k < 64 + 100 * length file.parties + 0 = omega (arith, there, low) in
      inr (first, last)

  -- the sessions after a beginning
  begins_proper : (ys : List Session) (e : EndId) (place : Place) → ((f : EndId) → AreProperMessages (size_of file) (end_at ys f).sent) → (f : EndId) → AreProperMessages (size_of file) (end_at (touched p ys (e, begins place)) f).sent
  begins_proper ys e place all = touched_proper (size_of file) p ys e (begins place) tt all

  begins_hops : (ys : List Session) (e : EndId) (place : Place) → ((f : EndId) → (end_at ys f).hops ≤ 100) → (f : EndId) → (end_at (touched p ys (e, begins place)) f).hops ≤ 100
  begins_hops ys e place all = touched_hops p ys e (begins place) (λ h. absurd (cc h)) all

  request_keeps : (q n : ℕ) (cs : List Call) → OpensAs file (Asks file p) q n (body_named file.protocols n) → length (w.requests p) < limit_of_requests
      → Next (record {
        world = world_opened p (requesting (opened_number p (length (w.requests p))) (body_named file.protocols n) q).opening (requesting (opened_number p (length (w.requests p))) (body_named file.protocols n) q).uses w;
        seat = record { ends = bs ++ (side (opened_number p (length (w.requests p))) 0, body_named file.protocols n) ∷ []; steps = t.seat.steps + 1; calls = cs; may = t.seat.may };
      })
  request_keeps q n cs o low =
      let sound = s.seat.guarded.sound in
      let num : ℕ = opened_number p (length (w.requests p)) in
      let place : Place = body_named file.protocols n in
      let us : List (EndId × Use) = (side num 0, begins place) ∷ (side num 1, begins (dual_of place)) ∷ [] in
      let mid : List Session = touched p zs (side num 0, begins place) in
      record {
        seat = record {
          guarded = guards_request file p w sound low n o.name q o.so o.to_it bs s.seat.guarded;
          idle = s.seat.idle;
          places = push_placed us (side num 0) place (λ f r h. request_unused file p w sound low n o.name q o.so o.to_it f (held_apart f r h)) (ap (λ (x : EndAt). x.place) (first_is file p w sound low n o.name q o.so o.to_it));
          known = push_known (side num 0) place (omega arith, number_known p (length (w.requests p)) below low);
          proper = record { many = s.seat.proper.many; names = s.seat.proper.names; messages = begins_proper mid (side num 1) (dual_of place) (begins_proper zs (side num 0) place s.seat.proper.messages) };
          hops = begins_hops mid (side num 1) (dual_of place) (begins_hops zs (side num 0) place s.seat.hops);
          steps = s.seat.steps;
          calls = omega (arith, few);
          may = s.seat.may;
        };
        found = request_finds file p w sound low n o.name q o.so o.to_it (λ f. holds f bs + others f) (λ f. holds f (bs ++ (side num 0, place) ∷ []) + others f) s.found (λ f. omega (arith, holds-push f bs (side num 0, place)));
        messages = omega (arith, touched_sent p mid (side num 1) (begins (dual_of place)), touched_sent p zs (side num 0) (begins place), s.messages);
        count = omega (arith, s.count);
      }

  accept_keeps : (q n k : ℕ) (cs : List Call) → OpensAs file (Takes file p) q n (body_named file.protocols n) → first_offer p (w.requests q) ≡ Some k
      → Next (record {
        world = world_opened p (accepting q (body_named file.protocols n) k).opening (accepting q (body_named file.protocols n) k).uses w;
        seat = record { ends = bs ++ (side (opened_number q k) 1, body_named file.protocols n) ∷ []; steps = t.seat.steps + 1; calls = cs; may = t.seat.may };
      })
  accept_keeps q n k cs o first =
      let sound = s.seat.guarded.sound in
      let y : EndId = side (opened_number q k) 1 in
      let place : Place = body_named file.protocols n in
      let offer = first_is_offer p (w.requests q) k first in
      record {
        seat = record {
          guarded = guards_accept file p w sound q k first n o.name o.so o.to_it bs s.seat.guarded;
          idle = s.seat.idle;
          places = push_placed ((y, begins place) ∷ []) y place (λ f r h. accept_unused file p w sound q k first n o.name o.so o.to_it f (held_apart f r h)) (ap (λ (x : EndAt). x.place) (touched_here p zs y (begins place)));
          known = push_known y place (omega arith, number_known q k o.there (omega (arith, below_by_get (w.requests q) k offer.0 offer.1, sound.unshared.few q)));
          proper = record { many = s.seat.proper.many; names = s.seat.proper.names; messages = begins_proper zs y place s.seat.proper.messages };
          hops = begins_hops zs y place s.seat.hops;
          steps = s.seat.steps;
          calls = omega (arith, few);
          may = s.seat.may;
        };
        found = accept_finds file p w sound q k first n o.name o.so o.to_it (λ f. holds f bs + others f) (λ f. holds f (bs ++ (y, place) ∷ []) + others f) s.found (λ f. omega (arith, holds-push f bs (y, place)));
        messages = omega (arith, touched_sent p zs y (begins place), s.messages);
        count = omega (arith, s.count);
      }

  -- ---- whichever call it is

  abbrev Keeps : List Call → Doing → Type 0
  Keeps cs d = Next (record { world = world_opened p d.opening d.uses w; seat = seat_by t.seat cs d.taken d.opened })

  by_send : (e : EndId) (m : Msg) (cs : List Call) (d : Doing) (o : Option Place) → place_held bs e ≡ o → doing_by p w (want_of_send e m o) ≡ Some d → Keeps (calls.sends e m ∷ cs) d
  by_send e m cs d None there h = cc
  by_send e m cs d (Some q) there h = by (may_send q m) refl h
    where
      by : (b : Bool) → may_send q m ≡ b → doing_by p w (where_allowed b (wanted.sends e m)) ≡ Some d → Keeps (calls.sends e m ∷ cs) d
      by true can k = subst (Keeps (calls.sends e m ∷ cs)) (let it : plain_doing None ((e, sends m) ∷ []) ≡ d = cc in it) (send_keeps e m q cs there can)
      by false can k = cc

  by_delegate : (c e : EndId) (cs : List Call) (d : Doing) (o own : Option Place) → place_held bs c ≡ o → place_held bs e ≡ own → doing_by p w (want_of_delegate c e o own) ≡ Some d → Keeps (calls.delegates c e ∷ cs) d
  by_delegate c e cs d None own there own_there h = cc
  by_delegate c e cs d (Some q) None there own_there h = cc
  by_delegate c e cs d (Some q) (Some r) there own_there h = by (not (is_same_end c e) && may_carry q r) refl h
    where
      hop : (b : Bool) → nat_lt (end_at zs e).hops 100 ≡ b → is_same_end c e ≡ false → may_carry q r ≡ true
          → cond b (Some (plain_doing None ((e, delegates) ∷ (c, sends (session_message e p)) ∷ []))) None ≡ Some d → Keeps (calls.delegates c e ∷ cs) d
      hop true fresh apart can k =
          subst (Keeps (calls.delegates c e ∷ cs)) (let it : plain_doing None ((e, delegates) ∷ (c, sends (session_message e p)) ∷ []) ≡ d = cc in it)
          (delegate_keeps c e q r cs there own_there apart can (ltb-true (end_at zs e).hops 100 fresh))
      hop false fresh apart can k = cc

      not_true : (b : Bool) → not b ≡ true → b ≡ false
      not_true true h = cc
      not_true false h = refl

      by : (b : Bool) → (not (is_same_end c e) && may_carry q r) ≡ b → doing_by p w (where_allowed b (wanted.delegates c e)) ≡ Some d → Keeps (calls.delegates c e ∷ cs) d
      by true can k = let parts = and_parts (not (is_same_end c e)) (may_carry q r) can in hop (nat_lt (end_at zs e).hops 100) refl (not_true (is_same_end c e) parts.0) parts.1 k
      by false can k = cc

  by_take : (e : EndId) (cs : List Call) (d : Doing) (o : Option Place) → place_held bs e ≡ o → doing_by p w (want_of_take e o) ≡ Some d → Keeps (calls.takes e ∷ cs) d
  by_take e cs d None there h = cc
  by_take e cs d (Some q) there h = by (may_take q) h
    where
      head : (o : Option Passed) → next_for zs e ≡ o → option_map (λ (x : Passed). plain_doing (Some x.msg) ((e, takes x.msg) ∷ begun_by (carried_next q) x.msg)) o ≡ Some d → Keeps (calls.takes e ∷ cs) d
      head None next k = cc
      head (Some x) next k =
          subst (Keeps (calls.takes e ∷ cs)) (let it : plain_doing (Some x.msg) ((e, takes x.msg) ∷ begun_by (carried_next q) x.msg) ≡ d = cc in it)
          (subst (λ (o : Option Place). Next (behind ((e, takes x.msg) ∷ begun_by (carried_next q) x.msg) (ends_taken bs e o (Some x.msg)) cs)) (sym there)
          (take_keeps e q cs there x next x.msg refl))

      by : (b : Bool) → doing_by p w (where_allowed b (wanted.takes e (carried_next q))) ≡ Some d → Keeps (calls.takes e ∷ cs) d
      by true k = head (next_for zs e) refl k
      by false k = cc

  by_close : (e : EndId) (cs : List Call) (d : Doing) (o : Option Place) → place_held bs e ≡ o → doing_by p w (want_of_close e o) ≡ Some d → Keeps (calls.closes e ∷ cs) d
  by_close e cs d None there h = cc
  by_close e cs d (Some q) there h = by (is_done q) refl h
    where
      by : (b : Bool) → is_done q ≡ b → doing_by p w (where_allowed b (wanted.closes e)) ≡ Some d → Keeps (calls.closes e ∷ cs) d
      by true over k = subst (Keeps (calls.closes e ∷ cs)) (let it : plain_doing None [] ≡ d = cc in it) (close_keeps e q cs there over)
      by false over k = cc

  by_request : (q n : ℕ) (cs : List Call) (d : Doing) (o : Option Place) → place_opened t.seat.may.requests q n ≡ o → doing_by p w (want_of_request q o) ≡ Some d → Keeps (calls.requests q n ∷ cs) d
  by_request q n cs d None there h = cc
  by_request q n cs d (Some place) there h = by (nat_lt (length (w.requests p)) limit_of_requests) refl h
    where
      a : OpensAs file (Asks file p) q n place
      a = s.seat.may.requests q n place there

      there_now : place_opened t.seat.may.requests q n ≡ Some (body_named file.protocols n)
      there_now = there ∙ ap Some a.body

      num : ℕ
      num = opened_number p (length (w.requests p))

      by : (b : Bool) → nat_lt (length (w.requests p)) limit_of_requests ≡ b → cond b (Some (requesting num place q)) None ≡ Some d → Keeps (calls.requests q n ∷ cs) d
      by true low k =
          subst (Keeps (calls.requests q n ∷ cs)) (let it : requesting num place q ≡ d = cc in it)
          (subst (λ (x : Place). Keeps (calls.requests q n ∷ cs) (requesting num x q)) (sym a.body)
          (subst (λ (o : Option Place). Next (record {
            world = world_opened p (requesting num (body_named file.protocols n) q).opening (requesting num (body_named file.protocols n) q).uses w;
            seat = record { ends = with_opened bs (side num 0) o; steps = t.seat.steps + 1; calls = cs; may = t.seat.may };
          })) (sym there_now)
          (request_keeps q n cs (subst (OpensAs file (Asks file p) q n) a.body a) (ltb-true (length (w.requests p)) limit_of_requests low))))
      by false low k = cc

  by_accept : (q n : ℕ) (cs : List Call) (d : Doing) (o : Option Place) → place_opened t.seat.may.accepts q n ≡ o → doing_by p w (want_of_accept q o) ≡ Some d → Keeps (calls.accepts q n ∷ cs) d
  by_accept q n cs d None there h = cc
  by_accept q n cs d (Some place) there h = by (first_offer p (w.requests q)) refl h
    where
      a : OpensAs file (Takes file p) q n place
      a = s.seat.may.accepts q n place there

      there_now : place_opened t.seat.may.accepts q n ≡ Some (body_named file.protocols n)
      there_now = there ∙ ap Some a.body

      by : (o : Option ℕ) → first_offer p (w.requests q) ≡ o → option_map (accepting q place) o ≡ Some d → Keeps (calls.accepts q n ∷ cs) d
      by None first k = cc
      by (Some j) first k =
          subst (Keeps (calls.accepts q n ∷ cs)) (let it : accepting q place j ≡ d = cc in it)
          (subst (λ (x : Place). Keeps (calls.accepts q n ∷ cs) (accepting q x j)) (sym a.body)
          (subst (λ (o : Option Place). Next (record {
            world = world_opened p (accepting q (body_named file.protocols n) j).opening (accepting q (body_named file.protocols n) j).uses w;
            seat = record { ends = with_opened bs (side (opened_number q j) 1) o; steps = t.seat.steps + 1; calls = cs; may = t.seat.may };
          })) (sym there_now)
          (accept_keeps q n j cs (subst (OpensAs file (Takes file p) q n) a.body a) first)))

  by_calls : (cs : List Call) (d : Doing) → doing_by p w (want_of_calls t.seat.may bs cs) ≡ Some d → Keeps cs d
  by_calls [] d h = cc
  by_calls (calls.sends e m ∷ cs) d h = by_send e m cs d (place_held bs e) refl h
  by_calls (calls.delegates c e ∷ cs) d h = by_delegate c e cs d (place_held bs c) (place_held bs e) refl refl h
  by_calls (calls.takes e ∷ cs) d h = by_take e cs d (place_held bs e) refl h
  by_calls (calls.closes e ∷ cs) d h = by_close e cs d (place_held bs e) refl h
  by_calls (calls.requests q n ∷ cs) d h = by_request q n cs d (place_opened t.seat.may.requests q n) refl h
  by_calls (calls.accepts q n ∷ cs) d h = by_accept q n cs d (place_opened t.seat.may.accepts q n) refl h

pub call_keeps : (others : EndId → ℕ) (more : ℕ) (file : FileAt) (p n : ℕ) (t : SeatedWorld) (d : Doing) → IsSeatedBeside others more file p n t → doing_of p t ≡ Some d
    → IsSeatedBeside others more file p (n + 1) (after_doing p t d)
call_keeps others more file p n t d s h = by (nat_lt t.seat.steps 10000) refl h
  where
    by : (b : Bool) → nat_lt t.seat.steps 10000 ≡ b → cond (not b) None (doing_by p t.world (want_of_calls t.seat.may t.seat.ends t.seat.calls)) ≡ Some d → IsSeatedBeside others more file p (n + 1) (after_doing p t d)
    by true few k = by_calls others more file p n t s (ltb-true t.seat.steps 10000 few) t.seat.calls d k
    by false few k = cc
