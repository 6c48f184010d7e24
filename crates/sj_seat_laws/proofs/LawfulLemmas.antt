-- The next step of a party that is played by code of its own fits, as the lemmas on events ask for.
use Rattle.std.proofs.Common.{◌≡◌, ◌↔◌, ℕ, ◌+◌, ◌<◌, ◌≤◌, Bool, true, false, not, ◌&&◌, cond, List, [], ◌∷◌, ◌++◌, length, Option, Some, None, option_map, refl, ap, sym, ◌∙◌, subst, arith, inl, inr, ◌⊎◌}
use Rattle.std.specs.Prelude.{is_some}
use Rattle.std.proofs.lemmas.Bool.{and_parts, both_ways, cases_Bool, false_from_ne_true}
use Rattle.sj_base.specs.declared.EndId.{EndId}
use Rattle.sj_base.specs.declared.Msg.{Msg}
use Rattle.sj_base.specs.declared.Msg.TheVariants as msgs
use Rattle.sj_lang.specs.declared.proto.Way.{Way}
use Rattle.sj_lang.specs.declared.proto.Way.TheVariants.{Into, Out}
use Rattle.sj_lang.specs.After.{after_place}
use Rattle.sj_lang.specs.FileAt.{FileAt}
use Rattle.sj_lang.specs.ItemCount.{is_done}
use Rattle.sj_lang.specs.Place.{Place, done}
use Rattle.sj_semantics.specs.declared.Passed.{Passed}
use Rattle.sj_semantics.specs.Ends.{Session, end_at, is_end, next_for}
use Rattle.sj_semantics.specs.Ends as semantics
use Rattle.sj_semantics.specs.Program.{Program}
use Rattle.sj_semantics.specs.World.{World, session_message}
use Rattle.sj_semantics_laws.specs.Unshared.{names_end}
use Rattle.sj_semantics_laws.proofs.BoundLemmas.{is_end-self}
use Rattle.sj_headline_laws.proofs.DoneLemmas.{untaken_by}
use Rattle.sj_headline_laws.proofs.FittingLemmas.{next_has_a_place}
use Rattle.sj_headline_laws.proofs.TouchedLemmas.{pair_of, side}
use Rattle.sj_headline_laws.proofs.UnnamedLemmas.{named_carried}
use Rattle.sj_headline_laws.proofs.WorldLemmas.{Sound}
use Rattle.sj_rules.specs.Binding.{BindsAlso, BindsSame, BindsTaken, BindsWithout, NamesOther}
use Rattle.sj_rules.specs.Node.{Play, Want, ended, local, requests, accepts}
use Rattle.sj_rules.specs.Node as wanted
use Rattle.sj_rules.specs.Party.{IsDone, binds, play_of}
use Rattle.sj_rules.specs.Plain.{plain_at, plain_side}
use Rattle.sj_rules.specs.PlainSide.{PlainAt, PlainSide}
use Rattle.sj_rules.specs.Premises.{FitsStep, FitsHead, IsWithinCounts}
use Rattle.sj_rules.specs.Opened.{opened_number}
use Rattle.sj_rules.specs.Record.{is_same_end, offered_end, other_end, requested_end}
use Rattle.sj_rules_laws.proofs.ActLemmas.{waiting_is_next}
use Rattle.sj_rules_laws.proofs.FitsStepLemmas.{goes_on_by, next_at_side, untaken_is}
use Rattle.sj_rules_laws.proofs.LawfulLemmas.{other_sent_is}
use Rattle.sj_rules_laws.proofs.ProperLemmas.{IsProper, Size}
use Rattle.sj_rules_laws.proofs.ProperRunLemmas.{size_of}
use Rattle.sj_rules_laws.proofs.SideLemmas.{other_side_below, same_end_is, same_end_self, side_below}
use Rattle.sj_seat_laws.specs.Calls as calls
use Rattle.sj_seat_laws.specs.Calls.{Call, Ends, SeatedAt, moved, place_held, place_opened, without_end}
use Rattle.sj_seat_laws.specs.Guards.{called_by, carried_next, ends_taken, may_carry, may_send, may_take, opened_by, opened_place, want_of_accept, want_of_calls, want_of_close, want_of_delegate, want_of_request, want_of_send, want_of_take, where_allowed, with_carried, with_opened}
use Rattle.sj_seat_laws.specs.SeatedPlay.{Player, player_binds, seated, seated_play, written}
use Rattle.sj_seat_laws.specs.SeatedStart.{no_program}
use Rattle.sj_seat_laws.specs.SeatedWorld.{SeatedWorld}
use Rattle.sj_seat_laws.proofs.CallLemmas.{carries_out, done_by, sends_on}
use Rattle.sj_seat_laws.proofs.HeldLemmas.{first_of, held_by_place, place-push, place-without, some-moved}
use Rattle.sj_seat_laws.proofs.SeatedLemmas.{IsSeat}

-- ---- which ends a party binds after a call

same_sym : (d e : EndId) → is_same_end d e ≡ is_same_end e d
same_sym d e =
    elim (cases_Bool (is_same_end d e)) [
      | inl h ↦ h ∙ sym (subst (λ (x : EndId). is_same_end e x ≡ true) (sym (same_end_is d e h)) (same_end_self e))
      | inr h ↦ h ∙ sym (false_from_ne_true (is_same_end e d) (λ t. both_ways (is_same_end d e) h (subst (λ (x : EndId). is_same_end d x ≡ true) (sym (same_end_is e d t)) (same_end_self d))))
    ]

cond_without : (c : Bool) (o : Option Place) → (is_some (cond c None o) ≡ true) ↔ ((is_some o ≡ true) × (c ≡ false))
cond_without true o = (λ h. absurd (cc h), λ h. absurd (cc h.1))
cond_without false o = (λ h. (h, refl), λ h. h.0)

first_also : (o : Option Place) (c : Bool) (q : Place) → (is_some (first_of o (cond c (Some q) None)) ≡ true) ↔ ((c ≡ true) ⊎ (is_some o ≡ true))
first_also (Some r) c q = (λ h. inr refl, λ h. refl)
first_also None true q = (λ h. inl refl, λ h. refl)
first_also None false q = (λ h. absurd (cc h), elim [ inl h ↦ cc h | inr h ↦ cc h ])

both_same : {x y : Bool} → x ≡ y → (x ≡ true) ↔ (y ≡ true)
both_same e = (λ h. sym e ∙ h, λ h. e ∙ h)

moved_binds : (bs : Ends) (e : EndId) (m : Msg) (way : Way) (f : EndId) → (is_some (place_held (moved bs e way m) f) ≡ true) ↔ (is_some (place_held bs f) ≡ true)
moved_binds bs e m way f = both_same (some-moved bs e way m f)

without_binds : (bs : Ends) (e f : EndId) → (is_some (place_held (without_end bs e) f) ≡ true) ↔ ((is_some (place_held bs f) ≡ true) × (is_same_end f e ≡ false))
without_binds bs e f =
    let c = cond_without (is_same_end f e) (place_held bs f) in
    let same : is_some (place_held (without_end bs e) f) ≡ is_some (cond (is_same_end f e) None (place_held bs f)) = ap {B = Bool} is_some (place-without bs e f) in
    (λ h. c.0 (sym same ∙ h), λ h. same ∙ c.1 h)

push_binds : (bs : Ends) (y : EndId) (q : Place) (f : EndId) → (is_some (place_held (bs ++ (y, q) ∷ []) f) ≡ true) ↔ ((is_same_end f y ≡ true) ⊎ (is_some (place_held bs f) ≡ true))
push_binds bs y q f =
    let same : is_some (place_held (bs ++ (y, q) ∷ []) f) ≡ is_some (first_of (place_held bs f) (cond (is_same_end f y) (Some q) None)) =
    ap {B = Bool} is_some (place-push bs (y, q) f ∙ ap (λ (c : Bool). first_of (place_held bs f) (cond c (Some q) None)) (same_sym y f)) in
    let c = first_also (place_held bs f) (is_same_end f y) q in
    (λ h. c.0 (sym same ∙ h), λ h. same ∙ c.1 h)

not_by : (b : Bool) → not b ≡ true → b ≡ false
not_by true h = cc
not_by false h = refl

-- ---- parties that go by the file

taken_lift : (g h : Program) (m : Msg) → BindsTaken binds g h m → BindsTaken player_binds (written g) (written h) m
taken_lift g h (msgs.Sess s d k) b = b
taken_lift g h (msgs.Int n) b = b
taken_lift g h (msgs.Bool n) b = b
taken_lift g h (msgs.Text n) b = b
taken_lift g h (msgs.Label n) b = b
taken_lift g h (msgs.More n) b = b

-- what fits there fits beside any other parties
module _ (file : FileAt) (programs : ℕ → Player) where
  abbrev both : Play Place Player
  both = seated_play file

  abbrev beside_all : (PlainAt Place Program) → PlainAt Place Player
  beside_all x = record { programs = programs; sides = x.sides; requests = x.requests; offers = x.offers }

  pub written_fits : (x : PlainAt Place Program) (q : ℕ) (g : Program) (want : Want Place) → FitsStep IsDone (play_of file) binds x q g want → FitsStep IsDone both player_binds (beside_all x) q (written g) want
  written_fits x q g ended fit = tt
  written_fits x q g local fit = fit
  written_fits x q g (wanted.sends e m) fit = record { bound = fit.bound; place = fit.place; after = fit.after; goes_on = fit.goes_on; no_end = fit.no_end; names = fit.names }
  written_fits x q g (wanted.delegates c e) fit = record { bound = fit.bound; handed = fit.handed; apart = fit.apart; place = fit.place; after = fit.after; goes_on = fit.goes_on; names = fit.names }
  written_fits x q g (wanted.takes e place) fit = record {
    bound = fit.bound;
    head = λ m h. let y = fit.head m h in record { fits = y.fits; place = y.place; after = y.after; names = taken_lift g ((play_of file).goes g (Some m)) m y.names; other = y.other };
  }
  written_fits x q g (wanted.closes e) fit = record { bound = fit.bound; over = fit.over; is_over = fit.is_over; nothing_waits = fit.nothing_waits; names = fit.names }
  written_fits x q g (requests place to) fit = fit
  written_fits x q g (accepts place from) fit = fit

-- what was taken was sent, and handovers and messages are few
pub counts_by : (file : FileAt) (w : World) → Sound file w → IsProper (size_of file) w → ((e : EndId) → (end_at w.sessions e).hops ≤ 100) → ((e : EndId) → e.side < 2 → length ((plain_at w).sides e).sent ≤ 170000)
    → (e : EndId) → e.side < 2 → IsWithinCounts ((plain_at w).sides e) ((plain_at w).sides (other_end e))
counts_by file w sound proper hops few e lt = record {
  fewer = omega (
    arith,
    ap (λ (x : PlainSide Place). x.taken) (side_below w.requests w.sessions e lt),
    other_sent_is file (size_of file) w sound proper e,
    (pair_of w.sessions w.sessions e sound.pairs).one_taken,
  );
  hops = omega (
    arith,
    ap (λ (x : PlainSide Place). x.hops) (side_below w.requests w.sessions e lt),
    ap (λ (x : PlainSide Place). x.hops) (side_below w.requests w.sessions (other_end e) (other_side_below e)),
    hops e,
    hops (other_end e),
  );
  messages = omega (arith, few e lt);
}

module _ (file : FileAt) (p : ℕ) (t : SeatedWorld) (s : IsSeat file p t) (programs : ℕ → Player) where
  abbrev w : World
  w = t.world

  abbrev zs : List Session
  zs = w.sessions

  abbrev bs : Ends
  bs = t.seat.ends

  abbrev play : Play Place Player
  play = seated_play file

  abbrev plain : PlainAt Place Player
  plain = record { programs = programs; sides = (plain_at w).sides; requests = (plain_at w).requests; offers = (plain_at w).offers }

  abbrev z : Size
  z = size_of file

  sound : Sound file w
  sound = s.guarded.sound

  -- ---- the party that is played by code of its own

  module _ (q : ℕ) where
    abbrev SeatFits : Want Place → Type 0
    SeatFits want = FitsStep IsDone play player_binds plain q (seated t.seat) want

    goes_is : (cs : List Call) → t.seat.calls ≡ cs → (taken : Option Msg) → play.goes (seated t.seat) taken ≡ seated (called_by t.seat cs taken)
    goes_is cs h taken = ap (λ x. seated (called_by t.seat x taken)) h

    held : (e : EndId) (r : Place) → place_held bs e ≡ Some r → player_binds (seated t.seat) e ≡ true
    held e r h = ap {B = Bool} is_some h

    send_fits : (e : EndId) (m : Msg) (cs : List Call) (r : Place) → t.seat.calls ≡ calls.sends e m ∷ cs → place_held bs e ≡ Some r → may_send r m ≡ true → SeatFits (wanted.sends e m)
    send_fits e m cs r making there can =
        let on = sends_on zs (end_at zs e).place m (ap (λ (x : Place). may_send x m) (s.places e r there) ∙ can) in
        record {
          bound = held e r there;
          place = on.next;
          after = next_at_side w.requests zs e Out m on.next (s.known e r there).0 on.after;
          goes_on = goes_on_by file z w p (no_program file) sound s.proper s.idle e m on.next on.after;
          no_end = on.none;
          names = subst (λ (new : Player). BindsSame player_binds (seated t.seat) new) (sym (goes_is (calls.sends e m ∷ cs) making None)) (moved_binds bs e m Out);
        }

    by_send : (e : EndId) (m : Msg) (cs : List Call) → t.seat.calls ≡ calls.sends e m ∷ cs → (o : Option Place) → place_held bs e ≡ o → SeatFits (want_of_send e m o)
    by_send e m cs making None there = tt
    by_send e m cs making (Some r) there = by (may_send r m) refl
      where
        by : (b : Bool) → may_send r m ≡ b → SeatFits (where_allowed b (wanted.sends e m))
        by true can = send_fits e m cs r making there can
        by false can = tt

    delegate_fits : (c e : EndId) (cs : List Call) (r own : Place) → t.seat.calls ≡ calls.delegates c e ∷ cs → place_held bs c ≡ Some r → place_held bs e ≡ Some own → is_same_end c e ≡ false → may_carry r own ≡ true
        → SeatFits (wanted.delegates c e)
    delegate_fits c e cs r own making there own_there apart can =
        let o = carries_out (end_at zs c).place own (ap (λ (x : Place). may_carry x own) (s.places c r there) ∙ can) in
        let at : after_place (end_at zs c).place Out (session_message e q) ≡ Some o.next = ap (λ (x : Place). after_place x Out (session_message e q)) o.is in
        record {
          bound = held c r there;
          handed = held e own own_there;
          apart = apart;
          place = o.next;
          after = next_at_side w.requests zs c Out (session_message e q) o.next (s.known c r there).0 at;
          goes_on = goes_on_by file z w p (no_program file) sound s.proper s.idle c (session_message e q) o.next at;
          names = subst (λ (new : Player). BindsWithout player_binds (seated t.seat) new e) (sym (goes_is (calls.delegates c e ∷ cs) making None))
              (λ f. let b = without_binds (moved bs c Out (session_message e 0)) e f in let m = moved_binds bs c (session_message e 0) Out f in
              (λ h. let k = b.0 h in (m.0 k.0, k.1), λ h. b.1 (m.1 h.0, h.1)));
        }

    by_delegate : (c e : EndId) (cs : List Call) → t.seat.calls ≡ calls.delegates c e ∷ cs → (o own : Option Place) → place_held bs c ≡ o → place_held bs e ≡ own → SeatFits (want_of_delegate c e o own)
    by_delegate c e cs making None own there own_there = tt
    by_delegate c e cs making (Some r) None there own_there = tt
    by_delegate c e cs making (Some r) (Some v) there own_there = by (not (is_same_end c e) && may_carry r v) refl
      where
        by : (b : Bool) → (not (is_same_end c e) && may_carry r v) ≡ b → SeatFits (where_allowed b (wanted.delegates c e))
        by true can = let parts = and_parts (not (is_same_end c e)) (may_carry r v) can in delegate_fits c e cs r v making there own_there (not_by (is_same_end c e) parts.0) parts.1
        by false can = tt

    -- an end that is held isn't the one that comes next
    other_named : (e : EndId) (r : Place) → place_held bs e ≡ Some r → (x : Passed) (m : Msg) → next_for zs e ≡ Some x → x.msg ≡ m → NamesOther e m
    other_named e r there x (msgs.Sess sess d k) next is =
        false_from_ne_true (is_same_end e (side sess d)) (λ b.
        absurd (omega (
          arith,
          s.guarded.once e,
          held_by_place bs e r there,
          named_carried w e e x next (ap (names_end e) is ∙ subst (λ (y : EndId). is_end e y ≡ true) (same_end_is e (side sess d) b) (is_end-self e)),
        )))
    other_named e r there x (msgs.Int i) next is = tt
    other_named e r there x (msgs.Bool i) next is = tt
    other_named e r there x (msgs.Text i) next is = tt
    other_named e r there x (msgs.Label i) next is = tt
    other_named e r there x (msgs.More i) next is = tt

    taken_binds : (e : EndId) (cs : List Call) (r : Place) → t.seat.calls ≡ calls.takes e ∷ cs → place_held bs e ≡ Some r → (m : Msg) → BindsTaken player_binds (seated t.seat) (play.goes (seated t.seat) (Some m)) m
    taken_binds e cs r making there m =
        subst (λ (new : Player). BindsTaken player_binds (seated t.seat) new m) (sym (goes_is (calls.takes e ∷ cs) making (Some m)))
        (subst (λ (o : Option Place). BindsTaken player_binds (seated t.seat) (seated (record { ends = ends_taken bs e o (Some m); steps = t.seat.steps + 1; calls = cs; may = t.seat.may })) m) (sym there) (by m))
      where
        by : (m : Msg) → BindsTaken player_binds (seated t.seat) (seated (record { ends = with_carried (moved bs e Into m) (carried_next r) m; steps = t.seat.steps + 1; calls = cs; may = t.seat.may })) m
        by (msgs.Sess sess d k) =
            λ f. let m = moved_binds bs e (msgs.Sess sess d k) Into f in let b = push_binds (moved bs e Into (msgs.Sess sess d k)) (side sess d) (carried_next r) f in
            (λ h. elim (b.0 h) [ inl y ↦ inl y | inr y ↦ inr (m.0 y) ], elim [ inl y ↦ b.1 (inl y) | inr y ↦ b.1 (inr (m.1 y)) ])
        by (msgs.Int i) = moved_binds bs e (msgs.Int i) Into
        by (msgs.Bool i) = moved_binds bs e (msgs.Bool i) Into
        by (msgs.Text i) = moved_binds bs e (msgs.Text i) Into
        by (msgs.Label i) = moved_binds bs e (msgs.Label i) Into
        by (msgs.More i) = moved_binds bs e (msgs.More i) Into

    take_fits : (e : EndId) (cs : List Call) (r : Place) → t.seat.calls ≡ calls.takes e ∷ cs → place_held bs e ≡ Some r → SeatFits (wanted.takes e (carried_next r))
    take_fits e cs r making there =
        let lt = (s.known e r there).0 in
        record { bound = held e r there; head = λ m h. by m (next_for zs e) refl lt (sym (waiting_is_next w e lt) ∙ h) }
      where
        by : (m : Msg) (o : Option Passed) → next_for zs e ≡ o → e.side < 2 → option_map (λ x. x.msg) o ≡ Some m → FitsHead play player_binds plain (seated t.seat) e (carried_next r) m
        by m None next lt h = cc
        by m (Some x) next lt h =
            let it : x.msg ≡ m = cc in
            let has = next_has_a_place file w sound e x next in
            record {
              fits = refl;
              place = has.0;
              after = next_at_side w.requests zs e Into m has.0 lt (ap (after_place (end_at zs e).place Into) (sym it) ∙ has.1);
              names = taken_binds e cs r making there m;
              other = other_named e r there x m next it;
            }

    by_take : (e : EndId) (cs : List Call) → t.seat.calls ≡ calls.takes e ∷ cs → (o : Option Place) → place_held bs e ≡ o → SeatFits (want_of_take e o)
    by_take e cs making None there = tt
    by_take e cs making (Some r) there = by (may_take r)
      where
        by : (b : Bool) → SeatFits (where_allowed b (wanted.takes e (carried_next r)))
        by true = take_fits e cs r making there
        by false = tt

    close_fits : (e : EndId) (cs : List Call) (r : Place) → t.seat.calls ≡ calls.closes e ∷ cs → place_held bs e ≡ Some r → is_done r ≡ true → SeatFits (wanted.closes e)
    close_fits e cs r making there can =
        let lt = (s.known e r there).0 in
        let at : (end_at zs e).place ≡ done = s.places e r there ∙ done_by r can in
        let over : (plain_side w.requests zs e).place ≡ done = ap (λ (x : PlainSide Place). x.place) (side_below w.requests zs e lt) ∙ at in
        record {
          bound = held e r there;
          over = over;
          is_over = ap is_done over;
          nothing_waits = untaken_is w e lt ∙ untaken_by zs (end_at zs e) (end_at zs (semantics.other_end e)) at (pair_of zs zs e sound.pairs).even;
          names = subst (λ (new : Player). BindsWithout player_binds (seated t.seat) new e) (sym (goes_is (calls.closes e ∷ cs) making None)) (without_binds bs e);
        }

    by_close : (e : EndId) (cs : List Call) → t.seat.calls ≡ calls.closes e ∷ cs → (o : Option Place) → place_held bs e ≡ o → SeatFits (want_of_close e o)
    by_close e cs making None there = tt
    by_close e cs making (Some r) there = by (is_done r) refl
      where
        by : (b : Bool) → is_done r ≡ b → SeatFits (where_allowed b (wanted.closes e))
        by true can = close_fits e cs r making there can
        by false can = tt

    -- an end that the call opens is held too
    opened_binds : (c : Call) (cs : List Call) → t.seat.calls ≡ c ∷ cs → (place : Place) → opened_place t.seat.may c ≡ Some place → (e : EndId) → BindsAlso player_binds (seated t.seat) (play.opened (seated t.seat) e) e
    opened_binds c cs making place is e =
        subst (λ (new : Player). BindsAlso player_binds (seated t.seat) new e)
        (sym (ap (λ x. seated (opened_by t.seat x e)) making ∙ ap (λ (o : Option Place). seated (record { ends = with_opened bs e o; steps = t.seat.steps + 1; calls = cs; may = t.seat.may })) is))
        (push_binds bs e place)

    by_request : (r k : ℕ) (cs : List Call) → t.seat.calls ≡ calls.requests r k ∷ cs → (o : Option Place) → place_opened t.seat.may.requests r k ≡ o → SeatFits (want_of_request r o)
    by_request r k cs making None there = tt
    by_request r k cs making (Some place) there =
        ((s.may.requests r k place there).there, opened_binds (calls.requests r k) cs making place there (requested_end (opened_number q (length (w.requests q)))))

    by_accept : (r k : ℕ) (cs : List Call) → t.seat.calls ≡ calls.accepts r k ∷ cs → (o : Option Place) → place_opened t.seat.may.accepts r k ≡ o → SeatFits (want_of_accept r o)
    by_accept r k cs making None there = tt
    by_accept r k cs making (Some place) there = λ sess later h. opened_binds (calls.accepts r k) cs making place there (offered_end sess)

    pub seat_fits : (cs : List Call) → t.seat.calls ≡ cs → SeatFits (want_of_calls t.seat.may bs cs)
    seat_fits [] h = tt
    seat_fits (calls.sends e m ∷ cs) h = by_send e m cs h (place_held bs e) refl
    seat_fits (calls.delegates c e ∷ cs) h = by_delegate c e cs h (place_held bs c) (place_held bs e) refl refl
    seat_fits (calls.takes e ∷ cs) h = by_take e cs h (place_held bs e) refl
    seat_fits (calls.closes e ∷ cs) h = by_close e cs h (place_held bs e) refl
    seat_fits (calls.requests r k ∷ cs) h = by_request r k cs h (place_opened t.seat.may.requests r k) refl
    seat_fits (calls.accepts r k ∷ cs) h = by_accept r k cs h (place_opened t.seat.may.accepts r k) refl
