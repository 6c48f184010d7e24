-- A lawful plain world gives each step the facts that the core's acts rest on.
use Rattle.std.proofs.Common.{◌≡◌, ◌↔◌, ℕ, ◌+◌, ◌<◌, ◌≤◌, length, Bool, true, false, cond, ◌==◌, ◌&&◌, List, [], ◌∷◌, ◌++◌, Option, Some, None, refl, ap, sym, ◌∙◌, subst, arith, inl, inr, ◌⊎◌}
use Rattle.std.proofs.lemmas.Bool.{eq-eqb, false_from_ne_true, both_ways, true≢false, and_from, and_left, and_right}
use Rattle.sj_base.specs.declared.EndId.{EndId}
use Rattle.sj_base.specs.declared.Msg.{Msg}
use Rattle.sj_base.specs.declared.Msg.TheVariants as msgs
use Rattle.sj_rules.specs.Record.{other_end, is_same_end, requested_end, offered_end}
use Rattle.sj_rules.specs.Opened.{opened_number}
use Rattle.sj_rules.specs.Limits.{limit_of_requests}
use Rattle.sj_rules.specs.Node.{local, sends, delegates, takes, closes, requests, accepts, Play}
use Rattle.sj_rules.specs.PlainSide.{PlainSide, PlainAt, CountsFit}
use Rattle.sj_rules.specs.Linked.{waiting_at}
use Rattle.sj_rules.specs.Acts.{plain_sent, plain_taken, plain_parked, plain_placed, plain_opened, plain_accepted}
use Rattle.sj_rules.specs.Moves.{with_side, with_program, with_opened, plain_goes, plain_sends, plain_delegates, plain_takes, plain_names, plain_requests}
use Rattle.sj_rules.specs.Binding.{NamesNoEnd, BindsSame, BindsWithout, BindsAlso, BindsTaken}
use Rattle.sj_rules.specs.Premises.{FitsSend, FitsDelegate, FitsHead, FitsTake, FitsClose, FitsAccept, FitsRequest, FitsStep, IsLawful}
use Rattle.sj_rules.specs.PlainChanges.{CountsHold, plain_with_hop, Proceeds}
use Rattle.sj_rules.specs.PlainSteps.{PlainLocal, PlainSend, PlainTake, PlainTakeEnd, PlainDelegate, PlainClose, PlainOpens, PlainRequest, PlainAccept}
use Rattle.sj_rules_laws.proofs.SideLemmas.{other_side_below, same_end_self, same_end_is}
use Rattle.sj_world_lemmas.proofs.SwapLemmas.{other_other}
use Rattle.sj_semantics.specs.World.{session_message}

-- truth values that are true together are one
same_truth : (a b : Bool) → (a ≡ true) ↔ (b ≡ true) → a ≡ b
same_truth true b h = sym (h.0 refl)
same_truth false true h = h.1 refl
same_truth false false h = refl

not_same_back : (c d : EndId) → is_same_end c d ≡ false → is_same_end d c ≡ false
not_same_back c d h = false_from_ne_true (is_same_end d c) (λ t. both_ways (is_same_end c d) h (subst (λ (x : EndId). is_same_end c x ≡ true) (sym (same_end_is d c t)) (same_end_self c)))

-- a side with one handover more, or the same
record IsSideOf {P : Type 0} (new old : PlainSide P) : Type 0 where
  sent : new.sent ≡ old.sent
  taken : new.taken ≡ old.taken
  hops : new.hops ≤ old.hops + 1

hopped_side_of : {P Q : Type 0} → (plain : PlainAt P Q) (d e : EndId) → IsSideOf ((plain_with_hop plain d).sides e) (plain.sides e)
hopped_side_of {P} plain d e = by (is_same_end e d) (λ t. same_end_is e d t)
  where
    by : (b : Bool) → (b ≡ true → e ≡ d) → IsSideOf (cond b (plain_parked (plain.sides d)) (plain.sides e)) (plain.sides e)
    by true same =
        let it : e ≡ d = same refl in
        record {
          sent = ap (λ (x : EndId). (plain.sides x).sent) (sym it);
          taken = ap (λ (x : EndId). (plain.sides x).taken) (sym it);
          hops = omega (arith, ap (λ (x : EndId). (plain.sides x).hops) it);
        }
    by false same = record { sent = refl; taken = refl; hops = omega arith }

counts_of : {P : Type 0} → (x y new_x new_y : PlainSide P) → x.hops + y.hops ≤ 200 → CountsFit x y → IsSideOf new_x x → IsSideOf new_y y → CountsFit new_x new_y
counts_of x y new_x new_y few c a b = record {
  fewer = omega (arith, c.fewer, a.taken, ap (λ (ms : List Msg). length ms) b.sent);
  hops = omega (arith, few, a.hops, b.hops);
}

module _ {P Q : Type 0} (IsOver : P → Type 0) (play : Play P Q) (binds : Q → EndId → Bool) (parties : ℕ) (plain : PlainAt P Q) (lawful : IsLawful IsOver play binds parties plain) where
  -- the counts of every session
  pub counts_hold : CountsHold plain
  counts_hold e lt =
      let own = lawful.counts e lt in
      let other = lawful.counts (other_end e) (other_side_below e) in
      record {
        fewer = subst (λ (d : EndId). (plain.sides (other_end e)).taken ≤ length (plain.sides d).sent) (other_other e lt) other.fewer;
        hops = omega (arith, own.hops);
      }

  -- and with one handover more
  counts_hopped : (d : EndId) → CountsHold (plain_with_hop plain d)
  counts_hopped d e lt =
      let few = (lawful.counts e lt).hops in
      counts_of (plain.sides (other_end e)) (plain.sides e) ((plain_with_hop plain d).sides (other_end e)) ((plain_with_hop plain d).sides e) (omega (arith, few)) (counts_hold e lt)
      (hopped_side_of plain d (other_end e)) (hopped_side_of plain d e)

  module _ (p : ℕ) where
    abbrev g : Q
    g = plain.programs p

    below : (e : EndId) → binds g e ≡ true → e.side < 2
    below e b = (lawful.proper p e b).0

    -- an end that is bound was accepted
    accepted : (e : EndId) → binds g e ≡ true → (plain.sides e).offered ≡ false
    accepted e b = false_from_ne_true (plain.sides e).offered (λ o. both_ways (binds g e) (lawful.unbound p e o) b)

    proceeds : (taken : Option Msg) (sides : EndId → PlainSide P) → ((e : EndId) → (sides e).offered ≡ (plain.sides e).offered)
        → Proceeds plain (record (plain_goes play p taken plain) { sides = sides }) p (play.goes g taken)
    proceeds taken sides same = record {
      here = ap (λ (b : Bool). cond b (play.goes g taken) g) (eq-eqb p p refl);
      away = λ k h. ap (λ (b : Bool). cond b (play.goes g taken) (plain.programs k)) h;
      requests = λ k. refl;
      offers = λ from to. refl;
      offered = same;
    }

    -- of one end, or the other
    either : (b : Bool) (x y z : PlainSide P) → x.offered ≡ z.offered → y.offered ≡ z.offered → (cond b x y).offered ≡ z.offered
    either true x y z one other = one
    either false x y z one other = other

    after_is : (taken : Option Msg) → (plain_goes play p taken plain).programs p ≡ play.goes g taken
    after_is taken = (proceeds taken plain.sides (λ e. refl)).here

    keeps_names : (taken : Option Msg) → BindsSame binds g (play.goes g taken) → (e : EndId) → binds ((plain_goes play p taken plain).programs p) e ≡ binds g e
    keeps_names taken h e = ap (λ q. binds q e) (after_is taken) ∙ same_truth (binds (play.goes g taken) e) (binds g e) (h e)

    loses_name : (y : EndId) → BindsWithout binds g (play.goes g None) y → binds ((plain_goes play p None plain).programs p) y ≡ false
    loses_name y h = ap (λ q. binds q y) (after_is None) ∙ false_from_ne_true (binds (play.goes g None) y) (λ t. true≢false (sym (same_end_self y) ∙ ((h y).0 t).1))

    keeps_others : (y : EndId) → BindsWithout binds g (play.goes g None) y → (e : EndId) → is_same_end e y ≡ false → binds ((plain_goes play p None plain).programs p) e ≡ binds g e
    keeps_others y h e apart = ap (λ q. binds q e) (after_is None) ∙ same_truth (binds (play.goes g None) e) (binds g e) (λ t. ((h e).0 t).0, λ t. (h e).1 (t, apart))

    -- the side that changed, and the others
    here_side : (c : EndId) (f : PlainSide P → PlainSide P) (x : PlainSide P) → cond (is_same_end c c) (f x) x ≡ f x
    here_side c f x = ap (λ (b : Bool). cond b (f x) x) (same_end_self c)

    -- ---- by what the step wants

    pub gives_local : play.wants g ≡ local → PlainLocal IsOver binds play plain (plain_goes play p None plain) p
    gives_local is =
        let fit : BindsSame binds g (play.goes g None) = subst (FitsStep IsOver play binds plain p g) is (lawful.steps p) in
        record { proceeds = proceeds None plain.sides (λ e. refl); sides = λ e. refl; binds_same = λ e lt. keeps_names None fit e }

    pub gives_send : (c : EndId) (m : Msg) → play.wants g ≡ sends c m → (fit : FitsSend IsOver play binds plain g c m) × PlainSend IsOver binds play plain (plain_sends play p c m fit.place plain) p c m fit.place
    gives_send c m is =
        let fit : FitsSend IsOver play binds plain g c m = subst (FitsStep IsOver play binds plain p g) is (lawful.steps p) in (
          fit,
          record {
            below = below c fit.bound;
            accepted = accepted c fit.bound;
            value = fit.no_end;
            fits = fit.after;
            open_there = fit.goes_on;
            proceeds = proceeds None (plain_sends play p c m fit.place plain).sides (λ e. either (is_same_end e c) (plain_sent (plain.sides e) fit.place m) (plain.sides e) (plain.sides e) refl refl);
            side = here_side c (λ x. plain_sent x fit.place m) (plain.sides c);
            sides = λ e apart. ap (λ (b : Bool). cond b (plain_sent (plain.sides e) fit.place m) (plain.sides e)) apart;
            binds_same = λ e lt. keeps_names None fit.names e;
          },
        )

    pub gives_delegate : (c d : EndId) → play.wants g ≡ delegates c d → (plain.sides d).hops < 100
        → (fit : FitsDelegate IsOver play binds plain p g c d) × PlainDelegate IsOver binds play plain (plain_delegates play p c d fit.place plain) p c d fit.place
    gives_delegate c d is few =
        let fit : FitsDelegate IsOver play binds plain p g c d = subst (FitsStep IsOver play binds plain p g) is (lawful.steps p) in
        let mid = λ (e : EndId). cond (is_same_end e d) (plain_parked (plain.sides e)) (plain.sides e) in (
          fit,
          record {
            below = below c fit.bound;
            below_it = below d fit.handed;
            accepted = accepted c fit.bound;
            accepted_it = accepted d fit.handed;
            apart = fit.apart;
            few = few;
            counts = counts_hopped d;
            fits = fit.after;
            open_there = fit.goes_on;
            proceeds = proceeds None (plain_delegates play p c d fit.place plain).sides (λ e.
                either (is_same_end e c) (plain_sent (mid e) fit.place (session_message d p)) (mid e) (plain.sides e)
                (either (is_same_end e d) (plain_parked (plain.sides e)) (plain.sides e) (plain.sides e) refl refl) (either (is_same_end e d) (plain_parked (plain.sides e)) (plain.sides e) (plain.sides e) refl refl));
            side = here_side c (λ x. plain_sent x fit.place (session_message d p)) (mid c)
                ∙ ap (λ (b : Bool). plain_sent (cond b (plain_parked (plain.sides c)) (plain.sides c)) fit.place (session_message d p)) fit.apart;
            side_it = ap (λ (b : Bool). cond b (plain_sent (mid d) fit.place (session_message d p)) (mid d)) (not_same_back c d fit.apart)
                ∙ here_side d plain_parked (plain.sides d);
            sides = λ e apart apart'. ap (λ (b : Bool). cond b (plain_sent (mid e) fit.place (session_message d p)) (mid e)) apart
                ∙ ap (λ (b : Bool). cond b (plain_parked (plain.sides e)) (plain.sides e)) apart';
            binds_it = loses_name d fit.names;
            binds_else = λ e lt apart. keeps_others d fit.names e apart;
          },
        )

    pub gives_close : (c : EndId) → play.wants g ≡ closes c → PlainClose IsOver binds play plain (plain_goes play p None plain) p c
    gives_close c is =
        let fit : FitsClose IsOver play binds plain g c = subst (FitsStep IsOver play binds plain p g) is (lawful.steps p) in
        record {
          below = below c fit.bound;
          accepted = accepted c fit.bound;
          over = fit.is_over;
          is_over = fit.over;
          all_taken = fit.nothing_waits;
          proceeds = proceeds None plain.sides (λ e. refl);
          sides = λ e. refl;
          binds_it = loses_name c fit.names;
          binds_else = λ e lt apart. keeps_others c fit.names e apart;
        }

    head_of : (c : EndId) (place : P) (m : Msg) → play.wants g ≡ takes c place → waiting_at plain c 0 ≡ Some m → (c.side < 2) × ((plain.sides c).offered ≡ false) × FitsHead play binds plain g c place m
    head_of c place m is waits =
        let fit : FitsTake play binds plain g c place = subst (FitsStep IsOver play binds plain p g) is (lawful.steps p) in
        (below c fit.bound, accepted c fit.bound, fit.head m waits)

    no_end_binds : (m : Msg) (q : Q) → NamesNoEnd m → BindsTaken binds g q m → BindsSame binds g q
    no_end_binds (msgs.Sess s d k) q none h = absurd none
    no_end_binds (msgs.Int i) q none h = h
    no_end_binds (msgs.Bool b) q none h = h
    no_end_binds (msgs.Text i) q none h = h
    no_end_binds (msgs.Label i) q none h = h
    no_end_binds (msgs.More b) q none h = h

    -- a value names no end
    value_names : (place : P) (m : Msg) (z : PlainAt P Q) → NamesNoEnd m → plain_names place m z ≡ z
    value_names place (msgs.Sess s d k) z none = absurd none
    value_names place (msgs.Int i) z none = refl
    value_names place (msgs.Bool b) z none = refl
    value_names place (msgs.Text i) z none = refl
    value_names place (msgs.Label i) z none = refl
    value_names place (msgs.More b) z none = refl

    pub gives_take : (c : EndId) (place : P) (m : Msg) → play.wants g ≡ takes c place → waiting_at plain c 0 ≡ Some m → NamesNoEnd m
        → (fit : FitsHead play binds plain g c place m) × PlainTake IsOver binds play plain (plain_names place m (plain_takes play p c m fit.place plain)) p c m fit.place
    gives_take c place m is waits none =
        let h = head_of c place m is waits in (
          h.2,
          subst (λ (z : PlainAt P Q). PlainTake IsOver binds play plain z p c m h.2.place) (sym (value_names place m (plain_takes play p c m h.2.place plain) none))
              (record {
                below = h.0;
                accepted = h.1;
                value = none;
                wanted = h.2.fits;
                fits = h.2.after;
                proceeds = proceeds (Some m) (plain_takes play p c m h.2.place plain).sides (λ e. either (is_same_end e c) (plain_taken (plain.sides e) h.2.place) (plain.sides e) (plain.sides e) refl refl);
                side = here_side c (λ x. plain_taken x h.2.place) (plain.sides c);
                sides = λ e apart. ap (λ (b : Bool). cond b (plain_taken (plain.sides e) h.2.place) (plain.sides e)) apart;
                binds_same = λ e lt. keeps_names (Some m) (no_end_binds m (play.goes g (Some m)) none h.2.names) e;
              }),
        )

    -- the names that a program has once one more end is bound
    also_bound : (new : Q) (d : EndId) → BindsAlso binds g new d → binds new d ≡ true
    also_bound new d names = (names d).1 (inl (same_end_self d))

    also_else : (new : Q) (d : EndId) → BindsAlso binds g new d → (e : EndId) → is_same_end e d ≡ false → binds new e ≡ binds g e
    also_else new d names e apart = same_truth (binds new e) (binds g e) (λ t. old ((names e).0 t), λ t. (names e).1 (inr t))
      where
        old : (is_same_end e d ≡ true) ⊎ (binds g e ≡ true) → binds g e ≡ true
        old (inl same) = absurd (both_ways (is_same_end e d) apart same)
        old (inr h) = h

    pub gives_take_end : (c d : EndId) (keeper : ℕ) (place : P) → play.wants g ≡ takes c place → waiting_at plain c 0 ≡ Some (session_message d keeper)
        → (fit : FitsHead play binds plain g c place (session_message d keeper))
        × PlainTakeEnd IsOver binds play plain (plain_names place (session_message d keeper) (plain_takes play p c (session_message d keeper) fit.place plain)) p c d keeper place fit.place
    gives_take_end c d keeper place is waits =
        let h = head_of c place (session_message d keeper) is waits in
        let names : BindsAlso binds g (play.goes g (Some (session_message d keeper))) d = h.2.names in
        let other : is_same_end c d ≡ false = h.2.other in
        let mid = λ (e : EndId). cond (is_same_end e c) (plain_taken (plain.sides e) h.2.place) (plain.sides e) in (
          h.2,
          record {
            below = h.0;
            accepted = h.1;
            wanted = h.2.fits;
            fits = h.2.after;
            proceeds = proceeds (Some (session_message d keeper)) (plain_names place (session_message d keeper) (plain_takes play p c (session_message d keeper) h.2.place plain)).sides (λ e.
                either (is_same_end e d) (plain_placed (mid e) place) (mid e) (plain.sides e)
                (either (is_same_end e c) (plain_taken (plain.sides e) h.2.place) (plain.sides e) (plain.sides e) refl refl) (either (is_same_end e c) (plain_taken (plain.sides e) h.2.place) (plain.sides e) (plain.sides e) refl refl));
            side = ap (λ (b : Bool). cond b (plain_placed (mid c) place) (mid c)) other ∙ here_side c (λ x. plain_taken x h.2.place) (plain.sides c);
            side_it = here_side d (λ x. plain_placed x place) (mid d) ∙ ap (λ (b : Bool). plain_placed (cond b (plain_taken (plain.sides d) h.2.place) (plain.sides d)) place) (not_same_back c d other);
            sides = λ e apart apart'. ap (λ (b : Bool). cond b (plain_placed (mid e) place) (mid e)) apart' ∙ ap (λ (b : Bool). cond b (plain_taken (plain.sides e) h.2.place) (plain.sides e)) apart;
            binds_it = ap (λ q. binds q d) (after_is (Some (session_message d keeper))) ∙ also_bound (play.goes g (Some (session_message d keeper))) d names;
            binds_else = λ e lt apart. ap (λ q. binds q e) (after_is (Some (session_message d keeper))) ∙ also_else (play.goes g (Some (session_message d keeper))) d names e apart;
          },
        )

    -- ---- sessions

    program_is : (new : Q) → cond (p == p) new g ≡ new
    program_is new = ap (λ (b : Bool). cond b new g) (eq-eqb p p refl)

    opens_end : (plain' : PlainAt P Q) (new : Q) (d : EndId) → BindsAlso binds g new d → plain'.programs p ≡ new → ((k : ℕ) → (k == p) ≡ false → plain'.programs k ≡ plain.programs k) → PlainOpens IsOver binds play plain plain' p new d
    opens_end plain' new d names here away = record {
      here = here;
      away = away;
      binds_it = ap (λ q. binds q d) here ∙ also_bound new d names;
      binds_else = λ e lt apart. ap (λ q. binds q e) here ∙ also_else new d names e apart;
    }

    both : (m n : ℕ) → ((m == m) && (n == n)) ≡ true
    both m n = and_from (m == m) (n == n) (eq-eqb m m refl) (eq-eqb n n refl)

    pub gives_request : (place : P) (to : ℕ) → play.wants g ≡ requests place to → plain.requests p < limit_of_requests
        → PlainRequest IsOver binds play plain (plain_requests play p place to (opened_number p (plain.requests p)) plain) p place (play.dual place) to
    gives_request place to is few =
        let fit : FitsRequest play binds plain p g to = subst (FitsStep IsOver play binds plain p g) is (lawful.steps p) in
        let s : ℕ = opened_number p (plain.requests p) in
        let far = λ (d : EndId). cond (is_same_end d (offered_end s)) (plain_opened (play.dual place) true) (plain.sides d) in
        record {
          few = few;
          known = fit.0;
          goes = opens_end (plain_requests play p place to s plain) (play.opened g (requested_end s)) (requested_end s) fit.1 (program_is (play.opened g (requested_end s))) (λ k h. ap (λ (b : Bool). cond b (play.opened g (requested_end s)) (plain.programs k)) h);
          counts = ap (λ (b : Bool). cond b (plain.requests p + 1) (plain.requests p)) (eq-eqb p p refl);
          counts_else = λ k h. ap (λ (b : Bool). cond b (plain.requests k + 1) (plain.requests k)) h;
          near = here_side (requested_end s) (λ x. plain_opened place false) (far (requested_end s));
          far = ap (λ (b : Bool). cond b (plain_opened place false) (far (offered_end s))) (and_right (s == s) false refl) ∙ here_side (offered_end s) (λ x. plain_opened (play.dual place) true) (plain.sides (offered_end s));
          sides = λ e h. ap (λ (b : Bool). cond b (plain_opened place false) (far e)) (and_left (e.sess == s) (e.side == 0) h) ∙ ap (λ (b : Bool). cond b (plain_opened (play.dual place) true) (plain.sides e)) (and_left (e.sess == s) (e.side == 1) h);
          offers = ap (λ (b : Bool). cond b (plain.offers p to ++ s ∷ []) (plain.offers p to)) (both p to);
          offers_else = λ from q h. ap (λ (b : Bool). cond b (plain.offers p to ++ s ∷ []) (plain.offers from q)) h;
        }

    pub gives_accept : (place : P) (from sess : ℕ) (later : List ℕ) → play.wants g ≡ accepts place from → plain.offers from p ≡ sess ∷ later
        → PlainAccept IsOver binds play plain (with_side (offered_end sess) (λ x. plain_accepted x place) (with_opened from p later (with_program p (play.opened g (offered_end sess)) plain))) p place from sess later
    gives_accept place from sess later is first =
        let fit : FitsAccept play binds plain p g from = subst (FitsStep IsOver play binds plain p g) is (lawful.steps p) in
        let d : EndId = offered_end sess in
        record {
          first = first;
          goes = opens_end (with_side d (λ x. plain_accepted x place) (with_opened from p later (with_program p (play.opened g d) plain))) (play.opened g d) d (fit sess later first) (program_is (play.opened g d)) (λ k h. ap (λ (b : Bool). cond b (play.opened g d) (plain.programs k)) h);
          side = here_side d (λ x. plain_accepted x place) (plain.sides d);
          sides = λ e h. ap (λ (b : Bool). cond b (plain_accepted (plain.sides e) place) (plain.sides e)) h;
          requests = λ k. refl;
          offers = ap (λ (b : Bool). cond b later (plain.offers from p)) (both from p);
          offers_else = λ q r h. ap (λ (b : Bool). cond b later (plain.offers q r)) h;
        }
