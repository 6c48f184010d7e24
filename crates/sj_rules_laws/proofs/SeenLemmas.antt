-- What the rules see of a plain world in which a party acted.
use Rattle.std.proofs.Common.{◌≡◌, ℕ, ◌+◌, ◌<◌, ◌≤◌, ◌==◌, Bool, false, cond, List, [], ◌∷◌, ◌++◌, map, length, slice_get, Option, Some, option_map, unwrap_or, refl, ap, sym, ◌∙◌, subst, arith, inl, inr, ◌⊎◌}
use Rattle.std.proofs.lemmas.Bool.{cases_Bool, cases_lt, eqb-true, eqb-false}
use Rattle.sj_base.specs.declared.EndId.{EndId}
use Rattle.sj_base.specs.declared.Msg.{Msg}
use Rattle.sj_lang.specs.declared.proto.Way.TheVariants.{Out, Into}
use Rattle.sj_lang.specs.Place.{Place}
use Rattle.sj_lang.specs.After.{after_place}
use Rattle.sj_semantics.specs.Ends.{Session, EndAt, nowhere, end_at}
use Rattle.sj_semantics.specs.Requests.{Requests}
use Rattle.sj_semantics.specs.Uses.{Use, sends, takes, delegates, begins, end_after, altered_list, after_uses}
use Rattle.sj_semantics.specs.Program.{Program}
use Rattle.sj_semantics.specs.World.{World, plain_change, changed_world}
use Rattle.sj_semantics_laws.proofs.AlteredLemmas.{slice_get-altered, slice_get-altered_other}
use Rattle.sj_semantics_laws.proofs.BoundLemmas.{is_end-self}
use Rattle.sj_semantics_laws.proofs.EndLemmas.{touched, end_at-touched_other, end_at-touched_same}
use Rattle.sj_semantics_laws.proofs.ClaimLemmas.{length-push}
use Rattle.sj_headline_laws.proofs.LeadLemmas.{map_push, moved_to}
use Rattle.sj_rules.specs.Record.{is_same_end}
use Rattle.sj_rules.specs.PlainSide.{PlainSide}
use Rattle.sj_rules.specs.Party.{nobody}
use Rattle.sj_rules.specs.Plain.{is_offered_end, side_at, plain_side, plain_at}
use Rattle.sj_rules.specs.Acts.{plain_sent, plain_taken, plain_parked, plain_placed}
use Rattle.sj_rules.specs.Moves.{with_program}
use Rattle.sj_rules_laws.proofs.SideLemmas.{same_end_is, apart_ends, side_below, side_above}

-- the program of the party that acted
pub programs_changed : (gs : List Program) (p : ℕ) (g c : Program) → slice_get gs p ≡ Some g → (q : ℕ)
    → unwrap_or (slice_get (altered_list gs p (λ h. c)) q) nobody ≡ cond (q == p) c (unwrap_or (slice_get gs q) nobody)
programs_changed gs p g c there q =
    elim (cases_Bool (q == p)) [
      | inl same ↦
          let it : p ≡ q = sym (eqb-true q p same) in
          ap (λ (o : Option Program). unwrap_or o nobody) (ap (slice_get (altered_list gs p (λ h. c))) (sym it) ∙ slice_get-altered gs p (λ h. c) ∙ ap (option_map (λ h. c)) there)
          ∙ ap (λ (b : Bool). cond b c (unwrap_or (slice_get gs q) nobody)) (sym same)
      | inr other ↦
          ap (λ (o : Option Program). unwrap_or o nobody) (slice_get-altered_other gs p q (λ h. c) (λ e. eqb-false q p other (sym e)))
          ∙ ap (λ (b : Bool). cond b c (unwrap_or (slice_get gs q) nobody)) (sym other)
    ]

module _ (old new : Requests) (p : ℕ) (zs : List Session) (e : EndId) (u : Use) (f : PlainSide Place → PlainSide Place) (low : e.side < 2) (else_same : (d : EndId) → is_same_end d e ≡ false → is_offered_end new d ≡ is_offered_end old d)
    (here_is : side_at (is_offered_end new e) (end_after p u (end_at zs e)) ≡ f (side_at (is_offered_end old e) (end_at zs e))) where
  left_side : (d : EndId) → is_same_end d e ≡ false → (d.side < 2) ⊎ (2 ≤ d.side) → plain_side new (touched p zs (e, u)) d ≡ plain_side old zs d
  left_side d other (inl below) =
      side_below new (touched p zs (e, u)) d below ∙ ap (side_at (is_offered_end new d)) (end_at-touched_other p zs (e, u) d (apart_ends d e below low other))
      ∙ ap (λ (b : Bool). side_at b (end_at zs d)) (else_same d other) ∙ sym (side_below old zs d below)
  left_side d other (inr above) = side_above new (touched p zs (e, u)) d above ∙ ap (λ (b : Bool). side_at b nowhere) (else_same d other) ∙ sym (side_above old zs d above)

  -- the side of the end that was used, and the others
  pub sides_changed : (d : EndId) → plain_side new (touched p zs (e, u)) d ≡ cond (is_same_end d e) (f (plain_side old zs d)) (plain_side old zs d)
  sides_changed d =
      elim (cases_Bool (is_same_end d e)) [
        | inl same ↦
            let it : d ≡ e = same_end_is d e same in
            let here : plain_side new (touched p zs (e, u)) e ≡ f (plain_side old zs e) =
            side_below new (touched p zs (e, u)) e low ∙ ap (side_at (is_offered_end new e)) (end_at-touched_same p zs (e, u) e (is_end-self e)) ∙ here_is ∙ ap f (sym (side_below old zs e low)) in
            subst (λ (x : EndId). plain_side new (touched p zs (e, u)) x ≡ f (plain_side old zs x)) (sym it) here
            ∙ ap (λ (b : Bool). cond b (f (plain_side old zs d)) (plain_side old zs d)) (sym same)
        | inr other ↦ left_side d other (cases_lt d.side 2) ∙ ap (λ (b : Bool). cond b (f (plain_side old zs d)) (plain_side old zs d)) (sym other)
      ]

-- where no session is opened or accepted
pub sides_touched : (all : Requests) (p : ℕ) (zs : List Session) (e : EndId) (u : Use) (f : PlainSide Place → PlainSide Place) → e.side < 2
    → ((b : Bool) → side_at b (end_after p u (end_at zs e)) ≡ f (side_at b (end_at zs e))) → (d : EndId)
    → plain_side all (touched p zs (e, u)) d ≡ cond (is_same_end d e) (f (plain_side all zs d)) (plain_side all zs d)
sides_touched all p zs e u f lt h = sides_changed all all p zs e u f lt (λ d other. refl) (h (is_offered_end all e))

-- ---- one use

pub sends_seen : (all : Requests) (p : ℕ) (zs : List Session) (e : EndId) (m : Msg) (next : Place) → e.side < 2 → after_place (end_at zs e).place Out m ≡ Some next → (d : EndId)
    → plain_side all (touched p zs (e, sends m)) d ≡ cond (is_same_end d e) (plain_sent (plain_side all zs d) next m) (plain_side all zs d)
sends_seen all p zs e m next lt h =
    let a : EndAt = end_at zs e in
    let place = moved_to a.place next (after_place a.place Out m) h in
    let sent = map_push a.sent (record { msg = m; by = p }) in
    sides_touched all p zs e (sends m) (λ x. plain_sent x next m) lt (λ b. λ i. record { place = place i; hops = a.hops; sent = sent i; taken = length a.takers; offered = b })

pub takes_seen : (all : Requests) (p : ℕ) (zs : List Session) (e : EndId) (m : Msg) (next : Place) → e.side < 2 → after_place (end_at zs e).place Into m ≡ Some next → (d : EndId)
    → plain_side all (touched p zs (e, takes m)) d ≡ cond (is_same_end d e) (plain_taken (plain_side all zs d) next) (plain_side all zs d)
takes_seen all p zs e m next lt h =
    let a : EndAt = end_at zs e in
    let place = moved_to a.place next (after_place a.place Into m) h in
    let taken : length (a.takers ++ p ∷ []) ≡ length a.takers + 1 = omega (arith, length-push a.takers p) in
    sides_touched all p zs e (takes m) (λ x. plain_taken x next) lt (λ b. λ i. record { place = place i; hops = a.hops; sent = map (λ x. x.msg) a.sent; taken = taken i; offered = b })

pub hands_seen : (all : Requests) (p : ℕ) (zs : List Session) (e : EndId) → e.side < 2 → (d : EndId)
    → plain_side all (touched p zs (e, delegates)) d ≡ cond (is_same_end d e) (plain_parked (plain_side all zs d)) (plain_side all zs d)
hands_seen all p zs e lt = sides_touched all p zs e delegates plain_parked lt (λ b. refl)

pub begins_seen : (all : Requests) (p : ℕ) (zs : List Session) (e : EndId) (place : Place) → e.side < 2 → (d : EndId)
    → plain_side all (touched p zs (e, begins place)) d ≡ cond (is_same_end d e) (plain_placed (plain_side all zs d) place) (plain_side all zs d)
begins_seen all p zs e place lt = sides_touched all p zs e (begins place) (λ x. plain_placed x place) lt (λ b. refl)

-- ---- a change that opens nothing

pub change_seen : (w : World) (p : ℕ) (g c : Program) (us : List (EndId × Use)) (sides : EndId → PlainSide Place) → slice_get w.parties p ≡ Some g
    → ((d : EndId) → plain_side w.requests (after_uses p us w.sessions) d ≡ sides d)
    → plain_at (changed_world w p (plain_change c us)) ≡ record (with_program p c (plain_at w)) { sides = sides }
change_seen w p g c us sides there same =
    let programs = programs_changed w.parties p g c there in
    λ i. record { programs = λ q. programs q i; sides = λ d. same d i; requests = (plain_at w).requests; offers = (plain_at w).offers }
