-- Each act keeps a world sound in which several parties are played by code of their own. Each of
-- them sees it as a seat's world, beside what the others hold.
use Rattle.std.proofs.Common.{◌≡◌, ℕ, zero, suc, ◌+◌, ◌*◌, ◌≤◌, nat_lt, true, false, not, List, [], ◌∷◌, length, slice_get, Option, Some, None, option_map, unwrap_or, sum_by, refl, ap, sym, ◌∙◌, subst, arith, inl, inr, ◌⊎◌}
use Rattle.std.proofs.lemmas.Bool.{cases_Bool, cases_eq, false_from_ne_true, ltb-true}
use Rattle.std.proofs.lemmas.List.Sums.{sum_by-cons}
use Rattle.sj_base.specs.declared.EndId.{EndId}
use Rattle.sj_lang.specs.FileAt.{FileAt}
use Rattle.sj_lang.specs.Place.{Place}
use Rattle.sj_semantics.specs.Ends.{EndAt, end_at, is_end}
use Rattle.sj_semantics.specs.Program.{Program}
use Rattle.sj_semantics.specs.Uses.{Use, altered_list, begins, delegates, sends, takes}
use Rattle.sj_semantics.specs.World.{World, act_of}
use Rattle.sj_semantics_laws.specs.Unshared.{IsToCome, claims_on}
use Rattle.sj_semantics_laws.proofs.AlteredLemmas.{length-altered, one-le-sum_by, slice_get-altered, slice_get-altered_other, sum_by-altered, two-le-sum_by}
use Rattle.sj_semantics_laws.proofs.BoundLemmas.{is_end_sym}
use Rattle.sj_semantics_laws.proofs.ChangeLemmas.{rests_on}
use Rattle.sj_semantics_laws.proofs.CommuteLemmas.{doing_of as acts_by}
use Rattle.sj_semantics_laws.proofs.EndLemmas.{IsUnusedBy, end_at-after_uses_other}
use Rattle.sj_semantics_laws.proofs.KeepLemmas.{claims_on-act, come_before}
use Rattle.sj_semantics_laws.proofs.MineLemmas.{all_mine}
use Rattle.sj_semantics_laws.proofs.ToComeLemmas.{OpeningFits, opened_was_to_come, opens}
use Rattle.sj_headline_laws.proofs.FreeLemmas.{Free, comes, fetched}
use Rattle.sj_headline_laws.proofs.SoundLemmas.{act_keeps_sound}
use Rattle.sj_headline_laws.proofs.UnnamedLemmas.{named_carried}
use Rattle.sj_headline_laws.proofs.WorldLemmas.{Sound}
use Rattle.sj_rules_laws.proofs.CountLemmas.{made_counted, sent_in, steps_of}
use Rattle.sj_rules_laws.proofs.MadeLemmas.{made_of}
use Rattle.sj_rules_laws.proofs.ProperLemmas.{IsProper}
use Rattle.sj_rules_laws.proofs.ProperRunLemmas.{act_keeps_proper, programs_keep, size_of}
use Rattle.sj_seat_laws.specs.Calls.{SeatedAt, place_held}
use Rattle.sj_seat_laws.specs.Guards.{seated_want}
use Rattle.sj_seat_laws.specs.SeatedStart.{no_program}
use Rattle.sj_seat_laws.specs.SeatedWorld.{Doing, SeatedWorld, after_doing, beside, doing_by, doing_of}
use Rattle.sj_seat_laws.specs.SeatsWorld.{Seats, SeatsWorld, all_beside, seat_of, seats_act, seats_act_by, with_seat}
use Rattle.sj_seat_laws.proofs.BeginningLemmas.{doing_fits, doing_free}
use Rattle.sj_seat_laws.proofs.CallLemmas.{mine_unused}
use Rattle.sj_seat_laws.proofs.ClosingLemmas.{worn_fewer}
use Rattle.sj_seat_laws.proofs.GuardLemmas.{once_by}
use Rattle.sj_seat_laws.proofs.HeldLemmas.{held_by_place, holds, holds-same}
use Rattle.sj_seat_laws.proofs.LocatedLemmas.{AllFound, act_keeps_found, found_more}
use Rattle.sj_seat_laws.proofs.OpeningLemmas.{come_then}
use Rattle.sj_seat_laws.proofs.SeatedLemmas.{AreKnown, ArePlaced, IsSeat, IsSeatedBeside, MayOpenSo, call_keeps}
use Rattle.sj_seat_laws.proofs.UsingLemmas.{IsHeldUse, calls_own, worn_doing}

-- ---- what all hold

-- in how many ways the party holds the end, and how many calls it made
abbrev pub holds_in : EndId → Option SeatedAt → ℕ
holds_in e None = 0
holds_in e (Some s) = holds e s.ends

abbrev pub calls_in : Option SeatedAt → ℕ
calls_in None = 0
calls_in (Some s) = s.steps

abbrev pub all_hold : EndId → Seats → ℕ
all_hold e seats = sum_by (holds_in e) seats

abbrev pub all_calls : Seats → ℕ
all_calls seats = sum_by calls_in seats

-- that party is so, or isn't there
abbrev pub altered_seat : Seats → ℕ → Option SeatedAt → Seats
altered_seat seats q o = altered_list seats q (λ (x : Option SeatedAt). o)

module _ (seats : Seats) (q : ℕ) (s : SeatedAt) (at : seat_of seats q ≡ Some s) where
  pub seat_there : slice_get seats q ≡ Some (Some s)
  seat_there = by (slice_get seats q) refl at
    where
      by : (o : Option (Option SeatedAt)) → slice_get seats q ≡ o → unwrap_or o None ≡ Some s → slice_get seats q ≡ Some (Some s)
      by None is k = cc
      by (Some o) is k = is ∙ ap Some k

  -- with another one there
  pub held_altered : (e : EndId) (o : Option SeatedAt) → all_hold e (altered_seat seats q o) + holds e s.ends ≡ all_hold e seats + holds_in e o
  held_altered e o = sum_by-altered (holds_in e) seats q (λ (x : Option SeatedAt). o) (Some s) seat_there

  pub calls_altered : (o : Option SeatedAt) → all_calls (altered_seat seats q o) + s.steps ≡ all_calls seats + calls_in o
  calls_altered o = sum_by-altered calls_in seats q (λ (x : Option SeatedAt). o) (Some s) seat_there

  pub one_holds : (e : EndId) → holds e s.ends ≤ all_hold e seats
  one_holds e = one-le-sum_by (holds_in e) seats q (Some s) seat_there

  -- who sits where then
  pub seat_now : (u : SeatedAt) → seat_of (altered_seat seats q (Some u)) q ≡ Some u
  seat_now u = ap (λ (o : Option (Option SeatedAt)). unwrap_or o None) (slice_get-altered seats q (λ (x : Option SeatedAt). Some u) ∙ ap (option_map (λ (x : Option SeatedAt). Some u)) seat_there)

  pub seat_other : (u : SeatedAt) (r : ℕ) → (q ≡ r → ⊥) → seat_of (altered_seat seats q (Some u)) r ≡ seat_of seats r
  seat_other u r other = ap (λ (o : Option (Option SeatedAt)). unwrap_or o None) (slice_get-altered_other seats q r (λ (x : Option SeatedAt). Some u) other)

  pub seat_after : (u : SeatedAt) (r : ℕ) (v : SeatedAt) → seat_of (altered_seat seats q (Some u)) r ≡ Some v → ((q ≡ r) × (u ≡ v)) ⊎ ((q ≡ r → ⊥) × (seat_of seats r ≡ Some v))
  seat_after u r v h =
      elim (cases_eq q r) [
        | inl it ↦
            let both : Some u ≡ Some v = sym (seat_now u) ∙ ap (seat_of (altered_seat seats q (Some u))) it ∙ h in
            let same : u ≡ v = cc in
            inl (it, same)
        | inr other ↦ inr (other, sym (seat_other u r other) ∙ h)
      ]

pub two_hold : (seats : Seats) (q r : ℕ) (s v : SeatedAt) (e : EndId) → seat_of seats q ≡ Some s → seat_of seats r ≡ Some v → (q ≡ r → ⊥) → holds e s.ends + holds e v.ends ≤ all_hold e seats
two_hold seats q r s v e at there other = two-le-sum_by (holds_in e) seats q r (Some s) (Some v) (seat_there seats q s at) (seat_there seats r v there) other

-- somebody holds an end that is held
pub holder_of : (seats : Seats) (e : EndId) → 1 ≤ all_hold e seats → (q : ℕ) × (s : SeatedAt) × (seat_of seats q ≡ Some s) × (1 ≤ holds e s.ends)
holder_of [] e h = absurd (omega (arith, h))
holder_of (None ∷ os) e h = let r = holder_of os e (omega (arith, h, sum_by-cons (holds_in e) None os)) in (suc r.0, r.1, r.2, r.3)
holder_of (Some s ∷ os) e h = by (holds e s.ends) refl (holder_of os e)
  where
    by : (k : ℕ) → holds e s.ends ≡ k → (1 ≤ all_hold e os → (q : ℕ) × (v : SeatedAt) × (seat_of os q ≡ Some v) × (1 ≤ holds e v.ends)) → (q : ℕ) × (v : SeatedAt) × (seat_of (Some s ∷ os) q ≡ Some v) × (1 ≤ holds e v.ends)
    by zero is rest = let r = rest (omega (arith, h, sum_by-cons (holds_in e) (Some s) os, is)) in (suc r.0, r.1, r.2, r.3)
    by (suc k) is rest = (0, s, refl, omega (arith, is))

-- ---- what holds of each world of a run, after so many acts

pub record IsSeats (file : FileAt) (n : ℕ) (t : SeatsWorld) : Type 0 where
  pub sound : Sound file t.world
  pub once : (e : EndId) → claims_on e t.world + all_hold e t.seats ≤ 1
  pub apart : (e : EndId) → IsToCome t.world e → all_hold e t.seats ≡ 0
  pub idle : (q : ℕ) (s : SeatedAt) → seat_of t.seats q ≡ Some s → slice_get t.world.parties q ≡ Some (no_program file)
  pub places : (q : ℕ) (s : SeatedAt) → seat_of t.seats q ≡ Some s → ArePlaced t.world.sessions s.ends
  pub known : (q : ℕ) (s : SeatedAt) → seat_of t.seats q ≡ Some s → AreKnown file s.ends
  pub calls : (q : ℕ) (s : SeatedAt) → seat_of t.seats q ≡ Some s → s.steps ≤ 10000
  pub may : (q : ℕ) (s : SeatedAt) → seat_of t.seats q ≡ Some s → MayOpenSo file q s.may
  pub found : AllFound t.world (λ e. all_hold e t.seats)
  pub proper : IsProper (size_of file) t.world
  pub hops : (e : EndId) → (end_at t.world.sessions e).hops ≤ 100
  pub steps : (q : ℕ) (g : Program) → slice_get t.world.parties q ≡ Some g → g.steps ≤ 10000
  pub many : length t.seats ≡ length t.world.parties
  pub messages : sum_by sent_in t.world.sessions ≤ sum_by steps_of t.world.parties + all_calls t.seats
  pub count : n ≡ sum_by steps_of t.world.parties + all_calls t.seats

-- ---- as one of them sees it

module _ (file : FileAt) (n : ℕ) (t : SeatsWorld) (i : IsSeats file n t) (q : ℕ) (s : SeatedAt) (at : seat_of t.seats q ≡ Some s) where
  -- what the others hold, and how many calls they made
  abbrev pub others : EndId → ℕ
  others e = all_hold e (altered_seat t.seats q None)

  abbrev pub more : ℕ
  more = all_calls (altered_seat t.seats q None)

  abbrev pub view : SeatedWorld
  view = beside s t.world

  parts : (e : EndId) → others e + holds e s.ends ≡ all_hold e t.seats
  parts e = omega (arith, held_altered t.seats q s at e None)

  pub seat_in : IsSeat file q view
  seat_in = record {
    guarded = record {
      sound = i.sound;
      once = λ e. omega (arith, i.once e, parts e);
      apart = λ e come. omega (arith, i.apart e come, parts e);
    };
    idle = i.idle q s at;
    places = i.places q s at;
    known = i.known q s at;
    proper = i.proper;
    hops = i.hops;
    steps = i.steps;
    calls = i.calls q s at;
    may = i.may q s at;
  }

  pub seated_in : IsSeatedBeside others more file q n view
  seated_in = record {
    seat = seat_in;
    found = found_more t.world (λ e. all_hold e t.seats) (λ e. holds e s.ends + others e) (λ e. omega (arith, parts e)) i.found;
    messages = omega (arith, i.messages, calls_altered t.seats q s at None);
    count = omega (arith, i.count, calls_altered t.seats q s at None);
  }

  -- ---- its call leaves what the others hold alone

  module _ (r : ℕ) (v : SeatedAt) (other : q ≡ r → ⊥) (there : seat_of t.seats r ≡ Some v) (f : EndId) (held : 1 ≤ holds f v.ends) where
    not_had : (e : EndId) → is_end e f ≡ true → (place : Place) → place_held s.ends e ≡ Some place → ⊥
    not_had e same place h = absurd (omega (arith, held_by_place s.ends e place h, holds-same f e s.ends (is_end_sym e f same), two_hold t.seats q r s v f at there other, i.once f, held))

    not_free : (all : List (EndId × Use)) (e : EndId) → is_end e f ≡ true → Free t.world all e → ⊥
    not_free all e same (comes come) = absurd (omega (arith, i.apart e come, one_holds t.seats r v there e, holds-same e f v.ends same, held))
    not_free all e same (fetched g x next names taken) =
        absurd (omega (arith, i.once e, named_carried t.world e g x next names, one_holds t.seats r v there e, holds-same e f v.ends same, held))

    not_used : (all : List (EndId × Use)) (e : EndId) (u : Use) → is_end e f ≡ true → IsHeldUse s.ends e u → ((place : Place) → u ≡ begins place → Free t.world all e) → ⊥
    not_used all e (sends m) same own free = not_had e same own.0 own.1
    not_used all e (takes m) same own free = not_had e same own.0 own.1
    not_used all e delegates same own free = not_had e same own.0 own.1
    not_used all e (begins place) same own free = not_free all e same (free place refl)

    unused : (all us : List (EndId × Use)) → ((k : ℕ) (e : EndId) (u : Use) → slice_get us k ≡ Some (e, u) → IsHeldUse s.ends e u)
        → ((e : EndId) (k : ℕ) (place : Place) → slice_get us k ≡ Some (e, begins place) → Free t.world all e) → IsUnusedBy f us
    unused all [] own free = tt
    unused all (u ∷ us) own free = (
      false_from_ne_true (is_end u.0 f) (λ same. not_used all u.0 u.1 same (own 0 u.0 u.1 refl) (λ place is. free u.0 0 place (ap (λ (x : Use). Some (u.0, x)) is))),
      unused all us (λ k e x h. own (suc k) e x h) (λ e k place h. free e (suc k) place h),
    )

  -- ---- its call

  module _ (d : Doing) (doing : doing_of q view ≡ Some d) where
    abbrev u : SeatedWorld
    u = after_doing q view d

    abbrev after : SeatsWorld
    after = with_seat q t.seats u

    done_so : doing_by q t.world (seated_want s) ≡ Some d
    done_so = worn_doing q view d (not (nat_lt s.steps 10000)) doing

    then : IsSeatedBeside others more file q (n + 1) u
    then = call_keeps others more file q n view d seated_in doing

    now : (e : EndId) → others e + holds e u.seat.ends ≡ all_hold e after.seats
    now e = omega (arith, held_altered t.seats q s at e None, held_altered t.seats q s at e (Some u.seat))

    fewer : (e : EndId) → opens e t.world q d.opening ≡ false → claims_on e u.world + holds e u.seat.ends ≤ claims_on e t.world + holds e s.ends
    fewer e none = omega (arith, worn_fewer q view e (not (nat_lt s.steps 10000)) d doing none)

    fits : OpeningFits t.world q d.opening
    fits = doing_fits q t.world (seated_want s) d done_so

    once_then : (e : EndId) → claims_on e u.world + all_hold e after.seats ≤ 1
    once_then e =
        elim (cases_Bool (opens e t.world q d.opening)) [
          | inl it ↦ omega (arith, then.seat.guarded.once e, i.apart e (opened_was_to_come t.world q d.opening e fits it), parts e, now e)
          | inr none ↦ omega (arith, i.once e, fewer e none, parts e, now e)
        ]

    -- what holds of each seat
    each : (P : ℕ → SeatedAt → Type 0) → P q u.seat → ((r : ℕ) (v : SeatedAt) → (q ≡ r → ⊥) → seat_of t.seats r ≡ Some v → P r v) → (r : ℕ) (v : SeatedAt) → seat_of after.seats r ≡ Some v → P r v
    each P own rest r v h =
        elim (seat_after t.seats q s at u.seat r v h) [
          | inl same ↦ subst (λ (k : ℕ). P k v) same.0 (subst (P q) same.1 own)
          | inr other ↦ rest r v other.0 other.1
        ]

    pub seat_call_keeps : IsSeats file (n + 1) after
    seat_call_keeps = record {
      sound = then.seat.guarded.sound;
      once = once_then;
      apart = λ e come. omega (arith, then.seat.guarded.apart e come, i.apart e (come_then file q t.world i.sound d.opening d.uses fits e come).0, parts e, now e);
      idle = each (λ r v. slice_get u.world.parties r ≡ Some (no_program file)) then.seat.idle (λ r v other there. i.idle r v there);
      places = each (λ r v. ArePlaced u.world.sessions v.ends) then.seat.places (λ r v other there f place h.
          ap (λ (x : EndAt). x.place) (end_at-after_uses_other q d.uses t.world.sessions f
          (unused r v other there f (held_by_place v.ends f place h) d.uses d.uses (calls_own q view s.calls d done_so) (doing_free q t.world (seated_want s) d done_so)))
          ∙ i.places r v there f place h);
      known = each (λ r v. AreKnown file v.ends) then.seat.known (λ r v other there. i.known r v there);
      calls = each (λ r v. v.steps ≤ 10000) then.seat.calls (λ r v other there. i.calls r v there);
      may = each (λ r v. MayOpenSo file r v.may) then.seat.may (λ r v other there. i.may r v there);
      found = found_more u.world (λ e. holds e u.seat.ends + others e) (λ e. all_hold e after.seats) (λ e. omega (arith, now e)) then.found;
      proper = then.seat.proper;
      hops = then.seat.hops;
      steps = then.seat.steps;
      many = length-altered t.seats q (λ (x : Option SeatedAt). Some u.seat) ∙ i.many;
      messages = omega (arith, then.messages, calls_altered t.seats q s at None, calls_altered t.seats q s at (Some u.seat));
      count = omega (arith, then.count, calls_altered t.seats q s at None, calls_altered t.seats q s at (Some u.seat));
    }

-- ---- an act of a party that goes by the file

pub file_act_keeps : (file : FileAt) (n : ℕ) (t : SeatsWorld) (v : World) (q : ℕ) → IsSeats file n t → seat_of t.seats q ≡ None → act_of t.world q ≡ Some v → IsSeats file (n + 1) (all_beside t.seats v)
file_act_keeps file n t v q i free acted =
    let w : World = t.world in
    let a = acts_by w q v acted in
    let rests = rests_on w q a.program a.change a.made in
    let r = made_counted w q a.program a.change i.hops (made_of w q a.program a.change rests) in
    let sum = sum_by-altered steps_of w.parties q (λ g. a.change.program) a.program a.there in
    let sound = act_keeps_sound file w v q i.sound acted in
    subst (λ (u : World). IsSeats file (n + 1) (all_beside t.seats u)) a.result (record {
      sound = subst (Sound file) (sym a.result) sound;
      once = λ e.
          subst (λ (u : World). claims_on e u + all_hold e t.seats ≤ 1) (sym a.result)
          (once_by (all_hold e t.seats) (claims_on e v) (claims_on e w) (λ none. sound.unshared.once e) (λ some. claims_on-act w v q e (λ come. absurd (omega (arith, some, i.apart e come))) acted) (i.once e));
      apart = λ e come. i.apart e (come_before w v q e i.sound.unshared acted (subst (λ (u : World). IsToCome u e) a.result come));
      idle = λ p s at. slice_get-altered_other w.parties q p (λ g. a.change.program) (apart p s at) ∙ i.idle p s at;
      places = λ p s at e place h.
          ap (λ (x : EndAt). x.place) (end_at-after_uses_other q a.change.uses w.sessions e
          (mine_unused file w s.ends (seat_in file n t i p s at).guarded e (held_by_place s.ends e place h) q a.program a.change.uses a.there (all_mine w q a.program a.change rests)))
          ∙ i.places p s at e place h;
      known = i.known;
      calls = i.calls;
      may = i.may;
      found = subst (λ (u : World). AllFound u (λ e. all_hold e t.seats)) (sym a.result) (act_keeps_found file w v (λ e. all_hold e t.seats) q i.sound i.found acted);
      proper = subst (IsProper (size_of file)) (sym a.result) (act_keeps_proper file (size_of file) w v q refl i.sound i.proper acted);
      hops = r.hops;
      steps = programs_keep (λ g. g.steps ≤ 10000) w.parties q a.change.program (omega (arith, r.steps, ltb-true a.program.steps 10000 rests.steps_left)) i.steps;
      many = i.many ∙ sym (length-altered w.parties q (λ g. a.change.program));
      messages = omega (arith, r.messages, r.steps, i.messages, sum);
      count = omega (arith, i.count, r.steps, sum);
    })
  where
    apart : (p : ℕ) (s : SeatedAt) → seat_of t.seats p ≡ Some s → q ≡ p → ⊥
    apart p s at it = let clash : None ≡ Some s = sym free ∙ ap (seat_of t.seats) it ∙ at in absurd (cc clash)

-- each act keeps it
pub seats_keep : (file : FileAt) (n : ℕ) (t u : SeatsWorld) (q : ℕ) → IsSeats file n t → seats_act t q ≡ Some u → IsSeats file (n + 1) u
seats_keep file n t u q i h = by (seat_of t.seats q) refl h
  where
    own : (s : SeatedAt) → seat_of t.seats q ≡ Some s → (o : Option Doing) → doing_of q (beside s t.world) ≡ o → option_map (λ d. with_seat q t.seats (after_doing q (beside s t.world) d)) o ≡ Some u → IsSeats file (n + 1) u
    own s at None is k = cc
    own s at (Some d) is k = subst (IsSeats file (n + 1)) (let it : with_seat q t.seats (after_doing q (beside s t.world) d) ≡ u = cc in it) (seat_call_keeps file n t i q s at d is)

    by_file : seat_of t.seats q ≡ None → (o : Option World) → act_of t.world q ≡ o → option_map (all_beside t.seats) o ≡ Some u → IsSeats file (n + 1) u
    by_file free None is k = cc
    by_file free (Some v) is k = subst (IsSeats file (n + 1)) (let it : all_beside t.seats v ≡ u = cc in it) (file_act_keeps file n t v q i free is)

    by : (o : Option SeatedAt) → seat_of t.seats q ≡ o → seats_act_by t q o ≡ Some u → IsSeats file (n + 1) u
    by None at k = by_file at (act_of t.world q) refl k
    by (Some s) at k = own s at (doing_of q (beside s t.world)) refl k

-- ---- how much there is of each

-- the calls and steps of all, where a party that is played by code made no steps
pub few_calls : (gs : List Program) (seats : Seats) → length seats ≡ length gs → ((q : ℕ) (g : Program) → slice_get gs q ≡ Some g → g.steps ≤ 10000) → ((q : ℕ) (s : SeatedAt) → seat_of seats q ≡ Some s → s.steps ≤ 10000)
    → ((q : ℕ) (s : SeatedAt) (g : Program) → seat_of seats q ≡ Some s → slice_get gs q ≡ Some g → g.steps ≡ 0) → sum_by steps_of gs + all_calls seats ≤ length gs * 10000
few_calls [] [] same steps calls none = omega arith
few_calls [] (o ∷ os) same steps calls none = absurd (omega (arith, same))
few_calls (g ∷ gs) [] same steps calls none = absurd (omega (arith, same))
few_calls (g ∷ gs) (o ∷ os) same steps calls none =
    omega (
      arith,
      sum_by-cons steps_of g gs,
      sum_by-cons calls_in o os,
      one o (λ s at. calls 0 s at) (λ s at. none 0 s g at refl),
      few_calls gs os (omega (arith, same)) (λ q h at. steps (suc q) h at) (λ q s at. calls (suc q) s at) (λ q s h at there. none (suc q) s h at there),
    )
  where
    one : (o : Option SeatedAt) → ((s : SeatedAt) → o ≡ Some s → s.steps ≤ 10000) → ((s : SeatedAt) → o ≡ Some s → g.steps ≡ 0) → g.steps + calls_in o ≤ 10000
    one None few idle = omega (arith, steps 0 g refl)
    one (Some s) few idle = omega (arith, few s refl, idle s refl)
