-- The start of an accepted file keeps the invariant of the core.
use Rattle.std.proofs.Common.{◌≡◌, ◌↔◌, ℕ, zero, suc, ◌<◌, nat_lt, Bool, true, false, cond, List, [], ◌++◌, drop, slice_get, Option, Some, None, option_map, option_and_then, unwrap_or, refl, ap, sym, ◌∙◌, subst, arith, inl}
use Rattle.std.proofs.lemmas.Bool.{ltb-true, lt-ltb}
use Rattle.std.proofs.lemmas.Option.{slice_get-map}
use Rattle.sj_base.specs.declared.EndId.{EndId}
use Rattle.sj_base.specs.declared.Msg.{Msg}
use Rattle.sj_base.specs.declared.Msg.TheVariants as msgs
use Rattle.sj_lang.specs.Place.{Place, done}
use Rattle.sj_lang.specs.FileAt.{FileAt, ConnectAt, body_named, party_named}
use Rattle.sj_acceptance.specs.Accepted.{IsAccepted}
use Rattle.sj_semantics.specs.Ends.{EndAt, end_on, end_at, nowhere}
use Rattle.sj_semantics.specs.Requests.{no_requests}
use Rattle.std.specs.Prelude.{nat_le, ◌&&◌, ◌==◌, ◌≤◌, length}
use Rattle.std.proofs.lemmas.Option.{slice_get_past}
use Rattle.sj_rules.specs.Limits.{first_opened}
use Rattle.sj_rules.specs.Reading.{IsOpenKept}
use Rattle.sj_opened_lemmas.proofs.OpenRunLemmas.{OpensNothingYet, begins_kept}
use Rattle.sj_semantics.specs.World.{fresh, session_of, start_of}
use Rattle.sj_rules.specs.Record.{other_end}
use Rattle.sj_rules.specs.Seat.{Seat, held, gone, Side, source_for}
use Rattle.sj_rules.specs.Shown.{main_shown, old_shown, Shows, old_in, live_in, claims_in, gives_in}
use Rattle.sj_rules.specs.PlainSide.{PlainSide}
use Rattle.sj_rules.specs.Numbers.{level}
use Rattle.sj_rules.specs.Invariant.{Direction, IsSound}
use Rattle.sj_rules.specs.Linked.{waiting_at, user_of, IsParkedAt, IsLinked, IsKept, end_named}
use Rattle.sj_rules.specs.Party.{IsDone, binds}
use Rattle.sj_rules.specs.Plain.{is_offered_end, side_at, plain_at}
use Rattle.sj_rules.specs.Start.{declared_on, first_held, held_by, connect_of, core_start}
use Rattle.sj_rules_laws.proofs.SideLemmas.{other_side_below, side_below}
use Rattle.sj_rules_laws.proofs.StartNamesLemmas.{bound_starts, starts_bound}

-- ---- where ends lie

abbrev pub start_place : FileAt → EndId → Option ConnectAt → Place
start_place file e None = done
start_place file e (Some c) = body_named file.protocols (declared_on e.side c).protocol

abbrev pub start_seat : FileAt → EndId → Option ConnectAt → Seat Place
start_seat file e None = gone
start_seat file e (Some c) = held (party_named file.parties (declared_on e.side c).party) (first_held file e c)

abbrev pub side_with : FileAt → EndId → Option ConnectAt → Side Place
side_with file e o = record { id = e; place = start_place file e o; seat = start_seat file e o; old = []; live = [] }

abbrev pub start_side : FileAt → EndId → Side Place
start_side file e = side_with file e (connect_of file e)

-- ---- what the plain world knows

abbrev start_end : FileAt → EndId → Option ConnectAt → EndAt
start_end file e None = nowhere
start_end file e (Some c) = fresh (body_named file.protocols (declared_on e.side c).protocol)

abbrev plain_with : FileAt → EndId → Option ConnectAt → PlainSide Place
plain_with file e o = side_at false (start_end file e o)

-- nothing is offered
nothing_offered : (e : EndId) → is_offered_end no_requests e ≡ false
nothing_offered e = by (nat_le first_opened e.sess && (e.side == 1))
  where
    by : (b : Bool) → (b && false) ≡ false
    by true = refl
    by false = refl

end_on_start : (file : FileAt) (d : ℕ) (c : ConnectAt) → end_on d (session_of file c) ≡ fresh (body_named file.protocols (declared_on d c).protocol)
end_on_start file zero c = refl
end_on_start file (suc d) c = refl

by_connect : (file : FileAt) (e : EndId) (o : Option ConnectAt) → unwrap_or (option_map (end_on e.side) (option_map (session_of file) o)) nowhere ≡ start_end file e o
by_connect file e None = refl
by_connect file e (Some c) = end_on_start file e.side c

plain_start : (file : FileAt) (e : EndId) → e.side < 2 → (plain_at (start_of file)).sides e ≡ plain_with file e (slice_get file.connects e.sess)
plain_start file e lt =
    side_below no_requests (start_of file).sessions e lt
    ∙ ap (λ (b : Bool). side_at b (end_at (start_of file).sessions e)) (nothing_offered e)
    ∙ ap (side_at false) (ap (λ o. unwrap_or (option_map (end_on e.side) o) nowhere) (slice_get-map (session_of file) file.connects e.sess) ∙ by_connect file e (slice_get file.connects e.sess))

-- ---- a session

direction_with : (file : FileAt) (s r : EndId) (o : Option ConnectAt) → Direction IsDone level (plain_with file s o) (plain_with file r o) (side_with file s o) (side_with file r o)
direction_with file s r None = record { fits = (refl, refl); place = refl; resend = tt; comes = refl; old = refl }
direction_with file s r (Some c) = record {
  fits = (record { name = refl; hops = refl; sent = refl; taken = refl; cache = refl }, λ o. refl, omega arith);
  place = refl;
  resend = tt;
  comes = record { rest = []; all = refl; comes = inl (refl, record { carries = []; split = refl; are = omega arith }) };
  old = refl;
}

sound_with : (file : FileAt) (sess : ℕ) (o : Option ConnectAt) → IsSound IsDone level (plain_with file (end_named sess 0) o) (plain_with file (end_named sess 1) o) (side_with file (end_named sess 0) o) (side_with file (end_named sess 1) o)
sound_with file sess None = record {
  others = refl;
  numbers = (refl, refl);
  hops = (omega arith, omega arith);
  there = direction_with file (end_named sess 0) (end_named sess 1) None;
  back = direction_with file (end_named sess 1) (end_named sess 0) None;
}
sound_with file sess (Some c) = record {
  others = refl;
  numbers = (refl, refl, refl);
  hops = (omega arith, omega arith);
  there = direction_with file (end_named sess 0) (end_named sess 1) (Some c);
  back = direction_with file (end_named sess 1) (end_named sess 0) (Some c);
}

start_sound : (file : FileAt) (sess : ℕ) → IsSound IsDone level ((plain_at (start_of file)).sides (end_named sess 0)) ((plain_at (start_of file)).sides (end_named sess 1)) (start_side file (end_named sess 0)) (start_side file (end_named sess 1))
start_sound file sess =
    let o : Option ConnectAt = slice_get file.connects sess in
    subst (λ (x : PlainSide Place). IsSound IsDone level x ((plain_at (start_of file)).sides (end_named sess 1)) (side_with file (end_named sess 0) o) (side_with file (end_named sess 1) o)) (sym (plain_start file (end_named sess 0) (omega arith)))
    (subst (λ (y : PlainSide Place). IsSound IsDone level (plain_with file (end_named sess 0) o) y (side_with file (end_named sess 0) o) (side_with file (end_named sess 1) o)) (sym (plain_start file (end_named sess 1) (omega arith)))
    (sound_with file sess o))

-- ---- what the world shows

nothing_either_way : {A : Type 0} (b : Bool) → ◌≡◌ {A = List A} (cond b [] []) []
nothing_either_way true = refl
nothing_either_way false = refl

main_with : (file : FileAt) (p : ℕ) (from : ℕ) (e : EndId) (o : Option ConnectAt) → option_and_then (held_by file p e) o ≡ main_shown from (start_place file e o) (start_seat file e o) p
main_with file p from e None = refl
main_with file p from e (Some c) = refl

old_with : (file : FileAt) (p : ℕ) (e : EndId) (o : Option ConnectAt) → None ≡ old_shown (start_seat file e o) p
old_with file p e None = refl
old_with file p e (Some c) = refl

frames_with : (file : FileAt) (other : Seat Place) (e : EndId) (o : Option ConnectAt) (p q c : ℕ) → [] ≡ old_in (start_seat file e o) [] p q c ++ live_in other (side_with file e o) p q c
frames_with file other e None p q c = sym (nothing_either_way _)
frames_with file other e (Some b) p q c = sym (nothing_either_way _)

claims_with : (file : FileAt) (e : EndId) (o : Option ConnectAt) (p q : ℕ) → [] ≡ claims_in e (start_seat file e o) p q
claims_with file e None p q = refl
claims_with file e (Some c) p q = refl

gives_with : (file : FileAt) (e : EndId) (o : Option ConnectAt) (p q : ℕ) → [] ≡ gives_in (start_seat file e o) p q
gives_with file e None p q = refl
gives_with file e (Some c) p q = refl

start_shows : (file : FileAt) (e : EndId) → Shows (core_start file) (start_side file (other_end e)).seat (start_side file e)
start_shows file e = record {
  mains = λ p. main_with file p (source_for (start_side file (other_end e)).seat (start_side file e).seat) e (connect_of file e);
  olds = λ p. old_with file p e (connect_of file e);
  frames = λ p q c. frames_with file (start_side file (other_end e)).seat e (connect_of file e) p q c;
  claims = λ p q. claims_with file e (connect_of file e) p q;
  gives = λ p q. gives_with file e (connect_of file e) p q;
}

-- ---- links and names

nothing_sent : (file : FileAt) (e : EndId) (o : Option ConnectAt) → (plain_with file e o).sent ≡ []
nothing_sent file e None = refl
nothing_sent file e (Some c) = refl

drop-nil : {A : Type 0} (k : ℕ) → ◌≡◌ {A = List A} (drop k []) []
drop-nil zero = refl
drop-nil (suc k) = refl

nothing_waits : (file : FileAt) (e : EndId) (n : ℕ) (m : Msg) → waiting_at (plain_at (start_of file)) e n ≡ Some m → ⊥
nothing_waits file e n m h =
    let none : slice_get [] n ≡ Some m =
    sym (ap (λ xs. slice_get xs n) (ap (λ (x : PlainSide Place). drop ((plain_at (start_of file)).sides e).taken x.sent) (plain_start file (other_end e) (other_side_below e))
    ∙ ap (drop ((plain_at (start_of file)).sides e).taken) (nothing_sent file (other_end e) (slice_get file.connects e.sess))
    ∙ drop-nil ((plain_at (start_of file)).sides e).taken)) ∙ h in cc

not_parked : (file : FileAt) (keeper : ℕ) (e : EndId) (o : Option ConnectAt) → IsParkedAt keeper (start_seat file e o) → ⊥
not_parked file keeper e None h = h
not_parked file keeper e (Some c) h = h

start_linked : (file : FileAt) → IsLinked (plain_at (start_of file)) (λ e. (start_side file e).seat)
start_linked file = record {
  parks = λ e n sess side keeper lt h. absurd (nothing_waits file e n (msgs.Sess sess side keeper) h);
  named = λ d keeper lt h. absurd (not_parked file keeper d (connect_of file d) h);
  once = λ e f m n sess side keeper other lt lt' h k. absurd (nothing_waits file e m (msgs.Sess sess side keeper) h);
}

connect_below : (file : FileAt) (e : EndId) (c : ConnectAt) → connect_of file e ≡ Some c → (e.side < 2) × (slice_get file.connects e.sess ≡ Some c)
connect_below file e c h = by (nat_lt e.side 2) refl h
  where
    by : (b : Bool) → nat_lt e.side 2 ≡ b → cond b (slice_get file.connects e.sess) None ≡ Some c → (e.side < 2) × (slice_get file.connects e.sess ≡ Some c)
    by true t k = (ltb-true e.side 2 t, k)
    by false t k = cc

uses_bound : (file : FileAt) (p : ℕ) (e : EndId) (o : Option ConnectAt) → IsAccepted file → connect_of file e ≡ o → user_of (start_seat file e o) ≡ Some p → binds ((plain_at (start_of file)).programs p) e ≡ true
uses_bound file p e None accepted at h = cc
uses_bound file p e (Some c) accepted at h =
    let b = connect_below file e c at in
    let it : party_named file.parties (declared_on e.side c).party ≡ p = cc in
    starts_bound file p e accepted (record { connect = c; there = b.1; below = b.0; party = sym it })

start_bound : (file : FileAt) → IsAccepted file → (p : ℕ) (e : EndId) → (binds ((plain_at (start_of file)).programs p) e ≡ true) ↔ (user_of (start_side file e).seat ≡ Some p)
start_bound file accepted p e = (
  λ h. let s = bound_starts file p e h in
      ap (λ (b : Bool). user_of (start_seat file e (cond b (slice_get file.connects e.sess) None))) (lt-ltb e.side 2 s.below)
      ∙ ap (λ o. user_of (start_seat file e o)) s.there ∙ ap Some (sym s.party),
  λ h. uses_bound file p e (connect_of file e) accepted refl h,
)

-- the core world at the start stands for the plain one
pub start_is_kept : (file : FileAt) → IsAccepted file → IsKept IsDone binds (core_start file) (plain_at (start_of file))
start_is_kept file accepted = record {
  sessions = record {
    sides = start_side file;
    pace = λ sess. level;
    ids = λ e. refl;
    shows = λ e lt. start_shows file e;
    proper = λ p q. tt;
    sound = start_sound file;
  };
  linked = start_linked file;
  programs = λ p. refl;
  bound = λ p e lt o. start_bound file accepted p e;
}

-- ---- and nothing is opened yet

none_recorded : (file : FileAt) (p : ℕ) (e : EndId) → length file.connects ≤ e.sess → ((core_start file).nodes p).main e ≡ None
none_recorded file p e past = by (nat_lt e.side 2)
  where
    by : (b : Bool) → option_and_then (held_by file p e) (cond b (slice_get file.connects e.sess) None) ≡ None
    by true = ap (option_and_then (held_by file p e)) (slice_get_past file.connects e.sess past)
    by false = refl

start_opens_nothing : (file : FileAt) → IsAccepted file → OpensNothingYet (core_start file) (plain_at (start_of file))
start_opens_nothing file accepted = record {
  empty = λ from to. refl;
  requests = λ p. refl;
  nobody_offers = λ from p. refl;
  none_offered = λ from p. refl;
  all_accepted = nothing_offered;
  no_records = λ s n p e is low. (none_recorded file p e (omega (arith, accepted.within.connects, n.4, is)), refl);
}

-- so it is kept, with its Opens, of which there are none
pub start_is_open_kept : (file : FileAt) → IsAccepted file → IsOpenKept IsDone binds done (core_start file) (plain_at (start_of file))
start_is_open_kept file accepted = begins_kept IsDone binds done (core_start file) (plain_at (start_of file)) (start_is_kept file accepted) (start_opens_nothing file accepted)
