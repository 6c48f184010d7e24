-- Wherever an end lies, its cache begins where the other end has taken, or before.
use Rattle.std.proofs.Common.{◌≡◌, ℕ, ◌==◌, ◌<◌, ◌≤◌, Bool, true, false, cond, List, [], ◌∷◌, length, Option, Some, None, refl, ap, sym, ◌∙◌, subst, inl, inr, arith}
use Rattle.sj_base.specs.declared.EndId.{EndId}
use Rattle.sj_lang.specs.Place.{Place, done}
use Rattle.sj_lang.specs.FileAt.{FileAt}
use Rattle.sj_acceptance.specs.Accepted.{IsAccepted}
use Rattle.sj_semantics.specs.Program.{Program}
use Rattle.sj_semantics.specs.Run.{IsRun}
use Rattle.sj_semantics.specs.World.{World}
use Rattle.sj_rules.specs.Record.{EndAt, Give, MainAt, Held, Closed, Expected, OldAt, Parked, Signalled, other_end}
use Rattle.sj_rules.specs.World.{WorldAt, Turn}
use Rattle.sj_rules.specs.Events.{acts_in}
use Rattle.sj_rules.specs.History.{IsCoreRun}
use Rattle.sj_rules.specs.Party.{IsDone, binds}
use Rattle.sj_rules.specs.Plain.{plain_at}
use Rattle.sj_rules.specs.PlainSide.{PlainSide, PlainAt}
use Rattle.sj_rules.specs.Seat.{Seat, held, parked, claimed, signalled, given, closed, gone, Side, source_for}
use Rattle.sj_rules.specs.Shown.{Shows, bodies, main_shown, old_shown, gives_in, is_give, is_lane}
use Rattle.sj_rules.specs.Linked.{IsKept}
use Rattle.sj_rules.specs.StandsFor.{EndStands, SeatStands}
use Rattle.sj_rules.specs.Spots.{Spot, at_main, at_old, on_way, in_open}
use Rattle.sj_rules.specs.Caches.{main_end, old_end, HasEnd, CacheFits}
use Rattle.sj_rules.specs.Worked.{mails_of}
use Rattle.sj_world_lemmas.proofs.SwapLemmas.{other_other}
use Rattle.sj_rules.specs.Opened.{opener_of, new_held}
use Rattle.sj_rules.specs.Reading.{is_opening, reading, IsOpenKept}
use Rattle.sj_world_lemmas.proofs.OutcomeLemmas.{sound_at}
use Rattle.sj_opened_lemmas.proofs.OpenStandsLemmas.{ends_by}
use Rattle.sj_opened_lemmas.proofs.OpenSpotLemmas.{gives_read}
use Rattle.sj_world_lemmas.proofs.ToldLemmas.{Has, contains_has, has_kept}
use Rattle.sj_rules_laws.proofs.CoreRunLemmas.{StandsAfter, runs_stand}
use Rattle.sj_rules_laws.proofs.LawfulLemmas.{run_is_lawful}

-- the end that is at a seat
abbrev seat_end : {P : Type 0} → Seat P → Option (EndAt P)
seat_end (held at h) = Some h.end
seat_end (parked at e) = Some e
seat_end (claimed at to e) = Some e
seat_end (signalled at to e ds) = Some e
seat_end (given at to e q ds) = Some e
seat_end (closed at e) = Some e
seat_end gone = None

-- ---- what records and lanes show of an end that is at a seat

module _ {P : Type 0} where
  main_there : (b : Bool) (m : MainAt P) (k : EndAt P) → main_end (cond b (Some m) None) ≡ Some k → main_end (Some m) ≡ Some k
  main_there true m k h = h
  main_there false m k h = absurd (cc h)

  old_there : (b : Bool) (o : OldAt P) (k : EndAt P) → old_end (cond b (Some o) None) ≡ Some k → old_end (Some o) ≡ Some k
  old_there true o k h = h
  old_there false o k h = absurd (cc h)

  give_there : (b : Bool) (e k : EndAt P) (q r : Option ℕ) → Has (Give k r) (cond b (Give e q ∷ []) []) → e ≡ k
  give_there true e k q r (inl h) = cc h
  give_there true e k q r (inr h) = absurd h
  give_there false e k q r h = absurd h

  main_has : (from : ℕ) (place : P) (seat : Seat P) (p : ℕ) (k : EndAt P) → main_end (main_shown from place seat p) ≡ Some k → seat_end seat ≡ Some k
  main_has from place (held at h) p k e = main_there (p == at) (Held h) k e
  main_has from place (parked at c) p k e = absurd (cc e)
  main_has from place (claimed at to c) p k e = let none = main_there (p == to) (Expected at place []) k e in absurd (cc none)
  main_has from place (signalled at to c ds) p k e = let none = main_there (p == to) (Expected at place (mails_of from ds)) k e in absurd (cc none)
  main_has from place (given at to c q ds) p k e = let none = main_there (p == to) (Expected at place (mails_of from ds)) k e in absurd (cc none)
  main_has from place (closed at c) p k e = main_there (p == at) (Closed c) k e
  main_has from place gone p k e = absurd (cc e)

  old_has : (seat : Seat P) (p : ℕ) (k : EndAt P) → old_end (old_shown seat p) ≡ Some k → seat_end seat ≡ Some k
  old_has (parked at c) p k e = old_there (p == at) (Parked c) k e
  old_has (claimed at to c) p k e = old_there (p == at) (Parked c) k e
  old_has (signalled at to c ds) p k e = old_there (p == at) (Signalled c to) k e
  old_has (held at h) p k e = absurd (cc e)
  old_has (given at to c q ds) p k e = absurd (cc e)
  old_has (closed at c) p k e = absurd (cc e)
  old_has gone p k e = absurd (cc e)

  give_has : (seat : Seat P) (p q : ℕ) (k : EndAt P) (r : Option ℕ) → Has (Give k r) (gives_in seat p q) → seat_end seat ≡ Some k
  give_has (given at to c resend ds) p q k r e = ap Some (give_there (is_lane p q at to) c k resend r e)
  give_has (held at h) p q k r e = absurd e
  give_has (parked at c) p q k r e = absurd e
  give_has (claimed at to c) p q k r e = absurd e
  give_has (signalled at to c ds) p q k r e = absurd e
  give_has (closed at c) p q k r e = absurd e
  give_has gone p q k r e = absurd e

-- what the world has of an end is the end at its seat
end_seen : {P Q : Type 0} → (w : WorldAt P Q) (other : Seat P) (r : Side P) → Shows w other r → (at : Spot) (k : EndAt P) → HasEnd w r.id at k → seat_end r.seat ≡ Some k
end_seen w other r shows (at_main p) k h = main_has (source_for other r.seat) r.place r.seat p k (sym (ap main_end (shows.mains p)) ∙ h)
end_seen w other r shows (at_old p) k h = old_has r.seat p k (sym (ap old_end (shows.olds p)) ∙ h)
end_seen w other r shows (in_open p q) k h = absurd h
end_seen w other r shows (on_way p q) k h =
    let give = Give k h.0 in
    let kept = has_kept (is_give r.id) give (bodies (w.lanes p q)) (contains_has give (bodies (w.lanes p q)) h.1) h.2 in
    give_has r.seat p q k h.0 (subst (Has give) (shows.gives p q) kept)

-- and stands for the plain one
end_at_seat : {P : Type 0} → (IsOver : P → Type 0) (id : EndId) (x y : PlainSide P) (other seat : Seat P) (k : EndAt P) → seat_end seat ≡ Some k → SeatStands IsOver id x y other seat → EndStands id x y k
end_at_seat IsOver id x y other (held at h) k e s = let it : h.end ≡ k = cc e in subst (EndStands id x y) it s
end_at_seat IsOver id x y other (parked at c) k e s = let it : c ≡ k = cc e in subst (EndStands id x y) it s
end_at_seat IsOver id x y other (claimed at to c) k e s = let it : c ≡ k = cc e in subst (EndStands id x y) it s
end_at_seat IsOver id x y other (signalled at to c ds) k e s = let it : c ≡ k = cc e in subst (EndStands id x y) it s
end_at_seat IsOver id x y other (given at to c q ds) k e s = let it : c ≡ k = cc e in subst (EndStands id x y) it s
end_at_seat IsOver id x y other (closed at c) k e s = let it : c ≡ k = cc e in subst (EndStands id x y) it s
end_at_seat IsOver id x y other gone k e s = absurd (cc e)

-- in a kept world, where no more was taken than was sent
caches_fit : {P Q : Type 0} → (IsOver : P → Type 0) (binds : Q → EndId → Bool) (w : WorldAt P Q) (plain : PlainAt P Q) → IsKept IsOver binds w plain → (e : EndId) → e.side < 2
    → (plain.sides (other_end e)).taken ≤ length (plain.sides e).sent → (at : Spot) (k : EndAt P) → HasEnd w e at k → CacheFits (plain.sides (other_end e)) (plain.sides e) k
caches_fit IsOver binds w plain kept e low few at k has =
    let r = kept.sessions.sides e in
    let s = kept.sessions.sides (other_end e) in
    let t = sound_at IsOver w plain.sides kept.sessions e low in
    let seen = end_seen w s.seat r (kept.sessions.shows e low) at k (subst (λ (id : EndId). HasEnd w id at k) (sym (kept.sessions.ids e)) has) in
    let stands = end_at_seat IsOver r.id (plain.sides (other_end e)) (plain.sides e) s.seat r.seat k seen (ends_by IsOver t.0 (plain.sides (other_end e)) (plain.sides e) s r t.1 r.seat t.1.there.fits t.1.numbers) in
    record { base = stands.base; fewer = omega (arith, few, stands.agrees.sent); sent = stands.agrees.sent; taken = stands.agrees.taken; cache = stands.agrees.cache }

-- what a world with Opens has of an end, the reading has
read_has : {P Q : Type 0} → (IsOver : P → Type 0) (binds : Q → EndId → Bool) (blank : P) (w : WorldAt P Q) (plain : PlainAt P Q) → IsOpenKept IsOver binds blank w plain → (e : EndId) (at : Spot) (k : EndAt P) → HasEnd w e at k → HasEnd (reading blank w) e at k
read_has {P} IsOver binds blank w plain kept e (at_main p) k h = by (is_opening w p e) refl
  where
    by : (b : Bool) → is_opening w p e ≡ b → main_end (cond b (Some (Held (new_held e blank (opener_of e.sess)))) ((w.nodes p).main e)) ≡ Some k
    by true o = let none : main_end ((w.nodes p).main e) ≡ None = ap main_end (kept.bare p e o) in absurd (cc (none, h))
    by false o = h
read_has IsOver binds blank w plain kept e (at_old p) k h = h
read_has IsOver binds blank w plain kept e (on_way p q) k h = (h.0, gives_read e (w.lanes p q) (Give k h.0) h.1 h.2, h.2)
read_has IsOver binds blank w plain kept e (in_open p q) k h = absurd h

-- ---- core runs

module _ (file : FileAt) (accepted : IsAccepted file) (turns : List Turn) (core : WorldAt Place Program) (run : IsCoreRun file turns core) where
  -- each cache fits
  pub run_caches_fit : (w : World) × IsRun file (acts_in turns) w × ((e : EndId) (at : Spot) (k : EndAt Place) → e.side < 2 → HasEnd core e at k → CacheFits ((plain_at w).sides (other_end e)) ((plain_at w).sides e) k)
  run_caches_fit =
      let s = runs_stand file accepted turns core run in
      (s.plain, s.run, λ e at k low has. caches_fit IsDone binds (reading done core) (plain_at s.plain) s.kept.kept e low (few s e low) at k (read_has IsDone binds done core (plain_at s.plain) s.kept e at k has))
    where
      few : (s : StandsAfter file (acts_in turns) core) (e : EndId) → e.side < 2 → ((plain_at s.plain).sides (other_end e)).taken ≤ length ((plain_at s.plain).sides e).sent
      few s e low =
          let counts = (run_is_lawful file (acts_in turns) s.plain accepted s.run).counts (other_end e) (omega arith) in
          subst (λ (d : EndId). ((plain_at s.plain).sides (other_end e)).taken ≤ length ((plain_at s.plain).sides d).sent) (other_other e low) counts.fewer

  -- so does each beside what the other end has taken
  pub run_bases_are_taken : (e : EndId) (at there : Spot) (k l : EndAt Place) → e.side < 2 → HasEnd core e at k → HasEnd core (other_end e) there l → (k.base ≤ l.taken) × (l.taken ≤ k.sent)
  run_bases_are_taken e at there k l low has others =
      let c = run_caches_fit in
      let own = c.2 e at k low has in
      let other = c.2 (other_end e) there l (omega arith) others in
      (omega (arith, own.base, other.taken), omega (arith, own.fewer, other.taken))
