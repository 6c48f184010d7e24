-- A history of a run with seats reports what the plain world at its end has.
use Rattle.std.proofs.Common.{◌≡◌, ℕ, ◌+◌, ◌<◌, ◌≤◌, Bool, true, false, ◌||◌, List, [], ◌∷◌, ◌++◌, map, length, Option, Some, None, option_map, option_and_then, append-nil, append_assoc, refl, ap, sym, ◌∙◌, subst, arith}
use Rattle.std.proofs.lemmas.List.{map-append}
use Rattle.sj_base.specs.declared.EndId.{EndId}
use Rattle.sj_lang.specs.FileAt.{FileAt}
use Rattle.sj_lang.specs.Place.{Place, done}
use Rattle.sj_acceptance.specs.Accepted.{IsAccepted}
use Rattle.sj_semantics.specs.declared.Passed.{Passed}
use Rattle.sj_semantics.specs.Ends.{end_at}
use Rattle.sj_semantics.specs.Requests.{limit_of_requests, no_opening, opened_number}
use Rattle.sj_semantics.specs.State.{opened_in}
use Rattle.sj_semantics.specs.World.{World}
use Rattle.sj_rules.specs.Events.{acts_by}
use Rattle.sj_rules.specs.Frames.{FrameAt}
use Rattle.sj_rules.specs.History.{IsLog, due, event_note, front_note, line_after, turn_of}
use Rattle.sj_rules.specs.Log.{LineAt, NoteAt, body_note}
use Rattle.sj_rules.specs.Node.{Play}
use Rattle.sj_rules.specs.Party.{IsDone}
use Rattle.sj_rules.specs.Reading.{IsOpenKept}
use Rattle.sj_rules.specs.Record.{Ack, BodyAt, Carry, Claim, Fin, Give, Open, Signal}
use Rattle.sj_rules.specs.Rows.{IsPick}
use Rattle.sj_rules.specs.World.{Act, Deliver, Event, WorldAt, happens}
use Rattle.sj_joined_lemmas.proofs.HistoryLemmas.{log_runs, logs_joined}
use Rattle.sj_rules_laws.specs.TiedNotes.{AreTied, IsOfFrame, sent_told, taken_told, told_in}
use Rattle.sj_rules_laws.proofs.SentToldLemmas.{tied_sent}
use Rattle.sj_rules_laws.proofs.TakenToldLemmas.{tied_taken}
use Rattle.sj_told.specs.Counts.{messages_sent, sent_count}
use Rattle.sj_told_laws.proofs.CountLemmas.{lines_add, none_at_start}
use Rattle.sj_seat_laws.specs.SeatedPlay.{Player, player_binds, seated_play}
use Rattle.sj_seat_laws.specs.SeatsStart.{Callers, IsSeatsRun, seats_core, seats_start}
use Rattle.sj_seat_laws.specs.SeatsWorld.{SeatsWorld, after_seats, seats_act, seats_seen}
use Rattle.sj_seat_laws.proofs.HeadlineLemmas.{fresh_at}
use Rattle.sj_seat_laws.proofs.SeatsLawfulLemmas.{seats_are_lawful}
use Rattle.sj_seat_laws.proofs.SeatsRunLemmas.{between, run_stands, seats_run}
use Rattle.sj_seat_told_laws.specs.SeatsHistory.{IsSeatsHistory, acts_of}
use Rattle.sj_seat_told_laws.specs.SeatsOpened.{RequestTold, is_accept_of, is_accepted_in, request_told, requests_told, sessions_told, unnamed}
use Rattle.sj_seat_told_laws.proofs.AddLemmas.{Adds}
use Rattle.sj_seat_told_laws.proofs.NotedLemmas.{act_is_noted}
use Rattle.sj_seat_told_laws.proofs.OpenedLemmas.{all_told}
use Rattle.sj_seat_told_laws.proofs.RequestLemmas.{accepted_at, frames_are_silent, numbered, opens_by, or_false}
use Rattle.sj_seat_told_laws.proofs.StepLemmas.{act_adds}

-- ---- the note of a line

-- of an event at p in any play
note_due : {P Q : Type 0} → (play : Play P Q) (pick : ℕ → ℕ → ℕ) (core mid : WorldAt P Q) (p : ℕ) (event : Event) (l : LineAt) → happens play pick core p event ≡ Some mid → due play pick core p event ≡ Some l → event_note play core p event ≡ Some l.entry.note
note_due play pick core mid p event l happened h = by (event_note play core p event) (sym (ap (option_and_then (line_after play core p event)) happened) ∙ h)
  where
    by : (o : Option NoteAt) → option_map (λ note. record { party = p; entry = record { clock = (mid.nodes p).clock; event = event; note = note } }) o ≡ Some l → o ≡ Some l.entry.note
    by None k = cc
    by (Some note) k =
        let it : record { party = p; entry = record { clock = (mid.nodes p).clock; event = event; note = note } } ≡ l = cc in
        ap (λ (x : LineAt). Some x.entry.note) it

-- that of a frame reports a frame
body_tells : {P : Type 0} → (b : BodyAt P) → IsOfFrame (body_note b)
body_tells (Carry to conn number taken msg) = tt
body_tells (Fin to conn number) = tt
body_tells (Claim of) = tt
body_tells (Signal to conn party taken) = tt
body_tells (Ack of conn) = tt
body_tells (Give end resend) = tt
body_tells (Open sess) = tt

front_tells : {P : Type 0} → (fs : List (FrameAt P)) (note : NoteAt) → front_note fs ≡ Some note → IsOfFrame note
front_tells [] note h = cc
front_tells (f ∷ rest) note h = subst IsOfFrame (let it : body_note f.body ≡ note = cc in it) (body_tells f.body)

-- and adds nothing
frame_adds : (w : World) (p : ℕ) (note : NoteAt) → ((a : ℕ) → length (w.requests a) ≤ limit_of_requests) → IsOfFrame note → Adds w p note w
frame_adds w p note few of_frame = record {
  sent = λ e. sym (append-nil (end_at w.sessions e).sent) ∙ ap (λ xs. (end_at w.sessions e).sent ++ xs) (sym (tied_sent e (line ∷ []) w tied) ∙ append-nil (sent_told e p note));
  takers = λ e. sym (append-nil (end_at w.sessions e).takers) ∙ ap (λ xs. (end_at w.sessions e).takers ++ map (λ x. x.by) xs) (sym (tied_taken e (line ∷ []) w tied) ∙ append-nil (taken_told e p note));
  count = omega (arith, lines_add (line ∷ []) w w tied refl);
  opens = opens_by w p few w no_opening note (λ a. refl) (frames_are_silent p note of_frame);
}
  where
    line : LineAt
    line = record { party = p; entry = record { clock = 0; event = Deliver p; note = note } }

    tied : AreTied w (line ∷ [])
    tied = (of_frame, tt)

-- ---- what lines add

pub record Grows (w : World) (lines : List LineAt) (v : World) : Type 0 where
  pub sent : (e : EndId) → (end_at v.sessions e).sent ≡ (end_at w.sessions e).sent ++ told_in (sent_told e) lines
  pub takers : (e : EndId) → (end_at v.sessions e).takers ≡ (end_at w.sessions e).takers ++ map (λ x. x.by) (told_in (taken_told e) lines)
  pub count : messages_sent v ≡ messages_sent w + sent_count lines
  pub requested : (a : ℕ) → numbered a 0 (v.requests a) ≡ numbered a 0 (w.requests a) ++ requests_told a lines
  pub accepted : (a k : ℕ) → k < limit_of_requests → accepted_at (v.requests a) k ≡ accepted_at (w.requests a) k || is_accepted_in (opened_number a k) lines

grows_none : (w : World) → Grows w [] w
grows_none w = record {
  sent = λ e. sym (append-nil (end_at w.sessions e).sent);
  takers = λ e. sym (append-nil (end_at w.sessions e).takers);
  count = omega arith;
  requested = λ a. sym (append-nil (numbered a 0 (w.requests a)));
  accepted = λ a k lt. or_false (accepted_at (w.requests a) k);
}

or_assoc : (a b c : Bool) → a || b || c ≡ a || (b || c)
or_assoc true b c = refl
or_assoc false b c = refl

grows_more : (w v u : World) (l : LineAt) (ls : List LineAt) → Adds w l.party l.entry.note v → Grows v ls u → Grows w (l ∷ ls) u
grows_more w v u l ls a g = record {
  sent = λ e.
      g.sent e ∙ ap (λ xs. xs ++ told_in (sent_told e) ls) (a.sent e)
      ∙ append_assoc (end_at w.sessions e).sent (sent_told e l.party l.entry.note) (told_in (sent_told e) ls);
  takers = λ e.
      let one : List Passed = taken_told e l.party l.entry.note in
      let rest : List Passed = told_in (taken_told e) ls in
      g.takers e ∙ ap (λ xs. xs ++ map (λ x. x.by) rest) (a.takers e) ∙ append_assoc (end_at w.sessions e).takers (map (λ x. x.by) one) (map (λ x. x.by) rest)
      ∙ ap (λ xs. (end_at w.sessions e).takers ++ xs) (sym (map-append (λ (x : Passed). x.by) one rest));
  count = omega (arith, g.count, a.count);
  requested = λ b.
      g.requested b ∙ ap (λ (xs : List RequestTold). xs ++ requests_told b ls) (a.opens.requested b)
      ∙ append_assoc (numbered b 0 (w.requests b)) (request_told b l.party l.entry.note) (requests_told b ls);
  accepted = λ b k lt.
      g.accepted b k lt ∙ ap (λ (c : Bool). c || is_accepted_in (opened_number b k) ls) (a.opens.accepted b k lt)
      ∙ or_assoc (accepted_at (w.requests b) k) (is_accept_of (opened_number b k) l.entry.note) (is_accepted_in (opened_number b k) ls);
}

-- ---- acts

one_end : (v u : SeatsWorld) → ◌≡◌ {A = Option SeatsWorld} (Some v) (Some u) → v ≡ u
one_end v u e = cc

acts_more : (front : List LineAt) (l : LineAt) → acts_of (front ++ l ∷ []) ≡ acts_of front ++ acts_by l.entry.event l.party
acts_more [] l = append-nil (acts_by l.entry.event l.party)
acts_more (k ∷ ks) l = ap (λ ps. acts_by k.entry.event k.party ++ ps) (acts_more ks l) ∙ sym (append_assoc (acts_by k.entry.event k.party) (acts_of ks) (acts_by l.entry.event l.party))

-- the act between two runs
last_act : (start t v : SeatsWorld) (ps : List ℕ) (p : ℕ) → after_seats start ps ≡ Some t → after_seats start (ps ++ p ∷ []) ≡ Some v → seats_act t p ≡ Some v
last_act start t v [] p run on =
    let m = between start v p [] on in
    ap (λ (x : SeatsWorld). seats_act x p) (sym (one_end start t run)) ∙ m.before ∙ m.afterwards
last_act start t v (r ∷ ps) p run on =
    let m = between start t r ps run in
    let k = between start v r (ps ++ p ∷ []) on in
    let same : k.world ≡ m.world = one_end k.world m.world (sym k.before ∙ m.before) in
    last_act m.world t v ps p m.afterwards (subst (λ (x : SeatsWorld). after_seats x (ps ++ p ∷ []) ≡ Some v) same k.afterwards)

then_after : (t v u : SeatsWorld) (p : ℕ) (ps : List ℕ) → seats_act t p ≡ Some v → after_seats t (p ∷ ps) ≡ Some u → after_seats v ps ≡ Some u
then_after t v u p ps acted h = sym (ap (option_and_then (λ x. after_seats x ps)) acted) ∙ h

-- ---- histories

module _ (file : FileAt) (calls : Callers) (accepted : IsAccepted file) (pick : ℕ → ℕ → ℕ) (picks : IsPick pick) where
  abbrev play : Play Place Player
  play = seated_play file

  -- the plain world for which a core world on the way stands
  record Standing (acts : List ℕ) (core : WorldAt Place Player) : Type 0 where
    plain : SeatsWorld
    run : IsSeatsRun file calls acts plain
    kept : IsOpenKept IsDone player_binds done core (seats_seen plain)

  stands_after : (front : List LineAt) (core : WorldAt Place Player) → IsSeatsHistory pick file calls front core → Standing (acts_of front) core
  stands_after front core history =
      let s = run_stands file calls accepted (map turn_of front) core (log_runs play pick picks front (seats_core file calls) core history) in
      record { plain = s.0; run = s.1; kept = s.2 }

  few_there : (ps : List ℕ) (core : WorldAt Place Player) (s : Standing ps core) (a : ℕ) → length (s.plain.world.requests a) ≤ limit_of_requests
  few_there ps core s a = (seats_run file calls accepted ps s.plain s.run).sound.unshared.few a

  -- what an act's note reports is what the act adds
  act_line : (ps : List ℕ) (core : WorldAt Place Player) (s : Standing ps core) (v : SeatsWorld) (p : ℕ) (note : NoteAt) → seats_act s.plain p ≡ Some v → event_note play core p Act ≡ Some note → Adds s.plain.world p note v.world
  act_line ps core s v p note acted noted =
      let lawful = seats_are_lawful file (length ps) s.plain (seats_run file calls accepted ps s.plain s.run) accepted.within.parties in
      act_adds file s.plain lawful (few_there ps core s) p v note (act_is_noted IsDone play player_binds core (seats_seen s.plain) s.kept lawful p note noted) acted

  line_grows : (ls : List LineAt) (ps : List ℕ) (core mid : WorldAt Place Player) (s : Standing ps core) (l : LineAt) (event : Event) (next : Standing (ps ++ acts_by event l.party) mid) (u : SeatsWorld)
      → (after_seats next.plain (acts_of ls) ≡ Some u → Grows next.plain.world ls u.world)
      → happens play pick core l.party event ≡ Some mid → due play pick core l.party event ≡ Some l → after_seats s.plain (acts_by event l.party ++ acts_of ls) ≡ Some u
      → Grows s.plain.world (l ∷ ls) u.world
  line_grows ls ps core mid s l Act next u onward happened h run =
      let acted = last_act (seats_start file calls) s.plain next.plain ps l.party s.run next.run in
      grows_more s.plain.world next.plain.world u.world l ls (act_line ps core s next.plain l.party l.entry.note acted (note_due play pick core mid l.party Act l happened h)) (onward (then_after s.plain next.plain u l.party (acts_of ls) acted run))
  line_grows ls ps core mid s l (Deliver q) next u onward happened h run =
      let same : next.plain ≡ s.plain = one_end next.plain s.plain (sym next.run ∙ ap (after_seats (seats_start file calls)) (append-nil ps) ∙ s.run) in
      let rest = onward (subst (λ (x : SeatsWorld). after_seats x (acts_of ls) ≡ Some u) (sym same) run) in
      grows_more s.plain.world s.plain.world u.world l ls
      (frame_adds s.plain.world l.party l.entry.note (few_there ps core s) (front_tells (core.lanes q l.party) l.entry.note (note_due play pick core mid l.party (Deliver q) l happened h)))
      (subst (λ (x : SeatsWorld). Grows x.world ls u.world) same rest)

  grows_from : (ls front : List LineAt) (core last : WorldAt Place Player) (s : Standing (acts_of front) core) → IsSeatsHistory pick file calls front core → IsLog play pick core ls last → (u : SeatsWorld)
      → after_seats s.plain (acts_of ls) ≡ Some u → Grows s.plain.world ls u.world
  grows_from [] front core last s history log u run = subst (λ (x : SeatsWorld). Grows s.plain.world [] x.world) (one_end s.plain u run) (grows_none s.plain.world)
  grows_from (l ∷ ls) front core last s history log u run =
      let further : IsSeatsHistory pick file calls (front ++ l ∷ []) log.0 = logs_joined play pick front (l ∷ []) (seats_core file calls) core log.0 history (log.0, log.1, log.2, refl) in
      let after = stands_after (front ++ l ∷ []) log.0 further in
      let next : Standing (acts_of front ++ acts_by l.entry.event l.party) log.0 =
      record { plain = after.plain; run = sym (ap (after_seats (seats_start file calls)) (acts_more front l)) ∙ after.run; kept = after.kept } in
      line_grows ls (acts_of front) core log.0 s l l.entry.event next u (λ k. grows_from ls (front ++ l ∷ []) log.0 last after further log.3 u k) log.1 log.2 run

  -- ---- from the start

  module _ (lines : List LineAt) (core : WorldAt Place Player) (history : IsSeatsHistory pick file calls lines core) (t : SeatsWorld) (run : IsSeatsRun file calls (acts_of lines) t) where
    grown : Grows (seats_start file calls).world lines t.world
    grown =
        let s = stands_after [] (seats_core file calls) refl in
        let same : s.plain ≡ seats_start file calls = one_end s.plain (seats_start file calls) (sym s.run) in
        subst (λ (x : SeatsWorld). Grows x.world lines t.world) same
        (grows_from lines [] (seats_core file calls) core s refl history t (subst (λ (x : SeatsWorld). after_seats x (acts_of lines) ≡ Some t) (sym same) run))

    pub history_sent : (e : EndId) → (end_at t.world.sessions e).sent ≡ told_in (sent_told e) lines
    history_sent e = grown.sent e ∙ ap (λ xs. xs ++ told_in (sent_told e) lines) (fresh_at file file.connects e.sess e.side).0

    pub history_takers : (e : EndId) → (end_at t.world.sessions e).takers ≡ map (λ x. x.by) (told_in (taken_told e) lines)
    history_takers e = grown.takers e ∙ ap (λ xs. xs ++ map (λ x. x.by) (told_in (taken_told e) lines)) (fresh_at file file.connects e.sess e.side).1

    -- what the party requested, and which of that was accepted
    requests_are : (a : ℕ) → numbered a 0 (t.world.requests a) ≡ requests_told a lines
    requests_are a = grown.requested a

    accepts_are : (a k : ℕ) → k < limit_of_requests → accepted_at (t.world.requests a) k ≡ is_accepted_in (opened_number a k) lines
    accepts_are a k lt = grown.accepted a k lt

    pub history_opened : map unnamed (opened_in t.world) ≡ sessions_told lines (length file.parties) 0
    history_opened =
        let held = seats_run file calls accepted (acts_of lines) t run in
        all_told lines t.world.requests requests_are accepts_are held.sound.unshared.few (length t.world.parties) 0 ∙ ap (λ (n : ℕ). sessions_told lines n 0) held.proper.many

    pub history_count : messages_sent t.world ≡ sent_count lines
    history_count = omega (arith, grown.count, none_at_start file file.connects)
