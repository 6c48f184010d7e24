-- Each number of a core run is within its limit, so the first frame of a lane fits its row with the
-- limits too.
use Rattle.std.proofs.Common.{◌≡◌, ℕ, zero, suc, ◌+◌, ◌<◌, ◌≤◌, Bool, true, ◌&&◌, List, [], ◌∷◌, ◌++◌, length, slice_get, Some, refl, ap, ◌∙◌, subst, arith}
use Rattle.std.specs.Prelude.{nat_lt, nat_le, max}
use Rattle.std.specs.List.{AllByRecursion}
use Rattle.std.proofs.lemmas.Bool.{le-leb, lt-ltb}
use Rattle.sj_base.specs.declared.EndId.{EndId}
use Rattle.sj_base.specs.declared.Msg.{Msg}
use Rattle.sj_lang.specs.Place.{Place, done}
use Rattle.sj_lang.specs.FileAt.{FileAt}
use Rattle.sj_acceptance.specs.Accepted.{IsAccepted}
use Rattle.sj_semantics.specs.Program.{Program}
use Rattle.sj_rules.specs.Limits.{limit_of_conns, limit_of_messages, clock_end}
use Rattle.sj_rules.specs.Record.{BodyAt, Carry, Fin, Claim, Signal, Ack, Give, Open, HeldAt, Held}
use Rattle.sj_rules.specs.Opened.{opened_number}
use Rattle.sj_rules.specs.Rows.{Worked, IsPick}
use Rattle.sj_rules.specs.Frames.{FrameAt, is_within, is_proper}
use Rattle.sj_rules.specs.Node.{NodeAt, arrives}
use Rattle.sj_rules.specs.World.{WorldAt, Turn, Deliver, after_event, with_lane, delivery_of, happens}
use Rattle.sj_rules.specs.Party.{IsDone, play_of, binds}
use Rattle.sj_rules.specs.Plain.{plain_at}
use Rattle.sj_rules.specs.Start.{core_start}
use Rattle.sj_rules.specs.Within.{BodyWithin, IsWithin, NoneAbove, ClocksWithin}
use Rattle.sj_rules.specs.Binding.{NamesKnown}
use Rattle.sj_rules_laws.proofs.KeptLemmas.{open_untaken}
use Rattle.sj_rules.specs.Events.{acts_in}
use Rattle.sj_rules.specs.History.{IsCoreRun, whole_caches}
use Rattle.sj_joined_lemmas.proofs.LimitLemmas.{run_clocks}
use Rattle.sj_rules_laws.proofs.CoreActLemmas.{map_has}
use Rattle.sj_rules_laws.proofs.LawfulLemmas.{run_is_lawful, run_messages_known}
use Rattle.sj_rules_laws.proofs.ShortRunLemmas.{runs_are_short}
use Rattle.sj_rules_laws.proofs.RunLawsLemmas.{whole_caches_pick}
use Rattle.sj_rules_laws.proofs.WithinWorldLemmas.{held_few}
use Rattle.sj_rules_laws.proofs.CoreRunLemmas.{runs_stand, run_fronts_fit}

-- of these tests, all are passed
all_pass : (a b c d : Bool) → a ≡ true → b ≡ true → c ≡ true → d ≡ true → (a && b && c && d) ≡ true
all_pass a b c d h i j k = rw (h, i, j, k) refl

-- what is within the limits passes the test
pub body_is_within : {P : Type 0} → (n : ℕ) (b : BodyAt P) → BodyWithin n b → is_within n b ≡ true
body_is_within n (Carry to c number taken msg) h = rw (le-leb c limit_of_conns h.0, le-leb number limit_of_messages h.1, le-leb taken limit_of_messages h.2) refl
body_is_within n (Fin to c number) h = rw (le-leb c limit_of_conns h.0, le-leb number limit_of_messages h.1) refl
body_is_within n (Claim of) h = refl
body_is_within n (Signal to c party taken) h = rw (le-leb c limit_of_conns h.0, lt-ltb party n h.1, le-leb taken limit_of_messages h.2) refl
body_is_within n (Ack of c) h = le-leb c limit_of_conns h.0
body_is_within n (Open sess) h = rw (le-leb 64 sess h.0, lt-ltb sess (opened_number n 0) h.1) refl
body_is_within n (Give e resend) h =
    all_pass (nat_le e.conn limit_of_conns) (nat_lt e.peer n) (nat_le e.sent limit_of_messages) (nat_le e.taken limit_of_messages)
    (le-leb e.conn limit_of_conns h.conn) (lt-ltb e.peer n h.peer) (le-leb e.sent limit_of_messages h.sent) (le-leb e.taken limit_of_messages h.taken)

-- so do all frames of a lane whose clocks are below 2^62
pub frames_are_proper : {P : Type 0} → (n c : ℕ) (fs : List (FrameAt P)) → c < clock_end → AllByRecursion (λ f. BodyWithin n f.body) fs → NoneAbove c fs
    → AllByRecursion (λ f. is_proper n f ≡ true) fs
frames_are_proper n c [] low within above = tt
frames_are_proper n c (f ∷ fs) low within above =
    let body : is_within n f.body ≡ true = body_is_within n f.body within.0 in
    let time : nat_lt f.clock clock_end ≡ true = lt-ltb f.clock clock_end (omega (arith, low, above.0)) in
    (rw (time, body) refl, frames_are_proper n c fs low within.1 above.1)

-- at the start no clock is above 0
start_clocks : (file : FileAt) → ClocksWithin 0 (core_start file)
start_clocks file = record { nodes = λ p. omega arith; lanes = λ p q. tt }

-- no clock is above the number of events
pub core_run_clocks : (file : FileAt) (turns : List Turn) (core : WorldAt Place Program) → IsCoreRun file turns core → ClocksWithin (length turns) core
core_run_clocks file turns core run =
    let same : 0 + length turns ≡ length turns = omega arith in
    subst (λ k. ClocksWithin k core) same (run_clocks (play_of file) turns 0 (core_start file) core (start_clocks file) run)

-- what is in a front is in the whole
get_first : (xs ys : List Msg) (j : ℕ) (m : Msg) → slice_get xs j ≡ Some m → slice_get (xs ++ ys) j ≡ Some m
get_first [] ys j m h = cc
get_first (x ∷ xs) ys zero m h = h
get_first (x ∷ xs) ys (suc j) m h = get_first xs ys j m h

module _ (file : FileAt) (accepted : IsAccepted file) (turns : List Turn) (core : WorldAt Place Program) (run : IsCoreRun file turns core) where
  pub core_run_within : IsWithin (length file.parties) core
  core_run_within = (runs_stand file accepted turns core run).within

  -- a core run has fewer than 2^62 events
  few_turns : length turns < clock_end
  few_turns = let short : length turns ≤ 51200960000 = runs_are_short file accepted turns core run in omega (arith, short)

  pub core_run_proper : (p q : ℕ) → AllByRecursion (λ f. is_proper (length file.parties) f ≡ true) (core.lanes p q)
  core_run_proper p q =
      frames_are_proper (length file.parties) (length turns) (core.lanes p q) few_turns (core_run_within.frames p q) ((core_run_clocks file turns core run).lanes p q)

  pub core_run_few : (p : ℕ) (e : EndId) (h : HeldAt Place) → e.side < 2 → (core.nodes p).main e ≡ Some (Held h) → (h.end.sent < limit_of_messages) × (h.end.taken < limit_of_messages)
  core_run_few p e h low there =
      let s = runs_stand file accepted turns core run in
      held_few (length file.parties) IsDone (play_of file) binds whole_caches whole_caches_pick core (plain_at s.plain) s.kept (run_is_lawful file (acts_in turns) s.plain accepted s.run) refl p e low h there

  -- what is untaken names sessions and parties of the file
  pub core_run_known : (p : ℕ) (e : EndId) (h : HeldAt Place) (j : ℕ) (m : Msg) → e.side < 2 → (core.nodes p).main e ≡ Some (Held h) → slice_get h.untaken j ≡ Some m
      → NamesKnown (length file.parties) (length file.connects) m
  core_run_known p e h j m low there at =
      let s = runs_stand file accepted turns core run in
      let front = open_untaken IsDone binds done core (plain_at s.plain) s.kept p e h low there in
      run_messages_known file (acts_in turns) s.plain accepted s.run e j m low
      (ap (λ ms. slice_get ms j) front.all ∙ get_first h.untaken front.rest j m at)

  -- the first frame of a lane fits its row
  pub run_front_fits : (pick : ℕ → ℕ → ℕ) (p q : ℕ) (f : FrameAt Place) (rest : List (FrameAt Place)) → IsPick pick → core.lanes q p ≡ f ∷ rest
      → (after : WorldAt Place Program) × (happens (play_of file) pick core p (Deliver q) ≡ Some after)
  run_front_fits pick p q f rest picks front =
      let proper : AllByRecursion (λ f. is_proper (length file.parties) f ≡ true) (f ∷ rest) =
      subst (λ (l : List (FrameAt Place)). AllByRecursion (λ f. is_proper (length file.parties) f ≡ true) l) front (core_run_proper q p) in
      run_fronts_fit file accepted turns core run pick picks q p f rest front proper.0

  -- what a delivery did by its row
  row_of : (pick : ℕ → ℕ → ℕ) (p q : ℕ) (f : FrameAt Place) (rest : List (FrameAt Place)) (after : WorldAt Place Program) → (l : List (FrameAt Place)) → l ≡ f ∷ rest
      → delivery_of (play_of file) pick core p q l ≡ Some after → (worked : Worked Place (NodeAt Place Program)) × (arrives done (length file.parties) pick (core.nodes p) q f ≡ Some worked)
  row_of pick p q f rest after l front h =
      let there : delivery_of (play_of file) pick core p q (f ∷ rest) ≡ Some after = subst (λ (l : List (FrameAt Place)). delivery_of (play_of file) pick core p q l ≡ Some after) front h in
      let m = map_has (after_event core p (max (core.nodes p).clock f.clock + 1) (with_lane q p rest core.lanes)) (arrives done (length file.parties) pick (core.nodes p) q f) after there in
      (m.some, m.is)

  -- so it arrives at the party's node
  pub run_front_arrives : (pick : ℕ → ℕ → ℕ) (p q : ℕ) (f : FrameAt Place) (rest : List (FrameAt Place)) → IsPick pick → core.lanes q p ≡ f ∷ rest
      → (worked : Worked Place (NodeAt Place Program)) × (arrives done (length file.parties) pick (core.nodes p) q f ≡ Some worked)
  run_front_arrives pick p q f rest picks front =
      let fits = run_front_fits pick p q f rest picks front in
      row_of pick p q f rest fits.0 (core.lanes q p) front fits.1
