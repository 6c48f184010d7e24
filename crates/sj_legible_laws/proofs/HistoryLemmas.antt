-- The history of a run of a file that a text stands for is legible.
use Rattle.std.proofs.Common.{◌≡◌, ℕ, ◌+◌, ◌<◌, ◌≤◌, List, [], ◌∷◌, ◌++◌, length, Some, option_and_then, refl, ap, sym, ◌∙◌, subst, arith, inl, inr, ◌⊎◌}
use Rattle.std.specs.List.{AllByRecursion}
use Rattle.std.proofs.lemmas.Bool.{cases_lt}
use Rattle.sj_lang.specs.Place.{Place}
use Rattle.sj_lang.specs.FileAt.{FileAt}
use Rattle.sj_lang.specs.Limits.{file_limit}
use Rattle.sj_acceptance.specs.Accepted.{IsAccepted}
use Rattle.sj_grammar.specs.Files.{IsFile}
use Rattle.sj_semantics.specs.Program.{Program}
use Rattle.sj_rules.specs.Rows.{IsPick}
use Rattle.sj_rules.specs.Node.{requests, Play, acts}
use Rattle.sj_rules.specs.Frames.{FrameAt}
use Rattle.sj_rules.specs.Log.{NoteAt, LineAt, body_note}
use Rattle.sj_rules.specs.World.{WorldAt, Event, Act, Deliver, Turn, Run, IsStep, after_event, happens}
use Rattle.sj_rules.specs.Within.{BodyWithin, IsWithin}
use Rattle.sj_rules.specs.Events.{acts_in}
use Rattle.sj_rules.specs.Party.{IsDone, binds, play_of}
use Rattle.sj_rules.specs.Plain.{plain_at}
use Rattle.sj_rules.specs.Premises.{FitsStep}
use Rattle.sj_rules.specs.Start.{core_start}
use Rattle.sj_rules.specs.History.{front_note, event_note, line_after, due, IsLog, IsCoreRun, IsHistory, turn_of}
use Rattle.sj_rules_laws.proofs.WithinRowLemmas.{by_map, by_some}
use Rattle.sj_rules_laws.proofs.ClockLemmas.{clock_rises}
use Rattle.sj_rules_laws.proofs.CoreRunLemmas.{runs_stand}
use Rattle.sj_rules_laws.proofs.LawfulLemmas.{run_is_lawful}
use Rattle.sj_rules_laws.proofs.LimitLemmas.{core_run_clocks, core_run_within}
use Rattle.sj_rules_laws.proofs.ShortRunLemmas.{runs_are_short}
use Rattle.sj_log.specs.Legible.{IsEvent, IsLegible, AreLegible, HasParty}
use Rattle.sj_legible_laws.proofs.LegibleParts.{FramesTold, WorldTold}
use Rattle.sj_legible_laws.proofs.CodeParts.{ProgramTold}
use Rattle.sj_legible_laws.proofs.ProgramLemmas.{play_told}
use Rattle.sj_legible_laws.proofs.WorldLemmas.{acting_below, happens_told}
use Rattle.sj_legible_laws.proofs.NoteLemmas.{said_legible, act_legible}
use Rattle.sj_legible_laws.proofs.PartyLemmas.{has_party, few_parties}
use Rattle.sj_legible_laws.proofs.StartLemmas.{start_told}

-- one step more
run_more : {P Q : Type 0} (play : Play P Q) (ts : List Turn) (w u v : WorldAt P Q) (t : Turn) → Run play w ts u → IsStep play u t.party t.event v → Run play w (ts ++ t ∷ []) v
run_more play [] w u v t run step = (v, subst (λ x. IsStep play x t.party t.event v) (sym run) step, refl)
run_more play (x ∷ ts) w u v t run step = (run.0, run.1, run_more play ts run.0 u v t run.2 step)

-- the line of an event that led to that world
line_there : {P Q : Type 0} (play : Play P Q) (pick : ℕ → ℕ → ℕ) (w v : WorldAt P Q) (p : ℕ) (event : Event) (l : LineAt) → happens play pick w p event ≡ Some v → due play pick w p event ≡ Some l
    → line_after play w p event v ≡ Some l
line_there play pick w v p event l h d = sym (ap (option_and_then (line_after play w p event)) h) ∙ d

module _ (bytes : List ℕ) (file : FileAt) (few : length bytes ≤ file_limit) (is : IsFile bytes file) (accepted : IsAccepted file) where
  parties : (p : ℕ) → p < length file.parties → HasParty file p
  parties p lt = has_party bytes file few is accepted p lt

  abbrev Told : WorldAt Place Program → Type 0
  Told w = WorldTold file (ProgramTold file) (play_of file) (length file.parties) w

  module _ (turns : List Turn) (w : WorldAt Place Program) (run : IsCoreRun file turns w) (told : Told w) where
    within : IsWithin (length file.parties) w
    within = core_run_within file accepted turns w run

    -- a party to which a session is opened is there
    opened_there : (p : ℕ) (place : Place) (to : ℕ) → (play_of file).wants (w.nodes p).program ≡ requests place to → HasParty file to
    opened_there p place to want =
        let s = runs_stand file accepted turns w run in
        let lawful = run_is_lawful file (acts_in turns) s.plain accepted s.run in
        let plain = plain_at s.plain in
        let fit = subst (FitsStep IsDone (play_of file) binds plain p (plain.programs p)) (sym (ap (play_of file).wants (s.kept.kept.programs p)) ∙ want) (lawful.steps p) in
        parties to fit.0

    -- a frame that is there lies between parties of the file
    ends_below : (p q : ℕ) (f : FrameAt Place) (rest : List (FrameAt Place)) → w.lanes q p ≡ f ∷ rest → (p < length file.parties) × (q < length file.parties)
    ends_below p q f rest there = (to (cases_lt p (length file.parties)), from (cases_lt q (length file.parties)))
      where
        filled : w.lanes q p ≡ [] → ⊥
        filled none = let clash : [] ≡ f ∷ rest = sym none ∙ there in cc

        to : (p < length file.parties) ⊎ (length file.parties ≤ p) → p < length file.parties
        to (inl lt) = lt
        to (inr le) = absurd (filled (within.outside q p (inr le)))

        from : (q < length file.parties) ⊎ (length file.parties ≤ q) → q < length file.parties
        from (inl lt) = lt
        from (inr le) = absurd (filled (within.outside q p (inl le)))

    -- what is reported of an event, and of its party
    abbrev EventLegible : ℕ → Event → NoteAt → Type 0
    EventLegible p event note = HasParty file p × IsEvent file event note

    delivery_legible : (p q : ℕ) (note : NoteAt) (l : List (FrameAt Place)) → w.lanes q p ≡ l → front_note l ≡ Some note → EventLegible p (Deliver q) note
    delivery_legible p q note [] there h = cc
    delivery_legible p q note (f ∷ rest) there h =
        let below = ends_below p q f rest there in
        let own : FramesTold file (f ∷ rest) = subst (FramesTold file) there (told.frames q p) in
        let fits : AllByRecursion (λ (g : FrameAt Place). BodyWithin (length file.parties) g.body) (f ∷ rest) =
        subst (AllByRecursion (λ (g : FrameAt Place). BodyWithin (length file.parties) g.body)) there (within.frames q p) in
        by_some (EventLegible p (Deliver q)) (body_note f.body) note h
        (parties p below.0, (parties q below.1, said_legible file (length file.parties) f.body parties own.0 fits.0))

    event_legible : (pick : ℕ → ℕ → ℕ) (v : WorldAt Place Program) (p : ℕ) (event : Event) (note : NoteAt) → happens (play_of file) pick w p event ≡ Some v
        → event_note (play_of file) w p event ≡ Some note → EventLegible p event note
    event_legible pick v p Act note h k =
        by_map (λ x. EventLegible p Act note) (after_event w p ((w.nodes p).clock + 1) w.lanes) (acts (play_of file) p (w.nodes p)) v h (λ done acted.
        let lt = acting_below file (ProgramTold file) (play_of file) (play_told file) (length file.parties) parties (few_parties bytes file few is accepted) w p done told acted in
        let here = parties p lt in
        let most : length file.parties ≤ 16 = accepted.within.parties in (
          here,
          act_legible file (ProgramTold file) (play_of file) p (w.nodes p) (told.nodes p) here (omega (arith, lt, most)) done acted ((play_of file).wants (w.nodes p).program) note refl
              ((play_told file).wants (w.nodes p).program (told.nodes p).program) (opened_there p) k,
        ))
    event_legible pick v p (Deliver q) note h k = delivery_legible p q note (w.lanes q p) refl k

    -- the line of an event
    line_legible : (pick : ℕ → ℕ → ℕ) → IsPick pick → (v : WorldAt Place Program) (l : LineAt) → happens (play_of file) pick w l.party l.entry.event ≡ Some v
        → due (play_of file) pick w l.party l.entry.event ≡ Some l → IsCoreRun file (turns ++ turn_of l ∷ []) v → IsLegible file l
    line_legible pick picks v l h d after =
        by_map (IsLegible file) _ (event_note (play_of file) w l.party l.entry.event) l (line_there (play_of file) pick w v l.party l.entry.event l h d) (λ note k.
        let it = event_legible pick v l.party l.entry.event note h k in
        let rises = (clock_rises (play_of file) pick w l.party l.entry.event v h).0 in
        let low = (core_run_clocks file (turns ++ turn_of l ∷ []) v after).nodes l.party in
        let short = runs_are_short file accepted (turns ++ turn_of l ∷ []) v after in
        record { least = omega (arith, rises); most = omega (arith, low, short); party = it.0; event = it.1 })

  lines_legible : (pick : ℕ → ℕ → ℕ) → IsPick pick → (lines : List LineAt) (turns : List Turn) (w v : WorldAt Place Program) → IsCoreRun file turns w → Told w → IsLog (play_of file) pick w lines v → AreLegible file lines
  lines_legible pick picks [] turns w v run told h = tt
  lines_legible pick picks (l ∷ ls) turns w v run told h =
      let mid = h.0 in
      let after : IsCoreRun file (turns ++ turn_of l ∷ []) mid = run_more (play_of file) turns (core_start file) w mid (turn_of l) run (pick, picks, h.1) in
      let next : Told mid =
      happens_told file (ProgramTold file) (play_of file) (play_told file) (length file.parties) parties (few_parties bytes file few is accepted) pick w mid l.party l.entry.event (core_run_within file accepted turns w run) told h.1 in
      (line_legible turns w run told pick picks mid l h.1 h.2 after, lines_legible pick picks ls (turns ++ turn_of l ∷ []) mid v after next h.3)

  pub history_legible : (pick : ℕ → ℕ → ℕ) → IsPick pick → (lines : List LineAt) (core : WorldAt Place Program) → IsHistory pick file lines core → AreLegible file lines
  history_legible pick picks lines core h = lines_legible pick picks lines [] (core_start file) core refl (start_told file accepted bytes few is) h
