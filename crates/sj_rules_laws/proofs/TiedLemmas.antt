-- The lines of a history are tied to the plain run of its acts.
use Rattle.std.proofs.Common.{◌≡◌, ℕ, List, [], ◌∷◌, ◌++◌, Option, Some, None, option_map, option_and_then, append-nil, refl, ap, sym, ◌∙◌, subst}
use Rattle.sj_lang.specs.Place.{Place}
use Rattle.sj_lang.specs.FileAt.{FileAt}
use Rattle.sj_acceptance.specs.Accepted.{IsAccepted}
use Rattle.sj_semantics.specs.Program.{Program}
use Rattle.sj_semantics.specs.Run.{IsRun, after_acts}
use Rattle.sj_semantics.specs.World.{World, act_of, start_of}
use Rattle.sj_semantics_laws.proofs.RunLemmas.{between}
use Rattle.sj_headline_laws.proofs.HeadlineLemmas.{acts_between}
use Rattle.sj_rules.specs.Frames.{FrameAt}
use Rattle.sj_rules.specs.History.{IsHistory, IsLog, due, event_note, front_note, line_after}
use Rattle.sj_rules.specs.Log.{LineAt, NoteAt, body_note}
use Rattle.sj_rules.specs.Party.{play_of}
use Rattle.sj_rules.specs.Record.{Ack, BodyAt, Carry, Claim, Fin, Give, Open, Signal}
use Rattle.sj_rules.specs.Rows.{IsPick}
use Rattle.sj_rules.specs.Start.{core_start}
use Rattle.sj_rules.specs.World.{Act, Deliver, Event, WorldAt, happens}
use Rattle.sj_rules_laws.specs.TiedNotes.{AreTied, IsOfFrame, TiesLine}
use Rattle.sj_rules_laws.proofs.CoreRunLemmas.{StandsAfter, run_stands, runs_stand}
use Rattle.sj_rules_laws.proofs.LawfulLemmas.{run_is_lawful}
use Rattle.sj_rules_laws.proofs.TiedActLemmas.{act_noted}

-- ---- what a line is

body_tells : (b : BodyAt Place) → IsOfFrame (body_note b)
body_tells (Carry to conn number taken msg) = tt
body_tells (Fin to conn number) = tt
body_tells (Claim of) = tt
body_tells (Signal to conn party taken) = tt
body_tells (Ack of conn) = tt
body_tells (Give end resend) = tt
body_tells (Open sess) = tt

front_tells : (fs : List (FrameAt Place)) (note : NoteAt) → front_note fs ≡ Some note → IsOfFrame note
front_tells [] note h = cc
front_tells (f ∷ rest) note h = subst IsOfFrame (let it : body_note f.body ≡ note = cc in it) (body_tells f.body)

-- the note of the line that is due
note_due : (file : FileAt) (pick : ℕ → ℕ → ℕ) (core mid : WorldAt Place Program) (p : ℕ) (event : Event) (l : LineAt) → happens (play_of file) pick core p event ≡ Some mid → due (play_of file) pick core p event ≡ Some l
    → event_note (play_of file) core p event ≡ Some l.entry.note
note_due file pick core mid p event l happened h = by (event_note (play_of file) core p event) (sym (ap (option_and_then (line_after (play_of file) core p event)) happened) ∙ h)
  where
    by : (o : Option NoteAt) → option_map (λ note. record { party = p; entry = record { clock = (mid.nodes p).clock; event = event; note = note } }) o ≡ Some l → o ≡ Some l.entry.note
    by None k = cc
    by (Some note) k =
        let it : record { party = p; entry = record { clock = (mid.nodes p).clock; event = event; note = note } } ≡ l = cc in
        ap (λ (x : LineAt). Some x.entry.note) it

-- ---- one act more

pub act_between : (file : FileAt) (ps : List ℕ) (w v : World) (p : ℕ) → IsRun file ps w → IsRun file (ps ++ p ∷ []) v → act_of w p ≡ Some v
act_between file ps w v p run on =
    let m = between (λ x. after_acts x []) (act_of w p) v (acts_between file ps (p ∷ []) w v run on) in
    m.before ∙ m.afterwards

one_end : (v u : World) → ◌≡◌ {A = Option World} (Some v) (Some u) → v ≡ u
one_end v u e = cc

-- ---- histories

module _ (file : FileAt) (accepted : IsAccepted file) (pick : ℕ → ℕ → ℕ) (picks : IsPick pick) where
  tied_line : (ls : List LineAt) (core mid : WorldAt Place Program) (ps : List ℕ) (s : StandsAfter file ps core) (l : LineAt) (event : Event)
      → ((qs : List ℕ) (t : StandsAfter file qs mid) → AreTied t.plain ls)
      → happens (play_of file) pick core l.party event ≡ Some mid → due (play_of file) pick core l.party event ≡ Some l → TiesLine (λ v. AreTied v ls) s.plain l event
  tied_line ls core mid ps s l Act onward happened h =
      let next = run_stands file accepted core mid ps (record { party = l.party; event = Act } ∷ []) s (mid, (pick, picks, happened), refl) in
      let acted = act_between file ps s.plain next.plain l.party s.run next.run in (
        next.plain,
        acted,
        act_noted file core s.plain s.kept (run_is_lawful file ps s.plain accepted s.run) l.party next.plain l.entry.note acted (note_due file pick core mid l.party Act l happened h),
        onward (ps ++ l.party ∷ []) next,
      )
  tied_line ls core mid ps s l (Deliver q) onward happened h =
      let next = run_stands file accepted core mid ps (record { party = l.party; event = Deliver q } ∷ []) s (mid, (pick, picks, happened), refl) in
      let same : next.plain ≡ s.plain = one_end next.plain s.plain (sym next.run ∙ ap (after_acts (start_of file)) (append-nil ps) ∙ s.run) in (
        front_tells (core.lanes q l.party) l.entry.note (note_due file pick core mid l.party (Deliver q) l happened h),
        subst (λ (v : World). AreTied v ls) same (onward (ps ++ []) next),
      )

  tied_from : (lines : List LineAt) (core last : WorldAt Place Program) (ps : List ℕ) (s : StandsAfter file ps core) → IsLog (play_of file) pick core lines last → AreTied s.plain lines
  tied_from [] core last ps s log = tt
  tied_from (l ∷ ls) core last ps s log = tied_line ls core log.0 ps s l l.entry.event (λ qs t. tied_from ls log.0 last qs t log.3) log.1 log.2

  pub history_is_tied : (lines : List LineAt) (core : WorldAt Place Program) → IsHistory pick file lines core → AreTied (start_of file) lines
  history_is_tied lines core history =
      let s = runs_stand file accepted [] (core_start file) refl in
      subst (λ (v : World). AreTied v lines) (one_end s.plain (start_of file) (sym s.run)) (tied_from lines (core_start file) core [] s history)
