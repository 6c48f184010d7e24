-- A drain has lines, and so lines that lead to a world begin a history.
use Rattle.std.proofs.Common.{◌≡◌, ◌∙◌, ℕ, max, List, [], ◌∷◌, ◌++◌, Some, map, length, refl, ap₂, sym, subst}
use Rattle.std.proofs.lemmas.List.{map-append}
use Rattle.sj_lang.specs.FileAt.{FileAt}
use Rattle.sj_lang.specs.Place.{Place}
use Rattle.sj_acceptance.specs.Accepted.{IsAccepted}
use Rattle.sj_semantics.specs.Program.{Program}
use Rattle.sj_rules.specs.Drain.{ActsOut, DrainsBy, Empties, EmptiesEach, IsDrained, TakeTurns, TakesTurn, numbers_from, turn}
use Rattle.sj_rules.specs.History.{IsLog, turn_of}
use Rattle.sj_rules.specs.Log.{LineAt}
use Rattle.sj_rules.specs.Node.{Play}
use Rattle.sj_rules.specs.Party.{play_of}
use Rattle.sj_rules.specs.Start.{core_start}
use Rattle.sj_rules.specs.World.{Act, Deliver, Event, Turn, WorldAt, happens}
use Rattle.sj_joined_lemmas.proofs.HistoryLemmas.{log_runs, logs_joined}
use Rattle.sj_joined_lemmas.proofs.ReplayLemmas.{step_lined}
use Rattle.sj_rules_laws.proofs.DrainEndLemmas.{drained_is_quiet}
use Rattle.sj_rules_laws.proofs.DrainRunLemmas.{run_drains}
use Rattle.sj_core.proofs.LawLemmas.{max_picks}
use Rattle.sj_command.specs.declared.tasks.Task.{Task}
use Rattle.sj_tool.specs.LogAt.{LogAt}
use Rattle.sj_tool.specs.Calls.{LinkUseAt}
use Rattle.sj_tool.specs.Runs.{HasBegun, HasHistory}

module _ {P Q : Type 0} (play : Play P Q) (pick : ℕ → ℕ → ℕ) where
  -- these events have lines, which lead from the one world to the other
  record HasLines (w : WorldAt P Q) (ts : List Turn) (v : WorldAt P Q) : Type 0 where
    lines : List LineAt
    leads : IsLog play pick w lines v
    turns : map turn_of lines ≡ ts

  none_lined : (w v : WorldAt P Q) (ts : List Turn) → ts ≡ [] → w ≡ v → HasLines w ts v
  none_lined w v ts none same = record { lines = []; leads = same; turns = sym none }

  step_first : (w mid v : WorldAt P Q) (p : ℕ) (event : Event) (t : Turn) (ts : List Turn) → t ≡ turn p event → happens play pick w p event ≡ Some mid → HasLines mid ts v → HasLines w (t ∷ ts) v
  step_first w mid v p event t ts is step rest =
      let n = step_lined play pick w p event mid step in
      let line : LineAt = record { party = p; entry = record { clock = (mid.nodes p).clock; event = event; note = n.0 } } in
      record { lines = line ∷ rest.lines; leads = (mid, step, n.1, rest.leads); turns = ap₂ (λ (u : Turn) (us : List Turn). u ∷ us) (sym is) rest.turns }

  both_lined : (w mid v : WorldAt P Q) (ts first rest : List Turn) → ts ≡ first ++ rest → HasLines w first mid → HasLines mid rest v → HasLines w ts v
  both_lined w mid v ts first rest is a b = record {
    lines = a.lines ++ b.lines;
    leads = logs_joined play pick a.lines b.lines w mid v a.leads b.leads;
    turns = map-append turn_of a.lines b.lines ∙ ap₂ (λ (x y : List Turn). x ++ y) a.turns b.turns ∙ sym is;
  }

  empties_lined : (p q : ℕ) (w v : WorldAt P Q) (ts : List Turn) → Empties play pick p q w ts v → HasLines w ts v
  empties_lined p q w v [] e = none_lined w v [] refl e.1
  empties_lined p q w v (t ∷ ts) e = step_first w e.1.0 v p (Deliver q) t ts e.0 e.1.1.0 (empties_lined p q e.1.0 v ts e.1.1.1)

  acts_lined : (p : ℕ) (w v : WorldAt P Q) (ts : List Turn) → ActsOut play pick p w ts v → HasLines w ts v
  acts_lined p w v [] e = none_lined w v [] refl e.1
  acts_lined p w v (t ∷ ts) e = step_first w e.1.0 v p Act t ts e.0 e.1.1.0 (acts_lined p e.1.0 v ts e.1.1.1)

  each_lined : (p : ℕ) (qs : List ℕ) (w v : WorldAt P Q) (ts : List Turn) → EmptiesEach play pick p qs w ts v → HasLines w ts v
  each_lined p [] w v ts e = none_lined w v ts e.0 e.1
  each_lined p (q ∷ qs) w v ts e =
      let x = e.1.1.1 in both_lined w e.1.1.0 v ts e.0 e.1.0 x.0 (empties_lined p q w e.1.1.0 e.0 x.1) (each_lined p qs e.1.1.0 v e.1.0 x.2)

  turn_lined : (n p : ℕ) (w v : WorldAt P Q) (ts : List Turn) → TakesTurn play pick n p w ts v → HasLines w ts v
  turn_lined n p w v ts e =
      let x = e.1.1.1 in both_lined w e.1.1.0 v ts e.0 e.1.0 x.0 (each_lined p (numbers_from 0 n) w e.1.1.0 e.0 x.1) (acts_lined p e.1.1.0 v e.1.0 x.2)

  turns_lined : (n : ℕ) (ps : List ℕ) (w v : WorldAt P Q) (ts : List Turn) → TakeTurns play pick n ps w ts v → HasLines w ts v
  turns_lined n [] w v ts e = none_lined w v ts e.0 e.1
  turns_lined n (p ∷ ps) w v ts e =
      let x = e.1.1.1 in both_lined w e.1.1.0 v ts e.0 e.1.0 x.0 (turn_lined n p w e.1.1.0 e.0 x.1) (turns_lined n ps e.1.1.0 v e.1.0 x.2)

  drains_lined : (n : ℕ) (rs : List (List Turn)) (w v : WorldAt P Q) (ts : List Turn) → DrainsBy play pick n rs w ts v → HasLines w ts v
  drains_lined n [] w v ts e = subst (λ (xs : List Turn). HasLines w xs v) (sym e.0) (turns_lined n (numbers_from 0 n) w v [] e.1)
  drains_lined n (r ∷ rs) w v ts e =
      let x = e.1.1 in both_lined w e.1.0 v ts r e.0 x.1 (turns_lined n (numbers_from 0 n) w e.1.0 r x.2) (drains_lined n rs e.1.0 v e.0 x.3)

-- where given lines lead, a history goes on to where nothing is left to do
pub begun_goes_on : (links : LinkUseAt) (task : Task) (log : LogAt) (file : FileAt) → IsAccepted file → HasBegun links task log file
    → (history : List LineAt) × (core : WorldAt Place Program) × HasHistory links task log file history core
begun_goes_on links task log file accepted b =
    let play = play_of file in
    let n = length file.parties in
    let (turns, last, by) = run_drains file accepted max max_picks (map turn_of b.lines) b.left (log_runs play max max_picks b.lines (core_start file) b.left b.leads) in
    let more = drains_lined play max n by.0 b.left last turns by.1 in
    let drained : IsDrained play max n b.left (map turn_of more.lines) last = subst (λ (ts : List Turn). IsDrained play max n b.left ts last) (sym more.turns) by in (
      b.lines ++ more.lines,
      last,
      record {
        begun = b;
        more = more.lines;
        all = refl;
        drained = drained;
        run = logs_joined play max b.lines more.lines (core_start file) b.left last b.leads more.leads;
        quiet = drained_is_quiet play max n b.left last turns by;
      },
    )
