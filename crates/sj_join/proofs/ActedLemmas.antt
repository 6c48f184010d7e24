-- The acts of the lines of a log, done again in the plain world.
use Rattle.std.proofs.Common.{◌≡◌, ◌∙◌, ◌<◌, ◌≤◌, ◌+◌, ℕ, List, [], ◌∷◌, ◌++◌, Option, Some, None, ap, append-nil, append_assoc, drop, get_or, length, map, max, option_and_then, refl, subst, sym, take, take_all}
use Rattle.std.specs.Prelude.{IfSome}
use Rattle.std.proofs.lemmas.List.{drop_more, map-append, map_more, take-append-drop}
use Rattle.sj_acceptance.specs.Accepted.{IsAccepted}
use Rattle.sj_core.proofs.LawLemmas.{max_picks}
use Rattle.sj_end.specs.Lines.{event_at, line_at}
use Rattle.sj_end.specs.declared.note.Line.{Line}
use Rattle.sj_joined_lemmas.proofs.HistoryLemmas.{log_runs}
use Rattle.sj_lang.specs.FileAt.{FileAt}
use Rattle.sj_lang.specs.FileView.{file_of}
use Rattle.sj_lang.specs.Place.{Place}
use Rattle.sj_lang.specs.declared.file.File.{File}
use Rattle.sj_plain.proofs.BeginLemmas.{start_same}
use Rattle.sj_plain.specs.SharedFile.{without_words}
use Rattle.sj_plain.specs.Plain.{acts_of, kept_file, world_at}
use Rattle.sj_plain.specs.declared.plain.Plain.{Plain}
use Rattle.sj_rules.specs.Events.{acts_by}
use Rattle.sj_rules.specs.History.{IsHistory, turn_of}
use Rattle.sj_rules.specs.Log.{LineAt}
use Rattle.sj_rules.specs.Party.{play_of}
use Rattle.sj_rules.specs.Start.{core_start}
use Rattle.sj_rules.specs.World.{WorldAt}
use Rattle.sj_rules_laws.proofs.CoreRunLemmas.{run_stands_for}
use Rattle.sj_semantics.specs.Program.{Program}
use Rattle.sj_semantics.specs.Run.{IsRun, after_acts}
use Rattle.sj_semantics.specs.World.{World, act_of, start_of}
use Rattle.sj_join.specs.Now.{IsNow, actors, ending_of, now_text}
use Rattle.sj_join.specs.declared.now.Now.{Now}

-- who acts in both
actors_both : (xs ys : List LineAt) → actors (xs ++ ys) ≡ actors xs ++ actors ys
actors_both [] ys = refl
actors_both (x ∷ xs) ys = ap (λ (t : List ℕ). acts_by x.entry.event x.party ++ t) (actors_both xs ys) ∙ sym (append_assoc (acts_by x.entry.event x.party) (actors xs) (actors ys))

-- one line of a log more
actors_more : (lines : List Line) (i : ℕ) (l : Line) → i < length lines
    → actors (map line_at (take (i + 1) lines)) ≡ actors (map line_at (take i lines)) ++ acts_by (event_at (get_or lines i l).entry.event) (get_or lines i l).party
actors_more lines i l less =
    ap actors (map_more line_at lines i l less) ∙ actors_both (map line_at (take i lines)) (line_at (get_or lines i l) ∷ [])
    ∙ ap (λ (t : List ℕ). actors (map line_at (take i lines)) ++ t) (append-nil (acts_by (event_at (get_or lines i l).entry.event) (get_or lines i l).party))

-- its act is done after those before it
pub acts_next : (lines : List Line) (i : ℕ) (l : Line) → i < length lines → (old new : List ℕ) → old ≡ actors (map line_at (take i lines))
    → new ≡ old ++ acts_by (event_at (get_or lines i l).entry.event) (get_or lines i l).party → new ≡ actors (map line_at (take (i + 1) lines))
acts_next lines i l less old new before put =
    put ∙ ap (λ (t : List ℕ). t ++ acts_by (event_at (get_or lines i l).entry.event) (get_or lines i l).party) before ∙ sym (actors_more lines i l less)

-- and after the last line all are done
pub acts_all : (lines : List Line) (i : ℕ) → length lines ≤ i → (acts : List ℕ) → acts ≡ actors (map line_at (take i lines)) → acts ≡ actors (map line_at lines)
acts_all lines i le acts done = done ∙ ap (λ (ls : List Line). actors (map line_at ls)) (take_all i lines le)

-- acts and then others
after_some : (ps qs : List ℕ) (o : Option World) → ((u : World) → after_acts u (ps ++ qs) ≡ option_and_then (λ x. after_acts x qs) (after_acts u ps))
    → option_and_then (λ x. after_acts x (ps ++ qs)) o ≡ option_and_then (λ x. after_acts x qs) (option_and_then (λ x. after_acts x ps) o)
after_some ps qs None each = refl
after_some ps qs (Some u) each = each u

after_both : (w : World) (ps qs : List ℕ) → after_acts w (ps ++ qs) ≡ option_and_then (λ x. after_acts x qs) (after_acts w ps)
after_both w [] qs = refl
after_both w (p ∷ ps) qs = after_some ps qs (act_of w p) (λ u. after_both u ps qs)

-- an act that can't be done
pub no_act : (w : World) (p : ℕ) → act_of w p ≡ None → after_acts w (p ∷ []) ≡ None
no_act w p none = ap (option_and_then (λ x. after_acts x [])) none

split_lines : (lines : List Line) (i : ℕ) (l : Line) → i < length lines
    → actors (map line_at lines) ≡ actors (map line_at (take i lines)) ++ (acts_by (event_at (get_or lines i l).entry.event) (get_or lines i l).party ++ actors (map line_at (drop (i + 1) lines)))
split_lines lines i l less =
    ap (λ (ls : List Line). actors (map line_at ls)) (sym (take-append-drop i lines)) ∙ ap actors (map-append line_at (take i lines) (drop i lines)) ∙ actors_both (map line_at (take i lines)) (map line_at (drop i lines))
    ∙ ap (λ (ls : List Line). actors (map line_at (take i lines)) ++ actors (map line_at ls)) (drop_more lines i l less)

-- the acts of all lines are no run where one can't be done after those before it
pub stuck : (start w v : World) (lines : List Line) (i : ℕ) (l : Line) (acts : List ℕ) → i < length lines → after_acts start acts ≡ Some w → acts ≡ actors (map line_at (take i lines))
    → after_acts w (acts_by (event_at (get_or lines i l).entry.event) (get_or lines i l).party) ≡ None → after_acts start (actors (map line_at lines)) ≡ Some v → ⊥
stuck start w v lines i l acts less run so_far none all =
    let one = acts_by (event_at (get_or lines i l).entry.event) (get_or lines i l).party in
    let rest = actors (map line_at (drop (i + 1) lines)) in
    let before : after_acts start (actors (map line_at (take i lines))) ≡ Some w = ap (after_acts start) (sym so_far) ∙ run in
    let from_here : after_acts start (actors (map line_at lines)) ≡ after_acts w (one ++ rest) =
    ap (after_acts start) (split_lines lines i l less) ∙ after_both start (actors (map line_at (take i lines))) (one ++ rest) ∙ ap (option_and_then (λ x. after_acts x (one ++ rest))) before in
    let ends : after_acts w (one ++ rest) ≡ None = after_both w one rest ∙ ap (option_and_then (λ x. after_acts x rest)) none in
    let both : Some v ≡ None = sym all ∙ from_here ∙ ends in cc

-- the acts of a history of a file are a run of what is kept of it
pub acts_go : (file kept : File) (lines again : List LineAt) (core : WorldAt Place Program) → IsAccepted (file_of file) → file ≡ kept → IsHistory max (file_of kept) lines core → again ≡ lines
    → (w : World) × IsRun (without_words (file_of kept)) (actors again) w
acts_go file kept lines again core accepted same history listed =
    let f = file_of kept in
    let r = run_stands_for f (subst (λ (g : File). IsAccepted (file_of g)) same accepted) (map turn_of lines) core (log_runs (play_of f) max max_picks lines (core_start f) core history) in
    (r.0, ap (λ (s : World). after_acts s (actors again)) (start_same f) ∙ ap (λ (ls : List LineAt). after_acts (start_of f) (actors ls)) listed ∙ r.1)

-- what holds of the world that is there
pub the_one : (P : Plain → Type 0) (o : Option Plain) (p : Plain) → o ≡ Some p → IfSome o P → P p
the_one P o p is holds = subst (λ (x : Option Plain). IfSome x P) is holds

-- what is said of the world to which the acts lead
pub is_now : (file kept : File) (lines : List LineAt) (core : WorldAt Place Program) (p : Plain) (now : Now) → file ≡ kept → IsHistory max (file_of kept) lines core
    → kept_file p ≡ without_words (file_of kept) → IsRun (kept_file p) (acts_of p) (world_at p) → acts_of p ≡ actors lines → now.verdict ≡ ending_of (world_at p)
    → now.text.items ≡ now_text (file_of file) (world_at p) → IsNow (file_of kept) lines now
is_now file kept lines core p now same history kept_is run acts verdict text = record {
  core = core;
  history = history;
  world = world_at p;
  led = subst (λ (f : FileAt). IsRun f (actors lines) (world_at p)) kept_is (subst (λ (acting : List ℕ). IsRun (kept_file p) acting (world_at p)) acts run);
  verdict = verdict;
  text = text ∙ ap (λ (f : File). now_text (file_of f) (world_at p)) same;
}
