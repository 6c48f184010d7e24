-- Lines that are done one by one.
use Rattle.std.proofs.Common.{◌≡◌, ℕ, ◌+◌, ◌<◌, max, List, [], ◌∷◌, ◌++◌, map, length, take, drop, get_or, Some, refl, ap, sym, ◌∙◌, subst, append_assoc, add-one, arith}
use Rattle.std.proofs.lemmas.List.{length-map, length-take-le, map-append, take-append-drop}
use Rattle.std.proofs.Math.Seq.{drop-cons, take-suc}
use Rattle.sj_end.specs.declared.note.Line.{Line}
use Rattle.sj_rules.specs.History.{IsLog, due}
use Rattle.sj_rules.specs.Log.{LineAt}
use Rattle.sj_rules.specs.Party.{play_of}
use Rattle.sj_rules.specs.World.{happens}
use Rattle.sj_core.specs.declared.node_world.NodeWorld.{NodeWorld}
use Rattle.sj_core.specs.declared.refusal.ReplayRefusal.{ReplayRefusal}
use Rattle.sj_core.specs.declared.refusal.ReplayRefusal.TheVariants as refusals
use Rattle.sj_core.specs.NodeWorld.{StaysIn, Steps, file_in, history_in, world_in}
use Rattle.sj_core.specs.Replaying.{Follows, IsMisfitHere, IsRefusedSo}
use Rattle.sj_core.specs.Views.{line_at}
use Rattle.sj_core.proofs.HistoryLemmas.{log_more}

-- nothing done
pub follows_none : (c : NodeWorld) → Follows c [] c
follows_none c = record { log = refl; listed = sym (Rattle.std.proofs.Common.append-nil (history_in c)) }

-- one line more
pub follows_more : (c d e : NodeWorld) (lines : List LineAt) (l : LineAt) → file_in d ≡ file_in c → Follows c lines d → Steps d l e → Follows c (lines ++ l ∷ []) e
follows_more c d e lines l file follows steps = record {
  log =
      log_more (play_of (file_in c)) max (world_in c) (world_in d) (world_in e) lines l follows.log
      ((λ i. happens (play_of (sym file i)) max (world_in d) l.party l.entry.event) ∙ steps.step)
      ((λ i. due (play_of (sym file i)) max (world_in d) l.party l.entry.event) ∙ steps.due_line);
  listed = steps.listed ∙ ap (λ t. t ++ l ∷ []) follows.listed ∙ append_assoc (history_in c) lines (l ∷ []);
}

pub split_there : (lines : List Line) (k : ℕ) (d : Line) → k < length lines → lines ≡ take k lines ++ get_or lines k d ∷ drop (k + 1) lines
split_there lines k d lt =
    sym (take-append-drop k lines) ∙ ap (λ t. take k lines ++ t) (drop-cons lines k d lt)
    ∙ (λ i. take k lines ++ get_or lines k d ∷ drop (sym (add-one k) i) lines)

pub next_taken : (lines : List Line) (k : ℕ) (d : Line) → k < length lines → map line_at (take (k + 1) lines) ≡ map line_at (take k lines) ++ line_at (get_or lines k d) ∷ []
next_taken lines k d lt = ap (λ n. map line_at (take n lines)) (add-one k) ∙ ap (map line_at) (take-suc lines k d lt) ∙ map-append line_at (take k lines) (get_or lines k d ∷ [])

-- the next of some lines
pub follows_next : (c d e : NodeWorld) (lines : List Line) (k : ℕ) (l : Line) → file_in d ≡ file_in c → k < length lines → Follows c (map line_at (take k lines)) d → Steps d (line_at (get_or lines k l)) e
    → Follows c (map line_at (take (k + 1) lines)) e
follows_next c d e lines k l file lt follows steps =
    subst (λ (t : List LineAt). Follows c t e) (sym (next_taken lines k l lt)) (follows_more c d e (map line_at (take k lines)) (line_at (get_or lines k l)) file follows steps)

-- what is done, after nothing more
follows_still : (c d e : NodeWorld) (lines : List LineAt) → Follows c lines d → StaysIn d e → Follows c lines e
follows_still c d e lines follows stays = record {
  log = subst (λ w. IsLog (play_of (file_in c)) max (world_in c) lines w) (sym stays.world) follows.log;
  listed = stays.history ∙ follows.listed;
}

-- the line that is refused, among all of them
pub refused_at : (c d e : NodeWorld) (lines : List Line) (k number : ℕ) (l : Line) (r : ReplayRefusal) → file_in d ≡ file_in c → k < length lines → number ≡ k + 1
    → Follows c (map line_at (take k lines)) d → IsMisfitHere d number (get_or lines k l) r → StaysIn d e → IsRefusedSo c lines r e
refused_at c d e lines k number l (refusals.Misfit other) file lt count follows here stays = record {
  misfit = record {
    before = map line_at (take k lines);
    after = map line_at (drop (k + 1) lines);
    all =
        ap (map line_at) (split_there lines k l lt) ∙ map-append line_at (take k lines) (get_or lines k l ∷ drop (k + 1) lines)
        ∙ ap (λ x. map line_at (take k lines) ++ line_at x ∷ map line_at (drop (k + 1) lines)) (sym here.line_is);
    count = here.number_is ∙ count ∙ ap (λ n. n + 1) (sym (length-map (take k lines) line_at ∙ length-take-le k lines (omega (arith, lt))));
    mid = world_in d;
    done = follows.log;
    found = (λ i. due (play_of (sym file i)) max (world_in d) (line_at (here.line_is i)).party (line_at (here.line_is i)).entry.event) ∙ here.found;
    differs = λ same. here.differs (same ∙ ap (λ x. Some (line_at x)) here.line_is);
  };
  done = follows_still c d e (map line_at (take k lines)) follows stays;
}
refused_at c d e lines k number l refusals.NoMemory file lt count follows here stays = record {
  before = map line_at (take k lines);
  after = map line_at (drop k lines);
  all = sym (ap (map line_at) (take-append-drop k lines)) ∙ map-append line_at (take k lines) (drop k lines);
  done = follows_still c d e (map line_at (take k lines)) follows stays;
}
