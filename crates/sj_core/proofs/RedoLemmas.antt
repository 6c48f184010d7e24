-- Lines that are done again, and listed one by one or all at the end.
use Rattle.std.proofs.Common.{◌≡◌, ℕ, ◌+◌, ◌<◌, ◌≤◌, max, List, [], ◌∷◌, ◌++◌, map, length, take, drop, get_or, Some, ap, sym, ◌∙◌, subst, arith}
use Rattle.std.proofs.lemmas.List.{length-map, length-take-le, map-append, take_all}
use Rattle.sj_lang.specs.FileAt.{FileAt}
use Rattle.sj_end.specs.declared.note.Entry.{Entry}
use Rattle.sj_end.specs.declared.note.Line.{Line}
use Rattle.sj_rules.specs.History.{IsHistory, due}
use Rattle.sj_rules.specs.Log.{LineAt}
use Rattle.sj_rules.specs.Party.{play_of}
use Rattle.sj_rules.specs.Start.{core_start}
use Rattle.sj_rules.specs.World.{happens}
use Rattle.sj_node.specs.declared.node.Node.{Node}
use Rattle.sj_core.specs.declared.node_world.NodeWorld.{NodeWorld}
use Rattle.sj_core.specs.declared.refusal.ReplayRefusal.{ReplayRefusal}
use Rattle.sj_core.specs.declared.refusal.ReplayRefusal.TheVariants as refusals
use Rattle.sj_core.specs.NodeWorld.{IsLed, IsOfAccepted, IsReached, Redoes, Steps, file_in, history_in, nodes_in, world_in}
use Rattle.sj_core.specs.Nodes.{AreSeated, Moves, world_by}
use Rattle.sj_core.specs.Replaying.{IsMisfitFrom, IsMisfitHere}
use Rattle.sj_core.specs.Views.{event_at, line_at}
use Rattle.sj_core.proofs.HistoryLemmas.{log_more}
use Rattle.sj_core.proofs.ReachedLemmas.{led}
use Rattle.sj_core.proofs.ReplayLemmas.{next_taken, split_there}

-- those lines lead to the world
pub record IsLedBy (c : NodeWorld) (lines : List LineAt) : Type 0 where
  pub led : IsLed c
  pub past : led.past ≡ lines

-- the event of the line that is due
pub redoes : (c d : NodeWorld) (l : Line) (e : Entry) → Moves (file_in c) (nodes_in c) l.party l.entry.event e (nodes_in d) → file_in d ≡ file_in c
    → due (play_of (file_in c)) max (world_in c) l.party (event_at l.entry.event) ≡ Some (line_at l) → Redoes c (line_at l) d
redoes c d l e moves file is = record {
  step = moves.step ∙ (λ i. Some (world_by (sym file i) (nodes_in d)));
  due_line = is;
  seats = subst (λ (f : FileAt). AreSeated f (nodes_in d)) (sym file) moves.seats;
  file = file;
}

-- ---- listed at once

module _ (c a b d : NodeWorld) (l : LineAt) (redone : Redoes a l b) (before : file_in a ≡ file_in c) (begun : world_in a ≡ world_in c) (after : file_in d ≡ file_in b) (ended : nodes_in d ≡ nodes_in b)
    (listed : history_in d ≡ history_in c ++ l ∷ []) where
  pub listed_so : Steps c l d
  listed_so = record {
    step = (λ i. happens (play_of (sym before i)) max (sym begun i) l.party l.entry.event) ∙ redone.step ∙ (λ i. Some (world_by (sym after i) (sym ended i)));
    due_line = (λ i. due (play_of (sym before i)) max (sym begun i) l.party l.entry.event) ∙ redone.due_line;
    listed = listed;
    file = after ∙ redone.file ∙ before;
  }

  pub reached_so : IsReached c → IsReached d
  reached_so reached =
      let run : IsHistory max (file_in c) (history_in c ++ l ∷ []) (world_in d) =
      log_more (play_of (file_in c)) max (core_start (file_in c)) (world_in c) (world_in d) (history_in c) l reached.run listed_so.step listed_so.due_line in
      record {
        accepted = subst IsOfAccepted (sym listed_so.file) reached.accepted;
        run =
            subst (λ (f : FileAt). IsHistory max f (history_in d) (world_in d)) (sym listed_so.file)
            (subst (λ (ls : List LineAt). IsHistory max (file_in c) ls (world_in d)) (sym listed) run);
        seats = subst (AreSeated (file_in d)) (sym ended) (subst (λ (f : FileAt). AreSeated f (nodes_in b)) (sym after) redone.seats);
      }

-- what is no misfit of the one is none of the other
pub misfit_same : (a c : NodeWorld) (number : ℕ) (line : Line) (r : ReplayRefusal) → file_in a ≡ file_in c → world_in a ≡ world_in c → IsMisfitHere a number line r → IsMisfitHere c number line r
misfit_same a c number line (refusals.Misfit other) file world m = record {
  number_is = m.number_is;
  line_is = m.line_is;
  found = (λ i. due (play_of (sym file i)) max (sym world i) (line_at line).party (line_at line).entry.event) ∙ m.found;
  differs = m.differs;
}
misfit_same a c number line refusals.NoMemory file world m = tt

-- ---- listed at the end

-- nothing is done
pub led_first : (c : NodeWorld) (lines : List Line) → IsReached c → history_in c ≡ [] → IsLedBy c (map line_at (take 0 lines))
led_first c lines reached none = record { led = led c reached; past = none }

-- the next line is done
pub led_next : (c d : NodeWorld) (lines : List Line) (k : ℕ) (x : Line) → k < length lines → IsLedBy c (map line_at (take k lines)) → Redoes c (line_at (get_or lines k x)) d
    → IsLedBy d (map line_at (take (k + 1) lines))
led_next c d lines k x lt by redone =
    let l : LineAt = line_at (get_or lines k x) in
    let run : IsHistory max (file_in c) (by.led.past ++ l ∷ []) (world_in d) =
    log_more (play_of (file_in c)) max (core_start (file_in c)) (world_in c) (world_in d) by.led.past l by.led.run redone.step redone.due_line in
    record {
      led = record {
        accepted = subst IsOfAccepted (sym redone.file) by.led.accepted;
        past = by.led.past ++ l ∷ [];
        run = subst (λ (f : FileAt). IsHistory max f (by.led.past ++ l ∷ []) (world_in d)) (sym redone.file) run;
        seats = redone.seats;
      };
      past = ap (λ ls. ls ++ l ∷ []) by.past ∙ sym (next_taken lines k x lt);
    }

-- the next line isn't the one that is due
pub misfit_from : (c : NodeWorld) (file : FileAt) (lines : List Line) (k number : ℕ) (x : Line) (r : ReplayRefusal) → file_in c ≡ file → k < length lines → number ≡ k + 1
    → IsLedBy c (map line_at (take k lines)) → IsMisfitHere c number (get_or lines k x) r → IsMisfitFrom file (map line_at lines) r
misfit_from c file lines k number x (refusals.Misfit other) same lt count by here = record {
  before = map line_at (take k lines);
  after = map line_at (drop (k + 1) lines);
  all =
      ap (map line_at) (split_there lines k x lt) ∙ map-append line_at (take k lines) (get_or lines k x ∷ drop (k + 1) lines)
      ∙ ap (λ y. map line_at (take k lines) ++ line_at y ∷ map line_at (drop (k + 1) lines)) (sym here.line_is);
  count = here.number_is ∙ count ∙ ap (λ n. n + 1) (sym (length-map (take k lines) line_at ∙ length-take-le k lines (omega (arith, lt))));
  mid = world_in c;
  done =
      subst (λ (ls : List LineAt). IsHistory max file ls (world_in c)) by.past
      (subst (λ (f : FileAt). IsHistory max f by.led.past (world_in c)) same by.led.run);
  found = (λ i. due (play_of (sym same i)) max (world_in c) (line_at (here.line_is i)).party (line_at (here.line_is i)).entry.event) ∙ here.found;
  differs = λ is. here.differs (is ∙ ap (λ y. Some (line_at y)) here.line_is);
}
misfit_from c file lines k number x refusals.NoMemory same lt count by here = tt

-- all lines are done, and become the history
pub reached_last : (c d : NodeWorld) (lines : List Line) (k : ℕ) → length lines ≤ k → IsLedBy c (map line_at (take k lines)) → file_in d ≡ file_in c → nodes_in d ≡ nodes_in c → history_in d ≡ map line_at lines → IsReached d
reached_last c d lines k all by file nodes history =
    let past : by.led.past ≡ history_in d = by.past ∙ ap (map line_at) (take_all k lines all) ∙ sym history in
    record {
      accepted = subst IsOfAccepted (sym file) by.led.accepted;
      run = subst (λ (ls : List LineAt). IsHistory max (file_in d) ls (world_in d)) past (coe_run by.led.past by.led.run);
      seats = seats_then by.led.seats;
    }
  where
    coe_run : (ls : List LineAt) → IsHistory max (file_in c) ls (world_in c) → IsHistory max (file_in d) ls (world_in d)
    coe_run ls run =
        subst (λ (ns : List Node). IsHistory max (file_in d) ls (world_by (file_in d) ns)) (sym nodes)
        (subst (λ (f : FileAt). IsHistory max f ls (world_by f (nodes_in c))) (sym file) run)

    seats_then : AreSeated (file_in c) (nodes_in c) → AreSeated (file_in d) (nodes_in d)
    seats_then seats =
        subst (AreSeated (file_in d)) (sym nodes) (subst (λ (f : FileAt). AreSeated f (nodes_in c)) (sym file) seats)
