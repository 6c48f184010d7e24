-- Lines that are done again one by one, and become the history.
use Rattle.std.proofs.Common.{◌≡◌, ℕ, ◌+◌, ◌<◌, ◌≤◌, max, Bool, List, [], ◌∷◌, ◌++◌, map, length, take, drop, get_or, Option, Some, None, Result, IfOk, ap, sym, ◌∙◌, subst, arith}
use Rattle.std.specs.Prelude.{IfSome}
use Rattle.std.proofs.lemmas.List.{length-map, length-take-le, map-append, take_all}
use Rattle.sj_core.proofs.ReplayLemmas.{next_taken, split_there}
use Rattle.sj_core.specs.Views.{line_at, line_with}
use Rattle.sj_core.specs.declared.refusal.ReplayRefusal.{ReplayRefusal}
use Rattle.sj_core.specs.declared.refusal.ReplayRefusal.TheVariants as refusals
use Rattle.sj_end.specs.Lines.{note_seen}
use Rattle.sj_end.specs.declared.note.Entry.{Entry}
use Rattle.sj_end.specs.declared.note.Line.{Line}
use Rattle.sj_lang.specs.FileAt.{FileAt}
use Rattle.sj_rules.specs.Log.{LineAt, NoteAt}
use Rattle.sj_seat_laws.specs.SeatsStart.{Callers}
use Rattle.sj_seat_told_laws.specs.SeatsHistory.{IsSeatsHistory}
use Rattle.sj_seats.specs.Calls.{OpenedAs, callers_by, then_calls}
use Rattle.sj_seats.specs.Core.{is_seat}
use Rattle.sj_seats.specs.Played.{IsDueFor, IsLedBy, IsReached, Redoes, chairs_in, core_in, file_in, history_in, opened_in}
use Rattle.sj_seats.specs.Replaying.{IsDueIn, IsFoundHere, IsMisfitFrom, IsMisfitHere}
use Rattle.sj_seats.specs.declared.played.PlayedWorld.{PlayedWorld}
use Rattle.sj_seats.proofs.AnswerLemmas.{done_so}
use Rattle.sj_seats.proofs.ToldLemmas.{callers_end}
use Rattle.sj_seats.proofs.GoingLemmas.{led_on}

-- nothing is done
pub led_first : (c : PlayedWorld) (lines : List Line) → IsReached c → history_in c ≡ [] → IsLedBy c (map line_at (take 0 lines))
led_first c lines reached none = subst (IsLedBy c) none reached

-- the next line is done
pub led_next : (c d : PlayedWorld) (lines : List Line) (k : ℕ) (x : Line) → k < length lines → IsLedBy c (map line_at (take k lines)) → Redoes c (line_at (get_or lines k x)) d
    → IsLedBy d (map line_at (take (k + 1) lines))
led_next c d lines k x lt by redone =
    subst (IsLedBy d) (sym (next_taken lines k x lt)) (led_on c d (map line_at (take k lines)) (line_at (get_or lines k x)) by redone)

-- the next line isn't the one that is due
pub misfit_from : (c : PlayedWorld) (file : FileAt) (seats : ℕ → Bool) (opened : OpenedAs) (lines : List Line) (k number : ℕ) (x : Line) (r : ReplayRefusal) → file_in c ≡ file → ((q : ℕ) → is_seat (chairs_in c) q ≡ seats q) → opened_in c ≡ opened
    → k < length lines → number ≡ k + 1 → IsLedBy c (map line_at (take k lines)) → IsMisfitHere number (get_or lines k x) r → IsFoundHere c (get_or lines k x) r → IsMisfitFrom file seats opened (map line_at lines) r
misfit_from c file seats opened lines k number x (refusals.Misfit other) same who told lt count by here due_here =
    let past : List LineAt = map line_at (take k lines) in
    record {
      before = past;
      after = map line_at (drop (k + 1) lines);
      all =
          ap (map line_at) (split_there lines k x lt) ∙ map-append line_at (take k lines) (get_or lines k x ∷ drop (k + 1) lines)
          ∙ ap (λ y. past ++ line_at y ∷ map line_at (drop (k + 1) lines)) (sym here.line_is);
      count = here.number_is ∙ count ∙ ap (λ n. n + 1) (sym (length-map (take k lines) line_at ∙ length-take-le k lines (omega (arith, lt))));
      done = record {
        world = core_in c;
        run = λ rest.
            subst (λ (f : FileAt). IsSeatsHistory max f (callers_by seats (then_calls opened past rest)) past (core_in c rest)) same
            (subst (λ (cs : Callers). IsSeatsHistory max (file_in c) cs past (core_in c rest)) (λ i q. callers_by (λ r. who r i) (then_calls (told i) past rest) q) (by.run rest));
      };
      differs = λ is. here.differs (is ∙ ap (λ y. Some (line_at y)) here.line_is);
      found = found_in other.due due_here;
    }
  where
    found_in : (o : Option Line) → IfSome o (λ l. IsDueFor c (line_at (get_or lines k x)) (line_at l)) → IfSome o (λ l. IsDueIn file opened (core_in c) (line_at other.logged) (line_at l))
    found_in None h = tt
    found_in (Some l) h =
        subst (λ (m : Line). IsDueIn file opened (core_in c) (line_at m) (line_at l)) (sym here.line_is)
        (subst (λ (o : OpenedAs). IsDueIn file o (core_in c) (line_at (get_or lines k x)) (line_at l)) told
        (subst (λ (f : FileAt). IsDueIn f (opened_in c) (core_in c) (line_at (get_or lines k x)) (line_at l)) same h))
misfit_from c file seats opened lines k number x refusals.NoMemory same who told lt count by here due_here = tt

-- all lines are done, and become the history
pub reached_last : (c d : PlayedWorld) (lines : List Line) (k : ℕ) → length lines ≤ k → IsLedBy c (map line_at (take k lines)) → ((past : List LineAt) → IsLedBy c past → IsLedBy d past) → history_in d ≡ map line_at lines → IsReached d
reached_last c d lines k all by same history =
    subst (IsLedBy d) (ap (map line_at) (take_all k lines all) ∙ sym history) (same (map line_at (take k lines)) by)

-- where nothing more is called, the codes called exactly what the history tells
pub run_told : (c : PlayedWorld) → IsReached c → IsSeatsHistory max (file_in c) (Rattle.sj_seats.specs.Calls.callers_told (is_seat (chairs_in c)) (opened_in c) (history_in c)) (history_in c) (core_in c Rattle.sj_seats.specs.Calls.no_calls)
run_told c reached =
    subst (λ (cs : Callers). IsSeatsHistory max (file_in c) cs (history_in c) (core_in c Rattle.sj_seats.specs.Calls.no_calls))
    (Rattle.sj_seats.proofs.ToldLemmas.callers_end (is_seat (chairs_in c)) (opened_in c) (history_in c)) (reached.run Rattle.sj_seats.specs.Calls.no_calls)

-- where it made the line that was logged, that is done
pub redone_so : (c d : PlayedWorld) (o : Option Line) (l : Line) → IfSome o (λ x. x ≡ l → Redoes c (line_at x) d) → o ≡ Some l → Redoes c (line_at l) d
redone_so c d None l made is = absurd (cc is)
redone_so c d (Some x) l made is = let same : x ≡ l = cc is in subst (λ (m : Line). Redoes c (line_at m) d) same (made same)

-- whatever its note is
pub redone_any : {E : Type 0} (c d : PlayedWorld) (r : Result (Option Entry) E) (party : ℕ) (note : NoteAt) → IfOk r (λ o. IfSome o (λ e. Redoes c (line_with party e) d)) → IfOk r (λ o. IfSome o (λ e. note_seen e.note ≡ note → Redoes c (line_with party e) d))
redone_any c d r party note h = done_so r (λ e. Redoes c (line_with party e) d) (λ e. note_seen e.note ≡ note → Redoes c (line_with party e) d) (λ e x same. x) h
