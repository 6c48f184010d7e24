-- Logs that are read, one after another.
use Rattle.std.proofs.Common.{◌≡◌, ◌==◌, ℕ, zero, suc, ◌+◌, ◌<◌, ◌≤◌, Bool, ◌&&◌, List, [], ◌∷◌, ◌++◌, length, map, take, get_or, slice_get, true, false, refl, sym, ap, subst, ◌∙◌, arith, inl, inr, Vec}
use Rattle.std.proofs.lemmas.List.{length-map, length-take-le, map-append, take_more}
use Rattle.std.specs.List.{list_all}
use Rattle.std.specs.declared.alloc.Global.{Global}
use Rattle.sj_core.specs.Given.{AreInOrder, entries_given, given_log, line_by, most_logs}
use Rattle.sj_core.specs.Views.{entry_at, line_at}
use Rattle.sj_end.specs.declared.note.Entry.{Entry}
use Rattle.sj_end.specs.declared.note.Line.{Line}
use Rattle.sj_joined_lemmas.proofs.MergingLemmas.{merging_begins}
use Rattle.sj_lang.specs.FileAt.{FileAt}
use Rattle.sj_log.specs.LogText.{SpellsLog}
use Rattle.sj_rules.specs.Log.{EntryAt, LineAt, IsInOrder, IsRising}
use Rattle.sj_join.specs.Joins.{AreLogsFrom, IsDisorder, IsLogIn}

-- one more log is read
pub one_more : (file : FileAt) (party : ℕ) (texts : List (List ℕ)) (logs : List (Vec Entry Global)) (text : List ℕ) (log : Vec Entry Global) →
    AreLogsFrom file party texts logs → IsLogIn file (party + length texts) text (map entry_at log.items) → AreLogsFrom file party (texts ++ text ∷ []) (logs ++ log ∷ [])
one_more file party [] [] text log are is = (subst (λ n. IsLogIn file n text (map entry_at log.items)) (omega arith) is, tt)
one_more file party (t ∷ texts) (l ∷ logs) text log are is =
    (are.0, one_more file (party + 1) texts logs text log are.1 (subst (λ n. IsLogIn file n text (map entry_at log.items)) (omega arith) is))
one_more file party [] (l ∷ logs) text log are is = absurd are
one_more file party (t ∷ texts) [] text log are is = absurd are

-- there are as many logs as texts
pub same_count : (file : FileAt) (party : ℕ) (texts : List (List ℕ)) (logs : List (Vec Entry Global)) → AreLogsFrom file party texts logs → length logs ≡ length texts
same_count file party [] [] are = refl
same_count file party (t ∷ texts) (l ∷ logs) are = ap suc (same_count file (party + 1) texts logs are.1)
same_count file party [] (l ∷ logs) are = absurd are
same_count file party (t ∷ texts) [] are = absurd are

order_of : (party : ℕ) (es : List EntryAt) → IsRising 0 es → IsInOrder (map (line_by party) es)
order_of party es rising = (merging_begins 0 [] party es tt refl rising).entries_order

-- each of them is in order
pub in_order : (file : FileAt) (party : ℕ) (texts : List (List ℕ)) (logs : List (Vec Entry Global)) → AreLogsFrom file party texts logs → AreInOrder (given_log logs)
in_order file party texts logs are p = at texts logs party are p p
  where
    at : (texts : List (List ℕ)) (logs : List (Vec Entry Global)) (party : ℕ) → AreLogsFrom file party texts logs → (k name : ℕ) →
        IsInOrder (map (line_by name) (entries_given (slice_get logs k)))
    at [] [] party are k name = tt
    at (t ∷ texts) (l ∷ logs) party are zero name = order_of name (map entry_at l.items) are.0.rising
    at (t ∷ texts) (l ∷ logs) party are (suc k) name = at texts logs (party + 1) are.1 k name
    at [] (l ∷ logs) party are k name = absurd are
    at (t ∷ texts) [] party are k name = absurd are

-- lines that are all of one party are its entries' lines
pub own_lines : (party : ℕ) (lines : List Line) → list_all (λ l. l.party == party) lines ≡ true → map (line_by party) (map entry_at (map (λ l. l.entry) lines)) ≡ map line_at lines
own_lines party [] all = refl
own_lines party (l ∷ lines) all = grind (arith, own_lines party lines)

-- lines that are one party's, with clocks that rise, are its log
pub log_reads : (file : FileAt) (party : ℕ) (text : List ℕ) (lines : List Line) (entries : List Entry) → SpellsLog 2 file text (map line_at lines) →
    list_all (λ l. l.party == party) lines ≡ true → IsRising 0 (map entry_at (map (λ l. l.entry) lines)) → entries ≡ map (λ l. l.entry) lines → IsLogIn file party text (map entry_at entries)
log_reads file party text lines entries spelt own rising same = record {
  spelt = subst (λ (ls : List LineAt). SpellsLog 2 file text ls) (sym (own_lines party lines own) ∙ ap (λ (es : List Entry). map (line_by party) (map entry_at es)) (sym same)) spelt;
  rising = subst (λ (es : List Entry). IsRising 0 (map entry_at es)) (sym same) rising;
}

-- lines that aren't all of one party, or whose clocks don't rise, are in disorder
all_of : (party : ℕ) (lines : List Line) → list_all (λ l. l.party == party) (map line_at lines) ≡ list_all (λ l. l.party == party) lines
all_of party [] = refl
all_of party (l ∷ lines) = ap (λ (b : Bool). (l.party == party) && b) (all_of party lines)

pub others_are_disorder : (party : ℕ) (lines : List Line) → list_all (λ l. l.party == party) lines ≡ false → IsDisorder party (map line_at lines)
others_are_disorder party lines not = inl (all_of party lines ∙ not)

entries_at : (lines : List Line) → map (λ l. l.entry) (map line_at lines) ≡ map entry_at (map (λ l. l.entry) lines)
entries_at [] = refl
entries_at (l ∷ lines) = ap (λ (es : List EntryAt). entry_at l.entry ∷ es) (entries_at lines)

pub falls_are_disorder : (party : ℕ) (lines : List Line) → (IsRising 0 (map entry_at (map (λ l. l.entry) lines)) → ⊥) → IsDisorder party (map line_at lines)
falls_are_disorder party lines not = inr (λ rising. not (subst (λ (es : List EntryAt). IsRising 0 es) (entries_at lines) rising))

-- the log of the next text is read
pub next_log : (file : FileAt) (n m : ℕ) (texts : List (Vec ℕ Global)) (text : Vec ℕ Global) (now : List ℕ) (old new : List (Vec Entry Global)) (log : Vec Entry Global) →
    AreLogsFrom file 0 (map (λ t. t.items) (take n texts)) old → n < length texts → text ≡ get_or texts n text → now ≡ text.items → m ≡ n →
    IsLogIn file m now (map entry_at log.items) → new ≡ old ++ log ∷ [] → AreLogsFrom file 0 (map (λ t. t.items) (take (n + 1) texts)) new
next_log file n m texts text now old new log before less at same number is grown =
    let ts : List (List ℕ) = map (λ t. t.items) (take n texts) in
    let more : map (λ t. t.items) (take (n + 1) texts) ≡ ts ++ now ∷ [] = ap (map (λ t. t.items)) (take_more texts n text less) ∙ map-append (λ t. t.items) (take n texts) (get_or texts n text ∷ [])
    ∙ ap (λ (v : Vec ℕ Global). ts ++ v.items ∷ []) (sym at) ∙ ap (λ (t : List ℕ). ts ++ t ∷ []) (sym same) in
    let few : length ts ≡ n = length-map (take n texts) (λ t. t.items) ∙ length-take-le n texts (omega arith) in
    let count : m ≡ 0 + length ts = omega arith in
    subst (λ (ls : List (Vec Entry Global)). AreLogsFrom file 0 (map (λ t. t.items) (take (n + 1) texts)) ls) (sym grown)
    (subst (λ (all : List (List ℕ)). AreLogsFrom file 0 all (old ++ log ∷ [])) (sym more)
    (one_more file 0 ts old now log before (subst (λ (k : ℕ). IsLogIn file k now (map entry_at log.items)) count is)))

-- there are no more logs than a join takes
pub few_logs : (file : FileAt) (texts : List (Vec ℕ Global)) (logs : List (Vec Entry Global)) → AreLogsFrom file 0 (map (λ t. t.items) texts) logs → length texts ≤ 16 → length logs ≤ most_logs
few_logs file texts logs are few =
    let count : length logs ≡ length texts = same_count file 0 (map (λ t. t.items) texts) logs are ∙ length-map texts (λ t. t.items) in
    omega arith
