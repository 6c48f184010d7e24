-- The sessions that were opened, gathered party by party and line by line.
use Rattle.std.proofs.Common.{◌≡◌, ℕ, zero, suc, ◌+◌, ◌<◌, ◌≤◌, ◌||◌, Bool, List, [], ◌∷◌, ◌++◌, length, map, drop, get_or, Option, append-nil, append_assoc, refl, ap, sym, ◌∙◌, arith}
use Rattle.std.specs.List.{list_any}
use Rattle.std.proofs.lemmas.List.{at_drop_more, drop_all, map-append}
use Rattle.sj_end.specs.Lines.{line_at, note_seen}
use Rattle.sj_end.specs.declared.note.Line.{Line}
use Rattle.sj_lang.specs.FileAt.{FileAt}
use Rattle.sj_rules.specs.Log.{LineAt}
use Rattle.sj_seat_laws.specs.SeatsWorld.{SeatsWorld}
use Rattle.sj_seat_told.specs.Quiet.{IsEndOf, IsQuietOf}
use Rattle.sj_seat_told_laws.specs.SeatsOpened.{accepted_if, is_accept_of, request_told, requests_told, sessions_told, told_session, unnamed}
use Rattle.sj_seats.specs.Seated.{history_of, party_count}
use Rattle.sj_seats.specs.declared.seated.SeatedWorld.{SeatedWorld}
use Rattle.sj_semantics.specs.State.{opened_in}
use Rattle.sj_semantics.specs.declared.Opened.{Opened}

-- ---- parties

-- those of one party more
party_more : (lines : List LineAt) (n p : ℕ) → sessions_told lines (suc n) p ≡ sessions_told lines n p ++ map (told_session lines (p + n)) (requests_told (p + n) lines)
party_more lines zero p =
    append-nil (map (told_session lines p) (requests_told p lines)) ∙ ap (λ (q : ℕ). map (told_session lines q) (requests_told q lines)) (let e : p ≡ p + 0 = omega arith in e)
party_more lines (suc n) p =
    let e : p + 1 + n ≡ p + suc n = omega arith in
    ap (λ (os : List Opened). map (told_session lines p) (requests_told p lines) ++ os) (party_more lines n (p + 1))
    ∙ sym (append_assoc (map (told_session lines p) (requests_told p lines)) (sessions_told lines n (p + 1)) (map (told_session lines (p + 1 + n)) (requests_told (p + 1 + n) lines)))
    ∙ ap (λ (q : ℕ). map (told_session lines p) (requests_told p lines) ++ sessions_told lines n (p + 1) ++ map (told_session lines q) (requests_told q lines)) e

pub party_added : (past lines : List LineAt) (party : ℕ) (old new : List Opened) → past ≡ lines → old ≡ sessions_told lines party 0
    → new ≡ old ++ map (told_session past party) (requests_told party past) → new ≡ sessions_told lines (party + 1) 0
party_added past lines party old new there so_far added =
    let first : 0 + party ≡ party = omega arith in
    let more : suc party ≡ party + 1 = omega arith in
    added ∙ (λ i. so_far i ++ map (told_session (there i) party) (requests_told party (there i)))
    ∙ ap (λ (q : ℕ). sessions_told lines party 0 ++ map (told_session lines q) (requests_told q lines)) (sym first)
    ∙ sym (party_more lines party 0) ∙ ap (λ (n : ℕ). sessions_told lines n 0) more

-- ---- lines

-- what is put, with what the lines that are left report
abbrev pub ahead_of : List Line → ℕ → ℕ → List Opened
ahead_of lines party i = map (told_session (map line_at lines) party) (requests_told party (map line_at (drop i lines)))

pub line_added : (lines : List Line) (party i : ℕ) (d : Line) (now new whole : List Opened) → i < length lines → now ++ ahead_of lines party i ≡ whole
    → new ≡ now ++ map (told_session (map line_at lines) party) (request_told party (get_or lines i d).party (note_seen (get_or lines i d).entry.note)) → new ++ ahead_of lines party (i + 1) ≡ whole
line_added lines party i d now new whole lt so_far added =
    let one : List Opened = map (told_session (map line_at lines) party) (request_told party (get_or lines i d).party (note_seen (get_or lines i d).entry.note)) in
    let step : ahead_of lines party i ≡ one ++ ahead_of lines party (i + 1) =
    ap (λ (ls : List LineAt). map (told_session (map line_at lines) party) (requests_told party ls)) (at_drop_more (map line_at) lines i d lt)
    ∙ map-append (told_session (map line_at lines) party) (request_told party (get_or lines i d).party (note_seen (get_or lines i d).entry.note)) (requests_told party (map line_at (drop (i + 1) lines))) in
    ap (λ (os : List Opened). os ++ ahead_of lines party (i + 1)) added ∙ append_assoc now one (ahead_of lines party (i + 1)) ∙ ap (λ (os : List Opened). now ++ os) (sym step) ∙ so_far

pub lines_over : (lines : List Line) (party i : ℕ) (now whole : List Opened) → length lines ≤ i → now ++ ahead_of lines party i ≡ whole → now ≡ whole
lines_over lines party i now whole over so_far =
    sym (append-nil now) ∙ ap (λ (ls : List Line). now ++ map (told_session (map line_at lines) party) (requests_told party (map line_at ls))) (sym (drop_all i lines over)) ∙ so_far

-- whether one of the lines says so
pub any_line : (f : LineAt → Bool) (lines : List Line) → list_any (λ l. f (line_at l)) lines ≡ list_any f (map line_at lines)
any_line f [] = refl
any_line f (l ∷ ls) = ap (λ (b : Bool). f (line_at l) || b) (any_line f ls)

pub session_is : (lines : List Line) (a s to : ℕ) (b : Bool) (name : Option ℕ) → b ≡ list_any (λ l. is_accept_of s (note_seen l.entry.note)) lines → name ≡ accepted_if b
    → record { sess = s; from = a; first = 0; to = to; second = name } ≡ told_session (map line_at lines) a (record { sess = s; to = to })
session_is lines a s to b name seen named =
    ap (λ (n : Option ℕ). record { sess = s; from = a; first = 0; to = to; second = n }) (named ∙ ap accepted_if (seen ∙ any_line (λ (l : LineAt). is_accept_of s l.entry.note) lines))

-- ---- at the end

pub opened_at_end : (file : FileAt) (w : SeatedWorld) (t : SeatsWorld) (os : List Opened) → IsQuietOf file w → IsEndOf file w t → os ≡ sessions_told (history_of w) (party_count w) 0 → os ≡ map unnamed (opened_in t.world)
opened_at_end file w t os q end seen =
    let many : party_count w ≡ length file.parties = q.parties ∙ ap (λ (f : FileAt). length f.parties) q.kept in
    seen ∙ ap (λ (n : ℕ). sessions_told (history_of w) n 0) many ∙ sym end.opened
