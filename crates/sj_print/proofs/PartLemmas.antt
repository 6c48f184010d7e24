-- The sessions and the parties of a world, one after another.
use Rattle.std.proofs.Common.{◌≡◌, ℕ, zero, suc, ◌+◌, ◌<◌, ◌≤◌, List, [], ◌∷◌, ◌++◌, length, map, drop, get_or, Option, Some, option_map, unwrap_or, refl, ap, sym, ◌∙◌, add-one, arith, subst}
use Rattle.std.specs.Prelude.{slice_get}
use Rattle.std.proofs.lemmas.List.{at_drop_more}
use Rattle.sj_semantics.specs.declared.Opened.{Opened}
use Rattle.sj_lang.specs.declared.file.Connect.{Connect}
use Rattle.sj_lang.specs.declared.file.Party.{Party}
use Rattle.sj_lang.specs.FileView.{party_of, connect_of}
use Rattle.sj_lang.specs.FileAt.{FileAt, PartyAt, ConnectAt}
use Rattle.sj_semantics.specs.declared.Passed.{Passed}
use Rattle.sj_semantics.specs.declared.State.{State}
use Rattle.sj_semantics.specs.Program.{Program}
use Rattle.sj_semantics.specs.Ends.{EndAt, Session, end_on, nowhere}
use Rattle.sj_semantics.specs.State.{opened_in, state_of_program, state_if, verdict_of}
use Rattle.sj_semantics.specs.World.{World, act_of, programs_from, session_of, start_of}
use Rattle.sj_semantics.specs.Run.{IsRun, after_acts}
use Rattle.sj_semantics.specs.Lines.{line_of}
use Rattle.sj_semantics.specs.Transcript.{session_line, sent_lines, session_lines, opened_lines, party_lines, verdict_word, transcript_of}
use Rattle.sj_semantics_laws.proofs.CommuteLemmas.{doing_of}
use Rattle.sj_semantics_laws.proofs.RoomLemmas.{length-uses_le}
use Rattle.sj_semantics_laws.proofs.RunLemmas.{between}
use Rattle.sj_print.specs.Parts.{session_part, opened_part, party_part}
use Rattle.sj_semantics_laws.proofs.RoundLemmas.{length-act}

-- ---- as many sessions and parties as the file has

length-programs_from : (file : FileAt) (p : ℕ) (qs : List PartyAt) → length (programs_from file p qs) ≡ length qs
length-programs_from file p [] = refl
length-programs_from file p (q ∷ qs) = ap suc (length-programs_from file (p + 1) qs)

pub length-map : {X Y : Type 0} (f : X → Y) (xs : List X) → length (map f xs) ≡ length xs
length-map f [] = refl
length-map f (x ∷ xs) = ap suc (length-map f xs)

parties-run : (w v : World) (ps : List ℕ) → after_acts w ps ≡ Some v → length v.parties ≡ length w.parties
parties-run w v [] h = let it : w ≡ v = cc in ap (λ (t : World). length t.parties) (sym it)
parties-run w v (p ∷ ps) h = let m = between (λ x. after_acts x ps) (act_of w p) v h in parties-run m.world v ps m.afterwards ∙ length-act w m.world p m.before

sessions-act : (w v : World) (p : ℕ) → act_of w p ≡ Some v → length w.sessions ≤ length v.sessions
sessions-act w v p h = let a = doing_of w p v h in subst (λ (t : World). length w.sessions ≤ length t.sessions) a.result (length-uses_le p a.change.uses w.sessions)

sessions-run : (w v : World) (ps : List ℕ) → after_acts w ps ≡ Some v → length w.sessions ≤ length v.sessions
sessions-run w v [] h = let it : w ≡ v = cc in subst (λ (t : World). length w.sessions ≤ length t.sessions) it (omega arith)
sessions-run w v (p ∷ ps) h =
    let m = between (λ x. after_acts x ps) (act_of w p) v h in omega (arith, sessions-act w m.world p m.before, sessions-run m.world v ps m.afterwards)

pub session_count-run : (file : FileAt) (ps : List ℕ) (w : World) → IsRun file ps w → length file.connects ≤ length w.sessions
session_count-run file ps w h = omega (arith, sessions-run (start_of file) w ps h, length-map (session_of file) file.connects)

pub party_count-run : (file : FileAt) (ps : List ℕ) (w : World) → IsRun file ps w → length w.parties ≡ length file.parties
party_count-run file ps w h = parties-run (start_of file) w ps h ∙ length-programs_from file 0 file.parties

-- ---- one after another

open_suc : {X : Type 0} (xs : List X) (i : ℕ) (x : X) → slice_get xs i ≡ Some x → drop i xs ≡ x ∷ drop (suc i) xs
open_suc [] zero x h = cc
open_suc [] (suc i) x h = cc
open_suc (y ∷ xs) zero x h = let it : y ≡ x = cc in ap (λ t. t ∷ xs) it
open_suc (y ∷ xs) (suc i) x h = open_suc xs i x h

pub open_at : {X : Type 0} (xs : List X) (i : ℕ) (x : X) → slice_get xs i ≡ Some x → drop i xs ≡ x ∷ drop (i + 1) xs
open_at xs i x h = open_suc xs i x h ∙ ap (λ k. x ∷ drop k xs) (sym (add-one i))

pub get_map : {X Y : Type 0} (f : X → Y) (xs : List X) (i : ℕ) (d : X) → i < length xs → slice_get (map f xs) i ≡ Some (f (get_or xs i d))
get_map f [] i d h = absurd (omega arith)
get_map f (x ∷ xs) zero d h = refl
get_map f (x ∷ xs) (suc i) d h = get_map f xs i d (omega arith)

-- what is there at that index
record Here {X : Type 0} (xs : List X) (i : ℕ) : Type 0 where
  item : X
  is : slice_get xs i ≡ Some item

here : {X : Type 0} (xs : List X) (i : ℕ) → i < length xs → Here xs i
here [] i h = absurd (omega arith)
here (x ∷ xs) zero h = record { item = x; is = refl }
here (x ∷ xs) (suc i) h = let r = here xs i (omega arith) in record { item = r.item; is = r.is }

pub sent_same : (file : FileAt) (s d : ℕ) {xs ys : List Passed} {ts us : List ℕ} → xs ≡ ys → ts ≡ us → sent_lines file s d 0 xs ts ≡ sent_lines file s d 0 ys us
sent_same file s d e f = λ i. sent_lines file s d 0 (e i) (f i)

-- the part of the next session is ahead, and then those of the sessions after it
pub session_step : (file : FileAt) (cs : List Connect) (zs : List Session) (i : ℕ) (c : Connect) → i < length cs → i < length zs
    → session_lines file i (drop i (map connect_of cs)) (drop i zs)
    ≡ session_part file zs i (connect_of (get_or cs i c)) ++ session_lines file (i + 1) (drop (i + 1) (map connect_of cs)) (drop (i + 1) zs)
session_step file cs zs i c h k =
    let z = here zs i k in
    let behind = session_lines file (i + 1) (drop (i + 1) (map connect_of cs)) (drop (i + 1) zs) in
    (λ t. session_lines file i (open_at (map connect_of cs) i _ (get_map connect_of cs i c h) t) (open_at zs i z.item z.is t))
    ∙ ap (λ (o : Option Session). part (connect_of (get_or cs i c)) (unwrap_or (option_map (end_on 0) o) nowhere) (unwrap_or (option_map (end_on 1) o) nowhere) ++ behind) (sym z.is)
  where
    part : ConnectAt → EndAt → EndAt → List ℕ
    part d first second = session_line file i d ++ sent_lines file i 0 0 first.sent second.takers ++ sent_lines file i 1 0 second.sent first.takers

-- the part of the next session that was opened is ahead, and then those of the sessions after it
pub opened_step : (file : FileAt) (zs : List Session) (os : List Opened) (i : ℕ) (o : Opened) → i < length os
    → opened_lines file zs (drop i os) ≡ opened_part file zs (get_or os i o) ++ opened_lines file zs (drop (i + 1) os)
opened_step file zs os i o h = at_drop_more (opened_lines file zs) os i o h

by_program : (file : FileAt) (w : World) (p name steps : ℕ) (state : State) (o : Option Program) (g : Program) → o ≡ Some g → option_map (λ h. h.steps) o ≡ Some steps → state ≡ state_if w p o
    → party_part file name g.steps (state_of_program w p g) ≡ party_part file name steps state
by_program file w p name steps state o g e s t =
    let same : g.steps ≡ steps = cc in
    let stands : state_of_program w p g ≡ state = sym (t ∙ ap (state_if w p) e) in
    λ i. party_part file name (same i) (stands i)

-- the line of the next party is ahead, and then those of the parties after it
pub party_step : (file : FileAt) (w : World) (qs : List Party) (gs : List Program) (i : ℕ) (q : Party) (steps : ℕ) (state : State) → i < length qs → i < length gs
    → option_map (λ g. g.steps) (slice_get gs i) ≡ Some steps → state ≡ state_if w i (slice_get gs i)
    → party_lines file w i (drop i (map party_of qs)) (drop i gs) ≡ party_part file (get_or qs i q).name steps state ++ party_lines file w (i + 1) (drop (i + 1) (map party_of qs)) (drop (i + 1) gs)
party_step file w qs gs i q steps state h k s t =
    let g = here gs i k in
    (λ j. party_lines file w i (open_at (map party_of qs) i _ (get_map party_of qs i q h) j) (open_at gs i g.item g.is j))
    ∙ ap (λ l. l ++ party_lines file w (i + 1) (drop (i + 1) (map party_of qs)) (drop (i + 1) gs)) (by_program file w i (get_or qs i q).name steps state (slice_get gs i) g.item g.is s t)

pub transcript_is : (file : FileAt) (w : World)
    → session_lines file 0 file.connects w.sessions ++ opened_lines file w.sessions (opened_in w)
    ++ party_lines file w 0 file.parties w.parties ++ line_of (verdict_word (verdict_of w) ∷ []) ≡ transcript_of file w
unfolding transcript_of
transcript_is file w = refl
