-- The sessions and the parties of a world as they are reported, one after another.
use Rattle.std.proofs.Common.{◌≡◌, ℕ, ◌+◌, ◌*◌, ◌<◌, ◌≤◌, List, [], ◌∷◌, ◌++◌, length, map, drop, get_or, refl, ap, sym, ◌∙◌, append-nil, append_assoc, arith}
use Rattle.std.specs.Prelude.{codes, slice_get}
use Rattle.std.proofs.lemmas.Option.{slice_get-get_or}
use Rattle.sj_lang.specs.declared.file.Connect.{Connect}
use Rattle.sj_lang.specs.declared.file.Party.{Party}
use Rattle.sj_lang.specs.FileView.{party_of, connect_of}
use Rattle.sj_lang.specs.FileAt.{FileAt, ConnectAt, PartyAt}
use Rattle.sj_semantics.specs.declared.Verdict.{Verdict}
use Rattle.sj_semantics.specs.Lines.{line_of, word_at}
use Rattle.sj_semantics.specs.Program.{Program}
use Rattle.sj_semantics.specs.State.{opened_in, state_of_program, states_from, verdict_of}
use Rattle.sj_semantics.specs.Transcript.{opened_lines, party_lines, state_words, sent_lines, session_line, session_lines, transcript_of, verdict_word}
use Rattle.sj_semantics.specs.World.{World}
use Rattle.sj_text.specs.Cut.{IsCutShort}
use Rattle.sj_text.proofs.CutLemmas.{StillTo, ahead_is, cut_within, one_more}
use Rattle.sj_told.specs.declared.told.Stand.{Stand}
use Rattle.sj_told.specs.declared.told.ToldEnd.{ToldEnd}
use Rattle.sj_told.specs.Standing.{standing_lines}
use Rattle.sj_told.specs.Told.{AreEnds, AreStands, IsEnd, verdict_by}
use Rattle.sj_told.proofs.VerdictLemmas.{verdict_is}
use Rattle.sj_print.specs.Parts.{IsPutAfter, party_part, session_part, stand_lines, standing_text, told_part}
use Rattle.sj_print.proofs.PartLemmas.{get_map, open_at, session_step, transcript_is}

-- ---- a text goes on after what it was

pub none_after : (old : List ℕ) → IsPutAfter old old
none_after old = record { put = []; appended = sym (append-nil old) }

pub put_after : (old bytes new : List ℕ) → new ≡ old ++ bytes → IsPutAfter old new
put_after old bytes new e = record { put = bytes; appended = e }

pub cut_after : (old whole new : List ℕ) → IsCutShort old whole new → IsPutAfter old new
cut_after old whole new c = record { put = c.some; appended = c.appended }

pub after_after : (old mid new : List ℕ) → IsPutAfter old mid → IsPutAfter mid new → IsPutAfter old new
after_after old mid new a b = record { put = a.put ++ b.put; appended = b.appended ∙ ap (λ xs. xs ++ b.put) a.appended ∙ append_assoc old a.put b.put }

-- all was put where nothing is ahead
pub all_put : (old whole ahead now : List ℕ) → StillTo old whole ahead now → ahead ≡ [] → now ≡ old ++ whole
all_put old whole ahead now s none = s.appended ∙ ap (λ xs. old ++ xs) (sym (append-nil s.some) ∙ ap (λ xs. s.some ++ xs) (sym none) ∙ sym s.begins)

-- ---- sessions

part_told : (file : FileAt) (w : World) (s : ℕ) (c : ConnectAt) (a b : ToldEnd) → IsEnd w (record { sess = s; side = 0 }) a → IsEnd w (record { sess = s; side = 1 }) b
    → session_part file w.sessions s c ≡ told_part file s c a b
part_told file w s c a b first second =
    λ i. session_line file s c ++ sent_lines file s 0 0 (sym first.sent i) (sym first.takers i) ++ sent_lines file s 1 0 (sym second.sent i) (sym second.takers i)

-- the part of the next session is ahead, as it is reported, and then those of the sessions after it
pub told_step : (file : FileAt) (w : World) (cs : List Connect) (ends : List ToldEnd) (i : ℕ) (c : Connect) (a b : ToldEnd) → i < length cs → length cs ≤ length w.sessions → AreEnds file w ends → 2 * i + 1 < length ends
    → session_lines file i (drop i (map connect_of cs)) (drop i w.sessions)
    ≡ told_part file i (connect_of (get_or cs i c)) (get_or ends (2 * i) a) (get_or ends (2 * i + 1) b)
    ++ session_lines file (i + 1) (drop (i + 1) (map connect_of cs)) (drop (i + 1) w.sessions)
told_step file w cs ends i c a b lt few are within =
    let first = are.each (record { sess = i; side = 0 }) (get_or ends (2 * i) a)
    (ap (slice_get ends) (let e : 2 * i + 0 ≡ 2 * i = omega arith in e) ∙ slice_get-get_or ends (2 * i) a (omega (arith, within))) in
    let second = are.each (record { sess = i; side = 1 }) (get_or ends (2 * i + 1) b) (slice_get-get_or ends (2 * i + 1) b within) in
    session_step file cs w.sessions i c lt (omega (arith, lt, few))
    ∙ ap (λ part. part ++ session_lines file (i + 1) (drop (i + 1) (map connect_of cs)) (drop (i + 1) w.sessions))
    (part_told file w i (connect_of (get_or cs i c)) (get_or ends (2 * i) a) (get_or ends (2 * i + 1) b) first second)

-- the next session, which is ahead as it is reported
module _ (file : FileAt) (w : World) (cs : List Connect) (ends : List ToldEnd) (i : ℕ) (c : Connect) (a b : ToldEnd) (old whole now new : List ℕ)
    (lt : i < length cs) (few : length cs ≤ length w.sessions) (are : AreEnds file w ends) (within : 2 * i + 1 < length ends)
    (there : get_or cs i c ≡ c) (first : get_or ends (2 * i) a ≡ a) (second : get_or ends (2 * i + 1) b ≡ b)
    (still : StillTo old whole (session_lines file i (drop i (map connect_of cs)) (drop i w.sessions)) now) where
  abbrev behind : List ℕ
  behind = session_lines file (i + 1) (drop (i + 1) (map connect_of cs)) (drop (i + 1) w.sessions)

  ahead : StillTo old whole (told_part file i (connect_of c) a b ++ behind) now
  ahead =
      let step = told_step file w cs ends i c a b lt few are within ∙ (λ k. told_part file i (connect_of (there k)) (first k) (second k) ++ behind) in
      ahead_is old whole (session_lines file i (drop i (map connect_of cs)) (drop i w.sessions)) (told_part file i (connect_of c) a b ++ behind) now step still

  -- it is put
  pub put_next : new ≡ now ++ told_part file i (connect_of c) a b → StillTo old whole behind new
  put_next put = one_more old whole (told_part file i (connect_of c) a b) behind now new ahead put

  -- it is cut short
  pub cut_next : IsCutShort now (told_part file i (connect_of c) a b) new → IsCutShort old whole new
  cut_next cut = cut_within old whole (told_part file i (connect_of c) a b) behind now new ahead cut

-- ---- parties

-- the line of the next party is ahead, as it is reported
stand_step : (file : FileAt) (qs : List Party) (stands : List Stand) (i : ℕ) (q : Party) (d : Stand) → i < length qs → i < length stands
    → standing_lines file (drop i (map party_of qs)) (drop i (map (λ s. s.steps) stands)) (drop i (map (λ s. s.state) stands))
    ≡ party_part file (get_or qs i q).name (get_or stands i d).steps (get_or stands i d).state
    ++ standing_lines file (drop (i + 1) (map party_of qs)) (drop (i + 1) (map (λ s. s.steps) stands)) (drop (i + 1) (map (λ s. s.state) stands))
stand_step file qs stands i q d within told =
    λ j. standing_lines file (open_at (map party_of qs) i _ (get_map party_of qs i q within) j) (open_at (map (λ (s : Stand). s.steps) stands) i _ (get_map (λ (s : Stand). s.steps) stands i d told) j)
    (open_at (map (λ (s : Stand). s.state) stands) i _ (get_map (λ (s : Stand). s.state) stands i d told) j)

-- the next party, whose line is ahead as it is reported
module _ (file : FileAt) (stands : List Stand) (qs : List Party) (i : ℕ) (q : Party) (d : Stand) (old whole now new : List ℕ)
    (told : i < length stands) (lt : i < length qs) (there : get_or qs i q ≡ q)
    (still : StillTo old whole (standing_lines file (drop i (map party_of qs)) (drop i (map (λ s. s.steps) stands)) (drop i (map (λ s. s.state) stands))) now) where
  abbrev others : List ℕ
  others = standing_lines file (drop (i + 1) (map party_of qs)) (drop (i + 1) (map (λ s. s.steps) stands)) (drop (i + 1) (map (λ s. s.state) stands))

  abbrev line : List ℕ
  line = party_part file q.name (get_or stands i d).steps (get_or stands i d).state

  line_ahead : StillTo old whole (line ++ others) now
  line_ahead =
      let step = stand_step file qs stands i q d lt told ∙ ap (λ (y : Party). party_part file y.name (get_or stands i d).steps (get_or stands i d).state ++ others) there in
      ahead_is old whole (standing_lines file (drop i (map party_of qs)) (drop i (map (λ s. s.steps) stands)) (drop i (map (λ s. s.state) stands))) (line ++ others) now step still

  -- it is put
  pub put_stand : new ≡ now ++ line → StillTo old whole others new
  put_stand put = one_more old whole line others now new line_ahead put

  -- it is cut short
  pub cut_stand : IsCutShort now line new → IsCutShort old whole new
  cut_stand cut = cut_within old whole line others now new line_ahead cut

-- the lines of parties are those of how they stand
parties_stand : (file : FileAt) (w : World) (p : ℕ) (qs : List PartyAt) (gs : List Program) → standing_lines file qs (map (λ g. g.steps) gs) (states_from w p gs) ≡ party_lines file w p qs gs
parties_stand file w p [] gs = refl
parties_stand file w p (q ∷ qs) [] = refl
parties_stand file w p (q ∷ qs) (g ∷ gs) =
    ap (λ xs. line_of (codes "party" ∷ word_at file.words q.name ∷ state_words file g.steps (state_of_program w p g)) ++ xs) (parties_stand file w (p + 1) qs gs)

-- ---- the whole

pub told_is : (file : FileAt) (w : World) (v : Verdict) → opened_in w ≡ [] → v ≡ verdict_of w
    → session_lines file 0 file.connects w.sessions ++ party_lines file w 0 file.parties w.parties ++ line_of (verdict_word v ∷ []) ≡ transcript_of file w
told_is file w v none verdict =
    let sessions = session_lines file 0 file.connects w.sessions in
    let no_more : sessions ≡ sessions ++ opened_lines file w.sessions (opened_in w) = sym (append-nil sessions) ∙ ap (λ os. sessions ++ opened_lines file w.sessions os) (sym none) in
    (λ i. no_more i ++ party_lines file w 0 file.parties w.parties ++ line_of (verdict_word (verdict i) ∷ [])) ∙ transcript_is file w

-- whose verdict is by how they stand
pub standing_is : (file : FileAt) (w : World) (stands : List Stand) → opened_in w ≡ [] → AreStands w stands → standing_text file w stands ≡ transcript_of file w
standing_is file w stands none are =
    let lines : stand_lines file stands ≡ party_lines file w 0 file.parties w.parties =
    (λ i. standing_lines file file.parties (are.steps i) (are.states i)) ∙ parties_stand file w 0 file.parties w.parties in
    (λ i. session_lines file 0 file.connects w.sessions ++ lines i ++ line_of (verdict_word (verdict_by stands) ∷ [])) ∙ told_is file w (verdict_by stands) none (verdict_is w stands none are)
