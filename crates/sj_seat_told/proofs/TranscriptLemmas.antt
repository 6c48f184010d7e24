-- The transcript at the end, by what the history and the nodes report.
use Rattle.std.proofs.Common.{◌≡◌, ℕ, ◌<◌, ◌≤◌, max, Result, Ok, Err, OnOk, OnErr, List, [], ◌∷◌, ◌++◌, length, map, append_assoc, ap, sym, ◌∙◌, subst}
use Rattle.std.specs.List.{All}
use Rattle.sj_base.specs.declared.stream.NoMemory.{NoMemory}
use Rattle.sj_core.proofs.LawLemmas.{max_picks}
use Rattle.sj_lang.specs.FileAt.{FileAt}
use Rattle.sj_print.specs.Parts.{stand_lines}
use Rattle.sj_rules.specs.History.{IsQuietAmong}
use Rattle.sj_rules.specs.Log.{LineAt}
use Rattle.sj_seat_laws.specs.SeatedPlay.{seated_play}
use Rattle.sj_seat_laws.specs.SeatsWorld.{SeatsWorld}
use Rattle.sj_seat_told.specs.Opened.{rest_text}
use Rattle.sj_seat_told.specs.Quiet.{IsEndOf, IsQuietOf}
use Rattle.sj_seat_told.specs.Standing.{AreNodeStands}
use Rattle.sj_seat_told.specs.Transcript.{IsToldAfter, IsToldInPart}
use Rattle.sj_seat_told.proofs.OpenedLemmas.{opened_at_end}
use Rattle.sj_seat_told.proofs.SessionLemmas.{sessions_are}
use Rattle.sj_seat_told.proofs.StandLemmas.{stands_at_end}
use Rattle.sj_seat_told_laws.specs.SeatsHistory.{IsSeatsHistory}
use Rattle.sj_seat_told_laws.specs.SeatsOpened.{opened_ends_lines, sessions_told, unnamed}
use Rattle.sj_seat_told_laws.specs.SeatsStands.{verdict_with}
use Rattle.sj_seat_told_laws.specs.SeatsTranscript.{seats_transcript}
use Rattle.sj_seat_told_laws.proofs.EndLemmas.{quiet_end}
use Rattle.sj_seat_told_laws.proofs.TranscriptLemmas.{transcript_is}
use Rattle.sj_seats.specs.Seated.{callers_of, core_of, history_of, party_count}
use Rattle.sj_seats.specs.declared.seated.SeatedWorld.{SeatedWorld}
use Rattle.sj_semantics.specs.Ends.{Session}
use Rattle.sj_semantics.specs.State.{opened_in}
use Rattle.sj_semantics.specs.Transcript.{line_of, session_lines, verdict_word}
use Rattle.sj_semantics.specs.World.{World}
use Rattle.sj_semantics.specs.declared.Opened.{Opened}
use Rattle.sj_text.specs.Cut.{IsCutShort}
use Rattle.sj_text.proofs.CutLemmas.{cut_at_once, cut_behind, cut_in_first, put_both, whole_is}
use Rattle.sj_told.specs.Lines.{AreToldBy}
use Rattle.sj_told.specs.Told.{AreEnds}
use Rattle.sj_told.specs.declared.told.Stand.{Stand}
use Rattle.sj_told.specs.declared.told.ToldEnd.{ToldEnd}

-- what the lines report, by other names for the lines, their number and the list
pub same_ends : (lines past : List LineAt) (n m : ℕ) (ends xs : List ToldEnd) → lines ≡ past → n ≡ m → xs ≡ ends → AreToldBy lines n ends → AreToldBy past m xs
same_ends lines past n m ends xs there many same told = subst (λ (ls : List LineAt). AreToldBy ls m xs) there (subst (λ (k : ℕ). AreToldBy lines k xs) many (subst (λ (es : List ToldEnd). AreToldBy lines n es) (sym same) told))

-- four parts, the first of them apart
parted : (a b c d : List ℕ) → a ++ (b ++ c ++ d) ≡ a ++ b ++ c ++ d
parted a b c d = sym (append_assoc a (b ++ c) d) ∙ ap (λ (xs : List ℕ). xs ++ d) (sym (append_assoc a b c))

module _ (file : FileAt) (w : SeatedWorld) (q : IsQuietOf file w) where
  -- there is such a plain world
  pub the_end : (t : SeatsWorld) × IsEndOf file w t
  the_end =
      let many : party_count w ≡ length file.parties = q.parties ∙ ap (λ (f : FileAt). length f.parties) q.kept in
      let run : IsSeatsHistory max file (callers_of w) (history_of w) (core_of w) = subst (λ (f : FileAt). IsSeatsHistory max f (callers_of w) (history_of w) (core_of w)) q.kept q.run in
      let quiet : IsQuietAmong (seated_play file) (party_count w) (core_of w) = subst (λ (f : FileAt). IsQuietAmong (seated_play f) (party_count w) (core_of w)) q.kept q.quiet in
      quiet_end file (callers_of w) max (history_of w) (core_of w) q.accepted max_picks run (subst (λ (n : ℕ). IsQuietAmong (seated_play file) n (core_of w)) many quiet)

  -- the sessions of connections
  abbrev pub first : List ℕ
  first = session_lines file 0 file.connects the_end.0.world.sessions

  -- are those that the lists of ends have
  module _ (ends : List ToldEnd) (told : AreToldBy (history_of w) (length file.connects) ends) where
    pub first_put : (old new : List ℕ) → ((u : World) → length file.connects ≤ length u.sessions → AreEnds file u ends → new ≡ old ++ session_lines file 0 file.connects u.sessions) → new ≡ old ++ first
    first_put old new put = put the_end.0.world the_end.1.sessions (the_end.1.ends ends told)

    pub first_cut : (old new : List ℕ) → ((u : World) → length file.connects ≤ length u.sessions → AreEnds file u ends → IsCutShort old (session_lines file 0 file.connects u.sessions) new) → IsCutShort old first new
    first_cut old new cut = cut the_end.0.world the_end.1.sessions (the_end.1.ends ends told)

  -- what was opened, and how the parties stand, make up its transcript
  module _ (stands : List Stand) (are : AreNodeStands w stands) (os : List Opened) (seen : os ≡ sessions_told (history_of w) (party_count w) 0) (n : ℕ) (all : All (λ o. o.sess < n) os)
      (opened_ends : List ToldEnd) (opened_told : AreToldBy (history_of w) n opened_ends) where
    abbrev pub rest : List ℕ
    rest = rest_text file opened_ends os stands

    abbrev pub whole : List ℕ
    whole = first ++ rest

    text_is : whole ≡ seats_transcript file the_end.0
    text_is =
        let zs : List Session = the_end.0.world.sessions in
        let last : List Opened → List ℕ = λ l. line_of (verdict_word (verdict_with stands l) ∷ []) in
        let sessions = sessions_are file (history_of w) zs the_end.1.sent the_end.1.takers n opened_ends opened_told os all in
        let names = opened_at_end file w the_end.0 os q the_end.1 seen in
        ap (λ (xs : List ℕ). first ++ (xs ++ stand_lines file stands ++ last os)) sessions
        ∙ ap (λ (l : List Opened). first ++ (opened_ends_lines file zs l ++ stand_lines file stands ++ last l)) names
        ∙ parted first (opened_ends_lines file zs (map unnamed (opened_in the_end.0.world))) (stand_lines file stands) (last (map unnamed (opened_in the_end.0.world)))
        ∙ transcript_is file the_end.0 stands (stands_at_end file w the_end.0 stands q the_end.1 are)

    -- it is put after the old text, or a prefix of it is
    pub told_after : (old mid new : List ℕ) {X : Type 0} (r : Result X NoMemory) → mid ≡ old ++ first → OnOk r (new ≡ mid ++ rest) → OnOk r (IsToldAfter file w old new)
    told_after old mid new (Ok x) begun put = record { world = the_end.0; is = the_end.1; text = put_both old first rest mid new begun put ∙ ap (λ (xs : List ℕ). old ++ xs) text_is }
    told_after old mid new (Err e) begun put = tt

    pub told_in_part : (old mid new : List ℕ) {X : Type 0} (r : Result X NoMemory) → mid ≡ old ++ first → OnErr r (IsCutShort mid rest new) → OnErr r (IsToldInPart file w old new)
    told_in_part old mid new (Ok x) begun cut = tt
    told_in_part old mid new (Err e) begun cut = record {
      world = the_end.0;
      is = the_end.1;
      text = whole_is old whole (seats_transcript file the_end.0) new text_is (cut_behind old first rest mid new begun cut);
    }

    pub begun_in_part : (old new : List ℕ) → IsCutShort old first new → IsToldInPart file w old new
    begun_in_part old new cut = record { world = the_end.0; is = the_end.1; text = whole_is old whole (seats_transcript file the_end.0) new text_is (cut_in_first old first rest new cut) }

  -- or nothing of it
  pub told_nothing : (old new : List ℕ) → new ≡ old → IsToldInPart file w old new
  told_nothing old new same = record { world = the_end.0; is = the_end.1; text = cut_at_once old (seats_transcript file the_end.0) new same }
