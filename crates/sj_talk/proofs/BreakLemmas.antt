-- What is printed of a line, and what a talk leaves that is out of memory.
use Rattle.std.proofs.Common.{◌≡◌, ℕ, ◌+◌, List, [], ◌∷◌, ◌++◌, length, refl, ap, sym, ◌∙◌, subst, append_assoc}
use Rattle.std.specs.Prelude.{codes, decimal, true, false}
use Rattle.sj_base.specs.declared.Msg.{Msg}
use Rattle.sj_base.specs.declared.Msg.TheVariants as msgs
use Rattle.sj_lang.specs.FileAt.{FileAt}
use Rattle.sj_print.specs.Pieces.{message_text}
use Rattle.sj_print.proofs.JoinLemmas.{message_line}
use Rattle.sj_semantics.specs.Lines.{line_of, message_words}
use Rattle.sj_semantics.specs.declared.Verdict.{Verdict}
use Rattle.sj_text.specs.Cut.{IsCutShort}
use Rattle.sj_text.proofs.CutLemmas.{StillTo, cut_at_once, cut_behind, cut_in_first, none_yet, one_more, whole_is}
use Rattle.sj_talk.specs.Doing.{IsUnsaid, after_line, said_of}
use Rattle.sj_talk.specs.Moves.{GoesOn}
use Rattle.sj_talk.specs.Output.{BreaksOff, IsDone, IsNotDone, StopsAt, after_lines, cut, line_text, played_from, said_words, told_from, undone, verdict_line}
use Rattle.sj_talk.specs.TalkWorld.{OnlyOthers, TalkWorld, others_acted, talk_verdict}
use Rattle.sj_talk.specs.Words.{lines_in}
use Rattle.sj_talk.specs.declared.said.Said.{Said}
use Rattle.sj_talk.proofs.MoveLemmas.{goes_by_line, goes_by_others, goes_by_some, goes_same, goes_then, goes_unsaid}
use Rattle.sj_talk.proofs.OutputLemmas.{SoFar, line_said}

-- ---- the line for a line

took_by : (file : FileAt) (m : Msg) → codes "took " ++ line_of (message_words file m) ≡ line_of (codes "took" ∷ message_words file m)
took_by file (msgs.Int n) = refl
took_by file (msgs.Bool true) = refl
took_by file (msgs.Bool false) = refl
took_by file (msgs.Text n) = refl
took_by file (msgs.Label l) = refl
took_by file (msgs.More true) = refl
took_by file (msgs.More false) = refl
took_by file (msgs.Sess s d k) = refl

took_whole : (file : FileAt) (m : Msg) → codes "took " ++ (message_text file m ++ 10 ∷ []) ≡ line_of (codes "took" ∷ message_words file m)
took_whole file m = ap (λ x. codes "took " ++ x) (message_line file m) ∙ took_by file m

pub took_line : (file : FileAt) (m : Msg) (old a b new : List ℕ) → a ≡ old ++ codes "took " → b ≡ a ++ message_text file m → new ≡ b ++ 10 ∷ [] → new ≡ old ++ line_of (codes "took" ∷ message_words file m)
took_line file m old a b new first second third =
    third ∙ ap (λ x. x ++ 10 ∷ []) (second ∙ ap (λ x. x ++ message_text file m) first) ∙ append_assoc (old ++ codes "took ") (message_text file m) (10 ∷ [])
    ∙ append_assoc old (codes "took ") (message_text file m ++ 10 ∷ []) ∙ ap (λ x. old ++ x) (took_whole file m)

pub took_cut : (file : FileAt) (m : Msg) (old a new : List ℕ) → a ≡ old ++ codes "took " → IsCutShort a (message_text file m) new → IsCutShort old (line_of (codes "took" ∷ message_words file m)) new
took_cut file m old a new first c =
    whole_is old _ _ new (took_whole file m) (cut_behind old (codes "took ") (message_text file m ++ 10 ∷ []) a new first (cut_in_first a (message_text file m) (10 ∷ []) new c))

pub took_open : (file : FileAt) (m : Msg) (old a b new : List ℕ) → a ≡ old ++ codes "took " → b ≡ a ++ message_text file m → new ≡ b → IsCutShort old (line_of (codes "took" ∷ message_words file m)) new
took_open file m old a b new first second same =
    whole_is old _ _ new (took_whole file m)
    (cut_behind old (codes "took ") (message_text file m ++ 10 ∷ []) a new first (cut_behind a (message_text file m) (10 ∷ []) b new second (cut_at_once b (10 ∷ []) new same)))

-- the line for a line that is refused
abbrev pub refused_text : ℕ → ℕ → List ℕ
refused_text n g = line_of (codes "refused" ∷ decimal n ∷ (71 ∷ decimal g) ∷ [])

-- what is ahead of it after each of its parts
module _ (n g : ℕ) (old : List ℕ) where
  pub after_word : (a : List ℕ) → a ≡ old ++ codes "refused " → StillTo old (refused_text n g) (decimal n ++ (codes " G" ++ (decimal g ++ 10 ∷ []))) a
  after_word a e = one_more old (refused_text n g) (codes "refused ") (decimal n ++ (codes " G" ++ (decimal g ++ 10 ∷ []))) old a (none_yet old (refused_text n g)) e

  pub after_number : (a b : List ℕ) → a ≡ old ++ codes "refused " → b ≡ a ++ decimal n → StillTo old (refused_text n g) (codes " G" ++ (decimal g ++ 10 ∷ [])) b
  after_number a b e f = one_more old (refused_text n g) (decimal n) (codes " G" ++ (decimal g ++ 10 ∷ [])) a b (after_word a e) f

  pub after_mark : (a b c : List ℕ) → a ≡ old ++ codes "refused " → b ≡ a ++ decimal n → c ≡ b ++ codes " G" → StillTo old (refused_text n g) (decimal g ++ 10 ∷ []) c
  after_mark a b c e f h = one_more old (refused_text n g) (codes " G") (decimal g ++ 10 ∷ []) b c (after_number a b e f) h

  pub after_rule : (a b c d : List ℕ) → a ≡ old ++ codes "refused " → b ≡ a ++ decimal n → c ≡ b ++ codes " G" → d ≡ c ++ decimal g → StillTo old (refused_text n g) (10 ∷ []) d
  after_rule a b c d e f h k = one_more old (refused_text n g) (decimal g) (10 ∷ []) c d (after_mark a b c e f h) k

-- ---- out of memory

-- what is done so far, and where it stops
pub breaks : (t u w : TalkWorld) (n : ℕ) (text old left now new : List ℕ) → SoFar t text old n u left now → StopsAt (n + 1) u (lines_in left) w now new → BreaksOff t text w old new
breaks t u w n text old left now new so stops = record {
  done = so.done;
  left = lines_in left;
  lines = so.parts;
  stops =
      subst (λ (k : ℕ). StopsAt (k + 1) (after_lines t so.done) (lines_in left) w (old ++ told_from 1 t so.done) new) (sym so.count)
      (subst (λ (x : TalkWorld). StopsAt (n + 1) x (lines_in left) w (old ++ told_from 1 t so.done) new) so.played
      (subst (λ (x : List ℕ). StopsAt (n + 1) u (lines_in left) w x new) so.printed stops));
}

-- in a line
pub stops_in_line : (u w : TalkWorld) (n : ℕ) (left rest line now : List ℕ) → lines_in left ≡ line ∷ lines_in rest → IsUnsaid u line w → StopsAt n u (lines_in left) w now now
stops_in_line u w n left rest line now is h = subst (λ (ls : List (List ℕ)). StopsAt n u ls w now now) (sym is) (undone h refl)

-- in what is printed of it
pub stops_in_text : (u w : TalkWorld) (n : ℕ) (s : Said) (file : FileAt) (left rest line now new : List ℕ) → lines_in left ≡ line ∷ lines_in rest → w ≡ after_line (others_acted u) line
    → s ≡ said_of (others_acted u) line → file ≡ w.file → IsCutShort now (line_of (said_words file n s)) new → StopsAt n u (lines_in left) w now new
stops_in_text u w n s file left rest line now new is next answer at c =
    subst (λ (ls : List (List ℕ)). StopsAt n u ls w now new) (sym is)
    (cut next (whole_is now (line_of (said_words file n s)) (line_text n u line) new (line_said u w n s file line next answer at) c))

-- at the end
pub stops_at_end : (u w : TalkWorld) (n : ℕ) (left now : List ℕ) → lines_in left ≡ [] → OnlyOthers u w → StopsAt n u (lines_in left) w now now
stops_at_end u w n left now none h = subst (λ (ls : List (List ℕ)). StopsAt n u ls w now now) (sym none) (undone h refl)

-- in the verdict's line
pub stops_in_verdict : (u w : TalkWorld) (n : ℕ) (left now new : List ℕ) (d : Verdict) → lines_in left ≡ [] → w ≡ others_acted u → d ≡ talk_verdict w → IsCutShort now (verdict_line d) new → StopsAt n u (lines_in left) w now new
stops_in_verdict u w n left now new d none acted is c =
    subst (λ (ls : List (List ℕ)). StopsAt n u ls w now new) (sym none)
    (cut acted (whole_is now (verdict_line d) (verdict_line (talk_verdict (others_acted u))) new (ap verdict_line (is ∙ ap talk_verdict acted)) c))

-- ---- moves

pub goes_by_lines : (t : TalkWorld) (ls : List (List ℕ)) → GoesOn t (after_lines t ls)
goes_by_lines t [] = goes_same t
goes_by_lines t (l ∷ ls) = goes_then t (after_line (others_acted t) l) (after_lines (after_line (others_acted t) l) ls) (goes_by_line t l) (goes_by_lines (after_line (others_acted t) l) ls)

pub goes_by_talk : (t : TalkWorld) (ls : List (List ℕ)) → GoesOn t (played_from t ls)
goes_by_talk t ls = goes_then t (after_lines t ls) (played_from t ls) (goes_by_lines t ls) (goes_by_others (after_lines t ls))

goes_not_done : (t u : TalkWorld) (left : List (List ℕ)) → IsNotDone t left u → GoesOn t u
goes_not_done t u [] h = goes_by_some t u h
goes_not_done t u (l ∷ ls) h = goes_unsaid t u l h

goes_done : (t u : TalkWorld) (left : List (List ℕ)) → IsDone t left u → GoesOn t u
goes_done t u [] h = subst (GoesOn t) (sym h) (goes_by_others t)
goes_done t u (l ∷ ls) h = subst (GoesOn t) (sym h) (goes_by_line t l)

goes_stopped : (n : ℕ) (t u : TalkWorld) (left : List (List ℕ)) (old new : List ℕ) → StopsAt n t left u old new → GoesOn t u
goes_stopped n t u left old new (undone h same) = goes_not_done t u left h
goes_stopped n t u left old new (cut h c) = goes_done t u left h

pub goes_broken : (t u : TalkWorld) (text old new : List ℕ) → BreaksOff t text u old new → GoesOn t u
goes_broken t u text old new b = goes_then t (after_lines t b.done) u (goes_by_lines t b.done) (goes_stopped (length b.done + 1) (after_lines t b.done) u b.left (old ++ told_from 1 t b.done) new b.stops)
