-- A talk is played and printed line by line.
use Rattle.std.proofs.Common.{◌≡◌, ℕ, Bool, ◌+◌, ◌-◌, ◌<◌, ◌≤◌, List, [], ◌∷◌, ◌++◌, length, take, drop, refl, ap, sym, ◌∙◌, arith, append_assoc, append-nil}
use Rattle.std.specs.Prelude.{◌==◌, true}
use Rattle.std.specs.List.{slice_split, position_or_len}
use Rattle.std.proofs.lemmas.Bool.{false≢true}
use Rattle.std.proofs.lemmas.List.{length-append, length-drop, take_all}
use Rattle.std.proofs.lemmas.List.Splits.{slice_split_first}
use Rattle.sj_lang.specs.FileAt.{FileAt}
use Rattle.sj_talk.specs.Doing.{after_line, said_of}
use Rattle.sj_talk.specs.Output.{after_lines, line_text, played_from, said_words, talk_end, talk_text, told_from, verdict_line}
use Rattle.sj_talk.specs.TalkWorld.{TalkWorld, others_acted, talk_verdict}
use Rattle.sj_talk.specs.Words.{last_line, lines_in, without_last_empty}
use Rattle.sj_semantics.specs.declared.Verdict.{Verdict}
use Rattle.sj_semantics.specs.Lines.{line_of}
use Rattle.sj_talk.specs.declared.said.Said.{Said}
use Rattle.sj_fields.proofs.WordLemmas.{ended_by, one_part, some_part}

first_of_more : (x : List ℕ) (xs : List (List ℕ)) → 0 < length xs → without_last_empty (x ∷ xs) ≡ x ∷ without_last_empty xs
first_of_more x [] some = absurd (omega arith)
first_of_more x (y ∷ ys) some = refl

whole_line : (left : List ℕ) → 0 < length left → last_line left ≡ left ∷ []
whole_line [] some = absurd (omega arith)
whole_line (b ∷ bs) some = refl

-- the first line, and those after its newline
pub line_first : (left : List ℕ) (e : ℕ) → e ≡ position_or_len (λ b. b == 10) left → e < length left → lines_in left ≡ take e left ∷ lines_in (take (length left - (e + 1)) (drop (e + 1) left))
line_first left e at lt =
    let parts : slice_split (λ b. b == 10) left ≡ take e left ∷ slice_split (λ b. b == 10) (drop (e + 1) left) = rw at (slice_split_first (λ b. b == 10) left 0 (omega arith)) in
    ap without_last_empty parts ∙ first_of_more (take e left) (slice_split (λ b. b == 10) (drop (e + 1) left)) (some_part (λ b. b == 10) (drop (e + 1) left))
    ∙ ap (λ ls. take e left ∷ lines_in ls) (sym (take_all (length left - (e + 1)) (drop (e + 1) left) (omega (arith, length-drop (e + 1) left))))

-- the last line, without a newline
pub line_last : (left : List ℕ) (e : ℕ) → e ≡ position_or_len (λ b. b == 10) left → length left ≤ e → 0 < length left → lines_in left ≡ take e left ∷ lines_in []
line_last left e at le some =
    ap without_last_empty (one_part (λ b. b == 10) left (omega (arith, at, le))) ∙ whole_line left some ∙ ap (λ l. l ∷ []) (sym (take_all e left le))

-- ---- line by line

after_push : (t : TalkWorld) (ls : List (List ℕ)) (line : List ℕ) → after_lines t (ls ++ line ∷ []) ≡ after_line (others_acted (after_lines t ls)) line
after_push t [] line = refl
after_push t (l ∷ ls) line = after_push (after_line (others_acted t) l) ls line

told_push : (n k : ℕ) (t : TalkWorld) (ls : List (List ℕ)) (line : List ℕ) → k ≡ n + length ls → told_from n t (ls ++ line ∷ []) ≡ told_from n t ls ++ line_text k (after_lines t ls) line
told_push n k t [] line e = append-nil (line_text n t line) ∙ ap (λ m. line_text m t line) (let m : n ≡ k = omega (arith, e) in m)
told_push n k t (l ∷ ls) line e =
    let u = after_line (others_acted t) l in
    ap (λ x. line_text n t l ++ x) (told_push (n + 1) k u ls line (omega (arith, e))) ∙ sym (append_assoc (line_text n t l) (told_from (n + 1) u ls) (line_text k (after_lines u ls) line))

-- lines of the text are done and printed, and the others are left
pub record SoFar (t : TalkWorld) (text old : List ℕ) (n : ℕ) (u : TalkWorld) (left new : List ℕ) : Type 0 where
  pub done : List (List ℕ)
  pub count : length done ≡ n
  pub parts : lines_in text ≡ done ++ lines_in left
  pub played : u ≡ after_lines t done
  pub printed : new ≡ old ++ told_from 1 t done

pub none_said : (t : TalkWorld) (text old : List ℕ) → SoFar t text old 0 t text old
none_said t text old = record { done = []; count = refl; parts = refl; played = refl; printed = sym (append-nil old) }

-- the line of what was said of that line
pub line_said : (u v : TalkWorld) (k : ℕ) (s : Said) (file : FileAt) (line : List ℕ) → v ≡ after_line (others_acted u) line → s ≡ said_of (others_acted u) line → file ≡ v.file
    → line_of (said_words file k s) ≡ line_text k u line
line_said u v k s file line next answer at = λ i. line_of (said_words ((at ∙ ap (λ (x : TalkWorld). x.file) next) i) k (answer i))

-- one more line is done and printed
pub said_on : (t u v : TalkWorld) (n : ℕ) (s : Said) (file : FileAt) (text old left rest line now new : List ℕ) → SoFar t text old n u left now → lines_in left ≡ line ∷ lines_in rest
    → v ≡ after_line (others_acted u) line → s ≡ said_of (others_acted u) line → file ≡ v.file → new ≡ now ++ line_of (said_words file (n + 1) s) → SoFar t text old (n + 1) v rest new
said_on t u v n s file text old left rest line now new so is next answer at put =
    let ls = so.done in
    let said : line_of (said_words file (n + 1) s) ≡ line_text (n + 1) (after_lines t ls) line =
    line_said u v (n + 1) s file line next answer at ∙ ap (λ x. line_text (n + 1) x line) so.played in
    record {
      done = ls ++ line ∷ [];
      count = omega (arith, so.count, length-append ls (line ∷ []));
      parts = so.parts ∙ ap (λ x. ls ++ x) is ∙ sym (append_assoc ls (line ∷ []) (lines_in rest));
      played = next ∙ ap (λ x. after_line (others_acted x) line) so.played ∙ sym (after_push t ls line);
      printed =
          put ∙ (λ i. so.printed i ++ said i) ∙ append_assoc old (told_from 1 t ls) (line_text (n + 1) (after_lines t ls) line)
          ∙ ap (λ x. old ++ x) (sym (told_push 1 (n + 1) t ls line (omega (arith, so.count))));
    }

-- where nothing is left there is no line
pub no_lines : (left : List ℕ) (b : Bool) → b ≡ (length left == 0) → b ≡ true → lines_in left ≡ []
no_lines [] b is none = ap without_last_empty (one_part (λ x. x == 10) [] (omega arith))
no_lines (x ∷ xs) b is none = absurd (false≢true (sym (ended_by (length (x ∷ xs)) (omega arith)) ∙ sym is ∙ none))

-- ---- the end

end_is : (t : TalkWorld) (text : List ℕ) → talk_end t text ≡ talk_verdict (played_from t (lines_in text))
unfolding talk_end
end_is t text = refl

text_is : (t : TalkWorld) (text : List ℕ) → talk_text t text ≡ told_from 1 t (lines_in text) ++ verdict_line (talk_end t text)
unfolding talk_text
text_is t text = refl

-- nothing is left, and the others act once more
pub all_said : (t u v : TalkWorld) (n : ℕ) (text old left now : List ℕ) → SoFar t text old n u left now → lines_in left ≡ [] → v ≡ others_acted u → v ≡ played_from t (lines_in text)
all_said t u v n text old left now so none acted =
    let all : lines_in text ≡ so.done = so.parts ∙ ap (λ x. so.done ++ x) none ∙ append-nil so.done in
    acted ∙ ap others_acted (so.played ∙ ap (after_lines t) (sym all))

-- the verdict of what was played
pub verdict_told : (t v : TalkWorld) (lines : List ℕ) (d : Verdict) → d ≡ talk_verdict v → v ≡ played_from t (lines_in lines) → d ≡ talk_end t lines
verdict_told t v lines d told played = told ∙ ap talk_verdict played ∙ sym (end_is t lines)

-- and its line after the others
pub text_told : (t u : TalkWorld) (n : ℕ) (text old left now new : List ℕ) (d : Verdict) → SoFar t text old n u left now → lines_in left ≡ [] → d ≡ talk_end t text → new ≡ now ++ verdict_line d → new ≡ old ++ talk_text t text
text_told t u n text old left now new d so none is put =
    let all : so.done ≡ lines_in text = sym (so.parts ∙ ap (λ x. so.done ++ x) none ∙ append-nil so.done) in
    put ∙ ap (λ x. x ++ verdict_line d) so.printed ∙ append_assoc old (told_from 1 t so.done) (verdict_line d)
    ∙ ap (λ v. old ++ (told_from 1 t so.done ++ verdict_line v)) is
    ∙ ap (λ ls. old ++ (told_from 1 t ls ++ verdict_line (talk_end t text))) all ∙ ap (λ x. old ++ x) (sym (text_is t text))
