-- Words of entries, one after another.
use Rattle.std.proofs.Common.{◌≡◌, ℕ, ◌+◌, ◌<◌, List, [], ◌∷◌, ◌++◌, Vec, length, map, take, drop, get_or, refl, sym, ap, subst, ◌∙◌, ◌≤◌, append-nil}
use Rattle.std.proofs.Math.ListN.{drop_of_length-le}
use Rattle.std.proofs.lemmas.List.{map_more}
use Rattle.std.specs.declared.alloc.Global.{Global}
use native.Mathlib.Numerals.{unary_clauses}
use Rattle.sj_text.proofs.CutLemmas.{open_by}
use Rattle.sj_engine.specs.Lanes.{pushed_on}
use Rattle.sj_engine.specs.declared.out_lane.ByteOut.{ByteOut}
use Rattle.sj_streams.specs.Words.{words_at}
use Rattle.sj_remote_run.specs.Entries.{frames_from, lane_words}

-- one more word is the same
pub same_more : (xs ys : List (Vec ℕ Global)) (i : ℕ) (x y : Vec ℕ Global) → i < length xs → length xs ≡ length ys → x ≡ get_or xs i x → y ≡ get_or ys i y → x.items ≡ y.items
    → words_at (take i xs) ≡ words_at (take i ys) → words_at (take (i + 1) xs) ≡ words_at (take (i + 1) ys)
same_more xs ys i x y less long this that same before =
    map_more (λ w. w.items) xs i x less ∙ ap (λ (w : Vec ℕ Global). words_at (take i xs) ++ w.items ∷ []) (sym this) ∙ ap (λ (t : List ℕ). words_at (take i xs) ++ t ∷ []) same
    ∙ ap (λ (ts : List (List ℕ)). ts ++ y.items ∷ []) before ∙ ap (λ (w : Vec ℕ Global). words_at (take i ys) ++ w.items ∷ []) that
    ∙ sym (map_more (λ w. w.items) ys i y (subst (λ (n : ℕ). i < n) long less))

next_frames : (party to : ℕ) (o : ByteOut) (os : List ByteOut)
    → frames_from party to (map pushed_on (o ∷ os)) ≡ lane_words party to (pushed_on o) ++ frames_from party (to + 1) (map pushed_on os)
unfolding frames_from
next_frames party to o os = simp unary_clauses refl

-- the frames of the lanes that are left are those of the next lane and of those after it
pub frames_step : (party : ℕ) (outs : List ByteOut) (to : ℕ) (o : ByteOut) → to < length outs → o ≡ get_or outs to o
    → frames_from party to (map pushed_on (drop to outs)) ≡ lane_words party to (pushed_on o) ++ frames_from party (to + 1) (map pushed_on (drop (to + 1) outs))
frames_step party outs to o less is = ap (λ (os : List ByteOut). frames_from party to (map pushed_on os)) (open_by to outs o less is) ∙ next_frames party to o (drop (to + 1) outs)

none_left : (party to : ℕ) → frames_from party to [] ≡ []
unfolding frames_from
none_left party to = refl

-- after the last lane nothing is left
pub frames_end : (party : ℕ) (outs : List ByteOut) (to : ℕ) (words : List (List ℕ)) → length outs ≤ to → words ++ frames_from party to (map pushed_on (drop to outs)) ≡ words
frames_end party outs to words le =
    ap (λ (os : List ByteOut). words ++ frames_from party to (map pushed_on os)) (drop_of_length-le outs le) ∙ ap (λ (fs : List (List ℕ)). words ++ fs) (none_left party to) ∙ append-nil words
