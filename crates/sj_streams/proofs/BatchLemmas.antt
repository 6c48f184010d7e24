-- Names and values, word by word.
use Rattle.std.proofs.Common.{◌≡◌, ℕ, zero, suc, ◌+◌, ◌<◌, ◌≤◌, Bool, cond, List, [], ◌∷◌, length, drop, get_or, Some, None, Vec, refl, sym, ap, ◌∙◌, arith, drop-cons}
use Rattle.std.specs.Prelude.{codes}
use Rattle.std.specs.Str.{bytes_eq}
use Rattle.std.specs.declared.alloc.Global.{Global}
use Rattle.std.proofs.lemmas.List.{length-map, length-drop}
use Rattle.std.proofs.Math.ListN.{get_or-map}
use Rattle.sj_streams.specs.Batch.{frames_named, lines_in}
use Rattle.sj_streams.specs.Words.{words_at}

-- what is there doesn't depend on what stands for nothing
pub get_any : {A : Type 0} (l : List A) (n : ℕ) (d e : A) → n < length l → get_or l n d ≡ get_or l n e
get_any [] n d e h = absurd (omega (arith, h))
get_any (x ∷ l) zero d e h = refl
get_any (x ∷ l) (suc n) d e h = get_any l n d e (omega (arith, h))

pub lines_short : (ws : List (Vec ℕ Global)) → length ws < 2 → lines_in (words_at ws) ≡ None
unfolding lines_in
lines_short [] h = refl
lines_short (a ∷ []) h = refl
lines_short (a ∷ b ∷ ws) h = absurd (omega (arith, h))

pub lines_here : (ws : List (Vec ℕ Global)) (a b : Vec ℕ Global) (t : Bool) → 2 ≤ length ws → a ≡ get_or ws 0 a → b ≡ get_or ws 1 b → bytes_eq a.items (codes "e") ≡ t → lines_in (words_at ws) ≡ cond t (Some b.items) None
unfolding lines_in
lines_here [] a b t long first second is = absurd (omega (arith, long))
lines_here (x ∷ []) a b t long first second is = absurd (omega (arith, long))
lines_here (x ∷ y ∷ ws) a b t long first second is =
    let test : bytes_eq x.items (codes "e") ≡ t = ap (λ (v : Vec ℕ Global). bytes_eq v.items (codes "e")) (sym first) ∙ is in
    ap (λ (u : Bool). cond u (Some y.items) None) test ∙ ap (λ (v : Vec ℕ Global). cond t (Some v.items) None) (sym second)

-- a name and its value
pub named_here : (name : List ℕ) (ws : List (Vec ℕ Global)) (at : ℕ) (a b : Vec ℕ Global) (t : Bool) → at + 1 < length ws → a ≡ get_or ws at a → b ≡ get_or ws (at + 1) b → bytes_eq a.items name ≡ t
    → frames_named name (drop at (words_at ws)) ≡ cond t b.items (frames_named name (drop (at + 2) (words_at ws)))
unfolding frames_named
named_here name ws at a b t long first second is =
    let l = length-map ws (λ w. w.items) in
    let next : suc at ≡ at + 1 = omega arith in
    let later : suc (at + 1) ≡ at + 2 = omega arith in
    let one : drop at (words_at ws) ≡ get_or (words_at ws) at a.items ∷ drop (at + 1) (words_at ws) =
    drop-cons (words_at ws) at a.items (omega (arith, l, long)) ∙ ap (λ n. get_or (words_at ws) at a.items ∷ drop n (words_at ws)) next in
    let two : drop (at + 1) (words_at ws) ≡ get_or (words_at ws) (at + 1) b.items ∷ drop (at + 2) (words_at ws) =
    drop-cons (words_at ws) (at + 1) b.items (omega (arith, l, long)) ∙ ap (λ n. get_or (words_at ws) (at + 1) b.items ∷ drop n (words_at ws)) later in
    let x : get_or (words_at ws) at a.items ≡ a.items = get_or-map (λ w. w.items) ws at a ∙ ap (λ (v : Vec ℕ Global). v.items) (sym first) in
    let y : get_or (words_at ws) (at + 1) b.items ≡ b.items = get_or-map (λ w. w.items) ws (at + 1) b ∙ ap (λ (v : Vec ℕ Global). v.items) (sym second) in
    ap (frames_named name) (one ∙ (λ i. x i ∷ (two ∙ (λ j. y j ∷ drop (at + 2) (words_at ws))) i)) ∙ ap (λ (u : Bool). cond u b.items (frames_named name (drop (at + 2) (words_at ws)))) is

no_pair : (name : List ℕ) (l : List (List ℕ)) → length l ≤ 1 → frames_named name l ≡ []
unfolding frames_named
no_pair name [] h = refl
no_pair name (x ∷ []) h = refl
no_pair name (x ∷ y ∷ l) h = absurd (omega (arith, h))

-- fewer than two words are left
pub named_short : (name : List ℕ) (ws : List (Vec ℕ Global)) (at : ℕ) → length ws ≤ at + 1 → frames_named name (drop at (words_at ws)) ≡ []
named_short name ws at short =
    let l = length-map ws (λ w. w.items) in
    let d = length-drop at (words_at ws) in
    no_pair name (drop at (words_at ws)) (omega (arith, l, d, short))
