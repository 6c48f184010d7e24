-- A source is split at its first line `%%log` or `%%log2`, in one way.
use Rattle.std.proofs.Common.{◌≡◌, ◌∙◌, ◌+◌, ◌<◌, ◌≤◌, ℕ, List, [], ◌++◌, length, take, drop, Some, None, get_or, inl, inr, refl, sym, ap, subst, arith, take-append-drop, append_assoc, length-append, length-take, length-take-le}
use Rattle.std.specs.Prelude.{codes}
use Rattle.std.proofs.Math.Seq.{drop-append_seam, take-append_seam}
use Rattle.memchr.specs.Find.{OccursAt, Nowhere}
use Rattle.memchr.proofs.lemmas.MatchLemmas.{OccursAt-from_part, OccursAt-split}
use Rattle.sj_log.specs.Parts.{HasNoPart, IsFirst, IsMarked, IsPart, IsParted, IsVersion, mark_of}

-- a needle occurs where it stands
occurs_there : (xs needle rest : List ℕ) → OccursAt (xs ++ (needle ++ rest)) needle (length xs)
occurs_there xs needle rest =
    OccursAt-from_part (xs ++ (needle ++ rest)) needle (length xs)
    (omega (arith, length-append xs (needle ++ rest), length-append needle rest))
    (ap (take (length needle)) (drop-append_seam xs (needle ++ rest)) ∙ take-append_seam needle rest)

module _ (mark source : List ℕ) where
  -- the source begins with the line
  pub marked_first : OccursAt source mark 0 → IsFirst mark source (Some 0)
  marked_first here = (record { lines = inl refl; whole = OccursAt-split source mark 0 here }, λ other rest part. omega arith)

  module _ (away : ¬ OccursAt source mark 0) where
    -- else it stands after the end of another
    line_occurs : (other rest : List ℕ) → IsMarked mark source other rest → (n : ℕ) × (length other ≡ n + 1) × OccursAt source (codes "\n" ++ mark) n
    line_occurs other rest part =
        elim part.lines [
          | inl none ↦ absurd (away (subst (λ (s : List ℕ). OccursAt s mark 0) (sym (part.whole ∙ ap (λ t. t ++ (mark ++ rest)) none)) (occurs_there [] mark rest)))
          | inr ends ↦ (
            length ends.0,
            ap length ends.1 ∙ length-append ends.0 (codes "\n"),
            subst (λ (s : List ℕ). OccursAt s (codes "\n" ++ mark) (length ends.0))
                (sym (part.whole ∙ ap (λ t. t ++ (mark ++ rest)) ends.1 ∙ append_assoc ends.0 (codes "\n") (mark ++ rest)))
                (occurs_there ends.0 (codes "\n" ++ mark) rest),
          )
        ]

    -- it stands after the end of a line, there first
    pub marked_behind : (at : ℕ) → OccursAt source (codes "\n" ++ mark) at → Nowhere (OccursAt source (codes "\n" ++ mark)) 0 at → IsFirst mark source (Some (at + 1))
    marked_behind at here none =
        let front = take at source in
        let rest = drop (at + 1 + length mark) source in
        let same : at + length (codes "\n" ++ mark) ≡ at + 1 + length mark = omega arith in
        let long : length front ≡ at = length-take-le at source (omega (arith, here.fits)) in
        let split : drop at source ≡ codes "\n" ++ (mark ++ rest) = OccursAt-split source (codes "\n" ++ mark) at here ∙ ap (λ n. codes "\n" ++ (mark ++ drop n source)) same in
        let all : source ≡ (front ++ codes "\n") ++ (mark ++ rest) =
        sym (take-append-drop at source) ∙ ap (λ t. front ++ t) split ∙ sym (append_assoc front (codes "\n") (mark ++ rest)) in
        let size : length (front ++ codes "\n") ≡ at + 1 = length-append front (codes "\n") ∙ ap (λ n. n + 1) long in
        let text : take (at + 1) source ≡ front ++ codes "\n" =
        ap (λ n. take n source) (sym size) ∙ ap (take (length (front ++ codes "\n"))) all ∙ take-append_seam (front ++ codes "\n") (mark ++ rest) in (
          record { lines = inr (front, text); whole = all ∙ ap (λ t. t ++ (mark ++ rest)) (sym text) },
          λ other more part.
              let (n, long_other, there) = line_occurs other more part in
              let shorter : n < at → ⊥ = λ lt. none n (omega arith) lt there in
              omega (arith, long_other, shorter),
        )

    -- it stands nowhere
    pub marked_never : Nowhere (OccursAt source (codes "\n" ++ mark)) 0 (length source + 1) → IsFirst mark source None
    marked_never none text log part =
        let (n, long, there) = line_occurs text log part in
        none n (omega arith) (omega (arith, there.fits)) there

-- no line stands there
pub parted_never : (source : List ℕ) → IsFirst (mark_of 1) source None → IsFirst (mark_of 2) source None → HasNoPart source
parted_never source one two text version log part = elim part.known [
  | inl e ↦ one text log (subst (λ (v : ℕ). IsMarked (mark_of v) source text log) e part.marked)
  | inr e ↦ two text log (subst (λ (v : ℕ). IsMarked (mark_of v) source text log) e part.marked)
]

-- the other line stands nowhere before that place
abbrev pub IsLater : (mark source : List ℕ) → ℕ → Type 0
IsLater mark source at = (other rest : List ℕ) → IsMarked mark source other rest → at ≤ length other

pub later_than : (mark source : List ℕ) (at n : ℕ) → IsFirst mark source (Some n) → at ≤ n → IsLater mark source at
later_than mark source at n first h other rest part = let far = first.1 other rest part in omega arith

pub never_later : (mark source : List ℕ) (at : ℕ) → IsFirst mark source None → IsLater mark source at
never_later mark source at none other rest part = absurd (none other rest part)

no_earlier : (source : List ℕ) (at : ℕ) → IsLater (mark_of 1) source at → IsLater (mark_of 2) source at
    → (other : List ℕ) (v : ℕ) (rest : List ℕ) → IsPart source other v rest → at ≤ length other
no_earlier source at one two other v rest part = elim part.known [
  | inl e ↦ one other rest (subst (λ (w : ℕ). IsMarked (mark_of w) source other rest) e part.marked)
  | inr e ↦ two other rest (subst (λ (w : ℕ). IsMarked (mark_of w) source other rest) e part.marked)
]

-- the line of that version stands at that place, and none before it
pub parted_at : (source : List ℕ) (version at : ℕ) → IsVersion version → IsFirst (mark_of version) source (Some at)
    → IsLater (mark_of 1) source at → IsLater (mark_of 2) source at
    → IsParted source (take at source) version (drop (at + length (mark_of version)) source)
parted_at source version at known first one two = record {
  here = record { known = known; marked = first.0 };
  first = λ other v rest part. let long = length-take at source in let far = no_earlier source at one two other v rest part in omega arith;
}

-- after `%%log` a newline stands, or a 2
same_mark : (v w : ℕ) (log rest : List ℕ) → IsVersion v → IsVersion w → mark_of v ++ log ≡ mark_of w ++ rest → (v ≡ w) × (log ≡ rest)
same_mark v w log rest (inl a) (inl b) e = (a ∙ sym b, ap (drop 6) (ap (λ x. mark_of x ++ log) (sym a) ∙ e ∙ ap (λ x. mark_of x ++ rest) b))
same_mark v w log rest (inl a) (inr b) e =
    let clash : 10 ≡ 50 = ap (λ t. get_or t 5 0) (ap (λ x. mark_of x ++ log) (sym a) ∙ e ∙ ap (λ x. mark_of x ++ rest) b) in absurd (omega (arith, clash))
same_mark v w log rest (inr a) (inl b) e =
    let clash : 50 ≡ 10 = ap (λ t. get_or t 5 0) (ap (λ x. mark_of x ++ log) (sym a) ∙ e ∙ ap (λ x. mark_of x ++ rest) b) in absurd (omega (arith, clash))
same_mark v w log rest (inr a) (inr b) e = (a ∙ sym b, ap (drop 7) (ap (λ x. mark_of x ++ log) (sym a) ∙ e ∙ ap (λ x. mark_of x ++ rest) b))

-- what stands before a line of a version, and from it on
front_of : (source text : List ℕ) (version : ℕ) (log : List ℕ) → IsPart source text version log → take (length text) source ≡ text
front_of source text version log part = ap (take (length text)) part.marked.whole ∙ take-append_seam text (mark_of version ++ log)

back_of : (source text : List ℕ) (version : ℕ) (log : List ℕ) → IsPart source text version log → drop (length text) source ≡ mark_of version ++ log
back_of source text version log part = ap (drop (length text)) part.marked.whole ∙ drop-append_seam text (mark_of version ++ log)

-- a source is split in one way
pub one_parting : (source text : List ℕ) (version : ℕ) (log : List ℕ) → IsParted source text version log
    → (other : List ℕ) (v : ℕ) (rest : List ℕ) → IsParted source other v rest → (text ≡ other) × ((version ≡ v) × (log ≡ rest))
one_parting source text version log a other v rest b =
    let same : length text ≡ length other = omega (arith, a.first other v rest b.here, b.first text version log a.here) in
    let backs : mark_of version ++ log ≡ mark_of v ++ rest =
    sym (back_of source text version log a.here) ∙ ap (λ n. drop n source) same ∙ back_of source other v rest b.here in (
      sym (front_of source text version log a.here) ∙ ap (λ n. take n source) same ∙ front_of source other v rest b.here,
      same_mark version v log rest a.here.known b.here.known backs,
    )
