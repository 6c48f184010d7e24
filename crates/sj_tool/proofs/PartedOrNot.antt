-- A source has a first line `%%log` or `%%log2`, or none, and so with `%%talk`.
use Rattle.std.proofs.Common.{◌≡◌, ◌⊎◌, ◌∙◌, ◌<◌, ◌+◌, ℕ, List, [], ◌∷◌, ◌++◌, take, drop, length, inl, inr, refl, sym, ap, subst, subst₂, arith, append_assoc, length-append, length-take}
use Rattle.std.proofs.Math.Decide.{ℕ_discrete}
use Rattle.std.proofs.Math.Seq.{drop-append_seam, take-append_seam}
use Rattle.sj_log.specs.Parts.{AreLines, HasNoPart, IsMarked, IsPart, IsParted, IsVersion, mark_of}
use Rattle.sj_tool.specs.LogAt.{LogAt, log_at}
use Rattle.sj_tool.specs.TalkParts.{HasNoTalk, IsTalk, talk_mark}
use Rattle.sj_tool.proofs.LineLemmas.{both_of, one_list}
use Rattle.sj_tool.proofs.NumberLemmas.{First, first_or_none}

-- whether a newline stands last, or there is nothing
lines_or_not : (bytes : List ℕ) → Dec (AreLines bytes)
lines_or_not [] = yes (inl refl)
lines_or_not (b ∷ []) = by (ℕ_discrete b 10)
  where
    by : Dec (b ≡ 10) → Dec (AreLines (b ∷ []))
    by (yes e) = yes (inr ([], ap (λ x. x ∷ []) e))
    by (no off) = no last
      where
        last : AreLines (b ∷ []) → ⊥
        last (inl e) = absurd (cc e)
        last (inr ([], e)) = off (cc e)
        last (inr (x ∷ [], e)) = absurd (cc e)
        last (inr (x ∷ y ∷ front, e)) = absurd (cc e)
lines_or_not (b ∷ c ∷ bs) = by (lines_or_not (c ∷ bs))
  where
    by : Dec (AreLines (c ∷ bs)) → Dec (AreLines (b ∷ c ∷ bs))
    by (yes (inl e)) = absurd (cc e)
    by (yes (inr (front, e))) = yes (inr (b ∷ front, ap (λ (xs : List ℕ). b ∷ xs) e))
    by (no off) = no further
      where
        further : AreLines (b ∷ c ∷ bs) → ⊥
        further (inl e) = absurd (cc e)
        further (inr ([], e)) = absurd (cc e)
        further (inr (x ∷ front, e)) = off (inr (front, cc e))

-- the line stands after so many bytes
abbrev IsAt : (mark source : List ℕ) (n : ℕ) → Type 0
IsAt mark source n = IsMarked mark source (take n source) (drop (n + length mark) source)

at_or_not : (mark source : List ℕ) (n : ℕ) → Dec (IsAt mark source n)
at_or_not mark source n =
    both_of (lines_or_not (take n source)) (one_list source (take n source ++ (mark ++ drop (n + length mark) source))) (λ lines whole. record { lines = lines; whole = whole }) (λ p. p.lines) (λ p. p.whole)

-- it stands after as many bytes as the text before it has
is_at : (mark source text log : List ℕ) → IsMarked mark source text log → IsAt mark source (length text) × (length text < length source + 1)
is_at mark source text log p =
    let whole : source ≡ text ++ (mark ++ log) = p.whole in
    let front : take (length text) source ≡ text = ap (take (length text)) whole ∙ take-append_seam text (mark ++ log) in
    let long : length (text ++ mark) ≡ length text + length mark = length-append text mark in
    let back : drop (length text + length mark) source ≡ log =
    ap (λ n. drop n source) (sym long) ∙ ap (drop (length (text ++ mark))) (whole ∙ sym (append_assoc text mark log)) ∙ drop-append_seam (text ++ mark) log in (
      subst₂ (λ (t l : List ℕ). IsMarked mark source t l) (sym front) (sym back) p,
      omega (arith, ap length whole, length-append text (mark ++ log)),
    )

-- that of one of the two versions does
record HasLine (source : List ℕ) (n : ℕ) : Type 0 where
  version : ℕ
  known : IsVersion version
  there : IsAt (mark_of version) source n

line_or_not : (source : List ℕ) (n : ℕ) → Dec (HasLine source n)
line_or_not source n = by (at_or_not (mark_of 1) source n) (at_or_not (mark_of 2) source n)
  where
    by : Dec (IsAt (mark_of 1) source n) → Dec (IsAt (mark_of 2) source n) → Dec (HasLine source n)
    by (yes one) second = yes (record { version = 1; known = inl refl; there = one })
    by (no off) (yes two) = yes (record { version = 2; known = inr refl; there = two })
    by (no off) (no away) = no neither
      where
        neither : HasLine source n → ⊥
        neither h = elim h.known [ inl one ↦ off (subst (λ (v : ℕ). IsAt (mark_of v) source n) one h.there) | inr two ↦ away (subst (λ (v : ℕ). IsAt (mark_of v) source n) two h.there) ]

-- each part stands after as many bytes as its text has
part_is_at : (source text : List ℕ) (v : ℕ) (log : List ℕ) → IsPart source text v log → HasLine source (length text) × (length text < length source + 1)
part_is_at source text v log p =
    let at = is_at (mark_of v) source text log p.marked in (record { version = v; known = p.known; there = at.0 }, at.1)

-- the text and the log of a source, where it has both
pub record Parts (source : List ℕ) : Type 0 where
  pub text : List ℕ
  pub log : LogAt
  pub parted : IsParted source text log.version log.bytes

pub parts_or_none : (source : List ℕ) → Parts source ⊎ HasNoPart source
parts_or_none source = by (first_or_none (HasLine source) (line_or_not source) (length source + 1))
  where
    by : First (HasLine source) (length source + 1) ⊎ ((n : ℕ) → n < length source + 1 → HasLine source n → ⊥) → Parts source ⊎ HasNoPart source
    by (inr none) = inr (λ text v log p. let at = part_is_at source text v log p in none (length text) at.1 at.0)
    by (inl f) =
        inl (record {
          text = take f.number source;
          log = log_at f.has.version (drop (f.number + length (mark_of f.has.version)) source);
          parted =
              record {
                here = record { known = f.has.known; marked = f.has.there };
                first = λ other v rest p.
                    let at = part_is_at source other v rest p in
                    let not_before : length other < f.number → ⊥ = λ lt. f.first (length other) lt at.0 in
                    omega (arith, not_before, length-take f.number source);
              };
        })

-- the text and the lines of a source, where it has both
pub record TalkParts (source : List ℕ) : Type 0 where
  pub text : List ℕ
  pub lines : List ℕ
  pub parted : IsTalk source text lines

pub talk_or_none : (source : List ℕ) → TalkParts source ⊎ HasNoTalk source
talk_or_none source = by (first_or_none (IsAt talk_mark source) (at_or_not talk_mark source) (length source + 1))
  where
    by : First (IsAt talk_mark source) (length source + 1) ⊎ ((n : ℕ) → n < length source + 1 → IsAt talk_mark source n → ⊥) → TalkParts source ⊎ HasNoTalk source
    by (inr none) = inr (λ text lines p. let at = is_at talk_mark source text lines p in none (length text) at.1 at.0)
    by (inl f) =
        inl (record {
          text = take f.number source;
          lines = drop (f.number + length talk_mark) source;
          parted =
              record {
                here = f.has;
                first = λ other rest p.
                    let at = is_at talk_mark source other rest p in
                    let not_before : length other < f.number → ⊥ = λ lt. f.first (length other) lt at.0 in
                    omega (arith, not_before, length-take f.number source);
              };
        })
