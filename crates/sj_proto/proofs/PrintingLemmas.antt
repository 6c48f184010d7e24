-- Items and arms that are being printed.
use Rattle.std.proofs.Common.{◌≡◌, ℕ, ◌+◌, ◌<◌, ◌==◌, Bool, true, false, List, [], ◌∷◌, ◌++◌, length, drop, get_or, refl, ap, sym, ◌∙◌, append_assoc, arith, zero, suc, None}
use Rattle.std.specs.Prelude.{codes, nat_lt, if◌then◌else◌}
use Rattle.std.specs.List.{slice_get}
use Rattle.std.proofs.lemmas.Bool.{lt-ltb}
use Rattle.std.proofs.lemmas.Bool.Decides.{nat_tests}
use Rattle.sj_text.proofs.CutLemmas.{StillTo, none_yet, one_more, ahead_is, open_by}
use Rattle.sj_lang.specs.declared.proto.Item.{Item}
use Rattle.sj_lang.specs.declared.proto.Item.TheVariants.{Send, Recv, Select, Branch, OutLoop, InLoop}
use Rattle.sj_lang.specs.declared.proto.Arm.{Arm}
use Rattle.sj_lang.specs.Place.{Place, done, message, choice, repeat}
use Rattle.sj_lang.specs.View.{place_of, choices_of, followed}
use Rattle.sj_grammar.specs.Tables.{entry_of}
use Rattle.sj_grammar.specs.Canonical.{dotted_text, listed_text, seq_text, arm_text, gap_before}

some_before : (n : ℕ) → nat_lt 0 (n + 1) ≡ true
some_before n = lt-ltb 0 (n + 1) (omega arith)

module _ (word : ℕ → List ℕ) where
  -- items and arms that are left, with so many before them
  abbrev pub items_ahead : ℕ → List Item → List ℕ
  items_ahead n is = if nat_lt 0 n then dotted_text word (place_of is) else seq_text word (place_of is)

  abbrev pub arms_ahead : ℕ → List Arm → List ℕ
  arms_ahead n arms = if nat_lt 0 n then listed_text word (choices_of arms) else drop 2 (listed_text word (choices_of arms))

  pub dotted_text-followed : (i : Item) (rest : Place) → dotted_text word (followed i rest) ≡ codes "." ++ (seq_text word (followed i done) ++ dotted_text word rest)
  dotted_text-followed (Send k) rest = simp append_assoc
  dotted_text-followed (Recv k) rest = simp append_assoc
  dotted_text-followed (Select arms) rest = simp append_assoc
  dotted_text-followed (Branch arms) rest = simp append_assoc
  dotted_text-followed (OutLoop body) rest = simp append_assoc
  dotted_text-followed (InLoop body) rest = simp append_assoc

  pub items_step : (n : ℕ) (is : List Item) (x : Item) → n < length is → x ≡ get_or is n x
      → items_ahead n (drop n is) ≡ (if nat_lt 0 n then codes "." else []) ++ (seq_text word (followed x done) ++ items_ahead (n + 1) (drop (n + 1) is))
  items_step n is x h e = ap (items_ahead n) (open_by n is x h e) ∙ by_test (nat_lt 0 n) ∙ ap (λ r. (if nat_lt 0 n then codes "." else []) ++ (seq_text word (followed x done) ++ r)) later
    where
      later : dotted_text word (place_of (drop (n + 1) is)) ≡ items_ahead (n + 1) (drop (n + 1) is)
      later = rw (some_before n) refl

      by_test : (b : Bool) → (if b then dotted_text word (followed x (place_of (drop (n + 1) is))) else drop 1 (dotted_text word (followed x (place_of (drop (n + 1) is)))))
          ≡ (if b then codes "." else []) ++ (seq_text word (followed x done) ++ dotted_text word (place_of (drop (n + 1) is)))
      by_test true = dotted_text-followed x (place_of (drop (n + 1) is))
      by_test false = ap (drop 1) (dotted_text-followed x (place_of (drop (n + 1) is)))

  arms_step : (n : ℕ) (arms : List Arm) (x : Arm) → n < length arms → x ≡ get_or arms n x
      → arms_ahead n (drop n arms) ≡ (if nat_lt 0 n then codes ", " else []) ++ (arm_text word x.label x.rest ++ arms_ahead (n + 1) (drop (n + 1) arms))
  arms_step n arms x h e = ap (arms_ahead n) (open_by n arms x h e) ∙ by_test (nat_lt 0 n) ∙ ap (λ r. (if nat_lt 0 n then codes ", " else []) ++ (arm_text word x.label x.rest ++ r)) later
    where
      later : listed_text word (choices_of (drop (n + 1) arms)) ≡ arms_ahead (n + 1) (drop (n + 1) arms)
      later = rw (some_before n) refl

      by_test : (b : Bool) → (if b then listed_text word (choices_of (x ∷ drop (n + 1) arms)) else drop 2 (listed_text word (choices_of (x ∷ drop (n + 1) arms))))
          ≡ (if b then codes ", " else []) ++ (arm_text word x.label x.rest ++ listed_text word (choices_of (drop (n + 1) arms)))
      by_test true = refl
      by_test false = refl

  -- the same, before what closes them
  pub arms_on : (n : ℕ) (arms : List Arm) (x : Arm) (more : List ℕ) → n < length arms → x ≡ get_or arms n x
      → arms_ahead n (drop n arms) ++ more ≡ (if nat_lt 0 n then codes ", " else []) ++ (arm_text word x.label x.rest ++ (arms_ahead (n + 1) (drop (n + 1) arms) ++ more))
  arms_on n arms x more h e =
      let sep = if nat_lt 0 n then codes ", " else [] in
      let behind = arms_ahead (n + 1) (drop (n + 1) arms) in
      ap (λ xs. xs ++ more) (arms_step n arms x h e) ∙ append_assoc sep (arm_text word x.label x.rest ++ behind) more ∙ ap (λ xs. sep ++ xs) (append_assoc (arm_text word x.label x.rest) behind more)

  -- the same, with the dot apart
  pub dot_apart : (p : Place) → gap_before (codes ".") p ++ seq_text word p ≡ dotted_text word p
  dot_apart done = refl
  dot_apart (message w k rest) = refl
  dot_apart (choice w arms rest) = refl
  dot_apart (repeat w body rest) = refl

behind_some : (gap : List ℕ) (is : List Item) → 0 < length is → gap_before gap (place_of is) ≡ gap
behind_some gap [] h = absurd (omega arith)
behind_some gap (Send k ∷ is) h = refl
behind_some gap (Recv k ∷ is) h = refl
behind_some gap (Select arms ∷ is) h = refl
behind_some gap (Branch arms ∷ is) h = refl
behind_some gap (OutLoop body ∷ is) h = refl
behind_some gap (InLoop body ∷ is) h = refl

-- the gap is written, and the items are ahead
pub behind_put : (word : ℕ → List ℕ) (gap : List ℕ) (is : List Item) (n : ℕ) (p : Place) (old now : List ℕ) → length is ≡ n → (n == 0) ≡ false → place_of is ≡ p → now ≡ old ++ gap
    → StillTo old (gap_before gap p ++ seq_text word p) (seq_text word (place_of is)) now
behind_put word gap is n p old now long some same e =
    let more : 0 < length is = grind (arith, nat_tests) in
    let whole : gap_before gap p ++ seq_text word p ≡ gap ++ seq_text word (place_of is) =
    sym (ap (λ q. gap_before gap q ++ seq_text word q) same) ∙ ap (λ g. g ++ seq_text word (place_of is)) (behind_some gap is more) in
    let first = ahead_is old (gap_before gap p ++ seq_text word p) _ (gap ++ seq_text word (place_of is)) old whole (none_yet old (gap_before gap p ++ seq_text word p)) in
    one_more old (gap_before gap p ++ seq_text word p) gap (seq_text word (place_of is)) old now first e

pub no_word_at : (ws : List (List ℕ)) (n : ℕ) → None ≡ slice_get ws n → entry_of ws n ≡ []
no_word_at [] zero e = refl
no_word_at [] (suc n) e = refl
no_word_at (w ∷ ws) zero e = cc
no_word_at (w ∷ ws) (suc n) e = no_word_at ws n e
