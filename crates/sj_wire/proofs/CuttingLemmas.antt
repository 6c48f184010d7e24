-- However a stream is cut into pieces, its frames are the same.
use Rattle.std.proofs.Common.{◌≡◌, ℕ, suc, List, [], ◌∷◌, ◌++◌, length, refl, sym, ap, subst, ◌∙◌, append_assoc}
use Rattle.std.specs.List.{flat_map, AllByRecursion}
use Rattle.std.proofs.lemmas.List.{append-nil, take_at}
use Rattle.std.proofs.lemmas.List.Concat.{flat_map-cons}
use Rattle.sj_rules.specs.Frames.{FrameAt}
use Rattle.sj_table.specs.declared.table.Spot.{Spot}
use Rattle.sj_wire.specs.Front.{Front, Cut, Refused, Whole, front_of}
use Rattle.sj_wire.specs.Spelling.{spelling}
use Rattle.sj_wire.specs.Stream.{IsBytes, Call, Feed, Next, fed_in, answered, decoded, IsOver}
use Rattle.sj_wire.proofs.NumberLemmas.{IsBytes-take}
use Rattle.sj_wire.proofs.FrameReadLemmas.{front_again}
use Rattle.sj_wire.proofs.FrameTakesLemmas.{IsRead, front_takes}
use Rattle.sj_wire.proofs.StreamLemmas.{prefix_free}

IsBytes-front : (xs ys : List ℕ) → IsBytes (xs ++ ys) → IsBytes xs
IsBytes-front xs ys fits = subst (λ (t : List ℕ). IsBytes t) (take_at xs ys (length xs) refl) (IsBytes-take (length xs) (xs ++ ys) fits)

-- the stream is the spellings of frames, and what is unused
record Splits (stream : List ℕ) (x : List (FrameAt Spot) × List ℕ) : Type 0 where
  whole : stream ≡ flat_map spelling x.0 ++ x.1
  read : AllByRecursion IsRead x.0

IsBytes-behind : (xs ys : List ℕ) → IsBytes (xs ++ ys) → IsBytes ys
IsBytes-behind [] ys fits = fits
IsBytes-behind (x ∷ xs) ys fits = IsBytes-behind xs ys (λ i. fits (suc i))

-- what the other calls answer splits what they get
abbrev SplitBy : List Call → Type 0
SplitBy calls = (unused : List ℕ) → IsBytes (unused ++ fed_in calls) → Splits (unused ++ fed_in calls) (decoded calls unused)

next_splits : (calls : List Call) → SplitBy calls → (unused : List ℕ) (front : Front) → front_of unused ≡ front → IsBytes (unused ++ fed_in calls) → Splits (unused ++ fed_in calls) (answered (decoded calls) front unused)
next_splits calls others unused Cut is fits = others unused fits
next_splits calls others unused (Refused w) is fits = others unused fits
next_splits calls others unused (Whole f behind) is fits =
    let t = front_takes (IsBytes-front unused (fed_in calls) fits) is in
    let parts : unused ++ fed_in calls ≡ spelling f ++ (behind ++ fed_in calls) = ap (λ (b : List ℕ). b ++ fed_in calls) t.0 ∙ append_assoc (spelling f) behind (fed_in calls) in
    let s = others behind (IsBytes-behind (spelling f) (behind ++ fed_in calls) (subst (λ (b : List ℕ). IsBytes b) parts fits)) in
    let x = decoded calls behind in
    record {
      whole = parts ∙ ap (λ (b : List ℕ). spelling f ++ b) s.whole ∙ sym (append_assoc (spelling f) (flat_map spelling x.0) x.1) ∙ ap (λ (b : List ℕ). b ++ x.1) (sym (flat_map-cons spelling f x.0));
      read = (t.1, s.read);
    }

splits : (calls : List Call) → SplitBy calls
unfolding fed_in decoded
splits [] unused fits = record { whole = append-nil unused; read = tt }
splits (Feed piece ∷ calls) unused fits =
    let parts = append_assoc unused piece (fed_in calls) in
    subst (λ (t : List ℕ). Splits t (decoded calls (unused ++ piece))) parts (splits calls (unused ++ piece) (subst (λ (t : List ℕ). IsBytes t) (sym parts) fits))
splits (Next ∷ calls) unused fits = next_splits calls (splits calls) unused (front_of unused) refl fits

over_is_not_whole : {front : Front} {f : FrameAt Spot} {r : List ℕ} → front ≡ Whole f r → IsOver front → ⊥
over_is_not_whole is over = subst (λ (x : Front). IsOver x) is over

-- a stream is one list of frames, up to what is no frame
one_reading : (fs gs : List (FrameAt Spot)) (x y : List ℕ) → AllByRecursion IsRead fs → AllByRecursion IsRead gs → IsOver (front_of x) → IsOver (front_of y) → flat_map spelling fs ++ x ≡ flat_map spelling gs ++ y → (fs ≡ gs) × (x ≡ y)
one_reading [] [] x y af ag ox oy same = (refl, same)
one_reading [] (g ∷ gs) x y af ag ox oy same =
    let parts : x ≡ spelling g ++ (flat_map spelling gs ++ y) = same ∙ ap (λ (b : List ℕ). b ++ y) (flat_map-cons spelling g gs) ∙ append_assoc (spelling g) (flat_map spelling gs) y in
    absurd (over_is_not_whole (ap front_of parts ∙ front_again g (flat_map spelling gs ++ y) ag.0.spelt) ox)
one_reading (f ∷ fs) [] x y af ag ox oy same =
    let parts : y ≡ spelling f ++ (flat_map spelling fs ++ x) = sym same ∙ ap (λ (b : List ℕ). b ++ x) (flat_map-cons spelling f fs) ∙ append_assoc (spelling f) (flat_map spelling fs) x in
    absurd (over_is_not_whole (ap front_of parts ∙ front_again f (flat_map spelling fs ++ x) af.0.spelt) oy)
one_reading (f ∷ fs) (g ∷ gs) x y af ag ox oy same =
    let a : flat_map spelling (f ∷ fs) ++ x ≡ spelling f ++ (flat_map spelling fs ++ x) = ap (λ (b : List ℕ). b ++ x) (flat_map-cons spelling f fs) ∙ append_assoc (spelling f) (flat_map spelling fs) x in
    let b : flat_map spelling (g ∷ gs) ++ y ≡ spelling g ++ (flat_map spelling gs ++ y) = ap (λ (b : List ℕ). b ++ y) (flat_map-cons spelling g gs) ∙ append_assoc (spelling g) (flat_map spelling gs) y in
    let p = prefix_free f g (flat_map spelling fs ++ x) (flat_map spelling gs ++ y) af.0.spelt ag.0.spelt (sym a ∙ same ∙ b) in
    let first : f ≡ g = sym af.0.same ∙ p.0 ∙ ag.0.same in
    let others = one_reading fs gs x y af.1 ag.1 ox oy p.1 in
    (rw (first, others.0) refl, others.1)

-- the frames that are answered are those of the bytes that were fed
pub stream_is : (calls : List Call) → IsBytes (fed_in calls) → (fed_in calls ≡ flat_map spelling (decoded calls []).0 ++ (decoded calls []).1) × AllByRecursion IsRead (decoded calls []).0
stream_is calls fits = let s = splits calls [] fits in (s.whole, s.read)

pub any_cutting : (calls others : List Call) → IsBytes (fed_in calls) → fed_in calls ≡ fed_in others → IsOver (front_of (decoded calls []).1) → IsOver (front_of (decoded others []).1) → decoded calls [] ≡ decoded others []
any_cutting calls others fits same over over' =
    let s = splits calls [] fits in
    let t = splits others [] (subst (λ (b : List ℕ). IsBytes b) same fits) in
    let r = one_reading (decoded calls []).0 (decoded others []).0 (decoded calls []).1 (decoded others []).1 s.read t.read over over' (sym s.whole ∙ same ∙ t.whole) in
    pair_is r.0 r.1
  where
    pair_is : {x y : List (FrameAt Spot) × List ℕ} → x.0 ≡ y.0 → x.1 ≡ y.1 → x ≡ y
    pair_is a b = λ i. (a i, b i)
