-- The lanes of all parties: the lane from p to q, and what holds of every pair.
use Rattle.std.specs.Prelude.{◌≡◌, ◌⊎◌, ℕ, ◌<◌, ◌≤◌, List, [], ◌++◌, length, Option, Some, None, Bool, true, vec_len, slice_get}
use mathlib.Core.List.{IsPrefix}
use Rattle.sj_lang.specs.Place.{Place}
use Rattle.sj_rules.specs.Frames.{FrameAt}
use Rattle.sj_end.specs.declared.frames.Frame.{Frame}
use Rattle.sj_lane.specs.Told.{told_list}
use Rattle.sj_lane.specs.declared.lane.Lanes.{Lanes}

module _ {O I : Type 0} where
  abbrev pub out_in : Option (Lanes O I) → ℕ → Option O
  out_in None q = None
  out_in (Some l) q = slice_get l.outs.items q

  abbrev pub in_in : Option (Lanes O I) → ℕ → Option I
  in_in None q = None
  in_in (Some l) q = slice_get l.ins.items q

  -- the lane on which p pushes to q
  abbrev pub out_at : List (Lanes O I) → ℕ → ℕ → Option O
  out_at lanes p q = out_in (slice_get lanes p) q

  -- the lane on which q pops from p
  abbrev pub in_at : List (Lanes O I) → ℕ → ℕ → Option I
  in_at lanes p q = in_in (slice_get lanes q) p

  abbrev pub IsSquare : List (Lanes O I) → Type 0
  IsSquare lanes = (p : ℕ) (l : Lanes O I) → slice_get lanes p ≡ Some l → (vec_len l.outs ≡ length lanes) × (vec_len l.ins ≡ length lanes)

  -- the two lanes from p to q are the ends of one link, for every p and q
  abbrev pub AllJoined : (O → I → Type 0) → List (Lanes O I) → Type 0
  AllJoined J lanes = (p q : ℕ) (o : O) (i : I) → out_at lanes p q ≡ Some o → in_at lanes p q ≡ Some i → J o i

-- where both lists are reported, the popped one is a prefix of the pushed one
abbrev pub ToldPrefix : Option (List (FrameAt Place)) → Option (List (FrameAt Place)) → Type 0
ToldPrefix popped pushed = (xs ys : List (FrameAt Place)) → popped ≡ Some xs → pushed ≡ Some ys → IsPrefix xs ys

module _ {O I : Type 0} (pushed : O → Option (List (FrameAt Place))) (popped : I → Option (List (FrameAt Place))) (vain_o : O → ℕ) (vain_i : I → ℕ) where
  -- in lanes that `make` answers nothing was pushed, popped or tried in vain
  pub record IsFresh (tells : Bool) (lanes : List (Lanes O I)) : Type 0 where
    pub outs : (p q : ℕ) (o : O) → out_at lanes p q ≡ Some o → (tells ≡ true → pushed o ≡ Some []) × (vain_o o ≡ 0)
    pub ins : (p q : ℕ) (i : I) → in_at lanes p q ≡ Some i → (tells ≡ true → popped i ≡ Some []) × (vain_i i ≡ 0)

  abbrev pub SameOut : Option O → Option O → Type 0
  SameOut None None = Unit {0}
  SameOut None (Some o) = ⊥
  SameOut (Some o) None = ⊥
  SameOut (Some o) (Some p) = (pushed p ≡ pushed o) × (vain_o p ≡ vain_o o)

  abbrev pub SameIn : Option I → Option I → Type 0
  SameIn None None = Unit {0}
  SameIn None (Some i) = ⊥
  SameIn (Some i) None = ⊥
  SameIn (Some i) (Some j) = (popped j ≡ popped i) × (vain_i j ≡ vain_i i)

  -- each lane has the list and the count that it had
  pub record SameLists (before after : List (Lanes O I)) : Type 0 where
    pub outs : (p q : ℕ) → SameOut (out_at before p q) (out_at after p q)
    pub ins : (p q : ℕ) → SameIn (in_at before p q) (in_at after p q)

  -- the lists and counts that links keep are those of these lanes, and what was popped is a prefix
  -- of what was pushed
  pub record KeepsLists (lanes : List (Lanes O I)) (sent got : ℕ → ℕ → List (FrameAt Place)) (vain_out vain_in : ℕ → ℕ → ℕ) : Type 0 where
    pub outs : (p q : ℕ) (o : O) → out_at lanes p q ≡ Some o → (pushed o ≡ Some (sent p q)) × (vain_o o ≡ vain_out p q)
    pub ins : (p q : ℕ) (i : I) → in_at lanes p q ≡ Some i → (popped i ≡ Some (got p q)) × (vain_i i ≡ vain_in p q)
    pub prefix : (p q : ℕ) → p < length lanes → q < length lanes → IsPrefix (got p q) (sent p q)

module _ {O I : Type 0} (pushed : O → Option (List (FrameAt Place))) (popped : I → Option (List (FrameAt Place))) where
  -- on the link from p to q was pushed what was popped, and then these frames
  pub record IsRest (lanes : List (Lanes O I)) (p q : ℕ) (frames : List Frame) : Type 0 where
    pub out : O
    pub into : I
    pub there : out_at lanes p q ≡ Some out
    pub here : in_at lanes p q ≡ Some into
    pub got : List (FrameAt Place)
    pub popped_is : popped into ≡ Some got
    pub pushed_is : pushed out ≡ Some (got ++ told_list frames)

module _ {O I : Type 0} (faults_o : O → ℕ) (faults_i : I → ℕ) where
  -- no lane met a fault
  pub record NoFault (lanes : List (Lanes O I)) : Type 0 where
    pub outs : (p q : ℕ) (o : O) → out_at lanes p q ≡ Some o → faults_o o ≡ 0
    pub ins : (p q : ℕ) (i : I) → in_at lanes p q ≡ Some i → faults_i i ≡ 0

  -- some lane met one
  abbrev pub HasFault : List (Lanes O I) → Type 0
  HasFault lanes =
      ((p q : ℕ) × (o : O) × (out_at lanes p q ≡ Some o) × (0 < faults_o o))
      ⊎ ((p q : ℕ) × (i : I) × (in_at lanes p q ≡ Some i) × (0 < faults_i i))

  -- no lane's count of faults fell
  pub record NoneFell (before after : List (Lanes O I)) : Type 0 where
    pub outs : (p q : ℕ) (a b : O) → out_at before p q ≡ Some a → out_at after p q ≡ Some b → faults_o a ≤ faults_o b
    pub ins : (p q : ℕ) (a b : I) → in_at before p q ≡ Some a → in_at after p q ≡ Some b → faults_i a ≤ faults_i b
