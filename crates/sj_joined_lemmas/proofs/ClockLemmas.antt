-- The clocks of a world are no larger than the number of entries of its history.
use Rattle.std.proofs.Common.{◌≡◌, ℕ, ◌+◌, ◌≤◌, List, [], ◌∷◌, ◌++◌, length, subst, arith}
use Rattle.std.specs.Prelude.{Bool, true, false, ◌&&◌, ◌==◌, if◌then◌else◌, Option, Some, None, map, max, option_map}
use Rattle.std.specs.List.{filter}
use Rattle.sj_rules.specs.Record.{Mail}
use Rattle.sj_rules.specs.Rows.{Worked}
use Rattle.sj_rules.specs.Node.{Play, NodeAt, acts, arrives}
use Rattle.sj_rules.specs.Frames.{FrameAt, frames_for}
use Rattle.sj_rules.specs.World.{WorldAt, Event, Act, Deliver, happens, delivery_of, after_event, with_lane}
use Rattle.sj_rules.specs.Within.{NoneAbove, ClocksWithin}
use Rattle.sj_rules.specs.Log.{LineAt}
use Rattle.sj_rules.specs.History.{IsLog}
use Rattle.sj_joined_lemmas.proofs.HistoryLemmas.{some_same}

-- nor than a larger clock
none_more : {P : Type 0} → (c d : ℕ) (frames : List (FrameAt P)) → c ≤ d → NoneAbove c frames → NoneAbove d frames
none_more c d [] low all = tt
none_more c d (f ∷ fs) low all = let first : f.clock ≤ c = all.0 in (omega arith, none_more c d fs low all.1)

-- of two lists, neither
none_joined : {P : Type 0} → (c : ℕ) (fs gs : List (FrameAt P)) → NoneAbove c fs → NoneAbove c gs → NoneAbove c (fs ++ gs)
none_joined c [] gs a b = b
none_joined c (f ∷ fs) gs a b = (a.0, none_joined c fs gs a.1 b)

-- the frames of one event
frames_within : {P : Type 0} → (c q clock : ℕ) (posts : List (Mail P)) → clock ≤ c → NoneAbove c (frames_for q clock posts)
frames_within c q clock [] low = tt
frames_within {P} c q clock (m ∷ ms) low = by (frames_within c q clock ms low) (q == m.party)
  where
    others : List (Mail P)
    others = filter (λ m. q == m.party) ms

    by : NoneAbove c (frames_for q clock ms) → (b : Bool) → NoneAbove c (map (λ m. record { clock = clock; body = m.body }) (if b then m ∷ others else others))
    by rest true = (low, rest)
    by rest false = rest

module _ {P Q : Type 0} (play : Play P Q) (pick : ℕ → ℕ → ℕ) where
  -- an event with a clock of at most one more
  event_within : (c : ℕ) (w : WorldAt P Q) (p clock : ℕ) (lanes : ℕ → ℕ → List (FrameAt P)) (done : Worked P (NodeAt P Q)) → ClocksWithin c w →
      ((a b : ℕ) → NoneAbove c (lanes a b)) → clock ≤ c + 1 → ClocksWithin (c + 1) (after_event w p clock lanes done)
  event_within c w p clock lanes done within lanes_within low = record { nodes = λ q. node q (q == p); lanes = λ a b. lane a b (a == p) }
    where
      node : (q : ℕ) (b : Bool) → (if b then record done.state { clock = clock } else w.nodes q).clock ≤ c + 1
      node q true = low
      node q false = let here : (w.nodes q).clock ≤ c = within.nodes q in omega arith

      lane : (a d : ℕ) (b : Bool) → NoneAbove (c + 1) (if b then lanes a d ++ frames_for d clock done.posts else lanes a d)
      lane a d true =
          none_joined (c + 1) (lanes a d) (frames_for d clock done.posts) (none_more c (c + 1) (lanes a d) (omega arith) (lanes_within a d))
          (frames_within (c + 1) d clock done.posts low)
      lane a d false = none_more c (c + 1) (lanes a d) (omega arith) (lanes_within a d)

  -- an act
  act_within : (c : ℕ) (w v : WorldAt P Q) (p : ℕ) (o : Option (Worked P (NodeAt P Q))) → ClocksWithin c w →
      option_map (after_event w p ((w.nodes p).clock + 1) w.lanes) o ≡ Some v → ClocksWithin (c + 1) v
  act_within c w v p None within e = absurd (cc e)
  act_within c w v p (Some done) within e =
      let low : (w.nodes p).clock ≤ c = within.nodes p in
      let same : after_event w p ((w.nodes p).clock + 1) w.lanes done ≡ v = some_same _ v e in
      subst (λ (u : WorldAt P Q). ClocksWithin (c + 1) u) same (event_within c w p ((w.nodes p).clock + 1) w.lanes done within within.lanes (omega arith))

  -- a frame that fits
  frame_within : (c : ℕ) (w v : WorldAt P Q) (p q : ℕ) (f : FrameAt P) (rest : List (FrameAt P)) (o : Option (Worked P (NodeAt P Q))) → ClocksWithin c w →
      NoneAbove c (f ∷ rest) → option_map (after_event w p (max (w.nodes p).clock f.clock + 1) (with_lane q p rest w.lanes)) o ≡ Some v → ClocksWithin (c + 1) v
  frame_within c w v p q f rest None within all e = absurd (cc e)
  frame_within c w v p q f rest (Some done) within all e =
      let low : (w.nodes p).clock ≤ c = within.nodes p in
      let first : f.clock ≤ c = all.0 in
      let same : after_event w p (max (w.nodes p).clock f.clock + 1) (with_lane q p rest w.lanes) done ≡ v = some_same _ v e in
      subst (λ (u : WorldAt P Q). ClocksWithin (c + 1) u) same
      (event_within c w p (max (w.nodes p).clock f.clock + 1) (with_lane q p rest w.lanes) done within (λ a b. lane a b ((a == q) && (b == p))) (omega arith))
    where
      lane : (a d : ℕ) (b : Bool) → NoneAbove c (if b then rest else w.lanes a d)
      lane a d true = all.1
      lane a d false = within.lanes a d

  -- a delivery
  delivery_within : (c : ℕ) (w v : WorldAt P Q) (p q : ℕ) (lane : List (FrameAt P)) → ClocksWithin c w → NoneAbove c lane →
      delivery_of play pick w p q lane ≡ Some v → ClocksWithin (c + 1) v
  delivery_within c w v p q [] within all e = absurd (cc e)
  delivery_within c w v p q (f ∷ rest) within all e = frame_within c w v p q f rest (arrives play.blank play.parties pick (w.nodes p) q f) within all e

  -- a step raises them by one at most
  pub step_within : (c : ℕ) (w v : WorldAt P Q) (p : ℕ) (event : Event) → ClocksWithin c w → happens play pick w p event ≡ Some v → ClocksWithin (c + 1) v
  step_within c w v p Act within e = act_within c w v p (acts play p (w.nodes p)) within e
  step_within c w v p (Deliver q) within e = delivery_within c w v p q (w.lanes q p) within (within.lanes q p) e

  -- so do the lines of a log, each by one
  pub log_within : (lines : List LineAt) (c : ℕ) (w v : WorldAt P Q) → ClocksWithin c w → IsLog play pick w lines v → ClocksWithin (c + length lines) v
  log_within [] c w v within a = subst (λ (u : WorldAt P Q). ClocksWithin (c + 0) u) a (let same : c + 0 ≡ c = omega arith in rw same within)
  log_within (l ∷ ls) c w v within a =
      let rest : ClocksWithin (c + 1 + length ls) v = log_within ls (c + 1) a.0 v (step_within c w a.0 l.party l.entry.event within a.1) a.3 in
      let same : c + 1 + length ls ≡ c + length (l ∷ ls) = omega arith in
      subst (λ n. ClocksWithin n v) same rest
