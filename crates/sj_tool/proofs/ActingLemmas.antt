-- The acts of lines, done one line after another.
use Rattle.std.proofs.Common.{◌≡◌, ◌∙◌, ℕ, ◌+◌, ◌<◌, ◌≤◌, List, [], ◌∷◌, ◌++◌, Option, Some, None, map, drop, get_or, length, slice_get, ap, sym, refl, add-one}
use Rattle.std.proofs.Math.Seq.{drop-cons}
use Rattle.std.proofs.lemmas.List.{drop_all}
use Rattle.std.proofs.lemmas.Option.{slice_get_within}
use Rattle.sj_end.specs.declared.note.Line.{Line}
use Rattle.sj_semantics.specs.declared.State.TheVariants as states
use Rattle.sj_semantics.specs.Program.{Program}
use Rattle.sj_semantics.specs.Run.{after_acts}
use Rattle.sj_semantics.specs.State.{state_if, state_of}
use Rattle.sj_semantics.specs.World.{World, act_of}
use Rattle.sj_semantics_laws.proofs.RunLemmas.{between}
use Rattle.sj_semantics_laws.proofs.StateLemmas.{act_is_ready}
use Rattle.sj_rules.specs.Events.{acts_by}
use Rattle.sj_rules.specs.World.{Event, Act, Deliver}
use Rattle.sj_end.specs.Lines.{event_at, line_at}
use Rattle.sj_tool.specs.Acting.{IsReadyFor}
use Rattle.sj_tool.specs.Runs.{actors}

-- ---- a party that is ready is there

ready_if : (w : World) (p : ℕ) (o : Option Program) → state_if w p o ≡ states.Ready → (g : Program) × (o ≡ Some g)
ready_if w p None h = let no : ⊥ = cc in absurd no
ready_if w p (Some g) h = (g, refl)

pub ready_is_there : (w : World) (p : ℕ) → state_of w p ≡ states.Ready → p < length w.parties
ready_is_there w p h = let r = ready_if w p (slice_get w.parties p) h in slice_get_within w.parties p r.0 r.1

-- ---- the acts of a line and of those after it

-- the first of them is ready
pub ready_first : (event : Event) (p : ℕ) (w z : World) (rest : List ℕ) → after_acts w (acts_by event p ++ rest) ≡ Some z → IsReadyFor w event p
ready_first Act p w z rest h = let b = between (λ x. after_acts x rest) (act_of w p) z h in act_is_ready w b.world p b.before
ready_first (Deliver q) p w z rest h = tt

-- and then the others are done
pub done_first : (event : Event) (p : ℕ) (w v z : World) (rest : List ℕ) → after_acts w (acts_by event p) ≡ Some v → after_acts w (acts_by event p ++ rest) ≡ Some z → after_acts v rest ≡ Some z
done_first Act p w v z rest first all =
    let b = between (λ x. after_acts x rest) (act_of w p) z all in
    let m = between (λ x. after_acts x []) (act_of w p) v first in
    let step : Some b.world ≡ Some m.world = sym b.before ∙ m.before in
    let there : Some m.world ≡ Some v = m.afterwards in
    let same : b.world ≡ v = cc in
    ap (λ x. after_acts x rest) (sym same) ∙ b.afterwards
done_first (Deliver q) p w v z rest first all =
    let there : Some w ≡ Some v = first in
    let same : w ≡ v = cc in
    ap (λ x. after_acts x rest) (sym same) ∙ all

-- the acts of the lines from one on are its own and those after it
from_there : (lines : List Line) (k : ℕ) (d : Line) → k < length lines
    → actors (map line_at (drop k lines)) ≡ acts_by (event_at (get_or lines k d).entry.event) (get_or lines k d).party ++ actors (map line_at (drop (k + 1) lines))
from_there lines k d lt =
    let there : drop k lines ≡ get_or lines k d ∷ drop (k + 1) lines = drop-cons lines k d lt ∙ ap (λ n. get_or lines k d ∷ drop n lines) (sym (add-one k)) in
    ap (λ t. actors (map line_at t)) there

module _ (lines : List Line) (k : ℕ) (d : Line) (lt : k < length lines) (w z : World) (ahead : after_acts w (actors (map line_at (drop k lines))) ≡ Some z) where
  split : after_acts w (acts_by (event_at (get_or lines k d).entry.event) (get_or lines k d).party ++ actors (map line_at (drop (k + 1) lines))) ≡ Some z
  split = ap (after_acts w) (sym (from_there lines k d lt)) ∙ ahead

  -- the next line can be done
  pub ready_next : IsReadyFor w (event_at (get_or lines k d).entry.event) (get_or lines k d).party
  ready_next = ready_first (event_at (get_or lines k d).entry.event) (get_or lines k d).party w z (actors (map line_at (drop (k + 1) lines))) split

  -- and where it is done, those after it are ahead
  pub done_next : (v : World) → after_acts w (acts_by (event_at (get_or lines k d).entry.event) (get_or lines k d).party) ≡ Some v → after_acts v (actors (map line_at (drop (k + 1) lines))) ≡ Some z
  done_next v done = done_first (event_at (get_or lines k d).entry.event) (get_or lines k d).party w v z (actors (map line_at (drop (k + 1) lines))) done split

-- after the last line nothing is ahead
pub done_all : (lines : List Line) (k : ℕ) (w z : World) → length lines ≤ k → after_acts w (actors (map line_at (drop k lines))) ≡ Some z → w ≡ z
done_all lines k w z over ahead =
    let there : Some w ≡ Some z = sym (ap (λ t. after_acts w (actors (map line_at t))) (drop_all k lines over)) ∙ ahead in
    cc
