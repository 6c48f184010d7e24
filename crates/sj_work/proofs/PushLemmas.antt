-- Pushes to one party after the other.
use Rattle.std.proofs.Common.{◌≡◌, ◌⊎◌, ℕ, ◌+◌, ◌<◌, ◌≤◌, [], None, inl, inr, refl, sym, ◌∙◌, arith, subst}
use Rattle.std.proofs.lemmas.Bool.{cases_eq, cases_lt}
use Rattle.sj_node.specs.Outs.{waiting_in}
use Rattle.sj_node.specs.Reading.{outs_of, parties_of}
use Rattle.sj_work.specs.declared.worker.Worker.{Worker}
use Rattle.sj_work.specs.Counts.{RoseBy, Stood}
use Rattle.sj_work.specs.Turns.{IsGoing, Tried}
use Rattle.sj_work.specs.Views.{out_of, stop_of}
use Rattle.sj_work.specs.Went.{HasNoEvent, OutVain}
use Rattle.sj_work.proofs.CountLemmas.{on_later, rose_then, then_rose}
use Rattle.sj_work.proofs.LaneLaws.{LaneLaws, TurnedBy, WentBy}
use Rattle.sj_work.proofs.RestLemmas.{outbox_empty, rests_itself, rests_later}
use Rattle.sj_work.proofs.TurnLemmas.{going, turned_behind, turned_on, went_of}
use Rattle.sj_work.proofs.WentLemmas.{went_itself}

pub below : (q n : ℕ) → q < n + 1 → (q ≡ n → ⊥) → q < n
below q n lt not = omega arith

module _ {O I : Type 0} (k : LaneLaws O I) where
  -- some frames were pushed, and the worker goes on
  pub record Pushing (init now : Worker O I) : Type 0 where
    pub turns : (looks : ℕ) → TurnedBy k looks init now
    pub goes : IsGoing now
    pub rests : HasNoEvent init.node now.node
    pub looks : now.looks ≡ init.looks

  -- and the parties below that number were tried
  pub record Pushed (init now : Worker O I) (next : ℕ) : Type 0 where
    pub pushing : Pushing init now
    pub tried : (q : ℕ) → q < next → Tried k.outward.vain q init now

  pub pushing_none : (w : Worker O I) → IsGoing w → Pushing w w
  pushing_none w goes = record { turns = turned_on k w w (went_itself k w w refl refl) goes.stop goes.open_yet; goes = goes; rests = rests_itself w.node w.node refl; looks = refl }

  pub pushed_none : (w : Worker O I) → IsGoing w → Pushed w w 0
  pushed_none w goes = record { pushing = pushing_none w goes; tried = λ q lt. absurd (omega arith) }

  module _ (init now later : Worker O I) (p : Pushing init now) (t : (looks : ℕ) → TurnedBy k looks now later) (r : HasNoEvent now.node later.node) where
    -- one push more
    pub push_turns : (looks : ℕ) → TurnedBy k looks init later
    push_turns looks = turned_behind k looks init now later (went_of k init now (p.turns 0) p.goes.stop) (t looks)

    pub push_rests : HasNoEvent init.node later.node
    push_rests = rests_later init.node now.node later.node p.rests r

    pub push_tried : (q : ℕ) → Tried k.outward.vain q now later → Tried k.outward.vain q init later
    push_tried q tried waits =
        on_later k.outward.vain Stood (RoseBy 1) (RoseBy 1) (then_rose 1) (out_of init q) (out_of now q) (out_of later q) ((went_of k init now (p.turns 0) p.goes.stop).vain_out q) (tried waits)

    pub push_more : stop_of later ≡ None → later.looks ≡ now.looks → Pushing init later
    push_more none looks = record { turns = push_turns; goes = going k 0 now later (t 0) none; rests = push_rests; looks = looks ∙ p.looks }

  -- the pushes to one party more
  pub pushed_more : (init now later : Worker O I) (to : ℕ) → Pushed init now to → ((looks : ℕ) → TurnedBy k looks now later) → HasNoEvent now.node later.node → stop_of later ≡ None → later.looks ≡ now.looks
      → Tried k.outward.vain to now later → Pushed init later (to + 1)
  pushed_more init now later to p t r none looks tried = record { pushing = push_more init now later p.pushing t r none looks; tried = λ q lt. each q lt (cases_eq q to) }
    where
      after : WentBy k None now later
      after = went_of k now later (t 0) none

      each : (q : ℕ) → q < to + 1 → (q ≡ to) ⊎ (q ≡ to → ⊥) → Tried k.outward.vain q init later
      each q lt (inl is) = subst (λ n. Tried k.outward.vain n init later) (sym is) (push_tried init now later p.pushing t r to tried)
      each q lt (inr not) = λ waits.
          on_later k.outward.vain (RoseBy 1) Stood (RoseBy 1) (rose_then 1) (out_of init q) (out_of now q) (out_of later q) (p.tried q (below q to lt not) (r.boxes q waits)) (after.vain_out q)

  -- all parties were tried, where nothing waits for those after them
  pub all_tried : (init now : Worker O I) (next targets : ℕ) → Pushed init now next → targets ≤ next
      → ((q : ℕ) → targets ≤ q → q < parties_of init.node → waiting_in (outs_of init.node) q ≡ []) → OutVain k.outward.vain 1 init now
  all_tried init now next targets p all none q lt = each (cases_lt q targets)
    where
      each : (q < targets) ⊎ (targets ≤ q) → Tried k.outward.vain q init now
      each (inl less) = p.tried q (omega (arith, less, all))
      each (inr more) = λ waits. absurd (p.pushing.rests.boxes q waits (outbox_empty init.node q (none q more (subst (λ n. q < n) p.pushing.rests.parties lt))))
