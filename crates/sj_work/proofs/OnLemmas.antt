-- Pieces of a turn that go on after an event.
use Rattle.std.proofs.Common.{◌≡◌, ℕ, ◌<◌, None, ◌∙◌}
use Rattle.sj_node.specs.Node.{clock_of}
use Rattle.sj_work.specs.declared.worker.Worker.{Worker}
use Rattle.sj_work.specs.Turns.{IsGoing}
use Rattle.sj_work.specs.Views.{stop_of}
use Rattle.sj_work.proofs.LaneLaws.{LaneLaws, TurnedBy}
use Rattle.sj_work.proofs.LookLemmas.{rises_then}
use Rattle.sj_work.proofs.TurnLemmas.{going, turned_behind, went_of}

module _ {O I : Type 0} (k : LaneLaws O I) where
  -- there was an event, and the worker went on since
  pub record On (init now : Worker O I) : Type 0 where
    pub turns : (looks : ℕ) → TurnedBy k looks init now
    pub event : stop_of now ≡ None → clock_of init.node < clock_of now.node
    pub looks : now.looks ≡ init.looks

  -- it goes on from there
  pub on_goes : (init now : Worker O I) → On init now → stop_of now ≡ None → IsGoing now
  on_goes init now on none = going k 0 init now (on.turns 0) none

  -- one more piece
  pub on_more : (init now later : Worker O I) → On init now → stop_of now ≡ None
      → ((looks : ℕ) → TurnedBy k looks now later) → later.looks ≡ now.looks → On init later
  on_more init now later on none t looks = record {
    turns = λ l. turned_behind k l init now later (went_of k init now (on.turns 0) none) (t l);
    event = λ later_none. rises_then _ _ _ (on.event none) (t 0).went.clock;
    looks = looks ∙ on.looks;
  }
