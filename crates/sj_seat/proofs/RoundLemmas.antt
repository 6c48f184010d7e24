-- Rounds of a worker that has nothing to do of its own, one after the other.
use Rattle.std.proofs.Common.{◌≡◌, ◌∙◌, max, length, Option, Some, None, refl, ap, sym, subst}
use Rattle.sj_joined_lemmas.proofs.LaneWorkLemmas.{lane_work_itself}
use Rattle.sj_lang.specs.FileAt.{FileAt}
use Rattle.sj_lang.specs.Place.{done}
use Rattle.sj_node.specs.Node.{wants_of}
use Rattle.sj_node.specs.Reading.{parties_of}
use Rattle.sj_rules.specs.Work.{LaneWork}
use Rattle.sj_seat_laws.specs.Calls.{SeatedAt}
use Rattle.sj_seat_laws.specs.SeatedPlay.{seated_play}
use Rattle.sj_semantics.specs.declared.Want.TheVariants as wants
use Rattle.sj_work.specs.Laned.{laned}
use Rattle.sj_work.specs.Views.{stop_of}
use Rattle.sj_work.specs.Worked.{kept_stop}
use Rattle.sj_work.specs.declared.worker.Stop.{Stop}
use Rattle.sj_work.specs.declared.worker.Worker.{Worker}
use Rattle.sj_work.proofs.LaneLaws.{LaneLaws}
use Rattle.sj_seat.specs.Logged.{last_act}
use Rattle.sj_seat.specs.Views.{laned_at}
use Rattle.sj_seat.specs.Went.{Keeps}
use Rattle.sj_seat.proofs.AfterLemmas.{all_told, keeps_later, then_done}
use Rattle.sj_seat.proofs.CountLemmas.{CountedBy, counted_itself, counted_later}
use Rattle.sj_seat.proofs.WaitLemmas.{Idled, itself}

-- the stop that a round answers doesn't stay
pub kept_none : (o : Option Stop) (s : Stop) → o ≡ Some s → kept_stop (Some s) ≡ None → kept_stop o ≡ None
kept_none o s is none = ap kept_stop is ∙ none

module _ {O I : Type 0} (k : LaneLaws O I) where
  -- a worker that lost nothing, whoever plays the party meanwhile
  pub record Rounded (a b : Worker O I) : Type 0 where
    pub keeps : Keeps a.node b.node
    pub idle : wants_of b.node ≡ wants.Ended
    pub acts : last_act (laned b).log ≡ last_act (laned a).log
    pub counts : CountedBy k a b
    pub work : (file : FileAt) (s : SeatedAt) → length file.parties ≡ parties_of a.node
        → LaneWork k.outward.pushed k.outward.same k.inward.popped k.inward.same (seated_play file) max done a.node.party (laned_at s a) (laned_at s b) None

  pub rounded_none : (a : Worker O I) → wants_of a.node ≡ wants.Ended → Rounded a a
  rounded_none a idle = record {
    keeps = (itself k a idle).keeps;
    idle = idle;
    acts = refl;
    counts = counted_itself k a;
    work = λ file s parties. lane_work_itself k.outward.pushed k.outward.same k.inward.popped k.inward.same k.out_itself k.out_later k.in_itself k.in_later (seated_play file) max done a.node.party (laned_at s a);
  }

  -- one round more
  pub rounded_then : (a b c : Worker O I) → Rounded a b → Idled k b c → Idled k a c
  rounded_then a b c x y = record {
    keeps = keeps_later a.node b.node c.node x.keeps y.keeps;
    idle = y.idle;
    acts = y.acts ∙ x.acts;
    work = λ file s parties. then_done k file s s s a b c x.keeps.party (x.work file s parties) (y.work file s (parties ∙ sym x.keeps.parties));
  }

  -- after which the worker may go on
  pub rounded_more : (a b c : Worker O I) → Rounded a b → Idled k b c → CountedBy k b c → kept_stop (stop_of c) ≡ None → Rounded a c
  rounded_more a b c x y counts kept = let all = rounded_then a b c x y in record {
    keeps = all.keeps;
    idle = all.idle;
    acts = all.acts;
    counts = counted_later k a b c x.counts counts;
    work = λ file s parties. all_told k file s s a c kept (all.work file s parties);
  }
