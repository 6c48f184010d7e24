-- What a worker does that has nothing to do of its own, as the laws see it beside the code.
use Rattle.std.proofs.Common.{◌≡◌, ◌∙◌, ℕ, length, Option, Some, None, refl, ap, sym, subst}
use Rattle.sj_lang.specs.FileAt.{FileAt}
use Rattle.sj_lang.specs.Place.{Place}
use Rattle.sj_node.specs.Node.{node_at, play_here, wants_of}
use Rattle.sj_node.specs.Play.{next_want, want_with}
use Rattle.sj_node.specs.Reading.{parties_of}
use Rattle.sj_rules.specs.Node as wanted
use Rattle.sj_rules.specs.Work.{LostAt}
use Rattle.sj_seat_laws.specs.Calls.{SeatedAt}
use Rattle.sj_semantics.specs.declared.Want.TheVariants as wants
use Rattle.sj_table.specs.Spots.{start_in}
use Rattle.sj_work.specs.Attended.{Attended, AttendedBy}
use Rattle.sj_work.specs.Laned.{laned}
use Rattle.sj_work.specs.Views.{stop_of}
use Rattle.sj_work.specs.Went.{Went}
use Rattle.sj_work.specs.Worked.{kept_stop}
use Rattle.sj_work.specs.declared.worker.Stop.{Stop}
use Rattle.sj_work.specs.declared.worker.Worker.{Worker}
use Rattle.sj_work.proofs.LaneLaws.{LaneLaws}
use Rattle.sj_work.proofs.WentLemmas.{went_itself}
use Rattle.sj_seat.specs.Logged.{last_act}
use Rattle.sj_seat.specs.Went.{Keeps, SeatWork}
use Rattle.sj_seat.proofs.IdleLemmas.{acts_stay, idle_work, work_stays}

-- so it went, whoever plays the party meanwhile
pub record Idled {O I : Type 0} (k : LaneLaws O I) (a b : Worker O I) : Type 0 where
  pub keeps : Keeps a.node b.node
  pub idle : wants_of b.node ≡ wants.Ended
  pub acts : last_act (laned b).log ≡ last_act (laned a).log
  pub work : (file : FileAt) (s : SeatedAt) → length file.parties ≡ parties_of a.node → SeatWork k.outward k.inward file s s a b

module _ {O I : Type 0} (k : LaneLaws O I) (a b : Worker O I) (idle : wants_of a.node ≡ wants.Ended) where
  ended : (play_here a.node).wants (node_at a.node).program ≡ wanted.ended
  ended = ap (want_with (start_in a.node.table)) idle

  keeps_so : (lost : Option (LostAt Place)) → Went k.outward k.inward lost a b → Keeps a.node b.node
  keeps_so lost w = record { party = w.party; parties = w.parties; connects = w.connects; table = w.table; clock = w.clock }

  idled_round : Attended k.outward k.inward a b → Idled k a b
  idled_round t = record {
    keeps = keeps_so t.lost t.went;
    idle = ap next_want (work_stays (play_here a.node) a.node.party (node_at a.node).program ended k.outward.pushed k.outward.same k.inward.popped k.inward.same (laned a) (laned b) t.lost refl t.went.work) ∙ idle;
    acts = acts_stay (play_here a.node) a.node.party (node_at a.node).program ended k.outward.pushed k.outward.same k.inward.popped k.inward.same (laned a) (laned b) t.lost refl t.went.work;
    work = λ file s parties. record {
      lost = t.lost;
      work = idle_work (play_here a.node) a.node.party (node_at a.node).program ended file refl (sym parties) s k.outward.pushed k.outward.same k.inward.popped k.inward.same (laned a) (laned b) t.lost refl t.went.work;
      loses = t.loses;
    };
  }

-- a worker that does nothing
pub itself : {O I : Type 0} (k : LaneLaws O I) (a : Worker O I) → wants_of a.node ≡ wants.Ended → Idled k a a
itself k a idle = record {
  keeps = keeps_so k a a idle None (went_itself k a a refl refl);
  idle = idle;
  acts = refl;
  work = λ file s parties. record {
    lost = None;
    work = idle_work (play_here a.node) a.node.party (node_at a.node).program (ended k a a idle) file refl (sym parties) s k.outward.pushed k.outward.same k.inward.popped k.inward.same (laned a) (laned a) None refl (went_itself k a a refl refl).work;
    loses = tt;
  };
}

-- a round of a party with nothing to do of its own
pub idled : {O I : Type 0} (k : LaneLaws O I) (a b : Worker O I) → wants_of a.node ≡ wants.Ended → AttendedBy k.outward k.inward (kept_stop (stop_of a)) a b → Idled k a b
idled k a b idle w = by (kept_stop (stop_of a)) w
  where
    by : (o : Option Stop) → AttendedBy k.outward k.inward o a b → Idled k a b
    by None x = idled_round k a b idle x.1
    by (Some stop) same = subst (Idled k a) (sym same) (itself k a idle)
