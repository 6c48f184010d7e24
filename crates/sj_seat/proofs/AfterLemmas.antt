-- A guest's work, one piece after the other.
use Rattle.std.proofs.Common.{◌≡◌, ◌∙◌, ℕ, ◌<◌, max, length, List, Option, Some, None, Result, Ok, Err, IfOk, OnOk, OnErr, refl, ap, sym, subst, arith}
use Rattle.sj_base.specs.declared.EndId.{EndId}
use Rattle.sj_base.specs.declared.Msg.{Msg}
use Rattle.sj_joined_lemmas.proofs.LaneWorkLemmas.{lane_work_itself, lane_work_later}
use Rattle.sj_lang.specs.FileAt.{FileAt}
use Rattle.sj_lang.specs.Place.{Place, done}
use Rattle.sj_lane.specs.declared.lane.OutLane.{Ghosts as OutLane}
use Rattle.sj_lane.specs.declared.lane.InLane.{Ghosts as InLane}
use Rattle.sj_node.specs.declared.node.Node.{Node}
use Rattle.sj_node.specs.declared.seats.Call as seats
use Rattle.sj_node.specs.Reading.{parties_of, party_of}
use Rattle.sj_rules.specs.Limits.{limit_of_steps}
use Rattle.sj_rules.specs.Work.{LaneWork, LostAt}
use Rattle.sj_seat_laws.specs.Calls.{Call, SeatedAt}
use Rattle.sj_seat_laws.specs.Guards.{opened_place, want_of_call, with_opened}
use Rattle.sj_seat_laws.specs.SeatedPlay.{seated_play}
use Rattle.sj_work.specs.Causes.{Loses, MayLose}
use Rattle.sj_work.specs.Views.{stop_of}
use Rattle.sj_work.specs.Worked.{kept_stop}
use Rattle.sj_work.specs.declared.worker.Stop.{Stop}
use Rattle.sj_work.specs.declared.worker.Stop.TheVariants as stops
use Rattle.sj_work.specs.declared.worker.Worker.{Worker}
use Rattle.sj_work.proofs.LaneLaws.{LaneLaws}
use Rattle.sj_table.specs.declared.table.Spot.{Spot}
use Rattle.sj_table.specs.Spots.{place_in}
use Rattle.sj_seat.specs.Asked.{IsGuarded, IsOpenable, asked, want_in, want_opening}
use Rattle.sj_seat.specs.Counted.{Counted}
use Rattle.sj_seat.specs.Views.{ends_of, laned_at, may_of, node_of, seat_of, worker_of}
use Rattle.sj_seat.specs.Went.{Keeps, Rests, SameBounds, SeatWork, Went}
use Rattle.sj_seat.specs.Wishes.{open_wished}
use Rattle.sj_seat.specs.declared.guest.Guest.{Guest}
use Rattle.sj_seat.specs.declared.refusal.SeatRefusal.{SeatRefusal}
use Rattle.sj_seat.specs.declared.wish.OpenWish.{OpenWish}
use Rattle.sj_seat.proofs.CountLemmas.{CountedBy, counted_itself, counted_later}

-- with a stop that doesn't stay no frame is lost
no_loss : (o : Option Stop) → kept_stop o ≡ None → MayLose o → ⊥
no_loss None kept lost = lost
no_loss (Some stops.NoMemory) kept lost = absurd (cc kept)
no_loss (Some stops.Unfit) kept lost = absurd (cc kept)
no_loss (Some stops.Fault) kept lost = lost
no_loss (Some stops.Finished) kept lost = lost
no_loss (Some stops.Idle) kept lost = lost
no_loss (Some stops.AtLimit) kept lost = lost
no_loss (Some stops.ClockEnd) kept lost = lost

module _ {O I : Type 0} (k : LaneLaws O I) (file : FileAt) where
  abbrev Done : (s t : SeatedAt) → (a b : Worker O I) → Type 0
  Done s t a b = SeatWork k.outward k.inward file s t a b

  abbrev Lanes : (party : ℕ) → (s t : SeatedAt) → (a b : Worker O I) → Option (LostAt Place) → Type 0
  Lanes party s t a b lost = LaneWork k.outward.pushed k.outward.same k.inward.popped k.inward.same (seated_play file) max done party (laned_at s a) (laned_at t b) lost

  -- nothing is done
  pub nothing_done : (s t : SeatedAt) (a : Worker O I) → t ≡ s → Done s t a a
  nothing_done s t a same = subst (λ (u : SeatedAt). Done s u a a) (sym same) (record {
    lost = None;
    work = lane_work_itself k.outward.pushed k.outward.same k.inward.popped k.inward.same k.out_itself k.out_later k.in_itself k.in_later (seated_play file) max done a.node.party (laned_at s a);
    loses = tt;
  })

  none_lost : (party : ℕ) (s t : SeatedAt) (a b : Worker O I) (lost : Option (LostAt Place)) → kept_stop (stop_of b) ≡ None → Loses lost (stop_of b) → Lanes party s t a b lost → Lanes party s t a b None
  none_lost party s t a b None kept loses w = w
  none_lost party s t a b (Some l) kept loses w = absurd (no_loss (stop_of b) kept loses)

  -- one piece after another
  pub then_done : (s t u : SeatedAt) (a b c : Worker O I) → b.node.party ≡ a.node.party → Lanes a.node.party s t a b None → Done t u b c → Done s u a c
  then_done s t u a b c party x y = record {
    lost = y.lost;
    work = lane_work_later k.outward.pushed k.outward.same k.inward.popped k.inward.same k.out_itself k.out_later k.in_itself k.in_later (seated_play file) max done a.node.party (laned_at s a) (laned_at t b) (laned_at u c) y.lost
        x (subst (λ (p : ℕ). Lanes p t u b c y.lost) party y.work);
    loses = y.loses;
  }

  -- where the first one left no stop that stays
  pub done_after : (s t u : SeatedAt) (a b c : Worker O I) → kept_stop (stop_of b) ≡ None → b.node.party ≡ a.node.party → Done s t a b → Done t u b c → Done s u a c
  done_after s t u a b c kept party x y = then_done s t u a b c party (none_lost a.node.party s t a b x.lost kept x.loses x.work) y

  pub all_told : (s t : SeatedAt) (a b : Worker O I) → kept_stop (stop_of b) ≡ None → Done s t a b → Lanes a.node.party s t a b None
  all_told s t a b kept x = none_lost a.node.party s t a b x.lost kept x.loses x.work

-- ---- guests

pub keeps_later : (a b c : Node) → Keeps a b → Keeps b c → Keeps a c
keeps_later a b c x y = record {
  party = y.party ∙ x.party;
  parties = y.parties ∙ x.parties;
  connects = y.connects ∙ x.connects;
  table = y.table ∙ x.table;
  clock = let p = x.clock in let q = y.clock in omega arith;
}

-- a guest whose code called nothing meanwhile, and that lost nothing
pub record Waited {O I G : Type 0} (outward : OutLane O) (inward : InLane I) (old new : Guest O I G) : Type 0 where
  pub keeps : Keeps (node_of old) (node_of new)
  pub rests : Rests old new
  pub bounds : SameBounds old new
  pub counts : Counted outward inward (worker_of old) (worker_of new)
  pub work : (file : FileAt) (rest : List Call) → length file.parties ≡ parties_of (node_of old)
      → LaneWork outward.pushed outward.same inward.popped inward.same (seated_play file) max done (party_of (node_of old)) (laned_at (seat_of rest old) (worker_of old)) (laned_at (seat_of rest new) (worker_of new)) None

module _ {O I G : Type 0} (k : LaneLaws O I) where
  abbrev WaitedBy : (old new : Guest O I G) → Type 0
  WaitedBy old new = Waited k.outward k.inward old new

  abbrev WentBy : FileAt → (before after : List Call) → (old new : Guest O I G) → Type 0
  WentBy file before after old new = Went k.outward k.inward file before after old new

  rests_later : (a b c : Guest O I G) → Rests a b → Rests b c → Rests a c
  rests_later a b c x y = record { ends = y.ends ∙ x.ends; calls = y.calls ∙ x.calls; may = y.may ∙ x.may }

  seats_rest : (a b : Guest O I G) (rest : List Call) → Rests a b → seat_of rest b ≡ seat_of rest a
  seats_rest a b rest x = λ i. record { ends = x.ends i; steps = x.calls i; calls = rest; may = x.may i }

  pub waited_none : (a : Guest O I G) → WaitedBy a a
  waited_none a = record {
    keeps = record { party = refl; parties = refl; connects = refl; table = refl; clock = omega arith };
    rests = record { ends = refl; calls = refl; may = refl };
    bounds = record { texts = refl; looks = refl };
    counts = counted_itself k a.worker;
    work = λ file rest parties. lane_work_itself k.outward.pushed k.outward.same k.inward.popped k.inward.same k.out_itself k.out_later k.in_itself k.in_later (seated_play file) max done a.worker.node.party (laned_at (seat_of rest a) a.worker);
  }

  -- the call that comes next
  pub waited_then : (a l m : Guest O I G) (file : FileAt) (before after : List Call) → WaitedBy a l → length file.parties ≡ parties_of (node_of a)
      → (length file.parties ≡ parties_of (node_of l) → WentBy file before after l m) → WentBy file before after a m
  waited_then a l m file before after x parties y =
      then_done k file (seat_of before a) (seat_of before l) (seat_of after m) a.worker l.worker m.worker x.keeps.party (x.work file before parties) (y (parties ∙ sym x.keeps.parties))

  pub waited_keeps : (a l m : Guest O I G) → WaitedBy a l → Keeps (node_of l) (node_of m) → Keeps (node_of a) (node_of m)
  waited_keeps a l m x y = keeps_later (node_of a) (node_of l) (node_of m) x.keeps y

  pub waited_rests : (a l m : Guest O I G) → WaitedBy a l → Rests l m → Rests a m
  waited_rests a l m x y = rests_later a l m x.rests y

  pub bounds_later : (a b c : Guest O I G) → SameBounds a b → SameBounds b c → SameBounds a c
  bounds_later a b c x y = record { texts = y.texts ∙ x.texts; looks = y.looks ∙ x.looks }

  pub waited_bounds : (a l m : Guest O I G) → WaitedBy a l → SameBounds l m → SameBounds a m
  waited_bounds a l m x y = bounds_later a l m x.bounds y

  -- what waits on, as far as no stop stays
  pub waited_more : (a l m : Guest O I G) → WaitedBy a l → Keeps (node_of l) (node_of m) → Rests l m → SameBounds l m → CountedBy k l.worker m.worker → kept_stop (stop_of (worker_of m)) ≡ None
      → ((file : FileAt) (rest : List Call) → length file.parties ≡ parties_of (node_of l) → WentBy file rest rest l m) → WaitedBy a m
  waited_more a l m x keeps rests bounds counts kept went = record {
    keeps = waited_keeps a l m x keeps;
    rests = waited_rests a l m x rests;
    bounds = waited_bounds a l m x bounds;
    counts = counted_later k a.worker l.worker m.worker x.counts counts;
    work = λ file rest parties. all_told k file (seat_of rest a) (seat_of rest m) a.worker m.worker kept (waited_then a l m file rest rest x parties (went file rest));
  }

  -- the call is guarded still
  pub waited_guarded : (a l : Guest O I G) (call : seats.Call) → WaitedBy a l → IsGuarded a.table (may_of a) (ends_of a) a.calls call → IsGuarded l.table (may_of l) (ends_of l) l.calls call
  waited_guarded a l call x h =
      let table : l.table ≡ a.table = l.same ∙ x.keeps.table ∙ sym a.same in
      record {
        want = ap (λ t. want_in t call) table ∙ h.want ∙ sym (λ i. want_of_call (x.rests.may i) (x.rests.ends i) (asked call));
        few = subst (λ (n : ℕ). n < limit_of_steps) (sym x.rests.calls) h.few;
      }

  -- whatever an attempt answers
  pub waited_ok : {T : Type 0} (a l m : Guest O I G) (r : Result T SeatRefusal) (file : FileAt) (before after : List Call) → WaitedBy a l → length file.parties ≡ parties_of (node_of a)
      → (length file.parties ≡ parties_of (node_of l) → OnOk r (WentBy file before after l m)) → OnOk r (WentBy file before after a m)
  waited_ok a l m (Err e) file before after x parties y = tt
  waited_ok a l m (Ok o) file before after x parties y = waited_then a l m file before after x parties y

  pub waited_err : {T : Type 0} (a l m : Guest O I G) (r : Result T SeatRefusal) (file : FileAt) (before after : List Call) → WaitedBy a l → length file.parties ≡ parties_of (node_of a)
      → (length file.parties ≡ parties_of (node_of l) → OnErr r (WentBy file before after l m)) → OnErr r (WentBy file before after a m)
  waited_err a l m (Err e) file before after x parties y = waited_then a l m file before after x parties y
  waited_err a l m (Ok o) file before after x parties y = tt

  -- the ends, where a session was opened
  pub waited_ends : (a l m : Guest O I G) (call : Call) (r : Result EndId SeatRefusal) → WaitedBy a l → IfOk r (λ e. ends_of m ≡ with_opened (ends_of l) e (opened_place (may_of l) call))
      → IfOk r (λ e. ends_of m ≡ with_opened (ends_of a) e (opened_place (may_of a) call))
  waited_ends a l m call (Err d) x y = tt
  waited_ends a l m call (Ok e) x y = y ∙ (λ i. with_opened (x.rests.ends i) e (opened_place (x.rests.may i) call))

  -- it may be opened still
  pub waited_openable : (a l : Guest O I G) (wish : OpenWish) (spot : Spot) → WaitedBy a l → IsOpenable a.table (may_of a) (ends_of a) a.calls wish spot → IsOpenable l.table (may_of l) (ends_of l) l.calls wish spot
  waited_openable a l wish spot x h =
      let table : l.table ≡ a.table = l.same ∙ x.keeps.table ∙ sym a.same in
      record {
        begins = ap (λ os. opened_place os (open_wished wish)) x.rests.may ∙ h.begins ∙ ap (λ t. Some (place_in t spot)) (sym table);
        want = ap (λ t. want_opening (place_in t spot) wish) table ∙ h.want ∙ sym (λ i. want_of_call (x.rests.may i) (x.rests.ends i) (open_wished wish));
        few = subst (λ (n : ℕ). n < limit_of_steps) (sym x.rests.calls) h.few;
      }

  -- an attempt in vain, where no stop stays
  pub waited_vain : {T : Type 0} (a l m : Guest O I G) (r : Result T SeatRefusal) (e : SeatRefusal) → r ≡ Err e → WaitedBy a l → Keeps (node_of l) (node_of m) → OnErr r (Rests l m) → SameBounds l m
      → CountedBy k l.worker m.worker → kept_stop (stop_of (worker_of m)) ≡ None → ((file : FileAt) (rest : List Call) → length file.parties ≡ parties_of (node_of l) → OnErr r (WentBy file rest rest l m)) → WaitedBy a m
  waited_vain a l m (Ok o) e is x keeps rests bounds counts kept went = absurd (cc is)
  waited_vain a l m (Err d) e is x keeps rests bounds counts kept went = waited_more a l m x keeps rests bounds counts kept went
