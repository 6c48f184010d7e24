-- What the lanes of a worker counted, one piece after the other.
use Rattle.std.proofs.Common.{◌≡◌, ◌∙◌, ℕ, ◌≤◌, inl, inr, Option, Some, None, refl, sym, subst, arith}
use Rattle.std.specs.Prelude.{slice_get, ◌⊎◌}
use Rattle.sj_lang.specs.Place.{Place}
use Rattle.sj_rules.specs.Work.{LostAt}
use Rattle.sj_lane.specs.declared.lane.Lanes.{Lanes}
use Rattle.sj_work.specs.Attended.{AttendCause, Attended, AttendedBy}
use Rattle.sj_work.specs.Causes.{MetFault}
use Rattle.sj_work.specs.Counts.{OnLane, SomeRose, Stands}
use Rattle.sj_work.specs.Views.{in_of, out_of, stop_of}
use Rattle.sj_work.specs.Worked.{kept_stop}
use Rattle.sj_work.specs.declared.worker.Stop.{Stop}
use Rattle.sj_work.specs.declared.worker.Stop.TheVariants as stops
use Rattle.sj_work.specs.declared.worker.Worker.{Worker}
use Rattle.sj_work.proofs.LaneLaws.{LaneLaws}
use Rattle.sj_seat.specs.Counted.{Counted}

module _ {L : Type 0} (count : L → ℕ) where
  stands_itself : (o : Option L) → OnLane count Stands o o
  stands_itself None = tt
  stands_itself (Some a) = omega arith

  stands_later : (a b c : Option L) → OnLane count Stands a b → OnLane count Stands b c → OnLane count Stands a c
  stands_later None None None x y = tt
  stands_later None None (Some c) x y = absurd y
  stands_later None (Some b) c x y = absurd x
  stands_later (Some a) None c x y = absurd x
  stands_later (Some a) (Some b) None x y = absurd y
  stands_later (Some a) (Some b) (Some c) x y = omega (arith, x, y)

  -- what is there later was there before
  lane_before : (a b : Option L) (y : L) → OnLane count Stands a b → b ≡ Some y → (x : L) × (a ≡ Some x) × (count x ≤ count y)
  lane_before None None y x is = absurd (cc is)
  lane_before None (Some b) y x is = absurd x
  lane_before (Some a) None y x is = absurd x
  lane_before (Some a) (Some b) y x is = let e : b ≡ y = cc is in (a, refl, subst (λ z. count a ≤ count z) e x)

  lane_after : (a b : Option L) (x : L) → OnLane count Stands a b → a ≡ Some x → (y : L) × (b ≡ Some y) × (count x ≤ count y)
  lane_after None b x s is = absurd (cc is)
  lane_after (Some a) None x s is = absurd s
  lane_after (Some a) (Some b) x s is = let e : a ≡ x = cc is in (b, refl, subst (λ z. count z ≤ count b) e s)

  rose_earlier : (a b c : ℕ → Option L) → ((q : ℕ) → OnLane count Stands (a q) (b q)) → SomeRose count b c → SomeRose count a c
  rose_earlier a b c stands (q, x, y, before, now, rose) =
      let w = lane_before (a q) (b q) x (stands q) before in
      (q, w.0, y, w.1, now, omega (arith, w.2, rose))

  rose_on : (a b c : ℕ → Option L) → ((q : ℕ) → OnLane count Stands (b q) (c q)) → SomeRose count a b → SomeRose count a c
  rose_on a b c stands (q, x, y, before, now, rose) =
      let w = lane_after (b q) (c q) y (stands q) now in
      (q, x, w.0, before, w.1, omega (arith, w.2, rose))

module _ {O I : Type 0} (k : LaneLaws O I) where
  abbrev pub CountedBy : (a b : Worker O I) → Type 0
  CountedBy a b = Counted k.outward k.inward a b

  abbrev Met : (a b : Worker O I) → Type 0
  Met a b = MetFault k.outward.faults k.inward.faults a b

  -- nothing is counted
  pub counted_itself : (a : Worker O I) → CountedBy a a
  counted_itself a = record {
    outs = λ q. stands_itself k.outward.faults (out_of a q);
    ins = λ q. stands_itself k.inward.faults (in_of a q);
    fault = λ is. inl is;
  }

  -- nor where lanes and stop stay
  pub counted_alone : (a b : Worker O I) → b.lanes ≡ a.lanes → stop_of b ≡ stop_of a → CountedBy a b
  counted_alone a b lanes stop = record {
    outs = λ q. subst (λ (l : Lanes O I). OnLane k.outward.faults Stands (out_of a q) (slice_get l.outs.items q)) (sym lanes) (stands_itself k.outward.faults (out_of a q));
    ins = λ q. subst (λ (l : Lanes O I). OnLane k.inward.faults Stands (in_of a q) (slice_get l.ins.items q)) (sym lanes) (stands_itself k.inward.faults (in_of a q));
    fault = λ is. inl (sym stop ∙ is);
  }

  met_earlier : (a b c : Worker O I) → CountedBy a b → Met b c → Met a c
  met_earlier a b c x (inl rose) = inl (rose_earlier k.outward.faults (out_of a) (out_of b) (out_of c) x.outs rose)
  met_earlier a b c x (inr rose) = inr (rose_earlier k.inward.faults (in_of a) (in_of b) (in_of c) x.ins rose)

  met_on : (a b c : Worker O I) → CountedBy b c → Met a b → Met a c
  met_on a b c y (inl rose) = inl (rose_on k.outward.faults (out_of a) (out_of b) (out_of c) y.outs rose)
  met_on a b c y (inr rose) = inr (rose_on k.inward.faults (in_of a) (in_of b) (in_of c) y.ins rose)

  met_before : (a b c : Worker O I) → CountedBy b c → (stop_of a ≡ Some stops.Fault) ⊎ Met a b → (stop_of a ≡ Some stops.Fault) ⊎ Met a c
  met_before a b c y (inl was) = inl was
  met_before a b c y (inr met) = inr (met_on a b c y met)

  met_later : (a b c : Worker O I) → CountedBy a b → CountedBy b c → (stop_of b ≡ Some stops.Fault) ⊎ Met b c → (stop_of a ≡ Some stops.Fault) ⊎ Met a c
  met_later a b c x y (inl was) = met_before a b c y (x.fault was)
  met_later a b c x y (inr met) = inr (met_earlier a b c x met)

  -- one piece after another
  pub counted_later : (a b c : Worker O I) → CountedBy a b → CountedBy b c → CountedBy a c
  counted_later a b c x y = record {
    outs = λ q. stands_later k.outward.faults (out_of a q) (out_of b q) (out_of c q) (x.outs q) (y.outs q);
    ins = λ q. stands_later k.inward.faults (in_of a q) (in_of b q) (in_of c q) (x.ins q) (y.ins q);
    fault = λ is. met_later a b c x y (y.fault is);
  }

  -- a round that met a fault
  met_fault : (lost : Option (LostAt Place)) (a b : Worker O I) (s : Option Stop) → AttendCause k.outward k.inward s lost a b → s ≡ Some stops.Fault → Met a b
  met_fault lost a b s cause is = subst (λ (t : Option Stop). AttendCause k.outward k.inward t lost a b) is cause

  counted_attended : (a b : Worker O I) → Attended k.outward k.inward a b → CountedBy a b
  counted_attended a b t = record {
    outs = t.went.faults_out;
    ins = t.went.faults_in;
    fault = λ is. inr (met_fault t.lost a b (stop_of b) t.cause is);
  }

  -- a round of a party with nothing to do of its own
  pub counted_round : (a b : Worker O I) → AttendedBy k.outward k.inward (kept_stop (stop_of a)) a b → CountedBy a b
  counted_round a b w = by (kept_stop (stop_of a)) w
    where
      by : (o : Option Stop) → AttendedBy k.outward k.inward o a b → CountedBy a b
      by None x = counted_attended a b x.1
      by (Some stop) same = subst (CountedBy a) (sym same) (counted_itself a)
