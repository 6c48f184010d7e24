use Rattle.std.proofs.Common.{◌≡◌, ◌∙◌, ◌∷◌, None, ap, arith, inl, refl, subst, sym}
use Rattle.sj_work.specs.Views.{stop_of}
use Rattle.sj_work.specs.Worked.{kept_stop}
use Rattle.sj_work.proofs.LaneLaws.{laws}
use Rattle.sj_seat_laws.specs.Calls.{SeatedAt}
use Rattle.sj_seat.specs.Holding.{ends_at}
use Rattle.sj_seat.specs.Views.{may_of, seat_of}
use Rattle.sj_seat.specs.Went.{SeatWork}
use Rattle.sj_seat.specs.Wishes.{open_wished}
use Rattle.sj_seat.proofs.AfterLemmas.{done_after, keeps_later, nothing_done}
use Rattle.sj_seat.proofs.CountLemmas.{counted_itself, counted_later}
use Rattle.sj_seat.proofs.guest.Guest.attempt_open.Goals as goal

pub returns-in-Some : goal.returns-in-Some
returns-in-Some g c =
    let ol = g.met.O.OutLane g.world.𝓛 g.world.𝓜 g.world.𝓡 (λ s x. x, λ x. x, λ x. x, λ x. x) in
    let il = g.met.I.InLane g.world.𝓛 g.world.𝓜 g.world.𝓡 (λ s x. x, λ x. x, λ x. x, λ x. x) in
    let k = laws g.O.OutLane g.I.InLane ol.same_itself ol.same_later il.same_itself il.same_later in
    let a = c.args.self.now in
    record {
      ok = λ file rest parties. tt;
      err = λ file rest parties. nothing_done k file (seat_of rest a) (seat_of rest a) a.worker refl;
      ends = tt;
      opened = tt;
      rests = record { ends = refl; calls = refl; may = refl };
      keeps = record { party = refl; parties = refl; connects = refl; table = refl; clock = omega arith };
      bounds = record { texts = refl; looks = refl };
      counts = counted_itself k a.worker;
      cause = inl c.in-Some.ensures.some;
      waits = λ is. absurd (cc is);
    }

pub returns-then-is_err : goal.returns-then-is_err
returns-then-is_err g c =
    let ol = g.met.O.OutLane g.world.𝓛 g.world.𝓜 g.world.𝓡 (λ s x. x, λ x. x, λ x. x, λ x. x) in
    let il = g.met.I.InLane g.world.𝓛 g.world.𝓜 g.world.𝓡 (λ s x. x, λ x. x, λ x. x, λ x. x) in
    let k = laws g.O.OutLane g.I.InLane ol.same_itself ol.same_later il.same_itself il.same_later in
    let a = c.args.self.now in
    record {
      ok = λ file rest parties. tt;
      err = λ file rest parties.
          let after : SeatedAt = record { ends = ends_at a.table c.reserve.new.self.items; steps = a.calls; calls = rest; may = may_of a } in
          nothing_done k file (seat_of rest a) after a.worker (λ i. record { ends = ends_at a.table (c.reserve.ensures.items i); steps = a.calls; calls = rest; may = may_of a });
      ends = tt;
      opened = tt;
      rests = record { ends = ap (ends_at a.table) c.reserve.ensures.items; calls = refl; may = refl };
      keeps = record { party = refl; parties = refl; connects = refl; table = refl; clock = omega arith };
      bounds = record { texts = refl; looks = refl };
      counts = counted_itself k a.worker;
      cause = tt;
      waits = λ is. absurd (cc is);
    }

pub returns-in-Ok-clause-ok : goal.returns-in-Ok-clause-ok
returns-in-Ok-clause-ok g c =
    let ol = g.met.O.OutLane g.world.𝓛 g.world.𝓜 g.world.𝓡 (λ s x. x, λ x. x, λ x. x, λ x. x) in
    let il = g.met.I.InLane g.world.𝓛 g.world.𝓜 g.world.𝓡 (λ s x. x, λ x. x, λ x. x, λ x. x) in
    let k = laws g.O.OutLane g.I.InLane ol.same_itself ol.same_later il.same_itself il.same_later in
    let a = c.args.self.now in
    let m = c.make_open.new.self in
    let b = c.settle.new.self in
    let h = c.in-Ok.ensures in
    let kept : kept_stop (stop_of m.worker) ≡ None = ap kept_stop h.stop ∙ c.stopped.ensures.none c.in_default.is in
    λ file rest parties.
    let before = seat_of (open_wished c.args.wish ∷ rest) a in
    let made : SeatWork g.O.OutLane g.I.InLane file before (seat_of rest m) a.worker m.worker =
    subst (λ (s : SeatedAt). SeatWork g.O.OutLane g.I.InLane file s (seat_of rest m) a.worker m.worker)
    (λ i. record { ends = ends_at a.table (c.reserve.ensures.items i); steps = a.calls; calls = open_wished c.args.wish ∷ rest; may = may_of a }) (h.ok file rest parties) in
    done_after k file before (seat_of rest m) (seat_of rest b) a.worker m.worker b.worker kept h.keeps.party made (c.settle.ensures.went file rest (parties ∙ sym h.keeps.parties))

pub returns-in-Ok-clause-counts : goal.returns-in-Ok-clause-counts
returns-in-Ok-clause-counts g c =
    let ol = g.met.O.OutLane g.world.𝓛 g.world.𝓜 g.world.𝓡 (λ s x. x, λ x. x, λ x. x, λ x. x) in
    let il = g.met.I.InLane g.world.𝓛 g.world.𝓜 g.world.𝓡 (λ s x. x, λ x. x, λ x. x, λ x. x) in
    let k = laws g.O.OutLane g.I.InLane ol.same_itself ol.same_later il.same_itself il.same_later in
    counted_later k c.args.self.now.worker c.make_open.new.self.worker c.settle.new.self.worker c.in-Ok.ensures.counts c.settle.ensures.counts

pub returns-in-Ok-clause-keeps : goal.returns-in-Ok-clause-keeps
returns-in-Ok-clause-keeps g c =
    keeps_later c.args.self.now.worker.node c.make_open.new.self.worker.node c.settle.new.self.worker.node c.in-Ok.ensures.keeps c.settle.ensures.keeps

pub returns-in-Ok-clause-bounds : goal.returns-in-Ok-clause-bounds
returns-in-Ok-clause-bounds g c =
    let h = c.in-Ok.ensures in
    record { texts = c.settle.ensures.bounds.texts ∙ h.bounds.texts; looks = c.settle.ensures.bounds.looks ∙ h.bounds.looks }

pub returns-in-Err : goal.returns-in-Err
returns-in-Err g c =
    let a = c.args.self.now in
    let m = c.make_open.new.self in
    let h = c.in-Err.ensures in
    record {
      ok = λ file rest parties. tt;
      err = λ file rest parties. subst (λ (s : SeatedAt). SeatWork g.O.OutLane g.I.InLane file s (seat_of rest m) a.worker m.worker)
          (λ i. record { ends = ends_at a.table (c.reserve.ensures.items i); steps = a.calls; calls = rest; may = may_of a }) (h.err file rest parties);
      ends = tt;
      opened = tt;
      rests = record { ends = h.rests.ends ∙ ap (ends_at a.table) c.reserve.ensures.items; calls = h.rests.calls; may = h.rests.may };
      keeps = h.keeps;
      bounds = record { texts = h.bounds.texts; looks = h.bounds.looks };
      counts = h.counts;
      cause = c.refused.ensures (open_wished c.args.wish) h.cause;
      waits = λ is. ap kept_stop h.stop ∙ c.stopped.ensures.none c.in_default.is;
    }
