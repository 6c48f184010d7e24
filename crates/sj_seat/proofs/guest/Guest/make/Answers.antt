use Rattle.sj_seat.proofs.CauseLemmas.{same_want}
use Rattle.sj_seat.proofs.guest.Guest.make.Goals as goal
use Rattle.std.proofs.Common.{◌≡◌, ◌∙◌, ◌∷◌, ◌+◌, ap, refl, sym, subst}
use Rattle.sj_seat_laws.specs.Calls.{SeatedAt}
use Rattle.sj_seat_laws.specs.Guards.{ends_after}
use Rattle.sj_node.specs.Seats.{head_taken}
use Rattle.sj_seat.specs.Asked.{asked}
use Rattle.sj_seat.specs.Holding.{ends_at}
use Rattle.sj_seat.specs.Views.{ends_of, may_of, seat_of}
use Rattle.sj_seat.specs.Went.{SeatWork}

pub returns-in-Ok : goal.returns-in-Ok
returns-in-Ok g c =
    let a = c.args.self.now in
    let call = c.args.call in
    let n = a.worker.node in
    let taken = head_taken n call in
    let h = c.in-Ok.ensures in
    let ends : ends_at a.table c.go_on.new.ends.items ≡ ends_after (ends_of a) (asked call) taken = c.go_on.ensures ∙ ap (ends_after (ends_of a) (asked call)) h.taken in
    record {
      ok = λ file rest parties.
          let before = seat_of (asked call ∷ rest) a in
          subst (λ (t : SeatedAt). SeatWork g.O.OutLane g.I.InLane file before t a.worker c.do_call.new.worker)
          (λ i. record { ends = sym ends i; steps = a.calls + 1; calls = rest; may = may_of a })
          (h.ok file before parties (sym c.requires.guarded.want ∙ same_want n a.table call a.same) c.requires.guarded.few);
      err = λ file rest parties. tt;
      rests = tt;
      takes = h.takes;
      tells = h.tells;
      stays = tt;
      keeps = h.keeps;
      bounds = record { texts = refl; looks = refl };
      counts = h.counts;
      stop = h.stop;
      cause = tt;
    }

pub returns-in-Err-clause-err : goal.returns-in-Err-clause-err
returns-in-Err-clause-err g c = λ file rest parties. c.in-Err.ensures.err file (seat_of rest c.args.self.now) parties

pub returns-in-Err-clause-rests : goal.returns-in-Err-clause-rests
returns-in-Err-clause-rests g c = record { ends = refl; calls = refl; may = refl }

pub returns-in-Err-clause-stays : goal.returns-in-Err-clause-stays
returns-in-Err-clause-stays g c = c.in-Err.ensures.stays

pub returns-in-Err-clause-keeps : goal.returns-in-Err-clause-keeps
returns-in-Err-clause-keeps g c = c.in-Err.ensures.keeps

pub returns-in-Err-clause-counts : goal.returns-in-Err-clause-counts
returns-in-Err-clause-counts g c = c.in-Err.ensures.counts

pub returns-in-Err-clause-stop : goal.returns-in-Err-clause-stop
returns-in-Err-clause-stop g c = c.in-Err.ensures.stop

pub returns-in-Err-clause-bounds : goal.returns-in-Err-clause-bounds
returns-in-Err-clause-bounds g c = record { texts = refl; looks = refl }
