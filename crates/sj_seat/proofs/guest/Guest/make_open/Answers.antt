use Rattle.std.proofs.Common.{◌≡◌, ◌∙◌, ◌∷◌, ◌+◌, ap, refl, sym, subst}
use Rattle.sj_seat_laws.specs.Calls.{SeatedAt}
use Rattle.sj_seat_laws.specs.Guards.{opened_place, with_opened}
use Rattle.sj_table.specs.Spots.{place_in}
use Rattle.sj_seat.specs.Asked.{want_opening}
use Rattle.sj_seat.specs.Holding.{ends_at}
use Rattle.sj_seat.specs.Views.{ends_of, may_of, seat_of}
use Rattle.sj_seat.specs.Went.{SeatWork}
use Rattle.sj_seat.specs.Wishes.{open_wished}
use Rattle.sj_seat.proofs.guest.Guest.make_open.Goals as goal

pub returns-in-Ok : goal.returns-in-Ok
returns-in-Ok g c =
    let a = c.args.self.now in
    let wish = c.args.wish in
    let e = c.in-Ok.end in
    let h = c.in-Ok.ensures in
    let ends : ends_at a.table c.hold.new.ends.items ≡ with_opened (ends_of a) e (opened_place (may_of a) (open_wished wish)) =
    c.hold.ensures ∙ sym (ap (with_opened (ends_of a) e) c.requires.guarded.begins) in
    record {
      ok = λ file rest parties.
          let before = seat_of (open_wished wish ∷ rest) a in
          subst (λ (t : SeatedAt). SeatWork g.O.OutLane g.I.InLane file before t a.worker c.do_open.new.worker)
          (λ i. record { ends = sym ends i; steps = a.calls + 1; calls = rest; may = may_of a })
          (h.ok file before parties (sym c.requires.guarded.want ∙ ap (λ t. want_opening (place_in t c.args.place) wish) a.same) c.requires.guarded.few);
      err = λ file rest parties. tt;
      ends = ends;
      opened = h.opened;
      rests = tt;
      keeps = h.keeps;
      bounds = record { texts = refl; looks = refl };
      counts = h.counts;
      stop = h.stop;
      cause = tt;
    }

pub returns-in-Err-clause-err : goal.returns-in-Err-clause-err
returns-in-Err-clause-err g c = λ file rest parties. c.in-Err.ensures.err file (seat_of rest c.args.self.now) parties

pub returns-in-Err-clause-rests : goal.returns-in-Err-clause-rests
returns-in-Err-clause-rests g c = record { ends = refl; calls = refl; may = refl }

pub returns-in-Err-clause-keeps : goal.returns-in-Err-clause-keeps
returns-in-Err-clause-keeps g c = c.in-Err.ensures.keeps

pub returns-in-Err-clause-counts : goal.returns-in-Err-clause-counts
returns-in-Err-clause-counts g c = c.in-Err.ensures.counts

pub returns-in-Err-clause-stop : goal.returns-in-Err-clause-stop
returns-in-Err-clause-stop g c = c.in-Err.ensures.stop

pub returns-in-Err-clause-bounds : goal.returns-in-Err-clause-bounds
returns-in-Err-clause-bounds g c = record { texts = refl; looks = refl }
