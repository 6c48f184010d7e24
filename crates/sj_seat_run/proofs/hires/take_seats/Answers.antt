use Rattle.std.proofs.Common.{◌≡◌, ◌∙◌, ℕ, [], ◌∷◌, ◌++◌, List, Some, None, is_some, length, length-append, ap, sym, subst}
use Rattle.sj_check.specs.Held.{file_in}
use Rattle.sj_lane.specs.declared.lane.Lanes.{Lanes}
use Rattle.sj_lang.specs.FileView.{file_of}
use Rattle.sj_seat_run.specs.Runners.{AreSeated, HasBegun}
use Rattle.sj_seat_run.specs.Seats.{seats_by}
use Rattle.sj_seat_run.specs.declared.runners.Runner.{Runner}
use Rattle.sj_seat_run.proofs.ListLemmas.{all_yielded, many_yielded, one_yielded}
use Rattle.sj_seat_run.proofs.BegunLemmas.{one_seated}
use Rattle.sj_seat_run.proofs.SeatLemmas.{none_left, none_next, one_taken, some_next}
use Rattle.sj_seat_run.proofs.hires.take_seats.Goals as goal
use Rattle.sj_seat_run.proofs.hires.take_seats.Goals.{in-None-next, in-Some-next}

pub loop-own-preserved : goal.loop-own-preserved
loop-own-preserved g c =
    let file = file_of (file_in c.args.accepted.now) in
    let t = c.args.table.now in
    let codes = c.args.codes.items in
    let yielded = c.loop-own.yielded in
    let own = c.in-Some.own in
    let runner = c.in_ok-runner.runner in
    let so = c.loop-own.invariant in
    let rest = c.next.new.self.rest.items in
    let left = one_yielded yielded c.loop-own.own-iterator.rest.items c.args.lanes.items own rest so.left c.in-Some.ensures.steps.0 in
    let came = c.next-in-loop-own in
    let few : length c.loop-own.codes.rest.items ≡ c.loop-own.codes.rest.len = sym c.loop-own.codes.rest.ok.0 in
    let none : came.result ≡ None → length c.loop-own.codes.rest.items ≡ 0 = λ is. few ∙ none_left came.result c.loop-own.codes.rest.len is came.ensures.variant.1 in
    let coded : is_some c.match-next-2.code ≡ seats_by codes (length yielded) =
    elim c.match-next-2.branch [
      | in-Some-next w ↦ some_next codes c.loop-own.codes.rest.items came.new.self.rest.items (length yielded) came.result c.match-next-2.code so.codes came.ensures.items (w.in-Some-next.is ∙ ap Some (sym w.code-is))
      | in-None-next w ↦ ap is_some w.code-is ∙ none_next codes c.loop-own.codes.rest.items (length yielded) so.codes (none w.in-None-next.is)
    ] in
    record {
      number = c.saturating_add-party.ensures ∙ many_yielded yielded rest c.args.lanes.items own c.loop-own.party left c.requires.few so.number;
      left = left;
      codes = one_taken codes c.loop-own.codes.rest.items came.new.self.rest.items (length yielded) (length (yielded ++ own ∷ [])) came.result so.codes came.ensures.items none (length-append yielded (own ∷ []));
      seated =
          subst (λ (rs : List (Runner g.row.O.Denot g.row.I.Denot g.row.G.Denot g.row.C.Denot)). AreSeated file t (seats_by codes) (yielded ++ own ∷ []) (length (yielded ++ own ∷ [])) rs) (sym c.in_ok-push.ensures.items)
          (one_seated file t (seats_by codes) yielded c.loop-own.runners.items own runner so.seated (subst (λ (n : ℕ). HasBegun file t n own runner) so.number c.in_ok-runner.ensures.begun)
          (c.in_ok-runner.ensures.coded ∙ coded));
    }

pub returns : goal.returns
returns g c =
    let so = c.loop-own.invariant in
    let rest = c.loop-own.own-iterator.rest in
    subst (λ (ls : List (Lanes g.row.O.Denot g.row.I.Denot)). AreSeated (file_of (file_in c.args.accepted.now)) c.args.table.now (seats_by c.args.codes.items) ls (length ls) c.loop-own.runners.items)
    (all_yielded c.loop-own.yielded rest.items c.args.lanes.items so.left (sym rest.ok.0 ∙ c.in-None.ensures.steps.0)) so.seated
