use Rattle.std.proofs.Common.{◌∙◌, max, List, map, refl, sym, ap, subst, arith}
use Rattle.sj_check.specs.Held.{file_in}
use Rattle.sj_end.specs.Lines.{line_at}
use Rattle.sj_lane.specs.declared.lane.Lanes.{Lanes}
use Rattle.sj_lane.specs.Square.{AllJoined, HasFault, IsSquare}
use Rattle.sj_lang.specs.FileAt.{FileAt}
use Rattle.sj_lang.specs.FileView.{file_of}
use Rattle.sj_rules.specs.Log.{IsJoined, LineAt}
use Rattle.sj_work.specs.declared.worker.Stop.TheVariants as stops
use Rattle.sj_work.specs.declared.worker.Worker.{Worker}
use Rattle.sj_core.proofs.StopLemmas.{error_is}
use Rattle.sj_seat_told_laws.specs.SeatsHistory.{IsSeatsHistory}
use Rattle.sj_seats.specs.Openings.{opened_by}
use Rattle.sj_seats.specs.Seated.{callers_of, core_of, kept_file}
use Rattle.sj_run.specs.Workers.{NoneStopped, SomeStopped, logs_in}
use Rattle.sj_seat_run.specs.Seats.{seats_by}
use Rattle.sj_seat_run.proofs.LogLemmas.{as_many, logs_joined, logs_ordered}
use Rattle.sj_seat_run.proofs.RanLemmas.{all_rising, has_fault, rose_from}
use Rattle.sj_seat_run.proofs.RefusalLemmas.{no_link_fault, replay_cause}
use Rattle.sj_seat_run.proofs.runs.run_seated.Goals as goal

pub back-requires-clause-square : goal.back-requires-clause-square
back-requires-clause-square g c =
    subst (λ (ls : List (Lanes g.row.L-Out.Denot g.row.L-In.Denot)). IsSquare ls) (sym c.in_ok-remains.ensures.lanes) c.in_ok-parties.ensures.ran.ran.square

pub back-requires-clause-joined : goal.back-requires-clause-joined
back-requires-clause-joined g c =
    subst (λ (ls : List (Lanes g.row.L-Out.Denot g.row.L-In.Denot)). AllJoined g.L.Links.joined ls) (sym c.in_ok-remains.ensures.lanes) c.in_ok-parties.ensures.ran.ran.ends

pub join_logs-requires-clause-parties : goal.join_logs-requires-clause-parties
join_logs-requires-clause-parties g c =
    let few = c.in_ok-parties.ensures.few in
    let logs = as_many c.in_ok-parties.parties.workers.items c.in_ok-remains.remains.logs.items c.in_ok-remains.ensures.logs in
    omega (arith, few, logs)

pub join_logs-requires-clause-order : goal.join_logs-requires-clause-order
join_logs-requires-clause-order g c =
    logs_ordered c.in_ok-parties.parties.workers.items c.in_ok-remains.remains.logs.items c.in_ok-remains.ensures.logs
    (all_rising g.L.Out.OutLane g.L.In.InLane (file_of (file_in c.args.accepted.now)) c.args.looks (g.L.Links.tells c.args.links.now) g.L.Links.joined (seats_by c.args.codes.items)
    c.in_ok-parties.parties.workers.items c.in_ok-parties.ensures.ran.ran)

pub returns-then-faulty-clause-link_fault : goal.returns-then-faulty-clause-link_fault
returns-then-faulty-clause-link_fault g c =
    λ is.
    rose_from _ _ _ c.in_ok-parties.ensures.faults
    (c.back.ensures.raised
    (subst (λ (ls : List (Lanes g.row.L-Out.Denot g.row.L-In.Denot)). HasFault g.L.Out.OutLane.faults g.L.In.InLane.faults ls) (sym c.in_ok-remains.ensures.lanes)
    (has_fault g.L.Out.OutLane g.L.In.InLane (file_of (file_in c.args.accepted.now)) c.args.looks (g.L.Links.tells c.args.links.now) g.L.Links.joined (seats_by c.args.codes.items)
    c.in_ok-parties.parties.workers.items c.in_ok-parties.ensures.ran.ran
    (subst (λ (ws : List (Worker g.row.L-Out.Denot g.row.L-In.Denot)). SomeStopped ws stops.Fault) c.deref.ensures.value (c.if-faulty.ensures.some refl)))))

pub returns-clause-logged : goal.returns-clause-logged
returns-clause-logged g c =
    let workers = c.in_ok-parties.parties.workers.items in
    record {
      workers = workers;
      ran = c.in_ok-parties.ensures.ran.ran;
      faultless = subst (λ (ws : List (Worker g.row.L-Out.Denot g.row.L-In.Denot)). NoneStopped ws stops.Fault) c.deref.ensures.value (c.if-faulty.ensures.none refl);
      fits = subst (λ (ws : List (Worker g.row.L-Out.Denot g.row.L-In.Denot)). NoneStopped ws stops.Unfit) c.deref-2.ensures.value (c.if-unfit.ensures.none refl);
      remembers = subst (λ (ws : List (Worker g.row.L-Out.Denot g.row.L-In.Denot)). NoneStopped ws stops.NoMemory) c.deref-3.ensures.value (c.if-short.ensures.none refl);
      joins =
          subst (λ (ls : List LineAt). IsJoined (logs_in workers) ls) (sym c.in-Ok.ensures.history)
          (logs_joined workers c.in_ok-remains.remains.logs.items c.in_ok-remains.ensures.logs (map line_at c.in_ok-lines.lines.items) c.in_ok-lines.ensures);
    }

pub returns-clause-asked : goal.returns-clause-asked
returns-clause-asked g c =
    let workers = c.in_ok-parties.parties.workers.items in
    record {
      logged = record {
        workers = workers;
        ran = c.in_ok-parties.ensures.ran.ran;
        faultless = subst (λ (ws : List (Worker g.row.L-Out.Denot g.row.L-In.Denot)). NoneStopped ws stops.Fault) c.deref.ensures.value (c.if-faulty.ensures.none refl);
        fits = subst (λ (ws : List (Worker g.row.L-Out.Denot g.row.L-In.Denot)). NoneStopped ws stops.Unfit) c.deref-2.ensures.value (c.if-unfit.ensures.none refl);
        remembers = subst (λ (ws : List (Worker g.row.L-Out.Denot g.row.L-In.Denot)). NoneStopped ws stops.NoMemory) c.deref-3.ensures.value (c.if-short.ensures.none refl);
        joins =
            subst (λ (ls : List LineAt). IsJoined (logs_in workers) ls) (sym c.in-Ok.ensures.history)
            (logs_joined workers c.in_ok-remains.remains.logs.items c.in_ok-remains.ensures.logs (map line_at c.in_ok-lines.lines.items) c.in_ok-lines.ensures);
      };
      so = λ p w at e. c.in-Ok.ensures.opened p e ∙ c.in_ok-parties.ensures.ran.so p w at e;
    }

pub returns-clause-seats : goal.returns-clause-seats
returns-clause-seats g c = λ q. c.in-Ok.ensures.seats q ∙ ap (λ cs. seats_by cs q) c.deref-4.ensures.value

pub returns-in-Err-clause-link_fault : goal.returns-in-Err-clause-link_fault
returns-in-Err-clause-link_fault g c =
    λ is. absurd (no_link_fault (file_of (file_in c.args.accepted.now)) (seats_by c.deref-4.result.now) (opened_by c.in_ok-parties.parties.opened.items) (map line_at c.in_ok-lines.lines.items) c.in-Err.refusal c.in-Err.ensures.cause (error_is _ _ is))

pub returns-in-Err-clause-cause : goal.returns-in-Err-clause-cause
returns-in-Err-clause-cause g c =
    let workers = c.in_ok-parties.parties.workers.items in
    replay_cause g.L.Out.OutLane g.L.In.InLane g.L.Links.joined
    (file_of (file_in c.args.accepted.now)) c.args.looks (g.L.Links.tells c.args.links.now) (seats_by c.args.codes.items) workers (map line_at c.in_ok-lines.lines.items) (seats_by c.deref-4.result.now) (opened_by c.in_ok-parties.parties.opened.items) c.in-Err.refusal
    (record {
      ran = c.in_ok-parties.ensures.ran.ran;
      faultless = subst (λ (ws : List (Worker g.row.L-Out.Denot g.row.L-In.Denot)). NoneStopped ws stops.Fault) c.deref.ensures.value (c.if-faulty.ensures.none refl);
      joins = logs_joined workers c.in_ok-remains.remains.logs.items c.in_ok-remains.ensures.logs (map line_at c.in_ok-lines.lines.items) c.in_ok-lines.ensures;
    })
    (λ p lt. ap (λ cs. seats_by cs p) c.deref-4.ensures.value ∙ c.in_ok-parties.ensures.codes.each p lt)
    c.in_ok-parties.ensures.ran.so
    c.in-Err.ensures.cause

pub returns-then-unfit-clause-cause : goal.returns-then-unfit-clause-cause
returns-then-unfit-clause-cause g c =
    let workers = c.in_ok-parties.parties.workers.items in
    let lines = map line_at c.in_ok-lines.lines.items in
    let world = c.in-Ok.world in
    record {
      workers = workers;
      lines = lines;
      logged = record {
        ran = c.in_ok-parties.ensures.ran.ran;
        faultless = subst (λ (ws : List (Worker g.row.L-Out.Denot g.row.L-In.Denot)). NoneStopped ws stops.Fault) c.deref.ensures.value (c.if-faulty.ensures.none refl);
        joins = logs_joined workers c.in_ok-remains.remains.logs.items c.in_ok-remains.ensures.logs lines c.in_ok-lines.ensures;
      };
      unfit = subst (λ (ws : List (Worker g.row.L-Out.Denot g.row.L-In.Denot)). SomeStopped ws stops.Unfit) c.deref-2.ensures.value (c.if-unfit.ensures.some refl);
      calls = callers_of world;
      core = core_of world;
      run =
          subst (λ (f : FileAt). IsSeatsHistory max f (callers_of world) lines (core_of world)) c.in-Ok.ensures.kept
          (subst (λ (ls : List LineAt). IsSeatsHistory max (kept_file world) (callers_of world) ls (core_of world)) c.in-Ok.ensures.history c.in-Ok.ensures.run);
    }
