use Rattle.std.proofs.Common.{◌≡◌, ◌∙◌, ◌≤◌, List, drop, is_some, map, length, ap, arith, sym, subst}
use Rattle.std.specs.Prelude.{slice_get}
use Rattle.std.proofs.lemmas.List.{length-map}
use Rattle.sj_check.specs.Held.{file_in}
use Rattle.sj_lang.specs.FileView.{file_of, party_of}
use Rattle.sj_lang.specs.declared.file.File.{File}
use Rattle.sj_work.specs.declared.worker.Worker.{Worker}
use Rattle.sj_seat_run.specs.Logged.{AllRanSo}
use Rattle.sj_seat_run.specs.Runners.{HasTakenPart, is_coded, opened_at, worker_at}
use Rattle.sj_seat_run.specs.Seats.{seats_by}
use Rattle.sj_seats.specs.Openings.{opened_by}
use Rattle.sj_seats.specs.Seated.{seat_in}
use Rattle.sj_seat_run.proofs.ListLemmas.{each_at, take_front}
use Rattle.sj_seat_run.proofs.RunnerLemmas.{ran_so, same_seats}
use Rattle.sj_seat_run.proofs.teams.run_all.Goals as goal

pub take_seats-requires-clause-count : goal.take_seats-requires-clause-count
take_seats-requires-clause-count g c =
    omega (arith, c.in_ok-lanes.ensures.square.0, length-map (file_in c.args.accepted.now).parties.items party_of, c.len-parties.ensures, ap (λ (f : File). length f.parties.items) c.file.ensures.value, (file_in c.args.accepted.now).parties.ok, c.in_ok-lanes.lanes.ok)

pub returns-clause-ran : goal.returns-clause-ran
returns-clause-ran g c =
    let file = file_of (file_in c.args.accepted.now) in
    let lanes = c.in_ok-lanes.lanes.items in
    let hired = c.in_ok-runners.runners.items in
    let ran = c.set_off.new.runners in
    let made = c.in_ok-lanes.ensures in
    let many : length lanes ≡ length file.parties = omega (arith, made.square.0, length-map (file_in c.args.accepted.now).parties.items party_of, c.len-parties.ensures, ap (λ (f : File). length f.parties.items) c.file.ensures.value, (file_in c.args.accepted.now).parties.ok, c.in_ok-lanes.lanes.ok) in
    let as_many : length ran ≡ length hired = c.set_off.ensures.length ∙ ap length c.deref_mut.ensures.value in
    let whole = take_front ran (drop (length ran) hired) c.in_ok-runners.runners.len (omega (arith, as_many, c.in_ok-runners.runners.ok)) in
    subst (λ (ws : List (Worker g.row.L-Out.Denot g.row.L-In.Denot)). AllRanSo g.L.Out.OutLane g.L.In.InLane g.L.Links.joined file c.args.looks (g.L.Links.tells c.args.links.now) (seats_by c.args.codes.items) ws (opened_by c.in_ok-parties.parties.opened.items))
    (sym (c.in_ok-parties.ensures.workers ∙ ap (map worker_at) whole))
    (ran_so g.L.Out.OutLane g.L.In.InLane g.L.Links.joined g.met.L.Links.joined_later
    file c.args.table.now c.args.looks (g.L.Links.tells c.args.links.now) lanes hired ran made.square.1 many made.joined made.fresh made.faultless (seats_by c.args.codes.items) c.in_ok-runners.ensures as_many
    (λ p old new before there.
    each_at (HasTakenPart g.L.Out.OutLane g.L.In.InLane c.args.looks) _ ran c.set_off.ensures.each p old new (ap (λ rs. slice_get rs p) c.deref_mut.ensures.value ∙ before) there)
    c.in_ok-parties.parties.opened.items (c.in_ok-parties.ensures.opened ∙ ap (map opened_at) whole))

pub returns-clause-codes : goal.returns-clause-codes
returns-clause-codes g c =
    let file = file_of (file_in c.args.accepted.now) in
    let lanes = c.in_ok-lanes.lanes.items in
    let hired = c.in_ok-runners.runners.items in
    let ran = c.set_off.new.runners in
    let made = c.in_ok-lanes.ensures in
    let many : length lanes ≡ length file.parties = omega (arith, made.square.0, length-map (file_in c.args.accepted.now).parties.items party_of, c.len-parties.ensures, ap (λ (f : File). length f.parties.items) c.file.ensures.value, (file_in c.args.accepted.now).parties.ok, c.in_ok-lanes.lanes.ok) in
    let as_many : length ran ≡ length hired = c.set_off.ensures.length ∙ ap length c.deref_mut.ensures.value in
    let whole = take_front ran (drop (length ran) hired) c.in_ok-runners.runners.len (omega (arith, as_many, c.in_ok-runners.runners.ok)) in
    let coded = c.in_ok-parties.ensures.codes ∙ ap (map is_coded) whole in
    let all : length c.in_ok-parties.parties.codes.items ≡ length ran = sym (length-map c.in_ok-parties.parties.codes.items is_some) ∙ ap length coded ∙ length-map ran is_coded in
    record {
      count = omega (arith, all, as_many, c.in_ok-runners.ensures.count, many);
      each = λ p lt.
          ap (λ bs. seat_in bs p) coded
          ∙ same_seats g.L.Out.OutLane g.L.In.InLane g.L.Links.joined g.met.L.Links.joined_later
          file c.args.table.now c.args.looks (g.L.Links.tells c.args.links.now) lanes hired ran made.square.1 many made.joined made.fresh made.faultless (seats_by c.args.codes.items) c.in_ok-runners.ensures as_many
          (λ q old new before there.
          each_at (HasTakenPart g.L.Out.OutLane g.L.In.InLane c.args.looks) _ ran c.set_off.ensures.each q old new (ap (λ rs. slice_get rs q) c.deref_mut.ensures.value ∙ before) there) p lt;
    }

pub returns-clause-few : goal.returns-clause-few
returns-clause-few g c =
    let file = file_of (file_in c.args.accepted.now) in
    let lanes = c.in_ok-lanes.lanes.items in
    let hired = c.in_ok-runners.runners.items in
    let ran = c.set_off.new.runners in
    let made = c.in_ok-lanes.ensures in
    let many : length lanes ≡ length file.parties = omega (arith, made.square.0, length-map (file_in c.args.accepted.now).parties.items party_of, c.len-parties.ensures, ap (λ (f : File). length f.parties.items) c.file.ensures.value, (file_in c.args.accepted.now).parties.ok, c.in_ok-lanes.lanes.ok) in
    let as_many : length ran ≡ length hired = c.set_off.ensures.length ∙ ap length c.deref_mut.ensures.value in
    let whole = take_front ran (drop (length ran) hired) c.in_ok-runners.runners.len (omega (arith, as_many, c.in_ok-runners.runners.ok)) in
    let all : length c.in_ok-parties.parties.workers.items ≡ length ran = ap length (c.in_ok-parties.ensures.workers ∙ ap (map worker_at) whole) ∙ length-map ran worker_at in
    let few : length file.parties ≤ 16 = subst (λ (f : File). length (file_of f).parties ≤ 16) c.file.ensures.value c.file.ensures.accepted.within.parties in
    omega (arith, all, as_many, c.in_ok-runners.ensures.count, many, few)
