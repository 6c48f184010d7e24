use Rattle.std.proofs.Common.{◌≡◌, ◌∙◌, ◌≤◌, ℕ, List, Option, true, map, length, ap, refl, sym, subst, arith}
use Rattle.std.specs.Prelude.{IfSome}
use Rattle.std.specs.Global.{Vec}
use Rattle.std.proofs.lemmas.List.{length-map}
use Rattle.sj_check.specs.Held.{file_in}
use Rattle.sj_core.specs.World.{history_of, kept_file, world_at}
use Rattle.sj_end.specs.Lines.{line_at}
use Rattle.sj_end.specs.declared.note.Line.{Line}
use Rattle.sj_lane.specs.declared.lane.Lanes.{Lanes}
use Rattle.sj_lane.specs.Square.{AllJoined, IsSquare}
use Rattle.sj_lang.specs.FileView.{file_of}
use Rattle.sj_node.specs.declared.node.Node.{Node}
use Rattle.sj_rules.specs.Log.{IsJoined, LineAt}
use Rattle.sj_work.specs.declared.worker.Stop.TheVariants as stops
use Rattle.sj_work.specs.declared.worker.Worker.{Worker}
use Rattle.sj_work.specs.Views.{lanes_of}
use Rattle.sj_core.proofs.StopLemmas.{error_is}
use Rattle.sj_run.specs.declared.refusal.RunRefusal.{RunRefusal}
use Rattle.sj_run.specs.Damage.{IsDamaged, IsLowestUnfit}
use Rattle.sj_run.specs.Handed.{AreHandedIn}
use Rattle.sj_run.specs.Left.{left_of}
use Rattle.sj_run.specs.Refusals.{IsDamagedOver, IsPastEndOf}
use Rattle.sj_run.specs.Shown.{keeps_of}
use Rattle.sj_run.specs.Workers.{NoneStopped, SomeStopped, logs_in}
use Rattle.sj_run.proofs.DamageLemmas.{history_fits, misfit_damage, no_link_fault, not_past_end, refused_damage, refused_differs, some_unfit}
use Rattle.sj_run.proofs.HandedLemmas.{fault_of}
use Rattle.sj_run.proofs.LogLemmas.{as_many, logs_joined, logs_ordered}
use Rattle.sj_run.proofs.RunLemmas.{all_rising, has_fault, rose_from}
use Rattle.sj_run.proofs.TogetherLemmas.{all_fit, nodes_run, nodes_seated, nodes_shown, none_left_unfit, run_left, run_shown}
use Rattle.sj_run.proofs.runs.run_parties.Goals as goal

pub hand_in-requires-clause-square : goal.hand_in-requires-clause-square
hand_in-requires-clause-square g c κs within =
    subst (λ (ls : List (Lanes g.row.L-Out.Denot g.row.L-In.Denot)). IsSquare ls) (sym c.in_ok-remains.ensures.lanes) c.in_ok-workers.ensures.worked.square

pub hand_in-requires-clause-joined : goal.hand_in-requires-clause-joined
hand_in-requires-clause-joined g c κs within =
    subst (λ (ls : List (Lanes g.row.L-Out.Denot g.row.L-In.Denot)). AllJoined g.L.Links.joined ls) (sym c.in_ok-remains.ensures.lanes) c.in_ok-workers.ensures.worked.ends

pub hand_in-requires-clause-few : goal.hand_in-requires-clause-few
hand_in-requires-clause-few g c =
    let many : length c.in_ok-remains.remains.lanes.items ≡ length c.in_ok-workers.workers.items = ap length c.in_ok-remains.ensures.lanes ∙ length-map c.in_ok-workers.workers.items lanes_of in
    omega (arith, many, c.in_ok-workers.ensures.worked.count, c.in_ok-workers.ensures.accepted.within.parties)

pub hand_in-requires-clause-count : goal.hand_in-requires-clause-count
hand_in-requires-clause-count g c κs within =
    let many : length c.in_ok-remains.remains.lanes.items ≡ length c.in_ok-workers.workers.items = ap length c.in_ok-remains.ensures.lanes ∙ length-map c.in_ok-workers.workers.items lanes_of in
    c.in_ok-remains.ensures.nodes.count ∙ sym many

pub join_logs-requires-clause-parties : goal.join_logs-requires-clause-parties
join_logs-requires-clause-parties g c =
    let few = c.in_ok-workers.ensures.accepted.within.parties in
    let many = c.in_ok-workers.ensures.worked.count in
    let logs = as_many c.in_ok-workers.workers.items c.in_ok-remains.remains.logs.items c.in_ok-remains.ensures.logs in
    omega (arith, few, many, logs)

pub join_logs-requires-clause-order : goal.join_logs-requires-clause-order
join_logs-requires-clause-order g c =
    logs_ordered c.in_ok-workers.workers.items c.in_ok-remains.remains.logs.items c.in_ok-remains.ensures.logs
    (all_rising g.L.Out.OutLane g.L.In.InLane g.L.Links.joined
    (file_of (file_in c.args.accepted.now)) c.args.looks (g.L.Links.tells c.args.links.now) c.in_ok-workers.workers.items c.in_ok-workers.ensures.worked)

pub returns-then-faulty-clause-link_fault : goal.returns-then-faulty-clause-link_fault
returns-then-faulty-clause-link_fault g c =
    λ is.
    rose_from _ _ _ (subst (λ (n : ℕ). g.L.Links.faults c.args.links.now ≤ n) (sym c.hand_in.ensures.faults) c.in_ok-workers.ensures.faults)
    (c.back.ensures.raised (fault_of g.L.Out.OutLane g.L.In.InLane g.L.Links.joined c.in_ok-remains.remains.lanes.items (map lanes_of c.in_ok-workers.workers.items) c.hand_in.new.lanes.items c.in_ok-remains.ensures.lanes c.hand_in.ensures.lanes
    (has_fault g.L.Out.OutLane g.L.In.InLane g.L.Links.joined
    (file_of (file_in c.args.accepted.now)) c.args.looks (g.L.Links.tells c.args.links.now) c.in_ok-workers.workers.items c.in_ok-workers.ensures.worked
    (subst (λ (ws : List (Worker g.row.L-Out.Denot g.row.L-In.Denot)). SomeStopped ws stops.Fault) c.deref.ensures.value (c.if-faulty.ensures.some refl)))))

pub assembled-requires-clause-seats : goal.assembled-requires-clause-seats
assembled-requires-clause-seats g c =
    let asked : c.all_well-asked.result ≡ true = subst (λ (o : Option (Vec Node)). IfSome o (λ v. c.all_well-asked.result ≡ true)) c.in-Some.is c.in_ok-whole.ensures.asked in
    let telling : g.L.Links.tells c.args.links.now ≡ true = sym c.in_ok-workers.ensures.tells ∙ subst (λ (o : Option (Vec Node)). IfSome o (λ v. g.L.Links.tells c.set_to_work.new.links ≡ true)) c.in-Some.is c.in_ok-whole.ensures.telling in
    let handed : AreHandedIn g.L.Out.OutLane.pushed g.L.In.InLane.popped c.in_ok-remains.remains.lanes.items c.in_ok-remains.remains.nodes.items c.in-Some.nodes.items =
    subst (λ (o : Option (Vec Node)). IfSome o (λ v. AreHandedIn g.L.Out.OutLane.pushed g.L.In.InLane.popped c.in_ok-remains.remains.lanes.items c.in_ok-remains.remains.nodes.items v.items)) c.in-Some.is c.in_ok-whole.ensures.handed in
    let faultless = subst (λ (ws : List (Worker g.row.L-Out.Denot g.row.L-In.Denot)). NoneStopped ws stops.Fault) c.deref.ensures.value (c.if-faulty.ensures.none refl) in
    let remembers = subst (λ (ws : List (Worker g.row.L-Out.Denot g.row.L-In.Denot)). NoneStopped ws stops.NoMemory) c.deref-2.ensures.value (c.any_short-short.ensures.none (c.all_well-asked.ensures asked).1) in
    nodes_seated g.L.Out.OutLane g.L.In.InLane g.L.Links.joined
    (file_of (file_in c.args.accepted.now)) c.in_ok-workers.ensures.accepted c.args.looks (g.L.Links.tells c.args.links.now) telling c.in_ok-workers.workers.items c.in_ok-workers.ensures.worked
    c.in_ok-remains.remains.lanes.items c.hand_in.new.lanes.items c.in_ok-remains.ensures.lanes c.hand_in.ensures.lanes
    (keeps_of g.L.Links.sent g.L.Links.got g.L.Links.vain_out g.L.Links.vain_in c.back.new.self) (c.back.ensures.kept (c.hand_in.ensures.tells ∙ c.in_ok-workers.ensures.tells ∙ telling))
    c.in_ok-remains.remains.logs.items c.in_ok-remains.ensures.logs (map line_at c.in_ok-lines.lines.items) c.in_ok-lines.ensures
    remembers faultless c.in_ok-workers.ensures.over c.in_ok-remains.remains.nodes.items c.in-Some.nodes.items c.in_ok-remains.ensures.nodes handed

pub assembled-requires-clause-run : goal.assembled-requires-clause-run
assembled-requires-clause-run g c =
    let asked : c.all_well-asked.result ≡ true = subst (λ (o : Option (Vec Node)). IfSome o (λ v. c.all_well-asked.result ≡ true)) c.in-Some.is c.in_ok-whole.ensures.asked in
    let telling : g.L.Links.tells c.args.links.now ≡ true = sym c.in_ok-workers.ensures.tells ∙ subst (λ (o : Option (Vec Node)). IfSome o (λ v. g.L.Links.tells c.set_to_work.new.links ≡ true)) c.in-Some.is c.in_ok-whole.ensures.telling in
    let handed : AreHandedIn g.L.Out.OutLane.pushed g.L.In.InLane.popped c.in_ok-remains.remains.lanes.items c.in_ok-remains.remains.nodes.items c.in-Some.nodes.items =
    subst (λ (o : Option (Vec Node)). IfSome o (λ v. AreHandedIn g.L.Out.OutLane.pushed g.L.In.InLane.popped c.in_ok-remains.remains.lanes.items c.in_ok-remains.remains.nodes.items v.items)) c.in-Some.is c.in_ok-whole.ensures.handed in
    let faultless = subst (λ (ws : List (Worker g.row.L-Out.Denot g.row.L-In.Denot)). NoneStopped ws stops.Fault) c.deref.ensures.value (c.if-faulty.ensures.none refl) in
    let remembers = subst (λ (ws : List (Worker g.row.L-Out.Denot g.row.L-In.Denot)). NoneStopped ws stops.NoMemory) c.deref-2.ensures.value (c.any_short-short.ensures.none (c.all_well-asked.ensures asked).1) in
    nodes_run g.L.Out.OutLane g.L.In.InLane g.L.Links.joined
    (file_of (file_in c.args.accepted.now)) c.in_ok-workers.ensures.accepted c.args.looks (g.L.Links.tells c.args.links.now) telling c.in_ok-workers.workers.items c.in_ok-workers.ensures.worked
    c.in_ok-remains.remains.lanes.items c.hand_in.new.lanes.items c.in_ok-remains.ensures.lanes c.hand_in.ensures.lanes
    (keeps_of g.L.Links.sent g.L.Links.got g.L.Links.vain_out g.L.Links.vain_in c.back.new.self) (c.back.ensures.kept (c.hand_in.ensures.tells ∙ c.in_ok-workers.ensures.tells ∙ telling))
    c.in_ok-remains.remains.logs.items c.in_ok-remains.ensures.logs (map line_at c.in_ok-lines.lines.items) c.in_ok-lines.ensures
    remembers faultless c.in_ok-workers.ensures.over c.in_ok-remains.remains.nodes.items c.in-Some.nodes.items c.in_ok-remains.ensures.nodes handed

pub returns-in-Some-clause-logged : goal.returns-in-Some-clause-logged
returns-in-Some-clause-logged g c =
    let asked : c.all_well-asked.result ≡ true = subst (λ (o : Option (Vec Node)). IfSome o (λ v. c.all_well-asked.result ≡ true)) c.in-Some.is c.in_ok-whole.ensures.asked in
    let telling : g.L.Links.tells c.args.links.now ≡ true = sym c.in_ok-workers.ensures.tells ∙ subst (λ (o : Option (Vec Node)). IfSome o (λ v. g.L.Links.tells c.set_to_work.new.links ≡ true)) c.in-Some.is c.in_ok-whole.ensures.telling in
    let handed : AreHandedIn g.L.Out.OutLane.pushed g.L.In.InLane.popped c.in_ok-remains.remains.lanes.items c.in_ok-remains.remains.nodes.items c.in-Some.nodes.items =
    subst (λ (o : Option (Vec Node)). IfSome o (λ v. AreHandedIn g.L.Out.OutLane.pushed g.L.In.InLane.popped c.in_ok-remains.remains.lanes.items c.in_ok-remains.remains.nodes.items v.items)) c.in-Some.is c.in_ok-whole.ensures.handed in
    let faultless = subst (λ (ws : List (Worker g.row.L-Out.Denot g.row.L-In.Denot)). NoneStopped ws stops.Fault) c.deref.ensures.value (c.if-faulty.ensures.none refl) in
    let remembers = subst (λ (ws : List (Worker g.row.L-Out.Denot g.row.L-In.Denot)). NoneStopped ws stops.NoMemory) c.deref-2.ensures.value (c.any_short-short.ensures.none (c.all_well-asked.ensures asked).1) in
    record {
      workers = c.in_ok-workers.workers.items;
      worked = c.in_ok-workers.ensures.worked;
      faultless = faultless;
      remembers = remembers;
      fits = all_fit g.L.Out.OutLane g.L.In.InLane g.L.Links.joined
          (file_of (file_in c.args.accepted.now)) c.in_ok-workers.ensures.accepted c.args.looks (g.L.Links.tells c.args.links.now) telling c.in_ok-workers.workers.items c.in_ok-workers.ensures.worked
          c.in_ok-remains.remains.lanes.items c.hand_in.new.lanes.items c.in_ok-remains.ensures.lanes c.hand_in.ensures.lanes
          (keeps_of g.L.Links.sent g.L.Links.got g.L.Links.vain_out g.L.Links.vain_in c.back.new.self) (c.back.ensures.kept (c.hand_in.ensures.tells ∙ c.in_ok-workers.ensures.tells ∙ telling))
          c.in_ok-remains.remains.logs.items c.in_ok-remains.ensures.logs (map line_at c.in_ok-lines.lines.items) c.in_ok-lines.ensures;
      joins =
          subst (λ (ls : List LineAt). IsJoined (logs_in c.in_ok-workers.workers.items) ls) (sym c.in_ok-world.ensures.history)
          (logs_joined c.in_ok-workers.workers.items c.in_ok-remains.remains.logs.items c.in_ok-remains.ensures.logs (map line_at c.in_ok-lines.lines.items) c.in_ok-lines.ensures);
    }

pub returns-in-Some-clause-shown : goal.returns-in-Some-clause-shown
returns-in-Some-clause-shown g c =
    let asked : c.all_well-asked.result ≡ true = subst (λ (o : Option (Vec Node)). IfSome o (λ v. c.all_well-asked.result ≡ true)) c.in-Some.is c.in_ok-whole.ensures.asked in
    let telling : g.L.Links.tells c.args.links.now ≡ true = sym c.in_ok-workers.ensures.tells ∙ subst (λ (o : Option (Vec Node)). IfSome o (λ v. g.L.Links.tells c.set_to_work.new.links ≡ true)) c.in-Some.is c.in_ok-whole.ensures.telling in
    let handed : AreHandedIn g.L.Out.OutLane.pushed g.L.In.InLane.popped c.in_ok-remains.remains.lanes.items c.in_ok-remains.remains.nodes.items c.in-Some.nodes.items =
    subst (λ (o : Option (Vec Node)). IfSome o (λ v. AreHandedIn g.L.Out.OutLane.pushed g.L.In.InLane.popped c.in_ok-remains.remains.lanes.items c.in_ok-remains.remains.nodes.items v.items)) c.in-Some.is c.in_ok-whole.ensures.handed in
    let faultless = subst (λ (ws : List (Worker g.row.L-Out.Denot g.row.L-In.Denot)). NoneStopped ws stops.Fault) c.deref.ensures.value (c.if-faulty.ensures.none refl) in
    let remembers = subst (λ (ws : List (Worker g.row.L-Out.Denot g.row.L-In.Denot)). NoneStopped ws stops.NoMemory) c.deref-2.ensures.value (c.any_short-short.ensures.none (c.all_well-asked.ensures asked).1) in
    λ tells.
    nodes_shown g.L.Out.OutLane g.L.In.InLane g.L.Links.joined
    (file_of (file_in c.args.accepted.now)) c.in_ok-workers.ensures.accepted c.args.looks (g.L.Links.tells c.args.links.now) telling c.in_ok-workers.workers.items c.in_ok-workers.ensures.worked
    c.in_ok-remains.remains.lanes.items c.hand_in.new.lanes.items c.in_ok-remains.ensures.lanes c.hand_in.ensures.lanes
    (keeps_of g.L.Links.sent g.L.Links.got g.L.Links.vain_out g.L.Links.vain_in c.back.new.self) (c.back.ensures.kept (c.hand_in.ensures.tells ∙ c.in_ok-workers.ensures.tells ∙ telling))
    c.in_ok-remains.remains.logs.items c.in_ok-remains.ensures.logs (map line_at c.in_ok-lines.lines.items) c.in_ok-lines.ensures
    remembers faultless c.in_ok-workers.ensures.over c.in_ok-remains.remains.nodes.items c.in-Some.nodes.items c.in_ok-remains.ensures.nodes handed
    (history_of c.in_ok-world.world) (world_at c.in_ok-world.world) c.in_ok-world.ensures.history c.in_ok-world.ensures.world

pub returns-in-Err-clause-link_fault : goal.returns-in-Err-clause-link_fault
returns-in-Err-clause-link_fault g c = λ is. absurd (no_link_fault c.in-Err.refusal (sym c.from.ensures ∙ error_is _ _ is))

pub returns-in-Err-clause-damaged : goal.returns-in-Err-clause-damaged
returns-in-Err-clause-damaged g c =
    subst (λ (r : RunRefusal). IsDamagedOver g.L.Out.OutLane g.L.In.InLane g.L.Links.joined (file_of (file_in c.args.accepted.now)) c.args.looks (g.L.Links.tells c.args.links.now) r) (sym c.from.ensures)
    (misfit_damage g.L.Out.OutLane g.L.In.InLane g.L.Links.joined
    (file_of (file_in c.args.accepted.now)) c.args.looks (g.L.Links.tells c.args.links.now) c.in_ok-workers.workers.items c.in_ok-workers.ensures.worked c.in_ok-workers.ensures.accepted
    (subst (λ (ws : List (Worker g.row.L-Out.Denot g.row.L-In.Denot)). NoneStopped ws stops.Fault) c.deref.ensures.value (c.if-faulty.ensures.none refl))
    (map line_at c.in_ok-lines.lines.items)
    (logs_joined c.in_ok-workers.workers.items c.in_ok-remains.remains.logs.items c.in_ok-remains.ensures.logs (map line_at c.in_ok-lines.lines.items) c.in_ok-lines.ensures)
    c.in-Err.refusal c.in-Err.ensures.misfit)

pub returns-in-Err-clause-telling : goal.returns-in-Err-clause-telling
returns-in-Err-clause-telling g c =
    λ damaged telling.
    history_fits (file_of (file_in c.args.accepted.now)) (map line_at c.in_ok-lines.lines.items) _ c.in-Err.refusal
    (run_left g.L.Out.OutLane g.L.In.InLane g.L.Links.joined
    (file_of (file_in c.args.accepted.now)) c.in_ok-workers.ensures.accepted c.args.looks (g.L.Links.tells c.args.links.now) telling c.in_ok-workers.workers.items c.in_ok-workers.ensures.worked
    c.in_ok-remains.remains.lanes.items c.hand_in.new.lanes.items c.in_ok-remains.ensures.lanes c.hand_in.ensures.lanes
    (keeps_of g.L.Links.sent g.L.Links.got g.L.Links.vain_out g.L.Links.vain_in c.back.new.self) (c.back.ensures.kept (c.hand_in.ensures.tells ∙ c.in_ok-workers.ensures.tells ∙ telling))
    c.in_ok-remains.remains.logs.items c.in_ok-remains.ensures.logs (map line_at c.in_ok-lines.lines.items) c.in_ok-lines.ensures)
    c.in-Err.ensures.misfit (subst IsDamaged c.from.ensures damaged)

pub past_end-requires : goal.past_end-requires
past_end-requires g c =
    let world = c.in-Ok.world in
    refused_differs g.L.Out.OutLane g.L.In.InLane g.L.Links.joined
    (file_of (file_in c.args.accepted.now)) c.args.looks (g.L.Links.tells c.args.links.now) c.in_ok-workers.workers.items c.in_ok-workers.ensures.worked c.in_ok-workers.ensures.accepted
    (subst (λ (ws : List (Worker g.row.L-Out.Denot g.row.L-In.Denot)). NoneStopped ws stops.Fault) c.deref.ensures.value (c.if-faulty.ensures.none refl))
    (map line_at c.in_ok-lines.lines.items)
    (logs_joined c.in_ok-workers.workers.items c.in_ok-remains.remains.logs.items c.in_ok-remains.ensures.logs (map line_at c.in_ok-lines.lines.items) c.in_ok-lines.ensures)
    (kept_file world) (world_at world) c.in-Some-unfit.refused c.in-Ok.ensures.kept c.in-Ok.ensures.ok
    (subst (λ (ws : List (Worker g.row.L-Out.Denot g.row.L-In.Denot)). IsLowestUnfit (map left_of ws) (line_at c.in-Some-unfit.refused)) c.deref-3.ensures.value (subst (λ (o : Option Line). IfSome o (λ l. IsLowestUnfit (map left_of c.deref-3.result.now) (line_at l))) c.in-Some-unfit.is c.first_unfit-unfit.ensures.some))

pub returns-in-Some-unfit-clause-link_fault : goal.returns-in-Some-unfit-clause-link_fault
returns-in-Some-unfit-clause-link_fault g c =
    λ is. absurd (not_past_end (kept_file c.in-Ok.world) (world_at c.in-Ok.world) (history_of c.in-Ok.world) c.in-Some-unfit.refused c.past_end.result c.past_end.ensures (error_is _ _ is))

pub returns-in-Some-unfit-clause-damaged : goal.returns-in-Some-unfit-clause-damaged
returns-in-Some-unfit-clause-damaged g c =
    let world = c.in-Ok.world in
    refused_damage g.L.Out.OutLane g.L.In.InLane g.L.Links.joined
    (file_of (file_in c.args.accepted.now)) c.args.looks (g.L.Links.tells c.args.links.now) c.in_ok-workers.workers.items c.in_ok-workers.ensures.worked c.in_ok-workers.ensures.accepted
    (subst (λ (ws : List (Worker g.row.L-Out.Denot g.row.L-In.Denot)). NoneStopped ws stops.Fault) c.deref.ensures.value (c.if-faulty.ensures.none refl))
    (map line_at c.in_ok-lines.lines.items)
    (logs_joined c.in_ok-workers.workers.items c.in_ok-remains.remains.logs.items c.in_ok-remains.ensures.logs (map line_at c.in_ok-lines.lines.items) c.in_ok-lines.ensures)
    (kept_file world) (world_at world) c.in-Some-unfit.refused c.past_end.result c.in-Ok.ensures.kept c.in-Ok.ensures.ok
    (subst (λ (ws : List (Worker g.row.L-Out.Denot g.row.L-In.Denot)). IsLowestUnfit (map left_of ws) (line_at c.in-Some-unfit.refused)) c.deref-3.ensures.value (subst (λ (o : Option Line). IfSome o (λ l. IsLowestUnfit (map left_of c.deref-3.result.now) (line_at l))) c.in-Some-unfit.is c.first_unfit-unfit.ensures.some))
    (subst (λ (ls : List LineAt). IsPastEndOf (kept_file world) (world_at world) ls c.in-Some-unfit.refused c.past_end.result) c.in-Ok.ensures.history c.past_end.ensures)

pub returns-in-Some-unfit-clause-telling : goal.returns-in-Some-unfit-clause-telling
returns-in-Some-unfit-clause-telling g c =
    λ damaged telling.
    none_left_unfit g.L.Out.OutLane g.L.In.InLane g.L.Links.joined
    (file_of (file_in c.args.accepted.now)) c.in_ok-workers.ensures.accepted c.args.looks (g.L.Links.tells c.args.links.now) telling c.in_ok-workers.workers.items c.in_ok-workers.ensures.worked
    c.in_ok-remains.remains.lanes.items c.hand_in.new.lanes.items c.in_ok-remains.ensures.lanes c.hand_in.ensures.lanes
    (keeps_of g.L.Links.sent g.L.Links.got g.L.Links.vain_out g.L.Links.vain_in c.back.new.self) (c.back.ensures.kept (c.hand_in.ensures.tells ∙ c.in_ok-workers.ensures.tells ∙ telling))
    c.in_ok-remains.remains.logs.items c.in_ok-remains.ensures.logs (map line_at c.in_ok-lines.lines.items) c.in_ok-lines.ensures
    (some_unfit c.in_ok-workers.workers.items (line_at c.in-Some-unfit.refused)
    (subst (λ (ws : List (Worker g.row.L-Out.Denot g.row.L-In.Denot)). IsLowestUnfit (map left_of ws) (line_at c.in-Some-unfit.refused)) c.deref-3.ensures.value (subst (λ (o : Option Line). IfSome o (λ l. IsLowestUnfit (map left_of c.deref-3.result.now) (line_at l))) c.in-Some-unfit.is c.first_unfit-unfit.ensures.some)))

pub returns-clause-logged : goal.returns-clause-logged
returns-clause-logged g c = record {
  workers = c.in_ok-workers.workers.items;
  worked = c.in_ok-workers.ensures.worked;
  faultless = subst (λ (ws : List (Worker g.row.L-Out.Denot g.row.L-In.Denot)). NoneStopped ws stops.Fault) c.deref.ensures.value (c.if-faulty.ensures.none refl);
  remembers = subst (λ (ws : List (Worker g.row.L-Out.Denot g.row.L-In.Denot)). NoneStopped ws stops.NoMemory) c.deref-2.ensures.value (c.if-short.ensures.none refl);
  fits = subst (λ (ws : List (Worker g.row.L-Out.Denot g.row.L-In.Denot)). NoneStopped ws stops.Unfit) c.deref-3.ensures.value (c.first_unfit-unfit.ensures.none c.in_default-unfit.is);
  joins =
      subst (λ (ls : List LineAt). IsJoined (logs_in c.in_ok-workers.workers.items) ls) (sym c.in-Ok.ensures.history)
      (logs_joined c.in_ok-workers.workers.items c.in_ok-remains.remains.logs.items c.in_ok-remains.ensures.logs (map line_at c.in_ok-lines.lines.items) c.in_ok-lines.ensures);
}

pub returns-clause-shown : goal.returns-clause-shown
returns-clause-shown g c =
    λ telling.
    run_shown g.L.Out.OutLane g.L.In.InLane g.L.Links.joined
    (file_of (file_in c.args.accepted.now)) c.in_ok-workers.ensures.accepted c.args.looks (g.L.Links.tells c.args.links.now) telling c.in_ok-workers.workers.items c.in_ok-workers.ensures.worked
    c.in_ok-remains.remains.lanes.items c.hand_in.new.lanes.items c.in_ok-remains.ensures.lanes c.hand_in.ensures.lanes
    (keeps_of g.L.Links.sent g.L.Links.got g.L.Links.vain_out g.L.Links.vain_in c.back.new.self) (c.back.ensures.kept (c.hand_in.ensures.tells ∙ c.in_ok-workers.ensures.tells ∙ telling))
    c.in_ok-remains.remains.logs.items c.in_ok-remains.ensures.logs (map line_at c.in_ok-lines.lines.items) c.in_ok-lines.ensures
    (subst (λ (ws : List (Worker g.row.L-Out.Denot g.row.L-In.Denot)). NoneStopped ws stops.NoMemory) c.deref-2.ensures.value (c.if-short.ensures.none refl))
    (subst (λ (ws : List (Worker g.row.L-Out.Denot g.row.L-In.Denot)). NoneStopped ws stops.Fault) c.deref.ensures.value (c.if-faulty.ensures.none refl))
    (history_of c.in-Ok.world) (world_at c.in-Ok.world) c.in-Ok.ensures.history c.in-Ok.ensures.ok
