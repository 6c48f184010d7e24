use Rattle.std.proofs.Common.{◌<◌, ◌≤◌, ◌∙◌, ℕ, List, Option, IfSome, Err, ap, arith, inl, length, map, refl, subst, sym}
use Rattle.std.specs.Prelude.{string_bytes}
use Rattle.sj_command.specs.Task.{Asks}
use Rattle.sj_command.specs.declared.tasks.Task.{Task}
use Rattle.sj_command.specs.declared.tasks.Task.TheVariants as tasks
use Rattle.sj_base.specs.Stream.{CameOf, put_before}
use Rattle.sj_generator.proofs.LengthLemmas.{generated_few}
use Rattle.sj_tool.specs.declared.plans.Plan.{Plan}
use Rattle.sj_tool.specs.declared.plans.Plan.TheVariants as plans
use Rattle.sj_tool.specs.Plans.{DoesSo, IsPlan}
use Rattle.sj_tool.specs.Tasks.{limit_of}
use Rattle.sj_tool.proofs.InputAnswers.{bytes_come, read_input}
use Rattle.sj_tool.proofs.KindLemmas.{most_is}
use Rattle.sj_tool.proofs.OverAnswers.{calls_come}
use Rattle.sj_tool.proofs.inputs.answer_to.Goals as goal

pub answer_to_bytes-requires-after_bounds : goal.answer_to_bytes-requires-after_bounds
answer_to_bytes-requires-after_bounds g c κs within =
    let words = map string_bytes c.args.words.now in
    let task = c.in-Some.task in
    let asks : Asks words task = subst (λ (o : Option Task). IfSome o (Asks words)) c.in-Some.is c.in_ok-task.ensures.asked in
    let plan : IsPlan (plans.Made c.in-Made.n c.in-Made.play) task = subst (λ (p : Plan). IsPlan p task) c.in-Made.is c.plan_of.ensures in
    let (taken, means) = subst (λ (t : Task). Asks words t) plan.0 asks in
    let few = generated_few c.in-Made.n means.1.1 in
    let same = ap length (c.deref.ensures.value ∙ c.in_ok-text-in-Made.ensures) in
    let most = most_is c.in-Made.play task plan.1 ∙ ap limit_of plan.0 in
    omega (arith, few, same, most)

pub returns-in_ok-text-in-Made-clause-answer : goal.returns-in_ok-text-in-Made-clause-answer
returns-in_ok-text-in-Made-clause-answer g c =
    let words = map string_bytes c.args.words.now in
    let task = c.in-Some.task in
    let asks : Asks words task = subst (λ (o : Option Task). IfSome o (Asks words)) c.in-Some.is c.in_ok-task.ensures.asked in
    let plan : IsPlan (plans.Made c.in-Made.n c.in-Made.play) task = subst (λ (p : Plan). IsPlan p task) c.in-Made.is c.plan_of.ensures in
    bytes_come _ (tasks.Big c.in-Made.n) c.deref.result.now c.in-Made.play c.answer_to_bytes.result (subst (λ (t : Task). Asks words t) plan.0 asks) ((refl, refl), c.deref.ensures.value ∙ c.in_ok-text-in-Made.ensures)
    (subst (λ (t : Task). DoesSo c.in-Made.play t) plan.0 plan.1) c.answer_to_bytes.ensures.answer

pub returns-in_ok-text-in-Made-clause-over : goal.returns-in_ok-text-in-Made-clause-over
returns-in_ok-text-in-Made-clause-over g c =
    let words = map string_bytes c.args.words.now in
    let task = c.in-Some.task in
    let asks : Asks words task = subst (λ (o : Option Task). IfSome o (Asks words)) c.in-Some.is c.in_ok-task.ensures.asked in
    let plan : IsPlan (plans.Made c.in-Made.n c.in-Made.play) task = subst (λ (p : Plan). IsPlan p task) c.in-Made.is c.plan_of.ensures in
    calls_come g.L.Out.OutLane g.L.In.InLane g.L.Links.joined _ (tasks.Big c.in-Made.n) c.deref.result.now c.in-Made.play c.answer_to_bytes.result (subst (λ (t : Task). Asks words t) plan.0 asks)
    ((refl, refl), c.deref.ensures.value ∙ c.in_ok-text-in-Made.ensures) (subst (λ (t : Task). DoesSo c.in-Made.play t) plan.0 plan.1) c.answer_to_bytes.ensures.over

pub returns-in-Ok-clause-answer : goal.returns-in-Ok-clause-answer
returns-in-Ok-clause-answer g c =
    let words = map string_bytes c.args.words.now in
    let task = c.in-Some.task in
    let bytes = c.deref-in-Ok.result.now in
    let asks : Asks words task = subst (λ (o : Option Task). IfSome o (Asks words)) c.in-Some.is c.in_ok-task.ensures.asked in
    let plan : IsPlan (plans.Read c.in-Read.play) task = subst (λ (p : Plan). IsPlan p task) c.in-Read.is c.plan_of.ensures in
    let few : length bytes ≤ limit_of task = omega (arith, c.in-Ok.ensures.within, ap length c.deref-in-Ok.ensures.value, c.limit_in.ensures, most_is c.in-Read.play task plan.1) in
    bytes_come _ task bytes c.in-Read.play c.answer_to_bytes-in-Ok.result asks
    (read_input _ task bytes plan.0 (record {
      few = few;
      came = c.in-Ok.ensures.bytes ∙ ap (λ (bs : List ℕ). put_before bs (g.S.Source.left c.read_all.new.src)) (sym c.deref-in-Ok.ensures.value);
      all = c.in-Ok.ensures.told_end;
      no_fault = c.in-Ok.ensures.no_fault;
    })) plan.1 c.answer_to_bytes-in-Ok.ensures.answer

pub returns-in-Ok-clause-over : goal.returns-in-Ok-clause-over
returns-in-Ok-clause-over g c =
    let words = map string_bytes c.args.words.now in
    let task = c.in-Some.task in
    let bytes = c.deref-in-Ok.result.now in
    let asks : Asks words task = subst (λ (o : Option Task). IfSome o (Asks words)) c.in-Some.is c.in_ok-task.ensures.asked in
    let plan : IsPlan (plans.Read c.in-Read.play) task = subst (λ (p : Plan). IsPlan p task) c.in-Read.is c.plan_of.ensures in
    let few : length bytes ≤ limit_of task = omega (arith, c.in-Ok.ensures.within, ap length c.deref-in-Ok.ensures.value, c.limit_in.ensures, most_is c.in-Read.play task plan.1) in
    calls_come g.L.Out.OutLane g.L.In.InLane g.L.Links.joined _ task bytes c.in-Read.play c.answer_to_bytes-in-Ok.result asks
    (read_input _ task bytes plan.0 (record {
      few = few;
      came = c.in-Ok.ensures.bytes ∙ ap (λ (bs : List ℕ). put_before bs (g.S.Source.left c.read_all.new.src)) (sym c.deref-in-Ok.ensures.value);
      all = c.in-Ok.ensures.told_end;
      no_fault = c.in-Ok.ensures.no_fault;
    })) plan.1 c.answer_to_bytes-in-Ok.ensures.over

pub returns-in-Ok-clause-unused : goal.returns-in-Ok-clause-unused
returns-in-Ok-clause-unused g c =
    let words = map string_bytes c.args.words.now in
    let task = c.in-Some.task in
    let asks : Asks words task = subst (λ (o : Option Task). IfSome o (Asks words)) c.in-Some.is c.in_ok-task.ensures.asked in
    let plan : IsPlan (plans.Read c.in-Read.play) task = subst (λ (p : Plan). IsPlan p task) c.in-Read.is c.plan_of.ensures in
    λ none. c.answer_to_bytes-in-Ok.ensures.unused task plan.1 (λ runs. none (record { task = task; asks = asks; kind = runs }))

pub returns-in-Err-TooLarge-clause-answer : goal.returns-in-Err-TooLarge-clause-answer
returns-in-Err-TooLarge-clause-answer g c =
    let words = map string_bytes c.args.words.now in
    let task = c.in-Some.task in
    let asks : Asks words task = subst (λ (o : Option Task). IfSome o (Asks words)) c.in-Some.is c.in_ok-task.ensures.asked in
    let plan : IsPlan (plans.Read c.in-Read.play) task = subst (λ (p : Plan). IsPlan p task) c.in-Read.is c.plan_of.ensures in
    let most = c.limit_in.ensures ∙ most_is c.in-Read.play task plan.1 in
    let came = subst (λ (m : ℕ). CameOf (λ n. m < n) (g.S.Source.left c.args.src.now) (g.S.Source.left c.read_all.new.src)) most (c.in-Err-TooLarge.ensures.too_large (ap Err c.in-Err-TooLarge.field-0-is)) in
    inl (record { task = task; asks = asks; kind = (plan.0, came) }, c.in-Err-TooLarge.ensures.before_fault (ap Err c.in-Err-TooLarge.field-0-is))
