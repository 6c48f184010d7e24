use Rattle.std.proofs.Common.{◌≡◌, ◌∙◌, inl, refl, sym, arith, rules}
use Rattle.sj_semantics.specs.declared.Verdict.TheVariants.{Blocked}
use Rattle.sj_tool.specs.AnswerAt.{answer_at}
use Rattle.sj_tool.specs.Calls.{call}
use Rattle.sj_tool.specs.Texts.{text_of}
use Rattle.sj_base.specs.Stream.{put_behind}
use Rattle.sj_tool.proofs.CompletedCalls.{answered_in_order, answered_whole}
use Rattle.sj_tool.proofs.EndedAnswers.{read_whole}
use Rattle.sj_tool.proofs.ExactnessLemmas.{answered_exactly}
use Rattle.sj_tool.proofs.FaultAnswers.{damaged_by, link_fault_by, no_memory_answered, not_failed, read_fault_by, write_fault_answered}
use Rattle.sj_tool.proofs.ForwardAnswers.{answer_forwarded}
use Rattle.sj_tool.proofs.HeadlineOfAnswers.{answer_has_it, blocked_by}
use Rattle.sj_tool.proofs.OverAnswers.{damage_written, run_written}
use Rattle.sj_tool.proofs.top.sj.Goals as goal

pub returns-in-Err : goal.returns-in-Err
returns-in-Err g c = no_memory_answered g.L.Out.OutLane g.L.In.InLane g.L.Links.joined _ _ _ _ _ c.answer_to.ensures.unused refl

pub returns-in-Err-into_text : goal.returns-in-Err-into_text
returns-in-Err-into_text g c = no_memory_answered g.L.Out.OutLane g.L.In.InLane g.L.Links.joined _ _ _ _ _ c.answer_to.ensures.unused refl

pub returns : goal.returns
returns g c =
    write_fault_answered g.L.Out.OutLane g.L.In.InLane g.L.Links.joined _ _ _ _ _ c.answer_to.ensures.unused (search rules) (answer_at c.in-Ok.answer) c.in-Ok.ensures.answer (search rules)

pub returns-in-Ok-write_all_of : goal.returns-in-Ok-write_all_of
returns-in-Ok-write_all_of g c =
    let here = call g.S.Source g.L.Links c.args.words.now c.args.src.now c.answer_to.new.src c.args.links.now c.answer_to.new.links in
    let a = answer_at c.in-Ok.answer in
    let status = c.status-status.result in
    let before = g.K.Sink.written c.args.out.now in
    let after = g.K.Sink.written c.write_all_of.new.out in
    let comes = c.in-Ok.ensures.answer in
    let over = c.in-Ok.ensures.over in
    let is = c.status-status.ensures in
    let wrote : after ≡ put_behind before (text_of a) = search rules in
    record {
      answer = inl (a, comes, (is, wrote));
      exactly = answered_exactly here status before after a comes is wrote;
      headline = λ verdict plays. answer_has_it here status before after verdict plays a comes is wrote;
      forwarded = λ verdict asked. answer_forwarded here status before after verdict asked a comes is wrote;
      forest = λ six plays. blocked_by here status before after six (answer_has_it here status before after (Blocked, six) plays a comes is wrote);
      complete = answered_whole here a status before after comes is wrote;
      read_fault = λ e. read_fault_by here a comes (sym e ∙ is);
      link_fault = λ e. link_fault_by here a comes (sym e ∙ is);
      damaged = λ text e. damaged_by here a comes (sym e ∙ is);
      damage = λ text e. damage_written g.L.Out.OutLane g.L.In.InLane g.L.Links.joined here status before after a over is wrote e;
      ran = λ verdict asked. run_written g.L.Out.OutLane g.L.In.InLane g.L.Links.joined here status before after a over is wrote comes verdict asked;
      in_order = answered_in_order g.L.Out.OutLane g.L.In.InLane g.L.Links.joined here a status before after comes over is wrote;
      unused = c.answer_to.ensures.unused;
      ended = λ reads below. c.in-Ok.ensures.ended (read_whole status a is below) reads;
      write_fault = λ e. absurd (not_failed a 10 (omega arith) (omega arith) (sym e ∙ is));
      front = λ e. absurd (not_failed a 10 (omega arith) (omega arith) (sym e ∙ is));
      no_memory = λ e. absurd (not_failed a 11 (omega arith) (omega arith) (sym e ∙ is));
    }
