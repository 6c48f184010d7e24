-- What is answered of a file that was played has the headline.
use Rattle.std.proofs.Common.{◌≡◌, ◌∙◌, ℕ, List, Option, refl, sym, ap, arith, subst}
use Rattle.sj_base.specs.Stream.{put_behind}
use Rattle.sj_lang.specs.FileAt.{FileAt}
use Rattle.sj_acceptance.specs.Accepted.{IsAccepted}
use Rattle.sj_semantics.specs.declared.Verdict.{Verdict}
use Rattle.sj_semantics.specs.declared.Verdict.TheVariants.{Done, Blocked, Long}
use Rattle.sj_semantics.specs.Run.{end_of}
use Rattle.sj_semantics.specs.State.{verdict_of}
use Rattle.sj_semantics_laws.proofs.FinishLemmas.{end_is_settled, end_is_reached}
use Rattle.sj_headline_laws.specs.Headline.{IsHeadline}
use Rattle.sj_headline_laws.proofs.HeadlineLemmas.{settled_run_has_it}
use Rattle.sj_forest_laws.proofs.BlockedLemmas.{never_blocked}
use Rattle.sj_command.proofs.OneTask.{one_task}
use Rattle.sj_tool.specs.AnswerAt.{AnswerAt, Ran}
use Rattle.sj_tool.specs.Answers.{AnswersFile, HoldsFile, IsInTable}
use Rattle.sj_tool.specs.Calls.{CallAt}
use Rattle.sj_tool.specs.Headline.{HasHeadline, IsPlaying, IsVerdict, ReadsNoForest}
use Rattle.sj_tool.specs.Tasks.{AsksFor}
use Rattle.sj_tool.specs.Texts.{status_of, text_of, verdict_status}
use Rattle.sj_tool.proofs.PlayedAnswers.{came_of_play, played_so}

-- the end of an accepted file has the headline
end_has_it : (file : FileAt) → IsAccepted file → (acts : List ℕ) × IsHeadline file acts (end_of file)
end_has_it file accepted = let l = end_is_reached file in (l.acts, settled_run_has_it file l.acts (end_of file) accepted l.leads (end_is_settled file))

module _ (c : CallAt) (status : ℕ) (before after : Option (List ℕ)) (verdict : IsVerdict status) (plays : AsksFor IsPlaying c) where
  ran_has_it : (v : Verdict) (t : List ℕ) (h : HoldsFile c) → AnswersFile c.links h.task h.log h.file (Ran v t) → status ≡ verdict_status v → after ≡ put_behind before t → HasHeadline c status before after
  ran_has_it v t x a e d =
      let kind = subst IsPlaying (one_task c.words plays.task x.task plays.asks x.asks) plays.kind in
      let p = played_so c.links x.task x.log x.file v t kind a.1 in
      let ends = end_has_it x.file a.0 in
      record {
        read = record { held = x; kind = kind; accepted = a.0 };
        acts = ends.0;
        end = end_of x.file;
        headline = ends.1;
        verdict = e ∙ ap verdict_status p.stands;
        behind = p.behind;
        written = d ∙ ap (put_behind before) p.printed;
        bare = λ no. p.bare (λ more. no (record { task = x.task; asks = x.asks; kind = more }));
      }

  -- the answer that is written has it
  pub answer_has_it : (a : AnswerAt) → IsInTable c a → status ≡ status_of a → after ≡ put_behind before (text_of a) → HasHeadline c status before after
  answer_has_it a comes e d =
      let p = came_of_play c status verdict plays a comes e in
      ran_has_it p.verdict p.text p.held p.answers (e ∙ ap status_of p.is) (d ∙ ap (λ b. put_behind before (text_of b)) p.is)

-- ---- a blocked file is no forest

blocked_alone : (v : Verdict) → verdict_status v ≡ 6 → v ≡ Blocked
blocked_alone Done e = absurd (let no : ⊥ = omega (arith, e) in no)
blocked_alone Blocked e = refl
blocked_alone Long e = absurd (let no : ⊥ = omega (arith, e) in no)

-- the file of a headline with 6 is no forest
pub blocked_by : (c : CallAt) (status : ℕ) (before after : Option (List ℕ)) → status ≡ verdict_status Blocked → HasHeadline c status before after → ReadsNoForest c
blocked_by c status before after six h = record {
  read = h.read;
  no_forest = λ forest. never_blocked h.read.held.file h.acts h.end h.read.accepted forest h.headline.run h.headline.settled (blocked_alone (verdict_of h.end) (sym h.verdict ∙ six));
}
