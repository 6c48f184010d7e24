use Rattle.std.proofs.Common.{◌∙◌, ◌++◌, List, ℕ, ap}
use Rattle.sj_talk.specs.Output.{talk_end, talk_text}
use Rattle.sj_talk.specs.Talk.{talk_of}
use Rattle.sj_talk.specs.TalkWorld.{TalkWorld}
use Rattle.sj_tool.proofs.talks.talk.Goals as goal

pub returns : goal.returns
returns c =
    let lines = c.args.lines.now in
    let begun = talk_of c.in_ok-talk.talk in
    record {
      there = c.requires;
      end = c.in_ok-verdict.ensures.verdict ∙ ap (λ (t : TalkWorld). talk_end t lines) c.in_ok-talk.ensures;
      printed = c.in_ok-verdict.ensures.text ∙ ap (λ (xs : List ℕ). xs ++ talk_text begun lines) c.new-text.ensures.items
          ∙ ap (λ (t : TalkWorld). talk_text t lines) c.in_ok-talk.ensures;
    }
