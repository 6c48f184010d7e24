use Rattle.std.proofs.Common.{◌≡◌, ◌∙◌, ◌++◌, ◌∷◌, [], List, ap, sym}
use Rattle.sj_generator_laws.specs.Counts.{messages_in}
use Rattle.sj_lang.specs.FileView.{file_of}
use Rattle.sj_semantics.specs.Transcript.{line_of, verdict_word}
use Rattle.sj_tool.specs.Sums.{sums_line}
use Rattle.sj_tool.proofs.TellingLemmas.{steps_are, summary_is}
use Rattle.sj_tool.proofs.sums.sums_text.Goals as goal

pub returns : goal.returns
returns c = λ w told.
    let file = file_of c.args.file.now in
    let messages : c.messages_told-messages.result ≡ messages_in w = c.messages_told-messages.ensures ∙ sym told.messages in
    let steps = c.in_ok-steps.ensures ∙ steps_are w c.args.stands.now told.parties in
    let verdict = c.verdict_told.ensures.world w told.opened told.parties in
    c.in_ok-print_verdict.ensures.ok
    ∙ ap (λ (xs : List _). xs ++ line_of (verdict_word c.verdict_told.result ∷ [])) (c.in_ok-put_sums.ensures ∙ ap (λ (xs : List _). xs ++ sums_line c.args.n file c.messages_told-messages.result c.in_ok-steps.steps) c.new-text.ensures.items)
    ∙ summary_is c.args.n file w c.messages_told-messages.result c.in_ok-steps.steps c.verdict_told.result messages steps verdict
