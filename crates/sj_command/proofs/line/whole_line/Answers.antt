use Rattle.std.proofs.Common.{ap, ap₂, ◌≡◌, ◌∙◌}
use Rattle.std.specs.Prelude.{codes, true}
use Rattle.clap.specs.Words.{App, app_of, new_app, with_rule}
use Rattle.clap.specs.Simple.{app_of_fields, on_top}
use Rattle.sj_command.proofs.line.whole_line.Goals as goal

abbrev without_name : App → App
without_name = on_top (λ s. record s { no_binary_name = true })

pub returns : goal.returns
returns c =
    let bare : app_of c.no_binary_name.result ≡ without_name (new_app (codes "sj")) =
    ap app_of_fields c.no_binary_name.ensures ∙ ap without_name c.new.ensures.app in
    c.in_ok-line.ensures.shape c.forward_arg.ensures.local
    ∙ ap₂ with_rule (c.in_ok-arg-5.ensures.shape c.workers_arg.ensures.local
    ∙ ap₂ with_rule (c.in_ok-arg-4.ensures.shape c.looks_arg.ensures.local
    ∙ ap₂ with_rule (c.in_ok-arg-3.ensures.shape c.log_arg.ensures.local
    ∙ ap₂ with_rule (c.in_ok-arg-2.ensures.shape c.number_arg.ensures.local
    ∙ ap₂ with_rule (c.in_ok-arg.ensures.shape c.command_arg.ensures.local ∙ ap₂ with_rule bare c.command_arg.ensures.rule) c.number_arg.ensures.rule) c.log_arg.ensures.rule) c.looks_arg.ensures.rule) c.workers_arg.ensures.rule) c.forward_arg.ensures.rule
