-- The command line of `sj` as a value: which words it has, and what it makes of them.
use Rattle.std.specs.Prelude.{◌≡◌, List, [], Option, Some, true, codes}
use Rattle.clap.specs.Words.{App, Rule, Text, first_of, fault_of, matches_of, new_app, new_rule, with_rule}
use Rattle.clap.specs.Simple.{on_top}
use Rattle.clap.specs.declared.builder.ArgAction.TheVariants.{Set, SetTrue}

-- the name of a command, which has to be there
abbrev pub command_rule : Rule
command_rule = record (new_rule (codes "command")) { action = Some Set; required = true }

-- a number after it, which may be there
abbrev pub number_rule : Rule
number_rule = record (new_rule (codes "number")) { action = Some Set }

abbrev pub log_rule : Rule
log_rule = record (new_rule (codes "log")) { long = Some (codes "log"); action = Some SetTrue }

abbrev pub looks_rule : Rule
looks_rule = record (new_rule (codes "looks")) { long = Some (codes "looks"); action = Some Set }

abbrev pub workers_rule : Rule
workers_rule = record (new_rule (codes "workers")) { long = Some (codes "workers"); action = Some Set }

abbrev pub forward_rule : Rule
forward_rule = record (new_rule (codes "forward")) { long = Some (codes "forward"); action = Some SetTrue }

-- the whole line; its words are those after the program's name
abbrev pub line : App
line =
    with_rule (with_rule (with_rule (with_rule (with_rule (with_rule (on_top (λ s. record s { no_binary_name = true }) (new_app (codes "sj"))) command_rule) number_rule) log_rule)
    looks_rule) workers_rule) forward_rule

-- no rule of the line is broken
abbrev pub IsTaken : List Text → Type 0
IsTaken words = fault_of line words ≡ []

-- what the words give to the part of the line that has this name
abbrev pub text_given : Text → List Text → Option Text
text_given id words = first_of id (matches_of line words)
