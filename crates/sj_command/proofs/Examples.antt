-- The command line on some words.
use Rattle.std.proofs.Common.{◌≡◌, refl, [], ◌∷◌}
use Rattle.std.specs.Prelude.{codes, true, false, Some, None}
use Rattle.clap.specs.declared.error.kind.ErrorKind.TheVariants as kind
use Rattle.clap.specs.Words.{fault_of}
use Rattle.clap.proofs.OnLiterals.{clap_on_literals}
use Rattle.sj_command.specs.CommandLine.{IsTaken, line}
use Rattle.sj_command.specs.Task.{alone, forwarding, line_in, replaying, running}

pub a_command_alone : line_in (codes "check" ∷ []) ≡ alone (codes "check") None
unfolding clap_on_literals
a_command_alone = refl

pub its_words_are_taken : IsTaken (codes "check" ∷ [])
unfolding clap_on_literals
its_words_are_taken = refl

pub a_command_and_a_number : line_in (codes "make" ∷ codes "12" ∷ []) ≡ alone (codes "make") (Some (codes "12"))
unfolding clap_on_literals
a_command_and_a_number = refl

pub a_command_and_the_flag : line_in (codes "run" ∷ codes "--log" ∷ []) ≡ running true None None
unfolding clap_on_literals
a_command_and_the_flag = refl

pub a_command_and_the_option : line_in (codes "run" ∷ codes "--looks" ∷ codes "5" ∷ []) ≡ running false (Some (codes "5")) None
unfolding clap_on_literals
a_command_and_the_option = refl

pub the_option_has_a_sign : line_in (codes "--looks=5" ∷ codes "run" ∷ []) ≡ running false (Some (codes "5")) None
unfolding clap_on_literals
the_option_has_a_sign = refl

pub both_options_and_the_flag :
    line_in (codes "run" ∷ codes "--workers" ∷ codes "4" ∷ codes "--log" ∷ codes "--looks" ∷ codes "5" ∷ []) ≡ running true (Some (codes "5")) (Some (codes "4"))
unfolding clap_on_literals
both_options_and_the_flag = refl

pub the_other_flag : line_in (codes "run" ∷ codes "--forward" ∷ []) ≡ forwarding
unfolding clap_on_literals
the_other_flag = refl

pub another_command_and_the_flag : line_in (codes "replay" ∷ codes "--log" ∷ []) ≡ replaying true
unfolding clap_on_literals
another_command_and_the_flag = refl

-- a call for help is refused, and so no command
pub help_is_no_command : fault_of line (codes "--help" ∷ []) ≡ kind.DisplayHelp ∷ []
unfolding clap_on_literals
help_is_no_command = refl

-- there is no version to ask for
pub version_is_no_command : fault_of line (codes "--version" ∷ []) ≡ kind.UnknownArgument ∷ []
unfolding clap_on_literals
version_is_no_command = refl

pub no_words_are_no_command : fault_of line [] ≡ kind.MissingRequiredArgument ∷ []
unfolding clap_on_literals
no_words_are_no_command = refl
