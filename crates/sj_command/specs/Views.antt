-- How a line looks to definitions.
use Rattle.std.specs.Option.{option_map}
use Rattle.sj_command.specs.declared.parts.Line.{Line}
use Rattle.sj_command.specs.Task.{ArgumentsAt}

-- the texts of its parts
abbrev pub line_of : Line → ArgumentsAt
line_of l = record {
  command = option_map (λ s. s.now) l.command;
  number = option_map (λ s. s.now) l.number;
  log = option_map (λ s. s.now) l.log;
  looks = option_map (λ s. s.now) l.looks;
  workers = option_map (λ s. s.now) l.workers;
  forward = option_map (λ s. s.now) l.forward;
}
