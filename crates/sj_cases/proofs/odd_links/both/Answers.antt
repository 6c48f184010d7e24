use Rattle.std.proofs.Common.{rules}
use Rattle.sj_cases.proofs.odd_links.both.Goals as goal

pub returns : goal.returns
returns c = record {
  first = c.in_ok-odd_lanes.field-0;
  second = c.in_ok-odd_lanes-2.field-0;
  all = search rules;
  first_is = search rules;
  second_is = search rules;
}
