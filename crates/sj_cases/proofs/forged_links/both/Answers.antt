use Rattle.std.proofs.Common.{rules}
use Rattle.sj_cases.proofs.forged_links.both.Goals as goal

pub returns : goal.returns
returns c = record {
  first = c.in_ok-party_lanes.field-0;
  second = c.in_ok-party_lanes-2.field-0;
  all = search rules;
  first_has = search rules;
  second_has = search rules;
}
