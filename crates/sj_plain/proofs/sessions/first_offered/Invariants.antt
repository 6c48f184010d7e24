use Rattle.std.proofs.Common.{◌≡◌, ◌+◌, ◌≤◌, drop, option_map}
use Rattle.sj_semantics.specs.Requests.{first_offer}
use Rattle.sj_plain.specs.Opened.{requests_in}
use Rattle.sj_plain.proofs.sessions.first_offered.Given as goal

abbrev pub invariant-loop-session : goal.invariant-loop-session
invariant-loop-session l = record {
  few : l.count ≤ l.session-index;
  so_far : first_offer l.to (requests_in l.opened l.from) ≡ option_map (λ k. l.count + k) (first_offer l.to (requests_in (drop l.session-index l.opened) l.from));
}
