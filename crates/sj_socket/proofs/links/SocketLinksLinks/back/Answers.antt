use Rattle.std.proofs.Common.{◌-◌, ◌^◌, ◌∙◌, List, ap, arith}
use Rattle.sj_lane.specs.declared.lane.Lanes.{Lanes}
use Rattle.sj_socket.specs.Counts.{capped_sum, met}
use Rattle.sj_socket.specs.Streams.{TcpIn, TcpOut}
use Rattle.sj_socket.proofs.BackLemmas.{from_none, none_met, none_of, some_met, some_of}
use Rattle.sj_socket.proofs.links.SocketLinksLinks.back.Goals as goal

pub returns-clause-fault : goal.returns-clause-fault
returns-clause-fault g c =
    (c.add_faults-self.ensures.least, λ none. c.add_faults-self.ensures.none (none_of (2 ^ 64 - 1) c.with_all.result (met c.args.lanes.items) (c.with_all.ensures ∙ ap (λ (xs : List (Lanes TcpOut TcpIn)). capped_sum 0 (met xs)) c.deref.ensures.value) (none_met c.args.lanes.items none)))

pub returns-clause-raised : goal.returns-clause-raised
returns-clause-raised g c =
    λ some. c.add_faults-self.ensures.some (some_of (2 ^ 64 - 1) c.with_all.result (met c.args.lanes.items) (omega arith) (c.with_all.ensures ∙ ap (λ (xs : List (Lanes TcpOut TcpIn)). capped_sum 0 (met xs)) c.deref.ensures.value) (some_met c.args.lanes.items some))

pub returns-clause-counts : goal.returns-clause-counts
returns-clause-counts g c =
    c.add_faults-self.ensures.sum ∙ from_none (2 ^ 64 - 1) c.args.self.now.faults c.with_all.result (met c.args.lanes.items) (c.with_all.ensures ∙ ap (λ (xs : List (Lanes TcpOut TcpIn)). capped_sum 0 (met xs)) c.deref.ensures.value)
