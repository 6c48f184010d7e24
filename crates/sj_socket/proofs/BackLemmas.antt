-- What the lanes that come back counted.
use Rattle.std.proofs.Common.{◌≡◌, ℕ, ◌+◌, ◌<◌, min, List, Some, inl, inr, ap, ◌∙◌, arith}
use Rattle.std.specs.Prelude.{slice_get}
use Rattle.sj_lane.specs.declared.lane.Lanes.{Lanes}
use Rattle.sj_lane.specs.Square.{HasFault, NoFault, in_in, out_in}
use Rattle.sj_lane.proofs.SettleLemmas.{in_found, out_found}
use Rattle.sj_socket.specs.Counts.{met, met_by}
use Rattle.sj_socket.specs.Streams.{TcpIn, TcpOut}
use Rattle.sj_socket.proofs.SumLemmas.{below_total, total_none}

-- a sum that begins with nothing
pub from_none : (l n r m : ℕ) → r ≡ min (0 + m) l → min (n + r) l ≡ min (n + m) l
from_none l n r m is = omega arith

pub none_of : (l r m : ℕ) → r ≡ min (0 + m) l → m ≡ 0 → r ≡ 0
none_of l r m is none = omega arith

pub some_of : (l r m : ℕ) → 0 < l → r ≡ min (0 + m) l → 0 < m → 0 < r
some_of l r m last is some = omega arith

module _ (L : List (Lanes TcpOut TcpIn)) where
  pub none_met : NoFault (λ (o : TcpOut). o.faults) (λ (i : TcpIn). i.faults) L → met L ≡ 0
  none_met none = total_none met_by L (λ p l at. by p l at)
    where
      by : (p : ℕ) (l : Lanes TcpOut TcpIn) → slice_get L p ≡ Some l → met_by l ≡ 0
      by p l at =
          let outs = total_none (λ (o : TcpOut). o.faults) l.outs.items (λ q o there. none.outs p q o (ap (λ s. out_in s q) at ∙ there)) in
          let ins = total_none (λ (i : TcpIn). i.faults) l.ins.items (λ q i there. none.ins q p i (ap (λ s. in_in s q) at ∙ there)) in
          omega (arith, outs, ins)

  pub some_met : HasFault (λ (o : TcpOut). o.faults) (λ (i : TcpIn). i.faults) L → 0 < met L
  some_met (inl h) =
      let f = out_found (slice_get L h.0) h.1 h.2 h.3 in
      let own = below_total (λ (o : TcpOut). o.faults) f.0.outs.items h.1 h.2 f.2 in
      let all = below_total met_by L h.0 f.0 f.1 in
      let more = h.4 in
      omega (arith, own, all, more)
  some_met (inr h) =
      let f = in_found (slice_get L h.1) h.0 h.2 h.3 in
      let own = below_total (λ (i : TcpIn). i.faults) f.0.ins.items h.0 h.2 f.2 in
      let all = below_total met_by L h.1 f.0 f.1 in
      let more = h.4 in
      omega (arith, own, all, more)
