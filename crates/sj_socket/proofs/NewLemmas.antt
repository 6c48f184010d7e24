-- What holds of links that are all made.
use Rattle.std.proofs.Common.{◌≡◌, ℕ, List, Some, arith}
use Rattle.std.specs.Prelude.{slice_get, Option, false}
use Rattle.std.proofs.lemmas.Option.{slice_get_within}
use Rattle.sj_lang.specs.Place.{Place}
use Rattle.sj_rules.specs.Frames.{FrameAt}
use Rattle.sj_lane.specs.declared.lane.Lanes.{Lanes}
use Rattle.sj_lane.specs.Square.{AllJoined, IsFresh, IsSquare, NoFault, in_at, out_at}
use Rattle.sj_lane.proofs.MemRowsLemmas.{all_get}
use Rattle.sj_lane.proofs.SettleLemmas.{in_found, out_found}
use Rattle.sj_socket.specs.Idle.{AreIdle}
use Rattle.sj_socket.specs.Ins.{IsNewIn}
use Rattle.sj_socket.specs.Joined.{IsJoined}
use Rattle.sj_socket.specs.Outs.{IsNewOut}
use Rattle.sj_socket.specs.Rows.{AreNewIns, AreNewOuts, Grid}
use Rattle.sj_socket.specs.Streams.{TcpIn, TcpOut}

module _ (n : ℕ) (L : List (Lanes TcpOut TcpIn)) (grid : Grid n n 0 L) where
  has_all : (k : ℕ) (l : Lanes TcpOut TcpIn) → slice_get L k ≡ Some l → AreNewOuts n l.outs.items × AreNewIns n l.ins.items
  has_all k l at =
      let has = grid.each k l at in let within = slice_get_within L k l at in let size = grid.size in
      (has.outs (omega (arith, within, size)), has.ins (omega arith))

  new_out : (p q : ℕ) (o : TcpOut) → out_at L p q ≡ Some o → IsNewOut o
  new_out p q o h =
      let f = out_found (slice_get L p) q o h in
      let news = has_all p f.0 f.1 in
      all_get IsNewOut f.0.outs.items q o news.0.each f.2

  new_in : (p q : ℕ) (i : TcpIn) → in_at L p q ≡ Some i → IsNewIn i
  new_in p q i h =
      let f = in_found (slice_get L q) p i h in
      let news = has_all q f.0 f.1 in
      all_get IsNewIn f.0.ins.items p i news.1.each f.2

  pub new_square : IsSquare L
  new_square p l at =
      let news = has_all p l at in
      let size = grid.size in let outs = news.0.size in let ins = news.1.size in let a = l.outs.ok in let b = l.ins.ok in
      (omega arith, omega arith)

  pub new_fresh : (pushed : TcpOut → Option (List (FrameAt Place))) (popped : TcpIn → Option (List (FrameAt Place))) →
      IsFresh pushed popped (λ (o : TcpOut). o.vain) (λ (i : TcpIn). i.vain) false L
  new_fresh pushed popped = record {
    outs = λ p q o h. let a = new_out p q o h in (λ t. absurd (cc t), a.vain);
    ins = λ p q i h. let a = new_in p q i h in (λ t. absurd (cc t), a.vain);
  }

  pub new_faultless : NoFault (λ (o : TcpOut). o.faults) (λ (i : TcpIn). i.faults) L
  new_faultless = record {
    outs = λ p q o h. let a = new_out p q o h in a.faults;
    ins = λ p q i h. let a = new_in p q i h in a.faults;
  }

  pub new_joined : AllJoined IsJoined L
  new_joined p q o i at bt = let link = grid.links p q o i at bt in link.joined

  pub new_idle : AreIdle L
  new_idle = record {
    outs = λ p q o h. let a = new_out p q o h in a.idle;
    ins = λ p q i h. let a = new_in p q i h in a.empty;
  }
