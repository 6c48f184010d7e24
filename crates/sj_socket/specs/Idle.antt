-- Lanes over which nothing goes yet.
use Rattle.std.specs.Prelude.{◌≡◌, ℕ, List, Some}
use Rattle.sj_lane.specs.Square.{in_at, out_at}
use Rattle.sj_lane.specs.declared.lane.Lanes.{Lanes}
use Rattle.sj_socket.specs.Ins.{IsEmpty}
use Rattle.sj_socket.specs.Outs.{IsIdle}
use Rattle.sj_socket.specs.Streams.{TcpIn, TcpOut}

-- between no two parties are bytes left to write, has one come, or is a frame in a list
pub record AreIdle (lanes : List (Lanes TcpOut TcpIn)) : Type 0 where
  pub outs : (p q : ℕ) (o : TcpOut) → out_at lanes p q ≡ Some o → IsIdle o
  pub ins : (p q : ℕ) (i : TcpIn) → in_at lanes p q ≡ Some i → IsEmpty i
