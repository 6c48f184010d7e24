-- New lanes, which are made for one party after the other.
use Rattle.std.specs.Prelude.{◌≡◌, ℕ, ◌+◌, ◌<◌, ◌≤◌, List, [], Some, length, slice_get}
use Rattle.std.specs.List.{AllByRecursion}
use Rattle.sj_lane.specs.declared.lane.Lanes.{Lanes}
use Rattle.sj_socket.specs.Ins.{IsNewIn}
use Rattle.sj_socket.specs.Joined.{AreLinks, IsLink}
use Rattle.sj_socket.specs.Outs.{IsNewOut}
use Rattle.sj_socket.specs.Streams.{TcpIn, TcpOut}

-- the two new lanes from p to q
pub record IsNewLink (p q : ℕ) (o : TcpOut) (i : TcpIn) : Type 0 where
  pub out : IsNewOut o
  pub lane : IsNewIn i
  pub link : IsLink p q o i

-- so many new lanes to parties
pub record AreNewOuts (n : ℕ) (outs : List TcpOut) : Type 0 where
  pub size : length outs ≡ n
  pub each : AllByRecursion IsNewOut outs

-- so many new lanes from parties
pub record AreNewIns (n : ℕ) (ins : List TcpIn) : Type 0 where
  pub size : length ins ≡ n
  pub each : AllByRecursion IsNewIn ins

-- what party k has: its lanes to all where it is below p, or else none, and its lanes from p and those below where it is below q
pub record HasSome (n p q k : ℕ) (l : Lanes TcpOut TcpIn) : Type 0 where
  pub outs : k < p → AreNewOuts n l.outs.items
  pub no_outs : p ≤ k → l.outs.items ≡ []
  pub more_ins : k < q → AreNewIns (p + 1) l.ins.items
  pub ins : q ≤ k → AreNewIns p l.ins.items

-- the links so far: all from parties below p, and those from p to parties below q
pub record Grid (n p q : ℕ) (lanes : List (Lanes TcpOut TcpIn)) : Type 0 where
  pub size : length lanes ≡ n
  pub each : (k : ℕ) (l : Lanes TcpOut TcpIn) → slice_get lanes k ≡ Some l → HasSome n p q k l
  pub links : AreLinks lanes
