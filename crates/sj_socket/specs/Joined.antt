-- The two lanes of a pair of parties: the one's to the other, and the other's from the one.
use Rattle.std.specs.Prelude.{◌≡◌, ◌↔◌, ℕ, List, Some, None, slice_get}
use Rattle.sj_lane.specs.Square.{in_at, out_at}
use Rattle.sj_lane.specs.declared.lane.Lanes.{Lanes}
use Rattle.sj_socket.specs.Ins.{address_in}
use Rattle.sj_socket.specs.Outs.{address_out}
use Rattle.sj_socket.specs.Streams.{TcpIn, TcpOut}
use Rattle.sj_socket.specs.declared.in_lane.SocketIn.{SocketIn}
use Rattle.sj_socket.specs.declared.out_lane.SocketOut.{SocketOut}

-- the stream from which the one pops comes from the address of the end on which the other pushes; or both are lists
abbrev pub IsJoined : {W R : Type 0} → SocketOut W → SocketIn R → Type 0
IsJoined o i = address_in i ≡ address_out o

-- the two lanes from p to q are those of one stream, or lists where p is q
pub record IsLink (p q : ℕ) (o : TcpOut) (i : TcpIn) : Type 0 where
  pub joined : IsJoined o i
  pub own : (address_out o ≡ None) ↔ (p ≡ q)

-- so for every p and q
abbrev pub AreLinks : List (Lanes TcpOut TcpIn) → Type 0
AreLinks lanes = (p q : ℕ) (o : TcpOut) (i : TcpIn) → out_at lanes p q ≡ Some o → in_at lanes p q ≡ Some i → IsLink p q o i

-- so for p's lanes to parties, which aren't among the others yet
abbrev pub IsRowLinked : ℕ → List TcpOut → List (Lanes TcpOut TcpIn) → Type 0
IsRowLinked p outs lanes = (q : ℕ) (o : TcpOut) (i : TcpIn) → slice_get outs q ≡ Some o → in_at lanes p q ≡ Some i → IsLink p q o i
