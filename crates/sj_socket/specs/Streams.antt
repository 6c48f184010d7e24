-- Lanes over the system's streams.
use Rattle.std.specs.Prelude.{ℕ, List, Option, None}
use Rattle.mio.specs.declared.net.stream.TcpStream.{TcpStream}
use Rattle.sj_socket.specs.declared.in_lane.SocketIn.{SocketIn}
use Rattle.sj_socket.specs.declared.out_lane.SocketOut.{SocketOut}

abbrev pub TcpOut : Type 0
TcpOut = SocketOut TcpStream

abbrev pub TcpIn : Type 0
TcpIn = SocketIn TcpStream

-- what a stream of the system reports of what it has: nothing
abbrev pub told : TcpStream → Option (List ℕ)
told s = None
