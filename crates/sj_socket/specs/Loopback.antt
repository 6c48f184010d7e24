-- The address of this machine itself.
use Rattle.std.specs.Prelude.{◌≡◌, ℕ, [], ◌∷◌}
use Rattle.std.specs.Net.Addr.{ipv4_octets, IsV4And}
use Rattle.std.specs.Net.Socket.{socket_ip, socket_port}
use Rattle.std.specs.declared.net.socket_addr.SocketAddr.{SocketAddr}

-- 127.0.0.1 and the port
pub record IsLoopback (n : ℕ) (a : SocketAddr) : Type 0 where
  pub address : IsV4And (socket_ip a) (λ ip. ipv4_octets ip ≡ 127 ∷ 0 ∷ 0 ∷ 1 ∷ [])
  pub port : socket_port a ≡ n
