-- What stays of lanes while their streams are tried.
use Rattle.std.specs.Prelude.{◌≡◌, ◌≤◌, ℕ, List, [], Option, Some}
use Rattle.sj_lang.specs.Place.{Place}
use Rattle.sj_rules.specs.Frames.{FrameAt}
use Rattle.sj_lane.specs.Rings.{Each2}
use Rattle.sj_lane.specs.Square.{in_at, out_at}
use Rattle.sj_lane.specs.declared.lane.Lanes.{Lanes}
use Rattle.sj_socket.specs.Ins.{WayStays, address_in}
use Rattle.sj_socket.specs.Outs.{WayFlushes, address_out}
use Rattle.sj_socket.specs.Streams.{TcpIn, TcpOut, told}
use Rattle.sj_socket.specs.declared.in_lane.SocketIn.{SocketIn}
use Rattle.sj_socket.specs.declared.out_lane.SocketOut.{SocketOut}

-- of a lane to another party
pub record OutKept {W : Type 0} (contents : W → Option (List ℕ)) (a b : SocketOut W) : Type 0 where
  pub vain : b.vain ≡ a.vain
  pub faults : a.faults ≤ b.faults
  pub address : address_out b ≡ address_out a
  pub bytes : WayFlushes contents a.way b.way

-- of a lane from another party
pub record InKept {R : Type 0} (a b : SocketIn R) : Type 0 where
  pub vain : b.vain ≡ a.vain
  pub faults : a.faults ≤ b.faults
  pub address : address_in b ≡ address_in a
  pub bytes : WayStays a.way b.way

-- of a party's lanes
pub record LanesKept (a b : Lanes TcpOut TcpIn) : Type 0 where
  pub outs : Each2 (OutKept told) a.outs.items b.outs.items
  pub ins : Each2 InKept a.ins.items b.ins.items

-- between no two parties is anything put on a stream or taken from one: what is left goes on, as far as the stream takes it
pub record AreCarried (lanes later : List (Lanes TcpOut TcpIn)) : Type 0 where
  pub outs : (p q : ℕ) (o r : TcpOut) → out_at lanes p q ≡ Some o → out_at later p q ≡ Some r → WayFlushes told o.way r.way
  pub ins : (p q : ℕ) (i j : TcpIn) → in_at lanes p q ≡ Some i → in_at later p q ≡ Some j → WayStays i.way j.way

-- what links show that don't report: no frames, and no calls in vain
abbrev pub untold : List (FrameAt Place)
untold = []

abbrev pub uncounted : ℕ
uncounted = 0
