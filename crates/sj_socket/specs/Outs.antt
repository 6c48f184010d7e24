-- Lanes on which parties push: what is left to write, and what a push puts there.
use Rattle.std.specs.Prelude.{◌≡◌, ◌<◌, ⊤, ℕ, List, [], ◌∷◌, ◌++◌, drop, length, Option, Some, None}
use Rattle.std.specs.Io.KnownBytes.{Appends}
use Rattle.std.specs.declared.net.socket_addr.SocketAddr.{SocketAddr}
use Rattle.sj_end.specs.Views.{frame_at}
use Rattle.sj_end.specs.declared.frames.Frame.{Frame}
use Rattle.sj_wire.specs.Spelling.{spelling}
use Rattle.sj_socket.specs.declared.out_lane.OutWay.{OutWay}
use Rattle.sj_socket.specs.declared.out_lane.OutWay.TheVariants as ways
use Rattle.sj_socket.specs.declared.out_lane.SocketOut.{SocketOut}
use Rattle.sj_socket.specs.declared.out_lane.Writer.{Writer}

-- the bytes that were put and that the stream didn't take yet
abbrev pub unsent : {W : Type 0} → Writer W → List ℕ
unsent w = drop w.gone w.rest.items

module _ {W : Type 0} (contents : W → Option (List ℕ)) where
  -- the stream took a prefix of the bytes, and the others are left; where it reports what it has,
  -- that grew by what it took
  pub record Writes (bytes : List ℕ) (v w : Writer W) : Type 0 where
    pub taken : List ℕ
    pub all : bytes ≡ taken ++ unsent w
    pub holds : Appends (contents v.stream) (contents w.stream) taken

  abbrev pub WayPuts : OutWay W → Frame → OutWay W → Type 0
  WayPuts (ways.Own xs) f (ways.Own ys) = ys.items ≡ xs.items ++ f ∷ []
  WayPuts (ways.Own xs) f (ways.Stream w) = ⊥
  WayPuts (ways.Stream v) f (ways.Own ys) = ⊥
  WayPuts (ways.Stream v) f (ways.Stream w) = Writes (unsent v ++ spelling (frame_at f)) v w

  abbrev pub WayWrites : OutWay W → OutWay W → Type 0
  WayWrites (ways.Own xs) (ways.Own ys) = ys.items ≡ xs.items
  WayWrites (ways.Own xs) (ways.Stream w) = ⊥
  WayWrites (ways.Stream v) (ways.Own ys) = ⊥
  WayWrites (ways.Stream v) (ways.Stream w) = Writes (unsent v) v w

  -- of what is left to write a stream takes a prefix; a list may change
  abbrev pub WayFlushes : OutWay W → OutWay W → Type 0
  WayFlushes (ways.Own xs) (ways.Own ys) = ⊤
  WayFlushes (ways.Own xs) (ways.Stream w) = ⊥
  WayFlushes (ways.Stream v) (ways.Own ys) = ⊥
  WayFlushes (ways.Stream v) (ways.Stream w) = Writes (unsent v) v w

  -- the frame's spelling comes after what is left to write, and of that the stream takes a prefix; a list gets the frame at its end
  abbrev pub IsPut : SocketOut W → Frame → SocketOut W → Type 0
  IsPut a f b = WayPuts a.way f b.way

  -- nothing is put: of what is left to write the stream takes a prefix, and a list stays
  abbrev pub PutsNothing : SocketOut W → SocketOut W → Type 0
  PutsNothing a b = WayWrites a.way b.way

module _ {W : Type 0} where
  abbrev pub way_address : OutWay W → Option SocketAddr
  way_address (ways.Own frames) = None
  way_address (ways.Stream w) = Some w.address

  -- the address of the stream's end on which the lane pushes; a list has none
  abbrev pub address_out : SocketOut W → Option SocketAddr
  address_out o = way_address o.way

  abbrev pub WayIsOfStream : OutWay W → Type 0
  WayIsOfStream (ways.Own frames) = ⊥
  WayIsOfStream (ways.Stream writer) = ⊤

  -- it goes to another party
  abbrev pub IsOfStream : SocketOut W → Type 0
  IsOfStream o = WayIsOfStream o.way

  abbrev pub WayHasLeft : OutWay W → Type 0
  WayHasLeft (ways.Own frames) = ⊥
  WayHasLeft (ways.Stream w) = 0 < length (unsent w)

  -- bytes are left that the stream didn't take
  abbrev pub HasLeft : SocketOut W → Type 0
  HasLeft o = WayHasLeft o.way

  abbrev pub WayIsIdle : OutWay W → Type 0
  WayIsIdle (ways.Own frames) = frames.items ≡ []
  WayIsIdle (ways.Stream w) = unsent w ≡ []

  -- nothing is left to write, or no frame is in the list
  abbrev pub IsIdle : SocketOut W → Type 0
  IsIdle o = WayIsIdle o.way

  -- nothing was pushed on it
  pub record IsNewOut (o : SocketOut W) : Type 0 where
    pub faults : o.faults ≡ 0
    pub vain : o.vain ≡ 0
    pub idle : IsIdle o
