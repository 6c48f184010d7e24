-- Lanes from which parties pop: what came, and what a pop takes of it.
use Rattle.std.specs.Prelude.{◌≡◌, ⊤, ℕ, List, [], ◌∷◌, ◌++◌, Option, Some, None}
use Rattle.std.specs.Io.KnownBytes.{Consumes}
use Rattle.std.specs.declared.net.socket_addr.SocketAddr.{SocketAddr}
use Rattle.sj_end.specs.Views.{frame_at}
use Rattle.sj_end.specs.declared.frames.Frame.{Frame}
use Rattle.sj_wire.specs.Front.{Front, Cut, Refused, Whole, front_of}
use Rattle.sj_socket.specs.declared.in_lane.InWay.{InWay}
use Rattle.sj_socket.specs.declared.in_lane.InWay.TheVariants as ways
use Rattle.sj_socket.specs.declared.in_lane.Reader.{Reader}
use Rattle.sj_socket.specs.declared.in_lane.SocketIn.{SocketIn}

-- the bytes that came of the stream and that no frame used up
abbrev pub unused : {R : Type 0} → Reader R → List ℕ
unused r = r.decoder ++ r.piece

-- what stands at the start is no frame, whatever comes after it
abbrev pub IsNoFrame : Front → Type 0
IsNoFrame Cut = ⊥
IsNoFrame (Refused w) = ⊤
IsNoFrame (Whole f behind) = ⊥

module _ {R : Type 0} (remaining : R → Option (List ℕ)) where
  -- some bytes came of the stream, after those that were there; where it reports what it has left,
  -- it lost what came
  pub record Comes (v : Reader R) (bytes : List ℕ) (w : Reader R) : Type 0 where
    pub came : List ℕ
    pub all : bytes ≡ unused v ++ came
    pub left : Consumes (remaining v.stream) (remaining w.stream) came

  -- what came begins with the frame, and only what is after it is left
  pub record FrameComes (v : Reader R) (f : Frame) (w : Reader R) : Type 0 where
    pub bytes : List ℕ
    pub comes : Comes v bytes w
    pub front : front_of bytes ≡ Whole (frame_at f) (unused w)

  abbrev pub WayGives : InWay R → Frame → InWay R → Type 0
  WayGives (ways.Own xs) f (ways.Own ys) = xs.items ≡ f ∷ ys.items
  WayGives (ways.Own xs) f (ways.Stream w) = ⊥
  WayGives (ways.Stream v) f (ways.Own ys) = ⊥
  WayGives (ways.Stream v) f (ways.Stream w) = FrameComes v f w

  abbrev pub WayReads : InWay R → InWay R → Type 0
  WayReads (ways.Own xs) (ways.Own ys) = ys.items ≡ xs.items
  WayReads (ways.Own xs) (ways.Stream w) = ⊥
  WayReads (ways.Stream v) (ways.Own ys) = ⊥
  WayReads (ways.Stream v) (ways.Stream w) = Comes v (unused w) w

  -- the frame is the one with which what came of the stream begins, or the first of the list
  abbrev pub IsGiven : SocketIn R → Frame → SocketIn R → Type 0
  IsGiven a f b = WayGives a.way f b.way

  -- no frame is taken: all that came is there still, and what comes now is after it; a list stays
  abbrev pub GivesNothing : SocketIn R → SocketIn R → Type 0
  GivesNothing a b = WayReads a.way b.way

module _ {R : Type 0} where
  abbrev pub way_address : InWay R → Option SocketAddr
  way_address (ways.Own frames) = None
  way_address (ways.Stream r) = Some r.address

  -- the address from which the lane's stream comes; a list has none
  abbrev pub address_in : SocketIn R → Option SocketAddr
  address_in i = way_address i.way

  abbrev pub WayIsOfStream : InWay R → Type 0
  WayIsOfStream (ways.Own frames) = ⊥
  WayIsOfStream (ways.Stream reader) = ⊤

  -- it comes from another party
  abbrev pub IsOfStream : SocketIn R → Type 0
  IsOfStream i = WayIsOfStream i.way

  abbrev pub way_unused : InWay R → List ℕ
  way_unused (ways.Own frames) = []
  way_unused (ways.Stream r) = unused r

  -- the bytes that came of a stream and that no frame used up; of a list none do
  abbrev pub unused_in : SocketIn R → List ℕ
  unused_in i = way_unused i.way

  abbrev pub WayIsAllRead : InWay R → Type 0
  WayIsAllRead (ways.Own frames) = frames.items ≡ []
  WayIsAllRead (ways.Stream r) = front_of (unused r) ≡ Cut

  -- no frame is left: what came of a stream is less than one
  abbrev pub IsAllRead : SocketIn R → Type 0
  IsAllRead i = WayIsAllRead i.way

  -- a stream stays as it is, with what came of it; a list may change
  abbrev pub WayStays : InWay R → InWay R → Type 0
  WayStays (ways.Own xs) (ways.Own ys) = ⊤
  WayStays (ways.Own xs) (ways.Stream w) = ⊥
  WayStays (ways.Stream v) (ways.Own ys) = ⊥
  WayStays (ways.Stream v) (ways.Stream w) = w ≡ v

  abbrev pub WayIsEmpty : InWay R → Type 0
  WayIsEmpty (ways.Own frames) = frames.items ≡ []
  WayIsEmpty (ways.Stream r) = unused r ≡ []

  -- nothing came, or no frame is in the list
  abbrev pub IsEmpty : SocketIn R → Type 0
  IsEmpty i = WayIsEmpty i.way

  -- nothing was popped from it
  pub record IsNewIn (i : SocketIn R) : Type 0 where
    pub faults : i.faults ≡ 0
    pub vain : i.vain ≡ 0
    pub empty : IsEmpty i
