-- What a party sends to itself: it goes into a list, and comes to its other end by `carry`.
use Rattle.std.specs.Prelude.{◌≡◌, ⊤, ℕ, List, [], ◌++◌, Option, Some, None, slice_get}
use Rattle.sj_end.specs.declared.frames.Frame.{Frame}
use Rattle.sj_lane.specs.Square.{in_at, out_at}
use Rattle.sj_lane.specs.declared.lane.Lanes.{Lanes}
use Rattle.sj_socket.specs.Streams.{TcpIn, TcpOut}
use Rattle.sj_socket.specs.declared.in_lane.InWay.{InWay}
use Rattle.sj_socket.specs.declared.in_lane.InWay.TheVariants as into
use Rattle.sj_socket.specs.declared.out_lane.OutWay.{OutWay}
use Rattle.sj_socket.specs.declared.out_lane.OutWay.TheVariants as out

abbrev pub list_out : {W : Type 0} → OutWay W → List Frame
list_out (out.Own frames) = frames.items
list_out (out.Stream w) = []

abbrev pub list_in : {R : Type 0} → InWay R → List Frame
list_in (into.Own frames) = frames.items
list_in (into.Stream r) = []

-- the frames in the list on which a lane pushes; a stream has none
abbrev pub sent_on : Option TcpOut → List Frame
sent_on None = []
sent_on (Some o) = list_out o.way

-- the frames in the list from which a lane pops; a stream has none
abbrev pub came_on : Option TcpIn → List Frame
came_on None = []
came_on (Some i) = list_in i.way

-- what p sent to itself and no carry moved yet
abbrev pub own_sent : List (Lanes TcpOut TcpIn) → ℕ → List Frame
own_sent lanes p = sent_on (out_at lanes p p)

-- what came to p from itself and it didn't pop yet
abbrev pub own_came : List (Lanes TcpOut TcpIn) → ℕ → List Frame
own_came lanes p = came_on (in_at lanes p p)

-- both, of a party's lanes
abbrev pub own_all : Lanes TcpOut TcpIn → ℕ → List Frame
own_all l p = came_on (slice_get l.ins.items p) ++ sent_on (slice_get l.outs.items p)

-- a lane's list stays
abbrev pub SameSent : TcpOut → TcpOut → Type 0
SameSent o r = list_out r.way ≡ list_out o.way

-- where both ends are lists, nothing is left to move
abbrev pub WayIsMoved : {W R : Type 0} → OutWay W → InWay R → Type 0
WayIsMoved (out.Own sent) (into.Own came) = sent.items ≡ []
WayIsMoved (out.Own sent) (into.Stream r) = ⊤
WayIsMoved (out.Stream w) came = ⊤

abbrev pub IsMoved : Option TcpOut → Option TcpIn → Type 0
IsMoved None i = ⊤
IsMoved (Some o) None = ⊤
IsMoved (Some o) (Some i) = WayIsMoved o.way i.way
