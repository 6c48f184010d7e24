-- What a node notes of a session that it opens, and which end of it is its party's.
use Rattle.std.specs.Prelude.{◌≡◌, Some}
use Rattle.sj_base.specs.declared.EndId.{EndId}
use Rattle.sj_end.specs.declared.note.Note.{Note}
use Rattle.sj_node.specs.Requests.{accept_note, accepted_by, request_note, requested_by}
use Rattle.sj_node.specs.declared.node.Node.{Node}
use Rattle.sj_seat.specs.declared.wish.OpenWish.{OpenWish}
use Rattle.sj_seat.specs.declared.wish.OpenWish.TheVariants.{Request, Accept}

-- what is noted
abbrev pub note_opening : Node → OpenWish → Note
note_opening n (Request q m) = request_note n q
note_opening n (Accept q m) = accept_note n q

-- the end that is opened
abbrev pub Opens : Node → OpenWish → EndId → Type 0
Opens n (Request q m) e = e ≡ requested_by n
Opens n (Accept q m) e = Some e ≡ accepted_by n q
