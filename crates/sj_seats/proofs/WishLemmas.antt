-- What the note of a step tells that opens no session.
use Rattle.std.proofs.Common.{◌≡◌, ℕ, Some, ap, ◌∙◌}
use Rattle.sj_base.specs.declared.Msg.TheVariants as msgs
use Rattle.sj_rules.specs.Log as logs
use Rattle.sj_seat.specs.Wishes.{wished}
use Rattle.sj_seat.specs.declared.wish.Wish.{Wish}
use Rattle.sj_seat.specs.declared.wish.Wish.TheVariants.{Send, Delegate, Take, TakeEnd, Close}
use Rattle.sj_seat_laws.specs.SeatRows.{call_told}

-- what a note tells of a step that opens no session is the same, as whatever protocol sessions were opened
pub call_told_as : (n : ℕ) (asked note : logs.NoteAt) (wish : Wish) → asked ≡ note → call_told 0 note ≡ Some (wished wish) → call_told n asked ≡ Some (wished wish)
call_told_as n asked note wish same told = ap (call_told n) same ∙ by note wish told
  where
    by : (t : logs.NoteAt) (w : Wish) → call_told 0 t ≡ Some (wished w) → call_told n t ≡ Some (wished w)
    by (logs.Sent e (msgs.Sess s d k)) w is = is
    by (logs.Sent e (msgs.Int k)) w is = is
    by (logs.Sent e (msgs.Bool k)) w is = is
    by (logs.Sent e (msgs.Text k)) w is = is
    by (logs.Sent e (msgs.Label k)) w is = is
    by (logs.Sent e (msgs.More k)) w is = is
    by (logs.Took e m) w is = is
    by (logs.Shut e) w is = is
    by (logs.Request s q) (Send e m) is = cc is
    by (logs.Request s q) (Delegate e k) is = cc is
    by (logs.Request s q) (Take e) is = cc is
    by (logs.Request s q) (TakeEnd e) is = cc is
    by (logs.Request s q) (Close e) is = cc is
    by (logs.Accept s q) (Send e m) is = cc is
    by (logs.Accept s q) (Delegate e k) is = cc is
    by (logs.Accept s q) (Take e) is = cc is
    by (logs.Accept s q) (TakeEnd e) is = cc is
    by (logs.Accept s q) (Close e) is = cc is
    by logs.Local w is = cc is
    by (logs.Carry to conn number taken m) w is = cc is
    by (logs.Fin to conn number) w is = cc is
    by (logs.Claim e) w is = cc is
    by (logs.Signal to conn party taken) w is = cc is
    by (logs.Ack e conn) w is = cc is
    by (logs.Give e conn peer sent taken base resend) w is = cc is
    by (logs.Open s) w is = cc is
