-- What a function that reads answers, against the definition.
use Rattle.std.specs.Prelude.{◌≡◌, ℕ, ◌≤◌, List, length, drop, Option, Some, None, Result, Ok, Err, ⊤}
use Rattle.sj_resp.specs.Front.{Front, Cut, Refused, Whole}
use Rattle.sj_resp.specs.Token.{token_at}
use Rattle.sj_resp.specs.declared.token.Token.{Token}
use Rattle.sj_resp.specs.declared.refusal.RespRefusal.{RespRefusal}
use Rattle.sj_resp.specs.declared.refusal.RespRefusal.TheVariants as refusals

-- the start of the bytes is refused for that cause; out of memory says nothing of the bytes
abbrev pub IsRefused : RespRefusal → Front → Type 0
IsRefused refusals.NoMemory front = ⊤
IsRefused refusals.Kind front = front ≡ Refused refusals.Kind
IsRefused refusals.Long front = front ≡ Refused refusals.Long
IsRefused refusals.Line front = front ≡ Refused refusals.Line
IsRefused refusals.Number front = front ≡ Refused refusals.Number
IsRefused refusals.End front = front ≡ Refused refusals.End

-- the answer is the token and how many of the bytes it takes, or none where
-- it is cut, or the refusal
abbrev pub MeetsFront : Result (Option (Token × ℕ)) RespRefusal → Front → (bytes : List ℕ) → Type 0
MeetsFront (Ok None) front bytes = front ≡ Cut
MeetsFront (Ok (Some x)) front bytes = (x.1 ≤ length bytes) × (front ≡ Whole (token_at x.0) (drop x.1 bytes))
MeetsFront (Err e) front bytes = IsRefused e front
