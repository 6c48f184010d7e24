-- What the rules see of a plain world.
use Rattle.std.specs.Prelude.{ℕ, ◌+◌, ◌-◌, nat_lt, nat_le, Bool, false, ◌&&◌, ◌==◌, if◌then◌else◌, List, [], ◌∷◌, map, length, slice_get, unwrap_or, Option, Some, None, is_none}
use Rattle.sj_base.specs.declared.EndId.{EndId}
use Rattle.sj_lang.specs.Place.{Place}
use Rattle.sj_semantics.specs.Ends.{EndAt, Session, nowhere, end_at}
use Rattle.sj_semantics.specs.Requests.{Request, Requests, is_offered}
use Rattle.sj_semantics.specs.Program.{Program}
use Rattle.sj_semantics.specs.World.{World}
use Rattle.sj_rules.specs.Limits.{first_opened}
use Rattle.sj_rules.specs.Opened.{opened_number, opener_of}
use Rattle.sj_rules.specs.PlainSide.{PlainSide, PlainAt}
use Rattle.sj_rules.specs.Party.{nobody}

-- the sessions of these requests that are offered to q; p made them, the first of them after k
-- others
abbrev pub offered_from : (q p k : ℕ) → List Request → List ℕ
offered_from q p k [] = []
offered_from q p k (r ∷ rs) = if is_offered q r then opened_number p k ∷ offered_from q p (k + 1) rs else offered_from q p (k + 1) rs

-- the request is there and wasn't accepted
abbrev pub is_unaccepted : Option Request → Bool
is_unaccepted None = false
is_unaccepted (Some r) = is_none r.second

-- the request that opened the session
abbrev pub request_of : Requests → (sess : ℕ) → Option Request
request_of all s = slice_get (all (opener_of s)) (s - opened_number (opener_of s) 0)

-- the end is the one of a session opened at run time that wasn't accepted
abbrev pub is_offered_end : Requests → EndId → Bool
is_offered_end all e = nat_le first_opened e.sess && (e.side == 1) && is_unaccepted (request_of all e.sess)

-- of an end: who sent and who took isn't seen
abbrev pub side_at : (offered : Bool) → EndAt → PlainSide Place
side_at offered e = record { place = e.place; hops = e.hops; sent = map (λ x. x.msg) e.sent; taken = length e.takers; offered = offered }

-- of the end by its name; there is no side above 1
abbrev pub plain_side : Requests → List Session → EndId → PlainSide Place
plain_side all zs e = side_at (is_offered_end all e) (if nat_lt e.side 2 then end_at zs e else nowhere)

-- of the whole world; a party that the file doesn't have does nothing
abbrev pub plain_at : World → PlainAt Place Program
plain_at w = record {
  programs = λ p. unwrap_or (slice_get w.parties p) nobody;
  sides = plain_side w.requests w.sessions;
  requests = λ p. length (w.requests p);
  offers = λ from to. offered_from to from 0 (w.requests from);
}
