-- What a step does to the ends that it uses.
use Rattle.std.specs.Prelude.{ℕ, zero, suc, ◌+◌, List, [], ◌∷◌, ◌++◌, unwrap_or}
use Rattle.sj_base.specs.declared.EndId.{EndId}
use Rattle.sj_base.specs.declared.Msg.{Msg}
use Rattle.sj_lang.specs.declared.proto.Way.{Way}
use Rattle.sj_lang.specs.declared.proto.Way.TheVariants.{Out, Into}
use Rattle.sj_lang.specs.Place.{Place}
use Rattle.sj_lang.specs.After.{after_place}
use Rattle.sj_semantics.specs.Ends.{EndAt, Session, unopened}

-- a message is sent on the end or taken from it, the end is delegated, or it begins at a place
pub data Use : Type 0 where
  sends : Msg → Use
  takes : Msg → Use
  delegates : Use
  begins : Place → Use

-- the place after the message; it stays where there is none
abbrev pub place_behind : Place → Way → Msg → Place
place_behind place way m = unwrap_or (after_place place way m) place

-- the end after the party's use of it
abbrev pub end_after : ℕ → Use → EndAt → EndAt
end_after p (sends m) e = record { place = place_behind e.place Out m; sent = e.sent ++ record { msg = m; by = p } ∷ []; takers = e.takers; hops = e.hops }
end_after p (takes m) e = record { place = place_behind e.place Into m; sent = e.sent; takers = e.takers ++ p ∷ []; hops = e.hops }
end_after p delegates e = record { place = e.place; sent = e.sent; takers = e.takers; hops = e.hops + 1 }
end_after p (begins place) e = record { place = place; sent = e.sent; takers = e.takers; hops = e.hops }

-- the list with what f makes of the element at that index
abbrev pub altered_list : {X : Type 0} → List X → ℕ → (X → X) → List X
altered_list [] i f = []
altered_list (x ∷ xs) zero f = f x ∷ xs
altered_list (x ∷ xs) (suc i) f = x ∷ altered_list xs i f

-- the session with what f makes of the end of that side
abbrev pub on_side : ℕ → (EndAt → EndAt) → Session → Session
on_side zero f z = record { first = f z.first; second = z.second }
on_side (suc n) f z = record { first = z.first; second = f z.second }

-- the sessions with what f makes of the one of that number; up to it there are sessions then
abbrev pub altered_session : List Session → ℕ → (Session → Session) → List Session
altered_session [] zero f = f unopened ∷ []
altered_session [] (suc s) f = unopened ∷ altered_session [] s f
altered_session (z ∷ zs) zero f = f z ∷ zs
altered_session (z ∷ zs) (suc s) f = z ∷ altered_session zs s f

-- the sessions after the party's uses of ends, one after another
abbrev pub after_uses : ℕ → List (EndId × Use) → List Session → List Session
after_uses p [] zs = zs
after_uses p (u ∷ us) zs = after_uses p us (altered_session zs u.0.sess (on_side u.0.side (end_after p u.1)))
