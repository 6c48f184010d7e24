-- The rows on one end, each None where it doesn't fit. `pick old told` is the new base of a cache.
use Rattle.std.specs.Prelude.{ℕ, ◌+◌, ◌-◌, ◌≤◌, max, Bool, true, false, ◌&&◌, not, ◌==◌, nat_lt, nat_le, if◌then◌else◌, List, [], ◌∷◌, ◌++◌, drop, length, Option, Some, None, option_map, option_and_then}
use Rattle.sj_base.specs.declared.EndId.{EndId}
use Rattle.sj_base.specs.declared.Msg.{Msg}
use Rattle.sj_rules.specs.Limits.{limit_of_conns}
use Rattle.sj_rules.specs.Record.{EndAt, BodyAt, Carry, Fin, Claim, Signal, Ack, Give, Open, Mail, HeldAt, other_end}
pub use Rattle.sj_rules.specs.Worked.{Worked, mails_of, with_first, with_last}

-- a choice of bases: from the old one up to the larger of it and what was reported
abbrev pub IsPick : (ℕ → ℕ → ℕ) → Type 0
IsPick pick = (old told : ℕ) → (old ≤ pick old told) × (pick old told ≤ max old told)

-- the cache begins at a new base, once that number was reported
abbrev pub trimmed_end : {P : Type 0} → (ℕ → ℕ → ℕ) → EndAt P → ℕ → EndAt P
trimmed_end pick e told = record e { base = pick e.base told; cache = drop (pick e.base told - e.base) e.cache }

-- the messages as Carries, the first with that number
abbrev pub numbered_carries : {P : Type 0} → EndId → ℕ → ℕ → ℕ → List Msg → List (BodyAt P)
numbered_carries to conn taken number [] = []
numbered_carries to conn taken number (m ∷ ms) = Carry to conn number taken m ∷ numbered_carries to conn taken (number + 1) ms

-- the cached messages from that number on
abbrev pub cached_from : {P : Type 0} → EndAt P → ℕ → List Msg
cached_from e start = drop (start - e.base) e.cache

-- the Carries that go again to the peer
abbrev pub resent_posts : {P : Type 0} → EndAt P → ℕ → List (Mail P)
resent_posts e start = mails_of e.peer (numbered_carries (other_end e.id) e.conn e.taken start (cached_from e start))

-- the next connection number, with that peer
abbrev pub end_with_peer : {P : Type 0} → EndAt P → ℕ → EndAt P
end_with_peer e peer = record e { conn = e.conn + 1; peer = peer }

-- a Signal from the peer under the own number, which isn't the last one; what it reports was sent
-- and is in the cache
abbrev pub signal_fits : {P : Type 0} → EndAt P → (origin conn taken : ℕ) → Bool
signal_fits e origin conn taken =
    (conn == e.conn) && nat_lt e.conn limit_of_conns && (origin == e.peer) && nat_le e.base taken && nat_le taken e.sent

-- a Signal at an end that is Held, Parked or Closed: an Ack, and the cache again from the number on
abbrev pub passive : {P : Type 0} → (ℕ → ℕ → ℕ) → EndAt P → (origin conn party taken : ℕ) → Option (Worked P (EndAt P))
passive pick e origin conn party taken =
    if signal_fits e origin conn taken
    then Some (record {
      state = trimmed_end pick (end_with_peer e party) taken;
      posts = record { party = origin; body = Ack (other_end e.id) e.conn }
          ∷ resent_posts (trimmed_end pick (end_with_peer e party) taken) taken;
    })
    else None

-- the same at a Closed end, which sends its Fin again
abbrev pub passive_closed : {P : Type 0} → (ℕ → ℕ → ℕ) → EndAt P → (origin conn party taken : ℕ) → Option (Worked P (EndAt P))
passive_closed pick e origin conn party taken =
    option_map
    (with_last (record { party = party; body = Fin (other_end e.id) (e.conn + 1) e.sent } ∷ []))
    (passive pick e origin conn party taken)

-- a Signal at a Signalled end: what goes to the new party
abbrev pub crossing_body : {P : Type 0} → (ℕ → ℕ → ℕ) → EndAt P → (origin conn party taken : ℕ) → Option (BodyAt P)
crossing_body pick e origin conn party taken =
    if signal_fits e origin conn taken
    then Some (Give (trimmed_end pick (end_with_peer e party) taken) (Some taken))
    else None

-- an Ack at a Signalled end: what goes to the new party
abbrev pub acked_body : {P : Type 0} → EndAt P → (origin conn : ℕ) → Option (BodyAt P)
acked_body e origin conn =
    if (conn == e.conn) && nat_lt e.conn limit_of_conns && (origin == e.peer)
    then Some (Give (end_with_peer e e.peer) None)
    else None

-- the same at a Held end
abbrev pub with_end : {P : Type 0} → HeldAt P → Worked P (EndAt P) → Worked P (HeldAt P)
with_end h w = record { state = record h { end = w.state }; posts = w.posts }

-- a Carry, Fin or Signal at a Held end
abbrev pub at_held : {P : Type 0} → (ℕ → ℕ → ℕ) → HeldAt P → (origin : ℕ) → BodyAt P → Option (Worked P (HeldAt P))
at_held pick h origin (Carry to conn number taken msg) =
    if (conn == h.end.conn) && (origin == h.end.peer) && not h.fin && (number == h.end.taken + length h.untaken)
    && nat_le h.end.base taken && nat_le taken h.end.sent
    then Some (record { state = record { end = trimmed_end pick h.end taken; untaken = h.untaken ++ msg ∷ []; fin = h.fin }; posts = [] })
    else None
at_held pick h origin (Fin to conn number) =
    if (conn == h.end.conn) && (origin == h.end.peer) && not h.fin && (number == h.end.taken + length h.untaken)
    then Some (record { state = record h { fin = true }; posts = [] })
    else None
at_held pick h origin (Signal to conn party taken) =
    option_map (with_end h) (passive pick h.end origin conn party taken)
at_held pick h origin (Claim of) = None
at_held pick h origin (Ack of conn) = None
at_held pick h origin (Give e resend) = None
at_held pick h origin (Open sess) = None

-- what was deferred, in order
abbrev pub worked_record : {P : Type 0} → (ℕ → ℕ → ℕ) → HeldAt P → List (Mail P) → Option (Worked P (HeldAt P))
worked_record pick h [] = Some (record { state = h; posts = [] })
worked_record pick h (m ∷ ms) =
    option_and_then
    (λ w. option_map (with_first w.posts) (worked_record pick w.state ms))
    (at_held pick h m.party m.body)

-- what a Give asks to be sent again was sent and is in its cache
abbrev pub resend_fits : {P : Type 0} → EndAt P → Option ℕ → Bool
resend_fits e None = true
resend_fits e (Some n) = nat_le e.base n && nat_le n e.sent

-- the Carries of a Give with a resend
abbrev pub resent_at : {P : Type 0} → EndAt P → Option ℕ → List (Mail P)
resent_at e None = []
resent_at e (Some n) = resent_posts e n

-- a Give at an Expected record: Held at its place, the cache again, then each deferred frame by its
-- row
abbrev pub install : {P : Type 0} → (ℕ → ℕ → ℕ) → (place : P) → (deferred : List (Mail P)) → EndAt P → (resend : Option ℕ) → Option (Worked P (HeldAt P))
install pick place deferred e resend =
    if resend_fits e resend
    then option_map
    (with_first (resent_at e resend))
    (worked_record pick (record { end = record e { place = place }; untaken = []; fin = false }) deferred)
    else None
