-- What lines report of the sessions that were opened, and their lines in a transcript, in which ends
-- are told by their sessions and sides.
use Rattle.std.specs.Prelude.{ℕ, zero, suc, ◌+◌, ◌==◌, Bool, true, false, List, [], ◌∷◌, ◌++◌, map, decimal, codes, Option, Some, None, option_map, is_some, if◌then◌else◌}
use Rattle.std.specs.List.{list_any}
use Rattle.sj_base.specs.declared.EndId.{EndId}
use Rattle.sj_lang.specs.FileAt.{FileAt}
use Rattle.sj_semantics.specs.declared.Opened.{Opened}
use Rattle.sj_semantics.specs.Ends.{Session}
use Rattle.sj_semantics.specs.Transcript.{end_lines, end_text, line_of, name_of}
use Rattle.sj_rules.specs.Log.{Accept, LineAt, NoteAt, Request}
use Rattle.sj_seat_laws.specs.SeatedWorld.{no_name}

-- ---- what lines report

-- a session by its number, and the party to which it was opened
pub record RequestTold : Type 0 where
  pub sess : ℕ
  pub to : ℕ

-- that of a Request note of the party a
abbrev pub request_told : ℕ → ℕ → NoteAt → List RequestTold
request_told a p (Request sess to) = if a == p then record { sess = sess; to = to } ∷ [] else []
request_told a p _ = []

-- those of all lines, in order
abbrev pub requests_told : ℕ → List LineAt → List RequestTold
requests_told a [] = []
requests_told a (l ∷ ls) = request_told a l.party l.entry.note ++ requests_told a ls

-- the note accepts the session of that number
abbrev pub is_accept_of : ℕ → NoteAt → Bool
is_accept_of s (Accept sess from) = sess == s
is_accept_of s _ = false

-- one of the lines does
abbrev pub is_accepted_in : ℕ → List LineAt → Bool
is_accepted_in s lines = list_any (λ l. is_accept_of s l.entry.note) lines

-- a name where the session was accepted
abbrev pub accepted_if : Bool → Option ℕ
accepted_if b = if b then Some no_name else None

-- the session that the party opened, its ends without names
abbrev pub told_session : List LineAt → ℕ → RequestTold → Opened
told_session lines a r = record { sess = r.sess; from = a; first = no_name; to = r.to; second = accepted_if (is_accepted_in r.sess lines) }

-- those of so many parties, from party p on
abbrev pub sessions_told : List LineAt → ℕ → ℕ → List Opened
sessions_told lines zero p = []
sessions_told lines (suc n) p = map (told_session lines p) (requests_told p lines) ++ sessions_told lines n (p + 1)

-- ---- their lines

-- the session without its ends' names
abbrev pub unnamed : Opened → Opened
unnamed o = record { sess = o.sess; from = o.from; first = no_name; to = o.to; second = accepted_if (is_some o.second) }

-- the second end, or `-` where nobody accepted it
abbrev pub accepted_end_text : ℕ → Option ℕ → List ℕ
accepted_end_text s None = codes "-"
accepted_end_text s (Some y) = end_text s 1

-- who opened the session, and to whom, each with the end
abbrev pub opened_ends_line : FileAt → Opened → List ℕ
opened_ends_line file o =
    line_of (codes "session" ∷ decimal o.sess ∷ name_of file o.from ∷ end_text o.sess 0 ∷ name_of file o.to ∷ accepted_end_text o.sess o.second ∷ [])

-- the sessions that were opened, each with what was sent on its ends
abbrev pub opened_ends_lines : FileAt → List Session → List Opened → List ℕ
opened_ends_lines file zs [] = []
opened_ends_lines file zs (o ∷ os) =
    opened_ends_line file o ++ end_lines file zs (record { sess = o.sess; side = 0 }) ++ end_lines file zs (record { sess = o.sess; side = 1 }) ++ opened_ends_lines file zs os
