-- Where the records of a file's ends lie after a run.
use Rattle.std.specs.Prelude.{◌≡◌, ◌⊎◌, ℕ, ◌<◌, ◌≤◌, true, Contains, List, slice_get, Some}
use Rattle.sj_base.specs.declared.EndId.{EndId}
use Rattle.sj_lang.specs.FileAt.{FileAt, ConnectAt}
use Rattle.sj_semantics.specs.Program.{Program}
use Rattle.sj_semantics.specs.Requests.{Request, Requests, opened_number}
use Rattle.sj_rules.specs.Party.{binds}
use Rattle.sj_rules.specs.Start.{connect_of}
use Rattle.sj_rules.specs.Record.{offered_end, requested_end}
use Rattle.sj_forward_rules.specs.Record.{SentAt, StateAt, Held, opened_in}
use Rattle.sj_forward_rules.specs.Node.{HasRecord, held_of}
use Rattle.sj_forward_rules.specs.World.{WorldAt}
use Rattle.sj_forward_laws.specs.Roads.{Chains, behind_of}
use Rattle.sj_forward_laws.specs.Kept.{IsJoined}
use Rattle.sj_forward_rules.specs.Start.{home_by}

-- the end is in use at the party: its last record is there, and is Held
pub record IsInUse {Q : Type 0} (w : WorldAt Q) (c : Chains) (states : EndId → ℕ → StateAt) (p : ℕ) (e : EndId) : Type 0 where
  pub below : e.side < 2
  pub at : c.at e (c.top e) ≡ p
  pub untaken : List SentAt
  pub is : states e (c.top e) ≡ Held untaken
  pub found : held_of (w.nodes p) e ≡ Some (record { hop = c.top e; behind = behind_of c e (c.top e); untaken = untaken })

-- the ends of a session that was opened: the chain of the first begins at its opener and that of
-- the second at the party to which it was opened. Their first records are there, or the second
-- one's Open is on its way
pub record HasHomes (w : WorldAt Program) (c : Chains) (sess opener to : ℕ) : Type 0 where
  pub first : c.at (requested_end sess) 0 ≡ opener
  pub second : c.at (offered_end sess) 0 ≡ to
  pub there : HasRecord (w.nodes opener) (requested_end sess) 0
  pub comes : HasRecord (w.nodes to) (offered_end sess) 0 ⊎ Contains (opened_in (w.lanes opener to)) sess

-- the chains and states are those of the world. Each chain of a connection's end begins at its home
-- and has all its records. The chains of a session that was requested begin at its ends' homes. An
-- end that a program binds is in use at its party
pub record IsLaidOut (file : FileAt) (w : WorldAt Program) (asked : Requests) (c : Chains) (states : EndId → ℕ → StateAt) : Type 0 where
  pub joined : IsJoined w c states
  pub home : (e : EndId) (x : ConnectAt) → e.side < 2 → connect_of file e ≡ Some x → c.at e 0 ≡ home_by file e x
  pub there : (e : EndId) (x : ConnectAt) (h : ℕ) → e.side < 2 → connect_of file e ≡ Some x → h ≤ c.top e → HasRecord (w.nodes (c.at e h)) e h
  pub homes : (p k : ℕ) (r : Request) → slice_get (asked p) k ≡ Some r → HasHomes w c (opened_number p k) p r.to
  pub in_use : (p : ℕ) (e : EndId) → binds (w.nodes p).program e ≡ true → IsInUse w c states p e
