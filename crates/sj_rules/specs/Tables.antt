-- One party: its program, its clock, what it opened and what is offered to it, and its records of
-- ends in two tables.
use Rattle.std.specs.Prelude.{ℕ, ◌==◌, if◌then◌else◌, List, [], ◌∷◌, Option, Some, None}
use Rattle.sj_base.specs.declared.EndId.{EndId}
use Rattle.sj_rules.specs.Record.{EndAt, BodyAt, HeldAt, MainAt, Held, Closed, OldAt, Parked, Signalled, is_same_end}
use Rattle.sj_rules.specs.Rows.{Worked}

-- at most one main and one old record for each end
pub record NodeAt (P Q : Type 0) : Type 0 where
  pub program : Q
  pub clock : ℕ
  -- how many sessions it opened, and which sessions each party opened to it that it hasn't accepted
  pub requests : ℕ
  pub offers : (from : ℕ) → List ℕ
  pub main : EndId → Option (MainAt P)
  pub old : EndId → Option (OldAt P)

-- one entry of a table is another from now on
abbrev pub put : {R : Type 0} → EndId → Option R → (EndId → Option R) → EndId → Option R
put e r table = λ d. if is_same_end d e then r else table d

-- the main record of e is that from now on
abbrev pub with_main : {P Q : Type 0} → EndId → Option (MainAt P) → NodeAt P Q → NodeAt P Q
with_main e r n = record n { main = put e r n.main }

-- the old record of e is that from now on
abbrev pub with_old : {P Q : Type 0} → EndId → Option (OldAt P) → NodeAt P Q → NodeAt P Q
with_old e r n = record n { old = put e r n.old }

-- what that party offers is this from now on
abbrev pub with_offers : {P Q : Type 0} → ℕ → List ℕ → NodeAt P Q → NodeAt P Q
with_offers q sessions n = record n { offers = λ p. if p == q then sessions else n.offers p }

-- the old record of that connection number
abbrev pub with_number : {P : Type 0} → ℕ → Option (OldAt P) → Option (OldAt P)
with_number conn None = None
with_number conn (Some (Parked e)) = if e.conn == conn then Some (Parked e) else None
with_number conn (Some (Signalled e to)) = if e.conn == conn then Some (Signalled e to) else None

-- what a row at a Held end makes of the node
abbrev pub held_after : {P Q : Type 0} → NodeAt P Q → EndId → Worked P (HeldAt P) → Worked P (NodeAt P Q)
held_after n e w = record { state = with_main e (Some (Held w.state)) n; posts = w.posts }

-- at a Closed end
abbrev pub closed_after : {P Q : Type 0} → NodeAt P Q → EndId → Worked P (EndAt P) → Worked P (NodeAt P Q)
closed_after n e w = record { state = with_main e (Some (Closed w.state)) n; posts = w.posts }

-- at a Parked end
abbrev pub parked_after : {P Q : Type 0} → NodeAt P Q → EndId → Worked P (EndAt P) → Worked P (NodeAt P Q)
parked_after n e w = record { state = with_old e (Some (Parked w.state)) n; posts = w.posts }

-- the end leaves with that Give
abbrev pub given_after : {P Q : Type 0} → NodeAt P Q → EndId → ℕ → BodyAt P → Worked P (NodeAt P Q)
given_after n e to give = record { state = with_old e None n; posts = record { party = to; body = give } ∷ [] }

-- nothing is sent
abbrev pub quietly : {P Q : Type 0} → NodeAt P Q → Worked P (NodeAt P Q)
quietly n = record { state = n; posts = [] }
