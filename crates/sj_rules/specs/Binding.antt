-- Which ends a program binds after a step, and what a message names.
use Rattle.std.specs.Prelude.{◌≡◌, ◌⊎◌, ◌↔◌, ℕ, ◌<◌, ◌≤◌, Bool, true, false, ⊤}
use Rattle.sj_base.specs.declared.EndId.{EndId}
use Rattle.sj_base.specs.declared.Msg.{Msg}
use Rattle.sj_base.specs.declared.Msg.TheVariants as msgs
use Rattle.sj_rules.specs.Record.{is_same_end}
use Rattle.sj_rules.specs.Limits.{first_opened}
use Rattle.sj_rules.specs.Opened.{opened_number}

-- the same ends
abbrev pub BindsSame : {Q : Type 0} → (binds : Q → EndId → Bool) → (old new : Q) → Type 0
BindsSame binds old new = (f : EndId) → (binds new f ≡ true) ↔ (binds old f ≡ true)

-- all but that end
abbrev pub BindsWithout : {Q : Type 0} → (binds : Q → EndId → Bool) → (old new : Q) → EndId → Type 0
BindsWithout binds old new e = (f : EndId) → (binds new f ≡ true) ↔ ((binds old f ≡ true) × (is_same_end f e ≡ false))

-- that end too
abbrev pub BindsAlso : {Q : Type 0} → (binds : Q → EndId → Bool) → (old new : Q) → EndId → Type 0
BindsAlso binds old new e = (f : EndId) → (binds new f ≡ true) ↔ ((is_same_end f e ≡ true) ⊎ (binds old f ≡ true))

-- a message binds the end that it names
abbrev pub BindsTaken : {Q : Type 0} → (binds : Q → EndId → Bool) → (old new : Q) → Msg → Type 0
BindsTaken binds old new (msgs.Sess sess side keeper) = BindsAlso binds old new (record { sess = sess; side = side })
BindsTaken binds old new (msgs.Int n) = BindsSame binds old new
BindsTaken binds old new (msgs.Bool b) = BindsSame binds old new
BindsTaken binds old new (msgs.Text n) = BindsSame binds old new
BindsTaken binds old new (msgs.Label n) = BindsSame binds old new
BindsTaken binds old new (msgs.More b) = BindsSame binds old new

-- a message that is no session message
abbrev pub NamesNoEnd : Msg → Type 0
NamesNoEnd (msgs.Sess sess side keeper) = ⊥
NamesNoEnd (msgs.Int n) = ⊤
NamesNoEnd (msgs.Bool b) = ⊤
NamesNoEnd (msgs.Text n) = ⊤
NamesNoEnd (msgs.Label n) = ⊤
NamesNoEnd (msgs.More b) = ⊤

-- a session message names another end than that
abbrev pub NamesOther : EndId → Msg → Type 0
NamesOther e (msgs.Sess sess side keeper) = is_same_end e (record { sess = sess; side = side }) ≡ false
NamesOther e (msgs.Int n) = ⊤
NamesOther e (msgs.Bool b) = ⊤
NamesOther e (msgs.Text n) = ⊤
NamesOther e (msgs.Label n) = ⊤
NamesOther e (msgs.More b) = ⊤

-- a session of a connection, or one that a party can open
abbrev pub IsSession : (parties connects sess : ℕ) → Type 0
IsSession parties connects s = (s < connects) ⊎ ((first_opened ≤ s) × (s < opened_number parties 0))

-- what it names is there, among so many parties and connections
abbrev pub NamesKnown : (parties sessions : ℕ) → Msg → Type 0
NamesKnown parties sessions (msgs.Sess sess side keeper) = IsSession parties sessions sess × (side < 2) × (keeper < parties)
NamesKnown parties sessions (msgs.Int n) = ⊤
NamesKnown parties sessions (msgs.Bool b) = ⊤
NamesKnown parties sessions (msgs.Text n) = ⊤
NamesKnown parties sessions (msgs.Label n) = ⊤
NamesKnown parties sessions (msgs.More b) = ⊤
