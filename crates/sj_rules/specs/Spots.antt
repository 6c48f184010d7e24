-- Where an end lies in a core world, and who awaits it.
use Rattle.std.specs.Prelude.{◌≡◌, ◌⊎◌, ◌↔◌, ℕ, ◌<◌, ◌≤◌, true, ⊤, List, length, Contains, Option, Some, None}
use Rattle.std.specs.List.{filter}
use Rattle.sj_base.specs.declared.EndId.{EndId}
use Rattle.sj_base.specs.declared.Msg.TheVariants as msgs
use Rattle.sj_rules.specs.Record.{EndAt, BodyAt, Mail, MainAt, Held, Closed, Expected, OldAt, Parked, Signalled}
use Rattle.sj_rules.specs.Opened.{is_open_of}
use Rattle.sj_rules.specs.World.{WorldAt}
use Rattle.sj_rules.specs.Shown.{bodies, is_give}
use Rattle.sj_rules.specs.PlainSide.{PlainAt}
use Rattle.sj_rules.specs.Linked.{waiting_at}

-- a Held or Closed record at that party; a Parked or Signalled one; a Give of the end in that lane;
-- an Open of it there
pub data Spot : Type 0 where
  at_main : ℕ → Spot
  at_old : ℕ → Spot
  on_way : (from to : ℕ) → Spot
  in_open : (from to : ℕ) → Spot

-- the end lies there; an Expected record only awaits it
abbrev pub HasMain : {P : Type 0} → Option (MainAt P) → Type 0
HasMain (Some (Held h)) = ⊤
HasMain (Some (Closed e)) = ⊤
HasMain (Some (Expected keeper place deferred)) = ⊥
HasMain None = ⊥

-- the same of an old record
abbrev pub HasOld : {P : Type 0} → Option (OldAt P) → Type 0
HasOld (Some o) = ⊤
HasOld None = ⊥

-- the world has the end at that spot
abbrev pub LiesAt : {P Q : Type 0} → WorldAt P Q → EndId → Spot → Type 0
LiesAt w e (at_main p) = HasMain ((w.nodes p).main e)
LiesAt w e (at_old p) = HasOld ((w.nodes p).old e)
LiesAt {P} w e (on_way from to) = (give : BodyAt P) × Contains (bodies (w.lanes from to)) give × (is_give e give ≡ true)
LiesAt {P} w e (in_open from to) = (body : BodyAt P) × Contains (bodies (w.lanes from to)) body × (is_open_of e body ≡ true)

-- the end lies once, at that spot, or is gone where there is none. No lane has two Gives or two
-- Opens of it; one party at most awaits it, from where it lies
pub record LiesOnce {P Q : Type 0} (w : WorldAt P Q) (e : EndId) : Type 0 where
  pub spot : Option Spot
  pub lies : (at : Spot) → LiesAt w e at ↔ (spot ≡ Some at)
  pub one_give : (from to : ℕ) → length (filter (is_give e) (bodies (w.lanes from to))) ≤ 1
  pub one_open : (from to : ℕ) → length (filter (is_open_of e) (bodies (w.lanes from to))) ≤ 1
  pub awaiter : Option ℕ
  pub awaits : (p keeper : ℕ) (place : P) (late : List (Mail P)) → (w.nodes p).main e ≡ Some (Expected keeper place late) →
      (awaiter ≡ Some p) × ((spot ≡ Some (at_old keeper)) ⊎ (spot ≡ Some (on_way keeper p)))

-- where the world has come to rest nobody awaits the end, and it is parked only where its message
-- waits for an end of side 0 or 1
pub record IsAtRest {P Q : Type 0} (w : WorldAt P Q) (plain : PlainAt P Q) (e : EndId) : Type 0 where
  pub not_awaited : (p keeper : ℕ) (place : P) (late : List (Mail P)) → (w.nodes p).main e ≡ Some (Expected keeper place late) → ⊥
  pub not_signalled : (p to : ℕ) (k : EndAt P) → (w.nodes p).old e ≡ Some (Signalled k to) → ⊥
  -- nor offered, but where its session wasn't accepted
  pub offered : (from p : ℕ) → Contains ((w.nodes p).offers from) e.sess → Contains (plain.offers from p) e.sess
  pub waits : (p : ℕ) (k : EndAt P) → (w.nodes p).old e ≡ Some (Parked k) →
      (d : EndId) × (n : ℕ) × (d.side < 2) × (waiting_at plain d n ≡ Some (msgs.Sess e.sess e.side p))
