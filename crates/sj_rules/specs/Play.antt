-- What a program wants to do next, and what places and programs do.
use Rattle.std.specs.Prelude.{ℕ, Bool, Option}
use Rattle.sj_base.specs.declared.EndId.{EndId}
use Rattle.sj_base.specs.declared.Msg.{Msg}
use Rattle.sj_lang.specs.declared.proto.Way.{Way}

-- the next step of a program; `takes`, `requests` and `accepts` name the place that an end gets
-- there
pub data Want (P : Type 0) : Type 0 where
  ended : Want P
  local : Want P
  sends : EndId → Msg → Want P
  delegates : EndId → EndId → Want P
  takes : EndId → P → Want P
  closes : EndId → Want P
  requests : P → (to : ℕ) → Want P
  accepts : P → (from : ℕ) → Want P

-- what places and programs do, and how many parties there are. `blank` is the place at its end,
-- `dual` the one that an end has which isn't accepted. `opened` is the program after the step that
-- opened the end or accepted it
pub record Play (P Q : Type 0) : Type 0 where
  pub next : P → Way → Msg → Option P
  pub is_over : P → Bool
  pub blank : P
  pub dual : P → P
  pub wants : Q → Want P
  pub goes : Q → Option Msg → Q
  pub opened : Q → EndId → Q
  pub fits : Q → Msg → Bool
  pub is_worn : Q → Bool
  pub parties : ℕ
