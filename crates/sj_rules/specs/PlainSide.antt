-- What the rules see of a plain world: of each end its place, its handovers, and two counts.
use Rattle.std.specs.Prelude.{◌≡◌, ℕ, Bool, ◌+◌, ◌<◌, ◌≤◌, List, ◌++◌, drop, length}
use Rattle.sj_base.specs.declared.EndId.{EndId}
use Rattle.sj_base.specs.declared.Msg.{Msg}
use Rattle.sj_rules.specs.Limits.{limit_of_conns}

-- what the plain world knows of an end: the place, how often it was delegated, and what was sent on
-- it. Also how many of the other end's messages were taken on it
pub record PlainSide (P : Type 0) : Type 0 where
  pub place : P
  pub hops : ℕ
  pub sent : List Msg
  pub taken : ℕ
  -- it is the end of an opened session that wasn't accepted
  pub offered : Bool

-- all programs and ends; how many sessions each party opened, and which ones from one party to
-- another weren't accepted, in order
pub record PlainAt (P Q : Type 0) : Type 0 where
  pub programs : ℕ → Q
  pub sides : EndId → PlainSide P
  pub requests : ℕ → ℕ
  pub offers : (from to : ℕ) → List ℕ

-- what a session's counts keep: x took of what y sent, and handovers are few
pub record CountsFit {P : Type 0} (x y : PlainSide P) : Type 0 where
  pub fewer : x.taken ≤ length y.sent
  pub hops : x.hops + y.hops < limit_of_conns

-- the messages of the one end that the other hasn't taken
abbrev pub untaken_of : {P : Type 0} → PlainSide P → PlainSide P → List Msg
untaken_of s r = drop r.taken s.sent

-- a prefix of what waits
pub record IsFront (untaken waiting : List Msg) : Type 0 where
  pub rest : List Msg
  pub all : waiting ≡ untaken ++ rest
