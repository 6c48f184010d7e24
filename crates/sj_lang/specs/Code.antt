-- What a block of statements is, apart from how it lies in memory.
use Rattle.std.specs.Prelude.{ℕ}
use Rattle.sj_lang.specs.declared.party.Scalar.{Scalar}
use Rattle.sj_lang.specs.Term.{Term}

mutual
  -- statements in order, each with its line
  pub data Code : Type 0 where
    no_stmt : Code
    stmt_then : StmtAt → Code → Code

  pub data StmtAt : Type 0 where
    at : ℕ → DeedAt → StmtAt

  pub data DeedAt : Type 0 where
    send : ℕ → Term → DeedAt
    delegate : ℕ → ℕ → DeedAt
    take_value : ℕ → ℕ → Scalar → DeedAt
    take_end : ℕ → ℕ → ℕ → DeedAt
    outbranch : ℕ → ℕ → DeedAt
    inbranch : ℕ → Branches → DeedAt
    outwhile : ℕ → Term → Code → DeedAt
    inwhile : ℕ → Code → DeedAt
    relay : ℕ → ℕ → Code → DeedAt
    if_else : Term → Code → Code → DeedAt
    let_be : ℕ → Term → DeedAt
    close : ℕ → DeedAt
    -- an end, a protocol and a party, by their names
    request : ℕ → ℕ → ℕ → DeedAt
    accept : ℕ → ℕ → ℕ → DeedAt

  pub data Branches : Type 0 where
    no_branch : Branches
    branch : ℕ → Code → Branches → Branches
