-- What the first token of a statement, a block's braces and the kind of a value do to what is due.
use Rattle.std.proofs.Common.{◌≡◌, ℕ, suc, ◌<◌, List, ◌∷◌, refl}
use Rattle.std.specs.Prelude.{codes}
use Rattle.std.proofs.lemmas.Bool.{lt-leb}
use Rattle.sj_lang.specs.declared.party.Scalar.{Scalar}
use Rattle.sj_lang.specs.declared.party.Scalar.TheVariants as scalars
use Rattle.sj_lang.specs.Limits.{Limits}
use Rattle.sj_grammar.specs.Layers.{goes, step}
use Rattle.sj_grammar.specs.ExpressionDues.{whole}
use Rattle.sj_grammar.specs.FileDues.{Due, stmts, block, branches, awaited, name, fixed, expr, semicolon, statement_follow, file_layer}
use Rattle.sj_grammar.specs.Statements.{scalar_piece}

module _ (L : Limits) where
  -- the first token of a statement
  pub send_step : (o n : ℕ) (ds : List Due) → step file_layer L n (stmts o ∷ ds) (codes "send") ≡ goes n (name ∷ expr whole ∷ semicolon ∷ stmts o ∷ ds)
  unfolding statement_follow
  send_step o n ds = refl

  pub delegate_step : (o n : ℕ) (ds : List Due) → step file_layer L n (stmts o ∷ ds) (codes "delegate") ≡ goes n (name ∷ name ∷ semicolon ∷ stmts o ∷ ds)
  unfolding statement_follow
  delegate_step o n ds = refl

  pub recv_step : (o n : ℕ) (ds : List Due) → step file_layer L n (stmts o ∷ ds) (codes "recv") ≡ goes n (name ∷ name ∷ awaited ∷ semicolon ∷ stmts o ∷ ds)
  unfolding statement_follow
  recv_step o n ds = refl

  pub outbranch_step : (o n : ℕ) (ds : List Due) → step file_layer L n (stmts o ∷ ds) (codes "outbranch") ≡ goes n (name ∷ name ∷ semicolon ∷ stmts o ∷ ds)
  unfolding statement_follow
  outbranch_step o n ds = refl

  pub inbranch_step : (o n : ℕ) (ds : List Due) → step file_layer L n (stmts o ∷ ds) (codes "inbranch") ≡ goes n (name ∷ fixed (codes "{") ∷ name ∷ fixed (codes ":") ∷ block o ∷ branches o ∷ fixed (codes "}") ∷ stmts o ∷ ds)
  unfolding statement_follow
  inbranch_step o n ds = refl

  pub outwhile_step : (o n : ℕ) (ds : List Due) → step file_layer L n (stmts o ∷ ds) (codes "outwhile") ≡ goes n (name ∷ expr whole ∷ block o ∷ stmts o ∷ ds)
  unfolding statement_follow
  outwhile_step o n ds = refl

  pub inwhile_step : (o n : ℕ) (ds : List Due) → step file_layer L n (stmts o ∷ ds) (codes "inwhile") ≡ goes n (name ∷ block o ∷ stmts o ∷ ds)
  unfolding statement_follow
  inwhile_step o n ds = refl

  pub relay_step : (o n : ℕ) (ds : List Due) → step file_layer L n (stmts o ∷ ds) (codes "relay") ≡ goes n (name ∷ name ∷ block o ∷ stmts o ∷ ds)
  unfolding statement_follow
  relay_step o n ds = refl

  pub if_step : (o n : ℕ) (ds : List Due) → step file_layer L n (stmts o ∷ ds) (codes "if") ≡ goes n (expr whole ∷ block o ∷ fixed (codes "else") ∷ block o ∷ stmts o ∷ ds)
  unfolding statement_follow
  if_step o n ds = refl

  pub let_step : (o n : ℕ) (ds : List Due) → step file_layer L n (stmts o ∷ ds) (codes "let") ≡ goes n (name ∷ fixed (codes "=") ∷ expr whole ∷ semicolon ∷ stmts o ∷ ds)
  unfolding statement_follow
  let_step o n ds = refl

  pub close_step : (o n : ℕ) (ds : List Due) → step file_layer L n (stmts o ∷ ds) (codes "close") ≡ goes n (name ∷ semicolon ∷ stmts o ∷ ds)
  unfolding statement_follow
  close_step o n ds = refl

  pub request_step : (o n : ℕ) (ds : List Due) → step file_layer L n (stmts o ∷ ds) (codes "request") ≡ goes n (name ∷ name ∷ fixed (codes "to") ∷ name ∷ semicolon ∷ stmts o ∷ ds)
  unfolding statement_follow
  request_step o n ds = refl

  pub accept_step : (o n : ℕ) (ds : List Due) → step file_layer L n (stmts o ∷ ds) (codes "accept") ≡ goes n (name ∷ name ∷ fixed (codes "from") ∷ name ∷ semicolon ∷ stmts o ∷ ds)
  unfolding statement_follow
  accept_step o n ds = refl

  -- and the brace after the last one
  pub close_block : (o n : ℕ) (ds : List Due) → step file_layer L n (stmts o ∷ fixed (codes "}") ∷ ds) (codes "}") ≡ goes n ds
  unfolding statement_follow
  close_block o n ds = refl

  pub open_block : (o n : ℕ) (ds : List Due) → o < L.nesting → step file_layer L n (block o ∷ ds) (codes "{") ≡ goes n (stmts (suc o) ∷ fixed (codes "}") ∷ ds)
  open_block o n ds deep = rw (lt-leb L.nesting o deep) refl

  pub scalar_step : (k : Scalar) (n : ℕ) (ds : List Due) → step file_layer L n (awaited ∷ ds) (scalar_piece k) ≡ goes n ds
  scalar_step scalars.Int n ds = refl
  scalar_step scalars.Boolean n ds = refl
  scalar_step scalars.Text n ds = refl
