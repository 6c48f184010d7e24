-- A push leaves all lanes a square, and their links.
use Rattle.std.proofs.Common.{◌≡◌, ℕ, ◌<◌, List, Some, length, get_or, refl, sym, ap, ◌∙◌, arith}
use Rattle.std.specs.Prelude.{slice_get}
use Rattle.std.proofs.Math.ListN.{set}
use Rattle.std.proofs.lemmas.Option.{slice_get_read}
use Rattle.std.specs.Vec.{with_item}
use Rattle.sj_lane.specs.declared.lane.Lanes.{Lanes}
use Rattle.sj_lane.specs.Square.{AllJoined, IsSquare, out_in}
use Rattle.sj_lane.proofs.CellLemmas.{OutPut, out_joined, out_put}
use Rattle.sj_socket.specs.Joined.{IsJoined}
use Rattle.sj_socket.specs.Outs.{address_out}
use Rattle.sj_socket.specs.Streams.{TcpIn, TcpOut}

-- the lanes with the one on which p pushed to q
abbrev pub with_out : List (Lanes TcpOut TcpIn) → (p q : ℕ) → Lanes TcpOut TcpIn → TcpOut → List (Lanes TcpOut TcpIn)
with_out L p q l r = set L p (record { outs = with_item l.outs q r; ins = l.ins })

module _ (L : List (Lanes TcpOut TcpIn)) (p q : ℕ) (l : Lanes TcpOut TcpIn) (o r : TcpOut) (hp : p < length L) (hq : q < length L) (square : IsSquare L) (read : l ≡ get_or L p l)
    (is : o ≡ get_or l.outs.items q o) where
  at : slice_get L p ≡ Some l
  at = slice_get_read L (length L) p l refl hp read

  within : q < length l.outs.items
  within = let sizes = square p l at in let same = l.outs.ok in omega arith

  put : OutPut L (with_out L p q l r) p q r
  put = out_put L p q l (record { outs = with_item l.outs q r; ins = l.ins }) r at within refl refl

  pub still_square : IsSquare (with_out L p q l r)
  still_square = let m = put in m.square square

  pub still_joined : address_out r ≡ address_out o → AllJoined IsJoined L → AllJoined IsJoined (with_out L p q l r)
  still_joined same joined =
      let there = slice_get_read l.outs.items (length l.outs.items) q o refl within is in
      out_joined IsJoined L (with_out L p q l r) p q o r put (ap (λ s. out_in s q) at ∙ there) (λ i j. j ∙ sym same) joined
