-- A push in memory leaves all lanes as they should be.
use Rattle.std.proofs.Common.{◌≡◌, ℕ, ◌<◌, List, length, get_or, refl, ap, ◌∙◌, arith}
use Rattle.std.proofs.Math.ListN.{set}
use Rattle.std.proofs.lemmas.Option.{slice_get_read}
use Rattle.std.specs.Prelude.{Some}
use Rattle.std.specs.Vec.{with_item}
use Rattle.sj_lane.specs.declared.lane.Lanes.{Lanes}
use Rattle.sj_lane.specs.declared.mem.MemOut.{MemOut}
use Rattle.sj_lane.specs.declared.mem.MemIn.{MemIn}
use Rattle.sj_lane.specs.Mem.{IsCarried, SameOut, come}
use Rattle.sj_lane.specs.Square.{AllJoined, IsSquare, out_at, out_in}
use Rattle.sj_lane.proofs.CellLemmas.{OutPut, out_joined, out_put}

-- the lanes with the one on which p pushed to q
abbrev pub with_out : List (Lanes MemOut MemIn) → (p q : ℕ) → Lanes MemOut MemIn → MemOut → List (Lanes MemOut MemIn)
with_out L p q l r = set L p (record { outs = with_item l.outs q r; ins = l.ins })

pub pushed_there : (L : List (Lanes MemOut MemIn)) (p q : ℕ) (l : Lanes MemOut MemIn) (o r : MemOut) → p < length L → q < length L →
    IsSquare L → AllJoined IsCarried L → l ≡ get_or L p l → o ≡ get_or l.outs.items q o → SameOut o r →
    IsSquare (with_out L p q l r) × AllJoined IsCarried (with_out L p q l r)
pushed_there L p q l o r hp hq is joined read out later =
    let at = slice_get_read L (length L) p l refl hp read in
    let sizes = is p l at in
    let same = l.outs.ok in
    let within : q < length l.outs.items = omega arith in
    let m : OutPut L (with_out L p q l r) p q r = out_put L p q l (record { outs = with_item l.outs q r; ins = l.ins }) r at within refl refl in
    let found : out_at L p q ≡ Some o = ap (λ s. out_in s q) at ∙ slice_get_read l.outs.items (length l.outs.items) q o refl within out in
    (m.square is, out_joined IsCarried L (with_out L p q l r) p q o r m found (λ (i : MemIn) h. later.gone (come i) h) joined)
