-- Frames that are looked through for a Give.
use Rattle.std.proofs.Common.{zero, suc, ◌≡◌, ℕ, ◌+◌, ◌<◌, List, [], ◌∷◌, get_or, length, map, take, subst, sym, arith}
use Rattle.std.specs.Prelude.{Some, slice_get}
use Rattle.std.specs.declared.alloc.Global.{Global}
use Rattle.std.specs.declared.collections.VecDeque.{VecDeque}
use Rattle.sj_table.specs.declared.table.Spot.{Spot}
use Rattle.sj_rules.specs.Frames.{FrameAt, IsNoGive}
use Rattle.sj_end.specs.declared.frames.Frame.{Frame}
use Rattle.sj_end.specs.Views.{frame_at}
use Rattle.sj_node.specs.Gives.{HasNoGive}
use Rattle.sj_node.specs.Outs.{waiting_in}
use Rattle.sj_node.proofs.OutLemmas.{waiting_here}

one_more : (xs : List Frame) (i : ℕ) (f : Frame) → HasNoGive (map frame_at (take i xs)) → slice_get xs i ≡ Some f → IsNoGive (frame_at f).body → HasNoGive (map frame_at (take (suc i) xs))
one_more [] i f so at is = absurd (cc at)
one_more (x ∷ xs) zero f so at is = let same : f ≡ x = cc at in (subst (λ (g : Frame). IsNoGive (frame_at g).body) same is, tt)
one_more (x ∷ xs) (suc i) f so at is = (so.0, one_more xs i f so.1 at is)

-- with one frame more
pub none_more : (xs : List Frame) (i : ℕ) (f : Frame) → HasNoGive (map frame_at (take i xs)) → slice_get xs i ≡ Some f → IsNoGive (frame_at f).body → HasNoGive (map frame_at (take (i + 1) xs))
none_more xs i f so at is =
    let e : suc i ≡ i + 1 = omega arith in
    subst (λ (n : ℕ). HasNoGive (map frame_at (take n xs))) e (one_more xs i f so at is)

-- none waits in that outbox
pub waiting_at : (outs : List (VecDeque Frame Global)) (q : ℕ) (d : VecDeque Frame Global) → q < length outs → d ≡ get_or outs q d → HasNoGive (map frame_at d.items) → HasNoGive (waiting_in outs q)
waiting_at outs q d lt is none = subst (λ (l : List (FrameAt Spot)). HasNoGive l) (sym (waiting_here outs q d lt is)) none

-- one Give is one too many
pub give_there : (xs : List Frame) (i : ℕ) (f : Frame) → i < length xs → f ≡ get_or xs i f → (IsNoGive (frame_at f).body → ⊥) → HasNoGive (map frame_at xs) → ⊥
give_there [] i f lt at gives none = absurd (omega arith)
give_there (x ∷ xs) zero f lt at gives none = gives (subst (λ (g : Frame). IsNoGive (frame_at g).body) (sym at) none.0)
give_there (x ∷ xs) (suc i) f lt at gives none = give_there xs i f (omega arith) at gives none.1

-- none is in that outbox
pub items_at : (outs : List (VecDeque Frame Global)) (q : ℕ) (d : VecDeque Frame Global) → q < length outs → d ≡ get_or outs q d → HasNoGive (waiting_in outs q) → HasNoGive (map frame_at d.items)
items_at outs q d lt is none = subst (λ (l : List (FrameAt Spot)). HasNoGive l) (waiting_here outs q d lt is) none
