-- New lanes in memory, and lanes in memory that came back.
use Rattle.std.proofs.Common.{zero, suc, ◌≡◌, ℕ, ◌+◌, List, [], ◌∷◌, ◌++◌, refl, sym, ap, ◌∙◌, append_assoc, length-append, arith}
use Rattle.std.specs.Prelude.{Bool, Option, None, Some, slice_get}
use Rattle.std.specs.List.{AllByRecursion}
use Rattle.sj_lane.specs.declared.lane.Lanes.{Lanes}
use Rattle.sj_lane.specs.declared.mem.MemOut.{MemOut}
use Rattle.sj_lane.specs.declared.mem.MemIn.{MemIn}
use Rattle.sj_lane.specs.Told.{told_list}
use Rattle.sj_lane.specs.Marks.{marks_at}
use Rattle.sj_lane.specs.Mem.{IsCarried, frames_popped, frames_pushed}
use Rattle.sj_lane.specs.MemCarry.{NoneWait, sender_waits, taker_waits}
use Rattle.sj_lane.specs.MemKept.{got_in, sent_in, vain_in_in, vain_out_in}
use Rattle.sj_lane.specs.MemRows.{AreNewIns, AreNewOuts, AreNewRows, IsNewIn, IsNewOut, IsNewRow}
use Rattle.sj_lane.specs.Square.{AllJoined, IsFresh, IsSquare, KeepsLists, in_at, out_at}
use Rattle.sj_lane.proofs.BackLemmas.{square_in, square_out}
use Rattle.sj_lane.proofs.SettleLemmas.{in_found, out_found}

-- what holds of each holds of the one at an index
pub all_get : {X : Type 0} (P : X → Type 0) (xs : List X) (k : ℕ) (x : X) → AllByRecursion P xs → slice_get xs k ≡ Some x → P x
all_get P [] k x all at = absurd (cc at)
all_get P (y ∷ ys) zero x all at = let same : y ≡ x = cc at in rw (← same) all.0
all_get P (y ∷ ys) (suc k) x all at = all_get P ys k x all.1 at

-- one more at the end
pub all_more : {X : Type 0} (P : X → Type 0) (xs : List X) (x : X) → AllByRecursion P xs → P x → AllByRecursion P (xs ++ x ∷ [])
all_more P [] x all here = (here, tt)
all_more P (y ∷ ys) x all here = (all.0, all_more P ys x all.1 here)

pub out_more : (n : ℕ) (outs : List MemOut) (o : MemOut) → AreNewOuts n outs → IsNewOut o → AreNewOuts (n + 1) (outs ++ o ∷ [])
out_more n outs o news new = record { size = let size = news.size in omega (arith, length-append outs (o ∷ [])); each = all_more IsNewOut outs o news.each new }

pub in_more : (n : ℕ) (ins : List MemIn) (i : MemIn) → AreNewIns n ins → IsNewIn i → AreNewIns (n + 1) (ins ++ i ∷ [])
in_more n ins i news new = record { size = let size = news.size in omega (arith, length-append ins (i ∷ [])); each = all_more IsNewIn ins i news.each new }

pub row_more : (n count : ℕ) (lanes : List (Lanes MemOut MemIn)) (l : Lanes MemOut MemIn) → AreNewRows n count lanes → AreNewOuts n l.outs.items → AreNewIns n l.ins.items →
    AreNewRows n (count + 1) (lanes ++ l ∷ [])
row_more n count lanes l news outs ins = record {
  size = let size = news.size in omega (arith, length-append lanes (l ∷ []));
  each = all_more (IsNewRow n) lanes l news.each (record { outs = outs; ins = ins });
}

module _ (n : ℕ) (L : List (Lanes MemOut MemIn)) (news : AreNewRows n n L) where
  new_out : (p q : ℕ) (o : MemOut) → out_at L p q ≡ Some o → IsNewOut o
  new_out p q o h =
      let f = out_found (slice_get L p) q o h in
      let row : IsNewRow n f.0 = all_get (IsNewRow n) L p f.0 news.each f.1 in
      all_get IsNewOut f.0.outs.items q o row.outs.each f.2

  new_in : (p q : ℕ) (i : MemIn) → in_at L p q ≡ Some i → IsNewIn i
  new_in p q i h =
      let f = in_found (slice_get L q) p i h in
      let row : IsNewRow n f.0 = all_get (IsNewRow n) L q f.0 news.each f.1 in
      all_get IsNewIn f.0.ins.items p i row.ins.each f.2

  pub new_square : IsSquare L
  new_square p l at =
      let row : IsNewRow n l = all_get (IsNewRow n) L p l news.each at in
      let size = news.size in let outs = row.outs.size in let ins = row.ins.size in let a = l.outs.ok in let b = l.ins.ok in
      (omega arith, omega arith)

  pub new_joined : AllJoined IsCarried L
  new_joined p q o i ho hi =
      let a = new_out p q o ho in let b = new_in p q i hi in
      rw (a.pushed, b.popped, a.waits, b.waits)

  pub new_fresh : (tells : Bool) → IsFresh frames_pushed frames_popped (λ (o : MemOut). o.vain) (λ (i : MemIn). i.vain) tells L
  new_fresh tells = record {
    outs = λ p q o h. let a = new_out p q o h in (λ t. ap (λ ms. Some (marks_at ms)) a.pushed, a.vain);
    ins = λ p q i h. let a = new_in p q i h in (λ t. ap (λ ms. Some (marks_at ms)) a.popped, a.vain);
  }

  pub new_empty : NoneWait L
  new_empty = record { senders = λ p q. senders p q (out_at L p q) refl; takers = λ p q. takers p q (in_at L p q) refl }
    where
      senders : (p q : ℕ) (x : Option MemOut) → out_at L p q ≡ x → sender_waits x ≡ []
      senders p q None at = refl
      senders p q (Some o) at = (new_out p q o at).waits

      takers : (p q : ℕ) (x : Option MemIn) → in_at L p q ≡ x → taker_waits x ≡ []
      takers p q None at = refl
      takers p q (Some i) at = (new_in p q i at).waits

-- what the kept lanes show
pub kept_back : (L : List (Lanes MemOut MemIn)) → IsSquare L → AllJoined IsCarried L →
    KeepsLists frames_pushed frames_popped (λ (o : MemOut). o.vain) (λ (i : MemIn). i.vain) L (sent_in L) (got_in L) (vain_out_in L) (vain_in_in L)
kept_back L square joined = record {
  outs = λ p q o h. rw h (refl, refl);
  ins = λ p q i h. rw h (refl, refl);
  prefix = λ p q hp hq.
      let o = square_out L p q square hp hq in
      let i = square_in L p q square hp hq in
      let all = joined p q o.0 i.0 o.1 i.1 in
      rw (o.1, i.1) (
        told_list i.0.waiting.items ++ told_list o.0.waiting.items,
        sym (append_assoc (marks_at i.0.popped.items) (told_list i.0.waiting.items) (told_list o.0.waiting.items)) ∙ sym all,
      );
}
