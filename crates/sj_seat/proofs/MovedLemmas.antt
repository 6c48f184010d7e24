-- Held ends, one of which goes on past a message.
use Rattle.std.proofs.Common.{◌≡◌, ◌∙◌, ℕ, suc, ◌+◌, ◌<◌, ◌≤◌, List, [], ◌∷◌, length, map, get_or, refl, ap, arith, ◌≢◌, below_more, get_or-set_other, get_or-set_same, length-set}
use Rattle.std.specs.Prelude.{slice_set}
use Rattle.sj_lang.specs.Place.{Place}
use Rattle.sj_seat_laws.specs.Calls.{moved}
use Rattle.sj_base.specs.declared.EndId.{EndId}
use Rattle.sj_base.specs.declared.Msg.{Msg}
use Rattle.sj_lang.specs.declared.proto.Way.{Way}
use Rattle.sj_table.specs.declared.table.Table.{Table}
use Rattle.sj_seat.specs.Holding.{ends_at, entry_at, entry_moved}
use Rattle.sj_seat.specs.declared.ends.HeldEnd.{HeldEnd}

-- some end
abbrev pub no_end : HeldEnd
no_end = record { end = record { sess = 0; side = 0 }; place = record { node = 0 } }

-- those below that index are moved, and the others as they were
pub record IsMovedTo (t : Table) (e : EndId) (way : Way) (m : Msg) (at : ℕ) (old new : List HeldEnd) : Type 0 where
  pub long : length new ≡ length old
  pub below : (k : ℕ) → k < at → entry_at t (get_or new k no_end) ≡ entry_moved (entry_at t (get_or old k no_end)) e way m
  pub above : (k : ℕ) → at ≤ k → get_or new k no_end ≡ get_or old k no_end

module _ (t : Table) (e : EndId) (way : Way) (m : Msg) where
  -- one more is moved
  pub moved_next : (at : ℕ) (old now : List HeldEnd) (next : HeldEnd) → at < length now → IsMovedTo t e way m at old now
      → entry_at t next ≡ entry_moved (entry_at t (get_or now at no_end)) e way m → IsMovedTo t e way m (at + 1) old (slice_set now at next)
  moved_next at old now next within h is = record {
    long = length-set now at next ∙ h.long;
    below = below_more _ _ (λ k lt. let ne : k ≢ at = omega (arith, lt) in rw (get_or-set_other now at k next no_end ne) (h.below k lt))
        (rw (get_or-set_same now at next no_end within) (is ∙ ap (λ b. entry_moved (entry_at t b) e way m) (h.above at (omega arith))));
    above = λ k ge. let ne : k ≢ at = omega (arith, ge) in get_or-set_other now at k next no_end ne ∙ h.above k (omega (arith, ge));
  }

  -- two lists whose elements agree
  same_map : (f g : HeldEnd → EndId × Place) (xs ys : List HeldEnd) → length xs ≡ length ys → ((k : ℕ) → k < length xs → f (get_or xs k no_end) ≡ g (get_or ys k no_end)) → map f xs ≡ map g ys
  same_map f g [] [] long each = refl
  same_map f g [] (y ∷ ys) long each = cc
  same_map f g (x ∷ xs) [] long each = cc
  same_map f g (x ∷ xs) (y ∷ ys) long each =
      let head : f x ≡ g y = each 0 (omega arith) in
      let tail : map f xs ≡ map g ys = same_map f g xs ys (omega (arith, long)) (λ k lt. each (suc k) (omega (arith, lt))) in
      cc

  moved_at : (bs : List HeldEnd) → map (λ b. entry_moved (entry_at t b) e way m) bs ≡ moved (ends_at t bs) e way m
  moved_at [] = refl
  moved_at (b ∷ bs) = ap (λ r. entry_moved (entry_at t b) e way m ∷ r) (moved_at bs)

  -- all are
  pub moved_all : (at : ℕ) (old now : List HeldEnd) → length now ≤ at → IsMovedTo t e way m at old now → ends_at t now ≡ moved (ends_at t old) e way m
  moved_all at old now all h =
      same_map (entry_at t) (λ b. entry_moved (entry_at t b) e way m) now old h.long (λ k lt. h.below k (omega (arith, lt, all)))
      ∙ moved_at old

  -- none is
  pub none_moved : (old : List HeldEnd) → IsMovedTo t e way m 0 old old
  none_moved old = record { long = refl; below = λ k lt. absurd (omega (arith, lt)); above = λ k ge. refl }
