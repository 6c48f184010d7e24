-- Values that are read one after another, as a loop does.
use Rattle.std.proofs.Common.{◌≡◌, ℕ, suc, ◌-◌, ◌+◌, ◌≤◌, ◌<◌, List, [], ◌∷◌, ◌++◌, refl, sym, ap, ◌∙◌, append_assoc, append-nil, arith}
use Rattle.sj_resp.specs.Token.{TokenAt}
use Rattle.sj_streams.specs.declared.misread.Misread.{Misread}
use Rattle.sj_streams.specs.declared.misread.Misread.TheVariants as misreads
use Rattle.sj_streams.specs.Reading.{Read, Good, Bad, ◌>>=◌, Fails, many_at}

module _ {A : Type 0} where
  -- what was read before, and what is still read
  abbrev pub with_front : List A → Read (List A) → Read (List A)
  with_front front read = read >>= λ xs rest. Good (front ++ xs) rest

  -- nothing was read before
  pub at_first : (read : Read (List A)) → with_front [] read ≡ read
  at_first (Good xs rest) = refl
  at_first (Bad e) = refl

  regroup : (front : List A) (x : A) (read : Read (List A)) → with_front front (read >>= λ xs rest. Good (x ∷ xs) rest) ≡ with_front (front ++ x ∷ []) read
  regroup front x (Good xs rest) = ap (λ (l : List A). Good l rest) (sym (append_assoc front (x ∷ []) xs))
  regroup front x (Bad e) = refl

module _ {A : Type 0} (read : ℕ → List TokenAt → Read A) where
  -- one more value is read
  pub goes_on : (front : List A) (at count i : ℕ) (ts : List TokenAt) (x : A) (rest : List TokenAt) (total : Read (List A)) → i < count → read at ts ≡ Good x rest
      → with_front front (many_at read at (count - i) ts) ≡ total → with_front (front ++ x ∷ []) (many_at read (at + 1) (count - (i + 1)) rest) ≡ total
  unfolding many_at
  goes_on front at count i ts x rest total lt h so_far =
      let k : count - i ≡ suc (count - (i + 1)) = omega arith in
      let one : with_front front (many_at read at (count - i) ts) ≡ with_front (front ++ x ∷ []) (many_at read (at + 1) (count - (i + 1)) rest) = rw (k, h) (regroup front x (many_at read (at + 1) (count - (i + 1)) rest)) in
      sym one ∙ so_far

  failed : (e : Misread) (front : List A) (at count i : ℕ) (ts : List TokenAt) (total : Read (List A)) → i < count → read at ts ≡ Bad e
      → with_front front (many_at read at (count - i) ts) ≡ total → total ≡ Bad e
  unfolding many_at
  failed e front at count i ts total lt h so_far =
      let k : count - i ≡ suc (count - (i + 1)) = omega arith in
      let one : with_front front (many_at read at (count - i) ts) ≡ Bad e = rw (k, h) refl in
      sym so_far ∙ one

  -- a value isn't read
  pub ends : (e : Misread) (front : List A) (at count i : ℕ) (ts : List TokenAt) (total : Read (List A)) → i < count → Fails e (read at ts)
      → with_front front (many_at read at (count - i) ts) ≡ total → Fails e total
  ends misreads.NoMemory front at count i ts total lt h so_far = tt
  ends misreads.Shape front at count i ts total lt h so_far = failed misreads.Shape front at count i ts total lt h so_far
  ends misreads.Key front at count i ts total lt h so_far = failed misreads.Key front at count i ts total lt h so_far
  ends misreads.Gap front at count i ts total lt h so_far = failed misreads.Gap front at count i ts total lt h so_far

  -- all are read
  pub is_done : (front : List A) (at count i : ℕ) (ts : List TokenAt) (total : Read (List A)) → count ≤ i → with_front front (many_at read at (count - i) ts) ≡ total → total ≡ Good front ts
  unfolding many_at
  is_done front at count i ts total le so_far =
      let k : count - i ≡ 0 = omega arith in
      let one : with_front front (many_at read at (count - i) ts) ≡ Good front ts = rw k (ap (λ (l : List A). Good l ts) (append-nil front)) in
      sym so_far ∙ one
