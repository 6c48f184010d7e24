-- Links that are made one after the other.
use Rattle.std.proofs.Common.{zero, suc, ◌≡◌, ◌⊎◌, ℕ, ◌+◌, ◌<◌, ◌≤◌, List, [], ◌∷◌, ◌++◌, Some, length, inl, inr, refl, sym, ap, ◌∙◌, subst, arith, length-append}
use Rattle.std.specs.Prelude.{slice_get}
use Rattle.std.proofs.Math.ListN.{set, length-set}
use Rattle.std.proofs.lemmas.Bool.{cases_eq}
use Rattle.std.proofs.lemmas.Option.{slice_get_within}
use Rattle.sj_lane.specs.declared.lane.Lanes.{Lanes}
use Rattle.sj_lane.specs.Square.{in_at, out_at, out_in}
use Rattle.sj_lane.proofs.CellLemmas.{get_set_here, get_set_other}
use Rattle.sj_lane.proofs.MemRowsLemmas.{all_more}
use Rattle.sj_lane.proofs.SettleLemmas.{out_found}
use Rattle.sj_socket.specs.Ins.{IsNewIn}
use Rattle.sj_socket.specs.Outs.{IsNewOut}
use Rattle.sj_socket.specs.Joined.{IsLink, IsRowLinked}
use Rattle.sj_socket.specs.Rows.{AreNewIns, AreNewOuts, Grid, HasSome}
use Rattle.sj_socket.specs.Streams.{TcpIn, TcpOut}
use Rattle.sj_socket.proofs.LinkLemmas.{before_or_at, below_or_not, in_before, in_kept, none_in, out_kept, set_here}

-- what stands in a list with one more at its end
found_more : {X : Type 0} (xs : List X) (y : X) (k : ℕ) (x : X) → slice_get (xs ++ y ∷ []) k ≡ Some x → (slice_get xs k ≡ Some x) ⊎ (y ≡ x)
found_more [] y zero x at = inr (cc at)
found_more [] y (suc k) x at = absurd (cc at)
found_more (z ∷ zs) y zero x at = inl at
found_more (z ∷ zs) y (suc k) x at = found_more zs y k x at

pub out_more : (n : ℕ) (outs : List TcpOut) (o : TcpOut) → AreNewOuts n outs → IsNewOut o → AreNewOuts (n + 1) (outs ++ o ∷ [])
out_more n outs o news new = record { size = let size = news.size in omega (arith, length-append outs (o ∷ [])); each = all_more IsNewOut outs o news.each new }

in_more : (n : ℕ) (ins : List TcpIn) (i : TcpIn) → AreNewIns n ins → IsNewIn i → AreNewIns (n + 1) (ins ++ i ∷ [])
in_more n ins i news new = record { size = let size = news.size in omega (arith, length-append ins (i ∷ [])); each = all_more IsNewIn ins i news.each new }

-- one more party without lanes
pub party_more : (n : ℕ) (L : List (Lanes TcpOut TcpIn)) (l : Lanes TcpOut TcpIn) → Grid n 0 0 L → l.outs.items ≡ [] → l.ins.items ≡ [] → Grid (n + 1) 0 0 (L ++ l ∷ [])
party_more n L l grid empty none = record {
  size = let size = grid.size in omega (arith, length-append L (l ∷ []));
  each = λ k x at. record {
    outs = λ lt. absurd (omega (arith, lt));
    no_outs = λ le. no_outs k x at;
    more_ins = λ lt. absurd (omega (arith, lt));
    ins = λ le. elim (found_more L l k x at) [
      | inl before ↦ let has = grid.each k x before in has.ins le
      | inr same ↦ rw (← same, none) (record { size = refl; each = tt })
    ];
  };
  links = λ p q o i at bt. let f = out_found (slice_get (L ++ l ∷ []) p) q o at in absurd (none_in f.0.outs.items q o (no_outs p f.0 f.1) f.2);
}
  where
    no_outs : (k : ℕ) (x : Lanes TcpOut TcpIn) → slice_get (L ++ l ∷ []) k ≡ Some x → x.outs.items ≡ []
    no_outs k x at = elim (found_more L l k x at) [
      | inl before ↦ let has = grid.each k x before in has.no_outs (omega arith)
      | inr same ↦ rw (← same) empty
    ]

module _ (n p : ℕ) (L : List (Lanes TcpOut TcpIn)) (l m : Lanes TcpOut TcpIn) where
  -- the link from p to q
  pub lane_more : (q : ℕ) (i : TcpIn) → Grid n p q L → q < n → slice_get L q ≡ Some l → IsNewIn i → m.outs.items ≡ l.outs.items → m.ins.items ≡ l.ins.items ++ i ∷ [] →
      Grid n p (q + 1) (set L q m)
  lane_more q i grid lt there new outs ins = record {
    size = length-set L q m ∙ grid.size;
    each = λ k x at. by k x at (cases_eq k q);
    links = λ a b o j at bt.
        let was = sym (out_kept L q l m there outs a b) ∙ at in
        grid.links a b o j was (in_before L q l m there i ins a b j (λ is. before_row a b o was) bt);
  }
    where
      by : (k : ℕ) (x : Lanes TcpOut TcpIn) → slice_get (set L q m) k ≡ Some x → (k ≡ q) ⊎ (k ≡ q → ⊥) → HasSome n p (q + 1) k x
      by k x at (inl same) =
          let is : slice_get (set L q m) q ≡ Some x = subst (λ (j : ℕ). slice_get (set L q m) j ≡ Some x) same at in
          let both : Some m ≡ Some x = sym (get_set_here L q m (slice_get_within L q l there)) ∙ is in
          let m_is : m ≡ x = cc both in
          let has : HasSome n p q q l = grid.each q l there in
          let own : AreNewIns (p + 1) (l.ins.items ++ i ∷ []) = in_more p l.ins.items i (has.ins (omega arith)) new in
          rw (← m_is) (record {
            outs = λ below. rw outs (has.outs (subst (λ (j : ℕ). j < p) same below));
            no_outs = λ le. rw outs (has.no_outs (subst (λ (j : ℕ). p ≤ j) same le));
            more_ins = λ below. rw ins own;
            ins = λ above. absurd (omega (arith, above, same));
          })
      by k x at (inr apart) =
          let has : HasSome n p q k x = grid.each k x (sym (get_set_other L q k m apart) ∙ at) in
          record {
            outs = has.outs;
            no_outs = has.no_outs;
            more_ins = λ below. elim (before_or_at k q below) [ inl less ↦ has.more_ins less | inr e ↦ absurd (apart e) ];
            ins = λ above. has.ins (omega (arith, above));
          }

      before_row : (a b : ℕ) (o : TcpOut) → out_at L a b ≡ Some o → a < length l.ins.items
      before_row a b o was =
          let f = out_found (slice_get L a) b o was in
          let row : HasSome n p q a f.0 = grid.each a f.0 f.1 in
          let has : HasSome n p q q l = grid.each q l there in
          let news = has.ins (omega arith) in
          let size = news.size in
          elim (below_or_not a p) [ inl less ↦ omega (arith, less, size) | inr le ↦ absurd (none_in f.0.outs.items b o (row.no_outs le) f.2) ]

  -- all links from p
  pub outs_more : Grid n p n L → p < n → slice_get L p ≡ Some l → AreNewOuts n m.outs.items → IsRowLinked p m.outs.items L → m.ins.items ≡ l.ins.items → Grid n (p + 1) 0 (set L p m)
  outs_more grid lt there new row ins = record {
    size = length-set L p m ∙ grid.size;
    each = λ k x at. by k x at (cases_eq k p);
    links = λ a b o j at bt. linked a b o j at (sym (in_kept L p l m there ins a b) ∙ bt) (cases_eq a p);
  }
    where
      by : (k : ℕ) (x : Lanes TcpOut TcpIn) → slice_get (set L p m) k ≡ Some x → (k ≡ p) ⊎ (k ≡ p → ⊥) → HasSome n (p + 1) 0 k x
      by k x at (inl same) =
          let is : slice_get (set L p m) p ≡ Some x = subst (λ (j : ℕ). slice_get (set L p m) j ≡ Some x) same at in
          let both : Some m ≡ Some x = sym (get_set_here L p m (slice_get_within L p l there)) ∙ is in
          let m_is : m ≡ x = cc both in
          let has : HasSome n p n p l = grid.each p l there in
          rw (← m_is) (record {
            outs = λ below. new;
            no_outs = λ le. absurd (omega (arith, le, same));
            more_ins = λ below. absurd (omega (arith, below));
            ins = λ above. rw ins (has.more_ins lt);
          })
      by k x at (inr apart) =
          let before : slice_get L k ≡ Some x = sym (get_set_other L p k m apart) ∙ at in
          let has : HasSome n p n k x = grid.each k x before in
          let within = slice_get_within L k x before in
          let size = grid.size in
          record {
            outs = λ below. elim (before_or_at k p below) [ inl less ↦ has.outs less | inr e ↦ absurd (apart e) ];
            no_outs = λ le. has.no_outs (omega (arith, le));
            more_ins = λ below. absurd (omega (arith, below));
            ins = λ above. has.more_ins (omega (arith, within, size));
          }

      linked : (a b : ℕ) (o : TcpOut) (j : TcpIn) → out_at (set L p m) a b ≡ Some o → in_at L a b ≡ Some j → (a ≡ p) ⊎ (a ≡ p → ⊥) → IsLink a b o j
      linked a b o j at bt (inl is) =
          let here : slice_get m.outs.items b ≡ Some o = sym (ap (λ s. out_in s b) (set_here L p l m there)) ∙ subst (λ (k : ℕ). out_at (set L p m) k b ≡ Some o) is at in
          rw is (row b o j here (subst (λ (k : ℕ). in_at L k b ≡ Some j) is bt))
      linked a b o j at bt (inr apart) = grid.links a b o j (sym (ap (λ s. out_in s b) (get_set_other L p a m apart)) ∙ at) bt
