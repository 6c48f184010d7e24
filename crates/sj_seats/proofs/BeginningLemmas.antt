-- The world with seats before any event.
use Rattle.std.proofs.Common.{◌≡◌, ◌⊎◌, ℕ, zero, suc, ◌+◌, ◌<◌, ◌≤◌, Bool, List, [], ◌∷◌, ◌++◌, length, take, get_or, slice_get, Option, Some, None, option_map, refl, ap, sym, ◌∙◌, subst, inl, inr, length-append, arith}
use Rattle.std.proofs.lemmas.List.{length-take-le, take_all, take_more}
use Rattle.std.proofs.lemmas.Option.{slice_get_within}
use Rattle.sj_base.specs.declared.EndId.{EndId}
use Rattle.sj_core.proofs.FirstLemmas.{behind}
use Rattle.sj_lang.specs.FileAt.{FileAt, PartyAt}
use Rattle.sj_node.specs.declared.node.Node.{Node}
use Rattle.sj_seat_laws.specs.SeatedStart.{seat_start}
use Rattle.sj_seat_laws.specs.SeatsStart.{Callers, seats_from, seats_start}
use Rattle.sj_seat_laws.specs.SeatsWorld.{seat_of}
use Rattle.sj_table.specs.declared.table.Table.{Table}
use Rattle.sj_seats.specs.Beginning.{AreBegun, HasBegun, SitsSo}
use Rattle.sj_seats.specs.Openings.{opened_by}
use Rattle.sj_seats.specs.declared.played.Chair.{Chair}

-- ---- one party more

module _ (file : FileAt) (t : Table) where
  pub none_begun : AreBegun file t [] [] []
  none_begun = record { node_count = refl; chair_count = refl; each = λ p b n is. absurd (cc is); sits = λ p b o is. absurd (cc is) }

  pub one_begun : (seats : List Bool) (nodes : List Node) (chairs : List (Option Chair)) (b : Bool) (n : Node) (o : Option Chair) → AreBegun file t seats nodes chairs
      → HasBegun file t (length seats) b n → SitsSo file t (length seats) b o → AreBegun file t (seats ++ b ∷ []) (nodes ++ n ∷ []) (chairs ++ o ∷ [])
  one_begun seats nodes chairs b n o all begun sat = record {
    node_count = length-append nodes (n ∷ []) ∙ ap (λ k. k + 1) all.node_count ∙ sym (length-append seats (b ∷ []));
    chair_count = length-append chairs (o ∷ []) ∙ ap (λ k. k + 1) all.chair_count ∙ sym (length-append seats (b ∷ []));
    each = λ p c m at is. each_by p c m (behind seats b p c at) (behind nodes n p m is);
    sits = λ p c m at is. sits_by p c m (behind seats b p c at) (behind chairs o p m is);
  }
    where
      each_by : (p : ℕ) (c : Bool) (m : Node) → (slice_get seats p ≡ Some c) ⊎ ((p ≡ length seats) × (c ≡ b)) → (slice_get nodes p ≡ Some m) ⊎ ((p ≡ length nodes) × (m ≡ n)) → HasBegun file t p c m
      each_by p c m (inl at) (inl is) = all.each p c m at is
      each_by p c m (inl at) (inr is) = absurd (let lt = slice_get_within seats p c at in let e = is.0 in let f = all.node_count in omega (arith, lt, e, f))
      each_by p c m (inr at) (inl is) = absurd (let lt = slice_get_within nodes p m is in let e = at.0 in let f = all.node_count in omega (arith, lt, e, f))
      each_by p c m (inr at) (inr is) =
          subst (λ (q : ℕ). HasBegun file t q c m) (sym at.0) (subst (λ (d : Bool). HasBegun file t (length seats) d m) (sym at.1) (subst (HasBegun file t (length seats) b) (sym is.1) begun))

      sits_by : (p : ℕ) (c : Bool) (m : Option Chair) → (slice_get seats p ≡ Some c) ⊎ ((p ≡ length seats) × (c ≡ b)) → (slice_get chairs p ≡ Some m) ⊎ ((p ≡ length chairs) × (m ≡ o)) → SitsSo file t p c m
      sits_by p c m (inl at) (inl is) = all.sits p c m at is
      sits_by p c m (inl at) (inr is) = absurd (let lt = slice_get_within seats p c at in let e = is.0 in let f = all.chair_count in omega (arith, lt, e, f))
      sits_by p c m (inr at) (inl is) = absurd (let lt = slice_get_within chairs p m is in let e = at.0 in let f = all.chair_count in omega (arith, lt, e, f))
      sits_by p c m (inr at) (inr is) =
          subst (λ (q : ℕ). SitsSo file t q c m) (sym at.0) (subst (λ (d : Bool). SitsSo file t (length seats) d m) (sym at.1) (subst (SitsSo file t (length seats) b) (sym is.1) sat))

  -- the next of the first parties
  pub next_begun : (seats : List Bool) (nodes : List Node) (chairs : List (Option Chair)) (p : ℕ) (d : Bool) (n : Node) (o : Option Chair) → p < length seats → AreBegun file t (take p seats) nodes chairs
      → HasBegun file t p (get_or seats p d) n → SitsSo file t p (get_or seats p d) o → AreBegun file t (take (p + 1) seats) (nodes ++ n ∷ []) (chairs ++ o ∷ [])
  next_begun seats nodes chairs p d n o lt all begun sat =
      let at : p ≡ length (take p seats) = sym (length-take-le p seats (omega (arith, lt))) in
      subst (λ (bs : List Bool). AreBegun file t bs (nodes ++ n ∷ []) (chairs ++ o ∷ [])) (sym (take_more seats p d lt))
      (one_begun (take p seats) nodes chairs (get_or seats p d) n o all
      (subst (λ (q : ℕ). HasBegun file t q (get_or seats p d) n) at begun) (subst (λ (q : ℕ). SitsSo file t q (get_or seats p d) o) at sat))

  -- all of them
  pub all_begun : (u : Table) (seats : List Bool) (nodes : List Node) (chairs : List (Option Chair)) (p : ℕ) → u ≡ t → length seats ≤ p → AreBegun file t (take p seats) nodes chairs → AreBegun file u seats nodes chairs
  all_begun u seats nodes chairs p same le all =
      subst (λ (v : Table). AreBegun file v seats nodes chairs) (sym same) (subst (λ (bs : List Bool). AreBegun file t bs nodes chairs) (take_all p seats le) all)

-- ---- the parties of the laws

-- who is played by code there
seat_from : (file : FileAt) (calls : Callers) (n : ℕ) (ps : List PartyAt) (q : ℕ) → q < length ps → seat_of (seats_from file calls n ps) q ≡ option_map (seat_start file (n + q)) (calls (n + q))
seat_from file calls n [] q lt = absurd (omega (arith, lt))
seat_from file calls n (p ∷ ps) zero lt = let e : n ≡ n + 0 = omega arith in ap (λ (k : ℕ). option_map (seat_start file k) (calls k)) e
seat_from file calls n (p ∷ ps) (suc q) lt =
    let e : n + 1 + q ≡ n + suc q = omega arith in
    seat_from file calls (n + 1) ps q (omega (arith, lt)) ∙ ap (λ (k : ℕ). option_map (seat_start file k) (calls k)) e

pub none_from : (file : FileAt) (calls : Callers) (n : ℕ) (ps : List PartyAt) (q : ℕ) → length ps ≤ q → seat_of (seats_from file calls n ps) q ≡ None
none_from file calls n [] zero le = refl
none_from file calls n [] (suc q) le = refl
none_from file calls n (p ∷ ps) zero le = absurd (omega (arith, le))
none_from file calls n (p ∷ ps) (suc q) le = none_from file calls (n + 1) ps q (omega (arith, le))

pub seat_at : (file : FileAt) (calls : Callers) (q : ℕ) → q < length file.parties → seat_of (seats_start file calls).seats q ≡ option_map (seat_start file q) (calls q)
seat_at file calls q lt = seat_from file calls 0 file.parties q lt ∙ ap (λ (k : ℕ). option_map (seat_start file k) (calls k)) (let e : 0 + q ≡ q = omega arith in e)

pub record Item {X : Type 0} (xs : List X) (p : ℕ) : Type 0 where
  pub item : X
  pub is : slice_get xs p ≡ Some item

pub item_at : {X : Type 0} (xs : List X) (p : ℕ) → p < length xs → Item xs p
item_at [] p lt = absurd (omega arith)
item_at (x ∷ xs) zero lt = record { item = x; is = refl }
item_at (x ∷ xs) (suc p) lt = let r = item_at xs p (omega arith) in record { item = r.item; is = r.is }

pub nothing_at : {X : Type 0} (xs : List X) (p : ℕ) → length xs ≤ p → slice_get xs p ≡ None
nothing_at [] zero le = refl
nothing_at [] (suc p) le = refl
nothing_at (x ∷ xs) zero le = absurd (omega arith)
nothing_at (x ∷ xs) (suc p) le = nothing_at xs p (omega arith)

-- where no list is told, each session counts as protocol 0
pub none_opened : (q : ℕ) (e : EndId) → opened_by [] q e ≡ 0
none_opened zero e = refl
none_opened (suc q) e = refl
