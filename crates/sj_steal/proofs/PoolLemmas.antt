-- From one step of the pool to the next.
use Rattle.std.proofs.Common.{◌≡◌, ℕ, ◌+◌, ◌-◌, ◌*◌, ◌/◌, ◌<◌, ◌≤◌, List, [], ◌∷◌}
use Rattle.std.proofs.Common.{◌++◌, map, length, get_or, sym, refl, ap, ◌∙◌, subst, flat_map, arith}
use Rattle.std.specs.Prelude.{All}
use Rattle.std.specs.Global.{Vec}
use Rattle.std.specs.List.{AllByRecursion}
use Rattle.std.specs.List.Sorted.{IsPermutation}
use Rattle.std.proofs.lemmas.List.{length-map}
use Rattle.std.proofs.lemmas.List.Elements.{All-from_recursion, recursion_from_All}
use Rattle.std.proofs.lemmas.List.Sorted.{IsPermutation-trans, length_permutation}
use Rattle.crossbeam_deque.specs.Handles.{worker_index}
use Rattle.sj_steal.specs.declared.member.Reach.{Reach}
use Rattle.sj_steal.specs.declared.member.Member.{Member}
use Rattle.sj_steal.specs.Hands.{whole}
use Rattle.sj_steal.specs.Runs.{Each2, RanMore}
use Rattle.sj_steal.specs.Members.{IsReach, IsReady, Works, deque_of, done_by, own_hand, own_put, own_taken, stolen_by, taken_by, way_of}
use Rattle.sj_steal.specs.Teams.{Dealt, HasWays, IsBack, IsConnected, IsEmptied, IsJoined, IsNew, IsSpread}
use Rattle.sj_steal.proofs.DealLemmas.{spread_low}
use Rattle.sj_steal.proofs.DoneLemmas.{at_both, emptied_all}
use Rattle.sj_steal.proofs.EachLemmas.{all_all, each2_flat, each2_map, each2_trans, each2_weaker}
use Rattle.sj_steal.proofs.PartLemmas.{parted_all}
use Rattle.sj_steal.proofs.RunLemmas.{each2_length, ran_each, ran_later, ran_read}

-- pieces without anything
pub flat_nothing : {Y X : Type 0} (f : Y → List X) (ys : List Y) → All (λ y. f y ≡ []) ys → flat_map f ys ≡ []
flat_nothing f ys all = go f ys (recursion_from_All (λ y. f y ≡ []) ys all)
  where
    go : {Y X : Type 0} (f : Y → List X) (ys : List Y) → AllByRecursion (λ y. f y ≡ []) ys → flat_map f ys ≡ []
    go f [] a = refl
    go f (y ∷ ys) a = ap (λ l. l ++ flat_map f ys) a.0 ∙ go f ys a.1

-- as many were run as were taken
pub ran_many : {J : Type 0} (R : J → J → Type 0) (taken done taken' done' jobs : List J) → RanMore R taken done taken' done' → taken ≡ [] →
    done ≡ [] → IsPermutation jobs taken' → length done' ≡ length jobs
ran_many R taken done taken' done' jobs h t d p =
    let took = length_permutation h.took taken' (subst (λ l. IsPermutation (l ++ h.took) taken') t h.takes) in
    let run = length_permutation h.ran done' (subst (λ l. IsPermutation (l ++ h.ran) done') d h.adds) in
    let each = each2_length R h.took h.ran h.each in
    let many = length_permutation jobs taken' p in
    omega arith

module _ {J : Type 0} where
  ready_of : (workers jobs i : ℕ) (decks : _) (x y : Member J) → 0 < workers → workers < whole → IsNew workers workers x → IsJoined decks x →
      length decks ≡ workers → x.most ≡ jobs / workers + 1 → Dealt x y → worker_index y.own * workers + i < jobs + workers → IsReady y
  ready_of workers jobs i decks x y some few new joined many limit dealt spread =
      let low = spread_low workers jobs (worker_index y.own) i some spread in
      let index = new.index in
      let put : length (own_put x) ≡ 0 = ap (λ v. length v.put) new.view in
      let count = dealt.count in
      let most = dealt.most in
      let taken : length (own_taken y) ≡ 0 = ap length dealt.taken ∙ ap (λ v. length v.taken) new.view in
      let parts : (own_hand y).parts ≡ whole - workers = dealt.parts ∙ ap (λ v. v.parts) new.view in
      let room = new.room in
      let done : length x.done.items ≡ 0 = ap length new.done in
      let ways : length y.all.items ≡ workers = ap (λ (a : Vec (Reach J)). length a.items) dealt.all ∙ sym (length-map x.all.items way_of) ∙
      ap length joined.ways.ways ∙ many in
      let empty : x.done.len ≡ 0 = omega (arith, x.done.ok.0) in
      let free : x.most + workers + x.done.len ≤ x.done.cap = omega arith in
      let moved : x.most + workers + y.done.len ≤ y.done.cap = subst (λ d. x.most + workers + d.len ≤ d.cap) (sym dealt.done) free in
      record {
        member = record {
          flavor = dealt.flavor ∙ new.flavor;
          part = omega arith;
          reaches = subst (λ (a : Vec (Reach J)). All IsReach a.items)
              (sym dealt.all) joined.ways.reaches;
        };
        room = record { put = omega arith; taken = omega arith; free = omega (arith, y.all.ok.0) };
        first = taken;
      }

  joined_all : (workers : ℕ) (xs : List (Member J)) → IsConnected workers workers xs → All (IsJoined (map deque_of xs)) xs
  joined_all workers xs h = All-from_recursion (IsJoined (map deque_of xs)) xs
      (parted_all (IsJoined (map deque_of xs)) (λ _. Unit {0}) xs workers (let n = h.count in omega arith) h.ways)

  pub all_ready : (workers jobs : ℕ) (xs ys : List (Member J)) → 0 < workers → workers < whole → IsConnected workers workers xs →
      All (λ m. m.most ≡ jobs / workers + 1) xs → Each2 Dealt xs ys → IsSpread workers jobs ys → All IsReady ys
  all_ready workers jobs xs ys some few h most dealt spread i d in' =
      let long = each2_length Dealt xs ys dealt in
      let count = h.count in
      let low : i < length xs = omega arith in
      ready_of workers jobs i (map deque_of xs) (get_or xs i d) (get_or ys i d) some few (h.new i d low) (joined_all workers xs h i d low)
      (length-map xs deque_of ∙ count) (most i d low)
      (at_both Dealt xs ys i d d low dealt) (spread i d in')

  module _ (R : J → J → Type 0) where
    -- dealt and then worked
    abbrev Served : Member J → Member J → Type 0
    Served x z = (y : Member J) × Dealt x y × Works R y z

    served : (xs ys zs : List (Member J)) → Each2 Dealt xs ys → Each2 (Works R) ys zs → Each2 Served xs zs
    served xs ys zs a b = each2_trans Dealt (Works R) Served (λ x y z d w. (y, d, w)) xs ys zs a b

    back_of : (workers : ℕ) (x z : Member J) → Served x z → IsNew workers workers x → IsBack (whole - workers) z
    back_of workers x z s new =
        let room = s.2.room in
        let free = room.free in
        record { flavor = s.2.member.flavor; parts = s.2.same.parts ∙ s.1.parts ∙ ap (λ v. v.parts) new.view; put = room.put; free = omega arith }

    pub all_back : (workers : ℕ) (xs ys zs : List (Member J)) → IsConnected workers workers xs → Each2 Dealt xs ys → Each2 (Works R) ys zs →
        All (IsBack (whole - workers)) zs
    all_back workers xs ys zs h a b = all_all Served (IsNew workers workers) (IsBack (whole - workers)) (back_of workers) xs zs
        (served xs ys zs a b) h.new

    ways_of_served : (decks : _) (x z : Member J) → Served x z → IsJoined decks x → HasWays decks z
    ways_of_served decks x z s h =
        record { ways = s.2.same.ways ∙ ap (λ (a : Vec (Reach J)). map way_of a.items) s.1.all ∙ h.ways.ways; reaches = s.2.member.reaches }

    pub all_ways : (workers : ℕ) (xs ys zs : List (Member J)) → IsConnected workers workers xs → Each2 Dealt xs ys → Each2 (Works R) ys zs →
        All (HasWays (map deque_of zs)) zs
    all_ways workers xs ys zs h a b =
        let same : map deque_of zs ≡ map deque_of xs = each2_map Served deque_of (λ x z s. s.2.same.deque ∙ s.1.deque) xs zs (served xs ys zs a b) in
        subst (λ d. All (HasWays d) zs) (sym same)
        (all_all Served (IsJoined (map deque_of xs)) (HasWays (map deque_of xs)) (ways_of_served (map deque_of xs)) xs zs (served xs ys zs a b)
        (joined_all workers xs h))

    -- at the start nothing is taken, nothing is done
    pub none_taken : (workers : ℕ) (xs ys : List (Member J)) → IsConnected workers workers xs → Each2 Dealt xs ys → flat_map taken_by ys ≡ []
    none_taken workers xs ys h a =
        each2_flat Dealt taken_by (λ x y d. ap (λ l. l ++ flat_map stolen_by y.all.items) d.taken ∙
        ap (λ (v : Vec (Reach J)). own_taken x ++ flat_map stolen_by v.items) d.all) xs ys a
        ∙ flat_nothing taken_by xs (λ i d l. ap (λ v. v.taken ++ flat_map stolen_by (get_or xs i d).all.items) (h.new i d l).view ∙
        (joined_all workers xs h i d l).unused)

    pub none_done : (workers : ℕ) (xs ys : List (Member J)) → IsConnected workers workers xs → Each2 Dealt xs ys → flat_map done_by ys ≡ []
    none_done workers xs ys h a =
        each2_flat Dealt done_by (λ x y d. ap (λ v. v.items) d.done) xs ys a ∙ flat_nothing done_by xs (λ i d l. (h.new i d l).done)

    pub none_put : (workers : ℕ) (xs : List (Member J)) → IsConnected workers workers xs → flat_map own_put xs ≡ []
    none_put workers xs h = flat_nothing own_put xs (λ i d l. ap (λ v. v.put) (h.new i d l).view)

    -- all jobs are taken in the end
    pub jobs_taken : (workers : ℕ) (jobs : List J) (xs ys zs back ends : List (Member J)) → IsConnected workers workers xs →
        IsPermutation (flat_map own_put xs ++ jobs) (flat_map own_put ys) → Each2 (Works R) ys zs →
        flat_map own_put back ≡ flat_map own_put zs → Each2 IsEmptied back ends → IsPermutation jobs (flat_map taken_by ends)
    jobs_taken workers jobs xs ys zs back ends h put work same emptied =
        let start : IsPermutation jobs (flat_map own_put ys) = subst (λ l. IsPermutation (l ++ jobs) (flat_map own_put ys))
        (none_put workers xs h) put in
        let kept : flat_map own_put back ≡ flat_map own_put ys = same ∙ each2_flat (Works R) own_put (λ y z w. w.same.put) ys zs work in
        IsPermutation-trans _ _ _ start (subst (λ l. IsPermutation l (flat_map taken_by ends)) kept (emptied_all back ends emptied))

    pub all_ran : (ys zs back ends : List (Member J)) → Each2 (Works R) ys zs → flat_map done_by back ≡ flat_map done_by zs →
        IsPermutation (flat_map taken_by zs) (flat_map taken_by back) →
        RanMore R (flat_map taken_by back) (flat_map done_by back) (flat_map taken_by ends) (flat_map done_by ends) →
        RanMore R (flat_map taken_by ys) (flat_map done_by ys) (flat_map taken_by ends) (flat_map done_by ends)
    all_ran ys zs back ends work done taken rest =
        let first = ran_each R taken_by done_by ys zs (each2_weaker (Works R) (λ y z. RanMore R (taken_by y) (done_by y) (taken_by z) (done_by z))
        (λ y z w. w.ran) ys zs work) in
        let read = ran_read R _ _ _ _ _ first taken in
        ran_later R _ _ _ _ _ _ (subst (λ l. RanMore R (flat_map taken_by ys) (flat_map done_by ys) (flat_map taken_by back) l) (sym done) read) rest
