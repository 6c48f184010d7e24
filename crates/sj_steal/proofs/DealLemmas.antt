-- Jobs that are dealt in turn.
use Rattle.std.proofs.Common.{◌≡◌, ℕ, zero, suc, ◌+◌, ◌*◌, ◌/◌, ◌%◌, ◌<◌, ◌≤◌, ◌≢◌, List, [], ◌∷◌, ◌++◌}
use Rattle.std.proofs.Common.{length, get_or, set, sym, refl, ap, ◌∙◌}
use Rattle.std.proofs.Common.{subst, ⊎_elim, flat_map, length-set, append_assoc, lt_of_mul-lt-mul_right, mul-le-mul_right, arith}
use Rattle.std.specs.List.Sorted.{IsPermutation}
use Rattle.std.proofs.lemmas.Nat.{div-add-mod', le-div, mod_below}
use Rattle.std.proofs.lemmas.Bool.{cases_eq}
use Rattle.std.proofs.lemmas.List.{get_or-set_same, get_or-set_other}
use Rattle.std.proofs.lemmas.List.Sorted.{IsPermutation-trans, IsPermutation-sym, IsPermutation-append_left}
use Rattle.crossbeam_deque.specs.Handles.{worker_index}
use Rattle.sj_steal.specs.declared.member.Member.{Member}
use Rattle.sj_steal.specs.Members.{own_put}
use Rattle.sj_steal.specs.Teams.{Dealt, IsSpread}
use Rattle.sj_steal.proofs.PieceLemmas.{gains, swaps_last}

-- it has no more than the turns that are over
turn_low : (workers turn index : ℕ) → 0 < workers → index * workers + turn % workers < turn + workers → index ≤ turn / workers
turn_low workers turn index some h =
    let parts = div-add-mod' turn workers in
    let low : index * workers < (turn / workers + 1) * workers = omega arith in
    let less : index < turn / workers + 1 = lt_of_mul-lt-mul_right workers low in
    omega arith

-- there is room
pub turn_fits : (workers turn jobs slots index : ℕ) → 0 < workers → index ≤ turn / workers → turn < jobs → jobs / workers + 1 ≤ slots →
    index < slots
turn_fits workers turn jobs slots index some low in' room =
    let parts = div-add-mod' turn workers in
    let up = mul-le-mul_right workers low in
    let q : index ≤ jobs / workers = le-div index jobs workers some (omega arith) in
    omega arith

-- none has more than its turn gives it, in the end
pub spread_low : (workers jobs index i : ℕ) → 0 < workers → index * workers + i < jobs + workers → index ≤ jobs / workers + 1
spread_low workers jobs zero i some h = omega arith
spread_low workers jobs (suc n) i some h =
    let q : n ≤ jobs / workers = le-div n jobs workers some (omega arith) in
    omega arith

module _ {J : Type 0} where
  pub turn_of : (workers turn : ℕ) (members : List (Member J)) (m : Member J) → 0 < workers → length members ≡ workers →
      IsSpread workers turn members → m ≡ get_or members (turn % workers) m → worker_index m.own ≤ turn / workers
  turn_of workers turn members m some long h is =
      let here = mod_below turn workers some in
      let at : worker_index m.own * workers + turn % workers < turn + workers =
      subst (λ (x : Member J). worker_index x.own * workers + turn % workers < turn + workers) (sym is) (h (turn % workers) m (omega arith)) in
      turn_low workers turn (worker_index m.own) some at

  pub spread_more : (workers turn : ℕ) (members : List (Member J)) (m m' : Member J) → 0 < workers → length members ≡ workers →
      IsSpread workers turn members →
      m ≡ get_or members (turn % workers) m → worker_index m'.own ≡ worker_index m.own + 1 → IsSpread workers (turn + 1)
      (set members (turn % workers) m')
  spread_more workers turn members m m' some long h is more i d in' =
      let k = turn % workers in
      let set_long = length-set members k m' in
      let here = mod_below turn workers some in
      let low = turn_of workers turn members m some long h is in
      let up = mul-le-mul_right workers low in
      let parts = div-add-mod' turn workers in
      ⊎_elim
      (λ (e : i ≡ k).
      let at : get_or (set members k m') i d ≡ m' = ap (λ j. get_or (set members k m') j d) e ∙ get_or-set_same members k m' d (omega arith) in
      let count : worker_index m'.own * workers ≡ worker_index m.own * workers + workers = ap (λ n. n * workers) more ∙ omega arith in
      subst (λ (x : Member J). worker_index x.own * workers + i < turn + 1 + workers) (sym at) (omega arith))
      (λ (n : i ≢ k).
      let old = h i d (omega arith) in
      subst (λ (x : Member J). worker_index x.own * workers + i < turn + 1 + workers) (sym (get_or-set_other members k i m' d n)) (omega arith))
      (cases_eq i k)

  pub dealt_itself : (m : Member J) → Dealt m m
  dealt_itself m = record {
    deque = refl;
    flavor = refl;
    parts = refl;
    taken = refl;
    count = refl;
    slots = omega arith;
    all = refl;
    done = refl;
    most = refl;
  }

  pub dealt_later : (a b c : Member J) → Dealt a b → Dealt b c → Dealt a c
  dealt_later a b c one two =
      let m = one.count in
      let n = two.count in
      let s = one.slots in
      let t = two.slots in
      record {
        deque = two.deque ∙ one.deque;
        flavor = two.flavor ∙ one.flavor;
        parts = two.parts ∙ one.parts;
        taken = two.taken ∙ one.taken;
        count = omega arith;
        slots = omega arith;
        all = two.all ∙ one.all;
        done = two.done ∙ one.done;
        most = two.most ∙ one.most;
      }

  -- one job goes over
  pub put_more : (members : List (Member J)) (i : ℕ) (m m' : Member J) (job : J) (start left left' : List J) → i < length members →
      m ≡ get_or members i m → own_put m' ≡ own_put m ++ job ∷ [] →
      left ≡ left' ++ job ∷ [] → IsPermutation start (flat_map own_put members ++ left) → IsPermutation start
      (flat_map own_put (set members i m') ++ left')
  put_more members i m m' job start left left' in' is put rest h =
      let more = gains own_put members i m m' (job ∷ []) in' is put in
      let before : IsPermutation start (flat_map own_put members ++ (left' ++ job ∷ [])) =
      subst (λ l. IsPermutation start (flat_map own_put members ++ l)) rest h in
      let turned : IsPermutation (flat_map own_put members ++ (left' ++ job ∷ [])) ((flat_map own_put members ++ job ∷ []) ++ left') =
      subst (λ l. IsPermutation l ((flat_map own_put members ++ job ∷ []) ++ left')) (append_assoc (flat_map own_put members) left' (job ∷ []))
      (swaps_last (flat_map own_put members) left' (job ∷ [])) in
      IsPermutation-trans _ _ _ before (IsPermutation-trans _ _ _ turned (IsPermutation-append_left left' _ _ (IsPermutation-sym _ _ more)))
