use Rattle.std.proofs.Common.{◌≡◌, ◌<◌, ◌+◌, ◌-◌, ◌++◌, [], ◌∷◌, length, get_or, map, set, take}
use Rattle.std.proofs.Common.{ap, refl, sym, subst, ◌∙◌, append-nil, length-append, flat_map, length-take, All, take_all, arith}
use Rattle.std.specs.List.Sorted.{IsPermutation}
use Rattle.std.proofs.lemmas.List.{length-map, get_or_default, get_or_push}
use Rattle.std.proofs.lemmas.List.Elements.{All-get_or, All-take}
use Rattle.std.proofs.lemmas.List.Sorted.{IsPermutation-refl}
use Rattle.sj_steal.specs.Parts.{Downto}
use Rattle.sj_steal.specs.Members.{IsReach, deque_of, own_hand, stolen_by, taken_by, way_of}
use Rattle.sj_steal.specs.Teams.{GotBack}
use Rattle.sj_steal.proofs.EachLemmas.{nothing}
use Rattle.sj_steal.proofs.PartLemmas.{downto_all, downto_length, downto_next, downto_start, downto_step}
use Rattle.sj_steal.proofs.HireLemmas.{get_map}
use Rattle.sj_steal.proofs.BackLemmas.{back_more, row_less}
use Rattle.sj_steal.proofs.returns.give_back_each.Goals as goal

pub loop-reach-init : goal.loop-reach-init
loop-reach-init g c =
    let many : length c.args.row.items ≡ length c.args.members.now.items = sym (length-map c.args.row.items way_of) ∙ ap length c.requires.ways ∙
    length-map c.args.members.now.items deque_of in
    let decks = map deque_of c.args.members.now.items in
    let long = length-map c.args.members.now.items deque_of in (
      downto_start GotBack c.args.members.now.items c.args.row.len (omega (arith, c.args.row.ok.0)),
      c.requires.ways ∙ sym (take_all c.args.row.len decks (omega (arith, c.args.row.ok.0))),
      c.requires.reaches,
      IsPermutation-refl _,
    )

pub index_mut-requires : goal.index_mut-requires
index_mut-requires g c =
    let i = c.loop-reach.invariant in
    let old = c.args.members.now.items in
    let long = downto_length GotBack old c.loop-reach.members.items c.loop-reach.row.len i.0 in
    let many : length c.loop-reach.row.items ≡ length (take c.loop-reach.row.len (map deque_of old)) =
    sym (length-map c.loop-reach.row.items way_of) ∙ ap length i.1 in
    let few = length-take c.loop-reach.row.len (map deque_of old) in
    let all = length-map old deque_of in
    let was : length c.loop-reach.row.items ≡ length (c.pop.new.self.items ++ c.in-Some.reach ∷ []) = ap length c.in-Some.ensures.items in
    let one = length-append c.pop.new.self.items (c.in-Some.reach ∷ []) in
    omega (arith, c.loop-reach.members.ok.0, c.loop-reach.row.ok.0, c.pop.new.self.ok.0, c.len.ensures)

pub give_back-requires-clause-part : goal.give_back-requires-clause-part
give_back-requires-clause-part g c κs within =
    let i = c.loop-reach.invariant in
    let old = c.args.members.now.items in
    let now = c.loop-reach.members.items in
    let k = c.len.result in
    let m = c.index_mut.result.now in
    let r = c.in-Some.reach in
    let decks = map deque_of old in
    let long = downto_length GotBack old now c.loop-reach.row.len i.0 in
    let many : length c.loop-reach.row.items ≡ length (take c.loop-reach.row.len decks) = sym (length-map c.loop-reach.row.items way_of) ∙
    ap length i.1 in
    let few = length-take c.loop-reach.row.len decks in
    let all = length-map old deque_of in
    let was : length c.loop-reach.row.items ≡ length (c.pop.new.self.items ++ r ∷ []) = ap length c.in-Some.ensures.items in
    let one = length-append c.pop.new.self.items (r ∷ []) in
    let more : c.loop-reach.row.len ≡ k + 1 = omega (arith, c.loop-reach.row.ok.0, c.pop.new.self.ok.0, c.len.ensures) in
    let low : k < length old = omega (arith, c.loop-reach.row.ok.0, c.pop.new.self.ok.0, c.len.ensures) in
    let there : m ≡ get_or old k m = c.index_mut.ensures.value ∙ downto_next GotBack old now c.loop-reach.row.len k m (omega arith) i.0 in
    subst (λ x. 0 < (own_hand x).parts) (sym there) (All-get_or (λ x. 0 < (own_hand x).parts) old k m low c.requires.parts)

pub give_back-requires-clause-reach : goal.give_back-requires-clause-reach
give_back-requires-clause-reach g c κs within =
    let last = c.pop.new.self.items in
    let at = get_or_push last c.in-Some.reach c.in-Some.reach (length last) refl in
    let was : length c.loop-reach.row.items ≡ length (c.pop.new.self.items ++ c.in-Some.reach ∷ []) = ap length c.in-Some.ensures.items in
    let one = length-append c.pop.new.self.items (c.in-Some.reach ∷ []) in
    subst IsReach (ap (λ l. get_or l (length last) c.in-Some.reach) c.in-Some.ensures.items ∙ at)
    (All-get_or IsReach c.loop-reach.row.items (length last) c.in-Some.reach (omega arith) c.loop-reach.invariant.2)

pub give_back-requires-clause-way : goal.give_back-requires-clause-way
give_back-requires-clause-way g c κs within =
    let i = c.loop-reach.invariant in
    let old = c.args.members.now.items in
    let now = c.loop-reach.members.items in
    let k = c.len.result in
    let m = c.index_mut.result.now in
    let r = c.in-Some.reach in
    let decks = map deque_of old in
    let long = downto_length GotBack old now c.loop-reach.row.len i.0 in
    let many : length c.loop-reach.row.items ≡ length (take c.loop-reach.row.len decks) = sym (length-map c.loop-reach.row.items way_of) ∙
    ap length i.1 in
    let few = length-take c.loop-reach.row.len decks in
    let all = length-map old deque_of in
    let was : length c.loop-reach.row.items ≡ length (c.pop.new.self.items ++ r ∷ []) = ap length c.in-Some.ensures.items in
    let one = length-append c.pop.new.self.items (r ∷ []) in
    let more : c.loop-reach.row.len ≡ k + 1 = omega (arith, c.loop-reach.row.ok.0, c.pop.new.self.ok.0, c.len.ensures) in
    let low : k < length old = omega (arith, c.loop-reach.row.ok.0, c.pop.new.self.ok.0, c.len.ensures) in
    let there : m ≡ get_or old k m = c.index_mut.ensures.value ∙ downto_next GotBack old now c.loop-reach.row.len k m (omega arith) i.0 in
    let row = row_less way_of c.loop-reach.row.items c.pop.new.self.items r decks k
    (subst (λ n. map way_of c.loop-reach.row.items ≡ take n decks) more i.1) c.in-Some.ensures.items
    (omega (arith, c.pop.new.self.ok.0, c.len.ensures)) in
    row.1 ∙ get_or_default decks k (way_of r) (deque_of m) (omega arith) ∙ sym (get_map deque_of old k m low there)

pub loop-reach-preserved : goal.loop-reach-preserved
loop-reach-preserved g c =
    let i = c.loop-reach.invariant in
    let old = c.args.members.now.items in
    let now = c.loop-reach.members.items in
    let k = c.len.result in
    let m = c.index_mut.result.now in
    let r = c.in-Some.reach in
    let decks = map deque_of old in
    let long = downto_length GotBack old now c.loop-reach.row.len i.0 in
    let many : length c.loop-reach.row.items ≡ length (take c.loop-reach.row.len decks) = sym (length-map c.loop-reach.row.items way_of) ∙
    ap length i.1 in
    let few = length-take c.loop-reach.row.len decks in
    let all = length-map old deque_of in
    let was : length c.loop-reach.row.items ≡ length (c.pop.new.self.items ++ r ∷ []) = ap length c.in-Some.ensures.items in
    let one = length-append c.pop.new.self.items (r ∷ []) in
    let more : c.loop-reach.row.len ≡ k + 1 = omega (arith, c.loop-reach.row.ok.0, c.pop.new.self.ok.0, c.len.ensures) in
    let low : k < length old = omega (arith, c.loop-reach.row.ok.0, c.pop.new.self.ok.0, c.len.ensures) in
    let row = row_less way_of c.loop-reach.row.items c.pop.new.self.items r decks k
    (subst (λ n. map way_of c.loop-reach.row.items ≡ take n decks) more i.1) c.in-Some.ensures.items
    (omega (arith, c.pop.new.self.ok.0, c.len.ensures)) in
    let same : k ≡ c.pop.new.self.len = omega (arith, c.len.ensures) in
    let m' = c.give_back.new.member in
    let left : c.pop.new.self.items ≡ take (c.loop-reach.row.len - 1) c.loop-reach.row.items = c.in-Some.ensures.rest in (
      subst (λ n. Downto GotBack n old (set now k m')) same
          (downto_step GotBack old now c.loop-reach.row.len k m m' more c.index_mut.ensures.value c.give_back.ensures.back i.0),
      subst (λ n. map way_of c.pop.new.self.items ≡ take n decks) same row.0,
      subst (All IsReach) (sym left) (All-take IsReach (c.loop-reach.row.len - 1) c.loop-reach.row.items i.2),
      back_more now k m m' r _ c.loop-reach.row.items c.pop.new.self.items (omega arith) c.index_mut.ensures.value c.give_back.ensures.back.all
          c.give_back.ensures.taken c.in-Some.ensures.items i.3,
    )

pub returns-clause-back : goal.returns-clause-back
returns-clause-back g c =
    let none : c.loop-reach.row.len ≡ 0 = c.in_default.ensures.cases.0 in
    downto_all GotBack c.args.members.now.items c.loop-reach.members.items
    (subst (λ n. Downto GotBack n c.args.members.now.items c.loop-reach.members.items) none c.loop-reach.invariant.0)

pub returns-clause-taken : goal.returns-clause-taken
returns-clause-taken g c =
    let empty : c.loop-reach.row.items ≡ [] = nothing c.loop-reach.row.items (omega (arith, c.in_default.ensures.cases.0, c.loop-reach.row.ok.0)) in
    let bare : flat_map taken_by c.loop-reach.members.items ++ flat_map stolen_by c.loop-reach.row.items ≡ flat_map taken_by
    c.loop-reach.members.items =
    ap (λ l. flat_map taken_by c.loop-reach.members.items ++ flat_map stolen_by l) empty ∙ append-nil (flat_map taken_by c.loop-reach.members.items)
    in
    subst (IsPermutation (flat_map taken_by c.args.members.now.items ++ flat_map stolen_by c.args.row.items)) bare c.loop-reach.invariant.3
