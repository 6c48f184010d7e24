-- How the parties of a world stand at the end of the file that it leaves nothing to do of.
use Rattle.std.proofs.Common.{◌≡◌, ℕ, zero, suc, ◌+◌, ◌<◌, ◌==◌, max, Bool, true, false, not, ◌||◌, ◌≤◌, List, [], ◌∷◌, ◌++◌, append-nil, append_assoc, drop, get_or, map, length, slice_get, unwrap_or, Option, Some, refl, ap, sym, ◌∙◌, arith, inl, inr}
use Rattle.std.proofs.lemmas.Bool.Decides.{eqb_tells}
use Rattle.std.proofs.lemmas.List.{at_drop_more, drop_all}
use Rattle.std.specs.List.{list_any}
use Rattle.sj_lang.specs.FileAt.{FileAt}
use Rattle.sj_node.specs.declared.node.Node.{Node}
use Rattle.sj_node.specs.Node.{requests_of, steps_of, wants_of}
use Rattle.sj_machine.specs.Sound.{program_at}
use Rattle.sj_rules.specs.Party.{nobody}
use Rattle.sj_rules.specs.Start.{first_node}
use Rattle.sj_semantics.specs.declared.State.{State}
use Rattle.sj_semantics.specs.declared.Want.TheVariants as wants
use Rattle.sj_semantics.specs.Program.{Program}
use Rattle.sj_semantics.specs.Run.{end_of}
use Rattle.sj_semantics.specs.State.{opened_in, state_if, state_of_program, states_from}
use Rattle.sj_semantics.specs.Wants.{want_of}
use Rattle.sj_semantics.specs.World.{World}
use Rattle.sj_semantics_laws.proofs.FinishLemmas.{end_is_settled}
use Rattle.sj_told.specs.declared.told.Stand.{Stand}
use Rattle.sj_told.specs.Still.{still_state}
use Rattle.sj_told.specs.Told.{AreStands}
use Rattle.sj_told_laws.proofs.EndLemmas.{end_opened, end_parties, end_programs}
use Rattle.sj_told_laws.proofs.StillLemmas.{stands_still}
use Rattle.sj_core.specs.declared.node_world.NodeWorld.{NodeWorld}
use Rattle.sj_core.specs.NodeWorld.{IsReached, file_in, history_in, nodes_in, world_in}
use Rattle.sj_core.specs.Nodes.{node_or}
use Rattle.sj_core.specs.ToldWorld.{IsQuietOf, has_opened, stand_seen}
use Rattle.sj_core.proofs.LawLemmas.{max_picks}

-- ---- two lists, item by item

some_item : {X : Type 0} → (x y : X) → Some x ≡ Some y → x ≡ y
some_item x y h = cc h

maps_meet : {X Y Z : Type 0} (f : X → Z) (g : Y → Z) (xs : List X) (ys : List Y) → length xs ≡ length ys → ((k : ℕ) (x : X) (y : Y) → slice_get xs k ≡ Some x → slice_get ys k ≡ Some y → f x ≡ g y) → map f xs ≡ map g ys
maps_meet f g [] [] same each = refl
maps_meet f g [] (y ∷ ys) same each = absurd (omega (arith, same))
maps_meet f g (x ∷ xs) [] same each = absurd (omega (arith, same))
maps_meet f g (x ∷ xs) (y ∷ ys) same each =
    let head = each zero x y refl refl in
    let tail = maps_meet f g xs ys (omega (arith, same)) (λ k u v a b. each (suc k) u v a b) in
    λ i. head i ∷ tail i

states_meet : {X : Type 0} (w : World) (f : X → State) (p : ℕ) (xs : List X) (gs : List Program) → length xs ≡ length gs
    → ((k : ℕ) (x : X) (g : Program) → slice_get xs k ≡ Some x → slice_get gs k ≡ Some g → f x ≡ state_of_program w (k + p) g) → map f xs ≡ states_from w p gs
states_meet w f p [] [] same each = refl
states_meet w f p [] (g ∷ gs) same each = absurd (omega (arith, same))
states_meet w f p (x ∷ xs) [] same each = absurd (omega (arith, same))
states_meet w f p (x ∷ xs) (g ∷ gs) same each =
    let head = each zero x g refl refl ∙ ap (λ (q : ℕ). state_of_program w q g) (let e : zero + p ≡ p = omega arith in e) in
    let tail = states_meet w f (p + 1) xs gs (omega (arith, same)) (λ k u v a b. each (suc k) u v a b ∙ ap (λ (q : ℕ). state_of_program w q v) (let e : suc k + p ≡ k + (p + 1) = omega arith in e)) in
    λ i. head i ∷ tail i

-- ---- the nodes

module _ (c : NodeWorld) (reached : IsReached c) (file : FileAt) (q : IsQuietOf file c) where
  many : length (nodes_in c) ≡ length (end_of file).parties
  many =
      reached.seats.count ∙ ap (λ (f : FileAt). length f.parties) q.kept
      ∙ sym (end_parties file q.accepted max max_picks (history_in c) (world_in c) q.run q.quiet)

  -- a party's program at the end is its node's
  same_program : (p : ℕ) (n : Node) (g : Program) → slice_get (nodes_in c) p ≡ Some n → slice_get (end_of file).parties p ≡ Some g → program_at n.machine ≡ g
  same_program p n g there here =
      sym (ap (λ o. (node_or (first_node (file_in c) p) o).program) there)
      ∙ end_programs file q.accepted max max_picks (history_in c) (world_in c) q.run q.quiet p
      ∙ ap (λ (o : Option Program). unwrap_or o nobody) here

  same_state : (p : ℕ) (n : Node) (g : Program) → slice_get (nodes_in c) p ≡ Some n → slice_get (end_of file).parties p ≡ Some g → still_state (steps_of n) (wants_of n) ≡ state_of_program (end_of file) p g
  same_state p n g there here =
      ap (λ (h : Program). still_state h.steps (unwrap_or (want_of h) wants.Ended)) (same_program p n g there here)
      ∙ sym (stands_still (end_of file) p g here (end_is_settled file p))
      ∙ ap (state_if (end_of file) p) here

  map_map : {X Y Z : Type 0} (f : Y → Z) (g : X → Y) (xs : List X) → map f (map g xs) ≡ map (λ x. f (g x)) xs
  map_map f g [] = refl
  map_map f g (x ∷ xs) = ap (λ t. f (g x) ∷ t) (map_map f g xs)

  pub nodes_stand : AreStands (end_of file) (map stand_seen (nodes_in c))
  nodes_stand = record {
    steps = map_map (λ s. s.steps) stand_seen (nodes_in c) ∙ maps_meet steps_of (λ (g : Program). g.steps) (nodes_in c) (end_of file).parties many (λ k n g there here. ap (λ (h : Program). h.steps) (same_program k n g there here));
    states = map_map (λ s. s.state) stand_seen (nodes_in c)
        ∙ states_meet (end_of file) (λ (n : Node). still_state (steps_of n) (wants_of n)) 0 (nodes_in c) (end_of file).parties many
        (λ k n g there here. same_state k n g there here ∙ ap (λ (p : ℕ). state_of_program (end_of file) p g) (let e : k ≡ k + 0 = omega arith in e));
  }

  none_zero : (k : ℕ) → not (k == 0) ≡ false → k ≡ 0
  none_zero zero h = refl
  none_zero (suc k) h = elim (eqb_tells (suc k) 0) [ inl t ↦ t.1 | inr t ↦ absurd (let e = sym (ap not t.0) ∙ h in cc e) ]

  none_has : (ns : List Node) → list_any has_opened ns ≡ false → (p : ℕ) (n : Node) → slice_get ns p ≡ Some n → has_opened n ≡ false
  none_has [] h p n is = cc
  none_has (m ∷ ms) h p n is = by (has_opened m) refl (list_any has_opened ms) refl h (λ rest k there. none_has ms rest k n there) p is
    where
      by : (b : Bool) → has_opened m ≡ b → (d : Bool) → list_any has_opened ms ≡ d → b || d ≡ false → (list_any has_opened ms ≡ false → (k : ℕ) → slice_get ms k ≡ Some n → has_opened n ≡ false)
          → (k : ℕ) → slice_get (m ∷ ms) k ≡ Some n → has_opened n ≡ false
      by true own d rest none onward k there = cc
      by false own true rest none onward k there = cc
      by false own false rest none onward zero there = ap has_opened (sym (some_item m n there)) ∙ own
      by false own false rest none onward (suc k) there = onward rest k there

  record Item {X : Type 0} (xs : List X) (p : ℕ) : Type 0 where
    item : X
    is : slice_get xs p ≡ Some item

  item_at : {X : Type 0} (xs : List X) (p : ℕ) → p < length xs → Item xs p
  item_at [] p lt = absurd (omega arith)
  item_at (x ∷ xs) zero lt = record { item = x; is = refl }
  item_at (x ∷ xs) (suc p) lt = let r = item_at xs p (omega arith) in record { item = r.item; is = r.is }

  pub none_opened : list_any has_opened (nodes_in c) ≡ false → opened_in (end_of file) ≡ []
  none_opened none =
      end_opened file q.accepted max max_picks (history_in c) (world_in c) q.run q.quiet
      (λ p lt.
      let n = item_at (nodes_in c) p (omega (arith, lt, many, end_parties file q.accepted max max_picks (history_in c) (world_in c) q.run q.quiet)) in
      ap (λ o. (node_or (first_node (file_in c) p) o).requests) n.is ∙ none_zero (requests_of n.item) (none_has (nodes_in c) none p n.item n.is))

-- ---- one stand more

pub stand_next : (nodes : List Node) (i : ℕ) (d : Node) (before after : List Stand) (s : Stand) → i < length nodes → before ++ map stand_seen (drop i nodes) ≡ map stand_seen nodes
    → s ≡ stand_seen (get_or nodes i d) → after ≡ before ++ s ∷ [] → after ++ map stand_seen (drop (i + 1) nodes) ≡ map stand_seen nodes
stand_next nodes i d before after s lt so_far same put =
    let rest = map stand_seen (drop (i + 1) nodes) in
    ap (λ t. t ++ rest) put ∙ append_assoc before (s ∷ []) rest ∙ ap (λ (t : Stand). before ++ t ∷ rest) same
    ∙ ap (λ t. before ++ t) (sym (at_drop_more (map stand_seen) nodes i d lt)) ∙ so_far

pub stands_over : (nodes : List Node) (i : ℕ) (stands : List Stand) → length nodes ≤ i → stands ++ map stand_seen (drop i nodes) ≡ map stand_seen nodes → stands ≡ map stand_seen nodes
stands_over nodes i stands over so_far = sym (append-nil stands) ∙ sym (ap (λ t. stands ++ map stand_seen t) (drop_all i nodes over)) ∙ so_far
