-- Members before they work.
use Rattle.std.proofs.Common.{◌≡◌, ℕ, zero, suc, ◌+◌, ◌-◌, ◌<◌, ◌≤◌, List, [], ◌∷◌, ◌++◌}
use Rattle.std.proofs.Common.{map, length, get_or, set, take, sym, refl, ap, ◌∙◌, subst, flat_map, length-set, arith}
use Rattle.std.specs.Prelude.{All}
use Rattle.std.specs.Global.{Vec}
use Rattle.std.proofs.lemmas.List.{length-map, map-append, take_more}
use Rattle.std.proofs.lemmas.List.Elements.{All-set, All-get_or}
use Rattle.sj_steal.specs.declared.member.Reach.{Reach}
use Rattle.sj_steal.specs.declared.member.Member.{Member}
use Rattle.sj_steal.specs.Hands.{hand, whole}
use Rattle.sj_steal.specs.Parts.{Parted}
use Rattle.sj_steal.specs.Runs.{Each2}
use Rattle.sj_steal.specs.Members.{IsReach, deque_of, own_hand, stolen_by, way_of}
use Rattle.sj_steal.specs.Teams.{IsConnected, IsJoined, IsNew, Lent}
use Rattle.sj_steal.proofs.EachLemmas.{all_all, each2_map}
use Rattle.sj_steal.proofs.PartLemmas.{parted_each, parted_next}
use Rattle.sj_steal.proofs.RunLemmas.{each2_length}
use Rattle.sj_steal.proofs.MemberLemmas.{map_stays}

-- one more way
pub way_more : {D : Type 0} (ways : List D) (decks : List D) (way : D) (worker : ℕ) → ways ≡ take worker decks → worker < length decks →
    way ≡ get_or decks worker way → ways ++ way ∷ [] ≡ take (worker + 1) decks
way_more ways decks way worker h in' is =
    ap (λ l. l ++ way ∷ []) h ∙ ap (λ w. take worker decks ++ w ∷ []) is ∙ sym (take_more decks worker way in')

pub get_map : {A D : Type 0} (f : A → D) (xs : List A) (i : ℕ) (x : A) → i < length xs → x ≡ get_or xs i x → f x ≡ get_or (map f xs) i (f x)
get_map f [] i x l is = absurd (omega arith)
get_map f (y ∷ xs) zero x l is = ap f is
get_map f (y ∷ xs) (suc i) x l is = get_map f xs i x (omega arith) is

module _ {J : Type 0} where
  new_more : (workers lent : ℕ) (x y : Member J) → Lent x y → IsNew workers lent x → IsNew workers (lent + 1) y
  new_more workers lent x y l h =
      let most = l.most in
      let slots = l.slots in
      let before = h.slots in
      let room = h.room in
      let less : (own_hand x).parts - 1 ≡ whole - (lent + 1) = ap (λ v. v.parts - 1) h.view ∙ omega arith in
      record {
        flavor = l.flavor ∙ h.flavor;
        view = l.view ∙ ap (λ v. hand (v.parts - 1) v.put v.taken) h.view ∙ ap (λ k. hand k [] []) (omega arith);
        index = l.index ∙ h.index;
        slots = omega arith;
        done = ap (λ d. d.items) l.done ∙ h.done;
        room = subst (λ d. y.most + workers ≤ d.cap) (sym l.done) (omega arith);
      }

  new_with : (workers lent : ℕ) (m : Member J) (all : Vec (Reach J)) → IsNew workers lent m → IsNew workers lent
      (record { own = m.own; all = all; done = m.done; most = m.most })
  new_with workers lent m all h = record { flavor = h.flavor; view = h.view; index = h.index; slots = h.slots; done = h.done; room = h.room }

  ways_stay : (decks : _) (x y : Member J) → Lent x y → IsJoined decks x → IsJoined decks y
  ways_stay decks x y l h =
      subst (λ (a : Vec (Reach J)). IsJoined decks (record { own = y.own; all = a; done = y.done; most = y.most })) (sym l.all)
      (record { ways = record { ways = h.ways.ways; reaches = h.ways.reaches }; unused = h.unused })

  -- one more with ways into the deques of all
  pub connected_more : (workers worker : ℕ) (now lent : List (Member J)) (row : Vec (Reach J)) (m : Member J) → IsConnected workers worker now →
      Each2 Lent now lent → worker < workers →
      map way_of row.items ≡ map deque_of now → All IsReach row.items → flat_map stolen_by row.items ≡ [] → m ≡ get_or lent worker m →
      IsConnected workers (worker + 1) (set lent worker (record { own = m.own; all = row; done = m.done; most = m.most }))
  connected_more workers worker now lent row m h l in' ways reaches unused is =
      let long = each2_length Lent now lent l in
      let count = h.count in
      let m' : Member J = record { own = m.own; all = row; done = m.done; most = m.most } in
      let same : map deque_of lent ≡ map deque_of now = each2_map Lent deque_of (λ x y r. r.deque) now lent l in
      let after : map deque_of (set lent worker m') ≡ map deque_of lent = map_stays deque_of lent worker m m' is refl in
      let new : All (IsNew workers (worker + 1)) lent = all_all Lent (IsNew workers worker) (IsNew workers (worker + 1))
      (new_more workers worker) now lent l h.new in
      let mine : IsNew workers (worker + 1) m = subst (IsNew workers (worker + 1)) (sym is)
      (All-get_or (IsNew workers (worker + 1)) lent worker m (omega arith) new) in
      let decks = map deque_of now in
      let all = parted_each (IsJoined decks) (λ _. Unit {0}) Lent (ways_stay decks) (λ x y r u. u) now lent worker l h.ways in
      record {
        count = length-set lent worker m' ∙ long ∙ count;
        new = All-set (IsNew workers (worker + 1)) lent worker m' (new_with workers (worker + 1) m row mine) new;
        ways = subst (λ d. Parted (IsJoined d) (λ _. Unit {0}) (worker + 1) (set lent worker m')) (sym (after ∙ same))
            (parted_next (IsJoined decks) (λ _. Unit {0}) lent worker m'
            (record { ways = record { ways = ways; reaches = reaches }; unused = unused }) all);
      }

  pub row_more : (row : List (Reach J)) (members : List (Member J)) (worker : ℕ) (m : Member J) (r : Reach J) → map way_of row ≡ take worker
      (map deque_of members) → worker < length members →
      m ≡ get_or members worker m → way_of r ≡ deque_of m → map way_of (row ++ r ∷ []) ≡ take (worker + 1) (map deque_of members)
  row_more row members worker m r h in' is w =
      map-append way_of row (r ∷ []) ∙ ap (λ d. map way_of row ++ d ∷ []) w
      ∙ way_more (map way_of row) (map deque_of members) (deque_of m) worker h (omega (arith, length-map members deque_of, in'))
      (get_map deque_of members worker m in' is)
