-- The threads of the pool together.
use Rattle.std.specs.Prelude.{◌≡◌, ℕ, ◌+◌, ◌-◌, ◌*◌, ◌<◌, ◌≤◌, List, [], All, length, get_or, map, vec_len, vec_capacity}
use Rattle.std.specs.List.{flat_map}
use Rattle.std.specs.List.Sorted.{IsPermutation}
use Rattle.std.specs.Global.{Global}
use Rattle.atomic_blocks.specs.Lent.{RowsId}
use Rattle.crossbeam_deque.specs.Handles.{worker_capacity, worker_flavor, worker_index}
use Rattle.sj_steal.specs.Hands.{hand, whole}
use Rattle.sj_steal.specs.declared.member.Member.{Member}
use Rattle.sj_steal.specs.Parts.{Parted}
use Rattle.sj_steal.specs.Members.{IsReach, deque_of, own_hand, own_put, own_taken, stolen_by, taken_by, ways_of}

module _ {J : Type 0} where
  -- a member whose deque had no job yet, and lent so many parts
  pub record IsNew (workers lent : ℕ) (m : Member J) : Type 0 where
    pub flavor : worker_flavor m.own ≡ 0
    pub view : own_hand m ≡ hand (whole - lent) [] []
    pub index : worker_index m.own ≡ 0
    pub slots : m.most ≤ worker_capacity m.own
    pub done : m.done.items ≡ []
    pub room : m.most + workers ≤ vec_capacity m.done

  -- it has lent one part more
  pub record Lent (old new : Member J) : Type 0 where
    pub deque : deque_of new ≡ deque_of old
    pub flavor : worker_flavor new.own ≡ worker_flavor old.own
    pub view : own_hand new ≡ hand ((own_hand old).parts - 1) (own_hand old).put (own_hand old).taken
    pub index : worker_index new.own ≡ worker_index old.own
    pub slots : worker_capacity old.own ≤ worker_capacity new.own
    pub all : new.all ≡ old.all
    pub done : new.done ≡ old.done
    pub most : new.most ≡ old.most

  -- it has ways into these deques, and no others
  pub record HasWays (decks : List (RowsId × Global)) (m : Member J) : Type 0 where
    pub ways : ways_of m ≡ decks
    pub reaches : All IsReach m.all.items

  -- through which nothing was taken yet
  pub record IsJoined (decks : List (RowsId × Global)) (m : Member J) : Type 0 where
    pub ways : HasWays decks m
    pub unused : flat_map stolen_by m.all.items ≡ []

  -- the first `so_far` have ways into the deques of all
  pub record IsConnected (workers so_far : ℕ) (members : List (Member J)) : Type 0 where
    pub count : length members ≡ workers
    pub new : All (IsNew workers so_far) members
    pub ways : Parted (IsJoined (map deque_of members)) (λ _. Unit {0}) so_far members

  -- it has got jobs
  pub record Dealt (old new : Member J) : Type 0 where
    pub deque : deque_of new ≡ deque_of old
    pub flavor : worker_flavor new.own ≡ worker_flavor old.own
    pub parts : (own_hand new).parts ≡ (own_hand old).parts
    pub taken : own_taken new ≡ own_taken old
    pub count : worker_index new.own + length (own_put old) ≡ worker_index old.own + length (own_put new)
    pub slots : worker_capacity old.own ≤ worker_capacity new.own
    pub all : new.all ≡ old.all
    pub done : new.done ≡ old.done
    pub most : new.most ≡ old.most

  -- after so many jobs none has more than its turn gives it
  abbrev pub IsSpread : ℕ → ℕ → List (Member J) → Type 0
  IsSpread workers turn members = (i : ℕ) (d : Member J) → i < length members → worker_index (get_or members i d).own * workers + i < turn + workers

  -- a part has come back
  pub record GotBack (old new : Member J) : Type 0 where
    pub deque : deque_of new ≡ deque_of old
    pub flavor : worker_flavor new.own ≡ worker_flavor old.own
    pub parts : (own_hand new).parts ≡ (own_hand old).parts + 1
    pub put : own_put new ≡ own_put old
    pub taken : length (own_taken old) ≤ length (own_taken new)
    pub all : new.all ≡ old.all
    pub done : new.done ≡ old.done
    pub most : new.most ≡ old.most

  -- nothing is left
  pub record IsEmptied (old new : Member J) : Type 0 where
    pub put : own_put new ≡ own_put old
    pub taken : IsPermutation (own_put new) (taken_by new)

  -- so many parts of its deque have come back
  pub record IsBack (count : ℕ) (m : Member J) : Type 0 where
    pub flavor : worker_flavor m.own ≡ 0
    pub parts : (own_hand m).parts ≡ count
    pub put : length (own_put m) ≤ m.most
    pub free : m.most + vec_len m.done ≤ vec_capacity m.done + length (own_taken m)
