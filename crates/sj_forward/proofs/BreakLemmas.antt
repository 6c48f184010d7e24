-- Drains that break off: each list of the turns of a drain begins by theirs.
use Rattle.std.proofs.Common.{◌≡◌, ◌≢◌, ℕ, ◌+◌, ◌-◌, ◌<◌, List, [], ◌∷◌, ◌++◌, length, Some, None, option_map, refl, ap, sym, ◌∙◌, subst, append_assoc}
use Rattle.std.specs.Prelude.{⊤}
use Rattle.sj_lang.specs.FileAt.{FileAt}
use Rattle.sj_semantics.specs.Program.{Program}
use Rattle.sj_rules.specs.Drain.{numbers_from, turn}
use Rattle.sj_rules.specs.Party.{play_of}
use Rattle.sj_rules.specs.World as rules
use Rattle.sj_rules.specs.World.{Turn}
use Rattle.sj_forward.specs.declared.forwarder_world.ForwarderWorld.{ForwarderWorld}
use Rattle.sj_forward.specs.ForwarderWorld.{Steps, file_in, world_in}
use Rattle.sj_forward.specs.Draining.{ActsOut, Anything, Empties, EmptiesEach, GoesBy, GoesFirst, IsDrained, IsRound, Leads, Leaves, TakeTurns, TakesTurn}
use Rattle.sj_forward.proofs.DrainLemmas.{step_of}
use Rattle.sj_forward.proofs.FrontLemmas.{first_each, first_of, left_on, next_each, next_of}
use Rattle.sj_forward.proofs.RoundLemmas.{has_turns}
use Rattle.sj_forward.proofs.SlotLemmas.{some_same}
use Rattle.sj_forward_laws.proofs.DrainLemmas.{each_once, empties_once, turn_once, turns_once}
use Rattle.sj_forward_rules.specs.Drain as drain
use Rattle.sj_forward_rules.specs.World.{WorldAt, after_event, delivery_of, happens}

-- ---- one event

module _ (file : FileAt) where
  -- a frame came from the lane
  took_rest : (p q : ℕ) (w mid v : WorldAt Program) (t : Turn) (ts : List Turn) → t ≡ turn p (rules.Deliver q) → happens (play_of file) w p (rules.Deliver q) ≡ Some mid
      → drain.Empties (play_of file) p q w ts v → (rest : List Turn) × ((ts ≡ t ∷ rest) × drain.Empties (play_of file) p q mid rest v)
  took_rest p q w mid v t [] is h r = let clash : None ≡ Some mid = sym (ap (delivery_of w p q) r.0) ∙ h in absurd (cc clash)
  took_rest p q w mid v t (s ∷ ts) is h r =
      (ts, (ap (λ x. x ∷ ts) (r.0 ∙ sym is), subst (λ (x : WorldAt Program). drain.Empties (play_of file) p q x ts v) (some_same r.1.0 mid (sym r.1.1.0 ∙ h)) r.1.1.1))

  -- the party acted
  acted_rest : (p : ℕ) (w mid v : WorldAt Program) (t : Turn) (ts : List Turn) → t ≡ turn p rules.Act → happens (play_of file) w p rules.Act ≡ Some mid
      → drain.ActsOut (play_of file) p w ts v → (rest : List Turn) × ((ts ≡ t ∷ rest) × drain.ActsOut (play_of file) p mid rest v)
  acted_rest p w mid v t [] is h r =
      let clash : None ≡ Some mid = sym (ap (option_map (after_event w p w.lanes)) r.0) ∙ h in absurd (cc clash)
  acted_rest p w mid v t (s ∷ ts) is h r =
      (ts, (ap (λ x. x ∷ ts) (r.0 ∙ sym is), subst (λ (x : WorldAt Program). drain.ActsOut (play_of file) p x ts v) (some_same r.1.0 mid (sym r.1.1.0 ∙ h)) r.1.1.1))

pub left_took : (c d e : ForwarderWorld) (p q : ℕ) → file_in d ≡ file_in c → Leaves (Empties c p q) (Empties c p q) c d → Steps d p (rules.Deliver q) e → Leaves (Empties c p q) (Empties c p q) c e
left_took c d e p q file a t =
    left_on (Empties c p q) (Empties c p q) (Empties c p q) c d e a
    (record {
      turns = turn p (rules.Deliver q) ∷ [];
      counts = t.counts;
      rest_of = λ ts v r. took_rest (file_in c) p q (world_in d) (world_in e) v (turn p (rules.Deliver q)) ts refl (step_of c d e p (rules.Deliver q) file t) r;
    })

pub left_acted : (c d e : ForwarderWorld) (p : ℕ) → file_in d ≡ file_in c → Leaves (ActsOut c p) (ActsOut c p) c d → Steps d p rules.Act e → Leaves (ActsOut c p) (ActsOut c p) c e
left_acted c d e p file a t =
    left_on (ActsOut c p) (ActsOut c p) (ActsOut c p) c d e a
    (record {
      turns = turn p rules.Act ∷ [];
      counts = t.counts;
      rest_of = λ ts v r. acted_rest (file_in c) p (world_in d) (world_in e) v (turn p rules.Act) ts refl (step_of c d e p rules.Act file t) r;
    })

-- what one world of forwarders does by a relation, for the file of another
with_file : (Does : FileAt → Type 0) (c d : ForwarderWorld) → file_in d ≡ file_in c → Does (file_in d) → Does (file_in c)
with_file Does c d file does = subst Does file does

pub left_lane : (R : Leads) (c d e : ForwarderWorld) (p n k : ℕ) → file_in d ≡ file_in c → k < n → Leaves R (EmptiesEach c p (numbers_from k (n - k))) c d → GoesBy (Empties d p k) d e
    → Leaves R (EmptiesEach c p (numbers_from (k + 1) (n - (k + 1)))) c e
left_lane R c d e p n k file lt a g =
    next_each (Empties c p) (EmptiesEach c p) (λ q. empties_once (play_of (file_in c)) p q) (λ q qs w v ts r. r) R c d e n k lt a
    (with_file (λ f. GoesBy (drain.Empties (play_of f) p k) d e) c d file g)

pub first_lane : (R : Leads) (c d e : ForwarderWorld) (p n k : ℕ) → file_in d ≡ file_in c → k < n → Leaves R (EmptiesEach c p (numbers_from k (n - k))) c d → GoesFirst (Empties d p k) d e → GoesFirst R c e
first_lane R c d e p n k file lt a b =
    first_each (Empties c p) (EmptiesEach c p) (λ q. empties_once (play_of (file_in c)) p q) (λ q qs w v ts r. r) R c d e n k lt a
    (with_file (λ f. GoesFirst (drain.Empties (play_of f) p k) d e) c d file b)

pub left_turn : (R : Leads) (c d e : ForwarderWorld) (n m k : ℕ) → file_in d ≡ file_in c → m ≡ n → k < n → Leaves R (TakeTurns c n (numbers_from k (n - k))) c d → GoesBy (TakesTurn d m k) d e
    → Leaves R (TakeTurns c n (numbers_from (k + 1) (n - (k + 1)))) c e
left_turn R c d e n m k file count lt a g =
    next_each (TakesTurn c n) (TakeTurns c n) (λ p. turn_once (play_of (file_in c)) n p) (λ p ps w v ts r. r) R c d e n k lt a
    (subst (λ x. GoesBy (TakesTurn c x k) d e) count (with_file (λ f. GoesBy (drain.TakesTurn (play_of f) m k) d e) c d file g))

pub first_turn : (R : Leads) (c d e : ForwarderWorld) (n m k : ℕ) → file_in d ≡ file_in c → m ≡ n → k < n → Leaves R (TakeTurns c n (numbers_from k (n - k))) c d → GoesFirst (TakesTurn d m k) d e
    → GoesFirst R c e
first_turn R c d e n m k file count lt a b =
    first_each (TakesTurn c n) (TakeTurns c n) (λ p. turn_once (play_of (file_in c)) n p) (λ p ps w v ts r. r) R c d e n k lt a
    (subst (λ x. GoesFirst (TakesTurn c x k) d e) count (with_file (λ f. GoesFirst (drain.TakesTurn (play_of f) m k) d e) c d file b))

-- ---- a turn

pub first_takes : (c e : ForwarderWorld) (n p : ℕ) → GoesFirst (EmptiesEach c p (numbers_from 0 n)) c e → GoesFirst (TakesTurn c n p) c e
first_takes c e n p b = first_of (EmptiesEach c p (numbers_from 0 n)) (ActsOut c p) (TakesTurn c n p) c e (λ w v ts r. r) b

pub first_acts : (c d e : ForwarderWorld) (n p : ℕ) → file_in d ≡ file_in c → GoesBy (EmptiesEach c p (numbers_from 0 n)) c d → GoesFirst (ActsOut d p) d e → GoesFirst (TakesTurn c n p) c e
first_acts c d e n p file g b =
    left_on (TakesTurn c n p) (ActsOut c p) Anything c d e
    (next_of (EmptiesEach c p (numbers_from 0 n)) (ActsOut c p) (TakesTurn c n p) c d (each_once (play_of (file_in c)) p (numbers_from 0 n)) (λ w v ts r. r) g)
    (with_file (λ f. GoesFirst (drain.ActsOut (play_of f) p) d e) c d file b)

-- ---- rounds

-- a round with an event
round_rest : (file : FileAt) (n : ℕ) (w mid v : WorldAt Program) (r ts : List Turn) → r ≢ [] → drain.IsRound (play_of file) n w r mid → drain.IsDrained (play_of file) n w ts v
    → (rest : List Turn) × ((ts ≡ r ++ rest) × drain.IsDrained (play_of file) n mid rest v)
round_rest file n w mid v r ts some round ([], by) = absurd (some (turns_once (play_of file) n (numbers_from 0 n) w mid v r [] round by.1).0)
round_rest file n w mid v r ts some round (s ∷ rs, by) =
    let y = by.1.1 in
    let same = turns_once (play_of file) n (numbers_from 0 n) w by.1.0 mid s r y.2 round in
    (by.0, (y.1 ∙ ap (λ t. t ++ by.0) same.0, (rs, subst (λ (x : WorldAt Program). drain.DrainsBy (play_of file) n rs x by.0 v) same.1 y.3)))

-- a round that broke off
round_first : (file : FileAt) (n : ℕ) (w v : WorldAt Program) (ts us : List Turn)
    → ((r : List Turn) (mid : WorldAt Program) → drain.IsRound (play_of file) n w r mid → (rest : List Turn) × ((r ≡ us ++ rest) × ⊤))
    → drain.IsDrained (play_of file) n w ts v → (rest : List Turn) × ((ts ≡ us ++ rest) × ⊤)
round_first file n w v ts us front ([], by) = let x = front [] v by.1 in (x.0, (by.0 ∙ x.1.0, tt))
round_first file n w v ts us front (s ∷ rs, by) =
    let y = by.1.1 in
    let x = front s by.1.0 y.2 in
    (x.0 ++ by.0, (y.1 ∙ ap (λ t. t ++ by.0) x.1.0 ∙ append_assoc us x.0 by.0, tt))

pub left_round : (R : Leads) (c d e : ForwarderWorld) (n m : ℕ) → file_in d ≡ file_in c → m ≡ n → Leaves R (IsDrained c n) c d → GoesBy (IsRound d m) d e → d.events < e.events
    → Leaves R (IsDrained c n) c e
left_round R c d e n m file count a g more =
    let own = subst (λ x. GoesBy (IsRound c x) d e) count (with_file (λ f. GoesBy (drain.IsRound (play_of f) m) d e) c d file g) in
    left_on R (IsDrained c n) (IsDrained c n) c d e a
    (record {
      turns = own.turns;
      counts = own.counts;
      rest_of = λ ts v r. round_rest (file_in c) n (world_in d) (world_in e) v own.turns ts (has_turns d e own.turns own.counts more) own.by r;
    })

pub first_round : (R : Leads) (c d e : ForwarderWorld) (n m : ℕ) → file_in d ≡ file_in c → m ≡ n → Leaves R (IsDrained c n) c d → GoesFirst (IsRound d m) d e → GoesFirst R c e
first_round R c d e n m file count a b =
    let own = subst (λ x. GoesFirst (IsRound c x) d e) count (with_file (λ f. GoesFirst (drain.IsRound (play_of f) m) d e) c d file b) in
    left_on R (IsDrained c n) Anything c d e a
    (record {
      turns = own.turns;
      counts = own.counts;
      rest_of = λ ts v r. round_first (file_in c) n (world_in d) v ts own.turns own.rest_of r;
    })
