-- Rounds of a drain, from what each party does in them.
use Rattle.std.proofs.Common.{◌≡◌, ◌≢◌, ℕ, zero, suc, ◌+◌, ◌<◌, max, List, [], ◌∷◌, ◌++◌, map, length, Result, Ok, Err, refl, ap, sym, ◌∙◌, subst, append-nil, append_assoc, add-one, length-append, arith}
use Rattle.std.proofs.lemmas.List.{length-map, map-append}
use Rattle.std.specs.Result.{OnOk}
use Rattle.sj_lang.specs.FileAt.{FileAt}
use Rattle.sj_rules.specs.Drain as drain
use Rattle.sj_rules.specs.Drain.{numbers_from}
use Rattle.sj_rules.specs.History.{IsQuietAmong, turn_of}
use Rattle.sj_rules.specs.Log.{LineAt}
use Rattle.sj_rules.specs.Node.{Play}
use Rattle.sj_rules.specs.Party.{play_of}
use Rattle.sj_rules.specs.World.{Turn, WorldAt}
use Rattle.sj_core.specs.declared.node_world.NodeWorld.{NodeWorld}
use Rattle.sj_core.specs.NodeWorld.{IsReached, file_in, history_in, nodes_in, world_in}
use Rattle.sj_core.specs.Draining.{ActsOut, Ahead, Empties, EmptiesEach, GoesBy, IsDrained, IsRound, Leads, TakeTurns, TakesTurn, events_left}
use Rattle.sj_rules_laws.proofs.DrainEndLemmas.{drained_is_quiet}
use Rattle.sj_core.proofs.LawLemmas.{short}
use Rattle.sj_core.proofs.ReachedLemmas.{led}

numbers_next : (n k : ℕ) → numbers_from n (suc k) ≡ numbers_from n k ++ (n + k) ∷ []
numbers_next n zero = let e : n ≡ n + 0 = omega arith in ap (λ t. t ∷ []) e
numbers_next n (suc k) =
    let e : n + 1 + k ≡ n + suc k = omega arith in
    ap (λ t. n ∷ t) (numbers_next (n + 1) k) ∙ ap (λ t. n ∷ numbers_from (n + 1) k ++ t ∷ []) e

numbers_more : (k : ℕ) → numbers_from 0 (k + 1) ≡ numbers_from 0 k ++ k ∷ []
numbers_more k = let e : 0 + k ≡ k = omega arith in ap (numbers_from 0) (add-one k) ∙ numbers_next 0 k ∙ ap (λ t. numbers_from 0 k ++ t ∷ []) e

module _ {P Q : Type 0} (play : Play P Q) (pick : ℕ → ℕ → ℕ) where
  -- one lane more
  each_more : (p q : ℕ) (qs : List ℕ) (w mid v : WorldAt P Q) (ts us : List Turn) → drain.EmptiesEach play pick p qs w ts mid → drain.Empties play pick p q mid us v
      → drain.EmptiesEach play pick p (qs ++ q ∷ []) w (ts ++ us) v
  each_more p q [] w mid v ts us h k =
      (us, ([], (v, (ap (λ t. t ++ us) h.0 ∙ sym (append-nil us), subst (λ (x : WorldAt P Q). drain.Empties play pick p q x us v) (sym h.1) k, (refl, refl)))))
  each_more p q (r ∷ qs) w mid v ts us h k =
      (h.0, (h.1.0 ++ us, (h.1.1.0, (ap (λ t. t ++ us) h.1.1.1.0 ∙ append_assoc h.0 h.1.0 us, h.1.1.1.1, each_more p q qs h.1.1.0 mid v h.1.0 us h.1.1.1.2 k))))

  -- one party more
  turns_on : (n q : ℕ) (qs : List ℕ) (w mid v : WorldAt P Q) (ts us : List Turn) → drain.TakeTurns play pick n qs w ts mid → drain.TakesTurn play pick n q mid us v
      → drain.TakeTurns play pick n (qs ++ q ∷ []) w (ts ++ us) v
  turns_on n q [] w mid v ts us h k =
      (us, ([], (v, (ap (λ t. t ++ us) h.0 ∙ sym (append-nil us), subst (λ (x : WorldAt P Q). drain.TakesTurn play pick n q x us v) (sym h.1) k, (refl, refl)))))
  turns_on n q (r ∷ qs) w mid v ts us h k =
      (h.0, (h.1.0 ++ us, (h.1.1.0, (ap (λ t. t ++ us) h.1.1.1.0 ∙ append_assoc h.0 h.1.0 us, h.1.1.1.1, turns_on n q qs h.1.1.0 mid v h.1.0 us h.1.1.1.2 k))))

-- what follows on an Ok
pub on_ok : {T E P R : Type 0} → (r : Result T E) → (P → R) → OnOk r P → OnOk r R
on_ok (Ok x) f h = f h
on_ok (Err e) f h = h

-- one after the other
joined : (R S T : Leads) (c d e : NodeWorld) → ((ts us : List Turn) → R (world_in c) ts (world_in d) → S (world_in d) us (world_in e) → T (world_in c) (ts ++ us) (world_in e)) → GoesBy R c d → GoesBy S d e → GoesBy T c e
joined R S T c d e f a b = record {
  lines = a.lines ++ b.lines;
  listed = b.listed ∙ ap (λ t. t ++ b.lines) a.listed ∙ append_assoc (history_in c) a.lines b.lines;
  by = subst (λ (us : List Turn). T (world_in c) us (world_in e)) (sym (map-append turn_of a.lines b.lines)) (f (map turn_of a.lines) (map turn_of b.lines) a.by b.by);
}

pub goes_each : (c d e : NodeWorld) (p k : ℕ) → file_in d ≡ file_in c → GoesBy (EmptiesEach c p (numbers_from 0 k)) c d → GoesBy (Empties d p k) d e → GoesBy (EmptiesEach c p (numbers_from 0 (k + 1))) c e
goes_each c d e p k file a b =
    subst (λ (qs : List ℕ). GoesBy (EmptiesEach c p qs) c e) (sym (numbers_more k))
    (joined (EmptiesEach c p (numbers_from 0 k)) (Empties d p k) (EmptiesEach c p (numbers_from 0 k ++ k ∷ [])) c d e
    (λ ts us r s. each_more (play_of (file_in c)) max p k (numbers_from 0 k) (world_in c) (world_in d) (world_in e) ts us r
    (subst (λ (f : FileAt). drain.Empties (play_of f) max p k (world_in d) us (world_in e)) file s))
    a b)

pub takes_turn : (c d e : NodeWorld) (n p : ℕ) → file_in d ≡ file_in c → GoesBy (EmptiesEach c p (numbers_from 0 n)) c d → GoesBy (ActsOut d p) d e → GoesBy (TakesTurn c n p) c e
takes_turn c d e n p file a b =
    joined (EmptiesEach c p (numbers_from 0 n)) (ActsOut d p) (TakesTurn c n p) c d e
    (λ ts us r s. (ts, (us, (world_in d, (refl, r, subst (λ (f : FileAt). drain.ActsOut (play_of f) max p (world_in d) us (world_in e)) file s)))))
    a b

pub goes_turn : (c d e : NodeWorld) (n m k : ℕ) → file_in d ≡ file_in c → m ≡ n → GoesBy (TakeTurns c n (numbers_from 0 k)) c d → GoesBy (TakesTurn d m k) d e → GoesBy (TakeTurns c n (numbers_from 0 (k + 1))) c e
goes_turn c d e n m k file count a b =
    subst (λ (qs : List ℕ). GoesBy (TakeTurns c n qs) c e) (sym (numbers_more k))
    (joined (TakeTurns c n (numbers_from 0 k)) (TakesTurn d m k) (TakeTurns c n (numbers_from 0 k ++ k ∷ [])) c d e
    (λ ts us r s. turns_on (play_of (file_in c)) max n k (numbers_from 0 k) (world_in c) (world_in d) (world_in e) ts us r
    (subst (λ (x : ℕ). drain.TakesTurn (play_of (file_in c)) max x k (world_in d) us (world_in e)) count
    (subst (λ (f : FileAt). drain.TakesTurn (play_of f) max m k (world_in d) us (world_in e)) file s)))
    a b)

-- a round, for the file and the parties of the beginning
round_of : (c d e : NodeWorld) (n m : ℕ) (ts : List Turn) → file_in d ≡ file_in c → m ≡ n → IsRound d m (world_in d) ts (world_in e) → IsRound c n (world_in d) ts (world_in e)
round_of c d e n m ts file count r =
    subst (λ (x : ℕ). drain.IsRound (play_of (file_in c)) max x (world_in d) ts (world_in e)) count
    (subst (λ (f : FileAt). drain.IsRound (play_of f) max m (world_in d) ts (world_in e)) file r)

grown : (d e : NodeWorld) (lines : List LineAt) → history_in e ≡ history_in d ++ lines → length (history_in e) ≡ length (history_in d) + length lines
grown d e lines listed = ap length listed ∙ length-append (history_in d) lines

-- a longer history has events
pub has_turns : (d e : NodeWorld) (lines : List LineAt) → history_in e ≡ history_in d ++ lines → length (history_in d) < length (history_in e) → map turn_of lines ≢ []
has_turns d e lines listed more none =
    let size = grown d e lines listed in
    let zero_of : length lines ≡ 0 = sym (length-map lines turn_of) ∙ ap length none in
    absurd (omega (arith, size, zero_of, more))

-- a round with an event
pub ahead_round : (c d e : NodeWorld) (n m : ℕ) → file_in d ≡ file_in c → m ≡ n → Ahead (IsDrained c n) c d → GoesBy (IsRound d m) d e → length (history_in d) < length (history_in e) → Ahead (IsDrained c n) c e
ahead_round c d e n m file count a b more =
    let some = has_turns d e b.lines b.listed more in
    record {
      lines = a.lines ++ b.lines;
      listed = b.listed ∙ ap (λ t. t ++ b.lines) a.listed ∙ append_assoc (history_in c) a.lines b.lines;
      on = λ ts v r.
          subst (λ (us : List Turn). IsDrained c n (world_in c) us v)
          (sym (append_assoc (map turn_of a.lines) (map turn_of b.lines) ts) ∙ ap (λ t. t ++ ts) (sym (map-append turn_of a.lines b.lines)))
          (a.on (map turn_of b.lines ++ ts) v (map turn_of b.lines ∷ r.0, (ts, (world_in e, (some, refl, round_of c d e n m (map turn_of b.lines) file count b.by, r.1)))));
    }

nothing : {X : Type 0} → (xs : List X) → length xs ≡ 0 → xs ≡ []
nothing [] h = refl
nothing (x ∷ xs) h = absurd (omega (arith, h))

-- a round without an event
pub drained : (c d e : NodeWorld) (n m : ℕ) → file_in d ≡ file_in c → m ≡ n → Ahead (IsDrained c n) c d → GoesBy (IsRound d m) d e → length (history_in e) ≡ length (history_in d) → GoesBy (IsDrained c n) c e
drained c d e n m file count a b same =
    let size = grown d e b.lines b.listed in
    let none : b.lines ≡ [] = nothing b.lines (omega (arith, size, same)) in
    let last : IsRound c n (world_in d) [] (world_in e) = subst (λ (us : List LineAt). IsRound c n (world_in d) (map turn_of us) (world_in e)) none (round_of c d e n m (map turn_of b.lines) file count b.by) in
    record {
      lines = a.lines;
      listed = b.listed ∙ ap (λ t. history_in d ++ t) none ∙ append-nil (history_in d) ∙ a.listed;
      by = subst (λ (us : List Turn). IsDrained c n (world_in c) us (world_in e)) (append-nil (map turn_of a.lines)) (a.on [] (world_in e) ([], (refl, last)));
    }

-- a longer history leaves fewer events
pub fewer_after : (d e : NodeWorld) → IsReached e → length (history_in d) < length (history_in e) → events_left e < events_left d
fewer_after d e reached more = let low = short e (led e reached) in omega (arith, low, more)

-- a drain leaves nothing to do
pub left_quiet : (c e : NodeWorld) (n : ℕ) → file_in e ≡ file_in c → length (nodes_in e) ≡ n → GoesBy (IsDrained c n) c e → IsQuietAmong (play_of (file_in e)) (length (nodes_in e)) (world_in e)
left_quiet c e n file count goes =
    subst (λ (m : ℕ). IsQuietAmong (play_of (file_in e)) m (world_in e)) (sym count)
    (subst (λ (f : FileAt). IsQuietAmong (play_of f) n (world_in e)) (sym file)
    (drained_is_quiet (play_of (file_in c)) max n (world_in c) (world_in e) (map turn_of goes.lines) goes.by))
