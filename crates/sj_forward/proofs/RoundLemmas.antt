-- Rounds of a drain, from what each party does in them.
use Rattle.std.proofs.Common.{◌≡◌, ◌≢◌, ℕ, zero, suc, ◌+◌, ◌-◌, ◌<◌, ◌^◌, List, [], ◌∷◌, ◌++◌, length, refl, ap, sym, ◌∙◌, subst, append-nil, append_assoc, add-one, arith}
use Rattle.sj_lang.specs.FileAt.{FileAt}
use Rattle.sj_semantics.specs.Program.{Program}
use Rattle.sj_rules.specs.Drain.{numbers_from}
use Rattle.sj_rules.specs.Party.{play_of}
use Rattle.sj_rules.specs.Play.{Play}
use Rattle.sj_rules.specs.World.{Turn}
use Rattle.sj_forward.specs.declared.forwarder_world.ForwarderWorld.{ForwarderWorld}
use Rattle.sj_forward.specs.ForwarderWorld.{Counts, IsReached, forwarders_in, file_in, world_in}
use Rattle.sj_forward.specs.Draining.{ActsOut, Ahead, Empties, EmptiesEach, GoesBy, IsDrained, IsRound, Leads, TakeTurns, TakesTurn, events_left}
use Rattle.sj_forward.proofs.CountLemmas.{counts_joined}
use Rattle.sj_forward.proofs.ForwarderWorldLemmas.{few_events}
use Rattle.sj_forward.proofs.LawLemmas.{drained_quiet}
use Rattle.sj_forward_rules.specs.Drain as drain
use Rattle.sj_forward_rules.specs.World.{IsQuietAmong, WorldAt}

numbers_next : (n k : ℕ) → numbers_from n (suc k) ≡ numbers_from n k ++ (n + k) ∷ []
numbers_next n zero = let e : n ≡ n + 0 = omega arith in ap (λ t. t ∷ []) e
numbers_next n (suc k) =
    let e : n + 1 + k ≡ n + suc k = omega arith in
    ap (λ t. n ∷ t) (numbers_next (n + 1) k) ∙ ap (λ t. n ∷ numbers_from (n + 1) k ++ t ∷ []) e

numbers_more : (k : ℕ) → numbers_from 0 (k + 1) ≡ numbers_from 0 k ++ k ∷ []
numbers_more k = let e : 0 + k ≡ k = omega arith in ap (numbers_from 0) (add-one k) ∙ numbers_next 0 k ∙ ap (λ t. numbers_from 0 k ++ t ∷ []) e

module _ {P Q : Type 0} (play : Play P Q) where
  -- one lane more
  each_more : (p q : ℕ) (qs : List ℕ) (w mid v : WorldAt Q) (ts us : List Turn) → drain.EmptiesEach play p qs w ts mid → drain.Empties play p q mid us v
      → drain.EmptiesEach play p (qs ++ q ∷ []) w (ts ++ us) v
  each_more p q [] w mid v ts us h k =
      (us, ([], (v, (ap (λ t. t ++ us) h.0 ∙ sym (append-nil us), subst (λ (x : WorldAt Q). drain.Empties play p q x us v) (sym h.1) k, (refl, refl)))))
  each_more p q (r ∷ qs) w mid v ts us h k =
      (h.0, (h.1.0 ++ us, (h.1.1.0, (ap (λ t. t ++ us) h.1.1.1.0 ∙ append_assoc h.0 h.1.0 us, h.1.1.1.1, each_more p q qs h.1.1.0 mid v h.1.0 us h.1.1.1.2 k))))

  -- one party more
  turns_on : (n q : ℕ) (qs : List ℕ) (w mid v : WorldAt Q) (ts us : List Turn) → drain.TakeTurns play n qs w ts mid → drain.TakesTurn play n q mid us v
      → drain.TakeTurns play n (qs ++ q ∷ []) w (ts ++ us) v
  turns_on n q [] w mid v ts us h k =
      (us, ([], (v, (ap (λ t. t ++ us) h.0 ∙ sym (append-nil us), subst (λ (x : WorldAt Q). drain.TakesTurn play n q x us v) (sym h.1) k, (refl, refl)))))
  turns_on n q (r ∷ qs) w mid v ts us h k =
      (h.0, (h.1.0 ++ us, (h.1.1.0, (ap (λ t. t ++ us) h.1.1.1.0 ∙ append_assoc h.0 h.1.0 us, h.1.1.1.1, turns_on n q qs h.1.1.0 mid v h.1.0 us h.1.1.1.2 k))))

-- one after the other
joined : (R S T : Leads) (c d e : ForwarderWorld) → ((ts us : List Turn) → R (world_in c) ts (world_in d) → S (world_in d) us (world_in e) → T (world_in c) (ts ++ us) (world_in e)) → GoesBy R c d → GoesBy S d e → GoesBy T c e
joined R S T c d e f a b = record {
  turns = a.turns ++ b.turns;
  counts = counts_joined c d e a.turns b.turns a.counts b.counts;
  by = f a.turns b.turns a.by b.by;
}

pub goes_each : (c d e : ForwarderWorld) (p k : ℕ) → file_in d ≡ file_in c → GoesBy (EmptiesEach c p (numbers_from 0 k)) c d → GoesBy (Empties d p k) d e → GoesBy (EmptiesEach c p (numbers_from 0 (k + 1))) c e
goes_each c d e p k file a b =
    subst (λ (qs : List ℕ). GoesBy (EmptiesEach c p qs) c e) (sym (numbers_more k))
    (joined (EmptiesEach c p (numbers_from 0 k)) (Empties d p k) (EmptiesEach c p (numbers_from 0 k ++ k ∷ [])) c d e
    (λ ts us r s. each_more (play_of (file_in c)) p k (numbers_from 0 k) (world_in c) (world_in d) (world_in e) ts us r
    (subst (λ (f : FileAt). drain.Empties (play_of f) p k (world_in d) us (world_in e)) file s))
    a b)

pub takes_turn : (c d e : ForwarderWorld) (n p : ℕ) → file_in d ≡ file_in c → GoesBy (EmptiesEach c p (numbers_from 0 n)) c d → GoesBy (ActsOut d p) d e → GoesBy (TakesTurn c n p) c e
takes_turn c d e n p file a b =
    joined (EmptiesEach c p (numbers_from 0 n)) (ActsOut d p) (TakesTurn c n p) c d e
    (λ ts us r s. (ts, (us, (world_in d, (refl, r, subst (λ (f : FileAt). drain.ActsOut (play_of f) p (world_in d) us (world_in e)) file s)))))
    a b

pub goes_turn : (c d e : ForwarderWorld) (n m k : ℕ) → file_in d ≡ file_in c → m ≡ n → GoesBy (TakeTurns c n (numbers_from 0 k)) c d → GoesBy (TakesTurn d m k) d e → GoesBy (TakeTurns c n (numbers_from 0 (k + 1))) c e
goes_turn c d e n m k file count a b =
    subst (λ (qs : List ℕ). GoesBy (TakeTurns c n qs) c e) (sym (numbers_more k))
    (joined (TakeTurns c n (numbers_from 0 k)) (TakesTurn d m k) (TakeTurns c n (numbers_from 0 k ++ k ∷ [])) c d e
    (λ ts us r s. turns_on (play_of (file_in c)) n k (numbers_from 0 k) (world_in c) (world_in d) (world_in e) ts us r
    (subst (λ (x : ℕ). drain.TakesTurn (play_of (file_in c)) x k (world_in d) us (world_in e)) count
    (subst (λ (f : FileAt). drain.TakesTurn (play_of f) m k (world_in d) us (world_in e)) file s)))
    a b)

-- a round, for the file and the parties of the beginning
round_of : (c d e : ForwarderWorld) (n m : ℕ) (ts : List Turn) → file_in d ≡ file_in c → m ≡ n → IsRound d m (world_in d) ts (world_in e) → IsRound c n (world_in d) ts (world_in e)
round_of c d e n m ts file count r =
    subst (λ (x : ℕ). drain.IsRound (play_of (file_in c)) x (world_in d) ts (world_in e)) count
    (subst (λ (f : FileAt). drain.IsRound (play_of f) m (world_in d) ts (world_in e)) file r)

-- a world of forwarders with more events had turns
pub has_turns : (d e : ForwarderWorld) (ts : List Turn) → Counts d ts e → d.events < e.events → ts ≢ []
has_turns d e ts counts more none =
    let all = counts.events in
    let size : length ts ≡ 0 = ap length none in
    absurd (omega (arith, all, size, more))

-- a round with an event
pub ahead_round : (c d e : ForwarderWorld) (n m : ℕ) → file_in d ≡ file_in c → m ≡ n → Ahead (IsDrained c n) c d → GoesBy (IsRound d m) d e → d.events < e.events → Ahead (IsDrained c n) c e
ahead_round c d e n m file count a b more =
    let some = has_turns d e b.turns b.counts more in
    record {
      turns = a.turns ++ b.turns;
      counts = counts_joined c d e a.turns b.turns a.counts b.counts;
      on = λ ts v r.
          subst (λ (us : List Turn). IsDrained c n (world_in c) us v) (sym (append_assoc a.turns b.turns ts))
          (a.on (b.turns ++ ts) v (b.turns ∷ r.0, (ts, (world_in e, (some, refl, round_of c d e n m b.turns file count b.by, r.1)))));
    }

nothing : {X : Type 0} → (xs : List X) → length xs ≡ 0 → xs ≡ []
nothing [] h = refl
nothing (x ∷ xs) h = absurd (omega (arith, h))

-- a round without an event
pub drained : (c d e : ForwarderWorld) (n m : ℕ) → file_in d ≡ file_in c → m ≡ n → Ahead (IsDrained c n) c d → GoesBy (IsRound d m) d e → e.events ≡ d.events → GoesBy (IsDrained c n) c e
drained c d e n m file count a b same =
    let all = b.counts.events in
    let none : b.turns ≡ [] = nothing b.turns (omega (arith, all, same)) in
    let last : IsRound c n (world_in d) [] (world_in e) = subst (λ (us : List Turn). IsRound c n (world_in d) us (world_in e)) none (round_of c d e n m b.turns file count b.by) in
    record {
      turns = a.turns;
      counts =
          subst (λ (us : List Turn). Counts c us e) (append-nil a.turns)
          (subst (λ (us : List Turn). Counts c (a.turns ++ us) e) none (counts_joined c d e a.turns b.turns a.counts b.counts));
      by = subst (λ (us : List Turn). IsDrained c n (world_in c) us (world_in e)) (append-nil a.turns) (a.on [] (world_in e) ([], (refl, last)));
    }

-- more events leave fewer
pub fewer_after : (d e : ForwarderWorld) → IsReached e → d.events < e.events → events_left e < events_left d
fewer_after d e reached more = let low : e.events < 2 ^ 63 = few_events e reached in omega (arith, low, more)

-- a drain leaves nothing to do
pub left_quiet : (c e : ForwarderWorld) (n : ℕ) → file_in e ≡ file_in c → length (forwarders_in e) ≡ n → GoesBy (IsDrained c n) c e → IsQuietAmong (play_of (file_in e)) (length (forwarders_in e)) (world_in e)
left_quiet c e n file count goes =
    subst (λ (m : ℕ). IsQuietAmong (play_of (file_in e)) m (world_in e)) (sym count)
    (subst (λ (f : FileAt). IsQuietAmong (play_of f) n (world_in e)) (sym file)
    (drained_quiet (play_of (file_in c)) n (world_in c) (world_in e) goes.turns goes.by))
