-- Words ask for a task, or are no command.
use Rattle.std.proofs.Common.{◌≡◌, ◌⊎◌, ◌≤◌, ◌<◌, ℕ, zero, suc, true, false, List, [], ◌∷◌, Option, Some, None, inl, inr, refl, arith}
use Rattle.std.specs.Prelude.{Bool, codes, decimal}
use Rattle.sj_command.specs.declared.tasks.Task.{Task}
use Rattle.sj_command.specs.declared.tasks.Task.TheVariants.{Check, Show, Forest, Sim, Run, Forward, Replay, Talk, Make, Big}
use Rattle.sj_command.specs.CommandLine.{IsTaken}
use Rattle.sj_command.specs.Task.{Asks, IsCount, IsUsage, ArgumentsAt, Means, StandsForLooks, StandsForWorkers, alone, forwarding, last_party, line_in, most_looks, most_messages, most_workers, replaying, running}
use Rattle.sj_tool.proofs.LineLemmas.{made_of}
use Rattle.sj_tool.proofs.NumberLemmas.{First, first_or_none, looks_or_none, one_line, options_or_none, workers_or_none}

module _ (l : ArgumentsAt) where
  -- the line is a command of that name with a number from 1 on, or isn't
  abbrev IsCounted : List ℕ → ℕ → Type 0
  IsCounted name n = (l ≡ alone name (Some (decimal n))) × (1 ≤ n)

  counted_dec : (name : List ℕ) (n : ℕ) → Dec (IsCounted name n)
  counted_dec name zero = no (λ h. omega (arith, h.1))
  counted_dec name (suc n) = made_of (one_line l (alone name (Some (decimal (suc n))))) (λ h. (h, omega arith)) (λ h. h.0)

  -- and one of those that can be asked for
  abbrev Counts : List ℕ → ℕ → Type 0
  Counts name n = (l ≡ alone name (Some (decimal n))) × IsCount n

  counted : (name : List ℕ) (most : ℕ) → most_messages ≡ most → ((n : ℕ) × Counts name n) ⊎ ((n : ℕ) → Counts name n → ⊥)
  counted name most is = by (first_or_none (IsCounted name) (counted_dec name) (suc most))
    where
      by : First (IsCounted name) (suc most) ⊎ ((k : ℕ) → k < suc most → IsCounted name k → ⊥)
          → ((n : ℕ) × Counts name n) ⊎ ((n : ℕ) → Counts name n → ⊥)
      by (inl f) = inl (f.number, (f.has.0, (f.has.1, omega (arith, is, f.below))))
      by (inr none) = inr (λ n h. none n (omega (arith, is, h.1.1)) (h.0, h.1.0))

  -- a task that the line asks for
  abbrev Asked : Type 0
  Asked = (t : Task) × Means l t

  -- a kind of tasks that it doesn't ask for leaves the others
  or_others : {X : Type 0} → Asked ⊎ (X → ⊥) → ((X → ⊥) → Asked ⊎ ((t : Task) → Means l t → ⊥)) → Asked ⊎ ((t : Task) → Means l t → ⊥)
  or_others (inl asked) others = inl asked
  or_others (inr none) others = others none

  -- it is that line, or it isn't
  asked_so : (t : Task) (line : ArgumentsAt) → (l ≡ line → Means l t) → Asked ⊎ (l ≡ line → ⊥)
  asked_so t line means = elim (one_line l line) [ yes e ↦ inl (t, means e) | no off ↦ inr off ]

  -- a command without a number and an option
  asked_alone : (t : Task) (name : List ℕ) → (l ≡ alone name None → Means l t) → Asked ⊎ (l ≡ alone name None → ⊥)
  asked_alone t name means = asked_so t (alone name None) means

  asked_counted : (t : ℕ → Task) (name : List ℕ) → ((n : ℕ) → Counts name n → Means l (t n)) → Asked ⊎ (((n : ℕ) × Counts name n) → ⊥)
  asked_counted t name means = elim (counted name most_messages refl) [ inl f ↦ inl (t f.0, means f.0 f.1) | inr none ↦ inr (λ f. none f.0 f.1) ]

  -- `run`, with the log or without it
  abbrev Runs : Type 0
  Runs = (log : Bool) × (n : ℕ) × (w : Option ℕ) × Means l (Run log n w)

  asked_run : Asked ⊎ (Runs → ⊥)
  asked_run = by (one_line l (running false l.looks l.workers)) (one_line l (running true l.looks l.workers)) (options_or_none l (looks_or_none most_looks refl l.looks) (workers_or_none most_workers refl l.workers))
    where
      none : (l ≡ running false l.looks l.workers → ⊥) → (l ≡ running true l.looks l.workers → ⊥) → Runs → ⊥
      none a b (false, n, w, m) = a m.0
      none a b (true, n, w, m) = b m.0

      unfit : ((n : ℕ) (w : Option ℕ) → StandsForLooks l.looks n → StandsForWorkers l.workers w → ⊥) → Runs → ⊥
      unfit off (log, n, w, m) = off n w m.1 m.2

      by : Dec (l ≡ running false l.looks l.workers) → Dec (l ≡ running true l.looks l.workers)
          → ((n : ℕ) × (w : Option ℕ) × StandsForLooks l.looks n × StandsForWorkers l.workers w)
          ⊎ ((n : ℕ) (w : Option ℕ) → StandsForLooks l.looks n → StandsForWorkers l.workers w → ⊥) → Asked ⊎ (Runs → ⊥)
      by a b (inr off) = inr (unfit off)
      by (yes e) b (inl n) = inl (Run false n.0 n.1, (e, n.2, n.3))
      by (no a) (yes e) (inl n) = inl (Run true n.0 n.1, (e, n.2, n.3))
      by (no a) (no b) (inl n) = inr (none a b)

  -- `replay` likewise
  abbrev Replays : Type 0
  Replays = (log : Bool) × Means l (Replay log)

  asked_replay : Asked ⊎ (Replays → ⊥)
  asked_replay = by (one_line l (replaying false)) (one_line l (replaying true))
    where
      none : (l ≡ replaying false → ⊥) → (l ≡ replaying true → ⊥) → Replays → ⊥
      none a b (false, m) = a m
      none a b (true, m) = b m

      by : Dec (l ≡ replaying false) → Dec (l ≡ replaying true) → Asked ⊎ (Replays → ⊥)
      by (yes e) b = inl (Replay false, e)
      by (no a) (yes e) = inl (Replay true, e)
      by (no a) (no b) = inr (none a b)

  -- `talk` with a party's number
  abbrev Talks : Type 0
  Talks = (n : ℕ) × Means l (Talk n)

  asked_talk : (last : ℕ) → last_party ≡ last → Asked ⊎ (Talks → ⊥)
  asked_talk last is =
      elim (first_or_none (λ n. l ≡ alone (codes "talk") (Some (decimal n))) (λ n. one_line l (alone (codes "talk") (Some (decimal n)))) (suc last)) [
        | inl f ↦ inl (Talk f.number, (f.has, omega (arith, is, f.below)))
        | inr none ↦ inr (λ t. none t.0 (omega (arith, is, t.1.1)) t.1.0)
      ]

  -- the line asks for a task, or for none
  pub means_or_none : Asked ⊎ ((t : Task) → Means l t → ⊥)
  means_or_none =
      or_others (asked_alone Check (codes "check") (λ e. e))
      (λ check. or_others (asked_alone Show (codes "show") (λ e. e))
      (λ show. or_others (asked_alone Forest (codes "forest") (λ e. e))
      (λ forest. or_others (asked_alone Sim (codes "sim") (λ e. e))
      (λ sim. or_others asked_run
      (λ run. or_others (asked_so Forward forwarding (λ e. e))
      (λ forward. or_others asked_replay
      (λ replay. or_others (asked_talk last_party refl)
      (λ talk. or_others (asked_counted (λ n. Make n) (codes "make") (λ n m. m))
      (λ make. or_others (asked_counted (λ n. Big n) (codes "big") (λ n m. m))
      (λ big. inr (none check show forest sim run forward replay talk make big)))))))))))
    where
      none : (l ≡ alone (codes "check") None → ⊥) → (l ≡ alone (codes "show") None → ⊥) → (l ≡ alone (codes "forest") None → ⊥) → (l ≡ alone (codes "sim") None → ⊥) → (Runs → ⊥) → (l ≡ forwarding → ⊥) → (Replays → ⊥) → (Talks → ⊥)
          → (((n : ℕ) × Counts (codes "make") n) → ⊥) → (((n : ℕ) × Counts (codes "big") n) → ⊥) → (t : Task) → Means l t → ⊥
      none check show forest sim run forward replay talk make big Check m = check m
      none check show forest sim run forward replay talk make big Show m = show m
      none check show forest sim run forward replay talk make big Forest m = forest m
      none check show forest sim run forward replay talk make big Sim m = sim m
      none check show forest sim run forward replay talk make big (Run log n w) m = run (log, n, w, m)
      none check show forest sim run forward replay talk make big Forward m = forward m
      none check show forest sim run forward replay talk make big (Replay log) m = replay (log, m)
      none check show forest sim run forward replay talk make big (Talk n) m = talk (n, m)
      none check show forest sim run forward replay talk make big (Make n) m = make (n, m)
      none check show forest sim run forward replay talk make big (Big n) m = big (n, m)

none_or_some : {X : Type 0} (xs : List X) → Dec (xs ≡ [])
none_or_some [] = yes refl
none_or_some (x ∷ xs) = no (λ e. absurd (cc e))

-- the words ask for a task, or are the usage line's
pub asks_or_usage : (words : List (List ℕ)) → ((t : Task) × Asks words t) ⊎ IsUsage words
asks_or_usage words = by (none_or_some _) (means_or_none (line_in words))
  where
    by : Dec (IsTaken words) → ((t : Task) × Means (line_in words) t) ⊎ ((t : Task) → Means (line_in words) t → ⊥) → ((t : Task) × Asks words t) ⊎ IsUsage words
    by (yes taken) (inl x) = inl (x.0, (taken, x.1))
    by (yes taken) (inr none) = inr (λ t asks. none t asks.1)
    by (no broken) m = inr (λ t asks. broken asks.0)
