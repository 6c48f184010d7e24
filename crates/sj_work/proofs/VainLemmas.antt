-- Turns in vain, one after the other.
use Rattle.std.proofs.Common.{◌≡◌, ℕ, ◌+◌, ◌-◌, ◌<◌, ◌≤◌, max, min, Option, Some, None, refl, sym, arith, subst}
use Rattle.sj_node.specs.declared.node.Node.{Node}
use Rattle.sj_node.specs.declared.refusal.Halt.{Halt}
use Rattle.sj_node.specs.declared.refusal.Halt.TheVariants as halts
use Rattle.sj_node.specs.Node as nodes
use Rattle.sj_node.specs.Reading.{IsFinished, IsIdle}
use Rattle.sj_work.specs.declared.worker.Outcome.TheVariants as answers
use Rattle.sj_work.specs.declared.worker.Stop.TheVariants as stops
use Rattle.sj_work.specs.declared.worker.Worker.{Worker}
use Rattle.sj_work.specs.Counts.{RoseBy, Stood}
use Rattle.sj_work.specs.Turns.{IsGoing, IsHalted, IsInVain}
use Rattle.sj_work.specs.Views.{in_of, out_of, stop_of}
use Rattle.sj_work.specs.Went.{HasNoEvent, InARow, InVain, OutVain}
use Rattle.sj_work.proofs.CauseLemmas.{ins_fewer, ins_more, ins_then, outs_fewer, outs_later, outs_more, outs_then}
use Rattle.sj_work.proofs.CountLemmas.{on_so, rose_none}
use Rattle.sj_work.proofs.HaltLemmas.{stop_same}
use Rattle.sj_work.proofs.LaneLaws.{LaneLaws, TurnedBy, WentBy}
use Rattle.sj_work.proofs.RestLemmas.{rests_itself, rests_later}
use Rattle.sj_work.proofs.TurnLemmas.{going, turned_behind, turned_off, turned_on, went_of}
use Rattle.sj_work.proofs.WentLemmas.{went_again, went_itself, went_later}

-- a party that is halted and isn't idle is at its limit
limit_of : (o : Option Halt) → IsHalted o → (IsIdle o → ⊥) → o ≡ Some halts.AtLimit
limit_of (Some halts.Ended) halted not = absurd (not tt)
limit_of (Some halts.Waits) halted not = absurd (not tt)
limit_of (Some halts.AtLimit) halted not = refl
limit_of (Some halts.NoMemory) halted not = absurd halted
limit_of (Some halts.Unfit) halted not = absurd halted
limit_of None halted not = absurd halted

-- a party that is idle after turns in vain was so before
pub idle_before : (a b : Node) → HasNoEvent a b → IsIdle (nodes.node_halt b) → IsIdle (nodes.node_halt a)
idle_before a b rests idle = subst (λ (o : Option Halt). IsIdle o) (stop_same a b rests.node) idle

all_looks : (n looks : ℕ) → n ≤ looks → looks ≤ n → n ≡ looks
all_looks n looks within over = omega arith

-- a count that doesn't go beyond its type, and is below the number of looks before
pub one_more : (n t m looks last : ℕ) → t ≡ n → m ≡ min (t + 1) last → looks ≤ last → n < looks → m ≡ n + 1
one_more n t m looks last same is within lt = omega arith

pub not_beyond : (n m looks : ℕ) → m ≡ n + 1 → n < looks → m ≤ looks
not_beyond n m looks is lt = omega arith

pub fewer_left : (n m looks : ℕ) → m ≡ n + 1 → n < looks → looks + 1 - m < looks + 1 - n
fewer_left n m looks is lt = omega arith

pub below_looks : (n t m looks last : ℕ) → t ≡ n → m ≡ min (t + 1) last → looks ≤ last → m < looks → n < looks
below_looks n t m looks last same is within lt = omega arith

-- where all looks are used up by one turn more, that many turns and one at least were in vain
pub enough_looks : (n t m looks last : ℕ) → t ≡ n → m ≡ min (t + 1) last → looks ≤ m → max looks 1 ≤ n + 1
enough_looks n t m looks last same is over = omega arith

module _ {O I : Type 0} (k : LaneLaws O I) where
  -- a turn in vain: looks, pushes, and an act that isn't there
  pub vain_turn : (a b c d : Worker O I) → WentBy k None a b → WentBy k None b c → WentBy k None c d → b.node ≡ a.node → InVain k.inward.vain 1 a b → HasNoEvent b.node c.node → OutVain k.outward.vain 1 b c → HasNoEvent c.node d.node
      → IsHalted (nodes.node_halt d.node) → IsInVain k.outward.vain k.inward.vain a d
  vain_turn a b c d looked pushed acted node ins sent outs rests halted = record {
    rests = rests_later a.node b.node d.node (rests_itself a.node b.node node) (rests_later b.node c.node d.node sent rests);
    ins = ins_then k 1 a b d ins (went_later k b c d None pushed acted);
    outs = outs_later k 1 a b d looked (outs_then k 1 b c d outs acted rests);
    halted = halted;
  }

  -- so many turns in a row were in vain, not more than there are looks
  pub record Waited (looks : ℕ) (init now : Worker O I) : Type 0 where
    pub turns : (n : ℕ) → TurnedBy k n init now
    pub goes : IsGoing now
    pub rests : HasNoEvent init.node now.node
    pub within : now.looks ≤ looks
    pub ins : InVain k.inward.vain now.looks init now
    pub outs : OutVain k.outward.vain now.looks init now

  -- no turn yet
  pub waited_none : (looks : ℕ) (a : Worker O I) → IsGoing a → Waited looks a (record a { looks = 0 })
  waited_none looks a goes = record {
    turns = turned_on k a (record a { looks = 0 }) went goes.stop goes.open_yet;
    goes = record { stop = goes.stop; open_yet = goes.open_yet };
    rests = rests_itself a.node a.node refl;
    within = omega arith;
    ins = λ q lt. on_so k.inward.vain Stood (RoseBy 0) rose_none (in_of a q) (in_of a q) (went.vain_in q);
    outs = λ q lt waits. on_so k.outward.vain Stood (RoseBy 0) rose_none (out_of a q) (out_of a q) (went.vain_out q);
  }
    where
      went : WentBy k None a (record a { looks = 0 })
      went = went_itself k a (record a { looks = 0 }) refl refl

  module _ (looks : ℕ) (init now : Worker O I) (w : Waited looks init now) where
    before : WentBy k None init now
    before = went_of k init now (w.turns 0) w.goes.stop

    -- turns in vain since the first of them are in a row
    row_since : (n : ℕ) (end : Worker O I) → WentBy k None init end → HasNoEvent init.node end.node → InVain k.inward.vain n init end → OutVain k.outward.vain n init end
        → InARow k.outward k.inward n init end
    row_since n end went rests ins outs = record { since = init; before = went_itself k init init refl refl; after = went; rests = rests; ins = ins; outs = outs }

    -- all looks were in vain, and the party is idle
    pub wait_idle : looks ≤ now.looks → IsIdle (nodes.node_halt now.node) → TurnedBy k looks init (record now { answer = Some answers.Idle })
    wait_idle over idle =
        let all : now.looks ≡ looks = all_looks now.looks looks w.within over in
        let ins : InVain k.inward.vain looks init now = subst (λ n. InVain k.inward.vain n init now) all w.ins in
        let outs : OutVain k.outward.vain looks init now = subst (λ n. OutVain k.outward.vain n init now) all w.outs in
        let went : WentBy k None init (record now { answer = Some answers.Idle }) = went_again k init now None (Some answers.Idle) now.looks before in
        turned_off k init (record now { answer = Some answers.Idle }) None stops.Idle looks refl (λ e. cc e) w.goes.open_yet went tt (record {
          idle = idle;
          turns = all;
          ins = ins;
          outs = outs;
          row = row_since looks (record now { answer = Some answers.Idle }) went w.rests ins outs;
        })

    module _ (next : Worker O I) (t : (n : ℕ) → TurnedBy k n now next) where
      -- one turn more
      pub wait_turns : (n : ℕ) → TurnedBy k n init next
      wait_turns n = turned_behind k n init now next before (t n)

      module _ (none : stop_of next ≡ None) (v : IsInVain k.outward.vain k.inward.vain now next) where
        after : WentBy k None init next
        after = went_later k init now next None before (went_of k now next (t 0) none)

        open_next : IsFinished next.node → ⊥
        open_next = (going k 0 now next (t 0) none).open_yet

        -- it was in vain
        pub wait_more : (n : ℕ) → n ≡ now.looks + 1 → n ≤ looks → Waited looks init (record next { looks = n })
        wait_more n more within = record {
          turns = turned_on k init (record next { looks = n }) (went_again k init next None next.answer n after) none open_next;
          goes = record { stop = none; open_yet = open_next };
          rests = rests_later init.node now.node next.node w.rests v.rests;
          within = within;
          ins = subst (λ m. InVain k.inward.vain m init next) (sym more) (ins_more k now.looks 1 init now next v.rests.parties w.ins v.ins);
          outs = subst (λ m. OutVain k.outward.vain m init next) (sym more) (outs_more k now.looks 1 init now next v.rests w.outs v.outs);
        }

        -- and the party is at its limit
        pub wait_limit : (n : ℕ) → max looks 1 ≤ now.looks + 1 → (IsIdle (nodes.node_halt next.node) → ⊥) → TurnedBy k looks init (record next { looks = n; answer = Some answers.AtLimit })
        wait_limit n over busy =
            let ins : InVain k.inward.vain (max looks 1) init next = ins_fewer k (max looks 1) (now.looks + 1) init next over (ins_more k now.looks 1 init now next v.rests.parties w.ins v.ins) in
            let outs : OutVain k.outward.vain (max looks 1) init next = outs_fewer k (max looks 1) (now.looks + 1) init next over (outs_more k now.looks 1 init now next v.rests w.outs v.outs) in
            let went : WentBy k None init (record next { looks = n; answer = Some answers.AtLimit }) = went_again k init next None (Some answers.AtLimit) n after in
            turned_off k init (record next { looks = n; answer = Some answers.AtLimit }) None stops.AtLimit looks refl (λ e. cc e) open_next went tt (record {
              limit = limit_of (nodes.node_halt next.node) v.halted busy;
              ins = ins;
              outs = outs;
              row = row_since (max looks 1) (record next { looks = n; answer = Some answers.AtLimit }) went (rests_later init.node now.node next.node w.rests v.rests) ins outs;
            })
