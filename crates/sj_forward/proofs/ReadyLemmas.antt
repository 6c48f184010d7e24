-- A party's next step, and whether it is ready for it.
use Rattle.std.proofs.Common.{◌≡◌, ℕ, ◌++◌, nat_lt, ◌&&◌, Bool, true, false, not, if◌then◌else◌, List, length, slice_get, unwrap_or, Option, Some, None, option_map, refl, ap, sym, ◌∙◌, subst}
use Rattle.sj_lang.specs.FileAt.{FileAt, ProtocolAt}
use Rattle.sj_lang.specs.Place.{Place}
use Rattle.sj_plain.specs.declared.plain.Plain.{Plain}
use Rattle.sj_plain.specs.Plain.{acts_of, world_at}
use Rattle.sj_semantics.specs.Program.{Program}
use Rattle.sj_semantics.specs.Run.{IsRun}
use Rattle.sj_semantics.specs.State.{state_of}
use Rattle.sj_semantics.specs.Wants.{want_of}
use Rattle.sj_semantics.specs.declared.Limit.TheVariants as limits
use Rattle.sj_semantics.specs.declared.State.TheVariants as states
use Rattle.sj_semantics.specs.declared.Want.{Want}
use Rattle.sj_semantics.specs.declared.Want.TheVariants as wants
use Rattle.sj_rules.specs.Party.{nobody, play_for, play_of, want_for, want_or_ended}
use Rattle.sj_rules.specs.Halts.{is_at_end}
use Rattle.sj_rules.specs.Play as rules
use Rattle.sj_rules.specs.World.{Act}
use Rattle.sj_forward.specs.declared.forwarder_world.ForwarderWorld.{ForwarderWorld}
use Rattle.sj_forward.specs.declared.forwarder.Forwarder.{Forwarder}
use Rattle.sj_forward.specs.ForwarderWorld.{IsReached, Wants, forwarders_in, file_in, node_or, program_in, world_in}
use Rattle.sj_forward.specs.Forwarder.{Acts, Does, HasAct, ForwarderStays, forwarder_at}
use Rattle.sj_forward.proofs.ForwarderWorldLemmas.{accepted, act_there, file, plain_run_of, run_of}
use Rattle.sj_forward.proofs.ForwarderLemmas.{did}
use Rattle.sj_forward.proofs.LawLemmas as laws
use Rattle.sj_forward.proofs.SlotLemmas.{some_same}
use Rattle.sj_forward_rules.specs.Acts.{act_by, acts}
use Rattle.sj_forward_rules.specs.Node.{NodeAt, Worked}
use Rattle.sj_forward_rules.specs.Ready.{has_step, is_ready, state_at, state_by}
use Rattle.sj_forward_rules.specs.Record.{FrameAt}
use Rattle.sj_forward_rules.specs.Start.{first_node}
use Rattle.sj_forward_rules.specs.World.{frames_for}

-- the step of a program, with places
want_is : (ps : List ProtocolAt) (o : Option Want) → want_or_ended ps o ≡ want_for ps (unwrap_or o wants.Ended)
want_is ps None = refl
want_is ps (Some w) = refl

-- the program that wants it
pub program_wants : (plain : Plain) (p : ℕ) (want : Want) → Wants plain p want → unwrap_or (want_of (program_in plain p)) wants.Ended ≡ want
program_wants plain p want is = by (slice_get (world_at plain).parties p) is
  where
    by : (o : Option Program) → option_map (λ g. unwrap_or (want_of g) wants.Ended) o ≡ Some want → unwrap_or (want_of (unwrap_or o nobody)) wants.Ended ≡ want
    by None h = absurd (cc h)
    by (Some g) h = some_same (unwrap_or (want_of g) wants.Ended) want h

pub program_steps : (plain : Plain) (p steps : ℕ) → option_map (λ (g : Program). g.steps) (slice_get (world_at plain).parties p) ≡ Some steps → (program_in plain p).steps ≡ steps
program_steps plain p steps is = by (slice_get (world_at plain).parties p) is
  where
    by : (o : Option Program) → option_map (λ (g : Program). g.steps) o ≡ Some steps → (unwrap_or o nobody).steps ≡ steps
    by None h = absurd (cc h)
    by (Some g) h = some_same g.steps steps h

-- a party is ready where it has steps left and what it holds lets it do the step
ready_if : (n : NodeAt Program) (w : rules.Want Place) (low : Bool)
    → is_ready (if is_at_end w then states.Ended else if not low then states.AtLimit limits.Steps else state_by n w) ≡ (low && is_ready (state_by n w))
ready_if n rules.ended true = refl
ready_if n rules.ended false = refl
ready_if n rules.local true = refl
ready_if n rules.local false = refl
ready_if n (rules.sends e m) true = refl
ready_if n (rules.sends e m) false = refl
ready_if n (rules.delegates e y) true = refl
ready_if n (rules.delegates e y) false = refl
ready_if n (rules.takes e x) true = refl
ready_if n (rules.takes e x) false = refl
ready_if n (rules.closes e) true = refl
ready_if n (rules.closes e) false = refl
ready_if n (rules.requests x to) true = refl
ready_if n (rules.requests x to) false = refl
ready_if n (rules.accepts x from) true = refl
ready_if n (rules.accepts x from) false = refl

-- what acts isn't worn
act_row : (ps : List ProtocolAt) (k p : ℕ) (n : NodeAt Program) (done : Worked Program) → acts (play_for k ps) p n ≡ Some done → act_by (play_for k ps) p n (want_or_ended ps (want_of n.program)) ≡ Some done
act_row ps k p n done is = by (not (nat_lt n.program.steps 10000)) is
  where
    by : (b : Bool) → (if b then None else act_by (play_for k ps) p n (want_or_ended ps (want_of n.program))) ≡ Some done → act_by (play_for k ps) p n (want_or_ended ps (want_of n.program)) ≡ Some done
    by true h = absurd (cc h)
    by false h = h

module _ (c : ForwarderWorld) (r : IsReached c) (p : ℕ) (forwarder : Forwarder) (want : Want) (there : slice_get (forwarders_in c) p ≡ Some forwarder) (wanted : Wants c.plain p want) where
  abbrev g : Program
  g = program_in c.plain p

  pub node_is : (world_in c).nodes p ≡ forwarder_at g forwarder
  node_is = ap (node_or g (first_node (file_in c) p)) there

  wants_so : (ps : List ProtocolAt) → want_or_ended ps (want_of g) ≡ want_for ps want
  wants_so ps = want_is ps (want_of g) ∙ ap (want_for ps) (program_wants c.plain p want wanted)

  -- whether the party is ready
  pub ready_told : (steps : ℕ) (ready : Bool) → option_map (λ (x : Program). x.steps) (slice_get (world_at c.plain).parties p) ≡ Some steps
      → ((ps : List ProtocolAt) (k : Program) → ready ≡ is_ready (state_by (forwarder_at k forwarder) (want_for ps want)))
      → has_step (play_of (file_in c)) (world_in c) p Act ≡ (nat_lt steps 10000 && ready)
  ready_told steps ready counted told =
      let ps = (file_in c).protocols in
      let n = forwarder_at g forwarder in
      ap (λ (m : NodeAt Program). is_ready (state_at (play_of (file_in c)) m)) node_is
      ∙ (λ i. is_ready (if is_at_end (wants_so ps i) then states.Ended else if not (nat_lt (program_steps c.plain p steps counted i) 10000) then states.AtLimit limits.Steps else state_by n (wants_so ps i)))
      ∙ ready_if n (want_for ps want) (nat_lt steps 10000)
      ∙ ap (λ (b : Bool). nat_lt steps 10000 && b) (sym (told ps g))

  module _ (ready : has_step (play_of (file_in c)) (world_in c) p Act ≡ true) where
    -- what it does by the rules
    pub done_there : (done : Worked Program) × (acts (play_of (file c r)) p ((world_in c).nodes p) ≡ Some done)
    done_there = act_there c r p ready

    pub row_there : act_by (play_of (file c r)) p (forwarder_at g forwarder) (want_for (file c r).protocols want) ≡ Some done_there.0
    row_there =
        ap (act_by (play_of (file c r)) p (forwarder_at g forwarder)) (sym (wants_so (file c r).protocols))
        ∙ act_row (file c r).protocols (length (file c r).parties) p (forwarder_at g forwarder) done_there.0 (ap (acts (play_of (file c r)) p) (sym node_is) ∙ done_there.1)

    -- its forwarder can do it, and the plain world
    pub has_act : (mid : Forwarder) → ForwarderStays forwarder mid → HasAct p want mid
    has_act mid rests = record {
      play = play_of (file c r);
      protocols = (file c r).protocols;
      program = g;
      done = done_there.0;
      row = ap (λ (n : NodeAt Program). act_by (play_of (file c r)) p n (want_for (file c r).protocols want)) (rests.node g) ∙ row_there;
    }

    pub plain_ready : state_of (world_at c.plain) p ≡ states.Ready
    plain_ready =
        laws.ready_plainly (file c r) (accepted c r) r.turns (world_in c) (run_of c r) (world_at c.plain) p
        (subst (λ (ps : List ℕ). IsRun (file c r) ps (world_at c.plain)) r.led.acts (plain_run_of c r (acts_of c.plain) (world_at c.plain) r.led.plain))
        (ap (λ (f : FileAt). is_ready (state_at (play_of f) ((world_in c).nodes p))) (sym r.accepted.same) ∙ ready)

    -- the forwarder does it
    pub does_act : (mid new : Forwarder) → ForwarderStays forwarder mid → Acts p want mid new → Does forwarder done_there.0 new
    does_act mid new rests acts =
        let row : act_by (play_of (file c r)) p (forwarder_at g mid) (want_for (file c r).protocols want) ≡ Some done_there.0 =
        ap (λ (n : NodeAt Program). act_by (play_of (file c r)) p n (want_for (file c r).protocols want)) (rests.node g) ∙ row_there in
        let own : Does mid done_there.0 new = did mid new _ done_there.0 row (acts (play_of (file c r)) (file c r).protocols g) in
        record { node = own.node; posts = λ q. own.posts q ∙ ap (λ (fs : List FrameAt). fs ++ frames_for q done_there.0.posts) (rests.posts q) }
