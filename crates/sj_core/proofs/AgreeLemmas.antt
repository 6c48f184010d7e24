-- In a core run the places of a node's ends let its next step, where nothing holds it up.
use Rattle.std.proofs.Common.{◌≡◌, ℕ, List, map, slice_get, Option, Some, None, refl, sym, ◌∙◌}
use Rattle.sj_lang.specs.Place.{Place}
use Rattle.sj_lang.specs.FileAt.{FileAt}
use Rattle.sj_acceptance.specs.Accepted.{IsAccepted}
use Rattle.sj_semantics.specs.Program.{Program}
use Rattle.sj_rules.specs.History.{IsCoreRun, turn_of}
use Rattle.sj_rules.specs.Node.{NodeAt}
use Rattle.sj_rules.specs.Rows.{Worked}
use Rattle.sj_rules.specs.World.{Turn, WorldAt}
use Rattle.sj_node.specs.declared.node.Node.{Node}
use Rattle.sj_node.specs.Node.{act_of, node_halt, wants_of}
use Rattle.sj_node.specs.Unfit.{Agrees, Misfit, misfit_of}
use Rattle.sj_node.proofs.LetsLemmas.{act_agrees}
use Rattle.sj_node.proofs.UnfitLemmas.{no_act}
use Rattle.sj_core.specs.declared.node_world.NodeWorld.{NodeWorld}
use Rattle.sj_core.specs.NodeWorld.{IsLed, nodes_in, world_in}
use Rattle.sj_core.specs.Nodes.{IsNodeOf}
use Rattle.sj_core.proofs.UnfitLemmas.{here, own_act, own_acts, own_play}
use Rattle.sj_core.proofs.LawLemmas.{run_of}

module _ (file : FileAt) (turns : List Turn) (core : WorldAt Place Program) (p : ℕ) (n : Node) (accepted : IsAccepted file) (run : IsCoreRun file turns core) (own : IsNodeOf file core p n)
    (free : node_halt n ≡ None) where
  has_act : (left : Worked Place (NodeAt Place Program)) × (act_of n ≡ Some left)
  has_act =
      let done = own_acts file accepted turns core run p n own.here own.party own.play free in
      (done.0, own_act file accepted turns core run p n own.here own.party own.play ∙ done.1)

  pub run_agrees : Agrees n (wants_of n)
  run_agrees = act_agrees n has_act.0 has_act.1

  no_misfit : (o : Option Misfit) → misfit_of n ≡ o → misfit_of n ≡ None
  no_misfit None is = is
  no_misfit (Some x) is = let e : Some has_act.0 ≡ None = sym has_act.1 ∙ no_act n x is in absurd (cc e)

  pub run_fits : misfit_of n ≡ None
  run_fits = no_misfit (misfit_of n) refl

-- so it is in a world to which lines lead
pub world_agrees : (c : NodeWorld) (led : IsLed c) (p : ℕ) (n : Node) → slice_get (nodes_in c) p ≡ Some n → node_halt n ≡ None → Agrees n (wants_of n)
world_agrees c led p n there free =
    run_agrees led.accepted.file (map turn_of led.past) (world_in c) p n led.accepted.accepted (run_of c led)
    (record { here = here c led p n there; party = (led.seats.each p n there).party; play = own_play c led p n there }) free
