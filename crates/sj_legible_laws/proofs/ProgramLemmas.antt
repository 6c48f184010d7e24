-- A program that knows only of the file does so after each step.
use Rattle.std.proofs.Common.{Option, Some, None}
use Rattle.sj_lang.specs.FileAt.{FileAt}
use Rattle.sj_semantics.specs.declared.Want.{Want}
use Rattle.sj_semantics.specs.declared.Want.TheVariants as wants
use Rattle.sj_semantics.specs.Program.{Program}
use Rattle.sj_semantics.specs.Wants.{want_of}
use Rattle.sj_semantics.specs.Steps.{local_of, sent_of, closed_of, name_opened}
use Rattle.sj_rules.specs.Party.{after_step, play_of}
use Rattle.sj_legible_laws.proofs.LegibleParts.{PlayTold}
use Rattle.sj_legible_laws.proofs.CodeParts.{ProgramTold}
use Rattle.sj_legible_laws.proofs.WantLemmas.{wants_told}
use Rattle.sj_legible_laws.proofs.TodoLemmas.{rest_told, local_todo, sent_todo, took_todo}
use Rattle.sj_legible_laws.proofs.KnownLemmas.{with_told, local_vars, took_vars, sent_ends, closed_ends, took_ends}

module _ (file : FileAt) where
  local_told : (g : Program) → ProgramTold file g → ProgramTold file (local_of g)
  local_told g told = record { todo = local_todo file g.vars g.todo told.todo; vars = local_vars file g.vars g.todo told.vars told.todo; ends = told.ends }

  sent_told : (g : Program) → ProgramTold file g → ProgramTold file (sent_of g)
  sent_told g told = record { todo = sent_todo file g.vars g.todo told.todo; vars = told.vars; ends = sent_ends file g.ends g.todo told.ends }

  closed_told : (g : Program) → ProgramTold file g → ProgramTold file (closed_of g)
  closed_told g told = record { todo = rest_told file g.todo told.todo; vars = told.vars; ends = closed_ends file g.ends g.todo told.ends }

  step_told : (g : Program) (o : Option Want) → ProgramTold file g → ProgramTold file (after_step g o)
  step_told g (Some wants.Local) told = local_told g told
  step_told g (Some (wants.Send e m)) told = sent_told g told
  step_told g (Some (wants.Delegate e y)) told = sent_told g told
  step_told g (Some (wants.Close e)) told = closed_told g told
  step_told g (Some (wants.Take e a)) told = told
  step_told g (Some (wants.Request q to)) told = told
  step_told g (Some (wants.Accept q from)) told = told
  step_told g (Some wants.Ended) told = told
  step_told g None told = told

  -- programs of the file know only of it
  pub play_told : PlayTold file (ProgramTold file) (play_of file)
  play_told = record {
    wants = λ g told. wants_told file file.protocols g told;
    goes = λ g told. step_told g (want_of g) told;
    took = λ g m told own. record { todo = took_todo file g.todo m told.todo; vars = took_vars file g.vars g.todo m told.vars own; ends = took_ends file g.ends g.todo m told.ends own };
    opened = λ g e told own. record { todo = rest_told file g.todo told.todo; vars = told.vars; ends = with_told file g.ends (name_opened g.todo) e told.ends own };
  }
