use Rattle.sj_semantics_laws.proofs.SampleLemmas.{crossed_ends, greeting_ends, silent_ends, turnless_ends, wrapping_ends}
use Rattle.sj_semantics_laws.proofs.samples.short_sessions_end_so.Goals as goal

pub returns-clause-greeting : goal.returns-clause-greeting
returns-clause-greeting c = greeting_ends

pub returns-clause-wrapping : goal.returns-clause-wrapping
returns-clause-wrapping c = wrapping_ends

pub returns-clause-silent : goal.returns-clause-silent
returns-clause-silent c = silent_ends

pub returns-clause-crossed : goal.returns-clause-crossed
returns-clause-crossed c = crossed_ends

pub returns-clause-turnless : goal.returns-clause-turnless
returns-clause-turnless c = turnless_ends
