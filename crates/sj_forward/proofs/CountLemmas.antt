-- Counts of turns, one list of them after another.
use Rattle.std.proofs.Common.{◌+◌, List, [], ◌++◌, append_assoc, append-nil, length-append, refl, ap, sym, ◌∙◌, arith}
use Rattle.sj_plain.specs.Plain.{acts_of}
use Rattle.sj_rules.specs.Events.{acts_in}
use Rattle.sj_rules.specs.World.{Turn}
use Rattle.sj_forward.specs.declared.forwarder_world.ForwarderWorld.{ForwarderWorld}
use Rattle.sj_forward.specs.ForwarderWorld.{Counts, StaysIn}
use Rattle.sj_forward.proofs.StepLemmas.{acts_more, passed_more}

pub counts_none : (c : ForwarderWorld) → Counts c [] c
counts_none c = record { acts = sym (append-nil (acts_of c.plain)); passed = omega arith; events = omega arith; file = refl }

pub counts_joined : (c d e : ForwarderWorld) (ts us : List Turn) → Counts c ts d → Counts d us e → Counts c (ts ++ us) e
counts_joined c d e ts us a b = record {
  acts = b.acts ∙ ap (λ x. x ++ acts_in us) a.acts ∙ append_assoc (acts_of c.plain) (acts_in ts) (acts_in us) ∙ ap (λ x. acts_of c.plain ++ x) (sym (acts_more ts us));
  passed = let n = a.passed in let m = b.passed in let all = passed_more ts us in omega (arith, n, m, all);
  events = let n = a.events in let m = b.events in let all = length-append ts us in omega (arith, n, m, all);
  file = b.file ∙ a.file;
}

pub counts_still : (c d e : ForwarderWorld) (ts : List Turn) → Counts c ts d → StaysIn d e → Counts c ts e
counts_still c d e ts a stays = record {
  acts = stays.acts ∙ a.acts;
  passed = stays.passed ∙ a.passed;
  events = stays.events ∙ a.events;
  file = stays.file ∙ a.file;
}
