-- One turn more of a run.
use Rattle.std.proofs.Common.{◌≡◌, ℕ, ◌+◌, List, [], ◌∷◌, ◌++◌, append_assoc, Some, refl, ap, sym, ◌∙◌, arith}
use Rattle.sj_lang.specs.FileAt.{FileAt}
use Rattle.sj_semantics.specs.Program.{Program}
use Rattle.sj_rules.specs.Drain.{turn}
use Rattle.sj_rules.specs.Events.{acts_by, acts_in}
use Rattle.sj_rules.specs.Party.{play_of}
use Rattle.sj_rules.specs.World.{Event, Turn}
use Rattle.sj_forward_rules.specs.Drain.{passed_in}
use Rattle.sj_forward_rules.specs.World.{Run, WorldAt, happens}

pub acts_more : (ts us : List Turn) → acts_in (ts ++ us) ≡ acts_in ts ++ acts_in us
acts_more [] us = refl
acts_more (t ∷ ts) us = ap (λ x. acts_by t.event t.party ++ x) (acts_more ts us) ∙ sym (append_assoc (acts_by t.event t.party) (acts_in ts) (acts_in us))

pub passed_more : (ts us : List Turn) → passed_in (ts ++ us) ≡ passed_in ts + passed_in us
passed_more [] us = let n = passed_in us in let e : n ≡ 0 + n = omega arith in e
passed_more (t ∷ ts) us = let rest = passed_more ts us in omega (arith, rest)

pub run_more : (file : FileAt) (w mid v : WorldAt Program) (ts : List Turn) (p : ℕ) (event : Event) → Run (play_of file) w ts mid → happens (play_of file) mid p event ≡ Some v
    → Run (play_of file) w (ts ++ turn p event ∷ []) v
run_more file w mid v [] p event run step = (v, (ap (λ (x : WorldAt Program). happens (play_of file) x p event) run ∙ step), refl)
run_more file w mid v (t ∷ ts) p event run step = (run.0, run.1, run_more file run.0 mid v ts p event run.2 step)
