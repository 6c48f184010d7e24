-- A file has one text by forwarding.
use Rattle.std.proofs.Common.{◌≡◌, ◌∙◌, ℕ, List, [], ◌++◌, length, ap, refl, sym}
use Rattle.sj_lang.specs.FileAt.{FileAt}
use Rattle.sj_acceptance.specs.Accepted.{IsAccepted}
use Rattle.sj_headline_laws.specs.Headline.{IsHeadline}
use Rattle.sj_headline_laws.proofs.HeadlineLemmas.{settled_run_has_it}
use Rattle.sj_forward_rules.specs.Drain.{IsDrained, passed_in}
use Rattle.sj_forward_rules.specs.Start.{forward_start}
use Rattle.sj_forward_rules.specs.World.{WorldAt}
use Rattle.sj_forward_laws.proofs.DrainLemmas.{drained_once}
use Rattle.sj_forward_laws.proofs.RunLawsLemmas.{drain_is_at_the_end}
use Rattle.sj_forward_laws.proofs.ShortRunLemmas.{run_drains}
use Rattle.sj_rules.specs.Events.{acts_in}
use Rattle.sj_rules.specs.Party.{play_of}
use Rattle.sj_rules.specs.World.{Turn}
use Rattle.sj_semantics.specs.Program.{Program}
use Rattle.sj_semantics.specs.Run.{end_of}
use Rattle.sj_semantics.specs.Transcript.{transcript_of}
use Rattle.sj_semantics_laws.proofs.FinishLemmas.{end_is_settled}
use Rattle.sj_tool.specs.Forwards.{IsForwardText, passed_line}

-- the turns of the drain lead to the end of the file
drain_has_it : (file : FileAt) → IsAccepted file → (turns : List Turn) (last : WorldAt Program)
    → IsDrained (play_of file) (length file.parties) (forward_start file) turns last → IsHeadline file (acts_in turns) (end_of file)
drain_has_it file accepted turns last drained =
    let ends = drain_is_at_the_end file accepted [] turns (forward_start file) last refl drained in
    settled_run_has_it file (acts_in turns) (end_of file) accepted ends.2 (end_is_settled file)

-- so what is printed of a drain is the text
pub drain_text : (file : FileAt) → IsAccepted file → (turns : List Turn) (last : WorldAt Program) (text : List ℕ)
    → IsDrained (play_of file) (length file.parties) (forward_start file) turns last
    → text ≡ transcript_of file (end_of file) ++ passed_line (passed_in turns) → IsForwardText file text
drain_text file accepted turns last text drained printed =
    record { turns = turns; last = last; drained = drained; headline = drain_has_it file accepted turns last drained; printed = printed }

-- there is one, and no other
pub has_forward_text : (file : FileAt) → IsAccepted file → (text : List ℕ) × IsForwardText file text
has_forward_text file accepted =
    let d = run_drains file accepted [] (forward_start file) refl in
    let text = transcript_of file (end_of file) ++ passed_line (passed_in d.0) in
    (text, drain_text file accepted d.0 d.1 text d.2 refl)

pub one_forward_text : (file : FileAt) (s t : List ℕ) → IsForwardText file s → IsForwardText file t → s ≡ t
one_forward_text file s t x y =
    let same = (drained_once (play_of file) (length file.parties) (forward_start file) x.last y.last x.turns y.turns x.drained y.drained).0 in
    x.printed ∙ ap (λ ts. transcript_of file (end_of file) ++ passed_line (passed_in ts)) same ∙ sym y.printed
