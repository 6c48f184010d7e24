use Rattle.std.proofs.Common.{◌∷◌, [], ℕ, subst, sym}
use Rattle.sj_end.specs.Lines.{note_seen}
use Rattle.sj_end.specs.declared.note.Note.{Note}
use Rattle.sj_told.specs.Lines.{Grow, GrowAt}
use Rattle.sj_told.proofs.TellLemmas.{on_ok, sent_grows, silent_note, stays, taken_grows}
use Rattle.sj_told.proofs.ends.tell_line.Goals as goal

pub returns-in-Sent : goal.returns-in-Sent
returns-in-Sent c =
    let old = c.args.ends.now.items in let new = c.tell_sent.new.ends.items in let by = c.args.line.now.party in
    on_ok c.tell_sent.result _ _
    (λ g. subst (λ (n : Note). Grow old by (note_seen n) new) (sym c.in-Sent.is)
    (sent_grows old new by c.in-Sent.end c.in-Sent.msg (subst (λ (k : ℕ). GrowAt k (record { msg = c.in-Sent.msg; by = by } ∷ []) [] old new) c.slot_of.ensures g)))
    c.tell_sent.ensures

pub returns-in-Took : goal.returns-in-Took
returns-in-Took c =
    let old = c.args.ends.now.items in let new = c.tell_taken.new.ends.items in let by = c.args.line.now.party in
    on_ok c.tell_taken.result _ _
    (λ g. subst (λ (n : Note). Grow old by (note_seen n) new) (sym c.in-Took.is)
    (taken_grows old new by c.in-Took.end c.in-Took.msg (subst (λ (k : ℕ). GrowAt k [] (by ∷ []) old new) c.other_slot_of.ensures g)))
    c.tell_taken.ensures

pub returns-in_default : goal.returns-in_default
returns-in_default c =
    let note = c.args.line.now.entry.note in stays c.args.ends.now.items c.args.line.now.party (note_seen note) (silent_note note c.in_default.not-Sent c.in_default.not-Took)
