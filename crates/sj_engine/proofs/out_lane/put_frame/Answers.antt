use Rattle.std.proofs.Common.{◌++◌, ap, sym, ◌∙◌, List, ℕ}
use Rattle.sj_lang.specs.Place.{done}
use Rattle.sj_end.specs.Views.{frame_at}
use Rattle.sj_engine.proofs.FrameLemmas.{spelling_with}
use Rattle.sj_engine.proofs.out_lane.put_frame.Goals as goal

pub returns-in_ok-extend_from_slice-in-Ok-clause-ok : goal.returns-in_ok-extend_from_slice-in-Ok-clause-ok
returns-in_ok-extend_from_slice-in-Ok-clause-ok c =
    c.in_ok-extend_from_slice-in-Ok.ensures.items
    ∙ ap (λ (t : List ℕ). c.args.text.now.items ++ t) (c.deref.ensures.value ∙ c.in-Ok.ensures.ok ∙ sym (spelling_with (λ s. done) (frame_at c.args.frame.now)))
