use Rattle.std.proofs.Common.{◌++◌, List, [], ◌∷◌, ℕ, Result, Ok, Err, ap, subst, sym, ◌∙◌}
use Rattle.std.specs.List.{AllByRecursion, flat_map}
use Rattle.std.specs.Result.{IfErr}
use Rattle.std.proofs.lemmas.Result.{on_ok_weaker}
use Rattle.std.proofs.lemmas.List.Folds.{flat_map-map}
use Rattle.sj_end.specs.declared.frames.Frame.{Frame}
use Rattle.sj_lane.specs.Told.{told_frame, told_list}
use Rattle.sj_wire.specs.Spelling.{spelling}
use Rattle.sj_engine.specs.Lanes.{CanBeSpelt, frame_text}
use Rattle.sj_engine.proofs.out_lane.ByteOut.spell.Goals as goal

all_told : (fs : List Frame) → AllByRecursion CanBeSpelt (told_list fs) → AllByRecursion (λ f. CanBeSpelt (told_frame f)) fs
all_told [] all = tt
all_told (f ∷ fs) all = (all.0, all_told fs all.1)

err_weaker : {A E : Type 0} (P Q : E → Type 0) (r : Result A E) → ((e : E) → P e → Q e) → IfErr r P → IfErr r Q
err_weaker P Q (Ok x) f h = tt
err_weaker P Q (Err e) f h = f e h

pub returns-clause-ok : goal.returns-clause-ok
returns-clause-ok c =
    on_ok_weaker c.put_frames.result
    (λ e. e ∙ ap (λ (t : List ℕ). c.args.text.now.items ++ t) (ap (flat_map frame_text) c.deref.ensures.value ∙ sym (flat_map-map spelling told_frame c.args.self.now.frames.items)))
    c.put_frames.ensures.ok

pub returns-clause-unlawful : goal.returns-clause-unlawful
returns-clause-unlawful c =
    err_weaker _ _ c.put_frames.result
    (λ e h is all. h is (subst (λ (fs : List Frame). AllByRecursion (λ f. CanBeSpelt (told_frame f)) fs) (sym c.deref.ensures.value) (all_told c.args.self.now.frames.items all)))
    c.put_frames.ensures.unlawful
