use Rattle.std.proofs.Common.{◌++◌, ◌∷◌, [], map, ap, refl, ◌∙◌}
use Rattle.sj_core.specs.Views.{line_at, line_with}
use Rattle.sj_end.specs.declared.note.Line.{Line}
use Rattle.sj_core.proofs.ReachedLemmas.{listed_more}
use Rattle.sj_seats.proofs.AddedLemmas.{adds_one, adds_still, written_tells}
use Rattle.sj_seats.proofs.DrainLemmas.{stays_still}
use Rattle.sj_seats.proofs.GoingLemmas.{led}
use Rattle.sj_seats.proofs.ListingLemmas.{done_listed, none_is, none_listed, one_longer, reached_listed, rests_after, some_is}
use Rattle.sj_seats.specs.Played.{IsStill, Redoes, Rests, history_in}
use Rattle.sj_seats.specs.declared.played.PlayedWorld.{PlayedWorld}
use Rattle.sj_seats.proofs.played.PlayedWorld.acts.Goals as goal

pub returns-then-is_err-clause-reached : goal.returns-then-is_err-clause-reached
returns-then-is_err-clause-reached c =
    reached_listed c.args.self.now _ c.requires.reached (record { file = refl; table = refl; nodes = refl; chairs = refl; opened = refl }) (ap (map line_at) c.reserve.ensures.items)

pub act-requires-clause-led : goal.act-requires-clause-led
act-requires-clause-led c =
    let self = c.args.self.now in
    let mid : PlayedWorld = record { alloc = self.alloc; kept = self.kept; table = self.table; nodes = self.nodes; chairs = self.chairs; opened = self.opened; history = c.reserve.new.self } in
    led mid (reached_listed self mid c.requires.reached (record { file = refl; table = refl; nodes = refl; chairs = refl; opened = refl }) (ap (map line_at) c.reserve.ensures.items))

pub returns-in-Ok-Some-clause-tried : goal.returns-in-Ok-Some-clause-tried
returns-in-Ok-Some-clause-tried c =
    let self = c.args.self.now in
    let l : Line = record { party = c.args.party; entry = c.in-Ok-Some.entry } in
    one_longer (history_in self) (map line_at c.push_reserved.new.self.items) (line_at l)
    (listed_more self.history.items c.push_reserved.new.self.items l
    (c.push_reserved.ensures.items ∙ ap (λ v. v.items ++ l ∷ []) c.act.ensures.history ∙ ap (λ t. t ++ l ∷ []) c.reserve.ensures.items))

pub returns-in-Ok-Some-clause-reached : goal.returns-in-Ok-Some-clause-reached
returns-in-Ok-Some-clause-reached c =
    let self = c.args.self.now in
    let mid : PlayedWorld = record { alloc = self.alloc; kept = self.kept; table = self.table; nodes = self.nodes; chairs = self.chairs; opened = self.opened; history = c.reserve.new.self } in
    let l : Line = record { party = c.args.party; entry = c.in-Ok-Some.entry } in
    let made : Redoes mid (line_at l) c.act.new.self =
    some_is c.in-Ok-Some.field-0 c.in-Ok-Some.entry (λ e. Redoes mid (line_with c.args.party e) c.act.new.self) c.in-Ok-Some.field-0-is c.in-Ok-Some.ensures.done in
    done_listed self mid c.requires.reached (record { file = refl; table = refl; nodes = refl; chairs = refl; opened = refl }) (ap (map line_at) c.reserve.ensures.items)
    c.act.new.self _ (line_at l) made (record { file = refl; table = refl; nodes = refl; chairs = refl; opened = refl })
    (listed_more self.history.items c.push_reserved.new.self.items l
    (c.push_reserved.ensures.items ∙ ap (λ v. v.items ++ l ∷ []) c.act.ensures.history ∙ ap (λ t. t ++ l ∷ []) c.reserve.ensures.items))

pub returns-in-Ok-None-clause-tried : goal.returns-in-Ok-None-clause-tried
returns-in-Ok-None-clause-tried c =
    let self = c.args.self.now in
    let mid : PlayedWorld = record { alloc = self.alloc; kept = self.kept; table = self.table; nodes = self.nodes; chairs = self.chairs; opened = self.opened; history = c.reserve.new.self } in
    let rests : Rests mid c.act.new.self = none_is c.in-Ok-None.field-0 _ c.in-Ok-None.field-0-is c.in-Ok-None.ensures.none in (
      rests_after self mid c.requires.reached (record { file = refl; table = refl; nodes = refl; chairs = refl; opened = refl }) (ap (map line_at) c.reserve.ensures.items) c.act.new.self rests,
      ap (λ v. map line_at v.items) c.act.ensures.history ∙ ap (map line_at) c.reserve.ensures.items,
      stays_still mid c.act.new.self c.args.party rests (none_is c.in-Ok-None.field-0 (IsStill mid c.args.party) c.in-Ok-None.field-0-is c.in-Ok-None.ensures.still),
    )

pub returns-in-Ok-None-clause-reached : goal.returns-in-Ok-None-clause-reached
returns-in-Ok-None-clause-reached c =
    let self = c.args.self.now in
    let mid : PlayedWorld = record { alloc = self.alloc; kept = self.kept; table = self.table; nodes = self.nodes; chairs = self.chairs; opened = self.opened; history = c.reserve.new.self } in
    let rests : Rests mid c.act.new.self = none_is c.in-Ok-None.field-0 _ c.in-Ok-None.field-0-is c.in-Ok-None.ensures.none in
    none_listed self mid c.requires.reached (record { file = refl; table = refl; nodes = refl; chairs = refl; opened = refl }) (ap (map line_at) c.reserve.ensures.items) c.act.new.self rests
    (ap (λ v. map line_at v.items) c.act.ensures.history ∙ ap (map line_at) c.reserve.ensures.items)

pub returns-in-Err-clause-reached : goal.returns-in-Err-clause-reached
returns-in-Err-clause-reached c =
    let self = c.args.self.now in
    let mid : PlayedWorld = record { alloc = self.alloc; kept = self.kept; table = self.table; nodes = self.nodes; chairs = self.chairs; opened = self.opened; history = c.reserve.new.self } in
    none_listed self mid c.requires.reached (record { file = refl; table = refl; nodes = refl; chairs = refl; opened = refl }) (ap (map line_at) c.reserve.ensures.items) c.act.new.self c.in-Err.ensures.err
    (ap (λ v. map line_at v.items) c.act.ensures.history ∙ ap (map line_at) c.reserve.ensures.items)

pub returns-then-is_err-clause-adds : goal.returns-then-is_err-clause-adds
returns-then-is_err-clause-adds c = adds_still c.args.self.now _ (ap (map line_at) c.reserve.ensures.items) refl

pub returns-in-Ok-Some-clause-adds : goal.returns-in-Ok-Some-clause-adds
returns-in-Ok-Some-clause-adds c =
    let self = c.args.self.now in
    let l : Line = record { party = c.args.party; entry = c.in-Ok-Some.entry } in
    adds_one self _ (line_at l)
    (listed_more self.history.items c.push_reserved.new.self.items l
    (c.push_reserved.ensures.items ∙ ap (λ v. v.items ++ l ∷ []) c.act.ensures.history ∙ ap (λ t. t ++ l ∷ []) c.reserve.ensures.items))
    c.act.ensures.chairs (written_tells self (line_at l) c.requires.own)

pub returns-in-Ok-None-clause-adds : goal.returns-in-Ok-None-clause-adds
returns-in-Ok-None-clause-adds c = adds_still c.args.self.now c.act.new.self (ap (λ v. map line_at v.items) c.act.ensures.history ∙ ap (map line_at) c.reserve.ensures.items) c.act.ensures.chairs

pub returns-in-Err-clause-adds : goal.returns-in-Err-clause-adds
returns-in-Err-clause-adds c = adds_still c.args.self.now c.act.new.self (ap (λ v. map line_at v.items) c.act.ensures.history ∙ ap (map line_at) c.reserve.ensures.items) c.act.ensures.chairs
