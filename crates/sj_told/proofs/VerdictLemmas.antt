-- The verdict by how parties stand is that of the world, where no session was opened.
use Rattle.std.proofs.Common.{◌≡◌, Bool, true, false, ◌&&◌, ◌||◌, List, [], ◌∷◌, map, refl, ap, sym, ◌∙◌, if◌then◌else◌}
use Rattle.std.specs.List.{list_all, list_any}
use Rattle.sj_semantics.specs.declared.State.{State}
use Rattle.sj_semantics.specs.declared.Verdict.{Verdict}
use Rattle.sj_semantics.specs.declared.Verdict.TheVariants as verdicts
use Rattle.sj_semantics.specs.State.{has_ended, is_accepted, is_at_limit, opened_in, states_of, verdict_of}
use Rattle.sj_semantics.specs.World.{World}
use Rattle.sj_told.specs.declared.told.Stand.{Stand}
use Rattle.sj_told.specs.Told.{AreStands, verdict_by}

any_map : (f : State → Bool) (xs : List Stand) → list_any f (map (λ s. s.state) xs) ≡ list_any (λ s. f s.state) xs
any_map f [] = refl
any_map f (x ∷ xs) = ap (λ b. f x.state || b) (any_map f xs)

all_map : (f : State → Bool) (xs : List Stand) → list_all f (map (λ s. s.state) xs) ≡ list_all (λ s. f s.state) xs
all_map f [] = refl
all_map f (x ∷ xs) = ap (λ b. f x.state && b) (all_map f xs)

and_true : (b : Bool) → b && true ≡ b
and_true true = refl
and_true false = refl

abbrev verdict_so : Bool → Bool → Verdict
verdict_so long done = if long then verdicts.Long else (if done then verdicts.Done else verdicts.Blocked)

pub verdict_is : (w : World) (stands : List Stand) → opened_in w ≡ [] → AreStands w stands → verdict_by stands ≡ verdict_of w
verdict_is w stands none are =
    let long = sym (any_map is_at_limit stands) ∙ ap (list_any is_at_limit) are.states in
    let ended = sym (all_map has_ended stands) ∙ ap (list_all has_ended) are.states in
    let accepted : list_all is_accepted (opened_in w) ≡ true = ap (list_all is_accepted) none in
    let done : list_all (λ s. has_ended s.state) stands ≡ list_all has_ended (states_of w) && list_all is_accepted (opened_in w) =
    ended ∙ sym (and_true (list_all has_ended (states_of w))) ∙ ap (λ b. list_all has_ended (states_of w) && b) (sym accepted) in
    λ i. verdict_so (long i) (done i)
