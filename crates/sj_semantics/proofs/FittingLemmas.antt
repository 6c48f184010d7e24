-- A message fits where the next step takes and the statement can take the message.
use Rattle.std.proofs.Common.{◌≡◌, Bool, true, false, Some, refl, ap, sym}
use Rattle.std.specs.Prelude.{◌&&◌}
use Rattle.sj_base.specs.declared.EndId.{EndId}
use Rattle.sj_base.specs.declared.Msg.{Msg}
use Rattle.sj_semantics.specs.declared.Awaits.{Awaits}
use Rattle.sj_semantics.specs.declared.Want.TheVariants as wants
use Rattle.sj_semantics.specs.Fitting.{fits, fits_todo, is_take}
use Rattle.sj_semantics.specs.Program.{Program}
use Rattle.sj_semantics.specs.Wants.{want_of}

first_of : (a b : Bool) → (a && b) ≡ true → a ≡ true
first_of true b h = refl
first_of false b h = h

pub second_of : (a b : Bool) → (a && b) ≡ true → b ≡ true
second_of true b h = h
second_of false b h = cc

-- the next step takes
pub fits_a_take : (g : Program) (m : Msg) → fits g m ≡ true → is_take (want_of g) ≡ true
fits_a_take g m h = first_of (is_take (want_of g)) (fits_todo g.todo m) h

-- the statement can take it
pub fits_its_statement : (g : Program) (m : Msg) → fits g m ≡ true → fits_todo g.todo m ≡ true
fits_its_statement g m h = second_of (is_take (want_of g)) (fits_todo g.todo m) h

-- where the next step takes, what the statement can take fits, and nothing else
pub fits_by_statement : (g : Program) (m : Msg) (e : EndId) (a : Awaits) → want_of g ≡ Some (wants.Take e a) → fits_todo g.todo m ≡ fits g m
fits_by_statement g m e a wants_it = sym (ap (λ o. is_take o && fits_todo g.todo m) wants_it)
