-- What happens in a talk, move by move.
use Rattle.std.specs.Prelude.{◌≡◌, ℕ, true, List, [], ◌∷◌, slice_get, Option, Some, option_and_then, option_map}
use Rattle.sj_base.specs.declared.EndId.{EndId}
use Rattle.sj_lang.specs.FileAt.{FileAt}
use Rattle.sj_semantics.specs.declared.Awaits.{Awaits}
use Rattle.sj_semantics.specs.declared.Passed.{Passed}
use Rattle.sj_semantics.specs.declared.Want.TheVariants.{Take}
use Rattle.sj_semantics.specs.Ends.{next_for}
use Rattle.sj_semantics.specs.Fitting.{fits}
use Rattle.sj_semantics.specs.Program.{Program}
use Rattle.sj_semantics.specs.Wants.{want_of}
use Rattle.sj_semantics.specs.World.{World, act_of}
use Rattle.sj_talk.specs.Doing.{after_line, with_text_of}
use Rattle.sj_talk.specs.TalkWorld.{TalkWorld, talk_start, with_world}

-- an act of another party, a line, or the text of a line alone, which is put into the table
pub data Move : Type 0 where
  acts : ℕ → Move
  says : List ℕ → Move
  notes : List ℕ → Move

-- the talk world after the move
abbrev pub after_move : TalkWorld → Move → Option TalkWorld
after_move t (acts q) = option_map (with_world t) (act_of t.world q)
after_move t (says line) = Some (after_line t line)
after_move t (notes line) = Some (with_text_of t line)

-- the talk world after these moves, one after another, where each party could act
abbrev pub after_moves : TalkWorld → List Move → Option TalkWorld
after_moves t [] = Some t
after_moves t (m ∷ ms) = option_and_then (λ u. after_moves u ms) (after_move t m)

-- some moves lead from the one to the other
pub record GoesOn (t u : TalkWorld) : Type 0 where
  pub moves : List Move
  pub leads : after_moves t moves ≡ Some u

-- these moves lead from the start of a talk over the file, in which that party is played, to that world
abbrev pub IsTalk : FileAt → ℕ → List Move → TalkWorld → Type 0
IsTalk file p moves t = after_moves (talk_start file p) moves ≡ Some t

-- what comes next for a party that takes is what its statement can take
abbrev pub IsServed : World → Type 0
IsServed w =
    (q : ℕ) (g : Program) (e : EndId) (a : Awaits) (x : Passed) → slice_get w.parties q ≡ Some g → want_of g ≡ Some (Take e a) → next_for w.sessions e ≡ Some x
    → fits g x.msg ≡ true
