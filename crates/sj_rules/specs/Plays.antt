-- Other plays of a file: they do what the file's play does, and may test what a message names.
use Rattle.std.specs.Prelude.{◌≡◌, Option, length}
use Rattle.sj_base.specs.declared.EndId.{EndId}
use Rattle.sj_base.specs.declared.Msg.{Msg}
use Rattle.sj_lang.specs.declared.proto.Way.{Way}
use Rattle.sj_lang.specs.Place.{Place}
use Rattle.sj_lang.specs.FileAt.{FileAt}
use Rattle.sj_semantics.specs.Program.{Program}
use Rattle.sj_rules.specs.Node.{Play}
use Rattle.sj_rules.specs.Party.{play_of}
use Rattle.sj_rules.specs.Binding.{NamesKnown}

-- it goes by the same places, steps and limits, and takes the same of what names sessions and
-- parties of the file
pub record IsPlayOf (file : FileAt) (play : Play Place Program) : Type 0 where
  pub next : (place : Place) (way : Way) (m : Msg) → play.next place way m ≡ (play_of file).next place way m
  pub over : (place : Place) → play.is_over place ≡ (play_of file).is_over place
  pub wants : (g : Program) → play.wants g ≡ (play_of file).wants g
  pub goes : (g : Program) (m : Option Msg) → play.goes g m ≡ (play_of file).goes g m
  pub blank : play.blank ≡ (play_of file).blank
  pub opened : (g : Program) (e : EndId) → play.opened g e ≡ (play_of file).opened g e
  pub parties : play.parties ≡ (play_of file).parties
  pub worn : (g : Program) → play.is_worn g ≡ (play_of file).is_worn g
  pub fits : (g : Program) (m : Msg) → NamesKnown (length file.parties) (length file.connects) m → play.fits g m ≡ (play_of file).fits g m
