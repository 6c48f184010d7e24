-- What a `recv` awaits, as a part and as what is done.
use Rattle.std.specs.Prelude.{ℕ}
use Rattle.sj_lang.specs.Code.{DeedAt, take_value, take_end}
use Rattle.sj_party.specs.declared.parts.Awaited.{Awaited}
use Rattle.sj_party.specs.declared.parts.Awaited.TheVariants as awaits
use Rattle.sj_party.specs.Parts.{Part, a_value, an_end}

abbrev pub awaited_part : Awaited → Part
awaited_part (awaits.Value k) = a_value k
awaited_part (awaits.End p) = an_end p

abbrev pub take_deed : ℕ → ℕ → Awaited → DeedAt
take_deed x y (awaits.Value k) = take_value x y k
take_deed x y (awaits.End p) = take_end x y p
