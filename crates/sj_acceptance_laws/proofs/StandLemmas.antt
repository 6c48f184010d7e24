-- An end is empty exactly where one for which it stands is.
use Rattle.std.proofs.Common.{◌≡◌, refl}
use Rattle.sj_lang.specs.Place.{Place, done, message, choice, repeat}
use Rattle.sj_lang.specs.Meet.{StandsFor}

pub stands_empty : (r s : Place) → StandsFor r s → s ≡ done → r ≡ done
stands_empty done s h e = refl
stands_empty (message w k rest) done h e = absurd h
stands_empty (choice w arms rest) done h e = absurd h
stands_empty (repeat w body rest) done h e = absurd h
stands_empty (message w k rest) _ h e = absurd (cc)
stands_empty (choice w arms rest) _ h e = absurd (cc)
stands_empty (repeat w body rest) _ h e = absurd (cc)

pub empty_stands : (r s : Place) → StandsFor r s → r ≡ done → s ≡ done
empty_stands done done h e = refl
empty_stands done _ h e = absurd h
empty_stands (message w k rest) s h e = absurd (cc)
empty_stands (choice w arms rest) s h e = absurd (cc)
empty_stands (repeat w body rest) s h e = absurd (cc)
