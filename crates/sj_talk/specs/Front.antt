-- Items that are lent or copied, and the place that they are.
use Rattle.sj_lang.specs.Place.{Place}
use Rattle.sj_lang.specs.View.{place_of}
use Rattle.sj_talk.specs.declared.front.Front.{Front}
use Rattle.sj_talk.specs.declared.front.Front.TheVariants.{Lent, Own}

-- the place that the items are
abbrev pub seen_in : Front → Place
seen_in (Lent items) = place_of items.now
seen_in (Own place) = place
