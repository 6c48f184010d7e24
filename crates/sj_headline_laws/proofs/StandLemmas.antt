-- What meets a place, or what it stands for, is led to as the place is.
use Rattle.std.proofs.Common.{List, [], ◌∷◌, sym, subst}
use Rattle.sj_base.specs.declared.Msg.{Msg}
use Rattle.sj_lang.specs.Place.{Place, Carried, done, message, choice, repeat}
use Rattle.sj_lang.specs.Meet.{Meets, StandsFor}
use Rattle.sj_lang.proofs.MeetLemmas.{meets_through}
use Rattle.sj_semantics.specs.Balanced.{Fits, FitsNext, LeadsTaker}
use Rattle.sj_semantics.specs.Ends.{Session}

-- what is next at a place is next, of the same kind, at one that meets it
pub fits_met : (zs : List Session) (p q : Place) (m : Msg) → Meets p q → FitsNext zs q m → FitsNext zs p m
fits_met zs done q m h f = tt
fits_met zs (choice w arms rest) q m h f = tt
fits_met zs (repeat w body rest) q m h f = tt
fits_met zs (message w k rest) (message v l rest') m h f = subst (λ (t : Carried). Fits zs t m) (sym h.1) f
fits_met zs (message w k rest) _ m h f = absurd h

-- what leads a taker to meet a place leads it to meet one for which that stands
pub leads_to_stands : (zs : List Session) (p : Place) (ms : List Msg) (t s : Place) → StandsFor t s → LeadsTaker zs p ms t → LeadsTaker zs p ms s
leads_to_stands zs p [] t s h l = meets_through p t s l h
leads_to_stands zs p (m ∷ ms) t s h l = (l.0, l.1, l.2, leads_to_stands zs l.0 ms t s h l.3)
