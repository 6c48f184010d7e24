-- What leads the taker of an end leads the taker of each end for which it stands.
use Rattle.std.proofs.Common.{◌≡◌, List, [], ◌∷◌, Some, subst}
use Rattle.sj_base.specs.declared.Msg.{Msg}
use Rattle.sj_lang.specs.declared.proto.Way.TheVariants.{Into}
use Rattle.sj_lang.specs.Place.{Place, Carried, done, message, choice, repeat}
use Rattle.sj_lang.specs.After.{after_place}
use Rattle.sj_lang.specs.Meet.{StandsFor}
use Rattle.sj_lang.proofs.MeetLemmas.{meets_back, meets_through}
use Rattle.sj_lang.proofs.HeadLemmas.{take_standing}
use Rattle.sj_semantics.specs.Balanced.{Fits, FitsNext, LeadsTaker}
use Rattle.sj_semantics.specs.Ends.{Session}

-- a message that fits the one fits the other
pub fits_standing : (zs : List Session) (t s : Place) (m : Msg) → StandsFor t s → FitsNext zs t m → FitsNext zs s m
fits_standing zs done done m h f = tt
fits_standing zs (message w k rest) (message v l rest') m h f = subst (λ (c : Carried). Fits zs c m) h.1 f
fits_standing zs (choice w arms rest) (choice v arms' rest') m h f = tt
fits_standing zs (repeat w body rest) (repeat v body' rest') m h f = tt
fits_standing zs _ _ m h f = absurd h

pub leads_standing : (zs : List Session) (t s : Place) (ms : List Msg) (last : Place) → StandsFor t s → LeadsTaker zs t ms last → LeadsTaker zs s ms last
leads_standing zs t s [] last h meet = meets_back last s (meets_through last t s (meets_back t last meet) h)
leads_standing zs t s (m ∷ ms) last h leads =
    let r : (s' : Place) × (after_place s Into m ≡ Some s') × StandsFor leads.0 s' = take_standing t s leads.0 m h leads.2 in
    (r.0, fits_standing zs t s m h leads.1, r.1, leads_standing zs leads.0 r.0 ms last r.2 leads.3)
