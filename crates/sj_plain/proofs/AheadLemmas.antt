-- A dual place after a message, and the protocols of a table.
use Rattle.std.proofs.Common.{◌≡◌, ◌==◌, ℕ, Bool, true, false, cond, List, [], ◌∷◌, map, Option, Some, None, option_map, unwrap_or, refl, ap, ◌∙◌}
use Rattle.sj_base.specs.declared.Msg.{Msg}
use Rattle.sj_lang.specs.declared.proto.Way.{Way}
use Rattle.sj_lang.specs.After.{after_place}
use Rattle.sj_lang.specs.Dual.{dual_of, other_way}
use Rattle.sj_lang.specs.FileAt.{ProtocolAt, body_named, named, protocol_named}
use Rattle.sj_lang.specs.Place.{Place, done}
use Rattle.sj_lang.proofs.HeadLemmas.{after_place-dual}
use Rattle.sj_semantics.specs.Uses.{place_behind}
use Rattle.sj_table.specs.declared.table.Spot.{Spot}
use Rattle.sj_table.specs.declared.table.Table.{Table}
use Rattle.sj_table.specs.Spots.{place_in, start_in}
use Rattle.sj_plain.specs.Ends.{StartsAt, protocols_in}

dual_or : (o : Option Place) (p : Place) → unwrap_or (option_map dual_of o) (dual_of p) ≡ dual_of (unwrap_or o p)
dual_or None p = refl
dual_or (Some q) p = refl

-- after what comes on the other way, the dual place is the dual of the place after it
pub behind_dual : (p : Place) (w : Way) (m : Msg) → place_behind (dual_of p) (other_way w) m ≡ dual_of (place_behind p w m)
behind_dual p w m = ap (λ o. unwrap_or o (dual_of p)) (after_place-dual p w m) ∙ dual_or (after_place p w m) p

-- ---- the protocols at which a table starts

if_started : (t : Table) (b : Bool) (s : Spot) (o : Option Spot) (q : Option Place) → q ≡ option_map (place_in t) o → cond b (Some (place_in t s)) q ≡ option_map (place_in t) (cond b (Some s) o)
if_started t true s o q h = refl
if_started t false s o q h = h

started : (t : Table) (ss : List (ℕ × Spot)) (p : ℕ) → protocol_named (map (λ (s : ℕ × Spot). record { line = 0; name = s.0; body = place_in t s.1 }) ss) p ≡ option_map (place_in t) (named ss p)
started t [] p = refl
started t (s ∷ ss) p = if_started t (s.0 == p) s.1 (named ss p) _ (started t ss p)

pub body_in_table : (t : Table) (p : ℕ) → body_named (protocols_in t) p ≡ start_in t p
body_in_table t p = ap (λ o. unwrap_or o done) (started t t.1 p)

-- the table's protocols have the bodies of those at which it starts
pub same_bodies : (t : Table) (ps : List ProtocolAt) → StartsAt t ps → (p : ℕ) → body_named (protocols_in t) p ≡ body_named ps p
same_bodies t ps starts p = body_in_table t p ∙ starts p
