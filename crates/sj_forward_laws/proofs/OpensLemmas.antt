-- Opens on the road to the first record of an end, as a frame that is none comes and as such frames
-- are sent.
use Rattle.std.proofs.Common.{◌≡◌, ℕ, List, [], ◌∷◌, ◌++◌, refl, sym, subst, ap, ◌∙◌, zero, suc}
use Rattle.std.specs.Prelude.{Bool, true, false, ◌==◌, if◌then◌else◌, map, Some, None}
use Rattle.std.specs.List.{AllByRecursion, filter}
use Rattle.std.proofs.lemmas.List.Elements.{filter-append, filter_map-append}
use Rattle.sj_base.specs.declared.EndId.{EndId}
use Rattle.sj_forward_rules.specs.Record.{SentAt, FrameAt, Open, Mail, session_opened, opened_in}
use Rattle.sj_forward_rules.specs.Node.{onward}
use Rattle.sj_forward_rules.specs.Arrivals.{passed_on}
use Rattle.sj_forward_rules.specs.World.{Lanes, frames_for, lanes_with, with_lane}
use Rattle.sj_forward_laws.specs.Roads.{Chains, Road, inward, road_of, is_road, start_of, goal_of, IsOnRoad, on_road}
use Rattle.sj_forward_laws.specs.Pipe.{traffic}
use Rattle.sj_forward_laws.specs.Kept.{Seat, in_use, on_its_way, at_its_end, in_open, OpensFit}
use Rattle.sj_forward_laws.proofs.RoadLemmas.{road_is, pop_same, pop_here}

-- a frame that opens no session
abbrev pub IsNoOpen : FrameAt → Type 0
IsNoOpen f = session_opened f ≡ None

-- posts of such frames
abbrev pub AreNoOpens : List Mail → Type 0
AreNoOpens posts = AllByRecursion (λ (m : Mail). IsNoOpen m.frame) posts

-- what fits the seat of an end in the one list does so in the other
abbrev pub OpensKeep : (sess : ℕ) → List FrameAt → List FrameAt → Type 0
OpensKeep sess fs gs = (s : Seat) → OpensFit s sess fs → OpensFit s sess gs

-- so it is in a list where the end has another seat
abbrev pub OpensLike : Seat → Seat → Type 0
OpensLike s t = (sess : ℕ) (fs : List FrameAt) → OpensFit s sess fs → OpensFit t sess fs

pub front_opened : (f : FrameAt) (fs : List FrameAt) → IsNoOpen f → opened_in (f ∷ fs) ≡ opened_in fs
front_opened f fs none = rw none refl

pub more_opened : (fs gs : List FrameAt) → opened_in gs ≡ [] → opened_in fs ≡ [] → opened_in (fs ++ gs) ≡ []
more_opened fs gs none e = filter_map-append session_opened fs gs ∙ ap (λ (l : List ℕ). l ++ opened_in gs) e ∙ none

-- the first frame comes
opens_front : (f : FrameAt) (fs : List FrameAt) (sess : ℕ) → IsNoOpen f → OpensKeep sess (f ∷ fs) fs
opens_front f fs sess none in_use e = sym (front_opened f fs none) ∙ e
opens_front f fs sess none (on_its_way d n) e = sym (front_opened f fs none) ∙ e
opens_front f fs sess none at_its_end e = sym (front_opened f fs none) ∙ e
opens_front f fs sess none in_open e =
    let same : f ≡ Open sess = cc e.1 in
    let some : session_opened f ≡ Some sess = ap session_opened same in
    absurd (cc (none, some))

-- frames are sent after these
opens_more : (fs gs : List FrameAt) (sess : ℕ) → opened_in gs ≡ [] → OpensKeep sess fs (fs ++ gs)
opens_more fs gs sess none in_use e = more_opened fs gs none e
opens_more fs gs sess none (on_its_way d n) e = more_opened fs gs none e
opens_more fs gs sess none at_its_end e = more_opened fs gs none e
opens_more fs gs sess none in_open e = (e.0 ++ gs, ap (λ l. l ++ gs) e.1, more_opened e.0 gs none e.2)

none_on_road : (r : Road) (fs : List FrameAt) → AllByRecursion IsNoOpen fs → opened_in (on_road r fs) ≡ []
none_on_road r [] all = refl
none_on_road r (f ∷ fs) all = by (is_road r (road_of f)) (none_on_road r fs all.1)
  where
    by : (b : Bool) → opened_in (on_road r fs) ≡ [] → opened_in (if b then f ∷ on_road r fs else on_road r fs) ≡ []
    by true e = front_opened f (on_road r fs) all.0 ∙ e
    by false e = e

-- frames that open none
pub none_opened : (fs : List FrameAt) → AllByRecursion IsNoOpen fs → opened_in fs ≡ []
none_opened [] all = refl
none_opened (f ∷ fs) all = front_opened f fs all.0 ∙ none_opened fs all.1

pub frames_none : (to : ℕ) (posts : List Mail) → AreNoOpens posts → AllByRecursion IsNoOpen (frames_for to posts)
frames_none to [] all = tt
frames_none to (m ∷ ms) all = by (to == m.party) (frames_none to ms all.1)
  where
    by : (b : Bool) → AllByRecursion IsNoOpen (frames_for to ms)
        → AllByRecursion IsNoOpen (map (λ m. m.frame) (if b then m ∷ filter (λ m. to == m.party) ms else filter (λ m. to == m.party) ms))
    by true more = (all.0, more)
    by false more = more

-- a message on to the next hop, and messages passed on
pub onward_none : (e : EndId) (h behind : ℕ) (m : SentAt) → AreNoOpens (onward e h behind m ∷ [])
onward_none e zero behind m = (refl, tt)
onward_none e (suc h) behind m = (refl, tt)

pub passed_none : (e : EndId) (h p : ℕ) (ms : List SentAt) → AreNoOpens (passed_on e h p ms)
passed_none e h p [] = tt
passed_none e h p (m ∷ ms) = (refl, passed_none e h p ms)

module _ (c : Chains) (lanes : Lanes) (d : EndId) where
  -- a frame comes
  pub pop_opens : (q p : ℕ) (f : FrameAt) (rest : List FrameAt) → lanes q p ≡ f ∷ rest → IsOnRoad c q p f → IsNoOpen f
      → OpensKeep d.sess (traffic lanes c (inward d 0)) (traffic (with_lane q p rest lanes) c (inward d 0))
  pop_opens q p f rest front on none = by (is_road (inward d 0) (road_of f)) refl
    where
      by : (b : Bool) → is_road (inward d 0) (road_of f) ≡ b
          → OpensKeep d.sess (traffic lanes c (inward d 0)) (traffic (with_lane q p rest lanes) c (inward d 0))
      by true t s e =
          let here : traffic lanes c (inward d 0) ≡ f ∷ traffic (with_lane q p rest lanes) c (inward d 0) =
          subst (λ r. traffic lanes c r ≡ f ∷ traffic (with_lane q p rest lanes) c r) (sym (road_is (inward d 0) (road_of f) t))
          (pop_here c lanes q p f rest front on) in
          opens_front f (traffic (with_lane q p rest lanes) c (inward d 0)) d.sess none s (subst (λ l. OpensFit s d.sess l) here e)
      by false t s e = subst (λ l. OpensFit s d.sess l) (sym (pop_same c lanes q p f rest front (inward d 0) t)) e

  -- frames are sent
  pub push_opens : (p : ℕ) (posts : List Mail) → AreNoOpens posts
      → OpensKeep d.sess (traffic lanes c (inward d 0)) (traffic (lanes_with p posts lanes) c (inward d 0))
  push_opens p posts none = by (start_of c (inward d 0) == p)
    where
      lane : List FrameAt
      lane = lanes (start_of c (inward d 0)) (goal_of c (inward d 0))

      more : List FrameAt
      more = frames_for (goal_of c (inward d 0)) posts

      by : (b : Bool) → OpensKeep d.sess (on_road (inward d 0) lane) (on_road (inward d 0) (if b then lane ++ more else lane))
      by true s e =
          subst (λ l. OpensFit s d.sess l) (sym (filter-append (λ f. is_road (inward d 0) (road_of f)) lane more))
          (opens_more (on_road (inward d 0) lane) (on_road (inward d 0) more) d.sess
          (none_on_road (inward d 0) more (frames_none (goal_of c (inward d 0)) posts none)) s e)
      by false s e = e
