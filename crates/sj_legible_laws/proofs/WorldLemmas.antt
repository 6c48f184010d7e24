-- Each event leaves a world that has only what is the file's.
use Rattle.std.proofs.Common.{◌≡◌, ℕ, ◌+◌, ◌<◌, ◌≤◌, ◌==◌, Bool, true, false, ◌&&◌, cond, List, [], ◌∷◌, ◌++◌, map, max, Some, None, refl, ap, sym, ◌∙◌, subst, arith, inl, inr, ◌⊎◌}
use Rattle.std.specs.Prelude.{nat_le, nat_lt}
use Rattle.std.specs.List.{filter}
use Rattle.std.proofs.lemmas.Bool.{cases_lt, eqb-true, and_parts, leb-true}
use Rattle.sj_lang.specs.FileAt.{FileAt}
use Rattle.sj_rules.specs.Limits.{limit_of_conns, limit_of_messages}
use Rattle.sj_rules.specs.Record.{BodyAt, Carry, Fin, Claim, Signal, Ack, Give, Open, Mail}
use Rattle.sj_rules.specs.Rows.{Worked}
use Rattle.sj_rules.specs.Node.{ended, Play, NodeAt, arrives, acts, act_by}
use Rattle.sj_rules.proofs.ArrivalLemmas.{proper_comes, arrived_proper}
use Rattle.sj_rules.specs.Frames.{FrameAt, frames_for, is_within, is_proper}
use Rattle.sj_rules.specs.World.{WorldAt, Event, Act, Deliver, with_lane, after_event, delivery_of, happens}
use Rattle.sj_rules.specs.Within.{IsWithin}
use Rattle.sj_joined_lemmas.proofs.LateLemmas.{all_joined}
use Rattle.sj_rules_laws.proofs.WithinRowLemmas.{by_map}
use Rattle.sj_log.specs.Legible.{HasParty}
use Rattle.sj_legible_laws.proofs.LegibleParts.{BodyTold, MailsTold, FramesTold, NodeTold, WorkedTold, PlayTold, WorldTold}
use Rattle.sj_legible_laws.proofs.NodeLemmas.{TellsFew, comes_told}
use Rattle.sj_legible_laws.proofs.ActLemmas.{acts_told}

-- what a proper Signal reports as taken is a count
proper_tells : {P Q : Type 0} (file : FileAt) (Knows : Q → Type 0) (pick : ℕ → ℕ → ℕ) (m : NodeAt P Q) (all : NodeTold file Knows m) (origin : ℕ) (from : HasParty file origin) (n : ℕ) (b : BodyAt P)
    → is_within n b ≡ true → TellsFew file Knows pick m all origin from b
proper_tells file Knows pick m all origin from n (Carry to conn number taken msg) h = tt
proper_tells file Knows pick m all origin from n (Fin to conn number) h = tt
proper_tells file Knows pick m all origin from n (Claim of) h = tt
proper_tells file Knows pick m all origin from n (Signal to conn party taken) h =
    let low : taken ≤ 1000000 = leb-true taken limit_of_messages (and_parts (nat_le conn limit_of_conns && nat_lt party n) (nat_le taken limit_of_messages) h).1 in omega (arith, low)
proper_tells file Knows pick m all origin from n (Ack of conn) h = tt
proper_tells file Knows pick m all origin from n (Give e resend) h = tt
proper_tells file Knows pick m all origin from n (Open sess) h = tt

module _ (file : FileAt) where
  frames_told : {P : Type 0} → (to clock : ℕ) (posts : List (Mail P)) → MailsTold file posts → FramesTold file (frames_for to clock posts)
  frames_told to clock [] all = tt
  frames_told {P} to clock (m ∷ ms) all = by (to == m.party) (frames_told to clock ms all.1)
    where
      by : (b : Bool) → FramesTold file (frames_for to clock ms) → FramesTold file (map (λ x. record { clock = clock; body = x.body }) (cond b (m ∷ filter (λ x. to == x.party) ms) (filter (λ x. to == x.party) ms)))
      by true later = (all.0, later)
      by false later = later

  module _ {P Q : Type 0} (Knows : Q → Type 0) (play : Play P Q) (plays : PlayTold file Knows play) (n : ℕ) (parties : (p : ℕ) → p < n → HasParty file p) (few : n ≤ 16) where
    -- the world after an event at a party of the file
    event_told : (w : WorldAt P Q) (p clock : ℕ) (lanes : ℕ → ℕ → List (FrameAt P)) (done : Worked P (NodeAt P Q)) → p < n → WorldTold file Knows play n w
        → ((from to : ℕ) → FramesTold file (lanes from to)) → WorkedTold file Knows done → WorldTold file Knows play n (after_event w p clock lanes done)
    event_told w p clock lanes done lt all frames new = record {
      nodes = λ q. node q (q == p);
      frames = λ from to. lane from to (from == p);
      idle = λ q le. idle q le (q == p) refl;
    }
      where
        node : (q : ℕ) (b : Bool) → NodeTold file Knows (cond b (record done.state { clock = clock }) (w.nodes q))
        node q true = record { program = new.node.program; mains = new.node.mains; olds = new.node.olds; offers = new.node.offers }
        node q false = all.nodes q

        lane : (from to : ℕ) (b : Bool) → FramesTold file (cond b (lanes from to ++ frames_for to clock done.posts) (lanes from to))
        lane from to true = all_joined (λ f. BodyTold file f.body) (lanes from to) (frames_for to clock done.posts) (frames from to) (frames_told to clock done.posts new.posts)
        lane from to false = frames from to

        idle : (q : ℕ) → n ≤ q → (b : Bool) → (q == p) ≡ b → play.wants (cond b (record done.state { clock = clock }) (w.nodes q)).program ≡ ended
        idle q le true is = absurd (omega (arith, eqb-true q p is, le, lt))
        idle q le false is = all.idle q le

    -- a delivery
    delivery_told : (pick : ℕ → ℕ → ℕ) (w v : WorldAt P Q) (p q : ℕ) → IsWithin n w → WorldTold file Knows play n w → (l : List (FrameAt P)) → w.lanes q p ≡ l → delivery_of play pick w p q l ≡ Some v → WorldTold file Knows play n v
    delivery_told pick w v p q within all [] there h = cc
    delivery_told pick w v p q within all (f ∷ rest) there h =
        by_map (WorldTold file Knows play n) (after_event w p (max (w.nodes p).clock f.clock + 1) (with_lane q p rest w.lanes)) (arrives play.blank play.parties pick (w.nodes p) q f) v h (λ done k.
        let own : FramesTold file (f ∷ rest) = subst (FramesTold file) there (all.frames q p) in
        let from : HasParty file q = parties q (below_from (cases_lt q n)) in
        let proper : is_proper play.parties f ≡ true = arrived_proper play.blank play.parties pick (w.nodes p) q f done k in
        event_told w p (max (w.nodes p).clock f.clock + 1) (with_lane q p rest w.lanes) done (below_to (cases_lt p n)) all
        (λ from to. popped from to ((from == q) && (to == p)) own.1)
        (comes_told file Knows pick (w.nodes p) (all.nodes p) q from play.blank f.body done own.0
        (proper_tells file Knows pick (w.nodes p) (all.nodes p) q from play.parties f.body (and_parts _ _ proper).1)
        (sym (proper_comes play.blank play.parties pick (w.nodes p) q f proper) ∙ k)))
      where
        filled : w.lanes q p ≡ [] → ⊥
        filled none = let clash : [] ≡ f ∷ rest = sym none ∙ there in cc

        below_to : (p < n) ⊎ (n ≤ p) → p < n
        below_to (inl lt) = lt
        below_to (inr le) = absurd (filled (within.outside q p (inr le)))

        below_from : (q < n) ⊎ (n ≤ q) → q < n
        below_from (inl lt) = lt
        below_from (inr le) = absurd (filled (within.outside q p (inl le)))

        popped : (from to : ℕ) (b : Bool) → FramesTold file rest → FramesTold file (cond b rest (w.lanes from to))
        popped from to true own = own
        popped from to false own = all.frames from to

    -- a party that acts is one of the file
    pub acting_below : (w : WorldAt P Q) (p : ℕ) (done : Worked P (NodeAt P Q)) → WorldTold file Knows play n w → acts play p (w.nodes p) ≡ Some done → p < n
    acting_below w p done all h = by_place (cases_lt p n)
      where
        by : play.wants (w.nodes p).program ≡ ended → (b : Bool) → cond b None (act_by play p (w.nodes p) (play.wants (w.nodes p).program)) ≡ Some done → ⊥
        by want true k = cc
        by want false k = let none : None ≡ Some done = sym (ap (act_by play p (w.nodes p)) want) ∙ k in cc

        by_place : (p < n) ⊎ (n ≤ p) → p < n
        by_place (inl lt) = lt
        by_place (inr le) = absurd (by (all.idle p le) (play.is_worn (w.nodes p).program) h)

    pub happens_told : (pick : ℕ → ℕ → ℕ) (w v : WorldAt P Q) (p : ℕ) (event : Event) → IsWithin n w → WorldTold file Knows play n w → happens play pick w p event ≡ Some v → WorldTold file Knows play n v
    happens_told pick w v p Act within all h =
        by_map (WorldTold file Knows play n) (after_event w p ((w.nodes p).clock + 1) w.lanes) (acts play p (w.nodes p)) v h (λ done k.
        let lt = acting_below w p done all k in
        event_told w p ((w.nodes p).clock + 1) w.lanes done lt all all.frames
        (acts_told file Knows play plays p (w.nodes p) (all.nodes p) (parties p lt) (omega (arith, lt, few)) done k))
    happens_told pick w v p (Deliver q) within all h = delivery_told pick w v p q within all (w.lanes q p) refl h
