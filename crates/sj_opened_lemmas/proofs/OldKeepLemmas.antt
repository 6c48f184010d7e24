-- A frame that is no Open comes: the invariant of the world with Opens stays.
use Rattle.std.proofs.Common.{◌≡◌, ℕ, ◌<◌, List, ◌∷◌, refl, sym, ap, subst, ◌∙◌, arith, inl, inr}
use Rattle.std.specs.Prelude.{Bool, true, false, ◌⊎◌, ◌||◌, Option, Some}
use Rattle.std.proofs.lemmas.Bool.{eq-eqb}
use Rattle.sj_base.specs.declared.EndId.{EndId}
use Rattle.sj_rules.specs.Record.{EndAt, BodyAt, Carry, Fin, Claim, Signal, Ack, Give, Open, HeldAt, Held, other_end}
use Rattle.sj_rules.specs.Opened.{opener_of, new_held, is_open, is_open_of, opens}
use Rattle.sj_rules.specs.Frames.{FrameAt}
use Rattle.sj_rules.specs.World.{WorldAt}
use Rattle.sj_rules.specs.Seat.{Seat, held, claimed, given, Side, source_for}
use Rattle.sj_rules.specs.Shown.{bodies}
use Rattle.sj_rules.specs.Numbers.{Pace, level, NumbersFit}
use Rattle.sj_rules.specs.PlainSide.{PlainAt}
use Rattle.sj_rules.specs.Linked.{IsKept, subject_of}
use Rattle.sj_rules.specs.Reading.{is_opening, without_opens, reading, OpensLead, IsOpenKept}
use Rattle.sj_world_lemmas.proofs.SeenLemmas.{IsSeenAs, seen_sessions, Here, here_held}
use Rattle.sj_world_lemmas.proofs.SwapLemmas.{source_is_peer}
use Rattle.sj_world_lemmas.proofs.EventLemmas.{number_of, goes_under, same_end}
use Rattle.sj_world_lemmas.proofs.PopLemmas.{IsStream}
use Rattle.sj_world_lemmas.proofs.FoundLemmas.{Found, in_live, in_old, found, claim_found, give_found}

-- where two worlds look the same, the one is kept where the other is
pub kept_like : {P Q : Type 0} → (IsOver : P → Type 0) (binds : Q → EndId → Bool) (v w : WorldAt P Q) (plain : PlainAt P Q) → IsSeenAs v w → ((p : ℕ) → (v.nodes p).program ≡ (w.nodes p).program) → IsKept IsOver binds w plain → IsKept IsOver binds v plain
kept_like IsOver binds v w plain seen programs kept = record {
  sessions = seen_sessions v w seen IsOver plain.sides kept.sessions;
  linked = kept.linked;
  programs = λ p. programs p ∙ kept.programs p;
  bound = kept.bound;
}

-- a frame that is no Open, by its kind
plain_kind : {P : Type 0} → (b : BodyAt P) → is_open b ≡ false → IsStream b ⊎ ((d : EndId) × (b ≡ Claim d)) ⊎ ((e : EndAt P) × (resend : Option ℕ) × (b ≡ Give e resend))
plain_kind (Carry to conn number taken msg) o = inl tt
plain_kind (Fin to conn number) o = inl tt
plain_kind (Claim of) o = inr (inl (of, refl))
plain_kind (Signal to conn party taken) o = inl tt
plain_kind (Ack of conn) o = inl tt
plain_kind (Give e resend) o = inr (inr (e, resend, refl))
plain_kind (Open sess) o = absurd (cc o)

-- beside a Held end under number 0 the numbers are level
held_level : {P : Type 0} → (pace : Pace) (s : Seat P) (p : ℕ) (h : HeldAt P) → h.end.conn ≡ 0 → NumbersFit pace s (held p h) → pace ≡ level
held_level level s p h z n = refl
held_level pace s p h z n = grind arith

module _ {P Q : Type 0} (IsOver : P → Type 0) (binds : Q → EndId → Bool) (blank : P) (w : WorldAt P Q) (plain : PlainAt P Q) (kept : IsOpenKept IsOver binds blank w plain) where
  -- the front frame of a lane is about no end in an Open: that stands in the same lane, and before
  -- the frame
  pub front_apart : (q p : ℕ) (f : FrameAt P) (rest : List (FrameAt P)) → w.lanes q p ≡ f ∷ rest → (reading blank w).lanes q p ≡ f ∷ without_opens rest → is_open f.body ≡ false → (subject_of f.body).side < 2 →
      is_opening w p (subject_of f.body) ≡ false
  front_apart q p f rest front ufront plain_frame low = by (is_opening w p id) refl
    where
      id : EndId
      id = subject_of f.body

      by : (b : Bool) → is_opening w p id ≡ b → is_opening w p id ≡ false
      by false i = i
      by true i = absurd (cc (there, none))
        where
          h : HeldAt P
          h = new_held id blank (opener_of id.sess)

          main : ((reading blank w).nodes p).main id ≡ Some (Held h)
          main = rw i refl

          s : Side P
          s = kept.kept.sessions.sides (other_end id)

          r : Side P
          r = kept.kept.sessions.sides id

          here : Here IsOver (reading blank w) (plain.sides (other_end id)) (plain.sides id) s r id (held p h)
          here = here_held IsOver (reading blank w) plain.sides kept.kept.sessions id low p h main

          leveled : NumbersFit level s.seat (held p h)
          leveled = subst (λ z. NumbersFit z s.seat (held p h)) (held_level here.pace s.seat p h refl here.sound.numbers) here.sound.numbers

          source : source_for s.seat (held p h) ≡ opener_of id.sess
          source = source_is_peer s.seat (held p h) tt leveled

          from_found : Found s.seat (held p h) r.old r.live q p (number_of f.body) f.body → q ≡ opener_of id.sess
          from_found (in_live left qi ai ci li) = qi ∙ source
          from_found (in_old a t e ds left si qi ai ci li) = absurd (cc si)

          from : IsStream f.body ⊎ ((d : EndId) × (f.body ≡ Claim d)) ⊎ ((e : EndAt P) × (resend : Option ℕ) × (f.body ≡ Give e resend)) → q ≡ opener_of id.sess
          from (inl stream) = from_found (found (reading blank w) s.seat id r.place (held p h) r.old r.live here.shows q p f (without_opens rest) ufront (number_of f.body) (goes_under f.body stream (number_of f.body) ∙ eq-eqb (number_of f.body) (number_of f.body) refl))
          from (inr (inl l)) =
              let of : l.0 ≡ id = sym (ap subject_of l.1) in
              let z : (b : ℕ) × (u : ℕ) × (e : EndAt P) × (held p h ≡ claimed b u e) × (q ≡ u) × (p ≡ b) = claim_found (reading blank w) s.seat id r.place (held p h) r.old r.live here.shows q p f (without_opens rest) ufront (rw (l.1, of) (same_end id)) in
              absurd (cc z.3)
          from (inr (inr l)) =
              let of : l.0.id ≡ id = sym (ap subject_of l.2) in
              let z : (b : ℕ) × (u : ℕ) × (e : EndAt P) × (resend : Option ℕ) × (ds : List (BodyAt P)) × (held p h ≡ given b u e resend ds) × (q ≡ b) × (p ≡ u) × (f.body ≡ Give e resend) = give_found (reading blank w) s.seat id r.place (held p h) r.old r.live here.shows q p f (without_opens rest) ufront (rw (l.2, of) (same_end id)) in
              absurd (cc z.5)

          lane : opens id (bodies (w.lanes q p)) ≡ true
          lane = ap (λ n. opens id (bodies (w.lanes n p))) (from (plain_kind f.body plain_frame)) ∙ i

          none : opens id (bodies rest) ≡ false
          none = (subst OpensLead (ap bodies front) (kept.lead q p)).0

          no_open : (b : BodyAt P) → is_open b ≡ false → is_open_of id b ≡ false
          no_open (Carry to conn number taken msg) o = refl
          no_open (Fin to conn number) o = refl
          no_open (Claim of) o = refl
          no_open (Signal to conn party taken) o = refl
          no_open (Ack of conn) o = refl
          no_open (Give e resend) o = refl
          no_open (Open sess) o = absurd (cc o)

          there : opens id (bodies rest) ≡ true
          there = sym (ap (λ b. b || opens id (bodies rest)) (no_open f.body plain_frame)) ∙ sym (ap (λ l. opens id (bodies l)) front) ∙ lane
