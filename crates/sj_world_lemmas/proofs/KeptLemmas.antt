-- A delivery keeps the invariant.
use Rattle.std.proofs.Common.{◌≡◌, ℕ, ◌-◌, ◌<◌, List, ◌∷◌, refl, sym, subst, ◌∙◌, arith, inl, inr}
use Rattle.std.specs.Prelude.{Bool, true, false, ◌⊎◌, ◌==◌, Some}
use Rattle.std.proofs.lemmas.Bool.{eqb-true, eqb-false}
use Rattle.sj_base.specs.declared.EndId.{EndId}
use Rattle.sj_rules.specs.Record.{other_end}
use Rattle.sj_rules.specs.Opened.{is_open}
use Rattle.sj_rules.specs.Node.{Play}
use Rattle.sj_rules.specs.Frames.{FrameAt, is_proper}
use Rattle.sj_rules.specs.World.{WorldAt, Deliver, happens}
use Rattle.sj_rules.specs.PlainSide.{PlainAt}
use Rattle.sj_rules.specs.Linked.{subject_of, IsKept, IsParkedAt, end_named}
use Rattle.sj_world_lemmas.proofs.OutcomeLemmas.{Goes, goes_on, end_is}
use Rattle.sj_world_lemmas.proofs.HandoverLaws.{DeliveryLaws}
use Rattle.sj_world_lemmas.proofs.EventLemmas.{Delivered, IsAlike}
use Rattle.sj_world_lemmas.proofs.FrontLemmas.{front_fits}

-- an end of this session is this end or the other
pub one_of_two : (d id : EndId) (k : Bool) → d.side < 2 → id.side < 2 → d.sess ≡ id.sess → (d.side == id.side) ≡ k → (d ≡ id) ⊎ (d ≡ other_end id)
one_of_two d id true i j e s = inl (sym (end_is d id.sess id.side e (eqb-true d.side id.side s)))
one_of_two d id false i j e s =
    let n : d.side ≡ id.side → ⊥ = eqb-false d.side id.side s in
    let o : d.side ≡ 1 - id.side = omega (arith, i, j, n) in
    inr (sym (end_is d id.sess (1 - id.side) e o))

-- what is said of the two ends of a session, and of all others
pub by_session : (Is : EndId → Type 0) (id : EndId) → id.side < 2 → Is id → Is (other_end id) → ((d : EndId) → (d.sess == id.sess) ≡ false → Is d) → (d : EndId) → d.side < 2 → Is d
by_session Is id low here there away d below = by (d.sess == id.sess) refl
  where
    either : (d ≡ id) ⊎ (d ≡ other_end id) → Is d
    either (inl e) = subst Is (sym e) here
    either (inr e) = subst Is (sym e) there

    by : (k : Bool) → (d.sess == id.sess) ≡ k → Is d
    by true e = either (one_of_two d id (d.side == id.side) below low (eqb-true d.sess id.sess e) refl)
    by false e = away d e

module _ {P Q : Type 0} (IsOver : P → Type 0) (binds : Q → EndId → Bool) (play : Play P Q) (pick : ℕ → ℕ → ℕ) (w : WorldAt P Q) (plain : PlainAt P Q) (kept : IsKept IsOver binds w plain) where
  -- the world after a delivery is kept
  pub delivered_kept : (q at : ℕ) (id : EndId) → id.side < 2 →
      (d : Delivered IsOver play pick w q at id (plain.sides (other_end id)) (plain.sides id) (kept.sessions.sides (other_end id)).seat (kept.sessions.sides id).seat) → IsKept IsOver binds d.to plain
  delivered_kept q at id low d =
      let goes : Goes IsOver w d.to plain.sides plain.sides kept.sessions id d.other d.side = goes_on IsOver w d.to plain.sides plain.sides kept.sessions id d.pace d.other d.side low d.outcome (λ e i. refl) in
      let alike : (e : EndId) → e.side < 2 → IsAlike (kept.sessions.sides e).seat (goes.after.sides e).seat =
      by_session (λ e. IsAlike (kept.sessions.sides e).seat (goes.after.sides e).seat) id low
      (subst (λ z. IsAlike (kept.sessions.sides id).seat z.seat) (sym goes.here) d.alike)
      (subst (λ z. IsAlike (kept.sessions.sides (other_end id)).seat z.seat) (sym goes.there) d.other_alike)
      (λ e i. subst (λ z. IsAlike (kept.sessions.sides e).seat z.seat) (sym (goes.away e i)) (refl, λ keeper. (λ u. u, λ u. u))) in
      record {
        sessions = goes.after;
        linked = record {
          parks = λ e n sess side keeper i waits.
              let old : (side < 2) × IsParkedAt keeper (kept.sessions.sides (end_named sess side)).seat = kept.linked.parks e n sess side keeper i waits in
              (old.0, ((alike (end_named sess side) old.0).1 keeper).0 old.1);
          named = λ e keeper i parks. kept.linked.named e keeper i (((alike e i).1 keeper).1 parks);
          once = kept.linked.once;
        };
        programs = λ p. d.programs p ∙ kept.programs p;
        bound = λ p e i o. (
          λ b. (alike e i).0 ∙ (kept.bound p e i o).0 b,
          λ u. (kept.bound p e i o).1 (sym (alike e i).0 ∙ u),
        );
      }

  -- every front frame within the limits fits a row, and the world stays kept
  pub delivery_keeps : ((e : EndId) → e.side < 2 → DeliveryLaws IsOver pick (plain.sides (other_end e)) (plain.sides e)) →
      (q at : ℕ) (f : FrameAt P) (rest : List (FrameAt P)) → w.lanes q at ≡ f ∷ rest → is_open f.body ≡ false → is_proper play.parties f ≡ true →
      (v : WorldAt P Q) × (happens play pick w at (Deliver q) ≡ Some v) × IsKept IsOver binds v plain
  delivery_keeps laws q at f rest front plain_frame proper =
      let d : ((subject_of f.body).side < 2) × Delivered IsOver play pick w q at (subject_of f.body) (plain.sides (other_end (subject_of f.body))) (plain.sides (subject_of f.body)) (kept.sessions.sides (other_end (subject_of f.body))).seat (kept.sessions.sides (subject_of f.body)).seat =
      front_fits IsOver play pick w plain.sides kept.sessions laws q at f rest front plain_frame in
      (d.1.to, d.1.step f rest front proper, delivered_kept q at (subject_of f.body) d.0 d.1)
