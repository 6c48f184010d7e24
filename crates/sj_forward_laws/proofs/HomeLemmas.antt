-- The ends of a session that was opened have their first records at their homes, or the second
-- one's Open is on its way there.
use Rattle.std.proofs.Common.{◌≡◌, ℕ, zero, suc, ◌+◌, ◌<◌, ◌==◌, Bool, true, false, not, cond, List, [], ◌∷◌, ◌++◌, length, slice_get, slice_index_or, Option, Some, None, is_some, refl, ap, sym, ◌∙◌, subst, arith, append-nil, append_assoc, inl, inr, ◌⊎◌}
use Rattle.std.specs.Prelude.{Contains}
use Rattle.std.specs.List.{AllByRecursion}
use Rattle.std.proofs.lemmas.Bool.{and_from, eq-eqb}
use Rattle.std.proofs.lemmas.List.Elements.{Contains-append_cases}
use Rattle.sj_lang.specs.FileAt.{FileAt}
use Rattle.sj_acceptance.specs.Accepted.{IsAccepted}
use Rattle.sj_semantics.specs.Program.{Program}
use Rattle.sj_semantics.specs.Requests.{Request, is_offered, opened_number}
use Rattle.sj_semantics.specs.Run.{IsRun, after_acts}
use Rattle.sj_semantics.specs.World.{World, start_of}
use Rattle.sj_semantics_laws.proofs.ChangeLemmas.{rests_on}
use Rattle.sj_semantics_laws.proofs.CommuteLemmas.{doing_of}
use Rattle.sj_rules.specs.Events.{acts_by, acts_in}
use Rattle.sj_rules.specs.Party.{IsDone as IsOver, binds, play_of}
use Rattle.sj_rules.specs.Plain.{offered_from, plain_at}
use Rattle.sj_rules.specs.Record.{offered_end, requested_end}
use Rattle.sj_rules.specs.World.{Act, Deliver, Event, Turn}
use Rattle.sj_opened_lemmas.proofs.OfferLemmas.{contains_later}
use Rattle.sj_opened_lemmas.proofs.OpenKeepLemmas.{contains_first}
use Rattle.sj_rules_laws.proofs.TiedLemmas.{act_between}
use Rattle.sj_forward_rules.specs.Node.{HasRecord}
use Rattle.sj_forward_rules.specs.Record.{Claim, FrameAt, Held, In, Open, Out, RecordAt, opened_in}
use Rattle.sj_forward_rules.specs.World.{WorldAt, happens, Run}
use Rattle.sj_forward_laws.specs.Kept.{IsHeldRecord, IsOpenKept}
use Rattle.sj_forward_laws.specs.Layout.{HasHomes}
use Rattle.sj_forward_laws.specs.Roads.{Chains, IsOnRoad}
use Rattle.sj_forward_laws.proofs.RunLemmas.{StandsAfter, run_stands}
use Rattle.sj_forward_laws.proofs.OpenedRecords.{HaveRecords, still_have}
use Rattle.sj_forward_laws.proofs.OpenedActs.{by_want}

-- ---- lists

all_contains : {X : Type 0} (A : X → Type 0) (xs : List X) (x : X) → AllByRecursion A xs → Contains xs x → A x
all_contains A xs x all c = by xs c.0 all c.1 c.2
  where
    by : (ys : List _) (k : ℕ) → AllByRecursion A ys → k < length ys → slice_index_or ys k x ≡ x → A x
    by [] k all lt e = absurd (omega arith)
    by (y ∷ ys) zero all lt e = subst A e all.0
    by (y ∷ ys) (suc k) all lt e = by ys k all.1 (omega (arith, lt)) e

-- a request that wasn't accepted is offered
offered_there : (q p j : ℕ) (rs : List Request) (k : ℕ) (r : Request) → slice_get rs k ≡ Some r → is_offered q r ≡ true → Contains (offered_from q p j rs) (opened_number p (j + k))
offered_there q p j [] k r at h = cc
offered_there q p j (x ∷ rs) zero r at h =
    let it : x ≡ r = cc in
    let here : is_offered q x ≡ true = ap (is_offered q) it ∙ h in
    let number : j ≡ j + 0 = omega arith in
    subst (λ (l : List ℕ). Contains l (opened_number p (j + 0))) (sym (ap (λ (b : Bool). cond b (opened_number p j ∷ offered_from q p (j + 1) rs) (offered_from q p (j + 1) rs)) here))
    (subst (λ (i : ℕ). Contains (opened_number p j ∷ offered_from q p (j + 1) rs) (opened_number p i)) number (contains_first (opened_number p j) (offered_from q p (j + 1) rs)))
offered_there q p j (x ∷ rs) (suc k) r at h =
    let number : j + 1 + k ≡ j + suc k = omega arith in
    let rest = subst (λ (i : ℕ). Contains (offered_from q p (j + 1) rs) (opened_number p i)) number (offered_there q p (j + 1) rs k r at h) in
    by (is_offered q x) rest
  where
    by : (b : Bool) → Contains (offered_from q p (j + 1) rs) (opened_number p (j + suc k)) → Contains (cond b (opened_number p j ∷ offered_from q p (j + 1) rs) (offered_from q p (j + 1) rs)) (opened_number p (j + suc k))
    by true rest = contains_later (opened_number p j) (offered_from q p (j + 1) rs) (opened_number p (j + suc k)) rest
    by false rest = rest

to_it_offered : (r : Request) → r.second ≡ None → is_offered r.to r ≡ true
to_it_offered r none = and_from (r.to == r.to) (not (is_some r.second)) (eq-eqb r.to r.to refl) (ap (λ (o : Option ℕ). not (is_some o)) none)

-- ---- runs

one_plain : (v u : World) → ◌≡◌ {A = Option World} (Some v) (Some u) → v ≡ u
one_plain v u e = cc

module _ (file : FileAt) (accepted : IsAccepted file) where
  event_has : (w after : WorldAt Program) (ps : List ℕ) (t : Turn) (s : StandsAfter file ps w) → happens (play_of file) w t.party t.event ≡ Some after → HaveRecords w s.plain
      → (next : StandsAfter file (ps ++ acts_in (t ∷ [])) after) → HaveRecords after next.plain
  event_has w after ps t s happened have next = by t.event refl happened next
    where
      p : ℕ
      p = t.party

      by : (event : Event) → t.event ≡ event → happens (play_of file) w t.party event ≡ Some after → (next : StandsAfter file (ps ++ acts_in (record { party = t.party; event = event } ∷ [])) after) → HaveRecords after next.plain
      by (Deliver q) is h next =
          let same : next.plain ≡ s.plain = one_plain next.plain s.plain (sym next.run ∙ ap (after_acts (start_of file)) (append-nil ps) ∙ s.run) in
          subst (HaveRecords after) (sym same) (still_have file w after t.party (Deliver q) h s.plain have)
      by Act is h next =
          let acted = act_between file ps s.plain next.plain t.party s.run next.run in
          let a = doing_of s.plain t.party next.plain acted in
          let r = rests_on s.plain t.party a.program a.change a.made in
          subst (HaveRecords after) a.result (by_want file w after s.plain t.party s.kept have h a.program a.there a.change r.want r.wants_it r.by_it)

  -- after a run too
  pub run_has : (w last : WorldAt Program) (ps : List ℕ) (turns : List Turn) (s : StandsAfter file ps w) → HaveRecords w s.plain → Run (play_of file) w turns last → (v : World) → IsRun file (ps ++ acts_in turns) v → HaveRecords last v
  run_has w last ps [] s have run v plain_run =
      let same : s.plain ≡ v = one_plain s.plain v (sym s.run ∙ ap (after_acts (start_of file)) (sym (append-nil ps)) ∙ plain_run) in
      subst (λ (u : WorldAt Program). HaveRecords u v) run (subst (HaveRecords w) same have)
  run_has w last ps (t ∷ ts) s have run v plain_run =
      let next = run_stands file accepted w run.0 ps (t ∷ []) s (run.0, run.1, refl) in
      let all : (ps ++ acts_in (t ∷ [])) ++ acts_in ts ≡ ps ++ acts_in (t ∷ ts) =
      append_assoc ps (acts_in (t ∷ [])) (acts_in ts) ∙ ap (λ (l : List ℕ). ps ++ (l ++ acts_in ts)) (append-nil (acts_by t.event t.party)) in
      run_has run.0 last (ps ++ acts_in (t ∷ [])) ts next (event_has w run.0 ps t s run.1 have next) run.2 v (ap (after_acts (start_of file)) all ∙ plain_run)

-- ---- where the ends are at home

opens_lead : (c : Chains) (from to : ℕ) (fs : List FrameAt) → AllByRecursion (IsOnRoad c from to) fs → AllByRecursion (λ s. c.at (offered_end s) 0 ≡ to) (opened_in fs)
opens_lead c from to [] all = tt
opens_lead c from to (Open sess ∷ fs) all = (all.0.goal, opens_lead c from to fs all.1)
opens_lead c from to (In e h m ∷ fs) all = opens_lead c from to fs all.1
opens_lead c from to (Out e h m ∷ fs) all = opens_lead c from to fs all.1
opens_lead c from to (Claim e h ∷ fs) all = opens_lead c from to fs all.1

held_record : (o : Option RecordAt) → IsHeldRecord o → (r : RecordAt) × (o ≡ Some r)
held_record o h = (record { behind = h.0; state = Held h.1 }, h.2)

-- each session that was opened
pub opened_at_home : (file : FileAt) (w : WorldAt Program) (plain : World) → (kept : IsOpenKept IsOver binds (length file.parties) w (plain_at plain)) → HaveRecords w plain
    → (p k : ℕ) (r : Request) → slice_get (plain.requests p) k ≡ Some r → HasHomes w kept.kept.chains (opened_number p k) p r.to
opened_at_home file w plain kept have p k r at =
    let joined = kept.kept.joined in
    let s : ℕ = opened_number p k in
    let first = have.first p k r at in
    let comes = comes_by r.second refl in
    record {
      first = (joined.alone (requested_end s) 0 p first.0 (omega arith) first.1).1;
      second = elim comes [
        | inl has ↦ (joined.alone (offered_end s) 0 r.to has.0 (omega arith) has.1).1
        | inr on ↦ all_contains (λ t. kept.kept.chains.at (offered_end t) 0 ≡ r.to) (opened_in (w.lanes p r.to)) s (opens_lead kept.kept.chains p r.to (w.lanes p r.to) (joined.lanes p r.to)) on
      ];
      there = first;
      comes = comes;
    }
  where
    comes_by : (o : Option ℕ) → r.second ≡ o → HasRecord (w.nodes r.to) (offered_end (opened_number p k)) 0 ⊎ Contains (opened_in (w.lanes p r.to)) (opened_number p k)
    comes_by (Some y) is = inl (have.second p k y r at is)
    comes_by None is =
        let number : 0 + k ≡ k = omega arith in
        let offered = subst (λ (l : List ℕ). Contains l (opened_number p k)) (sym (kept.offers p r.to))
        (subst (λ (i : ℕ). Contains (offered_from r.to p 0 (plain.requests p)) (opened_number p i)) number (offered_there r.to p 0 (plain.requests p) k r at (to_it_offered r is))) in
        elim (Contains-append_cases ((w.nodes r.to).offers p) (opened_in (w.lanes p r.to)) (opened_number p k) offered) [
          | inl here ↦
              inl (held_record ((w.nodes r.to).records (offered_end (opened_number p k)) 0)
              (all_contains (λ t. IsHeldRecord ((w.nodes r.to).records (offered_end t) 0)) ((w.nodes r.to).offers p) (opened_number p k) (kept.held p r.to) here))
          | inr on ↦ inr on
        ]
