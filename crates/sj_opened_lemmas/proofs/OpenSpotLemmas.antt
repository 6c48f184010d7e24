-- Each end lies once, in an Open too, where it does so in the world read as if each Open had been
-- delivered.
use Rattle.std.proofs.Common.{◌≡◌, ℕ, ◌≤◌, List, [], ◌∷◌, length, refl, sym, ap, subst, ◌∙◌, inl, inr}
use Rattle.std.specs.Prelude.{Bool, true, false, not, ◌⊎◌, if◌then◌else◌, Contains, Option, Some, None}
use Rattle.sj_base.specs.declared.EndId.{EndId}
use Rattle.sj_rules.specs.Record.{BodyAt, MainAt, Held, Expected}
use Rattle.sj_rules.specs.Opened.{opener_of, new_held, is_open, opens}
use Rattle.sj_rules.specs.Frames.{FrameAt}
use Rattle.sj_rules.specs.World.{WorldAt}
use Rattle.sj_rules.specs.Shown.{bodies, is_give}
use Rattle.sj_rules.specs.Spots.{Spot, at_main, at_old, on_way, in_open, HasMain, LiesAt, LiesOnce}
use Rattle.sj_rules.specs.Reading.{is_opening, without_opens, reading, OpensLead}
use Rattle.sj_world_lemmas.proofs.ToldLemmas.{Has, contains_has, has_contains, has_filter, has_kept}
use Rattle.sj_opened_lemmas.proofs.LaneReadLemmas.{front_opens}
use Rattle.sj_opened_lemmas.proofs.WorldReadLemmas.{AreBare}
use Rattle.sj_opened_lemmas.proofs.OfferLemmas.{open_there, open_seen, few_opens}
use Rattle.sj_opened_lemmas.proofs.OpenStandsLemmas.{filter_without}

-- a lane has the Gives of an end where it has them without its Opens, too
pub gives_read : {P : Type 0} → (e : EndId) (fs : List (FrameAt P)) (b : BodyAt P) → Contains (bodies fs) b → is_give e b ≡ true → Contains (bodies (without_opens fs)) b
gives_read e fs b there is =
    let kept = subst (Has b) (filter_without (is_give e) (λ s. refl) fs) (has_kept (is_give e) b (bodies fs) (contains_has b (bodies fs) there) is) in
    has_contains b (bodies (without_opens fs)) (has_filter (is_give e) b (bodies (without_opens fs)) kept)

-- and the other way
gives_seen : {P : Type 0} → (e : EndId) (fs : List (FrameAt P)) (b : BodyAt P) → Contains (bodies (without_opens fs)) b → is_give e b ≡ true → Contains (bodies fs) b
gives_seen e fs b there is =
    let lane = bodies (without_opens fs) in
    let kept = subst (Has b) (sym (filter_without (is_give e) (λ s. refl) fs)) (has_kept (is_give e) b lane (contains_has b lane there) is) in
    has_contains b (bodies fs) (has_filter (is_give e) b (bodies fs) kept)

-- without Opens no end is in one
pub no_opens : {P : Type 0} → (e : EndId) (fs : List (FrameAt P)) → opens e (bodies (without_opens fs)) ≡ false
no_opens e [] = refl
no_opens {P} e (f ∷ fs) = by (is_open f.body) refl (no_opens e fs)
  where
    by : (b : Bool) → is_open f.body ≡ b → opens e (bodies (without_opens fs)) ≡ false → opens e (bodies (if not b then f ∷ without_opens fs else without_opens fs)) ≡ false
    by true o rest = rest
    by false o rest = front_opens e f (without_opens fs) o ∙ rest

-- an end that is read at a party is in its Open there, in the lane of its opener, or at its record
abbrev spot_there : (opening : Bool) → (opener p : ℕ) → Option Spot
spot_there true opener p = Some (in_open opener p)
spot_there false opener p = Some (at_main p)

module _ {P Q : Type 0} (blank : P) (w : WorldAt P Q) (bare : AreBare w) (lead : (from to : ℕ) → OpensLead (bodies (w.lanes from to))) (e : EndId)
    (own : (from to : ℕ) → opens e (bodies (w.lanes from to)) ≡ true → opener_of e.sess ≡ from) where
  abbrev spot_read : Option Spot → Option Spot
  spot_read (Some (at_main p)) = spot_there (is_opening w p e) (opener_of e.sess) p
  spot_read (Some (at_old p)) = Some (at_old p)
  spot_read (Some (on_way from to)) = Some (on_way from to)
  spot_read (Some (in_open from to)) = Some (in_open from to)
  spot_read None = None

  -- a record at a party that isn't awaiting an Open is read as it is
  main_read : (p : ℕ) → is_opening w p e ≡ false → ((reading blank w).nodes p).main e ≡ (w.nodes p).main e
  main_read p i = rw i refl

  not_opening : (p : ℕ) (r : MainAt P) → (w.nodes p).main e ≡ Some r → is_opening w p e ≡ false
  not_opening p r there = by (is_opening w p e) refl
    where
      by : (b : Bool) → is_opening w p e ≡ b → is_opening w p e ≡ false
      by false i = i
      by true i = absurd (cc (bare p e i, there))

  has_some : (o : Option (MainAt P)) → HasMain o → (r : MainAt P) × (o ≡ Some r)
  has_some None h = absurd h
  has_some (Some r) h = (r, refl)

  module _ (once : LiesOnce (reading blank w) e) where
    lies_to : (at : Spot) → LiesAt w e at → spot_read once.spot ≡ Some at
    lies_to (at_main p) l =
        let r : (r : MainAt P) × ((w.nodes p).main e ≡ Some r) = has_some ((w.nodes p).main e) l in
        let closed : is_opening w p e ≡ false = not_opening p r.0 r.1 in
        ap spot_read ((once.lies (at_main p)).0 (subst HasMain (sym (main_read p closed)) l)) ∙ ap (λ b. spot_there b (opener_of e.sess) p) closed
    lies_to (at_old p) l = ap spot_read ((once.lies (at_old p)).0 l)
    lies_to (on_way from to) l = ap spot_read ((once.lies (on_way from to)).0 (l.0, gives_read e (w.lanes from to) l.0 l.1 l.2, l.2))
    lies_to (in_open from p) l =
        let here : opens e (bodies (w.lanes from p)) ≡ true = open_there e (bodies (w.lanes from p)) l.0 l.1 l.2 in
        let opener : opener_of e.sess ≡ from = own from p here in
        let o : is_opening w p e ≡ true = ap (λ n. opens e (bodies (w.lanes n p))) opener ∙ here in
        let main : ((reading blank w).nodes p).main e ≡ Some (Held (new_held e blank (opener_of e.sess))) = rw o refl in
        ap spot_read ((once.lies (at_main p)).0 (subst HasMain (sym main) tt)) ∙ ap (λ b. spot_there b (opener_of e.sess) p) o ∙ ap (λ n. Some (in_open n p)) opener

    some_is : (a b : Spot) → Some a ≡ Some b → a ≡ b
    some_is a b i = cc i

    lies_from : (at : Spot) (s : Option Spot) → once.spot ≡ s → spot_read s ≡ Some at → LiesAt w e at
    lies_from at None i j = absurd (cc j)
    lies_from at (Some (at_main p)) i j = by (is_opening w p e) refl j
      where
        by : (b : Bool) → is_opening w p e ≡ b → spot_there b (opener_of e.sess) p ≡ Some at → LiesAt w e at
        by true o k = subst (LiesAt w e) (some_is (in_open (opener_of e.sess) p) at k) (open_seen e (bodies (w.lanes (opener_of e.sess) p)) (lead (opener_of e.sess) p) o)
        by false o k = subst (LiesAt w e) (some_is (at_main p) at k) (subst HasMain (main_read p o) ((once.lies (at_main p)).1 i))
    lies_from at (Some (at_old p)) i j = subst (LiesAt w e) (some_is (at_old p) at j) ((once.lies (at_old p)).1 i)
    lies_from at (Some (on_way from to)) i j =
        let l = (once.lies (on_way from to)).1 i in
        subst (LiesAt w e) (some_is (on_way from to) at j) (l.0, gives_seen e (w.lanes from to) l.0 l.1 l.2, l.2)
    lies_from at (Some (in_open from to)) i j =
        let l = (once.lies (in_open from to)).1 i in
        let o : opens e (bodies (without_opens (w.lanes from to))) ≡ true = open_there e (bodies (without_opens (w.lanes from to))) l.0 l.1 l.2 in
        absurd (cc (no_opens e (w.lanes from to), o))

    -- it lies once
    pub lies_once_read : LiesOnce w e
    lies_once_read = record {
      spot = spot_read once.spot;
      lies = λ at. (lies_to at, lies_from at once.spot refl);
      one_give = λ from to. subst (λ l. length l ≤ 1) (sym (filter_without (is_give e) (λ s. refl) (w.lanes from to))) (once.one_give from to);
      one_open = λ from to. few_opens e (bodies (w.lanes from to)) (lead from to);
      awaiter = once.awaiter;
      awaits = λ p keeper place late there.
          let closed : is_opening w p e ≡ false = not_opening p (Expected keeper place late) there in
          let a : (once.awaiter ≡ Some p) × ((once.spot ≡ Some (at_old keeper)) ⊎ (once.spot ≡ Some (on_way keeper p))) = once.awaits p keeper place late (main_read p closed ∙ there) in
          (a.0, by p keeper a.1);
    }
      where
        by : (p keeper : ℕ) → (once.spot ≡ Some (at_old keeper)) ⊎ (once.spot ≡ Some (on_way keeper p)) → (spot_read once.spot ≡ Some (at_old keeper)) ⊎ (spot_read once.spot ≡ Some (on_way keeper p))
        by p keeper (inl i) = inl (ap spot_read i)
        by p keeper (inr i) = inr (ap spot_read i)
