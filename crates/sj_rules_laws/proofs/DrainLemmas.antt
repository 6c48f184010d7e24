-- The events of a drain are determined, are a run, and leave nothing to do.
use Rattle.std.proofs.Common.{◌≡◌, ℕ, ◌+◌, List, [], ◌∷◌, ◌++◌, Some, None, option_map, refl, ap, sym, ◌∙◌, subst}
use Rattle.sj_rules.specs.Node.{Play, acts}
use Rattle.sj_rules.specs.World.{WorldAt, Act, Deliver, Turn, happens, after_event, delivery_of}
use Rattle.sj_rules.specs.Drain.{numbers_from, Empties, EmptiesEach, ActsOut, TakesTurn, TakeTurns, DrainsBy, IsDrained}

same_some : {X : Type 0} (x y : X) → Some x ≡ Some y → x ≡ y
same_some x y h = cc

module _ {P Q : Type 0} (play : Play P Q) (pick : ℕ → ℕ → ℕ) where
  -- nothing can come from an empty lane, and where an act came it could
  none_delivered : (w mid : WorldAt P Q) (p q : ℕ) → w.lanes q p ≡ [] → happens play pick w p (Deliver q) ≡ Some mid → ⊥
  none_delivered w mid p q empty h =
      let none : None ≡ Some mid = sym (ap (delivery_of play pick w p q) empty) ∙ h in cc

  none_acted : (w mid : WorldAt P Q) (p : ℕ) → acts play p (w.nodes p) ≡ None → happens play pick w p Act ≡ Some mid → ⊥
  none_acted w mid p none h =
      let clash : None ≡ Some mid = sym (ap (option_map (after_event w p ((w.nodes p).clock + 1) w.lanes)) none) ∙ h in cc

  -- ---- determined

  abbrev Same : List Turn → WorldAt P Q → List Turn → WorldAt P Q → Type 0
  Same ts v us u = (ts ≡ us) × (v ≡ u)

  pub empties_once : (p q : ℕ) (w v u : WorldAt P Q) (ts us : List Turn) → Empties play pick p q w ts v → Empties play pick p q w us u → Same ts v us u
  empties_once p q w v u [] [] a b = (refl, sym a.1 ∙ b.1)
  empties_once p q w v u [] (t ∷ us) a b = absurd (none_delivered w b.1.0 p q a.0 b.1.1.0)
  empties_once p q w v u (t ∷ ts) [] a b = absurd (none_delivered w a.1.0 p q b.0 a.1.1.0)
  empties_once p q w v u (t ∷ ts) (s ∷ us) a b =
      let mid : a.1.0 ≡ b.1.0 = same_some a.1.0 b.1.0 (sym a.1.1.0 ∙ b.1.1.0) in
      let rest = empties_once p q b.1.0 v u ts us (subst (λ (x : WorldAt P Q). Empties play pick p q x ts v) mid a.1.1.1) b.1.1.1 in
      let head : t ≡ s = a.0 ∙ sym b.0 in
      (ap (λ x. x ∷ ts) head ∙ ap (λ xs. s ∷ xs) rest.0, rest.1)

  pub acts_once : (p : ℕ) (w v u : WorldAt P Q) (ts us : List Turn) → ActsOut play pick p w ts v → ActsOut play pick p w us u → Same ts v us u
  acts_once p w v u [] [] a b = (refl, sym a.1 ∙ b.1)
  acts_once p w v u [] (t ∷ us) a b = absurd (none_acted w b.1.0 p a.0 b.1.1.0)
  acts_once p w v u (t ∷ ts) [] a b = absurd (none_acted w a.1.0 p b.0 a.1.1.0)
  acts_once p w v u (t ∷ ts) (s ∷ us) a b =
      let mid : a.1.0 ≡ b.1.0 = same_some a.1.0 b.1.0 (sym a.1.1.0 ∙ b.1.1.0) in
      let rest = acts_once p b.1.0 v u ts us (subst (λ (x : WorldAt P Q). ActsOut play pick p x ts v) mid a.1.1.1) b.1.1.1 in
      let head : t ≡ s = a.0 ∙ sym b.0 in
      (ap (λ x. x ∷ ts) head ∙ ap (λ xs. s ∷ xs) rest.0, rest.1)

  joined : (a b c d ts us : List Turn) → ts ≡ a ++ b → us ≡ c ++ d → a ≡ c → b ≡ d → ts ≡ us
  joined a b c d ts us h k first rest = h ∙ ap (λ x. x ++ b) first ∙ ap (λ x. c ++ x) rest ∙ sym k

  pub each_once : (p : ℕ) (qs : List ℕ) (w v u : WorldAt P Q) (ts us : List Turn) → EmptiesEach play pick p qs w ts v → EmptiesEach play pick p qs w us u → Same ts v us u
  each_once p [] w v u ts us a b = (a.0 ∙ sym b.0, sym a.1 ∙ b.1)
  each_once p (q ∷ qs) w v u ts us a b =
      let x = a.1.1.1 in
      let y = b.1.1.1 in
      let first = empties_once p q w a.1.1.0 b.1.1.0 a.0 b.0 x.1 y.1 in
      let rest = each_once p qs b.1.1.0 v u a.1.0 b.1.0 (subst (λ (m : WorldAt P Q). EmptiesEach play pick p qs m a.1.0 v) first.1 x.2) y.2 in
      (joined a.0 a.1.0 b.0 b.1.0 ts us x.0 y.0 first.0 rest.0, rest.1)

  pub turn_once : (n p : ℕ) (w v u : WorldAt P Q) (ts us : List Turn) → TakesTurn play pick n p w ts v → TakesTurn play pick n p w us u → Same ts v us u
  turn_once n p w v u ts us a b =
      let x = a.1.1.1 in
      let y = b.1.1.1 in
      let first = each_once p (numbers_from 0 n) w a.1.1.0 b.1.1.0 a.0 b.0 x.1 y.1 in
      let rest = acts_once p b.1.1.0 v u a.1.0 b.1.0 (subst (λ (m : WorldAt P Q). ActsOut play pick p m a.1.0 v) first.1 x.2) y.2 in
      (joined a.0 a.1.0 b.0 b.1.0 ts us x.0 y.0 first.0 rest.0, rest.1)

  pub turns_once : (n : ℕ) (ps : List ℕ) (w v u : WorldAt P Q) (ts us : List Turn) → TakeTurns play pick n ps w ts v → TakeTurns play pick n ps w us u → Same ts v us u
  turns_once n [] w v u ts us a b = (a.0 ∙ sym b.0, sym a.1 ∙ b.1)
  turns_once n (p ∷ ps) w v u ts us a b =
      let x = a.1.1.1 in
      let y = b.1.1.1 in
      let first = turn_once n p w a.1.1.0 b.1.1.0 a.0 b.0 x.1 y.1 in
      let rest = turns_once n ps b.1.1.0 v u a.1.0 b.1.0 (subst (λ (m : WorldAt P Q). TakeTurns play pick n ps m a.1.0 v) first.1 x.2) y.2 in
      (joined a.0 a.1.0 b.0 b.1.0 ts us x.0 y.0 first.0 rest.0, rest.1)

  drains_once : (n : ℕ) (rs ss : List (List Turn)) (w v u : WorldAt P Q) (ts us : List Turn) → DrainsBy play pick n rs w ts v → DrainsBy play pick n ss w us u → Same ts v us u
  drains_once n [] [] w v u ts us a b = (a.0 ∙ sym b.0, (turns_once n (numbers_from 0 n) w v u [] [] a.1 b.1).1)
  drains_once n [] (s ∷ ss) w v u ts us a b =
      let y = b.1.1 in
      absurd (y.0 (sym (turns_once n (numbers_from 0 n) w v b.1.0 [] s a.1 y.2).0))
  drains_once n (r ∷ rs) [] w v u ts us a b =
      let x = a.1.1 in
      absurd (x.0 (turns_once n (numbers_from 0 n) w a.1.0 u r [] x.2 b.1).0)
  drains_once n (r ∷ rs) (s ∷ ss) w v u ts us a b =
      let x = a.1.1 in
      let y = b.1.1 in
      let first = turns_once n (numbers_from 0 n) w a.1.0 b.1.0 r s x.2 y.2 in
      let rest = drains_once n rs ss b.1.0 v u a.0 b.0 (subst (λ (m : WorldAt P Q). DrainsBy play pick n rs m a.0 v) first.1 x.3) y.3 in
      (joined r a.0 s b.0 ts us x.1 y.1 first.0 rest.0, rest.1)

  -- the drain of a world is one list of events, and leads to one world
  pub drained_once : (n : ℕ) (w v u : WorldAt P Q) (ts us : List Turn) → IsDrained play pick n w ts v → IsDrained play pick n w us u → Same ts v us u
  drained_once n w v u ts us a b = drains_once n a.0 b.0 w v u ts us a.1 b.1
