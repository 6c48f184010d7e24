-- How deep sessions stand inside one another as kinds.
use Rattle.std.proofs.Common.{◌≡◌, ℕ, zero, suc, ◌≤◌, ◌<◌, ◌==◌, max, Bool, true, false, cond, List, [], ◌∷◌, map, slice_get, Option, Some, None, option_map, refl, ap, sym, ◌∙◌, arith, subst, inl, inr}
use Rattle.std.proofs.lemmas.Bool.{cases_Bool}
use Rattle.sj_base.specs.declared.Msg.{Msg}
use Rattle.sj_base.specs.declared.Msg.TheVariants as msgs
use Rattle.sj_lang.specs.declared.proto.Way.{Way}
use Rattle.sj_lang.specs.declared.proto.Way.TheVariants.{Into}
use Rattle.sj_lang.specs.Place.{Place, Carried, Choices, done, message, choice, repeat, session, no_choice, arm}
use Rattle.sj_lang.specs.Place as places
use Rattle.sj_lang.specs.Meet.{StandsFor}
use Rattle.sj_lang.proofs.HeadLemmas.{take_standing}
use Rattle.sj_lang.specs.After.{followed_by, at_label, carries, goes, after_message, after_place}
use Rattle.sj_semantics.specs.declared.Passed.{Passed}
use Rattle.sj_semantics.specs.Balanced.{Fits, FitsNext, LeadsTaker}
use Rattle.sj_semantics.specs.Ends.{Session, end_at}
use Rattle.sj_headline_laws.proofs.TouchedLemmas.{side}

abbrev mutual
  pub depth_of : Place → ℕ
  depth_of done = 0
  depth_of (message w k rest) = max (kind_depth k) (depth_of rest)
  depth_of (choice w arms rest) = max (arms_depth arms) (depth_of rest)
  depth_of (repeat w body rest) = max (depth_of body) (depth_of rest)

  pub kind_depth : Carried → ℕ
  kind_depth places.int = 0
  kind_depth places.boolean = 0
  kind_depth places.text = 0
  kind_depth (session p) = suc (depth_of p)

  pub arms_depth : Choices → ℕ
  arms_depth no_choice = 0
  arms_depth (arm l p arms) = max (depth_of p) (arms_depth arms)

depth_of-followed_by : (p q : Place) → depth_of (followed_by p q) ≤ max (depth_of p) (depth_of q)
depth_of-followed_by done q = omega arith
depth_of-followed_by (message w k rest) q = omega (arith, depth_of-followed_by rest q)
depth_of-followed_by (choice w arms rest) q = omega (arith, depth_of-followed_by rest q)
depth_of-followed_by (repeat w body rest) q = omega (arith, depth_of-followed_by rest q)

at_label_depth : (l : ℕ) (arms : Choices) (p : Place) → at_label l arms ≡ Some p → depth_of p ≤ arms_depth arms
at_label_depth l no_choice p h = cc
at_label_depth l (arm m q arms) p h =
    elim (cases_Bool (l == m)) [
      | inl hit ↦
          let found : Some q ≡ Some p = ap (λ (t : Bool). cond t (Some q) (at_label l arms)) (sym hit) ∙ h in
          let it : q ≡ p = cc in omega (arith, ap depth_of it)
      | inr miss ↦
          let later : at_label l arms ≡ Some p = ap (λ (t : Bool). cond t (Some q) (at_label l arms)) (sym miss) ∙ h in
          omega (arith, at_label_depth l arms p later)
    ]

arm_depth : (arms : Choices) (rest q : Place) (o : Option Place) → ((p : Place) → o ≡ Some p → depth_of p ≤ arms_depth arms) → option_map (λ s. followed_by s rest) o ≡ Some q → depth_of q ≤ max (arms_depth arms) (depth_of rest)
arm_depth arms rest q None le h = cc
arm_depth arms rest q (Some p) le h = let it : followed_by p rest ≡ q = cc in omega (arith, le p refl, depth_of-followed_by p rest, ap depth_of it)

loop_depth : (b : Bool) (w : Way) (body rest q : Place) → Some (cond b (followed_by body (repeat w body rest)) rest) ≡ Some q → depth_of q ≤ max (depth_of body) (depth_of rest)
loop_depth true w body rest q h = let it : followed_by body (repeat w body rest) ≡ q = cc in omega (arith, depth_of-followed_by body (repeat w body rest), ap depth_of it)
loop_depth false w body rest q h = let it : rest ≡ q = cc in omega (arith, ap depth_of it)

cond_depth : (b : Bool) (k : Carried) (rest q : Place) → cond b (Some rest) None ≡ Some q → depth_of q ≤ max (kind_depth k) (depth_of rest)
cond_depth true k rest q h = let it : rest ≡ q = cc in omega (arith, ap depth_of it)
cond_depth false k rest q h = cc

after_message_depth : (p q : Place) (m : Msg) → after_message p m ≡ Some q → depth_of q ≤ depth_of p
after_message_depth done q m h = cc
after_message_depth (message w k rest) q m h = cond_depth (carries k m) k rest q h
after_message_depth (choice w arms rest) q (msgs.Label l) h = arm_depth arms rest q (at_label l arms) (λ p e. at_label_depth l arms p e) h
after_message_depth (choice w arms rest) q (msgs.Int n) h = cc
after_message_depth (choice w arms rest) q (msgs.Bool n) h = cc
after_message_depth (choice w arms rest) q (msgs.Text n) h = cc
after_message_depth (choice w arms rest) q (msgs.More n) h = cc
after_message_depth (choice w arms rest) q (msgs.Sess s d k) h = cc
after_message_depth (repeat w body rest) q (msgs.More b) h = loop_depth b w body rest q h
after_message_depth (repeat w body rest) q (msgs.Int n) h = cc
after_message_depth (repeat w body rest) q (msgs.Bool n) h = cc
after_message_depth (repeat w body rest) q (msgs.Text n) h = cc
after_message_depth (repeat w body rest) q (msgs.Label n) h = cc
after_message_depth (repeat w body rest) q (msgs.Sess s d k) h = cc

when_goes : (b : Bool) (o : Option Place) (q : Place) → cond b o None ≡ Some q → o ≡ Some q
when_goes true o q h = h
when_goes false o q h = cc

after_depth : (p q : Place) (m : Msg) → after_place p Into m ≡ Some q → depth_of q ≤ depth_of p
after_depth p q m h = after_message_depth p q m (when_goes (goes p Into) (after_message p m) q h)

-- ---- what a message on its way carries

-- the kind of a session message that is next, and that it is less deep than each place for
-- which the taker's stands
pub record Carries (zs : List Session) (p : Place) (s d : ℕ) : Type 0 where
  pub kind : Place
  pub stands : StandsFor (end_at zs (side s d)).place kind
  pub less : (r : Place) → StandsFor p r → depth_of kind < depth_of r

message_less : (w : Way) (kind rest r : Place) → StandsFor (message w (session kind) rest) r → depth_of kind < depth_of r
message_less w kind rest (message v l rest') h = omega (arith, ap kind_depth h.1)
message_less w kind rest _ h = absurd h

kind_carried : (zs : List Session) (w : Way) (k : Carried) (rest : Place) (s d j : ℕ) → Fits zs k (msgs.Sess s d j) → Carries zs (message w k rest) s d
kind_carried zs w places.int rest s d j f = absurd f
kind_carried zs w places.boolean rest s d j f = absurd f
kind_carried zs w places.text rest s d j f = absurd f
kind_carried zs w (session kind) rest s d j f = record { kind = kind; stands = f.1; less = λ r h. message_less w kind rest r h }

next_carried : (zs : List Session) (p q : Place) (s d j : ℕ) → FitsNext zs p (msgs.Sess s d j) → after_message p (msgs.Sess s d j) ≡ Some q → Carries zs p s d
next_carried zs done q s d j f h = cc
next_carried zs (message w k rest) q s d j f h = kind_carried zs w k rest s d j f
next_carried zs (choice w arms rest) q s d j f h = cc
next_carried zs (repeat w body rest) q s d j f h = cc

-- an end that is named on its way to a taker
pub named_carried : (zs : List Session) (p : Place) (xs : List Passed) (q : Place) (i s d j : ℕ) (x : Passed) → LeadsTaker zs p (map (λ y. y.msg) xs) q → slice_get xs i ≡ Some x → x.msg ≡ msgs.Sess s d j → Carries zs p s d
named_carried zs p [] q i s d j x l h e = cc
named_carried zs p (y ∷ xs) q zero s d j x l h e =
    let it : y ≡ x = cc in
    let m : y.msg ≡ msgs.Sess s d j = ap (λ t. t.msg) it ∙ e in
    next_carried zs p l.0 s d j (subst (FitsNext zs p) m l.1) (sym (ap (after_message p) m) ∙ when_goes (goes p Into) (after_message p y.msg) l.0 l.2)
named_carried zs p (y ∷ xs) q (suc i) s d j x l h e =
    let c = named_carried zs l.0 xs q i s d j x l.3 h e in
    record {
      kind = c.kind;
      stands = c.stands;
      less = λ r stands.
          let on : (s' : Place) × (after_place r Into y.msg ≡ Some s') × StandsFor l.0 s' = take_standing p r l.0 y.msg stands l.2 in
          omega (arith, c.less on.0 on.2, after_depth r on.0 y.msg on.1);
    }
