-- What holds of a line that no rule refuses.
use Rattle.std.proofs.Common.{if◌then◌else◌, ◌≡◌, ◌≢◌, ℕ, Bool, true, false, not, ◌||◌, List, [], ◌∷◌, Option, Some, None, option_map, unwrap_or, refl, ap, ◌∙◌, subst}
use Rattle.std.specs.Prelude.{⊤, is_none, is_some}
use Rattle.sj_base.specs.declared.EndId.{EndId}
use Rattle.sj_base.specs.declared.Msg.{Msg}
use Rattle.sj_base.specs.declared.Msg.TheVariants as msgs
use Rattle.sj_lang.specs.declared.proto.Way.TheVariants.{Into, Out}
use Rattle.sj_lang.specs.After.{after_place, at_label, followed_by}
use Rattle.sj_lang.specs.FileAt.{FileAt}
use Rattle.sj_lang.specs.Meet.{StandsFor}
use Rattle.sj_lang.specs.Place.{Choices, Place, boolean, choice, done, int, message, repeat, session, text}
use Rattle.sj_semantics.specs.declared.Passed.{Passed}
use Rattle.sj_semantics.specs.Balanced.{FitsNext}
use Rattle.sj_semantics.specs.Ends.{Session, end_at, next_for}
use Rattle.sj_semantics_laws.specs.Unshared.{names_end}
use Rattle.sj_talk.specs.Doing.{message_next}
use Rattle.sj_talk.specs.Forms as forms
use Rattle.sj_talk.specs.Forms.{ValueAt}
use Rattle.sj_talk.specs.Names.{message_of}
use Rattle.sj_talk.specs.Rules.{carried_next, end_under, first_rule, is_done, is_next, offers, selects, sends_end, sends_value, takes_end, turns}
use Rattle.sj_talk.specs.TalkWorld.{TalkWorld}

-- ---- tests that don't apply

past : (b : Bool) (n : ℕ) (o : Option ℕ) → (if b then Some n else o) ≡ None → (b ≡ false) × (o ≡ None)
past true n o h = cc
past false n o h = (refl, h)

-- none of them does
abbrev pub NoneApplies : List (ℕ × Bool) → Type 0
NoneApplies [] = ⊤
NoneApplies (r ∷ rs) = (r.1 ≡ false) × NoneApplies rs

pub none_applies : (rs : List (ℕ × Bool)) → first_rule rs ≡ None → NoneApplies rs
none_applies [] h = tt
none_applies (r ∷ rs) h = let p = past r.1 r.0 (first_rule rs) h in (p.0, none_applies rs p.1)

pub holds_by_not : (b : Bool) → not b ≡ false → b ≡ true
holds_by_not true h = refl
holds_by_not false h = cc

pub neither : (a b : Bool) → (a || b) ≡ false → (a ≡ false) × (b ≡ false)
neither true b h = cc
neither false b h = (refl, h)

pub some_by : (o : Option EndId) (d : EndId) → is_none o ≡ false → o ≡ Some (unwrap_or o d)
some_by None d h = cc
some_by (Some e) d h = refl

-- the message that is there
pub record IsThere (o : Option Passed) : Type 0 where
  pub passed : Passed
  pub is : o ≡ Some passed

pub there_by : (o : Option Passed) → is_none (option_map (λ x. x.msg) o) ≡ false → IsThere o
there_by None h = cc
there_by (Some x) h = record { passed = x; is = refl }

pub next_is : (t : TalkWorld) (x : List ℕ) (m : Passed) → next_for t.world.sessions (end_under t x) ≡ Some m → message_next t x ≡ m.msg
next_is t x m is = ap (λ o. unwrap_or (option_map (λ (y : Passed). y.msg) o) (msgs.More false)) is

-- ---- places

-- a place follows the message, which fits
pub record SendsOn (zs : List Session) (p : Place) (m : Msg) : Type 0 where
  pub next : Place
  pub after : after_place p Out m ≡ Some next
  pub fits : FitsNext zs p m

pub value_sends : (zs : List Session) (file : FileAt) (p : Place) (v : ValueAt) → sends_value p ≡ true → is_next p v ≡ true → SendsOn zs p (message_of file v)
value_sends zs file (message Out int next) (forms.number n) h k = record { next = next; after = refl; fits = tt }
value_sends zs file (message Out boolean next) (forms.truth b) h k = record { next = next; after = refl; fits = tt }
value_sends zs file (message Out text next) (forms.text t) h k = record { next = next; after = refl; fits = tt }
value_sends zs file p v h k = cc

pub names_nothing : (file : FileAt) (v : ValueAt) (f : EndId) → names_end f (message_of file v) ≡ false
names_nothing file (forms.number n) f = refl
names_nothing file (forms.truth b) f = refl
names_nothing file (forms.text t) f = refl

arm_by : (zs : List Session) (arms : Choices) (next : Place) (l : ℕ) (o : Option Place) → at_label l arms ≡ o → is_some o ≡ true → SendsOn zs (choice Out arms next) (msgs.Label l)
arm_by zs arms next l None at h = cc
arm_by zs arms next l (Some q) at h = record { next = followed_by q next; after = ap (option_map (λ s. followed_by s next)) at; fits = tt }

pub label_sends : (zs : List Session) (p : Place) (o : Option ℕ) → selects p ≡ true → offers p o ≡ true → SendsOn zs p (msgs.Label (unwrap_or o 0))
label_sends zs (choice Out arms next) (Some l) h k = arm_by zs arms next l (at_label l arms) refl k
label_sends zs p o h k = cc

pub turn_sends : (zs : List Session) (p : Place) (b : Bool) → turns p ≡ true → SendsOn zs p (msgs.More b)
turn_sends zs (repeat Out body next) b h = record { next = _; after = refl; fits = tt }
turn_sends zs p b h = cc

-- an end is carried next
pub record CarriesOut (p : Place) : Type 0 where
  pub kind : Place
  pub next : Place
  pub is : p ≡ message Out (session kind) next
  pub carried : carried_next p ≡ kind

pub carries_out : (p : Place) → sends_end p ≡ true → CarriesOut p
carries_out (message Out (session s) next) h = record { kind = s; next = next; is = refl; carried = refl }
carries_out p h = cc

pub record CarriesIn (p : Place) : Type 0 where
  pub kind : Place
  pub next : Place
  pub is : p ≡ message Into (session kind) next
  pub carried : carried_next p ≡ kind

pub carries_in : (p : Place) → takes_end p ≡ true → CarriesIn p
carries_in (message Into (session s) next) h = record { kind = s; next = next; is = refl; carried = refl }
carries_in p h = cc

-- only the empty place stands for the empty place
pub stands_full : (p q : Place) → is_done p ≡ false → StandsFor p q → q ≢ done
stands_full p q h s e = by p h (subst (StandsFor p) e s)
  where
    by : (r : Place) → is_done r ≡ false → StandsFor r done → ⊥
    by done k t = cc
    by (message w kind next) k t = t
    by (choice w arms next) k t = t
    by (repeat w body next) k t = t

-- a message of a session kind names an end, which stands for the kind
pub record NamesEnd (zs : List Session) (kind : Place) (m : Msg) : Type 0 where
  pub sess : ℕ
  pub end_side : ℕ
  pub keeper : ℕ
  pub is : m ≡ msgs.Sess sess end_side keeper
  pub stands : StandsFor (end_at zs (record { sess = sess; side = end_side })).place kind

pub names_by : (zs : List Session) (kind next : Place) (m : Msg) → FitsNext zs (message Into (session kind) next) m → NamesEnd zs kind m
names_by zs kind next (msgs.Sess s d k) f = record { sess = s; end_side = d; keeper = k; is = refl; stands = f.1 }
names_by zs kind next m f = absurd f

-- and so is what a line takes next
pub next_named : (t : TalkWorld) (x : List ℕ) (m : Passed) (kind : Place) → next_for t.world.sessions (end_under t x) ≡ Some m → (n : NamesEnd t.world.sessions kind m.msg) → message_next t x ≡ msgs.Sess n.sess n.end_side n.keeper
next_named t x m kind is n = next_is t x m is ∙ n.is
