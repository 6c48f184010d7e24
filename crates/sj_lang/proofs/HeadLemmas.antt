-- What the one of two protocols that meet sends next, the other can take, and what
-- is after it meets again.
use Rattle.std.proofs.lemmas.Bool.{cases_Bool}
use Rattle.std.proofs.Common.{◌≡◌, ℕ, Bool, true, false, cond, Option, Some, None, option_map, inl, inr, refl, ap, sym, subst, ◌∙◌}
use Rattle.sj_base.specs.declared.Msg.{Msg}
use Rattle.sj_base.specs.declared.Msg.TheVariants as msgs
use Rattle.sj_lang.specs.declared.proto.Way.{Way}
use Rattle.sj_lang.specs.declared.proto.Way.TheVariants.{Out, Into}
use Rattle.sj_lang.specs.Place.{Place, Carried, Choices, done, message, choice, repeat}
use Rattle.sj_lang.specs.After.{at_label, carries, followed_by, is_same_way, goes, after_message, after_place}
use Rattle.sj_lang.specs.Dual.{other_way, dual_of, dual_choices}
use Rattle.sj_lang.specs.Meet.{EachLabel, Meets, ArmMeets, StandsFor}
use Rattle.sj_lang.proofs.DualLemmas.{dual_of-dual_of}
use Rattle.sj_lang.proofs.MeetLemmas.{arm_there, at_label-dual, is_there, meets_back, meets_followed}

-- the other one has a place after the message, and the two meet
abbrev pub Answers : Place → Msg → Place → Type 0
Answers q m p' = (q' : Place) × (after_place q Into m ≡ Some q') × Meets p' q'

message_answered : (k l : Carried) (rest rest' p' : Place) (m : Msg) → k ≡ l → Meets rest rest' → cond (carries k m) (Some rest) None ≡ Some p' → Answers (message Into l rest') m p'
message_answered k l rest rest' p' m e h f =
    elim (cases_Bool (carries k m)) [
      | inl fits ↦ let it : rest ≡ p' = (let g : Some rest ≡ Some p' = sym (ap (λ (b : Bool). cond b (Some rest) None) fits) ∙ f in cc) in
          (rest', ap (λ (b : Bool). cond b (Some rest') None) (sym (ap (λ (t : Carried). carries t m) e) ∙ fits), subst (λ (t : Place). Meets t rest') it h)
      | inr not ↦ let g : None ≡ Some p' = sym (ap (λ (b : Bool). cond b (Some rest) None) not) ∙ f in cc
    ]

some_at : (o : Option Place) (rest p' : Place) → option_map (λ s. followed_by s rest) o ≡ Some p' → (a : Place) × (o ≡ Some a) × (followed_by a rest ≡ p')
some_at None rest p' e = cc
some_at (Some a) rest p' e = (a, refl, cc)

label_answered : (arms arms' : Choices) (rest rest' p' : Place) (l : ℕ) → EachLabel (ArmMeets arms) arms arms' → Meets rest rest' → option_map (λ s. followed_by s rest) (at_label l arms) ≡ Some p' → Answers (choice Into arms' rest') (msgs.Label l) p'
label_answered arms arms' rest rest' p' l each h f =
    let a : (a : Place) × (at_label l arms ≡ Some a) × (followed_by a rest ≡ p') = some_at (at_label l arms) rest p' f in
    let r : (q : Place) × (at_label l arms' ≡ Some q) × ArmMeets arms l q = each l (is_there (at_label l arms) a.0 a.1) in
    let d : (p : Place) × (at_label l arms ≡ Some p) × Meets p r.0 = arm_there arms l r.0 r.2 in
    let same : d.0 ≡ a.0 = (let g : Some d.0 ≡ Some a.0 = sym d.1 ∙ a.1 in cc) in (
      followed_by r.0 rest',
      ap (option_map (λ s. followed_by s rest')) r.1,
      subst (λ (t : Place). Meets t (followed_by r.0 rest')) (ap (λ (t : Place). followed_by t rest) same ∙ a.2) (meets_followed d.0 r.0 rest rest' d.2 h),
    )

choice_answered : (arms arms' : Choices) (rest rest' p' : Place) (m : Msg) → EachLabel (ArmMeets arms) arms arms' → Meets rest rest' → after_place (choice Out arms rest) Out m ≡ Some p' → Answers (choice Into arms' rest') m p'
choice_answered arms arms' rest rest' p' (msgs.Label l) each h f = label_answered arms arms' rest rest' p' l each h f
choice_answered arms arms' rest rest' p' (msgs.Int n) each h f = cc
choice_answered arms arms' rest rest' p' (msgs.Bool b) each h f = cc
choice_answered arms arms' rest rest' p' (msgs.Text n) each h f = cc
choice_answered arms arms' rest rest' p' (msgs.More b) each h f = cc
choice_answered arms arms' rest rest' p' (msgs.Sess s d k) each h f = cc

loop_answered : (body body' rest rest' p' : Place) (m : Msg) → Meets body body' → Meets rest rest' → after_place (repeat Out body rest) Out m ≡ Some p' → Answers (repeat Into body' rest') m p'
loop_answered body body' rest rest' p' (msgs.More true) h j f = (
  followed_by body' (repeat Into body' rest'),
  refl,
  subst (λ (t : Place). Meets t (followed_by body' (repeat Into body' rest'))) (let it : followed_by body (repeat Out body rest) ≡ p' = cc in it)
      (meets_followed body body' (repeat Out body rest) (repeat Into body' rest') h (refl, h, j)),
)
loop_answered body body' rest rest' p' (msgs.More false) h j f = (rest', refl, subst (λ (t : Place). Meets t rest') (let it : rest ≡ p' = cc in it) j)
loop_answered body body' rest rest' p' (msgs.Int n) h j f = cc
loop_answered body body' rest rest' p' (msgs.Bool b) h j f = cc
loop_answered body body' rest rest' p' (msgs.Text n) h j f = cc
loop_answered body body' rest rest' p' (msgs.Label l) h j f = cc
loop_answered body body' rest rest' p' (msgs.Sess s d k) h j f = cc

pub send_answered : (p q p' : Place) (m : Msg) → Meets p q → after_place p Out m ≡ Some p' → Answers q m p'
send_answered done q p' m h f = cc
send_answered (message Into k rest) q p' m h f = cc
send_answered (choice Into arms rest) q p' m h f = cc
send_answered (repeat Into body rest) q p' m h f = cc
send_answered (message Out k rest) (message Into l rest') p' m h f = message_answered k l rest rest' p' m h.1 h.2 f
send_answered (choice Out arms rest) (choice Into arms' rest') p' m h f = choice_answered arms arms' rest rest' p' m h.1 h.2 f
send_answered (repeat Out body rest) (repeat Into body' rest') p' m h f = loop_answered body body' rest rest' p' m h.1 h.2 f
send_answered (message Out k rest) (message Out l rest') p' m h f = let no_way : Out ≡ Into = h.0 in cc
send_answered (choice Out arms rest) (choice Out arms' rest') p' m h f = let no_way : Out ≡ Into = h.0 in cc
send_answered (repeat Out body rest) (repeat Out body' rest') p' m h f = let no_way : Out ≡ Into = h.0 in cc
send_answered _ _ p' m h f = absurd h

-- the empty place meets the empty place alone
pub meets_done : (q : Place) → Meets done q → q ≡ done
meets_done done h = refl
meets_done _ h = absurd h

-- ---- after a message, the dual

pub dual_of-followed_by : (p q : Place) → dual_of (followed_by p q) ≡ followed_by (dual_of p) (dual_of q)
dual_of-followed_by done q = refl
dual_of-followed_by (message w k rest) q = ap (message (other_way w) k) (dual_of-followed_by rest q)
dual_of-followed_by (choice w arms rest) q = ap (choice (other_way w) (dual_choices arms)) (dual_of-followed_by rest q)
dual_of-followed_by (repeat w body rest) q = ap (repeat (other_way w) (dual_of body)) (dual_of-followed_by rest q)

same_way-other : (v w : Way) → is_same_way (other_way v) (other_way w) ≡ is_same_way v w
same_way-other Out Out = refl
same_way-other Out Into = refl
same_way-other Into Out = refl
same_way-other Into Into = refl

goes-dual : (p : Place) (w : Way) → goes (dual_of p) (other_way w) ≡ goes p w
goes-dual done w = refl
goes-dual (message v k rest) w = same_way-other v w
goes-dual (choice v arms rest) w = same_way-other v w
goes-dual (repeat v body rest) w = same_way-other v w

carried-dual : (b : Bool) (rest : Place) → cond b (Some (dual_of rest)) None ≡ option_map dual_of (cond b (Some rest) None)
carried-dual true rest = refl
carried-dual false rest = refl

label-dual : (o : Option Place) (rest : Place) → option_map (λ s. followed_by s (dual_of rest)) (option_map dual_of o) ≡ option_map dual_of (option_map (λ s. followed_by s rest) o)
label-dual None rest = refl
label-dual (Some p) rest = ap Some (sym (dual_of-followed_by p rest))

after_message-dual : (p : Place) (m : Msg) → after_message (dual_of p) m ≡ option_map dual_of (after_message p m)
after_message-dual done m = refl
after_message-dual (message w k rest) m = carried-dual (carries k m) rest
after_message-dual (choice w arms rest) (msgs.Label l) = ap (option_map (λ s. followed_by s (dual_of rest))) (at_label-dual l arms) ∙ label-dual (at_label l arms) rest
after_message-dual (choice w arms rest) (msgs.Int n) = refl
after_message-dual (choice w arms rest) (msgs.Bool b) = refl
after_message-dual (choice w arms rest) (msgs.Text n) = refl
after_message-dual (choice w arms rest) (msgs.More b) = refl
after_message-dual (choice w arms rest) (msgs.Sess s d k) = refl
after_message-dual (repeat w body rest) (msgs.More true) = ap Some (sym (dual_of-followed_by body (repeat w body rest)))
after_message-dual (repeat w body rest) (msgs.More false) = refl
after_message-dual (repeat w body rest) (msgs.Int n) = refl
after_message-dual (repeat w body rest) (msgs.Bool b) = refl
after_message-dual (repeat w body rest) (msgs.Text n) = refl
after_message-dual (repeat w body rest) (msgs.Label l) = refl
after_message-dual (repeat w body rest) (msgs.Sess s d k) = refl

if-dual : (b : Bool) (o : Option Place) → cond b (option_map dual_of o) None ≡ option_map dual_of (cond b o None)
if-dual true o = refl
if-dual false o = refl

-- the dual's place after a message that goes the other way
pub after_place-dual : (p : Place) (w : Way) (m : Msg) → after_place (dual_of p) (other_way w) m ≡ option_map dual_of (after_place p w m)
after_place-dual p w m =
    ap (λ (b : Bool). cond b (after_message (dual_of p) m) None) (goes-dual p w) ∙ ap (λ (o : Option Place). cond (goes p w) o None) (after_message-dual p m) ∙ if-dual (goes p w) (after_message p m)

-- what an end can take, one for which it stands can take, and after it the one stands for the other
pub take_standing : (t s t' : Place) (m : Msg) → StandsFor t s → after_place t Into m ≡ Some t' → (s' : Place) × (after_place s Into m ≡ Some s') × StandsFor t' s'
take_standing t s t' m h e = send_answered (dual_of t) s (dual_of t') m h (after_place-dual t Into m ∙ ap (option_map dual_of) e)

-- what one at the wanted place can send, an end that stands for it can send, and after it the
-- one stands for the other
pub send_standing : (t s s' : Place) (m : Msg) → StandsFor t s → after_place s Out m ≡ Some s' → (t' : Place) × (after_place t Out m ≡ Some t') × StandsFor t' s'
send_standing t s s' m h e = let r : Answers (dual_of t) m s' = send_answered s (dual_of t) s' m (meets_back (dual_of t) s h) e in (
  dual_of r.0,
  sym (ap (λ (p : Place). after_place p Out m) (dual_of-dual_of t)) ∙ after_place-dual (dual_of t) Into m ∙ ap (option_map dual_of) r.1,
  subst (λ (p : Place). Meets p s') (sym (dual_of-dual_of r.0)) (meets_back s' r.0 r.2),
)
