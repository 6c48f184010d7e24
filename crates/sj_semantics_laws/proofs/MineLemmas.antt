-- Why a party may use an end now, and that no two parties may use one end.
use Rattle.std.proofs.Common.{◌≡◌, ℕ, zero, suc, ◌≤◌, ◌<◌, ◌==◌, nat_lt, Bool, true, false, cond, List, [], ◌∷◌, length, slice_get, Option, Some, None, option_map, sum_by, refl, ap, sym, ◌∙◌, subst, arith}
use Rattle.std.specs.Bool.{⊤}
use Rattle.std.proofs.lemmas.Bool.{and_parts, eqb-true, false_from_ne_true, ltb-true}
use Rattle.sj_base.specs.declared.EndId.{EndId}
use Rattle.sj_base.specs.declared.Msg.{Msg}
use Rattle.sj_base.specs.declared.Msg.TheVariants as msgs
use Rattle.sj_lang.specs.Place.{Place}
use Rattle.sj_lang.specs.FileAt.{ProtocolAt, body_named}
use Rattle.sj_semantics.specs.declared.Awaits.{Awaits}
use Rattle.sj_semantics.specs.declared.Awaits.TheVariants as awaits
use Rattle.sj_semantics.specs.declared.Passed.{Passed}
use Rattle.sj_semantics.specs.declared.Want.{Want}
use Rattle.sj_semantics.specs.declared.Want.TheVariants as wants
use Rattle.sj_semantics.specs.Ends.{end_at, next_for, is_end, is_same_side, limit_of_hops}
use Rattle.sj_semantics.specs.Program.{Program}
use Rattle.sj_semantics.specs.Requests.{first_offer, limit_of_requests, opened_number}
use Rattle.sj_semantics.specs.Steps.{sent_of}
use Rattle.sj_semantics.specs.Uses.{Use, takes, sends, delegates}
use Rattle.sj_semantics.specs.World.{World, Change, plain_change, session_message, begun_by, begun_at, change_by_taking, change_by_opening, change_by_accepting, change_by}
use Rattle.sj_semantics_laws.specs.Bound.{IsBound, AreBound}
use Rattle.sj_semantics_laws.specs.Unshared.{bindings_of, names_end, carried_in, claims_on, IsToCome, to_open, to_accept, IsUnshared}
use Rattle.sj_semantics_laws.proofs.AlteredLemmas.{one-le-sum_by, two-le-sum_by}
use Rattle.sj_semantics_laws.proofs.BoundLemmas.{bindings_of-le, is_end-self, is_end_sym, is_end_trans, want_bound}
use Rattle.sj_semantics_laws.proofs.ChangeLemmas.{Rests}
use Rattle.sj_semantics_laws.proofs.ClaimLemmas.{one_if, carried-takes}
use Rattle.sj_semantics_laws.proofs.EndLemmas.{touched, next_for-after_uses}
use Rattle.sj_semantics_laws.proofs.ToComeLemmas.{Offer, first_is_offer, opened_number_same, below_by_get}

-- it is bound there, the next message of one that is bound there names it, or the party
-- opens or accepts its session
pub data Mine (w : World) (p : ℕ) (g : Program) (e : EndId) : Type 0 where
  bound : IsBound e g.ends → Mine w p g e
  coming : (f : EndId) (x : Passed) → IsBound f g.ends → next_for w.sessions f ≡ Some x → names_end e x.msg ≡ true → Mine w p g e
  opening : length (w.requests p) < limit_of_requests → e.sess ≡ opened_number p (length (w.requests p)) → Mine w p g e
  accepting : (q k : ℕ) → Offer p k (w.requests q) → e.sess ≡ opened_number q k → is_same_side 1 e.side ≡ true → Mine w p g e

abbrev pub AllMine : World → ℕ → Program → List (EndId × Use) → Type 0
AllMine w p g [] = ⊤
AllMine w p g (u ∷ us) = Mine w p g u.0 × AllMine w p g us

-- ---- an act uses such ends

abbrev MineIf : World → ℕ → Program → Option Change → Type 0
MineIf w p g None = ⊤
MineIf w p g (Some c) = AllMine w p g c.uses

cond_mine : (w : World) (p : ℕ) (g : Program) (b : Bool) (c : Change) → (b ≡ true → AllMine w p g c.uses) → MineIf w p g (cond b (Some c) None)
cond_mine w p g true c h = h refl
cond_mine w p g false c h = tt

begun_mine : (w : World) (p : ℕ) (g : Program) (place : Place) (f : EndId) (x : Passed) (m : Msg) → IsBound f g.ends → next_for w.sessions f ≡ Some x → x.msg ≡ m → AllMine w p g (begun_by place m)
begun_mine w p g place f x (msgs.Sess s d k) b n it =
    let e : EndId = record { sess = s; side = d } in
    (coming f x b n (ap (names_end e) it ∙ is_end-self e), tt)
begun_mine w p g place f x (msgs.Int i) b n it = tt
begun_mine w p g place f x (msgs.Bool i) b n it = tt
begun_mine w p g place f x (msgs.Text i) b n it = tt
begun_mine w p g place f x (msgs.Label i) b n it = tt
begun_mine w p g place f x (msgs.More i) b n it = tt

begun_at_mine : (w : World) (p : ℕ) (g : Program) (ps : List ProtocolAt) (a : Awaits) (f : EndId) (x : Passed) → IsBound f g.ends → next_for w.sessions f ≡ Some x → AllMine w p g (begun_at ps a x.msg)
begun_at_mine w p g ps (awaits.Session q) f x b n = begun_mine w p g (body_named ps q) f x x.msg b n refl
begun_at_mine w p g ps (awaits.Value k) f x b n = tt
begun_at_mine w p g ps awaits.OneOf f x b n = tt
begun_at_mine w p g ps awaits.MoreOrStop f x b n = tt

taking_mine : (w : World) (p : ℕ) (g : Program) (a : Awaits) (f : EndId) (o : Option Passed) → IsBound f g.ends → next_for w.sessions f ≡ o → MineIf w p g (option_map (change_by_taking w.protocols g f a) o)
taking_mine w p g a f None b n = tt
taking_mine w p g a f (Some x) b n = (bound b, begun_at_mine w p g w.protocols a f x b n)

accepting_mine : (w : World) (p : ℕ) (g : Program) (q : ℕ) (place : Place) (o : Option ℕ) → first_offer p (w.requests q) ≡ o → MineIf w p g (option_map (change_by_accepting g q place) o)
accepting_mine w p g q place None h = tt
accepting_mine w p g q place (Some k) h = (accepting q k (first_is_offer p (w.requests q) k h) refl refl, tt)

by_mine : (w : World) (p : ℕ) (g : Program) (want : Want) → AreBound g.ends want → MineIf w p g (change_by w p g want)
by_mine w p g wants.Ended b = tt
by_mine w p g wants.Local b = tt
by_mine w p g (wants.Send e m) b = (bound b, tt)
by_mine w p g (wants.Delegate e y) b =
    cond_mine w p g (nat_lt (end_at w.sessions y).hops limit_of_hops) (plain_change (sent_of g) ((y, delegates) ∷ (e, sends (session_message y p)) ∷ [])) (λ t. (bound b.1, (bound b.0, tt)))
by_mine w p g (wants.Take e a) b = taking_mine w p g a e (next_for w.sessions e) b refl
by_mine w p g (wants.Close e) b = tt
by_mine w p g (wants.Request n q) b =
    cond_mine w p g (nat_lt (length (w.requests p)) limit_of_requests) (change_by_opening g (opened_number p (length (w.requests p))) (body_named w.protocols n) q)
    (λ t. let below = ltb-true (length (w.requests p)) limit_of_requests t in (opening below refl, (opening below refl, tt)))
by_mine w p g (wants.Accept n q) b = accepting_mine w p g q (body_named w.protocols n) (first_offer p (w.requests q)) refl

pub all_mine : (w : World) (p : ℕ) (g : Program) (c : Change) → Rests w p g c → AllMine w p g c.uses
all_mine w p g c r = subst (MineIf w p g) r.by_it (by_mine w p g r.want (want_bound g r.want r.wants_it))

-- ---- no two parties may use one end

names_same : (e f : EndId) (m : Msg) → is_end e f ≡ true → names_end f m ≡ true → names_end e m ≡ true
names_same e f (msgs.Sess s d k) t h = is_end_trans e f (record { sess = s; side = d }) t h
names_same e f (msgs.Int n) t h = h
names_same e f (msgs.Bool b) t h = h
names_same e f (msgs.Text n) t h = h
names_same e f (msgs.Label l) t h = h
names_same e f (msgs.More b) t h = h

one_carried : (w : World) (e f : EndId) (x : Passed) → next_for w.sessions f ≡ Some x → names_end e x.msg ≡ true → 1 ≤ sum_by (carried_in e) w.sessions
one_carried w e f x n names = omega (arith, carried-takes e 0 w.sessions f x n, ap {B = ℕ} one_if names)

two_carried : (w : World) (e f a : EndId) (x y : Passed) → is_end f a ≡ false → next_for w.sessions f ≡ Some x → next_for w.sessions a ≡ Some y → names_end e x.msg ≡ true → names_end e y.msg ≡ true → 2 ≤ sum_by (carried_in e) w.sessions
two_carried w e f a x y apart n k names also =
    omega (
      arith,
      carried-takes e 0 w.sessions f x n,
      carried-takes e 0 (touched 0 w.sessions (f, takes x.msg)) a y (next_for-after_uses 0 ((f, takes x.msg) ∷ []) w.sessions a y (apart, tt) k),
      ap {B = ℕ} one_if names,
      ap {B = ℕ} one_if also,
    )

session_same : (e f : EndId) → is_end e f ≡ true → e.sess ≡ f.sess
session_same e f t = eqb-true e.sess f.sess (and_parts (e.sess == f.sess) (is_same_side e.side f.side) t).0

side_same : (c d : ℕ) → is_same_side c d ≡ true → is_same_side 1 d ≡ true → is_same_side 1 c ≡ true
side_same zero zero t h = h
side_same zero (suc d) t h = cc
side_same (suc c) d t h = refl

come_same : (w : World) (e f : EndId) → is_end e f ≡ true → IsToCome w f → IsToCome w e
come_same w e f t (to_open p k le lt num) = to_open p k le lt (session_same e f t ∙ num)
come_same w e f t (to_accept p k r there none num side) =
    to_accept p k r there none (session_same e f t ∙ num) (side_same e.side f.side (and_parts (e.sess == f.sess) (is_same_side e.side f.side) t).1 side)

opening_comes : (w : World) (p : ℕ) (e : EndId) → length (w.requests p) < limit_of_requests → e.sess ≡ opened_number p (length (w.requests p)) → IsToCome w e
opening_comes w p e lt num = to_open p (length (w.requests p)) (omega arith) lt num

accepting_comes : (w : World) (p q k : ℕ) (e : EndId) → Offer p k (w.requests q) → e.sess ≡ opened_number q k → is_same_side 1 e.side ≡ true → IsToCome w e
accepting_comes w p q k e o num side = to_accept q k o.0 o.1 o.3 num side

-- two parties, each with its program
module _ (w : World) (p q : ℕ) (g h : Program) (one : IsUnshared w) (ne : p ≡ q → ⊥) (gp : slice_get w.parties p ≡ Some g) (hq : slice_get w.parties q ≡ Some h) where
  binds : EndId → Program → ℕ
  binds e k = bindings_of e k.ends

  bound_bound : (e f : EndId) → is_end e f ≡ true → IsBound e g.ends → IsBound f h.ends → ⊥
  bound_bound e f t be bf =
      absurd (omega (arith, one.once e, be.some_name, bf.some_name, bindings_of-le e f h.ends t, two-le-sum_by (λ (k : Program). bindings_of e k.ends) w.parties p q g h gp hq ne))

  here_and_come : (e f : EndId) → is_end e f ≡ true → 1 ≤ claims_on e w → IsToCome w f → ⊥
  here_and_come e f t claimed come = absurd (omega (arith, claimed, one.to_come e (come_same w e f t come)))

  bound_claims : (e : EndId) (k : Program) (r : ℕ) → slice_get w.parties r ≡ Some k → IsBound e k.ends → 1 ≤ claims_on e w
  bound_claims e k r there b = omega (arith, b.some_name, one-le-sum_by (λ (t : Program). bindings_of e t.ends) w.parties r k there)

  coming_claims : (e f : EndId) (x : Passed) → next_for w.sessions f ≡ Some x → names_end e x.msg ≡ true → 1 ≤ claims_on e w
  coming_claims e f x n names = omega (arith, one_carried w e f x n names)

  bound_coming : (e f a : EndId) (x : Passed) (k : Program) (r : ℕ) → is_end e f ≡ true → slice_get w.parties r ≡ Some k → IsBound e k.ends → next_for w.sessions a ≡ Some x → names_end f x.msg ≡ true → ⊥
  bound_coming e f a x k r t there b n names =
      absurd (omega (arith, one.once e, b.some_name, one-le-sum_by (λ (u : Program). bindings_of e u.ends) w.parties r k there, one_carried w e a x n (names_same e f x.msg t names)))

  few_at : (a k : ℕ) (r : ℕ) → Offer r k (w.requests a) → k < limit_of_requests
  few_at a k r o = omega (arith, one.few a, below_by_get (w.requests a) k o.0 o.1)

  opening_accepting : (s r a k : ℕ) (e f : EndId) → e.sess ≡ f.sess → length (w.requests s) < limit_of_requests → e.sess ≡ opened_number s (length (w.requests s)) → Offer r k (w.requests a) → f.sess ≡ opened_number a k → ⊥
  opening_accepting s r a k e f same lt num o num' =
      let n = opened_number_same s a (length (w.requests s)) k lt (few_at a k r o) (sym num ∙ same ∙ num') in
      absurd (omega (arith, n.1, below_by_get (w.requests a) k o.0 o.1, ap (λ (i : ℕ). length (w.requests i)) n.0))

  clash : (e f : EndId) → is_end e f ≡ true → Mine w p g e → Mine w q h f → ⊥
  clash e f t (bound b) (bound c) = bound_bound e f t b c
  clash e f t (bound b) (coming a x c n names) = bound_coming e f a x g p t gp b n names
  clash e f t (bound b) (opening lt num) = here_and_come e f t (bound_claims e g p gp b) (opening_comes w q f lt num)
  clash e f t (bound b) (accepting a k o num side) = here_and_come e f t (bound_claims e g p gp b) (accepting_comes w q a k f o num side)
  clash e f t (coming a x b n names) (bound c) = bound_coming f e a x h q (is_end_sym e f t) hq c n names
  clash e f t (coming a x b n names) (coming d y c k also) =
      absurd (omega (arith, one.once e, two_carried w e a d x y (false_from_ne_true (is_end a d) (λ u. absurd (bound_bound a d u b c))) n k names (names_same e f y.msg t also)))
  clash e f t (coming a x b n names) (opening lt num) = here_and_come e f t (coming_claims e a x n names) (opening_comes w q f lt num)
  clash e f t (coming a x b n names) (accepting d k o num side) = here_and_come e f t (coming_claims e a x n names) (accepting_comes w q d k f o num side)
  clash e f t (opening lt num) (bound c) = here_and_come f e (is_end_sym e f t) (bound_claims f h q hq c) (opening_comes w p e lt num)
  clash e f t (opening lt num) (coming a x c n names) = here_and_come f e (is_end_sym e f t) (coming_claims f a x n names) (opening_comes w p e lt num)
  clash e f t (opening lt num) (opening lt' num') = ne (opened_number_same p q (length (w.requests p)) (length (w.requests q)) lt lt' (sym num ∙ session_same e f t ∙ num')).0
  clash e f t (opening lt num) (accepting a k o num' side) = opening_accepting p q a k e f (session_same e f t) lt num o num'
  clash e f t (accepting a k o num side) (bound c) = here_and_come f e (is_end_sym e f t) (bound_claims f h q hq c) (accepting_comes w p a k e o num side)
  clash e f t (accepting a k o num side) (coming d x c n names) = here_and_come f e (is_end_sym e f t) (coming_claims f d x n names) (accepting_comes w p a k e o num side)
  clash e f t (accepting a k o num side) (opening lt num') = opening_accepting q p a k f e (sym (session_same e f t)) lt num' o num
  clash e f t (accepting a k o num side) (accepting b j r num' side') =
      let n = opened_number_same a b k j (few_at a k p o) (few_at b j q r) (sym num ∙ session_same e f t ∙ num') in
      let same : o.0 ≡ r.0 = (let both : Some o.0 ≡ Some r.0 = sym o.1 ∙ (λ i. slice_get (w.requests (n.0 i)) (n.1 i)) ∙ r.1 in cc) in
      ne (sym o.2 ∙ ap (λ (u : Rattle.sj_semantics.specs.Requests.Request). u.to) same ∙ r.2)

  pub ends_apart : (e f : EndId) → Mine w p g e → Mine w q h f → is_end e f ≡ false
  ends_apart e f m n = false_from_ne_true (is_end e f) (λ t. absurd (clash e f t m n))
