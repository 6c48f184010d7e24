-- A delegated end is on its way until its session message is taken.
use Rattle.std.proofs.Common.{◌≡◌, ℕ, zero, suc, ◌≤◌, nat_lt, Bool, true, false, cond, List, [], ◌∷◌, ◌++◌, length, drop, slice_get, Some, None, sum_by, count_by, refl, ap, sym, ◌∙◌, subst, arith, inl, inr}
use Rattle.std.proofs.lemmas.Bool.{cases_Bool}
use Rattle.std.proofs.lemmas.List.Sums.{sum_by-cons}
use Rattle.sj_base.specs.declared.EndId.{EndId}
use Rattle.sj_semantics.specs.declared.Passed.{Passed}
use Rattle.sj_semantics.specs.declared.Want.{Want}
use Rattle.sj_semantics.specs.declared.Want.TheVariants as wants
use Rattle.sj_semantics.specs.Ends.{Session, EndAt, end_on, other_side, other_end, end_at, is_end}
use Rattle.sj_semantics.specs.Program.{Program}
use Rattle.sj_semantics.specs.Run.{after_acts}
use Rattle.sj_semantics.specs.Steps.{sent_of}
use Rattle.sj_semantics.specs.Uses.{sends, delegates, after_uses}
use Rattle.sj_semantics.specs.Wants.{want_of}
use Rattle.sj_semantics.specs.World.{World, Change, plain_change, session_message, change_by, changed_world, act_of}
use Rattle.sj_semantics_laws.specs.Runs.{IsBoundNowhere, IsUntaken}
use Rattle.sj_semantics_laws.specs.Unshared.{names_end, carried_in, IsUnshared}
use Rattle.sj_semantics_laws.proofs.ActsLemmas.{step_of}
use Rattle.sj_semantics_laws.proofs.AlteredLemmas.{session_in, session-le-sum_by}
use Rattle.sj_semantics_laws.proofs.BoundLemmas.{is_end-self}
use Rattle.sj_semantics_laws.proofs.ChangeLemmas.{rests_on}
use Rattle.sj_semantics_laws.proofs.CommuteLemmas.{doing_of}
use Rattle.sj_semantics_laws.proofs.EndLemmas.{touched, end_at-session, end_at-touched_other, end_at-touched_same, Extends, end_at-after_uses_extends}
use Rattle.sj_semantics_laws.proofs.HolderLemmas.{none_on_the_way}

-- ---- a message that is on its way

-- one that isn't dropped and names the end is counted
counted : (e : EndId) (k n : ℕ) (xs : List Passed) (x : Passed) → k ≤ n → slice_get xs n ≡ Some x → names_end e x.msg ≡ true → 1 ≤ count_by (λ y. names_end e y.msg) (drop k xs)
counted e k n [] x le h names = cc
counted e (suc k) zero (y ∷ xs) x le h names = absurd (omega (arith, le))
counted e (suc k) (suc n) (y ∷ xs) x le h names = counted e k n xs x (omega (arith, le)) h names
counted e zero zero (y ∷ xs) x le h names =
    let it : y ≡ x = cc in
    omega (arith, sum_by-cons (λ (z : Passed). cond (names_end e z.msg) 1 0) y xs, ap {B = ℕ} (λ (b : Bool). cond b 1 0) (ap (λ (z : Passed). names_end e z.msg) it ∙ names))
counted e zero (suc n) (y ∷ xs) x le h names =
    omega (arith, sum_by-cons (λ (z : Passed). cond (names_end e z.msg) 1 0) y xs, counted e zero n xs x (omega arith) h names)

carried_on : (e : EndId) (side n : ℕ) (z : Session) (x : Passed) → length (end_on (other_side side) z).takers ≤ n → slice_get (end_on side z).sent n ≡ Some x → names_end e x.msg ≡ true → 1 ≤ carried_in e z
carried_on e zero n z x le h names = omega (arith, counted e (length z.second.takers) n z.first.sent x le h names)
carried_on e (suc side) n z x le h names = omega (arith, counted e (length z.first.takers) n z.second.sent x le h names)

carried_by : (e f : EndId) (n : ℕ) (zs : List Session) (x : Passed) → length (end_at zs (other_end f)).takers ≤ n → slice_get (end_at zs f).sent n ≡ Some x → names_end e x.msg ≡ true → 1 ≤ sum_by (carried_in e) zs
carried_by e f n zs x le h names =
    omega (
      arith,
      carried_on e f.side n (session_in zs f.sess) x (omega (arith, le, ap (λ (t : EndAt). length t.takers) (end_at-session zs (other_end f)))) (ap (λ (t : EndAt). slice_get t.sent n) (sym (end_at-session zs f)) ∙ h) names,
      session-le-sum_by (carried_in e) refl zs f.sess,
    )

-- an end that an untaken message names is bound nowhere
pub on_its_way : (w : World) (e f : EndId) (n : ℕ) (x : Passed) → IsUnshared w → IsUntaken w f n → slice_get (end_at w.sessions f).sent n ≡ Some x → names_end e x.msg ≡ true → IsBoundNowhere w e
on_its_way w e f n x one untaken there names =
    λ p b.
    let carried = carried_by e f n w.sessions x untaken there names in
    omega (arith, none_on_the_way w p b.0 e one carried b.1, b.2.some_name)

-- ---- the act that delegates

-- delegating an end sends nothing
hands_on_sends_none : (p : ℕ) (zs : List Session) (y e : EndId) → (end_at (touched p zs (y, delegates)) e).sent ≡ (end_at zs e).sent
hands_on_sends_none p zs y e =
    elim (cases_Bool (is_end y e)) [
      | inl it ↦ ap (λ (t : EndAt). t.sent) (end_at-touched_same p zs (y, delegates) e it)
      | inr other ↦ ap (λ (t : EndAt). t.sent) (end_at-touched_other p zs (y, delegates) e other)
    ]

pub push_there : (xs : List Passed) (x : Passed) → slice_get (xs ++ x ∷ []) (length xs) ≡ Some x
push_there [] x = refl
push_there (y ∷ xs) x = push_there xs x

-- the session message stands after what was sent before
session_message_sent : (p : ℕ) (zs : List Session) (e y : EndId)
    → slice_get (end_at (after_uses p ((y, delegates) ∷ (e, sends (session_message y p)) ∷ []) zs) e).sent (length (end_at zs e).sent) ≡ Some (record { msg = session_message y p; by = p })
session_message_sent p zs e y =
    let zs2 = touched p zs (y, delegates) in
    let x : Passed = record { msg = session_message y p; by = p } in
    let all : (end_at (touched p zs2 (e, sends (session_message y p))) e).sent ≡ (end_at zs e).sent ++ x ∷ [] =
    ap (λ (t : EndAt). t.sent) (end_at-touched_same p zs2 (e, sends (session_message y p)) e (is_end-self e))
    ∙ ap (λ xs. xs ++ x ∷ []) (hands_on_sends_none p zs y e) in
    ap (λ xs. slice_get xs (length (end_at zs e).sent)) all ∙ push_there (end_at zs e).sent x

sent_if : (zs : List Session) (p : ℕ) (e y : EndId) (b : Bool) (c d : Change) → c.uses ≡ (y, delegates) ∷ (e, sends (session_message y p)) ∷ [] → cond b (Some c) None ≡ Some d
    → slice_get (end_at (after_uses p d.uses zs) e).sent (length (end_at zs e).sent) ≡ Some (record { msg = session_message y p; by = p })
sent_if zs p e y true c d uses h =
    let it : c ≡ d = cc in
    subst (λ us. slice_get (end_at (after_uses p us zs) e).sent (length (end_at zs e).sent) ≡ Some (record { msg = session_message y p; by = p }))
    (sym uses ∙ ap (λ (t : Change). t.uses) it) (session_message_sent p zs e y)
sent_if zs p e y false c d uses h = cc

pub delegating_sends : (w v : World) (p : ℕ) (g : Program) (e y : EndId) → slice_get w.parties p ≡ Some g → want_of g ≡ Some (wants.Delegate e y) → act_of w p ≡ Some v
    → slice_get (end_at v.sessions e).sent (length (end_at w.sessions e).sent) ≡ Some (record { msg = session_message y p; by = p })
delegating_sends w v p g e y there wants_it h =
    let a = doing_of w p v h in
    let r = rests_on w p a.program a.change a.made in
    let it : a.program ≡ g = (let both : Some a.program ≡ Some g = sym a.there ∙ there in cc) in
    let same : r.want ≡ wants.Delegate e y = (let both : Some r.want ≡ Some (wants.Delegate e y) = sym r.wants_it ∙ ap want_of it ∙ wants_it in cc) in
    let made = subst (λ (t : Want). change_by w p a.program t ≡ Some a.change) same r.by_it in
    subst (λ (t : World). slice_get (end_at t.sessions e).sent (length (end_at w.sessions e).sent) ≡ Some (record { msg = session_message y p; by = p })) a.result
    (sent_if w.sessions p e y (nat_lt (end_at w.sessions y).hops 100) (plain_change (sent_of a.program) ((y, delegates) ∷ (e, sends (session_message y p)) ∷ [])) a.change refl made)

-- what was sent stays sent
pub acts_extend : (w v : World) (ps : List ℕ) (e : EndId) → after_acts w ps ≡ Some v → Extends (end_at v.sessions e).sent (end_at w.sessions e).sent
acts_extend w v [] e h = subst (λ (t : World). Extends (end_at t.sessions e).sent (end_at w.sessions e).sent) (let it : w ≡ v = cc in it) (λ k x t. t)
acts_extend w v (p ∷ ps) e h =
    let s = step_of w v p ps h in
    λ k x t. acts_extend (changed_world w p s.change) v ps e s.afterwards k x (end_at-after_uses_extends p s.change.uses w.sessions e k x t)
