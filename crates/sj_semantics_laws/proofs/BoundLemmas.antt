-- A step names ends that are bound at its party.
use Rattle.std.proofs.Common.{◌≡◌, ℕ, zero, suc, ◌≤◌, ◌==◌, Bool, true, false, cond, List, [], ◌∷◌, Option, Some, None, option_map, option_and_then, refl, ap, sym, ◌∙◌, arith, subst, inl, inr}
use Rattle.std.specs.Bool.{⊤}
use Rattle.std.proofs.lemmas.Bool.{eqb-true, eq-eqb, and_parts, and_from, true≢false, false_from_ne_true, cases_Bool}
use Rattle.std.proofs.lemmas.List.Sums.{sum_by-cons, sum_by-le-sum_by}
use Rattle.sj_base.specs.declared.EndId.{EndId}
use Rattle.sj_base.specs.declared.Msg.{Msg}
use Rattle.sj_lang.specs.Code.{DeedAt, send, delegate, take_value, take_end, outbranch, inbranch, outwhile, inwhile, relay, if_else, let_be, close, request, accept}
use Rattle.sj_semantics.specs.declared.Want.{Want}
use Rattle.sj_semantics.specs.declared.Want.TheVariants as wants
use Rattle.sj_semantics.specs.declared.Awaits.{Awaits}
use Rattle.sj_semantics.specs.Value.{Vars, worth, truth_of}
use Rattle.sj_lang.specs.FileAt.{named}
use Rattle.sj_semantics.specs.Program.{Program, Thing, statement, turns, passing}
use Rattle.sj_semantics.specs.Wants.{want_send, want_delegate, want_take, want_of_deed, want_of_todo, want_of}
use Rattle.sj_semantics.specs.Ends.{is_same_side, is_end}
use Rattle.sj_semantics_laws.specs.Bound.{IsBound, AreBound}
use Rattle.sj_semantics_laws.specs.Unshared.{bindings_of}

is_same_side-self : (c : ℕ) → is_same_side c c ≡ true
is_same_side-self zero = refl
is_same_side-self (suc c) = refl

is_same_side_sym : (c d : ℕ) → is_same_side c d ≡ true → is_same_side d c ≡ true
is_same_side_sym zero zero e = refl
is_same_side_sym zero (suc d) e = cc
is_same_side_sym (suc c) zero e = cc
is_same_side_sym (suc c) (suc d) e = refl

is_same_side_trans : (b c d : ℕ) → is_same_side b c ≡ true → is_same_side c d ≡ true → is_same_side b d ≡ true
is_same_side_trans zero zero d e f = f
is_same_side_trans zero (suc c) d e f = cc
is_same_side_trans (suc b) zero d e f = cc
is_same_side_trans (suc b) (suc c) zero e f = cc
is_same_side_trans (suc b) (suc c) (suc d) e f = refl

pub is_end-self : (e : EndId) → is_end e e ≡ true
is_end-self e = and_from _ _ (eq-eqb e.sess e.sess refl) (is_same_side-self e.side)

pub is_end_sym : (e f : EndId) → is_end e f ≡ true → is_end f e ≡ true
is_end_sym e f h = let parts = and_parts (e.sess == f.sess) (is_same_side e.side f.side) h in
    and_from _ _ (eq-eqb f.sess e.sess (sym (eqb-true e.sess f.sess parts.0))) (is_same_side_sym e.side f.side parts.1)

pub is_end_trans : (e f g : EndId) → is_end e f ≡ true → is_end f g ≡ true → is_end e g ≡ true
is_end_trans e f g h k =
    let left = and_parts (e.sess == f.sess) (is_same_side e.side f.side) h in
    let right = and_parts (f.sess == g.sess) (is_same_side f.side g.side) k in
    and_from _ _ (eq-eqb e.sess g.sess (eqb-true e.sess f.sess left.0 ∙ eqb-true f.sess g.sess right.0)) (is_same_side_trans e.side f.side g.side left.1 right.1)

pub is_end_sym_false : (e f : EndId) → is_end e f ≡ false → is_end f e ≡ false
is_end_sym_false e f h = false_from_ne_true (is_end f e) (λ t. true≢false (sym (is_end_sym f e t) ∙ h))

cond_le : (b c : Bool) → (b ≡ true → c ≡ true) → cond b 1 0 ≤ cond c 1 0
cond_le true c h = subst (λ (t : Bool). 1 ≤ cond t 1 0) (sym (h refl)) (omega arith)
cond_le false c h = omega arith

-- an end that is the other one has at least its names
pub bindings_of-le : (e f : EndId) (ends : List (ℕ × EndId)) → is_end e f ≡ true → bindings_of f ends ≤ bindings_of e ends
bindings_of-le e f ends h = sum_by-le-sum_by (λ (b : ℕ × EndId). cond (is_end f b.1) 1 0) (λ (b : ℕ × EndId). cond (is_end e b.1) 1 0) ends (λ b. cond_le (is_end f b.1) (is_end e b.1) (is_end_trans e f b.1 h))

bound_here : (e : EndId) (b : ℕ × EndId) (bs : List (ℕ × EndId)) → is_end e b.1 ≡ true → IsBound e (b ∷ bs)
bound_here e b bs h = record { some_name = omega (arith, sum_by-cons (λ (c : ℕ × EndId). cond (is_end e c.1) 1 0) b bs, ap {B = ℕ} (λ (t : Bool). cond t 1 0) h) }

bound_later : (e : EndId) (b : ℕ × EndId) (bs : List (ℕ × EndId)) → IsBound e bs → IsBound e (b ∷ bs)
bound_later e b bs h = record { some_name = omega (arith, sum_by-cons (λ (c : ℕ × EndId). cond (is_end e c.1) 1 0) b bs, h.some_name) }

pub named_is_bound : (bs : List (ℕ × EndId)) (x : ℕ) (e : EndId) → named bs x ≡ Some e → IsBound e bs
named_is_bound [] x e h = cc
named_is_bound (b ∷ bs) x e h =
    elim (cases_Bool (b.0 == x)) [
      | inl hit ↦ let f : Some b.1 ≡ Some e = ap (λ (t : Bool). cond t (Some b.1) (named bs x)) (sym hit) ∙ h in let s : b.1 ≡ e = cc in bound_here e b bs (ap (is_end e) s ∙ is_end-self e)
      | inr miss ↦ bound_later e b bs (named_is_bound bs x e (ap (λ (t : Bool). cond t (Some b.1) (named bs x)) (sym miss) ∙ h))
    ]

abbrev pub AreBoundIf : List (ℕ × EndId) → Option Want → Type 0
AreBoundIf ends None = ⊤
AreBoundIf ends (Some want) = AreBound ends want

abbrev BoundIf : List (ℕ × EndId) → Option EndId → Type 0
BoundIf ends None = ⊤
BoundIf ends (Some e) = IsBound e ends

send_bound : (ends : List (ℕ × EndId)) (o : Option EndId) (m : Option Msg) → BoundIf ends o → AreBoundIf ends (want_send o m)
send_bound ends (Some e) (Some m) b = b
send_bound ends (Some e) None b = tt
send_bound ends None m b = tt

delegate_bound : (ends : List (ℕ × EndId)) (o q : Option EndId) → BoundIf ends o → BoundIf ends q → AreBoundIf ends (want_delegate o q)
delegate_bound ends (Some e) (Some y) b c = (b, c)
delegate_bound ends (Some e) None b c = tt
delegate_bound ends None q b c = tt

take_bound : (ends : List (ℕ × EndId)) (o : Option EndId) (a : Awaits) → BoundIf ends o → AreBoundIf ends (want_take o a)
take_bound ends (Some e) a b = b
take_bound ends None a b = tt

close_bound : (ends : List (ℕ × EndId)) (o : Option EndId) → BoundIf ends o → AreBoundIf ends (option_map wants.Close o)
close_bound ends (Some e) b = b
close_bound ends None b = tt

local_bound : {X : Type 0} (ends : List (ℕ × EndId)) (o : Option X) → AreBoundIf ends (option_map (λ v. wants.Local) o)
local_bound ends (Some x) = tt
local_bound ends None = tt

bound_if : (ends : List (ℕ × EndId)) (o : Option EndId) → ((e : EndId) → o ≡ Some e → IsBound e ends) → BoundIf ends o
bound_if ends None h = tt
bound_if ends (Some e) h = h e refl

named_bound_if : (ends : List (ℕ × EndId)) (x : ℕ) → BoundIf ends (named ends x)
named_bound_if ends x = bound_if ends (named ends x) (named_is_bound ends x)

deed_bound : (peers : List ℕ) (vars : Vars) (ends : List (ℕ × EndId)) (deed : DeedAt) → AreBoundIf ends (want_of_deed peers vars ends deed)
deed_bound peers vars ends (send x e) = send_bound ends (named ends x) _ (named_bound_if ends x)
deed_bound peers vars ends (delegate x y) = delegate_bound ends (named ends x) (named ends y) (named_bound_if ends x) (named_bound_if ends y)
deed_bound peers vars ends (take_value x n k) = take_bound ends (named ends x) _ (named_bound_if ends x)
deed_bound peers vars ends (take_end x y p) = take_bound ends (named ends x) _ (named_bound_if ends x)
deed_bound peers vars ends (outbranch x l) = send_bound ends (named ends x) _ (named_bound_if ends x)
deed_bound peers vars ends (inbranch x arms) = take_bound ends (named ends x) _ (named_bound_if ends x)
deed_bound peers vars ends (outwhile x e body) = send_bound ends (named ends x) _ (named_bound_if ends x)
deed_bound peers vars ends (inwhile x body) = take_bound ends (named ends x) _ (named_bound_if ends x)
deed_bound peers vars ends (relay x y body) = take_bound ends (named ends x) _ (named_bound_if ends x)
deed_bound peers vars ends (if_else e first second) = local_bound ends (option_and_then truth_of (worth vars e))
deed_bound peers vars ends (let_be n e) = local_bound ends (worth vars e)
deed_bound peers vars ends (close x) = close_bound ends (named ends x) (named_bound_if ends x)
deed_bound peers vars ends (request x p b) = tt
deed_bound peers vars ends (accept x p b) = tt

todo_bound : (peers : List ℕ) (vars : Vars) (ends : List (ℕ × EndId)) (todo : List Thing) → AreBoundIf ends (want_of_todo peers vars ends todo)
todo_bound peers vars ends [] = tt
todo_bound peers vars ends (statement deed ∷ rest) = deed_bound peers vars ends deed
todo_bound peers vars ends (turns x n body ∷ rest) = send_bound ends (named ends x) _ (named_bound_if ends x)
todo_bound peers vars ends (passing x y more body ∷ rest) = send_bound ends (named ends y) _ (named_bound_if ends y)

pub want_bound : (g : Program) (want : Want) → want_of g ≡ Some want → AreBound g.ends want
want_bound g want h = subst (AreBoundIf g.ends) h (todo_bound g.peers g.vars g.ends g.todo)
