-- In the runs of a file without requests and accepts no session is opened.
use Rattle.std.proofs.Common.{◌≡◌, ℕ, zero, suc, ◌+◌, nat_lt, Bool, true, false, cond, List, [], ◌∷◌, slice_get, Option, Some, None, option_map, refl, ap, sym, ◌∙◌, subst, inl, inr}
use Rattle.std.proofs.lemmas.Bool.{cases_eq}
use Rattle.sj_lang.specs.FileAt.{FileAt, PartyAt}
use Rattle.sj_semantics.specs.declared.Passed.{Passed}
use Rattle.sj_semantics.specs.declared.Want.{Want}
use Rattle.sj_semantics.specs.declared.Want.TheVariants as wants
use Rattle.sj_semantics.specs.Ends.{end_at, next_for, limit_of_hops}
use Rattle.sj_semantics.specs.Program.{Program}
use Rattle.sj_semantics.specs.Requests.{Opening, no_opening, requests_after}
use Rattle.sj_semantics.specs.Run.{IsRun, after_acts}
use Rattle.sj_semantics.specs.Steps.{local_of, sent_of, closed_of}
use Rattle.sj_semantics.specs.Uses.{sends, delegates, altered_list}
use Rattle.sj_semantics.specs.World.{World, Change, plain_change, session_message, change_by_taking, change_by, changed_world, act_of, programs_from, start_of}
use Rattle.sj_semantics_laws.specs.Openless.{OpensNone, TodoOpensNone, IsOpenless}
use Rattle.sj_semantics_laws.proofs.AlteredLemmas.{slice_get-altered, slice_get-altered_other}
use Rattle.sj_semantics_laws.proofs.ChangeLemmas.{rests_on}
use Rattle.sj_semantics_laws.proofs.CommuteLemmas.{Doing, doing_of}
use Rattle.sj_semantics_laws.proofs.OpenlessLemmas.{IsNoOpening, block_opens_none, local_opens_none, sent_opens_none, took_opens_none, rest_opens_none, want_no_opening}
use Rattle.sj_semantics_laws.proofs.RunLemmas.{between}

-- the change opens nothing, and what is to do then opens nothing
abbrev IsPlain : Change → Type 0
IsPlain c = (c.opening ≡ no_opening) × TodoOpensNone c.program.todo

option_plain : {X : Type 0} (d : Change) (f : X → Change) (o : Option X) → ((x : X) → IsPlain (f x)) → option_map f o ≡ Some d → IsPlain d
option_plain d f None h e = cc
option_plain d f (Some x) h e = subst IsPlain (let it : f x ≡ d = cc in it) (h x)

cond_plain : (b : Bool) (c d : Change) → IsPlain c → cond b (Some c) None ≡ Some d → IsPlain d
cond_plain true c d h e = subst IsPlain (let it : c ≡ d = cc in it) h
cond_plain false c d h e = cc

by_plain : (w : World) (p : ℕ) (g : Program) (d : Change) (want : Want) → TodoOpensNone g.todo → IsNoOpening want → change_by w p g want ≡ Some d → IsPlain d
by_plain w p g d wants.Ended none old h = cc
by_plain w p g d wants.Local none old h = cond_plain true (plain_change (local_of g) []) d (refl, local_opens_none g.vars g.todo none) h
by_plain w p g d (wants.Send e m) none old h = cond_plain true (plain_change (sent_of g) ((e, sends m) ∷ [])) d (refl, sent_opens_none g.vars g.todo none) h
by_plain w p g d (wants.Delegate e y) none old h =
    cond_plain (nat_lt (end_at w.sessions y).hops limit_of_hops) (plain_change (sent_of g) ((y, delegates) ∷ (e, sends (session_message y p)) ∷ [])) d (refl, sent_opens_none g.vars g.todo none) h
by_plain w p g d (wants.Take e a) none old h = option_plain d (change_by_taking w.protocols g e a) (next_for w.sessions e) (λ (x : Passed). (refl, took_opens_none g.todo x.msg none)) h
by_plain w p g d (wants.Close e) none old h = cond_plain true (plain_change (closed_of g) []) d (refl, rest_opens_none g.todo none) h
by_plain w p g d (wants.Request n q) none old h = absurd old
by_plain w p g d (wants.Accept n q) none old h = absurd old

-- no party has an opening to do, and none was done
pub record OpenedNone (w : World) : Type 0 where
  pub todo : (p : ℕ) (g : Program) → slice_get w.parties p ≡ Some g → TodoOpensNone g.todo
  pub nothing : (p : ℕ) → w.requests p ≡ []

doing_plain : (w v : World) (p : ℕ) → OpenedNone w → (a : Doing w p v) → IsPlain a.change
doing_plain w v p one a =
    let r = rests_on w p a.program a.change a.made in
    let none = one.todo p a.program a.there in
    by_plain w p a.program a.change r.want none (want_no_opening a.program r.want none r.wants_it) r.by_it

todo_after : (w : World) (p : ℕ) (c : Change) → OpenedNone w → IsPlain c → (q : ℕ) (g : Program) → slice_get (altered_list w.parties p (λ (t : Program). c.program)) q ≡ Some g → TodoOpensNone g.todo
todo_after w p c one plain q g h =
    elim (cases_eq p q) [
      | inl same ↦ by_there (slice_get w.parties p) (sym (slice_get-altered w.parties p (λ (t : Program). c.program)) ∙ ap (slice_get (altered_list w.parties p (λ (t : Program). c.program))) same ∙ h)
      | inr other ↦ one.todo q g (sym (slice_get-altered_other w.parties p q (λ (t : Program). c.program) other) ∙ h)
    ]
  where
    by_there : (o : Option Program) → option_map (λ (t : Program). c.program) o ≡ Some g → TodoOpensNone g.todo
    by_there None e = cc
    by_there (Some t) e = subst (λ (u : Program). TodoOpensNone u.todo) (let it : c.program ≡ g = cc in it) plain.1

act_opens_none : (w v : World) (p : ℕ) → OpenedNone w → act_of w p ≡ Some v → OpenedNone v
act_opens_none w v p one h =
    let a = doing_of w p v h in
    let plain = doing_plain w v p one a in
    subst OpenedNone a.result
    (record {
      todo = λ q g there. todo_after w p a.change one plain q g there;
      nothing = λ q. ap (λ (o : Opening). requests_after p o q (w.requests q)) plain.0 ∙ one.nothing q;
    })

acts_open_none : (w v : World) (ps : List ℕ) → OpenedNone w → after_acts w ps ≡ Some v → OpenedNone v
acts_open_none w v [] one h = subst OpenedNone (let it : w ≡ v = cc in it) one
acts_open_none w v (p ∷ ps) one h =
    let m = between (λ x. after_acts x ps) (act_of w p) v h in
    acts_open_none m.world v ps (act_opens_none w m.world p one m.before) m.afterwards

programs_open_none : (file : FileAt) (k p : ℕ) (qs : List PartyAt) (g : Program) → ((i : ℕ) (q : PartyAt) → slice_get qs i ≡ Some q → OpensNone q.code) → slice_get (programs_from file k qs) p ≡ Some g → TodoOpensNone g.todo
programs_open_none file k p [] g none h = cc
programs_open_none file k zero (q ∷ qs) g none h = subst (λ (t : Program). TodoOpensNone t.todo) (let it : Rattle.sj_semantics.specs.World.program_of file k q ≡ g = cc in it) (block_opens_none q.code [] (none 0 q refl) tt)
programs_open_none file k (suc p) (q ∷ qs) g none h = programs_open_none file (k + 1) p qs g (λ i r there. none (suc i) r there) h

-- in every world of a run
pub run_opens_none : (file : FileAt) (ps : List ℕ) (w : World) → IsOpenless file → IsRun file ps w → OpenedNone w
run_opens_none file ps w none run =
    acts_open_none (start_of file) w ps (record { todo = λ p g there. programs_open_none file 0 p file.parties g (λ i q h. none.none i q h) there; nothing = λ p. refl }) run

-- each step of a party is one that opens nothing
pub run_wants_no_opening : (file : FileAt) (ps : List ℕ) (w : World) (p : ℕ) (g : Program) (want : Want) → IsOpenless file → IsRun file ps w → slice_get w.parties p ≡ Some g
    → Rattle.sj_semantics.specs.Wants.want_of g ≡ Some want → IsNoOpening want
run_wants_no_opening file ps w p g want none run there h = want_no_opening g want ((run_opens_none file ps w none run).todo p g there) h
