-- Parties and sessions that stand after others, and their acts.
use Rattle.std.proofs.Common.{◌≡◌, ℕ, suc, ◌<◌, nat_lt, cond, List, [], ◌∷◌, ◌++◌, length, slice_get, Some, None, option_map, option_and_then, unwrap_or, refl, ap, ◌∙◌}
use Rattle.std.proofs.lemmas.Bool.{lt-ltb}
use Rattle.sj_base.specs.declared.EndId.{EndId}
use Rattle.sj_base.specs.declared.Msg.{Msg}
use Rattle.sj_lang.specs.FileAt.{body_named}
use Rattle.sj_semantics.specs.declared.Awaits.{Awaits}
use Rattle.sj_semantics.specs.declared.Awaits.TheVariants as awaits
use Rattle.sj_semantics.specs.declared.Passed.{Passed}
use Rattle.sj_semantics.specs.declared.Want.{Want}
use Rattle.sj_semantics.specs.declared.Want.TheVariants as wants
use Rattle.sj_semantics.specs.Ends.{Session, end_on, other_side, nowhere, end_at, next_for}
use Rattle.sj_semantics.specs.Program.{Program}
use Rattle.sj_semantics.specs.Steps.{local_of, sent_of, took_of, closed_of}
use Rattle.sj_semantics.specs.Requests.{no_requests}
use Rattle.sj_semantics.specs.Uses.{Use, sends, takes, delegates, begins, end_after, altered_list, altered_session, on_side, after_uses}
use Rattle.sj_semantics.specs.Wants.{want_of}
use Rattle.sj_semantics.specs.World.{World, Change, session_message, plain_change, begun_at, change_by_taking, change_by, change_of_program, changed_world, act_of}
use Rattle.sj_semantics_laws.proofs.RunLemmas.{Leads, leads_on}
use Rattle.sj_generator_laws.specs.GeneratedFile as file

-- the index after these
abbrev pub place : {X : Type 0} → List X → ℕ → ℕ
place [] i = i
place (x ∷ xs) i = suc (place xs i)

slice_get-place : {X : Type 0} (xs ys : List X) (i : ℕ) → slice_get (xs ++ ys) (place xs i) ≡ slice_get ys i
slice_get-place [] ys i = refl
slice_get-place (x ∷ xs) ys i = slice_get-place xs ys i

altered-place : {X : Type 0} (xs ys : List X) (i : ℕ) (f : X → X) → altered_list (xs ++ ys) (place xs i) f ≡ xs ++ altered_list ys i f
altered-place [] ys i f = refl
altered-place (x ∷ xs) ys i f = ap (λ t. x ∷ t) (altered-place xs ys i f)

altered-session : (xs ys : List Session) (i : ℕ) (f : Session → Session) → altered_session (xs ++ ys) (place xs i) f ≡ xs ++ altered_session ys i f
altered-session [] ys i f = refl
altered-session (x ∷ xs) ys i f = ap (λ t. x ∷ t) (altered-session xs ys i f)

-- the side of the session at the index after these
abbrev pub end_behind : List Session → ℕ → ℕ → EndId
end_behind bs i d = record { sess = place bs i; side = d }

end_at-behind : (bs zs : List Session) (i d : ℕ) → end_at (bs ++ zs) (end_behind bs i d) ≡ end_at zs (record { sess = i; side = d })
end_at-behind bs zs i d = ap (λ o. unwrap_or (option_map (end_on d) o) nowhere) (slice_get-place bs zs i)

change_wanted : (w : World) (p : ℕ) (g : Program) (want : Want) → g.steps < 10000 → want_of g ≡ Some want → change_of_program w p g ≡ change_by w p g want
change_wanted w p g want few wants_it =
    ap (λ b. cond b (option_and_then (change_by w p g) (want_of g)) None) (lt-ltb g.steps 10000 few) ∙ ap (option_and_then (change_by w p g)) wants_it

module _ (bp : List Program) (bs : List Session) where
  -- the generated file's world of these parties and sessions, after the others
  abbrev pub behind : List Program → List Session → World
  behind gs zs = record { protocols = file.protocols; parties = bp ++ gs; sessions = bs ++ zs; requests = no_requests }

  module _ (gs : List Program) (zs : List Session) (j : ℕ) (g : Program) (v : World) (there : slice_get gs j ≡ Some g) (few : g.steps < 10000) where
    -- the party's act, and then others
    acts_then : (want : Want) (after : Program) (uses : List (EndId × Use)) (new : List Session) → want_of g ≡ Some want → change_by (behind gs zs) (place bp j) g want ≡ Some (plain_change after uses)
        → after_uses (place bp j) uses (bs ++ zs) ≡ bs ++ new → Leads (behind (altered_list gs j (λ h. after)) new) v → Leads (behind gs zs) v
    acts_then want after uses new wants_it makes leaves onward =
        let p = place bp j in
        let w = behind gs zs in
        let change : option_and_then (change_of_program w p) (slice_get (bp ++ gs) p) ≡ Some (plain_change after uses) =
        ap (option_and_then (change_of_program w p)) (slice_get-place bp gs j ∙ there) ∙ change_wanted w p g want few wants_it ∙ makes in
        let act : act_of w p ≡ Some (behind (altered_list gs j (λ h. after)) new) =
        ap (option_map (changed_world w p)) change
        ∙ (λ i. Some (record { protocols = file.protocols; parties = altered-place bp gs j (λ h. after) i; sessions = leaves i; requests = no_requests })) in
        leads_on w (behind (altered_list gs j (λ h. after)) new) v p act onward

    pub local_then : want_of g ≡ Some wants.Local → Leads (behind (altered_list gs j (λ h. local_of g)) zs) v → Leads (behind gs zs) v
    local_then wants_it onward = acts_then wants.Local (local_of g) [] zs wants_it refl refl onward

    pub close_then : (e : EndId) → want_of g ≡ Some (wants.Close e) → Leads (behind (altered_list gs j (λ h. closed_of g)) zs) v → Leads (behind gs zs) v
    close_then e wants_it onward = acts_then (wants.Close e) (closed_of g) [] zs wants_it refl refl onward

    pub send_then : (i d : ℕ) (m : Msg) → want_of g ≡ Some (wants.Send (end_behind bs i d) m)
        → Leads (behind (altered_list gs j (λ h. sent_of g)) (altered_session zs i (on_side d (end_after (place bp j) (sends m))))) v → Leads (behind gs zs) v
    send_then i d m wants_it onward =
        acts_then (wants.Send (end_behind bs i d) m) (sent_of g) ((end_behind bs i d, sends m) ∷ []) (altered_session zs i (on_side d (end_after (place bp j) (sends m)))) wants_it refl
        (altered-session bs zs i (on_side d (end_after (place bp j) (sends m)))) onward

    -- what a take makes of the program, and of the ends that it uses
    takes_so : (i d : ℕ) (a : Awaits) (x : Passed) → next_for zs (record { sess = i; side = d }) ≡ Some x
        → change_by (behind gs zs) (place bp j) g (wants.Take (end_behind bs i d) a) ≡ Some (change_by_taking file.protocols g (end_behind bs i d) a x)
    takes_so i d a x next =
        ap (option_map (change_by_taking file.protocols g (end_behind bs i d) a)) ((λ k. slice_get (end_at-behind bs zs i (other_side d) k).sent (length (end_at-behind bs zs i d k).takers)) ∙ next)

    -- the message moves no end
    pub take_then : (i d : ℕ) (a : Awaits) (x : Passed) → want_of g ≡ Some (wants.Take (end_behind bs i d) a) → next_for zs (record { sess = i; side = d }) ≡ Some x → begun_at file.protocols a x.msg ≡ []
        → Leads (behind (altered_list gs j (λ h. took_of g x.msg)) (altered_session zs i (on_side d (end_after (place bp j) (takes x.msg))))) v → Leads (behind gs zs) v
    take_then i d a x wants_it next none onward =
        let e = end_behind bs i d in
        acts_then (wants.Take e a) (took_of g x.msg) ((e, takes x.msg) ∷ []) (altered_session zs i (on_side d (end_after (place bp j) (takes x.msg)))) wants_it
        (takes_so i d a x next ∙ ap (λ us. Some (plain_change (took_of g x.msg) ((e, takes x.msg) ∷ us))) none)
        (altered-session bs zs i (on_side d (end_after (place bp j) (takes x.msg)))) onward

    -- it moves one, which begins at the body of the protocol of that name
    pub take_end_then : (i d k c q by keeper : ℕ) → want_of g ≡ Some (wants.Take (end_behind bs i d) (awaits.Session q))
        → next_for zs (record { sess = i; side = d }) ≡ Some (record { msg = session_message (end_behind bs k c) keeper; by = by })
        → Leads (behind (altered_list gs j (λ h. took_of g (session_message (end_behind bs k c) keeper)))
        (altered_session (altered_session zs i (on_side d (end_after (place bp j) (takes (session_message (end_behind bs k c) keeper))))) k (on_side c (end_after (place bp j) (begins (body_named file.protocols q)))))) v
        → Leads (behind gs zs) v
    take_end_then i d k c q by keeper wants_it next onward =
        let p = place bp j in
        let e = end_behind bs i d in
        let m = session_message (end_behind bs k c) keeper in
        let body = body_named file.protocols q in
        let taken = altered_session zs i (on_side d (end_after p (takes m))) in
        acts_then (wants.Take e (awaits.Session q)) (took_of g m) ((e, takes m) ∷ (end_behind bs k c, begins body) ∷ []) (altered_session taken k (on_side c (end_after p (begins body)))) wants_it
        (takes_so i d (awaits.Session q) (record { msg = m; by = by }) next)
        (ap (λ t. altered_session t (place bs k) (on_side c (end_after p (begins body)))) (altered-session bs zs i (on_side d (end_after p (takes m))))
        ∙ altered-session bs taken k (on_side c (end_after p (begins body)))) onward

    pub delegate_then : (i d k c : ℕ) → want_of g ≡ Some (wants.Delegate (end_behind bs i d) (end_behind bs k c)) → (end_at zs (record { sess = k; side = c })).hops < 100
        → Leads (behind (altered_list gs j (λ h. sent_of g)) (altered_session (altered_session zs k (on_side c (end_after (place bp j) delegates))) i (on_side d (end_after (place bp j) (sends (session_message (end_behind bs k c) (place bp j))))))) v
        → Leads (behind gs zs) v
    delegate_then i d k c wants_it below onward =
        let e = end_behind bs i d in
        let y = end_behind bs k c in
        let m = session_message y (place bp j) in
        let uses : List (EndId × Use) = (y, delegates) ∷ (e, sends m) ∷ [] in
        let made : Change = plain_change (sent_of g) uses in
        let handed = altered_session zs k (on_side c (end_after (place bp j) delegates)) in
        acts_then (wants.Delegate e y) (sent_of g) uses (altered_session handed i (on_side d (end_after (place bp j) (sends m)))) wants_it
        (ap (λ t. cond (nat_lt t.hops 100) (Some made) None) (end_at-behind bs zs k c) ∙ ap (λ b. cond b (Some made) None) (lt-ltb (end_at zs (record { sess = k; side = c })).hops 100 below))
        (ap (λ t. altered_session t (place bs i) (on_side d (end_after (place bp j) (sends m)))) (altered-session bs zs k (on_side c (end_after (place bp j) delegates)))
        ∙ altered-session bs handed i (on_side d (end_after (place bp j) (sends m)))) onward
