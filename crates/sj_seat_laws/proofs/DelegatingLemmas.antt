-- An end that a call delegates is sent, and isn't held while its session message is untaken.
use Rattle.std.proofs.Common.{◌≡◌, ℕ, ◌+◌, nat_lt, Bool, true, false, not, cond, List, [], ◌∷◌, ◌++◌, length, slice_get, Some, None, option_map, refl, ap, sym, ◌∙◌, arith}
use Rattle.sj_base.specs.declared.EndId.{EndId}
use Rattle.sj_lang.specs.FileAt.{FileAt}
use Rattle.sj_lang.specs.Place.{Place}
use Rattle.sj_semantics.specs.declared.Passed.{Passed}
use Rattle.sj_semantics.specs.Acts.{sent_by, uses_on}
use Rattle.sj_semantics.specs.Ends.{end_at, is_end}
use Rattle.sj_semantics.specs.Program.{Program}
use Rattle.sj_semantics.specs.Uses.{Use, altered_list, after_uses, delegates, sends}
use Rattle.sj_semantics.specs.World.{World, session_message}
use Rattle.sj_semantics_laws.specs.Runs.{IsUntaken}
use Rattle.sj_semantics_laws.specs.Unshared.{IsToCome, IsUnshared, bindings_of, claims_on, to_accept, to_open}
use Rattle.sj_semantics_laws.proofs.AlteredLemmas.{slice_get-altered, sum_by-altered}
use Rattle.sj_semantics_laws.proofs.BoundLemmas.{is_end-self}
use Rattle.sj_semantics_laws.proofs.OnItsWayLemmas.{on_its_way}
use Rattle.sj_rules.specs.Node as wanted
use Rattle.sj_seat_laws.specs.Calls.{Ends, place_held}
use Rattle.sj_seat_laws.specs.Guards.{seated_want}
use Rattle.sj_seat_laws.specs.SeatedStart.{no_program}
use Rattle.sj_seat_laws.specs.SeatedWorld.{Doing, SeatedWorld, doing_by, doing_of, plain_doing}
use Rattle.sj_seat_laws.proofs.HeadlineLemmas.{sent_after_uses}
use Rattle.sj_seat_laws.proofs.HeldLemmas.{held_by_place, holds, numbered}
use Rattle.sj_seat_laws.proofs.SeatedLemmas.{IsSeat}

-- ---- the world in which the party binds what it holds

abbrev binding : FileAt → Ends → Program
binding file bs = record { todo = (no_program file).todo; vars = (no_program file).vars; ends = numbered bs; steps = 0; peers = (no_program file).peers }

abbrev bound_world : FileAt → ℕ → SeatedWorld → World
bound_world file p t = record { protocols = t.world.protocols; parties = altered_list t.world.parties p (λ g. binding file t.seat.ends); sessions = t.world.sessions; requests = t.world.requests }

module _ (file : FileAt) (p : ℕ) (t : SeatedWorld) (s : IsSeat file p t) where
  same_claims : (e : EndId) → claims_on e (bound_world file p t) ≡ claims_on e t.world + holds e t.seat.ends
  same_claims e = omega (arith, sum_by-altered (λ (g : Program). bindings_of e g.ends) t.world.parties p (λ g. binding file t.seat.ends) (no_program file) s.idle)

  come : (e : EndId) → IsToCome (bound_world file p t) e → IsToCome t.world e
  come e (to_open q k le lt is) = to_open q k le lt is
  come e (to_accept q k r at none is second) = to_accept q k r at none is second

  bound_unshared : IsUnshared (bound_world file p t)
  bound_unshared = record {
    once = λ e. omega (arith, same_claims e, s.guarded.once e);
    to_come = λ e c. let k = come e c in omega (arith, same_claims e, s.guarded.sound.unshared.to_come e k, s.guarded.apart e k);
    few = s.guarded.sound.unshared.few;
  }

  -- an end that an untaken message names isn't held
  pub unheld : (e y : EndId) (i q : ℕ) → IsUntaken t.world e i → slice_get (end_at t.world.sessions e).sent i ≡ Some (record { msg = session_message y q; by = q }) → (place : Place) → place_held t.seat.ends y ≡ Some place → ⊥
  unheld e y i q untaken there place h =
      on_its_way (bound_world file p t) y e i (record { msg = session_message y q; by = q }) bound_unshared untaken there (is_end-self y) p (
        binding file t.seat.ends,
        slice_get-altered t.world.parties p (λ g. binding file t.seat.ends) ∙ ap (option_map (λ g. binding file t.seat.ends)) s.idle,
        record { some_name = held_by_place t.seat.ends y place h },
      )

pub last_of : (xs : List Passed) (x : Passed) → slice_get (xs ++ x ∷ []) (length xs) ≡ Some x
last_of [] x = refl
last_of (y ∷ xs) x = last_of xs x

-- ---- the act that delegates

nothing_either_way : {A : Type 0} (b : Bool) → ◌≡◌ {A = List A} (cond b [] []) []
nothing_either_way true = refl
nothing_either_way false = refl

pub own_sends : (p : ℕ) (t : SeatedWorld) (d : Doing) (e y : EndId) → seated_want t.seat ≡ wanted.delegates e y → doing_of p t ≡ Some d
    → slice_get (end_at (after_uses p d.uses t.world.sessions) e).sent (length (end_at t.world.sessions e).sent) ≡ Some (record { msg = session_message y p; by = p })
own_sends p t d e y want is = sent d.uses (made (nat_lt (end_at t.world.sessions y).hops 100) (not (nat_lt t.seat.steps 10000)) refl is)
  where
    sent : (us : List (EndId × Use)) → us ≡ (y, delegates) ∷ (e, sends (session_message y p)) ∷ []
        → slice_get (end_at (after_uses p us t.world.sessions) e).sent (length (end_at t.world.sessions e).sent) ≡ Some (record { msg = session_message y p; by = p })
    sent us same =
        let x : Passed = record { msg = session_message y p; by = p } in
        let own : uses_on e sent_by p ((y, delegates) ∷ (e, sends (session_message y p)) ∷ []) ≡ x ∷ [] =
        ap (λ xs. xs ++ (cond (is_end e e) (x ∷ []) [] ++ [])) (nothing_either_way (is_end e y)) ∙ ap (λ (b : Bool). cond b (x ∷ []) [] ++ []) (is_end-self e) in
        ap (λ xs. slice_get xs (length (end_at t.world.sessions e).sent))
        (sent_after_uses p us t.world.sessions e ∙ ap (λ vs. (end_at t.world.sessions e).sent ++ uses_on e sent_by p vs) same ∙ ap (λ xs. (end_at t.world.sessions e).sent ++ xs) own)
        ∙ last_of (end_at t.world.sessions e).sent x

    made : (a b : Bool) → nat_lt (end_at t.world.sessions y).hops 100 ≡ a → cond b None (doing_by p t.world (seated_want t.seat)) ≡ Some d → d.uses ≡ (y, delegates) ∷ (e, sends (session_message y p)) ∷ []
    made a true few k = absurd (cc k)
    made true false few k =
        let it : Some (plain_doing None ((y, delegates) ∷ (e, sends (session_message y p)) ∷ [])) ≡ Some d =
        sym (ap (λ (b : Bool). cond b (Some (plain_doing None ((y, delegates) ∷ (e, sends (session_message y p)) ∷ []))) None) few) ∙ sym (ap (doing_by p t.world) want) ∙ k in
        let same : plain_doing None ((y, delegates) ∷ (e, sends (session_message y p)) ∷ []) ≡ d = cc in
        ap (λ (x : Doing). x.uses) (sym same)
    made false false few k =
        let none : None ≡ Some d =
        sym (ap (λ (b : Bool). cond b (Some (plain_doing None ((y, delegates) ∷ (e, sends (session_message y p)) ∷ []))) None) few) ∙ sym (ap (doing_by p t.world) want) ∙ k in absurd (cc none)
