-- An act leaves the first records of ends of opened sessions, and makes those of the session that
-- it opens.
use Rattle.std.proofs.Common.{◌≡◌, ℕ, zero, suc, ◌+◌, ◌==◌, nat_lt, Bool, true, false, cond, List, [], ◌∷◌, ◌++◌, length, slice_get, Option, Some, None, option_map, unwrap_or, refl, ap, sym, ◌∙◌, subst, arith, inl, inr, ◌⊎◌}
use Rattle.std.proofs.lemmas.Bool.{cases_eq, eqb-true}
use Rattle.sj_base.specs.declared.EndId.{EndId}
use Rattle.sj_lang.specs.FileAt.{FileAt, body_named}
use Rattle.sj_semantics.specs.declared.Want.{Want}
use Rattle.sj_semantics.specs.declared.Want.TheVariants as wants
use Rattle.sj_semantics.specs.Ends.{end_at, limit_of_hops, next_for}
use Rattle.sj_semantics.specs.Program.{Program}
use Rattle.sj_semantics.specs.Requests.{Opening, Request, accepted_as, accepts, first_offer, limit_of_requests, no_opening, opened_number, requests, requests_after}
use Rattle.sj_semantics.specs.Steps.{closed_of, local_of, name_opened, sent_of}
use Rattle.sj_semantics.specs.Uses.{altered_list, delegates, sends}
use Rattle.sj_semantics.specs.Wants.{want_of}
use Rattle.sj_semantics.specs.World.{World, Change, change_by, change_by_accepting, change_by_opening, change_by_taking, changed_world, plain_change, session_message}
use Rattle.sj_semantics_laws.proofs.AlteredLemmas.{slice_get-altered, slice_get-altered_other}
use Rattle.sj_semantics_laws.proofs.ToComeLemmas.{first_is_offer}
use Rattle.sj_rules.specs.Party.{IsDone as IsOver, binds, nobody, play_of, want_for, want_or_ended}
use Rattle.sj_rules.specs.Plain.{offered_from, plain_at}
use Rattle.sj_rules.specs.Record.{offered_end, requested_end}
use Rattle.sj_rules.specs.World.{Act}
use Rattle.sj_rules_laws.proofs.OfferSeenLemmas.{first_offered}
use Rattle.sj_forward_rules.specs.Acts.{act_by, acts}
use Rattle.sj_forward_rules.specs.Node.{HasRecord, NodeAt, Worked}
use Rattle.sj_forward_rules.specs.Record.{opened_in}
use Rattle.sj_forward_rules.specs.World.{WorldAt, after_event, happens}
use Rattle.sj_forward_laws.specs.Kept.{IsOpenKept}
use Rattle.sj_forward_laws.proofs.OpenedRecords.{HaveRecords, accepted_record, acted_node, by_test, last_or_old, map_some, requested_record, stays, unworn}

module _ (file : FileAt) (w after : WorldAt Program) (plain : World) (p : ℕ) (kept : IsOpenKept IsOver binds (length file.parties) w (plain_at plain)) (have : HaveRecords w plain) (happened : happens (play_of file) w p Act ≡ Some after)
    (g : Program) (there : slice_get plain.parties p ≡ Some g) (c : Change) where
  stay : (x : ℕ) (e : EndId) → HasRecord (w.nodes x) e 0 → HasRecord (after.nodes x) e 0
  stay x e has = stays file w after p Act happened x e has

  -- what the party's node does
  worked : (want : Want) → want_of g ≡ Some want → (done : Worked Program) × (act_by (play_of file) p (w.nodes p) (want_for file.protocols want) ≡ Some done) × (after_event w p w.lanes done ≡ after)
  worked want is =
      let d = map_some (after_event w p w.lanes) (acts (play_of file) p (w.nodes p)) after happened in
      let program : (w.nodes p).program ≡ g = kept.kept.programs p ∙ ap (λ (o : Option Program). unwrap_or o nobody) there in
      let wants_it : (play_of file).wants (w.nodes p).program ≡ want_for file.protocols want = ap (λ (x : Program). want_or_ended file.protocols (want_of x)) program ∙ ap (want_or_ended file.protocols) is in
      (d.0, ap (act_by (play_of file) p (w.nodes p)) (sym wants_it) ∙ unworn ((play_of file).is_worn (w.nodes p).program) (act_by (play_of file) p (w.nodes p) ((play_of file).wants (w.nodes p).program)) d.0 d.1, d.2)

  no_more : c.opening ≡ no_opening → HaveRecords after (changed_world plain p c)
  no_more none = record {
    first = λ q k r at. stay q (requested_end (opened_number q k)) (have.first q k r (subst (λ (o : Opening). slice_get (requests_after p o q (plain.requests q)) k ≡ Some r) none at));
    second = λ q k y r at by_it. stay r.to (offered_end (opened_number q k)) (have.second q k y r (subst (λ (o : Opening). slice_get (requests_after p o q (plain.requests q)) k ≡ Some r) none at) by_it);
  }

  -- a request
  one_more : (new : Request) → new.second ≡ None → c.opening ≡ requests new → HasRecord (after.nodes p) (requested_end (opened_number p (length (plain.requests p)))) 0 → HaveRecords after (changed_world plain p c)
  one_more new unaccepted is made = record { first = λ q k r at. first_by q k r (old_at q k r at); second = λ q k y r at by_it. second_by q k y r by_it (old_at q k r at) }
    where
      old_at : (q k : ℕ) (r : Request) → slice_get (requests_after p c.opening q (plain.requests q)) k ≡ Some r → slice_get (requests_after p (requests new) q (plain.requests q)) k ≡ Some r
      old_at q k r at = subst (λ (o : Opening). slice_get (requests_after p o q (plain.requests q)) k ≡ Some r) is at

      which : (q k : ℕ) (r : Request) (b : Bool) → slice_get (cond b (plain.requests q ++ new ∷ []) (plain.requests q)) k ≡ Some r → ((b ≡ true) × (k ≡ length (plain.requests q)) × (new ≡ r)) ⊎ (slice_get (plain.requests q) k ≡ Some r)
      which q k r true at = elim (last_or_old (plain.requests q) new k r at) [ inl e ↦ inl (refl, e.0, e.1) | inr e ↦ inr e ]
      which q k r false at = inr at

      first_by : (q k : ℕ) (r : Request) → slice_get (requests_after p (requests new) q (plain.requests q)) k ≡ Some r → HasRecord (after.nodes q) (requested_end (opened_number q k)) 0
      first_by q k r at =
          elim (which q k r (q == p) at) [
            | inl e ↦
                let own : q ≡ p = eqb-true q p e.0 in
                let number : k ≡ length (plain.requests p) = e.1 ∙ ap (λ (i : ℕ). length (plain.requests i)) own in
                subst (λ (i : ℕ). HasRecord (after.nodes i) (requested_end (opened_number i k)) 0) (sym own)
                (subst (λ (i : ℕ). HasRecord (after.nodes p) (requested_end (opened_number p i)) 0) (sym number) made)
            | inr old ↦ stay q (requested_end (opened_number q k)) (have.first q k r old)
          ]

      second_by : (q k y : ℕ) (r : Request) → r.second ≡ Some y → slice_get (requests_after p (requests new) q (plain.requests q)) k ≡ Some r → HasRecord (after.nodes r.to) (offered_end (opened_number q k)) 0
      second_by q k y r by_it at =
          elim (which q k r (q == p) at) [
            | inl e ↦ let clash : None ≡ Some y = sym unaccepted ∙ ap (λ (x : Request). x.second) e.2 ∙ by_it in cc
            | inr old ↦ stay r.to (offered_end (opened_number q k)) (have.second q k y r old by_it)
          ]

  -- an accept
  one_accepted : (from j z : ℕ) (old : Request) → slice_get (plain.requests from) j ≡ Some old → c.opening ≡ accepts from j z → HasRecord (w.nodes old.to) (offered_end (opened_number from j)) 0 → HaveRecords after (changed_world plain p c)
  one_accepted from j z old at is has = record { first = λ q k r h. first_by q k r (now_at q k r h); second = λ q k y r h by_it. second_by q k y r by_it (now_at q k r h) }
    where
      now_at : (q k : ℕ) (r : Request) → slice_get (requests_after p c.opening q (plain.requests q)) k ≡ Some r → slice_get (requests_after p (accepts from j z) q (plain.requests q)) k ≡ Some r
      now_at q k r h = subst (λ (o : Opening). slice_get (requests_after p o q (plain.requests q)) k ≡ Some r) is h

      -- it is the one that was accepted, or as it was
      which : (q k : ℕ) (r : Request) (b : Bool) → (q == from) ≡ b → slice_get (cond b (altered_list (plain.requests q) j (accepted_as z)) (plain.requests q)) k ≡ Some r
          → ((q ≡ from) × (j ≡ k) × (accepted_as z old ≡ r)) ⊎ (slice_get (plain.requests q) k ≡ Some r)
      which q k r false other h = inr h
      which q k r true it h =
          let own : q ≡ from = eqb-true q from it in
          elim (cases_eq j k) [
            | inl same ↦
                let got : option_map (accepted_as z) (slice_get (plain.requests q) j) ≡ Some r = sym (slice_get-altered (plain.requests q) j (accepted_as z)) ∙ ap (slice_get (altered_list (plain.requests q) j (accepted_as z))) same ∙ h in
                let its : Some (accepted_as z old) ≡ Some r = sym (ap (option_map (accepted_as z)) (ap (λ (i : ℕ). slice_get (plain.requests i) j) own ∙ at)) ∙ got in
                inl (own, same, cc)
            | inr differ ↦ inr (sym (slice_get-altered_other (plain.requests q) j k (accepted_as z) differ) ∙ h)
          ]

      first_by : (q k : ℕ) (r : Request) → slice_get (requests_after p (accepts from j z) q (plain.requests q)) k ≡ Some r → HasRecord (after.nodes q) (requested_end (opened_number q k)) 0
      first_by q k r h =
          elim (which q k r (q == from) refl h) [
            | inl e ↦ stay q (requested_end (opened_number q k)) (have.first q k old (ap (λ (i : ℕ). slice_get (plain.requests i) k) e.0 ∙ ap (slice_get (plain.requests from)) (sym e.1) ∙ at))
            | inr was ↦ stay q (requested_end (opened_number q k)) (have.first q k r was)
          ]

      second_by : (q k y : ℕ) (r : Request) → r.second ≡ Some y → slice_get (requests_after p (accepts from j z) q (plain.requests q)) k ≡ Some r → HasRecord (after.nodes r.to) (offered_end (opened_number q k)) 0
      second_by q k y r by_it h =
          elim (which q k r (q == from) refl h) [
            | inl e ↦
                let to : old.to ≡ r.to = ap (λ (x : Request). x.to) e.2 in
                stay r.to (offered_end (opened_number q k))
                (subst (λ (i : ℕ). HasRecord (w.nodes i) (offered_end (opened_number q k)) 0) to
                (subst (λ (i : ℕ). HasRecord (w.nodes old.to) (offered_end (opened_number i k)) 0) (sym e.0)
                (subst (λ (i : ℕ). HasRecord (w.nodes old.to) (offered_end (opened_number from i)) 0) e.1 has)))
            | inr was ↦ stay r.to (offered_end (opened_number q k)) (have.second q k y r was by_it)
          ]

  pub by_want : (want : Want) → want_of g ≡ Some want → change_by plain p g want ≡ Some c → HaveRecords after (changed_world plain p c)
  by_want wants.Ended is made = cc
  by_want wants.Local is made = no_more (let it : plain_change (local_of g) [] ≡ c = cc in ap (λ (x : Change). x.opening) (sym it))
  by_want (wants.Send e m) is made = no_more (let it : plain_change (sent_of g) ((e, sends m) ∷ []) ≡ c = cc in ap (λ (x : Change). x.opening) (sym it))
  by_want (wants.Delegate e y) is made =
      let d = by_test (nat_lt (end_at plain.sessions y).hops limit_of_hops) (plain_change (sent_of g) ((y, delegates) ∷ (e, sends (session_message y p)) ∷ [])) c made in
      no_more (ap (λ (x : Change). x.opening) (sym d))
  by_want (wants.Take e a) is made =
      let x = map_some (change_by_taking plain.protocols g e a) (next_for plain.sessions e) c made in
      no_more (ap (λ (x : Change). x.opening) (sym x.2))
  by_want (wants.Close e) is made = no_more (let it : plain_change (closed_of g) [] ≡ c = cc in ap (λ (x : Change). x.opening) (sym it))
  by_want (wants.Request n q) is made =
      let d = by_test (nat_lt (length (plain.requests p)) limit_of_requests) (change_by_opening g (opened_number p (length (plain.requests p))) (body_named plain.protocols n) q) c made in
      let done = worked (wants.Request n q) is in
      let has = requested_record file p (w.nodes p) q done.0 done.1 in
      one_more (record { to = q; first = name_opened g.todo; second = None }) refl (ap (λ (x : Change). x.opening) (sym d))
      (subst (λ (v : WorldAt Program). HasRecord (v.nodes p) (requested_end (opened_number p (length (plain.requests p)))) 0) done.2
      (subst (λ (x : NodeAt Program). HasRecord x (requested_end (opened_number p (length (plain.requests p)))) 0) (sym (acted_node w p done.0))
      (subst (λ (i : ℕ). HasRecord done.0.node (requested_end (opened_number p i)) 0) (kept.requests p) has)))
  by_want (wants.Accept n from) is made =
      let k = map_some (change_by_accepting g from (body_named plain.protocols n)) (first_offer p (plain.requests from)) c made in
      let offer = first_is_offer p (plain.requests from) k.0 k.1 in
      let done = worked (wants.Accept n from) is in
      let number : 0 + k.0 ≡ k.0 = omega arith in
      let later : List ℕ = offered_from p from 0 (altered_list (plain.requests from) k.0 (accepted_as 0)) in
      let has = accepted_record file (w.nodes p) from (opened_number from (0 + k.0)) (opened_in (w.lanes from p)) later done.0
      (kept.offers from p ∙ first_offered p from 0 (plain.requests from) k.0 0 k.1) (kept.held from p) done.1 in
      one_accepted from k.0 (name_opened g.todo) offer.0 offer.1 (ap (λ (x : Change). x.opening) (sym k.2))
      (subst (λ (i : ℕ). HasRecord (w.nodes i) (offered_end (opened_number from k.0)) 0) (sym offer.2)
      (subst (λ (i : ℕ). HasRecord (w.nodes p) (offered_end (opened_number from i)) 0) number has))
