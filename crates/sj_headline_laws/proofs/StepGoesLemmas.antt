-- Where an open end goes with each step.
use Rattle.std.proofs.Common.{◌≡◌, ℕ, true, false, List, [], ◌∷◌, length, slice_get, Some, None, refl, ap, sym, ◌∙◌, subst, ◌⊎◌, inl, inr}
use Rattle.std.proofs.lemmas.Bool.{cases_Bool}
use Rattle.sj_base.specs.declared.EndId.{EndId}
use Rattle.sj_base.specs.declared.Msg.{Msg}
use Rattle.sj_base.specs.declared.Msg.TheVariants as msgs
use Rattle.sj_lang.specs.Place.{Place, done}
use Rattle.sj_lang.specs.Dual.{dual_of}
use Rattle.sj_lang.specs.FileAt.{FileAt, ProtocolAt, named, party_names}
use Rattle.sj_semantics.specs.declared.Awaits.{Awaits}
use Rattle.sj_semantics.specs.declared.Awaits.TheVariants as awaits
use Rattle.sj_semantics.specs.declared.Passed.{Passed}
use Rattle.sj_semantics.specs.declared.Want.TheVariants as wants
use Rattle.sj_semantics.specs.Fitting.{fits_todo}
use Rattle.sj_semantics.specs.Program.{Program, ends_without}
use Rattle.sj_semantics.specs.Requests.{Request, opened_number}
use Rattle.sj_semantics.specs.Steps.{local_of, sent_of, took_of, closed_of, name_opened, ends_after_took}
use Rattle.sj_semantics.specs.World.{World, plain_change, session_message, begun_at, change_by_taking, change_by_opening, change_by_accepting, changed_world}
use Rattle.sj_semantics.specs.Ends.{Session, other_end, end_at, next_for, is_end}
use Rattle.sj_semantics.specs.Uses.{Use, sends, takes, delegates, begins, after_uses}
use Rattle.sj_semantics_laws.specs.Unshared.{names_end}
use Rattle.sj_semantics_laws.proofs.BoundLemmas.{is_end_sym_false}
use Rattle.sj_semantics_laws.proofs.EndLemmas.{touched}
use Rattle.sj_headline_laws.proofs.TouchedLemmas.{side, pair_of}
use Rattle.sj_headline_laws.proofs.AfterLemmas.{AllPairs}
use Rattle.sj_headline_laws.proofs.WorldLemmas.{Sound}
use Rattle.sj_headline_laws.proofs.LocatedLemmas.{EndsGo, took_keeps, took_gains}
use Rattle.sj_headline_laws.proofs.DoneLemmas.{IsComing, same_end_at}
use Rattle.sj_headline_laws.proofs.WhereLemmas.{coming_stays, sent_comes, AfterTake, still, taken, coming_after_take}
use Rattle.sj_headline_laws.proofs.GoesLemmas.{Held, Offered, IsOpen, IsSomewhere, Goes, came_from, came_from_other, same_names, lost_name, more_names, new_name}
use Rattle.sj_headline_laws.proofs.RequestLemmas.{request_kept, request_there, accept_kept}

module _ (file : FileAt) (w : World) (p : ℕ) (g : Program) (sound : Sound file w) (there : slice_get w.parties p ≡ Some g) where
  -- a change that opens nothing keeps what is offered
  offers_stay : (h : Program) (us : List (EndId × Use)) (e : EndId) → Offered w e → Offered (changed_world w p (plain_change h us)) e
  offers_stay h us e o = record { by = o.by; number = o.number; request = o.request; there = o.there; none = o.none; it_is = o.it_is }

  pub local_goes : Goes w p g (plain_change (local_of g) [])
  local_goes = record {
    before = λ e is_open. inl is_open;
    names = λ e is_open h. inl h;
    comings = λ e f c. inr (f, c);
    offers = λ e o. inr (offers_stay (local_of g) [] e o);
  }

  pub send_goes : (k : EndId) (m : Msg) → EndsGo g.ends g.todo (wants.Send k m) → Goes w p g (plain_change (sent_of g) ((k, sends m) ∷ []))
  send_goes k m go = record {
    before = λ e is_open. inl (came_from p w.sessions k (sends m) e tt is_open);
    names = λ e is_open h. inl (same_names e g.ends (sent_of g).ends go h);
    comings = λ e f c. inr (f, coming_stays p w.sessions k (sends m) e f tt c);
    offers = λ e o. inr (offers_stay (sent_of g) ((k, sends m) ∷ []) e o);
  }

  pub close_goes : (k : EndId) → EndsGo g.ends g.todo (wants.Close k) → (end_at w.sessions k).place ≡ done → Goes w p g (plain_change (closed_of g) [])
  close_goes k go closed = record {
    before = λ e is_open. inl is_open;
    names = λ e is_open h. inl (subst (Held e) (sym go.2) (not_lost e is_open (lost_name e g.ends go.0 k go.1 h)));
    comings = λ e f c. inr (f, c);
    offers = λ e o. inr (offers_stay (closed_of g) [] e o);
  }
    where
      not_lost : (e : EndId) → IsOpen w.sessions e → Held e (ends_without g.ends go.0) ⊎ (is_end e k ≡ true) → Held e (ends_without g.ends go.0)
      not_lost e is_open (inl h) = h
      not_lost e is_open (inr same) = absurd (is_open (ap (λ t. t.place) (same_end_at w.sessions e k same) ∙ closed))

  pub delegate_goes : (k y : EndId) → EndsGo g.ends g.todo (wants.Delegate k y) → AllPairs (touched p w.sessions (y, delegates))
      → Goes w p g (plain_change (sent_of g) ((y, delegates) ∷ (k, sends (session_message y p)) ∷ []))
  delegate_goes k y go pairs =
      let mid : List Session = touched p w.sessions (y, delegates) in
      record {
        before = λ e is_open. inl (came_from p w.sessions y delegates e tt (came_from p mid k (sends (session_message y p)) e tt is_open));
        names = λ e is_open h. gone e (lost_name e g.ends go.0 y go.1 h);
        comings = λ e f c. inr (f, coming_stays p mid k (sends (session_message y p)) e f tt (coming_stays p w.sessions y delegates e f tt c));
        offers = λ e o. inr (offers_stay (sent_of g) ((y, delegates) ∷ (k, sends (session_message y p)) ∷ []) e o);
      }
    where
      gone : (e : EndId) → Held e (ends_without g.ends go.0) ⊎ (is_end e y ≡ true) → IsSomewhere (sent_of g).ends (touched p (touched p w.sessions (y, delegates)) (k, sends (session_message y p))) e
      gone e (inl h) = inl (subst (Held e) (sym go.2) h)
      gone e (inr same) =
          inr (other_end k, sent_comes p (touched p w.sessions (y, delegates)) k e (session_message y p) (pair_of (touched p w.sessions (y, delegates)) (touched p w.sessions (y, delegates)) k pairs).other_taken same)

  -- ---- taking

  -- an end that is open after it begins was open, or the message names it
  begun_from : (ps : List ProtocolAt) (a : Awaits) (m : Msg) (mid : List Session) (e : EndId) → IsOpen (after_uses p (begun_at ps a m) mid) e → IsOpen mid e ⊎ (names_end e m ≡ true)
  begun_from ps (awaits.Session q) (msgs.Sess s d k) mid e is_open =
      elim (cases_Bool (is_end e (side s d))) [
        | inl it ↦ inr it
        | inr other ↦ inl (came_from_other p mid (side s d) (begins _) e (is_end_sym_false e (side s d) other) is_open)
      ]
  begun_from ps a m mid e is_open = inl is_open

  begun_coming : (ps : List ProtocolAt) (a : Awaits) (m : Msg) (mid : List Session) (e f : EndId) → IsComing mid e f → IsComing (after_uses p (begun_at ps a m) mid) e f
  begun_coming ps (awaits.Session q) (msgs.Sess s d k) mid e f c = coming_stays p mid (side s d) (begins _) e f tt c
  begun_coming ps a m mid e f c = c

  bound_now : (e : EndId) (m : Msg) → fits_todo g.todo m ≡ true → names_end e m ≡ true → Held e (ends_after_took g.ends g.todo m)
  bound_now e (msgs.Sess s d j) can names = let r = took_gains g.ends g.todo s d j can in record { name = r.name; end = side s d; is_named = r.is_named; it_is = names }
  bound_now e (msgs.Int n) can names = cc
  bound_now e (msgs.Bool n) can names = cc
  bound_now e (msgs.Text n) can names = cc
  bound_now e (msgs.Label n) can names = cc
  bound_now e (msgs.More n) can names = cc

  pub take_goes : (ps : List ProtocolAt) (k : EndId) (a : Awaits) (x : Passed) → next_for w.sessions k ≡ Some x → fits_todo g.todo x.msg ≡ true → Goes w p g (change_by_taking ps g k a x)
  take_goes ps k a x next can = record {
    before = λ e is_open. was e (begun_from ps a x.msg (touched p w.sessions (k, takes x.msg)) e is_open);
    names = λ e is_open h. inl (record {
      name = h.name;
      end = h.end;
      it_is = h.it_is;
      is_named = took_keeps file.protocols (party_names file.parties) w.sessions g.ends g.vars (sound.programs p g there).env (sound.programs p g there).agrees g.todo (sound.programs p g there).does x.msg h.name h.end h.is_named;
    });
    comings = λ e f c. after e f (coming_after_take p w.sessions k x e f next c);
    offers = λ e o. inr (offers_stay (took_of g x.msg) ((k, takes x.msg) ∷ begun_at ps a x.msg) e o);
  }
    where
      was : (e : EndId) → IsOpen (touched p w.sessions (k, takes x.msg)) e ⊎ (names_end e x.msg ≡ true)
          → IsOpen w.sessions e ⊎ (Held e (took_of g x.msg).ends ⊎ Offered (changed_world w p (change_by_taking ps g k a x)) e)
      was e (inl is_open) = inl (came_from p w.sessions k (takes x.msg) e tt is_open)
      was e (inr names) = inr (inl (bound_now e x.msg can names))

      after : (e f : EndId) → AfterTake p w.sessions k x e f → IsSomewhere (took_of g x.msg).ends (after_uses p (begun_at ps a x.msg) (touched p w.sessions (k, takes x.msg))) e
      after e f (still c) = inr (f, begun_coming ps a x.msg (touched p w.sessions (k, takes x.msg)) e f c)
      after e f (taken names) = inl (bound_now e x.msg can names)

  -- ---- opening

  module _ (unused : named g.ends (name_opened g.todo) ≡ None) where
    pub accept_goes : (q k : ℕ) (place : Place) → Goes w p g (change_by_accepting g q place k)
    accept_goes q k place =
        let y : EndId = side (opened_number q k) 1 in
        record {
          before = λ e is_open. elim (cases_Bool (is_end e y)) [
            | inl it ↦ inr (inl (new_name e y g.ends (name_opened g.todo) it))
            | inr other ↦ inl (came_from_other p w.sessions y (begins place) e (is_end_sym_false e y other) is_open)
          ];
          names = λ e is_open h. inl (more_names e y g.ends (name_opened g.todo) unused h);
          comings = λ e f c. inr (f, coming_stays p w.sessions y (begins place) e f tt c);
          offers = λ e o. elim (cases_Bool (is_end e y)) [
            | inl it ↦ inl (new_name e y g.ends (name_opened g.todo) it)
            | inr other ↦ inr (record {
              by = o.by;
              number = o.number;
              request = o.request;
              there = accept_kept p q k (name_opened g.todo) o.by o.number (w.requests o.by) o.request
                  (λ same number. let clash : false ≡ true = sym other ∙ (λ i. is_end e (side (opened_number (same i) (number i)) 1)) ∙ o.it_is in cc) o.there;
              none = o.none;
              it_is = o.it_is;
            })
          ];
        }

    pub request_goes : (q : ℕ) (place : Place) → Goes w p g (change_by_opening g (opened_number p (length (w.requests p))) place q)
    request_goes q place =
        let s : ℕ = opened_number p (length (w.requests p)) in
        let mid : List Session = touched p w.sessions (side s 0, begins place) in
        let new : Request = record { to = q; first = name_opened g.todo; second = None } in
        record {
          before = λ e is_open. elim (cases_Bool (is_end e (side s 1))) [
            | inl it ↦ inr (inr (record { by = p; number = length (w.requests p); request = new; there = request_there p new (w.requests p); none = refl; it_is = it }))
            | inr other ↦ elim (cases_Bool (is_end e (side s 0))) [
              | inl it ↦ inr (inl (new_name e (side s 0) g.ends (name_opened g.todo) it))
              | inr neither ↦
                  inl (came_from_other p w.sessions (side s 0) (begins place) e (is_end_sym_false e (side s 0) neither)
                  (came_from_other p mid (side s 1) (begins (dual_of place)) e (is_end_sym_false e (side s 1) other) is_open))
            ]
          ];
          names = λ e is_open h. inl (more_names e (side s 0) g.ends (name_opened g.todo) unused h);
          comings = λ e f c. inr (f, coming_stays p mid (side s 1) (begins (dual_of place)) e f tt (coming_stays p w.sessions (side s 0) (begins place) e f tt c));
          offers = λ e o. inr (record { by = o.by; number = o.number; request = o.request; there = request_kept p o.by new (w.requests o.by) o.number o.request o.there; none = o.none; it_is = o.it_is });
        }
