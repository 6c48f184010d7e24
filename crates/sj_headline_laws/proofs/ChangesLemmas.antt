-- What a change does to a sound world that sends, takes or closes.
use Rattle.std.proofs.Common.{◌≡◌, ℕ, Bool, true, false, cond, List, [], ◌∷◌, length, slice_get, Some, None, refl, ap, ◌∙◌, arith, subst}
use Rattle.std.specs.Bool.{⊤}
use Rattle.std.proofs.lemmas.Bool.{false_from_ne_true}
use Rattle.sj_base.specs.declared.EndId.{EndId}
use Rattle.sj_base.specs.declared.Msg.{Msg}
use Rattle.sj_base.specs.declared.Msg.TheVariants as msgs
use Rattle.sj_lang.specs.FileAt.{FileAt, ProtocolAt, party_names}
use Rattle.sj_semantics.specs.declared.Awaits.{Awaits}
use Rattle.sj_semantics.specs.declared.Awaits.TheVariants as awaits
use Rattle.sj_semantics.specs.declared.Want.TheVariants as wants
use Rattle.sj_semantics.specs.declared.Passed.{Passed}
use Rattle.sj_semantics.specs.Program.{Program}
use Rattle.sj_semantics.specs.Requests.{Opening, requests}
use Rattle.sj_semantics.specs.Wants.{want_of}
use Rattle.sj_semantics.specs.Steps.{local_of, sent_of, closed_of}
use Rattle.sj_semantics.specs.World.{World, Change, plain_change, session_message, begun_at, change_by_taking}
use Rattle.sj_semantics.specs.Ends.{Session, other_end, end_at, next_for, is_end}
use Rattle.sj_semantics.specs.Uses.{sends, delegates, after_uses}
use Rattle.sj_semantics_laws.specs.Bound.{IsBound}
use Rattle.sj_semantics_laws.specs.Unshared.{names_end, IsToCome}
use Rattle.sj_semantics_laws.proofs.BoundLemmas.{is_end_sym, is_end_sym_false, want_bound}
use Rattle.sj_semantics_laws.proofs.EndLemmas.{IsUnusedBy}
use Rattle.sj_semantics_laws.proofs.FreesLemmas.{want_frees}
use Rattle.sj_headline_laws.proofs.TypedLemmas.{FitsProgram, StepFits}
use Rattle.sj_headline_laws.proofs.LeadLemmas.{pair_taking}
use Rattle.sj_headline_laws.proofs.TouchedLemmas.{side, pair_of}
use Rattle.sj_headline_laws.proofs.UnnamedLemmas.{named_carried, come_apart, names_apart, bindings_once}
use Rattle.sj_headline_laws.proofs.AfterLemmas.{After, after_sending, after_delegating, after_taking}
use Rattle.sj_headline_laws.proofs.OriginLemmas.{InTodo, in_rest, in_local, in_sent, in_took}
use Rattle.sj_headline_laws.proofs.OpenedLemmas.{NotOpened}
use Rattle.sj_headline_laws.proofs.WorldLemmas.{Asks, Takes, IsOffered, Sound}

-- what the opening requests is offered
abbrev pub OpensWell : FileAt → World → ℕ → List Session → Opening → Type 0
OpensWell file w p zs (requests r) = IsOffered file zs p (length (w.requests p)) r
OpensWell file w p zs _ = ⊤

-- what the change of a party with the program g does
pub record Changes (file : FileAt) (w : World) (p : ℕ) (g : Program) (c : Change) : Type 0 where
  pub after : After file.protocols (party_names file.parties) (after_uses p c.uses w.sessions) c.program
  pub origin : InTodo (Asks file p) (Takes file p) c.program.todo
  pub same_peers : c.program.peers ≡ g.peers
  pub unused : (e : EndId) → IsToCome w e → NotOpened w p c.opening e → IsUnusedBy e c.uses
  pub opened : OpensWell file w p (after_uses p c.uses w.sessions) c.opening

pub cond_changes : (file : FileAt) (w : World) (p : ℕ) (g : Program) (b : Bool) (c d : Change) → (b ≡ true → Changes file w p g c) → cond b (Some c) None ≡ Some d → Changes file w p g d
cond_changes file w p g true c d k h = subst (Changes file w p g) (let it : c ≡ d = cc in it) (k refl)
cond_changes file w p g false c d k h = cc

module _ (file : FileAt) (w : World) (p : ℕ) (g : Program) (sound : Sound file w) (there : slice_get w.parties p ≡ Some g) where
  abbrev pub ps : List ProtocolAt
  ps = file.protocols

  abbrev pub names : List ℕ
  names = party_names file.parties

  -- an end that is bound here isn't to come
  bound_not_come : (e f : EndId) → IsBound f g.ends → IsToCome w e → is_end f e ≡ false
  bound_not_come e f b come = is_end_sym_false e f (come_apart w p g e f sound.unshared there b come)

  pub local_changes : FitsProgram ps names w.sessions (local_of g) → Changes file w p g (plain_change (local_of g) [])
  local_changes f = record {
    after = record { pairs = sound.pairs; own = f };
    origin = in_local (Asks file p) (Takes file p) g.vars g.todo (sound.origins p g there);
    same_peers = refl;
    unused = λ e come other. tt;
    opened = tt;
  }

  pub close_changes : FitsProgram ps names w.sessions (closed_of g) → Changes file w p g (plain_change (closed_of g) [])
  close_changes f = record {
    after = record { pairs = sound.pairs; own = f };
    origin = in_rest (Asks file p) (Takes file p) g.todo (sound.origins p g there);
    same_peers = refl;
    unused = λ e come other. tt;
    opened = tt;
  }

  pub send_changes : (e : EndId) (m : Msg) → want_of g ≡ Some (wants.Send e m) → StepFits ps names w.sessions g (wants.Send e m) → Changes file w p g (plain_change (sent_of g) ((e, sends m) ∷ []))
  send_changes e m it fit = record {
    after = after_sending ps names w p g sound.unshared sound.pairs there e m fit (want_frees e g (wants.Send e m) it);
    origin = in_sent (Asks file p) (Takes file p) g.vars g.todo (sound.origins p g there);
    same_peers = refl;
    unused = λ f come other. (bound_not_come f e (want_bound g (wants.Send e m) it) come, tt);
    opened = tt;
  }

  pub delegate_changes : (e y : EndId) → want_of g ≡ Some (wants.Delegate e y) → StepFits ps names w.sessions g (wants.Delegate e y)
      → Changes file w p g (plain_change (sent_of g) ((y, delegates) ∷ (e, sends (session_message y p)) ∷ []))
  delegate_changes e y it fit =
      let b = want_bound g (wants.Delegate e y) it in
      record {
        after = after_delegating ps names w p g sound.unshared sound.pairs there e y fit (names_apart g.ends fit.name fit.sent_name e y (bindings_once w p g e sound.unshared there) fit.is_named fit.sent_named fit.two_names);
        origin = in_sent (Asks file p) (Takes file p) g.vars g.todo (sound.origins p g there);
        same_peers = refl;
        unused = λ f come other. (bound_not_come f y b.1 come, (bound_not_come f e b.0 come, tt));
        opened = tt;
      }

  -- an end that the next message names isn't to come
  begun_unused : (a : Awaits) (m : Msg) (e f : EndId) (x : Passed) → next_for w.sessions e ≡ Some x → x.msg ≡ m → IsToCome w f → IsUnusedBy f (begun_at ps a m)
  begun_unused (awaits.Session q) (msgs.Sess t d k) e f x next it come = (
    false_from_ne_true (is_end (side t d) f) (λ h.
        absurd (omega (arith, sound.unshared.to_come f come, named_carried w f e x next (ap (names_end f) it ∙ is_end_sym (side t d) f h)))),
    tt,
  )
  begun_unused a m e f x next it come = tt

  pub take_changes : (e : EndId) (a : Awaits) (x : Passed) → next_for w.sessions e ≡ Some x → want_of g ≡ Some (wants.Take e a) → StepFits ps names w.sessions g (wants.Take e a) → Changes file w p g (change_by_taking ps g e a x)
  take_changes e a x next it fit =
      let t = pair_taking w.sessions (end_at w.sessions e) (end_at w.sessions (other_end e)) x (pair_of w.sessions w.sessions e sound.pairs) next in
      record {
        after = after_taking ps names w p g sound.unshared sound.pairs there e x next a x.msg refl t.next t.after (fit x.msg t.next t.after t.fits);
        origin = in_took (Asks file p) (Takes file p) g.todo x.msg (sound.origins p g there);
        same_peers = refl;
        unused = λ f come other. (bound_not_come f e (want_bound g (wants.Take e a) it) come, begun_unused a x.msg e f x next refl come);
        opened = tt;
      }
