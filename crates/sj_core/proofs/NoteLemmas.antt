-- What a node notes of its act is the note of that act by the rules.
use Rattle.std.proofs.Common.{◌≡◌, ℕ, Bool, true, false, if◌then◌else◌, List, [], ◌∷◌, Option, Some, None, option_map, unwrap_or, refl}
use Rattle.sj_base.specs.declared.EndId.{EndId}
use Rattle.sj_base.specs.declared.Msg.{Msg}
use Rattle.sj_lang.specs.Place.{Place}
use Rattle.sj_lang.specs.FileAt.{ProtocolAt, body_named}
use Rattle.sj_semantics.specs.declared.Want.{Want}
use Rattle.sj_semantics.specs.declared.Want.TheVariants as wants
use Rattle.sj_semantics.specs.Program.{Program}
use Rattle.sj_semantics.specs.Wants.{want_of}
use Rattle.sj_end.specs.Views.{note_at}
use Rattle.sj_rules.specs.Record as said
use Rattle.sj_rules.specs.Record.{BodyAt, HeldAt, MainAt, Held, Closed, Expected}
use Rattle.sj_rules.specs.Mapped.{body_with}
use Rattle.sj_rules.specs.Rows.{Worked}
use Rattle.sj_rules.specs.Node.{NodeAt, accept_offered, act_by, acts, take_act, take_from}
use Rattle.sj_rules.specs.Log as log
use Rattle.sj_rules.specs.Log.{act_note, body_note, take_note}
use Rattle.sj_rules.specs.Opened.{smallest}
use Rattle.sj_rules.specs.Party.{place_awaited, play_for, want_or_ended}
use Rattle.sj_node.specs.Node as node
use Rattle.sj_node.specs.Node.{took_note}
use Rattle.sj_node.specs.Play.{next_want}
use Rattle.sj_core.specs.Views.{note_seen}

module _ (parties : ℕ) (ps : List ProtocolAt) (p : ℕ) (n : NodeAt Place Program) (left : Worked Place (NodeAt Place Program)) where
  head_noted : (e : EndId) (to : Place) (h : HeldAt Place) (ms : List Msg) → take_from (play_for parties ps) n e to h ms ≡ Some left
      → log.head_note e ms ≡ Some (note_seen (node.took_if e (Rattle.std.specs.Prelude.slice_get ms 0)))
  head_noted e to h [] k = absurd (cc k)
  head_noted e to h (m ∷ rest) k = refl

  take_noted : (e : EndId) (to : Place) (r : Option (MainAt Place)) → take_act (play_for parties ps) n e to r ≡ Some left → take_note e r ≡ Some (note_seen (took_note e r))
  take_noted e to None k = absurd (cc k)
  take_noted e to (Some (Held h)) k = head_noted e to h h.untaken k
  take_noted e to (Some (Closed c)) k = absurd (cc k)
  take_noted e to (Some (Expected keeper at ds)) k = absurd (cc k)

  accept_noted : (place : Place) (from : ℕ) (o : Option ℕ) → accept_offered (play_for parties ps) n place from o ≡ Some left
      → option_map (λ sess. log.Accept sess from) o ≡ Some (note_seen (node.accepted_note from o))
  accept_noted place from None k = absurd (cc k)
  accept_noted place from (Some sess) k = refl

  want_noted : (o : Option Want) → act_by (play_for parties ps) p n (want_or_ended ps o) ≡ Some left
      → act_note p n (want_or_ended ps o) ≡ Some (note_seen (node.act_note p n.main n.requests n.offers (unwrap_or o wants.Ended)))
  want_noted None k = absurd (cc k)
  want_noted (Some wants.Ended) k = absurd (cc k)
  want_noted (Some wants.Local) k = refl
  want_noted (Some (wants.Send e m)) k = refl
  want_noted (Some (wants.Delegate e y)) k = refl
  want_noted (Some (wants.Take e a)) k = take_noted e (place_awaited ps a) (n.main e) k
  want_noted (Some (wants.Close e)) k = refl
  want_noted (Some (wants.Request q to)) k = refl
  want_noted (Some (wants.Accept q from)) k = accept_noted (body_named ps q) from (smallest (n.offers from)) k

  if_not_worn : {A : Type 0} → (b : Bool) (x : Option A) (y : A) → (if b then None else x) ≡ Some y → x ≡ Some y
  if_not_worn true x y h = absurd (cc h)
  if_not_worn false x y h = h

  pub act_noted : acts (play_for parties ps) p n ≡ Some left → act_note p n ((play_for parties ps).wants n.program) ≡ Some (note_seen (node.act_note p n.main n.requests n.offers (next_want n.program)))
  act_noted k = want_noted (want_of n.program) (if_not_worn ((play_for parties ps).is_worn n.program) _ left k)

-- the note of a frame, whatever its places are seen as
pub body_noted : {P R : Type 0} → (f : P → R) (b : BodyAt P) → body_note (body_with f b) ≡ note_seen (note_at b)
body_noted f (said.Carry to conn number taken msg) = refl
body_noted f (said.Fin to conn number) = refl
body_noted f (said.Claim of) = refl
body_noted f (said.Signal to conn party taken) = refl
body_noted f (said.Ack of conn) = refl
body_noted f (said.Give e resend) = refl
body_noted f (said.Open sess) = refl
