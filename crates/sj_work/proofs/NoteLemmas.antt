-- What is noted of an event is what the rules say of it.
use Rattle.std.proofs.Common.{◌≡◌, ℕ, Bool, true, false, if◌then◌else◌, List, [], ◌∷◌, Option, Some, None, option_map, refl}
use Rattle.std.specs.Prelude.{slice_get}
use Rattle.sj_base.specs.declared.EndId.{EndId}
use Rattle.sj_base.specs.declared.Msg.{Msg}
use Rattle.sj_lang.specs.Place.{Place}
use Rattle.sj_semantics.specs.declared.Want.{Want}
use Rattle.sj_semantics.specs.declared.Want.TheVariants as wants
use Rattle.sj_semantics.specs.Program.{Program}
use Rattle.sj_rules.specs.Record.{BodyAt, MainAt, Carry, Fin, Claim, Signal, Ack, Give, Open, Held, Closed, Expected}
use Rattle.sj_rules.specs.Rows.{Worked}
use Rattle.sj_rules.specs.Node.{NodeAt, Play, accept_offered, act_by, take_act, take_from}
use Rattle.sj_rules.specs.Opened.{smallest}
use Rattle.sj_rules.specs.Mapped.{body_with}
use Rattle.sj_rules.specs.Log.{body_note, head_note, take_note}
use Rattle.sj_rules.specs.Log as logs
use Rattle.sj_end.specs.Views.{note_at}
use Rattle.sj_node.specs.Node.{accepted_note, act_note, took_if, took_note}
use Rattle.sj_node.specs.Play.{want_with}
use Rattle.sj_end.specs.Lines.{note_seen}
use Rattle.sj_work.proofs.LaneLemmas.{none_is as none_some}

-- the note of a body, whatever its places are
pub body_noted : {P R : Type 0} (f : P → R) (b : BodyAt P) → body_note (body_with f b) ≡ note_seen (note_at b)
body_noted f (Carry to conn number taken msg) = refl
body_noted f (Fin to conn number) = refl
body_noted f (Claim of) = refl
body_noted f (Signal to conn party taken) = refl
body_noted f (Ack of conn) = refl
body_noted f (Give e resend) = refl
body_noted f (Open sess) = refl

-- a take has a head
take_noted : (play : Play Place Program) (n : NodeAt Place Program) (e : EndId) (place : Place) (m : Option (MainAt Place)) (left : Worked Place (NodeAt Place Program))
    → take_act play n e place m ≡ Some left → take_note e m ≡ Some (note_seen (took_note e m))
take_noted play n e place None left h = absurd (none_some left h)
take_noted play n e place (Some (Closed c)) left h = absurd (none_some left h)
take_noted play n e place (Some (Expected keeper p ds)) left h = absurd (none_some left h)
take_noted play n e place (Some (Held h)) left is = go h.untaken is
  where
    go : (ms : List Msg) → take_from play n e place h ms ≡ Some left → head_note e ms ≡ Some (note_seen (took_if e (slice_get ms 0)))
    go [] is = absurd (none_some left is)
    go (m ∷ ms) is = refl

-- an accept has an offer
accept_noted : (play : Play Place Program) (n : NodeAt Place Program) (place : Place) (from : ℕ) (o : Option ℕ) (left : Worked Place (NodeAt Place Program))
    → accept_offered play n place from o ≡ Some left → option_map (λ sess. logs.Accept sess from) o ≡ Some (note_seen (accepted_note from o))
accept_noted play n place from None left h = absurd (none_some left h)
accept_noted play n place from (Some sess) left h = refl

-- the note of an act that the rules have
pub act_noted : (play : Play Place Program) (starts : ℕ → Place) (party : ℕ) (n : NodeAt Place Program) (w : Want) (left : Worked Place (NodeAt Place Program))
    → act_by play party n (want_with starts w) ≡ Some left → logs.act_note party n (want_with starts w) ≡ Some (note_seen (act_note party n.main n.requests n.offers w))
act_noted play starts party n wants.Local left h = refl
act_noted play starts party n (wants.Send e m) left h = refl
act_noted play starts party n (wants.Delegate e y) left h = refl
act_noted play starts party n (wants.Take e a) left h = take_noted play n e _ (n.main e) left h
act_noted play starts party n (wants.Close e) left h = refl
act_noted play starts party n (wants.Request p to) left h = refl
act_noted play starts party n (wants.Accept p from) left h = accept_noted play n (starts p) from (smallest (n.offers from)) left h
act_noted play starts party n wants.Ended left h = absurd (none_some left h)

-- a choice that gives something
pub then_some : {X : Type 0} (b : Bool) (o : Option X) (x : X) → (if b then o else None) ≡ Some x → o ≡ Some x
then_some true o x h = h
then_some false o x h = absurd (none_some x h)

pub else_some : {X : Type 0} (b : Bool) (o : Option X) (x : X) → (if b then None else o) ≡ Some x → o ≡ Some x
else_some true o x h = absurd (none_some x h)
else_some false o x h = h
