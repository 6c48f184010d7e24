-- What a line reports of an event of a world that has only what is the file's.
use Rattle.std.proofs.Common.{◌≡◌, ℕ, ◌<◌, ◌≤◌, Bool, true, false, cond, List, [], ◌∷◌, Option, Some, None, refl, ap, sym, ◌∙◌, arith}
use Rattle.std.specs.Prelude.{nat_lt}
use Rattle.std.proofs.lemmas.Bool.{ltb-true}
use Rattle.sj_base.specs.declared.EndId.{EndId}
use Rattle.sj_base.specs.declared.Msg.{Msg}
use Rattle.sj_base.specs.declared.Msg.TheVariants as msgs
use Rattle.sj_lang.specs.FileAt.{FileAt}
use Rattle.sj_rules.specs.Limits.{limit_of_requests}
use Rattle.sj_rules.specs.Opened.{opened_number, smallest}
use Rattle.sj_rules.specs.Record.{BodyAt, MainAt, Held, Closed, Expected}
use Rattle.sj_rules.specs.Record as said
use Rattle.sj_rules.specs.Rows.{Worked}
use Rattle.sj_rules.specs.Node.{Want, ended, local, sends, delegates, takes, closes, requests, accepts, Play, NodeAt, act_by, acts, open_session}
use Rattle.sj_rules.specs.Log.{NoteAt, body_note, head_note, take_note, act_note}
use Rattle.sj_rules.specs.Log as notes
use Rattle.sj_rules.specs.Within.{BodyWithin}
use Rattle.sj_rules_laws.proofs.WithinRowLemmas.{by_map, by_true, by_some}
use Rattle.sj_log.specs.Legible.{IsAct, IsSaid, IsEnd, HasParty}
use Rattle.sj_legible_laws.proofs.LegibleParts.{AreMessages, BodyTold, MainTold, OfferTold, NodeTold, WantTold}
use Rattle.sj_legible_laws.proofs.OfferLemmas.{smallest_told}

module _ (file : FileAt) where
  -- what a frame says
  pub said_legible : {P : Type 0} (n : ℕ) (b : BodyAt P) → ((p : ℕ) → p < n → HasParty file p) → BodyTold file b → BodyWithin n b → IsSaid file (body_note b)
  said_legible n (said.Carry to conn number taken msg) parties told within = (told.0, (omega (arith, within.0), (omega (arith, within.1), (omega (arith, within.2), told.1))))
  said_legible n (said.Fin to conn number) parties told within = (told, (omega (arith, within.0), omega (arith, within.1)))
  said_legible n (said.Claim of) parties told within = told
  said_legible n (said.Signal to conn party taken) parties told within = (told, (omega (arith, within.0), (parties party within.1, omega (arith, within.2))))
  said_legible n (said.Ack of conn) parties told within = (told, omega (arith, within.0))
  said_legible n (said.Give e resend) parties told within =
      let conn = within.conn in let sent = within.sent in let taken = within.taken in let cached = within.cached in
      (told.0.id, (omega (arith, conn), (parties e.peer within.peer, (omega (arith, sent), (omega (arith, taken), (omega (arith, sent, cached), told.1))))))
  said_legible n (said.Open sess) parties told within = told

  -- what is taken next
  head_legible : (e : EndId) (ms : List Msg) (note : NoteAt) → IsEnd e → AreMessages file ms → head_note e ms ≡ Some note → IsAct file note
  head_legible e [] note own all h = cc
  head_legible e (m ∷ rest) note own all h = by_some (IsAct file) (notes.Took e m) note h (own, all.0)

  take_legible : {P : Type 0} (e : EndId) (r : Option (MainAt P)) (note : NoteAt) → IsEnd e → ((x : MainAt P) → r ≡ Some x → MainTold file x) → take_note e r ≡ Some note → IsAct file note
  take_legible e None note own all h = cc
  take_legible e (Some (Closed c)) note own all h = cc
  take_legible e (Some (Expected keeper place deferred)) note own all h = cc
  take_legible e (Some (Held k)) note own all h = head_legible e k.untaken note own (all (Held k) refl).1 h

  module _ {P Q : Type 0} (Knows : Q → Type 0) (play : Play P Q) (p : ℕ) (m : NodeAt P Q) (all : NodeTold file Knows m) (here : HasParty file p) (few : p ≤ 16)
      (done : Worked P (NodeAt P Q)) (acted : acts play p m ≡ Some done) where
    -- a party that opens a session opened few
    requests_few : (place : P) (to : ℕ) → play.wants m.program ≡ requests place to → m.requests < 100
    requests_few place to is = by (play.is_worn m.program) acted
      where
        by : (b : Bool) → cond b None (act_by play p m (play.wants m.program)) ≡ Some done → m.requests < 100
        by true k = cc
        by false k =
            by_true (λ w. m.requests < 100) (nat_lt m.requests limit_of_requests) (Some (open_session play m place to (opened_number p m.requests))) done
            (sym (ap (act_by play p m) is) ∙ k) (λ t s. ltb-true m.requests 100 t)

    -- what it does
    pub act_legible : (want : Want P) (note : NoteAt) → play.wants m.program ≡ want → WantTold file want → ((place : P) (to : ℕ) → want ≡ requests place to → HasParty file to)
        → act_note p m want ≡ Some note → IsAct file note
    act_legible ended note is own there h = cc
    act_legible local note is own there h = by_some (IsAct file) notes.Local note h tt
    act_legible (sends e msg) note is own there h = by_some (IsAct file) (notes.Sent e msg) note h own
    act_legible (delegates carrier e) note is own there h = by_some (IsAct file) (notes.Sent carrier (msgs.Sess e.sess e.side p)) note h (own.0, (own.1, here))
    act_legible (takes e place) note is own there h = take_legible e (m.main e) note own (all.mains e) h
    act_legible (closes e) note is own there h = by_some (IsAct file) (notes.Shut e) note h own
    act_legible (requests place to) note is own there h =
        let low = requests_few place to is in
        by_some (IsAct file) (notes.Request (opened_number p m.requests) to) note h (omega (arith, low, few), there place to refl)
    act_legible (accepts place from) note is own there h =
        by_map (IsAct file) (λ sess. notes.Accept sess from) (smallest (m.offers from)) note h (λ sess t. smallest_told (OfferTold file from) (m.offers from) sess t (all.offers from))
