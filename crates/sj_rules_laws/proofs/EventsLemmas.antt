-- Each event keeps the invariant: what the core's lemmas ask of a plain step holds of every lawful
-- one.
use Rattle.std.proofs.Common.{◌≡◌, ℕ, nat_lt, ◌+◌, max, Bool, true, false, cond, List, [], ◌∷◌, ◌++◌, slice_get, Option, Some, None, option_map, refl, ap, sym, ◌∙◌, subst}
use Rattle.std.proofs.lemmas.Bool.{ltb-true}
use Rattle.sj_base.specs.declared.EndId.{EndId}
use Rattle.sj_base.specs.declared.Msg.{Msg}
use Rattle.sj_base.specs.declared.Msg.TheVariants as msgs
use Rattle.sj_lang.specs.declared.proto.Way.TheVariants.{Out, Into}
use Rattle.sj_rules.specs.Node.{Want, ended, local, sends, delegates, takes, closes, requests, accepts, Play, NodeAt, accept_offered, acts, arrives}
use Rattle.sj_rules.specs.Frames.{FrameAt}
use Rattle.sj_rules.specs.World.{WorldAt, Event, Act, Deliver, after_event, with_lane, delivery_of, happens}
use Rattle.sj_semantics.specs.World.{session_message}
use Rattle.sj_rules.specs.Record.{offered_end}
use Rattle.sj_rules.specs.Acts.{plain_accepted}
use Rattle.sj_rules.specs.Rows.{Worked, IsPick}
use Rattle.sj_rules.specs.Limits.{limit_of_requests}
use Rattle.sj_rules.specs.Opened.{opened_number, smallest, opened_in}
use Rattle.sj_rules.specs.Shown.{bodies}
use Rattle.sj_rules.specs.Reading.{IsOpenKept}
use Rattle.sj_rules.specs.PlainSide.{PlainAt}
use Rattle.sj_rules.specs.Linked.{waiting_at}
use Rattle.sj_rules.specs.Moves.{with_side, with_program, with_opened, plain_goes, plain_sends, plain_delegates, plain_takes, plain_names, plain_takes_head, plain_requests, plain_accepts, plain_act_by, plain_act}
use Rattle.sj_rules.specs.PlainChanges.{waits_of}
use Rattle.sj_rules.specs.PlainSteps.{PlainLocal, PlainSend, PlainTake, PlainTakeEnd, PlainDelegate, PlainClose, PlainRequest, PlainAccept, NamesEnds, PlainGives, PlainTakes}
use Rattle.sj_rules.specs.Binding.{NamesNoEnd}
use Rattle.sj_rules.specs.Premises.{FitsStep, IsLawful}
use Rattle.sj_rules.proofs.ArrivalLemmas.{arrived_proper}
use Rattle.sj_world_lemmas.proofs.ActLawsProved.{act_laws}
use Rattle.sj_world_lemmas.proofs.StepLemmas.{OpensNothing}
use Rattle.sj_opened_lemmas.proofs.ActKeepLemmas.{open_act_keeps}
use Rattle.sj_opened_lemmas.proofs.RequestKeepLemmas.{request_keeps}
use Rattle.sj_opened_lemmas.proofs.AcceptKeepLemmas.{accept_keeps}
use Rattle.sj_opened_lemmas.proofs.OpenRunLemmas.{each_front_fits}
use Rattle.sj_rules_laws.proofs.CoreActLemmas.{Has, map_has}
use Rattle.sj_rules_laws.proofs.PlainActsLemmas.{counts_hold, gives_local, gives_send, gives_delegate, gives_take, gives_take_end, gives_close, gives_request, gives_accept}

-- ---- what a plain step gives

module _ {P Q : Type 0} (IsOver : P → Type 0) (play : Play P Q) (binds : Q → EndId → Bool) (parties : ℕ) (plain next : PlainAt P Q) (p : ℕ) (lawful : IsLawful IsOver play binds parties plain) where
  -- the place after a message is the one that the facts name
  same_next : {X : Type 0} (f : P → X) (o : Option P) (place : P) (x : X) → o ≡ Some place → option_map f o ≡ Some x → f place ≡ x
  same_next f o place x is k = let it : Some (f place) ≡ Some x = sym (ap (option_map f) is) ∙ k in cc

  by_delegate : (c d : EndId) → play.wants (plain.programs p) ≡ delegates c d → plain_act_by play plain p (delegates c d) ≡ Some next → (place : P) × PlainDelegate IsOver binds play plain next p c d place
  by_delegate c d is acted = by (nat_lt (plain.sides d).hops 100) refl acted
    where
      by : (b : Bool) → nat_lt (plain.sides d).hops 100 ≡ b
          → cond b (option_map (λ place. plain_delegates play p c d place plain) (play.next (plain.sides c).place Out (session_message d p))) None ≡ Some next → (place : P) × PlainDelegate IsOver binds play plain next p c d place
      by true few t =
          let f = gives_delegate IsOver play binds parties plain lawful p c d is (ltb-true (plain.sides d).hops 100 few) in
          let it = same_next (λ place. plain_delegates play p c d place plain) (play.next (plain.sides c).place Out (session_message d p)) f.0.place next f.0.after t in
          (f.0.place, subst (λ (z : PlainAt P Q). PlainDelegate IsOver binds play plain z p c d f.0.place) it f.1)
      by false few t = cc

  by_value : (c : EndId) (place : P) (m : Msg) → NamesNoEnd m → play.wants (plain.programs p) ≡ takes c place → waiting_at plain c 0 ≡ Some m → plain_takes_head play p c place plain (Some m) ≡ Some next
      → (q : P) × PlainTake IsOver binds play plain next p c m q
  by_value c place m none is waits acted =
      let f = gives_take IsOver play binds parties plain lawful p c place m is waits none in
      let it = same_next (λ q. plain_names place m (plain_takes play p c m q plain)) (play.next (plain.sides c).place Into m) f.0.place next f.0.after acted in
      (f.0.place, subst (λ (z : PlainAt P Q). PlainTake IsOver binds play plain z p c m f.0.place) it f.1)

  by_end : (c d : EndId) (keeper : ℕ) (place : P) → play.wants (plain.programs p) ≡ takes c place → waiting_at plain c 0 ≡ Some (session_message d keeper) → plain_takes_head play p c place plain (Some (session_message d keeper)) ≡ Some next
      → (q : P) × PlainTakeEnd IsOver binds play plain next p c d keeper place q
  by_end c d keeper place is waits acted =
      let f = gives_take_end IsOver play binds parties plain lawful p c d keeper place is waits in
      let it = same_next (λ q. plain_names place (session_message d keeper) (plain_takes play p c (session_message d keeper) q plain)) (play.next (plain.sides c).place Into (session_message d keeper)) f.0.place next f.0.after acted in
      (f.0.place, subst (λ (z : PlainAt P Q). PlainTakeEnd IsOver binds play plain z p c d keeper place f.0.place) it f.1)

  by_head : (c : EndId) (place : P) (m : Msg) → play.wants (plain.programs p) ≡ takes c place → waiting_at plain c 0 ≡ Some m → plain_takes_head play p c place plain (Some m) ≡ Some next
      → (q : P) × PlainTakes IsOver binds play plain p next c place m q
  by_head c place (msgs.Sess s d keeper) is waits acted = by_end c (record { sess = s; side = d }) keeper place is waits acted
  by_head c place (msgs.Int i) is waits acted = by_value c place (msgs.Int i) tt is waits acted
  by_head c place (msgs.Bool b) is waits acted = by_value c place (msgs.Bool b) tt is waits acted
  by_head c place (msgs.Text i) is waits acted = by_value c place (msgs.Text i) tt is waits acted
  by_head c place (msgs.Label i) is waits acted = by_value c place (msgs.Label i) tt is waits acted
  by_head c place (msgs.More b) is waits acted = by_value c place (msgs.More b) tt is waits acted

  by_take : (c : EndId) (place : P) → play.wants (plain.programs p) ≡ takes c place → (l : List Msg) → waits_of plain c ≡ l → plain_takes_head play p c place plain (slice_get l 0) ≡ Some next
      → (m : Msg) × (later : List Msg) × (waits_of plain c ≡ m ∷ later) × ((q : P) × PlainTakes IsOver binds play plain p next c place m q)
  by_take c place is [] waits acted = cc
  by_take c place is (m ∷ later) waits acted = (m, later, waits, by_head c place m is (ap (λ (xs : List Msg). slice_get xs 0) waits) acted)

  by_request : (place : P) (to : ℕ) → play.wants (plain.programs p) ≡ requests place to → plain_act_by play plain p (requests place to) ≡ Some next → (there : P) × PlainRequest IsOver binds play plain next p place there to
  by_request place to is acted = by (nat_lt (plain.requests p) limit_of_requests) refl acted
    where
      by : (b : Bool) → nat_lt (plain.requests p) limit_of_requests ≡ b → cond b (Some (plain_requests play p place to (opened_number p (plain.requests p)) plain)) None ≡ Some next → (there : P) × PlainRequest IsOver binds play plain next p place there to
      by true few t =
          let it : plain_requests play p place to (opened_number p (plain.requests p)) plain ≡ next = cc in
          (play.dual place, subst (λ (z : PlainAt P Q). PlainRequest IsOver binds play plain z p place (play.dual place) to) it (gives_request IsOver play binds parties plain lawful p place to is (ltb-true (plain.requests p) limit_of_requests few)))
      by false few t = cc

  by_accept : (place : P) (from : ℕ) → play.wants (plain.programs p) ≡ accepts place from → (l : List ℕ) → plain.offers from p ≡ l → plain_accepts play p place from plain l ≡ Some next
      → (sess : ℕ) × (later : List ℕ) × PlainAccept IsOver binds play plain next p place from sess later
  by_accept place from is [] first acted = cc
  by_accept place from is (sess ∷ later) first acted =
      let it : with_side (offered_end sess) (λ x. plain_accepted x place) (with_opened from p later (with_program p (play.opened (plain.programs p) (offered_end sess)) plain)) ≡ next = cc in
      (sess, later, subst (λ (z : PlainAt P Q). PlainAccept IsOver binds play plain z p place from sess later) it (gives_accept IsOver play binds parties plain lawful p place from sess later is first))

  step_gives : (want : Want P) → play.wants (plain.programs p) ≡ want → plain_act_by play plain p want ≡ Some next → PlainGives IsOver binds play plain p next want
  step_gives ended is acted = cc
  step_gives local is acted =
      let it : plain_goes play p None plain ≡ next = cc in
      subst (λ (z : PlainAt P Q). PlainLocal IsOver binds play plain z p) it (gives_local IsOver play binds parties plain lawful p is)
  step_gives (sends c m) is acted =
      let f = gives_send IsOver play binds parties plain lawful p c m is in
      let it = same_next (λ place. plain_sends play p c m place plain) (play.next (plain.sides c).place Out m) f.0.place next f.0.after acted in
      (f.0.place, subst (λ (z : PlainAt P Q). PlainSend IsOver binds play plain z p c m f.0.place) it f.1)
  step_gives (delegates c d) is acted = by_delegate c d is acted
  step_gives (takes c place) is acted = by_take c place is (waits_of plain c) refl acted
  step_gives (closes c) is acted =
      let it : plain_goes play p None plain ≡ next = cc in
      subst (λ (z : PlainAt P Q). PlainClose IsOver binds play plain z p c) it (gives_close IsOver play binds parties plain lawful p c is)
  step_gives (requests place to) is acted = by_request place to is acted
  step_gives (accepts place from) is acted = by_accept place from is (plain.offers from p) refl acted

  -- the ends that the step names are of sides 0 and 1
  names_ends : (want : Want P) → FitsStep IsOver play binds plain p (plain.programs p) want → NamesEnds want
  names_ends ended fit = tt
  names_ends local fit = tt
  names_ends (sends c m) fit = (lawful.proper p c fit.bound).0
  names_ends (delegates c d) fit = ((lawful.proper p c fit.bound).0, (lawful.proper p d fit.handed).0)
  names_ends (takes c place) fit = (lawful.proper p c fit.bound).0
  names_ends (closes c) fit = (lawful.proper p c fit.bound).0
  names_ends (requests place to) fit = tt
  names_ends (accepts place from) fit = tt

  act_gives : (b : Bool) → cond b None (plain_act_by play plain p (play.wants (plain.programs p))) ≡ Some next → PlainGives IsOver binds play plain p next (play.wants (plain.programs p))
  act_gives true acted = cc
  act_gives false acted = step_gives (play.wants (plain.programs p)) refl acted

-- ---- events

module _ {P Q : Type 0} (IsOver : P → Type 0) (play : Play P Q) (binds : Q → EndId → Bool) (parties : ℕ) (pick : ℕ → ℕ → ℕ) where
  -- one that happens is the one that was said to
  one_after : (w v : WorldAt P Q) (plain : PlainAt P Q) (p : ℕ) (event : Event) → happens play pick w p event ≡ Some v →
      (u : WorldAt P Q) × (happens play pick w p event ≡ Some u) × IsOpenKept IsOver binds play.blank u plain → IsOpenKept IsOver binds play.blank v plain
  one_after w v plain p event e k = let i : k.0 ≡ v = cc (k.1, e) in subst (λ z. IsOpenKept IsOver binds play.blank z plain) i k.2

  -- a party that accepts has a session that is offered
  has_offer : (n : NodeAt P Q) (place : P) (from : ℕ) (l : List ℕ) (done : Worked P (NodeAt P Q)) → accept_offered play n place from (smallest l) ≡ Some done → (s : ℕ) × (others : List ℕ) × (l ≡ s ∷ others)
  has_offer n place from [] done e = absurd (cc e)
  has_offer n place from (s ∷ others) done e = (s, others, refl)

  -- the first of the offers is the first of all
  same_first : (offers rest others later : List ℕ) (s sess : ℕ) → offers ≡ s ∷ others → offers ++ rest ≡ sess ∷ later → s ≡ sess
  same_first offers rest others later s sess there all = let e : s ∷ (others ++ rest) ≡ sess ∷ later = ap (λ l. l ++ rest) (sym there) ∙ all in cc e

  module _ (core after : WorldAt P Q) (plain next : PlainAt P Q) (p : ℕ) (kept : IsOpenKept IsOver binds play.blank core plain) (lawful : IsLawful IsOver play binds parties plain) (lawful_next : IsLawful IsOver play binds parties next)
      (acted : plain_act play plain p ≡ Some next) (step : happens play pick core p Act ≡ Some after) where
    fresh : play.is_worn (plain.programs p) ≡ false
    fresh = by (play.is_worn (plain.programs p)) refl
      where
        by : (b : Bool) → play.is_worn (plain.programs p) ≡ b → b ≡ false
        by true i = absurd (cc (rw i at acted))
        by false i = refl

    gives : PlainGives IsOver binds play plain p next (play.wants (plain.programs p))
    gives = act_gives IsOver play binds parties plain next p lawful (play.is_worn (plain.programs p)) acted

    old_keeps : OpensNothing (play.wants (plain.programs p)) → IsOpenKept IsOver binds play.blank after next
    old_keeps old =
        open_act_keeps IsOver binds play core plain next kept p pick after step (counts_hold IsOver play binds parties plain lawful) (counts_hold IsOver play binds parties next lawful_next)
        (λ x y c b. act_laws IsOver x y c) old (names_ends IsOver play binds parties plain next p lawful (play.wants (plain.programs p)) (lawful.steps p)) gives (λ k e low o. lawful_next.unbound k e o)

    -- what the party is offered comes first in what was opened to it
    accepts_it : (place : P) (from sess : ℕ) (later : List ℕ) → play.wants (plain.programs p) ≡ accepts place from → PlainAccept IsOver binds play plain next p place from sess later → IsOpenKept IsOver binds play.blank after next
    accepts_it place from sess later is facts =
        let row : Has (acts play p (core.nodes p)) = map_has (after_event core p ((core.nodes p).clock + 1) core.lanes) (acts play p (core.nodes p)) after step in
        let wanted : play.wants (core.nodes p).program ≡ accepts place from = ap play.wants (kept.kept.programs p) ∙ is in
        let worn : play.is_worn (core.nodes p).program ≡ false = ap play.is_worn (kept.kept.programs p) ∙ fresh in
        let done : acts play p (core.nodes p) ≡ accept_offered play (core.nodes p) place from (smallest ((core.nodes p).offers from)) = rw (worn, wanted) refl in
        let o = has_offer (core.nodes p) place from ((core.nodes p).offers from) row.some (sym done ∙ row.is) in
        let first : o.0 ≡ sess = same_first ((core.nodes p).offers from) (opened_in (bodies (core.lanes from p))) o.1 later o.0 sess o.2 (kept.offers from p ∙ facts.first) in
        one_after core after next p Act step (accept_keeps IsOver binds play core plain next kept p fresh place from sess later is facts o.1 (o.2 ∙ ap (λ (s : ℕ). s ∷ o.1) first) pick)

    by_want : (want : Want P) → play.wants (plain.programs p) ≡ want → PlainGives IsOver binds play plain p next want → IsOpenKept IsOver binds play.blank after next
    by_want ended is g = absurd g
    by_want local is g = old_keeps (subst OpensNothing (sym is) tt)
    by_want (sends c m) is g = old_keeps (subst OpensNothing (sym is) tt)
    by_want (delegates c d) is g = old_keeps (subst OpensNothing (sym is) tt)
    by_want (takes c place) is g = old_keeps (subst OpensNothing (sym is) tt)
    by_want (closes c) is g = old_keeps (subst OpensNothing (sym is) tt)
    by_want (requests place to) is g = one_after core after next p Act step (request_keeps IsOver binds play core plain next kept p fresh place g.0 to is g.1 pick)
    by_want (accepts place from) is g = accepts_it place from g.0 g.1 is g.2

    -- an act of the core leaves a world that stands for the plain world after that act
    pub acts_keep : IsOpenKept IsOver binds play.blank after next
    acts_keep = by_want (play.wants (plain.programs p)) refl gives

  -- a delivery leaves a world that stands for the same plain world
  pub deliveries_keep : IsPick pick → (core after : WorldAt P Q) (plain : PlainAt P Q) (p q : ℕ) →
      IsOpenKept IsOver binds play.blank core plain → IsLawful IsOver play binds parties plain →
      happens play pick core p (Deliver q) ≡ Some after → IsOpenKept IsOver binds play.blank after plain
  deliveries_keep picks core after plain p q kept lawful h = by (core.lanes q p) refl h
    where
      by : (l : List (FrameAt P)) → core.lanes q p ≡ l → delivery_of play pick core p q l ≡ Some after → IsOpenKept IsOver binds play.blank after plain
      by [] front k = cc
      by (f ∷ rest) front k =
          let row = map_has (after_event core p (max (core.nodes p).clock f.clock + 1) (with_lane q p rest core.lanes)) (arrives play.blank play.parties pick (core.nodes p) q f) after k in
          one_after core after plain p (Deliver q) h
          (each_front_fits IsOver binds play core plain kept pick picks (counts_hold IsOver play binds parties plain lawful) q p f rest front (arrived_proper play.blank play.parties pick (core.nodes p) q f row.some row.is))
