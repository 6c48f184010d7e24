-- A take from the first of several ends, after a guest waited.
use Rattle.std.proofs.Common.{◌≡◌, ◌∙◌, length, List, ◌∷◌, Option, Some, None, Result, Ok, Err, IfOk, IfErr, OnErr, OnOk, sym, subst, inl}
use Rattle.std.specs.Prelude.{IfSome}
use Rattle.sj_base.specs.declared.EndId.{EndId}
use Rattle.sj_base.specs.declared.Msg.{Msg}
use Rattle.sj_lang.specs.FileAt.{FileAt}
use Rattle.sj_node.specs.Node.{Stays}
use Rattle.sj_node.specs.Reading.{parties_of}
use Rattle.sj_seat_laws.specs.Calls.{Call, takes}
use Rattle.sj_work.specs.declared.worker.Stop.{Stop}
use Rattle.sj_work.specs.declared.worker.Worker.{Worker}
use Rattle.sj_work.proofs.LaneLaws.{LaneLaws}
use Rattle.sj_seat.specs.Logged.{TellsTaken, TookLast}
use Rattle.sj_seat.specs.Ready.{IsAnyRefused, IsCutShort, IsNoneTaken, IsUntaken, TookFirst, any_rule, first_rule_of, first_there}
use Rattle.sj_seat.specs.Rules.{first_refusal, take_tests}
use Rattle.sj_seat.specs.Views.{calls_of, ends_of, node_of, worker_of}
use Rattle.sj_seat.specs.Went.{IsStopped, Went}
use Rattle.sj_seat.specs.declared.guest.Guest.{Guest}
use Rattle.sj_seat.specs.declared.refusal.SeatRefusal.{SeatRefusal}
use Rattle.sj_seat.specs.declared.refusal.SeatRefusal.TheVariants as refusals
use Rattle.sj_seat.proofs.AfterLemmas.{Waited, waited_then}
use Rattle.sj_seat.proofs.PickLemmas.{allowed_there, first_stays}

-- what was taken on an end is the call's, by its name
pub tells_took : {O I : Type 0} (w : Worker O I) (c : Call) (e : EndId) (m : Msg) → c ≡ takes e → TellsTaken w c (Some m) → TookLast w e m
tells_took w c e m is told = subst (λ (d : Call). TellsTaken w d (Some m)) is told

abbrev pub Answer : Type 0
Answer = Result (EndId × Msg) SeatRefusal

pub at_once_there : (o : Option EndId) (e : EndId) (r : Answer) → o ≡ Some e → IfOk r (λ p. p.0 ≡ e) → IfOk r (λ p. IfSome o (λ d. p.0 ≡ d))
at_once_there o e (Err h) is same = tt
at_once_there o e (Ok p) is same = subst (λ (x : Option EndId). IfSome x (λ d. p.0 ≡ d)) (sym is) same

pub at_once_none : (o : Option EndId) (r : Answer) → o ≡ None → IfOk r (λ p. IfSome o (λ d. p.0 ≡ d))
at_once_none o (Err h) is = tt
at_once_none o (Ok p) is = subst (λ (x : Option EndId). IfSome x (λ d. p.0 ≡ d)) (sym is) tt

module _ {O I G : Type 0} where
  -- no rule refuses it
  pub none_refused : (o : Option SeatRefusal) (r : Answer) (es : List EndId) (old new : Guest O I G) → o ≡ None → IfErr r (λ h. IsNoneTaken h es new) → IfErr r (λ h. IsAnyRefused o h es old new)
  none_refused o (Ok p) es old new is why = tt
  none_refused o (Err h) es old new is why = subst (λ (x : Option SeatRefusal). IsAnyRefused x h es old new) (sym is) why

  -- what is first there stays so
  pub cut_off : (r : Answer) (es : List EndId) (e : EndId) (w g : Guest O I G) → first_there (node_of w) es ≡ Some e → OnErr r (Stays (node_of w) (node_of g)) → IfErr r (λ h. IsCutShort h e g) → IfErr r (λ h. IsNoneTaken h es g)
  cut_off (Ok p) es e w g there stays why = tt
  cut_off (Err h) es e w g there stays why = subst (λ (o : Option EndId). IsUntaken o h g) (sym (first_stays (node_of w) (node_of g) stays es ∙ there)) why

  -- the worker stopped, whatever is there
  pub stopped_there : (s : Stop) (o : Option EndId) (g : Guest O I G) → IsStopped s g → IsUntaken o (refusals.Stopped s) g
  stopped_there s None g why = why
  stopped_there s (Some e) g why = inl why

  pub none_there : (o : Option EndId) (g : Guest O I G) → o ≡ None → IsUntaken o refusals.Waiting g
  none_there o g none = subst (λ (x : Option EndId). IsUntaken x refusals.Waiting g) (sym none) tt

  pub took_named : (r : Answer) (e : EndId) (g : Guest O I G) → IfOk r (λ p. p.0 ≡ e) → IfOk r (λ p. TookLast (worker_of g) e p.1) → IfOk r (λ p. TookLast (worker_of g) p.0 p.1)
  took_named (Err h) e g same took = tt
  took_named (Ok p) e g same took = subst (λ (d : EndId). TookLast (worker_of g) d p.1) (sym same) took

module _ {O I G : Type 0} (k : LaneLaws O I) where
  abbrev WaitedBy : (old new : Guest O I G) → Type 0
  WaitedBy old new = Waited k.outward k.inward old new

  abbrev WentBy : FileAt → (before after : List Call) → (old new : Guest O I G) → Type 0
  WentBy file before after old new = Went k.outward k.inward file before after old new

  -- no rule refuses a take on the end that has a message
  pub allowed_waited : (a w : Guest O I G) (es : List EndId) (e : EndId) → WaitedBy a w → any_rule a es ≡ None → first_there (node_of w) es ≡ Some e → first_refusal (take_tests (calls_of w) (ends_of w) e) ≡ None
  allowed_waited a w es e x none there = allowed_there (node_of w) (calls_of w) (ends_of w) es e ((λ i. first_rule_of (x.rests.calls i) (x.rests.ends i) es) ∙ none) there

  -- a guest that waited made no call
  pub waited_went : (a w : Guest O I G) → WaitedBy a w → (file : FileAt) (rest : List Call) → length file.parties ≡ parties_of (node_of a) → WentBy file rest rest a w
  waited_went a w x file rest parties = record { lost = None; work = x.work file rest parties; loses = tt }

  module _ (a w m : Guest O I G) (x : WaitedBy a w) (e : EndId) where
    pub any_ok : (r : Answer) → ((file : FileAt) (rest : List Call) → length file.parties ≡ parties_of (node_of w) → OnOk r (WentBy file (takes e ∷ rest) rest w m)) → IfOk r (λ p. p.0 ≡ e)
        → IfOk r (λ p. (file : FileAt) (rest : List Call) → length file.parties ≡ parties_of (node_of a) → WentBy file (takes p.0 ∷ rest) rest a m)
    any_ok (Err h) went same = tt
    any_ok (Ok p) went same = λ file rest parties.
        subst (λ (d : EndId). WentBy file (takes d ∷ rest) rest a m) (sym same) (waited_then k a w m file (takes e ∷ rest) rest x parties (went file rest))

    pub any_first : (es : List EndId) (r : Answer) → first_there (node_of w) es ≡ Some e → ((file : FileAt) (rest : List Call) → length file.parties ≡ parties_of (node_of w) → OnOk r (WentBy file (takes e ∷ rest) rest w m))
        → IfOk r (λ p. p.0 ≡ e) → IfOk r (λ p. TookFirst k.outward k.inward es p.0 a m)
    any_first es (Err h) there went same = tt
    any_first es (Ok p) there went same = subst (λ (d : EndId). TookFirst k.outward k.inward es d a m) (sym same) (record {
      before = w;
      waited = waited_went a w x;
      first = there;
      took = λ file rest parties. went file rest (parties ∙ sym x.keeps.parties);
    })
