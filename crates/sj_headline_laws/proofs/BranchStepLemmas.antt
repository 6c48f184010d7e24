-- The step of `inbranch`.
use Rattle.std.proofs.Common.{◌≡◌, ℕ, List, ◌∷◌, Option, Some, unwrap_or, refl, ap, sym, ◌∙◌, subst}
use Rattle.sj_base.specs.declared.EndId.{EndId}
use Rattle.sj_base.specs.declared.Msg.{Msg}
use Rattle.sj_base.specs.declared.Msg.TheVariants as msgs
use Rattle.sj_lang.specs.declared.proto.Way.TheVariants.{Into}
use Rattle.sj_lang.specs.Place.{Place, choice}
use Rattle.sj_lang.specs.After.{followed_by, at_label, after_place}
use Rattle.sj_lang.specs.Code.{Code, Branches, no_stmt, inbranch}
use Rattle.sj_semantics.specs.declared.Want.TheVariants as wants
use Rattle.sj_semantics.specs.declared.Awaits.TheVariants as awaits
use Rattle.sj_lang.specs.FileAt.{ProtocolAt}
use Rattle.sj_semantics.specs.Value.{Vars}
use Rattle.sj_semantics.specs.Program.{Thing, statement, Program, block}
use Rattle.sj_semantics.specs.Wants.{want_take}
use Rattle.sj_acceptance.specs.Environment.{Env, at_place}
use Rattle.sj_acceptance.specs.Follows.{Does}
use Rattle.sj_semantics.specs.Ends.{Session}
use Rattle.sj_headline_laws.proofs.KnownLemmas.{forgets_trans}
use Rattle.sj_headline_laws.proofs.NameLemmas.{Agrees}
use Rattle.sj_headline_laws.proofs.AgreeLemmas.{Bound, bound_at, agrees_moved}
use Rattle.sj_headline_laws.proofs.TypedLemmas.{Continues, FitsTodo, continues_fit, block_continues, TakeFits, StepOf}
use Rattle.sj_headline_laws.proofs.ArmLemmas.{at_label_contained, arm_found, common_forgets, arm_taken_at}

module _ (ps : List ProtocolAt) (parties : List ℕ) (zs : List Session) (vars : Vars) (ends : List (ℕ × EndId)) (steps : ℕ) (peers : List ℕ) (rest : List Thing) (env : Env) (a : Agrees zs ends vars env) where
  abbrev pub going : List Thing → Program
  going todo = record { todo = todo; vars = vars; ends = ends; steps = steps; peers = peers }

  pub inbranch_by : (x : ℕ) (arms : Branches) (mid : Env) → (s : Does ps parties (inbranch x arms) env mid) → Continues ps parties rest mid → (b : Bound zs ends x (choice Into s.0 s.1))
      → (m : Msg) (nx : Place) → after_place (choice Into s.0 s.1) Into m ≡ Some nx → TakeFits ps parties zs (going (statement (inbranch x arms) ∷ rest)) b.end awaits.OneOf m nx
  inbranch_by x arms mid s c b (msgs.Label l) nx after =
      let g = arm_taken_at s.0 s.1 l nx (at_label l s.0) refl after in
      let k = (s.3.same l).1 (at_label_contained l s.0 g.place g.labelled) in
      let f = arm_found ps parties x s.0 s.1 env l arms s.4 k.0 s.5 k.1 k.2 in
      let same_place : g.place ≡ f.place = let both : Some g.place ≡ Some f.place = sym g.labelled ∙ f.labelled in cc in
      let there : followed_by f.place s.1 ≡ nx = sym (ap (λ p. followed_by p s.1) same_place) ∙ g.goes_on in
      record {
        name = x;
        is_named = b.it_is;
        can_take = f.named_it;
        stands = tt;
        onward = λ new mv begun. subst (λ (o : Option Code). FitsTodo ps parties new (block (unwrap_or o no_stmt) rest) vars ends) (sym f.it_is)
            (continues_fit ps parties new (block f.code rest) vars ends (at_place env x nx) (agrees_moved zs new ends vars env x b.end nx a b.it_is mv)
            (subst (λ (p : Place). Continues ps parties (block f.code rest) (at_place env x p)) there
            (block_continues ps parties f.code rest (at_place env x (followed_by f.place s.1)) f.last f.follows
            (record { next = c.next; forgets = forgets_trans f.last mid c.next (common_forgets s.4 mid f.last f.number s.6 f.among) c.forgets; does = c.does }))));
      }
  inbranch_by x arms mid s c b (msgs.Int n) nx after = cc
  inbranch_by x arms mid s c b (msgs.Bool n) nx after = cc
  inbranch_by x arms mid s c b (msgs.Text n) nx after = cc
  inbranch_by x arms mid s c b (msgs.More n) nx after = cc
  inbranch_by x arms mid s c b (msgs.Sess t d k) nx after = cc

  pub inbranch_step : (x : ℕ) (arms : Branches) (mid : Env) → Does ps parties (inbranch x arms) env mid → Continues ps parties rest mid → StepOf ps parties zs (going (statement (inbranch x arms) ∷ rest))
  inbranch_step x arms mid s c =
      let b = bound_at zs ends vars env x (choice Into s.0 s.1) a s.2 in
      record {
        want = wants.Take b.end awaits.OneOf;
        wants_it = ap (λ o. want_take o awaits.OneOf) b.it_is;
        step_fits = λ m nx after fit. inbranch_by x arms mid s c b m nx (subst (λ (q : Place). after_place q Into m ≡ Some nx) b.at after);
      }
