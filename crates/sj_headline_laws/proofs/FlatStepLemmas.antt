-- The steps of `outbranch`, `close`, `let` and `if`.
use Rattle.std.proofs.Common.{◌≡◌, ℕ, Bool, true, false, cond, List, [], ◌∷◌, Option, Some, option_map, unwrap_or, refl, ap, sym, subst}
use Rattle.sj_base.specs.declared.EndId.{EndId}
use Rattle.sj_base.specs.declared.Msg.TheVariants as msgs
use Rattle.sj_lang.specs.declared.party.Scalar.TheVariants as kinds
use Rattle.sj_lang.specs.declared.proto.Way.TheVariants.{Out}
use Rattle.sj_lang.specs.Place.{Place, done, choice}
use Rattle.sj_lang.specs.After.{followed_by, after_place}
use Rattle.sj_lang.specs.Term.{Term}
use Rattle.sj_lang.specs.Code.{Code, outbranch, if_else, let_be, close}
use Rattle.sj_semantics.specs.declared.Want.TheVariants as wants
use Rattle.sj_lang.specs.FileAt.{ProtocolAt}
use Rattle.sj_semantics.specs.declared.Value.{Value}
use Rattle.sj_semantics.specs.Value.{with_value, Vars, worth}
use Rattle.sj_semantics.specs.Program.{Thing, statement, Program, block, ends_without}
use Rattle.sj_semantics.specs.Steps.{assigned_vars}
use Rattle.sj_semantics.specs.Wants.{want_send}
use Rattle.sj_acceptance.specs.Statements.{IsSelect, IsClose, IsLet}
use Rattle.sj_acceptance.specs.Environment.{Env, at_place, without_end, with_kind}
use Rattle.sj_acceptance.specs.Follows.{Does}
use Rattle.sj_semantics.specs.Balanced.{FitsNext}
use Rattle.sj_semantics.specs.Ends.{Session}
use Rattle.sj_headline_laws.proofs.KnownLemmas.{forgets_trans}
use Rattle.sj_headline_laws.proofs.NameLemmas.{Agrees}
use Rattle.sj_headline_laws.proofs.AgreeLemmas.{bound_at, agrees_moved, agrees_without, agrees_assigned}
use Rattle.sj_headline_laws.proofs.WorthLemmas.{worth_of_kind}
use Rattle.sj_headline_laws.proofs.TypedLemmas.{Continues, FitsTodo, continues_fit, block_continues, StepOf}
use Rattle.sj_headline_laws.proofs.ValueStepLemmas.{truth_in}
use Rattle.sj_headline_laws.proofs.ArmLemmas.{common_forgets}

module _ (ps : List ProtocolAt) (parties : List ℕ) (zs : List Session) (vars : Vars) (ends : List (ℕ × EndId)) (steps : ℕ) (peers : List ℕ) (rest : List Thing) (env : Env) (a : Agrees zs ends vars env) where
  abbrev pub going : List Thing → Program
  going todo = record { todo = todo; vars = vars; ends = ends; steps = steps; peers = peers }

  pub select_step : (x l : ℕ) (mid : Env) → IsSelect env x l mid → Continues ps parties rest mid → StepOf ps parties zs (going (statement (outbranch x l) ∷ rest))
  select_step x l mid s c =
      let b = bound_at zs ends vars env x (choice Out s.arms s.rest) a s.there in
      record {
        want = wants.Send b.end (msgs.Label l);
        wants_it = ap (λ o. want_send o (Some (msgs.Label l))) b.it_is;
        step_fits = record {
          name = x;
          is_named = b.it_is;
          next = followed_by s.arm_place s.rest;
          after = subst (λ (p : Place). after_place p Out (msgs.Label l) ≡ Some (followed_by s.arm_place s.rest)) (sym b.at) (ap (option_map (λ t. followed_by t s.rest)) s.labelled);
          fits = subst (λ (p : Place). FitsNext zs p (msgs.Label l)) (sym b.at) tt;
          onward = λ new m. continues_fit ps parties new rest vars ends (at_place env x (followed_by s.arm_place s.rest)) (agrees_moved zs new ends vars env x b.end (followed_by s.arm_place s.rest) a b.it_is m) (subst (Continues ps parties rest) s.leaves c);
        };
      }

  pub close_step : (x : ℕ) (mid : Env) → IsClose env x mid → Continues ps parties rest mid → StepOf ps parties zs (going (statement (close x) ∷ rest))
  close_step x mid s c =
      let b = bound_at zs ends vars env x done a s.there in
      record {
        want = wants.Close b.end;
        wants_it = ap (option_map wants.Close) b.it_is;
        step_fits = (b.at, continues_fit ps parties zs rest vars (ends_without ends x) (without_end env x) (agrees_without zs ends vars env x a) (subst (Continues ps parties rest) s.leaves c));
      }

  pub let_step : (n : ℕ) (e : Term) (mid : Env) → IsLet env n e mid → Continues ps parties rest mid → StepOf ps parties zs (going (statement (let_be n e) ∷ rest))
  let_step n e mid s c =
      let w = worth_of_kind env.kinds vars a.kinds e s.kind s.typed in
      record {
        want = wants.Local;
        wants_it = ap (option_map (λ v. wants.Local)) w.it_is;
        step_fits = subst (λ (o : Option Value). FitsTodo ps parties zs rest (assigned_vars vars n o) ends) (sym w.it_is)
            (continues_fit ps parties zs rest (with_value vars n w.value) ends (with_kind env n s.kind) (agrees_assigned zs ends vars env n w.value s.kind a w.kind) (subst (Continues ps parties rest) s.leaves c));
      }

  pub if_fits : (b : Bool) (first second : Code) → Continues ps parties (block first rest) env → Continues ps parties (block second rest) env → FitsTodo ps parties zs (cond b (block first rest) (block second rest)) vars ends
  if_fits true first second c d = continues_fit ps parties zs (block first rest) vars ends env a c
  if_fits false first second c d = continues_fit ps parties zs (block second rest) vars ends env a d

  pub if_step : (e : Term) (first second : Code) (mid : Env) → Does ps parties (if_else e first second) env mid → Continues ps parties rest mid → StepOf ps parties zs (going (statement (if_else e first second) ∷ rest))
  if_step e first second mid s c =
      let t = truth_in (worth vars e) (worth_of_kind env.kinds vars a.kinds e kinds.Boolean s.0) in
      record {
        want = wants.Local;
        wants_it = ap (option_map (λ b. wants.Local)) t.it_is;
        step_fits = subst (λ (o : Option Bool). FitsTodo ps parties zs (cond (unwrap_or o false) (block first rest) (block second rest)) vars ends) (sym t.it_is)
            (if_fits t.truth first second
            (block_continues ps parties first rest env s.1 s.2 (record { next = c.next; forgets = forgets_trans s.1 mid c.next (common_forgets (s.1 ∷ s.3 ∷ []) mid s.1 0 s.5 refl) c.forgets; does = c.does }))
            (block_continues ps parties second rest env s.3 s.4 (record { next = c.next; forgets = forgets_trans s.3 mid c.next (common_forgets (s.1 ∷ s.3 ∷ []) mid s.3 1 s.5 refl) c.forgets; does = c.does })));
      }
