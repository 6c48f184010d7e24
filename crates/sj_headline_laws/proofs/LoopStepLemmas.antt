-- The steps of loops.
use Rattle.std.proofs.Common.{◌≡◌, ℕ, zero, suc, Bool, true, false, cond, List, ◌∷◌, Option, Some, option_map, option_and_then, unwrap_or, refl, ap, sym, ◌∙◌, subst}
use Rattle.sj_base.specs.declared.EndId.{EndId}
use Rattle.sj_base.specs.declared.Msg.{Msg}
use Rattle.sj_base.specs.declared.Msg.TheVariants as msgs
use Rattle.sj_lang.specs.declared.party.Scalar.TheVariants as kinds
use Rattle.sj_lang.specs.declared.proto.Way.TheVariants.{Out, Into}
use Rattle.sj_lang.specs.Place.{Place, repeat}
use Rattle.sj_lang.specs.After.{followed_by, after_place}
use Rattle.sj_lang.specs.Term.{Term}
use Rattle.sj_lang.specs.Code.{Code, outwhile, inwhile}
use Rattle.sj_semantics.specs.declared.Want.TheVariants as wants
use Rattle.sj_semantics.specs.declared.Awaits.TheVariants as awaits
use Rattle.sj_lang.specs.FileAt.{ProtocolAt}
use Rattle.sj_semantics.specs.Value.{Vars, worth, turns_of}
use Rattle.sj_semantics.specs.Program.{Thing, statement, turns, Program, block}
use Rattle.sj_semantics.specs.Steps.{turns_ahead}
use Rattle.sj_semantics.specs.Wants.{want_send, want_take, more_turns}
use Rattle.sj_acceptance.specs.Environment.{Env, at_place}
use Rattle.sj_acceptance.specs.Follows.{Does}
use Rattle.sj_semantics.specs.Balanced.{FitsNext}
use Rattle.sj_semantics.specs.Ends.{Session}
use Rattle.sj_headline_laws.proofs.KnownLemmas.{back_forgets}
use Rattle.sj_headline_laws.proofs.NameLemmas.{Agrees}
use Rattle.sj_headline_laws.proofs.AgreeLemmas.{Bound, bound_at, agrees_moved}
use Rattle.sj_headline_laws.proofs.WorthLemmas.{worth_of_kind}
use Rattle.sj_headline_laws.proofs.TypedLemmas.{IsTurning, Continues, FitsTodo, continues_fit, block_continues, TakeFits, StepOf}
use Rattle.sj_headline_laws.proofs.ValueStepLemmas.{turned_place, turned_after, count_of}

module _ (ps : List ProtocolAt) (parties : List ℕ) (zs : List Session) (vars : Vars) (ends : List (ℕ × EndId)) (steps : ℕ) (peers : List ℕ) (rest : List Thing) (env : Env) (a : Agrees zs ends vars env) where
  abbrev pub going : List Thing → Program
  going todo = record { todo = todo; vars = vars; ends = ends; steps = steps; peers = peers }

  pub turned_continues : (x n : ℕ) (body : Code) → (t : IsTurning ps parties env x body) → Continues ps parties rest (at_place env x t.outer) → Continues ps parties (turns_ahead x n body rest) (at_place env x (turned_place t.inner t.outer n))
  turned_continues x zero body t c = c
  turned_continues x (suc n) body t c =
      block_continues ps parties body (turns x n body ∷ rest) (at_place env x (followed_by t.inner (repeat Out t.inner t.outer))) t.last t.follows
      (record { next = env; forgets = t.back; does = (t, (c.next, (c.forgets, c.does))) })

  pub outwhile_step : (x : ℕ) (e : Term) (body : Code) (mid : Env) → Does ps parties (outwhile x e body) env mid → Continues ps parties rest mid → StepOf ps parties zs (going (statement (outwhile x e body) ∷ rest))
  outwhile_step x e body mid s c =
      let t : IsTurning ps parties env x body = record { inner = s.0; outer = s.1; there = s.2; last = s.4; follows = s.5; back = back_forgets ps parties body env (at_place env x (followed_by s.0 (repeat Out s.0 s.1))) s.4 s.5 refl s.6 } in
      let b = bound_at zs ends vars env x (repeat Out s.0 s.1) a s.2 in
      let n = count_of (worth vars e) (worth_of_kind env.kinds vars a.kinds e kinds.Int s.3) in
      record {
        want = wants.Send b.end (more_turns n.count);
        wants_it = ap (λ o. want_send o (option_map more_turns (option_and_then turns_of (worth vars e)))) b.it_is ∙ ap (λ o. want_send (Some b.end) (option_map more_turns o)) n.it_is;
        step_fits = record {
          name = x;
          is_named = b.it_is;
          next = turned_place s.0 s.1 n.count;
          after = subst (λ (p : Place). after_place p Out (more_turns n.count) ≡ Some (turned_place s.0 s.1 n.count)) (sym b.at) (turned_after s.0 s.1 n.count);
          fits = subst (λ (p : Place). FitsNext zs p (more_turns n.count)) (sym b.at) tt;
          onward = λ new m. subst (λ (o : Option ℕ). FitsTodo ps parties new (turns_ahead x (unwrap_or o 0) body rest) vars ends) (sym n.it_is)
              (continues_fit ps parties new (turns_ahead x n.count body rest) vars ends (at_place env x (turned_place s.0 s.1 n.count))
              (agrees_moved zs new ends vars env x b.end (turned_place s.0 s.1 n.count) a b.it_is m) (turned_continues x n.count body t (subst (Continues ps parties rest) s.7 c)));
        };
      }

  pub turns_step : (x n : ℕ) (body : Code) → (t : IsTurning ps parties env x body) → Continues ps parties rest (at_place env x t.outer) → StepOf ps parties zs (going (turns x n body ∷ rest))
  turns_step x n body t c =
      let b = bound_at zs ends vars env x (repeat Out t.inner t.outer) a t.there in
      record {
        want = wants.Send b.end (more_turns n);
        wants_it = ap (λ o. want_send o (Some (more_turns n))) b.it_is;
        step_fits = record {
          name = x;
          is_named = b.it_is;
          next = turned_place t.inner t.outer n;
          after = subst (λ (p : Place). after_place p Out (more_turns n) ≡ Some (turned_place t.inner t.outer n)) (sym b.at) (turned_after t.inner t.outer n);
          fits = subst (λ (p : Place). FitsNext zs p (more_turns n)) (sym b.at) tt;
          onward = λ new m. continues_fit ps parties new (turns_ahead x n body rest) vars ends (at_place env x (turned_place t.inner t.outer n))
              (agrees_moved zs new ends vars env x b.end (turned_place t.inner t.outer n) a b.it_is m) (turned_continues x n body t c);
        };
      }

  pub inwhile_continues : (x : ℕ) (body : Code) (mid : Env) (more : Bool) → (s : Does ps parties (inwhile x body) env mid) → Continues ps parties rest mid
      → Continues ps parties (cond more (block body (statement (inwhile x body) ∷ rest)) rest) (at_place env x (cond more (followed_by s.0 (repeat Into s.0 s.1)) s.1))
  inwhile_continues x body mid true s c =
      block_continues ps parties body (statement (inwhile x body) ∷ rest) (at_place env x (followed_by s.0 (repeat Into s.0 s.1))) s.3 s.4
      (record { next = env; forgets = back_forgets ps parties body env (at_place env x (followed_by s.0 (repeat Into s.0 s.1))) s.3 s.4 refl s.5; does = (mid, (s, (c.next, (c.forgets, c.does)))) })
  inwhile_continues x body mid false s c = subst (Continues ps parties rest) s.6 c

  pub inwhile_by : (x : ℕ) (body : Code) (mid : Env) → (s : Does ps parties (inwhile x body) env mid) → Continues ps parties rest mid → (b : Bound zs ends x (repeat Into s.0 s.1))
      → (m : Msg) (nx : Place) → after_place (repeat Into s.0 s.1) Into m ≡ Some nx → TakeFits ps parties zs (going (statement (inwhile x body) ∷ rest)) b.end awaits.MoreOrStop m nx
  inwhile_by x body mid s c b (msgs.More more) nx after =
      let same : cond more (followed_by s.0 (repeat Into s.0 s.1)) s.1 ≡ nx = cc in
      record {
        name = x;
        is_named = b.it_is;
        can_take = refl;
        stands = tt;
        onward = λ new mv begun. continues_fit ps parties new (cond more (block body (statement (inwhile x body) ∷ rest)) rest) vars ends (at_place env x nx)
            (agrees_moved zs new ends vars env x b.end nx a b.it_is mv)
            (subst (λ (p : Place). Continues ps parties (cond more (block body (statement (inwhile x body) ∷ rest)) rest) (at_place env x p)) same (inwhile_continues x body mid more s c));
      }
  inwhile_by x body mid s c b (msgs.Int n) nx after = cc
  inwhile_by x body mid s c b (msgs.Bool n) nx after = cc
  inwhile_by x body mid s c b (msgs.Text n) nx after = cc
  inwhile_by x body mid s c b (msgs.Label n) nx after = cc
  inwhile_by x body mid s c b (msgs.Sess t d k) nx after = cc

  pub inwhile_step : (x : ℕ) (body : Code) (mid : Env) → Does ps parties (inwhile x body) env mid → Continues ps parties rest mid → StepOf ps parties zs (going (statement (inwhile x body) ∷ rest))
  inwhile_step x body mid s c =
      let b = bound_at zs ends vars env x (repeat Into s.0 s.1) a s.2 in
      record {
        want = wants.Take b.end awaits.MoreOrStop;
        wants_it = ap (λ o. want_take o awaits.MoreOrStop) b.it_is;
        step_fits = λ m nx after fit. inwhile_by x body mid s c b m nx (subst (λ (q : Place). after_place q Into m ≡ Some nx) b.at after);
      }
