-- The two steps of `relay`.
use Rattle.std.proofs.Common.{◌≡◌, ℕ, Bool, true, false, cond, List, ◌∷◌, Some, refl, ap, sym, ◌∙◌, subst}
use Rattle.sj_base.specs.declared.EndId.{EndId}
use Rattle.sj_base.specs.declared.Msg.{Msg}
use Rattle.sj_base.specs.declared.Msg.TheVariants as msgs
use Rattle.sj_lang.specs.declared.proto.Way.TheVariants.{Out, Into}
use Rattle.sj_lang.specs.Place.{Place, repeat}
use Rattle.sj_lang.specs.After.{followed_by, after_place}
use Rattle.sj_lang.specs.Code.{Code, relay}
use Rattle.sj_semantics.specs.declared.Want.TheVariants as wants
use Rattle.sj_semantics.specs.declared.Awaits.TheVariants as awaits
use Rattle.sj_lang.specs.FileAt.{ProtocolAt}
use Rattle.sj_semantics.specs.Value.{Vars}
use Rattle.sj_semantics.specs.Program.{Thing, statement, passing, Program, block}
use Rattle.sj_semantics.specs.Wants.{want_send, want_take}
use Rattle.sj_acceptance.specs.Environment.{Env, at_place}
use Rattle.sj_acceptance.specs.Follows.{Does}
use Rattle.sj_semantics.specs.Balanced.{FitsNext}
use Rattle.sj_semantics.specs.Ends.{Session}
use Rattle.sj_headline_laws.proofs.KnownLemmas.{back_forgets}
use Rattle.sj_headline_laws.proofs.NameLemmas.{Agrees, put_other}
use Rattle.sj_headline_laws.proofs.AgreeLemmas.{Bound, bound_at, agrees_moved}
use Rattle.sj_headline_laws.proofs.TypedLemmas.{IsPassing, Continues, continues_fit, block_continues, TakeFits, StepOf}

module _ (ps : List ProtocolAt) (parties : List ℕ) (zs : List Session) (vars : Vars) (ends : List (ℕ × EndId)) (steps : ℕ) (peers : List ℕ) (rest : List Thing) (env : Env) (a : Agrees zs ends vars env) where
  abbrev pub going : List Thing → Program
  going todo = record { todo = todo; vars = vars; ends = ends; steps = steps; peers = peers }

  pub relay_by : (x y : ℕ) (body : Code) (mid : Env) → (s : Does ps parties (relay x y body) env mid) → Continues ps parties rest mid → (b : Bound zs ends x (repeat Into s.0 s.1))
      → (m : Msg) (nx : Place) → after_place (repeat Into s.0 s.1) Into m ≡ Some nx → TakeFits ps parties zs (going (statement (relay x y body) ∷ rest)) b.end awaits.MoreOrStop m nx
  relay_by x y body mid s c b (msgs.More more) nx after =
      let same : cond more (followed_by s.0 (repeat Into s.0 s.1)) s.1 ≡ nx = cc in
      let d = subst (Continues ps parties rest) s.9 c in
      record {
        name = x;
        is_named = b.it_is;
        can_take = refl;
        stands = tt;
        onward = λ new mv begun. record {
          env = at_place env x nx;
          agrees = agrees_moved zs new ends vars env x b.end nx a b.it_is mv;
          does = (env, (record { inner = s.0; outer = s.1; inner' = s.2; outer' = s.3; there = s.4; there' = s.5; last = s.6; follows = s.7; back = back_forgets ps parties body env (at_place (at_place env x (followed_by s.0 (repeat Into s.0 s.1))) y (followed_by s.2 (repeat Out s.2 s.3))) s.6 s.7 refl s.8; now = ap (at_place env x) (sym same) }, (d.next, (d.forgets, d.does))));
        };
      }
  relay_by x y body mid s c b (msgs.Int n) nx after = cc
  relay_by x y body mid s c b (msgs.Bool n) nx after = cc
  relay_by x y body mid s c b (msgs.Text n) nx after = cc
  relay_by x y body mid s c b (msgs.Label n) nx after = cc
  relay_by x y body mid s c b (msgs.Sess t d k) nx after = cc

  pub relay_step : (x y : ℕ) (body : Code) (mid : Env) → Does ps parties (relay x y body) env mid → Continues ps parties rest mid → StepOf ps parties zs (going (statement (relay x y body) ∷ rest))
  relay_step x y body mid s c =
      let b = bound_at zs ends vars env x (repeat Into s.0 s.1) a s.4 in
      record {
        want = wants.Take b.end awaits.MoreOrStop;
        wants_it = ap (λ o. want_take o awaits.MoreOrStop) b.it_is;
        step_fits = λ m nx after fit. relay_by x y body mid s c b m nx (subst (λ (q : Place). after_place q Into m ≡ Some nx) b.at after);
      }

  pub passing_continues : (base : Env) (x y : ℕ) (more : Bool) (body : Code) → (t : IsPassing ps parties base x y more body env) → Continues ps parties rest (at_place (at_place base x t.outer) y t.outer')
      → Continues ps parties (cond more (block body (statement (relay x y body) ∷ rest)) rest) (at_place env y (cond more (followed_by t.inner' (repeat Out t.inner' t.outer')) t.outer'))
  passing_continues base x y true body t c =
      subst (λ (v : Env). Continues ps parties (block body (statement (relay x y body) ∷ rest)) (at_place v y (followed_by t.inner' (repeat Out t.inner' t.outer')))) (sym t.now)
      (block_continues ps parties body (statement (relay x y body) ∷ rest) (at_place (at_place base x (followed_by t.inner (repeat Into t.inner t.outer))) y (followed_by t.inner' (repeat Out t.inner' t.outer'))) t.last t.follows
      (record {
        next = base;
        forgets = t.back;
        does = (at_place (at_place base x t.outer) y t.outer', ((t.inner, t.outer, t.inner', t.outer', t.there, t.there', t.last, t.follows, (λ n. sym (t.back.places n)), refl), (c.next, (c.forgets, c.does))));
      }))
  passing_continues base x y false body t c = subst (λ (v : Env). Continues ps parties rest (at_place v y t.outer')) (sym t.now) c

  pub passing_after : (inner outer : Place) (more : Bool) → after_place (repeat Out inner outer) Out (msgs.More more) ≡ Some (cond more (followed_by inner (repeat Out inner outer)) outer)
  passing_after inner outer true = refl
  passing_after inner outer false = refl

  pub passing_sends : (x y : ℕ) (more : Bool) (body : Code) (inner outer : Place) → (b : Bound zs ends y (repeat Out inner outer))
      → Continues ps parties (cond more (block body (statement (relay x y body) ∷ rest)) rest) (at_place env y (cond more (followed_by inner (repeat Out inner outer)) outer)) → StepOf ps parties zs (going (passing x y more body ∷ rest))
  passing_sends x y more body inner outer b c =
      record {
        want = wants.Send b.end (msgs.More more);
        wants_it = ap (λ o. want_send o (Some (msgs.More more))) b.it_is;
        step_fits = record {
          name = y;
          is_named = b.it_is;
          next = cond more (followed_by inner (repeat Out inner outer)) outer;
          after = subst (λ (p : Place). after_place p Out (msgs.More more) ≡ Some (cond more (followed_by inner (repeat Out inner outer)) outer)) (sym b.at) (passing_after inner outer more);
          fits = subst (λ (p : Place). FitsNext zs p (msgs.More more)) (sym b.at) tt;
          onward = λ new m. continues_fit ps parties new (cond more (block body (statement (relay x y body) ∷ rest)) rest) vars ends (at_place env y (cond more (followed_by inner (repeat Out inner outer)) outer))
              (agrees_moved zs new ends vars env y b.end (cond more (followed_by inner (repeat Out inner outer)) outer) a b.it_is m) c;
        };
      }

  -- the place of y in a `relay` that has taken more or stop
  pub passing_place : (base : Env) (x y : ℕ) (more : Bool) (body : Code) → (t : IsPassing ps parties base x y more body env) → env.places y ≡ Some (repeat Out t.inner' t.outer')
  passing_place base x y more body t =
      ap (λ (v : Env). v.places y) t.now
      ∙ put_other base.places x y (Some (cond more (followed_by t.inner (repeat Into t.inner t.outer)) t.outer))
      (λ e. let clash : Some (repeat Out t.inner' t.outer') ≡ Some (repeat Into t.inner t.outer) = sym t.there' ∙ ap base.places e ∙ t.there in cc)
      ∙ t.there'

  pub passing_step : (base : Env) (x y : ℕ) (more : Bool) (body : Code) → (t : IsPassing ps parties base x y more body env) → Continues ps parties rest (at_place (at_place base x t.outer) y t.outer') → StepOf ps parties zs (going (passing x y more body ∷ rest))
  passing_step base x y more body t c =
      passing_sends x y more body t.inner' t.outer' (bound_at zs ends vars env y (repeat Out t.inner' t.outer') a (passing_place base x y more body t)) (passing_continues base x y more body t c)
