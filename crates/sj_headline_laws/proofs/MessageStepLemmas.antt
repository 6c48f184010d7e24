-- The steps that send or take a value or an end.
use Rattle.std.proofs.Common.{◌≡◌, ℕ, List, ◌∷◌, Option, Some, option_map, unwrap_or, refl, ap, sym, ◌∙◌, subst}
use Rattle.sj_base.specs.declared.EndId.{EndId}
use Rattle.sj_base.specs.declared.Msg.{Msg}
use Rattle.sj_base.specs.declared.Msg.TheVariants as msgs
use Rattle.sj_lang.specs.declared.party.Scalar.{Scalar}
use Rattle.sj_lang.specs.declared.proto.Way.TheVariants.{Out, Into}
use Rattle.sj_lang.specs.Place.{Place, done, message, session}
use Rattle.sj_lang.specs.After.{after_place}
use Rattle.sj_lang.specs.Meet.{StandsFor}
use Rattle.sj_lang.specs.Term.{Term}
use Rattle.sj_lang.specs.Code.{send, delegate, take_value, take_end}
use Rattle.sj_semantics.specs.declared.Want.TheVariants as wants
use Rattle.sj_semantics.specs.declared.Awaits.TheVariants as awaits
use Rattle.sj_lang.specs.FileAt.{ProtocolAt, protocol_named, body_named, named}
use Rattle.sj_semantics.specs.declared.Value.{Value}
use Rattle.sj_semantics.specs.Value.{with_value, Vars, message_of, worth}
use Rattle.sj_semantics.specs.Program.{Thing, statement, Program, ends_without, ends_with}
use Rattle.sj_semantics.specs.Steps.{assigned_vars}
use Rattle.sj_semantics.specs.Wants.{want_send, want_delegate, want_take}
use Rattle.sj_acceptance.specs.Statements.{IsSend, IsDelegate, IsTakeValue, IsTakeEnd}
use Rattle.sj_acceptance.specs.Environment.{Env, at_place, without_end, with_kind}
use Rattle.sj_acceptance.specs.Kinds.{carried_by}
use Rattle.sj_semantics.specs.Balanced.{FitsNext}
use Rattle.sj_semantics.specs.Ends.{Session}
use Rattle.sj_headline_laws.proofs.NameLemmas.{Agrees}
use Rattle.sj_headline_laws.proofs.AgreeLemmas.{Bound, bound_at, agrees_moved, agrees_without, agrees_bound, agrees_assigned}
use Rattle.sj_headline_laws.proofs.WorthLemmas.{worth_of_kind}
use Rattle.sj_headline_laws.proofs.TypedLemmas.{Continues, FitsTodo, continues_fit, TakeFits, StepOf}
use Rattle.sj_headline_laws.proofs.ValueStepLemmas.{value_after, value_fits, takes_value}

module _ (ps : List ProtocolAt) (parties : List ℕ) (zs : List Session) (vars : Vars) (ends : List (ℕ × EndId)) (steps : ℕ) (peers : List ℕ) (rest : List Thing) (env : Env) (a : Agrees zs ends vars env) where
  abbrev pub going : List Thing → Program
  going todo = record { todo = todo; vars = vars; ends = ends; steps = steps; peers = peers }

  pub send_step : (x : ℕ) (e : Term) (mid : Env) → IsSend env x e mid → Continues ps parties rest mid → StepOf ps parties zs (going (statement (send x e) ∷ rest))
  send_step x e mid s c =
      let b = bound_at zs ends vars env x (message Out (carried_by s.kind) s.rest) a s.there in
      let w = worth_of_kind env.kinds vars a.kinds e s.kind s.typed in
      record {
        want = wants.Send b.end (message_of w.value);
        wants_it = ap (λ o. want_send o (option_map message_of (worth vars e))) b.it_is ∙ ap (λ o. want_send (Some b.end) (option_map message_of o)) w.it_is;
        step_fits = record {
          name = x;
          is_named = b.it_is;
          next = s.rest;
          after = subst (λ (p : Place). after_place p Out (message_of w.value) ≡ Some s.rest) (sym b.at) (value_after s.kind w.value s.rest w.kind);
          fits = subst (λ (p : Place). FitsNext zs p (message_of w.value)) (sym b.at) (value_fits zs s.kind w.value s.rest w.kind);
          onward = λ new m. continues_fit ps parties new rest vars ends (at_place env x s.rest) (agrees_moved zs new ends vars env x b.end s.rest a b.it_is m) (subst (Continues ps parties rest) s.leaves c);
        };
      }

  pub delegate_step : (x y : ℕ) (mid : Env) → IsDelegate env x y mid → Continues ps parties rest mid → StepOf ps parties zs (going (statement (delegate x y) ∷ rest))
  delegate_step x y mid s c =
      let b = bound_at zs ends vars env x (message Out (session s.place) s.rest) a s.there in
      let d = bound_at zs ends vars env y s.own a s.sent in
      record {
        want = wants.Delegate b.end d.end;
        wants_it = ap (λ o. want_delegate o (named ends y)) b.it_is ∙ ap (want_delegate (Some b.end)) d.it_is;
        step_fits = record {
          name = x;
          is_named = b.it_is;
          sent_name = y;
          sent_named = d.it_is;
          two_names = λ h. s.two_names (sym h);
          next = s.rest;
          kind = s.place;
          carries = b.at;
          stands = subst (λ (p : Place). StandsFor p s.place) (sym d.at) s.stands;
          not_empty = s.not_empty;
          onward = λ new m. continues_fit ps parties new rest vars (ends_without ends y) (without_end (at_place env x s.rest) y)
              (agrees_without new ends vars (at_place env x s.rest) y (agrees_moved zs new ends vars env x b.end s.rest a b.it_is m)) (subst (Continues ps parties rest) s.leaves c);
        };
      }

  pub take_value_step : (x n : ℕ) (k : Scalar) (mid : Env) → IsTakeValue env x n k mid → Continues ps parties rest mid → StepOf ps parties zs (going (statement (take_value x n k) ∷ rest))
  take_value_step x n k mid s c =
      let b = bound_at zs ends vars env x (message Into (carried_by k) s.rest) a s.there in
      record {
        want = wants.Take b.end (awaits.Value k);
        wants_it = ap (λ o. want_take o (awaits.Value k)) b.it_is;
        step_fits = λ m nx after fit.
            let t = takes_value k m s.rest nx (subst (λ (p : Place). after_place p Into m ≡ Some nx) b.at after) in
            record {
              name = x;
              is_named = b.it_is;
              can_take = t.can_take;
              stands = tt;
              onward = λ new mv begun. subst (λ (o : Option Value). FitsTodo ps parties new rest (assigned_vars vars n o) ends) (sym t.carried)
                  (continues_fit ps parties new rest (with_value vars n t.value) ends (with_kind (at_place env x nx) n k)
                  (agrees_assigned new ends vars (at_place env x nx) n t.value k (agrees_moved zs new ends vars env x b.end nx a b.it_is mv) t.kind)
                  (subst (λ (p : Place). Continues ps parties rest (with_kind (at_place env x p) n k)) t.same (subst (Continues ps parties rest) s.leaves c)));
            };
      }

  pub take_end_by : (x y p : ℕ) (mid : Env) → (s : IsTakeEnd (protocol_named ps p) env x y mid) → Continues ps parties rest mid → (b : Bound zs ends x (message Into (session s.place) s.rest))
      → (m : Msg) (nx : Place) → after_place (message Into (session s.place) s.rest) Into m ≡ Some nx → FitsNext zs (message Into (session s.place) s.rest) m → TakeFits ps parties zs (going (statement (take_end x y p) ∷ rest)) b.end (awaits.Session p) m nx
  take_end_by x y p mid s c b (msgs.Sess t d k) nx after fit =
      let same : s.rest ≡ nx = cc in
      let body : body_named ps p ≡ s.place = ap (λ o. unwrap_or o done) s.exists in
      record {
        name = x;
        is_named = b.it_is;
        can_take = refl;
        stands = (s.place, s.exists, fit.1);
        onward = λ new mv begun. continues_fit ps parties new rest vars (ends_with ends y (record { sess = t; side = d })) (at_place (at_place env x nx) y s.place)
            (agrees_bound new ends vars (at_place env x nx) y (record { sess = t; side = d }) s.place (agrees_moved zs new ends vars env x b.end nx a b.it_is mv) (begun ∙ body))
            (subst (λ (q : Place). Continues ps parties rest (at_place (at_place env x q) y s.place)) same (subst (Continues ps parties rest) s.leaves c));
      }
  take_end_by x y p mid s c b (msgs.Int n) nx after fit = cc
  take_end_by x y p mid s c b (msgs.Bool n) nx after fit = cc
  take_end_by x y p mid s c b (msgs.Text n) nx after fit = cc
  take_end_by x y p mid s c b (msgs.Label n) nx after fit = cc
  take_end_by x y p mid s c b (msgs.More n) nx after fit = cc

  pub take_end_step : (x y p : ℕ) (mid : Env) → IsTakeEnd (protocol_named ps p) env x y mid → Continues ps parties rest mid → StepOf ps parties zs (going (statement (take_end x y p) ∷ rest))
  take_end_step x y p mid s c =
      let b = bound_at zs ends vars env x (message Into (session s.place) s.rest) a s.there in
      record {
        want = wants.Take b.end (awaits.Session p);
        wants_it = ap (λ o. want_take o (awaits.Session p)) b.it_is;
        step_fits = λ m nx after fit. take_end_by x y p mid s c b m nx (subst (λ (q : Place). after_place q Into m ≡ Some nx) b.at after) (subst (λ (q : Place). FitsNext zs q m) b.at fit);
      }
