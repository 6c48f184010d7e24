-- The steps of `request` and `accept`.
use Rattle.std.proofs.Common.{◌≡◌, ℕ, List, ◌∷◌, Option, Some, None, option_map, unwrap_or, refl, ap, ◌∙◌, subst}
use Rattle.sj_base.specs.declared.EndId.{EndId}
use Rattle.sj_lang.specs.Place.{done}
use Rattle.sj_lang.specs.Code.{request, accept}
use Rattle.sj_lang.specs.FileAt.{ProtocolAt, protocol_named, body_named, named, number_of_name}
use Rattle.sj_acceptance.specs.Environment.{Env, at_place, IsUnused}
use Rattle.sj_acceptance.specs.Statements.{IsOpening}
use Rattle.sj_semantics.specs.declared.Want.TheVariants as wants
use Rattle.sj_semantics.specs.Value.{Vars}
use Rattle.sj_semantics.specs.Program.{Thing, statement, Program, ends_with}
use Rattle.sj_semantics.specs.Ends.{Session, end_at}
use Rattle.sj_headline_laws.proofs.NameLemmas.{Agrees}
use Rattle.sj_headline_laws.proofs.AgreeLemmas.{agrees_kept, agrees_bound}
use Rattle.sj_headline_laws.proofs.TypedLemmas.{Continues, FitsTodo, KeepsPlaces, continues_fit, StepOf}

module _ (ps : List ProtocolAt) (parties : List ℕ) (zs : List Session) (vars : Vars) (ends : List (ℕ × EndId)) (steps : ℕ) (peers : List ℕ) (rest : List Thing) (env : Env) (a : Agrees zs ends vars env) where
  abbrev pub going : List Thing → Program
  going todo = record { todo = todo; vars = vars; ends = ends; steps = steps; peers = peers }

  opening_fits : (x p b : ℕ) (mid : Env) → (s : IsOpening parties (protocol_named ps p) env x b mid) → Continues ps parties rest mid
      → (new : List Session) (e : EndId) → KeepsPlaces ends zs new → (end_at new e).place ≡ body_named ps p → FitsTodo ps parties new rest vars (ends_with ends x e)
  opening_fits x p b mid s c new e kept at =
      continues_fit ps parties new rest vars (ends_with ends x e) (at_place env x s.place)
      (agrees_bound new ends vars env x e s.place (agrees_kept zs new ends vars env a kept) (at ∙ ap (λ o. unwrap_or o done) s.exists)) (subst (Continues ps parties rest) s.leaves c)

  unnamed_by : (o : Option EndId) → option_map (λ e. (end_at zs e).place) o ≡ None → o ≡ None
  unnamed_by None h = refl
  unnamed_by (Some e) h = cc

  unused_name : (x : ℕ) → IsUnused env x → named ends x ≡ None
  unused_name x u = unnamed_by (named ends x) (a.places x ∙ u.no_end)

  pub request_step : (x p b : ℕ) (mid : Env) → IsOpening parties (protocol_named ps p) env x b mid → Continues ps parties rest mid → StepOf ps parties zs (going (statement (request x p b) ∷ rest))
  request_step x p b mid s c = record { want = wants.Request p (number_of_name peers b); wants_it = refl; step_fits = record { exists = (s.place, s.exists); unused = unused_name x s.unused; onward = opening_fits x p b mid s c } }

  pub accept_step : (x p b : ℕ) (mid : Env) → IsOpening parties (protocol_named ps p) env x b mid → Continues ps parties rest mid → StepOf ps parties zs (going (statement (accept x p b) ∷ rest))
  accept_step x p b mid s c = record { want = wants.Accept p (number_of_name peers b); wants_it = refl; step_fits = record { exists = (s.place, s.exists); unused = unused_name x s.unused; onward = opening_fits x p b mid s c } }
