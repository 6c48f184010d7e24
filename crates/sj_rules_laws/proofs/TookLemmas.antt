-- Which ends a program binds after it took a message.
use Rattle.std.proofs.Common.{◌≡◌, ◌↔◌, ℕ, true, List, [], ◌∷◌, Option, Some, None, option_map, refl, ap, sym, ◌∙◌, subst, inl, inr, ◌⊎◌}
use Rattle.std.proofs.lemmas.Bool.{cases_eq}
use Rattle.sj_base.specs.declared.EndId.{EndId}
use Rattle.sj_base.specs.declared.Msg.{Msg}
use Rattle.sj_base.specs.declared.Msg.TheVariants as msgs
use Rattle.sj_lang.specs.Code.{send, delegate, take_value, take_end, outbranch, inbranch, outwhile, inwhile, relay, if_else, let_be, close, request, accept}
use Rattle.sj_lang.specs.FileAt.{ProtocolAt, named}
use Rattle.sj_acceptance.specs.Environment.{Env}
use Rattle.sj_semantics.specs.Value.{Vars}
use Rattle.sj_semantics.specs.Fitting.{fits, fits_todo}
use Rattle.sj_semantics.specs.Program.{Program, Thing, statement, turns, passing, ends_with}
use Rattle.sj_semantics.specs.Steps.{ends_after_took, took_of, opened_of, name_opened}
use Rattle.sj_semantics.specs.Ends.{Session, end_at}
use Rattle.sj_semantics.proofs.FittingLemmas.{fits_its_statement}
use Rattle.sj_headline_laws.proofs.NameLemmas.{Agrees, named-bound_same, named-bound_other}
use Rattle.sj_headline_laws.proofs.TypedLemmas.{DoesTodo, FitsProgram}
use Rattle.sj_headline_laws.proofs.TouchedLemmas.{side}
use Rattle.sj_rules.specs.Record.{is_same_end}
use Rattle.sj_rules.specs.Party.{binds}
use Rattle.sj_rules.specs.Binding.{BindsSame, BindsAlso, BindsTaken, NamesNoEnd}
use Rattle.sj_rules_laws.proofs.SideLemmas.{same_end_self, same_end_is}
use Rattle.sj_rules_laws.proofs.NamesLemmas.{binds_in, has_name, name_binds}
use Rattle.sj_headline_laws.proofs.LocatedLemmas.{no_kind, no_arm}

-- with one name more, its end is bound too
pub binds_bound : (ends : List (ℕ × EndId)) (y : ℕ) (x : EndId) → named ends y ≡ None → (f : EndId)
    → (binds_in (ends_with ends y x) f ≡ true) ↔ ((is_same_end f x ≡ true) ⊎ (binds_in ends f ≡ true))
binds_bound ends y x free f = (fwd, back)
  where
    fwd : binds_in (ends_with ends y x) f ≡ true → (is_same_end f x ≡ true) ⊎ (binds_in ends f ≡ true)
    fwd h =
        let b = has_name (ends_with ends y x) f h in
        elim (cases_eq b.name y) [
          | inl same ↦
              let both : Some x ≡ Some f = sym (named-bound_same ends y x) ∙ ap (named (ends_with ends y x)) (sym same) ∙ b.is_named in
              let it : x ≡ f = cc in
              inl (subst (λ (t : EndId). is_same_end f t ≡ true) (sym it) (same_end_self f))
          | inr other ↦ inr (name_binds ends b.name f (sym (named-bound_other ends y b.name x other) ∙ b.is_named))
        ]

    back : (is_same_end f x ≡ true) ⊎ (binds_in ends f ≡ true) → binds_in (ends_with ends y x) f ≡ true
    back (inl same) = name_binds (ends_with ends y x) y f (named-bound_same ends y x ∙ ap Some (sym (same_end_is f x same)))
    back (inr h) =
        let b = has_name ends f h in
        name_binds (ends_with ends y x) b.name f
        (named-bound_other ends y b.name x (λ same. let none : None ≡ Some f = sym free ∙ ap (named ends) (sym same) ∙ b.is_named in cc) ∙ b.is_named)

-- a message that names no end binds none
took_end_same : (ends : List (ℕ × EndId)) (x y p : ℕ) (rest : List Thing) (m : Msg) → NamesNoEnd m → ends_after_took ends (statement (take_end x y p) ∷ rest) m ≡ ends
took_end_same ends x y p rest (msgs.Sess s d k) none = absurd none
took_end_same ends x y p rest (msgs.Int n) none = refl
took_end_same ends x y p rest (msgs.Bool n) none = refl
took_end_same ends x y p rest (msgs.Text n) none = refl
took_end_same ends x y p rest (msgs.Label n) none = refl
took_end_same ends x y p rest (msgs.More n) none = refl

pub took_same : (ends : List (ℕ × EndId)) (todo : List Thing) (m : Msg) → NamesNoEnd m → ends_after_took ends todo m ≡ ends
took_same ends [] m none = refl
took_same ends (statement (send x v) ∷ rest) m none = refl
took_same ends (statement (delegate x y) ∷ rest) m none = refl
took_same ends (statement (take_value x n k) ∷ rest) m none = refl
took_same ends (statement (take_end x y p) ∷ rest) m none = took_end_same ends x y p rest m none
took_same ends (statement (outbranch x l) ∷ rest) m none = refl
took_same ends (statement (inbranch x arms) ∷ rest) m none = refl
took_same ends (statement (outwhile x v body) ∷ rest) m none = refl
took_same ends (statement (inwhile x body) ∷ rest) m none = refl
took_same ends (statement (relay x y body) ∷ rest) m none = refl
took_same ends (statement (if_else v first second) ∷ rest) m none = refl
took_same ends (statement (let_be n v) ∷ rest) m none = refl
took_same ends (statement (close x) ∷ rest) m none = refl
took_same ends (statement (request x q b) ∷ rest) m none = refl
took_same ends (statement (accept x q b) ∷ rest) m none = refl
took_same ends (turns x n body ∷ rest) m none = refl
took_same ends (passing x y more body ∷ rest) m none = refl

-- one that names an end binds it under a name that was free
pub record TookEnd (ends new : List (ℕ × EndId)) (s d : ℕ) : Type 0 where
  pub name : ℕ
  pub free : named ends name ≡ None
  pub binds_it : new ≡ ends_with ends name (side s d)

free_name : (zs : List Session) (o : Option EndId) → option_map (λ e. (end_at zs e).place) o ≡ None → o ≡ None
free_name zs None h = refl
free_name zs (Some e) h = cc

pub took_end : (ps : List ProtocolAt) (parties : List ℕ) (zs : List Session) (ends : List (ℕ × EndId)) (vars : Vars) (env : Env) → Agrees zs ends vars env → (todo : List Thing) → DoesTodo ps parties todo env
    → (s d j : ℕ) → fits_todo todo (msgs.Sess s d j) ≡ true → TookEnd ends (ends_after_took ends todo (msgs.Sess s d j)) s d
took_end ps parties zs ends vars env a [] does s d j h = cc
took_end ps parties zs ends vars env a (statement (send x v) ∷ rest) does s d j h = cc
took_end ps parties zs ends vars env a (statement (delegate x y) ∷ rest) does s d j h = cc
took_end ps parties zs ends vars env a (statement (take_value x n k) ∷ rest) does s d j h = absurd (no_kind k s d j h)
took_end ps parties zs ends vars env a (statement (take_end x y p) ∷ rest) does s d j h =
    record { name = y; free = free_name zs (named ends y) (a.places y ∙ does.1.0.unused.no_end); binds_it = refl }
took_end ps parties zs ends vars env a (statement (outbranch x l) ∷ rest) does s d j h = cc
took_end ps parties zs ends vars env a (statement (inbranch x arms) ∷ rest) does s d j h = absurd (no_arm arms s d j h)
took_end ps parties zs ends vars env a (statement (outwhile x v body) ∷ rest) does s d j h = cc
took_end ps parties zs ends vars env a (statement (inwhile x body) ∷ rest) does s d j h = cc
took_end ps parties zs ends vars env a (statement (relay x y body) ∷ rest) does s d j h = cc
took_end ps parties zs ends vars env a (statement (if_else v first second) ∷ rest) does s d j h = cc
took_end ps parties zs ends vars env a (statement (let_be n v) ∷ rest) does s d j h = cc
took_end ps parties zs ends vars env a (statement (close x) ∷ rest) does s d j h = cc
took_end ps parties zs ends vars env a (statement (request x q b) ∷ rest) does s d j h = cc
took_end ps parties zs ends vars env a (statement (accept x q b) ∷ rest) does s d j h = cc
took_end ps parties zs ends vars env a (turns x k body ∷ rest) does s d j h = cc
took_end ps parties zs ends vars env a (passing x y more body ∷ rest) does s d j h = cc

same_binds : (g : Program) (ends : List (ℕ × EndId)) → ends ≡ g.ends → (f : EndId) → (binds_in ends f ≡ true) ↔ (binds g f ≡ true)
same_binds g ends h f = (λ t. sym (ap (λ bs. binds_in bs f) h) ∙ t, λ t. ap (λ bs. binds_in bs f) h ∙ t)

pub binds_same : (g new : Program) → new.ends ≡ g.ends → BindsSame binds g new
binds_same g new h = same_binds g new.ends h

-- what the program binds after it took a message that fits
pub binds_taken : (ps : List ProtocolAt) (parties : List ℕ) (zs : List Session) (g : Program) → FitsProgram ps parties zs g → (m : Msg) → fits g m ≡ true → BindsTaken binds g (took_of g m) m
binds_taken ps parties zs g fit (msgs.Sess s d k) h =
    let t = took_end ps parties zs g.ends g.vars fit.env fit.agrees g.todo fit.does s d k (fits_its_statement g (msgs.Sess s d k) h) in
    λ f. subst (λ (bs : List (ℕ × EndId)). (binds_in bs f ≡ true) ↔ ((is_same_end f (side s d) ≡ true) ⊎ (binds g f ≡ true))) (sym t.binds_it) (binds_bound g.ends t.name (side s d) t.free f)
binds_taken ps parties zs g fit (msgs.Int n) h = binds_same g (took_of g (msgs.Int n)) (took_same g.ends g.todo (msgs.Int n) tt)
binds_taken ps parties zs g fit (msgs.Bool n) h = binds_same g (took_of g (msgs.Bool n)) (took_same g.ends g.todo (msgs.Bool n) tt)
binds_taken ps parties zs g fit (msgs.Text n) h = binds_same g (took_of g (msgs.Text n)) (took_same g.ends g.todo (msgs.Text n) tt)
binds_taken ps parties zs g fit (msgs.Label n) h = binds_same g (took_of g (msgs.Label n)) (took_same g.ends g.todo (msgs.Label n) tt)
binds_taken ps parties zs g fit (msgs.More n) h = binds_same g (took_of g (msgs.More n)) (took_same g.ends g.todo (msgs.More n) tt)

-- and once it opened or accepted a session
pub binds_opened : (g : Program) (e : EndId) → named g.ends (name_opened g.todo) ≡ None → BindsAlso binds g (opened_of g e) e
binds_opened g e free f = binds_bound g.ends (name_opened g.todo) e free f
