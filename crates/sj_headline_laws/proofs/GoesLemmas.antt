-- Where an end is: bound, on its way, or offered; and where it goes with a step.
use Rattle.std.proofs.Common.{◌≡◌, ℕ, true, false, List, slice_get, Some, None, ap, sym, ◌∙◌, subst, ◌⊎◌, inl, inr}
use Rattle.std.proofs.lemmas.Bool.{cases_eq}
use Rattle.sj_base.specs.declared.EndId.{EndId}
use Rattle.sj_lang.specs.Place.{done}
use Rattle.sj_lang.specs.FileAt.{named}
use Rattle.sj_semantics.specs.Program.{Program, ends_without, ends_with}
use Rattle.sj_semantics.specs.Requests.{Request, opened_number}
use Rattle.sj_semantics.specs.World.{World, Change, changed_world}
use Rattle.sj_semantics.specs.Ends.{Session, end_at, is_end}
use Rattle.sj_semantics.specs.Uses.{Use, after_uses}
use Rattle.sj_semantics_laws.proofs.EndLemmas.{touched, end_at-touched_other}
use Rattle.sj_headline_laws.proofs.NameLemmas.{named-without_other, named-bound_same, named-bound_other}
use Rattle.sj_headline_laws.proofs.TouchedLemmas.{side}
use Rattle.sj_headline_laws.proofs.DoneLemmas.{IsComing}
use Rattle.sj_headline_laws.proofs.ClosedLemmas.{BeginsNothing, stays_done}

-- the end has a name at the program
pub record Held (e : EndId) (ends : List (ℕ × EndId)) : Type 0 where
  pub name : ℕ
  pub end : EndId
  pub is_named : named ends name ≡ Some end
  pub it_is : is_end e end ≡ true

-- the end is the second one of a session that was requested and isn't accepted
pub record Offered (w : World) (e : EndId) : Type 0 where
  pub by : ℕ
  pub number : ℕ
  pub request : Request
  pub there : slice_get (w.requests by) number ≡ Some request
  pub none : request.second ≡ None
  pub it_is : is_end e (side (opened_number by number) 1) ≡ true

-- where an end is
pub data IsLocated (w : World) (e : EndId) : Type 0 where
  held : (q : ℕ) (g : Program) → slice_get w.parties q ≡ Some g → Held e g.ends → IsLocated w e
  on_its_way : (f : EndId) → IsComing w.sessions e f → IsLocated w e
  offered : Offered w e → IsLocated w e

abbrev pub IsOpen : List Session → EndId → Type 0
IsOpen zs e = (end_at zs e).place ≡ done → ⊥

abbrev pub AllLocated : World → Type 0
AllLocated w = (e : EndId) → IsOpen w.sessions e → IsLocated w e

-- bound at the program, or on its way
abbrev pub IsSomewhere : List (ℕ × EndId) → List Session → EndId → Type 0
IsSomewhere ends zs e = Held e ends ⊎ ((f : EndId) × IsComing zs e f)

-- where each open end is after a change of p, by where it was
pub record Goes (w : World) (p : ℕ) (g : Program) (c : Change) : Type 0 where
  pub before : (e : EndId) → IsOpen (after_uses p c.uses w.sessions) e → IsOpen w.sessions e ⊎ (Held e c.program.ends ⊎ Offered (changed_world w p c) e)
  pub names : (e : EndId) → IsOpen (after_uses p c.uses w.sessions) e → Held e g.ends → IsSomewhere c.program.ends (after_uses p c.uses w.sessions) e
  pub comings : (e f : EndId) → IsComing w.sessions e f → IsSomewhere c.program.ends (after_uses p c.uses w.sessions) e
  pub offers : (e : EndId) → Offered w e → Held e c.program.ends ⊎ Offered (changed_world w p c) e

pub came_from : (p : ℕ) (zs : List Session) (k : EndId) (u : Use) (e : EndId) → BeginsNothing u → IsOpen (touched p zs (k, u)) e → IsOpen zs e
came_from p zs k u e n is_open h = is_open (stays_done p zs k u e n h)

pub came_from_other : (p : ℕ) (zs : List Session) (k : EndId) (u : Use) (e : EndId) → is_end k e ≡ false → IsOpen (touched p zs (k, u)) e → IsOpen zs e
came_from_other p zs k u e other is_open h = is_open (ap (λ t. t.place) (end_at-touched_other p zs (k, u) e other) ∙ h)

pub same_names : (e : EndId) (ends new : List (ℕ × EndId)) → new ≡ ends → Held e ends → Held e new
same_names e ends new same h = subst (Held e) (sym same) h

-- without a name, the end is held, or is the one that had the name
pub lost_name : (e : EndId) (ends : List (ℕ × EndId)) (n : ℕ) (y : EndId) → named ends n ≡ Some y → Held e ends → Held e (ends_without ends n) ⊎ (is_end e y ≡ true)
lost_name e ends n y at h =
    elim (cases_eq h.name n) [
      | inl it ↦
          let both : Some h.end ≡ Some y = sym h.is_named ∙ ap (named ends) it ∙ at in
          let same : h.end ≡ y = cc in
          inr (sym (ap (is_end e) same) ∙ h.it_is)
      | inr other ↦ inl (record { name = h.name; end = h.end; is_named = named-without_other ends n h.name other ∙ h.is_named; it_is = h.it_is })
    ]

-- with a name more, which stood for no end
pub more_names : (e y : EndId) (ends : List (ℕ × EndId)) (n : ℕ) → named ends n ≡ None → Held e ends → Held e (ends_with ends n y)
more_names e y ends n none h = record {
  name = h.name;
  end = h.end;
  is_named = named-bound_other ends n h.name y (λ it. let clash : None ≡ Some h.end = sym none ∙ ap (named ends) (sym it) ∙ h.is_named in cc) ∙ h.is_named;
  it_is = h.it_is;
}

pub new_name : (e y : EndId) (ends : List (ℕ × EndId)) (n : ℕ) → is_end e y ≡ true → Held e (ends_with ends n y)
new_name e y ends n same = record { name = n; end = y; is_named = named-bound_same ends n y; it_is = same }
