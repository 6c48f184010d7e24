-- The ends that a party has at the start, under names or held, and what is so of each start.
use Rattle.std.proofs.Common.{◌≡◌, ◌↔◌, ℕ, suc, ◌+◌, ◌<◌, ◌==◌, Bool, true, false, cond, List, [], ◌∷◌, map, length, slice_get, Option, Some, None, option_and_then, sum_by, refl, ap, sym, ◌∙◌, subst, arith, inl, inr}
use Rattle.std.specs.Prelude.{is_some}
use Rattle.std.proofs.lemmas.Bool.{both_ways}
use Rattle.std.proofs.lemmas.List.Sums.{sum_by-cons}
use Rattle.sj_base.specs.declared.EndId.{EndId}
use Rattle.sj_lang.specs.FileAt.{ConnectAt, FileAt, ends_from, named, party_named, party_names}
use Rattle.sj_lang.specs.Place.{Place}
use Rattle.sj_acceptance.specs.Accepted.{IsAccepted}
use Rattle.sj_semantics.specs.Ends.{end_at, is_end}
use Rattle.sj_semantics.specs.Program.{Program}
use Rattle.sj_semantics.specs.World.{program_of, start_of}
use Rattle.sj_semantics.proofs.StartLemmas.{program_at_start}
use Rattle.sj_semantics_laws.specs.Unshared.{bindings_of}
use Rattle.sj_headline_laws.proofs.PlacedLemmas.{Has, party_there}
use Rattle.sj_headline_laws.proofs.TypedLemmas.{FitsProgram}
use Rattle.sj_rules.specs.Party.{binds}
use Rattle.sj_rules.specs.Plain.{plain_at}
use Rattle.sj_rules.specs.Record.{Held}
use Rattle.sj_rules.specs.Start.{declared_on, first_held, held_by}
use Rattle.sj_rules_laws.proofs.CountLemmas.{steps_of}
use Rattle.sj_rules_laws.proofs.NodeWeightLemmas.{late_of}
use Rattle.sj_rules_laws.proofs.SideLemmas.{same_end_is, same_end_self}
use Rattle.sj_rules_laws.proofs.StartNamesLemmas.{given_by, named_has, program_ends, starts_bound}
use Rattle.sj_rules.specs.Record.{is_same_end}
use Rattle.sj_seat_laws.specs.Calls.{Ends, place_held}
use Rattle.sj_seat_laws.specs.SeatedStart.{connected_ends, no_program}
use Rattle.sj_seat_laws.proofs.HeldLemmas.{holds, numbered}

-- ---- ends that have names, at their places

module _ (f : EndId → Place) where
  abbrev here : List (ℕ × EndId) → Ends
  here bs = map (λ b. (b.1, f b.1)) bs

  pub numbered_here : (bs : List (ℕ × EndId)) (e : EndId) → holds e (here bs) ≡ bindings_of e bs
  numbered_here [] e = refl
  numbered_here (b ∷ bs) e = omega (
    arith,
    sum_by-cons (λ (c : ℕ × EndId). cond (is_end e c.1) 1 0) (0, b.1) (numbered (here bs)),
    sum_by-cons (λ (c : ℕ × EndId). cond (is_end e c.1) 1 0) b bs,
    numbered_here bs e,
  )

  -- an end at a place has a name, and the place is its own
  pub here_has : (bs : List (ℕ × EndId)) (e : EndId) (q : Place) → place_held (here bs) e ≡ Some q → (x : ℕ) × Has bs x e × (f e ≡ q)
  here_has [] e q h = cc
  here_has (b ∷ bs) e q h = by (is_same_end b.1 e) refl (here_has bs e q) h
    where
      by : (c : Bool) → is_same_end b.1 e ≡ c → (place_held (here bs) e ≡ Some q → (x : ℕ) × Has bs x e × (f e ≡ q)) → cond c (Some (f b.1)) (place_held (here bs) e) ≡ Some q
          → (x : ℕ) × Has (b ∷ bs) x e × (f e ≡ q)
      by true same rest k =
          let it : b.1 ≡ e = same_end_is b.1 e same in
          let is : f b.1 ≡ q = cc in
          (b.0, inl (refl, it), ap f (sym it) ∙ is)
      by false other rest k = let r = rest k in (r.0, inr r.1, r.2)

  -- and an end that has a name is at a place
  has_here : (bs : List (ℕ × EndId)) (x : ℕ) (e : EndId) → Has bs x e → is_some (place_held (here bs) e) ≡ true
  has_here [] x e h = absurd h
  has_here (b ∷ bs) x e h = by (is_same_end b.1 e) refl (has_here bs x e) h
    where
      by : (c : Bool) → is_same_end b.1 e ≡ c → (Has bs x e → is_some (place_held (here bs) e) ≡ true) → Has (b ∷ bs) x e → is_some (cond c (Some (f b.1)) (place_held (here bs) e)) ≡ true
      by true same rest k = refl
      by false other rest (inl k) = absurd (both_ways (is_same_end b.1 e) other (subst (λ (y : EndId). is_same_end b.1 y ≡ true) k.1 (same_end_self b.1)))
      by false other rest (inr k) = rest k

-- ---- the plain world

pub zero_sum : (gs : List Program) → ((p : ℕ) (g : Program) → slice_get gs p ≡ Some g → g.steps ≡ 0) → sum_by steps_of gs ≡ 0
zero_sum [] all = refl
zero_sum (g ∷ gs) all = omega (arith, sum_by-cons steps_of g gs, all 0 g refl, zero_sum gs (λ p h at. all (suc p) h at))

-- nothing to do fits
pub idle_fits : (file : FileAt) → FitsProgram file.protocols (party_names file.parties) (start_of file).sessions (no_program file)
idle_fits file = record { env = record { places = λ n. None; kinds = λ n. None }; agrees = record { places = λ n. refl; kinds = λ n k h. cc }; does = λ n. refl }

-- no record is late
pub none_late : (file : FileAt) (n q : ℕ) (e : EndId) (o : Option ConnectAt) → late_of n (option_and_then (held_by file q e) o) ≡ 0
none_late file n q e None = refl
none_late file n q e (Some c) = by (q == party_named file.parties (declared_on e.side c).party)
  where
    by : (b : Bool) → late_of n (cond b (Some (Held (first_held file e c))) None) ≡ 0
    by true = refl
    by false = refl

module _ (file : FileAt) (p : ℕ) (accepted : IsAccepted file) (there : p < length file.parties) where
  abbrev pub own : Program
  own = program_of file p (party_there file.parties p there).party

  pub own_there : slice_get (start_of file).parties p ≡ Some own
  own_there = program_at_start file p (party_there file.parties p there).party (party_there file.parties p there).there

  abbrev names : List (ℕ × EndId)
  names = ends_from file p 0 file.connects

  abbrev at : EndId → Place
  at e = (end_at (start_of file).sessions e).place

  abbrev ends : Ends
  ends = connected_ends file p

  -- the party holds what its program binds
  pub holds_bound : (e : EndId) → (is_some (place_held ends e) ≡ true) ↔ (binds ((plain_at (start_of file)).programs p) e ≡ true)
  holds_bound e = (λ h. forth (place_held ends e) refl h, λ h. back h)
    where
      forth : (o : Option Place) → place_held ends e ≡ o → is_some o ≡ true → binds ((plain_at (start_of file)).programs p) e ≡ true
      forth None is h = cc
      forth (Some q) is h =
          let k = here_has at names e q is in
          let g = given_by file p 0 file.connects k.0 e k.1 in
          starts_bound file p e accepted (record {
            connect = g.connect;
            there = subst (λ (i : ℕ). slice_get file.connects i ≡ Some g.connect) (let s : g.number ≡ e.sess = omega (arith, g.sess) in s) g.there;
            below = g.below;
            party = g.party;
          })

      back : binds ((plain_at (start_of file)).programs p) e ≡ true → is_some (place_held ends e) ≡ true
      back h =
          let b = program_ends file 0 p file.parties e h in
          let named_so : named names b.name ≡ Some e = subst (λ (i : ℕ). named (ends_from file i 0 file.connects) b.name ≡ Some e) (let s : 0 + p ≡ p = omega arith in s) b.is_named in
          has_here at names b.name e (named_has names b.name e named_so)
