-- Lists of events that begin by what a world of forwarders did.
use Rattle.std.proofs.Common.{◌≡◌, ℕ, suc, ◌+◌, ◌-◌, ◌<◌, List, ◌∷◌, ◌++◌, ap, sym, ◌∙◌, subst, append_assoc, arith}
use Rattle.sj_semantics.specs.Program.{Program}
use Rattle.sj_rules.specs.Drain.{numbers_from}
use Rattle.sj_rules.specs.World.{Turn}
use Rattle.sj_forward.specs.declared.forwarder_world.ForwarderWorld.{ForwarderWorld}
use Rattle.sj_forward.specs.ForwarderWorld.{StaysIn, world_in}
use Rattle.sj_forward.specs.Draining.{Anything, BreaksOff, GoesBy, GoesFirst, Leads, Leaves}
use Rattle.sj_forward.proofs.CountLemmas.{counts_joined, counts_still}
use Rattle.sj_forward_rules.specs.World.{WorldAt}

-- the relation fixes the list and where it leads
abbrev pub Once : Leads → Type 0
Once R = (w v u : WorldAt Program) (ts us : List Turn) → R w ts v → R w us u → (ts ≡ us) × (v ≡ u)

-- a list of the whole is one of the first, and then one of the other
abbrev pub Opens : (First Then Whole : Leads) → Type 0
Opens First Then Whole = (w v : WorldAt Program) (ts : List Turn) → Whole w ts v
    → (first : List Turn) × ((rest : List Turn) × ((mid : WorldAt Program) × ((ts ≡ first ++ rest) × First w first mid × Then mid rest v)))

-- one after the other
pub left_on : (R S T : Leads) (c d e : ForwarderWorld) → Leaves R S c d → Leaves S T d e → Leaves R T c e
left_on R S T c d e a b = record {
  turns = a.turns ++ b.turns;
  counts = counts_joined c d e a.turns b.turns a.counts b.counts;
  rest_of = λ ts v r.
      let x = a.rest_of ts v r in
      let y = b.rest_of x.0 v x.1.1 in (
        y.0,
        (
          x.1.0 ∙ ap (λ t. a.turns ++ t) y.1.0 ∙ sym (append_assoc a.turns b.turns y.0),
          y.1.1,
        ),
      );
}

-- the first was done
pub next_of : (First Then Whole : Leads) (d e : ForwarderWorld) → Once First → Opens First Then Whole → GoesBy First d e → Leaves Whole Then d e
next_of First Then Whole d e once opens g = record {
  turns = g.turns;
  counts = g.counts;
  rest_of = λ ts v r.
      let o = opens (world_in d) v ts r in
      let same = once (world_in d) o.1.1.0 (world_in e) o.0 g.turns o.1.1.1.1 g.by in (
        o.1.0,
        (o.1.1.1.0 ∙ ap (λ t. t ++ o.1.0) same.0, subst (λ (x : WorldAt Program). Then x o.1.0 v) same.1 o.1.1.1.2),
      );
}

-- the first broke off
pub first_of : (First Then Whole : Leads) (d e : ForwarderWorld) → Opens First Then Whole → GoesFirst First d e → GoesFirst Whole d e
first_of First Then Whole d e opens b = record {
  turns = b.turns;
  counts = b.counts;
  rest_of = λ ts v r.
      let o = opens (world_in d) v ts r in
      let x = b.rest_of o.0 o.1.1.0 o.1.1.1.1 in
      (x.0 ++ o.1.0, (o.1.1.1.0 ∙ ap (λ t. t ++ o.1.0) x.1.0 ∙ append_assoc b.turns x.0 o.1.0, tt));
}

-- it stopped there
pub first_stays : (R S : Leads) (c d e : ForwarderWorld) → Leaves R S c d → StaysIn d e → GoesFirst R c e
first_stays R S c d e a stays = record {
  turns = a.turns;
  counts = counts_still c d e a.turns a.counts stays;
  rest_of = λ ts v r. let x = a.rest_of ts v r in (x.0, (x.1.0, tt));
}

-- ---- one among several

-- the numbers that are left
numbers_left : (n k : ℕ) → k < n → numbers_from k (n - k) ≡ k ∷ numbers_from (k + 1) (n - (k + 1))
numbers_left n k lt = let e : n - k ≡ suc (n - (k + 1)) = omega (arith, lt) in ap (numbers_from k) e

module _ (One : ℕ → Leads) (Each : List ℕ → Leads) (once : (k : ℕ) → Once (One k)) (opens : (k : ℕ) (ks : List ℕ) → Opens (One k) (Each ks) (Each (k ∷ ks))) where
  -- one of them more
  pub next_each : (R : Leads) (c d e : ForwarderWorld) (n k : ℕ) → k < n → Leaves R (Each (numbers_from k (n - k))) c d → GoesBy (One k) d e → Leaves R (Each (numbers_from (k + 1) (n - (k + 1)))) c e
  next_each R c d e n k lt a g =
      let ks = numbers_from (k + 1) (n - (k + 1)) in
      left_on R (Each (k ∷ ks)) (Each ks) c d e (subst (λ (qs : List ℕ). Leaves R (Each qs) c d) (numbers_left n k lt) a) (next_of (One k) (Each ks) (Each (k ∷ ks)) d e (once k) (opens k ks) g)

  -- it broke off
  pub first_each : (R : Leads) (c d e : ForwarderWorld) (n k : ℕ) → k < n → Leaves R (Each (numbers_from k (n - k))) c d → GoesFirst (One k) d e → GoesFirst R c e
  first_each R c d e n k lt a b =
      let ks = numbers_from (k + 1) (n - (k + 1)) in
      left_on R (Each (k ∷ ks)) Anything c d e (subst (λ (qs : List ℕ). Leaves R (Each qs) c d) (numbers_left n k lt) a) (first_of (One k) (Each ks) (Each (k ∷ ks)) d e (opens k ks) b)

-- where there is such a list it is the whole
pub broken_off : (R : Leads) (c e : ForwarderWorld) → GoesFirst R c e → (more : List Turn) × (last : WorldAt Program) × R (world_in c) more last → BreaksOff R c e
broken_off R c e b all =
    let x = b.rest_of all.0 all.1 all.2 in
    record { turns = b.turns; counts = b.counts; rest = x.0; last = all.1; by = subst (λ (ts : List Turn). R (world_in c) ts all.1) x.1.0 all.2 }
