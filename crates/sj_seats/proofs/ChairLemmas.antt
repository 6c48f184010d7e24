-- Chairs in a list, one of which has moved on, and nodes over one table.
use Rattle.std.proofs.Common.{◌≡◌, ◌≢◌, ℕ, ◌<◌, ◌==◌, Bool, true, false, if◌then◌else◌, List, [], ◌++◌, length, slice_get, unwrap_or, Option, Some, None, option_map, refl, ap, sym, ◌∙◌, inl, inr}
use Rattle.std.specs.Prelude.{is_some}
use Rattle.std.proofs.Math.ListN.{set}
use Rattle.std.proofs.lemmas.Bool.Decides.{eqb_tells}
use Rattle.sj_core.proofs.NodesLemmas.{apart_eqb, some_same}
use Rattle.sj_node.proofs.OutLemmas.{set_here, set_there}
use Rattle.sj_node.specs.declared.node.Node.{Node}
use Rattle.sj_end.specs.declared.note.Event.{Event}
use Rattle.sj_end.specs.declared.note.Note.{Note}
use Rattle.sj_lang.specs.Place.{Place}
use Rattle.sj_node.specs.Node.{Does}
use Rattle.sj_node.specs.Reading.{TakesEntry, table_of}
use Rattle.sj_rules.specs.Node.{NodeAt}
use Rattle.sj_rules.specs.Rows.{Worked}
use Rattle.sj_semantics.specs.Program.{Program}
use Rattle.sj_rules.specs.Log.{LineAt}
use Rattle.sj_rules.specs.World.{Deliver}
use Rattle.sj_seat_laws.specs.Calls.{Call}
use Rattle.sj_table.specs.declared.table.Table.{Table}
use Rattle.sj_seats.specs.Calls.{OpenedAs, call_of_event, first_calls}
use Rattle.sj_seats.specs.Core.{AreOver, chair_of, is_seat, seat_by, seats_by}
use Rattle.sj_seats.specs.declared.played.Chair.{Chair}

module _ (chairs : List (Option Chair)) (p : ℕ) (new : Option Chair) (within : p < length chairs) where
  pub chair_here : chair_of (set chairs p new) p ≡ new
  chair_here = ap (λ (o : Option (Option Chair)). unwrap_or o None) (set_here chairs p new within)

  pub chair_there : (q : ℕ) → q ≢ p → chair_of (set chairs p new) q ≡ chair_of chairs q
  chair_there q apart = ap (λ (o : Option (Option Chair)). unwrap_or o None) (set_there chairs p q new apart)

  -- the same parties are played by code
  pub seats_same : is_some new ≡ is_seat chairs p → (q : ℕ) → is_seat (set chairs p new) q ≡ is_seat chairs q
  seats_same same q =
      elim (eqb_tells q p) [
        | inl t ↦ ap (is_seat (set chairs p new)) t.1 ∙ ap is_some chair_here ∙ same ∙ ap (is_seat chairs) (sym t.1)
        | inr t ↦ ap is_some (chair_there q t.1)
      ]

-- all nodes are over the table still
pub over_set : (t : Table) (nodes : List Node) (p : ℕ) (new : Node) → p < length nodes → AreOver t nodes → table_of new ≡ t → AreOver t (set nodes p new)
over_set t nodes p new within over own q n is =
    elim (eqb_tells q p) [
      | inl s ↦
          (let same : new ≡ n = some_same new n (sym (ap (slice_get (set nodes p new)) s.1 ∙ set_here nodes p new within) ∙ is) in
          ap table_of (sym same) ∙ own)
      | inr s ↦ over q n (sym (set_there nodes p q new s.1) ∙ is)
    ]

-- ---- what a line that tells no call of a code leaves to call

pub if_none : (b : Bool) → ◌≡◌ {A = List Call} (if b then [] else []) []
if_none true = refl
if_none false = refl

-- who plays each party, where the same is called
pub seats_calling : (t : Table) (chairs : List (Option Chair)) (calls more : ℕ → List Call) → ((q : ℕ) → calls q ≡ more q) → (q : ℕ) → seats_by t chairs calls q ≡ seats_by t chairs more q
seats_calling t chairs calls more same q = ap (λ (cs : List Call). option_map (seat_by t cs) (chair_of chairs q)) (same q)

module _ (opened : OpenedAs) (l : LineAt) (rest : ℕ → List Call) where
  -- a delivery tells none
  pub none_delivered : (from : ℕ) → l.entry.event ≡ Deliver from → (q : ℕ) → first_calls opened l rest q ≡ rest q
  none_delivered from is q = ap (λ (cs : List Call). cs ++ rest q) (ap (λ ev. if q == l.party then call_of_event (opened q) ev l.entry.note else []) is ∙ if_none (q == l.party))

  -- an act tells none of other parties
  pub none_of_others : (q : ℕ) → q ≢ l.party → first_calls opened l rest q ≡ rest q
  none_of_others q apart = ap (λ (b : Bool). (if b then call_of_event (opened q) l.entry.event l.entry.note else []) ++ rest q) (apart_eqb q l.party apart)

-- nobody's code plays the party
pub no_seat : (chairs : List (Option Chair)) (p : ℕ) → is_seat chairs p ≡ false → chair_of chairs p ≡ None
no_seat chairs p none = by (chair_of chairs p) refl none
  where
    by : (o : Option Chair) → chair_of chairs p ≡ o → is_some o ≡ false → chair_of chairs p ≡ None
    by None is h = is
    by (Some c) is h = absurd (cc h)

-- the act of a party that goes by the file tells no call of a code
pub none_by_file : (opened : OpenedAs) (t : Table) (chairs : List (Option Chair)) (l : LineAt) (rest : ℕ → List Call) → chair_of chairs l.party ≡ None → (q : ℕ) → seats_by t chairs (first_calls opened l rest) q ≡ seats_by t chairs rest q
none_by_file opened t chairs l rest none q =
    elim (eqb_tells q l.party) [
      | inl s ↦
          (let it : chair_of chairs q ≡ None = ap (chair_of chairs) s.1 ∙ none in
          ap (option_map (seat_by t (first_calls opened l rest q))) it ∙ sym (ap (option_map (seat_by t (rest q))) it))
      | inr s ↦ ap (λ (cs : List Call). option_map (seat_by t cs) (chair_of chairs q)) (none_of_others opened l rest q s.1)
    ]

-- a node that did an event, and whose entry was taken out of its log, is over the same table
pub table_done : (old mid new : Node) (row : Option (Worked Place (NodeAt Place Program))) (clock : ℕ) (event : Event) (note : Note) → Does old row clock event note mid → TakesEntry mid new → table_of new ≡ table_of old
table_done old mid new None clock event note does took = absurd does
table_done old mid new (Some left) clock event note did took = took.table ∙ did.table
