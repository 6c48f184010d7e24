-- What a world shows of an end after a party's tables changed.
use Rattle.std.proofs.Common.{◌≡◌, ℕ, List, ◌++◌, refl, ◌∙◌}
use Rattle.std.specs.Prelude.{Bool, true, false, ◌==◌, if◌then◌else◌, Option}
use Rattle.std.proofs.lemmas.Bool.{eqb-true}
use Rattle.sj_base.specs.declared.EndId.{EndId}
use Rattle.sj_rules.specs.Record.{BodyAt, MainAt, OldAt}
use Rattle.sj_rules.specs.Node.{NodeAt}
use Rattle.sj_rules.specs.World.{WorldAt, with_node}
use Rattle.sj_rules.specs.Seat.{Seat, Side, source_for}
use Rattle.sj_rules.specs.Shown.{Shows, main_shown, old_shown, old_in, live_in, claims_in, gives_in}

-- the world with other tables at that party
abbrev pub with_tables : {P Q : Type 0} → WorldAt P Q → (at clock : ℕ) → NodeAt P Q → WorldAt P Q
with_tables w at clock n = record w { nodes = with_node at (record n { clock = clock }) w.nodes }

module _ {P Q : Type 0} (w : WorldAt P Q) (at clock : ℕ) (n : NodeAt P Q) where
  -- the entries of an end, at the party and elsewhere
  pub mains_after : (d : EndId) (shown : ℕ → Option (MainAt P)) → n.main d ≡ shown at →
      ((p : ℕ) → (p == at) ≡ false → (w.nodes p).main d ≡ shown p) →
      (p : ℕ) → ((with_tables w at clock n).nodes p).main d ≡ shown p
  mains_after d shown here away p = by (p == at) refl
    where
      by : (b : Bool) → (p == at) ≡ b → (if b then record n { clock = clock } else w.nodes p).main d ≡ shown p
      by true e = let i : p ≡ at = eqb-true p at e in rw i here
      by false e = away p e

  -- old records
  pub olds_after : (d : EndId) (shown : ℕ → Option (OldAt P)) → n.old d ≡ shown at →
      ((p : ℕ) → (p == at) ≡ false → (w.nodes p).old d ≡ shown p) →
      (p : ℕ) → ((with_tables w at clock n).nodes p).old d ≡ shown p
  olds_after d shown here away p = by (p == at) refl
    where
      by : (b : Bool) → (p == at) ≡ b → (if b then record n { clock = clock } else w.nodes p).old d ≡ shown p
      by true e = let i : p ≡ at = eqb-true p at e in rw i here
      by false e = away p e

  -- the entries of an end of which nothing changed
  pub same_tables : (o : Seat P) (d : Side P) → n.main d.id ≡ (w.nodes at).main d.id → n.old d.id ≡ (w.nodes at).old d.id →
      Shows w o d → Shows (with_tables w at clock n) o d
  same_tables o d m l s = record {
    mains = mains_after d.id (main_shown (source_for o d.seat) d.place d.seat) (m ∙ s.mains at) (λ p e. s.mains p);
    olds = olds_after d.id (old_shown d.seat) (l ∙ s.olds at) (λ p e. s.olds p);
    frames = s.frames;
    claims = s.claims;
    gives = s.gives;
  }

-- how the tables show the one seat at that party, and elsewhere as the other; and the lanes the
-- same
pub record Turns {P Q : Type 0} (at : ℕ) (n : NodeAt P Q) (id : EndId) (place : P) (o o' seat seat' : Seat P) : Type 0 where
  pub main : n.main id ≡ main_shown (source_for o' seat') place seat' at
  pub old : n.old id ≡ old_shown seat' at
  pub mains : (p : ℕ) → (p == at) ≡ false → main_shown (source_for o seat) place seat p ≡ main_shown (source_for o' seat') place seat' p
  pub olds : (p : ℕ) → (p == at) ≡ false → old_shown seat p ≡ old_shown seat' p

-- an end gets another seat
pub turned_shows : {P Q : Type 0} → (w : WorldAt P Q) (at clock : ℕ) (n : NodeAt P Q) (id : EndId) (place : P) (o o' seat seat' : Seat P) (old old' live live' : List (BodyAt P)) →
    Turns at n id place o o' seat seat' →
    ((p q c : ℕ) → old_in seat old p q c ++ live_in o (record { id = id; place = place; seat = seat; old = old; live = live }) p q c
    ≡ old_in seat' old' p q c ++ live_in o' (record { id = id; place = place; seat = seat'; old = old'; live = live' }) p q c) →
    ((p q : ℕ) → claims_in id seat p q ≡ claims_in id seat' p q) →
    ((p q : ℕ) → gives_in seat p q ≡ gives_in seat' p q) →
    Shows w o (record { id = id; place = place; seat = seat; old = old; live = live }) →
    Shows (with_tables w at clock n) o' (record { id = id; place = place; seat = seat'; old = old'; live = live' })
turned_shows w at clock n id place o o' seat seat' old old' live live' t f c g s = record {
  mains = mains_after w at clock n id (main_shown (source_for o' seat') place seat') t.main (λ p e. s.mains p ∙ t.mains p e);
  olds = olds_after w at clock n id (old_shown seat') t.old (λ p e. s.olds p ∙ t.olds p e);
  frames = λ p q k. s.frames p q k ∙ f p q k;
  claims = λ p q. s.claims p q ∙ c p q;
  gives = λ p q. s.gives p q ∙ g p q;
}
