-- One record is written, and messages go on: the records, and what is on its way.
use Rattle.std.proofs.Common.{◌≡◌, ℕ, ◌<◌, ◌≤◌, ◌++◌, refl, sym, subst, ap, ◌∙◌, inr}
use Rattle.std.specs.Prelude.{Bool, true, false, ◌&&◌, ◌==◌, if◌then◌else◌, Option, Some}
use Rattle.std.proofs.lemmas.Bool.{eqb-true, eq-eqb}
use Rattle.sj_base.specs.declared.EndId.{EndId}
use Rattle.sj_rules.specs.Record.{is_same_end, other_end}
use Rattle.sj_forward_rules.specs.Record.{Held, Parked, Passing, Closed, StateAt, RecordAt, stored}
use Rattle.sj_forward_rules.specs.Node.{NodeAt, with_record}
use Rattle.sj_forward_laws.specs.Kept.{IsRecorded, IsInChain}
use Rattle.sj_forward_rules.specs.World.{Lanes}
use Rattle.sj_forward_laws.specs.Roads.{Chains, inward, outward, behind_of, messages_in}
use Rattle.sj_forward_laws.specs.Pipe.{traffic, from_last, from_first, in_part, out_part, pipe}
use Rattle.sj_forward_laws.proofs.EndLemmas.{both_true, same_is}
use Rattle.sj_forward_laws.proofs.PartLemmas.{same_last, same_first}

-- the state of one record is that from now on
abbrev pub written : (EndId → ℕ → StateAt) → EndId → ℕ → StateAt → EndId → ℕ → StateAt
written states e h st d k = if is_same_end d e && (k == h) then st else states d k

-- a record of these parts
abbrev pub record_with : ℕ → StateAt → Option RecordAt
record_with behind st = Some (record { behind = behind; state = st })

-- a record is as it is
pub recorded_self : (behind : ℕ) (st : StateAt) → IsRecorded (record_with behind st) behind st
recorded_self behind (Held ms) = refl
recorded_self behind (Parked ms) = refl
recorded_self behind (Passing p) = refl
recorded_self behind Closed = inr refl

-- what holds of one record, and of all others, holds of all
pub for_all : (F : EndId → ℕ → Type 0) (e : EndId) (h : ℕ) → F e h → (d : EndId) (k : ℕ) → ((is_same_end d e && (k == h)) ≡ false → F d k) → F d k
for_all F e h here d k away = by (is_same_end d e && (k == h)) refl
  where
    by : (b : Bool) → (is_same_end d e && (k == h)) ≡ b → F d k
    by true t =
        let both = both_true (is_same_end d e) (k == h) t in
        let i : d ≡ e = same_is d e both.0 in
        let j : k ≡ h = eqb-true k h both.1 in
        subst (λ x. F x k) (sym i) (subst (λ (x : ℕ). F e x) (sym j) here)
    by false t = away t

-- of that record
pub written_here : (states : EndId → ℕ → StateAt) (e : EndId) (h : ℕ) (st : StateAt) (d : EndId) (k : ℕ) → (is_same_end d e && (k == h)) ≡ true
    → written states e h st d k ≡ st
written_here states e h st d k t = ap (λ (b : Bool). if b then st else states d k) t

-- of others
pub written_away : (states : EndId → ℕ → StateAt) (e : EndId) (h : ℕ) (st : StateAt) (d : EndId) (k : ℕ) → (is_same_end d e && (k == h)) ≡ false
    → written states e h st d k ≡ states d k
written_away states e h st d k t = ap (λ (b : Bool). if b then st else states d k) t

module _ {Q : Type 0} (c : Chains) (states : EndId → ℕ → StateAt) (nodes : ℕ → NodeAt Q) (p : ℕ) (n : NodeAt Q) where
  -- the record of an end at a hop, as the chains say
  abbrev pub Recorded : (ℕ → NodeAt Q) → (EndId → ℕ → StateAt) → EndId → ℕ → Type 0
  Recorded all st d k = IsRecorded ((all (c.at d k)).records d k) (behind_of c d k) (st d k)

  -- the nodes after an event at p
  abbrev pub after : ℕ → NodeAt Q
  after k = if k == p then n else nodes k

  -- no record is written
  pub kept_records : ((d : EndId) (k : ℕ) → n.records d k ≡ (nodes p).records d k) → (d : EndId) (k : ℕ) → Recorded nodes states d k
      → Recorded after states d k
  kept_records same d k old = by (c.at d k == p) refl
    where
      by : (b : Bool) → (c.at d k == p) ≡ b → IsRecorded ((if b then n else nodes (c.at d k)).records d k) (behind_of c d k) (states d k)
      by true t =
          subst (λ o. IsRecorded o (behind_of c d k) (states d k))
          (sym (same d k ∙ ap (λ (x : ℕ). (nodes x).records d k) (sym (eqb-true (c.at d k) p t)))) old
      by false t = old

  -- one record is written
  pub written_records : (e : EndId) (h : ℕ) (st : StateAt) → c.at e h ≡ p
      → ((d : EndId) (k : ℕ) → n.records d k ≡ (with_record e h (record { behind = behind_of c e h; state = st }) (nodes p)).records d k)
      → (d : EndId) (k : ℕ) → Recorded nodes states d k → Recorded after (written states e h st) d k
  written_records e h st at same d k old = by (is_same_end d e && (k == h)) refl
    where
      away : (is_same_end d e && (k == h)) ≡ false → (b : Bool) → (c.at d k == p) ≡ b
          → IsRecorded ((if b then n else nodes (c.at d k)).records d k) (behind_of c d k) (states d k)
      away t true u =
          subst (λ o. IsRecorded o (behind_of c d k) (states d k))
          (sym (same d k ∙ ap (λ (b : Bool). if b then Some (record { behind = behind_of c e h; state = st }) else (nodes p).records d k) t
          ∙ ap (λ (x : ℕ). (nodes x).records d k) (sym (eqb-true (c.at d k) p u)))) old
      away t false u = old

      by : (b : Bool) → (is_same_end d e && (k == h)) ≡ b → Recorded after (written states e h st) d k
      by true t =
          let both = both_true (is_same_end d e) (k == h) t in
          let i : d ≡ e = same_is d e both.0 in
          let j : k ≡ h = eqb-true k h both.1 in
          let there : c.at d k ≡ p = ap (λ x. c.at x k) i ∙ ap (λ (x : ℕ). c.at e x) j ∙ at in
          let behind : behind_of c e h ≡ behind_of c d k = ap (λ (x : ℕ). behind_of c e x) (sym j) ∙ ap (λ x. behind_of c x k) (sym i) in
          let shown : (after (c.at d k)).records d k ≡ record_with (behind_of c d k) st =
          ap (λ (b : Bool). (if b then n else nodes (c.at d k)).records d k) (eq-eqb (c.at d k) p there)
          ∙ same d k ∙ ap (λ (b : Bool). if b then Some (record { behind = behind_of c e h; state = st }) else (nodes p).records d k) t
          ∙ ap (λ (x : ℕ). record_with x st) behind in
          subst (λ s. IsRecorded ((after (c.at d k)).records d k) (behind_of c d k) s) (sym (written_here states e h st d k t))
          (subst (λ o. IsRecorded o (behind_of c d k) st) (sym shown) (recorded_self (behind_of c d k) st))
      by false t =
          subst (λ s. IsRecorded ((after (c.at d k)).records d k) (behind_of c d k) s) (sym (written_away states e h st d k t))
          (away t (c.at d k == p) refl)

  -- where the records of an end at a hop lie
  abbrev pub AreInChain : (ℕ → NodeAt Q) → EndId → ℕ → Type 0
  AreInChain all d k = (x : ℕ) (r : RecordAt) → (all x).records d k ≡ Some r → IsInChain c d k x

  -- no record is written
  pub kept_alone : ((d : EndId) (k : ℕ) → n.records d k ≡ (nodes p).records d k) → (d : EndId) (k : ℕ) → AreInChain nodes d k → AreInChain after d k
  kept_alone same d k old x r is = by (x == p) refl is
    where
      by : (b : Bool) → (x == p) ≡ b → (if b then n else nodes x).records d k ≡ Some r → IsInChain c d k x
      by true t i = subst (λ (y : ℕ). IsInChain c d k y) (sym (eqb-true x p t)) (old p r (sym (same d k) ∙ i))
      by false t i = old x r i

  -- one record of a chain is written
  pub written_alone : (e : EndId) (h : ℕ) (new : RecordAt) → IsInChain c e h p
      → ((d : EndId) (k : ℕ) → n.records d k ≡ (with_record e h new (nodes p)).records d k)
      → (d : EndId) (k : ℕ) → AreInChain nodes d k → AreInChain after d k
  written_alone e h new there same d k old x r is = by (x == p) refl is
    where
      here : (b : Bool) → (is_same_end d e && (k == h)) ≡ b → (if b then Some new else (nodes p).records d k) ≡ Some r → IsInChain c d k p
      here true t i =
          let both = both_true (is_same_end d e) (k == h) t in
          subst (λ z. IsInChain c z k p) (sym (same_is d e both.0)) (subst (λ (z : ℕ). IsInChain c e z p) (sym (eqb-true k h both.1)) there)
      here false t i = old p r i

      by : (b : Bool) → (x == p) ≡ b → (if b then n else nodes x).records d k ≡ Some r → IsInChain c d k x
      by true t i = subst (λ (y : ℕ). IsInChain c d k y) (sym (eqb-true x p t)) (here (is_same_end d e && (k == h)) refl (sym (same d k) ∙ i))
      by false t i = old x r i

module _ (c : Chains) (states : EndId → ℕ → StateAt) (lanes lanes' : Lanes) where
  -- all parts are the same
  pub same_pipe : (states' : EndId → ℕ → StateAt) (d : EndId)
      → ((k : ℕ) → k ≤ c.top d → in_part lanes' c states' d k ≡ in_part lanes c states d k)
      → ((k : ℕ) → k < c.top (other_end d) → out_part lanes' c states' (other_end d) k ≡ out_part lanes c states (other_end d) k)
      → pipe lanes' c states' d ≡ pipe lanes c states d
  same_pipe states' d ins outs =
      ap (λ z. z ++ from_first (out_part lanes' c states' (other_end d)) (c.top (other_end d)))
      (same_last (in_part lanes c states d) (in_part lanes' c states' d) (c.top d) ins)
      ∙ ap (λ z. from_last (in_part lanes c states d) (c.top d) ++ z)
      (same_first (out_part lanes c states (other_end d)) (out_part lanes' c states' (other_end d)) (c.top (other_end d)) outs)

  -- a part whose record and road are as before
  pub same_in : (e : EndId) (h : ℕ) (st : StateAt) (d : EndId) (k : ℕ) → (is_same_end d e && (k == h)) ≡ false
      → traffic lanes' c (inward d k) ≡ traffic lanes c (inward d k)
      → in_part lanes' c (written states e h st) d k ≡ in_part lanes c states d k
  same_in e h st d k t road =
      ap (λ s. stored s ++ messages_in (traffic lanes' c (inward d k))) (written_away states e h st d k t)
      ∙ ap (λ l. stored (states d k) ++ messages_in l) road

  pub same_part : (d : EndId) (k : ℕ) → traffic lanes' c (inward d k) ≡ traffic lanes c (inward d k)
      → in_part lanes' c states d k ≡ in_part lanes c states d k
  same_part d k road = ap (λ l. stored (states d k) ++ messages_in l) road

  pub same_out : (states' : EndId → ℕ → StateAt) (d : EndId) (k : ℕ) → traffic lanes' c (outward d k) ≡ traffic lanes c (outward d k)
      → out_part lanes' c states' d k ≡ out_part lanes c states d k
  same_out states' d k road = ap (λ l. messages_in l) road
