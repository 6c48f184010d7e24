-- What rules that open and accept no session leave: no new record of hop 0, Held records that
-- aren't given up, and no Open.
use Rattle.std.proofs.Common.{◌≡◌, ℕ, suc, List, refl, sym, subst, ap, ◌∙◌}
use Rattle.std.specs.Prelude.{⊤, Bool, true, false, ◌&&◌, ◌==◌, if◌then◌else◌, Option, Some, None, option_and_then}
use Rattle.std.proofs.lemmas.Bool.{eqb-true, ne_eqb}
use Rattle.std.proofs.Common.{arith}
use Rattle.sj_base.specs.declared.EndId.{EndId}
use Rattle.sj_rules.specs.Play.{Want, ended, local, sends, delegates, takes, closes, requests, accepts}
use Rattle.sj_rules.specs.Record.{is_same_end}
use Rattle.sj_forward_rules.specs.Record.{SentAt, StateAt, Held, Parked, Passing, Closed, RecordAt}
use Rattle.sj_forward_rules.specs.Node.{NodeAt, Worked, with_record, HeldAt, held_in, held_at, held_of}
use Rattle.sj_forward_laws.specs.Kept.{IsHeldRecord}
use Rattle.sj_forward_laws.proofs.EndLemmas.{both_true, same_is}
use Rattle.sj_forward_laws.proofs.OpensLemmas.{AreNoOpens}

-- the step opens and accepts no session
abbrev pub OpensNothing : {P : Type 0} → Want P → Type 0
OpensNothing ended = ⊤
OpensNothing local = ⊤
OpensNothing (sends e msg) = ⊤
OpensNothing (delegates carrier e) = ⊤
OpensNothing (takes e place) = ⊤
OpensNothing (closes e) = ⊤
OpensNothing (requests place to) = ⊥
OpensNothing (accepts place from) = ⊥

-- the step doesn't give up the end
abbrev pub Leaves : {P : Type 0} → EndId → Want P → Type 0
Leaves d ended = ⊤
Leaves d local = ⊤
Leaves d (sends e msg) = ⊤
Leaves d (delegates carrier e) = is_same_end d e ≡ false
Leaves d (takes e place) = ⊤
Leaves d (closes e) = is_same_end d e ≡ false
Leaves d (requests place to) = ⊤
Leaves d (accepts place from) = ⊤

-- no record is new
abbrev pub IsNoneStill : Option RecordAt → Option RecordAt → Type 0
IsNoneStill o o' = o ≡ None → o' ≡ None

-- a Held record is Held still
abbrev pub IsHeldStill : Option RecordAt → Option RecordAt → Type 0
IsHeldStill o o' = IsHeldRecord o → IsHeldRecord o'

-- what a rule makes of a node
pub record IsOldWork {Q : Type 0} (n : NodeAt Q) (Stays : EndId → Type 0) (done : Worked Q) : Type 0 where
  pub requests : done.node.requests ≡ n.requests
  pub offers : (q : ℕ) → done.node.offers q ≡ n.offers q
  pub none : (d : EndId) → IsNoneStill (n.records d 0) (done.node.records d 0)
  pub held : (d : EndId) → Stays d → IsHeldStill (n.records d 0) (done.node.records d 0)
  pub posts : AreNoOpens done.posts

-- whatever end
abbrev pub Any : EndId → Type 0
Any d = ⊤

pub same_work : {Q : Type 0} (a b : Worked Q) → ◌≡◌ {A = Option (Worked Q)} (Some a) (Some b) → a ≡ b
same_work a b e = cc e

-- the record of an end in use is Held
pub held_is : {Q : Type 0} (n : NodeAt Q) (e : EndId) (h : HeldAt) → held_of n e ≡ Some h
    → n.records e h.hop ≡ Some (record { behind = h.behind; state = Held h.untaken })
held_is {Q} n e h is = by (n.uses e) is
  where
    state_is : (k : ℕ) (r : RecordAt) (st : StateAt) → r.state ≡ st → n.records e k ≡ Some r → held_in k r.behind st ≡ Some h
        → n.records e h.hop ≡ Some (record { behind = h.behind; state = Held h.untaken })
    state_is k r (Held ms) s there i =
        let same : record { hop = k; behind = r.behind; untaken = ms } ≡ h = cc i in
        let whole : n.records e k ≡ Some (record { behind = r.behind; state = Held ms }) =
        there ∙ ap (λ (x : StateAt). some_record (record { behind = r.behind; state = x })) s in
        subst (λ (x : HeldAt). n.records e x.hop ≡ Some (record { behind = x.behind; state = Held x.untaken })) same whole
      where
        some_record : RecordAt → Option RecordAt
        some_record x = Some x
    state_is k r (Parked ms) s there i = absurd (cc i)
    state_is k r (Passing p) s there i = absurd (cc i)
    state_is k r Closed s there i = absurd (cc i)

    at : (k : ℕ) (o : Option RecordAt) → n.records e k ≡ o → held_at k o ≡ Some h
        → n.records e h.hop ≡ Some (record { behind = h.behind; state = Held h.untaken })
    at k None there i = absurd (cc i)
    at k (Some r) there i = state_is k r r.state refl there i

    by : (o : Option ℕ) → option_and_then (λ k. held_at k (n.records e k)) o ≡ Some h
        → n.records e h.hop ≡ Some (record { behind = h.behind; state = Held h.untaken })
    by None i = absurd (cc i)
    by (Some k) i = at k (n.records e k) refl i

-- a record that isn't Held
pub not_held : (behind : ℕ) (st : StateAt) (o' : Option RecordAt) → ((ms : List SentAt) → st ≡ Held ms → ⊥)
    → IsHeldStill (Some (record { behind = behind; state = st })) o'
not_held behind st o' not held =
    let it : record { behind = behind; state = st } ≡ record { behind = held.0; state = Held held.1 } = cc held.2 in
    absurd (not held.1 (ap (λ (r : RecordAt). r.state) it))

-- an end that is taken has a record of a later hop
pub later_hop : (d y : EndId) (h : ℕ) → (is_same_end d y && (0 == suc h)) ≡ false
later_hop d y h = ap (λ (b : Bool). is_same_end d y && b) (ne_eqb 0 (suc h) (λ i. omega (arith, i))) ∙ last (is_same_end d y)
  where
    last : (b : Bool) → (b && false) ≡ false
    last true = refl
    last false = refl

module _ {Q : Type 0} where
  -- a record that was there is written
  pub written_none : (n v : NodeAt Q) (e : EndId) (h : ℕ) (old new : RecordAt) → n.records e h ≡ Some old
      → ((d : EndId) → v.records d 0 ≡ (with_record e h new n).records d 0)
      → (d : EndId) → IsNoneStill (n.records d 0) (v.records d 0)
  written_none n v e h old new was same d none = same d ∙ by (is_same_end d e && (0 == h)) refl
    where
      by : (b : Bool) → (is_same_end d e && (0 == h)) ≡ b → (if b then Some new else n.records d 0) ≡ None
      by true t =
          let both = both_true (is_same_end d e) (0 == h) t in
          let here : n.records d 0 ≡ Some old =
          ap (λ x. n.records x 0) (same_is d e both.0) ∙ ap (λ (k : ℕ). n.records e k) (eqb-true 0 h both.1) ∙ was in
          absurd (cc (none, here))
      by false t = none

  pub written_held : (n v : NodeAt Q) (e : EndId) (h : ℕ) (new : RecordAt) → ((d : EndId) → v.records d 0 ≡ (with_record e h new n).records d 0)
      → (d : EndId) → (is_same_end d e && (0 == h)) ≡ false → IsHeldStill (n.records d 0) (v.records d 0)
  written_held n v e h new same d apart held = (held.0, held.1, same d ∙ ap (λ (b : Bool). if b then Some new else n.records d 0) apart ∙ held.2)

  -- it was Held and is so still, or it wasn't
  pub written_held_so : (n v : NodeAt Q) (e : EndId) (h : ℕ) (old new : RecordAt) → n.records e h ≡ Some old
      → ((d : EndId) → v.records d 0 ≡ (with_record e h new n).records d 0)
      → IsHeldStill (Some old) (Some new) → (d : EndId) → IsHeldStill (n.records d 0) (v.records d 0)
  written_held_so n v e h old new was same so d held = subst IsHeldRecord (sym (same d)) (by (is_same_end d e && (0 == h)) refl)
    where
      by : (b : Bool) → (is_same_end d e && (0 == h)) ≡ b → IsHeldRecord (if b then Some new else n.records d 0)
      by true t =
          let both = both_true (is_same_end d e) (0 == h) t in
          let here : n.records d 0 ≡ Some old =
          ap (λ x. n.records x 0) (same_is d e both.0) ∙ ap (λ (k : ℕ). n.records e k) (eqb-true 0 h both.1) ∙ was in
          so (subst IsHeldRecord here held)
      by false t = held
