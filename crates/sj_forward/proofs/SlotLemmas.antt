-- Records in the slot of an end, and what is written there.
use Rattle.std.proofs.Common.{◌≡◌, ◌≢◌, ℕ, zero, suc, ◌<◌, ◌==◌, true, false, eqb, if◌then◌else◌, List, [], ◌∷◌, ◌++◌, length, get_or, map, Option, Some, None, option_map, option_and_then, refl, ap, sym, ◌∙◌, subst, arith, inl, inr}
use Rattle.std.specs.Prelude.{IsSome}
use Rattle.std.proofs.Math.ListN.{set}
use Rattle.std.proofs.lemmas.Bool.{cases_eq, cases_lt}
use Rattle.std.proofs.lemmas.Bool.Decides.{nat_tests}
use Rattle.std.proofs.lemmas.List.{get_or-set_same, get_or-set_other, get_or_default, get_or_past}
use Rattle.std.specs.declared.alloc.Global.{Global}
use Rattle.std.specs.declared.collections.VecDeque.{VecDeque}
use Rattle.sj_forward.specs.declared.frame.Sent.{Sent}
use Rattle.sj_forward.specs.declared.records.Kind.{Kind}
use Rattle.sj_forward.specs.declared.records.Record.{Record}
use Rattle.sj_forward.specs.declared.records.Seen.{Seen}
use Rattle.sj_forward.specs.declared.slot.Slot.{Slot}
use Rattle.sj_forward.specs.declared.records.Stand.{Stand}
use Rattle.sj_forward.specs.declared.records.Stand.TheVariants as stands
use Rattle.sj_forward.specs.Ends.{Becomes, LeavesFirst, TakesFirst, record_in, slot_held}
use Rattle.sj_forward.specs.Views.{record_at, seen_of, sent_at, stand_at}
use Rattle.sj_forward_rules.specs.Node.{HeldAt, held_at, held_in}
use Rattle.sj_forward_rules.specs.Record.{SentAt, StateAt, Held, Parked, Passing, Closed, RecordAt}

pub some_same : {X : Type 0} (x y : X) → ◌≡◌ {A = Option X} (Some x) (Some y) → x ≡ y
some_same x y h = cc h

pub one_same : (n : ℕ) → eqb n n ≡ true
one_same n = grind (arith, nat_tests)

pub one_other : (n m : ℕ) → n ≢ m → eqb n m ≡ false
one_other n m ne = grind (arith, nat_tests)

-- ---- a Held record

record IsHeldSo (k behind : ℕ) (st : StateAt) (h : HeldAt) : Type 0 where
  hop : h.hop ≡ k
  behind_is : h.behind ≡ behind
  state : st ≡ Held h.untaken

held_so : (k behind : ℕ) (st : StateAt) (h : HeldAt) → held_in k behind st ≡ Some h → IsHeldSo k behind st h
held_so k behind (Held ms) h e =
    let same : record { hop = k; behind = behind; untaken = ms } ≡ h = some_same (record { hop = k; behind = behind; untaken = ms }) h e in
    record {
      hop = ap (λ (x : HeldAt). x.hop) (sym same);
      behind_is = ap (λ (x : HeldAt). x.behind) (sym same);
      state = ap (λ (x : HeldAt). Held x.untaken) same;
    }
held_so k behind (Parked ms) h e = absurd (cc e)
held_so k behind (Passing p) h e = absurd (cc e)
held_so k behind Closed h e = absurd (cc e)

-- what is Held stands there so
pub held_is : (k : ℕ) (o : Option RecordAt) (h : HeldAt) → held_at k o ≡ Some h → (h.hop ≡ k) × (o ≡ Some (record { behind = h.behind; state = Held h.untaken }))
held_is k None h e = absurd (cc e)
held_is k (Some r) h e =
    let so = held_so k r.behind r.state h e in
    (so.hop, λ i. Some (record { behind = sym so.behind_is i; state = so.state i }))

-- whatever the hop number
pub held_any : (k j : ℕ) (o : Option RecordAt) → IsSome (held_at k o) → IsSome (held_at j o)
held_any k j None h = absurd (cc h)
held_any k j (Some r) h = by r.state h
  where
    by : (st : StateAt) → IsSome (held_in k r.behind st) → IsSome (held_in j r.behind st)
    by (Held ms) h = refl
    by (Parked ms) h = absurd (cc h)
    by (Passing p) h = absurd (cc h)
    by Closed h = absurd (cc h)

-- ---- one record of a slot

pub some_of : {X : Type 0} (o : Option X) → IsSome o → (x : X) × (o ≡ Some x)
some_of None h = absurd (cc h)
some_of (Some x) h = (x, refl)

-- where a record is there is its place
pub place_there : (xs : List (Option Record)) (h : ℕ) (r : RecordAt) → option_map record_at (get_or xs h None) ≡ Some r → h < length xs
place_there xs h r is =
    elim (cases_lt h (length xs)) [
      | inl lt ↦ lt
      | inr le ↦ absurd (let none : option_map record_at (get_or xs h None) ≡ None = ap (option_map record_at) (get_or_past xs h None le) in cc (is, none))
    ]

-- what is read there
pub record_read : (xs : List (Option Record)) (h : ℕ) (x : Option Record) → h < length xs → x ≡ get_or xs h x → option_map record_at (get_or xs h None) ≡ option_map record_at x
record_read xs h x lt is = ap (option_map record_at) (sym (is ∙ get_or_default xs h x None lt))

-- what is there once another was written
pub record_set : (xs : List (Option Record)) (h k : ℕ) (x : Option Record) → h < length xs
    → option_map record_at (get_or (set xs h x) k None) ≡ (if k == h then option_map record_at x else option_map record_at (get_or xs k None))
record_set xs h k x lt =
    elim (cases_eq k h) [
      | inl same ↦ rw (same, one_same h) (ap (option_map record_at) (get_or-set_same xs h x None lt))
      | inr other ↦ rw (one_other k h other) (ap (option_map record_at) (get_or-set_other xs h k x None other))
    ]

-- a record is written
pub becomes : (old new : Slot) (at : Option ℕ) (h : ℕ) (x : Option Record) (r : RecordAt) → h < length old.records.items → new.records.items ≡ set old.records.items h x
    → option_map record_at x ≡ Some r → new.used ≡ at → Becomes old at h r new
becomes old new at h x r lt items is used = record {
  used = used;
  records = λ k.
      ap (λ (xs : List (Option Record)). option_map record_at (get_or xs k None)) items ∙ record_set old.records.items h k x lt
      ∙ ap (λ o. if k == h then o else record_in old k) is;
}

none_last : (xs : List (Option Record)) (n : ℕ) → get_or (xs ++ None ∷ []) n None ≡ get_or xs n None
none_last [] zero = refl
none_last [] (suc n) = refl
none_last (y ∷ ys) zero = refl
none_last (y ∷ ys) (suc n) = none_last ys n

-- one place more, with nothing in it
pub place_more : (xs : List (Option Record)) (k : ℕ) → option_map record_at (get_or (xs ++ None ∷ []) k None) ≡ option_map record_at (get_or xs k None)
place_more xs k = ap (option_map record_at) (none_last xs k)

-- the first message leaves
pub leaves : (stand : Stand) (old new : VecDeque Sent Global) (s : Sent) (hop behind : ℕ) (h : HeldAt) → stand ≡ stands.Held old → old.items ≡ s ∷ new.items
    → held_in hop behind (stand_at stand) ≡ Some h → LeavesFirst h (sent_at s) (Some (record { behind = behind; state = Held (map sent_at new.items) }))
leaves stand old new s hop behind h is items held =
    let same : record { hop = hop; behind = behind; untaken = map sent_at old.items } ≡ h =
    some_same (record { hop = hop; behind = behind; untaken = map sent_at old.items }) h (ap (λ (x : Stand). held_in hop behind (stand_at x)) (sym is) ∙ held) in
    record {
      rest = map sent_at new.items;
      untaken = ap (λ (x : HeldAt). x.untaken) (sym same) ∙ ap (map sent_at) items;
      is = ap (λ (x : HeldAt). Some (record { behind = x.behind; state = Held (map sent_at new.items) })) same;
    }

-- ---- the record in use

-- the hop number at which it is
pub record UsedAt (s : Slot) (hop : ℕ) : Type 0 where
  pub within : hop < length s.records.items
  pub some : (j : ℕ) → IsSome (held_at j (record_in s hop))
  pub held : (h : HeldAt) → slot_held s ≡ Some h → (h.hop ≡ hop) × (held_at hop (record_in s hop) ≡ Some h)

pub used_at : (s : Slot) (hop : ℕ) → s.used ≡ Some hop → IsSome (slot_held s) → UsedAt s hop
used_at s hop used some =
    let same : slot_held s ≡ held_at hop (record_in s hop) = ap (option_and_then (λ h. held_at h (record_in s h))) used in
    let here : IsSome (held_at hop (record_in s hop)) = subst IsSome same some in
    let it = some_of (held_at hop (record_in s hop)) here in
    let is = held_is hop (record_in s hop) it.0 it.1 in
    record {
      within = place_there s.records.items hop (record { behind = it.0.behind; state = Held it.0.untaken }) is.1;
      some = λ j. held_any hop j (record_in s hop) here;
      held = λ h e. let own = sym same ∙ e in ((held_is hop (record_in s hop) h own).0, own);
    }

-- the next message is taken
pub takes_so : (s new : Slot) (hop : ℕ) (x left : Option Record) (h : HeldAt) (m : SentAt) → s.used ≡ Some hop → x ≡ get_or s.records.items hop x → slot_held s ≡ Some h
    → ((k : ℕ) (g : HeldAt) → held_at k (option_map record_at x) ≡ Some g → LeavesFirst g m (option_map record_at left))
    → new.used ≡ s.used → new.records.items ≡ set s.records.items hop left → TakesFirst s h m new
takes_so s new hop x left h m used read held takes same items =
    let u = used_at s hop used (subst IsSome (sym held) refl) in
    let at = u.held h held in
    let l = takes hop h (ap (held_at hop) (sym (record_read s.records.items hop x u.within read)) ∙ at.1) in
    record {
      rest = l.rest;
      untaken = l.untaken;
      becomes = subst (λ (k : ℕ). Becomes s s.used k (record { behind = h.behind; state = Held l.rest }) new) (sym at.0)
          (becomes s new s.used hop left (record { behind = h.behind; state = Held l.rest }) u.within items l.is same);
    }

-- what is reported of a record
pub seen_so : (s : Slot) (hop : ℕ) (x : Option Record) (r : Record) (kind : Kind) → hop < length s.records.items → x ≡ get_or s.records.items hop x → x ≡ Some r
    → ((behind : ℕ) → seen_of (record_at (record { behind = behind; stand = r.stand })) ≡ record { behind = behind; kind = kind })
    → ◌≡◌ {A = Option Seen} (Some (record { behind = r.behind; kind = kind })) (option_map seen_of (record_in s hop))
seen_so s hop x r kind lt read is told =
    sym (ap (option_map seen_of) (record_read s.records.items hop x lt read ∙ ap (option_map record_at) is) ∙ ap (λ (k : Seen). Some k) (told r.behind))
