-- Frames that come to a party, as its tables take them.
use Rattle.std.proofs.Common.{◌≡◌, ℕ, suc, ◌+◌, ◌==◌, Bool, true, false, if◌then◌else◌, List, [], ◌∷◌, ◌++◌, Option, Some, None, option_map, append-nil, refl, ap, sym, ◌∙◌, add-one, inl, inr}
use Rattle.std.specs.Prelude.{IsSome, Vec, ◌&&◌, is_none}
use Rattle.std.specs.declared.alloc.Global.{Global}
use Rattle.std.proofs.lemmas.Bool.{cases_eq}
use Rattle.sj_base.specs.declared.EndId.{EndId}
use Rattle.sj_semantics.specs.Program.{Program}
use Rattle.sj_rules.specs.Opened.{is_opened_by}
use Rattle.sj_rules.specs.Party.{nobody}
use Rattle.sj_rules.specs.Record.{is_same_end, offered_end}
use Rattle.sj_forward.specs.declared.forwarder.Forwarder.{Forwarder}
use Rattle.sj_forward.specs.declared.records.Kind.{Kind}
use Rattle.sj_forward.specs.declared.records.Kind.TheVariants as kinds
use Rattle.sj_forward.specs.declared.records.Seen.{Seen}
use Rattle.sj_forward.specs.Forwarder.{DoesSo, forwarder_at}
use Rattle.sj_forward.specs.Ends.{EndsStay, Rows, Writes, is_storing, more_stored, records_in, stores, uses_in}
use Rattle.sj_offers.specs.Offers.{offering, offers_in}
use Rattle.sj_forward.specs.Outs.{inward, lane_in}
use Rattle.sj_forward.specs.Views.{kind_of, seen_of}
use Rattle.sj_forward.proofs.ActLemmas.{Lanes, Table}
use Rattle.sj_forward.proofs.ForwarderLemmas.{forwarder_recorded, does_quietly, does_so}
use Rattle.sj_forward.proofs.SlotLemmas.{one_other, one_same, some_same}
use Rattle.sj_forward_rules.specs.Arrivals.{at_record, claim_by, in_by, open_comes, passed_on}
use Rattle.sj_forward_rules.specs.Node.{NodeAt, Worked, quietly, with_first, with_offers, with_record}
use Rattle.sj_forward_rules.specs.Record.{In, FrameAt, SentAt, StateAt, Held, Parked, Passing, Closed, RecordAt}
use Rattle.sj_forward_rules.specs.World.{frames_for}

-- ---- a message is stored

-- a record that is Held or Parked stores
storing_kind : (st : StateAt) (k : Kind) → kind_of st ≡ k → (k ≡ kinds.Held → stores st ≡ true) × ((n : ℕ) → k ≡ kinds.Parked n → stores st ≡ true)
storing_kind (Held ms) k is = (λ e. refl, λ n e. refl)
storing_kind (Parked ms) k is = (λ e. refl, λ n e. refl)
storing_kind (Passing p) k is = (λ e. absurd (cc (is, e)), λ n e. absurd (cc (is, e)))
storing_kind Closed k is = (λ e. absurd (cc (is, e)), λ n e. absurd (cc (is, e)))

pub storing_held : (o : Option RecordAt) (s : Seen) → Some s ≡ option_map seen_of o → s.kind ≡ kinds.Held → is_storing o ≡ true
storing_held None s told kind = absurd (cc told)
storing_held (Some r) s told kind = (storing_kind r.state s.kind (ap (λ (x : Seen). x.kind) (sym (some_same s (seen_of r) told)))).0 kind

pub storing_parked : (o : Option RecordAt) (s : Seen) (n : ℕ) → Some s ≡ option_map seen_of o → s.kind ≡ kinds.Parked n → is_storing o ≡ true
storing_parked None s n told kind = absurd (cc told)
storing_parked (Some r) s n told kind = (storing_kind r.state s.kind (ap (λ (x : Seen). x.kind) (sym (some_same s (seen_of r) told)))).1 n kind

module _ (d : Forwarder) (ends : Table) (e : EndId) (hop : ℕ) (m : SentAt) (g : Program) where
  stored_at : (behind : ℕ) (st : StateAt) → stores st ≡ true → Writes d.ends.items e (uses_in d.ends.items e) hop (more_stored m (record { behind = behind; state = st })) ends.items
      → DoesSo d (in_by (forwarder_at g d) e hop m behind st) (record d { ends = ends })
  stored_at behind (Held ms) t w =
      let r : RecordAt = record { behind = behind; state = Held (ms ++ m ∷ []) } in
      does_quietly d (record d { ends = ends }) (with_record e hop r (forwarder_at g d)) (forwarder_recorded g d ends e hop r w) (λ q. refl)
  stored_at behind (Parked ms) t w =
      let r : RecordAt = record { behind = behind; state = Parked (ms ++ m ∷ []) } in
      does_quietly d (record d { ends = ends }) (with_record e hop r (forwarder_at g d)) (forwarder_recorded g d ends e hop r w) (λ q. refl)
  stored_at behind (Passing p) t w = absurd (cc t)
  stored_at behind Closed t w = absurd (cc t)

  stored_by : (o : Option RecordAt) → is_storing o ≡ true → ((r : RecordAt) → o ≡ Some r → Writes d.ends.items e (uses_in d.ends.items e) hop (more_stored m r) ends.items)
      → DoesSo d (at_record (in_by (forwarder_at g d) e hop m) o) (record d { ends = ends })
  stored_by None t w = absurd (cc t)
  stored_by (Some r) t w = stored_at r.behind r.state t (w r refl)

  -- the row of a message for a record that stores it
  pub stored_so : is_storing (records_in d.ends.items e hop) ≡ true
      → ((r : RecordAt) → records_in d.ends.items e hop ≡ Some r → Writes d.ends.items e (uses_in d.ends.items e) hop (more_stored m r) ends.items)
      → DoesSo d (at_record (in_by (forwarder_at g d) e hop m) (records_in d.ends.items e hop)) (record d { ends = ends })
  stored_so t w = stored_by (records_in d.ends.items e hop) t w

-- ---- a Claim

-- what waits goes to one party
pub frames_passed : (e : EndId) (hop p q : ℕ) (ms : List SentAt) → frames_for q (passed_on e hop p ms) ≡ (if q == p then inward e hop ms else [])
frames_passed e hop p q ms =
    elim (cases_eq q p) [
      | inl same ↦ rw (same, one_same p) (all p ms)
      | inr other ↦ rw (one_other q p other) (none ms other)
    ]
  where
    all : (p : ℕ) (ms : List SentAt) → frames_for p (passed_on e hop p ms) ≡ inward e hop ms
    all p [] = refl
    all p (m ∷ ms) = rw (one_same p) (ap (λ (fs : List FrameAt). In e hop m ∷ fs) (all p ms))

    none : (ms : List SentAt) → (q ≡ p → ⊥) → frames_for q (passed_on e hop p ms) ≡ []
    none [] other = refl
    none (m ∷ ms) other = rw (one_other q p other) (none ms other)

record IsWaiting (o : Option RecordAt) : Type 0 where
  parked : RecordAt
  there : o ≡ Some parked
  waiting : List SentAt
  state : parked.state ≡ Parked waiting

waiting_by : (d : Forwarder) (e : EndId) (hop origin : ℕ) (o : Option RecordAt) → IsSome (at_record (claim_by (forwarder_at nobody d) e hop origin) o) → IsWaiting o
waiting_by d e hop origin None some = absurd (cc some)
waiting_by d e hop origin (Some r) some = by r.state refl some
  where
    by : (st : StateAt) → r.state ≡ st → IsSome (claim_by (forwarder_at nobody d) e hop origin r.behind st) → IsWaiting (Some r)
    by (Parked ms) is s = record { parked = r; there = refl; waiting = ms; state = is }
    by (Held ms) is s = absurd (cc s)
    by (Passing p) is s = absurd (cc s)
    by Closed is s = absurd (cc s)

pub claimed_so : (d : Forwarder) (ends : Table) (mid outs : Lanes) (e : EndId) (hop origin : ℕ) (ms : List SentAt) → IsSome (at_record (claim_by (forwarder_at nobody d) e hop origin) (records_in d.ends.items e hop))
    → ((r : RecordAt) → records_in d.ends.items e hop ≡ Some r → r.state ≡ Parked ms)
    → ((r : RecordAt) → records_in d.ends.items e hop ≡ Some r → Writes d.ends.items e (uses_in d.ends.items e) hop (record { behind = r.behind; state = Passing origin }) ends.items)
    → ((q : ℕ) → lane_in mid.items q ≡ lane_in d.outs.items q)
    → ((q : ℕ) → lane_in outs.items q ≡ (if q == origin then lane_in mid.items q ++ inward e (hop + 1) ms else lane_in mid.items q))
    → (g : Program) → DoesSo d (at_record (claim_by (forwarder_at g d) e hop origin) (records_in d.ends.items e hop)) (record d { ends = ends; outs = outs })
claimed_so d ends mid outs e hop origin ms some waited passes same put g =
    let it = waiting_by d e hop origin (records_in d.ends.items e hop) some in
    let r = it.parked in
    let left : RecordAt = record { behind = r.behind; state = Passing origin } in
    let new : Forwarder = record d { ends = ends; outs = outs } in
    let done : Worked Program = record { node = with_record e hop left (forwarder_at g d); posts = passed_on e (suc hop) origin ms } in
    let row : at_record (claim_by (forwarder_at g d) e hop origin) (records_in d.ends.items e hop) ≡ Some done =
    ap (at_record (claim_by (forwarder_at g d) e hop origin)) it.there ∙ ap (claim_by (forwarder_at g d) e hop origin r.behind) (waited r it.there) in
    does_so d new (at_record (claim_by (forwarder_at g d) e hop origin) (records_in d.ends.items e hop)) done row
    (record {
      node = forwarder_recorded g (record d { outs = outs }) ends e hop left (passes r it.there);
      posts = λ q.
          put q ∙ (λ i. if q == origin then same q i ++ inward e (add-one hop i) ms else same q i)
          ∙ into q (q == origin)
          ∙ ap (λ (fs : List FrameAt). lane_in d.outs.items q ++ fs) (sym (frames_passed e (suc hop) origin q ms));
    })
  where
    into : (q : ℕ) (b : Bool) → (if b then lane_in d.outs.items q ++ inward e (suc hop) ms else lane_in d.outs.items q) ≡ lane_in d.outs.items q ++ (if b then inward e (suc hop) ms else [])
    into q true = refl
    into q false = sym (append-nil (lane_in d.outs.items q))

-- ---- an Open

-- what is written is written of the ends as they were before memory was taken
writes_after : (a b c : Rows) (e : EndId) (at : Option ℕ) (hop : ℕ) (r : RecordAt) → EndsStay a b → Writes b e at hop r c → Writes a e at hop r c
writes_after a b c e at hop r stay w = record {
  uses = w.uses ∙ (λ i d. if is_same_end d e then at else stay.uses i d);
  records = w.records ∙ (λ i d k. if is_same_end d e && (k == hop) then Some r else stay.records i d k);
}

pub opens_so : (d : Forwarder) (mid ends : Table) (offers : Vec (Vec ℕ Global) Global) (origin sess : ℕ) → IsSome (open_comes (forwarder_at nobody d) origin sess) → EndsStay d.ends.items mid.items
    → Writes mid.items (offered_end sess) (Some 0) 0 (record { behind = origin; state = Held [] }) ends.items
    → offers_in offers.items ≡ offering origin (offers_in d.offers.items origin ++ sess ∷ []) (offers_in d.offers.items)
    → (g : Program) → DoesSo d (open_comes (forwarder_at g d) origin sess) (record d { offers = offers; ends = ends })
opens_so d mid ends offers origin sess some stay begun more g = by (is_opened_by origin sess && is_none (records_in d.ends.items (offered_end sess) 0)) some
  where
    e : EndId
    e = offered_end sess

    n : NodeAt Program
    n = forwarder_at g d

    new : Forwarder
    new = record d { offers = offers; ends = ends }

    node : NodeAt Program
    node = with_offers origin (n.offers origin ++ sess ∷ []) (with_first e origin n)

    w : Writes d.ends.items e (Some 0) 0 (record { behind = origin; state = Held [] }) ends.items
    w = writes_after d.ends.items mid.items ends.items e (Some 0) 0 (record { behind = origin; state = Held [] }) stay begun

    there : Bool → Program → Option (Worked Program)
    there b k = if b then Some (quietly (with_offers origin ((forwarder_at k d).offers origin ++ sess ∷ []) (with_first e origin (forwarder_at k d)))) else None

    by : (b : Bool) → IsSome (there b nobody) → DoesSo d (there b g) new
    by false h = absurd (cc h)
    by true h = does_quietly d new node (λ i. record { program = g; requests = d.requests; offers = more i; uses = w.uses i; records = w.records i }) (λ q. refl)
