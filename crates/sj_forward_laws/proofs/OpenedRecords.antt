-- Records of ends of sessions that were opened, and what a request and an accept find and leave.
use Rattle.std.proofs.Common.{◌≡◌, ℕ, zero, suc, ◌==◌, nat_lt, Bool, true, false, ◌&&◌, cond, List, [], ◌∷◌, ◌++◌, length, slice_get, Option, Some, None, option_map, refl, ap, subst, inl, inr, ◌⊎◌}
use Rattle.std.specs.List.{AllByRecursion}
use Rattle.std.proofs.lemmas.Bool.{and_from, eq-eqb}
use Rattle.sj_base.specs.declared.EndId.{EndId}
use Rattle.sj_lang.specs.FileAt.{FileAt}
use Rattle.sj_semantics.specs.Program.{Program}
use Rattle.sj_semantics.specs.Requests.{Request, opened_number}
use Rattle.sj_semantics.specs.World.{World, Change, start_of}
use Rattle.sj_rules.specs.Opened.{smallest}
use Rattle.sj_rules.specs.Party.{play_of}
use Rattle.sj_rules.specs.Record.{is_same_end, offered_end, requested_end}
use Rattle.sj_rules.specs.World.{Event}
use Rattle.sj_rules_laws.proofs.SideLemmas.{same_end_self}
use Rattle.sj_forward_rules.specs.Acts.{accept_offered, open_session, request_act}
use Rattle.sj_forward_rules.specs.Node.{HasRecord, NodeAt, Worked}
use Rattle.sj_forward_rules.specs.Record.{Held, RecordAt}
use Rattle.sj_forward_rules.specs.Start.{forward_start}
use Rattle.sj_forward_rules.specs.World.{WorldAt, after_event, happens}
use Rattle.sj_forward_laws.specs.Kept.{IsHeldRecord}
use Rattle.sj_forward_laws.proofs.StayLemmas.{run_stays}

-- ---- what is there of sessions that were opened

-- the first record of each first end, and of each second end that was accepted
pub record HaveRecords (w : WorldAt Program) (plain : World) : Type 0 where
  pub first : (p k : ℕ) (r : Request) → slice_get (plain.requests p) k ≡ Some r → HasRecord (w.nodes p) (requested_end (opened_number p k)) 0
  pub second : (p k y : ℕ) (r : Request) → slice_get (plain.requests p) k ≡ Some r → r.second ≡ Some y → HasRecord (w.nodes r.to) (offered_end (opened_number p k)) 0

-- none is at the start
pub none_opened : (file : FileAt) → HaveRecords (forward_start file) (start_of file)
none_opened file = record { first = λ p k r at. cc; second = λ p k y r at by_it. cc }

-- ---- an act

-- the node after an event
pub acted_node : (w : WorldAt Program) (p : ℕ) (done : Worked Program) → (after_event w p w.lanes done).nodes p ≡ done.node
acted_node w p done = ap (λ (b : Bool). cond b done.node (w.nodes p)) (eq-eqb p p refl)

pub map_some : {X Y : Type 0} (f : X → Y) (o : Option X) (y : Y) → option_map f o ≡ Some y → (x : X) × (o ≡ Some x) × (f x ≡ y)
map_some f None y h = cc
map_some f (Some x) y h = (x, refl, cc)

pub by_test : (b : Bool) (d c : Change) → cond b (Some d) None ≡ Some c → d ≡ c
by_test true d c h = cc
by_test false d c h = cc

-- where it is worked out it isn't worn
pub unworn : {X : Type 0} (b : Bool) (o : Option X) (x : X) → cond b None o ≡ Some x → o ≡ Some x
unworn true o x h = cc
unworn false o x h = h

-- the record that a request makes
pub requested_record : (file : FileAt) (p : ℕ) (n : NodeAt Program) (to : ℕ) (done : Worked Program) → request_act (play_of file) p n to ≡ Some done → HasRecord done.node (requested_end (opened_number p n.requests)) 0
requested_record file p n to done h = by (nat_lt n.requests 100) h
  where
    made : Worked Program
    made = open_session (play_of file) n to (opened_number p n.requests)

    written : (b : Bool) → b ≡ true → (r : RecordAt) × (cond b (Some (record { behind = to; state = Held [] })) (n.records (requested_end (opened_number p n.requests)) 0) ≡ Some r)
    written b is = (record { behind = to; state = Held [] }, ap (λ (c : Bool). cond c (Some (record { behind = to; state = Held [] })) (n.records (requested_end (opened_number p n.requests)) 0)) is)

    by : (b : Bool) → cond b (Some (open_session (play_of file) n to (opened_number p n.requests))) None ≡ Some done → HasRecord done.node (requested_end (opened_number p n.requests)) 0
    by true k =
        subst (λ (x : Worked Program). HasRecord x.node (requested_end (opened_number p n.requests)) 0) (let it : open_session (play_of file) n to (opened_number p n.requests) ≡ done = cc in it)
        (written (is_same_end (requested_end (opened_number p n.requests)) (requested_end (opened_number p n.requests)) && (0 == 0))
        (and_from (is_same_end (requested_end (opened_number p n.requests)) (requested_end (opened_number p n.requests))) (0 == 0) (same_end_self (requested_end (opened_number p n.requests))) refl))
    by false k = cc

-- what is accepted comes first in what is offered there, and is Held
pub accepted_record : (file : FileAt) (n : NodeAt Program) (from s : ℕ) (rest later : List ℕ) (done : Worked Program) → n.offers from ++ rest ≡ s ∷ later → AllByRecursion (λ t. IsHeldRecord (n.records (offered_end t) 0)) (n.offers from)
    → accept_offered (play_of file) n from (smallest (n.offers from)) ≡ Some done → HasRecord n (offered_end s) 0
accepted_record file n from s rest later done all held h = by (n.offers from) all held h
  where
    by : (l : List ℕ) → l ++ rest ≡ s ∷ later → AllByRecursion (λ t. IsHeldRecord (n.records (offered_end t) 0)) l → accept_offered (play_of file) n from (smallest l) ≡ Some done → HasRecord n (offered_end s) 0
    by [] all held k = cc
    by (t ∷ l) all held k =
        let same : t ≡ s = cc in
        subst (λ (i : ℕ). HasRecord n (offered_end i) 0) same (record { behind = held.0.0; state = Held held.0.1 }, held.0.2)

-- one request more: it is the new one, or an old one
pub last_or_old : (rs : List Request) (s : Request) (k : ℕ) (r : Request) → slice_get (rs ++ s ∷ []) k ≡ Some r → ((k ≡ length rs) × (s ≡ r)) ⊎ (slice_get rs k ≡ Some r)
last_or_old [] s zero r h = inl (refl, cc)
last_or_old [] s (suc k) r h = cc
last_or_old (x ∷ rs) s zero r h = inr h
last_or_old (x ∷ rs) s (suc k) r h = elim (last_or_old rs s k r h) [ inl e ↦ inl (ap suc e.0, e.1) | inr e ↦ inr e ]

-- ---- any event

module _ (file : FileAt) (w after : WorldAt Program) (p : ℕ) (event : Event) (happened : happens (play_of file) w p event ≡ Some after) where
  pub stays : (x : ℕ) (e : EndId) → HasRecord (w.nodes x) e 0 → HasRecord (after.nodes x) e 0
  stays x e has = run_stays (play_of file) e 0 x w after (record { party = p; event = event } ∷ []) (after, happened, refl) has

  -- where the plain world asks for and accepts no more
  pub still_have : (plain : World) → HaveRecords w plain → HaveRecords after plain
  still_have plain have = record {
    first = λ q k r at. stays q (requested_end (opened_number q k)) (have.first q k r at);
    second = λ q k y r at by_it. stays r.to (offered_end (opened_number q k)) (have.second q k y r at by_it);
  }
