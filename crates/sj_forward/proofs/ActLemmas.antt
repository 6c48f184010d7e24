-- A party's sends, closes, requests and accepts, as its tables do them.
use Rattle.std.proofs.Common.{◌≡◌, ℕ, ◌+◌, ◌<◌, ◌==◌, ltb, Bool, true, if◌then◌else◌, [], ◌∷◌, ◌++◌, Option, Some, None, option_map, refl, ap, sym, ◌∙◌, subst, arith}
use Rattle.std.specs.Prelude.{Vec}
use Rattle.std.proofs.lemmas.Bool.Decides.{nat_tests}
use Rattle.std.specs.declared.alloc.Global.{Global}
use Rattle.std.specs.declared.collections.VecDeque.{VecDeque}
use Rattle.sj_base.specs.declared.EndId.{EndId}
use Rattle.sj_lang.specs.Place.{Place}
use Rattle.sj_semantics.specs.Program.{Program}
use Rattle.sj_rules.specs.Opened.{opened_number, smallest, without}
use Rattle.sj_rules.specs.Play.{Play}
use Rattle.sj_rules.specs.Record.{offered_end, requested_end}
use Rattle.sj_forward.specs.declared.forwarder.Forwarder.{Forwarder}
use Rattle.sj_forward.specs.declared.frame.ForwardFrame.{ForwardFrame}
use Rattle.sj_forward.specs.declared.slot.Slot.{Slot}
use Rattle.sj_forward.specs.declared.records.Use.{Use}
use Rattle.sj_forward.specs.Forwarder.{CanPost, CanSend, DoesSo, forwarder_at}
use Rattle.sj_forward.specs.Ends.{Writes, held_in}
use Rattle.sj_offers.specs.Offers.{offering, offers_in}
use Rattle.sj_forward.specs.Outs.{lane_in}
use Rattle.sj_forward.specs.Views.{use_of}
use Rattle.sj_forward.proofs.ForwarderLemmas.{forwarder_written, does_post, does_quietly, does_so}
use Rattle.sj_forward.proofs.SlotLemmas.{some_same}
use Rattle.sj_forward_rules.specs.Acts.{accept_act, accept_offered, close_act, open_session, request_act}
use Rattle.sj_forward_rules.specs.Node.{HeldAt, NodeAt, held_of, quietly, with_offers, with_record, with_use}
use Rattle.sj_forward_rules.specs.Record.{Held, Open, Closed}

abbrev pub Table : Type 0
Table = Vec (Vec Slot Global) Global

abbrev pub Lanes : Type 0
Lanes = Vec (VecDeque ForwardFrame Global) Global

-- what is reported of a Held end is reported of that one
pub used_is : (o : Option HeldAt) (u : Use) → Some u ≡ option_map use_of o → (h : HeldAt) × (o ≡ Some h) × (u ≡ use_of h)
used_is None u is = absurd (cc is)
used_is (Some h) u is = (h, refl, some_same u (use_of h) is)

-- ---- a send

pub room_sent : (d : Forwarder) (e : EndId) (u : Use) → CanSend d e → Some u ≡ option_map use_of (held_in d.ends.items e) → CanPost d u.behind
room_sent d e u room is =
    let it = used_is (held_in d.ends.items e) u is in
    subst (λ (p : ℕ). CanPost d p) (ap (λ (x : Use). x.behind) (sym it.2)) (room it.0 it.1)

-- ---- a close

pub closes : (d : Forwarder) (ends : Table) (e : EndId) (h : HeldAt) → held_in d.ends.items e ≡ Some h → Writes d.ends.items e None h.hop (record { behind = h.behind; state = Closed }) ends.items
    → (g : Program) → DoesSo d (close_act (forwarder_at g d) e (held_of (forwarder_at g d) e)) (record d { ends = ends })
closes d ends e h held w g =
    let node = with_use e None (with_record e h.hop (record { behind = h.behind; state = Closed }) (forwarder_at g d)) in
    does_so d (record d { ends = ends }) (close_act (forwarder_at g d) e (held_of (forwarder_at g d) e)) (quietly node) (ap (close_act (forwarder_at g d) e) held)
    (does_quietly d (record d { ends = ends }) node (forwarder_written g d ends e None h.hop (record { behind = h.behind; state = Closed }) w) (λ q. refl))

-- ---- a request

few_more : (n : ℕ) → n < 100 → ltb n 100 ≡ true
few_more n lt = grind (arith, nat_tests)

pub requests_so : (d : Forwarder) (ends : Table) (outs : Lanes) (party to sess : ℕ) → d.requests < 100 → sess ≡ opened_number party d.requests
    → Writes d.ends.items (requested_end sess) (Some 0) 0 (record { behind = to; state = Held [] }) ends.items
    → ((q : ℕ) → lane_in outs.items q ≡ (if q == to then lane_in d.outs.items q ++ Open sess ∷ [] else lane_in d.outs.items q))
    → (play : Play Place Program) (g : Program) → DoesSo d (request_act play party (forwarder_at g d) to) (record d { requests = d.requests + 1; ends = ends; outs = outs })
requests_so d ends outs party to sess few is w lanes play g =
    let n = forwarder_at g d in
    let new : Forwarder = record d { requests = d.requests + 1; ends = ends; outs = outs } in
    let y = requested_end sess in
    let node : NodeAt Program = with_use y (Some 0) (with_record y 0 (record { behind = to; state = Held [] }) (record n { program = play.opened g y; requests = d.requests + 1 })) in
    let row : request_act play party n to ≡ Some (record { node = node; posts = record { party = to; frame = Open sess } ∷ [] }) =
    ap (λ (b : Bool). if b then Some (open_session play n to (opened_number party d.requests)) else None) (few_more d.requests few)
    ∙ ap (λ (s : ℕ). Some (open_session play n to s)) (sym is) in
    does_so d new (request_act play party n to) (record { node = node; posts = record { party = to; frame = Open sess } ∷ [] }) row
    (does_post d new node to (Open sess)
    (λ i. record { program = play.opened g y; requests = d.requests + 1; offers = n.offers; uses = w.uses i; records = w.records i }) lanes)

-- ---- an accept

pub accepts_so : (d : Forwarder) (offers : Vec (Vec ℕ Global) Global) (from sess : ℕ) → smallest (offers_in d.offers.items from) ≡ Some sess
    → offers_in offers.items ≡ offering from (without sess (offers_in d.offers.items from)) (offers_in d.offers.items)
    → (play : Play Place Program) (g : Program) → DoesSo d (accept_act play (forwarder_at g d) from) (record d { offers = offers })
accepts_so d offers from sess least left play g =
    let n = forwarder_at g d in
    let new : Forwarder = record d { offers = offers } in
    let node : NodeAt Program = with_offers from (without sess (n.offers from)) (record n { program = play.opened g (offered_end sess) }) in
    does_so d new (accept_act play n from) (quietly node) (ap (accept_offered play n from) least)
    (does_quietly d new node (λ i. record { program = play.opened g (offered_end sess); requests = n.requests; offers = left i; uses = n.uses; records = n.records }) (λ q. refl))
