-- A take, as the tables of its party do it, and what a session message brings.
use Rattle.std.proofs.Common.{◌≡◌, ℕ, suc, ◌+◌, ◌<◌, ◌≤◌, ◌==◌, Bool, if◌then◌else◌, List, [], ◌∷◌, ◌++◌, slice_get, Some, option_map, refl, ap, sym, ◌∙◌, subst, add-one, arith}
use Rattle.sj_base.specs.declared.EndId.{EndId}
use Rattle.sj_base.specs.declared.Msg.{Msg}
use Rattle.sj_base.specs.declared.Msg.TheVariants as msgs
use Rattle.sj_lang.specs.Place.{Place}
use Rattle.sj_semantics.specs.Program.{Program}
use Rattle.sj_rules.specs.Party.{nobody}
use Rattle.sj_rules.specs.Play.{Play}
use Rattle.sj_forward.specs.declared.forwarder.Forwarder.{Forwarder}
use Rattle.sj_forward.specs.declared.frame.Sent.{Sent}
use Rattle.sj_forward.specs.declared.records.Use.{Use}
use Rattle.sj_forward.specs.Forwarder.{CanClaim, CanPost, CanTake, Does, DoesSo, ForwarderStays, forwarder_at}
use Rattle.sj_forward.specs.Ends.{HasPlace, KeepsPlaces, TakesFrom, Writes, held_in}
use Rattle.sj_forward.specs.Outs.{lane_in, room_in}
use Rattle.sj_forward.specs.Views.{sent_at, sent_of, use_of}
use Rattle.sj_forward.proofs.ForwarderLemmas.{forwarder_recorded, forwarder_written, does_from, does_post, does_so}
use Rattle.sj_forward.proofs.SlotLemmas.{some_same}
use Rattle.sj_forward_rules.specs.Acts.{take_act, take_from, work_of_take}
use Rattle.sj_forward_rules.specs.Node.{HeldAt, NodeAt, held_of, with_record, with_use}
use Rattle.sj_forward_rules.specs.Record.{Claim, Held, RecordAt, SentAt}
use Rattle.sj_forward.proofs.ActLemmas.{Lanes, Table, used_is}

pub claim_place : (d : Forwarder) (m : Msg) (sess side keeper hop : ℕ) → m ≡ msgs.Sess sess side keeper → CanClaim d m hop → HasPlace d.ends.items (record { sess = sess; side = side }) (hop + 1)
claim_place d m sess side keeper hop is can =
    let own : CanClaim d (msgs.Sess sess side keeper) hop = subst (λ (x : Msg). CanClaim d x hop) is can in
    subst (λ (k : ℕ). HasPlace d.ends.items (record { sess = sess; side = side }) k) (sym (add-one hop)) own.1

pub can_claim : (d : Forwarder) (m : Msg) (sess side keeper hop : ℕ) → m ≡ msgs.Sess sess side keeper → 1 ≤ room_in d.outs.items keeper → HasPlace d.ends.items (record { sess = sess; side = side }) (hop + 1) → CanClaim d m hop
can_claim d m sess side keeper hop is room place =
    let post : CanPost d keeper = omega (arith, room) in
    subst (λ (x : Msg). CanClaim d x hop) (sym is)
    (post, subst (λ (k : ℕ). HasPlace d.ends.items (record { sess = sess; side = side }) k) (add-one hop) place)

-- other ends need no memory there
pub claim_kept : (d mid : Forwarder) (m : Msg) (hop : ℕ) → mid.outs ≡ d.outs → KeepsPlaces d.ends.items mid.ends.items → CanClaim d m hop → CanClaim mid m hop
claim_kept d mid (msgs.Sess sess side keeper) hop outs keeps can =
    (subst (λ (o : Lanes). 0 < room_in o.items keeper) (sym outs) can.0, keeps (record { sess = sess; side = side }) (suc hop) can.1)
claim_kept d mid (msgs.Int x) hop outs keeps can = tt
claim_kept d mid (msgs.Bool x) hop outs keeps can = tt
claim_kept d mid (msgs.Text x) hop outs keeps can = tt
claim_kept d mid (msgs.Label x) hop outs keeps can = tt
claim_kept d mid (msgs.More x) hop outs keeps can = tt

pub claims : (d : Forwarder) (ends : Table) (outs : Lanes) (m : Msg) (sess side keeper hop : ℕ) → m ≡ msgs.Sess sess side keeper
    → Writes d.ends.items (record { sess = sess; side = side }) (Some (hop + 1)) (hop + 1) (record { behind = keeper; state = Held [] }) ends.items
    → ((q : ℕ) → lane_in outs.items q ≡ (if q == keeper then lane_in d.outs.items q ++ Claim (record { sess = sess; side = side }) hop ∷ [] else lane_in d.outs.items q))
    → (g : Program) → Does d (work_of_take m hop (forwarder_at g d)) (record d { ends = ends; outs = outs })
claims d ends outs m sess side keeper hop is w lanes g =
    let y : EndId = record { sess = sess; side = side } in
    let r : RecordAt = record { behind = keeper; state = Held [] } in
    let wrote : Writes d.ends.items y (Some (suc hop)) (suc hop) r ends.items = subst (λ (k : ℕ). Writes d.ends.items y (Some k) k r ends.items) (add-one hop) w in
    subst (λ (x : Msg). Does d (work_of_take x hop (forwarder_at g d)) (record d { ends = ends; outs = outs })) (sym is)
    (does_post d (record d { ends = ends; outs = outs }) (with_use y (Some (suc hop)) (with_record y (suc hop) r (forwarder_at g d))) keeper (Claim y hop)
    (forwarder_written g (record d { outs = outs }) ends y (Some (suc hop)) (suc hop) r wrote) lanes)

pub claim_next : (d mid : Forwarder) (e : EndId) (h : HeldAt) (s : Sent) → CanTake d e → held_in d.ends.items e ≡ Some h → mid.outs ≡ d.outs → TakesFrom d.ends.items e h (sent_at s) mid.ends.items
    → KeepsPlaces d.ends.items mid.ends.items → CanClaim mid s.msg s.hop
claim_next d mid e h s can held outs takes keeps = claim_kept d mid s.msg s.hop outs keeps (can h (sent_at s) takes.rest held takes.untaken)

pub takes_so : (d : Forwarder) (ends : Table) (e : EndId) (h : HeldAt) (s : Sent) (new : Forwarder) → held_in d.ends.items e ≡ Some h → TakesFrom d.ends.items e h (sent_at s) ends.items
    → ((g : Program) → DoesSo (record d { ends = ends }) (Some (work_of_take s.msg s.hop (forwarder_at g (record d { ends = ends })))) new)
    → (play : Play Place Program) (g : Program) → DoesSo d (take_act play (forwarder_at g d) e (held_of (forwarder_at g d) e)) new
takes_so d ends e h s new held takes works play g =
    let n = forwarder_at g d in
    let k = play.goes g (Some s.msg) in
    let r : RecordAt = record { behind = h.behind; state = Held takes.rest } in
    let row : take_act play n e (held_of n e) ≡ Some (work_of_take s.msg s.hop (with_record e h.hop r (forwarder_at k d))) = ap (take_act play n e) held ∙ ap (take_from play n e h) takes.untaken in
    does_so d new (take_act play n e (held_of n e)) (work_of_take s.msg s.hop (with_record e h.hop r (forwarder_at k d))) row
    (subst (λ (x : NodeAt Program). Does d (work_of_take s.msg s.hop x) new) (forwarder_recorded k d ends e h.hop r takes.writes)
    (does_from d (record d { ends = ends }) new (Some (work_of_take s.msg s.hop (forwarder_at k (record d { ends = ends })))) (λ q. refl) (works k)))

-- the memory for what is taken next
pub can_take : (old new : Forwarder) (e : EndId) (u : Use) (s : Sent) → ForwarderStays old new → Some u ≡ option_map use_of (held_in old.ends.items e) → u.first ≡ Some s → CanClaim new s.msg s.hop → CanTake new e
can_take old new e u s rests told first can h m rest held untaken =
    let it = used_is (held_in old.ends.items e) u told in
    let still : held_in new.ends.items e ≡ held_in old.ends.items e = ap (λ (n : NodeAt Program). held_of n e) (rests.node nobody) in
    let same : it.0 ≡ h = some_same it.0 h (sym it.1 ∙ sym still ∙ held) in
    let one : Some s ≡ Some (sent_of m) =
    sym first ∙ ap (λ (x : Use). x.first) it.2 ∙ ap (λ (x : HeldAt). option_map sent_of (slice_get x.untaken 0)) same ∙ ap (λ (ms : List SentAt). option_map sent_of (slice_get ms 0)) untaken in
    subst (λ (x : Sent). CanClaim new x.msg x.hop) (some_same s (sent_of m) one) can
