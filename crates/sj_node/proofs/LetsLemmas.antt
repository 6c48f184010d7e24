-- Where the rules have an act, the places of the ends let it.
use Rattle.std.proofs.Common.{◌≡◌, ℕ, ◌+◌, Bool, true, false, not, if◌then◌else◌, List, [], ◌∷◌, Option, Some, None, option_map, refl, subst}
use Rattle.std.specs.Prelude.{is_some, nat_lt, slice_get}
use Rattle.sj_base.specs.declared.EndId.{EndId}
use Rattle.sj_base.specs.declared.Msg.{Msg}
use Rattle.sj_base.specs.declared.Msg.TheVariants as msgs
use Rattle.sj_lang.specs.Place.{Place}
use Rattle.sj_lang.specs.declared.proto.Way.TheVariants.{Into, Out}
use Rattle.sj_lang.specs.After.{after_place}
use Rattle.sj_lang.specs.ItemCount.{is_done}
use Rattle.sj_table.specs.declared.table.Spot.{Spot}
use Rattle.sj_table.specs.Spots.{place_in, start_in}
use Rattle.sj_semantics.specs.declared.Want.{Want}
use Rattle.sj_semantics.specs.declared.Want.TheVariants as wants
use Rattle.sj_semantics.specs.Program.{Program}
use Rattle.sj_rules.specs.Record.{MainAt, Held, Closed, Expected, Parked, is_same_end, offered_end}
use Rattle.sj_rules.specs.Opened.{smallest}
use Rattle.sj_rules.specs.Rows.{Worked}
use Rattle.sj_rules.specs.Mapped.{held_with, main_with}
use Rattle.sj_rules.specs.Node.{NodeAt, accept_offered, accept_session, act_by, close_act, delegate_act, put, send_act, take_act, take_from, with_main, with_old}
use Rattle.sj_node.specs.declared.node.Node.{Node}
use Rattle.sj_node.specs.Node.{act_of, has_room, main_of, node_at, offers_of, play_here, steps_of, wants_of}
use Rattle.sj_node.specs.Play.{awaited_place, want_with}
use Rattle.sj_node.specs.Taking.{held_head}
use Rattle.sj_node.specs.Unfit.{Agrees, is_held, is_offer_held, is_over, lets}

abbrev Left : Type 0
Left = Worked Place (NodeAt Place Program)

mapped_some : {X Y : Type 0} (g : X → Y) (o : Option X) (y : Y) → option_map g o ≡ Some y → is_some o ≡ true
mapped_some g None y h = cc
mapped_some g (Some x) y h = refl

passed_some : {X : Type 0} (a : Bool) (o : Option X) (x : X) → (if a then o else None) ≡ Some x → (a ≡ true) × (o ≡ Some x)
passed_some true o x h = (refl, h)
passed_some false o x h = cc

sent_lets : (n : Node) (m : NodeAt Place Program) (e : EndId) (msg : Msg) (r : Option (MainAt Place)) (w : Left) → send_act (play_here n) m e msg r ≡ Some w → lets Out msg r ≡ true
sent_lets n m e msg (Some (Held h)) w is = mapped_some _ (after_place h.end.place Out msg) w is
sent_lets n m e msg (Some (Closed c)) w is = cc
sent_lets n m e msg (Some (Expected keeper place deferred)) w is = cc
sent_lets n m e msg None w is = cc

-- an end is not sent on itself
apart : (same : Bool) (msg : Msg) (r : Option (MainAt Place)) → lets Out msg (if same then None else r) ≡ true → (same ≡ false) × (lets Out msg r ≡ true)
apart true msg r is = cc
apart false msg r is = (refl, is)

handed_lets : (n : Node) (e y : EndId) (r : Option (MainAt Place)) (w : Left) → delegate_act (play_here n) n.party (node_at n) e y r ≡ Some w
    → (is_same_end e y ≡ false) × (is_held r ≡ true) × (lets Out (msgs.Sess y.sess y.side n.party) ((node_at n).main e) ≡ true)
handed_lets n e y (Some (Held h)) w is =
    let mid : NodeAt Place Program = with_main y None (with_old y (Some (Parked (record h.end { hops = h.end.hops + 1 }))) (node_at n)) in
    let sent = sent_lets n mid e (msgs.Sess y.sess y.side n.party) (put y None (node_at n).main e) w (passed_some (nat_lt h.end.hops 100) _ w is).1 in
    let two = apart (is_same_end e y) (msgs.Sess y.sess y.side n.party) ((node_at n).main e) sent in
    (two.0, refl, two.1)
handed_lets n e y (Some (Closed c)) w is = cc
handed_lets n e y (Some (Expected keeper place deferred)) w is = cc
handed_lets n e y None w is = cc

taken_lets : (n : Node) (f : Spot → Place) (e : EndId) (place : Place) (r : Option (MainAt Spot)) (w : Left) → take_act (play_here n) (node_at n) e place (option_map (main_with f) r) ≡ Some w
    → (is_held (option_map (main_with f) r) ≡ true) × ((m : Msg) → held_head r ≡ Some m → lets Into m (option_map (main_with f) r) ≡ true)
taken_lets n f e place (Some (Held h)) w is = (refl, λ m head. go h.untaken m head is)
  where
    go : (ms : List Msg) (m : Msg) → slice_get ms 0 ≡ Some m → take_from (play_here n) (node_at n) e place (held_with f h) ms ≡ Some w → is_some (after_place (f h.end.place) Into m) ≡ true
    go [] m head is = cc
    go (x ∷ rest) m head is =
        let same : x ≡ m = cc in
        subst (λ (k : Msg). is_some (after_place (f h.end.place) Into k) ≡ true) same
        (mapped_some _ (after_place (f h.end.place) Into x) w (passed_some _ _ w is).1)
taken_lets n f e place (Some (Closed c)) w is = cc
taken_lets n f e place (Some (Expected keeper q deferred)) w is = cc
taken_lets n f e place None w is = cc

closed_lets : (n : Node) (e : EndId) (r : Option (MainAt Place)) (w : Left) → close_act (play_here n) (node_at n) e r ≡ Some w → is_over r ≡ true
closed_lets n e (Some (Held h)) w is = (passed_some (is_done h.end.place) _ w is).0
closed_lets n e (Some (Closed c)) w is = cc
closed_lets n e (Some (Expected keeper place deferred)) w is = cc
closed_lets n e None w is = cc

accepted_held : (n : Node) (place : Place) (from sess : ℕ) (r : Option (MainAt Place)) (w : Left) → accept_session (play_here n) (node_at n) place from sess r ≡ Some w → is_held r ≡ true
accepted_held n place from sess (Some (Held h)) w is = refl
accepted_held n place from sess (Some (Closed c)) w is = cc
accepted_held n place from sess (Some (Expected keeper q deferred)) w is = cc
accepted_held n place from sess None w is = cc

offered_held : (n : Node) (place : Place) (from : ℕ) (o : Option ℕ) (w : Left) → accept_offered (play_here n) (node_at n) place from o ≡ Some w → is_offer_held n o ≡ true
offered_held n place from None w is = cc
offered_held n place from (Some sess) w is = accepted_held n place from sess ((node_at n).main (offered_end sess)) w is

-- of each step
agrees_by : (n : Node) (want : Want) (w : Left) → act_by (play_here n) n.party (node_at n) (want_with (start_in n.table) want) ≡ Some w → Agrees n want
agrees_by n wants.Local w is = tt
agrees_by n (wants.Send e m) w is = sent_lets n (node_at n) e m ((node_at n).main e) w is
agrees_by n (wants.Delegate e y) w is = handed_lets n e y ((node_at n).main y) w is
agrees_by n (wants.Take e a) w is =
    let t = taken_lets n (place_in n.table) e (awaited_place (start_in n.table) a) (main_of n e) w is in
    (t.0, λ m head fit. t.1 m head)
agrees_by n (wants.Close e) w is = closed_lets n e ((node_at n).main e) w is
agrees_by n (wants.Request p to) w is = tt
agrees_by n (wants.Accept p from) w is = offered_held n (start_in n.table p) from (smallest (offers_of n from)) w is
agrees_by n wants.Ended w is = tt

unworn : {X : Type 0} (b : Bool) (o : Option X) (x : X) → (if b then None else o) ≡ Some x → o ≡ Some x
unworn true o x h = cc
unworn false o x h = h

pub act_agrees : (n : Node) (w : Left) → act_of n ≡ Some w → Agrees n (wants_of n)
act_agrees n w is =
    agrees_by n (wants_of n) w
    (unworn (not (nat_lt (steps_of n) 10000)) (act_by (play_here n) n.party (node_at n) (want_with (start_in n.table) (wants_of n))) w
    (passed_some (has_room (node_at n).main (wants_of n)) _ w is).1)
