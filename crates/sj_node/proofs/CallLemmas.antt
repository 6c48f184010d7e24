-- What a call of a node is, from what its row does to records.
use Rattle.std.proofs.Common.{◌≡◌, ℕ, [], ◌∷◌, Option, Some, None, option_map, refl, ap, sym, ◌∙◌}
use Rattle.std.specs.Prelude.{true, false, is_none, if◌then◌else◌, ◌+◌, ◌<◌}
use Rattle.sj_base.specs.declared.Msg.TheVariants as msgs
use Rattle.sj_node.specs.Parking.{held_of}
use Rattle.sj_node.specs.Taking.{Takes}
use Rattle.sj_semantics.specs.Fitting.{is_session}
use Rattle.sj_semantics.specs.Program.{Program}
use Rattle.sj_rules.specs.Rows.{Worked}
use Rattle.sj_node.proofs.DelegateLemmas.{delegate_row, held_there, put-other, put-put}
use Rattle.sj_base.specs.declared.EndId.{EndId}
use Rattle.sj_base.specs.declared.Msg.{Msg}
use Rattle.sj_lang.specs.Place.{Place}
use Rattle.sj_machine.specs.Sound.{program_at}
use Rattle.sj_node.specs.Calls.{call_of, silent}
use Rattle.sj_node.specs.Node.{is_below_count, main_of, node_at}
use Rattle.sj_node.specs.Sending.{Closes, Sends}
use Rattle.sj_node.specs.Slots.{mains_in, olds_in}
use Rattle.sj_node.specs.declared.node.Node.{Node}
use Rattle.sj_node.proofs.ActLemmas.{close_row, closed_with, left_as, room_is, send_row, take_row, value_brought, value_free}
use Rattle.sj_rules.proofs.NodeMapLemmas.{none-with, put-each}
use Rattle.sj_rules.specs.Mapped.{each_with, end_with, held_with, mail_with, main_with, old_with}
use Rattle.sj_rules.specs.Node as rules
use Rattle.sj_rules.specs.Node.{NodeAt, delegate_act, held_behind_send, held_behind_take, put, send_act, with_main, with_old, work_of_take}
use Rattle.sj_rules.specs.Record.{Claim, Closed, Expected, Held, HeldAt, Mail, MainAt, Parked, is_same_end}
use Rattle.sj_table.specs.declared.table.Spot.{Spot}
use Rattle.sj_table.specs.Spots.{place_in}

-- a message is sent on an end
pub call_sends : (n : Node) (e : EndId) (msg : Msg) (main : EndId → Option (MainAt Spot)) (post : Mail Spot) → Sends n.table e msg (mains_in n.mains.items) main post
    → call_of n (rules.sends e msg) ≡ Some (left_as n (program_at n.machine) main (olds_in n.olds.items) (post ∷ []))
call_sends n e msg main post sends =
    let f = place_in n.table in
    let was : HeldAt Spot = sends.from.was in
    let there : (node_at n).main e ≡ Some (Held (held_with f was)) = ap (option_map (main_with f)) sends.from.there in
    let room : is_below_count ((node_at n).main e) ≡ true = ap is_below_count there ∙ room_is was.end.sent sends.from.sends.room in
    let h : HeldAt Spot = held_behind_send was msg sends.from.sends.next in
    let table : put e (Some (Held (held_with f h))) (node_at n).main ≡ each_with (main_with f) main =
    put-each (main_with f) e (Some (Held h)) (mains_in n.mains.items)
    ∙ (λ i. each_with (main_with f) (put e (sym (sends.from.left ∙ ap (λ x. Some (Held x)) sends.from.sends.left) i) (mains_in n.mains.items)))
    ∙ ap (each_with (main_with f)) (sym sends.puts) in
    (λ i. if room i then send_act (silent n.parties) (node_at n) e msg ((node_at n).main e) else None)
    ∙ send_row (silent n.parties) (node_at n) e msg (held_with f was) (f sends.from.sends.next) there sends.from.sends.after
    ∙ (λ i. Some (record {
      state = record (node_at n) { main = table i };
      posts = mail_with f (sym sends.from.sends.post i) ∷ [];
    }))

-- an end is closed
pub call_closes : (n : Node) (e : EndId) (main : EndId → Option (MainAt Spot)) (post : Mail Spot) → Closes n.table e (mains_in n.mains.items) main post
    → call_of n (rules.closes e) ≡ Some (left_as n (program_at n.machine) main (olds_in n.olds.items) (post ∷ []))
call_closes n e main post closes =
    let f = place_in n.table in
    let was : HeldAt Spot = closes.from.was in
    let there : (node_at n).main e ≡ Some (Held (held_with f was)) = ap (option_map (main_with f)) closes.from.there in
    let table : put e (if was.fin then None else Some (Closed (end_with f was.end))) (node_at n).main ≡ each_with (main_with f) main =
    (λ i. put e (closed_with f was.fin was i) (node_at n).main)
    ∙ put-each (main_with f) e (if was.fin then None else Some (Closed was.end)) (mains_in n.mains.items)
    ∙ (λ i. each_with (main_with f) (put e (sym closes.from.left i) (mains_in n.mains.items)))
    ∙ ap (each_with (main_with f)) (sym closes.puts) in
    close_row (silent n.parties) (node_at n) e (held_with f was) there closes.from.over
    ∙ (λ i. Some (record {
      state = record (node_at n) { main = table i };
      posts = mail_with f (sym closes.from.post i) ∷ [];
    }))

-- ---- a message is taken

module _ (n : Node) (e : EndId) (place : Place) (msg : Msg) (main : EndId → Option (MainAt Spot)) (takes : Takes n.table e msg (mains_in n.mains.items) main) where
  taken : Option (Worked Place (NodeAt Place Program))
  taken = Some (work_of_take place msg (record (node_at n) { main = each_with (main_with (place_in n.table)) main }))

  take_made : rules.is_free (node_at n) msg ≡ true → call_of n (rules.takes e place) ≡ taken
  unfolding taken
  take_made vacant =
      let f = place_in n.table in
      let was : HeldAt Spot = takes.from.was in
      let there : (node_at n).main e ≡ Some (Held (held_with f was)) = ap (option_map (main_with f)) takes.from.there in
      let h : HeldAt Spot = held_behind_take was takes.from.takes.rest takes.from.takes.next in
      let table : put e (Some (Held (held_with f h))) (node_at n).main ≡ each_with (main_with f) main =
      put-each (main_with f) e (Some (Held h)) (mains_in n.mains.items)
      ∙ (λ i. each_with (main_with f) (put e (sym (takes.from.left ∙ ap (λ x. Some (Held x)) takes.from.takes.left) i) (mains_in n.mains.items)))
      ∙ ap (each_with (main_with f)) (sym takes.puts) in
      take_row (silent n.parties) (node_at n) e place msg takes.from.takes.rest (held_with f was) (f takes.from.takes.next) there takes.from.takes.there refl vacant takes.from.takes.after
      ∙ (λ i. Some (work_of_take place msg (record (node_at n) { main = table i })))

  pub call_takes : is_session msg ≡ false → call_of n (rules.takes e place) ≡ Some (left_as n (program_at n.machine) main (olds_in n.olds.items) [])
  unfolding taken
  call_takes value = take_made (value_free (node_at n) msg value) ∙ ap (λ w. Some w) (value_brought _ place msg value)

-- a session message is taken
pub call_takes_end : (n : Node) (e y : EndId) (keeper : ℕ) (spot : Spot) (main : EndId → Option (MainAt Spot)) → Takes n.table e (msgs.Sess y.sess y.side keeper) (mains_in n.mains.items) main
    → is_none (mains_in n.mains.items y) ≡ true
    → call_of n (rules.takes e (place_in n.table spot)) ≡ Some (left_as n (program_at n.machine) (put y (Some (Expected keeper spot [])) main) (olds_in n.olds.items) (record { party = keeper; body = Claim y } ∷ []))
unfolding taken
call_takes_end n e y keeper spot main takes vacant =
    let f = place_in n.table in
    take_made n e (f spot) (msgs.Sess y.sess y.side keeper) main takes (none-with (main_with f) (mains_in n.mains.items y) ∙ vacant)
    ∙ (λ i. Some (record {
      state = record (node_at n) { main = put-each (main_with f) y (Some (Expected keeper spot [])) main i };
      posts = record { party = keeper; body = Claim y } ∷ [];
    }))

-- ---- an end is delegated

pub call_delegates : (n : Node) (e y : EndId) (h : HeldAt Spot) (main : EndId → Option (MainAt Spot)) (post : Mail Spot) → is_same_end e y ≡ false → held_of (main_of n y) ≡ Some h → h.end.hops < 100
    → Sends n.table e (msgs.Sess y.sess y.side n.party) (mains_in n.mains.items) main post
    → call_of n (rules.delegates e y) ≡ Some (left_as n (program_at n.machine) (put y None main) (put y (Some (Parked (record h.end { hops = h.end.hops + 1 }))) (olds_in n.olds.items)) (post ∷ []))
call_delegates n e y h main post other held hops sends =
    let f = place_in n.table in
    let msg = msgs.Sess y.sess y.side n.party in
    let was : HeldAt Spot = sends.from.was in
    let parked = record h.end { hops = h.end.hops + 1 } in
    let there : (node_at n).main e ≡ Some (Held (held_with f was)) = ap (option_map (main_with f)) sends.from.there in
    let gone : (node_at n).main y ≡ Some (Held (held_with f h)) = ap (option_map (main_with f)) (held_there (main_of n y) h held) in
    let room : is_below_count ((node_at n).main e) ≡ true = ap is_below_count there ∙ room_is was.end.sent sends.from.sends.room in
    let sent : HeldAt Spot = held_behind_send was msg sends.from.sends.next in
    let mid : NodeAt Place Program = with_main y None (with_old y (Some (Parked (end_with f parked))) (node_at n)) in
    let table : put e (Some (Held (held_with f sent))) mid.main ≡ each_with (main_with f) (put y None main) =
    sym (put-put e y None (Some (Held (held_with f sent))) (node_at n).main other)
    ∙ ap (put y None) (put-each (main_with f) e (Some (Held sent)) (mains_in n.mains.items)
    ∙ (λ i. each_with (main_with f) (put e (sym (sends.from.left ∙ ap (λ x. Some (Held x)) sends.from.sends.left) i) (mains_in n.mains.items)))
    ∙ ap (each_with (main_with f)) (sym sends.puts))
    ∙ put-each (main_with f) y None main in
    let olds : put y (Some (Parked (end_with f parked))) (node_at n).old ≡ each_with (old_with f) (put y (Some (Parked parked)) (olds_in n.olds.items)) =
    put-each (old_with f) y (Some (Parked parked)) (olds_in n.olds.items) in
    (λ i. if room i then delegate_act (silent n.parties) n.party (node_at n) e y ((node_at n).main y) else None)
    ∙ delegate_row (silent n.parties) n.party (node_at n) e y (held_with f h) gone hops other
    ∙ send_row (silent n.parties) mid e msg (held_with f was) (f sends.from.sends.next) (put-other e y None (node_at n).main other ∙ there) sends.from.sends.after
    ∙ (λ i. Some (record {
      state = record (node_at n) { main = table i; old = olds i };
      posts = mail_with f (sym sends.from.sends.post i) ∷ [];
    }))
