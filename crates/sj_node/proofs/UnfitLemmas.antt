-- Where one of the causes applies the rules have no act.
use Rattle.std.proofs.Common.{◌≡◌, Bool, true, false, if◌then◌else◌, List, [], ◌∷◌, Option, Some, None, option_map, refl}
use Rattle.std.specs.Prelude.{nat_lt, not, slice_get, ◌&&◌}
use Rattle.sj_base.specs.declared.EndId.{EndId}
use Rattle.sj_base.specs.declared.Msg.{Msg}
use Rattle.sj_lang.specs.Place.{Place}
use Rattle.sj_table.specs.declared.table.Spot.{Spot}
use Rattle.sj_table.specs.Spots.{place_in, start_in}
use Rattle.sj_semantics.specs.declared.Want.{Want}
use Rattle.sj_semantics.specs.declared.Want.TheVariants as wants
use Rattle.sj_semantics.specs.Program.{Program}
use Rattle.sj_semantics.specs.Fitting.{fits}
use Rattle.sj_machine.specs.Sound.{program_at}
use Rattle.sj_rules.specs.Record.{MainAt, Held, Closed, Expected}
use Rattle.sj_rules.specs.Rows.{Worked}
use Rattle.sj_rules.specs.Mapped.{held_with, main_with}
use Rattle.sj_rules.specs.Node.{NodeAt, act_by, is_free, take_act, take_from}
use Rattle.sj_node.specs.declared.node.Node.{Node}
use Rattle.sj_node.specs.Node.{act_of, has_room, is_below_count, main_of, node_at, play_here, steps_of, wants_of}
use Rattle.sj_node.specs.Play.{awaited_place, names_known, want_with}
use Rattle.sj_node.specs.Taking.{held_head}
use Rattle.sj_node.specs.Unfit.{Misfit, full, misfit_at, misfit_by, misfit_of, misfit_on, taken, unknown, unwanted}

-- what the rules make of a step
abbrev pub step_of : Node → Want → Option (Worked Place (NodeAt Place Program))
step_of n w = if has_room (node_at n).main w then act_by (play_here n) n.party (node_at n) (want_with (start_in n.table) w) else None

less : {X : Type 0} (a b : Bool) (o : Option X) → (if a then o else None) ≡ None → (if a then (if b then None else o) else None) ≡ None
less true true o h = refl
less true false o h = h
less false b o h = refl

full_on : (b : Bool) (x : Misfit) → ◌≡◌ {A = Option Misfit} (if b then None else Some full) (Some x) → b ≡ false
full_on true x h = cc
full_on false x h = refl

full_at : (f : Spot → Place) (r : Option (MainAt Spot)) (x : Misfit) → misfit_on r ≡ Some x → is_below_count (option_map (main_with f) r) ≡ false
full_at f (Some (Held h)) x is = full_on (nat_lt h.end.sent 1000000) x is
full_at f (Some (Closed c)) x is = cc
full_at f (Some (Expected keeper place deferred)) x is = cc
full_at f None x is = cc

-- a message that can't be taken, for one of three causes
not_taken : {X : Type 0} (a b c : Bool) (x : Misfit) (o : Option X) → ◌≡◌ {A = Option Misfit} (if a then (if b then (if c then None else Some taken) else Some unknown) else Some unwanted) (Some x)
    → (if (a && b) && c then o else None) ≡ None
not_taken true true true x o h = cc
not_taken true true false x o h = refl
not_taken true false c x o h = refl
not_taken false b c x o h = refl

none_taken : (n : Node) (f : Spot → Place) (e : EndId) (place : Place) (r : Option (MainAt Spot)) (x : Misfit) → misfit_at n (held_head r) ≡ Some x → take_act (play_here n) (node_at n) e place (option_map (main_with f) r) ≡ None
none_taken n f e place None x is = cc
none_taken n f e place (Some (Closed c)) x is = cc
none_taken n f e place (Some (Expected keeper q deferred)) x is = cc
none_taken n f e place (Some (Held h)) x is = go h.untaken is
  where
    go : (ms : List Msg) → misfit_at n (slice_get ms 0) ≡ Some x → take_from (play_here n) (node_at n) e place (held_with f h) ms ≡ None
    go [] is = cc
    go (m ∷ rest) is = not_taken (fits (program_at n.machine) m) (names_known n.connects n.parties m) (is_free (node_at n) m) x _ is

no_step : (n : Node) (w : Want) (x : Misfit) → misfit_by n w ≡ Some x → step_of n w ≡ None
no_step n wants.Local x is = cc
no_step n (wants.Send e m) x is = rw (full_at (place_in n.table) (main_of n e) x is) refl
no_step n (wants.Delegate e y) x is = rw (full_at (place_in n.table) (main_of n e) x is) refl
no_step n (wants.Take e a) x is = none_taken n (place_in n.table) e (awaited_place (start_in n.table) a) (main_of n e) x is
no_step n (wants.Close e) x is = cc
no_step n (wants.Request p to) x is = cc
no_step n (wants.Accept p from) x is = cc
no_step n wants.Ended x is = cc

-- where a cause applies there is no act
pub no_act : (n : Node) (x : Misfit) → misfit_of n ≡ Some x → act_of n ≡ None
no_act n x is =
    less (has_room (node_at n).main (wants_of n)) (not (nat_lt (steps_of n) 10000)) (act_by (play_here n) n.party (node_at n) (want_with (start_in n.table) (wants_of n))) (no_step n (wants_of n) x is)
