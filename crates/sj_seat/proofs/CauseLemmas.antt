-- Why a node refused a call, as the rules say, of the node after it.
use Rattle.std.proofs.Common.{◌≡◌, ◌∙◌, Bool, true, false, if◌then◌else◌, Option, Some, None, Result, Ok, Err, OnErr, refl, ap, sym, inl, inr}
use Rattle.std.specs.Prelude.{IsErrOf, option_map}
use Rattle.sj_base.specs.declared.EndId.{EndId}
use Rattle.sj_base.specs.declared.Msg.{Msg}
use Rattle.sj_lang.specs.Place.{Place}
use Rattle.sj_node.specs.Calls.{call_of, has_place_for, silent}
use Rattle.sj_node.specs.Node.{Stays, connect_count, next_head}
use Rattle.sj_node.specs.Play.{names_known}
use Rattle.sj_node.specs.Reading.{parties_of}
use Rattle.sj_node.specs.Seats.{IsHead, call_stop, halt_named, is_known_head, takes_known, want_at}
use Rattle.sj_node.specs.declared.node.Node.{Node}
use Rattle.sj_node.specs.declared.refusal.Halt.{Halt}
use Rattle.sj_node.specs.declared.seats.Call.{Call}
use Rattle.sj_node.specs.declared.seats.Call.TheVariants as seats
use Rattle.sj_node.proofs.SeatLemmas.{call_halts, head_there}
use Rattle.sj_rules.specs.Halts.{halt_by}
use Rattle.sj_rules.specs.Node.{Want, act_by}
use Rattle.sj_seat_laws.specs.Calls.{takes}
use Rattle.sj_rules.specs.Node as wanted
use Rattle.sj_seat.specs.Asked.{asked, want_in}
use Rattle.sj_table.specs.declared.table.Table.{Table}
use Rattle.sj_table.specs.Spots.{place_in}
use Rattle.sj_seat.specs.Went.{HasNoRow, NamesNothing, held_up}

-- what is said of an Err
pub err_stays : {T P : Type 0} (r : Result T Halt) (h : Halt) → IsErrOf r h → OnErr r P → P
err_stays (Ok x) h is p = absurd (cc is)
err_stays (Err e) h is p = p

module _ (a b : Node) (stays : Stays a b) where
  -- what holds a step up, and that it has no row, are the same at the node that stays
  pub still_held : (want : Want Place) (h : Halt) → held_up a want ≡ Some h → held_up b want ≡ Some h
  still_held want h is = ap (λ n. option_map halt_named (halt_by n want)) stays.node ∙ is

  pub still_none : (want : Want Place) → call_of a want ≡ None → call_of b want ≡ None
  still_none want none = (λ i. if has_place_for (stays.node i).main want then act_by (silent (stays.parties i)) (stays.party i) (stays.node i) want else None) ∙ none

module _ (a b : Node) (call : Call) (stays : Stays a b) where
  pub held_up_so : (h : Halt) → call_stop a call ≡ Some h → held_up b (want_at a call) ≡ Some h
  held_up_so h is = still_held a b stays (want_at a call) h (sym (call_halts a call) ∙ is)

  head_so : (e : EndId) (m : Msg) → IsHead a e m → IsHead b e m
  head_so e m h = record { held = h.held; rest = h.rest; there = ap (λ n. n.main e) stays.node ∙ h.there; first = h.first }

  known_so : (m : Msg) → names_known (connect_count a) (parties_of a) m ≡ false → names_known (connect_count b) (parties_of b) m ≡ false
  known_so m h = (λ i. names_known (stays.connects i) (stays.parties i) m) ∙ h

  pub no_row_so : (takes_known a call ≡ true → call_of a (want_at a call) ≡ None) → HasNoRow b (want_at a call) (asked call)
  no_row_so none = by (takes_known a call) refl
    where
      from_head : (e : EndId) (o : Option Msg) → next_head a e ≡ o → is_known_head a o ≡ false → NamesNothing b (takes e)
      from_head e None is unknown = absurd (cc unknown)
      from_head e (Some m) is unknown = record { end = e; msg = m; is = refl; next = head_so e m (head_there a e m is); unknown = known_so m unknown }

      from_call : (c : Call) → takes_known a c ≡ false → NamesNothing b (asked c)
      from_call (seats.Send e m) h = absurd (cc h)
      from_call (seats.Delegate c e) h = absurd (cc h)
      from_call (seats.Close e) h = absurd (cc h)
      from_call (seats.Take e spot) h = from_head e (next_head a e) refl h

      by : (t : Bool) → takes_known a call ≡ t → HasNoRow b (want_at a call) (asked call)
      by true t = inl (still_none a b stays (want_at a call) (none t))
      by false t = inr (from_call call t)

-- the step of a call is that at the node, which has the table
pub same_want : (n : Node) (t : Table) (call : Call) → t ≡ n.table → want_in t call ≡ want_at n call
same_want n t (seats.Send e m) is = refl
same_want n t (seats.Delegate c e) is = refl
same_want n t (seats.Take e spot) is = ap (λ u. wanted.takes e (place_in u spot)) is
same_want n t (seats.Close e) is = refl
