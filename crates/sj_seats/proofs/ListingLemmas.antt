-- Worlds with seats where what happened is listed, and nothing else changes.
use Rattle.std.proofs.Common.{◌≡◌, ℕ, ◌<◌, ◌==◌, not, false, List, [], ◌∷◌, ◌++◌, length, Option, Some, None, eqb-true, ap, sym, ◌∙◌, subst, arith}
use Rattle.std.specs.Prelude.{IfNone, IfSome}
use Rattle.std.proofs.lemmas.Bool.{not-false}
use Rattle.std.proofs.lemmas.List.{length-append, length-map}
use Rattle.sj_core.specs.Nodes.{AreSeated}
use Rattle.sj_core.specs.Views.{line_at}
use Rattle.sj_lang.specs.FileAt.{FileAt}
use Rattle.sj_rules.specs.Log.{LineAt}
use Rattle.sj_seat.specs.Places.{CarriesPlaces}
use Rattle.sj_table.specs.declared.table.Table.{Table}
use Rattle.sj_seats.specs.Core.{AreOver, core_by, is_seat}
use Rattle.sj_seats.specs.Draining.{AreIdle, Goes, HasNoLane, IsQuiet}
use Rattle.sj_seats.specs.Played.{HasParties, IsIdle, IsLedBy, IsReached, IsStill, Redoes, Rests, chairs_in, file_in, history_in, nodes_in, opened_in}
use Rattle.sj_seats.specs.declared.played.Chair.{Chair}
use Rattle.sj_seats.specs.declared.played.PlayedWorld.{PlayedWorld}
use Rattle.sj_seats.proofs.GoingLemmas.{led_on, led_still}
use Rattle.sj_seats.proofs.DrainLemmas.{all_idle, empty_still, goes_then, reached_still, rests_later}

-- all but the list is the same
pub record Relists (c d : PlayedWorld) : Type 0 where
  pub file : file_in d ≡ file_in c
  pub table : d.table ≡ c.table
  pub nodes : nodes_in d ≡ nodes_in c
  pub chairs : chairs_in d ≡ chairs_in c
  pub opened : opened_in d ≡ opened_in c

pub rests_listed : (c d : PlayedWorld) → HasParties c → Relists c d → Rests c d
rests_listed c d parties same = record {
  world = λ rest i. core_by (same.file i) (same.table i) (same.nodes i) (same.chairs i) rest;
  parties = record {
    seats = subst (λ (x : FileAt). AreSeated x (nodes_in d)) (sym same.file) (subst (AreSeated (file_in c)) (sym same.nodes) parties.seats);
    over = subst (λ (x : Table). AreOver x (nodes_in d)) (sym same.table) (subst (AreOver c.table) (sym same.nodes) parties.over);
    carries = subst CarriesPlaces (sym same.table) parties.carries;
    count = ap length same.chairs ∙ parties.count ∙ sym (ap length same.nodes);
  };
  keeps = record { file = same.file; table = same.table; opened = same.opened; seats = λ q. ap (λ (cs : List (Option Chair)). is_seat cs q) same.chairs; count = ap length same.nodes };
}

-- the list is the same, too, as far as contracts see
pub reached_listed : (c d : PlayedWorld) → IsReached c → Relists c d → history_in d ≡ history_in c → IsReached d
reached_listed c d reached same listed = reached_still c d reached (rests_listed c d reached.parties same) listed

-- what an answer with an entry, or with none, says
pub some_is : {T : Type 0} (o : Option T) (x : T) (P : T → Type 0) → o ≡ Some x → IfSome o P → P x
some_is {T} o x P is h = subst (λ (y : Option T). IfSome y P) is h

pub none_is : {T : Type 0} (o : Option T) (P : Type 0) → o ≡ None → IfNone o P → P
none_is {T} o P is h = subst (λ (y : Option T). IfNone y P) is h

pub one_longer : (before after : List LineAt) (l : LineAt) → after ≡ before ++ l ∷ [] → length before < length after
one_longer before after l is = let e = ap length is in omega (arith, e, length-append before (l ∷ []))

-- an event that is tried after room was made in the list
module _ (c mid : PlayedWorld) (reached : IsReached c) (same : Relists c mid) (listed : history_in mid ≡ history_in c) where
  -- it is listed
  pub done_listed : (d e : PlayedWorld) (l : LineAt) → Redoes mid l d → Relists d e → history_in e ≡ history_in c ++ l ∷ [] → IsReached e
  done_listed d e l redone alike more =
      subst (IsLedBy e) (ap (λ (ls : List LineAt). ls ++ l ∷ []) listed ∙ sym more)
      (led_still d e (history_in mid ++ l ∷ []) (led_on mid d (history_in mid) l (reached_listed c mid reached same listed) redone) (rests_listed d e redone.parties alike))

  -- there was none
  pub rests_after : (d : PlayedWorld) → Rests mid d → Rests c d
  rests_after d rests = rests_later c mid d (rests_listed c mid reached.parties same) rests

  pub none_listed : (d : PlayedWorld) → Rests mid d → history_in d ≡ history_in c → IsReached d
  none_listed d rests history = reached_still c d reached (rests_after d rests) history

-- all frames are taken, and then the party acts until it can't
pub goes_turn : (a b c : PlayedWorld) (p : ℕ) → Goes a b (HasNoLane b (length (nodes_in b)) p) → Goes b c (IsStill c p) → Goes a c (IsIdle c (length (nodes_in c)) p)
goes_turn a b c p x y =
    goes_then a b c _ _ _ x y
    (λ rests none still. record {
      empty = λ from lt. let as_many = rests.keeps.count in empty_still b c from p rests (none from (omega (arith, lt, as_many)));
      still = still;
    })

-- nothing happened in a round
pub goes_quiet : (c d : PlayedWorld) (m n : ℕ) → m ≡ length d.history.items → n ≡ length c.history.items → not (m == n) ≡ false → Goes c d (AreIdle d (length (nodes_in d))) → IsQuiet d
goes_quiet c d m n after before none goes =
    let same : m ≡ n = eqb-true m n (not-false (m == n) none) in
    all_idle d (goes.still (length-map d.history.items line_at ∙ sym after ∙ same ∙ before ∙ sym (length-map c.history.items line_at))).1
