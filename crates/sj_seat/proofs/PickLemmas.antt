-- A take of a message that is there: what keeps the node from it, and on which end it is.
use Rattle.std.proofs.Common.{◌≡◌, ◌∙◌, ℕ, Bool, true, false, if◌then◌else◌, List, [], ◌∷◌, Option, Some, None, option_map, refl, ap, sym, inl, inr}
use Rattle.std.specs.Prelude.{is_some, slice_get}
use Rattle.sj_base.specs.declared.EndId.{EndId}
use Rattle.sj_base.specs.declared.Msg.{Msg}
use Rattle.sj_lang.specs.Place.{Place}
use Rattle.sj_node.specs.Node.{Stays, main_of, next_head, node_at}
use Rattle.sj_node.specs.Seats.{IsHead, halt_named}
use Rattle.sj_node.specs.Taking.{held_head}
use Rattle.sj_node.specs.declared.node.Node.{Node}
use Rattle.sj_node.specs.declared.refusal.Halt.TheVariants as halts
use Rattle.sj_node.proofs.SeatLemmas.{head_there}
use Rattle.sj_rules.specs.Halts.{awaits, halt_if, is_empty, is_expected, lacks_message, no_message}
use Rattle.sj_rules.specs.Mapped.{main_with}
use Rattle.sj_rules.specs.Node as wanted
use Rattle.sj_rules.specs.Record.{Closed, Expected, Held, MainAt}
use Rattle.sj_seat_laws.specs.Calls.{Ends, takes}
use Rattle.sj_seat_laws.specs.Guards.{carried_next, may_take, want_of_call, want_of_take, where_allowed}
use Rattle.sj_table.specs.declared.table.Spot.{Spot}
use Rattle.sj_table.specs.Spots.{place_in}
use Rattle.sj_seat.specs.Ready.{IsCutShort, first_rule_of, first_there, rule_or}
use Rattle.sj_seat.specs.Rules.{first_refusal, take_tests}
use Rattle.sj_seat.specs.Views.{ends_of, may_of, node_of}
use Rattle.sj_seat.specs.Went.{IsHeldUp, held_up}
use Rattle.sj_seat.specs.declared.guest.Guest.{Guest}
use Rattle.sj_seat.specs.declared.refusal.SeatRefusal.{SeatRefusal}
use Rattle.sj_seat.specs.declared.refusal.SeatRefusal.TheVariants as refusals

-- ---- the first of several ends

pub there_if : (n : Node) (es : List EndId) (e : EndId) → first_there n es ≡ Some e → is_some (next_head n e) ≡ true
there_if n [] e h = absurd (cc h)
there_if n (x ∷ xs) e h = by (is_some (next_head n x)) refl h (λ k. there_if n xs e k)
  where
    by : (b : Bool) → is_some (next_head n x) ≡ b → (if b then Some x else first_there n xs) ≡ Some e → (first_there n xs ≡ Some e → is_some (next_head n e) ≡ true) → is_some (next_head n e) ≡ true
    by true is so later = let same : x ≡ e = cc so in ap (λ y. is_some (next_head n y)) (sym same) ∙ is
    by false is so later = later so

none_or : (o r : Option SeatRefusal) → rule_or o r ≡ None → (o ≡ None) × (r ≡ None)
none_or None r h = (refl, h)
none_or (Some x) r h = absurd (cc h)

-- where no rule applies to any, none applies to that one
pub allowed_there : (n : Node) (calls : ℕ) (bs : Ends) (es : List EndId) (e : EndId) → first_rule_of calls bs es ≡ None → first_there n es ≡ Some e → first_refusal (take_tests calls bs e) ≡ None
allowed_there n calls bs [] e none h = absurd (cc h)
allowed_there n calls bs (x ∷ xs) e none h =
    let both : (first_refusal (take_tests calls bs x) ≡ None) × (first_rule_of calls bs xs ≡ None) = none_or (first_refusal (take_tests calls bs x)) (first_rule_of calls bs xs) none in
    by (is_some (next_head n x)) h both.0 (λ k. allowed_there n calls bs xs e both.1 k)
  where
    by : (b : Bool) → (if b then Some x else first_there n xs) ≡ Some e → first_refusal (take_tests calls bs x) ≡ None → (first_there n xs ≡ Some e → first_refusal (take_tests calls bs e) ≡ None)
        → first_refusal (take_tests calls bs e) ≡ None
    by true so own later = let same : x ≡ e = cc so in ap (λ y. first_refusal (take_tests calls bs y)) (sym same) ∙ own
    by false so own later = later so

-- what is next on each end stays where the node stays
abbrev head_at : Option (MainAt Place) → Option Msg
head_at (Some (Held h)) = slice_get h.untaken 0
head_at _ = None

head_seen : (f : Spot → Place) (r : Option (MainAt Spot)) → head_at (option_map (main_with f) r) ≡ held_head r
head_seen f None = refl
head_seen f (Some (Held h)) = refl
head_seen f (Some (Closed c)) = refl
head_seen f (Some (Expected keeper place deferred)) = refl

head_stays : (a b : Node) → Stays a b → (e : EndId) → next_head b e ≡ next_head a e
head_stays a b x e = sym (head_seen (place_in b.table) (main_of b e)) ∙ ap (λ n. head_at (n.main e)) x.node ∙ head_seen (place_in a.table) (main_of a e)

pub first_stays : (a b : Node) → Stays a b → (es : List EndId) → first_there b es ≡ first_there a es
first_stays a b x [] = refl
first_stays a b x (e ∷ es) = λ i. if is_some (head_stays a b x e i) then Some e else first_stays a b x es i

-- ---- what keeps a node from a take

module _ (n : Node) (e : EndId) where
  -- a take is never at the limit
  pub take_not_worn : (o : Option Place) → held_up n (want_of_take e o) ≡ Some halts.AtLimit → ⊥
  take_not_worn None h = absurd (cc h)
  take_not_worn (Some p) h = by (may_take p) h
    where
      by_halt : (x l : Bool) → option_map halt_named (halt_if x (awaits e) (halt_if l (no_message e) None)) ≡ Some halts.AtLimit → ⊥
      by_halt true l h = absurd (cc h)
      by_halt false true h = absurd (cc h)
      by_halt false false h = absurd (cc h)

      by : (b : Bool) → held_up n (where_allowed b (wanted.takes e (carried_next p))) ≡ Some halts.AtLimit → ⊥
      by false h = absurd (cc h)
      by true h = by_halt (is_expected ((node_at n).main e)) (lacks_message ((node_at n).main e)) h

  -- a take of what is there never waits
  pub head_not_waiting : (m : Msg) → IsHead n e m → (o : Option Place) → held_up n (want_of_take e o) ≡ Some halts.Waits → ⊥
  head_not_waiting m head None h = absurd (cc h)
  head_not_waiting m head (Some p) h = by (may_take p) h
    where
      free : is_expected ((node_at n).main e) ≡ false
      free = ap is_expected head.there

      some_there : lacks_message ((node_at n).main e) ≡ false
      some_there = ap lacks_message head.there ∙ ap is_empty head.first

      by_halt : (x l : Bool) → x ≡ false → l ≡ false → option_map halt_named (halt_if x (awaits e) (halt_if l (no_message e) None)) ≡ Some halts.Waits → ⊥
      by_halt true l f s h = absurd (cc f)
      by_halt false true f s h = absurd (cc s)
      by_halt false false f s h = absurd (cc h)

      by : (b : Bool) → held_up n (where_allowed b (wanted.takes e (carried_next p))) ≡ Some halts.Waits → ⊥
      by false h = absurd (cc h)
      by true h = by_halt (is_expected ((node_at n).main e)) (lacks_message ((node_at n).main e)) free some_there h

-- what is next on an end is there, and stays there where the node stays
pub head_at_end : (a b : Node) (e : EndId) (o : Option Msg) → next_head a e ≡ o → is_some o ≡ true → Stays a b → (m : Msg) × IsHead b e m
head_at_end a b e None is some stays = absurd (cc some)
head_at_end a b e (Some m) is some stays =
    let h = head_there a e m is in
    (m, record { held = h.held; rest = h.rest; there = ap (λ n. n.main e) stays.node ∙ h.there; first = h.first })

-- why a take of what is there isn't done
pub cut_short : {O I G : Type 0} (g : Guest O I G) (e : EndId) (o : Option Place) (r : SeatRefusal) → ((m : Msg) × IsHead (node_of g) e m) → want_of_call (may_of g) (ends_of g) (takes e) ≡ want_of_take e o
    → IsHeldUp r (takes e) g → IsCutShort r e g
cut_short g e o refusals.Waiting head want h = head_not_waiting (node_of g) e head.0 head.1 o (ap (held_up (node_of g)) (sym want) ∙ h)
cut_short g e o refusals.AtLimit head want h = take_not_worn (node_of g) e o (ap (held_up (node_of g)) (sym want) ∙ h)
cut_short g e o (refusals.Stopped stop) head want (inl h) = inl h
cut_short g e o (refusals.Stopped stop) head want (inr h) = inr h
cut_short g e o refusals.NoMemory head want h = tt
cut_short g e o refusals.NotHeld head want h = h
cut_short g e o refusals.BeginsOtherwise head want h = h
cut_short g e o refusals.WrongEnd head want h = h
cut_short g e o refusals.WrongKind head want h = h
cut_short g e o refusals.NotOpened head want h = h
