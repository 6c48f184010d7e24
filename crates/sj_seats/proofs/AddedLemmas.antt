-- Worlds with seats to which lines are only added.
use Rattle.std.proofs.Common.{◌≡◌, ℕ, ◌==◌, Bool, true, false, if◌then◌else◌, List, [], ◌∷◌, ◌++◌, Option, Some, None, option_map, refl, ap, sym, ◌∙◌, append-nil, append_assoc, inl, inr}
use Rattle.std.proofs.lemmas.Bool.Decides.{eqb_tells}
use mathlib.Core.Path.{fun_ext}
use Rattle.sj_rules.specs.Log.{LineAt}
use Rattle.sj_rules.specs.World.{Deliver}
use Rattle.sj_seat.specs.Holding.{ends_at}
use Rattle.sj_seats.specs.Calls.{call_of_event, callers_by, callers_told, calls_told}
use Rattle.sj_seats.specs.Core.{chair_of, is_seat}
use Rattle.sj_seats.specs.Draining.{Adds, TellsNone}
use Rattle.sj_seats.specs.Played.{Keeps, chairs_in, history_in, opened_in}
use Rattle.sj_seats.specs.Seated.{calls_by}
use Rattle.sj_seats.specs.declared.played.Chair.{Chair}
use Rattle.sj_seats.specs.declared.played.PlayedWorld.{PlayedWorld}
use Rattle.sj_seats.proofs.ChairLemmas.{if_none}
use Rattle.sj_seats.proofs.ToldLemmas.{told_more}

-- ---- what a line tells

-- a delivery tells no call
pub delivery_tells : (c : PlayedWorld) (l : LineAt) (from : ℕ) → l.entry.event ≡ Deliver from → TellsNone c l
delivery_tells c l from is q seated = ap (λ ev. if q == l.party then call_of_event (opened_in c q) ev l.entry.note else []) is ∙ if_none (q == l.party)

-- nor does the line of a party that goes by the file
pub written_tells : (c : PlayedWorld) (l : LineAt) → is_seat (chairs_in c) l.party ≡ false → TellsNone c l
written_tells c l own q seated =
    elim (eqb_tells q l.party) [
      | inl s ↦ absurd (let e : true ≡ false = sym seated ∙ ap (is_seat (chairs_in c)) s.1 ∙ own in cc e)
      | inr s ↦ ap (λ (b : Bool). if b then call_of_event (opened_in c q) l.entry.event l.entry.note else []) s.0
    ]

-- ---- lines that are added

-- none
pub adds_still : (c d : PlayedWorld) → history_in d ≡ history_in c → chairs_in d ≡ chairs_in c → Adds c d
adds_still c d listed chairs = record {
  lines = record { more = []; all = listed ∙ sym (append-nil (history_in c)) };
  uncalled = λ q seated. ap (calls_told (opened_in c) q) listed;
  chairs = chairs;
}

pub adds_none : (c : PlayedWorld) → Adds c c
adds_none c = adds_still c c refl refl

-- one
pub adds_one : (c d : PlayedWorld) (l : LineAt) → history_in d ≡ history_in c ++ l ∷ [] → chairs_in d ≡ chairs_in c → TellsNone c l → Adds c d
adds_one c d l listed chairs none = record {
  lines = record { more = l ∷ []; all = listed };
  uncalled = λ q seated.
      ap (calls_told (opened_in c) q) listed ∙ told_more (opened_in c) q (history_in c) l
      ∙ ap (λ cs. calls_told (opened_in c) q (history_in c) ++ cs) (none q seated) ∙ append-nil (calls_told (opened_in c) q (history_in c));
  chairs = chairs;
}

-- several, and then more
pub adds_later : (a b c : PlayedWorld) → Keeps a b → Adds a b → Adds b c → Adds a c
adds_later a b c keeps x y = record {
  lines = record {
    more = x.lines.more ++ y.lines.more;
    all = y.lines.all ∙ ap (λ ls. ls ++ y.lines.more) x.lines.all ∙ append_assoc (history_in a) x.lines.more y.lines.more;
  };
  uncalled = λ q seated.
      (λ i. calls_told (sym keeps.opened i) q (history_in c)) ∙ y.uncalled q (keeps.seats q ∙ seated)
      ∙ (λ i. calls_told (keeps.opened i) q (history_in b)) ∙ x.uncalled q seated;
  chairs = y.chairs ∙ x.chairs;
}

-- ---- what callers see of it

-- the codes called what they had called
pub callers_still : (c d : PlayedWorld) → Keeps c d → Adds c d
    → callers_told (is_seat (chairs_in d)) (opened_in d) (history_in d) ≡ callers_told (is_seat (chairs_in c)) (opened_in c) (history_in c)
callers_still c d keeps x =
    (λ i q. callers_by (λ r. keeps.seats r i) (λ r. calls_told (keeps.opened i) r (history_in d)) q)
    ∙ fun_ext (λ q. by q (is_seat (chairs_in c) q) refl)
  where
    by : (q : ℕ) (b : Bool) → is_seat (chairs_in c) q ≡ b
        → (if is_seat (chairs_in c) q then Some (calls_told (opened_in c) q (history_in d)) else None) ≡ (if is_seat (chairs_in c) q then Some (calls_told (opened_in c) q (history_in c)) else None)
    by q true is = ap (λ cs. if is_seat (chairs_in c) q then Some cs else None) (x.uncalled q is)
    by q false is = ap (λ b. if b then Some (calls_told (opened_in c) q (history_in d)) else None) is ∙ ap (λ b. if b then Some (calls_told (opened_in c) q (history_in c)) else None) (sym is)

-- each holds what it held
pub ends_still : (c d : PlayedWorld) → Keeps c d → Adds c d → (q : ℕ)
    → option_map (λ (x : Chair). ends_at d.table x.ends.items) (chair_of (chairs_in d) q) ≡ option_map (λ (x : Chair). ends_at c.table x.ends.items) (chair_of (chairs_in c) q)
ends_still c d keeps x q = λ i. option_map (λ (h : Chair). ends_at (keeps.table i) h.ends.items) (chair_of (x.chairs i) q)

pub calls_still : (c d : PlayedWorld) → Adds c d → (q : ℕ) → calls_by (chair_of (chairs_in d) q) ≡ calls_by (chair_of (chairs_in c) q)
calls_still c d x q = ap (λ (cs : List (Option Chair)). calls_by (chair_of cs q)) x.chairs
