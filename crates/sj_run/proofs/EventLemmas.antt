-- What an event of a world did, and what the line that was due reports of it.
use Rattle.std.proofs.Common.{◌≡◌, ◌∙◌, ℕ, ◌==◌, ◌+◌, max, true, false, if◌then◌else◌, List, [], ◌∷◌, Option, Some, None, option_map, option_and_then, refl, sym, ap}
use Rattle.std.proofs.lemmas.Bool.{eq-eqb}
use Rattle.sj_rules.specs.Frames.{FrameAt}
use Rattle.sj_rules.specs.History.{due, event_note, line_after}
use Rattle.sj_rules.specs.Log.{LineAt}
use Rattle.sj_rules.specs.Node.{NodeAt, Play, acts, arrives}
use Rattle.sj_rules.specs.Rows.{Worked}
use Rattle.sj_rules.specs.World.{Act, Deliver, Event, WorldAt, after_event, delivery_of, happens, with_lane}

pub map_some : {X Y : Type 0} (f : X → Y) (o : Option X) (y : Y) → option_map f o ≡ Some y → (x : X) × (o ≡ Some x) × (f x ≡ y)
map_some f None y e = absurd (cc e)
map_some f (Some x) y e = (x, refl, cc e)

then_some : {X Y : Type 0} (f : X → Option Y) (o : Option X) (y : Y) → option_and_then f o ≡ Some y → (x : X) × (o ≡ Some x) × (f x ≡ Some y)
then_some f None y e = absurd (cc e)
then_some f (Some x) y e = (x, refl, e)

module _ {P Q : Type 0} (play : Play P Q) (pick : ℕ → ℕ → ℕ) (w : WorldAt P Q) (p : ℕ) where
  pub own_node : (q : ℕ) (clock : ℕ) (lanes : ℕ → ℕ → List (FrameAt P)) (d : Worked P (NodeAt P Q)) → (q == p) ≡ true → (after_event w p clock lanes d).nodes q ≡ record d.state { clock = clock }
  own_node q clock lanes d own = ap (λ b. if b then record d.state { clock = clock } else w.nodes q) own

  other_node : (q : ℕ) (clock : ℕ) (lanes : ℕ → ℕ → List (FrameAt P)) (d : Worked P (NodeAt P Q)) → (q == p) ≡ false → (after_event w p clock lanes d).nodes q ≡ w.nodes q
  other_node q clock lanes d other = ap (λ b. if b then record d.state { clock = clock } else w.nodes q) other

  -- an act
  pub record Acts (v : WorldAt P Q) : Type 0 where
    pub left : Worked P (NodeAt P Q)
    pub row : acts play p (w.nodes p) ≡ Some left
    pub after : after_event w p ((w.nodes p).clock + 1) w.lanes left ≡ v

  pub acted : (v : WorldAt P Q) → happens play pick w p Act ≡ Some v → Acts v
  acted v h = let x = map_some (after_event w p ((w.nodes p).clock + 1) w.lanes) (acts play p (w.nodes p)) v h in record { left = x.0; row = x.1; after = x.2 }

  -- the delivery of the first frame of a lane
  pub record Comes (q : ℕ) (v : WorldAt P Q) : Type 0 where
    pub frame : FrameAt P
    pub rest : List (FrameAt P)
    pub front : w.lanes q p ≡ frame ∷ rest
    pub left : Worked P (NodeAt P Q)
    pub row : arrives play.blank play.parties pick (w.nodes p) q frame ≡ Some left
    pub after : after_event w p (max (w.nodes p).clock frame.clock + 1) (with_lane q p rest w.lanes) left ≡ v

  pub came : (q : ℕ) (v : WorldAt P Q) → happens play pick w p (Deliver q) ≡ Some v → Comes q v
  came q v h = by (w.lanes q p) refl h
    where
      by : (l : List (FrameAt P)) → w.lanes q p ≡ l → delivery_of play pick w p q l ≡ Some v → Comes q v
      by [] front k = absurd (cc k)
      by (f ∷ rest) front k =
          let x = map_some (after_event w p (max (w.nodes p).clock f.clock + 1) (with_lane q p rest w.lanes)) (arrives play.blank play.parties pick (w.nodes p) q f) v k in
          record { frame = f; rest = rest; front = front; left = x.0; row = x.1; after = x.2 }

  -- after which the party's clock is above that of the frame
  pub came_clock : (q : ℕ) (v : WorldAt P Q) (c : Comes q v) → (v.nodes p).clock ≡ max (w.nodes p).clock c.frame.clock + 1
  came_clock q v c =
      ap (λ (x : WorldAt P Q). (x.nodes p).clock) (sym c.after)
      ∙ ap (λ (x : NodeAt P Q). x.clock) (own_node p (max (w.nodes p).clock c.frame.clock + 1) (with_lane q p c.rest w.lanes) c.left (eq-eqb p p refl))

  -- the other nodes stay
  pub others_stay : (q : ℕ) (event : Event) (v : WorldAt P Q) → (q == p) ≡ false → happens play pick w p event ≡ Some v → v.nodes q ≡ w.nodes q
  others_stay q Act v other h = let a = acted v h in ap (λ (x : WorldAt P Q). x.nodes q) (sym a.after) ∙ other_node q ((w.nodes p).clock + 1) w.lanes a.left other
  others_stay q (Deliver r) v other h = let c = came r v h in ap (λ (x : WorldAt P Q). x.nodes q) (sym c.after) ∙ other_node q (max (w.nodes p).clock c.frame.clock + 1) (with_lane r p c.rest w.lanes) c.left other

  -- a line that is due has the clock and the note of its event
  pub record DueSo (event : Event) (l : LineAt) : Type 0 where
    pub next : WorldAt P Q
    pub happened : happens play pick w p event ≡ Some next
    pub note : event_note play w p event ≡ Some l.entry.note
    pub clock : (next.nodes p).clock ≡ l.entry.clock

  pub due_so : (event : Event) (l : LineAt) → due play pick w p event ≡ Some l → DueSo event l
  due_so event l is =
      let x = then_some (line_after play w p event) (happens play pick w p event) l is in
      let n = map_some (λ note. record { party = p; entry = record { clock = (x.0.nodes p).clock; event = event; note = note } }) (event_note play w p event) l x.2 in
      record { next = x.0; happened = x.1; note = n.1 ∙ ap (λ (k : LineAt). Some k.entry.note) n.2; clock = ap (λ (k : LineAt). k.entry.clock) n.2 }
