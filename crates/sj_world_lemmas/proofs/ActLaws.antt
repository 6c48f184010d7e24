-- The session laws of the acts.
use Rattle.std.proofs.Common.{◌≡◌, ℕ, ◌<◌, ◌+◌, List, [], ◌∷◌}
use Rattle.std.specs.Prelude.{true, false, ◌⊎◌}
use Rattle.sj_base.specs.declared.EndId.{EndId}
use Rattle.sj_base.specs.declared.Msg.{Msg}
use Rattle.sj_rules.specs.Acts.{plain_parked, plain_sent, plain_taken}
use Rattle.sj_rules.specs.Record.{EndAt, BodyAt, Carry, Fin, HeldAt}
use Rattle.sj_rules.specs.Seat.{held, parked, claimed, closed, gone, Side, side_of}
use Rattle.sj_rules.specs.Node.{held_behind_send, held_behind_take}
use Rattle.sj_rules.specs.PlainSide.{PlainSide, untaken_of}
use Rattle.sj_rules.specs.Numbers.{Pace, level}
use Rattle.sj_rules.specs.Invariant.{IsSound}
use Rattle.sj_world_lemmas.proofs.SessionLaws.{with_more}

module _ {P : Type 0} (IsOver : P → Type 0) (x y : PlainSide P) (s : Side P) (id : EndId) (place : P) where
  -- a message is sent on a Held end, where the other end isn't over
  abbrev pub SendAtHeld : Type 0
  SendAtHeld = (pace : Pace) (b : ℕ) (h : HeldAt P) (ro rl : List (BodyAt P)) (msg : Msg) (after : P) → (IsOver x.place → ⊥) →
      IsSound IsOver pace x y s (side_of id place (held b h) ro rl) →
      IsSound IsOver pace x (plain_sent y after msg) (with_more pace s (Carry s.id h.end.conn h.end.sent h.end.taken msg ∷ [])) (side_of id after (held b (held_behind_send h msg after)) ro rl)

  -- the first untaken message is taken
  abbrev pub TakeAtHeld : Type 0
  TakeAtHeld = (pace : Pace) (b : ℕ) (h : HeldAt P) (ro rl : List (BodyAt P)) (m : Msg) (rest : List Msg) (after : P) → h.untaken ≡ m ∷ rest →
      IsSound IsOver pace x y s (side_of id place (held b h) ro rl) →
      (later : List Msg) × (untaken_of x y ≡ m ∷ later) × IsSound IsOver pace x (plain_taken y after) s (side_of id after (held b (held_behind_take h rest after)) ro rl)

  -- the end is closed, where all is taken: it stays until the other end's Fin
  abbrev pub CloseAtHeld : Type 0
  CloseAtHeld = (pace : Pace) (b : ℕ) (h : HeldAt P) (ro rl : List (BodyAt P)) → y.offered ≡ false → IsOver y.place → untaken_of x y ≡ [] →
      IsSound IsOver pace x y s (side_of id place (held b h) ro rl) →
      (h.fin ≡ false) × IsSound IsOver pace x y (with_more pace s (Fin s.id h.end.conn h.end.sent ∷ [])) (side_of id place (closed b h.end) ro rl)
      ⊎ (h.fin ≡ true) × (pace ≡ level) × (rl ≡ []) × IsSound IsOver pace x y (with_more pace s (Fin s.id h.end.conn h.end.sent ∷ [])) (side_of id place gone ro [])

  -- the end is parked, to be sent on
  abbrev pub ParkAtHeld : Type 0
  ParkAtHeld = (pace : Pace) (b : ℕ) (h : HeldAt P) (ro rl : List (BodyAt P)) → y.offered ≡ false →
      IsSound IsOver pace x y s (side_of id place (held b h) ro rl) →
      IsSound IsOver pace x (plain_parked y) s (side_of id place (parked b (record h.end { hops = h.end.hops + 1 })) ro rl)

  -- its session message is taken
  abbrev pub TakeAtParked : Type 0
  TakeAtParked = (pace : Pace) (b u : ℕ) (e : EndAt P) (ro rl : List (BodyAt P)) →
      IsSound IsOver pace x y s (side_of id place (parked b e) ro rl) → IsSound IsOver pace x y s (side_of id place (claimed b u e) ro rl)

-- what acts need
pub record ActLaws {P : Type 0} (IsOver : P → Type 0) (x y : PlainSide P) : Type 0 where
  pub send : (s : Side P) (id : EndId) (place : P) → id.side < 2 → SendAtHeld IsOver x y s id place
  pub take : (s : Side P) (id : EndId) (place : P) → id.side < 2 → TakeAtHeld IsOver x y s id place
  pub close : (s : Side P) (id : EndId) (place : P) → id.side < 2 → CloseAtHeld IsOver x y s id place
  pub park : (s : Side P) (id : EndId) (place : P) → id.side < 2 → ParkAtHeld IsOver x y s id place
  pub take_end : (s : Side P) (id : EndId) (place : P) → id.side < 2 → TakeAtParked IsOver x y s id place
