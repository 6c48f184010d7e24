-- The acts of the second end of a session.
use Rattle.std.specs.Prelude.{◌≡◌, ◌<◌, ◌≤◌, ℕ, true, false, List, [], ◌∷◌, length, refl}
use Rattle.sj_base.specs.declared.EndId.{EndId}
use Rattle.sj_base.specs.declared.Msg.{Msg}
use Rattle.sj_rules.specs.Record.{EndAt, BodyAt, HeldAt}
use Rattle.sj_rules.specs.Node.{held_behind_send, held_behind_take}
use Rattle.sj_rules.specs.Seat.{Seat, held, parked, claimed, signalled, closed, gone, side_of}
use Rattle.sj_rules.specs.PlainSide.{PlainSide, untaken_of}
use Rattle.sj_rules.specs.Acts.{plain_sent, plain_taken, plain_parked, parked_end, carry_of, fin_of, signal_to}
use Rattle.sj_rules.specs.Numbers.{Pace, turned}
use Rattle.sj_rules.specs.Invariant.{IsSound}
use Rattle.sj_world_lemmas.proofs.InstallLemmas.{live_after, old_after}
use Rattle.sj_world_lemmas.proofs.SwapLemmas.{otherwise}
use Rattle.sj_world_lemmas.proofs.SendLemmas.{sends}
use Rattle.sj_world_lemmas.proofs.TakeLemmas.{takes}
use Rattle.sj_world_lemmas.proofs.CloseLemmas.{closes, closes_noted}
use Rattle.sj_world_lemmas.proofs.DelegateLemmas.{parks, claims}
use Rattle.sj_world_lemmas.proofs.SignallingLemmas.{signals}

module _ {P : Type 0} (IsOver : P → Type 0) (pace : Pace) (x y : PlainSide P) (sid rid : EndId) (ps pr : P) (s : Seat P) (so sl ro rl : List (BodyAt P))
    (low : rid.side < 2) where
  -- r sends the message
  pub sends_back : (a : ℕ) (h : HeldAt P) (m : Msg) (place : P) → ¬ IsOver x.place → x.taken ≤ length y.sent →
      IsSound IsOver pace x y (side_of sid ps s so sl) (side_of rid pr (held a h) ro rl) →
      IsSound IsOver pace x (plain_sent y place m)
      (side_of sid ps s (old_after (turned pace) s so (carry_of sid h.end m)) (live_after (turned pace) s sl (carry_of sid h.end m)))
      (side_of rid place (held a (held_behind_send h m place)) ro rl)
  sends_back a h m place goes_on few sound =
      otherwise IsOver pace pace x y x (plain_sent y place m) (side_of sid ps s so sl) (side_of rid pr (held a h) ro rl) _ _ low refl
      (λ k. sends IsOver (turned pace) y x rid sid pr ps a h s ro rl so sl m place goes_on few k) sound

  -- r takes its first untaken message
  pub takes_back : (a : ℕ) (h : HeldAt P) (m : Msg) (rest : List Msg) (place : P) → h.untaken ≡ m ∷ rest →
      IsSound IsOver pace x y (side_of sid ps s so sl) (side_of rid pr (held a h) ro rl) →
      IsSound IsOver pace x (plain_taken y place) (side_of sid ps s so sl) (side_of rid place (held a (held_behind_take h rest place)) ro rl)
  takes_back a h m rest place front sound =
      otherwise IsOver pace pace x y x (plain_taken y place) (side_of sid ps s so sl) (side_of rid pr (held a h) ro rl) _ _ low refl
      (λ k. takes IsOver (turned pace) y x rid sid pr ps a h s ro rl so sl m rest place front k) sound

  -- r closes, and is Closed
  pub closes_back : (a : ℕ) (h : HeldAt P) → y.offered ≡ false → IsOver y.place → untaken_of x y ≡ [] → h.fin ≡ false →
      IsSound IsOver pace x y (side_of sid ps s so sl) (side_of rid pr (held a h) ro rl) →
      IsSound IsOver pace x y
      (side_of sid ps s (old_after (turned pace) s so (fin_of sid h.end)) (live_after (turned pace) s sl (fin_of sid h.end)))
      (side_of rid pr (closed a h.end) ro rl)
  closes_back a h accepted over none fin sound =
      otherwise IsOver pace pace x y x y (side_of sid ps s so sl) (side_of rid pr (held a h) ro rl) _ _ low refl
      (λ k. closes IsOver (turned pace) y x rid sid pr ps a h s ro rl so sl accepted over none fin k) sound

  -- r closes, and is gone
  pub closes_noted_back : (a : ℕ) (h : HeldAt P) → IsOver y.place → untaken_of x y ≡ [] → h.fin ≡ true →
      IsSound IsOver pace x y (side_of sid ps s so sl) (side_of rid pr (held a h) ro rl) →
      IsSound IsOver pace x y
      (side_of sid ps s (old_after (turned pace) s so (fin_of sid h.end)) (live_after (turned pace) s sl (fin_of sid h.end)))
      (side_of rid pr gone ro rl)
  closes_noted_back a h over none fin sound =
      otherwise IsOver pace pace x y x y (side_of sid ps s so sl) (side_of rid pr (held a h) ro rl) _ _ low refl
      (λ k. closes_noted IsOver y x rid sid pr ps a h ro rl so sl over none (turned pace) s fin k) sound

  -- r is parked
  pub parks_back : (a : ℕ) (h : HeldAt P) → y.offered ≡ false →
      IsSound IsOver pace x y (side_of sid ps s so sl) (side_of rid pr (held a h) ro rl) →
      IsSound IsOver pace x (plain_parked y) (side_of sid ps s so sl) (side_of rid pr (parked a (parked_end h.end)) ro rl)
  parks_back a h accepted sound =
      otherwise IsOver pace pace x y x (plain_parked y) (side_of sid ps s so sl) (side_of rid pr (held a h) ro rl) _ _ low refl
      (λ k. parks IsOver (turned pace) y x rid sid pr ps a h s ro rl so sl accepted k) sound

  -- the session message of r is taken
  pub claims_back : (a t : ℕ) (d : EndAt P) →
      IsSound IsOver pace x y (side_of sid ps s so sl) (side_of rid pr (parked a d) ro rl) →
      IsSound IsOver pace x y (side_of sid ps s so sl) (side_of rid pr (claimed a t d) ro rl)
  claims_back a t d sound =
      otherwise IsOver pace pace x y x y (side_of sid ps s so sl) (side_of rid pr (parked a d) ro rl) _ _ low refl
      (λ k. claims IsOver (turned pace) y x rid sid pr ps a t d s ro rl so sl k) sound

  -- r is Signalled
  pub signals_back : (a t : ℕ) (d : EndAt P) →
      IsSound IsOver pace x y (side_of sid ps s so sl) (side_of rid pr (claimed a t d) ro rl) →
      IsSound IsOver pace x y
      (side_of sid ps s (old_after (turned pace) s so (signal_to sid d t)) (live_after (turned pace) s sl (signal_to sid d t)))
      (side_of rid pr (signalled a t d []) rl [])
  signals_back a t d sound =
      otherwise IsOver pace pace x y x y (side_of sid ps s so sl) (side_of rid pr (claimed a t d) ro rl) _ _ low refl
      (λ k. signals IsOver (turned pace) y x rid sid pr ps a t d s ro rl so sl k) sound
