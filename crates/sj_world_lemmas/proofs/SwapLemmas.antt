-- A session seen from its other end.
use Rattle.std.proofs.Common.{◌≡◌, ℕ, ◌+◌, ◌-◌, ◌<◌, refl, sym, ap, subst, ◌∙◌, arith}
use Rattle.std.specs.Prelude.{⊤}
use Rattle.sj_base.specs.declared.EndId.{EndId}
use Rattle.sj_rules.specs.Record.{other_end}
use Rattle.sj_rules.specs.Seat.{Seat, held, parked, claimed, signalled, given, closed, gone, Side, peer_of, source_for}
use Rattle.sj_rules.specs.PlainSide.{PlainSide}
use Rattle.sj_rules.specs.Numbers.{Pace, level, ahead, behind, turned, NumbersFit, IsWithinHops}
use Rattle.sj_rules.specs.Invariant.{IsSound, Direction}

-- the other end of the other end is the end
pub other_other : (e : EndId) → e.side < 2 → other_end (other_end e) ≡ e
other_other e h = let k : 1 - (1 - e.side) ≡ e.side = omega arith in ap (λ (n : ℕ). record { sess = e.sess; side = n }) k

-- a pace turned twice
pub turned_twice : (p : Pace) → turned (turned p) ≡ p
turned_twice level = refl
turned_twice (ahead c) = refl
turned_twice (behind c) = refl

-- a level pace turned
turned_level : (p : Pace) → p ≡ level → turned p ≡ level
turned_level p e = ap turned e

-- the numbers from the other end
pub swap_numbers : {P : Type 0} → (p : Pace) (s r : Seat P) → NumbersFit p s r → NumbersFit (turned p) r s
swap_numbers p gone gone n = (turned_level p n.0, refl)
swap_numbers p gone r n = (turned_level p n.0, n.1)
swap_numbers p s gone n = (turned_level p n.0, n.1)
swap_numbers level s r n = (sym n.0, n.2, n.1)
swap_numbers (ahead c) s r n = n
swap_numbers (behind c) s r n = n

-- the hops from the other end
swap_hops : {P : Type 0} → (p : Pace) (h k : ℕ) (s r : Seat P) → h ≡ k → IsWithinHops p h s r → IsWithinHops (turned p) k r s
swap_hops level h k s r e w = (omega (arith, w.1, e), omega (arith, w.0, e))
swap_hops (ahead c) h k s r e w = omega (arith, w, e)
swap_hops (behind c) h k s r e w = omega (arith, w, e)

-- the session from the other end
pub swapped : {P : Type 0} → (IsOver : P → Type 0) (p : Pace) (x y : PlainSide P) (s r : Side P) → r.id.side < 2 → IsSound IsOver p x y s r → IsSound IsOver (turned p) y x r s
swapped IsOver p x y s r low sound = record {
  others = sym (ap other_end sound.others ∙ other_other r.id low);
  numbers = swap_numbers p s.seat r.seat sound.numbers;
  hops = swap_hops p (x.hops + y.hops) (y.hops + x.hops) s.seat r.seat (omega arith) sound.hops;
  there = sound.back;
  back = subst (λ q. Direction IsOver q x y s r) (sym (turned_twice p)) sound.there;
}

-- what holds of an event at the first end holds of it at the second
pub otherwise : {P : Type 0} → (IsOver : P → Type 0) (pace next : Pace) (x y v w : PlainSide P) (s r p q : Side P) → r.id.side < 2 → p.id ≡ s.id →
    (IsSound IsOver (turned pace) y x r s → IsSound IsOver (turned next) w v q p) →
    IsSound IsOver pace x y s r → IsSound IsOver next v w p q
otherwise IsOver pace next x y v w s r p q low same step sound =
    let side : 1 - r.id.side < 2 = omega arith in
    let first : p.id.side < 2 = rw (same, sound.others) side in
    let after : IsSound IsOver (turned next) w v q p = step (swapped IsOver pace x y s r low sound) in
    rw (turned_twice next) at (swapped IsOver (turned next) w v q p first after)

-- it isn't gone
abbrev pub IsThere : {P : Type 0} → Seat P → Type 0
IsThere gone = ⊥
IsThere seat = ⊤

-- an end of a level session has the source of its frames as its peer
pub source_is_peer : {P : Type 0} → (s r : Seat P) → IsThere r → NumbersFit level s r → source_for s r ≡ peer_of r
source_is_peer s gone i n = absurd i
source_is_peer gone r i n = refl
source_is_peer (held a g) r i n = sym n.2
source_is_peer (parked a g) r i n = sym n.2
source_is_peer (claimed a t g) r i n = sym n.2
source_is_peer (signalled a t g ds) r i n = sym n.2
source_is_peer (given a t g q ds) r i n = sym n.2
source_is_peer (closed a g) r i n = sym n.2
