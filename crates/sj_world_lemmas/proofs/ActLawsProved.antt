-- The session laws of the acts and of the Claim, from the lemmas of sends, takes, closes and
-- delegations.
use Rattle.std.proofs.Common.{◌≡◌, ℕ, ◌<◌, ◌≤◌, List, [], ◌++◌, length, refl, ap, subst, ◌∙◌, inl, inr}
use Rattle.std.specs.Prelude.{Bool, true, false, ◌⊎◌}
use Rattle.sj_base.specs.declared.EndId.{EndId}
use Rattle.sj_rules.specs.Record.{BodyAt}
use Rattle.sj_rules.specs.Seat.{Seat, closed, gone, Side, side_of}
use Rattle.sj_rules.specs.PlainSide.{PlainSide, untaken_of, CountsFit, IsFront}
use Rattle.sj_rules.specs.Acts.{carry_of, fin_of, signal_to}
use Rattle.sj_rules.specs.Numbers.{Pace, level, ahead, behind, turned, NumbersFit}
use Rattle.sj_rules.specs.Invariant.{IsSound}
use Rattle.sj_world_lemmas.proofs.InstallLemmas.{live_after, old_after}
use Rattle.sj_world_lemmas.proofs.BackLemmas.{sends_back, takes_back, closes_back, closes_noted_back, parks_back, claims_back, signals_back}
use Rattle.sj_world_lemmas.proofs.ActLaws.{ActLaws, SendAtHeld, TakeAtHeld, CloseAtHeld, ParkAtHeld, TakeAtParked}
use Rattle.sj_world_lemmas.proofs.SessionLaws.{ClaimAtClaimed, with_more}
use Rattle.sj_world_lemmas.proofs.FlowLemmas.{untaken_front}
use Rattle.sj_world_lemmas.proofs.DispatchLemmas.{gone_empty}

-- frames come in under a pace as under that pace turned
old_turned : {P : Type 0} → (pace : Pace) (s : Seat P) (old more : List (BodyAt P)) → old_after (turned pace) s old more ≡ old_after pace s old more
old_turned level s old more = refl
old_turned (ahead c) s old more = refl
old_turned (behind c) s old more = refl

-- the same of the live stream
live_turned : {P : Type 0} → (pace : Pace) (s : Seat P) (live more : List (BodyAt P)) → live_after (turned pace) s live more ≡ live_after pace s live more
live_turned level s live more = refl
live_turned (ahead c) s live more = refl
live_turned (behind c) s live more = refl

-- beside an end that is gone the numbers count as equal
level_beside_gone : {P : Type 0} → (pace : Pace) (s : Seat P) → NumbersFit pace s gone → pace ≡ level
level_beside_gone pace gone n = n.0
level_beside_gone pace s n = n.0

module _ {P : Type 0} (IsOver : P → Type 0) (x y : PlainSide P) (s : Side P) (id : EndId) (place : P) (low : id.side < 2) where
  -- the other end with more frames
  more_is : (pace : Pace) (y' : PlainSide P) (r : Side P) (more : List (BodyAt P)) →
      IsSound IsOver pace x y' (side_of s.id s.place s.seat (old_after (turned pace) s.seat s.old more) (live_after (turned pace) s.seat s.live more)) r →
      IsSound IsOver pace x y' (with_more pace s more) r
  more_is pace y' r more sound =
      subst (λ l. IsSound IsOver pace x y' (side_of s.id s.place s.seat (old_after pace s.seat s.old more) l) r) (live_turned pace s.seat s.live more)
      (subst (λ l. IsSound IsOver pace x y' (side_of s.id s.place s.seat l (live_after (turned pace) s.seat s.live more)) r) (old_turned pace s.seat s.old more) sound)

  -- a send
  pub send_law : x.taken ≤ length y.sent → SendAtHeld IsOver x y s id place
  send_law few pace b h ro rl msg after never sound =
      more_is pace _ _ (carry_of s.id h.end msg) (sends_back IsOver pace x y s.id id s.place place s.seat s.old s.live ro rl low b h msg after never few sound)

  -- a take
  pub take_law : TakeAtHeld IsOver x y s id place
  take_law pace b h ro rl m rest after waits sound =
      let f : IsFront h.untaken (untaken_of x y) = untaken_front pace id x y s.seat b h rl sound.numbers sound.there.comes in
      (rest ++ f.rest, f.all ∙ ap (λ l. l ++ f.rest) waits, takes_back IsOver pace x y s.id id s.place place s.seat s.old s.live ro rl low b h m rest after waits sound)

  -- a delegation, of the end that goes
  pub park_law : ParkAtHeld IsOver x y s id place
  park_law pace b h ro rl accepted sound = parks_back IsOver pace x y s.id id s.place place s.seat s.old s.live ro rl low b h accepted sound

  -- the take of an end, of that end
  pub take_end_law : TakeAtParked IsOver x y s id place
  take_end_law pace b u e ro rl sound = claims_back IsOver pace x y s.id id s.place place s.seat s.old s.live ro rl low b u e sound

  -- a Claim
  pub claim_law : (pick : ℕ → ℕ → ℕ) → ClaimAtClaimed IsOver pick x y s id place
  claim_law pick pace b u e ro rl sound = more_is pace _ _ (signal_to s.id e u) (signals_back IsOver pace x y s.id id s.place place s.seat s.old s.live ro rl low b u e sound)

  -- a close
  pub close_law : CloseAtHeld IsOver x y s id place
  close_law pace b h ro rl accepted over none sound = by h.fin refl
    where
      noted : h.fin ≡ true → IsSound IsOver pace x y (with_more pace s (fin_of s.id h.end)) (side_of id place gone ro rl)
      noted k = more_is pace y (side_of id place gone ro rl) (fin_of s.id h.end) (closes_noted_back IsOver pace x y s.id id s.place place s.seat s.old s.live ro rl low b h over none k sound)

      by : (k : Bool) → h.fin ≡ k → (h.fin ≡ false) × IsSound IsOver pace x y (with_more pace s (fin_of s.id h.end)) (side_of id place (closed b h.end) ro rl)
          ⊎ (h.fin ≡ true) × (pace ≡ level) × (rl ≡ []) × IsSound IsOver pace x y (with_more pace s (fin_of s.id h.end)) (side_of id place gone ro [])
      by false k = inl (k, more_is pace y (side_of id place (closed b h.end) ro rl) (fin_of s.id h.end) (closes_back IsOver pace x y s.id id s.place place s.seat s.old s.live ro rl low b h accepted over none k sound))
      by true k =
          let g : IsSound IsOver pace x y (with_more pace s (fin_of s.id h.end)) (side_of id place gone ro rl) = noted k in
          let empty : rl ≡ [] = gone_empty pace id x y s.seat rl g.there.comes in
          inr (k, level_beside_gone pace s.seat g.numbers, empty, subst (λ l. IsSound IsOver pace x y (with_more pace s (fin_of s.id h.end)) (side_of id place gone ro l)) empty g)

-- the laws of the acts hold
pub act_laws : {P : Type 0} → (IsOver : P → Type 0) (x y : PlainSide P) → CountsFit x y → ActLaws IsOver x y
act_laws IsOver x y counts = record {
  send = λ s id place low. send_law IsOver x y s id place low counts.fewer;
  take = λ s id place low. take_law IsOver x y s id place low;
  close = λ s id place low. close_law IsOver x y s id place low;
  park = λ s id place low. park_law IsOver x y s id place low;
  take_end = λ s id place low. take_end_law IsOver x y s id place low;
}
