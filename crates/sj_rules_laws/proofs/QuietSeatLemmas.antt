-- Where all lanes are empty, each end is Held with all that waits for it, Parked, Closed or gone.
use Rattle.std.proofs.Common.{◌≡◌, ℕ, ◌+◌, Bool, true, false, List, [], ◌∷◌, ◌++◌, length, refl, ap, sym, ◌∙◌, append-nil, inl, inr, ◌⊎◌}
use Rattle.std.specs.Bool.{⊤}
use Rattle.sj_base.specs.declared.EndId.{EndId}
use Rattle.sj_base.specs.declared.Msg.{Msg}
use Rattle.sj_rules.specs.Record.{EndAt, BodyAt, HeldAt}
use Rattle.sj_rules.specs.Seat.{Seat, held, parked, claimed, signalled, given, closed, gone, peer_of}
use Rattle.sj_rules.specs.PlainSide.{PlainSide, untaken_of}
use Rattle.sj_rules.specs.Numbers.{Pace, Cause, level, ahead, behind, by_ack, by_signal, turned, NumbersFit, LeadsBy, IsSignalledTo, is_over}
use Rattle.sj_rules.specs.Streams.{AreCarries, ComesWhole, ComesToHeld, mark_for}
use Rattle.sj_rules.specs.Coming.{Comes, AreOld}
use Rattle.sj_world_lemmas.proofs.SwapLemmas.{swap_numbers}
use Rattle.sj_rules_laws.proofs.QuietLemmas.{IsStill, explained_comes, signal_to}

-- what is left where nothing is in a lane
abbrev pub IsLeft : {P : Type 0} → Seat P → Type 0
IsLeft (held at h) = ⊤
IsLeft (parked at e) = ⊤
IsLeft (closed at e) = ⊤
IsLeft gone = ⊤
IsLeft (claimed at to e) = ⊥
IsLeft (signalled at to e deferred) = ⊥
IsLeft (given at to e resend deferred) = ⊥

pub not_level_behind : (c : Cause) → behind c ≡ level → ⊥
not_level_behind c h = cc

pub not_level_ahead : (c : Cause) → ahead c ≡ level → ⊥
not_level_ahead c h = cc

pub leads_to : {P : Type 0} → (c : Cause) (s r : Seat P) → LeadsBy c s r → IsSignalledTo (peer_of s) r
leads_to by_ack s r l = l.1
leads_to by_signal s r l = l.1

module _ {P : Type 0} (sid rid : EndId) (x y : PlainSide P) where
  -- an end that lags is Signalled, and the old stream to it explains why
  behind_is_explained : (c : Cause) (s : Seat P) (at to : ℕ) (e : EndAt P) (ds sold : List (BodyAt P)) → NumbersFit (behind c) s (signalled at to e ds)
      → AreOld (ahead c) sid y (signalled at to e ds) s sold → ((a t : ℕ) (k : EndAt P) (dk : List (BodyAt P)) → s ≡ signalled a t k dk → sold ≡ []) → ⊥
  behind_is_explained c gone at to e ds sold n o none = not_level_behind c n.0
  behind_is_explained c (held a h) at to e ds sold n o none = leads_to c (signalled at to e ds) (held a h) n
  behind_is_explained c (parked a k) at to e ds sold n o none = leads_to c (signalled at to e ds) (parked a k) n
  behind_is_explained c (claimed a t k) at to e ds sold n o none = leads_to c (signalled at to e ds) (claimed a t k) n
  behind_is_explained c (signalled a t k dk) at to e ds sold n o none = explained_comes sid y x c (signalled at to e ds) a t k dk sold o (none a t k dk refl)
  behind_is_explained c (given a t k resend dk) at to e ds sold n o none = leads_to c (signalled at to e ds) (given a t k resend dk) n
  behind_is_explained c (closed a k) at to e ds sold n o none = leads_to c (signalled at to e ds) (closed a k) n

  no_old_by : (s : Seat P) (at to : ℕ) (e : EndAt P) (ds sold : List (BodyAt P)) → AreOld level sid y (signalled at to e ds) s sold → ((a t : ℕ) (k : EndAt P) (dk : List (BodyAt P)) → s ≡ signalled a t k dk → sold ≡ []) → sold ≡ []
  no_old_by (signalled a t k dk) at to e ds sold o none = none a t k dk refl
  no_old_by (held a h) at to e ds sold o none = o
  no_old_by (parked a k) at to e ds sold o none = o
  no_old_by (claimed a t k) at to e ds sold o none = o
  no_old_by (given a t k resend dk) at to e ds sold o none = o
  no_old_by (closed a k) at to e ds sold o none = o
  no_old_by gone at to e ds sold o none = o

  -- so no end is Signalled
  pub none_signalled : (pace : Pace) (s : Seat P) (at to : ℕ) (e : EndAt P) (ds rold slive sold : List (BodyAt P)) → IsStill s → NumbersFit pace s (signalled at to e ds)
      → AreOld pace rid x s (signalled at to e ds) rold → rold ≡ [] → Comes (turned pace) sid y x (signalled at to e ds) s slive → slive ≡ []
      → AreOld (turned pace) sid y (signalled at to e ds) s sold → ((a t : ℕ) (k : EndAt P) (dk : List (BodyAt P)) → s ≡ signalled a t k dk → sold ≡ []) → ⊥
  none_signalled level s at to e ds rold slive sold still n o none c no_live so so_none =
      signal_to sid y x at to e ds s slive sold still (swap_numbers level s (signalled at to e ds) n) c no_live so (no_old_by s at to e ds sold so so_none)
  none_signalled (ahead cause) s at to e ds rold slive sold still n o none c no_live so so_none = explained_comes rid x y cause s at to e ds rold o none
  none_signalled (behind cause) s at to e ds rold slive sold still n o none c no_live so so_none = behind_is_explained cause s at to e ds sold n so so_none

  -- ---- a Held end has all that waits

  nothing_carried : (to : EndId) (conn number low high : ℕ) (ms : List Msg) (bs : List (BodyAt P)) → AreCarries to conn number low high ms bs → bs ≡ [] → ms ≡ []
  nothing_carried to conn number low high [] [] a none = refl
  nothing_carried to conn number low high [] (b ∷ bs) a none = absurd a
  nothing_carried to conn number low high (m ∷ ms) [] a none = absurd a
  nothing_carried to conn number low high (m ∷ ms) (b ∷ bs) a none = cc

  whole_by : (b : ℕ) (h : HeldAt P) (over : Bool) (mark live : List (BodyAt P)) → ComesToHeld rid h (untaken_of x y) y.taken x.taken over mark live → live ≡ [] → untaken_of x y ≡ h.untaken
  whole_by b h over mark live c none = c.all ∙ ap (λ t. h.untaken ++ t) (by c.comes) ∙ append-nil h.untaken
    where
      front_is_nothing : (cs ms : List (BodyAt P)) → live ≡ cs ++ ms → cs ≡ []
      front_is_nothing [] ms split = refl
      front_is_nothing (k ∷ ks) ms split = let clash : [] ≡ k ∷ (ks ++ ms) = sym none ∙ split in cc

      by : (h.fin ≡ false) × ComesWhole rid h.end.conn (y.taken + length h.untaken) h.end.base x.taken mark c.rest live
          ⊎ (h.fin ≡ true) × (over ≡ true) × (live ≡ []) × (c.rest ≡ []) → c.rest ≡ []
      by (inl k) = nothing_carried rid h.end.conn (y.taken + length h.untaken) h.end.base x.taken c.rest k.1.carries k.1.are (front_is_nothing k.1.carries mark k.1.split)
      by (inr k) = k.3

  pub whole_held : (pace : Pace) (s : Seat P) (b : ℕ) (h : HeldAt P) (live : List (BodyAt P)) → IsLeft s → NumbersFit pace s (held b h) → Comes pace rid x y s (held b h) live → live ≡ [] → untaken_of x y ≡ h.untaken
  whole_held level (held a k) b h live left n c none = whole_by b h (is_over (held a k)) (mark_for rid h.end.conn x (held a k)) live c none
  whole_held level (parked a e) b h live left n c none = whole_by b h (is_over (parked a e)) (mark_for rid h.end.conn x (parked a e)) live c none
  whole_held level (closed a e) b h live left n c none = whole_by b h (is_over (closed a e)) (mark_for rid h.end.conn x (closed a e)) live c none
  whole_held level gone b h live left n c none = whole_by b h true (mark_for rid h.end.conn x gone) live c none
  whole_held level (claimed a t e) b h live left n c none = absurd left
  whole_held level (signalled a t e ds) b h live left n c none = absurd left
  whole_held level (given a t e resend ds) b h live left n c none = absurd left
  whole_held (ahead cause) gone b h live left n c none = absurd (not_level_ahead cause n.0)
  whole_held (ahead cause) (held a k) b h live left n c none = absurd (leads_to cause (held a k) (held b h) n)
  whole_held (ahead cause) (parked a e) b h live left n c none = absurd (leads_to cause (parked a e) (held b h) n)
  whole_held (ahead cause) (closed a e) b h live left n c none = absurd (leads_to cause (closed a e) (held b h) n)
  whole_held (ahead cause) (claimed a t e) b h live left n c none = absurd left
  whole_held (ahead cause) (signalled a t e ds) b h live left n c none = absurd left
  whole_held (ahead cause) (given a t e resend ds) b h live left n c none = absurd left
  whole_held (behind cause) gone b h live left n c none = absurd (not_level_behind cause n.0)
  whole_held (behind cause) (held a k) b h live left n c none = absurd (leads_to cause (held b h) (held a k) n)
  whole_held (behind cause) (parked a e) b h live left n c none = absurd (leads_to cause (held b h) (parked a e) n)
  whole_held (behind cause) (closed a e) b h live left n c none = absurd (leads_to cause (held b h) (closed a e) n)
  whole_held (behind cause) (claimed a t e) b h live left n c none = absurd left
  whole_held (behind cause) (signalled a t e ds) b h live left n c none = absurd left
  whole_held (behind cause) (given a t e resend ds) b h live left n c none = absurd left
