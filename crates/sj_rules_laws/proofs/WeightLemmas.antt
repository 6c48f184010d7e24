-- What a frame weighs: as many events as can come of it, where caches have n messages at most. The
-- rows post no more than that.
use Rattle.std.proofs.Common.{◌≡◌, ℕ, ◌+◌, ◌-◌, ◌≤◌, ◌==◌, nat_lt, false, not, ◌&&◌, List, [], ◌∷◌, ◌++◌, drop, length, Option, Some, None, option_map, option_and_then, refl, arith, length-drop}
use Rattle.std.specs.Prelude.{nat_le}
use Rattle.sj_base.specs.declared.EndId.{EndId}
use Rattle.sj_base.specs.declared.Msg.{Msg}
use Rattle.sj_rules.specs.Record.{EndAt, BodyAt, Carry, Fin, Claim, Signal, Ack, Give, Open, Mail, HeldAt, other_end}
use Rattle.sj_rules.specs.Limits.{limit_of_conns}
use Rattle.sj_rules.specs.Rows.{Worked, with_first, with_last, trimmed_end, end_with_peer, numbered_carries, mails_of, cached_from, resent_posts, signal_fits, passive, passive_closed, crossing_body, acked_body, with_end, at_held, worked_record, resend_fits, resent_at, install}
use Rattle.sj_rules_laws.proofs.WithinRowLemmas.{by_map, by_test, by_some}

-- the events that can come of a frame once it came. A Give resends a cache; an Ack makes a Give; a
-- Signal makes an Ack, a Fin and a resent cache; a Claim makes a Signal
abbrev pub worth_of : {P : Type 0} → ℕ → BodyAt P → ℕ
worth_of n (Carry to conn number taken msg) = 0
worth_of n (Fin to conn number) = 0
worth_of n (Claim of) = n + n + 4
worth_of n (Signal to conn party taken) = n + n + 3
worth_of n (Ack of conn) = n + 1
worth_of n (Give e resend) = n
worth_of n (Open sess) = 0

-- of frames that were deferred
abbrev pub worth_of_mails : {P : Type 0} → ℕ → List (Mail P) → ℕ
worth_of_mails n [] = 0
worth_of_mails n (m ∷ ms) = worth_of n m.body + worth_of_mails n ms

-- and of posts, which come first
abbrev pub weight_of_mails : {P : Type 0} → ℕ → List (Mail P) → ℕ
weight_of_mails n [] = 0
weight_of_mails n (m ∷ ms) = (worth_of n m.body + 1) + weight_of_mails n ms

-- two lists of posts, and two of deferred frames
pub weights_joined : {P : Type 0} → (n : ℕ) (xs ys : List (Mail P)) → weight_of_mails n (xs ++ ys) ≡ weight_of_mails n xs + weight_of_mails n ys
weights_joined n [] ys = omega arith
weights_joined n (x ∷ xs) ys = omega (arith, weights_joined n xs ys)

pub worths_joined : {P : Type 0} → (n : ℕ) (xs ys : List (Mail P)) → worth_of_mails n (xs ++ ys) ≡ worth_of_mails n xs + worth_of_mails n ys
worths_joined n [] ys = omega arith
worths_joined n (x ∷ xs) ys = omega (arith, worths_joined n xs ys)

-- Carries weigh one each
carries_weigh : (P : Type 0) (n party : ℕ) (to : EndId) (conn taken number : ℕ) (ms : List Msg) → weight_of_mails n (mails_of {P = P} party (numbered_carries to conn taken number ms)) ≡ length ms
carries_weigh P n party to conn taken number [] = refl
carries_weigh P n party to conn taken number (m ∷ ms) = omega (arith, carries_weigh P n party to conn taken (number + 1) ms)

-- a rest is no longer
dropped_le : {X : Type 0} → (k : ℕ) (xs : List X) → length (drop k xs) ≤ length xs
dropped_le k xs = omega (arith, length-drop k xs)

module _ {P : Type 0} (n : ℕ) where
  -- what is resent weighs no more than the cache
  resent_weighs : (e : EndAt P) (start : ℕ) → weight_of_mails n (resent_posts e start) ≤ length e.cache
  resent_weighs e start =
      omega (arith, carries_weigh P n e.peer (other_end e.id) e.conn e.taken start (cached_from e start), dropped_le (start - e.base) e.cache)

  -- an end that a row leaves keeps a cache as short, and the posts weigh no more than this
  abbrev EndPays : ℕ → Worked P (EndAt P) → Type 0
  EndPays worth w = (length w.state.cache ≤ n) × (weight_of_mails n w.posts ≤ worth)

  -- a Signal at an end that is Held, Parked or Closed
  pub passive_pays : (pick : ℕ → ℕ → ℕ) (e : EndAt P) (origin conn party taken : ℕ) (w : Worked P (EndAt P)) → length e.cache ≤ n → passive pick e origin conn party taken ≡ Some w → EndPays (n + n + 2) w
  passive_pays pick e origin conn party taken w few h =
      let new : EndAt P = trimmed_end pick (end_with_peer e party) taken in
      let short : length new.cache ≤ length e.cache = dropped_le (pick e.base taken - e.base) e.cache in
      by_test (EndPays (n + n + 2)) (signal_fits e origin conn taken) _ w h (λ k.
      by_some (EndPays (n + n + 2)) _ w k (omega (arith, short, few), omega (arith, resent_weighs new taken, short, few)))

  -- and the Fin of a Closed one
  pub passive_closed_pays : (pick : ℕ → ℕ → ℕ) (e : EndAt P) (origin conn party taken : ℕ) (w : Worked P (EndAt P)) → length e.cache ≤ n → passive_closed pick e origin conn party taken ≡ Some w → EndPays (n + n + 3) w
  passive_closed_pays pick e origin conn party taken w few h =
      let fin : List (Mail P) = record { party = party; body = Fin (other_end e.id) (e.conn + 1) e.sent } ∷ [] in
      by_map (EndPays (n + n + 3)) (with_last fin) (passive pick e origin conn party taken) w h (λ x k.
      let p = passive_pays pick e origin conn party taken x few k in
      (p.0, omega (arith, p.1, weights_joined n x.posts fin)))

  -- a Signal and an Ack at a Signalled end make a Give
  pub crossed_pays : (pick : ℕ → ℕ → ℕ) (e : EndAt P) (origin conn party taken : ℕ) (b : BodyAt P) → crossing_body pick e origin conn party taken ≡ Some b → worth_of n b ≡ n
  crossed_pays pick e origin conn party taken b h =
      by_test (λ (x : BodyAt P). worth_of n x ≡ n) (signal_fits e origin conn taken) _ b h (λ k. by_some (λ (x : BodyAt P). worth_of n x ≡ n) _ b k refl)

  pub acked_pays : (e : EndAt P) (origin conn : ℕ) (b : BodyAt P) → acked_body e origin conn ≡ Some b → worth_of n b ≡ n
  acked_pays e origin conn b h =
      by_test (λ (x : BodyAt P). worth_of n x ≡ n) ((conn == e.conn) && nat_lt e.conn limit_of_conns && (origin == e.peer)) _ b h
      (λ k. by_some (λ (x : BodyAt P). worth_of n x ≡ n) _ b k refl)

  -- ---- at a Held end

  -- the same of a Held end
  abbrev HeldPays : ℕ → Worked P (HeldAt P) → Type 0
  HeldPays worth w = (length w.state.end.cache ≤ n) × (weight_of_mails n w.posts ≤ worth)

  -- a frame at a Held end pays for what it brings
  pub at_held_pays : (pick : ℕ → ℕ → ℕ) (h : HeldAt P) (origin : ℕ) (b : BodyAt P) (w : Worked P (HeldAt P)) → length h.end.cache ≤ n → at_held pick h origin b ≡ Some w → HeldPays (worth_of n b) w
  at_held_pays pick h origin (Carry to conn number taken msg) w few k =
      by_test (HeldPays 0) ((conn == h.end.conn) && (origin == h.end.peer) && not h.fin && (number == h.end.taken + length h.untaken)
      && nat_le h.end.base taken && nat_le taken h.end.sent) _ w k (λ t. by_some (HeldPays 0) _ w t (omega (arith, dropped_le (pick h.end.base taken - h.end.base) h.end.cache, few), omega arith))
  at_held_pays pick h origin (Fin to conn number) w few k =
      by_test (HeldPays 0) ((conn == h.end.conn) && (origin == h.end.peer) && not h.fin && (number == h.end.taken + length h.untaken)) _ w k (λ t. by_some (HeldPays 0) _ w t (few, omega arith))
  at_held_pays pick h origin (Signal to conn party taken) w few k =
      by_map (HeldPays (n + n + 3)) (with_end h) (passive pick h.end origin conn party taken) w k (λ x t.
      let p = passive_pays pick h.end origin conn party taken x few t in
      (p.0, omega (arith, p.1)))
  at_held_pays pick h origin (Claim of) w few k = cc
  at_held_pays pick h origin (Ack of conn) w few k = cc
  at_held_pays pick h origin (Give e resend) w few k = cc
  at_held_pays pick h origin (Open sess) w few k = cc

  -- one frame, and then the others
  after_first : (first later : ℕ) (o : Option (Worked P (HeldAt P))) (w : Worked P (HeldAt P)) (rest : Worked P (HeldAt P) → Option (Worked P (HeldAt P)))
      → ((x : Worked P (HeldAt P)) → o ≡ Some x → HeldPays first x)
      → ((x y : Worked P (HeldAt P)) → length x.state.end.cache ≤ n → rest x ≡ Some y → HeldPays later y)
      → option_and_then (λ x. option_map (with_first x.posts) (rest x)) o ≡ Some w → HeldPays (first + later) w
  after_first first later None w rest a b k = cc
  after_first first later (Some x) w rest a b k =
      let p = a x refl in
      by_map (HeldPays (first + later)) (with_first x.posts) (rest x) w k (λ y u.
      let q = b x y p.0 u in
      (q.0, omega (arith, p.1, q.1, weights_joined n x.posts y.posts)))

  -- what was deferred pays for itself
  pub worked_off_pays : (pick : ℕ → ℕ → ℕ) (h : HeldAt P) (ms : List (Mail P)) (w : Worked P (HeldAt P)) → length h.end.cache ≤ n → worked_record pick h ms ≡ Some w → HeldPays (worth_of_mails n ms) w
  worked_off_pays pick h [] w few k = by_some (HeldPays 0) (record { state = h; posts = [] }) w k (few, omega arith)
  worked_off_pays pick h (m ∷ ms) w few k =
      after_first (worth_of n m.body) (worth_of_mails n ms) (at_held pick h m.party m.body) w (λ x. worked_record pick x.state ms)
      (λ x t. at_held_pays pick h m.party m.body x few t)
      (λ x y few' t. worked_off_pays pick x.state ms y few' t) k

  -- a Give resends a cache at most
  resent_at_weighs : (e : EndAt P) (resend : Option ℕ) → weight_of_mails n (resent_at e resend) ≤ length e.cache
  resent_at_weighs e None = omega arith
  resent_at_weighs e (Some k) = resent_weighs e k

  -- and the Give for what is resent
  pub install_pays : (pick : ℕ → ℕ → ℕ) (place : P) (deferred : List (Mail P)) (e : EndAt P) (resend : Option ℕ) (w : Worked P (HeldAt P)) → length e.cache ≤ n
      → install pick place deferred e resend ≡ Some w → weight_of_mails n w.posts ≤ n + worth_of_mails n deferred
  install_pays pick place deferred e resend w few k =
      by_test Pays (resend_fits e resend) _ w k (λ t.
      by_map Pays (with_first (resent_at e resend)) (worked_record pick (record { end = record e { place = place }; untaken = []; fin = false }) deferred) w t (λ y u.
      let q = worked_off_pays pick (record { end = record e { place = place }; untaken = []; fin = false }) deferred y few u in
      omega (arith, q.1, few, resent_at_weighs e resend, weights_joined n (resent_at e resend) y.posts)))
    where
      Pays : Worked P (HeldAt P) → Type 0
      Pays x = weight_of_mails n x.posts ≤ n + worth_of_mails n deferred
