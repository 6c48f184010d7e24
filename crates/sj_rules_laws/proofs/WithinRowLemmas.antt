-- The rows name only parties of the file, and keep all numbers within the limits.
use Rattle.std.proofs.Common.{◌≡◌, ℕ, ◌+◌, ◌-◌, ◌<◌, ◌≤◌, ◌==◌, nat_lt, max, Bool, true, false, not, ◌&&◌, cond, List, [], ◌∷◌, length, drop, Option, Some, None, option_map, option_and_then, refl, subst, arith}
use Rattle.std.proofs.lemmas.Bool.{and_parts, ltb-true, leb-true}
use Rattle.std.proofs.lemmas.List.{length-drop}
use Rattle.sj_base.specs.declared.EndId.{EndId}
use Rattle.sj_base.specs.declared.Msg.{Msg}
use Rattle.sj_rules.specs.Record.{EndAt, BodyAt, Carry, Fin, Claim, Signal, Ack, Give, Open, Mail, HeldAt, other_end}
use Rattle.sj_rules.specs.Limits.{limit_of_conns}
use Rattle.sj_rules.specs.Rows.{IsPick, Worked, with_first, with_last, trimmed_end, end_with_peer, numbered_carries, mails_of, cached_from, resent_posts, signal_fits, passive, passive_closed, crossing_body, acked_body, with_end, at_held, worked_record, resend_fits, resent_at, install}
use Rattle.sj_rules.specs.Within.{IdWithin, EndWithin, BodyWithin, MailWithin, MailsWithin}
use Rattle.std.specs.Prelude.{nat_le}
use Rattle.sj_joined_lemmas.proofs.LateLemmas.{all_joined}

-- what holds of f at what is there holds of the answer
pub by_map : {X Y : Type 0} → (P : Y → Type 0) (f : X → Y) (o : Option X) (y : Y) → option_map f o ≡ Some y → ((x : X) → o ≡ Some x → P (f x)) → P y
by_map P f None y h k = cc
by_map P f (Some x) y h k = let it : f x ≡ y = cc in subst P it (k x refl)

-- what holds where a test is passed
pub by_test : {Y : Type 0} → (P : Y → Type 0) (b : Bool) (o : Option Y) (y : Y) → cond b o None ≡ Some y → (o ≡ Some y → P y) → P y
by_test P true o y h k = k h
by_test P false o y h k = cc

-- the same, with the test
pub by_true : {Y : Type 0} → (P : Y → Type 0) (b : Bool) (o : Option Y) (y : Y) → cond b o None ≡ Some y → (b ≡ true → o ≡ Some y → P y) → P y
by_true P true o y h k = k refl h
by_true P false o y h k = cc

pub by_some : {Y : Type 0} → (P : Y → Type 0) (x y : Y) → Some x ≡ Some y → P x → P y
by_some P x y h k = let it : x ≡ y = cc in subst P it k

-- the other end of the session is as good
pub other_within : (n : ℕ) (e : EndId) → IdWithin n e → IdWithin n (other_end e)
other_within n e all = let sess = all.1 in (omega arith, omega (arith, sess))

-- the messages from that number on, as Carries
carries_within : (P : Type 0) (n party : ℕ) → party < n → (to : EndId) (conn taken number : ℕ) (ms : List Msg) → IdWithin n to → conn ≤ 1000 → taken ≤ 1000000 → number + length ms ≤ 1000000
    → MailsWithin n (mails_of {P = P} party (numbered_carries to conn taken number ms))
carries_within P n party lt to conn taken number [] id few told many = tt
carries_within P n party lt to conn taken number (m ∷ ms) id few told many =
    ((lt, (few, omega (arith, many), told, id)), carries_within P n party lt to conn taken (number + 1) ms id few told (omega (arith, many)))

-- what a Signal must keep to fit
signal_tells : {P : Type 0} → (e : EndAt P) (origin conn taken : ℕ) → signal_fits e origin conn taken ≡ true → (e.conn < 1000) × (taken ≤ e.sent)
signal_tells e origin conn taken h =
    let a = and_parts _ _ h in
    let b = and_parts _ _ (and_parts _ _ (and_parts _ _ a.0).0).0 in
    (ltb-true e.conn 1000 b.1, leb-true taken e.sent a.1)

module _ {P : Type 0} (n : ℕ) where
  resent_within : (e : EndAt P) (start : ℕ) → EndWithin n e → start ≤ e.sent → MailsWithin n (resent_posts e start)
  resent_within e start all le =
      let long : length (cached_from e start) ≡ length e.cache - (start - e.base) = length-drop (start - e.base) e.cache in
      let room : e.base + length e.cache ≤ e.sent = all.cached in
      let top : e.sent ≤ 1000000 = all.sent in
      carries_within P n e.peer all.peer (other_end e.id) e.conn e.taken start (cached_from e start) (other_within n e.id all.id) all.conn all.taken (omega (arith, long, room, top, le))

  later_cached : (pick : ℕ → ℕ → ℕ) → IsPick pick → (e : EndAt P) (told : ℕ) → EndWithin n e → told ≤ e.sent → pick e.base told + length (drop (pick e.base told - e.base) e.cache) ≤ e.sent
  later_cached pick picks e told all le =
      let b : ℕ = pick e.base told in
      let long : length (drop (b - e.base) e.cache) ≡ length e.cache - (b - e.base) = length-drop (b - e.base) e.cache in
      let room : e.base + length e.cache ≤ e.sent = all.cached in
      let p : (e.base ≤ b) × (b ≤ max e.base told) = picks e.base told in
      let below : b ≤ max e.base told = p.1 in
      let above : e.base ≤ b = p.0 in
      omega (arith, long, room, below, above, le)

  -- the next number, with a cache that begins later
  moved_within : (pick : ℕ → ℕ → ℕ) → IsPick pick → (e : EndAt P) (peer told : ℕ) → EndWithin n e → peer < n → e.conn < 1000 → told ≤ e.sent → EndWithin n (trimmed_end pick (end_with_peer e peer) told)
  moved_within pick picks e peer told all lt few le = record {
    id = all.id;
    peer = lt;
    conn = omega (arith, few);
    sent = all.sent;
    taken = all.taken;
    cached = later_cached pick picks e told all le;
    hops = all.hops;
  }

  -- the same number, with a cache that begins later
  later_within : (pick : ℕ → ℕ → ℕ) → IsPick pick → (e : EndAt P) (told : ℕ) → EndWithin n e → told ≤ e.sent → EndWithin n (trimmed_end pick e told)
  later_within pick picks e told all le = record { id = all.id; peer = all.peer; conn = all.conn; sent = all.sent; taken = all.taken; cached = later_cached pick picks e told all le; hops = all.hops }

  -- an end that a row leaves, and what it sends
  abbrev pub EndOut : Worked P (EndAt P) → Type 0
  EndOut w = EndWithin n w.state × MailsWithin n w.posts

  pub passive_within : (pick : ℕ → ℕ → ℕ) → IsPick pick → (e : EndAt P) (origin conn party taken : ℕ) (w : Worked P (EndAt P)) → EndWithin n e → origin < n → party < n
      → passive pick e origin conn party taken ≡ Some w → EndOut w × (w.state.sent ≡ e.sent) × (w.state.conn ≡ e.conn + 1)
  passive_within pick picks e origin conn party taken w all from to h =
      by_true (λ w. EndOut w × (w.state.sent ≡ e.sent) × (w.state.conn ≡ e.conn + 1)) (signal_fits e origin conn taken) _ w h (λ fits k.
      let tells = signal_tells e origin conn taken fits in
      let moved = moved_within pick picks e party taken all to tells.0 tells.1 in
      by_some (λ w. EndOut w × (w.state.sent ≡ e.sent) × (w.state.conn ≡ e.conn + 1)) _ w k
      ((moved, ((from, (all.conn, other_within n e.id all.id)), resent_within (trimmed_end pick (end_with_peer e party) taken) taken moved tells.1)), refl, refl))

  pub passive_closed_within : (pick : ℕ → ℕ → ℕ) → IsPick pick → (e : EndAt P) (origin conn party taken : ℕ) (w : Worked P (EndAt P)) → EndWithin n e → origin < n → party < n
      → passive_closed pick e origin conn party taken ≡ Some w → EndOut w
  passive_closed_within pick picks e origin conn party taken w all from to h =
      by_map EndOut (with_last (record { party = party; body = Fin (other_end e.id) (e.conn + 1) e.sent } ∷ [])) (passive pick e origin conn party taken) w h (λ x k.
      let p = passive_within pick picks e origin conn party taken x all from to k in
      let next : x.state.conn ≡ e.conn + 1 = p.2 in
      let few : x.state.conn ≤ 1000 = p.0.0.conn in
      (p.0.0, all_joined (MailWithin n) x.posts (record { party = party; body = Fin (other_end e.id) (e.conn + 1) e.sent } ∷ []) p.0.1 ((to, (omega (arith, next, few), all.sent, other_within n e.id all.id)), tt)))

  pub crossed_within : (pick : ℕ → ℕ → ℕ) → IsPick pick → (e : EndAt P) (origin conn party taken : ℕ) (b : BodyAt P) → EndWithin n e → party < n → crossing_body pick e origin conn party taken ≡ Some b → BodyWithin n b
  crossed_within pick picks e origin conn party taken b all to h =
      by_true (BodyWithin n) (signal_fits e origin conn taken) _ b h (λ fits k.
      let tells = signal_tells e origin conn taken fits in
      by_some (BodyWithin n) _ b k (moved_within pick picks e party taken all to tells.0 tells.1))

  pub acked_within : (e : EndAt P) (origin conn : ℕ) (b : BodyAt P) → EndWithin n e → acked_body e origin conn ≡ Some b → BodyWithin n b
  acked_within e origin conn b all h =
      by_true (BodyWithin n) ((conn == e.conn) && nat_lt e.conn limit_of_conns && (origin == e.peer)) _ b h (λ fits k.
      let few : e.conn < 1000 = ltb-true e.conn 1000 (and_parts _ _ (and_parts _ _ fits).0).1 in
      by_some (BodyWithin n) _ b k (record { id = all.id; peer = all.peer; conn = omega (arith, few); sent = all.sent; taken = all.taken; cached = all.cached; hops = all.hops }))

  -- ---- at a Held end

  abbrev pub HeldOut : Worked P (HeldAt P) → Type 0
  HeldOut w = EndWithin n w.state.end × MailsWithin n w.posts

  module _ (pick : ℕ → ℕ → ℕ) (picks : IsPick pick) where
    pub at_held_within : (h : HeldAt P) (origin : ℕ) (b : BodyAt P) (w : Worked P (HeldAt P)) → EndWithin n h.end → origin < n → BodyWithin n b → at_held pick h origin b ≡ Some w → HeldOut w
    at_held_within h origin (Carry to conn number taken msg) w all from named k =
        by_true HeldOut ((conn == h.end.conn) && (origin == h.end.peer) && not h.fin && (number == h.end.taken + length h.untaken)
        && nat_le h.end.base taken && nat_le taken h.end.sent) _ w k (λ fits t.
        by_some HeldOut _ w t (later_within pick picks h.end taken all (leb-true taken h.end.sent (and_parts _ _ fits).1), tt))
    at_held_within h origin (Fin to conn number) w all from named k =
        by_test HeldOut ((conn == h.end.conn) && (origin == h.end.peer) && not h.fin && (number == h.end.taken + length h.untaken)) _ w k (λ t. by_some HeldOut _ w t (all, tt))
    at_held_within h origin (Signal to conn party taken) w all from named k =
        by_map HeldOut (with_end h) (passive pick h.end origin conn party taken) w k (λ x t. (passive_within pick picks h.end origin conn party taken x all from named.1 t).0)
    at_held_within h origin (Claim of) w all from named k = cc
    at_held_within h origin (Ack of conn) w all from named k = cc
    at_held_within h origin (Give e resend) w all from named k = cc
    at_held_within h origin (Open sess) w all from named k = cc

    after_first : (o : Option (Worked P (HeldAt P))) (w : Worked P (HeldAt P)) (rest : Worked P (HeldAt P) → Option (Worked P (HeldAt P)))
        → ((x : Worked P (HeldAt P)) → o ≡ Some x → HeldOut x)
        → ((x y : Worked P (HeldAt P)) → EndWithin n x.state.end → rest x ≡ Some y → HeldOut y)
        → option_and_then (λ x. option_map (with_first x.posts) (rest x)) o ≡ Some w → HeldOut w
    after_first None w rest first later k = cc
    after_first (Some x) w rest first later k =
        let p = first x refl in
        by_map HeldOut (with_first x.posts) (rest x) w k (λ y u.
        let q = later x y p.0 u in
        (q.0, all_joined (MailWithin n) x.posts y.posts p.1 q.1))

    pub worked_off_within : (h : HeldAt P) (ms : List (Mail P)) (w : Worked P (HeldAt P)) → EndWithin n h.end → MailsWithin n ms → worked_record pick h ms ≡ Some w → HeldOut w
    worked_off_within h [] w lt all k = by_some HeldOut (record { state = h; posts = [] }) w k (lt, tt)
    worked_off_within h (m ∷ ms) w lt all k =
        after_first (at_held pick h m.party m.body) w (λ x. worked_record pick x.state ms)
        (λ x t. at_held_within h m.party m.body x lt all.0.0 all.0.1 t)
        (λ x y lt' t. worked_off_within x.state ms y lt' all.1 t) k

    resent_at_within : (e : EndAt P) (resend : Option ℕ) → EndWithin n e → resend_fits e resend ≡ true → MailsWithin n (resent_at e resend)
    resent_at_within e None all fits = tt
    resent_at_within e (Some k) all fits = resent_within e k all (leb-true k e.sent (and_parts _ _ fits).1)

    pub install_within : (place : P) (deferred : List (Mail P)) (e : EndAt P) (resend : Option ℕ) (w : Worked P (HeldAt P)) → EndWithin n e → MailsWithin n deferred
        → install pick place deferred e resend ≡ Some w → HeldOut w
    install_within place deferred e resend w all mails k =
        by_true HeldOut (resend_fits e resend) _ w k (λ fits t.
        by_map HeldOut (with_first (resent_at e resend)) (worked_record pick (record { end = record e { place = place }; untaken = []; fin = false }) deferred) w t (λ y u.
        let q = worked_off_within (record { end = record e { place = place }; untaken = []; fin = false }) deferred y
        (record { id = all.id; peer = all.peer; conn = all.conn; sent = all.sent; taken = all.taken; cached = all.cached; hops = all.hops }) mails u in
        (q.0, all_joined (MailWithin n) (resent_at e resend) y.posts (resent_at_within e resend all fits) q.1)))
