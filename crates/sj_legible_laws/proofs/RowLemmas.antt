-- The rows have only ends and messages that came to them.
use Rattle.std.proofs.Common.{◌≡◌, ℕ, zero, suc, ◌+◌, ◌-◌, ◌==◌, nat_lt, false, not, ◌&&◌, List, [], ◌∷◌, length, drop, Option, Some, None, option_map, option_and_then, refl, arith}
use Rattle.std.specs.Prelude.{nat_le}
use Rattle.std.specs.List.{AllByRecursion}
use Rattle.sj_base.specs.declared.EndId.{EndId}
use Rattle.sj_base.specs.declared.Msg.{Msg}
use Rattle.sj_lang.specs.FileAt.{FileAt}
use Rattle.sj_rules.specs.Limits.{limit_of_conns}
use Rattle.sj_rules.specs.Record.{EndAt, BodyAt, Carry, Fin, Claim, Signal, Ack, Give, Open, Mail, HeldAt, other_end}
use Rattle.sj_rules.specs.Rows.{Worked, with_first, with_last, trimmed_end, end_with_peer, numbered_carries, mails_of, cached_from, resent_posts, signal_fits, passive, passive_closed, crossing_body, acked_body, with_end, at_held, worked_record, resend_fits, resent_at, install}
use Rattle.sj_joined_lemmas.proofs.LateLemmas.{all_joined}
use Rattle.sj_rules_laws.proofs.WithinRowLemmas.{by_map, by_test, by_some}
use Rattle.sj_log.specs.Legible.{IsCount, IsEnd, IsMessage}
use Rattle.sj_legible_laws.proofs.LegibleParts.{AreMessages, EndTold, BodyTold, MailTold, MailsTold}

-- what holds of all holds of those after the first few
pub all_behind : {X : Type 0} → (P : X → Type 0) (n : ℕ) (xs : List X) → AllByRecursion P xs → AllByRecursion P (drop n xs)
all_behind P zero xs all = all
all_behind P (suc n) [] all = tt
all_behind P (suc n) (x ∷ xs) all = all_behind P n xs all.1

-- the other end of the session
pub other_told : (e : EndId) → IsEnd e → IsEnd (other_end e)
other_told e h = (h.0, omega arith)

-- the messages from that number on, as Carries
carries_told : (P : Type 0) (file : FileAt) (party : ℕ) (to : EndId) (conn taken number : ℕ) (ms : List Msg) → IsEnd to → AreMessages file ms → MailsTold file {P = P} (mails_of party (numbered_carries to conn taken number ms))
carries_told P file party to conn taken number [] h all = tt
carries_told P file party to conn taken number (m ∷ ms) h all = ((h, all.0), carries_told P file party to conn taken (number + 1) ms h all.1)

module _ {P : Type 0} (file : FileAt) where
  resent_told : (e : EndAt P) (start : ℕ) → EndTold file e → MailsTold file (resent_posts e start)
  resent_told e start all =
      carries_told P file e.peer (other_end e.id) e.conn e.taken start (cached_from e start) (other_told e.id all.id) (all_behind (IsMessage file) (start - e.base) e.cache all.cache)

  trimmed_told : (pick : ℕ → ℕ → ℕ) (e : EndAt P) (told : ℕ) → EndTold file e → EndTold file (trimmed_end pick e told)
  trimmed_told pick e told all = record { id = all.id; cache = all_behind (IsMessage file) (pick e.base told - e.base) e.cache all.cache }

  moved_told : (e : EndAt P) (peer : ℕ) → EndTold file e → EndTold file (end_with_peer e peer)
  moved_told e peer all = record { id = all.id; cache = all.cache }

  -- an end that a row leaves, and what it sends
  abbrev pub EndOut : Worked P (EndAt P) → Type 0
  EndOut w = EndTold file w.state × MailsTold file w.posts

  pub passive_told : (pick : ℕ → ℕ → ℕ) (e : EndAt P) (origin conn party taken : ℕ) (w : Worked P (EndAt P)) → EndTold file e → passive pick e origin conn party taken ≡ Some w → EndOut w
  passive_told pick e origin conn party taken w all h =
      by_test EndOut (signal_fits e origin conn taken) _ w h (λ k.
      let moved = trimmed_told pick (end_with_peer e party) taken (moved_told e party all) in
      by_some EndOut _ w k (moved, (other_told e.id all.id, resent_told (trimmed_end pick (end_with_peer e party) taken) taken moved)))

  pub passive_closed_told : (pick : ℕ → ℕ → ℕ) (e : EndAt P) (origin conn party taken : ℕ) (w : Worked P (EndAt P)) → EndTold file e → passive_closed pick e origin conn party taken ≡ Some w → EndOut w
  passive_closed_told pick e origin conn party taken w all h =
      by_map EndOut (with_last (record { party = party; body = Fin (other_end e.id) (e.conn + 1) e.sent } ∷ [])) (passive pick e origin conn party taken) w h (λ x k.
      let p = passive_told pick e origin conn party taken x all k in
      (p.0, all_joined (MailTold file) x.posts (record { party = party; body = Fin (other_end e.id) (e.conn + 1) e.sent } ∷ []) p.1 (other_told e.id all.id, tt)))

  pub crossed_told : (pick : ℕ → ℕ → ℕ) (e : EndAt P) (origin conn party taken : ℕ) (b : BodyAt P) → EndTold file e → IsCount taken → crossing_body pick e origin conn party taken ≡ Some b → BodyTold file b
  crossed_told pick e origin conn party taken b all few h =
      by_test (BodyTold file) (signal_fits e origin conn taken) _ b h (λ k.
      by_some (BodyTold file) _ b k (trimmed_told pick (end_with_peer e party) taken (moved_told e party all), few))

  pub acked_told : (e : EndAt P) (origin conn : ℕ) (b : BodyAt P) → EndTold file e → acked_body e origin conn ≡ Some b → BodyTold file b
  acked_told e origin conn b all h =
      by_test (BodyTold file) ((conn == e.conn) && nat_lt e.conn limit_of_conns && (origin == e.peer)) _ b h (λ k. by_some (BodyTold file) _ b k (moved_told e e.peer all, tt))

  -- ---- at a Held end

  abbrev pub HeldTold : HeldAt P → Type 0
  HeldTold h = EndTold file h.end × AreMessages file h.untaken

  abbrev pub HeldOut : Worked P (HeldAt P) → Type 0
  HeldOut w = HeldTold w.state × MailsTold file w.posts

  module _ (pick : ℕ → ℕ → ℕ) where
    pub at_held_told : (h : HeldAt P) (origin : ℕ) (b : BodyAt P) (w : Worked P (HeldAt P)) → HeldTold h → BodyTold file b → at_held pick h origin b ≡ Some w → HeldOut w
    at_held_told h origin (Carry to conn number taken msg) w all said k =
        by_test HeldOut ((conn == h.end.conn) && (origin == h.end.peer) && not h.fin && (number == h.end.taken + length h.untaken)
        && nat_le h.end.base taken && nat_le taken h.end.sent) _ w k (λ t.
        by_some HeldOut _ w t ((trimmed_told pick h.end taken all.0, all_joined (IsMessage file) h.untaken (msg ∷ []) all.1 (said.1, tt)), tt))
    at_held_told h origin (Fin to conn number) w all said k =
        by_test HeldOut ((conn == h.end.conn) && (origin == h.end.peer) && not h.fin && (number == h.end.taken + length h.untaken)) _ w k (λ t. by_some HeldOut _ w t (all, tt))
    at_held_told h origin (Signal to conn party taken) w all said k =
        by_map HeldOut (with_end h) (passive pick h.end origin conn party taken) w k (λ x t.
        let p = passive_told pick h.end origin conn party taken x all.0 t in ((p.0, all.1), p.1))
    at_held_told h origin (Claim of) w all said k = cc
    at_held_told h origin (Ack of conn) w all said k = cc
    at_held_told h origin (Give e resend) w all said k = cc
    at_held_told h origin (Open sess) w all said k = cc

    after_first : (o : Option (Worked P (HeldAt P))) (w : Worked P (HeldAt P)) (rest : Worked P (HeldAt P) → Option (Worked P (HeldAt P)))
        → ((x : Worked P (HeldAt P)) → o ≡ Some x → HeldOut x)
        → ((x y : Worked P (HeldAt P)) → HeldTold x.state → rest x ≡ Some y → HeldOut y)
        → option_and_then (λ x. option_map (with_first x.posts) (rest x)) o ≡ Some w → HeldOut w
    after_first None w rest first later k = cc
    after_first (Some x) w rest first later k =
        let p = first x refl in
        by_map HeldOut (with_first x.posts) (rest x) w k (λ y u.
        let q = later x y p.0 u in
        (q.0, all_joined (MailTold file) x.posts y.posts p.1 q.1))

    pub worked_off_told : (h : HeldAt P) (ms : List (Mail P)) (w : Worked P (HeldAt P)) → HeldTold h → MailsTold file ms → worked_record pick h ms ≡ Some w → HeldOut w
    worked_off_told h [] w all said k = by_some HeldOut (record { state = h; posts = [] }) w k (all, tt)
    worked_off_told h (m ∷ ms) w all said k =
        after_first (at_held pick h m.party m.body) w (λ x. worked_record pick x.state ms)
        (λ x t. at_held_told h m.party m.body x all said.0 t)
        (λ x y own t. worked_off_told x.state ms y own said.1 t) k

    resent_at_told : (e : EndAt P) (resend : Option ℕ) → EndTold file e → MailsTold file (resent_at e resend)
    resent_at_told e None all = tt
    resent_at_told e (Some k) all = resent_told e k all

    pub install_told : (place : P) (deferred : List (Mail P)) (e : EndAt P) (resend : Option ℕ) (w : Worked P (HeldAt P)) → EndTold file e → MailsTold file deferred
        → install pick place deferred e resend ≡ Some w → HeldOut w
    install_told place deferred e resend w all mails k =
        by_test HeldOut (resend_fits e resend) _ w k (λ t.
        by_map HeldOut (with_first (resent_at e resend)) (worked_record pick (record { end = record e { place = place }; untaken = []; fin = false }) deferred) w t (λ y u.
        let q = worked_off_told (record { end = record e { place = place }; untaken = []; fin = false }) deferred y (record { id = all.id; cache = all.cache }, tt) mails u in
        (q.0, all_joined (MailTold file) (resent_at e resend) y.posts (resent_at_told e resend all) q.1)))
