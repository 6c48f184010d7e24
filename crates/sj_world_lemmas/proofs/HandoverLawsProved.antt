-- The session laws of Signals, Acks and Gives.
use Rattle.std.proofs.Common.{◌≡◌, ℕ, ◌+◌, List, [], ◌∷◌, ◌++◌, refl, sym, ap, subst, ◌∙◌, arith, inl, inr, append_assoc}
use Rattle.std.specs.Prelude.{◌⊎◌, Option, Some, None}
use Rattle.std.proofs.lemmas.List.{map-append}
use Rattle.sj_base.specs.declared.EndId.{EndId}
use Rattle.sj_base.specs.declared.Msg.{Msg}
use Rattle.sj_rules.specs.Record.{EndAt, BodyAt, Signal, Ack, Give, HeldAt, Mail, other_end}
use Rattle.sj_rules.specs.Rows.{IsPick, crossing_body, acked_body, trimmed_end, end_with_peer, install, mails_of, numbered_carries, cached_from, resent_at}
use Rattle.sj_rules.specs.Seat.{held, signalled, given, Side, source_for, conn_of, peer_of, sender_of, side_of}
use Rattle.sj_rules.specs.PlainSide.{PlainSide, CountsFit}
use Rattle.sj_rules.specs.Numbers.{Pace, level, ahead, behind, by_ack, by_signal, NumbersFit, is_over}
use Rattle.sj_rules.specs.Invariant.{IsSound}
use Rattle.sj_rules.specs.Coming.{Comes, explanation}
use Rattle.sj_world_lemmas.proofs.CrossingLemmas.{crosses_first}
use Rattle.sj_world_lemmas.proofs.AheadLemmas.{acks, crosses_second}
use Rattle.sj_world_lemmas.proofs.SignalLemmas.{passes_held}
use Rattle.sj_world_lemmas.proofs.PassiveLemmas.{passed_on, passed_again, passes_to, passes_parked, passes_claimed, passes_closed}
use Rattle.sj_world_lemmas.proofs.LeavingLemmas.{not_dropped, level_mark_signal, level_mark_ack}
use Rattle.sj_world_lemmas.proofs.SourceLemmas.{IsSignalled}
use Rattle.sj_world_lemmas.proofs.WorkedLemmas.{held_on}
use Rattle.sj_world_lemmas.proofs.InstallLemmas.{again_from}
use Rattle.sj_world_lemmas.proofs.InstalledLemmas.{InstalledQuietly, InstalledBySignal, installs}
use Rattle.sj_world_lemmas.proofs.SwapLemmas.{IsThere, source_is_peer}
use Rattle.sj_world_lemmas.proofs.LeaveLemmas.{there_beside}
use Rattle.sj_world_lemmas.proofs.PaceLemmas.{numbers_level, numbers_ahead}
use Rattle.sj_world_lemmas.proofs.HandoverLaws.{DeliveryLaws, GiveAtGiven, InstallsQuietly, InstallsPassing}
use Rattle.sj_world_lemmas.proofs.SessionLaws.{SoundWith, SignalAtOld, AckAtOld}
use Rattle.sj_world_lemmas.proofs.PlainLawsProved.{plain_held_law, plain_parked_law, plain_claimed_law, plain_old_law, plain_closed_law, defers_signalled_law, defers_given_law, live_law, sender_law}
use Rattle.sj_world_lemmas.proofs.ActLawsProved.{claim_law}

module _ {P : Type 0} (IsOver : P → Type 0) (pick : ℕ → ℕ → ℕ) (picks : IsPick pick) (x y : PlainSide P) (counts : CountsFit x y) (back : CountsFit y x) (s : Side P) (id : EndId) (place : P) where
  -- a Signal at a Signalled end
  pub signal_old_law : SignalAtOld IsOver pick x y s id place
  signal_old_law level b u e ds rest rl c p k sound =
      let m : (c ≡ e.conn) × IsSignalled s.seat = level_mark_signal id e.conn x s.seat c p k rest (not_dropped id e.conn (is_over s.seat) (explanation level id e.conn x s.seat) (Signal id c p k) rest (λ z. z) sound.there.old) in
      let here : IsSound IsOver level x y (side_of s.id s.place (signalled m.1.at m.1.to m.1.end m.1.late) s.old s.live) (side_of id place (signalled b u e ds) (Signal id c p k ∷ rest) rl) =
      subst (λ z. IsSound IsOver level x y (side_of s.id s.place z s.old s.live) (side_of id place (signalled b u e ds) (Signal id c p k ∷ rest) rl)) m.1.is sound in
      let f : (crossing_body pick e e.peer c p k ≡ Some (Give (trimmed_end pick (end_with_peer e p) k) (Some k)))
      × IsSound IsOver (behind by_signal) x y (side_of s.id s.place (signalled m.1.at m.1.to m.1.end m.1.late) s.old s.live) (side_of id place (given b u (trimmed_end pick (end_with_peer e p) k) (Some k) ds) rest rl) =
      crosses_first IsOver pick picks x y counts s.id id s.place place m.1.at m.1.to b u m.1.end e m.1.late ds s.old s.live rl rest id c p k here in
      let empty : rest ≡ [] = f.1.there.old in
      let after : SoundWith IsOver pick x y s id place (behind by_signal) (given b u (trimmed_end pick (end_with_peer e p) k) (Some k) ds) rest rl =
      subst (λ z. IsSound IsOver (behind by_signal) x y (side_of s.id s.place z s.old s.live) (side_of id place (given b u (trimmed_end pick (end_with_peer e p) k) (Some k) ds) rest rl)) (sym m.1.is) f.1 in
      (behind by_signal, empty, f.0, subst (λ l. SoundWith IsOver pick x y s id place (behind by_signal) (given b u (trimmed_end pick (end_with_peer e p) k) (Some k) ds) l rl) empty after)
  signal_old_law (ahead by_ack) b u e ds rest rl c p k sound =
      absurd (cc (not_dropped id e.conn (is_over s.seat) (explanation (ahead by_ack) id e.conn x s.seat) (Signal id c p k) rest (λ z. z) sound.there.old))
  signal_old_law (ahead by_signal) b u e ds rest rl c p k sound =
      let f : (crossing_body pick e e.peer c p k ≡ Some (Give (trimmed_end pick (end_with_peer e p) k) (Some k))) × SoundWith IsOver pick x y s id place level (given b u (trimmed_end pick (end_with_peer e p) k) (Some k) ds) rest rl =
      crosses_second IsOver pick picks x y counts s.id id s.place place s.seat b u e ds s.old s.live rl rest id c p k sound in
      let empty : rest ≡ [] = f.1.there.old in
      (level, empty, f.0, subst (λ l. SoundWith IsOver pick x y s id place level (given b u (trimmed_end pick (end_with_peer e p) k) (Some k) ds) l rl) empty f.1)
  signal_old_law (behind z) b u e ds rest rl c p k sound = absurd (cc sound.there.old)

  -- an Ack at a Signalled end
  pub ack_old_law : AckAtOld IsOver pick x y s id place
  ack_old_law level b u e ds rest rl c sound =
      absurd (level_mark_ack id e.conn x s.seat c rest (not_dropped id e.conn (is_over s.seat) (explanation level id e.conn x s.seat) (Ack id c) rest (λ z. z) sound.there.old))
  ack_old_law (ahead by_ack) b u e ds rest rl c sound =
      let f : (acked_body e e.peer c ≡ Some (Give (end_with_peer e e.peer) None)) × SoundWith IsOver pick x y s id place level (given b u (end_with_peer e e.peer) None ds) rest rl =
      acks IsOver x y counts s.id id s.place place s.seat b u e ds s.old s.live rl rest id c sound in
      let empty : rest ≡ [] = f.1.there.old in
      (level, empty, f.0, subst (λ l. SoundWith IsOver pick x y s id place level (given b u (end_with_peer e e.peer) None ds) l rl) empty f.1)
  ack_old_law (ahead by_signal) b u e ds rest rl c sound =
      absurd (cc (not_dropped id e.conn (is_over s.seat) (explanation (ahead by_signal) id e.conn x s.seat) (Ack id c) rest (λ z. z) sound.there.old))
  ack_old_law (behind z) b u e ds rest rl c sound = absurd (cc sound.there.old)

  -- deferred frames came from the peer, or none was deferred
  deferred_source : (pace : Pace) (b u : ℕ) (e : EndAt P) (resend : Option ℕ) (dr rl : List (BodyAt P)) → NumbersFit pace s.seat (given b u e resend dr) → Comes pace id x y s.seat (given b u e resend dr) rl →
      mails_of (source_for s.seat (given b u e resend dr)) dr ≡ mails_of e.peer dr
  deferred_source level b u e resend dr rl n c = ap (λ (f : ℕ). mails_of f dr) (source_is_peer s.seat (given b u e resend dr) tt n)
  deferred_source (ahead z) b u e resend dr rl n c = absurd (numbers_ahead z s.seat (given b u e resend dr) (there_beside (ahead z) s.seat (given b u e resend dr) n refl) tt n).1
  deferred_source (behind by_ack) b u e resend dr rl n c = absurd c.1
  deferred_source (behind by_signal) b u e resend dr rl n c = let none : dr ≡ [] = c.1 in rw none refl

  -- the number and the peer stay, or nothing comes
  number_stays : (pace : Pace) (b u : ℕ) (e : EndAt P) (resend : Option ℕ) (dr rl : List (BodyAt P)) (g : HeldAt P) → NumbersFit pace s.seat (given b u e resend dr) → Comes pace id x y s.seat (given b u e resend dr) rl →
      NumbersFit pace s.seat (held u g) → ((g.end.conn ≡ e.conn) × (g.end.peer ≡ e.peer)) ⊎ (rl ≡ [])
  number_stays level b u e resend dr rl g n c m =
      let i : IsThere s.seat = there_beside level s.seat (given b u e resend dr) n refl in
      let k : (conn_of s.seat ≡ e.conn) × (peer_of s.seat ≡ u) × (e.peer ≡ sender_of s.seat) = numbers_level s.seat (given b u e resend dr) i tt n in
      let l : (conn_of s.seat ≡ g.end.conn) × (peer_of s.seat ≡ u) × (g.end.peer ≡ sender_of s.seat) = numbers_level s.seat (held u g) i tt m in
      inl (sym l.0 ∙ k.0, l.2 ∙ sym k.2)
  number_stays (ahead z) b u e resend dr rl g n c m = absurd (numbers_ahead z s.seat (given b u e resend dr) (there_beside (ahead z) s.seat (given b u e resend dr) n refl) tt n).1
  number_stays (behind z) b u e resend dr rl g n c m = inr c.0

  -- what the Give sends again
  again_is : (e : EndAt P) (resend : Option ℕ) → other_end e.id ≡ s.id → resent_at e resend ≡ mails_of e.peer (again_from s.id e resend)
  again_is e None i = refl
  again_is e (Some k) i = ap (λ d. mails_of e.peer (numbered_carries d e.conn e.taken k (cached_from e k))) i

  -- a Signal was deferred
  passing : (b u : ℕ) (e : EndAt P) (resend : Option ℕ) (dr ro rl : List (BodyAt P)) → IsSound IsOver level x y s (side_of id place (given b u e resend dr) ro rl) →
      (w : InstalledBySignal IsOver pick x y s.id id s.place place s.seat s.old s.live u ro rl e resend dr level) →
      InstallsPassing IsOver pick x y s id place u e resend ro rl (held_on pick w.end w.party w.taken) (resent_at e resend ++ (passes_to pick w.end.end w.party w.taken).posts)
  passing b u e resend dr ro rl sound w =
      let ms : List Msg = cached_from (passed_on pick w.end.end w.party w.taken) w.taken in
      let numbers : (w.from.conn ≡ e.conn) × (w.from.peer ≡ u) × (e.peer ≡ w.at) = subst (λ z. NumbersFit level z (given b u e resend dr)) w.seat_is sound.numbers in
      let leads : w.end.end.conn + 1 ≡ w.from.conn + 1 = w.sound.numbers.0 in
      let conn : w.end.end.conn ≡ e.conn = omega (arith, leads, numbers.0) in
      let named : other_end w.end.end.id ≡ s.id = ap other_end w.sound.there.fits.0.name ∙ sym sound.others in
      let again : List (BodyAt P) = again_from s.id e resend in
      let given_named : other_end e.id ≡ s.id = ap other_end sound.there.fits.0.name ∙ sym sound.others in
      let posts : ℕ → EndId → ℕ → List (Mail P) = λ peer d n. record { party = peer; body = Ack d n } ∷ mails_of w.party (numbered_carries d (n + 1) w.end.end.taken w.taken ms) in
      let same : posts w.end.end.peer (other_end w.end.end.id) w.end.end.conn ≡ posts e.peer s.id e.conn = ap (λ p. posts p (other_end w.end.end.id) w.end.end.conn) w.peer_is ∙ ap (λ d. posts e.peer d w.end.end.conn) named ∙ ap (λ n. posts e.peer s.id n) conn in
      let split : mails_of e.peer (again ++ Ack s.id e.conn ∷ []) ≡ mails_of e.peer again ++ record { party = e.peer; body = Ack s.id e.conn } ∷ [] = simp map-append in
      let ack : ◌≡◌ {A = BodyAt P} (Ack s.id w.from.conn) (Ack s.id e.conn) = ap (λ n. Ack s.id n) numbers.0 in
      let olds : (s.old ++ again) ++ Ack s.id w.from.conn ∷ [] ≡ s.old ++ (again ++ Ack s.id e.conn ∷ []) = ap (λ k. (s.old ++ again) ++ k ∷ []) ack ∙ append_assoc s.old again (Ack s.id e.conn ∷ []) in
      let lives : s.live ++ passed_again pick s.id w.end.end w.party w.taken ≡ s.live ++ numbered_carries s.id (e.conn + 1) w.end.end.taken w.taken ms = ap (λ n. s.live ++ numbered_carries s.id (n + 1) w.end.end.taken w.taken ms) conn in (
        w.at,
        w.to,
        w.from,
        w.late,
        w.party,
        w.taken,
        ms,
        w.seat_is,
        w.sound.numbers.1,
        w.sound.there.comes.0,
        ap (λ l. l ++ posts w.end.end.peer (other_end w.end.end.id) w.end.end.conn) (again_is e resend given_named) ∙ ap (λ l. mails_of e.peer again ++ l) same
            ∙ sym (append_assoc (mails_of e.peer again) (record { party = e.peer; body = Ack s.id e.conn } ∷ []) (mails_of w.party (numbered_carries s.id (e.conn + 1) w.end.end.taken w.taken ms)))
            ∙ ap (λ l. l ++ mails_of w.party (numbered_carries s.id (e.conn + 1) w.end.end.taken w.taken ms)) (sym split),
        subst (λ l. IsSound IsOver (behind by_ack) x y (side_of s.id s.place (signalled w.at w.to w.from w.late) (s.old ++ (again ++ Ack s.id e.conn ∷ [])) l) (side_of id place (held u (held_on pick w.end w.party w.taken)) ro rl)) lives
            (subst (λ l. IsSound IsOver (behind by_ack) x y (side_of s.id s.place (signalled w.at w.to w.from w.late) l (s.live ++ passed_again pick s.id w.end.end w.party w.taken)) (side_of id place (held u (held_on pick w.end w.party w.taken)) ro rl)) olds w.sound),
      )

  -- a Give
  pub give_law : GiveAtGiven IsOver pick x y s id place
  give_law pace b u e resend dr ro rl sound = by (installs IsOver pick x y s.id id s.place place s.old s.live b u ro rl e dr picks pace s.seat resend counts back.fewer sound)
    where
      source : mails_of (source_for s.seat (given b u e resend dr)) dr ≡ mails_of e.peer dr
      source = deferred_source pace b u e resend dr rl sound.numbers sound.there.comes

      named : other_end e.id ≡ s.id
      named = ap other_end sound.there.fits.0.name ∙ sym sound.others

      by : InstalledQuietly IsOver pick x y s.id id s.place place s.seat s.old s.live u ro rl e resend dr pace ⊎ InstalledBySignal IsOver pick x y s.id id s.place place s.seat s.old s.live u ro rl e resend dr pace →
          (g : HeldAt P) × (posts : List (Mail P))
          × (install pick place (mails_of (source_for s.seat (given b u e resend dr)) dr) e resend ≡ Some (record { state = g; posts = posts }))
          × (InstallsQuietly IsOver pick x y s id place pace u e resend ro rl g posts ⊎ (pace ≡ level) × InstallsPassing IsOver pick x y s id place u e resend ro rl g posts)
      by (inl w) = (
        w.end,
        resent_at e resend,
        ap (λ l. install pick place l e resend) source ∙ w.row,
        inl (number_stays pace b u e resend dr rl w.end sound.numbers sound.there.comes w.sound.numbers, again_is e resend named, w.sound),
      )
      by (inr w) = (
        held_on pick w.end w.party w.taken,
        resent_at e resend ++ (passes_to pick w.end.end w.party w.taken).posts,
        ap (λ l. install pick place l e resend) source ∙ w.row,
        inr (w.pace_is, passing_at pace w.pace_is sound w),
      )
        where
          passing_at : (z : Pace) → z ≡ level → IsSound IsOver z x y s (side_of id place (given b u e resend dr) ro rl) → (v : InstalledBySignal IsOver pick x y s.id id s.place place s.seat s.old s.live u ro rl e resend dr z) →
              InstallsPassing IsOver pick x y s id place u e resend ro rl (held_on pick v.end v.party v.taken) (resent_at e resend ++ (passes_to pick v.end.end v.party v.taken).posts)
          passing_at level i d v = passing b u e resend dr ro rl d v
          passing_at (ahead c) i d v = absurd (cc i)
          passing_at (behind c) i d v = absurd (cc i)

-- the laws of the deliveries hold
pub delivery_laws : {P : Type 0} → (IsOver : P → Type 0) (pick : ℕ → ℕ → ℕ) → IsPick pick → (x y : PlainSide P) → CountsFit x y → CountsFit y x → DeliveryLaws IsOver pick x y
delivery_laws IsOver pick picks x y counts back = record {
  plain_held = plain_held_law IsOver pick picks x y counts back;
  plain_parked = plain_parked_law IsOver pick picks x y counts back;
  plain_claimed = plain_claimed_law IsOver pick picks x y counts back;
  plain_old = plain_old_law IsOver pick picks x y counts back;
  plain_closed = plain_closed_law IsOver pick picks x y counts back;
  defers_signalled = defers_signalled_law IsOver pick picks x y counts back;
  defers_given = defers_given_law IsOver pick picks x y counts back;
  live_deferrable = live_law IsOver pick picks x y counts back;
  signal_old = signal_old_law IsOver pick picks x y counts back;
  ack_old = ack_old_law IsOver pick picks x y counts back;
  claim = λ s id place low. claim_law IsOver x y s id place low pick;
  signal_sender = sender_law IsOver pick picks x y counts back;
  signal_held = λ sid id ps place a t es ds so sl b h ro rest d c p k sound. passes_held IsOver pick picks x y counts sid id ps place a t b es h ds so sl ro rest d c p k sound;
  signal_parked = λ sid id ps place a t es ds so sl b e ro rest d c p k sound. passes_parked IsOver pick picks x y counts sid id ps place a t b es e ds so sl ro rest d c p k sound;
  signal_claimed = λ sid id ps place a t es ds so sl b u e ro rest d c p k sound. passes_claimed IsOver pick picks x y counts sid id ps place a t b es e ds so sl ro rest d c p k u sound;
  signal_closed = λ sid id ps place a t es ds so sl b e ro rest d c p k sound. passes_closed IsOver pick picks x y counts sid id ps place a t b es e ds so sl ro rest d c p k sound;
  give = give_law IsOver pick picks x y counts back;
}
