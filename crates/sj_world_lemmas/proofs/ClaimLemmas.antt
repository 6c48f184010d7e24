-- A Claim comes to a Parked end.
use Rattle.std.proofs.Common.{◌≡◌, ℕ, ◌+◌, ◌<◌, List, [], ◌∷◌, ◌++◌, refl, sym, ◌∙◌, max, append-nil, inl, inr, arith}
use Rattle.std.specs.Prelude.{Bool, true, false, ◌&&◌, ◌==◌, if◌then◌else◌, Some, ◌⊎◌}
use Rattle.std.specs.List.{filter}
use Rattle.std.proofs.lemmas.Bool.{eq-eqb}
use Rattle.sj_base.specs.declared.EndId.{EndId}
use Rattle.sj_rules.specs.Record.{EndAt, BodyAt, Signal, Claim, Mail, Parked, Signalled, other_end}
use Rattle.sj_rules.specs.Node.{Play, NodeAt, comes, with_old}
use Rattle.sj_rules.specs.Frames.{FrameAt}
use Rattle.sj_rules.specs.World.{WorldAt}
use Rattle.sj_rules.specs.Seat.{Seat, claimed, signalled, Side, source_for, side_of}
use Rattle.sj_rules.specs.Shown.{Shows, is_lane, goes_to, is_claim, is_give, main_shown, old_shown}
use Rattle.sj_rules.specs.PlainSide.{PlainSide}
use Rattle.sj_rules.specs.Numbers.{Pace, level, ahead, behind, NumbersFit}
use Rattle.sj_rules.specs.Invariant.{IsSound}
use Rattle.sj_rules.specs.Coming.{Comes}
use Rattle.sj_world_lemmas.proofs.LaneLemmas.{sent_to, pop_unseen}
use Rattle.sj_world_lemmas.proofs.TableLemmas.{with_tables, mains_after, olds_after}
use Rattle.sj_world_lemmas.proofs.PopLemmas.{popped, seen_popped, rest_of}
use Rattle.sj_world_lemmas.proofs.PostLemmas.{posts_apart, sent_cons}
use Rattle.sj_world_lemmas.proofs.SwapLemmas.{IsThere, source_is_peer}
use Rattle.sj_world_lemmas.proofs.SessionLaws.{ClaimAtClaimed, with_more}
use Rattle.sj_world_lemmas.proofs.EventLemmas.{same_end, other_not, shown_beside, other_before, Delivered}
use Rattle.sj_world_lemmas.proofs.QuietLemmas.{IsOwn, own_old}
use Rattle.sj_world_lemmas.proofs.LeaveLemmas.{there_beside}
use Rattle.sj_world_lemmas.proofs.PaceLemmas.{posted_by_pace, numbers_ahead}
use Rattle.sj_world_lemmas.proofs.SendingLemmas.{delivers}

-- what comes to a claimed end comes from its peer, or nothing comes
claimed_source : {P : Type 0} → (pace : Pace) (id : EndId) (x y : PlainSide P) (s : Seat P) (b u : ℕ) (e : EndAt P) (rl : List (BodyAt P)) → IsThere s →
    NumbersFit pace s (claimed b u e) → Comes pace id x y s (claimed b u e) rl → (source_for s (claimed b u e) ≡ e.peer) ⊎ (rl ≡ [])
claimed_source level id x y s b u e rl i n c = inl (source_is_peer s (claimed b u e) tt n)
claimed_source (ahead k) id x y s b u e rl i n c = absurd (numbers_ahead k s (claimed b u e) i tt n).1
claimed_source (behind k) id x y s b u e rl i n c = inr c.0

-- what was live is under the number of the Signalled end
live_is_old : {A : Type 0} → (src peer b p q : ℕ) (k l : Bool) (rl : List A) → (src ≡ peer) ⊎ (rl ≡ []) →
    (if is_lane p q src b && k then rl else []) ≡ (if is_lane p q peer b && k then rl else []) ++ (if l then [] else [])
live_is_old src peer b p q k true rl (inl e) = rw e (sym (append-nil (if is_lane p q peer b && k then rl else [])))
live_is_old src peer b p q k false rl (inl e) = rw e (sym (append-nil (if is_lane p q peer b && k then rl else [])))
live_is_old {A} src peer b p q k l rl (inr e) = rw e (by (is_lane p q src b && k) (is_lane p q peer b && k) l)
  where
    by : (m n o : Bool) → ◌≡◌ {A = List A} (if m then [] else []) ((if n then [] else []) ++ (if o then [] else []))
    by true true true = refl
    by true true false = refl
    by true false true = refl
    by true false false = refl
    by false true true = refl
    by false true false = refl
    by false false true = refl
    by false false false = refl

module _ {P Q : Type 0} (IsOver : P → Type 0) (play : Play P Q) (pick : ℕ → ℕ → ℕ) (w : WorldAt P Q) (clock : ℕ) (rest : List (FrameAt P))
    (id : EndId) (low : id.side < 2)
    (x y : PlainSide P) (s : Side P) (place : P) (old live : List (BodyAt P)) (pace : Pace) (b u : ℕ) (e : EndAt P)
    (front : w.lanes u b ≡ record { clock = clock; body = Claim id } ∷ rest)
    (shows : Shows w s.seat (side_of id place (claimed b u e) old live)) (shown : Shows w (claimed b u e) s)
    (sound : IsSound IsOver pace x y s (side_of id place (claimed b u e) old live)) where
  -- the tables after the event
  abbrev node : NodeAt P Q
  node = with_old id (Some (Signalled e u)) (w.nodes b)

  -- the clock after the event
  abbrev now : ℕ
  now = max (w.nodes b).clock clock + 1

  -- the end is Signalled, before its Signal is posted
  signalled_shows : Shows (with_tables (popped w u b rest) b now node) s.seat (side_of id place (signalled b u e []) live [])
  signalled_shows = record {
    mains = mains_after (popped w u b rest) b now node id (main_shown (source_for s.seat (signalled b u e [])) place (signalled b u e [])) (shows.mains b) (λ p i. shows.mains p);
    olds = olds_after (popped w u b rest) b now node id (old_shown (signalled b u e [])) (rw (same_end id, eq-eqb b b refl) refl) (λ p i. shows.olds p ∙ rw i refl);
    frames = λ p q c. pop_unseen (goes_to id c) u b (record { clock = clock; body = Claim id }) rest w.lanes front refl p q ∙ shows.frames p q c
        ∙ live_is_old (source_for s.seat (claimed b u e)) e.peer b p q (c == e.conn) (is_lane p q (source_for s.seat (signalled b u e [])) u && (c == e.conn + 1)) live
        (claimed_source pace id x y s.seat b u e live (there_beside pace s.seat (claimed b u e) sound.numbers refl) sound.numbers sound.there.comes);
    claims = λ p q. seen_popped w u b (record { clock = clock; body = Claim id }) rest front (is_claim id) p q _ (shows.claims p q) ∙ rw (same_end id) (by (is_lane p q u b));
    gives = λ p q. pop_unseen (is_give id) u b (record { clock = clock; body = Claim id }) rest w.lanes front refl p q ∙ shows.gives p q;
  }
    where
      by : (k : Bool) → ◌≡◌ {A = List (BodyAt P)} (if k && true then rest_of (if k then Claim id ∷ [] else []) else (if k then Claim id ∷ [] else [])) []
      by true = refl
      by false = refl

  -- the end is Signalled, and its Signal goes to its peer
  pub claim_comes_to : ClaimAtClaimed IsOver pick x y s id place → Delivered IsOver play pick w u b id x y s.seat (claimed b u e)
  claim_comes_to law =
      let f : FrameAt P = record { clock = clock; body = Claim id } in
      let own : IsOwn id (w.nodes b) node = own_old id (Some (Signalled e u)) (w.nodes b) in
      let posts : List (Mail P) = record { party = e.peer; body = Signal (other_end id) e.conn u e.taken } ∷ [] in
      let old_is : (w.nodes b).old id ≡ Some (Parked e) = shows.olds b ∙ rw (eq-eqb b b refl) refl in
      let row : comes pick (w.nodes b) u (Claim id) ≡ Some (record { state = node; posts = posts }) = rw (old_is, sound.there.fits.0.name) refl in
      let before : Shows (with_tables (popped w u b rest) b now node) (claimed b u e) s =
      other_before w u b f rest front now node posts id low refl own.mains own.olds (claimed b u e) s sound.others shown in
      let name : s.id ≡ other_end id = sound.others in
      let sent : (to c : ℕ) → filter (goes_to s.id c) (sent_to to posts) ≡ (if (to == e.peer) && (c == e.conn) then Signal s.id e.conn u e.taken ∷ [] else []) =
      λ to c. rw name (signal_sent to c) in
      delivers IsOver play pick w u b f rest front id low refl node own posts row (refl, tt) (omega arith, tt) x y s.seat (claimed b u e)
      pace (with_more pace s (Signal s.id e.conn u e.taken ∷ [])) (side_of id place (signalled b u e []) live []) refl name (law pace b u e old live sound)
      (posts_apart (with_tables (popped w u b rest) b now node) b now posts s.seat (side_of id place (signalled b u e []) live []) (other_not id low, tt) signalled_shows)
      (shown_beside _ (claimed b u e) (signalled b u e []) (with_more pace s (Signal s.id e.conn u e.taken ∷ [])) refl
      (posted_by_pace (with_tables (popped w u b rest) b now node) b now posts (claimed b u e) s.id s.place s.old s.live (Signal s.id e.conn u e.taken ∷ []) (claimed b u e) (tt, tt) sent
      pace s.seat sound.numbers (there_beside pace s.seat (claimed b u e) sound.numbers refl) tt (λ party i. i) refl refl before))
      (refl, λ keeper. (λ i. i, λ i. i)) (refl, λ keeper. (λ i. i, λ i. i))
    where
      signal_sent : (to c : ℕ) → ◌≡◌ {A = List (BodyAt P)} (filter (goes_to {P = P} (other_end id) c) (sent_to to (record { party = e.peer; body = Signal (other_end id) e.conn u e.taken } ∷ [])))
          (if (to == e.peer) && (c == e.conn) then Signal (other_end id) e.conn u e.taken ∷ [] else [])
      signal_sent to c = sent_cons {P = P} (goes_to (other_end id) c) to (record { party = e.peer; body = Signal (other_end id) e.conn u e.taken }) [] ∙ rw (same_end (other_end id)) (append-nil _)
