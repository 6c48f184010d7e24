-- A Give is delivered.
use Rattle.std.proofs.Common.{◌≡◌, ℕ, ◌+◌, ◌<◌, List, [], ◌∷◌, ◌++◌, refl, sym, ap, subst, ◌∙◌, max, inl, inr, arith}
use Rattle.std.specs.Prelude.{Bool, true, false, ◌&&◌, ◌==◌, if◌then◌else◌, Option, Some, None, ◌⊎◌}
use Rattle.std.specs.List.{filter}
use Rattle.std.proofs.lemmas.List.{map-append}
use Rattle.std.proofs.lemmas.Bool.{eq-eqb}
use Rattle.sj_base.specs.declared.EndId.{EndId}
use Rattle.sj_base.specs.declared.Msg.{Msg}
use Rattle.sj_rules.specs.Record.{EndAt, BodyAt, Carry, Ack, Give, Mail, HeldAt, Held, Expected, other_end, is_same_end}
use Rattle.sj_rules.specs.Rows.{numbered_carries, mails_of, cached_from, install}
use Rattle.sj_rules.specs.Node.{Play, NodeAt, comes, with_main}
use Rattle.sj_rules.specs.Frames.{FrameAt}
use Rattle.sj_rules.specs.World.{WorldAt}
use Rattle.sj_rules.specs.Seat.{held, signalled, given, Side, source_for, side_of}
use Rattle.sj_rules.specs.Shown.{Shows, is_lane, goes_to, is_claim, is_give, main_shown}
use Rattle.sj_rules.specs.PlainSide.{PlainSide}
use Rattle.sj_rules.specs.Numbers.{Pace, level, behind, by_ack, NumbersFit}
use Rattle.sj_rules.specs.Invariant.{IsSound}
use Rattle.sj_rules.specs.Linked.{subject_of}
use Rattle.sj_world_lemmas.proofs.LaneLemmas.{sent_to, pop_unseen}
use Rattle.sj_world_lemmas.proofs.TableLemmas.{with_tables, mains_after, olds_after}
use Rattle.sj_world_lemmas.proofs.PopLemmas.{popped, seen_popped, rest_of, IsStream}
use Rattle.sj_world_lemmas.proofs.PostLemmas.{with_posts, posts_apart, posted_both, sent_cons, sent_numbered, AreMails}
use Rattle.sj_world_lemmas.proofs.InstallLemmas.{again_from}
use Rattle.sj_world_lemmas.proofs.HandoverLaws.{GiveAtGiven, InstallsQuietly, InstallsPassing}
use Rattle.sj_world_lemmas.proofs.SessionLaws.{with_more}
use Rattle.sj_world_lemmas.proofs.EventLemmas.{same_end, other_not, shown_beside, other_before, Delivered, IsAlike}
use Rattle.sj_world_lemmas.proofs.QuietLemmas.{IsOwn, own_main, same_source}
use Rattle.sj_world_lemmas.proofs.LeaveLemmas.{there_beside}
use Rattle.sj_world_lemmas.proofs.PaceLemmas.{posted_by_pace}
use Rattle.sj_world_lemmas.proofs.SendingLemmas.{delivers}
use Rattle.sj_world_lemmas.proofs.PassLemmas.{numbered_mails, mails_append, sent_append, nothing_live}

-- what goes out again
pub again_mails : {P : Type 0} → (Is : BodyAt P → Type 0) (party : ℕ) (sid : EndId) (e : EndAt P) (resend : Option ℕ) →
    ((n : ℕ) (m : Msg) → Is (Carry sid e.conn n e.taken m)) → AreMails Is (mails_of party (again_from sid e resend))
again_mails Is party sid e None h = tt
again_mails Is party sid e (Some k) h = numbered_mails Is party sid e.conn e.taken k (cached_from e k) h

-- as s sees it
pub again_sent : (P : Type 0) (sid : EndId) (e : EndAt P) (resend : Option ℕ) (to c party : ℕ) →
    filter (goes_to {P = P} sid c) (sent_to to (mails_of party (again_from sid e resend))) ≡ (if (to == party) && (c == e.conn) then again_from sid e resend else [])
again_sent P sid e None to c party = by ((to == party) && (c == e.conn))
  where
    by : (k : Bool) → ◌≡◌ {A = List (BodyAt P)} [] (if k then [] else [])
    by true = refl
    by false = refl
again_sent P sid e (Some k) to c party = sent_numbered P sid c to party e.conn e.taken k (cached_from e k) (same_end sid)

-- mails of two lists
mailed_append : {P : Type 0} → (a : ℕ) (k l : List (BodyAt P)) → mails_of a (k ++ l) ≡ mails_of a k ++ mails_of a l
mailed_append a k l = simp map-append

-- and an Ack after it
again_ack_sent : (P : Type 0) (sid : EndId) (e : EndAt P) (resend : Option ℕ) (to c party : ℕ) →
    filter (goes_to {P = P} sid c) (sent_to to (mails_of party (again_from sid e resend ++ Ack sid e.conn ∷ []))) ≡ (if (to == party) && (c == e.conn) then again_from sid e resend ++ Ack sid e.conn ∷ [] else [])
again_ack_sent P sid e resend to c party =
    ap (λ l. filter (goes_to {P = P} sid c) (sent_to to l)) (mailed_append party (again_from sid e resend) (Ack sid e.conn ∷ []))
    ∙ sent_append (goes_to {P = P} sid c) to (mails_of party (again_from sid e resend)) (record { party = party; body = Ack sid e.conn } ∷ [])
    ∙ rw (again_sent P sid e resend to c party, sent_cons (goes_to {P = P} sid c) to (record { party = party; body = Ack sid e.conn }) [], same_end sid) (by (to == party) (c == e.conn) (again_from sid e resend))
  where
    by : (k l : Bool) (more : List (BodyAt P)) → (if k && l then more else []) ++ ((if k && l then Ack sid e.conn ∷ [] else []) ++ []) ≡ (if k && l then more ++ Ack sid e.conn ∷ [] else [])
    by true true more = refl
    by true false more = refl
    by false l more = refl

module _ {P Q : Type 0} (IsOver : P → Type 0) (play : Play P Q) (pick : ℕ → ℕ → ℕ) (w : WorldAt P Q) (clock : ℕ) (rest : List (FrameAt P))
    (id : EndId) (low : id.side < 2)
    (x y : PlainSide P) (s : Side P) (place : P) (old live : List (BodyAt P)) (pace : Pace) (b u : ℕ) (e : EndAt P) (resend : Option ℕ) (dr : List (BodyAt P))
    (front : w.lanes b u ≡ record { clock = clock; body = Give e resend } ∷ rest)
    (shows : Shows w s.seat (side_of id place (given b u e resend dr) old live)) (shown : Shows w (given b u e resend dr) s)
    (sound : IsSound IsOver pace x y s (side_of id place (given b u e resend dr) old live)) where
  -- the tables after the event
  abbrev node : HeldAt P → NodeAt P Q
  node g = with_main id (Some (Held g)) (w.nodes u)

  -- the clock after the event
  abbrev now : ℕ
  now = max (w.nodes u).clock clock + 1

  -- the name in the Give
  name : e.id ≡ id
  name = sound.there.fits.0.name

  -- the end is Held
  held_shows : (g : HeldAt P) → ((g.end.conn ≡ e.conn) × (g.end.peer ≡ e.peer)) ⊎ (live ≡ []) →
      Shows (with_tables (popped w b u rest) u now (node g)) s.seat (side_of id place (held u g) old live)
  held_shows g same = record {
    mains = mains_after (popped w b u rest) u now (node g) id (main_shown 0 place (held u g)) (rw (same_end id, eq-eqb u u refl) refl) (λ p i. shows.mains p ∙ rw i refl);
    olds = olds_after (popped w b u rest) u now (node g) id (λ p. None) (shows.olds u) (λ p i. shows.olds p);
    frames = λ p q c. pop_unseen (goes_to id c) b u (record { clock = clock; body = Give e resend }) rest w.lanes front refl p q ∙ shows.frames p q c ∙ lives p q c same;
    claims = λ p q. pop_unseen (is_claim id) b u (record { clock = clock; body = Give e resend }) rest w.lanes front refl p q ∙ shows.claims p q;
    gives = λ p q. seen_popped w b u (record { clock = clock; body = Give e resend }) rest front (is_give id) p q _ (shows.gives p q) ∙ rw own (by (is_lane p q b u));
  }
    where
      own : is_same_end e.id id ≡ true
      own = rw name (same_end id)

      lives : (p q c : ℕ) → ((g.end.conn ≡ e.conn) × (g.end.peer ≡ e.peer)) ⊎ (live ≡ []) →
          (if is_lane p q (source_for s.seat (given b u e resend dr)) u && (c == e.conn) then live else []) ≡ (if is_lane p q (source_for s.seat (held u g)) u && (c == g.end.conn) then live else [])
      lives p q c (inl k) = let from : source_for s.seat (held u g) ≡ source_for s.seat (given b u e resend dr) = same_source s.seat (held u g) (given b u e resend dr) k.1 in rw (from, k.0) refl
      lives p q c (inr k) = nothing_live (is_lane p q (source_for s.seat (given b u e resend dr)) u && (c == e.conn)) (is_lane p q (source_for s.seat (held u g)) u && (c == g.end.conn)) live k

      by : (k : Bool) → ◌≡◌ {A = List (BodyAt P)} (if k && true then rest_of (if k then Give e resend ∷ [] else []) else (if k then Give e resend ∷ [] else [])) []
      by true = refl
      by false = refl

  -- it is a row of the node
  row_is : (g : HeldAt P) (posts : List (Mail P)) → install pick place (mails_of (source_for s.seat (given b u e resend dr)) dr) e resend ≡ Some (record { state = g; posts = posts }) →
      comes pick (w.nodes u) b (Give e resend) ≡ Some (record { state = node g; posts = posts })
  row_is g posts i =
      let main : (w.nodes u).main e.id ≡ Some (Expected b place (mails_of (source_for s.seat (given b u e resend dr)) dr)) = ap (λ d. (w.nodes u).main d) name ∙ shows.mains u ∙ rw (eq-eqb u u refl) refl in
      let none : (w.nodes u).old e.id ≡ None = ap (λ d. (w.nodes u).old d) name ∙ shows.olds u in
      rw (main, none, eq-eqb b b refl, i) (ap (λ d. Some (record { state = with_main d (Some (Held g)) (w.nodes u); posts = posts })) name)

  -- the other end is an end
  other_side : (other_end id).side < 2
  other_side = omega arith

  -- no Signal was deferred
  installed_quietly : (g : HeldAt P) (posts : List (Mail P)) → install pick place (mails_of (source_for s.seat (given b u e resend dr)) dr) e resend ≡ Some (record { state = g; posts = posts }) →
      InstallsQuietly IsOver pick x y s id place pace u e resend old live g posts → Delivered IsOver play pick w b u id x y s.seat (given b u e resend dr)
  installed_quietly g posts fits l =
      let f : FrameAt P = record { clock = clock; body = Give e resend } in
      let own : IsOwn id (w.nodes u) (node g) = own_main id (Some (Held g)) (w.nodes u) in
      let before : Shows (with_tables (popped w b u rest) u now (node g)) (given b u e resend dr) s =
      other_before w b u f rest front now (node g) posts id low name own.mains own.olds (given b u e resend dr) s sound.others shown in
      let mails : (Is : BodyAt P → Type 0) → ((n : ℕ) (m : Msg) → Is (Carry s.id e.conn n e.taken m)) → AreMails Is posts =
      λ Is h. subst (λ k. AreMails Is k) (sym l.1) (again_mails Is e.peer s.id e resend h) in
      let sent : (to c : ℕ) → filter (goes_to {P = P} s.id c) (sent_to to posts) ≡ (if (to == e.peer) && (c == e.conn) then again_from s.id e resend else []) =
      λ to c. ap (λ k. filter (goes_to {P = P} s.id c) (sent_to to k)) l.1 ∙ again_sent P s.id e resend to c e.peer in
      let sess_is : s.id.sess ≡ id.sess = ap (λ d. d.sess) sound.others in
      let side_is : s.id.side < 2 = rw sound.others other_side in
      let apart : is_same_end s.id id ≡ false = rw sound.others (other_not id low) in
      delivers IsOver play pick w b u f rest front id low name (node g) own posts (row_is g posts fits) (mails (λ m. (subject_of m).sess ≡ id.sess) (λ n m. sess_is)) (mails (λ m. (subject_of m).side < 2) (λ n m. side_is)) x y s.seat (given b u e resend dr)
      pace (with_more pace s (again_from s.id e resend)) (side_of id place (held u g) old live) refl sound.others l.2
      (posts_apart (with_tables (popped w b u rest) u now (node g)) u now posts s.seat (side_of id place (held u g) old live) (mails (λ m. is_same_end (subject_of m) id ≡ false) (λ n m. apart)) (held_shows g l.0))
      (shown_beside _ (given b u e resend dr) (held u g) (with_more pace s (again_from s.id e resend)) refl
      (posted_by_pace (with_tables (popped w b u rest) u now (node g)) u now posts (given b u e resend dr) s.id s.place s.old s.live (again_from s.id e resend) (given b u e resend dr) (mails IsStream (λ n m. tt)) sent
      pace s.seat sound.numbers (there_beside pace s.seat (given b u e resend dr) sound.numbers refl) tt (λ party i. i) refl refl before))
      (refl, λ keeper. (λ i. i, λ i. i)) (refl, λ keeper. (λ i. i, λ i. i))

  -- a Signal was deferred
  installed_passing : (g : HeldAt P) (posts : List (Mail P)) → install pick place (mails_of (source_for s.seat (given b u e resend dr)) dr) e resend ≡ Some (record { state = g; posts = posts }) →
      pace ≡ level → InstallsPassing IsOver pick x y s id place u e resend old live g posts → Delivered IsOver play pick w b u id x y s.seat (given b u e resend dr)
  installed_passing g posts fits even l =
      let a : ℕ = l.0 in
      let t : ℕ = l.1 in
      let es : EndAt P = l.2 in
      let ds : List (BodyAt P) = l.3 in
      let p : ℕ = l.4 in
      let k : ℕ = l.5 in
      let ms : List Msg = l.6 in
      let seat_is : s.seat ≡ signalled a t es ds = l.7 in
      let again : List (BodyAt P) = again_from s.id e resend in
      let more : List (BodyAt P) = numbered_carries s.id (e.conn + 1) g.end.taken k ms in
      let numbers : (es.conn ≡ e.conn) × (es.peer ≡ u) × (e.peer ≡ a) =
      subst (λ z. NumbersFit z (signalled a t es ds) (given b u e resend dr)) even (subst (λ z. NumbersFit pace z (given b u e resend dr)) seat_is sound.numbers) in
      let f : FrameAt P = record { clock = clock; body = Give e resend } in
      let own : IsOwn id (w.nodes u) (node g) = own_main id (Some (Held g)) (w.nodes u) in
      let s0 : Side P = side_of s.id s.place (signalled a t es ds) s.old s.live in
      let shown0 : Shows w (given b u e resend dr) s0 = subst (λ z. Shows w (given b u e resend dr) (side_of s.id s.place z s.old s.live)) seat_is shown in
      let before : Shows (with_tables (popped w b u rest) u now (node g)) (given b u e resend dr) s0 =
      other_before w b u f rest front now (node g) posts id low name own.mains own.olds (given b u e resend dr) s0 sound.others shown0 in
      let posts_are : posts ≡ mails_of e.peer (again ++ Ack s.id e.conn ∷ []) ++ mails_of p more = l.10 in
      let mails : (Is : BodyAt P → Type 0) → ((n : ℕ) (m : Msg) → Is (Carry s.id e.conn n e.taken m)) → Is (Ack s.id e.conn) → ((n : ℕ) (m : Msg) → Is (Carry s.id (e.conn + 1) n g.end.taken m)) → AreMails Is posts =
      λ Is h i j. subst (λ z. AreMails Is z) (sym posts_are)
      (mails_append Is (mails_of e.peer (again ++ Ack s.id e.conn ∷ [])) (mails_of p more)
      (subst (λ z. AreMails Is z) (sym (mailed_append e.peer again (Ack s.id e.conn ∷ [])))
      (mails_append Is (mails_of e.peer again) (record { party = e.peer; body = Ack s.id e.conn } ∷ []) (again_mails Is e.peer s.id e resend h) (i, tt)))
      (numbered_mails Is p s.id (e.conn + 1) g.end.taken k ms j)) in
      let sent : (to c : ℕ) → filter (goes_to {P = P} s.id c) (sent_to to posts) ≡ (if (to == a) && (c == es.conn) then again ++ Ack s.id e.conn ∷ [] else []) ++ (if (to == t) && (c == es.conn + 1) then more else []) =
      λ to c. ap (λ z. filter (goes_to {P = P} s.id c) (sent_to to z)) posts_are
      ∙ sent_append (goes_to {P = P} s.id c) to (mails_of e.peer (again ++ Ack s.id e.conn ∷ [])) (mails_of p more)
      ∙ rw (again_ack_sent P s.id e resend to c e.peer, sent_numbered P s.id c to p (e.conn + 1) g.end.taken k ms (same_end s.id), numbers.2, ← numbers.0, l.8) refl in
      let sess_is : s.id.sess ≡ id.sess = ap (λ d. d.sess) sound.others in
      let side_is : s.id.side < 2 = rw sound.others other_side in
      let apart : is_same_end s.id id ≡ false = rw sound.others (other_not id low) in
      delivers IsOver play pick w b u f rest front id low name (node g) own posts (row_is g posts fits) (mails (λ m. (subject_of m).sess ≡ id.sess) (λ n m. sess_is) sess_is (λ n m. sess_is)) (mails (λ m. (subject_of m).side < 2) (λ n m. side_is) side_is (λ n m. side_is)) x y s.seat (given b u e resend dr)
      (behind by_ack) (side_of s.id s.place (signalled a t es ds) (s.old ++ (again ++ Ack s.id e.conn ∷ [])) (s.live ++ more)) (side_of id place (held u g) old live) refl sound.others l.11
      (subst (λ z. Shows (with_posts (with_tables (popped w b u rest) u now (node g)) u now posts) z (side_of id place (held u g) old live)) seat_is
      (posts_apart (with_tables (popped w b u rest) u now (node g)) u now posts s.seat (side_of id place (held u g) old live) (mails (λ m. is_same_end (subject_of m) id ≡ false) (λ n m. apart) apart (λ n m. apart)) (held_shows g (inr l.9))))
      (shown_beside _ (given b u e resend dr) (held u g) (side_of s.id s.place (signalled a t es ds) (s.old ++ (again ++ Ack s.id e.conn ∷ [])) (s.live ++ more)) refl
      (posted_both (with_tables (popped w b u rest) u now (node g)) u now posts (given b u e resend dr) s.id s.place a t es ds s.old s.live (again ++ Ack s.id e.conn ∷ []) more refl numbers.1 (mails IsStream (λ n m. tt) tt (λ n m. tt)) sent before))
      (refl, λ keeper. (λ i. i, λ i. i)) (subst (λ z. IsAlike z (signalled a t es ds)) (sym seat_is) (refl, λ keeper. (λ i. i, λ i. i)))

  -- the end is Held
  pub give_comes_to : GiveAtGiven IsOver pick x y s id place → Delivered IsOver play pick w b u id x y s.seat (given b u e resend dr)
  give_comes_to law =
      let l : (g : HeldAt P) × (posts : List (Mail P)) × (install pick place (mails_of (source_for s.seat (given b u e resend dr)) dr) e resend ≡ Some (record { state = g; posts = posts }))
      × (InstallsQuietly IsOver pick x y s id place pace u e resend old live g posts ⊎ (pace ≡ level) × InstallsPassing IsOver pick x y s id place u e resend old live g posts) =
      law pace b u e resend dr old live sound in
      by l.0 l.1 l.2 l.3
    where
      by : (g : HeldAt P) (posts : List (Mail P)) → install pick place (mails_of (source_for s.seat (given b u e resend dr)) dr) e resend ≡ Some (record { state = g; posts = posts }) →
          InstallsQuietly IsOver pick x y s id place pace u e resend old live g posts ⊎ (pace ≡ level) × InstallsPassing IsOver pick x y s id place u e resend old live g posts →
          Delivered IsOver play pick w b u id x y s.seat (given b u e resend dr)
      by g posts fits (inl q) = installed_quietly g posts fits q
      by g posts fits (inr q) = installed_passing g posts fits q.0 q.1
