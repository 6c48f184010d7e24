-- Frames under the number of a Signalled end: dropped ones, and the Signal or Ack by which the end
-- goes as a Give.
use Rattle.std.proofs.Common.{◌≡◌, ℕ, ◌+◌, ◌<◌, List, [], ◌∷◌, ◌++◌, refl, sym, ap, ◌∙◌, max, inr}
use Rattle.std.specs.Prelude.{Bool, true, false, ◌&&◌, ◌==◌, if◌then◌else◌, Option, Some, None}
use Rattle.std.proofs.lemmas.Bool.{eq-eqb}
use Rattle.sj_base.specs.declared.EndId.{EndId}
use Rattle.sj_rules.specs.Record.{EndAt, BodyAt, Give, Mail, Signalled, is_same_end}
use Rattle.sj_rules.specs.Node.{Play, NodeAt, comes, with_old, quietly, given_after}
use Rattle.sj_rules.specs.Frames.{FrameAt}
use Rattle.sj_rules.specs.World.{WorldAt}
use Rattle.sj_rules.specs.Seat.{Seat, held, parked, claimed, signalled, given, closed, gone, Side, source_for, taker_of, coming_of, side_of}
use Rattle.sj_rules.specs.Shown.{Shows, is_lane, goes_to, is_claim, is_give, old_in, main_shown}
use Rattle.sj_rules.specs.PlainSide.{PlainSide}
use Rattle.sj_rules.specs.Flowing.{deferred_of}
use Rattle.sj_rules.specs.Numbers.{Pace, NumbersFit, is_over}
use Rattle.sj_rules.specs.Linked.{subject_of}
use Rattle.sj_world_lemmas.proofs.LaneLemmas.{post_seen}
use Rattle.sj_world_lemmas.proofs.TableLemmas.{turned_shows, with_tables, mains_after, olds_after}
use Rattle.sj_world_lemmas.proofs.PopLemmas.{popped, popped_old, IsStream, GoesUnder}
use Rattle.sj_world_lemmas.proofs.PostLemmas.{with_posts, posts_apart, unseen_posts, sent_cons, AreMails}
use Rattle.sj_world_lemmas.proofs.SwapLemmas.{IsThere}
use Rattle.sj_world_lemmas.proofs.SessionLaws.{IsPlainBody, SoundWith, PlainAtOld}
use Rattle.sj_world_lemmas.proofs.EventLemmas.{same_end, not_other, number_of, goes_under, is_step, Delivered, programs_after, apart_after, proper_after, other_before}
use Rattle.sj_world_lemmas.proofs.QuietLemmas.{IsOwn, own_none, own_old, same_turns, delivers_quietly, comes_dropped}

-- beside an end that is there, frames have one source
pub source_there : {P : Type 0} → (s a b : Seat P) → IsThere s → source_for s a ≡ source_for s b
source_there gone a b i = absurd i
source_there s a b i = refl

-- the other end of one that isn't over is there
pub there_beside : {P : Type 0} → (pace : Pace) (s r : Seat P) → NumbersFit pace s r → is_over r ≡ false → IsThere s
there_beside pace gone r n e = absurd (cc (n.1, e))
there_beside pace s r n e = tt

-- nothing is deferred or comes
pub beside_bare : {P Q : Type 0} → (w : WorldAt P Q) (o o' : Seat P) (s : Side P) → s.live ≡ [] → deferred_of s.seat ≡ [] → Shows w o s → Shows w o' s
beside_bare {P} w o o' s none bare v = record {
  mains = λ p. v.mains p ∙ main_bare s.seat (source_for o s.seat) (source_for o' s.seat) p bare;
  olds = v.olds;
  frames = λ p q c. v.frames p q c ∙ ap (λ l. old_in s.seat s.old p q c ++ l)
      (nothing (is_lane p q (source_for o s.seat) (taker_of s.seat) && (c == coming_of s.seat)) (is_lane p q (source_for o' s.seat) (taker_of s.seat) && (c == coming_of s.seat)));
  claims = v.claims;
  gives = v.gives;
}
  where
    main_bare : (seat : Seat P) (a b p : ℕ) → deferred_of seat ≡ [] → main_shown a s.place seat p ≡ main_shown b s.place seat p
    main_bare (held t h) a b p e = refl
    main_bare (parked t h) a b p e = refl
    main_bare (claimed t u h) a b p e = refl
    main_bare (signalled t u h ds) a b p e = rw e refl
    main_bare (given t u h r ds) a b p e = rw e refl
    main_bare (closed t h) a b p e = refl
    main_bare gone a b p e = refl

    nothing : (k l : Bool) → (if k then s.live else []) ≡ (if l then s.live else [])
    nothing true true = refl
    nothing true false = none
    nothing false true = sym none
    nothing false false = refl

-- nothing before a list
empty_if : {A : Type 0} → (k : Bool) (l : List A) → (if k then [] else []) ++ l ≡ l
empty_if true l = refl
empty_if false l = refl

-- the Signalled end goes as a Give
given_shows : {P Q : Type 0} → (w : WorldAt P Q) (o : Seat P) (id : EndId) (place : P) (b u clock : ℕ) (e went : EndAt P) (resend : Option ℕ) (ds live : List (BodyAt P)) →
    went.id ≡ id → went.conn ≡ e.conn + 1 → IsThere o →
    Shows w o (side_of id place (signalled b u e ds) [] live) →
    Shows (with_posts (with_tables w b clock (with_old id None (w.nodes b))) b clock (record { party = u; body = Give went resend } ∷ [])) o (side_of id place (given b u went resend ds) [] live)
given_shows {P} w o id place b u clock e went resend ds live name next there v =
    let own : is_same_end went.id id ≡ true = rw name (same_end id) in
    let from : source_for o (given b u went resend ds) ≡ source_for o (signalled b u e ds) = source_there o (given b u went resend ds) (signalled b u e ds) there in
    record {
      mains = mains_after w b clock (with_old id None (w.nodes b)) id (main_shown (source_for o (given b u went resend ds)) place (given b u went resend ds)) (rw from (v.mains b)) (λ p i. rw from (v.mains p));
      olds = olds_after w b clock (with_old id None (w.nodes b)) id (λ p. None) (rw (same_end id) refl) (λ p i. v.olds p ∙ rw i refl);
      frames = λ p q c. unseen_posts (with_tables w b clock (with_old id None (w.nodes b))) b clock (record { party = u; body = Give went resend } ∷ []) (goes_to id c) (refl, tt) p q
          ∙ v.frames p q c ∙ rw (from, next) (empty_if (is_lane p q e.peer b && (c == e.conn)) (if is_lane p q (source_for o (signalled b u e ds)) u && (c == e.conn + 1) then live else []));
      claims = λ p q. unseen_posts (with_tables w b clock (with_old id None (w.nodes b))) b clock (record { party = u; body = Give went resend } ∷ []) (is_claim id) (refl, tt) p q ∙ v.claims p q;
      gives = λ p q. post_seen (is_give id) b clock (record { party = u; body = Give went resend } ∷ []) w.lanes p q
          ∙ rw (v.gives p q, sent_cons (is_give {P = P} id) q (record { party = u; body = Give went resend }) [], own) (by (p == b) (q == u));
    }
  where
    by : (k l : Bool) → [] ++ (if k then (if l && true then Give went resend ∷ [] else []) ++ [] else []) ≡ (if k && l then Give went resend ∷ [] else [])
    by true true = refl
    by true false = refl
    by false l = refl

module _ {P Q : Type 0} (IsOver : P → Type 0) (play : Play P Q) (pick : ℕ → ℕ → ℕ) (w : WorldAt P Q) (f : FrameAt P) (rest : List (FrameAt P))
    (id : EndId) (low : id.side < 2) (about : subject_of f.body ≡ id)
    (x y : PlainSide P) (s : Side P) (place : P) (left live : List (BodyAt P))
    (pace : Pace) (b u : ℕ) (e : EndAt P) (ds : List (BodyAt P))
    (front : w.lanes e.peer b ≡ f ∷ rest) (stream : IsStream f.body) (number : number_of f.body ≡ e.conn)
    (shows : Shows w s.seat (side_of id place (signalled b u e ds) (f.body ∷ left) live)) (shown : Shows w (signalled b u e ds) s)
    (sound : SoundWith IsOver pick x y s id place pace (signalled b u e ds) (f.body ∷ left) live) where
  -- its old record
  old_is : (w.nodes b).old id ≡ Some (Signalled e u)
  old_is = shows.olds b ∙ rw (eq-eqb b b refl) refl

  -- what is shown without the frame
  without : Shows (popped w e.peer b rest) s.seat (side_of id place (signalled b u e ds) left live)
  without =
      let goes : GoesUnder id e.conn f.body = rw (← about, ← number) (goes_under f.body stream) in
      popped_old w s.seat id place b u e ds f rest left live front stream goes shows

  -- a Carry or Fin is dropped
  pub plain_at_old : PlainAtOld IsOver pick x y s id place → IsPlainBody f.body → Delivered IsOver play pick w e.peer b id x y s.seat (signalled b u e ds)
  plain_at_old law plain =
      let row : comes pick (w.nodes b) e.peer f.body ≡ Some (quietly (w.nodes b)) = comes_dropped pick (w.nodes b) e.peer f.body e plain (inr (u, rw about old_is)) number refl in
      delivers_quietly IsOver play pick w e.peer b f rest front id low about (w.nodes b) (own_none id (w.nodes b)) row x y s sound.others (signalled b u e ds) shown
      pace (side_of id place (signalled b u e ds) left live) refl (law pace b u e ds left live f.body plain sound)
      (turned_shows (popped w e.peer b rest) b (max (w.nodes b).clock f.clock + 1) (w.nodes b) id place s.seat s.seat (signalled b u e ds) (signalled b u e ds) left left live live
      (same_turns w b s.seat id place (signalled b u e ds) (f.body ∷ left) live shows) (λ p r c. refl) (λ p r. refl) (λ p r. refl) without)
      (λ v. v) (refl, λ keeper. (λ i. i, λ i. i))

  -- the end goes to its new party
  pub goes_as_give : (went : EndAt P) (resend : Option ℕ) (pace' : Pace) → left ≡ [] → went.id ≡ id → went.conn ≡ e.conn + 1 → IsThere s.seat → s.live ≡ [] → deferred_of s.seat ≡ [] →
      comes pick (w.nodes b) e.peer f.body ≡ Some (given_after (w.nodes b) id u (Give went resend)) →
      SoundWith IsOver pick x y s id place pace' (given b u went resend ds) [] live → Delivered IsOver play pick w e.peer b id x y s.seat (signalled b u e ds)
  goes_as_give went resend pace' none name next there empty bare row sound' =
      let posts : List (Mail P) = record { party = u; body = Give went resend } ∷ [] in
      let clock : ℕ = max (w.nodes b).clock f.clock + 1 in
      let n : NodeAt P Q = with_old id None (w.nodes b) in
      let own : IsOwn id (w.nodes b) n = own_old id None (w.nodes b) in
      let ours : AreMails (λ k. (subject_of k).sess ≡ id.sess) posts = (ap (λ i. i.sess) name, tt) in
      let below : AreMails (λ k. (subject_of k).side < 2) posts = (rw name low, tt) in
      let here : Shows (popped w e.peer b rest) s.seat (side_of id place (signalled b u e ds) [] live) = rw none at without in
      record {
        to = with_posts (with_tables (popped w e.peer b rest) b clock n) b clock posts;
        step = is_step play pick w e.peer b f rest (given_after (w.nodes b) id u (Give went resend)) front row;
        programs = programs_after (popped w e.peer b rest) b clock n own.program;
        pace = pace';
        other = s;
        side = side_of id place (given b u went resend ds) [] live;
        outcome = record {
          name = refl;
          other = sound.others;
          shows = given_shows (popped w e.peer b rest) s.seat id place b u clock e went resend ds live name next there here;
          shown = posts_apart (with_tables (popped w e.peer b rest) b clock n) b clock posts (given b u went resend ds) s (apart_give went.id s.id name, tt)
              (beside_bare _ (signalled b u e ds) (given b u went resend ds) s empty bare
              (other_before w e.peer b f rest front clock n posts id low about own.mains own.olds (signalled b u e ds) s sound.others shown));
          sound = sound';
          apart = apart_after w e.peer b f rest front clock n posts id low about own.mains own.olds ours;
          proper = proper_after w e.peer b f rest front clock n posts id low about own.mains own.olds below;
        };
        alike = (refl, λ keeper. (λ i. i, λ i. i));
        other_alike = (refl, λ keeper. (λ i. i, λ i. i));
      }
    where
      apart_give : (a d : EndId) → a ≡ id → is_same_end a s.id ≡ false
      apart_give a d i = rw (i, sound.others) (not_other id low)
