-- Deliveries that send nothing: a Carry or Fin that is kept, noted, dropped or deferred, and a
-- deferred Signal.
use Rattle.std.proofs.Common.{◌≡◌, ℕ, ◌+◌, ◌<◌, List, [], ◌∷◌, ◌++◌, refl, sym, ap, ◌∙◌, max, arith, inl, inr}
use Rattle.std.specs.Prelude.{Bool, true, false, ◌&&◌, ◌==◌, if◌then◌else◌, Option, Some, None, ◌⊎◌}
use Rattle.std.proofs.lemmas.Bool.{eq-eqb, ne_eqb}
use Rattle.std.proofs.lemmas.List.{map-append}
use Rattle.sj_base.specs.declared.EndId.{EndId}
use Rattle.sj_rules.specs.Record.{EndAt, BodyAt, Carry, Fin, Claim, Signal, Ack, Give, Open, MainAt, OldAt, Parked, Signalled, other_end, is_same_end}
use Rattle.sj_rules.specs.Node.{Play, NodeAt, comes, with_number, with_main, with_old, quietly}
use Rattle.sj_rules.specs.Frames.{FrameAt}
use Rattle.sj_rules.specs.World.{WorldAt}
use Rattle.sj_rules.specs.Seat.{Seat, held, parked, claimed, signalled, given, closed, gone, Side, source_for, taker_of, coming_of, peer_of, side_of}
use Rattle.sj_rules.specs.Shown.{Shows, old_in, is_lane}
use Rattle.sj_rules.specs.PlainSide.{PlainSide}
use Rattle.sj_rules.specs.Numbers.{Pace, level, NumbersFit}
use Rattle.sj_rules.specs.Invariant.{IsSound}
use Rattle.sj_rules.specs.Coming.{Comes}
use Rattle.sj_rules.specs.Linked.{subject_of}
use Rattle.sj_rules.specs.Worked.{mails_of}
use Rattle.sj_world_lemmas.proofs.TableLemmas.{Turns, with_tables}
use Rattle.sj_world_lemmas.proofs.PopLemmas.{popped}
use Rattle.sj_world_lemmas.proofs.PostLemmas.{with_posts, posts_apart}
use Rattle.sj_world_lemmas.proofs.SessionLaws.{IsPlainBody}
use Rattle.sj_world_lemmas.proofs.EventLemmas.{number_of, is_step, IsAlike, Delivered, programs_after, shown_beside, apart_after, proper_after, other_before}

-- only the end's own entries change
pub record IsOwn {P Q : Type 0} (id : EndId) (m n : NodeAt P Q) : Type 0 where
  pub mains : (d : EndId) → is_same_end d id ≡ false → n.main d ≡ m.main d
  pub olds : (d : EndId) → is_same_end d id ≡ false → n.old d ≡ m.old d
  pub program : n.program ≡ m.program

-- a new main record
pub own_main : {P Q : Type 0} → (id : EndId) (e : Option (MainAt P)) (m : NodeAt P Q) → IsOwn id m (with_main id e m)
own_main id e m = record { mains = λ d i. rw i refl; olds = λ d i. refl; program = refl }

-- a new old record
pub own_old : {P Q : Type 0} → (id : EndId) (e : Option (OldAt P)) (m : NodeAt P Q) → IsOwn id m (with_old id e m)
own_old id e m = record { mains = λ d i. refl; olds = λ d i. rw i refl; program = refl }

-- no new record
pub own_none : {P Q : Type 0} → (id : EndId) (m : NodeAt P Q) → IsOwn id m m
own_none id m = record { mains = λ d i. refl; olds = λ d i. refl; program = refl }

-- where the source of the frames is the same
pub same_source : {P : Type 0} → (s a b : Seat P) → peer_of a ≡ peer_of b → source_for s a ≡ source_for s b
same_source gone a b e = e
same_source (held t h) a b e = refl
same_source (parked t h) a b e = refl
same_source (claimed t u h) a b e = refl
same_source (signalled t u h ds) a b e = refl
same_source (given t u h r ds) a b e = refl
same_source (closed t h) a b e = refl

-- a frame that is delivered to an end, by a row that sends nothing
module _ {P Q : Type 0} (IsOver : P → Type 0) (play : Play P Q) (pick : ℕ → ℕ → ℕ) (w : WorldAt P Q) (q at : ℕ) (f : FrameAt P) (rest : List (FrameAt P)) (front : w.lanes q at ≡ f ∷ rest)
    (id : EndId) (low : id.side < 2) (about : subject_of f.body ≡ id) (n : NodeAt P Q) (own : IsOwn id (w.nodes at) n)
    (row : comes pick (w.nodes at) q f.body ≡ Some (quietly n))
    (x y : PlainSide P) (s : Side P) (name : s.id ≡ other_end id) (seat : Seat P) (shown : Shows w seat s) where
  -- the clock after the delivery
  abbrev clock_after : ℕ
  clock_after = max (w.nodes at).clock f.clock + 1

  -- the world before posts
  abbrev before_posts : WorldAt P Q
  before_posts = with_tables (popped w q at rest) at clock_after n

  -- the delivery, from what is then shown
  pub delivers_quietly : (pace : Pace) (r : Side P) → r.id ≡ id → IsSound IsOver pace x y s r → Shows before_posts s.seat r → (Shows before_posts seat s → Shows before_posts r.seat s) →
      IsAlike seat r.seat → Delivered IsOver play pick w q at id x y s.seat seat
  delivers_quietly pace r r_name sound shows beside alike = record {
    to = with_posts before_posts at clock_after [];
    step = is_step play pick w q at f rest (quietly n) front row;
    programs = programs_after (popped w q at rest) at clock_after n own.program;
    pace = pace;
    other = s;
    side = r;
    outcome = record {
      name = r_name;
      other = name;
      shows = posts_apart before_posts at clock_after [] s.seat r tt shows;
      shown = posts_apart before_posts at clock_after [] r.seat s tt (beside (other_before w q at f rest front clock_after n [] id low about own.mains own.olds seat s name shown));
      sound = sound;
      apart = apart_after w q at f rest front clock_after n [] id low about own.mains own.olds tt;
      proper = proper_after w q at f rest front clock_after n [] id low about own.mains own.olds tt;
    };
    alike = alike;
    other_alike = (refl, λ keeper. (λ i. i, λ i. i));
  }

-- a frame that is dropped
pub comes_dropped : {P Q : Type 0} → (pick : ℕ → ℕ → ℕ) (n : NodeAt P Q) (q : ℕ) (b : BodyAt P) (o : EndAt P) → IsPlainBody b →
    (n.old (subject_of b) ≡ Some (Parked o)) ⊎ ((to : ℕ) × (n.old (subject_of b) ≡ Some (Signalled o to))) → number_of b ≡ o.conn → q ≡ o.peer →
    comes pick n q b ≡ Some (quietly n)
comes_dropped pick n q (Carry to conn number taken msg) o i (inl e) c p = rw (e, eq-eqb o.conn conn (sym c), eq-eqb q o.peer p) refl
comes_dropped pick n q (Carry to conn number taken msg) o i (inr e) c p = rw (e.1, eq-eqb o.conn conn (sym c), eq-eqb q o.peer p) refl
comes_dropped pick n q (Fin to conn number) o i (inl e) c p = rw (e, eq-eqb o.conn conn (sym c), eq-eqb q o.peer p) refl
comes_dropped pick n q (Fin to conn number) o i (inr e) c p = rw (e.1, eq-eqb o.conn conn (sym c), eq-eqb q o.peer p) refl
comes_dropped pick n q (Claim of) o i e c p = absurd i
comes_dropped pick n q (Signal to conn party taken) o i e c p = absurd i
comes_dropped pick n q (Ack of conn) o i e c p = absurd i
comes_dropped pick n q (Give end resend) o i e c p = absurd i
comes_dropped pick n q (Open sess) o i e c p = absurd i

-- nothing turns
pub same_turns : {P Q : Type 0} → (w : WorldAt P Q) (at : ℕ) (o : Seat P) (id : EndId) (place : P) (seat : Seat P) (old live : List (BodyAt P)) → Shows w o (side_of id place seat old live) →
    Turns at (w.nodes at) id place o o seat seat
same_turns w at o id place seat old live shows = record { main = shows.mains at; old = shows.olds at; mains = λ p e. refl; olds = λ p e. refl }

-- a number isn't the next one
pub not_next : (n : ℕ) → (n + 1 == n) ≡ false
not_next n = ne_eqb (n + 1) n (λ e. omega (arith, e))

-- no frame of the next number has an old record
pub none_of_next : {P : Type 0} → (e : EndAt P) (u : ℕ) (k : Bool) → with_number (e.conn + 1) (if k then Some (Signalled e u) else None) ≡ None
none_of_next e u true = rw (ne_eqb e.conn (e.conn + 1) (λ i. omega (arith, i))) refl
none_of_next e u false = refl

-- one more is deferred
pub one_more : {P : Type 0} → (from : ℕ) (ds : List (BodyAt P)) (b : BodyAt P) → mails_of from (ds ++ b ∷ []) ≡ mails_of from ds ++ record { party = from; body = b } ∷ []
one_more from ds b = simp map-append

-- beside an end that was Closed and is gone
pub beside_gone : {P Q : Type 0} → (w : WorldAt P Q) (b : ℕ) (e : EndAt P) (s : Side P) → (peer_of s.seat ≡ b) ⊎ ((s.seat ≡ gone) × (s.live ≡ [])) → Shows w (closed b e) s → Shows w gone s
beside_gone w b e s (inl i) v = shown_beside w (closed b e) gone s i v
beside_gone {P} w b e s (inr i) v = record {
  mains = λ p. v.mains p ∙ rw i.0 refl;
  olds = v.olds;
  frames = λ p q c. v.frames p q c ∙ ap (λ l. old_in s.seat s.old p q c ++ l) (nothing (is_lane p q b (taker_of s.seat) && (c == coming_of s.seat)) (is_lane p q (peer_of s.seat) (taker_of s.seat) && (c == coming_of s.seat)));
  claims = v.claims;
  gives = v.gives;
}
  where
    nothing : (k l : Bool) → (if k then s.live else []) ≡ (if l then s.live else [])
    nothing true true = refl
    nothing true false = i.1
    nothing false true = sym i.1
    nothing false false = refl

-- the other end has the party as its peer, or is gone with nothing to come
pub closed_beside : {P : Type 0} → (sid : EndId) (x y : PlainSide P) (b : ℕ) (e : EndAt P) (seat : Seat P) (live : List (BodyAt P)) →
    NumbersFit level seat (closed b e) → Comes level sid y x (closed b e) seat live → (peer_of seat ≡ b) ⊎ ((seat ≡ gone) × (live ≡ []))
closed_beside sid x y b e gone live n c = inr (refl, c)
closed_beside sid x y b e seat live n c = inl n.1
