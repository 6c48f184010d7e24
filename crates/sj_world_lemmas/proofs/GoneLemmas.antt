-- A Fin comes to a Closed end, which is gone then.
use Rattle.std.proofs.Common.{◌≡◌, ℕ, ◌+◌, ◌<◌, List, [], ◌∷◌, refl, ap, ◌∙◌, max}
use Rattle.std.specs.Prelude.{Bool, true, false, ◌&&◌, ◌==◌, if◌then◌else◌, Some, None}
use Rattle.std.proofs.lemmas.Bool.{eq-eqb}
use Rattle.sj_base.specs.declared.EndId.{EndId}
use Rattle.sj_rules.specs.Record.{EndAt, BodyAt, Fin, Closed}
use Rattle.sj_rules.specs.Node.{Play, comes, with_main, quietly}
use Rattle.sj_rules.specs.Frames.{FrameAt}
use Rattle.sj_rules.specs.World.{WorldAt}
use Rattle.sj_rules.specs.Seat.{closed, gone, Side, source_for, side_of}
use Rattle.sj_rules.specs.Shown.{Shows, is_lane}
use Rattle.sj_rules.specs.PlainSide.{PlainSide}
use Rattle.sj_rules.specs.Numbers.{level}
use Rattle.sj_rules.specs.Linked.{subject_of}
use Rattle.sj_world_lemmas.proofs.TableLemmas.{turned_shows}
use Rattle.sj_world_lemmas.proofs.PopLemmas.{popped, popped_live, IsStream, GoesUnder}
use Rattle.sj_world_lemmas.proofs.SessionLaws.{IsPlainBody, SoundWith, PlainAtClosed}
use Rattle.sj_world_lemmas.proofs.EventLemmas.{same_end, number_of, goes_under, Delivered}
use Rattle.sj_world_lemmas.proofs.QuietLemmas.{own_main, delivers_quietly, beside_gone, closed_beside}

-- an empty stream, under whatever key
pub nothing_is_nothing : {A : Type 0} → (k l : Bool) (left : List A) → left ≡ [] → (if k then left else []) ≡ (if l then [] else [])
nothing_is_nothing true true left e = e
nothing_is_nothing true false left e = e
nothing_is_nothing false true left e = refl
nothing_is_nothing false false left e = refl

module _ {P Q : Type 0} (IsOver : P → Type 0) (play : Play P Q) (pick : ℕ → ℕ → ℕ) (w : WorldAt P Q) (f : FrameAt P) (rest : List (FrameAt P))
    (id : EndId) (low : id.side < 2) (about : subject_of f.body ≡ id)
    (x y : PlainSide P) (s : Side P) (place : P) (old left : List (BodyAt P)) where
  -- the end is gone
  pub plain_at_closed : (b : ℕ) (e : EndAt P) → PlainAtClosed IsOver pick x y s id place →
      w.lanes (source_for s.seat (closed b e)) b ≡ f ∷ rest → IsPlainBody f.body → IsStream f.body → number_of f.body ≡ e.conn → source_for s.seat (closed b e) ≡ e.peer →
      Shows w s.seat (side_of id place (closed b e) old (f.body ∷ left)) → Shows w (closed b e) s →
      SoundWith IsOver pick x y s id place level (closed b e) old (f.body ∷ left) →
      Delivered IsOver play pick w (source_for s.seat (closed b e)) b id x y s.seat (closed b e)
  plain_at_closed b e law front plain stream number source shows shown sound =
      let l : (c : ℕ) × (f.body ≡ Fin id c e.taken) × (left ≡ []) × (c ≡ e.conn) × SoundWith IsOver pick x y s id place level gone old [] = law b e old left f.body plain sound in
      let main : (w.nodes b).main id ≡ Some (Closed e) = shows.mains b ∙ rw (eq-eqb b b refl) refl in
      let none : (w.nodes b).old id ≡ None = shows.olds b in
      let row : comes pick (w.nodes b) (source_for s.seat (closed b e)) f.body ≡ Some (quietly (with_main id None (w.nodes b))) =
      ap (λ body. comes pick (w.nodes b) (source_for s.seat (closed b e)) body) l.1
      ∙ rw (none, main, eq-eqb l.0 e.conn l.3, eq-eqb (source_for s.seat (closed b e)) e.peer source, eq-eqb e.taken e.taken refl) refl in
      let goes : GoesUnder id e.conn f.body = rw (← about, ← number) (goes_under f.body stream) in
      delivers_quietly IsOver play pick w (source_for s.seat (closed b e)) b f rest front id low about (with_main id None (w.nodes b)) (own_main id None (w.nodes b)) row x y s sound.others (closed b e) shown
      level (side_of id place gone old []) refl l.4
      (turned_shows (popped w (source_for s.seat (closed b e)) b rest) b (max (w.nodes b).clock f.clock + 1) (with_main id None (w.nodes b)) id place s.seat s.seat (closed b e) gone old old left []
      (record { main = rw (same_end id) refl; old = none; mains = λ p i. rw i refl; olds = λ p i. refl })
      (λ p r c. nothing_is_nothing (is_lane p r (source_for s.seat (closed b e)) b && (c == e.conn)) (is_lane p r (source_for s.seat gone) 0 && (c == 0)) left l.2)
      (λ p r. refl) (λ p r. refl)
      (popped_live w s.seat (side_of id place (closed b e) old (f.body ∷ left)) f rest left front stream goes refl refl shows))
      (beside_gone _ b e s (closed_beside s.id x y b e s.seat s.live sound.numbers sound.back.comes)) (refl, λ keeper. (λ i. i, λ i. i))
