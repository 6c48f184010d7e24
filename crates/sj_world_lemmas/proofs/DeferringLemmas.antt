-- A frame that is deferred.
use Rattle.std.proofs.Common.{◌≡◌, ℕ, ◌+◌, ◌<◌, List, [], ◌∷◌, ◌++◌, refl, ◌∙◌, max}
use Rattle.std.specs.Prelude.{◌==◌, if◌then◌else◌, Option, Some, None}
use Rattle.std.proofs.lemmas.Bool.{eq-eqb}
use Rattle.sj_base.specs.declared.EndId.{EndId}
use Rattle.sj_rules.specs.Record.{EndAt, BodyAt, MainAt, Expected, Signalled}
use Rattle.sj_rules.specs.Node.{Play, comes, with_main, quietly}
use Rattle.sj_rules.specs.Frames.{FrameAt}
use Rattle.sj_rules.specs.World.{WorldAt}
use Rattle.sj_rules.specs.Seat.{signalled, given, Side, source_for, side_of}
use Rattle.sj_rules.specs.Shown.{Shows, old_in, is_lane}
use Rattle.sj_rules.specs.PlainSide.{PlainSide}
use Rattle.sj_rules.specs.Numbers.{Pace}
use Rattle.sj_rules.specs.Linked.{subject_of}
use Rattle.sj_rules.specs.Worked.{mails_of}
use Rattle.sj_world_lemmas.proofs.TableLemmas.{turned_shows}
use Rattle.sj_world_lemmas.proofs.PopLemmas.{popped, popped_live, IsStream, GoesUnder}
use Rattle.sj_world_lemmas.proofs.SessionLaws.{IsDeferrable, SoundWith, DefersAtSignalled, DefersAtGiven}
use Rattle.sj_world_lemmas.proofs.EventLemmas.{and_false, same_end, number_of, goes_under, deferrable_stream, comes_to_main, Delivered, shown_beside}
use Rattle.sj_world_lemmas.proofs.QuietLemmas.{delivers_quietly, none_of_next, not_next, one_more, own_main, same_source}

-- in the live stream
module _ {P Q : Type 0} (IsOver : P → Type 0) (play : Play P Q) (pick : ℕ → ℕ → ℕ) (w : WorldAt P Q) (f : FrameAt P) (rest : List (FrameAt P))
    (id : EndId) (low : id.side < 2) (about : subject_of f.body ≡ id)
    (x y : PlainSide P) (s : Side P) (place : P) (old left : List (BodyAt P)) where
  -- deferred while the end is Signalled
  pub defers_at_signalled : (pace : Pace) (b u : ℕ) (e : EndAt P) (ds : List (BodyAt P)) → DefersAtSignalled IsOver pick x y s id place →
      w.lanes (source_for s.seat (signalled b u e ds)) u ≡ f ∷ rest → number_of f.body ≡ e.conn + 1 →
      Shows w s.seat (side_of id place (signalled b u e ds) old (f.body ∷ left)) → Shows w (signalled b u e ds) s →
      SoundWith IsOver pick x y s id place pace (signalled b u e ds) old (f.body ∷ left) →
      Delivered IsOver play pick w (source_for s.seat (signalled b u e ds)) u id x y s.seat (signalled b u e ds)
  defers_at_signalled pace b u e ds law front number shows shown sound =
      let l : IsDeferrable f.body × SoundWith IsOver pick x y s id place pace (signalled b u e (ds ++ f.body ∷ [])) old left = law pace b u e ds old left f.body sound in
      let src : ℕ = source_for s.seat (signalled b u e ds) in
      let from : source_for s.seat (signalled b u e (ds ++ f.body ∷ [])) ≡ source_for s.seat (signalled b u e ds) = same_source s.seat (signalled b u e (ds ++ f.body ∷ [])) (signalled b u e ds) refl in
      let main : (w.nodes u).main id ≡ Some (Expected b place (mails_of src ds)) = shows.mains u ∙ rw (eq-eqb u u refl) refl in
      let old_is : (w.nodes u).old id ≡ (if u == b then Some (Signalled e u) else None) = shows.olds u in
      let entry : Option (MainAt P) = Some (Expected b place (mails_of src ds ++ record { party = src; body = f.body } ∷ [])) in
      let row : comes pick (w.nodes u) src f.body ≡ Some (quietly (with_main id entry (w.nodes u))) =
      comes_to_main pick (w.nodes u) src f.body l.0 (rw (about, old_is, number) (none_of_next e u (u == b))) ∙ rw (about, main) refl in
      let stream : IsStream f.body = deferrable_stream f.body l.0 in
      let goes : GoesUnder id (e.conn + 1) f.body = rw (← about, ← number) (goes_under f.body stream) in
      let away : old_in (signalled b u e ds) old src u (e.conn + 1) ≡ [] = rw (not_next e.conn, and_false (is_lane src u e.peer b)) refl in
      delivers_quietly IsOver play pick w src u f rest front id low about (with_main id entry (w.nodes u)) (own_main id entry (w.nodes u)) row x y s sound.others (signalled b u e ds) shown
      pace (side_of id place (signalled b u e (ds ++ f.body ∷ [])) old left) refl l.1
      (turned_shows (popped w src u rest) u (max (w.nodes u).clock f.clock + 1) (with_main id entry (w.nodes u)) id place s.seat s.seat (signalled b u e ds) (signalled b u e (ds ++ f.body ∷ [])) old old left left
      (record { main = rw (same_end id, eq-eqb u u refl, from, one_more src ds f.body) refl; old = old_is; mains = λ p i. rw i refl; olds = λ p i. refl })
      (λ p r c. rw from refl) (λ p r. refl) (λ p r. refl)
      (popped_live w s.seat (side_of id place (signalled b u e ds) old (f.body ∷ left)) f rest left front stream goes away refl shows))
      (λ v. shown_beside _ (signalled b u e ds) (signalled b u e (ds ++ f.body ∷ [])) s refl v) (refl, λ keeper. (λ i. i, λ i. i))

  -- deferred while the end is in a Give
  pub defers_at_given : (pace : Pace) (b u : ℕ) (e : EndAt P) (resend : Option ℕ) (ds : List (BodyAt P)) → DefersAtGiven IsOver pick x y s id place →
      w.lanes (source_for s.seat (given b u e resend ds)) u ≡ f ∷ rest → number_of f.body ≡ e.conn →
      Shows w s.seat (side_of id place (given b u e resend ds) old (f.body ∷ left)) → Shows w (given b u e resend ds) s →
      SoundWith IsOver pick x y s id place pace (given b u e resend ds) old (f.body ∷ left) →
      Delivered IsOver play pick w (source_for s.seat (given b u e resend ds)) u id x y s.seat (given b u e resend ds)
  defers_at_given pace b u e resend ds law front number shows shown sound =
      let l : IsDeferrable f.body × SoundWith IsOver pick x y s id place pace (given b u e resend (ds ++ f.body ∷ [])) old left = law pace b u e resend ds old left f.body sound in
      let src : ℕ = source_for s.seat (given b u e resend ds) in
      let from : source_for s.seat (given b u e resend (ds ++ f.body ∷ [])) ≡ source_for s.seat (given b u e resend ds) = same_source s.seat (given b u e resend (ds ++ f.body ∷ [])) (given b u e resend ds) refl in
      let main : (w.nodes u).main id ≡ Some (Expected b place (mails_of src ds)) = shows.mains u ∙ rw (eq-eqb u u refl) refl in
      let old_is : (w.nodes u).old id ≡ None = shows.olds u in
      let entry : Option (MainAt P) = Some (Expected b place (mails_of src ds ++ record { party = src; body = f.body } ∷ [])) in
      let row : comes pick (w.nodes u) src f.body ≡ Some (quietly (with_main id entry (w.nodes u))) =
      comes_to_main pick (w.nodes u) src f.body l.0 (rw (about, old_is) refl) ∙ rw (about, main) refl in
      let stream : IsStream f.body = deferrable_stream f.body l.0 in
      let goes : GoesUnder id e.conn f.body = rw (← about, ← number) (goes_under f.body stream) in
      delivers_quietly IsOver play pick w src u f rest front id low about (with_main id entry (w.nodes u)) (own_main id entry (w.nodes u)) row x y s sound.others (given b u e resend ds) shown
      pace (side_of id place (given b u e resend (ds ++ f.body ∷ [])) old left) refl l.1
      (turned_shows (popped w src u rest) u (max (w.nodes u).clock f.clock + 1) (with_main id entry (w.nodes u)) id place s.seat s.seat (given b u e resend ds) (given b u e resend (ds ++ f.body ∷ [])) old old left left
      (record { main = rw (same_end id, eq-eqb u u refl, from, one_more src ds f.body) refl; old = old_is; mains = λ p i. rw i refl; olds = λ p i. refl })
      (λ p r c. rw from refl) (λ p r. refl) (λ p r. refl)
      (popped_live w s.seat (side_of id place (given b u e resend ds) old (f.body ∷ left)) f rest left front stream goes refl refl shows))
      (λ v. shown_beside _ (given b u e resend ds) (given b u e resend (ds ++ f.body ∷ [])) s refl v) (refl, λ keeper. (λ i. i, λ i. i))
