-- A Carry or Fin that comes to an end that is Held, Parked or claimed.
use Rattle.std.proofs.Common.{◌≡◌, ℕ, ◌+◌, ◌<◌, List, [], ◌∷◌, refl, ◌∙◌, max, inl}
use Rattle.std.specs.Prelude.{Some, None}
use Rattle.std.proofs.lemmas.Bool.{eq-eqb}
use Rattle.sj_base.specs.declared.EndId.{EndId}
use Rattle.sj_rules.specs.Record.{EndAt, BodyAt, HeldAt, Held, Parked}
use Rattle.sj_rules.specs.Rows.{at_held}
use Rattle.sj_rules.specs.Node.{Play, comes, with_main, quietly}
use Rattle.sj_rules.specs.Frames.{FrameAt}
use Rattle.sj_rules.specs.World.{WorldAt}
use Rattle.sj_rules.specs.Seat.{held, parked, claimed, Side, source_for, side_of}
use Rattle.sj_rules.specs.Shown.{Shows}
use Rattle.sj_rules.specs.PlainSide.{PlainSide}
use Rattle.sj_rules.specs.Numbers.{level}
use Rattle.sj_rules.specs.Linked.{subject_of}
use Rattle.sj_world_lemmas.proofs.TableLemmas.{turned_shows}
use Rattle.sj_world_lemmas.proofs.PopLemmas.{popped, popped_live, IsStream, GoesUnder}
use Rattle.sj_world_lemmas.proofs.SessionLaws.{IsPlainBody, IsDeferrable, SoundWith, PlainAtHeld, PlainAtParked, PlainAtClaimed}
use Rattle.sj_world_lemmas.proofs.EventLemmas.{same_end, number_of, goes_under, deferrable_stream, comes_to_main, Delivered, shown_beside}
use Rattle.sj_world_lemmas.proofs.QuietLemmas.{comes_dropped, delivers_quietly, own_main, own_none, same_source, same_turns}

-- in the live stream
module _ {P Q : Type 0} (IsOver : P → Type 0) (play : Play P Q) (pick : ℕ → ℕ → ℕ) (w : WorldAt P Q) (f : FrameAt P) (rest : List (FrameAt P))
    (id : EndId) (low : id.side < 2) (about : subject_of f.body ≡ id)
    (x y : PlainSide P) (s : Side P) (place : P) (old left : List (BodyAt P)) where
  -- the end at a Held record
  pub plain_at_held : (b : ℕ) (h : HeldAt P) → PlainAtHeld IsOver pick x y s id place →
      w.lanes (source_for s.seat (held b h)) b ≡ f ∷ rest → IsPlainBody f.body → IsDeferrable f.body → number_of f.body ≡ h.end.conn → source_for s.seat (held b h) ≡ h.end.peer →
      Shows w s.seat (side_of id place (held b h) old (f.body ∷ left)) → Shows w (held b h) s →
      SoundWith IsOver pick x y s id place level (held b h) old (f.body ∷ left) →
      Delivered IsOver play pick w (source_for s.seat (held b h)) b id x y s.seat (held b h)
  plain_at_held b h law front plain defers number source shows shown sound =
      let l : (g : HeldAt P) × (g.end.conn ≡ h.end.conn) × (g.end.peer ≡ h.end.peer) × (at_held pick h h.end.peer f.body ≡ Some (record { state = g; posts = [] })) × SoundWith IsOver pick x y s id place level (held b g) old left =
      law b h old left f.body plain sound in
      let g : HeldAt P = l.0 in
      let from : source_for s.seat (held b g) ≡ source_for s.seat (held b h) = same_source s.seat (held b g) (held b h) l.2 in
      let main : (w.nodes b).main id ≡ Some (Held h) = shows.mains b ∙ rw (eq-eqb b b refl) refl in
      let none : (w.nodes b).old id ≡ None = shows.olds b in
      let row : comes pick (w.nodes b) (source_for s.seat (held b h)) f.body ≡ Some (quietly (with_main id (Some (Held g)) (w.nodes b))) =
      comes_to_main pick (w.nodes b) (source_for s.seat (held b h)) f.body defers (rw (about, none) refl) ∙ rw (about, main, source, l.3) refl in
      let goes : GoesUnder id h.end.conn f.body = rw (← about, ← number) (goes_under f.body (deferrable_stream f.body defers)) in
      delivers_quietly IsOver play pick w (source_for s.seat (held b h)) b f rest front id low about (with_main id (Some (Held g)) (w.nodes b)) (own_main id (Some (Held g)) (w.nodes b)) row x y s sound.others (held b h) shown
      level (side_of id place (held b g) old left) refl l.4
      (turned_shows (popped w (source_for s.seat (held b h)) b rest) b (max (w.nodes b).clock f.clock + 1) (with_main id (Some (Held g)) (w.nodes b)) id place s.seat s.seat (held b h) (held b g) old old left left
      (record { main = rw (same_end id, eq-eqb b b refl) refl; old = none; mains = λ p e. rw e refl; olds = λ p e. refl })
      (λ p r c. rw (from, l.1) refl) (λ p r. refl) (λ p r. refl)
      (popped_live w s.seat (side_of id place (held b h) old (f.body ∷ left)) f rest left front (deferrable_stream f.body defers) goes refl refl shows))
      (λ v. shown_beside _ (held b h) (held b g) s refl v) (refl, λ keeper. (λ i. i, λ i. i))

  -- dropped at a Parked record
  pub plain_at_parked : (b : ℕ) (e : EndAt P) → PlainAtParked IsOver pick x y s id place →
      w.lanes (source_for s.seat (parked b e)) b ≡ f ∷ rest → IsPlainBody f.body → IsStream f.body → number_of f.body ≡ e.conn → source_for s.seat (parked b e) ≡ e.peer →
      Shows w s.seat (side_of id place (parked b e) old (f.body ∷ left)) → Shows w (parked b e) s →
      SoundWith IsOver pick x y s id place level (parked b e) old (f.body ∷ left) →
      Delivered IsOver play pick w (source_for s.seat (parked b e)) b id x y s.seat (parked b e)
  plain_at_parked b e law front plain stream number source shows shown sound =
      let old_is : (w.nodes b).old id ≡ Some (Parked e) = shows.olds b ∙ rw (eq-eqb b b refl) refl in
      let row : comes pick (w.nodes b) (source_for s.seat (parked b e)) f.body ≡ Some (quietly (w.nodes b)) =
      comes_dropped pick (w.nodes b) (source_for s.seat (parked b e)) f.body e plain (inl (rw about old_is)) number source in
      let goes : GoesUnder id e.conn f.body = rw (← about, ← number) (goes_under f.body stream) in
      delivers_quietly IsOver play pick w (source_for s.seat (parked b e)) b f rest front id low about (w.nodes b) (own_none id (w.nodes b)) row x y s sound.others (parked b e) shown
      level (side_of id place (parked b e) old left) refl (law b e old left f.body plain sound)
      (turned_shows (popped w (source_for s.seat (parked b e)) b rest) b (max (w.nodes b).clock f.clock + 1) (w.nodes b) id place s.seat s.seat (parked b e) (parked b e) old old left left
      (same_turns w b s.seat id place (parked b e) old (f.body ∷ left) shows)
      (λ p r c. refl) (λ p r. refl) (λ p r. refl)
      (popped_live w s.seat (side_of id place (parked b e) old (f.body ∷ left)) f rest left front stream goes refl refl shows))
      (λ v. v) (refl, λ keeper. (λ i. i, λ i. i))

  -- and where it is claimed
  pub plain_at_claimed : (b u : ℕ) (e : EndAt P) → PlainAtClaimed IsOver pick x y s id place →
      w.lanes (source_for s.seat (claimed b u e)) b ≡ f ∷ rest → IsPlainBody f.body → IsStream f.body → number_of f.body ≡ e.conn → source_for s.seat (claimed b u e) ≡ e.peer →
      Shows w s.seat (side_of id place (claimed b u e) old (f.body ∷ left)) → Shows w (claimed b u e) s →
      SoundWith IsOver pick x y s id place level (claimed b u e) old (f.body ∷ left) →
      Delivered IsOver play pick w (source_for s.seat (claimed b u e)) b id x y s.seat (claimed b u e)
  plain_at_claimed b u e law front plain stream number source shows shown sound =
      let old_is : (w.nodes b).old id ≡ Some (Parked e) = shows.olds b ∙ rw (eq-eqb b b refl) refl in
      let row : comes pick (w.nodes b) (source_for s.seat (claimed b u e)) f.body ≡ Some (quietly (w.nodes b)) =
      comes_dropped pick (w.nodes b) (source_for s.seat (claimed b u e)) f.body e plain (inl (rw about old_is)) number source in
      let goes : GoesUnder id e.conn f.body = rw (← about, ← number) (goes_under f.body stream) in
      delivers_quietly IsOver play pick w (source_for s.seat (claimed b u e)) b f rest front id low about (w.nodes b) (own_none id (w.nodes b)) row x y s sound.others (claimed b u e) shown
      level (side_of id place (claimed b u e) old left) refl (law b u e old left f.body plain sound)
      (turned_shows (popped w (source_for s.seat (claimed b u e)) b rest) b (max (w.nodes b).clock f.clock + 1) (w.nodes b) id place s.seat s.seat (claimed b u e) (claimed b u e) old old left left
      (same_turns w b s.seat id place (claimed b u e) old (f.body ∷ left) shows)
      (λ p r c. refl) (λ p r. refl) (λ p r. refl)
      (popped_live w s.seat (side_of id place (claimed b u e) old (f.body ∷ left)) f rest left front stream goes refl refl shows))
      (λ v. v) (refl, λ keeper. (λ i. i, λ i. i))
