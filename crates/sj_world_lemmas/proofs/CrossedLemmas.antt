-- A Signal or an Ack is delivered to a Signalled end.
use Rattle.std.proofs.Common.{◌≡◌, ℕ, ◌<◌, List, [], ◌∷◌, ◌++◌, refl, ◌∙◌}
use Rattle.std.specs.Prelude.{Bool, true, false, ⊤, Some, None}
use Rattle.std.proofs.lemmas.Bool.{eq-eqb}
use Rattle.sj_base.specs.declared.EndId.{EndId}
use Rattle.sj_rules.specs.Record.{EndAt, BodyAt, Carry, Fin, Claim, Signal, Ack, Give, Open, Signalled}
use Rattle.sj_rules.specs.Rows.{crossing_body, acked_body, trimmed_end, end_with_peer}
use Rattle.sj_rules.specs.Node.{Play}
use Rattle.sj_rules.specs.Frames.{FrameAt}
use Rattle.sj_rules.specs.World.{WorldAt}
use Rattle.sj_rules.specs.Seat.{Seat, held, parked, claimed, signalled, given, closed, gone, Side, side_of}
use Rattle.sj_rules.specs.Shown.{Shows}
use Rattle.sj_rules.specs.PlainSide.{PlainSide}
use Rattle.sj_rules.specs.Flowing.{deferred_of}
use Rattle.sj_rules.specs.Numbers.{Pace, level, ahead, behind, by_ack, by_signal, Cause, turned}
use Rattle.sj_rules.specs.Coming.{Comes, AwaitsFrom, AreOld}
use Rattle.sj_rules.specs.Streams.{AreDropped, ComesLoose}
use Rattle.sj_world_lemmas.proofs.SessionLaws.{SoundWith, SignalAtOld, AckAtOld}
use Rattle.sj_world_lemmas.proofs.EventLemmas.{Delivered}
use Rattle.sj_world_lemmas.proofs.LeaveLemmas.{there_beside, goes_as_give}

-- what ends the frames of an old number
abbrev pub IsMark : {P : Type 0} → BodyAt P → Type 0
IsMark (Signal to conn party taken) = ⊤
IsMark (Ack of conn) = ⊤
IsMark (Carry to conn number taken msg) = ⊥
IsMark (Fin to conn number) = ⊥
IsMark (Claim of) = ⊥
IsMark (Give e resend) = ⊥
IsMark (Open sess) = ⊥

-- a Signal or an Ack isn't dropped
mark_dropped : {P : Type 0} → (to : EndId) (conn : ℕ) (over : Bool) (g : BodyAt P) (rest dropped : List (BodyAt P)) → IsMark g →
    g ∷ rest ≡ dropped ++ [] → AreDropped to conn over dropped → ⊥
mark_dropped to conn over g rest [] m e a = cc
mark_dropped {P} to conn over g rest (Carry d c n t k ∷ bs) m e a = let i : ◌≡◌ {A = BodyAt P} g (Carry d c n t k) = cc e in rw i at m
mark_dropped {P} to conn over g rest (Fin d c n ∷ bs) m e a = let i : ◌≡◌ {A = BodyAt P} g (Fin d c n) = cc e in rw i at m
mark_dropped to conn over g rest (Claim f ∷ bs) m e a = a
mark_dropped to conn over g rest (Signal f h q t ∷ bs) m e a = a
mark_dropped to conn over g rest (Ack f h ∷ bs) m e a = a
mark_dropped to conn over g rest (Open f ∷ bs) m e a = a
mark_dropped to conn over g rest (Give f h ∷ bs) m e a = a

-- so it is no frame where nothing else may come
no_mark : {P : Type 0} → (A : Type 0) (to : EndId) (conn : ℕ) (over : Bool) (g : BodyAt P) (rest : List (BodyAt P)) → IsMark g → ComesLoose to conn over [] (g ∷ rest) → A
no_mark A to conn over g rest m l = absurd (mark_dropped to conn over g rest l.dropped m l.split l.are)

-- nothing is deferred at an end that awaits the other
awaits_bare : {P : Type 0} → (c : Cause) (x y : PlainSide P) (seat : Seat P) → AwaitsFrom c x y seat → deferred_of seat ≡ []
awaits_bare c x y (held a h) w = refl
awaits_bare c x y (parked a e) w = refl
awaits_bare c x y (claimed a t e) w = refl
awaits_bare c x y (signalled a t e ds) w = w
awaits_bare by_ack x y (given a t e r ds) w = absurd w
awaits_bare by_signal x y (given a t e r ds) w = w
awaits_bare c x y (closed a e) w = refl
awaits_bare c x y gone w = refl

-- nothing comes to the other end while this one is to go
bare_beside : {P : Type 0} → (pace : Pace) (sid id : EndId) (x y : PlainSide P) (b u : ℕ) (e : EndAt P) (ds : List (BodyAt P)) (seat : Seat P) (live : List (BodyAt P)) (g : BodyAt P) (rest : List (BodyAt P)) →
    IsMark g → Comes (turned pace) sid y x (signalled b u e ds) seat live → AreOld pace id x seat (signalled b u e ds) (g ∷ rest) →
    (live ≡ []) × (deferred_of seat ≡ [])
bare_beside level sid id x y b u e ds (held a h) live g rest m c o = no_mark ((live ≡ []) × (deferred_of (held a h) ≡ [])) id e.conn false g rest m o
bare_beside level sid id x y b u e ds (parked a h) live g rest m c o = no_mark ((live ≡ []) × (deferred_of (parked a h) ≡ [])) id e.conn false g rest m o
bare_beside level sid id x y b u e ds (claimed a t h) live g rest m c o = no_mark ((live ≡ []) × (deferred_of (claimed a t h) ≡ [])) id e.conn false g rest m o
bare_beside level sid id x y b u e ds (signalled a t h ks) live g rest m c o = (c.0, c.1)
bare_beside level sid id x y b u e ds (given a t h r ks) live g rest m c o = no_mark ((live ≡ []) × (deferred_of (given a t h r ks) ≡ [])) id e.conn false g rest m o
bare_beside level sid id x y b u e ds (closed a h) live g rest m c o = no_mark ((live ≡ []) × (deferred_of (closed a h) ≡ [])) id e.conn true g rest m o
bare_beside level sid id x y b u e ds gone live g rest m c o = no_mark ((live ≡ []) × (◌≡◌ {A = List (BodyAt _)} [] [])) id e.conn true g rest m o
bare_beside (ahead k) sid id x y b u e ds seat live g rest m c o = (c.0, awaits_bare k y x seat c.1)
bare_beside (behind k) sid id x y b u e ds seat live g rest m c o = cc

module _ {P Q : Type 0} (IsOver : P → Type 0) (play : Play P Q) (pick : ℕ → ℕ → ℕ) (w : WorldAt P Q) (clock : ℕ) (rest : List (FrameAt P))
    (id : EndId) (low : id.side < 2)
    (x y : PlainSide P) (s : Side P) (place : P) (left live : List (BodyAt P))
    (pace : Pace) (b u : ℕ) (e : EndAt P) (ds : List (BodyAt P)) (shown : Shows w (signalled b u e ds) s) where
  -- the Signal of the other end
  pub signal_at_old : (p k : ℕ) → SignalAtOld IsOver pick x y s id place →
      w.lanes e.peer b ≡ record { clock = clock; body = Signal id e.conn p k } ∷ rest →
      Shows w s.seat (side_of id place (signalled b u e ds) (Signal id e.conn p k ∷ left) live) →
      SoundWith IsOver pick x y s id place pace (signalled b u e ds) (Signal id e.conn p k ∷ left) live →
      Delivered IsOver play pick w e.peer b id x y s.seat (signalled b u e ds)
  signal_at_old p k law front shows sound =
      let l : (pace' : Pace) × (left ≡ []) × (crossing_body pick e e.peer e.conn p k ≡ Some (Give (trimmed_end pick (end_with_peer e p) k) (Some k))) × SoundWith IsOver pick x y s id place pace' (given b u (trimmed_end pick (end_with_peer e p) k) (Some k) ds) [] live =
      law pace b u e ds left live e.conn p k sound in
      let bare : (s.live ≡ []) × (deferred_of s.seat ≡ []) = bare_beside pace s.id id x y b u e ds s.seat s.live (Signal id e.conn p k) left tt sound.back.comes sound.there.old in
      let old_here : (w.nodes b).old id ≡ Some (Signalled e u) = shows.olds b ∙ rw (eq-eqb b b refl) refl in
      goes_as_give IsOver play pick w (record { clock = clock; body = Signal id e.conn p k }) rest id low refl x y s place left live pace b u e ds front tt refl shows shown sound
      (trimmed_end pick (end_with_peer e p) k) (Some k) l.0 l.1 sound.there.fits.0.name refl (there_beside pace s.seat (signalled b u e ds) sound.numbers refl) bare.0 bare.1
      (rw (old_here, eq-eqb e.conn e.conn refl, l.2) refl) l.3

  -- the Ack
  pub ack_at_old : AckAtOld IsOver pick x y s id place →
      w.lanes e.peer b ≡ record { clock = clock; body = Ack id e.conn } ∷ rest →
      Shows w s.seat (side_of id place (signalled b u e ds) (Ack id e.conn ∷ left) live) →
      SoundWith IsOver pick x y s id place pace (signalled b u e ds) (Ack id e.conn ∷ left) live →
      Delivered IsOver play pick w e.peer b id x y s.seat (signalled b u e ds)
  ack_at_old law front shows sound =
      let l : (pace' : Pace) × (left ≡ []) × (acked_body e e.peer e.conn ≡ Some (Give (end_with_peer e e.peer) None)) × SoundWith IsOver pick x y s id place pace' (given b u (end_with_peer e e.peer) None ds) [] live =
      law pace b u e ds left live e.conn sound in
      let bare : (s.live ≡ []) × (deferred_of s.seat ≡ []) = bare_beside pace s.id id x y b u e ds s.seat s.live (Ack id e.conn) left tt sound.back.comes sound.there.old in
      let old_here : (w.nodes b).old id ≡ Some (Signalled e u) = shows.olds b ∙ rw (eq-eqb b b refl) refl in
      goes_as_give IsOver play pick w (record { clock = clock; body = Ack id e.conn }) rest id low refl x y s place left live pace b u e ds front tt refl shows shown sound
      (end_with_peer e e.peer) None l.0 l.1 sound.there.fits.0.name refl (there_beside pace s.seat (signalled b u e ds) sound.numbers refl) bare.0 bare.1
      (rw (old_here, eq-eqb e.conn e.conn refl, l.2) refl) l.3
