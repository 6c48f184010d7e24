-- What two calls of a stream, one after the other, do together.
use Rattle.std.proofs.Common.{◌≡◌, ℕ, List, [], ◌++◌, Option, Some, None, Result, Ok, Err, IfErr, IfNone, IfOk, IfSome, refl, sym, ap, ◌∙◌, subst, append_assoc, append-nil}
use Rattle.std.specs.Io.KnownBytes.{Appends, Consumes}
use Rattle.std.proofs.KnownBytes.{Appends-nil, Appends-trans, Consumes-nil}
use Rattle.sj_end.specs.Views.{frame_at}
use Rattle.sj_end.specs.declared.frames.Frame.{Frame}
use Rattle.sj_lane.specs.declared.lane.PopRefusal.{PopRefusal}
use Rattle.sj_lane.specs.declared.lane.PopRefusal.TheVariants.{Fault}
use Rattle.sj_wire.specs.Front.{Whole, front_of}
use Rattle.sj_socket.specs.Ins.{Comes, FrameComes, WayStays, unused}
use Rattle.sj_socket.specs.Outs.{WayFlushes, Writes, unsent}
use Rattle.sj_socket.specs.declared.in_lane.InWay.{InWay}
use Rattle.sj_socket.specs.declared.in_lane.InWay.TheVariants as into
use Rattle.sj_socket.specs.declared.in_lane.Reader.{Reader}
use Rattle.sj_socket.specs.declared.out_lane.OutWay.{OutWay}
use Rattle.sj_socket.specs.declared.out_lane.OutWay.TheVariants as out
use Rattle.sj_socket.specs.declared.out_lane.Writer.{Writer}
use Rattle.sj_socket.proofs.WholeLemmas.{front_behind}

-- all that was left is written, and then these bytes are
pub writes_more : {W : Type 0} (contents : W → Option (List ℕ)) (v m n w : Writer W) (bytes : List ℕ) → Writes contents (unsent v) v m → unsent m ≡ [] → n.stream ≡ m.stream → unsent n ≡ bytes →
    Writes contents (unsent n) n w → Writes contents (unsent v ++ bytes) v w
writes_more {W} contents v m n w bytes a none same is b = record {
  taken = a.taken ++ b.taken;
  all = ap (λ (bs : List ℕ). bs ++ bytes) (a.all ∙ ap (λ (bs : List ℕ). a.taken ++ bs) none ∙ append-nil a.taken)
      ∙ ap (λ (bs : List ℕ). a.taken ++ bs) (sym is ∙ b.all) ∙ sym (append_assoc a.taken b.taken (unsent w));
  holds = Appends-trans (contents v.stream) (contents m.stream) (contents w.stream) a.taken b.taken a.holds (subst (λ (s : W). Appends (contents s) (contents w.stream) b.taken) same b.holds);
}

module _ {W : Type 0} (contents : W → Option (List ℕ)) where
  pub way_flushes : (v : OutWay W) → WayFlushes contents v v
  way_flushes (out.Own xs) = tt
  way_flushes (out.Stream v) = record { taken = []; all = refl; holds = Appends-nil (contents v.stream) }

  pub flushes_later : (v m w : OutWay W) → WayFlushes contents v m → WayFlushes contents m w → WayFlushes contents v w
  flushes_later (out.Own xs) (out.Own ys) (out.Own zs) a b = tt
  flushes_later (out.Own xs) (out.Own ys) (out.Stream w) a b = absurd b
  flushes_later (out.Own xs) (out.Stream m) w a b = absurd a
  flushes_later (out.Stream v) (out.Own ys) w a b = absurd a
  flushes_later (out.Stream v) (out.Stream m) (out.Own zs) a b = absurd b
  flushes_later (out.Stream v) (out.Stream m) (out.Stream w) a b = record {
    taken = a.taken ++ b.taken;
    all = a.all ∙ ap (λ (bs : List ℕ). a.taken ++ bs) b.all ∙ sym (append_assoc a.taken b.taken (unsent w));
    holds = Appends-trans (contents v.stream) (contents m.stream) (contents w.stream) a.taken b.taken a.holds b.holds;
  }

module _ {R : Type 0} where
  pub way_stays : (v : InWay R) → WayStays v v
  way_stays (into.Own xs) = tt
  way_stays (into.Stream v) = refl

  pub stays_later : (v m w : InWay R) → WayStays v m → WayStays m w → WayStays v w
  stays_later (into.Own xs) (into.Own ys) (into.Own zs) a b = tt
  stays_later (into.Own xs) (into.Own ys) (into.Stream w) a b = absurd b
  stays_later (into.Own xs) (into.Stream m) w a b = absurd a
  stays_later (into.Stream v) (into.Own ys) w a b = absurd a
  stays_later (into.Stream v) (into.Stream m) (into.Own zs) a b = absurd b
  stays_later (into.Stream v) (into.Stream m) (into.Stream w) a b = b ∙ a

module _ {R : Type 0} (remaining : R → Option (List ℕ)) where
  -- before anything comes
  pub none_came : (v : Reader R) → Comes remaining v (unused v) v
  none_came v = record { came = []; all = sym (append-nil (unused v)); left = Consumes-nil (remaining v.stream) }

  -- the decoder found less than a frame, and is as it was
  pub comes_from : (v m w : Reader R) (bytes : List ℕ) → unused m ≡ unused v → m.stream ≡ v.stream → Comes remaining m bytes w → Comes remaining v bytes w
  comes_from v m w bytes same stream c = record {
    came = c.came;
    all = c.all ∙ ap (λ (bs : List ℕ). bs ++ c.came) same;
    left = subst (λ (s : R). Consumes (remaining s) (remaining w.stream) c.came) stream c.left;
  }

  -- bytes came, and then a frame was taken of those that are fed
  pub frame_after : (v m w : Reader R) (f : Frame) → Comes remaining v (unused m) m → w.stream ≡ m.stream → w.piece ≡ m.piece → front_of m.decoder ≡ Whole (frame_at f) w.decoder → FrameComes remaining v f w
  frame_after v m w f comes same piece front = record {
    bytes = unused m;
    comes = record { came = comes.came; all = comes.all; left = subst (λ (s : R). Consumes (remaining v.stream) (remaining s) comes.came) (sym same) comes.left };
    front = front_behind m.decoder m.piece front ∙ ap (λ (p : List ℕ). Whole (frame_at f) (w.decoder ++ p)) (sym piece);
  }

-- what is said of the frame that is answered, or where none is
pub of_some : (A : Frame → Type 0) (o : Option Frame) (f : Frame) → o ≡ Some f → IfSome o A → A f
of_some A None f is h = absurd (cc is)
of_some A (Some g) f is h = let same : g ≡ f = cc is in subst A same h

pub of_none : (A : Type 0) (o : Option Frame) → o ≡ None → IfNone o A → A
of_none A None is h = h
of_none A (Some g) is h = absurd (cc is)

pub if_frame : {E : Type 0} (A B : Frame → Type 0) (r : Result (Option Frame) E) → ((f : Frame) → A f → B f) → IfOk r (λ o. IfSome o A) → IfOk r (λ o. IfSome o B)
if_frame A B (Ok None) h a = tt
if_frame A B (Ok (Some f)) h a = h f a
if_frame A B (Err e) h a = tt

-- what is said where a fault is answered
pub if_fault : {X : Type 0} (A B : Type 0) (r : Result X PopRefusal) → (A → B) → IfErr r (λ e. e ≡ Fault → A) → IfErr r (λ e. e ≡ Fault → B)
if_fault A B (Ok x) h a = tt
if_fault A B (Err e) h a = λ is. h (a is)
