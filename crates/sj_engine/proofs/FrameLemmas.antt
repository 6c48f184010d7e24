-- Bytes that end where a frame ends, and one more frame after them.
use Rattle.std.proofs.Common.{◌≡◌, ℕ, zero, suc, ◌+◌, ◌<◌, ◌≤◌, List, [], ◌∷◌, ◌++◌, length, take, drop, refl, sym, ap, subst, ◌∙◌, append_assoc, append-nil, arith}
use Rattle.std.specs.List.{flat_map}
use Rattle.std.proofs.Math.Seq.{take-add}
use Rattle.std.proofs.lemmas.Grind.{flat_map-append}
use Rattle.std.proofs.lemmas.List.{take_at, drop_at, length-append, length-drop, length-take-le, drop-drop}
use Rattle.byteorder.specs.Endian.{big_number}
use Rattle.byteorder.specs.Numbers.{big_number-reads_back}
use Rattle.sj_rules.specs.Frames.{FrameAt}
use Rattle.sj_rules.specs.Record.{BodyAt, Carry, Fin, Claim, Signal, Ack, Give, Open}
use Rattle.sj_rules.specs.Mapped.{frame_with}
use Rattle.sj_table.specs.declared.table.Spot.{Spot}
use Rattle.sj_wire.specs.Front.{Front, Cut, Refused, Whole, front_of}
use Rattle.sj_wire.specs.Lawful.{IsSpelt}
use Rattle.sj_wire.specs.Spelling.{number, counts, body, inside, framed, spelling}
use Rattle.sj_wire.specs.Stream.{IsBytes}
use Rattle.sj_wire.proofs.NumberLemmas.{length-number}
use Rattle.sj_wire.proofs.LengthLemmas.{length-inside}
use Rattle.sj_wire.proofs.FrameReadLemmas.{front_again}
use Rattle.sj_wire.proofs.FrameTakesLemmas.{front_takes}
use Rattle.sj_wire.proofs.StreamLemmas.{whole_stays}
use Rattle.sj_engine.specs.Frames.{first_and, rest_behind, frames_of, rest_of, frames_in, rest_in, IsFront, UsesOne}

-- the place of an end isn't spelt
body_spelt : {P R : Type 0} (g : P → R) (b : BodyAt P) (clock : ℕ) → spelling (frame_with g (record { clock = clock; body = b })) ≡ spelling {P = P} (record { clock = clock; body = b })
unfolding spelling framed inside body counts
body_spelt g (Carry to conn n taken msg) clock = refl
body_spelt g (Fin to conn n) clock = refl
body_spelt g (Claim of) clock = refl
body_spelt g (Signal to conn party taken) clock = refl
body_spelt g (Ack of conn) clock = refl
body_spelt g (Give e r) clock = refl
body_spelt g (Open sess) clock = refl

pub spelling_with : {P R : Type 0} (g : P → R) (f : FrameAt P) → spelling (frame_with g f) ≡ spelling f
spelling_with g f = body_spelt g f.body f.clock

-- the length that a spelling begins with
length_read : (f : FrameAt Spot) (rest : List ℕ) → IsSpelt f → (4 + big_number 4 (spelling f ++ rest) ≡ length (spelling f))
unfolding spelling framed number
length_read f rest is =
    let size = length (inside f) in
    let l = length-inside f is.short in
    let parts : spelling f ++ rest ≡ number 4 size ++ (inside f ++ rest) = append_assoc (number 4 size) (inside f) rest in
    let read : big_number 4 (spelling f ++ rest) ≡ size = ap (big_number 4) parts ∙ big_number-reads_back 4 size (inside f ++ rest) (omega (arith, l.1)) in
    let count : length (spelling f) ≡ 4 + size = length-append (number 4 size) (inside f) ∙ ap (λ k. k + size) (length-number 4 size) in
    omega (arith, read, count)

-- the frame at the front, and how many bytes it takes
pub is_front : (bytes : List ℕ) (f : FrameAt Spot) (rest : List ℕ) → IsBytes bytes → front_of bytes ≡ Whole f rest → IsFront bytes (4 + big_number 4 bytes) f rest
is_front bytes f rest fits is =
    let t = front_takes fits is in
    let read : 4 + big_number 4 bytes ≡ length (spelling f) = ap (λ (b : List ℕ). 4 + big_number 4 b) t.0 ∙ length_read f rest t.1.spelt in
    let all : length bytes ≡ length (spelling f) + length rest = ap length t.0 ∙ length-append (spelling f) rest in
    record {
      some = omega arith;
      within = omega (arith, read, all);
      behind = sym (ap (drop (4 + big_number 4 bytes)) t.0 ∙ drop_at (spelling f) rest (4 + big_number 4 bytes) (sym read));
      parts = t.0;
      count = sym read;
      alone = ap front_of (sym (append-nil (spelling f))) ∙ front_again f [] t.1.spelt ∙ ap (λ (g : FrameAt Spot). Whole g []) t.1.same;
    }

-- less than four bytes have no frame
pub short_front : (bytes : List ℕ) (f : FrameAt Spot) (rest : List ℕ) → length bytes < 4 → IsBytes bytes → front_of bytes ≡ Whole f rest → IsFront bytes 0 f rest
short_front bytes f rest short fits is =
    let w = is_front bytes f rest fits is in
    let e = w.within in
    absurd (omega (arith, e, short))

IsBytes-behind : (xs ys : List ℕ) → IsBytes (xs ++ ys) → IsBytes ys
IsBytes-behind [] ys fits = fits
IsBytes-behind (x ∷ xs) ys fits = IsBytes-behind xs ys (λ i. fits (suc i))

-- no bytes have no frames
none_of : (k : ℕ) → (frames_of k [] ≡ []) × (rest_of k [] ≡ [])
unfolding frames_of rest_of front_of
none_of zero = (refl, refl)
none_of (suc k) = (refl, refl)

module _ (piece : List ℕ) (f : FrameAt Spot) (one : front_of piece ≡ Whole f []) where
  -- so many frames of the bytes and then of the piece
  record Both (n k : ℕ) (x : List ℕ) : Type 0 where
    frames : frames_of k (x ++ piece) ≡ frames_of n x ++ f ∷ []
    rest : rest_of k (x ++ piece) ≡ []

  record Step (n k : ℕ) (x : List ℕ) (front : Front) : Type 0 where
    frames : first_and (frames_of k) (front_of (x ++ piece)) ≡ first_and (frames_of n) front ++ f ∷ []
    rest : rest_behind (rest_of k) (x ++ piece) (front_of (x ++ piece)) ≡ []

  -- the piece alone
  last : (n k : ℕ) (x : List ℕ) → x ≡ [] → (first_and (frames_of k) (front_of (x ++ piece)) ≡ f ∷ []) × (rest_behind (rest_of k) (x ++ piece) (front_of (x ++ piece)) ≡ [])
  last n k x none =
      let o : front_of (x ++ piece) ≡ Whole f [] = ap (λ (b : List ℕ). front_of (b ++ piece)) none ∙ one in
      (ap (first_and (frames_of k)) o ∙ ap (λ (l : List (FrameAt Spot)). f ∷ l) (none_of k).0, ap (rest_behind (rest_of k) (x ++ piece)) o ∙ (none_of k).1)

  step : (n k : ℕ) → ((y : List ℕ) → IsBytes y → rest_of n y ≡ [] → Both n k y) → (x : List ℕ) (front : Front) → front_of x ≡ front → IsBytes x → rest_behind (rest_of n) x front ≡ [] → Step n k x front
  step n k others x Cut is fits none = let l = last n k x none in record { frames = l.0; rest = l.1 }
  step n k others x (Refused e) is fits none = let l = last n k x none in record { frames = l.0; rest = l.1 }
  step n k others x (Whole g r) is fits none =
      let t = front_takes fits is in
      let o : front_of (x ++ piece) ≡ Whole g (r ++ piece) = whole_stays x piece fits is in
      let b = others r (IsBytes-behind (spelling g) r (subst (λ (y : List ℕ). IsBytes y) t.0 fits)) none in
      record {
        frames = ap (first_and (frames_of k)) o ∙ ap (λ (l : List (FrameAt Spot)). g ∷ l) b.frames;
        rest = ap (rest_behind (rest_of k) (x ++ piece)) o ∙ b.rest;
      }

  both : (n k : ℕ) → n < k → (x : List ℕ) → IsBytes x → rest_of n x ≡ [] → Both n k x
  unfolding frames_of rest_of
  both n zero lt x fits none = absurd (omega (arith, lt))
  both zero (suc k) lt x fits none = let l = last zero k x none in record { frames = l.0; rest = l.1 }
  both (suc n) (suc k) lt x fits none =
      let s = step n k (both n k (omega (arith, lt))) x (front_of x) refl fits none in
      record { frames = s.frames; rest = s.rest }

-- one more frame is used up
pub uses_one : (bytes : List ℕ) (used size : ℕ) (f : FrameAt Spot) (rest : List ℕ) → IsBytes (take used bytes) → used ≤ length bytes → rest_in (take used bytes) ≡ [] → take used bytes ≡ flat_map spelling (frames_in (take used bytes))
    → IsFront (drop used bytes) size f rest → UsesOne bytes used size f rest
uses_one bytes used size f rest fits within whole spelt front =
    let old = take used bytes in
    let p = front.within in
    let d : length (drop used bytes) + used ≡ length bytes = let l = length-drop used bytes in omega (arith, l, within) in
    let piece : take size (drop used bytes) ≡ spelling f = ap (take size) front.parts ∙ take_at (spelling f) rest size front.count in
    let now : take (used + size) bytes ≡ old ++ spelling f = take-add used size bytes ∙ ap (λ (t : List ℕ). old ++ t) piece in
    let more : length old < length (take (used + size) bytes) =
    let a = length-take-le used bytes within in
    let b = length-take-le (used + size) bytes (omega (arith, p, d)) in
    let c = front.some in
    omega (arith, a, b, c) in
    let b = both (spelling f) f front.alone (length old) (length (take (used + size) bytes)) more old fits whole in
    let frames : frames_in (take (used + size) bytes) ≡ frames_in old ++ f ∷ [] = ap (frames_of (length (take (used + size) bytes))) now ∙ b.frames in
    record {
      within = omega (arith, p, d);
      left = front.behind ∙ drop-drop size used bytes;
      whole = ap (rest_of (length (take (used + size) bytes))) now ∙ b.rest;
      spelt = now ∙ ap (λ (t : List ℕ). t ++ spelling f) spelt ∙ ap (λ (t : List ℕ). flat_map spelling (frames_in old) ++ t) (sym (append-nil (spelling f))) ∙ sym (flat_map-append spelling (frames_in old) (f ∷ [])) ∙ ap (flat_map spelling) (sym frames);
      frames = frames;
    }

pub none_in : (frames_in [] ≡ []) × (rest_in [] ≡ []) × (◌≡◌ {A = List ℕ} [] (flat_map spelling (frames_in [])))
none_in = ((none_of 0).0, (none_of 0).1, ap (flat_map spelling) (sym (none_of 0).0))
