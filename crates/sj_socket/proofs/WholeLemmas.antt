-- What bytes begin with stays there, a frame or no frame, whatever comes after them.
use Rattle.std.proofs.Common.{◌≡◌, ℕ, ◌≤◌, Bool, true, false, cond, ltb, List, ◌++◌, length, take, drop, slice_index, Option, Some, None, refl, sym, ap, subst, ◌∙◌, arith}
use Rattle.std.proofs.lemmas.Bool.{ltb-false, le-ltb}
use Rattle.std.proofs.lemmas.List.{drop-append-le, take-append-le, length-append}
use Rattle.byteorder.specs.Endian.{big_number}
use Rattle.byteorder.specs.Numbers.{big_from-append}
use Rattle.sj_rules.specs.Frames.{FrameAt}
use Rattle.sj_table.specs.declared.table.Spot.{Spot}
use Rattle.sj_wire.specs.declared.refusal.WireRefusal.{WireRefusal}
use Rattle.sj_wire.specs.Kinds.{kind_in}
use Rattle.sj_wire.specs.Front.{Front, Cut, Refused, Whole, of_fields, of_kind, whole_of, sized_of, front_of}
use Rattle.sj_wire.specs.Reading.{frame_at}
use Rattle.sj_wire.specs.Stream.{IsOver}
use Rattle.sj_socket.specs.Ins.{IsNoFrame}

-- the same with more bytes after the frame
abbrev and_more : List ℕ → Front → Front
and_more more Cut = Cut
and_more more (Refused w) = Refused w
and_more more (Whole f r) = Whole f (r ++ more)

not_cut : {b : Bool} {x y : Front} → (Cut ≡ y → ⊥) → cond b Cut x ≡ y → (b ≡ false) × (x ≡ y)
not_cut {b = true} there e = absurd (there e)
not_cut {b = false} there e = (refl, e)

fields_more : (o : Option (FrameAt Spot)) (r more : List ℕ) → of_fields o (r ++ more) ≡ and_more more (of_fields o r)
fields_more None r more = refl
fields_more (Some f) r more = refl

by_option : {K : Type 0} (h : Option K → List ℕ → Front) (r more : List ℕ) → h None (r ++ more) ≡ and_more more (h None r) → ((k : K) → h (Some k) (r ++ more) ≡ and_more more (h (Some k) r)) →
    (o : Option K) → h o (r ++ more) ≡ and_more more (h o r)
by_option h r more none some None = none
by_option h r more none some (Some k) = some k

kind_more : (version code : ℕ) (bytes r more : List ℕ) → of_kind (kind_in version code) bytes (r ++ more) ≡ and_more more (of_kind (kind_in version code) bytes r)
kind_more version code bytes r more = by_option (λ o s. of_kind o bytes s) r more refl (λ k. fields_more (frame_at k bytes) r more) (kind_in version code)

tested_more : (b : Bool) (w : WireRefusal) (x y : Front) (more : List ℕ) → y ≡ and_more more x → cond b y (Refused w) ≡ and_more more (cond b x (Refused w))
tested_more true w x y more is = is
tested_more false w x y more is = refl

whole_more : (bytes r more : List ℕ) → whole_of bytes (r ++ more) ≡ and_more more (whole_of bytes r)
unfolding whole_of
whole_more bytes r more = tested_more _ _ _ _ more (kind_more (slice_index bytes 0) (slice_index bytes 1) (drop 2 bytes) r more)

long_later : (size : ℕ) (bytes more : List ℕ) {y : Front} → (Cut ≡ y → ⊥) → cond (ltb (length bytes) size) Cut (whole_of (take size bytes) (drop size bytes)) ≡ y →
    cond (ltb (length (bytes ++ more)) size) Cut (whole_of (take size (bytes ++ more)) (drop size (bytes ++ more))) ≡ and_more more y
long_later size bytes more there e =
    let u = not_cut {b = ltb (length bytes) size} there e in
    let long : size ≤ length bytes = ltb-false _ _ u.0 in
    rw (le-ltb (length (bytes ++ more)) size (omega (arith, long, length-append bytes more)), take-append-le size bytes more long, drop-append-le size bytes more long)
    (whole_more (take size bytes) (drop size bytes) more ∙ ap (and_more more) u.1)

refused_or : (b : Bool) (w : WireRefusal) (x z : Front) (more : List ℕ) {y : Front} → (x ≡ y → z ≡ and_more more y) → cond b (Refused w) x ≡ y → cond b (Refused w) z ≡ and_more more y
refused_or true w x z more h e = ap (and_more more) e
refused_or false w x z more h e = h e

sized_later : (size : ℕ) (bytes more : List ℕ) {y : Front} → (Cut ≡ y → ⊥) → sized_of size bytes ≡ y → sized_of size (bytes ++ more) ≡ and_more more y
unfolding sized_of
sized_later size bytes more there e = refused_or _ _ _ _ more (long_later size bytes more there) e

-- what stands at the start stays there, if it isn't less than a frame
front_later : (bytes more : List ℕ) {y : Front} → (Cut ≡ y → ⊥) → front_of bytes ≡ y → front_of (bytes ++ more) ≡ and_more more y
unfolding front_of
front_later bytes more there e =
    let t = not_cut {b = ltb (length bytes) 4} there e in
    let long : 4 ≤ length bytes = ltb-false _ _ t.0 in
    rw (le-ltb (length (bytes ++ more)) 4 (omega (arith, long, length-append bytes more)), big_from-append 4 bytes more long, drop-append-le 4 bytes more long)
    (sized_later (big_number 4 bytes) (drop 4 bytes) more there t.1)

pub front_behind : (bytes more : List ℕ) {f : FrameAt Spot} {r : List ℕ} → front_of bytes ≡ Whole f r → front_of (bytes ++ more) ≡ Whole f (r ++ more)
front_behind bytes more e = front_later bytes more (λ c. absurd (cc c)) e

-- bytes that are no frame are none with more after them
pub over_later : (bytes more : List ℕ) → IsNoFrame (front_of bytes) → IsOver (front_of (bytes ++ more))
over_later bytes more none = by (front_of bytes) refl none
  where
    by : (y : Front) → front_of bytes ≡ y → IsNoFrame y → IsOver (front_of (bytes ++ more))
    by Cut e h = absurd h
    by (Refused w) e h = subst IsOver (sym (front_later bytes more (λ c. absurd (cc c)) e)) tt
    by (Whole f r) e h = absurd h

-- and before more came no frame stood there
pub over_before : (bytes more : List ℕ) → IsNoFrame (front_of (bytes ++ more)) → IsOver (front_of bytes)
over_before bytes more none = by (front_of bytes) refl
  where
    by : (y : Front) → front_of bytes ≡ y → IsOver y
    by Cut e = tt
    by (Refused w) e = tt
    by (Whole f r) e = absurd (subst IsNoFrame (front_behind bytes more e) none)
